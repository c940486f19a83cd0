-- A tick that goes leaves the sleepers, as the plain scheduler's lies no more.
use Rattle.std.proofs.Common.{◌≡◌, ℕ, ◌+◌, ◌-◌, ◌≤◌, nat_lt, not, if◌then◌else◌, Bool, true, false, [], ◌∷◌, ◌++◌, length, map, find}
use Rattle.std.proofs.Common.{Option, Some, None, is_some, append-nil, refl, sym, ap, subst, ◌∙◌}
use Rattle.executor_parts.specs.Sleepers.{Sleepers, flag_of, waker_of}
use Rattle.solo.specs.declared.names.SoloWaker.{SoloWaker}
use Rattle.solo.specs.declared.owed.Lent.{Lent}
use Rattle.solo.specs.declared.solo.Solo.{Solo}
use Rattle.solo.specs.declared.ticks.Dropped.{Dropped}
use Rattle.solo.specs.declared.ticks.Ticker.TheVariants.{Awake, Asleep}
use Rattle.solo.specs.Cells.{choose}
use Rattle.solo.specs.Ticks as ticks
use Rattle.solo.specs.Turns as turns
use Rattle.plain_scheduler.specs.State.{Answer, Who, ATick, Answers, Done, Made, NoMemory, Lying, Choice, Plain}
use Rattle.plain_scheduler.specs.Lists.{any, on, or, without}
use Rattle.plain_scheduler.specs.Moves.{answers, is_called, is_who, leaves, let_go, lies, tell, up}
use Rattle.plain_scheduler.specs.Calls.{is_granted}
use Rattle.solo_laws.specs.Numbered.{IsNumbered}
use Rattle.solo_laws.specs.Road.{HasLife, wakes}
use Rattle.solo_laws.specs.Shown.{rings}
use Rattle.solo_laws.specs.Tabled.{Stands, named}
use Rattle.solo_laws.specs.Ticking.{HasLeft, IsMade, TicksBegin, TicksLeave}
use Rattle.solo_laws.proofs.Following.Bases as bases
use Rattle.solo_laws.proofs.Following.Frames.{tell_still}
use Rattle.solo_laws.proofs.Following.GettingUp as rising
use Rattle.solo_laws.proofs.Following.GettingUp.{numbered_still, sleeps, sleeps_tabled}
use Rattle.solo_laws.proofs.Following.Lines.{younger}
use Rattle.solo_laws.proofs.Following.Losing.{sees}
use Rattle.solo_laws.proofs.Following.Numbers.{found_none, not_found}
use Rattle.solo_laws.proofs.Following.Rising as up_again
use Rattle.solo_laws.proofs.Following.Tabling.{tabled}
use Rattle.solo_laws.proofs.Following.Telling.{told}
use Rattle.solo_laws.proofs.Showing.Telling.{step, told_shows}

module _ {F T X : Type 0} (its : ℕ → Lent) (number : Who → ℕ) (s : Solo F T X) (p : Plain T (SoloWaker X)) (both : Stands its s p)
    (n : IsNumbered number s.sleepers p.lying) where
  -- with so many rooms
  abbrev roomed : ℕ → Solo F T X
  roomed k = record s { sleepers = record s.sleepers { rooms = k } }

  pub roomed_stands : (k : ℕ) → Stands its (roomed k) p
  roomed_stands k =
      let a = both.0.asleep in (
        sleeps None (named its) s p both.0 (record s.sleepers { rooms = k }) s.notified p.lying
            (record { wakers = a.wakers; count = a.count; flag = a.flag; callers = a.callers }),
        sleeps_tabled its s p (record s.sleepers { rooms = k }) s.notified p.lying both.1,
      )

  pub roomed_numbered : (k : ℕ) → IsNumbered number (roomed k).sleepers p.lying
  roomed_numbered k = record { wakers = n.wakers; once = n.once; few = n.few }

module _ {F T X : Type 0} (its : ℕ → Lent) (number : Who → ℕ) (s : Solo F T X) (p : Plain T (SoloWaker X)) (both : Stands its s p)
    (n : IsNumbered number s.sleepers p.lying) (c : Choice) (who : Who) (answer : Answer T) (many : length p.lying ≤ c.tells)
    (life : HasLife 5 s.lines) where
  abbrev with_rooms : ℕ → Solo F T X
  with_rooms k = roomed its number s p both n k

  with_stands : (k : ℕ) → Stands its (with_rooms k) p
  with_stands k = roomed_stands its number s p both n k

  with_numbered : (k : ℕ) → IsNumbered number (with_rooms k).sleepers p.lying
  with_numbered k = roomed_numbered its number s p both n k

  finish : (dropped : Dropped X) (z : Solo F T X) (q : Plain T (SoloWaker X)) → Stands its z q → IsNumbered number z.sleepers q.lying
      → any (is_who who) (map (λ (l : Lying (SoloWaker X)). l.who) q.lying) ≡ false
      → q.events ≡ p.events ++ rings dropped.told.sleeper → HasLeft its number s p who answer dropped z (answers answer q)
  finish dropped z q stands numbered gone seen = record {
    stands = sees its c z q answer stands;
    numbered = numbered;
    gone = not_found who q.lying gone;
    seen = step p.events (rings dropped.told.sleeper) (Answers answer ∷ []) seen refl;
  }

  abbrev silent : Dropped X
  silent = record { old = None; told = turns.silent }

  -- one that didn't lie
  awake_left : find (lies who) p.lying ≡ None
      → HasLeft its number s p who answer (ticks.leave_answer (Awake ticks.its_room) s) (ticks.left (Awake ticks.its_room) s)
      (answers answer p)
  awake_left none = by (nat_lt s.sleepers.count s.sleepers.rooms)
    where
      by : (b : Bool) → HasLeft its number s p who answer silent
          (record s { sleepers = choose b (record s.sleepers { rooms = s.sleepers.rooms - 1 }) s.sleepers }) (answers answer p)
      by true =
          finish silent (with_rooms (s.sleepers.rooms - 1)) p (with_stands (s.sleepers.rooms - 1)) (with_numbered (s.sleepers.rooms - 1))
          (found_none who p.lying none) (sym (append-nil p.events))
      by false = finish silent s p both n (found_none who p.lying none) (sym (append-nil p.events))

  module _ (l : Lying (SoloWaker X)) (is : find (lies who) p.lying ≡ Some l) where
    abbrev up_p : Plain T (SoloWaker X)
    up_p = record p { lying = without (lies who) p.lying }

    abbrev up_s : ℕ → Solo F T X
    up_s k = up_again.up_s its number c None (with_rooms k) p (with_stands k).0 (with_numbered k) many life who l is

    abbrev left_p : Option (SoloWaker X) → Plain T (SoloWaker X)
    left_p o = let q = on o (let_go wakes (tell wakes c)) up_p in if not (is_some o) then tell wakes c q else q

    -- with these rooms, and this waker
    left_so : (k : ℕ) (o : Option (SoloWaker X)) → l.waker ≡ o
        → HasLeft its number s p who answer (ticks.leave_answer_by o (up_s k)) (ticks.left_by o (up_s k)) (answers answer (left_p o))
    left_so k None has =
        let r = up_again.same_up its number c None (with_rooms k) p (with_stands k).0 (with_numbered k) many life who l is in
        let z = turns.told (up_s k) in
        let q = tell wakes c up_p in
        let follows = told None (named its) c (up_s k) up_p r.few r.follows (younger 1 s.lines r.life) in
        let base = bases.told_base (up_s k) (up_s k) (bases.same (up_s k)) in
        let still = tell_still c up_p in
        finish (ticks.leave_answer_by None (up_s k)) z q
        (follows, tabled its c (up_s k) z up_p q base still (r.tabled (with_stands k).1))
        (numbered_still c (named its) number (up_s k) z up_p q None r.numbered base.5 still r.few follows)
        (ap (any (is_who who)) still.whos ∙ r.gone)
        (told_shows None (named its) c (up_s k) up_p r.few r.follows)
    left_so k (Some w) has =
        let r = up_again.risen_by its number c None (with_rooms k) p (with_stands k).0 (with_numbered k) many life who l is (Some w) has in
        finish (ticks.drop_waker_answer (Some w) (up_s k)) (ticks.waker_dropped (Some w) (up_s k)) (let_go wakes (tell wakes c) w up_p)
        (r.follows, r.tabled (with_stands k).1) r.numbered r.gone r.seen

    abbrev sleepers : Sleepers (SoloWaker X)
    sleepers = rising.sleepers None (named its) number s p both.0 n who l is

    abbrev given : Bool → Solo F T X
    given b = record s { sleepers = choose b (record sleepers { rooms = s.sleepers.rooms - 1 }) sleepers; notified = flag_of sleepers }

    given_left : (b : Bool)
        → HasLeft its number s p who answer (ticks.leave_answer_by l.waker (given b)) (ticks.left_by l.waker (given b))
        (answers answer (left_p l.waker))
    given_left true = left_so (s.sleepers.rooms - 1) l.waker refl
    given_left false = left_so s.sleepers.rooms l.waker refl

    leaves_is : leaves wakes c who p ≡ left_p l.waker
    leaves_is =
        ap (λ o. on o (λ l p. if is_called l then tell wakes c (up wakes c who p) else up wakes c who p) p) is
        ∙ ap (λ q. if is_called l then tell wakes c q else q)
        (ap (λ o. on o (λ l p. on l.waker (let_go wakes (tell wakes c)) (record p { lying = without (lies who) p.lying })) p) is)

    asleep_left : HasLeft its number s p who answer (ticks.leave_answer (Asleep (record { number = number who })) s)
        (ticks.left (Asleep (record { number = number who })) s) (answers answer (leaves wakes c who p))
    asleep_left =
        subst
        (λ q. HasLeft its number s p who answer (ticks.leave_answer (Asleep (record { number = number who })) s)
        (ticks.left (Asleep (record { number = number who })) s) (answers answer q))
        (sym leaves_is)
        (subst
        (λ u. HasLeft its number s p who answer
        (ticks.leave_answer_by (waker_of (number who) s.sleepers.wakers) (record s { sleepers = ticks.given_back u; notified = flag_of u }))
        (ticks.left_by (waker_of (number who) s.sleepers.wakers) (record s { sleepers = ticks.given_back u; notified = flag_of u }))
        (answers answer (left_p l.waker)))
        (sym (rising.woken_is None (named its) number s p both.0 n who l is))
        (subst
        (λ o. HasLeft its number s p who answer
        (ticks.leave_answer_by o (record s { sleepers = ticks.given_back sleepers; notified = flag_of sleepers }))
        (ticks.left_by o (record s { sleepers = ticks.given_back sleepers; notified = flag_of sleepers }))
        (answers answer (left_p l.waker)))
        (sym (rising.waker_is None (named its) number s p both.0 n who l is))
        (given_left (nat_lt sleepers.count sleepers.rooms))))

  pub leaves_so : HasLeft its number s p who answer
      (ticks.leave_answer (or (find (lies who) p.lying) (λ l. Asleep (record { number = number who })) (Awake ticks.its_room)) s)
      (ticks.left (or (find (lies who) p.lying) (λ l. Asleep (record { number = number who })) (Awake ticks.its_room)) s)
      (answers answer (leaves wakes c who p))
  leaves_so = by (find (lies who) p.lying) refl
    where
      by : (o : Option (Lying (SoloWaker X))) → find (lies who) p.lying ≡ o
          → HasLeft its number s p who answer
          (ticks.leave_answer (or o (λ l. Asleep (record { number = number who })) (Awake ticks.its_room)) s)
          (ticks.left (or o (λ l. Asleep (record { number = number who })) (Awake ticks.its_room)) s)
          (answers answer (leaves wakes c who p))
      by None none =
          subst
          (λ q. HasLeft its number s p who answer (ticks.leave_answer (Awake ticks.its_room) s) (ticks.left (Awake ticks.its_room) s)
          (answers answer q))
          (sym (ap (λ o. on o (λ l p. if is_called l then tell wakes c (up wakes c who p) else up wakes c who p) p) none))
          (awake_left none)
      by (Some l) is = asleep_left l is

module _ {F T X : Type 0} (its : ℕ → Lent) (number : Who → ℕ) (s : Solo F T X) (p : Plain T (SoloWaker X)) (both : Stands its s p)
    (n : IsNumbered number s.sleepers p.lying) where
  pub ticks_leave : TicksLeave its number s p
  ticks_leave c t many life = leaves_so its number s p both n c (ATick t) Done many life

  pub ticks_begin : TicksBegin its number s p
  ticks_begin c granted =
      let k = s.sleepers.rooms + 1 in
      subst
      (λ r. IsMade its number s p (ticks.roomy s) (if is_granted r then answers Made p else answers NoMemory p))
      (sym granted)
      (record {
        stands = sees its c (ticks.roomy s) p Made (roomed_stands its number s p both n k);
        numbered = roomed_numbered its number s p both n k;
        seen = refl;
      })
