-- Who polls gets up, if it lay: both let its waker go, and who is told by that is shown.
use Rattle.std.proofs.Common.{◌≡◌, ℕ, ◌≤◌, true, false, List, [], ◌∷◌, ◌++◌, length, map, find, Option, Some, None, slice_get}
use Rattle.std.proofs.Common.{append-nil, refl, sym}
use Rattle.std.proofs.Common.{ap, subst, ◌∙◌, arith}
use Rattle.executor_parts.specs.Sleepers.{Sleepers, flag_of}
use Rattle.solo.specs.declared.names.Task.{Task}
use Rattle.solo.specs.declared.names.SoloWaker.{SoloWaker}
use Rattle.solo.specs.declared.names.SoloWaker.TheVariants.{Task as OfTask, Outside}
use Rattle.solo.specs.declared.owed.Lent.{Lent}
use Rattle.solo.specs.declared.solo.Solo.{Solo}
use Rattle.solo.specs.declared.ticks.Dropped.{Dropped}
use Rattle.solo.specs.declared.ticks.Ticker.TheVariants.{Awake, Asleep}
use Rattle.solo.specs.Ticks as ticks
use Rattle.solo.specs.Turns as turns
use Rattle.plain_scheduler.specs.State.{Due, Who, Lying, Choice, Plain}
use Rattle.plain_scheduler.specs.Lists.{any, on, or, without}
use Rattle.plain_scheduler.specs.Moves.{is_who, let_go, lies, release, tell, up}
use Rattle.solo_laws.specs.Numbered.{IsNumbered, entries, ticker_of}
use Rattle.solo_laws.specs.Road.{FollowsBut, HasLife, IsNamed, first_if, wakers_in, wakes}
use Rattle.solo_laws.specs.Shown.{rings}
use Rattle.solo_laws.specs.Tabled.{IsTable, named}
use Rattle.solo_laws.proofs.Ticks.{dropped_unless}
use Rattle.solo_laws.proofs.Following.Bases as bases
use Rattle.solo_laws.proofs.Following.Frames.{Still, still, let_go_still, tell_still}
use Rattle.solo_laws.proofs.Following.Lives.{three_fewer, released_lives}
use Rattle.solo_laws.proofs.Following.Numbers.{Split, short, found_none, without_none}
use Rattle.solo_laws.proofs.Following.GettingUp as rising
use Rattle.solo_laws.proofs.Following.GettingUp.{wakers_append, numbered_still, sleeps_tabled}
use Rattle.solo_laws.proofs.Following.Tabling.{tabled}
use Rattle.solo_laws.proofs.Following.Waking.{released}
use Rattle.solo_laws.proofs.Showing.Telling.{released_shows}

pub get_at : {B : Type 0} (xs ys : List B) (x : B) → slice_get (xs ++ x ∷ ys) (length xs) ≡ Some x
get_at [] ys x = refl
get_at (z ∷ zs) ys x = get_at zs ys x

module _ {F T X : Type 0} (its : ℕ → Lent) (number : Who → ℕ) (c : Choice) (aside : Option Due) where
  -- both go on from there
  pub record Risen (s : Solo F T X) (p : Plain T (SoloWaker X)) (who : Who) (z : Solo F T X) (q : Plain T (SoloWaker X))
      (dropped : Dropped X) : Type 0 where
    pub follows : FollowsBut aside (named its) z q
    pub numbered : IsNumbered number z.sleepers q.lying
    pub few : length q.lying ≤ c.tells
    pub life : HasLife 2 z.lines
    pub seen : q.events ≡ p.events ++ rings dropped.told.sleeper
    pub tabled : IsTable its s p → IsTable its z q
    pub told : (w : X) → dropped.told.sleeper ≡ Some w → z.notified ≡ true
    pub gone : any (is_who who) (map (λ (l : Lying (SoloWaker X)). l.who) q.lying) ≡ false
    -- before the waker went
    pub still : Still c (record p { lying = without (lies who) p.lying }) q

  module _ (s : Solo F T X) (p : Plain T (SoloWaker X)) (r : FollowsBut aside (named its) s p) (n : IsNumbered number s.sleepers p.lying)
      (many : length p.lying ≤ c.tells) (life : HasLife 5 s.lines) (who : Who) where
    module _ (l : Lying (SoloWaker X)) (is : find (lies who) p.lying ≡ Some l) where
      abbrev sleepers : Sleepers (SoloWaker X)
      sleepers = rising.sleepers aside (named its) number s p r n who l is

      abbrev pub up_s : Solo F T X
      up_s = ticks.stored sleepers s

      abbrev pub up_p : Plain T (SoloWaker X)
      up_p = record p { lying = without (lies who) p.lying }

      follows : FollowsBut aside (named its) up_s up_p
      follows = rising.stands_up aside (named its) number s p r n who l is

      numbered : IsNumbered number sleepers (without (lies who) p.lying)
      numbered = rising.numbered_so aside (named its) number s p r n who l is

      up_now : any (is_who who) (map (λ (l : Lying (SoloWaker X)). l.who) up_p.lying) ≡ false
      up_now = rising.up_now aside (named its) number s p r n who l is

      fewer : length up_p.lying ≤ c.tells
      fewer = let it = rising.long aside (named its) number s p r n who l is in omega (arith, it, many)

      its_named : (t : Task) → l.waker ≡ Some (OfTask t) → IsNamed (named its) (length p.futures) t
      its_named t has =
          let at : Split number who p.lying l = rising.its_split aside (named its) number s p r n who l is in
          r.asleep.callers (length (wakers_in at.before)) t
          (ap (λ ws. slice_get ws (length (wakers_in at.before)))
          (ap (λ ls. wakers_in ls) at.all
          ∙ (wakers_append at.before (l ∷ at.after)
          ∙ ap (λ o. wakers_in at.before ++ first_if o (wakers_in at.after)) has))
          ∙ get_at (wakers_in at.before) (wakers_in at.after) (OfTask t))

      pub same_up : Risen s p who up_s up_p (record { old = None; told = turns.silent })
      same_up = record {
        follows = follows;
        numbered = numbered;
        few = fewer;
        life = three_fewer 2 s.lines life;
        seen = sym (append-nil p.events);
        tabled = λ t. sleeps_tabled its s p sleepers (flag_of sleepers) (without (lies who) p.lying) t;
        told = λ w has. absurd cc;
        gone = up_now;
        still = still c up_p;
      }

      pub risen_by : (o : Option (SoloWaker X)) → l.waker ≡ o
          → Risen s p who (ticks.waker_dropped o up_s) (on o (let_go wakes (tell wakes c)) up_p) (ticks.drop_waker_answer o up_s)
      risen_by None has = same_up
      risen_by (Some (Outside w)) has = record {
        follows = same_up.follows;
        numbered = same_up.numbered;
        few = same_up.few;
        life = same_up.life;
        seen = same_up.seen;
        tabled = same_up.tabled;
        told = λ w has. absurd cc;
        gone = same_up.gone;
        still = same_up.still;
      }
      risen_by (Some (OfTask t)) has =
          let it = its_named t has in
          let z = turns.let_go t up_s in
          let q = release wakes (tell wakes c) t.number up_p in
          let fewer_lives : HasLife 2 s.lines = three_fewer 2 s.lines life in
          let base = bases.released_base up_s t up_s (bases.same up_s) in
          let stays : Still c up_p q = let_go_still c (tell wakes c) (tell_still c) (OfTask t) up_p in
          let goes : FollowsBut aside (named its) z q =
          subst (λ u. FollowsBut aside (named its) (turns.let_go u up_s) q) it.1
          (released aside (named its) c t.number up_s up_p it.0 follows fewer fewer_lives) in
          record {
            follows = goes;
            numbered = numbered_still c (named its) number up_s z up_p q aside numbered base.5 stays fewer goes;
            few = subst (λ k. k ≤ c.tells) (sym stays.lying) fewer;
            life = released_lives 2 t up_s life;
            seen =
                subst (λ u. q.events ≡ p.events ++ rings (turns.let_go_answer u up_s).sleeper) it.1
                (released_shows aside (named its) c t.number up_s up_p it.0 follows fewer fewer_lives);
            tabled = λ t.
                tabled its c up_s z up_p q base stays (sleeps_tabled its s p sleepers (flag_of sleepers) (without (lies who) p.lying) t);
            told = λ w says.
                subst (λ o. (ticks.told_unless o z).notified ≡ true) says
                (dropped_unless (Some (OfTask t)) up_s (
                  subst (λ k. length (entries number (without (lies who) p.lying)) ≤ k)
                      (sym (rising.count_is aside (named its) number s p r n who l is))
                      (short number (without (lies who) p.lying)),
                  refl,
                )).1;
            gone = ap (any (is_who who)) stays.whos ∙ up_now;
            still = stays;
          }

      risen_one : Risen s p who (ticks.woke_up (Asleep (record { number = number who })) s)
          (on l.waker (let_go wakes (tell wakes c)) up_p) (ticks.wake_up_answer (Asleep (record { number = number who })) s)
      risen_one =
          subst
          (λ u. Risen s p who
          (ticks.waker_dropped (ticks.kept_by (Asleep (record { number = number who })) s) (ticks.stored u s))
          (on l.waker (let_go wakes (tell wakes c)) up_p)
          (ticks.drop_waker_answer (ticks.kept_by (Asleep (record { number = number who })) s) (ticks.stored u s)))
          (sym (rising.woken_is aside (named its) number s p r n who l is))
          (subst
          (λ o. Risen s p who (ticks.waker_dropped o up_s) (on l.waker (let_go wakes (tell wakes c)) up_p)
          (ticks.drop_waker_answer o up_s))
          (sym (rising.waker_is aside (named its) number s p r n who l is))
          (risen_by l.waker refl))

    -- one that doesn't lie stays up
    stays_up : find (lies who) p.lying ≡ None → without (lies who) p.lying ≡ p.lying
        → Risen s p who s p (record { old = None; told = turns.silent })
    stays_up none same = record {
      follows = r;
      numbered = n;
      few = many;
      life = three_fewer 2 s.lines life;
      seen = sym (append-nil p.events);
      tabled = λ t. t;
      told = λ w has. absurd cc;
      gone = found_none who p.lying none;
      still = subst (λ ls. Still c (record p { lying = ls }) p) (sym same) (still c p);
    }

    pub risen : Risen s p who (ticks.woke_up (ticker_of number who p.lying) s) (up wakes c who p)
        (ticks.wake_up_answer (ticker_of number who p.lying) s)
    risen = by (find (lies who) p.lying) refl
      where
        by : (o : Option (Lying (SoloWaker X))) → find (lies who) p.lying ≡ o
            → Risen s p who
            (ticks.woke_up (or o (λ l. Asleep (record { number = number who })) (Awake ticks.its_room)) s)
            (on o (λ l p. on l.waker (let_go wakes (tell wakes c)) (record p { lying = without (lies who) p.lying })) p)
            (ticks.wake_up_answer (or o (λ l. Asleep (record { number = number who })) (Awake ticks.its_room)) s)
        by None none = stays_up none (without_none who p.lying none)
        by (Some l) is = risen_one l is
