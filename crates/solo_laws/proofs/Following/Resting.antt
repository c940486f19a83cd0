-- A tick that finds nothing lies down, as the plain scheduler's does.
use Rattle.std.proofs.Common.{◌≡◌, ℕ, ◌+◌, ◌≤◌, ◌==◌, ◌&&◌, nat_lt, Bool, true, false, List, [], ◌∷◌, ◌++◌, length, map}
use Rattle.std.proofs.Common.{find}
use Rattle.std.proofs.Common.{Option, Some, None, slice_get, refl, sym, ap, subst, ◌∙◌, arith}
use Rattle.std.proofs.lemmas.Bool.Decides.{nat_tests}
use Rattle.executor_parts.specs.declared.mark.Mark.{Mark}
use Rattle.executor_parts.specs.declared.mark.Mark.TheVariants.{Plain as PlainMark, Urgent}
use Rattle.executor_parts.specs.Marks.{other}
use Rattle.executor_parts.specs.Sleepers.{Sleepers, flag_of, listed, position_of, put_to_sleep, waker_of}
use Rattle.task_moves.specs.AbstractTask as abstract
use Rattle.solo.specs.declared.names.Task.{Task}
use Rattle.solo.specs.declared.names.SoloWaker.{SoloWaker}
use Rattle.solo.specs.declared.names.SoloWaker.TheVariants.{Task as OfTask, Outside}
use Rattle.solo.specs.declared.owed.Lent.{Lent}
use Rattle.solo.specs.declared.solo.Solo.{Solo}
use Rattle.solo.specs.declared.ticks.Ticked.{Ticked}
use Rattle.solo.specs.declared.ticks.Look.TheVariants.{Again, Nothing}
use Rattle.solo.specs.declared.ticks.Ticker.{Ticker}
use Rattle.solo.specs.declared.ticks.Ticker.TheVariants.{Awake, Asleep}
use Rattle.solo.specs.Cells.{choose}
use Rattle.solo.specs.Lines.{LinesValue, first_of, found_by, is_empty, mark_of_turn, popped_from, search_answer}
use Rattle.solo.specs.Lines.{turned as next_turn}
use Rattle.solo.specs.Solo as solo
use Rattle.solo.specs.Ticks as ticks
use Rattle.plain_scheduler.specs.State.{Due, Who, Lying, Choice, Plain}
use Rattle.plain_scheduler.specs.Lists.{any, without}
use Rattle.plain_scheduler.specs.Moves.{copied, is_who, let_go, lies, task, tell}
use Rattle.solo_laws.specs.Alike.{copies, lets_go}
use Rattle.solo_laws.specs.Numbered.{IsNumbered}
use Rattle.solo_laws.specs.Road.{Follows, HasLife, IsNamed, due_task_if, first_if, wakers_in, wakes}
use Rattle.solo_laws.specs.Shown.{rings, rings_without}
use Rattle.solo_laws.specs.Sleeping.{queued_in}
use Rattle.solo_laws.specs.Tabled.{IsTable, Stands, named}
use Rattle.solo_laws.proofs.Lines.{searched_empty}
use Rattle.solo_laws.proofs.Following.Again.{copy_goes, nothing_more}
use Rattle.solo_laws.proofs.Following.Bases as bases
use Rattle.solo_laws.proofs.Following.Calling.{Named, copies_it, lets_go_alike}
use Rattle.solo_laws.proofs.Following.Frames.{Still, still, copied_still, let_go_still, tell_still}
use Rattle.solo_laws.proofs.Following.GettingUp as rising
use Rattle.solo_laws.proofs.Following.GettingUp.{numbered_still, sleeps, sleeps_tabled, wakers_append}
use Rattle.solo_laws.proofs.Following.Rising.{get_at}
use Rattle.solo_laws.proofs.Following.Lists.{length_map}
use Rattle.solo_laws.proofs.Following.LyingDown as lying
use Rattle.solo_laws.proofs.Following.LyingDown.{IsLain, lain, awake_last, lain_found}
use Rattle.solo_laws.proofs.Following.Numbers.{Split, awake, found_none}
use Rattle.solo_laws.proofs.Following.Tabling.{tabled}
use Rattle.solo_laws.proofs.Following.Taking.{searched_alike}
use Rattle.solo_laws.proofs.Following.Trying as trying
use Rattle.solo_laws.proofs.Following.Using.{put_lying}
use Rattle.solo_laws.proofs.Showing.Calling.{lets_go_show}
use Rattle.solo_laws.proofs.Showing.Polling.{copied_events}

-- with no task queued none is found
none_in : (urgent plain : ℕ) → urgent + plain ≡ 0 → ((urgent == 0) && (plain == 0)) ≡ true
none_in urgent plain is = grind (arith, nat_tests)

module _ {B : Type 0} where
  no_first : (xs : List B) (n : ℕ) → length xs + n ≡ 0 → slice_get xs 0 ≡ None
  no_first [] n is = refl
  no_first (x ∷ xs) n is = absurd (omega (arith, is))

  no_other : (xs : List B) (n : ℕ) → n + length xs ≡ 0 → slice_get xs 0 ≡ None
  no_other [] n is = refl
  no_other (x ∷ xs) n is = absurd (omega (arith, is))

none_found : (l : LinesValue) → queued_in l ≡ 0 → (search_answer l).task ≡ None
none_found l none = by (mark_of_turn l.turn)
  where
    by_first : (m : Mark) (k : LinesValue) → first_of m k ≡ None → first_of (other m) (popped_from m k) ≡ None
        → (found_by (first_of m k) m (popped_from m k)).task ≡ None
    by_first m k mine others = ap (λ o. (found_by o m (popped_from m k)).task) mine ∙ others

    by : (m : Mark) → (found_by (first_of m (next_turn l)) m (popped_from m (next_turn l))).task ≡ None
    by Urgent =
        by_first Urgent (next_turn l) (no_first l.urgent.items (length l.plain.items) none)
        (no_other l.plain.items (length l.urgent.items) none)
    by PlainMark =
        by_first PlainMark (next_turn l) (no_other l.plain.items (length l.urgent.items) none)
        (no_first l.urgent.items (length l.plain.items) none)

module _ {T X : Type 0} where
  pub copied_lying : (w : SoloWaker X) (p : Plain T (SoloWaker X)) → (copied wakes w p).lying ≡ p.lying
  copied_lying (OfTask t) p = put_lying t.number (abstract.copy (task t.number p)) p
  copied_lying (Outside w) p = refl

module _ {F T X : Type 0} where
  pub copies_lines : (w : SoloWaker X) (s : Solo F T X) → (copies w s).lines ≡ s.lines
  copies_lines (OfTask t) s = refl
  copies_lines (Outside w) s = refl

  pub copies_sleepers : (w : SoloWaker X) (s : Solo F T X) → (copies w s).sleepers ≡ s.sleepers
  copies_sleepers (OfTask t) s = refl
  copies_sleepers (Outside w) s = refl

  -- a waker goes alike, whether a sleeper's or another
  dropped_is : (o : Option (SoloWaker X)) (s : Solo F T X) → ticks.waker_dropped o s ≡ lets_go o s
  dropped_is None s = refl
  dropped_is (Some (Outside w)) s = refl
  dropped_is (Some (OfTask t)) s = refl

  rings_dropped : (o : Option (SoloWaker X)) (s : Solo F T X)
      → rings {T = T} (ticks.drop_waker_answer o s).told.sleeper ≡ rings_without o s
  rings_dropped None s = refl
  rings_dropped (Some (Outside w)) s = refl
  rings_dropped (Some (OfTask t)) s = refl

abbrev pub slept_under : ℕ → Ticker
slept_under number = Asleep (record { number = number })

module _ {F T X : Type 0} (its : ℕ → Lent) (c : Choice) (who : Who) (w : SoloWaker X) where
  -- both stand so, with a number for each that lies, and no task is queued
  pub record Standing (number : Who → ℕ) (s : Solo F T X) (p : Plain T (SoloWaker X)) : Type 0 where
    pub follows : Follows (named its) s p
    pub tabled : IsTable its s p
    pub numbered : IsNumbered number s.sleepers p.lying
    pub none : queued_in s.lines ≡ 0

  module _ (number : Who → ℕ) (s : Solo F T X) (p : Plain T (SoloWaker X)) (so : Standing number s p)
      (names : (u : Task) → w ≡ OfTask u → IsNamed (named its) (length p.futures) u × (solo.may_hold u s ≡ true))
      (many : length p.lying ≤ c.tells) (life : HasLife 2 s.lines) where
    -- with a copy of the waker
    abbrev y : Solo F T X
    y = copies w s

    abbrev q : Plain T (SoloWaker X)
    q = copied wakes w p

    still_q : Still c p q
    still_q = copied_still c w p

    few : length q.lying ≤ c.tells
    few = subst (λ k. k ≤ c.tells) (sym still_q.lying) many

    pub named_q : (u : Task) → w ≡ OfTask u → IsNamed (named its) (length q.futures) u
    named_q u is = subst (λ k. IsNamed (named its) k u) (sym still_q.futures) (names u is).0

    pub y_follows : Follows (named its) y q
    y_follows = copies_it (named its) c s p so.follows w (λ u is. ((names u is).0, sym (names u is).1))

    pub y_tabled : IsTable its y q
    y_tabled = tabled its c s y p q (bases.copies_base s w s (bases.same s)) still_q so.tabled

    pub y_numbered : IsNumbered number y.sleepers q.lying
    y_numbered =
        subst (λ sl. IsNumbered number sl q.lying) (sym (copies_sleepers w s))
        (subst (λ ls. IsNumbered number s.sleepers ls) (sym (copied_lying w p)) so.numbered)

    y_none : queued_in y.lines ≡ 0
    y_none = ap queued_in (copies_lines w s) ∙ so.none

    empty : is_empty y.lines ≡ true
    empty = none_in (length y.lines.urgent.items) (length y.lines.plain.items) y_none

    slept_is : (ticker : Ticker) → ticks.slept ticker w y ≡ ticks.fallen_asleep ticker w y
    slept_is ticker = ap (λ b. choose b (ticks.fallen_asleep ticker w y) y) empty

    slept_answers : (ticker : Ticker) → ticks.slept_answer ticker w y ≡ ticks.sleep_answer ticker w y
    slept_answers ticker = ap (λ b. choose b (ticks.sleep_answer ticker w y) (ticks.look_answer ticker Again None (Some w) y)) empty

    -- others sleep, as others lie
    lies_so : (new : Who → ℕ) (sleepers : Sleepers (SoloWaker X)) (notified : Bool) (ls : List (Lying (SoloWaker X)))
        → IsLain (named its) new (length q.futures) sleepers notified ls
        → Standing new (record y { sleepers = sleepers; notified = notified }) (record q { lying = ls })
    lies_so new sleepers notified ls is = record {
      follows = sleeps None (named its) y q y_follows sleepers notified ls is.asleep;
      tabled = sleeps_tabled its y q sleepers notified ls y_tabled;
      numbered = is.numbered;
      none = y_none;
    }

    -- one that lay with a waker lies with this one in its place, which goes
    module _ (l : Lying (SoloWaker X)) (is : find (lies who) q.lying ≡ Some l) (old : SoloWaker X) (has : l.waker ≡ Some old) where
      abbrev pub laid : Plain T (SoloWaker X)
      laid = record q { lying = map (awake who w) q.lying }

      abbrev others : Sleepers (SoloWaker X)
      others = lying.others None (named its) number y q y_follows y_numbered who w named_q l is old has

      abbrev pub replaced : Solo F T X
      replaced = record y { sleepers = others; notified = y.notified }

      pub laid_so : Standing number replaced laid
      laid_so =
          lies_so number others y.notified (map (awake who w) q.lying)
          (lying.replaced None (named its) number y q y_follows y_numbered who w named_q l is old has)

      few_laid : length laid.lying ≤ c.tells
      few_laid = subst (λ k. k ≤ c.tells) (sym (length_map (awake who w) q.lying)) few

      old_named : Named (named its) (length laid.futures) (Some old)
      old_named u same =
          let at : Split number who q.lying l = rising.its_split None (named its) number y q y_follows y_numbered who l is in
          y_follows.asleep.callers (length (wakers_in at.before)) u
          (ap (λ ws. slice_get ws (length (wakers_in at.before)))
          (ap (λ ls. wakers_in ls) at.all
          ∙ (wakers_append at.before (l ∷ at.after)
          ∙ ap (λ o. wakers_in at.before ++ first_if o (wakers_in at.after)) (has ∙ same)))
          ∙ get_at (wakers_in at.before) (wakers_in at.after) (OfTask u))

      waker_old : waker_of (number who) y.sleepers.wakers ≡ Some old
      waker_old = rising.waker_is None (named its) number y q y_follows y_numbered who l is ∙ has

      placed : position_of (number who) y.sleepers.wakers
          ≡ Some (lying.at None (named its) number y q y_follows y_numbered who w named_q l is old has).at
      placed = lying.placed None (named its) number y q y_follows y_numbered who w named_q l is old has

      pub now_is : ticks.slept (slept_under (number who)) w y ≡ lets_go (Some old) replaced
      now_is =
          slept_is (slept_under (number who))
          ∙ (ap (λ o. ticks.lain_again o (number who) w y) placed
          ∙ (ap (λ o. ticks.waker_dropped o replaced) waker_old ∙ dropped_is (Some old) replaced))

      pub answer_is : ticks.slept_answer (slept_under (number who)) w y
          ≡ ticks.look_answer (slept_under (number who)) Nothing (Some old) None replaced
      answer_is =
          slept_answers (slept_under (number who))
          ∙ (ap (λ o. ticks.sleep_again_answer o (record { number = number who }) w y) placed
          ∙ ap (λ o. ticks.look_answer (slept_under (number who)) Nothing o None replaced) waker_old)

      abbrev pub gone : Plain T (SoloWaker X)
      gone = let_go wakes (tell wakes c) old laid

      pub lives : HasLife 2 replaced.lines
      lives = subst (λ l. HasLife 2 l) (sym (copies_lines w s)) life

      pub still_gone : Still c laid gone
      still_gone = let_go_still c (tell wakes c) (tell_still c) old laid

      goes : Follows (named its) (lets_go (Some old) replaced) gone
      goes = lets_go_alike (named its) c replaced laid laid_so.follows few_laid lives (Some old) old_named

      base : bases.Base replaced (lets_go (Some old) replaced)
      base = bases.lets_go_base replaced (Some old) replaced (bases.same replaced)

      pub stands : Stands its (lets_go (Some old) replaced) gone
      stands = (goes, tabled its c replaced (lets_go (Some old) replaced) laid gone base still_gone laid_so.tabled)

      pub numbers : IsNumbered number (lets_go (Some old) replaced).sleepers gone.lying
      numbers =
          numbered_still c (named its) number replaced (lets_go (Some old) replaced) laid gone None laid_so.numbered base.5 still_gone
          few_laid goes

      pub seen : gone.events
          ≡ p.events ++ rings (ticks.look_answer {F = F} (slept_under (number who)) Nothing (Some old) None replaced).sleeper
      seen =
          lets_go_show (named its) c replaced laid laid_so.follows few_laid lives (Some old) old_named
          ∙ (ap (λ es. es ++ rings_without (Some old) replaced) (copied_events w p)
          ∙ ap (λ es. p.events ++ es) (sym (rings_dropped {T = T} (Some old) replaced)))

    -- one that didn't lie
    module _ (none : find (lies who) q.lying ≡ None) (room : nat_lt s.sleepers.count s.sleepers.rooms ≡ true) where
      pub no_who : any (is_who who) (map (λ (l : Lying (SoloWaker X)). l.who) q.lying) ≡ false
      no_who = found_none who q.lying none

      abbrev pub new : Who → ℕ
      new = lying.new None (named its) number y q y_follows y_numbered who w named_q no_who

      abbrev pub asleep : Sleepers (SoloWaker X)
      asleep = put_to_sleep w y.sleepers

      abbrev pub lain_now : Plain T (SoloWaker X)
      lain_now = record q { lying = q.lying ++ lain who w ∷ [] }

      room_y : nat_lt y.sleepers.count y.sleepers.rooms ≡ true
      room_y = ap (λ (sl : Sleepers (SoloWaker X)). nat_lt sl.count sl.rooms) (copies_sleepers w s) ∙ room

      pub anew_is : ticks.slept (Awake ticks.its_room) w y ≡ ticks.stored asleep y
      anew_is = slept_is (Awake ticks.its_room) ∙ ap (λ b. ticks.lain_anew b w y) room_y

      pub anew_answer : ticks.slept_answer (Awake ticks.its_room) w y ≡ ticks.look_answer (ticks.new_sleeper y) Again None None y
      anew_answer = slept_answers (Awake ticks.its_room) ∙ ap (λ b. ticks.sleep_anew_answer b w y) room_y

      pub anew_so : Standing new (ticks.stored asleep y) lain_now
      anew_so =
          lies_so new asleep (flag_of asleep) (q.lying ++ lain who w ∷ [])
          (lying.anew None (named its) number y q y_follows y_numbered who w named_q no_who)

      pub its_number : ticks.new_sleeper y ≡ slept_under (new who)
      its_number =
          ap slept_under (sym (lying.new_is None (named its) number y q y_follows y_numbered who w named_q no_who))

    -- one that was called
    module _ (l : Lying (SoloWaker X)) (is : find (lies who) q.lying ≡ Some l) (called : l.waker ≡ None) where
      abbrev pub more : Sleepers (SoloWaker X)
      more = listed (number who) w y.sleepers

      abbrev pub lain_later : Plain T (SoloWaker X)
      lain_later = record q { lying = without (lies who) q.lying ++ lain who w ∷ [] }

      unplaced : position_of (number who) y.sleepers.wakers ≡ None
      unplaced = lying.not_placed None (named its) number y q y_follows y_numbered who w named_q l is called

      short : ticks.is_short y ≡ true
      short = lying.is_short None (named its) number y q y_follows y_numbered who w named_q l is called

      pub later_is : ticks.slept (slept_under (number who)) w y ≡ ticks.stored more y
      later_is =
          slept_is (slept_under (number who))
          ∙ (ap (λ o. ticks.lain_again o (number who) w y) unplaced ∙ ap (λ b. choose b (ticks.stored more y) y) short)

      pub later_answer : ticks.slept_answer (slept_under (number who)) w y
          ≡ ticks.look_answer (slept_under (number who)) Again None None y
      later_answer =
          slept_answers (slept_under (number who))
          ∙ (ap (λ o. ticks.sleep_again_answer o (record { number = number who }) w y) unplaced
          ∙ ap (λ b. choose b (ticks.look_answer (slept_under (number who)) Again None None y)
          (ticks.look_answer (slept_under (number who)) Nothing None (Some w) y)) short)

      pub later_so : Standing number (ticks.stored more y) lain_later
      later_so =
          lies_so number more (flag_of more) (without (lies who) q.lying ++ lain who w ∷ [])
          (lying.again_lain None (named its) number y q y_follows y_numbered who w named_q l is called)

      pub others_gone : any (is_who who) (map (λ (l : Lying (SoloWaker X)). l.who) (without (lies who) q.lying)) ≡ false
      others_gone = rising.up_now None (named its) number y q y_follows y_numbered who l is

  -- a search that finds nothing leaves both so
  pub popped_so : (number : Who → ℕ) (s : Solo F T X) (p : Plain T (SoloWaker X)) → Standing number s p → Standing number (solo.popped s) p
  popped_so number s p so =
      let found = none_found s.lines so.none in
      let d : Choice = record c { first = mark_of_turn s.lines.turn } in
      let nothing = trying.nothing (named its) d s p refl so.follows
      (not_due (sym (searched_alike (named its) s.lines p.due so.follows.queued.lines).0 ∙ found)) in
      record {
        follows = nothing.1;
        tabled = tabled its c s (solo.popped s) p p (bases.same s) (still c p) so.tabled;
        numbered = so.numbered;
        none = searched_empty s.lines found;
      }
    where
      not_due : {o : Option Due} → due_task_if (named its) o ≡ None → o ≡ None
      not_due {o} is = by o is
        where
          by : (o : Option Due) → due_task_if (named its) o ≡ None → o ≡ None
          by None is = refl
          by (Some d) is = absurd cc

  -- one that lies with this waker lies with it still, once it has looked again
  module _ (number : Who → ℕ) (s : Solo F T X) (p : Plain T (SoloWaker X)) (ls : List (Lying (SoloWaker X)))
      (so : Standing number s (record p { lying = ls ++ lain who w ∷ [] }))
      (gone_who : any (is_who who) (map (λ (l : Lying (SoloWaker X)). l.who) ls) ≡ false)
      (names : (u : Task) → w ≡ OfTask u → IsNamed (named its) (length p.futures) u × (solo.may_hold u s ≡ true))
      (many : length (ls ++ lain who w ∷ []) ≤ c.tells) (life : HasLife 2 s.lines) where
    abbrev lies_now : Plain T (SoloWaker X)
    lies_now = record p { lying = ls ++ lain who w ∷ [] }

    abbrev z : Solo F T X
    z = solo.popped s

    z_so : Standing number z lies_now
    z_so = popped_so number s lies_now so

    lives_z : HasLife 2 z.lines
    lives_z = trying.lives (named its) (record c { first = mark_of_turn s.lines.turn }) s lies_now refl so.follows 2 life

    there : find (lies who) (copied wakes w lies_now).lying ≡ Some (lain who w)
    there = ap (find (lies who)) (copied_lying w lies_now) ∙ lain_found who w ls gone_who

    laid_same : record (copied wakes w lies_now) { lying = map (awake who w) (copied wakes w lies_now).lying } ≡ copied wakes w lies_now
    laid_same =
        ap (λ ls. record (copied wakes w lies_now) { lying = ls })
        (ap (map (awake who w)) (copied_lying w lies_now)
        ∙ (awake_last who w ls gone_who ∙ sym (copied_lying w lies_now)))

    same : let_go wakes (tell wakes c) w (record (copied wakes w lies_now) { lying = map (awake who w) (copied wakes w lies_now).lying })
        ≡ lies_now
    same =
        ap (let_go wakes (tell wakes c) w) laid_same
        ∙ copy_goes (named its) c z lies_now z_so.follows w (λ u is. (names u is).0)

    pub record Twice : Type 0 where
      pub stands : Stands its (ticks.slept (slept_under (number who)) w (copies w z)) lies_now
      pub numbered : IsNumbered number (ticks.slept (slept_under (number who)) w (copies w z)).sleepers lies_now.lying
      pub ticker : (ticks.slept_answer (slept_under (number who)) w (copies w z)).ticker ≡ slept_under (number who)
      pub quiet : rings {T = T} (ticks.slept_answer (slept_under (number who)) w (copies w z)).sleeper ≡ []

    pub twice : Twice
    twice =
        let is = now_is number z lies_now z_so names many lives_z (lain who w) there w refl in
        let answer = answer_is number z lies_now z_so names many lives_z (lain who w) there w refl in
        record {
          stands =
              subst (λ y. Stands its y lies_now) (sym is)
              (subst (λ (q : Plain T (SoloWaker X)).
              Stands its (lets_go (Some w) (replaced number z lies_now z_so names many lives_z (lain who w) there w refl)) q) same
              (stands number z lies_now z_so names many lives_z (lain who w) there w refl));
          numbered =
              subst (λ (y : Solo F T X). IsNumbered number y.sleepers lies_now.lying) (sym is)
              (subst (λ (q : Plain T (SoloWaker X)).
              IsNumbered number (lets_go (Some w) (replaced number z lies_now z_so names many lives_z (lain who w) there w refl)).sleepers
              q.lying) same
              (numbers number z lies_now z_so names many lives_z (lain who w) there w refl));
          ticker = ap (λ (out : Ticked F X). out.ticker) answer;
          quiet =
              ap (λ (out : Ticked F X). rings {T = T} out.sleeper) answer
              ∙ nothing_more p.events
              (rings (ticks.look_answer {F = F} (slept_under (number who)) Nothing (Some w) None
              (replaced number z lies_now z_so names many lives_z (lain who w) there w refl)).sleeper)
              (sym (ap (λ (q : Plain T (SoloWaker X)). q.events) same)
              ∙ seen number z lies_now z_so names many lives_z (lain who w) there w refl);
        }
