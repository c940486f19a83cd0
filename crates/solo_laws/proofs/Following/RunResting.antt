-- A run that finds nothing lies down: no future is due, and what it has searched is as it was.
use Rattle.std.proofs.Common.{◌≡◌, ℕ, suc, ◌%◌, ◌<◌, ◌==◌, cond, not, ◌&&◌, nat_lt, Bool, true, false, List, [], ◌∷◌, length, map, filter}
use Rattle.std.proofs.Common.{mod-lt, find, Option, Some, None, is_some, slice_get, refl, sym, ap, subst, ◌∙◌, arith}
use Rattle.std.proofs.lemmas.Bool.Decides.{nat_tests}
use Rattle.executor_parts.specs.Marks.{same_mark}
use Rattle.executor_parts.specs.Sleepers.{listed as listed_anew, next_number, position_of}
use Rattle.executor_parts.specs.declared.mark.Mark.{Mark}
use Rattle.executor_parts.specs.declared.mark.Mark.TheVariants.{Plain as PlainMark, Urgent}
use Rattle.solo.specs.declared.names.Task.{Task}
use Rattle.solo.specs.declared.names.SoloWaker.{SoloWaker}
use Rattle.solo.specs.declared.names.SoloWaker.TheVariants.{Task as OfTask, Outside}
use Rattle.solo.specs.declared.owed.Lent.{Lent}
use Rattle.solo.specs.declared.own_queues.Own.{Own}
use Rattle.solo.specs.declared.solo.Solo.{Solo}
use Rattle.solo.specs.declared.ticks.Look.TheVariants.{Again}
use Rattle.solo.specs.declared.ticks.Ticked.{Ticked}
use Rattle.solo.specs.declared.ticks.Ticker.{Ticker}
use Rattle.solo.specs.declared.ticks.Ticker.TheVariants.{Awake, Asleep}
use Rattle.solo.specs.Cells.{choose}
use Rattle.solo.specs.Lines.{LinesValue, found_by, found_from, is_empty, mark_of_turn, popped_from, search_answer, turned}
use Rattle.solo.specs.OwnQueues as own
use Rattle.solo.specs.Solo as solo
use Rattle.solo.specs.Steals as steals
use Rattle.solo.specs.Ticks as ticks
use Rattle.plain_scheduler.specs.State.{ARun, Choice, Due, Granted, Plain, Run, Who}
use Rattle.plain_scheduler.specs.Lists.{or, without}
use Rattle.plain_scheduler.specs.Moves.{chosen, is_common, is_kept, is_run, lies, looks}
use Rattle.plain_scheduler.specs.Takes as takes
use Rattle.plain_scheduler.specs.Calls as calls
use Rattle.solo_laws.specs.Alike.{copies}
use Rattle.solo_laws.specs.Numbered.{IsNumbered}
use Rattle.solo_laws.specs.Road.{Follows, awaiters, drops, due_task, lents, wakes}
use Rattle.solo_laws.specs.RunResting.{EachListed, RunsRest, run_rest_answer, run_rested, sleep_answer, slept_from}
use Rattle.solo_laws.specs.Sleeping.{queued_in}
use Rattle.solo_laws.specs.Tabled.{Stands, goes_on, named, own_of}
use Rattle.solo_laws.specs.Ticking.{IsAtRest, looks_again, numbered_by, rest_answer, rested, slept_answer, slept_once}
use Rattle.solo_laws.proofs.Lines.{searched_empty}
use Rattle.solo_laws.proofs.Following.Bases as bases
use Rattle.solo_laws.proofs.Following.Cells.{same_number}
use Rattle.solo_laws.proofs.Following.Due.{equal}
use Rattle.solo_laws.proofs.Following.Frames.{still}
use Rattle.solo_laws.proofs.Following.InVain.{IsDry, all_dry, all_visited, at_place, in_vain, popped_same}
use Rattle.solo_laws.proofs.Following.Lines.{any_none}
use Rattle.solo_laws.proofs.Following.OwnEmpty.{none_kept}
use Rattle.solo_laws.proofs.Following.Owns.{first_queue}
use Rattle.solo_laws.proofs.Following.Resting.{Standing, copies_lines, slept_under}
use Rattle.solo_laws.proofs.Following.RunPolling.{same_hands}
use Rattle.solo_laws.proofs.Following.Tabling.{tabled}
use Rattle.solo_laws.proofs.Following.TickResting.{lies_down}
use Rattle.solo_laws.proofs.Following.Trying as trying

-- where the own queue of a run is
holder : (k : ℕ) (qs : List Own) (ts : List Task) → own.queue_of k qs ≡ Some ts
    → (at : ℕ) × (o : Own) × (slice_get qs at ≡ Some o) × (o.number ≡ k) × (o.queue ≡ ts)
holder k [] ts is = absurd cc
holder k (q ∷ qs) ts is = by (q.number == k) refl (sym (first_queue k q qs) ∙ is) (holder k qs ts)
  where
    tasks : Option (List Task) → List Task
    tasks o = or o (λ ts. ts) ts

    by : (b : Bool) → (q.number == k) ≡ b → cond b (Some q.queue) (own.queue_of k qs) ≡ Some ts
        → (own.queue_of k qs ≡ Some ts
        → (at : ℕ) × (o : Own) × (slice_get qs at ≡ Some o) × (o.number ≡ k) × (o.queue ≡ ts))
        → (at : ℕ) × (o : Own) × (slice_get (q ∷ qs) at ≡ Some o) × (o.number ≡ k) × (o.queue ≡ ts)
    by true here is rest = (0, q, refl, same_number q.number k here, ap tasks is)
    by false away is rest = let it = rest is in (suc it.0, it.1, it.2, it.3, it.4)

-- a search of empty queues finds none
nothing_queued : (l : LinesValue) → queued_in l ≡ 0 → (search_answer l).task ≡ None
nothing_queued l none = by (mark_of_turn l.turn)
  where
    empty : (ts : List Task) → length ts ≡ 0 → ts ≡ []
    empty [] is = refl
    empty (t ∷ ts) is = absurd (omega (arith, is))

    urgent : l.urgent.items ≡ []
    urgent = empty l.urgent.items (omega (arith, none))

    plain : l.plain.items ≡ []
    plain = empty l.plain.items (omega (arith, none))

    by : (m : Mark) → (found_from m (turned l)).task ≡ None
    by PlainMark =
        ap (λ o. (found_by o PlainMark (popped_from PlainMark (turned l))).task) (ap (λ (ts : List Task). slice_get ts 0) plain)
        ∙ ap (λ (ts : List Task). slice_get ts 0) urgent
    by Urgent =
        ap (λ o. (found_by o Urgent (popped_from Urgent (turned l))).task) (ap (λ (ts : List Task). slice_get ts 0) urgent)
        ∙ ap (λ (ts : List Task). slice_get ts 0) plain

module _ {F T X : Type 0} where
  -- a search that finds nothing
  pub searched_dry : (r start : ℕ) (s : Solo F T X) → ((k : ℕ) → IsDry k s) → solo.sought s ≡ None
      → steals.sought r start s ≡ solo.popped s
  searched_dry r start s dry none =
      ap (λ o. steals.sought_by o r start (steals.own_popped r s)) (dry r)
      ∙ (ap (λ s. steals.sought_further r start s) (popped_same r s (dry r))
      ∙ (ap (λ o. steals.further_by o (search_answer s.lines).mark r start (solo.popped s)) none
      ∙ ap (λ (it : Option Task × Solo F T X). it.1)
      (all_dry r s.runs.listed s.runs.listed (start % s.runs.listed) (solo.popped s) dry)))

  abbrev Quiet : Solo F T X → Solo F T X → Type 0
  Quiet y z = (z.lines ≡ y.lines) × (z.runs ≡ y.runs)

  -- who looks again changed no queue
  quiet : (ticker : Ticker) (w : SoloWaker X) (y : Solo F T X) → looks_again (ticks.slept_answer ticker w y).look ≡ true
      → Quiet y (ticks.slept ticker w y)
  quiet (Awake room) w y again = by (is_empty y.lines) (nat_lt y.sleepers.count y.sleepers.rooms)
    where
      by : (b c : Bool) → Quiet y (choose b (ticks.lain_anew c w y) y)
      by true true = (refl, refl)
      by true false = (refl, refl)
      by false c = (refl, refl)
  quiet (Asleep sleeper) w y again =
      by (is_empty y.lines) (position_of sleeper.number y.sleepers.wakers) (ticks.is_short y) again
    where
      by : (b : Bool) (at : Option ℕ) (c : Bool)
          → looks_again (choose b (ticks.sleep_again_answer at sleeper w y)
          (ticks.look_answer (Asleep sleeper) Again None (Some w) y)).look ≡ true
          → Quiet y (choose b (ticks.lain_again at sleeper.number w y) y)
      by false at c again = (refl, refl)
      by true (Some at) c again = absurd cc
      by true None c again = short (ticks.is_short y)
        where
          short : (c : Bool) → Quiet y (choose c (ticks.stored (listed_anew sleeper.number w y.sleepers) y) y)
          short true = (refl, refl)
          short false = (refl, refl)

  copies_runs : (w : SoloWaker X) (s : Solo F T X) → (copies w s).runs ≡ s.runs
  copies_runs (OfTask t) s = refl
  copies_runs (Outside x) s = refl

module _ {F T X : Type 0} (its : ℕ → Lent) (number : Who → ℕ) (s : Solo F T X) (p : Plain T (SoloWaker X)) (both : Stands its s p)
    (n : IsNumbered number s.sleepers p.lying) (c : Choice) (r : ℕ) (w : SoloWaker X) (start later : ℕ) (going : goes_on r p ≡ true)
    (listed : EachListed s.runs) (missed : (steals.seek_answer r start s).task ≡ None) (turn : c.first ≡ mark_of_turn s.lines.turn) where
  -- neither its own queue has any, nor the executor's, and its walk finds none
  abbrev Missed : Type 0
  Missed = IsDry r s × (solo.sought s ≡ None) × ((steals.whole_round r start (solo.popped (steals.own_popped r s))).0 ≡ None)

  in_parts : Missed
  in_parts = by (own.first_of r s.runs) refl (solo.sought s) refl missed
    where
      by : (o : Option Task) → own.first_of r s.runs ≡ o → (u : Option Task) → solo.sought s ≡ u
          → (steals.seek_answer_by o r start (steals.own_popped r s)).task ≡ None → Missed
      by (Some t) dry u none it = absurd cc
      by None dry (Some t) none it =
          let found : ◌≡◌ {A = Option Task} (Some t) None =
          sym (ap (λ u. (steals.further_answer_by u r start (solo.popped (steals.own_popped r s))).task) none) ∙ it in
          absurd cc
      by None dry None none it =
          (dry, none, sym (ap (λ u. (steals.further_answer_by u r start (solo.popped (steals.own_popped r s))).task) none) ∙ it)

  empty : own.queue_of r s.runs.queues ≡ Some []
  empty =
      both.1.queues r
      ∙ (ap (λ b. own_of its b (filter (is_kept r) p.due)) going
      ∙ ap (λ ds. Some (map (due_task (named its)) ds)) (any_none (is_kept r) p.due (none_kept its s p both r going in_parts.0)))

  walk : (steals.round s.runs.listed r s.runs.listed (start % s.runs.listed) (solo.popped s)).0 ≡ None
  walk = subst (λ (y : Solo F T X). (steals.whole_round r start (solo.popped y)).0 ≡ None) (popped_same r s in_parts.0) in_parts.2

  -- so no own queue has any
  dry : (k : ℕ) → IsDry k s
  dry k = by (own.queue_of k s.runs.queues) refl
    where
      less : (a b : ℕ) → nat_lt a b ≡ true → a < b
      less a b is = grind (arith, nat_tests)

      within : (a b : ℕ) → a < b → start % b < b
      within a b below = mod-lt start (omega (arith, below))

      by : (o : Option (List Task)) → own.queue_of k s.runs.queues ≡ o → IsDry k s
      by None is = ap own.first_in is
      by (Some ts) is =
          let it = holder k s.runs.queues ts is in
          there it.0 it.1 it.2 it.3 it.4 (nat_lt it.0 s.runs.listed) refl
        where
          there : (at : ℕ) (o : Own) → slice_get s.runs.queues at ≡ Some o → o.number ≡ k → o.queue ≡ ts → (b : Bool)
              → nat_lt at s.runs.listed ≡ b → IsDry k s
          there at o here same queue false late =
              ap own.first_in is ∙ ap (λ ts. slice_get ts 0) (sym queue ∙ listed at o here late)
          there at o here same queue true early = mine (k == r) refl
            where
              place_is : at_place r at s ≡ k
              place_is = ap own.number_in here ∙ same

              below : at < s.runs.listed
              below = less at s.runs.listed early

              mine : (b : Bool) → (k == r) ≡ b → IsDry k s
              mine true one = subst (λ n. IsDry n s) (sym (same_number k r one)) in_parts.0
              mine false other =
                  subst (λ n. IsDry n s) place_is
                  (in_vain r s.runs.listed s.runs.listed (start % s.runs.listed) (solo.popped s) empty walk at
                  (all_visited s.runs.listed (start % s.runs.listed) at (within at s.runs.listed below) below)
                  (ap (λ n. n == r) place_is ∙ other))

  pub so : Standing its c (ARun r) w number (solo.popped s) p
  so =
      let none = searched_none in
      record {
        follows = none;
        tabled = tabled its c s (solo.popped s) p p (bases.same s) (still c p) both.1;
        numbered = n;
        none = searched_empty s.lines in_parts.1;
      }
    where
      searched_none : Follows (named its) (solo.popped s) p
      searched_none = by (find (trying.test (named its) c s p turn both.0) p.due) refl
        where
          by : (o : Option Due) → find (trying.test (named its) c s p turn both.0) p.due ≡ o
              → Follows (named its) (solo.popped s) p
          by None is = (trying.nothing (named its) c s p turn both.0 is).1
          by (Some d) is =
              let some = trying.something (named its) c s p turn both.0 d is in
              let it : ◌≡◌ {A = Option Task} None (Some (named its d.future)) = sym in_parts.1 ∙ some.0 in
              absurd cc

  -- and none is due
  pub none_due : p.due ≡ []
  none_due = by p.due refl
    where
      common : (m : Mark) → filter (is_common m) p.due ≡ []
      common m = none_in (filter (is_common m) p.due) (by_mark m)
        where
          none_in : (ds : List Due) → length (map (due_task (named its)) ds) ≡ 0 → ds ≡ []
          none_in [] is = refl
          none_in (d ∷ ds) is = absurd cc

          queued : queued_in (solo.popped s).lines ≡ 0
          queued = so.none

          by_mark : (m : Mark) → length (map (due_task (named its)) (filter (is_common m) p.due)) ≡ 0
          by_mark PlainMark =
              let it = ap (λ (ts : List Task). length ts) (so.follows.queued.lines PlainMark) in omega (arith, it, queued)
          by_mark Urgent =
              let it = ap (λ (ts : List Task). length ts) (so.follows.queued.lines Urgent) in omega (arith, it, queued)

      kept : (k : ℕ) → filter (is_kept k) p.due ≡ []
      kept k = by_going (goes_on k p) refl
        where
          by_going : (b : Bool) → goes_on k p ≡ b → filter (is_kept k) p.due ≡ []
          by_going true on = any_none (is_kept k) p.due (none_kept its s p both k on (dry k))
          by_going false over = both.1.kept k over

      no_first : (test : Due → Bool) (d : Due) (ds : List Due) → test d ≡ true → filter test (d ∷ ds) ≡ [] → ⊥
      no_first test d ds has none =
          let it : d ∷ filter test ds ≡ [] = sym (ap (λ b. cond b (d ∷ filter test ds) (filter test ds)) has) ∙ none in absurd cc

      same_mark_so : (m : Mark) → same_mark m m ≡ true
      same_mark_so PlainMark = refl
      same_mark_so Urgent = refl

      by : (ds : List Due) → p.due ≡ ds → ds ≡ []
      by [] is = refl
      by (d ∷ ds) is = keeper d.keeper refl
        where
          keeper : (o : Option ℕ) → d.keeper ≡ o → d ∷ ds ≡ []
          keeper None none =
              absurd (no_first (is_common d.mark) d ds
              (ap (λ o. not (is_some o) && same_mark d.mark d.mark) none ∙ same_mark_so d.mark)
              (sym (ap (filter (is_common d.mark)) is) ∙ common d.mark))
          keeper (Some k) some =
              absurd (no_first (is_kept k) d ds (ap (is_run k) some ∙ equal k k refl) (sym (ap (filter (is_kept k)) is) ∙ kept k))

  pub takes_none : takes.take wakes c (Run r w) p ≡ takes.rests wakes c c.refusal (ARun r) w p
  takes_none =
      ap (λ ds. or (find (chosen (looks c (Run r w)) ds) ds)
      (λ d. takes.takes wakes c (Run r w) d (record p { due = without (chosen (looks c (Run r w)) ds) ds }))
      (takes.nothing wakes c (Run r w) p)) none_due

  -- what it has searched is as it was; so it falls asleep as a tick does
  pub first_same : steals.sought r start s ≡ solo.popped s
  first_same = searched_dry r start s dry in_parts.1

  module _ (ticker : Ticker) where
    abbrev out : Ticked F X
    out = slept_answer ticker w s

    abbrev z : Solo F T X
    z = slept_once ticker w s

    pub z_is : slept_from r start ticker w s ≡ z
    z_is = ap (λ y. ticks.slept ticker w (copies w y)) first_same

    pub out_is : sleep_answer r start ticker w s ≡ out
    out_is = ap (λ y. ticks.slept_answer ticker w (copies w y)) first_same

    pub again_same : looks_again out.look ≡ true → steals.sought r later z ≡ solo.popped z
    again_same again =
        let it = quiet ticker w (copies w (solo.popped s)) again in
        searched_dry r later z
        (λ k. ap (own.first_of k) (it.1 ∙ copies_runs w (solo.popped s)) ∙ dry k)
        (ap (λ l. (search_answer l).task) (it.0 ∙ copies_lines w (solo.popped s)) ∙ nothing_queued (solo.popped s).lines so.none)

    pub rested_is : run_rested r start later ticker w s ≡ rested ticker w s
    rested_is =
        ap (λ (out : Ticked F X). choose (looks_again out.look) (slept_from r later out.ticker w (slept_from r start ticker w s))
        (slept_from r start ticker w s)) out_is
        ∙ (ap (λ z. choose (looks_again out.look) (slept_from r later out.ticker w z) z) z_is ∙ by (looks_again out.look) refl)
      where
        by : (b : Bool) → looks_again out.look ≡ b → choose b (slept_from r later out.ticker w z) z ≡ choose b (slept_once out.ticker w z) z
        by false is = refl
        by true is = ap (λ y. ticks.slept out.ticker w (copies w y)) (again_same is)

    answer_is : run_rest_answer r start later ticker w s ≡ rest_answer ticker w s
    answer_is =
        ap (λ (out : Ticked F X). choose (looks_again out.look) (sleep_answer r later out.ticker w (slept_from r start ticker w s)) out)
        out_is
        ∙ (ap (λ z. choose (looks_again out.look) (sleep_answer r later out.ticker w z) out) z_is ∙ by (looks_again out.look) refl)
      where
        by : (b : Bool) → looks_again out.look ≡ b
            → choose b (sleep_answer r later out.ticker w z) out ≡ choose b (slept_answer out.ticker w z) out
        by false is = refl
        by true is = ap (λ y. ticks.slept_answer out.ticker w (copies w y)) (again_same is)

module _ {F T X : Type 0} (its : ℕ → Lent) (number : Who → ℕ) (s : Solo F T X) (p : Plain T (SoloWaker X)) (both : Stands its s p)
    (n : IsNumbered number s.sleepers p.lying) (listed : EachListed s.runs) where
  pub runs_rest : RunsRest its number s p
  runs_rest c r w rest start later is going missed turn granted room names many life =
      let q : Plain T (SoloWaker X) = record p { inside = rest } in
      let who = ARun r in
      let both' : Stands its s q =
      same_hands its s p both c rest (sym (ap (λ cs. lents cs) is)) (sym (ap (λ cs. drops cs) is)) (sym (ap (λ cs. awaiters cs) is)) in
      let ticker : Ticker = or (find (lies who) p.lying) (λ l. slept_under (number who)) (Awake ticks.its_room) in
      let stands = so its number s q both' n c r w start later going listed missed turn in
      let out = out_is its number s q both' n c r w start later going listed missed turn ticker in
      let z = z_is its number s q both' n c r w start later going listed missed turn ticker in
      let rests =
      lies_down its number s q c who w many stands (trying.lives (named its) c s q turn both'.0 2 life)
      (λ u same. ((names u same).0, (names u same).1)) (find (lies who) q.lying) refl room
      (λ u same again.
      subst (λ z. solo.may_hold u z ≡ true) z ((names u same).2 (ap (λ (out : Ticked F X). looks_again out.look) out ∙ again))) in
      let new : Who → ℕ = or (find (lies who) p.lying) (λ l. number) (numbered_by who (next_number s.sleepers) number) in
      subst (λ cs. IsAtRest its number s q who new (run_rest_answer r start later ticker w s) (run_rested r start later ticker w s)
      (calls.innermost wakes c cs (calls.pends wakes c) p)) (sym is)
      (subst (IsAtRest its number s q who new (run_rest_answer r start later ticker w s) (run_rested r start later ticker w s))
      (sym (takes_none its number s q both' n c r w start later going listed missed turn
      ∙ ap (λ refusal. takes.rests wakes c refusal who w q) granted))
      (subst (λ it. IsAtRest its number s q who new it (run_rested r start later ticker w s) (takes.rests wakes c Granted who w q))
      (sym (answer_is its number s q both' n c r w start later going listed missed turn ticker))
      (subst (λ it. IsAtRest its number s q who new (rest_answer ticker w s) it (takes.rests wakes c Granted who w q))
      (sym (rested_is its number s q both' n c r w start later going listed missed turn ticker)) rests)))
