-- A tick or run that finds nothing lies down: it sleeps with a copy of its waker, searches again, and replaces the copy by another.
use Rattle.std.proofs.Common.{◌≡◌, ℕ, zero, suc, ◌+◌, ◌≤◌, ◌<◌, ◌++◌, Bool, true, false}
use Rattle.std.proofs.Common.{List, [], ◌∷◌, length, map, get_or, Option, Some, None, slice_get, slice_set, if◌then◌else◌, is_some}
use Rattle.std.proofs.Common.{refl, sym, ap, subst, ◌∙◌, arith, append_assoc}
use Rattle.std.specs.Prelude.{find}
use Rattle.std.proofs.lemmas.List.{get_or-set_same}
use Rattle.executor_parts.specs.Sleepers.{listed, next_number, position_of, put_to_sleep, waker_at, waker_in}
use Rattle.executor_model.specs.declared.call.Reply.TheVariants as reply
use Rattle.executor_model.specs.declared.op.Op.{Op}
use Rattle.executor_model.specs.declared.op.Op.TheVariants as op
use Rattle.executor_model.specs.declared.op.Sleeping.{Sleeping}
use Rattle.executor_model.specs.declared.op.TickOp.TheVariants as tick_op
use Rattle.executor_model.specs.declared.op.TickOrRun.{TickOrRun}
use Rattle.executor_model.specs.declared.op.TickOrRun.TheVariants as tick_or_run
use Rattle.executor_model.specs.declared.op.Waker.{Waker}
use Rattle.executor_model.specs.ActsOfSleepers.{copy_sleeper_by, fall_asleep_by, pend_as, sleep_again_by, sleep_anew_by, sleep_listed_by}
use Rattle.executor_model.specs.ActsOfSleepers.{sleeper_goes}
use Rattle.executor_model.specs.SleepersAgree.{sleeps}
use Rattle.executor_model.specs.World.{Asleep, Awake, Done, Left, Ticker, World}
use Rattle.plain_scheduler.specs.Lists.{any, or, without}
use Rattle.plain_scheduler.specs.Moves as plain
use Rattle.plain_scheduler.specs.Takes as plain_takes
use Rattle.plain_scheduler.specs.Usual.{lies_uncalled, searches_by, vain_turns}
use Rattle.machine_roads.specs.View.{Output, wakes}
use Rattle.machine_roads.specs.Road.{AreNumbered, Follows, place_in, sleeper, uncalled, who_of}
use Rattle.machine_roads.specs.Turning.{TakesTurns}
use Rattle.machine_roads.proofs.Aside.{copied_inside, goes_inside}
use Rattle.machine_roads.proofs.Copying.{copied_wakers, goes_back, lain_has}
use Rattle.machine_roads.proofs.Lain.{Lies, all_called, all_uncalled, below_test, count_at, count_before, count_others, get_at}
use Rattle.machine_roads.proofs.Lain.{left, lies_anew, long}
use Rattle.machine_roads.proofs.Lain.{none_found, found, one_lies, place_called, place_uncalled, room_called, split_uncalled}
use Rattle.machine_roads.proofs.Lain.{uncalled_append}
use Rattle.machine_roads.proofs.Leaving.{sleeper_goes_so}
use Rattle.machine_roads.proofs.Lists.{get_last, length_last, length_map, map_append}
use Rattle.machine_roads.proofs.Numbers.{Another, It, IsNamed, Rests, Which, asleep_set, count, count_append, count_one, down, itself}
use Rattle.machine_roads.proofs.Numbers.{numbered_append, numbered_first, numbered_rest, numbered_still, one_if, place_apart, rests_if}
use Rattle.machine_roads.proofs.Numbers.{same_who, up as is_up, which}
use Rattle.machine_roads.proofs.PollCalls.{copied_lying}
use Rattle.machine_roads.proofs.Polling.{copies_so}
use Rattle.machine_roads.proofs.Still.{Still, still_on}
use Rattle.machine_roads.proofs.Stepping.{Way, next}
use Rattle.machine_roads.proofs.Turning.{answers_still, copied_still, ends_still, lay_called, lay_uncalled, placed_counted}
use Rattle.machine_roads.proofs.Turning.{refused_at_once, took_still, took_twice}
use Rattle.executor_model.specs.declared.call.Reply.{Reply}
use Rattle.executor_model.specs.declared.op.Waker.TheVariants.{Task, Outside}
use Rattle.executor_model.specs.Acts.{copied, is_copy_refused}
use Rattle.executor_model.specs.ActsOfSleepers.{held_as}
use Rattle.executor_model.specs.Steps.{lives}
use Rattle.executor_model.specs.World.{Run, no_run, place_of, runs_with, ticks_with}
use Rattle.plain_scheduler.specs.State.{Answer, Answers, AtOnce, Choice, Due, Granted, Later, Lying, NoMemory, Pending, Plain, Refusal, Who}
use Rattle.plain_scheduler.specs.Moves.{answers, is_who, let_go, lies, tell}
use Rattle.machine_roads.specs.Seeing.{answer_of, shown}
use Rattle.machine_roads.specs.Alone.{is_resting, CanCopy, CanLie, RunCanLie}
use Rattle.machine_roads.specs.Refused.{OneMoreLies}
use Rattle.machine_roads.proofs.Calling.{ends}
use Rattle.machine_roads.proofs.Copying.{HasOne, copied_due, copied_has}
use Rattle.machine_roads.proofs.Replacing.{last_again, lengths, none_without, one_changed, position_last, replaced, set_at}
use Rattle.machine_roads.proofs.Numbers.{placed_view}

-- who was awake is where it is put
in_list : (xs : List Ticker) (t : ℕ) → get_or xs t Left ≡ Awake → t < length xs
in_list [] t is = absurd cc
in_list (x ∷ xs) zero is = omega arith
in_list (x ∷ xs) (suc t) is = let below = in_list xs t is in omega (arith, below)

in_runs : (xs : List Run) (r : ℕ) → (get_or xs r no_run).place ≡ Awake → r < length xs
in_runs [] r is = absurd cc
in_runs (x ∷ xs) zero is = omega arith
in_runs (x ∷ xs) (suc r) is = let below = in_runs xs r is in omega (arith, below)

placed_so : (ticks : List Ticker) (runs : List Run) (who : TickOrRun) (x : Ticker) → place_in ticks runs who ≡ Awake
    → place_in (ticks_with ticks who x) (runs_with runs who x) who ≡ x
placed_so ticks runs (tick_or_run.Tick t) x awake = get_or-set_same ticks t x Left (in_list ticks t awake)
placed_so ticks runs (tick_or_run.Run r) x awake =
    ap (λ (y : Run). y.place) (get_or-set_same runs r (record (get_or runs r no_run) { place = x }) no_run (in_runs runs r awake))

module _ (p : ℕ) (below : List Op) (under : is_resting below ≡ true) (end : Done) (rests : is_resting end.next ≡ true) (c : Choice)
    (it : TickOrRun) (a : Waker) (k : ℕ) where
  abbrev who : Who
  who = who_of it

  abbrev pub s : Sleeping
  s = record { waker = a; who = it; poll = k }

  abbrev fits : Plain Output Waker → Type 0
  fits q = length q.lying ≤ c.tells

  -- its poll is answered so
  pub record Goes (q new : Plain Output Waker) : Type 0 where
    pub next : end.next ≡ below
    pub follows : Follows end.world new
    pub inside : new.inside ≡ q.inside

  answers_so : (w : World) (q z : Plain Output Waker) (r : Reply) (x : Answer Output) → Answers (answer_of r) ≡ shown (Answers x)
      → z.inside ≡ q.inside → Follows w z → Way p end w (op.End r (held_as it) ∷ below) → Goes q (answers x z)
  answers_so w q z r x same inside follows way =
      let e = ends p below under end rests w z r (held_as it) x same follows way in
      record { next = e.0; follows = e.1; inside = inside }

  copied_place : (w : World) → place_of (copied w a) it ≡ place_of w it
  copied_place w = by a it
    where
      by : (a : Waker) (it : TickOrRun) → place_of (copied w a) it ≡ place_of w it
      by (Task g) (tick_or_run.Tick t) = refl
      by (Task g) (tick_or_run.Run r) = refl
      by (Outside x) it = refl

  -- a search that finds nothing has taken a turn and looked everywhere, and comes to the copy of its waker
  pub record Idles (w : World) (z : Plain Output Waker) : Type 0 where
    pub world : World
    pub follows : Follows world z
    pub place : place_of world it ≡ place_of w it
    pub wakers : world.sleepers.wakers ≡ w.sleepers.wakers
    pub took : TakesTurns 1 w world
    pub way : Way p end world (op.Tick (tick_op.CopyWaker s) ∷ below)

  -- and it is refused memory once it lies only where it lies anew; from where it began to search it takes so many turns
  abbrev pub Result : World → Plain Output Waker → Type 0
  Result early q =
      (r : Refusal) × Goes q (plain_takes.rests wakes c r who a q) × (r ≡ Later → OneMoreLies q (plain_takes.rests wakes c r who a q))
      × TakesTurns (vain_turns r who q.lying) early end.world

  not_granted : Granted ≡ Later → ⊥
  not_granted is = cc

  not_at_once : AtOnce ≡ Later → ⊥
  not_at_once is = cc

  abbrev new_one : Lying Waker
  new_one = record { who = who; waker = Some a }

  -- it sleeps, and its entry is the last
  record IsBedded (w : World) : Type 0 where
    number : ℕ
    before : List (ℕ × Sleeping)
    place : place_of w it ≡ Asleep number
    last : w.sleepers.wakers ≡ before ++ (number, s) ∷ []

  module _ (Quiet : List Due → Type 0)
      (finds_none : (w : World) (z : Plain Output Waker) → Follows w z → Quiet z.due → Way p end w (op.Tick (tick_op.Search s) ∷ below)
      → Idles w z)
      (early : World) where
    -- it searches once more, and its copy is replaced by another one
    again : (w : World) (q z : Plain Output Waker) → Follows w z → fits z → z.inside ≡ q.inside → (bed : IsBedded w)
        → map sleeper bed.before ≡ uncalled q.lying → HasOne a z → Quiet z.due → plain_takes.lies_down wakes c who a q ≡ z
        → TakesTurns 1 early w → lies_uncalled who q.lying ≡ false → Way p end w (op.Tick (tick_op.Search s) ∷ below) → Result early q
    again w q z follows fit inside bed others one quiet lies_is took called way =
        let one_more = finds_none w z follows quiet way in
        let step = next p end rests (op.Tick (tick_op.CopyWaker s)) one_more.world below refl one_more.way in
        by one_more (is_copy_refused step.hint one_more.world a) step.has step.way
      where
        more_lie : OneMoreLies q (plain_takes.lies_down wakes c who a q)
        more_lie =
            let few : length bed.before ≡ length (uncalled q.lying) =
            sym (length_map sleeper bed.before) ∙ ap (λ ls. length ls) others in
            let many : suc (length bed.before) ≡ length (uncalled z.lying) =
            sym (length_last bed.before (bed.number, s))
            ∙ (ap (λ ws. length ws) (sym bed.last)
            ∙ (sym (length_map sleeper w.sleepers.wakers) ∙ ap (λ ls. length ls) follows.wakers)) in
            subst (λ (x : Plain Output Waker). OneMoreLies q x) (sym lies_is) (omega (arith, few, many))

        twice : (r : Refusal) → searches_by r ≡ 2 → (i : Idles w z) → Still i.world end.world → TakesTurns (vain_turns r who q.lying) early
            end.world
        twice r two i still =
            lay_called who q.lying early end.world r called
            (subst (λ n. TakesTurns n early end.world) (sym two)
            (took_still 2 early i.world end.world (took_twice early w i.world took i.took) still))

        by : (i : Idles w z) (b : Bool) → CanCopy i.world a
            → Way p end (copy_sleeper_by b i.world s).world ((copy_sleeper_by b i.world s).next ++ below) → Result early q
        by i true can way = (
          Later,
          subst (λ z. Goes q (answers NoMemory z)) (sym lies_is)
              (answers_so i.world q z reply.NoMemory NoMemory refl inside i.follows way),
          λ is. more_lie,
          twice Later refl i (ends_still p below under end reply.NoMemory (held_as it) i.world way),
        )
        by i false can way =
            let v = i.world in
            let w4 = copied v a in
            let q4 = plain.copied wakes a z in
            let n = bed.number in
            let e : ℕ × Sleeping = (n, s) in
            let at = length bed.before in
            let os = op.End reply.Pending (held_as it) ∷ below in
            let follows4 : Follows w4 q4 = copies_so a v z i.follows can in
            let wakers4 : w4.sleepers.wakers ≡ bed.before ++ e ∷ [] = copied_wakers a v ∙ (i.wakers ∙ bed.last) in
            let way5 : Way p end (sleep_again_by (position_of n w4.sleepers.wakers) w4 n s).world
            ((sleep_again_by (position_of n w4.sleepers.wakers) w4 n s).next ++ below) =
            subst (λ x. Way p end (fall_asleep_by x w4 s).world ((fall_asleep_by x w4 s).next ++ below))
            (copied_place v ∙ (i.place ∙ bed.place))
            (next p end rests (op.Tick (tick_op.FallAsleep s)) w4 below refl way).way in
            let way6 : Way p end (record w4 { sleepers = record w4.sleepers { wakers = slice_set w4.sleepers.wakers at e } })
            ((sleeper_goes (waker_at (Some at) w4.sleepers.wakers) ++ pend_as it) ++ below) =
            subst (λ o. Way p end (sleep_again_by o w4 n s).world ((sleep_again_by o w4 n s).next ++ below))
            (ap (position_of n) wakers4 ∙ position_last n s bed.before) way5 in
            let same : slice_set w4.sleepers.wakers at e ≡ w4.sleepers.wakers =
            ap (λ xs. slice_set xs at e) wakers4 ∙ (last_again bed.before e ∙ sym wakers4) in
            let got : waker_at (Some at) w4.sleepers.wakers ≡ Some s =
            ap (λ xs. waker_in (slice_get xs at)) wakers4 ∙ ap waker_in (get_last bed.before e) in
            let way7 : Way p end w4 ((sleeper_goes (Some s) ++ pend_as it) ++ below) =
            subst (λ o. Way p end w4 ((sleeper_goes o ++ pend_as it) ++ below)) got
            (subst
            (λ xs. Way p end (record w4 { sleepers = record w4.sleepers { wakers = xs } })
            ((sleeper_goes (waker_at (Some at) w4.sleepers.wakers) ++ pend_as it) ++ below)) same way6) in
            let g =
            sleeper_goes_so p end rests c (Some s) w4 os q4 follows4 (subst (λ ls. length ls ≤ c.tells) (sym (copied_lying a z)) fit)
            (subst (Way p end w4) (append_assoc (sleeper_goes (Some s)) (pend_as it) below) way7) in
            let back = goes_back c a v z i.follows can one in (
              Granted,
              subst (λ z. Goes q (answers Pending z)) (back ∙ sym lies_is)
                  (answers_so g.world q (let_go wakes (tell wakes c) a q4) reply.Pending Pending
                  refl (ap (λ (q : Plain Output Waker). q.inside) back ∙ inside) g.follows g.way),
              λ is. absurd (not_granted is),
              twice Granted refl i
                  (still_on v w4 end.world (copied_still a v) (answers_still p below under end (Some s) it w4 way7)),
            )

    -- with a copy of its waker, in a world that is this
    module _ (w : World) (q : Plain Output Waker) (follows : Follows w q) (fit : fits q) (can_copy : CanCopy w a)
        (quiet : Quiet q.due) (took : TakesTurns 1 early w) where
      abbrev w1 : World
      w1 = copied w a

      abbrev q1 : Plain Output Waker
      q1 = plain.copied wakes a q

      follows1 : Follows w1 q1
      follows1 = copies_so a w q follows can_copy

      fit1 : fits q1
      fit1 = subst (λ ls. length ls ≤ c.tells) (sym (copied_lying a q)) fit

      quiet1 : Quiet q1.due
      quiet1 = subst Quiet (sym (copied_due a q)) quiet

      abbrev lying_by : Option (Lying Waker) → Plain Output Waker
      lying_by o =
          or o (λ l. or l.waker (λ old. plain_takes.lain_again wakes c who a old q1) (plain_takes.lain wakes c who a q1))
          (plain_takes.lain wakes c who a q1)

      took1 : TakesTurns 1 early w1
      took1 = took_still 1 early w w1 took (copied_still a w)

      -- whether it lay with a waker
      lay : (o : Option (Lying Waker)) → find (lies who) q1.lying ≡ o
          → lies_uncalled who q.lying ≡ or o (λ l. is_some l.waker) false
      lay o is =
          ap (λ (o : Option (Lying Waker)). or o (λ l. is_some l.waker) false)
          (ap (find (lies who)) (sym (copied_lying a q)) ∙ is)

      lies_by : (o : Option (Lying Waker)) → find (lies who) q1.lying ≡ o → plain_takes.lies_down wakes c who a q ≡ lying_by o
      lies_by o is = ap lying_by (ap (find (lies who)) (sym (copied_lying a q)) ∙ is)

      abbrev lain : Plain Output Waker
      lain = plain_takes.lain wakes c who a q1

      -- from the list of who lies without it
      lain_so : (ws : List (ℕ × Sleeping)) (n : ℕ) → map sleeper ws ≡ uncalled (without (lies who) q1.lying)
          → map sleeper (ws ++ (n, s) ∷ []) ≡ uncalled lain.lying
      lain_so ws n same =
          map_append sleeper ws ((n, s) ∷ [])
          ∙ (ap (λ ps. ps ++ (who, a) ∷ []) same ∙ sym (uncalled_append (without (lies who) q1.lying) (new_one ∷ [])))

      -- it was awake
      lies_anew_so : CanLie w1 it → place_of w1 it ≡ Awake → any (lies who) q1.lying ≡ false → length q1.lying < c.tells
          → Way p end (fall_asleep_by Awake w1 s).world ((fall_asleep_by Awake w1 s).next ++ below) → Result early q
      lies_anew_so can awake none room way =
          let n = next_number w1.sleepers in
          let as_it_was : without (lies who) q1.lying ≡ q1.lying = none_without (lies who) q1.lying none in
          let w2 = (sleep_anew_by true w1 s).world in
          let now : Way p end w2 (op.Tick (tick_op.Search s) ∷ below) =
          subst (λ b. Way p end (sleep_anew_by b w1 s).world ((sleep_anew_by b w1 s).next ++ below))
          (below_test w1.sleepers.count w1.sleepers.rooms (can.roomed awake)) way in
          let follows2 : Follows w2 lain =
          lies_anew w1 q1 (put_to_sleep s w1.sleepers) lain.lying (ticks_with w1.ticks it (Asleep n)) (runs_with w1.runs it (Asleep n))
          follows1
          (lain_so w1.sleepers.wakers n (follows1.wakers ∙ ap uncalled (sym as_it_was)))
          (ap (λ n. n + 1) follows1.count
          ∙ (one_more (length q1.lying)
          ∙ (ap (λ (ls : List (Lying Waker)). suc (length ls)) (sym as_it_was)
          ∙ sym (length_last (without (lies who) q1.lying) new_one))))
          (λ x. abed x (which it x))
          (numbered_append (ticks_with w1.ticks it (Asleep n)) (runs_with w1.runs it (Asleep n)) w1.sleepers.wakers ((n, s) ∷ [])
          (numbered_still w1.ticks w1.runs (ticks_with w1.ticks it (Asleep n)) (runs_with w1.runs it (Asleep n))
          (asleep_set w1.ticks w1.runs it (Asleep n) (ap sleeps awake)) w1.sleepers.wakers follows1.numbered)
          (placed_so w1.ticks w1.runs it (Asleep n) awake, tt)) (placed_view w1.runs it (Asleep n)) in
          let bed : IsBedded w2 =
          record {
            number = n;
            before = w1.sleepers.wakers;
            place = placed_so w1.ticks w1.runs it (Asleep n) awake;
            last = refl;
          } in
          again w2 q lain follows2
          (omega (arith, room, ap (λ (ls : List (Lying Waker)). length ls) as_it_was, length_last (without (lies who) q1.lying) new_one))
          (copied_inside a q) bed (ap (λ ws. map sleeper ws) (copied_wakers a w) ∙ follows.wakers)
          (lain_has a q1 lain.lying (copied_has a w q follows can_copy)) quiet1
          (lies_by None (none_found (lies who) q1.lying none))
          (record {
            turn = took1.turn;
            counted = λ k. placed_counted w1.runs it (Asleep n) k ∙ took1.counted k;
            listed = took1.listed;
          })
          (lay None (none_found (lies who) q1.lying none)) now
        where
          one_more : (n : ℕ) → n + 1 ≡ suc n
          one_more n = omega arith

          -- it sleeps too
          abed : (x : TickOrRun) → Which it x
              → count (who_of x) lain.lying ≡ sleeps (place_in (ticks_with w1.ticks it (Asleep (next_number w1.sleepers)))
              (runs_with w1.runs it (Asleep (next_number w1.sleepers))) x)
          abed x It =
              let here = placed_so w1.ticks w1.runs it (Asleep (next_number w1.sleepers)) awake in
              let before : count who q1.lying ≡ 0 = follows1.asleep it ∙ ap sleeps awake in
              let same : count who (without (lies who) q1.lying) ≡ 0 =
              ap (count who) (none_without (lies who) q1.lying none) ∙ before in
              let last : count who (new_one ∷ []) ≡ 1 = count_one who new_one ∙ ap one_if (itself it) in
              let total : count who lain.lying ≡ count who (without (lies who) q1.lying) + count who (new_one ∷ []) =
              count_append who (without (lies who) q1.lying) (new_one ∷ []) in
              let one : count who lain.lying ≡ 1 = omega (arith, total, last, same) in
              one ∙ ap sleeps (sym here)
          abed x (Another z apart turned_apart) =
              let last : count (who_of z) (new_one ∷ []) ≡ 0 = count_one (who_of z) new_one ∙ ap one_if apart in
              let total : count (who_of z) lain.lying
              ≡ count (who_of z) (without (lies who) q1.lying) + count (who_of z) (new_one ∷ []) =
              count_append (who_of z) (without (lies who) q1.lying) (new_one ∷ []) in
              let same : count (who_of z) lain.lying ≡ count (who_of z) (without (lies who) q1.lying) =
              omega (arith, total, last) in
              same
              ∙ (ap (count (who_of z)) (none_without (lies who) q1.lying none)
              ∙ (follows1.asleep z
              ∙ ap sleeps (sym (place_apart w1.ticks w1.runs it (Asleep (next_number w1.sleepers)) z turned_apart))))

      module _ (n : ℕ) (is : place_of w1 it ≡ Asleep n) (l : Lies who q1.lying) where
        -- it was called
        lies_called : (named : IsNamed n who w1.sleepers.wakers) → l.one.waker ≡ None
            → Way p end (fall_asleep_by (Asleep n) w1 s).world ((fall_asleep_by (Asleep n) w1 s).next ++ below) → Result early q
        lies_called named called way =
            let less = left n who w1 q1 follows1 named l in
            let w2 = (sleep_listed_by true w1 n s).world in
            let now : Way p end w2 (op.Tick (tick_op.Search s) ∷ below) =
            subst (λ b. Way p end (sleep_listed_by b w1 n s).world ((sleep_listed_by b w1 n s).next ++ below))
            (room_called n who w1 q1 follows1 named l called)
            (subst (λ o. Way p end (sleep_again_by o w1 n s).world ((sleep_again_by o w1 n s).next ++ below))
            (place_called n who w1 q1 follows1 named l called) way) in
            let many : suc (length (without (lies who) q1.lying)) ≡ length q1.lying =
            ap (λ (ls : List (Lying Waker)). suc (length ls)) less ∙ sym (long n who w1 q1 follows1 named l) in
            let follows2 : Follows w2 lain =
            lies_anew w1 q1 (listed n s w1.sleepers) lain.lying w1.ticks w1.runs follows1
            (lain_so w1.sleepers.wakers n
            (follows1.wakers
            ∙ (all_called n who w1 q1 follows1 named l called ∙ (sym (uncalled_append l.before l.after) ∙ ap uncalled (sym less)))))
            (follows1.count ∙ (sym many ∙ sym (length_last (without (lies who) q1.lying) new_one)))
            (λ x. listed_count (who_of x) ∙ follows1.asleep x)
            (numbered_append w1.ticks w1.runs w1.sleepers.wakers ((n, s) ∷ []) follows1.numbered (is, tt)) refl in
            let bed : IsBedded w2 = record { number = n; before = w1.sleepers.wakers; place = is; last = refl } in
            again w2 q lain follows2
            (omega (arith, fit1, many, length_last (without (lies who) q1.lying) new_one))
            (copied_inside a q) bed (ap (λ ws. map sleeper ws) (copied_wakers a w) ∙ follows.wakers)
            (lain_has a q1 lain.lying (copied_has a w q follows can_copy)) quiet1
            (lies_by (Some l.one) (found n who w1 q1 follows1 named l)
            ∙ ap (λ (o : Option Waker). or o (λ old. plain_takes.lain_again wakes c who a old q1) lain) called)
            (record { turn = took1.turn; counted = took1.counted; listed = took1.listed })
            (lay (Some l.one) (found n who w1 q1 follows1 named l) ∙ ap (λ (o : Option Waker). is_some o) called) now
          where
            listed_count : (x : Who) → count x lain.lying ≡ count x q1.lying
            listed_count x =
                let last : count x (new_one ∷ []) ≡ one_if (is_who x l.one.who) =
                count_one x new_one ∙ ap (λ who. one_if (is_who x who)) (same_who who l.one.who l.it) in
                let total : count x lain.lying ≡ count x (without (lies who) q1.lying) + count x (new_one ∷ []) =
                count_append x (without (lies who) q1.lying) (new_one ∷ []) in
                omega (arith, total, last, count_others n it w1 q1 follows1 l x, count_before n it w1 q1 follows1 l x)

        -- it lay still: its waker is replaced
        lies_again : (named : IsNamed n who w1.sleepers.wakers) (x : Waker) → l.one.waker ≡ Some x
            → Way p end (fall_asleep_by (Asleep n) w1 s).world ((fall_asleep_by (Asleep n) w1 s).next ++ below) → Result early q
        lies_again named x waker way =
            let sp = split_uncalled n who w1 q1 follows1 named l x waker in
            let i = length sp.first in
            let os = op.End reply.Pending (held_as it) ∷ below in
            let ws : List (ℕ × Sleeping) = sp.first ++ (n, s) ∷ sp.rest in
            let parts = subst (AreNumbered w1.ticks w1.runs) sp.is follows1.numbered in
            let one : Lying Waker = record l.one { waker = Some a } in
            let ls : List (Lying Waker) = l.before ++ one ∷ l.after in
            let changed : map (λ l. if lies who l then record l { waker = Some a } else l) q1.lying ≡ ls =
            ap (map (λ l. if lies who l then record l { waker = Some a } else l)) l.is
            ∙ one_changed (lies who) (λ l. record l { waker = Some a }) l.before l.after l.one l.none_before l.it l.none_after in
            let w2 : World = record w1 { sleepers = record w1.sleepers { wakers = ws } } in
            let q2 : Plain Output Waker = record q1 { lying = ls } in
            let same : map sleeper ws ≡ uncalled ls =
            map_append sleeper sp.first ((n, s) ∷ sp.rest)
            ∙ (ap (λ xs. xs ++ (who, a) ∷ map sleeper sp.rest) sp.firsts
            ∙ (ap (λ ys. uncalled l.before ++ (who, a) ∷ ys) sp.rests
            ∙ (ap (λ v. uncalled l.before ++ (v, a) ∷ uncalled l.after) (same_who who l.one.who l.it)
            ∙ sym (uncalled_append l.before (one ∷ l.after))))) in
            let follows2 : Follows w2 q2 =
            replaced w1 q1 ws ls follows1 same (lengths l.before l.after one l.one ∙ ap length (sym l.is))
            (ap length (uncalled_append l.before (one ∷ l.after))
            ∙ (lengths (uncalled l.before) (uncalled l.after) (l.one.who, a) (l.one.who, x)
            ∙ ap length (sym (all_uncalled n who w1 q1 follows1 named l x waker))))
            (λ x. count_at x l.before l.after one
            ∙ (sym (count_at x l.before l.after l.one) ∙ ap (count x) (sym l.is)))
            (numbered_append w1.ticks w1.runs sp.first ((n, s) ∷ sp.rest)
            (numbered_first w1.ticks w1.runs sp.first (sp.one ∷ sp.rest) parts)
            (is, (numbered_rest w1.ticks w1.runs sp.first (sp.one ∷ sp.rest) parts).1)) in
            let fit2 : fits q2 =
            subst (λ n. n ≤ c.tells) (ap length l.is ∙ lengths l.before l.after l.one one) fit1 in
            let way2 : Way p end (record w1 { sleepers = record w1.sleepers { wakers = slice_set w1.sleepers.wakers i (n, s) } })
            ((sleeper_goes (waker_at (Some i) w1.sleepers.wakers) ++ pend_as it) ++ below) =
            subst (λ o. Way p end (sleep_again_by o w1 n s).world ((sleep_again_by o w1 n s).next ++ below))
            (place_uncalled n who w1 q1 follows1 named l x waker) way in
            let way3 : Way p end w2 ((sleeper_goes (Some sp.one.1) ++ pend_as it) ++ below) =
            subst (λ o. Way p end w2 ((sleeper_goes o ++ pend_as it) ++ below))
            (ap (λ xs. waker_in (slice_get xs i)) sp.is ∙ ap waker_in (get_at sp.first sp.rest sp.one))
            (subst
            (λ xs. Way p end (record w1 { sleepers = record w1.sleepers { wakers = xs } })
            ((sleeper_goes (waker_at (Some i) w1.sleepers.wakers) ++ pend_as it) ++ below))
            (ap (λ xs. slice_set xs i (n, s)) sp.is ∙ set_at sp.first sp.rest sp.one (n, s)) way2) in
            let g =
            sleeper_goes_so p end rests c (Some sp.one.1) w2 os q2 follows2 fit2
            (subst (Way p end w2) (append_assoc (sleeper_goes (Some sp.one.1)) (pend_as it) below) way3) in
            let more = tell wakes c in
            let old : sp.one.1.waker ≡ x = ap (λ (e : Who × Waker). e.1) sp.here in
            let lies_is : plain_takes.lies_down wakes c who a q ≡ let_go wakes more sp.one.1.waker q2 =
            lies_by (Some l.one) (found n who w1 q1 follows1 named l)
            ∙ (ap (λ (o : Option Waker). or o (λ old. plain_takes.lain_again wakes c who a old q1) lain) waker
            ∙ (ap (λ ls. let_go wakes more x (record q1 { lying = ls })) changed ∙ ap (λ x. let_go wakes more x q2) (sym old))) in (
              Granted,
              subst (λ z. Goes q (answers Pending z)) (sym lies_is)
                  (answers_so g.world q (let_go wakes more sp.one.1.waker q2) reply.Pending
                  Pending refl (goes_inside c (Some sp.one.1.waker) q2 ∙ copied_inside a q) g.follows g.way),
              λ is. absurd (not_granted is),
              lay_uncalled who q.lying early end.world Granted
                  (lay (Some l.one) (found n who w1 q1 follows1 named l) ∙ ap (λ (o : Option Waker). is_some o) waker)
                  (took_still 1 early w2 end.world (record { turn = took1.turn; counted = took1.counted; listed = took1.listed })
                  (answers_still p below under end (Some sp.one.1) it w2 way3)),
            )

      falls_asleep : length q.lying < c.tells → Rests w1 q1 it → CanLie w1 it
          → Way p end (fall_asleep_by (place_of w1 it) w1 s).world ((fall_asleep_by (place_of w1 it) w1 s).next ++ below) → Result early q
      falls_asleep room (is_up awake none) can way = by (place_of w1 it) refl awake can.living way
        where
          by : (x : Ticker) → place_of w1 it ≡ x → sleeps x ≡ 0 → lives x ≡ true
              → Way p end (fall_asleep_by x w1 s).world ((fall_asleep_by x w1 s).next ++ below) → Result early q
          by Awake is awake living way =
              lies_anew_so can is none (subst (λ ls. length ls < c.tells) (sym (copied_lying a q)) room) way
          by (Asleep n) is awake living way = absurd (omega (arith, awake))
          by Left is awake living way = absurd cc
      falls_asleep room (down n is named one) can way =
          let l = one_lies who q1.lying one in
          by l l.one.waker refl
          (subst (λ x. Way p end (fall_asleep_by x w1 s).world ((fall_asleep_by x w1 s).next ++ below)) is way)
        where
          by : (l : Lies who q1.lying) (o : Option Waker) → l.one.waker ≡ o
              → Way p end (fall_asleep_by (Asleep n) w1 s).world ((fall_asleep_by (Asleep n) w1 s).next ++ below) → Result early q
          by l None called way = lies_called n is l named called way
          by l (Some x) waker way = lies_again n is l named x waker way

    -- it lies down, where it can once it has a copy, or that is refused
    pub lies_down_so : (w : World) (q : Plain Output Waker) → Follows w q → length q.lying < c.tells
        → (RunCanLie (copied w a) it → CanLie (copied w a) it) → Quiet q.due → TakesTurns 1 early w
        → Way p end w (op.Tick (tick_op.CopyWaker s) ∷ below) → Result early q
    lies_down_so w q follows room can quiet took way =
        let step = next p end rests (op.Tick (tick_op.CopyWaker s)) w below refl way in
        by (is_copy_refused step.hint w a) step.has step.way
      where
        by : (b : Bool) → CanCopy w a → Way p end (copy_sleeper_by b w s).world ((copy_sleeper_by b w s).next ++ below)
            → Result early q
        by true can_copy way = (
          AtOnce,
          answers_so w q q reply.NoMemory NoMemory refl refl follows way,
          λ is. absurd (not_at_once is),
          refused_at_once who q.lying early end.world
              (took_still 1 early w end.world took (ends_still p below under end reply.NoMemory (held_as it) w way)),
        )
        by false can_copy way =
            let two = next p end rests (op.Tick (tick_op.FallAsleep s)) (copied w a) below refl way in
            falls_asleep w q follows (omega (arith, room)) can_copy quiet took room
            (rests_if it (copied w a) (plain.copied wakes a q) (copies_so a w q follows can_copy) (λ n is. two.has.0)) (can two.has.1)
            two.way
