-- Turns follow each other, whatever is called; so of eight looks in a row one is at the plain queue first.
use Rattle.std.proofs.Common.{◌≡◌, inl, inr, ℕ, zero, suc, ◌+◌, ◌^◌, ◌%◌, ◌<◌, ◌==◌, not, Bool, true, false, List, [], ◌∷◌, ◌++◌}
use Rattle.std.proofs.Common.{length, Option, Some, None, is_some, slice_get, refl, sym, ap, subst, ◌∙◌, arith}
use Rattle.executor_parts.specs.declared.mark.Mark.{Mark}
use Rattle.executor_parts.specs.declared.mark.Mark.TheVariants.{Plain, Urgent}
use Rattle.executor_parts.specs.declared.places.EntryPlace.{EntryPlace}
use Rattle.executor_parts.specs.Places.{entry_in, future_of}
use Rattle.task_moves.specs.declared.local_task.answers.Back.{Back}
use Rattle.task_moves.specs.declared.local_task.answers.Back.TheVariants.{Ready, Pending}
use Rattle.solo.specs.declared.cells.After.{After}
use Rattle.solo.specs.declared.cells.After.TheVariants.{Queue, Rest, Drop as DropFuture, Unknown}
use Rattle.solo.specs.declared.names.Task.{Task}
use Rattle.solo.specs.declared.names.SoloWaker.{SoloWaker}
use Rattle.solo.specs.declared.owed.Lent.{Lent}
use Rattle.solo.specs.declared.runs.Runner.{Runner}
use Rattle.solo.specs.declared.ticks.Ticker.{Ticker}
use Rattle.solo.specs.declared.solo.Solo.{Solo}
use Rattle.solo.specs.Lines.{LinesValue, is_empty, first_of, popped_from}
use Rattle.solo.specs.Lines.{found_by, found_from, mark_of_turn, turned as next_turn, search_answer}
use Rattle.solo.specs.Cells.{choose, asked}
use Rattle.solo.specs.Cells as cells
use Rattle.solo.specs.OwnQueues as own
use Rattle.solo.specs.Turns as turns
use Rattle.solo.specs.Turns.{turned}
use Rattle.solo.specs.Solo as solo
use Rattle.solo.specs.Solo.{popped, sought}
use Rattle.solo.specs.Ticks as ticks
use Rattle.solo.specs.Runs as runs
use Rattle.solo.specs.Steals.{seek_answer, sought_by, own_popped}
use Rattle.solo.specs.Steals as steals
use Rattle.solo.specs.Table.{first_parts}
use Rattle.solo.specs.Closing as closing
use Rattle.solo_laws.specs.Calls.{Call, Does, Course, Spawn, SpawnRefused, Take, Settle, Finish, Wake, WakeAndRelease, Hold, Release}
use Rattle.solo_laws.specs.Calls.{Cancel, Detach}
use Rattle.solo_laws.specs.Calls.{Poll, Retract, MakeTick, TickTake, TickSearch}
use Rattle.solo_laws.specs.Calls.{TickSleep, TickLeave, MakeRun, RunBegin, RunTake, RunSearch}
use Rattle.solo_laws.specs.Calls.{RunLeave, RunDrain, Leak, LeakNext, Close, Drain}
use Rattle.solo_laws.specs.Looks.{plain_in, OneOfEightIsPlain, next_mark, look_if, comes, look_of, looks_of, TakesByTurn}
use Rattle.solo_laws.proofs.Prompt.{chosen}
use Rattle.solo_laws.proofs.Turning.{At, taken_turn, searched_turn, lined_if_at, told_at, scheduled_at, scheduled_if_at, let_go_at}
use Rattle.solo_laws.proofs.Turning.{left_at as entry_left, begun_at, found_at, asleep_at, tick_left_at, further_at, run_found_at}
use Rattle.solo_laws.proofs.Turning.{run_drained_at}

-- the number of the turn after this one
abbrev next : ℕ → ℕ
next t = (t + 1) % 2 ^ 64

-- these turns follow each other, from this one on
abbrev Follows : ℕ → List Mark → Type 0
Follows t [] = Unit {0}
Follows t (m ∷ marks) = (m ≡ mark_of_turn t) × Follows (next t) marks

abbrev after : List Mark → ℕ → ℕ
after [] t = t
after (m ∷ marks) t = after marks (next t)

both_follow : (t : ℕ) (a b : List Mark) → Follows t a → Follows (after a t) b → Follows t (a ++ b)
both_follow t [] b fa fb = fb
both_follow t (m ∷ a) b fa fb = (fa.0, both_follow (next t) a b fa.1 fb)

rest_follows : (t : ℕ) (a b : List Mark) → Follows t (a ++ b) → Follows (after a t) b
rest_follows t [] b f = f
rest_follows t (m ∷ a) b f = rest_follows (next t) a b f.1

first_follows : (t : ℕ) (a b : List Mark) → Follows t (a ++ b) → Follows t a
first_follows t [] b f = tt
first_follows t (m ∷ a) b f = (f.0, first_follows (next t) a b f.1)

-- the marks of so many turns, of which the first has this rest by 8
abbrev marks_of : ℕ → ℕ → List Mark
marks_of r zero = []
marks_of r (suc n) = choose (r == 7) Plain Urgent ∷ marks_of ((r + 1) % 8) n

next_rest : (t : ℕ) → next t % 8 ≡ (t % 8 + 1) % 8
next_rest t = omega arith

follow_as : (t : ℕ) (marks : List Mark) → Follows t marks → marks ≡ marks_of (t % 8) (length marks)
follow_as t [] f = refl
follow_as t (m ∷ marks) f =
    let rest : marks ≡ marks_of ((t % 8 + 1) % 8) (length marks) =
    follow_as (next t) marks f.1 ∙ ap (λ r. marks_of r (length marks)) (next_rest t) in
    ap (λ (n : Mark). n ∷ marks) f.0 ∙ ap (λ (ms : List Mark). mark_of_turn t ∷ ms) rest

one_of_eight : (r : ℕ) → r < 8 → plain_in (marks_of r 8) ≡ 1
one_of_eight zero below = refl
one_of_eight (suc zero) below = refl
one_of_eight (suc (suc zero)) below = refl
one_of_eight (suc (suc (suc zero))) below = refl
one_of_eight (suc (suc (suc (suc zero)))) below = refl
one_of_eight (suc (suc (suc (suc (suc zero))))) below = refl
one_of_eight (suc (suc (suc (suc (suc (suc zero)))))) below = refl
one_of_eight (suc (suc (suc (suc (suc (suc (suc zero))))))) below = refl
one_of_eight (suc (suc (suc (suc (suc (suc (suc (suc r)))))))) below = absurd (omega (arith, below))

eight_plain : (t : ℕ) (eight : List Mark) → Follows t eight → length eight ≡ 8 → plain_in eight ≡ 1
eight_plain t eight f is =
    let below : t % 8 < 8 = omega arith in
    ap plain_in (follow_as t eight f ∙ ap (λ n. marks_of (t % 8) n) is) ∙ one_of_eight (t % 8) below

following_plain : (t : ℕ) (marks : List Mark) → Follows t marks → OneOfEightIsPlain marks
following_plain t marks f before eight rest is eights =
    let all : Follows t (before ++ (eight ++ rest)) = subst (Follows t) is f in
    let later : Follows (after before t) (eight ++ rest) = rest_follows t before (eight ++ rest) all in
    eight_plain (after before t) eight (first_follows (after before t) eight rest later) eights

module _ {F T X : Type 0} where
  look_follows : (b : Bool) (s : Solo F T X) → Follows s.lines.turn (look_if b s)
  look_follows true s = (refl, tt)
  look_follows false s = tt

  call_follows : (call : Call F T X) (s : Solo F T X) → Follows s.lines.turn (look_of call s)
  call_follows (Spawn mark future) s = tt
  call_follows (SpawnRefused mark future) s = tt
  call_follows Take s = look_follows true s
  call_follows (Settle lent back) s = tt
  call_follows (Finish lent) s = tt
  call_follows (Wake task) s = tt
  call_follows (WakeAndRelease task) s = tt
  call_follows (Hold task) s = tt
  call_follows (Release task) s = tt
  call_follows (Cancel task) s = tt
  call_follows (Detach task) s = tt
  call_follows (Poll task waker) s = tt
  call_follows (Retract task) s = tt
  call_follows MakeTick s = tt
  call_follows (TickTake ticker waker) s = look_follows true s
  call_follows (TickSearch ticker) s = look_follows true s
  call_follows (TickSleep ticker waker) s = tt
  call_follows (TickLeave ticker) s = tt
  call_follows MakeRun s = tt
  call_follows (RunBegin runner) s = tt
  call_follows (RunTake runner ticker waker start) s = look_follows (comes runner s) s
  call_follows (RunSearch runner ticker start) s = look_follows (comes runner s) s
  call_follows (RunLeave runner) s = tt
  call_follows (RunDrain leaving) s = tt
  call_follows Leak s = tt
  call_follows LeakNext s = tt
  call_follows Close s = tt
  call_follows Drain s = tt

  -- after these looks the turn of one executor is that of another
  abbrev Turned : List Mark → Solo F T X → Solo F T X → Type 0
  Turned looks old new = At (after looks old.lines.turn) new

  popped_at : (s : Solo F T X) → At (next s.lines.turn) (popped s)
  popped_at s = searched_turn s.lines

  taken_by_at : (t : ℕ) (first : Option Task) (s : Solo F T X) → At t s → At t (solo.taken_by first s)
  taken_by_at t None s p = p
  taken_by_at t (Some task) s p = begun_at t task (turns.told s) (told_at t s p)

  pending_at : (t : ℕ) (end : After) (lent : Lent) (future : F) (s : Solo F T X) → At t s → At t (solo.pending_by end lent future s)
  pending_at t DropFuture lent future s p = p
  pending_at t Unknown lent future s p = p
  pending_at t Rest lent future s p = p
  pending_at t Queue lent future s p = scheduled_at t lent.task (solo.put_back lent future s) p

  settled_at : (t : ℕ) (lent : Lent) (back : Back F T) (s : Solo F T X) → At t s → At t (solo.settled lent back s)
  settled_at t lent (Ready output) s p = entry_left t lent.place s p
  settled_at t lent (Pending future) s p =
      pending_at t (solo.after_poll lent s) lent future (turned (cells.ended_pending lent.place) lent.task s) p

  tick_take_at : (t : ℕ) (first : Option Task) (ticker : Ticker) (waker : SoloWaker X) (s : Solo F T X) → At t s
      → At t (ticks.taken_by first ticker waker s)
  tick_take_at t (Some task) ticker waker s p = found_at t ticker task s p
  tick_take_at t None ticker waker s p = asleep_at t ticker waker s p

  tick_search_at : (t : ℕ) (first : Option Task) (ticker : Ticker) (s : Solo F T X) → At t s
      → At t (ticks.searched_by first ticker s)
  tick_search_at t (Some task) ticker s p = found_at t ticker task s p
  tick_search_at t None ticker s p = p

  slept_at : (t : ℕ) (ticker : Ticker) (waker : SoloWaker X) (s : Solo F T X) → At t s → At t (ticks.slept ticker waker s)
  slept_at t ticker waker s p =
      chosen (At t) (is_empty s.lines) (ticks.fallen_asleep ticker waker s) s (asleep_at t ticker waker s p) p

  run_by_at : (t : ℕ) (first : Option Task) (runner : Runner) (ticker : Ticker) (waker : SoloWaker X) (s : Solo F T X) → At t s
      → At t (runs.took_by first runner ticker waker s)
  run_by_at t (Some task) runner ticker waker s p = run_found_at t runner ticker task s p
  run_by_at t None runner ticker waker s p = asleep_at t ticker waker s p

  -- a run whose own queue is empty takes a turn
  further_turn : (number start : ℕ) (s : Solo F T X) → At (next s.lines.turn) (steals.sought_further number start s)
  further_turn number start s =
      further_at (next s.lines.turn) (search_answer s.lines).task (search_answer s.lines).mark number start (popped s) (popped_at s)

  sought_at : (first : Option Task) (number start : ℕ) (old s : Solo F T X) → At old.lines.turn s
      → Turned (look_if (not (is_some first)) old) old (sought_by first number start s)
  sought_at (Some task) number start old s p = p
  sought_at None number start old s p = further_turn number start s ∙ ap next p

  run_search_at : (t : ℕ) (first : Option Task) (runner : Runner) (ticker : Ticker) (s : Solo F T X) → At t s
      → At t (runs.searched_by first runner ticker s)
  run_search_at t (Some task) runner ticker s p = run_found_at t runner ticker task s p
  run_search_at t None runner ticker s p = p

  future_at : (t : ℕ) (future : Option F) (task : Task) (s : Solo F T X) → At t s → At t (closing.retracted_future future task s)
  future_at t (Some future) task s p = p
  future_at t None task s p = p

  retracted_by_at : (t : ℕ) (place : Option EntryPlace) (task : Task) (s : Solo F T X) → At t s → At t (closing.retracted_by place task s)
  retracted_by_at t (Some place) task s p = future_at t (future_of (entry_in place s.table.entries)) task (closing.out place s) p
  retracted_by_at t None task s p = p

  retracted_at : (t : ℕ) (task : Task) (s : Solo F T X) → At t s → At t (closing.retracted task s)
  retracted_at t task s p =
      retracted_by_at t (asked cells.retract_answer None task s.cells) task (turned cells.retracted task s) p

  leaving_at : (t : ℕ) (task : Task) (s : Solo F T X) → At t s → At t (closing.leaving_woken task s)
  leaving_at t task s p =
      lined_if_at t (asked cells.release_queues false task (solo.woken task s).cells) task
      (turned cells.released task (solo.woken task s))
      (scheduled_if_at t (asked cells.wake_queues false task s.cells) task (turned cells.woken task s) p)

  line_at : (t : ℕ) (first : Option Task) (s : Solo F T X) → At t s → At t (closing.line_drained_by first s)
  line_at t (Some task) s p = retracted_at t task s p
  line_at t None s p = p

  waking_at : (t : ℕ) (first : Option Task) (s : Solo F T X) → At t s → At t (closing.drained_waking first s)
  waking_at t (Some task) s p = leaving_at t task s p
  waking_at t None s p =
      line_at t (closing.first_lined (closing.shut_line s)) (closing.first_out (closing.shut_line s))
      (taken_turn Urgent (closing.shut_line s).lines ∙ p)

  drained_at : (t : ℕ) (parts : Option (Option F × Option Task)) (s : Solo F T X) → At t s → At t (closing.drained_by parts s)
  drained_at t (Some parts) s p = p
  drained_at t None s p = waking_at t (slice_get s.leaving.items 0) (closing.first_left s) p

  leak_at : (t : ℕ) (first : Option Task) (s : Solo F T X) → At t s → At t (closing.leak_woken_by first s)
  leak_at t (Some task) s p = leaving_at t task s p
  leak_at t None s p = p

  call_turns : (call : Call F T X) (old new : Solo F T X) → Does call old new → Turned (look_of call old) old new
  call_turns (Spawn mark future) old new does =
      let t = old.lines.turn in
      let spawned = does.1 in
      subst (At t) (sym spawned.2) (scheduled_at t does.0.task spawned.0 (subst (At t) (sym spawned.1.1) refl))
  call_turns (SpawnRefused mark future) old new does = subst (At old.lines.turn) (sym does.1.1) refl
  call_turns Take old new is =
      subst (At (next old.lines.turn)) (sym is) (taken_by_at (next old.lines.turn) (sought old) (popped old) (popped_at old))
  call_turns (Settle lent back) old new is = subst (At old.lines.turn) (sym is) (settled_at old.lines.turn lent back old refl)
  call_turns (Finish lent) old new is = subst (At old.lines.turn) (sym is) (entry_left old.lines.turn lent.place old refl)
  call_turns (Wake task) old new is =
      subst (At old.lines.turn) (sym is)
      (scheduled_if_at old.lines.turn (asked cells.wake_queues false task old.cells) task (turned cells.woken task old) refl)
  call_turns (WakeAndRelease task) old new is =
      subst (At old.lines.turn) (sym is)
      (scheduled_if_at old.lines.turn (solo.wakes_or_closes task old) task
      (turned cells.released task (turned cells.woken task old)) refl)
  call_turns (Hold task) old new is = subst (At old.lines.turn) (sym is) refl
  call_turns (Release task) old new is = subst (At old.lines.turn) (sym is) (let_go_at old.lines.turn task old refl)
  call_turns (Cancel task) old new is =
      subst (At old.lines.turn) (sym is)
      (scheduled_if_at old.lines.turn (is_some (asked cells.cancel_queues None task old.cells)) task
      (turned cells.cancelled task old) refl)
  call_turns (Detach task) old new is =
      subst (At old.lines.turn) (sym is)
      (scheduled_if_at old.lines.turn (is_some (asked cells.detach_queues None task old.cells)) task
      (turned cells.detached task old) refl)
  call_turns (Poll task waker) old new is = subst (At old.lines.turn) (sym is) refl
  call_turns (Retract task) old new is = subst (At old.lines.turn) (sym is) (retracted_at old.lines.turn task old refl)
  call_turns MakeTick old new (inl is) = subst (At old.lines.turn) (sym is) refl
  call_turns MakeTick old new (inr is) = subst (At old.lines.turn) (sym is) refl
  call_turns (TickTake ticker waker) old new is =
      subst (At (next old.lines.turn)) (sym is)
      (tick_take_at (next old.lines.turn) (sought old) ticker waker (popped old) (popped_at old))
  call_turns (TickSearch ticker) old new is =
      subst (At (next old.lines.turn)) (sym is)
      (tick_search_at (next old.lines.turn) (sought old) ticker (popped old) (popped_at old))
  call_turns (TickSleep ticker waker) old new is =
      subst (At old.lines.turn) (sym is) (slept_at old.lines.turn ticker waker old refl)
  call_turns (TickLeave ticker) old new is = subst (At old.lines.turn) (sym is) (tick_left_at old.lines.turn ticker old refl)
  call_turns MakeRun old new (inl is) = subst (At old.lines.turn) (sym is) refl
  call_turns MakeRun old new (inr is) = subst (At old.lines.turn) (sym is) refl
  call_turns (RunBegin runner) old new is = subst (At old.lines.turn) (sym is) refl
  call_turns (RunTake runner ticker waker start) old new is =
      subst (Turned (look_of (RunTake runner ticker waker start) old) old) (sym is)
      (run_by_at (after (look_if (comes runner old) old) old.lines.turn) (seek_answer runner.number start old).task runner ticker waker
      (steals.sought runner.number start old)
      (sought_at (own.first_of runner.number old.runs) runner.number start old (own_popped runner.number old) refl))
  call_turns (RunSearch runner ticker start) old new is =
      subst (Turned (look_of (RunSearch runner ticker start) old) old) (sym is)
      (run_search_at (after (look_if (comes runner old) old) old.lines.turn) (seek_answer runner.number start old).task runner ticker
      (steals.sought runner.number start old)
      (sought_at (own.first_of runner.number old.runs) runner.number start old (own_popped runner.number old) refl))
  call_turns (RunLeave runner) old new is = subst (At old.lines.turn) (sym is) refl
  call_turns (RunDrain leaving) old new is =
      subst (At old.lines.turn) (sym is) (run_drained_at old.lines.turn (runs.first_left leaving.own) leaving.ticker old refl)
  call_turns Leak old new is = subst (At old.lines.turn) (sym is) refl
  call_turns LeakNext old new is =
      subst (At old.lines.turn) (sym is) (leak_at old.lines.turn (slice_get old.leaving.items 0) (closing.first_left old) refl)
  call_turns Close old new is = subst (At old.lines.turn) (sym is) refl
  call_turns Drain old new is =
      subst (At old.lines.turn) (sym is)
      (drained_at old.lines.turn (first_parts old.going.entries) (closing.first_going old) refl)

  course_follows : (calls : List (Call F T X)) (first last : Solo F T X) (does : Course calls first last)
      → Follows first.lines.turn (looks_of calls first last does)
  course_follows [] first last does = tt
  course_follows (call ∷ calls) first last does =
      let later = course_follows calls does.0 last does.2 in
      both_follow first.lines.turn (look_of call first) (looks_of calls does.0 last does.2) (call_follows call first)
      (subst (λ t. Follows t (looks_of calls does.0 last does.2)) (call_turns call first does.0 does.1) later)

  pub one_is_plain : (calls : List (Call F T X)) (first last : Solo F T X) (does : Course calls first last)
      → OneOfEightIsPlain (looks_of calls first last does)
  one_is_plain calls first last does =
      following_plain first.lines.turn (looks_of calls first last does) (course_follows calls first last does)

found_there : (first : Option Task) (m : Mark) (l : LinesValue) (task : Task) → first ≡ Some task → (found_by first m l).task ≡ first
found_there (Some found) m l task is = refl
found_there None m l task is = absurd cc

by_mark : (m : Mark) (l : LinesValue) (urgent plain : Task) → first_of Urgent l ≡ Some urgent → first_of Plain l ≡ Some plain
    → (found_from m (next_turn l)).task ≡ first_of m l
by_mark Plain l urgent plain u p = found_there (first_of Plain l) Plain (popped_from Plain (next_turn l)) plain p
by_mark Urgent l urgent plain u p = found_there (first_of Urgent l) Urgent (popped_from Urgent (next_turn l)) urgent u

pub takes_by_turn : {F T X : Type 0} (s : Solo F T X) → TakesByTurn s
takes_by_turn s urgent plain u p = by_mark (next_mark s) s.lines urgent plain u p
