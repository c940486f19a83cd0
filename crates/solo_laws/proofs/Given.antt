-- Call by call: what outputs go in are inside, or come out.
use Rattle.std.proofs.Common.{◌≡◌, inl, inr, ℕ, ◌+◌, ◌==◌, Bool, true, false, List, [], ◌∷◌, Option, Some, None, Ok, Err, slice_get}
use Rattle.std.proofs.Common.{is_some, refl, sym, ap, subst, arith}
use Rattle.std.specs.List.{sum_by}
use Rattle.slab.specs.Slab.{get}
use Rattle.executor_parts.specs.declared.mark.Mark.{Mark}
use Rattle.executor_parts.specs.declared.places.EntryPlace.{EntryPlace}
use Rattle.executor_parts.specs.Places.{entry_in, future_of}
use Rattle.task_moves.specs.declared.local_task.answers.Back.{Back}
use Rattle.task_moves.specs.declared.local_task.answers.Back.TheVariants.{Ready, Pending}
use Rattle.task_moves.specs.declared.local_task.answers.Polled.TheVariants.{Closed}
use Rattle.solo.specs.declared.names.Kind.{Kind}
use Rattle.solo.specs.declared.names.Task.{Task}
use Rattle.solo.specs.declared.names.SoloWaker.{SoloWaker}
use Rattle.solo.specs.declared.owed.Lent.{Lent}
use Rattle.solo.specs.declared.owed.Spawned.{Spawned}
use Rattle.solo.specs.declared.owed.SpawnError.{SpawnError}
use Rattle.solo.specs.declared.owed.SpawnError.TheVariants.{Full, NoMemory}
use Rattle.solo.specs.declared.solo.Solo.{Solo}
use Rattle.solo.specs.declared.cells.Cell.{Cell}
use Rattle.solo.specs.declared.cells.Cells.{Cells}
use Rattle.solo.specs.declared.cells.After.{After}
use Rattle.solo.specs.declared.cells.After.TheVariants.{Queue, Rest, Drop as DropFuture, Unknown}
use Rattle.solo.specs.Table.{Same, first_parts}
use Rattle.solo.specs.Cells.{Kept, choose, asked, asked_by, changed}
use Rattle.solo.specs.Cells as cells
use Rattle.solo.specs.Turns as turns
use Rattle.solo.specs.Turns.{turned}
use Rattle.solo.specs.Steals.{seek_answer, sought}
use Rattle.solo.specs.Solo as solo
use Rattle.solo.specs.Closing as closing
use Rattle.solo.specs.Runs as runs
use Rattle.solo.specs.Ticks as ticks
use Rattle.solo_laws.specs.Calls.{Call, Does, Course, Spawn, SpawnRefused, Take, Settle, Finish, Wake, WakeAndRelease, Hold, Release}
use Rattle.solo_laws.specs.Calls.{Cancel, Detach, Poll, Retract, MakeTick, TickTake}
use Rattle.solo_laws.specs.Calls.{TickSearch, TickSleep, TickLeave, MakeRun, RunBegin, RunTake}
use Rattle.solo_laws.specs.Calls.{RunSearch, RunLeave, RunDrain, Leak, LeakNext, Close, Drain}
use Rattle.solo_laws.specs.Futures.{sum_of}
use Rattle.solo_laws.specs.Outputs.{weight_out, weight_given, weight_polled, weight_kept, outputs_inside, given_in, given_out}
use Rattle.solo_laws.specs.Outputs.{all_given_out}
use Rattle.solo_laws.specs.Outputs.{OutputsBalance}
use Rattle.solo_laws.proofs.Kept.{early_in, Holds, gives_so, keeps_so, tidied_holds, entered_total}
use Rattle.solo_laws.proofs.Giving.{woken_gives, cancelled_gives, released_gives, held_gives, detached_gives, polled_gives, started_gives}
use Rattle.solo_laws.proofs.Giving.{retracted_gives, finished_gives, ended_pending_gives, ended_ready_gives}
use Rattle.solo_laws.proofs.CellFrames.{scheduled_at, scheduled_if_at, loosed_at, let_go_at, left_at, tick_left_at, sought_at}
use Rattle.solo_laws.proofs.CellFrames.{run_drained_at}
use Rattle.solo_laws.proofs.CellFrames.{taken_by_at, tick_taken_at, tick_searched_at, slept_at, run_taken_at, run_searched_at}

module _ {T X : Type 0} {B : Type 0} (h : B → ℕ) (q : Kept T X → B) (b : B) where
  weight_by : (his : Bool) (a : B) → h (choose his a b) ≡ choose his (h a) (h b)
  weight_by true a = refl
  weight_by false a = refl

  weight_in : (u : Task) (found : Option (Cell T X)) → h (asked_by q b u found) ≡ asked_by (λ v. h (q v)) (h b) u found
  weight_in u None = refl
  weight_in u (Some c) = weight_by (c.number == u.number) (q c.task)

  weight_asked : (u : Task) (s : Cells T X) → h (asked q b u s) ≡ asked (λ v. h (q v)) (h b) u s
  weight_asked u s = weight_in u (get s.slab u.key)

module _ {T X : Type 0} (weigh : T → ℕ) where
  abbrev H : ℕ → Cells T X → Type 0
  H n s = Holds weigh n s

  woke : (n : ℕ) (u : Task) (s : Cells T X) → H n s → H n (changed cells.woken u s)
  woke n u s h = keeps_so weigh cells.woken (woken_gives weigh) n u s h

  loose : (n : ℕ) (u : Task) (s : Cells T X) → H n s → H n (changed cells.released u s)
  loose n u s h = keeps_so weigh cells.released (released_gives weigh) n u s h

  tidy : (n : ℕ) (u : Task) (s : Cells T X) → H n s → H n (cells.tidied u s)
  tidy n u s h = tidied_holds weigh n u s h

  start : (n : ℕ) (u : Task) (s : Cells T X) → H n s → H n (changed cells.started u s)
  start n u s h = keeps_so weigh cells.started (started_gives weigh) n u s h

  module _ {F : Type 0} where
    gone_holds : (n : ℕ) (u : Task) (s : Solo F T X) → H n s.cells → H n (closing.finished_gone u s).cells
    gone_holds n u s h =
        tidy n u (changed cells.finished u s.cells) (keeps_so weigh cells.finished (finished_gives weigh) n u s.cells h)

    retracted_future : (future : Option F) (n : ℕ) (u : Task) (s : Solo F T X) → H n s.cells →
        H n (closing.retracted_future future u s).cells
    retracted_future (Some future) n u s h = h
    retracted_future None n u s h = gone_holds n u s h

    retracted_by : (place : Option EntryPlace) (n : ℕ) (u : Task) (s : Solo F T X) → H n s.cells →
        H n (closing.retracted_by place u s).cells
    retracted_by (Some place) n u s h = retracted_future (future_of (entry_in place s.table.entries)) n u (closing.out place s) h
    retracted_by None n u s h = h

    retracted_holds : (n : ℕ) (u : Task) (s : Solo F T X) → H n s.cells → H n (closing.retracted u s).cells
    retracted_holds n u s h =
        retracted_by (asked cells.retract_answer None u s.cells) n u (turned cells.retracted u s)
        (keeps_so weigh cells.retracted (retracted_gives weigh) n u s.cells h)

    pending_holds : (after : After) (lent : Lent) (future : F) (n : ℕ) (s : Solo F T X) → H n s.cells
        → H n (solo.pending_by after lent future s).cells
    pending_holds DropFuture lent future n s h = h
    pending_holds Unknown lent future n s h = h
    pending_holds Rest lent future n s h = h
    pending_holds Queue lent future n s h = scheduled_at (H n) (woke n) (loose n) (tidy n) lent.task (solo.put_back lent future s) h

    pending_out : (after : After) (lent : Lent) (future : F) (s : Solo F T X)
        → weight_out weigh (solo.pending_answer_by after lent future s).output ≡ 0
    pending_out DropFuture lent future s = refl
    pending_out Unknown lent future s = refl
    pending_out Rest lent future s = refl
    pending_out Queue lent future s = refl

    leaving_holds : (n : ℕ) (u : Task) (s : Solo F T X) → H n s.cells → H n (closing.leaving_woken u s).cells
    leaving_holds n u s h =
        let one : Solo F T X = solo.woken u s in
        let first : H n one.cells =
        scheduled_if_at (H n) (woke n) (loose n) (tidy n) (asked cells.wake_queues false u s.cells) u (turned cells.woken u s)
        (woke n u s.cells h) in
        tidy n u (turns.loosed u one).cells (loosed_at (H n) (woke n) (loose n) (tidy n) u one first)

    leak_holds : (first : Option Task) (n : ℕ) (s : Solo F T X) → H n s.cells → H n (closing.leak_woken_by first s).cells
    leak_holds (Some u) n s h = leaving_holds n u s h
    leak_holds None n s h = h

    line_holds : (first : Option Task) (n : ℕ) (s : Solo F T X) → H n s.cells → H n (closing.line_drained_by first s).cells
    line_holds (Some u) n s h = retracted_holds n u s h
    line_holds None n s h = h

    waking_holds : (first : Option Task) (n : ℕ) (s : Solo F T X) → H n s.cells → H n (closing.drained_waking first s).cells
    waking_holds (Some u) n s h = leaving_holds n u s h
    waking_holds None n s h =
        line_holds (closing.first_lined (closing.shut_line s)) n (closing.first_out (closing.shut_line s)) h

    drained_holds : (parts : Option (Option F × Option Task)) (n : ℕ) (s : Solo F T X) → H n s.cells →
        H n (closing.drained_by parts s).cells
    drained_holds (Some parts) n s h = h
    drained_holds None n s h = waking_holds (slice_get s.leaving.items 0) n (closing.first_left s) h

    -- what a call takes in and hands out
    abbrev Taking : Call F T X → Solo F T X → Solo F T X → Type 0
    Taking call old new =
        (n : ℕ) → H n old.cells
        → (sum_by early_in new.cells.slab.slots ≡ 0)
        × (outputs_inside weigh new + given_out weigh call old ≡ n + given_in weigh call)

    abbrev Leaves : ℕ → ℕ → ℕ → Solo F T X → Type 0
    Leaves n out more s = (sum_by early_in s.cells.slab.slots ≡ 0) × (outputs_inside weigh s + out ≡ n + more)

    quiet : (n : ℕ) (new after : Solo F T X) → new ≡ after → H n after.cells → Leaves n 0 0 new
    quiet n new after is h =
        subst (Leaves n 0 0) (sym is) (h.0, (let weighs = h.1 in omega (arith, weighs)))

    -- after a change that hands out, what tasks weigh stays
    onward : (n out more : ℕ) (s after : Solo F T X)
        → (sum_by early_in s.cells.slab.slots ≡ 0) × (outputs_inside weigh s + out ≡ n + more)
        → ((k : ℕ) → H k s.cells → H k after.cells) → Leaves n out more after
    onward n out more s after by stays =
        let rest = stays (outputs_inside weigh s) (by.0, refl) in
        (rest.0, (let one = rest.1 in let two = by.1 in omega (arith, one, two)))

    detached : (n : ℕ) (u : Task) (s : Solo F T X) → H n s.cells
        → Leaves n (weight_out weigh (solo.detach_answer u s).output) 0 (solo.detached u s)
    detached n u s h =
        let off : Solo F T X = turned cells.detached u s in
        let due : Bool = is_some (asked cells.detach_queues None u s.cells) in
        let by = gives_so weigh cells.detached (λ v. weight_out weigh (cells.detach_drops v)) 0 (detached_gives weigh) n u s.cells h in
        let out = weight_asked (weight_out weigh) cells.detach_drops None u s.cells in
        onward n (weight_out weigh (solo.detach_answer u s).output) 0 off (solo.detached u s)
        (by.0, (let weighs = by.1 in omega (arith, weighs, out)))
        (λ k held. tidy k u (turns.scheduled_if due u off).cells (scheduled_if_at (H k) (woke k) (loose k) (tidy k) due u off held))

    polled : (n : ℕ) (u : Task) (waker : SoloWaker X) (s : Solo F T X) → H n s.cells
        → Leaves n (weight_polled weigh (solo.poll_answer u waker s)) 0 (solo.polled u waker s)
    polled n u waker s h =
        let by =
        gives_so weigh (cells.polled waker) (λ v. weight_polled weigh (cells.poll_answer waker v)) 0 (polled_gives weigh waker)
        n u s.cells h in
        let out = weight_asked (weight_polled weigh) (cells.poll_answer waker) (Closed waker) u s.cells in
        (by.0, (let weighs = by.1 in omega (arith, weighs, out)))

    settled : (n : ℕ) (lent : Lent) (back : Back F T) (s : Solo F T X) → H n s.cells
        → Leaves n (weight_out weigh (solo.settle_answer lent back s).output) (weight_given weigh back) (solo.settled lent back s)
    settled n lent (Ready output) s h =
        let gone : Solo F T X = turns.left lent.place s in
        let held : H n gone.cells = left_at (H n) (woke n) (loose n) (tidy n) lent.place s h in
        let by =
        gives_so weigh (cells.ended_ready output) (λ v. weight_out weigh (cells.ready_drops output v)) (weigh output)
        (ended_ready_gives weigh output) n lent.task gone.cells held in
        let out = weight_asked (weight_out weigh) (cells.ready_drops output) (Some output) lent.task gone.cells in
        onward n (weight_out weigh (solo.settle_answer lent (Ready output) s).output) (weigh output)
        (turned (cells.ended_ready output) lent.task gone) (solo.settled lent (Ready output) s)
        (by.0, (let weighs = by.1 in omega (arith, weighs, out)))
        (λ k held. tidy k lent.task (changed (cells.ended_ready output) lent.task gone.cells) held)
    settled n lent (Pending future) s h =
        let over : Solo F T X = turned (cells.ended_pending lent.place) lent.task s in
        let held : H n over.cells =
        keeps_so weigh (cells.ended_pending lent.place) (ended_pending_gives weigh lent.place) n lent.task s.cells h in
        let after = pending_holds (solo.after_poll lent s) lent future n over held in
        let none = pending_out (solo.after_poll lent s) lent future over in
        (after.0, (let weighs = after.1 in omega (arith, weighs, none)))

    finished_holds : (n : ℕ) (lent : Lent) (s : Solo F T X) → H n s.cells → H n (solo.finished lent s).cells
    finished_holds n lent s h =
        gone_holds n lent.task (turns.left lent.place s) (left_at (H n) (woke n) (loose n) (tidy n) lent.place s h)

    spawned_leaves : (n : ℕ) (mark : Mark) (future : F) (spawned : Spawned X) (old new : Solo F T X)
        → solo.Spawns mark future old (Ok spawned) new → H n old.cells → Leaves n 0 0 new
    spawned_leaves n mark future spawned old new does h =
        let s : Solo F T X = does.0 in
        let u : Task = spawned.task in
        let accepts = does.1.0 in
        let cell = accepts.cell in
        let one = entered_total early_in refl u.key old.cells.slab.slots s.cells.slab.slots accepts.was_free cell.others in
        let two = entered_total (weight_kept weigh) refl u.key old.cells.slab.slots s.cells.slab.slots accepts.was_free cell.others in
        let early_new : early_in (get s.cells.slab u.key) ≡ 0 = ap early_in cell.changed in
        let weight_new : weight_kept weigh (get s.cells.slab u.key) ≡ 0 = ap (weight_kept weigh) cell.changed in
        let early_old = h.0 in
        let weighs = h.1 in
        let held : H n s.cells = (omega (arith, one, early_new, early_old), omega (arith, two, weight_new, weighs)) in
        quiet n new (turns.scheduled u s) does.2 (scheduled_at (H n) (woke n) (loose n) (tidy n) u s held)

    same_cells : (n : ℕ) (old new : Solo F T X) → Same old.table old.cells new.table new.cells → H n old.cells → Leaves n 0 0 new
    same_cells n old new same h =
        let one = ap (sum_by early_in) same.slots in
        let two = ap (sum_by (weight_kept weigh)) same.slots in
        let early_old = h.0 in
        let weighs = h.1 in
        (omega (arith, one, early_old), omega (arith, two, weighs))

    refused_leaves : (n : ℕ) (mark : Mark) (future : F) (refused : SpawnError F) (old new : Solo F T X)
        → solo.Spawns mark future old (Err refused) new → H n old.cells → Leaves n 0 0 new
    refused_leaves n mark future (Full back) old new does h = same_cells n old new does.0.2 h
    refused_leaves n mark future (NoMemory back) old new does h = same_cells n old new does.0.3 h

    step : (call : Call F T X) (old new : Solo F T X) → Does call old new → Taking call old new
    step (Spawn mark future) old new does n h = spawned_leaves n mark future does.0 old new does.1 h
    step (SpawnRefused mark future) old new does n h = refused_leaves n mark future does.0 old new does.1 h
    step Take old new is n h =
        quiet n new (solo.taken old) is
        (taken_by_at (H n) (woke n) (loose n) (tidy n) (start n) (solo.sought old) (solo.popped old) h)
    step (Settle lent back) old new is n h =
        subst (Leaves n (weight_out weigh (solo.settle_answer lent back old).output) (weight_given weigh back)) (sym is)
        (settled n lent back old h)
    step (Finish lent) old new is n h = quiet n new (solo.finished lent old) is (finished_holds n lent old h)
    step (Wake u) old new is n h =
        quiet n new (solo.woken u old) is
        (scheduled_if_at (H n) (woke n) (loose n) (tidy n) (asked cells.wake_queues false u old.cells) u (turned cells.woken u old)
        (woke n u old.cells h))
    step (WakeAndRelease u) old new is n h =
        let both : Solo F T X = turned cells.released u (turned cells.woken u old) in
        quiet n new (solo.woken_and_released u old) is
        (tidy n u (turns.scheduled_if (solo.wakes_or_closes u old) u both).cells
        (scheduled_if_at (H n) (woke n) (loose n) (tidy n) (solo.wakes_or_closes u old) u both
        (loose n u (turned cells.woken u old).cells (woke n u old.cells h))))
    step (Hold u) old new is n h =
        quiet n new (solo.held u old) is (keeps_so weigh cells.held (held_gives weigh) n u old.cells h)
    step (Release u) old new is n h =
        quiet n new (solo.released u old) is (let_go_at (H n) (woke n) (loose n) (tidy n) u old h)
    step (Cancel u) old new is n h =
        quiet n new (solo.cancelled u old) is
        (scheduled_if_at (H n) (woke n) (loose n) (tidy n) (is_some (asked cells.cancel_queues None u old.cells)) u
        (turned cells.cancelled u old) (keeps_so weigh cells.cancelled (cancelled_gives weigh) n u old.cells h))
    step (Detach u) old new is n h =
        subst (Leaves n (weight_out weigh (solo.detach_answer u old).output) 0) (sym is) (detached n u old h)
    step (Poll u waker) old new is n h =
        subst (Leaves n (weight_polled weigh (solo.poll_answer u waker old)) 0) (sym is) (polled n u waker old h)
    step (Retract u) old new is n h = quiet n new (closing.retracted u old) is (retracted_holds n u old h)
    step MakeTick old new (inl is) n h = quiet n new (ticks.roomy old) is h
    step MakeTick old new (inr is) n h = quiet n new old is h
    step (TickTake ticker waker) old new is n h =
        quiet n new (ticks.taken ticker waker old) is
        (tick_taken_at (H n) (woke n) (loose n) (tidy n) (start n) (solo.sought old) ticker waker (solo.popped old) h)
    step (TickSearch ticker) old new is n h =
        quiet n new (ticks.searched ticker old) is
        (tick_searched_at (H n) (woke n) (loose n) (tidy n) (start n) (solo.sought old) ticker (solo.popped old) h)
    step (TickSleep ticker waker) old new is n h =
        quiet n new (ticks.slept ticker waker old) is (slept_at (H n) (woke n) (loose n) (tidy n) ticker waker old h)
    step (TickLeave ticker) old new is n h =
        quiet n new (ticks.left ticker old) is (tick_left_at (H n) (woke n) (loose n) (tidy n) ticker old h)
    step MakeRun old new (inl is) n h = quiet n new (runs.made old) is h
    step MakeRun old new (inr is) n h = quiet n new old is h
    step (RunBegin runner) old new is n h = quiet n new (runs.begun runner old) is h
    step (RunTake runner ticker waker start_at) old new is n h =
        quiet n new (runs.took runner ticker waker start_at old) is
        (run_taken_at (H n) (woke n) (loose n) (tidy n) (start n) (seek_answer runner.number start_at old).task runner ticker waker
        (sought runner.number start_at old) (sought_at (H n) (woke n) (loose n) (tidy n) runner.number start_at old h))
    step (RunSearch runner ticker start_at) old new is n h =
        quiet n new (runs.searched runner ticker start_at old) is
        (run_searched_at (H n) (woke n) (loose n) (tidy n) (start n) (seek_answer runner.number start_at old).task
        runner ticker (sought runner.number start_at old)
        (sought_at (H n) (woke n) (loose n) (tidy n) runner.number start_at old h))
    step (RunLeave runner) old new is n h = quiet n new (runs.left runner old) is h
    step (RunDrain leaving) old new is n h =
        quiet n new (runs.drained leaving old) is
        (run_drained_at (H n) (woke n) (loose n) (tidy n) (runs.first_left leaving.own) leaving.ticker old h)
    step Leak old new is n h = quiet n new (closing.leaked old) is h
    step LeakNext old new is n h =
        quiet n new (closing.leak_woken old) is (leak_holds (slice_get old.leaving.items 0) n (closing.first_left old) h)
    step Close old new is n h = quiet n new (closing.closed old) is h
    step Drain old new is n h =
        quiet n new (closing.drained old) is (drained_holds (first_parts old.going.entries) n (closing.first_going old) h)

    course : (calls : List (Call F T X)) (first last : Solo F T X) (does : Course calls first last)
        → sum_by early_in first.cells.slab.slots ≡ 0
        → outputs_inside weigh last + all_given_out weigh calls first last does ≡ sum_of (given_in weigh) calls + outputs_inside weigh first
    course [] first last does none =
        let same : outputs_inside weigh last ≡ outputs_inside weigh first = ap (λ (s : Solo F T X). outputs_inside weigh s) does in
        omega (arith, same)
    course (call ∷ calls) first last does none =
        let one = step call first does.0 does.1 (outputs_inside weigh first) (none, refl) in
        let rest = course calls does.0 last does.2 one.0 in
        (let now = one.1 in omega (arith, now, rest))

    pub outputs_balance : (limit : ℕ) (kind : Kind) (calls : List (Call F T X)) (first last : Solo F T X) → solo.IsNew limit kind first
        → (does : Course calls first last) → OutputsBalance weigh calls first last does
    outputs_balance limit kind calls first last new does =
        let early_none : sum_by early_in first.cells.slab.slots ≡ 0 = ap (sum_by early_in) new.cells in
        let none : outputs_inside weigh first ≡ 0 = ap (sum_by (weight_kept weigh)) new.cells in
        let all = course calls first last does early_none in
        let balanced : sum_of (given_in weigh) calls ≡ outputs_inside weigh last + all_given_out weigh calls first last does =
        omega (arith, none, all) in
        balanced
