-- For awaiters_are_kept.
-- At a quiet trace the waker of the last poll of a handle was called, if that was answered that there is no output yet.
use Rattle.std.proofs.Common.{◌≡◌, ◌⊎◌, ℕ, suc, ◌<◌, ◌≤◌, List, [], ◌∷◌, length, Bool, true, false, refl, sym, ap, ◌∙◌, subst}
use Rattle.std.{proofs.Common.⊎_elim, proofs.Common.arith, proofs.lemmas.List.get_or_past}
use Rattle.executor_model.specs.AwaiterKept.{since, IsOverWithHandle, AwaiterIsKept}
use Rattle.executor_model.specs.Sound.{Sound, Pend, pend, queued, times, times_in, phase}
use Rattle.executor_model.specs.{Trace.Trace, Trace.is_dropped, World.World, World.task, World.blank, Sound.Phase.Over}
use Rattle.executor_model.specs.{Good.Good, Weights.past, Rows.ousting_of, Steps.Machine, Steps.stack, Steps.run, Steps.start}
use Rattle.executor_model.proofs.Awaiters.AwaitedSweeps.{lists, Sweep, sweep, Sweeps, dropping_of, draining_plain_of}
use Rattle.executor_model.proofs.Awaiters.AwaitedTelling.{parted-has, dropped-has, over-dropped, Begun, begun-at, called-from}
use Rattle.executor_model.proofs.Quiet.Resting.{Deep, deep, rests, all-rest}
use Rattle.executor_model.proofs.OneFuture.Telling.{fallen-counts, counted-there}
use Rattle.executor_model.proofs.OneFuture.Extras.{Extra, no_extra, extra, extra-none}
use Rattle.executor_model.proofs.Awaiters.Awaited.{Heard, heard, Awaiting, awaiting, Awaits, Mark}
use Rattle.executor_model.proofs.OwnQueues.UsingSteps.{OwnEmptied, own-emptied}
use Rattle.executor_model.proofs.Awaiters.AwaitedSweeps.{draining_urgent_of, rousing_of, shutting_plain_of, shutting_urgent_of}
use Rattle.executor_model.proofs.Awaiters.AwaitedSteps.{Waited, awaiting-none, nothing_awaited}
use Rattle.executor_model.proofs.{Steps.QueuesByMark.times-all, Types.Kind, Types.Step, Steps.Cases.by_bool}
use Rattle.executor_model.proofs.{Steps.Lists.past_is, Steps.Lift.good, OneFuture.Stories.story, Table.Leaving.Leaves}
use Rattle.executor_model.proofs.{Table.LeavingExecutions.Placed, Table.LeavingExecutions.placed, Awaiters.AwaitedClosing.Swept}
use Rattle.executor_model.proofs.{Awaiters.AwaitedClosing.swept, Awaiters.AwaitedCalls.marked, Steps.Growing.pend-none}
use Rattle.executor_model.proofs.{OneFuture.Views.none, Awaiters.AwaitedExecutions.waited, Awaiters.AwaitedTelling.pending-at}

abbrev nothing_swept : Sweep
nothing_swept = record {
  outs = 0;
  drops = 0;
  wakes = 0;
  shuts_urgent = 0;
  shuts_plain = 0;
  drains_urgent = 0;
  drains_plain = 0;
}

no-times : (g : ℕ) (xs : List ℕ) → length xs ≡ 0 → times g xs ≡ 0
no-times g [] e = refl
no-times g (x ∷ xs) e = absurd (omega (arith, e))

-- where nothing is left to do, a dropped future has no Runnable
none-queued : (gone : Bool) (w : World) (g : ℕ) → w.gone ≡ gone → Leaves w g none no_extra →
    Sweeps (lists w) nothing_swept → (w.gone ≡ true → times_in g w.own ≡ 0) → 1 ≤ (story g w.trace).fallen →
    queued w g ≡ 0
none-queued = by_bool _
    (λ w g e l v o k.
    let u : times g w.queues.urgent.items ≡ 0 = ⊎_elim (λ (x : 1 ≤ 0). absurd (omega (arith, x)))
    (λ (x : length w.queues.urgent.items ≡ 0). no-times g w.queues.urgent.items x) (v.urgent_drained e) in
    let n : times g w.queues.plain.items ≡ 0 = ⊎_elim (λ (x : 1 ≤ 0). absurd (omega (arith, x)))
    (λ (x : length w.queues.plain.items ≡ 0). no-times g w.queues.plain.items x) (v.plain_drained e) in
    omega (arith, u, n, times-all g w.queues, o e))
    (λ w g e l v o k. let z : _ = (past_is (length w.tasks) g).1 in grind arith)

none-waking : (w : World) (g : ℕ) → Sweeps (lists w) nothing_swept → w.gone ≡ true → times g w.waking ≡ 0
none-waking w g v e = ⊎_elim (λ (x : 1 ≤ 0). absurd (omega (arith, x)))
    (λ (x : length w.waking ≡ 0). no-times g w.waking x) (v.awake e)

-- it is settled
settled : (gone : Bool) (w : World) (g : ℕ) (m : Mark) → w.gone ≡ gone → Sound w g none →
    Awaits w g none nothing_awaited m → Sweeps (lists w) nothing_swept → (heard g w.trace).dropped ≡ true →
    (task w g).scheduled ≡ false → (task w g).running ≡ false →
    ((task w g).closed ≡ true) ⊎ ((task w g).completed ≡ true)
settled = by_bool _
    (λ w g m e h a v d s r. let z : times g w.waking ≡ 0 = none-waking w g v e in grind arith)
    (λ w g m e h a v d s r. let z : phase g w.trace ≡ Over = over-dropped g w.trace d h.lawful in grind arith)

not-scheduled : (b : Bool) (w : World) (g : ℕ) → (task w g).scheduled ≡ b → Sound w g none →
    queued w g ≡ 0 → b ≡ false
not-scheduled false w g e h z = refl
not-scheduled true w g e h z = absurd (omega (arith, h.owed e, z))

not-running : (b : Bool) (w : World) (g : ℕ) → (task w g).running ≡ b → Sound w g none → b ≡ false
not-running false w g e h = refl
not-running true w g e h = absurd (omega (arith, h.going e))

-- a task that is settled is one
blank-open : (w : World) (g : ℕ) → ((task w g).closed ≡ true) ⊎ ((task w g).completed ≡ true) → (length w.tasks ≤ g) → ⊥
blank-open w g h l = let z : task w g ≡ blank = get_or_past w.tasks g blank l in grind arith

known-task : (w : World) (g : ℕ) → ((task w g).closed ≡ true) ⊎ ((task w g).completed ≡ true) → g < length w.tasks
known-task w g h = ⊎_elim (λ (x : (past (length w.tasks) g ≡ 0) × (g < length w.tasks)). x.1)
    (λ (x : (past (length w.tasks) g ≡ 1) × (length w.tasks ≤ g)). absurd (blank-open w g h x.1))
    (past_is (length w.tasks) g).1

handle-there : (b : Bool) (w : World) (g : ℕ) (m : Mark) → (task w g).handle ≡ b →
    Awaits w g none nothing_awaited m → ((task w g).closed ≡ true) ⊎ ((task w g).completed ≡ true) →
    (heard g w.trace).parted ≡ false → b ≡ true
handle-there true w g m e a h n = refl
handle-there false w g m e a h n = let no : true ≡ false = sym (a.parted (known-task w g h) e) ∙ n in absurd (cc)

called-there : (w : World) (g : ℕ) (m : Mark) → Awaits w g none nothing_awaited m →
    (heard g w.trace).parted ≡ false → (task w g).handle ≡ true →
    ((task w g).closed ≡ true) ⊎ ((task w g).completed ≡ true) →
    (task w g).scheduled ≡ false → (task w g).running ≡ false → (heard g w.trace).pending ≡ true →
    (heard g w.trace).called ≡ true
called-there w g m a n k h s r p = grind arith

module _ (s : Machine) (fine : Good s) (h : Placed s) (d : Deep s) (v : Swept s) (x : Waited s) (e : OwnEmptied s)
    (g : ℕ)
    (over : IsOverWithHandle g s.world.trace) where
  idle : (q : ℕ) → stack s q ≡ []
  idle q = rests s d over.quiet q

  is-nothing : pend g s.parties ≡ none
  is-nothing = pend-none g s.parties (λ v. all-rest v s.parties idle)

  is-no-more : extra g s.parties ≡ no_extra
  is-no-more = extra-none g s.parties (λ v. all-rest v s.parties idle)

  is-swept : sweep s.parties ≡ nothing_swept
  is-swept = λ i. record {
    outs = all-rest ousting_of s.parties idle i;
    drops = all-rest dropping_of s.parties idle i;
    wakes = all-rest rousing_of s.parties idle i;
    shuts_urgent = all-rest shutting_urgent_of s.parties idle i;
    shuts_plain = all-rest shutting_plain_of s.parties idle i;
    drains_urgent = all-rest draining_urgent_of s.parties idle i;
    drains_plain = all-rest draining_plain_of s.parties idle i;
  }

  is-none-awaited : awaiting g s.parties ≡ nothing_awaited
  is-none-awaited = awaiting-none g s.parties (λ v. all-rest v s.parties idle)

  sound-here : Sound s.world g none
  sound-here = subst (Sound s.world g) is-nothing (fine.sound g)

  leaves-here : Leaves s.world g none no_extra
  leaves-here = subst (λ (y : Pend × Extra). Leaves s.world g y.0 y.1) (λ i. (is-nothing i, is-no-more i)) (h.leaves g)

  awaits-here : Awaits s.world g none nothing_awaited (marked s.world g nothing_awaited)
  awaits-here = subst (λ (y : Pend × Awaiting). Awaits s.world g y.0 y.1 (marked s.world g y.1))
      (λ i. (is-nothing i, is-none-awaited i)) (x.awaits g)

  swept-here : Sweeps (lists s.world) nothing_swept
  swept-here = subst (Sweeps (lists s.world)) is-swept v

  dropped : (heard g s.world.trace).dropped ≡ true
  dropped = dropped-has g s.world.trace ∙ over.dropped

  kept : (heard g s.world.trace).parted ≡ false
  kept = parted-has g s.world.trace ∙ over.handle

  none-left : queued s.world g ≡ 0
  none-left = none-queued s.world.gone s.world g refl leaves-here swept-here (λ k. e k g)
      (omega (arith, fallen-counts g s.world.trace, counted-there (is_dropped g) s.world.trace over.dropped))

  unscheduled : (task s.world g).scheduled ≡ false
  unscheduled = not-scheduled (task s.world g).scheduled s.world g refl sound-here none-left

  stopped : (task s.world g).running ≡ false
  stopped = not-running (task s.world g).running s.world g refl sound-here

  is-settled : ((task s.world g).closed ≡ true) ⊎ ((task s.world g).completed ≡ true)
  is-settled = settled s.world.gone s.world g _ refl sound-here awaits-here swept-here dropped unscheduled stopped

  pub called-at-rest : (heard g s.world.trace).pending ≡ true → (heard g s.world.trace).called ≡ true
  called-at-rest = called-there s.world g _ awaits-here kept
      (handle-there (task s.world g).handle s.world g _ refl awaits-here is-settled kept) is-settled unscheduled stopped

-- as the definition has it
kept-at-rest : (f : ℕ) (trace : Trace) →
    (IsOverWithHandle f trace → (heard f trace).pending ≡ true → (heard f trace).called ≡ true) → AwaiterIsKept f trace
kept-at-rest f trace k party poll over last =
    let b : Begun f poll party trace = begun-at f poll party trace last.polled in
    let p : (heard f trace).pending ≡ true = ap (λ (t : Heard). t.pending) b.all ∙ pending-at f (suc poll) party poll
    b.before (since poll trace) last.last last.pending in
    sym (called-from f (suc poll) poll
    (record b.before { poll = poll; party = party; asking = true; inner = 0; pending = false; called = false })
    (since poll trace) refl last.last) ∙ (sym (ap (λ (t : Heard). t.called) b.all) ∙ k over p)

pub awaiter-is-kept : (limit : ℕ) (kind : Kind) (parties : ℕ) (steps : List Step) (f : ℕ) →
    AwaiterIsKept f (run steps (start limit kind parties)).world.trace
awaiter-is-kept limit kind parties steps f =
    kept-at-rest f _ (λ over. called-at-rest (run steps (start limit kind parties)) (good limit kind parties steps)
    (placed limit kind parties steps) (deep limit kind parties steps) (swept limit kind parties steps) (waited limit kind parties steps)
    (own-emptied limit kind parties steps) f over)
