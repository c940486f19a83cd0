-- For own_queues_agree.
-- What keeps the own queue of a run in hand.
use Rattle.std.proofs.Common.{◌≡◌, ◌≢◌, ◌⊎◌, ◌∙◌, ℕ, ◌≤◌, List, [], ◌∷◌, ◌++◌, length, get_or, Bool, true, false, ◌&&◌, ◌||◌}
use Rattle.std.proofs.Common.{eqb, cond, refl, ap, inl, inr, ⊎_elim, arith}
use Rattle.std.proofs.lemmas.Bool.Decides.{nat_tests}
use Rattle.executor_model.proofs.Types.{Move, Event, ListOp, Op, Polled, RunOp, RunPoll, Section, Steal, StealOp, TickOp}
use Rattle.executor_model.proofs.Types.{UserOp, Waker, Task, Outside, Hint}
use Rattle.executor_model.specs.World.{World, Done, log, own_of, put_own}
use Rattle.executor_model.specs.{Doing.act, Doing.list_act, Rows.running_of, Weights.same, Weights.weigh, Weights.is_run}
use Rattle.executor_model.proofs.OwnQueues.OwnRooms.{of_coat, shorter-taken, Shorter, grown, made-length, same-own}
use Rattle.executor_model.proofs.OwnQueues.RunsDone.{to_leave, to_walk, misses_last, Deed, keeps, takes, lacks, shares, grows, wakes}
use Rattle.executor_model.proofs.OwnQueues.RunsDone.{lists, deed-act, is_loud, loud, loud-weigh, poll_in, Stole, More, no_more}
use Rattle.executor_model.proofs.OwnQueues.RunsDone.{one_more, Missing, Leads, quiet, slumbering, turns, finds, stole, looks}
use Rattle.executor_model.proofs.OwnQueues.RunsSeen.{seen, Seen, seen-act}
use Rattle.executor_model.proofs.OwnQueues.RunsWatched.{Watched, watched, watched-push}
use Rattle.executor_model.proofs.{Steps.Lift.no_hint, Steps.Lists.same_cases, OwnQueues.OwnRooms.registered-own}
use Rattle.executor_model.proofs.{OwnQueues.RunsAside.Hull, OwnQueues.RunsAside.apart-act, OwnQueues.Using.polling_of}
use Rattle.executor_model.proofs.{OwnQueues.RunsNaming.stray, OwnQueues.RunsNaming.stray_of, Steps.Tests.or-right}
use Rattle.executor_model.specs.ActsOfRuns as runs

-- who has run r in hand, and hasn't found its own queue empty

abbrev pub keeps_section : ℕ → Section → ℕ
keeps_section r Section.MakeRun = 0
keeps_section r (Section.Register x) = same r x.run
keeps_section r (Section.Unregister q a) = same r q

abbrev pub keeps_list : ℕ → ListOp → ℕ
keeps_list r (ListOp.LockWrite s) = keeps_section r s
keeps_list r (ListOp.Write s) = keeps_section r s
keeps_list r _ = 0

abbrev pub keeps_run : ℕ → RunOp → ℕ
keeps_run r (RunOp.LookOwn x at left) = same r x.run
keeps_run r (RunOp.WakeOwn x) = same r x.run
keeps_run r (RunOp.Reschedule q a) = same r q
keeps_run r _ = 0

abbrev pub keeps_of : ℕ → Op → ℕ
keeps_of r (Op.User (UserOp.PollOwn x)) = same r x.run
keeps_of r (Op.Tick (TickOp.Search s)) = is_run r s.who
keeps_of r (Op.List o) = keeps_list r o
keeps_of r (Op.Steal o) = same r (poll_in o).run
keeps_of r (Op.Run o) = keeps_run r o
keeps_of r _ = 0

pub keeps-uses : (r : ℕ) (o : Op) → keeps_of r o ≤ running_of r o
keeps-uses r (Op.User (UserOp.PollOwn x)) = omega arith
keeps-uses r (Op.Tick (TickOp.Search s)) = omega arith
keeps-uses r (Op.List (ListOp.LockWrite Section.MakeRun)) = omega arith
keeps-uses r (Op.List (ListOp.Write Section.MakeRun)) = omega arith
keeps-uses r (Op.Steal (StealOp.Length s)) = omega arith
keeps-uses r (Op.Run RunOp.MakeRoom) = omega arith
keeps-uses r _ = omega arith

-- it calls itself
abbrev pub IsCalled : ℕ → World → Type 0
IsCalled r w = ((watched r w.trace).polled ≡ true) × ((watched r w.trace).called ≡ true)

-- what stands in its own queue stood there before, and as much has the run in hand; or something has; or it calls
-- itself;
-- where old names the last poll
pub record KeepsRuns (w : World) (old : List Op) (d : Done) : Type 0 where
  pub on : (r : ℕ) → weigh (stray_of r (watched r w.trace).poll) old ≡ 0 →
      (1 ≤ weigh (polling_of r) old → (watched r w.trace).polled ≡ true) → 1 ≤ length (own_of d.world r) →
      ((1 ≤ length (own_of w r)) × (weigh (keeps_of r) old ≤ weigh (keeps_of r) d.next))
      ⊎ ((1 ≤ weigh (keeps_of r) d.next) ⊎ IsCalled r d.world)

stays : (w : World) (old : List Op) (d : Done) → Shorter w d.world →
    ((r : ℕ) → weigh (keeps_of r) old ≤ weigh (keeps_of r) d.next) → KeepsRuns w old d
stays w old d s f = record { on = λ r z p l. inl (omega (arith, l, s.own r), f r) }

quiet-keeps : (r : ℕ) (o : Op) → is_loud o ≡ false → keeps_of r o ≡ 0
quiet-keeps r (Op.User (UserOp.PollOwn x)) e = absurd (cc)
quiet-keeps r (Op.Tick (TickOp.Search s)) e = absurd (cc)
quiet-keeps r (Op.List o) e = absurd (cc)
quiet-keeps r (Op.Steal o) e = absurd (cc)
quiet-keeps r (Op.Run (RunOp.LookOwn x at left)) e = absurd (cc)
quiet-keeps r (Op.Run (RunOp.WakeOwn x)) e = absurd (cc)
quiet-keeps r (Op.Run (RunOp.Reschedule q a)) e = absurd (cc)
quiet-keeps r _ e = refl

stays-of : (w : World) (o : Op) (d : Done) → Shorter w d.world →
    ((r : ℕ) → keeps_of r o ≤ weigh (keeps_of r) (loud d.next)) → KeepsRuns w (o ∷ []) d
stays-of w o d s f = stays w (o ∷ []) d s
    (λ r. omega (arith, f r, loud-weigh (keeps_of r) (quiet-keeps r) d.next))

-- it was the own queue of run q that was empty
empty-there : (w : World) (o : Op) (d : Done) (q : ℕ) → own_of w q ≡ [] → Shorter w d.world →
    ((r : ℕ) → keeps_of r o ≤ same r q) → KeepsRuns w (o ∷ []) d
empty-there w o d q e s f = record {
  on = λ r z p l. ⊎_elim
      (λ (x : (same r q ≡ 1) × (eqb r q ≡ true) × (r ≡ q)). absurd (omega (
        arith,
        l,
        s.own r,
        ap (λ (n : ℕ). length (own_of w n)) x.2,
        ap (λ (ys : List ℕ). length ys) e,
      )))
      (λ (x : (same r q ≡ 0) × (eqb r q ≡ false) × (r ≢ q)). inl (omega (arith, l, s.own r), omega (arith, f r, x.0)))
      (same_cases r q);
}

stole-keeps : (r : ℕ) (x : RunPoll) (n : ℕ) (os : List Op) → Stole x n os → weigh (keeps_of r) os ≡ same r x.run
stole-keeps r x n os (to_walk at left) = omega arith
stole-keeps r x n os to_leave = omega arith
stole-keeps r x n os _ = omega arith

more-keeps : (r : ℕ) (s : Steal) (k : ℕ) (os : List Op) → More s k os → weigh (keeps_of r) os ≡ same r s.poll.run
more-keeps r s k os (no_more z) = stole-keeps r _ _ os z
more-keeps r s k os (one_more j) = omega arith

missing-keeps : (r q : ℕ) (o : Op) (os : List Op) → Missing q o os → keeps_of r o ≤ same r q
missing-keeps r q o os (misses_last n a) = omega arith
missing-keeps r q o os _ = omega arith

leads-keeps : (r : ℕ) (o : Op) (os : List Op) → Leads o os → keeps_of r o ≤ weigh (keeps_of r) os
leads-keeps r o os (quiet _ e) = omega (arith, quiet-keeps r o e)
leads-keeps r o os (slumbering (TickOp.Search s) e) = absurd (cc)
leads-keeps r o os (slumbering (TickOp.Look s look) e) = absurd (cc)
leads-keeps r o os (turns s t look e) = omega (arith, ap (is_run r) e)
leads-keeps r o os (finds x z) = omega (arith, stole-keeps r x 0 os z)
leads-keeps r o os (stole a z) = omega (arith, stole-keeps r _ _ os z)
leads-keeps r o _ (looks x at left {os = os} z) = omega (arith, stole-keeps r x 0 os z)
leads-keeps r o os _ = omega arith

runs-grows : (w : World) (s : Steal) (i f : ℕ) (d : Done) →
    Shorter (put_own w s.poll.run (own_of w s.poll.run ++ f ∷ [])) d.world → More s i (loud d.next) →
    KeepsRuns w (Op.Steal (StealOp.Put s i f) ∷ []) d
runs-grows w s i f d h y = record {
  on = λ r z j l.
      let now = loud-weigh (keeps_of r) (quiet-keeps r) d.next ∙ more-keeps r s i (loud d.next) y in ⊎_elim
      (λ (x : (same r s.poll.run ≡ 1) × (eqb r s.poll.run ≡ true) × (r ≡ s.poll.run)). inr
      (inl (omega (arith, now, x.0))))
      (λ (x : (same r s.poll.run ≡ 0) × (eqb r s.poll.run ≡ false) × (r ≢ s.poll.run)).
      inl (omega (arith, l, h.own r, grown w.own s.poll.run f r x.2), omega (arith, now)))
      (same_cases r s.poll.run);
}

-- a run that calls its own waker calls that of its last poll

named : (r k q n : ℕ) → r ≡ q → stray r k q n ≡ 0 → eqb k n ≡ true
named r k q n i z = by (eqb k n) refl
  where
    here : eqb r q ≡ true
    here = grind (arith, nat_tests)

    by : (b : Bool) → eqb k n ≡ b → eqb k n ≡ true
    by true e = e
    by false e = absurd (omega (
      arith,
      z,
      ap {B = ℕ} (λ (b : Bool). cond b (cond (eqb k n) 0 1) 0) here,
      ap {B = ℕ} (λ (b : Bool). cond b 0 1) e,
    ))

own-queues : (p : ℕ) (w : World) (a : Waker) → w.own ≡ (runs.call_by_reference p w a).world.own
own-queues p w (Outside y) = refl
own-queues p w (Task g) = ap (λ (h : Hull). h.own) (apart-act p no_hint (Op.Move Move.WakeByReference g) w refl).hull

seen-reference : (r p : ℕ) (w : World) (a : Waker) → Seen r w (runs.call_by_reference p w a).world
seen-reference r p w (Outside y) = seen r w w refl
seen-reference r p w (Task g) = seen-act r p no_hint (Op.Move Move.WakeByReference g) w

and-true : (a b : Bool) → a ≡ true → b ≡ true → (a && b) ≡ true
and-true a b e q = rw (e, q) refl

runs-wake : (p : ℕ) (w : World) (x : RunPoll) → KeepsRuns w (Op.Run (RunOp.WakeOwn x) ∷ []) (runs.wake_own p w x)
runs-wake p w x = record {
  on = λ r z i l.
      let v = log w (Event.WakerCalled p (Polled.Run x.run) x.poll x.waker) in
      let u = (runs.call_by_reference p v x.waker).world in
      ⊎_elim
      (λ (y : (same r x.run ≡ 1) × (eqb r x.run ≡ true) × (r ≡ x.run)).
      let a = watched r w.trace in
      let after : watched r v.trace ≡ record a { called = a.called || (eqb r x.run && eqb a.poll x.poll) } =
      watched-push r w.trace (Event.WakerCalled p (Polled.Run x.run) x.poll x.waker) in
      let names : eqb a.poll x.poll ≡ true = named r a.poll x.run x.poll y.2 (omega (arith, z)) in
      let called : (watched r v.trace).called ≡ true = ap (λ (t : Watched). t.called) after
      ∙ or-right a.called (eqb r x.run && eqb a.poll x.poll) (and-true _ _ y.1 names) in
      let polled : (watched r v.trace).polled ≡ true = ap (λ (t : Watched). t.polled) after ∙ i (omega (arith, y.0)) in
      let later : Seen r v u = seen-reference r p v x.waker in
      inr (inr (later.polled ∙ polled, later.called called)))
      (λ (y : (same r x.run ≡ 0) × (eqb r x.run ≡ false) × (r ≢ x.run)).
      inl (omega (arith, l, ap (λ (qs : List (List ℕ)). length (get_or qs r [])) (own-queues p v x.waker)), omega (arith, y.0)))
      (same_cases r x.run);
}

runs-make : (b : Bool) (w : World) → KeepsRuns w (Op.List (ListOp.Write Section.MakeRun) ∷ []) (runs.make_run_by b w)
runs-make true w = stays w _ _ (same-own w w refl) (λ r. omega arith)
runs-make false w = record { on = λ r z i l. inl (omega (arith, l, made-length w.own r), omega arith) }

runs-list : (h : Hint) (o : ListOp) (w : World) → KeepsRuns w (Op.List o ∷ []) (list_act h o w)
runs-list h (ListOp.Write Section.MakeRun) w = runs-make h.refused w
runs-list h (ListOp.Write (Section.Register x)) w =
    stays w _ _ (same-own w _ (registered-own _ w x.run)) (λ r. omega arith)
runs-list h (ListOp.LockRead x) w = stays w _ (runs.lock_read h w x) (same-own w _ refl) (λ r. omega arith)
runs-list h _ w = stays w _ _ (same-own w _ refl) (λ r. omega arith)

runs-deed : (w : World) (o : Op) (d : Done) → Deed w o d → KeepsRuns w (o ∷ []) d
runs-deed w o d (keeps e l) = stays-of w o d (of_coat w d.world e) (λ r. leads-keeps r o _ l)
runs-deed w o d (takes q f rest i e l) = stays-of w o d (shorter-taken w d.world q f rest i e)
    (λ r. leads-keeps r o _ l)
runs-deed w o d (lacks q i e l) = empty-there w o d q i (of_coat w d.world e) (λ r. missing-keeps r q o _ l)
runs-deed w o d (shares s i k b e m) = stays-of w o d (of_coat w d.world e)
    (λ r. omega (arith, more-keeps r s k _ m))
runs-deed w o d (grows s k f e m) = runs-grows w s k f d (of_coat _ d.world e) m
runs-deed w o d (wakes p x e z) = runs-wake p w x
runs-deed w o d (lists h l) = runs-list h l w

pub runs-act : (p : ℕ) (h : Hint) (o : Op) (w : World) → KeepsRuns w (o ∷ []) (act p h o w)
runs-act p h o w = runs-deed w o (act p h o w) (deed-act p h o w)

-- nothing is done to any own queue, and as much has each run in hand
pub runs-still : (w : World) (old : List Op) (d : Done) → w.own ≡ d.world.own →
    ((r : ℕ) → weigh (keeps_of r) old ≤ weigh (keeps_of r) d.next) → KeepsRuns w old d
runs-still w old d e f = stays w old d (same-own w d.world e) f
