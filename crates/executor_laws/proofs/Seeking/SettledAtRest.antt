-- For handles_wait_for_what_can_come.
-- Where no call is in progress and the executor is there, nobody has still to take up a future that was dropped.
use Rattle.std.proofs.Common.{◌≡◌, ◌⊎◌, inl, inr, ⊎_elim, ◌∙◌, ℕ, zero, suc, ◌≤◌, List, [], Bool, true, false, ◌||◌, not, cond}
use Rattle.std.proofs.Common.{refl, sym, ap, arith}
use Rattle.task_moves.specs.Moves.{is_going}
use Rattle.executor_model.specs.{Emptiness.IsAtRest, Good.Good, Sound.Sound, Sound.pend, Sound.phase, Sound.queued, Sound.times}
use Rattle.executor_model.specs.{Sound.times_in, Sound.Phase.Broken, Sound.Phase.Over, Steps.Machine, Steps.run, Steps.stack}
use Rattle.executor_model.specs.{Steps.start, Trace.has, Trace.is_drop_begun, Trace.is_dropped, World.queued_in, World.task}
use Rattle.executor_model.proofs.{OneFuture.Telling.begun-has, Polls.Lawful.dropped-over, Table.LeavingExecutions.Placed}
use Rattle.executor_laws.proofs.{Types.State, Types.Kind, Types.Step, Reach.Reached.heard-here}
use Rattle.executor_model.specs.Rows.{closing_of, ending_of, giving_of, polls_of, ready_of, settling_of, waiting_of}
use Rattle.executor_laws.specs.HandlePolls.{DroppedIsSettled, is_unsettled}
use Rattle.executor_model.proofs.{Steps.Reached.Reached, Steps.Reached.deep-here, Steps.Reached.good-here, Table.Entering.own-agrees}
use Rattle.executor_model.proofs.{Table.Entering.queue-agrees, Quiet.Resting.all-rest, Quiet.Resting.rests}

no-more : (n : ℕ) → (1 ≤ n → ⊥) → n ≡ 0
no-more zero k = refl
no-more (suc n) k = absurd (k (omega arith))

not-so : (b : Bool) → (b ≡ true → ⊥) → b ≡ false
not-so true k = absurd (k refl)
not-so false k = refl

at-rest : (t : State) → is_going t ≡ false → (t.closed ≡ true) ⊎ (t.completed ≡ true) → is_unsettled t ≡ false
at-rest t g o = by t.closed t.completed refl refl o
  where
    by : (c d : Bool) → t.closed ≡ c → t.completed ≡ d → (c ≡ true) ⊎ (d ≡ true) → cond c (is_going t) (not d) ≡ false
    by true d a b k = g
    by false true a b k = refl
    by false false a b k = ⊎_elim (λ (x : false ≡ true). absurd (cc)) (λ (x : false ≡ true). absurd (cc)) k

module _ (s : Machine) (y : Reached s) (r : IsAtRest s) (f : ℕ) (d : has (is_dropped f) s.world.trace ≡ true) where
  fine : Good s
  fine = good-here s y

  sound : Sound s.world f (pend f s.parties)
  sound = fine.sound f

  placed : Placed s
  placed = (heard-here s y).placed

  idle : (q : ℕ) → stack s q ≡ []
  idle q = rests s (deep-here s y) r.quiet q

  there : s.world.gone ≡ false
  there = sym (placed.leaves f).begun ∙ (begun-has f s.world.trace ∙ r.there)

  not-begun : has is_drop_begun s.world.trace ≡ true → ⊥
  not-begun b = let no : true ≡ false = sym b ∙ r.there in absurd (cc)

  unqueued : queued s.world f ≡ 0
  unqueued = omega (
    arith,
    no-more (times f (queued_in s.world)) (λ n. not-begun ((queue-agrees s f fine placed).undropped n d)),
    no-more (times_in f s.world.own) (λ n. not-begun ((own-agrees s f fine placed).undropped n d)),
  )

  over : phase f s.world.trace ≡ Over
  over = ⊎_elim (λ (x : phase f s.world.trace ≡ Over). x) (λ (x : phase f s.world.trace ≡ Broken). absurd (sound.lawful x))
      (dropped-over f s.world.trace d)

  unscheduled : (task s.world f).scheduled ≡ false
  unscheduled = not-so (task s.world f).scheduled (λ x. absurd (omega (
    arith,
    sound.owed x,
    unqueued,
    all-rest (waiting_of f) s.parties idle,
    all-rest (polls_of f) s.parties idle,
    all-rest (ending_of f) s.parties idle,
    all-rest (ready_of f) s.parties idle,
    all-rest (closing_of f) s.parties idle,
    all-rest (settling_of f) s.parties idle,
    all-rest (giving_of f) s.parties idle,
  )))

  unrun : (task s.world f).running ≡ false
  unrun = not-so (task s.world f).running (λ x. absurd (omega (
    arith,
    sound.going x,
    all-rest (polls_of f) s.parties idle,
    all-rest (ending_of f) s.parties idle,
    all-rest (ready_of f) s.parties idle,
    all-rest (closing_of f) s.parties idle,
  )))

  rests-so : is_going (task s.world f) ≡ false
  rests-so = ap (λ (b : Bool). b || (task s.world f).running) unscheduled ∙ unrun

  none-ready : (1 ≤ (pend f s.parties).ready) ⊎ (s.world.gone ≡ true) → ⊥
  none-ready k = ⊎_elim (λ (x : 1 ≤ (pend f s.parties).ready). absurd (omega (arith, x, all-rest (ready_of f) s.parties idle)))
      (λ (x : s.world.gone ≡ true). let no : true ≡ false = sym x ∙ there in absurd (cc)) k

  settled : is_unsettled (task s.world f) ≡ false
  settled = at-rest (task s.world f) rests-so (ended (sound.over over))
    where
      ended : ((task s.world f).closed ≡ true)
          ⊎ (((task s.world f).completed ≡ true) ⊎ ((1 ≤ (pend f s.parties).ready) ⊎ (s.world.gone ≡ true))) →
          ((task s.world f).closed ≡ true) ⊎ ((task s.world f).completed ≡ true)
      ended (inl x) = inl x
      ended (inr (inl x)) = inr x
      ended (inr (inr x)) = absurd (none-ready x)

pub dropped-is-settled : (limit : ℕ) (kind : Kind) (parties : ℕ) (steps : List Step) →
    DroppedIsSettled (run steps (start limit kind parties))
dropped-is-settled limit kind parties steps r f d = settled (run steps (start limit kind parties))
    (record { limit = limit; kind = kind; parties = parties; steps = steps; is = refl }) r f d
