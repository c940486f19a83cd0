-- For keepers_are_called.
-- At a quiet trace a run that keeps a due future has it in its own queue, stands, and is called.
use Rattle.std.proofs.Common.{◌≡◌, ◌∙◌, ℕ, ◌≤◌, List, [], length, true, false, sym, inl, inr, ⊎_elim, arith}
use Rattle.executor_model.specs.Keeper.{AnswersReady, IsKeeper, is_run_drop}
use Rattle.executor_model.specs.Steps.{Machine, run, stack, start}
use Rattle.executor_model.specs.{Due.IsDue, AwaiterKept.since, Sound.times, Trace.has, Weights.weigh_all, World.own_of}
use Rattle.executor_laws.specs.Called.{KeeperIsCalled}
use Rattle.executor_model.proofs.Quiet.Resting.{deep, rests, all-rest}
use Rattle.executor_model.proofs.{Polls.AskingExecutions.heard, Steps.Lift.good, OwnQueues.OwnRunners.own-queue-has-runner}
use Rattle.executor_model.proofs.{Sleepers.SleepersTellingExecutions.are_told, Polls.Dueness.none-last}
use Rattle.executor_laws.proofs.Wakeups.StandsRest.{keeper-called, keeper-stands}
use Rattle.executor_laws.proofs.{Types.Kind, Types.Step, Keepers.KeptWeights.load_of, Keepers.KeptWeights.readies_of}
use Rattle.executor_laws.proofs.{Keepers.KeptHere.Here, Keepers.KeptHere.Keeping, Keepers.KeptMachine.keeping}
use Rattle.executor_laws.proofs.{Keepers.KeptTrace.Parted, Wakeups.Queued.times-length, Wakeups.StandsMachine.standing}

-- it stands in its own queue
kept-there : (s : Machine) → ((q : ℕ) → stack s q ≡ []) → Keeping s → (f r : ℕ) → IsDue f s.world.trace →
    IsKeeper r f s.world.trace → 1 ≤ times f (own_of s.world r)
kept-there s idle k f r due x =
    let here : _ = k.keeps f r x.place
    (record { party = x.party; kept = x.kept; last = x.last; unpolled = x.unpolled }) in by here.1
  where
    by : Here f r s.world (weigh_all (load_of f) s.parties) → 1 ≤ times f (own_of s.world r)
    by (inl z) = omega (arith, z, all-rest (load_of f) s.parties idle)
    by (inr (inl z)) = absurd
        (let no : true ≡ false = sym z ∙ none-last f s.world.trace due.unready due.undropped in cc)
    by (inr (inr z)) = absurd (⊎_elim
        (λ (y : Parted r s.world.trace). ⊎_elim
        (λ (w : has (is_run_drop r) (since x.place s.world.trace) ≡ true).
        let no : true ≡ false = sym w ∙ x.undropped in cc)
        (λ (w : AnswersReady r x.place s.world.trace). x.unready w)
        (y.since_then x.place x.party f x.kept))
        (λ (y : 1 ≤ weigh_all (readies_of r) s.parties). absurd
        (omega (arith, y, all-rest (readies_of r) s.parties idle)))
        (k.parted r z))

pub keeper-is-called : (limit : ℕ) (kind : Kind) (parties : ℕ) (steps : List Step) (f : ℕ) →
    KeeperIsCalled f (run steps (start limit kind parties)).world.trace
keeper-is-called limit kind parties steps f r quiet due x none =
    let s : Machine = run steps (start limit kind parties) in
    let some : 1 ≤ length (own_of s.world r) = omega (
      arith,
      kept-there s (λ q. rests s (deep limit kind parties steps) quiet q) (keeping limit kind parties steps) f r due x,
      times-length f (own_of s.world r),
    ) in (
      keeper-stands s (good limit kind parties steps) (heard limit kind parties steps) (deep limit kind parties steps)
          (are_told limit kind parties steps) (own-queue-has-runner limit kind parties steps)
          (standing limit kind parties steps) quiet r
          some none,
      keeper-called s (good limit kind parties steps) (heard limit kind parties steps) (deep limit kind parties steps)
          (are_told limit kind parties steps) (own-queue-has-runner limit kind parties steps)
          (standing limit kind parties steps) quiet r
          some,
    )
