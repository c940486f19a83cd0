-- In which order lone polls of a run take futures up: first those that it keeps, as they stand in its own queue.
use Rattle.std.specs.Prelude.{◌≡◌, ℕ, ◌≤◌, Option, Some, List, [], ◌∷◌, ◌++◌}
use Rattle.task_moves.specs.declared.moves.owed.Move.TheVariants as move
use Rattle.executor_model.specs.declared.call.Call.TheVariants.{PollRun}
use Rattle.executor_model.specs.declared.op.Op.{Op}
use Rattle.executor_model.specs.declared.op.Op.TheVariants as op
use Rattle.executor_model.specs.declared.step.Step.{Step}
use Rattle.executor_model.specs.declared.step.Step.TheVariants.{Begin, Go}
use Rattle.executor_model.specs.Emptiness.{IsAtRest}
use Rattle.executor_model.specs.Sound.{times}
use Rattle.executor_model.specs.Steps.{Machine, run, stack, step, stepped, top}
use Rattle.executor_model.specs.World.{own_of}
use Rattle.executor_laws.specs.RunReach.{AreLonePolls, Keeps, LoneRunPoll}

-- the future that is taken up by a step of a party that has this to do
abbrev pub taken_by : Step → Option Op → List ℕ
taken_by (Go p h) (Some (op.Move move.TakeUp f)) = f ∷ []
taken_by t o = []

-- those that party p, which alone takes steps, takes up by these, in order
abbrev pub taken_up : ℕ → List Step → Machine → List ℕ
taken_up p [] s = []
taken_up p (t ∷ ts) s = taken_by t (top (stack s p)) ++ taken_up p ts (stepped s (step s t))

-- a poll of run r, from its beginning
abbrev pub poll_steps : ℕ → LoneRunPoll → List Step
poll_steps r t = Begin t.party (PollRun r t.by) ∷ t.steps

-- those that such polls take up, one after the other
abbrev pub taken_in : ℕ → List LoneRunPoll → Machine → List ℕ
taken_in r [] s = []
taken_in r (t ∷ ts) s = taken_up t.party (poll_steps r t) s ++ taken_in r ts (run (poll_steps r t) s)

abbrev pub BeginsWith : List ℕ → List ℕ → Type 0
BeginsWith xs ys = (more : List ℕ) × (ys ≡ xs ++ more)

-- what lone polls of run r take up, and behind it what stands in its own queue at their end, begins with what stood there at
-- their start. So none that the run didn't keep then is taken up before each that it kept
pub record KeptComeFirst (r : ℕ) (s new : Machine) (taken : List ℕ) : Type 0 where
  pub order : BeginsWith (own_of s.world r) (taken ++ own_of new.world r)
  pub first : (f g : ℕ) → Keeps r f s.world.trace → ¬ Keeps r g s.world.trace → (before after : List ℕ) →
      taken ≡ before ++ g ∷ after → 1 ≤ times f before

abbrev pub TakesKeptFirst : Machine → Type 0
TakesKeptFirst s = IsAtRest s → (r : ℕ) (polls : List LoneRunPoll) (new : Machine) → AreLonePolls r polls s new →
    KeptComeFirst r s new (taken_in r polls s)
