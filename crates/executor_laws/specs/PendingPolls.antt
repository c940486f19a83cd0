-- A poll of a tick or of a run is answered that nothing is ready only where it looked for a future in each of the executor's
-- queues and none was there, whatever others do meanwhile.
use Rattle.std.specs.Prelude.{◌≡◌, ◌⊎◌, ℕ, ◌<◌, None, Some, List, [], ◌∷◌, ◌++◌, length}
use Rattle.executor_parts.specs.Marks.{other}
use Rattle.executor_parts.specs.declared.mark.Mark.{Mark}
use Rattle.executor_model.specs.declared.call.By.{By}
use Rattle.executor_model.specs.declared.call.Call.TheVariants.{PollRun, PollTick}
use Rattle.executor_model.specs.declared.call.Reply.{Reply}
use Rattle.executor_model.specs.declared.call.Reply.TheVariants.{Pending}
use Rattle.executor_model.specs.declared.event.Event.TheVariants.{CallBegun}
use Rattle.executor_model.specs.declared.op.ListOp.TheVariants as list_op
use Rattle.executor_model.specs.declared.op.Look.{Look}
use Rattle.executor_model.specs.declared.op.Look.TheVariants.{First, Second}
use Rattle.executor_model.specs.declared.op.Op.{Op}
use Rattle.executor_model.specs.declared.op.Op.TheVariants as op
use Rattle.executor_model.specs.declared.op.RunOp.TheVariants as run_op
use Rattle.executor_model.specs.declared.op.RunPoll.{RunPoll}
use Rattle.executor_model.specs.declared.op.Sleeping.{Sleeping}
use Rattle.executor_model.specs.declared.op.TickOp.TheVariants as tick_op
use Rattle.executor_model.specs.declared.op.TickOrRun.TheVariants as tick_or_run
use Rattle.executor_model.specs.declared.step.Hint.{Hint}
use Rattle.executor_model.specs.declared.step.Step.{Step}
use Rattle.executor_model.specs.declared.step.Step.TheVariants.{Begin, Go}
use Rattle.executor_model.specs.Acts.{mark_in}
use Rattle.executor_model.specs.ActsOfRuns.{asleep}
use Rattle.executor_model.specs.SpawnWants.{Answers}
use Rattle.executor_model.specs.Steps.{Machine, mine, refusal, stack, step, stepped, top, waker_of}
use Rattle.executor_model.specs.World.{own_of, queue_of}

-- the call that party p began above these things ends by one of these steps, and is answered so
abbrev pub IsAnswered : Reply → ℕ → List Op → List Step → Machine → Type 0
IsAnswered a p old [] s = ⊥
IsAnswered a p old (t ∷ ts) s = (length old < length (stack s p))
    × ((Answers s t p a × (stack (stepped s (step s t)) p ≡ old)) ⊎ IsAnswered a p old ts (stepped s (step s t)))

-- by this step, which is possible, party p does this
pub record Does (o : Op) (p : ℕ) (s : Machine) (t : Step) : Type 0 where
  pub hint : Hint
  pub is : t ≡ Go p hint
  pub possible : refusal s t ≡ None
  pub next : top (stack s p) ≡ Some o

-- by this step a tick's poll looks so for a future, and none is in the queue of the executor at which it looks
pub record TickFindsNone (look : Look) (x : Sleeping) (p : ℕ) (s : Machine) (t : Step) : Type 0 where
  pub looks : Does (op.Tick (tick_op.Look x look)) p s t
  pub none : (queue_of s.world (mark_in look)).items ≡ []

-- by one of these steps its second look finds none in the queue of this mark
abbrev pub TickSecondNone : Mark → Sleeping → ℕ → List Step → Machine → Type 0
TickSecondNone m x p [] s = ⊥
TickSecondNone m x p (t ∷ ts) s = TickFindsNone (Second m) x p s t ⊎ TickSecondNone m x p ts (stepped s (step s t))

-- by one of these steps its first look finds none, and then its second look finds none in the other queue
abbrev pub TickFoundNone : Sleeping → ℕ → List Step → Machine → Type 0
TickFoundNone x p [] s = ⊥
TickFoundNone x p (t ∷ ts) s =
    ((m : Mark) × TickFindsNone (First m) x p s t × TickSecondNone (other m) x p ts (stepped s (step s t)))
    ⊎ TickFoundNone x p ts (stepped s (step s t))

-- the poll of tick t that party p would begin so
abbrev pub tick_poll : ℕ → ℕ → By → Machine → Sleeping
tick_poll p t b s = record {
  waker = waker_of (mine (top (stack s p))) b;
  who = tick_or_run.Tick t;
  poll = length (s.world.trace ++ CallBegun p (PollTick t b) ∷ []);
}

abbrev pub TicksLookFirst : Machine → Type 0
TicksLookFirst s = (p t : ℕ) (b : By) → refusal s (Begin p (PollTick t b)) ≡ None → (steps : List Step) →
    IsAnswered Pending p (stack s p) steps (stepped s (step s (Begin p (PollTick t b)))) →
    TickFoundNone (tick_poll p t b s) p steps (stepped s (step s (Begin p (PollTick t b))))

-- a run's poll looks into its own queue by this step, then so into one of the executor's queues by this step, and none is there
pub record OwnHasNone (x : RunPoll) (p : ℕ) (s : Machine) (t : Step) : Type 0 where
  pub looks : Does (op.Tick (tick_op.Search (asleep x))) p s t
  pub none : own_of s.world x.run ≡ []

pub record CommonHasNone (look : Look) (x : RunPoll) (p : ℕ) (s : Machine) (t : Step) : Type 0 where
  pub looks : Does (op.Run (run_op.SearchCommon x look)) p s t
  pub none : (queue_of s.world (mark_in look)).items ≡ []

-- it begins a walk through the list of queues
abbrev pub Walks : RunPoll → ℕ → Machine → Step → Type 0
Walks x p s t = Does (op.List (list_op.LockRead x)) p s t

-- it calls its own waker, after it has taken 200 futures
abbrev pub WakesItself : RunPoll → ℕ → Machine → Step → Type 0
WakesItself x p s t = Does (op.Run (run_op.WakeOwn x)) p s t

abbrev pub Walked : RunPoll → ℕ → List Step → Machine → Type 0
Walked x p [] s = ⊥
Walked x p (t ∷ ts) s = Walks x p s t ⊎ Walked x p ts (stepped s (step s t))

-- at its second look the queue of this mark had none, and then it walked
abbrev pub OtherHadNone : Mark → RunPoll → ℕ → List Step → Machine → Type 0
OtherHadNone m x p [] s = ⊥
OtherHadNone m x p (t ∷ ts) s =
    (CommonHasNone (Second m) x p s t × Walked x p ts (stepped s (step s t))) ⊎ OtherHadNone m x p ts (stepped s (step s t))

-- at its first look one of the executor's queues had none, then the other one had none, and then it walked
abbrev pub CommonHadNone : RunPoll → ℕ → List Step → Machine → Type 0
CommonHadNone x p [] s = ⊥
CommonHadNone x p (t ∷ ts) s =
    ((m : Mark) × CommonHasNone (First m) x p s t × OtherHadNone (other m) x p ts (stepped s (step s t)))
    ⊎ CommonHadNone x p ts (stepped s (step s t))

-- its own queue had none, then each of the executor's queues had none, and then it walked; or it called its own waker
abbrev pub RunFoundNone : RunPoll → ℕ → List Step → Machine → Type 0
RunFoundNone x p [] s = ⊥
RunFoundNone x p (t ∷ ts) s = (OwnHasNone x p s t × CommonHadNone x p ts (stepped s (step s t)))
    ⊎ (WakesItself x p s t ⊎ RunFoundNone x p ts (stepped s (step s t)))

-- the poll of run r that party p would begin so
abbrev pub run_poll : ℕ → ℕ → By → Machine → RunPoll
run_poll p r b s = record {
  run = r;
  waker = waker_of (mine (top (stack s p))) b;
  poll = length (s.world.trace ++ CallBegun p (PollRun r b) ∷ []);
}

abbrev pub RunsLookFirst : Machine → Type 0
RunsLookFirst s = (p r : ℕ) (b : By) → refusal s (Begin p (PollRun r b)) ≡ None → (steps : List Step) →
    IsAnswered Pending p (stack s p) steps (stepped s (step s (Begin p (PollRun r b)))) →
    RunFoundNone (run_poll p r b s) p steps (stepped s (step s (Begin p (PollRun r b))))
