-- Why a party can't go on, and which answers of user code are taken, in the order of the causes.
use Rattle.std.specs.Prelude.{◌≢◌, ◌⊎◌, ℕ, ◌<◌, ◌≤◌, length, Result, Ok, Err}
use Rattle.executor_model.specs.declared.op.ListOp.TheVariants as list_op
use Rattle.executor_model.specs.declared.op.Op.{Op}
use Rattle.executor_model.specs.declared.op.Op.TheVariants as op
use Rattle.executor_model.specs.declared.op.RunPoll.{RunPoll}
use Rattle.executor_model.specs.declared.op.Section.{Section}
use Rattle.executor_model.specs.declared.step.Hint.{Hint}
use Rattle.executor_model.specs.declared.step.Step.TheVariants.{Answer, Go}
use Rattle.executor_model.specs.declared.step.StepError.{StepError}
use Rattle.executor_model.specs.declared.step.StepError.TheVariants.{Idle, NoSuch, Waits, WrongAnswer}
use Rattle.executor_model.specs.declared.step.UserEnd.{UserEnd}
use Rattle.executor_model.specs.OwnQueues.{reads_of, writes_of}
use Rattle.executor_model.specs.Steps.{Machine, stack, step}
use Rattle.executor_model.specs.Weights.{weigh}
use Rattle.call_laws.specs.UserCode.{DoesNext, DoesNothing, EndsSo, IsUserCode}

abbrev pub IsParty : ℕ → Machine → Type 0
IsParty p s = p < length s.parties

-- party q has the lock of the list of queues: it writes, or walks
abbrev pub Writes : ℕ → Machine → Type 0
Writes q s = 1 ≤ weigh writes_of (stack s q)

abbrev pub Walks : ℕ → Machine → Type 0
Walks q s = 1 ≤ weigh reads_of (stack s q)

-- who wants to write waits for whoever has the lock, and who wants to walk for one who writes
pub data WaitsFor (s : Machine) (q : ℕ) : Op → Type 0 where
  to_write : (x : Section) → Writes q s ⊎ Walks q s → WaitsFor s q (op.List (list_op.LockWrite x))
  to_walk : (x : RunPoll) → Writes q s → WaitsFor s q (op.List (list_op.LockRead x))

abbrev pub WaitsForOther : ℕ → Op → Machine → Type 0
WaitsForOther p o s = (q : ℕ) × (p ≢ q) × WaitsFor s q o

-- what comes of it that party p is told to go on
pub data Goes (s : Machine) (p : ℕ) : Result Machine StepError → Type 0 where
  nobody : ¬ IsParty p s → Goes s p (Err NoSuch)
  idle : IsParty p s → DoesNothing p s → Goes s p (Err Idle)
  in_code : (o : Op) → IsParty p s → DoesNext o p s → IsUserCode o → Goes s p (Err WrongAnswer)
  waits : (o : Op) → IsParty p s → DoesNext o p s → WaitsForOther p o s → Goes s p (Err Waits)
  goes : (o : Op) → IsParty p s → DoesNext o p s → ¬ IsUserCode o → ¬ WaitsForOther p o s → (new : Machine) → Goes s p (Ok new)

abbrev pub GoesAreTaken : Machine → Type 0
GoesAreTaken s = (p : ℕ) (h : Hint) → Goes s p (step s (Go p h))

-- and that its user code ends so
pub data Ends (s : Machine) (p : ℕ) (e : UserEnd) : Result Machine StepError → Type 0 where
  nobody : ¬ IsParty p s → Ends s p e (Err NoSuch)
  idle : IsParty p s → DoesNothing p s → Ends s p e (Err Idle)
  unfit : (o : Op) → IsParty p s → DoesNext o p s → ¬ EndsSo o e → Ends s p e (Err WrongAnswer)
  ends : (o : Op) → IsParty p s → DoesNext o p s → EndsSo o e → (new : Machine) → Ends s p e (Ok new)

abbrev pub AnswersAreTaken : Machine → Type 0
AnswersAreTaken s = (p : ℕ) (e : UserEnd) → Ends s p e (step s (Answer p e))
