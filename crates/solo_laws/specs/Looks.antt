-- At which of its queues an executor of one owner looks first, search after search.
use Rattle.std.specs.Prelude.{◌≡◌, ℕ, ◌+◌, Bool, true, false, not, List, [], ◌∷◌, ◌++◌, length, Some, is_some}
use Rattle.executor_parts.specs.declared.mark.Mark.{Mark}
use Rattle.executor_parts.specs.declared.mark.Mark.TheVariants.{Plain, Urgent}
use Rattle.solo.specs.declared.names.Task.{Task}
use Rattle.solo.specs.declared.runs.Runner.{Runner}
use Rattle.solo.specs.declared.solo.Solo.{Solo}
use Rattle.solo.specs.Lines.{mark_of_turn, first_of}
use Rattle.solo.specs.OwnQueues as own
use Rattle.solo.specs.Solo.{sought}
use Rattle.solo_laws.specs.Calls.{Call, Course, Take, TickTake, TickSearch, RunTake, RunSearch}

-- how many are plain
abbrev pub plain_in : List Mark → ℕ
plain_in [] = 0
plain_in (Plain ∷ marks) = 1 + plain_in marks
plain_in (Urgent ∷ marks) = plain_in marks

-- of any eight that follow each other exactly one is plain
abbrev pub OneOfEightIsPlain : List Mark → Type 0
OneOfEightIsPlain marks =
    (before eight after : List Mark) → marks ≡ before ++ (eight ++ after) → length eight ≡ 8 → plain_in eight ≡ 1

module _ {F T X : Type 0} where
  -- the mark of the queue at which the next search looks first
  abbrev pub next_mark : Solo F T X → Mark
  next_mark s = mark_of_turn s.lines.turn

  abbrev pub look_if : Bool → Solo F T X → List Mark
  look_if true s = next_mark s ∷ []
  look_if false s = []

  -- a run whose own queue is empty comes to the executor's
  abbrev pub comes : Runner → Solo F T X → Bool
  comes runner s = not (is_some (own.first_of runner.number s.runs))

  -- at which queue a call looks first
  abbrev pub look_of : Call F T X → Solo F T X → List Mark
  look_of Take s = look_if true s
  look_of (TickTake ticker waker) s = look_if true s
  look_of (TickSearch ticker) s = look_if true s
  look_of (RunTake runner ticker waker start) s = look_if (comes runner s) s
  look_of (RunSearch runner ticker start) s = look_if (comes runner s) s
  look_of _ s = []

  -- at which queues the searches of a list of calls look first
  abbrev pub looks_of : (calls : List (Call F T X)) (first last : Solo F T X) → Course calls first last → List Mark
  looks_of [] first last does = []
  looks_of (call ∷ calls) first last does = look_of call first ++ looks_of calls does.0 last does.2

  -- where both queues have a task, a search takes the first of the one at which it looks first
  abbrev pub TakesByTurn : Solo F T X → Type 0
  TakesByTurn s =
      (urgent plain : Task) → first_of Urgent s.lines ≡ Some urgent → first_of Plain s.lines ≡ Some plain
      → sought s ≡ first_of (next_mark s) s.lines
