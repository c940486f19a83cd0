-- What came back by the handles of jobs.
use Rattle.std.specs.Prelude.{◌≡◌, ℕ, List, [], ◌∷◌, All, Vec, Option, Some, None, Result, Ok, Err}
use Rattle.std.specs.Global.{Global}
use Rattle.async_task.specs.declared.poll.Poll.{Poll}
use Rattle.async_task.specs.declared.poll.Poll.TheVariants.{Ready, Pending}
use Rattle.jobs.specs.declared.job.Solved.{Solved}
use Rattle.jobs.specs.declared.site.Awaited.{Awaited}
use Rattle.jobs.specs.declared.site.Next.{Next}
use Rattle.jobs.specs.declared.site.Next.TheVariants.{Begun, NoneLeft, Lost}

-- what a poll gave
abbrev pub given_by : {S E : Type 0} → Poll (Result (Option S) E) → List S
given_by (Ready (Ok (Some solved))) = solved ∷ []
given_by (Ready (Ok None)) = []
given_by (Ready (Err _)) = []
given_by Pending = []

-- it has the number of a job whose handle was awaited
abbrev pub CameByHandle : Solved → Type 0
CameByHandle solved = (awaited : Awaited) × (solved.number ≡ awaited.number)

-- each of them has
abbrev pub HaveCome : Vec Solved Global → Type 0
HaveCome solved = ∥ All CameByHandle solved.items ∥₁

-- the number of the job that is awaited
abbrev pub number_awaited : Option Awaited → Option ℕ
number_awaited None = None
number_awaited (Some awaited) = Some awaited.number

-- what came back has the number of the job that was awaited, whose handle isn't awaited any more; a handle that is kept is of
-- that job
abbrev pub Gives : {E : Type 0} → Option Awaited → Option Awaited → Poll (Result (Option Solved) E) → Type 0
Gives old new (Ready (Ok (Some solved))) = (number_awaited old ≡ Some solved.number) × (new ≡ None)
Gives old new (Ready (Ok None)) = new ≡ None
Gives old new (Ready (Err _)) = new ≡ None
Gives old new Pending = number_awaited new ≡ number_awaited old

-- the job that was begun has this number
abbrev pub BeginsNumber : {E : Type 0} → ℕ → Result Next E → Type 0
BeginsNumber number (Ok (Begun awaited)) = awaited.number ≡ number
BeginsNumber number (Ok NoneLeft) = ⊥
BeginsNumber number (Ok Lost) = Unit {0}
BeginsNumber number (Err _) = Unit {0}
