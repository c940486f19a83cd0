-- What a contract sees of the runs.
use Rattle.std.specs.Prelude.{◌≡◌, ℕ, ◌-◌, Bool, List, [], ◌∷◌, ◌++◌, Option}
use Rattle.std.specs.Prelude.{None, Some, length, slice_index_or, slice_set}
use Rattle.std.specs.Prelude.{cond, nat_lt}
use Rattle.executor_model.specs.World.{Ticker, Run, Stage, New, Listed, Ended, Lock, no_run, without}

-- the runs, their own queues and the list of these: the runs and queues by number, a Runnable by its future
pub record Running : Type 0 where
  pub runs : List Run
  pub own : List (List ℕ)
  pub listed : List ℕ
  pub lock : Lock
  -- one more may be made, and one more listed, without memory
  pub has_room : Bool

abbrev pub run_in : Running → ℕ → Run
run_in s r = slice_index_or s.runs r no_run

abbrev pub put_in : Running → ℕ → Run → Running
put_in s r x = record s { runs = slice_set s.runs r x }

-- the own queue of run r; one that isn't there is empty, and has no place
abbrev pub own_in : Running → ℕ → List ℕ
own_in s r = slice_index_or s.own r []

abbrev pub put_own_in : Running → ℕ → List ℕ → Running
put_own_in s r q = record s { own = slice_set s.own r q }

abbrev pub free_in : Running → ℕ → ℕ
free_in s r = cond (nat_lt r (length s.own)) 512 0 - length (own_in s r)

-- the queue of a run that was never polled comes into the list
abbrev pub listed_by : Stage → ℕ → Running → Running
listed_by New r s = record (put_in s r (record (run_in s r) { stage = Listed })) { listed = s.listed ++ r ∷ [] }
listed_by Listed r s = s
listed_by Ended r s = s

-- the queue of run r goes from the list
abbrev pub unlisted : ℕ → Running → Running
unlisted r s = record (put_in s r (record (run_in s r) { stage = Ended })) { listed = without r s.listed }

abbrev pub placed : ℕ → Ticker → Running → Running
placed r x s = put_in s r (record (run_in s r) { place = x })

-- a queue that was made ahead is empty
abbrev pub IsBlank : Option (List ℕ) → Type 0
IsBlank None = Unit {0}
IsBlank (Some q) = q ≡ []
