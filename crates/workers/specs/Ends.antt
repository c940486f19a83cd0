-- Why threads that work together came to no list.
use Rattle.std.specs.Prelude.{◌≡◌, ℕ, ◌++◌, ◌∷◌, List, Result, Ok, Err, map, length}
use Rattle.std.specs.Fork.{GivesEach}
use denote.Param.Members.{Shared}
use Rattle.workers.specs.declared.fault.Fault.{Fault}

-- the fault is the first in the list
pub record Stops {X : Type 0} (ends : List (Result X Fault)) (fault : Fault) : Type 0 where
  pub before : List X
  pub after : List (Result X Fault)
  pub parts : ends ≡ map Ok before ++ (Err fault ∷ after)

-- it is the first in a list that the work may give, for this many numbers from 0 on
pub record IsFirstFault {F X : Type 0} (g : Shared F (ℕ × Unit {0}) (Result X Fault)) (f : F) (workers : ℕ) (fault : Fault) : Type 0 where
  pub ends : List (Result X Fault)
  pub each : length ends ≡ workers
  pub given : GivesEach g f workers ends
  pub stops : Stops ends fault
