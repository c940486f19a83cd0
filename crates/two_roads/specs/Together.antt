-- The step machine, one party at a time alone, and the executor of one owner, by the same calls.
use Rattle.std.specs.Prelude.{◌≡◌, ℕ, List, [], ◌∷◌, map}
use Rattle.executor_model.specs.declared.op.Waker.{Waker}
use Rattle.executor_model.specs.declared.op.Waker.TheVariants.{Task as TaskWaker, Outside as OutsideWaker}
use Rattle.executor_model.specs.Steps.{Machine}
use Rattle.solo.specs.declared.names.SoloWaker.{SoloWaker}
use Rattle.solo.specs.declared.names.SoloWaker.TheVariants.{Task as OfTask, Outside}
use Rattle.plain_scheduler.specs.State.{Event, Plain}
use Rattle.machine_roads.specs.Course.{Lone}
use Rattle.machine_roads.specs.Road.{Follows}
use Rattle.machine_roads.specs.Seeing.{heard_in, shown as shown_alike}
use Rattle.machine_roads.specs.View.{Output}
use Rattle.two_roads.specs.Renaming.{event_as, renamed}

-- the machine that lone calls leave
abbrev pub left_by : Machine → List Lone → Machine
left_by s [] = s
left_by s (l ∷ ls) = left_by l.left ls

-- the machine knows of an output only that it is there, and of a waker from outside its number
abbrev pub nothing : {T : Type 0} → T → Output
nothing v = tt

abbrev pub numbered : {X : Type 0} → (X → ℕ) → SoloWaker X → Waker
numbered number (OfTask task) = TaskWaker task.number
numbered number (Outside waker) = OutsideWaker (number waker)

module _ {T X : Type 0} (number : X → ℕ) where
  abbrev pub as_machines : Plain T (SoloWaker X) → Plain Output Waker
  as_machines p = renamed nothing (numbered number) p

  -- the machine answers alike that an output is given, and that a tick or run is ready
  abbrev pub as_heard : List (Event T (SoloWaker X)) → List (Event Output Waker)
  as_heard es = map (λ e. shown_alike (event_as nothing (numbered number) e)) es

-- the machine stands where this plain scheduler does, but for names, and its trace tells of the polls, drops, calls of wakers from
-- outside and answers that were shown, in that order
pub record TellsOf {T X : Type 0} (number : X → ℕ) (m : Machine) (p : Plain T (SoloWaker X)) (shown : List (Event T (SoloWaker X))) : Type 0
  where
    pub follows : Follows m.world (as_machines number p)
    pub seen : heard_in m.world.trace ≡ as_heard number shown
