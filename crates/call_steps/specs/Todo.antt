-- What a call has still to do, by how it has gone so far.
use Rattle.std.specs.Prelude.{Option, Some, None, List, [], ◌∷◌, ◌++◌}
use Rattle.call_steps.specs.declared.call.Past.{Past, Begun, Apart, Did'}
use Rattle.call_steps.specs.declared.saw.Saw.{Saw}
use Rattle.call_steps.specs.declared.step.CallStep.{CallStep}
use Rattle.call_steps.specs.Begins.{begins, part_begins}
use Rattle.call_steps.specs.Next.{next}

module _ {F T : Type 0} where
  -- the first thing is done, and this was seen
  abbrev pub following : Saw F T → List (CallStep F T) → List (CallStep F T)
  following saw [] = []
  following saw (o ∷ rest) = next o saw ++ rest

  -- what is to be done next
  abbrev pub top : List (CallStep F T) → Option (CallStep F T)
  top [] = None
  top (o ∷ rest) = Some o

  -- what comes behind it
  abbrev pub below : List (CallStep F T) → List (CallStep F T)
  below [] = []
  below (o ∷ rest) = rest

  abbrev pub todo_of : Past F T → List (CallStep F T)
  todo_of (Begun asked) = begins asked.value
  todo_of (Apart part) = part_begins part.value
  todo_of (Did' saw shape past) = following saw.value (todo_of past)
