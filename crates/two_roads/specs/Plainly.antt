-- Lists of calls of the plain scheduler in which each future is spawned plain.
use Rattle.std.specs.Prelude.{Bool, true, false, ◌&&◌, List, [], ◌∷◌}
use Rattle.executor_parts.specs.declared.mark.Mark.TheVariants.{Urgent}
use Rattle.plain_scheduler.specs.State.{Choice}
use Rattle.plain_scheduler.specs.Calls.{Call, Spawn}

module _ {T A : Type 0} where
  abbrev pub is_plain_call : Call T A → Bool
  is_plain_call (Spawn Urgent) = false
  is_plain_call _ = true

  abbrev pub are_plain : List (Choice × Call T A) → Bool
  are_plain [] = true
  are_plain (c ∷ cs) = is_plain_call c.1 && are_plain cs
