-- What a script prints: its commands are played in order on a new machine,
-- and what happens and how each ends is printed.
use Rattle.std.specs.Prelude.{◌≡◌, ℕ, Bool, List, [], ◌∷◌}
use Rattle.executor_core.specs.AllLaws.{AllLaws}
use Rattle.executor_model.specs.declared.event.Event.{Event}
use Rattle.executor_model.specs.Steps as steps
use Rattle.script.specs.declared.command.Command.{Command}
use Rattle.simulator.specs.declared.moment.Moment.{Moment}
use Rattle.simulator.specs.declared.moment.Moment.TheVariants.{Happened, Ended, Stopped}
use Rattle.simulator.specs.Play.{Player, kind_of, start}
use Rattle.simulator.specs.Commands.{PlaysAll}
use Rattle.simulator.specs.Text.{moments_text}

-- what happened in these moments, without how the commands ended
abbrev pub happened : List Moment → List Event
happened [] = []
happened (Happened event ∷ moments) = event ∷ happened moments
happened (Ended word outcome ∷ moments) = happened moments
happened (Stopped ∷ moments) = happened moments

-- the commands were played to this end: its machine is what the steps that were tried make of a new one
-- of this kind, of ten parties, what it shows is all that happened to the machine, in order, and all laws hold of the machine
pub record IsPlayed (limit : ℕ) (is_static : Bool) (commands : List Command) (last : Player) : Type 0 where
  pub plays : PlaysAll 0 commands (start commands limit is_static) last
  pub made : steps.run last.tried (steps.start limit (kind_of is_static) 10) ≡ last.machine
  pub shown : happened last.moments ≡ last.machine.world.trace
  pub laws : AllLaws last.machine

-- the text of the moments of such a play
abbrev pub IsTextOf : ℕ → Bool → List Command → List ℕ → Type 0
IsTextOf limit is_static commands text =
    (last : Player)
    × IsPlayed limit is_static commands last
    × (text ≡ moments_text last.names last.ticks last.run_names last.moments)
