-- The handles that a script has: those that are there, and that neither a future nor a run holds and no command uses.
use Rattle.std.specs.Prelude.{ℕ, Bool, true, false, if◌then◌else◌, Option, Some, None, List}
use Rattle.std.specs.List.{list_any}
use Rattle.std.specs.Str.{bytes_eq}
use Rattle.executor_model.specs.Steps as steps
use Rattle.script.specs.declared.item.Item.{Item}
use Rattle.script.specs.declared.item.Item.TheVariants as item
use Rattle.script.specs.declared.plain.Plain.{Plain}
use Rattle.script.specs.declared.plain.Plain.TheVariants as plain
use Rattle.script.specs.Names.{number_of}
use Rattle.simulator.specs.declared.play.party.Doing.{Doing}
use Rattle.simulator.specs.declared.play.party.Party.{Party}
use Rattle.simulator.specs.Play.{Player, plain_at, future}

-- the handle of this future, unless another future or a run holds it
abbrev pub unheld : Player → Option ℕ → Option ℕ
unheld s (Some f) = if (future s f).held then None else Some f
unheld s None = None

-- a command on the handle of the future of this name
abbrev pub is_on_handle : List ℕ → Option Plain → Bool
is_on_handle name (Some (plain.Poll other)) = bytes_eq other name
is_on_handle name (Some (plain.Cancel other)) = bytes_eq other name
is_on_handle name (Some (plain.Detach other)) = bytes_eq other name
is_on_handle name (Some (plain.Drop other)) = bytes_eq other name
is_on_handle name _ = false

abbrev pub is_using_by : Player → List ℕ → Option Doing → Bool
is_using_by s name (Some doing) = is_on_handle name (plain_at s doing.command)
is_using_by s name None = false

abbrev pub is_using : Player → List ℕ → Party → Bool
is_using s name x = is_using_by s name x.doing

-- a command holds the handle that it speaks of until it has ended, between its calls too
abbrev pub is_used : Player → List ℕ → Bool
is_used s name = list_any (λ x. is_using s name x) s.parties

-- the handle of the future of this name, where neither another future nor a run nor a command holds it
abbrev pub handle_of : Player → List ℕ → Option ℕ
handle_of s name = if is_used s name then None else unheld s (number_of s.names name)

abbrev pub is_there : Player → Option ℕ → Bool
is_there s (Some g) = steps.has_handle s.machine.world s.machine.parties g
is_there s None = false

-- the handle of the future of this name, where it is there, and neither held nor in use
abbrev pub free_handle : Player → Option ℕ → Option ℕ
free_handle s g = if is_there s g then g else None

-- a handle that this item holds from the first is there, and neither held nor in use
abbrev pub is_available : Player → Item → Bool
is_available s (item.Twice name) = is_there s (handle_of s name)
is_available s _ = true
