-- The requests for memory of a party's command, and which of them is refused: a script's number of one is the machine's, in the
-- words of its law.
use Rattle.std.specs.Prelude.{ℕ, Bool, true, false, Option, Some, None}
use Rattle.executor_model.specs.Memory.{asks}
use Rattle.executor_model.specs.declared.op.Op.{Op}
use Rattle.executor_laws.specs.Numbered.{is_the_one, left}
use Rattle.script.specs.declared.command.Request.{Request}
use Rattle.script.specs.declared.refusal.Refusal.{Refusal}
use Rattle.script.specs.declared.refusal.Refusal.TheVariants.{Nothing, Each, Only}
use Rattle.simulator.specs.declared.play.party.Doing.{Doing}
use Rattle.simulator.specs.Play.{Player, request_at, party, set_party}

-- so many requests come up to the one that alone is refused, that one counted
abbrev pub up_to : Refusal → ℕ
up_to Nothing = 0
up_to Each = 0
up_to (Only number) = number

abbrev pub refusal_of : Option Request → Refusal
refusal_of (Some r) = r.refusal
refusal_of None = Nothing

-- a step is refused memory where each is, or where it asks and is the one
abbrev pub is_refused : Refusal → Bool → ℕ → Bool
is_refused Nothing asked to_go = false
is_refused Each asked to_go = true
is_refused (Only number) asked to_go = is_the_one asked to_go

abbrev pub is_refusing : Player → Option Doing → Op → Bool
is_refusing s (Some doing) o = is_refused (refusal_of (request_at s doing.command)) (asks o) doing.to_go
is_refusing s None o = false

-- a step that asks for memory is counted
abbrev pub counted_in : Option Doing → Bool → ℕ → Player → Player
counted_in (Some doing) true p s =
    set_party p (record (party s p) { doing = Some (record doing { to_go = left true doing.to_go }) }) s
counted_in (Some doing) false p s = s
counted_in None asked p s = s

unfoldable pub counted : ℕ → Op → Player → Player
counted p o s = counted_in (party s p).doing (asks o) p s
