use Rattle.solo_laws.proofs.Choices.Turns.{calls_take_turns}
use Rattle.solo_laws.proofs.counting.calls_take_turns.Goals as goal

pub returns : goal.returns
returns g c = calls_take_turns
