use Rattle.lone_machine.proofs.Going.{commands_made}
use Rattle.lone_machine.proofs.commands.commands_are_acts.Goals as goal

pub returns : goal.returns
returns c limit kind parties commands may = commands_made limit kind parties commands may
