use Rattle.std.proofs.Common.{◌+◌, ◌*◌}
use Rattle.script_player.proofs.one_owner.desk.OnSolo.+nesting.Given as goal

abbrev pub decreases-poll_nesting : goal.decreases-poll_nesting
decreases-poll_nesting g l = 4 * l.nested

abbrev pub decreases-poll : goal.decreases-poll
decreases-poll g l = 4 * l.nested + 1

abbrev pub decreases-run_within : goal.decreases-run_within
decreases-run_within g l = 4 * l.nested + 2

abbrev pub decreases-run_next : goal.decreases-run_next
decreases-run_next g l = 4 * l.nested + 3
