use Rattle.std.proofs.Common.{rules}
use Rattle.task_word.proofs.Keeps.{enters}
use Rattle.task_word.proofs.cell.Cell.pass.Goals as goal

pub load_new_seat-requires : goal.load_new_seat-requires
load_new_seat-requires g c = (search rules, enters _)
