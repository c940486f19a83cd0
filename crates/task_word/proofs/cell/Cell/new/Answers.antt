use Rattle.task_word.proofs.Keeps.{starts}
use Rattle.task_word.proofs.cell.Cell.new.Goals as goal

pub vacant-requires : goal.vacant-requires
vacant-requires g c = starts
