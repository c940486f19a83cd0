use Rattle.task_word.proofs.Packs.{unpacked}
use Rattle.task_word.proofs.layout.decode.Goals as goal

pub returns : goal.returns
returns c = unpacked c.args.word
