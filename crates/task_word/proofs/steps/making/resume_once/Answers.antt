use Rattle.std.proofs.Common.{rules, sym, arith}
use Rattle.task_word.proofs.Moving.{few, still}
use Rattle.task_word.proofs.Making.{resumes}
use Rattle.task_word.proofs.steps.making.resume_once.Goals as goal

pub encode-new-requires : goal.encode-new-requires
encode-new-requires g c =
    few _ (let s = (c.look-old.ensures.saw.2 c.decode-word.result.state c.decode-word.result.rests (sym c.decode-word.ensures)).1 in
    omega (arith, s))

pub compare_exchange-requires : goal.compare_exchange-requires
compare_exchange-requires g c = (
  search rules,
  search rules,
  resumes _ _ c.look-old.new.pass.me c.look-old.result c.encode-new.result
      c.decode-word.result.state c.decode-word.result.rests c.decode-word.ensures
      (still c.args.pass.now.me c.look-old.new.pass.me c.requires.has c.look-old.ensures.saw.0).0 c.encode-new.ensures
      c.if-word.true,
)
