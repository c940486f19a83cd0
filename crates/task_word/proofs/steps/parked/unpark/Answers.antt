use Rattle.std.proofs.Common.{rules, arith}
use Rattle.task_word.proofs.Moving.{still}
use Rattle.task_word.proofs.Storing.{looks_parked, unparks}
use Rattle.task_word.proofs.steps.parked.unpark.Goals as goal

pub load-old-requires : goal.load-old-requires
load-old-requires g c = (search rules, search rules, looks_parked _ _ c.loop.pass.me)

pub compare_exchange-requires : goal.compare_exchange-requires
compare_exchange-requires g c = (
  search rules,
  search rules,
  unparks _ _ c.load-old.new.seat.me c.load-old.result _
      (still c.loop.pass.me c.load-old.new.seat.me
      (still c.args.pass.now.me c.loop.pass.me c.requires.has c.loop.invariant.1) c.load-old.ensures.2.0).0
      (omega arith),
)
