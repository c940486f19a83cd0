use Rattle.std.proofs.Common.{◌≡◌}
use Rattle.solo.proofs.Stealing.{looked-on, look_answer-on}
use Rattle.solo.proofs.solo.Solo.look_at.Goals as goal

pub returns-clause-solo : goal.returns-clause-solo
returns-clause-solo g c =
    looked-on c.args.number c.args.at c.number_at-other.result c.args.self.now c.steal.new.self c.pop.new.self
    c.number_at-other.ensures c.if-other-number.false c.steal.ensures c.pop.ensures.queues

pub returns-clause-task : goal.returns-clause-task
returns-clause-task g c =
    look_answer-on c.args.number c.args.at c.number_at-other.result c.args.self.now c.steal.new.self c.pop.result
    c.number_at-other.ensures c.if-other-number.false c.steal.ensures c.pop.ensures.first
