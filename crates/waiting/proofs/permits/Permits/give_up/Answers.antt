use Rattle.std.proofs.Common.{◌∙◌, ap}
use Rattle.waiting.proofs.Joining.{goes_on}
use Rattle.waiting.specs.Permits.{all_of}
use Rattle.waiting.proofs.permits.Permits.give_up.Goals as goal

pub returns-in-Told-clause-gave_up : goal.returns-in-Told-clause-gave_up
returns-in-Told-clause-gave_up g c =
    goes_on c.args.listening.number c.pass_on.result.waker c.args.self.now _ c.pass_on.new.self c.leave.new.self c.self.view_is
    c.in-Told.ensures.0 c.in-Told.ensures.1 c.pass_on.ensures.passed_on

pub returns-in-Told-clause-all : goal.returns-in-Told-clause-all
returns-in-Told-clause-all g c = c.pass_on.ensures.all ∙ ap (λ p. all_of p) c.self.view_is
