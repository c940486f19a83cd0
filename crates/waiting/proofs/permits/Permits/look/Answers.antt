use Rattle.std.proofs.Common.{◌∙◌, ap}
use Rattle.waiting.proofs.Joining.{finds_told}
use Rattle.waiting.specs.Permits.{all_of}
use Rattle.waiting.proofs.permits.Permits.look.Goals as goal

pub returns-in-Told-clause-found : goal.returns-in-Told-clause-found
returns-in-Told-clause-found g c =
    finds_told c.args.listening.number c.args.waker c.in-Told.waker c.args.self.now _ c.redeem.new.self c.look.new.self c.redeem.result
    c.self.view_is c.in-Told.ensures.0 c.in-Told.ensures.1 c.in-Told.ensures.2 c.redeem.ensures.found

pub returns-in-Told-clause-all : goal.returns-in-Told-clause-all
returns-in-Told-clause-all g c = c.redeem.ensures.all ∙ ap (λ p. all_of p) c.self.view_is
