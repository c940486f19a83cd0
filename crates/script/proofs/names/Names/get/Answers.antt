use Rattle.std.proofs.Common.{◌≡◌, slice_get, rules}
use Rattle.std.proofs.lemmas.Option.{gets}
use Rattle.script.proofs.Numbering.{number_of-get}
use Rattle.script.proofs.names.Names.get.Goals as goal

pub returns-clause-number : goal.returns-clause-number
returns-clause-number c =
    let found : c.copied.result ≡ slice_get c.args.self.now c.args.number = search (rules, gets) in
    rw (found, ← c.self.view_is) (number_of-get c.self.inside.order.items c.args.number c.self.invariant.distinct)
