use Rattle.std.proofs.Common.{◌≡◌, [], ◌∷◌, ◌++◌, None, length, sym, ◌∙◌, arith}
use Rattle.std.proofs.lemmas.Grind.{common_steps}
use Rattle.std.proofs.lemmas.Map.Text.{is_eq-slice_cmp}
use Rattle.script.specs.Names.{number_of}
use Rattle.script.proofs.Numbering.{number_of-push, IsDistinct-push_new}
use Rattle.script.proofs.names.Names.push.Goals as goal

pub invariant_of-self-2 : goal.invariant_of-self-2
invariant_of-self-2 c =
    let names = c.self.inside.order.items in
    let pushed : c.push.new.self.items ≡ names ++ c.args.name ∷ [] = grind (arith, common_steps) in
    let counted : c.len.result ≡ length names = grind (arith, common_steps) in
    let none : number_of names c.args.name ≡ None = rw c.self.view_is c.requires in
    record {
      distinct = rw pushed (IsDistinct-push_new names c.args.name none c.self.invariant.distinct);
      numbered = λ name.
          c.in_ok-insert.ensures.updates.0 name ∙
          rw (is_eq-slice_cmp c.args.name name, counted, c.self.invariant.numbered name, pushed)
          (sym (number_of-push names c.args.name name none));
    }
