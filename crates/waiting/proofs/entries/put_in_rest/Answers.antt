use Rattle.std.proofs.Common.{◌≡◌, ◌∙◌, Some, None, sym, ap, refl}
use Rattle.std.specs.BTreeMap.{is_at}
use Rattle.std.specs.Map.{lookup, set_value}
use Rattle.std.specs.Option.{option_copied_mut}
use Rattle.std.specs.Ordering.{nat_cmp}
use Rattle.waiting.proofs.Finding.{key_tells, missing, put_there}
use Rattle.waiting.proofs.entries.put_in_rest.Goals as goal

pub returns-in-Some : goal.returns-in-Some
returns-in-Some g c =
    let there : lookup (is_at (nat_cmp c.args.number)) c.args.rest.now.entries ≡ Some c.replace.result =
    sym c.get_mut.ensures.value ∙ (ap (λ o. option_copied_mut o) c.in-Some.is ∙ ap (λ w. Some w) (sym c.replace.ensures.value)) in
    put_there c.args.number c.requires.0 c.args.waker c.replace.result c.args.rest.now.entries
    (c.get_mut.follows.lender c.replace.new.dest).entries c.requires.1 there
    ((c.get_mut.follows.holds c.replace.new.dest).0
    ∙ ap (λ w. set_value (is_at (nat_cmp c.args.number)) c.args.rest.now.entries w) c.replace.ensures.after)

pub returns-in-None : goal.returns-in-None
returns-in-None g c = (
  missing c.args.number (is_at (nat_cmp c.args.number)) (key_tells c.args.number) c.args.rest.now.entries
      (sym c.get_mut.ensures.value ∙ ap (λ o. option_copied_mut o) c.in-None.is),
  ap (λ m. m.entries) c.get_mut.follows.holds-at-none,
  refl,
)
