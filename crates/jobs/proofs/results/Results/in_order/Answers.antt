use Rattle.std.proofs.Common.{◌≡◌, ◌∷◌, ◌++◌, ◌<◌, [], Some, length, slice_get, get_or, ap, ◌∙◌, arith, rules}
use Rattle.std.proofs.lemmas.Grind.{common_steps}
use Rattle.std.proofs.lemmas.Option.{slice_get-get_or}
use Rattle.jobs.specs.declared.results.Back.TheVariants.{Never, Once}
use Rattle.jobs.proofs.Backs.{AreAnswered-push}
use Rattle.jobs.proofs.results.Results.in_order.Goals as goal

pub loop-back-preserved : goal.loop-back-preserved
loop-back-preserved c =
    let backs = c.args.self.now.backs.items in
    let index = c.loop-back.back-index in
    let within : index < length backs = omega arith in
    let same : c.deref-back-items.result.now ≡ backs = search rules in
    let found : get_or backs index Never ≡ Once c.in-Once.answer = rw (← same) c.in-Once.is in
    let here : slice_get backs index ≡ Some (Once c.in-Once.answer) = slice_get-get_or backs index Never within ∙ ap Some found in
    let pushed : c.push.new.self.items ≡ c.loop-back.all.items ++ c.in-Once.answer ∷ [] = grind (arith, common_steps) in
    rw pushed (AreAnswered-push c.args.self.now.jobs.now backs index c.loop-back.all.items c.in-Once.answer c.args.self.now.right c.args.self.now.all c.loop-back.invariant here)
