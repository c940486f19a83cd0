-- Each of the lists is what its thread's promise says.
use Rattle.std.proofs.Common.{◌≡◌, ◌∙◌, ◌<◌, IfOk, Ok, sym, ap, subst, arith}
use Rattle.std.proofs.lemmas.Result.{IfOk-weaker}
use Rattle.jobs.proofs.Promised.{are_brought}
use Rattle.jobs.proofs.running.fn.work_together.scope.Goals as goal

pub returns-in-Ok-join_promised : goal.returns-in-Ok-join_promised
returns-in-Ok-join_promised g c =
    let all : c.loop-seed.seed ≡ c.captures.workers = omega (arith, c.loop-seed-test.false, c.loop-seed.auto.seed-end) in
    let ended = c.in-Ok-join_promised.ended in
    let brings = g.P.Labor.brings in
    IfOk-weaker c.all_well.result _ _ (λ returned same.
    are_brought (brings c.captures.place.now) c.captures.workers ended.items returned.items
    (sym ended.ok.0 ∙ c.in-Ok-join_promised.ensures.len ∙ c.loop-seed.invariant.0 ∙ all)
    (λ seed solved within it.
    let started : seed < c.loop-seed.seed = omega (arith, within, all) in
    let kept = (c.in-Ok-join_promised.ensures.each seed (Ok solved) (omega (arith, started, c.loop-seed.invariant.0))).1 in
    let here = ap (λ h. h.promise.0.now) kept.handle_is ∙ c.loop-seed.invariant.1 seed kept.handle started in
    let came = subst (λ one. IfOk one (brings kept.handle.promise.0.now)) it kept.kept in
    subst (λ place. brings place solved) here came)
    same) c.all_well.ensures
