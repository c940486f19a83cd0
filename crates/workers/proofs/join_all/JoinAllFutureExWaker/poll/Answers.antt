use Rattle.std.proofs.Common.{rules, ◌≡◌, ◌<◌, ◌∷◌, ◌++◌, [], length, refl, sym, ◌∙◌}
use Rattle.std.specs.Prelude.{vec_items}
use Rattle.workers.proofs.Joins.{error_came, none_came, one_came, some_left, stays}
use Rattle.workers.specs.Joining.{to_come}
use Rattle.workers.proofs.join_all.JoinAllFutureExWaker.poll.Goals as goal

pub returns-in-Ready-Err-clause-joined : goal.returns-in-Ready-Err-clause-joined
returns-in-Ready-Err-clause-joined g c =
    let s = c.in-Ready-Err in
    let some : 0 < length (to_come c.loop.self.awaited c.loop.self.handles) = some_left _ (sym c.is_over.ensures ∙ c.if-is_over.false) in
    let stay : vec_items c.step.new.self.outputs ≡ vec_items c.loop.self.outputs = search rules in
    let came = stays _ _ _ _ _ _ c.loop.invariant.2 stay refl in
    error_came _ _ _ _ _ _ s.error came some s.ensures.stepped s.field-0-is

pub loop-init : goal.loop-init
loop-init g c = (tt, tt, none_came _ _)

pub loop-preserved : goal.loop-preserved
loop-preserved g c =
    let s = c.in-Ready-Ok in
    let some : 0 < length (to_come c.loop.self.awaited c.loop.self.handles) = some_left _ (sym c.is_over.ensures ∙ c.if-is_over.false) in
    let pushed : vec_items c.push_reserved.new.self ≡ vec_items c.loop.self.outputs ++ s.output ∷ [] = search rules in
    (tt, tt, one_came _ _ _ _ _ _ _ s.output c.loop.invariant.2 some s.ensures.stepped s.field-0-is pushed)
