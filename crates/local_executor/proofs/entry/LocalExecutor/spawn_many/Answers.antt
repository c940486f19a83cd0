-- One more handle comes with one more future that the iterator gave.
use Rattle.std.proofs.Common.{◌≡◌, ◌+◌, [], ◌∷◌, ◌++◌, length, ap, ◌∙◌, arith, length-append}
use Rattle.local_executor.specs.Spawning.{HasGiven}
use Rattle.local_executor.proofs.Giving.{HasGiven-one_more}
use Rattle.local_executor.proofs.entry.LocalExecutor.spawn_many.Goals as goal

pub loop-preserved : goal.loop-preserved
loop-preserved g c =
    let one_more : HasGiven g.I.Iterator.next_gives c.args.futures.now c.next-in-loop.new.self
    (length c.args.handles.now.items) (length c.loop.handles.items + 1) =
    HasGiven-one_more g.I.Iterator.next_gives c.args.futures.now c.loop.futures c.next-in-loop.new.self c.in-Some-next.future
    (length c.args.handles.now.items) (length c.loop.handles.items) c.loop.invariant.4 c.in-Some-next.ensures.steps in
    let longer : length c.push_reserved.new.self.items ≡ length (c.reserve.new.self.items ++ c.in-Ok.handle ∷ []) =
    ap length {x = c.push_reserved.new.self.items} {y = c.reserve.new.self.items ++ c.in-Ok.handle ∷ []} c.push_reserved.ensures.items in
    let kept : length c.reserve.new.self.items ≡ length c.loop.handles.items = ap length c.reserve.ensures.items in
    let count : length c.loop.handles.items + 1 ≡ length c.push_reserved.new.self.items =
    omega (arith, length-append c.reserve.new.self.items (c.in-Ok.handle ∷ [])) in
    let ends = c.in-Some-next.ensures.goes.on c.loop.invariant.3 in
    (tt, tt, ends.0, ends.1, (one_more.0, one_more.1, one_more.2 ∙ count))
