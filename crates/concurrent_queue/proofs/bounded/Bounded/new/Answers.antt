use Rattle.std.proofs.Common.{sym, subst}
use Rattle.concurrent_queue.specs.BoundedRule.{AreNewWords}
use Rattle.concurrent_queue.proofs.BoundedKeeps.{starts_at}
use Rattle.concurrent_queue.proofs.bounded.Bounded.new.Goals as goal

pub vacant-requires : goal.vacant-requires
vacant-requires g c =
    starts_at _ _ _ _ c.new-shape.ensures.capacity c.new-shape.result.sound
    (subst (AreNewWords c.args.capacity) (sym c.as_slice.ensures.value) c.in_ok-words.ensures)
