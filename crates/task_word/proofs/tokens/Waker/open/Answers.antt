use Rattle.std.proofs.Common.{rules}
use Rattle.task_word.specs.declared.rule.Hold.TheVariants.{Reference}
use Rattle.task_word.proofs.Badged.{one_view, held_by}
use Rattle.task_word.proofs.tokens.Waker.open.Goals as goal

pub into_seat-requires : goal.into_seat-requires
into_seat-requires g c = one_view Reference c.args.self.claim.badge.views c.args.self.one

pub returns : goal.returns
returns g c = (
  search rules,
  search rules,
  search rules,
  search rules,
  (held_by Reference c.args.self.claim.badge.views c.into_seat.result.me.0 c.args.self.one c.into_seat.ensures.2, c.into_seat.ensures.3),
)
