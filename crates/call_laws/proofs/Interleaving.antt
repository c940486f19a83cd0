-- For two_parties_interleave.
use Rattle.std.proofs.Common.{refl}
use Rattle.executor_model.specs.Steps.{step}
use Rattle.call_laws.specs.Interleaved.{TwoInterleave}

pub interleave : TwoInterleave
unfolding step
interleave = refl
