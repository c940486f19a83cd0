-- Who leads at a barrier.
use Rattle.async_lock.specs.declared.barrier.BarrierWaitResult.{BarrierWaitResult}
use Rattle.async_lock.specs.declared.barrier.BarrierWaitResult.TheVariants.{Leader, Other}

abbrev pub IsLeader : BarrierWaitResult → Type 0
IsLeader (Leader _) = Unit {0}
IsLeader (Other _) = ⊥
