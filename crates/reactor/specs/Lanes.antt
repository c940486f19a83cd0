-- The ways of a source.
use Rattle.std.specs.Prelude.{◌≡◌, Result, Ok, Err}
use Rattle.async_task.specs.declared.poll.Poll.{Poll}
use Rattle.async_task.specs.declared.poll.Poll.TheVariants.{Ready, Pending}
use Rattle.reactor.specs.declared.errors.ReactorClosed.{ReactorClosed}
use Rattle.reactor.specs.declared.guard.ReadyGuard.{ReadyGuard}
use Rattle.reactor.specs.declared.lane.Lane.{Lane}
use Rattle.reactor.specs.declared.lane.Lanes.{Lanes}
use Rattle.reactor.specs.declared.poller.Way.{Way}
use Rattle.reactor.specs.declared.poller.Way.TheVariants.{Read, Write}

module _ {K : Type 0} where
  abbrev pub lane_of : Way → Lanes K → Lane K
  lane_of Read lanes = lanes.read
  lane_of Write lanes = lanes.write

  -- a guard that a poll answers is of the way that was polled
  abbrev pub IsOfWay : {R : Type 0} → Way → Lanes K → Poll (Result (ReadyGuard K R) ReactorClosed) → Type 0
  IsOfWay way lanes (Ready (Ok guard)) = guard.lane.now ≡ lane_of way lanes
  IsOfWay way lanes (Ready (Err _)) = Unit {0}
  IsOfWay way lanes Pending = Unit {0}
