use Rattle.schedule_picture.specs.Picture.{events_of}
use Rattle.schedule_picture.proofs.Shown.{happened-more}
use Rattle.schedule_picture.proofs.picture.Picture.of.Goals as goal

pub loop-place-preserved : goal.loop-place-preserved
loop-place-preserved c = (
  happened-more c.args.moments.now c.loop-place.place _ (events_of c.loop-place.picture.shapes.items)
      (events_of c.show.new.self.shapes.items) c.loop-place-test.true c.loop-place.invariant.0 c.in_ok-show.ensures.events,
  c.in_ok-show.ensures.lanes,
)
