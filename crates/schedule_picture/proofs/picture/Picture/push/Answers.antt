use Rattle.std.proofs.Common.{sym, ◌∙◌, subst, List}
use Rattle.schedule_picture.proofs.Lanes.{AllHaveLanes-push}
use Rattle.schedule_picture.specs.Picture.{AllHaveLanes}
use Rattle.schedule_picture.specs.declared.picture.Shape.{Shape}
use Rattle.schedule_picture.proofs.picture.Picture.push.Goals as goal

pub returns-clause-lanes : goal.returns-clause-lanes
returns-clause-lanes c =
    let lanes = c.args.self.now.lanes.items in
    let all : AllHaveLanes lanes c.need-2.new.self.shapes.items =
    subst (λ (shapes : List Shape). AllHaveLanes lanes shapes) (sym (c.need-2.ensures.shapes ∙ c.need.ensures.shapes))
    c.requires in
    AllHaveLanes-push lanes c.need-2.new.self.lanes.items c.need-2.new.self.shapes.items c.push.new.self.items _
    (λ lane has. c.need-2.ensures.kept lane (c.need.ensures.kept lane has)) all
    (c.need-2.ensures.kept _ c.in_ok-need.ensures.there, c.in_ok-need-2.ensures.there) c.in_ok-push.ensures.items
