use Rattle.std.proofs.Common.{arith}
use Rattle.queue_steps.proofs.BoundedFinds.{head_below, pop_found, pop_second, pop_third}
use Rattle.queue_steps.proofs.bounded.find_pop.Goals as goal

pub offset_bounds-slots-index : goal.offset_bounds-slots-index
offset_bounds-slots-index g c =
    let a = c.args in
    let near = head_below a.shape.capacity a.shape.mark a.tail a.head a.slots.now a.shape.sound c.requires in
    let wide = c.requires.wide in omega arith

pub bounds-slots-index : goal.bounds-slots-index
bounds-slots-index g c =
    let a = c.args in
    let near = head_below a.shape.capacity a.shape.mark a.tail a.head a.slots.now a.shape.sound c.requires in
    let wide = c.requires.wide in omega arith

pub bounds-slots-index-2 : goal.bounds-slots-index-2
bounds-slots-index-2 g c =
    let a = c.args in
    let near = head_below a.shape.capacity a.shape.mark a.tail a.head a.slots.now a.shape.sound c.requires in
    let wide = c.requires.wide in omega arith

pub returns-in_default : goal.returns-in_default
returns-in_default g c =
    let a = c.args in
    let k = pop_found a.shape.capacity a.shape.mark a.tail a.head a.slots.now a.shape.sound c.requires c.pop_at_stamp-turn.result
    c.index.result c.index-slots-index.result c.index.ensures c.pop_at_stamp-turn.ensures in
    pop_second a.shape.capacity a.shape.mark a.tail a.head a.slots.now a.shape.sound c.requires c.pop_at_stamp-turn.result k
    c.in_default.not-TailFor

pub returns : goal.returns
returns g c =
    let a = c.args in
    let k = pop_found a.shape.capacity a.shape.mark a.tail a.head a.slots.now a.shape.sound c.requires c.pop_at_stamp-turn.result
    c.index.result c.index-slots-index.result c.index.ensures c.pop_at_stamp-turn.ensures in
    pop_third a.shape.capacity a.shape.mark a.tail a.head a.slots.now a.shape.sound c.requires c.pop_at_stamp-turn.result
    c.pop_at_tail.result c.in-TailFor.field-0 k c.in-TailFor.is c.pop_at_tail.ensures
