use Rattle.plain_scheduler.specs.Calls.{new}
use Rattle.two_roads.proofs.PlainCalls.{never_both}
use Rattle.two_roads.proofs.names.plain_futures_alone_are_due.Goals as goal

pub returns : goal.returns
returns g c wakes limit is_static cs are =
    never_both wakes cs (new limit is_static) (record { futures = tt; due = tt }) are
