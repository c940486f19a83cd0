-- What a context has may go to another thread, part by part. Its trail owns nothing.
use denote.Exit.{Exit, unchanged, leaves, hidden, under}
use denote.Param.Send.{IsSend, AllSend, Quiet, owning_send, struct_send, sendable}
use denote.Struct.Owning.{shape, fields, to}
use denote.Struct.Struct.{exits_of}
use Rattle.std.proofs.Crossing.{crosses}
use Rattle.futures.specs.contracts.task.trail.Trail as trail
use Rattle.futures.specs.contracts.task.context.Context as context
use Rattle.futures.proofs.task.waker.Route.TheSendSync as route
use Rattle.futures.proofs.task.event_loop.Loop.TheSendSync as events
use Rattle.kit_futures.specs.contracts.parts.carried.Carried.{the_row, the_type}
use denote.Signature.{static_lft}

trail_send : IsSend trail.the_row
trail_send = owning_send trail.the_type tt (λ d. tt) (λ k x w. tt)

context_send : IsSend (context.the_field static_lft).row
context_send = search (sendable, crosses, trail_send, route.the_send, route.the_sync, events.the_send) depth 20

quiet : {D X : Type 0} (to : D → X) (e : Exit X) → Quiet e → Quiet (hidden (under to e))
quiet to unchanged q = λ x w. tt
quiet to (leaves L l S s r₀) q = λ d. q (to d)

pub send : IsSend the_row
send =
    let all : AllSend (fields the_type) = (context_send, tt) in
    owning_send the_type all (λ d. tt) (λ k. quiet (to the_type) (exits_of k (fields the_type)) ((struct_send (shape the_type) all).leaving k))
