-- For ended_runs_are_finished.
-- What a poll of a run that has ended does in its first step, and its last.
use Rattle.std.proofs.Common.{◌∙◌, [], ◌∷◌, ◌++◌, length, ap, append_assoc}
use Rattle.std.specs.Prelude.{reverse}
use Rattle.executor_laws.proofs.Types.{Call, Reply, Event, Hold, RunPoll, Begin}
use Rattle.executor_model.specs.Steps.{Machine, mine, poll_run, settled, stack, top, waker_of}
use Rattle.executor_model.specs.World.{Stage, World, log}
use Rattle.executor_laws.specs.EndedRuns.{EndedIsFinished}
use Rattle.executor_laws.proofs.Promptness.Turns.{ends-so, next-is}

pub finished-at-once : (s : Machine) → EndedIsFinished s
finished-at-once s p r b n e =
    let c : _ = Call.PollRun r b in
    let w : World = log (log s.world (Event.CallBegun p c)) (Event.RunPolled p r) in
    let x : RunPoll = record {
      run = r;
      waker = waker_of (mine (top (stack s p))) b;
      poll = length (s.world.trace ++ Event.CallBegun p c ∷ []);
    } in
    ap (λ (m : Machine). m.world.trace) (next-is s (Begin p c) n)
    ∙ (ap (λ (t : Stage). (settled p w (stack s p ++ reverse (poll_run t x))).world.trace) e
    ∙ (ap (λ (v : World). v.trace) (ends-so p w (stack s p) Reply.Finished (Hold.Run r))
    ∙ (append_assoc (s.world.trace ++ Event.CallBegun p c ∷ []) (Event.RunPolled p r ∷ []) (Event.CallEnded p Reply.Finished ∷ [])
    ∙ append_assoc s.world.trace (Event.CallBegun p c ∷ []) (Event.RunPolled p r ∷ Event.CallEnded p Reply.Finished ∷ []))))
