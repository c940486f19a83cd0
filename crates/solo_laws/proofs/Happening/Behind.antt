-- Behind a future that a run took: the end of its poll or drop is as in a try, whatever is chosen but whom it tells.
use Rattle.std.proofs.Common.{◌≡◌, ℕ, List, [], length}
use Rattle.std.proofs.Common.{refl, sym, ap, ◌∙◌}
use Rattle.executor_parts.specs.declared.mark.Mark.TheVariants.{Plain as PlainMark}
use Rattle.task_moves.specs.AbstractTask as abstract
use Rattle.task_moves.specs.AbstractTask.PendingEnd.{Drops as EndDrops, Queues as EndQueues, Forgets as EndForgets, Rests as EndRests}
use Rattle.solo.specs.declared.names.SoloWaker.{SoloWaker}
use Rattle.plain_scheduler.specs.State.{Choice, Code, Granted, Plain, Try}
use Rattle.plain_scheduler.specs.Moves.{task}
use Rattle.plain_scheduler.specs.Calls as plain
use Rattle.plain_scheduler.specs.Calls.{Call, does}
use Rattle.solo_laws.specs.Road.{wakes}
use Rattle.solo_laws.specs.RunGoing.{Dropping, IsEnding, Losing, Polling, Stage, drop_ends, in_try, loss_ends, poll_ends}
use Rattle.solo_laws.proofs.Happening.Long.{ends_long, pends_long}

abbrev pub telling : ℕ → Choice
telling n = record { first = PlainMark; keeps = []; robs = 0; moves = 0; tells = n; refusal = Granted }

module _ {T X : Type 0} where
  module _ (p : Plain T (SoloWaker X)) (rest : List (Code T (SoloWaker X))) where
    pends_by : (c : Choice) (e : abstract.PendingEnd) (f : ℕ) (q : Plain T (SoloWaker X))
        → plain.pending_by wakes c e f Try q ≡ plain.pending_by wakes (telling c.tells) e f Try q
    pends_by c EndDrops f q = refl
    pends_by c EndForgets f q = refl
    pends_by c EndQueues f q = refl
    pends_by c EndRests f q = refl

    -- an end looks at nothing that is chosen but whom it tells
    by_tells : (c : Choice) (stage : Stage T (SoloWaker X)) (call : Call T (SoloWaker X)) → IsEnding stage call
        → does wakes c call (in_try stage rest p) ≡ does wakes (telling c.tells) call (in_try stage rest p)
    by_tells c stage call (poll_ends f) =
        pends_by c (abstract.pending_end (task f (record p { inside = rest }))) f (record p { inside = rest })
    by_tells c stage call (drop_ends f end) = refl
    by_tells c stage call (loss_ends awaiter) = refl

    pub same_end : (c d : Choice) (stage : Stage T (SoloWaker X)) (call : Call T (SoloWaker X)) → IsEnding stage call
        → c.tells ≡ d.tells → does wakes c call (in_try stage rest p) ≡ does wakes d call (in_try stage rest p)
    same_end c d stage call ends same =
        by_tells c stage call ends
        ∙ (ap (λ n. does wakes (telling n) call (in_try stage rest p)) same ∙ sym (by_tells d stage call ends))

-- there are as many futures
pub end_long : {T X : Type 0} (c : Choice) (p : Plain T (SoloWaker X)) (rest : List (Code T (SoloWaker X)))
    (stage : Stage T (SoloWaker X)) (call : Call T (SoloWaker X)) → IsEnding stage call
    → length (does wakes c call (in_try stage rest p)).futures ≡ length p.futures
end_long c p rest stage call (poll_ends f) = (pends_long c (in_try (Polling f) rest p)).futures
end_long c p rest stage call (drop_ends f end) = (ends_long c (in_try (Dropping f end) rest p)).futures
end_long c p rest stage call (loss_ends awaiter) = (ends_long c (in_try (Losing awaiter) rest p)).futures
