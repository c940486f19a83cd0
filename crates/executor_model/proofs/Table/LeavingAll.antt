-- For table_and_queue_agree, no_append_is_refused_full, the_limit_is_exact, drops_come_once, early_drops_have_causes
-- and closing_drops_each_future_once.
-- What holds of each future and its place in the table (proofs/Table/Leaving) is kept by each effect, and so by each thing that
-- is done.
use Rattle.std.proofs.Common.{◌≡◌, ℕ, ◌+◌, ◌<◌, List, [], ◌∷◌, ◌++◌, length, true, false, not, ltb, refl, ap, ⊎_elim}
use Rattle.std.proofs.Common.{arith}
use Rattle.std.{proofs.lemmas.List.length-append, specs.Prelude.nat_lt, specs.Prelude.slice_set}
use Rattle.executor_model.proofs.Types.{Mark, Move, Call, Reply, Answer, Event, ClosingOp, Hold, Op, QueueOp, TableOp, UserOp}
use Rattle.executor_model.specs.Acts.{takes_more, append_by, begin_drop, closing_ops, enter_by, leave_by, stands_alone}
use Rattle.executor_model.specs.World.{World, Done, done, log, among, queue_of, mark_of}
use Rattle.executor_model.specs.{Acts.leak_out_by, Acts.leaked, ActsOfRuns.free_places, Weights.same, Sound.Pend, Sound.times}
use Rattle.executor_model.specs.Sound.{with_ops}
use Rattle.executor_model.proofs.OneFuture.Effects.Effect.{passes, turns, refuses, enters, unlists, drops, takes_out}
use Rattle.executor_model.proofs.Steps.Lists.{fresh_is, read_push, same_is, times-append, without_one}
use Rattle.executor_model.proofs.OneFuture.Stories.{length-except, story, story-push, times-except}
use Rattle.executor_model.proofs.OneFuture.Extras.{Extra, with_extra}
use Rattle.executor_model.proofs.Table.Leaving.{Base, Entered, Leaves, KeepsLeaves}
use Rattle.executor_model.proofs.Table.LeavingViews.{base-passes, entered-loose, entered-moved, entered-passes}
use Rattle.executor_model.proofs.OneFuture.Effects.{Effect, turned-keeps}
use Rattle.executor_model.proofs.OneFuture.Effects.Effect.{drops_next, leaks, leaks_out}
use Rattle.executor_model.proofs.OneFuture.MoveViews.{HasAsked, leaked-keeps, leaks_out-keeps}
use Rattle.executor_model.proofs.{Steps.QueuesByMark.is_any_shut, OneFuture.Views.seen, OneFuture.Passing.goes-end}
use Rattle.executor_model.proofs.{OneFuture.Passes.ShutsBy, OneFuture.RunsPassing.IsPutBack, Types.StealOp}

leaves-refuses : (w : World) (mark : Mark) (f : ℕ) → is_any_shut w.queues ≡ true →
    KeepsLeaves w (Op.Queue (QueueOp.Append f) ∷ []) (append_by false w mark f)
leaves-refuses w mark f c g r y b h = grind (arith, same_is)

leaves-enters : (mark : Mark) (p : ℕ) (w : World) → (w.gone ≡ false → (g : ℕ) → length (story g w.trace).standing < w.limit) →
    KeepsLeaves w (Op.Table (TableOp.Enter mark) ∷ []) (enter_by false false mark p w)
leaves-enters mark p w l g r y b h =
    let n : w.gone ≡ false = grind arith in
    let z : length (story g w.trace).standing < w.limit = l n g in
    grind (arith, same_is, fresh_is, read_push, times-append, length-append, story-push)

leaves-unlists : (w : World) (f : ℕ) → among f w.table ≡ true →
    KeepsLeaves w (Op.Table (TableOp.LeaveTable f) ∷ []) (leave_by true w f)
leaves-unlists w f e g r y b h = grind (arith, same_is, without_one)

leaves-drops : (p f : ℕ) (w : World) → KeepsLeaves w (Op.User (UserOp.BeginDrop f) ∷ []) (begin_drop p w f)
leaves-drops p f w g r y b h = let z : _ = length-except f (story g w.trace).standing in
    grind (arith, same_is, times-except, story-push)

leaves-takes_out : (ls ws : List ℕ) (w : World) → w.table ≡ ls → KeepsLeaves w (Op.Closing ClosingOp.TakeOut ∷ [])
    (done (record w { table = w.leaving; leaving = w.table }) (closing_ops ls ws))
leaves-takes_out [] [] w e g r y b h = let z : times g w.table ≡ 0 = ap (times g) e in grind arith
leaves-takes_out [] (x ∷ ws) w e g r y b h = let z : times g w.table ≡ 0 = ap (times g) e in grind arith
leaves-takes_out (x ∷ ls) ws w e g r y b h = grind arith

leaves-drops_next : (rest ws : List ℕ) (p : ℕ) (w : World) (f : ℕ) → w.leaving ≡ f ∷ rest →
    KeepsLeaves w (Op.Closing ClosingOp.DropNext ∷ [])
    (done (log (record w { leaving = rest; waking = w.waking ++ f ∷ []; inside = slice_set w.inside f false })
    (Event.Dropped p f)) (Op.User (UserOp.Drop f) ∷ closing_ops rest ws))
leaves-drops_next [] [] p w f e g r y b h = let z : times g w.leaving ≡ same g f + 0 = ap (times g) e in
    grind (arith, same_is, times-append, story-push)
leaves-drops_next [] (x ∷ ws) p w f e g r y b h = let z : times g w.leaving ≡ same g f + 0 = ap (times g) e in
    grind (arith, same_is, times-append, story-push)
leaves-drops_next (x ∷ ls) ws p w f e g r y b h =
    let z : times g w.leaving ≡ same g f + times g (x ∷ ls) = ap (times g) e in
    grind (arith, same_is, times-append, story-push)

leaves-leaks_out : (w : World) → w.is_static ≡ false → w.gone ≡ false →
    KeepsLeaves w (Op.Closing ClosingOp.LeakOut ∷ []) (leak_out_by false w)
leaves-leaks_out w s n g r y b h = leaks_out-keeps Entered (λ x s n t h. grind arith) w s n g r y h

leaves-leaked : (d : Done) (p f g : ℕ) (r : Pend) (y : Extra) → HasAsked d.world f → Entered (seen d.world g r y) →
    Entered (seen (leaked p f d).world g r y)
leaves-leaked d p f g r y a h = leaked-keeps Entered (λ x a h. grind arith) d.world p f g r y a h

-- what it needs beside: room for a Runnable, or one of the queues closed; room for a future; and a place for what a steal found
abbrev pub NeedsPlaces : World → Op → Type 0
NeedsPlaces w (Op.Queue (QueueOp.Append f)) = takes_more (queue_of w (mark_of w f)) w.limit ≡ false →
    is_any_shut w.queues ≡ true
NeedsPlaces w (Op.Table (TableOp.Enter mark)) = not (nat_lt (length w.table) w.limit) ≡ false → w.gone ≡ false → (g : ℕ) →
    length (story g w.trace).standing < w.limit
NeedsPlaces w (Op.Steal (StealOp.Put s more f)) = ltb 0 (free_places w s.poll.run) ≡ true
NeedsPlaces w _ = Unit {0}

pub leaves-effect : (w : World) (old : List Op) (d : Done) → ((o : Op) → old ≡ o ∷ [] → NeedsPlaces w o) →
    Effect w old d → KeepsLeaves w old d
leaves-effect w old d n (passes s c) g r y b h = ⊎_elim
    (λ (z : ShutsBy w old d). entered-passes _ _ (s g r y).passes (s g r y).stays (z g r y) h)
    (λ (z : IsPutBack w old).
    let full : ltb 0 (free_places w z.0.poll.run) ≡ false = z.1.1.1.1 in
    let free : ltb 0 (free_places w z.0.poll.run) ≡ true = n (Op.Steal (StealOp.Put z.0 z.1.0 z.1.1.0)) z.1.1.1.0 in
    absurd (cc)) c
leaves-effect w old _ n (turns d m p f v more i j k s a e) g r y b h =
    turned-keeps Base Entered (λ m x. stands_alone m ≡ true) entered-moved entered-loose
    (λ x y z. base-passes x y z.passes) (λ x y z c. entered-passes x y z.passes z.stays z.shuts) w old d m p f v more i
    (λ q u. j) s a e g r y b h
leaves-effect w old d n (refuses f e) g r y b h = leaves-refuses w (mark_of w f) f
    (n (Op.Queue (QueueOp.Append f)) refl e) g r y b h
leaves-effect w old d n (enters mark p e) g r y b h = leaves-enters mark p w (n (Op.Table (TableOp.Enter mark)) refl e) g r y b h
leaves-effect w old d n (unlists f e) g r y b h = leaves-unlists w f e g r y b h
leaves-effect w old d n (drops p f) g r y b h = leaves-drops p f w g r y b h
leaves-effect w old d n takes_out g r y b h = leaves-takes_out _ _ w refl g r y b h
leaves-effect w old d n (drops_next p f rest e) g r y b h =
    leaves-drops_next rest (w.waking ++ f ∷ []) p w f e g r y b h
leaves-effect w old d n (leaks_out s z) g r y b h = leaves-leaks_out w s z g r y b h
leaves-effect w old _ n (leaks d p f e a) g r y b h = leaves-leaked d p f g _ _ a (leaves-effect w _ d n e g r y b h)

-- the answers of user code
pub leaves-pends : (p f : ℕ) (w : World) → KeepsLeaves w (Op.User (UserOp.Poll f) ∷ [])
    (done (log w (Event.Answered p f Answer.Pending)) (Op.Table (TableOp.PutBack f) ∷ []))
leaves-pends p f w g r y b h = grind (arith, same_is, story-push)

pub leaves-readies : (p f : ℕ) (w : World) → KeepsLeaves w (Op.User (UserOp.Poll f) ∷ [])
    (done (log w (Event.Answered p f Answer.Ready)) (Op.User (UserOp.BeginDrop f) ∷ Op.Move Move.EndReady f ∷ []))
leaves-readies p f w g r y b h = grind (arith, same_is, story-push)

-- the drop of the executor begins, where no call uses it
pub leaves-closes : (p : ℕ) (w : World) (g : ℕ) (r : Pend) (y : Extra) → w.gone ≡ false → r.drops + y.leaves ≡ 0 →
    Base (seen w g (with_ops g [] r) (with_extra g [] y)) → Leaves w g (with_ops g [] r) (with_extra g [] y) →
    Leaves (log (record (log w (Event.CallBegun p Call.DropExecutor)) { gone = true }) (Event.DropBegun p)) g
    (with_ops g (Op.Closing ClosingOp.TakeOut ∷ Op.End Reply.Done Hold.Nothing ∷ []) r)
    (with_extra g (Op.Closing ClosingOp.TakeOut ∷ Op.End Reply.Done Hold.Nothing ∷ []) y)
leaves-closes p w g r y n z b h = grind (arith, story-push)

pub leaves-end : (w : World) (p : ℕ) (a : Reply) (held : Hold) (g : ℕ) (r : Pend) (y : Extra) →
    Leaves w g (with_ops g (Op.End a held ∷ []) r) (with_extra g (Op.End a held ∷ []) y) →
    Leaves (log w (Event.CallEnded p a)) g (with_ops g [] r) (with_extra g [] y)
leaves-end w p a held g r y h = let s = goes-end p w a held g r y in entered-passes _ _ s.passes s.stays s.shuts h
