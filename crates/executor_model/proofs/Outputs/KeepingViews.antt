-- For outputs_are_kept.
-- What holds of an output that is there and of an awaiter (proofs/Outputs/Keeping): kept by each move of the future's task, and by
-- each effect.
use Rattle.std.proofs.Common.{◌≡◌, ℕ, ◌<◌, List, [], ◌∷◌, ◌++◌, true, false, arith}
use Rattle.std.{proofs.lemmas.Bool.Decides.nat_tests, proofs.lemmas.List.length-append, specs.Prelude.slice_set}
use Rattle.task_moves.proofs.Cases.{by_move}
use Rattle.executor_model.proofs.Types.{Mark, Move, Call, Reply, Answer, Event, ClosingOp, Hold, Op, QueueOp, TableOp, UserOp}
use Rattle.executor_model.specs.Acts.{append_by, begin_drop, closing_ops, enter_by, leave_by, stands_alone, leak_out_by, leaked}
use Rattle.executor_model.specs.{World.World, World.Done, World.done, World.log, World.mark_of, Sound.Pend, Sound.with_ops}
use Rattle.executor_model.proofs.OneFuture.Effects.Effect.{passes, turns, refuses, enters, unlists, drops, takes_out}
use Rattle.executor_model.proofs.Steps.Lists.{fresh_is, read_push, same_is}
use Rattle.executor_model.proofs.OneFuture.Views.{Seen, seen, before, after}
use Rattle.executor_model.proofs.OneFuture.Passes.{Passes, Handles, Watched}
use Rattle.executor_model.proofs.OneFuture.MoveViews.{Alike, HasAsked, leaked-keeps, leaks_out-keeps}
use Rattle.executor_model.proofs.Outputs.Keeping.{Footing, Stored, footing}
use Rattle.executor_model.proofs.OneFuture.Effects.Effect.{drops_next, leaks, leaks_out}
use Rattle.executor_model.proofs.OneFuture.EffectsWays.Effects.{does, pends, readies, closes}
use Rattle.executor_model.proofs.{OneFuture.Tallies.readies-push, OneFuture.Tallies.spent-push, OneFuture.Extras.Extra}
use Rattle.executor_model.proofs.{OneFuture.Extras.with_extra, Counts.SoundViews.Sure, Counts.SoundViews.sound-passes}
use Rattle.executor_model.proofs.{OneFuture.Effects.Effect, OneFuture.Effects.turned-keeps, OneFuture.EffectsWays.Effects}

stored-passes : (x y : Seen) → Passes x y → Handles x y → Footing x → Stored x → Stored y
stored-passes x y s q b h = let w : Watched y = q.watched b.rests h.watched in grind arith

stored-loose : (x : Seen) (p q : Pend) (a b : Extra) → Alike p q a b → Stored (record x { pend = p; extra = a }) →
    Stored (record x { pend = q; extra = b })
stored-loose x p q a b l h = grind arith

stored-turned : (m : Move) (x : Seen) → x.number < x.tasks → stands_alone m ≡ true → Footing (before m x) →
    Stored (before m x) → Stored (after m x)
stored-turned = by_move _
    (λ x i n b h. grind (arith, nat_tests))
    (λ x i n b h. grind (arith, nat_tests))
    (λ x i n b h. absurd (cc))
    (λ x i n b h. grind (arith, nat_tests))
    (λ x i n b h. grind (arith, nat_tests))
    (λ x i n b h. grind (arith, nat_tests))
    (λ x i n b h. grind (arith, nat_tests))
    (λ x i n b h. grind (arith, nat_tests))
    (λ x i n b h. grind (arith, nat_tests))
    (λ x i n b h. grind (arith, nat_tests))
    (λ x i n b h. grind (arith, nat_tests))
    (λ x i n b h. grind (arith, nat_tests))
    (λ x i n b h. grind (arith, nat_tests))
    (λ x i n b h. absurd (cc))
    (λ x i n b h. absurd (cc))
    (λ x i n b h. absurd (cc))
    (λ x i n b h. absurd (cc))
    (λ x i n b h. absurd (cc))
    (λ x i n b h. absurd (cc))

stored-moved : (m : Move) (x : Seen) → x.number < x.tasks → stands_alone m ≡ true → Sure (before m x) →
    Stored (before m x) → Stored (after m x)
stored-moved m x i n b h = stored-turned m x i n (footing (before m x) b) h

abbrev pub KeepsStored : World → List Op → Done → Type 0
KeepsStored w old d = (g : ℕ) (r : Pend) (y : Extra) → Sure (seen w g (with_ops g old r) (with_extra g old y)) →
    Stored (seen w g (with_ops g old r) (with_extra g old y)) →
    Stored (seen d.world g (with_ops g d.next r) (with_extra g d.next y))

stored-refuses : (w : World) (mark : Mark) (f : ℕ) → KeepsStored w (Op.Queue (QueueOp.Append f) ∷ []) (append_by false w mark f)
stored-refuses w mark f g r y k h = grind (arith, same_is)

stored-enters : (mark : Mark) (p : ℕ) (w : World) → KeepsStored w (Op.Table (TableOp.Enter mark) ∷ []) (enter_by false false mark p w)
stored-enters mark p w g r y k h = let b = footing _ k in
    grind (arith, same_is, fresh_is, read_push, length-append, readies-push, spent-push)

stored-unlists : (w : World) (f : ℕ) → KeepsStored w (Op.Table (TableOp.LeaveTable f) ∷ []) (leave_by true w f)
stored-unlists w f g r y k h = grind arith

stored-drops : (p f : ℕ) (w : World) → KeepsStored w (Op.User (UserOp.BeginDrop f) ∷ []) (begin_drop p w f)
stored-drops p f w g r y k h = grind (arith, readies-push, spent-push)

stored-takes_out : (ls ws : List ℕ) (w : World) → KeepsStored w (Op.Closing ClosingOp.TakeOut ∷ [])
    (done (record w { table = w.leaving; leaving = w.table }) (closing_ops ls ws))
stored-takes_out [] [] w g r y k h = grind arith
stored-takes_out [] (x ∷ ws) w g r y k h = grind arith
stored-takes_out (x ∷ ls) ws w g r y k h = grind arith

stored-drops_next : (ls ws : List ℕ) (p : ℕ) (w : World) (f : ℕ) (rest : List ℕ) →
    KeepsStored w (Op.Closing ClosingOp.DropNext ∷ [])
    (done (log (record w { leaving = rest; waking = w.waking ++ f ∷ []; inside = slice_set w.inside f false })
    (Event.Dropped p f)) (Op.User (UserOp.Drop f) ∷ closing_ops ls ws))
stored-drops_next [] [] p w f rest g r y k h = grind (arith, readies-push, spent-push)
stored-drops_next [] (x ∷ ws) p w f rest g r y k h = grind (arith, readies-push, spent-push)
stored-drops_next (x ∷ ls) ws p w f rest g r y k h = grind (arith, readies-push, spent-push)

stored-leaks_out : (w : World) → w.is_static ≡ false → w.gone ≡ false →
    KeepsStored w (Op.Closing ClosingOp.LeakOut ∷ []) (leak_out_by false w)
stored-leaks_out w s n g r y k h = leaks_out-keeps Stored (λ x s n t h. grind arith) w s n g r y h

stored-leaked : (d : Done) (p f g : ℕ) (r : Pend) (y : Extra) → HasAsked d.world f → Stored (seen d.world g r y) →
    Stored (seen (leaked p f d).world g r y)
stored-leaked d p f g r y a h = leaked-keeps Stored (λ x a h. grind arith) d.world p f g r y a h

pub stored-effect : (w : World) (old : List Op) (d : Done) → Effect w old d → KeepsStored w old d
stored-effect w old d (passes s c) g r y k h =
    stored-passes _ _ (s g r y).passes (s g r y).handles (footing _ k) h
stored-effect w old _ (turns d m p f v more i j n s a e) g r y k h =
    turned-keeps Sure Stored (λ m x. stands_alone m ≡ true) stored-moved stored-loose
    (λ x y z. sound-passes x y z.passes) (λ x y z b. stored-passes x y z.passes z.handles (footing x b)) w old d m p f v
    more i (λ q u. j) s a e g r y k h
stored-effect w old d (refuses f e) g r y k h = stored-refuses w (mark_of w f) f g r y k h
stored-effect w old d (enters mark p e) g r y k h = stored-enters mark p w g r y k h
stored-effect w old d (unlists f e) g r y k h = stored-unlists w f g r y k h
stored-effect w old d (drops p f) g r y k h = stored-drops p f w g r y k h
stored-effect w old d takes_out g r y k h = stored-takes_out w.table w.waking w g r y k h
stored-effect w old d (drops_next p f rest e) g r y k h = stored-drops_next rest (w.waking ++ f ∷ []) p w f rest g r y k h
stored-effect w old d (leaks_out s n) g r y k h = stored-leaks_out w s n g r y k h
stored-effect w old _ (leaks d p f e a) g r y k h = stored-leaked d p f g _ _ a (stored-effect w _ d e g r y k h)

stored-pends : (p f : ℕ) (w : World) → KeepsStored w (Op.User (UserOp.Poll f) ∷ [])
    (done (log w (Event.Answered p f Answer.Pending)) (Op.Table (TableOp.PutBack f) ∷ []))
stored-pends p f w g r y k h = grind (arith, same_is, readies-push, spent-push)

stored-readies : (p f : ℕ) (w : World) → KeepsStored w (Op.User (UserOp.Poll f) ∷ [])
    (done (log w (Event.Answered p f Answer.Ready)) (Op.User (UserOp.BeginDrop f) ∷ Op.Move Move.EndReady f ∷ []))
stored-readies p f w g r y k h = let b = footing _ k in grind (arith, same_is, readies-push, spent-push)

stored-closes : (p : ℕ) (w : World) → KeepsStored w []
    (done (log (record (log w (Event.CallBegun p Call.DropExecutor)) { gone = true }) (Event.DropBegun p))
    (Op.Closing ClosingOp.TakeOut ∷ Op.End Reply.Done Hold.Nothing ∷ []))
stored-closes p w g r y k h = grind (arith, readies-push, spent-push)

-- whatever a party does
pub stored-act : (w : World) (ss : List (List Op)) (old : List Op) (d : Done) → Effects w ss old d → KeepsStored w old d
stored-act w ss old d (does e) g r y k h = stored-effect w old d e g r y k h
stored-act w ss old d (pends p f) g r y k h = stored-pends p f w g r y k h
stored-act w ss old d (readies p f) g r y k h = stored-readies p f w g r y k h
stored-act w ss old d (closes p e u) g r y k h = stored-closes p w g r y k h
