-- For outputs_are_settled.
-- The output of a future that was ready was given or dropped, or is there: what holds of it at every moment, and each
-- effect keeps.
use Rattle.std.proofs.Common.{◌≡◌, ◌⊎◌, ℕ, ◌+◌, ◌<◌, ◌≤◌, List, [], ◌∷◌, ◌++◌, true, false, arith}
use Rattle.std.{proofs.lemmas.Bool.Decides.nat_tests, specs.Prelude.slice_set}
use Rattle.task_moves.proofs.Cases.{by_move}
use Rattle.executor_model.proofs.Types.{Mark, Move, Call, Reply, Answer, Event, ClosingOp, Hold, Op, TableOp, UserOp}
use Rattle.executor_model.specs.Acts.{begin_drop, closing_ops, enter_by, stands_alone, leak_out_by, leaked}
use Rattle.executor_model.specs.{World.World, World.Done, World.done, World.log, Sound.Pend, Sound.with_ops}
use Rattle.executor_model.proofs.OneFuture.Effects.Effect.{passes, turns, refuses, enters, unlists, drops, takes_out}
use Rattle.executor_model.proofs.Steps.Lists.{fresh_is, read_push, same_is}
use Rattle.executor_model.proofs.OneFuture.Views.{Seen, seen, before, after}
use Rattle.executor_model.proofs.OneFuture.Passes.{Gives, Handles, Passes}
use Rattle.executor_model.proofs.OneFuture.MoveViews.{Alike, HasAsked, leaked-keeps, leaks_out-keeps}
use Rattle.executor_model.proofs.OneFuture.Effects.Effect.{drops_next, leaks, leaks_out}
use Rattle.executor_model.proofs.OneFuture.EffectsWays.Effects.{does, pends, readies, closes}
use Rattle.executor_model.proofs.{OneFuture.Tallies.outputs-push, OneFuture.Tallies.readies-push, OneFuture.Extras.Extra}
use Rattle.executor_model.proofs.{OneFuture.Extras.with_extra, Counts.SoundViews.Sure, Counts.SoundViews.sound-passes}
use Rattle.executor_model.proofs.{OneFuture.Effects.Effect, OneFuture.Effects.turned-keeps, OneFuture.EffectsWays.Effects}

-- it went or is about to be dropped, or the poll that it came of has still to end, or it is there with its handle
pub record Settled (x : Seen) : Type 0 where
  pub somewhere : 1 ≤ x.readies → (1 ≤ x.outputs + x.extra.outs)
      ⊎ ((1 ≤ x.pend.ready) ⊎ ((x.state.completed ≡ true) × ((x.state.closed ≡ false) × (x.state.handle ≡ true))))

settled-passes : (x y : Seen) → Passes x y → Gives x y → Handles x y → Settled x → Settled y
settled-passes x y s q t h = grind arith

settled-loose : (x : Seen) (p q : Pend) (a b : Extra) → Alike p q a b → Settled (record x { pend = p; extra = a }) →
    Settled (record x { pend = q; extra = b })
settled-loose x p q a b l h = grind arith

-- who polls or ends a poll of it isn't over
settled-turned : (m : Move) (x : Seen) → stands_alone m ≡ true →
    (1 ≤ (before m x).pend.waiting
    + ((before m x).pend.polls + ((before m x).pend.ending + (before m x).pend.ready)) → x.state.completed ≡ false) →
    Settled (before m x) → Settled (after m x)
settled-turned = by_move _
    (λ x n b h. grind (arith, nat_tests))
    (λ x n b h. grind (arith, nat_tests))
    (λ x n b h. absurd (cc))
    (λ x n b h. grind (arith, nat_tests))
    (λ x n b h. grind (arith, nat_tests))
    (λ x n b h. grind (arith, nat_tests))
    (λ x n b h. grind (arith, nat_tests))
    (λ x n b h. grind (arith, nat_tests))
    (λ x n b h. grind (arith, nat_tests))
    (λ x n b h. grind (arith, nat_tests))
    (λ x n b h. grind (arith, nat_tests))
    (λ x n b h. grind (arith, nat_tests))
    (λ x n b h. grind (arith, nat_tests))
    (λ x n b h. absurd (cc))
    (λ x n b h. absurd (cc))
    (λ x n b h. absurd (cc))
    (λ x n b h. absurd (cc))
    (λ x n b h. absurd (cc))
    (λ x n b h. absurd (cc))

settled-moved : (m : Move) (x : Seen) → x.number < x.tasks → stands_alone m ≡ true → Sure (before m x) →
    Settled (before m x) → Settled (after m x)
settled-moved m x i n b h = settled-turned m x n (λ k. b.live (omega (arith, k))) h

abbrev pub KeepsSettled : World → List Op → Done → Type 0
KeepsSettled w old d = (g : ℕ) (r : Pend) (y : Extra) → Sure (seen w g (with_ops g old r) (with_extra g old y)) →
    Settled (seen w g (with_ops g old r) (with_extra g old y)) →
    Settled (seen d.world g (with_ops g d.next r) (with_extra g d.next y))

settle-enters : (mark : Mark) (p : ℕ) (w : World) → KeepsSettled w (Op.Table (TableOp.Enter mark) ∷ []) (enter_by false false mark p w)
settle-enters mark p w g r y b h = grind (arith, same_is, fresh_is, read_push, outputs-push, readies-push)

settle-drops : (p f : ℕ) (w : World) → KeepsSettled w (Op.User (UserOp.BeginDrop f) ∷ []) (begin_drop p w f)
settle-drops p f w g r y b h = grind (arith, outputs-push, readies-push)

settle-takes_out : (ls ws : List ℕ) (w : World) → KeepsSettled w (Op.Closing ClosingOp.TakeOut ∷ [])
    (done (record w { table = w.leaving; leaving = w.table }) (closing_ops ls ws))
settle-takes_out [] [] w g r y b h = grind arith
settle-takes_out [] (x ∷ ws) w g r y b h = grind arith
settle-takes_out (x ∷ ls) ws w g r y b h = grind arith

settle-drops_next : (ls ws : List ℕ) (p : ℕ) (w : World) (f : ℕ) (rest : List ℕ) →
    KeepsSettled w (Op.Closing ClosingOp.DropNext ∷ [])
    (done (log (record w { leaving = rest; waking = w.waking ++ f ∷ []; inside = slice_set w.inside f false })
    (Event.Dropped p f)) (Op.User (UserOp.Drop f) ∷ closing_ops ls ws))
settle-drops_next [] [] p w f rest g r y b h = grind (arith, outputs-push, readies-push)
settle-drops_next [] (x ∷ ws) p w f rest g r y b h = grind (arith, outputs-push, readies-push)
settle-drops_next (x ∷ ls) ws p w f rest g r y b h = grind (arith, outputs-push, readies-push)

settle-leaks_out : (w : World) → w.is_static ≡ false → w.gone ≡ false →
    KeepsSettled w (Op.Closing ClosingOp.LeakOut ∷ []) (leak_out_by false w)
settle-leaks_out w s n g r y k h = leaks_out-keeps Settled (λ x s n t h. grind arith) w s n g r y h

settle-leaked : (d : Done) (p f g : ℕ) (r : Pend) (y : Extra) → HasAsked d.world f → Settled (seen d.world g r y) →
    Settled (seen (leaked p f d).world g r y)
settle-leaked d p f g r y a h = leaked-keeps Settled (λ x a h. grind arith) d.world p f g r y a h

settle-effect : (w : World) (old : List Op) (d : Done) → Effect w old d → KeepsSettled w old d
settle-effect w old d (passes s c) g r y b h = settled-passes _ _ (s g r y).passes (s g r y).gives (s g r y).handles h
settle-effect w old _ (turns d m p f v more i j n s a e) g r y b h =
    turned-keeps Sure Settled (λ m x. stands_alone m ≡ true) settled-moved settled-loose (λ x y z. sound-passes x y z.passes)
    (λ x y z b. settled-passes x y z.passes z.gives z.handles) w old d m p f v more i (λ q u. j) s a e g r y b h
settle-effect w old d (refuses f e) g r y b h = grind arith
settle-effect w old d (enters mark p e) g r y b h = settle-enters mark p w g r y b h
settle-effect w old d (unlists f e) g r y b h = grind arith
settle-effect w old d (drops p f) g r y b h = settle-drops p f w g r y b h
settle-effect w old d takes_out g r y b h = settle-takes_out w.table w.waking w g r y b h
settle-effect w old d (drops_next p f rest e) g r y b h = settle-drops_next rest (w.waking ++ f ∷ []) p w f rest g r y b h
settle-effect w old d (leaks_out s n) g r y b h = settle-leaks_out w s n g r y b h
settle-effect w old _ (leaks d p f e a) g r y b h = settle-leaked d p f g _ _ a (settle-effect w _ d e g r y b h)

settle-pends : (p f : ℕ) (w : World) → KeepsSettled w (Op.User (UserOp.Poll f) ∷ [])
    (done (log w (Event.Answered p f Answer.Pending)) (Op.Table (TableOp.PutBack f) ∷ []))
settle-pends p f w g r y b h = grind (arith, outputs-push, readies-push)

settle-readies : (p f : ℕ) (w : World) → KeepsSettled w (Op.User (UserOp.Poll f) ∷ [])
    (done (log w (Event.Answered p f Answer.Ready)) (Op.User (UserOp.BeginDrop f) ∷ Op.Move Move.EndReady f ∷ []))
settle-readies p f w g r y b h = grind (arith, outputs-push, readies-push)

settle-closes : (p : ℕ) (w : World) → KeepsSettled w []
    (done (log (record (log w (Event.CallBegun p Call.DropExecutor)) { gone = true }) (Event.DropBegun p))
    (Op.Closing ClosingOp.TakeOut ∷ Op.End Reply.Done Hold.Nothing ∷ []))
settle-closes p w g r y b h = grind (arith, outputs-push, readies-push)

-- whatever a party does
pub settle-act : (w : World) (ss : List (List Op)) (old : List Op) (d : Done) → Effects w ss old d → KeepsSettled w old d
settle-act w ss old d (does e) g r y b h = settle-effect w old d e g r y b h
settle-act w ss old d (pends p f) g r y b h = settle-pends p f w g r y b h
settle-act w ss old d (readies p f) g r y b h = settle-readies p f w g r y b h
settle-act w ss old d (closes p e u) g r y b h = settle-closes p w g r y b h
