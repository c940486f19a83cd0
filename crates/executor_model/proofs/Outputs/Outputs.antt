-- For outputs_go_once.
-- An output is given or dropped at most once: what holds of it at every moment, and each effect keeps.
use Rattle.std.proofs.Common.{◌≡◌, ℕ, ◌+◌, ◌<◌, ◌≤◌, List, [], ◌∷◌, ◌++◌, true, false, arith}
use Rattle.std.{proofs.lemmas.Bool.Decides.nat_tests, specs.Prelude.slice_set}
use Rattle.task_moves.proofs.Cases.{by_move}
use Rattle.executor_model.proofs.Types.{Mark, Move, Call, Reply, Answer, Event, ClosingOp, Hold, Op, TableOp, UserOp}
use Rattle.executor_model.specs.Acts.{begin_drop, closing_ops, enter_by, stands_alone, leak_out_by, leaked}
use Rattle.executor_model.specs.{World.World, World.Done, World.done, World.log, Sound.Pend, Sound.with_ops}
use Rattle.executor_model.proofs.OneFuture.Effects.Effect.{passes, turns, refuses, enters, unlists, drops, takes_out}
use Rattle.executor_model.proofs.Steps.Lists.{fresh_is, read_push, same_is}
use Rattle.executor_model.proofs.OneFuture.Views.{Seen, seen, before, after}
use Rattle.executor_model.proofs.OneFuture.MoveViews.{Alike, HasAsked, leaked-keeps, leaks_out-keeps}
use Rattle.executor_model.proofs.Counts.SoundViews.{Sure, sound-passes}
use Rattle.executor_model.proofs.OneFuture.Effects.{Effect, turned-keeps}
use Rattle.executor_model.proofs.OneFuture.Effects.Effect.{drops_next, leaks, leaks_out}
use Rattle.executor_model.proofs.OneFuture.EffectsWays.Effects.{does, pends, readies, closes}
use Rattle.executor_model.proofs.{OneFuture.Tallies.outputs-push, OneFuture.Extras.Extra, OneFuture.Extras.with_extra}
use Rattle.executor_model.proofs.{OneFuture.Passes.Passes, OneFuture.Passes.Gives, OneFuture.EffectsWays.Effects}

pub record Given (x : Seen) : Type 0 where
  pub once : x.outputs + x.extra.outs ≤ 1
  pub completed : 1 ≤ x.outputs + x.extra.outs → x.state.completed ≡ true
  pub closed : 1 ≤ x.outputs + x.extra.outs → x.state.closed ≡ true

given-passes : (x y : Seen) → Passes x y → Gives x y → Given x → Given y
given-passes x y s q h = grind arith

given-loose : (x : Seen) (p q : Pend) (a b : Extra) → Alike p q a b → Given (record x { pend = p; extra = a }) →
    Given (record x { pend = q; extra = b })
given-loose x p q a b l h = grind arith

-- who was ready isn't completed yet
given-turned : (m : Move) (x : Seen) → stands_alone m ≡ true → (1 ≤ (before m x).pend.ready → x.state.completed ≡ false) →
    Given (before m x) → Given (after m x)
given-turned = by_move _
    (λ x n b h. grind (arith, nat_tests))
    (λ x n b h. grind (arith, nat_tests))
    (λ x n b h. absurd (cc))
    (λ x n b h. grind (arith, nat_tests))
    (λ x n b h. grind (arith, nat_tests))
    (λ x n b h. grind (arith, nat_tests))
    (λ x n b h. grind (arith, nat_tests))
    (λ x n b h. grind (arith, nat_tests))
    (λ x n b h. grind (arith, nat_tests))
    (λ x n b h. grind (arith, nat_tests))
    (λ x n b h. grind (arith, nat_tests))
    (λ x n b h. grind (arith, nat_tests))
    (λ x n b h. grind (arith, nat_tests))
    (λ x n b h. absurd (cc))
    (λ x n b h. absurd (cc))
    (λ x n b h. absurd (cc))
    (λ x n b h. absurd (cc))
    (λ x n b h. absurd (cc))
    (λ x n b h. absurd (cc))

given-moved : (m : Move) (x : Seen) → x.number < x.tasks → stands_alone m ≡ true → Sure (before m x) →
    Given (before m x) → Given (after m x)
given-moved m x i n b h = given-turned m x n (λ k. b.live (omega (arith, k))) h

abbrev pub KeepsOutput : World → List Op → Done → Type 0
KeepsOutput w old d = (g : ℕ) (r : Pend) (y : Extra) → Sure (seen w g (with_ops g old r) (with_extra g old y)) →
    Given (seen w g (with_ops g old r) (with_extra g old y)) →
    Given (seen d.world g (with_ops g d.next r) (with_extra g d.next y))

out-enters : (mark : Mark) (p : ℕ) (w : World) → KeepsOutput w (Op.Table (TableOp.Enter mark) ∷ []) (enter_by false false mark p w)
out-enters mark p w g r y b h = grind (arith, same_is, fresh_is, read_push, outputs-push)

out-drops : (p f : ℕ) (w : World) → KeepsOutput w (Op.User (UserOp.BeginDrop f) ∷ []) (begin_drop p w f)
out-drops p f w g r y b h = grind (arith, outputs-push)

out-takes_out : (ls ws : List ℕ) (w : World) → KeepsOutput w (Op.Closing ClosingOp.TakeOut ∷ [])
    (done (record w { table = w.leaving; leaving = w.table }) (closing_ops ls ws))
out-takes_out [] [] w g r y b h = grind arith
out-takes_out [] (x ∷ ws) w g r y b h = grind arith
out-takes_out (x ∷ ls) ws w g r y b h = grind arith

out-drops_next : (ls ws : List ℕ) (p : ℕ) (w : World) (f : ℕ) (rest : List ℕ) →
    KeepsOutput w (Op.Closing ClosingOp.DropNext ∷ [])
    (done (log (record w { leaving = rest; waking = w.waking ++ f ∷ []; inside = slice_set w.inside f false })
    (Event.Dropped p f)) (Op.User (UserOp.Drop f) ∷ closing_ops ls ws))
out-drops_next [] [] p w f rest g r y b h = grind (arith, outputs-push)
out-drops_next [] (x ∷ ws) p w f rest g r y b h = grind (arith, outputs-push)
out-drops_next (x ∷ ls) ws p w f rest g r y b h = grind (arith, outputs-push)

out-leaks_out : (w : World) → w.is_static ≡ false → w.gone ≡ false →
    KeepsOutput w (Op.Closing ClosingOp.LeakOut ∷ []) (leak_out_by false w)
out-leaks_out w s n g r y k h = leaks_out-keeps Given (λ x s n t h. grind arith) w s n g r y h

out-leaked : (d : Done) (p f g : ℕ) (r : Pend) (y : Extra) → HasAsked d.world f → Given (seen d.world g r y) →
    Given (seen (leaked p f d).world g r y)
out-leaked d p f g r y a h = leaked-keeps Given (λ x a h. grind arith) d.world p f g r y a h

out-effect : (w : World) (old : List Op) (d : Done) → Effect w old d → KeepsOutput w old d
out-effect w old d (passes s c) g r y b h = given-passes _ _ (s g r y).passes (s g r y).gives h
out-effect w old _ (turns d m p f v more i j n s a e) g r y b h =
    turned-keeps Sure Given (λ m x. stands_alone m ≡ true) given-moved given-loose (λ x y z. sound-passes x y z.passes)
    (λ x y z b. given-passes x y z.passes z.gives) w old d m p f v more i (λ q u. j) s a e g r y b h
out-effect w old d (refuses f e) g r y b h = grind arith
out-effect w old d (enters mark p e) g r y b h = out-enters mark p w g r y b h
out-effect w old d (unlists f e) g r y b h = grind arith
out-effect w old d (drops p f) g r y b h = out-drops p f w g r y b h
out-effect w old d takes_out g r y b h = out-takes_out w.table w.waking w g r y b h
out-effect w old d (drops_next p f rest e) g r y b h = out-drops_next rest (w.waking ++ f ∷ []) p w f rest g r y b h
out-effect w old d (leaks_out s n) g r y b h = out-leaks_out w s n g r y b h
out-effect w old _ (leaks d p f e a) g r y b h = out-leaked d p f g _ _ a (out-effect w _ d e g r y b h)

out-pends : (p f : ℕ) (w : World) → KeepsOutput w (Op.User (UserOp.Poll f) ∷ [])
    (done (log w (Event.Answered p f Answer.Pending)) (Op.Table (TableOp.PutBack f) ∷ []))
out-pends p f w g r y b h = grind (arith, outputs-push)

out-readies : (p f : ℕ) (w : World) → KeepsOutput w (Op.User (UserOp.Poll f) ∷ [])
    (done (log w (Event.Answered p f Answer.Ready)) (Op.User (UserOp.BeginDrop f) ∷ Op.Move Move.EndReady f ∷ []))
out-readies p f w g r y b h = grind (arith, outputs-push)

out-closes : (p : ℕ) (w : World) → KeepsOutput w []
    (done (log (record (log w (Event.CallBegun p Call.DropExecutor)) { gone = true }) (Event.DropBegun p))
    (Op.Closing ClosingOp.TakeOut ∷ Op.End Reply.Done Hold.Nothing ∷ []))
out-closes p w g r y b h = grind (arith, outputs-push)

-- whatever a party does
pub out-act : (w : World) (ss : List (List Op)) (old : List Op) (d : Done) → Effects w ss old d → KeepsOutput w old d
out-act w ss old d (does e) g r y b h = out-effect w old d e g r y b h
out-act w ss old d (pends p f) g r y b h = out-pends p f w g r y b h
out-act w ss old d (readies p f) g r y b h = out-readies p f w g r y b h
out-act w ss old d (closes p e u) g r y b h = out-closes p w g r y b h
