-- The marks of a task whose future a party has in hand, at each moment: from the beginning of a poll to its end it is running, and where
-- the future of a closed one is dropped it stays closed, and running or scheduled, until its run ends.
use Rattle.std.proofs.Common.{◌≡◌, ℕ, ◌+◌, ◌≤◌, ◌<◌, List, [], ◌∷◌, ◌++◌, true, false, sym, subst, arith}
use Rattle.std.{proofs.lemmas.List.length-append, specs.Prelude.slice_set, proofs.lemmas.Bool.Decides.nat_tests}
use Rattle.task_moves.proofs.Cases.{by_move}
use Rattle.task_moves.specs.declared.moves.owed.Move.{Move}
use Rattle.task_moves.specs.declared.moves.owed.Move.TheVariants as move
use Rattle.executor_parts.specs.declared.mark.Mark.{Mark}
use Rattle.executor_model.specs.declared.call.Call.TheVariants as call
use Rattle.executor_model.specs.declared.call.Reply.TheVariants as reply
use Rattle.executor_model.specs.declared.event.Answer.TheVariants as answer
use Rattle.executor_model.specs.declared.event.Event.TheVariants as event
use Rattle.executor_model.specs.declared.op.ClosingOp.TheVariants as closing_op
use Rattle.executor_model.specs.declared.op.Hold.TheVariants as hold
use Rattle.executor_model.specs.declared.op.Op.{Op}
use Rattle.executor_model.specs.declared.op.Op.TheVariants as op
use Rattle.executor_model.specs.declared.op.QueueOp.TheVariants as queue_op
use Rattle.executor_model.specs.declared.op.TableOp.TheVariants as table_op
use Rattle.executor_model.specs.declared.op.UserOp.TheVariants as user_op
use Rattle.executor_model.specs.World.{World, Done, done, log, mark_of}
use Rattle.executor_model.specs.Acts.{append_by, enter_by, leave_by, begin_drop, closing_ops, leak_out_by}
use Rattle.executor_model.specs.{Sound.Pend, Sound.with_ops}
use Rattle.executor_model.specs.Steps.{Machine}
use Rattle.executor_model.proofs.Steps.Lists.{read_push, fresh_is, same_is, times-append}
use Rattle.executor_model.proofs.OneFuture.Effects.{Effect, turned-keeps}
use Rattle.executor_model.proofs.OneFuture.Effects.Effect.{passes, turns, refuses, enters, unlists, drops, takes_out}
use Rattle.executor_model.proofs.OneFuture.Effects.Effect.{drops_next, leaks, leaks_out}
use Rattle.executor_model.proofs.OneFuture.EffectsWays.{Effects, each-run, view}
use Rattle.executor_model.proofs.OneFuture.EffectsWays.Effects.{does, pends, readies, closes}
use Rattle.executor_model.proofs.OneFuture.Extras.{Extra, with_extra}
use Rattle.executor_model.proofs.OneFuture.MoveViews.{Alike, leaked-keeps, leaks_out-keeps}
use Rattle.executor_model.proofs.OneFuture.Passes.{Passes}
use Rattle.executor_model.proofs.OneFuture.Passing.{goes-end}
use Rattle.executor_model.proofs.OneFuture.Views.{Seen, seen, before, after}
use Rattle.executor_model.proofs.Counts.SoundViews.{Sure, sound-passes}
use Rattle.executor_model.proofs.Steps.Reached.{Reached}

pub record InHand (x : Seen) : Type 0 where
  pub runs : 1 ≤ x.pend.polls + (x.pend.ending + (x.pend.ready + x.pend.closing)) → x.state.running ≡ true
  pub shut : 1 ≤ x.pend.closing + x.pend.settling → x.state.closed ≡ true
  pub live : 1 ≤ x.pend.closing + x.pend.settling → x.state.completed ≡ false
  pub waits : 1 ≤ x.pend.settling → x.state.scheduled ≡ true

hand-moved : (m : Move) (x : Seen) → x.number < x.tasks → Unit {0} → Sure (before m x) → InHand (before m x) → InHand (after m x)
hand-moved = by_move _
    (λ x i n f h. grind (arith, nat_tests))
    (λ x i n f h. grind (arith, nat_tests))
    (λ x i n f h. grind (arith, nat_tests))
    (λ x i n f h. grind (arith, nat_tests))
    (λ x i n f h. grind (arith, nat_tests))
    (λ x i n f h. grind (arith, nat_tests))
    (λ x i n f h. grind (arith, nat_tests))
    (λ x i n f h. grind (arith, nat_tests))
    (λ x i n f h. grind (arith, nat_tests))
    (λ x i n f h. grind (arith, nat_tests))
    (λ x i n f h. grind (arith, nat_tests))
    (λ x i n f h. grind (arith, nat_tests))
    (λ x i n f h. grind (arith, nat_tests))
    (λ x i n f h. grind (arith, nat_tests))
    (λ x i n f h. grind (arith, nat_tests))
    (λ x i n f h. grind (arith, nat_tests))
    (λ x i n f h. grind (arith, nat_tests))
    (λ x i n f h. grind (arith, nat_tests))
    (λ x i n f h. grind (arith, nat_tests))

hand-loose : (x : Seen) (p q : Pend) (a b : Extra) → Alike p q a b → InHand (record x { pend = p; extra = a })
    → InHand (record x { pend = q; extra = b })
hand-loose x p q a b l h = grind arith

hand-passes : (x y : Seen) → Passes x y → InHand x → InHand y
hand-passes x y s h = grind arith

-- it keeps what holds of g
abbrev Keeps : World → List Op → Done → Type 0
Keeps w old d =
    (g : ℕ) (r : Pend) (y : Extra) → Sure (seen w g (with_ops g old r) (with_extra g old y))
    → InHand (seen w g (with_ops g old r) (with_extra g old y)) → InHand (seen d.world g (with_ops g d.next r) (with_extra g d.next y))

hand-refuses : (w : World) (mark : Mark) (f : ℕ) → Keeps w (op.Queue (queue_op.Append f) ∷ []) (append_by false w mark f)
hand-refuses w mark f g r y bb h = grind (arith, same_is)

hand-enters : (mark : Mark) (p : ℕ) (w : World) → Keeps w (op.Table (table_op.Enter mark) ∷ []) (enter_by false false mark p w)
hand-enters mark p w g r y bb h = grind (arith, same_is, fresh_is, read_push, times-append, length-append)

hand-unlists : (w : World) (f : ℕ) → Keeps w (op.Table (table_op.LeaveTable f) ∷ []) (leave_by true w f)
hand-unlists w f g r y bb h = grind (arith, same_is)

hand-drops : (p f : ℕ) (w : World) → Keeps w (op.User (user_op.BeginDrop f) ∷ []) (begin_drop p w f)
hand-drops p f w g r y bb h = grind (arith, same_is)

hand-takes_out : (ls ws : List ℕ) (w : World)
    → Keeps w (op.Closing closing_op.TakeOut ∷ []) (done (record w { table = w.leaving; leaving = w.table }) (closing_ops ls ws))
hand-takes_out [] [] w g r y bb h = grind arith
hand-takes_out [] (x ∷ ws) w g r y bb h = grind arith
hand-takes_out (x ∷ ls) ws w g r y bb h = grind arith

hand-drops_next : (rest ws : List ℕ) (p : ℕ) (w : World) (f : ℕ)
    → Keeps w (op.Closing closing_op.DropNext ∷ [])
    (done (log (record w { leaving = rest; waking = w.waking ++ f ∷ []; inside = slice_set w.inside f false }) (event.Dropped p f))
    (op.User (user_op.Drop f) ∷ closing_ops rest ws))
hand-drops_next [] [] p w f g r y bb h = grind (arith, same_is)
hand-drops_next [] (x ∷ ws) p w f g r y bb h = grind (arith, same_is)
hand-drops_next (x ∷ ls) ws p w f g r y bb h = grind (arith, same_is)

hand-leaks_out : (w : World) → w.is_static ≡ false → w.gone ≡ false
    → Keeps w (op.Closing closing_op.LeakOut ∷ []) (leak_out_by false w)
hand-leaks_out w s n g r y k h = leaks_out-keeps InHand (λ x s n t h. grind arith) w s n g r y h

hand-effect : (w : World) (old : List Op) (d : Done) → Effect w old d → Keeps w old d
hand-effect w old d (passes s c) g r y bb h = hand-passes _ _ (s g r y).passes h
hand-effect w old _ (turns d m p f v more i j k s a b) g r y bb h =
    turned-keeps Sure InHand (λ m x. Unit {0}) hand-moved hand-loose (λ x y z. sound-passes x y z.passes)
    (λ x y z c. hand-passes x y z.passes) w old d m p f v more i (λ q u. tt) s a b g r y bb h
hand-effect w old d (refuses f e) g r y bb h = hand-refuses w (mark_of w f) f g r y bb h
hand-effect w old d (enters mark p e) g r y bb h = hand-enters mark p w g r y bb h
hand-effect w old d (unlists f e) g r y bb h = hand-unlists w f g r y bb h
hand-effect w old d (drops p f) g r y bb h = hand-drops p f w g r y bb h
hand-effect w old d takes_out g r y bb h = hand-takes_out _ _ w g r y bb h
hand-effect w old d (drops_next p f rest e) g r y bb h = hand-drops_next rest (w.waking ++ f ∷ []) p w f g r y bb h
hand-effect w old d (leaks_out s z) g r y bb h = hand-leaks_out w s z g r y bb h
hand-effect w old _ (leaks d p f e a) g r y bb h =
    leaked-keeps InHand (λ x a h. grind arith) d.world p f g _ _ a (hand-effect w _ d e g r y bb h)

hand-pends : (p f : ℕ) (w : World) → Keeps w (op.User (user_op.Poll f) ∷ [])
    (done (log w (event.Answered p f answer.Pending)) (op.Table (table_op.PutBack f) ∷ []))
hand-pends p f w g r y bb h = grind (arith, same_is)

hand-readies : (p f : ℕ) (w : World) → Keeps w (op.User (user_op.Poll f) ∷ [])
    (done (log w (event.Answered p f answer.Ready)) (op.User (user_op.BeginDrop f) ∷ op.Move move.EndReady f ∷ []))
hand-readies p f w g r y bb h = grind (arith, same_is)

hand-closes : (p : ℕ) (w : World) → Keeps w []
    (done (log (record (log w (event.CallBegun p call.DropExecutor)) { gone = true }) (event.DropBegun p))
    (op.Closing closing_op.TakeOut ∷ op.End reply.Done hold.Nothing ∷ []))
hand-closes p w g r y bb h = grind arith

hand-act : (w : World) (ss : List (List Op)) (old : List Op) (d : Done) → Effects w ss old d → Keeps w old d
hand-act w ss old d (does e) g r y bb h = hand-effect w old d e g r y bb h
hand-act w ss old d (pends p f) g r y bb h = hand-pends p f w g r y bb h
hand-act w ss old d (readies p f) g r y bb h = hand-readies p f w g r y bb h
hand-act w ss old d (closes p e u) g r y bb h = hand-closes p w g r y bb h

pub in_hand : (s : Machine) → Reached s → (g : ℕ) → InHand (view s g)
in_hand s r g =
    subst (λ (m : Machine). InHand (view m g)) (sym r.is)
    (each-run InHand hand-act
    (λ w p a held g r y h. hand-passes _ _ (goes-end p w a held g r y).passes h)
    (λ limit kind g. record {
      runs = λ n. absurd (omega (arith, n));
      shut = λ n. absurd (omega (arith, n));
      live = λ n. absurd (omega (arith, n));
      waits = λ n. absurd (omega (arith, n));
    })
    r.limit r.kind r.parties r.steps g)
