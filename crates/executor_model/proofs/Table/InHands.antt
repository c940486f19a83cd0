-- For open_futures_are_in_hands.
-- An open future has its handle, or a reference: what holds of it at every moment, and each effect keeps.
use Rattle.std.proofs.Common.{◌≡◌, ◌⊎◌, ℕ, ◌+◌, ◌<◌, ◌≤◌, List, [], ◌∷◌, ◌++◌, true, false, arith, Bool, refl, sym, ◌∙◌, inl}
use Rattle.std.proofs.Common.{inr, ⊎_elim}
use Rattle.std.{proofs.lemmas.Bool.Decides.nat_tests, proofs.lemmas.List.length-append, specs.Prelude.slice_set}
use Rattle.task_moves.proofs.Cases.{by_move}
use Rattle.executor_model.proofs.Types.{Mark, Move, Call, Answer, Event, ClosingOp, Op, TableOp, UserOp, Kind, Reply, Hold}
use Rattle.executor_model.specs.Acts.{begin_drop, closing_ops, enter_by, entered, stands_alone, leak_out_by, leaked}
use Rattle.executor_model.specs.{World.World, World.Done, World.done, World.log, World.task, Sound.Pend, Sound.with_ops}
use Rattle.executor_model.specs.{Sound.pend, Sound.living, Sound.tokens, InHands.HasHandle, InHands.IsInHands, Steps.Machine}
use Rattle.executor_model.specs.{Steps.run, Steps.start, Trace.Trace, Trace.has, Trace.is_detached}
use Rattle.executor_model.proofs.OneFuture.Effects.Effect.{passes, turns, refuses, enters, unlists, drops, takes_out}
use Rattle.executor_model.proofs.Steps.Lists.{fresh_is, read_push, same_is}
use Rattle.executor_model.proofs.OneFuture.Stories.{story-push, story, untold}
use Rattle.executor_model.proofs.OneFuture.Extras.{Extra, with_extra, no_extra}
use Rattle.executor_model.proofs.OneFuture.Views.{Seen, seen, before, after, none}
use Rattle.executor_model.proofs.OneFuture.MoveViews.{Alike, HasAsked, leaked-keeps, leaks_out-keeps}
use Rattle.executor_model.proofs.Counts.SoundViews.{Sure, sound-passes}
use Rattle.executor_model.proofs.OneFuture.Effects.{Effect, turned-keeps}
use Rattle.executor_model.proofs.OneFuture.Effects.Effect.{drops_next, leaks, leaks_out}
use Rattle.executor_model.proofs.OneFuture.EffectsWays.{Effects, each-run, view}
use Rattle.executor_model.proofs.OneFuture.EffectsWays.Effects.{does, pends, readies, closes}
use Rattle.executor_model.proofs.{Types.Step, OneFuture.Passes.Shifts, OneFuture.Passes.shifts, Steps.Lift.good}
use Rattle.executor_model.proofs.OneFuture.Telling.{detached-from}

pub record InHands (x : Seen) : Type 0 where
  pub held : x.number < x.tasks → x.state.completed ≡ false → x.state.closed ≡ false →
      (x.state.handle ≡ true) ⊎ (1 ≤ x.state.references)
  -- a handle that was told of as gone is
  pub gone : x.story.detached ≡ true → x.state.handle ≡ false
  pub known : x.tasks ≤ x.number → x.story.detached ≡ false

hands-passes : (x y : Seen) → Shifts x y → InHands x → InHands y
hands-passes x y s h = grind arith

hands-loose : (x : Seen) (p q : Pend) (a b : Extra) → Alike p q a b → InHands (record x { pend = p; extra = a }) →
    InHands (record x { pend = q; extra = b })
hands-loose x p q a b l h = grind arith

-- what is used of the counts: who has a reference to give up has one, and who closes has found the task over
record Base (x : Seen) : Type 0 where
  counted : 1 ≤ x.pend.releases + (x.pend.ending + x.pend.giving) → 1 ≤ x.state.references
  ends : 1 ≤ x.pend.giving → (x.state.closed ≡ true) ⊎ (x.state.completed ≡ true)

base : (x : Seen) → Sure x → Base x
base x h = record { counted = λ k. omega (arith, h.counted, k); ends = λ k. h.ends (omega (arith, k)) }

hands-turned : (m : Move) (x : Seen) → x.number < x.tasks → stands_alone m ≡ true → Base (before m x) →
    InHands (before m x) → InHands (after m x)
hands-turned = by_move _
    (λ x i n b h. grind (arith, nat_tests))
    (λ x i n b h. grind (arith, nat_tests))
    (λ x i n b h. absurd (cc))
    (λ x i n b h. grind (arith, nat_tests))
    (λ x i n b h. grind (arith, nat_tests))
    (λ x i n b h. grind (arith, nat_tests))
    (λ x i n b h. grind (arith, nat_tests))
    (λ x i n b h. grind (arith, nat_tests))
    (λ x i n b h. grind (arith, nat_tests))
    (λ x i n b h. grind (arith, nat_tests))
    (λ x i n b h. grind (arith, nat_tests))
    (λ x i n b h. grind (arith, nat_tests))
    (λ x i n b h. grind (arith, nat_tests))
    (λ x i n b h. absurd (cc))
    (λ x i n b h. absurd (cc))
    (λ x i n b h. absurd (cc))
    (λ x i n b h. absurd (cc))
    (λ x i n b h. absurd (cc))
    (λ x i n b h. absurd (cc))

hands-moved : (m : Move) (x : Seen) → x.number < x.tasks → stands_alone m ≡ true → Sure (before m x) →
    InHands (before m x) → InHands (after m x)
hands-moved m x i n b h = hands-turned m x i n (base _ b) h

abbrev KeepsHands : World → List Op → Done → Type 0
KeepsHands w old d = (g : ℕ) (r : Pend) (y : Extra) → Sure (seen w g (with_ops g old r) (with_extra g old y)) →
    InHands (seen w g (with_ops g old r) (with_extra g old y)) →
    InHands (seen d.world g (with_ops g d.next r) (with_extra g d.next y))

-- a new task has its handle
handled : (b : Bool) → (entered b).handle ≡ true
handled true = refl
handled false = refl

hands-enters : (mark : Mark) (p : ℕ) (w : World) → KeepsHands w (Op.Table (TableOp.Enter mark) ∷ []) (enter_by false false mark p w)
hands-enters mark p w g r y b h = let k = handled w.is_static in grind (arith, same_is, fresh_is, read_push, length-append, story-push)

hands-drops : (p f : ℕ) (w : World) → KeepsHands w (Op.User (UserOp.BeginDrop f) ∷ []) (begin_drop p w f)
hands-drops p f w g r y b h = grind (arith, story-push)

hands-takes_out : (ls ws : List ℕ) (w : World) → KeepsHands w (Op.Closing ClosingOp.TakeOut ∷ [])
    (done (record w { table = w.leaving; leaving = w.table }) (closing_ops ls ws))
hands-takes_out [] [] w g r y b h = grind arith
hands-takes_out [] (x ∷ ws) w g r y b h = grind arith
hands-takes_out (x ∷ ls) ws w g r y b h = grind arith

hands-drops_next : (ls ws : List ℕ) (p : ℕ) (w : World) (f : ℕ) (rest : List ℕ) →
    KeepsHands w (Op.Closing ClosingOp.DropNext ∷ [])
    (done (log (record w { leaving = rest; waking = w.waking ++ f ∷ []; inside = slice_set w.inside f false })
    (Event.Dropped p f)) (Op.User (UserOp.Drop f) ∷ closing_ops ls ws))
hands-drops_next [] [] p w f rest g r y b h = grind (arith, story-push)
hands-drops_next [] (x ∷ ws) p w f rest g r y b h = grind (arith, story-push)
hands-drops_next (x ∷ ls) ws p w f rest g r y b h = grind (arith, story-push)

hands-leaks_out : (w : World) → w.is_static ≡ false → w.gone ≡ false →
    KeepsHands w (Op.Closing ClosingOp.LeakOut ∷ []) (leak_out_by false w)
hands-leaks_out w s n g r y k h = leaks_out-keeps InHands (λ x s n t h. grind arith) w s n g r y h

hands-leaked : (d : Done) (p f g : ℕ) (r : Pend) (y : Extra) → HasAsked d.world f → InHands (seen d.world g r y) →
    InHands (seen (leaked p f d).world g r y)
hands-leaked d p f g r y a h = leaked-keeps InHands (λ x a h. grind arith) d.world p f g r y a h

hands-effect : (w : World) (old : List Op) (d : Done) → Effect w old d → KeepsHands w old d
hands-effect w old d (passes s c) g r y b h = hands-passes _ _ (s g r y) h
hands-effect w old _ (turns d m p f v more i j n s a e) g r y b h =
    turned-keeps Sure InHands (λ m x. stands_alone m ≡ true) hands-moved hands-loose (λ x y z. sound-passes x y z.passes)
    (λ x y z b. hands-passes x y (shifts x y z)) w old d m p f v more i (λ q u. j) s a e g r y b h
hands-effect w old d (refuses f e) g r y b h = grind arith
hands-effect w old d (enters mark p e) g r y b h = hands-enters mark p w g r y b h
hands-effect w old d (unlists f e) g r y b h = grind arith
hands-effect w old d (drops p f) g r y b h = hands-drops p f w g r y b h
hands-effect w old d takes_out g r y b h = hands-takes_out w.table w.waking w g r y b h
hands-effect w old d (drops_next p f rest e) g r y b h = hands-drops_next rest (w.waking ++ f ∷ []) p w f rest g r y b h
hands-effect w old d (leaks_out s n) g r y b h = hands-leaks_out w s n g r y b h
hands-effect w old _ (leaks d p f e a) g r y b h = hands-leaked d p f g _ _ a (hands-effect w _ d e g r y b h)

hands-pends : (p f : ℕ) (w : World) → KeepsHands w (Op.User (UserOp.Poll f) ∷ [])
    (done (log w (Event.Answered p f Answer.Pending)) (Op.Table (TableOp.PutBack f) ∷ []))
hands-pends p f w g r y b h = grind (arith, story-push)

hands-readies : (p f : ℕ) (w : World) → KeepsHands w (Op.User (UserOp.Poll f) ∷ [])
    (done (log w (Event.Answered p f Answer.Ready)) (Op.User (UserOp.BeginDrop f) ∷ Op.Move Move.EndReady f ∷ []))
hands-readies p f w g r y b h = grind (arith, story-push)

hands-closes : (p : ℕ) (w : World) → KeepsHands w []
    (done (log (record (log w (Event.CallBegun p Call.DropExecutor)) { gone = true }) (Event.DropBegun p))
    (Op.Closing ClosingOp.TakeOut ∷ Op.End Reply.Done Hold.Nothing ∷ []))
hands-closes p w g r y b h = grind (arith, story-push)

-- whatever a party does
hands-act : (w : World) (ss : List (List Op)) (old : List Op) (d : Done) → Effects w ss old d → KeepsHands w old d
hands-act w ss old d (does e) g r y b h = hands-effect w old d e g r y b h
hands-act w ss old d (pends p f) g r y b h = hands-pends p f w g r y b h
hands-act w ss old d (readies p f) g r y b h = hands-readies p f w g r y b h
hands-act w ss old d (closes p e u) g r y b h = hands-closes p w g r y b h

-- each execution

hands-end : (w : World) (p : ℕ) (a : Reply) (held : Hold) (g : ℕ) (r : Pend) (y : Extra) →
    InHands (seen w g (with_ops g (Op.End a held ∷ []) r) (with_extra g (Op.End a held ∷ []) y)) →
    InHands (seen (log w (Event.CallEnded p a)) g (with_ops g [] r) (with_extra g [] y))
hands-end w p a held g r y h = grind (arith, story-push)

none-hands : (limit : ℕ) (kind : Kind) (g : ℕ) → InHands (seen (start limit kind 0).world g none no_extra)
unfolding story
none-hands limit kind g = grind arith

hands : (limit : ℕ) (kind : Kind) (n : ℕ) (ts : List Step) (g : ℕ) → InHands (view (run ts (start limit kind n)) g)
hands limit kind n ts g = each-run InHands hands-act hands-end none-hands limit kind n ts g

detached-told : (f : ℕ) (es : Trace) → (story f es).detached ≡ has (is_detached f) es
unfolding story
detached-told f es = detached-from f untold es

with-handle : (s : Machine) (f : ℕ) → InHands (view s f) → (task s.world f).handle ≡ true → HasHandle s f
with-handle s f h k = (k, by (has (is_detached f) s.world.trace) refl)
  where
    by : (d : Bool) → has (is_detached f) s.world.trace ≡ d → d ≡ false
    by false q = refl
    by true q = let no : true ≡ false = sym k ∙ h.gone (detached-told f s.world.trace ∙ q) in absurd (cc)

pub open-in-hands : (limit : ℕ) (kind : Kind) (n : ℕ) (ts : List Step) (f : ℕ) → IsInHands (run ts (start limit kind n)) f
open-in-hands limit kind n ts f i o =
    let s : Machine = run ts (start limit kind n) in
    let h : InHands (view s f) = hands limit kind n ts f in
    let c : (task s.world f).references ≡ tokens s.world f (pend f s.parties) + living s.world f (pend f s.parties) =
    ((good limit kind n ts).sound f).counted in ⊎_elim
    (λ (x : (task s.world f).handle ≡ true). inl (with-handle s f h x))
    (λ (x : 1 ≤ (task s.world f).references). inr (omega (arith, x, c)))
    (h.held i o.0 o.1)
