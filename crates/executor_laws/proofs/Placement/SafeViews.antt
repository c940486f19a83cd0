-- For due_futures_stand_with_their_keepers.
-- A future away from the executor's queue (proofs/Placement/Safe): kept by each move of its task but the beginning of a poll, and by
-- each effect of what no run does, on its view.
use Rattle.std.proofs.Common.{◌≡◌, ◌⊎◌, ℕ, ◌+◌, ◌<◌, ◌≤◌, List, [], ◌∷◌, ◌++◌, Bool, true, false, inl, inr, refl, ap, ◌∙◌}
use Rattle.std.proofs.lemmas.Bool.Decides.{nat_tests}
use Rattle.std.{proofs.Common.arith, proofs.lemmas.List.length-append, specs.Prelude.slice_set}
use Rattle.task_moves.proofs.Cases.{by_move}
use Rattle.executor_laws.proofs.Types.{Mark, Move, Event, ClosingOp, Op, QueueOp, TableOp, UserOp}
use Rattle.executor_model.specs.Acts.{append_by, begin_drop, closing_ops, enter_by, entered, entry_goes, leave_by, stands_alone}
use Rattle.executor_model.specs.World.{World, Done, done, log, task, without, mark_of}
use Rattle.executor_model.specs.{Acts.leak_out_by, Acts.leaked, Sound.Pend, Sound.with_ops, Weights.weigh}
use Rattle.executor_model.proofs.OneFuture.Effects.Effect.{passes, turns, refuses, enters, unlists, drops, takes_out}
use Rattle.executor_model.proofs.OneFuture.Effects.Effect.{drops_next, leaks, leaks_out}
use Rattle.executor_model.proofs.Steps.Lists.{fresh_is, read_push, same_is, times-append}
use Rattle.executor_model.proofs.OneFuture.Extras.{Extra, no_extra, runs_of, with_extra}
use Rattle.executor_model.proofs.OneFuture.Views.{Seen, seen, before, after}
use Rattle.executor_model.proofs.OneFuture.MoveViews.{Alike, HasAsked, leaked-keeps, leaks_out-keeps}
use Rattle.executor_model.proofs.OneFuture.Passes.{Passes, Queues}
use Rattle.executor_model.proofs.Counts.SoundViews.{tokens, living}
use Rattle.executor_model.proofs.OneFuture.Effects.{Effect, Wakes, turned-after}
use Rattle.executor_laws.proofs.Placement.Safe.{Floor, KeepsSafe, Safe}

record Ground (x : Seen) : Type 0 where
  counted : x.state.references ≡ tokens x + living x
  one : tokens x ≤ 1
  live : 1 ≤ x.queued + (x.pend.waiting + (x.pend.polls + (x.pend.ending + x.pend.ready))) → x.state.completed ≡ false
  ends : 1 ≤ x.pend.closing + (x.pend.settling + x.pend.giving) →
      (x.state.closed ≡ true) ⊎ (x.state.completed ≡ true)
  owed : x.state.scheduled ≡ true → 1 ≤ tokens x
  going : x.state.running ≡ true → 1 ≤ x.pend.polls + (x.pend.ending + (x.pend.ready + x.pend.closing))
  carries : 1 ≤ x.queued + x.pend.waiting → x.state.scheduled ≡ true

ground-of : (w : World) (g : ℕ) (p : Pend) (y : Extra) → Floor w g p → Ground (seen w g p y)
ground-of w g p y h = record {
  counted = omega (arith, h.counted);
  one = h.one;
  live = h.live;
  ends = h.ends;
  owed = h.owed;
  going = h.going;
  carries = h.carries;
}

record Away (x : Seen) : Type 0 where
  none : x.extra.appends ≡ 0
  queued : x.common ≡ 0
  resting : x.pend.polls + x.pend.ending ≡ 0
  marked : x.state.closed ≡ false → x.state.completed ≡ false →
      (x.state.scheduled ≡ true) × (x.state.running ≡ false)

away-of : (w : World) (g : ℕ) (p : Pend) (y : Extra) → Safe w g p y.appends → Away (seen w g p y)
away-of w g p y h = record { none = h.none; queued = h.queued; resting = h.resting; marked = h.marked }

safe-of : (w : World) (g : ℕ) (p : Pend) (y : Extra) → Away (seen w g p y) → Safe w g p y.appends
safe-of w g p y h = record { none = h.none; queued = h.queued; resting = h.resting; marked = h.marked }

ground-passes : (x y : Seen) → Passes x y → Ground x → Ground y
ground-passes x y s h = grind arith

away-passes : (x y : Seen) → x.extra.runs ≡ 0 → Passes x y → Queues x y → Away x → Away y
away-passes x y z s q h = grind arith

away-loose : (x : Seen) (p q : Pend) (a b : Extra) → Alike p q a b → Away (record x { pend = p; extra = a }) →
    Away (record x { pend = q; extra = b })
away-loose x p q a b l h = grind arith

-- a move that stands alone, and begins no poll
abbrev Needs : Move → Seen → Type 0
Needs Move.TakeUp x = x.state.closed ≡ true
Needs m x = stands_alone m ≡ true

away-moved : (m : Move) (x : Seen) → x.number < x.tasks → Needs m x → Ground (before m x) → Away (before m x) →
    Away (after m x)
away-moved = by_move _
    (λ x i n b h. grind (arith, nat_tests))
    (λ x i n b h. grind (arith, nat_tests))
    (λ x i n b h. absurd (cc))
    (λ x i n b h. grind (arith, nat_tests))
    (λ x i n b h. grind (arith, nat_tests))
    (λ x i n b h. grind (arith, nat_tests))
    (λ x i n b h. grind (arith, nat_tests))
    (λ x i n b h. grind (arith, nat_tests))
    (λ x i n b h. grind (arith, nat_tests))
    (λ x i n b h. grind (arith, nat_tests))
    (λ x i n b h. grind (arith, nat_tests))
    (λ x i n b h. grind (arith, nat_tests))
    (λ x i n b h. grind (arith, nat_tests))
    (λ x i n b h. absurd (cc))
    (λ x i n b h. absurd (cc))
    (λ x i n b h. absurd (cc))
    (λ x i n b h. absurd (cc))
    (λ x i n b h. absurd (cc))
    (λ x i n b h. absurd (cc))

needs : (m : Move) (f : ℕ) (w v : World) (old : List Op) (r : Pend) (y : Extra) → stands_alone m ≡ true →
    ((f : ℕ) → old ≡ Op.Move Move.TakeUp f ∷ [] → (task w f).closed ≡ true) →
    Wakes m ⊎ ((v ≡ w) × (old ≡ Op.Move m f ∷ [])) → Needs m (seen v f r y)
needs Move.TakeUp f w v old r y a n (inl z) = absurd z
needs Move.TakeUp f w v old r y a n (inr z) = ap (λ (u : World). (task u f).closed) z.0 ∙ n f z.1
needs _ f w v old r y a n k = a

abbrev KeepsAway : World → List Op → Done → Type 0
KeepsAway w old d = (g : ℕ) (r : Pend) (y : Extra) → Ground (seen w g (with_ops g old r) (with_extra g old y)) →
    Away (seen w g (with_ops g old r) (with_extra g old y)) →
    Away (seen d.world g (with_ops g d.next r) (with_extra g d.next y))

away-refuses : (w : World) (mark : Mark) (f : ℕ) → KeepsAway w (Op.Queue (QueueOp.Append f) ∷ []) (append_by false w mark f)
away-refuses w mark f g r y b h = grind (arith, same_is)

entered_is : (b : Bool) → ((entered b).scheduled ≡ true) × ((entered b).running ≡ false) ×
    ((entered b).closed ≡ false) × ((entered b).completed ≡ false)
entered_is true = (refl, refl, refl, refl)
entered_is false = (refl, refl, refl, refl)

away-enters : (mark : Mark) (p : ℕ) (w : World) → KeepsAway w (Op.Table (TableOp.Enter mark) ∷ []) (enter_by false false mark p w)
away-enters mark p w g r y b h =
    let e = entered_is w.is_static in grind (arith, same_is, fresh_is, read_push, times-append, length-append)

away-unlists : (w : World) (f : ℕ) → KeepsAway w (Op.Table (TableOp.LeaveTable f) ∷ []) (leave_by true w f)
away-unlists w f = by w.is_static
  where
    by : (s : Bool) → KeepsAway w (Op.Table (TableOp.LeaveTable f) ∷ [])
        (done (record w { table = without f w.table }) (entry_goes s f))
    by true g r y b h = grind arith
    by false g r y b h = grind arith

away-drops : (p f : ℕ) (w : World) → KeepsAway w (Op.User (UserOp.BeginDrop f) ∷ []) (begin_drop p w f)
away-drops p f w g r y b h = grind arith

away-takes_out : (ls ws : List ℕ) (w : World) → KeepsAway w (Op.Closing ClosingOp.TakeOut ∷ [])
    (done (record w { table = w.leaving; leaving = w.table }) (closing_ops ls ws))
away-takes_out [] [] w g r y b h = grind arith
away-takes_out [] (x ∷ ws) w g r y b h = grind arith
away-takes_out (x ∷ ls) ws w g r y b h = grind arith

away-drops_next : (ls ws : List ℕ) (p : ℕ) (w : World) (f : ℕ) (rest : List ℕ) →
    KeepsAway w (Op.Closing ClosingOp.DropNext ∷ [])
    (done (log (record w { leaving = rest; waking = w.waking ++ f ∷ []; inside = slice_set w.inside f false })
    (Event.Dropped p f)) (Op.User (UserOp.Drop f) ∷ closing_ops ls ws))
away-drops_next [] [] p w f rest g r y b h = grind arith
away-drops_next [] (x ∷ ws) p w f rest g r y b h = grind arith
away-drops_next (x ∷ ls) ws p w f rest g r y b h = grind arith

away-leaks_out : (w : World) → w.is_static ≡ false → w.gone ≡ false →
    KeepsAway w (Op.Closing ClosingOp.LeakOut ∷ []) (leak_out_by false w)
away-leaks_out w s n g r y b h = leaks_out-keeps Away (λ x s n t h. grind arith) w s n g r y h

away-leaked : (d : Done) (p f g : ℕ) (r : Pend) (y : Extra) → HasAsked d.world f → Away (seen d.world g r y) →
    Away (seen (leaked p f d).world g r y)
away-leaked d p f g r y a h = leaked-keeps Away (λ x a h. grind arith) d.world p f g r y a h

away-effect : (w : World) (old : List Op) (d : Done) →
    ((f : ℕ) → old ≡ Op.Move Move.TakeUp f ∷ [] → (task w f).closed ≡ true) → Effect w old d → (g : ℕ) (r : Pend)
    (y : Extra) → (with_extra g old y).runs ≡ 0 → Ground (seen w g (with_ops g old r) (with_extra g old y)) →
    Away (seen w g (with_ops g old r) (with_extra g old y)) →
    Away (seen d.world g (with_ops g d.next r) (with_extra g d.next y))
away-effect w old d n (passes s c) g r y z b h = away-passes _ _ z (s g r y).passes (s g r y).queues h
away-effect w old _ n (turns d m p f v more i j k s a e) g r y z b h =
    turned-after Ground Away Needs away-moved away-loose d m p f v more i (λ q u. needs m f w v old q u j n k) a e g r y
    (ground-passes _ _ (s g r y).passes b) (away-passes _ _ z (s g r y).passes (s g r y).queues h)
away-effect w old d n (refuses f e) g r y z b h = away-refuses w (mark_of w f) f g r y b h
away-effect w old d n (enters mark p e) g r y z b h = away-enters mark p w g r y b h
away-effect w old d n (unlists f e) g r y z b h = away-unlists w f g r y b h
away-effect w old d n (drops p f) g r y z b h = away-drops p f w g r y b h
away-effect w old d n takes_out g r y z b h = away-takes_out w.table w.waking w g r y b h
away-effect w old d n (drops_next p f rest e) g r y z b h =
    away-drops_next rest (w.waking ++ f ∷ []) p w f rest g r y b h
away-effect w old d n (leaks_out s z) g r y k b h = away-leaks_out w s z g r y b h
away-effect w old _ n (leaks d p f e a) g r y z b h = away-leaked d p f g _ _ a (away-effect w _ d n e g r y z b h)

pub safe-effect : (w : World) (old : List Op) (d : Done) →
    ((f : ℕ) → old ≡ Op.Move Move.TakeUp f ∷ [] → (task w f).closed ≡ true) → weigh runs_of old ≡ 0 → Effect w old d →
    KeepsSafe w old d
safe-effect w old d n z e g r k b h =
    let y : Extra = record no_extra { appends = k } in
    safe-of d.world g (with_ops g d.next r) (with_extra g d.next y)
    (away-effect w old d n e g r y (omega (arith, z))
    (ground-of w g (with_ops g old r) (with_extra g old y) b) (away-of w g (with_ops g old r) (with_extra g old y) h))
