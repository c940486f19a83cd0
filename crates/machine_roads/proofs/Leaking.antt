-- A leak: each future of the table is woken by its waker there, which goes.
use Rattle.std.proofs.Common.{◌≡◌, ℕ, ◌-◌, ◌≤◌, ◌++◌, ◌||◌, min, cond, Bool, true, false, List, [], ◌∷◌, length, take}
use Rattle.std.proofs.Common.{Option, Some, None, is_some, slice_get, slice_set, if◌then◌else◌, refl, sym, ap, subst, ◌∙◌, append_assoc}
use Rattle.std.proofs.Common.{arith}
use Rattle.task_moves.specs.declared.moves.owed.Move.TheVariants as move
use Rattle.task_moves.specs.AbstractTask as abstract
use Rattle.task_moves.specs.AbstractTask.{AbstractTask}
use Rattle.task_moves.specs.LocalTask.{info_of}
use Rattle.executor_model.specs.declared.call.Call.TheVariants as call
use Rattle.executor_model.specs.declared.call.Reply.TheVariants as reply
use Rattle.executor_model.specs.declared.event.Event.TheVariants as event
use Rattle.executor_model.specs.declared.op.ClosingOp.TheVariants as closing_op
use Rattle.executor_model.specs.declared.op.Hold.TheVariants as hold
use Rattle.executor_model.specs.declared.op.Op.{Op}
use Rattle.executor_model.specs.declared.op.Op.TheVariants as op
use Rattle.executor_model.specs.declared.op.Waker.{Waker}
use Rattle.executor_model.specs.Acts.{leak_next_by, leak_out_by, leaking_ops, move_task}
use Rattle.executor_model.specs.World.{World, Done, done, log}
use Rattle.plain_scheduler.specs.State.{Calls, Choice, Close, Code, Future, Lying, Plain, Done as DoneAnswer}
use Rattle.plain_scheduler.specs.Lists.{any, each, on, or}
use Rattle.plain_scheduler.specs.Moves.{answers, appended, becomes, called, is_called, put, release, see, task, tell, told_at, used, wake}
use Rattle.plain_scheduler.specs.Calls.{does, freed, living_from, Leak}
use Rattle.machine_roads.specs.View.{Output, wakes}
use Rattle.machine_roads.specs.Road.{Follows, waking_in}
use Rattle.machine_roads.specs.Alone.{alone, is_resting}
use Rattle.machine_roads.specs.Alike.{LeaksAlike}
use Rattle.machine_roads.proofs.Aside.{becomes_inside}
use Rattle.machine_roads.proofs.Calling.{ends}
use Rattle.machine_roads.proofs.Changing.{logs}
use Rattle.machine_roads.proofs.Exchanging.{loudly}
use Rattle.machine_roads.proofs.Lying.{called_one}
use Rattle.machine_roads.proofs.Moved.{Then, fits as stays_fit, frees_so}
use Rattle.machine_roads.proofs.Puts.{put_at}
use Rattle.machine_roads.proofs.Stepping.{Way, next}
use Rattle.machine_roads.proofs.Unseen.{leaked_so, stands_in, woken_so}

-- in which code calls stand is nothing to who is woken and told
module _ (codes : List (Code Output Waker)) where
  abbrev stand : Plain Output Waker → Plain Output Waker
  stand q = record q { inside = codes }

  abbrev IsBlind : (Plain Output Waker → Plain Output Waker) → Type 0
  IsBlind does = (q : Plain Output Waker) → does (stand q) ≡ stand (does q)

  put_blind : (g : ℕ) (new : AbstractTask Output Waker) → IsBlind (put g new)
  put_blind g new q = by (slice_get q.futures g)
    where
      by : (o : Option (Future Output Waker)) → on o (λ x p. put_at g new x p) (stand q) ≡ stand (on o (λ x p. put_at g new x p) q)
      by None = refl
      by (Some x) = refl

  pub becomes_blind : (more : Plain Output Waker → Plain Output Waker) → IsBlind more → (g : ℕ) (new : AbstractTask Output Waker)
      → IsBlind (becomes wakes more g new)
  becomes_blind more blind g new q = by (is_some (info_of (task g q) new))
    where
      by : (b : Bool) → (if b then more (appended g (put g new (stand q))) else put g new (stand q))
          ≡ stand (if b then more (appended g (put g new q)) else put g new q)
      by true = ap (λ q. more (appended g q)) (put_blind g new q) ∙ blind (appended g (put g new q))
      by false = put_blind g new q

  tell_blind : (c : Choice) → IsBlind (tell wakes c)
  tell_blind c q = by (any is_called q.lying)
    where
      call : (a : Waker) (q : Plain Output Waker) → called wakes (λ s. s) a (stand q) ≡ stand (called wakes (λ s. s) a q)
      call a q = which (wakes a)
        where
          which : (o : Option ℕ) → or o (λ g. used wakes (λ s. s) g (stand q)) (see (Calls a) (stand q))
              ≡ stand (or o (λ g. used wakes (λ s. s) g q) (see (Calls a) q))
          which None = refl
          which (Some g) = becomes_blind (λ s. s) (λ q. refl) g (abstract.release (abstract.wake (task g q))) q

      waker : (o : Option Waker) (q : Plain Output Waker)
          → on o (called wakes (λ s. s)) (stand q) ≡ stand (on o (called wakes (λ s. s)) q)
      waker None q = refl
      waker (Some a) q = call a q

      one : (i : ℕ) (o : Option (Lying Waker))
          → on o (λ l q. on l.waker (called wakes (λ s. s)) (record q { lying = slice_set q.lying i (called_one l) })) (stand q)
          ≡ stand (on o (λ l q. on l.waker (called wakes (λ s. s)) (record q { lying = slice_set q.lying i (called_one l) })) q)
      one i None = refl
      one i (Some l) = waker l.waker (record q { lying = slice_set q.lying i (called_one l) })

      by : (b : Bool) → cond b (stand q) (told_at wakes (min c.tells (length q.lying - 1)) (stand q))
          ≡ stand (cond b q (told_at wakes (min c.tells (length q.lying - 1)) q))
      by true = refl
      by false = one (min c.tells (length q.lying - 1)) (slice_get q.lying (min c.tells (length q.lying - 1)))

  freed_blind : (c : Choice) (f : ℕ) → IsBlind (freed wakes c f)
  freed_blind c f q =
      let z : Plain Output Waker = wake wakes (tell wakes c) f q in
      ap (λ z. release wakes (tell wakes c) f z)
      (becomes_blind (tell wakes c) (tell_blind c) f (abstract.wake (task f q)) q)
      ∙ becomes_blind (tell wakes c) (tell_blind c) f (abstract.release (task f z)) z

pub freed_inside : (c : Choice) (ws : List ℕ) (q : Plain Output Waker) → (each ws (freed wakes c) q).inside ≡ q.inside
freed_inside c [] q = refl
freed_inside c (f ∷ ws) q =
    let z : Plain Output Waker = wake wakes (tell wakes c) f q in
    freed_inside c ws (freed wakes c f q)
    ∙ (becomes_inside c f (abstract.release (task f z)) z ∙ becomes_inside c f (abstract.wake (task f q)) q)

pub take_all : (ws : List ℕ) → take (length ws - 0) ws ≡ ws
take_all ws = ap (λ n. take n ws) (nothing_less (length ws)) ∙ all ws
  where
    nothing_less : (n : ℕ) → n - 0 ≡ n
    nothing_less n = omega arith

    all : (ws : List ℕ) → take (length ws) ws ≡ ws
    all [] = refl
    all (w ∷ ws) = ap (λ xs. w ∷ xs) (all ws)

module _ (p : ℕ) (end : Done) (rests : is_resting end.next ≡ true) (c : Choice) (codes : List (Code Output Waker)) where
  abbrev more : Plain Output Waker → Plain Output Waker
  more = tell wakes c

  abbrev fits : Plain Output Waker → Type 0
  fits q = length q.lying ≤ c.tells

  freed_fits : (f : ℕ) (q : Plain Output Waker) → fits q → fits (freed wakes c f q)
  freed_fits f q fit =
      let z : Plain Output Waker = wake wakes more f q in
      stays_fit p end rests more fits (loudly p end rests c) f (abstract.release (task f z)) z
      (stays_fit p end rests more fits (loudly p end rests c) f (abstract.wake (task f q)) q fit)

  -- each that is still to be woken is woken
  leaks_on : (ws : List ℕ) (w : World) (os : List Op) (q : Plain Output Waker)
      → Follows w (record q { inside = Close [] ws ∷ codes }) → fits q → Way p end w (leaking_ops ws ++ os)
      → Then p end os (record (each ws (freed wakes c) q) { inside = Close [] [] ∷ codes })
  leaks_on [] w os q follows fit way = record { world = w; follows = follows; way = way }
  leaks_on (f ∷ rest) w os q follows fit way =
      let step = next p end rests (op.Closing closing_op.LeakNext) w os refl way in
      let woken : w.waking ≡ f ∷ rest = follows.waking ∙ take_all (f ∷ rest) in
      let w1 : World = record w { waking = rest } in
      let q0 : Plain Output Waker = record q { inside = Close [] (f ∷ rest) ∷ codes } in
      let q1 : Plain Output Waker = record q { inside = Close [] rest ∷ codes } in
      let e = event.Leaked p f in
      let now : Way p end (leak_next_by false p w (f ∷ rest)).world ((leak_next_by false p w (f ∷ rest)).next ++ os) =
      subst (λ ws. Way p end (leak_next_by false p w ws).world ((leak_next_by false p w ws).next ++ os)) woken
      (subst (λ b. Way p end (leak_next_by b p w w.waking).world ((leak_next_by b p w w.waking).next ++ os)) step.has.0 step.way) in
      let one =
      frees_so p end rests more fits (loudly p end rests c) (λ w. log w e) (λ w r follows. logs w r follows e refl) f w1
      (leaking_ops rest ++ os) q1 (woken_so rest (Close [] rest ∷ codes) w q0 follows (sym (take_all rest))) fit
      (step.has.1 f rest woken)
      (subst (Way p end (leak_next_by false p w (f ∷ rest)).world)
      (append_assoc (move_task move.Wake p w1 f).next (leaking_ops rest) os) now) in
      leaks_on rest one.world os (freed wakes c f q)
      (subst (Follows one.world) (freed_blind (Close [] rest ∷ codes) c f q) one.follows) (freed_fits f q fit) one.way

pub leaks : (p : ℕ) (here : Option Waker) (below : List Op) (w : World) (q : Plain Output Waker) → is_resting below ≡ true
    → Follows w q → LeaksAlike p here below w q
leaks p here below w q under follows c owned none many hints unit has rests =
    let w0 = log w (event.CallBegun p call.Leak) in
    let os = op.End reply.Done hold.Leaking ∷ below in
    let end = alone p hints (done w0 (op.Closing closing_op.LeakOut ∷ os)) in
    let start : Way p end w0 (op.Closing closing_op.LeakOut ∷ os) = record { hints = hints; has = has; is = refl } in
    let step = next p end rests (op.Closing closing_op.LeakOut) w0 os refl start in
    let nobody : w.waking ≡ [] = follows.waking ∙ none in
    let w1 : World = record w0 { is_static = true; waking = w.table } in
    let q1 : Plain Output Waker = record q { is_static = true } in
    let off : (w.is_static || w.gone) ≡ false =
    ap (λ b. b || w.gone) (follows.kind ∙ owned) ∙ step.has in
    let out : Way p end (leak_out_by false w0).world ((leak_out_by false w0).next ++ os) =
    subst (λ b. Way p end (leak_out_by b w0).world ((leak_out_by b w0).next ++ os)) off step.way in
    let now : Way p end w1 (leaking_ops w.table ++ os) =
    subst (λ ws. Way p end (record w0 { is_static = true; waking = ws ++ w.table }) (leaking_ops (ws ++ w.table) ++ os)) nobody out in
    let follows1 : Follows w1 (record q1 { inside = Close [] w.table ∷ q.inside }) =
    leaked_so w.table (Close [] w.table ∷ q.inside) w0 q (logs w q follows (event.CallBegun p call.Leak) refl) (sym (take_all w.table)) in
    let left = leaks_on p end rests c q.inside w.table w1 os q1 follows1 many now in
    let z : Plain Output Waker = each w.table (freed wakes c) q1 in
    let z_follows : Follows left.world z =
    stands_in z.inside left.world (record z { inside = Close [] [] ∷ q.inside }) left.follows
    (ap (λ codes. waking_in codes) (freed_inside c w.table q1) ∙ none) in
    subst (λ ws. (end.next ≡ below) × Follows end.world (answers DoneAnswer (each ws (freed wakes c) q1))) follows.table
    (ends p below under end rests left.world z reply.Done hold.Leaking DoneAnswer refl z_follows left.way)

-- so the code in which calls stand is as before
pub leak_inside : (c : Choice) (q : Plain Output Waker) → (does wakes c Leak q).inside ≡ q.inside
leak_inside c q = freed_inside c (living_from 0 q.futures) (record q { is_static = true })
