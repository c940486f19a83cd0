-- Calls inside of the drop of a future in the executor's drop. There the machine's table is empty, and of the plain scheduler's futures
-- those aren't dropped yet that the drop has still to drop.
use Rattle.std.specs.Prelude.{◌≡◌, ℕ, ◌<◌, Bool, true, false, List, [], ◌∷◌, ◌++◌, length, None, is_some}
use Rattle.executor_parts.specs.declared.mark.Mark.{Mark}
use Rattle.executor_model.specs.declared.call.Call.{Call}
use Rattle.executor_model.specs.declared.call.Call.TheVariants as call
use Rattle.executor_model.specs.declared.call.Reply.TheVariants as reply
use Rattle.executor_model.specs.declared.op.Hold.TheVariants as hold
use Rattle.executor_model.specs.declared.op.Op.{Op}
use Rattle.executor_model.specs.declared.op.Op.TheVariants as op
use Rattle.executor_model.specs.declared.op.UserOp.TheVariants as user_op
use Rattle.executor_model.specs.declared.op.Waker.{Waker}
use Rattle.executor_model.specs.declared.step.Hint.{Hint}
use Rattle.executor_model.specs.declared.step.Step.{Step}
use Rattle.executor_model.specs.Acts.{closing_ops}
use Rattle.executor_model.specs.Steps.{Machine, is_on_executor}
use Rattle.executor_model.specs.World.{Done, World, among, done, own_of, queue_of, task}
use Rattle.executor_laws.specs.LoneEnds.{IsLoneCall}
use Rattle.plain_scheduler.specs.State.{Choice, Close, Code, Lose, Plain, Refusal}
use Rattle.plain_scheduler.specs.Moves as plain_moves
use Rattle.plain_scheduler.specs.Calls as plain
use Rattle.plain_scheduler.specs.Calls.{does, Ends}
use Rattle.machine_roads.specs.View.{Output, wakes}
use Rattle.machine_roads.specs.Road.{Follows, waking_in}
use Rattle.machine_roads.specs.Alone.{alone, is_resting, HasAll, HasAllOf, HasIn}
use Rattle.machine_roads.specs.Alike.{begins, upon}
use Rattle.machine_roads.specs.Losing.{left_of, lost, without_handle}
use Rattle.machine_roads.specs.Lone.{NoneWaits, RestsFirst, waits_for}
use Rattle.machine_roads.specs.Course.{IsCall}

-- of all those that the executor's drop has taken out these are still to be dropped, and the plain scheduler stands in the drop of the one
-- before, and in more code inside of that. Both stand alike but for the table; nobody lies, the queues are open, and who waits for a wake
-- was taken out
pub record IsInDropBelow (over : List (Code Output Waker)) (w : World) (fs all : List ℕ) (codes : List (Code Output Waker))
    (q : Plain Output Waker) : Type 0 where
  pub table : w.table ≡ []
  pub leaving : w.leaving ≡ fs
  pub parts : all ≡ w.waking ++ fs
  pub inside : q.inside ≡ over ++ Close fs all ∷ codes
  pub nowhere : waking_in codes ≡ []
  pub follows : Follows (record w { table = fs }) q
  pub nobody : q.lying ≡ []
  pub opened : (m : Mark) → (queue_of w m).closed ≡ false
  pub unkept : (r : ℕ) → own_of w r ≡ []
  pub waiting : (f : ℕ) → waits_for (plain_moves.task f q) ≡ true → among f all ≡ true

-- and in no other code inside of it
abbrev pub IsInDrop : World → List ℕ → List ℕ → List (Code Output Waker) → Plain Output Waker → Type 0
IsInDrop w fs all codes q = IsInDropBelow [] w fs all codes q

-- so too in the drop of an output that goes with its handle, but for the handle
pub record IsLosingInDropBelow (over : List (Code Output Waker)) (w : World) (f : ℕ) (fs all : List ℕ)
    (codes : List (Code Output Waker)) (q : Plain Output Waker) : Type 0 where
  pub known : f < length w.tasks
  pub closed : (task w f).closed ≡ true
  pub left : IsInDropBelow over (without_handle f w) fs all codes q

abbrev pub IsLosingInDrop : World → ℕ → List ℕ → List ℕ → List (Code Output Waker) → Plain Output Waker → Type 0
IsLosingInDrop w f fs all codes q = IsLosingInDropBelow [] w f fs all codes q

-- by this call a handle goes whose output is there
abbrev pub loses : plain.Call Output Waker → Plain Output Waker → Bool
loses (plain.Detach f) q = is_some (plain_moves.task f q).output
loses (plain.DropHandle f) q = is_some (plain_moves.task f q).output
loses _ q = false

-- a party's call, made where it does nothing or stands in user code, goes so far
abbrev pub called : ℕ → List Hint → List Op → Call → World → Done
called p hints below c w = alone p hints (upon below (begins p None c w))

-- a call of a waker or a handle ends, and both stand in the drop alike
abbrev pub CallsInDrop : Type 0
CallsInDrop =
    (p : ℕ) (below : List Op) (w : World) (fs all : List ℕ) (codes : List (Code Output Waker)) (q : Plain Output Waker)
    (c : Call) (x : plain.Call Output Waker) (d : Choice) (hints : List Hint) → is_resting below ≡ true → IsInDrop w fs all codes q
    → is_on_executor c ≡ false → IsCall w c x → loses x q ≡ false → HasAll p hints (upon below (begins p None c w))
    → is_resting (called p hints below c w).next ≡ true
    → (r : Refusal) × ((called p hints below c w).next ≡ below)
    × IsInDrop (called p hints below c w).world fs all codes (does wakes (record d { refusal = r }) x q)

-- or it comes to the drop of an output
abbrev pub LosesInDrop : Type 0
LosesInDrop =
    (p : ℕ) (below : List Op) (w : World) (fs all : List ℕ) (codes : List (Code Output Waker)) (q : Plain Output Waker)
    (c : Call) (x : plain.Call Output Waker) (d : Choice) (hints : List Hint) → is_resting below ≡ true → IsInDrop w fs all codes q
    → is_on_executor c ≡ false → IsCall w c x → loses x q ≡ true → HasAll p hints (upon below (begins p None c w))
    → is_resting (called p hints below c w).next ≡ true
    → (f : ℕ) × ((called p hints below c w).next ≡ op.User (user_op.DropOutput f) ∷ (left_of f ++ below))
    × ((does wakes d x q).inside ≡ Lose None None ∷ q.inside)
    × IsLosingInDrop (called p hints below c w).world f fs all codes (record (does wakes d x q) { inside = q.inside })

-- from the end of which on it ends
abbrev pub LossEndsInDrop : Type 0
LossEndsInDrop =
    (p f : ℕ) (below : List Op) (w : World) (fs all : List ℕ) (codes : List (Code Output Waker)) (q : Plain Output Waker)
    (d : Choice) (hints : List Hint) → is_resting below ≡ true → IsLosingInDrop w f fs all codes q
    → HasAll p hints (upon below (lost p f w)) → is_resting (alone p hints (upon below (lost p f w))).next ≡ true
    → ((alone p hints (upon below (lost p f w))).next ≡ below)
    × IsInDrop (alone p hints (upon below (lost p f w))).world fs all codes
    (does wakes d Ends (record q { inside = Lose None None ∷ q.inside }))

-- once the future's drop ends, the executor's drop has ended, or stands in the drop of the next one
abbrev pub ComesOn : List ℕ → List ℕ → List (Code Output Waker) → Plain Output Waker → Done → Type 0
ComesOn [] all codes q e = (e.next ≡ []) × (q.inside ≡ codes) × Follows e.world q × NoneWaits q
ComesOn (f ∷ fs) all codes q e =
    (e.next ≡ op.User (user_op.Drop f) ∷ (closing_ops fs e.world.waking ++ op.End reply.Done hold.Nothing ∷ []))
    × IsInDrop e.world fs all codes q

abbrev pub DropGoesOn : Type 0
DropGoesOn =
    (p : ℕ) (w : World) (fs all : List ℕ) (codes : List (Code Output Waker)) (q : Plain Output Waker) (d : Choice)
    (hints : List Hint) → IsInDrop w fs all codes q
    → HasAllOf HasIn p hints (done w (closing_ops fs w.waking ++ op.End reply.Done hold.Nothing ∷ []))
    → is_resting (alone p hints (done w (closing_ops fs w.waking ++ op.End reply.Done hold.Nothing ∷ []))).next ≡ true
    → ComesOn fs all codes (does wakes d Ends q)
    (alone p hints (done w (closing_ops fs w.waking ++ op.End reply.Done hold.Nothing ∷ [])))

-- so it stands first in a lone drop of the executor, where no code is left in which a call stands: in the drop of the first future, if one
-- is left
abbrev pub LoneDropRests : Machine → Plain Output Waker → Type 0
LoneDropRests s q =
    (p : ℕ) (d : Choice) (steps : List Step) → q.inside ≡ [] → (new : Machine) → IsLoneCall p call.DropExecutor steps s new
    → RestsFirst p (λ e. ComesOn s.world.table s.world.table q.inside (does wakes d plain.DropExecutor q) e) new
