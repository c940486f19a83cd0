-- Where a party stands from the executor's drop on, also in drops of outputs inside of each other.
use Rattle.std.proofs.Common.{◌≡◌, ℕ, ◌<◌, ◌==◌, ◌++◌, Bool, true, false, List, [], ◌∷◌, length}
use Rattle.std.proofs.Common.{refl, sym, ap, subst, ◌∙◌, get_or-set_same, get_or-set_other}
use Rattle.task_moves.specs.declared.moves.state.State.{State}
use Rattle.executor_model.specs.declared.op.Op.{Op}
use Rattle.executor_model.specs.declared.op.Op.TheVariants as op
use Rattle.executor_model.specs.declared.op.UserOp.TheVariants as user_op
use Rattle.executor_model.specs.declared.op.Waker.{Waker}
use Rattle.executor_model.specs.World.{Done, World, blank, done, log, put}
use Rattle.executor_model.specs.World as world
use Rattle.plain_scheduler.specs.State.{Close, Code, Plain}
use Rattle.machine_roads.specs.View.{Output}
use Rattle.machine_roads.specs.Road.{waking_in}
use Rattle.machine_roads.specs.Alone.{is_resting}
use Rattle.machine_roads.specs.Closing.{ComesOn}
use Rattle.machine_roads.specs.InLoss.{AreShut, loss_codes, loss_ops, without_handles}
use Rattle.machine_roads.specs.Losing.{without_handle}
use Rattle.machine_roads.specs.DropActs.{AreLosingInDrop, StandsDropping, behind, drops, left_to_close}
use Rattle.machine_roads.proofs.InLoss.{shut_through}
use Rattle.machine_roads.proofs.Lists.{apart_of, length_set, same_of}
use Rattle.machine_roads.proofs.Waits.{NoTaskWaits, are_of_tasks, put_stays, waits_in}

-- the executor's drop has come on so
pub stands_on : (fs all : List ℕ) (q : Plain Output Waker) (e : Done) → ComesOn fs all [] q e → StandsDropping e q
stands_on [] all q e so = behind [] so.3 (record { left = so.0; inside = so.1; losing = record { shut = tt; follows = so.2 } })
stands_on (f ∷ fs) all q e so = drops [] f fs all so.0 (record { shut = tt; left = so.1 })

-- who is still to be woken there
pub waking_through : (gs : List ℕ) (w : World) → (without_handles gs w).waking ≡ w.waking
waking_through [] w = refl
waking_through (g ∷ gs) w = waking_through gs w

pub queues_through : (gs : List ℕ) (w : World) → (without_handles gs w).queues ≡ w.queues
queues_through [] w = refl
queues_through (g ∷ gs) w = queues_through gs w

pub waking_codes : (gs : List ℕ) (codes : List (Code Output Waker)) → waking_in (loss_codes gs [] ++ codes) ≡ waking_in codes
waking_codes [] codes = refl
waking_codes (g ∷ gs) codes = waking_codes gs codes

pub waking_of : (gs : List ℕ) (w : World) (fs all : List ℕ) (q : Plain Output Waker) → AreLosingInDrop w gs fs all q
    → w.waking ≡ waking_in (Close fs all ∷ [])
waking_of gs w fs all q is =
    sym (waking_through gs w)
    ∙ (is.left.follows.waking ∙ (ap (λ codes. waking_in codes) is.left.inside ∙ waking_codes gs (Close fs all ∷ [])))

pub still_left : (f : ℕ) (fs all : List ℕ) (gs hs : List ℕ) (w v : World) (q z : Plain Output Waker) → AreLosingInDrop w gs fs all q
    → AreLosingInDrop v hs fs all z
    → op.User (user_op.Drop f) ∷ left_to_close fs w ≡ op.User (user_op.Drop f) ∷ left_to_close fs v
still_left f fs all gs hs w v q z is so =
    ap (λ ws. op.User (user_op.Drop f) ∷ left_to_close fs (record w { waking = ws }))
    (waking_of gs w fs all q is ∙ sym (waking_of hs v fs all z so))

-- where it stands the party rests, in no poll
pub loss_rests : (gs : List ℕ) (below : List Op) → is_resting below ≡ true → is_resting (loss_ops gs below) ≡ true
loss_rests [] below under = under
loss_rests (g ∷ gs) below under = refl

pub rests_so : (e : Done) (q : Plain Output Waker) → StandsDropping e q → is_resting e.next ≡ true
rests_so e q (drops gs f fs all next is) =
    ap is_resting next ∙ loss_rests gs (op.User (user_op.Drop f) ∷ left_to_close fs e.world) refl
rests_so e q (behind gs none stops) = ap is_resting stops.left ∙ loss_rests gs [] refl

pub are_losses : (gs : List ℕ) → are_of_tasks (loss_ops gs []) ≡ true
are_losses [] = refl
are_losses (g ∷ gs) = are_losses gs

-- handles are nothing to who waits
pub handles_there : (gs : List ℕ) (w : World) → AreShut w gs → NoTaskWaits w → NoTaskWaits (without_handles gs w)
handles_there [] w shut none = none
handles_there (f ∷ gs) w shut none =
    let v = without_handles gs w in
    let before = handles_there gs w shut.2 none in
    put_stays v f (record (world.task v f) { handle = false }) before (before f (shut_through gs f w shut.0).known)

pub handle_back : (f : ℕ) (w : World) → f < length w.tasks → NoTaskWaits (without_handle f w) → NoTaskWaits w
handle_back f w known none g at = by (f == g) refl
  where
    s : State
    s = record (world.task w f) { handle = false }

    still : (g : ℕ) → g < length w.tasks → waits_in (world.task (put w f s) g) ≡ false
    still g at = none g (subst (λ n. g < n) (sym (length_set w.tasks f s)) at)

    by : (b : Bool) → (f == g) ≡ b → waits_in (world.task w g) ≡ false
    by true same =
        subst (λ g. waits_in (world.task w g) ≡ false) (same_of f g same)
        (sym (ap waits_in (get_or-set_same w.tasks f s blank known)) ∙ still f known)
    by false apart =
        sym (ap waits_in (get_or-set_other w.tasks f g s blank (λ same. apart_of f g apart (sym same)))) ∙ still g at

pub handles_back : (gs : List ℕ) (w : World) → AreShut w gs → NoTaskWaits (without_handles gs w) → NoTaskWaits w
handles_back [] w shut none = none
handles_back (f ∷ gs) w shut none =
    let v = without_handles gs w in
    handles_back gs w shut.2 (handle_back f v (shut_through gs f w shut.0).known none)
