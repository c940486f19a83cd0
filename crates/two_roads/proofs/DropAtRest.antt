-- Behind the executor's drop, where no call is in progress any more, the machine stands where the plain scheduler does.
use Rattle.std.proofs.Common.{◌≡◌, ℕ, List, [], ◌∷◌, sym, ap, subst, ◌∙◌}
use Rattle.std.specs.Prelude.{reverse}
use Rattle.executor_model.specs.declared.op.Op.{Op}
use Rattle.executor_model.specs.declared.op.Op.TheVariants as op
use Rattle.executor_model.specs.declared.op.UserOp.TheVariants as user_op
use Rattle.executor_model.specs.declared.op.Waker.{Waker}
use Rattle.executor_model.specs.Quiet.{IsQuiet}
use Rattle.executor_model.specs.Steps.{Machine}
use Rattle.executor_model.specs.World.{Done}
use Rattle.executor_model.proofs.Quiet.Resting.{rests}
use Rattle.executor_model.proofs.Steps.Reached.{Reached, deep-here, reached-more}
use Rattle.plain_scheduler.specs.State.{Plain}
use Rattle.plain_scheduler.specs.Calls.{course}
use Rattle.machine_roads.specs.DropActs.{AreDropActs, DropActAlike, StandsDropping, behind, drops, left_to_close}
use Rattle.machine_roads.specs.InLoss.{loss_ops}
use Rattle.machine_roads.specs.Road.{Follows}
use Rattle.machine_roads.specs.View.{Output, wakes as wakes_in}
use Rattle.machine_roads.specs.Within.{Act, standing}
use Rattle.two_roads.specs.Acting.{drop_acts_by, left_of}

filled : (o : Op) (os : List Op) → o ∷ os ≡ [] → ⊥
filled o os is = cc

lost_filled : (gs : List ℕ) (o : Op) (os : List Op) → loss_ops gs (o ∷ os) ≡ [] → ⊥
lost_filled [] o os is = filled o os is
lost_filled (g ∷ gs) o os is = cc

drop_rests : (e : Done) (q : Plain Output Waker) → StandsDropping e q → e.next ≡ [] → Follows e.world q
drop_rests e q (drops gs f fs all next stands) is =
    absurd (lost_filled gs (op.User (user_op.Drop f)) (left_to_close fs e.world) (sym next ∙ is))
drop_rests e q (behind [] waits stops) is = stops.losing.follows
drop_rests e q (behind (g ∷ gs) waits stops) is = absurd (clear (sym stops.left ∙ is))
  where
    clear : loss_ops (g ∷ gs) [] ≡ [] → ⊥
    clear is = cc

pub drop_acts_rest : (acts : List Act) (s : Machine) (p : ℕ) (q : Plain Output Waker) → Reached s → StandsDropping (standing s p) q
    → (go : DropActAlike s q acts) → AreDropActs s acts → IsQuiet (left_of s acts).world.trace
    → Follows (left_of s acts).world (course wakes_in (drop_acts_by s q acts go) q)
drop_acts_rest [] s p q reached stands go are quiet =
    drop_rests (standing s p) q stands (ap (λ (xs : List Op). reverse xs) (rests s (deep-here s reached) quiet p))
drop_acts_rest (a ∷ acts) s p q reached stands go are quiet =
    subst (λ (z : Plain Output Waker). Follows (left_of a.left acts).world (course wakes_in (drop_acts_by a.left go.0 acts go.3) z))
    (sym go.1.so)
    (drop_acts_rest acts a.left a.party go.0 (reached-more (a.first ∷ a.steps) s a.left reached are.0.made) go.2 go.3 are.1 quiet)
