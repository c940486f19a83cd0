-- Acts from the executor's drop on: calls inside of the drops of futures in it, the ends of these, and calls behind it.
use Rattle.std.specs.Prelude.{◌≡◌, ℕ, List, [], ◌∷◌, ◌++◌}
use Rattle.executor_model.specs.declared.call.Call.TheVariants as call
use Rattle.executor_model.specs.declared.call.Reply.TheVariants as reply
use Rattle.executor_model.specs.declared.op.Hold.TheVariants as hold
use Rattle.executor_model.specs.declared.op.Op.{Op}
use Rattle.executor_model.specs.declared.op.Op.TheVariants as op
use Rattle.executor_model.specs.declared.op.UserOp.TheVariants as user_op
use Rattle.executor_model.specs.declared.op.Waker.{Waker}
use Rattle.executor_model.specs.declared.step.Step.TheVariants.{Begin}
use Rattle.executor_model.specs.Acts.{closing_ops}
use Rattle.executor_model.specs.declared.kind.Kind.{Kind}
use Rattle.executor_model.specs.Quiet.{IsQuiet}
use Rattle.executor_model.specs.Steps.{Machine, is_static_kind, start}
use Rattle.executor_model.specs.World.{Done, World}
use Rattle.plain_scheduler.specs.State.{Choice, Plain}
use Rattle.plain_scheduler.specs.Calls as plain
use Rattle.plain_scheduler.specs.Calls.{does, new}
use Rattle.machine_roads.specs.View.{Output, wakes}
use Rattle.machine_roads.specs.InLoss.{AreShut, StopsInLoss, loss_codes, loss_ops, without_handles}
use Rattle.machine_roads.specs.Lone.{NoneWaits}
use Rattle.machine_roads.specs.Closing.{IsInDropBelow}
use Rattle.machine_roads.specs.Within.{Act, ActAlike, ActsBy, AreActs, IsAct, standing, start_in}

-- what is left to do of the executor's drop behind that of a future
abbrev pub left_to_close : List ℕ → World → List Op
left_to_close fs w = closing_ops fs w.waking ++ op.End reply.Done hold.Nothing ∷ []

-- in the drops of these outputs there, one inside another, both stand so but for the handles that go with them
pub record AreLosingInDrop (w : World) (gs fs all : List ℕ) (q : Plain Output Waker) : Type 0 where
  pub shut : AreShut w gs
  pub left : IsInDropBelow (loss_codes gs []) (without_handles gs w) fs all [] q

-- a party stands in the drop of a future in the executor's drop, or in those of outputs that go with their handles there, one inside
-- another; or behind the executor's drop in none, or in such drops of outputs
pub data StandsDropping (e : Done) (q : Plain Output Waker) : Type 0 where
  drops : (gs : List ℕ) (f : ℕ) (fs all : List ℕ) → e.next ≡ loss_ops gs (op.User (user_op.Drop f) ∷ left_to_close fs e.world)
      → AreLosingInDrop e.world gs fs all q → StandsDropping e q
  behind : (gs : List ℕ) → NoneWaits q → StopsInLoss gs [] [] e q → StandsDropping e q

-- whatever acts these are
abbrev pub AreDropActs : Machine → List Act → Type 0
AreDropActs s [] = Unit {0}
AreDropActs s (a ∷ acts) = IsAct s a × AreDropActs a.left acts

abbrev pub DropActAlike : Machine → Plain Output Waker → List Act → Type 0
DropActAlike s q [] = Unit {0}
DropActAlike s q (a ∷ acts) =
    (r : Plain Output Waker) × ActsBy s a.party a.first q r a.left.world (start_in s a) × StandsDropping (standing a.left a.party) r
    × DropActAlike a.left r acts

-- so it is from a lone machine's executor's drop on, where the plain scheduler stands in no code
abbrev pub DropActsAlike : Machine → Plain Output Waker → Type 0
DropActsAlike s q =
    (a : Act) (acts : List Act) (d : Choice) → q.inside ≡ [] → IsAct s a → a.first ≡ Begin a.party call.DropExecutor
    → AreDropActs a.left acts
    → StandsDropping (standing a.left a.party) (does wakes d plain.DropExecutor q)
    × DropActAlike a.left (does wakes d plain.DropExecutor q) acts

-- the machine that acts leave, and the plain scheduler
abbrev pub left_by : Machine → List Act → Machine
left_by s [] = s
left_by s (a ∷ acts) = left_by a.left acts

abbrev pub plain_behind : (acts : List Act) (s : Machine) (q : Plain Output Waker) → ActAlike s q acts → Plain Output Waker
plain_behind [] s q alike = q
plain_behind (a ∷ acts) s q alike = plain_behind acts a.left alike.0 alike.3

-- from a new machine on both act alike, and, where no call is in progress any more, from the executor's drop on
abbrev pub ListsActToTheEnd : Type 0
ListsActToTheEnd =
    (limit : ℕ) (kind : Kind) (parties : ℕ) (acts : List Act) → AreActs (start limit kind parties) acts
    → IsQuiet (left_by (start limit kind parties) acts).world.trace
    → (alike : ActAlike (start limit kind parties) (new limit (is_static_kind kind)) acts)
    × DropActsAlike (left_by (start limit kind parties) acts)
    (plain_behind acts (start limit kind parties) (new limit (is_static_kind kind)) alike)
