-- How many turns of its two queues the machine takes in an act.
use Rattle.std.specs.Prelude.{◌≡◌, ℕ, List, [], ◌∷◌}
use Rattle.executor_model.specs.declared.kind.Kind.{Kind}
use Rattle.executor_model.specs.declared.op.Waker.{Waker}
use Rattle.executor_model.specs.Steps.{Machine, is_static_kind, start}
use Rattle.plain_scheduler.specs.State.{Choice, Plain}
use Rattle.plain_scheduler.specs.Calls.{Call, new}
use Rattle.plain_scheduler.specs.Turns.{turns_of}
use Rattle.plain_scheduler.specs.Usual.{turned}
use Rattle.machine_roads.specs.View.{Output, wakes}
use Rattle.machine_roads.specs.Within.{Act, ActAlike, AreActs}
use Rattle.two_roads.specs.Refusing.{refused_in}

-- as many as this call takes where it is refused what the trace and the world show
abbrev pub TakesTurns : Machine → Act → Choice → Call Output Waker → Plain Output Waker → Type 0
TakesTurns s a c call q =
    a.left.world.urgent_turns ≡ turned (turns_of wakes (record c { refusal = refused_in s a }) call q) s.world.urgent_turns

-- each of these acts as many as the call that it is
abbrev pub EachTakesTurns : (s : Machine) (q : Plain Output Waker) (acts : List Act) → ActAlike s q acts → Type 0
EachTakesTurns s q [] go = Unit {0}
EachTakesTurns s q (a ∷ acts) go = TakesTurns s a go.1.choice go.1.made q × EachTakesTurns a.left go.0 acts go.3

-- so it is from a new machine on
abbrev pub ActsTakeTurns : Type 0
ActsTakeTurns =
    (limit : ℕ) (kind : Kind) (parties : ℕ) (acts : List Act) → AreActs (start limit kind parties) acts
    → (go : ActAlike (start limit kind parties) (new limit (is_static_kind kind)) acts)
    × EachTakesTurns (start limit kind parties) (new limit (is_static_kind kind)) acts go
