-- Calls of the machine one inside another, as calls of the plain scheduler.
use Rattle.std.specs.Prelude.{◌≡◌, ℕ, true, List, [], ◌∷◌, Some}
use Rattle.executor_model.specs.declared.op.Waker.{Waker}
use Rattle.executor_model.specs.Steps.{Machine}
use Rattle.solo.specs.declared.names.SoloWaker.{SoloWaker}
use Rattle.solo.specs.declared.owed.Lent.{Lent}
use Rattle.solo.specs.declared.solo.Solo.{Solo}
use Rattle.plain_scheduler.specs.State.{Choice, Event, Plain}
use Rattle.plain_scheduler.specs.Calls.{Call, DropExecutor, does}
use Rattle.plain_scheduler.specs.Searches.{Search, finds, searches}
use Rattle.plain_scheduler.specs.Usual.{IsKeptByOthers}
use Rattle.machine_roads.specs.DropActs.{DropActAlike}
use Rattle.machine_roads.specs.View.{Output}
use Rattle.machine_roads.specs.Within.{Act, ActAlike, IsMade, start_in}
use Rattle.solo_laws.specs.Courses.{Acts, Leads, leads, stays}
use Rattle.solo_laws.specs.Making.{ActsFrom}
use Rattle.solo_laws.specs.Owner.{Owner}
use Rattle.solo_laws.specs.Road.{wakes}
use Rattle.two_roads.specs.Refusing.{asks_memory, refused_in}
use Rattle.two_roads.specs.Renaming.{call_as}
use Rattle.two_roads.specs.Together.{nothing, numbered}

-- each act is a call, or the end of the innermost code as the machine's step has it
abbrev pub acts_by : (s : Machine) (q : Plain Output Waker) (acts : List Act) → ActAlike s q acts → List (Choice × Call Output Waker)
acts_by s q [] go = []
acts_by s q (a ∷ acts) go = (go.1.choice, go.1.made) ∷ acts_by a.left go.0 acts go.3

abbrev pub drop_acts_by : (s : Machine) (q : Plain Output Waker) (acts : List Act) → DropActAlike s q acts
    → List (Choice × Call Output Waker)
drop_acts_by s q [] go = []
drop_acts_by s q (a ∷ acts) go = (go.1.choice, go.1.made) ∷ drop_acts_by a.left go.0 acts go.3

-- the machine that they leave
abbrev pub left_of : Machine → List Act → Machine
left_of s [] = s
left_of s (a ∷ acts) = left_of a.left acts

module _ {T X : Type 0} (number : X → ℕ) where
  -- a call of an executor of one owner is what the machine's step begins or ends; where it asks for memory, this is refused to it as it is
  -- in the act
  pub record IsOfStep (s : Machine) (a : Act) (p : Plain T (SoloWaker X)) (c : Choice) (call : Call T (SoloWaker X)) : Type 0 where
    pub made : IsMade s a.party a.first (call_as nothing (numbered number) call)
    pub refused : asks_memory wakes c p call ≡ true → c.refusal ≡ refused_in s a

  module _ {F : Type 0} {its : ℕ → Lent} where
    -- where a run robs another in it, it looks for whom from the same word on as the machine's run
    abbrev pub WalksAlike : (s : Machine) (a : Act) {before now : Owner} {c : Choice} {y z : Solo F T X} {p : Plain T (SoloWaker X)}
        {call : Call T (SoloWaker X)} {shown : List (Event T (SoloWaker X))} → Acts its before c y p call shown now z → Type 0
    WalksAlike s a {before} {now} {c} {y} {z} {p} {call} {shown} how =
        (x : Search T (SoloWaker X)) → searches wakes c call p ≡ Some x → finds x ≡ true → IsKeptByOthers x.run x.at.due
        → (second : ℕ) × ActsFrom its c y p (start_in s a) second before call shown now z how

    abbrev pub AreOfSteps : Machine → List Act → {cs : List (Choice × Call T (SoloWaker X))} {before after : Owner} {y z : Solo F T X}
        {p : Plain T (SoloWaker X)} {shown : List (Event T (SoloWaker X))} → Leads its cs before y p shown after z → Type 0
    AreOfSteps s [] (stays owner y p) = Unit {0}
    AreOfSteps s (a ∷ acts) (leads c call rest before now after y m z p shown others many how on) =
        IsOfStep s a p c call × WalksAlike s a how × AreOfSteps a.left acts on
    AreOfSteps s acts led = ⊥

  -- and from the executor's drop on, where no run searches
  abbrev pub AreEndsOfSteps : Machine → List Act → Plain T (SoloWaker X) → List (Choice × Call T (SoloWaker X)) → Type 0
  AreEndsOfSteps s [] p [] = Unit {0}
  AreEndsOfSteps s (a ∷ acts) p (x ∷ xs) = IsOfStep s a p x.0 x.1 × AreEndsOfSteps a.left acts (does wakes x.0 x.1 p) xs
  AreEndsOfSteps s acts p xs = ⊥

  abbrev pub EndOfSteps : Act → List Act → Plain T (SoloWaker X) → List (Choice × Call T (SoloWaker X)) → Type 0
  EndOfSteps a acts p [] = ⊥
  EndOfSteps a acts p (x ∷ xs) = (x.1 ≡ DropExecutor) × AreEndsOfSteps a.left acts (does wakes x.0 x.1 p) xs
