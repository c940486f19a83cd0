-- Calls that an executor's owner may wish to make, as the machine's acts are.
use Rattle.std.specs.Prelude.{◌≡◌, ℕ, ◌<◌, ◌^◌, nat_lt, true, List, [], ◌∷◌}
use Rattle.task_moves.specs.AbstractTask as abstract
use Rattle.executor_model.specs.Steps.{Machine}
use Rattle.solo.specs.declared.names.SoloWaker.{SoloWaker}
use Rattle.solo.specs.declared.names.SoloWaker.TheVariants.{Task as OfTask, Outside}
use Rattle.solo.specs.declared.owed.Lent.{Lent}
use Rattle.solo.specs.declared.solo.Solo.{Solo}
use Rattle.task_moves.specs.LocalTask.{references_of}
use Rattle.plain_scheduler.specs.State.{Choice, Event, Plain}
use Rattle.plain_scheduler.specs.Moves.{task}
use Rattle.plain_scheduler.specs.Calls.{Call, Copy, PollHandle, does, is_granted}
use Rattle.machine_roads.specs.Within.{Act, IsMade, start_in}
use Rattle.solo_laws.specs.Courses.{Leads, leads}
use Rattle.solo_laws.specs.Heeding.{Fits}
use Rattle.solo_laws.specs.Making.{Wish}
use Rattle.solo_laws.specs.Owner.{Owner}
use Rattle.solo_laws.specs.Road.{wakes}
use Rattle.two_roads.specs.Refusing.{asks_memory, has_to_wait, refused_in}
use Rattle.two_roads.specs.Renaming.{call_as}
use Rattle.two_roads.specs.Together.{nothing, numbered}

module _ {T X : Type 0} (number : X → ℕ) where
  -- what the machine's step begins or ends; memory is to be refused as in the act, and a run to walk from the same word on
  pub record IsWishOfStep (s : Machine) (a : Act) (x : Wish T (SoloWaker X)) : Type 0 where
    pub made : IsMade s a.party a.first (call_as nothing (numbered number) x.call)
    pub refusal : x.refusal ≡ refused_in s a
    pub first : x.first ≡ start_in s a

  abbrev pub AreWishesOfSteps : Machine → List Act → List (Wish T (SoloWaker X)) → Type 0
  AreWishesOfSteps s [] [] = Unit {0}
  AreWishesOfSteps s (a ∷ acts) (x ∷ xs) = IsWishOfStep s a x × AreWishesOfSteps a.left acts xs
  AreWishesOfSteps s acts xs = ⊥

  -- and so from the executor's drop on, where no run searches
  abbrev pub AreLastWishesOfSteps : Machine → List Act → List (Wish T (SoloWaker X)) → Type 0
  AreLastWishesOfSteps s [] [] = Unit {0}
  AreLastWishesOfSteps s (a ∷ acts) (x ∷ xs) =
      IsMade s a.party a.first (call_as nothing (numbered number) x.call) × AreLastWishesOfSteps a.left acts xs
  AreLastWishesOfSteps s acts xs = ⊥

module _ {T X : Type 0} (its : ℕ → Lent) (s : Machine) (a : Act) (c : Choice) (p : Plain T (SoloWaker X)) where
  -- of a task that has references a copy of its waker is refused in the act just where it has as many as it may
  abbrev pub CopiesAlike : ℕ → Type 0
  CopiesAlike f = (0 < references_of (task f p)) × (is_granted (refused_in s a) ≡ nat_lt (references_of (task f p)) (2 ^ 40))

  -- nothing else is asked of what is refused in a call, but that nothing but memory refuses one that finds nothing
  abbrev pub RefusesAlike : Call T (SoloWaker X) → Type 0
  RefusesAlike (Copy f) = CopiesAlike f
  RefusesAlike (PollHandle f (OfTask t)) = has_to_wait (abstract.polled (task f p)) ≡ true → CopiesAlike t.number
  RefusesAlike (PollHandle f (Outside x)) = Unit {0}
  RefusesAlike call = Fits its c p (refused_in s a) call

module _ {F T X : Type 0} {its : ℕ → Lent} where
  abbrev pub AreRefusedAlike : Machine → List Act → {cs : List (Choice × Call T (SoloWaker X))} {before after : Owner} {y z : Solo F T X}
      {p : Plain T (SoloWaker X)} {shown : List (Event T (SoloWaker X))} → Leads its cs before y p shown after z → Type 0
  AreRefusedAlike s (a ∷ acts) (leads c call rest before now after y m z p shown others many how on) =
      RefusesAlike its s a c p call × AreRefusedAlike a.left acts on
  AreRefusedAlike s acts led = Unit {0}

-- and so from the executor's drop on: memory is refused as in the acts
module _ {T X : Type 0} where
  abbrev pub AreLastRefusedSo : Machine → List Act → Plain T (SoloWaker X) → List (Choice × Call T (SoloWaker X)) → Type 0
  AreLastRefusedSo s (a ∷ acts) p (x ∷ xs) =
      (asks_memory wakes x.0 p x.1 ≡ true → x.0.refusal ≡ refused_in s a)
      × AreLastRefusedSo a.left acts (does wakes x.0 x.1 p) xs
  AreLastRefusedSo s acts p xs = Unit {0}

  abbrev pub EndRefusedSo : Act → List Act → Plain T (SoloWaker X) → List (Choice × Call T (SoloWaker X)) → Type 0
  EndRefusedSo a acts p [] = Unit {0}
  EndRefusedSo a acts p (x ∷ xs) = AreLastRefusedSo a.left acts (does wakes x.0 x.1 p) xs
