-- What one party at a time is commanded to do, and the acts of the machine by which it does so.
use Rattle.std.specs.Prelude.{◌≡◌, ℕ, suc, true, if◌then◌else◌, List, [], ◌∷◌, None, reverse}
use Rattle.executor_model.specs.declared.step.Hint.{Hint}
use Rattle.executor_model.specs.declared.step.Step.{Step}
use Rattle.executor_model.specs.declared.step.Step.TheVariants.{Answer, Go}
use Rattle.executor_model.specs.declared.step.UserEnd.TheVariants.{Done as Over}
use Rattle.executor_model.specs.Steps.{Machine, after, party_of, refusal, stack, top}
use Rattle.machine_roads.specs.Within.{Act, AreActs, IsAct, calls_outside, is_on_way}

-- a call that a party begins, or user code of its that it ends, and what it is told behind that, by how many steps it has taken there
pub record Command : Type 0 where
  pub party : ℕ
  pub first : Step
  pub told : ℕ → Hint

-- the step by which a party goes on that is told this: the call of an outside waker ends, or it does what it has to do
abbrev pub next_step : ℕ → Hint → Machine → Step
next_step p h s = if calls_outside (top (stack s p)) then Answer p Over else Go p h

-- by such steps it goes on
abbrev pub AreTold : ℕ → (ℕ → Hint) → Machine → List Step → Type 0
AreTold p told s [] = Unit {0}
AreTold p told s (t ∷ ts) = (t ≡ next_step p (told 0) s) × AreTold p (λ n. told (suc n)) (after s t) ts

-- no other party has begun anything, and the machine doesn't refuse this step
pub record MayBegin (s : Machine) (p : ℕ) (t : Step) : Type 0 where
  pub others : (q : ℕ) → ¬ (q ≡ p) → stack s q ≡ []
  pub its : party_of t ≡ p
  pub possible : refusal s t ≡ None

-- it isn't the executor's drop, and no call in a drop of which nothing is said
abbrev pub IsOnWay : Machine → ℕ → Step → Type 0
IsOnWay s p t = is_on_way (reverse (stack s p)) t ≡ true

-- an act does as commanded
pub record IsOfCommand (s : Machine) (k : Command) (a : Act) : Type 0 where
  pub party : a.party ≡ k.party
  pub first : a.first ≡ k.first
  pub told : AreTold k.party k.told (after s k.first) a.steps

-- one after the other may begin, wherever acts by those before it have led
abbrev pub MayFollow : List Command → Machine → Type 0
MayFollow [] s = Unit {0}
MayFollow (k ∷ ks) s =
    MayBegin s k.party k.first × IsOnWay s k.party k.first × ((a : Act) → IsAct s a → IsOfCommand s k a → MayFollow ks a.left)

abbrev pub AreOfCommands : Machine → List Act → List Command → Type 0
AreOfCommands s [] [] = Unit {0}
AreOfCommands s (a ∷ acts) (k ∷ ks) = IsOfCommand s k a × AreOfCommands a.left acts ks
AreOfCommands s acts ks = ⊥

-- there are such acts
pub record AreMade (s : Machine) (ks : List Command) : Type 0 where
  pub acts : List Act
  pub are : AreActs s acts
  pub of : AreOfCommands s acts ks
