-- Lone calls as acts: a lone call rests where user code has to answer, and with each answer another act begins.
use Rattle.std.specs.Prelude.{ℕ, Bool, true, false, List, [], ◌∷◌, ◌++◌, reverse}
use Rattle.executor_model.specs.declared.step.Step.{Step}
use Rattle.executor_model.specs.declared.step.Step.TheVariants.{Begin}
use Rattle.executor_model.specs.Steps.{Machine, after, stack}
use Rattle.machine_roads.specs.Alone.{is_resting}
use Rattle.machine_roads.specs.Course.{Lone}
use Rattle.machine_roads.specs.Within.{Act}

-- of the steps by which a party goes on those of the act that it is in, the machine that this leaves, and the acts behind it
pub record Cut : Type 0 where
  pub own : List Step
  pub left : Machine
  pub later : List Act

abbrev pub act_of : ℕ → Step → Cut → Act
act_of p t c = record { party = p; first = t; steps = c.own; left = c.left }

abbrev pub cut_by : Bool → ℕ → Step → Machine → Cut → Cut
cut_by true p t s c = record { own = []; left = s; later = act_of p t c ∷ c.later }
cut_by false p t s c = record c { own = t ∷ c.own }

abbrev pub cut : ℕ → List Step → Machine → Cut
cut p [] s = record { own = []; left = s; later = [] }
cut p (t ∷ ts) s = cut_by (is_resting (reverse (stack s p))) p t s (cut p ts (after s t))

-- a call from its begin on
abbrev pub cut_of : Machine → Lone → Cut
cut_of s l = cut l.party l.steps (after s (Begin l.party l.call))

abbrev pub first_act : Machine → Lone → Act
first_act s l = act_of l.party (Begin l.party l.call) (cut_of s l)

-- a list of them
abbrev pub acts_of : Machine → List Lone → List Act
acts_of s [] = []
acts_of s (l ∷ ls) = first_act s l ∷ ((cut_of s l).later ++ acts_of l.left ls)
