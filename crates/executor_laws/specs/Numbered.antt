-- The requests for memory of a party's command, by number.
use Rattle.std.specs.Prelude.{◌≡◌, ◌⊎◌, ℕ, ◌+◌, ◌-◌, ◌<◌, ◌==◌, Bool, true, false, ◌&&◌, cond, Option, Some, None}
use Rattle.std.specs.Prelude.{List, [], ◌∷◌, ◌++◌}
use Rattle.std.specs.List.{list_any}
use Rattle.executor_model.specs.declared.call.Reply.TheVariants.{NoMemory}
use Rattle.executor_model.specs.declared.op.Op.{Op}
use Rattle.executor_model.specs.declared.op.Op.TheVariants.{End}
use Rattle.executor_model.specs.declared.step.Hint.{Hint}
use Rattle.executor_model.specs.declared.step.Step.{Step}
use Rattle.executor_model.specs.declared.step.Step.TheVariants.{Begin, Go, Answer}
use Rattle.executor_model.specs.Doing.{act}
use Rattle.executor_model.specs.Memory.{asks, refuses}
use Rattle.executor_model.specs.Refusals.{CopiesOneTooMany}
use Rattle.executor_model.specs.SpawnWants.{Answers, is_refused}
use Rattle.executor_model.specs.Steps.{Machine, run, stack, step, stepped, top}
use Rattle.executor_laws.specs.Continued.{IsContinued}

-- counting

-- so many requests come up to the one that alone is refused, it counted: is it this one
abbrev pub is_the_one : Bool → ℕ → Bool
is_the_one asked to_go = asked && (to_go == 1)

-- and so many come up to it behind this step
abbrev pub left : Bool → ℕ → ℕ
left asked to_go = to_go - cond asked 1 0

abbrev pub asks_next : Option Op → Bool
asks_next (Some o) = asks o
asks_next None = false

-- with this step party p asks for memory
abbrev pub is_request : ℕ → Machine → Step → Bool
is_request p s (Go q h) = (p == q) && asks_next (top (stack s q))
is_request p s (Begin q c) = false
is_request p s (Answer q e) = false

-- so often it does with these steps
abbrev pub requests : ℕ → Machine → List Step → ℕ
requests p s [] = 0
requests p s (t ∷ ts) = cond (is_request p s t) 1 0 + requests p (stepped s (step s t)) ts

-- refusing

-- a request is refused where it is the one, and only there; what is none stays as it is
abbrev pub told : Bool → ℕ → Step → Step
told true to_go (Go q h) = Go q (record h { refused = is_the_one true to_go })
told _ to_go t = t

-- these steps, with the k-th request of party p refused and no other of its requests; none of them is where k is 0
abbrev pub refusing : ℕ → ℕ → Machine → List Step → List Step
refusing k p s [] = []
refusing k p s (t ∷ ts) = told (is_request p s t) k t
    ∷ refusing (left (is_request p s t) k) p (stepped s (step s (told (is_request p s t) k t))) ts

-- the next thing of party p would copy a waker of a task that has 2^40 references
abbrev pub CopiesTooMany : ℕ → Machine → Type 0
CopiesTooMany p s = (o : Op) × (top (stack s p) ≡ Some o) × CopiesOneTooMany o s.world

-- with this step party p asks for memory, and is refused it, or for a copy of which there would be one too many
abbrev pub IsRefused : ℕ → Machine → Step → Type 0
IsRefused p s t = (is_request p s t ≡ true) × ((is_refused t ≡ true) ⊎ CopiesTooMany p s)

-- one of these steps is such
abbrev pub OneIsRefused : ℕ → Machine → List Step → Type 0
OneIsRefused p s [] = ⊥
OneIsRefused p s (t ∷ ts) = IsRefused p s t ⊎ OneIsRefused p (stepped s (step s t)) ts

-- it ends a call with a refusal
abbrev pub ends_refused : Op → Bool
ends_refused (End r held) = refuses r
ends_refused _ = false

-- where party p does nothing, its next command begins
pub record RequestsAreNumbered (s : Machine) : Type 0 where
  -- a call of the command is answered that memory is wanted only where a request of the command was refused, or was one for a
  -- copy too many
  pub wanted : (p : ℕ) (ts : List Step) (t : Step) → stack s p ≡ [] → Answers (run ts s) t p NoMemory →
      OneIsRefused p s (ts ++ t ∷ [])
  -- a command of which the k-th request is refused is, up to that request, the one of which none is
  pub same : (p k : ℕ) (ts : List Step) → requests p s (refusing 0 p s ts) < k →
      run (refusing k p s ts) s ≡ run (refusing 0 p s ts) s
  -- so it has its trace, and what follows comes behind that
  pub behind : (p k : ℕ) (ts us : List Step) → requests p s (refusing 0 p s ts) < k →
      IsContinued (run (refusing 0 p s ts) s).world.trace (run (refusing k p s (ts ++ us)) s).world.trace
  -- who asks and is refused ends the call so; and whatever asks for nothing is the same, refused or not
  pub refused : (p : ℕ) (h : Hint) (o : Op) → asks o ≡ true → h.refused ≡ true →
      list_any ends_refused (act p h o s.world).next ≡ true
  pub unasked : (p : ℕ) (h : Hint) (b : Bool) (o : Op) → asks o ≡ false →
      act p (record h { refused = b }) o s.world ≡ act p h o s.world
