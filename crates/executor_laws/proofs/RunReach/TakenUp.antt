-- For kept_futures_come_first.
-- What a step of a party that alone takes steps takes up.
use Rattle.std.proofs.Common.{◌≡◌, ◌∙◌, ℕ, List, [], ◌∷◌, ◌++◌, refl, sym, ap, Ok}
use Rattle.std.specs.Prelude.{Option, Some, None}
use Rattle.executor_laws.proofs.Types.{Move, Op, Hint, Step, Go, UserEnd}
use Rattle.executor_model.specs.{declared.step.Step.TheVariants.Answer, Doing.act, Executions.run_all, Steps.Machine, Steps.gone_on}
use Rattle.executor_model.specs.{Steps.onto, Steps.react, Steps.refusal, Steps.stack, Steps.step, Steps.stepped, Steps.top, Steps.with_part}
use Rattle.executor_model.specs.{World.Done}
use Rattle.executor_model.proofs.{Steps.Reached.run-first, Table.Spawning.top-last}
use Rattle.executor_laws.specs.KeptFirst.{taken_by, taken_up}
use Rattle.executor_laws.proofs.Promptness.Turns.{below-is, next-is}

abbrev pub up_of : Op → List ℕ
up_of (Op.Move Move.TakeUp f) = f ∷ []
up_of _ = []

pub go-takes : (p : ℕ) (h : Hint) (o : Op) → taken_by (Go p h) (Some o) ≡ up_of o
go-takes p h (Op.Move Move.TakeUp f) = refl
go-takes p h _ = refl

module _ (p : ℕ) (s new : Machine) (below : List Op) (o : Op) (ts : List Step) (e : stack s p ≡ below ++ o ∷ [])
    (n : run_all ts s ≡ Ok new) where
  top-is : top (stack s p) ≡ Some o
  top-is = ap top e ∙ top-last below o

  gone-is : (d : Op → Done) → gone_on p s.world (stack s p) (top (stack s p)) d ≡ onto p (d o) below
  gone-is d = ap (λ (x : Option Op). gone_on p s.world (stack s p) x d) top-is
      ∙ ap (λ (os : List Op). onto p (d o) os) (below-is (stack s p) below o e)

  possible : (t : Step) (others : List Step) → ts ≡ t ∷ others → refusal s t ≡ None
  possible t others i = (run-first t others s new (ap (λ (xs : List Step). run_all xs s) (sym i) ∙ n)).0

  -- it does what is on top
  pub goes-up : (h : Hint) (others : List Step) → ts ≡ Go p h ∷ others →
      taken_up p ts s ≡ up_of o ++ taken_up p others (with_part s p (onto p (act p h o s.world) below))
  goes-up h others i =
      let j : stepped s (step s (Go p h)) ≡ with_part s p (onto p (act p h o s.world) below) =
      next-is s (Go p h) (possible (Go p h) others i) ∙ ap (with_part s p) (gone-is (λ x. act p h x s.world)) in
      ap (λ (xs : List Step). taken_up p xs s) i
      ∙ (ap (λ (x : Option Op). taken_by (Go p h) x ++ taken_up p others (stepped s (step s (Go p h)))) top-is
      ∙ (ap (λ (ns : List ℕ). ns ++ taken_up p others (stepped s (step s (Go p h)))) (go-takes p h o)
      ∙ ap (λ (v : Machine). up_of o ++ taken_up p others v) j))

  -- user code answers
  pub answers-up : (u : UserEnd) (others : List Step) → ts ≡ Answer p u ∷ others →
      taken_up p ts s ≡ taken_up p others (with_part s p (onto p (react p o u s.world) below))
  answers-up u others i =
      let j : stepped s (step s (Answer p u)) ≡ with_part s p (onto p (react p o u s.world) below) =
      next-is s (Answer p u) (possible (Answer p u) others i) ∙ ap (with_part s p) (gone-is (λ x. react p x u s.world)) in
      ap (λ (xs : List Step). taken_up p xs s) i ∙ ap (λ (v : Machine). taken_up p others v) j
