-- Where nobody else has begun anything, a party goes on to where it rests, however it is told.
use Rattle.std.proofs.Common.{◌≡◌, ℕ, zero, suc, ◌<◌, ◌≤◌, ◌&&◌, not, nat_lt, Bool, true, false, if◌then◌else◌, List, []}
use Rattle.std.proofs.Common.{◌∷◌, length, Option, Some, None, Ok, refl, sym, ap, subst, ◌∙◌, arith}
use Rattle.std.specs.Prelude.{reverse}
use Rattle.std.proofs.lemmas.Bool.Decides.{nat_tests}
use Rattle.executor_model.specs.declared.kind.Kind.{Kind}
use Rattle.executor_model.specs.declared.op.Op.{Op}
use Rattle.executor_model.specs.declared.op.Op.TheVariants as op
use Rattle.executor_model.specs.declared.op.UserOp.TheVariants as user_op
use Rattle.executor_model.specs.declared.step.Hint.{Hint}
use Rattle.executor_model.specs.declared.step.Step.{Step}
use Rattle.executor_model.specs.declared.step.Step.TheVariants.{Answer, Go}
use Rattle.executor_model.specs.declared.step.StepError.{StepError}
use Rattle.executor_model.specs.declared.step.StepError.TheVariants.{NoSuch}
use Rattle.executor_model.specs.declared.step.UserEnd.TheVariants.{Done as Over}
use Rattle.executor_model.specs.Executions.{run_all}
use Rattle.executor_model.specs.Steps.{Machine, after, answer_refusal, part_refusal, party_of, refusal, stack, start, top, unless, waits}
use Rattle.executor_model.proofs.Steps.Reached.{Reached, reached-more, reached-step, run-then}
use Rattle.executor_model.proofs.Steps.Stepping.{refusal-there}
use Rattle.executor_laws.specs.Remaining.{is_onward, remaining}
use Rattle.executor_laws.proofs.Termination.Ends.{lowers}
use Rattle.executor_laws.proofs.Termination.GoingOn.{goes-on}
use Rattle.executor_laws.proofs.Termination.LoneEnds.{OthersRest, alone-free, still-party, still-rest}
use Rattle.machine_roads.specs.Alone.{is_outside, is_resting}
use Rattle.machine_roads.specs.Within.{Act, IsAct, calls_outside, goes_on, is_on_way, rests_after}
use Rattle.machine_roads.proofs.Lists.{equal}
use Rattle.machine_roads.proofs.Tying.{top_of}
use Rattle.lone_machine.specs.Commands.{IsOnWay, AreMade, AreTold, Command, IsOfCommand, MayBegin, MayFollow, next_step}

-- a party whose step isn't refused is there
pub there_of : (s : Machine) (t : Step) → refusal s t ≡ None → party_of t < length s.parties
there_of s t may = by (nat_lt (party_of t) (length s.parties)) (part_refusal s.world s.parties (stack s (party_of t)) t) refl may
  where
    by : (b : Bool) (r : Option StepError) → nat_lt (party_of t) (length s.parties) ≡ b → unless b NoSuch r ≡ None
        → party_of t < length s.parties
    by true r is may = grind (arith, nat_tests)
    by false r is may = absurd cc

-- the steps by which it does so
pub record Goes (p : ℕ) (told : ℕ → Hint) (s : Machine) : Type 0 where
  pub steps : List Step
  pub left : Machine
  pub made : run_all steps s ≡ Ok left
  pub rests : rests_after p steps s ≡ true
  pub as_told : AreTold p told s steps

-- of what goes on it rests, an outside waker is called, or there is a thing to do
pub data Stand (s : Machine) (p : ℕ) : Type 0 where
  resting : is_resting (reverse (stack s p)) ≡ true → Stand s p
  outside : (x : ℕ) → top (stack s p) ≡ Some (op.User (user_op.CallOutside x)) → Stand s p
  doing : (o : Op) → top (stack s p) ≡ Some o → waits o ≡ false → is_outside o ≡ false → Stand s p

stand : (s : Machine) (p : ℕ) → Stand s p
stand s p = by (reverse (stack s p)) refl
  where
    calls : (o : Op) → is_outside o ≡ true → (x : ℕ) × (o ≡ op.User (user_op.CallOutside x))
    calls (op.User (user_op.CallOutside x)) is = (x, refl)
    calls o is = absurd cc

    of : (o : Op) (os : List Op) → reverse (stack s p) ≡ o ∷ os → (a b : Bool) → waits o ≡ a → is_outside o ≡ b → Stand s p
    of o os is true true w out =
        let k = calls o out in outside k.0 ((top_of (stack s p) o os is).0 ∙ ap (λ o. Some o) k.1)
    of o os is true false w out =
        resting (ap (λ xs. is_resting xs) is ∙ (ap (λ a. a && not (is_outside o)) w ∙ ap (λ b. not b) out))
    of o os is false true w out =
        let k = calls o out in outside k.0 ((top_of (stack s p) o os is).0 ∙ ap (λ o. Some o) k.1)
    of o os is false false w out = doing o (top_of (stack s p) o os is).0 w out

    by : (os : List Op) → reverse (stack s p) ≡ os → Stand s p
    by [] is = resting (ap (λ xs. is_resting xs) is)
    by (o ∷ os) is = of o os is (waits o) (is_outside o) refl refl

-- one step, and then on
goes_first : (p : ℕ) (told : ℕ → Hint) (s : Machine) (t : Step) → t ≡ next_step p (told 0) s → refusal s t ≡ None → goes_on p s t ≡ true
    → Goes p (λ n. told (suc n)) (after s t) → Goes p told s
goes_first p told s t is may on k = record {
  steps = t ∷ k.steps;
  left = k.left;
  made = run-then t k.steps s k.left may k.made;
  rests = ap (λ b. b && rests_after p k.steps (after s t)) on ∙ k.rests;
  as_told = (is, k.as_told);
}

answer_may : (s : Machine) (p x : ℕ) → p < length s.parties → top (stack s p) ≡ Some (op.User (user_op.CallOutside x))
    → refusal s (Answer p Over) ≡ None
answer_may s p x there is = refusal-there s (Answer p Over) there ∙ ap (λ o. answer_refusal o Over) is

module _ (p : ℕ) (told : ℕ → Hint) (s : Machine) (reached : Reached s) (there : p < length s.parties) (others : OthersRest p s) where
  abbrev More : Type 0
  More = (t : Step) → is_onward t ≡ true → party_of t ≡ p → refusal s t ≡ None → Goes p (λ n. told (suc n)) (after s t)

  goes_by : More → Stand s p → Goes p told s
  goes_by more (resting rests) = record { steps = []; left = s; made = refl; rests = rests; as_told = tt }
  goes_by more (outside x is) =
      let calls : calls_outside (top (stack s p)) ≡ true = ap (λ o. calls_outside o) is in
      let may = answer_may s p x there is in
      goes_first p told s (Answer p Over) (sym (ap (λ b. if b then Answer p Over else Go p (told 0)) calls)) may
      (ap (λ b. b && calls_outside (top (stack s p))) (equal p p refl) ∙ calls) (more (Answer p Over) refl refl may)
  goes_by more (doing o is free out) =
      let calls : calls_outside (top (stack s p)) ≡ false = ap (λ o. calls_outside o) is ∙ out in
      let may = (goes-on s p o there is).goes free (alone-free p s o reached others is) (told 0) in
      goes_first p told s (Go p (told 0)) (sym (ap (λ b. if b then Answer p Over else Go p (told 0)) calls)) may (equal p p refl)
      (more (Go p (told 0)) refl refl may)

pub goes : (n p : ℕ) (told : ℕ → Hint) (s : Machine) → Reached s → p < length s.parties → OthersRest p s → remaining s ≤ n
    → Goes p told s
goes zero p told s reached there others most =
    goes_by p told s reached there others
    (λ t onward its may. absurd (omega (arith, lowers s reached t onward may, most))) (stand s p)
goes (suc n) p told s reached there others most =
    goes_by p told s reached there others
    (λ t onward its may.
    goes n p (λ n. told (suc n)) (after s t) (reached-step s t may reached) (still-party p s t there) (still-rest p s t its others)
    (omega (arith, lowers s reached t onward may, most))) (stand s p)

-- so what may begin is an act
pub act_of : (s : Machine) → Reached s → (k : Command) → MayBegin s k.party k.first → (a : Act) × IsAct s a × IsOfCommand s k a
act_of s reached k may =
    let t = k.first in
    let now = after s t in
    let there : k.party < length s.parties = subst (λ p. p < length s.parties) may.its (there_of s t may.possible) in
    let g =
    goes (remaining now) k.party k.told now (reached-step s t may.possible reached) (still-party k.party s t there)
    (still-rest k.party s t may.its may.others) (omega arith) in (
      record { party = k.party; first = t; steps = g.steps; left = g.left },
      record { others = may.others; its = may.its; made = run-then t g.steps s g.left may.possible g.made; rests = g.rests },
      record { party = refl; first = refl; told = g.as_told },
    )

pub way_of : (s : Machine) (k : Command) (a : Act) → IsOnWay s k.party k.first → IsOfCommand s k a → IsOnWay s a.party a.first
way_of s k a way of =
    ap (λ p. is_on_way (reverse (stack s p)) a.first) of.party ∙ (ap (λ t. is_on_way (reverse (stack s k.party)) t) of.first ∙ way)

pub are_made : (ks : List Command) (s : Machine) → Reached s → MayFollow ks s → AreMade s ks
are_made [] s reached may = record { acts = []; are = tt; of = tt }
are_made (k ∷ ks) s reached may =
    let one = act_of s reached k may.0 in
    let a = one.0 in
    let more = are_made ks a.left (reached-more (a.first ∷ a.steps) s a.left reached one.1.made) (may.2 a one.1 one.2) in
    record { acts = a ∷ more.acts; are = (one.1, way_of s k a may.1 one.2, more.are); of = (one.2, more.of) }

pub commands_made : (limit : ℕ) (kind : Kind) (parties : ℕ) (ks : List Command) → MayFollow ks (start limit kind parties)
    → AreMade (start limit kind parties) ks
commands_made limit kind parties ks may =
    are_made ks (start limit kind parties) (record { limit = limit; kind = kind; parties = parties; steps = []; is = refl }) may
