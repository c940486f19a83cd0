-- For common_futures_are_in_reach and arrival_order_needs_fewer_ticks.
-- From the beginning of a lone call that searches to its end.
use Rattle.std.proofs.Common.{◌≡◌, ℕ, ◌<◌, List, [], ◌∷◌, ◌++◌, length, Bool, true, false, ◌&&◌, eqb, ltb}
use Rattle.std.proofs.Common.{refl, sym, ap, ◌∙◌, subst, arith, get_or-set_same, Ok}
use Rattle.std.proofs.lemmas.Bool.Decides.{nat_tests}
use Rattle.std.specs.Prelude.{Option, None}
use Rattle.executor_laws.proofs.Types.{Mark, Reply, Hold, Op, Hint, UserEnd, Step, Begin, Go, StepError, NoSuch, WrongAnswer}
use Rattle.executor_model.specs.{declared.step.Step.TheVariants.Answer, Trace.Trace, World.World, Executions.run_all, Steps.Machine}
use Rattle.executor_model.specs.{Steps.Part, Steps.stack, Steps.top, Steps.accepts, Steps.onto, Steps.go_refusal, Steps.answer_refusal}
use Rattle.executor_model.specs.{Steps.part_refusal, Steps.party_of, Steps.refusal, Steps.unless, Steps.part_after, Steps.with_part}
use Rattle.executor_model.specs.{Steps.after, Doing.act}
use Rattle.executor_laws.specs.LoneEnds.{is_onward_of, are_onward_of}
use Rattle.executor_laws.proofs.Reach.LoneSteps.{Going, Ended, Arrives, HasEntry, answering, on-go, on-answer}
use Rattle.executor_laws.proofs.Reach.LoneSteps.Arrives.{going, ended}
use Rattle.executor_model.proofs.Steps.Reached.{Reached, run-first, reached-step}

pub left-true : (a b : Bool) → (a && b) ≡ true → (a ≡ true) × (b ≡ true)
left-true true b e = (refl, e)
left-true false b e = absurd (cc)

same-party : (p q : ℕ) → eqb p q ≡ true → p ≡ q
same-party p q e = grind (arith, nat_tests)

pub in-range : (b : Bool) (r : Option StepError) → unless b NoSuch r ≡ None → (b ≡ true) × (r ≡ None)
in-range true r e = (refl, e)
in-range false r e = absurd (cc)

-- an onward step of p is one of p, and isn't refused on its stack
abbrev pub OfParty : ℕ → Machine → Step → Type 0
OfParty p s t = (party_of t ≡ p) × (p < length s.parties) × (part_refusal s.world s.parties (stack s p) t ≡ None)

pub of-party : (p : ℕ) (s : Machine) (t : Step) → is_onward_of p t ≡ true → refusal s t ≡ None → OfParty p s t
of-party p s t o e =
    subst (λ (q : ℕ). (party_of t ≡ q) × (q < length s.parties) × (part_refusal s.world s.parties (stack s q) t ≡ None))
    (party p t o) (
      refl,
      (let b : ltb (party_of t) (length s.parties) ≡ true = (in-range _ _ e).0 in grind (arith, nat_tests)),
      (in-range _ _ e).1,
    )
  where
    party : (p : ℕ) (t : Step) → is_onward_of p t ≡ true → party_of t ≡ p
    party p (Begin q c) o = absurd (cc)
    party p (Go q h) o = sym (same-party p q o)
    party p (Answer q u) o = sym (same-party p q o)

-- the step of the party that has nothing to do is none
pub idle-none : (p : ℕ) (t : Step) (w : World) (ss : List (List Op)) (os : List Op) → os ≡ [] → is_onward_of p t ≡ true →
    part_refusal w ss os t ≡ None → ⊥
idle-none p (Begin q c) w ss os e o r = absurd (cc)
idle-none p (Go q h) w ss os e o r = let no : go_refusal w (top (let xs : List Op = [] in xs)) ≡ None =
    sym (ap (λ (xs : List Op). go_refusal w (top xs)) e) ∙ r in absurd (cc)
idle-none p (Answer q u) w ss os e o r = let no : answer_refusal (top (let xs : List Op = [] in xs)) u ≡ None =
    sym (ap (λ (xs : List Op). answer_refusal (top xs) u) e) ∙ r in absurd (cc)

-- no step follows the end
pub no-more : (p : ℕ) (ts : List Step) (s new : Machine) → stack s p ≡ [] → are_onward_of p ts ≡ true →
    run_all ts s ≡ Ok new → s ≡ new
no-more p [] s new e o r = cc
no-more p (t ∷ ts) s new e o r =
    let on : is_onward_of p t ≡ true = (left-true _ _ o).0 in
    absurd (idle-none p t s.world s.parties (stack s p) e on (of-party p s t on (run-first t ts s new r).0).2)

-- the machine after the step of p
pub after-is : (p : ℕ) (s : Machine) (t : Step) → party_of t ≡ p →
    after s t ≡ with_part s p (part_after s.world (stack s p) t)
after-is p s t e = ap (λ (q : ℕ). with_part s q (part_after s.world (stack s q) t)) e

pub stack-set : (p : ℕ) (s : Machine) (x : Part) → p < length s.parties → stack (with_part s p x) p ≡ x.todo
stack-set p s x l = get_or-set_same s.parties p x.todo [] l

module _ (p : ℕ) (r : Reply) (held : Hold) (f : ℕ) (xs : Mark → List ℕ) (before : Trace) (entry : (s : Machine) → Reached s →
    s.world.gone ≡ false → (meanwhile : Trace) → s.world.trace ≡ before ++ meanwhile →
    HasEntry f s.world meanwhile) where
  on-step : (t : Step) (w : World) (ss : List (List Op)) (os below : List Op) (o : Op) → is_onward_of p t ≡ true →
      os ≡ answering r held (below ++ o ∷ []) → part_refusal w ss os t ≡ None → (k : Going f xs before w below o) →
      HasEntry f w k.meanwhile → Arrives p r held f xs before (part_after w os t)
  on-step (Begin q c) w ss os below o on e n k h = absurd (cc)
  on-step (Go q t) w ss os below o on e n k h =
      subst (λ (i : ℕ). Arrives p r held f xs before (part_after w os (Go i t))) (same-party p q on)
      (on-go p r held f xs before w os below o t e n k h)
  on-step (Answer q u) w ss os below o on e n k h =
      subst (λ (i : ℕ). Arrives p r held f xs before (part_after w os (Answer i u))) (same-party p q on)
      (on-answer p r held f xs before w os below o u e n k)

  pub walks : (ts : List Step) (s new : Machine) (below : List Op) (o : Op) → Reached s →
      stack s p ≡ answering r held (below ++ o ∷ []) → Going f xs before s.world below o → are_onward_of p ts ≡ true →
      run_all ts s ≡ Ok new → stack new p ≡ [] → Ended p r f xs before new.world
  walks [] s new below o y e k on n z = let same : s ≡ new = cc in
      let no : answering r held (below ++ o ∷ []) ≡ [] = sym e
      ∙ (ap (λ (m : Machine). stack m p) same ∙ z) in absurd (cc)
  walks (t ∷ ts) s new below o y e k on n z =
      let both : _ = left-true (is_onward_of p t) (are_onward_of p ts) on in
      let first : _ = run-first t ts s new n in
      let mine : OfParty p s t = of-party p s t both.0 first.0 in
      go (λ next under x i a m q. walks ts next new under x i a m both.1 q z) mine.1
      (subst Reached (after-is p s t mine.0) (reached-step s t first.0 y))
      (sym (ap (λ (m : Machine). run_all ts m) (after-is p s t mine.0)) ∙ first.1) both.1
      (part_after s.world (stack s p) t) refl
      (on-step t s.world s.parties (stack s p) below o both.0 e mine.2 k (entry s y k.there k.meanwhile k.trace))
    where
      go : ((next : Machine) (under : List Op) (x : Op) → Reached next →
          stack next p ≡ answering r held (under ++ x ∷ []) →
          Going f xs before next.world under x → run_all ts next ≡ Ok new → Ended p r f xs before new.world) →
          p < length s.parties →
          Reached (with_part s p (part_after s.world (stack s p) t)) →
          run_all ts (with_part s p (part_after s.world (stack s p) t)) ≡ Ok new → are_onward_of p ts ≡ true →
          (x : Part) →
          part_after s.world (stack s p) t ≡ x → Arrives p r held f xs before x → Ended p r f xs before new.world
      go again l i q onward x v (going under next a m) =
          again (with_part s p x) under next (subst (λ (u : Part). Reached (with_part s p u)) v i) (stack-set p s x l
          ∙ a) m (ap (λ (u : Part). run_all ts (with_part s p u)) (sym v) ∙ q)
      go again l i q onward x v (ended a m) =
          subst (λ (n : Machine). Ended p r f xs before n.world) (no-more p ts (with_part s p x) new (stack-set p s x l
          ∙ a) onward (ap (λ (u : Part). run_all ts (with_part s p u)) (sym v) ∙ q)) m

-- the step of a party that has one thing to do, which isn't user code
pub record GoneOn (p : ℕ) (o : Op) (s new : Machine) : Type 0 where
  pub hint : Hint
  pub others : List Step
  pub onward : are_onward_of p others ≡ true
  pub reached : Reached (with_part s p (onto p (act p hint o s.world) []))
  pub made : run_all others (with_part s p (onto p (act p hint o s.world) [])) ≡ Ok new
  pub within : p < length s.parties

pub goes-on : (p : ℕ) (o : Op) (s new : Machine) → stack s p ≡ o ∷ [] → ((u : UserEnd) → accepts o u ≡ false) →
    Reached s →
    stack new p ≡ [] → (ts : List Step) → are_onward_of p ts ≡ true → run_all ts s ≡ Ok new → GoneOn p o s new
goes-on p o s new e a y z [] on n =
    let same : s ≡ new = cc in
    let no : o ∷ [] ≡ [] = sym e ∙ (ap (λ (m : Machine). stack m p) same ∙ z) in absurd (cc)
goes-on p o s new e a y z (Begin q c ∷ ts) on n = absurd (cc)
goes-on p o s new e a y z (Go q h ∷ ts) on n =
    let b : _ = left-true _ (are_onward_of p ts) on in
    let j : _ = run-first (Go q h) ts s new n in
    let m : OfParty p s (Go q h) = of-party p s (Go q h) b.0 j.0 in
    let gone : after s (Go q h) ≡ with_part s p (onto p (act p h o s.world) []) =
    after-is p s (Go q h) m.0 ∙ (ap (λ (os : List Op). with_part s p (part_after s.world os (Go q h))) e
    ∙ ap (λ (i : ℕ). with_part s p (part_after s.world (o ∷ []) (Go i h))) m.0) in
    record {
      hint = h;
      others = ts;
      onward = b.1;
      reached = subst Reached gone (reached-step s (Go q h) j.0 y);
      made = sym
          (ap (λ (x : Machine). run_all ts x) gone) ∙ j.1;
      within = m.1;
    }
goes-on p o s new e a y z (Answer q u ∷ ts) on n =
    let b : _ = left-true _ (are_onward_of p ts) on in
    let j : _ = run-first (Answer q u) ts s new n in
    let m : OfParty p s (Answer q u) = of-party p s (Answer q u) b.0 j.0 in
    let no : unless false WrongAnswer None ≡ None = sym (ap (λ (os : List Op). answer_refusal (top os) u) e
    ∙ ap (λ (x : Bool). unless x WrongAnswer None) (a u)) ∙ m.2 in absurd (cc)

-- how far a call is: p has this to do, and nothing else has happened; then it goes on by these steps to its end
pub record At (p : ℕ) (w : World) (os : List Op) (new : Machine) : Type 0 where
  pub machine : Machine
  pub reached : Reached machine
  pub world : machine.world ≡ w
  pub todo : stack machine p ≡ os
  pub others : List Step
  pub onward : are_onward_of p others ≡ true
  pub made : run_all others machine ≡ Ok new

pub record Next (p : ℕ) (o : Op) (w : World) (new : Machine) : Type 0 where
  pub hint : Hint
  pub at : At p (onto p (act p hint o w) []).world (onto p (act p hint o w) []).todo new

-- the one thing that it has to do is done
pub next : (p : ℕ) (o : Op) (w : World) (new : Machine) → ((u : UserEnd) → accepts o u ≡ false) → stack new p ≡ [] →
    At p w (o ∷ []) new → Next p o w new
next p o w new a z x = by (goes-on p o x.machine new x.todo a x.reached z x.others x.onward x.made)
  where
    by : GoneOn p o x.machine new → Next p o w new
    by g = record {
      hint = g.hint;
      at = record {
        machine = with_part x.machine p (onto p (act p g.hint o x.machine.world) []);
        reached = g.reached;
        world = ap (λ (v : World). (onto p (act p g.hint o v) []).world) x.world;
        todo = stack-set p x.machine (onto p (act p g.hint o x.machine.world) []) g.within
            ∙ ap (λ (v : World). (onto p (act p g.hint o v) []).todo) x.world;
        others = g.others;
        onward = g.onward;
        made = g.made;
      };
    }
