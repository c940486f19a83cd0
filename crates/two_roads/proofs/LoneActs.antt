-- A list of lone calls is one of acts.
use Rattle.std.proofs.Common.{◌≡◌, ℕ, ◌&&◌, not, Bool, true, false, List, [], ◌∷◌, ◌++◌, Option, None, Ok, refl, sym, ap, subst, ◌∙◌}
use Rattle.std.specs.Prelude.{reverse}
use Rattle.executor_model.specs.declared.call.Call.{Call}
use Rattle.executor_model.specs.declared.op.Op.{Op}
use Rattle.executor_model.specs.declared.op.Op.TheVariants as op
use Rattle.executor_model.specs.declared.op.UserOp.TheVariants as user_op
use Rattle.executor_model.specs.declared.op.Waker.{Waker}
use Rattle.executor_model.specs.declared.step.Step.{Step}
use Rattle.executor_model.specs.declared.step.Step.TheVariants.{Answer, Begin, Go}
use Rattle.executor_model.specs.declared.step.StepError.TheVariants.{NoSuch, WrongAnswer}
use Rattle.executor_model.specs.declared.step.UserEnd.{UserEnd}
use Rattle.executor_model.specs.Executions.{run_all}
use Rattle.executor_model.specs.Quiet.{IsQuiet}
use Rattle.executor_model.specs.Steps.{Machine, accepts, after, answer_refusal, part_refusal, party_of, refusal, stack, top, waits}
use Rattle.executor_model.specs.World.{World}
use Rattle.executor_model.proofs.Quiet.Resting.{rests}
use Rattle.executor_model.proofs.Steps.Reached.{Reached, deep-here, reached-more, run-first, run-then}
use Rattle.executor_laws.specs.LoneEnds.{IsLoneCall, are_onward_of, is_onward_of}
use Rattle.executor_laws.proofs.Termination.LoneEnds.{OthersRest, still-rest}
use Rattle.plain_scheduler.specs.Calls as plain
use Rattle.machine_roads.specs.Alone.{is_outside, is_resting}
use Rattle.machine_roads.specs.Course.{AreLone, Lone}
use Rattle.machine_roads.specs.DropActs.{AreDropActs, left_by as left_by_acts}
use Rattle.machine_roads.specs.View.{Output}
use Rattle.machine_roads.specs.Within.{Act, AreActs, IsAct, IsCallIn, IsMade, begins, calls_outside, goes_on, is_on_way, may_stand_in}
use Rattle.machine_roads.specs.Within.{rests_after}
use Rattle.machine_roads.specs.Within as within
use Rattle.machine_roads.proofs.Lists.{same_of}
use Rattle.machine_roads.proofs.LoneRuns.{both_true, made_is, passed}
use Rattle.machine_roads.proofs.LoneTicks.{unrefused}
use Rattle.machine_roads.proofs.Tying.{top_of}
use Rattle.two_roads.specs.Acting.{left_of}
use Rattle.two_roads.specs.LoneActs.{Cut, acts_of, cut, cut_by, cut_of, first_act}
use Rattle.two_roads.specs.Together.{left_by}

-- the step is of this party, and no call begins in it
its_step : (p : ℕ) (t : Step) → is_onward_of p t ≡ true → party_of t ≡ p
its_step p (Begin q c) on = absurd cc
its_step p (Go q h) on = sym (same_of p q on)
its_step p (Answer q e) on = sym (same_of p q on)

on_way : (p : ℕ) (t : Step) (os : List Op) → is_onward_of p t ≡ true → is_on_way os t ≡ true
on_way p (Begin q c) os on = absurd cc
on_way p (Go q h) os on = refl
on_way p (Answer q e) os on = refl

-- who answers where the party doesn't rest is a waker from outside
answers_outside : (o : Op) (e : UserEnd) → accepts o e ≡ true → (waits o && not (is_outside o)) ≡ false → is_outside o ≡ true
answers_outside (op.User (user_op.Poll f)) e takes rests_not = absurd cc
answers_outside (op.User (user_op.Drop f)) e takes rests_not = absurd cc
answers_outside (op.User (user_op.DropOutput f)) e takes rests_not = absurd cc
answers_outside (op.User (user_op.CallOutside x)) e takes rests_not = refl
answers_outside (op.User (user_op.PollOwn x)) e takes rests_not = absurd cc
answers_outside (op.User (user_op.DropOwn r)) e takes rests_not = absurd cc
answers_outside o e takes rests_not = absurd cc

onward : (p : ℕ) (t : Step) (s : Machine) → is_onward_of p t ≡ true → refusal s t ≡ None → is_resting (reverse (stack s p)) ≡ false
    → goes_on p s t ≡ true
onward p (Begin q c) s on may rests_not = absurd cc
onward p (Go q h) s on may rests_not = on
onward p (Answer q e) s on may rests_not =
    ap (λ b. b && calls_outside (top (stack s p))) on ∙ by (reverse (stack s p)) refl rests_not
  where
    taken : answer_refusal (top (stack s p)) e ≡ None
    taken =
        subst (λ n. answer_refusal (top (stack s n)) e ≡ None) (sym (same_of p q on))
        (unrefused _ NoSuch (part_refusal s.world s.parties (stack s q) (Answer q e)) may)

    by : (os : List Op) → reverse (stack s p) ≡ os → is_resting os ≡ false → calls_outside (top (stack s p)) ≡ true
    by [] is rests_not = absurd cc
    by (o ∷ os) is rests_not =
        let at = (top_of (stack s p) o os is).0 in
        ap (λ x. calls_outside x) at
        ∙ answers_outside o e (passed (accepts o e) WrongAnswer None (subst (λ x. answer_refusal x e ≡ None) at taken)) rests_not

record IsCut (p : ℕ) (s new : Machine) (c : Cut) : Type 0 where
  pub made : run_all c.own s ≡ Ok c.left
  pub rest : rests_after p c.own s ≡ true
  pub are : AreActs c.left c.later
  pub behind : left_of c.left c.later ≡ new

module _ (p : ℕ) (new : Machine) (ends : stack new p ≡ []) where
  cuts : (ts : List Step) (s : Machine) → OthersRest p s → are_onward_of p ts ≡ true → run_all ts s ≡ Ok new → IsCut p s new (cut p ts s)
  cuts [] s others on made =
      let same = made_is s new made in
      record {
        made = refl;
        rest = ap (λ os. is_resting (reverse os)) (ap (λ m. stack m p) same ∙ ends);
        are = tt;
        behind = same;
      }
  cuts (t ∷ ts) s others on made =
      let ons = both_true (is_onward_of p t) (are_onward_of p ts) on in
      let two = run-first t ts s new made in
      by (is_resting (reverse (stack s p))) refl ons.0 two.0
      (cuts ts (after s t) (still-rest p s t (its_step p t ons.0) others) ons.1 two.1)
    where
      by : (b : Bool) → is_resting (reverse (stack s p)) ≡ b → is_onward_of p t ≡ true → refusal s t ≡ None
          → IsCut p (after s t) new (cut p ts (after s t)) → IsCut p s new (cut_by b p t s (cut p ts (after s t)))
      by true is on may more = record {
        made = refl;
        rest = is;
        are = (
          record {
            others = others;
            its = its_step p t on;
            made = run-then t (cut p ts (after s t)).own s (cut p ts (after s t)).left may more.made;
            rests = more.rest;
          },
          on_way p t (reverse (stack s p)) on,
          more.are,
        );
        behind = more.behind;
      }
      by false is on may more = record {
        made = run-then t (cut p ts (after s t)).own s (cut p ts (after s t)).left may more.made;
        rest =
            ap (λ b. b && rests_after p (cut p ts (after s t)).own (after s t)) (onward p t s on may is)
            ∙ more.rest;
        are = more.are;
        behind = more.behind;
      }

-- a lone call from a machine at rest on
module _ (s : Machine) (reached : Reached s) (quiet : IsQuiet s.world.trace) (l : Lone)
    (lone : IsLoneCall l.party l.call l.steps s l.left) where
  empty : (q : ℕ) → stack s q ≡ []
  empty q = rests s (deep-here s reached) quiet q

  pub reached_left : Reached l.left
  reached_left = reached-more (Begin l.party l.call ∷ l.steps) s l.left reached lone.made

  first_made : (refusal s (Begin l.party l.call) ≡ None) × (run_all l.steps (after s (Begin l.party l.call)) ≡ Ok l.left)
  first_made = run-first (Begin l.party l.call) l.steps s l.left lone.made

  is_cut : IsCut l.party (after s (Begin l.party l.call)) l.left (cut_of s l)
  is_cut =
      cuts l.party l.left (rests l.left (deep-here l.left reached_left) lone.ended l.party) l.steps (after s (Begin l.party l.call))
      (still-rest l.party s (Begin l.party l.call) refl (λ q apart. empty q)) lone.alone first_made.1

  pub lone_act : IsAct s (first_act s l)
  lone_act = record {
    others = λ q apart. empty q;
    its = refl;
    made = run-then (Begin l.party l.call) (cut_of s l).own s (cut_of s l).left first_made.0 is_cut.made;
    rests = is_cut.rest;
  }

  -- all but the executor's drop
  lone_on_way : may_stand_in l.call ≡ true → is_on_way (reverse (stack s l.party)) (Begin l.party l.call) ≡ true
  lone_on_way may =
      ap (λ os. is_on_way (reverse os) (Begin l.party l.call)) (empty l.party)
      ∙ ap (λ b. b && true) may

pub are_both : (xs ys : List Act) (s : Machine) → AreActs s xs → AreActs (left_of s xs) ys → AreActs s (xs ++ ys)
are_both [] ys s one two = two
are_both (x ∷ xs) ys s one two = (one.0, one.1, are_both xs ys x.left one.2 two)

pub left_of_both : (xs ys : List Act) (s : Machine) → left_of s (xs ++ ys) ≡ left_of (left_of s xs) ys
left_of_both [] ys s = refl
left_of_both (x ∷ xs) ys s = left_of_both xs ys x.left

-- each act is a call, or the end of code
abbrev pub AllMade : Machine → List Act → Type 0
AllMade s [] = Unit {0}
AllMade s (a ∷ acts) = ((made : plain.Call Output Waker) × IsMade s a.party a.first made) × AllMade a.left acts

made_behind : (xs ys : List Act) (s : Machine) → AllMade s (xs ++ ys) → AllMade (left_of s xs) ys
made_behind [] ys s all = all
made_behind (x ∷ xs) ys s all = made_behind xs ys x.left all.1

-- the executor's drop isn't one
stands_in : (s : Machine) (p q : ℕ) (c : Call) (made : plain.Call Output Waker) → IsMade s p (Begin q c) made → may_stand_in c ≡ true
stands_in s p q c made (begins c' x is) = by is
  where
    by : {here : Option Waker} {w : World} {c : Call} {x : plain.Call Output Waker} → IsCallIn here w c x → may_stand_in c ≡ true
    by (within.spawn m) = refl
    by within.try_tick = refl
    by within.is_empty = refl
    by (within.use_waker k f is) = refl
    by (within.wake k f is) = refl
    by (within.copy k f is) = refl
    by (within.release k f is) = refl
    by (within.keep f is) = refl
    by (within.wake_self f is) = refl
    by (within.poll_handle f b) = refl
    by (within.cancel f) = refl
    by (within.detach f) = refl
    by (within.drop_handle f) = refl
    by within.new_tick = refl
    by (within.poll_tick t b) = refl
    by (within.drop_tick t) = refl
    by within.new_run = refl
    by (within.poll_run r b) = refl
    by (within.drop_run r) = refl
    by within.leak = refl

-- a list of them
pub record AreOfLone (s : Machine) (ls : List Lone) : Type 0 where
  pub are : AreActs s (acts_of s ls)
  pub left : left_of s (acts_of s ls) ≡ left_by s ls
  pub reached : Reached (left_by s ls)
  pub quiet : IsQuiet (left_by s ls).world.trace

pub lone_acts : (ls : List Lone) (s : Machine) → Reached s → IsQuiet s.world.trace → AreLone s ls → AllMade s (acts_of s ls)
    → AreOfLone s ls
lone_acts [] s reached quiet lone made = record { are = tt; left = refl; reached = reached; quiet = quiet }
lone_acts (l ∷ ls) s reached quiet lone made =
    let c = is_cut s reached quiet l lone.0 in
    let later = (cut_of s l).later in
    let rest =
    lone_acts ls l.left (reached_left s reached quiet l lone.0) lone.0.ended lone.1
    (subst (λ m. AllMade m (acts_of l.left ls)) c.behind (made_behind later (acts_of l.left ls) (cut_of s l).left made.1)) in
    record {
      are = (
        lone_act s reached quiet l lone.0,
        lone_on_way s reached quiet l lone.0 (stands_in s l.party l.party l.call made.0.0 made.0.1),
        are_both later (acts_of l.left ls) (cut_of s l).left c.are (subst (λ m. AreActs m (acts_of l.left ls)) (sym c.behind) rest.are),
      );
      left =
          left_of_both later (acts_of l.left ls) (cut_of s l).left
          ∙ (ap (λ m. left_of m (acts_of l.left ls)) c.behind ∙ rest.left);
      reached = rest.reached;
      quiet = rest.quiet;
    }

-- both words for where acts lead say the same
pub left_same : (acts : List Act) (s : Machine) → left_by_acts s acts ≡ left_of s acts
left_same [] s = refl
left_same (a ∷ acts) s = left_same acts a.left

-- from the executor's drop on whatever calls these are
drops_in : (acts : List Act) (s : Machine) → AreActs s acts → AreDropActs s acts
drops_in [] s are = tt
drops_in (a ∷ acts) s are = (are.0, drops_in acts a.left are.2)

drops_both : (xs ys : List Act) (s : Machine) → AreDropActs s xs → AreDropActs (left_of s xs) ys → AreDropActs s (xs ++ ys)
drops_both [] ys s one two = two
drops_both (x ∷ xs) ys s one two = (one.0, drops_both xs ys x.left one.1 two)

pub record AreDropsOfLone (s t : Machine) (acts : List Act) (ls : List Lone) : Type 0 where
  pub are : AreDropActs s acts
  pub left : left_of s acts ≡ left_by t ls
  pub quiet : IsQuiet (left_by t ls).world.trace

-- behind the begin of the first
behind_by : (l : Lone) (ls : List Lone) (s : Machine) → Reached s → IsQuiet s.world.trace → IsLoneCall l.party l.call l.steps s l.left
    → AreDropsOfLone l.left l.left (acts_of l.left ls) ls
    → AreDropsOfLone (cut_of s l).left l.left ((cut_of s l).later ++ acts_of l.left ls) ls
behind_by l ls s reached quiet lone rest =
    let c = is_cut s reached quiet l lone in
    let later = (cut_of s l).later in
    record {
      are =
          drops_both later (acts_of l.left ls) (cut_of s l).left (drops_in later (cut_of s l).left c.are)
          (subst (λ m. AreDropActs m (acts_of l.left ls)) (sym c.behind) rest.are);
      left =
          left_of_both later (acts_of l.left ls) (cut_of s l).left
          ∙ (ap (λ m. left_of m (acts_of l.left ls)) c.behind ∙ rest.left);
      quiet = rest.quiet;
    }

lone_drop_acts : (ls : List Lone) (s : Machine) → Reached s → IsQuiet s.world.trace → AreLone s ls → AreDropsOfLone s s (acts_of s ls) ls
lone_drop_acts [] s reached quiet lone = record { are = tt; left = refl; quiet = quiet }
lone_drop_acts (l ∷ ls) s reached quiet lone =
    let rest =
    behind_by l ls s reached quiet lone.0
    (lone_drop_acts ls l.left (reached_left s reached quiet l lone.0) lone.0.ended lone.1) in
    record { are = (lone_act s reached quiet l lone.0, rest.are); left = rest.left; quiet = rest.quiet }

pub lone_behind : (l : Lone) (ls : List Lone) (s : Machine) → Reached s → IsQuiet s.world.trace → AreLone s (l ∷ ls)
    → AreDropsOfLone (cut_of s l).left l.left ((cut_of s l).later ++ acts_of l.left ls) ls
lone_behind l ls s reached quiet lone =
    behind_by l ls s reached quiet lone.0
    (lone_drop_acts ls l.left (reached_left s reached quiet l lone.0) lone.0.ended lone.1)
