-- What ticks and runs reach in the words of the headline is what they reach in those of the laws.
use Rattle.std.proofs.Common.{◌≡◌, ◌==◌, ℕ, zero, suc, ◌+◌, ◌≤◌, List, [], ◌∷◌, ◌++◌, length, map, true, false, ◌&&◌, refl, sym, ap, ◌∙◌, subst}
use Rattle.std.proofs.Common.{arith, Bool}
use Rattle.std.proofs.lemmas.List.{length-map}
use Rattle.std.proofs.lemmas.Bool.Decides.{nat_tests}
use Rattle.std.specs.List.{list_any}
use Rattle.executor_model.specs.declared.call.Call.{Call}
use Rattle.executor_model.specs.declared.call.Call.TheVariants as call
use Rattle.executor_model.specs.declared.call.Reply.{Reply}
use Rattle.executor_model.specs.declared.step.Step.{Step}
use Rattle.executor_model.specs.declared.step.Step.TheVariants.{Begin}
use Rattle.executor_model.specs.Sound.{times}
use Rattle.executor_model.specs.Steps.{Machine, run}
use Rattle.executor_model.specs.Trace.{Trace}
use Rattle.executor_model.specs.Weights.{same}
use Rattle.executor_model.proofs.Steps.Reached.{run-of}
use Rattle.executor_laws.specs.KeptFirst
use Rattle.executor_laws.specs.Reach
use Rattle.executor_laws.specs.RunPolls
use Rattle.executor_laws.specs.RunReach
use Rattle.executor_core.specs.Headline as headline
use Rattle.executor_core.proofs.Restated.Lone.{alone, is-lone, is-poll, polled, resting}
use Rattle.executor_core.proofs.Restated.Words.{common-of, is-common, keeps, kept-of}

-- what a list has stands there once at least

counted : (f : ℕ) (fs : List ℕ) → headline.lists fs f ≡ true → 1 ≤ times f fs
unfolding same
counted f [] h = absurd (cc)
counted f (g ∷ fs) h = let r = counted f fs in grind (arith, nat_tests, r, h)

listed : (f : ℕ) (fs : List ℕ) → 1 ≤ times f fs → headline.lists fs f ≡ true
unfolding same
listed f [] h = absurd (omega (arith, h))
listed f (g ∷ fs) h = let r = listed f fs in grind (arith, nat_tests, r, h)

-- ticks

pub record Searches (n : ℕ) (s new : Machine) : Type 0 where
  pub searches : List Reach.LoneSearch
  pub many : length searches ≡ n
  pub are : Reach.AreLoneSearches searches s new

searched : (n : ℕ) (s new : Machine) → headline.AreSearches n s new → Searches n s new
searched zero s new e = record { searches = []; many = refl; are = e }
searched (suc n) s new (next, one, more) =
    let r = searched n next new more in
    record {
      searches = record { party = one.party; call = one.call; found = one.found; searches = one.searches; steps = one.steps } ∷ r.searches;
      many = ap suc r.many;
      are = (next, alone _ _ _ s next one.lone, r.are);
    }

abbrev coming : ℕ × ℕ → Reach.Coming
coming c = record { future = c.0; place = c.1 }

same-comings : (f place : ℕ) (cs : List (ℕ × ℕ)) →
    list_any (λ (c : ℕ × ℕ). c.0 == f && c.1 == place) cs ≡ list_any (Reach.is_coming f place) (map coming cs)
same-comings f place [] = refl
same-comings f place (c ∷ cs) = let r = same-comings f place cs in rw r refl

pub in-reach : (s : Machine) → Reach.IsInReach s → headline.IsAtRest s.world.trace → headline.IsInReach s
in-reach s law q = record {
  each = λ f c p k r e ts new l.
      let it = law.each (resting s q) f (common-of f _ c) p k r e ts new (alone p k ts s new l) in
      record {
        future = it.future;
        common = is-common _ _ it.common;
        meanwhile = it.meanwhile;
        events = it.events;
        taken = it.taken;
      };
  all = λ commons has n new are comings each enough f c.
      let l = searched n s new are in
      law.all (resting s q) commons (λ g d. counted g commons (has g (is-common g _ d))) l.searches new l.are (map coming comings)
      (λ g place m b. sym (same-comings g place comings) ∙
      each g place m b.within (λ d. b.before (common-of g _ d)) (is-common g _ b.after))
      (let a = length-map comings coming in let b = l.many in omega (arith, a, b, enough)) f (common-of f _ c);
  can_try = λ p m. let it = law.can (resting s q) p m in (it.0, it.1, is-lone p _ _ s _ it.2);
  can_poll = λ p m t x v. let it = law.polls (resting s q) p m t x v in (it.0, it.1, is-lone p _ _ s _ it.2);
}

-- runs

pub record Polls (r n : ℕ) (taken : List ℕ) (s new : Machine) : Type 0 where
  pub polls : List RunReach.LoneRunPoll
  pub many : length polls ≡ n
  pub are : RunReach.AreLonePolls r polls s new
  pub taken_in : taken ≡ KeptFirst.taken_in r polls s

polls-of : (r n : ℕ) (taken : List ℕ) (s new : Machine) → headline.ArePolls r n taken s new → Polls r n taken s new
polls-of r zero taken s new (none, e) = record { polls = []; many = refl; are = e; taken_in = none }
polls-of r (suc n) taken s new (p, b, ts, next, later, one, e, more) =
    let l = polls-of r n later next new more in
    let here = run-of (Begin p (call.PollRun r b) ∷ ts) s next one.lone.made in
    record {
      polls = record { party = p; by = b; steps = ts } ∷ l.polls;
      many = ap suc l.many;
      are = (next, polled r p b ts s next one, l.are);
      taken_in = e ∙ ap (λ xs. headline.taken_up p (Begin p (call.PollRun r b) ∷ ts) s ++ xs)
          (l.taken_in ∙ ap (KeptFirst.taken_in r l.polls) (sym here));
    }

pub record KeptLaws (s : Machine) : Type 0 where
  pub by_runs : RunReach.IsReachedByRuns s
  pub reached : RunReach.IsKeptReached s
  pub first : KeptFirst.TakesKeptFirst s
  pub can : RunPolls.KeepersCanBePolled s
  pub left : RunReach.LeavesCommon s

pub kept-in-reach : (r : ℕ) (s : Machine) → KeptLaws s → headline.IsAtRest s.world.trace → headline.IsKeptInReach r s
kept-in-reach r s law q = record {
  each = λ f k p b ts new l.
      let it = law.by_runs.kept (resting s q) r f (kept-of r f _ k) p b ts new (polled r p b ts s new l) in
      (it.future, keeps r _ _ it.kept, it.taken);
  all = λ fs has n taken new are enough f k.
      let l = polls-of r n taken s new are in
      law.reached (resting s q) r fs (λ g d. counted g fs (has g (keeps r g _ d))) l.polls new l.are
      (let m = l.many in omega (arith, m, enough)) f (kept-of r f _ k);
  first = λ n taken new are f g k no before after e.
      let l = polls-of r n taken s new are in
      listed f before ((law.first (resting s q) r l.polls new l.are).first f g (kept-of r f _ k)
      (λ d. no (keeps r g _ d)) before after (sym l.taken_in ∙ e));
  can = λ f k p x m.
      let it = law.can (resting s q) r f (kept-of r f _ k) p x m in (it.0, it.1, is-poll r p _ _ s _ it.2);
  left = λ f k p ts new l. is-common f _ (law.left (resting s q) r f (kept-of r f _ k) p ts new (alone p _ ts s new l));
}
