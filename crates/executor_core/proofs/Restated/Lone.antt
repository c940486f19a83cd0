-- A lone call of the headline is one of the laws.
use Rattle.std.proofs.Common.{◌≡◌, ◌==◌, ℕ, List, [], ◌∷◌, true, false, refl, sym, ap, ◌∙◌, arith, ◌&&◌}
use Rattle.std.specs.List.{list_all}
use Rattle.executor_model.specs.declared.call.By.{By}
use Rattle.executor_model.specs.declared.call.Call.{Call}
use Rattle.executor_model.specs.declared.step.Step.{Step}
use Rattle.executor_model.specs.declared.step.Step.TheVariants.{Begin, Go, Answer}
use Rattle.executor_model.specs.Emptiness
use Rattle.executor_model.specs.Steps.{Machine}
use Rattle.executor_laws.specs.LoneEnds
use Rattle.executor_laws.specs.RunReach
use Rattle.executor_core.specs.Headline as headline

pub resting : (s : Machine) → headline.IsAtRest s.world.trace → Emptiness.IsAtRest s
resting s r = record { quiet = r.quiet; there = r.there }

same-onward : (p : ℕ) (ts : List Step) → list_all (headline.goes_on p) ts ≡ LoneEnds.are_onward_of p ts
same-onward p [] = refl
same-onward p (Begin q c ∷ ts) = refl
same-onward p (Go q h ∷ ts) = ap (λ b. (p == q) && b) (same-onward p ts)
same-onward p (Answer q e ∷ ts) = ap (λ b. (p == q) && b) (same-onward p ts)

pub alone : (p : ℕ) (c : Call) (ts : List Step) (s new : Machine) → headline.IsLoneCall p c ts s new → LoneEnds.IsLoneCall p c ts s new
alone p c ts s new l = record { made = l.made; alone = sym (same-onward p ts) ∙ l.alone; ended = l.ended }

pub is-lone : (p : ℕ) (c : Call) (ts : List Step) (s new : Machine) → LoneEnds.IsLoneCall p c ts s new → headline.IsLoneCall p c ts s new
is-lone p c ts s new l = record { made = l.made; alone = same-onward p ts ∙ l.alone; ended = l.ended }

pub polled : (r p : ℕ) (b : By) (ts : List Step) (s new : Machine) → headline.IsLonePoll r p b ts s new →
    RunReach.IsLonePoll p r b ts s new
polled r p b ts s new l = record { call = alone p _ ts s new l.lone; pending = l.pending }

pub is-poll : (r p : ℕ) (b : By) (ts : List Step) (s new : Machine) → RunReach.IsLonePoll p r b ts s new →
    headline.IsLonePoll r p b ts s new
is-poll r p b ts s new l = record { lone = is-lone p _ ts s new l.call; pending = l.pending }
