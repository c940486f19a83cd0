-- Acts from a new machine on, up to the executor's drop and behind it.
use Rattle.std.proofs.Common.{◌≡◌, ℕ, List, [], ◌∷◌, refl, sym, ap, subst, ◌∙◌}
use Rattle.std.specs.Prelude.{reverse}
use Rattle.executor_model.specs.declared.op.Op.{Op}
use Rattle.executor_model.specs.declared.kind.Kind.{Kind}
use Rattle.executor_model.specs.Quiet.{IsQuiet}
use Rattle.executor_model.specs.Steps.{Machine, is_static_kind, stack, start}
use Rattle.executor_model.specs.World.{Done, done}
use Rattle.executor_model.proofs.Quiet.Resting.{rests}
use Rattle.executor_model.proofs.Steps.Reached.{Reached, deep-here, reached-more}
use Rattle.plain_scheduler.specs.State.{Code, Plain}
use Rattle.plain_scheduler.specs.Calls.{new}
use Rattle.machine_roads.specs.View.{Output}
use Rattle.executor_model.specs.declared.op.Waker.{Waker}
use Rattle.machine_roads.specs.Road.{Follows}
use Rattle.machine_roads.specs.Dropped.{answered, loses}
use Rattle.machine_roads.specs.Within.{Act, ActAlike, AreActs, Nested, StandsAlike, alike, dropping, forgetting, forgotten, going, losing}
use Rattle.machine_roads.specs.Within.{nowhere}
use Rattle.machine_roads.specs.Within.{untaken}
use Rattle.machine_roads.specs.Within.{standing}
use Rattle.machine_roads.specs.DropActs.{ListsActToTheEnd, left_by, plain_behind}
use Rattle.machine_roads.proofs.Acts.{acts_alike}
use Rattle.machine_roads.proofs.Calling.{begin_alike}
use Rattle.machine_roads.proofs.DropActs.{drop_acts_so}
use Rattle.machine_roads.proofs.Inmost.{Inmost, inmost, none as in_none}

-- where nothing is left to do the plain scheduler stands in no code
nowhere_by : (os : List Op) (codes : List (Code Output Waker)) → Inmost os codes → os ≡ [] → codes ≡ []
nowhere_by os codes in_none is = refl
nowhere_by os codes more is = absurd cc

nested_nowhere : (os : List Op) (codes : List (Code Output Waker)) → Nested os codes → os ≡ [] → codes ≡ []
nested_nowhere os codes nested is = nowhere_by os codes (inmost os codes nested) is

filled : {B : Type 0} {o : B} {os : List B} → o ∷ os ≡ [] → ⊥
filled is = cc

-- both stand alike there
pub record AtRest (s : Machine) (q : Plain Output Waker) : Type 0 where
  pub reached : Reached s
  pub follows : Follows s.world q
  pub inside : q.inside ≡ []

rests_alike : (e : Done) (q : Plain Output Waker) → StandsAlike e q → e.next ≡ [] → Follows e.world q × (q.inside ≡ [])
rests_alike e q (alike nested follows) is = (follows, nested_nowhere e.next q.inside nested is)
rests_alike e q (losing f fs below codes nested stops) is = absurd (filled (sym stops.left ∙ is))
rests_alike e q (going r [] below codes nested stops) is = absurd (filled (sym stops.left ∙ is))
rests_alike e q (going r (f ∷ fs) below codes nested stops) is = absurd (filled (sym stops.left ∙ is))
rests_alike e q (dropping taker final below f b it nested (answered next inside follows)) is =
    (follows, inside ∙ nested_nowhere below b.inside nested (sym next ∙ is))
rests_alike e q (dropping taker final below f b it nested (loses awaiter next inside ending)) is = absurd (filled (sym next ∙ is))
rests_alike e q (untaken taker final below f awaiter g gs codes it nested stops) is = absurd (filled (sym stops.left ∙ is))
rests_alike e q (forgetting taker final below f b it nested stops) is = absurd (filled (sym stops.left ∙ is))
rests_alike e q (forgotten taker final below f g gs codes it nested stops) is = absurd (filled (sym stops.left ∙ is))

at_rest : (acts : List Act) (s : Machine) → Reached s → (p : ℕ) (q : Plain Output Waker) → StandsAlike (standing s p) q
    → AreActs s acts → (all : ActAlike s q acts) → IsQuiet (left_by s acts).world.trace
    → AtRest (left_by s acts) (plain_behind acts s q all)
at_rest [] s reached p q so are all quiet =
    let none : reverse (stack s p) ≡ [] = ap (λ (xs : List Op). reverse xs) (rests s (deep-here s reached) quiet p) in
    let e = rests_alike (standing s p) q so none in
    record { reached = reached; follows = e.0; inside = e.1 }
at_rest (a ∷ acts) s reached p q so are all quiet =
    at_rest acts a.left (reached-more (a.first ∷ a.steps) s a.left reached are.0.made) a.party all.0 all.2 are.2 all.3 quiet

-- from a new machine on
module _ (limit : ℕ) (kind : Kind) (parties : ℕ) (acts : List Act) (are : AreActs (start limit kind parties) acts)
    (quiet : IsQuiet (left_by (start limit kind parties) acts).world.trace)
    (all : ActAlike (start limit kind parties) (new limit (is_static_kind kind)) acts) where
  pub at_rest_behind : AtRest (left_by (start limit kind parties) acts)
      (plain_behind acts (start limit kind parties) (new limit (is_static_kind kind)) all)
  at_rest_behind =
      let s = start limit kind parties in
      let q : Plain Output Waker = new limit (is_static_kind kind) in
      let reached : Reached s = record { limit = limit; kind = kind; parties = parties; steps = []; is = refl } in
      let none = rests s (deep-here s reached) (λ party. refl) 0 in
      let begin : StandsAlike (standing s 0) q =
      subst (λ xs. StandsAlike (done s.world (reverse xs)) q) (sym none) (alike nowhere (begin_alike limit kind parties)) in
      at_rest acts s reached 0 q begin are all quiet

  -- once no call is in progress any more
  pub nowhere_behind : (plain_behind acts (start limit kind parties) (new limit (is_static_kind kind)) all).inside ≡ []
  nowhere_behind = at_rest_behind.inside

pub acts_to_the_end : ListsActToTheEnd
acts_to_the_end limit kind parties acts are quiet =
    let s = start limit kind parties in
    let q : Plain Output Waker = new limit (is_static_kind kind) in
    let all = acts_alike limit kind parties acts are in
    let e = at_rest_behind limit kind parties acts are quiet all in
    (all, drop_acts_so (left_by s acts) e.reached (plain_behind acts s q all) quiet e.follows)
