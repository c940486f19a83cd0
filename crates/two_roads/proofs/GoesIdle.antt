-- In acts of the machine no run goes while it is polled: one call at a time uses a run.
use Rattle.std.proofs.Common.{◌≡◌, ℕ, ◌+◌, ◌<◌, ◌≤◌, ◌==◌, cond, not, nat_lt, Bool, true, false, List, [], ◌∷◌, length}
use Rattle.std.proofs.Common.{refl, sym, ap, subst, ◌∙◌, arith}
use Rattle.std.proofs.lemmas.Bool.Decides.{nat_tests}
use Rattle.std.specs.Prelude.{reverse}
use Rattle.executor_model.specs.declared.kind.Kind.{Kind}
use Rattle.executor_model.specs.declared.op.Op.{Op}
use Rattle.executor_model.specs.declared.op.Op.TheVariants as op
use Rattle.executor_model.specs.declared.op.UserOp.TheVariants as user_op
use Rattle.executor_model.specs.declared.op.Waker.{Waker}
use Rattle.executor_model.specs.declared.step.StepError.TheVariants.{NoSuch}
use Rattle.executor_model.specs.Rows.{running_of}
use Rattle.executor_model.specs.Steps.{Machine, after as after_step, is_static_kind, part_refusal, party_of, stack, start}
use Rattle.executor_model.specs.Weights.{same, weigh}
use Rattle.executor_model.specs.World.{Done, done}
use Rattle.executor_model.proofs.Quiet.Resting.{rests}
use Rattle.executor_model.proofs.Steps.Lists.{same_is}
use Rattle.executor_model.proofs.Steps.Reached.{Reached, deep-here, reached-more, run-first}
use Rattle.executor_laws.proofs.Termination.LoneEnds.{OthersRest, still-rest}
use Rattle.plain_scheduler.specs.State.{Code, Plain, Taker}
use Rattle.plain_scheduler.specs.Lists.{any}
use Rattle.plain_scheduler.specs.Calls as calls
use Rattle.plain_scheduler.specs.Calls.{Call, new}
use Rattle.plain_laws.specs.Order.{all_go_idle, goes_idle, is_of_run, is_taker}
use Rattle.plain_laws.proofs.Words.{both_so}
use Rattle.machine_roads.specs.View.{Output, wakes}
use Rattle.machine_roads.specs.Dropped.{answered as drop_answered, loses}
use Rattle.machine_roads.specs.Stopped.{Stopped, answered, drops, drops_given, drops_polled, polls}
use Rattle.machine_roads.specs.Within.{Act, ActAlike, AreActs, GoesOnBy, IsLeaving, Nested, StandsAlike, alike, by_run, by_tick, by_try}
use Rattle.machine_roads.specs.Within.{dropping, drops_own, forgetting, forgotten, going, listed, losing, nowhere, polls_own, standing}
use Rattle.machine_roads.specs.Within.{takes, unlisted, untaken}
use Rattle.machine_roads.proofs.Acts.{goes_rest, taken_over}
use Rattle.machine_roads.proofs.Calling.{begin_alike}
use Rattle.machine_roads.proofs.LoneRuns.{passed, within}
use Rattle.machine_roads.proofs.RunHere.{used_once}
use Rattle.two_roads.specs.Acting.{acts_by}

-- who is polled uses the run
module _ (k : ℕ) where
  its_one : (r : ℕ) → (k == r) ≡ true → 1 ≤ same k r
  its_one r is = grind (arith, is, same_is, nat_tests)

  final_uses : (taker : Taker Waker) (final : Op) → GoesOnBy taker final → is_taker k taker ≡ true → 1 ≤ running_of k final
  final_uses taker final by_try is = absurd cc
  final_uses taker final (by_tick t a) is = absurd cc
  final_uses taker final (by_run x true) is = its_one x.run is
  final_uses taker final (by_run x false) is = its_one x.run is

  nested_uses : (os : List Op) (codes : List (Code Output Waker)) → Nested os codes → any (is_of_run k) codes ≡ true
      → 1 ≤ weigh (running_of k) os
  nested_uses os codes nowhere is = absurd cc
  nested_uses os codes (polls_own x below inside nested) is = by (nested_uses below inside nested) (k == x.run) refl is
    where
      by : (any (is_of_run k) inside ≡ true → 1 ≤ weigh (running_of k) below) → (b : Bool) → (k == x.run) ≡ b
          → cond b true (any (is_of_run k) inside) ≡ true → 1 ≤ weigh (running_of k) (op.User (user_op.PollOwn x) ∷ below)
      by so true its is = omega (arith, its_one x.run its)
      by so false other is = omega (arith, so is)
  nested_uses os codes (drops_own r below inside nested) is = omega (arith, nested_uses below inside nested is)
  nested_uses os codes (takes taker final below xs inside more it nested stopped) is =
      by os codes (nested_uses below inside nested) stopped is
    where
      under : (any (is_of_run k) inside ≡ true → 1 ≤ weigh (running_of k) below) → (b : Bool) → is_taker k taker ≡ b
          → cond b true (any (is_of_run k) inside) ≡ true → 1 ≤ running_of k final + weigh (running_of k) below
      under so true its is = omega (arith, final_uses taker final it its)
      under so false other is = omega (arith, so is)

      by : (os : List Op) (codes : List (Code Output Waker)) → (any (is_of_run k) inside ≡ true → 1 ≤ weigh (running_of k) below)
          → Stopped taker final below inside os codes → any (is_of_run k) codes ≡ true → 1 ≤ weigh (running_of k) os
      by os codes so answered is = so is
      by os codes so (polls f) is = omega (arith, under so (is_taker k taker) refl is)
      by os codes so (drops f) is = omega (arith, under so (is_taker k taker) refl is)
      by os codes so (drops_polled f) is = omega (arith, under so (is_taker k taker) refl is)
      by os codes so (drops_given f) is = omega (arith, under so (is_taker k taker) refl is)

-- where a run goes, nothing below uses it
abbrev IsUsedOnce : List Op → Type 0
IsUsedOnce os = (r : ℕ) → weigh (running_of r) os ≤ 1

none_below : (r : ℕ) (below : List Op) (codes : List (Code Output Waker)) → Nested below codes → weigh (running_of r) below ≡ 0
    → not (any (is_of_run r) codes) ≡ true
none_below r below codes nested none = by (any (is_of_run r) codes) refl
  where
    by : (b : Bool) → any (is_of_run r) codes ≡ b → not b ≡ true
    by true is = absurd (omega (arith, nested_uses r below codes nested is, none))
    by false is = refl

itself : (r : ℕ) → same r r ≡ 1
itself r = grind (arith, same_is, nat_tests)

leaving_uses : (r : ℕ) (o : Op) → IsLeaving r o → running_of r o ≡ 1
leaving_uses r o unlisted = itself r
leaving_uses r o listed = itself r

nested_idle : (os : List Op) (codes : List (Code Output Waker)) → Nested os codes → IsUsedOnce os → goes_idle calls.Ends codes ≡ true
nested_idle os codes nowhere once = refl
nested_idle os codes (polls_own x below inside nested) once = refl
nested_idle os codes (drops_own r below inside nested) once =
    none_below r below inside nested (omega (arith, once r, itself r))
nested_idle os codes (takes taker final below xs inside more it nested stopped) once =
    by os codes (nested_idle below inside nested) stopped once
  where
    by : (os : List Op) (codes : List (Code Output Waker)) → (IsUsedOnce below → goes_idle calls.Ends inside ≡ true)
        → Stopped taker final below inside os codes → IsUsedOnce os → goes_idle calls.Ends codes ≡ true
    by os codes so answered once = so once
    by os codes so (polls f) once = refl
    by os codes so (drops f) once = refl
    by os codes so (drops_polled f) once = refl
    by os codes so (drops_given f) once = refl

stands_idle : (e : Done) (q : Plain Output Waker) → StandsAlike e q → IsUsedOnce e.next → goes_idle calls.Ends q.inside ≡ true
stands_idle e q (alike nested follows) once = nested_idle e.next q.inside nested once
stands_idle e q (losing f fs below codes nested stops) once = ap (goes_idle calls.Ends) stops.inside
stands_idle e q (going r [] below codes nested stops) once =
    ap (goes_idle calls.Ends) stops.inside
    ∙ none_below r below codes nested
    (omega (arith, ap (weigh (running_of r)) (sym stops.left), once r, leaving_uses r stops.rest stops.leaving))
stands_idle e q (going r (f ∷ fs) below codes nested stops) once = ap (goes_idle calls.Ends) stops.inside
stands_idle e q (dropping taker final below f b it nested (drop_answered next inside follows)) once =
    ap (goes_idle calls.Ends) inside ∙ nested_idle below b.inside nested (λ r. subst (λ os. weigh (running_of r) os ≤ 1) next (once r))
stands_idle e q (dropping taker final below f b it nested (loses awaiter next inside ending)) once = ap (goes_idle calls.Ends) inside
stands_idle e q (untaken taker final below f awaiter g gs codes it nested stops) once = ap (goes_idle calls.Ends) stops.inside
stands_idle e q (forgetting taker final below f b it nested stops) once = ap (goes_idle calls.Ends) stops.inside
stands_idle e q (forgotten taker final below f g gs codes it nested stops) once = ap (goes_idle calls.Ends) stops.inside

call_idle : (call : Call Output Waker) (codes : List (Code Output Waker)) → goes_idle calls.Ends codes ≡ true → goes_idle call codes ≡ true
call_idle calls.Ends codes so = so
call_idle calls.TryTick codes so = refl
call_idle _ codes so = refl

acts_idle : (acts : List Act) (s : Machine) → Reached s → (before : ℕ) → OthersRest before s → (q : Plain Output Waker)
    → StandsAlike (standing s before) q → AreActs s acts → (go : ActAlike s q acts) → all_go_idle wakes (acts_by s q acts go) q ≡ true
acts_idle [] s reached before others q stands are go = refl
acts_idle (a ∷ acts) s reached before others q stands are go =
    let it = are.0 in
    let k = run-first a.first a.steps s a.left it.made in
    let there : a.party < length s.parties =
    subst (λ n. n < length s.parties) it.its
    (within (party_of a.first) (length s.parties)
    (passed (nat_lt (party_of a.first) (length s.parties)) NoSuch
    (part_refusal s.world s.parties (stack s (party_of a.first)) a.first) k.0)) in
    let here : StandsAlike (standing s a.party) q =
    subst (λ e. StandsAlike e q) (taken_over s before a.party others it.others (before == a.party) refl) stands in
    let now =
    stands_idle (standing s a.party) q here (used_once s reached a.party there (reverse (stack s a.party)) refl) in
    let rest =
    acts_idle acts a.left (reached-more (a.first ∷ a.steps) s a.left reached it.made) a.party
    (goes_rest a.steps (after_step s a.first) a.left a.party it.rests k.1 (still-rest a.party s a.first it.its it.others)) go.0 go.2 are.2
    go.3 in
    both_so (goes_idle go.1.made q.inside) _ (call_idle go.1.made q.inside now)
    (subst (λ z. all_go_idle wakes (acts_by a.left go.0 acts go.3) z ≡ true) (sym go.1.so) rest)

pub all_idle : (limit : ℕ) (kind : Kind) (parties : ℕ) (acts : List Act) → AreActs (start limit kind parties) acts
    → (go : ActAlike (start limit kind parties) (new limit (is_static_kind kind)) acts)
    → all_go_idle wakes (acts_by (start limit kind parties) (new limit (is_static_kind kind)) acts go) (new limit (is_static_kind kind))
    ≡ true
all_idle limit kind parties acts are go =
    let s = start limit kind parties in
    let reached : Reached s = record { limit = limit; kind = kind; parties = parties; steps = []; is = refl } in
    let empty : (n : ℕ) → stack s n ≡ [] = rests s (deep-here s reached) (λ party. refl) in
    let q : Plain Output Waker = new limit (is_static_kind kind) in
    let stands : StandsAlike (standing s 0) q =
    subst (λ xs. StandsAlike (done s.world (reverse xs)) q) (sym (empty 0)) (alike nowhere (begin_alike limit kind parties)) in
    acts_idle acts s reached 0 (λ n apart. empty n) q stands are go
