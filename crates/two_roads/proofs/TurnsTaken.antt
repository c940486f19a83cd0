-- Each act of a list from a new machine on takes the turns of the call that it is.
use Rattle.std.proofs.Common.{◌≡◌, ℕ, ◌==◌, List, [], ◌∷◌, refl, sym, subst}
use Rattle.std.specs.Prelude.{reverse}
use Rattle.executor_model.specs.declared.op.Waker.{Waker}
use Rattle.executor_model.specs.Steps.{Machine, after as after_step, is_static_kind, stack, start}
use Rattle.executor_model.specs.World.{done}
use Rattle.executor_model.proofs.Quiet.Resting.{rests}
use Rattle.executor_model.proofs.Steps.Reached.{Reached, deep-here, reached-more, run-first}
use Rattle.plain_scheduler.specs.State.{Plain}
use Rattle.plain_scheduler.specs.Calls.{new}
use Rattle.machine_roads.specs.View.{Output}
use Rattle.machine_roads.specs.Within.{Act, ActAlike, AreActs, StandsAlike, alike, nowhere, standing}
use Rattle.machine_roads.proofs.Acts.{acts_alike, goes_rest, taken_over}
use Rattle.machine_roads.proofs.Calling.{begin_alike}
use Rattle.two_roads.specs.Turns.{ActsTakeTurns, EachTakesTurns}
use Rattle.two_roads.proofs.ActSays.{act_says}
use Rattle.two_roads.proofs.Inner.{seen_in}
use Rattle.two_roads.proofs.InStep.{OthersRest, rest_still}
use Rattle.two_roads.proofs.Refusing.{lie_in}

taken : (acts : List Act) (s : Machine) → Reached s → (before : ℕ) → OthersRest before s → (q : Plain Output Waker)
    → StandsAlike (standing s before) q → AreActs s acts → (go : ActAlike s q acts) → EachTakesTurns s q acts go
taken [] s reached before others q stands are go = tt
taken (a ∷ acts) s reached before others q stands are go =
    let it = are.0 in
    let k = run-first a.first a.steps s a.left it.made in
    let here : StandsAlike (standing s a.party) q =
    subst (λ e. StandsAlike e q) (taken_over s before a.party others it.others (before == a.party) refl) stands in
    let says =
    act_says s q a go.0 go.1 (lie_in (standing s a.party) q here) (seen_in (standing a.left a.party) go.0 go.2)
    (lie_in (standing a.left a.party) go.0 go.2) in (
      says.turned,
      taken acts a.left (reached-more (a.first ∷ a.steps) s a.left reached it.made) a.party
          (goes_rest a.steps (after_step s a.first) a.left a.party it.rests k.1 (rest_still a.party s a.first it.its it.others)) go.0 go.2
          are.2 go.3,
    )

pub acts_take_turns : ActsTakeTurns
acts_take_turns limit kind parties acts they =
    let s = start limit kind parties in
    let reached : Reached s = record { limit = limit; kind = kind; parties = parties; steps = []; is = refl } in
    let empty : (n : ℕ) → stack s n ≡ [] = rests s (deep-here s reached) (λ party. refl) in
    let q : Plain Output Waker = new limit (is_static_kind kind) in
    let stands : StandsAlike (standing s 0) q =
    subst (λ xs. StandsAlike (done s.world (reverse xs)) q) (sym (empty 0)) (alike nowhere (begin_alike limit kind parties)) in
    let go = acts_alike limit kind parties acts they in (go, taken acts s reached 0 (λ n apart. empty n) q stands they go)
