-- A list of calls that is as was wished is of the machine's steps, where the wishes are.
use Rattle.std.proofs.Common.{◌≡◌, ℕ, ◌++◌, List, [], ◌∷◌, sym, subst, ◌∙◌}
use Rattle.std.proofs.Common.{◌==◌, refl, true}
use Rattle.std.specs.Prelude.{reverse}
use Rattle.executor_model.specs.declared.kind.Kind.{Kind as MachineKind}
use Rattle.executor_model.specs.declared.op.Waker.{Waker}
use Rattle.executor_model.specs.Steps.{Machine, after as after_step, is_static_kind, stack, start}
use Rattle.executor_model.specs.World.{done}
use Rattle.executor_model.proofs.Quiet.Resting.{rests}
use Rattle.executor_model.proofs.Steps.Reached.{Reached, deep-here, reached-more, run-first}
use Rattle.solo.specs.declared.names.SoloWaker.{SoloWaker}
use Rattle.solo.specs.declared.owed.Lent.{Lent}
use Rattle.solo.specs.declared.solo.Solo.{Solo}
use Rattle.plain_scheduler.specs.State.{Choice, Event, Plain}
use Rattle.plain_scheduler.specs.Calls as plain
use Rattle.plain_scheduler.specs.Calls.{Call, DropExecutor, does, new}
use Rattle.machine_roads.specs.View.{Output}
use Rattle.machine_roads.specs.Within.{Act, ActAlike, AreActs, IsMade, StandsAlike, alike, nowhere, standing}
use Rattle.machine_roads.proofs.Acts.{acts_alike, goes_rest, taken_over}
use Rattle.machine_roads.proofs.Calling.{begin_alike}
use Rattle.solo_laws.specs.Courses.{Leads, leads, stays}
use Rattle.solo_laws.specs.Making.{ActsFrom, AreWished, AsWished, Wish}
use Rattle.solo_laws.specs.Owner.{Owner}
use Rattle.solo_laws.specs.Road.{wakes}
use Rattle.solo_laws.proofs.Showing.Courses.{Known, leads_alike}
use Rattle.two_roads.specs.Acting.{AreEndsOfSteps, AreOfSteps, EndOfSteps}
use Rattle.two_roads.specs.Renaming.{call_as}
use Rattle.two_roads.specs.Together.{nothing, numbered}
use Rattle.two_roads.specs.Refusing.{refused_in}
use Rattle.two_roads.proofs.Inner.{seen_in}
use Rattle.two_roads.proofs.InStep.{OthersRest, rest_still}
use Rattle.two_roads.proofs.RefusedAlike.{IsOnce, copies_waker, once_in, refused_alike}
use Rattle.two_roads.proofs.Refusing.{lie_in}
use Rattle.two_roads.specs.Wishing.{AreLastRefusedSo, AreLastWishesOfSteps, AreRefusedAlike, AreWishesOfSteps, EndRefusedSo}

-- who copies a waker in an act is refused it at once
abbrev AreOnce : Machine → List Act → Type 0
AreOnce s [] = Unit {0}
AreOnce s (a ∷ acts) =
    ((made : Call Output Waker) → IsMade s a.party a.first made → copies_waker made ≡ true → IsOnce (refused_in s a)) × AreOnce a.left acts

all_once : (acts : List Act) (s : Machine) → Reached s → (before : ℕ) → OthersRest before s → (q : Plain Output Waker)
    → StandsAlike (standing s before) q → AreActs s acts → ActAlike s q acts → AreOnce s acts
all_once [] s reached before others q stands are go = tt
all_once (a ∷ acts) s reached before others q stands are go =
    let it = are.0 in
    let k = run-first a.first a.steps s a.left it.made in
    let here : StandsAlike (standing s a.party) q =
    subst (λ e. StandsAlike e q) (taken_over s before a.party others it.others (before == a.party) refl) stands in (
      once_in s a q go.0 go.1 (lie_in (standing s a.party) q here) (seen_in (standing a.left a.party) go.0 go.2)
          (lie_in (standing a.left a.party) go.0 go.2),
      all_once acts a.left (reached-more (a.first ∷ a.steps) s a.left reached it.made) a.party
          (goes_rest a.steps (after_step s a.first) a.left a.party it.rests k.1 (rest_still a.party s a.first it.its it.others)) go.0 go.2
          are.2 go.3,
    )

once_from : (limit : ℕ) (kind : MachineKind) (parties : ℕ) (acts : List Act) → AreActs (start limit kind parties) acts
    → AreOnce (start limit kind parties) acts
once_from limit kind parties acts are =
    let s = start limit kind parties in
    let q : Plain Output Waker = new limit (is_static_kind kind) in
    let reached : Reached s = record { limit = limit; kind = kind; parties = parties; steps = []; is = refl } in
    let empty : (n : ℕ) → stack s n ≡ [] = rests s (deep-here s reached) (λ party. refl) in
    let stands : StandsAlike (standing s 0) q =
    subst (λ xs. StandsAlike (done s.world (reverse xs)) q) (sym (empty 0)) (alike nowhere (begin_alike limit kind parties)) in
    all_once acts s reached 0 (λ n apart. empty n) q stands are (acts_alike limit kind parties acts are)

copies_there : {T X : Type 0} (number : X → ℕ) (call : Call T (SoloWaker X)) → copies_waker call ≡ true
    → copies_waker (call_as nothing (numbered number) call) ≡ true
copies_there number (plain.Copy f) copied = refl
copies_there number (plain.PollHandle f w) copied = refl
copies_there number call copied = absurd cc

module _ {F T X : Type 0} (its : ℕ → Lent) (number : X → ℕ) where
  wishes_so : (acts : List Act) (s : Machine) (xs : List (Wish T (SoloWaker X))) (cs : List (Choice × Call T (SoloWaker X)))
      (owner last : Owner) (y z : Solo F T X) (p : Plain T (SoloWaker X)) (shown : List (Event T (SoloWaker X)))
      (led : Leads its cs owner y p shown last z) → AreWishesOfSteps number s acts xs → AsWished its xs cs owner y p shown last z led
      → AreRefusedAlike s acts led → AreOnce s acts → Known its owner y p → AreOfSteps number s acts led
  wishes_so [] s [] cs owner last y z p shown (stays owner' y' p') wishes wished refused once known = tt
  wishes_so [] s [] cs owner last y z p shown (leads c call rest b now e t m v r first more many acts_so on) wishes wished refused once
      known =
      absurd wished
  wishes_so [] s (x ∷ xs) cs owner last y z p shown led wishes wished refused once known = absurd wishes
  wishes_so (a ∷ acts) s [] cs owner last y z p shown led wishes wished refused once known = absurd wishes
  wishes_so (a ∷ acts) s (x ∷ xs) cs owner last y z p shown (stays owner' y' p') wishes wished refused once known = absurd wished
  wishes_so (a ∷ acts) s (x ∷ xs) cs owner last y z p shown (leads c call rest b now e t m v r first more many acts_so on) wishes wished
      refused once known =
      let made : IsMade s a.party a.first (call_as nothing (numbered number) call) =
      subst (λ o. IsMade s a.party a.first (call_as nothing (numbered number) o)) (sym wished.0) wishes.0.made in (
        record {
          made = made;
          refused =
              refused_alike its s a c x.refusal wishes.0.refusal b t r known many call first now m acts_so wished.1 refused.0
              (λ copied. once.0 (call_as nothing (numbered number) call) made (copies_there number call copied));
        },
        λ y is found kept. (x.second, subst (λ n. ActsFrom its c t r n x.second b call first now m acts_so) wishes.0.first wished.2),
        wishes_so acts a.left xs rest now last m z (does wakes c call r) more on
            wishes.1 wished.4 refused.1 once.1
            (leads_alike its ((c, call) ∷ []) b now t m r (first ++ []) known
            (leads c call [] b now now t m m r first [] many acts_so (stays now m (does wakes c call r)))).0,
      )

  -- from new ones on
  pub of_wishes : (limit : ℕ) (kind : MachineKind) (parties : ℕ) (acts : List Act) (xs : List (Wish T (SoloWaker X)))
      (cs : List (Choice × Call T (SoloWaker X))) (owner last : Owner) (y z : Solo F T X) (p : Plain T (SoloWaker X))
      (shown : List (Event T (SoloWaker X))) (led : Leads its cs owner y p shown last z) → AreActs (start limit kind parties) acts
      → AreWishesOfSteps number (start limit kind parties) acts xs → AsWished its xs cs owner y p shown last z led
      → AreRefusedAlike (start limit kind parties) acts led → Known its owner y p
      → AreOfSteps number (start limit kind parties) acts led
  of_wishes limit kind parties acts xs cs owner last y z p shown led are wishes wished refused known =
      wishes_so acts (start limit kind parties) xs cs owner last y z p shown led wishes wished refused
      (once_from limit kind parties acts are) known

module _ {T X : Type 0} (number : X → ℕ) where
  last_of_wishes : (acts : List Act) (s : Machine) (p : Plain T (SoloWaker X)) (xs : List (Wish T (SoloWaker X)))
      (cs : List (Choice × Call T (SoloWaker X))) → AreLastWishesOfSteps number s acts xs → AreWished xs cs → AreLastRefusedSo s acts p cs
      → AreEndsOfSteps number s acts p cs
  last_of_wishes [] s p [] [] wishes wished refused = tt
  last_of_wishes [] s p [] (c ∷ cs) wishes wished refused = absurd wished
  last_of_wishes [] s p (x ∷ xs) cs wishes wished refused = absurd wishes
  last_of_wishes (a ∷ acts) s p [] cs wishes wished refused = absurd wishes
  last_of_wishes (a ∷ acts) s p (x ∷ xs) [] wishes wished refused = absurd wished
  last_of_wishes (a ∷ acts) s p (x ∷ xs) (c ∷ cs) wishes wished refused = (
    record {
      made = subst (λ o. IsMade s a.party a.first (call_as nothing (numbered number) o)) (sym wished.0) wishes.0;
      refused = refused.0;
    },
    last_of_wishes acts a.left (does wakes c.0 c.1 p) xs cs wishes.1 wished.2 refused.1,
  )

  -- and so from the executor's drop on
  pub end_of_wishes : (a : Act) (acts : List Act) (p : Plain T (SoloWaker X)) (x : Wish T (SoloWaker X))
      (xs : List (Wish T (SoloWaker X))) (cs : List (Choice × Call T (SoloWaker X))) → x.call ≡ DropExecutor
      → AreLastWishesOfSteps number a.left acts xs → AreWished (x ∷ xs) cs → EndRefusedSo a acts p cs → EndOfSteps number a acts p cs
  end_of_wishes a acts p x xs [] drops wishes wished refused = absurd wished
  end_of_wishes a acts p x xs (c ∷ cs) drops wishes wished refused =
      (wished.0 ∙ drops, last_of_wishes acts a.left (does wakes c.0 c.1 p) xs cs wishes wished.2 refused)
