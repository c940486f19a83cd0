-- Where no call is in progress any more the machine stands where the plain scheduler does, too.
use Rattle.std.proofs.Common.{◌≡◌, ℕ, ◌++◌, not, List, [], ◌∷◌, refl, sym, ap, subst, ◌∙◌}
use Rattle.executor_model.specs.declared.kind.Kind.{Kind as MachineKind}
use Rattle.executor_model.specs.declared.call.Call.TheVariants.{DropExecutor as DropsExecutor}
use Rattle.executor_model.specs.declared.op.Waker.{Waker}
use Rattle.executor_model.specs.declared.step.Step.TheVariants.{Begin}
use Rattle.executor_model.specs.Quiet.{IsQuiet}
use Rattle.executor_model.specs.Steps.{Machine, is_static_kind, start}
use Rattle.executor_model.proofs.Steps.Reached.{Reached}
use Rattle.solo.specs.declared.names.Kind.{Kind}
use Rattle.solo.specs.declared.names.SoloWaker.{SoloWaker}
use Rattle.solo.specs.declared.owed.Lent.{Lent}
use Rattle.solo.specs.declared.solo.Solo.{Solo}
use Rattle.solo.specs.Solo.{IsNew, counts}
use Rattle.plain_scheduler.specs.State.{Choice, Event, Plain, Who}
use Rattle.plain_scheduler.specs.Calls.{Call, course, new}
use Rattle.machine_roads.specs.Course.{AreLone, Lone}
use Rattle.machine_roads.specs.DropActs.{left_by as left_by_acts, plain_behind}
use Rattle.machine_roads.specs.Road.{Follows}
use Rattle.machine_roads.specs.View.{Output}
use Rattle.machine_roads.specs.Within.{Act, AreActs, IsAct}
use Rattle.machine_roads.proofs.Acts.{acts_alike}
use Rattle.machine_roads.proofs.ActsToEnd.{at_rest_behind}
use Rattle.solo_laws.specs.Courses.{Leads, leads, stays}
use Rattle.solo_laws.specs.Closing.{IsClosed}
use Rattle.solo_laws.specs.LastCalls.{LastCalls}
use Rattle.solo_laws.specs.Owner.{Owner, new_owner}
use Rattle.solo_laws.specs.Road.{wakes}
use Rattle.solo_laws.specs.Tabled.{Stands}
use Rattle.two_roads.specs.Acting.{AreOfSteps, EndOfSteps, left_of}
use Rattle.two_roads.specs.LoneActs.{acts_of, cut_of, first_act}
use Rattle.two_roads.specs.Renaming.{call_as}
use Rattle.two_roads.specs.Together.{TellsOf, as_machines, left_by, nothing, numbered}
use Rattle.two_roads.proofs.InDrop.{acts_come}
use Rattle.two_roads.proofs.InStep.{steps_same, steps_together}
use Rattle.two_roads.proofs.LoneActs.{AllMade, left_same, lone_act, lone_acts, lone_behind}
use Rattle.two_roads.proofs.InStepToEnd.{rest_at_the_end}

module _ {F T X : Type 0} (its : ℕ → Lent) (number : X → ℕ) where
  pub made_of : (acts : List Act) (s : Machine) (cs : List (Choice × Call T (SoloWaker X))) (owner last : Owner) (y z : Solo F T X)
      (p : Plain T (SoloWaker X)) (shown : List (Event T (SoloWaker X))) (led : Leads its cs owner y p shown last z)
      → AreOfSteps number s acts led → AllMade s acts
  made_of [] s cs owner last y z p shown led of = tt
  made_of (a ∷ acts) s cs owner last y z p shown (stays owner' y' p') of = absurd of
  made_of (a ∷ acts) s cs owner last y z p shown (leads c call rest b now e t m v r first more many acts_so on) of =
      ((call_as nothing (numbered number) call, of.0.made), made_of acts a.left rest now last m z _ more on of.2)

  module _ (limit : ℕ) (kind : MachineKind) (solo_kind : Kind) (parties : ℕ) (cs : List (Choice × Call T (SoloWaker X)))
      (first last : Solo F T X) (shown : List (Event T (SoloWaker X))) (before : Who → ℕ) (after : Owner)
      (is_new : IsNew limit solo_kind first)
      (counted : counts solo_kind ≡ not (is_static_kind kind))
      (led : Leads its cs (new_owner before) first (new limit (is_static_kind kind)) shown after last) where
    -- acts
    pub rest_together : (acts : List Act) → AreActs (start limit kind parties) acts
        → IsQuiet (left_of (start limit kind parties) acts).world.trace
        → AreOfSteps number (start limit kind parties) acts led
        → Stands its last (course wakes cs (new limit (is_static_kind kind)))
        × TellsOf number (left_of (start limit kind parties) acts) (course wakes cs (new limit (is_static_kind kind))) shown
    rest_together acts they quiet of =
        let s = start limit kind parties in
        let q : Plain Output Waker = new limit (is_static_kind kind) in
        let go = acts_alike limit kind parties acts they in
        let both = steps_together its number limit kind solo_kind parties acts cs first last shown before after they is_new counted led of
        in
        let is_left = left_same acts s in
        let rest = at_rest_behind limit kind parties acts they (subst (λ m. IsQuiet m.world.trace) (sym is_left) quiet) go in
        let comes : as_machines number (course wakes cs (new limit (is_static_kind kind))) ≡ plain_behind acts s q go =
        steps_same its number limit kind solo_kind parties acts cs first last shown before after they go is_new counted led of
        ∙ acts_come acts s q go in (
          both.0,
          record {
            follows =
                subst (λ m. Follows m.world (as_machines number (course wakes cs (new limit (is_static_kind kind))))) is_left
                (subst (λ z. Follows (left_by_acts s acts).world z) (sym comes) rest.follows);
            seen = both.1;
          },
        )

    -- lone calls
    pub lone_together : (ls : List Lone) → AreLone (start limit kind parties) ls
        → AreOfSteps number (start limit kind parties) (acts_of (start limit kind parties) ls) led
        → Stands its last (course wakes cs (new limit (is_static_kind kind)))
        × TellsOf number (left_by (start limit kind parties) ls) (course wakes cs (new limit (is_static_kind kind))) shown
    lone_together ls lone of =
        let s = start limit kind parties in
        let reached : Reached s = record { limit = limit; kind = kind; parties = parties; steps = []; is = refl } in
        let it =
        lone_acts ls s reached (λ party. refl) lone
        (made_of (acts_of s ls) s cs (new_owner before) after first last (new limit (is_static_kind kind)) shown led of) in
        let both = rest_together (acts_of s ls) it.are (subst (λ m. IsQuiet m.world.trace) (sym it.left) it.quiet) of in
        (both.0, subst (λ m. TellsOf number m (course wakes cs (new limit (is_static_kind kind))) shown) it.left both.1)

    -- and so to the end
    pub lone_end_together : (ls more : List Lone) (drop : Lone) (ends : List (Choice × Call T (SoloWaker X))) (end : Solo F T X)
        (others : List (Event T (SoloWaker X))) → AreLone (start limit kind parties) ls → drop.call ≡ DropsExecutor
        → AreLone (left_by (start limit kind parties) ls) (drop ∷ more)
        → LastCalls its last (course wakes cs (new limit (is_static_kind kind))) ends others end
        → AreOfSteps number (start limit kind parties) (acts_of (start limit kind parties) ls) led
        → EndOfSteps number (first_act (left_by (start limit kind parties) ls) drop)
        ((cut_of (left_by (start limit kind parties) ls) drop).later ++ acts_of drop.left more)
        (course wakes cs (new limit (is_static_kind kind))) ends
        → IsClosed its end (course wakes (cs ++ ends) (new limit (is_static_kind kind)))
        × TellsOf number (left_by drop.left more) (course wakes (cs ++ ends) (new limit (is_static_kind kind))) (shown ++ others)
    lone_end_together ls more drop ends end others lone drops rest then_so of end_of =
        let s = start limit kind parties in
        let m = left_by s ls in
        let reached : Reached s = record { limit = limit; kind = kind; parties = parties; steps = []; is = refl } in
        let it =
        lone_acts ls s reached (λ party. refl) lone
        (made_of (acts_of s ls) s cs (new_owner before) after first last (new limit (is_static_kind kind)) shown led of) in
        let behind = lone_behind drop more m it.reached it.quiet rest in
        let is_left : left_by_acts s (acts_of s ls) ≡ m = left_same (acts_of s ls) s ∙ it.left in
        let act : IsAct m (first_act m drop) = lone_act m it.reached it.quiet drop rest.0 in
        let both =
        rest_at_the_end its number limit kind solo_kind parties (acts_of s ls) (first_act m drop)
        ((cut_of m drop).later ++ acts_of drop.left more) cs ends first last end shown others before after it.are
        (subst (λ n. IsQuiet n.world.trace) (sym is_left) it.quiet) (subst (λ n. IsAct n (first_act m drop)) (sym is_left) act)
        (ap (λ c. Begin drop.party c) drops) behind.are is_new counted led then_so of end_of
        (subst (λ n. IsQuiet n.world.trace) (sym behind.left) behind.quiet) in (
          both.0,
          subst (λ n. TellsOf number n (course wakes (cs ++ ends) (new limit (is_static_kind kind))) (shown ++ others)) behind.left both.1,
        )
