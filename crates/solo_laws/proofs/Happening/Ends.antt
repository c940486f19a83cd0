-- Behind the end of what a run ran the run goes on, or one is dropped first, or its output.
use Rattle.std.proofs.Common.{◌≡◌, ℕ, suc, ◌<◌, ◌≤◌, List, [], ◌∷◌, ◌++◌, length, Option, Some, None, is_some}
use Rattle.std.proofs.Common.{refl, sym, ap, subst, ◌∙◌, arith}
use Rattle.executor_parts.specs.Places.{entry_in, parts_of}
use Rattle.executor_parts.specs.declared.places.EntryPlace.{EntryPlace}
use Rattle.solo.specs.declared.names.Task.{Task}
use Rattle.solo.specs.declared.names.SoloWaker.{SoloWaker}
use Rattle.solo.specs.declared.names.SoloWaker.TheVariants.{Task as OfTask, Outside}
use Rattle.solo.specs.declared.cells.After.{After}
use Rattle.solo.specs.declared.cells.After.TheVariants.{Queue, Rest, Drop as DropFuture, Unknown}
use Rattle.solo.specs.declared.owed.Lent.{Lent}
use Rattle.solo.specs.declared.owed.Owed.{Owed}
use Rattle.solo.specs.declared.runs.Runner.{Runner}
use Rattle.solo.specs.declared.solo.Solo.{Solo}
use Rattle.solo.specs.Cells as cells
use Rattle.solo.specs.Solo as solo
use Rattle.solo.specs.Turns as turns
use Rattle.plain_scheduler.specs.State.{Answers, Choice, Code, Drops, Event}
use Rattle.plain_scheduler.specs.State.{Loses, Plain, Refusal, Run, Yes}
use Rattle.plain_scheduler.specs.Calls.{Call}
use Rattle.solo_laws.specs.Alike.{calls, lets_go}
use Rattle.solo_laws.specs.Courses.{Makes}
use Rattle.solo_laws.specs.Courses.{run_drops, run_goes_on, run_loses}
use Rattle.solo_laws.specs.Dropping.{after_drop}
use Rattle.solo_laws.specs.Making.{Happens, IsKnown, behind}
use Rattle.solo_laws.specs.Owner.{HasRunner, Owner}
use Rattle.solo_laws.specs.Road.{HasLife, IsNamed}
use Rattle.solo_laws.specs.RunGoing.{IsEnding, Stage, code_at, in_try}
use Rattle.solo_laws.specs.Tabled.{named}
use Rattle.solo_laws.proofs.Prompt.{chosen}
use Rattle.solo_laws.proofs.Following.Keeping.{keeps}
use Rattle.solo_laws.proofs.Following.Lives.{released_lives, scheduled_lives, three_fewer, used_lives}
use Rattle.solo_laws.proofs.Showing.Courses.{Known}
use Rattle.solo_laws.proofs.Happening.Behind.{end_long, same_end}
use Rattle.solo_laws.proofs.Happening.Choosing.{choosing, fewer, wish}
use Rattle.solo_laws.proofs.Happening.Searching.{IsRunOn, run_on_happens}
use Rattle.solo_laws.proofs.Happening.Ticks.{is_acted}

-- how many more tasks may come behind the end of a poll, or of a drop
module _ {F T X : Type 0} where
  pub calls_lives : (n : ℕ) (o : Option (SoloWaker X)) (s : Solo F T X) → HasLife (suc (suc (suc n))) s.lines → HasLife n (calls o s).lines
  calls_lives n None s life = three_fewer n s.lines life
  calls_lives n (Some (Outside w)) s life = three_fewer n s.lines life
  calls_lives n (Some (OfTask t)) s life = used_lives n t s life

  pub lets_go_lives : (n : ℕ) (o : Option (SoloWaker X)) (s : Solo F T X) → HasLife (suc (suc (suc n))) s.lines
      → HasLife n (lets_go o s).lines
  lets_go_lives n None s life = three_fewer n s.lines life
  lets_go_lives n (Some (Outside w)) s life = three_fewer n s.lines life
  lets_go_lives n (Some (OfTask t)) s life = released_lives n t s life

  pub left_lives : (n : ℕ) (place : EntryPlace) (s : Solo F T X) → HasLife (suc (suc (suc n))) s.lines → HasLife n
      (turns.left place s).lines
  left_lives n place s life = by (parts_of (entry_in place s.table.entries))
    where
      waker : (o : Option Task) → HasLife n (turns.let_go_if o (turns.without place s)).lines
      waker None = three_fewer n s.lines life
      waker (Some t) = released_lives n t (turns.without place s) life

      by : (o : Option (Option F × Option Task)) → HasLife n (turns.left_by_parts o (turns.without place s)).lines
      by None = three_fewer n s.lines life
      by (Some parts) = waker parts.1

  pub after_lives : (owed : Owed F T X) (s : Solo F T X) → HasLife 11 s.lines → HasLife 5 (after_drop owed s).lines
  after_lives owed s life =
      chosen (λ (s : Solo F T X). HasLife 5 s.lines) (is_some owed.output) s (calls owed.awaiter (lets_go owed.old s))
      (fewer 5 11 s.lines (omega arith) life)
      (calls_lives 5 owed.awaiter (lets_go owed.old s) (lets_go_lives 8 owed.old s life))

  pub pends_lives : (n : ℕ) (lent : Lent) (future : F) (s : Solo F T X) → HasLife (suc (suc (suc n))) s.lines
      → HasLife n (solo.settled_pending lent future s).lines
  pends_lives n lent future s life = by (solo.after_poll lent s)
    where
      by : (a : After) → HasLife n (solo.pending_by a lent future (turns.turned (cells.ended_pending lent.place) lent.task s)).lines
      by DropFuture = three_fewer n s.lines life
      by Unknown = three_fewer n s.lines life
      by Rest = three_fewer n s.lines life
      by Queue =
          scheduled_lives n lent.task (solo.put_back lent future (turns.turned (cells.ended_pending lent.place) lent.task s)) life

module _ {F T X : Type 0} (its : ℕ → Lent) (future : F) (owner : Owner) (s : Solo F T X) (p : Plain T (SoloWaker X))
    (known : Known its owner s p) (refusal : Refusal) (first second name : ℕ) where
  abbrev wished : Call T (SoloWaker X) → Type 0
  wished call = Happens its owner s p (wish its future owner s p known.stands refusal first second name call)

  abbrev most : ℕ
  most = suc (length p.lying)

  pub more : (n : ℕ) → n ≡ most → length p.lying < n
  more n is = omega (arith, is)

  -- a run is as its owner has it
  abbrev pub runner_of : ℕ → Runner
  runner_of r = owner.runner r

  pub has : (r : ℕ) → HasRunner (runner_of r) owner
  has r = ap owner.runner (known.tallied.number r)

  pub known_as : (z : Solo F T X) (q : Plain T (SoloWaker X)) (v : SoloWaker X) → length q.futures ≡ length p.futures
      → IsKnown its owner s p v → IsKnown its owner z q v
  known_as z q (Outside x) long is = tt
  known_as z q (OfTask t) long is = subst (λ n. IsNamed (named its) n t) (sym long) is

  -- a code in which a run runs what it took
  module _ (stage : Stage T (SoloWaker X)) (r : ℕ) (w : SoloWaker X) (rest : List (Code T (SoloWaker X)))
      (is : p.inside ≡ code_at stage (Run r w) ∷ rest) (call : Call T (SoloWaker X)) (ends : IsEnding stage call) (y : Solo F T X)
      (life : HasLife 5 y.lines) (w_known : IsKnown its owner s p w) where
    abbrev tried : Plain T (SoloWaker X)
    tried = in_try stage rest p

    -- whatever is chosen it ends so in a try
    abbrev Tried : List (Event T (SoloWaker X)) → Type 0
    Tried all = (c : Choice) → Makes its c s tried call all y

    abbrev base : Choice
    base = choosing its future owner s p known.stands refusal first second name refusal

    pub run_goes : (shown : List (Event T (SoloWaker X))) → Tried (shown ++ Answers Yes ∷ []) → wished call
    run_goes shown how =
        let runner = runner_of r in
        let mid = behind its base s p stage rest call shown in
        let kept = keeps its base s tried call (shown ++ Answers Yes ∷ []) y (how base) in
        let it =
        run_on_happens its owner runner w y refusal first second mid most
        (known_as y mid w (end_long base p rest stage call ends) w_known) (few (length mid.lying) kept.1.long) life in
        let so =
        subst (λ q. IsRunOn its owner runner w y refusal first second it.choice q)
        (ap (λ (q : Plain T (SoloWaker X)). record q { events = p.events ++ shown })
        (same_end p rest base it.choice stage call ends (sym it.tells_so))) it.so in
        record {
          choice = it.choice;
          shown = shown ++ so.shown;
          now = so.now;
          after = so.after;
          acts =
              run_goes_on stage runner w rest call shown so.shown so.now y so.after (has r)
              (is ∙ ap (λ k. code_at stage (Run k w) ∷ rest) (sym (known.tallied.number r))) ends (how it.choice) so.how;
          tells = more it.choice.tells it.tells_so;
          refused = so.heeds;
          starts = so.starts;
          named_so = tt;
          room = tt;
        }
      where
        few : (n : ℕ) → n ≡ length p.lying → suc n ≤ most
        few n is = omega (arith, is)

    pub run_drops_it : (shown : List (Event T (SoloWaker X))) (f : ℕ) → Tried (shown ++ Drops f ∷ []) → wished call
    run_drops_it shown f how =
        is_acted its future owner s p known.stands refusal first second name refusal call (shown ++ Drops f ∷ []) owner y
        (run_drops stage r w rest call shown f y is ends (how base)) refl tt tt tt

    pub run_loses_it : (shown : List (Event T (SoloWaker X))) (v : T) → Tried (shown ++ Loses v ∷ []) → wished call
    run_loses_it shown v how =
        is_acted its future owner s p known.stands refusal first second name refusal call (shown ++ Loses v ∷ []) owner y
        (run_loses stage r w rest call shown v y is ends (how base)) refl tt tt tt
