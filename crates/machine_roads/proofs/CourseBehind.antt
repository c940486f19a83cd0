-- Lists of lone calls go on behind the executor's drop: there its own calls are refused, and no task waits for a wake.
use Rattle.std.proofs.Common.{◌≡◌, ℕ, ◌++◌, ◌&&◌, ◌||◌, not, Bool, true, false, List, [], ◌∷◌, Option, Some, None, Ok}
use Rattle.std.proofs.Common.{refl, sym, ap, ◌∙◌}
use Rattle.std.specs.Prelude.{reverse}
use Rattle.executor_model.specs.declared.call.Call.{Call}
use Rattle.executor_model.specs.declared.call.Call.TheVariants as call
use Rattle.executor_model.specs.declared.call.Reply.{Reply}
use Rattle.executor_model.specs.declared.event.Event.TheVariants as event
use Rattle.executor_model.specs.declared.op.Op.{Op}
use Rattle.executor_model.specs.declared.op.Waker.{Waker}
use Rattle.executor_model.specs.declared.step.Step.{Step}
use Rattle.executor_model.specs.declared.step.Step.TheVariants.{Begin}
use Rattle.executor_model.specs.declared.step.StepError.TheVariants.{Borrowed, Busy, Gone, NoSuch}
use Rattle.executor_model.specs.Executions.{run_all}
use Rattle.executor_model.specs.Quiet.{IsQuiet}
use Rattle.executor_model.specs.Rows.{leaking_of}
use Rattle.executor_model.specs.Steps.{Machine, after, begin_refusal, begun, end_of, has_all, is_drop, is_free, is_on_executor, is_owners}
use Rattle.executor_model.specs.Steps.{is_unborrowed, is_unused, mine, settled_by, stack, top, unless}
use Rattle.executor_model.specs.World.{World, Done, log}
use Rattle.executor_model.proofs.Steps.Reached.{Reached, reached-more, reached-step, run-first}
use Rattle.executor_laws.specs.LoneEnds.{IsLoneCall}
use Rattle.plain_scheduler.specs.State.{Plain}
use Rattle.machine_roads.specs.View.{Output}
use Rattle.machine_roads.specs.Road.{Follows}
use Rattle.machine_roads.specs.Lone.{NoneWaits}
use Rattle.machine_roads.specs.Course.{AreLone, GoAlike, GoesBy, Lone}
use Rattle.machine_roads.proofs.CallsBehind.{ends_behind, loses_calmly, none_of}
use Rattle.machine_roads.proofs.Lists.{clash}
use Rattle.machine_roads.proofs.LoneRuns.{gone_before, passed}
use Rattle.machine_roads.proofs.LoneTicks.{may_begin, unrefused}
use Rattle.machine_roads.proofs.OneCall.{of_task}
use Rattle.machine_roads.proofs.Waits.{NoTaskWaits}

-- an executor's call that may begin is made before its drop
pub before_drop : (w : World) (ss : List (List Op)) (o : Option Op) (c : Call) → is_on_executor c ≡ true → begin_refusal w ss o c ≡ None
    → w.gone ≡ false
before_drop w ss o c on may =
    let last = unless (not (is_owners c) || is_unborrowed w ss) Borrowed None in
    let fourth = unless (not (is_owners c && w.is_static)) Gone last in
    let third = unless (not (is_on_executor c) || is_unused leaking_of ss) Gone fourth in
    let second = unless (not (w.gone && is_on_executor c)) Gone third in
    let not_gone =
    passed (not (w.gone && is_on_executor c)) Gone third
    (unrefused (has_all w ss o c) NoSuch second (unrefused (is_free o) Busy (unless (has_all w ss o c) NoSuch second) may)) in
    by w.gone (sym (ap (λ b. not (w.gone && b)) on) ∙ not_gone)
  where
    by : (b : Bool) → not (b && true) ≡ true → b ≡ false
    by false is = refl
    by true is = absurd cc

-- what has begun stays so
pub still_gone : (ts : List Step) (s new : Machine) → Reached s → run_all ts s ≡ Ok new → s.world.gone ≡ true → new.world.gone ≡ true
still_gone ts s new reached made gone = by new.world.gone refl
  where
    by : (b : Bool) → new.world.gone ≡ b → new.world.gone ≡ true
    by true is = is
    by false off = absurd (clash (gone_before ts s new reached made off) gone)

settled_gone : (r : Option Reply) (p : ℕ) (w : World) (os : List Op) → (settled_by r p w os).world.gone ≡ w.gone
settled_gone None p w os = refl
settled_gone (Some r) p w os = refl

pub drop_begun : (s : Machine) → Reached s → (p : ℕ) (steps : List Step) (new : Machine)
    → run_all (Begin p call.DropExecutor ∷ steps) s ≡ Ok new → new.world.gone ≡ true
drop_begun s reached p steps new made =
    let c = call.DropExecutor in
    let k = run-first (Begin p c) steps s new made in
    let d : Done = begun p (log s.world (event.CallBegun p c)) (mine (top (stack s p))) c in
    let todo = stack s p ++ reverse d.next in
    still_gone steps (after s (Begin p c)) new (reached-step s (Begin p c) k.0 reached) k.1
    (settled_gone (end_of (top todo)) p d.world todo)

pub drop_goes : (s : Machine) → Reached s → (p : ℕ) (steps : List Step) (new : Machine) (c : Call) → is_drop c ≡ true
    → IsLoneCall p c steps s new → new.world.gone ≡ true
drop_goes s reached p steps new call.DropExecutor is lone = drop_begun s reached p steps new lone.made
drop_goes s reached p steps new c is lone = absurd cc

module _ (s : Machine) (reached : Reached s) (q : Plain Output Waker) (quiet : IsQuiet s.world.trace) (follows : Follows s.world q)
    (none : NoneWaits q) (gone : s.world.gone ≡ true) (p : ℕ) (steps : List Step) (new : Machine) where
  abbrev Behind : Call → Type 0
  Behind c = (z : Plain Output Waker) × GoesBy s.world c q z × Follows new.world z × NoneWaits z

  one_behind : (c : Call) → IsLoneCall p c steps s new → Behind c
  one_behind c lone = by (is_on_executor c) refl
    where
      by : (b : Bool) → is_on_executor c ≡ b → Behind c
      by true on =
          absurd
          (clash (before_drop s.world s.parties (top (stack s p)) c on
          (may_begin s p c (run-first (Begin p c) steps s new lone.made).0)) gone)
      by false off =
          let e =
          of_task s reached q quiet follows p steps new NoTaskWaits
          (λ c off P leads lone. ends_behind s reached q quiet follows none p c off P steps new leads lone)
          (λ c off f r d comes lone. loses_calmly s reached q quiet follows none p c off f r d steps comes new lone) c off lone in
          (e.0.0, e.0.1, e.0.2, none_of new.world e.0.0 e.0.2 e.1)

pub behind_go : (s : Machine) → Reached s → (q : Plain Output Waker) → IsQuiet s.world.trace → Follows s.world q → NoneWaits q
    → s.world.gone ≡ true → (ls : List Lone) → AreLone s ls → GoAlike s q ls
behind_go s reached q quiet follows none gone [] lone = follows
behind_go s reached q quiet follows none gone (l ∷ ls) lone =
    let ts = Begin l.party l.call ∷ l.steps in
    let next = reached-more ts s l.left reached lone.0.made in
    let one = one_behind s reached q quiet follows none gone l.party l.steps l.left l.call lone.0 in (
      follows,
      (
        one.0,
        one.1,
        behind_go l.left next one.0 lone.0.ended one.2 one.3 (still_gone ts s l.left reached lone.0.made gone) ls lone.1,
      ),
    )
