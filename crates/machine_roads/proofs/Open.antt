-- The executor's drop begins by no other call.
use Rattle.std.proofs.Common.{◌≡◌, ℕ, true, false, List, [], ◌∷◌, ◌++◌, Option, Some, None, Ok, refl, subst, ap, ◌∙◌}
use Rattle.std.specs.Prelude.{reverse}
use Rattle.executor_model.specs.declared.call.Call.{Call}
use Rattle.executor_model.specs.declared.call.Call.TheVariants as call
use Rattle.executor_model.specs.declared.call.Reply.{Reply}
use Rattle.executor_model.specs.declared.event.Event.TheVariants as event
use Rattle.executor_model.specs.declared.op.Op.{Op}
use Rattle.executor_model.specs.declared.step.Step.{Step}
use Rattle.executor_model.specs.declared.step.Step.TheVariants.{Answer, Begin, Go}
use Rattle.executor_model.specs.Doing.{act}
use Rattle.executor_model.specs.Executions.{run_all}
use Rattle.executor_model.specs.Steps.{Machine, after, begun, below_top, end_of, gone_on, is_drop, mine, react, settled_by, stack, top}
use Rattle.executor_model.specs.Trace.{has, is_drop_begun}
use Rattle.executor_model.specs.World.{World, Done, log}
use Rattle.executor_model.proofs.Steps.Hushed.{Hushed, HushesCall, hushed-act, hushed-called, hushed-react}
use Rattle.executor_model.proofs.Steps.Reached.{run-first}
use Rattle.executor_model.proofs.Steps.TraceMore.{has-append}
use Rattle.executor_model.proofs.Table.LeakStays.{drops-none, hushed-drop}
use Rattle.executor_laws.specs.LoneEnds.{IsLoneCall, are_onward_of, is_onward_of}
use Rattle.machine_roads.proofs.LoneRuns.{both_true, made_is}

abbrev pub IsOpen : World → Type 0
IsOpen w = has is_drop_begun w.trace ≡ false

pub still : (w v : World) → Hushed is_drop_begun hushed-drop w v → IsOpen w → IsOpen v
still w v x open_now = ap (has is_drop_begun) x.is ∙ has-append is_drop_begun w.trace x.more open_now x.none

pub settled_open : (r : Option Reply) (p : ℕ) (w : World) (os : List Op) → IsOpen w → IsOpen (settled_by r p w os).world
settled_open None p w os open_now = open_now
settled_open (Some r) p w os open_now = has-append is_drop_begun w.trace (event.CallEnded p r ∷ []) open_now refl

gone_on_open : (p : ℕ) (w : World) (os : List Op) (o : Option Op) (d : Op → Done) → ((x : Op) → IsOpen (d x).world) → IsOpen w
    → IsOpen (gone_on p w os o d).world
gone_on_open p w os None d all open_now = open_now
gone_on_open p w os (Some o) d all open_now =
    let todo = below_top os ++ reverse (d o).next in
    settled_open (end_of (top todo)) p (d o).world todo (all o)

pub step_open : (s : Machine) (p : ℕ) (t : Step) → is_onward_of p t ≡ true → IsOpen s.world → IsOpen (after s t).world
step_open s p (Begin q c) onward open_now = absurd cc
step_open s p (Go q h) onward open_now =
    gone_on_open q s.world (stack s q) (top (stack s q)) (λ o. act q h o s.world)
    (λ o. still s.world (act q h o s.world).world (hushed-act is_drop_begun hushed-drop q h o s.world (drops-none q o)) open_now)
    open_now
step_open s p (Answer q e) onward open_now =
    gone_on_open q s.world (stack s q) (top (stack s q)) (λ o. react q o e s.world)
    (λ o. still s.world (react q o e s.world).world (hushed-react is_drop_begun hushed-drop q o e s.world) open_now) open_now

steps_open : (ts : List Step) (s new : Machine) (p : ℕ) → are_onward_of p ts ≡ true → run_all ts s ≡ Ok new → IsOpen s.world
    → IsOpen new.world
steps_open [] s new p onward made open_now = subst (λ (m : Machine). IsOpen m.world) (made_is s new made) open_now
steps_open (t ∷ ts) s new p onward made open_now =
    let both = both_true (is_onward_of p t) (are_onward_of p ts) onward in
    steps_open ts (after s t) new p both.1 (run-first t ts s new made).1 (step_open s p t both.0 open_now)

no_drop : (p : ℕ) (c : Call) → is_drop c ≡ false → HushesCall is_drop_begun hushed-drop p c
no_drop p call.DropExecutor on_road = absurd cc
no_drop p c on_road = tt

pub stays_open : (s new : Machine) (p : ℕ) (c : Call) (steps : List Step) → is_drop c ≡ false → IsLoneCall p c steps s new
    → IsOpen s.world → IsOpen new.world
stays_open s new p c steps on_road lone open_now =
    let d : Done = begun p (log s.world (event.CallBegun p c)) (mine (top (stack s p))) c in
    let todo = stack s p ++ reverse d.next in
    steps_open steps (after s (Begin p c)) new p lone.alone (run-first (Begin p c) steps s new lone.made).1
    (settled_open (end_of (top todo)) p d.world todo
    (still s.world d.world
    (hushed-called is_drop_begun hushed-drop p s.world (mine (top (stack s p))) c (no_drop p c on_road)) open_now))
