-- Lone calls of machines: what is said of a call in a world holds of them.
use Rattle.std.proofs.Common.{◌≡◌, ℕ, ◌<◌, ◌≤◌, ◌++◌, ◌∙◌, Bool, true, false, [], ◌∷◌, length, nat_lt, slice_get, Option, None}
use Rattle.std.proofs.Common.{refl, sym, ap, subst, arith}
use Rattle.std.proofs.lemmas.Bool.Decides.{nat_tests}
use Rattle.std.proofs.lemmas.Option.{slice_get_past}
use Rattle.task_moves.specs.AbstractTask as abstract
use Rattle.task_moves.specs.AbstractTask.{AbstractTask}
use Rattle.task_moves.specs.AbstractTask.Polled.{Cancelled as IsCancelled, Waits}
use Rattle.task_moves.specs.Moves as moves
use Rattle.executor_model.specs.declared.call.Call.TheVariants as call
use Rattle.executor_model.specs.declared.event.Event.TheVariants as event
use Rattle.executor_model.specs.declared.op.HandleOp.TheVariants as handle_op
use Rattle.executor_model.specs.declared.op.Hold.TheVariants as hold
use Rattle.executor_model.specs.declared.op.Op.TheVariants as op
use Rattle.executor_model.specs.declared.op.TableOp.TheVariants as table_op
use Rattle.executor_model.specs.declared.op.TickOp.TheVariants as tick_op
use Rattle.executor_model.specs.declared.op.Waker.{Waker}
use Rattle.executor_model.specs.declared.op.WakerOp.TheVariants as waker_op
use Rattle.executor_model.specs.Quiet.{IsQuiet}
use Rattle.executor_model.specs.Acts.{look, look_by}
use Rattle.executor_model.specs.Steps.{Machine, run, start, waker_of, with_future}
use Rattle.executor_model.specs.World.{World, awaiter_of, done, log}
use Rattle.executor_model.specs.World as world
use Rattle.executor_model.proofs.Steps.Reached.{Reached}
use Rattle.plain_scheduler.specs.State.{Future, Plain}
use Rattle.plain_scheduler.specs.Lists.{or}
use Rattle.plain_scheduler.specs.Moves.{no_task, task}
use Rattle.plain_scheduler.specs.Calls.{does, Copy, NewTick, PollHandle, Spawn}
use Rattle.machine_roads.specs.View.{Output, waker_in, wakes}
use Rattle.machine_roads.specs.Road.{Follows}
use Rattle.machine_roads.specs.Lone.{EachLoneAlike, LoneCancels, LoneCopies, LoneEmpty, LoneSpawns, LoneUses, LoneWakerGoes}
use Rattle.machine_roads.specs.Lone.{LoneDetaches, LoneHandleGoes, LoneHandlePolls, LoneHandleWaits, LoneTickGoes}
use Rattle.machine_roads.specs.Lone.{LoneTickIsMade, LoneWakes}
use Rattle.machine_roads.proofs.Calling.{cancels, copies_kept, detaches, empty_alike, handle_goes, spawns, uses_alike}
use Rattle.machine_roads.proofs.Calling.{waker_goes, wakes_kept}
use Rattle.machine_roads.proofs.LoneRuns.{lone_calls, lone_calls_so}
use Rattle.machine_roads.proofs.LoneTold.{lone_calls_told, lone_calls_told_twice}
use Rattle.machine_roads.proofs.PollCalls.{polls}
use Rattle.machine_roads.proofs.Polling.{waits_poll}
use Rattle.machine_roads.proofs.Ticking.{makes_tick, tick_goes}

pub each : (So : Machine → Plain Output Waker → Type 0)
    → ((s : Machine) → Reached s → (q : Plain Output Waker) → IsQuiet s.world.trace → Follows s.world q → So s q)
    → EachLoneAlike So
each So so limit kind parties steps q quiet follows =
    so (run steps (start limit kind parties))
    (record { limit = limit; kind = kind; parties = parties; steps = steps; is = refl }) q quiet follows

-- a future of which a poll has to wait is there
waits_below : (f : ℕ) (w : World) (q : Plain Output Waker) → Follows w q → abstract.polled (task f q) ≡ Waits → f < length w.tasks
waits_below f w q follows waits = by (nat_lt f (length w.tasks)) refl
  where
    below : (n m : ℕ) → nat_lt n m ≡ true → n < m
    below n m is = grind (arith, nat_tests)

    above : (n m : ℕ) → nat_lt n m ≡ false → m ≤ n
    above n m is = grind (arith, nat_tests)

    by : (b : Bool) → nat_lt f (length w.tasks) ≡ b → f < length w.tasks
    by true is = below f (length w.tasks) is
    by false is =
        let none : slice_get q.futures f ≡ None =
        slice_get_past q.futures f (subst (λ n. n ≤ f) follows.many (above f (length w.tasks) is)) in
        let no : IsCancelled ≡ Waits =
        sym (ap (λ (o : Option (Future Output Waker)). abstract.polled (or o (λ future. future.task) no_task)) none) ∙ waits in
        absurd cc

-- who has to wait copies its waker next
pub looks_on : (p f : ℕ) (a : Waker) (w later : World) (q : Plain Output Waker) → Follows w q
    → abstract.polled (task f q) ≡ Waits → world.task later f ≡ world.task w f
    → (look p later f a).next ++ [] ≡ op.Handle (handle_op.CopyAwaiter f a) ∷ []
looks_on p f a w later q follows waits same =
    ap (λ s. (look_by (moves.poll s).owed.answer p later f a (moves.poll s)).next ++ []) same
    ∙ ap (λ o. (look_by o p later f a (moves.poll (world.task w f))).next ++ [])
    (waits_poll (world.task w f) (waker_in (awaiter_of w f))
    (sym (ap (λ (t : AbstractTask Output Waker). abstract.polled t) (follows.tasks f (waits_below f w q follows waits))) ∙ waits))

pub lone_uses : EachLoneAlike LoneUses
lone_uses = each LoneUses (λ s reached q quiet follows p k f c steps is many new later lone.
    lone_calls s reached p (call.Wake k) steps new _ quiet later (uses_alike p [] refl None s.world q follows c k f is many) lone)

pub lone_wakes : EachLoneAlike LoneWakes
lone_wakes = each LoneWakes (λ s reached q quiet follows p k f c steps is many new later lone.
    lone_calls s reached p (call.WakeByRef k) steps new _ quiet later (wakes_kept p [] refl None s.world q follows c k f is many) lone)

pub lone_waker_goes : EachLoneAlike LoneWakerGoes
lone_waker_goes = each LoneWakerGoes (λ s reached q quiet follows p k f c steps is many new later lone.
    lone_calls s reached p (call.DropWaker k) steps new _ quiet later (waker_goes p [] refl None s.world q follows c k f is many) lone)

pub lone_cancels : EachLoneAlike LoneCancels
lone_cancels = each LoneCancels (λ s reached q quiet follows p f c steps many new later lone.
    lone_calls s reached p (call.Cancel f) steps new _ quiet later (cancels p [] refl None s.world q follows c f many) lone)

pub lone_detaches : EachLoneAlike LoneDetaches
lone_detaches = each LoneDetaches (λ s reached q quiet follows p f c steps none many new later lone.
    lone_calls s reached p (call.Detach f) steps new _ quiet later (detaches p [] refl None s.world q follows c f none many) lone)

pub lone_handle_goes : EachLoneAlike LoneHandleGoes
lone_handle_goes = each LoneHandleGoes (λ s reached q quiet follows p f c steps none many new later lone.
    lone_calls s reached p (call.DropHandle f) steps new _ quiet later (handle_goes p [] refl None s.world q follows c f none many) lone)

pub lone_polls : EachLoneAlike LoneHandlePolls
lone_polls = each LoneHandlePolls (λ s reached q quiet follows p f c b steps found many new later lone.
    lone_calls_so s reached p (call.PollHandle f b) steps new (λ w. Follows w (does wakes c (PollHandle f (waker_of None b)) q)) quiet later
    (λ hints. polls p None [] s.world q refl follows c f b many hints (λ waits. absurd (found waits))) lone)

pub lone_waits : EachLoneAlike LoneHandleWaits
lone_waits = each LoneHandleWaits (λ s reached q quiet follows p f c b g h steps waits many granted new later lone.
    let a = waker_of None b in
    lone_calls_told_twice s reached p (call.PollHandle f b) g h (op.Handle (handle_op.Look f a))
    (op.Handle (handle_op.CopyAwaiter f a)) steps new (λ w. Follows w (does wakes c (PollHandle f a) q)) quiet later refl refl refl
    (looks_on p f a s.world (log s.world (event.CallBegun p (call.PollHandle f b))) q follows waits refl) (λ w. refl) refl
    (λ hints all rests. polls p None [] s.world q refl follows c f b many (g ∷ h ∷ hints) (λ is. granted) all rests) lone)

pub lone_tick_is_made : EachLoneAlike LoneTickIsMade
lone_tick_is_made = each LoneTickIsMade (λ s reached q quiet follows p c h steps granted new later lone.
    lone_calls_told s reached p call.NewTick h (op.Tick tick_op.MakeTick) steps new (λ w. Follows w (does wakes c NewTick q)) quiet later
    refl refl refl
    (λ hints all rests. makes_tick p None [] s.world q refl follows c (h ∷ hints) granted all rests) lone)

pub lone_tick_goes : EachLoneAlike LoneTickGoes
lone_tick_goes = each LoneTickGoes (λ s reached q quiet follows p t c steps many new later lone.
    lone_calls s reached p (call.DropTick t) steps new _ quiet later (tick_goes p None [] s.world q refl follows c t many) lone)

pub lone_empty : EachLoneAlike LoneEmpty
lone_empty = each LoneEmpty (λ s reached q quiet follows p c steps new later lone.
    lone_calls s reached p call.IsEmpty steps new _ quiet later (empty_alike p [] refl None s.world q follows c) lone)

pub lone_spawns : EachLoneAlike LoneSpawns
lone_spawns = each LoneSpawns (λ s reached q quiet follows p m c h steps many granted new later lone.
    lone_calls_told s reached p (call.Spawn m) h (op.Table (table_op.Enter m)) steps new
    (λ w. Follows w (does wakes c (Spawn m) q)) quiet later refl refl refl
    (λ hints all rests. spawns p [] refl None s.world q follows c m many (h ∷ hints) granted all rests) lone)

pub lone_copies : EachLoneAlike LoneCopies
lone_copies = each LoneCopies (λ s reached q quiet follows p k f c h steps is granted new later lone.
    lone_calls_told s reached p (call.Copy k) h (op.Waker (waker_op.CopyWaker f (hold.Waker k))) steps new
    (λ w. Follows w (does wakes c (Copy f) q)) quiet later
    (ap (λ o. (with_future (log s.world (event.CallBegun p (call.Copy k))) o (λ f. done (log s.world (event.CallBegun p (call.Copy k)))
    (op.Waker (waker_op.CopyWaker f (hold.Waker k)) ∷ []))).next) is)
    refl refl
    (λ hints all rests. copies_kept p [] refl None s.world q follows c k f is (h ∷ hints) granted all rests) lone)
