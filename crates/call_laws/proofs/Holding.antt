-- For calls_can_be_begun.
-- What each call in progress holds until it has ended, and that its frame has one operation which holds that.
use Rattle.std.proofs.Common.{◌≡◌, ◌∙◌, ℕ, ◌<◌, List, [], ◌∷◌, ◌++◌, length, get_or, Bool, true, false, ◌&&◌, ◌||◌, eqb}
use Rattle.std.proofs.Common.{refl, sym, ap, subst}
use Rattle.std.proofs.Common.{arith}
use Rattle.std.proofs.lemmas.List.{append-nil, append_cancel_left}
use Rattle.std.specs.Prelude.{Option, Some, None, reverse}
use Rattle.call_laws.proofs.Types.{Call, ClosingOp, Event, HandleOp, Hold, Kind, ListOp, Mark, Op, QueueOp, Reply, RunOp}
use Rattle.call_laws.proofs.Types.{RunPoll, Section}
use Rattle.call_laws.proofs.Types.{SleeperOp, Step, StealOp, TableOp, TickOp, UserEnd, UserOp, Waker, WakerOp, Hint}
use Rattle.executor_model.specs.Acts.{enter_by}
use Rattle.executor_model.specs.ActsOfRuns.{make_run_by}
use Rattle.executor_model.specs.Calls.{Begun, Ended}
use Rattle.executor_model.specs.Doing.{act}
use Rattle.executor_model.specs.Good.{Good}
use Rattle.executor_model.specs.Steps.{Machine, accepts, begun, drop_run, future_of, has_all, is_some, kept, mine, poll_run}
use Rattle.executor_model.specs.Steps.{react, run}
use Rattle.executor_model.specs.Steps.{stack, start, top, with_future}
use Rattle.executor_model.specs.Trace.{Trace, has, is_accepted}
use Rattle.executor_model.specs.Weights.{weigh}
use Rattle.executor_model.specs.World.{Done, Stage, New, Listed, Ended as EndedStage, World, done, log, run_of}
use Rattle.executor_model.proofs.Promises.{CallFits.fit-act, CallFits.fit-react, CallFrames.Frames}
use Rattle.executor_model.proofs.Promises.CallServes.{makes_run, misfit, spawns}
use Rattle.executor_model.proofs.Promises.FrameWays.{frames-end, frames-start, frames-way}
use Rattle.executor_model.proofs.Quiet.{Calls.is_end, CallsDone.fit-begun}
use Rattle.executor_model.proofs.Steps.Hushed.{Hushes, HushesCall, hushed-act, hushed-begun, hushed-is, hushed-react, is_hushed}
use Rattle.executor_model.proofs.Steps.{Lift.good-start, Lift.unsettled, Lists.weigh-append, TraceMore.has-append}
use Rattle.executor_model.proofs.Steps.Tests.{left-false, right-false}
use Rattle.executor_model.proofs.Steps.Ways.{Way, along}
use Rattle.executor_model.proofs.Steps.Ways.Way.{acted, called, reacted}
use Rattle.call_laws.proofs.Carrying.{carried-act, carried-react, carried_of, is_making}
use Rattle.call_laws.proofs.Idling.{futures_of, idle-act, idle-react, served}
use Rattle.call_laws.specs.InProgress.{uses_executor}

-- what a call holds as it begins
abbrev pub hold_for : Call → Hold
hold_for (Call.Spawn m) = Hold.Executor
hold_for Call.TryTick = Hold.Executor
hold_for Call.IsEmpty = Hold.Executor
hold_for Call.NewTick = Hold.Executor
hold_for Call.NewRun = Hold.Executor
hold_for (Call.WakeByRef k) = Hold.Waker k
hold_for (Call.Copy k) = Hold.Waker k
hold_for (Call.PollHandle f b) = Hold.Handle f
hold_for (Call.Cancel f) = Hold.Handle f
hold_for (Call.Detach f) = Hold.Handle f
hold_for (Call.DropHandle f) = Hold.Handle f
hold_for (Call.PollTick t b) = Hold.Tick t
hold_for (Call.DropTick t) = Hold.Tick t
hold_for (Call.PollRun r b) = Hold.Run r
hold_for (Call.DropRun r) = Hold.Run r
hold_for Call.Leak = Hold.Leaking
hold_for _ = Hold.Nothing

-- and what it holds then: what it was begun with, or what it has made; and it has accepted that future alone, or none
pub data Holds (c : Call) (own : Trace) (held : Hold) : Type 0 where
  as_begun : held ≡ hold_for c → ((g : ℕ) → has (is_accepted g) own ≡ false) → Holds c own held
  spawned : (m : Mark) (f : ℕ) → c ≡ Call.Spawn m → held ≡ Hold.Spawned f → ((g : ℕ) → has (is_accepted g) own ≡ eqb g f) →
      Holds c own held
  made : (r : ℕ) → c ≡ Call.NewRun → held ≡ Hold.Run r → ((g : ℕ) → has (is_accepted g) own ≡ false) → Holds c own held

pub record Held (b : Begun) (os : List Op) : Type 0 where
  pub held : Hold
  pub all : (u : Hold → ℕ) → weigh (carried_of u) os ≡ u held
  pub fits : weigh (misfit b.call) os ≡ 0
  pub idle : uses_executor b.call ≡ false → weigh futures_of os ≡ 0
  pub holds : Holds b.call b.own held

abbrev pub HeldBy : Trace → Begun → List Op → Type 0
HeldBy es b os = Held b os

pub held-later : (es more : Trace) (b : Begun) (os : List Op) → HeldBy es b os → HeldBy (es ++ more) b os
held-later es more b os h = h

abbrev pub Any : Ended → Type 0
Any e = Unit {0}

any-right : (es : Trace) (b : Begun) (a : Reply) (held : Hold) → HeldBy es b (Op.End a held ∷ []) →
    Any (record { call = b.call; own = b.own; reply = a; past = es })
any-right es b a held h = tt

-- what is told accepts none, but where a spawn is

unheard : (g : ℕ) (e : Event) → is_hushed e ≡ true → is_accepted g e ≡ false
unheard g (Event.Accepted p f) z = absurd (cc)
unheard g _ z = refl

hushes : (g p : ℕ) (h : Hint) (o : Op) → is_making h o ≡ false → Hushes (is_accepted g) (unheard g) p o
hushes g p h (Op.Waker (WakerOp.CallAwaiter f a k)) e = refl
hushes g p h (Op.Sleeper (SleeperOp.CallSleeper s)) e = refl
hushes g p h (Op.Run (RunOp.WakeOwn x)) e = refl
hushes g p h (Op.Table (TableOp.Enter mark)) e = absurd (cc)
hushes g p h (Op.User (UserOp.BeginDrop f)) e = refl
hushes g p h (Op.Closing ClosingOp.DropNext) e = λ f. refl
hushes g p h _ e = tt

hushes-call : (g p : ℕ) (c : Call) → HushesCall (is_accepted g) (unheard g) p c
hushes-call g p Call.DropExecutor = refl
hushes-call g p _ = tt

none-more : (c : Call) (own more : Trace) (held : Hold) → ((g : ℕ) → has (is_accepted g) more ≡ false) → Holds c own held →
    Holds c (own ++ more) held
none-more c own more held n (as_begun e k) = as_begun e (λ g. has-append (is_accepted g) own more (k g) (n g))
none-more c own more held n (spawned m f i e k) = spawned m f i e (λ g. grown (is_accepted g) own more (n g) ∙ k g)
  where
    grown : (t : Event → Bool) (xs ys : Trace) → has t ys ≡ false → has t (xs ++ ys) ≡ has t xs
    grown t [] ys z = z
    grown t (x ∷ xs) ys z = ap (λ (b : Bool). t x || b) (grown t xs ys z)
none-more c own more held n (made r i e k) = made r i e (λ g. has-append (is_accepted g) own more (k g) (n g))

-- the frame behind what is done

on-weigh : (v : Op → ℕ) (o : Op) (rest next : List Op) → weigh v next ≡ v o → weigh v (next ++ rest) ≡ weigh v (o ∷ rest)
on-weigh v o rest next e = omega (arith, weigh-append v next rest, e)

on-none : (v : Op → ℕ) (o : Op) (rest next : List Op) → (v o ≡ 0 → weigh v next ≡ 0) → weigh v (o ∷ rest) ≡ 0 →
    weigh v (next ++ rest) ≡ 0
on-none v o rest next k z = omega (arith, weigh-append v next rest, k (omega (arith, z)), z)

-- beside what holds something the frame has nothing that does
abbrev one : Hold → ℕ
one h = 1

bare : (o : Op) → (let n : ℕ = carried_of one o in n) ≡ 0 → (u : Hold → ℕ) → carried_of u o ≡ 0
bare (Op.Table (TableOp.Enter mark)) z u = absurd (omega (arith, z))
bare (Op.Queue QueueOp.TakeTurn) z u = absurd (omega (arith, z))
bare (Op.Queue (QueueOp.Take look)) z u = absurd (omega (arith, z))
bare (Op.Table TableOp.LookAtTable) z u = absurd (omega (arith, z))
bare (Op.Waker (WakerOp.CopyWaker f held)) z u = absurd (omega (arith, z))
bare (Op.Handle (HandleOp.Look f a)) z u = absurd (omega (arith, z))
bare (Op.Handle (HandleOp.CopyAwaiter f a)) z u = absurd (omega (arith, z))
bare (Op.Handle (HandleOp.Register f a k)) z u = absurd (omega (arith, z))
bare (Op.Handle (HandleOp.EndRegister f a k)) z u = absurd (omega (arith, z))
bare (Op.Handle (HandleOp.LookAgain f)) z u = absurd (omega (arith, z))
bare (Op.Tick TickOp.MakeTick) z u = absurd (omega (arith, z))
bare (Op.Tick (TickOp.Search s)) z u = absurd (omega (arith, z))
bare (Op.Tick (TickOp.Look s look)) z u = absurd (omega (arith, z))
bare (Op.Tick (TickOp.CopyWaker s)) z u = absurd (omega (arith, z))
bare (Op.Tick (TickOp.FallAsleep s)) z u = absurd (omega (arith, z))
bare (Op.User (UserOp.PollOwn x)) z u = absurd (omega (arith, z))
bare (Op.List (ListOp.LockWrite s)) z u = absurd (omega (arith, z))
bare (Op.List (ListOp.Write s)) z u = absurd (omega (arith, z))
bare (Op.List (ListOp.LockRead x)) z u = absurd (omega (arith, z))
bare (Op.Steal (StealOp.Length s)) z u = absurd (omega (arith, z))
bare (Op.Steal (StealOp.OwnLength s n)) z u = absurd (omega (arith, z))
bare (Op.Steal (StealOp.Take s n)) z u = absurd (omega (arith, z))
bare (Op.Steal (StealOp.Put s n f)) z u = absurd (omega (arith, z))
bare (Op.Run RunOp.MakeRoom) z u = absurd (omega (arith, z))
bare (Op.Run (RunOp.TakeTurn x)) z u = absurd (omega (arith, z))
bare (Op.Run (RunOp.SearchCommon x look)) z u = absurd (omega (arith, z))
bare (Op.Run (RunOp.LookOwn x at left)) z u = absurd (omega (arith, z))
bare (Op.Run (RunOp.WakeOwn x)) z u = absurd (omega (arith, z))
bare (Op.Run (RunOp.Reschedule r a)) z u = absurd (omega (arith, z))
bare (Op.End r held) z u = absurd (omega (arith, z))
bare _ z u = refl

bares : (os : List Op) → weigh (carried_of one) os ≡ 0 → (u : Hold → ℕ) → weigh (carried_of u) os ≡ 0
bares [] z u = refl
bares (o ∷ os) z u = omega (arith, bare o (omega (arith, z)) u, bares os (omega (arith, z)) u)

abbrev is_spawned : Hold → ℕ
is_spawned (Hold.Spawned f) = 1
is_spawned _ = 0

spawn-is : (c : Call) → spawns c ≡ true → (m : Mark) × (c ≡ Call.Spawn m)
spawn-is (Call.Spawn m) e = (m, refl)
spawn-is _ e = absurd (cc)

make-is : (c : Call) → makes_run c ≡ true → c ≡ Call.NewRun
make-is Call.NewRun e = refl
make-is _ e = absurd (cc)

-- nothing is told
silent : (g : ℕ) (es more : Trace) → es ≡ es ++ more → has (is_accepted g) more ≡ false
silent g es more e = sym (ap (has (is_accepted g)) (append_cancel_left es [] more (append-nil es ∙ e)))

-- a frame whose hold stays
module _ (b : Begun) (o : Op) (rest next : List Op) (more : Trace) (fit : misfit b.call o ≡ 0 → weigh (misfit b.call) next ≡ 0)
    (idles : uses_executor b.call ≡ false → misfit b.call o ≡ 0 → futures_of o ≡ 0 → weigh futures_of next ≡ 0)
    (h : Held b (o ∷ rest)) where
  stays : ((u : Hold → ℕ) → weigh (carried_of u) next ≡ carried_of u o) → ((g : ℕ) → has (is_accepted g) more ≡ false) →
      Held (record b { own = b.own ++ more }) (next ++ rest)
  stays k n = record {
    held = h.held;
    all = λ u. on-weigh (carried_of u) o rest next (k u) ∙ h.all u;
    fits = on-none (misfit b.call) o rest next fit h.fits;
    idle = λ e. on-none futures_of o rest next (idles e (omega (arith, h.fits))) (h.idle e);
    holds = none-more b.call b.own more h.held n h.holds;
  }

  changes : (new : Hold) → ((u : Hold → ℕ) → weigh (carried_of u) next ≡ u new) → (let n : ℕ = carried_of one o in n) ≡ 1 →
      Holds b.call (b.own ++ more) new → Held (record b { own = b.own ++ more }) (next ++ rest)
  changes new k z x = record {
    held = new;
    all = λ u. omega (arith, weigh-append (carried_of u) next rest, k u, bares rest (omega (arith, h.all one, z)) u);
    fits = on-none (misfit b.call) o rest next fit h.fits;
    idle = λ e. on-none futures_of o rest next (idles e (omega (arith, h.fits))) (h.idle e);
    holds = x;
  }

-- a spawn is accepted
took : (c : Call) (own : Trace) (held : Hold) (m : Mark) (p f : ℕ) → c ≡ Call.Spawn m → is_spawned held ≡ 0 → Holds c own held →
    Holds c (own ++ Event.Accepted p f ∷ []) (Hold.Spawned f)
took c own held m p f i z (as_begun e k) = spawned m f i refl (λ g. last g own (k g))
  where
    last : (g : ℕ) (xs : Trace) → has (is_accepted g) xs ≡ false → has (is_accepted g) (xs ++ Event.Accepted p f ∷ []) ≡ eqb g f
    last g [] e = by (eqb g f)
      where
        by : (b : Bool) → (b || false) ≡ b
        by true = refl
        by false = refl
    last g (x ∷ xs) e = ap (λ (b : Bool). b || has (is_accepted g) (xs ++ Event.Accepted p f ∷ []))
        (left-false (is_accepted g x) (has (is_accepted g) xs) e) ∙ last g xs (right-false (is_accepted g x) (has (is_accepted g) xs) e)
took c own held m p f i z (spawned n g j e k) = absurd (omega (arith, z, ap is_spawned e))
took c own held m p f i z (made r j e k) = let no : Call.Spawn m ≡ Call.NewRun = sym i ∙ j in absurd (cc)

enters : (x y : Bool) (m : Mark) (p : ℕ) (w : World) (b : Begun) (rest : List Op) (more : Trace) →
    (misfit b.call (Op.Table (TableOp.Enter m)) ≡ 0 → weigh (misfit b.call) (enter_by x y m p w).next ≡ 0) →
    (uses_executor b.call ≡ false → misfit b.call (Op.Table (TableOp.Enter m)) ≡ 0 → futures_of (Op.Table (TableOp.Enter m)) ≡ 0 →
    weigh futures_of (enter_by x y m p w).next ≡ 0) →
    (enter_by x y m p w).world.trace ≡ w.trace ++ more → Held b (Op.Table (TableOp.Enter m) ∷ rest) →
    Held (record b { own = b.own ++ more }) ((enter_by x y m p w).next ++ rest)
enters true y m p w b rest more fit idles e h =
    stays b (Op.Table (TableOp.Enter m)) rest (enter_by true y m p w).next more fit idles h
    (λ u. omega arith) (λ g. silent g w.trace more e)
enters false true m p w b rest more fit idles e h =
    stays b (Op.Table (TableOp.Enter m)) rest (enter_by false true m p w).next more fit idles h
    (λ u. omega arith) (λ g. silent g w.trace more e)
enters false false m p w b rest more fit idles e h =
    let i : Event.Accepted p (length w.tasks) ∷ [] ≡ more = append_cancel_left w.trace _ more e in
    let c : _ = spawn-is b.call (served (spawns b.call) (omega (arith, h.fits))) in
    changes b (Op.Table (TableOp.Enter m)) rest (enter_by false false m p w).next more fit idles h
    (Hold.Spawned (length w.tasks)) (λ u. omega arith) refl
    (subst (λ (xs : Trace). Holds b.call (b.own ++ xs) (Hold.Spawned (length w.tasks))) i
    (took b.call b.own h.held c.0 p (length w.tasks) c.1 (omega (arith, h.all is_spawned, none-spawned rest (h.all one))) h.holds))
  where
    none-spawned : (rest : List Op) → weigh (carried_of one) (Op.Table (TableOp.Enter m) ∷ rest) ≡ 1 →
        weigh (carried_of is_spawned) rest ≡ 0
    none-spawned rest e = bares rest (omega (arith, e)) is_spawned

-- a run is made
makes : (x : Bool) (w : World) (b : Begun) (rest : List Op) (more : Trace) →
    (misfit b.call (Op.List (ListOp.Write Section.MakeRun)) ≡ 0 → weigh (misfit b.call) (make_run_by x w).next ≡ 0) →
    (uses_executor b.call ≡ false → misfit b.call (Op.List (ListOp.Write Section.MakeRun)) ≡ 0 →
    futures_of (Op.List (ListOp.Write Section.MakeRun)) ≡ 0 → weigh futures_of (make_run_by x w).next ≡ 0) →
    (make_run_by x w).world.trace ≡ w.trace ++ more → Held b (Op.List (ListOp.Write Section.MakeRun) ∷ rest) →
    Held (record b { own = b.own ++ more }) ((make_run_by x w).next ++ rest)
makes true w b rest more fit idles e h =
    stays b (Op.List (ListOp.Write Section.MakeRun)) rest (make_run_by true w).next more fit idles h
    (λ u. omega arith) (λ g. silent g w.trace more e)
makes false w b rest more fit idles e h =
    let c : b.call ≡ Call.NewRun = make-is b.call (served (makes_run b.call) (omega (arith, h.fits))) in
    changes b (Op.List (ListOp.Write Section.MakeRun)) rest (make_run_by false w).next more fit idles h
    (Hold.Run (length w.runs)) (λ u. omega arith) refl
    (made (length w.runs) c refl (λ g. has-append (is_accepted g) b.own more (none h.holds g) (silent g w.trace more e)))
  where
    none : Holds b.call b.own h.held → (g : ℕ) → has (is_accepted g) b.own ≡ false
    none (as_begun i k) = k
    none (spawned m f i j k) =
        let c : b.call ≡ Call.NewRun = make-is b.call (served (makes_run b.call) (omega (arith, h.fits))) in
        let no : Call.Spawn m ≡ Call.NewRun = sym i ∙ c in absurd (cc)
    none (made r i j k) = k

-- each way in which a party goes on

acts : (p : ℕ) (h : Hint) (o : Op) (w : World) → is_end o ≡ false → (b : Begun) (rest : List Op) (more : Trace) →
    (act p h o w).world.trace ≡ w.trace ++ more → Held b (o ∷ rest) →
    Held (record b { own = b.own ++ more }) ((act p h o w).next ++ rest)
acts p h (Op.Table (TableOp.Enter m)) w n b rest more e k =
    enters _ _ m p w b rest more (fit-act b.call p h (Op.Table (TableOp.Enter m)) w n)
    (λ u i z. idle-act b.call p h (Op.Table (TableOp.Enter m)) w u n i z) e k
acts p h (Op.List (ListOp.Write Section.MakeRun)) w n b rest more e k =
    makes h.refused w b rest more (fit-act b.call p h (Op.List (ListOp.Write Section.MakeRun)) w n)
    (λ u i z. idle-act b.call p h (Op.List (ListOp.Write Section.MakeRun)) w u n i z) e k
acts p h o w n b rest more e k = by (is_making h o) refl
  where
    by : (x : Bool) → is_making h o ≡ x → Held (record b { own = b.own ++ more }) ((act p h o w).next ++ rest)
    by false z = stays b o rest (act p h o w).next more (fit-act b.call p h o w n) (λ u i y. idle-act b.call p h o w u n i y) k
        (λ u. carried-act u p h o w n z)
        (λ g. hushed-is (is_accepted g) (unheard g) w (act p h o w).world more e
        (hushed-act (is_accepted g) (unheard g) p h o w (hushes g p h o z)))
    by true z = absurd (cc)

reacts : (p : ℕ) (o : Op) (x : UserEnd) (w : World) → accepts o x ≡ true → (b : Begun) (rest : List Op) (more : Trace) →
    (react p o x w).world.trace ≡ w.trace ++ more → Held b (o ∷ rest) →
    Held (record b { own = b.own ++ more }) ((react p o x w).next ++ rest)
reacts p o x w a b rest more e k =
    stays b o rest (react p o x w).next more (fit-react b.call p o x w a) (λ u i y. idle-react p o x w a y) k
    (λ u. carried-react u p o x w a)
    (λ g. hushed-is (is_accepted g) (unheard g) w (react p o x w).world more e
    (hushed-react (is_accepted g) (unheard g) p o x w))

way-on : (s : Machine) (p : ℕ) (old rest : List Op) (d : Done) → Way s p old rest d → (o : Op) → old ≡ o ∷ [] →
    is_end o ≡ false → (more : Trace) → d.world.trace ≡ s.world.trace ++ more → (b : Begun) (below : List Op) → Held b (o ∷ below) →
    Held (record b { own = b.own ++ more }) (d.next ++ below)
way-on s p old rest d (acted h x q z) o e n more t b below k =
    let i : o ≡ x = (let y : x ∷ [] ≡ o ∷ [] = sym q ∙ e in cc) in
    subst (λ (y : Done). Held (record b { own = b.own ++ more }) (y.next ++ below)) (sym z)
    (acts p h x s.world (ap is_end (sym i) ∙ n) b below more (subst (λ (y : Done). y.world.trace ≡ s.world.trace ++ more) z t)
    (subst (λ (y : Op). Held b (y ∷ below)) i k))
way-on s p old rest d (reacted x u a q z) o e n more t b below k =
    let i : o ≡ x = (let y : x ∷ [] ≡ o ∷ [] = sym q ∙ e in cc) in
    subst (λ (y : Done). Held (record b { own = b.own ++ more }) (y.next ++ below)) (sym z)
    (reacts p x u s.world a b below more (subst (λ (y : Done). y.world.trace ≡ s.world.trace ++ more) z t)
    (subst (λ (y : Op). Held b (y ∷ below)) i k))
way-on s p old rest d (called c q r n z) o e m more t b below k =
    let no : [] ≡ o ∷ [] = sym q ∙ e in absurd (cc)

-- as a call begins

with-one : (P : Done → Type 0) (w : World) (x : Option ℕ) (d : ℕ → Done) → is_some x ≡ true → ((f : ℕ) → P (d f)) →
    P (with_future w x d)
with-one P w None d e k = absurd (cc)
with-one P w (Some f) d e k = k f

left-true : (a b : Bool) → (a && b) ≡ true → a ≡ true
left-true true b e = refl
left-true false b e = absurd (cc)

on-poll_run : (u : Hold → ℕ) (t : Stage) (x : RunPoll) → weigh (carried_of u) (poll_run t x) ≡ u (Hold.Run x.run)
on-poll_run u New x = omega arith
on-poll_run u Listed x = omega arith
on-poll_run u EndedStage x = omega arith

on-drop_run : (u : Hold → ℕ) (t : Stage) (r : ℕ) → weigh (carried_of u) (drop_run t r) ≡ u (Hold.Run r)
on-drop_run u New r = omega arith
on-drop_run u Listed r = omega arith
on-drop_run u EndedStage r = omega arith

carried-begun : (u : Hold → ℕ) (p : ℕ) (w : World) (v : World) (ss : List (List Op)) (o : Option Op) (c : Call) →
    has_all v ss o c ≡ true → v.wakers ≡ w.wakers → weigh (carried_of u) (begun p w (mine o) c).next ≡ u (hold_for c)
carried-begun u p w v ss o (Call.Spawn m) e q = omega arith
carried-begun u p w v ss o Call.TryTick e q = omega arith
carried-begun u p w v ss o Call.IsEmpty e q = omega arith
carried-begun u p w v ss o (Call.Wake k) e q = with-one (λ (d : Done). weigh (carried_of u) d.next ≡ u Hold.Nothing) w (kept w k) _
    (subst (λ (ws : List (Option ℕ)). is_some (get_or ws k None) ≡ true) q (left-true (is_some (kept v k)) _ e)) (λ f. omega arith)
carried-begun u p w v ss o (Call.WakeByRef k) e q = with-one (λ (d : Done). weigh (carried_of u) d.next ≡ u (Hold.Waker k)) w (kept w k) _
    (subst (λ (ws : List (Option ℕ)). is_some (get_or ws k None) ≡ true) q e) (λ f. omega arith)
carried-begun u p w v ss o (Call.Copy k) e q = with-one (λ (d : Done). weigh (carried_of u) d.next ≡ u (Hold.Waker k)) w (kept w k) _
    (subst (λ (ws : List (Option ℕ)). is_some (get_or ws k None) ≡ true) q e) (λ f. omega arith)
carried-begun u p w v ss o (Call.DropWaker k) e q = with-one (λ (d : Done). weigh (carried_of u) d.next ≡ u Hold.Nothing) w (kept w k) _
    (subst (λ (ws : List (Option ℕ)). is_some (get_or ws k None) ≡ true) q (left-true (is_some (kept v k)) _ e)) (λ f. omega arith)
carried-begun u p w v ss o Call.Keep e q = with-one (λ (d : Done). weigh (carried_of u) d.next ≡ u Hold.Nothing) w (future_of (mine o)) _
    e (λ f. omega arith)
carried-begun u p w v ss o Call.WakeSelf e q = with-one (λ (d : Done). weigh (carried_of u) d.next ≡ u Hold.Nothing) w
    (future_of (mine o)) _ e (λ f. omega arith)
carried-begun u p w v ss o (Call.PollHandle f b) e q = omega arith
carried-begun u p w v ss o (Call.Cancel f) e q = omega arith
carried-begun u p w v ss o (Call.Detach f) e q = omega arith
carried-begun u p w v ss o (Call.DropHandle f) e q = omega arith
carried-begun u p w v ss o Call.NewTick e q = omega arith
carried-begun u p w v ss o (Call.PollTick t b) e q = omega arith
carried-begun u p w v ss o (Call.DropTick t) e q = omega arith
carried-begun u p w v ss o Call.NewRun e q = omega arith
carried-begun u p w v ss o (Call.PollRun r b) e q = on-poll_run u (run_of w r).stage _
carried-begun u p w v ss o (Call.DropRun r) e q = on-drop_run u (run_of w r).stage r
carried-begun u p w v ss o Call.Leak e q = omega arith
carried-begun u p w v ss o Call.DropExecutor e q = omega arith

idle-with : (w : World) (x : Option ℕ) (d : ℕ → Done) → ((f : ℕ) → weigh futures_of (d f).next ≡ 0) →
    weigh futures_of (with_future w x d).next ≡ 0
idle-with w None d k = refl
idle-with w (Some f) d k = k f

idle-begun : (p : ℕ) (w : World) (here : Option Waker) (c : Call) → uses_executor c ≡ false → weigh futures_of (begun p w here c).next ≡ 0
idle-begun p w here (Call.Wake k) e = idle-with w (kept w k) _ (λ f. refl)
idle-begun p w here (Call.WakeByRef k) e = idle-with w (kept w k) _ (λ f. refl)
idle-begun p w here (Call.Copy k) e = idle-with w (kept w k) _ (λ f. refl)
idle-begun p w here (Call.DropWaker k) e = idle-with w (kept w k) _ (λ f. refl)
idle-begun p w here Call.Keep e = idle-with w (future_of here) _ (λ f. refl)
idle-begun p w here Call.WakeSelf e = idle-with w (future_of here) _ (λ f. refl)
idle-begun p w here (Call.PollHandle f b) e = refl
idle-begun p w here (Call.Cancel f) e = refl
idle-begun p w here (Call.Detach f) e = refl
idle-begun p w here (Call.DropHandle f) e = refl
idle-begun p w here Call.Leak e = refl
idle-begun p w here Call.DropExecutor e = refl
idle-begun p w here _ e = absurd (cc)

begins : (s : Machine) (p : ℕ) (c : Call) (d : Done) (more : Trace) → has_all s.world s.parties (top (stack s p)) c ≡ true →
    d ≡ begun p (log s.world (Event.CallBegun p c)) (mine (top (stack s p))) c →
    d.world.trace ≡ (s.world.trace ++ Event.CallBegun p c ∷ []) ++ more → Held (record { call = c; own = more }) d.next
begins s p c d more a z t =
    let w : World = log s.world (Event.CallBegun p c) in
    let here : Option Waker = mine (top (stack s p)) in
    subst (λ (x : Done). Held (record { call = c; own = more }) x.next) (sym z) (record {
      held = hold_for c;
      all = λ u. carried-begun u p w s.world s.parties (top (stack s p)) c a refl;
      fits = fit-begun p w here c;
      idle = idle-begun p w here c;
      holds = as_begun refl (λ g. hushed-is (is_accepted g) (unheard g) w (begun p w here c).world more
          (subst (λ (x : Done). x.world.trace ≡ w.trace ++ more) z t)
          (hushed-begun (is_accepted g) (unheard g) p w here c (hushes-call g p c)));
    })

-- at every moment

abbrev pub AllHeld : Machine → Type 0
AllHeld s = Frames HeldBy held-later Any s

moves : (s : Machine) (p : ℕ) (old rest : List Op) (d : Done) → Good s → p < length s.parties →
    stack s p ≡ rest ++ reverse old → Way s p old rest d → AllHeld s → AllHeld (unsettled s p rest d)
moves s p old rest d good l e way f =
    frames-way HeldBy held-later Any any-right s p old rest d l e f
    (λ o q n more t b below h. way-on s p old rest d way o q n more t b below h)
    (λ c q a more z t. begins s p c d more a z t) way

over : (s : Machine) (p : ℕ) (a : Reply) (held : Hold) (below : List Op) → p < length s.parties →
    stack s p ≡ below ++ reverse (Op.End a held ∷ []) → AllHeld s →
    AllHeld (unsettled s p below (done (log s.world (Event.CallEnded p a)) []))
over s p a held below l e f = frames-end HeldBy held-later Any any-right s p a held below l e f

pub all-held : (limit : ℕ) (kind : Kind) (n : ℕ) (ts : List Step) → AllHeld (run ts (start limit kind n))
all-held limit kind n ts = along AllHeld moves over ts (start limit kind n) (good-start limit kind n)
    (frames-start HeldBy held-later Any any-right limit kind n)
