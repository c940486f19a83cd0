-- For drops_of_ticks_and_runs_are_told.
-- A call that drops a tick or run tells so as it begins, and that stays among what it did.
use Rattle.std.proofs.Common.{◌≡◌, ℕ, ◌<◌, List, [], ◌∷◌, ◌++◌, length, Bool, true, false, ◌||◌, eqb, refl, ap, subst, arith}
use Rattle.std.proofs.lemmas.Bool.Decides.{nat_tests}
use Rattle.std.proofs.lemmas.List.{append_cancel_left}
use Rattle.std.specs.Prelude.{Option, reverse}
use Rattle.call_laws.proofs.Types.{Call, Event, Hold, Kind, Op, Reply, Step, Waker}
use Rattle.executor_model.specs.Calls.{Begun, Ended}
use Rattle.executor_model.specs.Good.{Good}
use Rattle.executor_model.specs.Steps.{Machine, begun, mine, run, stack, start, top}
use Rattle.executor_model.specs.Trace.{Trace, has}
use Rattle.executor_model.specs.World.{Done, World, done, log}
use Rattle.executor_model.proofs.Promises.{CallFrames.Frames}
use Rattle.executor_model.proofs.Promises.FrameWays.{frames-end, frames-start, frames-way}
use Rattle.executor_model.proofs.Steps.{Lift.good-start, Lift.unsettled}
use Rattle.executor_model.proofs.Steps.Ways.{Way, along}
use Rattle.call_laws.specs.DropsTold.{DropsAreTold, HasTold, drops_run, drops_tick}

abbrev Told : Trace → Begun → List Op → Type 0
Told es b os = HasTold b.call b.own

told-later : (es more : Trace) (b : Begun) (os : List Op) → Told es b os → Told (es ++ more) b os
told-later es more b os h = h

abbrev Right : Ended → Type 0
Right e = HasTold e.call e.own

right : (es : Trace) (b : Begun) (a : Reply) (held : Hold) → Told es b (Op.End a held ∷ []) →
    Right (record { call = b.call; own = b.own; reply = a; past = es })
right es b a held h = h

more-left : (t : Event → Bool) (xs ys : Trace) → has t xs ≡ true → has t (xs ++ ys) ≡ true
more-left t [] ys e = absurd (cc)
more-left t (x ∷ xs) ys e = by (t x) e (λ z. more-left t xs ys z)
  where
    by : (b : Bool) → (b || has t xs) ≡ true → (has t xs ≡ true → has t (xs ++ ys) ≡ true) → (b || has t (xs ++ ys)) ≡ true
    by true z f = refl
    by false z f = f z

told-more : (c : Call) (own more : Trace) → HasTold c own → HasTold c (own ++ more)
told-more (Call.DropTick t) own more h = more-left (drops_tick t) own more h
told-more (Call.DropRun r) own more h = more-left (drops_run r) own more h
told-more _ own more h = tt

itself : (n : ℕ) → (eqb n n || false) ≡ true
itself n = let e : eqb n n ≡ true = grind (arith, nat_tests) in ap (λ (b : Bool). b || false) e

told-begun : (p : ℕ) (w : World) (here : Option Waker) (c : Call) (more : Trace) →
    (begun p w here c).world.trace ≡ w.trace ++ more → HasTold c more
told-begun p w here (Call.DropTick t) more e =
    let i : Event.TickDropped p t ∷ [] ≡ more = append_cancel_left w.trace (Event.TickDropped p t ∷ []) more e in
    subst (λ (xs : Trace). has (drops_tick t) xs ≡ true) i (itself t)
told-begun p w here (Call.DropRun r) more e =
    let i : Event.RunDropped p r ∷ [] ≡ more = append_cancel_left w.trace (Event.RunDropped p r ∷ []) more e in
    subst (λ (xs : Trace). has (drops_run r) xs ≡ true) i (itself r)
told-begun p w here _ more e = tt

abbrev AllTold : Machine → Type 0
AllTold s = Frames Told told-later Right s

moves : (s : Machine) (p : ℕ) (old rest : List Op) (d : Done) → Good s → p < length s.parties →
    stack s p ≡ rest ++ reverse old → Way s p old rest d → AllTold s → AllTold (unsettled s p rest d)
moves s p old rest d good l e way f =
    frames-way Told told-later Right right s p old rest d l e f
    (λ o q n more t b below h. told-more b.call b.own more h)
    (λ c q a more z t. told-begun p (log s.world (Event.CallBegun p c)) (mine (top (stack s p))) c more
    (subst (λ (x : Done). x.world.trace ≡ (s.world.trace ++ Event.CallBegun p c ∷ []) ++ more) z t)) way

over : (s : Machine) (p : ℕ) (a : Reply) (held : Hold) (below : List Op) → p < length s.parties →
    stack s p ≡ below ++ reverse (Op.End a held ∷ []) → AllTold s →
    AllTold (unsettled s p below (done (log s.world (Event.CallEnded p a)) []))
over s p a held below l e f = frames-end Told told-later Right right s p a held below l e f

all-told : (limit : ℕ) (kind : Kind) (n : ℕ) (ts : List Step) → AllTold (run ts (start limit kind n))
all-told limit kind n ts = along AllTold moves over ts (start limit kind n) (good-start limit kind n)
    (frames-start Told told-later Right right limit kind n)

pub every-told : (limit : ℕ) (kind : Kind) (parties : ℕ) (steps : List Step) (q : ℕ) →
    DropsAreTold q (run steps (start limit kind parties)).world.trace
every-told limit kind parties steps q = (all-told limit kind parties steps).right q
