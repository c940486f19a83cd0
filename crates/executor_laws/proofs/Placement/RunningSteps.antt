-- For due_futures_stand_with_their_keepers.
-- Each step keeps what holds of each run at every moment.
use Rattle.std.proofs.Common.{◌≡◌, ℕ, ◌+◌, ◌<◌, ◌≤◌, List, [], ◌∷◌, ◌++◌, length, get_or, Bool, true, false, eqb, ltb, cond}
use Rattle.std.proofs.Common.{refl, ap, subst, arith}
use Rattle.std.proofs.lemmas.Bool.Decides.{nat_tests}
use Rattle.std.specs.Prelude.{Option, Some, None, reverse}
use Rattle.executor_laws.proofs.Types.{Move, Call, Event, ListOp, Op, Section, Steal, StealOp, Waker, Hint, UserEnd}
use Rattle.executor_model.specs.Steps.{Machine, accepts, begun, has_all, future_of, kept, mine, react, stack, top, with_future}
use Rattle.executor_model.specs.World.{World, Run, Done, log, no_run, run_of}
use Rattle.executor_model.specs.{Doing.act, OwnQueues.filling_of}
use Rattle.executor_model.proofs.Steps.Lift.{first-true, none_refused, split, unsettled}
use Rattle.executor_model.proofs.Steps.TraceGrows.{Allows, AllowsCall, grows-act, grows-begun, grows-react}
use Rattle.executor_model.proofs.{OwnQueues.OwnRooms.Roomy, OwnQueues.UsingSteps.AllUsed, Steps.Ways.Way, Steps.Ways.Way.acted}
use Rattle.executor_model.proofs.{Steps.Ways.Way.reacted, Steps.Ways.Way.called, OwnQueues.UsingRuns.is_even}
use Rattle.executor_laws.proofs.Placement.Running.{RanIn, grown-alike, ran-make, ran-put, ran-unregister, ran-within}
use Rattle.executor_laws.proofs.Placement.Evens.{Even, even-act, even-react}
use Rattle.executor_laws.proofs.Placement.Leavings.{drops_run, leaves-act, leaves-react, is_unregister}
use Rattle.executor_laws.proofs.Placement.Ran.{is_of_runs, ordinary-runs}
use Rattle.executor_laws.proofs.Placement.RunningCalls.{ran-call, ran-drop, ran-end, ran-poll}
use Rattle.executor_laws.proofs.{Placement.Running.stays-with, Placement.Answering.is_end, Placement.Frames.Frames}
use Rattle.executor_model.specs.ActsOfRuns as runs

-- a steal that is on its way finds a place
pub free : (s : Machine) (p : ℕ) (x : Steal) (more f : ℕ) (rest : List Op) → p < length s.parties →
    stack s p ≡ rest ++ reverse (Op.Steal (StealOp.Put x more f) ∷ []) → Roomy s →
    ltb 0 (runs.free_places s.world x.poll.run) ≡ true
free s p x more f rest l e roomy =
    let q = x.poll.run in
    let self : eqb q q ≡ true = grind (arith, nat_tests) in
    let one : filling_of q (Op.Steal (StealOp.Put x more f)) ≡ more + 1 =
    ap {B = ℕ} (λ (b : Bool). cond b (more + 1) 0) self in
    let room = roomy q in
    let some : 1 ≤ runs.free_places s.world q =
    omega (arith, room, one, split (filling_of q) s.parties p (Op.Steal (StealOp.Put x more f) ∷ []) rest l e) in
    grind (arith, nat_tests)

even-or : (o : Op) → is_even o ≡ true → is_unregister o ≡ false
even-or (Op.List (ListOp.Write y)) e = absurd (cc)
even-or _ e = refl

allows : (p : ℕ) (o : Op) → is_even o ≡ true → is_end o ≡ false → Allows is_of_runs ordinary-runs p o
allows p (Op.Move Move.TakeUp f) e n = refl
allows p (Op.Steal (StealOp.Put y more f)) e n = absurd (cc)
allows p (Op.End a held) e n = absurd (cc)
allows p _ e n = tt

abbrev polls_run : Call → Bool
polls_run (Call.PollRun q b) = true
polls_run _ = false

-- no run changes
runs-with : (v w : World) (x : Option ℕ) (d : ℕ → Done) → w.runs ≡ v.runs → ((f : ℕ) → (d f).world.runs ≡ v.runs) →
    (with_future w x d).world.runs ≡ v.runs
runs-with v w None d e k = e
runs-with v w (Some f) d e k = k f

pub runs-begun : (p : ℕ) (w : World) (o : Option Waker) (c : Call) → drops_run c ≡ false → (begun p w o c).world.runs ≡ w.runs
runs-begun p w o (Call.Wake n) z = runs-with w w (kept w n) _ refl (λ f. refl)
runs-begun p w o (Call.WakeByRef n) z = runs-with w w (kept w n) _ refl (λ f. refl)
runs-begun p w o (Call.Copy n) z = runs-with w w (kept w n) _ refl (λ f. refl)
runs-begun p w o (Call.DropWaker n) z = runs-with w w (kept w n) _ refl (λ f. refl)
runs-begun p w o Call.Keep z = runs-with w w (future_of o) _ refl (λ f. refl)
runs-begun p w o Call.WakeSelf z = runs-with w w (future_of o) _ refl (λ f. refl)
runs-begun p w o (Call.DropRun q) z = absurd (cc)
runs-begun p w o _ z = refl

allowed : (p : ℕ) (c : Call) → drops_run c ≡ false → polls_run c ≡ false → AllowsCall is_of_runs ordinary-runs p c
allowed p (Call.PollRun q b) x y = absurd (cc)
allowed p (Call.DropRun q) x y = absurd (cc)
allowed p _ x y = tt

module _ (s : Machine) (p : ℕ) (rest : List Op) (r : ℕ) (l : p < length s.parties) (used : AllUsed s) (roomy : Roomy s)
    (frames : Frames s) (h : RanIn s r) where
  ran-even : (t : Hint) (o : Op) → is_even o ≡ true → is_end o ≡ false → stack s p ≡ rest ++ reverse (o ∷ []) →
      RanIn (unsettled s p rest (act p t o s.world)) r
  ran-even t o e n k =
      let v : Even s.world (act p t o s.world).world = even-act p t o s.world e in
      ran-within s p (o ∷ []) rest (act p t o s.world) r l k h (v.stage r) (v.past r) v.count
      (grown-alike r s.world (act p t o s.world).world
      (grows-act is_of_runs ordinary-runs p t o s.world (allows p o e n)))
      (leaves-act r p t o s.world n (even-or o e))

  ran-put_by : (b : Bool) (x : Steal) (more f : ℕ) → b ≡ true →
      stack s p ≡ rest ++ reverse (Op.Steal (StealOp.Put x more f) ∷ []) →
      RanIn (unsettled s p rest (runs.steal_put_by b p s.world x more f)) r
  ran-put_by true x more f z k = ran-put s p x more f rest r l k used h
  ran-put_by false x more f z k = absurd (cc)

  ran-act : (b c : Bool) (t : Hint) (o : Op) → is_even o ≡ b → is_end o ≡ c → stack s p ≡ rest ++ reverse (o ∷ []) →
      RanIn (unsettled s p rest (act p t o s.world)) r
  ran-act b true t (Op.End a held) e n k = ran-end s p a held rest l k frames r h
  ran-act b true t _ e n k = absurd (cc)
  ran-act true false t o e n k = ran-even t o e n k
  ran-act false false t (Op.List (ListOp.Write Section.MakeRun)) e n k = ran-make s p rest r l used h k t.refused
  ran-act false false t (Op.List (ListOp.Write (Section.Register x))) e n k =
      stays-with s p rest r l used h x k (run_of s.world x.run).stage refl
  ran-act false false t (Op.List (ListOp.Write (Section.Unregister q a))) e n k =
      ran-unregister s p rest r l used h q a k
  ran-act false false t (Op.Steal (StealOp.Put x more f)) e n k =
      ran-put_by (ltb 0 (runs.free_places s.world x.poll.run)) x more f (free s p x more f rest l k roomy) k
  ran-act false false t _ e n k = absurd (cc)

  user : (o : Op) (u : UserEnd) → accepts o u ≡ true → is_end o ≡ false
  user (Op.User o) u a = refl
  user _ u a = absurd (cc)

  pub ran-way : (old : List Op) (d : Done) → stack s p ≡ rest ++ reverse old → Way s p old rest d →
      RanIn (unsettled s p rest d) r
  ran-way old d e (acted t o q z) =
      rw z (ran-act (is_even o) (is_end o) t o refl refl
      (subst (λ (os : List Op). stack s p ≡ rest ++ reverse os) q e))
  ran-way old d e (reacted o u a q z) =
      let k : stack s p ≡ rest ++ reverse (o ∷ []) = subst (λ (os : List Op). stack s p ≡ rest ++ reverse os) q e in
      let v : Even s.world (react p o u s.world).world = even-react p o u s.world a in
      rw z (ran-within s p (o ∷ []) rest (react p o u s.world) r l k h (v.stage r) (v.past r) v.count
      (grown-alike r s.world (react p o u s.world).world (grows-react is_of_runs ordinary-runs p o u s.world a))
      (leaves-react r p o u s.world a))
  ran-way old d e (called c q w n z) =
      let k : stack s p ≡ rest ++ reverse [] = subst (λ (os : List Op). stack s p ≡ rest ++ reverse os) q e in
      let f : _ = none_refused s.world s.parties (top (stack s p)) c n in
      rw z (by c f.1 k)
    where
      o : Option Waker
      o = mine (top (stack s p))

      alike : (x : Call) → drops_run x ≡ false → polls_run x ≡ false → stack s p ≡ rest ++ reverse [] →
          RanIn (unsettled s p rest (begun p (log s.world (Event.CallBegun p x)) o x)) r
      alike x a b k = ran-call s p rest r l k h x o a
          (ap (λ (rs : List Run). get_or rs r no_run) (runs-begun p (log s.world (Event.CallBegun p x)) o x a))
          (ap (λ (rs : List Run). length rs) (runs-begun p (log s.world (Event.CallBegun p x)) o x a))
          (grown-alike r (log s.world (Event.CallBegun p x)) (begun p (log s.world (Event.CallBegun p x)) o x).world
          (grows-begun is_of_runs ordinary-runs p (log s.world (Event.CallBegun p x)) o x (allowed p x a b)))

      by : (x : Call) → has_all s.world s.parties (top (stack s p)) x ≡ true → stack s p ≡ rest ++ reverse [] →
          RanIn (unsettled s p rest (begun p (log s.world (Event.CallBegun p x)) o x)) r
      by (Call.PollRun q b) a k = ran-poll s p rest r l k h q b o (first-true _ _ (first-true _ _ a))
      by (Call.DropRun q) a k = ran-drop s p rest r l k h q o (first-true _ _ a)
      by x a k = alike x refl refl k
