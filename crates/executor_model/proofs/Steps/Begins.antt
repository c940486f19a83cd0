-- For all laws.
-- What the beginning of a call keeps.
use Rattle.std.proofs.Common.{◌≡◌, ℕ, zero, suc, ◌+◌, ◌≤◌, List, [], ◌∷◌, length, Bool, true, false, ◌&&◌, ◌||◌, not, eqb, refl}
use Rattle.std.proofs.Common.{sym, ap, ◌∙◌, ⊎_elim, arith}
use Rattle.std.specs.Prelude.{Option, Some, None, slice_get, slice_index_or}
use Rattle.std.{proofs.lemmas.Bool.Decides.nat_tests, proofs.lemmas.List.get_or_past}
use Rattle.executor_model.proofs.Types.{State, By, Call, Reply, Event, Waker, Task, Outside, Hold, Op, ClosingOp, HandleOp}
use Rattle.executor_model.proofs.Types.{Move, QueueOp, RunPoll, SleeperOp, TableOp, TickOp, UserOp, WakerOp, Busy, NoSuch, Gone}
use Rattle.executor_model.specs.declared.step.StepError.TheVariants.{Borrowed}
use Rattle.executor_model.specs.Steps.{kept, has_all, is_free, begin_refusal, is_on_executor, is_drop, is_owners, is_unused}
use Rattle.executor_model.specs.Steps.{is_unborrowed, unless, used_up, with_future, waker_of, future_of, poll_run, drop_run}
use Rattle.executor_model.specs.World.{World, Stage, New, Listed, Ended, Run, Done, done, log, task, blank, run_of}
use Rattle.executor_model.specs.Weights.{weigh, weigh_all, past, waker_past}
use Rattle.executor_model.specs.Rows.{borrowing_of, leaking_of, polls_of, past_of, Row}
use Rattle.executor_model.specs.{Sound.Sound, Sound.Pend, Sound.with_ops, Good.Fits, Steps.begun}
use Rattle.executor_model.proofs.Steps.Lists.{same_is, past_is, phase-push, wakers_past-used, weigh_all-below}
use Rattle.executor_model.proofs.OneFuture.Effects.{passed}
use Rattle.executor_model.proofs.OneFuture.EffectsCalls.{by_call, goes-begun}
use Rattle.executor_model.proofs.Steps.RunsPlain.{plain-list, plain-run, plain-steal}
use Rattle.executor_model.proofs.{Counts.SoundAll.sound-effect, Counts.Fitting.Grows, Steps.Growing.KeepsHere}

-- the beginning of a call

-- no poll of g is in progress where no call uses the executor
polls-borrow : (g : ℕ) (o : Op) → polls_of g o ≤ borrowing_of o
polls-borrow g (Op.Table (TableOp.TakeToPoll f)) = grind (arith, same_is)
polls-borrow g (Op.User (UserOp.Poll f)) = grind (arith, same_is)
polls-borrow g (Op.Move Move.Wake f) = omega arith
polls-borrow g (Op.Queue QueueOp.TakeTurn) = omega arith
polls-borrow g (Op.Queue (QueueOp.Take look)) = omega arith
polls-borrow g (Op.Waker (WakerOp.CopyWaker f held)) = omega arith
polls-borrow g (Op.Handle (HandleOp.LookAgain f)) = omega arith
polls-borrow g (Op.Sleeper SleeperOp.HandOut) = omega arith
polls-borrow g (Op.Tick TickOp.MakeTick) = omega arith
polls-borrow g (Op.List o) = omega (arith, ap (λ (x : Row). x.polls g) (plain-list o))
polls-borrow g (Op.Steal o) = omega (arith, ap (λ (x : Row). x.polls g) (plain-steal o))
polls-borrow g (Op.Run o) = omega (arith, ap (λ (x : Row). x.polls g) (plain-run o))
polls-borrow g (Op.Closing (ClosingOp.Drain mark)) = omega arith
polls-borrow g _ = omega arith

polls-borrow-all : (g : ℕ) (ss : List (List Op)) → weigh_all (polls_of g) ss ≤ weigh_all borrowing_of ss
polls-borrow-all g = weigh_all-below (polls_of g) borrowing_of (polls-borrow g)

-- the kept waker k is used up
pub kept-used : (w : World) (k f : ℕ) → slice_index_or w.wakers k None ≡ Some f → slice_get w.wakers k ≡ Some (Some f)
kept-used w k f e = go w.wakers k e
  where
    go : (ws : List (Option ℕ)) (k : ℕ) → slice_index_or ws k None ≡ Some f → slice_get ws k ≡ Some (Some f)
    go [] k e = absurd (cc)
    go (x ∷ ws) zero e = ap (λ (y : Option ℕ). let z : Option (Option ℕ) = Some y in z) e
    go (x ∷ ws) (suc k) e = go ws k e

not-static : (b : Bool) → not b ≡ true → b ≡ false
not-static true e = absurd (cc)
not-static false e = refl

-- the drop of an owned executor, where no call uses it
begins-drop : (w : World) (p : ℕ) (c : Call) (g : ℕ) (r : Pend) → w.gone ≡ false → w.is_static ≡ false →
    r.borrowing ≡ 0 → r.polls ≡ 0 → Sound w g (with_ops g [] r) →
    Sound (log (record (log w (Event.CallBegun p c)) { gone = true }) (Event.DropBegun p)) g
    (with_ops g (Op.Closing ClosingOp.TakeOut ∷ Op.End Reply.Done Hold.Nothing ∷ []) r)
begins-drop w p c g r n k b q h = grind (arith, phase-push)

all-passed : (a b c l k d : Bool) →
    unless a Busy (unless b NoSuch (unless c Gone (unless l Gone (unless k Gone (unless d Borrowed None))))) ≡ None →
    (a ≡ true) × (b ≡ true) × (c ≡ true) × (d ≡ true) × (k ≡ true)
all-passed true true true true true true e = (refl, refl, refl, refl, refl)
all-passed true true true true true false e = absurd (cc)
all-passed true true true true false d e = absurd (cc)
all-passed true true true false k d e = absurd (cc)
all-passed true true false l k d e = absurd (cc)
all-passed true false c l k d e = absurd (cc)
all-passed false b c l k d e = absurd (cc)

-- what its owner alone does is asked of the drop
drop-unborrowed : (c : Call) (b : Bool) → (not (is_owners c) || b) ≡ true → (not (is_drop c) || b) ≡ true
drop-unborrowed Call.DropExecutor b e = e
drop-unborrowed c b e = refl

drop-owned : (c : Call) (b : Bool) → not (is_owners c && b) ≡ true → not (is_drop c && b) ≡ true
drop-owned Call.DropExecutor b e = e
drop-owned c b e = refl

-- what is known of a call that may begin
pub none_refused : (w : World) (ss : List (List Op)) (o : Option Op) (c : Call) → begin_refusal w ss o c ≡ None →
    (is_free o ≡ true) × (has_all w ss o c ≡ true) × (not (w.gone && is_on_executor c) ≡ true)
    × ((not (is_drop c) || is_unborrowed w ss) ≡ true) × (not (is_drop c && w.is_static) ≡ true)
none_refused w ss o c n =
    let f : _ = all-passed (is_free o) (has_all w ss o c) (not (w.gone && is_on_executor c))
    (not (is_on_executor c) || is_unused leaking_of ss) (not (is_owners c && w.is_static))
    (not (is_owners c) || is_unborrowed w ss) n in
    (f.0, f.1, f.2, drop-unborrowed c (is_unborrowed w ss) f.3, drop-owned c w.is_static f.4)

-- who begins a call on the executor finds no leak in progress, and its owner's calls are asked of one that isn't static
pub calm_owned : (w : World) (ss : List (List Op)) (o : Option Op) (c : Call) → begin_refusal w ss o c ≡ None →
    ((not (is_on_executor c) || is_unused leaking_of ss) ≡ true) × (not (is_owners c && w.is_static) ≡ true)
calm_owned w ss o c n = go (is_free o) (has_all w ss o c) (not (w.gone && is_on_executor c))
    (not (is_on_executor c) || is_unused leaking_of ss) (not (is_owners c && w.is_static))
    (not (is_owners c) || is_unborrowed w ss) n
  where
    go : (a b g l k d : Bool) →
        unless a Busy (unless b NoSuch (unless g Gone (unless l Gone (unless k Gone (unless d Borrowed None))))) ≡ None →
        (l ≡ true) × (k ≡ true)
    go true true true true true d e = (refl, refl)
    go true true true true false d e = absurd (cc)
    go true true true false k d e = absurd (cc)
    go true true false l k d e = absurd (cc)
    go true false g l k d e = absurd (cc)
    go false b g l k d e = absurd (cc)

-- who may drop the executor finds no call that uses it
pub unused : (c : Call) (w : World) (ss : List (List Op)) → (not (is_drop c) || is_unborrowed w ss) ≡ true →
    (not (is_drop c) || is_unused borrowing_of ss) ≡ true
unused c w ss e = by (is_drop c) _ _ e
  where
    by : (d a b : Bool) → (not d || (a && b)) ≡ true → (not d || a) ≡ true
    by false a b q = refl
    by true true b q = refl
    by true false b q = absurd (cc)

-- a future whose handle is there is one
pub handle-known : (w : World) (f : ℕ) → (task w f).handle ≡ true → past (length w.tasks) f ≡ 0
handle-known w f e = ⊎_elim (λ x. x.0)
    (λ (x : (past (length w.tasks) f ≡ 1) × (length w.tasks ≤ f)).
    absurd (false_true (ap (λ (t : State). t.handle) (sym (get_or_past w.tasks f blank x.1)) ∙ e)))
    (past_is (length w.tasks) f).1
  where
    false_true : false ≡ true → ⊥
    false_true z = cc

pub first-true : (a b : Bool) → (a && b) ≡ true → a ≡ true
first-true a b e = grind (arith, nat_tests)

kept-known : (w : World) (k f : ℕ) → Fits w → slice_get w.wakers k ≡ Some (Some f) → past (length w.tasks) f ≡ 0
kept-known w k f h e = omega (arith, wakers_past-used (length w.tasks) f k w.wakers e, h.wakers)

-- what is to do speaks of futures that are there, and the world is as it was
grows-begun : (w : World) (p : ℕ) (c : Call) (next : List Op) → (Fits w → weigh (past_of (length w.tasks)) next ≡ 0) →
    Grows w [] (done (log w (Event.CallBegun p c)) next)
grows-begun w p c next z h k =
    record {
      fits = record { awaiting = h.awaiting; inside = h.inside };
      next = z h;
      more = omega arith;
    }

-- a tick's call is told of too
grows-told : (w : World) (p : ℕ) (c : Call) (e : Event) (next : List Op) → weigh (past_of (length w.tasks)) next ≡ 0 →
    Grows w [] (done (log (log w (Event.CallBegun p c)) e) next)
grows-told w p c e next z h k =
    record {
      fits = record { awaiting = h.awaiting; inside = h.inside };
      next = z;
      more = omega arith;
    }

-- and a run's
grows-told_run : (w : World) (p : ℕ) (c : Call) (rs : List Run) (e : Event) (next : List Op) →
    weigh (past_of (length w.tasks)) next ≡ 0 →
    Grows w [] (done (log (record (log w (Event.CallBegun p c)) { runs = rs }) e) next)
grows-told_run w p c rs e next z h k =
    record {
      fits = record { awaiting = h.awaiting; inside = h.inside };
      next = z;
      more = omega arith;
    }

past-poll_run : (n : ℕ) (t : Stage) (x : RunPoll) → waker_past n x.waker + 0 ≡ 0 → weigh (past_of n) (poll_run t x) ≡ 0
past-poll_run n New x z = omega (arith, z)
past-poll_run n Listed x z = omega (arith, z)
past-poll_run n Ended x z = refl

past-drop_run : (n : ℕ) (t : Stage) (r : ℕ) → weigh (past_of n) (drop_run t r) ≡ 0
past-drop_run n New r = refl
past-drop_run n Listed r = refl
past-drop_run n Ended r = refl

grows-used : (w : World) (p k f : ℕ) (c : Call) (next : List Op) → slice_get w.wakers k ≡ Some (Some f) →
    (past (length w.tasks) f ≡ 0 → weigh (past_of (length w.tasks)) next ≡ 0) →
    Grows w [] (done (used_up (log w (Event.CallBegun p c)) k) next)
grows-used w p k f c next e z h y =
    record {
      fits = record { awaiting = h.awaiting; inside = h.inside };
      next = z (kept-known w k f h e);
      more = omega arith;
    }

module _ (w : World) (p : ℕ) where
  begins-kept : (c : Call) (k : ℕ) (r : Option ℕ) (d : ℕ → Done) → kept w k ≡ r →
      ((f : ℕ) → slice_get w.wakers k ≡ Some (Some f) → Grows w [] (d f)) →
      Grows w [] (with_future (log w (Event.CallBegun p c)) r d)
  begins-kept c k None d e b = grows-begun w p c [] (λ h. refl)
  begins-kept c k (Some f) d e b = b f (kept-used w k f e)

  begins-here : (c : Call) (r : Option ℕ) (d : ℕ → Done) → ((f : ℕ) → r ≡ Some f → Grows w [] (d f)) →
      Grows w [] (with_future (log w (Event.CallBegun p c)) r d)
  begins-here c None d b = grows-begun w p c [] (λ h. refl)
  begins-here c (Some f) d b = b f refl

  begins-waker : (c : Call) (here : Option Waker) (b : By) (f : ℕ) → past (length w.tasks) f ≡ 0 →
      ((a : Waker) → here ≡ Some a → waker_past (length w.tasks) a ≡ 0) →
      Grows w [] (done (log w (Event.CallBegun p c)) (Op.Handle (HandleOp.Look f (waker_of here b)) ∷ []))
  begins-waker c (Some g) By.Mine f z k = grows-begun w p c _ (λ h. omega (arith, z, k g refl))
  begins-waker c None By.Mine f z k = grows-begun w p c _ (λ h. omega (arith, z))
  begins-waker c (Some g) (By.Outside x) f z k = grows-begun w p c _ (λ h. omega (arith, z))
  begins-waker c None (By.Outside x) f z k = grows-begun w p c _ (λ h. omega (arith, z))

waker-known : (w : World) (here : Option Waker) (b : By) →
    ((a : Waker) → here ≡ Some a → waker_past (length w.tasks) a ≡ 0) →
    waker_past (length w.tasks) (waker_of here b) + 0 ≡ 0
waker-known w (Some g) By.Mine k = omega (arith, k g refl)
waker-known w None By.Mine k = omega arith
waker-known w (Some g) (By.Outside x) k = omega arith
waker-known w None (By.Outside x) k = omega arith

-- the future that such a waker wakes is one
future-known : (w : World) (here : Option Waker) → ((a : Waker) → here ≡ Some a → waker_past (length w.tasks) a ≡ 0) →
    (f : ℕ) → future_of here ≡ Some f → past (length w.tasks) f ≡ 0
future-known w (Some (Task g)) k f e = let q : g ≡ f = cc in rw (sym q) (k (Task g) refl)
future-known w (Some (Outside x)) k f e = absurd (cc)
future-known w None k f e = absurd (cc)

pub open_executor : (w : World) (c : Call) → is_on_executor c ≡ true → not (w.gone && is_on_executor c) ≡ true →
    w.gone ≡ false
open_executor w c e n = grind (arith, nat_tests)

pub unborrowed : (a : ℕ) → eqb a 0 ≡ true → a ≡ 0
unborrowed a e = grind (arith, nat_tests)

-- the counts of each future
pub sound-begun : (w : World) (p : ℕ) (ss others : List (List Op)) (here : Option Waker) (c : Call) →
    ((v : Op → ℕ) → weigh_all v others ≤ weigh_all v ss) → not (w.gone && is_on_executor c) ≡ true →
    not (is_drop c && w.is_static) ≡ true → (not (is_drop c) || is_unused borrowing_of ss) ≡ true →
    KeepsHere w [] (begun p (log w (Event.CallBegun p c)) here c) others
sound-begun w p ss others here = by_call _
    (λ le on st un g. (let z : weigh_all borrowing_of others ≡ 0 =
    omega (arith, le borrowing_of, unborrowed (weigh_all borrowing_of ss) un) in
    begins-drop w p Call.DropExecutor g _ (open_executor w Call.DropExecutor refl on)
    (not-static w.is_static st) z
    (omega (arith, z, polls-borrow-all g others))))
    (λ c d le on st un g. sound-effect w [] (begun p (log w (Event.CallBegun p c)) here c)
    (passed (goes-begun p w here c d (λ e. open_executor w c e on))) g _)

-- and that what is to do speaks of futures that are there
pub begins : (w : World) (p : ℕ) (ss : List (List Op)) (o : Option Op) (here : Option Waker) (c : Call) →
    ((a : Waker) → here ≡ Some a → waker_past (length w.tasks) a ≡ 0) → has_all w ss o c ≡ true →
    Grows w [] (begun p (log w (Event.CallBegun p c)) here c)
begins w p ss o here (Call.Spawn mark) k has = grows-begun w p _ _ (λ h. refl)
begins w p ss o here Call.TryTick k has = grows-begun w p _ _ (λ h. refl)
begins w p ss o here Call.IsEmpty k has = grows-begun w p _ _ (λ h. refl)
begins w p ss o here (Call.Wake n) k has = begins-kept w p (Call.Wake n) n _ _ refl
    (λ f e. grows-used w p n f (Call.Wake n) _ e (λ z. omega (arith, z)))
begins w p ss o here (Call.WakeByRef n) k has = begins-kept w p (Call.WakeByRef n) n _ _ refl
    (λ f e. grows-begun w p (Call.WakeByRef n) _ (λ h. omega (arith, kept-known w n f h e)))
begins w p ss o here (Call.Copy n) k has = begins-kept w p (Call.Copy n) n _ _ refl
    (λ f e. grows-begun w p (Call.Copy n) _ (λ h. omega (arith, kept-known w n f h e)))
begins w p ss o here (Call.DropWaker n) k has = begins-kept w p (Call.DropWaker n) n _ _ refl
    (λ f e. grows-used w p n f (Call.DropWaker n) _ e (λ z. omega (arith, z)))
begins w p ss o here Call.Keep k has = begins-here w p Call.Keep (future_of here) _
    (λ f e. grows-begun w p Call.Keep _ (λ h. omega (arith, future-known w here k f e)))
begins w p ss o here Call.WakeSelf k has = begins-here w p Call.WakeSelf (future_of here) _
    (λ f e. grows-begun w p Call.WakeSelf _ (λ h. omega (arith, future-known w here k f e)))
begins w p ss o here (Call.PollHandle f b) k has =
    begins-waker w p (Call.PollHandle f b) here b f (handle-known w f (first-true _ _ (first-true _ _ has))) k
begins w p ss o here (Call.Cancel f) k has =
    grows-begun w p (Call.Cancel f) _ (λ h. omega (arith, handle-known w f (first-true _ _ has)))
begins w p ss o here (Call.Detach f) k has =
    grows-begun w p (Call.Detach f) _ (λ h. omega (arith, handle-known w f (first-true _ _ has)))
begins w p ss o here (Call.DropHandle f) k has =
    grows-begun w p (Call.DropHandle f) _ (λ h. omega (arith, handle-known w f (first-true _ _ has)))
begins w p ss o here Call.NewTick k has = grows-begun w p _ _ (λ h. refl)
begins w p ss o here (Call.PollTick t b) k has = grows-told w p _ _ _ (waker-known w here b k)
begins w p ss o here (Call.DropTick t) k has = grows-told w p _ _ _ refl
begins w p ss o here Call.NewRun k has = grows-begun w p _ _ (λ h. refl)
begins w p ss o here (Call.PollRun r b) k has =
    let x : RunPoll = record {
      run = r;
      waker = waker_of here b;
      poll = length (log w (Event.CallBegun p (Call.PollRun r b))).trace;
    } in
    grows-told w p _ _ _ (past-poll_run (length w.tasks) (run_of w r).stage x (waker-known w here b k))
begins w p ss o here (Call.DropRun r) k has =
    grows-told_run w p _ _ _ _ (past-drop_run (length w.tasks) (run_of w r).stage r)
begins w p ss o here Call.Leak k has = grows-begun w p _ _ (λ h. refl)
begins w p ss o here Call.DropExecutor k has = λ h y. record {
  fits = record { awaiting = h.awaiting; inside = h.inside };
  next = refl;
  more = omega arith;
}
