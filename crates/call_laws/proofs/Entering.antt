-- For drops_of_futures_are_entered.
-- What tells that the drop of a future begins leads to that drop, which comes first.
use Rattle.std.proofs.Common.{◌≡◌, ◌∙◌, ℕ, List, [], ◌∷◌, ◌++◌, Bool, true, false, append-nil, eqb, refl, sym, ap, subst, arith}
use Rattle.std.proofs.lemmas.Bool.Decides.{nat_tests}
use Rattle.std.proofs.lemmas.List.{append_cancel_left}
use Rattle.call_laws.proofs.Types.{Call, ClosingOp, Event, Hint, Kind, Op, RunOp, SleeperOp, Step, TableOp, UserOp, WakerOp}
use Rattle.executor_model.specs.Acts.{drop_next_by}
use Rattle.executor_model.specs.Doing.{act}
use Rattle.executor_model.specs.Steps.{Machine, mine, run, stack, start, top}
use Rattle.executor_model.specs.Trace.{Trace, has, is_dropped}
use Rattle.executor_model.specs.World.{Done, World}
use Rattle.executor_model.proofs.Steps.Hushed.{Hushed, Hushes, HushesCall, hushed-act, hushed-called, hushed-is}
use Rattle.executor_model.proofs.Steps.Hushed.{hushed-react, is_hushed}
use Rattle.executor_model.proofs.Steps.Tests.{or-false}
use Rattle.executor_model.proofs.Steps.Ways.{Way}
use Rattle.executor_model.proofs.Steps.Ways.Way.{acted, called, reacted}
use Rattle.call_laws.proofs.Leading.{Comes, Leads, led}
use Rattle.call_laws.proofs.Leading.Comes.{first, untold}
use Rattle.call_laws.specs.DropsEntered.{DropsAreEntered}

undropped : (f : ℕ) (e : Event) → is_hushed e ≡ true → is_dropped f e ≡ false
undropped f (Event.Dropped p g) z = absurd (cc)
undropped f _ z = refl

abbrev Enters : ℕ → World → Done → Type 0
Enters f w d = Leads (is_dropped f) (Op.User (UserOp.Drop f)) w d

silent : (f p : ℕ) (h : Hint) (o : Op) (w : World) → Hushes (is_dropped f) (undropped f) p o → Enters f w (act p h o w)
silent f p h o w z more e = untold (hushed-is (is_dropped f) (undropped f) w (act p h o w).world more e
    (hushed-act (is_dropped f) (undropped f) p h o w z))

untold-one : (f g p : ℕ) → eqb f g ≡ false → has (is_dropped f) (Event.Dropped p g ∷ []) ≡ false
untold-one f g p e = or-false (eqb f g) e

here : (f g p : ℕ) (w : World) (rest : List Op) (more : Trace) → w.trace ++ Event.Dropped p g ∷ [] ≡ w.trace ++ more →
    Comes (is_dropped f) (Op.User (UserOp.Drop f)) (Op.User (UserOp.Drop g) ∷ rest) more
here f g p w rest more e = by (eqb f g) refl
  where
    by : (b : Bool) → eqb f g ≡ b → Comes (is_dropped f) (Op.User (UserOp.Drop f)) (Op.User (UserOp.Drop g) ∷ rest) more
    by false z = untold (sym (ap (has (is_dropped f)) (append_cancel_left w.trace (Event.Dropped p g ∷ []) more e)) ∙ untold-one f g p z)
    by true z = let i : g ≡ f = grind (arith, nat_tests) in first rest (ap (λ (n : ℕ). Op.User (UserOp.Drop n) ∷ rest) i)

leads-next : (f p : ℕ) (w : World) (ls : List ℕ) → Enters f w (drop_next_by p w ls)
leads-next f p w [] more e = untold (sym (ap (has (is_dropped f)) (append_cancel_left w.trace [] more (append-nil w.trace ∙ e))))
leads-next f p w (g ∷ rest) more e = here f g p w _ more e

leads-act : (f p : ℕ) (h : Hint) (o : Op) (w : World) → Enters f w (act p h o w)
leads-act f p h (Op.Waker (WakerOp.CallAwaiter g a k)) w = silent f p h (Op.Waker (WakerOp.CallAwaiter g a k)) w refl
leads-act f p h (Op.Sleeper (SleeperOp.CallSleeper s)) w = silent f p h (Op.Sleeper (SleeperOp.CallSleeper s)) w refl
leads-act f p h (Op.Run (RunOp.WakeOwn x)) w = silent f p h (Op.Run (RunOp.WakeOwn x)) w refl
leads-act f p h (Op.Table (TableOp.Enter mark)) w = silent f p h (Op.Table (TableOp.Enter mark)) w (λ g. refl)
leads-act f p h (Op.User (UserOp.BeginDrop g)) w = λ more e. here f g p w _ more e
leads-act f p h (Op.Closing ClosingOp.DropNext) w = leads-next f p w w.leaving
leads-act f p h o w = silent f p h o w tt

called-none : (f p : ℕ) (c : Call) → HushesCall (is_dropped f) (undropped f) p c
called-none f p Call.DropExecutor = refl
called-none f p c = tt

leads-way : (f : ℕ) (s : Machine) (p : ℕ) (old rest : List Op) (d : Done) → Way s p old rest d → Enters f s.world d
leads-way f s p old rest d (acted h o q z) =
    subst (λ (y : Done). Enters f s.world y) (sym z) (leads-act f p h o s.world)
leads-way f s p old rest d (reacted o u a q z) = λ more e. untold (hushed-is (is_dropped f) (undropped f) s.world
    d.world more e (subst (λ (y : Done). Hushed (is_dropped f) (undropped f) s.world y.world) (sym z)
    (hushed-react (is_dropped f) (undropped f) p o u s.world)))
leads-way f s p old rest d (called c q r n z) = λ more e. untold (hushed-is (is_dropped f) (undropped f) s.world
    d.world more e (subst (λ (y : Done). Hushed (is_dropped f) (undropped f) s.world y.world) (sym z)
    (hushed-called (is_dropped f) (undropped f) p s.world (mine (top (stack s p))) c (called-none f p c))))

pub every-entered : (limit : ℕ) (kind : Kind) (parties : ℕ) (steps : List Step) → DropsAreEntered (run steps (start limit kind parties))
every-entered limit kind parties steps t f more e h =
    led (is_dropped f) (Op.User (UserOp.Drop f)) (λ p a. refl) refl (leads-way f) (run steps (start limit kind parties)) t more e h
