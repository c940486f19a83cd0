-- For drops_of_outputs_are_entered.
-- What tells that the drop of an output begins leads to that drop, which comes first.
use Rattle.std.proofs.Common.{◌≡◌, ◌∙◌, ℕ, List, [], ◌∷◌, ◌++◌, Bool, true, false, append-nil, eqb, refl, sym, ap, subst, arith}
use Rattle.std.proofs.lemmas.Bool.Decides.{nat_tests}
use Rattle.std.proofs.lemmas.List.{append_cancel_left}
use Rattle.call_laws.proofs.Types.{Event, Hint, Kind, Move, Op, Step, UserOp}
use Rattle.executor_model.specs.Acts.{is_last_waker, is_told, move_by, stands_alone, told_as, told_of}
use Rattle.executor_model.specs.Doing.{act}
use Rattle.executor_model.specs.Steps.{Machine, mine, run, stack, start, top}
use Rattle.executor_model.specs.Trace.{Trace, has, is_output_dropped}
use Rattle.executor_model.specs.World.{Done, World, task}
use Rattle.executor_model.proofs.Steps.Tests.{or-false}
use Rattle.executor_model.proofs.Steps.Ways.{Way}
use Rattle.executor_model.proofs.Steps.Ways.Way.{acted, called, reacted}
use Rattle.call_laws.proofs.Leading.{Comes, Leads, led}
use Rattle.call_laws.proofs.Leading.Comes.{first, untold}
use Rattle.call_laws.proofs.Untold.{Silent, is_common, is_telling, silent-act, silent-called, silent-is, silent-react}
use Rattle.call_laws.specs.OutputsEntered.{OutputDropsAreEntered}

abbrev Enters : ℕ → World → Done → Type 0
Enters f w d = Leads (is_output_dropped f) (Op.User (UserOp.DropOutput f)) w d

common : (f : ℕ) (e : Event) → is_common e ≡ true → is_output_dropped f e ≡ false
common f (Event.OutputDropped p g) z = absurd (cc)
common f _ z = refl

silent : (f : ℕ) (w : World) (d : Done) → Silent (is_output_dropped f) (common f) w d.world → Enters f w d
silent f w d s more e = untold (silent-is (is_output_dropped f) (common f) w d.world more e s)

-- a move tells of no such drop
told-none : (f : ℕ) (l b : Bool) (m : Move) (p : ℕ) (w : World) (g : ℕ) (more : Trace) →
    (told_of l b m p w g).trace ≡ w.trace ++ more → has (is_output_dropped f) more ≡ false
told-none f l b m p w g more e = by l b e
  where
    kind : (m : Move) → is_output_dropped f (told_as m p g) ≡ false
    kind Move.TakeUp = refl
    kind Move.Cancel = refl
    kind Move.Detach = refl
    kind _ = refl

    append-two : (es : Trace) (x y : Event) → (es ++ x ∷ []) ++ y ∷ [] ≡ es ++ x ∷ y ∷ []
    append-two [] x y = refl
    append-two (z ∷ es) x y = ap (λ (l : Trace). z ∷ l) (append-two es x y)

    here : (xs : Trace) → w.trace ++ xs ≡ w.trace ++ more → has (is_output_dropped f) xs ≡ false →
        has (is_output_dropped f) more ≡ false
    here xs i n = ap (has (is_output_dropped f)) (sym (append_cancel_left w.trace xs more i)) ∙ n

    by : (l b : Bool) → (told_of l b m p w g).trace ≡ w.trace ++ more → has (is_output_dropped f) more ≡ false
    by false false i = here [] (append-nil w.trace ∙ i) refl
    by false true i = here (told_as m p g ∷ []) i (or-false (is_output_dropped f (told_as m p g)) (kind m))
    by true false i = here (Event.LastWaker p g ∷ []) i refl
    by true true i = here (told_as m p g ∷ Event.LastWaker p g ∷ []) (sym (append-two w.trace (told_as m p g) (Event.LastWaker p g)) ∙ i)
        (or-false (is_output_dropped f (told_as m p g)) (kind m))

enters-move : (f : ℕ) (b : Bool) (m : Move) (p : ℕ) (w : World) (g : ℕ) → Enters f w (move_by b m p w g)
enters-move f false m p w g more e =
    untold (ap (has (is_output_dropped f)) (sym (append_cancel_left w.trace [] more (append-nil w.trace ∙ e))))
enters-move f true m p w g more e =
    untold (told-none f (is_last_waker m (task w g)) (is_told m (task w g)) m p w g more e)

here : (f g p : ℕ) (w : World) (more : Trace) → w.trace ++ Event.OutputDropped p g ∷ [] ≡ w.trace ++ more →
    Comes (is_output_dropped f) (Op.User (UserOp.DropOutput f)) (Op.User (UserOp.DropOutput g) ∷ []) more
here f g p w more e = by (eqb f g) refl
  where
    by : (b : Bool) → eqb f g ≡ b →
        Comes (is_output_dropped f) (Op.User (UserOp.DropOutput f)) (Op.User (UserOp.DropOutput g) ∷ []) more
    by false z = untold (sym (ap (has (is_output_dropped f)) (append_cancel_left w.trace (Event.OutputDropped p g ∷ []) more e))
        ∙ or-false (eqb f g) z)
    by true z = let i : g ≡ f = grind (arith, nat_tests) in first [] (ap (λ (n : ℕ). Op.User (UserOp.DropOutput n) ∷ []) i)

enters-act : (f p : ℕ) (h : Hint) (o : Op) (w : World) → Enters f w (act p h o w)
enters-act f p h o w = by (is_telling o) refl
  where
    telling : (o : Op) → is_telling o ≡ true → Enters f w (act p h o w)
    telling (Op.Move m g) k = enters-move f (stands_alone m) m p w g
    telling (Op.User (UserOp.BeginDropOutput g)) k = λ more e. here f g p w more e
    telling _ k = absurd (cc)

    by : (b : Bool) → is_telling o ≡ b → Enters f w (act p h o w)
    by true k = telling o k
    by false k = silent f w (act p h o w) (silent-act (is_output_dropped f) (common f) p h o w k)

enters-way : (f : ℕ) (s : Machine) (p : ℕ) (old rest : List Op) (d : Done) → Way s p old rest d → Enters f s.world d
enters-way f s p old rest d (acted h o q z) = subst (λ (y : Done). Enters f s.world y) (sym z) (enters-act f p h o s.world)
enters-way f s p old rest d (reacted o u a q z) = silent f s.world d
    (subst (λ (y : Done). Silent (is_output_dropped f) (common f) s.world y.world) (sym z)
    (silent-react (is_output_dropped f) (common f) p o u s.world))
enters-way f s p old rest d (called c q r n z) = silent f s.world d
    (subst (λ (y : Done). Silent (is_output_dropped f) (common f) s.world y.world) (sym z)
    (silent-called (is_output_dropped f) (common f) p s.world (mine (top (stack s p))) c))

pub outputs-entered : (limit : ℕ) (kind : Kind) (parties : ℕ) (steps : List Step) →
    OutputDropsAreEntered (run steps (start limit kind parties))
outputs-entered limit kind parties steps t f more e h = led (is_output_dropped f) (Op.User (UserOp.DropOutput f)) (λ p a. refl) refl
    (enters-way f) (run steps (start limit kind parties)) t more e h
