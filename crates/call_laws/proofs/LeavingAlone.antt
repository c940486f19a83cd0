-- For no_poll_begins_after_a_cancel.
-- A future that was cancelled, or whose last waker went, has a closed task for good, and none with a closed task is polled.
use Rattle.std.proofs.Common.{◌≡◌, ◌≢◌, ◌∙◌, ◌⊎◌, inl, inr, ⊎_elim, ℕ, zero, suc, ◌<◌, List, [], ◌∷◌, ◌++◌, length, set, get_or}
use Rattle.std.proofs.Common.{Bool, true, false, ◌&&◌, ◌||◌, not, eqb, refl, sym, ap, subst, arith, append-nil}
use Rattle.std.proofs.Common.{get_or-set_same, get_or-set_other}
use Rattle.std.proofs.lemmas.Bool.Decides.{nat_tests}
use Rattle.std.specs.List.{after_first}
use Rattle.std.specs.Prelude.{reverse}
use Rattle.task_moves.specs.Moves as moves
use Rattle.executor_model.specs.Acts.{entered, is_last_waker, is_told, move_by, stands_alone, told_as, told_of}
use Rattle.executor_model.specs.Doing.{act}
use Rattle.executor_model.specs.Good.{Good}
use Rattle.executor_model.specs.Rows.{past_of}
use Rattle.executor_model.specs.Steps.{Machine, mine, run, stack, start, top}
use Rattle.executor_model.specs.Trace.{Trace, has, is_poll}
use Rattle.executor_model.specs.Weights.{weigh}
use Rattle.executor_model.specs.World.{Done, World, blank, done, log, put, task}
use Rattle.executor_model.proofs.Counts.CountingHandles.{own}
use Rattle.executor_model.proofs.OneFuture.Effects.{Effect}
use Rattle.executor_model.proofs.OneFuture.Effects.Effect.{drops, drops_next, enters, leaks, leaks_out, passes, refuses}
use Rattle.executor_model.proofs.OneFuture.Effects.Effect.{takes_out, turns, unlists}
use Rattle.executor_model.proofs.OneFuture.EffectsWays.{Effects, effects-way}
use Rattle.executor_model.proofs.OneFuture.EffectsWays.Effects.{closes, does, pends, readies}
use Rattle.executor_model.proofs.OneFuture.Extras.{no_extra}
use Rattle.executor_model.proofs.OneFuture.Passes.{ShiftsBy, shifts}
use Rattle.executor_model.proofs.OneFuture.Views.{none}
use Rattle.executor_model.proofs.Steps.Lift.{good-start, split, unsettled}
use Rattle.executor_model.proofs.Steps.Tests.{or-false}
use Rattle.executor_model.proofs.Steps.TraceMore.{has-append}
use Rattle.executor_model.proofs.Steps.Ways.{Way, along}
use Rattle.executor_model.proofs.Steps.Ways.Way.{acted, called, reacted}
use Rattle.call_laws.proofs.Behind.{after-left, after-none, after-right}
use Rattle.call_laws.proofs.Taking.{not-both}
use Rattle.call_laws.proofs.Types.{Event, Hint, Hold, Kind, Move, Op, Reply, State, Step, UserOp}
use Rattle.call_laws.proofs.Untold.{Silent, is_common, is_telling, silent-act, silent-called, silent-react}
use Rattle.call_laws.specs.LeftAlone.{is_given_up}

-- a closed task stays closed

stays-woken : (a b : Bool) (s : State) → s.closed ≡ true → (moves.wake_by_reference_by a b s).state.closed ≡ true
stays-woken true b s e = e
stays-woken false true s e = e
stays-woken false false s e = e

stays-move : (m : Move) (s : State) → s.closed ≡ true → (moves.after m s).state.closed ≡ true
stays-move Move.WakeByReference s e = stays-woken _ _ s e
stays-move Move.Wake s e = stays-woken _ _ s e
stays-move Move.Copy s e = by _
  where
    by : (a : Bool) → (moves.copy_by a s).state.closed ≡ true
    by true = e
    by false = e
stays-move Move.Release s e = by _ _
  where
    by : (a b : Bool) → (moves.release_by a b s).state.closed ≡ true
    by false b = e
    by true true = e
    by true false = refl
stays-move Move.TakeUp s e = by _
  where
    by : (a : Bool) → (moves.take_up_by a s).state.closed ≡ true
    by true = e
    by false = e
stays-move Move.SettleClosed s e = e
stays-move Move.GiveUp s e = by _
  where
    by : (a : Bool) → (moves.give_up_by a s).state.closed ≡ true
    by true = e
    by false = e
stays-move Move.EndReady s e = λ t. e t || not s.handle
stays-move Move.EndPending s e = by _ _ _
  where
    by : (a b c : Bool) → (moves.end_pending_by a b c s).state.closed ≡ true
    by true b c = e
    by false true c = e
    by false false true = refl
    by false false false = e
stays-move Move.EndClosed s e = e
stays-move Move.DropRunnable s e = λ t. e t || not s.completed
stays-move Move.Cancel s e = by _ _
  where
    by : (a b : Bool) → (moves.cancel_by a b s).state.closed ≡ true
    by true b = e
    by false true = refl
    by false false = refl
stays-move Move.Detach s e = by _ _
  where
    by : (a b : Bool) → (moves.detach_by a b s).state.closed ≡ true
    by true b = refl
    by false true = refl
    by false false = e
stays-move Move.Poll s e = by _ _ _
  where
    by : (a b c : Bool) → (moves.poll_by a b c s).state.closed ≡ true
    by true true c = e
    by true false c = e
    by false b false = e
    by false b true = refl
stays-move Move.LookAgain s e = by _ _ _
  where
    by : (a b c : Bool) → (moves.look_again_by a b c s).state.closed ≡ true
    by true true c = e
    by true false c = e
    by false b false = e
    by false b true = refl
stays-move Move.Register s e = by _
  where
    by : (a : Bool) → (moves.register_by a s).state.closed ≡ true
    by true = e
    by false = e
stays-move Move.EndRegister s e = by _
  where
    by : (a : Bool) → (moves.end_register_by a s).state.closed ≡ true
    by true = e
    by false = e
stays-move Move.Notify s e = by _
  where
    by : (a : Bool) → (moves.notify_by a s).state.closed ≡ true
    by true = e
    by false = e
stays-move Move.EndNotify s e = e

abbrev Closed : World → ℕ → Type 0
Closed w f = (task w f).closed ≡ true

told-tasks : (l b : Bool) (m : Move) (p : ℕ) (w : World) (f : ℕ) → (told_of l b m p w f).tasks ≡ w.tasks
told-tasks true true m p w f = refl
told-tasks true false m p w f = refl
told-tasks false true m p w f = refl
told-tasks false false m p w f = refl

-- the task of g behind a move of the task of f
moved-task : (m : Move) (p : ℕ) (w : World) (f g : ℕ) → (move_by true m p w f).world.tasks ≡ set w.tasks f (moves.after m (task w f)).state
moved-task m p w f g = ap (λ (ts : List State). set ts f (moves.after m (task w f)).state)
    (told-tasks (is_last_waker m (task w f)) (is_told m (task w f)) m p w f)

stays-moved : (m : Move) (p : ℕ) (w : World) (f g : ℕ) → f < length w.tasks → Closed w g → Closed (move_by true m p w f).world g
stays-moved m p w f g i c = subst (λ (ts : List State). (get_or ts g blank).closed ≡ true) (sym (moved-task m p w f g)) (by (eqb g f) refl)
  where
    by : (b : Bool) → eqb g f ≡ b → (get_or (set w.tasks f (moves.after m (task w f)).state) g blank).closed ≡ true
    by true z =
        let k : f ≡ g = grind (arith, nat_tests) in
        subst (λ (n : ℕ). (get_or (set w.tasks f (moves.after m (task w f)).state) n blank).closed ≡ true) k
        (ap (λ (x : State). x.closed) (get_or-set_same w.tasks f (moves.after m (task w f)).state blank i)
        ∙ stays-move m (task w f) (subst (Closed w) (sym k) c))
    by false z =
        let n : g ≢ f = grind (arith, nat_tests) in
        ap (λ (x : State). x.closed) (get_or-set_other w.tasks f g (moves.after m (task w f)).state blank n) ∙ c

stays-pushed : (xs : List State) (g : ℕ) (s : State) → (get_or xs g blank).closed ≡ true → (get_or (xs ++ s ∷ []) g blank).closed ≡ true
stays-pushed [] g s c = absurd (cc)
stays-pushed (x ∷ xs) zero s c = c
stays-pushed (x ∷ xs) (suc g) s c = stays-pushed xs g s c

stays-passed : (w : World) (old : List Op) (d : Done) (g : ℕ) → ShiftsBy w old d → Closed w g → Closed d.world g
stays-passed w old d g s c = ⊎_elim
    (λ (x : (task d.world g).closed ≡ (task w g).closed). x ∙ c)
    (λ (x : ((task w g).completed ≡ true) × ((task d.world g).closed ≡ true)). x.1) (s g none no_extra).passes.closed

stays-effect : (w : World) (old : List Op) (d : Done) (g : ℕ) → Effect w old d → Closed w g → Closed d.world g
stays-effect w old d g (passes s x) c = stays-passed w old d g s c
stays-effect w old _ g (turns d m p f v more i j k s a e) c = subst (λ (x : World). Closed x g) (sym a)
    (stays-moved m p v f g i
    (stays-passed w old (record { world = v; next = Op.Move m f ∷ more }) g (λ h r y. shifts _ _ (s h r y)) c))
stays-effect w old d g (refuses f e) c = c
stays-effect w old d g (enters mark p e) c = stays-pushed w.tasks g (entered w.is_static) c
stays-effect w old d g (unlists f e) c = c
stays-effect w old d g (drops p f) c = c
stays-effect w old d g takes_out c = c
stays-effect w old d g (drops_next p f rest e) c = c
stays-effect w old d g (leaks_out s n) c = c
stays-effect w old _ g (leaks d p f e a) c = stays-effect w old d g e c

stays : (w : World) (ss : List (List Op)) (old : List Op) (d : Done) (g : ℕ) → Effects w ss old d → Closed w g → Closed d.world g
stays w ss old d g (does x) c = stays-effect w old d g x c
stays w ss old d g (pends p f) c = c
stays w ss old d g (readies p f) c = c
stays w ss old d g (closes p n z) c = c

-- what closes it

closes-last : (m : Move) (s : State) → is_last_waker m s ≡ true → (moves.after m s).state.closed ≡ true
closes-last Move.Release s e = by (moves.is_last s) (moves.is_over s) e
  where
    by : (l o : Bool) → (l && not o) ≡ true → (moves.release_by l o s).state.closed ≡ true
    by true false z = refl
    by true true z = absurd (cc)
    by false o z = absurd (cc)
closes-last Move.EndPending s e = by s.closed s.scheduled (moves.is_last s) e
  where
    by : (c b l : Bool) → (not c && (not b && l)) ≡ true → (moves.end_pending_by c b l s).state.closed ≡ true
    by false false true z = refl
    by false false false z = absurd (cc)
    by false true l z = absurd (cc)
    by true b l z = absurd (cc)
closes-last Move.Detach s e = by (s.completed && not s.closed) ((eqb s.references 0) && not s.closed) e
  where
    by : (c b : Bool) → (not c && b) ≡ true → (moves.detach_by c b s).state.closed ≡ true
    by false true z = refl
    by false false z = absurd (cc)
    by true b z = absurd (cc)
closes-last _ s e = absurd (cc)

closes-cancel : (s : State) → not (moves.is_over s) ≡ true → (moves.after Move.Cancel s).state.closed ≡ true
closes-cancel s e = by (moves.is_over s) (moves.is_going s) e
  where
    by : (o g : Bool) → not o ≡ true → (moves.cancel_by o g s).state.closed ≡ true
    by true g z = absurd (cc)
    by false true z = refl
    by false false z = refl

-- what each thing tells of future f: neither, or that a poll of it begins, which is open; or that it is given up, and closed

abbrev is_either : ℕ → Event → Bool
is_either f e = is_poll f e || is_given_up f e

data Adds (f : ℕ) (w v : World) : Type 0 where
  neither : (more : Trace) → v.trace ≡ w.trace ++ more → has (is_either f) more ≡ false → Adds f w v
  begins : (p : ℕ) → v.trace ≡ w.trace ++ Event.PollBegun p f ∷ [] → (task w f).closed ≡ false → Adds f w v
  gives_up : (more : Trace) → v.trace ≡ w.trace ++ more → has (is_poll f) more ≡ false → Closed v f → Adds f w v

append-two : (es : Trace) (x y : Event) → (es ++ x ∷ []) ++ y ∷ [] ≡ es ++ x ∷ y ∷ []
append-two [] x y = refl
append-two (z ∷ es) x y = ap (λ (l : Trace). z ∷ l) (append-two es x y)

-- of another future
other : (l b : Bool) (m : Move) (p : ℕ) (w v : World) (f g : ℕ) → eqb f g ≡ false → v.trace ≡ (told_of l b m p w g).trace → Adds f w v
other l b m p w v f g n = by l b
  where
    none-told : (m : Move) → is_either f (told_as m p g) ≡ false
    none-told Move.TakeUp = λ t. n t || false
    none-told Move.Cancel = λ t. n t || false
    none-told Move.Detach = refl
    none-told _ = refl

    none-last : is_either f (Event.LastWaker p g) ≡ false
    none-last = n

    by : (l b : Bool) → v.trace ≡ (told_of l b m p w g).trace → Adds f w v
    by false false e = neither [] (e ∙ sym (append-nil w.trace)) refl
    by false true e = neither (told_as m p g ∷ []) e (or-false (is_either f (told_as m p g)) (none-told m))
    by true false e = neither (Event.LastWaker p g ∷ []) e (or-false (is_either f (Event.LastWaker p g)) none-last)
    by true true e = neither (told_as m p g ∷ Event.LastWaker p g ∷ [])
        (e ∙ append-two w.trace (told_as m p g) (Event.LastWaker p g))
        (has-append (is_either f) (told_as m p g ∷ []) (Event.LastWaker p g ∷ [])
        (or-false (is_either f (told_as m p g)) (none-told m)) (or-false (is_either f (Event.LastWaker p g)) none-last))

told-put : (l b : Bool) (m : Move) (p : ℕ) (w : World) (f : ℕ) (x : State) → f < length w.tasks →
    task (put (told_of l b m p w f) f x) f ≡ x
told-put l b m p w f x i = ap (λ (ts : List State). get_or (set ts f x) f blank) (told-tasks l b m p w f)
    ∙ get_or-set_same w.tasks f x blank i

-- of the future itself, whose task becomes x
itself : (l b : Bool) (m : Move) (p : ℕ) (w : World) (f : ℕ) (x : State) → f < length w.tasks →
    (l ≡ true → x.closed ≡ true) → (l ≡ true → is_poll f (told_as m p f) ≡ false) →
    (b ≡ true → (m ≡ Move.TakeUp) × ((task w f).closed ≡ false) ⊎ ((m ≡ Move.Cancel) × (x.closed ≡ true)
    ⊎ (is_either f (told_as m p f) ≡ false))) →
    Adds f w (put (told_of l b m p w f) f x)
itself false false m p w f x i up un k = neither [] (sym (append-nil w.trace)) refl
itself true false m p w f x i up un k = gives_up (Event.LastWaker p f ∷ []) refl refl
    (ap (λ (s : State). s.closed) (told-put true false m p w f x i) ∙ up refl)
itself true true m p w f x i up un k = gives_up (told_as m p f ∷ Event.LastWaker p f ∷ [])
    (append-two w.trace (told_as m p f) (Event.LastWaker p f)) (λ t. un refl t || false)
    (ap (λ (s : State). s.closed) (told-put true true m p w f x i) ∙ up refl)
itself false true m p w f x i up un k = by (k refl)
  where
    by : (m ≡ Move.TakeUp) × ((task w f).closed ≡ false) ⊎ ((m ≡ Move.Cancel) × (x.closed ≡ true)
        ⊎ (is_either f (told_as m p f) ≡ false)) → Adds f w (put (told_of false true m p w f) f x)
    by (inl a) = begins p (ap (λ (n : Move). w.trace ++ told_as n p f ∷ []) a.0) a.1
    by (inr (inl a)) = gives_up (Event.Cancelled p f ∷ []) (ap (λ (n : Move). w.trace ++ told_as n p f ∷ []) a.0) refl
        (ap (λ (s : State). s.closed) (told-put false true m p w f x i) ∙ a.1)
    by (inr (inr a)) = neither (told_as m p f ∷ []) refl (or-false (is_either f (told_as m p f)) a)

told-why : (m : Move) (p : ℕ) (w : World) (f : ℕ) → is_told m (task w f) ≡ true →
    (m ≡ Move.TakeUp) × ((task w f).closed ≡ false) ⊎ ((m ≡ Move.Cancel) × ((moves.after m (task w f)).state.closed ≡ true)
    ⊎ (is_either f (told_as m p f) ≡ false))
told-why Move.TakeUp p w f e = inl (refl, unclosed (task w f).closed e)
  where
    unclosed : (b : Bool) → not b ≡ true → b ≡ false
    unclosed true z = absurd (cc)
    unclosed false z = refl
told-why Move.Cancel p w f e = inr (inl (refl, closes-cancel (task w f) e))
told-why Move.WakeByReference p w f e = inr (inr refl)
told-why Move.Wake p w f e = inr (inr refl)
told-why Move.Detach p w f e = inr (inr refl)
told-why _ p w f e = absurd (cc)

last-unpolled : (m : Move) (p : ℕ) (s : State) (f : ℕ) → is_last_waker m s ≡ true → is_poll f (told_as m p f) ≡ false
last-unpolled Move.Release p s f e = refl
last-unpolled Move.EndPending p s f e = refl
last-unpolled Move.Detach p s f e = refl
last-unpolled _ p s f e = absurd (cc)

adds-move : (b : Bool) (m : Move) (p : ℕ) (w : World) (f g : ℕ) → g < length w.tasks → Adds f w (move_by b m p w g).world
adds-move false m p w f g i = neither [] (sym (append-nil w.trace)) refl
adds-move true m p w f g i = by (eqb f g) refl
  where
    by : (b : Bool) → eqb f g ≡ b → Adds f w (move_by true m p w g).world
    by false z = other (is_last_waker m (task w g)) (is_told m (task w g)) m p w (move_by true m p w g).world f g z refl
    by true z =
        let k : f ≡ g = grind (arith, nat_tests) in
        subst (λ (n : ℕ). Adds f w (move_by true m p w n).world) k
        (itself (is_last_waker m (task w f)) (is_told m (task w f)) m p w f (moves.after m (task w f)).state
        (subst (λ (n : ℕ). n < length w.tasks) (sym k) i) (closes-last m (task w f)) (last-unpolled m p (task w f) f)
        (told-why m p w f))

common-neither : (f : ℕ) (e : Event) → is_common e ≡ true → is_either f e ≡ false
common-neither f (Event.PollBegun p g) z = absurd (cc)
common-neither f (Event.Cancelled p g) z = absurd (cc)
common-neither f (Event.LastWaker p g) z = absurd (cc)
common-neither f _ z = refl

silent : (f : ℕ) (w v : World) → Silent (is_either f) (common-neither f) w v → Adds f w v
silent f w v s = neither s.more s.is s.none

adds-act : (f p : ℕ) (h : Hint) (o : Op) (w : World) → weigh (past_of (length w.tasks)) (o ∷ []) ≡ 0 → Adds f w (act p h o w).world
adds-act f p h o w z = by (is_telling o) refl
  where
    telling : (o : Op) → weigh (past_of (length w.tasks)) (o ∷ []) ≡ 0 → is_telling o ≡ true → Adds f w (act p h o w).world
    telling (Op.Move m g) z k = adds-move (stands_alone m) m p w f g (own _ g (Op.Move m g) (omega arith) z)
    telling (Op.User (UserOp.BeginDropOutput g)) z k = neither (Event.OutputDropped p g ∷ []) refl refl
    telling _ z k = absurd (cc)

    by : (b : Bool) → is_telling o ≡ b → Adds f w (act p h o w).world
    by true k = telling o z k
    by false k = silent f w _ (silent-act (is_either f) (common-neither f) p h o w k)

known : (s : Machine) (p : ℕ) (o : Op) (rest : List Op) → p < length s.parties → stack s p ≡ rest ++ reverse (o ∷ []) → Good s →
    weigh (past_of (length s.world.tasks)) (o ∷ []) ≡ 0
known s p o rest l e good =
    omega (arith, good.ops, split (past_of (length s.world.tasks)) s.parties p (o ∷ []) rest l e)

adds-way : (f : ℕ) (s : Machine) (p : ℕ) (old rest : List Op) (d : Done) → Good s → p < length s.parties →
    stack s p ≡ rest ++ reverse old → Way s p old rest d → Adds f s.world d.world
adds-way f s p old rest d good l e (acted h o q z) = subst (λ (y : Done). Adds f s.world y.world) (sym z)
    (adds-act f p h o s.world (known s p o rest l (subst (λ (os : List Op). stack s p ≡ rest ++ reverse os) q e) good))
adds-way f s p old rest d good l e (reacted o u a q z) = subst (λ (y : Done). Adds f s.world y.world) (sym z)
    (silent f s.world _ (silent-react (is_either f) (common-neither f) p o u s.world))
adds-way f s p old rest d good l e (called c q r n z) = subst (λ (y : Done). Adds f s.world y.world) (sym z)
    (silent f s.world _ (silent-called (is_either f) (common-neither f) p s.world (mine (top (stack s p))) c))

-- so it is along each list of steps

record Alone (f : ℕ) (w : World) : Type 0 where
  pub closed : has (is_given_up f) w.trace ≡ true → Closed w f
  pub unpolled : has (is_poll f) (after_first (is_given_up f) w.trace) ≡ false

left-none : (f : ℕ) (es : Trace) → has (is_either f) es ≡ false → (has (is_poll f) es ≡ false) × (has (is_given_up f) es ≡ false)
left-none f [] e = (refl, refl)
left-none f (x ∷ es) e = by (is_poll f x) (is_given_up f x) e (left-none f es)
  where
    by : (a b : Bool) → ((a || b) || has (is_either f) es) ≡ false →
        (has (is_either f) es ≡ false → (has (is_poll f) es ≡ false) × (has (is_given_up f) es ≡ false)) →
        ((a || has (is_poll f) es) ≡ false) × ((b || has (is_given_up f) es) ≡ false)
    by false false z k = k z
    by false true z k = absurd (cc)
    by true b z k = absurd (cc)

module _ (f : ℕ) (w v : World) (keep : Closed w f → Closed v f) (h : Alone f w) where
  -- where no more polls come, or the future wasn't given up
  unpolled-by : (b : Bool) (more : Trace) → has (is_given_up f) w.trace ≡ b → v.trace ≡ w.trace ++ more →
      (b ≡ true → has (is_poll f) more ≡ false) → has (is_poll f) (after_first (is_given_up f) more) ≡ false →
      has (is_poll f) (after_first (is_given_up f) v.trace) ≡ false
  unpolled-by true more q e k n = ap (λ (es : Trace). has (is_poll f) (after_first (is_given_up f) es)) e
      ∙ (ap (has (is_poll f)) (after-left (is_given_up f) w.trace more q)
      ∙ has-append (is_poll f) (after_first (is_given_up f) w.trace) more h.unpolled (k refl))
  unpolled-by false more q e k n = ap (λ (es : Trace). has (is_poll f) (after_first (is_given_up f) es)) e
      ∙ (ap (has (is_poll f)) (after-right (is_given_up f) w.trace more q) ∙ n)

  still-given : (more : Trace) → v.trace ≡ w.trace ++ more → has (is_given_up f) more ≡ false →
      has (is_given_up f) v.trace ≡ true → Closed v f
  still-given more e n k = by (has (is_given_up f) w.trace) refl
    where
      by : (b : Bool) → has (is_given_up f) w.trace ≡ b → Closed v f
      by true q = keep (h.closed q)
      by false q = absurd (not-both (has (is_given_up f) v.trace) k
          (ap (has (is_given_up f)) e ∙ has-append (is_given_up f) w.trace more q n))

  alone-adds : Adds f w v → Alone f v
  alone-adds (neither more e n) =
      let k : (has (is_poll f) more ≡ false) × (has (is_given_up f) more ≡ false) = left-none f more n in
      record {
        closed = still-given more e k.1;
        unpolled = unpolled-by (has (is_given_up f) w.trace) more refl e (λ q. k.0)
            (after-none (is_given_up f) (is_poll f) more k.0);
      }
  alone-adds (begins p e c) = record {
    closed = still-given (Event.PollBegun p f ∷ []) e refl;
    unpolled = unpolled-by (has (is_given_up f) w.trace) (Event.PollBegun p f ∷ []) refl e
        (λ q. absurd (not-both (task w f).closed (h.closed q) c)) refl;
  }
  alone-adds (gives_up more e n c) = record {
    closed = λ k. c;
    unpolled = unpolled-by (has (is_given_up f) w.trace) more refl e (λ q. n) (after-none (is_given_up f) (is_poll f) more n);
  }

AllAlone : Machine → Type 0
AllAlone s = (f : ℕ) → Alone f s.world

alone-moves : (s : Machine) (p : ℕ) (old rest : List Op) (d : Done) → Good s → p < length s.parties →
    stack s p ≡ rest ++ reverse old → Way s p old rest d → AllAlone s → AllAlone (unsettled s p rest d)
unfolding AllAlone
alone-moves s p old rest d good l e way h f = alone-adds f s.world d.world
    (stays s.world s.parties old d f (effects-way s p old rest d good l e way)) (h f) (adds-way f s p old rest d good l e way)

alone-ends : (s : Machine) (p : ℕ) (a : Reply) (held : Hold) (below : List Op) → p < length s.parties →
    stack s p ≡ below ++ reverse (Op.End a held ∷ []) → AllAlone s →
    AllAlone (unsettled s p below (done (log s.world (Event.CallEnded p a)) []))
unfolding AllAlone
alone-ends s p a held below l e h f = alone-adds f s.world (log s.world (Event.CallEnded p a)) (λ c. c) (h f)
    (neither (Event.CallEnded p a ∷ []) refl refl)

all-alone : (limit : ℕ) (kind : Kind) (n : ℕ) (ts : List Step) → AllAlone (run ts (start limit kind n))
unfolding AllAlone
all-alone limit kind n ts = along AllAlone alone-moves alone-ends ts (start limit kind n) (good-start limit kind n)
    (λ f. record { closed = λ k. absurd (cc); unpolled = refl })

pub none-polled : (limit : ℕ) (kind : Kind) (n : ℕ) (ts : List Step) (f : ℕ) →
    has (is_poll f) (after_first (is_given_up f) (run ts (start limit kind n)).world.trace) ≡ false
unfolding AllAlone
none-polled limit kind n ts f = (all-alone limit kind n ts f).unpolled
