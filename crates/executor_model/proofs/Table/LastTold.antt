-- For closings_say_why.
-- A step that closes an open task tells of the last waker of its future, or of a cancel.
use Rattle.std.proofs.Common.{◌≡◌, ◌≢◌, ◌⊎◌, ℕ, zero, suc, ◌<◌, ◌≤◌, List, [], ◌∷◌, ◌++◌, length, set, get_or, Bool, true}
use Rattle.std.proofs.Common.{false, not, ◌&&◌, ◌||◌, eqb, ltb, refl, sym, ap, subst, inl, inr, ⊎_elim, arith, ◌∙◌}
use Rattle.std.proofs.lemmas.List.{append_assoc, append_cancel_left}
use Rattle.std.specs.Prelude.{Option, Some, None, reverse}
use Rattle.std.{proofs.Common.get_or-set_other, proofs.lemmas.Bool.Decides.nat_tests}
use Rattle.task_moves.specs.Moves.{after, detach_by, end_pending_by, give_up_by, is_last, is_over, release_by, take_up_by}
use Rattle.task_moves.specs.Moves.{wake_by_reference_by}
use Rattle.executor_model.proofs.Types.{Move, State, Event, Kind, Op, Hint, Step, StepError, NoSuch, UserEnd}
use Rattle.executor_model.specs.Steps.{Machine, Part, accepts, end_of, part_after, part_refusal, party_of, refusal, run}
use Rattle.executor_model.specs.Acts.{entered, is_last_waker, is_told, move_by, stands_alone, told_as, told_of}
use Rattle.executor_model.specs.LastTold.{ClosingSaysWhy, IsOpen, IsShut, SaysWhy}
use Rattle.executor_model.specs.Steps.{settled_by, stack, start, step, step_by, stepped, top, unless}
use Rattle.executor_model.specs.Trace.{Trace, has, is_cancelled, is_last_waker as tells_last}
use Rattle.executor_model.specs.{Doing.act, Good.Good, World.World, World.Done, World.blank, World.log_if, World.task}
use Rattle.executor_model.proofs.OneFuture.Effects.Effect.{passes, turns, refuses, enters, unlists, drops, takes_out}
use Rattle.executor_model.proofs.OneFuture.Effects.Effect.{drops_next, leaks, leaks_out}
use Rattle.executor_model.proofs.OneFuture.EffectsWays.Effects.{does, pends, readies, closes}
use Rattle.executor_model.proofs.OneFuture.Extras.{closing_of, extra, no_extra}
use Rattle.executor_model.proofs.{OneFuture.Effects.Effect, OneFuture.Effects.Wakes, OneFuture.EffectsWays.Effects}
use Rattle.executor_model.proofs.{OneFuture.EffectsWays.effects-way, OneFuture.Passes.ShiftsBy, OneFuture.Passes.shifts}
use Rattle.executor_model.proofs.OneFuture.Views.{none}
use Rattle.executor_model.proofs.{Promises.OutsideCalls.way-more, Steps.Lift.good, Steps.Lift.split, Steps.Ways.Made}
use Rattle.executor_model.proofs.{Steps.Ways.Way, Steps.Ways.made, Steps.Ways.Way.acted, Steps.Ways.Way.called}
use Rattle.executor_model.proofs.{Steps.Ways.Way.reacted, Table.LeavingExecutions.Placed, Table.LeavingExecutions.placed}

not-both : (b : Bool) → b ≡ true → b ≡ false → ⊥
not-both true e f = absurd (cc)
not-both false e f = absurd (cc)

-- what a task is that was open, and is shut

abbrev Opened : State → Type 0
Opened s = (s.completed ≡ false) × (s.closed ≡ false)

abbrev Shut : State → Type 0
Shut s = (s.completed ≡ false) × (s.closed ≡ true)

no-shut : (s : State) → Opened s → Shut s → ⊥
no-shut s a b = not-both s.closed b.1 a.1

got-set : (xs : List State) (g : ℕ) (s : State) → (get_or (set xs g s) g blank ≡ s) ⊎ (get_or (set xs g s) g blank ≡ blank)
got-set [] g s = inr refl
got-set (x ∷ xs) zero s = inl refl
got-set (x ∷ xs) (suc g) s = got-set xs g s

got-push : (xs : List State) (g : ℕ) (s : State) → s.closed ≡ false → (get_or xs g blank).closed ≡ false →
    (get_or (xs ++ s ∷ []) g blank).closed ≡ false
got-push [] zero s z e = z
got-push [] (suc g) s z e = refl
got-push (x ∷ xs) zero s z e = e
got-push (x ∷ xs) (suc g) s z e = got-push xs g s z e

entered-open : (b : Bool) → (entered b).closed ≡ false
entered-open true = refl
entered-open false = refl

-- such a move is told of as the last waker's, or is a cancel that is told of, or drops a Runnable

abbrev Reason : Move → State → Type 0
Reason m s = (is_last_waker m s ≡ true) ⊎ (((m ≡ Move.Cancel) × (is_told m s ≡ true)) ⊎ (m ≡ Move.DropRunnable))

over-none : (s : State) → Opened s → is_over s ≡ false
over-none s a = λ t. a.0 t || a.1 t

module _ (s : State) (o : Opened s) where
  closes-release : (l v : Bool) → is_last s ≡ l → is_over s ≡ v → (release_by l v s).state.closed ≡ true →
      is_last_waker Move.Release s ≡ true
  closes-release false v a b e = absurd (not-both s.closed e o.1)
  closes-release true true a b e = absurd (not-both s.closed e o.1)
  closes-release true false a b e = λ t. a t && not (b t)

  closes-pending : (c b l : Bool) → s.closed ≡ c → s.scheduled ≡ b → is_last s ≡ l → (end_pending_by c b l s).state.closed ≡ true →
      is_last_waker Move.EndPending s ≡ true
  closes-pending true b l x y z e = absurd (not-both s.closed e o.1)
  closes-pending false true l x y z e = absurd (not-both s.closed e o.1)
  closes-pending false false false x y z e = absurd (not-both s.closed e o.1)
  closes-pending false false true x y z e = λ t. not (x t) && (not (y t) && z t)

  closes-detach : (c b : Bool) → (s.completed && not s.closed) ≡ c → ((eqb s.references 0) && not s.closed) ≡ b →
      (detach_by c b s).state.closed ≡ true → is_last_waker Move.Detach s ≡ true
  closes-detach true b x y e =
      let no : (s.completed && not s.closed) ≡ false = λ t. o.0 t && not s.closed in
      absurd (not-both (s.completed && not s.closed) x no)
  closes-detach false true x y e = λ t. not (x t) && y t
  closes-detach false false x y e = absurd (not-both s.closed e o.1)

  closes-wake : (v r : Bool) → (wake_by_reference_by v r s).state.closed ≡ true → ⊥
  closes-wake true r e = not-both s.closed e o.1
  closes-wake false true e = not-both s.closed e o.1
  closes-wake false false e = not-both s.closed e o.1

  closes-take_up : (c : Bool) → (take_up_by c s).state.closed ≡ true → ⊥
  closes-take_up true e = not-both s.closed e o.1
  closes-take_up false e = not-both s.closed e o.1

  closes-give_up : (l : Bool) → (give_up_by l s).state.closed ≡ true → ⊥
  closes-give_up true e = not-both s.closed e o.1
  closes-give_up false e = not-both s.closed e o.1

  why : (m : Move) → stands_alone m ≡ true → Shut (after m s).state → Reason m s
  why Move.WakeByReference a e = absurd (closes-wake _ _ e.1)
  why Move.Wake a e = absurd (closes-wake _ _ e.1)
  why Move.Release a e = inl (closes-release (is_last s) (is_over s) refl refl e.1)
  why Move.TakeUp a e = absurd (closes-take_up _ e.1)
  why Move.SettleClosed a e = absurd (not-both s.closed e.1 o.1)
  why Move.GiveUp a e = absurd (closes-give_up _ e.1)
  why Move.EndReady a e = absurd (let no : true ≡ false = e.0 in cc)
  why Move.EndPending a e = inl (closes-pending s.closed s.scheduled (is_last s) refl refl refl e.1)
  why Move.EndClosed a e = absurd (not-both s.closed e.1 o.1)
  why Move.DropRunnable a e = inr (inr refl)
  why Move.Cancel a e = inr (inl (refl, ap not (over-none s o)))
  why Move.Detach a e = inl (closes-detach (s.completed && not s.closed) ((eqb s.references 0) && not s.closed) refl refl e.1)
  why _ a e = absurd (cc)

  -- a wake doesn't close it
  wakes-not : (m : Move) → Wakes m → Shut (after m s).state → ⊥
  wakes-not Move.WakeByReference a e = closes-wake _ _ e.1
  wakes-not Move.Wake a e = closes-wake _ _ e.1
  wakes-not _ a e = a

-- what that is told in

last-told : (b : Bool) (p f : ℕ) (w : World) (e : Event) (more : Trace) →
    (log_if true (log_if b w e) (Event.LastWaker p f)).trace ≡ w.trace ++ more → has (tells_last f) more ≡ true
last-told true p f w e more t =
    let i : e ∷ Event.LastWaker p f ∷ [] ≡ more = append_cancel_left w.trace (e ∷ Event.LastWaker p f ∷ []) more
    (sym (append_assoc w.trace (e ∷ []) (Event.LastWaker p f ∷ [])) ∙ t) in
    ap (has (tells_last f)) (sym i) ∙ with-self (tells_last f e) (eqb f f) (let z : eqb f f ≡ true = grind (arith, nat_tests) in z)
  where
    with-self : (a b : Bool) → b ≡ true → (a || (b || false)) ≡ true
    with-self true b e = refl
    with-self false true e = refl
    with-self false false e = absurd (cc)
last-told false p f w e more t =
    let i : Event.LastWaker p f ∷ [] ≡ more = append_cancel_left w.trace (Event.LastWaker p f ∷ []) more t in
    ap (has (tells_last f)) (sym i) ∙ (let z : (eqb f f || false) ≡ true = grind (arith, nat_tests) in z)

cancel-told : (p f : ℕ) (w : World) (more : Trace) →
    (log_if false (log_if true w (Event.Cancelled p f)) (Event.LastWaker p f)).trace ≡ w.trace ++ more →
    has (is_cancelled f) more ≡ true
cancel-told p f w more t =
    let i : Event.Cancelled p f ∷ [] ≡ more = append_cancel_left w.trace (Event.Cancelled p f ∷ []) more t in
    ap (has (is_cancelled f)) (sym i) ∙ (let z : (eqb f f || false) ≡ true = grind (arith, nat_tests) in z)

why-told : (m : Move) (p : ℕ) (w : World) (f : ℕ) (more : Trace) →
    (told_of (is_last_waker m (task w f)) (is_told m (task w f)) m p w f).trace ≡ w.trace ++ more → Reason m (task w f) →
    SaysWhy f more ⊎ (m ≡ Move.DropRunnable)
why-told m p w f more t (inl a) = inl (inl (last-told (is_told m (task w f)) p f w (told_as m p f) more
    (sym (ap (λ (b : Bool). (told_of b (is_told m (task w f)) m p w f).trace) a) ∙ t)))
why-told m p w f more t (inr (inl a)) =
    let i : (told_of (is_last_waker Move.Cancel (task w f)) (is_told Move.Cancel (task w f)) Move.Cancel p w f).trace ≡ w.trace ++ more =
    subst (λ (n : Move). (told_of (is_last_waker n (task w f)) (is_told n (task w f)) n p w f).trace ≡ w.trace ++ more) a.0 t in
    let j : is_told Move.Cancel (task w f) ≡ true = subst (λ (n : Move). is_told n (task w f) ≡ true) a.0 a.1 in
    inl (inr (cancel-told p f w more (sym (ap (λ (b : Bool). (told_of false b Move.Cancel p w f).trace) j) ∙ i)))
why-told m p w f more t (inr (inr a)) = inr a

-- where a task is moved
moved-why : (m : Move) (p : ℕ) (w : World) (f : ℕ) (b : Bool) → stands_alone m ≡ b → IsOpen w f → IsShut (move_by b m p w f).world f →
    (more : Trace) → (move_by b m p w f).world.trace ≡ w.trace ++ more → SaysWhy f more ⊎ (m ≡ Move.DropRunnable)
moved-why m p w f false a o e more t = absurd (no-shut (task w f) o e)
moved-why m p w f true a o e more t = ⊎_elim
    (λ (x : get_or (set w.tasks f (after m (task w f)).state) f blank ≡ (after m (task w f)).state).
    why-told m p w f more t (why (task w f) o m a (subst Shut x (here e))))
    (λ (x : get_or (set w.tasks f (after m (task w f)).state) f blank ≡ blank).
    absurd (no-shut blank (refl, refl) (subst Shut x (here e))))
    (got-set w.tasks f (after m (task w f)).state)
  where
    told-tasks : (l b : Bool) → (told_of l b m p w f).tasks ≡ w.tasks
    told-tasks true true = refl
    told-tasks true false = refl
    told-tasks false true = refl
    told-tasks false false = refl

    here : IsShut (move_by true m p w f).world f → Shut (get_or (set w.tasks f (after m (task w f)).state) f blank)
    here k = subst (λ (ts : List State). Shut (get_or (set ts f (after m (task w f)).state) f blank))
        (told-tasks (is_last_waker m (task w f)) (is_told m (task w f))) k

-- where nothing but a move of a task is done, none is closed

goes-open : (w : World) (old : List Op) (d : Done) (g : ℕ) → ShiftsBy w old d → IsOpen w g → IsOpen d.world g
goes-open w old d g s o =
    let q = (s g none no_extra).passes in (
      q.completed ∙ o.0,
      ⊎_elim
          (λ (c : (task d.world g).closed ≡ (task w g).closed). c ∙ o.1)
          (λ (c : ((task w g).completed ≡ true) × ((task d.world g).closed ≡ true)).
          absurd (not-both (task w g).completed c.0 o.0)) q.closed,
    )

moved-other : (m : Move) (p : ℕ) (v : World) (f g : ℕ) → g ≢ f → IsShut (move_by true m p v f).world g → IsShut v g
moved-other m p v f g n e = subst Shut (get_or-set_other v.tasks f g (after m (task v f)).state blank n)
    (subst (λ (ts : List State). Shut (get_or (set ts f (after m (task v f)).state) g blank))
    (told-tasks (is_last_waker m (task v f)) (is_told m (task v f))) e)
  where
    told-tasks : (l b : Bool) → (told_of l b m p v f).tasks ≡ v.tasks
    told-tasks true true = refl
    told-tasks true false = refl
    told-tasks false true = refl
    told-tasks false false = refl

wake-open : (m : Move) (p : ℕ) (v : World) (f : ℕ) → Wakes m → IsOpen v f → IsShut (move_by true m p v f).world f → ⊥
wake-open m p v f a o e = ⊎_elim
    (λ (x : get_or (set v.tasks f (after m (task v f)).state) f blank ≡ (after m (task v f)).state).
    wakes-not (task v f) o m a (subst Shut x here))
    (λ (x : get_or (set v.tasks f (after m (task v f)).state) f blank ≡ blank).
    no-shut blank (refl, refl) (subst Shut x here))
    (got-set v.tasks f (after m (task v f)).state)
  where
    told-tasks : (l b : Bool) → (told_of l b m p v f).tasks ≡ v.tasks
    told-tasks true true = refl
    told-tasks true false = refl
    told-tasks false true = refl
    told-tasks false false = refl

    here : Shut (get_or (set v.tasks f (after m (task v f)).state) f blank)
    here = subst (λ (ts : List State). Shut (get_or (set ts f (after m (task v f)).state) f blank))
        (told-tasks (is_last_waker m (task v f)) (is_told m (task v f))) e

Moves : List Op → ℕ → Type 0
Moves old g = (m : Move) × (old ≡ Op.Move m g ∷ [])

shut-turn : (w v : World) (old : List Op) (m : Move) (p f g : ℕ) (b : Bool) → eqb g f ≡ b →
    Wakes m ⊎ ((v ≡ w) × (old ≡ Op.Move m f ∷ [])) → IsOpen v g → IsShut (move_by true m p v f).world g → Moves old g
unfolding Moves
shut-turn w v old m p f g false z k o e =
    let n : g ≢ f = grind (arith, nat_tests) in absurd (no-shut (task v g) o (moved-other m p v f g n e))
shut-turn w v old m p f g true z (inl a) o e =
    let i : g ≡ f = grind (arith, nat_tests) in
    absurd (wake-open m p v f a (subst (IsOpen v) i o) (subst (IsShut (move_by true m p v f).world) i e))
shut-turn w v old m p f g true z (inr k) o e =
    let i : f ≡ g = grind (arith, nat_tests) in (m, k.1 ∙ ap (λ (n : ℕ). Op.Move m n ∷ []) i)

shut-effect : (w : World) (old : List Op) (d : Done) (g : ℕ) → Effect w old d → IsOpen w g → IsShut d.world g → Moves old g
shut-effect w old d g (passes s c) o u = absurd (no-shut (task d.world g) (goes-open w old d g s o) u)
shut-effect w old _ g (turns d m p f v more i j k s a e) o u =
    shut-turn w v old m p f g (eqb g f) refl k
    (goes-open w old (record { world = v; next = Op.Move m f ∷ more }) g (λ h r y. shifts _ _ (s h r y)) o)
    (subst (λ (x : World). IsShut x g) a u)
shut-effect w old d g (refuses f e) o u = absurd (no-shut (task w g) o u)
shut-effect w old d g (enters mark p e) o u =
    absurd (not-both _ u.1 (got-push w.tasks g (entered w.is_static) (entered-open w.is_static) o.1))
shut-effect w old d g (unlists f e) o u = absurd (no-shut (task w g) o u)
shut-effect w old d g (drops p f) o u = absurd (no-shut (task w g) o u)
shut-effect w old d g takes_out o u = absurd (no-shut (task w g) o u)
shut-effect w old d g (drops_next p f rest e) o u = absurd (no-shut (task w g) o u)
shut-effect w old d g (leaks_out s n) o u = absurd (no-shut (task w g) o u)
shut-effect w old _ g (leaks d p f e a) o u = shut-effect w old d g e o u

shut-effects : (w : World) (ss : List (List Op)) (old : List Op) (d : Done) (g : ℕ) → Effects w ss old d → IsOpen w g →
    IsShut d.world g → Moves old g
shut-effects w ss old d g (does x) o u = shut-effect w old d g x o u
shut-effects w ss old d g (pends p f) o u = absurd (no-shut (task w g) o u)
shut-effects w ss old d g (readies p f) o u = absurd (no-shut (task w g) o u)
shut-effects w ss old d g (closes p n z) o u = absurd (no-shut (task w g) o u)

-- so the step says why

abbrev Says : Machine → ℕ → Trace → Type 0
Says s g more = SaysWhy g more ⊎ (s.world.gone ≡ true)

no-move : (m : Move) (g : ℕ) (u : UserEnd) → accepts (Op.Move m g) u ≡ true → ⊥
no-move m g u a = absurd (cc)

module _ (s : Machine) (p : ℕ) (fine : Good s) (placed : Placed s) (l : p < length s.parties) where
  -- a Runnable is dropped in the drop of the executor alone
  closing-here : (f : ℕ) (rest : List Op) → stack s p ≡ rest ++ reverse (Op.Move Move.DropRunnable f ∷ []) →
      1 ≤ (extra f s.parties).closing
  closing-here f rest e = omega (arith, split closing_of s.parties p (Op.Move Move.DropRunnable f ∷ []) rest l e)

  acted-why : (h : Hint) (rest : List Op) (g : ℕ) (m : Move) → stack s p ≡ rest ++ reverse (Op.Move m g ∷ []) →
      IsOpen s.world g → IsShut (act p h (Op.Move m g) s.world).world g → (more : Trace) →
      (act p h (Op.Move m g) s.world).world.trace ≡ s.world.trace ++ more → Says s g more
  acted-why h rest g m e o u more t = ⊎_elim
      (λ (x : SaysWhy g more). inl x)
      (λ (x : m ≡ Move.DropRunnable). inr ((placed.leaves g).late (closing-here g rest
      (subst (λ (n : Move). stack s p ≡ rest ++ reverse (Op.Move n g ∷ [])) x e))).0)
      (moved-why m p s.world g (stands_alone m) refl o u more t)

  way-why : (old rest : List Op) (d : Done) → stack s p ≡ rest ++ reverse old → Way s p old rest d → (g : ℕ) →
      IsOpen s.world g → IsShut d.world g → (more : Trace) → d.world.trace ≡ s.world.trace ++ more → Moves old g → Says s g more
  unfolding Moves
  way-why old rest d e (acted h x q z) g o u more t k =
      let i : x ≡ Op.Move k.0 g = (let y : x ∷ [] ≡ Op.Move k.0 g ∷ [] = sym q ∙ k.1 in cc) in
      let j : d ≡ act p h (Op.Move k.0 g) s.world = z ∙ ap (λ (n : Op). act p h n s.world) i in
      acted-why h rest g k.0 (subst (λ (os : List Op). stack s p ≡ rest ++ reverse os) k.1 e) o
      (subst (λ (y : Done). IsShut y.world g) j u) more
      (subst (λ (y : Done). y.world.trace ≡ s.world.trace ++ more) j t)
  way-why old rest d e (reacted x u a q z) g o w more t k =
      let i : x ≡ Op.Move k.0 g = (let y : x ∷ [] ≡ Op.Move k.0 g ∷ [] = sym q ∙ k.1 in cc) in
      absurd (no-move k.0 g u (subst (λ (n : Op). accepts n u ≡ true) i a))
  way-why old rest d e (called c q r n z) g o u more t k =
      absurd (let no : [] ≡ Op.Move k.0 g ∷ [] = sym q ∙ k.1 in cc)

-- and then a call may end

left : (t : Event → Bool) (xs ys : Trace) → has t xs ≡ true → has t (xs ++ ys) ≡ true
left t [] ys e = absurd (cc)
left t (x ∷ xs) ys e = by (t x) e (left t xs ys)
  where
    by : (b : Bool) → (b || has t xs) ≡ true → (has t xs ≡ true → has t (xs ++ ys) ≡ true) → (b || has t (xs ++ ys)) ≡ true
    by true q k = refl
    by false q k = k q

says-more : (s : Machine) (g : ℕ) (xs ys : Trace) → Says s g xs → Says s g (xs ++ ys)
says-more s g xs ys (inl (inl a)) = inl (inl (left (tells_last g) xs ys a))
says-more s g xs ys (inl (inr a)) = inl (inr (left (is_cancelled g) xs ys a))
says-more s g xs ys (inr a) = inr a

settled-shut : (o : Option Op) (p : ℕ) (w : World) (os : List Op) (g : ℕ) → IsShut (settled_by (end_of o) p w os).world g → IsShut w g
settled-shut (Some (Op.End r held)) p w os g u = u
settled-shut None p w os g u = u
settled-shut (Some _) p w os g u = u

settled-says : (o : Option Op) (s : Machine) (p : ℕ) (w : World) (os : List Op) (g : ℕ) (before more : Trace) →
    w.trace ≡ s.world.trace ++ before → Says s g before → (settled_by (end_of o) p w os).world.trace ≡ s.world.trace ++ more →
    Says s g more
settled-says (Some (Op.End r held)) s p w os g before more e a t =
    let i : before ++ Event.CallEnded p r ∷ [] ≡ more =
    append_cancel_left s.world.trace (before ++ Event.CallEnded p r ∷ []) more
    (sym (append_assoc s.world.trace before (Event.CallEnded p r ∷ []))
    ∙ (ap (λ (xs : Trace). xs ++ Event.CallEnded p r ∷ []) (sym e) ∙ t)) in
    subst (Says s g) i (says-more s g before (Event.CallEnded p r ∷ []) a)
settled-says None s p w os g before more e a t =
    subst (Says s g) (append_cancel_left s.world.trace before more (sym e ∙ t)) a
settled-says (Some _) s p w os g before more e a t =
    subst (Says s g) (append_cancel_left s.world.trace before more (sym e ∙ t)) a

made-says : (s : Machine) (p : ℕ) (x : Part) → Good s → Placed s → p < length s.parties → Made s p x → (g : ℕ) →
    IsOpen s.world g → IsShut x.world g → (more : Trace) → x.world.trace ≡ s.world.trace ++ more → Says s g more
made-says s p x fine placed l m g o u more t =
    let y = way-more s p m.old m.rest m.d m.way in
    let os : List Op = m.rest ++ reverse m.d.next in
    let v : IsShut m.d.world g = settled-shut (top os) p m.d.world os g (subst (λ (z : Part). IsShut z.world g) (sym m.now) u) in
    settled-says (top os) s p m.d.world os g y.more more y.is
    (way-why s p fine placed l m.old m.rest m.d m.was m.way g o v y.more y.is
    (shut-effects s.world s.parties m.old m.d g (effects-way s p m.old m.rest m.d fine l m.was m.way) o v))
    (subst (λ (z : Part). z.world.trace ≡ s.world.trace ++ more) (sym m.now) t)

there : (b : Bool) (r : Option StepError) → unless b NoSuch r ≡ None → (b ≡ true) × (r ≡ None)
there true r e = (refl, e)
there false r e = absurd (cc)

step-says : (s : Machine) (t : Step) (r : Option StepError) → refusal s t ≡ r → Good s → Placed s → (g : ℕ) (more : Trace) →
    (stepped s (step_by r s t)).world.trace ≡ s.world.trace ++ more → IsOpen s.world g →
    IsShut (stepped s (step_by r s t)).world g → Says s g more
step-says s t (Some error) q fine placed g more e o u = absurd (no-shut (task s.world g) o u)
step-says s t None q fine placed g more e o u =
    let p : ℕ = party_of t in
    let k : _ = there (ltb p (length s.parties)) (part_refusal s.world s.parties (stack s p) t) q in
    let l : p < length s.parties = grind (arith, nat_tests) in
    made-says s p (part_after s.world (stack s p) t) fine placed l (made s t k.1) g o u more e

says-why : (s : Machine) → Good s → Placed s → ClosingSaysWhy s
unfolding step
says-why s fine placed t f more e o u = step-says s t (refusal s t) refl fine placed f more e o u

pub closings-say-why : (limit : ℕ) (kind : Kind) (parties : ℕ) (steps : List Step) → ClosingSaysWhy (run steps (start limit kind parties))
closings-say-why limit kind parties steps = says-why (run steps (start limit kind parties)) (good limit kind parties steps)
    (placed limit kind parties steps)
