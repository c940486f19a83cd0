-- What a body is, by the word, and what keeps fitting it.
use Rattle.std.proofs.Common.{◌∙◌, ◌≡◌, ℕ, Bool, true, false, ◌||◌, ◌&&◌, not, refl, ap, arith}
use Rattle.std.specs.Prelude.{Option, Some, None, is_some}
use Rattle.task_moves.specs.declared.moves.state.State.{State}
use Rattle.task_moves.specs.Moves.{is_going}
use Rattle.task_word.specs.declared.rule.Hold.{Hold}
use Rattle.task_word.specs.declared.rule.Hold.TheVariants.{Nothing, Reference, Leaving, Handle, Made, Queued, Running, Closing, Ending}
use Rattle.task_word.specs.declared.rule.Hold.TheVariants.{Filling, Spending, Registering, HandleNotifying, RunNotifying, Emptying}
use Rattle.task_word.specs.Cell.{Body, idle, resting, queued, taken, kept, gone, Post, lies, held, going, spending, calling, handling}
use Rattle.task_word.specs.Cell.{weight, handle_weight, Fits, FitsHold, FitsPost, Emptied}
use Rattle.task_word.proofs.Views.{true_not, both_not, or_same}

-- a state as it would be with this mark or this number
abbrev pub scheduled_on : State → State
scheduled_on s = record s { scheduled = true }

abbrev pub closed_on : State → State
closed_on s = record s { closed = true }

abbrev pub unhandled : State → State
unhandled s = record s { handle = false }

-- or with these marks of the awaiter
abbrev pub marking : Bool → Bool → Bool → State → State
marking a r n s = record s { awaiter = a; registering = r; notifying = n }

abbrev pub counting : ℕ → State → State
counting n s = record s { references = n }

-- nobody has a reference or the handle
abbrev pub Reachable : State → Type 0
Reachable s = s.references ≡ 0 → s.handle ≡ false → ⊥

-- a seat that has the future's slot has it by one of five
pub hold_is : {s : State} (P : Hold → Type 0) → (FitsHold Running s → P Running) → (FitsHold Closing s → P Closing)
    → (FitsHold Ending s → P Ending) → (FitsHold Filling s → P Filling) → (FitsHold Spending s → P Spending)
    → (hold : Hold) → FitsHold hold s → P hold
hold_is P r c e f o Running k = r k
hold_is P r c e f o Closing k = c k
hold_is P r c e f o Ending k = e k
hold_is P r c e f o Filling k = f k
hold_is P r c e f o Spending k = o k
hold_is P r c e f o Nothing k = absurd k
hold_is P r c e f o Reference k = absurd k
hold_is P r c e f o Leaving k = absurd k
hold_is P r c e f o Handle k = absurd k
hold_is P r c e f o Made k = absurd k
hold_is P r c e f o Queued k = absurd k
hold_is P r c e f o Registering k = absurd k
hold_is P r c e f o HandleNotifying k = absurd k
hold_is P r c e f o RunNotifying k = absurd k
hold_is P r c e f o Emptying k = absurd k

marked_hold : (hold : Hold) (s : State) → s.running ≡ true → FitsHold hold s → FitsHold hold (scheduled_on s)
marked_hold hold s t = hold_is (λ h. FitsHold h (scheduled_on s)) (λ k. k) (λ k. true_not t k.1) (λ k. k)
    (λ k. true_not t (ap (λ (z : State). z.running) k)) (λ k. true_not t k.1) hold

counting_hold : (hold : Hold) (s : State) (n : ℕ) → Reachable s → FitsHold hold s → FitsHold hold (counting n s)
counting_hold hold s n t = hold_is (λ h. FitsHold h (counting n s)) (λ k. k) (λ k. k) (λ k. k)
    (λ k. absurd (t (ap (λ (z : State). z.references) k) (ap (λ (z : State). z.handle) k))) (λ k. k) hold

marking_hold : (hold : Hold) (s : State) (a r n : Bool) → Reachable s → FitsHold hold s → FitsHold hold (marking a r n s)
marking_hold hold s a r n t = hold_is (λ h. FitsHold h (marking a r n s)) (λ k. k) (λ k. k) (λ k. k)
    (λ k. absurd (t (ap (λ (z : State). z.references) k) (ap (λ (z : State). z.handle) k))) (λ k. k) hold

closed_hold : (hold : Hold) (s : State) → FitsHold hold s → FitsHold hold (closed_on s)
closed_hold hold s = hold_is (λ h. FitsHold h (closed_on s)) (λ k. k) (λ k. (k.0, k.1, k.2, refl)) (λ k. (k.0, k.1, refl))
    (λ k. ap closed_on k) (λ k. (k.0, k.1, k.2, refl)) hold

unhandled_hold : (hold : Hold) (s : State) → s.handle ≡ true → FitsHold hold s → FitsHold hold (unhandled s)
unhandled_hold hold s t = hold_is (λ h. FitsHold h (unhandled s)) (λ k. k) (λ k. k) (λ k. k)
    (λ k. true_not t (ap (λ (z : State). z.handle) k)) (λ k. k) hold

-- a slot that is out shows in the marks
hold_idle : {A : Type 0} (hold : Hold) (s : State) → s.scheduled ≡ false → s.running ≡ false → s.completed ≡ false
    → FitsHold hold s → A
hold_idle {A} hold s a b c = hold_is (λ h. A) (λ k. true_not k.0 b) (λ k. true_not k.0 a) (λ k. true_not k.0 b)
    (λ k. true_not (ap (λ (z : State). z.scheduled) k) a) (λ k. true_not k.2 c) hold

-- or in the handle
hold_over : {A : Type 0} (hold : Hold) (s : State) → s.scheduled ≡ false → s.running ≡ false → handle_weight hold ≡ 0
    → FitsHold hold s → A
hold_over {A} hold s a b c k = hold_is (λ h. handle_weight h ≡ 0 → A) (λ k c. true_not k.0 b) (λ k c. true_not k.0 a)
    (λ k c. true_not k.0 b) (λ k c. true_not (ap (λ (z : State). z.scheduled) k) a)
    (λ k c. absurd (let z : 1 ≡ 0 = c in omega arith)) hold k c

-- or in the count
hold_still : {A : Type 0} (hold : Hold) (s : State) → weight hold ≡ 0 → s.completed ≡ false → s.closed ≡ false
    → FitsHold hold s → A
hold_still {A} hold s a b c k = hold_is (λ h. weight h ≡ 0 → A) (λ k a. absurd (let z : 1 ≡ 0 = a in omega arith))
    (λ k a. true_not k.3 c) (λ k a. true_not k.2 c) (λ k a. true_not (ap (λ (z : State). z.closed) k) c)
    (λ k a. true_not k.3 c) hold k a

-- or in the count, the handle and the awaiter
hold_left : {A : Type 0} (hold : Hold) (s : State) → weight hold ≡ 0 → handle_weight hold ≡ 0 → s.awaiter ≡ true
    → FitsHold hold s → A
hold_left {A} hold s a b c k = hold_is (λ h. weight h ≡ 0 → handle_weight h ≡ 0 → A)
    (λ k a b. absurd (let z : 1 ≡ 0 = a in omega arith)) (λ k a b. absurd (let z : 1 ≡ 0 = a in omega arith))
    (λ k a b. absurd (let z : 1 ≡ 0 = a in omega arith)) (λ k a b. true_not c (ap (λ (z : State). z.awaiter) k))
    (λ k a b. absurd (let z : 1 ≡ 0 = b in omega arith)) hold k a b

-- or in one mark of two
hold_kept : {A : Type 0} (hold : Hold) (s : State) → s.completed ≡ true → s.closed ≡ false → FitsHold hold s → A
hold_kept {A} hold s c d = hold_is (λ h. A) (λ k. true_not c k.1) (λ k. true_not c k.2) (λ k. true_not c k.1)
    (λ k. true_not (ap (λ (z : State). z.closed) k) d) (λ k. true_not k.3 d) hold

module _ {F T : Type 0} where
  -- a woken run is scheduled
  pub marked : (b : Body F T) (s : State) (rests : Bool) → s.running ≡ true → Fits b s rests → Fits b (scheduled_on s) rests
  marked (idle f) s rests t k = true_not t k.1
  marked (resting f) s rests t k = true_not t k.1
  marked (queued f j) s rests t k = true_not t k.1
  marked (taken hold j) s rests t k = (marked_hold hold s t k.0, k.1)
  marked (kept o) s rests t k = true_not t k.1
  marked gone s rests t k = true_not t k.1

  -- the count changes, of a task that somebody can reach
  pub with_references : (b : Body F T) (s : State) (rests : Bool) (n : ℕ) → Reachable s → Fits b s rests → Fits b (counting n s) rests
  with_references (idle f) s rests n t k = k
  with_references (resting f) s rests n t k = k
  with_references (queued f j) s rests n t k = k
  with_references (taken hold j) s rests n t k = (counting_hold hold s n t k.0, k.1)
  with_references (kept o) s rests n t k = k
  with_references gone s rests n t k = k

  -- the marks of the awaiter change, of a task that somebody can reach
  pub with_marks : (b : Body F T) (s : State) (rests : Bool) (a r n : Bool) → Reachable s → Fits b s rests
      → Fits b (marking a r n s) rests
  with_marks (idle f) s rests a r n t k = k
  with_marks (resting f) s rests a r n t k = k
  with_marks (queued f j) s rests a r n t k = k
  with_marks (taken hold j) s rests a r n t k = (marking_hold hold s a r n t k.0, k.1)
  with_marks (kept o) s rests a r n t k = k
  with_marks gone s rests a r n t k = k

  -- an open task that isn't idle may be closed where it is
  pub shut : (b : Body F T) (s : State) (rests : Bool) → is_going s ≡ true → Fits b s rests → Fits b (closed_on s) rests
  shut (idle f) s rests t k = neither s.scheduled s.running t k.0 k.1 where
    neither : {A : Type 0} (b c : Bool) → b || c ≡ true → b ≡ false → c ≡ false → A
    neither true c e p q = true_not refl p
    neither false c e p q = true_not e q
  shut (resting f) s rests t k = k
  shut (queued f j) s rests t k = k
  shut (taken hold j) s rests t k = (closed_hold hold s k.0, k.1)
  shut (kept o) s rests t k = neither s.scheduled s.running t k.0 k.1 where
    neither : {A : Type 0} (b c : Bool) → b || c ≡ true → b ≡ false → c ≡ false → A
    neither true c e p q = true_not refl p
    neither false c e p q = true_not e q
  shut gone s rests t k = (k.0, k.1, refl, k.3)

  -- the handle goes, of a task whose output isn't there
  pub without_handle : (b : Body F T) (s : State) (rests : Bool) → s.handle ≡ true → s.completed && not s.closed ≡ false → Fits b s rests
      → Fits b (unhandled s) rests
  without_handle (idle f) s rests h e k = k
  without_handle (resting f) s rests h e k = k
  without_handle (queued f j) s rests h e k = k
  without_handle (taken hold j) s rests h e k = (unhandled_hold hold s h k.0, k.1)
  without_handle (kept o) s rests h e k = true_not (both_not _ _ e k.2) k.3
  without_handle gone s rests h e k = k

  pub when_idle : (b : Body F T) (s : State) (rests : Bool) → s.scheduled ≡ false → s.running ≡ false → s.completed ≡ false
      → s.closed ≡ false → Fits b s rests → (f : F) × (b ≡ idle f)
  when_idle (idle f) s rests a b c d k = (f, refl)
  when_idle (resting f) s rests a b c d k = true_not k.0 a
  when_idle (queued f j) s rests a b c d k = true_not k.0 a
  when_idle (taken hold j) s rests a b c d k = hold_idle hold s a b c k.0
  when_idle (kept o) s rests a b c d k = true_not k.2 c
  when_idle gone s rests a b c d k = true_not k.2 d

  pub when_still : (b : Body F T) (s : State) (rests : Bool) → going b ≡ 0 → s.completed ≡ false → s.closed ≡ false → Fits b s rests
      → (f : F) × (b ≡ idle f)
  when_still (idle f) s rests g c d k = (f, refl)
  when_still (resting f) s rests g c d k = absurd (let z : 1 ≡ 0 = g in omega arith)
  when_still (queued f j) s rests g c d k = absurd (let z : 1 ≡ 0 = g in omega arith)
  when_still (taken hold j) s rests g c d k = hold_still hold s g c d k.0
  when_still (kept o) s rests g c d k = true_not k.2 c
  when_still gone s rests g c d k = true_not k.2 d

  pub when_gone : (b : Body F T) (s : State) (rests : Bool) → spending b ≡ 0 → s.scheduled ≡ false → s.running ≡ false → s.closed ≡ true
      → Fits b s rests → b ≡ gone
  when_gone (idle f) s rests h a b c k = true_not c k.3
  when_gone (resting f) s rests h a b c k = true_not k.0 a
  when_gone (queued f j) s rests h a b c k = true_not k.0 a
  when_gone (taken hold j) s rests h a b c k = hold_over hold s a b h k.0
  when_gone (kept o) s rests h a b c k = true_not c k.3
  when_gone gone s rests h a b c k = refl

  pub when_left : (b : Body F T) (s : State) (rests : Bool) → going b ≡ 0 → spending b ≡ 0 → s.closed ≡ true → s.awaiter ≡ true
      → Fits b s rests → b ≡ gone
  when_left (idle f) s rests g h c w k = true_not c k.3
  when_left (resting f) s rests g h c w k = absurd (let z : 1 ≡ 0 = g in omega arith)
  when_left (queued f j) s rests g h c w k = absurd (let z : 1 ≡ 0 = g in omega arith)
  when_left (taken hold j) s rests g h c w k = hold_left hold s g h w k.0
  when_left (kept o) s rests g h c w k = true_not c k.3
  when_left gone s rests g h c w k = refl

  pub when_resting : (b : Body F T) (s : State) (rests : Bool) → rests ≡ true → Fits b s rests → (f : F) × (b ≡ resting f)
  when_resting (idle f) s rests t k = true_not t k.4
  when_resting (resting f) s rests t k = (f, refl)
  when_resting (queued f j) s rests t k = true_not t k.3
  when_resting (taken hold j) s rests t k = true_not t k.1
  when_resting (kept o) s rests t k = true_not t k.5
  when_resting gone s rests t k = true_not t k.3

  pub when_kept : (b : Body F T) (s : State) (rests : Bool) → s.completed ≡ true → s.closed ≡ false → Fits b s rests
      → (t : T) × (b ≡ kept t)
  when_kept (idle f) s rests c d k = true_not c k.2
  when_kept (resting f) s rests c d k = true_not c k.2
  when_kept (queued f j) s rests c d k = true_not c k.2
  when_kept (taken hold j) s rests c d k = hold_kept hold s c d k.0
  when_kept (kept o) s rests c d k = (o, refl)
  when_kept gone s rests c d k = true_not k.2 d

module _ {W : Type 0} where
  -- an awaiter lies in its slot, or a seat has the slot by one of four
  pub post_is : {a r n : Bool} (P : Post W → Type 0) → ((o : Option W) → FitsPost (lies o) a r n → P (lies o))
      → ((j : ℕ) → r ≡ true → P (held Registering j)) → ((j : ℕ) → (r ≡ false) × (n ≡ true) → P (held HandleNotifying j))
      → ((j : ℕ) → (r ≡ false) × (n ≡ true) → P (held RunNotifying j))
      → ((j : ℕ) → (a ≡ true) × (r ≡ false) × (n ≡ false) → P (held Emptying j)) → (p : Post W) → FitsPost p a r n → P p
  post_is P l g h u e (lies o) k = l o k
  post_is P l g h u e (held Registering j) k = g j k
  post_is P l g h u e (held HandleNotifying j) k = h j k
  post_is P l g h u e (held RunNotifying j) k = u j k
  post_is P l g h u e (held Emptying j) k = e j k
  post_is P l g h u e (held Nothing j) k = absurd k
  post_is P l g h u e (held Reference j) k = absurd k
  post_is P l g h u e (held Leaving j) k = absurd k
  post_is P l g h u e (held Handle j) k = absurd k
  post_is P l g h u e (held Made j) k = absurd k
  post_is P l g h u e (held Queued j) k = absurd k
  post_is P l g h u e (held Running j) k = absurd k
  post_is P l g h u e (held Closing j) k = absurd k
  post_is P l g h u e (held Ending j) k = absurd k
  post_is P l g h u e (held Filling j) k = absurd k
  post_is P l g h u e (held Spending j) k = absurd k

  -- nobody is calling or registering the awaiter
  pub alone : (p : Post W) (s : State) → calling p ≡ 0 → handling p ≡ 0 → Reachable s
      → FitsPost p s.awaiter s.registering s.notifying → Emptied p s → (a : Option W) × (p ≡ lies a)
  alone p s c h t k e = post_is (λ q. calling q ≡ 0 → handling q ≡ 0 → Emptied q s → (a : Option W) × (q ≡ lies a))
      (λ a k c h e. (a, refl)) (λ j k c h e. absurd (let z : 1 ≡ 0 = h in omega arith))
      (λ j k c h e. absurd (let z : 1 ≡ 0 = h in omega arith)) (λ j k c h e. absurd (let z : 1 ≡ 0 = c in omega arith))
      (λ j k c h e. absurd (t e.0 e.1)) p k c h e

  -- nor was anything left there
  pub unoccupied : (p : Post W) (s : State) → calling p ≡ 0 → handling p ≡ 0 → s.awaiter ≡ false
      → FitsPost p s.awaiter s.registering s.notifying → p ≡ lies None
  unoccupied p s c h t k = post_is (λ q. calling q ≡ 0 → handling q ≡ 0 → q ≡ lies None) (λ a k c h. empty_one a k.0)
      (λ j k c h. absurd (let z : 1 ≡ 0 = h in omega arith)) (λ j k c h. absurd (let z : 1 ≡ 0 = h in omega arith))
      (λ j k c h. absurd (let z : 1 ≡ 0 = c in omega arith)) (λ j k c h. true_not k.0 t) p k c h where
        empty_one : (a : Option W) → s.awaiter ≡ is_some a → lies a ≡ lies None
        empty_one (Some w) e = true_not e t
        empty_one None e = refl

  -- nobody has the awaiter's slot, where nobody notifies or registers
  pub unheld : (p : Post W) (s : State) → s.notifying ≡ false → (s.registering ≡ true → handling p ≡ 1 → ⊥) → Reachable s
      → FitsPost p s.awaiter s.registering s.notifying → Emptied p s → (a : Option W) × (p ≡ lies a)
  unheld p s n g t k e = post_is
      (λ q. (s.registering ≡ true → handling q ≡ 1 → ⊥) → Emptied q s → (a : Option W) × (q ≡ lies a))
      (λ a k g e. (a, refl)) (λ j k g e. absurd (g k refl)) (λ j k g e. true_not k.1 n) (λ j k g e. true_not k.1 n)
      (λ j k g e. absurd (t e.0 e.1)) p k g e

  -- somebody notifies or registers, who will call the awaiter
  pub noted : (p : Post W) (s : State) → s.notifying || s.registering ≡ true → FitsPost p s.awaiter s.registering s.notifying
      → FitsPost p s.awaiter s.registering true
  noted p s e k = post_is (λ q. FitsPost q s.awaiter s.registering true) (λ a k. neither k.2 k.1) (λ j k. k) (λ j k. (k.0, refl))
      (λ j k. (k.0, refl)) (λ j k. neither k.2 k.1) p k where
        neither : {A : Type 0} → s.notifying ≡ false → s.registering ≡ false → A
        neither n r = true_not e (or_same s.notifying s.registering n ∙ r)

  pub there_is : (a : Option W) (b : Bool) → b ≡ is_some a → b ≡ true → (w : W) × (a ≡ Some w)
  there_is (Some w) b e t = (w, refl)
  there_is None b e t = true_not t e
