-- For calls_can_be_begun.
-- Each test of the machine that refuses the beginning of a call fails exactly where its cause is there.
use Rattle.std.proofs.Common.{◌≡◌, ◌≢◌, ◌∙◌, ◌⊎◌, inl, inr, ⊎_elim, ℕ, zero, suc, ◌<◌, ◌≤◌, List, [], ◌∷◌, ◌++◌, length}
use Rattle.std.proofs.Common.{Bool, true, false}
use Rattle.std.proofs.Common.{◌&&◌, ◌||◌, not, eqb, ltb, refl, sym, ap, subst, arith}
use Rattle.std.proofs.lemmas.List.{append_assoc, reverse-reverse}
use Rattle.std.specs.List.{list_any}
use Rattle.std.specs.Prelude.{Option, Some, None, reverse, slice_index_or}
use Rattle.call_laws.proofs.Types.{Begin, Busy, Call, Event, Gone, Kind, NoSuch, Op, Step}
use Rattle.executor_model.specs.declared.step.StepError.TheVariants.{Borrowed}
use Rattle.executor_model.specs.Calls.{Begun, calls}
use Rattle.executor_model.specs.Rows.{borrowing_of, leaking_of}
use Rattle.executor_model.specs.Steps.{begun, end_of, settled_by}
use Rattle.executor_model.specs.Steps.{Machine, after, begin_refusal, has_all}
use Rattle.executor_model.specs.Steps.{is_free}
use Rattle.executor_model.specs.Steps.{is_on_executor, is_owners, is_there, is_unborrowed, is_unused, lives}
use Rattle.executor_model.specs.Steps.{mine, run, stack, start}
use Rattle.executor_model.specs.Steps.{step, step_by, top, unless}
use Rattle.executor_model.specs.Trace.{Trace, has, is_drop_begun}
use Rattle.executor_model.specs.Weights.{weigh, weigh_all}
use Rattle.executor_model.specs.World.{Done, Run, Ticker, Left, World, log, no_run}
use Rattle.executor_model.proofs.OneFuture.Telling.{begun-has}
use Rattle.executor_model.proofs.Promises.{CallFrames.Tied}
use Rattle.executor_model.proofs.Steps.Deeds.{grows-begun}
use Rattle.executor_model.proofs.Table.Closing.{ordered}
use Rattle.executor_laws.proofs.Termination.Holding.{has-top}
use Rattle.call_laws.proofs.Counting.{Sees, sees-executor, sees-leak}
use Rattle.call_laws.proofs.Counting.{some-use, zero_of}
use Rattle.call_laws.proofs.Holding.{AllHeld, Any, HeldBy, all-held, held-later}
use Rattle.call_laws.proofs.Taking.{below, is-code, no-code, not-below, not-both}
use Rattle.call_laws.specs.Begins.{Begins, CallsBegin, HasBegun}
use Rattle.call_laws.specs.Begins.{IsBorrowed, IsBusy}
use Rattle.call_laws.specs.Begins.{IsGone}
use Rattle.call_laws.specs.Begins.Begins.{begins, borrowed, busy, gone, missing, nobody}
use Rattle.call_laws.specs.Begins.IsBorrowed.{by_call, by_run, by_tick}
use Rattle.call_laws.specs.Begins.IsGone.{by_drop, by_leak, unowned}
use Rattle.call_laws.specs.InProgress.{InProgress, is_leak, is_owners_call}
use Rattle.call_laws.specs.InProgress.{uses_executor}
use Rattle.call_laws.specs.UserCode.{IsUserCode}
use Rattle.call_laws.proofs.There.{all-there, both, first, free-of, lives-tick, run-lives, second, there-all, tick-lives, zeros}

-- whether the party is free

empty-top : (os : List Op) → top os ≡ None → os ≡ []
empty-top [] e = refl
empty-top (x ∷ xs) e = absurd (has-top x xs e)

no-frames : (es : Trace) (bs : List Begun) (os : List Op) → Tied HeldBy held-later Any es bs os → os ≡ [] → bs ≡ []
no-frames es [] os k e = refl
no-frames es (b ∷ bs) os k e = absurd (nonempty k.0 (sym k.3.is ∙ e))
  where
    nonempty : (front : List Op) → front ++ k.1 ∷ k.2 ≡ [] → ⊥
    nonempty [] e = absurd (cc)
    nonempty (x ∷ xs) e = absurd (cc)

no-stack : (es : Trace) (bs : List Begun) (os : List Op) → Tied HeldBy held-later Any es bs os → bs ≡ [] → os ≡ []
no-stack es [] os k e = k
no-stack es (b ∷ bs) os k e = absurd (cc)

module _ (s : Machine) (a : AllHeld s) (p : ℕ) where
  rests : (calls p s.world.trace).begun ≡ [] → stack s p ≡ []
  rests e = sym (reverse-reverse (stack s p)) ∙ ap (λ (os : List Op). reverse os)
      (no-stack s.world.trace (calls p s.world.trace).begun (reverse (stack s p)) (a.tied p) e)

  at-rest : stack s p ≡ [] → (calls p s.world.trace).begun ≡ []
  at-rest e = no-frames s.world.trace (calls p s.world.trace).begun (reverse (stack s p)) (a.tied p)
      (ap (λ (os : List Op). reverse os) e)

  is-busy : (o : Option Op) → top (stack s p) ≡ o → is_free o ≡ false → IsBusy p s
  is-busy None t e = absurd (cc)
  is-busy (Some o) t e = record {
    in_call = λ n. (let no : None ≡ Some o = ap top (sym (rests n)) ∙ t in let r : ⊥ = absurd (cc) in r);
    unfree = λ x k c. (let i : o ≡ x = (let q : Some o ≡ Some x = sym t ∙ k in cc) in
        no-code o e (subst IsUserCode (sym i) c));
  }

  is-idle : (o : Option Op) → top (stack s p) ≡ o → is_free o ≡ true → ¬ IsBusy p s
  is-idle None t e k = k.in_call (at-rest (empty-top (stack s p) t))
  is-idle (Some o) t e k = k.unfree o t (is-code o e)

-- the executor

on-executor : (c : Call) → is_on_executor c ≡ true → (uses_executor c ≡ true) ⊎ (is_owners_call c ≡ true)
on-executor (Call.Spawn m) e = inl refl
on-executor Call.TryTick e = inl refl
on-executor Call.IsEmpty e = inl refl
on-executor Call.NewTick e = inl refl
on-executor (Call.PollTick t b) e = inl refl
on-executor (Call.DropTick t) e = inl refl
on-executor Call.NewRun e = inl refl
on-executor (Call.PollRun r b) e = inl refl
on-executor (Call.DropRun r) e = inl refl
on-executor Call.Leak e = inr refl
on-executor Call.DropExecutor e = inr refl
on-executor _ e = absurd (cc)

executor-on : (c : Call) → (uses_executor c ≡ true) ⊎ (is_owners_call c ≡ true) → is_on_executor c ≡ true
executor-on (Call.Spawn m) k = refl
executor-on Call.TryTick k = refl
executor-on Call.IsEmpty k = refl
executor-on Call.NewTick k = refl
executor-on (Call.PollTick t b) k = refl
executor-on (Call.DropTick t) k = refl
executor-on Call.NewRun k = refl
executor-on (Call.PollRun r b) k = refl
executor-on (Call.DropRun r) k = refl
executor-on Call.Leak k = refl
executor-on Call.DropExecutor k = refl
executor-on _ (inl x) = absurd (cc)
executor-on _ (inr x) = absurd (cc)

owners-is : (c : Call) → is_owners c ≡ is_owners_call c
owners-is Call.Leak = refl
owners-is Call.DropExecutor = refl
owners-is _ = refl

-- what lives

any-tick : (ts : List Ticker) → list_any lives ts ≡ true → (t : ℕ) × (slice_index_or ts t Left ≢ Left)
any-tick [] e = absurd (cc)
any-tick (x ∷ ts) e = by (lives x) refl e (λ k. any-tick ts k)
  where
    by : (b : Bool) → lives x ≡ b → (b || list_any lives ts) ≡ true →
        (list_any lives ts ≡ true → (t : ℕ) × (slice_index_or ts t Left ≢ Left)) → (t : ℕ) × (slice_index_or (x ∷ ts) t Left ≢ Left)
    by true z k f = (0, tick-lives x z)
    by false z k f = let r = f k in (suc r.0, r.1)

tick-any : (ts : List Ticker) (t : ℕ) → slice_index_or ts t Left ≢ Left → list_any lives ts ≡ true
tick-any [] t n = absurd (n refl)
tick-any (x ∷ ts) zero n = ap (λ (b : Bool). b || list_any lives ts) (lives-tick x n)
tick-any (x ∷ ts) (suc t) n = by (lives x) (tick-any ts t n)
  where
    by : (b : Bool) → list_any lives ts ≡ true → (b || list_any lives ts) ≡ true
    by true z = refl
    by false z = z

any-run : (rs : List Run) → list_any is_there rs ≡ true → (r : ℕ) × ((slice_index_or rs r no_run).dropped ≡ false)
any-run [] e = absurd (cc)
any-run (x ∷ rs) e = by (is_there x) refl e (λ k. any-run rs k)
  where
    by : (b : Bool) → is_there x ≡ b → (b || list_any is_there rs) ≡ true →
        (list_any is_there rs ≡ true → (r : ℕ) × ((slice_index_or rs r no_run).dropped ≡ false)) →
        (r : ℕ) × ((slice_index_or (x ∷ rs) r no_run).dropped ≡ false)
    by true z k f = (0, run-lives x.dropped z)
    by false z k f = let r = f k in (suc r.0, r.1)

run-any : (rs : List Run) (r : ℕ) → (slice_index_or rs r no_run).dropped ≡ false → list_any is_there rs ≡ true
run-any [] r e = absurd (cc)
run-any (x ∷ rs) zero e = ap (λ (b : Bool). not b || list_any is_there rs) e
run-any (x ∷ rs) (suc r) e = by (is_there x) (run-any rs r e)
  where
    by : (b : Bool) → list_any is_there rs ≡ true → (b || list_any is_there rs) ≡ true
    by true z = refl
    by false z = z

-- the executor is gone, or borrowed

not-true : (b : Bool) → not b ≡ false → b ≡ true
not-true true e = refl
not-true false e = absurd (cc)

not-false : (b : Bool) → not b ≡ true → b ≡ false
not-false true e = absurd (cc)
not-false false e = refl

or-not : (a b : Bool) → (not a || b) ≡ false → (a ≡ true) × (b ≡ false)
or-not true b e = (refl, e)
or-not false b e = absurd (cc)

or-then : (a b : Bool) → (not a || b) ≡ true → a ≡ true → b ≡ true
or-then true b e z = e
or-then false b e z = absurd (cc)

is-some-use : (n : ℕ) → eqb n 0 ≡ false → 1 ≤ n
is-some-use zero e = absurd (cc)
is-some-use (suc n) e = omega arith

module _ (s : Machine) (a : AllHeld s) (begun_is : has is_drop_begun s.world.trace ≡ s.world.gone) (c : Call) where
  used : (v : Op → ℕ) (t : Begun → Bool) → Sees v t zero_of → is_unused v s.parties ≡ false → InProgress t s.world.trace
  used v t x e = ⊎_elim
      (λ (y : InProgress t s.world.trace). y)
      (λ (y : (q : ℕ) × (1 ≤ weigh zero_of (stack s q))). absurd (omega (arith, y.1, zeros (stack s y.0))))
      (some-use v t zero_of x s a (is-some-use (weigh_all v s.parties) e))

  gone-dropped : not (s.world.gone && is_on_executor c) ≡ false → IsGone s c
  gone-dropped e =
      let k = not-true (s.world.gone && is_on_executor c) e in
      by_drop (on-executor c (second s.world.gone (is_on_executor c) k)) (begun_is ∙ first s.world.gone (is_on_executor c) k)

  gone-leaking : (not (is_on_executor c) || is_unused leaking_of s.parties) ≡ false → IsGone s c
  gone-leaking e =
      let k = or-not (is_on_executor c) (is_unused leaking_of s.parties) e in
      by_leak (on-executor c k.0) (used leaking_of (λ b. is_leak b.call) sees-leak k.1)

  gone-unowned : not (is_owners c && s.world.is_static) ≡ false → IsGone s c
  gone-unowned e =
      let k = not-true (is_owners c && s.world.is_static) e in
      unowned (sym (owners-is c) ∙ first (is_owners c) s.world.is_static k) (second (is_owners c) s.world.is_static k)

  not-gone : not (s.world.gone && is_on_executor c) ≡ true → (not (is_on_executor c) || is_unused leaking_of s.parties) ≡ true →
      not (is_owners c && s.world.is_static) ≡ true → ¬ IsGone s c
  not-gone g l k (by_drop on z) = not-both (s.world.gone && is_on_executor c)
      (both s.world.gone (is_on_executor c) (sym begun_is ∙ z) (executor-on c on)) (not-false (s.world.gone && is_on_executor c) g)
  not-gone g l k (by_leak on z) =
      free-of s a leaking_of (λ b. is_leak b.call) zero_of sees-leak (or-then (is_on_executor c) _ l (executor-on c on)) z
  not-gone g l k (unowned on z) = not-both (is_owners c && s.world.is_static)
      (both (is_owners c) s.world.is_static (owners-is c ∙ on) z) (not-false (is_owners c && s.world.is_static) k)

  is-borrowed : (not (is_owners c) || is_unborrowed s.world s.parties) ≡ false → IsBorrowed s c
  is-borrowed e =
      let k = or-not (is_owners c) (is_unborrowed s.world s.parties) e in
      by (is_unused borrowing_of s.parties) refl (list_any lives s.world.ticks) refl (list_any is_there s.world.runs) refl
      (sym (owners-is c) ∙ k.0) k.1
    where
      by : (x : Bool) → is_unused borrowing_of s.parties ≡ x → (y : Bool) → list_any lives s.world.ticks ≡ y → (z : Bool) →
          list_any is_there s.world.runs ≡ z → is_owners_call c ≡ true → (x && not (y || z)) ≡ false → IsBorrowed s c
      by false e y u z v o n = by_call o (used borrowing_of (λ b. uses_executor b.call) sees-executor e)
      by true e true u z v o n = let t = any-tick s.world.ticks u in by_tick t.0 o t.1
      by true e false u true v o n = let r = any-run s.world.runs v in by_run r.0 o r.1
      by true e false u false v o n = absurd (cc)

  not-borrowed : (not (is_owners c) || is_unborrowed s.world s.parties) ≡ true → ¬ IsBorrowed s c
  not-borrowed e (by_tick t o l) =
      not-both (list_any lives s.world.ticks) (tick-any s.world.ticks t l) (none-lives o).0
    where
      none-lives : is_owners_call c ≡ true → (list_any lives s.world.ticks ≡ false) × (list_any is_there s.world.runs ≡ false)
      none-lives o = neither (list_any lives s.world.ticks) (list_any is_there s.world.runs)
          (second (is_unused borrowing_of s.parties) _ (or-then (is_owners c) _ e (owners-is c ∙ o)))
        where
          neither : (x y : Bool) → not (x || y) ≡ true → (x ≡ false) × (y ≡ false)
          neither true y z = absurd (cc)
          neither false true z = absurd (cc)
          neither false false z = (refl, refl)
  not-borrowed e (by_run r o l) =
      not-both (list_any is_there s.world.runs) (run-any s.world.runs r l) (none-lives o).1
    where
      none-lives : is_owners_call c ≡ true → (list_any lives s.world.ticks ≡ false) × (list_any is_there s.world.runs ≡ false)
      none-lives o = neither (list_any lives s.world.ticks) (list_any is_there s.world.runs)
          (second (is_unused borrowing_of s.parties) _ (or-then (is_owners c) _ e (owners-is c ∙ o)))
        where
          neither : (x y : Bool) → not (x || y) ≡ true → (x ≡ false) × (y ≡ false)
          neither true y z = absurd (cc)
          neither false true z = absurd (cc)
          neither false false z = (refl, refl)
  not-borrowed e (by_call o k) = free-of s a borrowing_of (λ b. uses_executor b.call) zero_of sees-executor
      (first (is_unused borrowing_of s.parties) _ (or-then (is_owners c) _ e (owners-is c ∙ o))) k

-- what has begun is told of first

settled-more : (o : Option Op) (es : Trace) (p : ℕ) (w : World) (os : List Op) → (more : Trace) × (w.trace ≡ es ++ more) →
    (more : Trace) × ((settled_by (end_of o) p w os).world.trace ≡ es ++ more)
settled-more (Some (Op.End r held)) es p w os m = (
  m.0 ++ Event.CallEnded p r ∷ [],
  ap (λ (xs : Trace). xs ++ Event.CallEnded p r ∷ []) m.1 ∙ append_assoc es m.0 (Event.CallEnded p r ∷ []),
)
settled-more None es p w os m = m
settled-more (Some _) es p w os m = m

has-begun : (s : Machine) (p : ℕ) (c : Call) → HasBegun p c s (after s (Begin p c))
has-begun s p c =
    let w : World = log s.world (Event.CallBegun p c) in
    let d : Done = begun p w (mine (top (stack s p))) c in
    let g = grows-begun p w (mine (top (stack s p))) c in
    let m = settled-more (top (stack s p ++ reverse d.next)) w.trace p d.world (stack s p ++ reverse d.next) (g.more, g.is) in
    (m.0, m.1 ∙ append_assoc s.world.trace (Event.CallBegun p c ∷ []) m.0)

begins-by : (s : Machine) → AllHeld s → has is_drop_begun s.world.trace ≡ s.world.gone → CallsBegin s
unfolding step
begins-by s a begun_is p c = party (ltb p (length s.parties)) refl
  where
    by : p < length s.parties → (x b g l k d : Bool) → is_free (top (stack s p)) ≡ x →
        has_all s.world s.parties (top (stack s p)) c ≡ b → not (s.world.gone && is_on_executor c) ≡ g →
        (not (is_on_executor c) || is_unused leaking_of s.parties) ≡ l → not (is_owners c && s.world.is_static) ≡ k →
        (not (is_owners c) || is_unborrowed s.world s.parties) ≡ d →
        Begins s p c (step_by (unless x Busy (unless b NoSuch (unless g Gone (unless l Gone (unless k Gone
        (unless d Borrowed None)))))) s (Begin p c))
    by h false b g l k d ex eb eg el ek ed = busy h (is-busy s a p (top (stack s p)) refl ex)
    by h true false g l k d ex eb eg el ek ed = missing h (is-idle s a p (top (stack s p)) refl ex)
        (λ y. not-both (has_all s.world s.parties (top (stack s p)) c) (there-all s a p c y) eb)
    by h true true false l k d ex eb eg el ek ed = gone h (is-idle s a p (top (stack s p)) refl ex) (all-there s a p c eb)
        (gone-dropped s a begun_is c eg)
    by h true true true false k d ex eb eg el ek ed = gone h (is-idle s a p (top (stack s p)) refl ex) (all-there s a p c eb)
        (gone-leaking s a begun_is c el)
    by h true true true true false d ex eb eg el ek ed = gone h (is-idle s a p (top (stack s p)) refl ex) (all-there s a p c eb)
        (gone-unowned s a begun_is c ek)
    by h true true true true true false ex eb eg el ek ed = borrowed h (is-idle s a p (top (stack s p)) refl ex)
        (all-there s a p c eb) (not-gone s a begun_is c eg el ek) (is-borrowed s a begun_is c ed)
    by h true true true true true true ex eb eg el ek ed = begins h (is-idle s a p (top (stack s p)) refl ex)
        (all-there s a p c eb) (not-gone s a begun_is c eg el ek) (not-borrowed s a begun_is c ed) (after s (Begin p c))
        (has-begun s p c)

    party : (b : Bool) → ltb p (length s.parties) ≡ b →
        Begins s p c (step_by (unless b NoSuch (begin_refusal s.world s.parties (top (stack s p)) c)) s (Begin p c))
    party false e = nobody (not-below p (length s.parties) e)
    party true e = by (below p (length s.parties) e) _ _ _ _ _ _ refl refl refl refl refl refl

pub every-begin : (limit : ℕ) (kind : Kind) (parties : ℕ) (steps : List Step) → CallsBegin (run steps (start limit kind parties))
every-begin limit kind parties steps =
    let s : Machine = run steps (start limit kind parties) in
    begins-by s (all-held limit kind parties steps)
    (sym (begun-has 0 s.world.trace) ∙ ((ordered limit kind parties steps).placed.leaves 0).begun)
