-- For leaks_wake_each_future.
-- What holds of a leak at every moment, and what keeps it: who is to be woken stays so or is told of.
use Rattle.std.proofs.Common.{◌≡◌, ◌⊎◌, ⊎_elim, ℕ, ◌+◌, ◌<◌, ◌≤◌, List, [], ◌∷◌, ◌++◌, length, Bool, true, false, ◌||◌, not}
use Rattle.std.proofs.Common.{cond, eqb, inl, inr, refl, sym, ap, ◌∙◌, subst, arith, take}
use Rattle.std.{specs.List.before_first, specs.List.position_or_len, specs.Prelude.count_by, specs.Prelude.reverse}
use Rattle.executor_model.proofs.Types.{Event, ClosingOp, Op, RunOp, SleeperOp, TableOp, UserOp, WakerOp, Hint, Move}
use Rattle.executor_model.specs.Acts.{drop_next_by, enter_by, leak_next_by, leak_out_by, leaking_ops, leave_by, wake}
use Rattle.executor_model.specs.Trace.{Trace, has, is_accepted, is_drop_begun, is_dropped, is_leak_begun, is_leaked}
use Rattle.executor_model.specs.{Acts.wake_next_by, Doing.act, Good.Good, LeakWakes.before_leak, Sound.times, Steps.Machine}
use Rattle.executor_model.specs.{Steps.stack, Weights.same, Weights.weigh, Weights.weigh_all, World.World, World.Done}
use Rattle.executor_model.proofs.OneFuture.Telling.{accepted-counts, before-cons, begun-has, counted-there, fallen-counts}
use Rattle.executor_model.proofs.Promises.CallPromises.{has-left, has-right}
use Rattle.executor_model.proofs.Steps.Hushed.{Hushed, Hushes, is_hushed}
use Rattle.executor_model.proofs.Steps.Listing.{Entries, entries-move, same-entries}
use Rattle.executor_model.proofs.Steps.Lists.{same_cases, times-append, weigh-append, weigh_all-push}
use Rattle.executor_model.proofs.Table.LeakCounts.{goes-leak_next, goes-leak_out, goes_of, is_leaking, leaks_of}
use Rattle.executor_model.proofs.{OneFuture.Extras.waking_of, OneFuture.Telling.same-cond, OneFuture.Telling.there-or-none}
use Rattle.executor_model.proofs.{Steps.Growing.split, Steps.Lift.unsettled, Steps.Tests.or-left, Steps.TraceMore.has-append}
use Rattle.executor_model.proofs.{Table.Closing.Ordered, Table.LeakWithin.Withins, Table.LeakWithin.going_of}

-- the next one is to be woken
abbrev pub nexts_of : Op → ℕ
nexts_of o = goes_of 0 1 o

-- what stood before the first stays that

before-here : (q : Event → Bool) (e : Event) (es : Trace) → q e ≡ true → before_first q (e ∷ es) ≡ []
before-here q e es h = ap (λ (c : Bool). take (cond (not c) (1 + position_or_len q es) 0) (e ∷ es)) h

before-append : (q : Event → Bool) (es more : Trace) → has q es ≡ true → before_first q (es ++ more) ≡ before_first q es
before-append q [] more h = absurd (cc)
before-append q (e ∷ es) more h = by (q e) refl h (before-append q es more)
  where
    by : (b : Bool) → q e ≡ b → (b || has q es) ≡ true → (has q es ≡ true → before_first q (es ++ more) ≡ before_first q es) →
        before_first q (e ∷ (es ++ more)) ≡ before_first q (e ∷ es)
    by true z k ih = before-here q e (es ++ more) z ∙ sym (before-here q e es z)
    by false z k ih = before-cons q e (es ++ more) z
        ∙ (ap (λ (xs : Trace). e ∷ xs) (ih k) ∙ sym (before-cons q e es z))

before-has : (t q : Event → Bool) (es : Trace) → has t (before_first q es) ≡ true → has t es ≡ true
before-has t q [] h = h
before-has t q (e ∷ es) h = by (q e) refl (before-has t q es)
  where
    by : (b : Bool) → q e ≡ b → (has t (before_first q es) ≡ true → has t es ≡ true) → has t (e ∷ es) ≡ true
    by true z ih = absurd (let no : false ≡ true = sym (ap (has t) (before-here q e es z)) ∙ h in cc)
    by false z ih = either (t e) refl (ap (has t) (sym (before-cons q e es z)) ∙ h)
      where
        either : (c : Bool) → t e ≡ c → (t e || has t (before_first q es)) ≡ true → (t e || has t es) ≡ true
        either true i k = ap (λ (b : Bool). b || has t es) i
        either false i k = ap (λ (b : Bool). b || has t es) i ∙ ih (sym (ap (λ (b : Bool). b || has t (before_first q es)) i) ∙ k)

pub before-told : (t : Event → Bool) (es more : Trace) → has t more ≡ false → has t (es ++ more) ≡ true → has t es ≡ true
before-told t es more n h = by (has t es) refl
  where
    by : (b : Bool) → has t es ≡ b → has t es ≡ true
    by true e = e
    by false e = absurd (let no : false ≡ true = sym (has-append t es more e n) ∙ h in cc)

untold-before : (t : Event → Bool) (es more : Trace) → has t (es ++ more) ≡ false → has t es ≡ false
untold-before t es more h = by (has t es) refl
  where
    by : (b : Bool) → has t es ≡ b → has t es ≡ false
    by false e = e
    by true e = absurd (let no : true ≡ false = sym (has-left t es more e) ∙ h in cc)

same-has : (t : Event → Bool) (es more : Trace) → has t more ≡ false → has t (es ++ more) ≡ has t es
same-has t es more n = by (has t es) refl
  where
    by : (b : Bool) → has t es ≡ b → has t (es ++ more) ≡ has t es
    by true e = has-left t es more e ∙ sym e
    by false e = has-append t es more e n ∙ sym e

-- at every moment

pub record Leaks (s : Machine) : Type 0 where
  pub ordered : Ordered s
  pub within : Withins s
  pub single : weigh_all leaks_of s.parties ≤ 1
  pub opened : 1 ≤ weigh_all leaks_of s.parties → (s.world.is_static ≡ false) × (s.world.gone ≡ false)
  pub begun : has is_leak_begun s.world.trace ≡ true →
      (1 ≤ weigh_all leaks_of s.parties) ⊎ ((s.world.is_static ≡ true) × (s.world.gone ≡ false))
  pub goes_on : s.world.gone ≡ false → (s.world.waking ≡ []) ⊎ (1 ≤ weigh_all nexts_of s.parties)
  pub woken : (f : ℕ) → has is_leak_begun s.world.trace ≡ true →
      has (is_accepted f) (before_leak s.world.trace) ≡ true → has (is_dropped f) s.world.trace ≡ false →
      (1 ≤ weigh_all leaks_of s.parties)
      ⊎ ((1 ≤ times f s.world.waking) ⊎ (has (is_leaked f) s.world.trace ≡ true))

begun-is : (s : Machine) → Ordered s → has is_drop_begun s.world.trace ≡ s.world.gone
begun-is s h = sym (begun-has 0 s.world.trace) ∙ (h.placed.leaves 0).begun

-- no call leads to the beginning of a drop but that of the executor
pub hushed-drop : (e : Event) → is_hushed e ≡ true → is_drop_begun e ≡ false
hushed-drop (Event.DropBegun p) z = absurd (cc)
hushed-drop _ z = refl

pub drops-none : (p : ℕ) (o : Op) → Hushes is_drop_begun hushed-drop p o
drops-none p (Op.Waker (WakerOp.CallAwaiter f a k)) = refl
drops-none p (Op.Sleeper (SleeperOp.CallSleeper n)) = refl
drops-none p (Op.Run (RunOp.WakeOwn r)) = refl
drops-none p (Op.Table (TableOp.Enter mark)) = λ f. refl
drops-none p (Op.User (UserOp.BeginDrop f)) = refl
drops-none p (Op.Closing ClosingOp.DropNext) = λ f. refl
drops-none p _ = tt

same-self : (f : ℕ) → same f f ≡ 1
same-self f = grind (arith, same_cases)

module _ (s : Machine) (p : ℕ) (old rest : List Op) (d : Done) (l : p < length s.parties)
    (e : stack s p ≡ rest ++ reverse old) (k : Leaks s) (after : Ordered (unsettled s p rest d))
    (within : Withins (unsettled s p rest d)) where
  pub now : (v : Op → ℕ) → weigh_all v (unsettled s p rest d).parties + weigh v old ≡ weigh_all v s.parties + weigh v d.next
  now v = omega (arith, weigh_all-push v s.parties p rest d.next l, split v s.parties p old rest l e)

  not-gone : s.world.gone ≡ true → has is_leak_begun s.world.trace ≡ true → ⊥
  not-gone g h = ⊎_elim
      (λ (x : 1 ≤ weigh_all leaks_of s.parties). let no : true ≡ false = sym g ∙ (k.opened x).1 in absurd (cc))
      (λ (x : (s.world.is_static ≡ true) × (s.world.gone ≡ false)).
      let no : true ≡ false = sym g ∙ x.1 in absurd (cc)) (k.begun h)

  -- nothing begins, and who is to be woken stays so or is told of
  stays : (more : Trace) → d.world.trace ≡ s.world.trace ++ more → has is_leak_begun more ≡ false →
      d.world.is_static ≡ s.world.is_static → d.world.gone ≡ s.world.gone →
      weigh leaks_of old ≡ 0 → weigh leaks_of d.next ≡ 0 →
      (d.world.gone ≡ false → (d.world.waking ≡ []) ⊎ (1 ≤ weigh_all nexts_of (unsettled s p rest d).parties)) →
      ((f : ℕ) → s.world.gone ≡ false → 1 ≤ times f s.world.waking →
      (1 ≤ times f d.world.waking) ⊎ (has (is_leaked f) d.world.trace ≡ true)) → Leaks (unsettled s p rest d)
  stays more t n static gone a b on keeps = record {
    ordered = after;
    within = within;
    single = omega (arith, k.single, now leaks_of, a, b);
    opened = λ x. let y = k.opened (omega (arith, x, now leaks_of, a, b)) in (static ∙ y.0, gone ∙ y.1);
    begun = λ h. ⊎_elim
        (λ (x : 1 ≤ weigh_all leaks_of s.parties). inl (omega (arith, x, now leaks_of, a, b)))
        (λ (x : (s.world.is_static ≡ true) × (s.world.gone ≡ false)). inr (static ∙ x.0, gone ∙ x.1)) (k.begun (was h));
    goes_on = on;
    woken = λ f h c u. ⊎_elim
        (λ (x : 1 ≤ weigh_all leaks_of s.parties). inl (omega (arith, x, now leaks_of, a, b)))
        (λ (x : (1 ≤ times f s.world.waking) ⊎ (has (is_leaked f) s.world.trace ≡ true)). inr (⊎_elim
        (λ (y : 1 ≤ times f s.world.waking). keeps f (open-still (was h)) y)
        (λ (y : has (is_leaked f) s.world.trace ≡ true).
        inr (subst (λ (es : Trace). has (is_leaked f) es ≡ true) (sym t) (has-left (is_leaked f) s.world.trace more y))) x))
        (k.woken f (was h)
        (subst (λ (es : Trace). has (is_accepted f) es ≡ true)
        (ap before_leak t ∙ before-append is_leak_begun s.world.trace more (was h)) c)
        (untold-before (is_dropped f) s.world.trace more (subst (λ (es : Trace). has (is_dropped f) es ≡ false) t u)));
  }
    where
      was : has is_leak_begun d.world.trace ≡ true → has is_leak_begun s.world.trace ≡ true
      was h = before-told is_leak_begun s.world.trace more n (subst (λ (es : Trace). has is_leak_begun es ≡ true) t h)

      open-still : has is_leak_begun s.world.trace ≡ true → s.world.gone ≡ false
      open-still h = by s.world.gone (λ g. not-gone g h)
        where
          by : (b : Bool) → (b ≡ true → ⊥) → b ≡ false
          by false m = refl
          by true m = absurd (m refl)

  -- nobody is woken, or the drop of the executor has begun
  pub calm : (more : Trace) → d.world.trace ≡ s.world.trace ++ more → has is_leak_begun more ≡ false →
      d.world.is_static ≡ s.world.is_static → d.world.gone ≡ s.world.gone →
      (d.world.waking ≡ s.world.waking) ⊎ (s.world.gone ≡ true) → weigh going_of old ≡ 0 → weigh going_of d.next ≡ 0 →
      Leaks (unsettled s p rest d)
  calm more t n static gone c a b = stays more t n static gone
      (omega (arith, a, less-leaks old)) (omega (arith, b, less-leaks d.next))
      (λ m. ⊎_elim
      (λ (x : d.world.waking ≡ s.world.waking). ⊎_elim
      (λ (y : s.world.waking ≡ []). inl (x ∙ y))
      (λ (y : 1 ≤ weigh_all nexts_of s.parties).
      inr (omega (arith, y, now nexts_of, a, b, less-nexts old, less-nexts d.next))) (k.goes_on (sym gone ∙ m)))
      (λ (x : s.world.gone ≡ true). absurd (let no : true ≡ false = sym x ∙ (sym gone ∙ m) in cc)) c)
      (λ f g y. ⊎_elim
      (λ (x : d.world.waking ≡ s.world.waking). inl (omega (arith, ap (times f) x, y)))
      (λ (x : s.world.gone ≡ true). absurd (let no : true ≡ false = sym x ∙ g in cc)) c)
    where
      leaks-least : (o : Op) → leaks_of o ≤ going_of o
      leaks-least (Op.Closing ClosingOp.LeakOut) = omega arith
      leaks-least _ = omega arith

      nexts-least : (o : Op) → nexts_of o ≤ going_of o
      nexts-least (Op.Closing ClosingOp.LeakNext) = omega arith
      nexts-least _ = omega arith

      less-leaks : (os : List Op) → weigh leaks_of os ≤ weigh going_of os
      less-leaks [] = omega arith
      less-leaks (o ∷ os) = omega (arith, leaks-least o, less-leaks os)

      less-nexts : (os : List Op) → weigh nexts_of os ≤ weigh going_of os
      less-nexts [] = omega arith
      less-nexts (o ∷ os) = omega (arith, nexts-least o, less-nexts os)

  there : old ≡ Op.Closing ClosingOp.LeakOut ∷ [] → 1 ≤ weigh_all leaks_of s.parties
  there q = omega (arith, split leaks_of s.parties p old rest l e, ap (weigh leaks_of) q)

  none-counted : (test : Event → Bool) (es : Trace) → has test es ≡ false → count_by test es ≡ 0
  none-counted test es h = ⊎_elim
      (λ (x : (has test es ≡ true) × (1 ≤ count_by test es)). absurd (let no : true ≡ false = sym x.0 ∙ h in cc))
      (λ (x : (has test es ≡ false) × (count_by test es ≡ 0)). x.1) (there-or-none test es)

  -- whoever was accepted and isn't dropped has an entry
  entered : (f : ℕ) → s.world.gone ≡ false → has (is_accepted f) s.world.trace ≡ true →
      has (is_dropped f) s.world.trace ≡ false → 1 ≤ times f s.world.table
  entered f g a u = omega (
    arith,
    (k.ordered.placed.leaves f).table (inl g),
    fallen-counts f s.world.trace,
    none-counted (is_dropped f) s.world.trace u,
    accepted-counts f s.world.trace,
    counted-there (is_accepted f) s.world.trace a,
  )

  -- the wakers are taken out of the table
  pub leaks-out : (i n : Bool) → s.world.is_static ≡ i → s.world.gone ≡ n → old ≡ Op.Closing ClosingOp.LeakOut ∷ [] →
      d ≡ leak_out_by (i || n) s.world → Leaks (unsettled s p rest d)
  leaks-out true n i g q z = absurd (let no : true ≡ false = sym i ∙ (k.opened (there q)).0 in cc)
  leaks-out false true i g q z = absurd (let no : true ≡ false = sym g ∙ (k.opened (there q)).1 in cc)
  leaks-out false false i g q z =
      let one : weigh leaks_of old ≡ 1 = ap (weigh leaks_of) q in
      let none : weigh leaks_of d.next ≡ 0 =
      ap (λ (c : Done). weigh leaks_of c.next) z ∙ omega (arith, goes-leak_out 1 0 false s.world) in
      let trace : d.world.trace ≡ s.world.trace = ap (λ (c : Done). c.world.trace) z in
      record {
        ordered = after;
        within = within;
        single = omega (arith, k.single, now leaks_of, none);
        opened = λ x. absurd (omega (arith, x, k.single, now leaks_of, one, none));
        begun = λ h. inr (ap (λ (c : Done). c.world.is_static) z, ap (λ (c : Done). c.world.gone) z ∙ g);
        goes_on = λ m. more (s.world.waking ++ s.world.table) refl;
        woken = λ f h c u. inr (inl (omega (
          arith,
          ap (λ (x : Done). times f x.world.waking) z,
          times-append f s.world.waking s.world.table,
          entered f g
              (before-has (is_accepted f) is_leak_begun s.world.trace
              (subst (λ (es : Trace). has (is_accepted f) (before_leak es) ≡ true) trace c))
              (subst (λ (es : Trace). has (is_dropped f) es ≡ false) trace u),
        )));
      }
    where
      more : (ws : List ℕ) → s.world.waking ++ s.world.table ≡ ws →
          (d.world.waking ≡ []) ⊎ (1 ≤ weigh_all nexts_of (unsettled s p rest d).parties)
      more [] j = inl (ap (λ (c : Done). c.world.waking) z ∙ j)
      more (x ∷ ws) j = inr (omega (
        arith,
        now nexts_of,
        split nexts_of s.parties p old rest l e,
        ap (weigh nexts_of) q,
        ap (λ (c : Done). weigh nexts_of c.next) z,
        ap (λ (xs : List ℕ). weigh nexts_of (leaking_ops xs)) j,
      ))

  -- the next is woken
  pub leaks-next : (b : Bool) (ls : List ℕ) → s.world.gone ≡ b → s.world.waking ≡ ls →
      old ≡ Op.Closing ClosingOp.LeakNext ∷ [] → d ≡ leak_next_by b p s.world ls → (more : Trace) →
      d.world.trace ≡ s.world.trace ++ more → has is_leak_begun more ≡ false → d.world.is_static ≡ s.world.is_static →
      d.world.gone ≡ s.world.gone → Leaks (unsettled s p rest d)
  leaks-next true ls g i q z more t n static gone = stays more t n static gone (ap (weigh leaks_of) q)
      (ap (λ (c : Done). weigh leaks_of c.next) z)
      (λ m. absurd (let no : true ≡ false = sym g ∙ (sym gone ∙ m) in cc))
      (λ f x y. absurd (let no : true ≡ false = sym g ∙ x in cc))
  leaks-next false [] g i q z more t n static gone = stays more t n static gone (ap (weigh leaks_of) q)
      (ap (λ (c : Done). weigh leaks_of c.next) z) (λ m. inl (ap (λ (c : Done). c.world.waking) z ∙ i))
      (λ f x y. absurd (omega (arith, y, ap (times f) i)))
  leaks-next false (f ∷ gs) g i q z more t n static gone = stays more t n static gone (ap (weigh leaks_of) q)
      (ap (λ (c : Done). weigh leaks_of c.next) z ∙ omega (arith, goes-leak_next 1 0 false p s.world (f ∷ gs)))
      (λ m. on gs refl) (λ h x y. keeps h (eqb h f) refl y)
    where
      u : World
      u = record s.world { waking = gs }

      left : d.world.waking ≡ gs
      left = ap (λ (c : Done). c.world.waking) z ∙ sym (ap (λ (x : Entries). x.waking) (entries-move true Move.Wake p u f))

      on : (ws : List ℕ) → gs ≡ ws → (d.world.waking ≡ []) ⊎ (1 ≤ weigh_all nexts_of (unsettled s p rest d).parties)
      on [] j = inl (left ∙ j)
      on (x ∷ ws) j = inr (omega (
        arith,
        now nexts_of,
        split nexts_of s.parties p old rest l e,
        ap (weigh nexts_of) q,
        ap (λ (c : Done). weigh nexts_of c.next) z,
        weigh-append nexts_of (wake p u f).next (leaking_ops gs),
        ap (λ (xs : List ℕ). weigh nexts_of (leaking_ops xs)) j,
      ))

      keeps : (h : ℕ) (b : Bool) → eqb h f ≡ b → 1 ≤ times h s.world.waking →
          (1 ≤ times h d.world.waking) ⊎ (has (is_leaked h) d.world.trace ≡ true)
      keeps h true j y = inr (subst (λ (es : Trace). has (is_leaked h) es ≡ true)
          (sym (ap (λ (c : Done). c.world.trace) z))
          (has-right (is_leaked h) (wake_next_by p s.world (f ∷ gs)).world.trace (Event.Leaked p f ∷ [])
          (or-left (eqb h f) false j)))
      keeps h false j y = inl (omega (
        arith,
        y,
        ap (times h) i,
        ap (times h) left,
        same-cond h f,
        ap (λ (b : Bool). let n : ℕ = cond b 1 0 in n) j,
      ))

  pub gone-same : Hushed is_drop_begun hushed-drop s.world d.world → d.world.gone ≡ s.world.gone
  gone-same x = sym (begun-is (unsettled s p rest d) after)
      ∙ (ap (has is_drop_begun) x.is ∙ (same-has is_drop_begun s.world.trace x.more x.none ∙ begun-is s k.ordered))

  -- who to wake is changed by a leak alone, before the drop of the executor begins
  pub waking-act : Good s → (h : Hint) (o : Op) → is_leaking o ≡ false → old ≡ o ∷ [] →
      ((act p h o s.world).world.waking ≡ s.world.waking) ⊎ (s.world.gone ≡ true)
  waking-act fine h (Op.Closing ClosingOp.LeakOut) n q = absurd (cc)
  waking-act fine h (Op.Closing ClosingOp.LeakNext) n q = absurd (cc)
  waking-act fine h (Op.Table (TableOp.Enter mark)) n q = inl (enter-waking _ _)
    where
      enter-waking : (b c : Bool) → (enter_by b c mark p s.world).world.waking ≡ s.world.waking
      enter-waking true c = refl
      enter-waking false true = refl
      enter-waking false false = refl
  waking-act fine h (Op.Table (TableOp.LeaveTable f)) n q = inl (leave-waking _)
    where
      leave-waking : (b : Bool) → (leave_by b s.world f).world.waking ≡ s.world.waking
      leave-waking true = refl
      leave-waking false = refl
  waking-act fine h (Op.Closing ClosingOp.TakeOut) n q = inl refl
  waking-act fine h (Op.Closing ClosingOp.DropNext) n q = drop-waking s.world.leaving refl
    where
      drop-waking : (ls : List ℕ) → s.world.leaving ≡ ls →
          ((drop_next_by p s.world ls).world.waking ≡ s.world.waking) ⊎ (s.world.gone ≡ true)
      drop-waking [] i = inl refl
      drop-waking (f ∷ ls) i = inr ((fine.sound f).ousted (omega (arith, ap (times f) i, same-self f)))
  waking-act fine h (Op.Closing ClosingOp.WakeNext) n q =
      inr ((k.ordered.placed.leaves 0).left (omega (arith, split waking_of s.parties p old rest l e, ap (weigh waking_of) q))).0
  waking-act fine h o n q = inl (sym (ap (λ (x : Entries). x.waking) (same-entries p h o s.world refl)))
