-- For some_standing_is_called.
-- How the world has each tick and run once one falls asleep, wakes up or leaves.
use Rattle.std.proofs.Common.{◌≡◌, ◌≢◌, ◌∙◌, ℕ, ◌+◌, ◌≤◌, List, [], ◌∷◌, Bool, true, false, cond, eqb, refl, sym, ap, arith}
use Rattle.std.proofs.lemmas.Bool.Decides.{nat_tests}
use Rattle.std.specs.Prelude.{Option, Some, None, slice_get}
use Rattle.executor_parts.specs.Sleepers.{position_of, woken_up}
use Rattle.executor_laws.proofs.Types.{Waker, TickOrRun}
use Rattle.executor_model.specs.World.{World, Ticker, Awake, Asleep, Left}
use Rattle.executor_model.specs.{Weights.same, SleepersAgree.sleeps}
use Rattle.executor_model.proofs.{Steps.SleepersCounting.asleep, OneFuture.Telling.same-cond}
use Rattle.executor_laws.proofs.Wakeups.Listed.{Entry, sum, entry_of, kept_of, astray, misplaced_of, at_entry, entry_at}
use Rattle.executor_laws.proofs.Wakeups.Listed.{sum-woken_up, entry-in, numbered}
use Rattle.executor_laws.proofs.Wakeups.Sitting.{cond-other, cond-self, eq_who, is-cond, other, owned_in, place_in, self}
use Rattle.executor_laws.proofs.{Wakeups.Stands.view, Wakeups.StandsSeats.Seated, Wakeups.Watched.watched}

pub eqb-self : (n : ℕ) → eqb n n ≡ true
eqb-self n = grind (arith, nat_tests)

-- sums over entries

astray-few : (x : Ticker) (n : ℕ) → astray x n ≤ 1
astray-few Awake n = omega arith
astray-few Left n = omega arith
astray-few (Asleep m) n = by (eqb m n)
  where
    by : (b : Bool) → cond b 0 1 ≤ 1
    by true = omega arith
    by false = omega arith

misplaced-one : (t : TickOrRun) (x : Ticker) (e : Entry) → misplaced_of t x e ≤ entry_of t e
misplaced-one t x e = omega (arith, by (eq_who t e.1.who) (astray x e.0) (astray-few x e.0), is-cond t e.1.who)
  where
    by : (b : Bool) (n : ℕ) → n ≤ 1 → cond b n 0 ≤ cond b 1 0
    by true n h = h
    by false n h = omega arith

pub misplaced-few : (t : TickOrRun) (x : Ticker) (es : List Entry) → sum (misplaced_of t x) es ≤ sum (entry_of t) es
misplaced-few t x [] = omega arith
misplaced-few t x (e ∷ es) = omega (arith, misplaced-one t x e, misplaced-few t x es)

-- who doesn't sleep has none
pub entries-astray : (t : TickOrRun) (x : Ticker) (es : List Entry) → ((n : ℕ) → astray x n ≡ 1) →
    sum (entry_of t) es ≡ sum (misplaced_of t x) es
entries-astray t x [] z = refl
entries-astray t x (e ∷ es) z = omega (
  arith,
  entries-astray t x es z,
  ap (λ (n : ℕ). cond (eq_who t e.1.who) n 0) (z e.0),
  is-cond t e.1.who,
)

placed-one : (t : TickOrRun) (n : ℕ) (e : Entry) → entry_of t e ≤ same n e.0 + misplaced_of t (Asleep n) e
placed-one t n e = omega (arith, by (eq_who t e.1.who) (eqb n e.0), is-cond t e.1.who, same-cond n e.0)
  where
    by : (b c : Bool) → cond b 1 0 ≤ cond c 1 0 + cond b (cond c 0 1) 0
    by true true = omega arith
    by true false = omega arith
    by false c = omega arith

-- one that sleeps has those of its number alone
pub placed-few : (t : TickOrRun) (n : ℕ) (es : List Entry) →
    sum (entry_of t) es ≤ sum (λ e. same n e.0) es + sum (misplaced_of t (Asleep n)) es
placed-few t n [] = omega arith
placed-few t n (e ∷ es) = omega (arith, placed-one t n e, placed-few t n es)

kept-one : (t : TickOrRun) (k : ℕ) (e : Entry) → kept_of t k e ≤ entry_of t e
kept-one t k e = omega (
  arith,
  by (eq_who t e.1.who) (eqb k e.1.poll),
  is-cond t e.1.who,
  ap (λ (n : ℕ). cond (eq_who t e.1.who) n 0)
      (same-cond k e.1.poll),
)
  where
    by : (b c : Bool) → cond b (cond c 1 0) 0 ≤ cond b 1 0
    by true true = omega arith
    by true false = omega arith
    by false c = omega arith

pub kept-few : (t : TickOrRun) (k : ℕ) (es : List Entry) → sum (kept_of t k) es ≤ sum (entry_of t) es
kept-few t k [] = omega arith
kept-few t k (e ∷ es) = omega (arith, kept-one t k e, kept-few t k es)

-- the world has it as before
pub view-same : (t : TickOrRun) (w v : World) → Seated t w v →
    sum (entry_of t) v.sleepers.wakers ≡ sum (entry_of t) w.sleepers.wakers →
    ((x : Ticker) → sum (misplaced_of t x) v.sleepers.wakers ≡ sum (misplaced_of t x) w.sleepers.wakers) →
    ((k : ℕ) → sum (kept_of t k) v.sleepers.wakers ≡ sum (kept_of t k) w.sleepers.wakers) →
    owned_in t v.own ≡ owned_in t w.own → v.gone ≡ w.gone → v.trace ≡ w.trace → view t v ≡ view t w
view-same t w v a c d e o g s = λ i. record {
  slumbering = sleeps (a.place i);
  living = a.lives i;
  made = a.made i;
  over = a.over i;
  entries = c i;
  misplaced = (ap (λ (x : Ticker). sum (misplaced_of t x) v.sleepers.wakers) a.place
      ∙ d (place_in t w.ticks w.runs)) i;
  kept = λ k. e k i;
  owned = o i;
  gone = g i;
  seen = watched t (s i);
}

abbrev pub place_here : World → TickOrRun → Ticker
place_here w who = place_in who w.ticks w.runs

-- what holds of all that sleep: their numbers are distinct, and each entry is that of the tick or run that has it
pub record HasSlept (w : World) : Type 0 where
  pub apart : (t u : TickOrRun) (n : ℕ) → place_here w t ≡ Asleep n → place_here w u ≡ Asleep n → t ≡ u
  pub placed : (t : TickOrRun) → sum (misplaced_of t (place_here w t)) w.sleepers.wakers ≡ 0

astray-none : (x : Ticker) (n : ℕ) → astray x n ≡ 0 → x ≡ Asleep n
astray-none Awake n z = absurd (omega (arith, z))
astray-none Left n z = absurd (omega (arith, z))
astray-none (Asleep m) n z = by (eqb m n) refl z
  where
    by : (b : Bool) → eqb m n ≡ b → (let k : ℕ = cond b 0 1 in k) ≡ 0 → Asleep m ≡ Asleep n
    by true q y = ap Asleep (grind (arith, nat_tests))
    by false q y = absurd (omega (arith, y))

-- the entry of the number under which u sleeps is u's
pub record OwnEntry (u : TickOrRun) (n : ℕ) (o : Option Entry) : Type 0 where
  pub waker : Waker
  pub poll : ℕ
  pub is : o ≡ Some (n, asleep waker u poll)

module _ (w : World) (slept : HasSlept w) (u : TickOrRun) (n : ℕ) (e : place_here w u ≡ Asleep n) where
  pub own-entry : (at : ℕ) → position_of n w.sleepers.wakers ≡ Some at → OwnEntry u n (slice_get w.sleepers.wakers at)
  own-entry at q =
      let x : _ = (numbered n w.sleepers.wakers).found at q in
      let y : Entry = x.0 in
      let z : misplaced_of y.1.who (place_here w y.1.who) y ≡ 0 =
      omega (
        arith,
        slept.placed y.1.who,
        entry-in (misplaced_of y.1.who (place_here w y.1.who)) at w.sleepers.wakers,
        ap (at_entry (misplaced_of y.1.who (place_here w y.1.who))) x.1,
      ) in
      let there : place_here w y.1.who ≡ Asleep n =
      astray-none (place_here w y.1.who) y.0 (sym (cond-self y.1.who (astray (place_here w y.1.who) y.0)) ∙ z)
      ∙ ap Asleep x.2 in
      let own : y.1.who ≡ u = slept.apart y.1.who u n there e in
      record {
        waker = y.1.waker;
        poll = y.1.poll;
        is = x.1
            ∙ (λ i. let o : Option Entry = Some (x.2 i, asleep y.1.waker (own i) y.1.poll) in o);
      }

  -- what is at the place of that number is nothing to another
  module _ (t : TickOrRun) (apart : t ≢ u) where
    other-at : (v : Entry → ℕ) → ((a : Waker) (k : ℕ) → v (n, asleep a u k) ≡ 0) → (o : Option ℕ) →
        position_of n w.sleepers.wakers ≡ o →
        at_entry v (entry_at o w.sleepers.wakers) ≡ 0
    other-at v z None q = refl
    other-at v z (Some at) q = let x : _ = own-entry at q in ap (at_entry v) x.is ∙ z x.waker x.poll

    pub other-entry : at_entry (entry_of t) (entry_at (position_of n w.sleepers.wakers) w.sleepers.wakers) ≡ 0
    other-entry = other-at (entry_of t) (λ a k. other t u apart) _ refl

    pub other-kept : (j : ℕ) → at_entry (kept_of t j) (entry_at (position_of n w.sleepers.wakers) w.sleepers.wakers) ≡ 0
    other-kept j = other-at (kept_of t j) (λ a k. cond-other t u (same j k) apart) _ refl

    pub other-misplaced : (x : Ticker) →
        at_entry (misplaced_of t x) (entry_at (position_of n w.sleepers.wakers) w.sleepers.wakers) ≡ 0
    other-misplaced x = other-at (misplaced_of t x) (λ a k. cond-other t u (astray x n) apart) _ refl

  -- who has no entry of its number has none
  pub none-own : position_of n w.sleepers.wakers ≡ None → sum (entry_of u) w.sleepers.wakers ≡ 0
  none-own q = omega (
    arith,
    placed-few u n w.sleepers.wakers,
    (numbered n w.sleepers.wakers).missing q,
    ap (λ (x : Ticker). sum (misplaced_of u x) w.sleepers.wakers) e,
    slept.placed u,
  )

  -- and none is left once that is taken out
  pub woken_up-own : sum (entry_of u) w.sleepers.wakers ≤ 1 → sum (entry_of u) (woken_up n w.sleepers).wakers ≡ 0
  woken_up-own one = by (position_of n w.sleepers.wakers) refl
    where
      by : (o : Option ℕ) → position_of n w.sleepers.wakers ≡ o → sum (entry_of u) (woken_up n w.sleepers).wakers ≡ 0
      by None q = omega (arith, sum-woken_up (entry_of u) n w.sleepers, none-own q)
      by (Some at) q = let x : _ = own-entry at q in omega (
        arith,
        sum-woken_up (entry_of u) n w.sleepers,
        one,
        ap (λ (o : Option ℕ). at_entry (entry_of u) (entry_at o w.sleepers.wakers)) q,
        ap (at_entry (entry_of u)) x.is,
        self u,
      )
