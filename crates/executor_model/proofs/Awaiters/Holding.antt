-- For awaiters_are_kept.
-- A call that a trace has still open is what its party has to end, below the calls that began inside of it.
-- What has to end such calls is counted by a count that sees only what answers a call.
use Rattle.std.proofs.Common.{◌≡◌, ◌≢◌, ◌⊎◌, ℕ, zero, suc, ◌+◌, ◌<◌, ◌≤◌, List, [], ◌∷◌, ◌++◌, length, set, get_or, Bool, true}
use Rattle.std.proofs.Common.{false, refl, sym, ap, ◌∙◌, subst, inl, inr, ⊎_elim, arith, get_or-set_same}
use Rattle.std.specs.Prelude.{reverse}
use Rattle.executor_model.specs.Weights.{same, weigh}
use Rattle.executor_model.proofs.{Types.Op, Steps.Lists.weigh-append, Steps.Lists.weigh-below, Steps.Lists.weigh-reverse}
use Rattle.executor_model.proofs.{Quiet.Calls.calling_of, Quiet.Calls.Answering, Quiet.Calls.Passes, Quiet.Resting.calling-is}
use Rattle.executor_model.proofs.{Quiet.Resting.counts-answering, Quiet.Resting.reverse-last, Awaiters.AwaitedTies.stack-then}

-- what is seen of a stack: whether such a call is there, and how many calls are above the topmost
pub record Spot : Type 0 where
  pub found : Bool
  pub inner : ℕ

abbrev pub nowhere : Spot
nowhere = record { found = false; inner = 0 }

abbrev pub spot : ℕ → ℕ → Spot → Spot
spot zero calls s = record s { inner = calls + s.inner }
spot (suc n) calls s = record { found = true; inner = 0 }

abbrev pub Spotted : ℕ → Spot → Type 0
Spotted n s = (s.found ≡ true) × (s.inner ≡ n)

pub spot-none : (n calls : ℕ) (s : Spot) → n ≡ 0 → spot n calls s ≡ record s { inner = calls + s.inner }
spot-none n calls s z = ap (λ (k : ℕ). spot k calls s) z

pub spot-more : (n calls : ℕ) (s : Spot) → 1 ≤ n → spot n calls s ≡ record { found = true; inner = 0 }
spot-more zero calls s h = absurd (omega (arith, h))
spot-more (suc n) calls s h = refl

abbrev pub seen : (Op → ℕ) → Spot → List Op → Spot
seen a s [] = s
seen a s (o ∷ os) = seen a (spot (a o) (calling_of o) s) os

module _ (a : Op → ℕ) where
  pub seen-append : (s : Spot) (xs ys : List Op) → seen a s (xs ++ ys) ≡ seen a (seen a s xs) ys
  seen-append s [] ys = refl
  seen-append s (x ∷ xs) ys = seen-append (spot (a x) (calling_of x) s) xs ys

  pub seen-light : (s : Spot) (os : List Op) → weigh a os ≡ 0 →
      seen a s os ≡ record { found = s.found; inner = weigh calling_of os + s.inner }
  seen-light s [] z = ap (λ (n : ℕ). let t : Spot = record { found = s.found; inner = n } in t)
      (let q : s.inner ≡ 0 + s.inner = omega arith in q)
  seen-light s (o ∷ os) z =
      ap (λ (t : Spot). seen a t os) (spot-none (a o) (calling_of o) s (omega (arith, z)))
      ∙ (seen-light (record s { inner = calling_of o + s.inner }) os (omega (arith, z))
      ∙ ap (λ (n : ℕ). let t : Spot = record { found = s.found; inner = n } in t)
      (let q : weigh calling_of os + (calling_of o + s.inner) ≡ calling_of o + weigh calling_of os + s.inner =
      omega arith in q))

  -- where one is found, one is to do
  pub found-weighs : (s : Spot) (os : List Op) → (seen a s os).found ≡ true → (s.found ≡ true) ⊎ (1 ≤ weigh a os)
  found-weighs s [] e = inl e
  found-weighs s (o ∷ os) e = by (a o) refl (found-weighs (spot (a o) (calling_of o) s) os e)
    where
      by : (n : ℕ) → a o ≡ n → ((spot (a o) (calling_of o) s).found ≡ true) ⊎ (1 ≤ weigh a os) →
          (s.found ≡ true) ⊎ (1 ≤ a o + weigh a os)
      by (suc n) z y = inr (omega (arith, z))
      by zero z y = ⊎_elim
          (λ (x : (spot (a o) (calling_of o) s).found ≡ true).
          inl (sym (ap (λ (t : Spot). t.found) (spot-none (a o) (calling_of o) s z))
          ∙ x))
          (λ (x : 1 ≤ weigh a os). inr (omega (arith, x)))
          y

module _ (a : Op → ℕ) (few : (o : Op) → a o ≤ calling_of o) where
  -- what answers the call stands below the rest
  pub seen-answering : (s : Spot) (next : List Op) → Answering next → 1 ≤ weigh a next →
      seen a s (reverse next) ≡ record { found = true; inner = 0 }
  seen-answering s next x h = ap (λ (os : List Op). seen a s (reverse os)) x.is
      ∙ (ap (seen a s) (reverse-last x.front [] x.last)
      ∙ (ap (λ (t : Spot). seen a t (reverse x.front)) (spot-more (a x.last) (calling_of x.last) s last-asks)
      ∙ (seen-light a (record { found = true; inner = 0 }) (reverse x.front) front-asks
      ∙ ap (λ (n : ℕ). let t : Spot = record { found = true; inner = n } in t) front-calls)))
    where
      front-none : weigh a x.front ≡ 0
      front-none = omega (arith, weigh-below a calling_of few x.front, x.none)

      all-asks : weigh a next ≡ weigh a x.front + (a x.last + 0)
      all-asks = ap (weigh a) x.is ∙ weigh-append a x.front (x.last ∷ [])

      last-asks : 1 ≤ a x.last
      last-asks = omega (arith, h, all-asks, front-none)

      front-asks : weigh a (reverse x.front) ≡ 0
      front-asks = omega (arith, weigh-reverse a x.front, front-none)

      front-calls : weigh calling_of (reverse x.front) + 0 ≡ 0
      front-calls = omega (arith, weigh-reverse calling_of x.front, x.none)

  counts-passes : (o : Op) (next : List Op) → Passes o next → weigh calling_of next ≡ calling_of o
  counts-passes o next c = ⊎_elim
      (λ (z : calling_of o ≡ 0). omega (arith, c.none z, z))
      (λ (z : calling_of o ≡ 1). omega (arith, counts-answering next (c.one z), z))
      (calling-is o)

  -- what is done leaves in its place what has to end such calls
  pub seen-passes : (s : Spot) (o : Op) (next : List Op) → Passes o next → weigh a next ≡ a o →
      seen a s (reverse (o ∷ [])) ≡ seen a s (reverse next)
  seen-passes s o next c e = go (a o) refl
    where
      go : (n : ℕ) → a o ≡ n → spot (a o) (calling_of o) s ≡ seen a s (reverse next)
      go zero z = spot-none (a o) (calling_of o) s z
          ∙ (ap (λ (n : ℕ). let t : Spot = record { found = s.found; inner = n } in t)
          (let q : calling_of o + s.inner ≡ weigh calling_of (reverse next) + s.inner = omega (
            arith,
            counts-passes o next c,
            weigh-reverse calling_of next,
          ) in q) ∙ sym (seen-light a s (reverse next) (omega (arith, weigh-reverse a next, e, z))))
      go (suc n) z =
          let one : calling_of o ≡ 1 =
          ⊎_elim (λ (k : calling_of o ≡ 0). absurd (omega (arith, k, z, few o))) (λ (k : calling_of o ≡ 1). k)
          (calling-is o) in
          spot-more (a o) (calling_of o) s (omega (arith, z))
          ∙ sym (seen-answering s next (c.one one) (omega (arith, e, z)))

-- the call that a trace has open, if there is one
pub record Open : Type 0 where
  pub asking : Bool
  pub party : ℕ
  pub inner : ℕ

-- where the trace has such a call open, the stack of its party has it
abbrev pub Holds : (Op → ℕ) → Open → List (List Op) → Type 0
Holds a h ss = h.asking ≡ true → Spotted h.inner (seen a nowhere (get_or ss h.party []))

module _ (a : Op → ℕ) (few : (o : Op) → a o ≤ calling_of o) (h h2 : Open) (ss : List (List Op)) (p : ℕ)
    (old rest next : List Op)
    (l : p < length ss) (e : get_or ss p [] ≡ rest ++ reverse old) where
  -- the step of party p, where it doesn't begin such a call
  pub held-step : (h2.asking ≡ true → h.asking ≡ true) → h2.party ≡ h.party →
      (h2.asking ≡ true → h.party ≢ p → h2.inner ≡ h.inner) →
      (h2.asking ≡ true → h.party ≡ p → Spotted h.inner (seen a (seen a nowhere rest) (reverse old)) →
      Spotted h2.inner (seen a (seen a nowhere rest) (reverse next))) → Holds a h ss →
      Holds a h2 (set ss p (rest ++ reverse next))
  held-step x q there here k b =
      subst (λ (n : ℕ). Spotted h2.inner (seen a nowhere (get_or (set ss p (rest ++ reverse next)) n []))) (sym q)
      (⊎_elim
      (λ (y : (same h.party p ≡ 1) × (h.party ≡ p)
      × (get_or (set ss p (rest ++ reverse next)) h.party [] ≡ rest ++ reverse next)).
      let before : Spotted h.inner (seen a nowhere (rest ++ reverse old)) =
      subst (λ (os : List Op). Spotted h.inner (seen a nowhere os)) (ap (λ (n : ℕ). get_or ss n []) y.1 ∙ e)
      (k (x b)) in
      let then_in : Spotted h2.inner (seen a (seen a nowhere rest) (reverse next)) =
      here b y.1 (subst (Spotted h.inner) (seen-append a nowhere rest (reverse old)) before) in
      subst (λ (os : List Op). Spotted h2.inner (seen a nowhere os)) (sym y.2)
      (subst (Spotted h2.inner) (sym (seen-append a nowhere rest (reverse next))) then_in))
      (λ (y : (same h.party p ≡ 0) × (h.party ≢ p)
      × (get_or (set ss p (rest ++ reverse next)) h.party [] ≡ get_or ss h.party [])).
      subst (λ (os : List Op). Spotted h2.inner (seen a nowhere os)) (sym y.2)
      (subst (λ (n : ℕ). Spotted n (seen a nowhere (get_or ss h.party []))) (sym (there b y.1)) (k (x b))))
      (stack-then ss p h.party (rest ++ reverse next) l))

  -- the step by which it begins
  pub held-asks : h2.party ≡ p → h2.inner ≡ 0 → Answering next → 1 ≤ weigh a next →
      Holds a h2 (set ss p (rest ++ reverse next))
  held-asks q z y n b =
      subst (λ (m : ℕ). Spotted h2.inner (seen a nowhere (get_or (set ss p (rest ++ reverse next)) m []))) (sym q)
      (subst (λ (os : List Op). Spotted h2.inner (seen a nowhere os))
      (sym (get_or-set_same ss p (rest ++ reverse next) [] l))
      (subst (Spotted h2.inner) (sym (seen-append a nowhere rest (reverse next)
      ∙ seen-answering a few (seen a nowhere rest) next y n)) (refl, sym z)))
