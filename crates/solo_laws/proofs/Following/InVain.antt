-- A walk that finds nothing has looked at each own queue that others look at, and leaves all as it was.
use Rattle.std.proofs.Common.{◌≡◌, ℕ, zero, suc, ◌+◌, ◌-◌, ◌%◌, ◌/◌, ◌<◌, ◌≤◌, ◌==◌, ◌||◌, cond, if◌then◌else◌, min, nat_lt, Bool, true}
use Rattle.std.proofs.Common.{false, List, [], ◌∷◌, length, drop, Option, Some, None, slice_get, refl, sym, ap, subst, ◌∙◌, arith}
use Rattle.std.specs.Int.{div_ceil}
use Rattle.std.proofs.lemmas.Bool.Decides.{nat_tests}
use Rattle.solo.specs.declared.names.Task.{Task}
use Rattle.solo.specs.declared.own_queues.Own.{Own}
use Rattle.solo.specs.declared.steals.Source.TheVariants.{Own as OwnOf}
use Rattle.solo.specs.declared.solo.Solo.{Solo}
use Rattle.solo.specs.Cells.{choose}
use Rattle.solo.specs.OwnQueues as own
use Rattle.solo.specs.Steals as steals
use Rattle.solo_laws.proofs.Following.Cells.{same_number}
use Rattle.solo_laws.proofs.Following.Due.{clash, equal}
use Rattle.solo_laws.proofs.Following.OwnMoves.{goes_first}
use Rattle.solo_laws.proofs.Following.Owns.{changed_list, changed_now, changed_queue, first_queue, mapped}
use Rattle.solo_laws.proofs.Following.Shares.{share_most}

-- places from this one on, counted round
abbrev pub visits : ℕ → ℕ → ℕ → ℕ → Bool
visits count zero at j = false
visits count (suc places) at j = (at == j) || visits count places (steals.next_place at count) j

first_or : (a b : Bool) → a ≡ true → (a || b) ≡ true
first_or true b is = refl
first_or false b is = absurd cc

second_or : (a b : Bool) → b ≡ true → (a || b) ≡ true
second_or true b is = refl
second_or false b is = is

-- of these a whole round is each
reaches : (count d places at j : ℕ) (wraps : Bool) → at + d ≡ cond wraps (j + count) j → at < count → j < count → d < places
    → visits count places at j ≡ true
reaches count d zero at j wraps is here there few = absurd (omega (arith, few))
reaches count zero (suc places) at j true is here there few = absurd (omega (arith, is, here))
reaches count zero (suc places) at j false is here there few =
    first_or (at == j) (visits count places (steals.next_place at count) j) (equal at j (omega (arith, is)))
reaches count (suc d) (suc places) at j wraps is here there few =
    second_or (at == j) (visits count places (steals.next_place at count) j)
    (by (nat_lt (at + 1) count) refl wraps is (λ at wraps is here few. reaches count d places at j wraps is here there few))
  where
    less : (a b : ℕ) → nat_lt a b ≡ true → a < b
    less a b is = grind (arith, nat_tests)

    more : (a b : ℕ) → nat_lt a b ≡ false → b ≤ a
    more a b is = grind (arith, nat_tests)

    by : (b : Bool) → nat_lt (at + 1) count ≡ b → (wraps : Bool) → at + suc d ≡ cond wraps (j + count) j
        → ((at : ℕ) (wraps : Bool) → at + d ≡ cond wraps (j + count) j → at < count → d < places → visits count places at j ≡ true)
        → visits count places (choose b (at + 1) 0) j ≡ true
    by true next wraps is rest =
        rest (at + 1) wraps (let it = is in omega (arith, it)) (less (at + 1) count next) (omega (arith, few))
    by false next true is rest =
        rest 0 false (let it = more (at + 1) count next in omega (arith, it, is, here)) (omega (arith, there)) (omega (arith, few))
    by false next false is rest = absurd (let it = more (at + 1) count next in omega (arith, it, is, there))

pub all_visited : (count start j : ℕ) → start < count → j < count → visits count count start j ≡ true
all_visited count start j here there = by (nat_lt j start) refl
  where
    less : (a b : ℕ) → nat_lt a b ≡ true → a < b
    less a b is = grind (arith, nat_tests)

    more : (a b : ℕ) → nat_lt a b ≡ false → b ≤ a
    more a b is = grind (arith, nat_tests)

    by : (b : Bool) → nat_lt j start ≡ b → visits count count start j ≡ true
    by true is =
        let below = less j start is in
        reaches count (j + count - start) count start j true (omega (arith, below, here, there)) here there (omega (arith, below, here))
    by false is =
        let past = more j start is in
        reaches count (j - start) count start j false (omega (arith, past)) here there (omega (arith, past, there))

-- half of one and more is something
share_some : (n free : ℕ) → steals.share (suc n) (suc free) ≡ 0 → ⊥
share_some n free is = by (nat_lt (div_ceil (suc n) 2) (suc free)) is
  where
    by : (b : Bool) → choose b (div_ceil (suc n) 2) (suc free) ≡ 0 → ⊥
    by true is = half (suc n / 2) (suc n % 2) (omega arith) (omega arith) is
      where
        half : (q r : ℕ) → r < 2 → suc n ≡ q + q + r → q + min 1 r ≡ 0 → ⊥
        half q zero few all is = absurd (omega (arith, all, is))
        half q (suc r) few all is = absurd (omega (arith, is))
    by false is = absurd (omega (arith, is))

dry_list : (k : ℕ) (qs : List Own) → own.first_in (own.queue_of k qs) ≡ None → changed_list (λ ts. drop 1 ts) k qs ≡ qs
dry_list k [] dry = refl
dry_list k (q ∷ qs) dry =
    by (q.number == k) q.queue refl (sym (ap own.first_in (first_queue k q qs)) ∙ dry) (dry_list k qs)
  where
    by : (b : Bool) (ts : List Task) → q.queue ≡ ts → own.first_in (cond b (Some q.queue) (own.queue_of k qs)) ≡ None
        → (own.first_in (own.queue_of k qs) ≡ None → changed_list (λ ts. drop 1 ts) k qs ≡ qs)
        → cond b (record q { queue = drop 1 q.queue } ∷ qs) (q ∷ changed_list (λ ts. drop 1 ts) k qs) ≡ q ∷ qs
    by true [] is dry rest = ap (λ ts. record q { queue = ts } ∷ qs) (ap (λ ts. drop 1 ts) is ∙ sym is)
    by true (t ∷ ts) is dry rest =
        let it : ◌≡◌ {A = Option Task} (Some t) None = sym (ap (λ ts. slice_get ts 0) is) ∙ dry in absurd cc
    by false ts is dry rest = ap (λ qs. q ∷ qs) (rest dry)

module _ {F T X : Type 0} where
  -- the own queue of a run is empty, or there is none
  abbrev pub IsDry : ℕ → Solo F T X → Type 0
  IsDry k s = own.first_of k s.runs ≡ None

  pub popped_same : (k : ℕ) (s : Solo F T X) → IsDry k s → steals.own_popped k s ≡ s
  popped_same k s dry =
      ap (λ o. steals.own_changed o s)
      (changed_now (λ ts. drop 1 ts) k s.runs ∙ ap (λ qs. record s.runs { queues = qs }) (dry_list k s.runs.queues dry))

  none_there : (k : ℕ) (s : Solo F T X) → IsDry k s → own.count_of k s.runs ≡ 0
  none_there k s dry = by (own.queue_of k s.runs.queues) dry
    where
      by : (o : Option (List Task)) → own.first_in o ≡ None → own.count_in o ≡ 0
      by None dry = refl
      by (Some []) dry = refl
      by (Some (t ∷ ts)) dry = absurd cc

  pub stolen_same : (k r : ℕ) (s : Solo F T X) → IsDry k s → steals.stolen (OwnOf k) r s ≡ s
  stolen_same k r s dry =
      ap (λ n. steals.moved n (OwnOf k) r s)
      (ap (λ n. steals.share n (own.free_of r s.runs)) (none_there k s dry) ∙ nothing (own.free_of r s.runs))
    where
      nothing : (free : ℕ) → steals.share 0 free ≡ 0
      nothing free = let most = (share_most 0 free).0 in omega (arith, most)

  alone : (r k : ℕ) → (r == k) ≡ false → (x : Task) (s : Solo F T X) → own.queue_of r s.runs.queues ≡ Some []
      → own.queue_of r (steals.kept r x (steals.own_popped k s)).runs.queues ≡ Some (x ∷ [])
  alone r k away x s empty =
      let first = steals.own_popped k s in
      let first_empty : own.queue_of r first.runs.queues ≡ Some [] =
      changed_queue (λ ts. drop 1 ts) k r s.runs
      ∙ (ap (λ b. if b then mapped (λ ts. drop 1 ts) (own.queue_of r s.runs.queues) else own.queue_of r s.runs.queues) away ∙ empty) in
      changed_queue (own.pushed x) r r first.runs
      ∙ (ap (λ b. if b then mapped (own.pushed x) (own.queue_of r first.runs.queues) else own.queue_of r first.runs.queues)
      (equal r r refl)
      ∙ ap (mapped (own.pushed x)) first_empty)

  module _ (r : ℕ) where
    -- a look that finds none was at a queue that has none
    pub look_dry : (k : ℕ) (s : Solo F T X) → own.queue_of r s.runs.queues ≡ Some [] → (r == k) ≡ false
        → own.first_of r (steals.stolen (OwnOf k) r s).runs ≡ None → IsDry k s
    look_dry k s empty away none = by (own.queue_of k s.runs.queues) refl
      where
        free : own.free_of r s.runs ≡ 512
        free = ap own.free_in empty

        few : (m n : ℕ) → steals.share n 512 ≡ suc m → m + 1 ≤ 512
        few m n is = let most = (share_most n 512).1 in omega (arith, most, is)

        some : (n m : ℕ) (t : Task) → own.first_of k s.runs ≡ Some t → steals.share (suc n) 512 ≡ m
            → own.first_of r (steals.moved m (OwnOf k) r s).runs ≡ None → ⊥
        some n zero t first is none = share_some n 511 is
        some n (suc m) t first is none =
            let y = steals.own_popped k s in
            let z = steals.kept r t y in
            let it = goes_first r k away m t [] z (alone r k away t s empty) (few m (suc n) is) in
            none_some (sym (ap (λ o. own.first_of r (steals.moved_on o y (λ task. steals.moved m (OwnOf k) r (steals.kept r task y))).runs)
            first) ∙ none) it.1
          where
            none_some : {o : Option Task} → o ≡ None → o ≡ Some t → ⊥
            none_some off so = absurd cc

        by : (o : Option (List Task)) → own.queue_of k s.runs.queues ≡ o → IsDry k s
        by None is = ap own.first_in is
        by (Some []) is = ap own.first_in is
        by (Some (t ∷ ts)) is =
            absurd (some (length ts) (steals.share (suc (length ts)) 512) t (ap own.first_in is) refl
            (sym (ap (λ n. own.first_of r (steals.moved n (OwnOf k) r s).runs)
            (ap (λ n. steals.share n (own.free_of r s.runs)) (ap own.count_in is) ∙ ap (steals.share (suc (length ts))) free)) ∙ none))

    abbrev pub at_place : ℕ → Solo F T X → ℕ
    at_place j s = own.number_at j s.runs.queues

    -- so each at which a walk has looked
    pub in_vain : (count places at : ℕ) (s : Solo F T X) → own.queue_of r s.runs.queues ≡ Some []
        → (steals.round count r places at s).0 ≡ None → (j : ℕ) → visits count places at j ≡ true → (at_place j s == r) ≡ false
        → IsDry (at_place j s) s
    in_vain count zero at s empty none j seen other = absurd cc
    in_vain count (suc places) at s empty none j seen other =
        by (at_place at s == r) refl (λ none seen. in_vain count places (steals.next_place at count) s empty none j seen other) none
      where
        nx : ℕ
        nx = steals.next_place at count

        pair : Bool → Option Task × Solo F T X
        pair b =
            let o = choose b None (own.first_of r (steals.stolen_at r at s).runs) in
            let z = choose b s (steals.own_popped r (steals.stolen_at r at s)) in
            steals.round_on o z (steals.round count r places nx z)

        -- here, or later
        either : (b : Bool) → (at == j) ≡ b → (b || visits count places nx j) ≡ true → (at ≡ j → IsDry (at_place j s) s)
            → (visits count places nx j ≡ true → IsDry (at_place j s) s) → IsDry (at_place j s) s
        either true same is here rest = here (same_number at j same)
        either false same is here rest = rest is

        seen_so : (b : Bool) → (at == j) ≡ b → (b || visits count places nx j) ≡ true
        seen_so b is = sym (ap (λ b. b || visits count places nx j) is) ∙ seen

        by : (b : Bool) → (at_place at s == r) ≡ b
            → ((steals.round count r places nx s).0 ≡ None → visits count places nx j ≡ true → IsDry (at_place j s) s)
            → (pair (at_place at s == r)).0 ≡ None → IsDry (at_place j s) s
        by true mine more none =
            either (at == j) refl (seen_so (at == j) refl)
            (λ same. absurd (clash other (ap (λ n. at_place n s == r) (sym same) ∙ mine)))
            (more (sym (ap (λ b. (pair b).0) mine) ∙ none))
        by false others more none =
            found (own.first_of r (steals.stolen_at r at s).runs) refl (sym (ap (λ b. (pair b).0) others) ∙ none)
          where
            z : Solo F T X
            z = steals.own_popped r (steals.stolen_at r at s)

            found : (o : Option Task) → own.first_of r (steals.stolen_at r at s).runs ≡ o
                → (steals.round_on o z (steals.round count r places nx z)).0 ≡ None → IsDry (at_place j s) s
            found (Some t) is none = absurd cc
            found None is none =
                let dry = look_dry (at_place at s) s empty (turned (at_place at s) r others) is in
                let same : z ≡ s =
                ap (steals.own_popped r) (stolen_same (at_place at s) r s dry) ∙ popped_same r s (ap own.first_in empty) in
                either (at == j) refl (seen_so (at == j) refl) (λ one. subst (λ n. IsDry (at_place n s) s) one dry)
                (more (subst (λ z. (steals.round count r places nx z).0 ≡ None) same none))
              where
                turned : (n m : ℕ) → (n == m) ≡ false → (m == n) ≡ false
                turned n m is = grind (arith, nat_tests)

    -- and where none has any it finds nothing, and changes nothing
    pub all_dry : (count places at : ℕ) (s : Solo F T X) → ((k : ℕ) → IsDry k s) → steals.round count r places at s ≡ (None, s)
    all_dry count zero at s dry = refl
    all_dry count (suc places) at s dry =
        by (at_place at s == r) (all_dry count places (steals.next_place at count) s dry)
      where
        nx : ℕ
        nx = steals.next_place at count

        stolen : steals.stolen_at r at s ≡ s
        stolen = stolen_same (at_place at s) r s (dry (at_place at s))

        by : (b : Bool) → steals.round count r places nx s ≡ (None, s)
            → (let o = choose b None (own.first_of r (steals.stolen_at r at s).runs) in
            let z = choose b s (steals.own_popped r (steals.stolen_at r at s)) in
            steals.round_on o z (steals.round count r places nx z)) ≡ (None, s)
        by true rest = rest
        by false rest =
            ap (λ (y : Solo F T X). (let z = steals.own_popped r y in
            steals.round_on (own.first_of r y.runs) z (steals.round count r places nx z))) stolen
            ∙ (ap (λ o. (let z = steals.own_popped r s in steals.round_on o z (steals.round count r places nx z))) (dry r)
            ∙ (ap (λ z. steals.round count r places nx z) (popped_same r s (dry r)) ∙ rest))
