-- In which order a walk comes to the queues of the list: from its place on, and round.
use Rattle.std.proofs.Common.{◌≡◌, ℕ, zero, suc, ◌+◌, ◌-◌, ◌≤◌, ◌<◌, ◌++◌, cond, nat_lt, true, false, List, [], ◌∷◌, length}
use Rattle.std.proofs.Common.{Some, drop, take, if◌then◌else◌, refl, sym, ap, ◌∙◌, arith}
use Rattle.std.proofs.lemmas.Bool.Decides.{nat_tests}
use Rattle.std.specs.Prelude.{find}
use Rattle.executor_model.specs.ActsOfRuns.{next_place, queue_at}
use Rattle.plain_scheduler.specs.State.{Due}
use Rattle.plain_scheduler.specs.Lists.{any, or}
use Rattle.plain_scheduler.specs.Moves.{is_kept}
use Rattle.plain_scheduler.specs.Usual.{first_keeper}
use Rattle.machine_roads.proofs.Lain.{below_test}

-- those to which it still comes
abbrev pub round : List ℕ → ℕ → ℕ → List ℕ
round qs at zero = []
round qs at (suc left) = queue_at qs at ∷ round qs (next_place qs at) left

drop_at : (qs : List ℕ) (at : ℕ) → at < length qs → drop at qs ≡ queue_at qs at ∷ drop (suc at) qs
drop_at [] at there = absurd (omega (arith, there))
drop_at (k ∷ qs) zero there = refl
drop_at (k ∷ qs) (suc at) there = drop_at qs at (omega (arith, there))

next_is : (qs : List ℕ) (at : ℕ) → suc at < length qs → next_place qs at ≡ suc at
next_is qs at there = ap (λ b. cond b (at + 1) 0) (below_test (at + 1) (length qs) (omega (arith, there))) ∙ one_more at
  where
    one_more : (n : ℕ) → n + 1 ≡ suc n
    one_more n = omega arith

next_none : (qs : List ℕ) (at : ℕ) → suc at ≡ length qs → next_place qs at ≡ 0
next_none qs at last = ap (λ b. cond b (at + 1) 0) (not_below (at + 1) (length qs) (omega (arith, last)))
  where
    not_below : (n m : ℕ) → m ≤ n → nat_lt n m ≡ false
    not_below n m is = grind (arith, nat_tests)

-- so many that stand there without a break
ahead : (qs : List ℕ) (at n : ℕ) → at + n ≤ length qs → round qs at n ≡ take n (drop at qs)
ahead qs at zero there = refl
ahead qs at (suc zero) there = ap (take 1) (sym (drop_at qs at (omega (arith, there))))
ahead qs at (suc (suc n)) there =
    ap (λ k. queue_at qs at ∷ round qs k (suc n)) (next_is qs at (omega (arith, there)))
    ∙ (ap (λ ks. queue_at qs at ∷ ks) (ahead qs (suc at) (suc n) (omega (arith, there)))
    ∙ ap (take (suc (suc n))) (sym (drop_at qs at (omega (arith, there)))))

-- to the end, and from the beginning on
behind : (qs : List ℕ) (at n more t : ℕ) → t ≡ suc n + more → at + suc n ≡ length qs → round qs at t ≡ drop at qs ++ round qs 0 more
behind qs at n more zero all there = absurd (omega (arith, all))
behind qs at zero more (suc t) all there =
    ap (λ k. queue_at qs at ∷ round qs k t) (next_none qs at (omega (arith, there)))
    ∙ (ap (λ n. queue_at qs at ∷ round qs 0 n) (same t more all)
    ∙ ap (λ ks. ks ++ round qs 0 more)
    (sym (drop_at qs at (omega (arith, there)) ∙ ap (λ ks. queue_at qs at ∷ ks) (over qs (suc at) (omega (arith, there))))))
  where
    same : (t more : ℕ) → suc t ≡ suc zero + more → t ≡ more
    same t more all = omega (arith, all)

    over : (qs : List ℕ) (n : ℕ) → length qs ≤ n → drop n qs ≡ []
    over [] zero far = refl
    over [] (suc n) far = refl
    over (k ∷ qs) zero far = absurd (omega (arith, far))
    over (k ∷ qs) (suc n) far = over qs n (omega (arith, far))
behind qs at (suc n) more (suc t) all there =
    ap (λ k. queue_at qs at ∷ round qs k t) (next_is qs at (omega (arith, there)))
    ∙ (ap (λ ks. queue_at qs at ∷ ks) (behind qs (suc at) n more t (omega (arith, all)) (omega (arith, there)))
    ∙ ap (λ ks. ks ++ round qs 0 more) (sym (drop_at qs at (omega (arith, there)))))

-- once round
pub all_round : (qs : List ℕ) (at : ℕ) → at < length qs → round qs at (length qs) ≡ drop at qs ++ take at qs
all_round qs at there =
    behind qs at (length qs - suc at) at (length qs) (omega (arith, there)) (omega (arith, there))
    ∙ ap (λ ks. drop at qs ++ ks) (ahead qs 0 at (omega (arith, there)))

-- the first of them that keeps any
pub keeps_first : (k : ℕ) (ks : List ℕ) (due : List Due) → any (is_kept k) due ≡ true → first_keeper (k ∷ ks) due ≡ k
keeps_first k ks due some = ap (λ b. or (if b then Some k else find (λ k. any (is_kept k) due) ks) (λ k. k) 0) some

pub keeps_later : (k : ℕ) (ks : List ℕ) (due : List Due) → any (is_kept k) due ≡ false → first_keeper (k ∷ ks) due ≡ first_keeper ks due
keeps_later k ks due none = ap (λ b. or (if b then Some k else find (λ k. any (is_kept k) due) ks) (λ k. k) 0) none
