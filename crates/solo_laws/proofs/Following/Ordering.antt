-- The own queues at which others look stand in the order in which their runs were first polled: one comes last as its run is polled
-- first, goes with its run, and else they stand as before.
use Rattle.std.proofs.Common.{◌≡◌, ℕ, zero, suc, ◌+◌, ◌-◌, ◌<◌, ◌≤◌, ◌==◌, nat_lt, cond, if◌then◌else◌, not, Bool, true, false, List, []}
use Rattle.std.proofs.Common.{◌∷◌, ◌++◌, length, take, remove, Option, Some, None, slice_get, slice_set, slice_index_or}
use Rattle.std.proofs.Common.{refl, sym, ap, ◌∙◌, arith}
use Rattle.std.specs.List.{position_or_len, swap}
use Rattle.std.proofs.lemmas.Bool.Decides.{nat_tests}
use Rattle.std.proofs.lemmas.List.Edits.{swap_is}
use Rattle.solo.specs.declared.names.Task.{Task}
use Rattle.solo.specs.declared.own_queues.Own.{Own}
use Rattle.solo.specs.Cells.{choose}
use Rattle.solo.specs.OwnQueues as own
use Rattle.plain_scheduler.specs.Lists.{any, or, without}
use Rattle.plain_scheduler.specs.Usual.{with_run}
use Rattle.solo_laws.proofs.Following.Cells.{same_number}
use Rattle.solo_laws.proofs.Following.Due.{clash}
use Rattle.solo_laws.proofs.Following.Listed.{its_place}
use Rattle.solo_laws.proofs.Following.Listing.{there}
use Rattle.solo_laws.proofs.Following.ListedWithin.{Within, changed_within, closed_within, listed_within, opened_within}
use Rattle.solo_laws.proofs.Following.Lists.{got_below, length_map, map_append}
use Rattle.solo_laws.proofs.Following.Numbers.{turn}
use Rattle.solo_laws.proofs.Following.Owns.{changed_now, changed_numbers, numbers}

before_all : (n : ℕ) → nat_lt 0 (suc n) ≡ true
before_all n = grind (arith, nat_tests)

lt_next : (n m : ℕ) → nat_lt (1 + n) (suc m) ≡ nat_lt n m
lt_next n m = by (nat_lt n m) refl
  where
    by : (b : Bool) → nat_lt n m ≡ b → nat_lt (1 + n) (suc m) ≡ b
    by true is = grind (arith, nat_tests)
    by false is = grind (arith, nat_tests)

not_zero : (n : ℕ) → nat_lt n 0 ≡ false
not_zero n = grind (arith, nat_tests)

past : (a b : ℕ) → nat_lt a b ≡ false → b ≤ a
past a b is = grind (arith, nat_tests)

abbrev among : ℕ → List ℕ → Bool
among r ns = any (λ k. r == k) ns

-- a run's own queue is looked at where its place is before that of the first at which nobody looks
place_early : (r : ℕ) (qs : List Own) (n : ℕ) → or (own.place_of r qs) (λ m. nat_lt m n) false ≡ among r (take n (numbers qs))
place_early r [] zero = refl
place_early r [] (suc n) = refl
place_early r (q ∷ qs) n = by n (q.number == r) refl (λ n. place_early r qs n)
  where
    k : ℕ
    k = position_or_len (λ (own : Own). own.number == r) qs

    later : (b : Bool) (n : ℕ) → or (cond b (Some (1 + k)) None) (λ m. nat_lt m (suc n)) false
        ≡ or (cond b (Some k) None) (λ m. nat_lt m n) false
    later true n = lt_next k n
    later false n = refl

    none_early : (b : Bool) → or (cond b (Some (1 + k)) None) (λ m. nat_lt m 0) false ≡ false
    none_early true = not_zero (1 + k)
    none_early false = refl

    by : (n : ℕ) (b : Bool) → (q.number == r) ≡ b
        → ((n : ℕ) → or (own.place_of r qs) (λ m. nat_lt m n) false ≡ among r (take n (numbers qs)))
        → or (cond (nat_lt (cond (not b) (1 + k) 0) (suc (length qs))) (Some (cond (not b) (1 + k) 0)) None) (λ m. nat_lt m n) false
        ≡ among r (take n (q.number ∷ numbers qs))
    by zero true is rest = ap (λ b. or (cond b (Some 0) None) (λ m. nat_lt m 0) false) (before_all (length qs)) ∙ not_zero 0
    by zero false is rest = none_early (nat_lt (1 + k) (suc (length qs)))
    by (suc n) true is rest =
        ap (λ b. or (cond b (Some 0) None) (λ m. nat_lt m (suc n)) false) (before_all (length qs))
        ∙ (before_all n
        ∙ sym (ap (λ b. if b then true else among r (take n (numbers qs))) (equal r q.number (sym (same_number q.number r is)))))
      where
        equal : (a b : ℕ) → a ≡ b → (a == b) ≡ true
        equal a b same = grind (arith, nat_tests)
    by (suc n) false is rest =
        later (nat_lt (1 + k) (suc (length qs))) n
        ∙ (ap (λ b. or (cond b (Some k) None) (λ m. nat_lt m n) false) (lt_next k (length qs))
        ∙ (rest n ∙ sym (ap (λ b. if b then true else among r (take n (numbers qs))) (turn q.number r is))))

-- the first of a list stand as before where one comes last
take_before : (n : ℕ) (xs ys : List ℕ) → n ≤ length xs → take n (xs ++ ys) ≡ take n xs
take_before zero xs ys long = refl
take_before (suc n) [] ys long = absurd (omega (arith, long))
take_before (suc n) (x ∷ xs) ys long = ap (λ zs. x ∷ zs) (take_before n xs ys (omega (arith, long)))

-- one that changes places with the first behind them comes behind them
swapped : (ns : List ℕ) (n m r y : ℕ) → n ≤ m → slice_get ns m ≡ Some r → slice_get ns n ≡ Some y
    → take (suc n) (slice_set (slice_set ns n r) m y) ≡ take n ns ++ r ∷ []
swapped [] n m r y far at_m at_n = absurd cc
swapped (x ∷ ns) zero zero r y far at_m at_n =
    ap (λ k. k ∷ []) (ap (λ (o : Option ℕ). or o (λ k. k) 0) (sym at_n ∙ at_m))
swapped (x ∷ ns) zero (suc m) r y far at_m at_n = refl
swapped (x ∷ ns) (suc n) zero r y far at_m at_n = absurd (omega (arith, far))
swapped (x ∷ ns) (suc n) (suc m) r y far at_m at_n = ap (λ ks. x ∷ ks) (swapped ns n m r y (omega (arith, far)) at_m at_n)

one_less : (n : ℕ) → suc n - 1 ≡ n
one_less n = omega arith

-- one fewer where one goes
take_without : (r n : ℕ) (ns : List ℕ)
    → take (if among r (take n ns) then n - 1 else n) (without (λ k. r == k) ns) ≡ without (λ k. r == k) (take n ns)
take_without r zero ns = refl
take_without r (suc n) [] = refl
take_without r (suc n) (x ∷ ns) = by (r == x) (take_without r n ns)
  where
    more : (n : ℕ) (b : Bool) → among r (take n ns) ≡ b
        → take (if b then n - 1 else n) (without (λ k. r == k) ns) ≡ without (λ k. r == k) (take n ns)
        → take (if b then suc n - 1 else suc n) (x ∷ without (λ k. r == k) ns) ≡ x ∷ without (λ k. r == k) (take n ns)
    more n false is rest = ap (λ ks. x ∷ ks) rest
    more zero true is rest = absurd (clash refl is)
    more (suc n) true is rest =
        ap (λ m. take m (x ∷ without (λ k. r == k) ns)) (one_less (suc n))
        ∙ ap (λ ks. x ∷ ks) (sym (ap (λ m. take m (without (λ k. r == k) ns)) (one_less n)) ∙ rest)

    by : (b : Bool) → take (if among r (take n ns) then n - 1 else n) (without (λ k. r == k) ns) ≡ without (λ k. r == k) (take n ns)
        → take (if (if b then true else among r (take n ns)) then suc n - 1 else suc n) (if b then ns else x ∷ without (λ k. r == k) ns)
        ≡ (if b then take n ns else x ∷ without (λ k. r == k) (take n ns))
    by true rest = ap (λ m. take m ns) (one_less n)
    by false rest = more n (among r (take n ns)) refl rest

map_set : (qs : List Own) (i : ℕ) (q : Own) → numbers (slice_set qs i q) ≡ slice_set (numbers qs) i q.number
map_set [] i q = refl
map_set (x ∷ qs) zero q = refl
map_set (x ∷ qs) (suc i) q = ap (λ ns. x.number ∷ ns) (map_set qs i q)

map_get : (qs : List Own) (i : ℕ) (q : Own) → slice_get qs i ≡ Some q → slice_get (numbers qs) i ≡ Some q.number
map_get [] i q is = absurd cc
map_get (x ∷ qs) zero q is = ap (λ (o : Option Own). or o (λ q. Some q.number) None) is
map_get (x ∷ qs) (suc i) q is = map_get qs i q is

-- the numbers of those at which others look
abbrev numbered : own.OwnQueuesValue → List ℕ
numbered o = take o.listed (numbers o.queues)

-- so they stand
pub record Ordered (order : List ℕ) (o : own.OwnQueuesValue) : Type 0 where
  pub is : numbered o ≡ order
  pub within : Within o

length_numbers : (qs : List Own) → length (numbers qs) ≡ length qs
length_numbers qs = length_map (λ (q : Own). q.number) qs

pub changed_ordered : (order : List ℕ) (f : List Task → List Task) (r : ℕ) (o : own.OwnQueuesValue) → Ordered order o
    → Ordered order (own.changed f r o)
changed_ordered order f r o so =
    let now = changed_now f r o in
    let same = ap (λ (o : own.OwnQueuesValue). o.listed) now in
    record {
      is =
          ap (λ n. take n (numbers (own.changed f r o).queues)) same
          ∙ (ap (λ ns. take o.listed ns) (changed_numbers f r o) ∙ so.is);
      within = changed_within f r o so.within;
    }

pub opened_ordered : (order : List ℕ) (o : own.OwnQueuesValue) → Ordered order o → Ordered order (own.opened o)
opened_ordered order o so =
    let new : Own = record { number = o.made; queue = [] } in
    let long = length_numbers o.queues in
    let within = so.within in
    record {
      is =
          ap (λ ns. take o.listed ns) (map_append (λ (q : Own). q.number) o.queues (new ∷ []))
          ∙ (take_before o.listed (numbers o.queues) (o.made ∷ []) (omega (arith, long, within)) ∙ so.is);
      within = opened_within o so.within;
    }

-- one whose run is polled
pub listed_ordered : (order : List ℕ) (r : ℕ) (o : own.OwnQueuesValue) (ts : List Task) → own.queue_of r o.queues ≡ Some ts
    → Ordered order o → Ordered (with_run r order) (own.listed r o)
listed_ordered order r o ts has so =
    record { is = by (own.place_of r o.queues) refl has; within = listed_within r o so.within }
  where
    of_order : (b : Bool) → among r (take o.listed (numbers o.queues)) ≡ b
        → with_run r order ≡ (if b then order else order ++ r ∷ [])
    of_order b is = ap (λ b. if b then order else order ++ r ∷ []) (ap (among r) (sym so.is) ∙ is)

    at : (m : ℕ) (q : Own) → slice_get o.queues m ≡ Some q → q.number ≡ r → (b : Bool) → nat_lt m o.listed ≡ b
        → among r (take o.listed (numbers o.queues)) ≡ b
        → numbered (choose b o (record o { queues = swap o.queues o.listed m; listed = o.listed + 1 })) ≡ with_run r order
    at m q here same true early is = so.is ∙ sym (of_order true is)
    at m q here same false late is =
        let far = past m o.listed late in
        let inside = got_below o.queues m q here in
        let other = slice_index_or o.queues o.listed q in
        let mine = slice_index_or o.queues m q in
        let inside_too : o.listed < length o.queues = omega (arith, far, inside) in
        let swap_so = swap_is o.queues o.listed m q inside_too inside in
        let first = slice_set o.queues o.listed mine in
        let mine_is : mine.number ≡ r =
        ap (λ (x : Option Own). or x (λ q. q.number) r) (sym (there o.queues m q inside) ∙ here) ∙ same in
        let at_m = map_get o.queues m q here ∙ ap (λ n. Some n) same in
        let at_n = map_get o.queues o.listed other (there o.queues o.listed q inside_too) in
        let numbers_are : numbers (swap o.queues o.listed m) ≡ slice_set (slice_set (numbers o.queues) o.listed r) m other.number =
        ap numbers (sym swap_so)
        ∙ (map_set first m other
        ∙ ap (λ ns. slice_set ns m other.number)
        (map_set o.queues o.listed mine ∙ ap (λ n. slice_set (numbers o.queues) o.listed n) mine_is)) in
        ap (λ n. take n (numbers (swap o.queues o.listed m))) (next o.listed)
        ∙ (ap (take (suc o.listed)) numbers_are
        ∙ (swapped (numbers o.queues) o.listed m r other.number far at_m at_n
        ∙ (ap (λ ns. ns ++ r ∷ []) so.is ∙ sym (of_order false is))))
      where
        next : (n : ℕ) → n + 1 ≡ suc n
        next n = omega arith

    by : (m : Option ℕ) → own.place_of r o.queues ≡ m → own.queue_at m o.queues ≡ Some ts
        → numbered (own.listed_at m o) ≡ with_run r order
    by None is has = absurd cc
    by (Some m) is has =
        let it = its_place r m o.queues is in
        at m it.0 it.1 it.2 (nat_lt m o.listed) refl
        (sym (place_early r o.queues o.listed) ∙ ap (λ (x : Option ℕ). or x (λ m. nat_lt m o.listed) false) is)

-- one whose run goes
pub closed_ordered : (order : List ℕ) (r : ℕ) (o : own.OwnQueuesValue) → Ordered order o
    → Ordered (without (λ k. r == k) order) (own.closed r o)
closed_ordered order r o so = record { is = by (own.place_of r o.queues) refl; within = closed_within r o so.within }
  where
    early : (x : Option ℕ) → own.place_of r o.queues ≡ x
        → among r (take o.listed (numbers o.queues)) ≡ or x (λ m. nat_lt m o.listed) false
    early x is = sym (place_early r o.queues o.listed) ∙ ap (λ (x : Option ℕ). or x (λ m. nat_lt m o.listed) false) is

    -- none of these is taken out
    none_out : (ns : List ℕ) → among r ns ≡ false → without (λ k. r == k) ns ≡ ns
    none_out [] is = refl
    none_out (n ∷ ns) is = each (r == n) is (none_out ns)
      where
        each : (b : Bool) → (if b then true else among r ns) ≡ false → (among r ns ≡ false → without (λ k. r == k) ns ≡ ns)
            → (if b then ns else n ∷ without (λ k. r == k) ns) ≡ n ∷ ns
        each true is rest = absurd cc
        each false is rest = ap (λ ns. n ∷ ns) (rest is)

    same_test : (a b : ℕ) → (a == b) ≡ (b == a)
    same_test a b = test (b == a) refl
      where
        test : (c : Bool) → (b == a) ≡ c → (a == b) ≡ c
        test true is = grind (arith, nat_tests)
        test false is = turn b a is

    -- by its place
    removed : (qs : List Own) (m : ℕ) → own.place_of r qs ≡ Some m → numbers (remove qs m) ≡ without (λ k. r == k) (numbers qs)
    removed [] m is = absurd cc
    removed (q ∷ qs) m is = first (q.number == r) refl is (λ m. removed qs m)
      where
        k : ℕ
        k = position_or_len (λ (own : Own). own.number == r) qs

        next : 1 + k ≡ suc k
        next = omega arith

        further : (b : Bool) → nat_lt k (length qs) ≡ b → cond b (Some (1 + k)) None ≡ Some m
            → ((m : ℕ) → cond b (Some k) None ≡ Some m → numbers (remove qs m) ≡ without (λ k. r == k) (numbers qs))
            → numbers (remove (q ∷ qs) m) ≡ q.number ∷ without (λ k. r == k) (numbers qs)
        further false out is rest = absurd cc
        further true in_it is rest =
            ap (λ m. numbers (remove (q ∷ qs) m)) (sym (ap (λ (x : Option ℕ). or x (λ m. m) m) is) ∙ next)
            ∙ ap (λ ns. q.number ∷ ns) (rest k refl)

        first : (b : Bool) → (q.number == r) ≡ b
            → cond (nat_lt (cond (not b) (1 + k) 0) (suc (length qs))) (Some (cond (not b) (1 + k) 0)) None ≡ Some m
            → ((m : ℕ) → own.place_of r qs ≡ Some m → numbers (remove qs m) ≡ without (λ k. r == k) (numbers qs))
            → numbers (remove (q ∷ qs) m) ≡ (if r == q.number then numbers qs else q.number ∷ without (λ k. r == k) (numbers qs))
        first true one is rest =
            ap (λ m. numbers (remove (q ∷ qs) m))
            (sym (ap (λ (x : Option ℕ). or x (λ m. m) m)
            (sym (ap (λ b. cond b (Some 0) None) (before_all (length qs))) ∙ is)))
            ∙ sym (ap (λ b. if b then numbers qs else q.number ∷ without (λ k. r == k) (numbers qs)) (same_test r q.number ∙ one))
        first false other is rest =
            further (nat_lt k (length qs)) refl
            (sym (ap (λ b. cond b (Some (1 + k)) None) (lt_next k (length qs))) ∙ is) rest
            ∙ sym (ap (λ b. if b then numbers qs else q.number ∷ without (λ k. r == k) (numbers qs)) (same_test r q.number ∙ other))

    by : (x : Option ℕ) → own.place_of r o.queues ≡ x → numbered (own.closed_at x o) ≡ without (λ k. r == k) order
    by None is = so.is ∙ sym (none_out order (ap (among r) (sym so.is) ∙ early None is))
    by (Some m) is =
        ap (λ ns. take (choose (nat_lt m o.listed) (o.listed - 1) o.listed) ns) (removed o.queues m is)
        ∙ (ap (λ b. take (if b then o.listed - 1 else o.listed) (without (λ k. r == k) (numbers o.queues))) (sym (early (Some m) is))
        ∙ (take_without r o.listed (numbers o.queues) ∙ ap (λ ns. without (λ k. r == k) ns) so.is))
