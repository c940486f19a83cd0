-- A run's own queue comes last among those that others look at: two queues change places, and each is that of its run still.
use Rattle.std.proofs.Common.{◌≡◌, ℕ, zero, suc, ◌+◌, ◌<◌, ◌≤◌, ◌==◌, nat_lt, cond, not, Bool, true, false, List, [], ◌∷◌, length}
use Rattle.std.proofs.Common.{Option, Some, None, slice_get, slice_set, slice_index_or, refl, sym, ap, subst, ◌∙◌, arith}
use Rattle.std.specs.List.{swap}
use Rattle.std.proofs.lemmas.Bool.Decides.{nat_tests}
use Rattle.std.proofs.lemmas.List.Edits.{swap_is}
use Rattle.std.proofs.lemmas.List.Quantifiers.{position-Some}
use Rattle.solo.specs.declared.names.Task.{Task}
use Rattle.solo.specs.declared.own_queues.Own.{Own}
use Rattle.solo.specs.OwnQueues as own
use Rattle.solo.specs.Cells.{choose}
use Rattle.solo_laws.specs.Road.{apart, is_in}
use Rattle.solo_laws.proofs.Following.Cells.{same_number}
use Rattle.solo_laws.proofs.Following.Due.{and_true, both_true, clash, equal, later, neither, not_false, not_true}
use Rattle.solo_laws.proofs.Following.Numbers.{turn}
use Rattle.solo_laws.proofs.Following.Owns.{first_queue, none_numbered, numbers, unnumbered}

abbrev queue_if : Bool → Own → Option (List Task) → Option (List Task)
queue_if b q rest = cond b (Some q.queue) rest

pub there : (qs : List Own) (m : ℕ) (d : Own) → m < length qs → slice_get qs m ≡ Some (slice_index_or qs m d)
there [] m d below = absurd (omega (arith, below))
there (q ∷ qs) zero d below = refl
there (q ∷ qs) (suc m) d below = there qs m d (omega (arith, below))

pub in_of : (qs : List Own) (m : ℕ) (b : Own) → slice_get qs m ≡ Some b → is_in b.number (numbers qs) ≡ true
in_of [] m b is = absurd cc
in_of (q ∷ qs) zero b is =
    ap (λ c. cond c true (is_in b.number (numbers qs)))
    (equal b.number q.number (sym (ap (λ (o : Option Own). own.number_in o) is)))
in_of (q ∷ qs) (suc m) b is = later (b.number == q.number) (is_in b.number (numbers qs)) (in_of qs m b is)

-- what stands there is the queue of its number
got : (qs : List Own) (m : ℕ) (b : Own) → apart (numbers qs) ≡ true → slice_get qs m ≡ Some b
    → own.queue_of b.number qs ≡ Some b.queue
got [] m b is here = absurd cc
got (q ∷ qs) zero b is here =
    first_queue b.number q qs
    ∙ (ap (λ c. queue_if c q (own.queue_of b.number qs)) (equal q.number b.number (ap (λ (o : Option Own). own.number_in o) here))
    ∙ ap (λ (o : Option Own). own.queue_in o) here)
got (q ∷ qs) (suc m) b is here =
    let two = both_true (not (is_in q.number (numbers qs))) (apart (numbers qs)) is in
    first_queue b.number q qs
    ∙ (ap (λ c. queue_if c q (own.queue_of b.number qs)) (unlike (not_true (is_in q.number (numbers qs)) two.0) (q.number == b.number) refl)
    ∙ got qs m b two.1 here)
  where
    unlike : is_in q.number (numbers qs) ≡ false → (c : Bool) → (q.number == b.number) ≡ c → c ≡ false
    unlike out false other = refl
    unlike out true same =
        absurd (clash (subst (λ n. is_in n (numbers qs) ≡ false) (same_number q.number b.number same) out) (in_of qs m b here))

-- one is put in the place of another
module _ (a b : Own) where
  set_queue : (k m : ℕ) (qs : List Own) → slice_get qs m ≡ Some b → (b.number == k) ≡ false → is_in a.number (numbers qs) ≡ false
      → own.queue_of k (slice_set qs m a) ≡ queue_if (a.number == k) a (own.queue_of k qs)
  set_queue k m [] here other none = absurd cc
  set_queue k zero (q ∷ qs) here other none =
      first_queue k a qs
      ∙ ap (queue_if (a.number == k) a)
      (sym (first_queue k q qs
      ∙ ap (λ c. queue_if c q (own.queue_of k qs))
      (subst (λ n. (n == k) ≡ false) (sym (ap (λ (o : Option Own). own.number_in o) here)) other)))
  set_queue k (suc m) (q ∷ qs) here other none =
      let two = neither (a.number == q.number) (is_in a.number (numbers qs)) none in
      first_queue k q (slice_set qs m a)
      ∙ (ap (queue_if (q.number == k) q) (set_queue k m qs here other two.1)
      ∙ (by (q.number == k) (a.number == k) refl refl two.0 ∙ sym (ap (queue_if (a.number == k) a) (first_queue k q qs))))
    where
      by : (x y : Bool) → (q.number == k) ≡ x → (a.number == k) ≡ y → (a.number == q.number) ≡ false
          → queue_if x q (queue_if y a (own.queue_of k qs)) ≡ queue_if y a (queue_if x q (own.queue_of k qs))
      by true true one two apart_so =
          absurd (clash apart_so
          (equal a.number q.number (same_number a.number k two ∙ sym (same_number q.number k one))))
      by true false one two apart_so = refl
      by false true one two apart_so = refl
      by false false one two apart_so = refl

  set_out : (k m : ℕ) (qs : List Own) → is_in k (numbers qs) ≡ false → (k == a.number) ≡ false
      → is_in k (numbers (slice_set qs m a)) ≡ false
  set_out k m [] none other = refl
  set_out k zero (q ∷ qs) none other =
      ap (λ c. cond c true (is_in k (numbers qs))) other ∙ (neither (k == q.number) (is_in k (numbers qs)) none).1
  set_out k (suc m) (q ∷ qs) none other =
      let two = neither (k == q.number) (is_in k (numbers qs)) none in
      ap (λ c. cond c true (is_in k (numbers (slice_set qs m a)))) two.0 ∙ set_out k m qs two.1 other

  set_apart : (m : ℕ) (qs : List Own) → apart (numbers qs) ≡ true → is_in a.number (numbers qs) ≡ false
      → apart (numbers (slice_set qs m a)) ≡ true
  set_apart m [] is none = refl
  set_apart zero (q ∷ qs) is none =
      let two = both_true (not (is_in q.number (numbers qs))) (apart (numbers qs)) is in
      and_true (not (is_in a.number (numbers qs))) (apart (numbers qs))
      (not_false (is_in a.number (numbers qs)) (neither (a.number == q.number) (is_in a.number (numbers qs)) none).1) two.1
  set_apart (suc m) (q ∷ qs) is none =
      let two = both_true (not (is_in q.number (numbers qs))) (apart (numbers qs)) is in
      let out = neither (a.number == q.number) (is_in a.number (numbers qs)) none in
      and_true (not (is_in q.number (numbers (slice_set qs m a)))) (apart (numbers (slice_set qs m a)))
      (not_false (is_in q.number (numbers (slice_set qs m a)))
      (set_out q.number m qs (not_true (is_in q.number (numbers qs)) two.0) (turn a.number q.number out.0)))
      (set_apart m qs two.1 out.1)

  -- and that one is there no more
  set_gone : (m : ℕ) (qs : List Own) → apart (numbers qs) ≡ true → slice_get qs m ≡ Some b → (b.number == a.number) ≡ false
      → is_in b.number (numbers (slice_set qs m a)) ≡ false
  set_gone m [] is here other = refl
  set_gone zero (q ∷ qs) is here other =
      let two = both_true (not (is_in q.number (numbers qs))) (apart (numbers qs)) is in
      ap (λ c. cond c true (is_in b.number (numbers qs))) other
      ∙ subst (λ n. is_in n (numbers qs) ≡ false) (ap (λ (o : Option Own). own.number_in o) here)
      (not_true (is_in q.number (numbers qs)) two.0)
  set_gone (suc m) (q ∷ qs) is here other =
      let two = both_true (not (is_in q.number (numbers qs))) (apart (numbers qs)) is in
      ap (λ c. cond c true (is_in b.number (numbers (slice_set qs m a))))
      (unlike (not_true (is_in q.number (numbers qs)) two.0) (b.number == q.number) refl)
      ∙ set_gone m qs two.1 here other
    where
      unlike : is_in q.number (numbers qs) ≡ false → (c : Bool) → (b.number == q.number) ≡ c → c ≡ false
      unlike out false apart_so = refl
      unlike out true same =
          absurd (clash (subst (λ n. is_in n (numbers qs) ≡ false) (sym (same_number b.number q.number same)) out) (in_of qs m b here))

-- two change places
record Swapped (qs now : List Own) : Type 0 where
  pub queues : (k : ℕ) → own.queue_of k now ≡ own.queue_of k qs
  pub apart_so : apart (numbers now) ≡ true

abbrev swapped : List Own → ℕ → ℕ → Own → List Own
swapped qs i j d = slice_set (slice_set qs i (slice_index_or qs j d)) j (slice_index_or qs i d)

swaps : (i j : ℕ) (d : Own) (qs : List Own) → i ≤ j → j < length qs → apart (numbers qs) ≡ true → Swapped qs (swapped qs i j d)
swaps i j d [] before below is = absurd (omega (arith, below))
swaps zero zero d (q ∷ qs) before below is = record { queues = λ k. refl; apart_so = is }
swaps zero (suc m) d (q ∷ qs) before below is =
    let two = both_true (not (is_in q.number (numbers qs))) (apart (numbers qs)) is in
    let out = not_true (is_in q.number (numbers qs)) two.0 in
    let b = slice_index_or qs m d in
    let here : slice_get qs m ≡ Some b = there qs m d (omega (arith, below)) in
    let other : (b.number == q.number) ≡ false = unlike b here out (b.number == q.number) refl in
    record {
      queues = λ k.
          first_queue k b (slice_set qs m q)
          ∙ (by b here out two.1 other k (b.number == k) refl ∙ sym (first_queue k q qs));
      apart_so =
          and_true (not (is_in b.number (numbers (slice_set qs m q)))) (apart (numbers (slice_set qs m q)))
          (not_false (is_in b.number (numbers (slice_set qs m q))) (set_gone q b m qs two.1 here other))
          (set_apart q b m qs two.1 out);
    }
  where
    unlike : (b : Own) → slice_get qs m ≡ Some b → is_in q.number (numbers qs) ≡ false → (c : Bool) → (b.number == q.number) ≡ c
        → c ≡ false
    unlike b here out false other = refl
    unlike b here out true same =
        absurd (clash (subst (λ n. is_in n (numbers qs) ≡ false) (sym (same_number b.number q.number same)) out) (in_of qs m b here))

    by : (b : Own) → slice_get qs m ≡ Some b → is_in q.number (numbers qs) ≡ false → apart (numbers qs) ≡ true
        → (b.number == q.number) ≡ false → (k : ℕ) (c : Bool) → (b.number == k) ≡ c
        → queue_if c b (own.queue_of k (slice_set qs m q)) ≡ queue_if (q.number == k) q (own.queue_of k qs)
    by b here out is other k false not_it = set_queue q b k m qs here not_it out
    by b here out is other k true same =
        let one : b.number ≡ k = same_number b.number k same in
        sym (ap (λ n. queue_if (q.number == n) q (own.queue_of n qs)) (sym one)
        ∙ (ap (λ c. queue_if c q (own.queue_of b.number qs)) (turn b.number q.number other) ∙ got qs m b is here))
swaps (suc i) zero d (q ∷ qs) before below is = absurd (omega (arith, before))
swaps (suc i) (suc j) d (q ∷ qs) before below is =
    let two = both_true (not (is_in q.number (numbers qs))) (apart (numbers qs)) is in
    let rest = swaps i j d qs (omega (arith, before)) (omega (arith, below)) two.1 in
    let now = swapped qs i j d in
    record {
      queues = λ k. first_queue k q now ∙ (ap (queue_if (q.number == k) q) (rest.queues k) ∙ sym (first_queue k q qs));
      apart_so =
          and_true (not (is_in q.number (numbers now))) (apart (numbers now))
          (not_false (is_in q.number (numbers now))
          (none_numbered q.number now (rest.queues q.number ∙ unnumbered q.number qs (not_true (is_in q.number (numbers qs)) two.0))))
          rest.apart_so;
    }

-- a run's queue is looked at from now on
module _ (r : ℕ) (o : own.OwnQueuesValue) (is : apart (numbers o.queues) ≡ true) where
  pub placed : (at : ℕ) (qs : List Own) → own.place_of r qs ≡ Some at → at < length qs
  placed at [] here = absurd cc
  placed at (d ∷ qs) here = (position-Some (λ q. q.number == r) (d ∷ qs) at d here).0

  moved : (at : ℕ) (qs : List Own) → at < length qs → o.listed ≤ at → apart (numbers qs) ≡ true → Swapped qs (swap qs o.listed at)
  moved at [] below before apart_so = absurd (omega (arith, below))
  moved at (d ∷ qs) below before apart_so =
      subst (Swapped (d ∷ qs)) (swap_is (d ∷ qs) o.listed at d (omega (arith, before, below)) below)
      (swaps o.listed at d (d ∷ qs) before below apart_so)

  listed_by : (at : ℕ) → at < length o.queues → (b : Bool) → nat_lt at o.listed ≡ b
      → Swapped o.queues (choose b o (record o { queues = swap o.queues o.listed at; listed = o.listed + 1 })).queues
  listed_by at below true early = record { queues = λ k. refl; apart_so = is }
  listed_by at below false late = moved at o.queues below (past at o.listed late) is
    where
      past : (n m : ℕ) → nat_lt n m ≡ false → m ≤ n
      past n m late = grind (arith, nat_tests)

  listed_at : (at : Option ℕ) → own.place_of r o.queues ≡ at → Swapped o.queues (own.listed_at at o).queues
  listed_at None none = record { queues = λ k. refl; apart_so = is }
  listed_at (Some at) here = listed_by at (placed at o.queues here) (nat_lt at o.listed) refl

  all : Swapped o.queues (own.listed r o).queues
  all = listed_at (own.place_of r o.queues) refl

  pub listed_queue : (k : ℕ) → own.queue_of k (own.listed r o).queues ≡ own.queue_of k o.queues
  listed_queue k = all.queues k

  pub listed_apart : apart (numbers (own.listed r o).queues) ≡ true
  listed_apart = all.apart_so

  pub listed_made : (own.listed r o).made ≡ o.made
  listed_made = by (own.place_of r o.queues)
    where
      one : (b : Bool) (at : ℕ)
          → (choose b o (record o { queues = swap o.queues o.listed at; listed = o.listed + 1 })).made ≡ o.made
      one true at = refl
      one false at = refl

      by : (at : Option ℕ) → (own.listed_at at o).made ≡ o.made
      by None = refl
      by (Some at) = one (nat_lt at o.listed) at
