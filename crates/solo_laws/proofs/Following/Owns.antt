-- The own queues of runs: which is that of a run, as one comes last, is changed, or goes.
use Rattle.std.proofs.Common.{◌≡◌, ℕ, suc, ◌+◌, ◌==◌, nat_lt, cond, not, Bool, true, false, List, [], ◌∷◌, ◌++◌, length, map, remove}
use Rattle.std.proofs.Common.{Option, Some, None, slice_get, append-nil, refl, sym, ap, subst, ◌∙◌, arith}
use Rattle.std.specs.List.{position_or_len}
use Rattle.std.proofs.lemmas.Bool.Decides.{nat_tests}
use Rattle.solo.specs.declared.names.Task.{Task}
use Rattle.solo.specs.declared.own_queues.Own.{Own}
use Rattle.solo.specs.OwnQueues as own
use Rattle.plain_scheduler.specs.Lists.{or, without}
use Rattle.solo_laws.specs.Road.{apart, is_in}
use Rattle.solo_laws.proofs.Following.Cells.{same_number}
use Rattle.solo_laws.proofs.Following.Due.{and_true, both_true, equal, neither, not_false, not_true}
use Rattle.solo_laws.proofs.Following.Lists.{map_append}
use Rattle.solo_laws.proofs.Following.Numbers.{apart_more, turn}

abbrev pub numbers : List Own → List ℕ
numbers qs = map (λ (q : Own). q.number) qs

before_all : (n : ℕ) → nat_lt 0 (suc n) ≡ true
before_all n = grind (arith, nat_tests)

lt_next : (n m : ℕ) → nat_lt (1 + n) (suc m) ≡ nat_lt n m
lt_next n m = by (nat_lt n m) refl
  where
    by : (b : Bool) → nat_lt n m ≡ b → nat_lt (1 + n) (suc m) ≡ b
    by true is = grind (arith, nat_tests)
    by false is = grind (arith, nat_tests)

next : (n : ℕ) → 1 + n ≡ suc n
next n = omega arith

-- the queue of a run is the first with its number
pub first_queue : (r : ℕ) (q : Own) (qs : List Own) → own.queue_of r (q ∷ qs) ≡ cond (q.number == r) (Some q.queue) (own.queue_of r qs)
first_queue r q qs = by (q.number == r)
  where
    k : ℕ
    k = position_or_len (λ (own : Own). own.number == r) qs

    there : (b : Bool) → own.queue_at (cond b (Some (1 + k)) None) (q ∷ qs) ≡ own.queue_at (cond b (Some k) None) qs
    there true = ap (λ n. own.queue_in (slice_get (q ∷ qs) n)) (next k)
    there false = refl

    by : (b : Bool) → own.queue_at (cond (nat_lt (cond (not b) (1 + k) 0) (suc (length qs))) (Some (cond (not b) (1 + k) 0)) None) (q ∷ qs)
        ≡ cond b (Some q.queue) (own.queue_at (cond (nat_lt k (length qs)) (Some k) None) qs)
    by true = ap (λ b. own.queue_at (cond b (Some 0) None) (q ∷ qs)) (before_all (length qs))
    by false = ap (λ b. own.queue_at (cond b (Some (1 + k)) None) (q ∷ qs)) (lt_next k (length qs)) ∙ there (nat_lt k (length qs))

-- one that comes last is that of a run that had none
pub last_queue : (r : ℕ) (q : Own) (qs : List Own)
    → own.queue_of r (qs ++ q ∷ []) ≡ or (own.queue_of r qs) (λ tasks. Some tasks) (cond (q.number == r) (Some q.queue) None)
last_queue r q [] = first_queue r q []
last_queue r q (x ∷ xs) =
    first_queue r x (xs ++ q ∷ [])
    ∙ (by (x.number == r) (last_queue r q xs)
    ∙ sym (ap (λ o. or o (λ tasks. Some tasks) (cond (q.number == r) (Some q.queue) None)) (first_queue r x xs)))
  where
    by : (b : Bool)
        → own.queue_of r (xs ++ q ∷ []) ≡ or (own.queue_of r xs) (λ tasks. Some tasks) (cond (q.number == r) (Some q.queue) None)
        → cond b (Some x.queue) (own.queue_of r (xs ++ q ∷ []))
        ≡ or (cond b (Some x.queue) (own.queue_of r xs)) (λ tasks. Some tasks) (cond (q.number == r) (Some q.queue) None)
    by true rest = refl
    by false rest = rest

-- a number is one of these where it has a queue
pub none_numbered : (r : ℕ) (qs : List Own) → own.queue_of r qs ≡ None → is_in r (numbers qs) ≡ false
none_numbered r [] none = refl
none_numbered r (q ∷ qs) none = by (q.number == r) refl (none_numbered r qs) (sym (first_queue r q qs) ∙ none)
  where
    by : (b : Bool) → (q.number == r) ≡ b → (own.queue_of r qs ≡ None → is_in r (numbers qs) ≡ false)
        → cond b (Some q.queue) (own.queue_of r qs) ≡ None → is_in r (numbers (q ∷ qs)) ≡ false
    by true is rest none = absurd cc
    by false is rest none = ap (λ b. cond b true (is_in r (numbers qs))) (turn q.number r is) ∙ rest none

pub unnumbered : (r : ℕ) (qs : List Own) → is_in r (numbers qs) ≡ false → own.queue_of r qs ≡ None
unnumbered r [] none = refl
unnumbered r (q ∷ qs) none =
    let two = neither (r == q.number) (is_in r (numbers qs)) none in
    first_queue r q qs
    ∙ (ap (λ b. cond b (Some q.queue) (own.queue_of r qs)) (turn r q.number two.0) ∙ unnumbered r qs two.1)

-- one comes last, of a number that had none
pub opened_apart : (q : Own) (qs : List Own) → apart (numbers qs) ≡ true → own.queue_of q.number qs ≡ None
    → apart (numbers (qs ++ q ∷ [])) ≡ true
opened_apart q qs is none =
    ap apart (map_append (λ (q : Own). q.number) qs (q ∷ []))
    ∙ apart_more (numbers qs) [] q.number (ap apart (append-nil (numbers qs)) ∙ is)
    (ap (is_in q.number) (append-nil (numbers qs)) ∙ none_numbered q.number qs none)

-- the queue of a run, if it is there, becomes another
module _ (f : List Task → List Task) where
  abbrev pub mapped : Option (List Task) → Option (List Task)
  mapped None = None
  mapped (Some tasks) = Some (f tasks)

  module _ (r : ℕ) where
    abbrev pub changed_list : List Own → List Own
    changed_list [] = []
    changed_list (q ∷ qs) = cond (q.number == r) (record q { queue = f q.queue } ∷ qs) (q ∷ changed_list qs)

    abbrev at_list : Option ℕ → List Own → List Own
    at_list None qs = qs
    at_list (Some at) qs = own.changed_in f (slice_get qs at) at qs

    later : (o : Option Own) (k : ℕ) (q : Own) (qs : List Own) → own.changed_in f o (suc k) (q ∷ qs) ≡ q ∷ own.changed_in f o k qs
    later None k q qs = refl
    later (Some x) k q qs = refl

    list_is : (qs : List Own) → at_list (own.place_of r qs) qs ≡ changed_list qs
    list_is [] = refl
    list_is (q ∷ qs) =
        by (q.number == r) ∙ ap (λ rest. cond (q.number == r) (record q { queue = f q.queue } ∷ qs) (q ∷ rest)) (list_is qs)
      where
        k : ℕ
        k = position_or_len (λ (own : Own). own.number == r) qs

        there : (b : Bool) → at_list (cond b (Some (1 + k)) None) (q ∷ qs) ≡ q ∷ at_list (cond b (Some k) None) qs
        there true =
            ap (λ n. own.changed_in f (slice_get (q ∷ qs) n) n (q ∷ qs)) (next k) ∙ later (slice_get qs k) k q qs
        there false = refl

        by : (b : Bool)
            → at_list (cond (nat_lt (cond (not b) (1 + k) 0) (suc (length qs))) (Some (cond (not b) (1 + k) 0)) None) (q ∷ qs)
            ≡ cond b (record q { queue = f q.queue } ∷ qs) (q ∷ at_list (cond (nat_lt k (length qs)) (Some k) None) qs)
        by true = ap (λ b. at_list (cond b (Some 0) None) (q ∷ qs)) (before_all (length qs))
        by false =
            ap (λ b. at_list (cond b (Some (1 + k)) None) (q ∷ qs)) (lt_next k (length qs)) ∙ there (nat_lt k (length qs))

    none_by : (b : Bool) → None ≡ cond b (mapped None) None
    none_by true = refl
    none_by false = refl

    -- that of another run stays
    list_queue : (j : ℕ) (qs : List Own)
        → own.queue_of j (changed_list qs) ≡ cond (j == r) (mapped (own.queue_of j qs)) (own.queue_of j qs)
    list_queue j [] = none_by (j == r)
    list_queue j (q ∷ qs) = by (q.number == r) refl (list_queue j qs)
      where
        new : Own
        new = record q { queue = f q.queue }

        first : own.queue_of j (q ∷ qs) ≡ cond (q.number == j) (Some q.queue) (own.queue_of j qs)
        first = first_queue j q qs

        all : Option (List Task) → Option (List Task)
        all o = cond (j == r) (mapped o) o

        unlike : (a b c : ℕ) → (a == b) ≡ true → (a == c) ≡ false → (b == c) ≡ false
        unlike a b c is away = subst (λ n. (n == c) ≡ false) (same_number a b is) away

        here : (q.number == r) ≡ true → (b : Bool) → (q.number == j) ≡ b
            → cond b (Some (f q.queue)) (own.queue_of j qs) ≡ all (cond b (Some q.queue) (own.queue_of j qs))
        here is true same =
            sym (ap (λ b. cond b (Some (f q.queue)) (Some q.queue))
            (equal j r (sym (same_number q.number j same) ∙ same_number q.number r is)))
        here is false away =
            sym (ap (λ b. cond b (mapped (own.queue_of j qs)) (own.queue_of j qs)) (turn r j (unlike q.number r j is away)))

        past : (q.number == r) ≡ false → own.queue_of j (changed_list qs) ≡ all (own.queue_of j qs) → (b : Bool) → (q.number == j) ≡ b
            → cond b (Some q.queue) (own.queue_of j (changed_list qs)) ≡ all (cond b (Some q.queue) (own.queue_of j qs))
        past away rest true same = sym (ap (λ b. cond b (Some (f q.queue)) (Some q.queue)) (unlike q.number j r same away))
        past away rest false other = rest

        by : (b : Bool) → (q.number == r) ≡ b → own.queue_of j (changed_list qs) ≡ all (own.queue_of j qs)
            → own.queue_of j (cond b (new ∷ qs) (q ∷ changed_list qs)) ≡ all (own.queue_of j (q ∷ qs))
        by true is rest = first_queue j new qs ∙ (here is (q.number == j) refl ∙ sym (ap all first))
        by false away rest = first_queue j q (changed_list qs) ∙ (past away rest (q.number == j) refl ∙ sym (ap all first))

    pub list_numbers : (qs : List Own) → numbers (changed_list qs) ≡ numbers qs
    list_numbers [] = refl
    list_numbers (q ∷ qs) = by (q.number == r) (list_numbers qs)
      where
        by : (b : Bool) → numbers (changed_list qs) ≡ numbers qs
            → numbers (cond b (record q { queue = f q.queue } ∷ qs) (q ∷ changed_list qs)) ≡ numbers (q ∷ qs)
        by true rest = refl
        by false rest = ap (λ ns. q.number ∷ ns) rest

    queues_are : (at : Option ℕ) (o : own.OwnQueuesValue) → (own.changed_at f at o).queues ≡ at_list at o.queues
    queues_are None o = refl
    queues_are (Some at) o = refl

    made_at : (at : Option ℕ) (o : own.OwnQueuesValue) → (own.changed_at f at o).made ≡ o.made
    made_at None o = refl
    made_at (Some at) o = refl

    pub changed_queue : (j : ℕ) (o : own.OwnQueuesValue)
        → own.queue_of j (own.changed f r o).queues ≡ cond (j == r) (mapped (own.queue_of j o.queues)) (own.queue_of j o.queues)
    changed_queue j o =
        ap (own.queue_of j) (queues_are (own.place_of r o.queues) o ∙ list_is o.queues) ∙ list_queue j o.queues

    pub changed_now : (o : own.OwnQueuesValue) → own.changed f r o ≡ record o { queues = changed_list o.queues }
    changed_now o = by (own.place_of r o.queues) ∙ ap (λ qs. record o { queues = qs }) (list_is o.queues)
      where
        by : (at : Option ℕ) → own.changed_at f at o ≡ record o { queues = at_list at o.queues }
        by None = refl
        by (Some at) = refl

    pub changed_made : (o : own.OwnQueuesValue) → (own.changed f r o).made ≡ o.made
    changed_made o = made_at (own.place_of r o.queues) o

    pub changed_numbers : (o : own.OwnQueuesValue) → numbers (own.changed f r o).queues ≡ numbers o.queues
    changed_numbers o = ap numbers (queues_are (own.place_of r o.queues) o ∙ list_is o.queues) ∙ list_numbers o.queues

-- the queue of a run goes
module _ (r : ℕ) where
  abbrev its_own : Own → Bool
  its_own q = q.number == r

  abbrev at_gone : Option ℕ → List Own → List Own
  at_gone None qs = qs
  at_gone (Some at) qs = remove qs at

  gone_is : (qs : List Own) → at_gone (own.place_of r qs) qs ≡ without its_own qs
  gone_is [] = refl
  gone_is (q ∷ qs) = by (q.number == r) ∙ ap (λ rest. cond (q.number == r) qs (q ∷ rest)) (gone_is qs)
    where
      k : ℕ
      k = position_or_len its_own qs

      there : (b : Bool) → at_gone (cond b (Some (1 + k)) None) (q ∷ qs) ≡ q ∷ at_gone (cond b (Some k) None) qs
      there true = ap (λ n. remove (q ∷ qs) n) (next k)
      there false = refl

      by : (b : Bool)
          → at_gone (cond (nat_lt (cond (not b) (1 + k) 0) (suc (length qs))) (Some (cond (not b) (1 + k) 0)) None) (q ∷ qs)
          ≡ cond b qs (q ∷ at_gone (cond (nat_lt k (length qs)) (Some k) None) qs)
      by true = ap (λ b. at_gone (cond b (Some 0) None) (q ∷ qs)) (before_all (length qs))
      by false = ap (λ b. at_gone (cond b (Some (1 + k)) None) (q ∷ qs)) (lt_next k (length qs)) ∙ there (nat_lt k (length qs))

  closed_is : (o : own.OwnQueuesValue) → (own.closed r o).queues ≡ without its_own o.queues
  closed_is o = by (own.place_of r o.queues) ∙ gone_is o.queues
    where
      by : (at : Option ℕ) → (own.closed_at at o).queues ≡ at_gone at o.queues
      by None = refl
      by (Some at) = refl

  gone_other : (j : ℕ) (qs : List Own) → (j == r) ≡ false → own.queue_of j (without its_own qs) ≡ own.queue_of j qs
  gone_other j [] away = refl
  gone_other j (q ∷ qs) away = by (q.number == r) refl (gone_other j qs away)
    where
      by : (b : Bool) → (q.number == r) ≡ b → own.queue_of j (without its_own qs) ≡ own.queue_of j qs
          → own.queue_of j (cond b qs (q ∷ without its_own qs)) ≡ own.queue_of j (q ∷ qs)
      by true is rest =
          sym (first_queue j q qs
          ∙ ap (λ b. cond b (Some q.queue) (own.queue_of j qs))
          (subst (λ n. (n == j) ≡ false) (sym (same_number q.number r is)) (turn j r away)))
      by false is rest =
          first_queue j q (without its_own qs)
          ∙ (ap (λ o. cond (q.number == j) (Some q.queue) o) rest ∙ sym (first_queue j q qs))

  gone_none : (qs : List Own) → apart (numbers qs) ≡ true → own.queue_of r (without its_own qs) ≡ None
  gone_none [] is = refl
  gone_none (q ∷ qs) is = by (q.number == r) refl (gone_none qs two.1)
    where
      two : (not (is_in q.number (numbers qs)) ≡ true) × (apart (numbers qs) ≡ true)
      two = both_true (not (is_in q.number (numbers qs))) (apart (numbers qs)) is

      by : (b : Bool) → (q.number == r) ≡ b → own.queue_of r (without its_own qs) ≡ None
          → own.queue_of r (cond b qs (q ∷ without its_own qs)) ≡ None
      by true same rest =
          unnumbered r qs
          (subst (λ n. is_in n (numbers qs) ≡ false) (same_number q.number r same) (not_true (is_in q.number (numbers qs)) two.0))
      by false away rest =
          first_queue r q (without its_own qs) ∙ (ap (λ b. cond b (Some q.queue) (own.queue_of r (without its_own qs))) away ∙ rest)

  gone_fewer : (k : ℕ) (qs : List Own) → is_in k (numbers qs) ≡ false → is_in k (numbers (without its_own qs)) ≡ false
  gone_fewer k [] none = refl
  gone_fewer k (q ∷ qs) none = by (q.number == r) (gone_fewer k qs two.1)
    where
      two : ((k == q.number) ≡ false) × (is_in k (numbers qs) ≡ false)
      two = neither (k == q.number) (is_in k (numbers qs)) none

      by : (b : Bool) → is_in k (numbers (without its_own qs)) ≡ false → is_in k (numbers (cond b qs (q ∷ without its_own qs))) ≡ false
      by true rest = two.1
      by false rest = ap (λ b. cond b true (is_in k (numbers (without its_own qs)))) two.0 ∙ rest

  gone_apart : (qs : List Own) → apart (numbers qs) ≡ true → apart (numbers (without its_own qs)) ≡ true
  gone_apart [] is = refl
  gone_apart (q ∷ qs) is = by (q.number == r) (gone_apart qs two.1)
    where
      two : (not (is_in q.number (numbers qs)) ≡ true) × (apart (numbers qs) ≡ true)
      two = both_true (not (is_in q.number (numbers qs))) (apart (numbers qs)) is

      by : (b : Bool) → apart (numbers (without its_own qs)) ≡ true → apart (numbers (cond b qs (q ∷ without its_own qs))) ≡ true
      by true rest = two.1
      by false rest =
          and_true (not (is_in q.number (numbers (without its_own qs)))) (apart (numbers (without its_own qs)))
          (not_false (is_in q.number (numbers (without its_own qs)))
          (gone_fewer q.number qs (not_true (is_in q.number (numbers qs)) two.0)))
          rest

  pub closed_other : (j : ℕ) (o : own.OwnQueuesValue) → (j == r) ≡ false
      → own.queue_of j (own.closed r o).queues ≡ own.queue_of j o.queues
  closed_other j o away = ap (own.queue_of j) (closed_is o) ∙ gone_other j o.queues away

  pub closed_none : (o : own.OwnQueuesValue) → apart (numbers o.queues) ≡ true → own.queue_of r (own.closed r o).queues ≡ None
  closed_none o is = ap (own.queue_of r) (closed_is o) ∙ gone_none o.queues is

  pub closed_apart : (o : own.OwnQueuesValue) → apart (numbers o.queues) ≡ true → apart (numbers (own.closed r o).queues) ≡ true
  closed_apart o is = ap (λ qs. apart (numbers qs)) (closed_is o) ∙ gone_apart o.queues is

  pub closed_made : (o : own.OwnQueuesValue) → (own.closed r o).made ≡ o.made
  closed_made o = by (own.place_of r o.queues)
    where
      by : (at : Option ℕ) → (own.closed_at at o).made ≡ o.made
      by None = refl
      by (Some at) = refl
