-- The first of a run's own queue can go before or after more come behind it.
use Rattle.std.proofs.Common.{◌≡◌, ℕ, zero, suc, ◌+◌, ◌≤◌, ◌<◌, ◌==◌, cond, nat_lt, Bool, true, false, List, [], ◌∷◌, ◌++◌, length, drop}
use Rattle.std.proofs.Common.{Option, Some, None, refl, sym, ap, ◌∙◌, arith}
use Rattle.std.proofs.lemmas.Bool.Decides.{nat_tests}
use Rattle.solo.specs.declared.names.Task.{Task}
use Rattle.solo.specs.declared.own_queues.Own.{Own}
use Rattle.solo.specs.declared.steals.Source.TheVariants.{Own as OwnOf}
use Rattle.solo.specs.declared.solo.Solo.{Solo}
use Rattle.solo.specs.Cells.{choose}
use Rattle.solo.specs.OwnQueues as own
use Rattle.solo.specs.Steals as steals
use Rattle.solo_laws.proofs.Following.Cells.{same_number}
use Rattle.solo_laws.proofs.Following.Due.{clash, equal}
use Rattle.solo_laws.proofs.Following.Numbers.{turn}
use Rattle.solo_laws.proofs.Following.Owns.{changed_list, changed_now, changed_queue, first_queue, mapped}

-- one change after another of the same queue
twice : (f g : List Task → List Task) (r : ℕ) (qs : List Own)
    → changed_list f r (changed_list g r qs) ≡ changed_list (λ ts. f (g ts)) r qs
twice f g r [] = refl
twice f g r (q ∷ qs) = by (q.number == r) refl (twice f g r qs)
  where
    by : (b : Bool) → (q.number == r) ≡ b → changed_list f r (changed_list g r qs) ≡ changed_list (λ ts. f (g ts)) r qs
        → changed_list f r (cond b (record q { queue = g q.queue } ∷ qs) (q ∷ changed_list g r qs))
        ≡ cond b (record q { queue = f (g q.queue) } ∷ qs) (q ∷ changed_list (λ ts. f (g ts)) r qs)
    by true is rest =
        ap (λ b. cond b (record q { queue = f (g q.queue) } ∷ qs) (record q { queue = g q.queue } ∷ changed_list f r qs)) is
    by false is rest =
        ap (λ b. cond b (record q { queue = f q.queue } ∷ changed_list g r qs) (q ∷ changed_list f r (changed_list g r qs))) is
        ∙ ap (λ es. q ∷ es) rest

-- of two
apart_two : (f g : List Task → List Task) (r k : ℕ) → (r == k) ≡ false → (qs : List Own)
    → changed_list f r (changed_list g k qs) ≡ changed_list g k (changed_list f r qs)
apart_two f g r k away [] = refl
apart_two f g r k away (q ∷ qs) = by (q.number == r) (q.number == k) refl refl (apart_two f g r k away qs)
  where
    at : Bool → (List Task → List Task) → List Own → List Own
    at b f rest = cond b (record q { queue = f q.queue } ∷ qs) (q ∷ rest)

    by : (a b : Bool) → (q.number == r) ≡ a → (q.number == k) ≡ b
        → changed_list f r (changed_list g k qs) ≡ changed_list g k (changed_list f r qs)
        → changed_list f r (cond b (record q { queue = g q.queue } ∷ qs) (q ∷ changed_list g k qs))
        ≡ changed_list g k (cond a (record q { queue = f q.queue } ∷ qs) (q ∷ changed_list f r qs))
    by true true one two rest =
        absurd (clash away (equal r k (sym (same_number q.number r one) ∙ same_number q.number k two)))
    by true false one two rest =
        ap (λ b. cond b (record q { queue = f q.queue } ∷ changed_list g k qs) (q ∷ changed_list f r (changed_list g k qs))) one
        ∙ sym (ap (λ b. cond b (record q { queue = g (f q.queue) } ∷ qs) (record q { queue = f q.queue } ∷ changed_list g k qs)) two)
    by false true one two rest =
        ap (λ b. cond b (record q { queue = f (g q.queue) } ∷ qs) (record q { queue = g q.queue } ∷ changed_list f r qs)) one
        ∙ sym (ap (λ b. cond b (record q { queue = g q.queue } ∷ changed_list f r qs) (q ∷ changed_list g k (changed_list f r qs))) two)
    by false false one two rest =
        ap (λ b. cond b (record q { queue = f q.queue } ∷ changed_list g k qs) (q ∷ changed_list f r (changed_list g k qs))) one
        ∙ (ap (λ es. q ∷ es) rest
        ∙ sym (ap (λ b. cond b (record q { queue = g q.queue } ∷ changed_list f r qs) (q ∷ changed_list g k (changed_list f r qs))) two))

-- by two changes that do the same to what is there
alike : (f g : List Task → List Task) (r : ℕ) (ts : List Task) → f ts ≡ g ts → (qs : List Own) → own.queue_of r qs ≡ Some ts
    → changed_list f r qs ≡ changed_list g r qs
alike f g r ts same [] is = refl
alike f g r ts same (q ∷ qs) is = by (q.number == r) (sym (first_queue r q qs) ∙ is) (alike f g r ts same qs)
  where
    tasks_of : Option (List Task) → List Task
    tasks_of None = ts
    tasks_of (Some us) = us

    by : (b : Bool) → cond b (Some q.queue) (own.queue_of r qs) ≡ Some ts
        → (own.queue_of r qs ≡ Some ts → changed_list f r qs ≡ changed_list g r qs)
        → cond b (record q { queue = f q.queue } ∷ qs) (q ∷ changed_list f r qs)
        ≡ cond b (record q { queue = g q.queue } ∷ qs) (q ∷ changed_list g r qs)
    by true is rest =
        let here : q.queue ≡ ts = ap tasks_of is in
        ap (λ us. record q { queue = us } ∷ qs) (ap f here ∙ (same ∙ sym (ap g here)))
    by false is rest = ap (λ es. q ∷ es) (rest is)

none_changed : (r : ℕ) (qs : List Own) → changed_list (λ ts. ts) r qs ≡ qs
none_changed r [] = refl
none_changed r (q ∷ qs) = by (q.number == r) (none_changed r qs)
  where
    by : (b : Bool) → changed_list (λ ts. ts) r qs ≡ qs → cond b (q ∷ qs) (q ∷ changed_list (λ ts. ts) r qs) ≡ q ∷ qs
    by true rest = refl
    by false rest = ap (λ es. q ∷ es) rest

-- one more behind others
behind : (x t : Task) (ts : List Task) → nat_lt (length (t ∷ ts)) 512 ≡ true
    → drop 1 (own.pushed x (t ∷ ts)) ≡ own.pushed x (drop 1 (t ∷ ts))
behind x t ts place =
    ap (λ b. drop 1 (choose b ((t ∷ ts) ++ x ∷ []) (t ∷ ts))) place
    ∙ sym (ap (λ b. choose b (ts ++ x ∷ []) ts) (shorter (length ts) place))
  where
    shorter : (n : ℕ) → nat_lt (suc n) 512 ≡ true → nat_lt n 512 ≡ true
    shorter n is = grind (arith, nat_tests)

module _ {F T X : Type 0} (r k : ℕ) (away : (r == k) ≡ false) where
  abbrev with_own : own.OwnQueuesValue → Solo F T X → Solo F T X
  with_own o s = record s { runs = o }

  abbrev queue_is : List Task → Solo F T X → Type 0
  queue_is ts s = own.queue_of r s.runs.queues ≡ Some ts

  -- changes of own queues, one after the other, as lists of queues
  abbrev lists : (List Own → List Own) → Solo F T X → Solo F T X
  lists f s = with_own (record s.runs { queues = f s.runs.queues }) s

  change_is : (f : List Task → List Task) (n : ℕ) (s : Solo F T X)
      → with_own (own.changed f n s.runs) s ≡ lists (changed_list f n) s
  change_is f n s = ap (λ o. with_own o s) (changed_now f n s.runs)

  -- the first of the run's own goes, and one comes from another
  goes_and_comes : (x t : Task) (ts : List Task) (s : Solo F T X) → queue_is (t ∷ ts) s → nat_lt (length (t ∷ ts)) 512 ≡ true
      → steals.own_popped r (steals.kept r x (steals.without_first (OwnOf k) s))
      ≡ steals.kept r x (steals.without_first (OwnOf k) (steals.own_popped r s))
  goes_and_comes x t ts s is place =
      let f : List Task → List Task = λ ts. drop 1 ts in
      let g : List Task → List Task = own.pushed x in
      let qs = s.runs.queues in
      let y = steals.without_first (OwnOf k) s in
      let left : steals.own_popped r (steals.kept r x y) ≡ lists (λ qs. changed_list f r (changed_list g r (changed_list f k qs))) s =
      change_is f r (steals.kept r x y)
      ∙ (ap (lists (changed_list f r)) (change_is g r y)
      ∙ ap (λ z. lists (changed_list f r) (lists (changed_list g r) z)) (change_is f k s)) in
      let z = steals.own_popped r s in
      let right : steals.kept r x (steals.without_first (OwnOf k) z)
      ≡ lists (λ qs. changed_list g r (changed_list f k (changed_list f r qs))) s =
      change_is g r (steals.without_first (OwnOf k) z)
      ∙ (ap (lists (changed_list g r)) (change_is f k z)
      ∙ ap (λ z. lists (changed_list g r) (lists (changed_list f k) z)) (change_is f r s)) in
      let there : own.queue_of r (changed_list f k qs) ≡ Some (t ∷ ts) =
      sym (ap (λ (o : own.OwnQueuesValue). own.queue_of r o.queues) (changed_now f k s.runs))
      ∙ (changed_queue f k r s.runs ∙ (ap (λ b. cond b (mapped f (own.queue_of r qs)) (own.queue_of r qs)) away ∙ is)) in
      let same : changed_list f r (changed_list g r (changed_list f k qs)) ≡ changed_list g r (changed_list f k (changed_list f r qs)) =
      twice f g r (changed_list f k qs)
      ∙ (alike (λ ts. f (g ts)) (λ ts. g (f ts)) r (t ∷ ts) (behind x t ts place) (changed_list f k qs) there
      ∙ (sym (twice g f r (changed_list f k qs)) ∙ ap (changed_list g r) (apart_two f f r k away qs))) in
      left ∙ (ap (λ qs. with_own (record s.runs { queues = qs }) s) same ∙ sym right)

  -- so many times
  pub goes_first : (m : ℕ) (t : Task) (ts : List Task) (s : Solo F T X) → queue_is (t ∷ ts) s → m + length (t ∷ ts) ≤ 512
      → (steals.own_popped r (steals.moved m (OwnOf k) r s) ≡ steals.moved m (OwnOf k) r (steals.own_popped r s))
      × (own.first_of r (steals.moved m (OwnOf k) r s).runs ≡ Some t)
  goes_first zero t ts s is room = (refl, ap own.first_in is)
  goes_first (suc m) t ts s is_queue room =
      let same_first : steals.first_of (OwnOf k) (steals.own_popped r s) ≡ steals.first_of (OwnOf k) s =
      ap own.first_in
      (changed_queue (λ ts. drop 1 ts) r k s.runs
      ∙ ap (λ b. cond b (mapped (λ ts. drop 1 ts) (own.queue_of k s.runs.queues)) (own.queue_of k s.runs.queues)) (turn r k away)) in
      by (steals.first_of (OwnOf k) s) same_first
      (λ x. goes_first m t (ts ++ x ∷ []) (steals.kept r x (steals.without_first (OwnOf k) s)) (one_more x) (still x))
    where
      place : nat_lt (length (t ∷ ts)) 512 ≡ true
      place = below (length (t ∷ ts)) 512 (omega (arith, room))
        where
          below : (a b : ℕ) → a < b → nat_lt a b ≡ true
          below a b is = grind (arith, nat_tests)

      there : queue_is (t ∷ ts) (steals.without_first (OwnOf k) s)
      there =
          changed_queue (λ ts. drop 1 ts) k r s.runs
          ∙ (ap (λ b. cond b (mapped (λ ts. drop 1 ts) (own.queue_of r s.runs.queues)) (own.queue_of r s.runs.queues)) away ∙ is_queue)

      itself : (n : ℕ) → (n == n) ≡ true
      itself n = grind (arith, nat_tests)

      one_more : (x : Task) → queue_is (t ∷ (ts ++ x ∷ [])) (steals.kept r x (steals.without_first (OwnOf k) s))
      one_more x =
          changed_queue (own.pushed x) r r (steals.without_first (OwnOf k) s).runs
          ∙ (ap (λ b. cond b (mapped (own.pushed x) (own.queue_of r (steals.without_first (OwnOf k) s).runs.queues))
          (own.queue_of r (steals.without_first (OwnOf k) s).runs.queues)) (itself r)
          ∙ (ap (mapped (own.pushed x)) there ∙ ap (λ b. Some (choose b ((t ∷ ts) ++ x ∷ []) (t ∷ ts))) place))

      longer : (us : List Task) (x : Task) → length (us ++ x ∷ []) ≡ suc (length us)
      longer [] x = refl
      longer (u ∷ us) x = ap suc (longer us x)

      still : (x : Task) → m + length (t ∷ (ts ++ x ∷ [])) ≤ 512
      still x = let same = longer ts x in omega (arith, room, same)

      more_of : Solo F T X → Task → Solo F T X
      more_of s x = steals.moved m (OwnOf k) r (steals.kept r x (steals.without_first (OwnOf k) s))

      none_both : steals.own_popped r (steals.without_first (OwnOf k) s) ≡ steals.without_first (OwnOf k) (steals.own_popped r s)
      none_both =
          let f : List Task → List Task = λ ts. drop 1 ts in
          change_is f r (steals.without_first (OwnOf k) s)
          ∙ (ap (lists (changed_list f r)) (change_is f k s)
          ∙ (ap (λ qs. with_own (record s.runs { queues = qs }) s) (apart_two f f r k away s.runs.queues)
          ∙ sym (change_is f k (steals.own_popped r s) ∙ ap (lists (changed_list f k)) (change_is f r s))))

      by : (o : Option Task) → steals.first_of (OwnOf k) (steals.own_popped r s) ≡ o
          → ((x : Task) → (steals.own_popped r (more_of s x)
          ≡ steals.moved m (OwnOf k) r (steals.own_popped r (steals.kept r x (steals.without_first (OwnOf k) s))))
          × (own.first_of r (more_of s x).runs ≡ Some t))
          → (steals.own_popped r (steals.moved_on o (steals.without_first (OwnOf k) s) (more_of s))
          ≡ steals.moved (suc m) (OwnOf k) r (steals.own_popped r s))
          × (own.first_of r (steals.moved_on o (steals.without_first (OwnOf k) s) (more_of s)).runs ≡ Some t)
      by None is more = (
        none_both
            ∙ sym
            (ap (λ o. steals.moved_on o (steals.without_first (OwnOf k) (steals.own_popped r s)) (more_of (steals.own_popped r s))) is),
        ap own.first_in there,
      )
      by (Some x) is more = (
        (more x).0
            ∙ (ap (λ z. steals.moved m (OwnOf k) r z) (goes_and_comes x t ts s is_queue place)
            ∙ sym (ap (λ o. steals.moved_on o (steals.without_first (OwnOf k) (steals.own_popped r s)) (more_of (steals.own_popped r s)))
            is)),
        (more x).1,
      )

  -- the first that comes into an empty queue goes again
  pub comes_and_goes : (x : Task) (s : Solo F T X) → queue_is [] s → steals.own_popped r (steals.kept r x s) ≡ s
  comes_and_goes x s is =
      let f : List Task → List Task = λ ts. drop 1 ts in
      let g : List Task → List Task = own.pushed x in
      let qs = s.runs.queues in
      change_is f r (steals.kept r x s)
      ∙ (ap (lists (changed_list f r)) (change_is g r s)
      ∙ ap (λ qs. with_own (record s.runs { queues = qs }) s)
      (twice f g r qs ∙ (alike (λ ts. f (g ts)) (λ ts. ts) r [] refl qs is ∙ none_changed r qs)))
