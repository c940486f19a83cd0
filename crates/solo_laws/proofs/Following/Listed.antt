-- Others look at each own queue in which there is a task, and at that of each run that is polled, and each run that is polled or goes has
-- its own queue still; so it is once a run is made, polled or gone, and once an own queue has changed.
use Rattle.std.proofs.Common.{◌≡◌, ℕ, zero, suc, ◌+◌, ◌-◌, ◌<◌, ◌≤◌, ◌==◌, nat_lt, cond, not, Bool, true, false, List, [], ◌∷◌}
use Rattle.std.proofs.Common.{length, drop, remove, Option, Some, None, is_some, slice_get, slice_set, slice_index_or, refl, sym, ap, subst}
use Rattle.std.proofs.Common.{◌∙◌}
use Rattle.std.proofs.Common.{arith}
use Rattle.std.specs.List.{swap}
use Rattle.std.proofs.lemmas.Bool.Decides.{nat_tests}
use Rattle.std.proofs.lemmas.List.Edits.{swap_is}
use Rattle.std.proofs.lemmas.List.Quantifiers.{position-Some}
use Rattle.solo.specs.declared.names.Task.{Task}
use Rattle.solo.specs.declared.own_queues.Own.{Own}
use Rattle.solo.specs.Cells.{choose}
use Rattle.solo.specs.OwnQueues as own
use Rattle.plain_scheduler.specs.Lists.{or}
use Rattle.solo_laws.specs.Road.{apart, is_in}
use Rattle.solo_laws.specs.RunResting.{EachListed}
use Rattle.solo_laws.proofs.Following.Adding.{get_last}
use Rattle.solo_laws.proofs.Following.Cells.{same_number}
use Rattle.solo_laws.proofs.Following.Due.{both_true, clash, not_true}
use Rattle.solo_laws.proofs.Following.Listing.{in_of, listed_made, listed_queue, there}
use Rattle.solo_laws.proofs.Following.ListedWithin.{Within, changed_within, closed_within, listed_within, opened_within}
use Rattle.solo_laws.proofs.Following.Lists.{got_below, set_other, set_same}
use Rattle.solo_laws.proofs.Following.Owns.{changed_list, changed_now, changed_queue, closed_made, closed_other, last_queue, mapped}
use Rattle.solo_laws.proofs.Following.Owns.{numbers}

less : (a b : ℕ) → nat_lt a b ≡ true → a < b
less a b is = grind (arith, nat_tests)

past : (a b : ℕ) → nat_lt a b ≡ false → b ≤ a
past a b is = grind (arith, nat_tests)

not_less : (a b : ℕ) → b ≤ a → nat_lt a b ≡ false
not_less a b is = grind (arith, nat_tests)

unequal : (a b : ℕ) → (a ≡ b → ⊥) → (a == b) ≡ false
unequal a b other = by (a == b) refl
  where
    by : (c : Bool) → (a == b) ≡ c → (a == b) ≡ false
    by true is = absurd (other (same_number a b is))
    by false is = is

off : (a b : Bool) → (a ≡ true → b ≡ true) → b ≡ false → a ≡ false
off true b goes none = absurd (clash none (goes refl))
off false b goes none = refl

-- what stands in a list of which one was taken out
removed_from : (qs : List Own) (m at : ℕ) (q : Own) → slice_get (remove qs m) at ≡ Some q
    → (k : ℕ) × (slice_get qs k ≡ Some q) × (at ≤ k) × (m ≤ at → suc at ≤ k)
removed_from [] zero at q is = absurd cc
removed_from [] (suc m) at q is = absurd cc
removed_from (x ∷ qs) zero at q is = (suc at, is, omega arith, λ after. omega arith)
removed_from (x ∷ qs) (suc m) zero q is = (0, is, omega arith, λ after. absurd (omega (arith, after)))
removed_from (x ∷ qs) (suc m) (suc at) q is =
    let it = removed_from qs m at q is in
    let far = it.2 in
    let further = it.3 in
    (suc it.0, it.1, omega (arith, far), λ after. (let more = further (omega (arith, after)) in omega (arith, more)))

-- one of each number
sole : (r : ℕ) (qs : List Own) (i j : ℕ) (a b : Own) → apart (numbers qs) ≡ true → slice_get qs i ≡ Some a → slice_get qs j ≡ Some b
    → a.number ≡ r → b.number ≡ r → i ≡ j
sole r [] i j a b is at_i at_j one two = absurd cc
sole r (q ∷ qs) zero zero a b is at_i at_j one two = refl
sole r (q ∷ qs) zero (suc j) a b is at_i at_j one two =
    absurd (clash (subst (λ n. is_in n (numbers qs) ≡ false)
    (ap (λ (o : Option Own). own.number_in o) at_i ∙ (one ∙ sym two))
    (not_true (is_in q.number (numbers qs)) (both_true (not (is_in q.number (numbers qs))) (apart (numbers qs)) is).0))
    (in_of qs j b at_j))
sole r (q ∷ qs) (suc i) zero a b is at_i at_j one two =
    absurd (clash (subst (λ n. is_in n (numbers qs) ≡ false)
    (ap (λ (o : Option Own). own.number_in o) at_j ∙ (two ∙ sym one))
    (not_true (is_in q.number (numbers qs)) (both_true (not (is_in q.number (numbers qs))) (apart (numbers qs)) is).0))
    (in_of qs i a at_i))
sole r (q ∷ qs) (suc i) (suc j) a b is at_i at_j one two =
    ap suc (sole r qs i j a b (both_true (not (is_in q.number (numbers qs))) (apart (numbers qs)) is).1 at_i at_j one two)

-- where the queue of a run is
pub its_place : (r m : ℕ) (qs : List Own) → own.place_of r qs ≡ Some m → (a : Own) × (slice_get qs m ≡ Some a) × (a.number ≡ r)
its_place r m [] is = absurd cc
its_place r m (d ∷ qs) is =
    let it = position-Some (λ (q : Own). q.number == r) (d ∷ qs) m d is in
    (slice_index_or (d ∷ qs) m d, there (d ∷ qs) m d it.0, same_number (slice_index_or (d ∷ qs) m d).number r it.1)

-- a run has its own queue
abbrev pub has_own : ℕ → own.OwnQueuesValue → Bool
has_own r o = is_some (own.queue_of r o.queues)

-- an own queue is empty, and its run isn't polled
abbrev Fine : (ℕ → Bool) → Own → Type 0
Fine polled q = (q.queue ≡ []) × (polled q.number ≡ false)

module _ (polled busy : ℕ → Bool) where
  -- no more are looked at than there are; one at which nobody looks is empty, and its run isn't polled; each run that is polled was made,
  -- and each that a call is on has its own
  pub record Listed (o : own.OwnQueuesValue) : Type 0 where
    pub within : Within o
    pub late : (at : ℕ) (q : Own) → slice_get o.queues at ≡ Some q → nat_lt at o.listed ≡ false → Fine polled q
    pub made : (r : ℕ) → polled r ≡ true → r < o.made
    pub held : (r : ℕ) → busy r ≡ true → has_own r o ≡ true

  pub each_listed : (o : own.OwnQueuesValue) → Listed o → EachListed o
  each_listed o l = λ at q here late. (l.late at q here late).0

  abbrev Still : List Task → Own → Type 0
  Still tasks q = Fine polled (record q { queue = tasks })

  -- an own queue is changed, and stays empty if nobody looks at it
  module _ (f : List Task → List Task) (r : ℕ) (still : (q : Own) → q.number ≡ r → Fine polled q → Still (f q.queue) q) where
    changed_fine : (qs : List Own) (at : ℕ) (q : Own) → ((old : Own) → slice_get qs at ≡ Some old → Fine polled old)
        → slice_get (changed_list f r qs) at ≡ Some q → Fine polled q
    changed_fine [] at q all is = all q is
    changed_fine (x ∷ qs) at q all is =
        by (x.number == r) refl at all (λ at all is. changed_fine qs at q all is) is
      where
        by : (b : Bool) → (x.number == r) ≡ b → (at : ℕ) → ((old : Own) → slice_get (x ∷ qs) at ≡ Some old → Fine polled old)
            → ((at : ℕ) → ((old : Own) → slice_get qs at ≡ Some old → Fine polled old) → slice_get (changed_list f r qs) at ≡ Some q
            → Fine polled q)
            → slice_get (cond b (record x { queue = f x.queue } ∷ qs) (x ∷ changed_list f r qs)) at ≡ Some q → Fine polled q
        by true one zero all rest is =
            subst (Fine polled) (ap (λ (o : Option Own). or o (λ q. q) x) is) (still x (same_number x.number r one) (all x refl))
        by true one (suc at) all rest is = all q is
        by false other zero all rest is = all q is
        by false other (suc at) all rest is = rest at (λ old here. all old here) is

    changed_listed : (o : own.OwnQueuesValue) → Listed o → Listed (own.changed f r o)
    changed_listed o l =
        subst Listed (sym (changed_now f r o))
        (record {
          within = subst Within (changed_now f r o) (changed_within f r o l.within);
          late = λ at q here late. changed_fine o.queues at q (λ old was. l.late at old was late) here;
          made = l.made;
          held = λ j is. ap (λ o. has_own j o) (sym (changed_now f r o)) ∙ changed_held j is;
        })
      where
        changed_held : (j : ℕ) → busy j ≡ true → has_own j (own.changed f r o) ≡ true
        changed_held j is = ap is_some (changed_queue f r j o) ∙ by (j == r) (own.queue_of j o.queues) (l.held j is)
          where
            by : (b : Bool) (q : Option (List Task)) → is_some q ≡ true → is_some (cond b (mapped f q) q) ≡ true
            by true None has = absurd cc
            by true (Some ts) has = refl
            by false q has = has

  pub popped_listed : (k : ℕ) (o : own.OwnQueuesValue) → Listed o → Listed (own.changed (drop 1) k o)
  popped_listed k o l = changed_listed (λ ts. drop 1 ts) k (λ q one fine. (ap (λ ts. drop 1 ts) fine.0, fine.1)) o l

  pub pushed_listed : (r : ℕ) → polled r ≡ true → (t : Task) (o : own.OwnQueuesValue) → Listed o → Listed (own.changed (own.pushed t) r o)
  pushed_listed r is t o l =
      changed_listed (own.pushed t) r (λ q one fine. absurd (clash fine.1 (ap polled one ∙ is))) o l

  -- one that comes is empty
  pub opened_listed : (o : own.OwnQueuesValue) → own.one_more o.made ≡ o.made + 1 → Listed o → Listed (own.opened o)
  opened_listed o more l =
      record {
        within = opened_within o l.within;
        late = λ at q here late. by at q late (at == length o.queues) (sym (get_last o.queues new at) ∙ here);
        made = later;
        held = λ r is.
            ap is_some (last_queue r new o.queues)
            ∙ still (own.queue_of r o.queues) (cond (o.made == r) (Some []) None) (l.held r is);
      }
    where
      still : (q other : Option (List Task)) → is_some q ≡ true → is_some (or q (λ ts. Some ts) other) ≡ true
      still None other has = absurd cc
      still (Some ts) other has = refl

      new : Own
      new = record { number = o.made; queue = [] }

      fresh : (b : Bool) → polled o.made ≡ b → polled o.made ≡ false
      fresh true is = let below = l.made o.made is in absurd (omega (arith, below))
      fresh false is = is

      by : (at : ℕ) (q : Own) → nat_lt at o.listed ≡ false → (b : Bool) → cond b (Some new) (slice_get o.queues at) ≡ Some q → Fine polled q
      by at q late true is = subst (Fine polled) (ap (λ (o : Option Own). or o (λ q. q) new) is) (refl, fresh (polled o.made) refl)
      by at q late false is = l.late at q is late

      later : (r : ℕ) → polled r ≡ true → r < own.one_more o.made
      later r is = let below = l.made r is in omega (arith, below, more)

  -- one goes
  closed_late : (r : ℕ) (o : own.OwnQueuesValue) → Listed o → (at : ℕ) (q : Own) → slice_get (own.closed r o).queues at ≡ Some q
      → nat_lt at (own.closed r o).listed ≡ false → Fine polled q
  closed_late r o l = by (own.place_of r o.queues)
    where
      by : (m : Option ℕ) (at : ℕ) (q : Own) → slice_get (own.closed_at m o).queues at ≡ Some q
          → nat_lt at (own.closed_at m o).listed ≡ false → Fine polled q
      by None at q here late = l.late at q here late
      by (Some m) at q here late =
          let it = removed_from o.queues m at q here in
          l.late it.0 q it.1 (one (nat_lt m o.listed) refl late it.0 it.2 it.3)
        where
          one : (b : Bool) → nat_lt m o.listed ≡ b → nat_lt at (choose b (o.listed - 1) o.listed) ≡ false → (k : ℕ) → at ≤ k
              → (m ≤ at → suc at ≤ k) → nat_lt k o.listed ≡ false
          one true early late k far further =
              let below = less m o.listed early in
              let behind = past at (o.listed - 1) late in
              let more = further (omega (arith, below, behind)) in
              not_less k o.listed (omega (arith, below, behind, more))
          one false stays late k far further =
              let behind = past at o.listed late in not_less k o.listed (omega (arith, behind, far))

-- on which no call is from then on
pub closed_listed : (polled busy then : ℕ → Bool) (r : ℕ) (o : own.OwnQueuesValue)
    → ((k : ℕ) → then k ≡ true → (busy k ≡ true) × ((k == r) ≡ false)) → Listed polled busy o → Listed polled then (own.closed r o)
closed_listed polled busy then r o others l = record {
  within = closed_within r o l.within;
  late = closed_late polled busy r o l;
  made = λ k is. subst (λ n. k < n) (sym (closed_made r o)) (l.made k is);
  held = λ k is. ap is_some (closed_other r k o (others k is).1) ∙ l.held k (others k is).0;
}

-- calls are on fewer
pub fewer_listed : (polled now busy then : ℕ → Bool) (o : own.OwnQueuesValue) → ((r : ℕ) → now r ≡ true → polled r ≡ true)
    → ((r : ℕ) → then r ≡ true → busy r ≡ true) → Listed polled busy o → Listed now then o
fewer_listed polled now busy then o less fewer l = record {
  within = l.within;
  late = λ at q here late.
      let it = l.late at q here late in (it.0, off (now q.number) (polled q.number) (less q.number) it.1);
  made = λ r is. l.made r (less r is);
  held = λ r is. l.held r (fewer r is);
}

-- one more goes
pub going_listed : (polled busy : ℕ → Bool) (r : ℕ) (o : own.OwnQueuesValue) → has_own r o ≡ true → Listed polled busy o
    → Listed polled (λ k. cond (k == r) true (busy k)) o
going_listed polled busy r o has l = record { within = l.within; late = l.late; made = l.made; held = λ k is. by k (k == r) refl is }
  where
    by : (k : ℕ) (b : Bool) → (k == r) ≡ b → cond b true (busy k) ≡ true → has_own k o ≡ true
    by k true one is = subst (λ n. has_own n o ≡ true) (sym (same_number k r one)) has
    by k false other is = l.held k is

-- others look at that of one that is polled from now on
module _ (polled busy : ℕ → Bool) (r : ℕ) (o : own.OwnQueuesValue) (apart_so : apart (numbers o.queues) ≡ true) (below : r < o.made)
    (l : Listed polled busy o) where
  abbrev more : ℕ → Bool
  more k = cond (k == r) true (polled k)

  made_so : (n : ℕ) → n ≡ o.made → (k : ℕ) → more k ≡ true → k < n
  made_so n same k is = subst (λ n. k < n) (sym same) (by (k == r) refl is)
    where
      by : (b : Bool) → (k == r) ≡ b → cond b true (polled k) ≡ true → k < o.made
      by true one is = subst (λ n. n < o.made) (sym (same_number k r one)) below
      by false other is = l.made k is

  -- of another run
  another : (at : ℕ) (q : Own) → slice_get o.queues at ≡ Some q → nat_lt at o.listed ≡ false → (q.number ≡ r → ⊥) → Fine more q
  another at q here late other =
      let fine = l.late at q here late in
      (fine.0, ap (λ b. cond b true (polled q.number)) (unequal q.number r other) ∙ fine.1)

  module _ (m : ℕ) (a : Own) (mine : slice_get o.queues m ≡ Some a) (numbered : a.number ≡ r) where
    -- at another place
    elsewhere : (at : ℕ) (q : Own) → slice_get o.queues at ≡ Some q → nat_lt at o.listed ≡ false → (at ≡ m → ⊥) → Fine more q
    elsewhere at q here late away =
        another at q here late (λ same. away (sole r o.queues at m q a apart_so here mine same numbered))

    swapped_fine : nat_lt m o.listed ≡ false → (at : ℕ) (q : Own) → slice_get (swap o.queues o.listed m) at ≡ Some q
        → nat_lt at (o.listed + 1) ≡ false → Fine more q
    swapped_fine late at q here behind = by (m == at) refl
      where
        first : List Own
        first = slice_set o.queues o.listed (slice_index_or o.queues m a)

        here_so : slice_get (slice_set first m (slice_index_or o.queues o.listed a)) at ≡ Some q
        here_so =
            ap (λ qs. slice_get qs at)
            (swap_is o.queues o.listed m a
            (let before = past m o.listed late in let within = got_below o.queues m a mine in omega (arith, before, within))
            (got_below o.queues m a mine)) ∙ here

        after : o.listed + 1 ≤ at
        after = past at (o.listed + 1) behind

        unlisted : nat_lt o.listed o.listed ≡ false
        unlisted = not_less o.listed o.listed (omega arith)

        by : (b : Bool) → (m == at) ≡ b → Fine more q
        by true one =
            let same : m ≡ at = same_number m at one in
            let apart_places : (o.listed == m) ≡ false = unequal o.listed m (λ is. omega (arith, is, same, after)) in
            let it : Own = slice_index_or o.queues o.listed a in
            let there_now : slice_get (slice_set first m it) m ≡ Some it =
            set_same first m it a (set_other o.queues o.listed m (slice_index_or o.queues m a) apart_places ∙ mine) in
            let q_is : it ≡ q =
            ap (λ (x : Option Own). or x (λ q. q) it)
            (sym there_now ∙ (ap (λ n. slice_get (slice_set first m it) n) same ∙ here_so)) in
            subst (Fine more) q_is
            (elsewhere o.listed it
            (there o.queues o.listed a
            (let before = past m o.listed late in let within = got_below o.queues m a mine in omega (arith, before, within)))
            unlisted (λ is. omega (arith, is, same, after)))
        by false other =
            let apart_places : (o.listed == at) ≡ false = unequal o.listed at (λ is. omega (arith, is, after)) in
            let was : slice_get o.queues at ≡ Some q =
            sym (set_other first m at (slice_index_or o.queues o.listed a) other
            ∙ set_other o.queues o.listed at (slice_index_or o.queues m a) apart_places) ∙ here_so in
            elsewhere at q was (not_less at o.listed (omega (arith, after)))
            (λ same. clash other (subst (λ n. (m == n) ≡ true) (sym same) (equal_so m)))
          where
            equal_so : (n : ℕ) → (n == n) ≡ true
            equal_so n = grind (arith, nat_tests)

    listed_fine : (b : Bool) → nat_lt m o.listed ≡ b → (at : ℕ) (q : Own)
        → slice_get (choose b o (record o { queues = swap o.queues o.listed m; listed = o.listed + 1 })).queues at ≡ Some q
        → nat_lt at (choose b o (record o { queues = swap o.queues o.listed m; listed = o.listed + 1 })).listed ≡ false → Fine more q
    listed_fine true early at q here late =
        elsewhere at q here late (λ same. clash late (subst (λ n. nat_lt n o.listed ≡ true) (sym same) early))
    listed_fine false late at q here behind = swapped_fine late at q here behind

  pub listed_listed : (ts : List Task) → own.queue_of r o.queues ≡ Some ts → Listed more (λ k. cond (k == r) true (busy k)) (own.listed r o)
  listed_listed ts has =
      record {
        within = listed_within r o l.within;
        late = by (own.place_of r o.queues) refl has;
        made = made_so (own.listed r o).made (listed_made r o apart_so);
        held = λ k is. ap is_some (listed_queue r o apart_so k) ∙ (going_listed polled busy r o (ap is_some has) l).held k is;
      }
    where
      by : (m : Option ℕ) → own.place_of r o.queues ≡ m → own.queue_at m o.queues ≡ Some ts → (at : ℕ) (q : Own)
          → slice_get (own.listed_at m o).queues at ≡ Some q → nat_lt at (own.listed_at m o).listed ≡ false → Fine more q
      by None is has at q here late = absurd cc
      by (Some m) is has at q here late =
          let it = its_place r m o.queues is in listed_fine m it.0 it.1 it.2 (nat_lt m o.listed) refl at q here late
