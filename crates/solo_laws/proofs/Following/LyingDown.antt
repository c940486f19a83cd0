-- One that finds nothing falls asleep, as it lies down: anew, again, or with another waker.
use Rattle.std.proofs.Common.{◌≡◌, ℕ, zero, suc, ◌+◌, ◌-◌, ◌≤◌, ◌==◌, ◌||◌, nat_lt, cond, Bool, true, false, List, []}
use Rattle.std.proofs.Common.{◌∷◌}
use Rattle.std.proofs.Common.{◌++◌, length, map, find, take, Option, Some, None, unwrap_or, slice_get, slice_set, append_assoc}
use Rattle.std.proofs.Common.{append-nil}
use Rattle.std.proofs.Common.{refl, sym, ap, subst, ◌∙◌, arith}
use Rattle.executor_parts.specs.Sleepers.{Sleepers, flag_of, listed, next_number, position_of, put_to_sleep}
use Rattle.solo.specs.declared.names.Task.{Task}
use Rattle.solo.specs.declared.names.SoloWaker.{SoloWaker}
use Rattle.solo.specs.declared.names.SoloWaker.TheVariants.{Task as OfTask}
use Rattle.solo.specs.declared.solo.Solo.{Solo}
use Rattle.plain_scheduler.specs.State.{Due, Who, Lying, Plain}
use Rattle.plain_scheduler.specs.Lists.{any, or, without}
use Rattle.plain_scheduler.specs.Moves.{is_who, lies}
use Rattle.solo_laws.specs.Numbered.{IsNumbered, entry_if, entries, numbers}
use Rattle.solo_laws.specs.Ticking.{numbered_by}
use Rattle.solo_laws.specs.Road.{FollowsBut, IsAsleep, IsNamed, is_in, apart, wakers_in}
use Rattle.solo_laws.proofs.Following.Cells.{same_number}
use Rattle.solo_laws.proofs.Following.Lists.{map_append, length_map, length_set}
use Rattle.solo_laws.proofs.Following.GettingUp as rising
use Rattle.solo_laws.proofs.Following.GettingUp.{wakers_append, long_last}
use Rattle.solo_laws.proofs.Following.Numbers.{At, awake, itself, is_in_more, apart_more, apart_fewer, flag, waking, waits, called}

abbrev pub lain : {A : Type 0} → Who → A → Lying A
lain who w = record { who = who; waker = Some w }

module _ {B : Type 0} where
  -- what is found in a list is one, or one of the others
  pub get_among : {P : Type 0} (xs ys : List B) (x y : B) (at : ℕ) → slice_get (xs ++ x ∷ ys) at ≡ Some y → (x ≡ y → P)
      → ((i : ℕ) → slice_get (xs ++ ys) i ≡ Some y → P) → P
  get_among [] ys x y zero is here there = here (ap (λ o. or o (λ z. z) x) is)
  get_among [] ys x y (suc at) is here there = there at is
  get_among (z ∷ zs) ys x y zero is here there = there 0 is
  get_among (z ∷ zs) ys x y (suc at) is here there = get_among zs ys x y at is here (λ i has. there (suc i) has)

  take_none : (n : ℕ) → ◌≡◌ {A = List B} (take n []) []
  take_none zero = refl
  take_none (suc n) = refl

  -- the last of a list, and those before it
  abbrev Last : List B → Type 0
  Last xs = (x : B) × (slice_get xs (length xs - 1) ≡ Some x) × (xs ≡ take (length xs - 1) xs ++ x ∷ [])

  split_last : (x : B) (xs : List B)
      → (y : B) × (slice_get (x ∷ xs) (length xs) ≡ Some y) × (x ∷ xs ≡ take (length xs) (x ∷ xs) ++ y ∷ [])
  split_last x [] = (x, refl, refl)
  split_last x (z ∷ zs) = let it = split_last z zs in (it.0, it.1, ap (λ ys. x ∷ ys) it.2)

  last_of : (x : B) (xs : List B) → Last (x ∷ xs)
  last_of x xs =
      let it = split_last x xs in
      let same : suc (length xs) - 1 ≡ length xs = omega arith in (
        it.0,
        ap (slice_get (x ∷ xs)) same ∙ it.1,
        it.2 ∙ ap (λ n. take n (x ∷ xs) ++ it.0 ∷ []) (sym same),
      )

module _ {A : Type 0} where
  entries_append : (number : Who → ℕ) (ls ms : List (Lying A)) → entries number (ls ++ ms) ≡ entries number ls ++ entries number ms
  entries_append number [] ms = refl
  entries_append number (a ∷ ls) ms = by a.waker (entries_append number ls ms)
    where
      by : (o : Option A) → entries number (ls ++ ms) ≡ entries number ls ++ entries number ms
          → entry_if (number a.who) o (entries number (ls ++ ms)) ≡ entry_if (number a.who) o (entries number ls) ++ entries number ms
      by None rest = rest
      by (Some w) rest = ap (λ es. (number a.who, w) ∷ es) rest

  -- those that lie keep their numbers
  module _ (who : Who) (next : ℕ) (number : Who → ℕ) where
    entries_renumbered : (ls : List (Lying A)) → any (is_who who) (map (λ (l : Lying A). l.who) ls) ≡ false
        → entries (numbered_by who next number) ls ≡ entries number ls
    entries_renumbered [] none = refl
    entries_renumbered (m ∷ ms) none =
        let two = neither_of (is_who who m.who) (any (is_who who) (map (λ (l : Lying A). l.who) ms)) none in
        ap (λ b. entry_if (cond b next (number m.who)) m.waker (entries (numbered_by who next number) ms)) two.0
        ∙ ap (λ es. entry_if (number m.who) m.waker es) (entries_renumbered ms two.1)
      where
        neither_of : (a b : Bool) → cond a true b ≡ false → (a ≡ false) × (b ≡ false)
        neither_of true b is = absurd cc
        neither_of false b is = (refl, is)

    numbers_renumbered : (ls : List (Lying A)) → any (is_who who) (map (λ (l : Lying A). l.who) ls) ≡ false
        → numbers (numbered_by who next number) ls ≡ numbers number ls
    numbers_renumbered [] none = refl
    numbers_renumbered (m ∷ ms) none =
        let two = neither_of (is_who who m.who) (any (is_who who) (map (λ (l : Lying A). l.who) ms)) none in
        ap (λ b. cond b next (number m.who) ∷ numbers (numbered_by who next number) ms) two.0
        ∙ ap (λ ns. number m.who ∷ ns) (numbers_renumbered ms two.1)
      where
        neither_of : (a b : Bool) → cond a true b ≡ false → (a ≡ false) × (b ≡ false)
        neither_of true b is = absurd cc
        neither_of false b is = (refl, is)

  -- whose waker it is already
  pub awake_last : (who : Who) (w : A) (ls : List (Lying A)) → any (is_who who) (map (λ (l : Lying A). l.who) ls) ≡ false
      → map (awake who w) (ls ++ lain who w ∷ []) ≡ ls ++ lain who w ∷ []
  awake_last who w [] none = ap (λ b. cond b (lain who w) (lain who w) ∷ []) (itself who)
  awake_last who w (m ∷ ms) none = by (is_who who m.who) none (awake_last who w ms)
    where
      by : (b : Bool) → cond b true (any (is_who who) (map (λ (l : Lying A). l.who) ms)) ≡ false
          → (any (is_who who) (map (λ (l : Lying A). l.who) ms) ≡ false
          → map (awake who w) (ms ++ lain who w ∷ []) ≡ ms ++ lain who w ∷ [])
          → cond b (record m { waker = Some w }) m ∷ map (awake who w) (ms ++ lain who w ∷ []) ≡ m ∷ (ms ++ lain who w ∷ [])
      by true none rest = absurd cc
      by false none rest = ap (λ ls. m ∷ ls) (rest none)

  -- and is found
  pub lain_found : (who : Who) (w : A) (ls : List (Lying A)) → any (is_who who) (map (λ (l : Lying A). l.who) ls) ≡ false
      → find (lies who) (ls ++ lain who w ∷ []) ≡ Some (lain who w)
  lain_found who w [] none = ap (λ b. cond b (Some (lain who w)) None) (itself who)
  lain_found who w (m ∷ ms) none = by (is_who who m.who) none (lain_found who w ms)
    where
      by : (b : Bool) → cond b true (any (is_who who) (map (λ (l : Lying A). l.who) ms)) ≡ false
          → (any (is_who who) (map (λ (l : Lying A). l.who) ms) ≡ false
          → find (lies who) (ms ++ lain who w ∷ []) ≡ Some (lain who w))
          → cond b (Some m) (find (lies who) (ms ++ lain who w ∷ [])) ≡ Some (lain who w)
      by true none rest = absurd cc
      by false none rest = rest none

-- a number that was given back is given out, or else the one after all
fresh : (free : List ℕ) (count : ℕ) (ns : List ℕ) → apart (ns ++ free) ≡ true
    → ((m : ℕ) → is_in m (ns ++ free) ≡ true → m ≤ count + length free)
    → let next = unwrap_or (slice_get free (length free - 1)) (count + 1) in
    let rest = take (length free - 1) free in
    (apart (ns ++ rest) ≡ true) × (is_in next (ns ++ rest) ≡ false)
    × ((m : ℕ) → cond (m == next) true (is_in m (ns ++ rest)) ≡ true → m ≤ (count + 1) + length rest)
fresh [] count ns once few =
    subst
    (λ rest. (apart (ns ++ rest) ≡ true) × (is_in (count + 1) (ns ++ rest) ≡ false)
    × ((m : ℕ) → cond (m == count + 1) true (is_in m (ns ++ rest)) ≡ true → m ≤ (count + 1) + length rest))
    (sym (take_none {B = ℕ} (0 - 1)))
    (once, not_there (is_in (count + 1) (ns ++ [])) refl, λ m has. by (m == count + 1) m refl has)
  where
    not_there : (b : Bool) → is_in (count + 1) (ns ++ []) ≡ b → b ≡ false
    not_there false is = refl
    not_there true is = let it = few (count + 1) is in absurd (omega (arith, it))

    by : (b : Bool) (m : ℕ) → (m == count + 1) ≡ b → cond b true (is_in m (ns ++ [])) ≡ true → m ≤ (count + 1) + 0
    by true m same has = let it = same_number m (count + 1) same in omega (arith, it)
    by false m same has = let it = few m has in omega (arith, it)
fresh (x ∷ xs) count ns once few =
    let last = last_of x xs in
    let free : List ℕ = x ∷ xs in
    let rest : List ℕ = take (length free - 1) free in
    let y : ℕ = last.0 in
    let next_is : unwrap_or (slice_get free (length free - 1)) (count + 1) ≡ y = ap (λ o. unwrap_or o (count + 1)) last.1 in
    let all : ns ++ free ≡ (ns ++ rest) ++ y ∷ [] = ap (λ ys. ns ++ ys) last.2 ∙ sym (append_assoc ns rest (y ∷ [])) in
    let two = apart_fewer (ns ++ rest) [] y (sym (ap apart all) ∙ once) in
    let nil : (ns ++ rest) ++ [] ≡ ns ++ rest = append-nil (ns ++ rest) in
    let long : length free ≡ length rest + 1 = ap (λ (ys : List ℕ). length ys) last.2 ∙ long_last rest y in
    subst
    (λ k. (apart (ns ++ rest) ≡ true) × (is_in k (ns ++ rest) ≡ false)
    × ((m : ℕ) → cond (m == k) true (is_in m (ns ++ rest)) ≡ true → m ≤ (count + 1) + length rest))
    (sym next_is) (
      ap apart (sym nil) ∙ two.0,
      ap (is_in y) (sym nil) ∙ two.1,
      λ m has.
          let it =
          few m
          (ap (is_in m) all
          ∙ (is_in_more m (ns ++ rest) [] y ∙ (ap (λ zs. cond (m == y) true (is_in m zs)) nil ∙ has))) in
          more_by_one m count (length free) (length rest) it long,
    )
  where
    more_by_one : (m count free rest : ℕ) → m ≤ count + free → free ≡ rest + 1 → m ≤ (count + 1) + rest
    more_by_one m count free rest is long = omega (arith, is, long)

same_count : (count lying left now : ℕ) → count ≡ lying → suc left ≡ lying → now ≡ left + 1 → count ≡ now
same_count count lying left now is long more = omega (arith, is, long, more)

module _ {B C : Type 0} (f : B → C) where
  map_set : (xs : List B) (i : ℕ) (x : B) → map f (slice_set xs i x) ≡ slice_set (map f xs) i (f x)
  map_set [] i x = refl
  map_set (y ∷ ys) zero x = refl
  map_set (y ∷ ys) (suc i) x = ap (λ zs. f y ∷ zs) (map_set ys i x)

get_set : {B P : Type 0} (xs : List B) (at : ℕ) (x : B) (i : ℕ) (y : B) → slice_get (slice_set xs at x) i ≡ Some y → (x ≡ y → P)
    → (slice_get xs i ≡ Some y → P) → P
get_set [] at x i y is here there = there is
get_set (z ∷ zs) zero x zero y is here there = here (ap (λ o. or o (λ v. v) x) is)
get_set (z ∷ zs) zero x (suc i) y is here there = there is
get_set (z ∷ zs) (suc at) x zero y is here there = there is
get_set (z ∷ zs) (suc at) x (suc i) y is here there = get_set zs at x i y is here there

same_numbers : {A : Type 0} (number : Who → ℕ) (who : Who) (w : A) (ls : List (Lying A))
    → numbers number (map (awake who w) ls) ≡ numbers number ls
same_numbers number who w [] = refl
same_numbers {A} number who w (m ∷ ms) =
    ap (λ v. number v ∷ numbers number (map (awake who w) ms)) (by (lies who m))
    ∙ ap (λ ns. number m.who ∷ ns) (same_numbers number who w ms)
  where
    by : (b : Bool) → (cond b (record m { waker = Some w }) m).who ≡ m.who
    by true = refl
    by false = refl

-- how both stand once it lies
pub record IsLain {X : Type 0} (name : ℕ → Task) (number : Who → ℕ) (many : ℕ) (sleepers : Sleepers (SoloWaker X)) (notified : Bool)
    (lying : List (Lying (SoloWaker X))) : Type 0 where
  pub asleep : IsAsleep name many sleepers notified lying
  pub numbered : IsNumbered number sleepers lying

module _ {F T X : Type 0} (aside : Option Due) (name : ℕ → Task) (number : Who → ℕ) (s : Solo F T X) (p : Plain T (SoloWaker X))
    (r : FollowsBut aside name s p) (n : IsNumbered number s.sleepers p.lying) (who : Who) (w : SoloWaker X)
    (named : (t : Task) → w ≡ OfTask t → IsNamed name (length p.futures) t) where
  -- one that didn't lie
  module _ (none : any (is_who who) (map (λ (l : Lying (SoloWaker X)). l.who) p.lying) ≡ false) where
    abbrev pub next : ℕ
    next = next_number s.sleepers

    abbrev pub new : Who → ℕ
    new = numbered_by who next number

    abbrev pub now : List (Lying (SoloWaker X))
    now = p.lying ++ lain who w ∷ []

    pub new_is : new who ≡ next
    new_is = ap (λ b. cond b next (number who)) (itself who)

    entries_now : (put_to_sleep w s.sleepers).wakers ≡ entries new now
    entries_now =
        ap (λ es. es ++ (next, w) ∷ []) (n.wakers ∙ sym (entries_renumbered who next number p.lying none))
        ∙ (ap (λ k. entries new p.lying ++ (k, w) ∷ []) (sym new_is) ∙ sym (entries_append new p.lying (lain who w ∷ [])))

    count_now : s.sleepers.count + 1 ≡ length now
    count_now = ap (λ k. k + 1) r.asleep.count ∙ sym (long_last p.lying (lain who w))

    asleep_anew : IsAsleep name (length p.futures) (put_to_sleep w s.sleepers) (flag_of (put_to_sleep w s.sleepers)) now
    asleep_anew = record {
      wakers = ap (map (λ (e : ℕ × SoloWaker X). e.1)) entries_now ∙ waking new now;
      count = count_now;
      flag = flag new (put_to_sleep w s.sleepers) now entries_now count_now;
      callers = λ at t has.
          get_among (wakers_in p.lying) [] w (OfTask t) at
          (sym (ap (λ ws. slice_get ws at) (wakers_append p.lying (lain who w ∷ []))) ∙ has) (named t)
          (λ i has. r.asleep.callers i t (ap (λ ws. slice_get ws i) (sym (append-nil (wakers_in p.lying))) ∙ has));
    }

    abbrev before : List ℕ
    before = numbers number p.lying

    numbers_now : numbers new now ≡ before ++ next ∷ []
    numbers_now =
        map_append (λ (l : Lying (SoloWaker X)). new l.who) p.lying (lain who w ∷ [])
        ∙ (ap (λ ns. ns ++ new who ∷ []) (numbers_renumbered who next number p.lying none)
        ∙ ap (λ k. before ++ k ∷ []) new_is)

    abbrev rest : List ℕ
    rest = take (length s.sleepers.free - 1) s.sleepers.free

    numbered_anew : IsNumbered new (put_to_sleep w s.sleepers) now
    numbered_anew =
        let it = fresh s.sleepers.free s.sleepers.count before n.once n.few in
        record {
          wakers = entries_now;
          once =
              ap (λ ns. apart (ns ++ rest)) numbers_now
              ∙ (ap apart (append_assoc before (next ∷ []) rest) ∙ apart_more before rest next it.0 it.1);
          few = λ m has.
              it.2 m
              (sym (is_in_more m before rest next)
              ∙ (sym (ap (is_in m) (append_assoc before (next ∷ []) rest))
              ∙ (sym (ap (λ ns. is_in m (ns ++ rest)) numbers_now) ∙ has)));
        }

    pub anew : IsLain name new (length p.futures) (put_to_sleep w s.sleepers) (flag_of (put_to_sleep w s.sleepers)) now
    anew = record { asleep = asleep_anew; numbered = numbered_anew }

  module _ (l : Lying (SoloWaker X)) (is : find (lies who) p.lying ≡ Some l) where
    once : apart (numbers number p.lying) ≡ true
    once = rising.once aside name number s p r n who l is

    -- one that was called
    module _ (gone : l.waker ≡ None) where
      abbrev left : List (Lying (SoloWaker X))
      left = without (lies who) p.lying

      abbrev later_on : List (Lying (SoloWaker X))
      later_on = left ++ lain who w ∷ []

      pub not_placed : position_of (number who) s.sleepers.wakers ≡ None
      not_placed = ap (position_of (number who)) n.wakers ∙ (called number who p.lying l is gone once).0

      entries_later : (listed (number who) w s.sleepers).wakers ≡ entries number later_on
      entries_later =
          ap (λ es. es ++ (number who, w) ∷ []) (n.wakers ∙ sym (called number who p.lying l is gone once).1)
          ∙ sym (entries_append number left (lain who w ∷ []))

      count_later : s.sleepers.count ≡ length later_on
      count_later =
          let long = rising.long aside name number s p r n who l is in
          let more = long_last left (lain who w) in
          same_count s.sleepers.count (length p.lying) (length left) (length later_on) r.asleep.count long more

      numbers_later : numbers number later_on ++ s.sleepers.free ≡ numbers number left ++ (number who ∷ s.sleepers.free)
      numbers_later =
          ap (λ ns. ns ++ s.sleepers.free) (map_append (λ (l : Lying (SoloWaker X)). number l.who) left (lain who w ∷ []))
          ∙ append_assoc (numbers number left) (number who ∷ []) s.sleepers.free

      pub again_lain : IsLain name number (length p.futures) (listed (number who) w s.sleepers) (flag_of (listed (number who) w s.sleepers))
          later_on
      again_lain =
          let two = rising.others_left aside name number s p r n who l is in
          record {
            asleep = record {
              wakers = ap (map (λ (e : ℕ × SoloWaker X). e.1)) entries_later ∙ waking number later_on;
              count = count_later;
              flag = flag number (listed (number who) w s.sleepers) later_on entries_later count_later;
              callers = λ at t has.
                  get_among (wakers_in left) [] w (OfTask t) at
                  (sym (ap (λ ws. slice_get ws at) (wakers_append left (lain who w ∷ []))) ∙ has) (named t)
                  (λ i has. (rising.asleep aside name number s p r n who l is).callers i t
                  (ap (λ ws. slice_get ws i) (sym (append-nil (wakers_in left))) ∙ has));
            };
            numbered = record {
              wakers = entries_later;
              once = ap apart numbers_later ∙ apart_more (numbers number left) s.sleepers.free (number who) two.0 two.1;
              few = λ m has.
                  n.few m
                  (rising.in_all aside name number s p r n who l is m
                  ∙ (sym (is_in_more m (numbers number left) s.sleepers.free (number who)) ∙ (sym (ap (is_in m) numbers_later) ∙ has)));
            };
          }

      pub is_short : nat_lt (length s.sleepers.wakers) s.sleepers.count ≡ true
      is_short =
          ap (λ es. nat_lt (length es) s.sleepers.count) (n.wakers ∙ sym (called number who p.lying l is gone once).1)
          ∙ rising.less aside name number s p r n who l is

    -- one that wasn't
    module _ (old : SoloWaker X) (has_old : l.waker ≡ Some old) where
      pub at : At number (number who) old (entries number p.lying) (entries number (without (lies who) p.lying))
          (λ v. entries number (map (awake who v) p.lying))
      at = waits number who p.lying l old is has_old once

      abbrev pub awoken : List (Lying (SoloWaker X))
      awoken = map (awake who w) p.lying

      abbrev pub others : Sleepers (SoloWaker X)
      others = record s.sleepers { wakers = slice_set s.sleepers.wakers at.at (number who, w) }

      pub placed : position_of (number who) s.sleepers.wakers ≡ Some at.at
      placed = ap (position_of (number who)) n.wakers ∙ at.place

      entries_awoken : others.wakers ≡ entries number awoken
      entries_awoken = ap (λ es. slice_set es at.at (number who, w)) n.wakers ∙ sym (at.again_is w)

      count_awoken : s.sleepers.count ≡ length awoken
      count_awoken = r.asleep.count ∙ sym (length_map (awake who w) p.lying)

      wakers_awoken : wakers_in awoken ≡ slice_set (wakers_in p.lying) at.at w
      wakers_awoken =
          sym (waking number awoken)
          ∙ (ap (map (λ (e : ℕ × SoloWaker X). e.1)) (at.again_is w)
          ∙ (map_set (λ (e : ℕ × SoloWaker X). e.1) (entries number p.lying) at.at (number who, w)
          ∙ ap (λ ws. slice_set ws at.at w) (waking number p.lying)))

      numbers_awoken : numbers number awoken ≡ numbers number p.lying
      numbers_awoken = same_numbers number who w p.lying

      pub replaced : IsLain name number (length p.futures) others s.notified awoken
      replaced = record {
        asleep = record {
          wakers = ap (map (λ (e : ℕ × SoloWaker X). e.1)) entries_awoken ∙ waking number awoken;
          count = count_awoken;
          flag =
              r.asleep.flag
              ∙ (sym (flag number s.sleepers p.lying n.wakers r.asleep.count)
              ∙ (ap (λ k. (s.sleepers.count == 0) || nat_lt k s.sleepers.count) (sym (length_set s.sleepers.wakers at.at (number who, w)))
              ∙ flag number others awoken entries_awoken count_awoken));
          callers = λ i t has.
              get_set (wakers_in p.lying) at.at w i (OfTask t) (sym (ap (λ ws. slice_get ws i) wakers_awoken) ∙ has) (named t)
              (λ has. r.asleep.callers i t has);
        };
        numbered = record {
          wakers = entries_awoken;
          once = ap (λ ns. apart (ns ++ s.sleepers.free)) numbers_awoken ∙ n.once;
          few = λ m has. n.few m (sym (ap (λ ns. is_in m (ns ++ s.sleepers.free)) numbers_awoken) ∙ has);
        };
      }
