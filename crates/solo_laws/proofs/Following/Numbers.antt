-- A number is put among others, or taken out; and what entries of those who lie have under it.
use Rattle.std.proofs.Common.{◌≡◌, ℕ, suc, ◌+◌, ◌≤◌, ◌==◌, ◌||◌, nat_lt, cond, not, Bool, true, false, List, [], ◌∷◌, ◌++◌, length}
use Rattle.std.proofs.Common.{map}
use Rattle.std.proofs.Common.{Option, Some, None, is_some, if◌then◌else◌, find, remove, slice_get, slice_set, refl, sym, ap, subst, ◌∙◌}
use Rattle.std.proofs.Common.{arith}
use Rattle.std.proofs.lemmas.Bool.Decides.{nat_tests}
use Rattle.executor_parts.specs.Sleepers.{Sleepers, flag_of, later as later_at, position_of}
use Rattle.plain_scheduler.specs.State.{Who, ATick, ARun, Lying}
use Rattle.plain_scheduler.specs.Lists.{any, or, without}
use Rattle.plain_scheduler.specs.Moves.{is_called, is_who, lies}
use Rattle.solo_laws.specs.Numbered.{entry_if, entries, numbers}
use Rattle.solo_laws.specs.Road.{is_in, apart, is_told, first_if, wakers_in, waiting}
use Rattle.solo_laws.proofs.Following.Cells.{same_number}
use Rattle.solo_laws.proofs.Following.Due.{clash, both_true, and_true, not_true, not_false, neither, equal, later}
use Rattle.solo_laws.proofs.Following.Leaving.{heads, tails}

pub turn : (a b : ℕ) → (a == b) ≡ false → (b == a) ≡ false
turn a b is = grind (arith, nat_tests)

swap : (a b c : Bool) → cond a true (cond b true c) ≡ cond b true (cond a true c)
swap true true c = refl
swap true false c = refl
swap false b c = refl

pub is_in_more : (k : ℕ) (xs ys : List ℕ) (n : ℕ) → is_in k (xs ++ n ∷ ys) ≡ cond (k == n) true (is_in k (xs ++ ys))
is_in_more k [] ys n = refl
is_in_more k (x ∷ xs) ys n =
    ap (λ b. cond (k == x) true b) (is_in_more k xs ys n) ∙ swap (k == x) (k == n) (is_in k (xs ++ ys))

pub apart_more : (xs ys : List ℕ) (n : ℕ) → apart (xs ++ ys) ≡ true → is_in n (xs ++ ys) ≡ false → apart (xs ++ n ∷ ys) ≡ true
apart_more [] ys n is none = and_true (not (is_in n ys)) (apart ys) (not_false (is_in n ys) none) is
apart_more (x ∷ xs) ys n is none =
    let two = both_true (not (is_in x (xs ++ ys))) (apart (xs ++ ys)) is in
    let no = neither (n == x) (is_in n (xs ++ ys)) none in
    and_true (not (is_in x (xs ++ n ∷ ys))) (apart (xs ++ n ∷ ys))
    (not_false (is_in x (xs ++ n ∷ ys))
    (is_in_more x xs ys n
    ∙ (ap (λ b. cond b true (is_in x (xs ++ ys))) (turn n x no.0) ∙ not_true (is_in x (xs ++ ys)) two.0)))
    (apart_more xs ys n two.1 no.1)

pub apart_fewer : (xs ys : List ℕ) (n : ℕ) → apart (xs ++ n ∷ ys) ≡ true → (apart (xs ++ ys) ≡ true) × (is_in n (xs ++ ys) ≡ false)
apart_fewer [] ys n is =
    let two = both_true (not (is_in n ys)) (apart ys) is in (two.1, not_true (is_in n ys) two.0)
apart_fewer (x ∷ xs) ys n is =
    let two = both_true (not (is_in x (xs ++ n ∷ ys))) (apart (xs ++ n ∷ ys)) is in
    let rest = apart_fewer xs ys n two.1 in
    let out : cond (x == n) true (is_in x (xs ++ ys)) ≡ false =
    sym (is_in_more x xs ys n) ∙ not_true (is_in x (xs ++ n ∷ ys)) two.0 in
    let no = neither (x == n) (is_in x (xs ++ ys)) out in (
      and_true (not (is_in x (xs ++ ys))) (apart (xs ++ ys)) (not_false (is_in x (xs ++ ys)) no.1) rest.0,
      ap (λ b. cond b true (is_in n (xs ++ ys))) (turn x n no.0) ∙ rest.1,
    )

pub is_in_first : (k : ℕ) (xs ys : List ℕ) → is_in k (xs ++ ys) ≡ false → is_in k xs ≡ false
is_in_first k [] ys none = refl
is_in_first k (x ∷ xs) ys none =
    let two = neither (k == x) (is_in k (xs ++ ys)) none in
    ap (λ b. cond b true (is_in k xs)) two.0 ∙ is_in_first k xs ys two.1

-- whether one is found of who lies
pub not_found : {A : Type 0} (who : Who) (ls : List (Lying A)) → any (is_who who) (map (λ (l : Lying A). l.who) ls) ≡ false
    → find (lies who) ls ≡ None
not_found who [] none = refl
not_found {A} who (m ∷ ms) none =
    let two = neither (is_who who m.who) (any (is_who who) (map (λ (l : Lying A). l.who) ms)) none in
    ap (λ b. cond b (Some m) (find (lies who) ms)) two.0 ∙ not_found who ms two.1

pub found_none : {A : Type 0} (who : Who) (ls : List (Lying A)) → find (lies who) ls ≡ None
    → any (is_who who) (map (λ (l : Lying A). l.who) ls) ≡ false
found_none who [] none = refl
found_none {A} who (m ∷ ms) none = by (is_who who m.who) none (found_none who ms)
  where
    by : (b : Bool) → cond b (Some m) (find (lies who) ms) ≡ None
        → (find (lies who) ms ≡ None → any (is_who who) (map (λ (l : Lying A). l.who) ms) ≡ false)
        → cond b true (any (is_who who) (map (λ (l : Lying A). l.who) ms)) ≡ false
    by true none rest = absurd cc
    by false none rest = rest none

pub lies_found : {A : Type 0} (who : Who) (ls : List (Lying A)) → any (is_who who) (map (λ (l : Lying A). l.who) ls) ≡ true
    → (l : Lying A) × (find (lies who) ls ≡ Some l)
lies_found who [] is = absurd cc
lies_found {A} who (m ∷ ms) is = by (is_who who m.who) refl is (lies_found who ms)
  where
    by : (b : Bool) → is_who who m.who ≡ b → cond b true (any (is_who who) (map (λ (l : Lying A). l.who) ms)) ≡ true
        → (any (is_who who) (map (λ (l : Lying A). l.who) ms) ≡ true → (l : Lying A) × (find (lies who) ms ≡ Some l))
        → (l : Lying A) × (cond b (Some m) (find (lies who) ms) ≡ Some l)
    by true same is rest = (m, refl)
    by false same is rest = rest is

pub found_lies : {A : Type 0} (who : Who) (ls : List (Lying A)) (l : Lying A) → find (lies who) ls ≡ Some l
    → any (is_who who) (map (λ (l : Lying A). l.who) ls) ≡ true
found_lies who [] l is = absurd cc
found_lies {A} who (m ∷ ms) l is = by (is_who who m.who) is (found_lies who ms l)
  where
    by : (b : Bool) → cond b (Some m) (find (lies who) ms) ≡ Some l
        → (find (lies who) ms ≡ Some l → any (is_who who) (map (λ (l : Lying A). l.who) ms) ≡ true)
        → cond b true (any (is_who who) (map (λ (l : Lying A). l.who) ms)) ≡ true
    by true is rest = refl
    by false is rest = rest is

-- nothing goes where it isn't
pub without_none : {A : Type 0} (who : Who) (ls : List (Lying A)) → find (lies who) ls ≡ None → without (lies who) ls ≡ ls
without_none who [] none = refl
without_none who (m ∷ ms) none = each (lies who m) none (without_none who ms)
  where
    each : (b : Bool) → cond b (Some m) (find (lies who) ms) ≡ None → (find (lies who) ms ≡ None → without (lies who) ms ≡ ms)
        → cond b ms (m ∷ without (lies who) ms) ≡ m ∷ ms
    each true none rest = absurd cc
    each false none rest = ap (λ ls. m ∷ ls) (rest none)

pub same_who : (a b : Who) → is_who a b ≡ true → a ≡ b
same_who (ATick t) (ATick u) is = ap ATick (same_number t u is)
same_who (ARun r) (ARun s) is = ap ARun (same_number r s is)
same_who (ATick t) (ARun s) is = absurd cc
same_who (ARun r) (ATick u) is = absurd cc

pub itself : (a : Who) → is_who a a ≡ true
itself (ATick t) = equal t t refl
itself (ARun r) = equal r r refl

pub is_less : (a b : ℕ) → a ≤ b → nat_lt a (suc b) ≡ true
is_less a b is = grind (arith, nat_tests)

next_less : (a b : ℕ) (c : Bool) → nat_lt a b ≡ c → nat_lt (suc a) (suc b) ≡ c
next_less a b true is = grind (arith, nat_tests)
next_less a b false is = grind (arith, nat_tests)

not_none : (n : ℕ) → (suc n == 0) ≡ false
not_none n = grind (arith, nat_tests)

module _ {A : Type 0} where
  pub same_pairs : (xs ys : List (ℕ × A)) → map (λ (e : ℕ × A). e.0) xs ≡ map (λ (e : ℕ × A). e.0) ys
      → map (λ (e : ℕ × A). e.1) xs ≡ map (λ (e : ℕ × A). e.1) ys → xs ≡ ys
  same_pairs [] [] ns ws = refl
  same_pairs [] (y ∷ ys) ns ws = absurd cc
  same_pairs (x ∷ xs) [] ns ws = absurd cc
  same_pairs (x ∷ xs) (y ∷ ys) ns ws =
      let n = heads x.0 y.0 (map (λ (e : ℕ × A). e.0) xs) (map (λ (e : ℕ × A). e.0) ys) ns in
      let a = heads x.1 y.1 (map (λ (e : ℕ × A). e.1) xs) (map (λ (e : ℕ × A). e.1) ys) ws in
      let rest =
      same_pairs xs ys (tails x.0 y.0 (map (λ (e : ℕ × A). e.0) xs) (map (λ (e : ℕ × A). e.0) ys) ns)
      (tails x.1 y.1 (map (λ (e : ℕ × A). e.1) xs) (map (λ (e : ℕ × A). e.1) ys) ws) in
      ap (λ m. (m, x.1) ∷ xs) n ∙ (ap (λ b. (y.0, b) ∷ xs) a ∙ ap (λ zs. y ∷ zs) rest)

  some : (m l : Lying A) → ◌≡◌ {A = Option (Lying A)} (Some m) (Some l) → m ≡ l
  some m l is = ap (λ o. or o (λ x. x) m) is

  abbrev pub awake : Who → A → Lying A → Lying A
  awake who w l = if lies who l then record l { waker = Some w } else l

  -- those that lie are the same, with whatever waker
  pub awake_whos : (who : Who) (w : A) (ls : List (Lying A))
      → map (λ (l : Lying A). l.who) (map (awake who w) ls) ≡ map (λ (l : Lying A). l.who) ls
  awake_whos who w [] = refl
  awake_whos who w (m ∷ ms) =
      ap (λ v. v ∷ map (λ (l : Lying A). l.who) (map (awake who w) ms)) (by (lies who m))
      ∙ ap (λ vs. m.who ∷ vs) (awake_whos who w ms)
    where
      by : (b : Bool) → (if b then record m { waker = Some w } else m).who ≡ m.who
      by true = refl
      by false = refl

module _ {A : Type 0} (number : Who → ℕ) where
  pub short : (ls : List (Lying A)) → length (entries number ls) ≤ length ls
  short [] = omega arith
  short (l ∷ ls) = by l.waker (short ls)
    where
      by : (o : Option A) → length (entries number ls) ≤ length ls
          → length (entry_if (number l.who) o (entries number ls)) ≤ suc (length ls)
      by None is = omega (arith, is)
      by (Some w) is = omega (arith, is)

  called_short : (ls : List (Lying A)) → nat_lt (length (entries number ls)) (length ls) ≡ any is_called ls
  called_short [] = refl
  called_short (l ∷ ls) = by l.waker (called_short ls)
    where
      by : (o : Option A) → nat_lt (length (entries number ls)) (length ls) ≡ any is_called ls
          → nat_lt (length (entry_if (number l.who) o (entries number ls))) (suc (length ls))
          ≡ cond (not (is_some o)) true (any is_called ls)
      by None rest = is_less (length (entries number ls)) (length ls) (short ls)
      by (Some w) rest = next_less (length (entries number ls)) (length ls) (any is_called ls) rest

  -- the flag says whether one is told
  pub flag : (s : Sleepers A) (ls : List (Lying A)) → s.wakers ≡ entries number ls → s.count ≡ length ls → flag_of s ≡ is_told ls
  flag s ls wakers count =
      ap (λ n. (n == 0) || nat_lt (length s.wakers) n) count
      ∙ (ap (λ (ws : List (ℕ × A)). (length ls == 0) || nat_lt (length ws) (length ls)) wakers ∙ by ls)
    where
      by : (ls : List (Lying A)) → ((length ls == 0) || nat_lt (length (entries number ls)) (length ls)) ≡ is_told ls
      by [] = refl
      by (l ∷ ls) =
          ap (λ b. b || nat_lt (length (entries number (l ∷ ls))) (suc (length ls))) (not_none (length ls)) ∙ called_short (l ∷ ls)

  pub waking : (ls : List (Lying A)) → map (λ (e : ℕ × A). e.1) (entries number ls) ≡ wakers_in ls
  waking [] = refl
  waking (l ∷ ls) = by l.waker (waking ls)
    where
      by : (o : Option A) → map (λ (e : ℕ × A). e.1) (entries number ls) ≡ wakers_in ls
          → map (λ (e : ℕ × A). e.1) (entry_if (number l.who) o (entries number ls)) ≡ first_if o (wakers_in ls)
      by None rest = rest
      by (Some w) rest = ap (λ ws. w ∷ ws) rest

  pub numbered : (ls : List (Lying A)) → map (λ (e : ℕ × A). e.0) (entries number ls) ≡ map number (waiting ls)
  numbered [] = refl
  numbered (l ∷ ls) = by l.waker (numbered ls)
    where
      by : (o : Option A) → map (λ (e : ℕ × A). e.0) (entries number ls) ≡ map number (waiting ls)
          → map (λ (e : ℕ × A). e.0) (entry_if (number l.who) o (entries number ls))
          ≡ map number (cond (not (is_some o)) (waiting ls) (l.who ∷ waiting ls))
      by None rest = rest
      by (Some w) rest = ap (λ ns. number l.who ∷ ns) rest

  -- nobody has the number
  pub absent : (n : ℕ) (ls : List (Lying A)) → is_in n (numbers number ls) ≡ false → position_of n (entries number ls) ≡ None
  absent n [] none = refl
  absent n (l ∷ ls) none =
      let two = neither (n == number l.who) (is_in n (numbers number ls)) none in by l.waker two.0 (absent n ls two.1)
    where
      by : (o : Option A) → (n == number l.who) ≡ false → position_of n (entries number ls) ≡ None
          → position_of n (entry_if (number l.who) o (entries number ls)) ≡ None
      by None past rest = rest
      by (Some w) past rest =
          ap (λ o. later_at o (elim (n == number l.who) [ true ↦ Some 0 | false ↦ None ])) rest
          ∙ ap (λ b. elim b [ true ↦ Some 0 | false ↦ None ]) past

  module _ (who : Who) where
    pub has_number : (ls : List (Lying A)) (l : Lying A) → find (lies who) ls ≡ Some l → is_in (number who) (numbers number ls) ≡ true
    has_number [] l is = absurd cc
    has_number (m ∷ ms) l is = by (lies who m) refl is (has_number ms l)
      where
        by : (b : Bool) → lies who m ≡ b → cond b (Some m) (find (lies who) ms) ≡ Some l
            → (find (lies who) ms ≡ Some l → is_in (number who) (numbers number ms) ≡ true)
            → cond (number who == number m.who) true (is_in (number who) (numbers number ms)) ≡ true
        by true same is rest =
            ap (λ b. cond b true (is_in (number who) (numbers number ms)))
            (equal (number who) (number m.who) (ap number (same_who who m.who same)))
        by false same is rest = later (number who == number m.who) (is_in (number who) (numbers number ms)) (rest is)

    -- no other lies under it
    not_lying : (ls : List (Lying A)) (m : Lying A) → is_in (number who) (numbers number (m ∷ ls)) ≡ false → lies who m ≡ false
    not_lying ls m none = by (lies who m) refl
      where
        by : (b : Bool) → lies who m ≡ b → b ≡ false
        by false is = refl
        by true is =
            absurd (clash (neither (number who == number m.who) (is_in (number who) (numbers number ls)) none).0
            (equal (number who) (number m.who) (ap number (same_who who m.who is))))

    -- nobody lies so
    pub none_lies : (ls : List (Lying A)) → is_in (number who) (numbers number ls) ≡ false
        → any (is_who who) (map (λ (l : Lying A). l.who) ls) ≡ false
    none_lies [] none = refl
    none_lies (m ∷ ms) none =
        ap (λ b. cond b true (any (is_who who) (map (λ (l : Lying A). l.who) ms))) (not_lying ms m none)
        ∙ none_lies ms (neither (number who == number m.who) (is_in (number who) (numbers number ms)) none).1

    pub none_awake : (w : A) (ls : List (Lying A)) → is_in (number who) (numbers number ls) ≡ false → map (awake who w) ls ≡ ls
    none_awake w [] none = refl
    none_awake w (m ∷ ms) none =
        ap (λ b. cond b (record m { waker = Some w }) m ∷ map (awake who w) ms) (not_lying ms m none)
        ∙ ap (λ ls. m ∷ ls) (none_awake w ms (neither (number who == number m.who) (is_in (number who) (numbers number ms)) none).1)

    -- the one that lies so: those before it, and those after it
    pub record Split (ls : List (Lying A)) (l : Lying A) : Type 0 where
      pub before : List (Lying A)
      pub after : List (Lying A)
      pub all : ls ≡ before ++ l ∷ after
      pub others : without (lies who) ls ≡ before ++ after
      pub its_own : l.who ≡ who

    pub split : (ls : List (Lying A)) (l : Lying A) → find (lies who) ls ≡ Some l → Split ls l
    split [] l is = absurd cc
    split (m ∷ ms) l is = by (lies who m) refl is (split ms l)
      where
        by : (b : Bool) → lies who m ≡ b → cond b (Some m) (find (lies who) ms) ≡ Some l
            → (find (lies who) ms ≡ Some l → Split ms l) → Split (m ∷ ms) l
        by true same is rest =
            let one : m ≡ l = some m l is in
            record {
              before = [];
              after = ms;
              all = ap (λ x. x ∷ ms) one;
              others = ap (λ b. cond b ms (m ∷ without (lies who) ms)) same;
              its_own = sym (ap (λ (l : Lying A). l.who) one) ∙ sym (same_who who m.who same);
            }
        by false same is rest =
            let it = rest is in
            record {
              before = m ∷ it.before;
              after = it.after;
              all = ap (λ ls. m ∷ ls) it.all;
              others = ap (λ b. cond b ms (m ∷ without (lies who) ms)) same ∙ ap (λ ls. m ∷ ls) it.others;
              its_own = it.its_own;
            }

    -- one that was called has no entry
    pub called : (ls : List (Lying A)) (l : Lying A) → find (lies who) ls ≡ Some l → l.waker ≡ None → apart (numbers number ls) ≡ true
        → (position_of (number who) (entries number ls) ≡ None) × (entries number (without (lies who) ls) ≡ entries number ls)
    called [] l is none once = absurd cc
    called (m ∷ ms) l is none once = by (lies who m) refl is (called ms l)
      where
        two : (not (is_in (number m.who) (numbers number ms)) ≡ true) × (apart (numbers number ms) ≡ true)
        two = both_true (not (is_in (number m.who) (numbers number ms))) (apart (numbers number ms)) once

        by : (b : Bool) → lies who m ≡ b → cond b (Some m) (find (lies who) ms) ≡ Some l
            → (find (lies who) ms ≡ Some l → l.waker ≡ None → apart (numbers number ms) ≡ true
            → (position_of (number who) (entries number ms) ≡ None) × (entries number (without (lies who) ms) ≡ entries number ms))
            → (position_of (number who) (entries number (m ∷ ms)) ≡ None)
            × (entries number (cond b ms (m ∷ without (lies who) ms)) ≡ entries number (m ∷ ms))
        by true same is rest =
            let gone : m.waker ≡ None = ap (λ (l : Lying A). l.waker) (some m l is) ∙ none in
            let here : entries number (m ∷ ms) ≡ entries number ms = ap (λ o. entry_if (number m.who) o (entries number ms)) gone in
            let no : is_in (number who) (numbers number ms) ≡ false =
            ap (λ w. is_in (number w) (numbers number ms)) (same_who who m.who same)
            ∙ not_true (is_in (number m.who) (numbers number ms)) two.0 in
            (ap (position_of (number who)) here ∙ absent (number who) ms no, sym here)
        by false same is rest =
            let it = rest is none two.1 in
            each m.waker it.0 it.1
          where
            past : (number who == number m.who) ≡ false
            past = unlike (number who == number m.who) refl
              where
                unlike : (b : Bool) → (number who == number m.who) ≡ b → b ≡ false
                unlike false is_so = refl
                unlike true is_so =
                    absurd (clash (not_true (is_in (number m.who) (numbers number ms)) two.0)
                    (subst (λ n. is_in n (numbers number ms) ≡ true) (same_number (number who) (number m.who) is_so) (has_number ms l is)))

            each : (o : Option A) → position_of (number who) (entries number ms) ≡ None
                → entries number (without (lies who) ms) ≡ entries number ms
                → (position_of (number who) (entry_if (number m.who) o (entries number ms)) ≡ None)
                × (entry_if (number m.who) o (entries number (without (lies who) ms)) ≡ entry_if (number m.who) o (entries number ms))
            each None place others = (place, others)
            each (Some v) place others = (
              ap (λ o. later_at o (elim (number who == number m.who) [ true ↦ Some 0 | false ↦ None ])) place
                  ∙ ap (λ b. elim b [ true ↦ Some 0 | false ↦ None ]) past,
              ap (λ es. (number m.who, v) ∷ es) others,
            )

  -- one that wasn't has one: there, without it, and with another waker
  pub record At (n : ℕ) (w : A) (es gone : List (ℕ × A)) (again : A → List (ℕ × A)) : Type 0 where
    pub at : ℕ
    pub place : position_of n es ≡ Some at
    pub there : slice_get es at ≡ Some (n, w)
    pub gone_is : gone ≡ remove es at
    pub again_is : (v : A) → again v ≡ slice_set es at (n, v)

  first_place : (n : ℕ) (w : A) (es : List (ℕ × A)) → position_of n es ≡ None → position_of n ((n, w) ∷ es) ≡ Some 0
  first_place n w es none =
      ap (λ o. later_at o (elim (n == n) [ true ↦ Some 0 | false ↦ None ])) none
      ∙ ap (λ b. elim b [ true ↦ Some 0 | false ↦ None ]) (equal n n refl)

  at_later : (n k : ℕ) (w u : A) (es gone : List (ℕ × A)) (again : A → List (ℕ × A)) → At n w es gone again
      → At n w ((k, u) ∷ es) ((k, u) ∷ gone) (λ v. (k, u) ∷ again v)
  at_later n k w u es gone again it = record {
    at = suc it.at;
    place =
        ap (λ o. later_at o (elim (n == k) [ true ↦ Some 0 | false ↦ None ])) it.place
        ∙ ap (λ m. Some m) (one_more it.at);
    there = it.there;
    gone_is = ap (λ es. (k, u) ∷ es) it.gone_is;
    again_is = λ v. ap (λ es. (k, u) ∷ es) (it.again_is v);
  }
    where
      one_more : (m : ℕ) → m + 1 ≡ suc m
      one_more m = omega arith

  pub waits : (who : Who) (ls : List (Lying A)) (l : Lying A) (w : A) → find (lies who) ls ≡ Some l → l.waker ≡ Some w
      → apart (numbers number ls) ≡ true
      → At (number who) w (entries number ls) (entries number (without (lies who) ls)) (λ v. entries number (map (awake who v) ls))
  waits who [] l w is has once = absurd cc
  waits who (m ∷ ms) l w is has once = by (lies who m) refl is (waits who ms l w)
    where
      two : (not (is_in (number m.who) (numbers number ms)) ≡ true) × (apart (numbers number ms) ≡ true)
      two = both_true (not (is_in (number m.who) (numbers number ms))) (apart (numbers number ms)) once

      by : (b : Bool) → lies who m ≡ b → cond b (Some m) (find (lies who) ms) ≡ Some l
          → (find (lies who) ms ≡ Some l → l.waker ≡ Some w → apart (numbers number ms) ≡ true
          → At (number who) w (entries number ms) (entries number (without (lies who) ms)) (λ v. entries number (map (awake who v) ms)))
          → At (number who) w (entries number (m ∷ ms)) (entries number (cond b ms (m ∷ without (lies who) ms)))
          (λ v. entries number (cond b (record m { waker = Some v }) m ∷ map (awake who v) ms))
      by true same is rest =
          let mine : number m.who ≡ number who = sym (ap number (same_who who m.who same)) in
          let no : is_in (number who) (numbers number ms) ≡ false =
          ap (λ n. is_in n (numbers number ms)) (sym mine) ∙ not_true (is_in (number m.who) (numbers number ms)) two.0 in
          record {
            at = 0;
            place =
                ap (λ o. position_of (number who) (entry_if (number m.who) o (entries number ms))) has_it
                ∙ (ap (λ n. position_of (number who) ((n, w) ∷ entries number ms)) mine
                ∙ first_place (number who) w (entries number ms) (absent (number who) ms no));
            there =
                ap (λ o. slice_get (entry_if (number m.who) o (entries number ms)) 0) has_it
                ∙ ap (λ n. Some (n, w)) mine;
            gone_is = sym (ap (λ o. remove (entry_if (number m.who) o (entries number ms)) 0) has_it);
            again_is = λ v.
                ap (λ n. (n, v) ∷ entries number (map (awake who v) ms)) mine
                ∙ (ap (λ ls. (number who, v) ∷ entries number ls) (none_awake who v ms no)
                ∙ sym (ap (λ o. slice_set (entry_if (number m.who) o (entries number ms)) 0 (number who, v)) has_it));
          }
        where
          has_it : m.waker ≡ Some w
          has_it = ap (λ (l : Lying A). l.waker) (some m l is) ∙ has
      by false same is rest = each m.waker (rest is has two.1)
        where
          each : (o : Option A)
              → At (number who) w (entries number ms) (entries number (without (lies who) ms)) (λ v. entries number (map (awake who v) ms))
              → At (number who) w (entry_if (number m.who) o (entries number ms))
              (entry_if (number m.who) o (entries number (without (lies who) ms)))
              (λ v. entry_if (number m.who) o (entries number (map (awake who v) ms)))
          each None it = it
          each (Some u) it =
              at_later (number who) (number m.who) w u (entries number ms) (entries number (without (lies who) ms))
              (λ v. entries number (map (awake who v) ms)) it
