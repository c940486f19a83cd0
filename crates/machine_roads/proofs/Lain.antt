-- Who lies, and what is left of the sleepers where it gets up or goes.
use Rattle.std.proofs.Common.{◌≡◌, ℕ, suc, ◌+◌, ◌-◌, ◌≤◌, ◌<◌, ◌==◌, ◌++◌, ◌||◌, not, cond, nat_lt, Bool, true, false}
use Rattle.std.proofs.Common.{List, [], ◌∷◌, length, map, Option, Some, None, is_some, slice_get, subst}
use Rattle.std.proofs.Common.{refl, sym, ap, ◌∙◌, arith}
use Rattle.std.specs.Prelude.{filter, find, remove}
use Rattle.std.proofs.lemmas.Bool.Decides.{nat_tests}
use Rattle.executor_parts.specs.Sleepers.{Sleepers, flag_of, freed, later, position_of, waker_at, waker_in, waker_of, without_entry}
use Rattle.executor_parts.specs.Sleepers.{woken_up}
use Rattle.executor_model.specs.declared.op.Sleeping.{Sleeping}
use Rattle.executor_model.specs.declared.op.TickOrRun.{TickOrRun}
use Rattle.executor_model.specs.declared.op.Waker.{Waker}
use Rattle.executor_model.specs.SleepersAgree.{sleeps}
use Rattle.executor_model.specs.World.{Asleep, Run, Ticker, World, place_of, runs_with, ticks_with}
use Rattle.plain_scheduler.specs.State.{Lying, Plain, Who}
use Rattle.plain_scheduler.specs.Lists.{any, or, without}
use Rattle.plain_scheduler.specs.Moves.{is_called, is_who, lies}
use Rattle.machine_roads.specs.View.{Output}
use Rattle.machine_roads.specs.Road.{AreNumbered, Follows, is_told, place_in, run_view, sleeper, uncalled, who_of}
use Rattle.machine_roads.proofs.Lists.{cons_is, length_map, map_append}
use Rattle.machine_roads.proofs.Numbers.{Another, It, IsNamed, Which, awake_here, count, count_append, count_more, lies_so, nobody}
use Rattle.machine_roads.proofs.Numbers.{numbered_append, numbered_apart, numbered_first, numbered_rest, one_if, place_apart, same_who}
use Rattle.machine_roads.proofs.Numbers.{which}

-- how many were called: as many as lie without a waker
few_called : (ls : List (Lying Waker)) → length (uncalled ls) ≤ length ls
few_called [] = omega arith
few_called (l ∷ ls) = by l.waker (few_called ls)
  where
    by : (o : Option Waker) → length (uncalled ls) ≤ length ls
        → length (or o (λ waker. (l.who, waker) ∷ uncalled ls) (uncalled ls)) ≤ suc (length ls)
    by None rest = omega (arith, rest)
    by (Some w) rest = omega (arith, rest)

less_test : (n m : ℕ) → n ≤ m → nat_lt n (suc m) ≡ true
less_test n m is = grind (arith, nat_tests)

suc_test : (n m : ℕ) → nat_lt (suc n) (suc m) ≡ nat_lt n m
suc_test n m = grind (arith, nat_tests)

called_test : (ls : List (Lying Waker)) → any is_called ls ≡ nat_lt (length (uncalled ls)) (length ls)
called_test [] = refl
called_test (l ∷ ls) = by l.waker (called_test ls)
  where
    by : (o : Option Waker) → any is_called ls ≡ nat_lt (length (uncalled ls)) (length ls)
        → cond (not (is_some o)) true (any is_called ls)
        ≡ nat_lt (length (or o (λ waker. (l.who, waker) ∷ uncalled ls) (uncalled ls))) (suc (length ls))
    by None rest = sym (less_test (length (uncalled ls)) (length ls) (few_called ls))
    by (Some w) rest = rest ∙ sym (suc_test (length (uncalled ls)) (length ls))

none_test : (n : ℕ) → (suc n == 0) ≡ false
none_test n = grind (arith, nat_tests)

pub told_test : (ls : List (Lying Waker)) → is_told ls ≡ ((length ls == 0) || nat_lt (length (uncalled ls)) (length ls))
told_test [] = refl
told_test (l ∷ ls) =
    called_test (l ∷ ls) ∙ sym (ap (λ b. b || nat_lt (length (uncalled (l ∷ ls))) (suc (length ls))) (none_test (length ls)))

-- other sleepers and others who lie, who are alike
pub lies_anew : (w : World) (q : Plain Output Waker) (s : Sleepers Sleeping) (ls : List (Lying Waker)) (ticks : List Ticker)
    (runs : List Run) → Follows w q → map sleeper s.wakers ≡ uncalled ls → s.count ≡ length ls
    → ((x : TickOrRun) → count (who_of x) ls ≡ sleeps (place_in ticks runs x)) → AreNumbered ticks runs s.wakers
    → map run_view runs ≡ map run_view w.runs
    → Follows (record w { sleepers = s; notified = flag_of s; ticks = ticks; runs = runs }) (record q { lying = ls })
lies_anew w q s ls ticks runs r same many asleep numbered viewed = record {
  limit = r.limit;
  kind = r.kind;
  many = r.many;
  places = r.places;
  marked = r.marked;
  tasks = r.tasks;
  stored = r.stored;
  marks = r.marks;
  calm = r.calm;
  table = r.table;
  common = r.common;
  kept = r.kept;
  wakers = same;
  count = many;
  flag =
      ap (λ n. (s.count == 0) || nat_lt n s.count) (sym (length_map sleeper s.wakers) ∙ ap length same)
      ∙ (ap (λ n. (n == 0) || nat_lt (length (uncalled ls)) n) many ∙ sym (told_test ls));
  asleep = asleep;
  numbered = numbered;
  runs = viewed ∙ r.runs;
  waking = r.waking;
  seen = r.seen;
}

pub uncalled_append : (xs ys : List (Lying Waker)) → uncalled (xs ++ ys) ≡ uncalled xs ++ uncalled ys
uncalled_append [] ys = refl
uncalled_append (l ∷ xs) ys = by l.waker (uncalled_append xs ys)
  where
    by : (o : Option Waker) → uncalled (xs ++ ys) ≡ uncalled xs ++ uncalled ys
        → or o (λ waker. (l.who, waker) ∷ uncalled (xs ++ ys)) (uncalled (xs ++ ys))
        ≡ or o (λ waker. (l.who, waker) ∷ uncalled xs) (uncalled xs) ++ uncalled ys
    by None rest = rest
    by (Some w) rest = ap (λ ps. (l.who, w) ∷ ps) rest

abbrev pub here_if : Bool → Option ℕ
here_if b = elim b [ true ↦ Some 0 | false ↦ None ]

-- the last place of who lies here
abbrev last_place : Who → List (Who × Waker) → Option ℕ
last_place who [] = None
last_place who (e ∷ es) = later (last_place who es) (here_if (is_who who e.0))

place_same : (n : ℕ) (who : Who) (ws : List (ℕ × Sleeping)) → IsNamed n who ws → position_of n ws ≡ last_place who (map sleeper ws)
place_same n who [] named = refl
place_same n who (e ∷ es) named =
    ap (λ b. later (position_of n es) (here_if b)) named.0
    ∙ ap (λ o. later o (here_if (is_who who (who_of e.1.who)))) (place_same n who es named.1)

later_none : (o : Option ℕ) → o ≡ None → (b : Bool) → b ≡ false → later o (here_if b) ≡ None
later_none None none false is = refl
later_none None none true is = absurd cc
later_none (Some k) none b is = absurd cc

pub neither : (a b : Bool) → cond a true b ≡ false → (a ≡ false) × (b ≡ false)
neither true b is = absurd cc
neither false b is = (refl, is)

no_place : (who : Who) (ls : List (Lying Waker)) → any (lies who) ls ≡ false → last_place who (uncalled ls) ≡ None
no_place who [] none = refl
no_place who (l ∷ ls) none =
    let both = neither (lies who l) (any (lies who) ls) none in
    by l.waker both.0 (no_place who ls both.1)
  where
    by : (o : Option Waker) → is_who who l.who ≡ false → last_place who (uncalled ls) ≡ None
        → last_place who (or o (λ waker. (l.who, waker) ∷ uncalled ls) (uncalled ls)) ≡ None
    by None apart rest = rest
    by (Some w) apart rest = later_none (last_place who (uncalled ls)) rest (is_who who l.who) apart

place_before : (who : Who) (xs ys : List (Who × Waker)) → last_place who ys ≡ None → last_place who (xs ++ ys) ≡ last_place who xs
place_before who [] ys none = none
place_before who (x ∷ xs) ys none = ap (λ o. later o (here_if (is_who who x.0))) (place_before who xs ys none)

place_at : (who : Who) (xs ys : List (Who × Waker)) (e : Who × Waker) → last_place who ys ≡ None → is_who who e.0 ≡ true
    → last_place who (xs ++ e ∷ ys) ≡ Some (length xs)
place_at who [] ys e none it =
    ap (λ o. later o (here_if (is_who who e.0))) none ∙ ap here_if it
place_at who (x ∷ xs) ys e none it =
    ap (λ o. later o (here_if (is_who who x.0))) (place_at who xs ys e none it) ∙ ap (λ n. Some n) (one_more (length xs))
  where
    one_more : (n : ℕ) → n + 1 ≡ suc n
    one_more n = omega arith

-- one lies among others
pub record Lies (who : Who) (ls : List (Lying Waker)) : Type 0 where
  pub before : List (Lying Waker)
  pub one : Lying Waker
  pub after : List (Lying Waker)
  pub is : ls ≡ before ++ one ∷ after
  pub it : lies who one ≡ true
  pub none_before : any (lies who) before ≡ false
  pub none_after : any (lies who) after ≡ false

pub one_lies : (who : Who) (ls : List (Lying Waker)) → length (filter (lies who) ls) ≡ 1 → Lies who ls
one_lies who [] one = absurd (omega (arith, one))
one_lies who (l ∷ ls) one = by (lies who l) refl one (one_lies who ls)
  where
    by : (b : Bool) → lies who l ≡ b → length (cond b (l ∷ filter (lies who) ls) (filter (lies who) ls)) ≡ 1
        → (length (filter (lies who) ls) ≡ 1 → Lies who ls) → Lies who (l ∷ ls)
    by true it one rest = record {
      before = [];
      one = l;
      after = ls;
      is = refl;
      it = it;
      none_before = refl;
      none_after = nobody who ls (omega (arith, one));
    }
    by false it one rest =
        let k = rest one in
        record {
          before = l ∷ k.before;
          one = k.one;
          after = k.after;
          is = ap (λ xs. l ∷ xs) k.is;
          it = k.it;
          none_before = ap (λ b. cond b true (any (lies who) k.before)) it ∙ k.none_before;
          none_after = k.none_after;
        }

-- it is found, and the others are left
pub none_found : {B : Type 0} (test : B → Bool) (xs : List B) → any test xs ≡ false → find test xs ≡ None
none_found test [] none = refl
none_found test (x ∷ xs) none =
    let both = neither (test x) (any test xs) none in
    ap (λ b. cond b (Some x) (find test xs)) both.0 ∙ none_found test xs both.1

found_at : {B : Type 0} (test : B → Bool) (xs ys : List B) (y : B) → any test xs ≡ false → test y ≡ true
    → find test (xs ++ y ∷ ys) ≡ Some y
found_at test [] ys y none it = ap (λ b. cond b (Some y) (find test ys)) it
found_at test (x ∷ xs) ys y none it =
    let both = neither (test x) (any test xs) none in
    ap (λ b. cond b (Some x) (find test (xs ++ y ∷ ys))) both.0 ∙ found_at test xs ys y both.1 it

without_at : {B : Type 0} (test : B → Bool) (xs ys : List B) (y : B) → any test xs ≡ false → test y ≡ true
    → without test (xs ++ y ∷ ys) ≡ xs ++ ys
without_at test [] ys y none it = ap (λ b. cond b ys (y ∷ without test ys)) it
without_at test (x ∷ xs) ys y none it =
    let both = neither (test x) (any test xs) none in
    ap (λ b. cond b (xs ++ y ∷ ys) (x ∷ without test (xs ++ y ∷ ys))) both.0 ∙ ap (λ zs. x ∷ zs) (without_at test xs ys y both.1 it)

-- a list of sleepers, split as their wakers are
pub record Split (ws : List (ℕ × Sleeping)) (before : List (Who × Waker)) (it : Who × Waker) (after : List (Who × Waker)) : Type 0 where
  pub first : List (ℕ × Sleeping)
  pub one : ℕ × Sleeping
  pub rest : List (ℕ × Sleeping)
  pub is : ws ≡ first ++ one ∷ rest
  pub firsts : map sleeper first ≡ before
  pub here : sleeper one ≡ it
  pub rests : map sleeper rest ≡ after

module _ {B : Type 0} where
  pub get_at : (xs ys : List B) (y : B) → slice_get (xs ++ y ∷ ys) (length xs) ≡ Some y
  get_at [] ys y = refl
  get_at (x ∷ xs) ys y = get_at xs ys y

  removed : (xs ys : List B) (y : B) → remove (xs ++ y ∷ ys) (length xs) ≡ xs ++ ys
  removed [] ys y = refl
  removed (x ∷ xs) ys y = ap (λ zs. x ∷ zs) (removed xs ys y)

  length_at : (xs ys : List B) (y : B) → length (xs ++ y ∷ ys) ≡ suc (length (xs ++ ys))
  length_at [] ys y = refl
  length_at (x ∷ xs) ys y = ap suc (length_at xs ys y)

split : (ws : List (ℕ × Sleeping)) (before : List (Who × Waker)) (it : Who × Waker) (after : List (Who × Waker))
    → map sleeper ws ≡ before ++ it ∷ after → Split ws before it after
split [] [] it after is = absurd cc
split [] (b ∷ before) it after is = absurd cc
split (w ∷ ws) [] it after is =
    let both = cons_is (sleeper w) it (map sleeper ws) after is in
    record { first = []; one = w; rest = ws; is = refl; firsts = refl; here = both.0; rests = both.1 }
split (w ∷ ws) (b ∷ before) it after is =
    let both = cons_is (sleeper w) b (map sleeper ws) (before ++ it ∷ after) is in
    let k = split ws before it after both.1 in
    record {
      first = w ∷ k.first;
      one = k.one;
      rest = k.rest;
      is = ap (λ xs. w ∷ xs) k.is;
      firsts = ap (λ x. x ∷ map sleeper k.first) both.0 ∙ ap (λ xs. b ∷ xs) k.firsts;
      here = k.here;
      rests = k.rests;
    }

abbrev pub waker_by : Option Sleeping → Option Waker
waker_by None = None
waker_by (Some s) = Some s.waker

less_one : (n m : ℕ) → n ≡ suc m → n - 1 ≡ m
less_one n m is = omega (arith, is)

-- who lies gets up: on the machine its number is free, and its waker is let go where it wasn't called
pub record Up (n : ℕ) (who : Who) (w : World) (q : Plain Output Waker) : Type 0 where
  pub one : Lying Waker
  pub found : find (lies who) q.lying ≡ Some one
  pub goes : waker_by (waker_of n w.sleepers.wakers) ≡ one.waker
  pub wakers : map sleeper (woken_up n w.sleepers).wakers ≡ uncalled (without (lies who) q.lying)
  pub count : (woken_up n w.sleepers).count ≡ length (without (lies who) q.lying)
  pub fewer : length (without (lies who) q.lying) ≤ length q.lying
  pub numbered : (ticks : List Ticker) (runs : List Run) → AreNumbered ticks runs w.sleepers.wakers
      → AreNumbered ticks runs (woken_up n w.sleepers).wakers

abbrev freed_if : Bool → ℕ → Sleepers Sleeping → Sleepers Sleeping
freed_if b n s = elim b [ true ↦ record s { count = s.count - 1; free = s.free ++ n ∷ [] } | false ↦ s ]

freed_is : (n : ℕ) (s : Sleepers Sleeping) → nat_lt (length s.wakers) s.count ≡ true
    → ((freed n s).wakers ≡ s.wakers) × ((freed n s).count ≡ s.count - 1)
freed_is n s room = (
  ap (λ b. (freed_if b n s).wakers) room,
  ap (λ b. (freed_if b n s).count) room,
)

pub below_test : (n m : ℕ) → n < m → nat_lt n m ≡ true
below_test n m is = grind (arith, nat_tests)

module _ (n : ℕ) (who : Who) (w : World) (q : Plain Output Waker) (r : Follows w q) (named : IsNamed n who w.sleepers.wakers)
    (k : Lies who q.lying) where
  abbrev s : Sleepers Sleeping
  s = w.sleepers

  position : position_of n s.wakers ≡ last_place who (uncalled q.lying)
  position = place_same n who s.wakers named ∙ ap (last_place who) r.wakers

  pub long : length q.lying ≡ suc (length (k.before ++ k.after))
  long = ap length k.is ∙ length_at k.before k.after k.one

  pub left : without (lies who) q.lying ≡ k.before ++ k.after
  left = ap (without (lies who)) k.is ∙ without_at (lies who) k.before k.after k.one k.none_before k.it

  pub found : find (lies who) q.lying ≡ Some k.one
  found = ap (find (lies who)) k.is ∙ found_at (lies who) k.before k.after k.one k.none_before k.it

  apart : uncalled q.lying
      ≡ uncalled k.before ++ or k.one.waker (λ waker. (k.one.who, waker) ∷ uncalled k.after) (uncalled k.after)
  apart = ap uncalled k.is ∙ uncalled_append k.before (k.one ∷ k.after)

  fewer : length (without (lies who) q.lying) ≤ length q.lying
  fewer = omega (arith, ap length left, long)

  -- one that was called has no waker there
  pub all_called : k.one.waker ≡ None → uncalled q.lying ≡ uncalled k.before ++ uncalled k.after
  all_called called =
      apart ∙ ap (λ o. uncalled k.before ++ or o (λ waker. (k.one.who, waker) ∷ uncalled k.after) (uncalled k.after)) called

  pub place_called : k.one.waker ≡ None → position_of n s.wakers ≡ None
  place_called called =
      position
      ∙ (ap (last_place who) (all_called called)
      ∙ (place_before who (uncalled k.before) (uncalled k.after) (no_place who k.after k.none_after)
      ∙ no_place who k.before k.none_before))

  pub room_called : k.one.waker ≡ None → nat_lt (length s.wakers) s.count ≡ true
  room_called called =
      let many : length s.wakers ≡ length (uncalled (k.before ++ k.after)) =
      sym (length_map sleeper s.wakers)
      ∙ (ap length r.wakers ∙ (ap length (all_called called) ∙ ap length (sym (uncalled_append k.before k.after)))) in
      below_test (length s.wakers) s.count (omega (arith, many, few_called (k.before ++ k.after), long, r.count))

  up_called : k.one.waker ≡ None → Up n who w q
  up_called called =
      let all = all_called called in
      let place = place_called called in
      let room = room_called called in
      let gone : woken_up n s ≡ freed n s = ap (λ o. freed n (without_entry o s)) place in
      let both = freed_is n s room in
      record {
        one = k.one;
        found = found;
        goes = ap (λ o. waker_by (waker_at o s.wakers)) place ∙ sym called;
        wakers =
            ap (λ (s : Sleepers Sleeping). map sleeper s.wakers) gone
            ∙ (ap (map sleeper) both.0
            ∙ (r.wakers ∙ (all ∙ (sym (uncalled_append k.before k.after) ∙ ap uncalled (sym left)))));
        count =
            ap (λ (s : Sleepers Sleeping). s.count) gone
            ∙ (both.1 ∙ (less_one s.count (length (k.before ++ k.after)) (r.count ∙ long) ∙ ap length (sym left)));
        fewer = fewer;
        numbered = λ ticks runs all.
            subst (AreNumbered ticks runs) (sym (ap (λ (s : Sleepers Sleeping). s.wakers) gone ∙ both.0)) all;
      }

  -- of any other the entry goes
  pub all_uncalled : (x : Waker) → k.one.waker ≡ Some x → uncalled q.lying ≡ uncalled k.before ++ (k.one.who, x) ∷ uncalled k.after
  all_uncalled x waker =
      apart ∙ ap (λ o. uncalled k.before ++ or o (λ waker. (k.one.who, waker) ∷ uncalled k.after) (uncalled k.after)) waker

  pub split_uncalled : (x : Waker) → k.one.waker ≡ Some x → Split s.wakers (uncalled k.before) (k.one.who, x) (uncalled k.after)
  split_uncalled x waker = split s.wakers (uncalled k.before) (k.one.who, x) (uncalled k.after) (r.wakers ∙ all_uncalled x waker)

  pub place_uncalled : (x : Waker) (waker : k.one.waker ≡ Some x) → position_of n s.wakers ≡ Some (length (split_uncalled x waker).first)
  place_uncalled x waker =
      let sp = split_uncalled x waker in
      position
      ∙ (ap (last_place who) (all_uncalled x waker)
      ∙ (place_at who (uncalled k.before) (uncalled k.after) (k.one.who, x) (no_place who k.after k.none_after) k.it
      ∙ ap (λ n. Some n) (ap length (sym sp.firsts) ∙ length_map sleeper sp.first)))

  up_uncalled : (x : Waker) → k.one.waker ≡ Some x → Up n who w q
  up_uncalled x waker =
      let sp = split_uncalled x waker in
      let place = place_uncalled x waker in
      let got : slice_get s.wakers (length sp.first) ≡ Some sp.one =
      ap (λ xs. slice_get xs (length sp.first)) sp.is ∙ get_at sp.first sp.rest sp.one in
      let rest : remove s.wakers (length sp.first) ≡ sp.first ++ sp.rest =
      ap (λ xs. remove xs (length sp.first)) sp.is ∙ removed sp.first sp.rest sp.one in
      let less : Sleepers Sleeping = record s { wakers = sp.first ++ sp.rest } in
      let many : length s.wakers ≡ suc (length (sp.first ++ sp.rest)) =
      ap length sp.is ∙ length_at sp.first sp.rest sp.one in
      let same : length s.wakers ≡ length (uncalled q.lying) = sym (length_map sleeper s.wakers) ∙ ap length r.wakers in
      let room =
      below_test (length (sp.first ++ sp.rest)) s.count (omega (arith, many, same, few_called q.lying, r.count)) in
      let gone : woken_up n s ≡ freed n less =
      ap (λ o. freed n (without_entry o s)) place ∙ ap (λ ws. freed n (record s { wakers = ws })) rest in
      let both = freed_is n less room in
      record {
        one = k.one;
        found = found;
        goes =
            ap (λ o. waker_by (waker_at o s.wakers)) place
            ∙ (ap (λ o. waker_by (waker_in o)) got ∙ (ap (λ (e : Who × Waker). Some e.1) sp.here ∙ sym waker));
        wakers =
            ap (λ (s : Sleepers Sleeping). map sleeper s.wakers) gone
            ∙ (ap (map sleeper) both.0
            ∙ (map_append sleeper sp.first sp.rest
            ∙ (ap (λ xs. xs ++ map sleeper sp.rest) sp.firsts
            ∙ (ap (λ ys. uncalled k.before ++ ys) sp.rests
            ∙ (sym (uncalled_append k.before k.after) ∙ ap uncalled (sym left))))));
        count =
            ap (λ (s : Sleepers Sleeping). s.count) gone
            ∙ (both.1 ∙ (less_one s.count (length (k.before ++ k.after)) (r.count ∙ long) ∙ ap length (sym left)));
        fewer = fewer;
        numbered = λ ticks runs all.
            let parts = subst (AreNumbered ticks runs) sp.is all in
            subst (AreNumbered ticks runs) (sym (ap (λ (s : Sleepers Sleeping). s.wakers) gone ∙ both.0))
            (numbered_append ticks runs sp.first sp.rest (numbered_first ticks runs sp.first (sp.one ∷ sp.rest) parts)
            (numbered_rest ticks runs sp.first (sp.one ∷ sp.rest) parts).1);
      }

  gets_up : Up n who w q
  gets_up = by k.one.waker refl
    where
      by : (o : Option Waker) → k.one.waker ≡ o → Up n who w q
      by None called = up_called called
      by (Some x) waker = up_uncalled x waker

pub ups : (n : ℕ) (who : Who) (w : World) (q : Plain Output Waker) → Follows w q → IsNamed n who w.sleepers.wakers
    → length (filter (lies who) q.lying) ≡ 1 → Up n who w q
ups n who w q r named one = gets_up n who w q r named (one_lies who q.lying one)

-- what lies of whom where one lies among others, and once that got up
pub count_at : (who : Who) (xs ys : List (Lying Waker)) (l : Lying Waker)
    → count who (xs ++ l ∷ ys) ≡ count who xs + (one_if (lies who l) + count who ys)
count_at who xs ys l = count_append who xs (l ∷ ys) ∙ ap (λ n. count who xs + n) (count_more who l ys)

module _ (n : ℕ) (it : TickOrRun) (w : World) (q : Plain Output Waker) (r : Follows w q) (k : Lies (who_of it) q.lying) where
  abbrev others : List (Lying Waker)
  others = without (lies (who_of it)) q.lying

  its_who : who_of it ≡ k.one.who
  its_who = same_who (who_of it) k.one.who k.it

  pub count_before : (who : Who) → count who q.lying ≡ count who k.before + (one_if (is_who who k.one.who) + count who k.after)
  count_before who = ap (count who) k.is ∙ count_at who k.before k.after k.one

  pub count_others : (who : Who) → count who others ≡ count who k.before + count who k.after
  count_others who =
      ap (count who)
      (ap (without (lies (who_of it))) k.is ∙ without_at (lies (who_of it)) k.before k.after k.one k.none_before k.it)
      ∙ count_append who k.before k.after

  module _ (is : place_of w it ≡ Asleep n) (y : Ticker) (up : sleeps y ≡ 0) where
    its_count : count (who_of it) others ≡ 0
    its_count =
        let here : one_if (is_who (who_of it) k.one.who) ≡ 1 = ap one_if k.it in
        let one : count (who_of it) q.lying ≡ 1 = lies_so w q r it ∙ ap sleeps is in
        omega (arith, count_others (who_of it), count_before (who_of it), here, one)

    -- it sleeps no more, and the others do
    pub asleep_up : (x : TickOrRun)
        → count (who_of x) others ≡ sleeps (place_in (ticks_with w.ticks it y) (runs_with w.runs it y) x)
    asleep_up x = by x (which it x)
      where
        by : (x : TickOrRun) → Which it x
            → count (who_of x) others ≡ sleeps (place_in (ticks_with w.ticks it y) (runs_with w.runs it y) x)
        by x It = its_count ∙ sym (awake_here w.ticks w.runs it y up)
        by x (Another z apart turned_apart) =
            let none : one_if (is_who (who_of z) k.one.who) ≡ 0 =
            ap (λ who. one_if (is_who (who_of z) who)) (sym its_who) ∙ ap one_if apart in
            let same : count (who_of z) others ≡ count (who_of z) q.lying =
            omega (arith, count_others (who_of z), count_before (who_of z), none) in
            same ∙ (r.asleep z ∙ ap sleeps (sym (place_apart w.ticks w.runs it y z turned_apart)))

    pub numbered_up : Up n (who_of it) w q
        → AreNumbered (ticks_with w.ticks it y) (runs_with w.runs it y) (woken_up n w.sleepers).wakers
    numbered_up u =
        numbered_apart w.ticks w.runs it y (woken_up n w.sleepers).wakers others u.wakers (nobody (who_of it) others its_count)
        (u.numbered w.ticks w.runs r.numbered)
