-- Who sleeps under which number, and how many lie of whom.
use Rattle.std.proofs.Common.{◌≡◌, ℕ, zero, suc, ◌+◌, ◌==◌, ◌++◌, cond, Bool, true, false, List, [], ◌∷◌, length, map, take}
use Rattle.std.proofs.Common.{get_or, if◌then◌else◌, Option, Some, None, slice_get, slice_set, refl, sym, ap, subst, ◌∙◌, arith}
use Rattle.std.specs.Prelude.{filter}
use Rattle.std.proofs.lemmas.List.{get_or-set_other}
use Rattle.executor_model.specs.declared.op.Sleeping.{Sleeping}
use Rattle.executor_model.specs.declared.op.TickOrRun.{TickOrRun}
use Rattle.executor_model.specs.declared.op.TickOrRun.TheVariants as tick_or_run
use Rattle.executor_model.specs.declared.op.Waker.{Waker}
use Rattle.executor_model.specs.SleepersAgree.{sleeps}
use Rattle.executor_model.specs.World.{Asleep, Awake, Left, Run, Ticker, World, new_run, no_run, place_of, runs_with, ticks_with}
use Rattle.plain_scheduler.specs.State.{ARun, ATick, Lying, Plain, Who}
use Rattle.plain_scheduler.specs.Lists.{any, or}
use Rattle.plain_scheduler.specs.Moves.{is_who, lies}
use Rattle.machine_roads.specs.View.{Output}
use Rattle.machine_roads.specs.Road.{AreNumbered, Follows, place_in, run_view, sleeper, uncalled, who_of}
use Rattle.machine_roads.specs.Alone.{SleepsAlone}
use Rattle.machine_roads.proofs.Lists.{apart_of, clash, equal, same_of, turned}
use Rattle.machine_roads.proofs.Lying.{called_one}

-- how many lie of whom
abbrev pub count : Who → List (Lying Waker) → ℕ
count who ls = length (filter (lies who) ls)

abbrev pub one_if : Bool → ℕ
one_if b = if b then 1 else 0

count_by : (b : Bool) (l : Lying Waker) (ls : List (Lying Waker)) → length (cond b (l ∷ ls) ls) ≡ one_if b + length ls
count_by true l ls = omega arith
count_by false l ls = omega arith

pub count_more : (who : Who) (l : Lying Waker) (ls : List (Lying Waker)) → count who (l ∷ ls) ≡ one_if (lies who l) + count who ls
count_more who l ls = count_by (lies who l) l (filter (lies who) ls)

pub count_append : (who : Who) (xs ys : List (Lying Waker)) → count who (xs ++ ys) ≡ count who xs + count who ys
count_append who [] ys = omega arith
count_append who (x ∷ xs) ys =
    omega (arith, count_more who x (xs ++ ys), count_more who x xs, count_append who xs ys)

pub count_one : (who : Who) (l : Lying Waker) → count who (l ∷ []) ≡ one_if (lies who l)
count_one who l = by (lies who l)
  where
    by : (b : Bool) → length (cond b (l ∷ []) []) ≡ one_if b
    by true = refl
    by false = refl

-- who is called lies on
pub count_called : (who : Who) (ls : List (Lying Waker)) (i : ℕ) (l : Lying Waker) → slice_get ls i ≡ Some l
    → count who (slice_set ls i (called_one l)) ≡ count who ls
count_called who [] i l is = refl
count_called who (m ∷ ls) zero l is =
    count_more who (called_one l) ls
    ∙ (ap (λ (o : Option (Lying Waker)). one_if (or o (λ m. lies who m) false) + count who ls) (sym is) ∙ sym (count_more who m ls))
count_called who (m ∷ ls) (suc i) l is =
    count_more who m (slice_set ls i (called_one l))
    ∙ (ap (λ n. one_if (lies who m) + n) (count_called who ls i l is) ∙ sym (count_more who m ls))

-- this tick or run, or another
pub data Which (who : TickOrRun) : TickOrRun → Type 0 where
  It : Which who who
  Another : (x : TickOrRun) → is_who (who_of x) (who_of who) ≡ false → is_who (who_of who) (who_of x) ≡ false → Which who x

pub which : (who x : TickOrRun) → Which who x
which (tick_or_run.Tick t) (tick_or_run.Tick u) = by (u == t) refl
  where
    by : (b : Bool) → (u == t) ≡ b → Which (tick_or_run.Tick t) (tick_or_run.Tick u)
    by true same = subst (λ u. Which (tick_or_run.Tick t) (tick_or_run.Tick u)) (sym (same_of u t same)) It
    by false apart = Another (tick_or_run.Tick u) apart (turned u t apart)
which (tick_or_run.Run r) (tick_or_run.Run k) = by (k == r) refl
  where
    by : (b : Bool) → (k == r) ≡ b → Which (tick_or_run.Run r) (tick_or_run.Run k)
    by true same = subst (λ k. Which (tick_or_run.Run r) (tick_or_run.Run k)) (sym (same_of k r same)) It
    by false apart = Another (tick_or_run.Run k) apart (turned k r apart)
which (tick_or_run.Tick t) (tick_or_run.Run r) = Another (tick_or_run.Run r) refl refl
which (tick_or_run.Run r) (tick_or_run.Tick t) = Another (tick_or_run.Tick t) refl refl

pub who_is : (who x : TickOrRun) → is_who (who_of who) (who_of x) ≡ true → x ≡ who
who_is (tick_or_run.Tick t) (tick_or_run.Tick u) is = ap tick_or_run.Tick (sym (same_of t u is))
who_is (tick_or_run.Run r) (tick_or_run.Run k) is = ap tick_or_run.Run (sym (same_of r k is))
who_is (tick_or_run.Tick t) (tick_or_run.Run r) is = absurd cc
who_is (tick_or_run.Run r) (tick_or_run.Tick t) is = absurd cc

pub itself : (who : TickOrRun) → is_who (who_of who) (who_of who) ≡ true
itself (tick_or_run.Tick t) = equal t t refl
itself (tick_or_run.Run r) = equal r r refl

pub same_who : (x y : Who) → is_who x y ≡ true → x ≡ y
same_who (ATick t) (ATick u) is = ap ATick (same_of t u is)
same_who (ARun r) (ARun k) is = ap ARun (same_of r k is)
same_who (ATick t) (ARun r) is = absurd cc
same_who (ARun r) (ATick t) is = absurd cc

pub place_is : (w : World) (x : TickOrRun) → place_of w x ≡ place_in w.ticks w.runs x
place_is w (tick_or_run.Tick t) = refl
place_is w (tick_or_run.Run r) = refl

-- where the others are, once one is put elsewhere
pub place_apart : (ticks : List Ticker) (runs : List Run) (who : TickOrRun) (y : Ticker) (x : TickOrRun)
    → is_who (who_of who) (who_of x) ≡ false → place_in (ticks_with ticks who y) (runs_with runs who y) x ≡ place_in ticks runs x
place_apart ticks runs (tick_or_run.Tick t) y (tick_or_run.Tick u) apart =
    get_or-set_other ticks t u y Left (λ is. apart_of t u apart (sym is))
place_apart ticks runs (tick_or_run.Run r) y (tick_or_run.Run k) apart =
    ap (λ (x : Run). x.place)
    (get_or-set_other runs r k (record (get_or runs r no_run) { place = y }) no_run (λ is. apart_of r k apart (sym is)))
place_apart ticks runs (tick_or_run.Tick t) y (tick_or_run.Run r) apart = refl
place_apart ticks runs (tick_or_run.Run r) y (tick_or_run.Tick t) apart = refl

pub awake_here : (ticks : List Ticker) (runs : List Run) (who : TickOrRun) (y : Ticker) → sleeps y ≡ 0
    → sleeps (place_in (ticks_with ticks who y) (runs_with runs who y) who) ≡ 0
awake_here ticks runs (tick_or_run.Tick t) y awake = by ticks t
  where
    by : (ticks : List Ticker) (t : ℕ) → sleeps (get_or (slice_set ticks t y) t Left) ≡ 0
    by [] t = refl
    by (x ∷ xs) zero = awake
    by (x ∷ xs) (suc t) = by xs t
awake_here ticks runs (tick_or_run.Run r) y awake = by runs r (get_or runs r no_run)
  where
    by : (runs : List Run) (r : ℕ) (x : Run) → sleeps (get_or (slice_set runs r (record x { place = y })) r no_run).place ≡ 0
    by [] r x = refl
    by (z ∷ zs) zero x = awake
    by (z ∷ zs) (suc r) x = by zs r x

-- of a run the plain scheduler has no place
pub put_view : (runs : List Run) (r : ℕ) (x : Run) → run_view x ≡ run_view (get_or runs r no_run)
    → map run_view (slice_set runs r x) ≡ map run_view runs
put_view [] r x same = refl
put_view (y ∷ ys) zero x same = ap (λ run. run ∷ map run_view ys) same
put_view (y ∷ ys) (suc r) x same = ap (λ runs. run_view y ∷ runs) (put_view ys r x same)

pub placed_view : (runs : List Run) (who : TickOrRun) (y : Ticker) → map run_view (runs_with runs who y) ≡ map run_view runs
placed_view runs (tick_or_run.Tick t) y = refl
placed_view runs (tick_or_run.Run r) y = put_view runs r (record (get_or runs r no_run) { place = y }) refl

not_both : (x : Ticker) (n : ℕ) → sleeps x ≡ 0 → x ≡ Asleep n → ⊥
not_both x n awake is = omega (arith, awake, ap sleeps is)

module _ (ticks : List Ticker) (runs : List Run) (who : TickOrRun) (y : Ticker) (awake : sleeps (place_in ticks runs who) ≡ 0) where
  -- who was awake and stays so
  pub sleeps_set : sleeps y ≡ 0 → (x : TickOrRun)
      → sleeps (place_in (ticks_with ticks who y) (runs_with runs who y) x) ≡ sleeps (place_in ticks runs x)
  sleeps_set still x = by x (which who x)
    where
      by : (x : TickOrRun) → Which who x
          → sleeps (place_in (ticks_with ticks who y) (runs_with runs who y) x) ≡ sleeps (place_in ticks runs x)
      by x It = awake_here ticks runs who y still ∙ sym awake
      by x (Another z apart turned_apart) = ap sleeps (place_apart ticks runs who y z turned_apart)

  -- and wherever it is put, who sleeps sleeps on
  pub asleep_set : (x : TickOrRun) (n : ℕ) → place_in ticks runs x ≡ Asleep n
      → place_in (ticks_with ticks who y) (runs_with runs who y) x ≡ Asleep n
  asleep_set x n is = by x (which who x) is
    where
      by : (x : TickOrRun) → Which who x → place_in ticks runs x ≡ Asleep n
          → place_in (ticks_with ticks who y) (runs_with runs who y) x ≡ Asleep n
      by x It is = absurd (not_both (place_in ticks runs who) n awake is)
      by x (Another z apart turned_apart) is = place_apart ticks runs who y z turned_apart ∙ is

-- a new tick
pub sleeps_last : (ticks : List Ticker) (runs : List Run) (x : TickOrRun)
    → sleeps (place_in (ticks ++ Awake ∷ []) runs x) ≡ sleeps (place_in ticks runs x)
sleeps_last ticks runs (tick_or_run.Run r) = refl
sleeps_last ticks runs (tick_or_run.Tick t) = by ticks t
  where
    by : (ticks : List Ticker) (t : ℕ) → sleeps (get_or (ticks ++ Awake ∷ []) t Left) ≡ sleeps (get_or ticks t Left)
    by [] zero = refl
    by [] (suc t) = refl
    by (x ∷ xs) zero = refl
    by (x ∷ xs) (suc t) = by xs t

pub asleep_last : (ticks : List Ticker) (runs : List Run) (x : TickOrRun) (n : ℕ) → place_in ticks runs x ≡ Asleep n
    → place_in (ticks ++ Awake ∷ []) runs x ≡ Asleep n
asleep_last ticks runs (tick_or_run.Run r) n is = is
asleep_last ticks runs (tick_or_run.Tick t) n is = by ticks t is
  where
    by : (ticks : List Ticker) (t : ℕ) → get_or ticks t Left ≡ Asleep n → get_or (ticks ++ Awake ∷ []) t Left ≡ Asleep n
    by [] t is = absurd cc
    by (x ∷ xs) zero is = is
    by (x ∷ xs) (suc t) is = by xs t is

-- a new run
pub sleeps_run : (ticks : List Ticker) (runs : List Run) (x : TickOrRun)
    → sleeps (place_in ticks (runs ++ new_run ∷ []) x) ≡ sleeps (place_in ticks runs x)
sleeps_run ticks runs (tick_or_run.Tick t) = refl
sleeps_run ticks runs (tick_or_run.Run r) = by runs r
  where
    by : (runs : List Run) (r : ℕ) → sleeps (get_or (runs ++ new_run ∷ []) r no_run).place ≡ sleeps (get_or runs r no_run).place
    by [] zero = refl
    by [] (suc r) = refl
    by (x ∷ xs) zero = refl
    by (x ∷ xs) (suc r) = by xs r

pub asleep_run : (ticks : List Ticker) (runs : List Run) (x : TickOrRun) (n : ℕ) → place_in ticks runs x ≡ Asleep n
    → place_in ticks (runs ++ new_run ∷ []) x ≡ Asleep n
asleep_run ticks runs (tick_or_run.Tick t) n is = is
asleep_run ticks runs (tick_or_run.Run r) n is = by runs r is
  where
    by : (runs : List Run) (r : ℕ) → (get_or runs r no_run).place ≡ Asleep n → (get_or (runs ++ new_run ∷ []) r no_run).place ≡ Asleep n
    by [] r is = absurd cc
    by (x ∷ xs) zero is = is
    by (x ∷ xs) (suc r) is = by xs r is

pub own_run : (own : List (List ℕ)) (r : ℕ) → get_or (own ++ [] ∷ []) r [] ≡ get_or own r []
own_run [] zero = refl
own_run [] (suc r) = refl
own_run (x ∷ xs) zero = refl
own_run (x ∷ xs) (suc r) = own_run xs r

-- numbered sleepers: fewer, more, and elsewhere
module _ (ticks : List Ticker) (runs : List Run) where
  pub numbered_append : (xs ys : List (ℕ × Sleeping)) → AreNumbered ticks runs xs → AreNumbered ticks runs ys
      → AreNumbered ticks runs (xs ++ ys)
  numbered_append [] ys all more = more
  numbered_append (x ∷ xs) ys all more = (all.0, numbered_append xs ys all.1 more)

  pub numbered_first : (xs ys : List (ℕ × Sleeping)) → AreNumbered ticks runs (xs ++ ys) → AreNumbered ticks runs xs
  numbered_first [] ys all = tt
  numbered_first (x ∷ xs) ys all = (all.0, numbered_first xs ys all.1)

  pub numbered_rest : (xs ys : List (ℕ × Sleeping)) → AreNumbered ticks runs (xs ++ ys) → AreNumbered ticks runs ys
  numbered_rest [] ys all = all
  numbered_rest (x ∷ xs) ys all = numbered_rest xs ys all.1

  pub numbered_take : (n : ℕ) (xs : List (ℕ × Sleeping)) → AreNumbered ticks runs xs → AreNumbered ticks runs (take n xs)
  numbered_take zero xs all = tt
  numbered_take (suc n) [] all = tt
  numbered_take (suc n) (x ∷ xs) all = (all.0, numbered_take n xs all.1)

  pub numbered_still : (others : List Ticker) (more : List Run)
      → ((x : TickOrRun) (n : ℕ) → place_in ticks runs x ≡ Asleep n → place_in others more x ≡ Asleep n)
      → (xs : List (ℕ × Sleeping)) → AreNumbered ticks runs xs → AreNumbered others more xs
  numbered_still others more still [] all = tt
  numbered_still others more still (x ∷ xs) all = (still x.1.who x.0 all.0, numbered_still others more still xs all.1)

  -- where none of them is this one
  pub numbered_apart : (it : TickOrRun) (y : Ticker) (xs : List (ℕ × Sleeping)) (ls : List (Lying Waker)) → map sleeper xs ≡ uncalled ls
      → any (lies (who_of it)) ls ≡ false → AreNumbered ticks runs xs → AreNumbered (ticks_with ticks it y) (runs_with runs it y) xs
  numbered_apart it y xs ls same none all = by xs (subst NoneIs (sym same) (none_is ls none)) all
    where
      NoneIs : List (Who × Waker) → Type 0
      NoneIs [] = Unit {0}
      NoneIs (e ∷ es) = (is_who (who_of it) e.0 ≡ false) × NoneIs es

      neither : (a b : Bool) → cond a true b ≡ false → (a ≡ false) × (b ≡ false)
      neither true b is = absurd cc
      neither false b is = (refl, is)

      none_is : (ls : List (Lying Waker)) → any (lies (who_of it)) ls ≡ false → NoneIs (uncalled ls)
      none_is [] none = tt
      none_is (l ∷ ls) none =
          let both = neither (lies (who_of it) l) (any (lies (who_of it)) ls) none in
          waker l.waker both.0 (none_is ls both.1)
        where
          waker : (o : Option Waker) → is_who (who_of it) l.who ≡ false → NoneIs (uncalled ls)
              → NoneIs (or o (λ waker. (l.who, waker) ∷ uncalled ls) (uncalled ls))
          waker None apart rest = rest
          waker (Some a) apart rest = (apart, rest)

      by : (xs : List (ℕ × Sleeping)) → NoneIs (map sleeper xs) → AreNumbered ticks runs xs
          → AreNumbered (ticks_with ticks it y) (runs_with runs it y) xs
      by [] none all = tt
      by (x ∷ xs) none all = (place_apart ticks runs it y x.1.who none.0 ∙ all.0, by xs none.1 all.1)

-- of those who sleep and weren't called, who has this number is this one
abbrev pub IsNamed : ℕ → Who → List (ℕ × Sleeping) → Type 0
IsNamed n who [] = Unit {0}
IsNamed n who (e ∷ es) = ((n == e.0) ≡ is_who who (who_of e.1.who)) × IsNamed n who es

abbrev number_of : Ticker → ℕ
number_of (Asleep n) = n
number_of Awake = 0
number_of Left = 0

is_named : (n : ℕ) (who : TickOrRun) (ticks : List Ticker) (runs : List Run) (ws : List (ℕ × Sleeping))
    → place_in ticks runs who ≡ Asleep n → ((x : TickOrRun) → place_in ticks runs x ≡ Asleep n → x ≡ who) → AreNumbered ticks runs ws
    → IsNamed n (who_of who) ws
is_named n who ticks runs [] is only all = tt
is_named n who ticks runs (e ∷ es) is only all =
    (one (n == e.0) refl (is_who (who_of who) (who_of e.1.who)) refl, is_named n who ticks runs es is only all.1)
  where
    one : (a : Bool) → (n == e.0) ≡ a → (b : Bool) → is_who (who_of who) (who_of e.1.who) ≡ b → a ≡ b
    one true same true it = refl
    one false apart false it = refl
    one true same false it =
        let same_one : e.1.who ≡ who = only e.1.who (all.0 ∙ ap Asleep (sym (same_of n e.0 same))) in
        absurd (clash it (ap (λ x. is_who (who_of who) (who_of x)) same_one ∙ itself who))
    one false apart true it =
        let here : place_in ticks runs who ≡ Asleep e.0 =
        sym (ap (λ x. place_in ticks runs x) (who_is who e.1.who it)) ∙ all.0 in
        absurd (apart_of n e.0 apart (ap number_of (sym is ∙ here)))

-- a tick or run that sleeps in the machine lies, once, and has its number alone; any other doesn't lie
pub data Rests (w : World) (q : Plain Output Waker) (who : TickOrRun) : Type 0 where
  up : sleeps (place_of w who) ≡ 0 → any (lies (who_of who)) q.lying ≡ false → Rests w q who
  down : (n : ℕ) → place_of w who ≡ Asleep n → IsNamed n (who_of who) w.sleepers.wakers → count (who_of who) q.lying ≡ 1 → Rests w q who

pub nobody : (who : Who) (ls : List (Lying Waker)) → count who ls ≡ 0 → any (lies who) ls ≡ false
nobody who [] none = refl
nobody who (l ∷ ls) none = by (lies who l) none (nobody who ls)
  where
    by : (b : Bool) → length (cond b (l ∷ filter (lies who) ls) (filter (lies who) ls)) ≡ 0
        → (count who ls ≡ 0 → any (lies who) ls ≡ false) → cond b true (any (lies who) ls) ≡ false
    by true none rest = absurd (omega (arith, none))
    by false none rest = rest none

-- who sleeps in the machine lies so often
pub lies_so : (w : World) (q : Plain Output Waker) → Follows w q → (who : TickOrRun) → count (who_of who) q.lying ≡ sleeps (place_of w who)
lies_so w q r who = r.asleep who ∙ ap sleeps (sym (place_is w who))

-- so does each where nobody else has its number, if it sleeps
pub rests_if : (who : TickOrRun) (w : World) (q : Plain Output Waker) → Follows w q
    → ((n : ℕ) → place_of w who ≡ Asleep n → SleepsAlone w who) → Rests w q who
rests_if who w q r only = by (place_of w who) refl
  where
    by : (x : Ticker) → place_of w who ≡ x → Rests w q who
    by Awake is = up (ap sleeps is) (nobody (who_of who) q.lying (lies_so w q r who ∙ ap sleeps is))
    by Left is = up (ap sleeps is) (nobody (who_of who) q.lying (lies_so w q r who ∙ ap sleeps is))
    by (Asleep n) is =
        down n is
        (is_named n who w.ticks w.runs w.sleepers.wakers (sym (place_is w who) ∙ is) (λ x there. only n is n is x (place_is w x ∙ there))
        r.numbered)
        (lies_so w q r who ∙ ap sleeps is)
