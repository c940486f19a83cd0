-- One that lay gets up: its entry goes from the sleepers, its number is given back, and its waker is let go.
use Rattle.std.proofs.Common.{◌≡◌, ℕ, zero, suc, ◌+◌, ◌-◌, ◌≤◌, ◌==◌, nat_lt, cond, Bool, true, false, List, [], ◌∷◌, ◌++◌, length, map}
use Rattle.std.proofs.Common.{find}
use Rattle.std.proofs.Common.{Option, Some, None, slice_get, take, append_assoc, append-nil, refl, sym, ap, subst, ◌∙◌, arith}
use Rattle.executor_parts.specs.Sleepers.{Sleepers, flag_of, freed, position_of, waker_at, waker_of, waker_in, without_entry, woken_up}
use Rattle.solo.specs.declared.names.Task.{Task}
use Rattle.solo.specs.declared.names.SoloWaker.{SoloWaker}
use Rattle.solo.specs.declared.names.SoloWaker.TheVariants.{Task as OfTask}
use Rattle.solo.specs.declared.owed.Lent.{Lent}
use Rattle.solo.specs.declared.solo.Solo.{Solo}
use Rattle.solo.specs.Ticks as ticks
use Rattle.plain_scheduler.specs.State.{Due, Who, Lying, Choice, Plain}
use Rattle.plain_scheduler.specs.Lists.{any, without}
use Rattle.plain_scheduler.specs.Moves.{is_who, lies}
use Rattle.solo_laws.specs.Numbered.{IsNumbered, entries, numbers}
use Rattle.solo_laws.specs.Road.{FollowsBut, IsAsleep, is_in, apart, wakers_in, first_if, waiting}
use Rattle.solo_laws.specs.Tabled.{IsTable}
use Rattle.solo_laws.proofs.Following.Adding.{apart_last, map_twice}
use Rattle.solo_laws.proofs.Following.Bases as bases
use Rattle.solo_laws.proofs.Following.Frames.{Still}
use Rattle.solo_laws.proofs.Following.Lists.{map_append, map_take, length_map, take_same}
use Rattle.solo_laws.proofs.Following.Numbers.{Split, split, waits, called, short, flag, waking, numbered, same_pairs, is_less}
use Rattle.solo_laws.proofs.Following.Numbers.{is_in_more, is_in_first, apart_fewer, none_lies}

less_one : (a b c : ℕ) → a ≡ b → suc c ≡ b → a - 1 ≡ c
less_one a b c is next = omega (arith, is, next)

given_back : (a f c : ℕ) → suc c ≡ a → (a - 1) + (f + 1) ≡ a + f
given_back a f c is = omega (arith, is)

pub apart_first : (xs ys : List ℕ) → apart (xs ++ ys) ≡ true → apart xs ≡ true
apart_first xs [] is = ap apart (sym (append-nil xs)) ∙ is
apart_first xs (y ∷ ys) is = apart_first xs ys (apart_fewer xs ys y is).0

module _ {A : Type 0} where
  long_more : (xs ys : List A) (x : A) → length (xs ++ x ∷ ys) ≡ suc (length (xs ++ ys))
  long_more [] ys x = refl
  long_more (z ∷ zs) ys x = ap suc (long_more zs ys x)

  pub long_last : (xs : List A) (x : A) → length (xs ++ x ∷ []) ≡ length xs + 1
  long_last xs x = let it = long_more xs [] x in omega (arith, it, ap length (append-nil xs))

  pub wakers_append : (ls ms : List (Lying A)) → wakers_in (ls ++ ms) ≡ wakers_in ls ++ wakers_in ms
  wakers_append [] ms = refl
  wakers_append (a ∷ ls) ms = by a.waker (wakers_append ls ms)
    where
      by : (o : Option A) → wakers_in (ls ++ ms) ≡ wakers_in ls ++ wakers_in ms
          → first_if o (wakers_in (ls ++ ms)) ≡ first_if o (wakers_in ls) ++ wakers_in ms
      by None rest = rest
      by (Some w) rest = ap (λ ws. w ∷ ws) rest

  pub get_past : (o : Option A) (xs ys : List A) (at : ℕ) (x : A) → slice_get (xs ++ ys) at ≡ Some x
      → (i : ℕ) × (slice_get (xs ++ first_if o ys) i ≡ Some x)
  get_past None [] ys at x is = (at, is)
  get_past (Some w) [] ys at x is = (suc at, is)
  get_past o (z ∷ zs) ys zero x is = (0, is)
  get_past o (z ∷ zs) ys (suc at) x is = let it = get_past o zs ys at x is in (suc it.0, it.1)

module _ {F T X : Type 0} (aside : Option Due) (name : ℕ → Task) (s : Solo F T X) (p : Plain T (SoloWaker X))
    (r : FollowsBut aside name s p) (sleepers : Sleepers (SoloWaker X)) (notified : Bool) (lying : List (Lying (SoloWaker X)))
    (asleep : IsAsleep name (length p.futures) sleepers notified lying) where
  -- others sleep, as others lie
  pub sleeps : FollowsBut aside name (record s { sleepers = sleepers; notified = notified }) (record p { lying = lying })
  sleeps = record {
    numbered = r.numbered;
    tasks = r.tasks;
    within = r.within;
    queued = r.queued;
    once = r.once;
    ready = r.ready;
    asleep = asleep;
    awaiters = r.awaiters;
    inside = r.inside;
  }

-- that is nothing to the table
pub sleeps_tabled : {F T X : Type 0} (its : ℕ → Lent) (s : Solo F T X) (p : Plain T (SoloWaker X)) (sleepers : Sleepers (SoloWaker X))
    (notified : Bool) (lying : List (Lying (SoloWaker X))) → IsTable its s p
    → IsTable its (record s { sleepers = sleepers; notified = notified }) (record p { lying = lying })
sleeps_tabled its s p sleepers notified lying t = record {
  rows = t.rows;
  homes = t.homes;
  keys_apart = t.keys_apart;
  limit = t.limit;
  accepted = t.accepted;
  kind = t.kind;
  lent = t.lent;
  dropping = t.dropping;
  made = t.made;
  queues = t.queues;
  kept = t.kept;
  numbers_apart = t.numbers_apart;
  going = t.going;
  leaving = t.leaving;
  leaving_open = t.leaving_open;
  leaving_limit = t.leaving_limit;
  few = t.few;
  unleaked = t.unleaked;
}

module _ {F T X : Type 0} (aside : Option Due) (name : ℕ → Task) (number : Who → ℕ) (s : Solo F T X) (p : Plain T (SoloWaker X))
    (r : FollowsBut aside name s p) (n : IsNumbered number s.sleepers p.lying) (who : Who) (l : Lying (SoloWaker X))
    (is : find (lies who) p.lying ≡ Some l) where
  abbrev pub left : List (Lying (SoloWaker X))
  left = without (lies who) p.lying

  pub once : apart (numbers number p.lying) ≡ true
  once = apart_first (numbers number p.lying) s.sleepers.free n.once

  pub its_split : Split number who p.lying l
  its_split = split number who p.lying l is

  pub long : suc (length left) ≡ length p.lying
  long =
      ap (λ (ls : List (Lying (SoloWaker X))). suc (length ls)) its_split.others
      ∙ (sym (long_more its_split.before its_split.after l) ∙ sym (ap (λ (ls : List (Lying (SoloWaker X))). length ls) its_split.all))

  -- its waker is that under its number, until it was called
  pub waker_is : waker_of (number who) s.sleepers.wakers ≡ l.waker
  waker_is = ap (waker_of (number who)) n.wakers ∙ by l.waker refl
    where
      by : (o : Option (SoloWaker X)) → l.waker ≡ o → waker_of (number who) (entries number p.lying) ≡ o
      by None none =
          ap (λ o. waker_at o (entries number p.lying)) (called number who p.lying l is none once).0
      by (Some w) has =
          let a = waits number who p.lying l w is has once in
          ap (λ o. waker_at o (entries number p.lying)) a.place ∙ ap waker_in a.there

  abbrev pub sleepers : Sleepers (SoloWaker X)
  sleepers = record s.sleepers {
    wakers = entries number left;
    count = s.sleepers.count - 1;
    free = s.sleepers.free ++ number who ∷ [];
  }

  gone_is : without_entry (position_of (number who) s.sleepers.wakers) s.sleepers
      ≡ record s.sleepers { wakers = entries number left }
  gone_is =
      ap (λ ws. without_entry (position_of (number who) ws) (record s.sleepers { wakers = ws })) n.wakers ∙ by l.waker refl
    where
      by : (o : Option (SoloWaker X)) → l.waker ≡ o
          → without_entry (position_of (number who) (entries number p.lying)) (record s.sleepers { wakers = entries number p.lying })
          ≡ record s.sleepers { wakers = entries number left }
      by None none =
          let it = called number who p.lying l is none once in
          ap (λ o. without_entry o (record s.sleepers { wakers = entries number p.lying })) it.0
          ∙ ap (λ ws. record s.sleepers { wakers = ws }) (sym it.1)
      by (Some w) has =
          let a = waits number who p.lying l w is has once in
          ap (λ o. without_entry o (record s.sleepers { wakers = entries number p.lying })) a.place
          ∙ ap (λ ws. record s.sleepers { wakers = ws }) (sym a.gone_is)

  pub less : nat_lt (length (entries number left)) s.sleepers.count ≡ true
  less =
      ap (nat_lt (length (entries number left))) (r.asleep.count ∙ sym long)
      ∙ is_less (length (entries number left)) (length left) (short number left)

  pub woken_is : woken_up (number who) s.sleepers ≡ sleepers
  woken_is =
      ap (freed (number who)) gone_is
      ∙ ap (λ b. elim b [ true ↦ sleepers | false ↦ record s.sleepers { wakers = entries number left } ]) less

  pub count_is : s.sleepers.count - 1 ≡ length left
  count_is = less_one s.sleepers.count (length p.lying) (length left) r.asleep.count long

  pub asleep : IsAsleep name (length p.futures) sleepers (flag_of sleepers) left
  asleep = record {
    wakers = waking number left;
    count = count_is;
    flag = flag number sleepers left refl count_is;
    callers = λ at t has.
        let it =
        get_past l.waker (wakers_in its_split.before) (wakers_in its_split.after) at (OfTask t)
        (sym (ap (λ ws. slice_get ws at)
        (ap (λ ls. wakers_in ls) its_split.others ∙ wakers_append its_split.before its_split.after)) ∙ has) in
        r.asleep.callers it.0 t
        (ap (λ ws. slice_get ws it.0)
        (ap (λ ls. wakers_in ls) its_split.all ∙ wakers_append its_split.before (l ∷ its_split.after)) ∙ it.1);
  }

  -- the numbers of all, and of the others
  numbers_all : numbers number p.lying ++ s.sleepers.free
      ≡ numbers number its_split.before ++ (number who ∷ (numbers number its_split.after ++ s.sleepers.free))
  numbers_all =
      ap (λ (ls : List (Lying (SoloWaker X))). numbers number ls ++ s.sleepers.free) its_split.all
      ∙ (ap (λ ns. ns ++ s.sleepers.free)
      (map_append (λ (l : Lying (SoloWaker X)). number l.who) its_split.before (l ∷ its_split.after))
      ∙ (append_assoc (numbers number its_split.before) (number l.who ∷ numbers number its_split.after) s.sleepers.free
      ∙ ap (λ w. numbers number its_split.before ++ (number w ∷ (numbers number its_split.after ++ s.sleepers.free))) its_split.its_own))

  abbrev others : List ℕ
  others = numbers number its_split.before ++ (numbers number its_split.after ++ s.sleepers.free)

  numbers_left : numbers number left ++ (s.sleepers.free ++ number who ∷ []) ≡ others ++ number who ∷ []
  numbers_left =
      ap (λ (ls : List (Lying (SoloWaker X))). numbers number ls ++ (s.sleepers.free ++ number who ∷ [])) its_split.others
      ∙ (ap (λ ns. ns ++ (s.sleepers.free ++ number who ∷ []))
      (map_append (λ (l : Lying (SoloWaker X)). number l.who) its_split.before its_split.after)
      ∙ (append_assoc (numbers number its_split.before) (numbers number its_split.after) (s.sleepers.free ++ number who ∷ [])
      ∙ (ap (λ ns. numbers number its_split.before ++ ns)
      (sym (append_assoc (numbers number its_split.after) s.sleepers.free (number who ∷ [])))
      ∙ sym (append_assoc (numbers number its_split.before) (numbers number its_split.after ++ s.sleepers.free) (number who ∷ [])))))

  pub numbered_so : IsNumbered number sleepers left
  numbered_so =
      let two =
      apart_fewer (numbers number its_split.before) (numbers number its_split.after ++ s.sleepers.free) (number who)
      (sym (ap apart numbers_all) ∙ n.once) in
      record {
        wakers = refl;
        once = ap apart numbers_left ∙ apart_last others (number who) two.0 two.1;
        few = λ m has.
            let in_all : is_in m (numbers number p.lying ++ s.sleepers.free) ≡ true =
            ap (is_in m) numbers_all
            ∙ (is_in_more m (numbers number its_split.before) (numbers number its_split.after ++ s.sleepers.free) (number who)
            ∙ (sym (is_in_more m others [] (number who) ∙ ap (λ ns. cond (m == number who) true (is_in m ns)) (append-nil others))
            ∙ (sym (ap (is_in m) numbers_left) ∙ has))) in
            subst (λ k. m ≤ k)
            (sym (ap (λ k. (s.sleepers.count - 1) + k) (long_last s.sleepers.free (number who))
            ∙ given_back s.sleepers.count (length s.sleepers.free) (length left) (long ∙ sym r.asleep.count)))
            (n.few m in_all);
      }

  left_all : numbers number left ++ s.sleepers.free ≡ others
  left_all =
      ap (λ (ls : List (Lying (SoloWaker X))). numbers number ls ++ s.sleepers.free) its_split.others
      ∙ (ap (λ ns. ns ++ s.sleepers.free)
      (map_append (λ (l : Lying (SoloWaker X)). number l.who) its_split.before its_split.after)
      ∙ append_assoc (numbers number its_split.before) (numbers number its_split.after) s.sleepers.free)

  -- the others have other numbers
  pub others_left : (apart (numbers number left ++ s.sleepers.free) ≡ true)
      × (is_in (number who) (numbers number left ++ s.sleepers.free) ≡ false)
  others_left =
      let two =
      apart_fewer (numbers number its_split.before) (numbers number its_split.after ++ s.sleepers.free) (number who)
      (sym (ap apart numbers_all) ∙ n.once) in
      (ap apart left_all ∙ two.0, ap (is_in (number who)) left_all ∙ two.1)

  pub in_all : (m : ℕ) → is_in m (numbers number p.lying ++ s.sleepers.free)
      ≡ cond (m == number who) true (is_in m (numbers number left ++ s.sleepers.free))
  in_all m =
      ap (is_in m) numbers_all
      ∙ (is_in_more m (numbers number its_split.before) (numbers number its_split.after ++ s.sleepers.free) (number who)
      ∙ ap (λ ns. cond (m == number who) true (is_in m ns)) (sym left_all))

  -- it lies no more
  pub up_now : any (is_who who) (map (λ (l : Lying (SoloWaker X)). l.who) left) ≡ false
  up_now = none_lies number who left (is_in_first (number who) (numbers number left) s.sleepers.free others_left.1)

  pub stands_up : FollowsBut aside name (ticks.stored sleepers s) (record p { lying = left })
  stands_up = sleeps aside name s p r sleepers (flag_of sleepers) left asleep

entries_long : {A : Type 0} (number : Who → ℕ) (ls : List (Lying A)) → length (map number (waiting ls)) ≡ length (wakers_in ls)
entries_long {A} number ls =
    ap (λ (ns : List ℕ). length ns) (sym (numbered number ls))
    ∙ (length_map (λ (e : ℕ × A). e.0) (entries number ls)
    ∙ (sym (length_map (λ (e : ℕ × A). e.1) (entries number ls)) ∙ ap (λ (ws : List A). length ws) (waking number ls)))

module _ {F T X : Type 0} (c : Choice) (name : ℕ → Task) (number : Who → ℕ) where
  -- who is told keeps its number, and has no entry more
  pub numbered_kept : (s z : Solo F T X) (p q : Plain T (SoloWaker X)) (aside : Option Due) → IsNumbered number s.sleepers p.lying
      → bases.Slept s z.sleepers
      → map (λ (l : Lying (SoloWaker X)). l.who) q.lying ≡ map (λ (l : Lying (SoloWaker X)). l.who) p.lying
      → (j : ℕ) × (waiting q.lying ≡ take j (waiting p.lying)) → FollowsBut aside name z q → IsNumbered number z.sleepers q.lying
  numbered_kept s z p q aside n slept whos waits follows =
      let k = slept.0.0 in
      let ns : List ℕ = map number (waiting p.lying) in
      let mine : map (λ (e : ℕ × SoloWaker X). e.0) z.sleepers.wakers ≡ take k ns =
      ap (map (λ (e : ℕ × SoloWaker X). e.0)) slept.0.1
      ∙ (map_take (λ (e : ℕ × SoloWaker X). e.0) k s.sleepers.wakers
      ∙ ap (take k) (ap (map (λ (e : ℕ × SoloWaker X). e.0)) n.wakers ∙ numbered number p.lying)) in
      let its : map (λ (e : ℕ × SoloWaker X). e.0) (entries number q.lying) ≡ take waits.0 ns =
      numbered number q.lying ∙ (ap (map number) waits.1 ∙ map_take number waits.0 (waiting p.lying)) in
      let long : length (take k ns) ≡ length (take waits.0 ns) =
      ap (λ (ms : List ℕ). length ms) (sym mine)
      ∙ (length_map (λ (e : ℕ × SoloWaker X). e.0) z.sleepers.wakers
      ∙ (sym (length_map (λ (e : ℕ × SoloWaker X). e.1) z.sleepers.wakers)
      ∙ (ap (λ (ws : List (SoloWaker X)). length ws) follows.asleep.wakers
      ∙ (sym (entries_long number q.lying)
      ∙ ap (λ (ms : List ℕ). length ms) (ap (map number) waits.1 ∙ map_take number waits.0 (waiting p.lying)))))) in
      let all : numbers number q.lying ++ z.sleepers.free ≡ numbers number p.lying ++ s.sleepers.free =
      ap (λ fs. numbers number q.lying ++ fs) slept.3
      ∙ ap (λ ms. ms ++ s.sleepers.free)
      (sym (map_twice (λ (l : Lying (SoloWaker X)). l.who) number q.lying)
      ∙ (ap (map number) whos ∙ map_twice (λ (l : Lying (SoloWaker X)). l.who) number p.lying)) in
      record {
        wakers =
            same_pairs z.sleepers.wakers (entries number q.lying)
            (mine ∙ (take_same k waits.0 ns long ∙ sym its))
            (follows.asleep.wakers ∙ sym (waking number q.lying));
        once = ap apart all ∙ n.once;
        few = λ m has.
            subst (λ j. m ≤ j)
            (sym (ap (λ j. j + length z.sleepers.free) slept.1 ∙ ap (λ (fs : List ℕ). s.sleepers.count + length fs) slept.3))
            (n.few m (sym (ap (is_in m) all) ∙ has));
      }

  pub numbered_still : (s z : Solo F T X) (p q : Plain T (SoloWaker X)) (aside : Option Due) → IsNumbered number s.sleepers p.lying
      → bases.Slept s z.sleepers → Still c p q → length p.lying ≤ c.tells → FollowsBut aside name z q
      → IsNumbered number z.sleepers q.lying
  numbered_still s z p q aside n slept still many follows =
      numbered_kept s z p q aside n slept still.whos (still.waits many) follows
