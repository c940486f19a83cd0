-- What a call on a ring finds where it looks at a word. n is the number of places, m the mark.
use Rattle.std.proofs.Common.{◌≡◌, ◌⊎◌, inl, inr, ℕ, ◌+◌, ◌-◌, ◌*◌, ◌%◌, ◌<◌, ◌≤◌, List, [], ◌∷◌, length, drop, Bool, true, false, nat_lt}
use Rattle.std.proofs.Common.{Option, None, Err, ◌==◌, ◌||◌, if◌then◌else◌, sym, refl, ap, subst, lt_of_not-le, arith}
use mathlib.Core.Logic.{dite}
use native.Mathlib.Decide.{dec_le}
use Rattle.std.proofs.lemmas.Bool.Decides.{nat_tests}
use Rattle.queue_steps.specs.declared.errors.PushError.{PushError}
use Rattle.queue_steps.specs.BoundedTurns.{Turn, Tail, Head, Stamp, HeadFor, TailFor, TailAgain, Append, Take, Displace, Spend, End}
use Rattle.queue_steps.specs.BoundedTurns.{answered, pushes_from, appends_at, stamped_for_push, push_turn, displaces_at, force_push_turn}
use Rattle.queue_steps.specs.BoundedTurns.{pops_from, stamped_for_pop, pop_turn, len_turn, is_empty_turn, is_full_turn}
use Rattle.queue_steps.specs.Reply.{Full, Empty, Closed, Length}
use Rattle.queue_steps.specs.ClosableQueue.{most_accepted}
use Rattle.queue_steps.specs.Calls.{Call, Push, ForcePush, Pop, Len, IsEmptyCall, IsFullCall, IsClosedCall, Pushed, LenIs}
use Rattle.queue_steps.specs.Calls.{EmptyIs, FullIs}
use Rattle.queue_laws.specs.Moments.{Sight, AtSome, MayAnswer, MayBeside, WasOpenAndFull}
use Rattle.queue_steps.specs.Bounded.{IsShape, word_at, count_at, is_marked}
use Rattle.queue_laws.specs.SingleSteps.{answer_of}
use Rattle.queue_steps.proofs.BoundedWords.{index_of_word, count_of_word}
use Rattle.queue_laws.proofs.BoundedStamps.{bit, marked_is, tail_index, tail_count, bare, marked, one_tail, same_tail, one_slot}
use Rattle.queue_laws.proofs.BoundedStamps.{one_slot_behind, head_behind, head_behind_marked}
use Rattle.queue_laws.proofs.BoundedState.{Phase, Cell, Ghost, Kind, looking, holding, ending, kind_of, Fact, Sure, Both}
use Rattle.queue_laws.proofs.BoundedState.{Past, Gone, Aged, OpenAt, OpenFull, LenAt, EmptyAt, FullAt}
use Rattle.queue_laws.proofs.BoundedState.{up, age, sight_of, Base, ComesTo, WasOpen, WasLong, WasSome, WasNotFull, Knows}
use Rattle.queue_laws.proofs.BoundedState.{PushFits, Looks}
use Rattle.queue_laws.proofs.BoundedKnows.{at_some, length_is}
use Rattle.queue_laws.proofs.SingleLooks.{is_party, is_other}

pub lt_is : (a b : ℕ) → nat_lt a b ≡ true → a < b
lt_is a b e = grind (arith, nat_tests)

pub ge_is : (a b : ℕ) → nat_lt a b ≡ false → b ≤ a
ge_is a b e = grind (arith, nat_tests)

nothing : {A : Type 0} (xs : List A) → length xs ≡ 0 → xs ≡ []
nothing [] e = refl
nothing (x ∷ xs) e = absurd (omega arith)

module _ {T : Type 0} where
  pub up_once : (ph : Phase T) → up ph ≤ 1
  up_once ph = grind (arith, nat_tests)

  beside_push : (i : Option (ℕ × T)) (e : PushError T) → MayBeside i (Pushed (Err e))
  beside_push i e = grind (arith, nat_tests)

  beside_len : (i : Option (ℕ × T)) (k : ℕ) → MayBeside i (LenIs k)
  beside_len i k = grind (arith, nat_tests)

  beside_full : (i : Option (ℕ × T)) (b : Bool) → MayBeside i (FullIs b)
  beside_full i b = grind (arith, nat_tests)

module _ {T : Type 0} (n m : ℕ) (shape : IsShape n m) (g : Ghost T) (b : Base n m g) where
  -- where a look leads to
  abbrev pub FindsAs : Kind → Call T → Turn → List (Sight T) → Type 0
  FindsAs looking call t seen = Looks n m g call t seen
  FindsAs holding call t seen = ⊥
  FindsAs (ending r) call t seen = AtSome (MayAnswer call (answer_of call r None)) seen

  abbrev pub Finds : Call T → Turn → List (Sight T) → Type 0
  Finds call t seen = FindsAs (kind_of t) call t seen

  abbrev now : Sight T
  now = sight_of n m g

  abbrev tail_now : ℕ
  tail_now = word_at n m g.pushed + bit g.shut * m

  -- a push and a forced push look at the same
  abbrev PushLooks : Turn → List (Sight T) → Type 0
  PushLooks t seen = (kind_of t ≡ looking) × ((f : Fact) × PushFits n m t f × Knows n m g seen f)

  finds_push : (x : T) (t : Turn) (seen : List (Sight T)) → PushLooks t seen → Finds (Push x) t seen
  finds_push x t seen l = grind (arith, nat_tests)

  to_force : (x : T) (t : Turn) (seen : List (Sight T)) (f : Fact) → PushFits n m t f → Knows n m g seen f
      → Looks n m g (ForcePush x) t seen
  to_force x Tail seen f fits k = (f, fits, k)
  to_force x (Stamp t) seen f fits k = (f, fits, k)
  to_force x (HeadFor t) seen f fits k = (f, fits, k)
  to_force x (Append t) seen f fits k = (f, fits, k)
  to_force x (Spend t) seen f fits k = (Past fits.0, (fits.0, fits.1, fits.2, refl), grind (arith, nat_tests))
  to_force x _ seen f fits k = absurd fits

  finds_force : (x : T) (t : Turn) (seen : List (Sight T)) → PushLooks t seen → Finds (ForcePush x) t seen
  finds_force x t seen l = subst (λ (k : Kind). FindsAs k (ForcePush x) t seen) (sym l.0) (to_force x t seen l.1.0 l.1.1 l.1.2)

  open_now : (older : List (Sight T)) → g.shut ≡ false → PushLooks (Stamp tail_now) (now ∷ older)
  open_now older opened = (
    refl,
    (
      Both (Past g.pushed) (OpenAt g.pushed),
      grind (arith, nat_tests),
      (
        omega arith,
        inl (g.popped, omega arith, length_is n m g b, refl, opened, (let l = length_is n m g b in let w = b.within in omega arith)),
      ),
    ),
  )

  from_tail : (call : Call T) (older : List (Sight T)) → (g.shut ≡ true → Finds call (End Closed) (now ∷ older))
      → (PushLooks (Stamp tail_now) (now ∷ older) → Finds call (Stamp tail_now) (now ∷ older))
      → Finds call (pushes_from n m tail_now) (now ∷ older)
  from_tail call older closed opened = by (is_marked m tail_now) refl
    where
      near : (c : Bool) → nat_lt (tail_now % m) n ≡ c → g.shut ≡ false → Finds call (if c then Stamp tail_now else Tail) (now ∷ older)
      near true e shut = opened (open_now older shut)
      near false e shut = grind (arith, nat_tests, ge_is, tail_index)

      by : (c : Bool) → is_marked m tail_now ≡ c
          → Finds call (if c then End Closed else (if nat_lt (tail_now % m) n then Stamp tail_now else Tail)) (now ∷ older)
      by c e = grind (arith, nat_tests, closed, marked_is, near)

  closed_push : (x : T) (older : List (Sight T)) → g.shut ≡ true → Finds (Push x) (End Closed) (now ∷ older)
  closed_push x older shut = grind (arith, nat_tests)

  closed_force : (x : T) (older : List (Sight T)) → g.shut ≡ true → Finds (ForcePush x) (End Closed) (now ∷ older)
  closed_force x older shut = grind (arith, nat_tests)

  pub push_tail : (x : T) (older : List (Sight T)) → Finds (Push x) (pushes_from n m tail_now) (now ∷ older)
  push_tail x older = grind (arith, nat_tests, from_tail, closed_push, finds_push)

  pub force_tail : (x : T) (older : List (Sight T)) → Finds (ForcePush x) (pushes_from n m tail_now) (now ∷ older)
  force_tail x older = grind (arith, nat_tests, from_tail, closed_force, finds_force)

  -- the stamp of the place at the tail of the count c
  push_stamp : (seen : List (Sight T)) (c : ℕ) → (g.cells (c % n)).round % n ≡ c % n → c ≤ g.pushed → AtSome (WasOpen n m g.popped c) seen
      → PushLooks (stamped_for_push n m (word_at n m c) (word_at n m (g.cells (c % n)).round + up (g.cells (c % n)).phase)) seen
  push_stamp seen c place past opened = by (found == word_at n m c) refl
    where
      cell : Cell T
      cell = g.cells (c % n)

      found : ℕ
      found = word_at n m cell.round + up cell.phase

      append_or_spend : (k : Bool) → nat_lt (count_at n m (word_at n m c)) most_accepted ≡ k → 2 * c ≤ age cell
          → PushLooks (if k then Append (word_at n m c) else Spend (word_at n m c)) seen
      append_or_spend true e aged = (
        refl,
        (
          Both (Past c) (Aged (c % n) (2 * c)),
          (
            c,
            refl,
            (let z = lt_is (count_at n m (word_at n m c)) most_accepted e in let w = count_of_word n m shape c in omega arith),
            refl,
          ),
          (past, aged),
        ),
      )
      append_or_spend false e aged = (
        refl,
        (
          Both (Past c) (Aged (c % n) (2 * c)),
          (
            c,
            refl,
            (let z = ge_is (count_at n m (word_at n m c)) most_accepted e in let w = count_of_word n m shape c in omega arith),
            refl,
          ),
          (past, aged),
        ),
      )

      behind : (k : Bool) → (found + 2 * m == word_at n m c + 1) ≡ k → PushLooks (if k then HeadFor (word_at n m c) else Tail) seen
      behind true e =
          let is = one_slot_behind n m shape cell.round c (up cell.phase) place (up_once cell.phase)
          (grind (arith, nat_tests)) in (
            refl,
            (
              Both (Both (Past (cell.round + n)) (OpenAt (cell.round + n))) (Aged (cell.round % n) (2 * cell.round + 1)),
              grind (arith, nat_tests),
              grind (arith, nat_tests),
            ),
          )
      behind false e = (refl, (Sure, refl, tt))

      by : (k : Bool) → (found == word_at n m c) ≡ k
          → PushLooks (if k then appends_at n m (word_at n m c)
          else (if found + 2 * m == word_at n m c + 1 then HeadFor (word_at n m c) else Tail)) seen
      by true e =
          let is = one_slot n m shape c cell.round (up cell.phase) 0 place (up_once cell.phase) (omega arith) (grind (arith, nat_tests)) in
          append_or_spend (nat_lt (count_at n m (word_at n m c)) most_accepted) refl (let p = is.0 in omega arith)
      by false e = behind (found + 2 * m == word_at n m c + 1) refl

  pub push_stamped : (x : T) (seen : List (Sight T)) (c : ℕ) → (g.cells (c % n)).round % n ≡ c % n → c ≤ g.pushed
      → AtSome (WasOpen n m g.popped c) seen
      → Finds (Push x) (stamped_for_push n m (word_at n m c) (word_at n m (g.cells (c % n)).round + up (g.cells (c % n)).phase)) seen
  push_stamped x seen c place past opened = grind (arith, nat_tests, finds_push, push_stamp)

  pub force_stamped : (x : T) (seen : List (Sight T)) (c : ℕ) → (g.cells (c % n)).round % n ≡ c % n → c ≤ g.pushed
      → AtSome (WasOpen n m g.popped c) seen
      → Finds (ForcePush x) (stamped_for_push n m (word_at n m c) (word_at n m (g.cells (c % n)).round + up (g.cells (c % n)).phase)) seen
  force_stamped x seen c place past opened = grind (arith, nat_tests, finds_force, push_stamp)

  -- a ring that was open at this count of appended items, of which a lap is left, was full then
  was_full : (q : ℕ) (seen : List (Sight T)) → g.popped ≡ q → AtSome (WasOpen n m g.popped (q + n)) seen → AtSome WasOpenAndFull seen
  was_full q seen is = at_some (WasOpen n m g.popped (q + n)) WasOpenAndFull goes seen
    where
      goes : (s : Sight T) → WasOpen n m g.popped (q + n) s → WasOpenAndFull s
      goes s was = grind (arith, nat_tests)

  head_is : (q : ℕ) → word_at n m g.popped + 2 * m ≡ word_at n m (q + n) → g.popped ≡ q
  head_is q e = let z = (head_behind n m shape (q + n) false g.popped (grind (arith, nat_tests))).0 in omega arith

  pub push_head : (x : T) (q : ℕ) (seen : List (Sight T)) → AtSome (WasOpen n m g.popped (q + n)) seen
      → Finds (Push x) (push_turn n m (HeadFor (word_at n m (q + n))) (word_at n m g.popped)) seen
  push_head x q seen opened = by (word_at n m g.popped + 2 * m == word_at n m (q + n)) refl
    where
      by : (k : Bool) → (word_at n m g.popped + 2 * m == word_at n m (q + n)) ≡ k → Finds (Push x) (if k then End Full else Tail) seen
      by true e = grind (arith, nat_tests, at_some, beside_push, was_full, head_is, is_party)
      by false e = (Sure, refl, tt)

  pub force_head : (x : T) (q : ℕ) (seen : List (Sight T)) → q + n ≤ g.pushed → AtSome (WasOpen n m g.popped (q + n)) seen
      → 2 * q + 1 ≤ age (g.cells (q % n))
      → Finds (ForcePush x) (force_push_turn n m (HeadFor (word_at n m (q + n))) (word_at n m g.popped)) seen
  force_head x q seen past opened aged = by (word_at n m g.popped + 2 * m == word_at n m (q + n)) refl
    where
      displace_or_spend : (k : Bool) → nat_lt (count_at n m (word_at n m (q + n))) most_accepted ≡ k → AtSome WasOpenAndFull seen
          → Finds (ForcePush x) (if k then Displace (word_at n m (q + n)) else Spend (word_at n m (q + n))) seen
      displace_or_spend true e was = (
        Both (Both (Past (q + n)) OpenFull) (Aged (q % n) (2 * q + 1)),
        (
          q,
          refl,
          (let z = lt_is (count_at n m (word_at n m (q + n))) most_accepted e in let w = count_of_word n m shape (q + n) in
              omega arith),
          refl,
        ),
        ((past, was), aged),
      )
      displace_or_spend false e was = (
        Past (q + n),
        (
          q + n,
          refl,
          (let z = ge_is (count_at n m (word_at n m (q + n))) most_accepted e in let w = count_of_word n m shape (q + n) in omega arith),
          refl,
        ),
        past,
      )

      by : (k : Bool) → (word_at n m g.popped + 2 * m == word_at n m (q + n)) ≡ k
          → Finds (ForcePush x) (if k then displaces_at n m (word_at n m (q + n)) else Tail) seen
      by true e = grind (arith, nat_tests, displace_or_spend, was_full, head_is, is_party)
      by false e = (Sure, refl, tt)

  pub pop_head : (older : List (Sight T)) → Finds Pop (pops_from n m (word_at n m g.popped)) (now ∷ older)
  pop_head older = by (nat_lt (word_at n m g.popped % m) n) refl
    where
      by : (k : Bool) → nat_lt (word_at n m g.popped % m) n ≡ k → Finds Pop (if k then Stamp (word_at n m g.popped) else Head) (now ∷ older)
      by true e = (Gone g.popped, (g.popped, refl, refl), omega arith)
      by false e = (Sure, refl, tt)

  pub pop_stamp : (seen : List (Sight T)) (q : ℕ) → (g.cells (q % n)).round % n ≡ q % n → q ≤ g.popped
      → Finds Pop (stamped_for_pop n m (word_at n m q) (word_at n m (g.cells (q % n)).round + up (g.cells (q % n)).phase)) seen
  pop_stamp seen q place gone = by (found == word_at n m q + 1) refl
    where
      cell : Cell T
      cell = g.cells (q % n)

      found : ℕ
      found = word_at n m cell.round + up cell.phase

      take : (k : Bool) → 2 * q + 1 ≤ age cell → Finds Pop (if k then Take (word_at n m q) else Head) seen
      take true aged = (Both (Gone q) (Aged (q % n) (2 * q + 1)), (q, refl, refl), (gone, aged))
      take false aged = (Sure, refl, tt)

      empty : (k : Bool) → (found == word_at n m q) ≡ k → Finds Pop (if k then TailFor (word_at n m q) else Head) seen
      empty true e =
          let is = one_slot n m shape q cell.round (up cell.phase) 0 place (up_once cell.phase) (omega arith) (grind (arith, nat_tests)) in
          (Both (Gone q) (Aged (q % n) (2 * q)), (q, refl, refl), grind (arith, nat_tests))
      empty false e = (Sure, refl, tt)

      by : (k : Bool) → (found == word_at n m q + 1) ≡ k
          → Finds Pop (if k then (if nat_lt (count_at n m (word_at n m q)) most_accepted then Take (word_at n m q) else Head)
          else (if found == word_at n m q then TailFor (word_at n m q) else Head)) seen
      by true e =
          let is = one_slot n m shape q cell.round (up cell.phase) 1 place (up_once cell.phase) (omega arith)
          (grind (arith, nat_tests)) in
          take (nat_lt (count_at n m (word_at n m q)) most_accepted) (grind (arith, nat_tests))
      by false e = empty (found == word_at n m q) refl

  -- as many were taken as were appended
  none_now : (q : ℕ) → g.pushed ≡ q → q ≤ g.popped → drop g.popped g.all ≡ []
  none_now q is gone = nothing (drop g.popped g.all) (let l = length_is n m g b in let z = b.behind in omega arith)

  -- a place that a pop found free is not the one that an item on its way in has
  nothing_comes : (q : ℕ) → g.pushed ≡ q → 2 * q ≤ age (g.cells (q % n)) → (i : Option (ℕ × T)) → ComesTo n m g.cells g.pushed i → i ≡ None
  nothing_comes q is aged i comes = grind (arith, nat_tests)

  pub pop_tail : (older : List (Sight T)) (q : ℕ) → ComesTo n m g.cells g.pushed g.coming → q ≤ g.popped → 2 * q ≤ age (g.cells (q % n))
      → Finds Pop (pop_turn n m (TailFor (word_at n m q)) tail_now) (now ∷ older)
  pop_tail older q comes gone aged = by (tail_now == word_at n m q) refl
    where
      closed : (k : Bool) → (tail_now == word_at n m q + m) ≡ k → Finds Pop (if k then End Closed else Head) (now ∷ older)
      closed true e =
          let is = same_tail n m shape g.pushed q g.shut true (grind (arith, nat_tests)) in
          inl (
            (none_now q is.0 gone, is.1, refl),
            grind (arith, nat_tests),
          )
      closed false e = (Sure, refl, tt)

      by : (k : Bool) → (tail_now == word_at n m q) ≡ k
          → Finds Pop (if k then End Empty else (if tail_now == word_at n m q + m then End Closed else Head)) (now ∷ older)
      by k e = grind (arith, nat_tests, one_tail, is_party, none_now, nothing_comes, closed)

  pub len_tail : (older : List (Sight T)) → Finds Len (HeadFor tail_now) (now ∷ older)
  len_tail older = (Past g.pushed, (g.pushed, g.shut, refl, refl), omega arith)

  pub len_head : (older : List (Sight T)) (c : ℕ) (shut : Bool) → c ≤ g.pushed
      → Finds Len (TailAgain (word_at n m c + bit shut * m) (word_at n m g.popped)) (now ∷ older)
  len_head older c shut past =
      (LenAt c g.popped, (c, g.popped, shut, refl, refl, refl), inl (g.pushed, past, omega arith, length_is n m g b))

  pub len_again : (older : List (Sight T)) (c q : ℕ) (shut : Bool) → AtSome (WasLong g.pushed c q) (now ∷ older)
      → Finds Len (len_turn n m (TailAgain (word_at n m c + bit shut * m) (word_at n m q)) tail_now) (now ∷ older)
  len_again older c q shut long = by (tail_now == word_at n m c + bit shut * m) refl
    where
      was : g.pushed ≡ c → (s : Sight T) → WasLong g.pushed c q s
          → MayAnswer Len (LenIs (count_at n m (word_at n m c + bit shut * m) - count_at n m (word_at n m q))) s
      was is s l = grind (arith, nat_tests, tail_count, count_of_word, beside_len)

      by : (k : Bool) → (tail_now == word_at n m c + bit shut * m) ≡ k
          → Finds Len (if k then End (Length (count_at n m (word_at n m c + bit shut * m) - count_at n m (word_at n m q)))
          else HeadFor tail_now) (now ∷ older)
      by true e =
          let is = (same_tail n m shape g.pushed c g.shut shut (grind (arith, nat_tests))).0 in
          at_some (WasLong g.pushed c q)
          (MayAnswer Len (LenIs (count_at n m (word_at n m c + bit shut * m) - count_at n m (word_at n m q)))) (was is) (now ∷ older)
          long
      by false e = len_tail older

  pub empty_head : (older : List (Sight T)) → Finds IsEmptyCall (TailFor (word_at n m g.popped)) (now ∷ older)
  empty_head older = (
    EmptyAt g.popped,
    (g.popped, refl, refl),
    (
      omega arith,
      dite (dec_le g.pushed g.popped)
          (λ le. inl (let z = b.behind in omega arith))
          (λ not. let more : g.popped < g.pushed = lt_of_not-le not in
          inr (inl (λ none. let z = ap length none in let l = length_is n m g b in omega arith))),
    ),
  )

  is_empty_now : (older : List (Sight T)) → drop g.popped g.all ≡ [] → AtSome (MayAnswer IsEmptyCall (EmptyIs true)) (now ∷ older)
  is_empty_now older none = grind (arith, nat_tests)

  was_some : (s : Sight T) → WasSome s → MayAnswer IsEmptyCall (EmptyIs false) s
  was_some s some = grind (arith, nat_tests)

  pub empty_tail : (older : List (Sight T)) (q : ℕ) → q ≤ g.popped → (g.pushed ≡ q) ⊎ AtSome WasSome (now ∷ older)
      → Finds IsEmptyCall (is_empty_turn n m (TailFor (word_at n m q)) tail_now) (now ∷ older)
  empty_tail older q gone was = by (tail_now == word_at n m q) refl
    where
      bare_not : (c : Bool) → g.shut ≡ c → g.pushed ≡ q → (tail_now == word_at n m q) ≡ false → (tail_now == word_at n m q + m) ≡ false → ⊥
      bare_not c shut is e h4 = grind (arith, nat_tests)

      not_empty : (tail_now == word_at n m q) ≡ false → (tail_now == word_at n m q + m) ≡ false
          → (g.pushed ≡ q) ⊎ AtSome WasSome (now ∷ older)
          → AtSome (MayAnswer IsEmptyCall (EmptyIs false)) (now ∷ older)
      not_empty e h1 h2 = grind (arith, nat_tests, bare_not, at_some, WasSome, was_some)

      then_by : (k : Bool) → (tail_now == word_at n m q) ≡ false → (tail_now == word_at n m q + m) ≡ k
          → Finds IsEmptyCall (answered (false || k)) (now ∷ older)
      then_by true e e' =
          is_empty_now older
          (none_now q (same_tail n m shape g.pushed q g.shut true (grind (arith, nat_tests))).0
          gone)
      then_by false e e' = not_empty e e' was

      by : (k : Bool) → (tail_now == word_at n m q) ≡ k → Finds IsEmptyCall (answered (k || (tail_now == word_at n m q + m))) (now ∷ older)
      by true e = is_empty_now older (none_now q (one_tail n m shape g.pushed q g.shut (is_party tail_now (word_at n m q) e)).0 gone)
      by false e = grind (arith, nat_tests, then_by)

  pub full_tail : (older : List (Sight T)) → Finds IsFullCall (HeadFor tail_now) (now ∷ older)
  full_tail older = (
    FullAt g.pushed,
    (g.pushed, g.shut, refl, refl),
    (
      omega arith,
      dite (dec_le (g.popped + n) g.pushed)
          (λ le. inl (let z = b.within in omega arith))
          (λ not. let less : g.pushed < g.popped + n = lt_of_not-le not in
          inr (inl (refl, λ full. let l = length_is n m g b in omega arith))),
    ),
  )

  is_full_now : (older : List (Sight T)) (c : ℕ) → c ≤ g.pushed → g.popped + n ≡ c
      → AtSome (MayAnswer IsFullCall (FullIs true)) (now ∷ older)
  is_full_now older c past is =
      inl (((λ _. (let l = length_is n m g b in let w = b.within in omega arith), λ _. refl), refl), beside_full g.coming true)

  was_not_full : (s : Sight T) → WasNotFull n m s → MayAnswer IsFullCall (FullIs false) s
  was_not_full s was = grind (arith, nat_tests)

  pub full_head : (older : List (Sight T)) (c : ℕ) (shut : Bool) → c ≤ g.pushed → (g.popped + n ≡ c) ⊎ AtSome (WasNotFull n m) (now ∷ older)
      → Finds IsFullCall (is_full_turn n m (HeadFor (word_at n m c + bit shut * m)) (word_at n m g.popped)) (now ∷ older)
  full_head older c shut past was = by (word_at n m g.popped + 2 * m == word_at n m c + bit shut * m) refl
    where
      tail : ℕ
      tail = word_at n m c + bit shut * m

      head : ℕ
      head = word_at n m g.popped

      lap : word_at n m (g.popped + n) ≡ head + 2 * m
      lap = Rattle.queue_steps.proofs.BoundedWords.word_a_lap_on n m shape g.popped

      bare_not : (d : Bool) → shut ≡ d → g.popped + n ≡ c → (head + 2 * m == tail) ≡ false → (head + 3 * m == tail) ≡ false → ⊥
      bare_not d is at e h4 = grind (arith, nat_tests, is_other, head, tail, lap, marked, bit, bare)

      not_full : (head + 2 * m == tail) ≡ false → (head + 3 * m == tail) ≡ false
          → (g.popped + n ≡ c) ⊎ AtSome (WasNotFull n m) (now ∷ older)
          → AtSome (MayAnswer IsFullCall (FullIs false)) (now ∷ older)
      not_full e e' (inl is) = absurd (bare_not shut refl is e e')
      not_full e e' (inr at) = grind (arith, nat_tests, at_some, WasNotFull, was_not_full)

      then_by : (k : Bool) → (head + 2 * m == tail) ≡ false → (head + 3 * m == tail) ≡ k
          → Finds IsFullCall (answered (false || k)) (now ∷ older)
      then_by k e h2 = grind (arith, nat_tests, is_full_now, head_behind_marked, is_party, head, tail, not_full, was)

      by : (k : Bool) → (head + 2 * m == tail) ≡ k → Finds IsFullCall (answered (k || (head + 3 * m == tail))) (now ∷ older)
      by k e = grind (arith, nat_tests, is_full_now, head_behind, is_party, head, tail, then_by)

  pub closed_tail : (older : List (Sight T)) → Finds IsClosedCall (answered (is_marked m tail_now)) (now ∷ older)
  closed_tail older = by (is_marked m tail_now) (marked_is n m shape g.pushed g.shut)
    where
      by : (k : Bool) → k ≡ g.shut → Finds IsClosedCall (answered k) (now ∷ older)
      by k e = grind (arith, nat_tests)
