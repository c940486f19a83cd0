-- Why the lists of sleepers agree after every list of steps.
use Rattle.std.proofs.Common.{◌≡◌, ◌≢◌, ◌⊎◌, ◌||◌, ℕ, zero, suc, ◌+◌, ◌-◌, ◌<◌, ◌≤◌, Bool, true, false, eqb, ltb, List, [], ◌∷◌, ◌++◌}
use Rattle.std.proofs.Common.{length, map, take, set, slice_get, unwrap_or, Option, Some, None, refl, sym, ap, ◌∙◌, subst, inl, inr}
use Rattle.std.proofs.Common.{arith}
use Rattle.std.specs.List.{remove}
use Rattle.std.proofs.lemmas.Bool.{cases_eq}
use Rattle.std.proofs.lemmas.Bool.Decides.{nat_tests}
use Rattle.std.proofs.lemmas.List.{map-append, length-set, length-take-le, length_push, get_or_push}
use Rattle.std.proofs.lemmas.List.Edits.{length-remove}
use Rattle.std.proofs.lemmas.Option.{slice_get-get_or}
use Rattle.std.proofs.Math.Seq.{take-append_seam}
use Rattle.executor_parts.specs.Order.{IsIn, IsApart, without}
use Rattle.executor_parts.specs.Sleepers.{Sleepers, position_of, flag_of, without_last, next_number, put_to_sleep, without_entry, freed, woken_up}
use Rattle.executor_parts.specs.Sleeping.{Step, ExchangeFlag, HandOut, FallAsleep, FallAsleepAgain, WakeUp, MakeRoom, GiveBack, AllSleepers, awake}
use Rattle.executor_parts.specs.Sleeping.{stored, handed_by, exchanged_by, again_by, after, MayTake, run, MayRun, Agree}
use Rattle.executor_parts.proofs.Cells.{without_no, without_yes}
use Rattle.executor_parts.proofs.Ring.{is_in_without, is_in_kept, is_apart_without, left, length-without, is_in_push, is_in_push_kept}
use Rattle.executor_parts.proofs.Ring.{is_in_last, is_apart_push}

-- ---- numbers

-- a list without a number twice is no longer than one that has all of it
fits : (xs ys : List ℕ) → IsApart xs → ((k : ℕ) → IsIn k xs → IsIn k ys) → length xs ≤ length ys
fits [] ys apart inside = omega arith
fits (x ∷ xs) ys apart inside =
    let rest = fits xs (without x ys) apart.1 (λ k there. is_in_kept x k ys (inside k (inr there))
    (λ same. apart.0 (subst (λ n. IsIn n xs) same there))) in
    omega (arith, rest, length-without x ys (inside x (inl refl)))

fewer : (n : ℕ) (xs ys : List ℕ) → IsApart xs → ¬ IsIn n xs → IsIn n ys → ((k : ℕ) → IsIn k xs → IsIn k ys) → length xs < length ys
fewer n xs ys apart absent here inside =
    let all = fits (n ∷ xs) ys (absent, apart) (λ k found. elim found [
      | inl same ↦ subst (λ m. IsIn m ys) same here
      | inr there
          ↦ inside k there
    ]) in
    omega (arith, all)

apart_pop : (n : ℕ) (xs : List ℕ) → IsApart (xs ++ n ∷ []) → IsApart xs × ¬ IsIn n xs
apart_pop n [] apart = (tt, λ found. found)
apart_pop n (x ∷ xs) apart =
    let rest = apart_pop n xs apart.1 in (
      (λ found. apart.0 (is_in_push_kept n x xs found), rest.0),
      λ found. elim found [
        | inl same ↦ apart.0 (subst (λ m. IsIn m (xs ++ n ∷ [])) (sym same) (is_in_last n xs))
        | inr there
            ↦ rest.1 there
      ],
    )

-- a list is empty, or has a last number
snoc_cases : (xs : List ℕ) → (xs ≡ []) ⊎ ((front : List ℕ) × (last : ℕ) × (xs ≡ front ++ last ∷ []))
snoc_cases [] = inl refl
snoc_cases (x ∷ xs) =
    elim (snoc_cases xs) [
      | inl none ↦ inr ([], x, ap (λ (ys : List ℕ). x ∷ ys) none)
      | inr some ↦ inr (x ∷ some.0, some.1, ap (λ (ys : List ℕ). x ∷ ys) some.2)
    ]

take_last : (front : List ℕ) (last : ℕ) → take (length (front ++ last ∷ []) - 1) (front ++ last ∷ []) ≡ front
take_last front last =
    let len : length (front ++ last ∷ []) - 1 ≡ length front = omega (arith, length_push front last) in
    ap (λ n. take n (front ++ last ∷ [])) len ∙ take-append_seam front (last ∷ [])

get_last : (front : List ℕ) (last d : ℕ) → unwrap_or (slice_get (front ++ last ∷ []) (length (front ++ last ∷ []) - 1)) d ≡ last
get_last front last d =
    let len : length (front ++ last ∷ []) - 1 ≡ length front = omega (arith, length_push front last) in
    let here : slice_get (front ++ last ∷ []) (length (front ++ last ∷ []) - 1) ≡ Some last = ap (slice_get (front ++ last ∷ [])) len
    ∙ slice_get-get_or (front ++ last ∷ []) (length front) d (omega (arith, length_push front last))
    ∙ ap Some (get_or_push front last d (length front) refl) in
    ap (λ o. unwrap_or o d) here

or_left : (b c : Bool) → b ≡ true → (b || c) ≡ true
or_left true c holds = refl
or_left false c holds = absurd (cc)

or_right : (b c : Bool) → c ≡ true → (b || c) ≡ true
or_right true c holds = refl
or_right false c holds = holds

module _ {W : Type 0} where
  abbrev numbers_of : List (ℕ × W) → List ℕ
  numbers_of ws = map (λ (e : ℕ × W). e.0) ws

  -- ---- the flag

  nobody_told : (s : Sleepers W) → s.count ≡ 0 → flag_of s ≡ true
  nobody_told s none = let t : eqb s.count 0 ≡ true = grind (arith, nat_tests) in or_left (eqb s.count 0) (ltb (length s.wakers) s.count) t

  fewer_told : (s : Sleepers W) → length s.wakers < s.count → flag_of s ≡ true
  fewer_told s less = let t : ltb (length s.wakers) s.count ≡ true = grind (arith, nat_tests)
      in or_right (eqb s.count 0) (ltb (length s.wakers) s.count) t

  -- ---- entries

  -- where the last entry of a number is: past the first, or there
  abbrev IsPlaced : ℕ → (ℕ × W) → List (ℕ × W) → ℕ → Type 0
  IsPlaced n e es at = ((i : ℕ) × (position_of n es ≡ Some i) × (at ≡ suc i)) ⊎ ((e.0 ≡ n) × (at ≡ zero) × (position_of n es ≡ None))

  position_cases : (n : ℕ) (e : ℕ × W) (es : List (ℕ × W)) (at : ℕ) → position_of n (e ∷ es) ≡ Some at → IsPlaced n e es at
  position_cases n e es at found = of (position_of n es) refl
    where
      of : (o : Option ℕ) → position_of n es ≡ o → IsPlaced n e es at
      of (Some i) there =
          let here : position_of n (e ∷ es) ≡ Some (i + 1) = rw (there, position_of) refl in
          let both : Some at ≡ Some (i + 1) = sym found ∙ here in
          let same : at ≡ i + 1 = cc in
          inl (i, there, omega (arith, same))
      of None none =
          elim (cases_eq e.0 n) [
            | inl same ↦
                let t : eqb n e.0 ≡ true = grind (arith, nat_tests) in
                let here : position_of n (e ∷ es) ≡ Some 0 = rw (none, t, position_of) refl in
                let both : Some at ≡ Some 0 = sym found ∙ here in
                let zeroth : at ≡ 0 = cc in
                inr (same, zeroth, none)
            | inr differs ↦
                let t : eqb n e.0 ≡ false = grind (arith, nat_tests) in
                let here : position_of n (e ∷ es) ≡ None = rw (none, t, position_of) refl in
                let both : Some at ≡ None = sym found ∙ here in
                absurd (cc)
          ]

  position_in : (n at : ℕ) (ws : List (ℕ × W)) → position_of n ws ≡ Some at → IsIn n (numbers_of ws)
  position_in n at [] found = absurd (cc)
  position_in n at (e ∷ es) found =
      elim (position_cases n e es at found) [
        | inl later ↦ inr (position_in n later.0 es later.1)
        | inr here ↦ inl here.0
      ]

  position_within : (n at : ℕ) (ws : List (ℕ × W)) → position_of n ws ≡ Some at → at < length ws
  position_within n at [] found = absurd (cc)
  position_within n at (e ∷ es) found =
      elim (position_cases n e es at found) [
        | inl later ↦ omega (arith, position_within n later.0 es later.1, later.2)
        | inr here ↦ omega (arith, here.1)
      ]

  position_none : (n : ℕ) (ws : List (ℕ × W)) → position_of n ws ≡ None → ¬ IsIn n (numbers_of ws)
  position_none n [] none found = found
  position_none n (e ∷ es) none found = of (position_of n es) refl (position_none n es)
    where
      of : (o : Option ℕ) → position_of n es ≡ o → (position_of n es ≡ None → ¬ IsIn n (numbers_of es)) → ⊥
      of (Some i) there rest =
          let here : position_of n (e ∷ es) ≡ Some (i + 1) = rw (there, position_of) refl in
          let both : Some (i + 1) ≡ None = sym here ∙ none in
          absurd (cc)
      of None absent rest =
          elim (cases_eq e.0 n) [
            | inl same ↦
                let t : eqb n e.0 ≡ true = grind (arith, nat_tests) in
                let here : position_of n (e ∷ es) ≡ Some 0 = rw (absent, t, position_of) refl in
                let both : Some 0 ≡ None = sym here ∙ none in
                absurd (cc)
            | inr differs ↦ elim found [ inl same ↦ differs same | inr there ↦ rest absent there ]
          ]

  -- an entry with another waker has its number
  numbers_set : (n at : ℕ) (w : W) (ws : List (ℕ × W)) → position_of n ws ≡ Some at → numbers_of (set ws at (n, w)) ≡ numbers_of ws
  numbers_set n at w [] found = absurd (cc)
  numbers_set n at w (e ∷ es) found =
      elim (position_cases n e es at found) [
        | inl later ↦
            ap (λ i. numbers_of (set (e ∷ es) i (n, w))) later.2
            ∙ ap (λ (ns : List ℕ). e.0 ∷ ns) (numbers_set n later.0 w es later.1)
        | inr here ↦
            ap (λ i. numbers_of (set (e ∷ es) i (n, w))) here.1
            ∙ ap (λ m. m ∷ numbers_of es) (sym here.0)
      ]

  numbers_removed :
      (n at : ℕ) (ws : List (ℕ × W))
      → IsApart (numbers_of ws) → position_of n ws ≡ Some at → numbers_of (remove ws at) ≡ without n (numbers_of ws)
  numbers_removed n at [] apart found = absurd (cc)
  numbers_removed n at (e ∷ es) apart found =
      elim (position_cases n e es at found) [
        | inl later ↦
            let differs : e.0 ≢ n = λ same. apart.0 (subst (λ m. IsIn m (numbers_of es)) (sym same) (position_in n later.0 es later.1)) in
            ap (λ i. numbers_of (remove (e ∷ es) i)) later.2
            ∙ ap (λ (ns : List ℕ). e.0 ∷ ns) (numbers_removed n later.0 es apart.1 later.1)
            ∙ sym (without_no n e.0 (numbers_of es) differs)
        | inr here ↦
            ap (λ i. numbers_of (remove (e ∷ es) i)) here.1
            ∙ sym (without_yes n e.0 (numbers_of es) here.0)
      ]

  in_take : (k m : ℕ) (ws : List (ℕ × W)) → IsIn k (numbers_of (take m ws)) → IsIn k (numbers_of ws)
  in_take k zero ws found = absurd found
  in_take k (suc m) [] found = found
  in_take k (suc m) (e ∷ es) found = elim found [ inl same ↦ inl same | inr there ↦ inr (in_take k m es there) ]

  apart_take : (m : ℕ) (ws : List (ℕ × W)) → IsApart (numbers_of ws) → IsApart (numbers_of (take m ws))
  apart_take zero ws apart = tt
  apart_take (suc m) [] apart = tt
  apart_take (suc m) (e ∷ es) apart = (λ found. apart.0 (in_take e.0 m es found), apart_take m es apart.1)

  numbers_pushed : (ws : List (ℕ × W)) (n : ℕ) (w : W) → numbers_of (ws ++ (n, w) ∷ []) ≡ numbers_of ws ++ n ∷ []
  numbers_pushed ws n w = map-append (λ (e : ℕ × W). e.0) ws ((n, w) ∷ [])

  length_numbers : (ws : List (ℕ × W)) → length (numbers_of ws) ≡ length ws
  length_numbers [] = refl
  length_numbers (e ∷ es) = ap suc (length_numbers es)

  -- ---- what each step keeps

  pub record Keeps (s : AllSleepers W) : Type 0 where
    pub agree : Agree s
    pub listed_apart : IsApart (numbers_of s.sleepers.wakers)
    pub listed_in : (k : ℕ) → IsIn k (numbers_of s.sleepers.wakers) → IsIn k s.numbers
    pub free_apart : IsApart s.sleepers.free
    pub free_out : (k : ℕ) → IsIn k s.sleepers.free → ¬ IsIn k s.numbers
    pub bounded : (k : ℕ) → IsIn k s.numbers → k ≤ s.sleepers.count + length s.sleepers.free
    pub free_bounded : (k : ℕ) → IsIn k s.sleepers.free → k ≤ s.sleepers.count + length s.sleepers.free

  -- the lists stay, and the flag is told of
  with_flag :
      (s new : AllSleepers W)
      → Keeps s → new.sleepers.count ≡ s.sleepers.count → new.sleepers.wakers ≡ s.sleepers.wakers
      → new.sleepers.free ≡ s.sleepers.free → new.numbers ≡ s.numbers → new.sleepers.count ≤ new.sleepers.rooms
      → (new.flag ≡ true → (flag_of new.sleepers ≡ true) ⊎ (1 ≤ new.tellers)) → Keeps new
  with_flag s new k count wakers free numbers within told = record {
    agree = record {
      apart = rw numbers k.agree.apart;
      counted = rw (numbers, count) k.agree.counted;
      listed = rw (wakers, count) k.agree.listed;
      within = within;
      told = told;
    };
    listed_apart = rw wakers k.listed_apart;
    listed_in = rw (wakers, numbers) k.listed_in;
    free_apart = rw free k.free_apart;
    free_out = rw (free, numbers) k.free_out;
    bounded = rw (numbers, count, free) k.bounded;
    free_bounded = rw (count, free) k.free_bounded;
  }

  exchange : (s : AllSleepers W) → Keeps s → Keeps (exchanged_by s.flag s)
  exchange s k = of s.flag
    where
      of : (b : Bool) → Keeps (exchanged_by b s)
      of true = k
      of false = with_flag s (exchanged_by false s) k refl refl refl refl k.agree.within (λ _. inr (omega arith))

  hand : (s : AllSleepers W) → Keeps s → Keeps (handed_by (eqb (length s.sleepers.wakers) s.sleepers.count) s)
  hand s k =
      elim (cases_eq (length s.sleepers.wakers) s.sleepers.count) [
        | inl all ↦ let t : eqb (length s.sleepers.wakers) s.sleepers.count ≡ true = grind (arith, nat_tests) in rw t (last all)
        | inr differs ↦
            let t : eqb (length s.sleepers.wakers) s.sleepers.count ≡ false = grind (arith, nat_tests) in
            rw t (with_flag s (handed_by false s) k refl refl refl refl k.agree.within (λ _. inl (fewer_told s.sleepers (omega (
              arith,
              differs,
              k.agree.listed,
            )))))
      ]
    where
      shorter : length (take (length s.sleepers.wakers - 1) s.sleepers.wakers) ≡ length s.sleepers.wakers - 1
      shorter = length-take-le (length s.sleepers.wakers - 1) s.sleepers.wakers (omega arith)

      told : length s.sleepers.wakers ≡ s.sleepers.count → flag_of (without_last s.sleepers) ≡ true
      told all =
          elim (cases_eq s.sleepers.count 0) [
            | inl none ↦ nobody_told (without_last s.sleepers) none
            | inr some ↦ fewer_told (without_last s.sleepers) (omega (arith, shorter, all, some))
          ]

      last : length s.sleepers.wakers ≡ s.sleepers.count → Keeps (handed_by true s)
      last all = record {
        agree = record {
          apart = k.agree.apart;
          counted = k.agree.counted;
          listed = omega (arith, shorter, all);
          within = k.agree.within;
          told = λ _. inl (told all);
        };
        listed_apart = apart_take (length s.sleepers.wakers - 1) s.sleepers.wakers k.listed_apart;
        listed_in = λ n found. k.listed_in n (in_take n (length s.sleepers.wakers - 1) s.sleepers.wakers found);
        free_apart = k.free_apart;
        free_out = k.free_out;
        bounded = k.bounded;
        free_bounded = k.free_bounded;
      }

  -- one more sleeps, under a number that nobody has
  sleeps : (s : AllSleepers W) (waker : W) (n : ℕ) (front : List ℕ) → Keeps s → s.sleepers.count < s.sleepers.rooms → ¬ IsIn n s.numbers
      → IsApart front → ((m : ℕ) → IsIn m front → IsIn m s.sleepers.free × (m ≢ n)) → n ≤ s.sleepers.count + 1 + length front
      → s.sleepers.count + length s.sleepers.free ≤ s.sleepers.count + 1 + length front
      → Keeps (stored (record s.sleepers {
        count = s.sleepers.count + 1;
        wakers = s.sleepers.wakers ++ (n, waker) ∷ [];
        free =
            front;
      }) (n ∷ s.numbers) s.tellers)
  sleeps s waker n front k room new apart kept bound total =
      let numbers = numbers_pushed s.sleepers.wakers n waker in
      record {
        agree = record {
          apart = (new, k.agree.apart);
          counted = omega (arith, k.agree.counted);
          listed = omega (arith, k.agree.listed, length_push s.sleepers.wakers (n, waker));
          within = omega (arith, room);
          told = λ holds. inl holds;
        };
        listed_apart = rw numbers (is_apart_push n (numbers_of s.sleepers.wakers) k.listed_apart (λ found. new (k.listed_in n found)));
        listed_in = λ m found. elim (is_in_push n m (numbers_of s.sleepers.wakers) (rw numbers at found)) [
          | inl there
              ↦ inr (k.listed_in m there)
          | inr same ↦ inl same
        ];
        free_apart = apart;
        free_out = λ m free found. elim found [ inl same ↦ (kept m free).1 (sym same) | inr there ↦ k.free_out m (kept m free).0 there ];
        bounded = λ m found. elim found [ inl same ↦ omega (arith, same, bound) | inr there ↦ omega (arith, k.bounded m there, total) ];
        free_bounded = λ m free. omega (arith, k.free_bounded m (kept m free).0, total);
      }

  sleep :
      (s : AllSleepers W) (waker : W)
      → s.sleepers.count < s.sleepers.rooms → Keeps s
      → Keeps (stored (put_to_sleep waker s.sleepers) (next_number s.sleepers ∷ s.numbers) s.tellers)
  sleep s waker room k =
      elim (snoc_cases s.sleepers.free) [
        | inl none ↦
            rw none
            (sleeps s waker (s.sleepers.count + 1) [] k room (λ found. absurd (omega (
              arith,
              k.bounded (s.sleepers.count + 1) found,
              ap (λ (xs : List ℕ). length xs) none,
            ))) tt (λ m found. absurd found) (omega arith) (omega (
              arith,
              ap (λ (xs : List ℕ). length xs) none,
            )))
        | inr some ↦
            let apart = apart_pop some.1 some.0 (subst IsApart some.2 k.free_apart) in
            let last_free : IsIn some.1 s.sleepers.free = rw some.2 (is_in_last some.1 some.0) in
            let long : length s.sleepers.free ≡ length some.0 + 1 = ap (λ (xs : List ℕ). length xs) some.2 ∙ length_push some.0 some.1 in
            let next : next_number s.sleepers ≡ some.1 = ap (λ (xs : List ℕ). unwrap_or (slice_get xs (length xs - 1))
            (s.sleepers.count + 1)) some.2 ∙ get_last some.0 some.1 (s.sleepers.count + 1) in
            let rest : take (length s.sleepers.free - 1) s.sleepers.free ≡ some.0 = ap (λ (xs : List ℕ). take (length xs - 1) xs) some.2
            ∙ take_last some.0 some.1 in
            rw (next, rest)
            (sleeps s waker some.1 some.0 k room (k.free_out some.1 last_free) apart.0
            (λ m found. (
              rw some.2 (is_in_push_kept some.1 m some.0 found),
              λ same. apart.1 (subst (λ x. IsIn x some.0) same found),
            )) (omega (
              arith,
              k.free_bounded some.1 last_free,
              long,
            )) (omega (arith, long)))
      ]

  again : (s : AllSleepers W) (n : ℕ) (waker : W) → IsIn n s.numbers → Keeps s → Keeps (again_by (position_of n s.sleepers.wakers) n waker s)
  again s n waker mine k = of (position_of n s.sleepers.wakers) refl
    where
      of : (o : Option ℕ) → position_of n s.sleepers.wakers ≡ o → Keeps (again_by o n waker s)
      of (Some at) here =
          let numbers = numbers_set n at waker s.sleepers.wakers here in
          let long = length-set s.sleepers.wakers at (n, waker) in
          record {
            agree = record {
              apart = k.agree.apart;
              counted = k.agree.counted;
              listed = omega (arith, long, k.agree.listed);
              within = k.agree.within;
              told = rw long k.agree.told;
            };
            listed_apart = rw numbers k.listed_apart;
            listed_in = rw numbers k.listed_in;
            free_apart = k.free_apart;
            free_out = k.free_out;
            bounded = k.bounded;
            free_bounded = k.free_bounded;
          }
      of None none =
          let absent = position_none n s.sleepers.wakers none in
          let less = fewer n (numbers_of s.sleepers.wakers) s.numbers k.listed_apart absent mine k.listed_in in
          let numbers = numbers_pushed s.sleepers.wakers n waker in
          record {
            agree = record {
              apart = k.agree.apart;
              counted = k.agree.counted;
              listed = omega (arith, less, k.agree.counted, length_numbers s.sleepers.wakers, length_push s.sleepers.wakers (n, waker));
              within = k.agree.within;
              told = λ holds. inl holds;
            };
            listed_apart = rw numbers (is_apart_push n (numbers_of s.sleepers.wakers) k.listed_apart absent);
            listed_in = λ m found. elim (is_in_push n m (numbers_of s.sleepers.wakers) (rw numbers at found)) [
              | inl there
                  ↦ k.listed_in m there
              | inr same ↦ subst (λ x. IsIn x s.numbers) same mine
            ];
            free_apart = k.free_apart;
            free_out = k.free_out;
            bounded = k.bounded;
            free_bounded = k.free_bounded;
          }

  -- the number of one who has no entry any more is free
  wakes_up :
      (s : AllSleepers W) (n : ℕ) (wakers : List (ℕ × W))
      → IsIn n s.numbers → Keeps s → length wakers < s.sleepers.count → IsApart (numbers_of wakers)
      → ((m : ℕ) → IsIn m (numbers_of wakers) → IsIn m s.numbers × (m ≢ n))
      → Keeps (stored (freed n (record s.sleepers { wakers = wakers })) (without n s.numbers) s.tellers)
  wakes_up s n wakers mine k less apart kept =
      let t : ltb (length wakers) s.sleepers.count ≡ true = grind (arith, nat_tests) in
      let counted = length-without n s.numbers mine in
      let here : freed n (record s.sleepers { wakers = wakers })
      ≡ record s.sleepers { count = s.sleepers.count - 1; wakers = wakers; free = s.sleepers.free ++ n ∷ [] } = rw (t, freed) refl in
      subst (λ x. Keeps (stored x (without n s.numbers) s.tellers)) (sym here) (record {
        agree = record {
          apart = is_apart_without n s.numbers k.agree.apart;
          counted = omega (arith, counted, k.agree.counted);
          listed = omega (arith, less);
          within = omega (arith, k.agree.within);
          told = λ holds. inl holds;
        };
        listed_apart = apart;
        listed_in = λ m found. is_in_kept n m s.numbers (kept m found).0 (kept m found).1;
        free_apart = is_apart_push n s.sleepers.free k.free_apart (λ free. k.free_out n free mine);
        free_out = λ m free found. elim (is_in_push n m s.sleepers.free free) [
          | inl was
              ↦ k.free_out m was (is_in_without n m s.numbers found)
          | inr same
              ↦ left n s.numbers k.agree.apart (subst (λ x. IsIn x (without n s.numbers)) (sym same) found)
        ];
        bounded = λ m found. omega (arith, k.bounded m (is_in_without n m s.numbers found), length_push s.sleepers.free n, less);
        free_bounded = λ m free. elim (is_in_push n m s.sleepers.free free) [
          | inl was
              ↦ omega (arith, k.free_bounded m was, length_push s.sleepers.free n, less)
          | inr same
              ↦ omega (arith, same, k.bounded n mine, length_push s.sleepers.free n, less)
        ];
      })

  wake_it_up : (s : AllSleepers W) (n : ℕ) → IsIn n s.numbers → Keeps s → Keeps (stored (woken_up n s.sleepers) (without n s.numbers) s.tellers)
  wake_it_up s n mine k = of (position_of n s.sleepers.wakers) refl
    where
      of :
          (o : Option ℕ)
          → position_of n s.sleepers.wakers ≡ o
          → Keeps (stored (freed n (without_entry o s.sleepers)) (without n s.numbers) s.tellers)
      of None none =
          let absent = position_none n s.sleepers.wakers none in
          let less = fewer n (numbers_of s.sleepers.wakers) s.numbers k.listed_apart absent mine k.listed_in in
          wakes_up s n s.sleepers.wakers mine k (omega (
            arith,
            less,
            k.agree.counted,
            length_numbers s.sleepers.wakers,
          )) k.listed_apart (λ m found. (
            k.listed_in m found,
            λ same. absent (subst (λ x. IsIn x (numbers_of s.sleepers.wakers)) same found),
          ))
      of (Some at) here =
          let numbers = numbers_removed n at s.sleepers.wakers k.listed_apart here in
          let gone = left n (numbers_of s.sleepers.wakers) k.listed_apart in
          wakes_up s n (remove s.sleepers.wakers at) mine k (omega (
            arith,
            length-remove s.sleepers.wakers at (position_within n at s.sleepers.wakers here),
            k.agree.listed,
          )) (rw numbers (is_apart_without n (numbers_of s.sleepers.wakers) k.listed_apart)) (λ m found.
          let there = subst (IsIn m) numbers found in (
            k.listed_in m (is_in_without n m (numbers_of s.sleepers.wakers) there),
            λ same. gone (subst (λ x. IsIn x (without n (numbers_of s.sleepers.wakers))) same there),
          ))

  pub keeps : (t : Step W) (s : AllSleepers W) → MayTake t s → Keeps s → Keeps (after t s)
  keeps ExchangeFlag s may k = exchange s k
  keeps HandOut s may k = hand s k
  keeps (FallAsleep waker) s may k = sleep s waker may k
  keeps (FallAsleepAgain n waker) s may k = again s n waker may k
  keeps (WakeUp n) s may k = wake_it_up s n may k
  keeps MakeRoom s may k = with_flag s (after MakeRoom s) k refl refl refl refl (omega (arith, k.agree.within)) k.agree.told
  keeps GiveBack s may k = with_flag s (after GiveBack s) k refl refl refl refl (omega (arith, may)) k.agree.told

  kept : (steps : List (Step W)) (s : AllSleepers W) → MayRun steps s → Keeps s → Keeps (run steps s)
  kept [] s may k = k
  kept (t ∷ ts) s may k = kept ts (after t s) may.1 (keeps t s may.0 k)

  pub first : Keeps (awake {W = W})
  first = record {
    agree = record { apart = tt; counted = refl; listed = omega arith; within = omega arith; told = λ holds. inl holds };
    listed_apart = tt;
    listed_in = λ m found. found;
    free_apart = tt;
    free_out = λ m free found. free;
    bounded = λ m found. absurd found;
    free_bounded = λ m found. absurd found;
  }

  pub agree : (steps : List (Step W)) → MayRun steps awake → Agree (run steps awake)
  agree steps may = (kept steps awake may first).agree
