-- The futures of a table stand there in the order of their numbers, so who goes through the numbers finds them in the order
-- of the table.
use Rattle.std.proofs.Common.{◌≡◌, ℕ, suc, ◌+◌, ◌<◌, ◌≤◌, Bool, true, false, ltb, List, [], ◌∷◌, ◌++◌, length}
use Rattle.std.proofs.Common.{refl, sym, ap, ◌∙◌, subst, inl, inr, arith, append-nil, length-append}
use Rattle.std.proofs.lemmas.Bool.{cases_eq}
use Rattle.std.proofs.lemmas.Bool.Decides.{nat_tests}
use Rattle.executor_model.specs.World.{among}
use Rattle.executor_parts.specs.Places.{Entry, place_of}
use Rattle.executor_core.specs.declared.table.entries.Seat.{Seat}
use Rattle.executor_core.specs.Entered.{AreSeated, IsRising, futures_of}
use Rattle.executor_core.proofs.Cells.{among_no, among_yes}
use Rattle.executor_core.proofs.Seating.{is_known, went_here, went_past}
use Rattle.executor_parts.specs.Places.{without_entry}

pub rising_less : (m n : ℕ) (xs : List ℕ) → m ≤ n → IsRising n xs → IsRising m xs
rising_less m n [] l h = tt
rising_less m n (x ∷ xs) l h = (omega (arith, l, h.0), h.1)

module _ {F : Type 0} where
  -- the next future comes behind all that were accepted
  pub rising_push : (seats : List Seat) (es : List (Entry F ℕ)) (e : Entry F ℕ) (n : ℕ) → AreSeated seats es →
      e.waker ≡ length seats → n ≤ e.waker → IsRising n (futures_of es) → IsRising n (futures_of (es ++ e ∷ []))
  rising_push seats [] e n seated q l h = (l, tt)
  rising_push seats (x ∷ es) e n seated q l h = (
    h.0,
    rising_push seats es e (suc x.waker) seated.1 q (omega (arith, q, is_known seats x.waker (place_of x) seated.0)) h.1,
  )

  pub rising_without : (n k : ℕ) (es : List (Entry F ℕ)) → IsRising n (futures_of es) →
      IsRising n (futures_of (without_entry k es))
  rising_without n k [] h = tt
  rising_without n k (e ∷ es) h =
      elim (cases_eq e.key k) [
        | inl same ↦ subst (λ (xs : List (Entry F ℕ)). IsRising n (futures_of xs)) (sym (went_here k e es same))
            (rising_less n (suc e.waker) (futures_of es) (omega (arith, h.0)) h.1)
        | inr differs ↦ subst (λ (xs : List (Entry F ℕ)). IsRising n (futures_of xs)) (sym (went_past k e es differs))
            (h.0, rising_without (suc e.waker) k es h.1)
      ]

-- n, where it is there
abbrev pub one_if : Bool → ℕ → List ℕ
one_if true n = n ∷ []
one_if false n = []

abbrev pub low_by : Bool → ℕ → List ℕ → List ℕ
low_by true x rest = x ∷ rest
low_by false x rest = rest

-- those of the list that are below n
abbrev pub low : ℕ → List ℕ → List ℕ
low n [] = []
low n (x ∷ xs) = low_by (ltb x n) x (low n xs)

low-here : (n x : ℕ) (xs : List ℕ) → x < n → low n (x ∷ xs) ≡ x ∷ low n xs
low-here n x xs l = let t : ltb x n ≡ true = grind (arith, nat_tests) in ap (λ (b : Bool). low_by b x (low n xs)) t

low-past : (n x : ℕ) (xs : List ℕ) → n ≤ x → low n (x ∷ xs) ≡ low n xs
low-past n x xs l = let t : ltb x n ≡ false = grind (arith, nat_tests) in ap (λ (b : Bool). low_by b x (low n xs)) t

pub low-none : (m n : ℕ) (xs : List ℕ) → n ≤ m → IsRising m xs → low n xs ≡ []
low-none m n [] l h = refl
low-none m n (x ∷ xs) l h = low-past n x xs (omega (arith, l, h.0)) ∙ low-none (suc x) n xs (omega (arith, l, h.0)) h.1

none-below : (m n : ℕ) (xs : List ℕ) → n < m → IsRising m xs → among n xs ≡ false
none-below m n [] l h = refl
none-below m n (x ∷ xs) l h =
    among_no n x xs (λ (e : x ≡ n). omega (arith, l, h.0, e)) ∙ none-below (suc x) n xs (omega (arith, l, h.0)) h.1

-- where n is looked for, it comes behind those below it
pub low-next : (m n : ℕ) (xs : List ℕ) → IsRising m xs → low (suc n) xs ≡ low n xs ++ one_if (among n xs) n
low-next m n [] h = refl
low-next m n (x ∷ xs) h = by (ltb x n) (ltb n x) refl refl (low-next (suc x) n xs h.1)
  where
    by : (a b : Bool) → ltb x n ≡ a → ltb n x ≡ b → low (suc n) xs ≡ low n xs ++ one_if (among n xs) n →
        low (suc n) (x ∷ xs) ≡ low n (x ∷ xs) ++ one_if (among n (x ∷ xs)) n
    by true b e f k =
        let l : x < n = grind (arith, nat_tests) in
        let differs : among n (x ∷ xs) ≡ among n xs = among_no n x xs (λ (q : x ≡ n). omega (arith, l, q)) in
        low-here (suc n) x xs (omega (arith, l))
        ∙ (ap (λ (ys : List ℕ). x ∷ ys) k
        ∙ (ap (λ (c : Bool). x ∷ low n xs ++ one_if c n) (sym differs)
        ∙ ap (λ (ys : List ℕ). ys ++ one_if (among n (x ∷ xs)) n) (sym (low-here n x xs l))))
    by false true e f k =
        let l : n < x = grind (arith, nat_tests) in
        let none : among n (x ∷ xs) ≡ false =
        among_no n x xs (λ (q : x ≡ n). omega (arith, l, q)) ∙ none-below (suc x) n xs (omega (arith, l)) h.1 in
        low-past (suc n) x xs (omega (arith, l)) ∙ (low-none (suc x) (suc n) xs (omega (arith, l)) h.1
        ∙ (sym (low-past n x xs (omega (arith, l)) ∙ low-none (suc x) n xs (omega (arith, l)) h.1)
        ∙ (sym (append-nil (low n (x ∷ xs))) ∙ ap (λ (c : Bool). low n (x ∷ xs) ++ one_if c n) (sym none))))
    by false false e f k =
        let same : x ≡ n = grind (arith, nat_tests) in
        let there : among n (x ∷ xs) ≡ true = among_yes n x xs same in
        let before : low n (x ∷ xs) ≡ [] =
        low-past n x xs (omega (arith, same)) ∙ low-none (suc x) n xs (omega (arith, same)) h.1 in
        low-here (suc n) x xs (omega (arith, same))
        ∙ (ap (λ (ys : List ℕ). x ∷ ys) (low-none (suc x) (suc n) xs (omega (arith, same)) h.1)
        ∙ (ap (λ (k : ℕ). k ∷ []) same
        ∙ (ap (λ (c : Bool). one_if c n) (sym there)
        ∙ ap (λ (ys : List ℕ). ys ++ one_if (among n (x ∷ xs)) n) (sym before))))

pub low-length : (n : ℕ) (xs : List ℕ) → length (low n xs) ≤ length xs
low-length n [] = omega arith
low-length n (x ∷ xs) = by (ltb x n) (low-length n xs)
  where
    by : (b : Bool) → length (low n xs) ≤ length xs → length (low_by b x (low n xs)) ≤ suc (length xs)
    by true k = omega (arith, k)
    by false k = omega (arith, k)

-- at the end all were found
pub low-all : {F : Type 0} (seats : List Seat) (es : List (Entry F ℕ)) → AreSeated seats es →
    low (length seats) (futures_of es) ≡ futures_of es
low-all seats [] seated = refl
low-all seats (e ∷ es) seated =
    low-here (length seats) e.waker (futures_of es) (is_known seats e.waker (place_of e) seated.0)
    ∙ ap (λ (ys : List ℕ). e.waker ∷ ys) (low-all seats es seated.1)

-- what a step of that adds to the list

pub low-found : (n : ℕ) (xs : List ℕ) → IsRising 0 xs → among n xs ≡ true → low (n + 1) xs ≡ low n xs ++ n ∷ []
low-found n xs h t =
    let e : n + 1 ≡ suc n = omega arith in
    ap (λ (k : ℕ). low k xs) e ∙ (low-next 0 n xs h ∙ ap (λ (b : Bool). low n xs ++ one_if b n) t)

pub low-passed : (n : ℕ) (xs : List ℕ) → IsRising 0 xs → among n xs ≡ false → low (n + 1) xs ≡ low n xs
low-passed n xs h t =
    let e : n + 1 ≡ suc n = omega arith in
    ap (λ (k : ℕ). low k xs) e
    ∙ (low-next 0 n xs h ∙ (ap (λ (b : Bool). low n xs ++ one_if b n) t ∙ append-nil (low n xs)))

-- who is still to be listed has a place
pub low-room : (n : ℕ) (xs : List ℕ) → IsRising 0 xs → among n xs ≡ true → length (low n xs) < length xs
low-room n xs h t =
    let one : length (low n xs ++ n ∷ []) ≡ length (low n xs) + 1 = length-append (low n xs) (n ∷ []) in
    omega (arith, one, ap length (low-found n xs h t), low-length (n + 1) xs)
