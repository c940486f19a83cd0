-- A list that stands in a relation, one by one, to the front of another.
use Rattle.std.proofs.Common.{◌≡◌, suc, ◌+◌, ◌<◌, List, [], ◌∷◌, ◌++◌, length, refl, sym, ap, ◌∙◌, append_assoc, append-nil, length-append, arith}
use Rattle.std.specs.List.{AllZip}

-- the front of ys stands to xs, one by one, and these are left
pub record ZipsFront {A B : Type 0} (R : A → B → Type 0) (xs : List A) (ys left : List B) : Type 0 where
  pub front : List B
  pub parts : ys ≡ front ++ left
  pub each : AllZip R xs front

pub ZipsFront-none : {A B : Type 0} (R : A → B → Type 0) (ys : List B) → ZipsFront R [] ys ys
ZipsFront-none R ys = record { front = []; parts = refl; each = tt }

AllZip-push_both : {A B : Type 0} (R : A → B → Type 0) (xs : List A) (ys : List B) (x : A) (y : B) → AllZip R xs ys → R x y → AllZip R (xs ++ x ∷ []) (ys ++ y ∷ [])
AllZip-push_both R [] [] x y each here = (here, tt)
AllZip-push_both R [] (b ∷ ys) x y each here = absurd each
AllZip-push_both R (a ∷ xs) [] x y each here = absurd each
AllZip-push_both R (a ∷ xs) (b ∷ ys) x y each here = (each.0, AllZip-push_both R xs ys x y each.1 here)

pub length-AllZip : {A B : Type 0} (R : A → B → Type 0) (xs : List A) (ys : List B) → AllZip R xs ys → length xs ≡ length ys
length-AllZip R [] [] each = refl
length-AllZip R [] (b ∷ ys) each = absurd each
length-AllZip R (a ∷ xs) [] each = absurd each
length-AllZip R (a ∷ xs) (b ∷ ys) each = ap suc (length-AllZip R xs ys each.1)

-- one more on either side
pub ZipsFront-push : {A B : Type 0} (R : A → B → Type 0) (xs : List A) (ys left rest : List B) (x : A) (y : B) → ZipsFront R xs ys left → left ≡ y ∷ rest → R x y → ZipsFront R (xs ++ x ∷ []) ys rest
ZipsFront-push R xs ys left rest x y so_far next here = record {
  front = so_far.front ++ y ∷ [];
  parts = so_far.parts ∙ ap (λ l. so_far.front ++ l) next ∙ sym (append_assoc so_far.front (y ∷ []) rest);
  each = AllZip-push_both R xs so_far.front x y so_far.each here;
}

-- nothing is left
pub ZipsFront-all : {A B : Type 0} (R : A → B → Type 0) (xs : List A) (ys left : List B) → ZipsFront R xs ys left → left ≡ [] → AllZip R xs ys
ZipsFront-all R xs ys left so_far none = rw (so_far.parts, none, append-nil) so_far.each

-- each element of the one list has one in the other
AllZip-middle : {A B : Type 0} (R : A → B → Type 0) (xs : List A) (front rest : List B) (y : B) → AllZip R xs (front ++ y ∷ rest) → (x : A) × R x y
AllZip-middle R [] [] rest y each = absurd each
AllZip-middle R [] (b ∷ front) rest y each = absurd each
AllZip-middle R (a ∷ xs) [] rest y each = (a, each.0)
AllZip-middle R (a ∷ xs) (b ∷ front) rest y each = AllZip-middle R xs front rest y each.1

-- what stands to no x is in no list that stands to others
pub ZipsFront-stuck : {A B : Type 0} (R : A → B → Type 0) (xs : List A) (ys left rest : List B) (y : B) → ZipsFront R xs ys left → left ≡ y ∷ rest → ((x : A) → ¬ (R x y)) → (others : List A) → ¬ (AllZip R others ys)
ZipsFront-stuck R xs ys left rest y so_far next none others each =
    let parts : ys ≡ so_far.front ++ y ∷ rest = so_far.parts ∙ ap (λ l. so_far.front ++ l) next in
    let found = AllZip-middle R others so_far.front rest y (rw (← parts) each) in
    none found.0 found.1

-- more stand in ys than in xs
pub ZipsFront-more : {A B : Type 0} (R : A → B → Type 0) (xs : List A) (ys left rest : List B) (y : B) → ZipsFront R xs ys left → left ≡ y ∷ rest → length xs < length ys
ZipsFront-more R xs ys left rest y so_far next =
    let parts : ys ≡ so_far.front ++ y ∷ rest = so_far.parts ∙ ap (λ l. so_far.front ++ l) next in
    let same : length xs ≡ length so_far.front = length-AllZip R xs so_far.front so_far.each in
    let whole : length ys ≡ length so_far.front + length (y ∷ rest) = ap length parts ∙ length-append so_far.front (y ∷ rest) in
    omega arith
