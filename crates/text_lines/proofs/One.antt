-- What a text can say in one way alone.
use Rattle.std.proofs.Common.{◌≡◌, ℕ, List, [], ◌∷◌, refl}
use Rattle.std.specs.List.{AllZip}
use Rattle.text_lines.specs.Number.{IsNumber}

-- a word is one number
pub IsNumber-one : (word other : List ℕ) (m n : ℕ) → word ≡ other → IsNumber word m → IsNumber other n → m ≡ n
IsNumber-one word other m n same p q =
    let value = p.value in
    let again = q.value in
    cc

-- what fits each of these lines is one list, where one thing alone fits a line
pub AllZip-one : {A B : Type 0} (R : A → B → Type 0) → ((x y : A) (z : B) → R x z → R y z → x ≡ y) → (xs ys : List A) (zs : List B) → AllZip R xs zs → AllZip R ys zs → xs ≡ ys
AllZip-one R one [] [] [] p q = refl
AllZip-one R one (x ∷ xs) (y ∷ ys) (z ∷ zs) p q =
    let here : x ≡ y = one x y z p.0 q.0 in
    let there : xs ≡ ys = AllZip-one R one xs ys zs p.1 q.1 in
    cc
AllZip-one R one [] ys (z ∷ zs) p q = absurd p
AllZip-one R one (x ∷ xs) ys [] p q = absurd p
AllZip-one R one [] (y ∷ ys) [] p q = absurd q
AllZip-one R one (x ∷ xs) [] (z ∷ zs) p q = absurd q
