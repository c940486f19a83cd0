-- For laws of the crates above.
-- What one more element does to the words in which a trace is described.
use Rattle.std.proofs.Common.{◌≡◌, ℕ, ◌+◌, ◌-◌, ◌≤◌, Bool, true, false, ◌||◌, not, cond, List, [], ◌∷◌, ◌++◌, length, drop}
use Rattle.std.proofs.Common.{refl, ap, ◌∙◌, arith, length-append}
use Rattle.std.specs.List.{list_any, filter, prefix_len, suffix_len, after_last}
use Rattle.std.proofs.lemmas.List.{reverse-append, drop_all, drop-append-le, append-nil}
use Rattle.std.proofs.lemmas.List.Sums.{suffix_len-le-length}
use Rattle.std.{proofs.Math.Bool.or-false, proofs.lemmas.List.Folds.list_any-append, proofs.lemmas.List.Elements.filter-append}

module _ {X : Type 0} (p t : X → Bool) where
  pub any-push : (xs : List X) (e : X) → list_any t (xs ++ e ∷ []) ≡ (list_any t xs || t e)
  any-push xs e = list_any-append t xs (e ∷ []) ∙ ap (λ (b : Bool). list_any t xs || b) (or-false (t e))

  pub filter-push : (xs : List X) (e : X) → filter p (xs ++ e ∷ []) ≡ cond (p e) (filter p xs ++ e ∷ []) (filter p xs)
  filter-push xs e = filter-append p xs (e ∷ []) ∙ go (p e)
    where
      go : (b : Bool) → filter p xs ++ cond b (e ∷ []) [] ≡ cond b (filter p xs ++ e ∷ []) (filter p xs)
      go true = refl
      go false = append-nil (filter p xs)

  -- after the last
  last-push : (xs : List X) (e : X) (b : Bool) → p e ≡ b →
      list_any t (after_last p (xs ++ e ∷ [])) ≡ cond b false (list_any t (after_last p xs) || t e)
  last-push xs e b q =
      let tail : suffix_len (λ (x : X). not (p x)) (xs ++ e ∷ [])
      ≡ cond (not b) (1 + suffix_len (λ (x : X). not (p x)) xs) 0 =
      ap (prefix_len (λ (x : X). not (p x))) (reverse-append xs (e ∷ []))
      ∙ ap (λ (c : Bool). cond (not c) (1 + suffix_len (λ (x : X). not (p x)) xs) 0) q in
      ap (λ (k : ℕ). list_any t (drop (length (xs ++ e ∷ []) - k) (xs ++ e ∷ []))) tail ∙ go b
    where
      go : (b : Bool) → list_any t
          (drop (length (xs ++ e ∷ []) - cond (not b) (1 + suffix_len (λ (x : X). not (p x)) xs) 0)
          (xs ++ e ∷ [])) ≡ cond b false (list_any t (after_last p xs) || t e)
      go true = ap (list_any t) (drop_all (length (xs ++ e ∷ []) - 0) (xs ++ e ∷ []) (omega arith))
      go false =
          let more : length (xs ++ e ∷ []) ≡ length xs + 1 = length-append xs (e ∷ []) in
          let most : suffix_len (λ (x : X). not (p x)) xs ≤ length xs =
          suffix_len-le-length (λ (x : X). not (p x)) xs in
          let from : length (xs ++ e ∷ []) - (1 + suffix_len (λ (x : X). not (p x)) xs) ≡ length xs - suffix_len
          (λ (x : X). not (p x)) xs = omega (arith, more, most) in
          ap (λ (k : ℕ). list_any t (drop k (xs ++ e ∷ []))) from
          ∙ (ap (list_any t) (drop-append-le (length xs - suffix_len (λ (x : X). not (p x)) xs) xs (e ∷ [])
          (omega arith))
          ∙ any-push (after_last p xs) e)

  pub since-push : (xs : List X) (e : X) →
      list_any t (after_last p (xs ++ e ∷ [])) ≡ cond (p e) false (list_any t (after_last p xs) || t e)
  since-push xs e = last-push xs e (p e) refl
