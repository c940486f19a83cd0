-- Steps that end at any depth from some on, put together.
use Rattle.std.proofs.Common.{◌≡◌, ℕ, zero, suc, ◌+◌, ◌-◌, ◌≤◌, Bool, false, List, [], ◌∷◌, refl, ap, subst, ◌∙◌, arith}
use Rattle.solo_laws.specs.Going.{Going, Step}
use Rattle.solo_laws.specs.Seen.{sees}
use Rattle.solo_laws.specs.Done.{does, behind}
use Rattle.solo_laws.specs.Goes.{goes, stops, walks}
use Rattle.solo_laws.specs.SearchesGo.{Ends}
use Rattle.call_steps.specs.Next.{next}

no-depth : {A : Type 0} (d : ℕ) → suc d ≤ 0 → A
no-depth d le = absurd (omega (arith, le))

no-depth-yet : {A : Type 0} (d : ℕ) → suc (suc d) ≤ 1 → A
no-depth-yet d le = absurd (omega (arith, le))

module _ {F T X : Type 0} where
  abbrev pub emptied : Going F T X → Going F T X
  emptied g = record g { left = [] }

  nil_at : (g : Going F T X) (m : ℕ) → 1 ≤ m → goes m [] g ≡ g
  nil_at g zero le = no-depth 0 le
  nil_at g (suc m) le = refl

  pub nil : (g : Going F T X) → Ends [] g g
  nil g = (1, nil_at g)

  -- by what holds at this depth and each that is greater
  pub fixed : (up : ℕ → ℕ) (k : ℕ) (steps : List Step) (g end : Going F T X) → ((m : ℕ) → k ≤ m → up (m - k) ≡ m)
      → ((n : ℕ) → goes (up n) steps g ≡ end) → Ends steps g end
  fixed up k steps g end is holds =
      (k, λ m le. subst (λ (d : ℕ). goes d steps g ≡ end) (is m le) (holds (m - k)))

  pub ends_as : (steps : List Step) (g end other : Going F T X) → Ends steps g end → end ≡ other → Ends steps g other
  ends_as steps g end other ends same = subst (λ (e : Going F T X). Ends steps g e) same ends

  app_at : (o : Step) (more : List Step) (g mid end : Going F T X) (a : Ends (o ∷ []) g mid) (b : Ends more mid end) (m : ℕ)
      → suc (suc (a.0 + b.0)) ≤ m → goes m (o ∷ more) g ≡ end
  app_at o more g mid end a b zero le = no-depth (suc (a.0 + b.0)) le
  app_at o more g mid end a b (suc zero) le = no-depth-yet (a.0 + b.0) le
  app_at o more g mid end a b (suc (suc k)) le =
      ap (goes (suc k) more) (a.1 (suc (suc k)) (omega (arith, le))) ∙ b.1 (suc k) (omega (arith, le))

  -- a step, and then these
  pub app : (o : Step) (more : List Step) (g mid end : Going F T X) → Ends (o ∷ []) g mid → Ends more mid end → Ends (o ∷ more) g end
  app o more g mid end a b = (suc (suc (a.0 + b.0)), app_at o more g mid end a b)

  one_at : (o : Step) (g mid : Going F T X) → stops o (emptied g) ≡ false
      → (a : Ends (next o (sees o (emptied g))) (does o (emptied g)) mid) (m : ℕ) → suc (suc a.0) ≤ m
      → goes m (o ∷ []) (emptied g) ≡ behind o (emptied g) mid
  one_at o g mid is a zero le = no-depth (suc a.0) le
  one_at o g mid is a (suc zero) le = no-depth-yet a.0 le
  one_at o g mid is a (suc (suc k)) le =
      ap (λ (b : Bool). walks (goes (suc k)) b o (emptied g)) is ∙ ap (behind o (emptied g)) (a.1 (suc k) (omega (arith, le)))

  -- a step, and what follows it
  pub one : (o : Step) (g mid : Going F T X) → stops o (emptied g) ≡ false
      → Ends (next o (sees o (emptied g))) (does o (emptied g)) mid → Ends (o ∷ []) (emptied g) (behind o (emptied g) mid)
  one o g mid is a = (suc (suc a.0), one_at o g mid is a)
