-- For wakers_wake_their_own and futures_are_in_their_places.
-- Which things that are done change the kept wakers, or which futures are in their places: the rest leave both as they were.
pub use Rattle.executor_model.proofs.Steps.Parts.{places}
use Rattle.std.proofs.Common.{◌≡◌, ℕ, List, Bool, true, false, refl, ap, ◌∙◌}
use Rattle.std.specs.Prelude.{Option}
use Rattle.executor_model.specs.{World.World, Doing.act, Steps.accepts, Steps.react}
use Rattle.executor_model.proofs.Steps.Parts.{Parts, Stay, by-react, enters}
use Rattle.executor_model.proofs.{Types.Event, Types.Op, Types.TableOp, Types.Hint, Types.UserEnd, Steps.ByParts.by-act}

pub record Spots : Type 0 where
  pub inside : List Bool
  pub wakers : List (Option ℕ)

abbrev pub spots : World → Spots
spots w = record { inside = w.inside; wakers = w.wakers }

abbrev SameSpots : World → World → Type 0
SameSpots w v = spots w ≡ spots v

-- so they stay by each part but those that change them
stays : {T : Event → Type 0} (z a b c : Bool) → a ≡ false → c ≡ false → Parts SameSpots T z a b c
stays z a b c n m = record {
  aside = λ w v e. ap (λ (x : Stay). record { inside = x.inside; wakers = x.wakers }) e;
  both = λ w v x l k. l ∙ k;
  moved = λ w f s. refl;
  stored = λ w f x. refl;
  placed = λ w f x y. absurd (cc);
  kept = λ w ws y. absurd (cc);
  turned = λ w k y. refl;
  listed = λ w x ts ls ks y. refl;
  entered = λ w s k y. absurd (cc);
  tells = λ w e t. refl;
}

no-enter : (o : Op) → places o ≡ false → enters o ≡ false
no-enter (Op.Table (TableOp.Enter mark)) n = absurd (cc)
no-enter _ n = refl

pub same-spots : (p : ℕ) (h : Hint) (o : Op) (w : World) → places o ≡ false → spots w ≡ spots (act p h o w).world
same-spots p h o w n = by-act SameSpots p h o w (stays _ _ _ _ n (no-enter o n))

pub same-react : (p : ℕ) (o : Op) (u : UserEnd) (w : World) → accepts o u ≡ true → spots w ≡ spots (react p o u w).world
same-react p o u w a = by-react SameSpots p o u w (stays _ _ _ _ refl refl)
