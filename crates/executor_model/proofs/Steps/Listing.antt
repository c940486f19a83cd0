-- For the_closing_drop_keeps_the_order and the_closing_drop_wakes_in_order.
-- Which things that are done change the table, or the lists of those that the executor's drop has still to drop and to
-- wake: the rest leave all three as they were.
pub use Rattle.executor_model.proofs.Steps.Parts.{lists}
use Rattle.std.proofs.Common.{◌≡◌, ℕ, List, Bool, true, false, refl, ap, ◌∙◌}
use Rattle.std.specs.Prelude.{Option}
use Rattle.executor_model.proofs.Types.{Move, Call, Event, Op, Waker, Hint, UserEnd}
use Rattle.executor_model.specs.{Acts.move_by, Steps.accepts, Steps.begun, Steps.react, World.World, Doing.act}
use Rattle.executor_model.proofs.Steps.ByParts.{by-act, by-move}
use Rattle.executor_model.proofs.Steps.Parts.{Parts, Stay, by-begun, by-react, told}

pub record Entries : Type 0 where
  pub table : List ℕ
  pub leaving : List ℕ
  pub waking : List ℕ

abbrev pub entries : World → Entries
entries w = record { table = w.table; leaving = w.leaving; waking = w.waking }

abbrev SameEntries : World → World → Type 0
SameEntries w v = entries w ≡ entries v

-- so they stay by each part but those that change them
stays : {T : Event → Type 0} (z a b c : Bool) → b ≡ false → Parts SameEntries T z a b c
stays z a b c n = record {
  aside = λ w v e. ap (λ (x : Stay). record { table = x.table; leaving = x.leaving; waking = x.waking }) e;
  both = λ w v x l m. l ∙ m;
  moved = λ w f s. refl;
  stored = λ w f x. refl;
  placed = λ w f x y. refl;
  kept = λ w ws y. refl;
  turned = λ w k y. refl;
  listed = λ w x ts ls ks y. absurd (cc);
  entered = λ w s m y. refl;
  tells = λ w e t. refl;
}

pub entries-move : (b : Bool) (m : Move) (p : ℕ) (w : World) (f : ℕ) → entries w ≡ entries (move_by b m p w f).world
entries-move b m p w f = by-move SameEntries p (Op.Move m f) (stays _ _ _ _ refl) b m w f (told m f)

pub same-entries : (p : ℕ) (h : Hint) (o : Op) (w : World) → lists o ≡ false → entries w ≡ entries (act p h o w).world
same-entries p h o w n = by-act SameEntries p h o w (stays _ _ _ _ n)

pub same-react : (p : ℕ) (o : Op) (u : UserEnd) (w : World) → accepts o u ≡ true → entries w ≡ entries (react p o u w).world
same-react p o u w a = by-react SameEntries p o u w (stays _ _ _ _ refl)

pub same-begun : (p : ℕ) (w : World) (here : Option Waker) (c : Call) → entries w ≡ entries (begun p w here c).world
same-begun p w here c = by-begun SameEntries p w here c (stays _ _ _ _ refl)
