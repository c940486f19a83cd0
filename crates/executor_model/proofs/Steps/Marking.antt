-- For queues_are_by_mark, futures_are_marked_as_spawned and arrival_order_needs_fewer_ticks.
-- Which things that are done change the marks: only an entry into the table gives one, and there are as many as tasks.
pub use Rattle.executor_model.proofs.Steps.Parts.{enters as lists}
use Rattle.std.proofs.Common.{◌≡◌, ℕ, List, length, Bool, true, false, refl, sym, ap, ◌∙◌}
use Rattle.std.{proofs.Math.ListN.length-set, specs.Prelude.Option}
use Rattle.executor_model.proofs.Types.{Mark, State, Call, Event, Op, Waker, Hint, UserEnd}
use Rattle.executor_model.specs.{Steps.accepts, Steps.begun, Steps.react, World.World, World.put, Doing.act}
use Rattle.executor_model.proofs.Steps.ByParts.{by-act}
use Rattle.executor_model.proofs.Steps.Parts.{Parts, Stay, by-begun, by-react}

pub record Entries : Type 0 where
  pub marks : List Mark
  pub count : ℕ

abbrev pub entries : World → Entries
entries w = record { marks = w.marks; count = length w.tasks }

put-entries : (w : World) (f : ℕ) (s : State) → entries w ≡ entries (put w f s)
put-entries w f s = ap (λ (n : ℕ). record { marks = w.marks; count = n }) (sym (length-set w.tasks f s))

abbrev SameEntries : World → World → Type 0
SameEntries w v = entries w ≡ entries v

-- so they stay by each part but a future's coming
stays : {T : Event → Type 0} (z a b c : Bool) → c ≡ false → Parts SameEntries T z a b c
stays z a b c n = record {
  aside = λ w v e. ap (λ (x : Stay). record { marks = x.marks; count = length x.tasks }) e;
  both = λ w v x l m. l ∙ m;
  moved = put-entries;
  stored = λ w f x. refl;
  placed = λ w f x y. refl;
  kept = λ w ws y. refl;
  turned = λ w k y. refl;
  listed = λ w x ts ls ks y. refl;
  entered = λ w s m y. absurd (cc);
  tells = λ w e t. refl;
}

pub same-entries : (p : ℕ) (h : Hint) (o : Op) (w : World) → lists o ≡ false → entries w ≡ entries (act p h o w).world
same-entries p h o w n = by-act SameEntries p h o w (stays _ _ _ _ n)

pub same-react : (p : ℕ) (o : Op) (u : UserEnd) (w : World) → accepts o u ≡ true → entries w ≡ entries (react p o u w).world
same-react p o u w a = by-react SameEntries p o u w (stays _ _ _ _ refl)

pub same-begun : (p : ℕ) (w : World) (here : Option Waker) (c : Call) → entries w ≡ entries (begun p w here c).world
same-begun p w here c = by-begun SameEntries p w here c (stays _ _ _ _ refl)
