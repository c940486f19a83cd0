-- How one party goes on alone, with the place at which it reads the list of queues.
use Rattle.std.proofs.Common.{◌≡◌, ℕ, true, false, ◌&&◌, not, if◌then◌else◌, List, [], ◌∷◌, ◌++◌, refl, sym, ap, subst, ◌∙◌}
use Rattle.executor_model.specs.declared.op.ListOp.TheVariants as list_op
use Rattle.executor_model.specs.declared.op.Op.{Op}
use Rattle.executor_model.specs.declared.op.Op.TheVariants as op
use Rattle.executor_model.specs.declared.op.RunPoll.{RunPoll}
use Rattle.executor_model.specs.declared.step.Hint.{Hint}
use Rattle.executor_model.specs.Doing.{act}
use Rattle.executor_model.specs.Steps.{waits}
use Rattle.executor_model.specs.World.{Done, World, done}
use Rattle.machine_roads.specs.Alone.{Has, HasAll, alone, is_outside, is_resting, one_by}
use Rattle.machine_roads.specs.Searching.{reads_list, start_of}
use Rattle.machine_roads.proofs.Lists.{clash}
use Rattle.machine_roads.proofs.Stepping.{Way}

-- from here to this end, where the list is read from this place on
pub record From (start p : ℕ) (end : Done) (w : World) (os : List Op) : Type 0 where
  pub way : Way p end w os
  pub starts : start_of p way.hints (done w os) ≡ start

abbrev pub start_in : (p : ℕ) (end : Done) (w : World) (os : List Op) → Way p end w os → ℕ
start_in p end w os way = start_of p way.hints (done w os)

pub from_way : (p : ℕ) (end : Done) (w : World) (os : List Op) (way : Way p end w os) → From (start_in p end w os way) p end w os
from_way p end w os way = record { way = way; starts = refl }

-- by one step from here
pub record StepFrom (start p : ℕ) (end : Done) (o : Op) (w : World) (os : List Op) : Type 0 where
  pub hint : Hint
  pub has : Has w o
  pub from : From start p end (act p hint o w).world ((act p hint o w).next ++ os)

-- by the step that reads the list
pub record ReadsFrom (start p : ℕ) (end : Done) (x : RunPoll) (w : World) (os : List Op) : Type 0 where
  pub hint : Hint
  pub is : hint.start ≡ start
  pub has : Has w (op.List (list_op.LockRead x))
  pub way : Way p end (act p hint (op.List (list_op.LockRead x)) w).world
      ((act p hint (op.List (list_op.LockRead x)) w).next ++ os)

module _ (start p : ℕ) (end : Done) (rests : is_resting end.next ≡ true) where
  pub next_from : (o : Op) (w : World) (os : List Op) → waits o ≡ false → reads_list (o ∷ os) ≡ false → From start p end w (o ∷ os)
      → StepFrom start p end o w os
  next_from o w os goes unread from = by from.way.hints from.way.has from.way.is from.starts
    where
      by : (hs : List Hint) → HasAll p hs (done w (o ∷ os)) → alone p hs (done w (o ∷ os)) ≡ end
          → start_of p hs (done w (o ∷ os)) ≡ start → StepFrom start p end o w os
      by [] has is starts = absurd (clash (ap (λ b. b && not (is_outside o)) goes) (ap (λ (d : Done). is_resting d.next) is ∙ rests))
      by (h ∷ hs) has is starts =
          let later : start_of p hs (one_by (waits o) p h o w os) ≡ start =
          sym (ap (λ b. if b then h.start else start_of p hs (one_by (waits o) p h o w os)) unread) ∙ starts in
          record {
            hint = h;
            has = has.0;
            from = record {
              way = record {
                hints = hs;
                has = subst (λ b. HasAll p hs (one_by b p h o w os)) goes has.1;
                is = subst (λ b. alone p hs (one_by b p h o w os) ≡ end) goes is;
              };
              starts = subst (λ b. start_of p hs (one_by b p h o w os) ≡ start) goes later;
            };
          }

  pub reads_from : (x : RunPoll) (w : World) (os : List Op) → From start p end w (op.List (list_op.LockRead x) ∷ os)
      → ReadsFrom start p end x w os
  reads_from x w os from = by from.way.hints from.way.has from.way.is from.starts
    where
      by : (hs : List Hint) → HasAll p hs (done w (op.List (list_op.LockRead x) ∷ os))
          → alone p hs (done w (op.List (list_op.LockRead x) ∷ os)) ≡ end
          → start_of p hs (done w (op.List (list_op.LockRead x) ∷ os)) ≡ start → ReadsFrom start p end x w os
      by [] has is starts = absurd (clash refl (ap (λ (d : Done). is_resting d.next) is ∙ rests))
      by (h ∷ hs) has is starts =
          record { hint = h; is = starts; has = has.0; way = record { hints = hs; has = has.1; is = is } }
