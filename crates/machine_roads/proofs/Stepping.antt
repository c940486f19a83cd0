-- How one party goes on alone to a given end, a step at a time.
use Rattle.std.proofs.Common.{◌≡◌, ℕ, true, false, ◌&&◌, not, List, [], ◌∷◌, ◌++◌, refl, ap, subst, ◌∙◌}
use Rattle.executor_model.specs.declared.op.Op.{Op}
use Rattle.executor_model.specs.declared.op.Op.TheVariants as op
use Rattle.executor_model.specs.declared.op.UserOp.TheVariants as user_op
use Rattle.executor_model.specs.declared.step.Hint.{Hint}
use Rattle.executor_model.specs.Doing.{act}
use Rattle.executor_model.specs.Steps.{waits}
use Rattle.executor_model.specs.World.{World, Done, done}
use Rattle.machine_roads.specs.Alone.{alone, one_by, is_outside, is_resting, Has, HasAllOf}
use Rattle.machine_roads.proofs.Lists.{clash}

module _ (Asked : World → Op → Type 0) where
  -- from here to this end, where at each moment what is asked is so
  pub record WayOf (p : ℕ) (end : Done) (w : World) (os : List Op) : Type 0 where
    pub hints : List Hint
    pub has : HasAllOf Asked p hints (done w os)
    pub is : alone p hints (done w os) ≡ end

  -- by one step from here
  pub record StepOf (p : ℕ) (end : Done) (o : Op) (w : World) (os : List Op) : Type 0 where
    pub hint : Hint
    pub has : Asked w o
    pub way : WayOf p end (act p hint o w).world ((act p hint o w).next ++ os)

  module _ (p : ℕ) (end : Done) (rests : is_resting end.next ≡ true) where
    pub next_of : (o : Op) (w : World) (os : List Op) → waits o ≡ false → WayOf p end w (o ∷ os) → StepOf p end o w os
    next_of o w os goes way = by way.hints way.has way.is
      where
        by : (hs : List Hint) → HasAllOf Asked p hs (done w (o ∷ os)) → alone p hs (done w (o ∷ os)) ≡ end → StepOf p end o w os
        by [] has is = absurd (clash (ap (λ b. b && not (is_outside o)) goes) (ap (λ (d : Done). is_resting d.next) is ∙ rests))
        by (h ∷ hs) has is = record {
          hint = h;
          has = has.0;
          way = record {
            hints = hs;
            has = subst (λ b. HasAllOf Asked p hs (one_by b p h o w os)) goes has.1;
            is = subst (λ b. alone p hs (one_by b p h o w os) ≡ end) goes is;
          };
        }

    -- the call of an outside waker ends
    pub past_outside_of : (x : ℕ) (w : World) (os : List Op) → WayOf p end w (op.User (user_op.CallOutside x) ∷ os)
        → WayOf p end w os
    past_outside_of x w os way = by way.hints way.has way.is
      where
        by : (hs : List Hint) → HasAllOf Asked p hs (done w (op.User (user_op.CallOutside x) ∷ os))
            → alone p hs (done w (op.User (user_op.CallOutside x) ∷ os)) ≡ end → WayOf p end w os
        by [] has is = absurd (clash refl (ap (λ (d : Done). is_resting d.next) is ∙ rests))
        by (h ∷ hs) has is = record { hints = hs; has = has.1; is = is }

abbrev pub Way : ℕ → Done → World → List Op → Type 0
Way p end w os = WayOf Has p end w os

module _ (p : ℕ) (end : Done) (rests : is_resting end.next ≡ true) where
  pub next : (o : Op) (w : World) (os : List Op) → waits o ≡ false → Way p end w (o ∷ os) → StepOf Has p end o w os
  next o w os goes way = next_of Has p end rests o w os goes way

  pub past_outside : (x : ℕ) (w : World) (os : List Op) → Way p end w (op.User (user_op.CallOutside x) ∷ os) → Way p end w os
  past_outside x w os way = past_outside_of Has p end rests x w os way
