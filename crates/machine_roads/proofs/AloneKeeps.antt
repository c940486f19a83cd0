-- What one party does alone keeps something of the world, where nothing that would change it is to be done before it stops.
use Rattle.std.proofs.Common.{◌≡◌, ◌≤◌, ◌+◌, ◌++◌, ℕ, List, [], ◌∷◌, Bool, true, false, cond, refl, arith}
use Rattle.executor_model.specs.declared.op.Op.{Op}
use Rattle.executor_model.specs.declared.op.Op.TheVariants as op
use Rattle.executor_model.specs.declared.op.UserOp.{UserOp}
use Rattle.executor_model.specs.declared.op.UserOp.TheVariants as user_op
use Rattle.executor_model.specs.declared.step.Hint.{Hint}
use Rattle.executor_model.specs.Doing.{act}
use Rattle.executor_model.specs.Steps.{waits}
use Rattle.executor_model.specs.Weights.{weigh}
use Rattle.executor_model.specs.World.{Done, World, done}
use Rattle.machine_roads.specs.Alone.{HasAllOf, HasFirst, alone, answered_by, is_outside, is_resting, one_by}

-- user code is called, but no outside waker
abbrev pub calls_user : Op → Bool
calls_user (op.User (user_op.CallOutside x)) = false
calls_user (op.User o) = true
calls_user _ = false

-- a sum over what is to be done up to where it stops
module _ (stops : Op → Bool) (v : Op → ℕ) where
  abbrev pub due_to : List Op → ℕ
  due_to [] = 0
  due_to (o ∷ os) = cond (stops o) 0 (v o + due_to os)

  unless_it_stops : (b : Bool) (n : ℕ) → n ≡ 0 → cond b 0 n ≡ 0
  unless_it_stops true n none = refl
  unless_it_stops false n none = none

  of_both : (x : Op) (os : List Op) → v x ≡ 0 → due_to os ≡ 0 → due_to (x ∷ os) ≡ 0
  of_both x os none rest = unless_it_stops (stops x) (v x + due_to os) (omega (arith, none, rest))

  pub due_to_push : (xs ys : List Op) → weigh v xs ≡ 0 → due_to ys ≡ 0 → due_to (xs ++ ys) ≡ 0
  due_to_push [] ys none below = below
  due_to_push (x ∷ xs) ys none below =
      of_both x (xs ++ ys) (omega (arith, none)) (due_to_push xs ys (omega (arith, none)) below)

  -- where one that stops is among them, what comes behind that doesn't matter
  pub due_to_append : (xs ys : List Op) → due_to xs ≡ 0 → due_to ys ≡ 0 → due_to (xs ++ ys) ≡ 0
  due_to_append [] ys none below = below
  due_to_append (x ∷ xs) ys none below = by (λ none. due_to_append xs ys none below) (stops x) none
    where
      by : (due_to xs ≡ 0 → due_to (xs ++ ys) ≡ 0) → (b : Bool) → cond b 0 (v x + due_to xs) ≡ 0
          → cond b 0 (v x + due_to (xs ++ ys)) ≡ 0
      by more true none = refl
      by more false none = omega (arith, none, more (omega (arith, none)))

  -- each thing keeps it, and leads to nothing that wouldn't
  pub record Keeps (Asked : World → Op → Type 0) (R : World → World → Type 0) : Type 0 where
    pub here : (w : World) → R w w
    pub on : (u w x : World) → R u w → R w x → R u x
    pub rest : (p : ℕ) (h : Hint) (o : Op) (os : List Op) (w : World) → waits o ≡ false → Asked w o → due_to (o ∷ os) ≡ 0
        → due_to ((act p h o w).next ++ os) ≡ 0
    pub same : (p : ℕ) (h : Hint) (o : Op) (os : List Op) (w : World) → waits o ≡ false → Asked w o → due_to (o ∷ os) ≡ 0
        → R w (act p h o w).world
    -- it doesn't stop at the call of an outside waker
    pub outside : (o : Op) → is_outside o ≡ true → stops o ≡ false

  module _ (Asked : World → Op → Type 0) (R : World → World → Type 0) (keeps : Keeps Asked R) where
    answered_due : (b : Bool) (o : Op) (os : List Op) → is_outside o ≡ b → due_to (o ∷ os) ≡ 0 → due_to (answered_by b o os) ≡ 0
    answered_due false o os is none = none
    answered_due true o os is none = by (stops o) (keeps.outside o is) none
      where
        by : (b : Bool) → b ≡ false → cond b 0 (v o + due_to os) ≡ 0 → due_to os ≡ 0
        by false not none = omega (arith, none)
        by true not none = absurd cc

    pub alone_keeps : (p : ℕ) (hints : List Hint) (w : World) (os : List Op) → HasAllOf Asked p hints (done w os) → due_to os ≡ 0
        → R w (alone p hints (done w os)).world
    alone_keeps p [] w os has none = keeps.here w
    alone_keeps p (h ∷ hs) w [] has none = alone_keeps p hs w [] has.1 none
    alone_keeps p (h ∷ hs) w (o ∷ os) has none = by (λ w os has none. alone_keeps p hs w os has none) (waits o) refl has.1
      where
        by : ((w : World) (os : List Op) → HasAllOf Asked p hs (done w os) → due_to os ≡ 0 → R w (alone p hs (done w os)).world)
            → (b : Bool) → waits o ≡ b → HasAllOf Asked p hs (one_by b p h o w os) → R w (alone p hs (one_by b p h o w os)).world
        by on true is more = on w (answered_by (is_outside o) o os) more (answered_due (is_outside o) o os refl none)
        by on false is more =
            keeps.on w (act p h o w).world (alone p hs (done (act p h o w).world ((act p h o w).next ++ os))).world
            (keeps.same p h o os w is has.0 none)
            (on (act p h o w).world ((act p h o w).next ++ os) more (keeps.rest p h o os w is has.0 none))

-- up to where user code is called
abbrev pub due : (Op → ℕ) → List Op → ℕ
due v os = due_to calls_user v os

-- where nothing is asked
abbrev pub nothing_asked : World → Op → Type 0
nothing_asked w o = Unit {0}

pub none_asked : (p : ℕ) (hints : List Hint) (d : Done) → HasAllOf nothing_asked p hints d
none_asked p [] d = tt
none_asked p (h ∷ hs) d = (first d.next, none_asked p hs _)
  where
    first : (os : List Op) → HasFirst nothing_asked d.world os
    first [] = tt
    first (o ∷ os) = tt

-- a smaller count
pub due_less : (stops : Op → Bool) (v u : Op → ℕ) → ((o : Op) → v o ≤ u o) → (os : List Op) → due_to stops u os ≡ 0
    → due_to stops v os ≡ 0
due_less stops v u less [] none = refl
due_less stops v u less (o ∷ os) none = by (λ none. due_less stops v u less os none) (stops o) none
  where
    by : (due_to stops u os ≡ 0 → due_to stops v os ≡ 0) → (b : Bool) → cond b 0 (u o + due_to stops u os) ≡ 0
        → cond b 0 (v o + due_to stops v os) ≡ 0
    by more true none = refl
    by more false none = omega (arith, none, less o, more (omega (arith, none)))

-- who rests comes to user code at once
pub due_resting : (v : Op → ℕ) (os : List Op) → is_resting os ≡ true → due v os ≡ 0
due_resting v [] rests = refl
due_resting v (op.User (user_op.CallOutside x) ∷ os) rests = absurd cc
due_resting v (op.User o ∷ os) rests = refl
due_resting v (o ∷ os) rests = absurd cc

pub due_push : (v : Op → ℕ) (xs ys : List Op) → weigh v xs ≡ 0 → due v ys ≡ 0 → due v (xs ++ ys) ≡ 0
due_push v xs ys none below = due_to_push calls_user v xs ys none below

-- up to where user code is called, where each thing that counts nothing leads to nothing that does, and keeps it
module _ (v : Op → ℕ) (R : World → World → Type 0)
    (next : (p : ℕ) (h : Hint) (o : Op) (w : World) → waits o ≡ false → v o ≡ 0 → weigh v (act p h o w).next ≡ 0)
    (same : (p : ℕ) (h : Hint) (o : Op) (w : World) → v o ≡ 0 → R w (act p h o w).world)
    (users : (p : ℕ) (h : Hint) (o : UserOp) (w : World) → R w (act p h (op.User o) w).world) where
  rest_due : (p : ℕ) (h : Hint) (o : Op) (os : List Op) (w : World) → waits o ≡ false → due v (o ∷ os) ≡ 0
      → due v ((act p h o w).next ++ os) ≡ 0
  rest_due p h (op.User (user_op.CallOutside x)) os w goes none = absurd cc
  rest_due p h (op.User o) os w goes none = refl
  rest_due p h o os w goes none =
      due_to_push calls_user v (act p h o w).next os (next p h o w goes (omega (arith, none))) (omega (arith, none))

  same_due : (p : ℕ) (h : Hint) (o : Op) (os : List Op) (w : World) → due v (o ∷ os) ≡ 0 → R w (act p h o w).world
  same_due p h (op.User o) os w none = users p h o w
  same_due p h o os w none = same p h o w (omega (arith, none))

  no_stop : (o : Op) → is_outside o ≡ true → calls_user o ≡ false
  no_stop (op.User (user_op.CallOutside x)) is = refl
  no_stop o is = absurd cc

  pub alone_kept : ((w : World) → R w w) → ((u w x : World) → R u w → R w x → R u x) → (p : ℕ) (hints : List Hint) (w : World)
      (os : List Op) → due v os ≡ 0 → R w (alone p hints (done w os)).world
  alone_kept here on p hints w os none =
      alone_keeps calls_user v nothing_asked R
      (record {
        here = here;
        on = on;
        rest = λ p h o os w goes asked none. rest_due p h o os w goes none;
        same = λ p h o os w goes asked none. same_due p h o os w none;
        outside = no_stop;
      }) p hints w os (none_asked p hints (done w os)) none
