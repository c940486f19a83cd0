-- What a call that the machine may begin speaks of came there.
use Rattle.std.proofs.Common.{◌≡◌, ℕ, zero, suc, ◌<◌, ◌≤◌, true, false, List, [], ◌∷◌, length, Option, Some, None, get_or}
use Rattle.std.proofs.Common.{⊎_elim, refl, sym, ap, subst, ◌∙◌, arith}
use Rattle.std.proofs.lemmas.List.{get_or_past}
use Rattle.task_moves.specs.declared.moves.state.State.{State}
use Rattle.executor_model.specs.declared.call.By.{By}
use Rattle.executor_model.specs.declared.call.By.TheVariants as by
use Rattle.executor_model.specs.declared.call.Call.{Call}
use Rattle.executor_model.specs.declared.op.Op.{Op}
use Rattle.executor_model.specs.declared.op.Op.TheVariants as op
use Rattle.executor_model.specs.declared.op.UserOp.TheVariants as user_op
use Rattle.executor_model.specs.declared.op.Waker.{Waker}
use Rattle.executor_model.specs.declared.op.Waker.TheVariants.{Task, Outside}
use Rattle.executor_model.specs.Good.{Good, wakers_past}
use Rattle.executor_model.specs.Rows.{past_of}
use Rattle.executor_model.specs.Steps.{Machine, below_top, future_of, has_all, has_handle, is_known, is_unused, kept, mine, stack, top}
use Rattle.executor_model.specs.Steps.{waker_of}
use Rattle.executor_model.specs.Rows.{handling_of}
use Rattle.executor_model.specs.Weights.{past, waker_past}
use Rattle.executor_model.specs.World.{World, blank, task}
use Rattle.executor_model.proofs.Steps.Lift.{split, topped}
use Rattle.executor_model.proofs.Steps.Lists.{past_is}
use Rattle.executor_model.proofs.Steps.Reached.{Reached, good-here}
use Rattle.plain_scheduler.specs.Calls as plain
use Rattle.machine_roads.specs.View.{Output}
use Rattle.machine_roads.specs.Within as within
use Rattle.machine_roads.specs.Within.{IsCallIn}
use Rattle.machine_roads.proofs.LoneRuns.{both_true}

-- a waker is of one of these many futures, or from outside; and what a call speaks of is of these
abbrev pub WakerCame : ℕ → Waker → Type 0
WakerCame n (Task f) = f < n
WakerCame n (Outside x) = Unit {0}

abbrev pub Came : ℕ → plain.Call Output Waker → Type 0
Came n (plain.Wake f) = f < n
Came n (plain.Use f) = f < n
Came n (plain.Copy f) = f < n
Came n (plain.Release f) = f < n
Came n (plain.PollHandle f w) = (f < n) × WakerCame n w
Came n (plain.Cancel f) = f < n
Came n (plain.Detach f) = f < n
Came n (plain.DropHandle f) = f < n
Came n (plain.PollTick t w) = WakerCame n w
Came n (plain.PollRun r w) = WakerCame n w
Came n call = Unit {0}

below_of : (n f : ℕ) → past n f ≡ 0 → f < n
below_of n f is = grind (arith, past_is)

came_by : (n : ℕ) (w : Waker) → waker_past n w ≡ 0 → WakerCame n w
came_by n (Task f) is = below_of n f is
came_by n (Outside x) is = tt

some_is : {A : Type 0} (a b : A) → ◌≡◌ {A = Option A} (Some a) (Some b) → a ≡ b
some_is a b is = cc

kept_past : (n : ℕ) (ws : List (Option ℕ)) (k f : ℕ) → get_or ws k None ≡ Some f → wakers_past n ws ≡ 0 → past n f ≡ 0
kept_past n [] k f is none = absurd cc
kept_past n (None ∷ ws) zero f is none = absurd cc
kept_past n (Some g ∷ ws) zero f is none =
    subst (λ f. past n f ≡ 0) (some_is g f is) (omega (arith, none))
kept_past n (None ∷ ws) (suc k) f is none = kept_past n ws k f is none
kept_past n (Some g ∷ ws) (suc k) f is none = kept_past n ws k f is (omega (arith, none))

handle_past : (w : World) (f : ℕ) → (task w f).handle ≡ true → f < length w.tasks
handle_past w f has =
    ⊎_elim (λ x. x.1) (λ (x : (past (length w.tasks) f ≡ 1) × (length w.tasks ≤ f)). absurd (none (ap (λ (t : State). t.handle)
    (sym (get_or_past w.tasks f blank x.1)) ∙ has))) (past_is (length w.tasks) f).1
  where
    none : false ≡ true → ⊥
    none is = cc

module _ (s : Machine) (reached : Reached s) (p : ℕ) (there : p < length s.parties) where
  abbrev n : ℕ
  n = length s.world.tasks

  good : Good s
  good = good-here s reached

  top_past : (o : Op) → top (stack s p) ≡ Some o → past_of n o ≡ 0
  top_past o is =
      omega (arith, good.ops, split (past_of n) s.parties p (o ∷ []) (below_top (stack s p)) there (topped (stack s p) o is))

  here_past : (o : Option Op) → top (stack s p) ≡ o → (a : Waker) → mine o ≡ Some a → waker_past n a ≡ 0
  here_past (Some (op.User (user_op.Poll f))) is a its =
      subst (λ a. waker_past n a ≡ 0) (some_is (Task f) a its) (omega (arith, top_past (op.User (user_op.Poll f)) is))
  here_past (Some (op.User (user_op.PollOwn x))) is a its =
      subst (λ a. waker_past n a ≡ 0) (some_is x.waker a its) (omega (arith, top_past (op.User (user_op.PollOwn x)) is))
  here_past o is a its = absurd cc

  abbrev here : Option Waker
  here = mine (top (stack s p))

  its_waker : (o : Option Waker) → ((a : Waker) → o ≡ Some a → waker_past n a ≡ 0) → (b : By) → WakerCame n (waker_of o b)
  its_waker None none by.Mine = tt
  its_waker (Some a) none by.Mine = came_by n a (none a refl)
  its_waker None none (by.Outside x) = tt
  its_waker (Some a) none (by.Outside x) = tt

  waker_came : (b : By) → WakerCame n (waker_of here b)
  waker_came b = its_waker here (here_past (top (stack s p)) refl) b

  its_future : (o : Option Waker) → ((a : Waker) → o ≡ Some a → waker_past n a ≡ 0) → (f : ℕ) → future_of o ≡ Some f → f < n
  its_future (Some (Task g)) none f is = subst (λ f. f < n) (some_is g f is) (below_of n g (none (Task g) refl))
  its_future (Some (Outside x)) none f is = absurd cc
  its_future None none f is = absurd cc

  kept_came : (k f : ℕ) → kept s.world k ≡ Some f → f < n
  kept_came k f is = below_of n f (kept_past n s.world.wakers k f is good.fits.wakers)

  future_came : (f : ℕ) → future_of here ≡ Some f → f < n
  future_came f is = its_future here (here_past (top (stack s p)) refl) f is

  handle_came : (f : ℕ) → has_handle s.world s.parties f ≡ true → f < n
  handle_came f has = handle_past s.world f (both_true (task s.world f).handle (is_unused (handling_of f) s.parties) has).0

  pub came : (c : Call) (x : plain.Call Output Waker) → IsCallIn here s.world c x
      → has_all s.world s.parties (top (stack s p)) c ≡ true → Came n x
  came c x (within.spawn m) has = tt
  came c x within.try_tick has = tt
  came c x within.is_empty has = tt
  came c x (within.use_waker k f is) has = kept_came k f is
  came c x (within.wake k f is) has = kept_came k f is
  came c x (within.copy k f is) has = kept_came k f is
  came c x (within.release k f is) has = kept_came k f is
  came c x (within.keep f is) has = future_came f is
  came c x (within.wake_self f is) has = future_came f is
  came c x (within.poll_handle f b) has =
      (handle_came f (both_true (has_handle s.world s.parties f) (is_known (top (stack s p)) b) has).0, waker_came b)
  came c x (within.cancel f) has = handle_came f has
  came c x (within.detach f) has = handle_came f has
  came c x (within.drop_handle f) has = handle_came f has
  came c x within.new_tick has = tt
  came c x (within.poll_tick t b) has = waker_came b
  came c x (within.drop_tick t) has = tt
  came c x within.new_run has = tt
  came c x (within.poll_run r b) has = waker_came b
  came c x (within.drop_run r) has = tt
  came c x within.leak has = tt
