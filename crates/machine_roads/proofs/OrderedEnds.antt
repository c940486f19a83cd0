-- Which ends of user code bring a queue into the list or take one from it: those of the drops of runs' own futures alone.
use Rattle.std.proofs.Common.{◌≡◌, ◌≤◌, ◌++◌, ◌==◌, ℕ, List, [], ◌∷◌, Bool, true, false}
use Rattle.std.proofs.Common.{if◌then◌else◌, refl, sym, ap, subst, arith}
use Rattle.std.proofs.lemmas.Bool.Decides.{nat_tests}
use Rattle.std.specs.Prelude.{is_some}
use Rattle.task_moves.specs.declared.moves.owed.Move.TheVariants as move
use Rattle.executor_model.specs.declared.call.Reply.{Reply}
use Rattle.executor_model.specs.declared.call.Reply.TheVariants as reply
use Rattle.executor_model.specs.declared.event.Answer.TheVariants.{Pending, Ready}
use Rattle.executor_model.specs.declared.op.HandleOp.TheVariants as handle_op
use Rattle.executor_model.specs.declared.op.ListOp.TheVariants as list_op
use Rattle.executor_model.specs.declared.op.Op.{Op}
use Rattle.executor_model.specs.declared.op.Op.TheVariants as op
use Rattle.executor_model.specs.declared.op.RunOp.TheVariants as run_op
use Rattle.executor_model.specs.declared.op.RunPoll.{RunPoll}
use Rattle.executor_model.specs.declared.op.Section.TheVariants as section
use Rattle.executor_model.specs.declared.op.TableOp.TheVariants as table_op
use Rattle.executor_model.specs.declared.op.UserOp.TheVariants as user_op
use Rattle.executor_model.specs.declared.op.Waker.{Waker}
use Rattle.executor_model.specs.declared.step.UserEnd.{UserEnd}
use Rattle.executor_model.specs.declared.step.UserEnd.TheVariants.{Done as Over, Polled}
use Rattle.executor_model.specs.Sound.{times}
use Rattle.executor_model.specs.Steps.{accepts}
use Rattle.executor_model.specs.Steps.{react}
use Rattle.executor_model.specs.World.{Done, Ended, Listed, New, Stage, World, done, log, no_run, run_of, task}
use Rattle.executor_model.specs.World as world
use Rattle.executor_model.proofs.Steps.Lists.{same_is}
use Rattle.plain_scheduler.specs.State.{Code, Drop, DropOwn, Lose, Plain, Poll, PollOwn, Taker}
use Rattle.plain_scheduler.specs.State as state
use Rattle.plain_scheduler.specs.Lists.{any, without}
use Rattle.plain_scheduler.specs.Usual.{order_in}
use Rattle.machine_roads.specs.View.{Output}
use Rattle.machine_roads.specs.Alone.{is_resting}
use Rattle.machine_roads.specs.Dropped.{answered as drop_answered, loses, rest_of}
use Rattle.machine_roads.specs.InLoss.{loss_ops}
use Rattle.machine_roads.specs.Losing.{left_of}
use Rattle.machine_roads.specs.Stopped.{Stopped, answered, drops, drops_given, drops_polled, polls}
use Rattle.machine_roads.specs.Within.{GoesOnBy, IsLeaving, Nested, StandsAlike, alike, by_run, by_tick, by_try}
use Rattle.machine_roads.specs.Within.{dropping, drops_own, forgetting, forgotten, going, listed, losing}
use Rattle.machine_roads.specs.Within.{nowhere, polls_own, takes, unlisted, untaken}
use Rattle.machine_roads.proofs.AloneKeeps.{due, due_push, due_resting}
use Rattle.machine_roads.proofs.DropPlaces.{loss_rests}
use Rattle.machine_roads.proofs.Enlisting.{enlists}
use Rattle.machine_roads.proofs.Inmost.{rests_in}

-- lists of runs

pub none_among : (r : ℕ) (rs : List ℕ) → times r rs ≡ 0 → any (λ k. r == k) rs ≡ false
none_among r [] none = refl
none_among r (x ∷ xs) none = by (r == x) refl (none_among r xs (omega (arith, none)))
  where
    by : (b : Bool) → (r == x) ≡ b → any (λ k. r == k) xs ≡ false → (if b then true else any (λ k. r == k) xs) ≡ false
    by true is rest = absurd (grind (arith, none, is, same_is, nat_tests))
    by false is rest = rest

pub one_among : (r : ℕ) (rs : List ℕ) → 1 ≤ times r rs → any (λ k. r == k) rs ≡ true
one_among r [] some = absurd (omega (arith, some))
one_among r (x ∷ xs) some = by (r == x) refl (λ more. one_among r xs more)
  where
    by : (b : Bool) → (r == x) ≡ b → (1 ≤ times r xs → any (λ k. r == k) xs ≡ true) → (if b then true else any (λ k. r == k) xs) ≡ true
    by true is rest = refl
    by false is rest = rest (grind (arith, some, is, same_is, nat_tests))

pub without_same : (r : ℕ) (rs : List ℕ) → world.without r rs ≡ without (λ k. r == k) rs
without_same r [] = refl
without_same r (x ∷ xs) = by (r == x) (without_same r xs)
  where
    by : (b : Bool) → world.without r xs ≡ without (λ k. r == k) xs
        → (let h : List ℕ = elim b [ true ↦ xs | false ↦ x ∷ world.without r xs ] in h)
        ≡ (if b then xs else x ∷ without (λ k. r == k) xs)
    by true is = refl
    by false is = ap (λ ys. x ∷ ys) is

pub without_none : (r : ℕ) (rs : List ℕ) → any (λ k. r == k) rs ≡ false → without (λ k. r == k) rs ≡ rs
without_none r [] none = refl
without_none r (x ∷ xs) none = by (r == x) none (λ none. without_none r xs none)
  where
    by : (b : Bool) → (if b then true else any (λ k. r == k) xs) ≡ false
        → (any (λ k. r == k) xs ≡ false → without (λ k. r == k) xs ≡ xs)
        → (if b then xs else x ∷ without (λ k. r == k) xs) ≡ x ∷ xs
    by true none rest = absurd cc
    by false none rest = ap (λ ys. x ∷ ys) (rest none)

-- an end of user code that isn't the drop of a run's own future brings no queue into the list and takes none from it

abbrev pub drops_a_run : List (Code Output Waker) → Bool
drops_a_run (DropOwn r x ∷ codes) = true
drops_a_run codes = false

abbrev pub IsLight : List Op → Type 0
IsLight [] = Unit {0}
IsLight (o ∷ os) = (u : UserEnd) → accepts o u ≡ true → (p : ℕ) (w : World) → due enlists ((react p o u w).next ++ os) ≡ 0

-- the queue of run r goes from the list, if it is there
pub data Unlists (r : ℕ) : Op → Type 0 where
  goes : (a : Reply) → Unlists r (op.List (list_op.LockWrite (section.Unregister r a)))
  isnt_there : Unlists r (op.Run (run_op.Reschedule r reply.Done))

pub data Ends : List Op → List (Code Output Waker) → Type 0 where
  light : (os : List Op) (codes : List (Code Output Waker)) → drops_a_run codes ≡ false → IsLight os → Ends os codes
  drops_run : (r : ℕ) (x : state.Answer Output) (o : Op) (below : List Op) (codes : List (Code Output Waker)) → Unlists r o
      → is_resting below ≡ true
      → Ends (op.User (user_op.DropOwn r) ∷ o ∷ below) (DropOwn r x ∷ codes)

final_light : (taker : Taker Waker) (final : Op) → GoesOnBy taker final → enlists final ≡ 0
final_light taker final by_try = refl
final_light taker final (by_tick t a) = refl
final_light taker final (by_run x true) = refl
final_light taker final (by_run x false) = refl

module _ (taker : Taker Waker) (final : Op) (below : List Op) (it : GoesOnBy taker final) (under : due enlists below ≡ 0) where
  light_poll : (f : ℕ) → IsLight (op.User (user_op.Poll f) ∷ final ∷ below)
  light_poll f (Polled Pending) fits p w =
      due_push enlists (op.Table (table_op.PutBack f) ∷ final ∷ []) below (omega (arith, final_light taker final it)) under
  light_poll f (Polled Ready) fits p w = refl
  light_poll f Over fits p w = absurd cc

  light_drop : (f : ℕ) (x : Op) → enlists x ≡ 0
      → IsLight (op.User (user_op.Drop f) ∷ op.Table (table_op.LeaveTable f) ∷ x ∷ final ∷ below)
  light_drop f x none (Polled a) fits p w = absurd cc
  light_drop f x none Over fits p w =
      due_push enlists (op.Table (table_op.LeaveTable f) ∷ x ∷ final ∷ []) below (omega (arith, none, final_light taker final it)) under

  light_loss : (f : ℕ) (b : Bool) → IsLight (op.User (user_op.DropOutput f) ∷ (rest_of b f final ++ below))
  light_loss f b (Polled a) fits p w = absurd cc
  light_loss f true Over fits p w = due_push enlists (rest_of true f final) below (omega (arith, final_light taker final it)) under
  light_loss f false Over fits p w = due_push enlists (rest_of false f final) below (omega (arith, final_light taker final it)) under

light_own : (x : RunPoll) (below : List Op) → due enlists below ≡ 0 → IsLight (op.User (user_op.PollOwn x) ∷ below)
light_own x below under (Polled Pending) fits p w = omega (arith, under)
light_own x below under (Polled Ready) fits p w = refl
light_own x below under Over fits p w = absurd cc

light_lost : (f : ℕ) (below : List Op) → due enlists below ≡ 0 → IsLight (op.User (user_op.DropOutput f) ∷ (left_of f ++ below))
light_lost f below under (Polled a) fits p w = absurd cc
light_lost f below under Over fits p w = due_push enlists (left_of f) below refl under

nested_ends : (os : List Op) (codes : List (Code Output Waker)) → Nested os codes → Ends os codes
nested_ends os codes nowhere = light [] [] refl tt
nested_ends os codes (takes taker final below xs inside more it nested stopped) =
    by os codes (nested_ends below inside nested) stopped
  where
    under : due enlists below ≡ 0
    under = due_resting enlists below (rests_in below inside nested)

    by : (os : List Op) (codes : List (Code Output Waker)) → Ends below inside → Stopped taker final below inside os codes → Ends os codes
    by os codes so answered = so
    by os codes so (polls f) = light _ _ refl (light_poll taker final below it under f)
    by os codes so (drops f) = light _ _ refl (light_drop taker final below it under f (op.Move move.SettleClosed f) refl)
    by os codes so (drops_polled f) = light _ _ refl (light_drop taker final below it under f (op.Move move.EndClosed f) refl)
    by os codes so (drops_given f) = light _ _ refl (light_drop taker final below it under f (op.Move move.EndReady f) refl)
nested_ends os codes (polls_own x below inside nested) =
    light _ _ refl (light_own x below (due_resting enlists below (rests_in below inside nested)))
nested_ends os codes (drops_own r below inside nested) =
    drops_run r state.Ready (op.List (list_op.LockWrite (section.Unregister r reply.Ready))) below inside (goes reply.Ready)
    (rests_in below inside nested)

leaving_ends : (r : ℕ) (o : Op) → IsLeaving r o → Unlists r o
leaving_ends r o unlisted = isnt_there
leaving_ends r o listed = goes reply.Done

-- in the drop of an output, in others
loss_light : (f : ℕ) (fs : List ℕ) (below : List Op) → is_resting below ≡ true → IsLight (loss_ops (f ∷ fs) below)
loss_light f fs below rests =
    light_lost f (loss_ops fs below) (due_resting enlists (loss_ops fs below) (loss_rests fs below rests))

pub alike_ends : (e : Done) (q : Plain Output Waker) → StandsAlike e q → Ends e.next q.inside
alike_ends e q (alike nested follows) = nested_ends e.next q.inside nested
alike_ends e q (losing f fs below codes nested stops) =
    light e.next q.inside (ap drops_a_run stops.inside)
    (subst IsLight (sym stops.left) (loss_light f fs below (rests_in below codes nested)))
alike_ends e q (going r [] below codes nested stops) =
    subst (λ os. Ends os q.inside) (sym stops.left)
    (subst (Ends (op.User (user_op.DropOwn r) ∷ stops.rest ∷ below)) (sym stops.inside)
    (drops_run r state.Done stops.rest below codes (leaving_ends r stops.rest stops.leaving) (rests_in below codes nested)))
alike_ends e q (going r (f ∷ fs) below codes nested stops) =
    light e.next q.inside (ap drops_a_run stops.inside)
    (subst IsLight (sym stops.left) (loss_light f fs (op.User (user_op.DropOwn r) ∷ stops.rest ∷ below) refl))
alike_ends e q (dropping taker final below f b it nested (drop_answered next inside follows)) =
    subst (λ os. Ends os q.inside) (sym next) (subst (Ends below) (sym inside) (nested_ends below b.inside nested))
alike_ends e q (dropping taker final below f b it nested (loses awaiter next inside ending)) =
    light e.next q.inside (ap drops_a_run inside)
    (subst IsLight (sym next)
    (light_loss taker final below it (due_resting enlists below (rests_in below b.inside nested)) f (task e.world f).awaiter))
alike_ends e q (untaken taker final below f awaiter g gs codes it nested stops) =
    light e.next q.inside (ap drops_a_run stops.inside)
    (subst IsLight (sym stops.left)
    (loss_light g gs (op.User (user_op.DropOutput f) ∷ (rest_of (is_some awaiter) f final ++ below)) refl))
alike_ends e q (forgetting taker final below f b it nested stops) =
    light e.next q.inside (ap drops_a_run stops.inside)
    (subst IsLight (sym stops.left)
    (light_drop taker final below it (due_resting enlists below (rests_in below b.inside nested)) f (op.Handle (handle_op.LetGo f)) refl))
alike_ends e q (forgotten taker final below f g gs codes it nested stops) =
    light e.next q.inside (ap drops_a_run stops.inside)
    (subst IsLight (sym stops.left)
    (loss_light g gs
    (op.User (user_op.Drop f) ∷ op.Table (table_op.LeaveTable f) ∷ op.Handle (handle_op.LetGo f) ∷ final ∷ below) refl))

pub order_kept : (codes : List (Code Output Waker)) (order : List ℕ) → drops_a_run codes ≡ false → order_in codes order ≡ order
order_kept [] order none = refl
order_kept (DropOwn r x ∷ codes) order none = absurd cc
order_kept (code ∷ codes) order none = refl
