-- A step of the machine is one call of the plain scheduler.
use Rattle.std.proofs.Common.{◌≡◌, ℕ, Bool, true, false, Option, Some, None, option_map, refl, sym, ap, ◌∙◌}
use Rattle.executor_model.specs.declared.call.Call.{Call}
use Rattle.executor_model.specs.declared.call.Call.TheVariants as call
use Rattle.executor_model.specs.declared.event.Answer.TheVariants.{Pending, Ready}
use Rattle.executor_model.specs.declared.op.Waker.{Waker}
use Rattle.executor_model.specs.declared.step.Step.{Step}
use Rattle.executor_model.specs.declared.step.Step.TheVariants.{Answer, Begin, Go}
use Rattle.executor_model.specs.declared.step.UserEnd.TheVariants.{Done as IsDone, Polled}
use Rattle.executor_model.specs.Steps.{Machine, future_of, kept, mine, stack, top, waker_of}
use Rattle.executor_model.specs.World.{World}
use Rattle.plain_scheduler.specs.Lists.{or}
use Rattle.plain_scheduler.specs.Calls as plain
use Rattle.plain_laws.specs.Searches.{looks_first}
use Rattle.machine_roads.specs.View.{Output}
use Rattle.machine_roads.specs.Within as within
use Rattle.machine_roads.specs.Within.{IsCallIn, IsMade}

meant : Option Waker → World → Call → Option (plain.Call Output Waker)
meant here w (call.Spawn m) = Some (plain.Spawn m)
meant here w call.TryTick = Some plain.TryTick
meant here w call.IsEmpty = Some plain.IsEmpty
meant here w (call.Wake k) = option_map (λ f. plain.Use f) (kept w k)
meant here w (call.WakeByRef k) = option_map (λ f. plain.Wake f) (kept w k)
meant here w (call.Copy k) = option_map (λ f. plain.Copy f) (kept w k)
meant here w (call.DropWaker k) = option_map (λ f. plain.Release f) (kept w k)
meant here w call.Keep = option_map (λ f. plain.Copy f) (future_of here)
meant here w call.WakeSelf = option_map (λ f. plain.Wake f) (future_of here)
meant here w (call.PollHandle f b) = Some (plain.PollHandle f (waker_of here b))
meant here w (call.Cancel f) = Some (plain.Cancel f)
meant here w (call.Detach f) = Some (plain.Detach f)
meant here w (call.DropHandle f) = Some (plain.DropHandle f)
meant here w call.NewTick = Some plain.NewTick
meant here w (call.PollTick t b) = Some (plain.PollTick t (waker_of here b))
meant here w (call.DropTick t) = Some (plain.DropTick t)
meant here w call.NewRun = Some plain.NewRun
meant here w (call.PollRun r b) = Some (plain.PollRun r (waker_of here b))
meant here w (call.DropRun r) = Some (plain.DropRun r)
meant here w call.Leak = Some plain.Leak
meant here w _ = None

is_meant : (here : Option Waker) (w : World) (c : Call) (x : plain.Call Output Waker) → IsCallIn here w c x → meant here w c ≡ Some x
unfolding meant
is_meant here w c x (within.spawn m) = refl
is_meant here w c x within.try_tick = refl
is_meant here w c x within.is_empty = refl
is_meant here w c x (within.use_waker k f is) = ap (λ o. option_map (λ f. plain.Use f) o) is
is_meant here w c x (within.wake k f is) = ap (λ o. option_map (λ f. plain.Wake f) o) is
is_meant here w c x (within.copy k f is) = ap (λ o. option_map (λ f. plain.Copy f) o) is
is_meant here w c x (within.release k f is) = ap (λ o. option_map (λ f. plain.Release f) o) is
is_meant here w c x (within.keep f is) = ap (λ o. option_map (λ f. plain.Copy f) o) is
is_meant here w c x (within.wake_self f is) = ap (λ o. option_map (λ f. plain.Wake f) o) is
is_meant here w c x (within.poll_handle f b) = refl
is_meant here w c x (within.cancel f) = refl
is_meant here w c x (within.detach f) = refl
is_meant here w c x (within.drop_handle f) = refl
is_meant here w c x within.new_tick = refl
is_meant here w c x (within.poll_tick t b) = refl
is_meant here w c x (within.drop_tick t) = refl
is_meant here w c x within.new_run = refl
is_meant here w c x (within.poll_run r b) = refl
is_meant here w c x (within.drop_run r) = refl
is_meant here w c x within.leak = refl

meant_by : Machine → ℕ → Step → Option (plain.Call Output Waker)
meant_by s p (Begin q c) = meant (mine (top (stack s p))) s.world c
meant_by s p (Answer q (Polled Pending)) = Some plain.Pends
meant_by s p (Answer q (Polled Ready)) = Some (plain.EndsWith tt)
meant_by s p (Answer q IsDone) = Some plain.Ends
meant_by s p (Go q h) = None

is_meant_by : (s : Machine) (p : ℕ) (t : Step) (x : plain.Call Output Waker) → IsMade s p t x → meant_by s p t ≡ Some x
unfolding meant_by
is_meant_by s p t x (within.begins c y is) = is_meant (mine (top (stack s p))) s.world c y is
is_meant_by s p t x within.pends = refl
is_meant_by s p t x within.gives = refl
is_meant_by s p t x within.ends = refl

-- no step is two
pub one_made : (s : Machine) (p : ℕ) (t : Step) (x y : plain.Call Output Waker) → IsMade s p t x → IsMade s p t y → x ≡ y
one_made s p t x y one two = ap (λ o. or o (λ z. z) x) (sym (is_meant_by s p t x one) ∙ is_meant_by s p t y two)

-- a try and a poll of a tick begin
abbrev pub is_begin : Step → Bool
is_begin (Begin p c) = true
is_begin _ = false

pub takes_begin : (s : Machine) (p : ℕ) (t : Step) (x : plain.Call Output Waker) → IsMade s p t x → looks_first x ≡ true → is_begin t ≡ true
takes_begin s p t x (within.begins c y is) take = refl
takes_begin s p t x within.pends take = absurd cc
takes_begin s p t x within.gives take = absurd cc
takes_begin s p t x within.ends take = absurd cc
