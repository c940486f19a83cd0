-- Why a call can't be begun, in the order of the causes.
use Rattle.std.specs.Prelude.{◌≡◌, ◌≢◌, ◌⊎◌, ℕ, true, false, Some, [], ◌∷◌, ◌++◌, Result, Ok, Err, slice_get}
use Rattle.executor_model.specs.declared.call.By.{By}
use Rattle.executor_model.specs.declared.call.By.TheVariants.{Mine, Outside}
use Rattle.executor_model.specs.declared.call.Call.{Call}
use Rattle.executor_model.specs.declared.call.Call.TheVariants.{Cancel, Copy, Detach, DropHandle, DropRun, DropTick, DropWaker}
use Rattle.executor_model.specs.declared.call.Call.TheVariants.{Keep, PollHandle, PollRun, PollTick, Wake, WakeByRef, WakeSelf}
use Rattle.executor_model.specs.declared.event.Event.TheVariants.{CallBegun}
use Rattle.executor_model.specs.declared.op.Op.{Op}
use Rattle.executor_model.specs.declared.op.Waker.{Waker}
use Rattle.executor_model.specs.declared.op.Waker.TheVariants.{Task}
use Rattle.executor_model.specs.declared.step.Step.TheVariants.{Begin}
use Rattle.executor_model.specs.declared.step.StepError.{StepError}
use Rattle.executor_model.specs.declared.step.StepError.TheVariants.{Borrowed, Busy, Gone, NoSuch}
use Rattle.executor_model.specs.Calls.{calls}
use Rattle.executor_model.specs.Steps.{Machine, step}
use Rattle.executor_model.specs.Trace.{Trace, has, is_drop_begun}
use Rattle.executor_model.specs.World.{Left, run_of, task, tick_of}
use Rattle.call_laws.specs.InProgress.{InProgress, IsInMaking, is_leak, is_owners_call, names_run, names_tick, reads_waker}
use Rattle.call_laws.specs.InProgress.{uses_executor, uses_handle}
use Rattle.call_laws.specs.Steps.{IsParty}
use Rattle.call_laws.specs.UserCode.{DoesNext, IsInPoll, IsUserCode}

-- Busy: a call of the party is in progress, and the party isn't in user code
pub record IsBusy (p : ℕ) (s : Machine) : Type 0 where
  pub in_call : (calls p s.world.trace).begun ≢ []
  pub unfree : (o : Op) → DoesNext o p s → ¬ IsUserCode o

-- NoSuch: what the call names isn't there, or is in use

-- a kept waker that wasn't used up
abbrev pub HasWaker : ℕ → Machine → Type 0
HasWaker k s = (f : ℕ) × (slice_get s.world.wakers k ≡ Some (Some f))

abbrev pub HasHandle : ℕ → Machine → Type 0
HasHandle f s = ((task s.world f).handle ≡ true) × ¬ InProgress (uses_handle f) s.world.trace

abbrev pub LivingTick : ℕ → Machine → Type 0
LivingTick t s = tick_of s.world t ≢ Left

abbrev pub LivingRun : ℕ → Machine → Type 0
LivingRun r s = (run_of s.world r).dropped ≡ false

abbrev pub HasTick : ℕ → Machine → Type 0
HasTick t s = LivingTick t s × ¬ InProgress (λ b. names_tick t b.call) s.world.trace

abbrev pub HasRun : ℕ → Machine → Type 0
HasRun r s = LivingRun r s × ¬ IsInMaking r s × ¬ InProgress (λ b. names_run r b.call) s.world.trace

-- the waker that a poll is to be given
abbrev pub CanGive : By → ℕ → Machine → Type 0
CanGive Mine p s = (a : Waker) × IsInPoll a p s
CanGive (Outside x) p s = Unit {0}

-- nobody reads the kept waker that is to be used up
abbrev pub CanUseUp : ℕ → Machine → Type 0
CanUseUp k s = HasWaker k s × ¬ InProgress (λ b. reads_waker k b.call) s.world.trace

abbrev pub HasAll : Call → ℕ → Machine → Type 0
HasAll (Wake k) p s = CanUseUp k s
HasAll (DropWaker k) p s = CanUseUp k s
HasAll (WakeByRef k) p s = HasWaker k s
HasAll (Copy k) p s = HasWaker k s
HasAll Keep p s = (f : ℕ) × IsInPoll (Task f) p s
HasAll WakeSelf p s = (f : ℕ) × IsInPoll (Task f) p s
HasAll (PollHandle f b) p s = HasHandle f s × CanGive b p s
HasAll (Cancel f) p s = HasHandle f s
HasAll (Detach f) p s = HasHandle f s
HasAll (DropHandle f) p s = HasHandle f s
HasAll (PollTick t b) p s = HasTick t s × CanGive b p s
HasAll (DropTick t) p s = HasTick t s
HasAll (PollRun r b) p s = HasRun r s × CanGive b p s
HasAll (DropRun r) p s = HasRun r s
HasAll _ p s = Unit {0}

-- Gone: the executor's drop has begun, or a leak is in progress; and where it is static, nobody owns it
pub data IsGone (s : Machine) (c : Call) : Type 0 where
  by_drop : (uses_executor c ≡ true) ⊎ (is_owners_call c ≡ true) → has is_drop_begun s.world.trace ≡ true → IsGone s c
  by_leak : (uses_executor c ≡ true) ⊎ (is_owners_call c ≡ true) → InProgress (λ b. is_leak b.call) s.world.trace → IsGone s c
  unowned : is_owners_call c ≡ true → s.world.is_static ≡ true → IsGone s c

-- Borrowed: the owner can't have it while a tick or run lives, or another call on it is in progress
pub data IsBorrowed (s : Machine) (c : Call) : Type 0 where
  by_tick : (t : ℕ) → is_owners_call c ≡ true → LivingTick t s → IsBorrowed s c
  by_run : (r : ℕ) → is_owners_call c ≡ true → LivingRun r s → IsBorrowed s c
  by_call : is_owners_call c ≡ true → InProgress (λ b. uses_executor b.call) s.world.trace → IsBorrowed s c

-- the call has begun, and that is told of first
abbrev pub HasBegun : ℕ → Call → Machine → Machine → Type 0
HasBegun p c s new = (more : Trace) × (new.world.trace ≡ s.world.trace ++ CallBegun p c ∷ more)

-- what comes of it that party p begins this call
pub data Begins (s : Machine) (p : ℕ) (c : Call) : Result Machine StepError → Type 0 where
  nobody : ¬ IsParty p s → Begins s p c (Err NoSuch)
  busy : IsParty p s → IsBusy p s → Begins s p c (Err Busy)
  missing : IsParty p s → ¬ IsBusy p s → ¬ HasAll c p s → Begins s p c (Err NoSuch)
  gone : IsParty p s → ¬ IsBusy p s → HasAll c p s → IsGone s c → Begins s p c (Err Gone)
  borrowed : IsParty p s → ¬ IsBusy p s → HasAll c p s → ¬ IsGone s c → IsBorrowed s c → Begins s p c (Err Borrowed)
  begins : IsParty p s → ¬ IsBusy p s → HasAll c p s → ¬ IsGone s c → ¬ IsBorrowed s c → (new : Machine) → HasBegun p c s new →
      Begins s p c (Ok new)

abbrev pub CallsBegin : Machine → Type 0
CallsBegin s = (p : ℕ) (c : Call) → Begins s p c (step s (Begin p c))
