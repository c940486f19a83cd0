-- When memory is refused to a tick or a run once it lies.
use Rattle.std.specs.Prelude.{◌≡◌, ◌<◌, ℕ, Bool, true, false, not, length, Option}
use Rattle.executor_model.specs.declared.op.Waker.{Waker}
use Rattle.plain_scheduler.specs.State.{Choice, Later, Plain}
use Rattle.plain_scheduler.specs.Lists.{or}
use Rattle.plain_scheduler.specs.Calls as plain
use Rattle.plain_scheduler.specs.Searches.{finds, searches}
use Rattle.machine_roads.specs.View.{Output, wakes}
use Rattle.machine_roads.specs.Road.{uncalled}

-- there is one more who lies and wasn't called
abbrev pub OneMoreLies : Plain Output Waker → Plain Output Waker → Type 0
OneMoreLies q r = length (uncalled q.lying) < length (uncalled r.lying)

-- a run searches in the call, and finds nothing
abbrev pub in_vain : {T A : Type 0} → (A → Option ℕ) → Choice → plain.Call T A → Plain T A → Bool
in_vain wakes c call p = or (searches wakes c call p) (λ x. not (finds x)) false

-- a tick that is polled, or a run that so searches in vain, is refused memory once it lies only where it lay not, or was called: then one
-- more lies behind that
abbrev pub IsLaterAnew : Choice → plain.Call Output Waker → Plain Output Waker → Plain Output Waker → Type 0
IsLaterAnew c (plain.PollTick t w) q r = c.refusal ≡ Later → OneMoreLies q r
IsLaterAnew c plain.Pends q r = in_vain wakes c plain.Pends q ≡ true → c.refusal ≡ Later → OneMoreLies q r
IsLaterAnew c plain.Ends q r = in_vain wakes c plain.Ends q ≡ true → c.refusal ≡ Later → OneMoreLies q r
IsLaterAnew c call q r = Unit {0}
