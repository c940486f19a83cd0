-- Only a poll of a tick, and a run that searches in vain, is refused memory once it lies: other calls, and the ends of other code, have
-- nothing to say of that.
use Rattle.std.proofs.Common.{◌≡◌, ◌<◌, ℕ, Bool, true, false, List, length, Option, Some, subst}
use Rattle.executor_model.specs.declared.call.Call.{Call}
use Rattle.executor_model.specs.declared.op.Waker.{Waker}
use Rattle.executor_model.specs.declared.step.Step.{Step}
use Rattle.executor_model.specs.declared.step.Step.TheVariants.{Answer}
use Rattle.executor_model.specs.Steps.{is_on_executor}
use Rattle.executor_model.specs.Steps.{Machine}
use Rattle.executor_model.specs.World.{World}
use Rattle.plain_scheduler.specs.State.{AtOnce, Choice, Granted, Later, Lying, Plain, Refusal}
use Rattle.plain_scheduler.specs.Calls as plain
use Rattle.plain_scheduler.specs.Searches.{Search, finds, searches}
use Rattle.machine_roads.specs.View.{Output, wakes}
use Rattle.machine_roads.specs.Refused.{IsLaterAnew, OneMoreLies, in_vain}
use Rattle.machine_roads.specs.Road.{uncalled}
use Rattle.machine_roads.specs.Within as within
use Rattle.machine_roads.specs.Within.{IsCallIn, IsMade}
use Rattle.machine_roads.proofs.Silent.{none_told, vain_at}

abbrev pub is_answer : Step → Bool
is_answer (Answer p u) = true
is_answer t = false

module _ (q z : Plain Output Waker) where
  -- where the call comes to a search that finds nothing, one more lies behind that than there
  abbrev pub LiesThere : Choice → plain.Call Output Waker → Type 0
  LiesThere c x =
      (y : Search Output Waker) → searches wakes c x q ≡ Some y → finds y ≡ false → c.refusal ≡ Later → OneMoreLies y.at z

  lies_more : (c : Choice) (x : plain.Call Output Waker) → LiesThere c x → in_vain wakes c x q ≡ true → c.refusal ≡ Later
      → OneMoreLies q z
  lies_more c x there vain later =
      let y = vain_at (searches wakes c x q) vain in
      subst (λ (ls : List (Lying Waker)). length (uncalled ls) < length (uncalled z.lying))
      (none_told wakes c x q y.at y.is y.none) (there y.at y.is y.none later)

  -- so it is where code ends
  pub ends_anew : (s : Machine) (p : ℕ) (t : Step) (c : Choice) (x : plain.Call Output Waker) → is_answer t ≡ true → IsMade s p t x
      → LiesThere c x → IsLaterAnew c x q z
  ends_anew s p t c x ends (within.begins d y is) there = absurd cc
  ends_anew s p t c x ends within.pends there = lies_more c plain.Pends there
  ends_anew s p t c x ends within.gives there = tt
  ends_anew s p t c x ends within.ends there = lies_more c plain.Ends there

  apart : (r : Refusal) → r ≡ Granted → r ≡ Later → ⊥
  apart Granted is later = cc
  apart AtOnce is later = cc
  apart Later is later = cc

  pub granted_anew : (c : Choice) (x : plain.Call Output Waker) → c.refusal ≡ Granted → IsLaterAnew c x q z
  granted_anew c (plain.PollTick t w) is = λ later. absurd (apart c.refusal is later)
  granted_anew c plain.Pends is = λ vain later. absurd (apart c.refusal is later)
  granted_anew c plain.Ends is = λ vain later. absurd (apart c.refusal is later)
  granted_anew c x is = tt

  -- where the executor isn't asked
  pub off_anew : (here : Option Waker) (w : World) (c : Call) (d : Choice) (x : plain.Call Output Waker) → IsCallIn here w c x
      → is_on_executor c ≡ false → IsLaterAnew d x q z
  off_anew here w c d x (within.poll_tick t b) off = absurd cc
  off_anew here w c d x is off = tt
