-- None of the futures that aren't dropped is lost: each is due, or its task waits for a wake, or a user's code has it in hand.
use Rattle.std.specs.Prelude.{◌≡◌, ℕ, ◌||◌, Bool, true, false, List}
use Rattle.task_moves.specs.AbstractTask.{is_idle}
use Rattle.plain_scheduler.specs.State.{Code, Plain}
use Rattle.plain_scheduler.specs.Moves.{task}
use Rattle.solo_laws.specs.Road.{is_in, lents, drops, stands}
use Rattle.solo_laws.specs.Tabled.{is_dropped}

module _ {T A : Type 0} where
  -- to be polled, or to be dropped
  abbrev pub is_in_hand : ℕ → List (Code T A) → Bool
  is_in_hand f inside = is_in f (lents inside) || is_in f (drops inside)

  abbrev pub is_there : ℕ → Plain T A → Bool
  is_there f p = stands f p.due || (is_idle (task f p).phase || is_in_hand f p.inside)

  abbrev pub NoneIsLost : Plain T A → Type 0
  NoneIsLost p = (f : ℕ) → is_dropped f p ≡ false → is_there f p ≡ true
