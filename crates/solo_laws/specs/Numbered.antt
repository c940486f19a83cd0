-- Who lies sleeps under a number of its own.
use Rattle.std.specs.Prelude.{◌≡◌, ℕ, ◌+◌, ◌≤◌, true, List, [], ◌∷◌, ◌++◌, length, map, find, Option, Some, None}
use Rattle.executor_parts.specs.Sleepers.{Sleepers}
use Rattle.solo.specs.declared.names.SoloWaker.{SoloWaker}
use Rattle.solo.specs.declared.ticks.Ticker.{Ticker}
use Rattle.solo.specs.declared.ticks.Ticker.TheVariants.{Awake, Asleep}
use Rattle.solo.specs.Ticks.{its_room}
use Rattle.plain_scheduler.specs.State.{Who, Lying}
use Rattle.plain_scheduler.specs.Lists.{or}
use Rattle.plain_scheduler.specs.Moves.{lies}
use Rattle.solo_laws.specs.Road.{is_in, apart}

module _ {A : Type 0} where
  abbrev pub entry_if : ℕ → Option A → List (ℕ × A) → List (ℕ × A)
  entry_if number None entries = entries
  entry_if number (Some waker) entries = (number, waker) ∷ entries

  -- those that weren't called, by their numbers
  abbrev pub entries : (Who → ℕ) → List (Lying A) → List (ℕ × A)
  entries number [] = []
  entries number (l ∷ ls) = entry_if (number l.who) l.waker (entries number ls)

  -- and the numbers of all
  abbrev pub numbers : (Who → ℕ) → List (Lying A) → List ℕ
  numbers number ls = map (λ l. number l.who) ls

-- each number is given to one, or was given back, and none is past these many
pub record IsNumbered {X : Type 0} (number : Who → ℕ) (s : Sleepers (SoloWaker X)) (lying : List (Lying (SoloWaker X))) : Type 0 where
  pub wakers : s.wakers ≡ entries number lying
  pub once : apart (numbers number lying ++ s.free) ≡ true
  pub few : (n : ℕ) → is_in n (numbers number lying ++ s.free) ≡ true → n ≤ s.count + length s.free

-- the executor's own of a tick or run: it sleeps under its number, if it lies
abbrev pub ticker_of : {A : Type 0} → (Who → ℕ) → Who → List (Lying A) → Ticker
ticker_of number who ls = or (find (lies who) ls) (λ l. Asleep (record { number = number who })) (Awake its_room)
