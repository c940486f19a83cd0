-- How a run begins.
use Rattle.std.specs.Prelude.{◌≡◌, false, IsSome}
use Rattle.async_executor.specs.declared.runner.Runner.{Runner}
use Rattle.async_executor.specs.declared.ticker.Ticker.{Ticker}
use Rattle.async_executor.specs.Counted.{Counted}
use Rattle.async_executor.specs.Polls.{has_left}
use Rattle.async_executor.specs.Sleeping.{is_asleep}

-- its own queue has room in the executor's list, and isn't there yet
abbrev pub IsUnlisted : Runner → Type 0
IsUnlisted runner = (runner.is_listed ≡ false) × IsSome runner.room

-- one that can fall asleep, and doesn't sleep yet
abbrev pub IsUp : Ticker → Type 0
IsUp ticker = (has_left ticker ≡ false) × (is_asleep ticker ≡ false)

-- it is awake, its own queue isn't in the list, and nothing is counted
abbrev pub IsNew : Runner → Ticker → Counted → Type 0
IsNew runner ticker counts = IsUnlisted runner × IsUp ticker × (counts ≡ record { counted = 0; taken = 0 })
