-- What a call is told of where a run searches in it, and where none does.
use Rattle.std.specs.Prelude.{ℕ, ◌==◌, ◌&&◌, Bool, true, false, Option}
use Rattle.plain_scheduler.specs.State.{Choice, Plain}
use Rattle.plain_scheduler.specs.Lists.{or}
use Rattle.plain_scheduler.specs.Calls.{Call, PollTick, TryTick}
use Rattle.plain_scheduler.specs.Searches.{finds, searches}

-- a try and a tick's poll look for a future where no run does
abbrev pub looks_first : {T A : Type 0} → Call T A → Bool
looks_first TryTick = true
looks_first (PollTick t w) = true
looks_first _ = false

-- what is chosen as one takes a future is as in d, all else as in c
abbrev pub taking_as : Choice → Choice → Choice
taking_as d c = record c { first = d.first; keeps = d.keeps; robs = d.robs; moves = d.moves }

-- run r searches in the call, and finds a future
abbrev pub finds_in : {T A : Type 0} → (A → Option ℕ) → Choice → Call T A → Plain T A → ℕ → Bool
finds_in wakes c call p r = or (searches wakes c call p) (λ x. (r == x.run) && finds x) false
