-- How the words of a ring are made. n is the number of places, m the mark above their indexes, and a lap is 2 * m.
use Rattle.std.specs.Prelude.{ℕ, ◌+◌, ◌-◌, ◌*◌, ◌/◌, ◌%◌, ◌<◌, ◌≤◌, Bool, nat_lt, ◌==◌, if◌then◌else◌}
use Rattle.queue_steps.specs.ClosableQueue.{most_accepted}

-- the mark exceeds each index by the least power of two that does
pub record IsShape (n m : ℕ) : Type 0 where
  pub some : 0 < n
  pub above : n < m
  pub near : m ≤ 2 * n
  pub few : m < 2305843009213693952

-- the tail or head of the count p: a lap for each time round, and the index of the place
unfoldable pub word_at : ℕ → ℕ → ℕ → ℕ
word_at n m p = p / n * (2 * m) + p % n

-- the count of a tail, marked or not, or of a head
unfoldable pub count_at : ℕ → ℕ → ℕ → ℕ
count_at n m w = w / (2 * m) * n + w % m

-- the tail or head of the next place, or of the next lap
unfoldable pub next_at : ℕ → ℕ → ℕ → ℕ
next_at n m w = if nat_lt (w % m + 1) n then w + 1 else w - w % m + 2 * m

unfoldable pub is_marked : ℕ → ℕ → Bool
is_marked m w = w / m % 2 == 1

-- the tail of the next place after a tail without mark, with the mark of the tail that was found
abbrev pub advanced_at : ℕ → ℕ → ℕ → ℕ → ℕ
advanced_at n m tail found = if is_marked m found then next_at n m tail + m else next_at n m tail

-- it names a place, and a ring that accepts no more items than it may comes to it
pub record IsPlaceWord (n m w : ℕ) : Type 0 where
  pub index : w % m < n
  pub count : count_at n m w < most_accepted
