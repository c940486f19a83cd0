-- What a queue with a limit does with a task that comes.
use Rattle.std.specs.Prelude.{ℕ, ◌==◌, nat_lt, length, Bool, true, false, ◌&&◌, not, Option, Some, None}
use Rattle.queue_steps.specs.ClosableQueue.{ClosableQueue, appended, shut, most_accepted}

-- so many are below the limit, if there is one
abbrev pub fits : Option ℕ → ℕ → Bool
fits None len = true
fits (Some limit) len = nat_lt len limit

-- it has accepted as many as it may in its life
abbrev pub is_spent : Option ℕ → Bool
is_spent None = false
is_spent (Some count) = count == most_accepted

module _ {T : Type 0} where
  abbrev pub has_place : ClosableQueue T → Bool
  has_place q = not q.closed && fits q.capacity (length q.items)

  -- one that comes is accepted
  abbrev pub accepts : ClosableQueue T → Bool
  accepts q = has_place q && not (is_spent q.accepted)

  abbrev pub pushed_by : Bool → Bool → T → ClosableQueue T → ClosableQueue T
  pushed_by false spent task q = q
  pushed_by true true task q = shut q
  pushed_by true false task q = appended q task

  -- a task comes last, where there is a place
  abbrev pub pushed : T → ClosableQueue T → ClosableQueue T
  pushed task q = pushed_by (has_place q) (is_spent q.accepted) task q
