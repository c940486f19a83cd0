-- In which calls a run searches for a future, and how the plain scheduler then stands.
use Rattle.std.specs.Prelude.{ℕ, nat_lt, Bool, true, if◌then◌else◌, List, [], ◌∷◌, slice_get, Option, Some, None}
use Rattle.task_moves.specs.AbstractTask as abstract
use Rattle.task_moves.specs.AbstractTask.{AbstractTask, Left}
use Rattle.plain_scheduler.specs.State.{Taker, Run, End, Code, Poll, Drop, Lose, PollOwn, Choice, Plain}
use Rattle.plain_scheduler.specs.Lists.{any, on, or}
use Rattle.plain_scheduler.specs.Moves.{changed, is_due, put, task}
use Rattle.plain_scheduler.specs.Moves as moves
use Rattle.plain_scheduler.specs.Takes as takes
use Rattle.plain_scheduler.specs.Calls.{Call, Ends, Pends}

-- a run searches, in its poll by this waker
pub record Search (T A : Type 0) : Type 0 where
  pub run : ℕ
  pub waker : A
  pub at : Plain T A

module _ {T A : Type 0} (wakes : A → Option ℕ) (c : Choice) where
  abbrev tell : Plain T A → Plain T A
  tell p = moves.tell wakes c p

  -- behind the poll of a future, unless that is then dropped
  abbrev pub behind_pending : abstract.PendingEnd → ℕ → Plain T A → Option (Plain T A)
  behind_pending abstract.PendingEnd.Drops f p = None
  behind_pending abstract.PendingEnd.Forgets f p = None
  behind_pending _ f p = Some (moves.becomes wakes tell f (abstract.end_pending (task f p)).task p)

  -- behind the drop of an output
  abbrev pub behind_loss : Option A → Plain T A → Plain T A
  behind_loss awaiter p = on awaiter (moves.called wakes tell) p

  -- behind the drop of a future, unless its output is then dropped
  abbrev pub behind_out : Left T A → Plain T A → Option (Plain T A)
  behind_out left p = or left.dropped (λ v. None) (Some (behind_loss left.called (on left.let_go (moves.let_go wakes tell) p)))

  abbrev pub behind_drop : ℕ → End T → Plain T A → Option (Plain T A)
  behind_drop f end p =
      let q = takes.given_up wakes c f (changed (λ future. record future { is_dropped = true }) f p) in
      let left = takes.left_by wakes c end (task f q) in
      behind_out left (put f left.task q)

  -- it is a run that took the future, and it hasn't taken 200
  abbrev pub searches_of : Taker A → Plain T A → Option (Search T A)
  searches_of (Run r w) p =
      if nat_lt (or (slice_get p.runs r) (λ run. run.taken) 0) 200 then Some (record { run = r; waker = w; at = p }) else None
  searches_of taker p = None

  abbrev pub searches_behind : Taker A → Option (Plain T A) → Option (Search T A)
  searches_behind taker behind = or behind (searches_of taker) None

  -- a run searches where its own future is pending, and behind each future that it took
  abbrev pub searches_in : Call T A → Code T A → Plain T A → Option (Search T A)
  searches_in Pends (PollOwn r w) p = Some (record { run = r; waker = w; at = p })
  searches_in Pends (Poll f by) p = searches_behind by (behind_pending (abstract.pending_end (task f p)) f p)
  searches_in Ends (Drop f end by) p = searches_behind by (behind_drop f end p)
  searches_in Ends (Lose awaiter (Some by)) p = searches_of by (behind_loss awaiter p)
  searches_in call code p = None

  abbrev pub searches_inside : Call T A → List (Code T A) → Plain T A → Option (Search T A)
  searches_inside call [] p = None
  searches_inside call (code ∷ rest) p = searches_in call code (record p { inside = rest })

  abbrev pub searches : Call T A → Plain T A → Option (Search T A)
  searches call p = searches_inside call p.inside p

-- it finds one where any is due, whoever keeps it
abbrev pub finds : {T A : Type 0} → Search T A → Bool
finds x = any is_due x.at.due
