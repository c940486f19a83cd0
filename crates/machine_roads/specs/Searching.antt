-- A poll of a run whose own future gave no output: when the take that follows leaves both alike.
use Rattle.std.specs.Prelude.{◌≡◌, ℕ, ◌≤◌, ◌<◌, ◌==◌, nat_lt, not, Bool, true, false, if◌then◌else◌, List, [], ◌∷◌, length}
use Rattle.std.specs.Prelude.{reverse, slice_get, Option}
use Rattle.executor_parts.specs.Marks.{first_of, turn_after}
use Rattle.executor_model.specs.declared.event.Answer.TheVariants as answer
use Rattle.executor_model.specs.declared.op.ListOp.TheVariants as list_op
use Rattle.executor_model.specs.declared.op.Op.{Op}
use Rattle.executor_model.specs.declared.op.Op.TheVariants as op
use Rattle.executor_model.specs.declared.op.RunOp.TheVariants as run_op
use Rattle.executor_model.specs.declared.op.RunPoll.{RunPoll}
use Rattle.executor_model.specs.declared.op.TickOp.TheVariants as tick_op
use Rattle.executor_model.specs.declared.op.UserOp.TheVariants as user_op
use Rattle.executor_model.specs.declared.op.Waker.{Waker}
use Rattle.executor_model.specs.declared.step.Hint.{Hint}
use Rattle.executor_model.specs.declared.step.Step.{Step}
use Rattle.executor_model.specs.declared.step.Step.TheVariants.{Go}
use Rattle.executor_model.specs.declared.step.UserEnd.TheVariants as end
use Rattle.executor_model.specs.ActsOfRuns.{asleep}
use Rattle.executor_model.specs.Steps.{Machine, after, react, stack}
use Rattle.executor_model.specs.World.{Done, World, run_of}
use Rattle.plain_scheduler.specs.State.{ARun, Choice, Due, Plain, PollOwn, Refusal, Run}
use Rattle.plain_scheduler.specs.Lists.{any, or}
use Rattle.plain_scheduler.specs.Moves.{is_due, is_kept}
use Rattle.plain_scheduler.specs.Calls.{does, Pends}
use Rattle.plain_scheduler.specs.Usual.{RobsAsUsual, TakesAsUsual, one_counted, vain_turns}
use Rattle.machine_roads.specs.View.{Output, wakes}
use Rattle.machine_roads.specs.Road.{Follows, futures_in}
use Rattle.machine_roads.specs.Alone.{alone, is_resting, one, HasAll}
use Rattle.machine_roads.specs.Alike.{upon}
use Rattle.machine_roads.specs.Stopped.{Stops, taken_by}
use Rattle.machine_roads.specs.Turning.{TakesTurns}

-- how the poll goes on behind a future that it took: it searches again, or after 200 calls its own waker
abbrev pub goes_on_by : RunPoll → Bool → Op
goes_on_by x last = if last then op.Run (run_op.WakeOwn x) else op.Tick (tick_op.Search (asleep x))

-- it searches on while it has taken fewer than 200 since it let others go first
abbrev pub IsLast : ℕ → Bool → Plain Output Waker → Type 0
IsLast r last q = nat_lt (taken_by r q) 200 ≡ not last

-- it has taken fewer than that, and no run that is over keeps anything
pub record CanTake (q : Plain Output Waker) (r : ℕ) : Type 0 where
  pub going : or (slice_get q.runs r) (λ run. nat_lt run.taken 200) true ≡ true
  pub left : (k : ℕ) → or (slice_get q.runs k) (λ run. run.is_over) true ≡ true → futures_in (is_kept k) q.due ≡ []

-- it reads the list of the runs' own queues next
abbrev pub reads_list : List Op → Bool
reads_list (op.List (list_op.LockRead x) ∷ os) = true
reads_list _ = false

-- the starting word of what a party does alone: that of the hint by which it first does so
abbrev pub start_of : ℕ → List Hint → Done → ℕ
start_of p [] d = 0
start_of p (h ∷ hs) d = if reads_list d.next then h.start else start_of p hs (one p h d)

-- and of the steps of an act
abbrev pub named_by : Step → ℕ
named_by (Go q h) = h.start
named_by _ = 0

abbrev pub start_at : ℕ → Machine → List Step → ℕ
start_at p s [] = 0
start_at p s (t ∷ ts) = if reads_list (reverse (stack s p)) then named_by t else start_at p (after s t) ts

-- behind a search in which a run took one: that run has counted one more, and the turn is this
pub record CountsOne (r turns : ℕ) (w v : World) : Type 0 where
  pub counted : (k : ℕ) → (run_of v k).counted ≡ (if k == r then one_counted (run_of w k).counted else (run_of w k).counted)
  pub listed : v.listed ≡ w.listed
  pub turn : v.urgent_turns ≡ turns

-- it took a turn, unless it kept one itself
abbrev pub turn_behind : ℕ → List Due → World → ℕ
turn_behind r due w = if any (is_kept r) due then w.urgent_turns else turn_after w.urgent_turns

-- its own future gave no output
abbrev pub unready : ℕ → RunPoll → List Op → World → Done
unready p x below w = upon below (react p (op.User (user_op.PollOwn x)) (end.Polled answer.Pending) w)

-- so it chooses as it takes one, in the way that the hints lead from here
pub record TakesSo (p : ℕ) (hints : List Hint) (x : RunPoll) (from : Done) (w : World) (q : Plain Output Waker) (c : Choice) : Type 0 where
  pub usual : TakesAsUsual wakes c (first_of w.urgent_turns) (run_of w x.run).counted (record { run = x.run; waker = x.waker; at = q })
  pub robs : RobsAsUsual wakes c w.listed (start_of p hints from) (record { run = x.run; waker = x.waker; at = q })
  pub behind : CountsOne x.run (turn_behind x.run q.due w) w (alone p hints from).world

-- where some future is due, the run comes to the poll or the drop of the one that it takes: the plain scheduler looks first at the mark
-- that the turn names and tells who lay down last, and it keeps, robs and moves as usual
abbrev pub RunTakesAlike : ℕ → Option Waker → List Op → World → Plain Output Waker → Type 0
RunTakesAlike p here below w q =
    (x : RunPoll) (n : ℕ) → any is_due q.due ≡ true → CanTake q x.run → length q.lying ≤ n → (hints : List Hint)
    → HasAll p hints (unready p x below w) → is_resting (alone p hints (unready p x below w)).next ≡ true
    → (c : Choice) × (last : Bool) × (c.first ≡ first_of w.urgent_turns) × (c.tells ≡ n) × TakesSo p hints x (unready p x below w) w q c
    × Stops (Run x.run x.waker) (goes_on_by x last) below q (alone p hints (unready p x below w))
    (does wakes c Pends (record q { inside = PollOwn x.run x.waker ∷ q.inside }))
    × IsLast x.run last (does wakes c Pends (record q { inside = PollOwn x.run x.waker ∷ q.inside }))

-- where nothing is due it lies down, lies again with another waker, or is refused memory, and takes so many turns
abbrev pub RunLiesAlike : ℕ → Option Waker → List Op → World → Plain Output Waker → Type 0
RunLiesAlike p here below w q =
    (x : RunPoll) (c : Choice) → any is_due q.due ≡ false → length q.lying < c.tells → (hints : List Hint)
    → HasAll p hints (unready p x below w) → is_resting (alone p hints (unready p x below w)).next ≡ true
    → (r : Refusal) × ((alone p hints (unready p x below w)).next ≡ below)
    × TakesTurns (vain_turns r (ARun x.run) q.lying) w (alone p hints (unready p x below w)).world
    × Follows (alone p hints (unready p x below w)).world
    (does wakes (record c { refusal = r }) Pends (record q { inside = PollOwn x.run x.waker ∷ q.inside }))
