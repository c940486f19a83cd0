-- The table of an executor of one owner keeps the futures that the plain scheduler hasn't dropped, and its runs' own queues what
-- these keep; so both stand alike.
use Rattle.std.specs.Prelude.{◌≡◌, ℕ, ◌<◌, ◌≤◌, Bool, true, false, not, List, [], length, map, filter, slice_get}
use Rattle.std.specs.Prelude.{Option, Some, None, is_some}
use Rattle.queue_steps.specs.ClosableQueue.{most_accepted}
use Rattle.executor_parts.specs.Places.{Entry, place_of}
use Rattle.executor_parts.specs.declared.places.EntryPlace.{EntryPlace}
use Rattle.task_moves.specs.declared.local_task.answers.FuturePlace.{FuturePlace}
use Rattle.task_moves.specs.declared.local_task.answers.FuturePlace.TheVariants.{Home}
use Rattle.solo.specs.declared.names.Task.{Task}
use Rattle.solo.specs.declared.names.SoloWaker.{SoloWaker}
use Rattle.solo.specs.declared.owed.Lent.{Lent}
use Rattle.solo.specs.declared.cells.Cells.{Cells}
use Rattle.solo.specs.declared.own_queues.Own.{Own}
use Rattle.solo.specs.declared.solo.Solo.{Solo}
use Rattle.solo.specs.Cells.{asked}
use Rattle.solo.specs.OwnQueues as own
use Rattle.solo.specs.Solo.{counts}
use Rattle.solo.specs.Table.{counted_waker}
use Rattle.plain_scheduler.specs.State.{Due, Plain}
use Rattle.plain_scheduler.specs.Lists.{or}
use Rattle.plain_scheduler.specs.Moves.{is_kept}
use Rattle.plain_scheduler.specs.Calls.{living_from}
use Rattle.solo_laws.specs.Road.{Follows, count_of, due_task, is_in, apart, lents, drops}

module _ {T A : Type 0} where
  -- whether a future is dropped, or isn't there
  abbrev pub is_dropped : ℕ → Plain T A → Bool
  is_dropped f p = or (slice_get p.futures f) (λ future. future.is_dropped) true

  -- whether a run is there, and its own future isn't over
  abbrev pub goes_on : ℕ → Plain T A → Bool
  goes_on r p = or (slice_get p.runs r) (λ run. not run.is_over) false

-- where a future is at home, if it is
abbrev pub home_by : FuturePlace EntryPlace → Option EntryPlace
home_by (Home place) = Some place
home_by _ = None

abbrev pub home_of : {T X : Type 0} → Task → Cells T X → Option EntryPlace
home_of t s = asked (λ v. home_by v.future) None t s

-- what is seen of an entry: where it is, the waker that it counts, and whether its future is there
abbrev pub Row : Type 0
Row = EntryPlace × Option Task × Bool

abbrev pub row : {F : Type 0} → Entry F (Option Task) → Row
row e = (place_of e, e.waker, is_some e.future)

-- by the task and the place that each future has in the executor
module _ (its : ℕ → Lent) where
  abbrev pub named : ℕ → Task
  named f = (its f).task

  abbrev pub at_home : {T X : Type 0} → Cells T X → ℕ → Bool
  at_home s f = is_some (home_of (named f) s)

  abbrev pub row_of : Bool → (ℕ → Bool) → ℕ → Row
  row_of held home f = ((its f).place, counted_waker held (its f).task, home f)

  abbrev pub key_of : ℕ → ℕ
  key_of f = (its f).place.key

  -- the own queue of a run: what it keeps, in order
  abbrev pub own_of : Bool → List Due → Option (List Task)
  own_of true kept = Some (map (due_task named) kept)
  own_of false kept = None

-- with these tasks still to be woken by a leak
pub record IsTableBut {F T X : Type 0} (waits : List Task) (its : ℕ → Lent) (s : Solo F T X) (p : Plain T (SoloWaker X)) : Type 0 where
  -- in the order of spawning, each with a waker where the executor isn't static, and with its future where that is at home
  pub rows : map row s.table.entries ≡ map (row_of its (not p.is_static) (at_home its s.cells)) (living_from 0 p.futures)
  pub homes : (f : ℕ) (place : EntryPlace) → f < length p.futures → home_of (named its f) s.cells ≡ Some place → place ≡ (its f).place
  pub keys_apart : apart (map (key_of its) (living_from 0 p.futures)) ≡ true
  pub limit : s.table.limit ≡ p.limit
  pub accepted : s.accepted ≡ length p.futures
  pub kind : counts s.kind ≡ not p.is_static
  -- what users' codes have in hand isn't dropped
  pub lent : (f : ℕ) → is_in f (lents p.inside) ≡ true → is_dropped f p ≡ false
  pub dropping : (f : ℕ) → is_in f (drops p.inside) ≡ true → is_dropped f p ≡ false
  -- each run that goes on has an own queue, and no other keeps any
  pub made : s.runs.made ≡ length p.runs
  pub queues : (r : ℕ) → own.queue_of r s.runs.queues ≡ own_of its (goes_on r p) (filter (is_kept r) p.due)
  pub kept : (r : ℕ) → goes_on r p ≡ false → filter (is_kept r) p.due ≡ []
  -- of one queue each
  pub numbers_apart : apart (map (λ (q : Own). q.number) s.runs.queues) ≡ true
  -- nothing is left of a close
  pub going : s.going.entries ≡ []
  -- and there is room for those that a leak takes out
  pub leaving : s.leaving.items ≡ waits
  pub leaving_open : s.leaving.closed ≡ false
  pub leaving_limit : s.leaving.capacity ≡ Some p.limit
  -- no more futures came than a queue accepts in its life; and none was put there before a leak, which makes an executor static
  pub few : length p.futures ≤ most_accepted
  pub unleaked : p.is_static ≡ false → count_of s.leaving.accepted ≡ 0

abbrev pub IsTable : {F T X : Type 0} → (ℕ → Lent) → Solo F T X → Plain T (SoloWaker X) → Type 0
IsTable its s p = IsTableBut [] its s p

abbrev pub Stands : {F T X : Type 0} → (ℕ → Lent) → Solo F T X → Plain T (SoloWaker X) → Type 0
Stands its s p = Follows (named its) s p × IsTable its s p
