-- The executor's drop is one of the plain scheduler. First the table's futures are dropped, in the order of spawning; then the task of
-- each is woken, and the scheduler's waker given up; then those that are queued are closed, the urgent ones first.
use Rattle.std.specs.Prelude.{◌≡◌, ℕ, ◌+◌, ◌*◌, ◌<◌, ◌≤◌, Bool, true, false, ◌&&◌, not, List, [], ◌∷◌, ◌++◌, length, map, Option, Some}
use Rattle.std.specs.Prelude.{None, is_some}
use Rattle.queue_steps.specs.ClosableQueue.{most_accepted}
use Rattle.task_moves.specs.AbstractTask.{AbstractTask, is_idle}
use Rattle.executor_parts.specs.Places.{Entry}
use Rattle.solo.specs.declared.names.Task.{Task}
use Rattle.solo.specs.declared.names.SoloWaker.{SoloWaker}
use Rattle.solo.specs.declared.owed.Lent.{Lent}
use Rattle.solo.specs.declared.owed.Owed.{Owed}
use Rattle.solo.specs.declared.solo.Solo.{Solo}
use Rattle.solo.specs.Turns.{silent}
use Rattle.solo.specs.Solo.{hands}
use Rattle.solo.specs.Closing as closing
use Rattle.plain_scheduler.specs.State.{Future, Event, Drops, Answers, Done, Code, Close, Lose, Taker, Choice, Plain}
use Rattle.plain_scheduler.specs.Moves.{task}
use Rattle.plain_scheduler.specs.Calls.{DropExecutor, Ends, living_from, does}
use Rattle.solo_laws.specs.Alike.{calls, lets_go, WakesAlike, ReleasesAlike, UsesAlike, CopiesAlike, CancelsAlike}
use Rattle.solo_laws.specs.Alike.{DetachesAlike, HandlesAlike, HandleDropsAlike}
use Rattle.solo_laws.specs.Dropping.{ends_one}
use Rattle.solo_laws.specs.Road.{Follows, HasLife, count_of, wakes}
use Rattle.solo_laws.specs.Shown.{rings, rings_of, rings_without}
use Rattle.solo_laws.specs.Tabled.{named, row, row_of}

module _ {T A : Type 0} where
  abbrev pub undropped : Future T A → Future T A
  undropped future = record future { is_dropped = false }

  -- all but who is dropped
  abbrev pub spared : Plain T A → Plain T A
  spared p = record p { futures = map undropped p.futures }

  -- a wake would queue it
  abbrev pub waits : AbstractTask T A → Bool
  waits t = is_idle t.phase && not t.closed

-- of all that a close has taken out those of `gone` are dropped, and those that are `left` are still to be dropped
pub record IsClosing {F T X : Type 0} (its : ℕ → Lent) (all gone left : List ℕ) (s : Solo F T X) (p : Plain T (SoloWaker X))
    : Type 0 where
  -- by tasks both stand as they would if none of them was dropped
  pub whole : Plain T (SoloWaker X)
  pub same : spared p ≡ spared whole
  pub follows : Follows (named its) s whole
  pub living : living_from 0 whole.futures ≡ all
  pub parts : all ≡ gone ++ left
  pub owned : whole.is_static ≡ false
  -- the table is empty, and those that are left have their futures, and the scheduler's wakers
  pub table : s.table.entries ≡ []
  pub going : map row s.going.entries ≡ map (row_of its true (λ f. true)) left
  -- the wakers of those that are gone are to be called
  pub leaving : s.leaving.items ≡ map (named its) gone
  pub leaving_open : s.leaving.closed ≡ false
  pub leaving_limit : s.leaving.capacity ≡ Some whole.limit
  pub leaving_life : count_of s.leaving.accepted + length left ≤ most_accepted

module _ {F T X : Type 0} where
  -- the owner calls who awaited a task, or lets it go
  abbrev pub used : Owed F T X → Solo F T X → Solo F T X
  used owed s = calls owed.awaiter (lets_go owed.old s)

  abbrev pub use_shows : Owed F T X → Solo F T X → List (Event T (SoloWaker X))
  use_shows owed s =
      rings owed.sleeper ++ (rings_without owed.old s ++ rings_of owed.awaiter (lets_go owed.old s))

  -- the owner drains it until there is nothing more, and is handed no future and no output
  pub data Drains : Solo F T X → List (Event T (SoloWaker X)) → Solo F T X → Type 0 where
    nothing_more : (s : Solo F T X) → closing.drain_answer s ≡ None → Drains s [] s
    one_more : (s z : Solo F T X) (owed : Owed F T X) (others : List (Event T (SoloWaker X))) → closing.drain_answer s ≡ Some owed
        → owed.future ≡ None → owed.output ≡ None → Drains (used owed (closing.drained s)) others z
        → Drains s (use_shows owed (closing.drained s) ++ others) z

  -- with both queues open again
  abbrev pub opened : Solo F T X → Solo F T X
  opened s = record s {
    lines = record {
      urgent = record s.lines.urgent { closed = false };
      plain = record s.lines.plain { closed = false };
      turn = s.lines.turn;
    };
  }

-- a close has come to its end: by tasks both stand as they would with open queues and nobody dropped, and none can be queued any more
pub record IsClosed {F T X : Type 0} (its : ℕ → Lent) (s : Solo F T X) (p : Plain T (SoloWaker X)) : Type 0 where
  pub whole : Plain T (SoloWaker X)
  pub same : spared p ≡ spared whole
  pub follows : Follows (named its) (opened s) whole
  pub calm : (f : ℕ) → f < length whole.futures → waits (task f whole) ≡ false
  pub due : whole.due ≡ []

module _ {F T X : Type 0} (its : ℕ → Lent) (s : Solo F T X) (p q : Plain T (SoloWaker X)) where
  -- the next future is handed out, to be dropped
  pub record HandsOut (all gone : List ℕ) (f : ℕ) (left : List ℕ) : Type 0 where
    pub future : F
    pub out : closing.drain_answer s ≡ Some (hands (Some future) None silent)
    pub stands : IsClosing its all (gone ++ f ∷ []) left (closing.drained s) q
    pub seen : q.events ≡ p.events ++ Drops f ∷ []
    pub inside : q.inside ≡ Close left all ∷ p.inside

  -- or all else is done
  pub record Finishes : Type 0 where
    pub last : Solo F T X
    pub shown : List (Event T (SoloWaker X))
    pub drains : Drains s shown last
    pub closed : IsClosed its last q
    pub seen : q.events ≡ p.events ++ (shown ++ Answers Done ∷ [])

  abbrev pub GoesOn : List ℕ → List ℕ → List ℕ → Type 0
  GoesOn all gone [] = Finishes
  GoesOn all gone (f ∷ left) = HandsOut all gone f left

-- every entry has its future: none is polled or dropped just then
abbrev pub AllThere : {F : Type 0} → List (Entry F (Option Task)) → Type 0
AllThere {F} entries = map (λ (e : Entry F (Option Task)). is_some e.future) entries ≡ map (λ (e : Entry F (Option Task)). true) entries

module _ {F T X : Type 0} (its : ℕ → Lent) (s : Solo F T X) (p : Plain T (SoloWaker X)) where
  -- the drop of an executor that isn't static
  abbrev pub ClosesAlike : Type 0
  ClosesAlike =
      (c : Choice) → p.is_static ≡ false → AllThere s.table.entries → length p.lying ≤ c.tells
      → HasLife (6 * length s.table.entries + 2) s.lines
      → GoesOn its (closing.closed s) p (does wakes c DropExecutor p) (living_from 0 p.futures) [] (living_from 0 p.futures)

  -- and the end of the drop of each of its futures
  abbrev pub CloseGoesOn : Type 0
  CloseGoesOn =
      (c : Choice) (all gone left : List ℕ) (rest : List (Code T (SoloWaker X))) → IsClosing its all gone left s p
      → p.inside ≡ Close left all ∷ rest → length p.lying ≤ c.tells → HasLife (6 * length all + 2) s.lines
      → GoesOn its s (record p { inside = rest }) (does wakes c Ends p) all gone left

  -- the end of an output's drop, which a detach has dropped
  abbrev pub LosesIn : (Solo F T X → Plain T (SoloWaker X) → Type 0) → Type 0
  LosesIn Alike =
      (c : Choice) (awaiter : Option (SoloWaker X)) (by : Option (Taker (SoloWaker X))) (rest : List (Code T (SoloWaker X)))
      → ends_one by ≡ true → p.inside ≡ Lose awaiter by ∷ rest → length p.lying ≤ c.tells → HasLife 2 s.lines
      → Alike (calls awaiter s) (does wakes c Ends p)

  -- what is called on tasks
  abbrev pub CallsOnTasks : (Solo F T X → Plain T (SoloWaker X) → Type 0) → Type 0
  CallsOnTasks Alike =
      WakesAlike (named its) Alike s p × ReleasesAlike (named its) Alike s p × UsesAlike (named its) Alike s p
      × CopiesAlike (named its) Alike s p × CancelsAlike (named its) Alike s p × DetachesAlike (named its) Alike s p
      × HandlesAlike (named its) Alike s p × HandleDropsAlike (named its) Alike s p × LosesIn Alike

  -- while one of its futures is dropped, and once all is done
  abbrev pub CallsInClose : List ℕ → List ℕ → List ℕ → Type 0
  CallsInClose all gone left = CallsOnTasks (IsClosing its all gone left)

  abbrev pub CallsAfterClose : Type 0
  CallsAfterClose = CallsOnTasks (IsClosed its)
