-- In which order a run takes futures from an executor of one owner, read off its queues and what it shows.
use Rattle.std.specs.Prelude.{◌≡◌, ℕ, ◌<◌, ◌==◌, true, false, if◌then◌else◌, List, [], ◌∷◌, ◌++◌, length, map, filter, drop}
use Rattle.std.specs.Prelude.{None, is_some}
use Rattle.executor_parts.specs.declared.mark.Mark.{Mark}
use Rattle.executor_parts.specs.declared.mark.Mark.TheVariants.{Plain as PlainMark}
use Rattle.executor_parts.specs.Marks.{same_mark}
use Rattle.solo.specs.declared.names.Task.{Task}
use Rattle.solo.specs.declared.names.SoloWaker.{SoloWaker}
use Rattle.solo.specs.declared.owed.Lent.{Lent}
use Rattle.solo.specs.declared.solo.Solo.{Solo}
use Rattle.solo.specs.Cells.{asked}
use Rattle.solo.specs.Lines.{line_of}
use Rattle.solo.specs.OwnQueues.{first_of, queue_of}
use Rattle.plain_scheduler.specs.State.{Choice, Event, Plain, Polls}
use Rattle.plain_scheduler.specs.Lists.{or}
use Rattle.plain_scheduler.specs.Calls.{Call, does}
use Rattle.plain_laws.specs.Order.{last_begun, takes_alone, was_polled}
use Rattle.solo_laws.specs.Counting.{counts_of}
use Rattle.solo_laws.specs.Courses.{Leads, leads, stays}
use Rattle.solo_laws.specs.Owner.{Owner}
use Rattle.solo_laws.specs.Road.{wakes}
use Rattle.solo_laws.specs.Tabled.{named}

-- the futures whose polls are shown
abbrev pub polls_in : {T A : Type 0} → List (Event T A) → List ℕ
polls_in [] = []
polls_in (Polls f ∷ es) = f ∷ polls_in es
polls_in (_ ∷ es) = polls_in es

module _ {F T X : Type 0} where
  -- the mark of a task
  abbrev pub mark_in : Solo F T X → Task → Mark
  mark_in s t = asked (λ v. v.metadata) PlainMark t s.cells

  -- the own queue of a run, which is empty once the run is over
  abbrev pub own_tasks : ℕ → Solo F T X → List Task
  own_tasks r s = or (queue_of r s.runs.queues) (λ tasks. tasks) []

  -- the tasks of a mark that wait for run r, in order: those in its own queue, and behind them the executor's queue
  abbrev pub waits : Mark → ℕ → Solo F T X → List Task
  waits m r s = filter (λ t. same_mark m (mark_in s t)) (own_tasks r s) ++ (line_of m s.lines).items

  -- and all that wait, where none is urgent
  abbrev pub all_wait : ℕ → Solo F T X → List Task
  all_wait r s = own_tasks r s ++ (line_of PlainMark s.lines).items

  -- run r was made, and nothing stands in the own queue of another; in these calls none takes a future but run r, which goes in none of
  -- them
  pub record IsAloneIn (r : ℕ) (cs : List (Choice × Call T (SoloWaker X))) (s : Solo F T X) (p : Plain T (SoloWaker X)) : Type 0 where
    pub is_made : r < s.runs.made
    pub others : (k : ℕ) → (r == k) ≡ false → first_of k s.runs ≡ None
    pub takes_alone : takes_alone wakes r cs p ≡ true

  -- of the runs that were polled in a list of calls, only r has its own queue still: it isn't over
  abbrev pub IsOnlyBegunIn : ℕ → List (Choice × Call T (SoloWaker X)) → Solo F T X → Type 0
  IsOnlyBegunIn r cs s = (k : ℕ) → was_polled k cs ≡ true → is_some (queue_of k s.runs.queues) ≡ true → k ≡ r

-- of what run r takes in a call, and of what waits for it, these are looked at
module _ {T X : Type 0} (its : ℕ → Lent) (r : ℕ) (of : Plain T (SoloWaker X) → List ℕ → List ℕ) where
  -- the task that the run was handed with a call, if it has counted another since: the one whose poll or drop was shown last
  abbrev pub handed_with : Owner → Owner → List (Event T (SoloWaker X)) → Plain T (SoloWaker X) → List Task
  handed_with before now seen q = map (named its) (of q (if counts_of before r == counts_of now r then [] else last_begun seen))

  module _ {F : Type 0} where
    -- what it was handed in a list of calls, in order, by what was shown before it and in it
    abbrev pub handed : {cs : List (Choice × Call T (SoloWaker X))} {before after : Owner} {s z : Solo F T X} {p : Plain T (SoloWaker X)}
        {shown : List (Event T (SoloWaker X))} → List (Event T (SoloWaker X)) → Leads its cs before s p shown after z → List Task
    handed seen (stays owner s p) = []
    handed seen (leads c call rest before now after s y z p shown others many acts how) =
        handed_with before now (seen ++ shown) (does wakes c call p) ++ handed (seen ++ shown) how

    -- what came in it: it stands behind as many as waited before the call
    abbrev pub come : (Solo F T X → List Task) → {cs : List (Choice × Call T (SoloWaker X))} {before after : Owner} {s z : Solo F T X}
        {p : Plain T (SoloWaker X)} {shown : List (Event T (SoloWaker X))} → List (Event T (SoloWaker X))
        → Leads its cs before s p shown after z → List Task
    come wait seen (stays owner s p) = []
    come wait seen (leads c call rest before now after s y z p shown others many acts how) =
        drop (length (wait s)) (handed_with before now (seen ++ shown) (does wakes c call p) ++ wait y) ++ come wait (seen ++ shown) how

    -- what it was handed, and behind it what waits, is what waited before, and behind it what came since
    abbrev pub HandsInOrder : (Solo F T X → List Task) → {cs : List (Choice × Call T (SoloWaker X))} {before after : Owner}
        {s z : Solo F T X} {p : Plain T (SoloWaker X)} {shown : List (Event T (SoloWaker X))} → List (Event T (SoloWaker X))
        → Leads its cs before s p shown after z → Type 0
    HandsInOrder wait {cs} {before} {after} {s} {z} seen on = handed seen on ++ wait z ≡ wait s ++ come wait seen on
