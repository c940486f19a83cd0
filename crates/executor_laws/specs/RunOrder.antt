-- In which order a run takes the futures of each mark up that alone takes futures: as they were queued.
use Rattle.std.specs.Prelude.{◌≡◌, ℕ, true, false, All, Option, Some, None, List, [], ◌∷◌, ◌++◌, drop, filter, length}
use Rattle.executor_parts.specs.declared.mark.Mark.{Mark}
use Rattle.executor_parts.specs.declared.mark.Mark.TheVariants.{Plain}
use Rattle.executor_parts.specs.Marks.{same_mark}
use Rattle.executor_model.specs.declared.call.By.{By}
use Rattle.executor_model.specs.declared.call.Call.TheVariants.{PollRun}
use Rattle.executor_model.specs.declared.event.Answer.TheVariants.{Pending}
use Rattle.executor_model.specs.declared.step.Step.{Step}
use Rattle.executor_model.specs.declared.step.Step.TheVariants.{Answer, Begin, Go}
use Rattle.executor_model.specs.declared.step.UserEnd.{UserEnd}
use Rattle.executor_model.specs.declared.step.UserEnd.TheVariants.{Polled}
use Rattle.executor_model.specs.declared.op.TickOrRun.TheVariants.{Run}
use Rattle.executor_model.specs.Emptiness.{IsAtRest}
use Rattle.executor_model.specs.Standing.{drops_sleeper, polls_sleeper}
use Rattle.executor_model.specs.Steps.{Machine, refusal, run, stack, step, stepped, top}
use Rattle.executor_model.specs.Trace.{Trace, has}
use Rattle.executor_model.specs.World.{World, mark_of, own_of, queue_of}
use Rattle.executor_laws.specs.KeptFirst.{BeginsWith, taken_by}
use Rattle.executor_laws.specs.LoneEnds.{is_onward_of}
use Rattle.executor_laws.specs.RunReach.{Keeps}

-- the step takes no future from any queue: each run keeps what it kept, and what stands in the executor's queues stays there
pub record TakesNothing (t : Step) (s : Machine) : Type 0 where
  pub own : (q : ℕ) → own_of (stepped s (step s t)).world q ≡ own_of s.world q
  pub queues : (m : Mark) → BeginsWith (queue_of s.world m).items (queue_of (stepped s (step s t)).world m).items

abbrev pub TakeNothing : List Step → Machine → Type 0
TakeNothing [] s = true ≡ true
TakeNothing (t ∷ ts) s = TakesNothing t s × TakeNothing ts (stepped s (step s t))

-- what is done while a run is polled: a step of the poll itself; or steps of other calls, of whichever party, and also of those
-- that begin inside of the poll
pub data Within : Type 0 where
  by_itself : Step → Within
  meanwhile : List Step → Within

-- party p goes on so with a poll, from s to new: no other call takes a future, and behind its steps the poll is where it was
abbrev pub GoesOnSo : ℕ → List Within → Machine → Machine → Type 0
GoesOnSo p [] s new = s ≡ new
GoesOnSo p (by_itself t ∷ ws) s new =
    (is_onward_of p t ≡ true) × (refusal s t ≡ None) × GoesOnSo p ws (stepped s (step s t)) new
GoesOnSo p (meanwhile ts ∷ ws) s new = TakeNothing ts s × (stack (run ts s) p ≡ stack s p) × GoesOnSo p ws (run ts s) new

-- what user code answers first in it
abbrev pub first_of_poll : List Within → Option UserEnd
first_of_poll [] = None
first_of_poll (by_itself (Begin p c) ∷ ws) = None
first_of_poll (by_itself (Go p h) ∷ ws) = first_of_poll ws
first_of_poll (by_itself (Answer p e) ∷ ws) = Some e
first_of_poll (meanwhile ts ∷ ws) = first_of_poll ws

-- a poll of a run: by a party, with a waker, and how it goes on
pub record Polling : Type 0 where
  pub party : ℕ
  pub by : By
  pub within : List Within

-- a whole poll of run r, by a party that does nothing else, in which the run's own future, which is polled first, isn't ready
pub record IsPolledSo (r : ℕ) (t : Polling) (s new : Machine) : Type 0 where
  pub possible : refusal s (Begin t.party (PollRun r t.by)) ≡ None
  pub idle : stack s t.party ≡ []
  pub goes_on : GoesOnSo t.party t.within (stepped s (step s (Begin t.party (PollRun r t.by)))) new
  pub ended : stack new t.party ≡ []
  pub pending : first_of_poll t.within ≡ Some (Polled Pending)

-- what is done, one after the other: a poll of run r, or a step of another call
pub data Piece : Type 0 where
  polled : Polling → Piece
  between : Step → Piece

-- such pieces lead from s to new, and run r alone takes futures
abbrev pub TakesAlone : ℕ → List Piece → Machine → Machine → Type 0
TakesAlone r [] s new = s ≡ new
TakesAlone r (polled t ∷ ps) s new = (next : Machine) × IsPolledSo r t s next × TakesAlone r ps next new
TakesAlone r (between t ∷ ps) s new = TakesNothing t s × TakesAlone r ps (stepped s (step s t)) new

-- the machine behind all that is done in a poll
abbrev pub behind_all : List Within → Machine → Machine
behind_all [] s = s
behind_all (by_itself t ∷ ws) s = behind_all ws (stepped s (step s t))
behind_all (meanwhile ts ∷ ws) s = behind_all ws (run ts s)

abbrev pub begun_by : ℕ → Polling → Machine → Machine
begun_by r t s = stepped s (step s (Begin t.party (PollRun r t.by)))

-- those that the poll takes up, in order
abbrev pub taken_within : ℕ → List Within → Machine → List ℕ
taken_within p [] s = []
taken_within p (by_itself t ∷ ws) s = taken_by t (top (stack s p)) ++ taken_within p ws (stepped s (step s t))
taken_within p (meanwhile ts ∷ ws) s = taken_within p ws (run ts s)

abbrev pub taken_in_all : ℕ → List Piece → Machine → List ℕ
taken_in_all r [] s = []
taken_in_all r (polled t ∷ ps) s =
    taken_within t.party t.within (begun_by r t s) ++ taken_in_all r ps (behind_all t.within (begun_by r t s))
taken_in_all r (between t ∷ ps) s = taken_in_all r ps (stepped s (step s t))

-- those that a step queues: they stand behind all that stood in the executor's queue of this mark
abbrev pub joins : Mark → Step → Machine → List ℕ
joins m t s = drop (length (queue_of s.world m).items) (queue_of (stepped s (step s t)).world m).items

abbrev pub joined : Mark → List Step → Machine → List ℕ
joined m [] s = []
joined m (t ∷ ts) s = joins m t s ++ joined m ts (stepped s (step s t))

-- those that all of it queues, in order
abbrev pub joined_within : Mark → List Within → Machine → List ℕ
joined_within m [] s = []
joined_within m (by_itself t ∷ ws) s = joins m t s ++ joined_within m ws (stepped s (step s t))
joined_within m (meanwhile ts ∷ ws) s = joined m ts s ++ joined_within m ws (run ts s)

abbrev pub joined_in_all : Mark → ℕ → List Piece → Machine → List ℕ
joined_in_all m r [] s = []
joined_in_all m r (polled t ∷ ps) s =
    joined_within m t.within (begun_by r t s) ++ joined_in_all m r ps (behind_all t.within (begun_by r t s))
joined_in_all m r (between t ∷ ps) s = joins m t s ++ joined_in_all m r ps (stepped s (step s t))

-- those of this mark
abbrev pub of_mark : Mark → World → List ℕ → List ℕ
of_mark m w fs = filter (λ f. same_mark m (mark_of w f)) fs

-- the futures of a mark that wait for run r: those that it keeps, and behind them those in the executor's queue of the mark. The
-- marks are those of world w, since a future's mark doesn't change
abbrev pub line : Mark → ℕ → World → Machine → List ℕ
line m r w s = of_mark m w (own_of s.world r) ++ (queue_of s.world m).items

-- run q was polled, and isn't dropped
pub record IsBegun (q : ℕ) (trace : Trace) : Type 0 where
  pub polled : has (polls_sleeper (Run q)) trace ≡ true
  pub there : has (drops_sleeper (Run q)) trace ≡ false

abbrev pub IsOnlyBegun : ℕ → Trace → Type 0
IsOnlyBegun r trace = (q : ℕ) → IsBegun q trace → q ≡ r

-- no other run keeps a future
abbrev pub KeepsAlone : ℕ → Trace → Type 0
KeepsAlone r trace = (q f : ℕ) → Keeps q f trace → q ≡ r

-- what the polls take up of a mark, and behind it what waits of it at the end, is what waited of it at the start, and behind it
-- what was queued of it meanwhile. Where all futures are plain, that is so of all that they take up. So it is of a run that alone
-- keeps futures at the start, as the only one does that was begun
pub record TakesInOrder (s : Machine) : Type 0 where
  pub only : IsAtRest s → (r : ℕ) → IsOnlyBegun r s.world.trace → KeepsAlone r s.world.trace
  pub by_mark : IsAtRest s → (r : ℕ) → KeepsAlone r s.world.trace → (m : Mark) (pieces : List Piece) (new : Machine) →
      TakesAlone r pieces s new →
      of_mark m new.world (taken_in_all r pieces s) ++ line m r new.world new ≡
      line m r new.world s ++ joined_in_all m r pieces s
  pub plain : IsAtRest s → (r : ℕ) → KeepsAlone r s.world.trace → (pieces : List Piece) (new : Machine) →
      TakesAlone r pieces s new → All (λ m. m ≡ Plain) new.world.marks →
      taken_in_all r pieces s ++ (own_of new.world r ++ (queue_of new.world Plain).items) ≡
      (own_of s.world r ++ (queue_of s.world Plain).items) ++ joined_in_all Plain r pieces s
