-- All that holds of each machine to which steps of a new one lead, whatever its parties do: a line a law. Of a future f,
-- of a run r, of a party p.
use Rattle.std.specs.Prelude.{◌≡◌, ℕ, List}
use Rattle.executor_parts.specs.declared.mark.Mark.{Mark}
use Rattle.executor_model.specs.declared.kind.Kind.{Kind}
use Rattle.executor_model.specs.declared.step.Hint.{Hint}
use Rattle.executor_model.specs.declared.step.Step.{Step}
use Rattle.executor_model.specs.AskedPolls.{IsWokenBetweenPolls}
use Rattle.executor_model.specs.AwaiterKept.{AwaiterIsKept}
use Rattle.executor_model.specs.CallsMean.{CallsDoWhatTheySay}
use Rattle.executor_model.specs.ClosingOrder.{DropsInOrder}
use Rattle.executor_model.specs.ClosingWakes.{WakesInOrder}
use Rattle.executor_model.specs.LeakWakes.{LeakWakes}
use Rattle.executor_model.specs.CopiesMean.{CopiesAreCounted}
use Rattle.executor_model.specs.DroppedAtRest.{IsDroppedAtRest}
use Rattle.executor_model.specs.DroppedOnce.{DropComesOnce, IsDroppedByTheEnd}
use Rattle.executor_model.specs.EarlyDrop.{EarlyDropHasCause, LastWakerIsLast}
use Rattle.executor_model.specs.Emptiness.{IsEmptinessExact, IsQuietEmptinessExact}
use Rattle.executor_model.specs.Entries.{FindsPlace, OwnAgrees, QueueAgrees, TableAgrees}
use Rattle.executor_model.specs.FinishedRuns.{FinishedAtOnce}
use Rattle.executor_model.specs.GivenWakers.{PollsKeepTheirWakers}
use Rattle.executor_model.specs.HandingOn.{HandsOn, IsOnItsWay}
use Rattle.executor_model.specs.InHands.{IsInHands}
use Rattle.executor_model.specs.InPlace.{IsInPlace}
use Rattle.executor_model.specs.LastTold.{ClosingSaysWhy}
use Rattle.executor_model.specs.LawfulPolls.{HasLawfulPolls}
use Rattle.executor_model.specs.Limit.{IsLimitExact}
use Rattle.executor_model.specs.Memory.{NeedsNoMemory}
use Rattle.executor_model.specs.OutputKept.{OutputIsKept}
use Rattle.executor_model.specs.OutputOnce.{OutputGoesOnce}
use Rattle.executor_model.specs.OutputSettled.{OutputIsSettled}
use Rattle.executor_model.specs.OwnQueues.{HasOwnRoom, IsEmptyMeanwhile, IsUsedOnce}
use Rattle.executor_model.specs.OwnQueues.{IsWithinBound, ListAgrees, LockAgrees, OwnQueueHasRunner}
use Rattle.executor_model.specs.OutsideWakers.{OutsideWakersAreCalled}
use Rattle.executor_model.specs.OwnFutures.{ActsOnItsFuture}
use Rattle.executor_model.specs.Refusals.{IsWantToldOf, RefusedChangesNothing}
use Rattle.executor_model.specs.Executions.{HasOneRunnable, IsCounted}
use Rattle.executor_model.specs.SleepersAgree.{SleepersAgree}
use Rattle.executor_model.specs.SleepersTold.{SleepersAreTold}
use Rattle.executor_model.specs.SpawnsMean.{SpawnsAreLimited}
use Rattle.executor_model.specs.SpawnWants.{SpawnsWantAsTold}
use Rattle.executor_model.specs.Steps.{Machine, run, start, step, stepped}
use Rattle.executor_model.specs.TableKeeps.{EntryOutlastsDrop, IsTableBound}
use Rattle.executor_model.specs.WakersMean.{WakersWakeTheirOwn}
use Rattle.executor_model.specs.WalksRound.{WalksGoRound}
use Rattle.executor_core.specs.Headline.{Headline}
use Rattle.call_laws.specs.CallLaws.{CallLaws}
use Rattle.executor_laws.specs.Called.{KeeperIsCalled, SomeStandingIsCalled}
use Rattle.executor_laws.specs.AtOnce.{NoComesAtOnce}
use Rattle.executor_laws.specs.CallsFit.{ActsFit, AnswersFit}
use Rattle.executor_laws.specs.CallsFollow.{ActsFollow, AnswersFollow, CallsBegin}
use Rattle.executor_laws.specs.Continued.{IsContinued}
use Rattle.executor_laws.specs.EndedRuns.{EndedIsFinished}
use Rattle.executor_laws.specs.GoingOn.{GoesOn, HolderGoesOn}
use Rattle.executor_laws.specs.HandleAnswers.{CancelledMeansOver}
use Rattle.executor_laws.specs.KeptFirst.{TakesKeptFirst}
use Rattle.executor_laws.specs.RunOrder.{TakesInOrder}
use Rattle.executor_laws.specs.LoneEnds.{LoneCallsEnd}
use Rattle.executor_laws.specs.Looks.{AreQueuedByMark, IsMarkedAsSpawned, OneOfEightIsPlain, TakesByItsTurn}
use Rattle.executor_laws.specs.Makings.{MadeIsMade}
use Rattle.executor_laws.specs.NoAnswers.{NoMeansEmpty}
use Rattle.executor_laws.specs.Numbered.{RequestsAreNumbered}
use Rattle.executor_laws.specs.HandlePolls.{DroppedIsSettled, HandlesLookFirst}
use Rattle.executor_laws.specs.PendingPolls.{RunsLookFirst, TicksLookFirst}
use Rattle.executor_laws.specs.Queueings.{CountsQueueings}
use Rattle.executor_laws.specs.Remaining.{EachListEnds, EachStepLowers}
use Rattle.executor_laws.specs.AtRest.{EmptinessIsExact, TicksAreExact}
use Rattle.executor_laws.specs.LoneAnswers.{IsLoneEmptinessExact, IsLoneTickExact}
use Rattle.executor_laws.specs.Places.{StandsWithKeeper}
use Rattle.executor_laws.specs.Reach.{IsInReach, IsReachedInOrder}
use Rattle.executor_laws.specs.RunAnswers.{IsReadyAtItsEnd}
use Rattle.executor_laws.specs.RunEnds.{EndsByItsOwn, EndsOnlyByItsOwn}
use Rattle.executor_laws.specs.RunReach.{IsKeptReached, IsReachedByRuns, LeavesCommon}
use Rattle.executor_laws.specs.RunFew.{PollsFew}
use Rattle.executor_laws.specs.RunPolls.{KeepersCanBePolled, RunsCanBePolled}
use Rattle.executor_laws.specs.RunSearch.{FindsDue}
use Rattle.executor_laws.specs.RunTakes.{TakesUpFew}
use Rattle.executor_laws.specs.TakesTold.{TakesAreTold}
use Rattle.executor_laws.specs.RunTurns.{IsCommonReached}
use Rattle.executor_laws.specs.Ticks.{IsTickExact}

pub record AllLaws (s : Machine) : Type 0 where
  -- what a user relies on
  pub headline : Headline s
  -- of a task

  -- its count is its living wakers, and one for a Runnable, an unfinished run or a closing call
  pub counted : (f : ℕ) → IsCounted s f
  -- it has at most one Runnable, unfinished run or closing call
  pub one_runnable : (f : ℕ) → HasOneRunnable s f
  -- polls and answers take turns, a poll first, and no poll begins after the output or the drop
  pub polls : (f : ℕ) → HasLawfulPolls f s.world.trace
  -- a wake stands between two polls
  pub asked : (f : ℕ) → IsWokenBetweenPolls f s.world.trace
  -- an output is given to one poll of the handle or dropped, once at most
  pub outputs : (f : ℕ) → OutputGoesOnce f s.world.trace
  -- an output that is there is given to the next poll of the handle that is made alone
  pub outputs_kept : (f : ℕ) → OutputIsKept s f
  -- and any other of a future that was ready has gone, where no call is in progress
  pub outputs_settled : (f : ℕ) → OutputIsSettled s f
  -- a future is dropped once at most
  pub drops : (f : ℕ) → DropComesOnce f s.world.trace
  -- and early only for a cause: a cancel, the executor's drop, or, where that is static or was leaked, that nobody was left
  -- who could wake it
  pub causes : (limit : ℕ) (kind : Kind) (parties : ℕ) (steps : List Step) → s ≡ run steps (start limit kind parties) →
      (f : ℕ) → EarlyDropHasCause kind f s.world.trace
  -- nobody is left who could wake it only where it is detached and the executor is static or a leak of it had begun, or
  -- where its drop had begun
  pub last_wakers : (limit : ℕ) (kind : Kind) (parties : ℕ) (steps : List Step) → s ≡ run steps (start limit kind parties) →
      (f : ℕ) → LastWakerIsLast kind f s.world.trace
  -- and each accepted one once, where the drop of the executor has ended
  pub by_the_end : (f : ℕ) → IsDroppedByTheEnd f s.world.trace
  -- so it is where the executor was dropped and no call is in progress
  pub at_rest : (f : ℕ) → IsDroppedAtRest f s.world.trace
  -- who waits on the handle of a dropped future was called
  pub awaiters : (f : ℕ) → AwaiterIsKept f s.world.trace
  -- a wake that marks a task hands on one Runnable, and no other wake hands on any
  pub handed : (f p : ℕ) (h : Hint) → HandsOn s.world f p h
  -- a marked task has one Runnable, run or closing call, and an idle one has none
  pub on_their_way : (f : ℕ) → IsOnItsWay s f
  -- of sleepers, ticks and runs

  -- who sleeps, which wakers wait, the flag and the room agree
  pub sleepers : SleepersAgree s
  -- where something is queued and somebody sleeps, one is told, or a party will tell or search
  pub told : SleepersAreTold s
  -- where a future is due and a tick or run stands, one that stands is called
  pub standing : (f : ℕ) → SomeStandingIsCalled f s.world.trace
  -- and so is a run that keeps a due future
  pub keepers : (f : ℕ) → KeeperIsCalled f s.world.trace
  -- a run is in one call at most
  pub used_once : (r : ℕ) → IsUsedOnce s r
  -- the list of queues has the own queue of each run that is registered, once, and no other
  pub listed : (r : ℕ) → ListAgrees s r
  -- who has the lock of that list has one thing still to do under it, or to give it back
  pub locked : LockAgrees s
  -- a run's own queue has a free place for each Runnable that a steal may still bring
  pub own_room : (r : ℕ) → HasOwnRoom s r
  -- a run that has found its own queue empty has it empty until it searches again or its poll ends
  pub own_empty : (r : ℕ) → IsEmptyMeanwhile s r
  -- what stands there belongs to a run in its poll or its drop, or to one whose last poll called its own waker
  pub own_runner : (r : ℕ) → OwnQueueHasRunner s r
  -- and is never more than 512
  pub own_bound : (r : ℕ) → IsWithinBound s r
  -- a walk comes to the own queue of each other run in the list
  pub round : WalksGoRound s
  -- of the table, the queue, the limit and memory

  -- the table has those that are undropped, or whose drop has still to take the entry out, once each
  pub table : (f : ℕ) → TableAgrees s f
  -- no more than the limit, and each until the drop and the section behind it have ended
  pub table_bound : IsTableBound s
  pub entries : (f : ℕ) → EntryOutlastsDrop s f
  -- an accepted future is in its place there, or is polled or on its way to its drop or behind that, and not both
  pub in_place : (f : ℕ) → IsInPlace s f
  -- a Runnable in the queue is the only one there of an accepted future, undropped or dropped by the executor's drop
  pub queue : (f : ℕ) → QueueAgrees s f
  -- and so is one in a run's own queue
  pub own : (f : ℕ) → OwnAgrees s f
  -- who is about to append finds a place
  pub places : (f : ℕ) → FindsPlace s f
  -- a spawn is refused for the limit exactly where it is reached
  pub limit : IsLimitExact s
  -- who asks is answered that the executor is empty exactly where it is
  pub emptiness : IsEmptinessExact s
  pub quiet_emptiness : IsQuietEmptinessExact s
  -- wakes, cancels, detaches and drops take no memory
  pub no_memory : (p : ℕ) → NeedsNoMemory s.world p
  -- a refused call changes nothing
  pub refusals : (p : ℕ) → RefusedChangesNothing s.world p
  -- want of memory is answered only where the hint says so, or where a task has too many references
  pub want : (p : ℕ) → IsWantToldOf s.world p
  -- and to a command only where one of its own requests was refused, or was for one reference too many; requests are numbered,
  -- and up to the one that alone is refused all is as where none is
  pub numbered : RequestsAreNumbered s
  -- of whole calls, and of what is reached

  -- each call that has ended was answered in its kind, and did itself what its name says
  pub calls : (p : ℕ) → CallsDoWhatTheySay p s.world.trace
  -- an answer that the executor is full is given where it is, and no more futures are undropped than its limit
  pub spawns : SpawnsAreLimited s
  -- want of memory is answered to a spawn only by a step that is told so, and only where the executor isn't full
  pub spawn_wants : SpawnsWantAsTold s
  -- a kept waker stays its future's, and a wake by it wakes that
  pub wakers : WakersWakeTheirOwn s
  -- a wake, of itself too, wakes its own future, unless that is over, and a copy is kept as a waker of its own
  pub own_futures : ActsOnItsFuture s
  -- a copy that is made adds one kept waker, who uses a waker up takes that out, and nothing else changes which are kept
  pub copies : CopiesAreCounted s
  -- an outside waker that is told of as called is called
  pub outside : OutsideWakersAreCalled s
  -- of a poll no other waker is kept than the one that it was given, and no other is called for it
  pub given : PollsKeepTheirWakers s
  -- a step that closes an open task says why: nobody is left who could wake its future, or it was cancelled
  pub why : ClosingSaysWhy s
  -- an open one has its handle, or a waker of its future lives, or a Runnable, an unfinished run or a closing call is there
  pub in_hands : (f : ℕ) → IsInHands s f
  -- a call is answered that a run is finished only as it begins, where it polls a run that had ended
  pub finished : FinishedAtOnce s
  -- the executor's drop drops the futures in the order of acceptance, and it and a leak wake them so, but those whose task
  -- is over
  pub order : DropsInOrder s
  pub wakes_order : WakesInOrder s
  -- once a leak has ended, the trace tells that it called the waker of each future that was there as it began and isn't dropped
  pub leaks : (f : ℕ) → LeakWakes s f
  -- a poll of a handle is answered that no output will come only where that is so
  pub cancelled : (p : ℕ) → CancelledMeansOver p s.world.trace
  -- why steps are refused, and what drops, leaks and used up wakers leave
  pub call_laws : CallLaws s
  -- whatever the world is, calls begin as `call_steps` says, and what they do and see leads to what it says
  pub begins_follow : CallsBegin
  pub acts_follow : ActsFollow
  pub answers_follow : AnswersFollow
  pub acts_fit : ActsFit
  pub answers_fit : AnswersFit
  -- a tick or run is answered that it was made only where its party's own steps have made it since its call began
  pub made : MadeIsMade s
  -- each step that goes on lowers a number
  pub lowered : EachStepLowers s
  -- so a list of these is no longer than that
  pub ended : EachListEnds s
  -- who has something to do can go on, unless others have the lock
  pub goes : GoesOn s
  -- and whoever has the lock can
  pub holder : HolderGoesOn s
  -- a lone call ends
  pub lone : LoneCallsEnd s
  -- a tick that is tried finds something exactly where a future is common
  pub ticks : IsTickExact s
  -- each common future is in reach of lone ticks
  pub in_reach : IsInReach s
  -- in the order of the queue
  pub in_order : IsReachedInOrder s
  -- a poll of a run is answered that its own future is ready only where the run has ended
  pub run_answers : (r : ℕ) → IsReadyAtItsEnd s r
  -- and a run ends, or is answered so, only where its own future was ready, or where it is dropped
  pub run_ends : (r : ℕ) → EndsByItsOwn s r
  -- from the beginning on too, whatever calls use it
  pub run_ends_only : (limit : ℕ) (kind : Kind) (parties : ℕ) (steps : List Step) → s ≡ run steps (start limit kind parties) →
      (r : ℕ) → EndsOnlyByItsOwn limit kind parties steps r
  -- a poll of a run that has ended is answered so
  pub ended_runs : EndedIsFinished s
  -- a due future stands with its keeper, and else in the executor's queue
  pub places_of_due : StandsWithKeeper s
  -- a lone poll of a run takes what the run keeps, and else what is common
  pub by_runs : IsReachedByRuns s
  -- and else one that another run keeps: it finds a due future wherever one stands
  pub finds_due : FindsDue s
  -- and all that it keeps
  pub kept_reached : IsKeptReached s
  -- before anything else
  pub kept_first : TakesKeptFirst s
  -- a run that alone takes futures takes those of each mark as they were queued
  pub in_queueing_order : TakesInOrder s
  -- a list of such polls takes each common future
  pub common_reached : IsCommonReached s
  -- a run that keeps a future can be polled so
  pub keepers_polled : KeepersCanBePolled s
  -- and so can each that lives and hasn't ended
  pub runs_polled : RunsCanBePolled s
  -- a lone poll of a run polls 200 futures at most
  pub polls_few : PollsFew s
  -- and any poll of a run takes 200 up at most
  pub takes_few : TakesUpFew s
  -- what is taken up is polled, and told of, or dropped
  pub takes_told : TakesAreTold s
  -- what a run kept is common once it was dropped alone
  pub left : LeavesCommon s
  -- a lone call is answered as it is
  pub lone_ticks : IsLoneTickExact s
  pub lone_emptiness : IsLoneEmptinessExact s
  -- however steps of a new machine led here, no more Runnables were queued than those steps, and the queue is one that
  -- counts them
  pub queueings : (m : Mark) (limit : ℕ) (kind : Kind) (parties : ℕ) (steps : List Step) →
      s ≡ run steps (start limit kind parties) → CountsQueueings m limit kind parties steps
  -- of eight turns in a row exactly one looks at the plain queue first
  pub turns : OneOfEightIsPlain s
  -- a future has the mark of its spawn
  pub marked : IsMarkedAsSpawned s
  -- each of the executor's queues has futures of its mark alone
  pub by_marks : AreQueuedByMark s
  -- a lone try of a tick takes the first future of the queue that its turn names
  pub by_turn : TakesByItsTurn s
  -- what has happened stays
  pub continued : (t : Step) → IsContinued s.world.trace (stepped s (step s t)).world.trace
  -- a call that begins at rest is answered at once, as it is
  pub ticks_at_rest : (p : ℕ) → TicksAreExact p s.world.trace
  pub emptiness_at_rest : (p : ℕ) → EmptinessIsExact p s.world.trace
  -- and nobody is answered no but at once
  pub at_once : (p : ℕ) → NoComesAtOnce p s.world.trace
  -- nor, where a tick was tried, but by a step that finds the queue empty
  pub no_means : NoMeansEmpty s
  -- and a poll of a tick or run is answered that nothing is ready only where it looked and found none
  pub ticks_look : TicksLookFirst s
  pub runs_look : RunsLookFirst s
  -- and a poll of a handle that there is no output yet only where something can still come
  pub handles_look : HandlesLookFirst s
  pub settled_at_rest : DroppedIsSettled s
