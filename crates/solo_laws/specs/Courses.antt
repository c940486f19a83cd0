-- Lists of whole calls, of those that both are known to make alike: what the owner of an executor does for each call of the plain
-- scheduler, and what is shown by it.
use Rattle.std.specs.Prelude.{◌≡◌, ℕ, suc, ◌+◌, ◌*◌, ◌<◌, ◌≤◌, true, false, if◌then◌else◌, List, [], ◌∷◌, ◌++◌, length}
use Rattle.std.specs.Prelude.{Option, Some, None, Ok, Err}
use Rattle.queue_steps.specs.ClosableQueue.{most_accepted}
use Rattle.executor_parts.specs.declared.mark.Mark.{Mark}
use Rattle.solo.specs.declared.names.Task.{Task}
use Rattle.solo.specs.declared.names.SoloWaker.{SoloWaker}
use Rattle.solo.specs.declared.names.SoloWaker.TheVariants.{Task as OfTask}
use Rattle.solo.specs.declared.owed.Lent.{Lent}
use Rattle.solo.specs.declared.owed.Spawned.{Spawned}
use Rattle.solo.specs.declared.owed.SpawnError.{SpawnError}
use Rattle.solo.specs.declared.runs.Runner.{Runner}
use Rattle.solo.specs.declared.solo.Solo.{Solo}
use Rattle.solo.specs.Lines.{mark_of_turn}
use Rattle.solo.specs.Solo as solo
use Rattle.solo.specs.Closing as closing
use Rattle.solo.specs.OwnQueues.{count_of as count_of_own}
use Rattle.solo.specs.Ticks as ticks
use Rattle.solo.specs.Runs as runs
use Rattle.plain_scheduler.specs.State.{Answer, ARun, DropOwn, Finished, PollOwn}
use Rattle.plain_scheduler.specs.State.{Event, ATick, Answers, Pending, Choice, Code, Poll, Drop, Lose, Closed, Gave, Taker, Plain}
use Rattle.plain_scheduler.specs.State.{Made, NoMemory, Yes, No, Done, Drops, Granted, AtOnce, Later, Loses, Run}
use Rattle.plain_scheduler.specs.Moves.{task}
use Rattle.plain_scheduler.specs.Calls.{Call, Spawn, TryTick, IsEmpty, Wake, Use, Copy, Release, PollHandle, Cancel, Detach, DropHandle}
use Rattle.plain_scheduler.specs.Calls.{DropRun, Leak, Pends, EndsWith, Ends, NewTick, PollRun, PollTick, DropTick, NewRun, is_granted}
use Rattle.plain_scheduler.specs.Calls.{does}
use Rattle.solo_laws.specs.Alike.{calls, cancelled, handle_polled, takes_one}
use Rattle.solo_laws.specs.Dropping.{after_drop, ends_one}
use Rattle.solo_laws.specs.Leaking.{leaked}
use Rattle.solo_laws.specs.Busy.{busy_in}
use Rattle.solo_laws.specs.Road.{HasLife, IsNamed, is_in, wakes as wakes_of}
use Rattle.solo_laws.specs.Shown.{rings, found_as, cancel_shows, detach_shows, poll_shows, end_shows, drop_shows, call_shows, leak_shows}
use Rattle.solo_laws.specs.Numbered.{ticker_of}
use Rattle.solo_laws.specs.Owner.{HasRunner, Owner, has_tick, renumbered, with_tick, without_tick}
use Rattle.solo_laws.specs.Ticking.{CanCopy, number_after, rest_answer, rested, tick_shows, looks_again, slept_answer, slept_once}
use Rattle.solo_laws.specs.Spawning.{said, is_memory}
use Rattle.solo_laws.specs.Running.{run_left, run_shows}
use Rattle.solo_laws.specs.RunGoing.{IsEnding, RunsOn, Searches, Stage, code_at, in_try}
use Rattle.solo_laws.specs.Tabled.{goes_on, named}

-- an executor becomes another by what its owner does for a call, and shows this; that of a future that isn't known isn't made, nor
-- where a queue has accepted as many tasks as it may
pub data Makes {F T X : Type 0} (its : ℕ → Lent) (c : Choice) (s : Solo F T X) (p : Plain T (SoloWaker X))
    : Call T (SoloWaker X) → List (Event T (SoloWaker X)) → Solo F T X → Type 0 where
  spawns : (mark : Mark) (future : F) (spawned : Spawned X) (z : Solo F T X) (so : solo.Spawns mark future s (Ok spawned) z)
      → its (length p.futures) ≡ record { task = spawned.task; place = so.1.0.place } → c.refusal ≡ Granted → HasLife 3 s.lines
      → length p.futures < most_accepted → Makes its c s p (Spawn mark) (rings spawned.told.sleeper ++ Answers Made ∷ []) z
  refuses : (mark : Mark) (future : F) (refused : SpawnError F) (z : Solo F T X) → solo.Spawns mark future s (Err refused) z
      → (is_memory refused ≡ true → is_granted c.refusal ≡ false) → Makes its c s p (Spawn mark) (Answers (said refused) ∷ []) z
  takes : c.first ≡ mark_of_turn s.lines.turn → HasLife 1 s.lines
      → Makes its c s p TryTick (rings (solo.take_answer s).sleeper ++ found_as (solo.take_answer s).found) (solo.taken s)
  looks : Makes its c s p IsEmpty (Answers (if solo.is_empty s then Yes else No) ∷ []) s
  wakes : (f : ℕ) → f < length p.futures → HasLife 2 s.lines
      → Makes its c s p (Wake f) (rings (solo.wake_answer (named its f) s).sleeper ++ Answers Done ∷ []) (solo.woken (named its f) s)
  uses : (f : ℕ) → f < length p.futures → HasLife 2 s.lines
      → Makes its c s p (Use f) (rings (solo.wake_and_release_answer (named its f) s).sleeper ++ Answers Done ∷ [])
      (solo.woken_and_released (named its f) s)
  releases : (f : ℕ) → f < length p.futures → HasLife 2 s.lines
      → Makes its c s p (Release f) (rings (solo.release_answer (named its f) s).sleeper ++ Answers Done ∷ [])
      (solo.released (named its f) s)
  copies : (f : ℕ) → f < length p.futures → c.refusal ≡ (if solo.may_hold (named its f) s then Granted else AtOnce)
      → Makes its c s p (Copy f) (Answers (if solo.may_hold (named its f) s then Made else NoMemory) ∷ []) (solo.held (named its f) s)
  polls : (f : ℕ) (w : SoloWaker X) → f < length p.futures → (task f p).handle ≡ true
      → ((t : Task) → w ≡ OfTask t → IsNamed (named its) (length p.futures) t × (is_granted c.refusal ≡ solo.may_hold t s))
      → HasLife 2 s.lines
      → Makes its c s p (PollHandle f w) (poll_shows (is_granted c.refusal) (named its f) w s)
      (handle_polled (is_granted c.refusal) (named its f) w s)
  cancels : (f : ℕ) → f < length p.futures → HasLife 5 s.lines
      → Makes its c s p (Cancel f) (cancel_shows (named its f) s (Answers Done ∷ [])) (cancelled (named its f) s)
  detaches : (f : ℕ) → f < length p.futures → HasLife 2 s.lines
      → Makes its c s p (Detach f) (detach_shows (named its f) s) (solo.detached (named its f) s)
  drops_handle : (f : ℕ) → f < length p.futures → HasLife 8 s.lines
      → Makes its c s p (DropHandle f) (cancel_shows (named its f) s (detach_shows (named its f) (cancelled (named its f) s)))
      (solo.detached (named its f) (cancelled (named its f) s))
  leaks : p.is_static ≡ false → HasLife (6 * length s.table.entries) s.lines
      → Makes its c s p Leak (leak_shows (length s.table.entries) (closing.leaked s) ++ Answers Done ∷ [])
      (leaked (length s.table.entries) s)
  -- the ends of users' codes
  pends : (f : ℕ) (by : Taker (SoloWaker X)) (rest : List (Code T (SoloWaker X))) (future : F) → takes_one by ≡ true
      → p.inside ≡ Poll f by ∷ rest → HasLife 2 s.lines
      → Makes its c s p Pends (end_shows by (solo.settle_pending_answer (its f) future s)) (solo.settled_pending (its f) future s)
  gives : (f : ℕ) (by : Taker (SoloWaker X)) (rest : List (Code T (SoloWaker X))) (v : T) → p.inside ≡ Poll f by ∷ rest
      → Makes its c s p (EndsWith v) (Drops f ∷ []) s
  ends_given : (f : ℕ) (v : T) (by : Taker (SoloWaker X)) (rest : List (Code T (SoloWaker X))) → takes_one by ≡ true
      → p.inside ≡ Drop f (Gave v) by ∷ rest → HasLife 8 s.lines
      → Makes its c s p Ends (drop_shows by (solo.settle_ready_answer (its f) v s) (solo.settled_ready (its f) v s))
      (after_drop (solo.settle_ready_answer (its f) v s) (solo.settled_ready (its f) v s))
  ends_closed : (f : ℕ) (by : Taker (SoloWaker X)) (rest : List (Code T (SoloWaker X))) → takes_one by ≡ true
      → p.inside ≡ Drop f Closed by ∷ rest → HasLife 8 s.lines
      → Makes its c s p Ends (drop_shows by (solo.finish_answer (its f) s) (solo.finished (its f) s))
      (after_drop (solo.finish_answer (its f) s) (solo.finished (its f) s))
  loses : (awaiter : Option (SoloWaker X)) (by : Option (Taker (SoloWaker X))) (rest : List (Code T (SoloWaker X))) → ends_one by ≡ true
      → p.inside ≡ Lose awaiter by ∷ rest → HasLife 2 s.lines
      → Makes its c s p Ends (call_shows awaiter by s) (calls awaiter s)

-- and so with ticks, and with runs: a tick that is polled or goes was made and hasn't gone, each that lies has a number, and a run that
-- searches is as its owner has it
pub data Acts {F T X : Type 0} (its : ℕ → Lent) (owner : Owner) (c : Choice) (s : Solo F T X) (p : Plain T (SoloWaker X))
    : Call T (SoloWaker X) → List (Event T (SoloWaker X)) → Owner → Solo F T X → Type 0 where
  makes : (call : Call T (SoloWaker X)) (shown : List (Event T (SoloWaker X))) (z : Solo F T X) → Makes its c s p call shown z
      → Acts its owner c s p call shown owner z
  -- under a name of its own
  makes_tick : (t : ℕ) → has_tick t owner ≡ false → c.refusal ≡ Granted
      → Acts its owner c s p NewTick (Answers Made ∷ []) (with_tick t owner) (ticks.roomy s)
  tick_takes : (t : ℕ) (w : SoloWaker X) (task : Task) → has_tick t owner ≡ true → solo.sought s ≡ Some task
      → c.first ≡ mark_of_turn s.lines.turn → HasLife 5 s.lines
      → Acts its owner c s p (PollTick t w) (tick_shows
      (ticks.found_answer (ticker_of owner.number (ATick t) p.lying) None task (solo.popped s)))
      owner (ticks.found (ticker_of owner.number (ATick t) p.lying) task (solo.popped s))
  -- no copy of its waker is refused
  tick_rests : (t : ℕ) (w : SoloWaker X) → has_tick t owner ≡ true → solo.sought s ≡ None → c.first ≡ mark_of_turn s.lines.turn
      → c.refusal ≡ Granted
      → ((u : Task) → w ≡ OfTask u
      → IsNamed (named its) (length p.futures) u × CanCopy (ticker_of owner.number (ATick t) p.lying) w u s)
      → suc (length p.lying) ≤ c.tells → HasLife 2 s.lines
      → Acts its owner c s p (PollTick t w)
      (rings (rest_answer (ticker_of owner.number (ATick t) p.lying) w s).sleeper ++ Answers Pending ∷ [])
      (renumbered (number_after (ATick t) owner.number s p) owner) (rested (ticker_of owner.number (ATick t) p.lying) w s)
  makes_run : c.refusal ≡ Granted → length p.runs < most_accepted
      → Acts its owner c s p NewRun (Answers Made ∷ []) owner (runs.made s)
  makes_no_run : is_granted c.refusal ≡ false → Acts its owner c s p NewRun (Answers NoMemory ∷ []) owner s
  -- as long as a run's own future is polled; no call is on a run that is polled or dropped
  run_polled : (runner : Runner) (w : SoloWaker X) → goes_on runner.number p ≡ true → is_in runner.number (busy_in p.inside) ≡ false
      → Acts its owner c s p (PollRun runner.number w) [] owner (runs.begun runner s)
  over_polled : (r : ℕ) (w : SoloWaker X) → goes_on r p ≡ false
      → Acts its owner c s p (PollRun r w) (Answers Finished ∷ []) owner s
  own_ready : (r : ℕ) (w : SoloWaker X) (v : T) (rest : List (Code T (SoloWaker X))) → p.inside ≡ PollOwn r w ∷ rest
      → Acts its owner c s p (EndsWith v) [] owner s
  -- its own future is pending, and it looks for one to take, or lies down
  run_looks : (runner : Runner) (w : SoloWaker X) (rest : List (Code T (SoloWaker X))) (shown : List (Event T (SoloWaker X)))
      (now : Owner) (z : Solo F T X) → HasRunner runner owner → p.inside ≡ PollOwn runner.number w ∷ rest
      → Searches its owner c runner w s (record p { inside = rest }) shown now z → Acts its owner c s p Pends shown now z
  -- the poll or drop of one that it took ends as in a try, and then the run goes on; or one is dropped first, or its output
  run_goes_on : (stage : Stage T (SoloWaker X)) (runner : Runner) (w : SoloWaker X) (rest : List (Code T (SoloWaker X)))
      (call : Call T (SoloWaker X)) (shown others : List (Event T (SoloWaker X))) (now : Owner) (y z : Solo F T X)
      → HasRunner runner owner → p.inside ≡ code_at stage (Run runner.number w) ∷ rest → IsEnding stage call
      → Makes its c s (in_try stage rest p) call (shown ++ Answers Yes ∷ []) y
      → RunsOn its owner c runner w y (record (does wakes_of c call (in_try stage rest p)) { events = p.events ++ shown }) others now z
      → Acts its owner c s p call (shown ++ others) now z
  run_drops : (stage : Stage T (SoloWaker X)) (r : ℕ) (w : SoloWaker X) (rest : List (Code T (SoloWaker X))) (call : Call T (SoloWaker X))
      (shown : List (Event T (SoloWaker X))) (f : ℕ) (z : Solo F T X) → p.inside ≡ code_at stage (Run r w) ∷ rest
      → IsEnding stage call → Makes its c s (in_try stage rest p) call (shown ++ Drops f ∷ []) z
      → Acts its owner c s p call (shown ++ Drops f ∷ []) owner z
  run_loses : (stage : Stage T (SoloWaker X)) (r : ℕ) (w : SoloWaker X) (rest : List (Code T (SoloWaker X))) (call : Call T (SoloWaker X))
      (shown : List (Event T (SoloWaker X))) (v : T) (z : Solo F T X) → p.inside ≡ code_at stage (Run r w) ∷ rest
      → IsEnding stage call → Makes its c s (in_try stage rest p) call (shown ++ Loses v ∷ []) z
      → Acts its owner c s p call (shown ++ Loses v ∷ []) owner z
  run_dropped : (r : ℕ) → goes_on r p ≡ true → is_in r (busy_in p.inside) ≡ false → Acts its owner c s p (DropRun r) [] owner s
  over_dropped : (r : ℕ) → goes_on r p ≡ false → Acts its owner c s p (DropRun r) (Answers Done ∷ []) owner s
  run_leaves : (runner : Runner) (answer : Answer T) (rest : List (Code T (SoloWaker X)))
      → p.inside ≡ DropOwn runner.number answer ∷ rest
      → HasLife (3 * count_of_own runner.number s.runs + 5) s.lines
      → Acts its owner c s p Ends (run_shows (ticker_of owner.number (ARun runner.number) p.lying) runner s ++ Answers answer ∷ []) owner
      (run_left (ticker_of owner.number (ARun runner.number) p.lying) runner s)
  -- of one that is refused
  makes_no_tick : is_granted c.refusal ≡ false → Acts its owner c s p NewTick (Answers NoMemory ∷ []) owner s
  tick_refused : (t : ℕ) (w : SoloWaker X) → has_tick t owner ≡ true → solo.sought s ≡ None → c.first ≡ mark_of_turn s.lines.turn
      → c.refusal ≡ AtOnce
      → Acts its owner c s p (PollTick t w) (Answers NoMemory ∷ []) owner (solo.popped s)
  tick_lies_refused : (t : ℕ) (w : SoloWaker X) → has_tick t owner ≡ true → solo.sought s ≡ None → c.first ≡ mark_of_turn s.lines.turn
      → c.refusal ≡ Later
      → ((u : Task) → w ≡ OfTask u → IsNamed (named its) (length p.futures) u × (solo.may_hold u s ≡ true))
      → looks_again (slept_answer (ticker_of owner.number (ATick t) p.lying) w s).look ≡ true → suc (length p.lying) ≤ c.tells
      → HasLife 2 s.lines
      → Acts its owner c s p (PollTick t w) (Answers NoMemory ∷ []) (renumbered (number_after (ATick t) owner.number s p) owner)
      (solo.popped (slept_once (ticker_of owner.number (ATick t) p.lying) w s))
  tick_leaves : (t : ℕ) → has_tick t owner ≡ true → HasLife 5 s.lines
      → Acts its owner c s p (DropTick t)
      (rings (ticks.leave_answer (ticker_of owner.number (ATick t) p.lying) s).told.sleeper ++ Answers Done ∷ []) (without_tick t owner)
      (ticks.left (ticker_of owner.number (ATick t) p.lying) s)

-- call by call; whoever lay down last is told
pub data Leads {F T X : Type 0} (its : ℕ → Lent)
    : List (Choice × Call T (SoloWaker X)) → Owner → Solo F T X → Plain T (SoloWaker X) → List (Event T (SoloWaker X)) → Owner → Solo F T X
    → Type 0 where
  stays : (owner : Owner) (s : Solo F T X) (p : Plain T (SoloWaker X)) → Leads its [] owner s p [] owner s
  leads : (c : Choice) (call : Call T (SoloWaker X)) (rest : List (Choice × Call T (SoloWaker X))) (before now after : Owner)
      (s y z : Solo F T X) (p : Plain T (SoloWaker X)) (shown others : List (Event T (SoloWaker X))) → length p.lying ≤ c.tells
      → Acts its before c s p call shown now y → Leads its rest now y (does wakes_of c call p) others after z
      → Leads its ((c, call) ∷ rest) before s p (shown ++ others) after z
