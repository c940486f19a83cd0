-- What the plain scheduler sees of a call is what an executor of one owner hands out and answers, in the order in which its owner
-- goes on with that: a waker from outside is called, a future polled or dropped, an output dropped.
use Rattle.std.specs.Prelude.{◌≡◌, ℕ, zero, suc, ◌*◌, ◌<◌, ◌≤◌, Bool, true, false, if◌then◌else◌, List, [], ◌∷◌, ◌++◌, length, Option}
use Rattle.std.specs.Prelude.{Some, None, is_some}
use Rattle.std.specs.Prelude.{Ok}
use Rattle.queue_steps.specs.ClosableQueue.{most_accepted}
use Rattle.executor_parts.specs.declared.mark.Mark.{Mark}
use Rattle.task_moves.specs.declared.local_task.answers.Polled.{Polled}
use Rattle.task_moves.specs.declared.local_task.answers.Polled.TheVariants.{Output as OutputPoll, Closed as ClosedPoll}
use Rattle.task_moves.specs.declared.local_task.answers.Polled.TheVariants.{Pending as PendingPoll}
use Rattle.solo.specs.declared.names.Task.{Task}
use Rattle.solo.specs.declared.names.SoloWaker.{SoloWaker}
use Rattle.solo.specs.declared.names.SoloWaker.TheVariants.{Task as OfTask, Outside}
use Rattle.solo.specs.declared.owed.Lent.{Lent}
use Rattle.solo.specs.declared.owed.Owed.{Owed}
use Rattle.solo.specs.declared.owed.Found.{Found}
use Rattle.solo.specs.declared.owed.Found.TheVariants.{Nothing, Poll as FoundPoll, Drop as FoundDrop, Gone}
use Rattle.solo.specs.declared.owed.Spawned.{Spawned}
use Rattle.solo.specs.declared.solo.Solo.{Solo}
use Rattle.solo.specs.Cells.{choose}
use Rattle.solo.specs.Lines.{mark_of_turn}
use Rattle.solo.specs.Solo as solo
use Rattle.solo.specs.Closing as closing
use Rattle.plain_scheduler.specs.State.{Answer, Yes, No, Pending, Ready, Gives, Cancelled, Done, Made, NoMemory, Granted, AtOnce}
use Rattle.plain_scheduler.specs.State.{Event, Polls, Drops, Loses, Calls, Answers}
use Rattle.plain_scheduler.specs.State.{Choice, Code, Poll, Drop, Lose, Closed, Gave, Taker, Try, Tick, Run, Plain}
use Rattle.plain_scheduler.specs.Lists.{or}
use Rattle.plain_scheduler.specs.Moves.{task}
use Rattle.plain_scheduler.specs.Calls.{Call, Spawn, TryTick, Wake, Use, Copy, Release, PollHandle, Cancel, Detach, DropHandle, Pends, Leak}
use Rattle.plain_scheduler.specs.Calls.{EndsWith, Ends, is_granted, does}
use Rattle.solo_laws.specs.Alike.{cancelled, copies, lets_go, replaced_by, takes_one}
use Rattle.solo_laws.specs.Dropping.{ends_one}
use Rattle.solo_laws.specs.Road.{HasLife, IsNamed, wakes}
use Rattle.solo_laws.specs.Tabled.{named}

module _ {T X : Type 0} where
  -- a sleeper's waker is called
  abbrev pub rings : Option X → List (Event T (SoloWaker X))
  rings None = []
  rings (Some waker) = Calls (Outside waker) ∷ []

  -- a try, or a poll of a tick, ends so
  abbrev pub answer_in : Taker (SoloWaker X) → Answer T
  answer_in Try = Yes
  answer_in (Tick t w) = Ready
  answer_in (Run r w) = Pending

  abbrev pub ended_in : Option (Taker (SoloWaker X)) → Answer T
  ended_in by = or by answer_in Done

  abbrev pub polled_as : Polled T (SoloWaker X) → Answer T
  polled_as (OutputPoll v spare) = Gives v
  polled_as (ClosedPoll spare) = Cancelled
  polled_as (PendingPoll replaced) = Pending

  -- an output is dropped before anything else is seen
  abbrev pub loses_or : Option T → List (Event T (SoloWaker X)) → List (Event T (SoloWaker X))
  loses_or None others = others
  loses_or (Some v) others = Loses v ∷ []

-- it is handed out, to be polled or dropped
abbrev pub is_handed : {F : Type 0} → Found F → Bool
is_handed (FoundPoll lent future) = true
is_handed (FoundDrop lent future) = true
is_handed _ = false

-- what was found is lent as what its number has
abbrev pub lent_as : {F : Type 0} → (ℕ → Lent) → Found F → Type 0
lent_as its (FoundPoll lent future) = lent ≡ its lent.task.number
lent_as its (FoundDrop lent future) = lent ≡ its lent.task.number
lent_as its _ = Unit {0}

module _ {F T X : Type 0} where
  -- who awaits a task is called: a task's waker wakes it, and goes
  abbrev pub rings_of : Option (SoloWaker X) → Solo F T X → List (Event T (SoloWaker X))
  rings_of None s = []
  rings_of (Some (Outside waker)) s = Calls (Outside waker) ∷ []
  rings_of (Some (OfTask task)) s = rings (solo.wake_and_release_answer task s).sleeper

  -- a waker goes
  abbrev pub rings_without : Option (SoloWaker X) → Solo F T X → List (Event T (SoloWaker X))
  rings_without (Some (OfTask task)) s = rings (solo.release_answer task s).sleeper
  rings_without _ s = []

  -- a future that was found is polled, or dropped
  abbrev pub found_as : Found F → List (Event T (SoloWaker X))
  found_as Nothing = Answers No ∷ []
  found_as (FoundPoll lent future) = Polls lent.task.number ∷ []
  found_as (FoundDrop lent future) = Drops lent.task.number ∷ []
  found_as Gone = []

  -- in which user's code the call then stands
  abbrev pub code_of : Taker (SoloWaker X) → Found F → List (Code T (SoloWaker X))
  code_of by (FoundPoll lent future) = Poll lent.task.number by ∷ []
  code_of by (FoundDrop lent future) = Drop lent.task.number Closed by ∷ []
  code_of by _ = []

  abbrev pub cancel_shows : Task → Solo F T X → List (Event T (SoloWaker X)) → List (Event T (SoloWaker X))
  cancel_shows task s after =
      let out = solo.cancel_answer task s in rings out.sleeper ++ (rings_of out.awaiter (solo.cancelled task s) ++ after)

  abbrev pub detach_shows : Task → Solo F T X → List (Event T (SoloWaker X))
  detach_shows task s = let out = solo.detach_answer task s in rings out.sleeper ++ loses_or out.output (Answers Done ∷ [])

  -- where it has to wait, the waker is copied first
  abbrev pub poll_shows : Bool → Task → SoloWaker X → Solo F T X → List (Event T (SoloWaker X))
  poll_shows granted task w s =
      let z = copies w s in
      choose
      (solo.must_wait task s)
      (choose granted (rings_without (replaced_by (solo.poll_answer task w z)) (solo.polled task w z) ++ Answers Pending ∷ [])
      (Answers NoMemory ∷ []))
      (Answers (polled_as (solo.poll_answer task w s)) ∷ [])

  -- a future is dropped, or a sleeper called, and the poll of the task ends
  abbrev pub end_shows : Taker (SoloWaker X) → Owed F T X → List (Event T (SoloWaker X))
  end_shows by out = or out.rest (λ lent. Drops lent.task.number ∷ []) (rings out.sleeper ++ Answers (answer_in by) ∷ [])

  abbrev pub call_shows : Option (SoloWaker X) → Option (Taker (SoloWaker X)) → Solo F T X → List (Event T (SoloWaker X))
  call_shows awaiter by s = rings_of awaiter s ++ Answers (ended_in by) ∷ []

  -- once a future is dropped: an output is dropped, or a waker goes, and who awaits the task is called
  abbrev pub drop_shows : Taker (SoloWaker X) → Owed F T X → Solo F T X → List (Event T (SoloWaker X))
  drop_shows by out s =
      rings out.sleeper
      ++ loses_or out.output (rings_without out.old s ++ call_shows out.awaiter (Some by) (lets_go out.old s))

  -- each of so many wakers that a leak has taken out is called
  abbrev pub leak_shows : ℕ → Solo F T X → List (Event T (SoloWaker X))
  leak_shows zero s = []
  leak_shows (suc n) s = rings (or (closing.leak_answer s) (λ told. told.sleeper) None) ++ leak_shows n (closing.leak_woken s)

-- of the future of each number
module _ {F T X : Type 0} (its : ℕ → Lent) (s : Solo F T X) (p : Plain T (SoloWaker X)) where
  -- of a call on a task, where so many more tasks may come into a queue
  abbrev pub CallsShown : ℕ → (Task → List (Event T (SoloWaker X))) → (ℕ → Call T (SoloWaker X)) → Type 0
  CallsShown more shown call =
      (c : Choice) (f : ℕ) → f < length p.futures → length p.lying ≤ c.tells → HasLife more s.lines
      → (does wakes c (call f) p).events ≡ p.events ++ shown (named its f)

  abbrev pub WakesShown : Type 0
  WakesShown = CallsShown 2 (λ task. rings (solo.wake_answer task s).sleeper ++ Answers Done ∷ []) Wake

  abbrev pub ReleasesShown : Type 0
  ReleasesShown = CallsShown 2 (λ task. rings (solo.release_answer task s).sleeper ++ Answers Done ∷ []) Release

  abbrev pub UsesShown : Type 0
  UsesShown = CallsShown 2 (λ task. rings (solo.wake_and_release_answer task s).sleeper ++ Answers Done ∷ []) Use

  abbrev pub CancelsShown : Type 0
  CancelsShown = CallsShown 5 (λ task. cancel_shows task s (Answers Done ∷ [])) Cancel

  abbrev pub DetachesShown : Type 0
  DetachesShown = CallsShown 2 (λ task. detach_shows task s) Detach

  abbrev pub HandleDropsShown : Type 0
  HandleDropsShown = CallsShown 8 (λ task. cancel_shows task s (detach_shows task (cancelled task s))) DropHandle

  abbrev pub CopiesShown : Type 0
  CopiesShown =
      (c : Choice) (f : ℕ) → c.refusal ≡ (if solo.may_hold (named its f) s then Granted else AtOnce)
      → (does wakes c (Copy f) p).events ≡ p.events ++ Answers (if solo.may_hold (named its f) s then Made else NoMemory) ∷ []

  abbrev pub HandlesShown : Type 0
  HandlesShown =
      (c : Choice) (f : ℕ) (w : SoloWaker X) → f < length p.futures → (task f p).handle ≡ true
      → ((t : Task) → w ≡ OfTask t → IsNamed (named its) (length p.futures) t × (is_granted c.refusal ≡ solo.may_hold t s))
      → length p.lying ≤ c.tells → HasLife 2 s.lines
      → (does wakes c (PollHandle f w) p).events ≡ p.events ++ poll_shows (is_granted c.refusal) (named its f) w s

  -- a spawn that isn't refused
  abbrev pub SpawnsShown : Type 0
  SpawnsShown =
      (c : Choice) (mark : Mark) (future : F) (spawned : Spawned X) (z : Solo F T X) (spawns : solo.Spawns mark future s (Ok spawned) z)
      → its (length p.futures) ≡ record { task = spawned.task; place = spawns.1.0.place } → c.refusal ≡ Granted
      → length p.lying ≤ c.tells → HasLife 3 s.lines → length p.futures < most_accepted
      → (does wakes c (Spawn mark) p).events ≡ p.events ++ (rings spawned.told.sleeper ++ Answers Made ∷ [])

  -- a leak of one that isn't static
  abbrev pub LeaksShown : Type 0
  LeaksShown =
      (c : Choice) → p.is_static ≡ false → length p.lying ≤ c.tells → HasLife (6 * length s.table.entries) s.lines
      → (does wakes c Leak p).events
      ≡ p.events ++ (leak_shows (length s.table.entries) (closing.leaked s) ++ Answers Done ∷ [])

  -- a take hands out the future that the plain scheduler takes
  pub record TakenAs (c : Choice) : Type 0 where
    pub seen : (does wakes c TryTick p).events
        ≡ p.events ++ (rings (solo.take_answer s).sleeper ++ found_as (solo.take_answer s).found)
    pub inside : (does wakes c TryTick p).inside ≡ code_of Try (solo.take_answer s).found ++ p.inside
    pub lent : lent_as its (solo.take_answer s).found

  abbrev pub TakesShown : Type 0
  TakesShown = (c : Choice) → c.first ≡ mark_of_turn s.lines.turn → length p.lying ≤ c.tells → HasLife 1 s.lines → TakenAs c

  -- and the end of its poll hands out a future where that is to be dropped
  pub record PendedAs (c : Choice) (f : ℕ) (by : Taker (SoloWaker X)) (future : F) : Type 0 where
    pub seen : (does wakes c Pends p).events ≡ p.events ++ end_shows by (solo.settle_pending_answer (its f) future s)
    pub hands : is_some (solo.settle_pending_answer (its f) future s).future
        ≡ is_some (solo.settle_pending_answer (its f) future s).rest

  abbrev pub PendsShown : Type 0
  PendsShown =
      (c : Choice) (f : ℕ) (by : Taker (SoloWaker X)) → takes_one by ≡ true → (rest : List (Code T (SoloWaker X))) (future : F)
      → p.inside ≡ Poll f by ∷ rest → length p.lying ≤ c.tells → HasLife 2 s.lines → PendedAs c f by future

  abbrev pub GivesShown : Type 0
  GivesShown =
      (c : Choice) (f : ℕ) (by : Taker (SoloWaker X)) (rest : List (Code T (SoloWaker X))) (v : T) → p.inside ≡ Poll f by ∷ rest
      → (does wakes c (EndsWith v) p).events ≡ p.events ++ Drops f ∷ []

  -- the end of a drop hands no other future out: of one that gave its output, of one whose task is closed
  pub record DroppedAs (c : Choice) (by : Taker (SoloWaker X)) (owed : Owed F T X) (z : Solo F T X) : Type 0 where
    pub seen : (does wakes c Ends p).events ≡ p.events ++ drop_shows by owed z
    pub future : owed.future ≡ None

  abbrev pub GivenDropsShown : Type 0
  GivenDropsShown =
      (c : Choice) (f : ℕ) (v : T) (by : Taker (SoloWaker X)) → takes_one by ≡ true → (rest : List (Code T (SoloWaker X)))
      → p.inside ≡ Drop f (Gave v) by ∷ rest → length p.lying ≤ c.tells → HasLife 8 s.lines
      → DroppedAs c by (solo.settle_ready_answer (its f) v s) (solo.settled_ready (its f) v s)

  abbrev pub ClosedDropsShown : Type 0
  ClosedDropsShown =
      (c : Choice) (f : ℕ) (by : Taker (SoloWaker X)) → takes_one by ≡ true → (rest : List (Code T (SoloWaker X)))
      → p.inside ≡ Drop f Closed by ∷ rest → length p.lying ≤ c.tells → HasLife 8 s.lines
      → DroppedAs c by (solo.finish_answer (its f) s) (solo.finished (its f) s)

  -- and of an output
  abbrev pub LosesShown : Type 0
  LosesShown =
      (c : Choice) (awaiter : Option (SoloWaker X)) (by : Option (Taker (SoloWaker X))) → ends_one by ≡ true
      → (rest : List (Code T (SoloWaker X))) → p.inside ≡ Lose awaiter by ∷ rest → length p.lying ≤ c.tells → HasLife 2 s.lines
      → (does wakes c Ends p).events ≡ p.events ++ call_shows awaiter by s
