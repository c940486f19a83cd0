-- How far a call on an executor of one owner has come: what it has in hand, what it hands out, and what it leaves to its owner.
use Rattle.std.specs.Prelude.{ℕ, Bool, true, false, List, [], Option, None}
use Rattle.executor_parts.specs.declared.places.EntryPlace.{EntryPlace}
use Rattle.task_moves.specs.declared.local_task.answers.Start.{Start}
use Rattle.call_steps.specs.declared.reply.Reply.{Reply}
use Rattle.call_steps.specs.declared.step.CallStep.{CallStep}
use Rattle.solo.specs.declared.names.Task.{Task}
use Rattle.solo.specs.declared.names.SoloWaker.{SoloWaker}
use Rattle.solo.specs.declared.owed.Found.{Found}
use Rattle.solo.specs.declared.owed.Found.TheVariants.{Nothing}
use Rattle.solo.specs.declared.runs.Runner.{Runner}
use Rattle.solo.specs.declared.ticks.Ticker.{Ticker}
use Rattle.solo.specs.declared.ticks.Ticker.TheVariants.{Awake}
use Rattle.solo.specs.declared.solo.Solo.{Solo}
use Rattle.solo.specs.Runs.{new_runner}
use Rattle.solo.specs.Ticks.{its_room}

-- a step, by the names that the executor gives to tasks, and to runs
abbrev pub Step : Type 0
Step = CallStep Task ℕ

-- what a call hands out to its owner
pub record Out (F T X : Type 0) : Type 0 where
  -- a future to be polled, or to be dropped before the rest
  pub found : Found F
  -- a future to be dropped, and nothing more
  pub future : Option F
  pub output : Option T
  -- who awaits the task, and a sleeper from outside: they are called
  pub awaiter : Option (SoloWaker X)
  pub sleeper : Option X
  -- wakers that go: of who awaited a task without a handle, and of a sleeper from outside
  pub old : Option (SoloWaker X)
  pub gone : Option X
  -- a task that its queue has turned away
  pub returned : Option Task
  pub reply : Option Reply

pub record Going (F T X : Type 0) : Type 0 where
  pub solo : Solo F T X
  -- what came with the call: the entry of its future, that future after its poll, an output, the tick and a copy of its waker
  pub place : Option EntryPlace
  pub back : Option F
  pub given : Option T
  pub ticker : Ticker
  pub waker : Option (SoloWaker X)
  -- of a run, what it has counted and taken, and its starting word; and where its walk is, round so many queues
  pub runner : Runner
  pub start : ℕ
  pub at : ℕ
  pub count : ℕ
  -- the tasks that are left in the own queue of a run that leaves
  pub own : Option (List Task)
  -- a queued task is taken back by this very call
  pub retracts : Bool
  -- a further search is left to a later call: a tick has fallen asleep, or a run has searched
  pub rests : Bool
  -- one more of what a leak, the end or a run that leaves has to do is left to a later call
  pub pauses : Bool
  -- what a step has left in hand for the next one
  pub starts : Option (Start EntryPlace)
  pub future : Option F
  pub output : Option T
  pub awaiter : Option (SoloWaker X)
  pub sleeper : Option X
  pub out : Out F T X
  -- what a later call has to do, behind user code that its owner runs
  pub left : List Step

module _ {F T X : Type 0} where
  abbrev pub quiet : Out F T X
  quiet = record {
    found = Nothing;
    future = None;
    output = None;
    awaiter = None;
    sleeper = None;
    old = None;
    gone = None;
    returned = None;
    reply = None;
  }

  -- a call begins, with nothing in hand
  abbrev pub calm : Solo F T X → Going F T X
  calm s = record {
    solo = s;
    place = None;
    back = None;
    given = None;
    ticker = Awake its_room;
    waker = None;
    runner = new_runner 0;
    start = 0;
    at = 0;
    count = 0;
    own = None;
    retracts = false;
    rests = false;
    pauses = true;
    starts = None;
    future = None;
    output = None;
    awaiter = None;
    sleeper = None;
    out = quiet;
    left = [];
  }
