-- What a script knows while it is played: the machine, the names and items of its futures, the names of its ticks and
-- runs, and what each party is doing.
use Rattle.std.specs.Prelude.{ℕ, ◌-◌, Bool, true, false, Option, Some, None}
use Rattle.std.specs.Prelude.{Result, Ok, Err, List, [], ◌∷◌, ◌++◌, length, map}
use Rattle.std.specs.Prelude.{drop, slice_get, slice_index_or, slice_set, replicate}
use Rattle.executor_model.specs.declared.call.Reply.{Reply}
use Rattle.executor_model.specs.declared.call.Reply.TheVariants as reply
use Rattle.executor_model.specs.declared.event.Event.{Event}
use Rattle.executor_model.specs.declared.event.Event.TheVariants as event
use Rattle.executor_model.specs.declared.kind.Kind.{Kind}
use Rattle.executor_model.specs.declared.kind.Kind.TheVariants.{Owned, Static}
use Rattle.executor_model.specs.declared.op.Op.{Op}
use Rattle.executor_model.specs.declared.op.Op.TheVariants as op
use Rattle.executor_model.specs.declared.op.UserOp.TheVariants as user_op
use Rattle.executor_model.specs.declared.op.Waker.TheVariants.{Outside}
use Rattle.executor_model.specs.declared.step.Step.{Step}
use Rattle.executor_model.specs.declared.step.StepError.{StepError}
use Rattle.executor_model.specs.Steps as steps
use Rattle.executor_model.specs.Steps.{Machine}
use Rattle.script.specs.declared.command.Command.{Command}
use Rattle.script.specs.declared.command.Command.TheVariants as command
use Rattle.script.specs.declared.command.Request.{Request}
use Rattle.script.specs.declared.item.Item.{Item}
use Rattle.script.specs.declared.item.Item.TheVariants as item
use Rattle.script.specs.declared.plain.Plain.{Plain}
use Rattle.script.specs.declared.plain.Plain.TheVariants as plain
use Rattle.script.specs.declared.word.Word.{Word}
use Rattle.script.specs.Names.{number_of}
use Rattle.simulator.specs.declared.moment.Moment.{Moment}
use Rattle.simulator.specs.declared.moment.Moment.TheVariants.{Happened, Ended, Stopped}
use Rattle.simulator.specs.declared.moment.Outcome.{Outcome}
use Rattle.simulator.specs.declared.play.future.Future.{Future}
use Rattle.simulator.specs.declared.play.future.Stage.{Stage}
use Rattle.simulator.specs.declared.play.future.Stage.TheVariants as stage
use Rattle.simulator.specs.declared.play.party.Doing.{Doing}
use Rattle.simulator.specs.declared.play.party.Party.{Party}
use Rattle.simulator.specs.declared.play.runs.Run.{Run}

pub record Player : Type 0 where
  pub commands : List Command
  pub machine : Machine
  -- the names of the futures and what is known of these, in the order of acceptance
  pub names : List (List ℕ)
  pub futures : List Future
  -- the names of the ticks, in the order in which these were made
  pub ticks : List (List ℕ)
  -- the names of the runs and what is known of these, in the order in which these were made
  pub run_names : List (List ℕ)
  pub runs : List Run
  pub parties : List Party
  -- the party that no command names would have waited for another, so no more commands are played
  pub stopped : Bool
  -- the steps that were tried, the possible ones among them being those that the machine took
  pub tried : List Step
  pub moments : List Moment

-- the request of the command at this place
abbrev pub request_of : Option Command → Option Request
request_of (Some (command.Whole r)) = Some r
request_of (Some (command.Begin p r)) = Some r
request_of _ = None

abbrev pub request_at : Player → ℕ → Option Request
request_at s at = request_of (slice_get s.commands at)

abbrev pub plain_of : Option Request → Option Plain
plain_of (Some r) = Some r.plain
plain_of None = None

abbrev pub plain_at : Player → ℕ → Option Plain
plain_at s at = plain_of (request_at s at)

abbrev pub spawned : Option Plain → List Item
spawned (Some (plain.Spawn m name items)) = items
spawned _ = []

-- what the future does that was spawned by the command at this place
abbrev pub items_at : Player → ℕ → List Item
items_at s at = spawned (plain_at s at)

-- a future that was just accepted, by the command at this place
abbrev pub new_future : ℕ → Future
new_future at = record {
  command = at;
  next = 0;
  let_go = 0;
  stage = stage.Begun;
  kept = None;
  held = false;
  given = Outside 0;
  output = 0;
}

-- a run that was just made, whose own future holds the handle of the future of this name, or none
abbrev pub new_run : Option (List ℕ) → Run
new_run twice = record { twice = twice; asked = false; let_go = false; output = 0 }

abbrev pub idle : Party
idle = record { doing = None; reply = reply.Done }

-- the kind of the executor that the first line names
abbrev pub kind_of : Bool → Kind
kind_of true = Static
kind_of false = Owned

abbrev pub start : List Command → ℕ → Bool → Player
start commands limit is_static = record {
  commands = commands;
  machine = steps.start limit (kind_of is_static) 10;
  names = [];
  futures = [];
  ticks = [];
  run_names = [];
  runs = [];
  parties = replicate 10 idle;
  stopped = false;
  tried = [];
  moments = [];
}

abbrev pub future : Player → ℕ → Future
future s f = slice_index_or s.futures f (new_future 0)

abbrev pub set_future : ℕ → Future → Player → Player
set_future f x s = record s { futures = slice_set s.futures f x }

abbrev pub run : Player → ℕ → Run
run s r = slice_index_or s.runs r (new_run None)

abbrev pub set_run : ℕ → Run → Player → Player
set_run r x s = record s { runs = slice_set s.runs r x }

abbrev pub party : Player → ℕ → Party
party s p = slice_index_or s.parties p idle

abbrev pub set_party : ℕ → Party → Player → Player
set_party p x s = record s { parties = slice_set s.parties p x }

-- the next thing that party p has to do
abbrev pub top : Player → ℕ → Option Op
top s p = steps.top (steps.stack s.machine p)

abbrev pub ended : Word → Outcome → Player → Player
ended word outcome s = record s { moments = s.moments ++ Ended word outcome ∷ [] }

-- the party that no command names would wait for another, and the script ends
abbrev pub stop : Player → Player
stop s = record s { stopped = true; moments = s.moments ++ Stopped ∷ [] }

-- what the script learns from what has happened

-- the future that is spawned was accepted
abbrev pub accepted_as : Option ℕ → List ℕ → ℕ → Player → Player
accepted_as None name at s = record s { names = s.names ++ name ∷ []; futures = s.futures ++ new_future at ∷ [] }
accepted_as (Some f) name at s = s

abbrev pub accepted_by : Option Plain → ℕ → Player → Player
accepted_by (Some (plain.Spawn m name items)) at s = accepted_as (number_of s.names name) name at s
accepted_by _ at s = s

unfoldable pub accepted : Option Doing → Player → Player
accepted None s = s
accepted (Some doing) s = accepted_by (plain_at s doing.command) doing.command s

-- the next tick has this name
abbrev pub ticked_as : Option ℕ → List ℕ → Player → Player
ticked_as None name s = record s { ticks = s.ticks ++ name ∷ [] }
ticked_as (Some t) name s = s

-- the next run has this name, and its own future holds this handle
abbrev pub ran_as : Option ℕ → List ℕ → Option (List ℕ) → Player → Player
ran_as None name twice s = record s { run_names = s.run_names ++ name ∷ []; runs = s.runs ++ new_run twice ∷ [] }
ran_as (Some r) name twice s = s

-- the waker that was kept before is to be let go
abbrev pub replacing : Option ℕ → Stage → Stage
replacing None before = before
replacing (Some old) before = stage.Replaced old

-- the new waker is kept in its place, or none
abbrev pub keeping : Option ℕ → Future → Future
keeping waker x = record x { stage = replacing x.kept x.stage; kept = waker }

-- a waker was made in a poll
unfoldable pub kept_at : Option Op → Player → Player
kept_at (Some (op.User (user_op.Poll f))) s =
    set_future f (keeping (Some (length s.machine.world.wakers - 1)) (future s f)) s
kept_at _ s = s

-- what future f does at its next poll, or in the poll that has begun
abbrev pub item_of : Player → ℕ → Item
item_of s f = slice_index_or (items_at s (future s f).command) (future s f).next item.Pend

abbrev pub unkept_by : Item → ℕ → Player → Player
unkept_by item.Keep f s = set_future f (keeping None (future s f)) s
unkept_by _ f s = s

-- a call was refused in a poll: where it was the copy of a waker to be kept, none is kept
unfoldable pub refused_at : Option Op → Player → Player
refused_at (Some (op.User (user_op.Poll f))) s = unkept_by (item_of s f) f s
refused_at _ s = s

abbrev pub replied : Reply → ℕ → Player → Player
replied reply.Made p s = kept_at (top s p) s
replied reply.NoMemory p s = refused_at (top s p) s
replied _ p s = s

unfoldable pub noted : Option Event → Player → Player
noted (Some (event.Accepted p f)) s = accepted (party s p).doing s
noted (Some (event.CallEnded p r)) s = replied r p (set_party p (record (party s p) { reply = r }) s)
noted _ s = s

-- the last one, where there is one
abbrev pub last : List Event → Option Event
last es = slice_get es (length es - 1)

-- what has happened since is shown, and the last of it says what there is to learn
unfoldable pub shown : List Event → Player → Player
shown es s = noted (last es) (record s { moments = s.moments ++ map Happened es })

-- the events behind the first n
abbrev pub later : ℕ → List Event → List Event
later n es = drop n es

abbrev pub is_ok : Result Machine StepError → Bool
is_ok (Ok m) = true
is_ok (Err e) = false

unfoldable pub is_possible : Step → Player → Bool
is_possible t s = is_ok (steps.step s.machine t)

abbrev pub taken : Result Machine StepError → Player → Player
taken (Ok m) s = shown (later (length s.machine.world.trace) m.world.trace) (record s { machine = m })
taken (Err e) s = s

-- a step is tried, and taken where it is possible
unfoldable pub tried : Step → Player → Player
tried t s = taken (steps.step s.machine t) (record s { tried = s.tried ++ t ∷ [] })
