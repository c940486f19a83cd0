-- What a party does next: a step of the machine, and in user code what its item says.
use Rattle.std.specs.Prelude.{ℕ, ◌+◌, ◌-◌, ◌*◌, ◌^◌, ◌==◌, min, nat_lt, position, drop, slice_index_or}
use Rattle.std.specs.Prelude.{Bool, true, false, if◌then◌else◌, Option, Some, None, List, [], ◌∷◌, length}
use Rattle.executor_model.specs.declared.call.By.TheVariants as by
use Rattle.executor_model.specs.declared.call.Call.{Call}
use Rattle.executor_model.specs.declared.call.Call.TheVariants as call
use Rattle.executor_model.specs.declared.call.Reply.{Reply}
use Rattle.executor_model.specs.declared.call.Reply.TheVariants as reply
use Rattle.executor_model.specs.declared.event.Answer.TheVariants as answered
use Rattle.executor_model.specs.declared.op.Awaiter.{Awaiter}
use Rattle.executor_model.specs.declared.op.Op.{Op}
use Rattle.executor_model.specs.declared.op.Op.TheVariants as op
use Rattle.executor_model.specs.declared.op.HandleOp.TheVariants as handle_op
use Rattle.executor_model.specs.declared.op.RunPoll.{RunPoll}
use Rattle.executor_model.specs.declared.op.UserOp.TheVariants as user_op
use Rattle.executor_model.specs.declared.op.Waker.{Waker}
use Rattle.executor_model.specs.declared.op.Waker.TheVariants.{Task, Outside}
use Rattle.executor_model.specs.declared.step.Step.TheVariants.{Begin, Go, Answer}
use Rattle.executor_model.specs.declared.step.UserEnd.{UserEnd}
use Rattle.executor_model.specs.declared.step.UserEnd.TheVariants as end
use Rattle.executor_model.specs.World.{awaiter_of}
use Rattle.script.specs.declared.item.Item.{Item}
use Rattle.script.specs.declared.item.Item.TheVariants as item
use Rattle.script.specs.declared.plain.Plain.{Plain}
use Rattle.script.specs.declared.plain.Plain.TheVariants as plain
use Rattle.script.specs.declared.word.Word.{Word}
use Rattle.script.specs.declared.word.Word.TheVariants as word
use Rattle.script.specs.Names.{number_of}
use Rattle.script.specs.Plain.{word_of}
use Rattle.simulator.specs.declared.moment.Outcome.{Outcome}
use Rattle.simulator.specs.declared.moment.Outcome.TheVariants as outcome
use Rattle.simulator.specs.declared.play.future.Stage.{Stage}
use Rattle.simulator.specs.declared.play.future.Stage.TheVariants as stage
use Rattle.simulator.specs.declared.play.future.Future.{Future}
use Rattle.simulator.specs.declared.play.party.Doing.{Doing}
use Rattle.simulator.specs.declared.play.runs.Run.{Run}
use Rattle.simulator.specs.Asking.{counted, is_refusing}
use Rattle.simulator.specs.Handles.{free_handle, handle_of}
use Rattle.simulator.specs.Play.{Player, plain_at, items_at, item_of, future, set_future, is_possible}
use Rattle.simulator.specs.Play.{run, set_run, party, set_party, top, ended, tried, ticked_as, ran_as}

-- the waker that the poll of f's handle was given
unfoldable pub given : ℕ → Waker → Player → Player
given f waker s = set_future f (record (future s f) { given = waker }) s

-- the machine goes on: with no memory where the command says so, and each step that asks for memory is counted;
-- and `will_wake` says yes between wakers of one kind and name

abbrev pub is_same_waker : Waker → Waker → Bool
is_same_waker (Task f) (Task g) = f == g
is_same_waker (Outside x) (Outside y) = x == y
is_same_waker _ _ = false

abbrev pub is_same_awaiter : Option Awaiter → Waker → Bool
is_same_awaiter None waker = false
is_same_awaiter (Some awaiter) waker = is_same_waker awaiter.waker waker

unfoldable pub is_same : Player → Op → Bool
is_same s (op.Handle (handle_op.EndNotify f true)) = is_same_awaiter (awaiter_of s.machine.world f) (future s f).given
is_same s _ = false

unfoldable pub go : ℕ → Op → Player → Player
go p o s =
    tried (Go p (record { refused = is_refusing s (party s p).doing o; same = is_same s o; start = 0 })) (counted p o s)

unfoldable pub answer : ℕ → UserEnd → Player → Player
answer p e s = tried (Answer p e) s

-- drops of outputs and outside wakers do nothing more
unfoldable pub go_on : ℕ → Op → Player → Player
go_on p (op.User (user_op.DropOutput f)) s = answer p end.Done s
go_on p (op.User (user_op.CallOutside x)) s = answer p end.Done s
go_on p o s = go p o s

-- polls

-- what future f does, poll by poll
abbrev pub items_of : Player → ℕ → List Item
items_of s f = items_at s (future s f).command

-- its poll has ended: the next item is next, or the last one again
abbrev pub polled : ℕ → Future → Future
polled count x = record x { next = (if nat_lt x.next (count - 1) then x.next + 1 else x.next); stage = stage.Begun }

unfoldable pub end_pending : ℕ → ℕ → Player → Player
end_pending p f s =
    answer p (end.Polled answered.Pending) (set_future f (polled (length (items_of s f)) (future s f)) s)

unfoldable pub end_ready : ℕ → ℕ → ℕ → Player → Player
end_ready p f v s =
    answer p (end.Polled answered.Ready)
    (set_future f (record (polled (length (items_of s f)) (future s f)) { output = v }) s)

-- the poll makes a call
unfoldable pub ask : ℕ → ℕ → Call → Player → Player
ask p f c s = tried (Begin p c) (set_future f (record (future s f) { stage = stage.Asked }) s)

-- twice the output of the other, at most the greatest number of 64 bits; 0 where that one was cancelled
abbrev pub doubled : Reply → ℕ → Option ℕ
doubled reply.Ready v = Some (min (2 * v) (2 ^ 64 - 1))
doubled reply.Cancelled v = Some 0
doubled _ v = None

abbrev pub end_by : Option ℕ → ℕ → ℕ → Player → Player
end_by (Some v) p f s = end_ready p f v s
end_by None p f s = end_pending p f s

unfoldable pub poll_other : Stage → ℕ → ℕ → ℕ → Player → Player
poll_other stage.Begun p f g s = ask p f (call.PollHandle g by.Mine) (given g (Task f) s)
poll_other _ p f g s = end_by (doubled (party s p).reply (future s g).output) p f s

abbrev pub poll_named : Option ℕ → ℕ → ℕ → Player → Player
poll_named (Some g) p f s = poll_other (future s f).stage p f g s
poll_named None p f s = end_pending p f s

-- the handle is dropped, where there is one to drop
abbrev pub stop_named : Option ℕ → ℕ → ℕ → Player → Player
stop_named (Some g) p f s = ask p f (call.DropHandle g) s
stop_named None p f s = end_pending p f s

-- a queued task was taken up, or that isn't possible
abbrev pub nested : Bool → ℕ → ℕ → Player → Player
nested true p f s = s
nested false p f s = end_pending p f s

unfoldable pub nest : ℕ → ℕ → Player → Player
nest p f s = nested (is_possible (Begin p call.TryTick) s) p f (ask p f call.TryTick s)

abbrev pub poll_by : Item → Stage → ℕ → ℕ → Player → Player
poll_by (item.Ready v) st p f s = end_ready p f v s
poll_by item.WakeSelf stage.Begun p f s = ask p f call.WakeSelf s
poll_by item.Keep stage.Begun p f s = ask p f call.Keep s
poll_by item.Keep (stage.Replaced old) p f s = ask p f (call.DropWaker old) s
poll_by (item.Twice name) st p f s = poll_named (number_of s.names name) p f s
poll_by (item.Stop name) stage.Begun p f s = stop_named (free_handle s (handle_of s name)) p f s
poll_by item.Nest stage.Begun p f s = nest p f s
poll_by _ st p f s = end_pending p f s

unfoldable pub poll : ℕ → ℕ → Player → Player
poll p f s = poll_by (item_of s f) (future s f).stage p f s

-- drops: a future lets go of the handles that it holds, in the order of its items

abbrev pub is_twice : Item → Bool
is_twice (item.Twice name) = true
is_twice _ = false

abbrev pub name_in : Item → Option (List ℕ)
name_in (item.Twice name) = Some name
name_in _ = None

abbrev pub number_named : Player → Option (List ℕ) → Option ℕ
number_named s (Some name) = number_of s.names name
number_named s None = None

abbrev pub drop_named : Option ℕ → ℕ → Player → Player
drop_named (Some g) p s = tried (Begin p (call.DropHandle g)) s
drop_named None p s = answer p end.Done s

-- the handle that the item at this place names
unfoldable pub drop_held : ℕ → ℕ → ℕ → Player → Player
drop_held place p f s =
    drop_named (number_named s (name_in (slice_index_or (items_of s f) place item.Pend))) p
    (set_future f (record (future s f) { let_go = place + 1 }) s)

abbrev pub drop_next : Option ℕ → ℕ → ℕ → Player → Player
drop_next (Some k) p f s = drop_held ((future s f).let_go + k) p f s
drop_next None p f s = answer p end.Done s

unfoldable pub drop_future : ℕ → ℕ → Player → Player
drop_future p f s = drop_next (position is_twice (drop (future s f).let_go (items_of s f))) p f s

-- the own future of a run polls the handle that it holds, and is ready with twice the output of that future; where it
-- holds none it is never ready

-- the poll of that handle is over, and the own future has this output
abbrev pub own_ended : ℕ → Run → Run
own_ended v x = record x { asked = false; output = v }

abbrev pub end_own : Option ℕ → ℕ → ℕ → Player → Player
end_own (Some v) p r s = answer p (end.Polled answered.Ready) (set_run r (own_ended v (run s r)) s)
end_own None p r s = answer p (end.Polled answered.Pending) (set_run r (own_ended (run s r).output (run s r)) s)

-- by the waker that the run's poll was given
unfoldable pub poll_held : Bool → ℕ → RunPoll → ℕ → Player → Player
poll_held true p x f s = end_own (doubled (party s p).reply (future s f).output) p x.run s
poll_held false p x f s =
    tried (Begin p (call.PollHandle f by.Mine))
    (given f x.waker (set_run x.run (record (run s x.run) { asked = true }) s))

abbrev pub poll_own_by : Option ℕ → ℕ → RunPoll → Player → Player
poll_own_by (Some f) p x s = poll_held (run s x.run).asked p x f s
poll_own_by None p x s = answer p (end.Polled answered.Pending) s

unfoldable pub poll_own : ℕ → RunPoll → Player → Player
poll_own p x s = poll_own_by (number_named s (run s x.run).twice) p x s

-- its drop lets go of the handle
unfoldable pub drop_twice : Bool → ℕ → ℕ → ℕ → Player → Player
drop_twice true p r f s = answer p end.Done s
drop_twice false p r f s =
    tried (Begin p (call.DropHandle f)) (set_run r (record (run s r) { let_go = true }) s)

abbrev pub drop_own_by : Option ℕ → ℕ → ℕ → Player → Player
drop_own_by (Some f) p r s = drop_twice (run s r).let_go p r f s
drop_own_by None p r s = answer p end.Done s

unfoldable pub drop_own : ℕ → ℕ → Player → Player
drop_own p r s = drop_own_by (number_named s (run s r).twice) p r s

-- a cancel is followed by a poll of the handle

-- the future that the command names
abbrev pub named : Plain → Option (List ℕ)
named (plain.Wake name) = Some name
named (plain.Unkeep name) = Some name
named (plain.Poll name) = Some name
named (plain.Cancel name) = Some name
named (plain.Detach name) = Some name
named (plain.Drop name) = Some name
named _ = None

abbrev pub named_by : Option Plain → Option (List ℕ)
named_by (Some c) = named c
named_by None = None

-- the future of which the command speaks
abbrev pub subject : Player → Doing → Option ℕ
subject s doing = number_named s (named_by (plain_at s doing.command))

unfoldable pub poll_outside : ℕ → ℕ → Player → Player
poll_outside p f s = tried (Begin p (call.PollHandle f (by.Outside f))) (given f (Outside f) s)

abbrev pub poll_cancelled : Option ℕ → ℕ → Player → Player
poll_cancelled (Some f) p s = poll_outside p f s
poll_cancelled None p s = answer p end.Done s

abbrev pub subject_of : Player → Option Doing → Option ℕ
subject_of s (Some doing) = subject s doing
subject_of s None = None

unfoldable pub step_by : Option Op → ℕ → Player → Player
step_by None p s = poll_cancelled (subject_of s (party s p).doing) p s
step_by (Some (op.User (user_op.Poll f))) p s = poll p f s
step_by (Some (op.User (user_op.Drop f))) p s = drop_future p f s
step_by (Some (op.User (user_op.PollOwn x))) p s = poll_own p x s
step_by (Some (op.User (user_op.DropOwn r))) p s = drop_own p r s
step_by (Some o) p s = go_on p o s

-- the end of a command

-- the handles that these items name are held by another future or a run from now on, or no more
abbrev pub held_by : Option ℕ → Bool → Player → Player
held_by (Some g) held s = set_future g (record (future s g) { held = held }) s
held_by None held s = s

unfoldable pub held : List Item → Bool → Player → Player
held [] b s = s
held (item.Twice name ∷ is) b s = held is b (held_by (number_of s.names name) b s)
held (_ ∷ is) b s = held is b s

abbrev pub output_of_run : Player → Option ℕ → Option ℕ
output_of_run s (Some r) = Some (run s r).output
output_of_run s None = None

abbrev pub output_of_future : Player → Option ℕ → Option ℕ
output_of_future s (Some f) = Some (future s f).output
output_of_future s None = None

-- what the future or the run gives of which the command speaks, where it speaks of one
abbrev pub output_of : Player → Option Plain → Option ℕ
output_of s (Some (plain.PollRun name)) = output_of_run s (number_of s.run_names name)
output_of s c = output_of_future s (number_named s (named_by c))

abbrev pub outcome_of : Reply → Option ℕ → Outcome
outcome_of reply.Ready (Some v) = outcome.Output v
outcome_of r _ = outcome.Answered r

-- what the party is doing from now on
abbrev pub does : ℕ → Option Doing → Player → Player
does p d s = set_party p (record (party s p) { doing = d }) s

abbrev pub word_at : Option Plain → Word
word_at (Some c) = word_of c
word_at None = word.Go

-- the party is idle again, and the command is answered so
unfoldable pub closed : ℕ → Doing → Player → Player
closed p doing s =
    ended (word_at (plain_at s doing.command))
    (outcome_of (party s p).reply (output_of s (plain_at s doing.command))) (does p None s)

abbrev pub is_made : Reply → Bool
is_made reply.Made = true
is_made _ = false

-- a refused spawn gives the handles back
abbrev pub given_back : Bool → List Item → Player → Player
given_back true items s = s
given_back false items s = held items false s

-- a tick that was made has its name
abbrev pub ticked : Bool → List ℕ → Player → Player
ticked true name s = ticked_as (number_of s.ticks name) name s
ticked false name s = s

-- a run that was made has its name, and a refused one gives the handle back
abbrev pub ran : Bool → List ℕ → Option (List ℕ) → Player → Player
ran true name twice s = ran_as (number_of s.run_names name) name twice s
ran false name twice s = held_by (number_named s twice) false s

abbrev pub polls_next : Bool → ℕ → Doing → Player → Player
polls_next true p doing s = closed p doing s
polls_next false p doing s = does p (Some (record doing { polls = true })) s

unfoldable pub settled_as : Option Plain → ℕ → Doing → Player → Player
settled_as (Some (plain.Cancel name)) p doing s = polls_next doing.polls p doing s
settled_as (Some (plain.Spawn m name items)) p doing s = closed p doing (given_back (is_made (party s p).reply) items s)
settled_as (Some (plain.Tick name)) p doing s = closed p doing (ticked (is_made (party s p).reply) name s)
settled_as (Some (plain.Run name twice)) p doing s = closed p doing (ran (is_made (party s p).reply) name twice s)
settled_as _ p doing s = closed p doing s

abbrev pub settled_by : Option Doing → ℕ → Player → Player
settled_by (Some doing) p s = settled_as (plain_at s doing.command) p doing s
settled_by None p s = s

-- the call has ended, or it goes on
abbrev pub settled : Option Op → ℕ → Player → Player
settled None p s = settled_by (party s p).doing p s
settled (Some o) p s = s

unfoldable pub settle : ℕ → Player → Player
settle p s = settled (top s p) p s

-- one turn of party p
unfoldable pub turn : ℕ → Player → Player
turn p s = settle p (step_by (top s p) p s)
