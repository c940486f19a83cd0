-- What a command of a script is: which call it begins, for which party, and how far that is taken.
use Rattle.std.specs.Prelude.{◌≡◌, ℕ, zero, suc, ◌<◌, Bool, true, false, ◌&&◌, not, if◌then◌else◌}
use Rattle.std.specs.Prelude.{Option, Some, None, is_some, List, [], ◌∷◌}
use Rattle.std.specs.List.{list_any, list_all}
use Rattle.std.specs.Str.{bytes_eq}
use Rattle.executor_model.specs.declared.call.By.TheVariants as by
use Rattle.executor_model.specs.declared.call.Call.{Call}
use Rattle.executor_model.specs.declared.call.Call.TheVariants as call
use Rattle.executor_model.specs.declared.op.Waker.TheVariants.{Outside}
use Rattle.executor_model.specs.declared.step.Step.TheVariants.{Begin}
use Rattle.script.specs.declared.command.Command.{Command}
use Rattle.script.specs.declared.command.Command.TheVariants as command
use Rattle.script.specs.declared.item.Item.{Item}
use Rattle.script.specs.declared.item.Item.TheVariants as item
use Rattle.script.specs.declared.plain.Plain.{Plain}
use Rattle.script.specs.declared.plain.Plain.TheVariants as plain
use Rattle.script.specs.declared.word.Word.{Word}
use Rattle.script.specs.declared.word.Word.TheVariants as word
use Rattle.script.specs.Names.{number_of}
use Rattle.script.specs.Plain.{word_of}
use Rattle.simulator.specs.declared.moment.Outcome.TheVariants.{NotPossible, Waits}
use Rattle.simulator.specs.declared.play.party.Doing.{Doing}
use Rattle.simulator.specs.declared.play.party.Party.{Party}
use Rattle.executor_core.specs.Refused.{waits_for_lock}
use Rattle.simulator.specs.EventText.{outside_of_tick, outside_of_run}
use Rattle.simulator.specs.Asking.{refusal_of, up_to}
use Rattle.simulator.specs.Handles.{handle_of, is_available}
use Rattle.simulator.specs.Play.{Player, request_at, plain_at, future, set_future, party, top, ended, stop, tried, is_possible}
use Rattle.simulator.specs.Turn.{held, held_by, number_named, given, does, turn}

-- the call with which a command begins, where the script has what the command speaks of

abbrev pub kept_of : Player → Option ℕ → Option ℕ
kept_of s (Some f) = (future s f).kept
kept_of s None = None

-- the command gives this name
abbrev pub gives : List ℕ → Option Plain → Bool
gives name (Some (plain.Spawn m other items)) = bytes_eq other name
gives name (Some (plain.Tick other)) = bytes_eq other name
gives name (Some (plain.Run other twice)) = bytes_eq other name
gives name _ = false

abbrev pub is_making_by : Player → List ℕ → Option Doing → Bool
is_making_by s name (Some doing) = gives name (plain_at s doing.command)
is_making_by s name None = false

abbrev pub is_making : Player → List ℕ → Party → Bool
is_making s name x = is_making_by s name x.doing

-- the name is given to no future, tick or run, and no command in progress may give it
abbrev pub is_free : Player → List ℕ → Bool
is_free s name =
    not (is_some (number_of s.names name)) &&
    (not (is_some (number_of s.ticks name)) &&
    (not (is_some (number_of s.run_names name)) && not (list_any (λ x. is_making s name x) s.parties)))

abbrev pub can_spawn : Player → List ℕ → List Item → Bool
can_spawn s name items = is_free s name && list_all (λ i. is_available s i) items

abbrev pub on : Option ℕ → (ℕ → Call) → Option Call
on (Some n) c = Some (c n)
on None c = None

abbrev pub call_of_tick : Bool → Option Call
call_of_tick true = Some call.NewTick
call_of_tick false = None

-- a tick is polled by the outside waker of its name
abbrev pub poll_of_tick : ℕ → Call
poll_of_tick t = call.PollTick t (by.Outside (outside_of_tick t))

-- the handle that a run is to hold is there, and neither held nor in use; so it is where it is to hold none
abbrev pub is_holdable : Player → Option (List ℕ) → Bool
is_holdable s (Some name) = is_available s (item.Twice name)
is_holdable s None = true

abbrev pub call_of_run : Bool → Option Call
call_of_run true = Some call.NewRun
call_of_run false = None

-- and so is a run
abbrev pub poll_of_run : ℕ → Call
poll_of_run r = call.PollRun r (by.Outside (outside_of_run r))

unfoldable pub call_of : Player → Plain → Option Call
call_of s (plain.Spawn m name items) = if can_spawn s name items then Some (call.Spawn m) else None
call_of s plain.Try = Some call.TryTick
call_of s plain.Empty = Some call.IsEmpty
call_of s (plain.Wake name) = on (kept_of s (number_of s.names name)) (λ k. call.WakeByRef k)
call_of s (plain.Unkeep name) = on (kept_of s (number_of s.names name)) (λ k. call.DropWaker k)
call_of s (plain.Poll name) = on (handle_of s name) (λ f. call.PollHandle f (by.Outside f))
call_of s (plain.Cancel name) = on (handle_of s name) (λ f. call.Cancel f)
call_of s (plain.Detach name) = on (handle_of s name) (λ f. call.Detach f)
call_of s (plain.Drop name) = on (handle_of s name) (λ f. call.DropHandle f)
call_of s (plain.Tick name) = call_of_tick (is_free s name)
call_of s (plain.PollTick name) = on (number_of s.ticks name) poll_of_tick
call_of s (plain.DropTick name) = on (number_of s.ticks name) (λ t. call.DropTick t)
call_of s (plain.Run name twice) = call_of_run (is_free s name && is_holdable s twice)
call_of s (plain.PollRun name) = on (number_of s.run_names name) poll_of_run
call_of s (plain.DropRun name) = on (number_of s.run_names name) (λ r. call.DropRun r)
call_of s plain.Leak = Some call.Leak
call_of s plain.End = Some call.DropExecutor

-- what the script knows once a command has begun

abbrev pub unkept : Option ℕ → Player → Player
unkept (Some f) s = set_future f (record (future s f) { kept = None }) s
unkept None s = s

abbrev pub polled_by : Option ℕ → Player → Player
polled_by (Some f) s = given f (Outside f) s
polled_by None s = s

unfoldable pub started : Plain → Player → Player
started (plain.Spawn m name items) s = held items true s
started (plain.Run name twice) s = held_by (number_named s twice) true s
started (plain.Unkeep name) s = unkept (number_of s.names name) s
started (plain.Poll name) s = polled_by (number_of s.names name) s
started _ s = s

-- the command at this place has begun
abbrev pub begun_at : Player → ℕ → Doing
begun_at s at = record { command = at; polls = false; to_go = up_to (refusal_of (request_at s at)) }

-- the call was possible, or not
abbrev pub began : Bool → ℕ → ℕ → Plain → Word → Player → Player
began true p at c word s = started c (does p (Some (begun_at s at)) s)
began false p at c word s = ended word NotPossible s

unfoldable pub begin_call : ℕ → ℕ → Plain → Word → Call → Player → Player
begin_call p at c word k s = began (is_possible (Begin p k) s) p at c word (tried (Begin p k) s)

abbrev pub begin_by : Option Call → ℕ → ℕ → Plain → Word → Player → Player
begin_by (Some k) p at c word s = begin_call p at c word k s
begin_by None p at c word s = ended word NotPossible s

abbrev pub begin_unless : Bool → ℕ → ℕ → Plain → Word → Player → Player
begin_unless true p at c word s = ended word NotPossible s
begin_unless false p at c word s = begin_by (call_of s c) p at c word s

abbrev pub is_busy : ℕ → Player → Bool
is_busy p s = is_some (party s p).doing

-- party p begins the command at this place; this word is answered where that isn't possible
unfoldable pub begin : ℕ → ℕ → Plain → Word → Player → Player
begin p at c word s = begin_unless (is_busy p s) p at c word s

-- so many turns of party p
abbrev pub turns : ℕ → ℕ → Player → Player
turns zero p s = s
turns (suc n) p s = turn p (turns n p s)

-- the next thing that party p has to do is to take a lock that another party has
abbrev pub would_wait : ℕ → Player → Bool
would_wait p s = waits_for_lock s.machine.world (top s p)

-- party p can take a turn: its command has not ended, and it need not wait
abbrev pub goes_on : ℕ → Player → Bool
goes_on p s = is_busy p s && not (would_wait p s)

-- party p takes turns as long as it can, and no more: until its command has ended, or it would wait
pub record Finishes (p : ℕ) (s new : Player) : Type 0 where
  pub count : ℕ
  pub taken : new ≡ turns count p s
  pub over : goes_on p new ≡ false
  pub before : (n : ℕ) → n < count → goes_on p (turns n p s) ≡ true

-- where the command of party 0 hasn't ended then, it would wait, and the script ends
abbrev pub stop_if : Bool → Player → Player
stop_if true s = stop s
stop_if false s = s

abbrev pub PlaysWhole : Player → Player → Type 0
PlaysWhole s new = (last : Player) × Finishes 0 s last × (new ≡ stop_if (is_busy 0 last) last)

-- one turn, where the party has begun a command, and need not wait
abbrev pub go : Bool → Bool → ℕ → Player → Player
go true true p s = ended word.Go Waits s
go true false p s = turn p s
go false waits p s = ended word.Go NotPossible s

-- where the command hasn't ended then, it would wait, and stays in progress
abbrev pub wait_if : Bool → Player → Player
wait_if true s = ended word.Finish Waits s
wait_if false s = s

abbrev pub PlaysFinish : Bool → ℕ → Player → Player → Type 0
PlaysFinish true p s new = (last : Player) × Finishes p s last × (new ≡ wait_if (is_busy p last) last)
PlaysFinish false p s new = new ≡ ended word.Finish NotPossible s

-- the command at this place
abbrev pub Plays : ℕ → Command → Player → Player → Type 0
Plays at (command.Whole r) s new = PlaysWhole (begin 0 at r.plain (word_of r.plain) s) new
Plays at (command.Begin p r) s new = new ≡ begin p at r.plain word.Begin s
Plays at (command.Go p) s new = new ≡ go (is_busy p s) (would_wait p s) p s
Plays at (command.Finish p) s new = PlaysFinish (is_busy p s) p s new

-- once the script has ended, a command is nothing
abbrev pub PlaysUnless : Bool → ℕ → Command → Player → Player → Type 0
PlaysUnless true at c s new = new ≡ s
PlaysUnless false at c s new = Plays at c s new

-- these commands in order, the first of which stands at this place
abbrev pub PlaysAll : ℕ → List Command → Player → Player → Type 0
PlaysAll at [] s new = new ≡ s
PlaysAll at (c ∷ cs) s new = (next : Player) × PlaysUnless s.stopped at c s next × PlaysAll (suc at) cs next new
