-- However far a script is played, its machine is what the steps that were tried make of a new one,
-- and all is shown that happened.
use Rattle.std.proofs.Common.{◌≡◌, ℕ, zero, suc, Bool, true, false, List, [], ◌∷◌, ◌++◌, length, map, drop}
use Rattle.std.proofs.Common.{Result, Ok, Err, refl, sym, ap, ◌∙◌, subst, append-nil}
use Rattle.std.proofs.Math.Seq.{drop-append_seam}
use Rattle.std.specs.Prelude.{Option, Some, None}
use Rattle.executor_laws.specs.Continued.{IsContinued}
use Rattle.executor_model.specs.declared.call.Call.{Call}
use Rattle.executor_model.specs.declared.call.Reply.{Reply}
use Rattle.executor_model.specs.declared.call.Reply.TheVariants as reply
use Rattle.executor_model.specs.declared.event.Event.{Event}
use Rattle.executor_model.specs.declared.event.Event.TheVariants as event
use Rattle.executor_model.specs.declared.op.Op.{Op}
use Rattle.executor_model.specs.declared.op.Op.TheVariants as op
use Rattle.executor_model.specs.declared.op.RunPoll.{RunPoll}
use Rattle.executor_model.specs.declared.op.UserOp.TheVariants as user_op
use Rattle.executor_model.specs.declared.op.Waker.{Waker}
use Rattle.executor_model.specs.declared.step.Step.{Step}
use Rattle.executor_model.specs.declared.step.Step.TheVariants.{Begin}
use Rattle.executor_model.specs.declared.step.StepError.{StepError}
use Rattle.executor_model.specs.declared.step.UserEnd.{UserEnd}
use Rattle.executor_model.specs.Steps as steps
use Rattle.executor_model.specs.Steps.{Machine}
use Rattle.script.specs.declared.command.Command.{Command}
use Rattle.script.specs.declared.command.Command.TheVariants as command
use Rattle.script.specs.declared.item.Item.{Item}
use Rattle.script.specs.declared.item.Item.TheVariants as item
use Rattle.script.specs.declared.plain.Plain.{Plain}
use Rattle.script.specs.declared.plain.Plain.TheVariants as plain
use Rattle.script.specs.declared.word.Word.{Word}
use Rattle.script.specs.declared.word.Word.TheVariants as word
use Rattle.script.specs.Plain.{word_of}
use Rattle.script.specs.Names.{number_of}
use Rattle.simulator.specs.declared.moment.Moment.{Moment}
use Rattle.simulator.specs.declared.moment.Moment.TheVariants.{Happened, Ended, Stopped}
use Rattle.simulator.specs.declared.moment.Outcome.{Outcome}
use Rattle.simulator.specs.declared.moment.Outcome.TheVariants.{NotPossible, Waits}
use Rattle.simulator.specs.declared.play.future.Stage.{Stage}
use Rattle.simulator.specs.declared.play.future.Stage.TheVariants as stage
use Rattle.simulator.specs.declared.play.party.Doing.{Doing}
use Rattle.simulator.specs.Play as play
use Rattle.simulator.specs.Play.{Player, kind_of, plain_at, party, set_party, future, set_future, run, set_run, top, tried, taken}
use Rattle.simulator.specs.Play.{shown, noted, accepted, accepted_by, accepted_as, replied, kept_at}
use Rattle.simulator.specs.Play.{refused_at, unkept_by, item_of, last, later, ended}
use Rattle.simulator.specs.Asking as asking
use Rattle.simulator.specs.Turn as turns
use Rattle.simulator.specs.Commands as commands
use Rattle.simulator.specs.ScriptText.{happened}

pub happened-append : (xs ys : List Moment) → happened (xs ++ ys) ≡ happened xs ++ happened ys
happened-append [] ys = refl
happened-append (Happened e ∷ xs) ys = ap (λ (es : List Event). e ∷ es) (happened-append xs ys)
happened-append (Ended w o ∷ xs) ys = happened-append xs ys
happened-append (Stopped ∷ xs) ys = happened-append xs ys

happened-all : (es : List Event) → happened (map Happened es) ≡ es
happened-all [] = refl
happened-all (e ∷ es) = ap (λ (xs : List Event). e ∷ xs) (happened-all es)

run-push : (ts : List Step) (t : Step) (m : Machine) →
    steps.run (ts ++ t ∷ []) m ≡ steps.stepped (steps.run ts m) (steps.step (steps.run ts m) t)
run-push [] t m = refl
run-push (x ∷ ts) t m = run-push ts t (steps.stepped m (steps.step m x))

-- the moments of a player are those of its machine, which came of the steps of the first
abbrev Comes : Machine → List Step → Machine → List Moment → Type 0
Comes first ts m moments = (steps.run ts first ≡ m) × (happened moments ≡ m.world.trace)

abbrev pub IsFair : Machine → Player → Type 0
IsFair first s = Comes first s.tried s.machine s.moments

-- whether what a player shows is fair depends on no more than its machine, its steps and its moments
record Same (s new : Player) : Type 0 where
  machine : new.machine ≡ s.machine
  tried : new.tried ≡ s.tried
  moments : new.moments ≡ s.moments

same-fair : (first : Machine) (s new : Player) → Same s new → IsFair first s → IsFair first new
same-fair first s new e k = (
  ap (λ (ts : List Step). steps.run ts first) e.tried ∙ (k.0 ∙ sym e.machine),
  ap happened e.moments ∙ (k.1 ∙ ap (λ (m : Machine). m.world.trace) (sym e.machine)),
)

own : (s : Player) → Same s s
own s = record { machine = refl; tried = refl; moments = refl }

-- what is learned from an event

learns-as : (o : Option ℕ) (name : List ℕ) (at : ℕ) (s : Player) → Same s (accepted_as o name at s)
learns-as None name at s = record { machine = refl; tried = refl; moments = refl }
learns-as (Some f) name at s = own s

learns-by : (o : Option Plain) (at : ℕ) (s : Player) → Same s (accepted_by o at s)
learns-by (Some (plain.Spawn m name items)) at s = learns-as (number_of s.names name) name at s
learns-by None at s = own s
learns-by (Some _) at s = own s

learns-accepted : (o : Option Doing) (s : Player) → Same s (accepted o s)
unfolding accepted
learns-accepted None s = own s
learns-accepted (Some doing) s = learns-by (plain_at s doing.command) doing.command s

learns-kept : (o : Option Op) (s : Player) → Same s (kept_at o s)
unfolding kept_at
learns-kept (Some (op.User (user_op.Poll f))) s = record { machine = refl; tried = refl; moments = refl }
learns-kept None s = own s
learns-kept (Some _) s = own s

learns-unkept : (i : Item) (f : ℕ) (s : Player) → Same s (unkept_by i f s)
learns-unkept item.Keep f s = record { machine = refl; tried = refl; moments = refl }
learns-unkept _ f s = own s

learns-refused : (o : Option Op) (s : Player) → Same s (refused_at o s)
unfolding refused_at
learns-refused (Some (op.User (user_op.Poll f))) s = learns-unkept (item_of s f) f s
learns-refused None s = own s
learns-refused (Some _) s = own s

learns-replied : (r : Reply) (p : ℕ) (s : Player) → Same s (replied r p s)
learns-replied reply.Made p s = learns-kept (top s p) s
learns-replied reply.NoMemory p s = learns-refused (top s p) s
learns-replied _ p s = own s

learns : (o : Option Event) (s : Player) → Same s (noted o s)
unfolding noted
learns (Some (event.Accepted p f)) s = learns-accepted (party s p).doing s
learns (Some (event.CallEnded p r)) s =
    let here : Player = set_party p (record (party s p) { reply = r }) s in
    let m : Same here (replied r p here) = learns-replied r p here in
    record { machine = m.machine; tried = m.tried; moments = m.moments }
learns None s = own s
learns (Some _) s = own s

module _ (continues : (m : Machine) (t : Step) →
    IsContinued m.world.trace (steps.stepped m (steps.step m t)).world.trace) (first : Machine) where
  -- a step that is tried

  fair-taken : (t : Step) (s : Player) (r : Result Machine StepError) → steps.step s.machine t ≡ r → IsFair first s →
      IsFair first (taken r (record s { tried = s.tried ++ t ∷ [] }))
  unfolding shown
  fair-taken t s (Err e) q k = (
    run-push s.tried t first
        ∙ (ap (λ (m : Machine). steps.stepped m (steps.step m t)) k.0 ∙ ap (steps.stepped s.machine) q),
    k.1,
  )
  fair-taken t s (Ok m) q k =
      let here : Player = record s {
        machine = m;
        tried = s.tried ++ t ∷ [];
        moments = s.moments ++ map Happened (later (length s.machine.world.trace) m.world.trace);
      } in
      let on : IsContinued s.machine.world.trace m.world.trace =
      subst (λ (x : Result Machine StepError). IsContinued s.machine.world.trace
      (steps.stepped s.machine x).world.trace) q (continues s.machine t) in
      let behind : later (length s.machine.world.trace) m.world.trace ≡ on.0 =
      ap (drop (length s.machine.world.trace)) on.1 ∙ drop-append_seam s.machine.world.trace on.0 in
      let all : happened here.moments ≡ m.world.trace =
      happened-append s.moments (map Happened (later (length s.machine.world.trace) m.world.trace))
      ∙ (ap (λ (es : List Event). es ++ happened (map Happened (later (length s.machine.world.trace) m.world.trace)))
      k.1
      ∙ (ap (λ (es : List Event). s.machine.world.trace ++ es)
      (happened-all (later (length s.machine.world.trace) m.world.trace) ∙ behind)
      ∙ sym on.1)) in
      let steps_here : steps.run here.tried first ≡ m =
      run-push s.tried t first
      ∙ (ap (λ (x : Machine). steps.stepped x (steps.step x t)) k.0 ∙ ap (steps.stepped s.machine) q) in
      same-fair first here (noted (last (later (length s.machine.world.trace) m.world.trace)) here)
      (learns (last (later (length s.machine.world.trace) m.world.trace)) here) (steps_here, all)

  fair-tried : (t : Step) (s : Player) → IsFair first s → IsFair first (tried t s)
  unfolding tried
  fair-tried t s k = fair-taken t s (steps.step s.machine t) refl k

  fair-ended : (w : Word) (o : Outcome) (s : Player) → IsFair first s → IsFair first (ended w o s)
  fair-ended w o s k = (k.0, happened-append s.moments (Ended w o ∷ []) ∙ (append-nil (happened s.moments) ∙ k.1))

  fair-stop : (s : Player) → IsFair first s → IsFair first (play.stop s)
  fair-stop s k = (k.0, happened-append s.moments (Stopped ∷ []) ∙ (append-nil (happened s.moments) ∙ k.1))

  -- a turn

  fair-given : (f : ℕ) (w : Waker) (s : Player) → IsFair first s → IsFair first (turns.given f w s)
  unfolding turns.given
  fair-given f w s k = k

  fair-counted_in : (d : Option Doing) (b : Bool) (p : ℕ) (s : Player) → IsFair first s →
      IsFair first (asking.counted_in d b p s)
  fair-counted_in (Some doing) true p s k = k
  fair-counted_in (Some doing) false p s k = k
  fair-counted_in None b p s k = k

  fair-counted : (p : ℕ) (o : Op) (s : Player) → IsFair first s → IsFair first (asking.counted p o s)
  unfolding asking.counted
  fair-counted p o s k = fair-counted_in (party s p).doing _ p s k

  fair-go : (p : ℕ) (o : Op) (s : Player) → IsFair first s → IsFair first (turns.go p o s)
  unfolding turns.go
  fair-go p o s k = fair-tried _ _ (fair-counted p o s k)

  fair-answer : (p : ℕ) (e : UserEnd) (s : Player) → IsFair first s → IsFair first (turns.answer p e s)
  unfolding turns.answer
  fair-answer p e s k = fair-tried _ s k

  fair-go_on : (p : ℕ) (o : Op) (s : Player) → IsFair first s → IsFair first (turns.go_on p o s)
  unfolding turns.go_on
  fair-go_on p (op.User (user_op.DropOutput f)) s k = fair-answer p _ s k
  fair-go_on p (op.User (user_op.CallOutside x)) s k = fair-answer p _ s k
  fair-go_on p o s k = fair-go p o s k

  fair-pending : (p f : ℕ) (s : Player) → IsFair first s → IsFair first (turns.end_pending p f s)
  unfolding turns.end_pending
  fair-pending p f s k = fair-answer p _ _ k

  fair-ready : (p f v : ℕ) (s : Player) → IsFair first s → IsFair first (turns.end_ready p f v s)
  unfolding turns.end_ready
  fair-ready p f v s k = fair-answer p _ _ k

  fair-ask : (p f : ℕ) (c : Call) (s : Player) → IsFair first s → IsFair first (turns.ask p f c s)
  unfolding turns.ask
  fair-ask p f c s k = fair-tried _ _ k

  fair-end_by : (o : Option ℕ) (p f : ℕ) (s : Player) → IsFair first s → IsFair first (turns.end_by o p f s)
  fair-end_by (Some v) p f s k = fair-ready p f v s k
  fair-end_by None p f s k = fair-pending p f s k

  fair-other : (st : Stage) (p f g : ℕ) (s : Player) → IsFair first s → IsFair first (turns.poll_other st p f g s)
  unfolding turns.poll_other
  fair-other stage.Begun p f g s k = fair-ask p f _ _ (fair-given g _ s k)
  fair-other _ p f g s k = fair-end_by _ p f s k

  fair-named : (o : Option ℕ) (p f : ℕ) (s : Player) → IsFair first s → IsFair first (turns.poll_named o p f s)
  fair-named (Some g) p f s k = fair-other (future s f).stage p f g s k
  fair-named None p f s k = fair-pending p f s k

  fair-stop_named : (o : Option ℕ) (p f : ℕ) (s : Player) → IsFair first s → IsFair first (turns.stop_named o p f s)
  fair-stop_named (Some g) p f s k = fair-ask p f _ s k
  fair-stop_named None p f s k = fair-pending p f s k

  fair-nested : (b : Bool) (p f : ℕ) (s : Player) → IsFair first s → IsFair first (turns.nested b p f s)
  fair-nested true p f s k = k
  fair-nested false p f s k = fair-pending p f s k

  fair-nest : (p f : ℕ) (s : Player) → IsFair first s → IsFair first (turns.nest p f s)
  unfolding turns.nest
  fair-nest p f s k = fair-nested _ p f _ (fair-ask p f _ s k)

  fair-poll_by : (i : Item) (st : Stage) (p f : ℕ) (s : Player) → IsFair first s →
      IsFair first (turns.poll_by i st p f s)
  fair-poll_by (item.Ready v) st p f s k = fair-ready p f v s k
  fair-poll_by (item.Twice name) st p f s k = fair-named (number_of s.names name) p f s k
  fair-poll_by item.Pend st p f s k = fair-pending p f s k
  fair-poll_by item.WakeSelf stage.Begun p f s k = fair-ask p f _ s k
  fair-poll_by item.WakeSelf stage.Asked p f s k = fair-pending p f s k
  fair-poll_by item.WakeSelf (stage.Replaced old) p f s k = fair-pending p f s k
  fair-poll_by item.Keep stage.Begun p f s k = fair-ask p f _ s k
  fair-poll_by item.Keep (stage.Replaced old) p f s k = fair-ask p f _ s k
  fair-poll_by item.Keep stage.Asked p f s k = fair-pending p f s k
  fair-poll_by (item.Stop name) stage.Begun p f s k = fair-stop_named _ p f s k
  fair-poll_by (item.Stop name) stage.Asked p f s k = fair-pending p f s k
  fair-poll_by (item.Stop name) (stage.Replaced old) p f s k = fair-pending p f s k
  fair-poll_by item.Nest stage.Begun p f s k = fair-nest p f s k
  fair-poll_by item.Nest stage.Asked p f s k = fair-pending p f s k
  fair-poll_by item.Nest (stage.Replaced old) p f s k = fair-pending p f s k

  fair-poll : (p f : ℕ) (s : Player) → IsFair first s → IsFair first (turns.poll p f s)
  unfolding turns.poll
  fair-poll p f s k = fair-poll_by _ (future s f).stage p f s k

  fair-drop_named : (o : Option ℕ) (p : ℕ) (s : Player) → IsFair first s → IsFair first (turns.drop_named o p s)
  fair-drop_named (Some g) p s k = fair-tried _ s k
  fair-drop_named None p s k = fair-answer p _ s k

  fair-drop_held : (place p f : ℕ) (s : Player) → IsFair first s → IsFair first (turns.drop_held place p f s)
  unfolding turns.drop_held
  fair-drop_held place p f s k = fair-drop_named _ p _ k

  fair-drop_next : (o : Option ℕ) (p f : ℕ) (s : Player) → IsFair first s → IsFair first (turns.drop_next o p f s)
  fair-drop_next (Some n) p f s k = fair-drop_held _ p f s k
  fair-drop_next None p f s k = fair-answer p _ s k

  fair-drop : (p f : ℕ) (s : Player) → IsFair first s → IsFair first (turns.drop_future p f s)
  unfolding turns.drop_future
  fair-drop p f s k = fair-drop_next _ p f s k

  fair-end_own : (o : Option ℕ) (p r : ℕ) (s : Player) → IsFair first s → IsFair first (turns.end_own o p r s)
  fair-end_own (Some v) p r s k = fair-answer p _ _ k
  fair-end_own None p r s k = fair-answer p _ _ k

  fair-poll_held : (b : Bool) (p : ℕ) (x : RunPoll) (f : ℕ) (s : Player) → IsFair first s →
      IsFair first (turns.poll_held b p x f s)
  unfolding turns.poll_held
  fair-poll_held true p x f s k = fair-end_own _ p x.run s k
  fair-poll_held false p x f s k = fair-tried _ _ (fair-given f _ _ k)

  fair-poll_own_by : (o : Option ℕ) (p : ℕ) (x : RunPoll) (s : Player) → IsFair first s →
      IsFair first (turns.poll_own_by o p x s)
  fair-poll_own_by (Some f) p x s k = fair-poll_held (run s x.run).asked p x f s k
  fair-poll_own_by None p x s k = fair-answer p _ s k

  fair-poll_own : (p : ℕ) (x : RunPoll) (s : Player) → IsFair first s → IsFair first (turns.poll_own p x s)
  unfolding turns.poll_own
  fair-poll_own p x s k = fair-poll_own_by _ p x s k

  fair-drop_twice : (b : Bool) (p r f : ℕ) (s : Player) → IsFair first s → IsFair first (turns.drop_twice b p r f s)
  unfolding turns.drop_twice
  fair-drop_twice true p r f s k = fair-answer p _ s k
  fair-drop_twice false p r f s k = fair-tried _ _ k

  fair-drop_own_by : (o : Option ℕ) (p r : ℕ) (s : Player) → IsFair first s → IsFair first (turns.drop_own_by o p r s)
  fair-drop_own_by (Some f) p r s k = fair-drop_twice (run s r).let_go p r f s k
  fair-drop_own_by None p r s k = fair-answer p _ s k

  fair-drop_own : (p r : ℕ) (s : Player) → IsFair first s → IsFair first (turns.drop_own p r s)
  unfolding turns.drop_own
  fair-drop_own p r s k = fair-drop_own_by _ p r s k

  fair-outside : (p f : ℕ) (s : Player) → IsFair first s → IsFair first (turns.poll_outside p f s)
  unfolding turns.poll_outside
  fair-outside p f s k = fair-tried _ _ (fair-given f _ s k)

  fair-cancelled : (o : Option ℕ) (p : ℕ) (s : Player) → IsFair first s → IsFair first (turns.poll_cancelled o p s)
  fair-cancelled (Some f) p s k = fair-outside p f s k
  fair-cancelled None p s k = fair-answer p _ s k

  fair-step : (o : Option Op) (p : ℕ) (s : Player) → IsFair first s → IsFair first (turns.step_by o p s)
  unfolding turns.step_by
  fair-step None p s k = fair-cancelled _ p s k
  fair-step (Some (op.User (user_op.Poll f))) p s k = fair-poll p f s k
  fair-step (Some (op.User (user_op.Drop f))) p s k = fair-drop p f s k
  fair-step (Some (op.User (user_op.PollOwn x))) p s k = fair-poll_own p x s k
  fair-step (Some (op.User (user_op.DropOwn r))) p s k = fair-drop_own p r s k
  fair-step (Some o) p s k = fair-go_on p o s k

  -- the end of a command

  fair-held_by : (o : Option ℕ) (b : Bool) (s : Player) → IsFair first s → IsFair first (turns.held_by o b s)
  fair-held_by (Some g) b s k = k
  fair-held_by None b s k = k

  fair-held : (is : List Item) (b : Bool) (s : Player) → IsFair first s → IsFair first (turns.held is b s)
  unfolding turns.held
  fair-held [] b s k = k
  fair-held (item.Twice name ∷ is) b s k = fair-held is b _ (fair-held_by (number_of s.names name) b s k)
  fair-held (_ ∷ is) b s k = fair-held is b s k

  fair-closed : (p : ℕ) (doing : Doing) (s : Player) → IsFair first s → IsFair first (turns.closed p doing s)
  unfolding turns.closed
  fair-closed p doing s k =
      fair-ended (turns.word_at (plain_at s doing.command))
      (turns.outcome_of (party s p).reply (turns.output_of s (plain_at s doing.command))) (turns.does p None s) k

  fair-given_back : (b : Bool) (is : List Item) (s : Player) → IsFair first s → IsFair first (turns.given_back b is s)
  fair-given_back true is s k = k
  fair-given_back false is s k = fair-held is false s k

  fair-ticked_as : (o : Option ℕ) (name : List ℕ) (s : Player) → IsFair first s → IsFair first (play.ticked_as o name s)
  fair-ticked_as None name s k = k
  fair-ticked_as (Some t) name s k = k

  fair-ticked : (b : Bool) (name : List ℕ) (s : Player) → IsFair first s → IsFair first (turns.ticked b name s)
  fair-ticked true name s k = fair-ticked_as (number_of s.ticks name) name s k
  fair-ticked false name s k = k

  fair-ran_as : (o : Option ℕ) (name : List ℕ) (twice : Option (List ℕ)) (s : Player) → IsFair first s →
      IsFair first (play.ran_as o name twice s)
  fair-ran_as None name twice s k = k
  fair-ran_as (Some r) name twice s k = k

  fair-ran : (b : Bool) (name : List ℕ) (twice : Option (List ℕ)) (s : Player) → IsFair first s →
      IsFair first (turns.ran b name twice s)
  fair-ran true name twice s k = fair-ran_as (number_of s.run_names name) name twice s k
  fair-ran false name twice s k = fair-held_by (turns.number_named s twice) false s k

  fair-polls_next : (b : Bool) (p : ℕ) (doing : Doing) (s : Player) → IsFair first s →
      IsFair first (turns.polls_next b p doing s)
  fair-polls_next true p doing s k = fair-closed p doing s k
  fair-polls_next false p doing s k = k

  fair-settled_as : (o : Option Plain) (p : ℕ) (doing : Doing) (s : Player) → IsFair first s →
      IsFair first (turns.settled_as o p doing s)
  unfolding turns.settled_as
  fair-settled_as (Some (plain.Cancel name)) p doing s k = fair-polls_next doing.polls p doing s k
  fair-settled_as (Some (plain.Spawn m name items)) p doing s k =
      fair-closed p doing (turns.given_back (turns.is_made (party s p).reply) items s)
      (fair-given_back (turns.is_made (party s p).reply) items s k)
  fair-settled_as (Some (plain.Tick name)) p doing s k =
      fair-closed p doing (turns.ticked (turns.is_made (party s p).reply) name s)
      (fair-ticked (turns.is_made (party s p).reply) name s k)
  fair-settled_as (Some (plain.Run name twice)) p doing s k =
      fair-closed p doing (turns.ran (turns.is_made (party s p).reply) name twice s)
      (fair-ran (turns.is_made (party s p).reply) name twice s k)
  fair-settled_as None p doing s k = fair-closed p doing s k
  fair-settled_as (Some _) p doing s k = fair-closed p doing s k

  fair-settled_by : (o : Option Doing) (p : ℕ) (s : Player) → IsFair first s → IsFair first (turns.settled_by o p s)
  fair-settled_by (Some doing) p s k = fair-settled_as (plain_at s doing.command) p doing s k
  fair-settled_by None p s k = k

  fair-settled : (o : Option Op) (p : ℕ) (s : Player) → IsFair first s → IsFair first (turns.settled o p s)
  fair-settled None p s k = fair-settled_by (party s p).doing p s k
  fair-settled (Some o) p s k = k

  fair-settle : (p : ℕ) (s : Player) → IsFair first s → IsFair first (turns.settle p s)
  unfolding turns.settle
  fair-settle p s k = fair-settled (top s p) p s k

  fair-turn : (p : ℕ) (s : Player) → IsFair first s → IsFair first (turns.turn p s)
  unfolding turns.turn
  fair-turn p s k = fair-settle p (turns.step_by (top s p) p s) (fair-step (top s p) p s k)

  -- a command

  fair-unkept : (o : Option ℕ) (s : Player) → IsFair first s → IsFair first (commands.unkept o s)
  fair-unkept (Some f) s k = k
  fair-unkept None s k = k

  fair-polled : (o : Option ℕ) (s : Player) → IsFair first s → IsFair first (commands.polled_by o s)
  fair-polled (Some f) s k = fair-given f _ s k
  fair-polled None s k = k

  fair-started : (c : Plain) (s : Player) → IsFair first s → IsFair first (commands.started c s)
  unfolding commands.started
  fair-started (plain.Spawn m name items) s k = fair-held items true s k
  fair-started (plain.Run name twice) s k = fair-held_by (turns.number_named s twice) true s k
  fair-started (plain.Unkeep name) s k = fair-unkept (number_of s.names name) s k
  fair-started (plain.Poll name) s k = fair-polled (number_of s.names name) s k
  fair-started _ s k = k

  fair-began : (b : Bool) (p at : ℕ) (c : Plain) (w : Word) (s : Player) → IsFair first s →
      IsFair first (commands.began b p at c w s)
  fair-began true p at c w s k = fair-started c _ k
  fair-began false p at c w s k = fair-ended w NotPossible s k

  fair-begin_call : (p at : ℕ) (c : Plain) (w : Word) (x : Call) (s : Player) → IsFair first s →
      IsFair first (commands.begin_call p at c w x s)
  unfolding commands.begin_call
  fair-begin_call p at c w x s k = fair-began (play.is_possible (Begin p x) s) p at c w (tried (Begin p x) s)
      (fair-tried (Begin p x) s k)

  fair-begin_by : (o : Option Call) (p at : ℕ) (c : Plain) (w : Word) (s : Player) → IsFair first s →
      IsFair first (commands.begin_by o p at c w s)
  fair-begin_by (Some x) p at c w s k = fair-begin_call p at c w x s k
  fair-begin_by None p at c w s k = fair-ended w NotPossible s k

  fair-begin_unless : (b : Bool) (p at : ℕ) (c : Plain) (w : Word) (s : Player) → IsFair first s →
      IsFair first (commands.begin_unless b p at c w s)
  fair-begin_unless true p at c w s k = fair-ended w NotPossible s k
  fair-begin_unless false p at c w s k = fair-begin_by (commands.call_of s c) p at c w s k

  fair-begin : (p at : ℕ) (c : Plain) (w : Word) (s : Player) → IsFair first s →
      IsFair first (commands.begin p at c w s)
  unfolding commands.begin
  fair-begin p at c w s k = fair-begin_unless (commands.is_busy p s) p at c w s k

  fair-turns : (n p : ℕ) (s : Player) → IsFair first s → IsFair first (commands.turns n p s)
  fair-turns zero p s k = k
  fair-turns (suc n) p s k = fair-turn p (commands.turns n p s) (fair-turns n p s k)

  fair-finishes : (p : ℕ) (s new : Player) → commands.Finishes p s new → IsFair first s → IsFair first new
  fair-finishes p s new f k = subst (IsFair first) (sym f.taken) (fair-turns f.count p s k)

  fair-stop_if : (b : Bool) (s : Player) → IsFair first s → IsFair first (commands.stop_if b s)
  fair-stop_if true s k = fair-stop s k
  fair-stop_if false s k = k

  fair-plays_whole : (s new : Player) → commands.PlaysWhole s new → IsFair first s → IsFair first new
  fair-plays_whole s new e k =
      subst (IsFair first) (sym e.2) (fair-stop_if (commands.is_busy 0 e.0) e.0 (fair-finishes 0 s e.0 e.1 k))

  fair-go_once : (busy waits : Bool) (p : ℕ) (s : Player) → IsFair first s → IsFair first (commands.go busy waits p s)
  fair-go_once true true p s k = fair-ended word.Go Waits s k
  fair-go_once true false p s k = fair-turn p s k
  fair-go_once false true p s k = fair-ended word.Go NotPossible s k
  fair-go_once false false p s k = fair-ended word.Go NotPossible s k

  fair-wait_if : (b : Bool) (s : Player) → IsFair first s → IsFair first (commands.wait_if b s)
  fair-wait_if true s k = fair-ended word.Finish Waits s k
  fair-wait_if false s k = k

  fair-plays_finish : (b : Bool) (p : ℕ) (s new : Player) → commands.PlaysFinish b p s new → IsFair first s →
      IsFair first new
  fair-plays_finish true p s new e k =
      subst (IsFair first) (sym e.2) (fair-wait_if (commands.is_busy p e.0) e.0 (fair-finishes p s e.0 e.1 k))
  fair-plays_finish false p s new e k = subst (IsFair first) (sym e) (fair-ended word.Finish NotPossible s k)

  fair-plays : (at : ℕ) (c : Command) (s new : Player) → commands.Plays at c s new → IsFair first s → IsFair first new
  fair-plays at (command.Whole r) s new e k = fair-plays_whole (commands.begin 0 at r.plain (word_of r.plain) s) new e
      (fair-begin 0 at r.plain (word_of r.plain) s k)
  fair-plays at (command.Begin p r) s new e k = subst (IsFair first) (sym e) (fair-begin p at r.plain word.Begin s k)
  fair-plays at (command.Go p) s new e k = subst (IsFair first) (sym e)
      (fair-go_once (commands.is_busy p s) (commands.would_wait p s) p s k)
  fair-plays at (command.Finish p) s new e k = fair-plays_finish (commands.is_busy p s) p s new e k

  fair-plays_unless : (b : Bool) (at : ℕ) (c : Command) (s new : Player) → commands.PlaysUnless b at c s new →
      IsFair first s → IsFair first new
  fair-plays_unless true at c s new e k = subst (IsFair first) (sym e) k
  fair-plays_unless false at c s new e k = fair-plays at c s new e k

  fair-plays_all : (at : ℕ) (cs : List Command) (s new : Player) → commands.PlaysAll at cs s new → IsFair first s →
      IsFair first new
  fair-plays_all at [] s new e k = subst (IsFair first) (sym e) k
  fair-plays_all at (c ∷ cs) s new e k = fair-plays_all (suc at) cs e.0 new e.2
      (fair-plays_unless s.stopped at c s e.0 e.1 k)
  -- a whole script

pub fair : ((m : Machine) (t : Step) → IsContinued m.world.trace (steps.stepped m (steps.step m t)).world.trace) →
    (limit : ℕ) (is_static : Bool) (cs : List Command) (new : Player) →
    commands.PlaysAll 0 cs (play.start cs limit is_static) new →
    IsFair (steps.start limit (kind_of is_static) 10) new
fair continues limit is_static cs new e =
    fair-plays_all continues (steps.start limit (kind_of is_static) 10) 0 cs (play.start cs limit is_static) new e
    (refl, refl)
