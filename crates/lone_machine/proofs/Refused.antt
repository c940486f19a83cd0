-- An act of a call that asks for memory before it does anything else, and is refused it.
use Rattle.std.proofs.Common.{◌≡◌, ℕ, ◌<◌, ◌&&◌, ◌++◌, not, Bool, true, false, if◌then◌else◌, List, [], ◌∷◌, length}
use Rattle.std.proofs.Common.{Option, None, Ok, refl, sym, ap, subst, ◌∙◌, get_or-set_same}
use Rattle.std.specs.Prelude.{reverse}
use Rattle.task_moves.specs.Moves as moves
use Rattle.executor_model.specs.declared.call.Call.{Call as MachineCall}
use Rattle.executor_model.specs.declared.call.Reply.TheVariants as reply
use Rattle.executor_model.specs.declared.event.Event.TheVariants as event
use Rattle.executor_model.specs.declared.op.HandleOp.TheVariants as handle_op
use Rattle.executor_model.specs.declared.op.Hold.{Hold}
use Rattle.executor_model.specs.declared.op.Hold.TheVariants as hold
use Rattle.executor_model.specs.declared.op.Op.{Op}
use Rattle.executor_model.specs.declared.op.Op.TheVariants as op
use Rattle.executor_model.specs.declared.op.RunOp.TheVariants as run_op
use Rattle.executor_model.specs.declared.op.TableOp.TheVariants as table_op
use Rattle.executor_model.specs.declared.op.TickOp.TheVariants as tick_op
use Rattle.executor_model.specs.declared.op.UserOp.TheVariants as user_op
use Rattle.executor_model.specs.declared.op.Waker.{Waker}
use Rattle.executor_model.specs.declared.op.Waker.TheVariants.{Outside, Task}
use Rattle.executor_model.specs.declared.op.WakerOp.TheVariants as waker_op
use Rattle.executor_model.specs.declared.step.Hint.{Hint}
use Rattle.executor_model.specs.declared.step.Step.{Step}
use Rattle.executor_model.specs.declared.step.Step.TheVariants.{Answer, Begin, Go}
use Rattle.executor_model.specs.declared.step.UserEnd.TheVariants.{Done as Over}
use Rattle.executor_model.specs.Acts.{copy_awaiter_by, enter_by, is_copy_refused, look_by, turned}
use Rattle.executor_model.specs.ActsOfSleepers.{copy_sleeper_by, look_tick_by}
use Rattle.executor_parts.specs.Marks.{first_of, other}
use Rattle.executor_model.specs.declared.op.Look.TheVariants as look
use Rattle.executor_model.specs.declared.op.Sleeping.{Sleeping}
use Rattle.executor_model.specs.declared.op.TickOrRun.TheVariants as tick_or_run
use Rattle.executor_model.specs.Doing.{act}
use Rattle.executor_model.specs.Executions.{run_all}
use Rattle.executor_model.specs.Steps.{Machine, after, begun, mine, onto, refusal, stack, top, waker_of, waits, with_future}
use Rattle.executor_model.specs.World.{Done, World, done, log, place_of, task}
use Rattle.executor_model.proofs.SpawnWants.Tops.{flipped}
use Rattle.executor_model.proofs.Steps.Reached.{run-first}
use Rattle.executor_laws.proofs.Termination.LoneEnds.{still-party}
use Rattle.machine_roads.specs.Alone.{is_outside, is_resting}
use Rattle.machine_roads.specs.View.{Output}
use Rattle.machine_roads.specs.Within.{IsCallIn, IsMade, begins, ends, gives, pends, calls_outside, goes_on, rests_after}
use Rattle.machine_roads.specs.Within.{copy, keep, new_run, new_tick, poll_handle, poll_tick, spawn}
use Rattle.machine_roads.specs.Within.{cancel, detach, drop_handle, drop_run, drop_tick, is_empty, leak, poll_run, release, try_tick}
use Rattle.machine_roads.specs.Within.{use_waker, wake, wake_self}
use Rattle.machine_roads.proofs.Acts.{no_go_resting}
use Rattle.machine_roads.proofs.LoneRuns.{both_true, made_is}
use Rattle.machine_roads.proofs.Tying.{ended, goes, none_of, settles, top_of}
use Rattle.plain_scheduler.specs.Calls.{Call}
use Rattle.lone_machine.specs.Commands.{AreTold}
use Rattle.lone_machine.specs.Wanting.{AsksFirst}

-- what refuses memory
abbrev pub no : Hint
no = record { refused = true; same = false; start = 0 }

abbrev pub unwilling : ℕ → Hint
unwilling n = no

-- it isn't the end of a call
abbrev IsNoEnd : ℕ → World → Op → Type 0
IsNoEnd p w o = (os : List Op) → ended p w (o ∷ os) ≡ done w (o ∷ os)

-- a thing to do asks for memory, or comes to what does, in this world
data Asks (p : ℕ) : World → Op → World → Type 0 where
  now : (w u : World) (o : Op) (held : Hold) → waits o ≡ false → IsNoEnd p w o
      → act p no o w ≡ done u (op.End reply.NoMemory held ∷ []) → Asks p w o u
  later : (w v u : World) (o x : Op) → waits o ≡ false → IsNoEnd p w o → act p no o w ≡ done v (x ∷ []) → Asks p v x u → Asks p w o u

no_end : (p : ℕ) (w u : World) (o : Op) → Asks p w o u → IsNoEnd p w o
no_end p w u o (now w' u' o' held goes un is) = un
no_end p w u o (later w' v u' o' x goes un is more) = un

goes_on_so : (p : ℕ) (w u : World) (o : Op) → Asks p w o u → waits o ≡ false
goes_on_so p w u o (now w' u' o' held goes un is) = goes
goes_on_so p w u o (later w' v u' o' x goes un is more) = goes

pub in_code : (o : Op) → waits o ≡ false → is_outside o ≡ false
in_code (op.User (user_op.CallOutside x)) is = absurd cc
in_code o is = refl

off : (a : Bool) → not a ≡ true → a ≡ false
off false is = refl
off true is = absurd cc

-- who rests takes no step
outside_none : (s : Machine) (p : ℕ) (os : List Op) → reverse (stack s p) ≡ os → is_resting os ≡ true
    → calls_outside (top (stack s p)) ≡ false
outside_none s p [] is resting = ap (λ xs. calls_outside (top xs)) (none_of (stack s p) is)
outside_none s p (o ∷ os) is resting =
    ap (λ x. calls_outside x) (top_of (stack s p) o os is).0
    ∙ off (is_outside o) (both_true (waits o) (not (is_outside o)) resting).1

nothing_more : (p : ℕ) (told : ℕ → Hint) (ts : List Step) (s new : Machine) → p < length s.parties → (os : List Op)
    → reverse (stack s p) ≡ os → is_resting os ≡ true → AreTold p told s ts → run_all ts s ≡ Ok new → s ≡ new
nothing_more p told [] s new there os is resting as_told made = made_is s new made
nothing_more p told (t ∷ ts) s new there os is resting as_told made =
    let none = outside_none s p os is resting in
    let step : t ≡ Go p (told 0) = as_told.0 ∙ ap (λ b. if b then Answer p Over else Go p (told 0)) none in
    absurd
    (no_go_resting s p there (told 0) os is resting (subst (λ t. refusal s t ≡ None) step (run-first t ts s new made).0))

-- it is refused, and the party rests
pub record IsRefused (p : ℕ) (w : World) (below : List Op) (new : Machine) : Type 0 where
  pub world : new.world ≡ log w (event.CallEnded p reply.NoMemory)
  pub todo : reverse (stack new p) ≡ below

refused_from : (p : ℕ) (w u : World) (o : Op) → Asks p w o u → (below : List Op) → is_resting below ≡ true → (ts : List Step)
    (s new : Machine) → p < length s.parties → s.world ≡ w → reverse (stack s p) ≡ o ∷ below → AreTold p unwilling s ts
    → rests_after p ts s ≡ true → run_all ts s ≡ Ok new → IsRefused p u below new
refused_from p w u o asks below resting [] s new there world is as_told rests made =
    let no_rest : (waits o && not (is_outside o)) ≡ true = sym (ap (λ xs. is_resting xs) is) ∙ rests in
    absurd (clash (goes_on_so p w u o asks) (both_true (waits o) (not (is_outside o)) no_rest).0)
  where
    clash : waits o ≡ false → waits o ≡ true → ⊥
    clash a b = cc
refused_from p w u o asks below resting (t ∷ ts) s new there world is as_told rests made =
    by asks
    (λ v x more. refused_from p v u x more below resting ts (after s (Go p no)) new (still-party p s (Go p no) there))
  where
    none : calls_outside (top (stack s p)) ≡ false
    none = ap (λ x. calls_outside x) (top_of (stack s p) o below is).0 ∙ in_code o (goes_on_so p w u o asks)

    step : t ≡ Go p no
    step = as_told.0 ∙ ap (λ b. if b then Answer p Over else Go p no) none

    told_on : AreTold p unwilling (after s (Go p no)) ts
    told_on = subst (λ t. AreTold p unwilling (after s t) ts) step as_told.1

    made_on : run_all ts (after s (Go p no)) ≡ Ok new
    made_on = subst (λ t. run_all ts (after s t) ≡ Ok new) step (run-first t ts s new made).1

    rests_on : rests_after p ts (after s (Go p no)) ≡ true
    rests_on = subst (λ t. rests_after p ts (after s t) ≡ true) step (both_true (goes_on p s t) (rests_after p ts (after s t)) rests).1

    by : Asks p w o u
        → ((v : World) (x : Op) → Asks p v x u → (after s (Go p no)).world ≡ v → reverse (stack (after s (Go p no)) p) ≡ x ∷ below
        → AreTold p unwilling (after s (Go p no)) ts → rests_after p ts (after s (Go p no)) ≡ true
        → run_all ts (after s (Go p no)) ≡ Ok new → IsRefused p u below new)
        → IsRefused p u below new
    by (now w' u' o' held going un e) on =
        let g = goes p s there o below is no in
        let so : act p no o s.world ≡ done u (op.End reply.NoMemory held ∷ []) = ap (λ v. act p no o v) world ∙ e in
        let todo : reverse (stack (after s (Go p no)) p) ≡ below =
        g.todo ∙ ap (λ (d : Done). (ended p d.world (d.next ++ below)).next) so in
        let same =
        nothing_more p unwilling ts (after s (Go p no)) new (still-party p s (Go p no) there) below todo resting told_on made_on in
        record {
          world =
              ap (λ (m : Machine). m.world) (sym same)
              ∙ (g.world ∙ ap (λ (d : Done). (ended p d.world (d.next ++ below)).world) so);
          todo = ap (λ (m : Machine). reverse (stack m p)) (sym same) ∙ todo;
        }
    by (later w' v u' o' x going un e more) on =
        let g = goes p s there o below is no in
        let so : act p no o s.world ≡ done v (x ∷ []) = ap (λ v. act p no o v) world ∙ e in
        let un = no_end p v u x more below in
        on v x more
        (g.world ∙ (ap (λ (d : Done). (ended p d.world (d.next ++ below)).world) so ∙ ap (λ (d : Done). d.world) un))
        (g.todo ∙ (ap (λ (d : Done). (ended p d.world (d.next ++ below)).next) so ∙ ap (λ (d : Done). d.next) un))
        told_on rests_on made_on

-- of which call this is so

record First (p : ℕ) (w : World) (here : Option Waker) (c : MachineCall) : Type 0 where
  op : Op
  world : World
  left : World
  is : begun p w here c ≡ done world (op ∷ [])
  asks : Asks p world op left
  sleepers : left.sleepers ≡ w.sleepers

awaiter_refused : (p : ℕ) (w : World) (f : ℕ) (a : Waker) → is_copy_refused no w a ≡ true
awaiter_refused p w f (Task g) = refl
awaiter_refused p w f (Outside x) = refl

first_asks : (s : Machine) (p : ℕ) (c : MachineCall) (x : Call Output Waker) → IsCallIn (mine (top (stack s p))) s.world c x
    → AsksFirst s.world c → First p (log s.world (event.CallBegun p c)) (mine (top (stack s p))) c
first_asks s p c x (spawn m) asks =
    let w = log s.world (event.CallBegun p c) in
    record {
      world = w;
      left = w;
      sleepers = refl;
      op = op.Table (table_op.Enter m);
      is = refl;
      asks =
          now w w (op.Table (table_op.Enter m)) hold.Executor refl (λ os. refl) (ap (λ b. enter_by (not b) true m p w) asks);
    }
first_asks s p c x (copy k f kept_so) asks =
    let w = log s.world (event.CallBegun p c) in
    record {
      world = w;
      left = w;
      sleepers = refl;
      op = op.Waker (waker_op.CopyWaker f (hold.Waker k));
      is = ap (λ o. with_future w o (λ f. done w (op.Waker (waker_op.CopyWaker f (hold.Waker k)) ∷ []))) kept_so;
      asks = now w w (op.Waker (waker_op.CopyWaker f (hold.Waker k))) (hold.Waker k) refl (λ os. refl) refl;
    }
first_asks s p c x (keep f its) asks =
    let w = log s.world (event.CallBegun p c) in
    record {
      world = w;
      left = w;
      sleepers = refl;
      op = op.Waker (waker_op.CopyWaker f hold.Nothing);
      is = ap (λ o. with_future w o (λ f. done w (op.Waker (waker_op.CopyWaker f hold.Nothing) ∷ []))) its;
      asks = now w w (op.Waker (waker_op.CopyWaker f hold.Nothing)) hold.Nothing refl (λ os. refl) refl;
    }
first_asks s p c x new_tick asks =
    let w = log s.world (event.CallBegun p c) in
    record {
      world = w;
      left = w;
      sleepers = refl;
      op = op.Tick tick_op.MakeTick;
      is = refl;
      asks = now w w (op.Tick tick_op.MakeTick) hold.Executor refl (λ os. refl) refl;
    }
first_asks s p c x new_run asks =
    let w = log s.world (event.CallBegun p c) in
    record {
      world = w;
      left = w;
      sleepers = refl;
      op = op.Run run_op.MakeRoom;
      is = refl;
      asks = now w w (op.Run run_op.MakeRoom) hold.Executor refl (λ os. refl) refl;
    }
first_asks s p c x (poll_handle f b) asks =
    let w = log s.world (event.CallBegun p c) in
    let a = waker_of (mine (top (stack s p))) b in
    record {
      world = w;
      left = w;
      sleepers = refl;
      op = op.Handle (handle_op.Look f a);
      is = refl;
      asks =
          later w w w (op.Handle (handle_op.Look f a)) (op.Handle (handle_op.CopyAwaiter f a)) refl (λ os. refl)
          (ap (λ o. look_by o p w f a (moves.poll (task w f))) asks)
          (now w w (op.Handle (handle_op.CopyAwaiter f a)) (hold.Handle f) refl (λ os. refl)
          (ap (λ b. copy_awaiter_by b p w f a) (awaiter_refused p w f a)));
    }
first_asks s p c x (poll_tick t b) none =
    let w = log (log s.world (event.CallBegun p c)) (event.TickPolled p t) in
    let a = waker_of (mine (top (stack s p))) b in
    let k : Sleeping = record { waker = a; who = tick_or_run.Tick t; poll = length (log s.world (event.CallBegun p c)).trace } in
    let v = turned p w in
    let m = first_of w.urgent_turns in
    let one = op.Tick (tick_op.Look k (look.First m)) in
    let two = op.Tick (tick_op.Look k (look.Second (other m))) in
    let copies = op.Tick (tick_op.CopyWaker k) in
    record {
      op = op.Tick (tick_op.Search k);
      world = w;
      left = v;
      is = refl;
      asks =
          later w v v (op.Tick (tick_op.Search k)) one refl (λ os. refl) refl
          (later v v v one two refl (λ os. refl)
          (ap (λ items. look_tick_by (place_of v (tick_or_run.Tick t)) v (look.First m) items k) (none m))
          (later v v v two copies refl (λ os. refl)
          (ap (λ items. look_tick_by (place_of v (tick_or_run.Tick t)) v (look.Second (other m)) items k) (none (other m)))
          (now v v copies (hold.Tick t) refl (λ os. refl) (ap (λ b. copy_sleeper_by b v k) (awaiter_refused p v t a)))));
      sleepers = refl;
    }
first_asks s p c x try_tick asks = absurd asks
first_asks s p c x is_empty asks = absurd asks
first_asks s p c x (use_waker k f is) asks = absurd asks
first_asks s p c x (wake k f is) asks = absurd asks
first_asks s p c x (release k f is) asks = absurd asks
first_asks s p c x (wake_self f is) asks = absurd asks
first_asks s p c x (cancel f) asks = absurd asks
first_asks s p c x (detach f) asks = absurd asks
first_asks s p c x (drop_handle f) asks = absurd asks
first_asks s p c x (drop_tick t) asks = absurd asks
first_asks s p c x (poll_run r b) asks = absurd asks
first_asks s p c x (drop_run r) asks = absurd asks
first_asks s p c x leak asks = absurd asks

call_in : (s : Machine) (p : ℕ) (c : MachineCall) (t : Step) (x : Call Output Waker) → IsMade s p t x → t ≡ Begin p c
    → IsCallIn (mine (top (stack s p))) s.world c x
call_in s p c t x (begins d y is) same =
    let its : d ≡ c = cc in subst (λ c. IsCallIn (mine (top (stack s p))) s.world c y) its is
call_in s p c t x pends same = absurd cc
call_in s p c t x gives same = absurd cc
call_in s p c t x ends same = absurd cc

-- and so it is in an act
pub record Leaves (p : ℕ) (s new : Machine) : Type 0 where
  pub world : World
  pub sleepers : world.sleepers ≡ s.world.sleepers
  pub refused : IsRefused p world (reverse (stack s p)) new

pub begun_refused : (s new : Machine) (p : ℕ) (c : MachineCall) (x : Call Output Waker) (ts : List Step) → p < length s.parties
    → is_resting (reverse (stack s p)) ≡ true → IsMade s p (Begin p c) x → AsksFirst s.world c
    → AreTold p unwilling (after s (Begin p c)) ts → rests_after p ts (after s (Begin p c)) ≡ true
    → run_all ts (after s (Begin p c)) ≡ Ok new → Leaves p s new
begun_refused s new p c x ts there resting made asks as_told rests ran =
    let w = log s.world (event.CallBegun p c) in
    let here = mine (top (stack s p)) in
    let first = first_asks s p c x (call_in s p c (Begin p c) x made refl) asks in
    let d : Done = begun p w here c in
    let below = reverse (stack s p) in
    let e = settles p d.world (stack s p ++ reverse d.next) (d.next ++ below) (flipped (stack s p) d.next) in
    let un = no_end p first.world first.left first.op first.asks below in
    let world : (after s (Begin p c)).world ≡ first.world =
    e.world ∙ (ap (λ (d : Done). (ended p d.world (d.next ++ below)).world) first.is ∙ ap (λ (d : Done). d.world) un) in
    let todo : reverse (stack (after s (Begin p c)) p) ≡ first.op ∷ below =
    ap (λ (ys : List Op). reverse ys) (get_or-set_same s.parties p (onto p d (stack s p)).todo [] there)
    ∙ (e.todo ∙ (ap (λ (d : Done). (ended p d.world (d.next ++ below)).next) first.is ∙ ap (λ (d : Done). d.next) un)) in
    record {
      world = first.left;
      sleepers = first.sleepers;
      refused =
          refused_from p first.world first.left first.op first.asks below resting ts (after s (Begin p c)) new
          (still-party p s (Begin p c) there) world todo as_told rests ran;
    }
