-- A tick that finds nothing lies down.
use Rattle.std.proofs.Common.{◌≡◌, ℕ, ◌<◌, true, false}
use Rattle.std.proofs.Common.{List, ◌∷◌, length, Option}
use Rattle.std.proofs.Common.{if◌then◌else◌, refl, sym, ap, subst, ◌∙◌, arith}
use Rattle.executor_parts.specs.declared.mark.Mark.{Mark}
use Rattle.executor_parts.specs.declared.mark.Mark.TheVariants.{Plain as PlainMark, Urgent}
use Rattle.executor_parts.specs.Marks.{first_of}
use Rattle.executor_model.specs.declared.call.By.{By}
use Rattle.executor_model.specs.declared.call.Call.TheVariants as call
use Rattle.executor_model.specs.declared.call.Reply.TheVariants as reply
use Rattle.executor_model.specs.declared.event.Event.TheVariants as event
use Rattle.executor_model.specs.declared.op.Hold.TheVariants as hold
use Rattle.executor_model.specs.declared.op.Look.TheVariants as look
use Rattle.executor_model.specs.declared.op.Op.{Op}
use Rattle.executor_model.specs.declared.op.Op.TheVariants as op
use Rattle.executor_model.specs.declared.op.Sleeping.{Sleeping}
use Rattle.executor_model.specs.declared.op.TickOp.TheVariants as tick_op
use Rattle.executor_model.specs.declared.op.TickOrRun.{TickOrRun}
use Rattle.executor_model.specs.declared.op.TickOrRun.TheVariants as tick_or_run
use Rattle.executor_model.specs.declared.op.Waker.{Waker}
use Rattle.executor_model.specs.declared.step.Hint.{Hint}
use Rattle.executor_model.specs.Acts.{turned}
use Rattle.executor_model.specs.Steps.{waker_of}
use Rattle.executor_model.specs.World.{Done, World, done, log}
use Rattle.plain_scheduler.specs.State.{ATick, Choice, Due, Later, Plain, Refusal, Tick}
use Rattle.plain_scheduler.specs.Lists.{any}
use Rattle.plain_scheduler.specs.Moves.{is_common}
use Rattle.plain_scheduler.specs.Takes as plain_takes
use Rattle.plain_scheduler.specs.Turns.{tick_turns}
use Rattle.plain_scheduler.specs.Usual.{vain_turns}
use Rattle.plain_scheduler.specs.Calls.{does, PollTick}
use Rattle.machine_roads.specs.View.{Output, wakes}
use Rattle.machine_roads.specs.Road.{Follows}
use Rattle.machine_roads.specs.Alone.{alone, is_resting, HasAll}
use Rattle.machine_roads.specs.Ticking.{CanPoll, TickIsPolledAlike, polling}
use Rattle.machine_roads.specs.Refused.{OneMoreLies}
use Rattle.machine_roads.specs.Turning.{TakesTurns}
use Rattle.machine_roads.proofs.Bedding.{Goes, Idles, lies_down_so}
use Rattle.machine_roads.proofs.Changing.{logs}
use Rattle.machine_roads.proofs.Copying.{copied_can}
use Rattle.machine_roads.proofs.Standing.{Answered, Behind, Stands, StandsSo, stops_so}
use Rattle.machine_roads.proofs.Stepping.{Way, next}
use Rattle.machine_roads.proofs.TickPolls.{Comes, ComesTo, searches, searches_none, sleepy}
use Rattle.machine_roads.proofs.Unseen.{turns}

module _ (p : ℕ) (below : List Op) (under : is_resting below ≡ true) (end : Done) (rests : is_resting end.next ≡ true) (c : Choice)
    (t : ℕ) (a : Waker) (k : ℕ) where
  abbrev it : TickOrRun
  it = tick_or_run.Tick t

  abbrev s : Sleeping
  s = sleepy p below under end rests c t a k

  -- nothing without a keeper is due
  abbrev IsQuiet : List Due → Type 0
  IsQuiet due = (m : Mark) → any (is_common m) due ≡ false

  finds_none : (w : World) (q : Plain Output Waker) → Follows w q → IsQuiet q.due → Way p end w (op.Tick (tick_op.Search s) ∷ below)
      → Idles p below under end rests c it a k w q
  finds_none w q follows quiet way =
      let v = turned p w in
      record {
        world = v;
        follows =
            logs (record w { urgent_turns = v.urgent_turns }) q (turns v.urgent_turns w q follows)
            (event.Looked p (first_of w.urgent_turns)) refl;
        place = refl;
        wakers = refl;
        took = record { turn = refl; counted = λ k. refl; listed = refl };
        way = searches_none p below under end rests c t a k w q follows quiet way;
      }

  -- it is answered
  comes : (q new : Plain Output Waker) → Goes p below under end rests c it a k q new → Comes p below under end rests c t a q new
  comes q new g =
      let final = op.End reply.Ready (hold.Tick t) in
      record {
        stands =
            subst (λ codes. Stands (Tick t a) final below q.inside end.world end.next codes) (sym g.inside)
            (subst (λ os. Stands (Tick t a) final below q.inside end.world os q.inside) (sym g.next) (Behind below q.inside Answered));
        follows = g.follows;
      }

  lies_down : (early w : World) (q : Plain Output Waker) → TakesTurns 1 early w → Follows w q → length q.lying < c.tells → CanPoll w t
      → IsQuiet q.due → Way p end w (op.Tick (tick_op.CopyWaker s) ∷ below)
      → ComesTo p below under end rests c t a early q (λ r. plain_takes.rests wakes c r (ATick t) a q)
  lies_down early w q took follows room can quiet way =
      let still = copied_can a w t can in
      let g =
      lies_down_so p below under end rests c it a k IsQuiet finds_none early w q follows room
      (λ none. record { living = still.living; roomed = still.roomed }) quiet took way in (
        g.0,
        comes q (plain_takes.rests wakes c g.0 (ATick t) a q) g.1,
        g.2,
        subst (λ n. TakesTurns n early end.world)
            (sym
            (ap (λ b. if b then 1 else (if any (is_common Urgent) q.due then 1 else vain_turns g.0 (ATick t) q.lying)) (quiet PlainMark)
            ∙ ap (λ b. if b then 1 else vain_turns g.0 (ATick t) q.lying) (quiet Urgent))) g.3,
      )

pub polls_tick_so : (p : ℕ) (here : Option Waker) (below : List Op) (w : World) (q : Plain Output Waker) → is_resting below ≡ true
    → Follows w q → (c : Choice) (t : ℕ) (b : By) → c.first ≡ first_of w.urgent_turns → length q.lying < c.tells → CanPoll w t
    → (hints : List Hint) → HasAll p hints (polling p here below w q t b)
    → is_resting (alone p hints (polling p here below w q t b)).next ≡ true
    → (r : Refusal) × StandsSo (Tick t (waker_of here b)) (op.End reply.Ready (hold.Tick t)) below q
    (alone p hints (polling p here below w q t b)) (does wakes (record c { refusal = r }) (PollTick t (waker_of here b)) q)
    × (r ≡ Later → OneMoreLies q (does wakes (record c { refusal = r }) (PollTick t (waker_of here b)) q))
    × TakesTurns (tick_turns r t q) w (alone p hints (polling p here below w q t b)).world
polls_tick_so p here below w q under follows c t b first room can hints has rests =
    let a = waker_of here b in
    let begun = event.CallBegun p (call.PollTick t b) in
    let polled = event.TickPolled p t in
    let w0 = log (log w begun) polled in
    let k = length (log w begun).trace in
    let s : Sleeping = record { waker = a; who = tick_or_run.Tick t; poll = k } in
    let end = alone p hints (done w0 (op.Tick (tick_op.Search s) ∷ below)) in
    let start : Way p end w0 (op.Tick (tick_op.Search s) ∷ below) = record { hints = hints; has = has; is = refl } in
    let one = next p end rests (op.Tick (tick_op.Search s)) w0 below refl start in
    let w1 = turned p w0 in
    let follows0 : Follows w0 q = logs (log w begun) q (logs w q follows begun refl) polled refl in
    let follows1 : Follows w1 q =
    logs (record w0 { urgent_turns = w1.urgent_turns }) q (turns w1.urgent_turns w0 q follows0)
    (event.Looked p (first_of w.urgent_turns)) refl in
    let took : TakesTurns 1 w w1 = record { turn = refl; counted = λ k. refl; listed = refl } in
    searches p below under end rests c t a k w w1 q took (omega (arith, room)) follows1
    (λ quiet way.
    lies_down p below under end rests c t a k w w1 q took follows1 room
    (record { living = can.living; roomed = can.roomed }) quiet way)
    (subst (λ m. Way p end w1 (op.Tick (tick_op.Look s (look.First m)) ∷ below)) (sym first) one.way)

pub polls_tick : (p : ℕ) (here : Option Waker) (below : List Op) (w : World) (q : Plain Output Waker) → is_resting below ≡ true
    → Follows w q → TickIsPolledAlike p here below w q
polls_tick p here below w q under follows c t b first room can hints has rests =
    let so = polls_tick_so p here below w q under follows c t b first room can hints has rests in
    let a = waker_of here b in (
      so.0,
      so.3,
      stops_so (Tick t a) (op.End reply.Ready (hold.Tick t)) below q (alone p hints (polling p here below w q t b))
          (does wakes (record c { refusal = so.0 }) (PollTick t a) q) so.1,
    )
