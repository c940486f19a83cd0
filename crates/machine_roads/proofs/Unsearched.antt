-- Calls in which no run searches, and the ends of such drops: nothing is counted, and only tries and polls of ticks take turns.
use Rattle.std.proofs.Common.{◌≡◌, ℕ, ◌++◌, Bool, true, false, List, ◌∷◌, Option, None, refl, sym, ap, ◌∙◌}
use Rattle.executor_parts.specs.Marks.{turn_after}
use Rattle.executor_model.specs.declared.call.Call.{Call}
use Rattle.executor_model.specs.declared.call.Call.TheVariants as call
use Rattle.executor_model.specs.declared.op.Op.{Op}
use Rattle.executor_model.specs.declared.op.Waker.{Waker}
use Rattle.executor_model.specs.declared.event.Event.TheVariants as event
use Rattle.executor_model.specs.declared.step.Hint.{Hint}
use Rattle.executor_model.specs.declared.step.Step.{Step}
use Rattle.executor_model.specs.Steps.{Machine, begun, is_on_executor}
use Rattle.executor_model.specs.World.{World, done, log}
use Rattle.plain_scheduler.specs.State.{Choice, Code, Lose, Plain}
use Rattle.plain_scheduler.specs.Calls as plain
use Rattle.plain_scheduler.specs.Searches.{searches, searches_inside}
use Rattle.plain_scheduler.specs.Turns.{tick_turns, turns_of}
use Rattle.plain_scheduler.specs.Usual.{turned}
use Rattle.machine_roads.specs.View.{Output, wakes}
use Rattle.machine_roads.specs.Alone.{alone, is_resting}
use Rattle.machine_roads.specs.Alike.{begins, upon}
use Rattle.machine_roads.specs.Losing.{left_of}
use Rattle.machine_roads.specs.Within as within
use Rattle.machine_roads.specs.Within.{ActsBy, IsCallIn}
use Rattle.machine_roads.proofs.AloneKeeps.{due, due_push, due_resting}
use Rattle.machine_roads.proofs.Chosen.{ChoosesAnyhow, inside_none, looks_first, none_so, still_so, unsought_turns}
use Rattle.machine_roads.proofs.Counted.{alone_counts, begins_count, begins_counts, counts}
use Rattle.machine_roads.proofs.Seeking.{alone_turn, begins_none, begins_turn, is_still, seeks}

-- so it acts, from whatever starting word
abbrev pub ActsAnyhow : Machine → ℕ → Step → Plain Output Waker → Plain Output Waker → World → Type 0
ActsAnyhow s p t q r v = (start : ℕ) → ActsBy s p t q r v start

abbrev pub takes_turn : Call → Bool
takes_turn call.TryTick = true
takes_turn (call.PollTick t b) = true
takes_turn c = false

off_takes : (c : Call) → is_on_executor c ≡ false → takes_turn c ≡ false
off_takes call.TryTick off = absurd cc
off_takes (call.PollTick t b) off = absurd cc
off_takes c off = refl

module _ (here : Option Waker) (w : World) (d : Choice) (q : Plain Output Waker) where
  begun_none : (c : Call) (x : plain.Call Output Waker) → IsCallIn here w c x → searches wakes d x q ≡ None
  begun_none c x (within.spawn m) = inside_none d x q (λ code q. refl) q.inside
  begun_none c x is = inside_none d x q (λ code q. refl) q.inside

  -- so a try and a tick's poll leave the turn
  abbrev pub TurnSaid : Call → World → Type 0
  TurnSaid call.TryTick v = v.urgent_turns ≡ turn_after w.urgent_turns
  TurnSaid (call.PollTick t b) v = v.urgent_turns ≡ turned (tick_turns d.refusal t q) w.urgent_turns
  TurnSaid c v = Unit {0}

  pub unsaid : (c : Call) → takes_turn c ≡ false → (v : World) → TurnSaid c v
  unsaid call.TryTick off v = absurd cc
  unsaid (call.PollTick t b) off v = absurd cc
  unsaid c off v = tt

  -- and another call leaves it as it is
  module _ (p : ℕ) (hints : List Hint) (c : Call) (below : List Op) (under : is_resting below ≡ true) (asks : Option Waker) where
    abbrev pub called : World
    called = (alone p hints (upon below (begins p asks c w))).world

    abbrev logged : World
    logged = log w (event.CallBegun p c)

    turn_stays : is_still c ≡ true → called.urgent_turns ≡ w.urgent_turns
    turn_stays still =
        let b = begun p logged asks c in
        alone_turn p hints b.world (b.next ++ below)
        (due_push seeks b.next below (begins_none p logged asks c still) (due_resting seeks below under)) ∙ begins_turn p logged asks c

    other : (x : plain.Call Output Waker) → IsCallIn here w c x → looks_first x ≡ false → is_still c ≡ true
        → called.urgent_turns ≡ turned (turns_of wakes d x q) w.urgent_turns
    other x is off still =
        turn_stays still ∙ ap (λ n. turned n w.urgent_turns) (sym (unsought_turns d q x off (begun_none c x is)))

  turns_so : (p : ℕ) (hints : List Hint) (c : Call) (below : List Op) (under : is_resting below ≡ true) (x : plain.Call Output Waker)
      → IsCallIn here w c x → (asks : Option Waker) → TurnSaid c (called p hints c below under asks)
      → (called p hints c below under asks).urgent_turns ≡ turned (turns_of wakes d x q) w.urgent_turns
  turns_so p hints c below under x within.try_tick asks said = said
  turns_so p hints c below under x (within.poll_tick t b) asks said = said
  turns_so p hints c below under x is asks said = other p hints c below under asks x is refl refl

  -- a call that begins
  pub begun_so : (p : ℕ) (hints : List Hint) (c : Call) (below : List Op) (under : is_resting below ≡ true) (x : plain.Call Output Waker)
      → IsCallIn here w c x → (asks : Option Waker) → TurnSaid c (called p hints c below under asks)
      → ChoosesAnyhow w (called p hints c below under asks) x q d
  begun_so p hints c below under x is asks said =
      let v = log w (event.CallBegun p c) in
      let b = begun p v asks c in
      none_so w (called p hints c below under asks) x q d (begun_none c x is)
      (λ k. alone_counts p hints b.world (b.next ++ below)
      (due_push counts b.next below (begins_counts p v asks c) (due_resting counts below under)) k ∙ begins_count p v asks c k)
      (turns_so p hints c below under x is asks said)

  -- and one that isn't on the executor
  pub off_so : (p : ℕ) (hints : List Hint) (c : Call) → is_on_executor c ≡ false → (below : List Op) (under : is_resting below ≡ true)
      (x : plain.Call Output Waker) → IsCallIn here w c x → (asks : Option Waker)
      → ChoosesAnyhow w (called p hints c below under asks) x q d
  off_so p hints c off below under x is asks =
      begun_so p hints c below under x is asks (unsaid c (off_takes c off) (called p hints c below under asks))

-- the end of other code
pub ended_so : (p : ℕ) (hints : List Hint) (w : World) (os : List Op) → due counts os ≡ 0 → due seeks os ≡ 0 → (d : Choice)
    (q : Plain Output Waker) → searches wakes d plain.Ends q ≡ None → ChoosesAnyhow w (alone p hints (done w os)).world plain.Ends q d
ended_so p hints w os uncounting light d q none =
    still_so w (alone p hints (done w os)).world plain.Ends q d refl none (alone_counts p hints w os uncounting)
    (alone_turn p hints w os light)

-- the end of an output's drop that isn't that of a future that somebody took
pub loss_so : (p : ℕ) (hints : List Hint) (w : World) (f : ℕ) (below : List Op) → is_resting below ≡ true → (d : Choice)
    (q : Plain Output Waker) (awaiter : Option Waker) (codes : List (Code Output Waker)) → q.inside ≡ Lose awaiter None ∷ codes
    → ChoosesAnyhow w (alone p hints (done w (left_of f ++ below))).world plain.Ends q d
loss_so p hints w f below under d q awaiter codes at =
    ended_so p hints w (left_of f ++ below) (due_push counts (left_of f) below refl (due_resting counts below under))
    (due_push seeks (left_of f) below refl (due_resting seeks below under)) d q
    (ap (λ codes. searches_inside wakes d plain.Ends codes q) at)
