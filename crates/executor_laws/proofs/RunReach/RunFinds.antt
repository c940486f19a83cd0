-- For runs_reach_futures, kept_futures_are_in_reach and dropped_runs_leave_common_futures.
-- What a run has found it takes up next, behind what is still to be stolen and who is to be told.
use Rattle.std.proofs.Common.{◌≡◌, ◌⊎◌, ◌∙◌, ℕ, zero, suc, List, [], ◌∷◌, ◌++◌, Bool, true, false, inl, inr, refl, sym, ap, subst}
use Rattle.std.proofs.Common.{append-nil, append_assoc, arith}
use Rattle.std.proofs.lemmas.List.{reverse-append}
use Rattle.std.specs.Prelude.{Some, None, reverse}
use Rattle.executor_laws.proofs.Types.{Move, Plain, Urgent, Event, Op, RunOp, RunPoll, TickOrRun, SleeperOp, Source, Common, Own}
use Rattle.executor_laws.proofs.Types.{Steal, StealOp, Then, TickOp}
use Rattle.executor_model.specs.{ActsOfRuns.asleep, ActsOfRuns.behind, ActsOfRuns.counted_by, ActsOfRuns.counted_to, ActsOfRuns.found}
use Rattle.executor_model.specs.{ActsOfRuns.kept_by, ActsOfRuns.put_refused, ActsOfRuns.run_by, ActsOfRuns.run_found, ActsOfRuns.steal_by}
use Rattle.executor_model.specs.{ActsOfRuns.steal_length_by, ActsOfRuns.steal_put_by, ActsOfRuns.steal_take_by, ActsOfRuns.stolen}
use Rattle.executor_model.specs.{ActsOfRuns.without_first, ActsOfSleepers.found_by, Doing.steal_act, Steps.end_of, Steps.top, Trace.Trace}
use Rattle.executor_model.specs.{Weights.weigh, World.Done, World.Left, World.Asleep, World.Ticker, World.Awake, World.World, World.done}
use Rattle.executor_model.proofs.{Steps.Lists.weigh-append, Steps.Lists.weigh-reverse, Table.Spawning.top-last}
use Rattle.executor_laws.proofs.{Reach.LoneMoves.stray_of, Reach.LoneSteps.Last, Reach.LoneSteps.from-end}

-- the steal ends with f in hand
abbrev pub Finds : ℕ → Then → Type 0
Finds f (Then.Found g) = f ≡ g
Finds f (Then.StealPlain g) = f ≡ g
Finds f (Then.Run g) = f ≡ g
Finds f (Then.Walk at left) = ⊥

abbrev pub Steals : ℕ → StealOp → Type 0
Steals f (StealOp.Length s) = Finds f s.then
Steals f (StealOp.OwnLength s n) = Finds f s.then
Steals f (StealOp.Take s more) = Finds f s.then
Steals f (StealOp.Put s more g) = Finds f s.then

-- what is left to do, its last thing on top: f is in the hand of a steal, or to be taken up
pub data Heading (f : ℕ) (os : List Op) : Type 0 where
  stealing : (o : StealOp) (side : List Op) → os ≡ Op.Steal o ∷ side → Steals f o → weigh stray_of side ≡ 0 →
      Heading f os
  taking : (c : Op) (side : List Op) → os ≡ c ∷ Op.Move Move.TakeUp f ∷ side → weigh stray_of side ≡ 0 → Heading f os

-- and the trace is longer by this
pub record Heads (f : ℕ) (t : Trace) (g : Bool) (d : Done) : Type 0 where
  pub heading : Heading f (reverse d.next)
  pub events : Trace
  pub trace : d.world.trace ≡ t ++ events
  pub there : d.world.gone ≡ g

-- what comes first is done first
heading-behind : (f : ℕ) (ops next : List Op) → weigh stray_of ops ≡ 0 → Heading f (reverse next) →
    Heading f (reverse (ops ++ next))
heading-behind f ops next z (stealing o side e k y) =
    stealing o (side ++ reverse ops)
    (reverse-append ops next ∙ ap (λ (os : List Op). os ++ reverse ops) e) k
    (omega (arith, y, z, weigh-append stray_of side (reverse ops), weigh-reverse stray_of ops))
heading-behind f ops next z (taking c side e y) =
    taking c (side ++ reverse ops)
    (reverse-append ops next ∙ ap (λ (os : List Op). os ++ reverse ops) e)
    (omega (arith, y, z, weigh-append stray_of side (reverse ops), weigh-reverse stray_of ops))

heads-behind : (f : ℕ) (t : Trace) (g : Bool) (ops : List Op) (d : Done) → weigh stray_of ops ≡ 0 → Heads f t g d →
    Heads f t g (behind ops d)
heads-behind f t g ops d z h = record {
  heading = heading-behind f ops d.next z h.heading;
  events = h.events;
  trace = h.trace;
  there = h.there;
}

-- more happened before
heads-after : (f : ℕ) (t es : Trace) (g : Bool) (d : Done) → Heads f (t ++ es) g d → Heads f t g d
heads-after f t es g d h = record {
  heading = h.heading;
  events = es ++ h.events;
  trace = h.trace ∙ append_assoc t es h.events;
  there = h.there;
}

-- it is run

heads-run_by : (f : ℕ) (b : Bool) (w : World) (x : RunPoll) → Heads f w.trace w.gone (run_by b w x f)
heads-run_by f true w x = record {
  heading = taking (Op.Run (RunOp.WakeOwn x)) [] refl refl;
  events = [];
  trace = sym (append-nil w.trace);
  there = refl;
}
heads-run_by f false w x = record {
  heading = taking (Op.Tick (TickOp.Search (asleep x))) [] refl refl;
  events = [];
  trace = sym (append-nil w.trace);
  there = refl;
}

heads-run_found : (f : ℕ) (w : World) (x : RunPoll) → Heads f w.trace w.gone (run_found w x f)
heads-run_found f w x = heads-run_by f _ w x

heads-counted_by : (f : ℕ) (b : Bool) (w : World) (x : RunPoll) → Heads f w.trace w.gone (counted_by b w x f)
heads-counted_by f true w x = record {
  heading = stealing (StealOp.Length (record { poll = x; from = Common Urgent; then = Then.StealPlain f })) [] refl refl refl;
  events = [];
  trace = sym (append-nil w.trace);
  there = refl;
}
heads-counted_by f false w x = heads-run_found f (counted_to w x.run _) x

found-light : (x : Ticker) (who : TickOrRun) → weigh stray_of (found_by x who (Op.Sleeper SleeperOp.ExchangeFlag ∷ [])) ≡ 0
found-light Awake who = refl
found-light (Asleep n) who = refl
found-light Left who = refl

pub heads-found : (f : ℕ) (w : World) (x : RunPoll) → Heads f w.trace w.gone (found w x f)
heads-found f w x =
    heads-behind f w.trace w.gone (found_by _ (TickOrRun.Run x.run) (Op.Sleeper SleeperOp.ExchangeFlag ∷ []))
    (counted_by _ w x f) (found-light _ (TickOrRun.Run x.run)) (heads-counted_by f _ w x)

-- a steal goes on

heads-stolen : (f : ℕ) (h : Then) (w : World) (x : RunPoll) → Finds f h → Heads f w.trace w.gone (stolen h w x)
heads-stolen f (Then.Found g) w x k = subst (λ (n : ℕ). Heads f w.trace w.gone (found w x n)) k (heads-found f w x)
heads-stolen f (Then.StealPlain g) w x k = record {
  heading = stealing (StealOp.Length (record { poll = x; from = Common Plain; then = Then.Run g })) [] refl k refl;
  events = [];
  trace = sym (append-nil w.trace);
  there = refl;
}
heads-stolen f (Then.Run g) w x k =
    subst (λ (n : ℕ). Heads f w.trace w.gone (run_found w x n)) k (heads-run_found f w x)
heads-stolen f (Then.Walk at left) w x k = absurd k

heads-steals : (f : ℕ) (t : Trace) (g : Bool) (v : World) (o : StealOp) → v.trace ≡ t → v.gone ≡ g → Steals f o →
    Heads f t g (done v (Op.Steal o ∷ []))
heads-steals f t g v o e y k = record {
  heading = stealing o [] refl k refl;
  events = [];
  trace = e ∙ sym (append-nil t);
  there = y;
}

heads-length : (f n : ℕ) (w : World) (s : Steal) → Finds f s.then → Heads f w.trace w.gone (steal_length_by n w s)
heads-length f zero w s k = heads-stolen f s.then w s.poll k
heads-length f (suc n) w s k = heads-steals f w.trace w.gone w (StealOp.OwnLength s (suc n)) refl refl k

heads-steal_by : (f n : ℕ) (w : World) (s : Steal) → Finds f s.then → Heads f w.trace w.gone (steal_by n w s)
heads-steal_by f zero w s k = heads-stolen f s.then w s.poll k
heads-steal_by f (suc n) w s k = heads-steals f w.trace w.gone w (StealOp.Take s n) refl refl k

without-trace : (x : Source) (w : World) (rest : List ℕ) → (without_first w x rest).trace ≡ w.trace
without-trace (Common mark) w rest = refl
without-trace (Own r) w rest = refl

pub without-gone : (x : Source) (w : World) (rest : List ℕ) → (without_first w x rest).gone ≡ w.gone
without-gone (Common mark) w rest = refl
without-gone (Own r) w rest = refl

heads-take : (f : ℕ) (xs : List ℕ) (w : World) (s : Steal) (more : ℕ) → Finds f s.then →
    Heads f w.trace w.gone (steal_take_by xs w s more)
heads-take f [] w s more k = heads-stolen f s.then w s.poll k
heads-take f (g ∷ rest) w s more k =
    heads-steals f w.trace w.gone (without_first w s.from rest) (StealOp.Put s more g) (without-trace s.from w rest)
    (without-gone s.from w rest) k

heads-refused : (f : ℕ) (h : Then) (w : World) (x : RunPoll) (g : ℕ) → Finds f h → Heads f w.trace w.gone (put_refused h w x g)
heads-refused f (Then.Walk at left) w x g k = absurd k
heads-refused f h w x g k =
    heads-behind f w.trace w.gone (Op.Move Move.DropRunnable g ∷ []) (stolen h w x) refl (heads-stolen f h w x k)

heads-put : (f : ℕ) (b : Bool) (p : ℕ) (w : World) (s : Steal) (more g : ℕ) → Finds f s.then →
    Heads f w.trace w.gone (steal_put_by b p w s more g)
heads-put f true p w s more g k =
    heads-after f w.trace (Event.Kept p g s.poll.run ∷ []) w.gone (steal_by more (kept_by p w s.poll.run g) s)
    (heads-steal_by f more (kept_by p w s.poll.run g) s k)
heads-put f false p w s more g k = heads-refused f s.then w s.poll g k

pub heads-steal : (f p : ℕ) (o : StealOp) (w : World) → Steals f o → Heads f w.trace w.gone (steal_act p o w)
heads-steal f p (StealOp.Length s) w k = heads-length f _ w s k
heads-steal f p (StealOp.OwnLength s n) w k = heads-steal_by f _ w s k
heads-steal f p (StealOp.Take s more) w k = heads-take f _ w s more k
heads-steal f p (StealOp.Put s more g) w k = heads-put f _ p w s more g k

-- what is on top answers no call

pub light-no-end : (o : Op) → stray_of o ≡ 0 → end_of (Some o) ≡ None
light-no-end (Op.End a held) e = absurd (omega (arith, e))
light-no-end _ e = refl

pub top-of : (below side : List Op) → end_of (top below) ≡ None → weigh stray_of side ≡ 0 →
    end_of (top (below ++ side)) ≡ None
top-of below side e z = go (from-end side)
  where
    go : (side ≡ []) ⊎ Last side → end_of (top (below ++ side)) ≡ None
    go (inl x) = ap (λ (os : List Op). end_of (top (below ++ os))) x
        ∙ (ap (λ (os : List Op). end_of (top os)) (append-nil below) ∙ e)
    go (inr l) = ap (λ (os : List Op). end_of (top (below ++ os))) l.is
        ∙ (ap (λ (os : List Op). end_of (top os)) (sym (append_assoc below l.below (l.last ∷ [])))
        ∙ (ap end_of (top-last (below ++ l.below) l.last)
        ∙ light-no-end l.last (omega (
          arith,
          z,
          ap (weigh stray_of) l.is,
          weigh-append stray_of l.below (l.last ∷ []),
        ))))

pub no-end : (f : ℕ) (os : List Op) → Heading f os → end_of (top os) ≡ None
no-end f os (stealing o side e k z) =
    ap (λ (xs : List Op). end_of (top xs)) e ∙ top-of (Op.Steal o ∷ []) side refl z
no-end f os (taking c side e z) =
    ap (λ (xs : List Op). end_of (top xs)) e ∙ top-of (c ∷ Op.Move Move.TakeUp f ∷ []) side refl z
