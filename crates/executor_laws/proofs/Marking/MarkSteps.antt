-- For one_turn_of_eight_is_plain and futures_are_marked_as_spawned.
-- What changes the count of turns and what was accepted: a turn counts one and names the queue that it looks at first, an entry
-- is told of, and what else changes a world keeps them.
use Rattle.std.proofs.Common.{◌≡◌, ℕ, List, [], ◌∷◌, ◌++◌, length, refl, ap, ◌∙◌, append-nil}
use Rattle.executor_parts.specs.Marks.{first_of, turn_after}
use Rattle.executor_laws.proofs.Types.{Mark, Event, Op, TableOp}
use Rattle.executor_model.specs.{Acts.turned, World.World, World.log, ClosingOrder.accepted_in, Trace.Trace}
use Rattle.executor_laws.specs.Looks.{looked}

pub looked-append : (xs ys : Trace) → looked (xs ++ ys) ≡ looked xs ++ looked ys
looked-append [] ys = refl
looked-append (Event.Looked p m ∷ xs) ys = ap (λ (ms : List Mark). m ∷ ms) (looked-append xs ys)
looked-append (_ ∷ xs) ys = looked-append xs ys

pub accepted-append : (xs ys : Trace) → accepted_in (xs ++ ys) ≡ accepted_in xs ++ accepted_in ys
accepted-append [] ys = refl
accepted-append (Event.Accepted p f ∷ xs) ys = ap (λ (fs : List ℕ). f ∷ fs) (accepted-append xs ys)
accepted-append (_ ∷ xs) ys = accepted-append xs ys

-- it is neither a turn nor an acceptance
abbrev pub IsOther : Event → Type 0
IsOther e = (looked (e ∷ []) ≡ []) × (accepted_in (e ∷ []) ≡ [])

pub record Keeps (w v : World) : Type 0 where
  pub turns : v.urgent_turns ≡ w.urgent_turns
  pub named : looked v.trace ≡ looked w.trace
  pub accepted : accepted_in v.trace ≡ accepted_in w.trace

pub keeps : (w v : World) → v.urgent_turns ≡ w.urgent_turns → v.trace ≡ w.trace → Keeps w v
keeps w v a d = record { turns = a; named = ap looked d; accepted = ap accepted_in d }

pub keeps-and : (w v u : World) → Keeps w v → Keeps v u → Keeps w u
keeps-and w v u a b = record {
  turns = b.turns ∙ a.turns;
  named = b.named ∙ a.named;
  accepted = b.accepted ∙ a.accepted;
}

-- it is told of what is neither
pub keeps-event : (w v : World) (e : Event) → v.urgent_turns ≡ w.urgent_turns → v.trace ≡ w.trace ++ e ∷ [] →
    IsOther e → Keeps w v
keeps-event w v e a d z = record {
  turns = a;
  named = ap looked d ∙ (looked-append w.trace (e ∷ [])
      ∙ (ap (λ (ms : List Mark). looked w.trace ++ ms) z.0 ∙ append-nil (looked w.trace)));
  accepted = ap accepted_in d ∙ (accepted-append w.trace (e ∷ [])
      ∙ (ap (λ (fs : List ℕ). accepted_in w.trace ++ fs) z.1 ∙ append-nil (accepted_in w.trace)));
}

pub keeps-log : (w : World) (e : Event) → IsOther e → Keeps w (log w e)
keeps-log w e z = keeps-event w (log w e) e refl refl z

-- what party p does to them as it does this
pub data Changes (p : ℕ) (o : Op) (w v : World) : Type 0 where
  none : Keeps w v → Changes p o w v
  turn : v.urgent_turns ≡ turn_after w.urgent_turns → looked v.trace ≡ looked w.trace ++ first_of w.urgent_turns ∷ [] →
      accepted_in v.trace ≡ accepted_in w.trace → Changes p o w v
  entry : (m : Mark) → o ≡ Op.Table (TableOp.Enter m) → v.urgent_turns ≡ w.urgent_turns → v.marks ≡ w.marks ++ m ∷ [] →
      v.trace ≡ w.trace ++ Event.Accepted p (length w.tasks) ∷ [] → looked v.trace ≡ looked w.trace → Changes p o w v

pub changes-turned : (p : ℕ) (o : Op) (w : World) → Changes p o w (turned p w)
changes-turned p o w = let e : Event = Event.Looked p (first_of w.urgent_turns) in
    turn refl (looked-append w.trace (e ∷ [])) (accepted-append w.trace (e ∷ []) ∙ append-nil (accepted_in w.trace))
