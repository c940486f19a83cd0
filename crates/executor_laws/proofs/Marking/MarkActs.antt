-- For one_turn_of_eight_is_plain and futures_are_marked_as_spawned.
-- What each thing that is done does to the count of turns and to what was accepted.
use Rattle.std.proofs.Common.{◌≡◌, ℕ, ◌+◌, List, [], ◌∷◌, ◌++◌, length, Bool, true, false, Result, refl, sym, ap, ◌∙◌, subst}
use Rattle.std.proofs.Common.{append-nil, append_assoc}
use Rattle.std.specs.Prelude.{Option, Some, None, reverse}
use Rattle.task_moves.specs.declared.moves.owed.Answer.{Answer}
use Rattle.executor_parts.specs.Marks.{first_of, turn_after}
use Rattle.executor_laws.proofs.Types.{Mark, Call, Reply, Event, Op, QueueOp, RunOp, Sleeping, TableOp, TickOp, TickOrRun}
use Rattle.executor_model.specs.Steps.{Machine, after, begun, below_top, gone_on, kept, mine, react, refusal, settled_by, stack}
use Rattle.executor_model.specs.{Steps.step, Steps.stepped, Steps.top, Acts.enter_by, World.World, World.Done, World.log}
use Rattle.executor_model.specs.{Doing.act, Doing.search_by_who, ClosingOrder.accepted_in, Trace.Trace}
use Rattle.executor_laws.specs.Looks.{looked}
use Rattle.executor_model.proofs.Steps.Parts.{Parts, PartsOf, Stay, Tells, Begins, Answers, by-begun, by-react, turns}
use Rattle.executor_model.proofs.Steps.Parts.Tells.{accepted, looked as turn_told}
use Rattle.executor_model.proofs.{Steps.Stepping.step-refused, Steps.Stepping.step-made, Steps.ByParts.by-act}
use Rattle.executor_model.proofs.{Steps.ByParts.by-search_own, Steps.Parts.Answers.answered, Steps.Parts.Begins.drop_begun}
use Rattle.executor_model.proofs.{Steps.Parts.enters as comes_in}
use Rattle.executor_laws.proofs.Marking.MarkSteps.{Changes, Keeps, changes-turned, keeps, keeps-and, keeps-log, looked-append}
use Rattle.executor_laws.proofs.Marking.MarkSteps.Changes.{none, turn, entry}
use Rattle.executor_laws.proofs.{Types.Waker, Types.Hint, Types.Step, Types.StepError, Types.UserEnd, Marking.MarkSteps.IsOther}

-- they are kept by each part but turns and acceptances
marks : {T : Event → Type 0} (z a b c : Bool) → z ≡ false → ((e : Event) → T e → IsOther e) → Parts Keeps T z a b c
marks z a b c n k = record {
  aside = λ w v e. keeps w v (ap (λ (x : Stay). x.urgent_turns) (sym e)) (ap (λ (x : Stay). x.trace) (sym e));
  both = keeps-and;
  moved = λ w f s. keeps w _ refl refl;
  stored = λ w f x. keeps w _ refl refl;
  placed = λ w f x y. keeps w _ refl refl;
  kept = λ w ws y. keeps w _ refl refl;
  listed = λ w x ts ls ks y. keeps w _ refl refl;
  entered = λ w s m y. keeps w _ refl refl;
  turned = λ w m y. absurd (cc);
  tells = λ w e t. keeps-log w e (k e t);
}

other-told : {p : ℕ} {o : Op} {e : Event} → Tells p o e → turns o ≡ false → comes_in o ≡ false → IsOther e
other-told (turn_told o m y) n k = absurd (cc)
other-told (accepted m f) n k = absurd (cc)
other-told _ n k = (refl, refl)

others : (p : ℕ) (o : Op) → turns o ≡ false → comes_in o ≡ false → PartsOf Keeps p o
others p o n k = marks _ _ _ _ n (λ e t. other-told t n k)

m-enter : (b c : Bool) (m : Mark) (p : ℕ) (w : World) →
    Changes p (Op.Table (TableOp.Enter m)) w (enter_by b c m p w).world
m-enter true c m p w = none (keeps _ _ refl refl)
m-enter false true m p w = none (keeps _ _ refl refl)
m-enter false false m p w = entry m refl refl refl refl (looked-append w.trace (Event.Accepted p (length w.tasks) ∷ [])
    ∙ append-nil (looked w.trace))

m-search : (who : TickOrRun) (p : ℕ) (w : World) (s : Sleeping) →
    Changes p (Op.Tick (TickOp.Search s)) w (search_by_who who p w s).world
m-search (TickOrRun.Tick t) p w s = changes-turned p _ w
m-search (TickOrRun.Run r) p w s = none (by-search_own Keeps p (Op.Run RunOp.ReturnRoom)
    (others p (Op.Run RunOp.ReturnRoom) refl refl) _ w _)

changes-act : (p : ℕ) (h : Hint) (o : Op) (w : World) → Changes p o w (act p h o w).world
changes-act p h (Op.Table (TableOp.Enter m)) w = m-enter _ _ m p w
changes-act p h (Op.Queue QueueOp.TakeTurn) w = changes-turned p _ w
changes-act p h (Op.Run (RunOp.TakeTurn x)) w = changes-turned p _ w
changes-act p h (Op.Tick (TickOp.Search s)) w = m-search s.who p w s
changes-act p h o w = none (by-act Keeps p h o w (others p o refl refl))

other-answered : {p : ℕ} {o : Op} {e : Event} → Answers p o e → IsOther e
other-answered (answered f a) = (refl, refl)

m-react : (p : ℕ) (o : Op) (u : UserEnd) (w : World) → Keeps w (react p o u w).world
m-react p o u w = by-react Keeps p o u w (marks _ _ _ _ refl (λ e t. other-answered t))

other-begun : {p : ℕ} {c : Call} {e : Event} → Begins p c e → IsOther e
other-begun drop_begun = (refl, refl)
other-begun _ = (refl, refl)

m-begun : (p : ℕ) (w : World) (here : Option Waker) (c : Call) → Keeps w (begun p w here c).world
m-begun p w here c = by-begun Keeps p w here c (marks _ _ _ _ refl (λ e t. other-begun t))

-- each step

-- what a step does to them
pub data Steps (s : Machine) (v : World) : Type 0 where
  stays : Keeps s.world v → Steps s v
  counts : v.urgent_turns ≡ turn_after s.world.urgent_turns →
      looked v.trace ≡ looked s.world.trace ++ first_of s.world.urgent_turns ∷ [] →
      accepted_in v.trace ≡ accepted_in s.world.trace → Steps s v
  enters : (p : ℕ) (m : Mark) (more : Trace) → top (stack s p) ≡ Some (Op.Table (TableOp.Enter m)) →
      v.urgent_turns ≡ s.world.urgent_turns → v.marks ≡ s.world.marks ++ m ∷ [] →
      v.trace ≡ s.world.trace ++ Event.Accepted p (length s.world.tasks) ∷ more → accepted_in more ≡ [] →
      looked v.trace ≡ looked s.world.trace → Steps s v

m-settled : (r : Option Reply) (p : ℕ) (w : World) (os : List Op) → Keeps w (settled_by r p w os).world
m-settled None p w os = keeps _ _ refl refl
m-settled (Some r) p w os = keeps-log w (Event.CallEnded p r) (refl, refl)

settled-steps : (r : Option Reply) (s : Machine) (p : ℕ) (o : Op) (v : World) (os : List Op) → top (stack s p) ≡ Some o →
    Changes p o s.world v → Steps s (settled_by r p v os).world
settled-steps r s p o v os e (none k) =
    stays (keeps-and s.world v (settled_by r p v os).world k (m-settled r p v os))
settled-steps r s p o v os e (turn a b c) = let k : Keeps v (settled_by r p v os).world = m-settled r p v os in
    counts (k.turns ∙ a) (k.named ∙ b) (k.accepted ∙ c)
settled-steps None s p o v os e (entry m i a b c d) =
    enters p m [] (e ∙ ap (λ (x : Op). Some x) i) a b c refl d
settled-steps (Some r) s p o v os e (entry m i a b c d) =
    enters p m (Event.CallEnded p r ∷ []) (e ∙ ap (λ (x : Op). Some x) i) a b
    (ap (λ (es : Trace). es ++ Event.CallEnded p r ∷ []) c
    ∙ append_assoc s.world.trace (Event.Accepted p (length s.world.tasks) ∷ []) (Event.CallEnded p r ∷ []))
    refl ((m-settled (Some r) p v os).named ∙ d)

m-gone : (s : Machine) (p : ℕ) (x : Option Op) (d : Op → Done) → top (stack s p) ≡ x →
    ((o : Op) → Changes p o s.world (d o).world) → Steps s (gone_on p s.world (stack s p) x d).world
m-gone s p None d e k = stays (keeps _ _ refl refl)
m-gone s p (Some o) d e k =
    settled-steps _ s p o (d o).world (below_top (stack s p) ++ reverse (d o).next) e (k o)

m-after : (s : Machine) (t : Step) → Steps s (after s t).world
m-after s (Step.Begin p c) =
    let w : World = log s.world (Event.CallBegun p c) in
    let d : Done = begun p w (mine (top (stack s p))) c in
    stays (keeps-and s.world w _ (keeps-log s.world (Event.CallBegun p c) (refl, refl))
    (keeps-and w d.world _ (m-begun p w (mine (top (stack s p))) c) (m-settled _ p d.world (stack s p ++ reverse d.next))))
m-after s (Step.Go p h) =
    m-gone s p (top (stack s p)) (λ o. act p h o s.world) refl (λ o. changes-act p h o s.world)
m-after s (Step.Answer p u) =
    m-gone s p (top (stack s p)) (λ o. react p o u s.world) refl (λ o. none (m-react p o u s.world))

pub changes-step : (s : Machine) (t : Step) → Steps s (stepped s (step s t)).world
changes-step s t = go (refusal s t) refl
  where
    go : (r : Option StepError) → refusal s t ≡ r → Steps s (stepped s (step s t)).world
    go None e = subst (λ (x : Result Machine StepError). Steps s (stepped s x).world) (sym (step-made s t e)) (m-after s t)
    go (Some error) e = subst (λ (x : Result Machine StepError). Steps s (stepped s x).world)
        (sym (step-refused s t error e)) (stays (keeps _ _ refl refl))
