-- For dropped_executors_drop_each_future_once.
-- Where the executor was dropped and no call is in progress, each accepted future was dropped, and once.
use Rattle.std.proofs.Common.{◌≡◌, ◌⊎◌, ℕ, ◌+◌, ◌<◌, ◌≤◌, List, [], ◌∷◌, ◌++◌, length, Bool, true, false, ◌||◌, inl, inr}
use Rattle.std.proofs.Common.{⊎_elim, refl, subst, sym, ap, ◌∙◌, arith}
use Rattle.std.{proofs.lemmas.List.append_cancel_left, proofs.lemmas.List.Folds.list_any-append, specs.Prelude.reverse}
use Rattle.executor_model.proofs.Types.{Urgent, Kind, Call, Event, Op, Step}
use Rattle.executor_model.specs.DroppedAtRest.{IsDroppedAtRest, is_executor_drop}
use Rattle.executor_model.specs.Steps.{Machine, begun, mine, run, stack, start, top}
use Rattle.executor_model.specs.Trace.{Trace, has, is_accepted, is_drop_begun}
use Rattle.executor_model.specs.{Doing.act, Good.Good, Rows.ousting_of, World.World, World.Done, World.log}
use Rattle.executor_model.proofs.Awaiters.AwaitedSweeps.{dropping_of, rousing_of, shutting_urgent_of}
use Rattle.executor_model.proofs.OneFuture.Telling.{accepted-counts, begun-has, fallen-counts}
use Rattle.executor_model.proofs.Promises.CallPromises.{has-left, has-right}
use Rattle.executor_model.proofs.Quiet.Resting.{Deep, all-rest, deep, rests}
use Rattle.executor_model.proofs.Steps.Deeds.{begins_one, grows-act, grows-begun, grows-react}
use Rattle.executor_model.proofs.Steps.Ways.Way.{acted, called, reacted}
use Rattle.executor_model.proofs.{Steps.QueuesByMark.any-shut, Awaiters.AwaitedClosing.Swept, Awaiters.AwaitedClosing.swept}
use Rattle.executor_model.proofs.{Quiet.Calls.is_end, Steps.Lift.good, Steps.Lift.good-start, Steps.Tests.left-false}
use Rattle.executor_model.proofs.{Steps.Tests.right-false, Steps.Ways.Way, Steps.Ways.along, Table.Entering.counts}
use Rattle.executor_model.proofs.{Table.Entering.one-accepted, Table.LeavingExecutions.Placed, Table.LeavingExecutions.placed}

-- whoever drops the executor begins its drop
abbrev pub Begins : Trace → Type 0
Begins es = has is_executor_drop es ≡ true → has is_drop_begun es ≡ true

not-drop : (e : Event) → begins_one e ≡ false → is_executor_drop e ≡ false
not-drop (Event.CallBegun p c) z = absurd (cc)
not-drop _ z = refl

none-drops : (more : Trace) → has begins_one more ≡ false → has is_executor_drop more ≡ false
none-drops [] z = refl
none-drops (e ∷ more) z =
    ap (λ (b : Bool). b || has is_executor_drop more) (not-drop e (left-false (begins_one e) (has begins_one more) z))
    ∙ none-drops more (right-false (begins_one e) (has begins_one more) z)

either : (a b : Bool) → (a || b) ≡ true → (a ≡ true) ⊎ (b ≡ true)
either true b e = inl refl
either false b e = inr e

begins-more : (es more : Trace) → has is_executor_drop more ≡ false → Begins es → Begins (es ++ more)
begins-more es more z k h = ⊎_elim
    (λ (a : has is_executor_drop es ≡ true). has-left is_drop_begun es more (k a))
    (λ (a : has is_executor_drop more ≡ true). let no : true ≡ false = sym a ∙ z in absurd (cc))
    (either (has is_executor_drop es) (has is_executor_drop more)
    (sym (list_any-append is_executor_drop es more) ∙ h))

call-begins : (p : ℕ) (w : World) (s : Machine) (c : Call) (more : Trace) →
    (begun p (log w (Event.CallBegun p c)) (mine (top (stack s p))) c).world.trace
    ≡ (w.trace ++ Event.CallBegun p c ∷ []) ++ more → has is_executor_drop (Event.CallBegun p c ∷ []) ≡ true →
    has is_drop_begun more ≡ true
call-begins p w s Call.DropExecutor more t h =
    let es : Trace = w.trace ++ Event.CallBegun p Call.DropExecutor ∷ [] in
    let q : Event.DropBegun p ∷ [] ≡ more = append_cancel_left es (Event.DropBegun p ∷ []) more t in
    subst (λ (xs : Trace). has is_drop_begun xs ≡ true) q refl
call-begins p w s _ more t h = absurd (cc)

begins-moves : (s : Machine) (p : ℕ) (old rest : List Op) (d : Done) → Good s → p < length s.parties →
    stack s p ≡ rest ++ reverse old → Way s p old rest d → Begins s.world.trace → Begins d.world.trace
begins-moves s p old rest d fine l e (acted t o q z) k =
    subst (λ (x : Done). Begins x.world.trace) (sym z) (by o (is_end o) refl)
  where
    by : (o : Op) (b : Bool) → is_end o ≡ b → Begins (act p t o s.world).world.trace
    by o false n =
        let g = grows-act p t o s.world n in
        subst Begins (sym g.is) (begins-more s.world.trace g.more (none-drops g.more g.none_begins) k)
    by (Op.End a held) true n = begins-more s.world.trace (Event.CallEnded p a ∷ []) refl k
    by _ true n = absurd (cc)
begins-moves s p old rest d fine l e (reacted o u a q z) k =
    let g = grows-react p o u s.world in
    subst (λ (x : Done). Begins x.world.trace) (sym z)
    (subst Begins (sym g.is) (begins-more s.world.trace g.more (none-drops g.more g.none_begins) k))
begins-moves s p old rest d fine l e (called c q r n z) k =
    let w : World = log s.world (Event.CallBegun p c) in
    let es : Trace = s.world.trace in
    let g = grows-begun p w (mine (top (stack s p))) c in
    subst (λ (x : Done). Begins x.world.trace) (sym z) (subst Begins (sym g.is) (λ h. ⊎_elim
    (λ (a : has is_executor_drop (es ++ Event.CallBegun p c ∷ []) ≡ true). ⊎_elim
    (λ (b : has is_executor_drop es ≡ true).
    has-left is_drop_begun (es ++ Event.CallBegun p c ∷ []) g.more
    (has-left is_drop_begun es (Event.CallBegun p c ∷ []) (k b)))
    (λ (b : has is_executor_drop (Event.CallBegun p c ∷ []) ≡ true).
    has-right is_drop_begun (es ++ Event.CallBegun p c ∷ []) g.more (call-begins p s.world s c g.more g.is b))
    (either (has is_executor_drop es) _ (sym (list_any-append is_executor_drop es (Event.CallBegun p c ∷ [])) ∙ a)))
    (λ (a : has is_executor_drop g.more ≡ true).
    let no : true ≡ false = sym a ∙ none-drops g.more g.none_begins in absurd (cc))
    (either (has is_executor_drop (es ++ Event.CallBegun p c ∷ [])) (has is_executor_drop g.more)
    (sym (list_any-append is_executor_drop (es ++ Event.CallBegun p c ∷ []) g.more) ∙ h))))

begins : (limit : ℕ) (kind : Kind) (n : ℕ) (ts : List Step) → Begins (run ts (start limit kind n)).world.trace
begins limit kind n ts = along (λ (s : Machine). Begins s.world.trace) begins-moves
    (λ s p a held below l e k. begins-more s.world.trace (Event.CallEnded p a ∷ []) refl k) ts (start limit kind n)
    (good-start limit kind n) (λ h. absurd (cc))

closes : (a b c d : ℕ) (shut : Bool) → a ≡ 0 → b ≡ 0 → c ≡ 0 → d ≡ 0 →
    (1 ≤ a + (b + (c + d))) ⊎ (shut ≡ true) → shut ≡ true
closes a b c d shut p q r s h = ⊎_elim (λ (x : 1 ≤ a + (b + (c + d))). absurd (omega (arith, x, p, q, r, s)))
    (λ (x : shut ≡ true). x) h

dropped-at-rest : (s : Machine) (f : ℕ) → Good s → Placed s → Swept s → Deep s → Begins s.world.trace →
    IsDroppedAtRest f s.world.trace
dropped-at-rest s f fine h w d k quiet asked there =
    let idle : (q : ℕ) → stack s q ≡ [] = λ q. rests s d quiet q in
    let gone : s.world.gone ≡ true = sym (h.leaves f).begun ∙ (begun-has f s.world.trace ∙ k asked) in
    let shut : s.world.queues.urgent.closed ≡ true =
    closes _ _ _ _ s.world.queues.urgent.closed (all-rest ousting_of s.parties idle)
    (all-rest dropping_of s.parties idle) (all-rest rousing_of s.parties idle)
    (all-rest shutting_urgent_of s.parties idle) (w.urgent_shut gone) in
    let x = (h.leaves f).shut (any-shut Urgent s.world.queues shut) in
    let y = (h.leaves f).swept gone x.1.0 in
    omega (
      arith,
      y.1,
      x.1.1,
      one-accepted s f fine h,
      counts (is_accepted f) s.world.trace _ (accepted-counts f s.world.trace) there,
      fallen-counts f s.world.trace,
    )

pub drops-at-rest : (limit : ℕ) (kind : Kind) (n : ℕ) (ts : List Step) (f : ℕ) → IsDroppedAtRest f (run ts (start limit kind n)).world.trace
drops-at-rest limit kind n ts f =
    dropped-at-rest (run ts (start limit kind n)) f (good limit kind n ts) (placed limit kind n ts) (swept limit kind n ts)
    (deep limit kind n ts) (begins limit kind n ts)
