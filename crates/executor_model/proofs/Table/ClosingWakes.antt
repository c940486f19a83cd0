-- For the_closing_drop_wakes_in_order.
-- Whoever is first among those that the executor's drop or its leak has still to wake stays so until it is woken.
use Rattle.std.proofs.Common.{◌≡◌, ◌⊎◌, ℕ, List, [], ◌∷◌, ◌++◌, length, Bool, true, false, not, eqb, inl, inr, ltb, refl, sym}
use Rattle.std.proofs.Common.{ap, ◌∙◌, subst, arith, append-nil, ⊎_elim}
use Rattle.std.specs.Prelude.{Option, Some, None, reverse}
use Rattle.std.{proofs.lemmas.Bool.Decides.nat_tests, proofs.lemmas.List.append_assoc, proofs.lemmas.List.append_cancel_left}
use Rattle.task_moves.specs.Moves.{is_over}
use Rattle.executor_model.proofs.Types.{Mark, Move, Event, Kind, ClosingOp, Op, TableOp, Hint, Step, StepError, NoSuch}
use Rattle.executor_model.specs.Steps.{Machine, Part, end_of, mine, part_after, part_refusal, party_of, refusal, run}
use Rattle.executor_model.specs.Acts.{drop_next_by, enter_by, leak_next_by, leak_out_by, leave_by, wake_next_by}
use Rattle.executor_model.specs.Steps.{settled_by, stack, start, step, step_by, stepped, top, unless}
use Rattle.executor_model.specs.{ClosingWakes.StaysFirst, ClosingWakes.WakesInOrder, Doing.act, Trace.Trace, Trace.has}
use Rattle.executor_model.specs.{Trace.is_woken, World.World, World.Done, World.log, World.log_if, World.task}
use Rattle.executor_model.proofs.Steps.Listing.{Entries, entries, entries-move, same-begun, same-entries, same-react}
use Rattle.executor_model.proofs.Steps.Ways.Way.{acted, called, reacted}
use Rattle.executor_model.proofs.{Promises.CallPromises.has-left, Promises.OutsideCalls.way-more, Steps.Hushed.hushed-wake_next}
use Rattle.executor_model.proofs.{Steps.Tests.or-left, Steps.Ways.Made, Steps.Ways.Way, Steps.Ways.made, Table.Closing.ordered}

-- what is told behind that changes nothing of it
more-later : (w v u : World) (f : ℕ) (fs : List ℕ) (before more last : Trace) → u.waking ≡ v.waking →
    more ≡ before ++ last → StaysFirst w v f fs before → StaysFirst w u f fs more
more-later w v u f fs before more last q i h = ⊎_elim
    (λ (x : (added : List ℕ) × (v.waking ≡ (f ∷ fs) ++ added)).
    let r : StaysFirst w u f fs more = inl (x.0, q ∙ x.1) in r)
    (λ (x : (v.waking ≡ fs) × ((has (is_woken f) before ≡ true) ⊎ (is_over (task w f) ≡ true))).
    let r : StaysFirst w u f fs more = inr (
      q ∙ x.0,
      ⊎_elim
          (λ (y : has (is_woken f) before ≡ true).
          let z : (has (is_woken f) more ≡ true) ⊎ (is_over (task w f) ≡ true) =
          inl (ap (has (is_woken f)) i ∙ has-left (is_woken f) before last y) in z)
          (λ (y : is_over (task w f) ≡ true).
          let z : (has (is_woken f) more ≡ true) ⊎ (is_over (task w f) ≡ true) = inr y in z) x.1,
    ) in r) h

module _ (w : World) (f : ℕ) (rest : List ℕ) (e : w.waking ≡ f ∷ rest) where
  -- nobody was woken, and none has come
  as-before : (v : World) (more : Trace) → v.waking ≡ w.waking → StaysFirst w v f rest more
  as-before v more q = inl ([], q ∙ (e ∙ sym (append-nil (f ∷ rest))))

  listed-so : (v : World) (more : Trace) → entries w ≡ entries v → StaysFirst w v f rest more
  listed-so v more q = as-before v more (sym (ap (λ (x : Entries). x.waking) q))

  woken-so : (b : Bool) (p : ℕ) (v : World) (more now : Trace) → is_over (task w f) ≡ b →
      now ≡ (log_if (not (is_over (task w f))) w (Event.Woken p f)).trace → now ≡ w.trace ++ more →
      (has (is_woken f) more ≡ true) ⊎ (is_over (task w f) ≡ true)
  woken-so true p v more now z n t = inr z
  woken-so false p v more now z n t =
      let i : now ≡ w.trace ++ Event.Woken p f ∷ [] =
      n ∙ ap (λ (b : Bool). (log_if (not b) w (Event.Woken p f)).trace) z in
      let q : Event.Woken p f ∷ [] ≡ more = append_cancel_left w.trace (Event.Woken p f ∷ []) more (sym i ∙ t) in
      inl (subst (λ (xs : Trace). has (is_woken f) xs ≡ true) q (or-left (eqb f f) false (itself f)))
    where
      itself : (n : ℕ) → eqb n n ≡ true
      itself n = grind (arith, nat_tests)

  told-so : (b : Bool) (p g : ℕ) (gs : List ℕ) →
      (log_if b (record w { waking = gs }) (Event.Woken p g)).trace ≡ (log_if b w (Event.Woken p g)).trace
  told-so true p g gs = refl
  told-so false p g gs = refl

  first-wakes : (p : ℕ) (ls : List ℕ) (more : Trace) → ls ≡ f ∷ rest →
      (wake_next_by p w ls).world.trace ≡ w.trace ++ more → StaysFirst w (wake_next_by p w ls).world f rest more
  first-wakes p [] more q t = absurd (cc)
  first-wakes p (g ∷ gs) more q t =
      let i : g ≡ f = cc in
      let j : gs ≡ rest = cc in
      let v : World = record w { waking = gs } in
      let now : World = (wake_next_by p w (g ∷ gs)).world in
      let k : gs ≡ now.waking = ap (λ (x : Entries). x.waking) (entries-move true Move.Wake p v g) in
      inr (
        sym k ∙ j,
        woken-so (is_over (task w f)) p now more now.trace refl
            (told-so (not (is_over (task w g))) p g gs ∙ ap (λ (n : ℕ). (log_if (not (is_over (task w n))) w (Event.Woken p n)).trace) i) t,
      )

  first-leaks : (b : Bool) (p : ℕ) (ls : List ℕ) (more : Trace) → ls ≡ f ∷ rest →
      (leak_next_by b p w ls).world.trace ≡ w.trace ++ more → StaysFirst w (leak_next_by b p w ls).world f rest more
  first-leaks true p ls more q t = as-before w more refl
  first-leaks false p [] more q t = absurd (cc)
  first-leaks false p (g ∷ gs) more q t =
      let v : World = (wake_next_by p w (g ∷ gs)).world in
      let last : Trace = Event.Leaked p g ∷ [] in
      let k = hushed-wake_next (λ (x : Event). false) (λ x z. refl) p w (g ∷ gs) in
      more-later w v (leak_next_by false p w (g ∷ gs)).world f rest k.more more last refl
      (append_cancel_left w.trace more (k.more ++ last)
      (sym t ∙ (ap (λ (xs : Trace). xs ++ last) k.is ∙ append_assoc w.trace k.more last)))
      (first-wakes p (g ∷ gs) k.more q k.is)

  leaks-so : (v : World) (more : Trace) → v.waking ≡ w.waking ++ w.table → StaysFirst w v f rest more
  leaks-so v more q = inl (w.table, q ∙ ap (λ (xs : List ℕ). xs ++ w.table) e)

  first-leaks_out : (b : Bool) (more : Trace) → StaysFirst w (leak_out_by b w).world f rest more
  first-leaks_out true more = as-before w more refl
  first-leaks_out false more = leaks-so (leak_out_by false w).world more refl

  first-drops : (p : ℕ) (ls : List ℕ) (more : Trace) → StaysFirst w (drop_next_by p w ls).world f rest more
  first-drops p [] more = as-before w more refl
  first-drops p (g ∷ gs) more = inl (g ∷ [], ap (λ (xs : List ℕ). xs ++ g ∷ []) e)

  first-enters : (b c : Bool) (mark : Mark) (p : ℕ) (more : Trace) → StaysFirst w (enter_by b c mark p w).world f rest more
  first-enters true c mark p more = as-before w more refl
  first-enters false true mark p more = as-before w more refl
  first-enters false false mark p more = as-before (enter_by false false mark p w).world more refl

  first-leaves : (b : Bool) (g : ℕ) (more : Trace) → StaysFirst w (leave_by b w g).world f rest more
  first-leaves true g more = as-before (leave_by true w g).world more refl
  first-leaves false g more = as-before w more refl

  first-act : (p : ℕ) (h : Hint) (o : Op) (more : Trace) → (act p h o w).world.trace ≡ w.trace ++ more →
      StaysFirst w (act p h o w).world f rest more
  first-act p h (Op.Table (TableOp.Enter mark)) more t = first-enters _ _ _ p more
  first-act p h (Op.Table (TableOp.LeaveTable g)) more t = first-leaves _ g more
  first-act p h (Op.Closing ClosingOp.TakeOut) more t =
      as-before (act p h (Op.Closing ClosingOp.TakeOut) w).world more refl
  first-act p h (Op.Closing ClosingOp.DropNext) more t = first-drops p w.leaving more
  first-act p h (Op.Closing ClosingOp.WakeNext) more t = first-wakes p w.waking more e t
  first-act p h (Op.Closing ClosingOp.LeakOut) more t = first-leaks_out _ more
  first-act p h (Op.Closing ClosingOp.LeakNext) more t = first-leaks _ p w.waking more e t
  first-act p h o more t = listed-so (act p h o w).world more (same-entries p h o w refl)

first-way : (s : Machine) (p : ℕ) (old rest : List Op) (d : Done) → Way s p old rest d → (f : ℕ) (fs : List ℕ) →
    s.world.waking ≡ f ∷ fs → (more : Trace) → d.world.trace ≡ s.world.trace ++ more → StaysFirst s.world d.world f fs more
first-way s p old rest d (acted h o q z) f fs e more t =
    subst (λ (x : Done). StaysFirst s.world x.world f fs more) (sym z)
    (first-act s.world f fs e p h o more (ap (λ (x : Done). x.world.trace) (sym z) ∙ t))
first-way s p old rest d (reacted o u a q z) f fs e more t =
    listed-so s.world f fs e d.world more (same-react p o u s.world a ∙ ap (λ (x : Done). entries x.world) (sym z))
first-way s p old rest d (called c q r n z) f fs e more t =
    listed-so s.world f fs e d.world more
    (same-begun p (log s.world (Event.CallBegun p c)) (mine (top (stack s p))) c
    ∙ ap (λ (x : Done). entries x.world) (sym z))

-- and then the call ends, where its end is all that is left of it

first-settled : (w v : World) (p : ℕ) (os : List Op) (o : Option Op) (f : ℕ) (fs : List ℕ) (before more : Trace) →
    v.trace ≡ w.trace ++ before → StaysFirst w v f fs before →
    (settled_by (end_of o) p v os).world.trace ≡ w.trace ++ more →
    StaysFirst w (settled_by (end_of o) p v os).world f fs more
first-settled w v p os (Some (Op.End r held)) f fs before more b h t =
    more-later w v (log v (Event.CallEnded p r)) f fs before more (Event.CallEnded p r ∷ []) refl
    (append_cancel_left w.trace more (before ++ Event.CallEnded p r ∷ [])
    (sym t ∙ (ap (λ (xs : Trace). xs ++ Event.CallEnded p r ∷ []) b
    ∙ append_assoc w.trace before (Event.CallEnded p r ∷ [])))) h
first-settled w v p os None f fs before more b h t =
    more-later w v v f fs before more [] refl
    (append_cancel_left w.trace more before (sym t ∙ b) ∙ sym (append-nil before)) h
first-settled w v p os (Some _) f fs before more b h t =
    more-later w v v f fs before more [] refl
    (append_cancel_left w.trace more before (sym t ∙ b) ∙ sym (append-nil before)) h

first-made : (s : Machine) (p : ℕ) (l : Part) → Made s p l → (f : ℕ) (fs : List ℕ) → s.world.waking ≡ f ∷ fs →
    (more : Trace) → l.world.trace ≡ s.world.trace ++ more → StaysFirst s.world l.world f fs more
first-made s p l m f fs e more t =
    let g = way-more s p m.old m.rest m.d m.way in
    let os : List Op = m.rest ++ reverse m.d.next in
    subst (λ (x : Part). StaysFirst s.world x.world f fs more) m.now
    (first-settled s.world m.d.world p os (top os) f fs g.more more g.is
    (first-way s p m.old m.rest m.d m.way f fs e g.more g.is)
    (ap (λ (x : Part). x.world.trace) m.now ∙ t))

there : (b : Bool) (r : Option StepError) → unless b NoSuch r ≡ None → (b ≡ true) × (r ≡ None)
there true r e = (refl, e)
there false r e = absurd (cc)

first-by : (s : Machine) (t : Step) (r : Option StepError) → refusal s t ≡ r → (f : ℕ) (fs : List ℕ) →
    s.world.waking ≡ f ∷ fs → (more : Trace) → (stepped s (step_by r s t)).world.trace ≡ s.world.trace ++ more →
    StaysFirst s.world (stepped s (step_by r s t)).world f fs more
first-by s t (Some error) q f fs e more i = as-before s.world f fs e s.world more refl
first-by s t None q f fs e more i =
    let p : ℕ = party_of t in
    let k : _ = there (ltb p (length s.parties)) (part_refusal s.world s.parties (stack s p) t) q in
    first-made s p (part_after s.world (stack s p) t) (made s t k.1) f fs e more i

first-turns : (s : Machine) (t : Step) (f : ℕ) (rest : List ℕ) (more : Trace) → s.world.waking ≡ f ∷ rest →
    (stepped s (step s t)).world.trace ≡ s.world.trace ++ more →
    StaysFirst s.world (stepped s (step s t)).world f rest more
unfolding step
first-turns s t f rest more e i = first-by s t (refusal s t) refl f rest e more i

pub wakes-in-order : (limit : ℕ) (kind : Kind) (parties : ℕ) (steps : List Step) →
    WakesInOrder (run steps (start limit kind parties))
wakes-in-order limit kind parties steps = record {
  waits = (ordered limit kind parties steps).waits;
  turns = first-turns (run steps (start limit kind parties));
}
