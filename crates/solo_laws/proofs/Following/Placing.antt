-- A future that comes finds a place in its queue: fewer are due than the limit.
use Rattle.std.proofs.Common.{◌≡◌, ℕ, suc, ◌<◌, ◌≤◌, ◌==◌, cond, not, Bool, true, false, ◌∷◌, length, filter, Option, None, refl, sym, ap}
use Rattle.std.proofs.Common.{◌∙◌, subst, arith}
use Rattle.executor_parts.specs.declared.mark.Mark.{Mark}
use Rattle.task_moves.specs.LocalTask.{is_home, is_queued}
use Rattle.solo.specs.declared.names.Task.{Task}
use Rattle.solo.specs.declared.names.SoloWaker.{SoloWaker}
use Rattle.solo.specs.declared.solo.Solo.{Solo}
use Rattle.solo.specs.Cells.{asked}
use Rattle.solo.specs.Cells as cells
use Rattle.solo.specs.Line.{accepts}
use Rattle.solo.specs.Lines.{line_of}
use Rattle.plain_scheduler.specs.State.{Due, Plain}
use Rattle.plain_scheduler.specs.Moves.{is_common}
use Rattle.plain_scheduler.specs.Calls.{living_from}
use Rattle.solo_laws.specs.Road.{FollowsBut, beside, IsTaskOf, stands, once, due_task, is_in, HasLife}
use Rattle.solo_laws.proofs.Following.Lists.{length_map}
use Rattle.solo_laws.proofs.Following.Due.{both_true, and_true, not_false, room, lives, filter_short, beside_long}
use Rattle.solo_laws.proofs.Following.Cells.{same_number}
use Rattle.solo_laws.proofs.Following.Changing.{kept}
use Rattle.solo_laws.proofs.Following.Lines.{accepts_more}

module _ {F T X : Type 0} (aside : Option Due) (name : ℕ → Task) (s : Solo F T X) (p : Plain T (SoloWaker X))
    (r : FollowsBut aside name s p) where
  -- one that is ready isn't dropped
  pub living : (f : ℕ) → f < length p.futures → asked cells.may_start false (name f) s.cells ≡ true
      → is_in f (living_from 0 p.futures) ≡ true
  living f at is =
      let k = kept aside name cells.may_start f s p r at is in
      let of : IsTaskOf k.0 k.1 = k.5 in
      lives p.futures 0 f f k.1 (omega arith) k.3 (of.there (both_true (is_home k.0.future) (is_queued k.0.task.phase) k.4).0)

  pub places : (f : ℕ) → f < length p.futures → stands f (beside aside p.due) ≡ false
      → asked cells.may_start false (name f) s.cells ≡ true
      → HasLife 1 s.lines → (mark : Mark) → accepts (line_of mark s.lines) ≡ true
  places f at none ready life mark =
      let few : suc (length (beside aside p.due)) ≤ length (living_from 0 p.futures) =
      room (record { future = f; mark = mark; keeper = None } ∷ beside aside p.due) (living_from 0 p.futures)
      (and_true (not (stands f (beside aside p.due))) (once (beside aside p.due))
      (not_false (stands f (beside aside p.due)) none) r.once)
      (λ j due. by (j == f) j due refl) in
      let items : length (line_of mark s.lines).items ≡ length (filter (is_common mark) p.due) =
      ap length (r.queued.lines mark) ∙ length_map (due_task name) (filter (is_common mark) p.due) in
      accepts_more (line_of mark s.lines) p.limit (r.queued.unclosed mark) (r.queued.limit mark)
      (omega (arith, few, items, filter_short (is_common mark) p.due, beside_long aside p.due, r.within)) (life mark)
    where
      by : (b : Bool) (j : ℕ) → cond (j == f) true (stands j (beside aside p.due)) ≡ true → (j == f) ≡ b
          → is_in j (living_from 0 p.futures) ≡ true
      by true j due same =
          let one : j ≡ f = same_number j f same in
          subst (λ n. is_in n (living_from 0 p.futures) ≡ true) (sym one) (living f at ready)
      by false j due same =
          let can = r.ready j (sym (ap (λ b. cond b true (stands j (beside aside p.due))) same) ∙ due) in living j can.0 can.1
