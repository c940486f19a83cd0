-- A handle that goes, of a future whose output isn't there: where nobody could wake it, it is queued to be dropped.
use Rattle.std.proofs.Common.{◌≡◌, ℕ, ◌<◌, ◌++◌, ◌&&◌, not, Bool, true, false, List, ◌∷◌, length, Option, Some, None, is_some}
use Rattle.std.proofs.Common.{if◌then◌else◌, refl, sym, ap, subst, ◌∙◌}
use Rattle.task_moves.specs.declared.moves.owed.Move.TheVariants as move
use Rattle.task_moves.specs.AbstractTask as abstract
use Rattle.task_moves.specs.AbstractTask.{AbstractTask}
use Rattle.task_moves.specs.LocalTask.{info_of, told}
use Rattle.task_moves.specs.Moves as moves
use Rattle.executor_model.specs.declared.op.Op.{Op}
use Rattle.executor_model.specs.declared.op.Op.TheVariants as op
use Rattle.executor_model.specs.declared.op.Waker.{Waker}
use Rattle.executor_model.specs.World.{World, Done, among, awaiter_of}
use Rattle.executor_model.specs.World as world
use Rattle.plain_scheduler.specs.State.{Choice, Lose, Loses, Plain, Done as DoneAnswer}
use Rattle.plain_scheduler.specs.Lists.{or}
use Rattle.plain_scheduler.specs.Moves.{answers, becomes, enters, put, see, task, tell}
use Rattle.plain_scheduler.specs.Calls as calls
use Rattle.machine_roads.specs.View.{Output, view, wakes, waker_in}
use Rattle.machine_roads.specs.Moving.{IsMove}
use Rattle.machine_roads.specs.Road.{Follows}
use Rattle.machine_roads.specs.Alone.{is_resting}
use Rattle.machine_roads.proofs.Calm.{detach_calm}
use Rattle.machine_roads.proofs.Changing.{put_again}
use Rattle.machine_roads.proofs.Moving.{detaches_alike}
use Rattle.machine_roads.proofs.Marks.{detached_owes, detached_stored}
use Rattle.machine_roads.proofs.Stepping.{Way, next}
use Rattle.machine_roads.proofs.Moved.{Then, Tells, moved, becoming}

no_output : (b : Bool) → ◌≡◌ {A = Option Output} (if b then Some tt else None) None → b ≡ false
no_output true is = absurd cc
no_output false is = refl

module _ (p : ℕ) (end : Done) (rests : is_resting end.next ≡ true) (more : Plain Output Waker → Plain Output Waker)
    (P : Plain Output Waker → Type 0) (teller : Tells p end more P) where
  pub detaches_so : (f : ℕ) (w : World) (os : List Op) (r : Plain Output Waker) → Follows w r → P r
      → (task f r).output ≡ None → Way p end w (op.Move move.Detach f ∷ os)
      → Then p end os (becomes wakes more f (abstract.detach (task f r)).task r)
  detaches_so f w os r follows fit none way =
      let step = next p end rests (op.Move move.Detach f) w os refl way in
      let at : f < length w.tasks = step.has.0 in
      let s = world.task w f in
      let a = waker_in (awaiter_of w f) in
      let tk : task f r ≡ view s a = follows.tasks f at in
      let gives : (s.completed && not s.closed) ≡ false =
      no_output (s.completed && not s.closed) (sym (ap (λ (t : AbstractTask Output Waker). t.output) tk) ∙ none) in
      let al : IsMove (moves.detach s) s a (abstract.detach (view s a)).task = detaches_alike s a gives step.has.1 in
      let m =
      moved p end rests move.Detach f w os r (abstract.detach (task f r)).task refl (λ q g. refl) follows at
      (al.task ∙ ap (λ t. told (abstract.detach t).task) (sym tk))
      (detached_stored (awaiter_of w f) s (follows.stored f at)) (detach_calm (task f r) (follows.calm f at)) step.way in
      becoming p end rests more P teller f m.world os r (abstract.detach (task f r)).task (is_some (moves.detach s).owed.schedule)
      m.follows fit
      (ap (λ t. is_some (info_of t (abstract.detach t).task)) tk ∙ sym al.queues)
      (subst (λ ops. Way p end m.world (ops ++ os)) (detached_owes (among f w.table) f s gives) m.way)

-- and then the plain scheduler's detach is done
pub detached_is : (c : Choice) (f : ℕ) (w : World) (r : Plain Output Waker) → (task f r).output ≡ None
    → Follows w (becomes wakes (tell wakes c) f (abstract.detach (task f r)).task r)
    → calls.detach wakes c f r ≡ answers DoneAnswer (becomes wakes (tell wakes c) f (abstract.detach (task f r)).task r)
detached_is c f w r none follows =
    let q = becomes wakes (tell wakes c) f (abstract.detach (task f r)).task r in
    let z = put f (task f q) q in
    ap (λ (o : Option Output). or o (λ v. enters (Lose None None) (see (Loses v) z)) (answers DoneAnswer z)) none
    ∙ ap (answers DoneAnswer) (put_again f w q follows)
