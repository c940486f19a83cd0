-- A handle's poll, a copy of a task's waker and a detach are those of the plain scheduler.
use Rattle.std.proofs.Common.{◌≡◌, ℕ, ◌+◌, ◌<◌, ◌==◌, ◌&&◌, ◌||◌, not, Bool, true, false, [], ◌∷◌, ◌++◌, length, Option, Some, None}
use Rattle.std.proofs.Common.{if◌then◌else◌, is_some, refl, sym, ap, subst, ◌∙◌, arith}
use Rattle.std.proofs.lemmas.Bool.Decides.{nat_tests}
use Rattle.task_moves.specs.AbstractTask as abstract
use Rattle.task_moves.specs.AbstractTask.{AbstractTask}
use Rattle.task_moves.specs.LocalTask.{told as told_of, with_task, is_home, is_queued}
use Rattle.solo.specs.declared.names.Task.{Task}
use Rattle.solo.specs.declared.names.SoloWaker.{SoloWaker}
use Rattle.solo.specs.declared.names.SoloWaker.TheVariants.{Task as OfTask}
use Rattle.solo.specs.declared.solo.Solo.{Solo}
use Rattle.solo.specs.Cells.{Kept, choose, asked}
use Rattle.solo.specs.Cells as cells
use Rattle.solo.specs.Solo as solo
use Rattle.solo.specs.Turns as turns
use Rattle.plain_scheduler.specs.State.{Future, Choice, Plain, Lose, Loses, Answers, Done, Made, NoMemory, Granted, AtOnce}
use Rattle.plain_scheduler.specs.Moves.{task, put, tell, becomes}
use Rattle.plain_scheduler.specs.Takes as takes
use Rattle.plain_scheduler.specs.Calls as calls
use Rattle.solo_laws.specs.Alike.{CopiesAlike, DetachesAlike}
use Rattle.solo_laws.specs.Road.{IsNamed, IsTaskOf, TaskIs, Follows, is_forgotten, is_done, wakes as wakes_of}
use Rattle.solo_laws.proofs.Following.Lists.{get_below}
use Rattle.solo_laws.proofs.Following.Seeing.{seen}
use Rattle.solo_laws.proofs.Following.Due.{clash, both_true, and_true}
use Rattle.solo_laws.proofs.Following.Inside.{same_inside}
use Rattle.solo_laws.proofs.Following.Cells.{found, of_found, asks_found}
use Rattle.solo_laws.proofs.Following.Tasks.{detaches}
use Rattle.solo_laws.proofs.Following.Changing.{task_is, turned}
use Rattle.solo_laws.proofs.Following.Using.{detached_fits, told_over}
use Rattle.solo_laws.proofs.Following.Sweeping.{swept}
use Rattle.solo_laws.proofs.Following.Waking.{changes, below, is_there}
use Rattle.solo_laws.proofs.Following.Trying.{put_same, untold}

some_waker : {X : Type 0} (t : Task) (w : SoloWaker X) → ◌≡◌ {A = Option (SoloWaker X)} (Some w) (Some (OfTask t)) → w ≡ OfTask t
some_waker {X} t w is = ap (λ o. by o) is
  where
    by : Option (SoloWaker X) → SoloWaker X
    by None = w
    by (Some u) = u

none_of : (b : Bool) → (b && false) ≡ false
none_of true = refl
none_of false = refl

module _ {T A : Type 0} where
  copy_reached : (t : AbstractTask T A) → is_forgotten (abstract.copy t) ≡ false
  copy_reached t =
      ap (λ b. abstract.is_idle t.phase && (not t.closed && (not t.handle && b))) (more t.wakers)
      ∙ (ap (λ b. abstract.is_idle t.phase && (not t.closed && b)) (none_of (not t.handle))
      ∙ (ap (λ b. abstract.is_idle t.phase && b) (none_of (not t.closed)) ∙ none_of (abstract.is_idle t.phase)))
    where
      more : (n : ℕ) → (n + 1 == 0) ≡ false
      more n = grind (arith, nat_tests)

  -- what a poll leaves as it was
  poll_phase : (e : abstract.Polled T) (w : A) (t : AbstractTask T A) → (abstract.poll_by e w t).task.phase ≡ t.phase
  poll_phase (abstract.Polled.Output v) w t = refl
  poll_phase abstract.Polled.Cancelled w t = refl
  poll_phase abstract.Polled.Waits w t = refl

  poll_done : (e : abstract.Polled T) (w : A) (t : AbstractTask T A) → is_done t ≡ true
      → is_done (abstract.poll_by e w t).task ≡ true
  poll_done (abstract.Polled.Output v) w t is =
      and_true (abstract.is_over t.phase) true (both_true (abstract.is_over t.phase) (t.closed || is_some t.output) is).0 refl
  poll_done abstract.Polled.Cancelled w t is = is
  poll_done abstract.Polled.Waits w t is = is

  poll_closed : (e : abstract.Polled T) (w : A) (t : AbstractTask T A) → t.closed ≡ true
      → (abstract.poll_by e w t).task.closed ≡ true
  poll_closed (abstract.Polled.Output v) w t is = refl
  poll_closed abstract.Polled.Cancelled w t is = is
  poll_closed abstract.Polled.Waits w t is = is

  poll_reached : (e : abstract.Polled T) (w : A) (t : AbstractTask T A) → is_forgotten t ≡ false
      → is_forgotten (abstract.poll_by e w t).task ≡ false
  poll_reached (abstract.Polled.Output v) w t is = none_of (abstract.is_idle t.phase)
  poll_reached abstract.Polled.Cancelled w t is = is
  poll_reached abstract.Polled.Waits w t is = is

module _ {T X : Type 0} where
  copies : (v : Kept T X) (x : Future T (SoloWaker X)) → IsTaskOf v x
      → IsTaskOf (with_task v (abstract.copy v.task)) (record x { task = told_of (abstract.copy x.task) })
  copies v x of = record {
    task = ap (λ t. told_of (abstract.copy t)) of.task;
    mark = of.mark;
    told = refl;
    idle = of.idle;
    done = of.done;
    reached = copy_reached x.task;
    there = of.there;
    closing = of.closing;
  }

  polls : (w : SoloWaker X) (v : Kept T X) (x : Future T (SoloWaker X)) → IsTaskOf v x
      → IsTaskOf (with_task v (abstract.poll w v.task).task) (record x { task = told_of (abstract.poll w x.task).task })
  polls w v x of =
      let e = abstract.polled x.task in
      record {
        task = ap (λ t. told_of (abstract.poll w t).task) of.task;
        mark = of.mark;
        told = refl;
        idle = λ idle. of.idle (ap (λ p. abstract.is_idle p) (sym (poll_phase e w x.task)) ∙ idle);
        done = λ gone. poll_done e w x.task (of.done gone);
        reached = poll_reached e w x.task of.reached;
        there = of.there;
        closing = λ goes. poll_closed e w x.task (of.closing goes);
      }

  -- who awaits it after a poll is who did, or the waker of the poll
  poll_awaits : {P : Type 0} (t : Task) (w : SoloWaker X) (e : abstract.Polled T) (u : AbstractTask T (SoloWaker X))
      → abstract.polled u ≡ e → (abstract.poll_by e w u).task.awaiter ≡ Some (OfTask t)
      → (u.awaiter ≡ Some (OfTask t) → P) → (w ≡ OfTask t → P) → P
  poll_awaits t w (abstract.Polled.Output v) u so is was new = was is
  poll_awaits t w abstract.Polled.Cancelled u so is was new = was is
  poll_awaits t w abstract.Polled.Waits u so is was new = new (some_waker t w is)

module _ {F T X : Type 0} (name : ℕ → Task) (s : Solo F T X) (p : Plain T (SoloWaker X)) (r : Follows name s p) where
  -- a copy of its waker, where that isn't refused
  pub held : (f : ℕ) → f < length p.futures → solo.may_hold (name f) s ≡ true
      → Follows name (solo.held (name f) s) (put f (abstract.copy (task f p)) p)
  held f at may =
      turned None name cells.held abstract.copy f s p at
      (λ none over. absurd (clash refl (sym (ap (of_found cells.may_hold false) none)
      ∙ (sym (asks_found cells.may_hold false (name f) s.cells) ∙ may))))
      (λ v x here is of.
      let so : cells.may_hold v ≡ true =
      sym (ap (of_found cells.may_hold false) here) ∙ (sym (asks_found cells.may_hold false (name f) s.cells) ∙ may) in
      let e : cells.held v ≡ with_task v (abstract.copy v.task) = ap (λ b. choose b (with_task v (abstract.copy v.task)) v) so in
      record {
        is = subst (λ w. IsTaskOf w (record x { task = told_of (abstract.copy x.task) })) (sym e) (copies v x of);
        ready = λ due start. subst (λ w. cells.may_start w ≡ true) (sym e) start;
        lent = λ has out. subst (λ w. cells.is_lent w ≡ true) (sym e) out;
        dropping = λ has out. subst (λ w. cells.is_dropping w ≡ true) (sym e) out;
      })
      (λ t is. r.awaiters f t is)
      r

  pub infos : (f : ℕ) (z : Solo F T X) (q : Plain T (SoloWaker X)) → f < length q.futures → Follows name z q → (task f q).infos ≡ []
  infos f z q at all =
      let x = get_below q.futures f at in
      ap (λ (t : AbstractTask T (SoloWaker X)). t.infos) (task_is f q x.0 x.1)
      ∙ told (found (name f) z.cells) x.0 (subst (TaskIs (found (name f) z.cells)) x.1 (all.tasks f at))
    where
      told : (o : Option (Kept T X)) (x : Future T (SoloWaker X)) → TaskIs o (Some x) → x.task.infos ≡ []
      told None x over = over.infos
      told (Some v) x of = of.told

  -- one that is refused
  refused : (f : ℕ) → f < length p.futures → solo.may_hold (name f) s ≡ false → Follows name (solo.held (name f) s) p
  refused f at may =
      subst (Follows name (solo.held (name f) s)) (put_same f p at (infos f s p at r))
      (turned None name cells.held (λ t. t) f s p at (λ none over. told_over (task f p) over)
      (λ v x here is of.
      let so : cells.may_hold v ≡ false =
      sym (ap (of_found cells.may_hold false) here) ∙ (sym (asks_found cells.may_hold false (name f) s.cells) ∙ may) in
      let e : cells.held v ≡ v = ap (λ b. choose b (with_task v (abstract.copy v.task)) v) so in
      record {
        is =
            subst (λ w. IsTaskOf w (record x { task = told_of x.task })) (sym e)
            (subst (λ t. IsTaskOf v (record x { task = t })) (untold x.task of.told) of);
        ready = λ due start. subst (λ w. cells.may_start w ≡ true) (sym e) start;
        lent = λ has out. subst (λ w. cells.is_lent w ≡ true) (sym e) out;
        dropping = λ has out. subst (λ w. cells.is_dropping w ≡ true) (sym e) out;
      })
      (λ t is. r.awaiters f t is)
      r)

  pub copies_alike : CopiesAlike name (Follows name) s p
  copies_alike c f at says = by (solo.may_hold (name f) s) refl says
    where
      by : (b : Bool) → solo.may_hold (name f) s ≡ b → c.refusal ≡ (if b then Granted else AtOnce)
          → Follows name (solo.held (name f) s) (calls.does wakes_of c (calls.Call.Copy f) p)
      by true may says =
          let q = put f (abstract.copy (task f p)) p in
          subst
          (λ o. Follows name (solo.held (name f) s)
          (if calls.is_granted o then record q { events = q.events ++ Answers Made ∷ [] }
          else record p { events = p.events ++ Answers NoMemory ∷ [] }))
          (sym says)
          (seen name (solo.held (name f) s) q (q.events ++ Answers Made ∷ []) q.inside (held f at may).inside (held f at may))
      by false may says =
          let q = put f (abstract.copy (task f p)) p in
          subst
          (λ o. Follows name (solo.held (name f) s)
          (if calls.is_granted o then record q { events = q.events ++ Answers Made ∷ [] }
          else record p { events = p.events ++ Answers NoMemory ∷ [] }))
          (sym says)
          (seen name (solo.held (name f) s) p (p.events ++ Answers NoMemory ∷ []) p.inside (refused f at may).inside
          (refused f at may))

  -- a poll of its handle
  pub polled : (w : SoloWaker X) (f : ℕ) → f < length p.futures → (task f p).handle ≡ true
      → ((t : Task) → w ≡ OfTask t → IsNamed name (length p.futures) t)
      → Follows name (solo.polled (name f) w s) (put f (abstract.poll w (task f p)).task p)
  polled w f at handle named =
      turned None name (cells.polled w) (λ t. (abstract.poll w t).task) f s p at
      (λ none over. absurd (clash over.handle handle))
      (λ v x here is of.
      let so : v.task.handle ≡ true =
      ap (λ (t : AbstractTask T (SoloWaker X)). t.handle) (of.task ∙ sym (task_is f p x is)) ∙ handle in
      let e : cells.polled w v ≡ with_task v (abstract.poll w v.task).task =
      ap (λ b. choose b (with_task v (abstract.poll w v.task).task) v) so in
      record {
        is = subst (λ u. IsTaskOf u (record x { task = told_of (abstract.poll w x.task).task })) (sym e) (polls w v x of);
        ready = λ due start.
            let two = both_true (is_home v.future) (is_queued v.task.phase) start in
            subst (λ u. cells.may_start u ≡ true) (sym e)
            (and_true (is_home v.future) (is_queued (abstract.poll w v.task).task.phase) two.0
            (ap (λ p. is_queued p) (poll_phase (abstract.polled v.task) w v.task) ∙ two.1));
        lent = λ has out. subst (λ u. cells.is_lent u ≡ true) (sym e) out;
        dropping = λ has out. subst (λ u. cells.is_dropping u ≡ true) (sym e) out;
      })
      (λ t is. poll_awaits t w (abstract.polled (task f p)) (task f p) refl is (r.awaiters f t) (named t))
      r

  -- what follows a detach is only seen: an output that was kept is dropped
  ended : (c : Choice) (f : ℕ) (z : Solo F T X) (q : Plain T (SoloWaker X)) (dropped : Option T) → f < length q.futures
      → Follows name z q
      → Follows name z (takes.ended wakes_of c f
      (record { task = task f q; called = None; dropped = dropped; let_go = None }) None q)
  ended c f z q dropped at all =
      subst
      (λ q. Follows name z (takes.out wakes_of c
      (record { task = task f q; called = None; dropped = dropped; let_go = None }) None q))
      (sym (put_same f q at (infos f z q at all)))
      (by dropped)
    where
      by : (dropped : Option T)
          → Follows name z (takes.out wakes_of c
          (record { task = task f q; called = None; dropped = dropped; let_go = None }) None q)
      by None = seen name z q (q.events ++ Answers Done ∷ []) q.inside all.inside all
      by (Some v) = seen name z q (q.events ++ Loses v ∷ []) (Lose None None ∷ q.inside)
          (same_inside name (length q.futures) z.cells q.inside (Lose None None ∷ q.inside) all.inside refl refl refl) all

  -- a detach
  pub detaches_alike : DetachesAlike name (Follows name) s p
  detaches_alike c f at many life =
      let loud : Plain T (SoloWaker X) → Plain T (SoloWaker X) = tell wakes_of c in
      let q : Plain T (SoloWaker X) = becomes wakes_of loud f (abstract.detach (task f p)).task p in
      let long : f < length q.futures =
      below None name c f s p at r many life cells.detached (λ v. is_some (cells.detach_queues v))
      (λ t. (abstract.detach t).task) detaches detached_fits in
      let z : Solo F T X =
      turns.scheduled_if (is_some (asked cells.detach_queues None (name f) s.cells)) (name f)
      (turns.turned cells.detached (name f) s) in
      ended c f (turns.swept (name f) z) q (abstract.detach (task f p)).dropped long
      (swept None name f z q long
      (subst (λ b. Follows name (turns.scheduled_if b (name f) (turns.turned cells.detached (name f) s)) q)
      (is_there cells.detach_queues (name f) s.cells)
      (changes None name c f s p at r many life cells.detached (λ v. is_some (cells.detach_queues v))
      (λ t. (abstract.detach t).task) detaches detached_fits)))
