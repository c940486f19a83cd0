-- A waker that was handed out is called, or let go, or copied: so a cancel, a handle's poll and its drop are those of the plain
-- scheduler, with what their callers owe.
use Rattle.std.proofs.Common.{◌≡◌, ℕ, ◌<◌, ◌≤◌, ◌==◌, ◌&&◌, ◌||◌, Bool, true, false, [], ◌∷◌, ◌++◌, length, Option, Some, None}
use Rattle.std.proofs.Common.{slice_get, slice_set, if◌then◌else◌, refl, sym, ap, subst, ◌∙◌}
use Rattle.task_moves.specs.AbstractTask as abstract
use Rattle.task_moves.specs.AbstractTask.{AbstractTask}
use Rattle.task_moves.specs.LocalTask as local
use Rattle.task_moves.specs.declared.local_task.answers.Polled.TheVariants.{Closed as ClosedPoll}
use Rattle.solo.specs.declared.names.Task.{Task}
use Rattle.solo.specs.declared.names.SoloWaker.{SoloWaker}
use Rattle.solo.specs.declared.names.SoloWaker.TheVariants.{Task as OfTask, Outside}
use Rattle.solo.specs.declared.solo.Solo.{Solo}
use Rattle.solo.specs.Cells.{Kept, choose, asked}
use Rattle.solo.specs.Cells as cells
use Rattle.solo.specs.Solo as solo
use Rattle.plain_scheduler.specs.State.{Future, Choice, Plain, Answers, Done, Pending, Gives, Cancelled, NoMemory, Calls}
use Rattle.plain_scheduler.specs.Lists.{on, or}
use Rattle.plain_scheduler.specs.Moves.{task, put, tell, becomes, called, let_go, copied, no_task}
use Rattle.plain_scheduler.specs.Calls as calls
use Rattle.solo_laws.specs.Alike.{CancelsAlike, HandlesAlike, HandleDropsAlike, calls as calls_it, lets_go, copies, cancelled}
use Rattle.solo_laws.specs.Alike.{handle_polled, registered, replaced_by}
use Rattle.solo_laws.specs.Road.{TaskIs, IsNamed, Follows, HasLife, wakes as wakes_of}
use Rattle.solo_laws.proofs.Following.Lists.{get_below, set_same, set_other}
use Rattle.solo_laws.proofs.Following.Seeing.{seen}
use Rattle.solo_laws.proofs.Following.Due.{clash}
use Rattle.solo_laws.proofs.Following.Cells.{found, of_found, asks_found, same_number}
use Rattle.solo_laws.proofs.Following.Changing.{task_is}
use Rattle.solo_laws.proofs.Following.Trying.{put_same}
use Rattle.solo_laws.proofs.Following.Waking.{woken_and_released, released}
use Rattle.solo_laws.proofs.Following.Waking as waking
use Rattle.solo_laws.proofs.Following.Handling as handling
use Rattle.solo_laws.proofs.Following.Lives.{three_fewer, cancelled_lives, used_lives}
use Rattle.solo_laws.proofs.Following.Frames.{Still, still, chain, becomes_still, tell_still, called_still, copied_still, put_still}

module _ {T X : Type 0} where
  abbrev calls_if : Bool → AbstractTask T (SoloWaker X) → Option (SoloWaker X)
  calls_if true t = None
  calls_if false t = t.awaiter

  cancel_calls : (t : AbstractTask T (SoloWaker X)) → (abstract.cancel t).called ≡ calls_if (t.closed || abstract.is_over t.phase) t
  cancel_calls t = by (t.closed || abstract.is_over t.phase)
    where
      by : (b : Bool)
          → (if b then abstract.left t else record {
            task = record (abstract.close t) { awaiter = None };
            called = t.awaiter;
            dropped = None;
            let_go = None;
          }).called
          ≡ calls_if b t
      by true = refl
      by false = refl

  -- what another task is asked, or the same where the change leaves it
  put_asks : {B : Type 0} (ask : AbstractTask T (SoloWaker X) → B) (new : AbstractTask T (SoloWaker X)) (a f : ℕ)
      (p : Plain T (SoloWaker X)) → ask (local.told new) ≡ ask (task a p) → ask (task f (put a new p)) ≡ ask (task f p)
  put_asks ask new a f p same = by (slice_get p.futures a) refl (a == f) refl
    where
      by : (o : Option (Future T (SoloWaker X))) → slice_get p.futures a ≡ o → (b : Bool) → (a == f) ≡ b
          → ask (task f (on o (λ x p. record p { futures = slice_set p.futures a (record x { task = local.told new }) }) p))
          ≡ ask (task f p)
      by None is b e = refl
      by (Some x) is true e =
          let y : Future T (SoloWaker X) = record x { task = local.told new } in
          let here : slice_get (slice_set p.futures a y) f ≡ Some y =
          ap (slice_get (slice_set p.futures a y)) (sym (same_number a f e)) ∙ set_same p.futures a y x is in
          ap (λ (o : Option (Future T (SoloWaker X))). ask (or o (λ future. future.task) no_task)) here
          ∙ (same ∙ ap (λ n. ask (task n p)) (same_number a f e))
      by (Some x) is false e =
          ap (λ (o : Option (Future T (SoloWaker X))). ask (or o (λ future. future.task) no_task))
          (set_other p.futures a f (record x { task = local.told new }) e)

  -- a copied waker changes nothing else
  module _ {B : Type 0} (ask : AbstractTask T (SoloWaker X) → B)
      (same : (t : AbstractTask T (SoloWaker X)) → ask (local.told (abstract.copy t)) ≡ ask t) where
    pub copied_asks : (w : SoloWaker X) (f : ℕ) (p : Plain T (SoloWaker X)) → ask (task f (copied wakes_of w p)) ≡ ask (task f p)
    copied_asks (Outside w) f p = refl
    copied_asks (OfTask t) f p = put_asks ask (abstract.copy (task t.number p)) t.number f p (same (task t.number p))

  -- a cancel, and the call of who awaits the task
  pub cancel_still : (c : Choice) (f : ℕ) (p : Plain T (SoloWaker X)) → Still c p (calls.cancel wakes_of c f p)
  cancel_still c f p =
      let left = abstract.cancel (task f p) in
      let q = becomes wakes_of (tell wakes_of c) f left.task p in
      chain c (becomes_still c (tell wakes_of c) (tell_still c) f left.task p) (by left.called q)
    where
      by : (o : Option (SoloWaker X)) (q : Plain T (SoloWaker X)) → Still c q (on o (called wakes_of (tell wakes_of c)) q)
      by None q = still c q
      by (Some w) q = called_still c (tell wakes_of c) (tell_still c) w q

abbrev pub loud : {T X : Type 0} → Choice → Plain T (SoloWaker X) → Plain T (SoloWaker X)
loud c p = tell wakes_of c p

-- a task's waker is that of one of so many
abbrev pub Named : {X : Type 0} → (ℕ → Task) → ℕ → Option (SoloWaker X) → Type 0
Named name many o = (t : Task) → o ≡ Some (OfTask t) → IsNamed name many t

module _ {F T X : Type 0} where
  pub calls_lives : (o : Option (SoloWaker X)) (z : Solo F T X) → HasLife 5 z.lines → HasLife 2 (calls_it o z).lines
  calls_lives None z life = three_fewer 2 z.lines life
  calls_lives (Some (Outside x)) z life = three_fewer 2 z.lines life
  calls_lives (Some (OfTask t)) z life = used_lives 2 t z life

module _ {F T X : Type 0} (name : ℕ → Task) (c : Choice) where
  module _ (s : Solo F T X) (p : Plain T (SoloWaker X)) (r : Follows name s p) (many : length p.lying ≤ c.tells)
      (life : HasLife 2 s.lines) where
    pub calls_alike : (o : Option (SoloWaker X)) → Named name (length p.futures) o
        → Follows name (calls_it o s) (on o (called wakes_of (loud c)) p)
    calls_alike None named = r
    calls_alike (Some (Outside w)) named = seen name s p (p.events ++ Calls (Outside w) ∷ []) p.inside r.inside r
    calls_alike (Some (OfTask t)) named =
        let it = named t refl in
        subst (λ u. Follows name (solo.woken_and_released u s) (called wakes_of (loud c) (OfTask t) p)) it.1
        (woken_and_released None name c t.number s p it.0 r many life)

    pub lets_go_alike : (o : Option (SoloWaker X)) → Named name (length p.futures) o
        → Follows name (lets_go o s) (on o (let_go wakes_of (loud c)) p)
    lets_go_alike None named = r
    lets_go_alike (Some (Outside w)) named = r
    lets_go_alike (Some (OfTask t)) named =
        let it = named t refl in
        subst (λ u. Follows name (solo.released u s) (let_go wakes_of (loud c) (OfTask t) p)) it.1
        (released None name c t.number s p it.0 r many life)

module _ {F T X : Type 0} (name : ℕ → Task) (s : Solo F T X) (p : Plain T (SoloWaker X)) (r : Follows name s p) where
  -- of a task that can be asked for it the executor knows the state
  pub has : (f : ℕ) → f < length p.futures → (task f p).handle ≡ true
      → (v : Kept T X) × (found (name f) s.cells ≡ Some v) × (v.task ≡ task f p)
  has f at handle =
      let x = get_below p.futures f at in
      let e = task_is f p x.0 x.1 in
      by x.0 (found (name f) s.cells) refl (subst (TaskIs (found (name f) s.cells)) x.1 (r.tasks f at)) e
    where
      by : (x : Future T (SoloWaker X)) (o : Option (Kept T X)) → found (name f) s.cells ≡ o → TaskIs o (Some x)
          → task f p ≡ x.task → (v : Kept T X) × (found (name f) s.cells ≡ Some v) × (v.task ≡ task f p)
      by x None is over e = absurd (clash (ap (λ (t : AbstractTask T (SoloWaker X)). t.handle) e ∙ over.handle) handle)
      by x (Some v) is of e = (v, is, of.task ∙ sym e)

  asks : {B : Type 0} (q : Kept T X → B) (b : B) (f : ℕ) (v : Kept T X) → found (name f) s.cells ≡ Some v
      → asked q b (name f) s.cells ≡ q v
  asks q b f v is = asks_found q b (name f) s.cells ∙ ap (of_found q b) is

  -- who awaits a task is called by its cancel
  pub cancel_awaiter : (f : ℕ) → f < length p.futures
      → asked cells.cancel_calls None (name f) s.cells ≡ (abstract.cancel (task f p)).called
  cancel_awaiter f at =
      let x = get_below p.futures f at in
      asks_found cells.cancel_calls None (name f) s.cells
      ∙ (by (found (name f) s.cells) x.0 (subst (TaskIs (found (name f) s.cells)) x.1 (r.tasks f at))
      ∙ sym (ap (λ t. (abstract.cancel t).called) (task_is f p x.0 x.1)))
    where
      by : (o : Option (Kept T X)) (x : Future T (SoloWaker X)) → TaskIs o (Some x)
          → of_found cells.cancel_calls None o ≡ (abstract.cancel x.task).called
      by None x over =
          sym (cancel_calls x.task ∙ ap (λ b. calls_if (b || abstract.is_over x.task.phase) x.task) over.closed)
      by (Some v) x of = ap (λ t. (abstract.cancel t).called) of.task

  -- and is one of theirs
  pub cancel_named : (f : ℕ) → Named name (length p.futures) (abstract.cancel (task f p)).called
  cancel_named f t is =
      r.awaiters f t (by ((task f p).closed || abstract.is_over (task f p).phase) (sym (cancel_calls (task f p)) ∙ is))
    where
      by : (b : Bool) → calls_if b (task f p) ≡ Some (OfTask t) → (task f p).awaiter ≡ Some (OfTask t)
      by true is = absurd cc
      by false is = is

  -- a cancel
  pub cancels : (c : Choice) (f : ℕ) → f < length p.futures → length p.lying ≤ c.tells → HasLife 5 s.lines
      → Follows name (cancelled (name f) s) (calls.cancel wakes_of c f p)
  cancels c f at many life =
      let q = becomes wakes_of (tell wakes_of c) f (abstract.cancel (task f p)).task p in
      let still = becomes_still c (tell wakes_of c) (tell_still c) f (abstract.cancel (task f p)).task p in
      let z = solo.cancelled (name f) s in
      subst (λ o. Follows name (calls_it o z) (on (abstract.cancel (task f p)).called (called wakes_of (tell wakes_of c)) q))
      (sym (cancel_awaiter f at))
      (calls_alike name c z q
      (waking.cancelled None name c f s p at r many (three_fewer 2 s.lines life))
      (subst (λ n. n ≤ c.tells) (sym still.lying) many)
      (cancelled_lives 2 (name f) s life)
      (abstract.cancel (task f p)).called
      (λ t is. subst (λ n. IsNamed name n t) (sym still.futures) (cancel_named f t is)))

  pub cancels_alike : CancelsAlike name (Follows name) s p
  cancels_alike c f at many life =
      let q = calls.cancel wakes_of c f p in
      let it = cancels c f at many life in
      seen name (cancelled (name f) s) q (q.events ++ Answers Done ∷ []) q.inside it.inside it

  -- a poll of a handle that has to wait, whose waker was copied
  pub registers : (c : Choice) (f : ℕ) (w : SoloWaker X) → f < length p.futures → (task f p).handle ≡ true
      → abstract.polled (task f p) ≡ abstract.Polled.Waits
      → ((t : Task) → w ≡ OfTask t → IsNamed name (length p.futures) t)
      → length p.lying ≤ c.tells → HasLife 2 s.lines
      → Follows name (registered (name f) w s) (calls.registered wakes_of c f w p)
  registers c f w at handle waits named many life =
      let v = has f at handle in
      let q = put f (abstract.poll w (task f p)).task p in
      let still = put_still c f (abstract.poll w (task f p)).task p in
      let left = (abstract.poll w (task f p)).let_go in
      let old : left ≡ (task f p).awaiter = ap (λ e. (abstract.poll_by e w (task f p)).let_go) waits in
      let answer : replaced_by (solo.poll_answer (name f) w s) ≡ left =
      ap replaced_by (asks (cells.poll_answer w) (ClosedPoll w) f v.0 v.1
      ∙ (ap (λ t. choose t.handle (local.poll_answer w t) (ClosedPoll w)) v.2
      ∙ (ap (λ b. choose b (local.poll_answer w (task f p)) (ClosedPoll w)) handle
      ∙ ap (λ e. local.poll_answer_by e w (task f p)) waits)))
      ∙ sym old in
      let all =
      lets_go_alike name c (solo.polled (name f) w s) q (handling.polled name s p r w f at handle named)
      (subst (λ n. n ≤ c.tells) (sym still.lying) many) life left
      (λ t is. subst (λ n. IsNamed name n t) (sym still.futures) (r.awaiters f t (sym old ∙ is))) in
      let z = on left (let_go wakes_of (tell wakes_of c)) q in
      subst (λ o. Follows name (lets_go o (solo.polled (name f) w s)) (calls.registered wakes_of c f w p)) (sym answer)
      (seen name (lets_go left (solo.polled (name f) w s)) z (z.events ++ Answers Pending ∷ []) z.inside all.inside all)

  -- whether it has to wait
  pub waits_is : (f : ℕ) → f < length p.futures → (task f p).handle ≡ true
      → solo.must_wait (name f) s ≡ local.waits_by (abstract.polled (task f p))
  waits_is f at handle =
      let v = has f at handle in
      asks cells.must_wait false f v.0 v.1
      ∙ (ap (λ t. t.handle && local.must_wait t) v.2 ∙ ap (λ b. b && local.must_wait (task f p)) handle)

module _ {F T X : Type 0} (name : ℕ → Task) (c : Choice) where
  -- a copy of its waker
  pub copies_it : (s : Solo F T X) (p : Plain T (SoloWaker X)) → Follows name s p → (w : SoloWaker X)
      → ((t : Task) → w ≡ OfTask t → IsNamed name (length p.futures) t × (true ≡ solo.may_hold t s))
      → Follows name (copies w s) (copied wakes_of w p)
  copies_it s p r (Outside w) named = r
  copies_it s p r (OfTask t) named =
      let it = named t refl in
      subst (λ u. Follows name (solo.held u s) (copied wakes_of (OfTask t) p)) it.0.1
      (handling.held name s p r t.number it.0.0 (subst (λ u. solo.may_hold u s ≡ true) (sym it.0.1) (sym it.1)))

module _ {F T X : Type 0} (name : ℕ → Task) (s : Solo F T X) (p : Plain T (SoloWaker X)) (r : Follows name s p) where
  pub handles_alike : HandlesAlike name (Follows name) s p
  handles_alike c f w at handle named many life = by (abstract.polled (task f p)) refl
    where
      waits : (e : abstract.Polled T) → abstract.polled (task f p) ≡ e → solo.must_wait (name f) s ≡ local.waits_by e
      waits e is = waits_is name s p r f at handle ∙ ap local.waits_by is

      polled : Follows name (solo.polled (name f) w s) (put f (abstract.poll w (task f p)).task p)
      polled = handling.polled name s p r w f at handle (λ t is. (named t is).0)

      copied_and_polled : abstract.polled (task f p) ≡ abstract.Polled.Waits → (b : Bool)
          → ((t : Task) → w ≡ OfTask t → IsNamed name (length p.futures) t × (b ≡ solo.may_hold t s))
          → Follows name (choose b (registered (name f) w (copies w s)) s)
          (if b then calls.registered wakes_of c f w (copied wakes_of w p) else record p { events = p.events ++ Answers NoMemory ∷ [] })
      copied_and_polled is false named = seen name s p (p.events ++ Answers NoMemory ∷ []) p.inside r.inside r
      copied_and_polled is true named =
          let q = copied wakes_of w p in
          let still = copied_still c w p in
          registers name (copies w s) q (copies_it name c s p r w named) c f w
          (subst (λ n. f < n) (sym still.futures) at)
          (copied_asks (λ t. t.handle) (λ t. refl) w f p ∙ handle)
          (copied_asks (λ t. abstract.polled t) (λ t. refl) w f p ∙ is)
          (λ t here. subst (λ n. IsNamed name n t) (sym still.futures) (named t here).0)
          (subst (λ n. n ≤ c.tells) (sym still.lying) many)
          (copies_live w)
        where
          copies_live : (w : SoloWaker X) → HasLife 2 (copies w s).lines
          copies_live (OfTask t) = life
          copies_live (Outside x) = life

      by : (e : abstract.Polled T) → abstract.polled (task f p) ≡ e
          → Follows name (handle_polled (calls.is_granted c.refusal) (name f) w s) (calls.handle_by wakes_of c f w e p)
      by (abstract.Polled.Output v) is =
          let q = put f (abstract.poll w (task f p)).task p in
          subst (λ b. Follows name (choose b (choose (calls.is_granted c.refusal) (registered (name f) w (copies w s)) s)
          (solo.polled (name f) w s)) (record q { events = q.events ++ Answers (Gives v) ∷ [] }))
          (sym (waits (abstract.Polled.Output v) is))
          (seen name (solo.polled (name f) w s) q (q.events ++ Answers (Gives v) ∷ []) q.inside polled.inside polled)
      by abstract.Polled.Cancelled is =
          let same : put f (abstract.poll w (task f p)).task p ≡ p =
          ap (λ e. put f (abstract.poll_by e w (task f p)).task p) is ∙ put_same f p at (handling.infos name s p r f s p at r) in
          let all : Follows name (solo.polled (name f) w s) p = subst (Follows name (solo.polled (name f) w s)) same polled in
          subst (λ b. Follows name (choose b (choose (calls.is_granted c.refusal) (registered (name f) w (copies w s)) s)
          (solo.polled (name f) w s)) (record p { events = p.events ++ Answers Cancelled ∷ [] }))
          (sym (waits abstract.Polled.Cancelled is))
          (seen name (solo.polled (name f) w s) p (p.events ++ Answers Cancelled ∷ []) p.inside all.inside all)
      by abstract.Polled.Waits is =
          subst (λ b. Follows name (choose b (choose (calls.is_granted c.refusal) (registered (name f) w (copies w s)) s)
          (solo.polled (name f) w s)) (calls.handle_by wakes_of c f w abstract.Polled.Waits p))
          (sym (waits abstract.Polled.Waits is))
          (copied_and_polled is (calls.is_granted c.refusal) named)

  -- a handle that goes cancels and detaches
  pub handle_drops_alike : HandleDropsAlike name (Follows name) s p
  handle_drops_alike c f at many life =
      let z = cancelled (name f) s in
      let q = calls.cancel wakes_of c f p in
      let still = cancel_still c f p in
      handling.detaches_alike name z q (cancels name s p r c f at many (three_fewer 5 s.lines life)) c f
      (subst (λ n. f < n) (sym still.futures) at)
      (subst (λ n. n ≤ c.tells) (sym still.lying) many)
      (calls_lives (solo.cancel_answer (name f) s).awaiter (solo.cancelled (name f) s) (cancelled_lives 5 (name f) s life))
