-- What is called on tasks while a close drops a future leaves both alike.
use Rattle.std.proofs.Common.{◌≡◌, ℕ, ◌+◌, ◌<◌, ◌≤◌, if◌then◌else◌, Bool, true, false, List, [], ◌∷◌, ◌++◌, length, map, Option, Some, None}
use Rattle.std.proofs.Common.{refl, sym, ap, subst, ◌∙◌}
use Rattle.queue_steps.specs.ClosableQueue.{ClosableQueue, most_accepted}
use Rattle.task_moves.specs.AbstractTask as abstract
use Rattle.task_moves.specs.AbstractTask.{AbstractTask}
use Rattle.solo.specs.declared.names.Task.{Task}
use Rattle.solo.specs.declared.names.SoloWaker.{SoloWaker}
use Rattle.solo.specs.declared.names.SoloWaker.TheVariants.{Task as OfTask, Outside}
use Rattle.solo.specs.declared.owed.Lent.{Lent}
use Rattle.solo.specs.declared.solo.Solo.{Solo}
use Rattle.solo.specs.Solo as solo
use Rattle.plain_scheduler.specs.State.{Choice, Code, Plain, Taker, Try, Tick, Run, Lose, Loses, Answers, Made, NoMemory, Pending, Gives}
use Rattle.plain_scheduler.specs.State.{Done}
use Rattle.plain_scheduler.specs.Lists.{on, or}
use Rattle.plain_scheduler.specs.Moves.{answers, task, put, tell, becomes, called, let_go, copied}
use Rattle.plain_scheduler.specs.Takes as takes
use Rattle.plain_scheduler.specs.Calls as calls
use Rattle.plain_scheduler.specs.Calls.{living_from}
use Rattle.solo_laws.specs.Alike.{WakesAlike, ReleasesAlike, UsesAlike, CopiesAlike, CancelsAlike, DetachesAlike, HandlesAlike}
use Rattle.solo_laws.specs.Alike.{HandleDropsAlike, calls as calls_it, cancelled, handle_polled}
use Rattle.solo_laws.specs.Closing.{IsClosing, CallsInClose, LosesIn, spared}
use Rattle.solo_laws.specs.Dropping.{ends_one}
use Rattle.solo_laws.specs.Road.{Follows, HasLife, IsInside, IsNamed, count_of, wakes}
use Rattle.solo_laws.specs.Shown.{ended_in, rings_of, call_shows}
use Rattle.solo_laws.specs.Tabled.{named, row}
use Rattle.solo_laws.proofs.Following.Frames.{Still, still, chain, becomes_still, called_still, tell_still, put_still}
use Rattle.solo_laws.proofs.Following.Bases as bases
use Rattle.solo_laws.proofs.Following.Waking as waking
use Rattle.solo_laws.proofs.Following.Handling as handling
use Rattle.solo_laws.proofs.Following.Calling as calling
use Rattle.solo_laws.proofs.Following.Calling.{Named}
use Rattle.solo_laws.proofs.Following.Losing as losing
use Rattle.solo_laws.proofs.Following.Seeing.{seen}
use Rattle.solo_laws.proofs.Following.Both.{done_still, copy_still, cancelled_still, handled_still}
use Rattle.solo_laws.proofs.Following.Sparing as sparing
use Rattle.solo_laws.proofs.Following.Sparing.{Spares, task_spared, put_spared, becomes_spared, calls_spared, tell_spared}
use Rattle.solo_laws.proofs.Following.Freeing.{no_rows}
use Rattle.solo_laws.proofs.Showing.Telling.{step}
use Rattle.solo_laws.proofs.Showing.Calling.{calls_show}

module _ {T X : Type 0} (c : Choice) where
  abbrev loud : Plain T (SoloWaker X) → Plain T (SoloWaker X)
  loud p = tell wakes c p

  -- who is dropped is nothing to these
  done_spared : (h : AbstractTask T (SoloWaker X) → AbstractTask T (SoloWaker X)) (f : ℕ)
      → Spares {T = T} {X = X} (λ p. let q = becomes wakes loud f (h (task f p)) p in record q { events = q.events ++ Answers Done ∷ [] })
  done_spared h f p =
      ap (λ (q : Plain T (SoloWaker X)). record q { events = q.events ++ Answers Done ∷ [] })
      (becomes_spared loud (tell_spared c) h f p)

  pub wake_spared : (f : ℕ) → Spares {T = T} {X = X} (calls.does wakes c (calls.Call.Wake f))
  wake_spared f = done_spared (λ t. abstract.wake t) f

  pub release_spared : (f : ℕ) → Spares {T = T} {X = X} (calls.does wakes c (calls.Call.Release f))
  release_spared f = done_spared (λ t. abstract.release t) f

  pub use_spared : (f : ℕ) → Spares {T = T} {X = X} (calls.does wakes c (calls.Call.Use f))
  use_spared f = done_spared (λ t. abstract.release (abstract.wake t)) f

  put_task_spared : (h : AbstractTask T (SoloWaker X) → AbstractTask T (SoloWaker X)) (f : ℕ)
      → Spares {T = T} {X = X} (λ p. put f (h (task f p)) p)
  put_task_spared h f p = ap (λ t. put f (h t) (spared p)) (task_spared f p) ∙ put_spared f (h (task f p)) p

  pub copy_spared : (f : ℕ) → Spares {T = T} {X = X} (calls.does wakes c (calls.Call.Copy f))
  copy_spared f p = by (calls.is_granted c.refusal)
    where
      by : (b : Bool)
          → (let q = put f (abstract.copy (task f (spared p))) (spared p) in
          if b then record q { events = q.events ++ Answers Made ∷ [] }
          else record (spared p) { events = p.events ++ Answers NoMemory ∷ [] })
          ≡ spared (let q = put f (abstract.copy (task f p)) p in
          if b then record q { events = q.events ++ Answers Made ∷ [] } else record p { events = p.events ++ Answers NoMemory ∷ [] })
      by true =
          ap (λ (q : Plain T (SoloWaker X)). record q { events = q.events ++ Answers Made ∷ [] })
          (put_task_spared (λ t. abstract.copy t) f p)
      by false = refl

  pub cancel_spared : (f : ℕ) → Spares {T = T} {X = X} (calls.cancel wakes c f)
  cancel_spared f p =
      ap (λ t. on (abstract.cancel t).called (called wakes loud) (becomes wakes loud f (abstract.cancel t).task (spared p)))
      (task_spared f p)
      ∙ (ap (on (abstract.cancel (task f p)).called (called wakes loud))
      (becomes_spared loud (tell_spared c) (λ t. (abstract.cancel (task f p)).task) f p)
      ∙ calls_spared loud (tell_spared c) (abstract.cancel (task f p)).called
      (becomes wakes loud f (abstract.cancel (task f p)).task p))

  lets_go_spared : (o : Option (SoloWaker X)) → Spares {T = T} {X = X} (on o (let_go wakes loud))
  lets_go_spared None p = refl
  lets_go_spared (Some (OfTask t)) p = becomes_spared loud (tell_spared c) abstract.release t.number p
  lets_go_spared (Some (Outside w)) p = refl

  copied_spared : (w : SoloWaker X) → Spares {T = T} {X = X} (copied wakes w)
  copied_spared (OfTask t) p = put_task_spared (λ t. abstract.copy t) t.number p
  copied_spared (Outside w) p = refl

  registered_spared : (f : ℕ) (w : SoloWaker X) → Spares {T = T} {X = X} (calls.registered wakes c f w)
  registered_spared f w p =
      let left = abstract.poll w (task f p) in
      ap (λ t. answered (on (abstract.poll w t).let_go (let_go wakes loud) (put f (abstract.poll w t).task (spared p))))
      (task_spared f p)
      ∙ (ap (λ (z : Plain T (SoloWaker X)). answered (on left.let_go (let_go wakes loud) z)) (put_spared f left.task p)
      ∙ ap answered (lets_go_spared left.let_go (put f left.task p)))
    where
      answered : Plain T (SoloWaker X) → Plain T (SoloWaker X)
      answered q = record q { events = q.events ++ Answers Pending ∷ [] }

  pub handled_spared : (f : ℕ) (w : SoloWaker X) → Spares {T = T} {X = X} (calls.does wakes c (calls.Call.PollHandle f w))
  handled_spared f w p =
      ap (λ t. calls.handle_by wakes c f w (abstract.polled t) (spared p)) (task_spared f p) ∙ by (abstract.polled (task f p))
    where
      granted_by : (b : Bool)
          → (if b then calls.registered wakes c f w (copied wakes w (spared p))
          else record (spared p) { events = p.events ++ Answers NoMemory ∷ [] })
          ≡ spared (if b then calls.registered wakes c f w (copied wakes w p)
          else record p { events = p.events ++ Answers NoMemory ∷ [] })
      granted_by true =
          ap (calls.registered wakes c f w) (copied_spared w p) ∙ registered_spared f w (copied wakes w p)
      granted_by false = refl

      by : (e : abstract.Polled T) → calls.handle_by wakes c f w e (spared p) ≡ spared (calls.handle_by wakes c f w e p)
      by (abstract.Polled.Output v) =
          ap (λ (q : Plain T (SoloWaker X)). record q { events = q.events ++ Answers (Gives v) ∷ [] })
          (put_task_spared (λ t. (abstract.poll w t).task) f p)
      by abstract.Polled.Cancelled = refl
      by abstract.Polled.Waits = granted_by (calls.is_granted c.refusal)

  -- a detach, and the output that it drops
  abbrev detached_by : Option T → Plain T (SoloWaker X) → Plain T (SoloWaker X)
  detached_by o z =
      or o (λ v. record z { events = z.events ++ Loses v ∷ []; inside = Lose None None ∷ z.inside })
      (record z { events = z.events ++ Answers Done ∷ [] })

  detached_spared : (o : Option T) → Spares {T = T} {X = X} (detached_by o)
  detached_spared None p = refl
  detached_spared (Some v) p = refl

  pub detach_spared : (f : ℕ) → Spares {T = T} {X = X} (calls.detach wakes c f)
  detach_spared f p =
      let left = abstract.detach (task f p) in
      let q = becomes wakes loud f left.task p in
      ap (λ t. (let z = becomes wakes loud f (abstract.detach t).task (spared p) in
      detached_by (abstract.detach t).dropped (put f (task f z) z))) (task_spared f p)
      ∙ (ap (λ (z : Plain T (SoloWaker X)). detached_by left.dropped (put f (task f z) z))
      (becomes_spared loud (tell_spared c) (λ t. left.task) f p)
      ∙ (ap (detached_by left.dropped) (put_task_spared (λ t. t) f q) ∙ detached_spared left.dropped (put f (task f q) q)))

  pub cancelled_spared : (f : ℕ) → Spares {T = T} {X = X} (calls.does wakes c (calls.Call.Cancel f))
  cancelled_spared f p = ap (λ (q : Plain T (SoloWaker X)). record q { events = q.events ++ Answers Done ∷ [] }) (cancel_spared f p)

  pub handle_drop_spared : (f : ℕ) → Spares {T = T} {X = X} (calls.does wakes c (calls.Call.DropHandle f))
  handle_drop_spared f p = ap (calls.detach wakes c f) (cancel_spared f p) ∙ detach_spared f (calls.cancel wakes c f p)

  -- the end of an output's drop: who awaits the task is called, and the call ends
  module _ (awaiter : Option (SoloWaker X)) (by : Option (Taker (SoloWaker X))) (rest : List (Code T (SoloWaker X))) where
    abbrev pub lost : Plain T (SoloWaker X) → Plain T (SoloWaker X)
    lost p = answers (ended_in by) (on awaiter (called wakes loud) (record p { inside = rest }))

    pub lost_spared : Spares {T = T} {X = X} lost
    lost_spared p =
        ap (λ (q : Plain T (SoloWaker X)). answers (ended_in by) q)
        (calls_spared loud (tell_spared c) awaiter (record p { inside = rest }))

    pub lost_is : ends_one by ≡ true → (p : Plain T (SoloWaker X)) → p.inside ≡ Lose awaiter by ∷ rest
        → calls.does wakes c calls.Call.Ends p ≡ lost p
    lost_is one p is =
        ap (λ cs. calls.innermost wakes c cs (calls.ends wakes c) p) is
        ∙ next_is by one (on awaiter (called wakes loud) (record p { inside = rest }))
      where
        next_is : (by : Option (Taker (SoloWaker X))) → ends_one by ≡ true → (q : Plain T (SoloWaker X))
            → or by (λ taker. takes.next wakes c taker q) (answers Done q) ≡ answers (ended_in by) q
        next_is None one q = refl
        next_is (Some Try) one q = refl
        next_is (Some (Tick t v)) one q = refl
        next_is (Some (Run t v)) one q = absurd cc

  -- what a detach leaves as it is
  abbrev IsFrame : Plain T (SoloWaker X) → Plain T (SoloWaker X) → Type 0
  IsFrame p q =
      (living_from 0 q.futures ≡ living_from 0 p.futures) × (q.limit ≡ p.limit) × (q.is_static ≡ p.is_static)

  still_frame : {p q : Plain T (SoloWaker X)} → Still c p q → IsFrame p q
  still_frame still = (still.living, still.limit, still.static)

  detach_frame : (f : ℕ) (p : Plain T (SoloWaker X)) → IsFrame p (calls.detach wakes c f p)
  detach_frame f p =
      let left = abstract.detach (task f p) in
      let q = becomes wakes loud f left.task p in
      by left.dropped (put f (task f q) q)
      (still_frame (chain c (becomes_still c loud (tell_still c) f left.task p) (put_still c f (task f q) q)))
    where
      by : (o : Option T) (z : Plain T (SoloWaker X)) → IsFrame p z → IsFrame p (detached_by o z)
      by None z is = is
      by (Some v) z is = is

module _ {F T X : Type 0} (its : ℕ → Lent) (all gone left : List ℕ) (s : Solo F T X) (p : Plain T (SoloWaker X))
    (r : IsClosing its all gone left s p) where
  abbrev w : Plain T (SoloWaker X)
  w = r.whole

  long : length p.futures ≡ length w.futures
  long = sparing.long p w r.same

  pub below : (f : ℕ) → f < length p.futures → f < length w.futures
  below f at = subst (λ n. f < n) long at

  pub few : (c : Choice) → length p.lying ≤ c.tells → length w.lying ≤ c.tells
  few c many = sparing.few p w r.same c.tells many

  pub handle_in : (f : ℕ) → (task f p).handle ≡ true → (task f w).handle ≡ true
  handle_in f handle = sparing.handle_in p w r.same f handle

  pub names_in : (v : SoloWaker X) (c : Choice)
      → ((t : Task) → v ≡ OfTask t → IsNamed (named its) (length p.futures) t × (calls.is_granted c.refusal ≡ solo.may_hold t s))
      → (t : Task) → v ≡ OfTask t → IsNamed (named its) (length w.futures) t × (calls.is_granted c.refusal ≡ solo.may_hold t s)
  names_in v c names t is = (subst (λ n. IsNamed (named its) n t) long (names t is).0, (names t is).1)

  goes_in : (c : Choice) (op : Plain T (SoloWaker X) → Plain T (SoloWaker X)) → Spares op → (z : Solo F T X)
      → Follows (named its) z (op w) → bases.Base s z → IsFrame c w (op w) → IsClosing its all gone left z (op p)
  goes_in c op spares z follows base frame = record {
    whole = op w;
    same = sym (spares p) ∙ (ap op r.same ∙ spares w);
    follows = follows;
    living = frame.0 ∙ r.living;
    parts = r.parts;
    owned = frame.2 ∙ r.owned;
    table = no_rows row z.table.entries (base.0 ∙ ap (map (row {F = F})) r.table);
    going = ap (λ t. map (row {F = F}) t.entries) base.7 ∙ r.going;
    leaving = ap (λ (q : ClosableQueue Task). q.items) base.8 ∙ r.leaving;
    leaving_open = ap (λ (q : ClosableQueue Task). q.closed) base.8 ∙ r.leaving_open;
    leaving_limit = ap (λ (q : ClosableQueue Task). q.capacity) base.8 ∙ (r.leaving_limit ∙ ap (λ n. Some n) (sym frame.1));
    leaving_life = subst (λ (q : ClosableQueue Task). count_of q.accepted + length left ≤ most_accepted) (sym base.8) r.leaving_life;
  }

  wakes_in : WakesAlike (named its) (IsClosing its all gone left) s p
  wakes_in c f at many life =
      goes_in c (calls.does wakes c (calls.Call.Wake f)) (wake_spared c f) (solo.woken (named its f) s)
      (waking.wakes_alike (named its) s w r.follows c f (below f at) (few c many) life)
      (bases.woken_base s (named its f) s (bases.same s)) (still_frame c (done_still c w f (λ t. abstract.wake t)))

  releases_in : ReleasesAlike (named its) (IsClosing its all gone left) s p
  releases_in c f at many life =
      goes_in c (calls.does wakes c (calls.Call.Release f)) (release_spared c f) (solo.released (named its f) s)
      (waking.releases_alike (named its) s w r.follows c f (below f at) (few c many) life)
      (bases.released_base s (named its f) s (bases.same s)) (still_frame c (done_still c w f (λ t. abstract.release t)))

  uses_in : UsesAlike (named its) (IsClosing its all gone left) s p
  uses_in c f at many life =
      goes_in c (calls.does wakes c (calls.Call.Use f)) (use_spared c f)
      (solo.woken_and_released (named its f) s)
      (waking.uses_alike (named its) s w r.follows c f (below f at) (few c many) life)
      (bases.used_base s (named its f) s (bases.same s)) (still_frame c (done_still c w f (λ t. abstract.release (abstract.wake t))))

  copies_in : CopiesAlike (named its) (IsClosing its all gone left) s p
  copies_in c f at says =
      goes_in c (calls.does wakes c (calls.Call.Copy f)) (copy_spared c f) (solo.held (named its f) s)
      (handling.copies_alike (named its) s w r.follows c f (below f at) says)
      (bases.held_base s (named its f) s (bases.same s)) (still_frame c (copy_still c w f))

  cancels_in : CancelsAlike (named its) (IsClosing its all gone left) s p
  cancels_in c f at many life =
      goes_in c (calls.does wakes c (calls.Call.Cancel f))
      (cancelled_spared c f)
      (cancelled (named its f) s)
      (calling.cancels_alike (named its) s w r.follows c f (below f at) (few c many) life)
      (bases.cancelled_base s (named its f) s (bases.same s)) (still_frame c (cancelled_still c w f))

  detaches_in : DetachesAlike (named its) (IsClosing its all gone left) s p
  detaches_in c f at many life =
      goes_in c (calls.does wakes c (calls.Call.Detach f)) (detach_spared c f) (solo.detached (named its f) s)
      (handling.detaches_alike (named its) s w r.follows c f (below f at) (few c many) life)
      (bases.detached_base s (named its f) s (bases.same s)) (detach_frame c f w)

  handles_in : HandlesAlike (named its) (IsClosing its all gone left) s p
  handles_in c f v at handle named_so many life =
      goes_in c (calls.does wakes c (calls.Call.PollHandle f v)) (handled_spared c f v)
      (handle_polled (calls.is_granted c.refusal) (named its f) v s)
      (calling.handles_alike (named its) s w r.follows c f v (below f at)
      (handle_in f handle) (names_in v c named_so) (few c many) life)
      (bases.handle_polled_base s (calls.is_granted c.refusal) (named its f) v s (bases.same s))
      (still_frame c (handled_still c w f v (abstract.polled (task f w))))

  handle_drops_in : HandleDropsAlike (named its) (IsClosing its all gone left) s p
  handle_drops_in c f at many life =
      goes_in c (calls.does wakes c (calls.Call.DropHandle f))
      (handle_drop_spared c f)
      (solo.detached (named its f) (cancelled (named its f) s))
      (calling.handle_drops_alike (named its) s w r.follows c f (below f at) (few c many) life)
      (bases.detached_base s (named its f) (cancelled (named its f) s) (bases.cancelled_base s (named its f) s (bases.same s)))
      (let a = still_frame c (calling.cancel_still c f w) in
      let b = detach_frame c f (calls.cancel wakes c f w) in
      (b.0 ∙ a.0, b.1 ∙ a.1, b.2 ∙ a.2))

  module _ (c : Choice) (awaiter : Option (SoloWaker X)) (by : Option (Taker (SoloWaker X))) (rest : List (Code T (SoloWaker X)))
      (one : ends_one by ≡ true) (is : p.inside ≡ Lose awaiter by ∷ rest) (many : length p.lying ≤ c.tells) (life : HasLife 2 s.lines) where
    inside_is : w.inside ≡ Lose awaiter by ∷ rest
    inside_is = sym (ap (λ (z : Plain T (SoloWaker X)). z.inside) r.same) ∙ is

    out : IsInside (named its) (length w.futures) s.cells rest × Named (named its) (length w.futures) awaiter
    out = losing.lost (named its) (length w.futures) s.cells w.inside rest r.follows.inside awaiter by inside_is

    follows : Follows (named its) s (record w { inside = rest })
    follows = seen (named its) s w w.events rest out.0 r.follows

    still_on : (o : Option (SoloWaker X)) → Still c (record w { inside = rest }) (on o (called wakes (loud c)) (record w { inside = rest }))
    still_on None = still c (record w { inside = rest })
    still_on (Some x) = called_still c (loud c) (tell_still c) x (record w { inside = rest })

    loses_so : IsClosing its all gone left (calls_it awaiter s) (calls.does wakes c calls.Call.Ends p)
    loses_so =
        let q : Plain T (SoloWaker X) = on awaiter (called wakes (loud c)) (record w { inside = rest }) in
        let z = calls_it awaiter s in
        let called_so = calling.calls_alike (named its) c s (record w { inside = rest }) follows (few c many) life awaiter out.1 in
        subst (λ q. IsClosing its all gone left z q) (sym (lost_is c awaiter by rest one p is))
        (goes_in c (lost c awaiter by rest) (lost_spared c awaiter by rest) z
        (seen (named its) z q (q.events ++ Answers (ended_in by) ∷ []) q.inside called_so.inside called_so)
        (bases.calls_base s awaiter s (bases.same s))
        (still_frame c (still_on awaiter)))

    pub loses_seen : (calls.does wakes c calls.Call.Ends p).events ≡ p.events ++ call_shows awaiter by s
    loses_seen =
        ap (λ (q : Plain T (SoloWaker X)). q.events) (lost_is c awaiter by rest one p is)
        ∙ (ap (λ (z : Plain T (SoloWaker X)). z.events)
        (sym (lost_spared c awaiter by rest p) ∙ (ap (lost c awaiter by rest) r.same ∙ lost_spared c awaiter by rest w))
        ∙ (step w.events (rings_of awaiter s) (Answers (ended_in by) ∷ [])
        (calls_show (named its) c s (record w { inside = rest }) follows (few c many) life awaiter out.1) refl
        ∙ ap (λ (z : Plain T (SoloWaker X)). z.events ++ call_shows awaiter by s) (sym r.same)))

  loses_in : LosesIn its s p (IsClosing its all gone left)
  loses_in c awaiter by rest one is many life = loses_so c awaiter by rest one is many life

  pub calls_in_close : CallsInClose its s p all gone left
  calls_in_close = (wakes_in, releases_in, uses_in, copies_in, cancels_in, detaches_in, handles_in, handle_drops_in, loses_in)
