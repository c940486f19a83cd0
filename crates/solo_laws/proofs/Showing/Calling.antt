-- Calls on wakers, a cancel and a detach show what they hand out, with whom their owner then calls.
use Rattle.std.proofs.Common.{◌≡◌, ℕ, ◌<◌, ◌≤◌, if◌then◌else◌, Bool, true, false, [], ◌∷◌, ◌++◌, length, Option, Some, None}
use Rattle.std.proofs.Common.{append-nil, refl, sym, ap, subst, ◌∙◌}
use Rattle.task_moves.specs.AbstractTask as abstract
use Rattle.solo.specs.declared.names.Task.{Task}
use Rattle.solo.specs.declared.names.SoloWaker.{SoloWaker}
use Rattle.solo.specs.declared.names.SoloWaker.TheVariants.{Task as OfTask, Outside}
use Rattle.solo.specs.declared.owed.Lent.{Lent}
use Rattle.solo.specs.declared.solo.Solo.{Solo}
use Rattle.solo.specs.Cells.{Kept}
use Rattle.solo.specs.Cells as cells
use Rattle.solo.specs.Solo as solo
use Rattle.plain_scheduler.specs.State.{Future, Choice, Plain, Lose, Loses, Answers, Done, Made, NoMemory, Granted, AtOnce}
use Rattle.plain_scheduler.specs.Lists.{on, or}
use Rattle.plain_scheduler.specs.Moves.{task, put, tell, becomes, called, let_go}
use Rattle.plain_scheduler.specs.Calls as calls
use Rattle.solo_laws.specs.Alike.{cancelled}
use Rattle.solo_laws.specs.Road.{TaskIs, IsNamed, Follows, HasLife, wakes as wakes_of}
use Rattle.solo_laws.specs.Shown.{rings, loses_or, rings_of, rings_without, detach_shows, WakesShown, ReleasesShown}
use Rattle.solo_laws.specs.Shown.{UsesShown}
use Rattle.solo_laws.specs.Shown.{CancelsShown, DetachesShown, HandleDropsShown, CopiesShown}
use Rattle.solo_laws.specs.Tabled.{named}
use Rattle.solo_laws.proofs.Following.Lists.{get_below}
use Rattle.solo_laws.proofs.Following.Cells.{found, of_found, asks_found}
use Rattle.solo_laws.proofs.Following.Changing.{task_is}
use Rattle.solo_laws.proofs.Following.Lives.{three_fewer, cancelled_lives}
use Rattle.solo_laws.proofs.Following.Frames.{becomes_still, tell_still}
use Rattle.solo_laws.proofs.Following.Waking as waking
use Rattle.solo_laws.proofs.Following.Calling.{Named, loud, cancel_awaiter, cancel_named, cancel_still, cancels}
use Rattle.solo_laws.proofs.Following.Calling.{calls_lives}
use Rattle.solo_laws.proofs.Showing.Telling.{step, three, put_events, woken_shows, released_shows, used_shows}
use Rattle.solo_laws.proofs.Showing.Telling.{cancelled_shows, detached_shows}

module _ {F T X : Type 0} (name : ℕ → Task) (c : Choice) (s : Solo F T X) (p : Plain T (SoloWaker X)) (r : Follows name s p)
    (many : length p.lying ≤ c.tells) (life : HasLife 2 s.lines) where
  -- a waker that was handed out is called, or let go
  pub calls_show : (o : Option (SoloWaker X)) → Named name (length p.futures) o
      → (on o (called wakes_of (loud c)) p).events ≡ p.events ++ rings_of o s
  calls_show None named = sym (append-nil p.events)
  calls_show (Some (Outside w)) named = refl
  calls_show (Some (OfTask t)) named =
      let it = named t refl in
      subst
      (λ u. (called wakes_of (loud c) (OfTask t) p).events ≡ p.events ++ rings (solo.wake_and_release_answer u s).sleeper)
      it.1
      (used_shows None name c t.number s p it.0 r many life)

  pub lets_go_show : (o : Option (SoloWaker X)) → Named name (length p.futures) o
      → (on o (let_go wakes_of (loud c)) p).events ≡ p.events ++ rings_without o s
  lets_go_show None named = sym (append-nil p.events)
  lets_go_show (Some (Outside w)) named = sym (append-nil p.events)
  lets_go_show (Some (OfTask t)) named =
      let it = named t refl in
      subst
      (λ u. (let_go wakes_of (loud c) (OfTask t) p).events ≡ p.events ++ rings (solo.release_answer u s).sleeper)
      it.1
      (released_shows None name c t.number s p it.0 r many life)

module _ {F T X : Type 0} (name : ℕ → Task) (s : Solo F T X) (p : Plain T (SoloWaker X)) (r : Follows name s p) where
  -- a cancel, and the call of who awaits the task
  pub cancel_events : (c : Choice) (f : ℕ) → f < length p.futures → length p.lying ≤ c.tells → HasLife 5 s.lines
      → (calls.cancel wakes_of c f p).events
      ≡ p.events ++ (rings (solo.cancel_answer (name f) s).sleeper
      ++ rings_of (solo.cancel_answer (name f) s).awaiter (solo.cancelled (name f) s))
  cancel_events c f at many life =
      let who = (abstract.cancel (task f p)).called in
      let q = becomes wakes_of (tell wakes_of c) f (abstract.cancel (task f p)).task p in
      let still = becomes_still c (tell wakes_of c) (tell_still c) f (abstract.cancel (task f p)).task p in
      let z = solo.cancelled (name f) s in
      let fewer : HasLife 2 s.lines = three_fewer 2 s.lines life in
      step p.events (rings (solo.cancel_answer (name f) s).sleeper) (rings_of (solo.cancel_answer (name f) s).awaiter z)
      (cancelled_shows None name c f s p at r many fewer)
      (calls_show name c z q
      (waking.cancelled None name c f s p at r many fewer)
      (subst (λ n. n ≤ c.tells) (sym still.lying) many)
      (cancelled_lives 2 (name f) s life)
      who
      (λ t is. subst (λ n. IsNamed name n t) (sym still.futures) (cancel_named name s p r f t is))
      ∙ ap (λ o. q.events ++ rings_of o z) (sym (cancel_awaiter name s p r f at)))

  -- an output that was kept goes out
  drops_output : (f : ℕ) → f < length p.futures → (solo.detach_answer (name f) s).output ≡ (abstract.detach (task f p)).dropped
  drops_output f at =
      let x = get_below p.futures f at in
      asks_found cells.detach_drops None (name f) s.cells
      ∙ (by (found (name f) s.cells) x.0 (subst (TaskIs (found (name f) s.cells)) x.1 (r.tasks f at))
      ∙ sym (ap (λ t. (abstract.detach t).dropped) (task_is f p x.0 x.1)))
    where
      by : (o : Option (Kept T X)) (x : Future T (SoloWaker X)) → TaskIs o (Some x)
          → of_found cells.detach_drops None o ≡ (abstract.detach x.task).dropped
      by None x over = sym over.output
      by (Some v) x of = ap (λ t. (abstract.detach t).dropped) of.task

  pub detach_events : (c : Choice) (f : ℕ) → f < length p.futures → length p.lying ≤ c.tells → HasLife 2 s.lines
      → (calls.detach wakes_of c f p).events ≡ p.events ++ detach_shows (name f) s
  detach_events c f at many life =
      let q = becomes wakes_of (tell wakes_of c) f (abstract.detach (task f p)).task p in
      let z = put f (task f q) q in
      step {r = (calls.detach wakes_of c f p).events} p.events (rings (solo.detach_answer (name f) s).sleeper)
      (loses_or (solo.detach_answer (name f) s).output (Answers Done ∷ []))
      (detached_shows None name c f s p at r many life)
      (by z (abstract.detach (task f p)).dropped
      ∙ (ap (λ es. es ++ loses_or (abstract.detach (task f p)).dropped (Answers Done ∷ [])) (put_events f (task f q) q)
      ∙ ap (λ o. q.events ++ loses_or o (Answers Done ∷ [])) (sym (drops_output f at))))
    where
      by : (z : Plain T (SoloWaker X)) (o : Option T)
          → (or o (λ v. record z { events = z.events ++ Loses v ∷ []; inside = Lose None None ∷ z.inside })
          (record z { events = z.events ++ Answers Done ∷ [] })).events
          ≡ z.events ++ loses_or o (Answers Done ∷ [])
      by z None = refl
      by z (Some v) = refl

module _ {F T X : Type 0} (its : ℕ → Lent) (s : Solo F T X) (p : Plain T (SoloWaker X)) (r : Follows (named its) s p) where
  pub wakes_shown : WakesShown its s p
  wakes_shown c f at many life =
      step p.events (rings (solo.wake_answer (named its f) s).sleeper) (Answers Done ∷ [])
      (woken_shows None (named its) c f s p at r many life) refl

  pub releases_shown : ReleasesShown its s p
  releases_shown c f at many life =
      step p.events (rings (solo.release_answer (named its f) s).sleeper) (Answers Done ∷ [])
      (released_shows None (named its) c f s p at r many life) refl

  pub uses_shown : UsesShown its s p
  uses_shown c f at many life =
      step p.events (rings (solo.wake_and_release_answer (named its f) s).sleeper) (Answers Done ∷ [])
      (used_shows None (named its) c f s p at r many life) refl

  pub copies_shown : CopiesShown its s p
  copies_shown c f says = by (solo.may_hold (named its f) s) says
    where
      q : Plain T (SoloWaker X)
      q = put f (abstract.copy (task f p)) p

      by : (b : Bool) → c.refusal ≡ (if b then Granted else AtOnce)
          → (if calls.is_granted c.refusal then record q { events = q.events ++ Answers Made ∷ [] }
          else record p { events = p.events ++ Answers NoMemory ∷ [] }).events
          ≡ p.events ++ Answers (if b then Made else NoMemory) ∷ []
      by true says =
          subst
          (λ o. (if calls.is_granted o then record q { events = q.events ++ Answers Made ∷ [] }
          else record p { events = p.events ++ Answers NoMemory ∷ [] }).events ≡ p.events ++ Answers Made ∷ [])
          (sym says)
          (ap (λ es. es ++ Answers Made ∷ []) (put_events f (abstract.copy (task f p)) p))
      by false says =
          subst
          (λ o. (if calls.is_granted o then record q { events = q.events ++ Answers Made ∷ [] }
          else record p { events = p.events ++ Answers NoMemory ∷ [] }).events ≡ p.events ++ Answers NoMemory ∷ [])
          (sym says)
          refl

  pub cancels_shown : CancelsShown its s p
  cancels_shown c f at many life =
      let out = solo.cancel_answer (named its f) s in
      let z = solo.cancelled (named its f) s in
      three p.events (rings out.sleeper) (rings_of out.awaiter z) (Answers Done ∷ [])
      (cancel_events (named its) s p r c f at many life) refl

  pub detaches_shown : DetachesShown its s p
  detaches_shown c f at many life = detach_events (named its) s p r c f at many life

  pub handle_drops_shown : HandleDropsShown its s p
  handle_drops_shown c f at many life =
      let out = solo.cancel_answer (named its f) s in
      let z = solo.cancelled (named its f) s in
      let y = cancelled (named its f) s in
      let q = calls.cancel wakes_of c f p in
      let still = cancel_still c f p in
      three p.events (rings out.sleeper) (rings_of out.awaiter z) (detach_shows (named its f) y)
      (cancel_events (named its) s p r c f at many (three_fewer 5 s.lines life))
      (detach_events (named its) y q
      (cancels (named its) s p r c f at many (three_fewer 5 s.lines life)) c f
      (subst (λ n. f < n) (sym still.futures) at)
      (subst (λ n. n ≤ c.tells) (sym still.lying) many)
      (calls_lives out.awaiter z (cancelled_lives 5 (named its f) s life)))
