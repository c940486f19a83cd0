-- Both stand alike after each call on a task, with the table.
use Rattle.std.proofs.Common.{ℕ, Bool, true, false, [], ◌∷◌, ◌++◌, if◌then◌else◌, Option, Some, None}
use Rattle.task_moves.specs.AbstractTask as abstract
use Rattle.solo.specs.declared.names.SoloWaker.{SoloWaker}
use Rattle.solo.specs.declared.owed.Lent.{Lent}
use Rattle.solo.specs.declared.solo.Solo.{Solo}
use Rattle.solo.specs.Solo as solo
use Rattle.plain_scheduler.specs.State.{Choice, Plain, Answers, Done, Made, NoMemory, Pending, Gives, Cancelled}
use Rattle.plain_scheduler.specs.Lists.{on}
use Rattle.plain_scheduler.specs.Moves.{task, put, tell, becomes, copied, let_go}
use Rattle.plain_scheduler.specs.Calls as calls
use Rattle.solo_laws.specs.Alike.{WakesAlike, ReleasesAlike, UsesAlike, CancelsAlike, CopiesAlike, HandlesAlike, HandleDropsAlike}
use Rattle.solo_laws.specs.Alike.{DetachesAlike, cancelled, handle_polled}
use Rattle.solo_laws.specs.Road.{wakes}
use Rattle.solo_laws.specs.Tabled.{Stands, named}
use Rattle.solo_laws.proofs.Following.Waking as waking
use Rattle.solo_laws.proofs.Following.Handling as handling
use Rattle.solo_laws.proofs.Following.Calling as calling
use Rattle.solo_laws.proofs.Following.Frames.{Still, still, chain, put_still, becomes_still, tell_still, copied_still, let_go_still}
use Rattle.solo_laws.proofs.Following.Frames.{seen_still}
use Rattle.solo_laws.proofs.Following.Bases as bases
use Rattle.solo_laws.proofs.Following.Tabling.{tabled, detach_tabled}

module _ {T X : Type 0} (c : Choice) (p : Plain T (SoloWaker X)) where
  abbrev loud : Plain T (SoloWaker X) → Plain T (SoloWaker X)
  loud p = tell wakes c p

  -- a task becomes another, and the answer is seen
  pub done_still : (f : ℕ) (h : abstract.AbstractTask T (SoloWaker X) → abstract.AbstractTask T (SoloWaker X))
      → Still c p (let q = becomes wakes loud f (h (task f p)) p in record q { events = q.events ++ Answers Done ∷ [] })
  done_still f h =
      let q = becomes wakes loud f (h (task f p)) p in
      chain c (becomes_still c loud (tell_still c) f (h (task f p)) p) (seen_still c q (q.events ++ Answers Done ∷ []))

  pub copy_still : (f : ℕ) → Still c p (calls.does wakes c (calls.Call.Copy f) p)
  copy_still f = by (calls.is_granted c.refusal)
    where
      q : Plain T (SoloWaker X)
      q = put f (abstract.copy (task f p)) p

      by : (b : Bool) → Still c p (if b then record q { events = q.events ++ Answers Made ∷ [] }
          else record p { events = p.events ++ Answers NoMemory ∷ [] })
      by true = chain c (put_still c f (abstract.copy (task f p)) p) (seen_still c q (q.events ++ Answers Made ∷ []))
      by false = seen_still c p (p.events ++ Answers NoMemory ∷ [])

  pub cancelled_still : (f : ℕ) → Still c p (calls.does wakes c (calls.Call.Cancel f) p)
  cancelled_still f =
      let q = calls.cancel wakes c f p in
      chain c (calling.cancel_still c f p) (seen_still c q (q.events ++ Answers Done ∷ []))

  registered_still : (f : ℕ) (w : SoloWaker X) (z : Plain T (SoloWaker X)) → Still c z (calls.registered wakes c f w z)
  registered_still f w z =
      let left = abstract.poll w (task f z) in
      let q = put f left.task z in
      let a = on left.let_go (let_go wakes loud) q in
      chain c (put_still c f left.task z) (chain c (by left.let_go q) (seen_still c a (a.events ++ Answers Pending ∷ [])))
    where
      by : (o : Option (SoloWaker X)) (q : Plain T (SoloWaker X)) → Still c q (on o (let_go wakes loud) q)
      by None q = still c q
      by (Some u) q = let_go_still c loud (tell_still c) u q

  pub handled_still : (f : ℕ) (w : SoloWaker X) (e : abstract.Polled T) → Still c p (calls.handle_by wakes c f w e p)
  handled_still f w (abstract.Polled.Output v) =
      let q = put f (abstract.poll w (task f p)).task p in
      chain c (put_still c f (abstract.poll w (task f p)).task p) (seen_still c q (q.events ++ Answers (Gives v) ∷ []))
  handled_still f w abstract.Polled.Cancelled = seen_still c p (p.events ++ Answers Cancelled ∷ [])
  handled_still f w abstract.Polled.Waits = by (calls.is_granted c.refusal)
    where
      by : (b : Bool) → Still c p (if b then calls.registered wakes c f w (copied wakes w p)
          else record p { events = p.events ++ Answers NoMemory ∷ [] })
      by true = chain c (copied_still c w p) (registered_still f w (copied wakes w p))
      by false = seen_still c p (p.events ++ Answers NoMemory ∷ [])

module _ {F T X : Type 0} (its : ℕ → Lent) (s : Solo F T X) (p : Plain T (SoloWaker X)) (both : Stands its s p) where
  pub wakes_alike : WakesAlike (named its) (Stands its) s p
  wakes_alike c f at many life = (
    waking.wakes_alike (named its) s p both.0 c f at many life,
    tabled its c s (solo.woken (named its f) s) p (calls.does wakes c (calls.Call.Wake f) p)
        (bases.woken_base s (named its f) s (bases.same s)) (done_still c p f (λ t. abstract.wake t)) both.1,
  )

  pub releases_alike : ReleasesAlike (named its) (Stands its) s p
  releases_alike c f at many life = (
    waking.releases_alike (named its) s p both.0 c f at many life,
    tabled its c s (solo.released (named its f) s) p (calls.does wakes c (calls.Call.Release f) p)
        (bases.released_base s (named its f) s (bases.same s)) (done_still c p f (λ t. abstract.release t)) both.1,
  )

  pub uses_alike : UsesAlike (named its) (Stands its) s p
  uses_alike c f at many life = (
    waking.uses_alike (named its) s p both.0 c f at many life,
    tabled its c s (solo.woken_and_released (named its f) s) p (calls.does wakes c (calls.Call.Use f) p)
        (bases.used_base s (named its f) s (bases.same s)) (done_still c p f (λ t. abstract.release (abstract.wake t))) both.1,
  )

  pub copies_alike : CopiesAlike (named its) (Stands its) s p
  copies_alike c f at says = (
    handling.copies_alike (named its) s p both.0 c f at says,
    tabled its c s (solo.held (named its f) s) p (calls.does wakes c (calls.Call.Copy f) p)
        (bases.held_base s (named its f) s (bases.same s)) (copy_still c p f) both.1,
  )

  pub cancels_alike : CancelsAlike (named its) (Stands its) s p
  cancels_alike c f at many life = (
    calling.cancels_alike (named its) s p both.0 c f at many life,
    tabled its c s (cancelled (named its f) s) p (calls.does wakes c (calls.Call.Cancel f) p)
        (bases.cancelled_base s (named its f) s (bases.same s)) (cancelled_still c p f) both.1,
  )

  pub detaches_alike : DetachesAlike (named its) (Stands its) s p
  detaches_alike c f at many life = (
    handling.detaches_alike (named its) s p both.0 c f at many life,
    detach_tabled its c f (solo.detached (named its f) s) p
        (tabled its c s (solo.detached (named its f) s) p p (bases.detached_base s (named its f) s (bases.same s)) (still c p) both.1),
  )

  pub handles_alike : HandlesAlike (named its) (Stands its) s p
  handles_alike c f w at handle named_so many life = (
    calling.handles_alike (named its) s p both.0 c f w at handle named_so many life,
    tabled its c s (handle_polled (calls.is_granted c.refusal) (named its f) w s) p (calls.does wakes c (calls.Call.PollHandle f w) p)
        (bases.handle_polled_base s (calls.is_granted c.refusal) (named its f) w s (bases.same s))
        (handled_still c p f w (abstract.polled (task f p))) both.1,
  )

  pub handle_drops_alike : HandleDropsAlike (named its) (Stands its) s p
  handle_drops_alike c f at many life =
      let z = cancelled (named its f) s in
      let q = calls.cancel wakes c f p in (
        calling.handle_drops_alike (named its) s p both.0 c f at many life,
        detach_tabled its c f (solo.detached (named its f) z) q
            (tabled its c s (solo.detached (named its f) z) p q
            (bases.detached_base s (named its f) z (bases.cancelled_base s (named its f) s (bases.same s)))
            (calling.cancel_still c f p) both.1),
      )
