-- A change of a task that may queue it, and then a sleeper is told, is one of the plain scheduler: a wake, a cancel, a release of
-- a
-- waker, both a wake and a release.
use Rattle.std.proofs.Common.{◌≡◌, ℕ, ◌<◌, ◌≤◌, Bool, false, List, [], ◌∷◌, ◌++◌, length, Option, Some, None, is_some, refl, sym, ap, subst}
use Rattle.std.proofs.Common.{◌∙◌}
use Rattle.task_moves.specs.AbstractTask as abstract
use Rattle.task_moves.specs.AbstractTask.{AbstractTask}
use Rattle.solo.specs.declared.names.Task.{Task}
use Rattle.solo.specs.declared.names.SoloWaker.{SoloWaker}
use Rattle.solo.specs.declared.cells.Cells.{Cells}
use Rattle.solo.specs.declared.solo.Solo.{Solo}
use Rattle.solo.specs.Cells.{Kept, choose, asked}
use Rattle.solo.specs.Cells as cells
use Rattle.solo.specs.Solo as solo
use Rattle.solo.specs.Turns as turns
use Rattle.plain_scheduler.specs.State.{Due, Lying, Choice, Plain, Answers, Done}
use Rattle.plain_scheduler.specs.Moves.{task, put, appended, tell, becomes, wake, release, used}
use Rattle.solo_laws.specs.Alike.{WakesAlike, ReleasesAlike, UsesAlike}
use Rattle.solo_laws.specs.Road.{FollowsBut, Follows, HasLife, wakes as wakes_of}
use Rattle.solo_laws.proofs.Following.Seeing.{seen}
use Rattle.solo_laws.proofs.Following.Cells.{of_found, asks_found, found}
use Rattle.solo_laws.proofs.Following.Lines.{younger, life_pushed}
use Rattle.solo_laws.proofs.Following.Tasks.{IsChange, wakes, releases, uses, cancels}
use Rattle.solo_laws.proofs.Following.Using.{Fits, becoming, put_lying, woken_fits, released_fits, cancelled_fits, used_fits, used_kept}
use Rattle.solo_laws.proofs.Following.Using.{use_queues, wake_and_release}
use Rattle.solo_laws.proofs.Following.Quiet.{becomes_long, same_end, both_ask, first}
use Rattle.solo_laws.proofs.Following.Sweeping.{swept}
use Rattle.solo_laws.proofs.Following.Telling.{told, tell_long}

module _ {T X : Type 0} where
  -- whether it is asked for an answer that is there
  pub is_there : {B : Type 0} (q : Kept T X → Option B) (t : Task) (s : Cells T X)
      → asked (λ v. is_some (q v)) false t s ≡ is_some (asked q None t s)
  is_there q t s =
      asks_found (λ v. is_some (q v)) false t s ∙ (by (found t s) ∙ sym (ap is_some (asks_found q None t s)))
    where
      by : (o : Option (Kept T X)) → of_found (λ v. is_some (q v)) false o ≡ is_some (of_found q None o)
      by None = refl
      by (Some v) = refl

module _ {F T X : Type 0} (aside : Option Due) (name : ℕ → Task) (c : Choice) (f : ℕ) (s : Solo F T X) (p : Plain T (SoloWaker X))
    (at : f < length p.futures) (r : FollowsBut aside name s p) (many : length p.lying ≤ c.tells) (life : HasLife 2 s.lines) where
  abbrev loud : Plain T (SoloWaker X) → Plain T (SoloWaker X)
  loud p = tell wakes_of c p

  module _ (g : Kept T X → Kept T X) (q : Kept T X → Bool) (h : AbstractTask T (SoloWaker X) → AbstractTask T (SoloWaker X))
      (is : IsChange h) (fits : Fits g q h) where
    pub changes : FollowsBut aside name (turns.scheduled_if (asked q false (name f) s.cells) (name f) (turns.turned g (name f) s))
        (becomes wakes_of loud f (h (task f p)) p)
    changes =
        becoming aside name g q h is fits f s p at r (turns.scheduled (name f)) loud (younger 1 s.lines life)
        (λ place next.
        let now = turns.turned g (name f) s in
        let after = put f (h (task f p)) p in
        let few : length (appended f after).lying ≤ c.tells =
        subst (λ (ls : List (Lying (SoloWaker X))). length ls ≤ c.tells) (sym (put_lying f (h (task f p)) p)) many in
        subst (λ b. FollowsBut aside name (choose b (turns.told (turns.lined (name f) now)) (turns.lined (name f) now))
        (loud (appended f after)))
        (sym place)
        (told aside name c (turns.lined (name f) now) (appended f after) few next
        (life_pushed (name f) 1 (turns.mark_of (name f) now) s.lines life)))

    pub below : f < length (becomes wakes_of loud f (h (task f p)) p).futures
    below = subst (λ n. f < n) (sym (becomes_long loud (tell_long c) f (h (task f p)) p)) at

  pub woken : FollowsBut aside name (solo.woken (name f) s) (wake wakes_of loud f p)
  woken = changes cells.woken cells.wake_queues abstract.wake wakes woken_fits

  -- who awaits the task is called by the executor's owner
  pub cancelled : FollowsBut aside name (solo.cancelled (name f) s) (becomes wakes_of loud f (abstract.cancel (task f p)).task p)
  cancelled =
      subst (λ b. FollowsBut aside name (turns.scheduled_if b (name f) (turns.turned cells.cancelled (name f) s))
      (becomes wakes_of loud f (abstract.cancel (task f p)).task p))
      (is_there cells.cancel_queues (name f) s.cells)
      (changes cells.cancelled (λ v. is_some (cells.cancel_queues v)) (λ t. (abstract.cancel t).task) cancels cancelled_fits)

  pub released : FollowsBut aside name (solo.released (name f) s) (release wakes_of loud f p)
  released =
      swept aside name f
      (turns.scheduled_if (asked cells.release_queues false (name f) s.cells) (name f) (turns.turned cells.released (name f) s))
      (release wakes_of loud f p) (below cells.released cells.release_queues abstract.release releases released_fits)
      (changes cells.released cells.release_queues abstract.release releases released_fits)

  pub woken_and_released : FollowsBut aside name (solo.woken_and_released (name f) s) (used wakes_of loud f p)
  woken_and_released =
      swept aside name f
      (turns.scheduled_if (solo.wakes_or_closes (name f) s) (name f) (turns.turned cells.released (name f) (first (name f) s)))
      (used wakes_of loud f p) (below used_kept use_queues wake_and_release uses used_fits)
      (subst (λ b. FollowsBut aside name (turns.scheduled_if b (name f) (turns.turned cells.released (name f) (first (name f) s)))
      (used wakes_of loud f p))
      (sym (both_ask (name f) s))
      (subst (λ (z : Solo F T X). FollowsBut aside name (turns.scheduled_if (asked use_queues false (name f) s.cells) (name f) z)
      (used wakes_of loud f p))
      (sym (same_end (name f) s))
      (changes used_kept use_queues wake_and_release uses used_fits)))

module _ {F T X : Type 0} (name : ℕ → Task) (s : Solo F T X) (p : Plain T (SoloWaker X)) (r : Follows name s p) where
  pub wakes_alike : WakesAlike name (Follows name) s p
  wakes_alike c f at many life =
      let q = wake wakes_of (tell wakes_of c) f p in
      let it = woken None name c f s p at r many life in
      seen name (solo.woken (name f) s) q (q.events ++ Answers Done ∷ []) q.inside it.inside it

  pub releases_alike : ReleasesAlike name (Follows name) s p
  releases_alike c f at many life =
      let q = release wakes_of (tell wakes_of c) f p in
      let it = released None name c f s p at r many life in
      seen name (solo.released (name f) s) q (q.events ++ Answers Done ∷ []) q.inside it.inside it

  pub uses_alike : UsesAlike name (Follows name) s p
  uses_alike c f at many life =
      let q = used wakes_of (tell wakes_of c) f p in
      let it = woken_and_released None name c f s p at r many life in
      seen name (solo.woken_and_released (name f) s) q (q.events ++ Answers Done ∷ []) q.inside it.inside it
