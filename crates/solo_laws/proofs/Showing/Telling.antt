-- A tell, and a change of a task that may queue it, show the sleeper's waker that is handed out.
use Rattle.std.proofs.Common.{◌≡◌, ℕ, suc, ◌<◌, ◌≤◌, if◌then◌else◌, Bool, true, false, List, [], ◌∷◌, ◌++◌, length, Option, Some, None}
use Rattle.std.proofs.Common.{is_some, slice_get, slice_set, append-nil, append_assoc, refl, sym, ap, subst, ◌∙◌, arith}
use Rattle.executor_parts.specs.Sleepers.{last_waker}
use Rattle.task_moves.specs.AbstractTask as abstract
use Rattle.task_moves.specs.AbstractTask.{AbstractTask}
use Rattle.task_moves.specs.LocalTask.{told as told_of, info_of}
use Rattle.solo.specs.declared.names.Task.{Task}
use Rattle.solo.specs.declared.names.SoloWaker.{SoloWaker}
use Rattle.solo.specs.declared.names.SoloWaker.TheVariants.{Task as OfTask, Outside}
use Rattle.solo.specs.declared.owed.Told.{Told}
use Rattle.solo.specs.declared.solo.Solo.{Solo}
use Rattle.solo.specs.Cells.{Kept, choose, asked}
use Rattle.solo.specs.Cells as cells
use Rattle.solo.specs.Solo as solo
use Rattle.solo.specs.Turns as turns
use Rattle.plain_scheduler.specs.State.{Due, Future, Lying, Choice, Plain}
use Rattle.plain_scheduler.specs.Lists.{any, on}
use Rattle.plain_scheduler.specs.Moves.{task, put, appended, becomes, wake, release, used, called, tell, is_called}
use Rattle.solo_laws.specs.Road.{FollowsBut, HasLife, is_told, wakes as wakes_of}
use Rattle.solo_laws.specs.Shown.{rings}
use Rattle.solo_laws.proofs.Following.Lists.{get_below}
use Rattle.solo_laws.proofs.Following.Lines.{younger}
use Rattle.solo_laws.proofs.Following.Lying.{called_one, its_waker_of}
use Rattle.solo_laws.proofs.Following.Tasks.{IsChange, queues, wakes, releases, uses, cancels, detaches}
use Rattle.solo_laws.proofs.Following.Using.{Fits, asks, comes, put_lying, woken_fits, released_fits, cancelled_fits, detached_fits}
use Rattle.solo_laws.proofs.Following.Using.{used_fits, used_kept, use_queues, wake_and_release}
use Rattle.solo_laws.proofs.Following.Quiet.{same_end, both_ask, first}
use Rattle.solo_laws.proofs.Following.Telling.{tells_none, tells_last, last_facts}
use Rattle.solo_laws.proofs.Following.Waking.{is_there}

module _ {B : Type 0} where
  -- what is seen first, and then
  pub step : {q r : List B} (xs a b : List B) → q ≡ xs ++ a → r ≡ q ++ b → r ≡ xs ++ (a ++ b)
  step xs a b one two = two ∙ (ap (λ es. es ++ b) one ∙ append_assoc xs a b)

  pub three : {q r : List B} (xs a b c : List B) → q ≡ xs ++ (a ++ b) → r ≡ q ++ c → r ≡ xs ++ (a ++ (b ++ c))
  three xs a b c one two = step xs (a ++ b) c one two ∙ ap (λ es. xs ++ es) (append_assoc a b c)

module _ {T A : Type 0} where
  pub put_events : (f : ℕ) (new : AbstractTask T A) (p : Plain T A) → (put f new p).events ≡ p.events
  put_events f new p = by (slice_get p.futures f)
    where
      by : (o : Option (Future T A))
          → (on o (λ x p. record p { futures = slice_set p.futures f (record x { task = told_of new }) }) p).events ≡ p.events
      by None = refl
      by (Some x) = refl

module _ {T X : Type 0} where
  quiet_events : (f : ℕ) (p : Plain T (SoloWaker X)) → (used wakes_of (λ p. p) f p).events ≡ p.events
  quiet_events f p = by (abstract.release (abstract.wake (task f p)))
    where
      by_one : (new : AbstractTask T (SoloWaker X)) (b : Bool) → (if b then appended f (put f new p) else put f new p).events ≡ p.events
      by_one new true = put_events f new p
      by_one new false = put_events f new p

      by : (new : AbstractTask T (SoloWaker X)) → (becomes wakes_of (λ p. p) f new p).events ≡ p.events
      by new = by_one new (is_some (info_of (task f p) new))

  quiet_rings : (w : SoloWaker X) (p : Plain T (SoloWaker X))
      → (called wakes_of (λ s. s) w p).events ≡ p.events ++ rings (turns.outside (Some w))
  quiet_rings (OfTask t) p = quiet_events t.number p ∙ sym (append-nil p.events)
  quiet_rings (Outside w) p = refl

module _ {F T X : Type 0} (aside : Option Due) (name : ℕ → Task) (c : Choice) (s : Solo F T X) (p : Plain T (SoloWaker X))
    (many : length p.lying ≤ c.tells) (r : FollowsBut aside name s p) where
  abbrev last_outside : Option X
  last_outside = turns.outside (last_waker s.sleepers.wakers)

  told_last : (ls : List (Lying (SoloWaker X))) → p.lying ≡ ls → is_told ls ≡ false
      → (tell wakes_of c p).events ≡ p.events ++ rings (choose (turns.is_full s) last_outside None)
  told_last [] is told = absurd cc
  told_last (m ∷ ms) is told =
      let none : any is_called p.lying ≡ false = ap (any is_called) is ∙ told in
      let i : ℕ = length ms in
      let long : suc i ≡ length p.lying = sym (ap length is) in
      let l = get_below p.lying i (omega (arith, long)) in
      let w = its_waker_of p.lying i l.0 none l.1 in
      let facts = last_facts aside name c s p i l.0 w.0 r none long l.1 w.1 in
      ap (λ (q : Plain T (SoloWaker X)). q.events) (tells_last c p i l.0 w.0 none long many l.1 w.1)
      ∙ (quiet_rings w.0 (record p { lying = slice_set p.lying i (called_one l.0) })
      ∙ ap (λ o. p.events ++ rings o)
      (sym (ap (λ b. choose b last_outside None) facts.0 ∙ ap (λ o. turns.outside o) facts.1)))

  -- whom it tells is shown, where that is somebody from outside
  pub told_shows : (tell wakes_of c p).events ≡ p.events ++ rings (turns.told_waker s)
  told_shows = by s.notified refl
    where
      by : (b : Bool) → s.notified ≡ b
          → (tell wakes_of c p).events ≡ p.events ++ rings (choose b None (choose (turns.is_full s) last_outside None))
      by true is =
          ap (λ (q : Plain T (SoloWaker X)). q.events) (tells_none c p.lying p refl (sym r.asleep.flag ∙ is))
          ∙ sym (append-nil p.events)
      by false is = told_last p.lying refl (sym r.asleep.flag ∙ is)

module _ {F T X : Type 0} (aside : Option Due) (name : ℕ → Task) (c : Choice) (f : ℕ) (s : Solo F T X) (p : Plain T (SoloWaker X))
    (at : f < length p.futures) (r : FollowsBut aside name s p) (many : length p.lying ≤ c.tells) (life : HasLife 2 s.lines) where
  abbrev loud : Plain T (SoloWaker X) → Plain T (SoloWaker X)
  loud p = tell wakes_of c p

  module _ (g : Kept T X → Kept T X) (q : Kept T X → Bool) (h : AbstractTask T (SoloWaker X) → AbstractTask T (SoloWaker X))
      (is : IsChange h) (fits : Fits g q h) where
    abbrev now : Solo F T X
    now = turns.turned g (name f) s

    abbrev after : Plain T (SoloWaker X)
    after = put f (h (task f p)) p

    abbrev told_if : Bool → Told X
    told_if b =
        choose
        b
        (record { sleeper = turns.told_waker (turns.lined (name f) now); returned = None })
        (record { sleeper = None; returned = Some (name f) })

    shows_by : (b : Bool) → asked q false (name f) s.cells ≡ b → b ≡ queues h (task f p)
        → (becomes wakes_of loud f (h (task f p)) p).events
        ≡ p.events ++ rings (turns.schedule_if_answer b (name f) now).sleeper
    shows_by false queued same =
        subst (λ b. (if b then loud (appended f after) else after).events ≡ p.events ++ []) same
        (put_events f (h (task f p)) p ∙ sym (append-nil p.events))
    shows_by true queued same =
        let both = comes aside name g q h is fits f s p at r queued (younger 1 s.lines life) in
        let few : length (appended f after).lying ≤ c.tells =
        subst (λ (ls : List (Lying (SoloWaker X))). length ls ≤ c.tells) (sym (put_lying f (h (task f p)) p)) many in
        subst
        (λ b. (if b then loud (appended f after) else after).events
        ≡ p.events ++ rings (turns.schedule_if_answer true (name f) now).sleeper)
        same
        (told_shows aside name c (turns.lined (name f) now) (appended f after) few both.1
        ∙ (ap (λ es. es ++ rings (turns.told_waker (turns.lined (name f) now))) (put_events f (h (task f p)) p)
        ∙ ap (λ b. p.events ++ rings (told_if b).sleeper) (sym both.0)))

    pub changes_show : (becomes wakes_of loud f (h (task f p)) p).events
        ≡ p.events ++ rings (turns.schedule_if_answer (asked q false (name f) s.cells) (name f) now).sleeper
    changes_show = shows_by (asked q false (name f) s.cells) refl (asks aside name g q h is fits f s p at r)

  pub woken_shows : (wake wakes_of loud f p).events ≡ p.events ++ rings (solo.wake_answer (name f) s).sleeper
  woken_shows = changes_show cells.woken cells.wake_queues abstract.wake wakes woken_fits

  pub released_shows : (release wakes_of loud f p).events ≡ p.events ++ rings (solo.release_answer (name f) s).sleeper
  released_shows = changes_show cells.released cells.release_queues abstract.release releases released_fits

  pub used_shows : (used wakes_of loud f p).events ≡ p.events ++ rings (solo.wake_and_release_answer (name f) s).sleeper
  used_shows =
      subst
      (λ b. (used wakes_of loud f p).events
      ≡ p.events ++ rings (turns.schedule_if_answer b (name f) (turns.turned cells.released (name f) (first (name f) s))).sleeper)
      (sym (both_ask (name f) s))
      (subst
      (λ (z : Solo F T X). (used wakes_of loud f p).events
      ≡ p.events ++ rings (turns.schedule_if_answer (asked use_queues false (name f) s.cells) (name f) z).sleeper)
      (sym (same_end (name f) s))
      (changes_show used_kept use_queues wake_and_release uses used_fits))

  pub cancelled_shows : (becomes wakes_of loud f (abstract.cancel (task f p)).task p).events
      ≡ p.events ++ rings (solo.cancel_answer (name f) s).sleeper
  cancelled_shows =
      subst
      (λ b. (becomes wakes_of loud f (abstract.cancel (task f p)).task p).events
      ≡ p.events ++ rings (turns.schedule_if_answer b (name f) (turns.turned cells.cancelled (name f) s)).sleeper)
      (is_there cells.cancel_queues (name f) s.cells)
      (changes_show cells.cancelled (λ v. is_some (cells.cancel_queues v)) (λ t. (abstract.cancel t).task) cancels cancelled_fits)

  pub detached_shows : (becomes wakes_of loud f (abstract.detach (task f p)).task p).events
      ≡ p.events ++ rings (solo.detach_answer (name f) s).sleeper
  detached_shows =
      subst
      (λ b. (becomes wakes_of loud f (abstract.detach (task f p)).task p).events
      ≡ p.events ++ rings (turns.schedule_if_answer b (name f) (turns.turned cells.detached (name f) s)).sleeper)
      (is_there cells.detach_queues (name f) s.cells)
      (changes_show cells.detached (λ v. is_some (cells.detach_queues v)) (λ t. (abstract.detach t).task) detaches detached_fits)
