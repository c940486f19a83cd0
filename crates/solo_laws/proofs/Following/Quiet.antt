-- A task that sleeps is woken by its waker, which goes, and nobody is told.
use Rattle.std.proofs.Common.{◌≡◌, ℕ, ◌<◌, ◌||◌, Bool, true, false, length, Option, Some, None, is_some, if◌then◌else◌, refl, sym, ap}
use Rattle.std.proofs.Common.{subst, ◌∙◌}
use Rattle.executor_parts.specs.declared.mark.Mark.{Mark}
use Rattle.executor_parts.specs.declared.mark.Mark.TheVariants.{Plain as PlainMark}
use Rattle.task_moves.specs.AbstractTask as abstract
use Rattle.task_moves.specs.AbstractTask.{AbstractTask}
use Rattle.task_moves.specs.LocalTask.{told as told_of, info_of, with_task}
use Rattle.solo.specs.declared.names.Task.{Task}
use Rattle.solo.specs.declared.names.SoloWaker.{SoloWaker}
use Rattle.solo.specs.declared.cells.Cells.{Cells}
use Rattle.solo.specs.declared.solo.Solo.{Solo}
use Rattle.solo.specs.Cells.{Kept, choose, asked}
use Rattle.solo.specs.Cells as cells
use Rattle.solo.specs.Lines.{pushed_in}
use Rattle.solo.specs.Turns as turns
use Rattle.plain_scheduler.specs.State.{Due, Plain}
use Rattle.plain_scheduler.specs.Moves.{put, task, appended, becomes, used}
use Rattle.solo_laws.specs.Road.{FollowsBut, HasLife, wakes as wakes_of}
use Rattle.solo_laws.proofs.Following.Due.{clash, both_true}
use Rattle.solo_laws.proofs.Following.Cells.{found, of_found, asks_found, changed_found, found_here}
use Rattle.solo_laws.proofs.Following.Tasks.{queues, queued_idle, wakes, releases, uses}
use Rattle.solo_laws.proofs.Following.Changing.{kept}
use Rattle.solo_laws.proofs.Following.Sweeping.{swept}
use Rattle.solo_laws.proofs.Following.Using.{used_kept, use_queues, wake_and_release, used_fits, becoming, changed_twice, asked_twice}
use Rattle.solo_laws.proofs.Following.Using.{put_long}

module _ {T X : Type 0} where
  pub becomes_long : (more : Plain T (SoloWaker X) → Plain T (SoloWaker X))
      → ((p : Plain T (SoloWaker X)) → length (more p).futures ≡ length p.futures)
      → (f : ℕ) (new : AbstractTask T (SoloWaker X)) (p : Plain T (SoloWaker X))
      → length (becomes wakes_of more f new p).futures ≡ length p.futures
  becomes_long more same f new p = by (is_some (info_of (task f p) new))
    where
      by : (b : Bool) → length (if b then more (appended f (put f new p)) else put f new p).futures ≡ length p.futures
      by true = same (appended f (put f new p)) ∙ put_long f new p
      by false = put_long f new p

  pub used_long : (f : ℕ) (p : Plain T (SoloWaker X)) → length (used wakes_of (λ p. p) f p).futures ≡ length p.futures
  used_long f p = becomes_long (λ p. p) (λ p. refl) f (wake_and_release (task f p)) p

  released_mark : (v : Kept T X) → cells.mark (cells.released v) ≡ cells.mark v
  released_mark v = by (cells.has_waker v)
    where
      by : (b : Bool) → cells.mark (choose b (with_task v (abstract.release v.task)) v) ≡ cells.mark v
      by true = refl
      by false = refl

module _ {F T X : Type 0} (t : Task) (s : Solo F T X) where
  abbrev pub first : Solo F T X
  first = turns.turned cells.woken t s

  abbrev pub second : Solo F T X
  second = turns.turned cells.released t first

  abbrev pub at_once : Solo F T X
  at_once = turns.turned used_kept t s

  abbrev pub releases_first : Bool
  releases_first = asked cells.release_queues false t first.cells

  same_mark : turns.mark_of t first ≡ turns.mark_of t second
  same_mark =
      asks_found cells.mark PlainMark t first.cells
      ∙ (by (found t first.cells)
      ∙ sym (asks_found cells.mark PlainMark t second.cells ∙ ap (of_found cells.mark PlainMark)
      (found_here cells.released t first.cells)))
    where
      by : (o : Option (Kept T X)) → of_found cells.mark PlainMark o
          ≡ of_found cells.mark PlainMark (changed_found cells.released o)
      by None = refl
      by (Some v) = sym (released_mark v)

  pub same_end : second ≡ at_once
  same_end = ap (λ (c : Cells T X). record s { cells = c }) (changed_twice cells.woken cells.released t s.cells)

  pub both_ask : (asked cells.wake_queues false t s.cells || releases_first) ≡ asked use_queues false t s.cells
  both_ask = asked_twice cells.woken t cells.wake_queues cells.release_queues s.cells

  -- where a wake queues it the release doesn't
  one_by_one : (asked cells.wake_queues false t s.cells ≡ true → releases_first ≡ false)
      → turns.loosed t (turns.marked t s) ≡ turns.lined_if (asked use_queues false t s.cells) t at_once
  one_by_one once = by (asked cells.wake_queues false t s.cells) refl
    where
      by : (b : Bool) → asked cells.wake_queues false t s.cells ≡ b
          → turns.loosed t (choose b (turns.lined t first) first) ≡ turns.lined_if (asked use_queues false t s.cells) t at_once
      by true is =
          let m = turns.lined t first in
          ap (λ b. choose b (turns.lined t (turns.turned cells.released t m)) (turns.turned cells.released t m)) (once is)
          ∙ (ap (λ (mark : Mark). record second { lines = pushed_in mark t s.lines }) same_mark
          ∙ (ap (λ (z : Solo F T X). turns.lined t z) same_end
          ∙ ap (λ b. choose b (turns.lined t at_once) at_once) (sym (sym both_ask ∙ ap (λ b. b || releases_first) is))))
      by false is =
          ap (λ b. choose b (turns.lined t second) second) (sym (ap (λ b. b || releases_first) is) ∙ both_ask)
          ∙ ap (λ (z : Solo F T X). turns.lined_if (asked use_queues false t s.cells) t z) same_end

module _ {F T X : Type 0} (aside : Option Due) (name : ℕ → Task) where
  once : (f : ℕ) (s : Solo F T X) (p : Plain T (SoloWaker X)) → f < length p.futures → FollowsBut aside name s p
      → asked cells.wake_queues false (name f) s.cells ≡ true → (b : Bool)
      → asked cells.release_queues false (name f) (cells.changed cells.woken (name f) s.cells) ≡ b → b ≡ false
  once f s p at r queued false is = refl
  once f s p at r queued true is =
      let k = kept aside name cells.wake_queues f s p r at queued in
      let v : Kept T X = k.0 in
      let here : cells.release_queues (cells.woken v) ≡ true =
      sym (ap (of_found cells.release_queues false) (found_here cells.woken (name f) s.cells
      ∙ ap (changed_found cells.woken) k.2))
      ∙ (sym (asks_found cells.release_queues false (name f) (cells.changed cells.woken (name f) s.cells)) ∙ is) in
      let idle =
      releases.queues (told_of (abstract.wake v.task))
      (both_true (cells.has_waker (cells.woken v)) (queues abstract.release (told_of (abstract.wake v.task))) here).1 in
      absurd (clash (queued_idle (abstract.wake v.task).phase (wakes.queues v.task k.4).1) idle.0)

  pub quietly : (f : ℕ) (s : Solo F T X) (p : Plain T (SoloWaker X)) → f < length p.futures → FollowsBut aside name s p
      → HasLife 1 s.lines → FollowsBut aside name (turns.sleeper_woken (name f) s) (used wakes_of (λ p. p) f p)
  quietly f s p at r life =
      swept aside name f (turns.loosed (name f) (turns.marked (name f) s)) (used wakes_of (λ p. p) f p)
      (subst (λ n. f < n) (sym (used_long f p)) at)
      (subst (λ (z : Solo F T X). FollowsBut aside name z (used wakes_of (λ p. p) f p))
      (sym (one_by_one (name f) s
      (λ queued. once f s p at r queued (asked cells.release_queues false (name f)
      (cells.changed cells.woken (name f) s.cells)) refl)))
      (becoming aside name used_kept use_queues wake_and_release uses used_fits f s p at r (turns.lined (name f)) (λ p. p) life
      (λ place next. next)))
