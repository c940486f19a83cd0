-- A drop in which something is owed stands as well where else both stand so, and where calls stand in other code.
use Rattle.std.proofs.Common.{◌≡◌, ℕ, List, Option, Some, None, refl, sym, ap, subst, ◌∙◌, slice_get}
use Rattle.executor_model.specs.declared.op.Waker.{Waker}
use Rattle.executor_model.specs.World.{World}
use Rattle.plain_scheduler.specs.State.{Code, Future, Plain}
use Rattle.plain_scheduler.specs.Lists.{on}
use Rattle.plain_scheduler.specs.Moves.{task}
use Rattle.machine_roads.specs.View.{Output}
use Rattle.machine_roads.specs.Road.{Follows, waking_in}
use Rattle.machine_roads.specs.Dropped.{IsEndingBy, without_run}
use Rattle.machine_roads.specs.Forgotten.{IsForgottenBy, unawaited, without_awaiter}
use Rattle.machine_roads.proofs.Puts.{put_at, put_by}
use Rattle.machine_roads.proofs.Unseen.{stands_in}

pub ending_as : {So To : World → Type 0} {w : World} {f : ℕ} {awaiter : Option Waker} → IsEndingBy So w f awaiter → To (without_run f w)
    → IsEndingBy To w f awaiter
ending_as ending follows = record {
  known = ending.known;
  over = ending.over;
  still = ending.still;
  counted = ending.counted;
  stored = ending.stored;
  awaited = ending.awaited;
  follows = follows;
}

pub forgotten_as : {So To : World → Plain Output Waker → Type 0} {w : World} {f : ℕ} {q : Plain Output Waker}
    → (codes : List (Code Output Waker)) → IsForgottenBy So w f q → To (without_awaiter f w) (unawaited f (record q { inside = codes }))
    → IsForgottenBy To w f (record q { inside = codes })
forgotten_as codes forgotten follows = record {
  known = forgotten.known;
  entered = forgotten.entered;
  spent = forgotten.spent;
  unheld = forgotten.unheld;
  finished = forgotten.finished;
  closed = forgotten.closed;
  awaited = forgotten.awaited;
  follows = follows;
}

-- other code is as it was, whether somebody awaits the task or not
pub unawaited_in : (f : ℕ) (codes : List (Code Output Waker)) (v : World) (q : Plain Output Waker) → Follows v (unawaited f q)
    → waking_in codes ≡ waking_in q.inside → Follows v (unawaited f (record q { inside = codes }))
unawaited_in f codes v q follows waking =
    subst (Follows v) (by (slice_get q.futures f))
    (stands_in codes v (unawaited f q) follows
    (waking ∙ sym (ap (λ codes. waking_in codes) (put_by (λ p. p.inside) f (record (task f q) { awaiter = None }) q (λ fs. refl)))))
  where
    by : (o : Option (Future Output Waker))
        → record (on o (λ x z. put_at f (record (task f q) { awaiter = None }) x z) q) { inside = codes }
        ≡ on o (λ x z. put_at f (record (task f q) { awaiter = None }) x z) (record q { inside = codes })
    by None = refl
    by (Some x) = refl
