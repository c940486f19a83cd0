-- A change of a task that no longer waits for a wake queues it.
use Rattle.std.proofs.Common.{◌≡◌, ◌-◌, ◌==◌, ◌&&◌, ◌||◌, not, if◌then◌else◌, Bool, true, false, List, [], ◌∷◌, ◌++◌, length}
use Rattle.std.proofs.Common.{is_some, None, slice_get, refl, ap, ◌∙◌}
use Rattle.task_moves.specs.AbstractTask as abstract
use Rattle.task_moves.specs.AbstractTask.{AbstractTask, Phase, Idle, Queued, Polling, PollingWoken, Finished, is_idle}
use Rattle.task_moves.specs.AbstractTask.PendingEnd.{Drops as EndDrops, Queues as EndQueues, Forgets as EndForgets, Rests as EndRests}
use Rattle.task_moves.specs.LocalTask.{info_of, info_from}
use Rattle.solo_laws.proofs.Following.Ending.{is_back}
use Rattle.solo_laws.proofs.Following.Rising.{get_at}

told_more : (infos : List Bool) (b : Bool) → is_some (info_from (slice_get (infos ++ b ∷ []) (length infos))) ≡ true
told_more infos b = ap (λ o. is_some (info_from o)) (get_at infos [] b)

module _ {T A : Type 0} where
  -- it waits still, or is queued
  abbrev pub waits_on : AbstractTask T A → AbstractTask T A → Bool
  waits_on old new = is_idle new.phase || is_some (info_of old new)

  abbrev pub Lasts : (AbstractTask T A → AbstractTask T A) → Type 0
  Lasts h = (t : AbstractTask T A) → is_idle t.phase ≡ true → waits_on t (h t) ≡ true

  abbrev of : Phase → Bool → AbstractTask T A → AbstractTask T A
  of phase closed t = record t { phase = phase; closed = closed }

  wake_by : (phase : Phase) (closed : Bool) (t : AbstractTask T A) → is_idle phase ≡ true
      → waits_on (of phase closed t) (abstract.wake (of phase closed t)) ≡ true
  wake_by Idle true t is = refl
  wake_by Idle false t is = told_more t.infos false
  wake_by Queued closed t is = absurd cc
  wake_by Polling closed t is = absurd cc
  wake_by PollingWoken closed t is = absurd cc
  wake_by Finished closed t is = absurd cc

  pub wake_lasts : Lasts abstract.wake
  wake_lasts t is = wake_by t.phase t.closed t is

  -- by how many wakers are left
  closes : (b : Bool) (t u : AbstractTask T A) → is_idle u.phase ≡ true → u.infos ≡ t.infos
      → waits_on t (if b then abstract.close u else u) ≡ true
  closes true t u idle same =
      ap (λ b. is_idle (if b then abstract.queue false u else u).phase
      || is_some (info_of t (record (if b then abstract.queue false u else u) { closed = true }))) idle
      ∙ (ap (λ infos. is_some (info_from (slice_get (infos ++ false ∷ []) (length t.infos)))) same ∙ told_more t.infos false)
  closes false t u idle same = ap (λ b. b || is_some (info_of t u)) idle

  release_by : (phase : Phase) (closed : Bool) (t : AbstractTask T A) → is_idle phase ≡ true
      → waits_on (of phase closed t) (abstract.release (of phase closed t)) ≡ true
  release_by Idle true t is = refl
  release_by Idle false t is =
      closes (not t.handle && (t.wakers - 1 == 0)) (of Idle false t) (record (of Idle false t) { wakers = t.wakers - 1 }) refl refl
  release_by Queued closed t is = absurd cc
  release_by Polling closed t is = absurd cc
  release_by PollingWoken closed t is = absurd cc
  release_by Finished closed t is = absurd cc

  pub release_lasts : Lasts abstract.release
  release_lasts t is = release_by t.phase t.closed t is

  use_by : (phase : Phase) (closed : Bool) (t : AbstractTask T A) → is_idle phase ≡ true
      → waits_on (of phase closed t) (abstract.release (abstract.wake (of phase closed t))) ≡ true
  use_by Idle true t is = refl
  use_by Idle false t is = told_more t.infos false
  use_by Queued closed t is = absurd cc
  use_by Polling closed t is = absurd cc
  use_by PollingWoken closed t is = absurd cc
  use_by Finished closed t is = absurd cc

  pub use_lasts : Lasts (λ t. abstract.release (abstract.wake t))
  use_lasts t is = use_by t.phase t.closed t is

  cancel_by : (phase : Phase) (closed : Bool) (t : AbstractTask T A) → is_idle phase ≡ true
      → waits_on (of phase closed t) (abstract.cancel (of phase closed t)).task ≡ true
  cancel_by Idle true t is = refl
  cancel_by Idle false t is = told_more t.infos false
  cancel_by Queued closed t is = absurd cc
  cancel_by Polling closed t is = absurd cc
  cancel_by PollingWoken closed t is = absurd cc
  cancel_by Finished closed t is = absurd cc

  pub cancel_lasts : Lasts (λ t. (abstract.cancel t).task)
  cancel_lasts t is = cancel_by t.phase t.closed t is

  detach_by : (phase : Phase) (closed : Bool) (t : AbstractTask T A) → is_idle phase ≡ true
      → waits_on (of phase closed t) (abstract.detach (of phase closed t)).task ≡ true
  detach_by Idle closed t is =
      closes (not (closed || is_some t.output) && (not false && (t.wakers == 0))) (of Idle closed t)
      (record (of Idle closed t) { handle = false; closed = closed || is_some t.output; output = None }) refl refl
  detach_by Queued closed t is = absurd cc
  detach_by Polling closed t is = absurd cc
  detach_by PollingWoken closed t is = absurd cc
  detach_by Finished closed t is = absurd cc

  pub detach_lasts : Lasts (λ t. (abstract.detach t).task)
  detach_lasts t is = detach_by t.phase t.closed t is

  -- at the end of a poll after which the future is back, whatever it was before
  pub end_waits : (e : abstract.PendingEnd) (t : AbstractTask T A) → is_back e ≡ true
      → waits_on t (abstract.end_pending_by e t).task ≡ true
  end_waits EndDrops t is = absurd cc
  end_waits EndForgets t is = absurd cc
  end_waits EndQueues t is = told_more t.infos true
  end_waits EndRests t is = refl

  pub poll_idle : (w : A) (t : AbstractTask T A) → (abstract.poll w t).task.phase ≡ t.phase
  poll_idle w t = by (abstract.polled t)
    where
      by : (e : abstract.Polled T) → (abstract.poll_by e w t).task.phase ≡ t.phase
      by (abstract.Polled.Output v) = refl
      by abstract.Polled.Cancelled = refl
      by abstract.Polled.Waits = refl
