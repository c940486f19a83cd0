-- For due_futures_stand_with_their_keepers.
-- A future away from the executor's queue: none of its Runnables is there or on its way there, it isn't polled, and its
-- task won't be scheduled anew unless a poll of it begins.
use Rattle.std.proofs.Common.{◌≡◌, ◌⊎◌, ℕ, ◌+◌, ◌≤◌, List, true, false}
use Rattle.executor_laws.proofs.Types.{Op}
use Rattle.executor_model.specs.Sound.{Pend, Sound, living, queued, times, tokens, with_ops}
use Rattle.executor_model.specs.{Rows.appends_of, Weights.weigh, World.World, World.Done, World.queued_in, World.task}

-- what is used of that which holds of g
pub record Floor (w : World) (g : ℕ) (p : Pend) : Type 0 where
  pub counted : (task w g).references ≡ tokens w g p + living w g p
  pub one : tokens w g p ≤ 1
  pub live : 1 ≤ queued w g + (p.waiting + (p.polls + (p.ending + p.ready))) → (task w g).completed ≡ false
  pub ends : 1 ≤ p.closing + (p.settling + p.giving) → ((task w g).closed ≡ true) ⊎ ((task w g).completed ≡ true)
  pub owed : (task w g).scheduled ≡ true → 1 ≤ tokens w g p
  pub going : (task w g).running ≡ true → 1 ≤ p.polls + (p.ending + (p.ready + p.closing))
  pub carries : 1 ≤ queued w g + p.waiting → (task w g).scheduled ≡ true

pub floor : (w : World) (g : ℕ) (p : Pend) → Sound w g p → Floor w g p
floor w g p h = record {
  counted = h.counted;
  one = h.one;
  live = h.live;
  ends = h.ends;
  owed = h.owed;
  going = h.going;
  carries = h.carries;
}

pub record Safe (w : World) (g : ℕ) (p : Pend) (appends : ℕ) : Type 0 where
  pub none : appends ≡ 0
  pub queued : times g (queued_in w) ≡ 0
  pub resting : p.polls + p.ending ≡ 0
  pub marked : (task w g).closed ≡ false → (task w g).completed ≡ false →
      ((task w g).scheduled ≡ true) × ((task w g).running ≡ false)

-- it keeps that of g
abbrev pub KeepsSafe : World → List Op → Done → Type 0
KeepsSafe w old d = (g : ℕ) (r : Pend) (n : ℕ) → Floor w g (with_ops g old r) →
    Safe w g (with_ops g old r) (weigh (appends_of g) old + n) →
    Safe d.world g (with_ops g d.next r) (weigh (appends_of g) d.next + n)
