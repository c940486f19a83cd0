-- For all laws of one future.
-- What one future sees of a step that moves no task: things pass from one place to another, the drop of the executor goes
-- on, and its handle is polled. What holds of the views before and after (proofs/OneFuture/Views), in parts, each for the laws that
-- need it.
use Rattle.std.proofs.Common.{◌≡◌, ◌⊎◌, ℕ, ◌+◌, ◌^◌, ◌<◌, ◌≤◌, List, true, false}
use Rattle.executor_model.specs.{World.World, World.Done, Sound.Pend, Sound.with_ops}
use Rattle.executor_model.proofs.OneFuture.Extras.{Extra, with_extra}
use Rattle.executor_model.proofs.{Types.Op, OneFuture.Views.Seen, OneFuture.Views.seen}

-- its Runnables and wakers, the marks of its task but those of an awaiter, and what is told of polls and wakes
pub record Passes (x y : Seen) : Type 0 where
  pub number : y.number ≡ x.number
  pub tasks : y.tasks ≡ x.tasks
  pub scheduled : y.state.scheduled ≡ x.state.scheduled
  pub running : y.state.running ≡ x.state.running
  pub completed : y.state.completed ≡ x.state.completed
  pub closed : (y.state.closed ≡ x.state.closed) ⊎ ((x.state.completed ≡ true) × (y.state.closed ≡ true))
  pub handle : y.state.handle ≡ x.state.handle
  pub counted : y.state.references + (x.held + (x.pend.releases + x.pend.copies)) ≡
      x.state.references + (y.held + (y.pend.releases + y.pend.copies))
  -- a copy is made where there are few
  pub few : (y.held + (y.pend.releases + y.pend.copies) ≤ x.held + (x.pend.releases + x.pend.copies)) ⊎
      ((x.state.references < 2 ^ 40) ×
      (y.held + (y.pend.releases + y.pend.copies) ≤ x.held + (x.pend.releases + x.pend.copies) + 1))
  pub leaving : y.leaving ≡ x.leaving
  pub queued : y.queued + y.pend.waiting ≡ x.queued + x.pend.waiting
  pub table : y.table ≡ x.table
  pub tabled : y.tabled ≡ x.tabled
  pub is_static : y.is_static ≡ x.is_static
  pub polls : y.pend.polls ≡ x.pend.polls
  pub ending : y.pend.ending ≡ x.pend.ending
  pub ready : y.pend.ready ≡ x.pend.ready
  pub closing : y.pend.closing ≡ x.pend.closing
  pub settling : y.pend.settling ≡ x.pend.settling
  pub giving : y.pend.giving ≡ x.pend.giving
  pub drops : y.pend.drops ≡ x.pend.drops
  pub ousting : y.pend.ousting ≡ x.pend.ousting
  -- a use of the executor begins where another has not ended, or before the drop of the executor
  pub lent : (x.gone ≡ false) ⊎ (x.pend.borrowing ≡ 0 → y.pend.borrowing ≡ 0)
  pub phase : y.phase ≡ x.phase
  pub request : y.request ≡ x.request
  pub gone : y.gone ≡ x.gone

-- its entry, and the drop of the executor, which shuts the queues and ends when all that were there are woken
pub record Stays (x y : Seen) : Type 0 where
  pub story : (y.story ≡ x.story) ⊎ ((1 ≤ x.extra.waking) × (y.story ≡ record x.story { ended = true }))
  pub leaves : (y.extra.leaves ≡ x.extra.leaves) ⊎ ((x.table ≡ 0) × (y.extra.leaves ≤ x.extra.leaves))
  pub limit : y.limit ≡ x.limit
  pub urgent_capacity : y.urgent_capacity ≡ x.urgent_capacity
  pub plain_capacity : y.plain_capacity ≡ x.plain_capacity
  pub shut : (y.shut ≡ x.shut) ⊎ (1 ≤ x.extra.waking)

-- no part of the executor's drop, and no drop of a Runnable, comes but from another
pub record Shuts (x y : Seen) : Type 0 where
  pub closing : x.extra.closing ≡ 0 → y.extra.closing ≡ 0
  pub waking : x.extra.waking ≡ 0 → y.extra.waking ≡ 0

-- its output: one that is there is given at most, and then its task is closed
pub record Gives (x y : Seen) : Type 0 where
  pub outputs : ((y.outputs + y.extra.outs ≡ x.outputs + x.extra.outs) × (y.state.closed ≡ x.state.closed)) ⊎
      ((x.state.completed ≡ true) × ((x.state.closed ≡ false) × ((y.state.closed ≡ true) ×
      (y.outputs + y.extra.outs ≡ x.outputs + x.extra.outs + 1))))

-- what holds of an awaiter: that of a task that is completed will be taken out, and who has marked it is at it
pub record Watched (x : Seen) : Type 0 where
  pub told : x.state.completed ≡ true → x.state.awaiter ≡ true →
      1 ≤ x.extra.telling + (x.extra.taking + x.extra.storing)
  pub notified : x.state.notifying ≡ true → 1 ≤ x.extra.taking + x.extra.storing
  pub registered : x.state.registering ≡ true → 1 ≤ x.extra.storing

-- its handle
pub record Handles (x y : Seen) : Type 0 where
  pub readies : y.readies ≡ x.readies
  pub spent : ((y.spent ≡ x.spent) × ((y.state.closed ≡ x.state.closed) × (y.extra.detaches ≡ x.extra.detaches))) ⊎
      (1 ≤ y.spent)
  pub watched : (x.state.completed ≡ true → (x.state.scheduled ≡ false) × (x.state.running ≡ false)) → Watched x →
      Watched y

-- the executor's queues: nothing comes there or on its way there, but by what runs do
pub record Queues (x y : Seen) : Type 0 where
  pub common : (y.common + y.extra.appends ≤ x.common + x.extra.appends) ⊎ (1 ≤ x.extra.runs)

-- its references: none goes
pub record Refers (x y : Seen) : Type 0 where
  pub more : x.state.references ≤ y.state.references

-- all but that
pub record Shifts (x y : Seen) : Type 0 where
  pub passes : Passes x y
  pub stays : Stays x y
  pub gives : Gives x y
  pub handles : Handles x y
  pub queues : Queues x y
  pub refers : Refers x y

pub record Goes (x y : Seen) : Type 0 where
  pub passes : Passes x y
  pub stays : Stays x y
  pub shuts : Shuts x y
  pub gives : Gives x y
  pub handles : Handles x y
  pub queues : Queues x y
  pub refers : Refers x y

abbrev pub GoesBy : World → List Op → Done → Type 0
GoesBy w old d = (g : ℕ) (r : Pend) (y : Extra) →
    Goes (seen w g (with_ops g old r) (with_extra g old y)) (seen d.world g (with_ops g d.next r) (with_extra g d.next y))

abbrev pub ShiftsBy : World → List Op → Done → Type 0
ShiftsBy w old d = (g : ℕ) (r : Pend) (y : Extra) →
    Shifts (seen w g (with_ops g old r) (with_extra g old y)) (seen d.world g (with_ops g d.next r) (with_extra g d.next y))

abbrev pub ShutsBy : World → List Op → Done → Type 0
ShutsBy w old d = (g : ℕ) (r : Pend) (y : Extra) →
    Shuts (seen w g (with_ops g old r) (with_extra g old y)) (seen d.world g (with_ops g d.next r) (with_extra g d.next y))

pub shifts : (x y : Seen) → Goes x y → Shifts x y
shifts x y s = record {
  passes = s.passes;
  stays = s.stays;
  gives = s.gives;
  handles = s.handles;
  queues = s.queues;
  refers = s.refers;
}
