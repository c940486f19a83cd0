-- What the calls on tasks leave of an executor: its table, where futures are, its runs' queues, its kind and how many were accepted;
-- and of its sleepers those that aren't told.
use Rattle.std.proofs.Common.{◌≡◌, ℕ, Bool, true, false, map, length, take, ◌-◌, Option, Some, None, is_some, refl, sym, ap, ◌∙◌}
use Rattle.queue_steps.specs.ClosableQueue.{ClosableQueue}
use Rattle.executor_parts.specs.Sleepers.{Sleepers, last_waker, without_last}
use Rattle.solo.specs.declared.names.Kind.{Kind}
use Rattle.solo.specs.declared.names.Task.{Task}
use Rattle.solo.specs.declared.names.SoloWaker.{SoloWaker}
use Rattle.solo.specs.declared.names.SoloWaker.TheVariants.{Task as OfTask, Outside}
use Rattle.solo.specs.declared.cells.Cells.{Cells}
use Rattle.solo.specs.declared.solo.Solo.{Solo}
use Rattle.solo.specs.OwnQueues.{OwnQueuesValue}
use Rattle.solo.specs.Cells.{asked}
use Rattle.solo.specs.Cells as cells
use Rattle.solo.specs.Table.{TableValue}
use Rattle.solo.specs.Turns as turns
use Rattle.solo.specs.Solo as solo
use Rattle.solo_laws.specs.Alike as alike
use Rattle.solo_laws.specs.Tabled.{row, home_of}
use Rattle.solo_laws.proofs.Prompt.{chosen}
use Rattle.solo_laws.proofs.Following.Lists.{take_all, take_twice}
use Rattle.solo_laws.proofs.Following.Homes.{Stays, home_changed, home_tidied, released_stays, held_stays, polled_stays}

module _ {F T X : Type 0} (old : Solo F T X) where
  -- those that were told go from the end
  abbrev pub Slept : Sleepers (SoloWaker X) → Type 0
  Slept sleepers =
      ((n : ℕ) × (sleepers.wakers ≡ take n old.sleepers.wakers)) × (sleepers.count ≡ old.sleepers.count)
      × (sleepers.rooms ≡ old.sleepers.rooms) × (sleepers.free ≡ old.sleepers.free)

  abbrev Holds : Kind → TableValue F → ℕ → Cells T X → Sleepers (SoloWaker X) → OwnQueuesValue → TableValue F → ClosableQueue Task
      → Type 0
  Holds kind table accepted cells sleepers runs going leaving =
      (map row table.entries ≡ map row old.table.entries) × (table.limit ≡ old.table.limit) × (accepted ≡ old.accepted)
      × (kind ≡ old.kind) × ((u : Task) → home_of u cells ≡ home_of u old.cells) × Slept sleepers × (runs ≡ old.runs)
      × (going ≡ old.going) × (leaving ≡ old.leaving)

  abbrev pub Base : Solo F T X → Type 0
  Base s = Holds s.kind s.table s.accepted s.cells s.sleepers s.runs s.going s.leaving

  pub same : Base old
  same =
      let slept : Slept old.sleepers =
      ((length old.sleepers.wakers, sym (take_all old.sleepers.wakers)), refl, refl, refl) in
      (refl, refl, refl, refl, λ u. refl, slept, refl, refl, refl)

  -- other cells, with each future where it was
  pub celled : (s : Solo F T X) (cells : Cells T X) → ((u : Task) → home_of u cells ≡ home_of u s.cells) → Base s
      → Base (record s { cells = cells })
  celled s cells homes b = (b.0, b.1, b.2, b.3, λ u. homes u ∙ b.4 u, b.5, b.6, b.7, b.8)

  pub turned_base : (g : cells.Kept T X → cells.Kept T X) → Stays g → (t : Task) (s : Solo F T X) → Base s
      → Base (turns.turned g t s)
  turned_base g stays t s b = celled s (cells.changed g t s.cells) (λ u. home_changed g stays t u s.cells) b

  pub swept_base : (t : Task) (s : Solo F T X) → Base s → Base (turns.swept t s)
  swept_base t s b = celled s (cells.tidied t s.cells) (λ u. home_tidied t u s.cells) b

  handed_by_base : (w : Option (SoloWaker X)) (s : Solo F T X) → Base s → Base (turns.handed_by w s)
  handed_by_base (Some (OfTask t)) s b =
      let woke : Base (turns.turned cells.woken t s) = turned_base cells.woken (λ v. refl) t s b in
      let marked : Base (turns.marked t s) =
      chosen Base (asked cells.wake_queues false t s.cells) (turns.lined t (turns.turned cells.woken t s))
      (turns.turned cells.woken t s) woke woke in
      let loose : Base (turns.turned cells.released t (turns.marked t s)) =
      turned_base cells.released released_stays t (turns.marked t s) marked in
      swept_base t (turns.loosed t (turns.marked t s))
      (chosen Base (asked cells.release_queues false t (turns.marked t s).cells)
      (turns.lined t (turns.turned cells.released t (turns.marked t s)))
      (turns.turned cells.released t (turns.marked t s)) loose loose)
  handed_by_base (Some (Outside w)) s b = b
  handed_by_base None s b = b

  pub told_base : (s : Solo F T X) → Base s → Base (turns.told s)
  told_base s b =
      let on : Solo F T X = record s { notified = true } in
      chosen Base s.notified s (turns.handed on) b
      (chosen Base (turns.is_full on)
      (turns.handed_by (last_waker s.sleepers.wakers) (record on { sleepers = without_last s.sleepers })) on
      (handed_by_base (last_waker s.sleepers.wakers) (record on { sleepers = without_last s.sleepers })
      (b.0, b.1, b.2, b.3, b.4, shorter, b.6, b.7, b.8)) b)
    where
      shorter : Slept (without_last s.sleepers)
      shorter =
          let both = take_twice (length s.sleepers.wakers - 1) b.5.0.0 old.sleepers.wakers in
          ((both.0, ap (take (length s.sleepers.wakers - 1)) b.5.0.1 ∙ both.1), b.5.1, b.5.2, b.5.3)

  pub scheduled_base : (t : Task) (s : Solo F T X) → Base s → Base (turns.scheduled t s)
  scheduled_base t s b =
      chosen Base (turns.takes t s) (turns.told (turns.lined t s)) (turns.lined t s) (told_base (turns.lined t s) b) b

  scheduled_if_base : (due : Bool) (t : Task) (s : Solo F T X) → Base s → Base (turns.scheduled_if due t s)
  scheduled_if_base due t s b = chosen Base due (turns.scheduled t s) s (scheduled_base t s b) b

  pub woken_base : (t : Task) (s : Solo F T X) → Base s → Base (solo.woken t s)
  woken_base t s b =
      scheduled_if_base (asked cells.wake_queues false t s.cells) t (turns.turned cells.woken t s)
      (turned_base cells.woken (λ v. refl) t s b)

  pub released_base : (t : Task) (s : Solo F T X) → Base s → Base (solo.released t s)
  released_base t s b =
      let z : Solo F T X = turns.turned cells.released t s in
      let due : Bool = asked cells.release_queues false t s.cells in
      swept_base t (turns.scheduled_if due t z) (scheduled_if_base due t z (turned_base cells.released released_stays t s b))

  pub used_base : (t : Task) (s : Solo F T X) → Base s → Base (solo.woken_and_released t s)
  used_base t s b =
      let y : Solo F T X = turns.turned cells.woken t s in
      let z : Solo F T X = turns.turned cells.released t y in
      swept_base t (turns.scheduled_if (solo.wakes_or_closes t s) t z)
      (scheduled_if_base (solo.wakes_or_closes t s) t z
      (turned_base cells.released released_stays t y (turned_base cells.woken (λ v. refl) t s b)))

  pub detached_base : (t : Task) (s : Solo F T X) → Base s → Base (solo.detached t s)
  detached_base t s b =
      let z : Solo F T X = turns.turned cells.detached t s in
      let due : Bool = is_some (asked cells.detach_queues None t s.cells) in
      swept_base t (turns.scheduled_if due t z) (scheduled_if_base due t z (turned_base cells.detached (λ v. refl) t s b))

  pub calls_base : (o : Option (SoloWaker X)) (s : Solo F T X) → Base s → Base (alike.calls o s)
  calls_base None s b = b
  calls_base (Some (Outside w)) s b = b
  calls_base (Some (OfTask t)) s b = used_base t s b

  pub lets_go_base : (o : Option (SoloWaker X)) (s : Solo F T X) → Base s → Base (alike.lets_go o s)
  lets_go_base None s b = b
  lets_go_base (Some (Outside w)) s b = b
  lets_go_base (Some (OfTask t)) s b = released_base t s b

  pub held_base : (t : Task) (s : Solo F T X) → Base s → Base (solo.held t s)
  held_base t s b = turned_base cells.held held_stays t s b

  pub copies_base : (w : SoloWaker X) (s : Solo F T X) → Base s → Base (alike.copies w s)
  copies_base (OfTask t) s b = held_base t s b
  copies_base (Outside w) s b = b

  pub cancelled_base : (t : Task) (s : Solo F T X) → Base s → Base (alike.cancelled t s)
  cancelled_base t s b =
      calls_base (solo.cancel_answer t s).awaiter (solo.cancelled t s)
      (scheduled_if_base (is_some (asked cells.cancel_queues None t s.cells)) t (turns.turned cells.cancelled t s)
      (turned_base cells.cancelled (λ v. refl) t s b))

  polled_base : (t : Task) (w : SoloWaker X) (s : Solo F T X) → Base s → Base (solo.polled t w s)
  polled_base t w s b = turned_base (cells.polled w) (polled_stays w) t s b

  pub registered_base : (t : Task) (w : SoloWaker X) (s : Solo F T X) → Base s → Base (alike.registered t w s)
  registered_base t w s b =
      lets_go_base (alike.replaced_by (solo.poll_answer t w s)) (solo.polled t w s) (polled_base t w s b)

  pub handle_polled_base : (copied : Bool) (t : Task) (w : SoloWaker X) (s : Solo F T X) → Base s
      → Base (alike.handle_polled copied t w s)
  handle_polled_base copied t w s b =
      chosen Base (solo.must_wait t s) (cells.choose copied (alike.registered t w (alike.copies w s)) s) (solo.polled t w s)
      (chosen Base copied (alike.registered t w (alike.copies w s)) s
      (registered_base t w (alike.copies w s) (copies_base w s b)) b) (polled_base t w s b)
