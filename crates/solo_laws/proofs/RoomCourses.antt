-- Other calls than spawns and the makings of ticks and runs make no room, and nothing holds more than it has places for.
use Rattle.std.proofs.Common.{◌≡◌, inl, inr, ℕ, ◌+◌, max, Bool, true, false, List, [], ◌∷◌, ◌++◌, length, Option, Some, None, Ok, Err}
use Rattle.std.proofs.Common.{slice_get, is_some, refl, sym, ap, subst, ◌∙◌, arith, length-append}
use Rattle.std.specs.List.{All}
use Rattle.std.proofs.lemmas.List.Elements.{All-nil, All-push}
use Rattle.executor_parts.specs.declared.mark.Mark.{Mark}
use Rattle.executor_parts.specs.declared.mark.Mark.TheVariants.{Urgent}
use Rattle.executor_parts.specs.declared.places.EntryPlace.{EntryPlace}
use Rattle.executor_parts.specs.Places.{Entry, entry_in, future_of}
use Rattle.queue_steps.specs.ClosableQueue.{ClosableQueue}
use Rattle.task_moves.specs.declared.local_task.answers.Back.{Back}
use Rattle.task_moves.specs.declared.local_task.answers.Back.TheVariants.{Ready, Pending}
use Rattle.solo.specs.declared.names.Kind.{Kind}
use Rattle.solo.specs.declared.names.Task.{Task}
use Rattle.solo.specs.declared.owed.Lent.{Lent}
use Rattle.solo.specs.declared.owed.Spawned.{Spawned}
use Rattle.solo.specs.declared.owed.SpawnError.{SpawnError}
use Rattle.solo.specs.declared.owed.SpawnError.TheVariants.{Full, NoMemory}
use Rattle.solo.specs.declared.own_queues.Own.{Own}
use Rattle.solo.specs.declared.solo.Solo.{Solo}
use Rattle.solo.specs.declared.cells.After.{After}
use Rattle.solo.specs.declared.cells.After.TheVariants.{Queue, Rest, Drop as DropFuture, Unknown}
use Rattle.solo.specs.Cells.{asked}
use Rattle.solo.specs.Cells as cells
use Rattle.solo.specs.Table.{new_entry, counted_waker, first_parts}
use Rattle.solo.specs.Turns as turns
use Rattle.solo.specs.Turns.{turned, swept}
use Rattle.solo.specs.Solo as solo
use Rattle.solo.specs.Closing as closing
use Rattle.solo.specs.Runs as runs
use Rattle.solo.specs.Ticks as ticks
use Rattle.solo_laws.specs.Calls.{Call, Does, Course, Spawn, SpawnRefused, Take, Settle, Finish, Wake, WakeAndRelease, Hold, Release}
use Rattle.solo_laws.specs.Calls.{Cancel, Detach, Poll, Retract, MakeTick, TickTake}
use Rattle.solo_laws.specs.Calls.{TickSearch, TickSleep, TickLeave, MakeRun, RunBegin, RunTake}
use Rattle.solo_laws.specs.Calls.{RunSearch, RunLeave, RunDrain, Leak, LeakNext, Close, Drain}
use Rattle.solo_laws.specs.Futures.{futures}
use Rattle.solo_laws.specs.Rooms.{places_in, numbers_of, HasPlaces, may_take_memory, MakesNoRoom, HasPlacesForAll}
use Rattle.solo_laws.proofs.RoomParts.{LineFits, LinesFit, pushed_fits, rest_fits, taken_fits, closed_fits, listed_fits}
use Rattle.solo_laws.proofs.RoomFrames.{Most, Within, unwoken_fits, rest_places, turned_in, swept_in, loosed_in, told_in, scheduled_in}
use Rattle.solo_laws.proofs.RoomFrames.{scheduled_if_in, let_go_in, left_in, put_in}
use Rattle.solo_laws.proofs.RoomFrames.{begun_in, popped_in, tick_taken_in, tick_searched_in, slept_in}
use Rattle.solo_laws.proofs.RoomFrames.{tick_left_in, run_taken_in, run_searched_in, run_drained_in}

all_pushed_fits : {F : Type 0} (limit : ℕ) (es : List (Entry F (Option Task))) (q : ClosableQueue Task) → LineFits limit q
    → LineFits limit (closing.pushed_all es q)
all_pushed_fits limit [] q p = p
all_pushed_fits limit (e ∷ es) q p = all_pushed_fits limit es (closing.pushed_if e.waker q) (one e.waker)
  where
    one : (waker : Option Task) → LineFits limit (closing.pushed_if waker q)
    one (Some task) = pushed_fits limit task q p
    one None = p

module _ {F T X : Type 0} (m : Most) where
  taken_by : (first : Option Task) (s : Solo F T X) → Within m s → Within m (solo.taken_by first s)
  taken_by None s p = p
  taken_by (Some task) s p = begun_in m task (turns.told s) (told_in m s p)

  pending_by : (after : After) (lent : Lent) (future : F) (s : Solo F T X) → Within m s → Within m (solo.pending_by after lent future s)
  pending_by DropFuture lent future s p = p
  pending_by Unknown lent future s p = p
  pending_by Rest lent future s p = put_in m lent.place (Some future) s p
  pending_by Queue lent future s p =
      scheduled_in m lent.task (solo.put_back lent future s) (put_in m lent.place (Some future) s p)

  settled : (lent : Lent) (back : Back F T) (s : Solo F T X) → Within m s → Within m (solo.settled lent back s)
  settled lent (Ready output) s p =
      let gone : Solo F T X = turns.left lent.place s in
      swept_in m lent.task (turned (cells.ended_ready output) lent.task gone)
      (turned_in m (cells.ended_ready output) lent.task gone (left_in m lent.place s p))
  settled lent (Pending future) s p =
      pending_by (solo.after_poll lent s) lent future (turned (cells.ended_pending lent.place) lent.task s)
      (turned_in m (cells.ended_pending lent.place) lent.task s p)

  finished : (lent : Lent) (s : Solo F T X) → Within m s → Within m (solo.finished lent s)
  finished lent s p =
      let gone : Solo F T X = turns.left lent.place s in
      swept_in m lent.task (turned cells.finished lent.task gone) (turned_in m cells.finished lent.task gone (left_in m lent.place s p))

  detached : (task : Task) (s : Solo F T X) → Within m s → Within m (solo.detached task s)
  detached task s p =
      let due : Bool = is_some (asked cells.detach_queues None task s.cells) in
      swept_in m task (turns.scheduled_if due task (turned cells.detached task s))
      (scheduled_if_in m due task (turned cells.detached task s) (turned_in m cells.detached task s p))

  woken_and_released : (task : Task) (s : Solo F T X) → Within m s → Within m (solo.woken_and_released task s)
  woken_and_released task s p =
      let loose : Solo F T X = turned cells.released task (turned cells.woken task s) in
      swept_in m task (turns.scheduled_if (solo.wakes_or_closes task s) task loose)
      (scheduled_if_in m (solo.wakes_or_closes task s) task loose
      (turned_in m cells.released task (turned cells.woken task s) (turned_in m cells.woken task s p)))

  woken : (task : Task) (s : Solo F T X) → Within m s → Within m (solo.woken task s)
  woken task s p =
      scheduled_if_in m (asked cells.wake_queues false task s.cells) task (turned cells.woken task s) (turned_in m cells.woken task s p)

  cancelled : (task : Task) (s : Solo F T X) → Within m s → Within m (solo.cancelled task s)
  cancelled task s p =
      scheduled_if_in m (is_some (asked cells.cancel_queues None task s.cells)) task (turned cells.cancelled task s)
      (turned_in m cells.cancelled task s p)

  retracted_future : (future : Option F) (task : Task) (s : Solo F T X) → Within m s → Within m (closing.retracted_future future task s)
  retracted_future (Some future) task s p = p
  retracted_future None task s p =
      swept_in m task (turned cells.finished task s) (turned_in m cells.finished task s p)

  retracted_by : (place : Option EntryPlace) (task : Task) (s : Solo F T X) → Within m s → Within m (closing.retracted_by place task s)
  retracted_by (Some place) task s p =
      retracted_future (future_of (entry_in place s.table.entries)) task (closing.out place s) (put_in m place None s p)
  retracted_by None task s p = p

  retracted : (task : Task) (s : Solo F T X) → Within m s → Within m (closing.retracted task s)
  retracted task s p =
      retracted_by (asked cells.retract_answer None task s.cells) task (turned cells.retracted task s)
      (turned_in m cells.retracted task s p)

  leaving_woken : (task : Task) (s : Solo F T X) → Within m s → Within m (closing.leaving_woken task s)
  leaving_woken task s p =
      let q : Within m (solo.woken task s) = woken task s p in
      swept_in m task (turns.loosed task (solo.woken task s)) (loosed_in m task (solo.woken task s) q)

  line_drained_by : (first : Option Task) (s : Solo F T X) → Within m s → Within m (closing.line_drained_by first s)
  line_drained_by (Some task) s p = retracted task s p
  line_drained_by None s p = p

  waking : (first : Option Task) (s : Solo F T X) → Within m s → Within m (closing.drained_waking first s)
  waking (Some task) s p = leaving_woken task s p
  waking None s p =
      let shut : Solo F T X = closing.shut_line s in
      line_drained_by (closing.first_lined shut) (closing.first_out shut)
      (p.0, p.1, taken_fits m.limit Urgent shut.lines p.2, p.3, p.4, p.5)

  first_left : (s : Solo F T X) → Within m s → Within m (closing.first_left s)
  first_left s p = (p.0, p.1, p.2, p.3, p.4, rest_fits m.limit s.leaving p.5)

  to_wake : (waker : Option Task) (s : Solo F T X) → Within m s → Within m (closing.to_wake waker s)
  to_wake (Some task) s p = (p.0, p.1, p.2, p.3, p.4, pushed_fits m.limit task s.leaving p.5)
  to_wake None s p = p

  drained_by : (parts : Option (Option F × Option Task)) (s : Solo F T X) → Within m s → Within m (closing.drained_by parts s)
  drained_by (Some parts) s p = to_wake parts.1 s p
  drained_by None s p = waking (slice_get s.leaving.items 0) (closing.first_left s) (first_left s p)

  drained : (s : Solo F T X) → Within m s → Within m (closing.drained s)
  drained s p =
      drained_by (first_parts s.going.entries) (closing.first_going s)
      (p.0, rest_places m.places m.entries m.limit s.table s.going p.1, p.2, p.3, p.4, p.5)

  leak_by : (first : Option Task) (s : Solo F T X) → Within m s → Within m (closing.leak_woken_by first s)
  leak_by (Some task) s p = leaving_woken task s p
  leak_by None s p = p

  leaked : (s : Solo F T X) → Within m s → Within m (closing.leaked s)
  leaked s p = (
    p.0,
    unwoken_fits m.places m.entries m.limit s.table s.going p.1,
    p.2,
    p.3,
    p.4,
    all_pushed_fits m.limit s.table.entries s.leaving p.5,
  )

  closed : (s : Solo F T X) → Within m s → Within m (closing.closed s)
  closed s p =
      let all = p.1.0 in
      let both = p.1.5 in
      (p.0, (omega (arith, all), p.1.2, p.1.1, p.1.4, p.1.3, omega (arith, both)), p.2, p.3, p.4, p.5)

  moved_to : (new after : Solo F T X) → new ≡ after → Within m after → Within m new
  moved_to new after is p = subst (Within m) (sym is) p

  -- what no other call than a spawn and the making of a tick or a run leads out of
  within : (call : Call F T X) (old new : Solo F T X) → Does call old new → may_take_memory call ≡ false → Within m old → Within m new
  within (Spawn mark future) old new does is_other p = absurd cc
  within (SpawnRefused mark future) old new does is_other p = absurd cc
  within Take old new is is_other p = moved_to new (solo.taken old) is (taken_by (solo.sought old) (solo.popped old) (popped_in m old p))
  within (Settle lent back) old new is is_other p = moved_to new (solo.settled lent back old) is (settled lent back old p)
  within (Finish lent) old new is is_other p = moved_to new (solo.finished lent old) is (finished lent old p)
  within (Wake task) old new is is_other p = moved_to new (solo.woken task old) is (woken task old p)
  within (WakeAndRelease task) old new is is_other p = moved_to new (solo.woken_and_released task old) is (woken_and_released task old p)
  within (Hold task) old new is is_other p = moved_to new (solo.held task old) is (turned_in m cells.held task old p)
  within (Release task) old new is is_other p = moved_to new (solo.released task old) is (let_go_in m task old p)
  within (Cancel task) old new is is_other p = moved_to new (solo.cancelled task old) is (cancelled task old p)
  within (Detach task) old new is is_other p = moved_to new (solo.detached task old) is (detached task old p)
  within (Poll task waker) old new is is_other p = moved_to new (solo.polled task waker old) is
      (turned_in m (cells.polled waker) task old p)
  within (Retract task) old new is is_other p = moved_to new (closing.retracted task old) is (retracted task old p)
  within MakeTick old new does is_other p = absurd cc
  within (TickTake ticker waker) old new is is_other p = moved_to new (ticks.taken ticker waker old) is (tick_taken_in m ticker waker old p)
  within (TickSearch ticker) old new is is_other p = moved_to new (ticks.searched ticker old) is (tick_searched_in m ticker old p)
  within (TickSleep ticker waker) old new is is_other p = moved_to new (ticks.slept ticker waker old) is (slept_in m ticker waker old p)
  within (TickLeave ticker) old new is is_other p = moved_to new (ticks.left ticker old) is (tick_left_in m ticker old p)
  within MakeRun old new does is_other p = absurd cc
  within (RunBegin runner) old new is is_other p =
      moved_to new (runs.begun runner old) is (p.0, p.1, p.2, p.3, listed_fits m.queues runner.number old.runs p.4, p.5)
  within (RunTake runner ticker waker start) old new is is_other p =
      moved_to new (runs.took runner ticker waker start old) is (run_taken_in m runner ticker waker start old p)
  within (RunSearch runner ticker start) old new is is_other p =
      moved_to new (runs.searched runner ticker start old) is (run_searched_in m runner ticker start old p)
  within (RunLeave runner) old new is is_other p =
      moved_to new (runs.left runner old) is (p.0, p.1, p.2, p.3, closed_fits m.queues runner.number old.runs p.4, p.5)
  within (RunDrain leaving) old new is is_other p =
      moved_to new (runs.drained leaving old) is (run_drained_in m (runs.first_left leaving.own) leaving.ticker old p)
  within Leak old new is is_other p = moved_to new (closing.leaked old) is (leaked old p)
  within LeakNext old new is is_other p =
      moved_to new (closing.leak_woken old) is
      (leak_by (slice_get old.leaving.items 0) (closing.first_left old) (first_left old p))
  within Close old new is is_other p = moved_to new (closing.closed old) is (closed old p)
  within Drain old new is is_other p = moved_to new (closing.drained old) is (drained old p)

module _ {F T X : Type 0} where
  -- as much as there is
  abbrev measure : ℕ → Solo F T X → Most
  measure limit s = record {
    cells = length s.cells.slab.slots;
    capacity = s.cells.slab.capacity;
    places = places_in s.table + places_in s.going;
    entries = futures s;
    rooms = s.sleepers.rooms;
    numbers = max (numbers_of s.sleepers) s.sleepers.rooms;
    queues = length s.runs.queues;
    limit = limit;
  }

  -- nothing has more than it has places for, whatever room there is
  abbrev Fit : ℕ → Solo F T X → Type 0
  Fit limit s = Within (measure limit s) s

  tight : (m : Most) (s : Solo F T X) → Within m s → Fit m.limit s
  tight m s p = (
    (omega arith, refl),
    (omega arith, p.1.1, p.1.2, p.1.3, p.1.4, omega arith),
    p.2,
    (p.3.0, p.3.1, omega arith, omega arith, omega arith),
    (omega arith, p.4.1),
    p.5,
  )

  spawned_fit : (limit : ℕ) (mark : Mark) (future : F) (spawned : Spawned X) (old new : Solo F T X)
      → solo.Spawns mark future old (Ok spawned) new → Fit limit old → Fit limit new
  spawned_fit limit mark future spawned old new does p =
      let s : Solo F T X = does.0 in
      let accepts = does.1.0 in
      let entry = new_entry accepts.place future (counted_waker (solo.counts old.kind) spawned.task) in
      let longer = length-append old.table.entries (entry ∷ []) in
      let below = accepts.below in
      let limit_is = p.1.1 in
      let entries : length s.table.entries ≡ length (old.table.entries ++ entry ∷ []) = ap (λ t. length t.entries) accepts.entered in
      let entered : Solo F T X = record old { table = s.table; cells = s.cells; accepted = s.accepted } in
      let q : Fit limit entered = (
        (omega arith, refl),
        (
          omega arith,
          ap (λ t. t.limit) accepts.entered ∙ p.1.1,
          p.1.2,
          omega (arith, longer, below, limit_is, entries),
          p.1.4,
          omega arith,
        ),
        p.2,
        p.3,
        p.4,
        p.5,
      ) in
      let number = ap (λ (t : Solo F T X). t.accepted) does.1.1 in
      let same : s ≡ entered = subst (λ n. s ≡ record old { table = s.table; cells = s.cells; accepted = n }) (sym number) does.1.1 in
      let after : Within (measure limit s) (turns.scheduled spawned.task s) =
      scheduled_in (measure limit s) spawned.task s (subst (Fit limit) (sym same) q) in
      subst (Fit limit) (sym does.2) (tight (measure limit s) (turns.scheduled spawned.task s) after)

  refused_by : (limit : ℕ) (old new : Solo F T X) → length new.table.entries ≡ length old.table.entries
      → new.table.limit ≡ old.table.limit → new ≡ record old { table = new.table; cells = new.cells } → Fit limit old → Fit limit new
  refused_by limit old new entries same others p =
      let few = p.1.3 in
      let q : Fit limit (record old { table = new.table; cells = new.cells }) =
      ((omega arith, refl), (omega arith, same ∙ p.1.1, p.1.2, omega (arith, entries, few), p.1.4, omega arith), p.2, p.3, p.4, p.5) in
      subst (Fit limit) (sym others) q

  refused_fit : (limit : ℕ) (mark : Mark) (future : F) (refused : SpawnError F) (old new : Solo F T X)
      → solo.Spawns mark future old (Err refused) new → Fit limit old → Fit limit new
  refused_fit limit mark future (Full back) old new does p =
      refused_by limit old new (ap (λ t. length t.entries) does.0.2.table) (ap (λ t. t.limit) does.0.2.table) does.1 p
  refused_fit limit mark future (NoMemory back) old new does p =
      refused_by limit old new (ap (λ t. length t.entries) does.0.3.table) (ap (λ t. t.limit) does.0.3.table) does.1 p

  roomy_fit : (limit : ℕ) (s : Solo F T X) → Fit limit s → Fit limit (ticks.roomy s)
  roomy_fit limit s p =
      let within = p.3.1 in
      (p.0, p.1, p.2, (p.3.0, omega (arith, within), omega arith, omega arith, omega arith), p.4, p.5)

  made_fit : (limit : ℕ) (s : Solo F T X) → Fit limit s → Fit limit (runs.made s)
  made_fit limit s p =
      let one : Own = record { number = s.runs.made; queue = [] } in
      let q : Fit limit (ticks.roomy s) = roomy_fit limit s p in
      (q.0, q.1, q.2, q.3, (omega arith, All-push HasPlaces s.runs.queues one q.4.1 (omega arith)), q.5)

  other_fit : (limit : ℕ) (call : Call F T X) (old new : Solo F T X) → Does call old new → may_take_memory call ≡ false
      → Fit limit old → Fit limit new
  other_fit limit call old new does is_other p = tight (measure limit old) new (within (measure limit old) call old new does is_other p)

  making_fit : (limit : ℕ) (call : Call F T X) (old new : Solo F T X) → Does call old new → may_take_memory call ≡ true
      → Fit limit old → Fit limit new
  making_fit limit (Spawn mark future) old new does is p = spawned_fit limit mark future does.0 old new does.1 p
  making_fit limit (SpawnRefused mark future) old new does is p = refused_fit limit mark future does.0 old new does.1 p
  making_fit limit MakeTick old new (inl does) is p = subst (Fit limit) (sym does) (roomy_fit limit old p)
  making_fit limit MakeTick old new (inr does) is p = subst (Fit limit) (sym does) p
  making_fit limit MakeRun old new (inl does) is p = subst (Fit limit) (sym does) (made_fit limit old p)
  making_fit limit MakeRun old new (inr does) is p = subst (Fit limit) (sym does) p
  making_fit limit call old new does is p = absurd cc

  call_fit : (b : Bool) (limit : ℕ) (call : Call F T X) (old new : Solo F T X) → Does call old new → may_take_memory call ≡ b
      → Fit limit old → Fit limit new
  call_fit true limit call old new does is p = making_fit limit call old new does is p
  call_fit false limit call old new does is p = other_fit limit call old new does is p

  course : (limit : ℕ) (calls : List (Call F T X)) (first last : Solo F T X) → Course calls first last → Fit limit first → Fit limit last
  course limit [] first last is p = subst (Fit limit) (sym is) p
  course limit (call ∷ calls) first last does p =
      course limit calls does.0 last does.2 (call_fit (may_take_memory call) limit call first does.0 does.1 refl p)

  new_fit : (limit : ℕ) (kind : Kind) (s : Solo F T X) → solo.IsNew limit kind s → Fit limit s
  new_fit limit kind s new =
      let none : length s.table.entries ≡ 0 = ap (λ t. length t.entries) new.table in
      let gone : length s.going.entries ≡ 0 = ap (λ t. length t.entries) new.going in
      let wakers : length s.sleepers.wakers ≡ 0 = ap (λ sleepers. length sleepers.wakers) new.sleepers in
      let count : s.sleepers.count ≡ 0 = ap (λ sleepers. sleepers.count) new.sleepers in (
        (omega arith, refl),
        (omega arith, ap (λ t. t.limit) new.table, ap (λ t. t.limit) new.going, omega (arith, none), omega (arith, gone), omega arith),
        subst (LinesFit limit) (sym new.lines) ((refl, omega arith), (refl, omega arith)),
        (omega (arith, wakers), omega (arith, count), omega arith, omega arith, omega arith),
        (omega arith, subst (λ o. All HasPlaces o.queues) (sym new.runs) (All-nil HasPlaces)),
        subst (LineFits limit) (sym new.leaving) (refl, omega arith),
      )

  fit_after : (limit : ℕ) (kind : Kind) (calls : List (Call F T X)) (first last : Solo F T X) → solo.IsNew limit kind first
      → Course calls first last → Fit limit last
  fit_after limit kind calls first last new does = course limit calls first last does (new_fit limit kind first new)

  pub makes_no_room : (limit : ℕ) (kind : Kind) (calls : List (Call F T X)) (first last : Solo F T X) → solo.IsNew limit kind first
      → Course calls first last → (call : Call F T X) (next : Solo F T X) → Does call last next → may_take_memory call ≡ false
      → MakesNoRoom last next
  makes_no_room limit kind calls first last new does call next more is_other =
      let q : Within (measure limit last) next =
      within (measure limit last) call last next more is_other (fit_after limit kind calls first last new does) in
      record { entries = q.1.5; places = q.1.0; cells = q.0.0; capacity = q.0.1; sleepers = q.3.2; numbers = q.3.4; own_queues = q.4.0 }

  pub has_places : (limit : ℕ) (kind : Kind) (calls : List (Call F T X)) (first last : Solo F T X) → solo.IsNew limit kind first
      → Course calls first last → HasPlacesForAll limit last
  has_places limit kind calls first last new does =
      let p : Fit limit last = fit_after limit kind calls first last new does in
      let listed = p.3.0 in
      let within = p.3.1 in
      record {
        futures = p.1.3;
        going = p.1.4;
        urgent = p.2.0.1;
        plain = p.2.1.1;
        leaving = p.5.1;
        sleepers = within;
        wakers = omega (arith, listed, within);
        own_queues = p.4.1;
      }
