-- That other calls than spawns and the makings of ticks and runs make no room: telling, queueing, sleeping, searching, stealing and
-- the end of an executor leave all parts within what they had.
use Rattle.std.proofs.Common.{◌≡◌, ℕ, zero, suc, ◌+◌, ◌≤◌, ◌%◌, nat_lt, Bool, true, false, List, [], ◌∷◌, length, drop, map, Option, Some}
use Rattle.std.proofs.Common.{None}
use Rattle.std.proofs.Common.{refl, ap, arith}
use Rattle.std.proofs.lemmas.List.{length-map}
use Rattle.executor_parts.specs.declared.mark.Mark.{Mark}
use Rattle.executor_parts.specs.declared.mark.Mark.TheVariants.{Plain, Urgent}
use Rattle.executor_parts.specs.declared.places.EntryPlace.{EntryPlace}
use Rattle.executor_parts.specs.Places.{Entry, entry_in, set_future, parts_of, unwoken}
use Rattle.executor_parts.specs.Sleepers.{last_waker, without_last, woken_up, waker_of, position_of, listed}
use Rattle.task_moves.specs.declared.local_task.answers.Start.{Start}
use Rattle.task_moves.specs.declared.local_task.answers.Start.TheVariants.{Poll, Drop}
use Rattle.solo.specs.declared.names.Task.{Task}
use Rattle.solo.specs.declared.names.SoloWaker.{SoloWaker}
use Rattle.solo.specs.declared.names.SoloWaker.TheVariants.{Task as OfTask, Outside}
use Rattle.solo.specs.declared.runs.Runner.{Runner}
use Rattle.solo.specs.declared.ticks.Ticker.{Ticker}
use Rattle.solo.specs.declared.ticks.Ticker.TheVariants.{Awake, Asleep}
use Rattle.solo.specs.declared.steals.Source.{Source}
use Rattle.solo.specs.declared.steals.Source.TheVariants.{Common, Own}
use Rattle.solo.specs.declared.solo.Solo.{Solo}
use Rattle.solo.specs.OwnQueues as own
use Rattle.solo.specs.Lines.{is_empty, search_answer}
use Rattle.solo.specs.Cells.{Kept, choose, asked}
use Rattle.solo.specs.Cells as cells
use Rattle.solo.specs.Table.{TableValue, rest_of, rest_table, room_after, first_parts}
use Rattle.solo.specs.Turns.{mark_of, lined, lined_if, takes, turned, swept, marked, loosed, handed_by, is_full, handed, told, scheduled}
use Rattle.solo.specs.Turns.{scheduled_if, let_go, let_go_if, left_by_parts, left, without, out_of, begun}
use Rattle.solo.specs.Solo.{popped}
use Rattle.solo.specs.Solo as solo
use Rattle.solo.specs.Ticks as ticks
use Rattle.solo.specs.Steals.{moved, first_of, without_first, kept, stolen, share, length_of, stolen_if, is_own, stolen_at, looked}
use Rattle.solo.specs.Steals.{own_popped, look_answer, round, next_place, further_by, sought_by, sought, seek_answer}
use Rattle.solo.specs.Runs as runs
use Rattle.solo_laws.specs.Rooms.{places_in}
use Rattle.solo_laws.proofs.Frames.{set_length}
use Rattle.solo_laws.proofs.Prompt.{chosen}
use Rattle.solo_laws.proofs.Runs.{moved_on_keeps, round_on_keeps}
use Rattle.solo_laws.proofs.RoomParts.{Slots, changed_slots, tidied_slots, LineFits, LinesFit, pushed_in_fits}
use Rattle.solo_laws.proofs.RoomParts.{popped_fits, searched_fits, SleepersFit, last_sleeps, woken_sleeps, back_sleeps}
use Rattle.solo_laws.proofs.RoomParts.{asleep_sleeps, replaced_sleeps, listed_sleeps, OwnFit, changed_fits, pushed_keeps, rest_keeps}
use Rattle.solo_laws.proofs.RoomParts.{left_places}

-- of what there is at most so much
pub record Most : Type 0 where
  pub cells : ℕ
  pub capacity : ℕ
  pub places : ℕ
  pub entries : ℕ
  pub rooms : ℕ
  pub numbers : ℕ
  pub queues : ℕ
  pub limit : ℕ

module _ {F : Type 0} (places entries limit : ℕ) where
  -- both tables have so many places at most, and so many entries, and none more than the limit
  abbrev pub TablesFit : TableValue F → TableValue F → Type 0
  TablesFit t g =
      (places_in t + places_in g ≤ places) × (t.limit ≡ limit) × (g.limit ≡ limit) × (length t.entries ≤ limit)
      × (length g.entries ≤ limit) × (length t.entries + length g.entries ≤ entries)

  pub set_fits : (place : EntryPlace) (future : Option F) (t g : TableValue F) → TablesFit t g
      → TablesFit (record t { entries = set_future place future t.entries }) g
  set_fits place future t g p =
      let same = set_length place future t.entries in
      let all = p.0 in
      let few = p.3 in
      let both = p.5 in
      (omega (arith, same, all), p.1, p.2, omega (arith, same, few), p.4, omega (arith, same, both))

  pub unwoken_fits : (t g : TableValue F) → TablesFit t g → TablesFit (record t { entries = map unwoken t.entries }) g
  unwoken_fits t g p =
      let same : length (map unwoken t.entries) ≡ length t.entries = length-map t.entries unwoken in
      let all = p.0 in
      let few = p.3 in
      let both = p.5 in
      (omega (arith, same, all), p.1, p.2, omega (arith, same, few), p.4, omega (arith, same, both))

  rest_by_fits : (es : List (Entry F (Option Task))) (t g : TableValue F) → g.entries ≡ es → TablesFit t g
      → TablesFit t (record g { entries = rest_of es; has_room = room_after (first_parts es) g.has_room })
  rest_by_fits [] t g is p =
      let all = p.0 in
      let none : length g.entries ≡ 0 = ap (λ xs. length xs) is in
      let both = p.5 in
      (omega (arith, none, all), p.1, p.2, p.3, omega arith, omega (arith, none, both))
  rest_by_fits (e ∷ es) t g is p =
      let all = p.0 in
      let few = p.4 in
      let longer : length g.entries ≡ length (e ∷ es) = ap (λ xs. length xs) is in
      let both = p.5 in
      (omega (arith, longer, all), p.1, p.2, p.3, omega (arith, longer, few), omega (arith, longer, both))

  pub rest_places : (t g : TableValue F) → TablesFit t g → TablesFit t (rest_table g)
  rest_places t g p = rest_by_fits g.entries t g refl p

module _ {F T X : Type 0} (m : Most) where
  -- within these bounds
  abbrev pub Within : Solo F T X → Type 0
  Within s =
      Slots m.cells m.capacity s.cells.slab × TablesFit m.places m.entries m.limit s.table s.going × LinesFit m.limit s.lines
      × SleepersFit m.rooms m.numbers s.sleepers × OwnFit m.queues s.runs × LineFits m.limit s.leaving

  pub turned_in : (f : Kept T X → Kept T X) (task : Task) (s : Solo F T X) → Within s → Within (turned f task s)
  turned_in f task s p = (changed_slots m.cells m.capacity f task s.cells p.0, p.1, p.2, p.3, p.4, p.5)

  pub swept_in : (task : Task) (s : Solo F T X) → Within s → Within (swept task s)
  swept_in task s p = (tidied_slots m.cells m.capacity task s.cells p.0, p.1, p.2, p.3, p.4, p.5)

  pub lined_in : (task : Task) (s : Solo F T X) → Within s → Within (lined task s)
  lined_in task s p = (p.0, p.1, pushed_in_fits m.limit (mark_of task s) task s.lines p.2, p.3, p.4, p.5)

  lined_if_in : (due : Bool) (task : Task) (s : Solo F T X) → Within s → Within (lined_if due task s)
  lined_if_in due task s p = chosen Within due (lined task s) s (lined_in task s p) p

  pub loosed_in : (task : Task) (s : Solo F T X) → Within s → Within (loosed task s)
  loosed_in task s p =
      lined_if_in (asked cells.release_queues false task s.cells) task (turned cells.released task s) (turned_in cells.released task s p)

  handed_by_in : (w : Option (SoloWaker X)) (s : Solo F T X) → Within s → Within (handed_by w s)
  handed_by_in (Some (OfTask task)) s p =
      let q : Within (marked task s) =
      lined_if_in (asked cells.wake_queues false task s.cells) task (turned cells.woken task s) (turned_in cells.woken task s p) in
      swept_in task (loosed task (marked task s)) (loosed_in task (marked task s) q)
  handed_by_in (Some (Outside waker)) s p = p
  handed_by_in None s p = p

  pub told_in : (s : Solo F T X) → Within s → Within (told s)
  told_in s p =
      let on : Solo F T X = record s { notified = true } in
      let less : Solo F T X = record on { sleepers = without_last s.sleepers } in
      let q : Within less = (p.0, p.1, p.2, last_sleeps m.rooms m.numbers s.sleepers p.3, p.4, p.5) in
      chosen Within s.notified s (handed on) p
      (chosen Within (is_full on) (handed_by (last_waker s.sleepers.wakers) less) on
      (handed_by_in (last_waker s.sleepers.wakers) less q) p)

  pub scheduled_in : (task : Task) (s : Solo F T X) → Within s → Within (scheduled task s)
  scheduled_in task s p =
      let q : Within (lined task s) = lined_in task s p in
      chosen Within (takes task s) (told (lined task s)) (lined task s) (told_in (lined task s) q) q

  pub scheduled_if_in : (due : Bool) (task : Task) (s : Solo F T X) → Within s → Within (scheduled_if due task s)
  scheduled_if_in due task s p = chosen Within due (scheduled task s) s (scheduled_in task s p) p

  pub let_go_in : (task : Task) (s : Solo F T X) → Within s → Within (let_go task s)
  let_go_in task s p =
      let due : Bool = asked cells.release_queues false task s.cells in
      swept_in task (scheduled_if due task (turned cells.released task s))
      (scheduled_if_in due task (turned cells.released task s) (turned_in cells.released task s p))

  let_go_if_in : (task : Option Task) (s : Solo F T X) → Within s → Within (let_go_if task s)
  let_go_if_in (Some task) s p = let_go_in task s p
  let_go_if_in None s p = p

  left_by_in : (parts : Option (Option F × Option Task)) (s : Solo F T X) → Within s → Within (left_by_parts parts s)
  left_by_in None s p = p
  left_by_in (Some parts) s p = let_go_if_in parts.1 s p

  pub left_in : (place : EntryPlace) (s : Solo F T X) → Within s → Within (left place s)
  left_in place s p =
      let gone = left_places place s.table in
      let shorter = gone.0 in
      let fewer = gone.1 in
      let all = p.1.0 in
      let few = p.1.3 in
      let both = p.1.5 in
      left_by_in (parts_of (entry_in place s.table.entries)) (without place s) (
        p.0,
        (omega (arith, fewer, all), p.1.1, p.1.2, omega (arith, shorter, few), p.1.4, omega (arith, shorter, both)),
        p.2,
        p.3,
        p.4,
        p.5,
      )

  pub put_in : (place : EntryPlace) (future : Option F) (s : Solo F T X) → Within s
      → Within (record s { table = record s.table { entries = set_future place future s.table.entries } })
  put_in place future s p = (p.0, set_fits m.places m.entries m.limit place future s.table s.going p.1, p.2, p.3, p.4, p.5)

  out_of_in : (start : Option (Start EntryPlace)) (s : Solo F T X) → Within s → Within (out_of start s)
  out_of_in (Some (Poll place)) s p = put_in place None s p
  out_of_in (Some (Drop place)) s p = put_in place None s p
  out_of_in None s p = p

  pub begun_in : (task : Task) (s : Solo F T X) → Within s → Within (begun task s)
  begun_in task s p =
      out_of_in (asked cells.start_answer None task s.cells) (turned cells.started task s) (turned_in cells.started task s p)

  pub popped_in : (s : Solo F T X) → Within s → Within (popped s)
  popped_in s p = (p.0, p.1, searched_fits m.limit s.lines p.2, p.3, p.4, p.5)

  told_unless_in : (w : Option X) (s : Solo F T X) → Within s → Within (ticks.told_unless w s)
  told_unless_in (Some w) s p = p
  told_unless_in None s p = told_in s p

  waker_dropped_in : (w : Option (SoloWaker X)) (s : Solo F T X) → Within s → Within (ticks.waker_dropped w s)
  waker_dropped_in (Some (OfTask task)) s p = let_go_in task s p
  waker_dropped_in (Some (Outside waker)) s p = p
  waker_dropped_in None s p = p

  up_in : (ticker : Ticker) (s : Solo F T X) → Within s → Within (ticks.up ticker s)
  up_in (Awake _) s p = p
  up_in (Asleep sleeper) s p = (p.0, p.1, p.2, woken_sleeps m.rooms m.numbers sleeper.number s.sleepers p.3, p.4, p.5)

  woke_in : (ticker : Ticker) (s : Solo F T X) → Within s
      → Within (ticks.told_unless (ticks.wake_up_answer ticker s).told.sleeper (ticks.woke_up ticker s))
  woke_in ticker s p =
      told_unless_in (ticks.wake_up_answer ticker s).told.sleeper (ticks.woke_up ticker s)
      (waker_dropped_in (ticks.kept_by ticker s) (ticks.up ticker s) (up_in ticker s p))

  found_in : (ticker : Ticker) (task : Task) (s : Solo F T X) → Within s → Within (ticks.found ticker task s)
  found_in ticker task s p =
      begun_in task (ticks.told_unless (ticks.wake_up_answer ticker s).told.sleeper (ticks.woke_up ticker s)) (woke_in ticker s p)

  anew_in : (b : Bool) (waker : SoloWaker X) (s : Solo F T X) → nat_lt s.sleepers.count s.sleepers.rooms ≡ b → Within s
      → Within (ticks.lain_anew b waker s)
  anew_in true waker s is p = (p.0, p.1, p.2, asleep_sleeps m.rooms m.numbers waker s.sleepers is p.3, p.4, p.5)
  anew_in false waker s is p = p

  short_in : (b : Bool) (number : ℕ) (waker : SoloWaker X) (s : Solo F T X) → ticks.is_short s ≡ b → Within s
      → Within (choose b (ticks.stored (listed number waker s.sleepers) s) s)
  short_in true number waker s is p = (p.0, p.1, p.2, listed_sleeps m.rooms m.numbers number waker s.sleepers is p.3, p.4, p.5)
  short_in false number waker s is p = p

  again_in : (at : Option ℕ) (number : ℕ) (waker : SoloWaker X) (s : Solo F T X) → Within s → Within (ticks.lain_again at number waker s)
  again_in (Some at) number waker s p =
      waker_dropped_in (waker_of number s.sleepers.wakers) (ticks.replaced at number waker s)
      (p.0, p.1, p.2, replaced_sleeps m.rooms m.numbers at number waker s.sleepers p.3, p.4, p.5)
  again_in None number waker s p = short_in (ticks.is_short s) number waker s refl p

  asleep_in : (ticker : Ticker) (waker : SoloWaker X) (s : Solo F T X) → Within s → Within (ticks.fallen_asleep ticker waker s)
  asleep_in (Awake _) waker s p = anew_in (nat_lt s.sleepers.count s.sleepers.rooms) waker s refl p
  asleep_in (Asleep sleeper) waker s p =
      again_in (position_of sleeper.number s.sleepers.wakers) sleeper.number waker s p

  tick_by_in : (first : Option Task) (ticker : Ticker) (waker : SoloWaker X) (s : Solo F T X) → Within s
      → Within (ticks.taken_by first ticker waker s)
  tick_by_in (Some task) ticker waker s p = found_in ticker task s p
  tick_by_in None ticker waker s p = asleep_in ticker waker s p

  pub tick_taken_in : (ticker : Ticker) (waker : SoloWaker X) (s : Solo F T X) → Within s → Within (ticks.taken ticker waker s)
  tick_taken_in ticker waker s p = tick_by_in (solo.sought s) ticker waker (popped s) (popped_in s p)

  search_by_in : (first : Option Task) (ticker : Ticker) (s : Solo F T X) → Within s → Within (ticks.searched_by first ticker s)
  search_by_in (Some task) ticker s p = found_in ticker task s p
  search_by_in None ticker s p = p

  pub tick_searched_in : (ticker : Ticker) (s : Solo F T X) → Within s → Within (ticks.searched ticker s)
  tick_searched_in ticker s p = search_by_in (solo.sought s) ticker (popped s) (popped_in s p)

  pub slept_in : (ticker : Ticker) (waker : SoloWaker X) (s : Solo F T X) → Within s → Within (ticks.slept ticker waker s)
  slept_in ticker waker s p =
      chosen Within (is_empty s.lines) (ticks.fallen_asleep ticker waker s) s (asleep_in ticker waker s p) p

  leave_by_in : (w : Option (SoloWaker X)) (s : Solo F T X) → Within s → Within (ticks.left_by w s)
  leave_by_in None s p = told_in s p
  leave_by_in (Some w) s p = waker_dropped_in (Some w) s p

  pub tick_left_in : (ticker : Ticker) (s : Solo F T X) → Within s → Within (ticks.left ticker s)
  tick_left_in (Awake _) s p = (p.0, p.1, p.2, back_sleeps m.rooms m.numbers s.sleepers p.3, p.4, p.5)
  tick_left_in (Asleep sleeper) s p =
      let rest = woken_sleeps m.rooms m.numbers sleeper.number s.sleepers p.3 in
      leave_by_in (waker_of sleeper.number s.sleepers.wakers) (ticks.gone sleeper.number s)
      (p.0, p.1, p.2, back_sleeps m.rooms m.numbers (woken_up sleeper.number s.sleepers) rest, p.4, p.5)

  own_popped_in : (number : ℕ) (s : Solo F T X) → Within s → Within (own_popped number s)
  own_popped_in number s p = (p.0, p.1, p.2, p.3, changed_fits m.queues (drop 1) number s.runs rest_keeps p.4, p.5)

  without_first_in : (source : Source) (s : Solo F T X) → Within s → Within (without_first source s)
  without_first_in (Common mark) s p = (p.0, p.1, popped_fits m.limit mark s.lines p.2, p.3, p.4, p.5)
  without_first_in (Own number) s p = own_popped_in number s p

  kept_in : (number : ℕ) (task : Task) (s : Solo F T X) → Within s → Within (kept number task s)
  kept_in number task s p =
      (p.0, p.1, p.2, p.3, changed_fits m.queues (own.pushed task) number s.runs (pushed_keeps task) p.4, p.5)

  moved_in : (n : ℕ) (source : Source) (number : ℕ) (s : Solo F T X) → Within s → Within (moved n source number s)
  moved_in zero source number s p = p
  moved_in (suc n) source number s p =
      let rest = without_first_in source s p in
      moved_on_keeps Within (first_of source s) (without_first source s)
      (λ task. moved n source number (kept number task (without_first source s))) rest
      (λ task. moved_in n source number (kept number task (without_first source s)) (kept_in number task (without_first source s) rest))

  stolen_in : (source : Source) (number : ℕ) (s : Solo F T X) → Within s → Within (stolen source number s)
  stolen_in source number s p = moved_in (share (length_of source s) (own.free_of number s.runs)) source number s p

  looked_in : (number at : ℕ) (s : Solo F T X) → Within s → Within (looked number at s)
  looked_in number at s p =
      chosen Within (is_own number at s) s (own_popped number (stolen_at number at s)) p
      (own_popped_in number (stolen_at number at s) (stolen_in (Own (own.number_at at s.runs.queues)) number s p))

  round_in : (count number n at : ℕ) (s : Solo F T X) → Within s → Within (round count number n at s).1
  round_in count number zero at s p = p
  round_in count number (suc n) at s p =
      round_on_keeps Within (look_answer number at s) (looked number at s)
      (round count number n (next_place at count) (looked number at s)) (looked_in number at s p)
      (round_in count number n (next_place at count) (looked number at s) (looked_in number at s p))

  further_in : (first : Option Task) (mark : Mark) (number start : ℕ) (s : Solo F T X) → Within s
      → Within (further_by first mark number start s)
  further_in (Some task) mark number start s p = stolen_in (Common mark) number s p
  further_in None mark number start s p = round_in s.runs.listed number s.runs.listed (start % s.runs.listed) s p

  sought_by_in : (first : Option Task) (number start : ℕ) (s : Solo F T X) → Within s → Within (sought_by first number start s)
  sought_by_in (Some task) number start s p = p
  sought_by_in None number start s p =
      further_in (search_answer s.lines).task (search_answer s.lines).mark number start (popped s) (popped_in s p)

  sought_in : (number start : ℕ) (s : Solo F T X) → Within s → Within (sought number start s)
  sought_in number start s p = sought_by_in (own.first_of number s.runs) number start (own_popped number s) (own_popped_in number s p)

  run_found_in : (runner : Runner) (ticker : Ticker) (task : Task) (s : Solo F T X) → Within s → Within (runs.found runner ticker task s)
  run_found_in runner ticker task s p =
      let after : Solo F T X = runs.told ticker s in
      let q : Within after = woke_in ticker s p in
      begun_in task (stolen_if (runs.is_steal_due runner) runner.number after)
      (chosen Within (runs.is_steal_due runner)
      (stolen (Common Plain) runner.number (stolen (Common Urgent) runner.number after)) after
      (stolen_in (Common Plain) runner.number (stolen (Common Urgent) runner.number after)
      (stolen_in (Common Urgent) runner.number after q)) q)

  run_by_in : (first : Option Task) (runner : Runner) (ticker : Ticker) (waker : SoloWaker X) (s : Solo F T X) → Within s
      → Within (runs.took_by first runner ticker waker s)
  run_by_in (Some task) runner ticker waker s p = run_found_in runner ticker task s p
  run_by_in None runner ticker waker s p = asleep_in ticker waker s p

  pub run_taken_in : (runner : Runner) (ticker : Ticker) (waker : SoloWaker X) (start : ℕ) (s : Solo F T X) → Within s
      → Within (runs.took runner ticker waker start s)
  run_taken_in runner ticker waker start s p =
      run_by_in (seek_answer runner.number start s).task runner ticker waker (sought runner.number start s)
      (sought_in runner.number start s p)

  run_search_by_in : (first : Option Task) (runner : Runner) (ticker : Ticker) (s : Solo F T X) → Within s
      → Within (runs.searched_by first runner ticker s)
  run_search_by_in (Some task) runner ticker s p = run_found_in runner ticker task s p
  run_search_by_in None runner ticker s p = p

  pub run_searched_in : (runner : Runner) (ticker : Ticker) (start : ℕ) (s : Solo F T X) → Within s
      → Within (runs.searched runner ticker start s)
  run_searched_in runner ticker start s p =
      run_search_by_in (seek_answer runner.number start s).task runner ticker (sought runner.number start s)
      (sought_in runner.number start s p)

  pub run_drained_in : (first : Option Task) (ticker : Ticker) (s : Solo F T X) → Within s → Within (runs.drained_by first ticker s)
  run_drained_in (Some task) ticker s p = scheduled_in task s p
  run_drained_in None ticker s p = tick_left_in ticker s p
