-- That other calls than spawns and the makings of ticks and runs make no room: of each part that memory is taken for, what its
-- changes leave.
use Rattle.std.proofs.Common.{◌≡◌, ℕ, zero, suc, ◌+◌, ◌-◌, ◌<◌, ◌≤◌, ◌==◌, ◌&&◌, not, nat_lt, Bool, true, false, List, [], ◌∷◌, ◌++◌}
use Rattle.std.proofs.Common.{length, drop, remove, Option, Some, None, slice_get, slice_set, slice_index_or, refl, sym, subst, arith}
use Rattle.std.proofs.Common.{length-append}
use Rattle.std.specs.List.{All, swap}
use Rattle.std.proofs.lemmas.Bool.Decides.{nat_tests}
use Rattle.std.proofs.lemmas.List.{length-set, length-drop, length-take}
use Rattle.std.proofs.lemmas.List.Edits.{length-remove, length-swap, swap_is}
use Rattle.std.proofs.lemmas.List.Elements.{All-set, All-same, All-head, All-tail, All-cons}
use Rattle.std.proofs.lemmas.List.Quantifiers.{position-Some}
use Rattle.std.proofs.lemmas.Option.{slice_get_within, get_or_from_slice_get}
use Rattle.slab.specs.Slab.{Slab, get, with_value}
use Rattle.executor_parts.specs.declared.mark.Mark.{Mark}
use Rattle.executor_parts.specs.declared.mark.Mark.TheVariants.{Plain, Urgent}
use Rattle.executor_parts.specs.declared.places.EntryPlace.{EntryPlace}
use Rattle.executor_parts.specs.Marks.{other}
use Rattle.executor_parts.specs.Places.{Entry, entry_at, entry_in, stamped, without_entry as entries_without, where_there, parts_of}
use Rattle.executor_parts.specs.Sleepers.{Sleepers, without_last, without_entry, woken_up, position_of, put_to_sleep, listed}
use Rattle.queue_steps.specs.ClosableQueue.{ClosableQueue}
use Rattle.solo.specs.declared.names.Task.{Task}
use Rattle.solo.specs.declared.cells.Cell.{Cell}
use Rattle.solo.specs.declared.cells.Cells.{Cells}
use Rattle.solo.specs.declared.own_queues.Own.{Own}
use Rattle.solo.specs.Cells.{Kept, choose, changed_by, changed, tidied, asked}
use Rattle.solo.specs.Cells as cells
use Rattle.solo.specs.Line.{fits, pushed, pushed_by, has_place, is_spent}
use Rattle.solo.specs.Lines.{LinesValue, pushed_in, first_of, popped_from, taken_by, taken_from, mark_of_turn, turned, searched}
use Rattle.solo.specs.OwnQueues as own
use Rattle.solo.specs.Table.{TableValue, left_table, room_after}
use Rattle.solo_laws.specs.Queueing.{one_if}
use Rattle.solo_laws.specs.Rooms.{places_in, HasPlaces}
use Rattle.solo_laws.proofs.Sleepers.{last_fits, position_below}

below : (n count : ℕ) → nat_lt n count ≡ true → n + 1 ≤ count
below n count is = grind (arith, nat_tests)

module _ {T X : Type 0} (most size : ℕ) where
  -- so many cells at most, and memory for so many
  abbrev pub Slots : Slab (Cell T X) → Type 0
  Slots c = (length c.slots ≤ most) × (c.capacity ≡ size)

  value_slots : (key : ℕ) (v : Cell T X) (c : Slab (Cell T X)) → Slots c → Slots (with_value c key v)
  value_slots key v c p =
      let few = p.0 in let same = length-set c.slots key (Some v) in (omega (arith, same, few), p.1)

  changed_by_slots : (f : Kept T X → Kept T X) (task : Task) (found : Option (Cell T X)) (c : Slab (Cell T X)) → Slots c
      → Slots (changed_by f task found c)
  changed_by_slots f task None c p = p
  changed_by_slots f task (Some cell) c p = value_slots task.key _ c p

  pub changed_slots : (f : Kept T X → Kept T X) (task : Task) (c : Cells T X) → Slots c.slab → Slots (changed f task c).slab
  changed_slots f task c p = changed_by_slots f task (get c.slab task.key) c.slab p

  chosen_slots : (b : Bool) (one two : Cells T X) → Slots one.slab → Slots two.slab → Slots (choose b one two).slab
  chosen_slots true one two p q = p
  chosen_slots false one two p q = q

  pub tidied_slots : (task : Task) (c : Cells T X) → Slots c.slab → Slots (tidied task c).slab
  tidied_slots task c p =
      let few = p.0 in
      let none : Option (Cell T X) = None in
      let same = length-set c.slab.slots task.key none in
      chosen_slots (asked cells.is_spent false task c)
      (record { slab = record c.slab { slots = slice_set c.slab.slots task.key none; vacant_key = task.key } }) c
      (omega (arith, same, few), p.1) p

module _ (limit : ℕ) where
  -- a queue with so many places
  abbrev pub LineFits : ClosableQueue Task → Type 0
  LineFits q = (q.capacity ≡ Some limit) × (length q.items ≤ limit)

  abbrev pub LinesFit : LinesValue → Type 0
  LinesFit l = LineFits l.urgent × LineFits l.plain

  place_below : (closed : Bool) (capacity : Option ℕ) (n : ℕ) → (not closed && fits capacity n) ≡ true → capacity ≡ Some limit
      → n + 1 ≤ limit
  place_below true capacity n is same = absurd cc
  place_below false None n is same = absurd cc
  place_below false (Some l) n is same =
      let one : l ≡ limit = cc in let less = below n l is in omega (arith, one, less)

  pushed_by_fits : (place spent : Bool) (u : Task) (q : ClosableQueue Task) → has_place q ≡ place → LineFits q
      → LineFits (pushed_by place spent u q)
  pushed_by_fits false spent u q is p = p
  pushed_by_fits true true u q is p = p
  pushed_by_fits true false u q is p =
      let more = length-append q.items (u ∷ []) in
      let less = place_below q.closed q.capacity (length q.items) is p.0 in
      (p.0, omega (arith, more, less))

  pub pushed_fits : (u : Task) (q : ClosableQueue Task) → LineFits q → LineFits (pushed u q)
  pushed_fits u q p = pushed_by_fits (has_place q) (is_spent q.accepted) u q refl p

  pub rest_fits : (q : ClosableQueue Task) → LineFits q → LineFits (record q { items = drop 1 q.items })
  rest_fits q p = let few = p.1 in let fewer = length-drop 1 q.items in (p.0, omega (arith, few, fewer))

  pub pushed_in_fits : (m : Mark) (u : Task) (l : LinesValue) → LinesFit l → LinesFit (pushed_in m u l)
  pushed_in_fits Plain u l p = (p.0, pushed_fits u l.plain p.1)
  pushed_in_fits Urgent u l p = (pushed_fits u l.urgent p.0, p.1)

  pub popped_fits : (m : Mark) (l : LinesValue) → LinesFit l → LinesFit (popped_from m l)
  popped_fits Plain l p = (p.0, rest_fits l.plain p.1)
  popped_fits Urgent l p = (rest_fits l.urgent p.0, p.1)

  taken_by_fits : (first : Option Task) (m : Mark) (l : LinesValue) → LinesFit l → LinesFit (taken_by first m l)
  taken_by_fits (Some u) m l p = p
  taken_by_fits None m l p = popped_fits (other m) l p

  pub taken_fits : (m : Mark) (l : LinesValue) → LinesFit l → LinesFit (taken_from m l)
  taken_fits m l p = taken_by_fits (first_of m l) m (popped_from m l) (popped_fits m l p)

  pub searched_fits : (l : LinesValue) → LinesFit l → LinesFit (searched l)
  searched_fits l p = taken_fits (mark_of_turn l.turn) (turned l) p

module _ {W : Type 0} (rooms numbers : ℕ) where
  -- so many rooms at most, and so many numbers
  abbrev pub SleepersFit : Sleepers W → Type 0
  SleepersFit s =
      (length s.wakers ≤ s.count) × (s.count ≤ s.rooms) × (s.rooms ≤ rooms) × (s.rooms ≤ numbers) × (s.count + length s.free ≤ numbers)

  pub last_sleeps : (s : Sleepers W) → SleepersFit s → SleepersFit (without_last s)
  last_sleeps s p = (last_fits s p.0, p.1, p.2, p.3, p.4)

  entry_sleeps : (at : Option ℕ) (number : ℕ) (s : Sleepers W) → position_of number s.wakers ≡ at → SleepersFit s
      → SleepersFit (without_entry at s)
  entry_sleeps None number s is p = p
  entry_sleeps (Some at) number s is p =
      let few = p.0 in
      let less = length-remove s.wakers at (position_below number s.wakers at is) in
      (omega (arith, less, few), p.1, p.2, p.3, p.4)

  freed_sleeps : (b : Bool) (number : ℕ) (s : Sleepers W) → nat_lt (length s.wakers) s.count ≡ b → SleepersFit s
      → SleepersFit (elim b [ true ↦ record s { count = s.count - 1; free = s.free ++ number ∷ [] } | false ↦ s ])
  freed_sleeps true number s is p =
      let less = below (length s.wakers) s.count is in
      let more = length-append s.free (number ∷ []) in
      let within = p.1 in
      let all = p.4 in
      (omega (arith, less), omega (arith, within), p.2, p.3, omega (arith, less, more, all))
  freed_sleeps false number s is p = p

  pub woken_sleeps : (number : ℕ) (s : Sleepers W) → SleepersFit s → SleepersFit (woken_up number s)
  woken_sleeps number s p =
      let rest : Sleepers W = without_entry (position_of number s.wakers) s in
      freed_sleeps (nat_lt (length rest.wakers) rest.count) number rest refl
      (entry_sleeps (position_of number s.wakers) number s refl p)

  back_by_sleeps : (b : Bool) (s : Sleepers W) → nat_lt s.count s.rooms ≡ b → SleepersFit s
      → SleepersFit (choose b (record s { rooms = s.rooms - 1 }) s)
  back_by_sleeps true s is p =
      let less = below s.count s.rooms is in
      let few = p.2 in
      let small = p.3 in
      (p.0, omega (arith, less), omega (arith, few), omega (arith, small), p.4)
  back_by_sleeps false s is p = p

  pub back_sleeps : (s : Sleepers W) → SleepersFit s → SleepersFit (choose (nat_lt s.count s.rooms) (record s { rooms = s.rooms - 1 }) s)
  back_sleeps s p = back_by_sleeps (nat_lt s.count s.rooms) s refl p

  pub asleep_sleeps : (w : W) (s : Sleepers W) → nat_lt s.count s.rooms ≡ true → SleepersFit s → SleepersFit (put_to_sleep w s)
  asleep_sleeps w s is p =
      let less = below s.count s.rooms is in
      let fit = p.0 in
      let small = p.3 in
      let all = p.4 in
      let more : length (put_to_sleep w s).wakers ≡ length s.wakers + 1 = length-append s.wakers _ in
      let rest = length-take (length s.free - 1) s.free in
      (omega (arith, more, fit), omega (arith, less), p.2, p.3, omega (arith, less, rest, small, all))

  pub replaced_sleeps : (at number : ℕ) (w : W) (s : Sleepers W) → SleepersFit s
      → SleepersFit (record s { wakers = slice_set s.wakers at (number, w) })
  replaced_sleeps at number w s p =
      let fit = p.0 in
      let same = length-set s.wakers at (number, w) in
      (omega (arith, same, fit), p.1, p.2, p.3, p.4)

  pub listed_sleeps : (number : ℕ) (w : W) (s : Sleepers W) → nat_lt (length s.wakers) s.count ≡ true → SleepersFit s
      → SleepersFit (listed number w s)
  listed_sleeps number w s is p =
      let less = below (length s.wakers) s.count is in
      let more : length (listed number w s).wakers ≡ length s.wakers + 1 = length-append s.wakers _ in
      (omega (arith, more, less), p.1, p.2, p.3, p.4)

-- an own queue that is put in the place of another has no more than its places
set_own : (f : List Task → List Task) (found : Option Own) (at : ℕ) (queues : List Own)
    → ((tasks : List Task) → length tasks ≤ 512 → length (f tasks) ≤ 512) → slice_get queues at ≡ found → All HasPlaces queues
    → All HasPlaces (own.changed_in f found at queues)
set_own f None at queues keeps is all = all
set_own f (Some q) at queues keeps is all =
    let there : slice_index_or queues at q ≡ q = get_or_from_slice_get queues at q q is in
    let few : HasPlaces q = subst HasPlaces there (all at q (slice_get_within queues at q is)) in
    All-set HasPlaces queues at (record q { queue = f q.queue }) (keeps q.queue few) all

set_length : (f : List Task → List Task) (found : Option Own) (at : ℕ) (queues : List Own)
    → length (own.changed_in f found at queues) ≡ length queues
set_length f None at queues = refl
set_length f (Some q) at queues = length-set queues at (record q { queue = f q.queue })

removed_places : (at : ℕ) (queues : List Own) → All HasPlaces queues → All HasPlaces (remove queues at)
removed_places zero [] all = all
removed_places (suc at) [] all = all
removed_places zero (q ∷ queues) all = All-tail HasPlaces q queues all
removed_places (suc at) (q ∷ queues) all =
    All-cons HasPlaces q (remove queues at) (All-head HasPlaces q queues all)
    (removed_places at queues (All-tail HasPlaces q queues all))

removed_length : (at : ℕ) (queues : List Own) → length (remove queues at) ≤ length queues
removed_length zero [] = omega arith
removed_length (suc at) [] = omega arith
removed_length zero (q ∷ queues) = omega arith
removed_length (suc at) (q ∷ queues) = let rest = removed_length at queues in omega (arith, rest)

swapped_places : (i j : ℕ) (d : Own) (queues : List Own) → i < length queues → j < length queues → All HasPlaces queues
    → All HasPlaces (swap queues i j)
swapped_places i j d queues in_i in_j all =
    let y : Own = slice_index_or queues j d in
    let w : Own = slice_index_or queues i d in
    let one : List Own = slice_set queues i y in
    All-same HasPlaces (swap queues i j) (slice_set one j w) (sym (swap_is queues i j d in_i in_j))
    (All-set HasPlaces one j w (all i d in_i) (All-set HasPlaces queues i y (all j d in_j) all))

placed : (number at : ℕ) (queues : List Own) → own.place_of number queues ≡ Some at → at < length queues
placed number at [] is = absurd cc
placed number at (d ∷ queues) is = (position-Some (λ q. q.number == number) (d ∷ queues) at d is).0

-- two change places, of which one is there, and the other is before it
listed_places : (at before : ℕ) (queues : List Own) → at < length queues → before ≤ at → All HasPlaces queues
    → All HasPlaces (swap queues before at)
listed_places at before [] inside first all = absurd (omega (arith, inside))
listed_places at before (d ∷ queues) inside first all =
    swapped_places before at d (d ∷ queues) (omega (arith, inside, first)) inside all

pub pushed_keeps : (u : Task) (tasks : List Task) → length tasks ≤ 512 → length (own.pushed u tasks) ≤ 512
pushed_keeps u tasks few = by (nat_lt (length tasks) 512) refl
  where
    by : (b : Bool) → nat_lt (length tasks) 512 ≡ b → length {A = Task} (choose b (tasks ++ u ∷ []) tasks) ≤ 512
    by true is = let less = below (length tasks) 512 is in let more = length-append tasks (u ∷ []) in omega (arith, less, more)
    by false is = few

pub rest_keeps : (tasks : List Task) → length tasks ≤ 512 → length (drop 1 tasks) ≤ 512
rest_keeps tasks few = let fewer = length-drop 1 tasks in omega (arith, few, fewer)

module _ (most : ℕ) where
  -- so many own queues at most, none with more tasks than places
  abbrev pub OwnFit : own.OwnQueuesValue → Type 0
  OwnFit o = (length o.queues ≤ most) × All HasPlaces o.queues

  changed_at_fits : (f : List Task → List Task) (at : Option ℕ) (o : own.OwnQueuesValue)
      → ((tasks : List Task) → length tasks ≤ 512 → length (f tasks) ≤ 512) → OwnFit o → OwnFit (own.changed_at f at o)
  changed_at_fits f None o keeps p = p
  changed_at_fits f (Some at) o keeps p =
      let few = p.0 in
      let same = set_length f (slice_get o.queues at) at o.queues in
      (omega (arith, same, few), set_own f (slice_get o.queues at) at o.queues keeps refl p.1)

  pub changed_fits : (f : List Task → List Task) (number : ℕ) (o : own.OwnQueuesValue)
      → ((tasks : List Task) → length tasks ≤ 512 → length (f tasks) ≤ 512) → OwnFit o → OwnFit (own.changed f number o)
  changed_fits f number o keeps p = changed_at_fits f (own.place_of number o.queues) o keeps p

  closed_at_fits : (at : Option ℕ) (o : own.OwnQueuesValue) → OwnFit o → OwnFit (own.closed_at at o)
  closed_at_fits None o p = p
  closed_at_fits (Some at) o p =
      let few = p.0 in
      let fewer = removed_length at o.queues in
      (omega (arith, few, fewer), removed_places at o.queues p.1)

  pub closed_fits : (number : ℕ) (o : own.OwnQueuesValue) → OwnFit o → OwnFit (own.closed number o)
  closed_fits number o p = closed_at_fits (own.place_of number o.queues) o p

  listed_by_fits : (b : Bool) (at : ℕ) (o : own.OwnQueuesValue) → at < length o.queues → nat_lt at o.listed ≡ b → OwnFit o
      → OwnFit (choose b o (record o { queues = swap o.queues o.listed at; listed = o.listed + 1 }))
  listed_by_fits true at o inside is p = p
  listed_by_fits false at o inside is p =
      let few = p.0 in
      let same = length-swap o.queues o.listed at in
      (omega (arith, same, few), listed_places at o.listed o.queues inside (grind (arith, nat_tests)) p.1)

  listed_at_fits : (number : ℕ) (at : Option ℕ) (o : own.OwnQueuesValue) → own.place_of number o.queues ≡ at → OwnFit o
      → OwnFit (own.listed_at at o)
  listed_at_fits number None o is p = p
  listed_at_fits number (Some at) o is p = listed_by_fits (nat_lt at o.listed) at o (placed number at o.queues is) refl p

  pub listed_fits : (number : ℕ) (o : own.OwnQueuesValue) → OwnFit o → OwnFit (own.listed number o)
  listed_fits number o p = listed_at_fits number (own.place_of number o.queues) o refl p

module _ {F : Type 0} where
  gone_one : (key : ℕ) (es : List (Entry F (Option Task))) (e : Entry F (Option Task)) → entry_at key es ≡ Some e
      → length (entries_without key es) + 1 ≡ length es
  gone_one key [] e is = absurd cc
  gone_one key (d ∷ es) e is = by (key == d.key) (gone_one key es e) is
    where
      by : (b : Bool) → (entry_at key es ≡ Some e → length (entries_without key es) + 1 ≡ length es)
          → elim b [ true ↦ Some d | false ↦ entry_at key es ] ≡ Some e
          → length {A = Entry F (Option Task)} (elim b [ true ↦ es | false ↦ d ∷ entries_without key es ]) + 1 ≡ length (d ∷ es)
      by true rest here = omega arith
      by false rest there = let less = rest there in omega (arith, less)

  stamped_there : (stamp : ℕ) (found : Option (Entry F (Option Task))) (e : Entry F (Option Task)) → stamped stamp found ≡ Some e
      → (d : Entry F (Option Task)) × (found ≡ Some d)
  stamped_there stamp None e is = absurd cc
  stamped_there stamp (Some d) e is = (d, refl)

  left_by_places : (found : Option (Entry F (Option Task))) (place : EntryPlace) (t : TableValue F) → entry_in place t.entries ≡ found
      → (length (where_there found (entries_without place.key t.entries) t.entries) ≤ length t.entries)
      × (length (where_there found (entries_without place.key t.entries) t.entries) + one_if (room_after (parts_of found) t.has_room)
      ≤ places_in t)
  left_by_places None place t is = (omega arith, omega arith)
  left_by_places (Some e) place t is =
      let there = stamped_there place.stamp (entry_at place.key t.entries) e is in
      let less = gone_one place.key t.entries there.0 there.1 in
      (omega (arith, less), omega (arith, less))

  -- an entry that goes leaves its place
  pub left_places : (place : EntryPlace) (t : TableValue F) → (length (left_table place t).entries ≤ length t.entries)
      × (places_in (left_table place t) ≤ places_in t)
  left_places place t = left_by_places (entry_in place t.entries) place t refl
