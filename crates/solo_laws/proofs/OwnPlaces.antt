-- How often a task stands in the own queues of runs, as these change.
use Rattle.std.proofs.Common.{◌≡◌, ℕ, zero, suc, ◌+◌, ◌<◌, ◌≤◌, ◌==◌, nat_lt, Bool, true, false, List, [], ◌∷◌, ◌++◌, length, drop, remove}
use Rattle.std.proofs.Common.{Option, Some, None, slice_get, slice_set, slice_index_or, refl, sym, ap, ◌∙◌, arith}
use Rattle.std.specs.List.{sum_by, swap}
use Rattle.std.proofs.lemmas.Bool.Decides.{nat_tests}
use Rattle.std.proofs.lemmas.Grind.{get_or-set_at}
use Rattle.std.proofs.lemmas.List.{get_or-set_other, length-set}
use Rattle.std.proofs.lemmas.List.Edits.{swap_is}
use Rattle.std.proofs.lemmas.List.Quantifiers.{position-Some}
use Rattle.std.proofs.lemmas.List.Sums.{sum_by-cons, sum_by-set, sum_by_push}
use Rattle.std.proofs.lemmas.Option.{slice_get_within, get_or_from_slice_get}
use Rattle.solo.specs.declared.names.Task.{Task}
use Rattle.solo.specs.declared.own_queues.Own.{Own}
use Rattle.solo.specs.OwnQueues as own
use Rattle.solo.specs.Cells.{choose}
use Rattle.solo_laws.specs.Queueing.{one, times_in, times_own, times_of, times_left}

module _ (t : Task) where
  abbrev pub times : List Own → ℕ
  times queues = sum_by (times_own t) queues

  -- the first of some tasks, and the others
  pub first_times : (tasks : List Task) → times_in t tasks ≡ times_of t (slice_get tasks 0) + times_in t (drop 1 tasks)
  first_times [] = refl
  first_times (u ∷ tasks) = sum_by-cons (one t) u tasks

  -- a queue is put in the place of another
  set_times : (at : ℕ) (q new : Own) (queues : List Own) → slice_get queues at ≡ Some q
      → times (slice_set queues at new) + times_own t q ≡ times queues + times_own t new
  set_times at q new queues is =
      let same = sum_by-set (times_own t) queues at new q (slice_get_within queues at q is) in
      let old = ap (times_own t) (get_or_from_slice_get queues at q q is) in
      omega (arith, same, old)

  -- the first of a run's queue goes
  popped_in : (found : Option Own) (at : ℕ) (queues : List Own) → slice_get queues at ≡ found
      → times (own.changed_in (drop 1) found at queues) + times_of t (own.first_in (own.queue_in found)) ≡ times queues
  popped_in None at queues is = omega arith
  popped_in (Some q) at queues is =
      let set = set_times at q (record q { queue = drop 1 q.queue }) queues is in
      let first = first_times q.queue in
      omega (arith, set, first)

  popped_at : (at : Option ℕ) (o : own.OwnQueuesValue)
      → times (own.changed_at (drop 1) at o).queues + times_of t (own.first_in (own.queue_at at o.queues)) ≡ times o.queues
  popped_at None o = omega arith
  popped_at (Some at) o = popped_in (slice_get o.queues at) at o.queues refl

  pub popped_times : (number : ℕ) (o : own.OwnQueuesValue)
      → times (own.changed (drop 1) number o).queues + times_of t (own.first_of number o) ≡ times o.queues
  popped_times number o = popped_at (own.place_of number o.queues) o

  pushed_by : (b : Bool) (u : Task) (tasks : List Task) → times_in t (choose b (tasks ++ u ∷ []) tasks) ≤ times_in t tasks + one t u
  pushed_by true u tasks = let more = sum_by_push (one t) tasks u in omega (arith, more)
  pushed_by false u tasks = omega arith

  pushed_in : (u : Task) (found : Option Own) (at : ℕ) (queues : List Own) → slice_get queues at ≡ found
      → times (own.changed_in (own.pushed u) found at queues) ≤ times queues + one t u
  pushed_in u None at queues is = omega arith
  pushed_in u (Some q) at queues is =
      let set = set_times at q (record q { queue = own.pushed u q.queue }) queues is in
      let more = pushed_by (nat_lt (length q.queue) 512) u q.queue in
      omega (arith, set, more)

  pushed_at : (u : Task) (at : Option ℕ) (o : own.OwnQueuesValue)
      → times (own.changed_at (own.pushed u) at o).queues ≤ times o.queues + one t u
  pushed_at u None o = omega arith
  pushed_at u (Some at) o = pushed_in u (slice_get o.queues at) at o.queues refl

  -- a task comes last in a run's queue, if it does
  pub pushed_times : (u : Task) (number : ℕ) (o : own.OwnQueuesValue)
      → times (own.changed (own.pushed u) number o).queues ≤ times o.queues + one t u
  pushed_times u number o = pushed_at u (own.place_of number o.queues) o

  -- one more, which is empty
  pub opened_times : (o : own.OwnQueuesValue) → times (own.opened o).queues ≡ times o.queues
  opened_times o =
      let more = sum_by_push (times_own t) o.queues (record { number = o.made; queue = [] }) in
      omega (arith, more)

  -- one goes, and the rest stay
  removed_times : (at : ℕ) (queues : List Own) → times (remove queues at) + times_left t (own.queue_in (slice_get queues at)) ≤ times queues
  removed_times zero [] = omega arith
  removed_times (suc at) [] = omega arith
  removed_times zero (q ∷ queues) = let all = sum_by-cons (times_own t) q queues in omega (arith, all)
  removed_times (suc at) (q ∷ queues) =
      let rest = removed_times at queues in
      let all = sum_by-cons (times_own t) q queues in
      let less = sum_by-cons (times_own t) q (remove queues at) in
      omega (arith, rest, all, less)

  closed_at_times : (at : Option ℕ) (o : own.OwnQueuesValue)
      → times (own.closed_at at o).queues + times_left t (own.queue_at at o.queues) ≤ times o.queues
  closed_at_times None o = omega arith
  closed_at_times (Some at) o = removed_times at o.queues

  -- a run's queue goes
  pub closed_times : (number : ℕ) (o : own.OwnQueuesValue)
      → times (own.closed number o).queues + times_left t (own.queue_of number o.queues) ≤ times o.queues
  closed_times number o = closed_at_times (own.place_of number o.queues) o

  met : (same : Bool) (i j : ℕ) (y d : Own) (queues : List Own) → (j == i) ≡ same → i < length queues
      → y ≡ slice_index_or queues j d → slice_index_or (slice_set queues i y) j d ≡ y
  met true i j y d queues is inside is_y = get_or-set_at queues i j y d (grind (arith, nat_tests)) inside
  met false i j y d queues is inside is_y =
      get_or-set_other queues i j y d (λ one. absurd (grind (arith, nat_tests))) ∙ sym is_y

  -- two change places
  swapped_times : (i j : ℕ) (d : Own) (queues : List Own) → i < length queues → j < length queues
      → times (swap queues i j) ≡ times queues
  swapped_times i j d queues in_i in_j =
      let y : Own = slice_index_or queues j d in
      let w : Own = slice_index_or queues i d in
      let one : List Own = slice_set queues i y in
      let first = sum_by-set (times_own t) queues i y d in_i in
      let in_one : j < length one = (let same = length-set queues i y in omega (arith, same, in_j)) in
      let second = sum_by-set (times_own t) one j w d in_one in
      let there = ap (times_own t) (met (j == i) i j y d queues refl in_i refl) in
      let is = ap times (swap_is queues i j d in_i in_j) in
      omega (arith, first, second, there, is)

  listed_in : (at listed : ℕ) (queues : List Own) → at < length queues → listed ≤ at → times (swap queues listed at) ≡ times queues
  listed_in at listed [] inside below = refl
  listed_in at listed (d ∷ queues) inside below =
      swapped_times listed at d (d ∷ queues) (omega (arith, inside, below)) inside

  listed_by : (b : Bool) (at : ℕ) (o : own.OwnQueuesValue) → at < length o.queues → nat_lt at o.listed ≡ b
      → times (choose b o (record o { queues = swap o.queues o.listed at; listed = o.listed + 1 })).queues ≡ times o.queues
  listed_by true at o inside is = refl
  listed_by false at o inside is = listed_in at o.listed o.queues inside (grind (arith, nat_tests))

  placed : (number at : ℕ) (queues : List Own) → own.place_of number queues ≡ Some at → at < length queues
  placed number at [] is = absurd cc
  placed number at (d ∷ queues) is = (position-Some (λ q. q.number == number) (d ∷ queues) at d is).0

  listed_at_times : (number : ℕ) (at : Option ℕ) (o : own.OwnQueuesValue) → own.place_of number o.queues ≡ at
      → times (own.listed_at at o).queues ≡ times o.queues
  listed_at_times number None o is = refl
  listed_at_times number (Some at) o is = listed_by (nat_lt at o.listed) at o (placed number at o.queues is) refl

  -- others look at a run's queue from now on
  pub listed_times : (number : ℕ) (o : own.OwnQueuesValue) → times (own.listed number o).queues ≡ times o.queues
  listed_times number o = listed_at_times number (own.place_of number o.queues) o refl
