-- What pushes, takes and searches do to how many tasks are queued.
use Rattle.std.proofs.Common.{◌≡◌, ◌+◌, ◌≤◌, ◌&&◌, not, Bool, true, false, List, [], ◌∷◌, length, drop, Option, Some, None}
use Rattle.std.proofs.Common.{slice_get, refl, ap, arith}
use Rattle.std.proofs.lemmas.List.{length-drop}
use Rattle.executor_parts.specs.declared.mark.Mark.{Mark}
use Rattle.executor_parts.specs.declared.mark.Mark.TheVariants.{Plain, Urgent}
use Rattle.executor_parts.specs.Marks.{other}
use Rattle.queue_steps.specs.ClosableQueue.{ClosableQueue}
use Rattle.solo.specs.declared.names.Task.{Task}
use Rattle.solo.specs.Line.{pushed_by, accepts, has_place, is_spent}
use Rattle.solo.specs.Lines.{LinesValue, line_of, pushed_in, first_of, popped_from, taken_by, found_by, taken_from}
use Rattle.solo.specs.Lines.{mark_of_turn, turned, searched, search_answer}
use Rattle.solo_laws.specs.Sleeping.{queued_in}

pub pushed_by_refused : (p spent : Bool) (task : Task) (q : ClosableQueue Task) → (p && not spent) ≡ false
    → (pushed_by p spent task q).items ≡ q.items
pushed_by_refused true true task q is = refl
pushed_by_refused true false task q is = absurd cc
pushed_by_refused false spent task q is = refl

-- a task that is turned away changes nothing
pub refused_queues : (m : Mark) (task : Task) (l : LinesValue) → accepts (line_of m l) ≡ false
    → queued_in (pushed_in m task l) ≡ queued_in l
refused_queues Plain task l is =
    ap (λ (items : List Task). length l.urgent.items + length items)
    (pushed_by_refused (has_place l.plain) (is_spent l.plain.accepted) task l.plain is)
refused_queues Urgent task l is =
    ap (λ (items : List Task). length items + length l.plain.items)
    (pushed_by_refused (has_place l.urgent) (is_spent l.urgent.accepted) task l.urgent is)

-- a take leaves no more than there were
pub popped_fewer : (m : Mark) (l : LinesValue) → queued_in (popped_from m l) ≤ queued_in l
popped_fewer Plain l = let is = length-drop 1 l.plain.items in omega (arith, is)
popped_fewer Urgent l = let is = length-drop 1 l.urgent.items in omega (arith, is)

by_fewer : (first : Option Task) (m : Mark) (l : LinesValue) → queued_in (taken_by first m l) ≤ queued_in l
by_fewer (Some task) m l = omega arith
by_fewer None m l = popped_fewer (other m) l

pub taken_fewer : (m : Mark) (l : LinesValue) → queued_in (taken_from m l) ≤ queued_in l
taken_fewer m l =
    let one = popped_fewer m l in
    let two = by_fewer (first_of m l) m (popped_from m l) in
    omega (arith, one, two)

pub searched_fewer : (l : LinesValue) → queued_in (searched l) ≤ queued_in l
searched_fewer l = taken_fewer (mark_of_turn l.turn) (turned l)

first_none : (tasks : List Task) → slice_get tasks 0 ≡ None → length (drop 1 tasks) ≡ 0
first_none [] is = refl
first_none (task ∷ tasks) is = absurd cc

both_empty : (m : Mark) (l : LinesValue) → first_of m l ≡ None → first_of (other m) (popped_from m l) ≡ None
    → queued_in (popped_from (other m) (popped_from m l)) ≡ 0
both_empty Plain l one two =
    let plain = first_none l.plain.items one in
    let urgent = first_none l.urgent.items two in
    omega (arith, plain, urgent)
both_empty Urgent l one two =
    let urgent = first_none l.urgent.items one in
    let plain = first_none l.plain.items two in
    omega (arith, plain, urgent)

by_empty : (first : Option Task) (m : Mark) (l : LinesValue) → first_of m l ≡ first → (found_by first m (popped_from m l)).task ≡ None
    → queued_in (taken_by first m (popped_from m l)) ≡ 0
by_empty (Some task) m l is none = absurd cc
by_empty None m l is none = both_empty m l is none

-- where a search finds nothing no task is queued
pub searched_empty : (l : LinesValue) → (search_answer l).task ≡ None → queued_in (searched l) ≡ 0
searched_empty l none = by_empty (first_of (mark_of_turn l.turn) (turned l)) (mark_of_turn l.turn) (turned l) refl none
