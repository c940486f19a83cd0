-- How often a task stands in the executor's two queues, as these change.
use Rattle.std.proofs.Common.{◌≡◌, ◌+◌, ◌≤◌, Bool, true, false, Option, Some, None, refl, ap, arith}
use Rattle.std.proofs.lemmas.List.Sums.{sum_by_push}
use Rattle.executor_parts.specs.declared.mark.Mark.{Mark}
use Rattle.executor_parts.specs.declared.mark.Mark.TheVariants.{Plain, Urgent}
use Rattle.executor_parts.specs.Marks.{other}
use Rattle.queue_steps.specs.ClosableQueue.{ClosableQueue}
use Rattle.solo.specs.declared.names.Task.{Task}
use Rattle.solo.specs.Line.{pushed, pushed_by, accepts, has_place, is_spent}
use Rattle.solo.specs.Lines.{LinesValue, line_of, pushed_in, first_of, popped_from, taken_by, found_by, taken_from, found_from}
use Rattle.solo.specs.Lines.{mark_of_turn, turned, searched, search_answer}
use Rattle.solo_laws.specs.Queueing.{one, times_in, times_of, times_lined}
use Rattle.solo_laws.proofs.Lines.{pushed_by_refused}
use Rattle.solo_laws.proofs.OwnPlaces.{first_times}

module _ (t : Task) where
  pushed_to : (place spent : Bool) (u : Task) (q : ClosableQueue Task)
      → times_in t (pushed_by place spent u q).items ≤ times_in t q.items + one t u
  pushed_to true true u q = omega arith
  pushed_to true false u q = let more = sum_by_push (one t) q.items u in omega (arith, more)
  pushed_to false spent u q = omega arith

  -- a task comes last in the queue of its mark, if it does
  pub pushed_times : (m : Mark) (u : Task) (l : LinesValue) → times_lined t (pushed_in m u l) ≤ times_lined t l + one t u
  pushed_times Plain u l =
      let more = pushed_to (has_place l.plain) (is_spent l.plain.accepted) u l.plain in omega (arith, more)
  pushed_times Urgent u l =
      let more = pushed_to (has_place l.urgent) (is_spent l.urgent.accepted) u l.urgent in omega (arith, more)

  refused_by : (u : Task) (q : ClosableQueue Task) → accepts q ≡ false → times_in t (pushed u q).items ≡ times_in t q.items
  refused_by u q is = ap (times_in t) (pushed_by_refused (has_place q) (is_spent q.accepted) u q is)

  -- one that is turned away changes nothing
  pub refused_times : (m : Mark) (u : Task) (l : LinesValue) → accepts (line_of m l) ≡ false
      → times_lined t (pushed_in m u l) ≡ times_lined t l
  refused_times Plain u l is = let same = refused_by u l.plain is in omega (arith, same)
  refused_times Urgent u l is = let same = refused_by u l.urgent is in omega (arith, same)

  -- the first of one queue leaves it
  pub popped_times : (m : Mark) (l : LinesValue) → times_lined t (popped_from m l) + times_of t (first_of m l) ≡ times_lined t l
  popped_times Plain l = let all = first_times t l.plain.items in omega (arith, all)
  popped_times Urgent l = let all = first_times t l.urgent.items in omega (arith, all)

  taken_by_times : (first : Option Task) (m : Mark) (l : LinesValue)
      → times_lined t (taken_by first m l) + times_of t (found_by first m l).task ≡ times_lined t l + times_of t first
  taken_by_times (Some u) m l = refl
  taken_by_times None m l = let all = popped_times (other m) l in omega (arith, all)

  -- the first of one queue, or else of the other one
  pub taken_times : (m : Mark) (l : LinesValue)
      → times_lined t (taken_from m l) + times_of t (found_from m l).task ≡ times_lined t l
  taken_times m l =
      let one = popped_times m l in
      let two = taken_by_times (first_of m l) m (popped_from m l) in
      omega (arith, one, two)

  -- what a search finds leaves its queue
  pub searched_times : (l : LinesValue) → times_lined t (searched l) + times_of t (search_answer l).task ≡ times_lined t l
  searched_times l = taken_times (mark_of_turn l.turn) (turned l)
