-- How often a task stands in queues, against whether it is ready, through each change of an executor of one owner.
use Rattle.std.proofs.Common.{◌≡◌, ℕ, zero, suc, ◌+◌, ◌%◌, ◌≤◌, ◌&&◌, Bool, true, false}
use Rattle.std.proofs.Common.{Option, Some, None, refl, arith}
use Rattle.executor_parts.specs.declared.mark.Mark.{Mark}
use Rattle.executor_parts.specs.declared.mark.Mark.TheVariants.{Plain, Urgent}
use Rattle.executor_parts.specs.declared.places.EntryPlace.{EntryPlace}
use Rattle.executor_parts.specs.Places.{entry_in, parts_of}
use Rattle.executor_parts.specs.Sleepers.{last_waker, without_last}
use Rattle.task_moves.specs.declared.local_task.answers.Start.{Start}
use Rattle.task_moves.specs.declared.local_task.answers.Start.TheVariants.{Poll, Drop}
use Rattle.solo.specs.declared.names.Task.{Task}
use Rattle.solo.specs.declared.names.SoloWaker.{SoloWaker}
use Rattle.solo.specs.declared.names.SoloWaker.TheVariants.{Task as OfTask, Outside}
use Rattle.solo.specs.declared.steals.Source.{Source}
use Rattle.solo.specs.declared.steals.Source.TheVariants.{Common, Own}
use Rattle.solo.specs.declared.owed.Told.{Told}
use Rattle.solo.specs.declared.solo.Solo.{Solo}
use Rattle.solo.specs.OwnQueues as own
use Rattle.solo.specs.Lines.{LinesValue, first_of as first_in, popped_from, searched, search_answer}
use Rattle.solo.specs.Cells.{Kept, choose, asked}
use Rattle.solo.specs.Cells as cells
use Rattle.solo.specs.Turns.{mark_of, lined, takes, turned, swept, lined_if, marked, loosed, handed_by, is_full, handed, told}
use Rattle.solo.specs.Turns.{told_waker, scheduled, schedule_answer, scheduled_if, schedule_if_answer, let_go, let_go_answer}
use Rattle.solo.specs.Turns.{let_go_if, let_go_if_answer, left_by_parts, left_answer_by, left, left_answer, without, out_of}
use Rattle.solo.specs.Turns.{begun}
use Rattle.solo.specs.Solo as solo
use Rattle.solo.specs.Solo.{popped}
use Rattle.solo.specs.Steals.{moved, first_of, without_first, kept, stolen, share, length_of, stolen_if, is_own, stolen_at, looked}
use Rattle.solo.specs.Steals.{own_popped}
use Rattle.solo.specs.Steals.{look_answer, round, round_on, next_place, further_by, further_answer_by, sought_by, sought, seek_answer_by}
use Rattle.solo.specs.Steals.{seek_answer}
use Rattle.solo.specs.Steals.{moved_on}
use Rattle.solo_laws.specs.Queueing.{one_if, is_task, one, times_of, times_lined, times_queued}
use Rattle.solo_laws.proofs.Prompt.{chosen}
use Rattle.solo_laws.proofs.Named.{Fits, ready, Asking, Fitting, queued_so, fitting_so, tidied_so}
use Rattle.solo_laws.proofs.Fitness.{woken_asks, released_asks, started_fits}
use Rattle.solo_laws.proofs.OwnPlaces.{popped_times, pushed_times}
use Rattle.solo_laws.proofs.LinePlaces as lines

module _ (t : Task) where
  module _ {F T X : Type 0} where
    -- the task fits, and with so many handed out it stands in queues no more often than it is ready and was brought back
    abbrev pub Stands : ℕ → ℕ → Solo F T X → Type 0
    Stands m n s = Fits t s.cells × (m + times_queued t s ≤ ready t s.cells + n)

    -- with fewer handed out, or more brought back
    pub weaker : (m n k l : ℕ) (s : Solo F T X) → k ≤ m → n ≤ l → Stands m n s → Stands k l s
    weaker m n k l s fewer more st = (st.0, (let less = st.1 in omega (arith, less, fewer, more)))

    -- as many handed out as brought back
    pub evened : (m n k : ℕ) (s : Solo F T X) → Stands (m + k) (n + k) s → Stands m n s
    evened m n k s st = (st.0, (let less = st.1 in omega (arith, less)))

    pub turned_stands : (f : Kept T X → Kept T X) (g : Kept T X → Bool) → Asking f g → (m n : ℕ) (u : Task) (s : Solo F T X)
        → Stands m n s → Stands (m + one_if (asked g false u s.cells && is_task t u)) n (turned f u s)
    turned_stands f g asks m n u s st =
        let now = queued_so f g asks t u s.cells st.0 in
        (now.0, (let less = st.1 in let grows = now.1 in omega (arith, less, grows)))

    -- a change that asks for no queueing
    pub quiet_stands : (f : Kept T X → Kept T X) → Asking f (λ v. false) → (m n : ℕ) (u : Task) (s : Solo F T X)
        → Stands m n s → Stands m n (turned f u s)
    quiet_stands f asks m n u s st =
        weaker (m + one_if (asked (λ v. false) false u s.cells && is_task t u)) n m n (turned f u s) (omega arith) (omega arith)
        (turned_stands f (λ v. false) asks m n u s st)

    -- a turn that begins or is lost
    pub ended_stands : (f : Kept T X → Kept T X) → Fitting f → (m n : ℕ) (u : Task) (s : Solo F T X)
        → Stands (m + one t u) n s → Stands m n (turned f u s)
    ended_stands f fits m n u s st =
        let now = fitting_so f fits t u s.cells st.0 in
        (now.0, (let less = st.1 in let loses = now.1 in omega (arith, less, loses)))

    pub swept_stands : (m n : ℕ) (u : Task) (s : Solo F T X) → Stands m n s → Stands m n (swept u s)
    swept_stands m n u s st =
        let now = tidied_so t u s.cells st.0 in
        (now.0, (let less = st.1 in let keeps = now.1 in omega (arith, less, keeps)))

    -- a task that is ready for it comes last in the queue of its mark, if it does
    lined_stands : (m n : ℕ) (u : Task) (s : Solo F T X) → Stands (m + one t u) n s → Stands m n (lined u s)
    lined_stands m n u s st =
        let more = lines.pushed_times t (mark_of u s) u s.lines in
        (st.0, (let less = st.1 in omega (arith, less, more)))

    lined_if_stands : (due : Bool) (m n : ℕ) (u : Task) (s : Solo F T X) → Stands (m + one_if (due && is_task t u)) n s
        → Stands m n (lined_if due u s)
    lined_if_stands true m n u s st = lined_stands m n u s st
    lined_if_stands false m n u s st = weaker (m + 0) n m n s (omega arith) (omega arith) st

    marked_stands : (m n : ℕ) (u : Task) (s : Solo F T X) → Stands m n s → Stands m n (marked u s)
    marked_stands m n u s st =
        lined_if_stands (asked cells.wake_queues false u s.cells) m n u (turned cells.woken u s)
        (turned_stands cells.woken cells.wake_queues woken_asks m n u s st)

    pub loosed_stands : (m n : ℕ) (u : Task) (s : Solo F T X) → Stands m n s → Stands m n (loosed u s)
    loosed_stands m n u s st =
        lined_if_stands (asked cells.release_queues false u s.cells) m n u (turned cells.released u s)
        (turned_stands cells.released cells.release_queues released_asks m n u s st)

    handed_by_stands : (w : Option (SoloWaker X)) (m n : ℕ) (s : Solo F T X) → Stands m n s → Stands m n (handed_by w s)
    handed_by_stands (Some (OfTask u)) m n s st =
        swept_stands m n u (loosed u (marked u s)) (loosed_stands m n u (marked u s) (marked_stands m n u s st))
    handed_by_stands (Some (Outside waker)) m n s st = st
    handed_by_stands None m n s st = st

    pub told_stands : (m n : ℕ) (s : Solo F T X) → Stands m n s → Stands m n (told s)
    told_stands m n s st =
        let on : Solo F T X = record s { notified = true } in
        chosen (Stands m n) s.notified s (handed on) st
        (chosen (Stands m n) (is_full on)
        (handed_by (last_waker s.sleepers.wakers) (record on { sleepers = without_last s.sleepers })) on
        (handed_by_stands (last_waker s.sleepers.wakers) m n (record on { sleepers = without_last s.sleepers }) st) st)

    scheduled_by : (b : Bool) (m n : ℕ) (u : Task) (s : Solo F T X) → takes u s ≡ b → Stands (m + one t u) n s
        → Stands
        (m + times_of t (choose {B = Told X} b
        (record { sleeper = told_waker (lined u s); returned = None })
        (record { sleeper = None; returned = Some u })).returned)
        n (choose b (told (lined u s)) (lined u s))
    scheduled_by true m n u s is st =
        told_stands (m + 0) n (lined u s)
        (weaker m n (m + 0) n (lined u s) (omega arith) (omega arith) (lined_stands m n u s st))
    scheduled_by false m n u s is st =
        let same = lines.refused_times t (mark_of u s) u s.lines is in
        (st.0, (let less = st.1 in omega (arith, less, same)))

    -- a task that is ready for it is queued, or is handed out
    pub scheduled_stands : (m n : ℕ) (u : Task) (s : Solo F T X) → Stands (m + one t u) n s
        → Stands (m + times_of t (schedule_answer u s).returned) n (scheduled u s)
    scheduled_stands m n u s st = scheduled_by (takes u s) m n u s refl st

    pub scheduled_if_stands : (due : Bool) (m n : ℕ) (u : Task) (s : Solo F T X) → Stands (m + one_if (due && is_task t u)) n s
        → Stands (m + times_of t (schedule_if_answer due u s).returned) n (scheduled_if due u s)
    scheduled_if_stands true m n u s st = scheduled_stands m n u s st
    scheduled_if_stands false m n u s st = st

    pub let_go_stands : (m n : ℕ) (u : Task) (s : Solo F T X) → Stands m n s
        → Stands (m + times_of t (let_go_answer u s).returned) n (let_go u s)
    let_go_stands m n u s st =
        let due : Bool = asked cells.release_queues false u s.cells in
        let loose : Solo F T X = turned cells.released u s in
        swept_stands (m + times_of t (let_go_answer u s).returned) n u (scheduled_if due u loose)
        (scheduled_if_stands due m n u loose (turned_stands cells.released cells.release_queues released_asks m n u s st))

    let_go_if_stands : (w : Option Task) (m n : ℕ) (s : Solo F T X) → Stands m n s
        → Stands (m + times_of t (let_go_if_answer w s).returned) n (let_go_if w s)
    let_go_if_stands (Some u) m n s st = let_go_stands m n u s st
    let_go_if_stands None m n s st = weaker m n (m + 0) n s (omega arith) (omega arith) st

    left_by_stands : (parts : Option (Option F × Option Task)) (m n : ℕ) (s : Solo F T X) → Stands m n s
        → Stands (m + times_of t (left_answer_by parts s).told.returned) n (left_by_parts parts s)
    left_by_stands None m n s st = weaker m n (m + 0) n s (omega arith) (omega arith) st
    left_by_stands (Some parts) m n s st = let_go_if_stands parts.1 m n s st

    -- an entry goes, and its waker with it
    pub left_stands : (m n : ℕ) (place : EntryPlace) (s : Solo F T X) → Stands m n s
        → Stands (m + times_of t (left_answer place s).told.returned) n (left place s)
    left_stands m n place s st = left_by_stands (parts_of (entry_in place s.table.entries)) m n (without place s) st

    out_of_stands : (start : Option (Start EntryPlace)) (m n : ℕ) (s : Solo F T X) → Stands m n s → Stands m n (out_of start s)
    out_of_stands (Some (Poll place)) m n s st = st
    out_of_stands (Some (Drop place)) m n s st = st
    out_of_stands None m n s st = st

    -- the turn of a task that was taken begins
    pub begun_stands : (m n : ℕ) (u : Task) (s : Solo F T X) → Stands (m + one t u) n s → Stands m n (begun u s)
    begun_stands m n u s st =
        out_of_stands (asked cells.start_answer None u s.cells) m n (turned cells.started u s)
        (ended_stands cells.started started_fits m n u s st)

    -- a task leaves one of the executor's queues
    pub out_stands : (l : LinesValue) (out : Option Task) (m n : ℕ) (s : Solo F T X)
        → times_lined t l + times_of t out ≡ times_lined t s.lines → Stands m n s
        → Stands (m + times_of t out) n (record s { lines = l })
    out_stands l out m n s all st = (st.0, (let less = st.1 in omega (arith, less, all)))

    -- what a search of both finds
    pub popped_stands : (m n : ℕ) (s : Solo F T X) → Stands m n s → Stands (m + times_of t (solo.sought s)) n (popped s)
    popped_stands m n s st = out_stands (searched s.lines) (solo.sought s) m n s (lines.searched_times t s.lines) st

    own_popped_stands : (m n number : ℕ) (s : Solo F T X) → Stands m n s
        → Stands (m + times_of t (own.first_of number s.runs)) n (own_popped number s)
    own_popped_stands m n number s st =
        let all = popped_times t number s.runs in
        (st.0, (let less = st.1 in omega (arith, less, all)))

    kept_stands : (m n number : ℕ) (u : Task) (s : Solo F T X) → Stands (m + one t u) n s → Stands m n (kept number u s)
    kept_stands m n number u s st =
        let more = pushed_times t u number s.runs in
        (st.0, (let less = st.1 in omega (arith, less, more)))

    without_first_stands : (source : Source) (m n : ℕ) (s : Solo F T X) → Stands m n s
        → Stands (m + times_of t (first_of source s)) n (without_first source s)
    without_first_stands (Common mark) m n s st =
        out_stands (popped_from mark s.lines) (first_in mark s.lines) m n s (lines.popped_times t mark s.lines) st
    without_first_stands (Own number) m n s st = own_popped_stands m n number s st

    moved_by : (first : Option Task) (k : ℕ) (source : Source) (m n number : ℕ) (s : Solo F T X) → Stands (m + times_of t first) n s
        → ((u : Task) → Stands m n (kept number u s) → Stands m n (moved k source number (kept number u s)))
        → Stands m n (moved_on first s (λ u. moved k source number (kept number u s)))
    moved_by None k source m n number s st more = weaker (m + 0) n m n s (omega arith) (omega arith) st
    moved_by (Some u) k source m n number s st more = more u (kept_stands m n number u s st)

    moved_stands : (k : ℕ) (source : Source) (m n number : ℕ) (s : Solo F T X) → Stands m n s → Stands m n (moved k source number s)
    moved_stands zero source m n number s st = st
    moved_stands (suc k) source m n number s st =
        moved_by (first_of source s) k source m n number (without_first source s) (without_first_stands source m n s st)
        (λ u rest. moved_stands k source m n number (kept number u (without_first source s)) rest)

    stolen_stands : (source : Source) (m n number : ℕ) (s : Solo F T X) → Stands m n s → Stands m n (stolen source number s)
    stolen_stands source m n number s st =
        moved_stands (share (length_of source s) (own.free_of number s.runs)) source m n number s st

    pub stolen_if_stands : (due : Bool) (m n number : ℕ) (s : Solo F T X) → Stands m n s → Stands m n (stolen_if due number s)
    stolen_if_stands due m n number s st =
        let urgent : Solo F T X = stolen (Common Urgent) number s in
        chosen (Stands m n) due (stolen (Common Plain) number urgent) s
        (stolen_stands (Common Plain) m n number urgent (stolen_stands (Common Urgent) m n number s st)) st

    looked_by : (b : Bool) (m n number at : ℕ) (s : Solo F T X) → Stands m n s
        → Stands
        (m + times_of t (choose b None (own.first_of number (stolen_at number at s).runs)))
        n (choose b s (own_popped number (stolen_at number at s)))
    looked_by true m n number at s st = weaker m n (m + 0) n s (omega arith) (omega arith) st
    looked_by false m n number at s st =
        own_popped_stands m n number (stolen_at number at s)
        (stolen_stands (Own (own.number_at at s.runs.queues)) m n number s st)

    looked_stands : (m n number at : ℕ) (s : Solo F T X) → Stands m n s
        → Stands (m + times_of t (look_answer number at s)) n (looked number at s)
    looked_stands m n number at s st = looked_by (is_own number at s) m n number at s st

    round_by : (found : Option Task) (m n : ℕ) (next : Solo F T X) (rest : Option Task × Solo F T X) → Stands (m + times_of t found) n next
        → (Stands m n next → Stands (m + times_of t rest.0) n rest.1)
        → Stands (m + times_of t (round_on found next rest).0) n (round_on found next rest).1
    round_by None m n next rest look on = on (weaker (m + 0) n m n next (omega arith) (omega arith) look)
    round_by (Some u) m n next rest look on = look

    round_stands : (left count m n number at : ℕ) (s : Solo F T X) → Stands m n s
        → Stands (m + times_of t (round count number left at s).0) n (round count number left at s).1
    round_stands zero count m n number at s st = weaker m n (m + 0) n s (omega arith) (omega arith) st
    round_stands (suc left) count m n number at s st =
        round_by (look_answer number at s) m n (looked number at s) (round count number left (next_place at count) (looked number at s))
        (looked_stands m n number at s st)
        (λ next. round_stands left count m n number (next_place at count) (looked number at s) next)

    further_stands : (first : Option Task) (mark : Mark) (m n number start : ℕ) (s : Solo F T X)
        → Stands (m + times_of t first) n s
        → Stands (m + times_of t (further_answer_by first number start s).task) n (further_by first mark number start s)
    further_stands (Some u) mark m n number start s st = stolen_stands (Common mark) (m + one t u) n number s st
    further_stands None mark m n number start s st =
        round_stands s.runs.listed s.runs.listed m n number (start % s.runs.listed) s
        (weaker (m + 0) n m n s (omega arith) (omega arith) st)

    sought_by_stands : (first : Option Task) (m n number start : ℕ) (s : Solo F T X) → Stands (m + times_of t first) n s
        → Stands (m + times_of t (seek_answer_by first number start s).task) n (sought_by first number start s)
    sought_by_stands (Some u) m n number start s st = st
    sought_by_stands None m n number start s st =
        further_stands (search_answer s.lines).task (search_answer s.lines).mark m n number start (popped s)
        (popped_stands m n s (weaker (m + 0) n m n s (omega arith) (omega arith) st))

    -- a run's search takes what it finds
    pub sought_stands : (m n number start : ℕ) (s : Solo F T X) → Stands m n s
        → Stands (m + times_of t (seek_answer number start s).task) n (sought number start s)
    sought_stands m n number start s st =
        sought_by_stands (own.first_of number s.runs) m n number start (own_popped number s)
        (own_popped_stands m n number s st)
