-- Calls that are no ticks' leave each that lies its number.
use Rattle.std.proofs.Common.{◌≡◌, ℕ, ◌≤◌, nat_lt, if◌then◌else◌, Bool, true, false, List, [], ◌∷◌, ◌++◌, length, find}
use Rattle.std.proofs.Common.{Option}
use Rattle.std.proofs.Common.{Some, None, is_some, refl, sym, ap, subst, ◌∙◌}
use Rattle.executor_parts.specs.declared.mark.Mark.{Mark}
use Rattle.task_moves.specs.AbstractTask as abstract
use Rattle.task_moves.specs.AbstractTask.{AbstractTask, Finished}
use Rattle.task_moves.specs.AbstractTask.PendingEnd.{Drops as EndDrops, Queues as EndQueues, Forgets as EndForgets, Rests as EndRests}
use Rattle.solo.specs.declared.names.Task.{Task}
use Rattle.solo.specs.declared.names.SoloWaker.{SoloWaker}
use Rattle.solo.specs.declared.names.SoloWaker.TheVariants.{Task as OfTask, Outside}
use Rattle.solo.specs.declared.owed.Lent.{Lent}
use Rattle.solo.specs.declared.solo.Solo.{Solo}
use Rattle.solo.specs.Cells.{asked, choose}
use Rattle.solo.specs.Cells as cells
use Rattle.solo.specs.Closing as closing
use Rattle.solo.specs.OwnQueues as own
use Rattle.solo.specs.Solo as solo
use Rattle.solo.specs.Turns as turns
use Rattle.plain_scheduler.specs.State.{Event, Due, Who, Choice, Code, Plain, Taker, Try, Closed, Gave, Poll, Polls, Made}
use Rattle.plain_scheduler.specs.State.{NoMemory}
use Rattle.plain_scheduler.specs.State.{Full, No, Done}
use Rattle.plain_scheduler.specs.Lists.{each, or, without}
use Rattle.plain_scheduler.specs.Moves.{answers, appended, becomes, chosen, enters, looks, put, see, task, tell, wake}
use Rattle.plain_scheduler.specs.Takes as takes
use Rattle.plain_scheduler.specs.Calls as plain
use Rattle.plain_scheduler.specs.Calls.{Call, does, is_granted, living_from}
use Rattle.solo_laws.specs.Alike as alike
use Rattle.solo_laws.specs.Alike.{takes_one}
use Rattle.solo_laws.specs.Busy.{run_of}
use Rattle.solo_laws.specs.Courses.{Makes, spawns, refuses, takes as takes_it, looks as looks_at, wakes as wakes_it, uses, releases, copies}
use Rattle.solo_laws.specs.Courses.{polls, cancels, detaches, drops_handle, leaks, pends, gives, ends_given, ends_closed, loses}
use Rattle.solo_laws.specs.Numbered.{IsNumbered}
use Rattle.solo_laws.specs.Road.{wakes}
use Rattle.solo_laws.specs.Tabled.{Stands, named}
use Rattle.solo_laws.proofs.Following.Bases as bases
use Rattle.solo_laws.proofs.Following.Both.{handled_still}
use Rattle.solo_laws.proofs.Following.Calling.{cancel_still}
use Rattle.solo_laws.proofs.Following.Frames.{becomes_still, put_still, tell_still}
use Rattle.solo_laws.proofs.Following.GettingUp.{numbered_kept}
use Rattle.solo_laws.proofs.Following.Resleeping.{Lies, Sleeps, after, as_before, of_still, ended_lies, dropped_lies, lost_lies, next_lies}
use Rattle.solo_laws.proofs.Following.Resleeping.{scheduled_if_sleeps, scheduled_sleeps, let_go_sleeps, calls_sleeps, lets_go_sleeps}
use Rattle.solo_laws.proofs.Following.Resleeping.{given_sleeps, closed_sleeps, pends_sleeps, takes_sleeps, leaks_sleeps}
use Rattle.solo_laws.proofs.Following.Takings.{none_if, none_of, takings}
use Rattle.solo_laws.proofs.Following.Using.{put_lying}

abbrev a_try : (X : Type 0) → Taker (SoloWaker X)
a_try X = Try

module _ {T X : Type 0} (c : Choice) where
  abbrev loud : Plain T (SoloWaker X) → Plain T (SoloWaker X)
  loud p = tell wakes c p

  -- a task becomes another
  becomes_lies : (f : ℕ) (new : AbstractTask T (SoloWaker X)) (p : Plain T (SoloWaker X)) → Lies c p (becomes wakes loud f new p)
  becomes_lies f new p = of_still c (becomes_still c loud (tell_still c) f new p)

  put_lies : (f : ℕ) (new : AbstractTask T (SoloWaker X)) (p : Plain T (SoloWaker X)) → Lies c p (put f new p)
  put_lies f new p = of_still c (put_still c f new p)

  -- a future is accepted, or not
  spawn_lies : (mark : Mark) (p : Plain T (SoloWaker X)) → Lies c p (does wakes c (Call.Spawn mark) p)
  spawn_lies mark p = by (nat_lt (length (living_from 0 p.futures)) p.limit) (is_granted c.refusal)
    where
      by : (b g : Bool)
          → Lies c p (if b then (if g then answers Made (tell wakes c (appended (length p.futures) (plain.entered wakes c mark p)))
          else answers NoMemory p) else answers Full p)
      by true true =
          let q = appended (length p.futures) (plain.entered wakes c mark p) in
          after c (as_before c p q refl refl refl)
          (after c (of_still c (tell_still c q)) (as_before c (tell wakes c q) (answers Made (tell wakes c q)) refl refl refl))
      by true false = as_before c p (answers NoMemory p) refl refl refl
      by false g = as_before c p (answers Full p) refl refl refl

  run_lies : (f : ℕ) (taker : Taker (SoloWaker X)) → takes_one taker ≡ true → (q : Plain T (SoloWaker X))
      → Lies c q (takes.run wakes c f taker q)
  run_lies f taker one q = by (task f q).closed
    where
      no_more : (cs : List (Code T (SoloWaker X))) → run_of taker ++ takings cs ≡ takings cs
      no_more cs = ap (λ ns. ns ++ takings cs) (none_of taker one)

      by : (b : Bool) → Lies c q (if b then takes.dropping wakes c f Closed taker q
          else enters (Poll f taker) (see (Polls f) (put f (abstract.begin_run (task f q)) q)))
      by true = as_before c q (takes.dropping wakes c f Closed taker q) refl refl (no_more q.inside)
      by false =
          as_before c q (enters (Poll f taker) (see (Polls f) (put f (abstract.begin_run (task f q)) q)))
          (put_lying f (abstract.begin_run (task f q)) q) (put_still c f (abstract.begin_run (task f q)) q).runs
          (ap (λ cs. run_of taker ++ takings cs) (put_still c f (abstract.begin_run (task f q)) q).inside ∙ no_more q.inside)

  try_lies : (p : Plain T (SoloWaker X)) → Lies c p (does wakes c Call.TryTick p)
  try_lies p = by (find (chosen (looks c (a_try X)) p.due) p.due)
    where
      by : (o : Option Due)
          → Lies c p (or o (λ d. takes.takes wakes c Try d (record p { due = without (chosen (looks c (a_try X)) p.due) p.due }))
          (takes.nothing wakes c Try p))
      by None = as_before c p (answers No p) refl refl refl
      by (Some d) =
          let left : Plain T (SoloWaker X) = record p { due = without (chosen (looks c (a_try X)) p.due) p.due } in
          after c (as_before c p left refl refl refl)
          (after c (of_still c (tell_still c left)) (run_lies d.future Try refl (tell wakes c left)))

  detach_lies : (f : ℕ) (p : Plain T (SoloWaker X)) → Lies c p (plain.detach wakes c f p)
  detach_lies f p =
      let left = abstract.detach (task f p) in
      let q = becomes wakes loud f left.task p in
      after c (becomes_lies f left.task p) (ended_lies c f (record left { task = task f q }) None refl q)

  freed_lies : (fs : List ℕ) (p : Plain T (SoloWaker X)) → Lies c p (each fs (plain.freed wakes c) p)
  freed_lies [] p = as_before c p p refl refl refl
  freed_lies (f ∷ fs) p =
      let q = wake wakes loud f p in
      after c (becomes_lies f (abstract.wake (task f p)) p)
      (after c (becomes_lies f (abstract.release (task f q)) q) (freed_lies fs (plain.freed wakes c f p)))

  pends_lies : (e : abstract.PendingEnd) (f : ℕ) (by : Taker (SoloWaker X)) → takes_one by ≡ true → (q : Plain T (SoloWaker X))
      → Lies c q (plain.pending_by wakes c e f by q)
  pends_lies EndDrops f by one q =
      as_before c q (plain.pending_by wakes c EndDrops f by q) refl refl (ap (λ ns. ns ++ takings q.inside) (none_of by one))
  pends_lies EndForgets f by one q =
      let still = put_still c f (record (task f q) { phase = Finished; closed = true }) q in
      as_before c q (plain.pending_by wakes c EndForgets f by q) (put_lying f (record (task f q) { phase = Finished; closed = true }) q)
      still.runs (ap (λ cs. run_of by ++ takings cs) still.inside ∙ ap (λ ns. ns ++ takings q.inside) (none_of by one))
  pends_lies EndQueues f by one q =
      let z = becomes wakes loud f (abstract.end_pending (task f q)).task q in
      after c (becomes_lies f (abstract.end_pending (task f q)).task q) (next_lies c by one z)
  pends_lies EndRests f by one q =
      let z = becomes wakes loud f (abstract.end_pending (task f q)).task q in
      after c (becomes_lies f (abstract.end_pending (task f q)).task q) (next_lies c by one z)

module _ {F T X : Type 0} (its : ℕ → Lent) (c : Choice) (s : Solo F T X) (p : Plain T (SoloWaker X)) where
  as_slept : Sleeps s s
  as_slept = ((bases.same s).5, refl)

  same_slept : (z y : Solo F T X) → z ≡ y → Sleeps s y → Sleeps s z
  same_slept z y is slept = subst (Sleeps s) (sym is) slept

  copies_slept : (w : SoloWaker X) → Sleeps s (alike.copies w s)
  copies_slept (OfTask t) = as_slept
  copies_slept (Outside w) = as_slept

  polled_slept : (b g : Bool) (f : ℕ) (w : SoloWaker X)
      → Sleeps s (choose b (choose g (alike.registered (named its f) w (alike.copies w s)) s) (solo.polled (named its f) w s))
  polled_slept true true f w =
      let y = alike.copies w s in
      lets_go_sleeps s (alike.replaced_by (solo.poll_answer (named its f) w y)) (solo.polled (named its f) w y) (copies_slept w)
  polled_slept true false f w = as_slept
  polled_slept false g f w = as_slept

  cancelled_slept : (t : Task) → Sleeps s (alike.cancelled t s)
  cancelled_slept t =
      calls_sleeps s (solo.cancel_answer t s).awaiter (solo.cancelled t s)
      (scheduled_if_sleeps s (is_some (asked cells.cancel_queues None t s.cells)) t (turns.turned cells.cancelled t s) as_slept)

  detached_slept : (t : Task) (z : Solo F T X) → Sleeps s z → Sleeps s (solo.detached t z)
  detached_slept t z slept =
      scheduled_if_sleeps s (is_some (asked cells.detach_queues None t z.cells)) t (turns.turned cells.detached t z) slept

  answered : (q : Plain T (SoloWaker X)) → Lies c p q → Lies c p (answers Done q)
  answered q is = after c is (as_before c q (answers Done q) refl refl refl)

  copy_lies : (f : ℕ) → Lies c p (does wakes c (Call.Copy f) p)
  copy_lies f = by (is_granted c.refusal)
    where
      by : (g : Bool) → Lies c p (if g then answers Made (put f (abstract.copy (task f p)) p) else answers NoMemory p)
      by true =
          let q = put f (abstract.copy (task f p)) p in
          after c (put_lies c f (abstract.copy (task f p)) p) (as_before c q (answers Made q) refl refl refl)
      by false = as_before c p (answers NoMemory p) refl refl refl

  -- in whatever code it stands
  module _ (rest : List (Code T (SoloWaker X))) where
    abbrev out : Plain T (SoloWaker X)
    out = record p { inside = rest }

    within : takings rest ≡ takings p.inside → (q : Plain T (SoloWaker X)) → Lies c out q → Lies c p q
    within same q is = after c (as_before c p out refl refl same) is

  abbrev pub Kept : Call T (SoloWaker X) → Solo F T X → Type 0
  Kept call z = Sleeps s z × Lies c p (does wakes c call p)

  pub keeps : (call : Call T (SoloWaker X)) (shown : List (Event T (SoloWaker X))) (z : Solo F T X) → Makes its c s p call shown z
      → Kept call z
  keeps call shown z (spawns mark future spawned y so is granted life few) =
      let one : Solo F T X = record s { table = so.0.table; cells = so.0.cells; accepted = own.one_more s.accepted } in (
        same_slept y (turns.scheduled spawned.task one) (so.2 ∙ ap (turns.scheduled spawned.task) so.1.1)
            (scheduled_sleeps s spawned.task one as_slept),
        spawn_lies c mark p,
      )
  keeps call shown z (refuses mark future refused y so fits) =
      (same_slept y (record s { table = y.table; cells = y.cells }) so.1 as_slept, spawn_lies c mark p)
  keeps call shown z (takes_it first life) = (takes_sleeps s s as_slept, try_lies c p)
  keeps call shown z looks_at = (as_slept, as_before c p (does wakes c Call.IsEmpty p) refl refl refl)
  keeps call shown z (wakes_it f at life) = (
    scheduled_if_sleeps s (asked cells.wake_queues false (named its f) s.cells) (named its f) (turns.turned cells.woken (named its f) s)
        as_slept,
    answered (wake wakes (loud c) f p) (becomes_lies c f (abstract.wake (task f p)) p),
  )
  keeps call shown z (uses f at life) = (
    scheduled_if_sleeps s (solo.wakes_or_closes (named its f) s) (named its f)
        (turns.turned cells.released (named its f) (turns.turned cells.woken (named its f) s)) as_slept,
    answered (becomes wakes (loud c) f (abstract.release (abstract.wake (task f p))) p)
        (becomes_lies c f (abstract.release (abstract.wake (task f p))) p),
  )
  keeps call shown z (releases f at life) = (
    let_go_sleeps s (named its f) s as_slept,
    answered (becomes wakes (loud c) f (abstract.release (task f p)) p) (becomes_lies c f (abstract.release (task f p)) p),
  )
  keeps call shown z (copies f at says) = (as_slept, copy_lies f)
  keeps call shown z (polls f w at handle names life) = (
    polled_slept (solo.must_wait (named its f) s) (is_granted c.refusal) f w,
    of_still c (handled_still c p f w (abstract.polled (task f p))),
  )
  keeps call shown z (cancels f at life) =
      (cancelled_slept (named its f), answered (plain.cancel wakes c f p) (of_still c (cancel_still c f p)))
  keeps call shown z (detaches f at life) = (detached_slept (named its f) s as_slept, detach_lies c f p)
  keeps call shown z (drops_handle f at life) = (
    detached_slept (named its f) (alike.cancelled (named its f) s) (cancelled_slept (named its f)),
    after c (of_still c (cancel_still c f p)) (detach_lies c f (plain.cancel wakes c f p)),
  )
  keeps call shown z (leaks owned life) =
      let static : Plain T (SoloWaker X) = record p { is_static = true } in
      let q = each (living_from 0 p.futures) (plain.freed wakes c) static in (
        leaks_sleeps s (length s.table.entries) (closing.leaked s) as_slept,
        answered q (after c (as_before c p static refl refl refl) (freed_lies c (living_from 0 p.futures) static)),
      )
  keeps call shown z (pends f by rest future one stands_in life) = (
    pends_sleeps s (its f) future s as_slept,
    subst (λ cs. Lies c p (plain.innermost wakes c cs (plain.pends wakes c) p)) (sym stands_in)
        (within rest (sym (ap (λ cs. takings cs) stands_in ∙ ap (λ ns. ns ++ takings rest) (none_of by one)))
        (plain.pending_by wakes c (abstract.pending_end (task f p)) f by (out rest))
        (pends_lies c (abstract.pending_end (task f p)) f by one (out rest))),
  )
  keeps call shown z (gives f by rest v stands_in) = (
    as_slept,
    subst (λ cs. Lies c p (plain.innermost wakes c cs (plain.gives wakes c v) p)) (sym stands_in)
        (as_before c p (takes.dropping wakes c f (Gave v) by (out rest)) refl refl (sym (ap (λ cs. takings cs) stands_in))),
  )
  keeps call shown z (ends_given f v by rest one stands_in life) = (
    given_sleeps s (its f) v s as_slept,
    subst (λ cs. Lies c p (plain.innermost wakes c cs (plain.ends wakes c) p)) (sym stands_in)
        (within rest (sym (ap (λ cs. takings cs) stands_in ∙ ap (λ ns. ns ++ takings rest) (none_of by one)))
        (takes.dropped wakes c f (Gave v) by (out rest)) (dropped_lies c f (Gave v) by one (out rest))),
  )
  keeps call shown z (ends_closed f by rest one stands_in life) = (
    closed_sleeps s (its f) s as_slept,
    subst (λ cs. Lies c p (plain.innermost wakes c cs (plain.ends wakes c) p)) (sym stands_in)
        (within rest (sym (ap (λ cs. takings cs) stands_in ∙ ap (λ ns. ns ++ takings rest) (none_of by one)))
        (takes.dropped wakes c f Closed by (out rest)) (dropped_lies c f Closed by one (out rest))),
  )
  keeps call shown z (loses awaiter by rest one stands_in life) = (
    calls_sleeps s awaiter s as_slept,
    subst (λ cs. Lies c p (plain.innermost wakes c cs (plain.ends wakes c) p)) (sym stands_in)
        (within rest (sym (ap (λ cs. takings cs) stands_in ∙ ap (λ ns. ns ++ takings rest) (none_if by one)))
        (takes.lost wakes c awaiter by (out rest)) (lost_lies c awaiter by one (out rest))),
  )

  -- so who lies keeps its number
  pub makes_numbered : (number : Who → ℕ) (call : Call T (SoloWaker X)) (shown : List (Event T (SoloWaker X))) (z : Solo F T X)
      → Makes its c s p call shown z → IsNumbered number s.sleepers p.lying → length p.lying ≤ c.tells
      → Stands its z (does wakes c call p) → IsNumbered number z.sleepers (does wakes c call p).lying
  makes_numbered number call shown z makes n many stands =
      let it = keeps call shown z makes in
      numbered_kept c (named its) number s z p (does wakes c call p) None n it.0.0 it.1.whos (it.1.waits many) stands.0
