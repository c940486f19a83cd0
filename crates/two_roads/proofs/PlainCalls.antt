-- And so it is behind each call.
use Rattle.std.proofs.Common.{◌≡◌, ℕ, nat_lt, count_by, cond, true, false}
use Rattle.std.proofs.Common.{List, [], ◌∷◌, ◌++◌, length, filter, Option, None, slice_get, refl, sym, ◌∙◌}
use Rattle.executor_parts.specs.declared.mark.Mark.TheVariants.{Plain as PlainMark, Urgent}
use Rattle.task_moves.specs.AbstractTask as abstract
use Rattle.task_moves.specs.AbstractTask.{AbstractTask}
use Rattle.plain_scheduler.specs.State.{Answer, ARun, ATick, Cancelled, Choice, Close as Closing, Closed, Code, Done, Drop}
use Rattle.plain_scheduler.specs.State.{DropOwn, Drops, End, Finished, Full, Future, Gave, Gives, Lose}
use Rattle.plain_scheduler.specs.State.{Made, No, NoMemory, Pending, Plain, Poll, PollOwn, Ready, Run, Taker, Tick}
use Rattle.plain_scheduler.specs.State.{Try, Yes}
use Rattle.plain_scheduler.specs.Lists.{each, on, or, repeat}
use Rattle.plain_scheduler.specs.Moves.{answers, appended, becomes, changed, copied, enters, given_back, is_common, is_kept}
use Rattle.plain_scheduler.specs.Moves.{keeps, leaves, let_go, put, release, runs, see, task}
use Rattle.plain_scheduler.specs.Moves.{used, wake}
use Rattle.plain_scheduler.specs.Takes as takes
use Rattle.plain_scheduler.specs.Calls as calls
use Rattle.plain_scheduler.specs.Calls.{Call, course, does, is_granted, living_from}
use Rattle.two_roads.specs.Renaming.{AreBothDue}
use Rattle.two_roads.specs.Plainly.{are_plain, is_plain_call}
use Rattle.two_roads.proofs.Plainly.{IsPlain, tells}
use Rattle.two_roads.proofs.Plainly.{plain_last, if_plain, each_plain, repeat_plain, changed_plain, put_plain, runs_plain, due_plain}
use Rattle.two_roads.proofs.Plainly.{appended_plain, given_back_plain, same_plain, becomes_plain}
use Rattle.two_roads.proofs.Plainly.{copied_plain, tell_plain, goes_plain, calls_plain, leaves_plain, says, take_plain, next_plain}
use Rattle.two_roads.proofs.Plainly.{lost_plain, ended_plain, dropped_plain, both_true, none_urgent}

module _ {T A : Type 0} (wakes : A → Option ℕ) (c : Choice) where
  abbrev Keeps : (Plain T A → Plain T A) → Type 0
  Keeps f = (p : Plain T A) → IsPlain p → IsPlain (f p)

  abbrev tells_so : Plain T A → Plain T A
  tells_so p = tells wakes c p

  -- calls
  granted_plain : (x p : Plain T A) → IsPlain x → IsPlain p → IsPlain (cond (is_granted c.refusal) x (answers NoMemory p))
  granted_plain x p one plain = if_plain (is_granted c.refusal) x (answers NoMemory p) one (says wakes c NoMemory p plain)

  spawn_plain : Keeps (calls.spawn wakes c PlainMark)
  spawn_plain p plain =
      let x : Future T A =
      record { task = abstract.spawned (cond p.is_static 0 1); mark = PlainMark; is_dropped = false } in
      let p1 : Plain T A = record p { futures = p.futures ++ x ∷ [] } in
      let z1 : IsPlain p1 =
      record { futures = plain_last (λ (x : Future T A). x.mark) p.futures x plain.futures refl; due = plain.due } in
      let p2 = appended (length p.futures) p1 in
      if_plain (nat_lt (length (living_from 0 p.futures)) p.limit)
      (cond (is_granted c.refusal) (answers Made (tells_so p2)) (answers NoMemory p)) (answers Full p)
      (granted_plain (answers Made (tells_so p2)) p
      (says wakes c Made (tells_so p2) (tell_plain wakes c p2 (appended_plain (length p.futures) p1 z1))) plain)
      (says wakes c Full p plain)

  registered_plain : (f : ℕ) (w : A) → Keeps (calls.registered wakes c f w)
  registered_plain f w p plain =
      let l = abstract.poll w (task f p) in
      says wakes c Pending (on l.let_go (let_go wakes tells_so) (put f l.task p))
      (goes_plain wakes c l.let_go (put f l.task p) (put_plain f l.task p plain))

  handle_plain : (f : ℕ) (w : A) (e : abstract.Polled T) → Keeps (calls.handle_by wakes c f w e)
  handle_plain f w (abstract.Polled.Output v) p plain =
      says wakes c (Gives v) (put f (abstract.poll w (task f p)).task p) (put_plain f (abstract.poll w (task f p)).task p plain)
  handle_plain f w abstract.Polled.Cancelled p plain = says wakes c Cancelled p plain
  handle_plain f w abstract.Polled.Waits p plain =
      granted_plain (calls.registered wakes c f w (copied wakes w p)) p
      (registered_plain f w (copied wakes w p) (copied_plain wakes w p plain)) plain

  cancel_plain : (f : ℕ) → Keeps (calls.cancel wakes c f)
  cancel_plain f p plain =
      let l = abstract.cancel (task f p) in
      calls_plain wakes c l.called (becomes wakes tells_so f l.task p) (becomes_plain wakes tells_so (tell_plain wakes c) f l.task p plain)

  detach_plain : (f : ℕ) → Keeps (calls.detach wakes c f)
  detach_plain f p plain =
      let l = abstract.detach (task f p) in
      let q = becomes wakes tells_so f l.task p in
      ended_plain wakes c f (record l { task = task f q }) None q (becomes_plain wakes tells_so (tell_plain wakes c) f l.task p plain)

  gone_plain : (r : ℕ) → Keeps (calls.gone wakes c r)
  gone_plain r p plain =
      let q = runs (λ run. record run { is_over = true }) r p in
      leaves_plain wakes c (ARun r) (repeat (count_by (is_kept r) p.due) (λ p. tells_so (given_back r p)) q)
      (repeat_plain (count_by (is_kept r) p.due) (λ p. tells_so (given_back r p))
      (λ p plain. tell_plain wakes c (given_back r p) (given_back_plain r p plain)) q
      (runs_plain (λ run. record run { is_over = true }) r p plain))

  freed_plain : (f : ℕ) → Keeps (calls.freed wakes c f)
  freed_plain f p plain =
      let q = wake wakes tells_so f p in
      becomes_plain wakes tells_so (tell_plain wakes c) f (abstract.release (task f q)) q
      (becomes_plain wakes tells_so (tell_plain wakes c) f (abstract.wake (task f p)) p plain)

  closed_plain : (f : ℕ) → Keeps (calls.closed wakes c f)
  closed_plain f p plain =
      let l = abstract.drop_runnable (task f p) in
      calls_plain wakes c l.called (put f l.task p) (put_plain f l.task p plain)

  swept_plain : Keeps (calls.swept wakes c)
  swept_plain p plain =
      each_plain (filter (is_common Urgent) p.due ++ filter (is_common PlainMark) p.due) (λ d. calls.closed wakes c d.future)
      (λ d. closed_plain d.future) (record p { due = [] }) (due_plain p plain [] tt)

  close_plain : (fs all : List ℕ) → Keeps (calls.close wakes c fs all)
  close_plain [] all p plain =
      let q = each all (calls.freed wakes c) p in
      says wakes c Done (calls.swept wakes c q) (swept_plain q (each_plain all (calls.freed wakes c) freed_plain p plain))
  close_plain (f ∷ fs) all p plain =
      let q = changed (λ future. record future { is_dropped = true }) f p in
      same_plain q (enters (Closing fs all) (see (Drops f) q)) refl refl
      (changed_plain (λ future. record future { is_dropped = true }) (λ x. refl) f p plain)

  dropping_plain : (f : ℕ) (end : End T) (by : Taker A) → Keeps (takes.dropping wakes c f end by)
  dropping_plain f end by p plain = same_plain p (takes.dropping wakes c f end by p) refl refl plain

  pending_plain : (e : abstract.PendingEnd) (f : ℕ) (by : Taker A) → Keeps (calls.pending_by wakes c e f by)
  pending_plain abstract.PendingEnd.Drops f by p plain = dropping_plain f Closed by p plain
  pending_plain abstract.PendingEnd.Forgets f by p plain =
      let new : AbstractTask T A = record (task f p) { phase = abstract.Phase.Finished; closed = true } in
      dropping_plain f Closed by (put f new p) (put_plain f new p plain)
  pending_plain abstract.PendingEnd.Queues f by p plain =
      next_plain wakes c by (becomes wakes tells_so f (abstract.end_pending (task f p)).task p)
      (becomes_plain wakes tells_so (tell_plain wakes c) f (abstract.end_pending (task f p)).task p plain)
  pending_plain abstract.PendingEnd.Rests f by p plain =
      next_plain wakes c by (becomes wakes tells_so f (abstract.end_pending (task f p)).task p)
      (becomes_plain wakes tells_so (tell_plain wakes c) f (abstract.end_pending (task f p)).task p plain)

  pends_plain : (code : Code T A) → Keeps (calls.pends wakes c code)
  pends_plain (Poll f by) p plain = pending_plain (abstract.pending_end (task f p)) f by p plain
  pends_plain (PollOwn r w) p plain = take_plain wakes c (Run r w) p plain
  pends_plain (Drop f end by) p plain = plain
  pends_plain (Lose awaiter by) p plain = plain
  pends_plain (DropOwn r answer) p plain = plain
  pends_plain (Closing fs all) p plain = plain

  gives_plain : (v : T) (code : Code T A) → Keeps (calls.gives wakes c v code)
  gives_plain v (Poll f by) p plain = dropping_plain f (Gave v) by p plain
  gives_plain v (PollOwn r w) p plain = same_plain p (enters (DropOwn r Ready) p) refl refl plain
  gives_plain v (Drop f end by) p plain = plain
  gives_plain v (Lose awaiter by) p plain = plain
  gives_plain v (DropOwn r answer) p plain = plain
  gives_plain v (Closing fs all) p plain = plain

  ends_plain : (code : Code T A) → Keeps (calls.ends wakes c code)
  ends_plain (Drop f end by) p plain = dropped_plain wakes c f end by p plain
  ends_plain (Lose awaiter by) p plain = lost_plain wakes c awaiter by p plain
  ends_plain (DropOwn r answer) p plain = says wakes c answer (calls.gone wakes c r p) (gone_plain r p plain)
  ends_plain (Closing fs all) p plain = close_plain fs all p plain
  ends_plain (Poll f by) p plain = plain
  ends_plain (PollOwn r w) p plain = plain

  innermost_plain : (end : Code T A → Plain T A → Plain T A) → ((code : Code T A) → Keeps (end code))
      → (codes : List (Code T A)) → Keeps (calls.innermost wakes c codes end)
  innermost_plain end keeps [] p plain = plain
  innermost_plain end keeps (code ∷ rest) p plain =
      keeps code (record p { inside = rest }) (same_plain p (record p { inside = rest }) refl refl plain)

  over_plain : (r : ℕ) (a : Answer T) (code : Code T A) (p : Plain T A) → IsPlain p
      → IsPlain (cond (or (slice_get p.runs r) (λ run. run.is_over) true) (answers a p) (enters code p))
  over_plain r a code p plain =
      if_plain (or (slice_get p.runs r) (λ run. run.is_over) true) (answers a p) (enters code p) (says wakes c a p plain)
      (same_plain p (enters code p) refl refl plain)

  pub call_plain : (call : Call T A) → is_plain_call call ≡ true → Keeps (does wakes c call)
  call_plain (calls.Spawn PlainMark) is p plain = spawn_plain p plain
  call_plain (calls.Spawn Urgent) is p plain = absurd cc
  call_plain calls.TryTick is p plain = take_plain wakes c Try p plain
  call_plain calls.IsEmpty is p plain = says wakes c (cond (calls.is_none (living_from 0 p.futures)) Yes No) p plain
  call_plain (calls.Wake f) is p plain =
      says wakes c Done (wake wakes tells_so f p) (becomes_plain wakes tells_so (tell_plain wakes c) f (abstract.wake (task f p)) p plain)
  call_plain (calls.Use f) is p plain =
      says wakes c Done (used wakes tells_so f p)
      (becomes_plain wakes tells_so (tell_plain wakes c) f (abstract.release (abstract.wake (task f p))) p plain)
  call_plain (calls.Copy f) is p plain =
      let q = put f (abstract.copy (task f p)) p in
      granted_plain (answers Made q) p (says wakes c Made q (put_plain f (abstract.copy (task f p)) p plain)) plain
  call_plain (calls.Release f) is p plain =
      says wakes c Done (release wakes tells_so f p)
      (becomes_plain wakes tells_so (tell_plain wakes c) f (abstract.release (task f p)) p plain)
  call_plain (calls.PollHandle f w) is p plain = handle_plain f w (abstract.polled (task f p)) p plain
  call_plain (calls.Cancel f) is p plain = says wakes c Done (calls.cancel wakes c f p) (cancel_plain f p plain)
  call_plain (calls.Detach f) is p plain = detach_plain f p plain
  call_plain (calls.DropHandle f) is p plain = detach_plain f (calls.cancel wakes c f p) (cancel_plain f p plain)
  call_plain calls.NewTick is p plain = granted_plain (answers Made p) p (says wakes c Made p plain) plain
  call_plain (calls.PollTick t w) is p plain = take_plain wakes c (Tick t w) p plain
  call_plain (calls.DropTick t) is p plain = says wakes c Done (leaves wakes c (ATick t) p) (leaves_plain wakes c (ATick t) p plain)
  call_plain calls.NewRun is p plain =
      let q : Plain T A = record p { runs = p.runs ++ record { taken = 0; is_over = false } ∷ [] } in
      granted_plain (answers Made q) p (says wakes c Made q (same_plain p q refl refl plain)) plain
  call_plain (calls.PollRun r w) is p plain = over_plain r Finished (PollOwn r w) p plain
  call_plain (calls.DropRun r) is p plain = over_plain r Done (DropOwn r Done) p plain
  call_plain calls.Leak is p plain =
      let q : Plain T A = record p { is_static = true } in
      says wakes c Done (calls.leak wakes c p)
      (each_plain (living_from 0 p.futures) (calls.freed wakes c) freed_plain q (same_plain p q refl refl plain))
  call_plain calls.DropExecutor is p plain = close_plain (living_from 0 p.futures) (living_from 0 p.futures) p plain
  call_plain calls.Pends is p plain = innermost_plain (calls.pends wakes c) pends_plain p.inside p plain
  call_plain (calls.EndsWith v) is p plain = innermost_plain (calls.gives wakes c v) (gives_plain v) p.inside p plain
  call_plain calls.Ends is p plain = innermost_plain (calls.ends wakes c) ends_plain p.inside p plain

-- futures of both marks are not due then
module _ {T A : Type 0} where
  pub never_two : (p : Plain T A) → IsPlain p → ¬ AreBothDue p.due
  never_two p plain both = apart (sym (none_urgent p.due plain.due) ∙ both.urgent)
    where
      apart : false ≡ true → ⊥
      apart is = cc

module _ {T A : Type 0} (wakes : A → Option ℕ) where
  pub course_plain : (cs : List (Choice × Call T A)) → are_plain cs ≡ true → (p : Plain T A) → IsPlain p → IsPlain (course wakes cs p)
  course_plain [] are p plain = plain
  course_plain ((c, call) ∷ cs) are p plain =
      let both = both_true (is_plain_call call) (are_plain cs) are in
      course_plain cs both.1 (does wakes c call p) (call_plain wakes c call both.0 p plain)

  pub never_both : (cs : List (Choice × Call T A)) (p : Plain T A) → IsPlain p → are_plain cs ≡ true
      → ¬ AreBothDue (course wakes cs p).due
  never_both cs p plain are = never_two (course wakes cs p) (course_plain cs are p plain)
