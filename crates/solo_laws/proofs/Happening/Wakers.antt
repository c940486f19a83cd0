-- By which wakers runs are polled, in users' codes: no call but the poll of a run has one more.
use Rattle.std.proofs.Common.{◌≡◌, ℕ, ◌+◌, nat_lt, if◌then◌else◌, Bool, true, false, List, [], ◌∷◌, ◌++◌, find, filter, Option, Some}
use Rattle.std.proofs.Common.{None, slice_get, refl, sym, subst, ◌∙◌}
use Rattle.executor_parts.specs.declared.mark.Mark.TheVariants.{Plain as PlainMark, Urgent}
use Rattle.task_moves.specs.AbstractTask as abstract
use Rattle.task_moves.specs.AbstractTask.{Left}
use Rattle.task_moves.specs.AbstractTask.PendingEnd.{Drops as EndDrops, Queues as EndQueues, Forgets as EndForgets, Rests as EndRests}
use Rattle.solo.specs.declared.names.SoloWaker.{SoloWaker}
use Rattle.plain_scheduler.specs.State.{ARun, ATick, Choice, Close, Closed, Code, Done, Drop, DropOwn, Due, End, Finished, Future, Lose}
use Rattle.plain_scheduler.specs.State.{Loses, Made, Plain, Poll, PollOwn, Polls, Run, Taker, Tick, Try}
use Rattle.plain_scheduler.specs.Lists.{each, on, or, without}
use Rattle.plain_scheduler.specs.Moves.{answers, becomes, called, changed, chosen, enters, is_common, let_go, looks, put, see, task, tell}
use Rattle.plain_scheduler.specs.Moves.{up}
use Rattle.plain_scheduler.specs.Takes as takes
use Rattle.plain_scheduler.specs.Calls as calls
use Rattle.plain_scheduler.specs.Calls.{Call}
use Rattle.solo_laws.specs.Making.{EachPolledBy, PolledBy, PolledIf, PolledIn}
use Rattle.solo_laws.specs.Road.{wakes}
use Rattle.solo_laws.proofs.Following.CodesKept.{becomes_calm, calls_calm, cancel_calm, changed_calm, each_calm, freed_calm, gives_way_calm}
use Rattle.solo_laws.proofs.Following.CodesKept.{gone_calm, granted_calm, handle_calm, kept_calm, leaves_calm, lets_go_calm, nothing_calm}
use Rattle.solo_laws.proofs.Following.CodesKept.{robbed_calm, runs_calm, spawn_calm, tell_calm, up_calm}
use Rattle.solo_laws.proofs.Following.Using.{put_inside}

module _ {T X : Type 0} (c : Choice) (Is : SoloWaker X → Type 0) where
  abbrev loud : Plain T (SoloWaker X) → Plain T (SoloWaker X)
  loud p = tell wakes c p

  abbrev All : Plain T (SoloWaker X) → Type 0
  All p = EachPolledBy {T = T} Is p.inside

  same_all : (p q : Plain T (SoloWaker X)) → q.inside ≡ p.inside → All p → All q
  same_all p q is all = subst (λ cs. EachPolledBy {T = T} Is cs) (sym is) all

  run_all : (f : ℕ) (by : Taker (SoloWaker X)) (p : Plain T (SoloWaker X)) → PolledBy Is by → All p → All (takes.run wakes c f by p)
  run_all f by p its all = which (task f p).closed
    where
      which : (b : Bool) → All (if b then takes.dropping wakes c f Closed by p
          else enters (Poll f by) (see (Polls f) (put f (abstract.begin_run (task f p)) p)))
      which true = (its, all)
      which false = (its, same_all p (put f (abstract.begin_run (task f p)) p) (put_inside f (abstract.begin_run (task f p)) p) all)

  takes_all : (by : Taker (SoloWaker X)) (d : Due) (p : Plain T (SoloWaker X)) → PolledBy Is by → All p
      → All (takes.takes wakes c by d p)
  takes_all Try d p its all = run_all d.future Try (loud p) its (same_all p (loud p) (tell_calm c p) all)
  takes_all (Tick t w) d p its all =
      let q = up wakes c (ATick t) p in
      run_all d.future (Tick t w) (loud q) its (same_all p (loud q) (tell_calm c q ∙ up_calm c (ATick t) p) all)
  takes_all (Run r w) d p its all =
      let a = takes.robbed wakes c r d.keeper p in
      let b = up wakes c (ARun r) a in
      let e = takes.kept wakes c r (loud b) in
      let z = takes.counted wakes c r e in
      run_all d.future (Run r w) z its
      (same_all p z
      (runs_calm c (λ run. record run { taken = run.taken + 1 }) r e
      ∙ (kept_calm c r (loud b) ∙ (tell_calm c b ∙ (up_calm c (ARun r) a ∙ robbed_calm c r d.keeper p)))) all)

  take_all : (by : Taker (SoloWaker X)) (p : Plain T (SoloWaker X)) → PolledBy Is by → All p → All (takes.take wakes c by p)
  take_all by p its all = which (find (chosen (looks c by) p.due) p.due)
    where
      which : (o : Option Due)
          → All (or o (λ d. takes.takes wakes c by d (record p { due = without (chosen (looks c by) p.due) p.due }))
          (takes.nothing wakes c by p))
      which None = same_all p (takes.nothing wakes c by p) (nothing_calm c by p) all
      which (Some d) = takes_all by d (record p { due = without (chosen (looks c by) p.due) p.due }) its all

  next_all : (by : Taker (SoloWaker X)) (p : Plain T (SoloWaker X)) → PolledBy Is by → All p → All (takes.next wakes c by p)
  next_all Try p its all = all
  next_all (Tick t w) p its all = all
  next_all (Run r w) p its all = which (nat_lt (or (slice_get p.runs r) (λ run. run.taken) 0) 200)
    where
      which : (b : Bool) → All (if b then takes.take wakes c (Run r w) p else takes.gives_way wakes c r w p)
      which true = take_all (Run r w) p its all
      which false = same_all p (takes.gives_way wakes c r w p) (gives_way_calm c r w p) all

  lost_all : (awaiter : Option (SoloWaker X)) (by : Option (Taker (SoloWaker X))) (p : Plain T (SoloWaker X)) → PolledIf Is by → All p
      → All (takes.lost wakes c awaiter by p)
  lost_all awaiter None p its all = same_all p (takes.lost wakes c awaiter None p) (calls_calm c awaiter p) all
  lost_all awaiter (Some by) p its all =
      let q = on awaiter (called wakes loud) p in next_all by q its (same_all p q (calls_calm c awaiter p) all)

  ended_all : (f : ℕ) (left : Left T (SoloWaker X)) (by : Option (Taker (SoloWaker X))) (p : Plain T (SoloWaker X)) → PolledIf Is by
      → All p → All (takes.ended wakes c f left by p)
  ended_all f left by p its all = which left.dropped
    where
      q : Plain T (SoloWaker X)
      q = put f left.task p

      left_all : All (put f left.task p)
      left_all = same_all p (put f left.task p) (put_inside f left.task p) all

      which : (o : Option T)
          → All (or o (λ v. enters (Lose left.called by) (see (Loses v) (put f left.task p)))
          (takes.lost wakes c left.called by (on left.let_go (let_go wakes loud) (put f left.task p))))
      which (Some v) = (its, left_all)
      which None =
          let z = on left.let_go (let_go wakes loud) (put f left.task p) in
          lost_all left.called by z its (same_all (put f left.task p) z (lets_go_calm c left.let_go (put f left.task p)) left_all)

  dropped_all : (f : ℕ) (end : End T) (by : Taker (SoloWaker X)) (p : Plain T (SoloWaker X)) → PolledBy Is by → All p
      → All (takes.dropped wakes c f end by p)
  dropped_all f end by p its all =
      let h : Future T (SoloWaker X) → Future T (SoloWaker X) = λ future. record future { is_dropped = true } in
      let first = changed h f p in
      let q = takes.given_up wakes c f first in
      ended_all f (takes.left_by wakes c end (task f q)) (Some by) q its
      (same_all p q (given first first.is_static ∙ changed_calm c h f p) all)
    where
      given : (p : Plain T (SoloWaker X)) (b : Bool)
          → (if b then p else becomes wakes loud f (abstract.release (task f p)) p).inside ≡ p.inside
      given p true = refl
      given p false = becomes_calm c f (abstract.release (task f p)) p

  pending_all : (e : abstract.PendingEnd) (f : ℕ) (by : Taker (SoloWaker X)) (p : Plain T (SoloWaker X)) → PolledBy Is by → All p
      → All (calls.pending_by wakes c e f by p)
  pending_all EndDrops f by p its all = (its, all)
  pending_all EndForgets f by p its all =
      let new = record (task f p) { phase = abstract.Phase.Finished; closed = true } in
      (its, same_all p (put f new p) (put_inside f new p) all)
  pending_all EndQueues f by p its all =
      let q = becomes wakes loud f (abstract.end_pending (task f p)).task p in
      next_all by q its (same_all p q (becomes_calm c f (abstract.end_pending (task f p)).task p) all)
  pending_all EndRests f by p its all =
      let q = becomes wakes loud f (abstract.end_pending (task f p)).task p in
      next_all by q its (same_all p q (becomes_calm c f (abstract.end_pending (task f p)).task p) all)

  close_all : (fs all : List ℕ) (p : Plain T (SoloWaker X)) → All p → All (calls.close wakes c fs all p)
  close_all [] all p has =
      let q = each all (calls.freed wakes c) p in
      let due = filter (is_common Urgent) q.due ++ filter (is_common PlainMark) q.due in
      same_all p (calls.close wakes c [] all p)
      (each_calm c (λ (d : Due). calls.closed wakes c d.future) (λ d. closed d.future) due (record q { due = [] })
      ∙ each_calm c (calls.freed wakes c) (freed_calm c) all p) has
    where
      closed : (f : ℕ) (p : Plain T (SoloWaker X)) → (calls.closed wakes c f p).inside ≡ p.inside
      closed f p =
          let left = abstract.drop_runnable (task f p) in
          calls_calm c left.called (put f left.task p) ∙ put_inside f left.task p
  close_all (f ∷ fs) all p has =
      let h : Future T (SoloWaker X) → Future T (SoloWaker X) = λ future. record future { is_dropped = true } in
      (tt, same_all p (changed h f p) (changed_calm c h f p) has)

  -- the innermost code ends
  pends_all : (code : Code T (SoloWaker X)) (q : Plain T (SoloWaker X)) → PolledIn {T = T} Is code → All q → All
      (calls.pends wakes c code q)
  pends_all (Poll f by) q its all = pending_all (abstract.pending_end (task f q)) f by q its all
  pends_all (PollOwn r w) q its all = take_all (Run r w) q its all
  pends_all (Drop f end by) q its all = all
  pends_all (Lose awaiter by) q its all = all
  pends_all (DropOwn r answer) q its all = all
  pends_all (Close fs ns) q its all = all

  gives_all : (v : T) (code : Code T (SoloWaker X)) (q : Plain T (SoloWaker X)) → PolledIn {T = T} Is code → All q
      → All (calls.gives wakes c v code q)
  gives_all v (Poll f by) q its all = (its, all)
  gives_all v (PollOwn r w) q its all = (tt, all)
  gives_all v (Drop f end by) q its all = all
  gives_all v (Lose awaiter by) q its all = all
  gives_all v (DropOwn r answer) q its all = all
  gives_all v (Close fs ns) q its all = all

  ends_all : (code : Code T (SoloWaker X)) (q : Plain T (SoloWaker X)) → PolledIn {T = T} Is code → All q → All (calls.ends wakes c code q)
  ends_all (Drop f end by) q its all = dropped_all f end by q its all
  ends_all (Lose awaiter by) q its all = lost_all awaiter by q its all
  ends_all (DropOwn r answer) q its all = same_all q (calls.gone wakes c r q) (gone_calm c r q) all
  ends_all (Close fs ns) q its all = close_all fs ns q all
  ends_all (Poll f by) q its all = all
  ends_all (PollOwn r w) q its all = all

  innermost_all : (end : Code T (SoloWaker X) → Plain T (SoloWaker X) → Plain T (SoloWaker X))
      → ((code : Code T (SoloWaker X)) (q : Plain T (SoloWaker X)) → PolledIn {T = T} Is code → All q → All (end code q))
      → (p : Plain T (SoloWaker X)) → All p → All (calls.innermost wakes c p.inside end p)
  innermost_all end each p = by p.inside refl
    where
      by : (inside : List (Code T (SoloWaker X))) → p.inside ≡ inside → All p → All (calls.innermost wakes c inside end p)
      by [] is all = all
      by (code ∷ rest) is all =
          let both = subst (λ cs. EachPolledBy {T = T} Is cs) is all in each code (record p { inside = rest }) both.0 both.1

  detach_all : (f : ℕ) (p : Plain T (SoloWaker X)) → All p → All (calls.detach wakes c f p)
  detach_all f p all =
      let left = abstract.detach (task f p) in
      let q = becomes wakes loud f left.task p in
      ended_all f (record left { task = task f q }) None q tt (same_all p q (becomes_calm c f left.task p) all)

  -- the waker by which a call polls a run, if it does
  abbrev pub PollsBy : Call T (SoloWaker X) → Type 0
  PollsBy (Call.PollRun r w) = Is w
  PollsBy call = Unit {0}

  over_all : (r : ℕ) (a b p : Plain T (SoloWaker X)) → All a → All b
      → All (if or (slice_get p.runs r) (λ run. run.is_over) true then a else b)
  over_all r a b p one two = by (or (slice_get p.runs r) (λ run. run.is_over) true)
    where
      by : (o : Bool) → All (if o then a else b)
      by true = one
      by false = two

  pub call_all : (call : Call T (SoloWaker X)) (p : Plain T (SoloWaker X)) → PollsBy call → All p → All (calls.does wakes c call p)
  call_all (Call.Spawn mark) p its all = same_all p (calls.does wakes c (Call.Spawn mark) p) (spawn_calm c mark p) all
  call_all Call.TryTick p its all = take_all Try p tt all
  call_all Call.IsEmpty p its all = all
  call_all (Call.Wake f) p its all =
      same_all p (calls.does wakes c (Call.Wake f) p) (becomes_calm c f (abstract.wake (task f p)) p) all
  call_all (Call.Use f) p its all =
      same_all p (calls.does wakes c (Call.Use f) p) (becomes_calm c f (abstract.release (abstract.wake (task f p))) p) all
  call_all (Call.Copy f) p its all =
      same_all p (calls.does wakes c (Call.Copy f) p)
      (granted_calm c (λ p. answers Made (put f (abstract.copy (task f p)) p)) (λ p. put_inside f (abstract.copy (task f p)) p) p
      (calls.is_granted c.refusal)) all
  call_all (Call.Release f) p its all =
      same_all p (calls.does wakes c (Call.Release f) p) (becomes_calm c f (abstract.release (task f p)) p) all
  call_all (Call.PollHandle f w) p its all =
      same_all p (calls.does wakes c (Call.PollHandle f w) p) (handle_calm c f w (abstract.polled (task f p)) p) all
  call_all (Call.Cancel f) p its all = same_all p (calls.does wakes c (Call.Cancel f) p) (cancel_calm c f p) all
  call_all (Call.Detach f) p its all = detach_all f p all
  call_all (Call.DropHandle f) p its all =
      detach_all f (calls.cancel wakes c f p) (same_all p (calls.cancel wakes c f p) (cancel_calm c f p) all)
  call_all Call.NewTick p its all =
      same_all p (calls.does wakes c Call.NewTick p) (granted_calm c (answers Made) (λ p. refl) p (calls.is_granted c.refusal)) all
  call_all (Call.PollTick t w) p its all = take_all (Tick t w) p tt all
  call_all (Call.DropTick t) p its all = same_all p (calls.does wakes c (Call.DropTick t) p) (leaves_calm c (ATick t) p) all
  call_all Call.NewRun p its all =
      same_all p (calls.does wakes c Call.NewRun p)
      (granted_calm c (λ p. answers Made (record p { runs = p.runs ++ record { taken = 0; is_over = false } ∷ [] })) (λ p. refl) p
      (calls.is_granted c.refusal)) all
  call_all (Call.PollRun r w) p its all = over_all r (answers Finished p) (enters (PollOwn r w) p) p all (its, all)
  call_all (Call.DropRun r) p its all = over_all r (answers Done p) (enters (DropOwn r Done) p) p all (tt, all)
  call_all Call.Leak p its all =
      same_all p (calls.does wakes c Call.Leak p)
      (each_calm c (calls.freed wakes c) (freed_calm c) (calls.living_from 0 p.futures) (record p { is_static = true })) all
  call_all Call.DropExecutor p its all = close_all (calls.living_from 0 p.futures) (calls.living_from 0 p.futures) p all
  call_all Call.Pends p its all = innermost_all (calls.pends wakes c) pends_all p all
  call_all (Call.EndsWith v) p its all = innermost_all (calls.gives wakes c v) (gives_all v) p all
  call_all Call.Ends p its all = innermost_all (calls.ends wakes c) ends_all p all

module _ {A : Type 0} (Is So : A → Type 0) (more : (w : A) → Is w → So w) where
  more_by : (by : Taker A) → PolledBy Is by → PolledBy So by
  more_by Try its = tt
  more_by (Tick t w) its = tt
  more_by (Run r w) its = more w its

  more_if : (by : Option (Taker A)) → PolledIf Is by → PolledIf So by
  more_if None its = tt
  more_if (Some by) its = more_by by its

module _ {T A : Type 0} (Is So : A → Type 0) (more : (w : A) → Is w → So w) where
  more_in : (code : Code T A) → PolledIn {T = T} Is code → PolledIn {T = T} So code
  more_in (Poll f by) its = more_by Is So more by its
  more_in (Drop f end by) its = more_by Is So more by its
  more_in (Lose awaiter by) its = more_if Is So more by its
  more_in (PollOwn r w) its = more w its
  more_in (DropOwn r answer) its = tt
  more_in (Close fs ns) its = tt

  -- what each such waker is, each is where that says more
  pub more_all : (codes : List (Code T A)) → EachPolledBy {T = T} Is codes → EachPolledBy {T = T} So codes
  more_all [] all = tt
  more_all (code ∷ codes) all = (more_in code all.0, more_all codes all.1)
