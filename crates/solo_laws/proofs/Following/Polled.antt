-- Which runs users' codes are in: no call but the poll and the drop of a run has one more in its poll or its drop.
use Rattle.std.proofs.Common.{◌≡◌, ℕ, ◌+◌, ◌==◌, nat_lt, not, subst, if◌then◌else◌, Bool, true, false, List, [], ◌∷◌, ◌++◌}
use Rattle.std.proofs.Common.{find, filter, Option, Some, None, slice_get, refl, sym, ap, ◌∙◌}
use Rattle.executor_parts.specs.declared.mark.Mark.TheVariants.{Plain as PlainMark, Urgent}
use Rattle.task_moves.specs.AbstractTask as abstract
use Rattle.task_moves.specs.AbstractTask.{AbstractTask, Left}
use Rattle.task_moves.specs.AbstractTask.PendingEnd.{Drops as EndDrops, Queues as EndQueues, Forgets as EndForgets, Rests as EndRests}
use Rattle.solo.specs.declared.names.SoloWaker.{SoloWaker}
use Rattle.plain_scheduler.specs.State.{Answer, ARun, ATick, Choice, Close, Closed, Code, Done, Drop, DropOwn, Due, End}
use Rattle.plain_scheduler.specs.State.{Finished}
use Rattle.plain_scheduler.specs.State.{Future, Lose, Loses, Made, Plain, Poll, PollOwn, Polls}
use Rattle.plain_scheduler.specs.State.{Run, Taker, Tick, Try}
use Rattle.plain_scheduler.specs.Lists.{each, on, or, without}
use Rattle.plain_scheduler.specs.Moves.{answers, becomes, called, changed, chosen, enters}
use Rattle.plain_scheduler.specs.Moves.{is_common, let_go, looks, put, see, task, tell, up}
use Rattle.plain_scheduler.specs.Takes as takes
use Rattle.plain_scheduler.specs.Calls as calls
use Rattle.plain_scheduler.specs.Calls.{Call}
use Rattle.solo_laws.specs.Busy.{busy_in, polled_in, run_if, run_in, run_of, runs_in}
use Rattle.solo_laws.specs.Road.{apart, is_in, wakes}
use Rattle.solo_laws.proofs.Following.Due.{and_true, both_true, later, not_false}
use Rattle.solo_laws.proofs.Following.CodesKept.{becomes_calm, calls_calm, cancel_calm, changed_calm, each_calm, freed_calm}
use Rattle.solo_laws.proofs.Following.CodesKept.{gives_way_calm, gone_calm, granted_calm, handle_calm, kept_calm, leaves_calm}
use Rattle.solo_laws.proofs.Following.CodesKept.{lets_go_calm, nothing_calm, robbed_calm, runs_calm, spawn_calm, tell_calm, up_calm}
use Rattle.solo_laws.proofs.Following.Using.{put_inside}

module _ {A : Type 0} (P : List ℕ → Type 0) (less : (r : ℕ) (ns : List ℕ) → P (r ∷ ns) → P ns) where
  in_more : (by : Taker A) (ns : List ℕ) → P (run_of by ++ ns) → P ns
  in_more Try ns is = is
  in_more (Tick t w) ns is = is
  in_more (Run k w) ns is = less k ns is

  if_more : (by : Option (Taker A)) (ns : List ℕ) → P (run_if by ++ ns) → P ns
  if_more None ns is = is
  if_more (Some by) ns is = in_more by ns is

module _ {T X : Type 0} where
  -- polls and drops of runs
  abbrev pub enters_run : Call T (SoloWaker X) → Bool
  enters_run (Call.PollRun r w) = true
  enters_run (Call.DropRun r) = true
  enters_run _ = false

module _ {T X : Type 0} (c : Choice) where
  abbrev loud : Plain T (SoloWaker X) → Plain T (SoloWaker X)
  loud p = tell wakes c p

  -- what holds of the runs that users' codes are in, and of fewer of them
  module _ (P : List ℕ → Type 0) (gone : ℕ → List ℕ) (less : (r : ℕ) (ns : List ℕ) → P (r ∷ ns) → P ns)
      (less_gone : (r : ℕ) (ns : List ℕ) → P (gone r ++ ns) → P ns) (to_gone : (r : ℕ) (ns : List ℕ) → P (r ∷ ns) → P (gone r ++ ns)) where
    abbrev codes : List (Code T (SoloWaker X)) → List ℕ
    codes cs = runs_in gone cs

    abbrev InCode : List ℕ → Plain T (SoloWaker X) → Plain T (SoloWaker X) → Type 0
    InCode runs p q = P (runs ++ codes p.inside) → P (codes q.inside)

    -- the code of its taker begins
    run_codes : (f : ℕ) (by : Taker (SoloWaker X)) (p : Plain T (SoloWaker X))
        → codes (takes.run wakes c f by p).inside ≡ run_of by ++ codes p.inside
    run_codes f by p = by_closed (task f p).closed
      where
        by_closed : (b : Bool)
            → codes (if b
            then takes.dropping wakes c f Closed by p
            else enters (Poll f by) (see (Polls f) (put f (abstract.begin_run (task f p)) p))).inside ≡ run_of by ++ codes p.inside
        by_closed true = refl
        by_closed false = ap (λ cs. run_of by ++ codes cs) (put_inside f (abstract.begin_run (task f p)) p)

    takes_codes : (by : Taker (SoloWaker X)) (d : Due) (p : Plain T (SoloWaker X))
        → codes (takes.takes wakes c by d p).inside ≡ run_of by ++ codes p.inside
    takes_codes Try d p = run_codes d.future Try (loud p) ∙ ap (λ cs. codes cs) (tell_calm c p)
    takes_codes (Tick t w) d p =
        let q = up wakes c (ATick t) p in
        run_codes d.future (Tick t w) (loud q) ∙ ap (λ cs. codes cs) (tell_calm c q ∙ up_calm c (ATick t) p)
    takes_codes (Run r w) d p =
        let a = takes.robbed wakes c r d.keeper p in
        let b = up wakes c (ARun r) a in
        let e = takes.kept wakes c r (loud b) in
        run_codes d.future (Run r w) (takes.counted wakes c r e)
        ∙ ap (λ cs. r ∷ codes cs)
        (runs_calm c (λ run. record run { taken = run.taken + 1 }) r e
        ∙ (kept_calm c r (loud b) ∙ (tell_calm c b ∙ (up_calm c (ARun r) a ∙ robbed_calm c r d.keeper p))))

    abbrev Within : Option (Taker (SoloWaker X)) → Plain T (SoloWaker X) → Plain T (SoloWaker X) → Type 0
    Within by p q = InCode (run_if by) p q

    -- the same, seen from others with the same codes
    calm_within : (by : Option (Taker (SoloWaker X))) (p q : Plain T (SoloWaker X)) → q.inside ≡ p.inside → Within by p q
    calm_within by p q is has = subst (λ cs. P (codes cs)) (sym is) (if_more P less by (codes p.inside) has)

    before_within : (by : Option (Taker (SoloWaker X))) (p q z : Plain T (SoloWaker X)) → q.inside ≡ p.inside → Within by q z
        → Within by p z
    before_within by p q z is goes has = goes (subst (λ cs. P (run_if by ++ codes cs)) (sym is) has)

    take_within : (by : Taker (SoloWaker X)) (p : Plain T (SoloWaker X)) → Within (Some by) p (takes.take wakes c by p)
    take_within by p = by_found (find test p.due)
      where
        test : Due → Bool
        test = chosen (looks c by) p.due

        left : Plain T (SoloWaker X)
        left = record p { due = without test p.due }

        by_found : (o : Option Due) → Within (Some by) p (or o (λ d. takes.takes wakes c by d left) (takes.nothing wakes c by p))
        by_found None = calm_within (Some by) p (takes.nothing wakes c by p) (nothing_calm c by p)
        by_found (Some d) = λ has. subst P (sym (takes_codes by d left)) has

    next_within : (by : Taker (SoloWaker X)) (p : Plain T (SoloWaker X)) → Within (Some by) p (takes.next wakes c by p)
    next_within Try p = λ has. has
    next_within (Tick t w) p = λ has. has
    next_within (Run k w) p = by (nat_lt (or (slice_get p.runs k) (λ run. run.taken) 0) 200)
      where
        by : (b : Bool)
            → Within (Some (Run k w)) p (if b then takes.take wakes c (Run k w) p else takes.gives_way wakes c k w p)
        by true = take_within (Run k w) p
        by false = calm_within (Some (Run k w)) p (takes.gives_way wakes c k w p) (gives_way_calm c k w p)

    lost_within : (awaiter : Option (SoloWaker X)) (by : Option (Taker (SoloWaker X))) (p : Plain T (SoloWaker X))
        → Within by p (takes.lost wakes c awaiter by p)
    lost_within awaiter None p = calm_within None p (takes.lost wakes c awaiter None p) (calls_calm c awaiter p)
    lost_within awaiter (Some by) p =
        let q = on awaiter (called wakes loud) p in
        before_within (Some by) p q (takes.next wakes c by q) (calls_calm c awaiter p) (next_within by q)

    out_within : (left : Left T (SoloWaker X)) (by : Option (Taker (SoloWaker X))) (p : Plain T (SoloWaker X))
        → Within by p (takes.out wakes c left by p)
    out_within left by p = by_output left.dropped
      where
        q : Plain T (SoloWaker X)
        q = on left.let_go (let_go wakes loud) p

        by_output : (o : Option T)
            → Within by p (or o (λ v. enters (Lose left.called by) (see (Loses v) p)) (takes.lost wakes c left.called by q))
        by_output (Some v) = λ has. has
        by_output None =
            before_within by p q (takes.lost wakes c left.called by q) (lets_go_calm c left.let_go p) (lost_within left.called by q)

    ended_within : (f : ℕ) (left : Left T (SoloWaker X)) (by : Option (Taker (SoloWaker X))) (p : Plain T (SoloWaker X))
        → Within by p (takes.ended wakes c f left by p)
    ended_within f left by p =
        let q = put f left.task p in
        before_within by p q (takes.out wakes c left by q) (put_inside f left.task p) (out_within left by q)

    dropped_within : (f : ℕ) (end : End T) (by : Taker (SoloWaker X)) (p : Plain T (SoloWaker X))
        → Within (Some by) p (takes.dropped wakes c f end by p)
    dropped_within f end by p =
        let h : Future T (SoloWaker X) → Future T (SoloWaker X) = λ future. record future { is_dropped = true } in
        let first = changed h f p in
        let q = takes.given_up wakes c f first in
        let left = takes.left_by wakes c end (task f q) in
        before_within (Some by) p q (takes.ended wakes c f left (Some by) q) (given first first.is_static ∙ changed_calm c h f p)
        (ended_within f left (Some by) q)
      where
        given : (p : Plain T (SoloWaker X)) (b : Bool)
            → (if b then p else becomes wakes loud f (abstract.release (task f p)) p).inside ≡ p.inside
        given p true = refl
        given p false = becomes_calm c f (abstract.release (task f p)) p

    pending_within : (e : abstract.PendingEnd) (f : ℕ) (by : Taker (SoloWaker X)) (p : Plain T (SoloWaker X))
        → Within (Some by) p (calls.pending_by wakes c e f by p)
    pending_within EndDrops f by p = λ has. has
    pending_within EndForgets f by p = λ has.
        subst (λ cs. P (run_of by ++ codes cs))
        (sym (put_inside f (record (task f p) { phase = abstract.Phase.Finished; closed = true }) p)) has
    pending_within EndQueues f by p =
        let q = becomes wakes loud f (abstract.end_pending (task f p)).task p in
        before_within (Some by) p q (takes.next wakes c by q) (becomes_calm c f (abstract.end_pending (task f p)).task p) (next_within by q)
    pending_within EndRests f by p =
        let q = becomes wakes loud f (abstract.end_pending (task f p)).task p in
        before_within (Some by) p q (takes.next wakes c by q) (becomes_calm c f (abstract.end_pending (task f p)).task p) (next_within by q)

    close_codes : (fs all : List ℕ) (p : Plain T (SoloWaker X)) → codes (calls.close wakes c fs all p).inside ≡ codes p.inside
    close_codes [] all p =
        let q = each all (calls.freed wakes c) p in
        let due = filter (is_common Urgent) q.due ++ filter (is_common PlainMark) q.due in
        ap (λ cs. codes cs)
        (each_calm c (λ (d : Due). calls.closed wakes c d.future) (λ d. closed d.future) due (record q { due = [] })
        ∙ each_calm c (calls.freed wakes c) (freed_calm c) all p)
      where
        closed : (f : ℕ) (p : Plain T (SoloWaker X)) → (calls.closed wakes c f p).inside ≡ p.inside
        closed f p =
            let left = abstract.drop_runnable (task f p) in
            calls_calm c left.called (put f left.task p) ∙ put_inside f left.task p
    close_codes (f ∷ fs) all p = ap (λ cs. codes cs) (changed_calm c (λ future. record future { is_dropped = true }) f p)

    -- the innermost code ends
    pends_codes : (code : Code T (SoloWaker X)) (q : Plain T (SoloWaker X)) → InCode (run_in gone code) q (calls.pends wakes c code q)
    pends_codes (Poll f by) q = pending_within (abstract.pending_end (task f q)) f by q
    pends_codes (PollOwn k w) q = take_within (Run k w) q
    pends_codes (Drop f end by) q = λ has. in_more P less by (codes q.inside) has
    pends_codes (Lose awaiter by) q = λ has. if_more P less by (codes q.inside) has
    pends_codes (DropOwn k answer) q = λ has. less_gone k (codes q.inside) has
    pends_codes (Close fs all) q = λ has. has

    gives_codes : (v : T) (code : Code T (SoloWaker X)) (q : Plain T (SoloWaker X))
        → InCode (run_in gone code) q (calls.gives wakes c v code q)
    gives_codes v (Poll f by) q = λ has. has
    gives_codes v (PollOwn k w) q = λ has. to_gone k (codes q.inside) has
    gives_codes v (Drop f end by) q = λ has. in_more P less by (codes q.inside) has
    gives_codes v (Lose awaiter by) q = λ has. if_more P less by (codes q.inside) has
    gives_codes v (DropOwn k answer) q = λ has. less_gone k (codes q.inside) has
    gives_codes v (Close fs all) q = λ has. has

    ends_codes : (code : Code T (SoloWaker X)) (q : Plain T (SoloWaker X)) → InCode (run_in gone code) q (calls.ends wakes c code q)
    ends_codes (Drop f end by) q = dropped_within f end by q
    ends_codes (Lose awaiter by) q = lost_within awaiter by q
    ends_codes (DropOwn k answer) q = λ has. subst (λ cs. P (codes cs)) (sym (gone_calm c k q)) (less_gone k (codes q.inside) has)
    ends_codes (Close fs all) q = λ has. subst P (sym (close_codes fs all q)) has
    ends_codes (Poll f by) q = λ has. in_more P less by (codes q.inside) has
    ends_codes (PollOwn k w) q = λ has. less k (codes q.inside) has

    abbrev Keeps : Plain T (SoloWaker X) → Plain T (SoloWaker X) → Type 0
    Keeps p q = P (codes p.inside) → P (codes q.inside)

    calm_keeps : (p q : Plain T (SoloWaker X)) → q.inside ≡ p.inside → Keeps p q
    calm_keeps p q is has = subst (λ cs. P (codes cs)) (sym is) has

    innermost_keeps : (end : Code T (SoloWaker X) → Plain T (SoloWaker X) → Plain T (SoloWaker X))
        → ((code : Code T (SoloWaker X)) (q : Plain T (SoloWaker X)) → InCode (run_in gone code) q (end code q))
        → (p : Plain T (SoloWaker X)) → Keeps p (calls.innermost wakes c p.inside end p)
    innermost_keeps end each p = by p.inside refl
      where
        by : (inside : List (Code T (SoloWaker X))) → p.inside ≡ inside → Keeps p (calls.innermost wakes c inside end p)
        by [] is = λ has. has
        by (code ∷ rest) is = λ has. each code (record p { inside = rest }) (subst (λ cs. P (codes cs)) is has)

    detach_keeps : (f : ℕ) (p : Plain T (SoloWaker X)) → Keeps p (calls.detach wakes c f p)
    detach_keeps f p =
        let left = abstract.detach (task f p) in
        let q = becomes wakes loud f left.task p in
        before_within None p q (calls.detach wakes c f p) (becomes_calm c f left.task p)
        (ended_within f (record left { task = task f q }) None q)

    -- of all calls but two
    pub call_keeps : (call : Call T (SoloWaker X)) → enters_run call ≡ false → (p : Plain T (SoloWaker X))
        → Keeps p (calls.does wakes c call p)
    call_keeps (Call.Spawn mark) is p = calm_keeps p (calls.does wakes c (Call.Spawn mark) p) (spawn_calm c mark p)
    call_keeps Call.TryTick is p = take_within Try p
    call_keeps Call.IsEmpty is p = λ has. has
    call_keeps (Call.Wake f) is p =
        calm_keeps p (calls.does wakes c (Call.Wake f) p) (becomes_calm c f (abstract.wake (task f p)) p)
    call_keeps (Call.Use f) is p =
        calm_keeps p (calls.does wakes c (Call.Use f) p) (becomes_calm c f (abstract.release (abstract.wake (task f p))) p)
    call_keeps (Call.Copy f) is p =
        calm_keeps p (calls.does wakes c (Call.Copy f) p)
        (granted_calm c (λ p. answers Made (put f (abstract.copy (task f p)) p)) (λ p. put_inside f (abstract.copy (task f p)) p) p
        (calls.is_granted c.refusal))
    call_keeps (Call.Release f) is p =
        calm_keeps p (calls.does wakes c (Call.Release f) p) (becomes_calm c f (abstract.release (task f p)) p)
    call_keeps (Call.PollHandle f w) is p =
        calm_keeps p (calls.does wakes c (Call.PollHandle f w) p) (handle_calm c f w (abstract.polled (task f p)) p)
    call_keeps (Call.Cancel f) is p = calm_keeps p (calls.does wakes c (Call.Cancel f) p) (cancel_calm c f p)
    call_keeps (Call.Detach f) is p = detach_keeps f p
    call_keeps (Call.DropHandle f) is p =
        before_within None p (calls.cancel wakes c f p) (calls.does wakes c (Call.DropHandle f) p) (cancel_calm c f p)
        (detach_keeps f (calls.cancel wakes c f p))
    call_keeps Call.NewTick is p =
        calm_keeps p (calls.does wakes c Call.NewTick p) (granted_calm c (answers Made) (λ p. refl) p (calls.is_granted c.refusal))
    call_keeps (Call.PollTick t w) is p = take_within (Tick t w) p
    call_keeps (Call.DropTick t) is p = calm_keeps p (calls.does wakes c (Call.DropTick t) p) (leaves_calm c (ATick t) p)
    call_keeps Call.NewRun is p =
        calm_keeps p (calls.does wakes c Call.NewRun p)
        (granted_calm c (λ p. answers Made (record p { runs = p.runs ++ record { taken = 0; is_over = false } ∷ [] })) (λ p. refl) p
        (calls.is_granted c.refusal))
    call_keeps (Call.PollRun r w) is p = absurd cc
    call_keeps (Call.DropRun r) is p = absurd cc
    call_keeps Call.Leak is p =
        calm_keeps p (calls.does wakes c Call.Leak p)
        (each_calm c (calls.freed wakes c) (freed_calm c) (calls.living_from 0 p.futures) (record p { is_static = true }))
    call_keeps Call.DropExecutor is p =
        λ has. subst P (sym (close_codes (calls.living_from 0 p.futures) (calls.living_from 0 p.futures) p)) has
    call_keeps Call.Pends is p = innermost_keeps (calls.pends wakes c) pends_codes p
    call_keeps (Call.EndsWith v) is p = innermost_keeps (calls.gives wakes c v) (gives_codes v) p
    call_keeps Call.Ends is p = innermost_keeps (calls.ends wakes c) ends_codes p

    -- and of these: of one run more
    pub poll_keeps : (r : ℕ) (w : SoloWaker X) (p : Plain T (SoloWaker X)) → P (r ∷ codes p.inside)
        → P (codes (calls.does wakes c (Call.PollRun r w) p).inside)
    poll_keeps r w p = by (or (slice_get p.runs r) (λ run. run.is_over) true)
      where
        by : (b : Bool) → P (r ∷ codes p.inside) → P (codes (if b then answers Finished p else enters (PollOwn r w) p).inside)
        by true has = less r (codes p.inside) has
        by false has = has

    pub drop_keeps : (r : ℕ) (p : Plain T (SoloWaker X)) → P (gone r ++ codes p.inside)
        → P (codes (calls.does wakes c (Call.DropRun r) p).inside)
    drop_keeps r p = by (or (slice_get p.runs r) (λ run. run.is_over) true)
      where
        by : (b : Bool) → P (gone r ++ codes p.inside) → P (codes (if b then answers Done p else enters (DropOwn r Done) p).inside)
        by true has = less_gone r (codes p.inside) has
        by false has = has

-- all are among these
module _ (among : ℕ → Bool) where
  abbrev Among : List ℕ → Type 0
  Among ns = (k : ℕ) → is_in k ns ≡ true → among k ≡ true

  fewer : (r : ℕ) (ns : List ℕ) → Among (r ∷ ns) → Among ns
  fewer r ns all k has = all k (later (k == r) (is_in k ns) has)

-- each once
abbrev pub Apart : List ℕ → Type 0
Apart ns = apart ns ≡ true

fewer_apart : (r : ℕ) (ns : List ℕ) → Apart (r ∷ ns) → Apart ns
fewer_apart r ns is = (both_true (not (is_in r ns)) (apart ns) is).1

more_apart : (r : ℕ) (ns : List ℕ) → is_in r ns ≡ false → Apart ns → Apart (r ∷ ns)
more_apart r ns none is = and_true (not (is_in r ns)) (apart ns) (not_false (is_in r ns) none) is

module _ {T X : Type 0} where
  -- whose poll users' codes are in
  abbrev pub polled : Plain T (SoloWaker X) → ℕ → Bool
  polled p r = is_in r (polled_in p.inside)

  -- or whose drop
  abbrev pub busy : Plain T (SoloWaker X) → ℕ → Bool
  busy p r = is_in r (busy_in p.inside)

  module _ (c : Choice) (among : ℕ → Bool) where
    pub call_polled : (call : Call T (SoloWaker X)) → enters_run call ≡ false → (p : Plain T (SoloWaker X))
        → Among among (polled_in p.inside) → Among among (polled_in (calls.does wakes c call p).inside)
    call_polled call is p = call_keeps c (Among among) (λ r. []) (fewer among) (λ r ns has. has) (fewer among) call is p

    pub call_busy : (call : Call T (SoloWaker X)) → enters_run call ≡ false → (p : Plain T (SoloWaker X)) → Among among (busy_in p.inside)
        → Among among (busy_in (calls.does wakes c call p).inside)
    call_busy call is p = call_keeps c (Among among) (λ r. r ∷ []) (fewer among) (fewer among) (λ r ns has. has) call is p

    pub poll_polled : (r : ℕ) (w : SoloWaker X) (p : Plain T (SoloWaker X)) → Among among (r ∷ polled_in p.inside)
        → Among among (polled_in (calls.does wakes c (Call.PollRun r w) p).inside)
    poll_polled r w p = poll_keeps c (Among among) (λ r. []) (fewer among) (λ r ns has. has) (fewer among) r w p

    pub poll_busy : (r : ℕ) (w : SoloWaker X) (p : Plain T (SoloWaker X)) → Among among (r ∷ busy_in p.inside)
        → Among among (busy_in (calls.does wakes c (Call.PollRun r w) p).inside)
    poll_busy r w p = poll_keeps c (Among among) (λ r. r ∷ []) (fewer among) (fewer among) (λ r ns has. has) r w p

    pub drop_polled : (r : ℕ) (p : Plain T (SoloWaker X)) → Among among (polled_in p.inside)
        → Among among (polled_in (calls.does wakes c (Call.DropRun r) p).inside)
    drop_polled r p = drop_keeps c (Among among) (λ r. []) (fewer among) (λ r ns has. has) (fewer among) r p

    pub drop_busy : (r : ℕ) (p : Plain T (SoloWaker X)) → Among among (r ∷ busy_in p.inside)
        → Among among (busy_in (calls.does wakes c (Call.DropRun r) p).inside)
    drop_busy r p = drop_keeps c (Among among) (λ r. r ∷ []) (fewer among) (fewer among) (λ r ns has. has) r p

  module _ (c : Choice) where
    pub call_apart : (call : Call T (SoloWaker X)) → enters_run call ≡ false → (p : Plain T (SoloWaker X)) → Apart (busy_in p.inside)
        → Apart (busy_in (calls.does wakes c call p).inside)
    call_apart call is p = call_keeps c Apart (λ r. r ∷ []) fewer_apart fewer_apart (λ r ns has. has) call is p

    pub poll_apart : (r : ℕ) (w : SoloWaker X) (p : Plain T (SoloWaker X)) → busy p r ≡ false → Apart (busy_in p.inside)
        → Apart (busy_in (calls.does wakes c (Call.PollRun r w) p).inside)
    poll_apart r w p free is =
        poll_keeps c Apart (λ r. r ∷ []) fewer_apart fewer_apart (λ r ns has. has) r w p (more_apart r (busy_in p.inside) free is)

    pub drop_apart : (r : ℕ) (p : Plain T (SoloWaker X)) → busy p r ≡ false → Apart (busy_in p.inside)
        → Apart (busy_in (calls.does wakes c (Call.DropRun r) p).inside)
    drop_apart r p free is =
        drop_keeps c Apart (λ r. r ∷ []) fewer_apart fewer_apart (λ r ns has. has) r p (more_apart r (busy_in p.inside) free is)

    -- one that goes is in none
    pub left_inside : (r : ℕ) (answer : Answer T) (rest : List (Code T (SoloWaker X))) (p : Plain T (SoloWaker X))
        → p.inside ≡ DropOwn r answer ∷ rest → (calls.does wakes c Call.Ends p).inside ≡ rest
    left_inside r answer rest p is =
        ap (λ cs. (calls.innermost wakes c cs (calls.ends wakes c) p).inside) is ∙ gone_calm c r (record p { inside = rest })
