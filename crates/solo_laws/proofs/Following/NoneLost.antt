-- No call loses a future: one that isn't dropped is due, or its task waits for a wake, or a user's code has it in hand.
use Rattle.std.proofs.Common.{◌≡◌, ℕ, ◌+◌, ◌==◌, ◌||◌, cond, nat_lt, if◌then◌else◌, Bool, true, false, List, [], ◌∷◌, ◌++◌, length}
use Rattle.std.proofs.Common.{find, map, count_by, Option, Some, None, slice_get, slice_set, refl, sym, ap, ◌∙◌}
use Rattle.executor_parts.specs.declared.mark.Mark.{Mark}
use Rattle.task_moves.specs.AbstractTask as abstract
use Rattle.task_moves.specs.AbstractTask.{AbstractTask, Left, is_idle}
use Rattle.task_moves.specs.AbstractTask.PendingEnd.{Drops as EndDrops, Queues as EndQueues, Forgets as EndForgets, Rests as EndRests}
use Rattle.solo.specs.declared.names.SoloWaker.{SoloWaker}
use Rattle.plain_scheduler.specs.State.{AtOnce, ATick, ARun, Calls, Choice, Closed, Code, Drop, Due, End, Full, Future, Gave, Granted}
use Rattle.plain_scheduler.specs.State.{Later, Lose, Loses, Lying, Made, NoMemory, Plain, Poll, Polls, Refusal, Run, Taker, Tick, Try}
use Rattle.plain_scheduler.specs.State.{Who}
use Rattle.plain_scheduler.specs.Lists.{on, or, repeat, without}
use Rattle.plain_scheduler.specs.Moves.{answers, appended, becomes, called, changed, chosen, copied, given_back, is_kept, let_go, lies}
use Rattle.plain_scheduler.specs.Moves.{looks, no_task, put, release, see, task, tell, up, wake}
use Rattle.plain_scheduler.specs.Moves as moves
use Rattle.plain_scheduler.specs.Takes as takes
use Rattle.plain_scheduler.specs.Calls as calls
use Rattle.solo_laws.specs.NoneLost.{is_in_hand, is_there}
use Rattle.solo_laws.specs.Road.{drops, is_in, lents, stands, wakes}
use Rattle.solo_laws.specs.Tabled.{is_dropped}
use Rattle.solo_laws.proofs.Following.Adding.{get_last}
use Rattle.solo_laws.proofs.Following.Due.{clash, equal}
use Rattle.solo_laws.proofs.Following.Ending.{is_back}
use Rattle.solo_laws.proofs.Following.Frames.{becomes_still, tell_still}
use Rattle.solo_laws.proofs.Following.Kept.{AllKept, Keeps, Kept, becomes_kept, becomes_there, calls_kept, comes_back, copied_kept}
use Rattle.solo_laws.proofs.Following.Kept.{each_kept, first_or, given_back_kept, last_stands, leaves_kept, let_go_kept, lets_go_kept}
use Rattle.solo_laws.proofs.Following.Kept.{marks_kept, more_aside, more_stand, others_so, put_dropped, put_gone, put_kept, repeat_kept}
use Rattle.solo_laws.proofs.Following.Kept.{robbed_kept, runs_kept, second_or, tell_kept, up_kept}
use Rattle.solo_laws.proofs.Following.Lasting.{cancel_lasts, detach_lasts, end_waits, poll_idle, release_lasts, waits_on, wake_lasts}
use Rattle.solo_laws.proofs.Following.Lists.{set_other, set_same}
use Rattle.solo_laws.proofs.Following.Numbers.{turn}
use Rattle.solo_laws.proofs.Following.SameDue.{stays}

module _ {T X : Type 0} (c : Choice) where
  abbrev loud : Plain T (SoloWaker X) → Plain T (SoloWaker X)
  loud p = tell wakes c p

  -- what is in hand
  module _ (f : ℕ) (p : Plain T (SoloWaker X)) where
    here : (b : Bool) → b ≡ true → (ns : List ℕ) → cond b true (is_in f ns) ≡ true
    here b is ns = ap (λ b. cond b true (is_in f ns)) is

    first_in : (ns : List ℕ) → is_in f (f ∷ ns) ≡ true
    first_in ns = here (f == f) (equal f f refl) ns

    in_hand : (inside : List (Code T (SoloWaker X))) (idle due : Bool) → is_in_hand f inside ≡ true
        → (due || (idle || is_in_hand f inside)) ≡ true
    in_hand inside idle due is = second_or due (idle || is_in_hand f inside) (second_or idle (is_in_hand f inside) is)

    lent_first : (inside : List (Code T (SoloWaker X))) → (is_in f (f ∷ lents inside) || is_in f (drops inside)) ≡ true
    lent_first inside = first_or (is_in f (f ∷ lents inside)) (is_in f (drops inside)) (first_in (lents inside))

    drop_first : (inside : List (Code T (SoloWaker X))) → (is_in f (lents inside) || is_in f (f ∷ drops inside)) ≡ true
    drop_first inside = second_or (is_in f (lents inside)) (is_in f (f ∷ drops inside)) (first_in (drops inside))

  -- one more of these codes is in progress, which have others in hand
  others_lent : (f g : ℕ) (p : Plain T (SoloWaker X)) → (f == g) ≡ false → is_there g p ≡ true
      → (stands g p.due || (is_idle (task g p).phase || (is_in g (f ∷ lents p.inside) || is_in g (drops p.inside)))) ≡ true
  others_lent f g p other is =
      ap (λ b. stands g p.due || (is_idle (task g p).phase || (cond b true (is_in g (lents p.inside)) || is_in g (drops p.inside))))
      (turn f g other) ∙ is

  others_dropped : (f g : ℕ) (p : Plain T (SoloWaker X)) → (f == g) ≡ false → is_there g p ≡ true
      → (stands g p.due || (is_idle (task g p).phase || (is_in g (lents p.inside) || is_in g (f ∷ drops p.inside)))) ≡ true
  others_dropped f g p other is =
      ap (λ b. stands g p.due || (is_idle (task g p).phase || (is_in g (lents p.inside) || cond b true (is_in g (drops p.inside)))))
      (turn f g other) ∙ is

  pub dropping_kept : (f : ℕ) (end : End T) (by : Taker (SoloWaker X)) (p : Plain T (SoloWaker X)) (aside : ℕ → Bool)
      → Kept (more_aside f aside) p
      → Kept aside (takes.dropping wakes c f end by p)
  dropping_kept f Closed by p aside has =
      comes_back f aside p (takes.dropping wakes c f Closed by p)
      (λ live. in_hand f p (Drop f Closed by ∷ p.inside) (is_idle (task f p).phase) (stands f p.due) (drop_first f p p.inside))
      (λ g other live. live) (λ g other live is. others_dropped f g p other is) has
  dropping_kept f (Gave v) by p aside has =
      comes_back f aside p (takes.dropping wakes c f (Gave v) by p)
      (λ live. in_hand f p (Drop f (Gave v) by ∷ p.inside) (is_idle (task f p).phase) (stands f p.due) (lent_first f p p.inside))
      (λ g other live. live) (λ g other live is. others_lent f g p other is) has

  -- the run of one that was set aside begins
  run_kept : (f : ℕ) (by : Taker (SoloWaker X)) (p : Plain T (SoloWaker X)) (aside : ℕ → Bool) → Kept (more_aside f aside) p
      → Kept aside (takes.run wakes c f by p)
  run_kept f by p aside has = by_closed (task f p).closed
    where
      q : Plain T (SoloWaker X)
      q = put f (abstract.begin_run (task f p)) p

      z : Plain T (SoloWaker X)
      z = record q { events = q.events ++ Polls f ∷ []; inside = Poll f by ∷ q.inside }

      by_closed : (b : Bool) → Kept aside (if b then takes.dropping wakes c f Closed by p else z)
      by_closed true = dropping_kept f Closed by p aside has
      by_closed false =
          comes_back f aside p z
          (λ live. in_hand f q (Poll f by ∷ q.inside) (is_idle (task f q).phase) (stands f q.due) (lent_first f q q.inside))
          (λ g other live. sym (put_dropped c f (abstract.begin_run (task f p)) p g) ∙ live)
          (λ g other live is. others_lent f g q other (others_so c f (abstract.begin_run (task f p)) p g other is)) has

  -- what is found is set aside
  found_aside : (test : Due → Bool) (d : Due) (p : Plain T (SoloWaker X)) → find test p.due ≡ Some d → (aside : ℕ → Bool) → Kept aside p
      → Kept (more_aside d.future aside) (record p { due = without test p.due })
  found_aside test d p is aside has g live = by (d.future == g) refl (aside g) refl
    where
      z : Plain T (SoloWaker X)
      z = record p { due = without test p.due }

      by : (b : Bool) → (d.future == g) ≡ b → (a : Bool) → aside g ≡ a → ((b || a) || is_there g z) ≡ true
      by true one a set = refl
      by false other true set = refl
      by false other false set =
          still (stands g p.due) (stands g z.due) (λ due. stays test g p.due d is (turn d.future g other) due)
          (sym (ap (λ b. b || is_there g p) set) ∙ has g live)
        where
          still : (x y : Bool) → (x ≡ true → y ≡ true) → (x || (is_idle (task g p).phase || is_in_hand g p.inside)) ≡ true
              → (y || (is_idle (task g p).phase || is_in_hand g p.inside)) ≡ true
          still true y goes is = first_or y (is_idle (task g p).phase || is_in_hand g p.inside) (goes refl)
          still false y goes is = second_or y (is_idle (task g p).phase || is_in_hand g p.inside) is

  takes_kept : (by : Taker (SoloWaker X)) (d : Due) (p : Plain T (SoloWaker X)) (aside : ℕ → Bool) → Kept (more_aside d.future aside) p
      → Kept aside (takes.takes wakes c by d p)
  takes_kept Try d p aside has =
      run_kept d.future Try (loud p) aside (tell_kept c p (more_aside d.future aside) has)
  takes_kept (Tick t w) d p aside has =
      let q = up wakes c (ATick t) p in
      let more = more_aside d.future aside in
      run_kept d.future (Tick t w) (loud q) aside (tell_kept c q more (up_kept c (ATick t) p more has))
  takes_kept (Run r w) d p aside has =
      let a = takes.robbed wakes c r d.keeper p in
      let b = up wakes c (ARun r) a in
      let e = takes.kept wakes c r (loud b) in
      let more = more_aside d.future aside in
      run_kept d.future (Run r w) (takes.counted wakes c r e) aside
      (runs_kept (λ run. record run { taken = run.taken + 1 }) r e more
      (marks_kept c r (loud b) more (tell_kept c b more (up_kept c (ARun r) a more (robbed_kept c r d.keeper p more has)))))

  lies_kept : (who : Who) (w : SoloWaker X) → AllKept {T = T} {X = X} (takes.lies_down wakes c who w)
  lies_kept who w p = by (find (lies who) p.lying)
    where
      q : Plain T (SoloWaker X)
      q = copied wakes w p

      lain : Keeps p (takes.lain wakes c who w q)
      lain aside has = copied_kept c w p aside has

      by_waker : (o : Option (SoloWaker X)) → Keeps p (or o (λ old. takes.lain_again wakes c who w old q) (takes.lain wakes c who w q))
      by_waker None = lain
      by_waker (Some old) =
          λ aside has. let_go_kept c loud (tell_kept c) old
          (record q { lying = map (λ l. if lies who l then record l { waker = Some w } else l) q.lying }) aside
          (copied_kept c w p aside has)

      by : (o : Option (Lying (SoloWaker X)))
          → Keeps p (or o (λ l. or l.waker (λ old. takes.lain_again wakes c who w old q) (takes.lain wakes c who w q))
          (takes.lain wakes c who w q))
      by None = lain
      by (Some l) = by_waker l.waker

  rests_kept : (refusal : Refusal) (who : Who) (w : SoloWaker X) → AllKept {T = T} {X = X} (takes.rests wakes c refusal who w)
  rests_kept Granted who w p = lies_kept who w p
  rests_kept AtOnce who w p = λ aside has. has
  rests_kept Later who w p = lies_kept who w p

  nothing_kept : (by : Taker (SoloWaker X)) → AllKept {T = T} {X = X} (takes.nothing wakes c by)
  nothing_kept Try p = λ aside has. has
  nothing_kept (Tick t w) p = rests_kept c.refusal (ATick t) w p
  nothing_kept (Run r w) p = rests_kept c.refusal (ARun r) w p

  pub take_kept : (by : Taker (SoloWaker X)) → AllKept {T = T} {X = X} (takes.take wakes c by)
  take_kept by p = by_found (find test p.due) refl
    where
      test : Due → Bool
      test = chosen (looks c by) p.due

      by_found : (o : Option Due) → find test p.due ≡ o
          → Keeps p (or o (λ d. takes.takes wakes c by d (record p { due = without test p.due })) (takes.nothing wakes c by p))
      by_found None is = nothing_kept by p
      by_found (Some d) is =
          λ aside has. takes_kept by d (record p { due = without test p.due }) aside (found_aside test d p is aside has)

  gives_way_kept : (r : ℕ) (w : SoloWaker X) → AllKept {T = T} {X = X} (takes.gives_way wakes c r w)
  gives_way_kept r w p = by (wakes w)
    where
      q : Plain T (SoloWaker X)
      q = moves.runs (λ run. record run { taken = 0 }) r p

      runs : Keeps p q
      runs = runs_kept (λ run. record run { taken = 0 }) r p

      by : (o : Option ℕ) → Keeps p (or o (λ f. wake wakes loud f q) (see (Calls w) q))
      by None = runs
      by (Some f) =
          λ aside has. becomes_kept c loud (tell_kept c) f (abstract.wake (task f q)) q (wake_lasts (task f q)) aside (runs aside has)

  pub next_kept : (by : Taker (SoloWaker X)) → AllKept {T = T} {X = X} (takes.next wakes c by)
  next_kept Try p = λ aside has. has
  next_kept (Tick t w) p = λ aside has. has
  next_kept (Run r w) p = by (nat_lt (or (slice_get p.runs r) (λ run. run.taken) 0) 200)
    where
      by : (b : Bool) → Keeps p (if b then takes.take wakes c (Run r w) p else takes.gives_way wakes c r w p)
      by true = take_kept (Run r w) p
      by false = gives_way_kept r w p

  pub lost_kept : (awaiter : Option (SoloWaker X)) (by : Option (Taker (SoloWaker X)))
      → AllKept {T = T} {X = X} (takes.lost wakes c awaiter by)
  lost_kept awaiter None p = calls_kept c loud (tell_kept c) awaiter p
  lost_kept awaiter (Some by) p =
      λ aside has. next_kept by (on awaiter (called wakes loud) p) aside (calls_kept c loud (tell_kept c) awaiter p aside has)

  out_kept : (left : Left T (SoloWaker X)) (by : Option (Taker (SoloWaker X))) → AllKept {T = T} {X = X} (takes.out wakes c left by)
  out_kept left by p = by_output left.dropped
    where
      q : Plain T (SoloWaker X)
      q = on left.let_go (let_go wakes loud) p

      by_output : (o : Option T)
          → Keeps p (or o (λ v. record p { events = p.events ++ Loses v ∷ []; inside = Lose left.called by ∷ p.inside })
          (takes.lost wakes c left.called by q))
      by_output (Some v) = λ aside has. has
      by_output None =
          λ aside has. lost_kept left.called by q aside (lets_go_kept c loud (tell_kept c) left.let_go p aside has)

  -- a future is dropped
  abbrev is_no_more : Future T (SoloWaker X) → Future T (SoloWaker X)
  is_no_more future = record future { is_dropped = true }

  module _ (f : ℕ) (p : Plain T (SoloWaker X)) where
    abbrev dropped : Plain T (SoloWaker X)
    dropped = changed is_no_more f p

    gone : is_dropped f dropped ≡ true
    gone = by (slice_get p.futures f) refl
      where
        by : (o : Option (Future T (SoloWaker X))) → slice_get p.futures f ≡ o
            → is_dropped f (on o (λ x p. record p { futures = slice_set p.futures f (is_no_more x) }) p) ≡ true
        by None is = ap (λ (o : Option (Future T (SoloWaker X))). or o (λ future. future.is_dropped) true) is
        by (Some x) is =
            ap (λ (o : Option (Future T (SoloWaker X))). or o (λ future. future.is_dropped) true)
            (set_same p.futures f (is_no_more x) x is)

    others_live : (g : ℕ) → (f == g) ≡ false → is_dropped g dropped ≡ is_dropped g p
    others_live g other = by (slice_get p.futures f)
      where
        by : (o : Option (Future T (SoloWaker X)))
            → is_dropped g (on o (λ x p. record p { futures = slice_set p.futures f (is_no_more x) }) p) ≡ is_dropped g p
        by None = refl
        by (Some x) =
            ap (λ (o : Option (Future T (SoloWaker X))). or o (λ future. future.is_dropped) true)
            (set_other p.futures f g (is_no_more x) other)

    others_there : (g : ℕ) → (f == g) ≡ false → is_there g p ≡ true → is_there g dropped ≡ true
    others_there g other is = by (slice_get p.futures f)
      where
        by : (o : Option (Future T (SoloWaker X)))
            → is_there g (on o (λ x p. record p { futures = slice_set p.futures f (is_no_more x) }) p) ≡ true
        by None = is
        by (Some x) =
            ap (λ (o : Option (Future T (SoloWaker X))).
            stands g p.due || (is_idle (or o (λ future. future.task) no_task).phase || is_in_hand g p.inside))
            (set_other p.futures f g (is_no_more x) other)
            ∙ is

    dropped_so : (aside : ℕ → Bool) → Kept (more_aside f aside) p → Kept aside dropped
    dropped_so aside has =
        comes_back f aside p dropped (λ live. absurd (clash live gone)) (λ g other live. sym (others_live g other) ∙ live)
        (λ g other live is. others_there g other is) has

  pub drop_kept : (f : ℕ) (end : End T) (by : Taker (SoloWaker X)) (p : Plain T (SoloWaker X)) (aside : ℕ → Bool)
      → Kept (more_aside f aside) p
      → Kept aside (takes.dropped wakes c f end by p)
  drop_kept f end by p aside has =
      let a = dropped f p in
      let q = takes.given_up wakes c f a in
      let left = takes.left_by wakes c end (task f q) in
      let waker = given_up a.is_static in
      out_kept left (Some by) (put f left.task q) aside
      (put_gone c f left.task q (waker.0 f ∙ gone f p) aside (waker.1 aside (dropped_so f p aside has)))
    where
      given_up : (b : Bool) → let a = dropped f p in
          let q = if b then a else release wakes loud f a in
          ((g : ℕ) → is_dropped g q ≡ is_dropped g a) × Keeps a q
      given_up true = (λ g. refl, λ aside has. has)
      given_up false =
          let a = dropped f p in (
            (becomes_still c loud (tell_still c) f (abstract.release (task f a)) a).dropped,
            becomes_kept c loud (tell_kept c) f (abstract.release (task f a)) a (release_lasts (task f a)),
          )

  -- a user's code that has one in hand ends
  module _ (f : ℕ) (p : Plain T (SoloWaker X)) (rest : List (Code T (SoloWaker X))) where
    abbrev out : Plain T (SoloWaker X)
    out = record p { inside = rest }

    left_by : (aside : ℕ → Bool) → ((g : ℕ) → (f == g) ≡ false → is_in_hand g p.inside ≡ is_in_hand g rest) → Kept aside p
        → Kept (more_aside f aside) out
    left_by aside same has g live = by (f == g) refl (aside g) refl
      where
        by : (b : Bool) → (f == g) ≡ b → (a : Bool) → aside g ≡ a → ((b || a) || is_there g out) ≡ true
        by true one a set = refl
        by false other true set = refl
        by false other false set =
            sym (ap (λ b. stands g p.due || (is_idle (task g p).phase || b)) (same g other))
            ∙ (sym (ap (λ b. b || is_there g p) set) ∙ has g live)

    pub poll_left : (by : Taker (SoloWaker X)) → p.inside ≡ Poll f by ∷ rest → (aside : ℕ → Bool) → Kept aside p
        → Kept (more_aside f aside) out
    poll_left by is aside has =
        left_by aside
        (λ g other. ap (is_in_hand g) is
        ∙ ap (λ b. cond b true (is_in g (lents rest)) || is_in g (drops rest)) (turn f g other)) has

    pub given_left : (v : T) (by : Taker (SoloWaker X)) → p.inside ≡ Drop f (Gave v) by ∷ rest → (aside : ℕ → Bool) → Kept aside p
        → Kept (more_aside f aside) out
    given_left v by is aside has =
        left_by aside
        (λ g other. ap (is_in_hand g) is
        ∙ ap (λ b. cond b true (is_in g (lents rest)) || is_in g (drops rest)) (turn f g other)) has

    pub closed_left : (by : Taker (SoloWaker X)) → p.inside ≡ Drop f Closed by ∷ rest → (aside : ℕ → Bool) → Kept aside p
        → Kept (more_aside f aside) out
    closed_left by is aside has =
        left_by aside
        (λ g other. ap (is_in_hand g) is
        ∙ ap (λ b. is_in g (lents rest) || cond b true (is_in g (drops rest))) (turn f g other)) has

  -- one that has none
  pub none_left : (p : Plain T (SoloWaker X)) (code : Code T (SoloWaker X)) (rest : List (Code T (SoloWaker X)))
      → ((g : ℕ) → is_in_hand g (code ∷ rest) ≡ is_in_hand g rest) → p.inside ≡ code ∷ rest → Keeps p (record p { inside = rest })
  none_left p code rest same is aside has g live =
      ap (λ b. aside g || (stands g p.due || (is_idle (task g p).phase || b))) (sym (ap (is_in_hand g) is ∙ same g)) ∙ has g live

  pub pending_kept : (f : ℕ) (by : Taker (SoloWaker X)) (p : Plain T (SoloWaker X)) (aside : ℕ → Bool) → Kept (more_aside f aside) p
      → Kept aside (calls.pending_by wakes c (abstract.pending_end (task f p)) f by p)
  pending_kept f by p aside has = by_end (abstract.pending_end (task f p)) refl
    where
      goes_on : (e : abstract.PendingEnd) → abstract.pending_end (task f p) ≡ e → is_back e ≡ true
          → Kept aside (takes.next wakes c by (becomes wakes loud f (abstract.end_pending (task f p)).task p))
      goes_on e is back =
          next_kept by (becomes wakes loud f (abstract.end_pending (task f p)).task p) aside
          (becomes_there c loud (tell_kept c) f (abstract.end_pending (task f p)).task p
          (ap (λ e. waits_on (task f p) (abstract.end_pending_by e (task f p)).task) is ∙ end_waits e (task f p) back) aside has)

      by_end : (e : abstract.PendingEnd) → abstract.pending_end (task f p) ≡ e → Kept aside (calls.pending_by wakes c e f by p)
      by_end EndDrops is = dropping_kept f Closed by p aside has
      by_end EndForgets is =
          dropping_kept f Closed by (put f new p) aside forgets
        where
          new : AbstractTask T (SoloWaker X)
          new = record (task f p) { phase = abstract.Phase.Finished; closed = true }

          forgets : Kept (more_aside f aside) (put f new p)
          forgets g live = by_one (f == g) refl (aside g) refl
            where
              by_one : (b : Bool) → (f == g) ≡ b → (a : Bool) → aside g ≡ a → ((b || a) || is_there g (put f new p)) ≡ true
              by_one true one a set = refl
              by_one false other true set = refl
              by_one false other false set =
                  others_so c f new p g other
                  (sym (ap (λ b. b || is_there g p) set)
                  ∙ (sym (ap (λ b. (b || aside g) || is_there g p) other) ∙ has g (sym (put_dropped c f new p g) ∙ live)))
      by_end EndQueues is = goes_on EndQueues is refl
      by_end EndRests is = goes_on EndRests is refl

  -- one that comes is due
  pub spawn_kept : (mark : Mark) → AllKept {T = T} {X = X} (calls.spawn wakes c mark)
  spawn_kept mark p = by (nat_lt (length (calls.living_from 0 p.futures)) p.limit) (calls.is_granted c.refusal)
    where
      n : ℕ
      n = length p.futures

      came : Plain T (SoloWaker X)
      came = calls.entered wakes c mark p

      come : Plain T (SoloWaker X)
      come = appended n came

      coming : Future T (SoloWaker X)
      coming = record { task = abstract.spawned (if p.is_static then 0 else 1); mark = mark; is_dropped = false }

      get : (g : ℕ) → (n == g) ≡ false → slice_get came.futures g ≡ slice_get p.futures g
      get g other = get_last p.futures coming g ∙ ap (λ b. cond b (Some coming) (slice_get p.futures g)) (turn n g other)

      comes : Keeps p come
      comes aside has =
          comes_back n aside p come
          (λ live. first_or (stands n come.due) (is_idle (task n come).phase || is_in_hand n come.inside)
          (last_stands p.due (record { future = n; mark = moves.mark n came; keeper = None })))
          (λ g other live. sym (ap (λ (o : Option (Future T (SoloWaker X))). or o (λ future. future.is_dropped) true) (get g other)) ∙ live)
          (λ g other live is. there g other is) (λ g live. either (n == g) (aside g) (is_there g p) (has g live))
        where
          either : (a b x : Bool) → (b || x) ≡ true → ((a || b) || x) ≡ true
          either true b x is = refl
          either false b x is = is

          there : (g : ℕ) → (n == g) ≡ false → is_there g p ≡ true → is_there g come ≡ true
          there g other is =
              still (stands g p.due) (stands g come.due)
              (λ due. more_stand g p.due (record { future = n; mark = moves.mark n came; keeper = None }) due)
              (ap (λ (o : Option (Future T (SoloWaker X))).
              stands g p.due || (is_idle (or o (λ future. future.task) no_task).phase || is_in_hand g p.inside)) (get g other) ∙ is)
            where
              still : (x y : Bool) → (x ≡ true → y ≡ true) → (x || (is_idle (task g come).phase || is_in_hand g p.inside)) ≡ true
                  → (y || (is_idle (task g come).phase || is_in_hand g p.inside)) ≡ true
              still true y goes is = first_or y (is_idle (task g come).phase || is_in_hand g p.inside) (goes refl)
              still false y goes is = second_or y (is_idle (task g come).phase || is_in_hand g p.inside) is

      by : (room granted : Bool)
          → Keeps p (if room then (if granted then answers Made (loud come) else answers NoMemory p) else answers Full p)
      by true true = λ aside has. tell_kept c come aside (comes aside has)
      by true false = λ aside has. has
      by false granted = λ aside has. has

  registered_kept : (f : ℕ) (w : SoloWaker X) → AllKept {T = T} {X = X} (calls.registered wakes c f w)
  registered_kept f w p =
      let left = abstract.poll w (task f p) in
      λ aside has. lets_go_kept c loud (tell_kept c) left.let_go (put f left.task p) aside
      (put_kept c f left.task p (λ idle. ap is_idle (poll_idle w (task f p)) ∙ idle) aside has)

  pub handle_kept : (f : ℕ) (w : SoloWaker X) (e : abstract.Polled T) → AllKept {T = T} {X = X} (calls.handle_by wakes c f w e)
  handle_kept f w (abstract.Polled.Output v) p =
      put_kept c f (abstract.poll w (task f p)).task p (λ idle. ap is_idle (poll_idle w (task f p)) ∙ idle)
  handle_kept f w abstract.Polled.Cancelled p = λ aside has. has
  handle_kept f w abstract.Polled.Waits p = by (calls.is_granted c.refusal)
    where
      by : (b : Bool) → Keeps p (if b then calls.registered wakes c f w (copied wakes w p) else answers NoMemory p)
      by true = λ aside has. registered_kept f w (copied wakes w p) aside (copied_kept c w p aside has)
      by false = λ aside has. has

  pub cancel_kept : (f : ℕ) → AllKept {T = T} {X = X} (calls.cancel wakes c f)
  cancel_kept f p =
      let left = abstract.cancel (task f p) in
      λ aside has. calls_kept c loud (tell_kept c) left.called (becomes wakes loud f left.task p) aside
      (becomes_kept c loud (tell_kept c) f left.task p (cancel_lasts (task f p)) aside has)

  pub detach_kept : (f : ℕ) → AllKept {T = T} {X = X} (calls.detach wakes c f)
  detach_kept f p =
      let left = abstract.detach (task f p) in
      let q = becomes wakes loud f left.task p in
      λ aside has. out_kept (record left { task = task f q }) None (put f (task f q) q) aside
      (put_kept c f (task f q) q (λ idle. idle) aside
      (becomes_kept c loud (tell_kept c) f left.task p (detach_lasts (task f p)) aside has))

  pub goes_kept : (r : ℕ) → AllKept {T = T} {X = X} (calls.gone wakes c r)
  goes_kept r p =
      let q = moves.runs (λ run. record run { is_over = true }) r p in
      let back : Plain T (SoloWaker X) → Plain T (SoloWaker X) = λ p. loud (given_back r p) in
      let z = repeat (count_by (is_kept r) p.due) back q in
      λ aside has. leaves_kept c (ARun r) z aside
      (repeat_kept (count_by (is_kept r) p.due) back
      (λ p aside has. tell_kept c (given_back r p) aside (given_back_kept r p aside has)) q aside
      (runs_kept (λ run. record run { is_over = true }) r p aside has))

  pub leak_kept : AllKept {T = T} {X = X} (calls.leak wakes c)
  leak_kept p = each_kept (calls.freed wakes c) freed (calls.living_from 0 p.futures) (record p { is_static = true })
    where
      freed : (f : ℕ) → AllKept {T = T} {X = X} (calls.freed wakes c f)
      freed f p =
          let q = becomes wakes loud f (abstract.wake (task f p)) p in
          λ aside has. becomes_kept c loud (tell_kept c) f (abstract.release (task f q)) q (release_lasts (task f q)) aside
          (becomes_kept c loud (tell_kept c) f (abstract.wake (task f p)) p (wake_lasts (task f p)) aside has)
