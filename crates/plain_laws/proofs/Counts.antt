-- A run counts one more just where it searches and finds a future.
use Rattle.std.proofs.lemmas.Bool.Decides.{nat_tests}
use Rattle.std.proofs.Common.{arith}
use Rattle.std.proofs.Common.{◌≡◌, ℕ, ◌+◌, ◌==◌, ◌++◌, ◌&&◌, is_some, nat_lt, cond, find, filter, Bool, true, false, List, [], ◌∷◌}
use Rattle.std.proofs.Common.{Option, Some, None}
use Rattle.std.proofs.Common.{slice_get, slice_set, refl, sym, subst, ap, ◌∙◌, count_by}
use Rattle.executor_parts.specs.declared.mark.Mark.TheVariants.{Plain as PlainMark, Urgent}
use Rattle.task_moves.specs.AbstractTask as abstract
use Rattle.task_moves.specs.AbstractTask.{Left}
use Rattle.plain_scheduler.specs.State.{ARun, ATick, Choice, Close as Closing, Closed, Code, Drop, DropOwn, Due, End, Gave, Lose}
use Rattle.plain_scheduler.specs.State.{Loses}
use Rattle.plain_scheduler.specs.State.{Plain, Poll, PollOwn, Polls, Ready, Run, Running, Taker, Tick, Try}
use Rattle.plain_scheduler.specs.Lists.{any, each, on, or, repeat, without}
use Rattle.plain_scheduler.specs.Moves.{answers, appended, changed, chosen, enters, given_back, is_common, is_due, is_kept, let_go, looks}
use Rattle.plain_scheduler.specs.Moves.{put, runs, see, task, tell, up}
use Rattle.plain_scheduler.specs.Moves as moves
use Rattle.plain_scheduler.specs.Takes as takes
use Rattle.plain_scheduler.specs.Calls as calls
use Rattle.plain_scheduler.specs.Calls.{Call, does}
use Rattle.plain_scheduler.specs.Searches.{Search, behind_drop, behind_loss, behind_out, behind_pending, finds, searches, searches_behind}
use Rattle.plain_scheduler.specs.Searches.{searches_inside, searches_of}
use Rattle.plain_laws.specs.Order.{count, last_begun}
use Rattle.plain_laws.specs.Searches.{finds_in}
use Rattle.plain_laws.proofs.Calling.{Ways, call_so}
use Rattle.plain_laws.proofs.InOrder.{count_so, count_there}
use Rattle.plain_laws.proofs.Over.{at_elsewhere, other_number}
use Rattle.plain_laws.proofs.Searching.{searching}
use Rattle.plain_laws.proofs.TakesDue.{Counts, counts_last, now_counts, take_begins, taken_counts}
use Rattle.plain_laws.proofs.Waits.{taken_of}
use Rattle.plain_laws.proofs.Walk.{Keeps, becomes_good, calls_good, closed_good, each_good, freed_good, given_up_good, gives_way_good}
use Rattle.plain_laws.proofs.Walk.{goes_good}
use Rattle.plain_laws.proofs.Walk.{if_so, leaves_good, nothing_good, on_good, or_good, put_good, repeat_good, tell_good, up_good}
use Rattle.plain_laws.proofs.Words.{not_below_itself, not_below_zero, same_number}

none_due : (ds : List Due) → any is_due ds ≡ false → ds ≡ []
none_due [] none = refl
none_due (d ∷ ds) none = absurd cc

module _ {A : Type 0} where
  -- who isn't run r
  abbrev IsOther : ℕ → Taker A → Type 0
  IsOther r Try = Unit {0}
  IsOther r (Tick t w) = Unit {0}
  IsOther r (Run k w) = (r == k) ≡ false

  -- who takes in a call in which no run searches
  abbrev MayTake : Taker A → Type 0
  MayTake Try = Unit {0}
  MayTake (Tick t w) = Unit {0}
  MayTake (Run k w) = ⊥

module _ {T A : Type 0} (r n : ℕ) where
  abbrev Same : Plain T A → Type 0
  Same p = Counts r n p

  -- what is done with another run
  others_count : (h : Running → Running) (k : ℕ) → (r == k) ≡ false → Keeps Same (runs h k)
  others_count h k away p good =
      on_good Same (slice_get p.runs k) (λ run p. record p { runs = slice_set p.runs k (h run) })
      (λ x p good. at_elsewhere taken_of p.runs k (h x) r (other_number r k away) ∙ good) p good

  -- what leaves the count as it is
  still_count : (h : Running → Running) → ((x : Running) → (h x).taken ≡ x.taken) → (k : ℕ) → Keeps Same (runs h k)
  still_count h same k p good = by (r == k) refl
    where
      by : (b : Bool) → (r == k) ≡ b → Same (runs h k p)
      by true is = subst (λ k. Same (runs h k p)) (same_number r k is) (now_counts h r n n (λ x is. same x ∙ is) p good)
      by false away = others_count h k away p good

  module _ (wakes : A → Option ℕ) (c : Choice) where
    abbrev IsNoMore : Plain T A → Type 0
    IsNoMore q = nat_lt n (count r q) ≡ false

    stays : (q : Plain T A) → Same q → IsNoMore q
    stays q good = ap (nat_lt n) (count_so r n q good) ∙ not_below_itself n

    way_anew : (k : ℕ) (w : A) (p : Plain T A) → Same p → IsNoMore (takes.gives_way wakes c k w p)
    way_anew k w p good = by (r == k) refl
      where
        anew : Running → Running
        anew run = record run { taken = 0 }

        by : (b : Bool) → (r == k) ≡ b → IsNoMore (takes.gives_way wakes c k w p)
        by true is =
            subst (λ k. IsNoMore (takes.gives_way wakes c k w p)) (same_number r k is)
            (ap (nat_lt n)
            (count_so r 0 (takes.gives_way wakes c r w p)
            (gives_way_good (Counts r 0) (counts_last r 0) wakes c r w p (now_counts anew r n 0 (λ x is. refl) p good)))
            ∙ not_below_zero n)
        by false away =
            stays (takes.gives_way wakes c k w p)
            (gives_way_good Same (counts_last r n) wakes c k w p (others_count anew k away p good))

    run_same : (f : ℕ) (by : Taker A) → Keeps Same (takes.run wakes c f by)
    run_same f by p good =
        let q = put f (abstract.begin_run (task f p)) p in
        if_so Same (task f p).closed (takes.dropping wakes c f Closed by p) (enters (Poll f by) (see (Polls f) q)) good
        (put_good Same (counts_last r n) wakes f (abstract.begin_run (task f p)) p good)

    takes_same : (by : Taker A) → IsOther r by → (d : Due) → Keeps Same (takes.takes wakes c by d)
    takes_same Try other d p good = run_same d.future Try (tell wakes c p) (tell_good Same (counts_last r n) wakes c p good)
    takes_same (Tick t w) other d p good =
        let q = up wakes c (ATick t) p in
        run_same d.future (Tick t w) (tell wakes c q)
        (tell_good Same (counts_last r n) wakes c q (up_good Same (counts_last r n) wakes c (ATick t) p good))
    takes_same (Run k w) other d p good =
        let p4 = takes.kept wakes c k (tell wakes c (up wakes c (ARun k) (takes.robbed wakes c k d.keeper p))) in
        run_same d.future (Run k w) (takes.counted wakes c k p4)
        (others_count (λ run. record run { taken = run.taken + 1 }) k other p4 (taken_counts r n wakes c k d p good))

    take_same : (by : Taker A) → IsOther r by → Keeps Same (takes.take wakes c by)
    take_same by other p good =
        let test = chosen (looks c by) p.due in
        let p1 : Plain T A = record p { due = without test p.due } in
        or_good Same (find test p.due) (takes.nothing wakes c by p) (λ d. takes.takes wakes c by d p1)
        (nothing_good Same (counts_last r n) wakes c by p good) (λ d. takes_same by other d p1 good)

    given_back_same : (k : ℕ) → Keeps Same (given_back k)
    given_back_same k p good =
        on_good Same (find (is_kept k) p.due) (λ d p. appended d.future (record p { due = without (is_kept k) p.due }))
        (λ d p good. good) p good

    gone_same : (k : ℕ) → Keeps Same (calls.gone wakes c k)
    gone_same k p good =
        let q = runs (λ run. record run { is_over = true }) k p in
        leaves_good Same (counts_last r n) wakes c (ARun k)
        (repeat (count_by (is_kept k) p.due) (λ p. tell wakes c (given_back k p)) q)
        (repeat_good Same (count_by (is_kept k) p.due) (λ p. tell wakes c (given_back k p))
        (λ p good. tell_good Same (counts_last r n) wakes c (given_back k p) (given_back_same k p good)) q
        (still_count (λ run. record run { is_over = true }) (λ x. refl) k p good))

    close_same : (fs all : List ℕ) → Keeps Same (calls.close wakes c fs all)
    close_same [] all p good =
        let q = each all (calls.freed wakes c) p in
        each_good Same (filter (is_common Urgent) q.due ++ filter (is_common PlainMark) q.due) (λ d. calls.closed wakes c d.future)
        (λ d. closed_good Same (counts_last r n) wakes c d.future) (record q { due = [] })
        (each_good Same all (calls.freed wakes c) (freed_good Same (counts_last r n) wakes c) p good)
    close_same (f ∷ fs) all p good = (counts_last r n).changes (λ future. record future { is_dropped = true }) (λ x. refl) f p good

    take_by : (by : Taker A) → MayTake by → (p : Plain T A) → Same p → IsNoMore (takes.take wakes c by p)
    take_by Try may p good = stays (takes.take wakes c Try p) (take_same Try tt p good)
    take_by (Tick t w) may p good = stays (takes.take wakes c (Tick t w) p) (take_same (Tick t w) tt p good)
    take_by (Run k w) may p good = absurd may

    abbrev ways : Ways wakes c Same IsNoMore
    ways =
        record {
          lasts = counts_last r n;
          stops = stays;
          May = MayTake;
          take = take_by;
          gives_way = λ k w may p good. absurd may;
          MayEnter = λ code. Unit {0};
          enter = λ code may p good. good;
          drops = λ f end by may. tt;
          loses = λ awaiter by may. tt;
          drops_own = λ k answer. tt;
          pops = λ code rest p is good. good;
          MayGo = λ k. Unit {0};
          gone = λ k may p good. gone_same k p good;
          MayClose = Unit {0};
          close = λ may fs all p good. stays (calls.close wakes c fs all p) (close_same fs all p good);
        }

    -- where a run searches all have counted as before; where none does none counts more
    abbrev Says : Option (Search T A) → Plain T A → Type 0
    Says None q = IsNoMore q
    Says (Some x) q = Same x.at

    next_says : (by : Taker A) (p : Plain T A) → Same p → Says (searches_of wakes c by p) (takes.next wakes c by p)
    next_says Try p good = stays (takes.next wakes c Try p) good
    next_says (Tick t w) p good = stays (takes.next wakes c (Tick t w) p) good
    next_says (Run k w) p good = split (nat_lt (or (slice_get p.runs k) (λ run. run.taken) 0) 200)
      where
        here : Search T A
        here = record { run = k; waker = w; at = p }

        split : (b : Bool) → Says (cond b (Some here) None) (cond b (takes.take wakes c (Run k w) p) (takes.gives_way wakes c k w p))
        split true = good
        split false = way_anew k w p good

    becomes_same : (f : ℕ) → Keeps Same (λ p. moves.becomes wakes (takes.tell wakes c) f (abstract.end_pending (task f p)).task p)
    becomes_same f p good =
        becomes_good Same (counts_last r n) wakes (tell wakes c) (tell_good Same (counts_last r n) wakes c)
        (λ t. (abstract.end_pending t).task) refl f p good

    pending_says : (e : abstract.PendingEnd) (f : ℕ) (by : Taker A) (p : Plain T A) → Same p
        → Says (searches_behind wakes c by (behind_pending wakes c e f p)) (calls.pending_by wakes c e f by p)
    pending_says abstract.PendingEnd.Drops f by p good = stays (takes.dropping wakes c f Closed by p) good
    pending_says abstract.PendingEnd.Forgets f by p good =
        let q = put f (record (task f p) { phase = abstract.Phase.Finished; closed = true }) p in
        stays (takes.dropping wakes c f Closed by q)
        (put_good Same (counts_last r n) wakes f (record (task f p) { phase = abstract.Phase.Finished; closed = true }) p good)
    pending_says abstract.PendingEnd.Queues f by p good =
        next_says by (moves.becomes wakes (takes.tell wakes c) f (abstract.end_pending (task f p)).task p) (becomes_same f p good)
    pending_says abstract.PendingEnd.Rests f by p good =
        next_says by (moves.becomes wakes (takes.tell wakes c) f (abstract.end_pending (task f p)).task p) (becomes_same f p good)

    out_says : (left : Left T A) (by : Taker A) (p : Plain T A) → Same p
        → Says (searches_behind wakes c by (behind_out wakes c left p)) (takes.out wakes c left (Some by) p)
    out_says left by p good = split left.dropped
      where
        p1 : Plain T A
        p1 = on left.let_go (let_go wakes (takes.tell wakes c)) p

        q : Plain T A
        q = behind_loss wakes c left.called p1

        split : (o : Option T)
            → Says (searches_behind wakes c by (or o (λ v. None) (Some q)))
            (or o (λ v. enters (Lose left.called (Some by)) (see (Loses v) p)) (takes.next wakes c by q))
        split (Some v) = stays (enters (Lose left.called (Some by)) (see (Loses v) p)) good
        split None =
            next_says by q
            (calls_good Same (counts_last r n) wakes c left.called p1 (goes_good Same (counts_last r n) wakes c left.let_go p good))

    dropped_says : (f : ℕ) (end : End T) (by : Taker A) (p : Plain T A) → Same p
        → Says (searches_behind wakes c by (behind_drop wakes c f end p)) (takes.dropped wakes c f end by p)
    dropped_says f end by p good =
        let p1 = changed (λ future. record future { is_dropped = true }) f p in
        let q = takes.given_up wakes c f p1 in
        let left = takes.left_by wakes c end (task f q) in
        out_says left by (put f left.task q)
        (put_good Same (counts_last r n) wakes f left.task q
        (given_up_good Same (counts_last r n) wakes c f p1
        ((counts_last r n).changes (λ future. record future { is_dropped = true }) (λ x. refl) f p good)))

    pends_says : (codes : List (Code T A)) (p : Plain T A) → Same p
        → Says (searches_inside wakes c calls.Pends codes p) (calls.innermost wakes c codes (calls.pends wakes c) p)
    pends_says [] p good = stays p good
    pends_says (PollOwn k w ∷ rest) p good = good
    pends_says (Poll f by ∷ rest) p good =
        let p0 : Plain T A = record p { inside = rest } in pending_says (abstract.pending_end (task f p0)) f by p0 good
    pends_says (Drop f end by ∷ rest) p good = stays (record p { inside = rest }) good
    pends_says (Lose awaiter by ∷ rest) p good = stays (record p { inside = rest }) good
    pends_says (DropOwn k answer ∷ rest) p good = stays (record p { inside = rest }) good
    pends_says (Closing fs all ∷ rest) p good = stays (record p { inside = rest }) good

    ends_says : (codes : List (Code T A)) (p : Plain T A) → Same p
        → Says (searches_inside wakes c calls.Ends codes p) (calls.innermost wakes c codes (calls.ends wakes c) p)
    ends_says [] p good = stays p good
    ends_says (Drop f end by ∷ rest) p good = dropped_says f end by (record p { inside = rest }) good
    ends_says (Lose awaiter (Some by) ∷ rest) p good =
        let p0 : Plain T A = record p { inside = rest } in
        next_says by (behind_loss wakes c awaiter p0) (calls_good Same (counts_last r n) wakes c awaiter p0 good)
    ends_says (Lose awaiter None ∷ rest) p good =
        let p0 : Plain T A = record p { inside = rest } in
        stays (takes.lost wakes c awaiter None p0) (calls_good Same (counts_last r n) wakes c awaiter p0 good)
    ends_says (PollOwn k w ∷ rest) p good = stays (record p { inside = rest }) good
    ends_says (Poll f by ∷ rest) p good = stays (record p { inside = rest }) good
    ends_says (DropOwn k answer ∷ rest) p good =
        let p0 : Plain T A = record p { inside = rest } in stays (answers answer (calls.gone wakes c k p0)) (gone_same k p0 good)
    ends_says (Closing fs all ∷ rest) p good =
        let p0 : Plain T A = record p { inside = rest } in stays (calls.close wakes c fs all p0) (close_same fs all p0 good)

    gives_says : (v : T) (codes : List (Code T A)) (p : Plain T A) → Same p
        → Says (searches_inside wakes c (calls.EndsWith v) codes p) (calls.innermost wakes c codes (calls.gives wakes c v) p)
    gives_says v [] p good = stays p good
    gives_says v (PollOwn k w ∷ rest) p good = stays (enters (DropOwn k Ready) (record p { inside = rest })) good
    gives_says v (Poll f by ∷ rest) p good = stays (takes.dropping wakes c f (Gave v) by (record p { inside = rest })) good
    gives_says v (Drop f end by ∷ rest) p good = stays (record p { inside = rest }) good
    gives_says v (Lose awaiter by ∷ rest) p good = stays (record p { inside = rest }) good
    gives_says v (DropOwn k answer ∷ rest) p good = stays (record p { inside = rest }) good
    gives_says v (Closing fs all ∷ rest) p good = stays (record p { inside = rest }) good

    call_says : (call : Call T A) (p : Plain T A) → Same p → Says (searches wakes c call p) (does wakes c call p)
    call_says calls.Pends p good = pends_says p.inside p good
    call_says calls.Ends p good = ends_says p.inside p good
    call_says (calls.EndsWith v) p good = gives_says v p.inside p good
    call_says calls.TryTick p good = by p.inside
      where
        by : (codes : List (Code T A)) → Says (searches_inside wakes c calls.TryTick codes p) (does wakes c calls.TryTick p)
        by [] = call_so wakes c Same IsNoMore ways calls.TryTick p tt good
        by (code ∷ rest) = call_so wakes c Same IsNoMore ways calls.TryTick p tt good
    call_says (calls.PollTick t w) p good = by p.inside
      where
        by : (codes : List (Code T A))
            → Says (searches_inside wakes c (calls.PollTick t w) codes p) (does wakes c (calls.PollTick t w) p)
        by [] = call_so wakes c Same IsNoMore ways (calls.PollTick t w) p tt good
        by (code ∷ rest) = call_so wakes c Same IsNoMore ways (calls.PollTick t w) p tt good
    call_says (calls.PollRun k w) p good = by p.inside
      where
        by : (codes : List (Code T A))
            → Says (searches_inside wakes c (calls.PollRun k w) codes p) (does wakes c (calls.PollRun k w) p)
        by [] = call_so wakes c Same IsNoMore ways (calls.PollRun k w) p (λ is. tt) good
        by (code ∷ rest) = call_so wakes c Same IsNoMore ways (calls.PollRun k w) p (λ is. tt) good
    call_says call p good = by p.inside
      where
        by : (codes : List (Code T A)) → Says (searches_inside wakes c call codes p) (does wakes c call p)
        by [] = call_so wakes c Same IsNoMore ways call p tt good
        by (code ∷ rest) = call_so wakes c Same IsNoMore ways call p tt good

    -- it finds one
    found_so : (w : A) (p : Plain T A) → Same p → any is_due p.due ≡ true → nat_lt n (count r (takes.take wakes c (Run r w) p)) ≡ true
    found_so w p good some =
        let it = take_begins wakes c r w n p good some in
        by (nat_lt n (count r (takes.take wakes c (Run r w) p))) it.0 it.1.0
      where
        by : (b : Bool) (d : Due) → cond b (last_begun (takes.take wakes c (Run r w) p).events) [] ≡ d.future ∷ [] → b ≡ true
        by b d is = grind (arith, nat_tests)

    unfound_so : (k : ℕ) (w : A) (p : Plain T A) → Same p → any is_due p.due ≡ false → IsNoMore (takes.take wakes c (Run k w) p)
    unfound_so k w p good none =
        let test = chosen (looks c (Run k w)) p.due in
        subst
        (λ ds. IsNoMore (or (find test ds) (λ d. takes.takes wakes c (Run k w) d (record p { due = without test p.due }))
        (takes.nothing wakes c (Run k w) p))) (sym (none_due p.due none))
        (stays (takes.nothing wakes c (Run k w) p) (nothing_good Same (counts_last r n) wakes c (Run k w) p good))

    search_counts : (x : Search T A) → Same x.at
        → nat_lt n (count r (takes.take wakes c (Run x.run x.waker) x.at)) ≡ ((r == x.run) && finds x)
    search_counts x good = by (r == x.run) refl
      where
        its : (k : ℕ) (b : Bool) → any is_due x.at.due ≡ b → (r == k) ≡ true
            → nat_lt n (count r (takes.take wakes c (Run k x.waker) x.at)) ≡ b
        its k b none is = grind (arith, nat_tests, n, same_number, found_so, unfound_so)

        by : (b : Bool) → (r == x.run) ≡ b → nat_lt n (count r (takes.take wakes c (Run x.run x.waker) x.at)) ≡ (b && finds x)
        by true is = its x.run (any is_due x.at.due) refl is
        by false away =
            stays (takes.take wakes c (Run x.run x.waker) x.at) (take_same (Run x.run x.waker) away x.at good)

module _ {T A : Type 0} (wakes : A → Option ℕ) (c : Choice) (r : ℕ) where
  pub counts_found : (call : Call T A) (p : Plain T A) → is_some (slice_get p.runs r) ≡ true
      → nat_lt (count r p) (count r (does wakes c call p)) ≡ finds_in wakes c call p r
  counts_found call p there = by (searches wakes c call p) refl (call_says r n wakes c call p (count_there r p there))
    where
      n : ℕ
      n = count r p

      by : (o : Option (Search T A)) → searches wakes c call p ≡ o → Says r n wakes c o (does wakes c call p)
          → nat_lt n (count r (does wakes c call p)) ≡ or o (λ x. (r == x.run) && finds x) false
      by None is none = none
      by (Some x) is good =
          ap (λ q. nat_lt n (count r q)) (searching wakes c call p x is) ∙ search_counts r n wakes c x good
