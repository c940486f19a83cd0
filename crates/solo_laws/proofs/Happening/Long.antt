-- How many futures and runs came: what changes neither, lets no run go on that was over, and a run keep 512 futures at most.
use Rattle.std.proofs.Common.{◌≡◌, ℕ, zero, suc, ◌+◌, ◌==◌, count_by, nat_lt, if◌then◌else◌, Bool, true, false, List, [], ◌∷◌, ◌++◌}
use Rattle.std.proofs.Common.{filter, find, map, length, Option, Some, None, slice_get, slice_set, refl, sym, ap, subst, not, ◌≤◌, ◌∙◌}
use Rattle.std.proofs.Common.{arith}
use Rattle.executor_parts.specs.declared.mark.Mark.TheVariants.{Plain as PlainMark, Urgent}
use Rattle.task_moves.specs.AbstractTask as abstract
use Rattle.task_moves.specs.AbstractTask.{AbstractTask, Left}
use Rattle.task_moves.specs.AbstractTask.PendingEnd.{Drops as EndDrops, Queues as EndQueues, Forgets as EndForgets, Rests as EndRests}
use Rattle.solo.specs.declared.names.SoloWaker.{SoloWaker}
use Rattle.plain_scheduler.specs.State.{ARun, ATick, AtOnce, Calls, Choice, Close, Closed, Code, Drop, DropOwn, Due, End}
use Rattle.plain_scheduler.specs.State.{Future, Granted}
use Rattle.plain_scheduler.specs.State.{Later, Lose, Loses, Lying, Made, NoMemory, Plain, Poll, PollOwn, Polls, Refusal, Run, Running}
use Rattle.plain_scheduler.specs.State.{Taker}
use Rattle.plain_scheduler.specs.State.{Tick, Try, Who}
use Rattle.plain_scheduler.specs.Lists.{each, on, or, repeat, without}
use Rattle.plain_scheduler.specs.Moves.{answers, appended, becomes, called, changed, chosen, copied, enters, given_back, is_called}
use Rattle.plain_scheduler.specs.Moves.{is_common, mark}
use Rattle.plain_scheduler.specs.Moves.{is_kept, let_go, lies, looks, moved, put, release, see, task, tell, up, wake}
use Rattle.plain_scheduler.specs.Moves as moves
use Rattle.plain_scheduler.specs.Takes as takes
use Rattle.plain_scheduler.specs.Calls as plain
use Rattle.plain_scheduler.specs.Calls.{Call, does, is_granted}
use Rattle.solo_laws.specs.Road.{wakes}
use Rattle.solo_laws.specs.Tabled.{goes_on}
use Rattle.solo_laws.proofs.Following.Frames.{Still, becomes_still, called_still, copied_still, let_go_still, put_still, tell_still}
use Rattle.solo_laws.proofs.Following.Lists.{length_set}
use Rattle.solo_laws.proofs.Happening.Goers.{goers, over_goers, same_goers, set_goers}
use Rattle.solo_laws.proofs.Happening.Places.{FewKept, last_few, moved_few, none_kept, without_few}

-- of how many futures came, of the runs, and of those that are due
pub record AsMany (a : ℕ) (rs : List Running) (ds : List Due) (b : ℕ) (ss : List Running) (es : List Due) : Type 0 where
  pub futures : b ≡ a
  pub runs : length ss ≡ length rs
  pub going : goers ss ≤ goers rs
  pub kept : FewKept ds → FewKept es

infixr 30 ◌∘◌
pub ◌∘◌ : {a d h : ℕ} {b e i : List Running} {l m n : List Due} → AsMany d e m h i n → AsMany a b l d e m → AsMany a b l h i n
two ∘ one = record {
  futures = two.futures ∙ one.futures;
  runs = two.runs ∙ one.runs;
  going = (let more = two.going in let less = one.going in omega (arith, more, less));
  kept = λ few. two.kept (one.kept few);
}

module _ {T X : Type 0} where
  abbrev pub Long : Plain T (SoloWaker X) → Plain T (SoloWaker X) → Type 0
  Long p q = AsMany (length p.futures) p.runs p.due (length q.futures) q.runs q.due

  pub of_still : (c : Choice) {p q : Plain T (SoloWaker X)} → Still c p q → Long p q
  of_still c s = record {
    futures = s.futures;
    runs = ap (λ (rs : List Running). length rs) s.runs;
    going = same_goers _ _ s.runs;
    kept = λ few r. subst (λ (ds : List Due). length ds ≤ 512) (sym (s.kept r)) (few r);
  }

module _ {T X : Type 0} (c : Choice) where
  abbrev loud : Plain T (SoloWaker X) → Plain T (SoloWaker X)
  loud p = tell wakes c p

  pub becomes_long : (f : ℕ) (new : AbstractTask T (SoloWaker X)) (p : Plain T (SoloWaker X)) → Long p (becomes wakes loud f new p)
  becomes_long f new p = of_still c (becomes_still c loud (tell_still c) f new p)

  called_long : (o : Option (SoloWaker X)) (p : Plain T (SoloWaker X)) → Long p (on o (called wakes loud) p)
  called_long None p = record { futures = refl; runs = refl; going = omega arith; kept = λ few. few }
  called_long (Some w) p = of_still c (called_still c loud (tell_still c) w p)

  went_long : (o : Option (SoloWaker X)) (p : Plain T (SoloWaker X)) → Long p (on o (let_go wakes loud) p)
  went_long None p = record { futures = refl; runs = refl; going = omega arith; kept = λ few. few }
  went_long (Some w) p = of_still c (let_go_still c loud (tell_still c) w p)

  changed_long : (h : Future T (SoloWaker X) → Future T (SoloWaker X)) (f : ℕ) (p : Plain T (SoloWaker X)) → Long p (changed h f p)
  changed_long h f p = by (slice_get p.futures f)
    where
      by : (o : Option (Future T (SoloWaker X))) → Long p (on o (λ x p. record p { futures = slice_set p.futures f (h x) }) p)
      by None = record { futures = refl; runs = refl; going = omega arith; kept = λ few. few }
      by (Some x) = record { futures = length_set p.futures f (h x); runs = refl; going = omega arith; kept = λ few. few }

  runs_long : (h : Running → Running) → ((run : Running) → run.is_over ≡ true → (h run).is_over ≡ true) → (r : ℕ)
      (p : Plain T (SoloWaker X)) → Long p (moves.runs h r p)
  runs_long h stays r p = by (slice_get p.runs r) refl
    where
      by : (o : Option Running) → slice_get p.runs r ≡ o → Long p (on o (λ run p. record p { runs = slice_set p.runs r (h run) }) p)
      by None is = record { futures = refl; runs = refl; going = omega arith; kept = λ few. few }
      by (Some run) is = record {
        futures = refl;
        runs = length_set p.runs r (h run);
        going = set_goers p.runs r run (h run) is (stays run);
        kept = λ few. few;
      }

  repeat_long : (n : ℕ) (f : Plain T (SoloWaker X) → Plain T (SoloWaker X)) → ((p : Plain T (SoloWaker X)) → Long p (f p))
      → (p : Plain T (SoloWaker X)) → Long p (repeat n f p)
  repeat_long zero f one p = record { futures = refl; runs = refl; going = omega arith; kept = λ few. few }
  repeat_long (suc n) f one p = repeat_long n f one (f p) ∘ one p

  pub each_long : {B : Type 0} (bs : List B) (f : B → Plain T (SoloWaker X) → Plain T (SoloWaker X))
      → ((b : B) (p : Plain T (SoloWaker X)) → Long p (f b p)) → (p : Plain T (SoloWaker X)) → Long p (each bs f p)
  each_long [] f one p = record { futures = refl; runs = refl; going = omega arith; kept = λ few. few }
  each_long (b ∷ bs) f one p = each_long bs f one (f b p) ∘ one b p

  keeps_long : (r : ℕ) (test : Due → Bool) (p : Plain T (SoloWaker X)) → Long p (moves.keeps r test p)
  keeps_long r test p = by (nat_lt (count_by (is_kept r) p.due) 512) refl
    where
      one : nat_lt (count_by (is_kept r) p.due) 512 ≡ true → (o : Option Due)
          → Long p (on o (λ d p. record p { due = without test p.due ++ record d { keeper = Some r } ∷ [] }) p)
      one room None = record { futures = refl; runs = refl; going = omega arith; kept = λ few. few }
      one room (Some d) = record { futures = refl; runs = refl; going = omega arith; kept = moved_few r test p.due d room }

      by : (b : Bool) → nat_lt (count_by (is_kept r) p.due) 512 ≡ b → Long p (if b then moved r test p else p)
      by true room = one room (find test p.due)
      by false room = record { futures = refl; runs = refl; going = omega arith; kept = λ few. few }

  up_long : (who : Who) (p : Plain T (SoloWaker X)) → Long p (up wakes c who p)
  up_long who p = by (find (lies who) p.lying)
    where
      by : (o : Option (Lying (SoloWaker X)))
          → Long p (on o (λ l p. on l.waker (let_go wakes (tell wakes c)) (record p { lying = without (lies who) p.lying })) p)
      by None = record { futures = refl; runs = refl; going = omega arith; kept = λ few. few }
      by (Some l) = went_long l.waker (record p { lying = without (lies who) p.lying })

  pub leaves_long : (who : Who) (p : Plain T (SoloWaker X)) → Long p (moves.leaves wakes c who p)
  leaves_long who p = by (find (lies who) p.lying)
    where
      which : (b : Bool) → Long p (if b then tell wakes c (up wakes c who p) else up wakes c who p)
      which true = of_still c (tell_still c (up wakes c who p)) ∘ up_long who p
      which false = up_long who p

      by : (o : Option (Lying (SoloWaker X)))
          → Long p (on o (λ l p. if is_called l then tell wakes c (up wakes c who p) else up wakes c who p) p)
      by None = record { futures = refl; runs = refl; going = omega arith; kept = λ few. few }
      by (Some l) = which (is_called l)

  run_long : (f : ℕ) (by : Taker (SoloWaker X)) (p : Plain T (SoloWaker X)) → Long p (takes.run wakes c f by p)
  run_long f by p = which (task f p).closed
    where
      which : (b : Bool) → Long p (if b then takes.dropping wakes c f Closed by p
          else enters (Poll f by) (see (Polls f) (put f (abstract.begin_run (task f p)) p)))
      which true = record { futures = refl; runs = refl; going = omega arith; kept = λ few. few }
      which false = of_still c (put_still c f (abstract.begin_run (task f p)) p)

  robbed_long : (r : ℕ) (keeper : Option ℕ) (p : Plain T (SoloWaker X)) → Long p (takes.robbed wakes c r keeper p)
  robbed_long r None p = record { futures = refl; runs = refl; going = omega arith; kept = λ few. few }
  robbed_long r (Some k) p = by (r == k)
    where
      by : (b : Bool) → Long p (if b then p else repeat c.moves (moves.keeps r (is_kept k)) p)
      by true = record { futures = refl; runs = refl; going = omega arith; kept = λ few. few }
      by false = repeat_long c.moves (moves.keeps r (is_kept k)) (keeps_long r (is_kept k)) p

  takes_long : (by : Taker (SoloWaker X)) (d : Due) (p : Plain T (SoloWaker X)) → Long p (takes.takes wakes c by d p)
  takes_long Try d p = run_long d.future Try (tell wakes c p) ∘ of_still c (tell_still c p)
  takes_long (Tick t w) d p =
      let a = up wakes c (ATick t) p in
      run_long d.future (Tick t w) (tell wakes c a) ∘ (of_still c (tell_still c a) ∘ up_long (ATick t) p)
  takes_long (Run r w) d p =
      let a = takes.robbed wakes c r d.keeper p in
      let b = up wakes c (ARun r) a in
      let e = takes.kept wakes c r (tell wakes c b) in
      run_long d.future (Run r w) (takes.counted wakes c r e)
      ∘ (runs_long (λ run. record run { taken = run.taken + 1 }) (λ run is. is) r e
      ∘ (each_long c.keeps (λ mark. moves.keeps r (is_common mark)) (λ mark. keeps_long r (is_common mark)) (tell wakes c b)
      ∘ (of_still c (tell_still c b) ∘ (up_long (ARun r) a ∘ robbed_long r d.keeper p))))

  lies_long : (who : Who) (w : SoloWaker X) (p : Plain T (SoloWaker X)) → Long p (takes.lies_down wakes c who w p)
  lies_long who w p = by (find (lies who) p.lying)
    where
      q : Plain T (SoloWaker X)
      q = copied wakes w p

      again : (o : Option (SoloWaker X))
          → Long p (or o (λ old. takes.lain_again wakes c who w old (copied wakes w p)) (takes.lain wakes c who w (copied wakes w p)))
      again None = of_still c (copied_still c w p)
      again (Some old) =
          went_long (Some old)
          (record (copied wakes w p) { lying = map (λ l. if lies who l then record l { waker = Some w } else l) (copied wakes w p).lying })
          ∘ of_still c (copied_still c w p)

      by : (o : Option (Lying (SoloWaker X)))
          → Long p (or o (λ l. or l.waker (λ old. takes.lain_again wakes c who w old (copied wakes w p))
          (takes.lain wakes c who w (copied wakes w p))) (takes.lain wakes c who w (copied wakes w p)))
      by None = of_still c (copied_still c w p)
      by (Some l) = again l.waker

  rests_long : (g : Refusal) (who : Who) (w : SoloWaker X) (p : Plain T (SoloWaker X)) → Long p (takes.rests wakes c g who w p)
  rests_long Granted who w p = lies_long who w p
  rests_long AtOnce who w p = record { futures = refl; runs = refl; going = omega arith; kept = λ few. few }
  rests_long Later who w p = lies_long who w p

  nothing_long : (by : Taker (SoloWaker X)) (p : Plain T (SoloWaker X)) → Long p (takes.nothing wakes c by p)
  nothing_long Try p = record { futures = refl; runs = refl; going = omega arith; kept = λ few. few }
  nothing_long (Tick t w) p = rests_long c.refusal (ATick t) w p
  nothing_long (Run r w) p = rests_long c.refusal (ARun r) w p

  pub take_long : (by : Taker (SoloWaker X)) (p : Plain T (SoloWaker X)) → Long p (takes.take wakes c by p)
  take_long by p = which (find (chosen (looks c by) p.due) p.due)
    where
      which : (o : Option Due)
          → Long p (or o (λ d. takes.takes wakes c by d (record p { due = without (chosen (looks c by) p.due) p.due }))
          (takes.nothing wakes c by p))
      which None = nothing_long by p
      which (Some d) =
          takes_long by d (record p { due = without (chosen (looks c by) p.due) p.due })
          ∘ record { futures = refl; runs = refl; going = omega arith; kept = without_few (chosen (looks c by) p.due) p.due }

  way_long : (r : ℕ) (w : SoloWaker X) (p : Plain T (SoloWaker X)) → Long p (takes.gives_way wakes c r w p)
  way_long r w p = by (wakes w) ∘ runs_long (λ run. record run { taken = 0 }) (λ run is. is) r p
    where
      by : (o : Option ℕ)
          → Long (moves.runs (λ run. record run { taken = 0 }) r p)
          (or o (λ f. wake wakes (takes.tell wakes c) f (moves.runs (λ run. record run { taken = 0 }) r p))
          (see (Calls w) (moves.runs (λ run. record run { taken = 0 }) r p)))
      by None = record { futures = refl; runs = refl; going = omega arith; kept = λ few. few }
      by (Some f) =
          let q = moves.runs (λ run. record run { taken = 0 }) r p in becomes_long f (abstract.wake (task f q)) q

  next_long : (by : Taker (SoloWaker X)) (p : Plain T (SoloWaker X)) → Long p (takes.next wakes c by p)
  next_long Try p = record { futures = refl; runs = refl; going = omega arith; kept = λ few. few }
  next_long (Tick t w) p = record { futures = refl; runs = refl; going = omega arith; kept = λ few. few }
  next_long (Run r w) p = which (nat_lt (or (slice_get p.runs r) (λ run. run.taken) 0) 200)
    where
      which : (b : Bool) → Long p (if b then takes.take wakes c (Run r w) p else takes.gives_way wakes c r w p)
      which true = take_long (Run r w) p
      which false = way_long r w p

  lost_long : (awaiter : Option (SoloWaker X)) (by : Option (Taker (SoloWaker X))) (p : Plain T (SoloWaker X))
      → Long p (takes.lost wakes c awaiter by p)
  lost_long awaiter None p = called_long awaiter p
  lost_long awaiter (Some by) p = next_long by (on awaiter (called wakes loud) p) ∘ called_long awaiter p

  ended_long : (f : ℕ) (left : Left T (SoloWaker X)) (by : Option (Taker (SoloWaker X))) (p : Plain T (SoloWaker X))
      → Long p (takes.ended wakes c f left by p)
  ended_long f left by p = which left.dropped ∘ of_still c (put_still c f left.task p)
    where
      which : (o : Option T)
          → Long (put f left.task p)
          (or o (λ v. enters (Lose left.called by) (see (Loses v) (put f left.task p)))
          (takes.lost wakes c left.called by (on left.let_go (let_go wakes loud) (put f left.task p))))
      which (Some v) = record { futures = refl; runs = refl; going = omega arith; kept = λ few. few }
      which None =
          lost_long left.called by (on left.let_go (let_go wakes loud) (put f left.task p)) ∘ went_long left.let_go (put f left.task p)

  given_long : (f : ℕ) (p : Plain T (SoloWaker X)) → Long p (takes.given_up wakes c f p)
  given_long f p = by p.is_static
    where
      by : (b : Bool) → Long p (if b then p else release wakes (takes.tell wakes c) f p)
      by true = record { futures = refl; runs = refl; going = omega arith; kept = λ few. few }
      by false = becomes_long f (abstract.release (task f p)) p

  dropped_long : (f : ℕ) (end : End T) (by : Taker (SoloWaker X)) (p : Plain T (SoloWaker X))
      → Long p (takes.dropped wakes c f end by p)
  dropped_long f end by p =
      let first = changed (λ future. record future { is_dropped = true }) f p in
      let q = takes.given_up wakes c f first in
      ended_long f (takes.left_by wakes c end (task f q)) (Some by) q
      ∘ (given_long f first ∘ changed_long (λ future. record future { is_dropped = true }) f p)

  pending_long : (e : abstract.PendingEnd) (f : ℕ) (by : Taker (SoloWaker X)) (p : Plain T (SoloWaker X))
      → Long p (plain.pending_by wakes c e f by p)
  pending_long EndDrops f by p = record { futures = refl; runs = refl; going = omega arith; kept = λ few. few }
  pending_long EndForgets f by p = of_still c (put_still c f (record (task f p) { phase = abstract.Phase.Finished; closed = true }) p)
  pending_long EndQueues f by p =
      next_long by (becomes wakes loud f (abstract.end_pending (task f p)).task p)
      ∘ becomes_long f (abstract.end_pending (task f p)).task p
  pending_long EndRests f by p =
      next_long by (becomes wakes loud f (abstract.end_pending (task f p)).task p)
      ∘ becomes_long f (abstract.end_pending (task f p)).task p

  going_long : (r : ℕ) (p : Plain T (SoloWaker X)) → Long (moves.runs (λ run. record run { is_over = true }) r p) (plain.gone wakes c r p)
  going_long r p =
      let q = moves.runs (λ run. record run { is_over = true }) r p in
      let a = repeat (count_by (is_kept r) p.due) (λ p. tell wakes c (given_back r p)) q in
      leaves_long (ARun r) a ∘ repeat_long (count_by (is_kept r) p.due) (λ p. tell wakes c (given_back r p)) back_long q
    where
      back_long : (p : Plain T (SoloWaker X)) → Long p (tell wakes c (given_back r p))
      back_long p = of_still c (tell_still c (given_back r p)) ∘ by (find (is_kept r) p.due)
        where
          by : (o : Option Due)
              → Long p (on o (λ d p. appended d.future (record p { due = without (is_kept r) p.due })) p)
          by None = record { futures = refl; runs = refl; going = omega arith; kept = λ few. few }
          by (Some d) = record {
            futures = refl;
            runs = refl;
            going = omega arith;
            kept =
                λ few.
                last_few (without (is_kept r) p.due)
                (record { future = d.future; mark = mark d.future (record p { due = without (is_kept r) p.due }); keeper = None }) refl
                (without_few (is_kept r) p.due few);
          }

  gone_long : (r : ℕ) (p : Plain T (SoloWaker X)) → Long p (plain.gone wakes c r p)
  gone_long r p = going_long r p ∘ runs_long (λ run. record run { is_over = true }) (λ run is. refl) r p

  -- one fewer goes on then
  pub gone_fewer : (r : ℕ) (p : Plain T (SoloWaker X)) → goes_on r p ≡ true → suc (goers (plain.gone wakes c r p).runs) ≤ goers p.runs
  gone_fewer r p goes = by (slice_get p.runs r) refl goes (going_long r p).going
    where
      by : (o : Option Running) → slice_get p.runs r ≡ o → or o (λ run. not run.is_over) false ≡ true
          → goers (plain.gone wakes c r p).runs
          ≤ goers (on o (λ run p. record p { runs = slice_set p.runs r (record run { is_over = true }) }) p).runs
          → suc (goers (plain.gone wakes c r p).runs) ≤ goers p.runs
      by None is going less = absurd cc
      by (Some run) is going less =
          let fewer = over_goers p.runs r run (record run { is_over = true }) is (not_over run.is_over going) refl in
          omega (arith, fewer, less)
        where
          not_over : (b : Bool) → not b ≡ true → b ≡ false
          not_over false so = refl
          not_over true so = absurd cc

  pub freed_long : (f : ℕ) (p : Plain T (SoloWaker X)) → Long p (plain.freed wakes c f p)
  freed_long f p =
      let q = wake wakes loud f p in
      becomes_long f (abstract.release (task f q)) q ∘ becomes_long f (abstract.wake (task f p)) p

  pub detach_long : (f : ℕ) (p : Plain T (SoloWaker X)) → Long p (plain.detach wakes c f p)
  detach_long f p =
      let left = abstract.detach (task f p) in
      let q = becomes wakes loud f left.task p in
      ended_long f (record left { task = task f q }) None q ∘ becomes_long f left.task p

  -- each call but a spawn and the executor's drop
  pub copy_long : (f : ℕ) (p : Plain T (SoloWaker X)) → Long p (does wakes c (Call.Copy f) p)
  copy_long f p = by (is_granted c.refusal)
    where
      by : (g : Bool) → Long p (if g then answers Made (put f (abstract.copy (task f p)) p) else answers NoMemory p)
      by true = of_still c (put_still c f (abstract.copy (task f p)) p)
      by false = record { futures = refl; runs = refl; going = omega arith; kept = λ few. few }

  pub new_tick_long : (p : Plain T (SoloWaker X)) → Long p (does wakes c Call.NewTick p)
  new_tick_long p = by (is_granted c.refusal)
    where
      by : (g : Bool) → Long p (if g then answers Made p else answers NoMemory p)
      by true = record { futures = refl; runs = refl; going = omega arith; kept = λ few. few }
      by false = record { futures = refl; runs = refl; going = omega arith; kept = λ few. few }

  pub over_long : (r : ℕ) (a b p : Plain T (SoloWaker X)) → Long p a → Long p b
      → Long p (if or (slice_get p.runs r) (λ run. run.is_over) true then a else b)
  over_long r a b p one two = by (or (slice_get p.runs r) (λ run. run.is_over) true)
    where
      by : (o : Bool) → Long p (if o then a else b)
      by true = one
      by false = two

  pub pends_long : (p : Plain T (SoloWaker X)) → Long p (does wakes c Call.Pends p)
  pends_long p = by p.inside
    where
      by : (cs : List (Code T (SoloWaker X))) → Long p (plain.innermost wakes c cs (plain.pends wakes c) p)
      by [] = record { futures = refl; runs = refl; going = omega arith; kept = λ few. few }
      by (Poll f taker ∷ rest) =
          pending_long (abstract.pending_end (task f (record p { inside = rest }))) f taker (record p { inside = rest })
      by (PollOwn r w ∷ rest) = take_long (Run r w) (record p { inside = rest })
      by (Drop f end taker ∷ rest) = record { futures = refl; runs = refl; going = omega arith; kept = λ few. few }
      by (Lose awaiter taker ∷ rest) = record { futures = refl; runs = refl; going = omega arith; kept = λ few. few }
      by (DropOwn r answer ∷ rest) = record { futures = refl; runs = refl; going = omega arith; kept = λ few. few }
      by (Close fs all ∷ rest) = record { futures = refl; runs = refl; going = omega arith; kept = λ few. few }

  pub gives_long : (v : T) (p : Plain T (SoloWaker X)) → Long p (does wakes c (Call.EndsWith v) p)
  gives_long v p = by p.inside
    where
      by : (cs : List (Code T (SoloWaker X))) → Long p (plain.innermost wakes c cs (plain.gives wakes c v) p)
      by [] = record { futures = refl; runs = refl; going = omega arith; kept = λ few. few }
      by (Poll f taker ∷ rest) = record { futures = refl; runs = refl; going = omega arith; kept = λ few. few }
      by (PollOwn r w ∷ rest) = record { futures = refl; runs = refl; going = omega arith; kept = λ few. few }
      by (Drop f end taker ∷ rest) = record { futures = refl; runs = refl; going = omega arith; kept = λ few. few }
      by (Lose awaiter taker ∷ rest) = record { futures = refl; runs = refl; going = omega arith; kept = λ few. few }
      by (DropOwn r answer ∷ rest) = record { futures = refl; runs = refl; going = omega arith; kept = λ few. few }
      by (Close fs all ∷ rest) = record { futures = refl; runs = refl; going = omega arith; kept = λ few. few }

  closed_long : (f : ℕ) (p : Plain T (SoloWaker X)) → Long p (plain.closed wakes c f p)
  closed_long f p =
      let left = abstract.drop_runnable (task f p) in
      called_long left.called (put f left.task p) ∘ of_still c (put_still c f left.task p)

  pub close_long : (fs all : List ℕ) (p : Plain T (SoloWaker X)) → Long p (plain.close wakes c fs all p)
  close_long [] all p =
      let q = each all (plain.freed wakes c) p in
      each_long (filter (is_common Urgent) q.due ++ filter (is_common PlainMark) q.due) (λ d. plain.closed wakes c d.future)
      (λ d. closed_long d.future) (record q { due = [] })
      ∘ (record { futures = refl; runs = refl; going = omega arith; kept = λ few. none_kept } ∘ each_long all (plain.freed wakes c)
      freed_long p)
  close_long (f ∷ fs) all p = changed_long (λ future. record future { is_dropped = true }) f p

  pub ends_long : (p : Plain T (SoloWaker X)) → Long p (does wakes c Call.Ends p)
  ends_long p = by p.inside
    where
      by : (cs : List (Code T (SoloWaker X))) → Long p (plain.innermost wakes c cs (plain.ends wakes c) p)
      by [] = record { futures = refl; runs = refl; going = omega arith; kept = λ few. few }
      by (Poll f taker ∷ rest) = record { futures = refl; runs = refl; going = omega arith; kept = λ few. few }
      by (PollOwn r w ∷ rest) = record { futures = refl; runs = refl; going = omega arith; kept = λ few. few }
      by (Drop f end taker ∷ rest) = dropped_long f end taker (record p { inside = rest })
      by (Lose awaiter taker ∷ rest) = lost_long awaiter taker (record p { inside = rest })
      by (DropOwn r answer ∷ rest) = gone_long r (record p { inside = rest })
      by (Close fs all ∷ rest) = close_long fs all (record p { inside = rest })
