-- For polls_keep_their_wakers.
-- What is done with sleepers and runs names a poll by its own waker, and so does each thing that is done.
use Rattle.std.proofs.Common.{◌≡◌, ℕ, zero, suc, ◌+◌, List, [], ◌∷◌, ◌++◌, length, Bool, true, false, refl, subst, sym, eqb}
use Rattle.std.specs.Prelude.{◌-◌, ◌%◌, Option, Some, None, is_none}
use Rattle.executor_parts.specs.Sleepers.{Sleepers, last_waker, position_of, waker_at, waker_of, without_entry, woken_up}
use Rattle.executor_model.proofs.Types.{Look, First, Second, Move, Reply, Event, ClosingOp, HandleOp, ListOp, Op, Polled}
use Rattle.executor_model.proofs.Types.{QueueOp, RunOp, RunPoll, Section, SleeperOp, Sleeping, Source, Common, Own, Steal}
use Rattle.executor_model.proofs.Types.{StealOp, TableOp, Then, TickOp, TickOrRun, UserOp, Waker, Task, Outside, WakerOp, Hint}
use Rattle.executor_model.specs.ActsOfRuns.{call_by_reference, counted_by, found, kept_by, look_own_by, make_room_by}
use Rattle.executor_model.specs.ActsOfRuns.{make_run_by, next_place, put_refused, queue_at, registered, reschedule_by, run_by}
use Rattle.executor_model.specs.ActsOfRuns.{search_common_by, search_own_by, steal_by, steal_length_by, steal_put_by}
use Rattle.executor_model.specs.ActsOfSleepers.{call_of, copy_sleeper_by, exchange_by, fall_asleep_by, found_by, hand_out_by}
use Rattle.executor_model.specs.ActsOfSleepers.{leave_sleepers_by, make_tick_by, polled_as, look_tick_by, sleep_again_by}
use Rattle.executor_model.specs.World.{World, Ticker, Awake, Asleep, Left, Stage, New, Listed, Ended, Done, own_of, put_own}
use Rattle.executor_model.specs.ActsOfRuns.{steal_take_by, stolen, wake_own, walk, without_first, write}
use Rattle.executor_model.specs.ActsOfSleepers.{sleep_anew_by, sleep_listed_by, sleeper_goes, tell_and_return, wake_up_by}
use Rattle.executor_model.specs.Doing.{act, run_act, search_by_who, steal_act}
use Rattle.executor_model.specs.{Acts.is_copy_refused, Acts.stands_alone, World.run_of}
use Rattle.executor_model.proofs.Wakers.Names.{Ends, Every, Names, Right, RightEntry, RightEvent, RightSection, RightSleep}
use Rattle.executor_model.proofs.Wakers.Names.{RightSlot, Stored, entry-at, every-append, every-push, every-remove, every-set}
use Rattle.executor_model.proofs.Wakers.NamesActs.{appends, calls-waker, closes, copies, copies-awaiter, drains, drops-next}
use Rattle.executor_model.proofs.Wakers.NamesActs.{ends-notify, ends-register, enters, leaks-next, leaks-out, leaves}
use Rattle.executor_model.proofs.Wakers.NamesActs.{lets-go-emptied, looks, looks-again, moves-task, notifies, registers}
use Rattle.executor_model.proofs.Steps.SleepersLists.{freed-same, given_back-same}
use Rattle.executor_model.proofs.Wakers.Names.{every-take, stored-log}
use Rattle.executor_model.proofs.Wakers.NamesActs.{stored-copied, takes, shuts, turns, waker-goes, wakes-next}

-- what a thing to do that names a poll by its place only now needs of its waker
abbrev pub Newly : ℕ → Waker → Hint → World → Op → Type 0
Newly k a h w (Op.Handle (HandleOp.CopyAwaiter f b)) = is_copy_refused h w b ≡ false → Right k a (length w.trace) b
Newly k a h w _ = Unit {0}

module _ (k : ℕ) (a : Waker) where
  abbrev Keeps : World → Op → Done → Type 0
  Keeps w o d = Stored k a w → Names k a o → Ends k a d

  -- the same is stored
  same-store : (w v : World) → v.awaiters ≡ w.awaiters → v.sleepers.wakers ≡ w.sleepers.wakers → v.trace ≡ w.trace →
      Stored k a w → Stored k a v
  same-store w v x y z h = record {
    awaiters = subst (Every (RightSlot k a)) (sym x) h.awaiters;
    sleepers = subst (Every (RightEntry k a)) (sym y) h.sleepers;
    told = subst (Every (RightEvent k a)) (sym z) h.told;
  }

  -- sleepers

  exchanges : (b : Bool) (w : World) → Stored k a w → Ends k a (exchange_by b w)
  exchanges true w h = (h, tt)
  exchanges false w h = (same-store w _ refl refl refl h, (tt, tt))

  calls-one : (o : Option Sleeping) → RightSleep k a o → Every (Names k a) (call_of o)
  calls-one None r = tt
  calls-one (Some s) r = (r, tt)

  hands-out : (b : Bool) (w : World) → Stored k a w → Ends k a (hand_out_by b (last_waker w.sleepers.wakers) w)
  hands-out false w h = (h, tt)
  hands-out true w h = (
    record {
      awaiters = h.awaiters;
      sleepers = every-take (RightEntry k a) (length w.sleepers.wakers - 1) w.sleepers.wakers h.sleepers;
      told = h.told;
    },
    calls-one (last_waker w.sleepers.wakers)
        (entry-at k a (Some (length w.sleepers.wakers - 1)) w.sleepers.wakers h.sleepers),
  )

  makes-tick : (b : Bool) (w : World) → Stored k a w → Ends k a (make_tick_by b w)
  makes-tick true w h = (h, (tt, tt))
  makes-tick false w h = (same-store w _ refl refl refl h, (tt, tt))

  finds : (x : Ticker) (who : TickOrRun) (more : List Op) → Every (Names k a) more → Every (Names k a) (found_by x who more)
  finds Awake who more n = n
  finds (Asleep m) who more n = (tt, n)
  finds Left who more n = n

  searches : (look : Look) (x : Ticker) (q : List ℕ) (w : World) (s : Sleeping) → Right k a s.poll s.waker → Stored k a w →
      Ends k a (look_tick_by x w look q s)
  searches (First mark) x [] w s r h = (h, (r, tt))
  searches (Second mark) x [] w s r h = (h, (r, tt))
  searches look x (f ∷ rest) w s r h = (same-store w _ refl refl refl h, (finds x s.who _ (tt, (tt, (tt, tt)))))

  copies-sleeper : (b : Bool) (w : World) (s : Sleeping) → Right k a s.poll s.waker → Stored k a w →
      Ends k a (copy_sleeper_by b w s)
  copies-sleeper true w s r h = (h, (tt, tt))
  copies-sleeper false w s r h = (stored-copied k a w s.waker h, (r, tt))

  adds : (w : World) (n : ℕ) (s : Sleeping) → Right k a s.poll s.waker → Stored k a w →
      Every (RightEntry k a) (w.sleepers.wakers ++ (n, s) ∷ [])
  adds w n s r h = every-push (RightEntry k a) w.sleepers.wakers (n, s) h.sleepers r

  sleeps-anew : (b : Bool) (w : World) (s : Sleeping) → Right k a s.poll s.waker → Stored k a w →
      Ends k a (sleep_anew_by b w s)
  sleeps-anew true w s r h = (record { awaiters = h.awaiters; sleepers = adds w _ s r h; told = h.told }, (r, tt))
  sleeps-anew false w s r h = (h, (r, (tt, tt)))

  sleeps-listed : (b : Bool) (w : World) (n : ℕ) (s : Sleeping) → Right k a s.poll s.waker → Stored k a w →
      Ends k a (sleep_listed_by b w n s)
  sleeps-listed true w n s r h = (record { awaiters = h.awaiters; sleepers = adds w n s r h; told = h.told }, (r, tt))
  sleeps-listed false w n s r h = (h, (r, (tt, tt)))

  one-goes : (o : Option Sleeping) → Every (Names k a) (sleeper_goes o)
  one-goes None = tt
  one-goes (Some s) = waker-goes k a s.waker

  sleeps-again : (o : Option ℕ) (w : World) (n : ℕ) (s : Sleeping) → Right k a s.poll s.waker → Stored k a w →
      Ends k a (sleep_again_by o w n s)
  sleeps-again None w n s r h = sleeps-listed _ w n s r h
  sleeps-again (Some at) w n s r h = (
    record {
      awaiters = h.awaiters;
      sleepers = every-set (RightEntry k a) at (n, s) w.sleepers.wakers h.sleepers r;
      told = h.told;
    },
    every-append (Names k a) (sleeper_goes (waker_at (Some at) w.sleepers.wakers)) _
        (one-goes (waker_at (Some at) w.sleepers.wakers)) (tt, tt),
  )

  falls-asleep : (x : Ticker) (w : World) (s : Sleeping) → Right k a s.poll s.waker → Stored k a w →
      Ends k a (fall_asleep_by x w s)
  falls-asleep Awake w s r h = sleeps-anew _ w s r h
  falls-asleep (Asleep n) w s r h = sleeps-again _ w n s r h
  falls-asleep Left w s r h = (h, (r, (tt, tt)))

  without-one : (o : Option ℕ) (s : Sleepers Sleeping) → Every (RightEntry k a) s.wakers →
      Every (RightEntry k a) (without_entry o s).wakers
  without-one None s h = h
  without-one (Some at) s h = every-remove (RightEntry k a) at s.wakers h

  woken : (n : ℕ) (s : Sleepers Sleeping) → Every (RightEntry k a) s.wakers → Every (RightEntry k a) (woken_up n s).wakers
  woken n s h = subst (Every (RightEntry k a)) (sym (freed-same n (without_entry (position_of n s.wakers) s)))
      (without-one (position_of n s.wakers) s h)

  wakes-up : (x : Ticker) (w : World) (who : TickOrRun) → Stored k a w → Ends k a (wake_up_by x w who)
  wakes-up Awake w who h = (h, tt)
  wakes-up (Asleep n) w who h = (
    record { awaiters = h.awaiters; sleepers = woken n w.sleepers h.sleepers; told = h.told },
    one-goes (waker_of n w.sleepers.wakers),
  )
  wakes-up Left w who h = (h, tt)

  tells-and-returns : (b : Bool) → Every (Names k a) (tell_and_return b)
  tells-and-returns true = (tt, (tt, tt))
  tells-and-returns false = (tt, tt)

  leaves-sleepers : (x : Ticker) (w : World) (who : TickOrRun) → Stored k a w → Ends k a (leave_sleepers_by x w who)
  leaves-sleepers (Asleep n) w who h = (
    record { awaiters = h.awaiters; sleepers = woken n w.sleepers h.sleepers; told = h.told },
    every-append (Names k a) (sleeper_goes (waker_of n w.sleepers.wakers)) _ (one-goes (waker_of n w.sleepers.wakers))
        (tells-and-returns (is_none (waker_of n w.sleepers.wakers))),
  )
  leaves-sleepers Awake w who h = (same-store w _ refl (given_back-same w.sleepers) refl h, tt)
  leaves-sleepers Left w who h = (h, tt)

  -- runs

  runs-found : (b : Bool) (w : World) (x : RunPoll) (f : ℕ) → Right k a x.poll x.waker → Stored k a w →
      Ends k a (run_by b w x f)
  runs-found true w x f r h = (same-store w _ refl refl refl h, (tt, (r, tt)))
  runs-found false w x f r h = (same-store w _ refl refl refl h, (tt, (r, tt)))

  counts : (b : Bool) (w : World) (x : RunPoll) (f : ℕ) → Right k a x.poll x.waker → Stored k a w →
      Ends k a (counted_by b w x f)
  counts true w x f r h = (same-store w _ refl refl refl h, (r, tt))
  counts false w x f r h = runs-found _ _ x f r (record { awaiters = h.awaiters; sleepers = h.sleepers; told = h.told })

  has-found : (w : World) (x : RunPoll) (f : ℕ) → Right k a x.poll x.waker → Stored k a w → Ends k a (found w x f)
  has-found w x f r h =
      let c = counts (eqb ((run_of w x.run).counted + 1) 64) w x f r h in (
        c.0,
        every-append (Names k a) (found_by (run_of w x.run).place (TickOrRun.Run x.run) (Op.Sleeper SleeperOp.ExchangeFlag ∷ [])) _
            (finds (run_of w x.run).place (TickOrRun.Run x.run) _ (tt, tt)) c.1,
      )

  has-stolen : (t : Then) (w : World) (x : RunPoll) → Right k a x.poll x.waker → Stored k a w → Ends k a (stolen t w x)
  has-stolen (Then.Found f) w x r h = has-found w x f r h
  has-stolen (Then.StealPlain f) w x r h = (h, (r, tt))
  has-stolen (Then.Run f) w x r h = runs-found _ w x f r h
  has-stolen (Then.Walk at left) w x r h = (h, (r, tt))

  walks : (x : RunPoll) (qs : List ℕ) (at left : ℕ) → Right k a x.poll x.waker → Every (Names k a) (walk x qs at left)
  walks x qs at zero r = (tt, (r, tt))
  walks x qs at (suc left) r = by (eqb (queue_at qs at) x.run) (walks x qs (next_place qs at) left r)
    where
      by : (b : Bool) → Every (Names k a) (walk x qs (next_place qs at) left) →
          Every (Names k a) (let h : List Op = elim b [
            | true ↦ walk x qs (next_place qs at) left
            | false ↦ Op.Steal (StealOp.Length (record {
              poll = x;
              from = Own (queue_at qs at);
              then = Then.Walk (next_place qs at) left;
            })) ∷ []
          ] in h)
      by true n = n
      by false n = (r, tt)

  first-out : (from : Source) (w : World) (rest : List ℕ) → Stored k a w → Stored k a (without_first w from rest)
  first-out (Common mark) w rest h = same-store w _ refl refl refl h
  first-out (Own r) w rest h = same-store w _ refl refl refl h

  steals-length : (n : ℕ) (w : World) (s : Steal) → Right k a s.poll.poll s.poll.waker → Stored k a w →
      Ends k a (steal_length_by n w s)
  steals-length zero w s r h = has-stolen s.then w s.poll r h
  steals-length (suc n) w s r h = (h, (r, tt))

  steals-more : (n : ℕ) (w : World) (s : Steal) → Right k a s.poll.poll s.poll.waker → Stored k a w →
      Ends k a (steal_by n w s)
  steals-more zero w s r h = has-stolen s.then w s.poll r h
  steals-more (suc n) w s r h = (h, (r, tt))

  steals-first : (q : List ℕ) (w : World) (s : Steal) (more : ℕ) → Right k a s.poll.poll s.poll.waker → Stored k a w →
      Ends k a (steal_take_by q w s more)
  steals-first [] w s more r h = has-stolen s.then w s.poll r h
  steals-first (f ∷ rest) w s more r h = (first-out s.from w rest h, (r, tt))

  has-refused : (t : Then) (w : World) (x : RunPoll) (f : ℕ) → Right k a x.poll x.waker → Stored k a w →
      Ends k a (put_refused t w x f)
  has-refused (Then.Walk at left) w x f r h = (h, (tt, (tt, (r, tt))))
  has-refused t w x f r h = let e = has-stolen t w x r h in (e.0, (tt, e.1))

  steals-put : (b : Bool) (p : ℕ) (w : World) (s : Steal) (more f : ℕ) → Right k a s.poll.poll s.poll.waker →
      Stored k a w → Ends k a (steal_put_by b p w s more f)
  steals-put true p w s more f r h =
      steals-more more (kept_by p w s.poll.run f) s r
      (stored-log k a (put_own w s.poll.run (own_of w s.poll.run ++ f ∷ [])) (Event.Kept p f s.poll.run)
      (same-store w _ refl refl refl h) tt)
  steals-put false p w s more f r h = has-refused s.then w s.poll f r h

  steals : (p : ℕ) (o : StealOp) (w : World) → Keeps w (Op.Steal o) (steal_act p o w)
  steals p (StealOp.Length s) w h r = steals-length _ w s r h
  steals p (StealOp.OwnLength s n) w h r = steals-more _ w s r h
  steals p (StealOp.Take s more) w h r = steals-first _ w s more r h
  steals p (StealOp.Put s more f) w h r = steals-put _ p w s more f r h

  makes-run : (b : Bool) (w : World) → Stored k a w → Ends k a (make_run_by b w)
  makes-run true w h = (h, (tt, (tt, (tt, tt))))
  makes-run false w h = (same-store w _ refl refl refl h, (tt, (tt, tt)))

  is-registered : (t : Stage) (w : World) (r : ℕ) → Stored k a w → Stored k a (registered t w r)
  is-registered New w r h = same-store w _ refl refl refl h
  is-registered Listed w r h = h
  is-registered Ended w r h = h

  writes : (c : Hint) (s : Section) (w : World) → RightSection k a s → Stored k a w → Ends k a (write c s w)
  writes c Section.MakeRun w r h = makes-run c.refused w h
  writes c (Section.Register x) w r h = (is-registered _ w x.run h, (tt, (r, tt)))
  writes c (Section.Unregister n b) w r h = (same-store w _ refl refl refl h, (tt, (tt, tt)))

  searches-own : (q : List ℕ) (w : World) (x : RunPoll) → Right k a x.poll x.waker → Stored k a w →
      Ends k a (search_own_by q w x)
  searches-own [] w x r h = (h, (r, tt))
  searches-own (f ∷ rest) w x r h = has-found (put_own w x.run rest) x f r (same-store w _ refl refl refl h)

  searches-who : (who : TickOrRun) (p : ℕ) (w : World) (s : Sleeping) → Right k a s.poll s.waker → Stored k a w →
      Ends k a (search_by_who who p w s)
  searches-who (TickOrRun.Tick t) p w s r h = (turns k a p w h, (r, tt))
  searches-who (TickOrRun.Run n) p w s r h =
      searches-own _ w (record { run = n; waker = s.waker; poll = s.poll }) r h

  searches-common : (look : Look) (q : List ℕ) (w : World) (x : RunPoll) → Right k a x.poll x.waker → Stored k a w →
      Ends k a (search_common_by q w x look)
  searches-common (First mark) [] w x r h = (h, (r, tt))
  searches-common (Second mark) [] w x r h = (h, (r, tt))
  searches-common look (f ∷ rest) w x r h = (same-store w _ refl refl refl h, (r, tt))

  looks-own : (q : List ℕ) (w : World) (x : RunPoll) (at left : ℕ) → Right k a x.poll x.waker → Stored k a w →
      Ends k a (look_own_by q w x at left)
  looks-own [] w x at left r h = (h, walks x w.listed at left r)
  looks-own (f ∷ rest) w x at left r h =
      let e = has-found (put_own w x.run rest) x f r (same-store w _ refl refl refl h) in (e.0, (tt, e.1))

  makes-room : (b : Bool) (w : World) → Stored k a w → Ends k a (make_room_by b w)
  makes-room true w h = (h, (tt, tt))
  makes-room false w h = (same-store w _ refl refl refl h, (tt, tt))

  calls-by-reference : (p : ℕ) (w : World) (b : Waker) → Stored k a w → Ends k a (call_by_reference p w b)
  calls-by-reference p w (Task g) h = moves-task k a true Move.WakeByReference p w g h
  calls-by-reference p w (Outside y) h = (h, (tt, tt))

  wakes-own : (p : ℕ) (w : World) (x : RunPoll) → Right k a x.poll x.waker → Stored k a w → Ends k a (wake_own p w x)
  wakes-own p w x r h =
      let e = calls-by-reference p _ x.waker
      (stored-log k a w (Event.WakerCalled p (Polled.Run x.run) x.poll x.waker) h r) in
      (e.0, every-append (Names k a) _ _ e.1 (tt, tt))

  reschedules : (q : List ℕ) (w : World) (n : ℕ) (b : Reply) → Stored k a w → Ends k a (reschedule_by q w n b)
  reschedules [] w n b h = (h, (tt, (tt, tt)))
  reschedules (f ∷ rest) w n b h = (same-store w _ refl refl refl h, (tt, (tt, tt)))

  runs : (p : ℕ) (c : Hint) (o : RunOp) (w : World) → Keeps w (Op.Run o) (run_act p c o w)
  runs p c RunOp.MakeRoom w h r = makes-room c.refused w h
  runs p c RunOp.ReturnRoom w h r = (same-store w _ refl (given_back-same w.sleepers) refl h, tt)
  runs p c (RunOp.TakeTurn x) w h r = (turns k a p w h, (r, tt))
  runs p c (RunOp.SearchCommon x look) w h r = searches-common look _ w x r h
  runs p c (RunOp.LookOwn x at left) w h r = looks-own _ w x at left r h
  runs p c (RunOp.WakeOwn x) w h r = wakes-own p w x r h
  runs p c (RunOp.Reschedule n b) w h r = reschedules _ w n b h

  users : (p : ℕ) (c : Hint) (o : UserOp) (w : World) → Keeps w (Op.User o) (act p c (Op.User o) w)
  users p c (UserOp.BeginDrop f) w h r = (stored-log k a w (Event.Dropped p f) h tt, (tt, (tt, tt)))
  users p c (UserOp.BeginDropOutput f) w h r = (stored-log k a w (Event.OutputDropped p f) h tt, (tt, tt))
  users p c (UserOp.PollOwn x) w h r = (h, (r, tt))
  users p c _ w h r = (h, (tt, tt))

  -- each thing that is done
  pub names-act : (p : ℕ) (c : Hint) (o : Op) (w : World) → Newly k a c w o → Keeps w o (act p c o w)
  names-act p c (Op.Move m f) w n h r = moves-task k a (stands_alone m) m p w f h
  names-act p c (Op.Table (TableOp.Enter mark)) w n h r = enters k a _ _ _ p w h
  names-act p c (Op.Table TableOp.LookAtTable) w n h r = (h, (tt, tt))
  names-act p c (Op.Table (TableOp.TakeToPoll f)) w n h r = (same-store w _ refl refl refl h, (tt, tt))
  names-act p c (Op.Table (TableOp.PutBack f)) w n h r = (same-store w _ refl refl refl h, (tt, tt))
  names-act p c (Op.Table (TableOp.TakeToDrop f)) w n h r = (same-store w _ refl refl refl h, (tt, tt))
  names-act p c (Op.Table (TableOp.LeaveTable f)) w n h r = leaves k a _ w f h
  names-act p c (Op.Queue QueueOp.TakeTurn) w n h r = (turns k a p w h, (tt, tt))
  names-act p c (Op.Queue (QueueOp.Take look)) w n h r = takes k a look _ w h
  names-act p c (Op.Queue (QueueOp.Append f)) w n h r = appends k a _ w _ f h
  names-act p c (Op.User o) w n h r = users p c o w h r
  names-act p c (Op.Waker (WakerOp.CopyWaker f held)) w n h r = copies k a _ w f held h
  names-act p c (Op.Waker (WakerOp.CallAwaiter f b j)) w n h r = calls-waker k a p w (Polled.Handle f) b j r h
  names-act p c (Op.Handle (HandleOp.Look f b)) w n h r = looks k a _ p w f b _ h
  names-act p c (Op.Handle (HandleOp.CopyAwaiter f b)) w n h r = copies-awaiter k a _ p w f b n h
  names-act p c (Op.Handle (HandleOp.Register f b j)) w n h r = registers k a _ w f b j r h
  names-act p c (Op.Handle (HandleOp.EndRegister f b j)) w n h r = ends-register k a _ w f b j r h
  names-act p c (Op.Handle (HandleOp.LookAgain f)) w n h r = looks-again k a _ p w f _ h
  names-act p c (Op.Handle (HandleOp.Notify f mine)) w n h r = notifies k a _ w f mine h
  names-act p c (Op.Handle (HandleOp.EndNotify f mine)) w n h r = ends-notify k a c w f mine h
  names-act p c (Op.Handle (HandleOp.LetGo f)) w n h r = lets-go-emptied k a _ w f h
  names-act p c (Op.Sleeper SleeperOp.ExchangeFlag) w n h r = exchanges _ w h
  names-act p c (Op.Sleeper SleeperOp.HandOut) w n h r = hands-out _ w h
  names-act p c (Op.Sleeper (SleeperOp.CallSleeper s)) w n h r = calls-waker k a p w (polled_as s.who) s.waker s.poll r h
  names-act p c (Op.Tick TickOp.MakeTick) w n h r = makes-tick _ w h
  names-act p c (Op.Tick (TickOp.Search s)) w n h r = searches-who s.who p w s r h
  names-act p c (Op.Tick (TickOp.Look s look)) w n h r = searches look _ _ w s r h
  names-act p c (Op.Tick (TickOp.CopyWaker s)) w n h r = copies-sleeper _ w s r h
  names-act p c (Op.Tick (TickOp.FallAsleep s)) w n h r = falls-asleep _ w s r h
  names-act p c (Op.Tick (TickOp.WakeUp t)) w n h r = wakes-up _ w t h
  names-act p c (Op.Tick (TickOp.Leave t)) w n h r = leaves-sleepers _ w t h
  names-act p c (Op.List (ListOp.LockWrite s)) w n h r = (same-store w _ refl refl refl h, (r, tt))
  names-act p c (Op.List (ListOp.Write s)) w n h r = writes c s w r h
  names-act p c (Op.List ListOp.UnlockWrite) w n h r = (same-store w _ refl refl refl h, tt)
  names-act p c (Op.List (ListOp.LockRead x)) w n h r =
      (same-store w _ refl refl refl h, (walks x w.listed (c.start % length w.listed) (length w.listed) r))
  names-act p c (Op.List ListOp.UnlockRead) w n h r = (same-store w _ refl refl refl h, tt)
  names-act p c (Op.Steal o) w n h r = steals p o w h r
  names-act p c (Op.Run o) w n h r = runs p c o w h r
  names-act p c (Op.Closing ClosingOp.TakeOut) w n h r = (same-store w _ refl refl refl h, (closes k a w.table w.waking))
  names-act p c (Op.Closing ClosingOp.DropNext) w n h r = drops-next k a _ p w h
  names-act p c (Op.Closing ClosingOp.WakeNext) w n h r = wakes-next k a _ p w h
  names-act p c (Op.Closing (ClosingOp.Close mark)) w n h r = shuts k a mark w h
  names-act p c (Op.Closing (ClosingOp.Drain mark)) w n h r = drains k a mark _ p w h
  names-act p c (Op.Closing ClosingOp.LeakOut) w n h r = leaks-out k a _ w h
  names-act p c (Op.Closing ClosingOp.LeakNext) w n h r = leaks-next k a _ _ p w h
  names-act p c (Op.End b held) w n h r = (stored-log k a w (Event.CallEnded p b) h tt, tt)
