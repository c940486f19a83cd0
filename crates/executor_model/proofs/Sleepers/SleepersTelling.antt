-- For sleepers_are_told.
-- Where a Runnable stands in one of the executor's queues and a tick or run sleeps, a sleeper is notified or will be told.
use Rattle.std.proofs.Common.{◌≡◌, ℕ, zero, suc, ◌+◌, ◌<◌, ◌≤◌, List, [], ◌∷◌, ◌++◌, length, take, Bool, true, false, ltb, eqb}
use Rattle.std.proofs.Common.{refl, sym, ap, subst, inl, inr, ◌⊎◌, ⊎_elim, arith}
use Rattle.std.proofs.lemmas.List.{length-set, length-take-le}
use Rattle.std.specs.Prelude.{◌-◌, Option, Some, None, is_none, remove, slice_get}
use Rattle.std.{proofs.lemmas.Bool.Decides.nat_tests, proofs.lemmas.List.Edits.length-remove}
use Rattle.executor_parts.specs.Sleepers.{Sleepers, last_waker, waker_in, waker_at, waker_of, position_of, without_entry, freed}
use Rattle.executor_parts.{specs.Marks.other, specs.Sleepers.woken_up}
use Rattle.executor_model.proofs.Types.{Plain, Urgent, Look, Mark, First, Second, Call, Answer, Event, Op, QueueOp, ListOp}
use Rattle.executor_model.proofs.Types.{RunOp, RunPoll, Section, Sleeping, Steal, StealOp, Then, SleeperOp, TickOp, UserOp}
use Rattle.executor_model.proofs.Types.{Waker, Task, Outside, Hint, UserEnd, TickOrRun}
use Rattle.executor_model.specs.World.{queue_of, World, Ticker, Awake, Asleep, Left, Stage, New, Listed, Ended, Done, done, log}
use Rattle.executor_model.specs.ActsOfSleepers.{exchange_by, found_by, hand_out_by, call_sleeper, make_tick_by, polled_as}
use Rattle.executor_model.specs.ActsOfSleepers.{look_tick_by, copy_sleeper_by, sleep_anew_by, sleeper_goes, sleep_listed_by}
use Rattle.executor_model.specs.ActsOfSleepers.{sleep_again_by, fall_asleep_by, wake_up_by, given_back, tell_and_return}
use Rattle.executor_model.specs.ActsOfRuns.{counted_by, found, kept_by, make_room_by, make_run_by, registered, return_room}
use Rattle.executor_model.specs.ActsOfRuns.{search_common_by, search_own_by, steal_by, steal_length_by, steal_put_by}
use Rattle.executor_model.specs.ActsOfRuns.{put_refused, steal_take_by, stolen}
use Rattle.executor_model.specs.Doing.{act, list_act, search_by_who, sleeper_act, steal_act, tick_act}
use Rattle.executor_model.specs.Steps.{accepts, begun, future_of, react, with_future, kept}
use Rattle.executor_model.specs.SleepersTold.{tells_of, tells_steal, tells_then, tells_look}
use Rattle.executor_model.specs.{Queues.Queues, Queues.queue_in, World.put_own, World.run_of, Acts.mark_in, Acts.append_by}
use Rattle.executor_model.specs.{Acts.copied, ActsOfSleepers.leave_sleepers_by, Weights.weigh, SleepersAgree.hands_of}
use Rattle.executor_model.proofs.Sleepers.SleepersAway.{sleepers_seen, sleepers_seen-run, Away, away-act, away-call}
use Rattle.executor_model.proofs.{Steps.Lists.weigh-append, Steps.SleepersLists.position-within}
use Rattle.executor_model.proofs.{Sleepers.SleepersAway.is_seen_asleep, Sleepers.SleepersWakingUp.wakes_up_of}

-- what is used of the sleepers, where so many have still to hand out
pub record Ground (w : World) (a : ℕ) : Type 0 where
  pub flag : w.notified ≡ true → (w.sleepers.count ≡ 0) ⊎ ((length w.sleepers.wakers < w.sleepers.count) ⊎ (1 ≤ a))
  pub listed : length w.sleepers.wakers ≤ w.sleepers.count

-- a look at an empty queue: the queue of this mark is that one, or the next look will be at it
looked-first : (m n : Mark) (w : World) → (queue_of w n).items ≡ [] →
    (length (queue_of w m).items ≡ 0) ⊎ (tells_look m (Second (other n)) ≡ 1)
looked-first Urgent Urgent w e = inl (ap length e)
looked-first Urgent Plain w e = inr refl
looked-first Plain Urgent w e = inr refl
looked-first Plain Plain w e = inl (ap length e)

-- and so it is of a second look, which told nothing of the other queue
looked-second : (m n : Mark) (w : World) → (queue_of w n).items ≡ [] →
    (length (queue_of w m).items ≡ 0) ⊎ (tells_look m (Second n) ≡ 0)
looked-second Urgent Urgent w e = inl (ap length e)
looked-second Urgent Plain w e = inr refl
looked-second Plain Urgent w e = inr refl
looked-second Plain Plain w e = inl (ap length e)

-- of the queue of each mark
module _ (mark : Mark) where
  -- so it is where so many have still to tell
  pub record Told (w : World) (i : ℕ) : Type 0 where
    pub told : 1 ≤ length (queue_of w mark).items → 1 ≤ w.sleepers.count → (length w.sleepers.wakers < w.sleepers.count) ⊎ (1 ≤ i)

  -- it stays so where old is done, beside others who have still to tell k times, and to hand out m times; beside who gets
  -- up there is one
  pub record Tells (w : World) (old : List Op) (d : Done) : Type 0 where
    pub on : (i j k a m : ℕ) → i ≡ weigh (tells_of mark) old + k → j ≡ weigh (tells_of mark) d.next + k → a ≡ weigh hands_of old + m →
        m ≤ k → weigh wakes_up_of old ≤ k → Ground w a → Told w i → Told d.world j

  -- the sleepers stay, and the queue of this mark gets no longer
  same-told : (w v : World) (i j : ℕ) → sleepers_seen w ≡ sleepers_seen v →
      length (queue_of v mark).items ≤ length (queue_of w mark).items → i ≤ j → Told w i → Told v j
  same-told w v i j e q l t =
      let c : w.sleepers.count ≡ v.sleepers.count = ap (λ b. b.sleepers.count) e in
      let n : length w.sleepers.wakers ≡ length v.sleepers.wakers = ap (λ b. length b.sleepers.wakers) e in
      grind arith

  -- they stay, the queue of this mark gets no longer, and as many tell as before
  pub steady : (w v : World) (old next : List Op) → sleepers_seen w ≡ sleepers_seen v →
      length (queue_of v mark).items ≤ length (queue_of w mark).items →
      weigh (tells_of mark) old ≤ weigh (tells_of mark) next → Tells w old (done v next)
  steady w v old next e q z =
      record { on = λ i j k a m x y u l r g t. same-told w v i j e q (omega (arith, x, y, z)) t }

  pub quiet : (w v : World) (old next : List Op) → sleepers_seen w ≡ sleepers_seen v →
      length (queue_of v mark).items ≤ length (queue_of w mark).items →
      weigh (tells_of mark) old ≡ 0 → Tells w old (done v next)
  quiet w v old next e q z = steady w v old next e q (omega (arith, z))

  -- nothing stands there
  none-there : (w v : World) (old next : List Op) → length (queue_of v mark).items ≡ 0 → Tells w old (done v next)
  none-there w v old next z =
      record { on = λ i j k a m x y u l r g t. record { told = λ p q. absurd (omega (arith, p, z)) } }

  -- somebody tells next
  loud : (w v : World) (old next : List Op) → 1 ≤ weigh (tells_of mark) next → Tells w old (done v next)
  loud w v old next z =
      record { on = λ i j k a m x y u l r g t. record { told = λ p q. let b : 1 ≤ j = omega (arith, y, z) in inr b } }

  tells-append : (b : Bool) (w : World) (n : Mark) (f : ℕ) → Tells w (Op.Queue (QueueOp.Append f) ∷ []) (append_by b w n f)
  tells-append true w n f = loud w _ _ _ (omega arith)
  tells-append false w n f = quiet w _ _ _ refl (omega arith) refl

  tells-exchange : (b : Bool) (w : World) → w.notified ≡ b →
      Tells w (Op.Sleeper SleeperOp.ExchangeFlag ∷ []) (exchange_by b w)
  tells-exchange true w e = record { on = λ i j k a m x y u l r g t. grind arith }
  tells-exchange false w e = loud w _ _ _ (omega arith)

  no-last : (ws : List (ℕ × Sleeping)) → last_waker ws ≡ None → length ws ≡ 0
  no-last [] e = refl
  no-last (x ∷ xs) e = absurd
      (by x xs (subst (λ (n : ℕ). waker_in (slice_get (x ∷ xs) n) ≡ None)
      (let less : suc (length xs) - 1 ≡ length xs = omega arith in less) e))
    where
      by : (x : ℕ × Sleeping) (xs : List (ℕ × Sleeping)) → waker_in (slice_get (x ∷ xs) (length xs)) ≡ None → ⊥
      by x [] q = cc
      by x (y ∷ ys) q = by y ys q

  tells-hand_out : (b : Bool) (o : Option Sleeping) (w : World) → eqb (length w.sleepers.wakers) w.sleepers.count ≡ b →
      last_waker w.sleepers.wakers ≡ o → Tells w (Op.Sleeper SleeperOp.HandOut ∷ []) (hand_out_by b o w)
  tells-hand_out false o w e q = record { on = λ i j k a m x y u l r g t. grind (arith, nat_tests) }
  tells-hand_out true None w e q = let z = no-last w.sleepers.wakers q in
      record { on = λ i j k a m x y u l r g t. grind (arith, nat_tests) }
  tells-hand_out true (Some s) w e q = record { on = λ i j k a m x y u l r g t. taken w i j e q }
    where
      -- one less than all that sleep
      taken : (w : World) (i j : ℕ) → eqb (length w.sleepers.wakers) w.sleepers.count ≡ true →
          last_waker w.sleepers.wakers ≡ Some s → Told (hand_out_by true (Some s) w).world j
      taken w i j e q =
          record { told = λ p c. inl (shorter w.sleepers.wakers w.sleepers.count (grind (arith, nat_tests)) c) }
        where
          shorter : (ws : List (ℕ × Sleeping)) (n : ℕ) → length ws ≡ n → 1 ≤ n → length (take (length ws - 1) ws) < n
          shorter ws n e c = omega (arith, e, c, length-take-le (length ws - 1) ws)

  tells-sleeper : (p : ℕ) (o : SleeperOp) (w : World) → Tells w (Op.Sleeper o ∷ []) (sleeper_act p o w)
  tells-sleeper p SleeperOp.ExchangeFlag w = tells-exchange _ w refl
  tells-sleeper p SleeperOp.HandOut w = tells-hand_out _ _ w refl refl
  tells-sleeper p (SleeperOp.CallSleeper s) w = let a = away-call p w (polled_as s.who) s.waker s.poll in
      quiet w (call_sleeper p w s).world _ (call_sleeper p w s).next a.sleepers_seen (a.queue mark) refl

  -- ticks and runs

  tells-make : (b : Bool) (w : World) → Tells w (Op.Tick TickOp.MakeTick ∷ []) (make_tick_by b w)
  tells-make true w = quiet w _ _ _ refl (omega arith) refl
  tells-make false w = record { on = λ i j k a m x y u l r g t. record { told = λ p q. grind arith } }

  tells-search : (look : Look) (x : Ticker) (q : List ℕ) (w : World) (s : Sleeping) → (queue_of w (mark_in look)).items ≡ q →
      Tells w (Op.Tick (TickOp.Look s look) ∷ []) (look_tick_by x w look q s)
  tells-search (First n) x [] w s e = ⊎_elim (none-there w w _ _) (λ z. loud w _ _ _ (omega (arith, z)))
      (looked-first mark n w e)
  tells-search (Second n) x [] w s e = ⊎_elim (none-there w w _ _)
      (λ z. quiet w w _ _ refl (omega arith) (omega (arith, z))) (looked-second mark n w e)
  tells-search look Awake (f ∷ rest) w s e = loud w _ _ _ (omega arith)
  tells-search look (Asleep n) (f ∷ rest) w s e = loud w _ _ _ (omega arith)
  tells-search look Left (f ∷ rest) w s e = loud w _ _ _ (omega arith)

  tells-copied : (a : Waker) (w : World) →
      (sleepers_seen w ≡ sleepers_seen (copied w a)) × (length (queue_of (copied w a) mark).items ≤ length (queue_of w mark).items)
  tells-copied (Task g) w = (refl, omega arith)
  tells-copied (Outside x) w = (refl, omega arith)

  tells-copy : (b : Bool) (w : World) (s : Sleeping) →
      Tells w (Op.Tick (TickOp.CopyWaker s) ∷ []) (copy_sleeper_by b w s)
  tells-copy true w s = quiet w _ _ _ refl (omega arith) refl
  tells-copy false w s = let c = tells-copied s.waker w in quiet w _ _ _ c.0 c.1 refl

  tells-anew : (b : Bool) (w : World) (s : Sleeping) → Tells w (Op.Tick (TickOp.FallAsleep s) ∷ []) (sleep_anew_by b w s)
  tells-anew true w s = loud w _ _ _ (omega arith)
  tells-anew false w s = quiet w _ _ _ refl (omega arith) refl

  tells-listed : (b : Bool) (w : World) (n : ℕ) (s : Sleeping) →
      Tells w (Op.Tick (TickOp.FallAsleep s) ∷ []) (sleep_listed_by b w n s)
  tells-listed true w n s = loud w _ _ _ (omega arith)
  tells-listed false w n s = quiet w _ _ _ refl (omega arith) refl

  tells-again : (o : Option ℕ) (w : World) (n : ℕ) (s : Sleeping) →
      Tells w (Op.Tick (TickOp.FallAsleep s) ∷ []) (sleep_again_by o w n s)
  tells-again None w n s = tells-listed _ w n s
  tells-again (Some at) w n s =
      record {
        on = λ i j k a m x y u l r g t. let z = length-set w.sleepers.wakers at (n, s) in
            record { told = λ p q. grind arith };
      }

  tells-sleep : (x : Ticker) (w : World) (s : Sleeping) → Tells w (Op.Tick (TickOp.FallAsleep s) ∷ []) (fall_asleep_by x w s)
  tells-sleep Awake w s = tells-anew _ w s
  tells-sleep (Asleep n) w s = tells-again _ w n s
  tells-sleep Left w s = quiet w _ _ _ refl (omega arith) refl

  tells-up : (x : Ticker) (w : World) (t : TickOrRun) → Tells w (Op.Tick (TickOp.WakeUp t) ∷ []) (wake_up_by x w t)
  tells-up x w t = record {
    on = λ i j k a m y z u l r g h. record { told = λ p q. let b : 1 ≤ j = omega (arith, z, r) in inr b };
  }

  -- one with a waker leaves: it, and its waker
  left : (n at : ℕ) (s : Sleepers Sleeping) → position_of n s.wakers ≡ Some at → length s.wakers ≤ s.count →
      ((woken_up n s).count + 1 ≡ s.count) × (length (woken_up n s).wakers + 1 ≡ length s.wakers)
  left n at s e l = subst (λ (o : Option ℕ). ((freed n (without_entry o s)).count + 1 ≡ s.count)
      × (length (freed n (without_entry o s)).wakers + 1 ≡ length s.wakers)) (sym e)
      (by (ltb (length (remove s.wakers at)) s.count) refl)
    where
      less : length (remove s.wakers at) + 1 ≡ length s.wakers
      less = length-remove s.wakers at (position-within n at s.wakers e)

      by : (b : Bool) → ltb (length (remove s.wakers at)) s.count ≡ b →
          let r : Sleepers Sleeping =
          elim b [
            | true ↦ record s { wakers = remove s.wakers at; count = s.count - 1; free = s.free ++ n ∷ [] }
            | false ↦ record s { wakers = remove s.wakers at }
          ] in
          (r.count + 1 ≡ s.count) × (length r.wakers + 1 ≡ length s.wakers)
      by true q = (omega (arith, less, l), less)
      by false q = let no : s.count ≤ length (remove s.wakers at) = grind (arith, nat_tests) in
          absurd (omega (arith, no, less, l))

  given : (s : Sleepers Sleeping) → ((given_back s).count ≡ s.count) × ((given_back s).wakers ≡ s.wakers)
  given s = by (ltb s.count s.rooms)
    where
      by : (b : Bool) → let r : Sleepers Sleeping = elim b [ true ↦ record s { rooms = s.rooms - 1 } | false ↦ s ] in
          (r.count ≡ s.count) × (r.wakers ≡ s.wakers)
      by true = (refl, refl)
      by false = (refl, refl)

  has-place : (n : ℕ) (ws : List (ℕ × Sleeping)) (a : Sleeping) → waker_of n ws ≡ Some a →
      (at : ℕ) × (position_of n ws ≡ Some at)
  has-place n ws a e = by (position_of n ws) refl e
    where
      by : (o : Option ℕ) → position_of n ws ≡ o → waker_at o ws ≡ Some a → (at : ℕ) × (position_of n ws ≡ Some at)
      by None q k = absurd (cc)
      by (Some at) q k = (at, q)

  tells-left : (old : Option Sleeping) (w : World) (t : TickOrRun) (n : ℕ) → waker_of n w.sleepers.wakers ≡ old →
      Tells w (Op.Tick (TickOp.Leave t) ∷ []) (leave_sleepers_by (Asleep n) w t)
  tells-left None w t n e =
      let o = waker_of n w.sleepers.wakers in
      let told : weigh (tells_of mark) (tell_and_return (is_none o)) ≡ 1 =
      ap (λ (x : Option Sleeping). weigh (tells_of mark) (tell_and_return (is_none x))) e in
      loud w _ _ _
      (omega (arith, told, weigh-append (tells_of mark) (sleeper_goes o) (tell_and_return (is_none o))))
  tells-left (Some x) w t n e = record {
    on = λ i j k a m p q u l r g h. record {
      told = λ b c.
          let here = has-place n w.sleepers.wakers x e in
          let less = left n here.0 w.sleepers here.1 g.listed in
          moved w.sleepers.count (length w.sleepers.wakers) _ _ i j (omega (arith, less.0)) (omega (arith, less.1))
          (omega (arith, p, q)) (h.told b (omega (arith, c, less.0)));
    };
  }
    where
      moved : (c n c2 n2 i j : ℕ) → c2 + 1 ≡ c → n2 + 1 ≡ n → i ≤ j → (n < c) ⊎ (1 ≤ i) → (n2 < c2) ⊎ (1 ≤ j)
      moved c n c2 n2 i j a b l (inl x) = inl (omega (arith, a, b, x))
      moved c n c2 n2 i j a b l (inr x) = inr (omega (arith, l, x))

  tells-leave : (x : Ticker) (w : World) (t : TickOrRun) → Tells w (Op.Tick (TickOp.Leave t) ∷ []) (leave_sleepers_by x w t)
  tells-leave Awake w t =
      record {
        on = λ i j k a m x y u l r g h. let same = given w.sleepers in
            let z : length (given_back w.sleepers).wakers ≡ length w.sleepers.wakers = ap length same.1 in
            let y2 = same.0 in
            record { told = λ p q. grind arith };
      }
  tells-leave (Asleep n) w t = tells-left _ w t n refl
  tells-leave Left w t = quiet w _ _ _ refl (omega arith) refl

  -- runs

  tells-wakes_up : (x : Ticker) (who : TickOrRun) (more : List Op) →
      1 ≤ weigh (tells_of mark) (found_by x who (Op.Sleeper SleeperOp.ExchangeFlag ∷ more))
  tells-wakes_up Awake who more = omega arith
  tells-wakes_up (Asleep n) who more = omega arith
  tells-wakes_up Left who more = omega arith

  tells-found : (w : World) (x : RunPoll) (f : ℕ) → 1 ≤ weigh (tells_of mark) (found w x f).next
  tells-found w x f =
      let first = found_by (run_of w x.run).place (TickOrRun.Run x.run) (Op.Sleeper SleeperOp.ExchangeFlag ∷ []) in
      omega (
        arith,
        weigh-append (tells_of mark) first (counted_by (eqb ((run_of w x.run).counted + 1) 64) w x f).next,
        tells-wakes_up (run_of w x.run).place (TickOrRun.Run x.run) [],
      )

  tells-own : (q : List ℕ) (w : World) (s : Sleeping) (x : RunPoll) →
      Tells w (Op.Tick (TickOp.Search s) ∷ []) (search_own_by q w x)
  tells-own [] w s x = loud w _ _ _ (omega arith)
  tells-own (f ∷ rest) w s x = loud w (found (put_own w x.run rest) x f).world _ (found (put_own w x.run rest) x f).next
      (tells-found (put_own w x.run rest) x f)

  tells-search_who : (who : TickOrRun) (p : ℕ) (w : World) (s : Sleeping) →
      Tells w (Op.Tick (TickOp.Search s) ∷ []) (search_by_who who p w s)
  tells-search_who (TickOrRun.Tick t) p w s = loud w _ _ _ (omega arith)
  tells-search_who (TickOrRun.Run r) p w s = tells-own _ w s _

  tells-common : (look : Look) (q : List ℕ) (w : World) (x : RunPoll) → (queue_of w (mark_in look)).items ≡ q →
      Tells w (Op.Run (RunOp.SearchCommon x look) ∷ []) (search_common_by q w x look)
  tells-common (First n) [] w x e = ⊎_elim (none-there w w _ _) (λ z. loud w _ _ _ (omega (arith, z)))
      (looked-first mark n w e)
  tells-common (Second n) [] w x e = ⊎_elim (none-there w w _ _)
      (λ z. quiet w w _ _ refl (omega arith) (omega (arith, z))) (looked-second mark n w e)
  tells-common look (f ∷ rest) w x e = loud w _ _ _ (omega arith)

  tells-room : (b : Bool) (w : World) → Tells w (Op.Run RunOp.MakeRoom ∷ []) (make_room_by b w)
  tells-room true w = quiet w _ _ _ refl (omega arith) refl
  tells-room false w = record { on = λ i j k a m x y u l r g t. record { told = λ p q. grind arith } }

  tells-returned : (w : World) → Tells w (Op.Run RunOp.ReturnRoom ∷ []) (return_room w)
  tells-returned w =
      record {
        on = λ i j k a m x y u l r g h. let same = given w.sleepers in
            let z : length (given_back w.sleepers).wakers ≡ length w.sleepers.wakers = ap length same.1 in
            let y2 = same.0 in
            record { told = λ p q. grind arith };
      }

  make-still : (b : Bool) (w : World) → ((make_run_by b w).world.sleepers ≡ w.sleepers) ×
      ((make_run_by b w).world.queues ≡ w.queues)
  make-still true w = (refl, refl)
  make-still false w = (refl, refl)

  register-still : (t : Stage) (w : World) (r : ℕ) → ((registered t w r).sleepers ≡ w.sleepers) ×
      ((registered t w r).queues ≡ w.queues)
  register-still New w r = (refl, refl)
  register-still Listed w r = (refl, refl)
  register-still Ended w r = (refl, refl)

  list-still : (h : Hint) (o : ListOp) (w : World) →
      ((list_act h o w).world.sleepers ≡ w.sleepers) × ((list_act h o w).world.queues ≡ w.queues)
  list-still h (ListOp.Write Section.MakeRun) w = make-still h.refused w
  list-still h (ListOp.Write (Section.Register x)) w = register-still _ w x.run
  list-still h _ w = (refl, refl)

  told-still : (w v : World) (i j : ℕ) → v.sleepers ≡ w.sleepers → v.queues ≡ w.queues → i ≤ j → Told w i → Told v j
  told-still w v i j e q l t =
      let c : w.sleepers.count ≡ v.sleepers.count = ap (λ s. s.count) (sym e) in
      let n : length w.sleepers.wakers ≡ length v.sleepers.wakers = ap (λ s. length s.wakers) (sym e) in
      let m : length (queue_of w mark).items ≡ length (queue_of v mark).items =
      ap (λ (x : Queues). length (queue_in mark x).items) (sym q) in
      grind arith

  -- the list of queues has no part in it
  tells-list : (h : Hint) (o : ListOp) (w : World) → Tells w (Op.List o ∷ []) (list_act h o w)
  tells-list h o w = let s = list-still h o w in
      record { on = λ i j k a m x y u l r g t. told-still w (list_act h o w).world i j s.0 s.1 (omega (arith, x, y)) t }

  -- a steal that tells goes on with what tells

  tells-stolen : (t : Then) (w : World) (x : RunPoll) → tells_then t ≤ weigh (tells_of mark) (stolen t w x).next
  tells-stolen (Then.Found f) w x = tells-found w x f
  tells-stolen (Then.StealPlain f) w x = omega arith
  tells-stolen (Then.Run f) w x = omega arith
  tells-stolen (Then.Walk at left) w x = omega arith

  tells-more : (n : ℕ) (w : World) (s : Steal) → tells_then s.then ≤ weigh (tells_of mark) (steal_by n w s).next
  tells-more zero w s = tells-stolen s.then w s.poll
  tells-more (suc n) w s = omega arith

  tells-length : (n : ℕ) (w : World) (s : Steal) → tells_then s.then ≤ weigh (tells_of mark) (steal_length_by n w s).next
  tells-length zero w s = tells-stolen s.then w s.poll
  tells-length (suc n) w s = omega arith

  tells-take : (q : List ℕ) (w : World) (s : Steal) (more : ℕ) →
      tells_then s.then ≤ weigh (tells_of mark) (steal_take_by q w s more).next
  tells-take [] w s more = tells-stolen s.then w s.poll
  tells-take (f ∷ rest) w s more = omega arith

  tells-refused : (t : Then) (w : World) (x : RunPoll) (f : ℕ) →
      tells_then t ≤ weigh (tells_of mark) (put_refused t w x f).next
  tells-refused (Then.Walk at left) w x f = omega arith
  tells-refused t w x f = omega (arith, tells-stolen t w x)

  tells-put : (b : Bool) (p : ℕ) (w : World) (s : Steal) (more f : ℕ) →
      tells_then s.then ≤ weigh (tells_of mark) (steal_put_by b p w s more f).next
  tells-put true p w s more f = tells-more more (kept_by p w s.poll.run f) s
  tells-put false p w s more f = tells-refused s.then w s.poll f

  tells-steal : (p : ℕ) (o : StealOp) (w : World) → tells_steal o ≤ weigh (tells_of mark) (steal_act p o w).next
  tells-steal p (StealOp.Length s) w = tells-length _ w s
  tells-steal p (StealOp.OwnLength s n) w = tells-more _ w s
  tells-steal p (StealOp.Take s more) w = tells-take _ w s more
  tells-steal p (StealOp.Put s more f) w = tells-put _ p w s more f

  tells-tick : (p : ℕ) (h : Hint) (o : TickOp) (w : World) → Tells w (Op.Tick o ∷ []) (tick_act p h o w)
  tells-tick p h TickOp.MakeTick w = tells-make _ w
  tells-tick p h (TickOp.Search s) w = tells-search_who s.who p w s
  tells-tick p h (TickOp.Look s look) w = tells-search look _ _ w s refl
  tells-tick p h (TickOp.CopyWaker s) w = tells-copy _ w s
  tells-tick p h (TickOp.FallAsleep s) w = tells-sleep _ w s
  tells-tick p h (TickOp.WakeUp t) w = tells-up _ w t
  tells-tick p h (TickOp.Leave t) w = tells-leave _ w t

  -- a steal, and a run that looks at the executor's queue
  abbrev hunts : Op → Bool
  hunts (Op.Steal o) = true
  hunts (Op.Run (RunOp.TakeTurn x)) = true
  hunts (Op.Run (RunOp.SearchCommon x look)) = true
  hunts _ = false

  no-tells : (o : Op) → is_seen_asleep o ≡ false → hunts o ≡ false → (tells_of mark) o ≡ 0
  no-tells (Op.Sleeper o) e q = absurd (cc)
  no-tells (Op.Tick o) e q = absurd (cc)
  no-tells (Op.Steal o) e q = absurd (cc)
  no-tells (Op.Run (RunOp.TakeTurn x)) e q = absurd (cc)
  no-tells (Op.Run (RunOp.SearchCommon x look)) e q = absurd (cc)
  no-tells _ e q = refl

  tells-hunt : (b : Bool) (p : ℕ) (h : Hint) (o : Op) (w : World) → is_seen_asleep o ≡ false → hunts o ≡ b →
      Tells w (o ∷ []) (act p h o w)
  tells-hunt false p h o w n e =
      let a : Away w (act p h o w) = away-act p h o w n in
      quiet w (act p h o w).world (o ∷ []) (act p h o w).next a.sleepers_seen (a.queue mark) (omega (arith, no-tells o n e))
  tells-hunt true p h (Op.Steal o) w n e =
      let a : Away w (steal_act p o w) = away-act p h (Op.Steal o) w n in
      steady w (steal_act p o w).world (Op.Steal o ∷ []) (steal_act p o w).next a.sleepers_seen (a.queue mark)
      (omega (arith, tells-steal p o w))
  tells-hunt true p h (Op.Run (RunOp.TakeTurn x)) w n e = loud w _ _ _ (omega arith)
  tells-hunt true p h (Op.Run (RunOp.SearchCommon x look)) w n e = tells-common look _ w x refl
  tells-hunt true p h _ w n e = absurd (cc)

  pub tells-act : (b : Bool) (p : ℕ) (h : Hint) (o : Op) (w : World) → is_seen_asleep o ≡ b → Tells w (o ∷ []) (act p h o w)
  tells-act false p h o w n = tells-hunt _ p h o w n refl
  tells-act true p h (Op.Queue (QueueOp.Append g)) w n = tells-append _ w _ g
  tells-act true p h (Op.Sleeper o) w n = tells-sleeper p o w
  tells-act true p h (Op.Tick o) w n = tells-tick p h o w
  tells-act true p h (Op.List o) w n = tells-list h o w
  tells-act true p h (Op.Run RunOp.MakeRoom) w n = tells-room _ w
  tells-act true p h (Op.Run RunOp.ReturnRoom) w n = tells-returned w
  tells-act true p h _ w n = absurd (cc)

  pub tells-react : (p : ℕ) (o : Op) (u : UserEnd) (w : World) → accepts o u ≡ true → Tells w (o ∷ []) (react p o u w)
  tells-react p (Op.User (UserOp.Poll f)) (UserEnd.Polled Answer.Pending) w a = quiet w _ _ _ refl (omega arith) refl
  tells-react p (Op.User (UserOp.Poll f)) (UserEnd.Polled Answer.Ready) w a = quiet w _ _ _ refl (omega arith) refl
  tells-react p (Op.User (UserOp.Drop f)) UserEnd.Done w a = quiet w _ _ _ refl (omega arith) refl
  tells-react p (Op.User (UserOp.DropOutput f)) UserEnd.Done w a = quiet w _ _ _ refl (omega arith) refl
  tells-react p (Op.User (UserOp.CallOutside x)) UserEnd.Done w a = quiet w _ _ _ refl (omega arith) refl
  tells-react p (Op.User (UserOp.PollOwn x)) (UserEnd.Polled Answer.Pending) w a = quiet w _ _ _ refl (omega arith) refl
  tells-react p (Op.User (UserOp.PollOwn x)) (UserEnd.Polled Answer.Ready) w a = quiet w _ _ _ refl (omega arith) refl
  tells-react p (Op.User (UserOp.DropOwn r)) UserEnd.Done w a = quiet w _ _ _ refl (omega arith) refl
  tells-react p _ _ w a = absurd (cc)

  tells-with : (w v : World) (x : Option ℕ) (d : ℕ → Done) → sleepers_seen w ≡ sleepers_seen v → v.queues ≡ w.queues →
      ((f : ℕ) → Tells w [] (d f)) → Tells w [] (with_future v x d)
  tells-with w v None d e q n = quiet w v _ _ e (omega (arith, ap (λ (c : Queues). length (queue_in mark c).items) q)) refl
  tells-with w v (Some f) d e q n = n f

  pub tells-begun : (p : ℕ) (w : World) (here : Option Waker) (c : Call) →
      Tells w [] (begun p (log w (Event.CallBegun p c)) here c)
  tells-begun p w here (Call.Wake n) = tells-with w (log w (Event.CallBegun p (Call.Wake n))) (kept w n) _ refl refl
      (λ f. quiet w _ _ _ refl (omega arith) refl)
  tells-begun p w here (Call.WakeByRef n) = tells-with w (log w (Event.CallBegun p (Call.WakeByRef n))) (kept w n) _ refl
      refl (λ f. quiet w _ _ _ refl (omega arith) refl)
  tells-begun p w here (Call.Copy n) = tells-with w (log w (Event.CallBegun p (Call.Copy n))) (kept w n) _ refl refl
      (λ f. quiet w _ _ _ refl (omega arith) refl)
  tells-begun p w here (Call.DropWaker n) = tells-with w (log w (Event.CallBegun p (Call.DropWaker n))) (kept w n) _ refl
      refl (λ f. quiet w _ _ _ refl (omega arith) refl)
  tells-begun p w here Call.Keep =
      tells-with w (log w (Event.CallBegun p Call.Keep)) (future_of here) _ refl refl
      (λ f. quiet w _ _ _ refl (omega arith) refl)
  tells-begun p w here Call.WakeSelf = tells-with w (log w (Event.CallBegun p Call.WakeSelf)) (future_of here) _ refl refl
      (λ f. quiet w _ _ _ refl (omega arith) refl)
  tells-begun p w here (Call.DropRun r) = quiet w _ _ _ (sleepers_seen-run w r _ refl) (omega arith) refl
  tells-begun p w here _ = quiet w _ _ _ refl (omega arith) refl
