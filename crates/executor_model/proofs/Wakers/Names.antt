-- For polls_keep_their_wakers.
-- What names a poll, by its place in the trace, has this waker: things that are to do, what is stored, and what was told.
use Rattle.std.proofs.Common.{◌≡◌, ℕ, zero, suc, List, [], ◌∷◌, ◌++◌, set, get_or, take, Bool, true, false, refl, subst, ◌&&◌}
use Rattle.std.specs.Prelude.{Option, Some, None, remove, slice_get}
use Rattle.task_moves.specs.declared.schedule_info.ScheduleInfo.{ScheduleInfo}
use Rattle.task_moves.specs.declared.moves.owed.AwaiterDebt.TheVariants.{NotifyAwaiter, NotifyOther}
use Rattle.task_moves.specs.declared.moves.owed.FutureDebt.TheVariants.{PollFuture, DropFuture}
use Rattle.task_moves.{specs.declared.moves.owed.AwaiterDebt.AwaiterDebt, specs.declared.moves.owed.FutureDebt.FutureDebt}
use Rattle.executor_parts.specs.Sleepers.{waker_at, waker_in}
use Rattle.executor_model.proofs.Types.{Move, Owed, Event, Awaiter, HandleOp, ListOp, Op, RunOp, Section, SleeperOp, Sleeping}
use Rattle.executor_model.proofs.Types.{StealOp, TickOp, UserOp, Waker, WakerOp}
use Rattle.executor_model.specs.Carried.{awaiter_ops, drops, emptied_ops, future_ops, next_ops, output_ops, owed_ops}
use Rattle.executor_model.specs.{Carried.schedule_ops, World.World, World.Done, World.log, World.log_if}

-- each of the list is so
abbrev pub Every : {A : Type 0} → (A → Type 0) → List A → Type 0
Every P [] = Unit {0}
Every P (x ∷ xs) = P x × Every P xs

module _ {A : Type 0} (P : A → Type 0) where
  pub every-append : (xs ys : List A) → Every P xs → Every P ys → Every P (xs ++ ys)
  every-append [] ys a b = b
  every-append (x ∷ xs) ys a b = (a.0, every-append xs ys a.1 b)

  pub every-push : (xs : List A) (x : A) → Every P xs → P x → Every P (xs ++ x ∷ [])
  every-push xs x a b = every-append xs (x ∷ []) a (b, tt)

  pub every-left : (xs ys : List A) → Every P (xs ++ ys) → Every P xs
  every-left [] ys a = tt
  every-left (x ∷ xs) ys a = (a.0, every-left xs ys a.1)

  pub every-right : (xs ys : List A) → Every P (xs ++ ys) → Every P ys
  every-right [] ys a = a
  every-right (x ∷ xs) ys a = every-right xs ys a.1

  pub every-set : (n : ℕ) (x : A) (xs : List A) → Every P xs → P x → Every P (set xs n x)
  every-set n x [] a b = tt
  every-set zero x (y ∷ ys) a b = (b, a.1)
  every-set (suc n) x (y ∷ ys) a b = (a.0, every-set n x ys a.1 b)

  pub every-get : (n : ℕ) (xs : List A) (none : A) → Every P xs → P none → P (get_or xs n none)
  every-get n [] none a b = b
  every-get zero (x ∷ xs) none a b = a.0
  every-get (suc n) (x ∷ xs) none a b = every-get n xs none a.1 b

  pub every-at : (n : ℕ) (xs : List A) (x : A) → Every P xs → slice_get xs n ≡ Some x → P x
  every-at n [] x a e = absurd (cc)
  every-at zero (y ∷ ys) x a e = let i : y ≡ x = cc in subst P i a.0
  every-at (suc n) (y ∷ ys) x a e = every-at n ys x a.1 e

  pub every-take : (n : ℕ) (xs : List A) → Every P xs → Every P (take n xs)
  every-take zero xs a = tt
  every-take (suc n) [] a = tt
  every-take (suc n) (x ∷ xs) a = (a.0, every-take n xs a.1)

  pub every-remove : (n : ℕ) (xs : List A) → Every P xs → Every P (remove xs n)
  every-remove zero [] a = tt
  every-remove (suc n) [] a = tt
  every-remove zero (x ∷ xs) a = a.1
  every-remove (suc n) (x ∷ xs) a = (a.0, every-remove n xs a.1)

-- what names the poll at place k has waker a
abbrev pub Right : ℕ → Waker → ℕ → Waker → Type 0
Right k a j b = j ≡ k → b ≡ a

abbrev pub RightSection : ℕ → Waker → Section → Type 0
RightSection k a Section.MakeRun = Unit {0}
RightSection k a (Section.Register x) = Right k a x.poll x.waker
RightSection k a (Section.Unregister r b) = Unit {0}

abbrev pub Names : ℕ → Waker → Op → Type 0
Names k a (Op.Waker (WakerOp.CallAwaiter f b j)) = Right k a j b
Names k a (Op.Handle (HandleOp.Register f b j)) = Right k a j b
Names k a (Op.Handle (HandleOp.EndRegister f b j)) = Right k a j b
Names k a (Op.Sleeper (SleeperOp.CallSleeper s)) = Right k a s.poll s.waker
Names k a (Op.Tick (TickOp.Search s)) = Right k a s.poll s.waker
Names k a (Op.Tick (TickOp.Look s look)) = Right k a s.poll s.waker
Names k a (Op.Tick (TickOp.CopyWaker s)) = Right k a s.poll s.waker
Names k a (Op.Tick (TickOp.FallAsleep s)) = Right k a s.poll s.waker
Names k a (Op.User (UserOp.PollOwn x)) = Right k a x.poll x.waker
Names k a (Op.List (ListOp.LockWrite s)) = RightSection k a s
Names k a (Op.List (ListOp.Write s)) = RightSection k a s
Names k a (Op.List (ListOp.LockRead x)) = Right k a x.poll x.waker
Names k a (Op.Steal (StealOp.Length s)) = Right k a s.poll.poll s.poll.waker
Names k a (Op.Steal (StealOp.OwnLength s n)) = Right k a s.poll.poll s.poll.waker
Names k a (Op.Steal (StealOp.Take s n)) = Right k a s.poll.poll s.poll.waker
Names k a (Op.Steal (StealOp.Put s n f)) = Right k a s.poll.poll s.poll.waker
Names k a (Op.Run (RunOp.TakeTurn x)) = Right k a x.poll x.waker
Names k a (Op.Run (RunOp.SearchCommon x look)) = Right k a x.poll x.waker
Names k a (Op.Run (RunOp.LookOwn x at left)) = Right k a x.poll x.waker
Names k a (Op.Run (RunOp.WakeOwn x)) = Right k a x.poll x.waker
Names k a _ = Unit {0}

abbrev pub RightSlot : ℕ → Waker → Option Awaiter → Type 0
RightSlot k a None = Unit {0}
RightSlot k a (Some x) = Right k a x.poll x.waker

abbrev pub RightSleep : ℕ → Waker → Option Sleeping → Type 0
RightSleep k a None = Unit {0}
RightSleep k a (Some s) = Right k a s.poll s.waker

abbrev pub RightEvent : ℕ → Waker → Event → Type 0
RightEvent k a (Event.WakerCalled p o j b) = Right k a j b
RightEvent k a _ = Unit {0}

abbrev pub RightEntry : ℕ → Waker → ℕ × Sleeping → Type 0
RightEntry k a e = Right k a e.1.poll e.1.waker

-- what is stored and what was told is so
pub record Stored (k : ℕ) (a : Waker) (w : World) : Type 0 where
  pub awaiters : Every (RightSlot k a) w.awaiters
  pub sleepers : Every (RightEntry k a) w.sleepers.wakers
  pub told : Every (RightEvent k a) w.trace

-- and what is to do
abbrev pub Ends : ℕ → Waker → Done → Type 0
Ends k a d = Stored k a d.world × Every (Names k a) d.next

module _ (k : ℕ) (a : Waker) where
  pub stored-log : (w : World) (e : Event) → Stored k a w → RightEvent k a e → Stored k a (log w e)
  stored-log w e h r = record {
    awaiters = h.awaiters;
    sleepers = h.sleepers;
    told = every-push (RightEvent k a) w.trace e h.told r;
  }

  pub stored-log_if : (b : Bool) (w : World) (e : Event) → Stored k a w → RightEvent k a e → Stored k a (log_if b w e)
  stored-log_if true w e h r = stored-log w e h r
  stored-log_if false w e h r = h

  pub entry-in : (e : Option (ℕ × Sleeping)) (at : ℕ) (es : List (ℕ × Sleeping)) → Every (RightEntry k a) es →
      slice_get es at ≡ e → RightSleep k a (waker_in e)
  entry-in None at es h q = tt
  entry-in (Some e) at es h q = every-at (RightEntry k a) at es e h q

  pub entry-at : (o : Option ℕ) (es : List (ℕ × Sleeping)) → Every (RightEntry k a) es → RightSleep k a (waker_at o es)
  entry-at None es h = tt
  entry-at (Some at) es h = entry-in (slice_get es at) at es h refl

  -- what a move owes names no poll

  scheduled : (f : ℕ) (o : Option ScheduleInfo) → Every (Names k a) (schedule_ops f o)
  scheduled f (Some info) = (tt, tt)
  scheduled f None = tt

  owes-future : (there : Bool) (f : ℕ) (o : Option FutureDebt) → Every (Names k a) (future_ops there f o)
  owes-future there f (Some PollFuture) = (tt, tt)
  owes-future true f (Some DropFuture) = (tt, tt)
  owes-future false f (Some DropFuture) = tt
  owes-future there f None = tt

  output : (b : Bool) (f : ℕ) → Every (Names k a) (output_ops b f)
  output true f = (tt, tt)
  output false f = tt

  pub owes-awaiter : (f : ℕ) (o : Option AwaiterDebt) → Every (Names k a) (awaiter_ops f o)
  owes-awaiter f (Some NotifyAwaiter) = (tt, tt)
  owes-awaiter f (Some NotifyOther) = (tt, tt)
  owes-awaiter f (Some _) = tt
  owes-awaiter f None = tt

  follows : (f : ℕ) (o : Option Move) → Every (Names k a) (next_ops f o)
  follows f (Some Move.Release) = (tt, tt)
  follows f (Some Move.SettleClosed) = (tt, tt)
  follows f (Some Move.GiveUp) = (tt, tt)
  follows f (Some Move.EndClosed) = (tt, tt)
  follows f (Some Move.Detach) = (tt, tt)
  follows f (Some _) = tt
  follows f None = tt

  emptied : (b : Bool) (f : ℕ) → Every (Names k a) (emptied_ops b f)
  emptied true f = (tt, tt)
  emptied false f = tt

  both : (xs ys : List Op) → Every (Names k a) xs → Every (Names k a) ys → Every (Names k a) (xs ++ ys)
  both xs ys = every-append (Names k a) xs ys

  pub owes : (there : Bool) (f : ℕ) (o : Owed) → Every (Names k a) (owed_ops there f o)
  owes there f o =
      both _ _ (both _ _ (both _ _ (both _ _ (both _ _ (scheduled f o.schedule) (owes-future there f o.future))
      (output o.drop_output f)) (owes-awaiter f o.awaiter)) (follows f o.next)) (emptied (o.empty_cell && drops o.future) f)
