-- For refused_calls_change_nothing and want_of_memory_is_told_of.
-- A refused call changes nothing, and is refused for a reason.
use Rattle.std.proofs.Common.{◌≡◌, ◌⊎◌, ℕ, ◌+◌, ◌-◌, ◌≤◌, List, [], ◌∷◌, ◌++◌, Bool, true, false, ◌||◌, not, refl, sym, ap, ◌∙◌}
use Rattle.std.proofs.Common.{inl, inr, ⊎_elim, arith}
use Rattle.std.specs.Prelude.{Option, Some, None, nat_lt}
use Rattle.std.{proofs.lemmas.Bool.Decides.nat_tests, specs.List.list_any}
use Rattle.task_moves.specs.Moves.{most_references, is_going}
use Rattle.executor_parts.specs.Sleepers.{Sleepers, waker_at}
use Rattle.executor_model.proofs.Types.{Mark, Call, Reply, Hold, Waker, Task, Outside, Op, HandleOp, Look, First, Second}
use Rattle.executor_model.proofs.Types.{Sleeping, ListOp, RunOp, RunPoll, Section, UserOp, UserEnd, Answer, TableOp, TickOp}
use Rattle.executor_model.specs.Refusals.{is_no_memory, ends_for_want, is_of_run, is_run_poll, is_search, falls_asleep}
use Rattle.executor_model.specs.World.{World, Ticker, Awake, Asleep, Left, Stage, New, Listed, Ended, Done, done, place_of}
use Rattle.executor_model.specs.Doing.{act, list_act, run_act, search_by_who}
use Rattle.executor_model.specs.Memory.{may_refuse, refuses, takes_no_memory, AsksForNone}
use Rattle.executor_model.specs.Refusals.{takes_turn, IsFull, CopiesOneTooMany, RefusedChangesNothing, IsWantToldOf}
use Rattle.executor_model.specs.Steps.{begun, drop_run, future_of, kept, poll_run, react, with_future}
use Rattle.executor_model.specs.{Carried.awaiter_ops, World.run_of, World.task}
use Rattle.executor_model.proofs.Memory.RunsUntold.{Untold, untold-common, untold-look, untold-search, untold-steal}
use Rattle.executor_model.proofs.Memory.Unasking.{both, none-awaiter}
use Rattle.executor_model.proofs.Memory.RunsUntold.{untold-turn, untold-walk}
use Rattle.executor_model.proofs.{Types.WakerOp, Types.Hint, Types.TickOrRun, Memory.UnaskingGroups.needs-no-memory}
use Rattle.task_moves.specs.Moves as moves
use Rattle.executor_model.specs.Acts as acts
use Rattle.executor_model.specs.ActsOfRuns as of_runs
use Rattle.executor_model.specs.ActsOfSleepers as of_sleepers

not-both : (b : Bool) → b ≡ true → b ≡ false → ⊥
not-both b e k = let no : true ≡ false = sym e ∙ k in absurd (cc)

or-right : (a b : Bool) → b ≡ true → (a || b) ≡ true
or-right true b e = refl
or-right false b e = e

-- a poll of a handle whose answer is there asks for none
none-output : (w : World) (f : ℕ) →
    AsksForNone (awaiter_ops f (moves.notify_other_if (task w f).awaiter) ++ Op.End Reply.Ready (Hold.Handle f) ∷ [])
none-output w f = both (awaiter_ops f (moves.notify_other_if (task w f).awaiter))
    (Op.End Reply.Ready (Hold.Handle f) ∷ []) (none-awaiter f (moves.notify_other_if (task w f).awaiter)) refl

-- nothing has changed

module _ (p : ℕ) (w : World) where
  enter-unchanged : (full refused : Bool) (mark : Mark) → list_any may_refuse (acts.enter_by full refused mark p w).next ≡ true →
      (acts.enter_by full refused mark p w).world ≡ w
  enter-unchanged true refused mark e = refl
  enter-unchanged false true mark e = refl
  enter-unchanged false false mark e = absurd (cc)

  copy-unchanged : (b : Bool) (f : ℕ) (held : Hold) → list_any may_refuse (acts.copy_by b w f held).next ≡ true →
      (acts.copy_by b w f held).world ≡ w
  copy-unchanged true f held e = refl
  copy-unchanged false f held e = absurd (cc)

  look-unchanged : (closed going completed : Bool) (f : ℕ) (a : Waker)
      → list_any may_refuse (acts.look_by (moves.poll_by closed going completed (task w f)).owed.answer p w f a
      (moves.poll_by closed going completed (task w f))).next ≡ true
      →
      (acts.look_by (moves.poll_by closed going completed (task w f)).owed.answer p w f a
      (moves.poll_by closed going completed (task w f))).world ≡ w
  look-unchanged true true completed f a e = refl
  look-unchanged true false completed f a e = absurd (cc)
  look-unchanged false going false f a e = refl
  look-unchanged false going true f a e = absurd (not-both _ e (none-output w f))

  awaiter-unchanged : (b : Bool) (f : ℕ) (a : Waker) →
      list_any may_refuse (acts.copy_awaiter_by b p w f a).next ≡ true → (acts.copy_awaiter_by b p w f a).world ≡ w
  awaiter-unchanged true f a e = refl
  awaiter-unchanged false f a e = absurd (cc)

  make-unchanged : (b : Bool) → list_any may_refuse (of_sleepers.make_tick_by b w).next ≡ true →
      (of_sleepers.make_tick_by b w).world ≡ w
  make-unchanged true e = refl
  make-unchanged false e = absurd (cc)

  look-tick-unchanged : (x : Ticker) (l : Look) (q : List ℕ) (s : Sleeping) →
      list_any may_refuse (of_sleepers.look_tick_by x w l q s).next ≡ true →
      (of_sleepers.look_tick_by x w l q s).world ≡ w
  look-tick-unchanged x l [] s e = refl
  look-tick-unchanged Awake l (f ∷ rest) s e = absurd (cc)
  look-tick-unchanged (Asleep n) l (f ∷ rest) s e = absurd (cc)
  look-tick-unchanged Left l (f ∷ rest) s e = absurd (cc)

  copies-unchanged : (b : Bool) (s : Sleeping) →
      list_any ends_for_want (of_sleepers.copy_sleeper_by b w s).next ≡ true →
      (of_sleepers.copy_sleeper_by b w s).world ≡ w
  copies-unchanged true s e = refl
  copies-unchanged false s e = absurd (cc)

  room-unchanged : (b : Bool) → list_any ends_for_want (of_runs.make_room_by b w).next ≡ true →
      (of_runs.make_room_by b w).world ≡ w
  room-unchanged true e = refl
  room-unchanged false e = absurd (cc)

  made-unchanged : (b : Bool) → list_any ends_for_want (of_runs.make_run_by b w).next ≡ true →
      (of_runs.make_run_by b w).world ≡ w
  made-unchanged true e = refl
  made-unchanged false e = absurd (cc)

  -- the room that was made is given back
  returned : w.sleepers.count ≤ w.sleepers.rooms → (of_runs.return_room (of_runs.make_room_by false w).world).world ≡ w
  returned e = by (nat_lt w.sleepers.count (w.sleepers.rooms + 1)) refl
    where
      same-room : w.sleepers.rooms + 1 - 1 ≡ w.sleepers.rooms
      same-room = omega arith

      by : (b : Bool) → nat_lt w.sleepers.count (w.sleepers.rooms + 1) ≡ b →
          (let s : Sleepers Sleeping = elim b [
            | true ↦ record w.sleepers { rooms = w.sleepers.rooms + 1 - 1 }
            | false ↦ record w.sleepers { rooms = w.sleepers.rooms + 1 }
          ] in record w { sleepers = s }) ≡ w
      by true q = ap (λ (n : ℕ). record w { sleepers = record w.sleepers { rooms = n } }) same-room
      by false q = absurd (grind (arith, nat_tests))

  -- all that falling asleep changes
  abbrev pub AllSleepers : World → Type 0
  AllSleepers v = v ≡ record w { ticks = v.ticks; runs = v.runs; sleepers = v.sleepers; notified = v.notified }

  anew-sleeps : (b : Bool) (s : Sleeping) → AllSleepers (of_sleepers.sleep_anew_by b w s).world
  anew-sleeps true s = refl
  anew-sleeps false s = refl

  listed-sleeps : (b : Bool) (n : ℕ) (s : Sleeping) → AllSleepers (of_sleepers.sleep_listed_by b w n s).world
  listed-sleeps true n s = refl
  listed-sleeps false n s = refl

  again-sleeps : (o : Option ℕ) (n : ℕ) (s : Sleeping) → AllSleepers (of_sleepers.sleep_again_by o w n s).world
  again-sleeps None n s = listed-sleeps _ n s
  again-sleeps (Some at) n s = refl

  tick-sleeps : (x : Ticker) (s : Sleeping) → AllSleepers (of_sleepers.fall_asleep_by x w s).world
  tick-sleeps Awake s = anew-sleeps _ s
  tick-sleeps (Asleep n) s = again-sleeps _ n s
  tick-sleeps Left s = refl

  -- a search of a tick takes a turn
  who-turns : (who : TickOrRun) → not (is_run_poll who) ≡ true → (s : Sleeping) →
      (search_by_who who p w s).world ≡ acts.turned p w
  who-turns (TickOrRun.Tick t) e s = refl
  who-turns (TickOrRun.Run x) e s = absurd (cc)

  turns : (h : Hint) (o : Op) → takes_turn o ≡ true → (act p h o w).world ≡ acts.turned p w
  turns h (Op.Tick (TickOp.Search s)) e = who-turns s.who e s
  turns h _ e = absurd (cc)

  no-turn : (who : TickOrRun) → is_run_poll who ≡ false → not (is_run_poll who) ≡ false → ⊥
  no-turn (TickOrRun.Tick t) r k = absurd (cc)
  no-turn (TickOrRun.Run x) r k = absurd (cc)

  unchanged : (h : Hint) (o : Op) → list_any may_refuse (act p h o w).next ≡ true → falls_asleep o ≡ false →
      is_of_run o ≡ false → takes_turn o ≡ false → (act p h o w).world ≡ w
  unchanged h (Op.Table (TableOp.Enter mark)) e n r k = enter-unchanged _ h.refused mark e
  unchanged h (Op.Waker (WakerOp.CopyWaker f held)) e n r k = copy-unchanged _ f held e
  unchanged h (Op.Handle (HandleOp.Look f a)) e n r k =
      look-unchanged (task w f).closed (is_going (task w f)) (task w f).completed f a e
  unchanged h (Op.Handle (HandleOp.CopyAwaiter f a)) e n r k = awaiter-unchanged _ f a e
  unchanged h (Op.Tick TickOp.MakeTick) e n r k = make-unchanged h.refused e
  unchanged h (Op.Tick (TickOp.Search s)) e n r k = absurd (no-turn s.who r k)
  unchanged h (Op.Tick (TickOp.Look s l)) e n r k = look-tick-unchanged _ l _ s e
  unchanged h (Op.Tick (TickOp.CopyWaker s)) e n r k = absurd (cc)
  unchanged h (Op.Tick (TickOp.FallAsleep s)) e n r k = absurd (cc)
  unchanged h (Op.User (UserOp.PollOwn x)) e n r k = absurd (cc)
  unchanged h (Op.List o) e n r k = absurd (cc)
  unchanged h (Op.Steal o) e n r k = absurd (cc)
  unchanged h (Op.Run o) e n r k = absurd (cc)
  unchanged h (Op.End a held) e n r k = absurd (cc)
  unchanged h o e n r k = absurd (not-both _ e ((needs-no-memory w p).goes_on h o refl))

  with-unchanged : (o : Option ℕ) (d : ℕ → Done) → ((f : ℕ) → (d f).world ≡ w) → (with_future w o d).world ≡ w
  with-unchanged (Some f) d k = k f
  with-unchanged None d k = refl

  begins-unchanged : (here : Option Waker) (c : Call) → takes_no_memory c ≡ false → is_search c ≡ false →
      (begun p w here c).world ≡ w
  begins-unchanged here (Call.Spawn mark) e n = refl
  begins-unchanged here (Call.Copy k) e n =
      with-unchanged (kept w k) (λ f. done w (Op.Waker (WakerOp.CopyWaker f (Hold.Waker k)) ∷ [])) (λ f. refl)
  begins-unchanged here Call.Keep e n =
      with-unchanged (future_of here) (λ f. done w (Op.Waker (WakerOp.CopyWaker f Hold.Nothing) ∷ [])) (λ f. refl)
  begins-unchanged here (Call.PollHandle f b) e n = refl
  begins-unchanged here Call.NewTick e n = refl
  begins-unchanged here (Call.PollTick t b) e n = absurd (cc)
  begins-unchanged here Call.NewRun e n = refl
  begins-unchanged here (Call.PollRun r b) e n = absurd (cc)
  begins-unchanged here c e n = absurd (cc)

-- refused for a reason

no-memory-refuses : (r : Reply) → is_no_memory r ≡ true → refuses r ≡ true
no-memory-refuses Reply.NoMemory e = refl
no-memory-refuses _ e = absurd (cc)

want-refuses : (o : Op) → ends_for_want o ≡ true → may_refuse o ≡ true
want-refuses (Op.End r held) e = no-memory-refuses r e
want-refuses (Op.List (ListOp.LockWrite (Section.Unregister r a))) e = no-memory-refuses a e
want-refuses (Op.List (ListOp.Write (Section.Unregister r a))) e = no-memory-refuses a e
want-refuses (Op.Run (RunOp.Reschedule r a)) e = no-memory-refuses a e
want-refuses _ e = absurd (cc)

refuses-first : (o : Op) (more : Bool) → ends_for_want o ≡ true → (may_refuse o || more) ≡ true
refuses-first o more e = ap (λ (x : Bool). x || more) (want-refuses o e)

or-cases : (a b : Bool) → (a || b) ≡ true → (a ≡ true) ⊎ (b ≡ true)
or-cases true b e = inl refl
or-cases false b e = inr e

wants-refuse : (os : List Op) → list_any ends_for_want os ≡ true → list_any may_refuse os ≡ true
wants-refuse [] e = absurd (cc)
wants-refuse (o ∷ os) e = ⊎_elim
    (λ (k : ends_for_want o ≡ true). refuses-first o (list_any may_refuse os) k)
    (λ (k : list_any ends_for_want os ≡ true). or-right (may_refuse o) _ (wants-refuse os k))
    (or-cases (ends_for_want o) (list_any ends_for_want os) e)

untold-want : Untold ends_for_want
untold-want = record {
  exchange = refl;
  search = λ s. refl;
  up = λ who. refl;
  take_up = λ f. refl;
  retract = λ f. refl;
  steal = λ o. refl;
  turn = λ x. refl;
  common = λ x l. refl;
  look = λ x at left. refl;
  own = λ x. refl;
  lock = λ x. refl;
  unlock = refl;
}

module _ (p : ℕ) (w : World) where
  enter-told : (full refused : Bool) (mark : Mark) → list_any ends_for_want (acts.enter_by full refused mark p w).next ≡ true →
      refused ≡ true
  enter-told true refused mark e = absurd (cc)
  enter-told false true mark e = refl
  enter-told false false mark e = absurd (cc)

  -- refused by the hint, or for the number of references
  copy-told : (refused small : Bool) (f : ℕ) (held : Hold) →
      list_any ends_for_want (acts.copy_by (refused || not small) w f held).next ≡ true →
      (refused ≡ true) ⊎ (small ≡ false)
  copy-told true small f held e = inl refl
  copy-told false true f held e = absurd (cc)
  copy-told false false f held e = inr refl

  look-told : (closed going completed : Bool) (f : ℕ) (a : Waker)
      → list_any ends_for_want
      (acts.look_by (moves.poll_by closed going completed (task w f)).owed.answer p w f a
      (moves.poll_by closed going completed (task w f))).next ≡ true → ⊥
  look-told true true completed f a e = absurd (cc)
  look-told true false completed f a e = absurd (cc)
  look-told false going false f a e = absurd (cc)
  look-told false going true f a e =
      not-both _ (wants-refuse
      (awaiter_ops f (moves.notify_other_if (task w f).awaiter) ++ Op.End Reply.Ready (Hold.Handle f) ∷ []) e)
      (none-output w f)

  awaiter-told : (refused small : Bool) (f : ℕ) (a : Waker) →
      list_any ends_for_want (acts.copy_awaiter_by (refused || not small) p w f a).next ≡ true →
      (refused ≡ true) ⊎ (small ≡ false)
  awaiter-told true small f a e = inl refl
  awaiter-told false true f a e = absurd (cc)
  awaiter-told false false f a e = inr refl

  outside-told : (refused : Bool) (f : ℕ) (a : Waker) →
      list_any ends_for_want (acts.copy_awaiter_by refused p w f a).next ≡ true → refused ≡ true
  outside-told true f a e = refl
  outside-told false f a e = absurd (cc)

  make-told : (b : Bool) → list_any ends_for_want (of_sleepers.make_tick_by b w).next ≡ true → b ≡ true
  make-told true e = refl
  make-told false e = absurd (cc)

  look-tick-told : (x : Ticker) (l : Look) (q : List ℕ) (s : Sleeping) →
      list_any ends_for_want (of_sleepers.look_tick_by x w l q s).next ≡ true → ⊥
  look-tick-told x (First m) [] s e = absurd (cc)
  look-tick-told x (Second m) [] s e = absurd (cc)
  look-tick-told Awake l (f ∷ rest) s e = absurd (cc)
  look-tick-told (Asleep n) l (f ∷ rest) s e = absurd (cc)
  look-tick-told Left l (f ∷ rest) s e = absurd (cc)

  anew-told : (b : Bool) (s : Sleeping) → list_any ends_for_want (of_sleepers.sleep_anew_by b w s).next ≡ true → ⊥
  anew-told true s e = absurd (cc)
  anew-told false s e = absurd (cc)

  listed-told : (b : Bool) (n : ℕ) (s : Sleeping) →
      list_any ends_for_want (of_sleepers.sleep_listed_by b w n s).next ≡ true → ⊥
  listed-told true n s e = absurd (cc)
  listed-told false n s e = absurd (cc)

  goes-told : (o : Option Sleeping) (t : TickOrRun) →
      list_any ends_for_want (of_sleepers.sleeper_goes o ++ of_sleepers.pend_as t) ≡ true → ⊥
  goes-told None t e = absurd (cc)
  goes-told (Some s) t e = by s.waker e
    where
      by : (a : Waker) → list_any ends_for_want (acts.waker_goes a ++ of_sleepers.pend_as t) ≡ true → ⊥
      by (Task g) k = absurd (cc)
      by (Outside x) k = absurd (cc)

  again-told : (o : Option ℕ) (n : ℕ) (s : Sleeping) →
      list_any ends_for_want (of_sleepers.sleep_again_by o w n s).next ≡ true →
      ⊥
  again-told None n s e = listed-told _ n s e
  again-told (Some at) n s e = goes-told (waker_at (Some at) w.sleepers.wakers) s.who e

  sleep-told : (x : Ticker) (s : Sleeping) → list_any ends_for_want (of_sleepers.fall_asleep_by x w s).next ≡ true → ⊥
  sleep-told Awake s e = anew-told _ s e
  sleep-told (Asleep n) s e = again-told _ n s e
  sleep-told Left s e = absurd (cc)

  copied-told : (refused small : Bool) (s : Sleeping) →
      list_any ends_for_want (of_sleepers.copy_sleeper_by (refused || not small) w s).next ≡ true →
      (refused ≡ true) ⊎ (small ≡ false)
  copied-told true small s e = inl refl
  copied-told false true s e = absurd (cc)
  copied-told false false s e = inr refl

  outside-copied-told : (refused : Bool) (s : Sleeping) →
      list_any ends_for_want (of_sleepers.copy_sleeper_by refused w s).next
      ≡ true → refused ≡ true
  outside-copied-told true s e = refl
  outside-copied-told false s e = absurd (cc)

  many : (n : ℕ) → nat_lt n most_references ≡ false → most_references ≤ n
  many n e = grind (arith, nat_tests)

  sleeper-told : (h : Hint) (a : Waker) (t : TickOrRun) (k : ℕ) →
      list_any ends_for_want (of_sleepers.copy_sleeper h w (record { waker = a; who = t; poll = k })).next ≡ true →
      (h.refused ≡ true) ⊎ IsFull a w
  sleeper-told h (Task g) t k e =
      ⊎_elim (λ (x : h.refused ≡ true). inl x)
      (λ (x : nat_lt (task w g).references most_references ≡ false). inr (many (task w g).references x))
      (copied-told h.refused (nat_lt (task w g).references most_references)
      (record { waker = Task g; who = t; poll = k }) e)
  sleeper-told h (Outside x) t k e =
      inl (outside-copied-told h.refused (record { waker = Outside x; who = t; poll = k }) e)

  who-told : (who : TickOrRun) (s : Sleeping) → list_any ends_for_want (search_by_who who p w s).next ≡ true → ⊥
  who-told (TickOrRun.Tick t) s e = absurd (cc)
  who-told (TickOrRun.Run r) s e =
      not-both _ e (untold-search ends_for_want untold-want w (record { run = r; waker = s.waker; poll = s.poll }))

  -- a call that isn't answered so goes on so
  left-told : (a : Reply) → is_no_memory a ≡ false → (is_no_memory a || false) ≡ true → ⊥
  left-told a n e = not-both _ e (ap (λ (x : Bool). x || false) n)

  made-told : (b : Bool) → list_any ends_for_want (of_runs.make_run_by b w).next ≡ true → b ≡ true
  made-told true e = refl
  made-told false e = absurd (cc)

  list-told : (h : Hint) (o : ListOp) → ends_for_want (Op.List o) ≡ false →
      list_any ends_for_want (list_act h o w).next ≡ true → h.refused ≡ true
  list-told h (ListOp.LockWrite (Section.Unregister r a)) n e = absurd (left-told a n e)
  list-told h (ListOp.Write Section.MakeRun) n e = made-told h.refused e
  list-told h (ListOp.Write (Section.Unregister r a)) n e = absurd (left-told a n e)
  list-told h (ListOp.LockRead x) n e = absurd (not-both _ e
      (untold-walk ends_for_want untold-want (λ s. refl) x _ _ _))
  list-told h _ n e = absurd (cc)

  room-told : (b : Bool) → list_any ends_for_want (of_runs.make_room_by b w).next ≡ true → b ≡ true
  room-told true e = refl
  room-told false e = absurd (cc)

  reschedule-told : (q : List ℕ) (r : ℕ) (a : Reply) → is_no_memory a ≡ false →
      list_any ends_for_want (of_runs.reschedule_by q w r a).next ≡ true → ⊥
  reschedule-told [] r a n e = left-told a n e
  reschedule-told (f ∷ rest) r a n e = left-told a n e

  run-told : (h : Hint) (o : RunOp) → ends_for_want (Op.Run o) ≡ false →
      list_any ends_for_want (run_act p h o w).next ≡ true → h.refused ≡ true
  run-told h RunOp.MakeRoom n e = room-told h.refused e
  run-told h RunOp.ReturnRoom n e = absurd (cc)
  run-told h (RunOp.TakeTurn x) n e = absurd (not-both _ e (untold-turn ends_for_want untold-want p w x))
  run-told h (RunOp.SearchCommon x l) n e = absurd (not-both _ e (untold-common ends_for_want untold-want w x l))
  run-told h (RunOp.LookOwn x at left) n e =
      absurd (not-both _ e (untold-look ends_for_want untold-want (λ s. refl) w x at left))
  run-told h (RunOp.WakeOwn x) n e =
      absurd
      (not-both _ (wants-refuse (run_act p h (RunOp.WakeOwn x) w).next e)
      ((needs-no-memory w p).goes_on h (Op.Run (RunOp.WakeOwn x)) refl))
  run-told h (RunOp.Reschedule r a) n e = absurd (reschedule-told _ r a n e)

  told : (h : Hint) (o : Op) → ends_for_want o ≡ false → list_any ends_for_want (act p h o w).next ≡ true →
      (h.refused ≡ true) ⊎ CopiesOneTooMany o w
  told h (Op.Table (TableOp.Enter mark)) n e = inl (enter-told _ h.refused mark e)
  told h (Op.Waker (WakerOp.CopyWaker f held)) n e =
      ⊎_elim (λ (x : h.refused ≡ true). inl x)
      (λ (x : nat_lt (task w f).references most_references ≡ false). inr (many (task w f).references x))
      (copy-told h.refused (nat_lt (task w f).references most_references) f held e)
  told h (Op.Handle (HandleOp.Look f a)) n e =
      absurd (look-told (task w f).closed (is_going (task w f)) (task w f).completed f a e)
  told h (Op.Handle (HandleOp.CopyAwaiter f (Task g))) n e =
      ⊎_elim (λ (x : h.refused ≡ true). inl x)
      (λ (x : nat_lt (task w g).references most_references ≡ false). inr (many (task w g).references x))
      (awaiter-told h.refused (nat_lt (task w g).references most_references) f (Task g) e)
  told h (Op.Handle (HandleOp.CopyAwaiter f (Outside x))) n e = inl (outside-told h.refused f (Outside x) e)
  told h (Op.Tick TickOp.MakeTick) n e = inl (make-told h.refused e)
  told h (Op.Tick (TickOp.Search s)) n e = absurd (who-told s.who s e)
  told h (Op.Tick (TickOp.Look s l)) n e = absurd (look-tick-told (place_of w s.who) l _ s e)
  told h (Op.Tick (TickOp.CopyWaker s)) n e = sleeper-told h s.waker s.who s.poll e
  told h (Op.Tick (TickOp.FallAsleep s)) n e = absurd (sleep-told (place_of w s.who) s e)
  told h (Op.User (UserOp.PollOwn x)) n e = absurd (cc)
  told h (Op.List o) n e = inl (list-told h o n e)
  told h (Op.Steal o) n e = absurd (not-both _ e (untold-steal ends_for_want untold-want p o w))
  told h (Op.Run o) n e = inl (run-told h o n e)
  told h (Op.End r held) n e = absurd (cc)
  told h o n e = absurd (not-both _ (wants-refuse (act p h o w).next e) ((needs-no-memory w p).goes_on h o refl))

  none-with : (o : Option ℕ) (d : ℕ → Done) → ((f : ℕ) → list_any ends_for_want (d f).next ≡ false) →
      list_any ends_for_want (with_future w o d).next ≡ false
  none-with (Some f) d k = k f
  none-with None d k = refl

  poll-told : (t : Stage) (x : RunPoll) → list_any ends_for_want (poll_run t x) ≡ false
  poll-told New x = refl
  poll-told Listed x = refl
  poll-told Ended x = refl

  drop-told : (t : Stage) (r : ℕ) → list_any ends_for_want (drop_run t r) ≡ false
  drop-told New r = refl
  drop-told Listed r = refl
  drop-told Ended r = refl

  begins-told : (here : Option Waker) (c : Call) → list_any ends_for_want (begun p w here c).next ≡ false
  begins-told here (Call.Wake k) = none-with (kept w k) _ (λ f. refl)
  begins-told here (Call.WakeByRef k) = none-with (kept w k) _ (λ f. refl)
  begins-told here (Call.Copy k) = none-with (kept w k) _ (λ f. refl)
  begins-told here (Call.DropWaker k) = none-with (kept w k) _ (λ f. refl)
  begins-told here Call.Keep = none-with (future_of here) _ (λ f. refl)
  begins-told here Call.WakeSelf = none-with (future_of here) _ (λ f. refl)
  begins-told here (Call.PollRun r b) = poll-told (run_of w r).stage _
  begins-told here (Call.DropRun r) = drop-told (run_of w r).stage r
  begins-told here _ = refl

  follows-told : (o : Op) (e : UserEnd) → list_any ends_for_want (react p o e w).next ≡ false
  follows-told (Op.User (UserOp.Poll f)) (UserEnd.Polled Answer.Pending) = refl
  follows-told (Op.User (UserOp.Poll f)) (UserEnd.Polled Answer.Ready) = refl
  follows-told (Op.User (UserOp.PollOwn x)) (UserEnd.Polled Answer.Pending) = refl
  follows-told (Op.User (UserOp.PollOwn x)) (UserEnd.Polled Answer.Ready) = refl
  follows-told _ _ = refl

pub refused-changes-nothing : (w : World) (p : ℕ) → RefusedChangesNothing w p
refused-changes-nothing w p =
    record {
      begins = begins-unchanged p w;
      polls = λ here t b. refl;
      runs = λ here r b. refl;
      goes_on = unchanged p w;
      turns = turns p w;
      copies = λ h s. copies-unchanged p w _ s;
      sleeps = λ s. tick-sleeps p w (place_of w s.who) s;
      makes = λ h. room-unchanged p w h.refused;
      made = λ h. made-unchanged p w h.refused;
      returns = returned p w;
    }

pub want-is-told-of : (w : World) (p : ℕ) → IsWantToldOf w p
want-is-told-of w p = record { begins = begins-told p w; goes_on = told p w; follows = follows-told p w }
