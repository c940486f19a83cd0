-- For what_is_made_is_new.
-- Ticks are only added, and a poll of one begins only where it is there.
use Rattle.std.proofs.Common.{◌≡◌, ◌∙◌, ℕ, ◌<◌, ◌≤◌, List, [], ◌∷◌, ◌++◌, length, Bool, true, false, ◌&&◌, eqb, refl, sym, ap}
use Rattle.std.proofs.Common.{subst, arith, length-append, get_or}
use Rattle.std.specs.Prelude.{Option, Some, None, reverse}
use Rattle.std.{proofs.lemmas.Bool.Decides.nat_tests, proofs.lemmas.List.get_or_past, proofs.lemmas.List.length-set}
use Rattle.executor_parts.specs.Sleepers.{next_number}
use Rattle.executor_model.specs.{World.tick_of, World.ticks_with, Acts.append_by, Good.Good, Rows.ticking_of, Trace.has}
use Rattle.executor_model.proofs.{Steps.Reached.Reached, Steps.TraceMore.has-append, Steps.Ways.Way, Steps.Ways.along}
use Rattle.executor_laws.proofs.{Types.Outside, Types.Task, Types.Hint, Types.Step, Types.UserEnd, Placement.Ran.has-same}
use Rattle.executor_laws.proofs.Types.{Mark, Look, First, Second, Move, Call, Reply, Answer, Event, Kind, Hold, ListOp, Op, QueueOp, RunOp}
use Rattle.executor_laws.proofs.Types.{Section, SleeperOp, Sleeping, StealOp, TickOp, TickOrRun, UserOp, Waker}
use Rattle.executor_model.specs.ActsOfSleepers.{copy_sleeper_by, exchange_by, fall_asleep_by, hand_out_by, leave_sleepers_by, make_tick_by}
use Rattle.executor_model.specs.ActsOfSleepers.{polled_as, look_tick_by, sleep_again_by, sleep_anew_by, sleep_listed_by, wake_up_by}
use Rattle.executor_model.specs.Steps.{Machine, accepts, begun, has_all, has_tick, lives, mine, react, run, stack, start, top, future_of}
use Rattle.executor_model.specs.Steps.{is_known, is_unused, kept, with_future}
use Rattle.executor_model.specs.World.{Asleep, Awake, Done, Ended, Left, Listed, New, Stage, Ticker, World, done, log, own_of}
use Rattle.executor_model.specs.ActsOfRuns.{make_room_by, make_run_by, registered}
use Rattle.executor_model.specs.Doing.{act, list_act, search_by_who, sleeper_act, tick_act}
use Rattle.executor_laws.specs.Makings.{polls_tick}
use Rattle.executor_model.proofs.Sleepers.SleepersAway.{Away, SleepersSeen, away-act, away-call, away-own, is_seen_asleep}
use Rattle.executor_model.proofs.Steps.Lift.{good-start, none_refused, unsettled}
use Rattle.executor_model.proofs.Steps.TraceGrows.{Allows, AllowsCall, Grows, grows-act, grows-begun, grows-react, is_ordinary}
use Rattle.executor_model.proofs.Steps.Ways.Way.{acted, called, reacted}

-- ticks are only added

record Keeps (w v : World) : Type 0 where
  pub few : length w.ticks ≤ length v.ticks

with-length : (ts : List Ticker) (who : TickOrRun) (x : Ticker) → length ts ≤ length (ticks_with ts who x)
with-length ts (TickOrRun.Tick t) x = omega (arith, length-set ts t x)
with-length ts (TickOrRun.Run r) x = omega arith

seen-keeps : (w : World) (d : Done) → Away w d → Keeps w d.world
seen-keeps w d a = record { few = omega (arith, ap (λ (v : SleepersSeen). length v.ticks) a.sleepers_seen) }

keeps-append : (b : Bool) (w : World) (mark : Mark) (f : ℕ) → Keeps w (append_by b w mark f).world
keeps-append true w mark f = record { few = omega arith }
keeps-append false w mark f = record { few = omega arith }

keeps-exchange : (b : Bool) (w : World) → Keeps w (exchange_by b w).world
keeps-exchange true w = record { few = omega arith }
keeps-exchange false w = record { few = omega arith }

keeps-hand_out : (b : Bool) (o : Option Sleeping) (w : World) → Keeps w (hand_out_by b o w).world
keeps-hand_out true o w = record { few = omega arith }
keeps-hand_out false o w = record { few = omega arith }

keeps-sleeper : (p : ℕ) (o : SleeperOp) (w : World) → Keeps w (sleeper_act p o w).world
keeps-sleeper p SleeperOp.ExchangeFlag w = keeps-exchange _ w
keeps-sleeper p SleeperOp.HandOut w = keeps-hand_out _ _ w
keeps-sleeper p (SleeperOp.CallSleeper s) w =
    seen-keeps w _ (away-call p w (polled_as s.who) s.waker s.poll)

keeps-make : (b : Bool) (w : World) → Keeps w (make_tick_by b w).world
keeps-make true w = record { few = omega arith }
keeps-make false w = record { few = omega (arith, length-append w.ticks (Awake ∷ [])) }

keeps-search : (look : Look) (x : Ticker) (w : World) (q : List ℕ) (s : Sleeping) → Keeps w (look_tick_by x w look q s).world
keeps-search (First mark) x w [] s = record { few = omega arith }
keeps-search (Second mark) x w [] s = record { few = omega arith }
keeps-search look x w (f ∷ rest) s = record { few = omega arith }

keeps-who : (who : TickOrRun) (p : ℕ) (w : World) (s : Sleeping) → Keeps w (search_by_who who p w s).world
keeps-who (TickOrRun.Tick t) p w s = record { few = omega arith }
keeps-who (TickOrRun.Run r) p w s =
    seen-keeps w _ (away-own (own_of w r) w (record { run = r; waker = s.waker; poll = s.poll }))

keeps-copied : (b : Bool) (w : World) (a : Waker) (who : TickOrRun) (poll : ℕ) →
    Keeps w (copy_sleeper_by b w (record { waker = a; who = who; poll = poll })).world
keeps-copied true w a who poll = record { few = omega arith }
keeps-copied false w (Task g) who poll = record { few = omega arith }
keeps-copied false w (Outside x) who poll = record { few = omega arith }

keeps-anew : (b : Bool) (w : World) (s : Sleeping) → Keeps w (sleep_anew_by b w s).world
keeps-anew true w s = record { few = with-length w.ticks s.who (Asleep (next_number w.sleepers)) }
keeps-anew false w s = record { few = omega arith }

keeps-listed : (b : Bool) (w : World) (n : ℕ) (s : Sleeping) → Keeps w (sleep_listed_by b w n s).world
keeps-listed true w n s = record { few = omega arith }
keeps-listed false w n s = record { few = omega arith }

keeps-again : (o : Option ℕ) (w : World) (n : ℕ) (s : Sleeping) → Keeps w (sleep_again_by o w n s).world
keeps-again (Some at) w n s = record { few = omega arith }
keeps-again None w n s = keeps-listed _ w n s

keeps-asleep : (x : Ticker) (w : World) (s : Sleeping) → Keeps w (fall_asleep_by x w s).world
keeps-asleep Awake w s = keeps-anew _ w s
keeps-asleep (Asleep n) w s = keeps-again _ w n s
keeps-asleep Left w s = record { few = omega arith }

keeps-up : (x : Ticker) (w : World) (who : TickOrRun) → Keeps w (wake_up_by x w who).world
keeps-up (Asleep n) w who = record { few = with-length w.ticks who Awake }
keeps-up Awake w who = record { few = omega arith }
keeps-up Left w who = record { few = omega arith }

keeps-leave : (x : Ticker) (w : World) (who : TickOrRun) → Keeps w (leave_sleepers_by x w who).world
keeps-leave (Asleep n) w who = record { few = with-length w.ticks who Left }
keeps-leave Awake w who = record { few = with-length w.ticks who Left }
keeps-leave Left w who = record { few = omega arith }

keeps-tick : (p : ℕ) (h : Hint) (o : TickOp) (w : World) → Keeps w (tick_act p h o w).world
keeps-tick p h TickOp.MakeTick w = keeps-make h.refused w
keeps-tick p h (TickOp.Search s) w = keeps-who s.who p w s
keeps-tick p h (TickOp.Look s look) w = keeps-search look _ w _ s
keeps-tick p h (TickOp.CopyWaker s) w = keeps-copied _ w s.waker s.who s.poll
keeps-tick p h (TickOp.FallAsleep s) w = keeps-asleep _ w s
keeps-tick p h (TickOp.WakeUp who) w = keeps-up _ w who
keeps-tick p h (TickOp.Leave who) w = keeps-leave _ w who

keeps-made : (b : Bool) (w : World) → Keeps w (make_run_by b w).world
keeps-made true w = record { few = omega arith }
keeps-made false w = record { few = omega arith }

keeps-registered : (x : Stage) (w : World) (r : ℕ) → Keeps w (registered x w r)
keeps-registered New w r = record { few = omega arith }
keeps-registered Listed w r = record { few = omega arith }
keeps-registered Ended w r = record { few = omega arith }

keeps-list : (h : Hint) (o : ListOp) (w : World) → Keeps w (list_act h o w).world
keeps-list h (ListOp.LockWrite s) w = record { few = omega arith }
keeps-list h (ListOp.Write Section.MakeRun) w = keeps-made h.refused w
keeps-list h (ListOp.Write (Section.Register x)) w = keeps-registered _ w x.run
keeps-list h (ListOp.Write (Section.Unregister r a)) w = record { few = omega arith }
keeps-list h ListOp.UnlockWrite w = record { few = omega arith }
keeps-list h (ListOp.LockRead x) w = record { few = omega arith }
keeps-list h ListOp.UnlockRead w = record { few = omega arith }

keeps-room : (b : Bool) (w : World) → Keeps w (make_room_by b w).world
keeps-room true w = record { few = omega arith }
keeps-room false w = record { few = omega arith }

keeps-seen : (p : ℕ) (h : Hint) (o : Op) (w : World) → is_seen_asleep o ≡ true → Keeps w (act p h o w).world
keeps-seen p h (Op.Queue (QueueOp.Append f)) w z = keeps-append _ w _ f
keeps-seen p h (Op.Sleeper o) w z = keeps-sleeper p o w
keeps-seen p h (Op.Tick o) w z = keeps-tick p h o w
keeps-seen p h (Op.List o) w z = keeps-list h o w
keeps-seen p h (Op.Run RunOp.MakeRoom) w z = keeps-room h.refused w
keeps-seen p h (Op.Run RunOp.ReturnRoom) w z = record { few = omega arith }
keeps-seen p h _ w z = absurd (cc)

keeps-act : (p : ℕ) (h : Hint) (o : Op) (w : World) → Keeps w (act p h o w).world
keeps-act p h o w = by (is_seen_asleep o) refl
  where
    by : (b : Bool) → is_seen_asleep o ≡ b → Keeps w (act p h o w).world
    by true z = keeps-seen p h o w z
    by false z = seen-keeps w _ (away-act p h o w z)

keeps-react : (p : ℕ) (o : Op) (u : UserEnd) (w : World) → accepts o u ≡ true → Keeps w (react p o u w).world
keeps-react p (Op.User (UserOp.Poll f)) (UserEnd.Polled Answer.Pending) w a = record { few = omega arith }
keeps-react p (Op.User (UserOp.PollOwn x)) (UserEnd.Polled Answer.Pending) w a = record { few = omega arith }
keeps-react p _ _ w a = record { few = omega arith }

keeps-with : (w v : World) (o : Option ℕ) (d : ℕ → Done) → v.ticks ≡ w.ticks → ((f : ℕ) → (d f).world.ticks ≡ w.ticks) →
    Keeps w (with_future v o d).world
keeps-with w v (Some f) d e k = record { few = omega (arith, ap (λ (ts : List Ticker). length ts) (k f)) }
keeps-with w v None d e k = record { few = omega (arith, ap (λ (ts : List Ticker). length ts) e) }

keeps-begun : (p : ℕ) (w : World) (here : Option Waker) (c : Call) → Keeps w (begun p w here c).world
keeps-begun p w here (Call.Wake k) = keeps-with w w (kept w k) _ refl (λ f. refl)
keeps-begun p w here (Call.WakeByRef k) = keeps-with w w (kept w k) _ refl (λ f. refl)
keeps-begun p w here (Call.Copy k) = keeps-with w w (kept w k) _ refl (λ f. refl)
keeps-begun p w here (Call.DropWaker k) = keeps-with w w (kept w k) _ refl (λ f. refl)
keeps-begun p w here Call.Keep = keeps-with w w (future_of here) _ refl (λ f. refl)
keeps-begun p w here Call.WakeSelf = keeps-with w w (future_of here) _ refl (λ f. refl)
keeps-begun p w here _ = record { few = omega arith }

-- no poll begins of a tick that isn't there

ordinary-asks : (n : ℕ) (e : Event) → is_ordinary e ≡ true → polls_tick n e ≡ false
ordinary-asks n (Event.CallBegun p c) z = absurd (cc)
ordinary-asks n _ z = refl

abbrev Unasked : Machine → Type 0
Unasked s = (n : ℕ) → length s.world.ticks ≤ n → has (polls_tick n) s.world.trace ≡ false

abbrev Quiet : ℕ → World → World → Type 0
Quiet n w v = Grows (polls_tick n) (ordinary-asks n) w v

allows : (n p : ℕ) (o : Op) → Allows (polls_tick n) (ordinary-asks n) p o
allows n p (Op.Move Move.TakeUp f) = refl
allows n p (Op.Steal (StealOp.Put s more f)) = refl
allows n p (Op.End a held) = refl
allows n p _ = tt

allows-call : (n p : ℕ) (c : Call) → AllowsCall (polls_tick n) (ordinary-asks n) p c
allows-call n p (Call.PollRun r b) = refl
allows-call n p (Call.DropRun r) = refl
allows-call n p _ = tt

still : (n : ℕ) (w v : World) → Quiet n w v → has (polls_tick n) w.trace ≡ false → has (polls_tick n) v.trace ≡ false
still n w v g z = ap (has (polls_tick n)) g.is ∙ has-append (polls_tick n) w.trace g.more z g.none

lives-there : (ts : List Ticker) (t n : ℕ) → lives (get_or ts t Left) ≡ true → length ts ≤ n → eqb n t ≡ false
lives-there ts t n k l = by (eqb n t) refl
  where
    gone : n ≡ t → ⊥
    gone e = let z : lives Left ≡ true = ap lives (sym (get_or_past ts t Left (omega (arith, l, e)))) ∙ k in
        let no : false ≡ true = z in cc

    by : (b : Bool) → eqb n t ≡ b → b ≡ false
    by false e = refl
    by true e = absurd (gone (grind (arith, nat_tests)))

both-true : (a b : Bool) → (a && b) ≡ true → a ≡ true
both-true true b e = refl
both-true false b e = absurd (cc)

asked-there : (s : Machine) (o : Option Op) (p n : ℕ) (c : Call) → has_all s.world s.parties o c ≡ true →
    length s.world.ticks ≤ n → polls_tick n (Event.CallBegun p c) ≡ false
asked-there s o p n (Call.PollTick t b) k l =
    lives-there s.world.ticks t n (both-true (lives (tick_of s.world t)) (is_unused (ticking_of t) s.parties)
    (both-true (has_tick s.world s.parties t) (is_known o b) k)) l
asked-there s o p n _ k l = refl

unasked-moves : (s : Machine) (p : ℕ) (old rest : List Op) (d : Done) → Good s → p < length s.parties →
    stack s p ≡ rest ++ reverse old → Way s p old rest d → Unasked s → Unasked (unsettled s p rest d)
unasked-moves s p old rest d fine l e (acted h o i z) u n m =
    let k : length s.world.ticks ≤ length d.world.ticks =
    (subst (λ (x : Done). Keeps s.world x.world) (sym z) (keeps-act p h o s.world)).few in
    still n s.world d.world (subst (λ (x : Done). Quiet n s.world x.world) (sym z)
    (grows-act (polls_tick n) (ordinary-asks n) p h o s.world (allows n p o))) (u n (omega (arith, k, m)))
unasked-moves s p old rest d fine l e (reacted o v a i z) u n m =
    let k : length s.world.ticks ≤ length d.world.ticks =
    (subst (λ (x : Done). Keeps s.world x.world) (sym z) (keeps-react p o v s.world a)).few in
    still n s.world d.world (subst (λ (x : Done). Quiet n s.world x.world) (sym z)
    (grows-react (polls_tick n) (ordinary-asks n) p o v s.world a)) (u n (omega (arith, k, m)))
unasked-moves s p old rest d fine l e (called c i r k z) u n m =
    let w : World = log s.world (Event.CallBegun p c) in
    let j : length s.world.ticks ≤ length d.world.ticks =
    (subst (λ (x : Done). Keeps w x.world) (sym z) (keeps-begun p w (mine (top (stack s p))) c)).few in
    still n w d.world (subst (λ (x : Done). Quiet n w x.world) (sym z)
    (grows-begun (polls_tick n) (ordinary-asks n) p w (mine (top (stack s p))) c (allows-call n p c)))
    (has-same (polls_tick n) s.world.trace (Event.CallBegun p c)
    (asked-there s (top (stack s p)) p n c (none_refused s.world s.parties (top (stack s p)) c k).1 (omega (arith, j, m)))
    ∙ u n (omega (arith, j, m)))

unasked-ends : (s : Machine) (p : ℕ) (a : Reply) (held : Hold) (below : List Op) → p < length s.parties →
    stack s p ≡ below ++ reverse (Op.End a held ∷ []) → Unasked s →
    Unasked (unsettled s p below (done (log s.world (Event.CallEnded p a)) []))
unasked-ends s p a held below l e u n m = has-same (polls_tick n) s.world.trace (Event.CallEnded p a) refl ∙ u n m

unasked-start : (limit : ℕ) (kind : Kind) (parties : ℕ) → Unasked (start limit kind parties)
unasked-start limit kind parties n m = refl

unasked : (limit : ℕ) (kind : Kind) (parties : ℕ) (steps : List Step) → Unasked (run steps (start limit kind parties))
unasked limit kind parties steps = along Unasked unasked-moves unasked-ends steps (start limit kind parties)
    (good-start limit kind parties) (unasked-start limit kind parties)

pub next-unasked : (s : Machine) → Reached s → has (polls_tick (length s.world.ticks)) s.world.trace ≡ false
next-unasked s y =
    let u : Unasked s = subst Unasked (sym y.is) (unasked y.limit y.kind y.parties y.steps) in
    u (length s.world.ticks) (omega arith)
