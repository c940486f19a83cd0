-- For no_poll_begins_after_a_cancel and drops_of_outputs_are_entered.
-- Only the moves of a task tell of a poll that begins, a cancel or a last waker, and only its beginning tells of an output's drop.
use Rattle.std.proofs.Common.{◌≡◌, ◌∙◌, ℕ, List, [], ◌∷◌, ◌++◌, Bool, true, false, not, refl, sym, ap, append-nil}
use Rattle.std.proofs.lemmas.List.{append_assoc, append_cancel_left}
use Rattle.std.specs.Prelude.{Option, Some, None}
use Rattle.task_moves.specs.declared.moves.owed.Answer.{Answer}
use Rattle.task_moves.specs.declared.moves.owed.Answer.TheVariants as answer
use Rattle.task_moves.specs.Moves as moves
use Rattle.executor_model.specs.Acts as acts
use Rattle.executor_model.specs.ActsOfRuns as runs
use Rattle.executor_model.specs.ActsOfSleepers as sleepers
use Rattle.executor_model.specs.Doing.{act, search_by_who}
use Rattle.executor_model.specs.Steps.{begun, react}
use Rattle.executor_model.specs.Trace.{Trace, has}
use Rattle.executor_model.specs.World.{Awake, Asleep, Left, Ticker, World, log, log_if, put_own, task}
use Rattle.executor_model.proofs.Steps.Parts.{Answers, Begins, Parts, Stay, by-begun, by-react}
use Rattle.executor_model.proofs.Steps.Parts.Answers.{answered}
use Rattle.executor_model.proofs.Steps.RunsMoves.{Same, moves-common, moves-length, moves-list, moves-look, moves-make_room}
use Rattle.executor_model.proofs.Steps.RunsMoves.{moves-own_length, moves-refused, moves-reschedule, moves-return_room}
use Rattle.executor_model.proofs.Steps.RunsMoves.{moves-take, same-found}
use Rattle.executor_model.proofs.Steps.Tests.{or-false}
use Rattle.executor_model.proofs.Steps.TraceMore.{has-append}
use Rattle.call_laws.proofs.Types.{Call, ClosingOp, Event, First, HandleOp, Hint, Hold, Look, Mark, Move, Moved, Op}
use Rattle.call_laws.proofs.Types.{Outside, Plain, Polled, QueueOp, RunOp, RunPoll, Second, SleeperOp, Sleeping, Steal, StealOp}
use Rattle.call_laws.proofs.Types.{TableOp, Task, TickOp, TickOrRun, Urgent, UserEnd, UserOp, Waker, WakerOp}

-- many things tell of it
abbrev pub is_common : Event → Bool
is_common (Event.PollBegun p f) = false
is_common (Event.Cancelled p f) = false
is_common (Event.LastWaker p f) = false
is_common (Event.OutputDropped p f) = false
is_common _ = true

-- a task moves, or the drop of an output begins
abbrev pub is_telling : Op → Bool
is_telling (Op.Move m f) = true
is_telling (Op.User (UserOp.BeginDropOutput f)) = true
is_telling _ = false

-- what is added passes no such test as passes no common event
module _ (t : Event → Bool) (u : (e : Event) → is_common e ≡ true → t e ≡ false) where
  pub record Silent (w v : World) : Type 0 where
    pub more : Trace
    pub is : v.trace ≡ w.trace ++ more
    pub none : has t more ≡ false

  still : (w v : World) → v.trace ≡ w.trace → Silent w v
  still w v e = record { more = []; is = e ∙ sym (append-nil w.trace); none = refl }

  one : (w v : World) (e : Event) → v.trace ≡ w.trace ++ e ∷ [] → is_common e ≡ true → Silent w v
  one w v e q c = record { more = e ∷ []; is = q; none = or-false (t e) (u e c) }

  both : (w v x : World) → Silent w v → Silent v x → Silent w x
  both w v x a b = record {
    more = a.more ++ b.more;
    is = b.is ∙ (ap (λ (xs : Trace). xs ++ b.more) a.is ∙ append_assoc w.trace a.more b.more);
    none = has-append t a.more b.more a.none b.none;
  }

  pub silent-is : (w v : World) (more : Trace) → v.trace ≡ w.trace ++ more → Silent w v → has t more ≡ false
  silent-is w v more e h = ap (has t) (append_cancel_left w.trace more h.more (sym e ∙ h.is)) ∙ h.none

  same : (w v : World) → Same w v → Silent w v
  same w v s = still w v s.trace

  maybe : (b : Bool) (w : World) (e : Event) → is_common e ≡ true → Silent w (log_if b w e)
  maybe true w e c = one w _ e refl c
  maybe false w e c = still w w refl

  module _ (p : ℕ) where
    wakes : (w : World) (f : ℕ) → Silent w (acts.move_by true Move.Wake p w f).world
    wakes w f =
        let b : Bool = not (moves.is_over (task w f)) in
        both w (log_if b w (Event.Woken p f)) _ (maybe b w (Event.Woken p f) refl) (still _ _ refl)

    calls : (w : World) (o : Polled) (a : Waker) (k : ℕ) → Silent w (acts.call_waker p w o a k).world
    calls w o (Task g) k =
        let v : World = log w (Event.WakerCalled p o k (Task g)) in both w v _ (one w v _ refl refl) (wakes v g)
    calls w o (Outside x) k = one w _ (Event.WakerCalled p o k (Outside x)) refl refl

    refers : (w : World) (a : Waker) → Silent w (runs.call_by_reference p w a).world
    refers w (Task g) =
        let b : Bool = not (moves.is_over (task w g)) in
        both w (log_if b w (Event.Woken p g)) _ (maybe b w (Event.Woken p g) refl) (still _ _ refl)
    refers w (Outside y) = still w w refl

    wakes-own : (w : World) (x : RunPoll) → Silent w (runs.wake_own p w x).world
    wakes-own w x =
        let v : World = log w (Event.WakerCalled p (Polled.Run x.run) x.poll x.waker) in
        both w v _ (one w v _ refl refl) (refers v x.waker)

    enters : (b c : Bool) (mark : Mark) (w : World) → Silent w (acts.enter_by b c mark p w).world
    enters true c mark w = still w w refl
    enters false true mark w = still w w refl
    enters false false mark w = one w _ (Event.Accepted p _) refl refl

    leaves : (b : Bool) (w : World) (f : ℕ) → Silent w (acts.leave_by b w f).world
    leaves true w f = still w _ refl
    leaves false w f = still w _ refl

    takes : (look : Look) (q : List ℕ) (w : World) → Silent w (acts.take_by w look q).world
    takes (First mark) [] w = still w _ refl
    takes (Second mark) [] w = still w _ refl
    takes look (f ∷ rest) w = still w _ refl

    appends : (b : Bool) (w : World) (mark : Mark) (f : ℕ) → Silent w (acts.append_by b w mark f).world
    appends true w mark f = still w _ refl
    appends false w mark f = still w _ refl

    copies : (b : Bool) (w : World) (f : ℕ) (held : Hold) → Silent w (acts.copy_by b w f held).world
    copies true w f held = still w _ refl
    copies false w f held = still w _ refl

    answers : (w : World) (f : ℕ) (m : Moved) (a : Answer) → Silent w (acts.answered p w f m a).world
    answers w f m answer.Output = one w _ (Event.OutputGiven p f) refl refl
    answers w f m answer.Refused = still w _ refl
    answers w f m answer.Pending = still w _ refl
    answers w f m answer.Closed = still w _ refl

    looks : (x : Option Answer) (w : World) (f : ℕ) (a : Waker) (m : Moved) → Silent w (acts.look_by x p w f a m).world
    looks None w f a m = still w _ refl
    looks (Some x) w f a m =
        both w (acts.polled p w f) _ (one w _ (Event.HandlePolled p f) refl refl) (answers (acts.polled p w f) f m x)

    looks-again : (x : Option Answer) (w : World) (f : ℕ) (m : Moved) → Silent w (acts.look_again_by x p w f m).world
    looks-again None w f m = still w _ refl
    looks-again (Some x) w f m = answers w f m x

    copies-awaiter : (b : Bool) (w : World) (f : ℕ) (a : Waker) → Silent w (acts.copy_awaiter_by b p w f a).world
    copies-awaiter true w f a = still w _ refl
    copies-awaiter false w f (Task g) = one w _ (Event.HandlePolled p f) refl refl
    copies-awaiter false w f (Outside x) = one w _ (Event.HandlePolled p f) refl refl

    registers : (b : Bool) (w : World) (f : ℕ) (a : Waker) (k : ℕ) → Silent w (acts.register_by b w f a k).world
    registers true w f a k = still w _ refl
    registers false w f a k = still w _ refl

    ends-register : (b : Bool) (w : World) (f : ℕ) (a : Waker) (k : ℕ) → Silent w (acts.end_register_by b w f a k).world
    ends-register true w f a k = still w _ refl
    ends-register false w f a k = still w _ refl

    notifies : (b : Bool) (w : World) (f : ℕ) (mine : Bool) → Silent w (acts.notify_by b w f mine).world
    notifies true w f mine = still w _ refl
    notifies false w f mine = still w _ refl

    lets-go : (b : Bool) (w : World) (f : ℕ) → Silent w (acts.let_go_by b w f).world
    lets-go true w f = still w _ refl
    lets-go false w f = still w _ refl

    drops-next : (w : World) (ls : List ℕ) → Silent w (acts.drop_next_by p w ls).world
    drops-next w [] = still w _ refl
    drops-next w (f ∷ rest) = one w _ (Event.Dropped p f) refl refl

    wakes-next : (w : World) (ws : List ℕ) → Silent w (acts.wake_next_by p w ws).world
    wakes-next w [] = still w _ refl
    wakes-next w (f ∷ rest) =
        let v : World = record w { waking = rest } in both w v _ (still w v refl) (wakes v f)

    leaks-out : (b : Bool) (w : World) → Silent w (acts.leak_out_by b w).world
    leaks-out true w = still w _ refl
    leaks-out false w = still w _ refl

    leaks-next : (b : Bool) (w : World) (ws : List ℕ) → Silent w (acts.leak_next_by b p w ws).world
    leaks-next true w ws = still w _ refl
    leaks-next false w [] = still w _ refl
    leaks-next false w (f ∷ rest) =
        let v = (acts.wake_next_by p w (f ∷ rest)).world in
        both w v _ (wakes-next w (f ∷ rest)) (one v _ (Event.Leaked p f) refl refl)

    drains : (mark : Mark) (w : World) (q : List ℕ) → Silent w (acts.drain_by p w mark q).world
    drains Urgent w [] = still w _ refl
    drains Plain w [] = one w _ (Event.DropEnded p) refl refl
    drains mark w (f ∷ rest) = still w _ refl

    -- sleepers and ticks

    exchanges : (b : Bool) (w : World) → Silent w (sleepers.exchange_by b w).world
    exchanges true w = still w _ refl
    exchanges false w = still w _ refl

    hands-out : (b : Bool) (s : Option Sleeping) (w : World) → Silent w (sleepers.hand_out_by b s w).world
    hands-out true s w = still w _ refl
    hands-out false s w = still w _ refl

    makes : (b : Bool) (w : World) → Silent w (sleepers.make_tick_by b w).world
    makes true w = still w _ refl
    makes false w = still w _ refl

    searches : (look : Look) (x : Ticker) (q : List ℕ) (w : World) (s : Sleeping) →
        Silent w (sleepers.look_tick_by x w look q s).world
    searches (First mark) x [] w s = still w _ refl
    searches (Second mark) x [] w s = still w _ refl
    searches look x (f ∷ rest) w s = still w _ refl

    copied : (w : World) (a : Waker) → Silent w (acts.copied w a)
    copied w (Task g) = still w _ refl
    copied w (Outside x) = still w _ refl

    copies-sleeper : (b : Bool) (w : World) (s : Sleeping) → Silent w (sleepers.copy_sleeper_by b w s).world
    copies-sleeper true w s = still w _ refl
    copies-sleeper false w s = copied w s.waker

    sleeps-anew : (b : Bool) (w : World) (s : Sleeping) → Silent w (sleepers.sleep_anew_by b w s).world
    sleeps-anew true w s = still w _ refl
    sleeps-anew false w s = still w _ refl

    sleeps-listed : (b : Bool) (w : World) (n : ℕ) (s : Sleeping) → Silent w (sleepers.sleep_listed_by b w n s).world
    sleeps-listed true w n s = still w _ refl
    sleeps-listed false w n s = still w _ refl

    sleeps-again : (at : Option ℕ) (w : World) (n : ℕ) (s : Sleeping) → Silent w (sleepers.sleep_again_by at w n s).world
    sleeps-again None w n s = sleeps-listed _ w n s
    sleeps-again (Some at) w n s = still w _ refl

    sleeps : (x : Ticker) (w : World) (s : Sleeping) → Silent w (sleepers.fall_asleep_by x w s).world
    sleeps Awake w s = sleeps-anew _ w s
    sleeps (Asleep n) w s = sleeps-again _ w n s
    sleeps Left w s = still w _ refl

    wakes-up : (x : Ticker) (w : World) (who : TickOrRun) → Silent w (sleepers.wake_up_by x w who).world
    wakes-up Awake w who = still w _ refl
    wakes-up (Asleep n) w who = still w _ refl
    wakes-up Left w who = still w _ refl

    leaves-sleepers : (x : Ticker) (w : World) (who : TickOrRun) → Silent w (sleepers.leave_sleepers_by x w who).world
    leaves-sleepers Awake w who = still w _ refl
    leaves-sleepers (Asleep n) w who = still w _ refl
    leaves-sleepers Left w who = still w _ refl

    -- runs

    searches-own : (q : List ℕ) (w : World) (x : RunPoll) → Silent w (runs.search_own_by q w x).world
    searches-own [] w x = still w _ refl
    searches-own (f ∷ rest) w x =
        let v = put_own w x.run rest in both w v _ (still w v refl) (same v (runs.found v x f).world (same-found v x f))

    searches-who : (who : TickOrRun) (w : World) (s : Sleeping) → Silent w (search_by_who who p w s).world
    searches-who (TickOrRun.Tick t) w s = one w _ (Event.Looked p _) refl refl
    searches-who (TickOrRun.Run q) w s = searches-own _ w (record { run = q; waker = s.waker; poll = s.poll })

    puts : (b : Bool) (w : World) (s : Steal) (more f : ℕ) → Silent w (runs.steal_put_by b p w s more f).world
    puts true w s more f =
        let x = runs.kept_by p w s.poll.run f in
        both w x _ (one w x (Event.Kept p f s.poll.run) refl refl) (same x _ (moves-own_length more more x s).same)
    puts false w s more f = same w _ (moves-refused s.then w s.poll s.from more f).same

    pub silent-act : (h : Hint) (o : Op) (w : World) → is_telling o ≡ false → Silent w (act p h o w).world
    silent-act h (Op.Table (TableOp.Enter mark)) w z = enters _ _ mark w
    silent-act h (Op.Table (TableOp.LeaveTable f)) w z = leaves _ w f
    silent-act h (Op.Queue QueueOp.TakeTurn) w z = one w _ (Event.Looked p _) refl refl
    silent-act h (Op.Queue (QueueOp.Take look)) w z = takes look _ w
    silent-act h (Op.Queue (QueueOp.Append f)) w z = appends _ w _ f
    silent-act h (Op.User (UserOp.BeginDrop f)) w z = one w _ (Event.Dropped p f) refl refl
    silent-act h (Op.Waker (WakerOp.CopyWaker f held)) w z = copies _ w f held
    silent-act h (Op.Waker (WakerOp.CallAwaiter f a k)) w z = calls w (Polled.Handle f) a k
    silent-act h (Op.Handle (HandleOp.Look f a)) w z = looks (moves.poll (task w f)).owed.answer w f a _
    silent-act h (Op.Handle (HandleOp.CopyAwaiter f a)) w z = copies-awaiter _ w f a
    silent-act h (Op.Handle (HandleOp.Register f a k)) w z = registers _ w f a k
    silent-act h (Op.Handle (HandleOp.EndRegister f a k)) w z = ends-register _ w f a k
    silent-act h (Op.Handle (HandleOp.LookAgain f)) w z = looks-again (moves.look_again (task w f)).owed.answer w f _
    silent-act h (Op.Handle (HandleOp.Notify f mine)) w z = notifies _ w f mine
    silent-act h (Op.Handle (HandleOp.EndNotify f mine)) w z = still w _ refl
    silent-act h (Op.Handle (HandleOp.LetGo f)) w z = lets-go _ w f
    silent-act h (Op.Sleeper SleeperOp.ExchangeFlag) w z = exchanges _ w
    silent-act h (Op.Sleeper SleeperOp.HandOut) w z = hands-out _ _ w
    silent-act h (Op.Sleeper (SleeperOp.CallSleeper s)) w z = calls w (sleepers.polled_as s.who) s.waker s.poll
    silent-act h (Op.Tick TickOp.MakeTick) w z = makes _ w
    silent-act h (Op.Tick (TickOp.Search s)) w z = searches-who s.who w s
    silent-act h (Op.Tick (TickOp.Look s look)) w z = searches look _ _ w s
    silent-act h (Op.Tick (TickOp.CopyWaker s)) w z = copies-sleeper _ w s
    silent-act h (Op.Tick (TickOp.FallAsleep s)) w z = sleeps _ w s
    silent-act h (Op.Tick (TickOp.WakeUp who)) w z = wakes-up _ w who
    silent-act h (Op.Tick (TickOp.Leave who)) w z = leaves-sleepers _ w who
    silent-act h (Op.List o) w z = same w _ (moves-list h o w).same
    silent-act h (Op.Steal (StealOp.Length s)) w z = same w _ (moves-length _ w s).same
    silent-act h (Op.Steal (StealOp.OwnLength s n)) w z = same w _ (moves-own_length _ n w s).same
    silent-act h (Op.Steal (StealOp.Take s more)) w z = same w _ (moves-take s.from _ w s.poll s.then more refl).same
    silent-act h (Op.Steal (StealOp.Put s more f)) w z = puts _ w s more f
    silent-act h (Op.Run RunOp.MakeRoom) w z = same w _ (moves-make_room _ w).same
    silent-act h (Op.Run RunOp.ReturnRoom) w z = same w _ (moves-return_room w).same
    silent-act h (Op.Run (RunOp.TakeTurn x)) w z = one w _ (Event.Looked p _) refl refl
    silent-act h (Op.Run (RunOp.SearchCommon x look)) w z = same w _ (moves-common look _ w x refl).same
    silent-act h (Op.Run (RunOp.LookOwn x at left)) w z = same w _ (moves-look _ w x at left refl).same
    silent-act h (Op.Run (RunOp.WakeOwn x)) w z = wakes-own w x
    silent-act h (Op.Run (RunOp.Reschedule n a)) w z = same w _ (moves-reschedule _ w n a refl).same
    silent-act h (Op.Closing ClosingOp.DropNext) w z = drops-next w _
    silent-act h (Op.Closing ClosingOp.WakeNext) w z = wakes-next w _
    silent-act h (Op.Closing (ClosingOp.Drain mark)) w z = drains mark w _
    silent-act h (Op.Closing ClosingOp.LeakOut) w z = leaks-out _ w
    silent-act h (Op.Closing ClosingOp.LeakNext) w z = leaks-next _ w _
    silent-act h (Op.End a held) w z = one w _ (Event.CallEnded p a) refl refl
    silent-act h (Op.Move m f) w z = absurd (cc)
    silent-act h (Op.User (UserOp.BeginDropOutput f)) w z = absurd (cc)
    silent-act h o w z = still w _ refl

    -- the end of user code, and the beginning of a call

    parts : {T : Event → Type 0} (x a b c : Bool) → ((e : Event) → T e → is_common e ≡ true) → Parts Silent T x a b c
    parts x a b c k = record {
      aside = λ w v e. still w v (ap (λ (x : Stay). x.trace) (sym e));
      both = both;
      moved = λ w f s. still w _ refl;
      stored = λ w f x. still w _ refl;
      placed = λ w f x y. still w _ refl;
      kept = λ w ws y. still w _ refl;
      turned = λ w n y. still w _ refl;
      listed = λ w x ts ls ks y. still w _ refl;
      entered = λ w s m y. still w _ refl;
      tells = λ w e z. one w _ e refl (k e z);
    }

    common-answer : {o : Op} {e : Event} → Answers p o e → is_common e ≡ true
    common-answer (answered f a) = refl

    pub silent-react : (o : Op) (e : UserEnd) (w : World) → Silent w (react p o e w).world
    silent-react o e w = by-react Silent p o e w (parts _ _ _ _ (λ x k. common-answer k))

    common-begun : {c : Call} {e : Event} → Begins p c e → is_common e ≡ true
    common-begun (Begins.tick_polled t b) = refl
    common-begun (Begins.tick_dropped t) = refl
    common-begun (Begins.run_polled r b) = refl
    common-begun (Begins.run_dropped r) = refl
    common-begun Begins.drop_begun = refl

    pub silent-called : (w : World) (here : Option Waker) (c : Call) →
        Silent w (begun p (log w (Event.CallBegun p c)) here c).world
    silent-called w here c = let v : World = log w (Event.CallBegun p c) in
        both w v _ (one w v (Event.CallBegun p c) refl refl)
        (by-begun Silent p v here c (parts _ _ _ _ (λ e k. common-begun k)))
