-- For no_comes_at_once.
-- A party that may be answered no next has done nothing since its call began but take a turn for a tick.
use Rattle.std.proofs.Common.{◌≡◌, ◌≢◌, ℕ, ◌≤◌, List, [], ◌∷◌, ◌++◌, Bool, true, false, ◌||◌, ◌&&◌, not}
use Rattle.std.proofs.Common.{cond, eqb, refl, ap, ◌∙◌, ⊎_elim, arith, append-nil}
use Rattle.std.proofs.lemmas.Bool.Decides.{nat_tests}
use Rattle.std.proofs.lemmas.List.Elements.{filter-append}
use Rattle.std.specs.List.{filter}
use Rattle.std.specs.Prelude.{Option, Some, None, is_none}
use Rattle.executor_parts.specs.Sleepers.{waker_at, waker_of}
use Rattle.task_moves.specs.declared.moves.owed.Answer.{Answer}
use Rattle.task_moves.specs.declared.moves.owed.Answer.TheVariants.{Refused, Pending, Closed, Output}
use Rattle.task_moves.specs.declared.moves.owed.AwaiterDebt.{AwaiterDebt}
use Rattle.task_moves.specs.declared.moves.owed.AwaiterDebt.TheVariants.{NotifyAwaiter, NotifyOther, CallGiven}
use Rattle.task_moves.specs.declared.moves.owed.AwaiterDebt.TheVariants.{StoreCopy, CallStored, TakeAwaiter, CallTaken}
use Rattle.executor_laws.proofs.Types.{Look, First, Second, Mark, Move, Moved, Call, Reply, Event, Awaiter, Hold, Op, HandleOp, ListOp}
use Rattle.executor_laws.proofs.Types.{Polled, QueueOp, RunOp, Section, TickOrRun, Sleeping, TableOp, TickOp, UserOp, WakerOp, Waker, Task}
use Rattle.executor_laws.proofs.Types.{Outside, Hint}
use Rattle.executor_model.specs.{Quiet.begins_call, Trace.Trace, Trace.has, World.World, World.Ticker, World.Awake, World.Asleep}
use Rattle.executor_model.specs.{World.Left, World.log, World.task, World.awaiter_of, Carried.awaiter_ops, Acts.enter_by, Acts.copy_by}
use Rattle.executor_model.specs.{Acts.answered, Acts.polled, Acts.look_by, Acts.let_go, Acts.look_again_by, Acts.copy_awaiter_by}
use Rattle.executor_model.specs.{Acts.register_by, Acts.end_register_by, ActsOfSleepers.make_tick_by, ActsOfSleepers.look_tick_by}
use Rattle.executor_model.specs.{ActsOfSleepers.copy_sleeper_by, ActsOfSleepers.pend_as, ActsOfSleepers.sleep_anew_by}
use Rattle.executor_model.specs.{ActsOfSleepers.sleeper_goes, ActsOfSleepers.sleep_listed_by, ActsOfSleepers.sleep_again_by}
use Rattle.executor_model.specs.{ActsOfSleepers.fall_asleep_by, ActsOfSleepers.wake_up_by, ActsOfSleepers.tell_and_return}
use Rattle.executor_model.specs.{ActsOfSleepers.leave_sleepers_by, Doing.act, Doing.list_act, Doing.run_act, Doing.search_by_who}
use Rattle.executor_model.specs.{Doing.tick_act, Weights.weigh, Deeds.doer, Deeds.is_by, Deeds.deeds}
use Rattle.executor_model.proofs.{Quiet.Calls.calling_of, Quiet.CallsGroups.calls-act, Steps.Lists.weigh-append, Quiet.Resting.calling-is}
use Rattle.executor_model.proofs.{Steps.RunsNext.BlindToSearches, Steps.RunsNext.common-unseen, Steps.RunsNext.look-unseen}
use Rattle.executor_model.proofs.{Steps.RunsNext.own-unseen, Steps.RunsNext.steal-unseen, Steps.RunsNext.walk-unseen}
use Rattle.executor_model.proofs.{Steps.SleepersNext.goes-unseen, Steps.SleepersNext.tell-unseen, Steps.Tests.left-false}
use Rattle.executor_model.proofs.{Steps.Tests.right-false, Steps.Deeds.ends_one, Steps.Deeds.is_end, Steps.Deeds.Grows, Steps.Deeds.not-by}
use Rattle.task_moves.specs.Moves as moves
use Rattle.executor_model.specs.ActsOfRuns as runs

abbrev pub is_refusal : Reply → ℕ
is_refusal Reply.No = 1
is_refusal _ = 0

-- what is answered no next, if it is
abbrev pub quick_of : Op → ℕ
quick_of (Op.Queue QueueOp.TakeTurn) = 1
quick_of (Op.Queue (QueueOp.Take look)) = 1
quick_of (Op.Table TableOp.LookAtTable) = 1
quick_of (Op.End r held) = is_refusal r
quick_of _ = 0

-- and what is answered so later, which nothing is
abbrev pub hasty : Op → ℕ
hasty (Op.List (ListOp.LockWrite (Section.Unregister r a))) = is_refusal a
hasty (Op.List (ListOp.Write (Section.Unregister r a))) = is_refusal a
hasty (Op.Run (RunOp.Reschedule r a)) = is_refusal a
hasty o = quick_of o

-- of what p did, b being the last before: each answer no stands behind a tick's turn, or behind the beginning of another call
abbrev pub is_no : Event → Bool
is_no (Event.CallEnded p Reply.No) = true
is_no _ = false

-- what p did last: begin a try of a tick, or then take a turn, or begin another call, or anything else
pub data Last : Type 0 where
  Tried : Last
  Turned : Last
  Asked : Last
  Other : Last

abbrev pub may : Last → Bool
may Tried = false
may Turned = true
may Asked = true
may Other = false

abbrev pub has_tried : Last → Bool
has_tried Tried = true
has_tried _ = false

abbrev pub on_turn : Last → Last
on_turn Tried = Turned
on_turn Turned = Other
on_turn Asked = Other
on_turn Other = Other

abbrev pub begun_by : Event → Last
begun_by (Event.CallBegun p Call.TryTick) = Tried
begun_by _ = Asked

abbrev pub last_by : Bool → ℕ → Last → Event → Last
last_by true p n e = begun_by e
last_by false p n (Event.Looked q m) = cond (eqb p q) (on_turn n) Other
last_by false p n _ = Other

abbrev pub last_after : ℕ → Last → Event → Last
last_after p n e = last_by (begins_call p e) p n e

abbrev pub told : ℕ → Last → Trace → Bool
told p b [] = true
told p b (e ∷ es) = (may b || not (is_no e)) && told p (last_after p b e) es

-- what came last
abbrev pub fresh : ℕ → Last → Trace → Last
fresh p b [] = b
fresh p b (e ∷ es) = fresh p (last_after p b e) es

-- it may be done where this came last
abbrev pub fits : Op → Last → Bool
fits (Op.Queue QueueOp.TakeTurn) b = has_tried b
fits _ b = may b

and-assoc : (a b c : Bool) → (a && (b && c)) ≡ ((a && b) && c)
and-assoc true b c = refl
and-assoc false b c = refl

both : (a b : Bool) → a ≡ true → b ≡ true → (a && b) ≡ true
both true b e k = k
both false b e k = absurd (cc)

either : (b c : Bool) → c ≡ false → (b || not c) ≡ true
either true c e = refl
either false true e = absurd (cc)
either false false e = refl

pub told-append : (p : ℕ) (b : Last) (xs ys : Trace) → told p b (xs ++ ys) ≡ (told p b xs && told p (fresh p b xs) ys)
told-append p b [] ys = refl
told-append p b (e ∷ xs) ys =
    let n = last_after p b e in
    ap (λ (x : Bool). (may b || not (is_no e)) && x) (told-append p n xs ys)
    ∙ and-assoc (may b || not (is_no e)) (told p n xs) (told p (fresh p n xs) ys)

pub fresh-append : (p : ℕ) (b : Last) (xs ys : Trace) → fresh p b (xs ++ ys) ≡ fresh p (fresh p b xs) ys
fresh-append p b [] ys = refl
fresh-append p b (e ∷ xs) ys = fresh-append p (last_after p b e) xs ys

no-ends : (e : Event) → ends_one e ≡ false → is_no e ≡ false
no-ends (Event.CallEnded p r) k = absurd (cc)
no-ends _ k = refl

-- no call ends, so none is answered
told-endless : (p : ℕ) (b : Last) (es : Trace) → has ends_one es ≡ false → told p b es ≡ true
told-endless p b [] k = refl
told-endless p b (e ∷ es) k = both (may b || not (is_no e)) (told p (last_after p b e) es)
    (either (may b) (is_no e) (no-ends e (left-false (ends_one e) (has ends_one es) k)))
    (told-endless p (last_after p b e) es (right-false (ends_one e) (has ends_one es) k))

-- what one party did of more

skips : (b : Bool) (e : Event) (es : Trace) → b ≡ false → cond b (e ∷ es) es ≡ es
skips true e es q = absurd (cc)
skips false e es q = refl

filter-none : (t : Event → Bool) (es : Trace) → has t es ≡ false → filter t es ≡ []
filter-none t [] k = refl
filter-none t (e ∷ es) k = skips (t e) e (filter t es) (left-false (t e) (has t es) k)
    ∙ filter-none t es (right-false (t e) (has t es) k)

kept-has : (b : Bool) (u : Event → Bool) (e : Event) (es : Trace) → u e ≡ false → has u es ≡ false →
    has u (cond b (e ∷ es) es) ≡ false
kept-has true u e es h r = ap (λ (x : Bool). x || has u es) h ∙ r
kept-has false u e es h r = r

filter-has : (t u : Event → Bool) (es : Trace) → has u es ≡ false → has u (filter t es) ≡ false
filter-has t u [] k = refl
filter-has t u (e ∷ es) k =
    kept-has (t e) u e (filter t es) (left-false (u e) (has u es) k)
    (filter-has t u es (right-false (u e) (has u es) k))

filter-push : (t : Event → Bool) (xs : Trace) (e : Event) →
    filter t (xs ++ e ∷ []) ≡ cond (t e) (filter t xs ++ e ∷ []) (filter t xs)
filter-push t xs e = filter-append t xs (e ∷ []) ∙ go (t e)
  where
    go : (b : Bool) → filter t xs ++ cond b (e ∷ []) [] ≡ cond b (filter t xs ++ e ∷ []) (filter t xs)
    go true = refl
    go false = append-nil (filter t xs)

pub deeds-other : (p q : ℕ) (w v : World) → Grows p w v → q ≢ p → deeds q v.trace ≡ deeds q w.trace
deeds-other p q w v g n =
    ap (deeds q) g.is ∙ (filter-append (is_by q) w.trace g.more
    ∙ (ap (λ (xs : Trace). deeds q w.trace ++ xs) (filter-none (is_by q) g.more (g.own q n))
    ∙ append-nil (deeds q w.trace)))

pub deeds-other_log : (p q : ℕ) (es : Trace) (e : Event) → doer e ≡ p → q ≢ p → deeds q (es ++ e ∷ []) ≡ deeds q es
deeds-other_log p q es e d n = filter-append (is_by q) es (e ∷ [])
    ∙ (ap (λ (xs : Trace). deeds q es ++ xs)
    (filter-none (is_by q) (e ∷ []) (ap (λ (x : Bool). x || false) (not-by p q e d n)))
    ∙ append-nil (deeds q es))

self : (p : ℕ) (e : Event) → doer e ≡ p → is_by p e ≡ true
self p e d = grind (arith, nat_tests)

pub deeds-own : (p : ℕ) (es : Trace) (e : Event) → doer e ≡ p → deeds p (es ++ e ∷ []) ≡ deeds p es ++ e ∷ []
deeds-own p es e d = filter-push (is_by p) es e ∙ go (is_by p e) (self p e d)
  where
    go : (b : Bool) → b ≡ true → cond b (deeds p es ++ e ∷ []) (deeds p es) ≡ deeds p es ++ e ∷ []
    go true q = refl
    go false q = absurd (cc)

-- whether what p did is told so, and what came last
abbrev pub is_told : ℕ → Trace → Bool
is_told p es = told p Other (deeds p es)

abbrev pub came_last : ℕ → Trace → Last
came_last p es = fresh p Other (deeds p es)

pub told-grows : (p : ℕ) (w v : World) → Grows p w v → is_told p w.trace ≡ true → is_told p v.trace ≡ true
told-grows p w v g t =
    ap (λ (xs : Trace). told p Other (deeds p xs)) g.is
    ∙ (ap (told p Other) (filter-append (is_by p) w.trace g.more)
    ∙ (told-append p Other (deeds p w.trace) (filter (is_by p) g.more)
    ∙ both (is_told p w.trace) (told p (came_last p w.trace) (filter (is_by p) g.more)) t
    (told-endless p (came_last p w.trace) (filter (is_by p) g.more)
    (filter-has (is_by p) ends_one g.more g.none_ends))))

pub told-log : (p : ℕ) (es : Trace) (e : Event) → doer e ≡ p → (may (came_last p es) || not (is_no e)) ≡ true →
    is_told p es ≡ true → is_told p (es ++ e ∷ []) ≡ true
told-log p es e d k t =
    ap (told p Other) (deeds-own p es e d)
    ∙ (told-append p Other (deeds p es) (e ∷ [])
    ∙ both (is_told p es) ((may (came_last p es) || not (is_no e)) && true) t
    (both (may (came_last p es) || not (is_no e)) true k refl))

pub fresh-log : (p : ℕ) (es : Trace) (e : Event) → doer e ≡ p → came_last p (es ++ e ∷ []) ≡ last_after p (came_last p es) e
fresh-log p es e d = ap (fresh p Other) (deeds-own p es e d) ∙ fresh-append p Other (deeds p es) (e ∷ [])

-- what is to do

few-refusals : (r : Reply) → is_refusal r ≤ 1
few-refusals Reply.No = omega arith
few-refusals _ = omega arith

hasty-calling : (o : Op) → hasty o ≤ calling_of o
hasty-calling (Op.Queue QueueOp.TakeTurn) = omega arith
hasty-calling (Op.Queue (QueueOp.Take look)) = omega arith
hasty-calling (Op.Table TableOp.LookAtTable) = omega arith
hasty-calling (Op.End r held) = omega (arith, few-refusals r)
hasty-calling (Op.List (ListOp.LockWrite (Section.Unregister r a))) = omega (arith, few-refusals a)
hasty-calling (Op.List (ListOp.Write (Section.Unregister r a))) = omega (arith, few-refusals a)
hasty-calling (Op.Run (RunOp.Reschedule r a)) = omega (arith, few-refusals a)
hasty-calling _ = omega arith

hasty-calling-all : (os : List Op) → weigh hasty os ≤ weigh calling_of os
hasty-calling-all [] = omega arith
hasty-calling-all (o ∷ os) = omega (arith, hasty-calling o, hasty-calling-all os)

slow-awaiter : (f : ℕ) (o : Option AwaiterDebt) → weigh hasty (awaiter_ops f o) ≡ 0
slow-awaiter f (Some NotifyAwaiter) = refl
slow-awaiter f (Some NotifyOther) = refl
slow-awaiter f (Some CallGiven) = refl
slow-awaiter f (Some StoreCopy) = refl
slow-awaiter f (Some CallStored) = refl
slow-awaiter f (Some TakeAwaiter) = refl
slow-awaiter f (Some CallTaken) = refl
slow-awaiter f None = refl

slow-answered : (p : ℕ) (w : World) (f : ℕ) (m : Moved) (a : Answer) → weigh hasty (answered p w f m a).next ≡ 0
slow-answered p w f m Refused = weigh-append hasty (awaiter_ops f m.owed.awaiter) _
    ∙ omega (arith, slow-awaiter f m.owed.awaiter)
slow-answered p w f m Pending = weigh-append hasty (awaiter_ops f m.owed.awaiter) _
    ∙ omega (arith, slow-awaiter f m.owed.awaiter)
slow-answered p w f m Closed = weigh-append hasty (awaiter_ops f m.owed.awaiter) _
    ∙ omega (arith, slow-awaiter f m.owed.awaiter)
slow-answered p w f m Output = weigh-append hasty (awaiter_ops f m.owed.awaiter) _
    ∙ omega (arith, slow-awaiter f m.owed.awaiter)

slow-look : (o : Option Answer) (p : ℕ) (w : World) (f : ℕ) (a : Waker) (m : Moved) →
    weigh hasty (look_by o p w f a m).next ≡ 0
slow-look None p w f a m = refl
slow-look (Some x) p w f a m = slow-answered p (polled p w f) f m x

slow-again : (o : Option Answer) (p : ℕ) (w : World) (f : ℕ) (m : Moved) →
    weigh hasty (look_again_by o p w f m).next ≡ 0
slow-again None p w f m = refl
slow-again (Some x) p w f m = slow-answered p w f m x

slow-copy_awaiter : (b : Bool) (p : ℕ) (w : World) (f : ℕ) (a : Waker) →
    weigh hasty (copy_awaiter_by b p w f a).next ≡ 0
slow-copy_awaiter true p w f a = refl
slow-copy_awaiter false p w f a = refl

slow-register : (b : Bool) (w : World) (f : ℕ) (a : Waker) (k : ℕ) → weigh hasty (register_by b w f a k).next ≡ 0
slow-register true w f a k = refl
slow-register false w f a k = refl

slow-let_go : (f : ℕ) (o : Option Awaiter) → weigh hasty (let_go o ++ Op.Handle (HandleOp.LookAgain f) ∷ []) ≡ 0
slow-let_go f None = refl
slow-let_go f (Some a) = go a.waker
  where
    go : (x : Waker) → weigh hasty (let_go (Some (record a { waker = x })) ++ Op.Handle (HandleOp.LookAgain f) ∷ [])
        ≡ 0
    go (Task g) = refl
    go (Outside x) = refl

slow-end_register : (b : Bool) (w : World) (f : ℕ) (a : Waker) (k : ℕ) →
    weigh hasty (end_register_by b w f a k).next ≡ 0
slow-end_register true w f a k = omega (arith, slow-let_go f (awaiter_of w f))
slow-end_register false w f a k = slow-let_go f (awaiter_of w f)

slow-enter : (b c : Bool) (mark : Mark) (p : ℕ) (w : World) → weigh hasty (enter_by b c mark p w).next ≡ 0
slow-enter true c mark p w = refl
slow-enter false true mark p w = refl
slow-enter false false mark p w = refl

slow-copy : (b : Bool) (w : World) (f : ℕ) (held : Hold) → weigh hasty (copy_by b w f held).next ≡ 0
slow-copy true w f held = refl
slow-copy false w f held = refl

slow-goes : (o : Option Sleeping) → weigh hasty (sleeper_goes o) ≡ 0
slow-goes o = goes-unseen hasty (λ f. refl) o

slow-make : (b : Bool) (w : World) → weigh hasty (make_tick_by b w).next ≡ 0
slow-make true w = refl
slow-make false w = refl

slow-search : (look : Look) (x : Ticker) (w : World) (q : List ℕ) (s : Sleeping) → weigh hasty (look_tick_by x w look q s).next ≡ 0
slow-search (First mark) x w [] s = refl
slow-search (Second mark) x w [] s = refl
slow-search look Awake w (f ∷ rest) s = refl
slow-search look (Asleep n) w (f ∷ rest) s = refl
slow-search look Left w (f ∷ rest) s = refl

slow-copy_sleeper : (b : Bool) (w : World) (s : Sleeping) → weigh hasty (copy_sleeper_by b w s).next ≡ 0
slow-copy_sleeper true w s = refl
slow-copy_sleeper false w s = refl

slow-anew : (b : Bool) (w : World) (s : Sleeping) → weigh hasty (sleep_anew_by b w s).next ≡ 0
slow-anew true w s = refl
slow-anew false w s = refl

slow-listed : (b : Bool) (w : World) (n : ℕ) (s : Sleeping) → weigh hasty (sleep_listed_by b w n s).next ≡ 0
slow-listed true w n s = refl
slow-listed false w n s = refl

slow-sleep_again : (o : Option ℕ) (w : World) (n : ℕ) (s : Sleeping) → weigh hasty (sleep_again_by o w n s).next ≡ 0
slow-sleep_again None w n s = slow-listed _ w n s
slow-sleep_again (Some at) w n s = let old = waker_at (Some at) w.sleepers.wakers in
    omega (arith, weigh-append hasty (sleeper_goes old) (pend_as s.who), slow-goes old)

slow-sleep : (x : Ticker) (w : World) (s : Sleeping) → weigh hasty (fall_asleep_by x w s).next ≡ 0
slow-sleep Awake w s = slow-anew _ w s
slow-sleep (Asleep n) w s = slow-sleep_again _ w n s
slow-sleep Left w s = refl

slow-up : (x : Ticker) (w : World) (who : TickOrRun) → weigh hasty (wake_up_by x w who).next ≡ 0
slow-up Awake w who = refl
slow-up (Asleep n) w who = slow-goes (waker_of n w.sleepers.wakers)
slow-up Left w who = refl

slow-leave : (x : Ticker) (w : World) (who : TickOrRun) → weigh hasty (leave_sleepers_by x w who).next ≡ 0
slow-leave Awake w who = refl
slow-leave (Asleep n) w who =
    let old = waker_of n w.sleepers.wakers in
    omega (
      arith,
      weigh-append hasty (sleeper_goes old) (tell_and_return (is_none old)),
      slow-goes old,
      tell-unseen hasty refl refl (is_none old),
    )
slow-leave Left w who = refl

-- what a run does

searching : BlindToSearches hasty
searching = record {
  exchange = refl;
  search = λ s. refl;
  copy = λ s. refl;
  up = λ who. refl;
  take_up = λ f. refl;
  steal = λ o. refl;
  lock = λ x. refl;
  unlock = refl;
  turn = λ x. refl;
  common = λ x look. refl;
  look = λ x at left. refl;
  wake = λ x. refl;
}

slow-searches : (who : TickOrRun) (p : ℕ) (w : World) (s : Sleeping) → weigh hasty (search_by_who who p w s).next ≡ 0
slow-searches (TickOrRun.Tick t) p w s = refl
slow-searches (TickOrRun.Run r) p w s = own-unseen hasty searching _ w _

slow-tick : (p : ℕ) (h : Hint) (o : TickOp) (w : World) → weigh hasty (tick_act p h o w).next ≡ 0
slow-tick p h TickOp.MakeTick w = slow-make _ w
slow-tick p h (TickOp.Search s) w = slow-searches s.who p w s
slow-tick p h (TickOp.Look s look) w = slow-search look _ w _ s
slow-tick p h (TickOp.CopyWaker s) w = slow-copy_sleeper _ w s
slow-tick p h (TickOp.FallAsleep s) w = slow-sleep _ w s
slow-tick p h (TickOp.WakeUp who) w = slow-up _ w who
slow-tick p h (TickOp.Leave who) w = slow-leave _ w who

slow-made : (b : Bool) (w : World) → weigh hasty (runs.make_run_by b w).next ≡ 0
slow-made true w = refl
slow-made false w = refl

slow-list : (h : Hint) (o : ListOp) (w : World) → hasty (Op.List o) ≡ 0 → weigh hasty (list_act h o w).next ≡ 0
slow-list h (ListOp.LockWrite (Section.Unregister r a)) w z = omega (arith, z)
slow-list h (ListOp.Write Section.MakeRun) w z = slow-made _ w
slow-list h (ListOp.Write (Section.Unregister r a)) w z = omega (arith, z)
slow-list h (ListOp.LockRead x) w z = walk-unseen hasty searching x w.listed _ _
slow-list h _ w z = refl

slow-wake : (p : ℕ) (h : Hint) (w : World) (a : Waker) → weigh hasty (runs.call_by_reference p w a).next ≡ 0
slow-wake p h w (Task g) =
    let next = (runs.call_by_reference p w (Task g)).next in
    omega (
      arith,
      hasty-calling-all next,
      (calls-act p h (Op.Move Move.WakeByReference g) w refl).passes.none refl,
    )
slow-wake p h w (Outside y) = refl

slow-reschedule : (q : List ℕ) (w : World) (r : ℕ) (a : Reply) → is_refusal a ≡ 0 →
    weigh hasty (runs.reschedule_by q w r a).next ≡ 0
slow-reschedule [] w r a z = omega (arith, z)
slow-reschedule (f ∷ rest) w r a z = omega (arith, z)

slow-room : (b : Bool) (w : World) → weigh hasty (runs.make_room_by b w).next ≡ 0
slow-room true w = refl
slow-room false w = refl

slow-run : (p : ℕ) (h : Hint) (o : RunOp) (w : World) → hasty (Op.Run o) ≡ 0 → weigh hasty (run_act p h o w).next ≡ 0
slow-run p h RunOp.MakeRoom w z = slow-room _ w
slow-run p h RunOp.ReturnRoom w z = refl
slow-run p h (RunOp.TakeTurn x) w z = refl
slow-run p h (RunOp.SearchCommon x look) w z = common-unseen hasty searching look _ w x
slow-run p h (RunOp.LookOwn x at left) w z = look-unseen hasty searching _ w x at left
slow-run p h (RunOp.WakeOwn x) w z =
    let v : World = log w (Event.WakerCalled p (Polled.Run x.run) x.poll x.waker) in
    let next = (runs.call_by_reference p v x.waker).next in
    omega (
      arith,
      weigh-append hasty next (Op.End Reply.Pending (Hold.Run x.run) ∷ []),
      slow-wake p h v x.waker,
    )
slow-run p h (RunOp.Reschedule r a) w z = slow-reschedule _ w r a z

-- of what answers a call
slow-calling : (p : ℕ) (h : Hint) (o : Op) (w : World) → calling_of o ≡ 1 → hasty o ≡ 0 → is_end o ≡ false →
    weigh hasty (act p h o w).next ≡ 0
slow-calling p h (Op.Table (TableOp.Enter mark)) w c z n = slow-enter _ _ _ p w
slow-calling p h (Op.Waker (WakerOp.CopyWaker f held)) w c z n = slow-copy _ w f held
slow-calling p h (Op.Handle (HandleOp.Look f a)) w c z n =
    slow-look (moves.poll (task w f)).owed.answer p w f a (moves.poll (task w f))
slow-calling p h (Op.Handle (HandleOp.CopyAwaiter f a)) w c z n = slow-copy_awaiter _ p w f a
slow-calling p h (Op.Handle (HandleOp.Register f a k)) w c z n = slow-register _ w f a k
slow-calling p h (Op.Handle (HandleOp.EndRegister f a k)) w c z n = slow-end_register _ w f a k
slow-calling p h (Op.Handle (HandleOp.LookAgain f)) w c z n =
    slow-again (moves.look_again (task w f)).owed.answer p w f (moves.look_again (task w f))
slow-calling p h (Op.Tick o) w c z n = slow-tick p h o w
slow-calling p h (Op.List o) w c z n = slow-list h o w z
slow-calling p h (Op.Steal o) w c z n = steal-unseen hasty searching (λ f. refl) p o w
slow-calling p h (Op.Run o) w c z n = slow-run p h o w z
slow-calling p h (Op.User (UserOp.PollOwn x)) w c z n = refl
slow-calling p h _ w c z n = absurd (cc)

pub slow-act : (p : ℕ) (h : Hint) (o : Op) (w : World) → hasty o ≡ 0 → is_end o ≡ false →
    weigh hasty (act p h o w).next ≡ 0
slow-act p h o w z n = ⊎_elim
    (λ (c : calling_of o ≡ 0). omega (arith, hasty-calling-all (act p h o w).next, (calls-act p h o w n).passes.none c))
    (λ (c : calling_of o ≡ 1). slow-calling p h o w c z n)
    (calling-is o)
