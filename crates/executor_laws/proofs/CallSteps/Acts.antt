-- Each operation leads to what `next` says, and so does each end of user code.
use Rattle.std.proofs.Common.{◌≡◌, ℕ, true, false, refl}
use Rattle.call_steps.{specs.declared.step.CallStep.CallStep, specs.declared.step.tick.TickStep.TickStep, specs.Next.next}
use Rattle.executor_laws.proofs.Types.{Answer, Op, TickOp, TickOrRun, UserOp, Waker, Hint, UserEnd}
use Rattle.executor_model.specs.declared.op.TickOrRun.TheVariants.{Tick, Run}
use Rattle.executor_model.specs.World.{World, own_of, place_of}
use Rattle.executor_model.specs.{Acts.is_copy_refused, Acts.stands_alone, Doing.search, Doing.tick_act}
use Rattle.executor_laws.specs.StepsOfCalls.{steps_of, tick_step_of, waker_of, who_of}
use Rattle.executor_laws.specs.{CallsFollow.ActsFollow, CallsFollow.AnswersFollow, SeenByCalls.searched, SeenByCalls.seen_tick}
use Rattle.executor_laws.proofs.CallSteps.Falling.{of-copy, of-falling, of-leaving, of-make, of-sleepers, of-ticks-look}
use Rattle.executor_laws.proofs.CallSteps.Handles.{of-handles, of-wakers}
use Rattle.executor_laws.proofs.CallSteps.Stealing.{of-lists, of-own, of-runs, of-steals}
use Rattle.executor_laws.proofs.CallSteps.Tables.{of-queue, of-table}
use Rattle.executor_laws.proofs.{CallSteps.Falling.of-waking, CallSteps.Closing.of-closings, CallSteps.Owing.of-move}

of-search : (who : TickOrRun) (p : ℕ) (w : World) (k : ℕ) (a : Waker) →
    steps_of (search p w (record { waker = a; who = who; poll = k })).next
    ≡ next (CallStep.Tick (TickStep.Search (record { waker = waker_of a; who = who_of who }))) (searched w who)
of-search (Tick t) p w k a = refl
of-search (Run r) p w k a = of-own (own_of w r) w r k a

of-ticks : (p : ℕ) (h : Hint) (o : TickOp) (w : World) →
    steps_of (tick_act p h o w).next ≡ next (CallStep.Tick (tick_step_of o)) (seen_tick h o w)
of-ticks p h TickOp.MakeTick w = of-make h.refused w
of-ticks p h (TickOp.Search s) w = of-search s.who p w s.poll s.waker
of-ticks p h (TickOp.Look s look) w = of-ticks-look look s.who w s.poll s.waker
of-ticks p h (TickOp.CopyWaker s) w = of-copy (is_copy_refused h w s.waker) w s
of-ticks p h (TickOp.FallAsleep s) w = of-falling (place_of w s.who) w s
of-ticks p h (TickOp.WakeUp who) w = of-waking (place_of w who) w who
of-ticks p h (TickOp.Leave who) w = of-leaving (place_of w who) w who

no : {A : Type 0} → true ≡ false → A
no e = absurd (cc)

no-more : {A : Type 0} → false ≡ true → A
no-more e = absurd (cc)

pub acts-follow : ActsFollow
acts-follow p h (Op.Move m f) w is = of-move (stands_alone m) m p w f
acts-follow p h (Op.Table o) w is = of-table p h o w
acts-follow p h (Op.Queue o) w is = of-queue p o w
acts-follow p h (Op.User (UserOp.BeginDrop f)) w is = refl
acts-follow p h (Op.User (UserOp.BeginDropOutput f)) w is = refl
acts-follow p h (Op.User (UserOp.Poll f)) w is = no is
acts-follow p h (Op.User (UserOp.Drop f)) w is = no is
acts-follow p h (Op.User (UserOp.DropOutput f)) w is = no is
acts-follow p h (Op.User (UserOp.CallOutside x)) w is = no is
acts-follow p h (Op.User (UserOp.PollOwn x)) w is = no is
acts-follow p h (Op.User (UserOp.DropOwn r)) w is = no is
acts-follow p h (Op.Waker o) w is = of-wakers p h o w
acts-follow p h (Op.Handle o) w is = of-handles p h o w
acts-follow p h (Op.Sleeper o) w is = of-sleepers p o w
acts-follow p h (Op.Tick o) w is = of-ticks p h o w
acts-follow p h (Op.List o) w is = of-lists h o w
acts-follow p h (Op.Steal o) w is = of-steals p o w
acts-follow p h (Op.Run o) w is = of-runs p h o w
acts-follow p h (Op.Closing o) w is = of-closings p o w
acts-follow p h (Op.End r held) w is = refl

pub answers-follow : AnswersFollow
answers-follow p (Op.User (UserOp.Poll f)) (UserEnd.Polled Answer.Pending) w is = refl
answers-follow p (Op.User (UserOp.Poll f)) (UserEnd.Polled Answer.Ready) w is = refl
answers-follow p (Op.User (UserOp.Poll f)) UserEnd.Done w is = refl
answers-follow p (Op.User (UserOp.Drop f)) (UserEnd.Polled Answer.Pending) w is = refl
answers-follow p (Op.User (UserOp.Drop f)) (UserEnd.Polled Answer.Ready) w is = refl
answers-follow p (Op.User (UserOp.Drop f)) UserEnd.Done w is = refl
answers-follow p (Op.User (UserOp.DropOutput f)) (UserEnd.Polled Answer.Pending) w is = refl
answers-follow p (Op.User (UserOp.DropOutput f)) (UserEnd.Polled Answer.Ready) w is = refl
answers-follow p (Op.User (UserOp.DropOutput f)) UserEnd.Done w is = refl
answers-follow p (Op.User (UserOp.CallOutside x)) (UserEnd.Polled Answer.Pending) w is = refl
answers-follow p (Op.User (UserOp.CallOutside x)) (UserEnd.Polled Answer.Ready) w is = refl
answers-follow p (Op.User (UserOp.CallOutside x)) UserEnd.Done w is = refl
answers-follow p (Op.User (UserOp.PollOwn x)) (UserEnd.Polled Answer.Pending) w is = refl
answers-follow p (Op.User (UserOp.PollOwn x)) (UserEnd.Polled Answer.Ready) w is = refl
answers-follow p (Op.User (UserOp.PollOwn x)) UserEnd.Done w is = refl
answers-follow p (Op.User (UserOp.DropOwn r)) (UserEnd.Polled Answer.Pending) w is = refl
answers-follow p (Op.User (UserOp.DropOwn r)) (UserEnd.Polled Answer.Ready) w is = refl
answers-follow p (Op.User (UserOp.DropOwn r)) UserEnd.Done w is = refl
answers-follow p (Op.User (UserOp.BeginDrop f)) e w is = no-more is
answers-follow p (Op.User (UserOp.BeginDropOutput f)) e w is = no-more is
answers-follow p (Op.Move m f) e w is = no-more is
answers-follow p (Op.Table o) e w is = no-more is
answers-follow p (Op.Queue o) e w is = no-more is
answers-follow p (Op.Waker o) e w is = no-more is
answers-follow p (Op.Handle o) e w is = no-more is
answers-follow p (Op.Sleeper o) e w is = no-more is
answers-follow p (Op.Tick o) e w is = no-more is
answers-follow p (Op.List o) e w is = no-more is
answers-follow p (Op.Steal o) e w is = no-more is
answers-follow p (Op.Run o) e w is = no-more is
answers-follow p (Op.Closing o) e w is = no-more is
answers-follow p (Op.End r held) e w is = no-more is
