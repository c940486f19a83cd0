-- For due_futures_stand_with_their_keepers.
-- Each thing that is done keeps a future away from the executor's queue (proofs/Placement/Safe), where it begins no poll of it and
-- brings nothing into a run's own queue or from there.
use Rattle.std.proofs.Common.{◌≡◌, ℕ, ◌+◌, ◌<◌, List, [], ◌∷◌, length, Bool, true, false, refl, ap, subst, arith}
use Rattle.std.proofs.lemmas.List.{length-set}
use Rattle.executor_laws.proofs.Types.{TickOp, UserOp, Hint, Move, Answer, Event, Look, First, Second, Op, RunOp, TickOrRun}
use Rattle.executor_model.specs.World.{World, Ticker, Awake, Asleep, Left, done, log, queue_of, task}
use Rattle.executor_model.specs.{Acts.mark_in, ActsOfSleepers.look_tick_by, Doing.act, Doing.search_by_who, Good.pasts}
use Rattle.executor_model.specs.{Rows.appends_of, Rows.past_of, Sound.Pend, Sound.with_ops, Weights.same, Weights.weigh}
use Rattle.executor_model.proofs.OneFuture.Extras.{runs_of, runs_of_who}
use Rattle.executor_model.proofs.Steps.Lists.{read_put, same_is}
use Rattle.executor_model.proofs.{Counts.Counting.taken_up, OneFuture.Effects.effect-act, Steps.QueuesByMark.times-first}
use Rattle.executor_laws.proofs.Placement.Safe.{Floor, KeepsSafe, Safe}
use Rattle.executor_laws.proofs.Placement.SafeRuns.{is_put, is_reschedule, safe-list, safe-run, safe-search_own, safe-steal}
use Rattle.executor_laws.proofs.{Types.Sleeping, Types.TableOp, Placement.SafeViews.safe-effect}

-- of another future, where the task is open
pub safe-take_up_open : (there : Bool) (p : ℕ) (w : World) (f : ℕ) → f < length w.tasks → (g : ℕ) (r : Pend) (nn : ℕ) →
    same g f ≡ 0 → Floor w g (with_ops g (Op.Move Move.TakeUp f ∷ []) r) →
    Safe w g (with_ops g (Op.Move Move.TakeUp f ∷ []) r) (weigh (appends_of g) (Op.Move Move.TakeUp f ∷ []) + nn) →
    Safe (taken_up false there p w f).world g (with_ops g (taken_up false there p w f).next r)
    (weigh (appends_of g) (taken_up false there p w f).next + nn)
safe-take_up_open there p w f i g r nn z bb h = grind (arith, same_is, read_put, length-set)

-- the answers of user code
pub safe-pending : (p : ℕ) (w : World) (f : ℕ) →
    KeepsSafe w (Op.User (UserOp.Poll f) ∷ [])
    (done (log w (Event.Answered p f Answer.Pending)) (Op.Table (TableOp.PutBack f) ∷ []))
safe-pending p w f g r nn bb h = grind (arith, same_is)

pub safe-ready : (p : ℕ) (w : World) (f : ℕ) →
    KeepsSafe w (Op.User (UserOp.Poll f) ∷ [])
    (done (log w (Event.Answered p f Answer.Ready)) (Op.User (UserOp.BeginDrop f) ∷ Op.Move Move.EndReady f ∷ []))
safe-ready p w f g r nn bb h = grind (arith, same_is)

-- no poll of a future begins by it, nothing comes into a run's own queue, and none is scheduled from there
abbrev pub IsTame : World → Op → Type 0
IsTame w (Op.Move Move.TakeUp f) = (task w f).closed ≡ true
IsTame w (Op.Steal o) = is_put o ≡ false
IsTame w (Op.Run o) = is_reschedule o ≡ false
IsTame w _ = Unit {0}

first : (o q : Op) → (o ∷ []) ≡ (q ∷ []) → o ≡ q
first o q e = cc

-- what no run does
safe-other : (p : ℕ) (h : Hint) (o : Op) (w : World) → length w.awaiters ≡ length w.tasks →
    pasts (length w.tasks) w.waking ≡ 0 → weigh (past_of (length w.tasks)) (o ∷ []) ≡ 0 → IsTame w o → runs_of o ≡ 0 →
    KeepsSafe w (o ∷ []) (act p h o w)
safe-other p h o w n u z m e = safe-effect w (o ∷ []) (act p h o w)
    (λ f q. subst (IsTame w) (first o (Op.Move Move.TakeUp f) q) m) (omega (arith, e)) (effect-act p h o w n u z)

safe-search : (who : TickOrRun) (p : ℕ) (h : Hint) (w : World) (s : Sleeping) → length w.awaiters ≡ length w.tasks →
    pasts (length w.tasks) w.waking ≡ 0 → weigh (past_of (length w.tasks)) (Op.Tick (TickOp.Search s) ∷ []) ≡ 0 →
    s.who ≡ who → KeepsSafe w (Op.Tick (TickOp.Search s) ∷ []) (search_by_who s.who p w s)
safe-search (TickOrRun.Tick t) p h w s n u z e =
    safe-other p h (Op.Tick (TickOp.Search s)) w n u z tt (ap runs_of_who e)
safe-search (TickOrRun.Run r) p h w s n u z e = rw e (safe-search_own w s r e)

-- a look takes one from a queue at most
safe-look : (look : Look) (x : Ticker) (q : List ℕ) (w : World) (s : Sleeping) → (queue_of w (mark_in look)).items ≡ q →
    KeepsSafe w (Op.Tick (TickOp.Look s look) ∷ []) (look_tick_by x w look q s)
safe-look (First mark) x [] w s e g r n b h = grind arith
safe-look (Second mark) x [] w s e g r n b h = grind arith
safe-look look Awake (f ∷ rest) w s e g r n b h =
    let z = times-first g f rest (mark_in look) w.queues e in grind (arith, same_is)
safe-look look (Asleep k) (f ∷ rest) w s e g r n b h =
    let z = times-first g f rest (mark_in look) w.queues e in grind (arith, same_is)
safe-look look Left (f ∷ rest) w s e g r n b h =
    let z = times-first g f rest (mark_in look) w.queues e in grind (arith, same_is)

-- each thing to do that speaks of futures that are there
pub safe-act : (p : ℕ) (h : Hint) (o : Op) (w : World) → length w.awaiters ≡ length w.tasks →
    pasts (length w.tasks) w.waking ≡ 0 → weigh (past_of (length w.tasks)) (o ∷ []) ≡ 0 → IsTame w o →
    KeepsSafe w (o ∷ []) (act p h o w)
safe-act p h (Op.List o) w n u z m = safe-list h o w
safe-act p h (Op.Steal o) w n u z m = safe-steal p o w m
safe-act p h (Op.Run (RunOp.WakeOwn x)) w n u z m = safe-other p h (Op.Run (RunOp.WakeOwn x)) w n u z m refl
safe-act p h (Op.Run RunOp.MakeRoom) w n u z m = safe-run p h RunOp.MakeRoom w tt
safe-act p h (Op.Run RunOp.ReturnRoom) w n u z m = safe-run p h RunOp.ReturnRoom w tt
safe-act p h (Op.Run (RunOp.TakeTurn x)) w n u z m = safe-run p h (RunOp.TakeTurn x) w tt
safe-act p h (Op.Run (RunOp.SearchCommon x look)) w n u z m = safe-run p h (RunOp.SearchCommon x look) w tt
safe-act p h (Op.Run (RunOp.LookOwn x at left)) w n u z m = safe-run p h (RunOp.LookOwn x at left) w tt
safe-act p h (Op.Run (RunOp.Reschedule r a)) w n u z m = absurd (cc)
safe-act p h (Op.Tick (TickOp.Search s)) w n u z m = safe-search s.who p h w s n u z refl
safe-act p h (Op.Tick (TickOp.Look s look)) w n u z m = safe-look look _ _ w s refl
safe-act p h o w n u z m = safe-other p h o w n u z m refl
