-- For queueings_are_counted.
-- Each step changes the queue as a closable queue changes.
use Rattle.std.proofs.Common.{◌≡◌, ◌⊎◌, inl, inr, ⊎_elim, ℕ, ◌+◌, ◌-◌, ◌<◌, ◌≤◌, List, [], ◌∷◌, ◌++◌, length, drop, Bool}
use Rattle.std.proofs.Common.{true, false, ◌&&◌, not, ltb, refl, sym, ap, ◌∙◌, subst, arith, length-append, Result}
use Rattle.std.proofs.lemmas.Bool.Decides.{nat_tests}
use Rattle.std.specs.Prelude.{Option, Some, None, reverse}
use Rattle.executor_parts.specs.Marks.{other}
use Rattle.queue_steps.specs.ClosableQueue.{ClosableQueue, most_accepted, HasRoom, appended, new_queue, taken, shut}
use Rattle.executor_laws.proofs.Types.{Mark, Plain, Urgent, Look, Call, Reply, Answer, Event, Kind, Waker, Op, ClosingOp, Polled, RunOp}
use Rattle.executor_laws.proofs.Types.{RunPoll, TickOrRun, Sleeping, Source, Common, Own, Steal, StealOp, TickOp, QueueOp, UserOp, Hint}
use Rattle.executor_laws.proofs.Types.{Step, Begin, Go, StepError, NoSuch, UserEnd}
use Rattle.executor_model.specs.Queues.{Queues, queue_in, with_queue}
use Rattle.executor_model.specs.World.{mark_of, queue_of, World, Ticker, Done, log}
use Rattle.executor_model.specs.Acts.{append_to, mark_in, takes_more, append_by, take_by, drain_by}
use Rattle.executor_model.specs.ActsOfSleepers.{look_tick_by}
use Rattle.executor_model.specs.Doing.{act, run_act, search_by_who, steal_act, tick_act}
use Rattle.executor_model.specs.Steps.{Machine, stack, top, below_top, refusal, go_refusal, unless, begun, react, future_of, mine, kept}
use Rattle.executor_model.specs.Steps.{with_future, settled_by, gone_on, after, step, stepped, run, start}
use Rattle.executor_model.proofs.Steps.QueuesByMark.{queue-put-same, with_last, with_shut, without_first_of}
use Rattle.executor_model.proofs.Steps.Lift.{topped, good}
use Rattle.executor_model.proofs.Table.LeavingExecutions.{placed, has-place}
use Rattle.executor_model.proofs.Table.Entering.{finds-place}
use Rattle.executor_model.proofs.Table.Spawning.{in-range}
use Rattle.executor_model.proofs.Steps.Stepping.{step-refused, step-made}
use Rattle.executor_model.proofs.Awaiters.RunsQueue.{queue-by_reference, queue-length, queue-list, queue-look, queue-more, queue-own}
use Rattle.executor_model.proofs.Awaiters.RunsQueue.{queue-put, queue-reschedule, queue-room, queue-stolen}
use Rattle.executor_model.proofs.Awaiters.SleepersWorlds.{Rest, sleeper-rest, tick-rest, searches}
use Rattle.executor_laws.specs.Queueings.{queued_by, queueings, counting, Changes, counted_after, CountsQueueings}
use Rattle.executor_laws.specs.Queueings.Changes.{stays, appends, takes, closes}
use Rattle.executor_model.specs.ActsOfRuns as runs
use Rattle.executor_model.proofs.OwnQueues.RunsAside.{Rest as Whole, frame-act}

-- what doing o does to the queues
pub data Turns (w : World) (o : Op) (new : Queues) : Type 0 where
  same : new ≡ w.queues → Turns w o new
  more : (f : ℕ) → o ≡ Op.Queue (QueueOp.Append f) → (queue_of w (mark_of w f)).closed ≡ false →
      new ≡ with_last (mark_of w f) f w.queues → Turns w o new
  less : (m : Mark) (f : ℕ) (rest : List ℕ) → (queue_of w m).items ≡ f ∷ rest → new ≡ without_first_of m w.queues →
      Turns w o new
  shuts : (m : Mark) → new ≡ with_shut m w.queues → Turns w o new

turns-append : (c : Bool) (l : Bool) (w : World) (f : ℕ) → (queue_of w (mark_of w f)).closed ≡ c →
    Turns w (Op.Queue (QueueOp.Append f)) (append_by (not c && l) w (mark_of w f) f).world.queues
turns-append true l w f e = same refl
turns-append false true w f e = more f refl e refl
turns-append false false w f e = same refl

turns-take : (w : World) (look : Look) (items : List ℕ) → (queue_of w (mark_in look)).items ≡ items →
    Turns w (Op.Queue (QueueOp.Take look)) (take_by w look items).world.queues
turns-take w look [] e = same refl
turns-take w look (f ∷ rest) e = less (mark_in look) f rest e refl

turns-drain : (mark : Mark) (p : ℕ) (w : World) (items : List ℕ) → (queue_of w mark).items ≡ items →
    Turns w (Op.Closing (ClosingOp.Drain mark)) (drain_by p w mark items).world.queues
turns-drain Urgent p w [] e = same refl
turns-drain Plain p w [] e = same refl
turns-drain mark p w (f ∷ rest) e = less mark f rest e refl

-- of what a tick does, its looks alone take
turns-look : (look : Look) (x : Ticker) (w : World) (items : List ℕ) (s : Sleeping) →
    (queue_of w (mark_in look)).items ≡ items →
    Turns w (Op.Tick (TickOp.Look s look)) (look_tick_by x w look items s).world.queues
turns-look look x w [] s e = same refl
turns-look look x w (f ∷ rest) s e = less (mark_in look) f rest e refl

-- what a run does changes it by takes alone

turns-stolen : (from : Source) (q : List ℕ) (w : World) (s : Steal) (left : ℕ) → s.from ≡ from →
    runs.source_of w from ≡ q →
    Turns w (Op.Steal (StealOp.Take s left)) (runs.steal_take_by q w s left).world.queues
turns-stolen from [] w s left i e = same (queue-stolen s.then w s.poll)
turns-stolen (Common mark) (f ∷ rest) w s left i e =
    less mark f rest e (ap (λ (a : Source). (runs.without_first w a rest).queues) i)
turns-stolen (Own r) (f ∷ rest) w s left i e = same (ap (λ (a : Source). (runs.without_first w a rest).queues) i)

turns-steal : (p : ℕ) (o : StealOp) (w : World) → Turns w (Op.Steal o) (steal_act p o w).world.queues
turns-steal p (StealOp.Length s) w = same (queue-length _ w s)
turns-steal p (StealOp.OwnLength s n) w = same (queue-more _ w s)
turns-steal p (StealOp.Take s left) w = turns-stolen s.from _ w s left refl refl
turns-steal p (StealOp.Put s left f) w = same (queue-put _ p w s left f)

turns-common : (look : Look) (q : List ℕ) (w : World) (x : RunPoll) → (queue_of w (mark_in look)).items ≡ q →
    Turns w (Op.Run (RunOp.SearchCommon x look)) (runs.search_common_by q w x look).world.queues
turns-common look [] w x e = same refl
turns-common look (f ∷ rest) w x e = less (mark_in look) f rest e refl

turns-run : (p : ℕ) (h : Hint) (o : RunOp) (w : World) → Turns w (Op.Run o) (run_act p h o w).world.queues
turns-run p h RunOp.MakeRoom w = same (queue-room _ w)
turns-run p h RunOp.ReturnRoom w = same refl
turns-run p h (RunOp.TakeTurn x) w = same refl
turns-run p h (RunOp.SearchCommon x look) w = turns-common look _ w x refl
turns-run p h (RunOp.LookOwn x at left) w = same (queue-look _ w x at left)
turns-run p h (RunOp.WakeOwn x) w =
    same (queue-by_reference p (log w (Event.WakerCalled p (Polled.Run x.run) x.poll x.waker)) x.waker)
turns-run p h (RunOp.Reschedule r a) w = same (queue-reschedule _ w r a)

turns-searches : (who : TickOrRun) (p : ℕ) (w : World) (s : Sleeping) →
    Turns w (Op.Tick (TickOp.Search s)) (search_by_who who p w s).world.queues
turns-searches (TickOrRun.Tick t) p w s = same refl
turns-searches (TickOrRun.Run r) p w s = same (queue-own _ w _)

turns-tick : (p : ℕ) (h : Hint) (o : TickOp) (w : World) (b : Bool) → searches o ≡ b →
    Turns w (Op.Tick o) (tick_act p h o w).world.queues
turns-tick p h (TickOp.Search s) w b e = turns-searches s.who p w s
turns-tick p h (TickOp.Look s look) w b e = turns-look look _ w _ s refl
turns-tick p h o w false e = same (sym (ap (λ (r : Rest). r.queue) (tick-rest p h o w e)))
turns-tick p h _ w true e = absurd (cc)

pub turns-act : (p : ℕ) (h : Hint) (o : Op) (w : World) → Turns w o (act p h o w).world.queues
turns-act p h (Op.Queue QueueOp.TakeTurn) w = same refl
turns-act p h (Op.Queue (QueueOp.Take look)) w = turns-take w look _ refl
turns-act p h (Op.Queue (QueueOp.Append f)) w = turns-append (queue_of w (mark_of w f)).closed _ w f refl
turns-act p h (Op.Sleeper o) w = same (sym (ap (λ (r : Rest). r.queue) (sleeper-rest p o w)))
turns-act p h (Op.Tick o) w = turns-tick p h o w (searches o) refl
turns-act p h (Op.List o) w = same (queue-list h o w)
turns-act p h (Op.Steal o) w = turns-steal p o w
turns-act p h (Op.Run o) w = turns-run p h o w
turns-act p h (Op.Closing (ClosingOp.Close mark)) w = shuts mark refl
turns-act p h (Op.Closing (ClosingOp.Drain mark)) w = turns-drain mark p w _ refl
turns-act p h (Op.User (UserOp.PollOwn x)) w = same refl
turns-act p h o w = same (ap (λ (r : Whole). r.queue) (sym (frame-act p h o w refl).rest))

pub reacts : (p : ℕ) (o : Op) (u : UserEnd) (w : World) → (react p o u w).world.queues ≡ w.queues
reacts p (Op.User (UserOp.Poll f)) (UserEnd.Polled Answer.Pending) w = refl
reacts p (Op.User (UserOp.Poll f)) (UserEnd.Polled Answer.Ready) w = refl
reacts p (Op.User (UserOp.PollOwn x)) (UserEnd.Polled Answer.Pending) w = refl
reacts p (Op.User (UserOp.PollOwn x)) (UserEnd.Polled Answer.Ready) w = refl
reacts p _ _ w = refl

with-future : (w : World) (x : Option ℕ) (d : ℕ → Done) → ((f : ℕ) → (d f).world.queues ≡ w.queues) →
    (with_future w x d).world.queues ≡ w.queues
with-future w None d k = refl
with-future w (Some f) d k = k f

begins : (p : ℕ) (w : World) (here : Option Waker) (c : Call) → (begun p w here c).world.queues ≡ w.queues
begins p w here (Call.Wake k) = with-future w (kept w k) _ (λ f. refl)
begins p w here (Call.WakeByRef k) = with-future w (kept w k) _ (λ f. refl)
begins p w here (Call.Copy k) = with-future w (kept w k) _ (λ f. refl)
begins p w here (Call.DropWaker k) = with-future w (kept w k) _ (λ f. refl)
begins p w here Call.Keep = with-future w (future_of here) _ (λ f. refl)
begins p w here Call.WakeSelf = with-future w (future_of here) _ (λ f. refl)
begins p w here _ = refl

-- the end of a call leaves it
pub settles : (p : ℕ) (w : World) (os : List Op) (r : Option Reply) → (settled_by r p w os).world.queues ≡ w.queues
settles p w os None = refl
settles p w os (Some r) = refl

-- what a step does to the queue of this mark
pub data Steps (m : Mark) (s : Machine) (new : ClosableQueue ℕ) : Type 0 where
  as-was : new ≡ queue_of s.world m → Steps m s new
  longer : (p f : ℕ) → top (stack s p) ≡ Some (Op.Queue (QueueOp.Append f)) → mark_of s.world f ≡ m →
      (queue_of s.world m).closed ≡ false →
      new ≡ appended (queue_of s.world m) f → Steps m s new
  shorter : (f : ℕ) (rest : List ℕ) → (queue_of s.world m).items ≡ f ∷ rest → new ≡ taken (queue_of s.world m) → Steps m s new
  shut-by : new ≡ shut (queue_of s.world m) → Steps m s new

-- the queue of this mark, where that of a mark was put
pub put-at : (m n : Mark) (q : ClosableQueue ℕ) (qs : Queues) →
    ((n ≡ m) × (queue_in m (with_queue n q qs) ≡ q)) ⊎ (queue_in m (with_queue n q qs) ≡ queue_in m qs)
put-at Urgent Urgent q qs = inl (refl, refl)
put-at Urgent Plain q qs = inr refl
put-at Plain Urgent q qs = inr refl
put-at Plain Plain q qs = inl (refl, refl)

by-act : (m : Mark) (s : Machine) (p : ℕ) (o : Op) (v new : Queues) → top (stack s p) ≡ Some o → new ≡ v →
    Turns s.world o v → Steps m s (queue_in m new)
by-act m s p o v new e q (same x) = as-was (ap (queue_in m) (q ∙ x))
by-act m s p o v new e q (more f x c y) =
    let n : Mark = mark_of s.world f in
    let now = ap (queue_in m) (q ∙ y) in ⊎_elim
    (λ (i : (n ≡ m) × (queue_in m (with_last n f s.world.queues) ≡ appended (queue_of s.world n) f)).
    longer p f (e ∙ ap (λ (z : Op). Some z) x) i.0 (ap (λ (k : Mark). (queue_of s.world k).closed) (sym i.0) ∙ c)
    (now ∙ (i.1 ∙ ap (λ (k : Mark). appended (queue_of s.world k) f) i.0)))
    (λ (i : queue_in m (with_last n f s.world.queues) ≡ queue_of s.world m). as-was (now ∙ i))
    (put-at m n (appended (queue_of s.world n) f) s.world.queues)
by-act m s p o v new e q (less n f rest x y) =
    let now = ap (queue_in m) (q ∙ y) in ⊎_elim
    (λ (i : (n ≡ m) × (queue_in m (without_first_of n s.world.queues) ≡ taken (queue_of s.world n))).
    shorter f rest (ap (λ (k : Mark). (queue_of s.world k).items) (sym i.0) ∙ x)
    (now ∙ (i.1 ∙ ap (λ (k : Mark). taken (queue_of s.world k)) i.0)))
    (λ (i : queue_in m (without_first_of n s.world.queues) ≡ queue_of s.world m). as-was (now ∙ i))
    (put-at m n (taken (queue_of s.world n)) s.world.queues)
by-act m s p o v new e q (shuts n y) =
    let now = ap (queue_in m) (q ∙ y) in ⊎_elim
    (λ (i : (n ≡ m) × (queue_in m (with_shut n s.world.queues) ≡ shut (queue_of s.world n))).
    shut-by (now ∙ (i.1 ∙ ap (λ (k : Mark). shut (queue_of s.world k)) i.0)))
    (λ (i : queue_in m (with_shut n s.world.queues) ≡ queue_of s.world m). as-was (now ∙ i))
    (put-at m n (shut (queue_of s.world n)) s.world.queues)

by-go : (m : Mark) (s : Machine) (p : ℕ) (h : Hint) (x : Option Op) → top (stack s p) ≡ x →
    Steps m s (queue_of (gone_on p s.world (stack s p) x (λ o. act p h o s.world)).world m)
by-go m s p h None e = as-was refl
by-go m s p h (Some o) e =
    by-act m s p o (act p h o s.world).world.queues _ e (settles p (act p h o s.world).world
    (below_top (stack s p) ++ reverse (act p h o s.world).next) _) (turns-act p h o s.world)

by-answer : (m : Mark) (s : Machine) (p : ℕ) (u : UserEnd) (x : Option Op) →
    Steps m s (queue_of (gone_on p s.world (stack s p) x (λ o. react p o u s.world)).world m)
by-answer m s p u None = as-was refl
by-answer m s p u (Some o) =
    as-was (ap (queue_in m)
    (settles p (react p o u s.world).world (below_top (stack s p) ++ reverse (react p o u s.world).next) _
    ∙ reacts p o u s.world))

by-after : (m : Mark) (s : Machine) (t : Step) → Steps m s (queue_of (after s t).world m)
by-after m s (Begin p c) =
    let w : World = log s.world (Event.CallBegun p c) in
    let d : Done = begun p w (mine (top (stack s p))) c in
    as-was (ap (queue_in m) (settles p d.world (stack s p ++ reverse d.next) _ ∙ begins p w (mine (top (stack s p))) c))
by-after m s (Go p h) = by-go m s p h (top (stack s p)) refl
by-after m s (Step.Answer p u) = by-answer m s p u (top (stack s p))

pub by-step : (m : Mark) (s : Machine) (t : Step) → Steps m s (queue_of (stepped s (step s t)).world m)
by-step m s t = go (refusal s t) refl
  where
    go : (r : Option StepError) → refusal s t ≡ r → Steps m s (queue_of (stepped s (step s t)).world m)
    go None e = subst (λ (x : Result Machine StepError). Steps m s (queue_of (stepped s x).world m)) (sym (step-made s t e))
        (by-after m s t)
    go (Some error) e = subst (λ (x : Result Machine StepError). Steps m s (queue_of (stepped s x).world m))
        (sym (step-refused s t error e))
        (as-was refl)

-- a step appends one Runnable at most, to one of both

count-less : (xs : List ℕ) → length (drop 1 xs) - length xs ≡ 0
count-less [] = refl
count-less (x ∷ xs) = omega arith

abbrev FewMore : Queues → Queues → Type 0
FewMore old new = (length new.urgent.items - length old.urgent.items) + (length new.plain.items - length old.plain.items) ≤ 1

few-same : (old new : Queues) → new ≡ old → FewMore old new
few-same old new e =
    omega (arith, ap (λ (qs : Queues). length qs.urgent.items) e, ap (λ (qs : Queues). length qs.plain.items) e)

few-last : (m : Mark) (f : ℕ) (qs : Queues) → FewMore qs (with_last m f qs)
few-last Urgent f qs = omega (arith, length-append qs.urgent.items (f ∷ []))
few-last Plain f qs = omega (arith, length-append qs.plain.items (f ∷ []))

few-first : (m : Mark) (qs : Queues) → FewMore qs (without_first_of m qs)
few-first Urgent qs = omega (arith, count-less qs.urgent.items)
few-first Plain qs = omega (arith, count-less qs.plain.items)

few-shut : (m : Mark) (qs : Queues) → FewMore qs (with_shut m qs)
few-shut Urgent qs = omega arith
few-shut Plain qs = omega arith

few-turns : (w : World) (o : Op) (new : Queues) → Turns w o new → FewMore w.queues new
few-turns w o new (same e) = few-same w.queues new e
few-turns w o new (more f x c e) = subst (FewMore w.queues) (sym e) (few-last (mark_of w f) f w.queues)
few-turns w o new (less m f rest x e) = subst (FewMore w.queues) (sym e) (few-first m w.queues)
few-turns w o new (shuts m e) = subst (FewMore w.queues) (sym e) (few-shut m w.queues)

few-go : (s : Machine) (p : ℕ) (h : Hint) (x : Option Op) →
    FewMore s.world.queues (gone_on p s.world (stack s p) x (λ o. act p h o s.world)).world.queues
few-go s p h None = few-same s.world.queues s.world.queues refl
few-go s p h (Some o) = subst (FewMore s.world.queues) (sym (settles p (act p h o s.world).world
    (below_top (stack s p) ++ reverse (act p h o s.world).next) _))
    (few-turns s.world o (act p h o s.world).world.queues (turns-act p h o s.world))

few-answer : (s : Machine) (p : ℕ) (u : UserEnd) (x : Option Op) →
    FewMore s.world.queues (gone_on p s.world (stack s p) x (λ o. react p o u s.world)).world.queues
few-answer s p u None = few-same s.world.queues s.world.queues refl
few-answer s p u (Some o) = few-same s.world.queues _
    (settles p (react p o u s.world).world (below_top (stack s p) ++ reverse (react p o u s.world).next) _
    ∙ reacts p o u s.world)

few-after : (s : Machine) (t : Step) → FewMore s.world.queues (after s t).world.queues
few-after s (Begin p c) =
    let w : World = log s.world (Event.CallBegun p c) in
    let d : Done = begun p w (mine (top (stack s p))) c in
    few-same s.world.queues _ (settles p d.world (stack s p ++ reverse d.next) _ ∙ begins p w (mine (top (stack s p))) c)
few-after s (Go p h) = few-go s p h (top (stack s p))
few-after s (Step.Answer p u) = few-answer s p u (top (stack s p))

few-step : (s : Machine) (t : Step) → FewMore s.world.queues (stepped s (step s t)).world.queues
few-step s t = go (refusal s t) refl
  where
    go : (r : Option StepError) → refusal s t ≡ r → FewMore s.world.queues (stepped s (step s t)).world.queues
    go None e = subst (λ (x : Result Machine StepError). FewMore s.world.queues (stepped s x).world.queues)
        (sym (step-made s t e)) (few-after s t)
    go (Some error) e = subst (λ (x : Result Machine StepError). FewMore s.world.queues (stepped s x).world.queues)
        (sym (step-refused s t error e)) (few-same s.world.queues s.world.queues refl)

queued-both : (m : Mark) (t : Step) (s : Machine) → queued_by m t s + queued_by (other m) t s ≤ 1
queued-both Urgent t s = few-step s t
queued-both Plain t s = omega (arith, few-step s t)

queueings-most : (m : Mark) (ts : List Step) (s : Machine) → queueings m ts s + queueings (other m) ts s ≤ length ts
queueings-most m [] s = omega arith
queueings-most m (t ∷ ts) s = omega (arith, queued-both m t s, queueings-most m ts (stepped s (step s t)))

-- as a queue that counts

queueings-push : (m : Mark) (ts : List Step) (t : Step) (s : Machine) →
    queueings m (ts ++ t ∷ []) s ≡ queueings m ts s + queued_by m t (run ts s)
queueings-push m [] t s = omega arith
queueings-push m (x ∷ ts) t s = omega (arith, queueings-push m ts t (stepped s (step s x)))

run-push : (ts : List Step) (t : Step) (s : Machine) → run (ts ++ t ∷ []) s ≡ stepped (run ts s) (step (run ts s) t)
run-push [] t s = refl
run-push (x ∷ ts) t s = run-push ts t (stepped s (step s x))

count-more : (xs : List ℕ) (f : ℕ) → length (xs ++ f ∷ []) - length xs ≡ 1
count-more xs f = omega (arith, length-append xs (f ∷ []))

module _ (m : Mark) (limit : ℕ) (kind : Kind) (parties : ℕ) (steps : List Step) where
  abbrev now : Machine
  now = run steps (start limit kind parties)

  abbrev here : ClosableQueue ℕ
  here = queue_of now.world m

  abbrev count : ℕ
  count = queueings m steps (start limit kind parties)

  -- one step later
  later : (t : Step) (q : ClosableQueue ℕ) (n : ℕ) → queue_of (stepped now (step now t)).world m ≡ q →
      length q.items - length here.items ≡ n →
      counted_after m limit kind parties (steps ++ t ∷ []) ≡ counting (count + n) q
  later t q n e k =
      ap (λ (i : ℕ). counting i (queue_of (run (steps ++ t ∷ []) (start limit kind parties)).world m))
      (queueings-push m steps t (start limit kind parties)
      ∙ ap (λ (i : ℕ). count + i) (ap (λ (v : ClosableQueue ℕ). length v.items - length here.items) e ∙ k))
      ∙ ap (counting (count + n))
      (ap (λ (x : Machine). queue_of x.world m) (run-push steps t (start limit kind parties)) ∙ e)

  has-room : (p f : ℕ) → top (stack now p) ≡ Some (Op.Queue (QueueOp.Append f)) → mark_of now.world f ≡ m → HasRoom here
  has-room p f e i = subst (λ (k : Mark). HasRoom (queue_of now.world k)) i
      (finds-place now f (good limit kind parties steps) (placed limit kind parties steps) p e)

  same-count : (q : ClosableQueue ℕ) → counting (count + 0) q ≡ counting count q
  same-count q = ap (λ (i : ℕ). counting i q) (let z : count + 0 ≡ count = omega arith in z)

  changes-by : count < most_accepted → (t : Step) (q : ClosableQueue ℕ) → queue_of (stepped now (step now t)).world m ≡ q →
      Steps m now q →
      Changes (counted_after m limit kind parties steps) (counted_after m limit kind parties (steps ++ t ∷ []))
  changes-by few t q e (as-was x) = stays (later t here 0 (e ∙ x) (omega arith) ∙ same-count here)
  changes-by few t q e (longer p f a i c x) =
      appends f c (has-room p f a i) few (later t (appended here f) 1 (e ∙ x) (count-more here.items f))
  changes-by few t q e (shorter f rest a x) =
      takes f rest a (later t (taken here) 0 (e ∙ x) (count-less here.items) ∙ same-count (taken here))
  changes-by few t q e (shut-by x) = closes (later t (shut here) 0 (e ∙ x) (omega arith) ∙ same-count (shut here))

  -- who is about to append does
  appends-now : (p : ℕ) (h : Hint) (f : ℕ) → top (stack now p) ≡ Some (Op.Queue (QueueOp.Append f)) →
      mark_of now.world f ≡ m → here.closed ≡ false →
      queue_of (stepped now (step now (Go p h))).world m ≡ appended here f
  appends-now p h f e i c =
      let l : p < length now.parties = in-range now p (Op.Queue (QueueOp.Append f)) e in
      let b : ltb p (length now.parties) ≡ true = grind (arith, nat_tests) in
      let r : refusal now (Go p h) ≡ None =
      ap (λ (x : Bool). unless x NoSuch (go_refusal now.world (top (stack now p)))) b
      ∙ ap (go_refusal now.world) e in
      let room : length here.items < now.world.limit =
      has-place now p f (below_top (stack now p)) l (topped (stack now p) (Op.Queue (QueueOp.Append f)) e)
      (good limit kind parties steps) (placed limit kind parties steps) m in
      let free : takes_more here now.world.limit ≡ true =
      ap (λ (x : Bool). not x && ltb (length here.items) now.world.limit) c
      ∙ (let z : ltb (length here.items) now.world.limit ≡ true = grind (arith, nat_tests) in z) in
      ap (λ (x : Result Machine StepError). queue_of (stepped now x).world m) (step-made now (Go p h) r)
      ∙ (ap (λ (x : Option Op). queue_of (gone_on p now.world (stack now p) x (λ o. act p h o now.world)).world m) e
      ∙ (ap (queue_in m) (settles p (act p h (Op.Queue (QueueOp.Append f)) now.world).world
      (below_top (stack now p) ++ reverse (act p h (Op.Queue (QueueOp.Append f)) now.world).next) _)
      ∙ (ap (λ (k : Mark). queue_of (append_to now.world k f).world m) i
      ∙ (ap (λ (x : Bool). queue_of (append_by x now.world m f).world m) free
      ∙ queue-put-same m (appended here f) now.world.queues))))

pub counts-queueings : (m : Mark) (limit : ℕ) (kind : Kind) (parties : ℕ) (steps : List Step) →
    CountsQueueings m limit kind parties steps
counts-queueings m limit kind parties steps = record {
  most = queueings-most m steps (start limit kind parties);
  new = fresh m;
  changes = λ few t.
      changes-by m limit kind parties steps few t _ refl (by-step m (run steps (start limit kind parties)) t);
  appends = λ few p h f e i c. later m limit kind parties steps (Go p h)
      (appended (queue_of (run steps (start limit kind parties)).world m) f) 1
      (appends-now m limit kind parties steps p h f e i c)
      (count-more (queue_of (run steps (start limit kind parties)).world m).items f);
}
  where
    fresh : (n : Mark) → counted_after n limit kind parties [] ≡ new_queue (Some limit) (Some 0)
    fresh Urgent = refl
    fresh Plain = refl
