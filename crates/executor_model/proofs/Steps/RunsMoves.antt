-- For all laws.
-- What a run does moves Runnables from one queue to another or into a hand, and changes nothing else that is kept of
-- futures.
use Rattle.std.proofs.Common.{◌≡◌, ℕ, zero, suc, ◌+◌, ◌<◌, List, [], ◌∷◌, ◌++◌, length, get_or, set, Bool, true, false, eqb}
use Rattle.std.proofs.Common.{refl, ap, ◌∙◌, ◌%◌, arith}
use Rattle.queue_steps.specs.ClosableQueue.{taken}
use Rattle.executor_parts.specs.Sleepers.{Sleepers}
use Rattle.executor_model.proofs.Types.{First, Second, Look, Mark, Reply, ListOp, Op, RunOp, RunPoll, Section}
use Rattle.executor_model.proofs.Types.{TickOrRun, SleeperOp, Sleeping, Source, Common, Own, Steal, StealOp, Then, TickOp}
use Rattle.executor_model.specs.World.{put_queue, queue_of, World, Ticker, Awake, Asleep, Left, Stage, New, Listed, Ended, Run}
use Rattle.executor_model.specs.ActsOfRuns.{lock_read, put_refused, return_room, run_by, counted_by, counted_to, found, make_run_by}
use Rattle.executor_model.specs.ActsOfRuns.{registered, walk, next_place, queue_at, search_own_by, search_common_by}
use Rattle.executor_model.specs.ActsOfRuns.{look_own_by, source_of, stolen, steal_length_by, steal_by, steal_take_by}
use Rattle.executor_model.specs.World.{Lock, Done, own_of, put_own, run_of}
use Rattle.executor_model.specs.ActsOfRuns.{make_room_by, reschedule_by, write}
use Rattle.executor_model.specs.{Acts.mark_in, ActsOfSleepers.found_by, Doing.list_act, Rows.waiting_of, Rows.borrowing_of}
use Rattle.executor_model.specs.{Rows.then_waiting, Sound.times, Sound.times_in, Sound.queued, Weights.same, Weights.weigh}
use Rattle.executor_model.proofs.Steps.QueuesByMark.{capacity-first, closed-first, times-first}
use Rattle.executor_model.proofs.{Types.UserOp, Types.Hint, Steps.SleepersLists.given_back-same, Steps.Lists.weigh-append}

-- the lists that are kept of futures are the same
pub record Same (w v : World) : Type 0 where
  pub limit : v.limit ≡ w.limit
  pub closed : (m : Mark) → (queue_of v m).closed ≡ (queue_of w m).closed
  pub capacity : (m : Mark) → (queue_of v m).capacity ≡ (queue_of w m).capacity
  pub tasks : v.tasks ≡ w.tasks
  pub marks : v.marks ≡ w.marks
  pub awaiters : v.awaiters ≡ w.awaiters
  pub inside : v.inside ≡ w.inside
  pub table : v.table ≡ w.table
  pub leaving : v.leaving ≡ w.leaving
  pub waking : v.waking ≡ w.waking
  pub wakers : v.wakers ≡ w.wakers
  pub sleepers : v.sleepers.wakers ≡ w.sleepers.wakers
  pub turns : v.urgent_turns ≡ w.urgent_turns
  pub is_static : v.is_static ≡ w.is_static
  pub gone : v.gone ≡ w.gone
  pub trace : v.trace ≡ w.trace

pub same-here : (w : World) (rs : List Run) (qs : List (List ℕ)) (ls : List ℕ) (l : Lock) →
    Same w (record w { runs = rs; own = qs; listed = ls; lock = l })
same-here w rs qs ls l = record {
  limit = refl;
  closed = λ m. refl;
  capacity = λ m. refl;
  tasks = refl;
  marks = refl;
  awaiters = refl;
  inside = refl;
  table = refl;
  leaving = refl;
  waking = refl;
  wakers = refl;
  sleepers = refl;
  turns = refl;
  is_static = refl;
  gone = refl;
  trace = refl;
}

-- and so they are where the first of one of the executor's queues was taken
pub same-taken : (mark : Mark) (w : World) → Same w (put_queue w mark (taken (queue_of w mark)))
same-taken mark w = record {
  limit = refl;
  closed = λ m. closed-first mark m w.queues;
  capacity = λ m. capacity-first mark m w.queues;
  tasks = refl;
  marks = refl;
  awaiters = refl;
  inside = refl;
  table = refl;
  leaving = refl;
  waking = refl;
  wakers = refl;
  sleepers = refl;
  turns = refl;
  is_static = refl;
  gone = refl;
  trace = refl;
}

-- the end of an own queue's change

pub times_in-set : (g r : ℕ) (q : List ℕ) (qs : List (List ℕ)) → r < length qs →
    times_in g (set qs r q) + times g (get_or qs r []) ≡ times_in g qs + times g q
times_in-set g r q [] h = absurd (omega (arith, h))
times_in-set g zero q (x ∷ qs) h = omega arith
times_in-set g (suc r) q (x ∷ qs) h = omega (arith, times_in-set g r q qs (omega (arith, h)))

-- its first is taken
pub times_in-first : (g r f : ℕ) (rest : List ℕ) (qs : List (List ℕ)) → get_or qs r [] ≡ f ∷ rest →
    same g f + times_in g (set qs r rest) ≡ times_in g qs
times_in-first g r f rest [] e = absurd (cc)
times_in-first g zero f rest (x ∷ qs) e = omega (arith, ap (times g) e)
times_in-first g (suc r) f rest (x ∷ qs) e = omega (arith, times_in-first g r f rest qs e)

pub times_in-append : (g : ℕ) (xs ys : List (List ℕ)) → times_in g (xs ++ ys) ≡ times_in g xs + times_in g ys
times_in-append g [] ys = omega arith
times_in-append g (x ∷ xs) ys = omega (arith, times_in-append g xs ys)

-- what follows has in hand what was found

pub waiting-run_by : (g : ℕ) (b : Bool) (w : World) (x : RunPoll) (f : ℕ) →
    weigh (waiting_of g) (run_by b w x f).next ≡ same g f
waiting-run_by g true w x f = omega arith
waiting-run_by g false w x f = omega arith

waiting-counted : (g : ℕ) (b : Bool) (w : World) (x : RunPoll) (f : ℕ) →
    weigh (waiting_of g) (counted_by b w x f).next ≡ same g f
waiting-counted g true w x f = omega arith
waiting-counted g false w x f = waiting-run_by g _ _ x f

waiting-wakes_up : (g : ℕ) (p : Ticker) (who : TickOrRun) →
    weigh (waiting_of g) (found_by p who (Op.Sleeper SleeperOp.ExchangeFlag ∷ [])) ≡ 0
waiting-wakes_up g Awake who = refl
waiting-wakes_up g (Asleep n) who = refl
waiting-wakes_up g Left who = refl

pub waiting-found : (g : ℕ) (w : World) (x : RunPoll) (f : ℕ) → weigh (waiting_of g) (found w x f).next ≡ same g f
waiting-found g w x f =
    let first = found_by (run_of w x.run).place (TickOrRun.Run x.run) (Op.Sleeper SleeperOp.ExchangeFlag ∷ []) in
    let b = eqb ((run_of w x.run).counted + 1) 64 in
    omega (
      arith,
      weigh-append (waiting_of g) first (counted_by b w x f).next,
      waiting-wakes_up g (run_of w x.run).place (TickOrRun.Run x.run),
      waiting-counted g b w x f,
    )

pub waiting-stolen : (g : ℕ) (t : Then) (w : World) (x : RunPoll) →
    weigh (waiting_of g) (stolen t w x).next ≡ then_waiting g t
waiting-stolen g (Then.Found f) w x = waiting-found g w x f
waiting-stolen g (Then.StealPlain f) w x = omega arith
waiting-stolen g (Then.Run f) w x = waiting-run_by g _ w x f
waiting-stolen g (Then.Walk at left) w x = refl

pub waiting-walk : (g : ℕ) (x : RunPoll) (qs : List ℕ) (at left : ℕ) → weigh (waiting_of g) (walk x qs at left) ≡ 0
waiting-walk g x qs at zero = refl
waiting-walk g x qs at (suc left) = by (eqb (queue_at qs at) x.run) (waiting-walk g x qs (next_place qs at) left)
  where
    by : (b : Bool) → weigh (waiting_of g) (walk x qs (next_place qs at) left) ≡ 0 →
        weigh (waiting_of g) (let h : List Op = elim b [
          | true ↦ walk x qs (next_place qs at) left
          | false ↦ Op.Steal (StealOp.Length (record {
            poll = x;
            from = Own (queue_at qs at);
            then = Then.Walk (next_place qs at) left;
          })) ∷ []
        ] in h) ≡ 0
    by true z = z
    by false z = refl

-- the world that follows

same-run_by : (b : Bool) (w : World) (x : RunPoll) (f : ℕ) → Same w (run_by b w x f).world
same-run_by true w x f = same-here w _ _ _ _
same-run_by false w x f = same-here w _ _ _ _

queued-run_by : (g : ℕ) (b : Bool) (w : World) (x : RunPoll) (f : ℕ) → queued (run_by b w x f).world g ≡ queued w g
queued-run_by g true w x f = refl
queued-run_by g false w x f = refl

pub same-trans : {u v w : World} → Same u v → Same v w → Same u w
same-trans a b = record {
  limit = b.limit ∙ a.limit;
  closed = λ m. b.closed m ∙ a.closed m;
  capacity = λ m. b.capacity m ∙ a.capacity m;
  tasks = b.tasks ∙ a.tasks;
  marks = b.marks ∙ a.marks;
  awaiters = b.awaiters ∙ a.awaiters;
  inside = b.inside ∙ a.inside;
  table = b.table ∙ a.table;
  leaving = b.leaving ∙ a.leaving;
  waking = b.waking ∙ a.waking;
  wakers = b.wakers ∙ a.wakers;
  sleepers = b.sleepers ∙ a.sleepers;
  turns = b.turns ∙ a.turns;
  is_static = b.is_static ∙ a.is_static;
  gone = b.gone ∙ a.gone;
  trace = b.trace ∙ a.trace;
}

same-counted : (b : Bool) (w : World) (x : RunPoll) (f : ℕ) → Same w (counted_by b w x f).world
same-counted true w x f = same-here w _ _ _ _
same-counted false w x f = same-trans (same-here w _ _ _ _) (same-run_by _ _ x f)

queued-counted : (g : ℕ) (b : Bool) (w : World) (x : RunPoll) (f : ℕ) → queued (counted_by b w x f).world g ≡ queued w g
queued-counted g true w x f = refl
queued-counted g false w x f =
    let v : World = counted_to w x.run ((run_of w x.run).counted + 1) in
    queued-run_by g (eqb ((run_of v x.run).taken + 1) 200) v x f

pub same-found : (w : World) (x : RunPoll) (f : ℕ) → Same w (found w x f).world
same-found w x f = same-counted _ w x f

pub queued-found : (g : ℕ) (w : World) (x : RunPoll) (f : ℕ) → queued (found w x f).world g ≡ queued w g
queued-found g w x f = queued-counted g _ w x f

pub same-stolen : (t : Then) (w : World) (x : RunPoll) → Same w (stolen t w x).world
same-stolen (Then.Found f) w x = same-found w x f
same-stolen (Then.StealPlain f) w x = same-here w _ _ _ _
same-stolen (Then.Run f) w x = same-run_by _ w x f
same-stolen (Then.Walk at left) w x = same-here w _ _ _ _

pub queued-stolen : (g : ℕ) (t : Then) (w : World) (x : RunPoll) → queued (stolen t w x).world g ≡ queued w g
queued-stolen g (Then.Found f) w x = queued-found g w x f
queued-stolen g (Then.StealPlain f) w x = refl
queued-stolen g (Then.Run f) w x = queued-run_by g _ w x f
queued-stolen g (Then.Walk at left) w x = refl

-- Runnables only move

pub record Moves (w : World) (old : List Op) (d : Done) : Type 0 where
  pub same : Same w d.world
  pub moved : (g : ℕ) → queued d.world g + weigh (waiting_of g) d.next ≡ queued w g + weigh (waiting_of g) old
  pub lent : weigh borrowing_of old ≡ 0 → weigh borrowing_of d.next ≡ 0

pub moves-length : (n : ℕ) (w : World) (s : Steal) → Moves w (Op.Steal (StealOp.Length s) ∷ []) (steal_length_by n w s)
moves-length zero w s = record {
  same = same-stolen s.then w s.poll;
  moved = λ g. omega (arith, queued-stolen g s.then w s.poll, waiting-stolen g s.then w s.poll);
  lent = λ z. absurd (omega (arith, z));
}
moves-length (suc n) w s = record {
  same = same-here w _ _ _ _;
  moved = λ g. refl;
  lent = λ z. absurd (omega (arith, z));
}

pub moves-own_length : (n m : ℕ) (w : World) (s : Steal) →
    Moves w (Op.Steal (StealOp.OwnLength s m) ∷ []) (steal_by n w s)
moves-own_length zero m w s = record {
  same = same-stolen s.then w s.poll;
  moved = λ g. omega (arith, queued-stolen g s.then w s.poll, waiting-stolen g s.then w s.poll);
  lent = λ z. absurd (omega (arith, z));
}
moves-own_length (suc n) m w s = record {
  same = same-here w _ _ _ _;
  moved = λ g. refl;
  lent = λ z. absurd (omega (arith, z));
}

pub moves-take : (from : Source) (q : List ℕ) (w : World) (x : RunPoll) (t : Then) (more : ℕ) → source_of w from ≡ q →
    Moves w (Op.Steal (StealOp.Take (record { poll = x; from = from; then = t }) more) ∷ [])
    (steal_take_by q w (record { poll = x; from = from; then = t }) more)
moves-take from [] w x t more e = record {
  same = same-stolen t w x;
  moved = λ g. omega (arith, queued-stolen g t w x, waiting-stolen g t w x);
  lent = λ z. absurd (omega (arith, z));
}
moves-take (Common mark) (f ∷ rest) w x t more e = record {
  same = same-taken mark w;
  moved = λ g. omega (arith, times-first g f rest mark w.queues e);
  lent = λ z. absurd (omega (arith, z));
}
moves-take (Own r) (f ∷ rest) w x t more e = record {
  same = same-here w _ _ _ _;
  moved = λ g. omega (arith, times_in-first g r f rest w.own e);
  lent = λ z. absurd (omega (arith, z));
}

-- one that finds no place is dropped
pub moves-refused : (t : Then) (w : World) (x : RunPoll) (from : Source) (more f : ℕ) →
    Moves w (Op.Steal (StealOp.Put (record { poll = x; from = from; then = t }) more f) ∷ []) (put_refused t w x f)
moves-refused (Then.Walk at left) w x from more f = record {
  same = same-here w _ _ _ _;
  moved = λ g. omega arith;
  lent = λ z. absurd (omega (arith, z));
}
moves-refused t w x from more f = record {
  same = same-stolen t w x;
  moved = λ g. omega (arith, queued-stolen g t w x, waiting-stolen g t w x);
  lent = λ z. absurd (omega (arith, z));
}

pub moves-own : (q : List ℕ) (w : World) (s : Sleeping) (r : ℕ) → s.who ≡ TickOrRun.Run r → own_of w r ≡ q →
    Moves w (Op.Tick (TickOp.Search s) ∷ []) (search_own_by q w (record { run = r; waker = s.waker; poll = s.poll }))
moves-own [] w s r i e = record { same = same-here w _ _ _ _; moved = λ g. refl; lent = λ z. absurd (omega (arith, z)) }
moves-own (f ∷ rest) w s r i e = let x : RunPoll = record { run = r; waker = s.waker; poll = s.poll } in record {
  same = same-trans (same-here w _ _ _ _) (same-found (put_own w r rest) x f);
  moved = λ g. omega (
    arith,
    queued-found g (put_own w r rest) x f,
    waiting-found g (put_own w r rest) x f,
    times_in-first g r f rest w.own e,
  );
  lent = λ z. absurd (omega (arith, z));
}

pub moves-common : (look : Look) (q : List ℕ) (w : World) (x : RunPoll) → (queue_of w (mark_in look)).items ≡ q →
    Moves w (Op.Run (RunOp.SearchCommon x look) ∷ []) (search_common_by q w x look)
moves-common (First mark) [] w x e = record { same = same-here w _ _ _ _; moved = λ g. refl; lent = λ z. absurd (omega (arith, z)) }
moves-common (Second mark) [] w x e = record { same = same-here w _ _ _ _; moved = λ g. refl; lent = λ z. absurd (omega (arith, z)) }
moves-common look (f ∷ rest) w x e = record {
  same = same-taken (mark_in look) w;
  moved = λ g. omega (arith, times-first g f rest (mark_in look) w.queues e);
  lent = λ z. absurd (omega (arith, z));
}

pub moves-look : (q : List ℕ) (w : World) (x : RunPoll) (at left : ℕ) → own_of w x.run ≡ q →
    Moves w (Op.Run (RunOp.LookOwn x at left) ∷ []) (look_own_by q w x at left)
moves-look [] w x at left e = record {
  same = same-here w _ _ _ _;
  moved = λ g. omega (arith, waiting-walk g x w.listed at left);
  lent = λ z. absurd (omega (arith, z));
}
moves-look (f ∷ rest) w x at left e = record {
  same = same-trans (same-here w _ _ _ _) (same-found (put_own w x.run rest) x f);
  moved = λ g. omega (
    arith,
    queued-found g (put_own w x.run rest) x f,
    waiting-found g (put_own w x.run rest) x f,
    times_in-first g x.run f rest w.own e,
  );
  lent = λ z. absurd (omega (arith, z));
}

pub moves-reschedule : (q : List ℕ) (w : World) (r : ℕ) (a : Reply) → own_of w r ≡ q →
    Moves w (Op.Run (RunOp.Reschedule r a) ∷ []) (reschedule_by q w r a)
moves-reschedule [] w r a e = record {
  same = same-here w _ _ _ _;
  moved = λ g. refl;
  lent = λ z. absurd (omega (arith, z));
}
moves-reschedule (f ∷ rest) w r a e = record {
  same = same-here w _ _ _ _;
  moved = λ g. omega (arith, times_in-first g r f rest w.own e);
  lent = λ z. absurd (omega (arith, z));
}

moves-make : (b : Bool) (w : World) → Moves w (Op.List (ListOp.Write Section.MakeRun) ∷ []) (make_run_by b w)
moves-make true w = record { same = same-here w _ _ _ _; moved = λ g. refl; lent = λ z. absurd (omega (arith, z)) }
moves-make false w = record {
  same = same-here w _ _ _ _;
  moved = λ g. omega (arith, times_in-append g w.own ([] ∷ []));
  lent = λ z. absurd (omega (arith, z));
}

moves-register : (t : Stage) (w : World) (x : RunPoll) → Moves w (Op.List (ListOp.Write (Section.Register x)) ∷ [])
    (record { world = registered t w x.run; next = Op.List ListOp.UnlockWrite ∷ Op.User (UserOp.PollOwn x) ∷ [] })
moves-register New w x = record { same = same-here w _ _ _ _; moved = λ g. refl; lent = λ z. absurd (omega (arith, z)) }
moves-register Listed w x = record {
  same = same-here w _ _ _ _;
  moved = λ g. refl;
  lent = λ z. absurd (omega (arith, z));
}
moves-register Ended w x = record {
  same = same-here w _ _ _ _;
  moved = λ g. refl;
  lent = λ z. absurd (omega (arith, z));
}

pub moves-write : (h : Hint) (s : Section) (w : World) → Moves w (Op.List (ListOp.Write s) ∷ []) (write h s w)
moves-write h Section.MakeRun w = moves-make h.refused w
moves-write h (Section.Register x) w = moves-register _ w x
moves-write h (Section.Unregister r a) w =
    record { same = same-here w _ _ _ _; moved = λ g. refl; lent = λ z. absurd (omega (arith, z)) }

pub moves-lock_read : (h : Hint) (w : World) (x : RunPoll) →
    Moves w (Op.List (ListOp.LockRead x) ∷ []) (lock_read h w x)
moves-lock_read h w x = record {
  same = same-here w _ _ _ _;
  moved = λ g. omega (arith, waiting-walk g x w.listed (h.start % length w.listed) (length w.listed));
  lent = λ z. absurd (omega (arith, z));
}

-- the other sections of the lock change it alone
pub moves-list : (h : Hint) (o : ListOp) (w : World) → Moves w (Op.List o ∷ []) (list_act h o w)
moves-list h (ListOp.LockWrite Section.MakeRun) w =
    record { same = same-here w _ _ _ _; moved = λ g. refl; lent = λ z. absurd (omega (arith, z)) }
moves-list h (ListOp.Write s) w = moves-write h s w
moves-list h ListOp.UnlockWrite w = record { same = same-here w _ _ _ _; moved = λ g. refl; lent = λ z. refl }
moves-list h (ListOp.LockRead x) w = moves-lock_read h w x
moves-list h ListOp.UnlockRead w = record { same = same-here w _ _ _ _; moved = λ g. refl; lent = λ z. refl }
moves-list h _ w = record { same = same-here w _ _ _ _; moved = λ g. refl; lent = λ z. absurd (omega (arith, z)) }

-- the other lists are as they were, and so are the wakers of the sleepers
pub same-rooms : (w : World) (s : Sleepers Sleeping) → s.wakers ≡ w.sleepers.wakers → Same w (record w { sleepers = s })
same-rooms w s e = record {
  limit = refl;
  closed = λ m. refl;
  capacity = λ m. refl;
  tasks = refl;
  marks = refl;
  awaiters = refl;
  inside = refl;
  table = refl;
  leaving = refl;
  waking = refl;
  wakers = refl;
  sleepers = e;
  turns = refl;
  is_static = refl;
  gone = refl;
  trace = refl;
}

pub moves-make_room : (b : Bool) (w : World) → Moves w (Op.Run RunOp.MakeRoom ∷ []) (make_room_by b w)
moves-make_room true w =
    record { same = same-here w _ _ _ _; moved = λ g. refl; lent = λ z. absurd (omega (arith, z)) }
moves-make_room false w =
    record { same = same-rooms w _ refl; moved = λ g. refl; lent = λ z. absurd (omega (arith, z)) }

pub moves-return_room : (w : World) → Moves w (Op.Run RunOp.ReturnRoom ∷ []) (return_room w)
moves-return_room w =
    record { same = same-rooms w _ (given_back-same w.sleepers); moved = λ g. refl; lent = λ z. refl }
