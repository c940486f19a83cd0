-- For sleepers_agree and sleepers_are_told.
-- What is no part of the sleepers, of a tick or of a run's making leaves the sleepers, and who sleeps, as they are.
use Rattle.std.proofs.Common.{◌≡◌, ◌∙◌, ℕ, zero, suc, ◌+◌, ◌≤◌, List, [], ◌∷◌, length, Bool, true, false, eqb, refl, sym, ap}
use Rattle.std.proofs.Common.{subst, arith}
use Rattle.executor_parts.specs.Sleepers.{Sleepers}
use Rattle.executor_model.proofs.Types.{Look, Plain, Urgent, Mark, First, Second, Move, Event, Reply, Hold, Op, ClosingOp}
use Rattle.executor_model.proofs.Types.{Polled, QueueOp, RunOp, RunPoll, SleeperOp, Sleeping, Source, Common, Own, Steal}
use Rattle.executor_model.proofs.Types.{StealOp, Then, UserOp, Waker, Task, Outside, Hint}
use Rattle.executor_model.specs.World.{queue_of, World, Ticker, Run, Done, done, log, put_own, put_run, run_of}
use Rattle.executor_model.specs.SleepersAgree.{hands_of, room_of}
use Rattle.executor_model.specs.{Queues.Queues, Queues.queue_in, Acts.mark_in, Doing.act, Doing.steal_act, Weights.weigh}
use Rattle.executor_model.proofs.Sleepers.SleepersWakingUp.{wakes_up-append, wakes_up-by, wakes_up-none, wakes_up-run}
use Rattle.executor_model.proofs.Steps.QueuesByMark.{items-shut, fewer-first}
use Rattle.executor_model.proofs.Steps.RunsNext.{BlindToSearches, found-unseen, more-unseen, stolen-unseen, walk-unseen}
use Rattle.executor_model.proofs.OwnQueues.RunsAside.{Frame, Rest, bustle_of, frame-act, frame-call}
use Rattle.executor_model.proofs.Sleepers.SleepersWakingUp.{wakes_up_of, wakes_up_well}
use Rattle.executor_model.proofs.Sleepers.TickLists.{places, places-same}
use Rattle.executor_model.proofs.{Steps.Lists.weigh-append, Steps.Lists.weigh-below, Steps.Lift.no_hint}
use Rattle.executor_model.specs.Acts as acts
use Rattle.executor_model.specs.ActsOfRuns as runs

-- where ticks and runs are, the sleepers and the flag
pub record SleepersSeen : Type 0 where
  pub ticks : List Ticker
  pub places : List Ticker
  pub sleepers : Sleepers Sleeping
  pub notified : Bool

abbrev pub sleepers_seen : World → SleepersSeen
sleepers_seen w = record { ticks = w.ticks; places = places w.runs; sleepers = w.sleepers; notified = w.notified }

-- who hands out, and room that is still owed
abbrev pub owes_of : Op → ℕ
owes_of o = hands_of o + room_of o

pub owes-hands : (os : List Op) → weigh owes_of os ≡ 0 → weigh hands_of os ≡ 0
owes-hands os z = omega (arith, z, weigh-below hands_of owes_of (λ o. omega arith) os)

pub owes-rooms : (os : List Op) → weigh owes_of os ≡ 0 → weigh room_of os ≡ 0
owes-rooms os z = omega (arith, z, weigh-below room_of owes_of (λ o. omega arith) os)

-- and who wakes up
abbrev stirs_of : Op → ℕ
stirs_of o = owes_of o + wakes_up_of o

-- they stay, nobody hands out and no room is owed because of it, who wakes up tells, and no queue gets longer
pub record Away (w : World) (d : Done) : Type 0 where
  pub sleepers_seen : sleepers_seen w ≡ sleepers_seen d.world
  pub owes : weigh owes_of d.next ≡ 0
  pub wakes_up : wakes_up_well d.next ≡ true
  pub queue : (m : Mark) → length (queue_of d.world m).items ≤ length (queue_of w m).items

same-queue : (w v : World) → v.queues ≡ w.queues → (m : Mark) →
    length (queue_of v m).items ≤ length (queue_of w m).items
same-queue w v e m = omega (arith, ap (λ (q : Queues). length (queue_in m q).items) e)

pub away : (w : World) (d : Done) → sleepers_seen w ≡ sleepers_seen d.world → d.world.queues ≡ w.queues → weigh stirs_of d.next ≡ 0 →
    Away w d
away w d b q h = record {
  sleepers_seen = b;
  owes = omega (arith, h, weigh-below owes_of stirs_of (λ o. omega arith) d.next);
  wakes_up = wakes_up-none d.next (omega (arith, h, weigh-below wakes_up_of stirs_of (λ o. omega arith) d.next));
  queue = same-queue w d.world q;
}

-- of what a run does
away-run : (w : World) (d : Done) → sleepers_seen w ≡ sleepers_seen d.world → d.world.queues ≡ w.queues → weigh owes_of d.next ≡ 0 →
    wakes_up_well d.next ≡ true → Away w d
away-run w d b q h r = record { sleepers_seen = b; owes = h; wakes_up = r; queue = same-queue w d.world q }

calm-stirs : (o : Op) → bustle_of o ≡ 0 → stirs_of o ≡ 0
calm-stirs (Op.Sleeper SleeperOp.HandOut) z = absurd (omega (arith, z))
calm-stirs (Op.Tick o) z = absurd (omega (arith, z))
calm-stirs (Op.List o) z = absurd (omega (arith, z))
calm-stirs (Op.Run o) z = absurd (omega (arith, z))
calm-stirs _ z = refl

none-stir : (os : List Op) → weigh bustle_of os ≡ 0 → weigh stirs_of os ≡ 0
none-stir [] z = refl
none-stir (o ∷ os) z = omega (arith, calm-stirs o (omega (arith, z)), none-stir os (omega (arith, z)))

abbrev beds_of : Rest → SleepersSeen
beds_of r = record { ticks = r.ticks; places = places r.runs; sleepers = r.sleepers; notified = r.notified }

-- what is done with one future
away-frame : (w : World) (d : Done) → Frame w d → Away w d
away-frame w d f = away w d (ap beds_of f.rest) (ap (λ (r : Rest). r.queue) (sym f.rest)) (none-stir d.next f.plain)

pub away-call : (p : ℕ) (w : World) (o : Polled) (a : Waker) (k : ℕ) → Away w (acts.call_waker p w o a k)
away-call p w o a k = away-frame w (acts.call_waker p w o a k) (frame-call p w o a k)

-- the queues, but for an append

away-take : (look : Look) (q : List ℕ) (w : World) → (queue_of w (mark_in look)).items ≡ q → Away w (acts.take_by w look q)
away-take (First mark) [] w e = away w _ refl refl refl
away-take (Second mark) [] w e = away w _ refl refl refl
away-take look (f ∷ rest) w e = record {
  sleepers_seen = refl;
  owes = refl;
  wakes_up = refl;
  queue = λ m. fewer-first (mark_in look) m f rest w.queues e;
}

away-drain : (mark : Mark) (p : ℕ) (w : World) (q : List ℕ) → (queue_of w mark).items ≡ q → Away w (acts.drain_by p w mark q)
away-drain Urgent p w [] e = away w _ refl refl refl
away-drain Plain p w [] e = away w _ refl refl refl
away-drain mark p w (f ∷ rest) e = record {
  sleepers_seen = refl;
  owes = refl;
  wakes_up = refl;
  queue = λ m. fewer-first mark m f rest w.queues e;
}

away-close : (mark : Mark) (w : World) → Away w (acts.close w mark)
away-close Urgent w = record {
  sleepers_seen = refl;
  owes = refl;
  wakes_up = refl;
  queue = λ m. omega (arith, ap length (items-shut Urgent m w.queues));
}
away-close Plain w = record {
  sleepers_seen = refl;
  owes = refl;
  wakes_up = refl;
  queue = λ m. omega (arith, ap length (items-shut Plain m w.queues));
}

-- runs

-- a run that stays where it is
pub sleepers_seen-run : (w : World) (r : ℕ) (x : Run) → x.place ≡ (run_of w r).place → sleepers_seen w ≡ sleepers_seen (put_run w r x)
sleepers_seen-run w r x e = λ i. record {
  ticks = w.ticks;
  places = sym (places-same w.runs r x e) i;
  sleepers = w.sleepers;
  notified = w.notified;
}

pub no-owes-searching : BlindToSearches owes_of
no-owes-searching = record {
  exchange = refl;
  search = λ s. refl;
  copy = λ s. refl;
  up = λ who. refl;
  take_up = λ f. refl;
  steal = λ o. refl;
  lock = λ x. refl;
  unlock = refl;
  turn = λ x. refl;
  common = λ x look. refl;
  look = λ x at left. refl;
  wake = λ x. refl;
}

-- what is found is run: the queue and the places stay
pub record Stays (w v : World) : Type 0 where
  pub sleepers_seen : sleepers_seen w ≡ sleepers_seen v
  pub queue : v.queues ≡ w.queues

stays-both : (u v w : World) → Stays u v → Stays v w → Stays u w
stays-both u v w a b = record { sleepers_seen = a.sleepers_seen ∙ b.sleepers_seen; queue = b.queue ∙ a.queue }

stays-run_by : (b : Bool) (w : World) (x : RunPoll) (f : ℕ) → Stays w (runs.run_by b w x f).world
stays-run_by true w x f = record { sleepers_seen = sleepers_seen-run w x.run _ refl; queue = refl }
stays-run_by false w x f = record { sleepers_seen = sleepers_seen-run w x.run _ refl; queue = refl }

stays-counted : (b : Bool) (w : World) (x : RunPoll) (f : ℕ) → Stays w (runs.counted_by b w x f).world
stays-counted true w x f = record { sleepers_seen = sleepers_seen-run w x.run _ refl; queue = refl }
stays-counted false w x f =
    let v = runs.counted_to w x.run ((run_of w x.run).counted + 1) in
    stays-both w v (runs.run_found v x f).world (record { sleepers_seen = sleepers_seen-run w x.run _ refl; queue = refl })
    (stays-run_by _ v x f)

pub stays-found : (w : World) (x : RunPoll) (f : ℕ) → Stays w (runs.found w x f).world
stays-found w x f = stays-counted _ w x f

pub stays-stolen : (t : Then) (w : World) (x : RunPoll) → Stays w (runs.stolen t w x).world
stays-stolen (Then.Found f) w x = stays-found w x f
stays-stolen (Then.StealPlain f) w x = record { sleepers_seen = refl; queue = refl }
stays-stolen (Then.Run f) w x = stays-run_by _ w x f
stays-stolen (Then.Walk at left) w x = record { sleepers_seen = refl; queue = refl }

stays-more : (n : ℕ) (w : World) (s : Steal) → Stays w (runs.steal_by n w s).world
stays-more zero w s = stays-stolen s.then w s.poll
stays-more (suc n) w s = record { sleepers_seen = refl; queue = refl }

wakes_up-stolen : (t : Then) (w : World) (x : RunPoll) → wakes_up_well (runs.stolen t w x).next ≡ true
wakes_up-stolen (Then.Found f) w x = wakes_up-run w x f
wakes_up-stolen (Then.StealPlain f) w x = refl
wakes_up-stolen (Then.Run f) w x = wakes_up-by _ w x f
wakes_up-stolen (Then.Walk at left) w x = refl

wakes_up-more : (n : ℕ) (w : World) (s : Steal) → wakes_up_well (runs.steal_by n w s).next ≡ true
wakes_up-more zero w s = wakes_up-stolen s.then w s.poll
wakes_up-more (suc n) w s = refl

pub wakes_up-walk : (x : RunPoll) (qs : List ℕ) (at left : ℕ) → wakes_up_well (runs.walk x qs at left) ≡ true
wakes_up-walk x qs at zero = refl
wakes_up-walk x qs at (suc left) = by (eqb (runs.queue_at qs at) x.run) (wakes_up-walk x qs (runs.next_place qs at) left)
  where
    by : (b : Bool) → wakes_up_well (runs.walk x qs (runs.next_place qs at) left) ≡ true →
        wakes_up_well (let h : List Op = elim b [
          | true ↦ runs.walk x qs (runs.next_place qs at) left
          | false ↦ Op.Steal (StealOp.Length (record {
            poll = x;
            from = Own (runs.queue_at qs at);
            then = Then.Walk (runs.next_place qs at) left;
          })) ∷ []
        ] in h) ≡ true
    by true z = z
    by false z = refl

away-stays : (w : World) (d : Done) → Stays w d.world → weigh owes_of d.next ≡ 0 → wakes_up_well d.next ≡ true → Away w d
away-stays w d s z r = away-run w d s.sleepers_seen s.queue z r

away-without : (from : Source) (q : List ℕ) (w : World) (s : Steal) (more : ℕ) → runs.source_of w from ≡ q →
    s.from ≡ from → Away w (runs.steal_take_by q w s more)
away-without from [] w s more e i = away-stays w _ (stays-stolen s.then w s.poll)
    (stolen-unseen owes_of no-owes-searching s.then w s.poll) (wakes_up-stolen s.then w s.poll)
away-without (Common mark) (f ∷ rest) w s more e i = by s.from i
  where
    by : (a : Source) → a ≡ Common mark → Away w (done (runs.without_first w a rest) (Op.Steal (StealOp.Put s more f) ∷ []))
    by (Common n) j = record {
      sleepers_seen = refl;
      owes = refl;
      wakes_up = refl;
      queue = λ m. fewer-first n m f rest w.queues (subst (λ (b : Source). runs.source_of w b ≡ f ∷ rest) (sym j) e);
    }
    by (Own r) j = away w _ refl refl refl
away-without (Own r) (f ∷ rest) w s more e i = by s.from i
  where
    by : (a : Source) → a ≡ Own r → Away w (done (runs.without_first w a rest) (Op.Steal (StealOp.Put s more f) ∷ []))
    by (Common n) j = absurd (cc)
    by (Own q) j = away w _ refl refl refl

away-length : (n : ℕ) (w : World) (s : Steal) → Away w (runs.steal_length_by n w s)
away-length zero w s = away-stays w _ (stays-stolen s.then w s.poll)
    (stolen-unseen owes_of no-owes-searching s.then w s.poll) (wakes_up-stolen s.then w s.poll)
away-length (suc n) w s = away w _ refl refl refl

away-refused : (t : Then) (w : World) (x : RunPoll) (f : ℕ) → Away w (runs.put_refused t w x f)
away-refused (Then.Walk at left) w x f = away w _ refl refl refl
away-refused t w x f = away-stays w (runs.put_refused t w x f) (stays-stolen t w x)
    (omega (arith, stolen-unseen owes_of no-owes-searching t w x)) (wakes_up-stolen t w x)

away-put : (b : Bool) (p : ℕ) (w : World) (s : Steal) (more f : ℕ) → Away w (runs.steal_put_by b p w s more f)
away-put true p w s more f =
    let v = runs.kept_by p w s.poll.run f in
    let m = stays-more more v s in
    away-run w (runs.steal_by more v s) m.sleepers_seen m.queue (more-unseen owes_of no-owes-searching more v s)
    (wakes_up-more more v s)
away-put false p w s more f = away-refused s.then w s.poll f

away-steal : (p : ℕ) (o : StealOp) (w : World) → Away w (steal_act p o w)
away-steal p (StealOp.Length s) w = away-length _ w s
away-steal p (StealOp.OwnLength s n) w = away-stays w _ (stays-more _ w s)
    (more-unseen owes_of no-owes-searching _ w s) (wakes_up-more _ w s)
away-steal p (StealOp.Take s more) w = away-without s.from _ w s more refl refl
away-steal p (StealOp.Put s more f) w = away-put _ p w s more f

away-common : (look : Look) (q : List ℕ) (w : World) (x : RunPoll) → (queue_of w (mark_in look)).items ≡ q →
    Away w (runs.search_common_by q w x look)
away-common (First mark) [] w x e = away w _ refl refl refl
away-common (Second mark) [] w x e = away w _ refl refl refl
away-common look (f ∷ rest) w x e = record {
  sleepers_seen = refl;
  owes = refl;
  wakes_up = refl;
  queue = λ m. fewer-first (mark_in look) m f rest w.queues e;
}

away-looks : (q : List ℕ) (w : World) (x : RunPoll) (at left : ℕ) → Away w (runs.look_own_by q w x at left)
away-looks [] w x at left = away-run w _ refl refl (walk-unseen owes_of no-owes-searching x w.listed at left)
    (wakes_up-walk x w.listed at left)
away-looks (f ∷ rest) w x at left =
    let v = put_own w x.run rest in
    let m = stays-found v x f in
    away-run w (runs.look_own_by (f ∷ rest) w x at left) m.sleepers_seen m.queue
    (omega (arith, found-unseen owes_of no-owes-searching v x f)) (wakes_up-run v x f)

pub away-own : (q : List ℕ) (w : World) (x : RunPoll) → Away w (runs.search_own_by q w x)
away-own [] w x = away w _ refl refl refl
away-own (f ∷ rest) w x =
    let v = put_own w x.run rest in
    let m = stays-found v x f in
    away-run w (runs.search_own_by (f ∷ rest) w x) m.sleepers_seen m.queue (found-unseen owes_of no-owes-searching v x f)
    (wakes_up-run v x f)

away-by_reference : (p : ℕ) (w : World) (x : RunPoll) (a : Waker) → Away w
    (acts.followed (runs.call_by_reference p (log w (Event.WakerCalled p (Polled.Run x.run) x.poll x.waker)) a)
    (Op.End Reply.Pending (Hold.Run x.run) ∷ []))
away-by_reference p w x (Task g) =
    let v : World = log w (Event.WakerCalled p (Polled.Run x.run) x.poll x.waker) in
    let next = (acts.move_task Move.WakeByReference p v g).next in
    let m = away-frame v (acts.move_task Move.WakeByReference p v g)
    (frame-act p no_hint (Op.Move Move.WakeByReference g) v refl) in
    record {
      sleepers_seen = m.sleepers_seen;
      owes = omega (arith, m.owes, weigh-append owes_of next (Op.End Reply.Pending (Hold.Run x.run) ∷ []));
      wakes_up = wakes_up-append next (Op.End Reply.Pending (Hold.Run x.run) ∷ []) m.wakes_up refl;
      queue = m.queue;
    }
away-by_reference p w x (Outside y) = away w _ refl refl refl

away-reschedule : (q : List ℕ) (w : World) (r : ℕ) (a : Reply) → Away w (runs.reschedule_by q w r a)
away-reschedule [] w r a = away w _ refl refl refl
away-reschedule (f ∷ rest) w r a = away w _ refl refl refl

-- what has a place of its own: an append, what tells and ticks, and what changes the lock of the list or owes room
abbrev pub is_seen_asleep : Op → Bool
is_seen_asleep (Op.Queue (QueueOp.Append f)) = true
is_seen_asleep (Op.Sleeper o) = true
is_seen_asleep (Op.Tick o) = true
is_seen_asleep (Op.List o) = true
is_seen_asleep (Op.Run RunOp.MakeRoom) = true
is_seen_asleep (Op.Run RunOp.ReturnRoom) = true
is_seen_asleep _ = false

pub away-act : (p : ℕ) (h : Hint) (o : Op) (w : World) → is_seen_asleep o ≡ false → Away w (act p h o w)
away-act p h (Op.Queue QueueOp.TakeTurn) w n = away w _ refl refl refl
away-act p h (Op.Queue (QueueOp.Take look)) w n = away-take look _ w refl
away-act p h (Op.Queue (QueueOp.Append f)) w n = absurd (cc)
away-act p h (Op.User (UserOp.PollOwn x)) w n = away w _ refl refl refl
away-act p h (Op.Closing (ClosingOp.Close mark)) w n = away-close mark w
away-act p h (Op.Closing (ClosingOp.Drain mark)) w n = away-drain mark p w _ refl
away-act p h (Op.Sleeper o) w n = absurd (cc)
away-act p h (Op.Tick o) w n = absurd (cc)
away-act p h (Op.List o) w n = absurd (cc)
away-act p h (Op.Steal o) w n = away-steal p o w
away-act p h (Op.Run RunOp.MakeRoom) w n = absurd (cc)
away-act p h (Op.Run RunOp.ReturnRoom) w n = absurd (cc)
away-act p h (Op.Run (RunOp.TakeTurn x)) w n = away w _ refl refl refl
away-act p h (Op.Run (RunOp.SearchCommon x look)) w n = away-common look _ w x refl
away-act p h (Op.Run (RunOp.LookOwn x at left)) w n = away-looks _ w x at left
away-act p h (Op.Run (RunOp.WakeOwn x)) w n = away-by_reference p w x x.waker
away-act p h (Op.Run (RunOp.Reschedule r a)) w n = away-reschedule _ w r a
away-act p h o w n = away-frame w (act p h o w) (frame-act p h o w refl)
