-- For awaiters_are_kept and calls_do_what_they_say.
-- What a run does takes from the executor's queue at most, and neither closes nor opens it.
use Rattle.std.proofs.Common.{◌≡◌, ◌≤◌, ℕ, zero, suc, List, [], ◌∷◌, length, drop, Bool, true, false, refl, ap, ◌∙◌}
use Rattle.std.proofs.Common.{arith}
use Rattle.executor_model.proofs.Types.{Plain, Urgent, Mark, Look, First, Second, Reply, Event, ListOp, Polled, RunOp, RunPoll}
use Rattle.executor_model.proofs.Types.{Section, Source, Common, Own, Steal, StealOp, Then, Waker, Task, Outside, Hint}
use Rattle.executor_model.specs.ActsOfRuns.{call_by_reference, counted_by, found, kept_by, look_own_by, make_room_by}
use Rattle.executor_model.specs.ActsOfRuns.{make_run_by, put_refused, registered, reschedule_by, run_by, search_common_by, search_own}
use Rattle.executor_model.specs.World.{World, Stage, New, Listed, Ended, log, log_if, put_own, queue_of}
use Rattle.executor_model.specs.ActsOfRuns.{search_own_by, steal_by, steal_length_by, steal_put_by, steal_take_by, stolen}
use Rattle.executor_model.specs.{Queues.Queues, Queues.queue_in, Acts.mark_in, Doing.list_act, Doing.run_act, Doing.steal_act}
use Rattle.executor_model.proofs.Steps.QueuesByMark.{without_first_of, closed-first}

-- a run leaves the queues, or takes the first of one
pub data Takes (w v : World) : Type 0 where
  stays : v.queues ≡ w.queues → Takes w v
  first : (mark : Mark) → v.queues ≡ without_first_of mark w.queues → Takes w v

queue-run_by : (b : Bool) (w : World) (x : RunPoll) (f : ℕ) → (run_by b w x f).world.queues ≡ w.queues
queue-run_by true w x f = refl
queue-run_by false w x f = refl

queue-counted : (b : Bool) (w : World) (x : RunPoll) (f : ℕ) → (counted_by b w x f).world.queues ≡ w.queues
queue-counted true w x f = refl
queue-counted false w x f = queue-run_by _ _ x f

queue-found : (w : World) (x : RunPoll) (f : ℕ) → (found w x f).world.queues ≡ w.queues
queue-found w x f = queue-counted _ w x f

pub queue-stolen : (t : Then) (w : World) (x : RunPoll) → (stolen t w x).world.queues ≡ w.queues
queue-stolen (Then.Found f) w x = queue-found w x f
queue-stolen (Then.StealPlain f) w x = refl
queue-stolen (Then.Run f) w x = queue-run_by _ w x f
queue-stolen (Then.Walk at left) w x = refl

pub queue-length : (n : ℕ) (w : World) (s : Steal) → (steal_length_by n w s).world.queues ≡ w.queues
queue-length zero w s = queue-stolen s.then w s.poll
queue-length (suc n) w s = refl

pub queue-more : (n : ℕ) (w : World) (s : Steal) → (steal_by n w s).world.queues ≡ w.queues
queue-more zero w s = queue-stolen s.then w s.poll
queue-more (suc n) w s = refl

takes-take : (from : Source) (q : List ℕ) (w : World) (x : RunPoll) (t : Then) (more : ℕ) →
    Takes w (steal_take_by q w (record { poll = x; from = from; then = t }) more).world
takes-take from [] w x t more = stays (queue-stolen t w x)
takes-take (Common mark) (f ∷ rest) w x t more = first mark refl
takes-take (Own r) (f ∷ rest) w x t more = stays refl

queue-refused : (t : Then) (w : World) (x : RunPoll) (f : ℕ) → (put_refused t w x f).world.queues ≡ w.queues
queue-refused (Then.Walk at left) w x f = refl
queue-refused t w x f = queue-stolen t w x

pub queue-put : (b : Bool) (p : ℕ) (w : World) (s : Steal) (more f : ℕ) → (steal_put_by b p w s more f).world.queues
    ≡ w.queues
queue-put true p w s more f = queue-more more (kept_by p w s.poll.run f) s
queue-put false p w s more f = queue-refused s.then w s.poll f

pub takes-steal : (p : ℕ) (o : StealOp) (w : World) → Takes w (steal_act p o w).world
takes-steal p (StealOp.Length s) w = stays (queue-length _ w s)
takes-steal p (StealOp.OwnLength s n) w = stays (queue-more _ w s)
takes-steal p (StealOp.Take s more) w = takes-take s.from _ w s.poll s.then more
takes-steal p (StealOp.Put s more f) w = stays (queue-put _ p w s more f)

pub queue-own : (q : List ℕ) (w : World) (x : RunPoll) → (search_own_by q w x).world.queues ≡ w.queues
queue-own [] w x = refl
queue-own (f ∷ rest) w x = queue-found (put_own w x.run rest) x f

pub takes-search : (w : World) (x : RunPoll) → Takes w (search_own w x).world
takes-search w x = stays (queue-own _ w x)

pub takes-common : (look : Look) (q : List ℕ) (w : World) (x : RunPoll) → Takes w (search_common_by q w x look).world
takes-common (First mark) [] w x = stays refl
takes-common (Second mark) [] w x = stays refl
takes-common look (f ∷ rest) w x = first (mark_in look) refl

pub queue-look : (q : List ℕ) (w : World) (x : RunPoll) (at left : ℕ) → (look_own_by q w x at left).world.queues ≡ w.queues
queue-look [] w x at left = refl
queue-look (f ∷ rest) w x at left = queue-found (put_own w x.run rest) x f

pub queue-room : (b : Bool) (w : World) → (make_room_by b w).world.queues ≡ w.queues
queue-room true w = refl
queue-room false w = refl

queue-make : (b : Bool) (w : World) → (make_run_by b w).world.queues ≡ w.queues
queue-make true w = refl
queue-make false w = refl

queue-registered : (t : Stage) (w : World) (r : ℕ) → (registered t w r).queues ≡ w.queues
queue-registered New w r = refl
queue-registered Listed w r = refl
queue-registered Ended w r = refl

pub queue-list : (h : Hint) (o : ListOp) (w : World) → (list_act h o w).world.queues ≡ w.queues
queue-list h (ListOp.Write Section.MakeRun) w = queue-make h.refused w
queue-list h (ListOp.Write (Section.Register x)) w = queue-registered _ w x.run
queue-list h _ w = refl

pub queue-reschedule : (q : List ℕ) (w : World) (r : ℕ) (a : Reply) → (reschedule_by q w r a).world.queues ≡ w.queues
queue-reschedule [] w r a = refl
queue-reschedule (f ∷ rest) w r a = refl

queue-log_if : (b : Bool) (w : World) (e : Event) → (log_if b w e).queues ≡ w.queues
queue-log_if true w e = refl
queue-log_if false w e = refl

pub queue-by_reference : (p : ℕ) (w : World) (a : Waker) → (call_by_reference p w a).world.queues ≡ w.queues
queue-by_reference p w (Task f) = queue-log_if _ w (Event.Woken p f)
queue-by_reference p w (Outside y) = refl

pub takes-run : (p : ℕ) (h : Hint) (o : RunOp) (w : World) → Takes w (run_act p h o w).world
takes-run p h RunOp.MakeRoom w = stays (queue-room h.refused w)
takes-run p h RunOp.ReturnRoom w = stays refl
takes-run p h (RunOp.TakeTurn x) w = stays refl
takes-run p h (RunOp.SearchCommon x look) w = takes-common look _ w x
takes-run p h (RunOp.LookOwn x at left) w = stays (queue-look _ w x at left)
takes-run p h (RunOp.WakeOwn x) w =
    stays (queue-by_reference p (log w (Event.WakerCalled p (Polled.Run x.run) x.poll x.waker)) x.waker)
takes-run p h (RunOp.Reschedule r a) w = stays (queue-reschedule _ w r a)

pub record Fewer (w v : World) : Type 0 where
  pub closed : (m : Mark) → (queue_of v m).closed ≡ (queue_of w m).closed
  pub items : (m : Mark) → length (queue_of v m).items ≤ length (queue_of w m).items

drop-less : (xs : List ℕ) → length (drop 1 xs) ≤ length xs
drop-less [] = omega arith
drop-less (x ∷ xs) = omega arith

less-first : (m n : Mark) (qs : Queues) →
    length (queue_in n (without_first_of m qs)).items ≤ length (queue_in n qs).items
less-first Urgent Urgent qs = drop-less qs.urgent.items
less-first Urgent Plain qs = omega arith
less-first Plain Urgent qs = omega arith
less-first Plain Plain qs = drop-less qs.plain.items

pub fewer : (w v : World) → Takes w v → Fewer w v
fewer w v (stays e) = record {
  closed = λ m. ap (λ (qs : Queues). (queue_in m qs).closed) e;
  items = λ m. omega (arith, ap (λ (qs : Queues). length (queue_in m qs).items) e);
}
fewer w v (first mark e) = record {
  closed = λ m. ap (λ (qs : Queues). (queue_in m qs).closed) e ∙ closed-first mark m w.queues;
  items = λ m. omega (arith, ap (λ (qs : Queues). length (queue_in m qs).items) e, less-first mark m w.queues);
}
