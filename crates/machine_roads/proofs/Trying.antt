-- A try of a tick: it takes the first that is due without a keeper, where one is, and comes to its poll or drop.
use Rattle.std.proofs.Common.{◌≡◌, ℕ, ◌≤◌, ◌<◌, ◌++◌, not, Bool, true, false, List, [], ◌∷◌, length, drop}
use Rattle.std.proofs.Common.{Option, Some, None, slice_get, slice_set, if◌then◌else◌, refl, sym, ap, subst, ◌∙◌}
use Rattle.std.proofs.lemmas.List.{get_or-set_same, set-get_or}
use Rattle.executor_parts.specs.declared.mark.Mark.{Mark}
use Rattle.executor_parts.specs.declared.mark.Mark.TheVariants.{Plain as PlainMark, Urgent}
use Rattle.executor_parts.specs.Marks.{first_of, other, turn_after}
use Rattle.queue_steps.specs.ClosableQueue.{taken}
use Rattle.task_moves.specs.declared.moves.owed.Move.TheVariants as move
use Rattle.task_moves.specs.declared.moves.state.State.{State}
use Rattle.task_moves.specs.AbstractTask as abstract
use Rattle.task_moves.specs.AbstractTask.{AbstractTask}
use Rattle.task_moves.specs.LocalTask.{told}
use Rattle.task_moves.specs.Moves as moves
use Rattle.executor_model.specs.declared.call.Call.TheVariants as call
use Rattle.executor_model.specs.declared.call.Reply.TheVariants as reply
use Rattle.executor_model.specs.declared.event.Event.TheVariants as event
use Rattle.executor_model.specs.declared.op.Hold.TheVariants as hold
use Rattle.executor_model.specs.declared.op.Look.TheVariants as look
use Rattle.executor_model.specs.declared.op.Op.{Op}
use Rattle.executor_model.specs.declared.op.Op.TheVariants as op
use Rattle.executor_model.specs.declared.op.QueueOp.TheVariants as queue_op
use Rattle.executor_model.specs.declared.op.SleeperOp.TheVariants as sleeper_op
use Rattle.executor_model.specs.declared.op.TableOp.TheVariants as table_op
use Rattle.executor_model.specs.declared.op.UserOp.TheVariants as user_op
use Rattle.executor_model.specs.declared.op.Waker.{Waker}
use Rattle.executor_model.specs.declared.step.Hint.{Hint}
use Rattle.executor_model.specs.Acts.{take_by, told_of}
use Rattle.executor_model.specs.Carried.{owed_ops}
use Rattle.executor_model.specs.World.{World, Done, done, among, awaiter_of, blank, log, put_queue, queue_of}
use Rattle.executor_model.specs.World as world
use Rattle.plain_scheduler.specs.State.{Choice, Closed, Drop, Drops, Due, Future, No, Plain, Poll, Polls, Ready}
use Rattle.plain_scheduler.specs.State.{Taker, Try, Yes}
use Rattle.plain_scheduler.specs.Lists.{any, on, or, without}
use Rattle.plain_scheduler.specs.Moves.{chosen, commons, enters, is_common, is_kept, put, see}
use Rattle.plain_scheduler.specs.Moves.{task, tell}
use Rattle.plain_scheduler.specs.Takes as plain_takes
use Rattle.plain_scheduler.specs.Calls.{does, TryTick}
use Rattle.machine_roads.specs.View.{Output, view, waker_in, wakes}
use Rattle.machine_roads.specs.Moving.{IsPolled, IsQueued}
use Rattle.machine_roads.specs.Dropped.{queued as queued_by}
use Rattle.machine_roads.specs.Road.{Follows, futures_in}
use Rattle.machine_roads.specs.Alone.{alone, is_resting, HasAll}
use Rattle.machine_roads.specs.Stopped.{Finally, TriesAlike, of_last, of_tick, of_try}
use Rattle.machine_roads.proofs.Aside.{tell_inside}
use Rattle.machine_roads.proofs.Calling.{ends, idles}
use Rattle.machine_roads.proofs.Changing.{logs, puts, sees}
use Rattle.machine_roads.proofs.Due.{First, find_never, find_same, first, keepers_apart, marks_apart, nothing, others, without_same}
use Rattle.machine_roads.proofs.Exchanging.{loudly}
use Rattle.machine_roads.proofs.GivingWay.{gives_inside, gives_way_so, next_is}
use Rattle.machine_roads.proofs.Lists.{length_set}
use Rattle.machine_roads.proofs.Puts.{put_at, put_by}
use Rattle.machine_roads.proofs.Running.{run_alike}
use Rattle.machine_roads.proofs.Stepping.{Way, next}
use Rattle.machine_roads.proofs.Standing.{Answered, Behind, InDrop, InPoll, Stands, StandsSo, stops_so}
use Rattle.machine_roads.proofs.Unseen.{places_so, stands_in, turns}

-- the first of a queue is taken
pub takes_first : (m : Mark) (w : World) (q : Plain Output Waker) (f : ℕ) (rest : List ℕ) → Follows w q
    → (queue_of w m).items ≡ f ∷ rest
    → First (is_common m) q.due f rest × Follows (put_queue w m (taken (queue_of w m))) (record q { due = without (is_common m) q.due })
takes_first m w q f rest r is =
    let one = first (is_common m) q.due f rest (sym (r.common m) ∙ is) in (
      one,
      record {
        limit = r.limit;
        kind = r.kind;
        many = r.many;
        places = r.places;
        marked = r.marked;
        tasks = r.tasks;
        stored = r.stored;
        marks = r.marks;
        calm = r.calm;
        table = r.table;
        common = λ n. items m n is one.left;
        kept = λ k. r.kept k ∙ sym (others (is_common m) (is_kept k) q.due (keepers_apart m k));
        wakers = r.wakers;
        count = r.count;
        flag = r.flag;
        asleep = r.asleep;
        numbered = r.numbered;
        runs = r.runs;
        waking = r.waking;
        seen = r.seen;
      },
    )
  where
    items : (m n : Mark) → (queue_of w m).items ≡ f ∷ rest → futures_in (is_common m) (without (is_common m) q.due) ≡ rest
        → (queue_of (put_queue w m (taken (queue_of w m))) n).items ≡ futures_in (is_common n) (without (is_common m) q.due)
    items PlainMark PlainMark is left = ap (drop 1) is ∙ sym left
    items Urgent Urgent is left = ap (drop 1) is ∙ sym left
    items PlainMark Urgent is left = r.common Urgent ∙ sym (others (is_common PlainMark) (is_common Urgent) q.due (marks_apart PlainMark))
    items Urgent PlainMark is left = r.common PlainMark ∙ sym (others (is_common Urgent) (is_common PlainMark) q.due (marks_apart Urgent))

pub final_inside : (taker : Taker Waker) (final : Op) (c : Choice) (q : Plain Output Waker) → Finally q taker final
    → (plain_takes.next wakes c taker q).inside ≡ q.inside
final_inside taker final c q of_try = refl
final_inside taker final c q (of_tick t a) = refl
final_inside taker final c q (of_last x last) =
    ap (λ (q : Plain Output Waker). q.inside) (next_is c x.run x.waker q last) ∙ gives_inside c x.run x.waker q

abbrev pub yes : Op
yes = op.End reply.Yes hold.Executor

module _ (p : ℕ) (below : List Op) (under : is_resting below ≡ true) (end : Done) (rests : is_resting end.next ≡ true) where
  -- where user code has to answer
  pub stops_at : (os : List Op) (w : World) → is_resting os ≡ true → Way p end w os → done w os ≡ end
  stops_at os w resting way = sym (idles p way.hints os w resting) ∙ way.is

  -- what is taken was all that there was to do
  pub finally_so : (taker : Taker Waker) (final : Op) (c : Choice) (w : World) (q : Plain Output Waker) → Finally q taker final
      → length q.lying ≤ c.tells → Follows w q → Way p end w (final ∷ below)
      → (end.next ≡ below) × Follows end.world (plain_takes.next wakes c taker q)
  finally_so taker final c w q of_try many follows way =
      ends p below under end rests w q reply.Yes hold.Executor Yes refl follows way
  finally_so taker final c w q (of_tick t a) many follows way =
      ends p below under end rests w q reply.Ready (hold.Tick t) Ready refl follows way
  finally_so taker final c w q (of_last x last) many follows way =
      subst (λ z. (end.next ≡ below) × Follows end.world z) (sym (next_is c x.run x.waker q last))
      (gives_way_so p below under end rests c x w q follows many last way)

  -- a future that was taken is polled, or dropped where it is closed
  pub runs : (taker : Taker Waker) (final : Op) (c : Choice) (f : ℕ) (w : World) (q : Plain Output Waker) → Follows w q
      → Way p end w (op.Move move.TakeUp f ∷ final ∷ below)
      → StandsSo taker final below q end (plain_takes.run wakes c f taker q)
  runs taker final c f w q follows way =
      let s1 = next p end rests (op.Move move.TakeUp f) w (final ∷ below) refl way in
      by (world.task w f).closed refl s1.has.0 s1.has.1.0 s1.has.1.1 s1.way
    where
      code : Bool → Plain Output Waker
      code b =
          if b then plain_takes.dropping wakes c f Closed taker q
          else enters (Poll f taker) (see (Polls f) (put f (abstract.begin_run (task f q)) q))

      put_see : (new : AbstractTask Output Waker) → put f new (see (Polls f) q) ≡ see (Polls f) (put f new q)
      put_see new = cases (slice_get q.futures f)
        where
          cases : (o : Option (Future Output Waker))
              → on o (λ x p. put_at f new x p) (see (Polls f) q) ≡ see (Polls f) (on o (λ x p. put_at f new x p) q)
          cases None = refl
          cases (Some x) = refl

      by : (b : Bool) → (world.task w f).closed ≡ b → f < length w.tasks → IsQueued (world.task w f) → among f w.table ≡ true
          → Way p end (world.put (told_of false (not b) move.TakeUp p w f) f (moves.take_up_by b (world.task w f)).state)
          (owed_ops (among f (told_of false (not b) move.TakeUp p w f).table) f (moves.take_up_by b (world.task w f)).owed
          ++ (final ∷ below))
          → StandsSo taker final below q end (plain_takes.run wakes c f taker q)
      by true closed at queued there way =
          let os = final ∷ below in
          let s = world.task w f in
          let now : Way p end w (op.Table (table_op.TakeToDrop f) ∷ op.Move move.SettleClosed f ∷ os) =
          subst (λ ts. Way p end (record w { tasks = ts }) (op.Table (table_op.TakeToDrop f) ∷ op.Move move.SettleClosed f ∷ os))
          (set-get_or w.tasks f blank)
          (subst (λ x. Way p end (world.put w f s) (owed_ops x f (moves.take_up_by true s).owed ++ os)) there way) in
          let s2 = next p end rests (op.Table (table_op.TakeToDrop f)) w (op.Move move.SettleClosed f ∷ os) refl now in
          let w2 = record w { inside = slice_set w.inside f false } in
          let s3 = next p end rests (op.User (user_op.BeginDrop f)) w2 (op.Move move.SettleClosed f ∷ os) refl s2.way in
          let w3 = log w2 (event.Dropped p f) in
          let last =
          stops_at (op.User (user_op.Drop f) ∷ op.Table (table_op.LeaveTable f) ∷ op.Move move.SettleClosed f ∷ os) w3 refl s3.way in
          subst (λ b. StandsSo taker final below q end (code b))
          (sym (ap (λ (t : AbstractTask Output Waker). t.closed) (follows.tasks f at) ∙ closed))
          (subst (λ (e : Done). StandsSo taker final below q e (code true)) last
          (record {
            stands =
                Behind (op.User (user_op.Drop f) ∷ op.Table (table_op.LeaveTable f) ∷ op.Move move.SettleClosed f ∷ os)
                (Drop f Closed taker ∷ q.inside)
                (InDrop f move.SettleClosed Closed (record { known = at; entered = there; ends = queued_by queued closed }));
            follows =
                stands_in (Drop f Closed taker ∷ q.inside) w3 (see (Drops f) q)
                (sees w2 q (places_so (slice_set w.inside f false) w q follows) (event.Dropped p f) (Drops f) refl) refl;
          }))
      by false open_still at queued there way =
          let os = final ∷ below in
          let s = world.task w f in
          let aw = waker_in (awaiter_of w f) in
          let after : State = record s { scheduled = false; running = true } in
          let t : AbstractTask Output Waker = task f q in
          let tk : t ≡ view s aw = follows.tasks f at in
          let closed : t.closed ≡ false = ap (λ (t : AbstractTask Output Waker). t.closed) tk ∙ open_still in
          let new : AbstractTask Output Waker = record t { phase = abstract.Phase.Polling } in
          let al : view after aw ≡ record (view s aw) { phase = abstract.Phase.Polling } =
          subst (λ b. view (moves.take_up_by b s).state aw ≡ (if b then view s aw else record (view s aw) {
            phase = abstract.Phase.Polling;
          })) open_still ((run_alike s aw).runs queued).task in
          let w1 = log w (event.PollBegun p f) in
          let stored = follows.stored f at in
          let w2 = world.put w1 f after in
          let follows2 : Follows w2 (put f new (see (Polls f) q)) =
          puts w1 (see (Polls f) q) (sees w q follows (event.PollBegun p f) (Polls f) refl) f at after new
          (al ∙ ap (λ (t : AbstractTask Output Waker). told (record t { phase = abstract.Phase.Polling })) (sym tk))
          (record { awaiter = stored.awaiter; registering = stored.registering; notifying = stored.notifying })
          (λ over. absurd cc) in
          let s2 = next p end rests (op.Table (table_op.TakeToPoll f)) w2 os refl way in
          let w3 = record w2 { inside = slice_set w.inside f false } in
          let last = stops_at (op.User (user_op.Poll f) ∷ os) w3 refl s2.way in
          let polled : Plain Output Waker = see (Polls f) (put f new q) in
          let same : abstract.begin_run t ≡ new =
          ap (λ b. if b then t else record t { phase = abstract.Phase.Polling }) closed in
          subst (λ b. StandsSo taker final below q end (code b)) (sym closed)
          (subst (λ n. StandsSo taker final below q end (enters (Poll f taker) (see (Polls f) (put f n q)))) (sym same)
          (subst (λ (e : Done). StandsSo taker final below q e (enters (Poll f taker) polled)) last
          (record {
            stands =
                subst (λ codes. Stands taker final below q.inside w3 (op.User (user_op.Poll f) ∷ os) (Poll f taker ∷ codes))
                (sym (put_by (λ p. p.inside) f new q (λ fs. refl)))
                (InPoll f
                (record {
                  known = subst (λ n. f < n) (sym (length_set w.tasks f after)) at;
                  polled =
                      subst IsPolled (sym (get_or-set_same w.tasks f after blank at))
                      (record { running = refl; completed = queued.completed; counted = queued.counted });
                  entered = there;
                }));
            follows =
                stands_in (Poll f taker ∷ polled.inside) w3 polled
                (places_so (slice_set w.inside f false) w2 polled (subst (Follows w2) (put_see new) follows2)) refl;
          })))

  -- one that was found is taken
  finds : (c : Choice) (m : Mark) (f : ℕ) (rest : List ℕ) (w : World) (q : Plain Output Waker) → length q.lying ≤ c.tells
      → Follows w q → (queue_of w m).items ≡ f ∷ rest
      → ((d : Due) → any (is_common m) q.due ≡ true → chosen (commons c) q.due d ≡ is_common m d)
      → Way p end (put_queue w m (taken (queue_of w m)))
      (op.Sleeper sleeper_op.ExchangeFlag ∷ op.Move move.TakeUp f ∷ yes ∷ below)
      → StandsSo Try yes below q end (does wakes c TryTick q)
  finds c m f rest w q many follows is tests way =
      let both = takes_first m w q f rest follows is in
      let one : First (is_common m) q.due f rest = both.0 in
      let q1 : Plain Output Waker = record q { due = without (is_common m) q.due } in
      let told =
      (loudly p end rests c).tells (put_queue w m (taken (queue_of w m))) (op.Move move.TakeUp f ∷ yes ∷ below)
      q1 many both.1 way in
      let run = runs Try yes c f told.world (tell wakes c q1) told.follows told.way in
      let new : Plain Output Waker = plain_takes.run wakes c f Try (tell wakes c q1) in
      let same : (d : Due) → chosen (commons c) q.due d ≡ is_common m d = λ d. tests d one.some in
      let take : Option Due → List Due → Plain Output Waker = λ o ds.
      or o (λ d. plain_takes.takes wakes c Try d (record q { due = ds })) (plain_takes.nothing wakes c Try q) in
      subst (StandsSo Try yes below q end)
      (sym (ap (λ o. take o (without (λ d. chosen (commons c) q.due d) q.due))
      (find_same (λ d. chosen (commons c) q.due d) (is_common m) q.due same ∙ one.found)
      ∙ (ap (take (Some one.due_one)) (without_same (λ d. chosen (commons c) q.due d) (is_common m) q.due same)
      ∙ ap (λ f. plain_takes.run wakes c f Try (tell wakes c q1)) one.is)))
      (record {
        stands = subst (λ codes. Stands Try yes below codes end.world end.next new.inside) (tell_inside c q1) run.stands;
        follows = run.follows;
      })

  -- nothing was found
  finds_none : (c : Choice) (w : World) (q : Plain Output Waker) → Follows w q → any (is_common c.first) q.due ≡ false
      → any (is_common (other c.first)) q.due ≡ false → Way p end w (op.End reply.No hold.Executor ∷ below)
      → StandsSo Try yes below q end (does wakes c TryTick q)
  finds_none c w q follows none nor way =
      let e = ends p below under end rests w q reply.No hold.Executor No refl follows way in
      let never : (d : Due) → chosen (commons c) q.due d ≡ false = λ d.
      ap (λ b. if b then is_common c.first d else (if any (is_common (other c.first)) q.due then is_common (other c.first) d
      else false)) none
      ∙ ap (λ b. if b then is_common (other c.first) d else false) nor in
      subst (StandsSo Try yes below q end)
      (sym (ap
      (λ o. or o (λ d. plain_takes.takes wakes c Try d (record q { due = without (λ d. chosen (commons c) q.due d) q.due }))
      (plain_takes.nothing wakes c Try q))
      (find_same (λ d. chosen (commons c) q.due d) (λ d. false) q.due never ∙ find_never q.due)))
      (record {
        stands = subst (λ os. Stands Try yes below q.inside end.world os q.inside) (sym e.0) (Behind below q.inside Answered);
        follows = e.1;
      })

  searches : (c : Choice) (w : World) (q : Plain Output Waker) → length q.lying ≤ c.tells → Follows w q
      → Way p end w (op.Queue (queue_op.Take (look.First c.first)) ∷ below) → StandsSo Try yes below q end (does wakes c TryTick q)
  searches c w q many follows way =
      let s = next p end rests (op.Queue (queue_op.Take (look.First c.first))) w below refl way in
      by (queue_of w c.first).items refl s.way
    where
      second : any (is_common c.first) q.due ≡ false → (xs : List ℕ) → (queue_of w (other c.first)).items ≡ xs
          → Way p end (take_by w (look.Second (other c.first)) xs).world ((take_by w (look.Second (other c.first)) xs).next ++ below)
          → StandsSo Try yes below q end (does wakes c TryTick q)
      second none [] is way =
          finds_none c w q follows none
          (nothing (is_common (other c.first)) q.due (sym (follows.common (other c.first)) ∙ is)).none way
      second none (f ∷ rest) is way =
          finds c (other c.first) f rest w q many follows is
          (λ d some.
          ap (λ b. if b then is_common c.first d else (if any (is_common (other c.first)) q.due then is_common (other c.first) d
          else false)) none
          ∙ ap (λ b. if b then is_common (other c.first) d else false) some) way

      by : (xs : List ℕ) → (queue_of w c.first).items ≡ xs
          → Way p end (take_by w (look.First c.first) xs).world ((take_by w (look.First c.first) xs).next ++ below)
          → StandsSo Try yes below q end (does wakes c TryTick q)
      by [] is way =
          let none = (nothing (is_common c.first) q.due (sym (follows.common c.first) ∙ is)).none in
          let s = next p end rests (op.Queue (queue_op.Take (look.Second (other c.first)))) w below refl way in
          second none (queue_of w (other c.first)).items refl s.way
      by (f ∷ rest) is way =
          finds c c.first f rest w q many follows is
          (λ d some. ap
          (λ b. if b then is_common c.first d else (if any (is_common (other c.first)) q.due then is_common (other c.first) d
          else false)) some) way

pub tries_so : (p : ℕ) (below : List Op) (w : World) (q : Plain Output Waker) → is_resting below ≡ true → Follows w q → (c : Choice)
    → c.first ≡ first_of w.urgent_turns → length q.lying ≤ c.tells → (hints : List Hint)
    → HasAll p hints (done (log w (event.CallBegun p call.TryTick)) (op.Queue queue_op.TakeTurn ∷ below))
    → is_resting (alone p hints (done (log w (event.CallBegun p call.TryTick)) (op.Queue queue_op.TakeTurn ∷ below))).next ≡ true
    → StandsSo Try yes below q (alone p hints (done (log w (event.CallBegun p call.TryTick)) (op.Queue queue_op.TakeTurn ∷ below)))
    (does wakes c TryTick q)
tries_so p below w q under follows c first many hints has rests =
    let w0 = log w (event.CallBegun p call.TryTick) in
    let end = alone p hints (done w0 (op.Queue queue_op.TakeTurn ∷ below)) in
    let start : Way p end w0 (op.Queue queue_op.TakeTurn ∷ below) = record { hints = hints; has = has; is = refl } in
    let s = next p end rests (op.Queue queue_op.TakeTurn) w0 below refl start in
    let later = record w0 { urgent_turns = turn_after w.urgent_turns } in
    let w1 = log later (event.Looked p (first_of w.urgent_turns)) in
    let follows1 : Follows w1 q =
    logs later q (turns (turn_after w.urgent_turns) w0 q (logs w q follows (event.CallBegun p call.TryTick) refl))
    (event.Looked p (first_of w.urgent_turns)) refl in
    searches p below under end rests c w1 q many follows1
    (subst (λ m. Way p end w1 (op.Queue (queue_op.Take (look.First m)) ∷ below)) (sym first) s.way)

pub tries : (p : ℕ) (here : Option Waker) (below : List Op) (w : World) (q : Plain Output Waker) → is_resting below ≡ true
    → Follows w q → TriesAlike p here below w q
tries p here below w q under follows c first many hints has rests =
    stops_so Try yes below q (alone p hints (done (log w (event.CallBegun p call.TryTick)) (op.Queue queue_op.TakeTurn ∷ below)))
    (does wakes c TryTick q) (tries_so p below w q under follows c first many hints has rests)
