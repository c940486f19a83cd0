-- A poll of a handle, from its beginning to its answer.
use Rattle.std.proofs.Common.{◌≡◌, ℕ, ◌≤◌, ◌<◌, ◌++◌, not, Bool, true, false, List, [], ◌∷◌, length, Option, Some, None}
use Rattle.std.proofs.Common.{is_some, if◌then◌else◌, refl, sym, ap, subst, ◌∙◌, append_assoc}
use Rattle.std.proofs.lemmas.List.{set-get_or}
use Rattle.task_moves.specs.declared.moves.state.State.{State}
use Rattle.task_moves.specs.AbstractTask as abstract
use Rattle.task_moves.specs.AbstractTask.{AbstractTask, Phase, Idle, Queued, Polling, PollingWoken, Finished}
use Rattle.task_moves.specs.AbstractTask.Polled.{Output as OutputOf, Cancelled as IsCancelled, Waits}
use Rattle.task_moves.specs.LocalTask.{told}
use Rattle.task_moves.specs.Moves as moves
use Rattle.executor_model.specs.declared.call.By.{By}
use Rattle.executor_model.specs.declared.call.Call.TheVariants as call
use Rattle.executor_model.specs.declared.call.Reply.TheVariants as reply
use Rattle.executor_model.specs.declared.event.Event.TheVariants as event
use Rattle.executor_model.specs.declared.op.Awaiter.{Awaiter}
use Rattle.executor_model.specs.declared.op.HandleOp.TheVariants as handle_op
use Rattle.executor_model.specs.declared.op.Hold.TheVariants as hold
use Rattle.executor_model.specs.declared.op.Op.{Op}
use Rattle.executor_model.specs.declared.op.Op.TheVariants as op
use Rattle.executor_model.specs.declared.op.Waker.{Waker}
use Rattle.executor_model.specs.declared.op.Waker.TheVariants.{Task, Outside}
use Rattle.executor_model.specs.declared.step.Hint.{Hint}
use Rattle.executor_model.specs.Acts.{copied, copy_awaiter_by, is_copy_refused, let_go, look_by}
use Rattle.executor_model.specs.Carried.{awaiter_ops}
use Rattle.executor_model.specs.Steps.{waker_of}
use Rattle.executor_model.specs.World.{World, Done, done, awaiter_of, blank, log}
use Rattle.executor_model.specs.World as world
use Rattle.plain_scheduler.specs.State.{Choice, Plain, Cancelled, Gives, NoMemory, Pending}
use Rattle.plain_scheduler.specs.Lists.{on}
use Rattle.plain_scheduler.specs.Moves.{answers, put, task, tell}
use Rattle.plain_scheduler.specs.Moves as plain
use Rattle.plain_scheduler.specs.Calls.{handle_by, is_granted, registered}
use Rattle.machine_roads.specs.View.{Output, view, waker_in, wakes}
use Rattle.machine_roads.specs.Road.{Follows}
use Rattle.machine_roads.specs.Alone.{alone, is_resting, CanCopy, HasAll}
use Rattle.machine_roads.specs.Alike.{refuses_second, HandlePollsAlike}
use Rattle.machine_roads.proofs.Calling.{ends}
use Rattle.machine_roads.proofs.Cancelling.{notifies_nobody}
use Rattle.machine_roads.proofs.Changing.{logs, puts}
use Rattle.machine_roads.proofs.Exchanging.{loudly}
use Rattle.machine_roads.proofs.Lists.{clash}
use Rattle.machine_roads.proofs.Moving.{state}
use Rattle.machine_roads.proofs.Polling.{copied_polled, copies_so, found, found_is, let_go_polled, lets_go_so, looks_again, stores}
use Rattle.machine_roads.proofs.Puts.{put_asks, put_lying}
use Rattle.machine_roads.proofs.Stepping.{Way}

-- a task of which an output is given
gives_by : (c x s r h a g n : Bool) (k : ℕ) (w : Option Waker) → c ≡ true → x ≡ false
    → view (state s r c true h a g n k) w ≡ told (record (view (state s r c x h a g n k) w) { closed = true; output = None })
gives_by true false s r h a g n k w done unclosed = refl
gives_by true true s r h a g n k w done unclosed = absurd cc
gives_by false x s r h a g n k w done unclosed = absurd cc

gives_is : (s : State) (w : Option Waker) → s.completed ≡ true → s.closed ≡ false
    → view (record s { closed = true }) w ≡ told (record (view s w) { closed = true; output = None })
gives_is s w done unclosed =
    gives_by s.completed s.closed s.scheduled s.running s.handle s.awaiter s.registering s.notifying s.references w done unclosed

cancelled_over : (o : Option Output) (phase : Phase) → abstract.polled_by o phase ≡ IsCancelled → abstract.is_over phase ≡ true
cancelled_over (Some v) phase is = absurd cc
cancelled_over None Finished is = refl
cancelled_over None Idle is = absurd cc
cancelled_over None Queued is = absurd cc
cancelled_over None Polling is = absurd cc
cancelled_over None PollingWoken is = absurd cc

finished_by : (c x s r h a g n : Bool) (k : ℕ) (w : Option Waker) → c ≡ true
    → abstract.is_over (view (state s r c x h a g n k) w).phase ≡ true
finished_by true x s r h a g n k w is = refl
finished_by false x s r h a g n k w is = absurd cc

nobody_is : (a : Option Awaiter) → waker_in a ≡ None → a ≡ None
nobody_is None is = refl
nobody_is (Some a) is = absurd cc

pub copied_lying : (a : Waker) (q : Plain Output Waker) → (plain.copied wakes a q).lying ≡ q.lying
copied_lying (Outside x) q = refl
copied_lying (Task g) q = put_lying g (abstract.copy (task g q)) q

module _ (p : ℕ) (here : Option Waker) (below : List Op) (under : is_resting below ≡ true) (w : World) (q : Plain Output Waker)
    (follows : Follows w q) (c : Choice) (f : ℕ) (b : By)
    (many : length q.lying ≤ c.tells) where
  abbrev a : Waker
  a = waker_of here b

  abbrev w' : World
  w' = log w (event.CallBegun p (call.PollHandle f b))

  start : Follows w' q
  start = logs w q follows (event.CallBegun p (call.PollHandle f b)) refl

  abbrev s : State
  s = world.task w f

  abbrev w1 : World
  w1 = log w' (event.HandlePolled p f)

  follows1 : Follows w1 q
  follows1 = logs w' q start (event.HandlePolled p f) refl

  abbrev Leaves : Done → Plain Output Waker → Type 0
  Leaves end q = (end.next ≡ below) × Follows end.world q

  abbrev waiting : Plain Output Waker → Plain Output Waker
  waiting q = if is_granted c.refusal then registered wakes c f a (plain.copied wakes a q) else answers NoMemory q

  -- a waker that was copied is left
  granted_waits : (end : Done) → is_resting end.next ≡ true → f < length w.tasks → abstract.polled (task f q) ≡ Waits
      → CanCopy w' a → (refused : Bool) → is_granted c.refusal ≡ not refused
      → Way p end (copy_awaiter_by refused p w' f a).world ((copy_awaiter_by refused p w' f a).next ++ below)
      → Leaves end (waiting q)
  granted_waits end rests at waits can true granted way =
      subst (λ b. Leaves end (if b then registered wakes c f a (plain.copied wakes a q) else answers NoMemory q)) (sym granted)
      (ends p below under end rests w' q reply.NoMemory (hold.Handle f) NoMemory refl start way)
  granted_waits end rests at waits can false granted way =
      let more = tell wakes c in
      let fits : Plain Output Waker → Type 0 = λ q. length q.lying ≤ c.tells in
      let teller = loudly p end rests c in
      let q1 = plain.copied wakes a q in
      let w2 = log (copied w' a) (event.HandlePolled p f) in
      let follows2 = logs (copied w' a) q1 (copies_so a w' q start can) (event.HandlePolled p f) refl in
      let waits1 : abstract.polled (task f q1) ≡ Waits = copied_polled a f q ∙ waits in
      let st = stores p end rests f a (length w'.trace) w2 below q1 follows2 waits1 way in
      let q2 = put f (record (task f q1) { awaiter = Some a }) q1 in
      let fit : fits q2 =
      subst (λ ls. length ls ≤ c.tells)
      (sym (put_lying f (record (task f q1) { awaiter = Some a }) q1 ∙ copied_lying a q)) many in
      let old = awaiter_of w2 f in
      let gone =
      lets_go_so p end rests more fits teller old st.world (op.Handle (handle_op.LookAgain f) ∷ below) q2 st.follows fit
      (subst (Way p end st.world) (append_assoc (let_go old) (op.Handle (handle_op.LookAgain f) ∷ []) below) st.way) in
      let q3 = on (waker_in old) (plain.let_go wakes more) q2 in
      let waits3 : abstract.polled (task f q3) ≡ Waits =
      let_go_polled p end rests more fits teller (waker_in old) f q2
      ∙ (put_asks (λ t. abstract.polled t) f f (record (task f q1) { awaiter = Some a }) q1 refl ∙ waits1) in
      let again = looks_again p end rests f gone.world below q3 gone.follows waits3 gone.way in
      let same : registered wakes c f a q1 ≡ answers Pending q3 =
      ap
      (λ e. answers Pending (on (abstract.poll_by e a (task f q1)).let_go (plain.let_go wakes more)
      (put f (abstract.poll_by e a (task f q1)).task q1)))
      waits1
      ∙ ap (λ (o : Option Waker). answers Pending (on o (plain.let_go wakes more) q2))
      (ap (λ (t : AbstractTask Output Waker). t.awaiter) (follows2.tasks f st.at)) in
      subst (λ b. Leaves end (if b then registered wakes c f a q1 else answers NoMemory q)) (sym granted)
      (subst (Leaves end) (sym same)
      (ends p below under end rests gone.world q3 reply.Pending (hold.Handle f) Pending refl gone.follows again))

  copy_same : (h : Hint) (a : Waker) → is_copy_refused h w' a ≡ is_copy_refused h w a
  copy_same h (Task g) = refl
  copy_same h (Outside x) = refl

  waits_so : (g : Hint) (hs : List Hint) → f < length w.tasks → abstract.polled (task f q) ≡ Waits
      → is_granted c.refusal ≡ not (refuses_second (g ∷ hs) w a)
      → HasAll p hs (done w' (op.Handle (handle_op.CopyAwaiter f a) ∷ below))
      → is_resting (alone p hs (done w' (op.Handle (handle_op.CopyAwaiter f a) ∷ below))).next ≡ true
      → Leaves (alone p hs (done w' (op.Handle (handle_op.CopyAwaiter f a) ∷ below))) (waiting q)
  waits_so g [] at waits granted has rests = absurd (clash refl rests)
  waits_so g (h ∷ hs) at waits granted has rests =
      granted_waits (alone p (h ∷ hs) (done w' (op.Handle (handle_op.CopyAwaiter f a) ∷ below))) rests at waits has.0
      (is_copy_refused h w' a) (granted ∙ sym (ap not (copy_same h a))) (record { hints = hs; has = has.1; is = refl })

  cancelled_so : (end : Done) → is_resting end.next ≡ true → f < length w.tasks → abstract.polled (task f q) ≡ IsCancelled
      → Way p end (world.put w1 f s) (op.Handle (handle_op.Notify f true) ∷ op.End reply.Cancelled (hold.Handle f) ∷ below)
      → Leaves end (answers Cancelled q)
  cancelled_so end rests at is way =
      let os = op.End reply.Cancelled (hold.Handle f) ∷ below in
      let here : Way p end w1 (op.Handle (handle_op.Notify f true) ∷ os) =
      subst (λ ts. Way p end (record w1 { tasks = ts }) (op.Handle (handle_op.Notify f true) ∷ os)) (set-get_or w.tasks f blank) way in
      let t =
      notifies_nobody p end rests (tell wakes c) (λ q. length q.lying ≤ c.tells) (loudly p end rests c) f true w1 os q follows1
      (follows.calm f at (cancelled_over (task f q).output (task f q).phase is)) here in
      ends p below under end rests t.world q reply.Cancelled (hold.Handle f) Cancelled refl t.follows t.way

  gives_so : (end : Done) → is_resting end.next ≡ true → f < length w.tasks → abstract.polled (task f q) ≡ OutputOf tt
      → s.completed ≡ true → s.closed ≡ false
      → Way p end (log (world.put w1 f (record s { closed = true })) (event.OutputGiven p f))
      ((awaiter_ops f (moves.notify_other_if s.awaiter) ++ op.End reply.Ready (hold.Handle f) ∷ []) ++ below)
      → Leaves end (answers (Gives tt) (put f (abstract.poll a (task f q)).task q))
  gives_so end rests at is over unclosed way =
      let aw = awaiter_of w f in
      let tk : task f q ≡ view s (waker_in aw) = follows.tasks f at in
      let none : (task f q).awaiter ≡ None =
      follows.calm f at
      (ap (λ (t : AbstractTask Output Waker). abstract.is_over t.phase) tk
      ∙ finished_by s.completed s.closed s.scheduled s.running s.handle s.awaiter s.registering s.notifying s.references
      (waker_in aw) over) in
      let there : aw ≡ None = nobody_is aw (sym (ap (λ (t : AbstractTask Output Waker). t.awaiter) tk) ∙ none) in
      let stored = follows.stored f at in
      let free : s.awaiter ≡ false = stored.awaiter ∙ ap (λ (o : Option Awaiter). is_some o) there in
      let new : AbstractTask Output Waker = record (task f q) { closed = true; output = None } in
      let q1 = put f new q in
      let w2 = world.put w1 f (record s { closed = true }) in
      let follows2 : Follows w2 q1 =
      puts w1 q follows1 f at (record s { closed = true }) new
      (gives_is s (waker_in aw) over unclosed
      ∙ ap (λ (t : AbstractTask Output Waker). told (record t { closed = true; output = None })) (sym tk))
      (record { awaiter = stored.awaiter; registering = stored.registering; notifying = stored.notifying }) (λ over. none) in
      let last = log w2 (event.OutputGiven p f) in
      let same : (abstract.poll a (task f q)).task ≡ new = ap (λ e. (abstract.poll_by e a (task f q)).task) is in
      subst (λ t. Leaves end (answers (Gives tt) (put f t q))) (sym same)
      (ends p below under end rests last q1 reply.Ready (hold.Handle f) (Gives tt) refl (logs w2 q1 follows2 (event.OutputGiven p f) refl)
      (subst
      (λ x. Way p end last ((awaiter_ops f (moves.notify_other_if x) ++ op.End reply.Ready (hold.Handle f) ∷ []) ++ below))
      free way))

  abbrev looked : Bool → Bool → Bool → Done
  looked x g d = look_by (moves.poll_by x g d s).owed.answer p w' f a (moves.poll_by x g d s)

  by_bits : (h : Hint) (hs : List Hint) → f < length w.tasks
      → (abstract.polled (task f q) ≡ Waits → is_granted c.refusal ≡ not (refuses_second (h ∷ hs) w a)) → (x g d : Bool) → s.closed ≡ x
      → s.completed ≡ d → abstract.polled (task f q) ≡ found x g d
      → HasAll p hs (done (looked x g d).world ((looked x g d).next ++ below))
      → is_resting (alone p hs (done (looked x g d).world ((looked x g d).next ++ below))).next ≡ true
      → Leaves (alone p hs (done (looked x g d).world ((looked x g d).next ++ below))) (handle_by wakes c f a (found x g d) q)
  by_bits h hs at granted true true d closed done_is is has rests = waits_so h hs at is (granted is) has rests
  by_bits h hs at granted false g false closed done_is is has rests = waits_so h hs at is (granted is) has rests
  by_bits h hs at granted true false d closed done_is is has rests =
      cancelled_so (alone p hs (done (looked true false d).world ((looked true false d).next ++ below))) rests at is
      (record { hints = hs; has = has; is = refl })
  by_bits h hs at granted false g true closed done_is is has rests =
      gives_so (alone p hs (done (looked false g true).world ((looked false g true).next ++ below))) rests at is done_is closed
      (record { hints = hs; has = has; is = refl })

pub polls : (p : ℕ) (here : Option Waker) (below : List Op) (w : World) (q : Plain Output Waker) → is_resting below ≡ true
    → Follows w q → HandlePollsAlike p here below w q
polls p here below w q under follows c f b many [] granted has rests = absurd (clash refl rests)
polls p here below w q under follows c f b many (h ∷ hs) granted has rests =
    let s = world.task w f in
    let at : f < length w.tasks = has.0.0 in
    let is : abstract.polled (task f q) ≡ found s.closed (moves.is_going s) s.completed =
    ap (λ (t : AbstractTask Output Waker). abstract.polled t) (follows.tasks f at)
    ∙ found_is s (waker_in (awaiter_of w f)) has.0.1 in
    subst
    (λ e. ((alone p (h ∷ hs) (done (log w (event.CallBegun p (call.PollHandle f b)))
    (op.Handle (handle_op.Look f (waker_of here b)) ∷ below))).next ≡ below)
    × Follows (alone p (h ∷ hs) (done (log w (event.CallBegun p (call.PollHandle f b)))
    (op.Handle (handle_op.Look f (waker_of here b)) ∷ below))).world (handle_by wakes c f (waker_of here b) e q))
    (sym is)
    (by_bits p here below under w q follows c f b many h hs at granted s.closed (moves.is_going s) s.completed refl refl is has.1 rests)
