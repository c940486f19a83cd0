-- A handle goes of a future whose output is there: up to the output's drop, and from its end on.
use Rattle.std.proofs.Common.{◌≡◌, ℕ, ◌<◌, ◌==◌, ◌++◌, ◌&&◌, ◌||◌, not, Bool, true, false, List, ◌∷◌, length, Option, Some, None}
use Rattle.std.proofs.Common.{is_some, if◌then◌else◌, refl, sym, ap, subst, ◌∙◌}
use Rattle.std.proofs.lemmas.List.{get_or-set_same, set-get_or}
use Rattle.task_moves.specs.declared.moves.owed.Move.TheVariants as move
use Rattle.task_moves.specs.declared.moves.state.State.{State}
use Rattle.task_moves.specs.AbstractTask as abstract
use Rattle.task_moves.specs.AbstractTask.{AbstractTask}
use Rattle.task_moves.specs.LocalTask.{told}
use Rattle.task_moves.specs.Moves as moves
use Rattle.executor_model.specs.declared.call.Call.TheVariants as call
use Rattle.executor_model.specs.declared.call.Reply.TheVariants as reply
use Rattle.executor_model.specs.declared.event.Event.TheVariants as event
use Rattle.executor_model.specs.declared.op.Hold.TheVariants as hold
use Rattle.executor_model.specs.declared.op.Op.{Op}
use Rattle.executor_model.specs.declared.op.Op.TheVariants as op
use Rattle.executor_model.specs.declared.op.UserOp.TheVariants as user_op
use Rattle.executor_model.specs.declared.op.Waker.{Waker}
use Rattle.executor_model.specs.Acts.{told_of}
use Rattle.executor_model.specs.Carried.{owed_ops}
use Rattle.executor_model.specs.World.{World, Done, done, among, awaiter_of, blank, log}
use Rattle.executor_model.specs.World as world
use Rattle.plain_scheduler.specs.State.{Choice, Loses, Lose, Plain, Done as DoneAnswer}
use Rattle.plain_scheduler.specs.Lists.{on, or}
use Rattle.plain_scheduler.specs.Moves.{answers, appended, becomes, called, enters, put, see, task, tell}
use Rattle.plain_scheduler.specs.Calls as calls
use Rattle.plain_scheduler.specs.Calls.{Detach, DropHandle}
use Rattle.machine_roads.specs.View.{Output, view, wakes, waker_in}
use Rattle.machine_roads.specs.Road.{Follows}
use Rattle.machine_roads.specs.Alone.{alone, is_resting}
use Rattle.machine_roads.specs.Losing.{DetachesToLose, GoesToLose, IsLosing, LosesAlike, StopsLosing, left_of, without_handle}
use Rattle.machine_roads.proofs.Calling.{ends}
use Rattle.machine_roads.proofs.Changing.{logs, put_again, puts, sees}
use Rattle.machine_roads.proofs.Lists.{length_set, set_twice}
use Rattle.machine_roads.proofs.Marks.{emptied_owes}
use Rattle.machine_roads.proofs.Moving.{state}
use Rattle.machine_roads.proofs.Puts.{put_by}
use Rattle.machine_roads.proofs.Stepping.{Way, next}
use Rattle.machine_roads.proofs.Trying.{stops_at}
use Rattle.machine_roads.proofs.Used.{none_told}
use Rattle.machine_roads.proofs.Unseen.{stands_in}

abbrev output_if : Bool → Option Output
output_if b = if b then Some tt else None

-- without its handle and its output
abbrev lost_of : AbstractTask Output Waker → AbstractTask Output Waker
lost_of t = record t { handle = false; closed = true; output = None }

-- a task whose output is there
record IsGiving (s : State) (w : Option Waker) : Type 0 where
  over : moves.is_over s ≡ true
  finished : abstract.is_over (view s w).phase ≡ true
  output : (view s w).output ≡ Some tt
  detached : (abstract.detach (view s w)).task ≡ lost_of (view s w)
  goes : view (record s { closed = true; handle = false }) w ≡ told (lost_of (view s w))

giving_by : (c x s r h a g n : Bool) (k : ℕ) (w : Option Waker) → (c && not x) ≡ true → IsGiving (state s r c x h a g n k) w
giving_by true false s r h a g n k w is = record { over = refl; finished = refl; output = refl; detached = refl; goes = refl }
giving_by true true s r h a g n k w is = absurd cc
giving_by false x s r h a g n k w is = absurd cc

giving : (s : State) (w : Option Waker) → (s.completed && not s.closed) ≡ true → IsGiving s w
giving s w is =
    giving_by s.completed s.closed s.scheduled s.running s.handle s.awaiter s.registering s.notifying s.references w is

gives_one : (b : Bool) → is_some (output_if b) ≡ true → b ≡ true
gives_one true is = refl
gives_one false is = absurd cc

either : (a b : Bool) → b ≡ true → (a || b) ≡ true
either true b is = refl
either false b is = is

output_there : (f : ℕ) (w : World) (q : Plain Output Waker) → Follows w q → f < length w.tasks → is_some (task f q).output ≡ true
    → ((world.task w f).completed && not (world.task w f).closed) ≡ true
output_there f w q follows at some =
    gives_one ((world.task w f).completed && not (world.task w f).closed)
    (sym (ap (λ (t : AbstractTask Output Waker). is_some t.output) (follows.tasks f at)) ∙ some)

shut_gives : (c x : Bool) → x ≡ true → (c && not x) ≡ false
shut_gives true true is = refl
shut_gives false true is = refl
shut_gives c false is = absurd cc

module _ (p : ℕ) (below : List Op) (under : is_resting below ≡ true) (end : Done) (rests : is_resting end.next ≡ true) where
  -- a cancel of it changes nothing
  cancels_nothing : (f : ℕ) (w : World) (os : List Op) → moves.is_over (world.task w f) ≡ true
      → Way p end w (op.Move move.Cancel f ∷ os) → Way p end w os
  cancels_nothing f w os over way =
      by (moves.is_over (world.task w f)) over (next p end rests (op.Move move.Cancel f) w os refl way).way
    where
      by : (b : Bool) → b ≡ true
          → Way p end (world.put (told_of false (not b) move.Cancel p w f) f (moves.cancel_by b (moves.is_going (world.task w f))
          (world.task w f)).state)
          (owed_ops (among f (told_of false (not b) move.Cancel p w f).table) f (moves.cancel_by b (moves.is_going (world.task w f))
          (world.task w f)).owed ++ os)
          → Way p end w os
      by true is way = subst (λ ts. Way p end (record w { tasks = ts }) os) (set-get_or w.tasks f blank) way
      by false is way = absurd cc

  -- the output is to be dropped first
  comes : (c : Choice) (f : ℕ) (w : World) (q : Plain Output Waker) → Follows w q → f < length w.tasks
      → ((world.task w f).completed && not (world.task w f).closed) ≡ true
      → Way p end w (op.Move move.Detach f ∷ (op.End reply.Done (hold.Handle f) ∷ below))
      → StopsLosing f below q end (calls.detach wakes c f q)
  comes c f w q follows at there way =
      by ((world.task w f).completed && not (world.task w f).closed)
      (((world.task w f).references == 0) && not (world.task w f).closed) there
      (next p end rests (op.Move move.Detach f) w (op.End reply.Done (hold.Handle f) ∷ below) refl way).way
    where
      by : (x y : Bool) → x ≡ true
          → Way p end (world.put (told_of (not x && y) (not x) move.Detach p w f) f (moves.detach_by x y (world.task w f)).state)
          (owed_ops (among f (told_of (not x && y) (not x) move.Detach p w f).table) f (moves.detach_by x y (world.task w f)).owed
          ++ (op.End reply.Done (hold.Handle f) ∷ below))
          → StopsLosing f below q end (calls.detach wakes c f q)
      by false y is way = absurd cc
      by true y is way =
          let s = world.task w f in
          let aw = waker_in (awaiter_of w f) in
          let g : IsGiving s aw = giving s aw there in
          let t : AbstractTask Output Waker = task f q in
          let tk : t ≡ view s aw = follows.tasks f at in
          let shut : State = record s { closed = true } in
          let last : State = record s { closed = true; handle = false } in
          let os = left_of f ++ below in
          let w1 = world.put w f shut in
          let s2 = next p end rests (op.User (user_op.BeginDropOutput f)) w1 os refl way in
          let e = event.OutputDropped p f in
          let w2 = log w1 e in
          let stop : done w2 (op.User (user_op.DropOutput f) ∷ os) ≡ end =
          stops_at p below under end rests (op.User (user_op.DropOutput f) ∷ os) w2 refl s2.way in
          let new : AbstractTask Output Waker = lost_of t in
          let stored = follows.stored f at in
          let q1 : Plain Output Waker = put f new q in
          let w3 = world.put w f last in
          let follows3 : Follows w3 q1 =
          puts w q follows f at last new
          (g.goes ∙ ap (λ t. told (lost_of t)) (sym tk))
          (record { awaiter = stored.awaiter; registering = stored.registering; notifying = stored.notifying })
          (follows.calm f at) in
          let q2 : Plain Output Waker = see (Loses tt) q1 in
          let follows4 : Follows (log w3 e) q2 = sees w3 q1 follows3 e (Loses tt) refl in
          let q3 : Plain Output Waker = enters (Lose None None) q2 in
          let here : world.task w2 f ≡ shut = get_or-set_same w.tasks f shut blank at in
          let gone : log w3 e ≡ without_handle f w2 =
          sym (ap (λ (s : State). world.put w2 f (record s { handle = false })) here
          ∙ ap (λ ts. record w2 { tasks = ts }) (set_twice w.tasks f shut last)) in
          let is_lost : (abstract.detach t).task ≡ new =
          ap (λ t. (abstract.detach t).task) tk ∙ (g.detached ∙ ap lost_of (sym tk)) in
          let had : t.output ≡ Some tt = ap (λ (t : AbstractTask Output Waker). t.output) tk ∙ g.output in
          let becomes_one : becomes wakes (tell wakes c) f (abstract.detach t).task q ≡ q1 =
          ap (λ n. becomes wakes (tell wakes c) f n q) is_lost
          ∙ ap (λ b. if b then tell wakes c (appended f q1) else q1) (none_told t new refl) in
          let same : calls.detach wakes c f q ≡ q3 =
          ap (λ (o : Option Output). or o (λ v. enters (Lose None None) (see (Loses v) (again (becomes wakes (tell wakes c) f
          (abstract.detach t).task q)))) (answers DoneAnswer (again (becomes wakes (tell wakes c) f (abstract.detach t).task q)))) had
          ∙ (ap (λ z. enters (Lose None None) (see (Loses tt) (again z))) becomes_one
          ∙ ap (λ z. enters (Lose None None) (see (Loses tt) z)) (put_again f w3 q1 follows3)) in
          subst (StopsLosing f below q end) (sym same)
          (subst (λ (d : Done). StopsLosing f below q d q3) stop
          (record {
            left = refl;
            inside = ap (λ codes. Lose None None ∷ codes) (put_by (λ p. p.inside) f new q (λ fs. refl));
            losing = record {
              known = subst (λ n. f < n) (sym (length_set w.tasks f shut)) at;
              closed = ap (λ (s : State). s.closed) here;
              follows = subst (λ w. Follows w q3) gone (stands_in (Lose None None ∷ q2.inside) (log w3 e) q2 follows4 refl);
            };
          }))
        where
          again : Plain Output Waker → Plain Output Waker
          again z = put f (task f z) z

  -- once it is dropped the handle goes
  goes_on : (c : Choice) (f : ℕ) (w : World) (q : Plain Output Waker) → IsLosing w f q
      → Way p end w (op.Move move.Detach f ∷ (op.End reply.Done (hold.Handle f) ∷ below))
      → (end.next ≡ below) × Follows end.world (answers DoneAnswer q)
  goes_on c f w q losing way =
      let s = world.task w f in
      by (s.completed && not s.closed) ((s.references == 0) && not s.closed) (shut_gives s.completed s.closed losing.closed)
      (shut_gives (s.references == 0) s.closed losing.closed)
      (next p end rests (op.Move move.Detach f) w (op.End reply.Done (hold.Handle f) ∷ below) refl way).way
    where
      by : (x y : Bool) → x ≡ false → y ≡ false
          → Way p end (world.put (told_of (not x && y) (not x) move.Detach p w f) f (moves.detach_by x y (world.task w f)).state)
          (owed_ops (among f (told_of (not x && y) (not x) move.Detach p w f).table) f (moves.detach_by x y (world.task w f)).owed
          ++ (op.End reply.Done (hold.Handle f) ∷ below))
          → (end.next ≡ below) × Follows end.world (answers DoneAnswer q)
      by true y is none way = absurd cc
      by false true is none way = absurd cc
      by false false is none way =
          let os = op.End reply.Done (hold.Handle f) ∷ below in
          let e = event.Detached p f in
          let last = log (without_handle f w) e in
          ends p below under end rests last q reply.Done (hold.Handle f) DoneAnswer refl
          (logs (without_handle f w) q losing.follows e refl)
          (subst (λ ops. Way p end last (ops ++ os)) (emptied_owes (among f w.table) f ((world.task w f).references == 0)) way)

pub detaches_to_lose : (p : ℕ) (here : Option Waker) (below : List Op) (w : World) (q : Plain Output Waker)
    → is_resting below ≡ true → Follows w q → DetachesToLose p here below w q
detaches_to_lose p here below w q under follows c f some hints has rests =
    let w0 = log w (event.CallBegun p (call.Detach f)) in
    let os = op.End reply.Done (hold.Handle f) ∷ below in
    let end = alone p hints (done w0 (op.Move move.Detach f ∷ os)) in
    let start : Way p end w0 (op.Move move.Detach f ∷ os) = record { hints = hints; has = has; is = refl } in
    let s = next p end rests (op.Move move.Detach f) w0 os refl start in
    comes p below under end rests c f w0 q (logs w q follows (event.CallBegun p (call.Detach f)) refl) s.has.0
    (output_there f w q follows s.has.0 some) start

pub goes_to_lose : (p : ℕ) (here : Option Waker) (below : List Op) (w : World) (q : Plain Output Waker)
    → is_resting below ≡ true → Follows w q → GoesToLose p here below w q
goes_to_lose p here below w q under follows c f some hints has rests =
    let w0 = log w (event.CallBegun p (call.DropHandle f)) in
    let os = op.Move move.Detach f ∷ (op.End reply.Done (hold.Handle f) ∷ below) in
    let end = alone p hints (done w0 (op.Move move.Cancel f ∷ os)) in
    let start : Way p end w0 (op.Move move.Cancel f ∷ os) = record { hints = hints; has = has; is = refl } in
    let s = next p end rests (op.Move move.Cancel f) w0 os refl start in
    let at : f < length w.tasks = s.has.0 in
    let there = output_there f w q follows at some in
    let st = world.task w f in
    let g : IsGiving st (waker_in (awaiter_of w f)) = giving st (waker_in (awaiter_of w f)) there in
    let t : AbstractTask Output Waker = task f q in
    let over : (t.closed || abstract.is_over t.phase) ≡ true =
    either t.closed (abstract.is_over t.phase)
    (ap (λ (t : AbstractTask Output Waker). abstract.is_over t.phase) (follows.tasks f at) ∙ g.finished) in
    let nothing : abstract.cancel t ≡ abstract.left t =
    ap (λ b. if b then abstract.left t else record {
      task = record (abstract.close t) { awaiter = None };
      called = t.awaiter;
      dropped = None;
      let_go = None;
    }) over in
    let same : calls.cancel wakes c f q ≡ q =
    ap (λ (l : abstract.Left Output Waker). on l.called (called wakes (tell wakes c)) (becomes wakes (tell wakes c) f l.task q)) nothing
    ∙ (ap (λ b. if b then tell wakes c (appended f (put f t q)) else put f t q) (none_told t t refl) ∙ put_again f w q follows) in
    subst (λ r. StopsLosing f below q end (calls.detach wakes c f r)) (sym same)
    (comes p below under end rests c f w0 q (logs w q follows (event.CallBegun p (call.DropHandle f)) refl) at there
    (cancels_nothing p below under end rests f w0 os g.over start))

pub loses_alike : LosesAlike
loses_alike p f below w q c under losing hints unit has rests =
    goes_on p below under (alone p hints (done w (op.Move move.Detach f ∷ (op.End reply.Done (hold.Handle f) ∷ below)))) rests c f w q
    losing (record { hints = hints; has = has; is = refl })
