-- In the executor's drop each future that was dropped is woken by its waker there, which goes; nobody lies who could be told.
use Rattle.std.proofs.Common.{◌≡◌, ℕ, ◌<◌, ◌++◌, ◌&&◌, not, nat_lt, Bool, true, false, List, [], ◌∷◌, length}
use Rattle.std.proofs.Common.{Option, is_some, if◌then◌else◌, refl, sym, ap, subst, ◌∙◌, append_assoc}
use Rattle.queue_steps.specs.ClosableQueue.{appended as appended_to}
use Rattle.executor_parts.specs.declared.mark.Mark.{Mark}
use Rattle.executor_parts.specs.declared.mark.Mark.TheVariants.{Plain as PlainMark, Urgent}
use Rattle.task_moves.specs.declared.moves.owed.Move.TheVariants as move
use Rattle.task_moves.specs.declared.moves.state.State.{State}
use Rattle.task_moves.specs.AbstractTask as abstract
use Rattle.task_moves.specs.AbstractTask.{AbstractTask}
use Rattle.task_moves.specs.LocalTask.{info_of, told}
use Rattle.task_moves.specs.Moves as moves
use Rattle.executor_model.specs.declared.call.Reply.TheVariants as reply
use Rattle.executor_model.specs.declared.event.Event.TheVariants as event
use Rattle.executor_model.specs.declared.op.ClosingOp.TheVariants as closing_op
use Rattle.executor_model.specs.declared.op.Hold.{Hold}
use Rattle.executor_model.specs.declared.op.Op.{Op}
use Rattle.executor_model.specs.declared.op.Op.TheVariants as op
use Rattle.executor_model.specs.declared.op.QueueOp.TheVariants as queue_op
use Rattle.executor_model.specs.declared.op.SleeperOp.TheVariants as sleeper_op
use Rattle.executor_model.specs.declared.op.Waker.{Waker}
use Rattle.executor_model.specs.Acts.{append_by, closing_ops, move_task, takes_more, wake_next_by}
use Rattle.executor_model.specs.ActsOfSleepers.{exchange_by}
use Rattle.executor_model.specs.Carried.{owed_ops}
use Rattle.executor_model.specs.Queues.{queue_in}
use Rattle.executor_model.specs.World.{World, Done, done, among, awaiter_of, log, mark_of, put_queue, queue_of}
use Rattle.executor_model.specs.World as world
use Rattle.plain_scheduler.specs.State.{Answers, Close, Code, Plain, Done as DoneAnswer}
use Rattle.plain_scheduler.specs.Lists.{each}
use Rattle.plain_scheduler.specs.Moves.{answers, appended, becomes, put, release, task, wake}
use Rattle.machine_roads.specs.View.{Output, view, waker_in, wakes}
use Rattle.machine_roads.specs.Moving.{IsMove}
use Rattle.machine_roads.specs.Road.{Follows, is_told}
use Rattle.machine_roads.specs.Alone.{is_resting, HasIn}
use Rattle.machine_roads.proofs.Calling.{idles}
use Rattle.machine_roads.proofs.Calm.{release_calm, wake_calm}
use Rattle.machine_roads.proofs.Changing.{appends, sees}
use Rattle.machine_roads.proofs.Leaking.{becomes_blind, take_all}
use Rattle.machine_roads.proofs.Lists.{clash}
use Rattle.machine_roads.proofs.Marks.{queue_if, released_owes, released_stored, used_owes, woken_stored}
use Rattle.machine_roads.proofs.Moved.{MovedSo, moved_so}
use Rattle.machine_roads.proofs.Moving.{releases_alike, wakes_alike}
use Rattle.machine_roads.specs.Lone.{waits_for}
use Rattle.machine_roads.proofs.Nobody.{becomes_here, calm_release, freed_lying, freed_so, release_calmly, told_waits, woken_waits}
use Rattle.machine_roads.proofs.Puts.{put_lying}
use Rattle.machine_roads.proofs.Stepping.{WayOf, next_of}
use Rattle.machine_roads.proofs.Unseen.{woken_so}
use Rattle.machine_roads.proofs.Used.{none_told}

-- both queues are open
abbrev pub AreOpen : World → Type 0
AreOpen w = (m : Mark) → (queue_of w m).closed ≡ false

closed_last : (w : World) (f : ℕ) (m n : Mark)
    → (queue_of (put_queue w m (appended_to (queue_of w m) f)) n).closed ≡ (queue_of w n).closed
closed_last w f PlainMark PlainMark = refl
closed_last w f PlainMark Urgent = refl
closed_last w f Urgent PlainMark = refl
closed_last w f Urgent Urgent = refl

module _ (p : ℕ) (end : Done) (rests : is_resting end.next ≡ true) where
  abbrev Left : World → List Op → Type 0
  Left = WayOf HasIn p end

  -- where it doesn't wait, a task is let go by a waker and nothing is queued
  pub releases_in : (f : ℕ) (w : World) (os : List Op) (r : Plain Output Waker) → Follows w r → waits_for (task f r) ≡ false
      → Left w (op.Move move.Release f ∷ os) → MovedSo Left w os (put f (abstract.release (task f r)) r)
  releases_in f w os r follows calm way =
      let step = next_of HasIn p end rests (op.Move move.Release f) w os refl way in
      let s = world.task w f in
      let a = waker_in (awaiter_of w f) in
      let al : IsMove (moves.release s) s a (abstract.release (view s a)) = releases_alike s a step.has.1 in
      let t : AbstractTask Output Waker = task f r in
      let tk : t ≡ view s a = follows.tasks f step.has.0 in
      let last : AbstractTask Output Waker = abstract.release t in
      let m =
      moved_so Left p move.Release f w os r last refl (λ q g. refl) follows step.has.0
      (al.task ∙ ap (λ t. told (abstract.release t)) (sym tk))
      (released_stored (awaiter_of w f) s (follows.stored f step.has.0)) (release_calm t (follows.calm f step.has.0)) step.way in
      let none : is_some (info_of t last) ≡ false =
      none_told t last (ap (λ (t : AbstractTask Output Waker). t.infos) (calm_release t calm)) in
      let off : is_some (moves.release s).owed.schedule ≡ false =
      al.queues ∙ (sym (ap (λ t. is_some (info_of t (abstract.release t))) tk) ∙ none) in
      record {
        world = m.world;
        follows = m.follows;
        queues = m.queues;
        own = m.own;
        table = m.table;
        way =
            subst (λ ops. Left m.world (ops ++ os)) (released_owes (among f w.table) f s ∙ ap (λ b. queue_if b f) off) m.way;
      }

  -- a call is answered that it is done
  pub ends_in : (w : World) (q : Plain Output Waker) (held : Hold) → Follows w q → Left w (op.End reply.Done held ∷ [])
      → (end.next ≡ []) × Follows end.world (answers DoneAnswer q)
  ends_in w q held follows way =
      let e = event.CallEnded p reply.Done in
      let step = next_of HasIn p end rests (op.End reply.Done held) w [] refl way in
      let there : done (log w e) [] ≡ end = sym (idles p step.way.hints [] (log w e) refl) ∙ step.way.is in
      subst (λ (d : Done). (d.next ≡ []) × Follows d.world (answers DoneAnswer q)) there
      (refl, sees w q follows e (Answers DoneAnswer) refl)

  -- a future was woken by a waker that went
  pub record Freed (f : ℕ) (r : Plain Output Waker) (w : World) (os : List Op) (q : Plain Output Waker) : Type 0 where
    pub world : World
    pub follows : Follows world q
    pub own : world.own ≡ w.own
    pub table : world.table ≡ w.table
    pub shut : (m : Mark) → (queue_of world m).closed ≡ (queue_of w m).closed
    pub still : waits_for (task f r) ≡ false → world.queues ≡ w.queues
    pub way : Left world os

  module _ (f : ℕ) (w : World) (os : List Op) (r : Plain Output Waker) (follows : Follows w r) (at : f < length w.tasks)
      (can : waits_for (task f r) ≡ true → (r.lying ≡ []) × AreOpen w) where
    abbrev s : State
    s = world.task w f

    abbrev a : Option Waker
    a = waker_in (awaiter_of w f)

    abbrev new : AbstractTask Output Waker
    new = abstract.wake (task f r)

    -- its future comes into its queue, if it does, where nobody is told
    queued_in : MovedSo Left w (owed_ops (among f w.table) f (moves.wake s).owed ++ os) (put f new r) → (b : Bool)
        → is_some (info_of (task f r) new) ≡ b
        → owed_ops (among f w.table) f (moves.wake s).owed ≡ queue_if b f ++ op.Move move.Release f ∷ []
        → Freed f r w (op.Move move.Release f ∷ os) (becomes wakes (λ s. s) f new r)
    queued_in m false none owes = record {
      world = m.world;
      follows = subst (Follows m.world) (sym (ap (λ b. if b then appended f (put f new r) else put f new r) none)) m.follows;
      own = m.own;
      table = m.table;
      shut = λ n. ap (λ qs. (queue_in n qs).closed) m.queues;
      still = λ calm. m.queues;
      way = subst (λ ops. Left m.world (ops ++ os)) owes m.way;
    }
    queued_in m true some owes =
        let z : Plain Output Waker = put f new r in
        let ok = can (told_waits (task f r) some) in
        let mk = mark_of m.world f in
        let more = op.Move move.Release f ∷ os in
        let one =
        next_of HasIn p end rests (op.Queue (queue_op.Append f)) m.world more refl
        (subst (λ ops. Left m.world (ops ++ os)) owes m.way) in
        let off : (queue_of m.world mk).closed ≡ false = ap (λ qs. (queue_in mk qs).closed) m.queues ∙ ok.1 mk in
        let takes : takes_more (queue_of m.world mk) m.world.limit ≡ true =
        ap (λ b. not b && nat_lt (length (queue_of m.world mk).items) m.world.limit) off ∙ one.has in
        let w2 = put_queue m.world mk (appended_to (queue_of m.world mk) f) in
        let follows2 : Follows w2 (appended f z) = appends m.world z m.follows f mk refl in
        let two =
        next_of HasIn p end rests (op.Sleeper sleeper_op.ExchangeFlag) w2 more refl
        (subst (λ b. Left (append_by b m.world mk f).world ((append_by b m.world mk f).next ++ more)) takes one.way) in
        let flag : w2.notified ≡ true = follows2.flag ∙ ap is_told (put_lying f new r ∙ ok.0) in
        record {
          world = w2;
          follows = subst (Follows w2) (sym (ap (λ b. if b then appended f z else z) some)) follows2;
          own = m.own;
          table = m.table;
          shut = λ n. closed_last m.world f mk n ∙ ap (λ qs. (queue_in n qs).closed) m.queues;
          still = λ calm. absurd (clash calm (told_waits (task f r) some));
          way = subst (λ b. Left (exchange_by b w2).world ((exchange_by b w2).next ++ more)) flag two.way;
        }

    pub frees_in : Left (move_task move.Wake p w f).world ((move_task move.Wake p w f).next ++ os) → Freed f r w os (freed_so f r)
    frees_in way =
        let al : IsMove (moves.wake s) s a (abstract.wake (view s a)) = (wakes_alike s a).1 in
        let tk : task f r ≡ view s a = follows.tasks f at in
        let b : Bool = is_some (moves.wake s).owed.schedule in
        let m =
        moved_so Left p move.Wake f w os r new refl (λ q g. refl) follows at
        (al.task ∙ ap (λ t. told (abstract.wake t)) (sym tk)) (woken_stored (awaiter_of w f) s (follows.stored f at))
        (wake_calm (task f r) (follows.calm f at)) way in
        let one =
        queued_in m b (ap (λ t. is_some (info_of t (abstract.wake t))) tk ∙ sym al.queues) (used_owes (among f w.table) f s) in
        let r1 : Plain Output Waker = becomes wakes (λ s. s) f new r in
        let calm : waits_for (task f r1) ≡ false = becomes_here f new r (woken_waits (task f r)) in
        let two = releases_in f one.world os r1 one.follows calm one.way in
        record {
          world = two.world;
          follows = subst (Follows two.world) (sym (release_calmly (λ s. s) f r1 calm)) two.follows;
          own = two.own ∙ one.own;
          table = two.table ∙ one.table;
          shut = λ n. ap (λ qs. (queue_in n qs).closed) two.queues ∙ one.shut n;
          still = λ calm. two.queues ∙ one.still calm;
          way = two.way;
        }

  -- each that is still to be woken is woken
  pub record Woken (w : World) (os : List Op) (q : Plain Output Waker) : Type 0 where
    pub world : World
    pub follows : Follows world q
    pub own : world.own ≡ w.own
    pub table : world.table ≡ w.table
    pub way : Left world os

  freed_blind : (codes : List (Code Output Waker)) (f : ℕ) (q : Plain Output Waker)
      → freed_so f (record q { inside = codes }) ≡ record (freed_so f q) { inside = codes }
  freed_blind codes f q =
      let z : Plain Output Waker = wake wakes (λ s. s) f q in
      ap (λ z. release wakes (λ s. s) f z) (becomes_blind codes (λ s. s) (λ q. refl) f (abstract.wake (task f q)) q)
      ∙ becomes_blind codes (λ s. s) (λ q. refl) f (abstract.release (task f z)) z

  pub wakes_on : (codes : List (Code Output Waker)) (ws : List ℕ) (w : World) (os : List Op) (q : Plain Output Waker)
      → Follows w (record q { inside = Close [] ws ∷ codes }) → q.lying ≡ [] → AreOpen w → Left w (closing_ops [] ws ++ os)
      → Woken w (op.Closing (closing_op.Close Urgent) ∷ os) (record (each ws freed_so q) { inside = Close [] [] ∷ codes })
  wakes_on codes [] w os q follows none opened way =
      record { world = w; follows = follows; own = refl; table = refl; way = way }
  wakes_on codes (f ∷ rest) w os q follows none opened way =
      let step = next_of HasIn p end rests (op.Closing closing_op.WakeNext) w os refl way in
      let woken : w.waking ≡ f ∷ rest = follows.waking ∙ take_all (f ∷ rest) in
      let w1 : World = record w { waking = rest } in
      let q1 : Plain Output Waker = record q { inside = Close [] rest ∷ codes } in
      let now : Left (wake_next_by p w (f ∷ rest)).world ((wake_next_by p w (f ∷ rest)).next ++ os) =
      subst (λ ws. Left (wake_next_by p w ws).world ((wake_next_by p w ws).next ++ os)) woken step.way in
      let one =
      frees_in f w1 (closing_ops [] rest ++ os) q1
      (woken_so rest (Close [] rest ∷ codes) w (record q { inside = Close [] (f ∷ rest) ∷ codes }) follows (sym (take_all rest)))
      (step.has f rest woken) (λ waits. (none, opened))
      (subst (Left (wake_next_by p w (f ∷ rest)).world)
      (append_assoc (move_task move.Wake p w1 f).next (closing_ops [] rest) os) now) in
      let more =
      wakes_on codes rest one.world os (freed_so f q)
      (subst (Follows one.world) (freed_blind (Close [] rest ∷ codes) f q) one.follows) (freed_lying f q ∙ none)
      (λ m. one.shut m ∙ opened m) one.way in
      record {
        world = more.world;
        follows = more.follows;
        own = more.own ∙ one.own;
        table = more.table ∙ one.table;
        way = more.way;
      }
