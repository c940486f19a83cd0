-- What calls of wakers and handles do is the same whatever is in the table; they close no queue, let nobody lie down and no task wait.
use Rattle.std.proofs.Common.{◌≡◌, ℕ, ◌+◌, ◌<◌, ◌==◌, ◌++◌, ◌&&◌, ◌||◌, not, Bool, true, false, List, [], ◌∷◌, length}
use Rattle.std.proofs.Common.{Option, Some, None, refl, sym, ap, subst, ◌∙◌, get_or-set_same, get_or-set_other}
use Rattle.queue_steps.specs.ClosableQueue.{appended}
use Rattle.executor_parts.specs.Sleepers.{last_waker}
use Rattle.executor_parts.specs.declared.mark.Mark.{Mark}
use Rattle.executor_parts.specs.declared.mark.Mark.TheVariants.{Plain as PlainMark, Urgent}
use Rattle.task_moves.specs.declared.moves.owed.Move.{Move}
use Rattle.task_moves.specs.declared.moves.owed.Move.TheVariants as move
use Rattle.task_moves.specs.declared.moves.state.State.{State}
use Rattle.task_moves.specs.Moves as moves
use Rattle.executor_model.specs.declared.call.Reply.TheVariants as reply
use Rattle.executor_model.specs.declared.event.Event.TheVariants as event
use Rattle.executor_model.specs.declared.op.HandleOp.TheVariants as handle_op
use Rattle.executor_model.specs.declared.op.Hold.{Hold}
use Rattle.executor_model.specs.declared.op.Hold.TheVariants as hold
use Rattle.executor_model.specs.declared.op.Op.{Op}
use Rattle.executor_model.specs.declared.op.Op.TheVariants as op
use Rattle.executor_model.specs.declared.op.Polled.{Polled}
use Rattle.executor_model.specs.declared.op.Polled.TheVariants as of
use Rattle.executor_model.specs.declared.op.QueueOp.TheVariants as queue_op
use Rattle.executor_model.specs.declared.op.Sleeping.{Sleeping}
use Rattle.executor_model.specs.declared.op.SleeperOp.TheVariants as sleeper_op
use Rattle.executor_model.specs.declared.op.UserOp.TheVariants as user_op
use Rattle.executor_model.specs.declared.op.Waker.{Waker}
use Rattle.executor_model.specs.declared.op.Waker.TheVariants.{Task, Outside}
use Rattle.executor_model.specs.declared.op.WakerOp.TheVariants as waker_op
use Rattle.executor_model.specs.declared.step.Hint.{Hint}
use Rattle.executor_model.specs.Acts.{append_by, copy_awaiter, copy_awaiter_by, copy_by, end_register_by}
use Rattle.executor_model.specs.Acts.{is_copy_refused, is_last_waker, is_refused, is_told, let_go_by}
use Rattle.executor_model.specs.Acts.{look_again_by, look_by, move_by, move_task, notify_by, register_by, stands_alone}
use Rattle.executor_model.specs.Acts.{call_waker, takes_more, told_of}
use Rattle.executor_model.specs.ActsOfSleepers.{exchange_by, hand_out_by, polled_as}
use Rattle.executor_model.specs.Carried.{awaiter_ops, carried, owed_ops}
use Rattle.executor_model.specs.Doing.{act}
use Rattle.executor_model.specs.Good.{IsKnownWaker}
use Rattle.executor_model.specs.Steps.{waits}
use Rattle.executor_model.specs.World.{World, Done, among, awaiter_of, blank, done, log, mark_of, put, put_queue, queue_of}
use Rattle.executor_model.specs.World as world
use Rattle.machine_roads.specs.Alone.{CanCopy, Has}
use Rattle.machine_roads.proofs.Lists.{apart_of, length_set, same_of}
use Rattle.machine_roads.proofs.Tying.{no_hint}
use Rattle.machine_roads.proofs.Waits.{waits_in}
use Rattle.machine_roads.proofs.Loose.{Loose, are_of_calls, cancels_loosely_by, detaches_loosely_by, is_of_call, let_go_fits, not_both}
use Rattle.machine_roads.proofs.Loose.{owes_alike, releases_loosely_by, shut_one, told_fits, uses_loosely_by, wakes_loosely_by}

module _ (A : ℕ → Bool) (t l : List ℕ) (own : List (List ℕ)) where
  -- with another table
  abbrev pub beside : World → World
  beside w = record w { table = t; leaving = l; own = own }

  abbrev pub beside_done : Done → Done
  beside_done d = done (beside d.world) d.next

  -- only these wait
  abbrev pub OnlyWait : World → Type 0
  OnlyWait w = (f : ℕ) → f < length w.tasks → waits_in (world.task w f) ≡ true → A f ≡ true

  -- a thing to do that is done here, and there
  pub record Does (w : World) (there here : Done) : Type 0 where
    pub same : there ≡ beside_done here
    pub shut : (m : Mark) → (queue_of here.world m).closed ≡ (queue_of w m).closed
    pub count : here.world.sleepers.count ≡ w.sleepers.count
    pub only : OnlyWait here.world
    pub fits : are_of_calls here.next ≡ true

  pub put_only : (w : World) (f : ℕ) (s : State) → OnlyWait w → f < length w.tasks
      → (waits_in s ≡ true → waits_in (world.task w f) ≡ true) → OnlyWait (put w f s)
  put_only w f s all known waits g at is = by (f == g) refl (subst (λ n. g < n) (length_set w.tasks f s) at) is
    where
      by : (b : Bool) → (f == g) ≡ b → g < length w.tasks → waits_in (world.task (put w f s) g) ≡ true → A g ≡ true
      by true same there is =
          subst (λ g. waits_in (world.task (put w f s) g) ≡ true → A g ≡ true) (same_of f g same)
          (λ is. all f known (waits (sym (ap waits_in (get_or-set_same w.tasks f s blank known)) ∙ is))) is
      by false apart there is =
          all g there
          (sym (ap waits_in (get_or-set_other w.tasks f g s blank (λ same. apart_of f g apart (sym same)))) ∙ is)

  moves_do : (m : Move) (p : ℕ) (w v : World) (f : ℕ) → stands_alone m ≡ true → OnlyWait v → f < length v.tasks
      → Loose (world.task v f) (moves.after m (world.task v f)) → ((n : Mark) → (queue_of v n).closed ≡ (queue_of w n).closed)
      → v.sleepers.count ≡ w.sleepers.count → Does w (move_task m p (beside v) f) (move_task m p v f)
  moves_do m p w v f stands all at loose shut count =
      subst (λ b. Does w (move_by b m p (beside v) f) (move_by b m p v f)) (sym stands)
      (by (is_last_waker m (world.task v f)) (is_told m (world.task v f)))
    where
      moved : OnlyWait (put v f (moves.after m (world.task v f)).state)
      moved = put_only v f (moves.after m (world.task v f)).state all at loose.waits

      owes : (a b : Bool)
          → owed_ops a f (moves.after m (world.task v f)).owed ≡ owed_ops b f (moves.after m (world.task v f)).owed
      owes a b = owes_alike a b f (moves.after m (world.task v f)).owed loose.future

      by : (last b : Bool)
          → Does w (carried (told_of last b m p (beside v) f) f (moves.after m (world.task v f)))
          (carried (told_of last b m p v f) f (moves.after m (world.task v f)))
      by true true = record {
        same =
            ap (done (beside (put (told_of true true m p v f) f (moves.after m (world.task v f)).state)))
            (owes (among f t) (among f v.table));
        shut = shut;
        count = count;
        only = moved;
        fits = loose.fits (among f v.table) f;
      }
      by true false = record {
        same =
            ap (done (beside (put (told_of true false m p v f) f (moves.after m (world.task v f)).state)))
            (owes (among f t) (among f v.table));
        shut = shut;
        count = count;
        only = moved;
        fits = loose.fits (among f v.table) f;
      }
      by false true = record {
        same =
            ap (done (beside (put (told_of false true m p v f) f (moves.after m (world.task v f)).state)))
            (owes (among f t) (among f v.table));
        shut = shut;
        count = count;
        only = moved;
        fits = loose.fits (among f v.table) f;
      }
      by false false = record {
        same = ap (done (beside (put v f (moves.after m (world.task v f)).state))) (owes (among f t) (among f v.table));
        shut = shut;
        count = count;
        only = moved;
        fits = loose.fits (among f v.table) f;
      }

  module _ (p : ℕ) (w : World) (all : OnlyWait w) where
    calls_do : (o : Polled) (a : Waker) (k : ℕ) → IsKnownWaker w a → Does w (call_waker p (beside w) o a k) (call_waker p w o a k)
    calls_do o (Task g) k known =
        let s = world.task w g in
        moves_do move.Wake p w (log w (event.WakerCalled p o k (Task g))) g refl all known
        (uses_loosely_by s (moves.is_over s || s.scheduled) s.running) (λ n. refl) refl
    calls_do o (Outside x) k known = record { same = refl; shut = λ n. refl; count = refl; only = all; fits = refl }

    appends_do : (f : ℕ) → takes_more (queue_of w (mark_of w f)) w.limit ≡ true
        → Does w (act p no_hint (op.Queue (queue_op.Append f)) (beside w)) (act p no_hint (op.Queue (queue_op.Append f)) w)
    appends_do f takes =
        subst (λ b. Does w (append_by b (beside w) (mark_of w f) f) (append_by b w (mark_of w f) f)) (sym takes)
        (record { same = refl; shut = stays (mark_of w f); count = refl; only = all; fits = refl })
      where
        stays : (m n : Mark) → (queue_of (put_queue w m (appended (queue_of w m) f)) n).closed ≡ (queue_of w n).closed
        stays PlainMark PlainMark = refl
        stays PlainMark Urgent = refl
        stays Urgent PlainMark = refl
        stays Urgent Urgent = refl

    exchanges_do : (b : Bool) → Does w (exchange_by b (beside w)) (exchange_by b w)
    exchanges_do true = record { same = refl; shut = λ n. refl; count = refl; only = all; fits = refl }
    exchanges_do false = record { same = refl; shut = λ n. refl; count = refl; only = all; fits = refl }

    hands_out : (b : Bool) (o : Option Sleeping) → Does w (hand_out_by b o (beside w)) (hand_out_by b o w)
    hands_out true None = record { same = refl; shut = λ n. refl; count = refl; only = all; fits = refl }
    hands_out true (Some x) = record { same = refl; shut = λ n. refl; count = refl; only = all; fits = refl }
    hands_out false o = record { same = refl; shut = λ n. refl; count = refl; only = all; fits = refl }

    -- a change of a task, by which none comes to wait
    module _ (f : ℕ) (known : f < length w.tasks) where
      stays_so : (s : State) → (waits_in s ≡ true → waits_in (world.task w f) ≡ true) → OnlyWait (put w f s)
      stays_so s waits = put_only w f s all known waits

      closes : OnlyWait (put w f (record (world.task w f) { closed = true }))
      closes =
          stays_so (record (world.task w f) { closed = true })
          (not_both (waits_in (record (world.task w f) { closed = true })) (shut_one (world.task w f)))

      given : (b : Bool) → are_of_calls (awaiter_ops f (moves.notify_other_if b) ++ op.End reply.Ready (hold.Handle f) ∷ []) ≡ true
      given true = refl
      given false = refl

      looks_do : (a : Waker) (x g c : Bool)
          → Does w (look_by (moves.poll_by x g c (world.task w f)).owed.answer p (beside w) f a (moves.poll_by x g c (world.task w f)))
          (look_by (moves.poll_by x g c (world.task w f)).owed.answer p w f a (moves.poll_by x g c (world.task w f)))
      looks_do a true true c = record { same = refl; shut = λ n. refl; count = refl; only = all; fits = refl }
      looks_do a true false c =
          record { same = refl; shut = λ n. refl; count = refl; only = stays_so (world.task w f) (λ is. is); fits = refl }
      looks_do a false g false = record { same = refl; shut = λ n. refl; count = refl; only = all; fits = refl }
      looks_do a false g true =
          record { same = refl; shut = λ n. refl; count = refl; only = closes; fits = given (world.task w f).awaiter }

      again_does : (x g c : Bool)
          → Does w
          (look_again_by (moves.look_again_by x g c (world.task w f)).owed.answer p (beside w) f
          (moves.look_again_by x g c (world.task w f)))
          (look_again_by (moves.look_again_by x g c (world.task w f)).owed.answer p w f (moves.look_again_by x g c (world.task w f)))
      again_does true true c =
          record { same = refl; shut = λ n. refl; count = refl; only = stays_so (world.task w f) (λ is. is); fits = refl }
      again_does true false c =
          record { same = refl; shut = λ n. refl; count = refl; only = stays_so (world.task w f) (λ is. is); fits = refl }
      again_does false g false =
          record { same = refl; shut = λ n. refl; count = refl; only = stays_so (world.task w f) (λ is. is); fits = refl }
      again_does false g true =
          record { same = refl; shut = λ n. refl; count = refl; only = closes; fits = given (world.task w f).awaiter }

      registers_do : (a : Waker) (k : ℕ) (b : Bool) → Does w (register_by b (beside w) f a k) (register_by b w f a k)
      registers_do a k true =
          record { same = refl; shut = λ n. refl; count = refl; only = stays_so (world.task w f) (λ is. is); fits = refl }
      registers_do a k false =
          record {
            same = refl;
            shut = λ n. refl;
            count = refl;
            only = stays_so (record (world.task w f) { registering = true }) (λ is. is);
            fits = refl;
          }

      end_registers_do : (a : Waker) (k : ℕ) (b : Bool) → Does w (end_register_by b (beside w) f a k) (end_register_by b w f a k)
      end_registers_do a k true =
          record {
            same = refl;
            shut = λ n. refl;
            count = refl;
            only = stays_so (record (world.task w f) { awaiter = false; registering = false; notifying = false }) (λ is. is);
            fits = let_go_fits (awaiter_of w f) (op.Handle (handle_op.LookAgain f) ∷ []) refl;
          }
      end_registers_do a k false =
          record {
            same = refl;
            shut = λ n. refl;
            count = refl;
            only = stays_so (record (world.task w f) { awaiter = true; registering = false }) (λ is. is);
            fits = let_go_fits (awaiter_of w f) (op.Handle (handle_op.LookAgain f) ∷ []) refl;
          }

      notifies_do : (mine b : Bool) → Does w (notify_by b (beside w) f mine) (notify_by b w f mine)
      notifies_do mine true =
          record {
            same = refl;
            shut = λ n. refl;
            count = refl;
            only = stays_so (record (world.task w f) { notifying = true }) (λ is. is);
            fits = refl;
          }
      notifies_do mine false =
          record {
            same = refl;
            shut = λ n. refl;
            count = refl;
            only = stays_so (record (world.task w f) { notifying = true }) (λ is. is);
            fits = refl;
          }

      lets_go : (b : Bool) → Does w (let_go_by b (beside w) f) (let_go_by b w f)
      lets_go true = record { same = refl; shut = λ n. refl; count = refl; only = all; fits = refl }
      lets_go false =
          record {
            same = refl;
            shut = λ n. refl;
            count = refl;
            only = stays_so (record (world.task w f) { awaiter = false }) (λ is. is);
            fits = told_fits true f (awaiter_of w f);
          }

      more_references : OnlyWait (put w f (record (world.task w f) { references = (world.task w f).references + 1 }))
      more_references = stays_so (record (world.task w f) { references = (world.task w f).references + 1 }) (λ is. is)

      copies_do : (held : Hold) (b : Bool) → Does w (copy_by b (beside w) f held) (copy_by b w f held)
      copies_do held true = record { same = refl; shut = λ n. refl; count = refl; only = all; fits = refl }
      copies_do held false = record { same = refl; shut = λ n. refl; count = refl; only = more_references; fits = refl }

    awaiters_do : (f : ℕ) (b : Bool) (a : Waker) → IsKnownWaker w a
        → Does w (copy_awaiter_by b p (beside w) f a) (copy_awaiter_by b p w f a)
    awaiters_do f true a known = record { same = refl; shut = λ n. refl; count = refl; only = all; fits = refl }
    awaiters_do f false (Task g) known =
        record { same = refl; shut = λ n. refl; count = refl; only = more_references g known; fits = refl }
    awaiters_do f false (Outside x) known = record { same = refl; shut = λ n. refl; count = refl; only = all; fits = refl }

    refused_alike : (h : Hint) (a : Waker) → is_copy_refused h (beside w) a ≡ is_copy_refused h w a
    refused_alike h (Task g) = refl
    refused_alike h (Outside x) = refl

    can_know : (a : Waker) → CanCopy w a → IsKnownWaker w a
    can_know (Task g) can = can.0
    can_know (Outside x) can = tt

    pub act_does : (h : Hint) (o : Op) → is_of_call o ≡ true → waits o ≡ false → Has w o → Does w (act p h o (beside w)) (act p h o w)
    act_does h (op.Move move.WakeByReference f) fit free has =
        let s = world.task w f in
        moves_do move.WakeByReference p w w f refl all has.0 (wakes_loosely_by s (moves.is_over s || s.scheduled) s.running) (λ n. refl)
        refl
    act_does h (op.Move move.Wake f) fit free has =
        let s = world.task w f in
        moves_do move.Wake p w w f refl all has.0 (uses_loosely_by s (moves.is_over s || s.scheduled) s.running) (λ n. refl) refl
    act_does h (op.Move move.Release f) fit free has =
        let s = world.task w f in
        moves_do move.Release p w w f refl all has.0 (releases_loosely_by s (moves.is_last s) (moves.is_over s)) (λ n. refl) refl
    act_does h (op.Move move.Cancel f) fit free has =
        let s = world.task w f in
        moves_do move.Cancel p w w f refl all has.0 (cancels_loosely_by s (moves.is_over s) (moves.is_going s)) (λ n. refl) refl
    act_does h (op.Move move.Detach f) fit free has =
        let s = world.task w f in
        moves_do move.Detach p w w f refl all has.0
        (detaches_loosely_by s (s.completed && not s.closed) ((s.references == 0) && not s.closed)) (λ n. refl) refl
    act_does h (op.Queue (queue_op.Append f)) fit free has = appends_do f has.1
    act_does h (op.Sleeper sleeper_op.ExchangeFlag) fit free has = exchanges_do w.notified
    act_does h (op.Sleeper sleeper_op.HandOut) fit free has =
        hands_out (length w.sleepers.wakers == w.sleepers.count) (last_waker w.sleepers.wakers)
    act_does h (op.Sleeper (sleeper_op.CallSleeper x)) fit free has = calls_do (polled_as x.who) x.waker x.poll has
    act_does h (op.Handle (handle_op.Look f a)) fit free has =
        looks_do f has.0 a (world.task w f).closed (moves.is_going (world.task w f)) (world.task w f).completed
    act_does h (op.Handle (handle_op.CopyAwaiter f a)) fit free has =
        subst (λ b. Does w (copy_awaiter_by b p (beside w) f a) (copy_awaiter p h w f a)) (sym (refused_alike h a))
        (awaiters_do f (is_copy_refused h w a) a (can_know a has))
    act_does h (op.Handle (handle_op.Register f a k)) fit free has = registers_do f has a k (world.task w f).notifying
    act_does h (op.Handle (handle_op.EndRegister f a k)) fit free has = end_registers_do f has.0 a k (world.task w f).notifying
    act_does h (op.Handle (handle_op.LookAgain f)) fit free has =
        again_does f has (world.task w f).closed (moves.is_going (world.task w f)) (world.task w f).completed
    act_does h (op.Handle (handle_op.Notify f mine)) fit free has =
        notifies_do f has mine ((world.task w f).notifying || (world.task w f).registering)
    act_does h (op.Handle (handle_op.EndNotify f mine)) fit free has =
        record {
          same = refl;
          shut = λ n. refl;
          count = refl;
          only = stays_so f has.0 (record (world.task w f) { awaiter = false; notifying = false }) (λ is. is);
          fits = told_fits (mine && h.same) f (awaiter_of w f);
        }
    act_does h (op.Handle (handle_op.LetGo f)) fit free has = lets_go f has.0 (world.task w f).handle
    act_does h (op.Waker (waker_op.CopyWaker f held)) fit free has = copies_do f has.0 held (is_refused h (world.task w f))
    act_does h (op.Waker (waker_op.CallAwaiter f a k)) fit free has = calls_do (of.Handle f) a k has
    act_does h (op.User (user_op.BeginDropOutput f)) fit free has =
        record { same = refl; shut = λ n. refl; count = refl; only = all; fits = refl }
    act_does h (op.End r held) fit free has = record { same = refl; shut = λ n. refl; count = refl; only = all; fits = refl }
    act_does h o fit free has = absurd cc
