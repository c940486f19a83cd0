-- Where no task waits for a wake, as behind the executor's drop, calls of wakers and handles let none wait, and ask nothing that is
-- there only before that drop.
use Rattle.std.proofs.Common.{◌≡◌, ℕ, ◌+◌, ◌<◌, ◌≤◌, ◌==◌, ◌++◌, ◌&&◌, ◌||◌, not, Bool, true, false, List, [], ◌∷◌, length}
use Rattle.std.proofs.Common.{Option, Some, None, if◌then◌else◌, refl, sym, ap, subst, ◌∙◌, arith, get_or-set_same, get_or-set_other}
use Rattle.task_moves.specs.declared.moves.owed.Move.{Move}
use Rattle.task_moves.specs.declared.moves.owed.Move.TheVariants as move
use Rattle.task_moves.specs.declared.moves.owed.Moved.{Moved}
use Rattle.task_moves.specs.declared.moves.state.State.{State}
use Rattle.task_moves.specs.AbstractTask as abstract
use Rattle.task_moves.specs.LocalTask.{phase_of, token}
use Rattle.task_moves.specs.Moves as moves
use Rattle.executor_model.specs.declared.call.Call.{Call}
use Rattle.executor_model.specs.declared.call.Call.TheVariants as call
use Rattle.executor_model.specs.declared.call.Reply.TheVariants as reply
use Rattle.executor_model.specs.declared.event.Event.TheVariants as event
use Rattle.executor_model.specs.declared.op.Awaiter.{Awaiter}
use Rattle.executor_model.specs.declared.op.HandleOp.TheVariants as handle_op
use Rattle.executor_model.specs.declared.op.Hold.{Hold}
use Rattle.executor_model.specs.declared.op.Hold.TheVariants as hold
use Rattle.executor_model.specs.declared.op.Op.{Op}
use Rattle.executor_model.specs.declared.op.Op.TheVariants as op
use Rattle.executor_model.specs.declared.op.Polled.TheVariants as of
use Rattle.executor_model.specs.declared.op.UserOp.TheVariants as user_op
use Rattle.executor_model.specs.declared.op.Waker.{Waker}
use Rattle.executor_model.specs.declared.op.Waker.TheVariants.{Task, Outside}
use Rattle.executor_model.specs.declared.op.WakerOp.TheVariants as waker_op
use Rattle.executor_model.specs.declared.step.Hint.{Hint}
use Rattle.executor_model.specs.Acts.{copy_awaiter, copy_awaiter_by, copy_by, copy_waker, end_notify, end_register, end_register_by}
use Rattle.executor_model.specs.Acts.{is_copy_refused, is_last_waker, is_refused, is_told, let_go, let_go_by, let_go_emptied, look}
use Rattle.executor_model.specs.Acts.{look_again}
use Rattle.executor_model.specs.Acts.{look_again_by, look_by, move_by, move_task, notify, notify_by, register, register_by, stands_alone}
use Rattle.executor_model.specs.Acts.{told, told_of}
use Rattle.executor_model.specs.Carried.{awaiter_ops, carried, owed_ops}
use Rattle.executor_model.specs.Doing.{act}
use Rattle.executor_model.specs.Steps.{begun, is_on_executor, kept, used_up, waits, with_future}
use Rattle.executor_model.specs.World.{World, Done, among, awaiter_of, blank, done, log, put}
use Rattle.executor_model.specs.World as world
use Rattle.machine_roads.specs.Alone.{alone, answered_by, is_outside, one_by, CanCopy, Has, HasAllOf}
use Rattle.machine_roads.proofs.Having.{asks_open}
use Rattle.machine_roads.proofs.Lists.{apart_of, clash, length_set, same_of}
use Rattle.machine_roads.proofs.LoneRuns.{both_true}
use Rattle.machine_roads.proofs.Marks.{emptied_owes}
use Rattle.machine_roads.proofs.Moving.{state}

-- an open task waits that is neither queued nor run
abbrev pub waits_in : State → Bool
waits_in s = abstract.is_idle (phase_of s) && not s.closed

abbrev pub NoTaskWaits : World → Type 0
NoTaskWaits w = (f : ℕ) → f < length w.tasks → waits_in (world.task w f) ≡ false

-- what is to do in calls of wakers and handles
abbrev pub is_of_task : Op → Bool
is_of_task (op.Move move.WakeByReference f) = true
is_of_task (op.Move move.Wake f) = true
is_of_task (op.Move move.Release f) = true
is_of_task (op.Move move.Cancel f) = true
is_of_task (op.Move move.Detach f) = true
is_of_task (op.Handle o) = true
is_of_task (op.Waker o) = true
is_of_task (op.User (user_op.CallOutside x)) = true
is_of_task (op.User (user_op.BeginDropOutput f)) = true
is_of_task (op.User (user_op.DropOutput f)) = true
is_of_task (op.End r held) = true
is_of_task _ = false

abbrev pub are_of_tasks : List Op → Bool
are_of_tasks [] = true
are_of_tasks (o ∷ os) = is_of_task o && are_of_tasks os

pub are_append : (xs ys : List Op) → are_of_tasks xs ≡ true → are_of_tasks ys ≡ true → are_of_tasks (xs ++ ys) ≡ true
are_append [] ys first second = second
are_append (x ∷ xs) ys first second =
    let both = both_true (is_of_task x) (are_of_tasks xs) first in
    ap (λ b. b && are_of_tasks (xs ++ ys)) both.0 ∙ are_append xs ys both.1 second

-- none of them asks for an executor whose drop hasn't begun
pub never_open : (o : Op) → is_of_task o ≡ true → asks_open o ≡ true → ⊥
never_open (op.Move move.TakeUp f) is asks = absurd cc
never_open (op.Queue o) is asks = absurd cc
never_open (op.Closing o) is asks = absurd cc
never_open o is asks = absurd cc

pub never : (b : Bool) → (b && false) ≡ false
never true = refl
never false = refl

-- a move that lets none wait, and queues nothing
record Keeps (m : Moved) : Type 0 where
  still : waits_in m.state ≡ false
  fits : (there : Bool) (f : ℕ) → are_of_tasks (owed_ops there f m.owed) ≡ true

open_waits_by : (c x s r h a g n : Bool) (k : ℕ) → (c || x) ≡ false → token (state s r c x h a g n k) ≤ 0
    → waits_in (state s r c x h a g n k) ≡ true
open_waits_by true x s r h a g n k is few = absurd cc
open_waits_by false true s r h a g n k is few = absurd cc
open_waits_by false false true r h a g n k is few = absurd (omega (arith, few))
open_waits_by false false false true h a g n k is few = absurd (omega (arith, few))
open_waits_by false false false false h a g n k is few = refl

open_waits : (s : State) → moves.is_over s ≡ false → token s ≤ 0 → waits_in s ≡ true
open_waits s is few =
    open_waits_by s.completed s.closed s.scheduled s.running s.handle s.awaiter s.registering s.notifying s.references is few

wakes_keep_by : (c x s r h a g n : Bool) (k : ℕ) → waits_in (state s r c x h a g n k) ≡ false
    → Keeps (moves.wake_by_reference (state s r c x h a g n k))
wakes_keep_by true x s r h a g n k calm = record { still = calm; fits = λ there f. refl }
wakes_keep_by false true s r h a g n k calm = record { still = calm; fits = λ there f. refl }
wakes_keep_by false false true r h a g n k calm = record { still = calm; fits = λ there f. refl }
wakes_keep_by false false false true h a g n k calm = record { still = refl; fits = λ there f. refl }
wakes_keep_by false false false false h a g n k calm = absurd cc

uses_keep_by : (c x s r h a g n : Bool) (k : ℕ) → waits_in (state s r c x h a g n k) ≡ false
    → Keeps (moves.wake (state s r c x h a g n k))
uses_keep_by true x s r h a g n k calm = record { still = calm; fits = λ there f. refl }
uses_keep_by false true s r h a g n k calm = record { still = calm; fits = λ there f. refl }
uses_keep_by false false true r h a g n k calm = record { still = calm; fits = λ there f. refl }
uses_keep_by false false false true h a g n k calm = record { still = refl; fits = λ there f. refl }
uses_keep_by false false false false h a g n k calm = absurd cc

module _ (s : State) (calm : waits_in s ≡ false) where
  wakes_keep : Keeps (moves.wake_by_reference s)
  wakes_keep =
      wakes_keep_by s.completed s.closed s.scheduled s.running s.handle s.awaiter s.registering s.notifying s.references calm

  uses_keep : Keeps (moves.wake s)
  uses_keep =
      uses_keep_by s.completed s.closed s.scheduled s.running s.handle s.awaiter s.registering s.notifying s.references calm

  releases_keep : token s < s.references → Keeps (moves.release s)
  releases_keep few = by (moves.is_last s) (moves.is_over s) refl refl
    where
      none : (n k : ℕ) → n < k → (k == 1) ≡ true → n ≤ 0
      none n k few is = omega (arith, few, same_of k 1 is)

      by : (last over : Bool) → moves.is_last s ≡ last → moves.is_over s ≡ over → Keeps (moves.release_by last over s)
      by false over l o = record { still = calm; fits = λ there f. refl }
      by true true l o = record { still = calm; fits = λ there f. refl }
      by true false l o =
          absurd (clash calm (open_waits s o (none (token s) s.references few (both_true (s.references == 1) (not s.handle) l).0)))

  cancels_keep : Keeps (moves.cancel s)
  cancels_keep = by (moves.is_over s) (moves.is_going s) refl refl
    where
      told_so : (a there : Bool) (f : ℕ)
          → are_of_tasks (owed_ops there f (record moves.nothing { awaiter = moves.notify_if a })) ≡ true
      told_so true there f = refl
      told_so false there f = refl

      by : (over going : Bool) → moves.is_over s ≡ over → moves.is_going s ≡ going → Keeps (moves.cancel_by over going s)
      by true going o g = record { still = calm; fits = λ there f. refl }
      by false true o g =
          record { still = never (abstract.is_idle (phase_of (record s { closed = true }))); fits = λ there f. told_so s.awaiter there f }
      by false false o g =
          absurd (clash calm (open_waits s o (omega (arith, ap {B = ℕ} (λ b. if b then 1 else 0) g))))

  detaches_keep : token s ≤ s.references → Keeps (moves.detach s)
  detaches_keep few = by (s.completed && not s.closed) ((s.references == 0) && not s.closed) refl refl
    where
      none : (n k : ℕ) → n ≤ k → (k == 0) ≡ true → n ≤ 0
      none n k few is = omega (arith, few, same_of k 0 is)

      open_one : (c x : Bool) → (c && not x) ≡ false → not x ≡ true → (c || x) ≡ false
      open_one true true is free = absurd cc
      open_one true false is free = absurd cc
      open_one false true is free = absurd cc
      open_one false false is free = refl

      by : (x y : Bool) → (s.completed && not s.closed) ≡ x → ((s.references == 0) && not s.closed) ≡ y
          → Keeps (moves.detach_by x y s)
      by true y gives last =
          record { still = never (abstract.is_idle (phase_of (record s { closed = true }))); fits = λ there f. refl }
      by false true gives last =
          let both = both_true (s.references == 0) (not s.closed) last in
          absurd
          (clash calm (open_waits s (open_one s.completed s.closed gives both.1) (none (token s) s.references few both.0)))
      by false false gives last =
          record { still = calm; fits = λ there f. ap are_of_tasks (emptied_owes there f (s.references == 0)) }

-- and so is what follows what is done
pub record Stays (d : Done) : Type 0 where
  pub world : NoTaskWaits d.world
  pub fits : are_of_tasks d.next ≡ true

pub put_stays : (w : World) (f : ℕ) (s : State) → NoTaskWaits w → waits_in s ≡ false → NoTaskWaits (put w f s)
put_stays w f s none calm g at = by (f == g) refl (subst (λ n. g < n) (length_set w.tasks f s) at)
  where
    by : (b : Bool) → (f == g) ≡ b → g < length w.tasks → waits_in (world.task (put w f s) g) ≡ false
    by true same there =
        subst (λ g. g < length w.tasks → waits_in (world.task (put w f s) g) ≡ false) (same_of f g same)
        (λ at. ap waits_in (get_or-set_same w.tasks f s blank at) ∙ calm) there
    by false apart there =
        ap waits_in (get_or-set_other w.tasks f g s blank (λ same. apart_of f g apart (sym same))) ∙ none g there

moves_stay : (m : Move) (p : ℕ) (w : World) (f : ℕ) → stands_alone m ≡ true → NoTaskWaits w → Keeps (moves.after m (world.task w f))
    → Stays (move_task m p w f)
moves_stay m p w f stands none keeps =
    subst (λ b. Stays (move_by b m p w f)) (sym stands) (by (is_last_waker m (world.task w f)) (is_told m (world.task w f)))
  where
    moved : NoTaskWaits (put w f (moves.after m (world.task w f)).state)
    moved = put_stays w f (moves.after m (world.task w f)).state none keeps.still

    by : (last b : Bool) → Stays (carried (told_of last b m p w f) f (moves.after m (world.task w f)))
    by true true = record { world = moved; fits = keeps.fits (among f w.table) f }
    by true false = record { world = moved; fits = keeps.fits (among f w.table) f }
    by false true = record { world = moved; fits = keeps.fits (among f w.table) f }
    by false false = record { world = moved; fits = keeps.fits (among f w.table) f }

goes_fits : (a : Waker) (os : List Op) → are_of_tasks os ≡ true → are_of_tasks (let_go (Some (record { waker = a; poll = 0 })) ++ os) ≡ true
goes_fits (Task g) os fit = fit
goes_fits (Outside x) os fit = fit

let_go_fits : (o : Option Awaiter) (os : List Op) → are_of_tasks os ≡ true → are_of_tasks (let_go o ++ os) ≡ true
let_go_fits None os fit = fit
let_go_fits (Some a) os fit = goes_fits a.waker os fit

told_fits : (same : Bool) (f : ℕ) (o : Option Awaiter) → are_of_tasks (told same f o) ≡ true
told_fits same f None = refl
told_fits true f (Some a) = alone_fits a.waker
  where
    alone_fits : (a : Waker) → are_of_tasks (let_go (Some (record { waker = a; poll = 0 }))) ≡ true
    alone_fits (Task g) = refl
    alone_fits (Outside x) = refl
told_fits false f (Some a) = refl

module _ (p : ℕ) (w : World) (none : NoTaskWaits w) where
  looks_stay : (f : ℕ) (a : Waker) → f < length w.tasks → Stays (look p w f a)
  looks_stay f a at = by (world.task w f).closed (moves.is_going (world.task w f)) (world.task w f).completed
    where
      other : (b : Bool) → are_of_tasks (awaiter_ops f (moves.notify_other_if b) ++ op.End reply.Ready (hold.Handle f) ∷ []) ≡ true
      other true = refl
      other false = refl

      by : (x g c : Bool)
          → Stays (look_by (moves.poll_by x g c (world.task w f)).owed.answer p w f a (moves.poll_by x g c (world.task w f)))
      by true true c = record { world = none; fits = refl }
      by true false c = record { world = put_stays w f (world.task w f) none (none f at); fits = refl }
      by false g false = record { world = none; fits = refl }
      by false g true =
          record {
            world =
                put_stays w f (record (world.task w f) { closed = true }) none
                (never (abstract.is_idle (phase_of (record (world.task w f) { closed = true }))));
            fits = other (world.task w f).awaiter;
          }

  again_stays : (f : ℕ) → f < length w.tasks → Stays (look_again p w f)
  again_stays f at = by (world.task w f).closed (moves.is_going (world.task w f)) (world.task w f).completed
    where
      other : (b : Bool) → are_of_tasks (awaiter_ops f (moves.notify_other_if b) ++ op.End reply.Ready (hold.Handle f) ∷ []) ≡ true
      other true = refl
      other false = refl

      by : (x g c : Bool)
          → Stays
          (look_again_by (moves.look_again_by x g c (world.task w f)).owed.answer p w f (moves.look_again_by x g c (world.task w f)))
      by true true c = record { world = put_stays w f (world.task w f) none (none f at); fits = refl }
      by true false c = record { world = put_stays w f (world.task w f) none (none f at); fits = refl }
      by false g false = record { world = put_stays w f (world.task w f) none (none f at); fits = refl }
      by false g true =
          record {
            world =
                put_stays w f (record (world.task w f) { closed = true }) none
                (never (abstract.is_idle (phase_of (record (world.task w f) { closed = true }))));
            fits = other (world.task w f).awaiter;
          }

  copies_stay : (h : Hint) (f : ℕ) (a : Waker) → CanCopy w a → Stays (copy_awaiter p h w f a)
  copies_stay h f a can = by (is_copy_refused h w a) a can
    where
      by : (b : Bool) (a : Waker) → CanCopy w a → Stays (copy_awaiter_by b p w f a)
      by true a can = record { world = none; fits = refl }
      by false (Task g) can =
          record {
            world =
                put_stays w g (record (world.task w g) { references = (world.task w g).references + 1 }) none (none g can.0);
            fits = refl;
          }
      by false (Outside x) can = record { world = none; fits = refl }

  registers_stay : (f : ℕ) (a : Waker) (k : ℕ) → f < length w.tasks → Stays (register w f a k)
  registers_stay f a k at = by (world.task w f).notifying
    where
      by : (b : Bool) → Stays (register_by b w f a k)
      by true = record { world = put_stays w f (world.task w f) none (none f at); fits = refl }
      by false = record { world = put_stays w f (record (world.task w f) { registering = true }) none (none f at); fits = refl }

  end_registers_stay : (f : ℕ) (a : Waker) (k : ℕ) → f < length w.tasks → Stays (end_register w f a k)
  end_registers_stay f a k at = by (world.task w f).notifying
    where
      again : are_of_tasks (let_go (awaiter_of w f) ++ op.Handle (handle_op.LookAgain f) ∷ []) ≡ true
      again = let_go_fits (awaiter_of w f) (op.Handle (handle_op.LookAgain f) ∷ []) refl

      by : (b : Bool) → Stays (end_register_by b w f a k)
      by true =
          record {
            world =
                put_stays w f (record (world.task w f) { awaiter = false; registering = false; notifying = false }) none (none f at);
            fits = again;
          }
      by false =
          record {
            world = put_stays w f (record (world.task w f) { awaiter = true; registering = false }) none (none f at);
            fits = again;
          }

  notifies_stay : (f : ℕ) (mine : Bool) → f < length w.tasks → Stays (notify w f mine)
  notifies_stay f mine at = by ((world.task w f).notifying || (world.task w f).registering)
    where
      by : (b : Bool) → Stays (notify_by b w f mine)
      by true = record { world = put_stays w f (record (world.task w f) { notifying = true }) none (none f at); fits = refl }
      by false = record { world = put_stays w f (record (world.task w f) { notifying = true }) none (none f at); fits = refl }

  end_notifies_stay : (h : Hint) (f : ℕ) (mine : Bool) → f < length w.tasks → Stays (end_notify h w f mine)
  end_notifies_stay h f mine at =
      record {
        world = put_stays w f (record (world.task w f) { awaiter = false; notifying = false }) none (none f at);
        fits = told_fits (mine && h.same) f (awaiter_of w f);
      }

  lets_go_stay : (f : ℕ) → f < length w.tasks → Stays (let_go_emptied w f)
  lets_go_stay f at = by (world.task w f).handle
    where
      ends : (o : Option Awaiter) → are_of_tasks (let_go o) ≡ true
      ends None = refl
      ends (Some a) = told_fits true f (Some a)

      by : (b : Bool) → Stays (let_go_by b w f)
      by true = record { world = none; fits = refl }
      by false =
          record {
            world = put_stays w f (record (world.task w f) { awaiter = false }) none (none f at);
            fits = ends (awaiter_of w f);
          }

  kept_copies_stay : (h : Hint) (f : ℕ) (held : Hold) → f < length w.tasks → Stays (copy_waker h w f held)
  kept_copies_stay h f held at = by (is_refused h (world.task w f))
    where
      by : (b : Bool) → Stays (copy_by b w f held)
      by true = record { world = none; fits = refl }
      by false =
          record {
            world =
                put_stays w f (record (world.task w f) { references = (world.task w f).references + 1 }) none (none f at);
            fits = refl;
          }

  act_stays : (h : Hint) (o : Op) → is_of_task o ≡ true → waits o ≡ false → Has w o → Stays (act p h o w)
  act_stays h (op.Move move.WakeByReference f) fit free has =
      moves_stay move.WakeByReference p w f refl none (wakes_keep (world.task w f) (none f has.0))
  act_stays h (op.Move move.Wake f) fit free has = moves_stay move.Wake p w f refl none (uses_keep (world.task w f) (none f has.0))
  act_stays h (op.Move move.Release f) fit free has =
      moves_stay move.Release p w f refl none (releases_keep (world.task w f) (none f has.0) has.1)
  act_stays h (op.Move move.Cancel f) fit free has =
      moves_stay move.Cancel p w f refl none (cancels_keep (world.task w f) (none f has.0))
  act_stays h (op.Move move.Detach f) fit free has =
      moves_stay move.Detach p w f refl none (detaches_keep (world.task w f) (none f has.0) has.1)
  act_stays h (op.Handle (handle_op.Look f a)) fit free has = looks_stay f a has.0
  act_stays h (op.Handle (handle_op.CopyAwaiter f a)) fit free has = copies_stay h f a has
  act_stays h (op.Handle (handle_op.Register f a k)) fit free has = registers_stay f a k has
  act_stays h (op.Handle (handle_op.EndRegister f a k)) fit free has = end_registers_stay f a k has.0
  act_stays h (op.Handle (handle_op.LookAgain f)) fit free has = again_stays f has
  act_stays h (op.Handle (handle_op.Notify f mine)) fit free has = notifies_stay f mine has
  act_stays h (op.Handle (handle_op.EndNotify f mine)) fit free has = end_notifies_stay h f mine has.0
  act_stays h (op.Handle (handle_op.LetGo f)) fit free has = lets_go_stay f has.0
  act_stays h (op.Waker (waker_op.CopyWaker f held)) fit free has = kept_copies_stay h f held has.0
  act_stays h (op.Waker (waker_op.CallAwaiter f (Task g) k)) fit free has =
      moves_stay move.Wake p (log w (event.WakerCalled p (of.Handle f) k (Task g))) g refl none
      (uses_keep (world.task w g) (none g has))
  act_stays h (op.Waker (waker_op.CallAwaiter f (Outside x) k)) fit free has = record { world = none; fits = refl }
  act_stays h (op.User (user_op.BeginDropOutput f)) fit free has = record { world = none; fits = refl }
  act_stays h (op.End r held) fit free has = record { world = none; fits = refl }
  act_stays h o fit free has = absurd cc

-- what is asked of such things to do
abbrev pub HasOfTasks : World → Op → Type 0
HasOfTasks w o = is_of_task o ≡ true → Has w o

-- so all that is asked is there, and no task waits where they end
pub record Calmly (p : ℕ) (hints : List Hint) (d : Done) : Type 0 where
  pub has : HasAllOf Has p hints d
  pub none : NoTaskWaits (alone p hints d).world

module _ (p : ℕ) (hs : List Hint)
    (rest : (w : World) (os : List Op) → NoTaskWaits w → are_of_tasks os ≡ true → HasAllOf HasOfTasks p hs (done w os)
    → Calmly p hs (done w os)) where
  answered_calmly : (b : Bool) (w : World) (o : Op) (os : List Op) → NoTaskWaits w → is_of_task o ≡ true → are_of_tasks os ≡ true
      → HasAllOf HasOfTasks p hs (done w (answered_by b o os)) → Calmly p hs (done w (answered_by b o os))
  answered_calmly true w o os none fit fits has = rest w os none fits has
  answered_calmly false w o os none fit fits has =
      rest w (o ∷ os) none (ap (λ b. b && are_of_tasks os) fit ∙ fits) has

  one_calmly : (b : Bool) (h : Hint) (w : World) (o : Op) (os : List Op) → waits o ≡ b → NoTaskWaits w → is_of_task o ≡ true
      → are_of_tasks os ≡ true → Has w o → HasAllOf HasOfTasks p hs (one_by b p h o w os) → Calmly p hs (one_by b p h o w os)
  one_calmly false h w o os free none fit fits here has =
      let s = act_stays p w none h o fit free here in
      rest (act p h o w).world ((act p h o w).next ++ os) s.world (are_append (act p h o w).next os s.fits fits) has
  one_calmly true h w o os waits none fit fits here has = answered_calmly (is_outside o) w o os none fit fits has

pub calmly : (p : ℕ) (hints : List Hint) (w : World) (os : List Op) → NoTaskWaits w → are_of_tasks os ≡ true
    → HasAllOf HasOfTasks p hints (done w os) → Calmly p hints (done w os)
calmly p [] w os none fits has = record { has = tt; none = none }
calmly p (h ∷ hs) w [] none fits has =
    let r = calmly p hs w [] none refl has.1 in record { has = (tt, r.has); none = r.none }
calmly p (h ∷ hs) w (o ∷ os) none fits has =
    let both = both_true (is_of_task o) (are_of_tasks os) fits in
    let here : Has w o = has.0 both.0 in
    let r =
    one_calmly p hs (λ w os none fits has. calmly p hs w os none fits has) (waits o) h w o os refl none both.0 both.1 here has.1 in
    record { has = (here, r.has); none = r.none }

-- so begins such a call
with_future_stays : (w : World) (o : Option ℕ) (d : ℕ → Done) → NoTaskWaits w → ((f : ℕ) → Stays (d f)) → Stays (with_future w o d)
with_future_stays w None d none all = record { world = none; fits = refl }
with_future_stays w (Some f) d none all = all f

pub begins_calmly : (p : ℕ) (c : Call) (w : World) → is_on_executor c ≡ false → NoTaskWaits w → Stays (begun p w None c)
begins_calmly p (call.Wake k) w off none =
    with_future_stays w (kept w k) (λ f. done (used_up w k) (op.Move move.Wake f ∷ op.End reply.Done hold.Nothing ∷ [])) none
    (λ f. record { world = none; fits = refl })
begins_calmly p (call.WakeByRef k) w off none =
    with_future_stays w (kept w k) (λ f. done w (op.Move move.WakeByReference f ∷ op.End reply.Done (hold.Waker k) ∷ [])) none
    (λ f. record { world = none; fits = refl })
begins_calmly p (call.Copy k) w off none =
    with_future_stays w (kept w k) (λ f. done w (op.Waker (waker_op.CopyWaker f (hold.Waker k)) ∷ [])) none
    (λ f. record { world = none; fits = refl })
begins_calmly p (call.DropWaker k) w off none =
    with_future_stays w (kept w k) (λ f. done (used_up w k) (op.Move move.Release f ∷ op.End reply.Done hold.Nothing ∷ [])) none
    (λ f. record { world = none; fits = refl })
begins_calmly p call.Keep w off none = record { world = none; fits = refl }
begins_calmly p call.WakeSelf w off none = record { world = none; fits = refl }
begins_calmly p (call.PollHandle f b) w off none = record { world = none; fits = refl }
begins_calmly p (call.Cancel f) w off none = record { world = none; fits = refl }
begins_calmly p (call.Detach f) w off none = record { world = none; fits = refl }
begins_calmly p (call.DropHandle f) w off none = record { world = none; fits = refl }
begins_calmly p c w off none = absurd cc
