-- So is each thing that such calls do, and what it asks for is there.
use Rattle.std.proofs.Common.{◌≡◌, ℕ, ◌+◌, ◌<◌, ◌≤◌, ◌==◌, ◌++◌, ◌&&◌, ◌||◌, not, Bool, true, false, List, [], ◌∷◌, length, Option, Some}
use Rattle.std.proofs.Common.{None}
use Rattle.std.proofs.Common.{refl, sym, ap, subst, ◌∙◌}
use Rattle.executor_parts.specs.Sleepers.{last_waker}
use Rattle.task_moves.specs.declared.moves.owed.Move.TheVariants as move
use Rattle.task_moves.specs.declared.moves.state.State.{State}
use Rattle.task_moves.specs.LocalTask.{token}
use Rattle.task_moves.specs.Moves as moves
use Rattle.executor_model.specs.declared.call.Reply.TheVariants as reply
use Rattle.executor_model.specs.declared.event.Event.TheVariants as event
use Rattle.executor_model.specs.declared.op.Awaiter.{Awaiter}
use Rattle.executor_model.specs.declared.op.HandleOp.TheVariants as handle_op
use Rattle.executor_model.specs.declared.op.Hold.{Hold}
use Rattle.executor_model.specs.declared.op.Hold.TheVariants as hold
use Rattle.executor_model.specs.declared.op.Op.{Op}
use Rattle.executor_model.specs.declared.op.Op.TheVariants as op
use Rattle.executor_model.specs.declared.op.Polled.{Polled}
use Rattle.executor_model.specs.declared.op.Polled.TheVariants as of
use Rattle.executor_model.specs.declared.op.QueueOp.TheVariants as queue_op
use Rattle.executor_model.specs.declared.op.Sleeping.{Sleeping}
use Rattle.executor_model.specs.declared.op.SleeperOp.TheVariants as sleeper_op
use Rattle.executor_model.specs.declared.op.UserOp.TheVariants as user_op
use Rattle.executor_model.specs.declared.op.Waker.{Waker}
use Rattle.executor_model.specs.declared.op.Waker.TheVariants.{Task, Outside}
use Rattle.executor_model.specs.declared.op.WakerOp.TheVariants as waker_op
use Rattle.executor_model.specs.declared.step.Hint.{Hint}
use Rattle.executor_model.specs.Acts.{append_by, call_waker, copy_awaiter, copy_awaiter_by, copy_by, end_register_by, is_copy_refused}
use Rattle.executor_model.specs.Acts.{is_refused, let_go, look_again_by, look_by, notify_by, polled, register_by, takes_more, told}
use Rattle.executor_model.specs.ActsOfSleepers.{exchange_by, hand_out_by, polled_as}
use Rattle.executor_model.specs.Carried.{awaiter_ops}
use Rattle.executor_model.specs.Doing.{act}
use Rattle.executor_model.specs.Good.{IsKnownWaker}
use Rattle.executor_model.specs.Steps.{waits}
use Rattle.executor_model.specs.World.{World, Done, awaiter_of, done, log, log_if, mark_of, put, put_awaiter, queue_of}
use Rattle.executor_model.specs.World as world
use Rattle.machine_roads.specs.Alone.{Has}
use Rattle.machine_roads.specs.InLoss.{IsShut}
use Rattle.machine_roads.proofs.Handless.{Does, cancels_hidden_by, detaches_hidden, fit_all, hide, is_beside, less}
use Rattle.machine_roads.proofs.Handless.{moves_do, put_less, put_shut, releases_hidden, task_less, uses_hidden_by, wakes_hidden_by}
use Rattle.machine_roads.proofs.Lists.{length_set, same_of}

goes_fits : (f : ℕ) (a : Waker) (os : List Op) → fit_all f os ≡ true
    → fit_all f (let_go (Some (record { waker = a; poll = 0 })) ++ os) ≡ true
goes_fits f (Task g) os fit = fit
goes_fits f (Outside x) os fit = fit

let_go_fits : (f : ℕ) (o : Option Awaiter) (os : List Op) → fit_all f os ≡ true → fit_all f (let_go o ++ os) ≡ true
let_go_fits f None os fit = fit
let_go_fits f (Some a) os fit = goes_fits f a.waker os fit

told_fits : (f : ℕ) (same : Bool) (g : ℕ) (o : Option Awaiter) → fit_all f (told same g o) ≡ true
told_fits f same g None = refl
told_fits f true g (Some a) = alone_fits a.waker
  where
    alone_fits : (a : Waker) → fit_all f (let_go (Some (record { waker = a; poll = 0 }))) ≡ true
    alone_fits (Task g) = refl
    alone_fits (Outside x) = refl
told_fits f false g (Some a) = refl

not_on : (b : Bool) → not b ≡ true → b ≡ false
not_on false is = refl
not_on true is = absurd cc

module _ (f : ℕ) where
  stays : (w : World) → IsShut w f → (os : List Op) → fit_all f os ≡ true → Does f (done (less f w) os) (done w os)
  stays w shut os fit = record { same = refl; kept = shut; fit = fit }

  -- a task is written, and the world changed beside
  writes : (w : World) (g : ℕ) (s : State) (rest : World → World) (os : List Op) → IsShut w f
      → ((world.task w g).closed ≡ true → s.closed ≡ true)
      → rest (less f (put w g s)) ≡ less f (rest (put w g s)) → (IsShut (put w g s) f → IsShut (rest (put w g s)) f)
      → fit_all f os ≡ true
      → Does f (done (rest (put (less f w) g (hide f g s))) os) (done (rest (put w g s)) os)
  writes w g s rest os shut closed beside keeps fit = record {
    same =
        ap (λ v. done (rest v) os) (put_less f w shut.known g s) ∙ ap (λ v. done v os) beside;
    kept = keeps (put_shut f w g s shut closed);
    fit = fit;
  }

  only_writes : (w : World) (g : ℕ) (s : State) (os : List Op) → IsShut w f
      → ((world.task w g).closed ≡ true → s.closed ≡ true) → fit_all f os ≡ true
      → Does f (done (put (less f w) g (hide f g s)) os) (done (put w g s) os)
  only_writes w g s os shut closed fit = writes w g s (λ v. v) os shut closed refl (λ shut. shut) fit

  module _ (p : ℕ) (w : World) (shut : IsShut w f) where
    calls_do : (o : Polled) (a : Waker) (k : ℕ) → Does f (call_waker p (less f w) o a k) (call_waker p w o a k)
    calls_do o (Task g) k =
        let v = log w (event.WakerCalled p o k (Task g)) in
        let s = world.task w g in
        moves_do f move.Wake p v g refl (record { known = shut.known; closed = shut.closed })
        (record { last = refl; tells = refl; hides = uses_hidden_by f g s (moves.is_over s || s.scheduled) s.running })
    calls_do o (Outside x) k = record { same = refl; kept = record { known = shut.known; closed = shut.closed }; fit = refl }

    appends_do : (b : Bool) (g : ℕ) → b ≡ true → Does f (append_by b (less f w) (mark_of w g) g) (append_by b w (mark_of w g) g)
    appends_do true g is = record { same = refl; kept = record { known = shut.known; closed = shut.closed }; fit = refl }
    appends_do false g is = absurd cc

    exchanges_do : (b : Bool) → Does f (exchange_by b (less f w)) (exchange_by b w)
    exchanges_do true = stays w shut [] refl
    exchanges_do false = record { same = refl; kept = record { known = shut.known; closed = shut.closed }; fit = refl }

    hands_out : (b : Bool) (o : Option Sleeping) → Does f (hand_out_by b o (less f w)) (hand_out_by b o w)
    hands_out true None = record { same = refl; kept = record { known = shut.known; closed = shut.closed }; fit = refl }
    hands_out true (Some x) = record { same = refl; kept = record { known = shut.known; closed = shut.closed }; fit = refl }
    hands_out false o = stays w shut [] refl

    module _ (g : ℕ) where
      abbrev s : State
      s = world.task w g

      -- what is done by a task that is looked at
      by_task : (F : State → Done) (here : Done) → Does f (F (hide f g s)) here → Does f (F (world.task (less f w) g)) here
      by_task F here does = subst (λ x. Does f (F x) here) (sym (task_less f w shut.known g)) does

      given : (b : Bool) → fit_all f (awaiter_ops g (moves.notify_other_if b) ++ op.End reply.Ready (hold.Handle g) ∷ []) ≡ true
      given true = refl
      given false = refl

      looks_do : (a : Waker) (x c d : Bool)
          → Does f (look_by (moves.poll_by x c d (hide f g s)).owed.answer p (less f w) g a (moves.poll_by x c d (hide f g s)))
          (look_by (moves.poll_by x c d s).owed.answer p w g a (moves.poll_by x c d s))
      looks_do a true true d = stays w shut (op.Handle (handle_op.CopyAwaiter g a) ∷ []) refl
      looks_do a true false d =
          only_writes (polled p w g) g s
          (awaiter_ops g (moves.poll_by true false d s).owed.awaiter ++ op.End reply.Cancelled (hold.Handle g) ∷ [])
          (record { known = shut.known; closed = shut.closed }) (λ c. c) refl
      looks_do a false c false = stays w shut (op.Handle (handle_op.CopyAwaiter g a) ∷ []) refl
      looks_do a false c true =
          writes (polled p w g) g (record s { closed = true }) (λ v. log v (event.OutputGiven p g))
          (awaiter_ops g (moves.notify_other_if s.awaiter) ++ op.End reply.Ready (hold.Handle g) ∷ [])
          (record { known = shut.known; closed = shut.closed }) (λ c. refl) refl
          (λ shut. record { known = shut.known; closed = shut.closed }) (given s.awaiter)

      again_does : (x c d : Bool)
          → Does f
          (look_again_by (moves.look_again_by x c d (hide f g s)).owed.answer p (less f w) g
          (moves.look_again_by x c d (hide f g s)))
          (look_again_by (moves.look_again_by x c d s).owed.answer p w g (moves.look_again_by x c d s))
      again_does true true d = only_writes w g s (op.End reply.Pending (hold.Handle g) ∷ []) shut (λ c. c) refl
      again_does true false d =
          only_writes w g s (awaiter_ops g (moves.look_again_by true false d s).owed.awaiter ++ op.End reply.Cancelled (hold.Handle g) ∷ [])
          shut (λ c. c) refl
      again_does false c false = only_writes w g s (op.End reply.Pending (hold.Handle g) ∷ []) shut (λ c. c) refl
      again_does false c true =
          writes w g (record s { closed = true }) (λ v. log v (event.OutputGiven p g))
          (awaiter_ops g (moves.notify_other_if s.awaiter) ++ op.End reply.Ready (hold.Handle g) ∷ [])
          shut (λ c. refl) refl (λ shut. record { known = shut.known; closed = shut.closed }) (given s.awaiter)

      registers_do : (a : Waker) (k : ℕ) (b : Bool) → Does f (register_by b (less f w) g a k) (register_by b w g a k)
      registers_do a k true =
          let os : List Op = op.Waker (waker_op.CallAwaiter g a k) ∷ op.Handle (handle_op.LookAgain g) ∷ [] in
          by_task (λ t. done (put (less f w) g t) os) (done (put w g s) os) (only_writes w g s os shut (λ c. c) refl)
      registers_do a k false =
          let os : List Op = op.Handle (handle_op.EndRegister g a k) ∷ [] in
          let t : State = record s { registering = true } in
          by_task (λ t. done (put (less f w) g (record t { registering = true })) os) (done (put w g t) os)
          (only_writes w g t os shut (λ c. c) refl)

      end_registers_do : (a : Waker) (k : ℕ) (b : Bool) → Does f (end_register_by b (less f w) g a k) (end_register_by b w g a k)
      end_registers_do a k true =
          let os : List Op =
          op.Waker (waker_op.CallAwaiter g a k) ∷ let_go (awaiter_of w g) ++ op.Handle (handle_op.LookAgain g) ∷ [] in
          let t : State = record s { awaiter = false; registering = false; notifying = false } in
          by_task (λ t. done (put_awaiter (put (less f w) g (moves.end_register_by true t).state) g None) os)
          (done (put_awaiter (put w g t) g None) os)
          (writes w g t (λ v. put_awaiter v g None) os shut (λ c. c) refl
          (λ shut. record { known = shut.known; closed = shut.closed })
          (let_go_fits f (awaiter_of w g) (op.Handle (handle_op.LookAgain g) ∷ []) refl))
      end_registers_do a k false =
          let os : List Op = let_go (awaiter_of w g) ++ op.Handle (handle_op.LookAgain g) ∷ [] in
          let t : State = record s { awaiter = true; registering = false } in
          let o : Option Awaiter = Some (record { waker = a; poll = k }) in
          by_task (λ t. done (put_awaiter (put (less f w) g (moves.end_register_by false t).state) g o) os)
          (done (put_awaiter (put w g t) g o) os)
          (writes w g t (λ v. put_awaiter v g o) os shut (λ c. c) refl
          (λ shut. record { known = shut.known; closed = shut.closed })
          (let_go_fits f (awaiter_of w g) (op.Handle (handle_op.LookAgain g) ∷ []) refl))

      notifies_do : (mine b : Bool) → Does f (notify_by b (less f w) g mine) (notify_by b w g mine)
      notifies_do mine true =
          let t : State = record s { notifying = true } in
          by_task (λ t. done (put (less f w) g (record t { notifying = true })) []) (done (put w g t) [])
          (only_writes w g t [] shut (λ c. c) refl)
      notifies_do mine false =
          let os : List Op = op.Handle (handle_op.EndNotify g mine) ∷ [] in
          let t : State = record s { notifying = true } in
          by_task (λ t. done (put (less f w) g (record t { notifying = true })) os) (done (put w g t) os)
          (only_writes w g t os shut (λ c. c) refl)

      ends_notify : (same : Bool)
          → Does f
          (done (put_awaiter (put (less f w) g (moves.end_notify (world.task (less f w) g)).state) g None) (told same g (awaiter_of w g)))
          (done (put_awaiter (put w g (moves.end_notify s).state) g None) (told same g (awaiter_of w g)))
      ends_notify same =
          let os : List Op = told same g (awaiter_of w g) in
          let t : State = record s { awaiter = false; notifying = false } in
          by_task (λ t. done (put_awaiter (put (less f w) g (moves.end_notify t).state) g None) os)
          (done (put_awaiter (put w g t) g None) os)
          (writes w g t (λ v. put_awaiter v g None) os shut (λ c. c) refl
          (λ shut. record { known = shut.known; closed = shut.closed }) (told_fits f same g (awaiter_of w g)))

      abbrev more : State
      more = record s { references = s.references + 1 }

      copies_do : (held : Hold) (b : Bool) → Does f (copy_by b (less f w) g held) (copy_by b w g held)
      copies_do held true = stays w shut (op.End reply.NoMemory held ∷ []) refl
      copies_do held false =
          let os : List Op = op.End reply.Made held ∷ [] in
          let rest : World → World = λ v. record v { wakers = w.wakers ++ Some g ∷ [] } in
          by_task (λ t. done (rest (put (less f w) g (record t { references = t.references + 1 }))) os) (done (rest (put w g more)) os)
          (writes w g more rest os shut (λ c. c) refl (λ shut. record { known = shut.known; closed = shut.closed }) refl)

      copies_task : (h : ℕ) → Does f (copy_awaiter_by false p (less f w) h (Task g)) (copy_awaiter_by false p w h (Task g))
      copies_task h =
          let os : List Op = op.Handle (handle_op.Register h (Task g) (length w.trace)) ∷ [] in
          let rest : World → World = λ v. polled p v h in
          by_task (λ t. done (rest (put (less f w) g (record t { references = t.references + 1 }))) os) (done (rest (put w g more)) os)
          (writes w g more rest os shut (λ c. c) refl (λ shut. record { known = shut.known; closed = shut.closed }) refl)

    awaiters_do : (h : ℕ) (b : Bool) (a : Waker) → Does f (copy_awaiter_by b p (less f w) h a) (copy_awaiter_by b p w h a)
    awaiters_do h true a = stays w shut (op.End reply.NoMemory (hold.Handle h) ∷ []) refl
    awaiters_do h false (Task g) = copies_task g h
    awaiters_do h false (Outside x) =
        record { same = refl; kept = record { known = shut.known; closed = shut.closed }; fit = refl }

    refused_alike : (h : Hint) (a : Waker) → is_copy_refused h (less f w) a ≡ is_copy_refused h w a
    refused_alike h (Task g) = ap (λ t. is_refused h t) (task_less f w shut.known g)
    refused_alike h (Outside x) = refl

  closed_one : (w : World) (g : ℕ) → IsShut w f → (f == g) ≡ true → (world.task w g).closed ≡ true
  closed_one w g shut same = subst (λ g. (world.task w g).closed ≡ true) (same_of f g same) shut.closed

  pub act_does : (p : ℕ) (h : Hint) (o : Op) (w : World) → is_beside f o ≡ true → waits o ≡ false → IsShut w f → Has w o
      → Does f (act p h o (less f w)) (act p h o w)
  act_does p h (op.Move move.WakeByReference g) w fit free shut has =
      let s = world.task w g in
      moves_do f move.WakeByReference p w g refl shut
      (record { last = refl; tells = refl; hides = wakes_hidden_by f g s (moves.is_over s || s.scheduled) s.running })
  act_does p h (op.Move move.Wake g) w fit free shut has =
      let s = world.task w g in
      moves_do f move.Wake p w g refl shut
      (record { last = refl; tells = refl; hides = uses_hidden_by f g s (moves.is_over s || s.scheduled) s.running })
  act_does p h (op.Move move.Release g) w fit free shut has =
      moves_do f move.Release p w g refl shut (releases_hidden f g (world.task w g) (closed_one w g shut))
  act_does p h (op.Move move.Cancel g) w fit free shut has =
      let s = world.task w g in
      moves_do f move.Cancel p w g refl shut
      (record { last = refl; tells = refl; hides = cancels_hidden_by f g s (moves.is_over s) (moves.is_going s) })
  act_does p h (op.Move move.Detach g) w fit free shut has =
      moves_do f move.Detach p w g refl shut (detaches_hidden f g (world.task w g) (not_on (f == g) fit))
  act_does p h (op.Queue (queue_op.Append g)) w fit free shut has =
      appends_do p w shut (takes_more (queue_of w (mark_of w g)) w.limit) g has.1
  act_does p h (op.Sleeper sleeper_op.ExchangeFlag) w fit free shut has = exchanges_do p w shut w.notified
  act_does p h (op.Sleeper sleeper_op.HandOut) w fit free shut has =
      hands_out p w shut (length w.sleepers.wakers == w.sleepers.count) (last_waker w.sleepers.wakers)
  act_does p h (op.Sleeper (sleeper_op.CallSleeper x)) w fit free shut has = calls_do p w shut (polled_as x.who) x.waker x.poll
  act_does p h (op.Handle (handle_op.Look g a)) w fit free shut has =
      let s = world.task w g in
      by_task p w shut g (λ t. look_by (moves.poll t).owed.answer p (less f w) g a (moves.poll t))
      (act p h (op.Handle (handle_op.Look g a)) w)
      (looks_do p w shut g a s.closed (moves.is_going s) s.completed)
  act_does p h (op.Handle (handle_op.CopyAwaiter g a)) w fit free shut has =
      subst (λ b. Does f (copy_awaiter_by b p (less f w) g a) (copy_awaiter p h w g a)) (sym (refused_alike p w shut h a))
      (awaiters_do p w shut g (is_copy_refused h w a) a)
  act_does p h (op.Handle (handle_op.Register g a k)) w fit free shut has =
      let s = world.task w g in
      by_task p w shut g (λ t. register_by t.notifying (less f w) g a k) (register_by s.notifying w g a k)
      (registers_do p w shut g a k s.notifying)
  act_does p h (op.Handle (handle_op.EndRegister g a k)) w fit free shut has =
      let s = world.task w g in
      by_task p w shut g (λ t. end_register_by t.notifying (less f w) g a k) (end_register_by s.notifying w g a k)
      (end_registers_do p w shut g a k s.notifying)
  act_does p h (op.Handle (handle_op.LookAgain g)) w fit free shut has =
      let s = world.task w g in
      by_task p w shut g (λ t. look_again_by (moves.look_again t).owed.answer p (less f w) g (moves.look_again t))
      (act p h (op.Handle (handle_op.LookAgain g)) w) (again_does p w shut g s.closed (moves.is_going s) s.completed)
  act_does p h (op.Handle (handle_op.Notify g mine)) w fit free shut has =
      let s = world.task w g in
      by_task p w shut g (λ t. notify_by (t.notifying || t.registering) (less f w) g mine)
      (notify_by (s.notifying || s.registering) w g mine)
      (notifies_do p w shut g mine (s.notifying || s.registering))
  act_does p h (op.Handle (handle_op.EndNotify g mine)) w fit free shut has = ends_notify p w shut g (mine && h.same)
  act_does p h (op.Waker (waker_op.CopyWaker g held)) w fit free shut has =
      by_task p w shut g (λ t. copy_by (is_refused h t) (less f w) g held) (copy_by (is_refused h (world.task w g)) w g held)
      (copies_do p w shut g held (is_refused h (world.task w g)))
  act_does p h (op.Waker (waker_op.CallAwaiter g a k)) w fit free shut has = calls_do p w shut (of.Handle g) a k
  act_does p h (op.User (user_op.BeginDropOutput g)) w fit free shut has =
      record { same = refl; kept = record { known = shut.known; closed = shut.closed }; fit = refl }
  act_does p h (op.End r held) w fit free shut has =
      record { same = refl; kept = record { known = shut.known; closed = shut.closed }; fit = refl }
  act_does p h o w fit free shut has = absurd cc

  -- what is asked for is there
  known_less : (w : World) (g : ℕ) → g < length w.tasks → g < length (less f w).tasks
  known_less w g known = subst (λ n. g < n) (sym (length_set w.tasks f (record (world.task w f) { handle = false }))) known

  waker_less : (w : World) (a : Waker) → IsKnownWaker w a → IsKnownWaker (less f w) a
  waker_less w (Task g) known = known_less w g known
  waker_less w (Outside x) known = tt

  of_task : (w : World) (g : ℕ) (P : State → Type 0) → IsShut w f → P (hide f g (world.task w g)) → P (world.task (less f w) g)
  of_task w g P shut has = subst P (sym (task_less f w shut.known g)) has

  pub has_less : (o : Op) (w : World) → is_beside f o ≡ true → IsShut w f → Has w o → Has (less f w) o
  has_less (op.Move move.WakeByReference g) w fit shut has = (known_less w g has.0, has.1)
  has_less (op.Move move.Wake g) w fit shut has = (known_less w g has.0, has.1)
  has_less (op.Move move.Release g) w fit shut has =
      (known_less w g has.0, of_task w g (λ t. token t < t.references) shut has.1)
  has_less (op.Move move.Cancel g) w fit shut has = (known_less w g has.0, has.1)
  has_less (op.Move move.Detach g) w fit shut has =
      (known_less w g has.0, of_task w g (λ t. token t ≤ t.references) shut has.1)
  has_less (op.Queue (queue_op.Append g)) w fit shut has = (known_less w g has.0, has.1)
  has_less (op.Sleeper sleeper_op.ExchangeFlag) w fit shut has = has
  has_less (op.Sleeper sleeper_op.HandOut) w fit shut has = has
  has_less (op.Sleeper (sleeper_op.CallSleeper x)) w fit shut has = waker_less w x.waker has
  has_less (op.Handle (handle_op.Look g a)) w fit shut has =
      (known_less w g has.0, of_task w g (λ t. t.completed ≡ true → moves.is_going t ≡ false) shut has.1)
  has_less (op.Handle (handle_op.CopyAwaiter g (Task k))) w fit shut has =
      (known_less w k has.0, of_task w k (λ t. token t ≤ t.references) shut has.1)
  has_less (op.Handle (handle_op.CopyAwaiter g (Outside x))) w fit shut has = has
  has_less (op.Handle (handle_op.Register g a k)) w fit shut has = known_less w g has
  has_less (op.Handle (handle_op.EndRegister g a k)) w fit shut has = (known_less w g has.0, has.1)
  has_less (op.Handle (handle_op.LookAgain g)) w fit shut has = known_less w g has
  has_less (op.Handle (handle_op.Notify g mine)) w fit shut has = known_less w g has
  has_less (op.Handle (handle_op.EndNotify g mine)) w fit shut has = (known_less w g has.0, has.1)
  has_less (op.Waker (waker_op.CopyWaker g held)) w fit shut has =
      (known_less w g has.0, of_task w g (λ t. token t ≤ t.references) shut has.1)
  has_less (op.Waker (waker_op.CallAwaiter g a k)) w fit shut has = waker_less w a has
  has_less (op.User o) w fit shut has = tt
  has_less (op.End r held) w fit shut has = tt
  has_less o w fit shut has = absurd cc
