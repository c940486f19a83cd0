-- So does each thing that such calls do.
use Rattle.std.proofs.Common.{◌≡◌, ℕ, ◌+◌, ◌<◌, ◌==◌, ◌++◌, ◌&&◌, ◌||◌, not, Bool, true, false, List, [], ◌∷◌, length}
use Rattle.std.proofs.Common.{Option, Some, None, refl, sym, ap, subst, ◌∙◌}
use Rattle.executor_parts.specs.Sleepers.{last_waker}
use Rattle.task_moves.specs.declared.moves.owed.Move.{Move}
use Rattle.task_moves.specs.declared.moves.owed.Move.TheVariants as move
use Rattle.task_moves.specs.declared.moves.state.State.{State}
use Rattle.task_moves.specs.Moves as moves
use Rattle.executor_model.specs.declared.call.Reply.TheVariants as reply
use Rattle.executor_model.specs.declared.event.Event.TheVariants as event
use Rattle.executor_model.specs.declared.op.Awaiter.{Awaiter}
use Rattle.executor_model.specs.declared.op.HandleOp.TheVariants as handle_op
use Rattle.executor_model.specs.declared.op.Hold.TheVariants as hold
use Rattle.executor_model.specs.declared.op.Op.{Op}
use Rattle.executor_model.specs.declared.op.Op.TheVariants as op
use Rattle.executor_model.specs.declared.op.Polled.{Polled}
use Rattle.executor_model.specs.declared.op.Polled.TheVariants as of
use Rattle.executor_model.specs.declared.op.QueueOp.TheVariants as queue_op
use Rattle.executor_model.specs.declared.op.Sleeping.{Sleeping}
use Rattle.executor_model.specs.declared.op.SleeperOp.TheVariants as sleeper_op
use Rattle.executor_model.specs.declared.op.UserOp.TheVariants as user_op
use Rattle.executor_model.specs.declared.op.Waker.{Waker}
use Rattle.executor_model.specs.declared.op.Waker.TheVariants.{Task, Outside}
use Rattle.executor_model.specs.declared.op.WakerOp.TheVariants as waker_op
use Rattle.executor_model.specs.declared.step.Hint.{Hint}
use Rattle.executor_model.specs.Acts.{append_by, call_waker, copy_awaiter_by, end_notify, end_register}
use Rattle.executor_model.specs.Acts.{end_register_by, let_go, look, look_again, look_again_by, look_by, move_task, notify}
use Rattle.executor_model.specs.Acts.{notify_by, polled, register, register_by, stands_alone, told}
use Rattle.executor_model.specs.ActsOfSleepers.{exchange_by, hand_out_by, polled_as}
use Rattle.executor_model.specs.Carried.{awaiter_ops, owed_ops}
use Rattle.executor_model.specs.Doing.{act}
use Rattle.executor_model.specs.Steps.{waits}
use Rattle.executor_model.specs.World.{World, Done, awaiter_of, done, log, mark_of, put, put_awaiter}
use Rattle.executor_model.specs.World as world
use Rattle.machine_roads.proofs.Lists.{same_of}
use Rattle.machine_roads.proofs.Hiding.{Does, IsAside, Kept, aside_other, await_other, awaiter_other, cancel_aside, fit_all, hide, is_aside}
use Rattle.machine_roads.proofs.Hiding.{is_from_outside, keeps_await, keeps_other, moves_do, put_other, task_other, task_own}
use Rattle.machine_roads.proofs.Hiding.{use_aside, wake_aside, without}
use Rattle.machine_roads.proofs.LoneRuns.{both_true}
use Rattle.machine_roads.proofs.Marks.{emptied_owes}

pub not_on : (b : Bool) → not b ≡ true → b ≡ false
not_on false is = refl
not_on true is = absurd cc

-- of a task whose run is over
module _ (f : ℕ) (less : ℕ → ℕ) (own : Bool) (Owes : ℕ → List ℕ → State → Option Awaiter → Type 0)
    (known : (w : World) → Kept f less own Owes w → f < length w.tasks)
    (over : (w : World) → Kept f less own Owes w → moves.is_over (world.task w f) ≡ true) where
  abbrev Here : World → Type 0
  Here w = Kept f less own Owes w

  abbrev So : Done → Done → Type 0
  So there here = Does f less own Owes there here

  abbrev Fit : List Op → Type 0
  Fit os = fit_all f less own Owes os ≡ true

  goes_fits : (a : Waker) (k : ℕ) (os : List Op) → Fit os → Fit (let_go (Some (record { waker = a; poll = k })) ++ os)
  goes_fits (Task g) k os fit = fit
  goes_fits (Outside x) k os fit = fit

  let_go_fits : (o : Option Awaiter) (os : List Op) → Fit os → Fit (let_go o ++ os)
  let_go_fits None os fit = fit
  let_go_fits (Some a) os fit = goes_fits a.waker a.poll os fit

  goes_alone : (a : Waker) (k : ℕ) → Fit (let_go (Some (record { waker = a; poll = k })))
  goes_alone (Task g) k = refl
  goes_alone (Outside x) k = refl

  told_fits : (same : Bool) (g : ℕ) (o : Option Awaiter) → Fit (told same g o)
  told_fits same g None = refl
  told_fits true g (Some a) = goes_alone a.waker a.poll
  told_fits false g (Some a) = refl

  pub apart_fits : (g : ℕ) → (f == g) ≡ false → (not (f == g) && true) ≡ true
  apart_fits g apart = ap (λ b. not b && true) apart

  outside_fits : (g : ℕ) (a : Waker) → (f == g) ≡ false → (own || is_from_outside a) ≡ true
      → ((not (f == g) && (own || is_from_outside a)) && true) ≡ true
  outside_fits g a apart out = ap (λ b. (not b && (own || is_from_outside a)) && true) apart ∙ ap (λ b. b && true) out

  pub stays : (w : World) → Here w → (os : List Op) → Fit os → So (done (without f less w) os) (done w os)
  stays w kept os fit = record { same = refl; kept = kept; fit = fit }

  -- moves, of other tasks and of this one
  wakes_fit : (over running there : Bool) (g : ℕ) (s : State)
      → Fit (owed_ops there g (moves.wake_by_reference_by over running s).owed)
  wakes_fit true running there g s = refl
  wakes_fit false true there g s = refl
  wakes_fit false false there g s = refl

  uses_fit : (over running there : Bool) (g : ℕ) (s : State)
      → Fit (owed_ops there g (record (moves.wake_by_reference_by over running s).owed { next = Some move.Release }))
  uses_fit true running there g s = refl
  uses_fit false true there g s = refl
  uses_fit false false there g s = refl

  releases_fit : (last over there : Bool) (g : ℕ) (s : State) → Fit (owed_ops there g (moves.release_by last over s).owed)
  releases_fit false over there g s = refl
  releases_fit true true there g s = refl
  releases_fit true false there g s = refl

  cancels_fit : (over going a there : Bool) (g : ℕ) (s : State) → s.awaiter ≡ a → (f == g) ≡ false
      → Fit (owed_ops there g (moves.cancel_by over going s).owed)
  cancels_fit true going a there g s is apart = refl
  cancels_fit false true true there g s is apart =
      subst (λ b. Fit (owed_ops there g (record moves.nothing { awaiter = moves.notify_if b }))) (sym is) (apart_fits g apart)
  cancels_fit false true false there g s is apart =
      subst (λ b. Fit (owed_ops there g (record moves.nothing { awaiter = moves.notify_if b }))) (sym is) refl
  cancels_fit false false true there g s is apart =
      subst
      (λ b. Fit (owed_ops there g (record moves.nothing { schedule = moves.schedule false; awaiter = moves.notify_if b })))
      (sym is) (apart_fits g apart)
  cancels_fit false false false there g s is apart =
      subst
      (λ b. Fit (owed_ops there g (record moves.nothing { schedule = moves.schedule false; awaiter = moves.notify_if b })))
      (sym is) refl

  detaches_fit : (x y there : Bool) (g : ℕ) (s : State) → Fit (owed_ops there g (moves.detach_by x y s).owed)
  detaches_fit true y there g s = refl
  detaches_fit false true there g s = refl
  detaches_fit false false there g s = ap (fit_all f less own Owes) (emptied_owes there g (s.references == 0))

  -- by whether it is this one
  pub move_does : (m : Move) (p : ℕ) (v : World) (g : ℕ) → stands_alone m ≡ true → Here v
      → ((s : State) (there : Bool) → (f == g) ≡ false → Fit (owed_ops there g (moves.after m s).owed))
      → (f ≡ g → IsAside f less own Owes m f (world.task v f) (hide f less (world.task v f))) → So (move_task m p (without f less v) g)
      (move_task m p v g)
  move_does m p v g alone kept fit its = by (f == g) refl
    where
      by : (b : Bool) → (f == g) ≡ b → So (move_task m p (without f less v) g) (move_task m p v g)
      by true same =
          subst (λ g. So (move_task m p (without f less v) g) (move_task m p v g)) (same_of f g same)
          (moves_do f less own Owes m p v f (hide f less (world.task v f)) alone kept (task_own f less v (known v kept))
          (its (same_of f g same)))
      by false apart =
          moves_do f less own Owes m p v g (world.task v g) alone kept (task_other f less v g apart)
          (aside_other f less own Owes m g (world.task v g) apart (λ there. fit (world.task v g) there apart))

  use_does : (p : ℕ) (v : World) (g : ℕ) → Here v → So (move_task move.Wake p (without f less v) g) (move_task move.Wake p v g)
  use_does p v g kept =
      move_does move.Wake p v g refl kept
      (λ s there apart. uses_fit (moves.is_over s || s.scheduled) s.running there g s)
      (λ is. use_aside f less own Owes known (world.task v f) (over v kept))

  pub release_does : (p : ℕ) (v : World) (g : ℕ) → Here v
      → (f ≡ g → IsAside f less own Owes move.Release f (world.task v f) (hide f less (world.task v f)))
      → So (move_task move.Release p (without f less v) g) (move_task move.Release p v g)
  release_does p v g kept its =
      move_does move.Release p v g refl kept (λ s there apart. releases_fit (moves.is_last s) (moves.is_over s) there g s) its

  pub detach_does : (p : ℕ) (v : World) (g : ℕ) → Here v
      → (f ≡ g → IsAside f less own Owes move.Detach f (world.task v f) (hide f less (world.task v f)))
      → So (move_task move.Detach p (without f less v) g) (move_task move.Detach p v g)
  detach_does p v g kept its =
      move_does move.Detach p v g refl kept
      (λ s there apart. detaches_fit (s.completed && not s.closed) ((s.references == 0) && not s.closed) there g s) its

  -- another task is written, and the world changed beside
  pub writes : (w : World) (g : ℕ) (s : State) (rest : World → World) (os : List Op) → (f == g) ≡ false → Here w
      → rest (without f less (put w g s)) ≡ without f less (rest (put w g s)) → (Here (put w g s) → Here (rest (put w g s))) → Fit os
      → So (done (rest (put (without f less w) g s)) os) (done (rest (put w g s)) os)
  writes w g s rest os apart kept beside keeps fit = record {
    same = ap (λ v. done (rest v) os) (put_other f less w g s apart) ∙ ap (λ v. done v os) beside;
    kept = keeps (keeps_other f less own Owes w g s apart kept);
    fit = fit;
  }

  only_writes : (w : World) (g : ℕ) (s : State) (os : List Op) → (f == g) ≡ false → Here w → Fit os
      → So (done (put (without f less w) g s) os) (done (put w g s) os)
  only_writes w g s os apart kept fit = writes w g s (λ v. v) os apart kept refl (λ kept. kept) fit

  -- and its awaiter
  writes_both : (w : World) (g : ℕ) (s : State) (o : Option Awaiter) (os : List Op) → (f == g) ≡ false → Here w → Fit os
      → So (done (put_awaiter (put (without f less w) g s) g o) os) (done (put_awaiter (put w g s) g o) os)
  writes_both w g s o os apart kept fit =
      writes w g s (λ v. put_awaiter v g o) os apart kept (await_other f less (put w g s) g o apart)
      (λ kept. keeps_await f less own Owes (put w g s) g o apart kept) fit

  module _ (p : ℕ) (w : World) (kept : Here w) where
    calls_do : (o : Polled) (a : Waker) (k : ℕ) → So (call_waker p (without f less w) o a k) (call_waker p w o a k)
    calls_do o (Task g) k = use_does p (log w (event.WakerCalled p o k (Task g))) g kept
    calls_do o (Outside x) k = record { same = refl; kept = kept; fit = refl }

    pub appends_do : (b : Bool) (g : ℕ) → b ≡ true → So (append_by b (without f less w) (mark_of w g) g) (append_by b w (mark_of w g) g)
    appends_do true g is = record { same = refl; kept = kept; fit = refl }
    appends_do false g is = absurd cc

    exchanges_do : (b : Bool) → So (exchange_by b (without f less w)) (exchange_by b w)
    exchanges_do true = stays w kept [] refl
    exchanges_do false = record { same = refl; kept = kept; fit = refl }

    hands_out : (b : Bool) (o : Option Sleeping) → So (hand_out_by b o (without f less w)) (hand_out_by b o w)
    hands_out true None = record { same = refl; kept = kept; fit = refl }
    hands_out true (Some x) = record { same = refl; kept = kept; fit = refl }
    hands_out false o = stays w kept [] refl

    pub outside_by : (h x : ℕ) → (f == h) ≡ false → (b : Bool)
        → So (copy_awaiter_by b p (without f less w) h (Outside x)) (copy_awaiter_by b p w h (Outside x))
    outside_by h x apart true = stays w kept (op.End reply.NoMemory (hold.Handle h) ∷ []) refl
    outside_by h x apart false = record { same = refl; kept = kept; fit = apart_fits h apart }

    -- what is done by another task, and by its awaiter
    module _ (g : ℕ) (apart : (f == g) ≡ false) where
      abbrev s : State
      s = world.task w g

      by_task : (F : State → Done) (here : Done) → So (F s) here → So (F (world.task (without f less w) g)) here
      by_task F here does = subst (λ x. So (F x) here) (sym (task_other f less w g apart)) does

      by_both : (F : State → Option Awaiter → Done) (here : Done) → So (F s (awaiter_of w g)) here
          → So (F (world.task (without f less w) g) (awaiter_of (without f less w) g)) here
      by_both F here does =
          by_task (λ x. F x (awaiter_of (without f less w) g)) here
          (subst (λ o. So (F s o) here) (sym (awaiter_other f less w g apart)) does)

      again_fits : (a : Option Awaiter) (os : List Op) → os ≡ op.Handle (handle_op.LookAgain g) ∷ [] → Fit (let_go a ++ os)
      again_fits a os is = let_go_fits a os (ap (fit_all f less own Owes) is ∙ apart_fits g apart)

      given : (b : Bool) → Fit (awaiter_ops g (moves.notify_other_if b) ++ op.End reply.Ready (hold.Handle g) ∷ [])
      given true = apart_fits g apart
      given false = refl

      looks_by : (a : Waker) (x c d : Bool) → (own || is_from_outside a) ≡ true
          → So (look_by (moves.poll_by x c d s).owed.answer p (without f less w) g a (moves.poll_by x c d s))
          (look_by (moves.poll_by x c d s).owed.answer p w g a (moves.poll_by x c d s))
      looks_by a true true d out = stays w kept (op.Handle (handle_op.CopyAwaiter g a) ∷ []) (outside_fits g a apart out)
      looks_by a true false d out =
          only_writes (polled p w g) g s
          (op.Handle (handle_op.Notify g true) ∷ op.End reply.Cancelled (hold.Handle g) ∷ []) apart kept (apart_fits g apart)
      looks_by a false c false out = stays w kept (op.Handle (handle_op.CopyAwaiter g a) ∷ []) (outside_fits g a apart out)
      looks_by a false c true out =
          writes (polled p w g) g (record s { closed = true }) (λ v. log v (event.OutputGiven p g))
          (awaiter_ops g (moves.notify_other_if s.awaiter) ++ op.End reply.Ready (hold.Handle g) ∷ [])
          apart kept refl (λ kept. kept) (given s.awaiter)

      again_by : (x c d : Bool)
          → So (look_again_by (moves.look_again_by x c d s).owed.answer p (without f less w) g (moves.look_again_by x c d s))
          (look_again_by (moves.look_again_by x c d s).owed.answer p w g (moves.look_again_by x c d s))
      again_by true true d = only_writes w g s (op.End reply.Pending (hold.Handle g) ∷ []) apart kept refl
      again_by true false d =
          only_writes w g s (op.Handle (handle_op.Notify g true) ∷ op.End reply.Cancelled (hold.Handle g) ∷ []) apart kept
          (apart_fits g apart)
      again_by false c false = only_writes w g s (op.End reply.Pending (hold.Handle g) ∷ []) apart kept refl
      again_by false c true =
          writes w g (record s { closed = true }) (λ v. log v (event.OutputGiven p g))
          (awaiter_ops g (moves.notify_other_if s.awaiter) ++ op.End reply.Ready (hold.Handle g) ∷ [])
          apart kept refl (λ kept. kept) (given s.awaiter)

      looks_do : (a : Waker) → (own || is_from_outside a) ≡ true → So (look p (without f less w) g a) (look p w g a)
      looks_do a out =
          by_task (λ t. look_by (moves.poll t).owed.answer p (without f less w) g a (moves.poll t)) (look p w g a)
          (looks_by a s.closed (moves.is_going s) s.completed out)

      again_does : So (look_again p (without f less w) g) (look_again p w g)
      again_does =
          by_task (λ t. look_again_by (moves.look_again t).owed.answer p (without f less w) g (moves.look_again t)) (look_again p w g)
          (again_by s.closed (moves.is_going s) s.completed)

      registers_by : (a : Waker) (k : ℕ) (b : Bool) → So (register_by b (without f less w) g a k) (register_by b w g a k)
      registers_by a k true =
          let os : List Op = op.Waker (waker_op.CallAwaiter g a k) ∷ op.Handle (handle_op.LookAgain g) ∷ [] in
          by_task (λ t. done (put (without f less w) g t) os) (done (put w g s) os)
          (only_writes w g s os apart kept (apart_fits g apart))
      registers_by a k false =
          let os : List Op = op.Handle (handle_op.EndRegister g a k) ∷ [] in
          let t : State = record s { registering = true } in
          by_task (λ t. done (put (without f less w) g (record t { registering = true })) os) (done (put w g t) os)
          (only_writes w g t os apart kept (apart_fits g apart))

      registers_do : (a : Waker) (k : ℕ) → So (register (without f less w) g a k) (register w g a k)
      registers_do a k =
          by_task (λ t. register_by t.notifying (without f less w) g a k) (register w g a k) (registers_by a k s.notifying)

      end_registers_by : (a : Waker) (k : ℕ) (b : Bool) → So (end_register_by b (without f less w) g a k) (end_register_by b w g a k)
      end_registers_by a k true =
          let os : Option Awaiter → List Op =
          λ o. op.Waker (waker_op.CallAwaiter g a k) ∷ let_go o ++ op.Handle (handle_op.LookAgain g) ∷ [] in
          let t : State = record s { awaiter = false; registering = false; notifying = false } in
          by_both (λ t o. done (put_awaiter (put (without f less w) g (moves.end_register_by true t).state) g None) (os o))
          (done (put_awaiter (put w g t) g None) (os (awaiter_of w g)))
          (writes_both w g t None (os (awaiter_of w g)) apart kept
          (again_fits (awaiter_of w g) (op.Handle (handle_op.LookAgain g) ∷ []) refl))
      end_registers_by a k false =
          let os : Option Awaiter → List Op = λ o. let_go o ++ op.Handle (handle_op.LookAgain g) ∷ [] in
          let t : State = record s { awaiter = true; registering = false } in
          let o : Option Awaiter = Some (record { waker = a; poll = k }) in
          by_both (λ t x. done (put_awaiter (put (without f less w) g (moves.end_register_by false t).state) g o) (os x))
          (done (put_awaiter (put w g t) g o) (os (awaiter_of w g)))
          (writes_both w g t o (os (awaiter_of w g)) apart kept
          (again_fits (awaiter_of w g) (op.Handle (handle_op.LookAgain g) ∷ []) refl))

      end_registers_do : (a : Waker) (k : ℕ) → So (end_register (without f less w) g a k) (end_register w g a k)
      end_registers_do a k =
          by_task (λ t. end_register_by t.notifying (without f less w) g a k) (end_register w g a k) (end_registers_by a k s.notifying)

      notifies_by : (mine b : Bool) → So (notify_by b (without f less w) g mine) (notify_by b w g mine)
      notifies_by mine true =
          let t : State = record s { notifying = true } in
          by_task (λ t. done (put (without f less w) g (record t { notifying = true })) []) (done (put w g t) [])
          (only_writes w g t [] apart kept refl)
      notifies_by mine false =
          let os : List Op = op.Handle (handle_op.EndNotify g mine) ∷ [] in
          let t : State = record s { notifying = true } in
          by_task (λ t. done (put (without f less w) g (record t { notifying = true })) os) (done (put w g t) os)
          (only_writes w g t os apart kept (apart_fits g apart))

      notifies_do : (mine : Bool) → So (notify (without f less w) g mine) (notify w g mine)
      notifies_do mine =
          by_task (λ t. notify_by (t.notifying || t.registering) (without f less w) g mine) (notify w g mine)
          (notifies_by mine (s.notifying || s.registering))

      ends_notify : (h : Hint) (mine : Bool) → So (end_notify h (without f less w) g mine) (end_notify h w g mine)
      ends_notify h mine =
          let t : State = record s { awaiter = false; notifying = false } in
          by_both (λ t o. done (put_awaiter (put (without f less w) g (moves.end_notify t).state) g None) (told (mine && h.same) g o))
          (done (put_awaiter (put w g t) g None) (told (mine && h.same) g (awaiter_of w g)))
          (writes_both w g t None (told (mine && h.same) g (awaiter_of w g)) apart kept
          (told_fits (mine && h.same) g (awaiter_of w g)))

  -- what is asked for more than that it is there, and what is copied
  abbrev pub is_asking : Op → Bool
  is_asking (op.Move move.Release g) = true
  is_asking (op.Move move.Detach g) = true
  is_asking (op.Queue (queue_op.Append g)) = true
  is_asking (op.Handle (handle_op.CopyAwaiter g a)) = true
  is_asking (op.Waker (waker_op.CopyWaker g held)) = true
  is_asking o = false

  pub others_do : (p : ℕ) (h : Hint) (o : Op) (w : World) → is_asking o ≡ false → is_aside f less own Owes o ≡ true → waits o ≡ false
      → Here w → So (act p h o (without f less w)) (act p h o w)
  others_do p h (op.Move move.WakeByReference g) w other fit free kept =
      move_does move.WakeByReference p w g refl kept
      (λ s there apart. wakes_fit (moves.is_over s || s.scheduled) s.running there g s)
      (λ is. wake_aside f less own Owes known (world.task w f) (over w kept))
  others_do p h (op.Move move.Wake g) w other fit free kept = use_does p w g kept
  others_do p h (op.Move move.Cancel g) w other fit free kept =
      move_does move.Cancel p w g refl kept
      (λ s there apart. cancels_fit (moves.is_over s) (moves.is_going s) s.awaiter there g s refl apart)
      (λ is. cancel_aside f less own Owes known (world.task w f) (over w kept))
  others_do p h (op.Sleeper sleeper_op.ExchangeFlag) w other fit free kept = exchanges_do p w kept w.notified
  others_do p h (op.Sleeper sleeper_op.HandOut) w other fit free kept =
      hands_out p w kept (length w.sleepers.wakers == w.sleepers.count) (last_waker w.sleepers.wakers)
  others_do p h (op.Sleeper (sleeper_op.CallSleeper x)) w other fit free kept = calls_do p w kept (polled_as x.who) x.waker x.poll
  others_do p h (op.Handle (handle_op.Look g a)) w other fit free kept =
      let both = both_true (not (f == g)) (own || is_from_outside a) fit in looks_do p w kept g (not_on (f == g) both.0) a both.1
  others_do p h (op.Handle (handle_op.Register g a k)) w other fit free kept = registers_do p w kept g (not_on (f == g) fit) a k
  others_do p h (op.Handle (handle_op.EndRegister g a k)) w other fit free kept =
      end_registers_do p w kept g (not_on (f == g) fit) a k
  others_do p h (op.Handle (handle_op.LookAgain g)) w other fit free kept = again_does p w kept g (not_on (f == g) fit)
  others_do p h (op.Handle (handle_op.Notify g mine)) w other fit free kept = notifies_do p w kept g (not_on (f == g) fit) mine
  others_do p h (op.Handle (handle_op.EndNotify g mine)) w other fit free kept =
      ends_notify p w kept g (not_on (f == g) fit) h mine
  others_do p h (op.Waker (waker_op.CallAwaiter g a k)) w other fit free kept = calls_do p w kept (of.Handle g) a k
  others_do p h (op.User (user_op.BeginDropOutput g)) w other fit free kept = record { same = refl; kept = kept; fit = refl }
  others_do p h (op.End r held) w other fit free kept = record { same = refl; kept = kept; fit = refl }
  others_do p h o w other fit free kept = absurd cc
