-- What moves of wakers and handles of other tasks do is the same whether somebody awaits a closed task without references or handle or not,
-- and what they ask for is there.
use Rattle.std.proofs.Common.{◌≡◌, ℕ, ◌+◌, ◌<◌, ◌≤◌, ◌==◌, ◌++◌, ◌&&◌, not, Bool, true, false, List, [], ◌∷◌, length}
use Rattle.std.proofs.Common.{Option, Some, None, refl, sym, ap, subst, arith}
use Rattle.task_moves.specs.declared.moves.owed.Move.TheVariants as move
use Rattle.task_moves.specs.declared.moves.state.State.{State}
use Rattle.task_moves.specs.Moves as moves
use Rattle.executor_model.specs.declared.op.Awaiter.{Awaiter}
use Rattle.executor_model.specs.declared.op.HandleOp.TheVariants as handle_op
use Rattle.executor_model.specs.declared.op.Op.{Op}
use Rattle.executor_model.specs.declared.op.Op.TheVariants as op
use Rattle.executor_model.specs.declared.op.Waker.{Waker}
use Rattle.executor_model.specs.declared.op.Waker.TheVariants.{Task, Outside}
use Rattle.executor_model.specs.declared.op.WakerOp.TheVariants as waker_op
use Rattle.executor_model.specs.World.{World, Done, among, done, put}
use Rattle.executor_model.specs.World as world
use Rattle.machine_roads.specs.View.{waker_in}
use Rattle.machine_roads.specs.Forgotten.{without_awaiter}
use Rattle.machine_roads.proofs.Handless.{off_and, or_so}
use Rattle.machine_roads.proofs.Lists.{length_set}
use Rattle.machine_roads.proofs.Marks.{emptied_owes}
use Rattle.task_moves.specs.LocalTask.{token}
use Rattle.executor_model.specs.declared.call.Reply.TheVariants as reply
use Rattle.executor_model.specs.declared.op.Hold.{Hold}
use Rattle.executor_model.specs.declared.op.QueueOp.TheVariants as queue_op
use Rattle.executor_model.specs.declared.op.SleeperOp.TheVariants as sleeper_op
use Rattle.executor_model.specs.declared.step.Hint.{Hint}
use Rattle.executor_model.specs.Acts.{copy_by, copy_waker}
use Rattle.executor_model.specs.Acts.{is_refused}
use Rattle.executor_model.specs.Acts.{takes_more}
use Rattle.executor_model.specs.Doing.{act}
use Rattle.executor_model.specs.Good.{IsKnownWaker}
use Rattle.executor_model.specs.Steps.{waits}
use Rattle.executor_model.specs.World.{World, Done, done, mark_of, put, queue_of}
use Rattle.machine_roads.specs.Alone.{Has}
use Rattle.machine_roads.proofs.Lists.{length_set, same_of}
use Rattle.machine_roads.proofs.LoneRuns.{both_true}
use Rattle.machine_roads.proofs.Hiding as hiding
use Rattle.machine_roads.proofs.Hiding.{Hides, IsAside, aside_own, task_other, task_own}
use Rattle.machine_roads.proofs.HidingActs.{appends_do, detach_does, not_on, others_do, outside_by, release_does, stays, writes}

abbrev pub all_same : ℕ → ℕ
all_same n = n

-- the task as nobody awaits it
abbrev pub hide : State → State
hide s = record s { awaiter = false }

module _ (f : ℕ) (awaiter : Option Waker) where
  -- the task, of so many, with its entry in the table, and its awaiter, in the meantime
  pub record Owes (n : ℕ) (table : List ℕ) (s : State) (o : Option Awaiter) : Type 0 where
    pub known : f < n
    pub entered : among f table ≡ true
    pub closed : s.closed ≡ true
    pub spent : s.references ≡ 0
    pub unheld : s.handle ≡ false
    pub awaited : waker_in o ≡ awaiter

  abbrev pub is_aside : Op → Bool
  is_aside o = hiding.is_aside f all_same false Owes o

  abbrev pub Kept : World → Type 0
  Kept w = hiding.Kept f all_same false Owes w

  abbrev pub Does : Done → Done → Type 0
  Does there here = hiding.Does f all_same false Owes there here

  known : (w : World) → Kept w → f < length w.tasks
  known w kept = kept.known

  over : (w : World) → Kept w → moves.is_over (world.task w f) ≡ true
  over w kept = or_so f (world.task w f).completed (world.task w f).closed kept.closed

  -- what is closed isn't forgotten
  detaches_own : (s : State) → s.closed ≡ true → Hides f all_same false Owes s (moves.detach (hide s)) (moves.detach s)
  detaches_own s closed =
      subst (λ b. Hides f all_same false Owes s (moves.detach_by b ((s.references == 0) && not s.closed) (hide s))
      (moves.detach_by b ((s.references == 0) && not s.closed) s)) (sym (off_and f s.completed s.closed closed))
      (subst (λ b. Hides f all_same false Owes s (moves.detach_by false b (hide s)) (moves.detach_by false b s))
      (sym (off_and f (s.references == 0) s.closed closed))
      (record {
        state = refl;
        owed = λ there. refl;
        fits = λ there. ap (hiding.fit_all f all_same false Owes) (emptied_owes there f (s.references == 0));
        owing = λ k table o owes.
            record {
              known = owes.known;
              entered = owes.entered;
              closed = owes.closed;
              spent = owes.spent;
              unheld = refl;
              awaited = owes.awaited;
            };
      }))

  pub detach_aside : (s : State) → s.closed ≡ true → IsAside f all_same false Owes move.Detach f s (hide s)
  detach_aside s closed = aside_own f all_same false Owes known move.Detach s refl refl (detaches_own s closed)

  -- a copy of another task's waker
  copies_by : (w : World) (g : ℕ) (held : Hold) → (f == g) ≡ false → Kept w → (b : Bool)
      → Does (copy_by b (without_awaiter f w) g held) (copy_by b w g held)
  copies_by w g held apart kept true = stays f all_same false Owes known over w kept (op.End reply.NoMemory held ∷ []) refl
  copies_by w g held apart kept false =
      let os : List Op = op.End reply.Made held ∷ [] in
      let s = world.task w g in
      let t : State = record s { references = s.references + 1 } in
      let rest : World → World = λ v. record v { wakers = w.wakers ++ Some g ∷ [] } in
      subst
      (λ (x : State). Does (done (rest (put (without_awaiter f w) g (record x { references = x.references + 1 }))) os)
      (done (rest (put w g t)) os))
      (sym (task_other f all_same w g apart))
      (writes f all_same false Owes known over w g t rest os apart kept refl (λ kept. kept) refl)

  copies_do : (w : World) (g : ℕ) (held : Hold) → (f == g) ≡ false → Kept w → (h : Hint)
      → Does (copy_waker h (without_awaiter f w) g held) (copy_waker h w g held)
  copies_do w g held apart kept h =
      subst (λ (x : State). Does (copy_by (is_refused h x) (without_awaiter f w) g held) (copy_waker h w g held))
      (sym (task_other f all_same w g apart)) (copies_by w g held apart kept (is_refused h (world.task w g)))

  pub act_does : (p : ℕ) (h : Hint) (o : Op) (w : World) → is_aside o ≡ true → waits o ≡ false → Kept w → Has w o
      → Does (act p h o (without_awaiter f w)) (act p h o w)
  act_does p h (op.Move move.Release g) w fit free kept has = release_does f all_same false Owes known over p w g kept own
    where
      own : f ≡ g → IsAside f all_same false Owes move.Release f (world.task w f) (hide (world.task w f))
      own is =
          let held : token (world.task w f) < (world.task w f).references =
          subst (λ k. token (world.task w k) < (world.task w k).references) (sym is) has.1 in
          absurd (omega (arith, held, kept.spent))
  act_does p h (op.Move move.Detach g) w fit free kept has =
      detach_does f all_same false Owes known over p w g kept (λ is. detach_aside (world.task w f) kept.closed)
  act_does p h (op.Queue (queue_op.Append g)) w fit free kept has =
      appends_do f all_same false Owes known over p w kept (takes_more (queue_of w (mark_of w g)) w.limit) g has.1
  act_does p h (op.Handle (handle_op.CopyAwaiter g (Outside x))) w fit free kept has =
      outside_by f all_same false Owes known over p w kept g x (not_on (f == g) (both_true (not (f == g)) true fit).0) h.refused
  act_does p h (op.Handle (handle_op.CopyAwaiter g (Task k))) w fit free kept has =
      let no = (both_true (not (f == g)) false fit).1 in absurd cc
  act_does p h (op.Waker (waker_op.CopyWaker g held)) w fit free kept has = copies_do w g held (not_on (f == g) fit) kept h
  act_does p h o w fit free kept has = others_do f all_same false Owes known over p h o w refl fit free kept

  -- what is asked for is there
  known_less : (w : World) (g : ℕ) → g < length w.tasks → g < length (without_awaiter f w).tasks
  known_less w g known = subst (λ n. g < n) (sym (length_set w.tasks f (hide (world.task w f)))) known

  awaited_less : (w : World) (g : ℕ) → g < length w.awaiters → g < length (without_awaiter f w).awaiters
  awaited_less w g known = subst (λ n. g < n) (sym (length_set w.awaiters f None)) known

  waker_less : (w : World) (a : Waker) → IsKnownWaker w a → IsKnownWaker (without_awaiter f w) a
  waker_less w (Task g) known = known_less w g known
  waker_less w (Outside x) known = tt

  of_task : (w : World) (g : ℕ) (P : State → Type 0) → Kept w → (P (world.task w g) → P (hide (world.task w g))) → P (world.task w g)
      → P (world.task (without_awaiter f w) g)
  of_task w g P kept so has = by (f == g) refl
    where
      by : (b : Bool) → (f == g) ≡ b → P (world.task (without_awaiter f w) g)
      by true same =
          let is = same_of f g same in
          subst (λ k. P (world.task (without_awaiter f w) k)) is
          (subst P (sym (task_own f all_same w kept.known)) (subst (λ k. P (hide (world.task w k))) (sym is) (so has)))
      by false apart = subst P (sym (task_other f all_same w g apart)) has

  pub has_less : (o : Op) (w : World) → is_aside o ≡ true → Kept w → Has w o → Has (without_awaiter f w) o
  has_less (op.Move move.WakeByReference g) w fit kept has = (known_less w g has.0, has.1)
  has_less (op.Move move.Wake g) w fit kept has = (known_less w g has.0, has.1)
  has_less (op.Move move.Release g) w fit kept has =
      (known_less w g has.0, of_task w g (λ t. token t < t.references) kept (λ x. x) has.1)
  has_less (op.Move move.Cancel g) w fit kept has = (known_less w g has.0, has.1)
  has_less (op.Move move.Detach g) w fit kept has =
      (known_less w g has.0, of_task w g (λ t. token t ≤ t.references) kept (λ x. x) has.1)
  has_less (op.Queue (queue_op.Append g)) w fit kept has = (known_less w g has.0, has.1)
  has_less (op.Sleeper sleeper_op.ExchangeFlag) w fit kept has = has
  has_less (op.Sleeper sleeper_op.HandOut) w fit kept has = has
  has_less (op.Sleeper (sleeper_op.CallSleeper x)) w fit kept has = waker_less w x.waker has
  has_less (op.Handle (handle_op.Look g a)) w fit kept has =
      (known_less w g has.0, of_task w g (λ t. t.completed ≡ true → moves.is_going t ≡ false) kept (λ x. x) has.1)
  has_less (op.Handle (handle_op.CopyAwaiter g (Task k))) w fit kept has =
      (known_less w k has.0, of_task w k (λ t. token t ≤ t.references) kept (λ x. x) has.1)
  has_less (op.Handle (handle_op.CopyAwaiter g (Outside x))) w fit kept has = has
  has_less (op.Handle (handle_op.Register g a k)) w fit kept has = known_less w g has
  has_less (op.Handle (handle_op.EndRegister g a k)) w fit kept has = (known_less w g has.0, awaited_less w g has.1)
  has_less (op.Handle (handle_op.LookAgain g)) w fit kept has = known_less w g has
  has_less (op.Handle (handle_op.Notify g mine)) w fit kept has = known_less w g has
  has_less (op.Handle (handle_op.EndNotify g mine)) w fit kept has = (known_less w g has.0, awaited_less w g has.1)
  has_less (op.Waker (waker_op.CopyWaker g held)) w fit kept has =
      (known_less w g has.0, of_task w g (λ t. token t ≤ t.references) kept (λ x. x) has.1)
  has_less (op.Waker (waker_op.CallAwaiter g a k)) w fit kept has = waker_less w a has
  has_less (op.User o) w fit kept has = tt
  has_less (op.End r held) w fit kept has = tt
  has_less o w fit kept has = absurd cc
