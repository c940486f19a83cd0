-- What moves of wakers and handles do is the same whether a task that is over has who awaits it, and as many references, or not.
use Rattle.std.proofs.Common.{◌≡◌, ℕ, ◌<◌, ◌==◌, ◌&&◌, ◌||◌, not, Bool, true, false, List, length}
use Rattle.std.proofs.Common.{Option, Some, None, slice_set, refl, sym, ap, subst, ◌∙◌, get_or-set_same, get_or-set_other}
use Rattle.task_moves.specs.declared.moves.owed.Move.{Move}
use Rattle.task_moves.specs.declared.moves.owed.Move.TheVariants as move
use Rattle.task_moves.specs.declared.moves.owed.Moved.{Moved}
use Rattle.task_moves.specs.declared.moves.state.State.{State}
use Rattle.task_moves.specs.Moves as moves
use Rattle.executor_model.specs.declared.op.Awaiter.{Awaiter}
use Rattle.executor_model.specs.declared.op.HandleOp.TheVariants as handle_op
use Rattle.executor_model.specs.declared.op.Op.{Op}
use Rattle.executor_model.specs.declared.op.Op.TheVariants as op
use Rattle.executor_model.specs.declared.op.Waker.{Waker}
use Rattle.executor_model.specs.declared.op.Waker.TheVariants.{Task, Outside}
use Rattle.executor_model.specs.declared.op.WakerOp.TheVariants as waker_op
use Rattle.executor_model.specs.Acts.{is_last_waker, is_told}
use Rattle.executor_model.specs.Acts.{move_by, move_task, stands_alone, told_of}
use Rattle.executor_model.specs.Carried.{carried, owed_ops}
use Rattle.executor_model.specs.World.{World, Done, among, awaiter_of, blank, done, put, put_awaiter}
use Rattle.executor_model.specs.World as world
use Rattle.machine_roads.proofs.Along.{DoesSo, all_fit}
use Rattle.machine_roads.proofs.Lists.{apart_of, length_set, set_apart, set_twice}
use Rattle.machine_roads.proofs.Loose.{is_of_call}

abbrev pub is_from_outside : Waker → Bool
is_from_outside (Task g) = false
is_from_outside (Outside x) = true

-- the task, with so many of its references
module _ (f : ℕ) (less : ℕ → ℕ) where
  abbrev pub hide : State → State
  hide s = record s { references = less s.references; awaiter = false }

  abbrev pub without : World → World
  without w = put_awaiter (put w f (hide (world.task w f))) f None

  -- another task, and its awaiter
  pub task_other : (w : World) (g : ℕ) → (f == g) ≡ false → world.task (without w) g ≡ world.task w g
  task_other w g apart = get_or-set_other w.tasks f g (hide (world.task w f)) blank (λ same. apart_of f g apart (sym same))

  pub awaiter_other : (w : World) (g : ℕ) → (f == g) ≡ false → awaiter_of (without w) g ≡ awaiter_of w g
  awaiter_other w g apart = get_or-set_other w.awaiters f g None None (λ same. apart_of f g apart (sym same))

  pub task_own : (w : World) → f < length w.tasks → world.task (without w) f ≡ hide (world.task w f)
  task_own w known = get_or-set_same w.tasks f (hide (world.task w f)) blank known

  pub put_other : (w : World) (g : ℕ) (s : State) → (f == g) ≡ false → put (without w) g s ≡ without (put w g s)
  put_other w g s apart =
      ap (λ ts. record w { tasks = ts; awaiters = slice_set w.awaiters f None })
      (set_apart w.tasks f g (hide (world.task w f)) s (apart_of f g apart))
      ∙ ap (λ (x : State). put_awaiter (put (put w g s) f (hide x)) f None)
      (sym (get_or-set_other w.tasks g f s blank (apart_of f g apart)))

  pub put_own : (w : World) (s : State) → f < length w.tasks → put (without w) f (hide s) ≡ without (put w f s)
  put_own w s known =
      ap (λ ts. record w { tasks = ts; awaiters = slice_set w.awaiters f None })
      (set_twice w.tasks f (hide (world.task w f)) (hide s) ∙ sym (set_twice w.tasks f s (hide s)))
      ∙ ap (λ (x : State). put_awaiter (put (put w f s) f (hide x)) f None) (sym (get_or-set_same w.tasks f s blank known))

  pub await_other : (w : World) (g : ℕ) (o : Option Awaiter) → (f == g) ≡ false → put_awaiter (without w) g o ≡ without (put_awaiter w g o)
  await_other w g o apart =
      ap (λ os. record w { tasks = slice_set w.tasks f (hide (world.task w f)); awaiters = os })
      (set_apart w.awaiters f g None o (apart_of f g apart))

  -- whether its own wakers are copied, too; and how it is, of so many with this table, and its awaiter, in the meantime
  module _ (own : Bool) (Owes : ℕ → List ℕ → State → Option Awaiter → Type 0) where
    -- what calls do but polls of its handle
    abbrev pub is_aside : Op → Bool
    is_aside (op.Handle (handle_op.LetGo g)) = false
    is_aside (op.Waker (waker_op.CopyWaker g held)) = own || not (f == g)
    is_aside (op.Handle (handle_op.Look g a)) = not (f == g) && (own || is_from_outside a)
    is_aside (op.Handle (handle_op.CopyAwaiter g a)) = not (f == g) && (own || is_from_outside a)
    is_aside (op.Handle (handle_op.Register g a k)) = not (f == g)
    is_aside (op.Handle (handle_op.EndRegister g a k)) = not (f == g)
    is_aside (op.Handle (handle_op.LookAgain g)) = not (f == g)
    is_aside (op.Handle (handle_op.Notify g mine)) = not (f == g)
    is_aside (op.Handle (handle_op.EndNotify g mine)) = not (f == g)
    is_aside o = is_of_call o

    abbrev pub Kept : World → Type 0
    Kept w = Owes (length w.tasks) w.table (world.task w f) (awaiter_of w f)

    abbrev pub Does : Done → Done → Type 0
    Does there here = DoesSo without is_aside Kept there here

    abbrev pub fit_all : List Op → Bool
    fit_all os = all_fit without is_aside Kept os

    owes_by : (n m : ℕ) (table : List ℕ) (s t : State) (o u : Option Awaiter) → m ≡ n → t ≡ s → u ≡ o → Owes n table s o
        → Owes m table t u
    owes_by n m table s t o u many same one owes =
        subst (λ n. Owes n table t u) (sym many)
        (subst (λ s. Owes n table s u) (sym same) (subst (λ o. Owes n table s o) (sym one) owes))

    pub keeps_other : (w : World) (g : ℕ) (s : State) → (f == g) ≡ false → Kept w → Kept (put w g s)
    keeps_other w g s apart kept =
        owes_by (length w.tasks) (length (put w g s).tasks) w.table (world.task w f) (world.task (put w g s) f) (awaiter_of w f)
        (awaiter_of w f) (length_set w.tasks g s) (get_or-set_other w.tasks g f s blank (apart_of f g apart)) refl kept

    pub keeps_own : (w : World) (s : State) → f < length w.tasks → Owes (length w.tasks) w.table s (awaiter_of w f) → Kept (put w f s)
    keeps_own w s known owes =
        owes_by (length w.tasks) (length (put w f s).tasks) w.table s (world.task (put w f s) f) (awaiter_of w f) (awaiter_of w f)
        (length_set w.tasks f s) (get_or-set_same w.tasks f s blank known) refl owes

    pub keeps_await : (w : World) (g : ℕ) (o : Option Awaiter) → (f == g) ≡ false → Kept w → Kept (put_awaiter w g o)
    keeps_await w g o apart kept =
        owes_by (length w.tasks) (length w.tasks) w.table (world.task w f) (world.task w f) (awaiter_of w f)
        (awaiter_of (put_awaiter w g o) f) refl refl (get_or-set_other w.awaiters g f o None (apart_of f g apart)) kept

    -- a move of a task, from the task here and from that there
    pub record IsAside (m : Move) (g : ℕ) (s t : State) : Type 0 where
      pub last : is_last_waker m t ≡ is_last_waker m s
      pub tells : is_told m t ≡ is_told m s
      pub owes : (there : Bool) → owed_ops there g (moves.after m t).owed ≡ owed_ops there g (moves.after m s).owed
      pub fit : (there : Bool) → fit_all (owed_ops there g (moves.after m s).owed) ≡ true
      pub puts : (u : World) → Kept u → world.task u g ≡ s
          → put (without u) g (moves.after m t).state ≡ without (put u g (moves.after m s).state)
      pub keeps : (u : World) → Kept u → world.task u g ≡ s → Kept (put u g (moves.after m s).state)

    pub moves_do : (m : Move) (p : ℕ) (v : World) (g : ℕ) (t : State) → stands_alone m ≡ true → Kept v → world.task (without v) g ≡ t
        → IsAside m g (world.task v g) t → Does (move_task m p (without v) g) (move_task m p v g)
    moves_do m p v g t alone kept there is =
        subst (λ b. Does (move_by b m p (without v) g) (move_by b m p v g)) (sym alone)
        (subst (λ d. Does d (carried (told_of (is_last_waker m s) (is_told m s) m p v g) g (moves.after m s))) (sym as_aside)
        (by (is_last_waker m s) (is_told m s)))
      where
        s : State
        s = world.task v g

        made : Bool → Bool → Done
        made l b = carried (told_of l b m p (without v) g) g (moves.after m t)

        as_aside : carried (told_of (is_last_waker m (world.task (without v) g)) (is_told m (world.task (without v) g)) m p (without v) g) g
            (moves.after m (world.task (without v) g))
            ≡ made (is_last_waker m s) (is_told m s)
        as_aside =
            ap (λ x. carried (told_of (is_last_waker m x) (is_told m x) m p (without v) g) g (moves.after m x)) there
            ∙ (ap (λ l. made l (is_told m t)) is.last ∙ ap (λ b. made (is_last_waker m s) b) is.tells)

        moved : (u : World) → Kept u → world.task u g ≡ s
            → Does (done (put (without u) g (moves.after m t).state) (owed_ops (among g u.table) g (moves.after m t).owed))
            (done (put u g (moves.after m s).state) (owed_ops (among g u.table) g (moves.after m s).owed))
        moved u kept same = record {
          same =
              ap (λ w. done w (owed_ops (among g u.table) g (moves.after m t).owed)) (is.puts u kept same)
              ∙ ap (λ os. done (without (put u g (moves.after m s).state)) os) (is.owes (among g u.table));
          kept = is.keeps u kept same;
          fit = is.fit (among g u.table);
        }

        by : (l b : Bool) → Does (made l b) (carried (told_of l b m p v g) g (moves.after m s))
        by true true = moved (told_of true true m p v g) kept refl
        by true false = moved (told_of true false m p v g) kept refl
        by false true = moved (told_of false true m p v g) kept refl
        by false false = moved v kept refl

    -- of another task
    pub aside_other : (m : Move) (g : ℕ) (s : State) → (f == g) ≡ false
        → ((there : Bool) → fit_all (owed_ops there g (moves.after m s).owed) ≡ true) → IsAside m g s s
    aside_other m g s apart fit = record {
      last = refl;
      tells = refl;
      owes = λ there. refl;
      fit = fit;
      puts = λ u kept same. put_other u g (moves.after m s).state apart;
      keeps = λ u kept same. keeps_other u g (moves.after m s).state apart kept;
    }

    -- of this one
    pub record Hides (s : State) (n m : Moved) : Type 0 where
      pub state : n.state ≡ hide m.state
      pub owed : (there : Bool) → owed_ops there f n.owed ≡ owed_ops there f m.owed
      pub fits : (there : Bool) → fit_all (owed_ops there f m.owed) ≡ true
      pub owing : (k : ℕ) (table : List ℕ) (o : Option Awaiter) → Owes k table s o → Owes k table m.state o

    module _ (known : (w : World) → Kept w → f < length w.tasks) where
      pub aside_own : (m : Move) (s : State) → is_last_waker m (hide s) ≡ is_last_waker m s → is_told m (hide s) ≡ is_told m s
          → Hides s (moves.after m (hide s)) (moves.after m s) → IsAside m f s (hide s)
      aside_own m s last tells hides = record {
        last = last;
        tells = tells;
        owes = hides.owed;
        fit = hides.fits;
        puts = λ u kept same.
            ap (λ x. put (without u) f x) hides.state ∙ put_own u (moves.after m s).state (known u kept);
        keeps = λ u kept same.
            keeps_own u (moves.after m s).state (known u kept)
            (hides.owing (length u.tasks) u.table (awaiter_of u f)
            (subst (λ x. Owes (length u.tasks) u.table x (awaiter_of u f)) same kept));
      }

      over_or : (b c : Bool) → b ≡ true → (b || c) ≡ true
      over_or true c is = refl
      over_or false c is = absurd cc

      wakes_own : (s : State) → moves.is_over s ≡ true → Hides s (moves.wake_by_reference (hide s)) (moves.wake_by_reference s)
      wakes_own s over =
          subst (λ b. Hides s (moves.wake_by_reference_by b s.running (hide s)) (moves.wake_by_reference_by b s.running s))
          (sym (over_or (moves.is_over s) s.scheduled over))
          (record { state = refl; owed = λ there. refl; fits = λ there. refl; owing = λ k table o owes. owes })

      abbrev used : Moved → Moved
      used m = moves.moved m.state (record m.owed { next = Some move.Release })

      uses_own : (s : State) → moves.is_over s ≡ true → Hides s (moves.wake (hide s)) (moves.wake s)
      uses_own s over =
          subst (λ b. Hides s (used (moves.wake_by_reference_by b s.running (hide s))) (used (moves.wake_by_reference_by b s.running s)))
          (sym (over_or (moves.is_over s) s.scheduled over))
          (record { state = refl; owed = λ there. refl; fits = λ there. refl; owing = λ k table o owes. owes })

      cancels_own : (s : State) → moves.is_over s ≡ true → Hides s (moves.cancel (hide s)) (moves.cancel s)
      cancels_own s over =
          subst (λ b. Hides s (moves.cancel_by b (moves.is_going s) (hide s)) (moves.cancel_by b (moves.is_going s) s)) (sym over)
          (record { state = refl; owed = λ there. refl; fits = λ there. refl; owing = λ k table o owes. owes })

      pub wake_aside : (s : State) → moves.is_over s ≡ true → IsAside move.WakeByReference f s (hide s)
      wake_aside s over = aside_own move.WakeByReference s refl refl (wakes_own s over)

      pub use_aside : (s : State) → moves.is_over s ≡ true → IsAside move.Wake f s (hide s)
      use_aside s over = aside_own move.Wake s refl refl (uses_own s over)

      pub cancel_aside : (s : State) → moves.is_over s ≡ true → IsAside move.Cancel f s (hide s)
      cancel_aside s over = aside_own move.Cancel s refl refl (cancels_own s over)
