-- In a machine in which a party has still to give up the run's reference of a task, what the next thing to do of a call speaks of is there
-- without that reference, too; so it is at each moment of a call that begins above that.
use Rattle.std.proofs.Common.{◌≡◌, ℕ, ◌<◌, ◌≤◌, ◌==◌, ◌++◌, ◌&&◌, ◌||◌, not, Bool, true, false, List, [], ◌∷◌, length, reverse}
use Rattle.std.proofs.Common.{Option, None, if◌then◌else◌, refl, sym, ap, subst, ◌∙◌, arith}
use Rattle.task_moves.specs.declared.moves.owed.Move.TheVariants as move
use Rattle.task_moves.specs.declared.moves.state.State.{State}
use Rattle.task_moves.specs.LocalTask.{token}
use Rattle.task_moves.specs.Moves as moves
use Rattle.executor_model.specs.declared.op.HandleOp.TheVariants as handle_op
use Rattle.executor_model.specs.declared.op.Op.{Op}
use Rattle.executor_model.specs.declared.op.Op.TheVariants as op
use Rattle.executor_model.specs.declared.op.QueueOp.TheVariants as queue_op
use Rattle.executor_model.specs.declared.op.SleeperOp.TheVariants as sleeper_op
use Rattle.executor_model.specs.declared.op.UserOp.TheVariants as user_op
use Rattle.executor_model.specs.declared.op.Waker.{Waker}
use Rattle.executor_model.specs.declared.op.Waker.TheVariants.{Task, Outside}
use Rattle.executor_model.specs.declared.op.WakerOp.TheVariants as waker_op
use Rattle.executor_model.specs.declared.step.Hint.{Hint}
use Rattle.executor_model.specs.Doing.{act}
use Rattle.executor_model.specs.Good.{IsKnownWaker}
use Rattle.executor_model.specs.Rows.{giving_of, releases_of}
use Rattle.executor_model.specs.Sound.{Sound, pend}
use Rattle.executor_model.specs.Steps.{Machine, stack, waits}
use Rattle.executor_model.specs.Weights.{weigh, weigh_all}
use Rattle.executor_model.specs.World.{World, done, task}
use Rattle.executor_model.proofs.Steps.Lists.{weigh-append}
use Rattle.executor_model.proofs.Steps.Reached.{Reached, good-here}
use Rattle.machine_roads.specs.Alone.{CanCopy, answered_by, is_outside, is_resting, one_by, Has, HasAllBy, HasAllOf}
use Rattle.machine_roads.specs.Dropped.{without_run}
use Rattle.machine_roads.specs.Untaken.{HasBeside}
use Rattle.machine_roads.proofs.Along.{goes_append, goes_by}
use Rattle.machine_roads.proofs.Beside.{of_two}
use Rattle.machine_roads.proofs.Having.{has_here, same_self}
use Rattle.machine_roads.proofs.Inmost.{whole}
use Rattle.machine_roads.proofs.Lists.{length_set, same_of}
use Rattle.machine_roads.proofs.LoneRuns.{IsBefore, WalksBy, both_true, gone_before}
use Rattle.machine_roads.proofs.Hiding.{task_other, task_own}
use Rattle.machine_roads.proofs.Owing.{Kept, act_does, hide, is_aside, one_less}
use Rattle.machine_roads.proofs.Tying.{top_of}

module _ (f : ℕ) (awaiter : Option Waker) where
  abbrev pub Asked : World → List Op → Type 0
  Asked w [] = Unit {0}
  Asked w (o ∷ os) = is_aside f awaiter o ≡ true → 1 ≤ weigh (giving_of f) os → Has (without_run f w) o

  module _ (s : Machine) (p : ℕ) (reached : Reached s) (there : p < length s.parties) (open_still : s.world.gone ≡ false)
      (o : Op) (os : List Op) (is : reverse (stack s p) ≡ o ∷ os) (owes : 1 ≤ weigh (giving_of f) os) where
    abbrev t : State
    t = task s.world f

    sound : Sound s.world f (pend f s.parties)
    sound = (good-here s reached).sound f

    gives_up : 1 ≤ weigh_all (giving_of f) s.parties
    gives_up = omega (arith, owes, whole s p reached there (o ∷ os) is (giving_of f))

    still : moves.is_going t ≡ false
    still = let both = sound.given gives_up in ap (λ b. b || t.running) both.0 ∙ both.1

    none : token (hide t) ≡ 0
    none = ap {B = ℕ} (λ b. if b then 1 else 0) still

    beside : token (hide t) ≤ (hide t).references
    beside = omega (arith, none)

    released : o ≡ op.Move move.Release f → token (hide t) < (hide t).references
    released at =
        let here : reverse (stack s p) ≡ op.Move move.Release f ∷ os = is ∙ ap (λ o. o ∷ os) at in
        omega (
          arith,
          none,
          sound.counted,
          gives_up,
          whole s p reached there (op.Move move.Release f ∷ os) here (releases_of f),
          same_self f,
        )

    known : (g : ℕ) → g < length s.world.tasks → g < length (without_run f s.world).tasks
    known g at = subst (λ n. g < n) (sym (length_set s.world.tasks f (hide t))) at

    placed : (g : ℕ) → g < length s.world.awaiters → g < length (without_run f s.world).awaiters
    placed g at = subst (λ n. g < n) (sym (length_set s.world.awaiters f None)) at

    waker : (a : Waker) → IsKnownWaker s.world a → IsKnownWaker (without_run f s.world) a
    waker (Task g) at = known g at
    waker (Outside x) at = tt

    of_task : (P : State → Type 0) (g : ℕ) → g < length s.world.tasks → P (task s.world g) → ((f == g) ≡ true → P (hide t))
        → P (task (without_run f s.world) g)
    of_task P g at other own = by (f == g) refl
      where
        by : (b : Bool) → (f == g) ≡ b → P (task (without_run f s.world) g)
        by true same =
            subst (λ g. g < length s.world.tasks → P (task (without_run f s.world) g)) (same_of f g same)
            (λ at. subst P (sym (task_own f one_less s.world at)) (own same)) at
        by false apart = subst P (sym (task_other f one_less s.world g apart)) other

    copies : (a : Waker) → CanCopy s.world a → CanCopy (without_run f s.world) a
    copies (Task g) can = (known g can.0, of_task (λ t. token t ≤ t.references) g can.0 can.1 (λ same. beside))
    copies (Outside x) can = tt

    by_op : (z : Op) → o ≡ z → is_aside f awaiter z ≡ true → Has s.world z → Has (without_run f s.world) z
    by_op (op.Move move.WakeByReference g) at fit has = (known g has.0, has.1)
    by_op (op.Move move.Wake g) at fit has = (known g has.0, has.1)
    by_op (op.Move move.Release g) at fit has = (
      known g has.0,
      of_task (λ t. token t < t.references) g has.0 has.1
          (λ same. released (at ∙ ap (λ g. op.Move move.Release g) (sym (same_of f g same)))),
    )
    by_op (op.Move move.Cancel g) at fit has = (known g has.0, has.1)
    by_op (op.Move move.Detach g) at fit has =
        (known g has.0, of_task (λ t. token t ≤ t.references) g has.0 has.1 (λ same. beside))
    by_op (op.Queue (queue_op.Append g)) at fit has = (known g has.0, has.1)
    by_op (op.Sleeper sleeper_op.ExchangeFlag) at fit has = has
    by_op (op.Sleeper sleeper_op.HandOut) at fit has = has
    by_op (op.Sleeper (sleeper_op.CallSleeper x)) at fit has = waker x.waker has
    by_op (op.Handle (handle_op.Look g a)) at fit has =
        (known g has.0, of_task (λ t. t.completed ≡ true → moves.is_going t ≡ false) g has.0 has.1 (λ same completed. still))
    by_op (op.Handle (handle_op.CopyAwaiter g a)) at fit has = copies a has
    by_op (op.Handle (handle_op.Register g a k)) at fit has = known g has
    by_op (op.Handle (handle_op.EndRegister g a k)) at fit has = (known g has.0, placed g has.1)
    by_op (op.Handle (handle_op.LookAgain g)) at fit has = known g has
    by_op (op.Handle (handle_op.Notify g mine)) at fit has = known g has
    by_op (op.Handle (handle_op.EndNotify g mine)) at fit has = (known g has.0, placed g has.1)
    by_op (op.Waker (waker_op.CopyWaker g held)) at fit has =
        (known g has.0, of_task (λ t. token t ≤ t.references) g has.0 has.1 (λ same. beside))
    by_op (op.Waker (waker_op.CallAwaiter g a k)) at fit has = waker a has
    by_op (op.User z) at fit has = tt
    by_op (op.End r held) at fit has = tt
    by_op z at fit has = absurd cc

    beside_here : is_aside f awaiter o ≡ true → Has (without_run f s.world) o
    beside_here fit =
        by_op o refl fit (has_here s p reached there o open_still (top_of (stack s p) o os is).0)

  asked_here : (s : Machine) (p : ℕ) → Reached s → p < length s.parties → s.world.gone ≡ false → (os : List Op)
      → reverse (stack s p) ≡ os → Asked s.world os
  asked_here s p reached there open_still [] is = tt
  asked_here s p reached there open_still (o ∷ os) is = λ fit owes. beside_here s p reached there open_still o os is owes fit

  pub walks : WalksBy Asked IsBefore
  walks = record {
    easy = record { ends = λ w r held os fit owes. tt; outside = λ w x os fit owes. tt };
    gives = asked_here;
    back = gone_before;
  }

  -- no thing that a call does gives it up
  gives_none : (o : Op) → is_aside f awaiter o ≡ true → giving_of f o ≡ 0
  gives_none (op.Move move.WakeByReference g) fit = refl
  gives_none (op.Move move.Wake g) fit = refl
  gives_none (op.Move move.Release g) fit = refl
  gives_none (op.Move move.Cancel g) fit = refl
  gives_none (op.Move move.Detach g) fit = refl
  gives_none (op.Queue (queue_op.Append g)) fit = refl
  gives_none (op.Sleeper sleeper_op.ExchangeFlag) fit = refl
  gives_none (op.Sleeper sleeper_op.HandOut) fit = refl
  gives_none (op.Sleeper (sleeper_op.CallSleeper x)) fit = refl
  gives_none (op.Handle (handle_op.Look g a)) fit = refl
  gives_none (op.Handle (handle_op.CopyAwaiter g a)) fit = refl
  gives_none (op.Handle (handle_op.Register g a k)) fit = refl
  gives_none (op.Handle (handle_op.EndRegister g a k)) fit = refl
  gives_none (op.Handle (handle_op.LookAgain g)) fit = refl
  gives_none (op.Handle (handle_op.Notify g mine)) fit = refl
  gives_none (op.Handle (handle_op.EndNotify g mine)) fit = refl
  gives_none (op.Waker (waker_op.CopyWaker g held)) fit = refl
  gives_none (op.Waker (waker_op.CallAwaiter g a k)) fit = refl
  gives_none (op.User (user_op.CallOutside x)) fit = refl
  gives_none (op.User (user_op.BeginDropOutput g)) fit = refl
  gives_none (op.User (user_op.DropOutput g)) fit = refl
  gives_none (op.End r held) fit = refl
  gives_none o fit = absurd cc

  abbrev Here : World → Type 0
  Here w = Kept f awaiter w

  abbrev goes_on : List Op → Bool
  goes_on os = goes_by (without_run f) (is_aside f awaiter) Here os

  abbrev owed : List Op → ℕ
  owed os = weigh (giving_of f) os

  user_has : (o : Op) (w : World) → waits o ≡ true → Has (without_run f w) o
  user_has (op.User o) w is = tt
  user_has o w is = absurd cc

  -- at each moment
  module _ (p : ℕ) (hs : List Hint) (rest : (w : World) (os : List Op) → Here w → goes_on os ≡ true → 1 ≤ owed os
      → HasAllBy Asked p hs (done w os) → HasAllOf (HasBeside f) p hs (done w os)) where
    abbrev Later : Bool → Hint → Op → World → List Op → Type 0
    Later b h o w os =
        HasAllBy Asked p hs (one_by b p h o w os) → Has (without_run f w) o × HasAllOf (HasBeside f) p hs (one_by b p h o w os)

    one_beside : (b c : Bool) (h : Hint) (w : World) (o : Op) (os : List Op) → waits o ≡ b → is_outside o ≡ c → Here w
        → goes_on (o ∷ os) ≡ true → 1 ≤ owed (o ∷ os) → Asked w (o ∷ os) → Later b h o w os
    one_beside false c h w o os free out kept go owes asked has =
        let both = both_true (is_aside f awaiter o) (goes_on os)
        (of_two (is_resting (o ∷ os)) (is_aside f awaiter o && goes_on os) (ap (λ b. b && not (is_outside o)) free) go) in
        let still_owes : 1 ≤ owed os = omega (arith, owes, gives_none o both.0) in
        let here = asked both.0 still_owes in
        let d = act p h o w in
        let e = (act_does f awaiter p h o w both.0 free kept here).1 in (
          here,
          rest d.world (d.next ++ os) e.kept (goes_append (without_run f) (is_aside f awaiter) Here d.next os e.fit both.1)
              (omega (arith, still_owes, weigh-append (giving_of f) d.next os)) has,
        )
    one_beside true true h w o os held out kept go owes asked has =
        let both = both_true (is_aside f awaiter o) (goes_on os)
        (of_two (is_resting (o ∷ os)) (is_aside f awaiter o && goes_on os)
        (ap (λ b. b && not (is_outside o)) held ∙ ap not out) go) in (
          user_has o w held,
          subst (λ b. HasAllOf (HasBeside f) p hs (done w (answered_by b o os))) (sym out)
              (rest w os kept both.1 (omega (arith, owes, gives_none o both.0))
              (subst (λ b. HasAllBy Asked p hs (done w (answered_by b o os))) out has)),
        )
    one_beside true false h w o os held out kept go owes asked has = (
      user_has o w held,
      subst (λ b. HasAllOf (HasBeside f) p hs (done w (answered_by b o os))) (sym out)
          (rest w (o ∷ os) kept go owes (subst (λ b. HasAllBy Asked p hs (done w (answered_by b o os))) out has)),
    )

  pub beside_all : (p : ℕ) (hints : List Hint) (w : World) (os : List Op) → Here w → goes_on os ≡ true → 1 ≤ owed os
      → HasAllBy Asked p hints (done w os) → HasAllOf (HasBeside f) p hints (done w os)
  beside_all p [] w os kept go owes has = tt
  beside_all p (h ∷ hs) w [] kept go owes has = absurd (omega (arith, owes))
  beside_all p (h ∷ hs) w (o ∷ os) kept go owes has =
      let r =
      one_beside p hs (λ w os kept go owes has. beside_all p hs w os kept go owes has) (waits o) (is_outside o) h w o os refl refl kept go
      owes has.0 has.1 in
      (r.0, r.1)
