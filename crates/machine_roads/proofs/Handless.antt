-- What calls of wakers and of other handles do is the same whether a closed task has its handle or not.
use Rattle.std.proofs.Common.{◌≡◌, ℕ, ◌-◌, ◌<◌, ◌==◌, ◌&&◌, ◌||◌, not, Bool, true, false, List, [], length}
use Rattle.std.proofs.Common.{Some, refl, sym, ap, subst, ◌∙◌, get_or-set_same, get_or-set_other}
use Rattle.task_moves.specs.declared.moves.owed.Move.{Move}
use Rattle.task_moves.specs.declared.moves.owed.Move.TheVariants as move
use Rattle.task_moves.specs.declared.moves.owed.Moved.{Moved}
use Rattle.task_moves.specs.declared.moves.state.State.{State}
use Rattle.task_moves.specs.Moves as moves
use Rattle.executor_model.specs.declared.op.HandleOp.TheVariants as handle_op
use Rattle.executor_model.specs.declared.op.Op.{Op}
use Rattle.executor_model.specs.declared.op.Op.TheVariants as op
use Rattle.executor_model.specs.Acts.{is_last_waker, is_told}
use Rattle.executor_model.specs.Acts.{move_by, move_task, stands_alone, told_of}
use Rattle.executor_model.specs.Carried.{carried, owed_ops}
use Rattle.executor_model.specs.World.{World, Done, among, awaiter_of, blank, done, log, log_if, mark_of, put, put_awaiter, queue_of}
use Rattle.executor_model.specs.World as world
use Rattle.machine_roads.specs.InLoss.{IsShut}
use Rattle.machine_roads.specs.Losing.{without_handle}
use Rattle.machine_roads.proofs.Along.{DoesSo, all_fit}
use Rattle.machine_roads.proofs.Lists.{apart_of, length_set, same_of, set_apart, set_twice}
use Rattle.machine_roads.proofs.LoneRuns.{both_true}
use Rattle.machine_roads.proofs.Loose.{is_of_call}
use Rattle.machine_roads.proofs.Marks.{emptied_owes}

module _ (f : ℕ) where
  -- what calls of wakers and of other handles do
  abbrev pub is_beside : Op → Bool
  is_beside (op.Move move.Detach g) = not (f == g)
  is_beside (op.Handle (handle_op.LetGo g)) = false
  is_beside o = is_of_call o

  -- a task as it is without that handle
  abbrev pub hide : ℕ → State → State
  hide g s = record s { handle = not (f == g) && s.handle }

  abbrev pub Shut : World → Type 0
  Shut w = IsShut w f

  abbrev pub less : World → World
  less w = without_handle f w

  abbrev pub Does : Done → Done → Type 0
  Does there here = DoesSo less is_beside Shut there here

  abbrev pub fit_all : List Op → Bool
  fit_all os = all_fit less is_beside Shut os

  hidden_one : (g : ℕ) (s : State) → (f == g) ≡ true → record s { handle = false } ≡ hide g s
  hidden_one g s same = ap (λ b. record s { handle = not b && s.handle }) (sym same)

  hidden_other : (g : ℕ) (s : State) → (f == g) ≡ false → s ≡ hide g s
  hidden_other g s apart = ap (λ b. record s { handle = not b && s.handle }) (sym apart)

  pub task_less : (w : World) → f < length w.tasks → (g : ℕ) → world.task (less w) g ≡ hide g (world.task w g)
  task_less w known g = by (f == g) refl
    where
      h : State
      h = record (world.task w f) { handle = false }

      by : (b : Bool) → (f == g) ≡ b → world.task (less w) g ≡ hide g (world.task w g)
      by true same =
          subst (λ g. (f == g) ≡ true → world.task (less w) g ≡ hide g (world.task w g)) (same_of f g same)
          (λ same. get_or-set_same w.tasks f h blank known ∙ hidden_one f (world.task w f) same) same
      by false apart =
          get_or-set_other w.tasks f g h blank (λ same. apart_of f g apart (sym same)) ∙ hidden_other g (world.task w g) apart

  pub put_less : (w : World) → f < length w.tasks → (g : ℕ) (s : State) → put (less w) g (hide g s) ≡ less (put w g s)
  put_less w known g s = by (f == g) refl
    where
      h : State
      h = record (world.task w f) { handle = false }

      by : (b : Bool) → (f == g) ≡ b → put (less w) g (hide g s) ≡ less (put w g s)
      by true same =
          subst (λ g. (f == g) ≡ true → put (less w) g (hide g s) ≡ less (put w g s)) (same_of f g same)
          (λ same.
          ap (λ ts. record w { tasks = ts }) (set_twice w.tasks f h (hide f s))
          ∙ (ap (λ s. put w f s) (sym (hidden_one f s same))
          ∙ (ap (λ ts. record w { tasks = ts }) (sym (set_twice w.tasks f s (record s { handle = false })))
          ∙ ap (λ (x : State). put (put w f s) f (record x { handle = false })) (sym (get_or-set_same w.tasks f s blank known)))))
          same
      by false apart =
          ap (λ s. put (less w) g s) (sym (hidden_other g s apart))
          ∙ (ap (λ ts. record w { tasks = ts }) (set_apart w.tasks f g h s (apart_of f g apart))
          ∙ ap (λ (x : State). put (put w g s) f (record x { handle = false }))
          (sym (get_or-set_other w.tasks g f s blank (apart_of f g apart))))

  pub put_shut : (w : World) (g : ℕ) (s : State) → IsShut w f → ((world.task w g).closed ≡ true → s.closed ≡ true)
      → IsShut (put w g s) f
  put_shut w g s shut stays = by (f == g) refl
    where
      by : (b : Bool) → (f == g) ≡ b → IsShut (put w g s) f
      by true same =
          subst (λ g. ((world.task w g).closed ≡ true → s.closed ≡ true) → IsShut (put w g s) f) (same_of f g same)
          (λ stays. record {
            known = subst (λ n. f < n) (sym (length_set w.tasks f s)) shut.known;
            closed = ap (λ (s : State). s.closed) (get_or-set_same w.tasks f s blank shut.known) ∙ stays shut.closed;
          })
          stays
      by false apart =
          record {
            known = subst (λ n. f < n) (sym (length_set w.tasks g s)) shut.known;
            closed =
                ap (λ (s : State). s.closed) (get_or-set_other w.tasks g f s blank (apart_of f g apart)) ∙ shut.closed;
          }

  -- a move of a task by which it stays closed, and what it does to the task without the handle
  pub record Hides (g : ℕ) (s : State) (n m : Moved) : Type 0 where
    pub state : n.state ≡ hide g m.state
    pub owes : (there : Bool) → owed_ops there g n.owed ≡ owed_ops there g m.owed
    pub shut : s.closed ≡ true → m.state.closed ≡ true
    pub fit : (there : Bool) → fit_all (owed_ops there g m.owed) ≡ true

  pub record IsHidden (m : Move) (g : ℕ) (s : State) : Type 0 where
    pub last : is_last_waker m (hide g s) ≡ is_last_waker m s
    pub tells : is_told m (hide g s) ≡ is_told m s
    pub hides : Hides g s (moves.after m (hide g s)) (moves.after m s)

  pub moves_do : (m : Move) (p : ℕ) (v : World) (g : ℕ) → stands_alone m ≡ true → IsShut v f → IsHidden m g (world.task v g)
      → Does (move_task m p (less v) g) (move_task m p v g)
  moves_do m p v g alone shut is =
      subst (λ b. Does (move_by b m p (less v) g) (move_by b m p v g)) (sym alone)
      (subst (λ d. Does d (carried (told_of (is_last_waker m s) (is_told m s) m p v g) g (moves.after m s))) (sym as_hidden)
      (by (is_last_waker m s) (is_told m s)))
    where
      s : State
      s = world.task v g

      made : Bool → Bool → Done
      made l t = carried (told_of l t m p (less v) g) g (moves.after m (hide g s))

      as_hidden : carried (told_of (is_last_waker m (world.task (less v) g)) (is_told m (world.task (less v) g)) m p (less v) g) g
          (moves.after m (world.task (less v) g))
          ≡ made (is_last_waker m s) (is_told m s)
      as_hidden =
          ap (λ x. carried (told_of (is_last_waker m x) (is_told m x) m p (less v) g) g (moves.after m x)) (task_less v shut.known g)
          ∙ (ap (λ l. made l (is_told m (hide g s))) is.last ∙ ap (λ t. made (is_last_waker m s) t) is.tells)

      moved : (u : World) → IsShut u f → world.task u g ≡ s
          → Does (done (put (less u) g (moves.after m (hide g s)).state) (owed_ops (among g u.table) g (moves.after m (hide g s)).owed))
          (done (put u g (moves.after m s).state) (owed_ops (among g u.table) g (moves.after m s).owed))
      moved u shut same = record {
        same =
            ap (λ x. done (put (less u) g x) (owed_ops (among g u.table) g (moves.after m (hide g s)).owed)) is.hides.state
            ∙ (ap (λ w. done w (owed_ops (among g u.table) g (moves.after m (hide g s)).owed))
            (put_less u shut.known g (moves.after m s).state)
            ∙ ap (λ os. done (less (put u g (moves.after m s).state)) os) (is.hides.owes (among g u.table)));
        kept = put_shut u g (moves.after m s).state shut (λ c. is.hides.shut (ap (λ (s : State). s.closed) (sym same) ∙ c));
        fit = is.hides.fit (among g u.table);
      }

      by : (l t : Bool) → Does (made l t) (carried (told_of l t m p v g) g (moves.after m s))
      by true true = moved (told_of true true m p v g) (record { known = shut.known; closed = shut.closed }) refl
      by true false = moved (told_of true false m p v g) (record { known = shut.known; closed = shut.closed }) refl
      by false true = moved (told_of false true m p v g) (record { known = shut.known; closed = shut.closed }) refl
      by false false = moved v shut refl

  pub wakes_hidden_by : (g : ℕ) (s : State) (over running : Bool)
      → Hides g s (moves.wake_by_reference_by over running (hide g s)) (moves.wake_by_reference_by over running s)
  wakes_hidden_by g s true running = record { state = refl; owes = λ there. refl; shut = λ c. c; fit = λ there. refl }
  wakes_hidden_by g s false true = record { state = refl; owes = λ there. refl; shut = λ c. c; fit = λ there. refl }
  wakes_hidden_by g s false false = record { state = refl; owes = λ there. refl; shut = λ c. c; fit = λ there. refl }

  pub uses_hidden_by : (g : ℕ) (s : State) (over running : Bool)
      → Hides g s (moves.moved (moves.wake_by_reference_by over running (hide g s)).state
      (record (moves.wake_by_reference_by over running (hide g s)).owed { next = Some move.Release }))
      (moves.moved (moves.wake_by_reference_by over running s).state
      (record (moves.wake_by_reference_by over running s).owed { next = Some move.Release }))
  uses_hidden_by g s true running = record { state = refl; owes = λ there. refl; shut = λ c. c; fit = λ there. refl }
  uses_hidden_by g s false true = record { state = refl; owes = λ there. refl; shut = λ c. c; fit = λ there. refl }
  uses_hidden_by g s false false = record { state = refl; owes = λ there. refl; shut = λ c. c; fit = λ there. refl }

  told_fit : (a there : Bool) (g : ℕ)
      → fit_all (owed_ops there g (record moves.nothing { awaiter = moves.notify_if a })) ≡ true
  told_fit true there g = refl
  told_fit false there g = refl

  queued_told_fit : (a there : Bool) (g : ℕ)
      → fit_all (owed_ops there g (record moves.nothing { schedule = moves.schedule false; awaiter = moves.notify_if a })) ≡ true
  queued_told_fit true there g = refl
  queued_told_fit false there g = refl

  pub cancels_hidden_by : (g : ℕ) (s : State) (over going : Bool)
      → Hides g s (moves.cancel_by over going (hide g s)) (moves.cancel_by over going s)
  cancels_hidden_by g s true going = record { state = refl; owes = λ there. refl; shut = λ c. c; fit = λ there. refl }
  cancels_hidden_by g s false true =
      record { state = refl; owes = λ there. refl; shut = λ c. refl; fit = λ there. told_fit s.awaiter there g }
  cancels_hidden_by g s false false =
      record { state = refl; owes = λ there. refl; shut = λ c. refl; fit = λ there. queued_told_fit s.awaiter there g }

  -- a waker that goes: of another task, or of the closed one
  pub goes_by_one : (s : State) (last : Bool) → (last ≡ true → s.references ≡ 1)
      → (moves.release_by last true s).state ≡ record s { references = s.references - 1 }
  goes_by_one s true one = ap (λ n. record s { references = n }) (less_one s.references (one refl))
    where
      less_one : (n : ℕ) → n ≡ 1 → 0 ≡ n - 1
      less_one n is = ap (λ n. n - 1) (sym is)
  goes_by_one s false one = refl

  pub goes_quietly : (g : ℕ) (s : State) (last there : Bool) → owed_ops there g (moves.release_by last true s).owed ≡ []
  goes_quietly g s true there = refl
  goes_quietly g s false there = refl

  goes_shut : (s : State) (last : Bool) → s.closed ≡ true → (moves.release_by last true s).state.closed ≡ true
  goes_shut s true is = is
  goes_shut s false is = is

  pub last_one : (s : State) → moves.is_last s ≡ true → s.references ≡ 1
  last_one s is = same_of s.references 1 (both_true (s.references == 1) (not s.handle) is).0

  releases_over : (g : ℕ) (s : State) → Hides g s (moves.release_by (moves.is_last (hide g s)) true (hide g s))
      (moves.release_by (moves.is_last s) true s)
  releases_over g s = record {
    state =
        goes_by_one (hide g s) (moves.is_last (hide g s)) (last_one (hide g s))
        ∙ ap (λ s. hide g s) (sym (goes_by_one s (moves.is_last s) (last_one s)));
    owes = λ there. goes_quietly g (hide g s) (moves.is_last (hide g s)) there ∙ sym (goes_quietly g s (moves.is_last s) there);
    shut = goes_shut s (moves.is_last s);
    fit = λ there. ap fit_all (goes_quietly g s (moves.is_last s) there);
  }

  releases_other_by : (g : ℕ) (s : State) (last over : Bool) → hide g s ≡ s
      → Hides g s (moves.release_by last over s) (moves.release_by last over s)
  releases_other_by g s false over same =
      record {
        state = ap (λ (x : State). record s { references = s.references - 1; handle = x.handle }) (sym same);
        owes = λ there. refl;
        shut = λ c. c;
        fit = λ there. refl;
      }
  releases_other_by g s true true same =
      record {
        state = ap (λ (x : State). record s { references = 0; handle = x.handle }) (sym same);
        owes = λ there. refl;
        shut = λ c. c;
        fit = λ there. refl;
      }
  releases_other_by g s true false same =
      record {
        state = ap (λ (x : State). record s { scheduled = true; closed = true; references = 1; handle = x.handle }) (sym same);
        owes = λ there. refl;
        shut = λ c. refl;
        fit = λ there. refl;
      }

  pub off_and : (b c : Bool) → c ≡ true → (b && not c) ≡ false
  off_and true true is = refl
  off_and false true is = refl
  off_and b false is = absurd cc

  pub or_so : (a b : Bool) → b ≡ true → (a || b) ≡ true
  or_so true b is = refl
  or_so false b is = is

  pub releases_hidden : (g : ℕ) (s : State) → ((f == g) ≡ true → s.closed ≡ true) → IsHidden move.Release g s
  releases_hidden g s closed = by (f == g) refl
    where
      by : (b : Bool) → (f == g) ≡ b → IsHidden move.Release g s
      by true same =
          let over : moves.is_over s ≡ true = or_so s.completed s.closed (closed same) in
          record {
            last = off_and (moves.is_last (hide g s)) (moves.is_over s) over ∙ sym (off_and (moves.is_last s) (moves.is_over s) over);
            tells = refl;
            hides =
                subst (λ o. Hides g s (moves.release_by (moves.is_last (hide g s)) o (hide g s)) (moves.release_by (moves.is_last s) o s))
                (sym over) (releases_over g s);
          }
      by false apart =
          let same : s ≡ hide g s = hidden_other g s apart in
          record {
            last = ap (λ x. is_last_waker move.Release x) (sym same);
            tells = refl;
            hides =
                subst (λ x. Hides g s (moves.release x) (moves.release s)) same
                (releases_other_by g s (moves.is_last s) (moves.is_over s) (sym same));
          }

  detaches_other_by : (g : ℕ) (s : State) (x y : Bool) → (f == g) ≡ false
      → Hides g s (moves.detach_by x y s) (moves.detach_by x y s)
  detaches_other_by g s true y apart = record {
    state = hidden_other g (record s { closed = true }) apart;
    owes = λ there. refl;
    shut = λ c. refl;
    fit = λ there. ap (λ b. not b && true) apart;
  }
  detaches_other_by g s false true apart = record {
    state = hidden_other g (record s { handle = false; scheduled = true; closed = true; references = 1 }) apart;
    owes = λ there. refl;
    shut = λ c. refl;
    fit = λ there. refl;
  }
  detaches_other_by g s false false apart = record {
    state = hidden_other g (record s { handle = false }) apart;
    owes = λ there. refl;
    shut = λ c. c;
    fit = λ there. ap fit_all (emptied_owes there g (s.references == 0));
  }

  pub detaches_hidden : (g : ℕ) (s : State) → (f == g) ≡ false → IsHidden move.Detach g s
  detaches_hidden g s apart =
      let same : s ≡ hide g s = hidden_other g s apart in
      record {
        last = ap (λ x. is_last_waker move.Detach x) (sym same);
        tells = ap (λ x. is_told move.Detach x) (sym same);
        hides =
            subst (λ x. Hides g s (moves.detach x) (moves.detach s)) same
            (detaches_other_by g s (s.completed && not s.closed) ((s.references == 0) && not s.closed) apart);
      }
