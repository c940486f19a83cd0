-- Where futures are at home, by the names of their tasks, as tasks are changed and go.
use Rattle.std.proofs.Common.{◌≡◌, ◌≢◌, ℕ, ◌==◌, ◌&&◌, not, Bool, true, false, Option, Some, None, is_some, refl, sym, ap, ◌∙◌, arith}
use Rattle.std.proofs.lemmas.Bool.Decides.{nat_tests}
use Rattle.slab.specs.Slab.{get}
use Rattle.executor_parts.specs.declared.places.EntryPlace.{EntryPlace}
use Rattle.task_moves.specs.AbstractTask as abstract
use Rattle.task_moves.specs.LocalTask as local
use Rattle.task_moves.specs.LocalTask.{is_gone, is_unreachable}
use Rattle.task_moves.specs.declared.local_task.answers.FuturePlace.{FuturePlace}
use Rattle.task_moves.specs.declared.local_task.answers.FuturePlace.TheVariants.{Home, Lent, Dropping, Gone}
use Rattle.task_moves.specs.declared.local_task.answers.Back.TheVariants.{Ready}
use Rattle.solo.specs.declared.names.Task.{Task}
use Rattle.solo.specs.declared.names.SoloWaker.{SoloWaker}
use Rattle.solo.specs.declared.cells.Cell.{Cell}
use Rattle.solo.specs.declared.cells.Cells.{Cells}
use Rattle.solo.specs.Cells.{Kept, choose, asked_by, asked, tidied}
use Rattle.solo.specs.Cells as cells
use Rattle.solo_laws.specs.Queueing.{is_task}
use Rattle.solo_laws.specs.Tabled.{home_by, home_of}
use Rattle.solo_laws.proofs.Named.{asked_changed}
use Rattle.solo_laws.proofs.Following.Due.{both_true}
use Rattle.solo_laws.proofs.Following.Cells.{of_found, found, asks_found, same_number}
use Rattle.solo_laws.proofs.Following.Sweeping.{cleared, updates}

pub gone_home : (place : FuturePlace EntryPlace) → is_gone place ≡ true → home_by place ≡ None
gone_home (Home a) is = absurd cc
gone_home Lent is = refl
gone_home Dropping is = refl
gone_home Gone is = refl

pub lent_home : (place : FuturePlace EntryPlace) → local.is_lent place ≡ true → home_by place ≡ None
lent_home (Home a) is = absurd cc
lent_home Lent is = refl
lent_home Dropping is = refl
lent_home Gone is = refl

pub dropping_home : (place : FuturePlace EntryPlace) → local.is_dropping place ≡ true → home_by place ≡ None
dropping_home (Home a) is = absurd cc
dropping_home Lent is = refl
dropping_home Dropping is = refl
dropping_home Gone is = refl

one_name : (t u : Task) → is_task t u ≡ true → u ≡ t
one_name t u is =
    let both = both_true (u.key == t.key) (u.number == t.number) is in
    let key : u.key ≡ t.key = same_number u.key t.key both.0 in
    let number : u.number ≡ t.number = same_number u.number t.number both.1 in
    ap (λ (k : ℕ). record { key = k; number = u.number }) key ∙ ap (λ (n : ℕ). record { key = t.key; number = n }) number

module _ {T X : Type 0} where
  abbrev pub home_in : Kept T X → Option EntryPlace
  home_in v = home_by v.future

  -- a change that leaves it where it is
  abbrev pub Stays : (Kept T X → Kept T X) → Type 0
  Stays g = (v : Kept T X) → home_in (g v) ≡ home_in v

  pub home_changed : (g : Kept T X → Kept T X) → Stays g → (t u : Task) (s : Cells T X)
      → home_of u (cells.changed g t s) ≡ home_of u s
  home_changed g stays t u s =
      asked_changed home_in None g u t s
      ∙ (ap (λ o. choose (is_task u t) o (home_of u s)) same ∙ one (is_task u t))
    where
      of_same : (o : Option (Kept T X)) → of_found (λ v. home_in (g v)) None o ≡ of_found home_in None o
      of_same None = refl
      of_same (Some v) = stays v

      same : asked (λ v. home_in (g v)) None u s ≡ home_of u s
      same = asks_found (λ v. home_in (g v)) None u s ∙ (of_same (found u s) ∙ sym (asks_found home_in None u s))

      one : (b : Bool) → choose b (home_of u s) (home_of u s) ≡ home_of u s
      one true = refl
      one false = refl

  -- or one that leaves the one of this name where it is
  pub home_changed_at : (g : Kept T X → Kept T X) (t : Task) (s : Cells T X) → home_of t (cells.changed g t s) ≡ home_of t s → (u : Task)
      → home_of u (cells.changed g t s) ≡ home_of u s
  home_changed_at g t s same u = asked_changed home_in None g u t s ∙ by (is_task u t) refl
    where
      by : (b : Bool) → is_task u t ≡ b → choose b (asked (λ v. home_in (g v)) None u s) (home_of u s) ≡ home_of u s
      by false is = refl
      by true is =
          sym (ap (λ b. choose b (asked (λ v. home_in (g v)) None u s) (home_of u s)) is)
          ∙ (sym (asked_changed home_in None g u t s)
          ∙ (ap (λ n. home_of n (cells.changed g t s)) (sym (one_name u t is))
          ∙ (same ∙ ap (λ n. home_of n s) (one_name u t is))))

  choose_home : (b : Bool) (v w : Kept T X) → home_in w ≡ home_in v → home_in (choose b w v) ≡ home_in v
  choose_home true v w is = is
  choose_home false v w is = refl

  pub released_stays : Stays cells.released
  released_stays v = choose_home (cells.has_waker v) v (local.with_task v (abstract.release v.task)) refl

  pub held_stays : Stays cells.held
  held_stays v = choose_home (cells.may_hold v) v (local.with_task v (abstract.copy v.task)) refl

  pub polled_stays : (waker : SoloWaker X) → Stays (cells.polled waker)
  polled_stays waker v = choose_home v.task.handle v (local.with_task v (abstract.poll waker v.task).task) refl

  pub ended_stays : (output : T) → Stays (cells.ended_ready output)
  ended_stays output v = by (cells.is_lent v) refl
    where
      by : (b : Bool) → cells.is_lent v ≡ b
          → home_in (choose b (cells.settled (local.settle (Ready output) v.task) v) v) ≡ home_in v
      by true is = sym (lent_home v.future is)
      by false is = refl

  pub finished_stays : Stays cells.finished
  finished_stays v = by (cells.is_dropping v) refl
    where
      by : (b : Bool) → cells.is_dropping v ≡ b
          → home_in (choose b (record v { task = (local.finish v.task).task; future = Gone }) v) ≡ home_in v
      by true is = sym (dropping_home v.future is)
      by false is = refl

  module _ (t u : Task) (s : Cells T X) where
    spent_home : (mine his : Bool) (v : Kept T X) → choose his (cells.is_spent v) false ≡ true → choose mine (home_in v) None ≡ None
    spent_home true true v is =
        gone_home v.future
        (both_true (is_gone v.future) (is_unreachable v.task && (not (is_some v.task.output) && not (is_some v.task.awaiter))) is).0
    spent_home false his v is = refl
    spent_home true false v is = absurd cc

    none_at : (cell : Option (Cell T X)) → asked_by cells.is_spent false t cell ≡ true → asked_by home_in None u cell ≡ None
    none_at None is = absurd cc
    none_at (Some c) is = spent_home (c.number == u.number) (c.number == t.number) c.task is

    -- one that goes was at home nowhere
    pub home_tidied : home_of u (tidied t s) ≡ home_of u s
    home_tidied = by (asked cells.is_spent false t s) refl
      where
        at_key : asked cells.is_spent false t s ≡ true → (b : Bool) → (t.key == u.key) ≡ b
            → home_of u (cleared t s) ≡ home_of u s
        at_key is true same =
            let one : t.key ≡ u.key = same_number t.key u.key same in
            ap (asked_by home_in None u) (sym (ap (get (cleared t s).slab) one) ∙ (updates t cells.is_spent s is).changed)
            ∙ sym (ap (λ k. asked_by home_in None u (get s.slab k)) (sym one) ∙ none_at (get s.slab t.key) is)
        at_key is false same =
            let two : u.key ≢ t.key = λ one. absurd (grind (arith, nat_tests)) in
            ap (asked_by home_in None u) ((updates t cells.is_spent s is).others u.key two)

        by : (b : Bool) → asked cells.is_spent false t s ≡ b → home_of u (choose b (cleared t s) s) ≡ home_of u s
        by true is = at_key is (t.key == u.key) refl
        by false is = refl
