-- Wherever a party rests a world stands where a plain state does that is near both: futures, handles and the kind are the same.
use Rattle.std.proofs.Common.{◌≡◌, ℕ, zero, suc, ◌-◌, ◌++◌, is_some, ◌==◌, not, Bool, true, false, List, [], ◌∷◌, length, Option, Some}
use Rattle.std.proofs.Common.{None, slice_get, slice_set}
use Rattle.std.proofs.Common.{get_or, set, get_or-set_other, refl, sym, ap, subst, ◌∙◌}
use Rattle.task_moves.specs.AbstractTask as abstract
use Rattle.task_moves.specs.AbstractTask.{AbstractTask}
use Rattle.task_moves.specs.LocalTask.{references_of}
use Rattle.task_moves.specs.declared.moves.state.State.{State}
use Rattle.executor_model.specs.declared.op.Op.{Op}
use Rattle.executor_model.specs.declared.op.Op.TheVariants as op
use Rattle.executor_model.specs.declared.op.UserOp.TheVariants as user_op
use Rattle.executor_model.specs.declared.op.HandleOp.TheVariants as handle_op
use Rattle.executor_model.specs.declared.op.TableOp.TheVariants as table_op
use Rattle.executor_model.specs.declared.op.Waker.{Waker}
use Rattle.executor_model.specs.World.{Done, World, among, blank, put, task as task_of}
use Rattle.plain_scheduler.specs.State.{Future, Plain, Running}
use Rattle.plain_scheduler.specs.Lists.{on}
use Rattle.plain_scheduler.specs.Moves.{runs, task}
use Rattle.machine_roads.specs.Dropped.{answered, loses, rest_of, without_run}
use Rattle.machine_roads.specs.Forgotten.{unawaited, without_awaiter}
use Rattle.machine_roads.specs.InLoss.{loss_ops, without_handles}
use Rattle.machine_roads.specs.Road.{Follows}
use Rattle.machine_roads.specs.View.{Output}
use Rattle.machine_roads.specs.Within.{StandsAlike, alike, dropping, forgetting, forgotten, going, losing, untaken}
use Rattle.two_roads.proofs.Meeting.Counted.{IsLess, awaiter_less, handles_less, less_both, less_self, run_less}
use Rattle.machine_roads.proofs.InLoss.{many_through}
use Rattle.machine_roads.proofs.Lists.{apart_of, length_set, same_of}
use Rattle.machine_roads.proofs.Puts.{put_asks, put_at, put_by, put_lying, with_task}

pub record Near (e : Done) (q : Plain Output Waker) : Type 0 where
  pub world : World
  pub plain : Plain Output Waker
  pub follows : Follows world plain
  -- but for the handles of these, whose outputs are being dropped
  pub gone : List ℕ
  pub below : List Op
  pub at : e.next ≡ loss_ops gone below
  pub many : length world.tasks ≡ length e.world.tasks
  pub few : length plain.futures ≡ length q.futures
  pub lying : plain.lying ≡ q.lying
  pub handles : (g : ℕ) → not (among g gone) ≡ true → (task_of world g).handle ≡ (task_of e.world g).handle
  pub asks : (g : ℕ) → (task g plain).handle ≡ (task g q).handle
  pub counts : (g : ℕ) → references_of (task g plain) ≡ references_of (task g q)
  pub polls : (g : ℕ) → abstract.polled (task g plain) ≡ abstract.polled (task g q)
  pub less : (g : ℕ) → IsLess (task_of world g) (task_of e.world g)
  pub static : (world.is_static ≡ e.world.is_static) × (plain.is_static ≡ q.is_static)

-- a task of which something else is another
handle_put : (w : World) (f g : ℕ) (new : State) → new.handle ≡ (task_of w f).handle → (task_of (put w f new) g).handle
    ≡ (task_of w g).handle
handle_put w f g new same = by (g == f) refl
  where
    past : (ts : List State) (f : ℕ) (new : State) → new.handle ≡ (get_or ts f blank).handle
        → (get_or (set ts f new) f blank).handle ≡ (get_or ts f blank).handle
    past [] f new same = refl
    past (t ∷ ts) zero new same = same
    past (t ∷ ts) (suc f) new same = past ts f new same

    by : (b : Bool) → (g == f) ≡ b → (task_of (put w f new) g).handle ≡ (task_of w g).handle
    by true here =
        subst (λ g. (task_of (put w f new) g).handle ≡ (task_of w g).handle) (sym (same_of g f here)) (past w.tasks f new same)
    by false apart = ap (λ (t : State). t.handle) (get_or-set_other w.tasks f g new blank (apart_of g f apart))

-- a handle that isn't among those that go
through : (fs : List ℕ) (w : World) (g : ℕ) → not (among g fs) ≡ true → (task_of (without_handles fs w) g).handle
    ≡ (task_of w g).handle
through [] w g spared = refl
through (f ∷ fs) w g spared = by (through fs w g) (g == f) refl spared
  where
    v : World
    v = without_handles fs w

    by : (not (among g fs) ≡ true → (task_of v g).handle ≡ (task_of w g).handle) → (b : Bool) → (g == f) ≡ b
        → not (among g (f ∷ fs)) ≡ true → (task_of (without_handles (f ∷ fs) w) g).handle ≡ (task_of w g).handle
    by rest true here spared =
        absurd (clash (ap (λ b. not (elim b [ true ↦ true | false ↦ among g fs ])) (sym here) ∙ spared))
      where
        clash : false ≡ true → ⊥
        clash is = cc
    by rest false apart spared =
        ap (λ (t : State). t.handle)
        (get_or-set_other v.tasks f g (record (task_of v f) { handle = false }) blank (apart_of g f apart))
        ∙ rest (ap (λ b. not (elim b [ true ↦ true | false ↦ among g fs ])) (sym apart) ∙ spared)

static_through : (fs : List ℕ) (w : World) → (without_handles fs w).is_static ≡ w.is_static
static_through [] w = refl
static_through (f ∷ fs) w = static_through fs w

many_run : (f : ℕ) (w : World) → length (without_run f w).tasks ≡ length w.tasks
many_run f w = length_set w.tasks f (record (task_of w f) { references = (task_of w f).references - 1; awaiter = false })

many_awaiter : (f : ℕ) (w : World) → length (without_awaiter f w).tasks ≡ length w.tasks
many_awaiter f w = length_set w.tasks f (record (task_of w f) { awaiter = false })

of_run : (f : ℕ) (w : World) (g : ℕ) → (task_of (without_run f w) g).handle ≡ (task_of w g).handle
of_run f w g = handle_put w f g (record (task_of w f) { references = (task_of w f).references - 1; awaiter = false }) refl

of_awaiter : (f : ℕ) (w : World) (g : ℕ) → (task_of (without_awaiter f w) g).handle ≡ (task_of w g).handle
of_awaiter f w g = handle_put w f g (record (task_of w f) { awaiter = false }) refl

-- what is asked of a plain state whose run is another, or one of whose tasks nobody awaits
runs_by : {B : Type 0} (ask : Plain Output Waker → B)
    → ((q : Plain Output Waker) (rs : List Running) → ask (record q { runs = rs }) ≡ ask q)
    → (h : Running → Running) (r : ℕ) (q : Plain Output Waker) → ask (runs h r q) ≡ ask q
runs_by ask same h r q = by (slice_get q.runs r)
  where
    by : (o : Option Running) → ask (on o (λ run p. record p { runs = slice_set p.runs r (h run) }) q) ≡ ask q
    by None = refl
    by (Some run) = same q (slice_set q.runs r (h run))

few_unawaited : (f : ℕ) (q : Plain Output Waker) → length (unawaited f q).futures ≡ length q.futures
few_unawaited f q = by (slice_get q.futures f)
  where
    new : AbstractTask Output Waker
    new = record (task f q) { awaiter = None }

    by : (o : Option (Future Output Waker)) → length (on o (λ x p. put_at f new x p) q).futures ≡ length q.futures
    by None = refl
    by (Some x) = length_set q.futures f (with_task new x)

asks_unawaited : (f g : ℕ) (q : Plain Output Waker) → (task g (unawaited f q)).handle ≡ (task g q).handle
asks_unawaited f g q = put_asks (λ (t : AbstractTask Output Waker). t.handle) g f (record (task f q) { awaiter = None }) q refl

counts_unawaited : (f g : ℕ) (q : Plain Output Waker) → references_of (task g (unawaited f q)) ≡ references_of (task g q)
counts_unawaited f g q =
    put_asks (λ (t : AbstractTask Output Waker). references_of t) g f (record (task f q) { awaiter = None }) q refl

polls_unawaited : (f g : ℕ) (q : Plain Output Waker) → abstract.polled (task g (unawaited f q)) ≡ abstract.polled (task g q)
polls_unawaited f g q =
    put_asks (λ (t : AbstractTask Output Waker). abstract.polled t) g f (record (task f q) { awaiter = None }) q refl

-- where both stand alike nothing is hidden
itself : (e : Done) (q : Plain Output Waker) → Follows e.world q → Near e q
itself e q follows = record {
  world = e.world;
  plain = q;
  follows = follows;
  gone = [];
  below = e.next;
  at = refl;
  many = refl;
  few = refl;
  lying = refl;
  handles = λ g spared. refl;
  asks = λ g. refl;
  counts = λ g. refl;
  polls = λ g. refl;
  less = λ g. less_self (task_of e.world g);
  static = (refl, refl);
}

pub near : (e : Done) (q : Plain Output Waker) → StandsAlike e q → Near e q
near e q (alike nested follows) = itself e q follows
near e q (losing f fs below codes nested stops) = record {
  world = without_handles (f ∷ fs) e.world;
  plain = q;
  follows = stops.losing.follows;
  gone = f ∷ fs;
  below = below;
  at = stops.left;
  many = many_through (f ∷ fs) e.world;
  few = refl;
  lying = refl;
  handles = through (f ∷ fs) e.world;
  asks = λ g. refl;
  counts = λ g. refl;
  polls = λ g. refl;
  less = handles_less (f ∷ fs) e.world;
  static = (static_through (f ∷ fs) e.world, refl);
}
near e q (going r fs below codes nested stops) =
    let over : Running → Running = λ run. record run { is_over = true } in
    record {
      world = without_handles fs e.world;
      plain = runs over r q;
      follows = stops.losing.follows;
      gone = fs;
      below = op.User (user_op.DropOwn r) ∷ stops.rest ∷ below;
      at = stops.left;
      many = many_through fs e.world;
      few = runs_by (λ p. length p.futures) (λ q rs. refl) over r q;
      lying = runs_by (λ p. p.lying) (λ q rs. refl) over r q;
      handles = through fs e.world;
      asks = λ g. runs_by (λ p. (task g p).handle) (λ q rs. refl) over r q;
      counts = λ g. runs_by (λ p. references_of (task g p)) (λ q rs. refl) over r q;
      polls = λ g. runs_by (λ p. abstract.polled (task g p)) (λ q rs. refl) over r q;
      less = handles_less fs e.world;
      static = (static_through fs e.world, runs_by (λ p. p.is_static) (λ q rs. refl) over r q);
    }
near e q (dropping taker final below f b it nested (answered next inside follows)) = itself e q follows
near e q (dropping taker final below f b it nested (loses awaiter next inside ending)) = record {
  world = without_run f e.world;
  plain = q;
  follows = ending.follows;
  gone = [];
  below = e.next;
  at = refl;
  many = many_run f e.world;
  few = refl;
  lying = refl;
  handles = λ g spared. of_run f e.world g;
  asks = λ g. refl;
  counts = λ g. refl;
  polls = λ g. refl;
  less = run_less f e.world;
  static = (refl, refl);
}
near e q (untaken taker final below f awaiter g gs codes it nested stops) =
    let v = without_run f e.world in
    record {
      world = without_handles (g ∷ gs) v;
      plain = q;
      follows = stops.stands.follows.follows;
      gone = g ∷ gs;
      below = op.User (user_op.DropOutput f) ∷ (rest_of (is_some awaiter) f final ++ below);
      at = stops.left;
      many = many_through (g ∷ gs) v ∙ many_run f e.world;
      few = refl;
      lying = refl;
      handles = λ k spared. through (g ∷ gs) v k spared ∙ of_run f e.world k;
      asks = λ g. refl;
      counts = λ g. refl;
      polls = λ g. refl;
      less = λ k. less_both (task_of (without_handles (g ∷ gs) v) k) (task_of v k) (task_of e.world k) (handles_less (g ∷ gs) v k)
          (run_less f e.world k);
      static = (static_through (g ∷ gs) v, refl);
    }
near e q (forgetting taker final below f b it nested stops) = record {
  world = without_awaiter f e.world;
  plain = unawaited f q;
  follows = stops.forgotten.follows;
  gone = [];
  below = e.next;
  at = refl;
  many = many_awaiter f e.world;
  few = few_unawaited f q;
  lying = put_lying f (record (task f q) { awaiter = None }) q;
  handles = λ g spared. of_awaiter f e.world g;
  asks = λ g. asks_unawaited f g q;
  counts = λ g. counts_unawaited f g q;
  polls = λ g. polls_unawaited f g q;
  less = awaiter_less f e.world;
  static = (refl, put_by (λ p. p.is_static) f (record (task f q) { awaiter = None }) q (λ fs. refl));
}
near e q (forgotten taker final below f g gs codes it nested stops) =
    let v = without_awaiter f e.world in
    record {
      world = without_handles (g ∷ gs) v;
      plain = unawaited f q;
      follows = stops.stands.follows.follows;
      gone = g ∷ gs;
      below = op.User (user_op.Drop f) ∷ op.Table (table_op.LeaveTable f) ∷ op.Handle (handle_op.LetGo f) ∷ final ∷ below;
      at = stops.left;
      many = many_through (g ∷ gs) v ∙ many_awaiter f e.world;
      few = few_unawaited f q;
      lying = put_lying f (record (task f q) { awaiter = None }) q;
      handles = λ k spared. through (g ∷ gs) v k spared ∙ of_awaiter f e.world k;
      asks = λ k. asks_unawaited f k q;
      counts = λ k. counts_unawaited f k q;
      polls = λ k. polls_unawaited f k q;
      less = λ k. less_both (task_of (without_handles (g ∷ gs) v) k) (task_of v k) (task_of e.world k) (handles_less (g ∷ gs) v k)
          (awaiter_less f e.world k);
      static = (static_through (g ∷ gs) v, put_by (λ p. p.is_static) f (record (task f q) { awaiter = None }) q (λ fs. refl));
    }

-- as many futures came to both
pub as_many : (e : Done) (q : Plain Output Waker) → StandsAlike e q → length e.world.tasks ≡ length q.futures
as_many e q stands = let it = near e q stands in sym it.many ∙ (it.follows.many ∙ it.few)
