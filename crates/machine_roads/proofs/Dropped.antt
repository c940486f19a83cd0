-- The future of a task is dropped: its entry goes from the table, with the waker of it that is there, and the task's run ends.
use Rattle.std.proofs.Common.{◌≡◌, ℕ, zero, suc, ◌-◌, ◌+◌, ◌≤◌, ◌<◌, ◌==◌, ◌++◌, ◌&&◌, ◌||◌, not, Bool, true, false}
use Rattle.std.proofs.Common.{List, [], ◌∷◌, length, Option, Some, None, slice_get, slice_set, if◌then◌else◌}
use Rattle.std.proofs.Common.{refl, sym, ap, subst, ◌∙◌, arith}
use Rattle.std.proofs.lemmas.Bool.Decides.{nat_tests}
use Rattle.std.proofs.lemmas.List.{get_or-set_same}
use Rattle.executor_parts.specs.declared.mark.Mark.TheVariants.{Plain as PlainMark}
use Rattle.task_moves.specs.declared.moves.owed.Move.{Move}
use Rattle.task_moves.specs.declared.moves.owed.Move.TheVariants as move
use Rattle.task_moves.specs.declared.moves.state.State.{State}
use Rattle.task_moves.specs.AbstractTask as abstract
use Rattle.task_moves.specs.AbstractTask.{AbstractTask}
use Rattle.task_moves.specs.LocalTask.{told, token}
use Rattle.task_moves.specs.Moves as moves
use Rattle.executor_model.specs.declared.op.Op.{Op}
use Rattle.executor_model.specs.declared.op.Op.TheVariants as op
use Rattle.executor_model.specs.declared.op.TableOp.TheVariants as table_op
use Rattle.executor_model.specs.declared.op.Waker.{Waker}
use Rattle.executor_model.specs.Acts.{entry_goes, leave_by, told_of}
use Rattle.executor_model.specs.Carried.{owed_ops}
use Rattle.executor_model.specs.World.{World, Done, among, awaiter_of, blank, without}
use Rattle.executor_model.specs.World as world
use Rattle.plain_scheduler.specs.State.{Choice, End, Future, Plain}
use Rattle.plain_scheduler.specs.Lists.{on, or}
use Rattle.plain_scheduler.specs.Moves.{appended, becomes, changed, mark, no_task, put, release, task, tell}
use Rattle.plain_scheduler.specs.Takes as plain_takes
use Rattle.plain_scheduler.specs.Calls.{living_from}
use Rattle.machine_roads.specs.View.{Output, view, wakes, waker_in}
use Rattle.machine_roads.specs.Road.{Follows}
use Rattle.machine_roads.specs.Alone.{is_resting}
use Rattle.machine_roads.specs.Dropped.{EndsBy, given, polled, queued}
use Rattle.machine_roads.proofs.Changing.{puts}
use Rattle.machine_roads.proofs.Lists.{equal, get_below, length_set, same_of, set_other, set_same}
use Rattle.machine_roads.proofs.Puts.{mark_is, put_by, put_lying, task_is}
use Rattle.machine_roads.proofs.Stepping.{Way, next}
use Rattle.machine_roads.proofs.Used.{lower, none_told}

from_zero : (n : ℕ) → n ≡ 0 + n
from_zero n = omega arith

-- who isn't dropped, without one that is dropped now
apart_past : (n m : ℕ) → n < m → (n == m) ≡ false
apart_past n m is = grind (arith, nat_tests)

apart_before : (n i : ℕ) → (n + suc i == n) ≡ false
apart_before n i = grind (arith, nat_tests)

abbrev unless : Bool → List ℕ → List ℕ → List ℕ
unless b xs ys = elim b [ true ↦ xs | false ↦ ys ]

module _ {T A : Type 0} where
  lower_out : (fs : List (Future T A)) (n f : ℕ) → f < n → without f (living_from n fs) ≡ living_from n fs
  lower_out [] n f low = refl
  lower_out (z ∷ zs) n f low = by z.is_dropped (lower_out zs (suc n) f (omega (arith, low)))
    where
      by : (b : Bool) → without f (living_from (suc n) zs) ≡ living_from (suc n) zs
          → without f (if b then living_from (suc n) zs else n ∷ living_from (suc n) zs)
          ≡ (if b then living_from (suc n) zs else n ∷ living_from (suc n) zs)
      by true rest = rest
      by false rest =
          ap (λ b. unless b (living_from (suc n) zs) (n ∷ without f (living_from (suc n) zs))) (apart_past f n low)
          ∙ ap (λ ns. n ∷ ns) rest

  living_out : (fs : List (Future T A)) (n i f : ℕ) (x y : Future T A) → slice_get fs i ≡ Some x → y.is_dropped ≡ true → f ≡ n + i
      → without f (living_from n fs) ≡ living_from n (slice_set fs i y)
  living_out [] n i f x y is dropped at = absurd cc
  living_out (z ∷ zs) n zero f x y is dropped at =
      by z.is_dropped ∙ sym (ap (λ b. if b then living_from (suc n) zs else n ∷ living_from (suc n) zs) dropped)
    where
      here : f ≡ n
      here = omega (arith, at)

      by : (b : Bool) → without f (if b then living_from (suc n) zs else n ∷ living_from (suc n) zs) ≡ living_from (suc n) zs
      by true = lower_out zs (suc n) f (omega (arith, here))
      by false = ap (λ b. unless b (living_from (suc n) zs) (n ∷ without f (living_from (suc n) zs))) (equal f n here)
  living_out (z ∷ zs) n (suc i) f x y is dropped at =
      by z.is_dropped (living_out zs (suc n) i f x y is dropped (omega (arith, at)))
    where
      apart : (f == n) ≡ false
      apart = ap (λ m. m == n) at ∙ apart_before n i

      by : (b : Bool) → without f (living_from (suc n) zs) ≡ living_from (suc n) (slice_set zs i y)
          → without f (if b then living_from (suc n) zs else n ∷ living_from (suc n) zs)
          ≡ (if b then living_from (suc n) (slice_set zs i y) else n ∷ living_from (suc n) (slice_set zs i y))
      by true rest = rest
      by false rest =
          ap (λ b. unless b (living_from (suc n) zs) (n ∷ without f (living_from (suc n) zs))) apart
          ∙ ap (λ ns. n ∷ ns) rest

  abbrev pub gone : Future T A → Future T A
  gone x = record x { is_dropped = true }

  abbrev pub gone_at : ℕ → Future T A → Plain T A → Plain T A
  gone_at f x q = record q { futures = slice_set q.futures f (gone x) }

  -- its task and its mark stay
  pub gone_task : (f g : ℕ) (q : Plain T A) (x : Future T A) → slice_get q.futures f ≡ Some x
      → task g (gone_at f x q) ≡ task g q
  gone_task f g q x is = by (f == g) refl
    where
      by : (b : Bool) → (f == g) ≡ b → task g (gone_at f x q) ≡ task g q
      by true same =
          subst (λ g. task g (gone_at f x q) ≡ task g q) (same_of f g same)
          (task_is f (gone_at f x q) (gone x) (set_same q.futures f (gone x) x is) ∙ sym (task_is f q x is))
      by false apart =
          ap (λ (o : Option (Future T A)). or o (λ future. future.task) no_task) (set_other q.futures f g (gone x) apart)

  gone_mark : (f g : ℕ) (q : Plain T A) (x : Future T A) → slice_get q.futures f ≡ Some x
      → mark g (gone_at f x q) ≡ mark g q
  gone_mark f g q x is = by (f == g) refl
    where
      by : (b : Bool) → (f == g) ≡ b → mark g (gone_at f x q) ≡ mark g q
      by true same =
          subst (λ g. mark g (gone_at f x q) ≡ mark g q) (same_of f g same)
          (mark_is f (gone_at f x q) (gone x) (set_same q.futures f (gone x) x is) ∙ sym (mark_is f q x is))
      by false apart =
          ap (λ (o : Option (Future T A)). or o (λ future. future.mark) PlainMark) (set_other q.futures f g (gone x) apart)

-- the future is dropped, on both sides
abbrev pub marked : ℕ → Plain Output Waker → Plain Output Waker
marked f q = changed (λ future. record future { is_dropped = true }) f q

-- what is left of the entry
pub record Marked (f : ℕ) (w : World) (q : Plain Output Waker) : Type 0 where
  pub follows : Follows (record w { table = without f w.table }) (marked f q)
  pub task : task f (marked f q) ≡ task f q
  pub lying : (marked f q).lying ≡ q.lying
  pub inside : (marked f q).inside ≡ q.inside
  pub kind : (marked f q).is_static ≡ q.is_static

pub marks : (f : ℕ) (w : World) (q : Plain Output Waker) → Follows w q → f < length w.tasks → Marked f w q
marks f w q r at =
    let x = get_below q.futures f (subst (λ n. f < n) r.many at) in
    let is : marked f q ≡ gone_at f x.0 q =
    ap (λ (o : Option (Future Output Waker)). on o (λ x p. gone_at f x p) q) x.1 in
    let there : Follows (record w { table = without f w.table }) (gone_at f x.0 q) =
    record {
      limit = r.limit;
      kind = r.kind;
      many = r.many ∙ sym (length_set q.futures f (gone x.0));
      places = r.places;
      marked = r.marked;
      tasks = λ g below. gone_task f g q x.0 x.1 ∙ r.tasks g below;
      stored = r.stored;
      marks = λ g. gone_mark f g q x.0 x.1 ∙ r.marks g;
      calm = λ g below.
          subst (λ (t : AbstractTask Output Waker). abstract.is_over t.phase ≡ true → t.awaiter ≡ None)
          (sym (gone_task f g q x.0 x.1)) (r.calm g below);
      table = ap (without f) r.table ∙ living_out q.futures 0 f f x.0 (gone x.0) x.1 refl (from_zero f);
      common = r.common;
      kept = r.kept;
      wakers = r.wakers;
      count = r.count;
      flag = r.flag;
      asleep = r.asleep;
      numbered = r.numbered;
      runs = r.runs;
      waking = r.waking;
      seen = r.seen;
    } in
    record {
      follows = subst (Follows (record w { table = without f w.table })) (sym is) there;
      task = ap (task f) is ∙ gone_task f f q x.0 x.1;
      lying = ap (λ (q : Plain Output Waker). q.lying) is;
      inside = ap (λ (q : Plain Output Waker). q.inside) is;
      kind = ap (λ (q : Plain Output Waker). q.is_static) is;
    }

-- what is so of a run's task with one waker less
going_token : (s : State) → moves.is_going s ≡ true → token s ≡ 1
going_token s is = ap {B = ℕ} (λ b. if b then 1 else 0) is

still_going : (s : State) (m : Move) (why : End Output) → EndsBy s m why → moves.is_going s ≡ true
still_going s m why (queued is closed) = ap (λ b. b || s.running) is.scheduled
still_going s m why (polled is closed) = by s.scheduled is.running
  where
    by : (b : Bool) → s.running ≡ true → (b || s.running) ≡ true
    by true on = refl
    by false on = on
still_going s m why (given is) = by s.scheduled is.running
  where
    by : (b : Bool) → s.running ≡ true → (b || s.running) ≡ true
    by true on = refl
    by false on = on

ends_less : (s : State) (m : Move) (why : End Output) → EndsBy s m why → 1 ≤ s.references - 1
    → EndsBy (record s { references = s.references - 1 }) m why
ends_less s m why (queued is closed) some =
    queued (record { scheduled = is.scheduled; running = is.running; completed = is.completed; counted = some }) closed
ends_less s m why (polled is closed) some =
    polled (record { running = is.running; completed = is.completed; counted = some }) closed
ends_less s m why (given is) some = given (record { running = is.running; completed = is.completed; counted = some })

going_awake : (c x s r h a g n : Bool) (k : ℕ) (w : Option Waker) → (s || r) ≡ true
    → abstract.is_idle (view (record {
      scheduled = s;
      running = r;
      completed = c;
      closed = x;
      handle = h;
      awaiter = a;
      registering = g;
      notifying = n;
      references = k;
    }) w).phase ≡ false
going_awake true x s r h a g n k w going = refl
going_awake false x true true h a g n k w going = refl
going_awake false x true false h a g n k w going = refl
going_awake false x false true h a g n k w going = refl
going_awake false x false false h a g n k w going = absurd cc

less : (k t : ℕ) → k - 1 - t ≡ k - t - 1
less k t = omega arith

not_last : (k t : ℕ) → t ≡ 1 → t < k → (k == 1) ≡ false
not_last k t one more = by k (omega (arith, one, more))
  where
    by : (k : ℕ) → 1 < k → (k == 1) ≡ false
    by k is = grind (arith, nat_tests)

some_left : (k t : ℕ) → t ≡ 1 → t < k → 1 ≤ k - 1
some_left k t one more = omega (arith, one, more)

module _ (p : ℕ) (end : Done) (rests : is_resting end.next ≡ true) (c : Choice) (f : ℕ) (w : World) (q : Plain Output Waker)
    (follows : Follows w q) (at : f < length w.tasks) (m : Move) (why : End Output) (ends : EndsBy (world.task w f) m why)
    (os : List Op) where
  abbrev s : State
  s = world.task w f

  abbrev more : Plain Output Waker → Plain Output Waker
  more = tell wakes c

  abbrev w1 : World
  w1 = record w { table = without f w.table }

  abbrev q1 : Plain Output Waker
  q1 = marked f q

  abbrev after : Plain Output Waker
  after = plain_takes.given_up wakes c f q1

  -- the entry has gone, and with it a waker, where it has one
  pub record Leaves : Type 0 where
    pub now : World
    pub stands : Follows now after
    pub known : f < length now.tasks
    pub run : EndsBy (world.task now f) m why
    pub lying : after.lying ≡ q.lying
    pub inside : after.inside ≡ q.inside
    pub way : Way p end now os

  k : Marked f w q
  k = marks f w q follows at

  -- of a static executor
  stays : w.is_static ≡ true → Way p end w1 os → Leaves
  stays static way =
      let same : after ≡ q1 =
      ap (λ b. if b then q1 else release wakes more f q1) (k.kind ∙ (sym follows.kind ∙ static)) in
      record {
        now = w1;
        stands = subst (Follows w1) (sym same) k.follows;
        known = at;
        run = ends;
        lying = ap (λ (q : Plain Output Waker). q.lying) same ∙ k.lying;
        inside = ap (λ (q : Plain Output Waker). q.inside) same ∙ k.inside;
        way = way;
      }

  -- of another
  releases : w.is_static ≡ false → Way p end w1 (op.Move move.Release f ∷ os) → Leaves
  releases owned way =
      let step = next p end rests (op.Move move.Release f) w1 os refl way in
      let aw = waker_in (awaiter_of w f) in
      let going : moves.is_going s ≡ true = still_going s m why ends in
      let one : token s ≡ 1 = going_token s going in
      let last : moves.is_last s ≡ false = ap (λ b. b && not s.handle) (not_last s.references (token s) one step.has.1) in
      let s2 : State = record s { references = s.references - 1 } in
      let w2 = world.put w1 f s2 in
      let now : Way p end w2 os =
      subst
      (λ b. Way p end (world.put (told_of (b && not (moves.is_over s)) false move.Release p w1 f) f
      (moves.release_by b (moves.is_over s) s).state)
      (owed_ops (among f (told_of (b && not (moves.is_over s)) false move.Release p w1 f).table) f
      (moves.release_by b (moves.is_over s) s).owed ++ os))
      last step.way in
      let t1 : AbstractTask Output Waker = task f q1 in
      let tk : t1 ≡ view s aw = k.task ∙ follows.tasks f at in
      let stored = follows.stored f at in
      let q2 : Plain Output Waker = put f (lower t1) q1 in
      let follows2 : Follows w2 q2 =
      puts w1 q1 k.follows f at s2 (lower t1)
      (ap (λ n. record (view s aw) { wakers = n }) (less s.references (token s)) ∙ ap (λ t. told (lower t)) (sym tk))
      (record { awaiter = stored.awaiter; registering = stored.registering; notifying = stored.notifying })
      (k.follows.calm f at) in
      let awake : abstract.is_idle t1.phase ≡ false =
      ap (λ (t : AbstractTask Output Waker). abstract.is_idle t.phase) tk
      ∙ going_awake s.completed s.closed s.scheduled s.running s.handle s.awaiter s.registering s.notifying s.references aw going in
      let let_go : abstract.release t1 ≡ lower t1 =
      ap (λ b. if b && (not t1.closed && (not t1.handle && (t1.wakers - 1 == 0))) then abstract.close (lower t1) else lower t1) awake in
      let same : after ≡ q2 =
      ap (λ b. if b then q1 else release wakes more f q1) (k.kind ∙ (sym follows.kind ∙ owned))
      ∙ (ap (λ n. becomes wakes more f n q1) let_go
      ∙ ap (λ b. if b then more (appended f q2) else q2) (none_told t1 (lower t1) refl)) in
      record {
        now = w2;
        stands = subst (Follows w2) (sym same) follows2;
        known = subst (λ n. f < n) (sym (length_set w.tasks f s2)) at;
        run =
            subst (λ s. EndsBy s m why) (sym (get_or-set_same w.tasks f s2 blank at))
            (ends_less s m why ends (some_left s.references (token s) one step.has.1));
        lying = ap (λ (q : Plain Output Waker). q.lying) same ∙ (put_lying f (lower t1) q1 ∙ k.lying);
        inside = ap (λ (q : Plain Output Waker). q.inside) same ∙ (put_by (λ p. p.inside) f (lower t1) q1 (λ fs. refl) ∙ k.inside);
        way = now;
      }

  pub leaves : among f w.table ≡ true → Way p end w (op.Table (table_op.LeaveTable f) ∷ os) → Leaves
  leaves there way =
      by w.is_static refl
      (subst (λ b. Way p end (leave_by b w f).world ((leave_by b w f).next ++ os)) there
      (next p end rests (op.Table (table_op.LeaveTable f)) w os refl way).way)
    where
      by : (b : Bool) → w.is_static ≡ b → Way p end w1 (entry_goes b f ++ os) → Leaves
      by true static way = stays static way
      by false owned way = releases owned way
