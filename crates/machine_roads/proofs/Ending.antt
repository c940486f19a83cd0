-- A task's run ends, whose future is dropped: who awaits the task is called, and then the run's reference is given up. The plain
-- scheduler gives it up first, which is the same.
use Rattle.std.proofs.Common.{◌≡◌, ℕ, ◌-◌, ◌+◌, ◌≤◌, ◌<◌, ◌==◌, ◌++◌, ◌&&◌, ◌||◌, not, Bool, true, false, List, [], ◌∷◌, length}
use Rattle.std.proofs.Common.{Option, Some, None, is_some, slice_get, slice_set, if◌then◌else◌, refl, sym, ap, subst, ◌∙◌, arith}
use Rattle.std.proofs.lemmas.Bool.Decides.{nat_tests}
use Rattle.std.proofs.lemmas.List.{get_or-set_same, set-get_or}
use Rattle.task_moves.specs.declared.moves.owed.Move.TheVariants as move
use Rattle.task_moves.specs.declared.moves.state.State.{State}
use Rattle.task_moves.specs.AbstractTask.{AbstractTask, Finished}
use Rattle.task_moves.specs.LocalTask.{phase_of, told, token}
use Rattle.task_moves.specs.Moves as moves
use Rattle.executor_model.specs.declared.op.Awaiter.{Awaiter}
use Rattle.executor_model.specs.declared.op.Op.{Op}
use Rattle.executor_model.specs.declared.op.Op.TheVariants as op
use Rattle.executor_model.specs.declared.op.Waker.{Waker}
use Rattle.executor_model.specs.Carried.{owed_ops}
use Rattle.executor_model.specs.World.{World, Done, among, awaiter_of, blank}
use Rattle.executor_model.specs.World as world
use Rattle.plain_scheduler.specs.State.{Choice, Future, Plain}
use Rattle.plain_scheduler.specs.Lists.{on}
use Rattle.plain_scheduler.specs.Moves.{called, put, task, tell}
use Rattle.machine_roads.specs.View.{Output, view, wakes, waker_in}
use Rattle.machine_roads.specs.Road.{Follows, IsStored}
use Rattle.machine_roads.specs.Alone.{is_resting}
use Rattle.machine_roads.specs.Dropped.{IsEnding, rest_of, without_run}
use Rattle.machine_roads.proofs.Cancelling.{calls_taken, emptied, took}
use Rattle.machine_roads.proofs.Changing.{put_again, puts}
use Rattle.machine_roads.proofs.Exchanging.{loudly}
use Rattle.machine_roads.proofs.Lists.{get_below, length_set, set_twice}
use Rattle.machine_roads.proofs.Moved.{Then, called_fits, moved}
use Rattle.machine_roads.proofs.Moving.{state}
use Rattle.machine_roads.proofs.Puts.{put_is, put_lying, task_is, task_put}
use Rattle.machine_roads.proofs.Stepping.{Way, next}
use Rattle.machine_roads.proofs.Used.{called_past, is_still, lower, lowered_is, lowers, put_twice}

-- one reference more
abbrev raised : AbstractTask Output Waker → AbstractTask Output Waker
raised t = record t { wakers = t.wakers + 1 }

raises : (k t : ℕ) → t ≡ 0 → 1 ≤ k → k - t ≡ k - 1 - t + 1
raises k t none some = omega (arith, none, some)

no_token : (s : State) → moves.is_going s ≡ false → token s ≡ 0
no_token s still = ap {B = ℕ} (λ b. if b then 1 else 0) still

raised_view : (s : State) → moves.is_going s ≡ false → 1 ≤ s.references
    → view s None ≡ told (raised (view (record s { references = s.references - 1; awaiter = false }) None))
raised_view s still some = ap (λ n. record (view s None) { wakers = n }) (raises s.references (token s) (no_token s still) some)

over_phase : (c x s r h a g n : Bool) (k : ℕ) → (c || x) ≡ true → (s || r) ≡ false
    → phase_of (state s r c x h a g n k) ≡ Finished
over_phase true x s r h a g n k over still = refl
over_phase false true false false h a g n k over still = refl
over_phase false false s r h a g n k over still = absurd cc
over_phase false true true r h a g n k over still = absurd cc
over_phase false true false true h a g n k over still = absurd cc

-- a reference that is given up is one less
one_of : (b h : Bool) → (b && h) ≡ true → b ≡ true
one_of true h is = refl
one_of false h is = absurd cc

last_one : (k : ℕ) → (k == 1) ≡ true → 0 ≡ k - 1
last_one k is = omega (arith, one k is)
  where
    one : (k : ℕ) → (k == 1) ≡ true → k ≡ 1
    one k is = grind (arith, nat_tests)

pub gave_up : (s : State) → (moves.give_up s).state ≡ record s { references = s.references - 1 }
gave_up s = by (moves.is_last s) refl
  where
    by : (b : Bool) → moves.is_last s ≡ b → (moves.give_up_by b s).state ≡ record s { references = s.references - 1 }
    by false is = refl
    by true is = ap (λ k. record s { references = k }) (last_one s.references (one_of (s.references == 1) (not s.handle) is))

pub gave_up_owes : (there : Bool) (f : ℕ) (b : Bool) (s : State) → owed_ops there f (moves.give_up_by b s).owed ≡ []
gave_up_owes there f true s = refl
gave_up_owes there f false s = refl

less : (k t : ℕ) → k - 1 - t ≡ k - t - 1
less k t = omega arith

module _ (p : ℕ) (end : Done) (rests : is_resting end.next ≡ true) where
  -- a reference that isn't a waker's is given up
  gives_up_so : (f : ℕ) (w : World) (os : List Op) (r : Plain Output Waker) → Follows w r
      → Way p end w (op.Move move.GiveUp f ∷ os) → Then p end os (put f (lower (task f r)) r)
  gives_up_so f w os r follows way =
      let step = next p end rests (op.Move move.GiveUp f) w os refl way in
      let at : f < length w.tasks = step.has.0 in
      let s = world.task w f in
      let aw = waker_in (awaiter_of w f) in
      let stored = follows.stored f at in
      let m =
      moved p end rests move.GiveUp f w os r (lower (task f r)) refl (λ q g. refl) follows at
      (ap (λ s. view s aw) (gave_up s)
      ∙ (ap (λ n. record (view s aw) { wakers = n }) (less s.references (token s))
      ∙ ap (λ t. told (lower t)) (sym (follows.tasks f at))))
      (subst (λ s. IsStored s (awaiter_of w f)) (sym (gave_up s))
      (record { awaiter = stored.awaiter; registering = stored.registering; notifying = stored.notifying }))
      (follows.calm f at) step.way in
      record {
        world = m.world;
        follows = m.follows;
        way = subst (λ ops. Way p end m.world (ops ++ os)) (gave_up_owes (among f w.table) f (moves.is_last s) s) m.way;
      }

module _ (p : ℕ) (below : List Op) (end : Done) (rests : is_resting end.next ≡ true) (c : Choice) (final : Op) (f : ℕ) (w : World)
    (q : Plain Output Waker) (awaiter : Option Waker)
    (many : length q.lying ≤ c.tells)
    (is : IsEnding w f awaiter q) where
  abbrev s : State
  s = world.task w f

  abbrev less_one : State
  less_one = record s { references = s.references - 1; awaiter = false }

  abbrev w1 : World
  w1 = without_run f w

  at1 : f < length w1.tasks
  at1 = subst (λ n. f < n) (sym (length_set w.tasks f less_one)) is.known

  awaits_none : awaiter_of w1 f ≡ None
  awaits_none =
      get_or-set_same w.awaiters f None None
      (subst (λ n. f < n) (sym (sym (length_set w.awaiters f None) ∙ (is.follows.places ∙ length_set w.tasks f less_one))) is.known)

  tk : task f q ≡ view less_one None
  tk =
      is.follows.tasks f at1
      ∙ (ap (λ s. view s (waker_in (awaiter_of w1 f))) (get_or-set_same w.tasks f less_one blank is.known)
      ∙ ap (λ o. view less_one (waker_in o)) awaits_none)

  abbrev more : Plain Output Waker → Plain Output Waker
  more = tell wakes c

  abbrev fits : Plain Output Waker → Type 0
  fits q = length q.lying ≤ c.tells

  -- with the run's reference
  abbrev r1 : Plain Output Waker
  r1 = put f (raised (task f q)) q

  fit : fits r1
  fit = subst (λ ls. length ls ≤ c.tells) (sym (put_lying f (raised (task f q)) q)) many

  raised_follows : (last : State) → view last None ≡ view s None → IsStored last None → (w2 : World)
      → world.put w1 f last ≡ w2 → Follows w2 r1
  raised_follows last same stored w2 there =
      subst (λ w. Follows w r1) there
      (puts w1 q is.follows f at1 last (raised (task f q))
      (ap (λ o. view last (waker_in o)) awaits_none
      ∙ (same ∙ (raised_view s is.still is.counted ∙ ap (λ t. told (raised t)) (sym tk))))
      (subst (λ o. IsStored last o) (sym awaits_none) stored)
      (is.follows.calm f at1))

  -- once that is given up it is as if it had been so before
  x : (x : Future Output Waker) × (slice_get q.futures f ≡ Some x)
  x = get_below q.futures f (subst (λ n. f < n) is.follows.many at1)

  x1 : (x : Future Output Waker) × (slice_get r1.futures f ≡ Some x)
  x1 =
      get_below r1.futures f
      (subst (λ p. f < length p.futures) (sym (put_is f (raised (task f q)) q x.0 x.1))
      (subst (λ n. f < n) (sym (length_set q.futures f (record x.0 { task = told (raised (task f q)) })))
      (subst (λ n. f < n) is.follows.many at1)))

  task_one : task f r1 ≡ told (raised (task f q))
  task_one = ap (task f) (put_is f (raised (task f q)) q x.0 x.1) ∙ task_put f (raised (task f q)) q x.0 x.1

  stays : is_still x1.0.task.phase ≡ true
  stays =
      ap (λ (t : AbstractTask Output Waker). is_still t.phase) (sym (task_is f r1 x1.0 x1.1) ∙ task_one)
      ∙ (ap (λ (t : AbstractTask Output Waker). is_still t.phase) tk
      ∙ ap is_still
      (over_phase s.completed s.closed s.scheduled s.running s.handle s.awaiter s.registering s.notifying s.references is.over is.still))

  lowered_one : put f (lower (task f r1)) r1 ≡ q
  lowered_one =
      ap (λ t. put f (lower t) r1) task_one
      ∙ (put_twice f (raised (task f q)) (lower (told (raised (task f q)))) q x.0 x.1
      ∙ (ap (λ n. put f (record (told (task f q)) { wakers = n }) q) (back (task f q).wakers)
      ∙ put_again f w1 q is.follows))
    where
      back : (n : ℕ) → n + 1 - 1 ≡ n
      back n = omega arith

  given_up : (o : Option Waker) → put f (lower (task f (on o (called wakes more) r1))) (on o (called wakes more) r1)
      ≡ on o (called wakes more) q
  given_up o =
      let k =
      called_past f wakes lower lowers more ((loudly p end rests c).past lower lowers f) r1 x1.0 x1.1 stays o in
      ap (λ t. put f (lower t) (on o (called wakes more) r1)) (task_is f (on o (called wakes more) r1) k.future k.there)
      ∙ (put_is f (lower k.future.task) (on o (called wakes more) r1) k.future k.there
      ∙ (k.same ∙ ap (λ r. on o (called wakes more) r) (sym (lowered_is f r1 x1.0 x1.1) ∙ lowered_one)))

  abbrev os : List Op
  os = op.Move move.GiveUp f ∷ (final ∷ below)

  called_so : Way p end w (rest_of s.awaiter f final ++ below) → Then p end os (on awaiter (called wakes more) r1)
  called_so way = by s.awaiter refl way
    where
      nobody : (a : Option Awaiter) → is_some a ≡ false → a ≡ None
      nobody None none = refl
      nobody (Some a) none = absurd cc

      by : (b : Bool) → s.awaiter ≡ b → Way p end w (rest_of b f final ++ below) → Then p end os (on awaiter (called wakes more) r1)
      by true there way =
          let t = took p end rests f false w os (λ at. is.stored) way in
          let last : State = record s { awaiter = false; notifying = false } in
          let follows2 : Follows (emptied f w) r1 =
          raised_follows last refl (record { awaiter = refl; registering = is.stored.registering; notifying = refl })
          (emptied f w)
          (ap (λ ts. record w { tasks = ts; awaiters = slice_set w.awaiters f None }) (set_twice w.tasks f less_one last)) in
          subst (λ o. Then p end os (on o (called wakes more) r1)) is.awaited
          (calls_taken p end rests more fits (loudly p end rests c) f (awaiter_of w f)
          (emptied f w) os r1 follows2 fit t.way)
      by false there way =
          let none : awaiter_of w f ≡ None = nobody (awaiter_of w f) (sym is.stored.awaiter ∙ there) in
          let kept : slice_set w.awaiters f None ≡ w.awaiters =
          ap (λ o. slice_set w.awaiters f o) (sym none) ∙ set-get_or w.awaiters f None in
          let follows2 : Follows w r1 =
          raised_follows s refl (record { awaiter = there; registering = is.stored.registering; notifying = is.stored.notifying }) w
          (ap (λ ts. record w { tasks = ts; awaiters = slice_set w.awaiters f None })
          (set_twice w.tasks f less_one s ∙ set-get_or w.tasks f blank)
          ∙ ap (λ os. record w { awaiters = os }) kept) in
          subst (λ o. Then p end os (on o (called wakes more) r1)) (ap waker_in (sym none) ∙ is.awaited)
          (record { world = w; follows = follows2; way = way })

  pub ending_so : Way p end w (rest_of s.awaiter f final ++ below) → Then p end (final ∷ below) (on awaiter (called wakes more) q)
  ending_so way =
      let t = called_so way in
      let r = on awaiter (called wakes more) r1 in
      subst (Then p end (final ∷ below)) (given_up awaiter) (gives_up_so p end rests f t.world (final ∷ below) r t.follows t.way)

  pub ending_fits : fits (on awaiter (called wakes more) q)
  ending_fits = called_fits p end rests more fits (loudly p end rests c) awaiter q many
