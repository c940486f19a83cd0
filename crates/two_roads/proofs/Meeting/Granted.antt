-- Where the act isn't refused a copy of a task's waker, the task has fewer references than it may.
use Rattle.std.proofs.Common.{◌≡◌, ℕ, ◌^◌, ◌<◌, nat_lt, Bool, true, false, length, Option, Some, None}
use Rattle.std.proofs.Common.{slice_get, refl, sym, ap, subst, ◌∙◌, arith}
use Rattle.std.proofs.lemmas.Bool.Decides.{nat_tests}
use Rattle.std.proofs.lemmas.Option.{slice_get-map}
use Rattle.std.specs.Option.{option_map}
use Rattle.task_moves.specs.AbstractTask as abstract
use Rattle.task_moves.specs.AbstractTask.{AbstractTask, Phase, Idle, Queued, Polling, PollingWoken, Finished}
use Rattle.task_moves.specs.LocalTask.{references_of}
use Rattle.task_moves.specs.Moves.{most_references}
use Rattle.task_moves.specs.Moves as moves
use Rattle.executor_model.specs.declared.op.Waker.{Waker}
use Rattle.executor_model.specs.declared.op.Waker.TheVariants.{Task as TaskWaker}
use Rattle.executor_model.specs.Steps.{Machine}
use Rattle.executor_model.specs.World.{awaiter_of, task as task_of}
use Rattle.solo.specs.declared.names.SoloWaker.{SoloWaker}
use Rattle.plain_scheduler.specs.State.{Answers, Future, NoMemory, Plain}
use Rattle.plain_scheduler.specs.Lists.{or}
use Rattle.plain_scheduler.specs.Moves.{no_task, task}
use Rattle.plain_scheduler.specs.Calls as calls
use Rattle.plain_scheduler.specs.Calls.{is_granted}
use Rattle.machine_roads.specs.Seeing.{heard_in}
use Rattle.machine_roads.specs.View.{Output, waker_in}
use Rattle.machine_roads.specs.Within.{Act, StandsAlike, standing}
use Rattle.machine_roads.proofs.CopiesBehind.{CopiesBy, EndsRefused}
use Rattle.machine_roads.proofs.Polling.{waits_poll}
use Rattle.two_roads.specs.Refusing.{ends_refused, has_to_wait, refused_in, refused_so}
use Rattle.two_roads.specs.Renaming.{future_as, renamed}
use Rattle.two_roads.specs.Together.{nothing, numbered}
use Rattle.two_roads.proofs.Meeting.Counted.{few_view}
use Rattle.two_roads.proofs.Meeting.Near.{near}
use Rattle.two_roads.proofs.Refusing.{last_is}

below : (n m : ℕ) → nat_lt n m ≡ true → n < m
below n m is = grind (arith, nat_tests)

is_below : (n m : ℕ) → n < m → nat_lt n m ≡ true
is_below n m is = grind (arith, nat_tests)

no_grant : (e m : Bool) → e ≡ true → is_granted (refused_so e m) ≡ true → ⊥
no_grant true true is so = cc
no_grant true false is so = cc
no_grant false m is so = cc

-- but for names the same task
module _ {T X : Type 0} (number : X → ℕ) where
  abbrev as_its : Plain T (SoloWaker X) → Plain Output Waker
  as_its p = renamed nothing (numbered number) p

  count_as : (f : ℕ) (p : Plain T (SoloWaker X)) → references_of (task f (as_its p)) ≡ references_of (task f p)
  count_as f p =
      ap (λ (o : Option (Future Output Waker)). references_of (or o (λ x. x.task) no_task))
      (slice_get-map (future_as nothing (numbered number)) p.futures f)
      ∙ by (slice_get p.futures f)
    where
      by : (o : Option (Future T (SoloWaker X)))
          → references_of (or (option_map (future_as nothing (numbered number)) o) (λ x. x.task) no_task)
          ≡ references_of (or o (λ x. x.task) no_task)
      by None = refl
      by (Some x) = refl

  wait_as : (f : ℕ) (p : Plain T (SoloWaker X))
      → has_to_wait (abstract.polled (task f (as_its p))) ≡ has_to_wait (abstract.polled (task f p))
  wait_as f p =
      ap (λ (o : Option (Future Output Waker)). has_to_wait (abstract.polled (or o (λ x. x.task) no_task)))
      (slice_get-map (future_as nothing (numbered number)) p.futures f)
      ∙ by (slice_get p.futures f)
    where
      one : (o : Option T) (phase : Phase)
          → has_to_wait (abstract.polled_by (option_map (nothing {T = T}) o) phase) ≡ has_to_wait (abstract.polled_by o phase)
      one (Some v) phase = refl
      one None Idle = refl
      one None Queued = refl
      one None Polling = refl
      one None PollingWoken = refl
      one None Finished = refl

      by : (o : Option (Future T (SoloWaker X)))
          → has_to_wait (abstract.polled (or (option_map (future_as nothing (numbered number)) o) (λ x. x.task) no_task))
          ≡ has_to_wait (abstract.polled (or o (λ x. x.task) no_task))
      by None = refl
      by (Some x) = one x.task.output x.task.phase

waits_so : {T : Type 0} (o : abstract.Polled T) → has_to_wait o ≡ true → o ≡ abstract.Polled.Waits
waits_so abstract.Polled.Waits is = refl
waits_so (abstract.Polled.Output v) is = absurd cc
waits_so abstract.Polled.Cancelled is = absurd cc

module _ {T X : Type 0} (number : X → ℕ) (s : Machine) (a : Act) (q : Plain Output Waker) (stands : StandsAlike (standing s a.party) q)
    (p : Plain T (SoloWaker X)) (is : as_its number p ≡ q) where
  -- fewer than it may
  abbrev pub IsFew : ℕ → Type 0
  IsFew f = nat_lt (references_of (task f p)) (2 ^ 40) ≡ true

  few_here : (f : ℕ) → f < length s.world.tasks → nat_lt (task_of s.world f).references most_references ≡ true → IsFew f
  few_here f came few =
      let it = near (standing s a.party) q stands in
      let less = it.less f in
      let less_so = less.references in
      let b = below (task_of s.world f).references most_references few in
      let view_few : references_of (task f it.plain) < 2 ^ 40 =
      subst (λ (t : AbstractTask Output Waker). references_of t < 2 ^ 40)
      (sym (it.follows.tasks f (subst (λ n. f < n) (sym it.many) came)))
      (few_view (task_of it.world f) (waker_in (awaiter_of it.world f)) (omega (arith, less_so, b))) in
      is_below (references_of (task f p)) (2 ^ 40)
      (subst (λ n. n < 2 ^ 40)
      (it.counts f ∙ (ap (λ (q : Plain Output Waker). references_of (task f q)) (sym is) ∙ count_as number f p)) view_few)

  -- the trace would end with its refusal
  by_refusal : (f : ℕ) → f < length s.world.tasks
      → (nat_lt (task_of s.world f).references most_references ≡ false → EndsRefused s.world a.left.world)
      → is_granted (refused_in s a) ≡ true → IsFew f
  by_refusal f came refuses granted = by (nat_lt (task_of s.world f).references most_references) refl
    where
      by : (b : Bool) → nat_lt (task_of s.world f).references most_references ≡ b → IsFew f
      by true few = few_here f came few
      by false full =
          absurd
          (no_grant (ends_refused (heard_in a.left.world.trace)) _
          (ap (λ es. ends_refused es) (refuses full) ∙ last_is (heard_in s.world.trace) (Answers NoMemory)) granted)

  pub copy_granted : (f : ℕ) → f < length s.world.tasks → CopiesBy (calls.Copy f) s.world a.left.world
      → is_granted (refused_in s a) ≡ true → IsFew f
  copy_granted f came so = by_refusal f came so

  pub poll_granted : (f g : ℕ) → f < length s.world.tasks → g < length s.world.tasks
      → CopiesBy (calls.PollHandle f (TaskWaker g)) s.world a.left.world
      → has_to_wait (abstract.polled (task f p)) ≡ true → is_granted (refused_in s a) ≡ true → IsFew g
  poll_granted f g came there so waits =
      let it = near (standing s a.party) q stands in
      let plain_waits : abstract.polled (task f it.plain) ≡ abstract.Polled.Waits =
      waits_so (abstract.polled (task f it.plain))
      (ap has_to_wait (it.polls f)
      ∙ (ap (λ (q : Plain Output Waker). has_to_wait (abstract.polled (task f q))) (sym is) ∙ (wait_as number f p ∙ waits))) in
      let none : (moves.poll (task_of s.world f)).owed.answer ≡ None =
      sym (it.less f).answers
      ∙ waits_poll (task_of it.world f) (waker_in (awaiter_of it.world f))
      (ap (λ (t : AbstractTask Output Waker). abstract.polled t) (sym (it.follows.tasks f (subst (λ n. f < n) (sym it.many) came)))
      ∙ plain_waits) in
      by_refusal g there (so none)
