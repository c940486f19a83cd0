-- What moves of wakers and handles do is the same whether a task whose run is over still has its run's reference and who awaits it or not;
-- where a copy of its waker is refused as its references are too many, it is refused there, too.
use Rattle.std.proofs.Common.{◌≡◌, ℕ, ◌+◌, ◌-◌, ◌<◌, ◌≤◌, ◌==◌, ◌++◌, ◌&&◌, ◌||◌, not, nat_lt, Bool, true, false, List, [], ◌∷◌, length}
use Rattle.std.proofs.Common.{Option, Some, refl, sym, ap, subst, ◌∙◌, arith}
use Rattle.task_moves.specs.declared.moves.owed.Move.TheVariants as move
use Rattle.task_moves.specs.declared.moves.state.State.{State}
use Rattle.task_moves.specs.Moves as moves
use Rattle.executor_model.specs.declared.op.Awaiter.{Awaiter}
use Rattle.executor_model.specs.declared.op.HandleOp.TheVariants as handle_op
use Rattle.executor_model.specs.declared.op.Op.{Op}
use Rattle.executor_model.specs.declared.op.Op.TheVariants as op
use Rattle.executor_model.specs.declared.op.Waker.{Waker}
use Rattle.executor_model.specs.World.{World, Done, done, put}
use Rattle.executor_model.specs.World as world
use Rattle.machine_roads.specs.View.{waker_in}
use Rattle.machine_roads.specs.Road.{IsStored}
use Rattle.machine_roads.specs.Dropped.{without_run}
use Rattle.machine_roads.proofs.Handless.{goes_by_one, goes_quietly, last_one, off_and, or_so}
use Rattle.machine_roads.proofs.LoneRuns.{both_true}
use Rattle.machine_roads.proofs.Marks.{emptied_owes}
use Rattle.std.proofs.lemmas.Bool.Decides.{nat_tests}
use Rattle.task_moves.specs.LocalTask.{token}
use Rattle.executor_model.specs.declared.call.Reply.TheVariants as reply
use Rattle.executor_model.specs.declared.op.Hold.{Hold}
use Rattle.executor_model.specs.declared.op.Hold.TheVariants as hold
use Rattle.executor_model.specs.declared.op.QueueOp.TheVariants as queue_op
use Rattle.executor_model.specs.declared.op.Waker.TheVariants.{Task, Outside}
use Rattle.executor_model.specs.declared.op.WakerOp.TheVariants as waker_op
use Rattle.executor_model.specs.declared.step.Hint.{Hint}
use Rattle.executor_model.specs.Acts.{copy_awaiter, copy_awaiter_by, copy_by, copy_waker}
use Rattle.executor_model.specs.Acts.{is_refused}
use Rattle.executor_model.specs.Acts.{polled, takes_more}
use Rattle.executor_model.specs.Doing.{act}
use Rattle.executor_model.specs.Steps.{waits}
use Rattle.executor_model.specs.World.{World, Done, done, mark_of, put, queue_of}
use Rattle.machine_roads.specs.Alone.{Has}
use Rattle.machine_roads.proofs.Lists.{same_of}
use Rattle.machine_roads.proofs.Hiding as hiding
use Rattle.machine_roads.proofs.Hiding.{Hides, IsAside, aside_own, keeps_other, keeps_own, put_other, put_own, task_other, task_own}
use Rattle.machine_roads.proofs.HidingActs.{appends_do, apart_fits, detach_does, not_on, others_do, outside_by, release_does, stays}

abbrev pub one_less : ℕ → ℕ
one_less n = n - 1

-- the task as it is without them
abbrev pub hide : State → State
hide s = record s { references = one_less s.references; awaiter = false }

fewer : (n m k : ℕ) → n ≤ m → nat_lt m k ≡ true → nat_lt n k ≡ true
fewer n m k less is = grind (arith, nat_tests)

off_of : (b : Bool) → not b ≡ false → b ≡ true
off_of true is = refl
off_of false is = absurd cc

second_off : (a b : Bool) → (a || b) ≡ false → b ≡ false
second_off true b is = absurd cc
second_off false b is = is

-- where there are no more references there, it is refused there where it is refused here
refused_there : (r b : Bool) (n m k : ℕ) → n ≤ m → (r || not (nat_lt m k)) ≡ b → (b || not (nat_lt n k)) ≡ b
refused_there r true n m k few is = refl
refused_there r false n m k few is = ap not (fewer n m k few (off_of (nat_lt m k) (second_off r (not (nat_lt m k)) is)))

one_back : (n : ℕ) → 1 ≤ n → n - 1 + 1 ≡ n + 1 - 1
one_back n some = omega (arith, some)

less_most : (n : ℕ) → n - 1 ≤ n
less_most n = omega arith

same_most : (n : ℕ) → n ≤ n
same_most n = omega arith

some_below : (n m : ℕ) → n < m → 1 ≤ m
some_below n m below = omega (arith, below)

module _ (f : ℕ) (awaiter : Option Waker) where
  -- the task, of so many, and its awaiter, in the meantime
  pub record Owes (n : ℕ) (s : State) (o : Option Awaiter) : Type 0 where
    pub known : f < n
    pub over : moves.is_over s ≡ true
    pub still : moves.is_going s ≡ false
    pub counted : 1 ≤ s.references
    pub stored : IsStored s o
    pub awaited : waker_in o ≡ awaiter

  abbrev OwesIn : ℕ → List ℕ → State → Option Awaiter → Type 0
  OwesIn n table s o = Owes n s o

  -- what calls do but polls of its handle
  abbrev pub is_aside : Op → Bool
  is_aside o = hiding.is_aside f one_less true OwesIn o

  abbrev pub Kept : World → Type 0
  Kept w = hiding.Kept f one_less true OwesIn w

  abbrev pub Does : Done → Done → Type 0
  Does there here = hiding.Does f one_less true OwesIn there here

  known : (w : World) → Kept w → f < length w.tasks
  known w kept = kept.known

  over : (w : World) → Kept w → moves.is_over (world.task w f) ≡ true
  over w kept = kept.over

  releases_by : (s : State) → 1 ≤ s.references - 1
      → Hides f one_less true OwesIn s (moves.release_by (moves.is_last (hide s)) true (hide s)) (moves.release_by (moves.is_last s) true s)
  releases_by s some =
      let here = goes_by_one f s (moves.is_last s) (last_one f s) in
      record {
        state = goes_by_one f (hide s) (moves.is_last (hide s)) (last_one f (hide s)) ∙ ap hide (sym here);
        owed = λ there.
            goes_quietly f f (hide s) (moves.is_last (hide s)) there ∙ sym (goes_quietly f f s (moves.is_last s) there);
        fits = λ there. ap (hiding.fit_all f one_less true OwesIn) (goes_quietly f f s (moves.is_last s) there);
        owing = λ k table o owes.
            subst (λ x. Owes k x o) (sym here)
            (record {
              known = owes.known;
              over = owes.over;
              still = owes.still;
              counted = some;
              stored = record {
                awaiter = owes.stored.awaiter;
                registering = owes.stored.registering;
                notifying = owes.stored.notifying;
              };
              awaited = owes.awaited;
            });
      }

  releases_own : (s : State) → moves.is_over s ≡ true → 1 ≤ s.references - 1
      → Hides f one_less true OwesIn s (moves.release (hide s)) (moves.release s)
  releases_own s over some =
      subst
      (λ b. Hides f one_less true OwesIn s (moves.release_by (moves.is_last (hide s)) b (hide s))
      (moves.release_by (moves.is_last s) b s))
      (sym over)
      (releases_by s some)

  pub release_aside : (s : State) → moves.is_over s ≡ true → 1 ≤ s.references - 1 → IsAside f one_less true OwesIn move.Release f s (hide s)
  release_aside s over some =
      aside_own f one_less true OwesIn known move.Release s
      (off_and f (moves.is_last (hide s)) (moves.is_over s) over ∙ sym (off_and f (moves.is_last s) (moves.is_over s) over)) refl
      (releases_own s over some)

  -- a handle that goes: of an output that is there, or of one that is given or lost
  closed_then : (c x : Bool) → (c || x) ≡ true → (c && not x) ≡ false → x ≡ true
  closed_then true true over none = refl
  closed_then true false over none = absurd cc
  closed_then false x over none = over

  -- what is closed isn't forgotten
  closed_off : (r x : Bool) → x ≡ true → (r && not x) ≡ false
  closed_off true true is = refl
  closed_off false true is = refl
  closed_off r false is = absurd cc

  detaches_own : (s : State) (b : Bool) → moves.is_over s ≡ true → (s.completed && not s.closed) ≡ b
      → Hides f one_less true OwesIn s (moves.detach_by b ((s.references - 1 == 0) && not s.closed) (hide s))
      (moves.detach_by b ((s.references == 0) && not s.closed) s)
  detaches_own s true over is = record {
    state = refl;
    owed = λ there. refl;
    fits = λ there. refl;
    owing = λ k table o owes.
        record {
          known = owes.known;
          over = or_so f s.completed true refl;
          still = owes.still;
          counted = owes.counted;
          stored = record {
            awaiter = owes.stored.awaiter;
            registering = owes.stored.registering;
            notifying = owes.stored.notifying;
          };
          awaited = owes.awaited;
        };
  }
  detaches_own s false over is =
      let closed = closed_then s.completed s.closed over is in
      subst
      (λ z. Hides f one_less true OwesIn s (moves.detach_by false z (hide s))
      (moves.detach_by false ((s.references == 0) && not s.closed) s))
      (sym (closed_off (s.references - 1 == 0) s.closed closed))
      (subst (λ y. Hides f one_less true OwesIn s (moves.detach_by false false (hide s)) (moves.detach_by false y s))
      (sym (closed_off (s.references == 0) s.closed closed))
      (record {
        state = refl;
        owed = λ there. emptied_owes there f (s.references - 1 == 0) ∙ sym (emptied_owes there f (s.references == 0));
        fits = λ there. ap (hiding.fit_all f one_less true OwesIn) (emptied_owes there f (s.references == 0));
        owing = λ k table o owes.
            record {
              known = owes.known;
              over = owes.over;
              still = owes.still;
              counted = owes.counted;
              stored = record {
                awaiter = owes.stored.awaiter;
                registering = owes.stored.registering;
                notifying = owes.stored.notifying;
              };
              awaited = owes.awaited;
            };
      }))

  never_last : (b r x : Bool) → (b ≡ false → x ≡ true) → (not b && (r && not x)) ≡ false
  never_last true r x is = refl
  never_last false r x is = closed_off r x (is refl)

  pub detach_aside : (s : State) → moves.is_over s ≡ true → IsAside f one_less true OwesIn move.Detach f s (hide s)
  detach_aside s over =
      let b : Bool = s.completed && not s.closed in
      let shut : b ≡ false → s.closed ≡ true = closed_then s.completed s.closed over in
      aside_own f one_less true OwesIn known move.Detach s
      (never_last b (s.references - 1 == 0) s.closed shut ∙ sym (never_last b (s.references == 0) s.closed shut)) refl
      (detaches_own s b over refl)

  -- one more reference of a task
  abbrev raised : State → State
  raised s = record s { references = s.references + 1 }

  -- of which there are no more there, and whose write is the same
  record Raises (w : World) (g : ℕ) (t : State) : Type 0 where
    is : world.task (without_run f w) g ≡ t
    few : t.references ≤ (world.task w g).references
    same : put (without_run f w) g (raised t) ≡ without_run f (put w g (raised (world.task w g)))
    kept : Kept (put w g (raised (world.task w g)))

  raises_own : (w : World) → Kept w → Raises w f (hide (world.task w f))
  raises_own w kept =
      let s = world.task w f in
      record {
        is = task_own f one_less w kept.known;
        few = less_most s.references;
        same =
            ap (λ n. put (without_run f w) f (record s { references = n; awaiter = false })) (one_back s.references kept.counted)
            ∙ put_own f one_less w (raised s) kept.known;
        kept =
            keeps_own f one_less true OwesIn w (raised s) kept.known
            (record {
              known = kept.known;
              over = kept.over;
              still = kept.still;
              counted = more s.references kept.counted;
              stored = record {
                awaiter = kept.stored.awaiter;
                registering = kept.stored.registering;
                notifying = kept.stored.notifying;
              };
              awaited = kept.awaited;
            });
      }
    where
      more : (n : ℕ) → 1 ≤ n → 1 ≤ n + 1
      more n some = omega (arith, some)

  raises : (w : World) (g : ℕ) → Kept w → (t : State) × Raises w g t
  raises w g kept = by (f == g) refl
    where
      by : (b : Bool) → (f == g) ≡ b → (t : State) × Raises w g t
      by true same = subst (λ g. (t : State) × Raises w g t) (same_of f g same) (hide (world.task w f), raises_own w kept)
      by false apart =
          let s = world.task w g in (
            s,
            record {
              is = task_other f one_less w g apart;
              few = same_most s.references;
              same = put_other f one_less w g (raised s) apart;
              kept = keeps_other f one_less true OwesIn w g (raised s) apart kept;
            },
          )

  -- it is refused as here
  abbrev alike : Hint → Bool → Hint
  alike h b = record h { refused = b }

  refused_so : (h : Hint) (w : World) (g : ℕ) (t : State) → Raises w g t
      → is_refused (alike h (is_refused h (world.task w g))) (world.task (without_run f w) g) ≡ is_refused h (world.task w g)
  refused_so h w g t so =
      let s = world.task w g in
      ap (λ x. is_refused (alike h (is_refused h s)) x) so.is
      ∙ refused_there h.refused (is_refused h s) t.references s.references moves.most_references so.few refl

  copies_by : (w : World) (g : ℕ) (held : Hold) (t : State) → Raises w g t → Kept w → (b : Bool)
      → Does (copy_by b (without_run f w) g held) (copy_by b w g held)
  copies_by w g held t so kept true = stays f one_less true OwesIn known over w kept (op.End reply.NoMemory held ∷ []) refl
  copies_by w g held t so kept false =
      let os : List Op = op.End reply.Made held ∷ [] in
      let rest : World → World = λ v. record v { wakers = w.wakers ++ Some g ∷ [] } in
      subst (λ x. Does (done (rest (put (without_run f w) g (raised x))) os) (done (rest (put w g (raised (world.task w g)))) os))
      (sym so.is)
      (record { same = ap (λ v. done (rest v) os) so.same; kept = so.kept; fit = refl })

  copies_do : (h : Hint) (w : World) (g : ℕ) (held : Hold) → Kept w
      → (i : Hint) × Does (copy_waker i (without_run f w) g held) (copy_waker h w g held)
  copies_do h w g held kept =
      let b = is_refused h (world.task w g) in
      let so = raises w g kept in (
        alike h b,
        subst (λ c. Does (copy_by c (without_run f w) g held) (copy_by b w g held)) (sym (refused_so h w g so.0 so.1))
            (copies_by w g held so.0 so.1 kept b),
      )

  module _ (p : ℕ) (w : World) (kept : Kept w) where
    awaits_by : (h : ℕ) (g : ℕ) (t : State) → (f == h) ≡ false → Raises w g t → (b : Bool)
        → Does (copy_awaiter_by b p (without_run f w) h (Task g)) (copy_awaiter_by b p w h (Task g))
    awaits_by h g t apart so true = stays f one_less true OwesIn known over w kept (op.End reply.NoMemory (hold.Handle h) ∷ []) refl
    awaits_by h g t apart so false =
        let os : List Op = op.Handle (handle_op.Register h (Task g) (length w.trace)) ∷ [] in
        subst (λ x. Does (done (polled p (put (without_run f w) g (raised x)) h) os)
        (done (polled p (put w g (raised (world.task w g))) h) os))
        (sym so.is)
        (record {
          same = ap (λ v. done (polled p v h) os) so.same;
          kept = so.kept;
          fit = apart_fits f one_less true OwesIn known over h apart;
        })

    awaiters_do : (h : Hint) (g : ℕ) (a : Waker) → (f == g) ≡ false
        → (i : Hint) × Does (copy_awaiter p i (without_run f w) g a) (copy_awaiter p h w g a)
    awaiters_do h g (Task k) apart =
        let b = is_refused h (world.task w k) in
        let so = raises w k kept in (
          alike h b,
          subst (λ c. Does (copy_awaiter_by c p (without_run f w) g (Task k)) (copy_awaiter_by b p w g (Task k)))
              (sym (refused_so h w k so.0 so.1))
              (awaits_by g k so.0 apart so.1 b),
        )
    awaiters_do h g (Outside x) apart = (h, outside_by f one_less true OwesIn known over p w kept g x apart h.refused)

  pub act_does : (p : ℕ) (h : Hint) (o : Op) (w : World) → is_aside o ≡ true → waits o ≡ false → Kept w → Has (without_run f w) o
      → (i : Hint) × Does (act p i o (without_run f w)) (act p h o w)
  act_does p h (op.Move move.Release g) w fit free kept has = (h, release_does f one_less true OwesIn known over p w g kept own)
    where
      own : f ≡ g → IsAside f one_less true OwesIn move.Release f (world.task w f) (hide (world.task w f))
      own is =
          let s = world.task w f in
          let held : token (hide s) < (hide s).references =
          subst (λ t. token t < t.references)
          (ap (λ k. world.task (without_run f w) k) (sym is) ∙ task_own f one_less w kept.known) has.1 in
          release_aside s kept.over (some_below (token (hide s)) (s.references - 1) held)
  act_does p h (op.Move move.Detach g) w fit free kept has =
      (h, detach_does f one_less true OwesIn known over p w g kept (λ is. detach_aside (world.task w f) kept.over))
  act_does p h (op.Queue (queue_op.Append g)) w fit free kept has =
      (h, appends_do f one_less true OwesIn known over p w kept (takes_more (queue_of w (mark_of w g)) w.limit) g has.1)
  act_does p h (op.Handle (handle_op.CopyAwaiter g a)) w fit free kept has =
      awaiters_do p w kept h g a (not_on (f == g) (both_true (not (f == g)) true fit).0)
  act_does p h (op.Waker (waker_op.CopyWaker g held)) w fit free kept has = copies_do h w g held kept
  act_does p h o w fit free kept has = (h, others_do f one_less true OwesIn known over p h o w refl fit free kept)
