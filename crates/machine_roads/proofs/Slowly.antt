-- A waker that is called and goes: first it wakes its task, and then it is let go.
use Rattle.std.proofs.Common.{◌≡◌, ℕ, Bool, true, false, List, [], ◌∷◌, ◌++◌, length}
use Rattle.std.proofs.Common.{Option, Some, None, is_some, slice_get, slice_set, if◌then◌else◌, refl, sym, ap, ◌∙◌}
use Rattle.task_moves.specs.AbstractTask as abstract
use Rattle.task_moves.specs.AbstractTask.{AbstractTask, Phase, Idle, Queued, Polling, PollingWoken, Finished}
use Rattle.task_moves.specs.LocalTask.{info_of, info_from}
use Rattle.plain_scheduler.specs.State.{Future, Plain}
use Rattle.plain_scheduler.specs.Moves.{appended, put, release, task}
use Rattle.plain_scheduler.specs.Moves.{used, wake}
use Rattle.machine_roads.proofs.Lists.{set_same, set_twice}
use Rattle.machine_roads.proofs.Puts.{with_task, put_at, put_is, task_is, task_put, mark_put}
use Rattle.machine_roads.proofs.Used.{is_still, lower, none_told, put_twice, release_still, Comes}

-- so a wake and then a release are one use
module _ {T A : Type 0} (wakes : A → Option ℕ) (f : ℕ) (more : Plain T A → Plain T A)
    (past : (p : Plain T A) (x : Future T A) → slice_get p.futures f ≡ Some x → is_still x.task.phase ≡ true
    → Comes f wakes lower (more (put_at f (lower x.task) x p)) (more p))
    (p : Plain T A) (x : Future T A) (is : slice_get p.futures f ≡ Some x) (none : x.task.infos ≡ []) where
  abbrev u : AbstractTask T A
  u = x.task

  abbrev becoming : AbstractTask T A → AbstractTask T A → Plain T A → Plain T A
  becoming t n q = if is_some (info_of t n) then more (appended f (put f n q)) else put f n q

  both : (v : AbstractTask T A) → abstract.wake u ≡ v → used wakes more f p ≡ becoming u (abstract.release v) p
  both v same =
      ap (λ t. becoming t (abstract.release (abstract.wake t)) p) (task_is f p x is)
      ∙ ap (λ n. becoming u (abstract.release n) p) same

  -- where the wake queues nothing
  quiet : (v : AbstractTask T A) → abstract.wake u ≡ v → v.infos ≡ []
      → release wakes more f (wake wakes more f p) ≡ used wakes more f p
  quiet v same still =
      ap (release wakes more f) first
      ∙ (ap (λ t. becoming t (abstract.release t) (put f v p)) here
      ∙ (ap (λ y. if is_some (info_of v (abstract.release v)) then more (appended f y) else y)
      (put_twice f v (abstract.release v) p x is)
      ∙ (ap
      (λ (infos : List Bool). if is_some (info_from (slice_get (abstract.release v).infos (length infos)))
      then more (appended f (put f (abstract.release v) p)) else put f (abstract.release v) p)
      (still ∙ sym none)
      ∙ sym (both v same))))
    where
      first : wake wakes more f p ≡ put f v p
      first =
          ap (λ t. becoming t (abstract.wake t) p) (task_is f p x is)
          ∙ (ap (λ n. becoming u n p) same
          ∙ ap (λ b. if b then more (appended f (put f v p)) else put f v p) (none_told u v (still ∙ sym none)))

      here : task f (put f v p) ≡ v
      here =
          ap (task f) (put_is f v p x is)
          ∙ (task_put f v p x is ∙ ap (λ (infos : List Bool). record v { infos = infos }) (sym still))

  module _ (same : abstract.wake u ≡ abstract.queue false u) where
    abbrev v : AbstractTask T A
    v = abstract.queue false u

    abbrev y : Future T A
    y = with_task v x

    abbrev z : Plain T A
    z = appended f (put_at f v x p)

    there : slice_get z.futures f ≡ Some y
    there = set_same p.futures f y x is

    abbrev c : Comes f wakes lower (more (put_at f (lower y.task) y z)) (more z)
    c = past z y there refl

    abbrev comes_by : AbstractTask T A → AbstractTask T A → Plain T A
    comes_by t n = becoming t n (more z)

    tells : (n : AbstractTask T A) → n.infos ≡ u.infos ++ false ∷ [] → is_some (info_of u n) ≡ true
    tells n its =
        ap (λ (infos : List Bool). is_some (info_from (slice_get infos (length u.infos)))) its
        ∙ ap (λ (infos : List Bool). is_some (info_from (slice_get (infos ++ false ∷ []) (length infos)))) none

    first_is : wake wakes more f p ≡ more z
    first_is =
        ap (λ t. becoming t (abstract.wake t) p) (task_is f p x is)
        ∙ (ap (λ n. becoming u n p) same
        ∙ (ap (λ b. if b then more (appended f (put f v p)) else put f v p) (tells v refl)
        ∙ ap (λ q. more (appended f q)) (put_is f v p x is)))

    last : used wakes more f p ≡ more (appended f (put_at f (lower v) x p))
    last =
        both v same
        ∙ (ap (λ n. becoming u n p) (release_still v refl)
        ∙ (ap (λ b. if b then more (appended f (put f (lower v) p)) else put f (lower v) p) (tells (lower v) refl)
        ∙ ap (λ q. more (appended f q)) (put_is f (lower v) p x is)))

    once : put_at f (lower y.task) y z ≡ appended f (put_at f (lower v) x p)
    once =
        ap (λ fs. record z { futures = fs }) (set_twice p.futures f y (with_task (lower v) x))
        ∙ ap
        (λ m. record p {
          futures = slice_set p.futures f (with_task (lower v) x);
          due = p.due ++ record { future = f; mark = m; keeper = None } ∷ [];
        })
        (mark_put f f v p x is ∙ sym (mark_put f f (lower v) p x is))

    queued : release wakes more f (wake wakes more f p) ≡ used wakes more f p
    queued =
        ap (release wakes more f) first_is
        ∙ (ap (λ t. comes_by t (abstract.release t)) (task_is f (more z) c.future c.there)
        ∙ (ap (comes_by c.future.task) (release_still c.future.task c.still)
        ∙ (ap (λ b. if b then more (appended f (put f (lower c.future.task) (more z))) else put f (lower c.future.task) (more z))
        (none_told c.future.task (lower c.future.task) refl)
        ∙ (put_is f (lower c.future.task) (more z) c.future c.there ∙ (c.same ∙ (ap more once ∙ sym last))))))

  pub used_slowly : release wakes more f (wake wakes more f p) ≡ used wakes more f p
  used_slowly = by u.closed u.phase refl refl
    where
      open_is : u.closed ≡ false → abstract.wake u ≡ abstract.wake_open u.phase u
      open_is unclosed = ap (λ b. if b then u else abstract.wake_open u.phase u) unclosed

      by : (closed : Bool) (phase : Phase) → u.closed ≡ closed → u.phase ≡ phase
          → release wakes more f (wake wakes more f p) ≡ used wakes more f p
      by true phase closed at = quiet u (ap (λ b. if b then u else abstract.wake_open u.phase u) closed) none
      by false Idle unclosed at = queued (open_is unclosed ∙ ap (λ phase. abstract.wake_open phase u) at)
      by false Queued unclosed at = quiet u (open_is unclosed ∙ ap (λ phase. abstract.wake_open phase u) at) none
      by false Polling unclosed at =
          quiet (record u { phase = PollingWoken }) (open_is unclosed ∙ ap (λ phase. abstract.wake_open phase u) at) none
      by false PollingWoken unclosed at = quiet u (open_is unclosed ∙ ap (λ phase. abstract.wake_open phase u) at) none
      by false Finished unclosed at = quiet u (open_is unclosed ∙ ap (λ phase. abstract.wake_open phase u) at) none
