-- What the plain scheduler does. `wakes` says which future a waker wakes; one that wakes none is outside.
use Rattle.std.specs.Prelude.{ℕ, ◌-◌, ◌==◌, nat_lt, min, Bool, true, false, ◌&&◌, not, if◌then◌else◌}
use Rattle.std.specs.Prelude.{List, [], ◌∷◌, ◌++◌, length, slice_get, slice_set, find, count_by, Option, Some, None, is_some}
use Rattle.executor_parts.specs.declared.mark.Mark.{Mark}
use Rattle.executor_parts.specs.declared.mark.Mark.TheVariants.{Plain as PlainMark}
use Rattle.executor_parts.specs.Marks.{same_mark, other}
use Rattle.task_moves.specs.AbstractTask as abstract
use Rattle.task_moves.specs.AbstractTask.{AbstractTask}
use Rattle.task_moves.specs.LocalTask.{info_of, told}
use Rattle.plain_scheduler.specs.State.{Due, Future, Who, ATick, ARun, Lying, Running, Taker, Run, Code, Event, Calls, Answers}
use Rattle.plain_scheduler.specs.State.{Answer}
use Rattle.plain_scheduler.specs.State.{Choice, Plain}
use Rattle.plain_scheduler.specs.Lists.{any, without, on, or}

abbrev pub is_run : ℕ → Option ℕ → Bool
is_run r keeper = or keeper (λ k. r == k) false

abbrev pub is_who : Who → Who → Bool
is_who (ATick t) (ATick u) = t == u
is_who (ARun r) (ARun s) = r == s
is_who _ _ = false

-- which due futures are looked at: those without a keeper and of this mark; those that this run keeps; each
abbrev pub is_common : Mark → Due → Bool
is_common mark d = not (is_some d.keeper) && same_mark mark d.mark

abbrev pub is_kept : ℕ → Due → Bool
is_kept r d = is_run r d.keeper

abbrev pub is_due : Due → Bool
is_due d = true

-- the first without a keeper is that of one mark, or else of the other
abbrev pub commons : Choice → List (Due → Bool)
commons c = is_common c.first ∷ is_common (other c.first) ∷ []

-- a run takes the first that it keeps, or else the first without a keeper, or else the first that another run keeps
abbrev pub looks : {A : Type 0} → Choice → Taker A → List (Due → Bool)
looks c (Run r w) = is_kept r ∷ (commons c ++ is_kept c.robs ∷ is_due ∷ [])
looks c _ = commons c

-- the first of these tests that any due future passes
abbrev pub chosen : List (Due → Bool) → List Due → Due → Bool
chosen [] due d = false
chosen (test ∷ tests) due d = if any test due then test d else chosen tests due d

-- who lies here, and whether it was called
abbrev pub lies : {A : Type 0} → Who → Lying A → Bool
lies who l = is_who who l.who

abbrev pub is_called : {A : Type 0} → Lying A → Bool
is_called l = not (is_some l.waker)

module _ {T A : Type 0} where
  abbrev pub see : Event T A → Plain T A → Plain T A
  see e p = record p { events = p.events ++ e ∷ [] }

  abbrev pub answers : Answer T → Plain T A → Plain T A
  answers a p = see (Answers a) p

  abbrev pub enters : Code T A → Plain T A → Plain T A
  enters code p = record p { inside = code ∷ p.inside }

  -- the task of a number; one that isn't there is over
  abbrev pub no_task : AbstractTask T A
  no_task = record (abstract.spawned 0) { phase = abstract.Phase.Finished; closed = true; handle = false }

  abbrev pub task : ℕ → Plain T A → AbstractTask T A
  task f p = or (slice_get p.futures f) (λ future. future.task) no_task

  abbrev pub mark : ℕ → Plain T A → Mark
  mark f p = or (slice_get p.futures f) (λ future. future.mark) PlainMark

  abbrev pub changed : (Future T A → Future T A) → ℕ → Plain T A → Plain T A
  changed h f p = on (slice_get p.futures f) (λ future p. record p { futures = slice_set p.futures f (h future) }) p

  abbrev pub put : ℕ → AbstractTask T A → Plain T A → Plain T A
  put f new p = changed (λ future. record future { task = told new }) f p

  abbrev pub runs : (Running → Running) → ℕ → Plain T A → Plain T A
  runs h r p = on (slice_get p.runs r) (λ run p. record p { runs = slice_set p.runs r (h run) }) p

  -- a future comes last, with no keeper
  abbrev pub appended : ℕ → Plain T A → Plain T A
  appended f p = record p { due = p.due ++ record { future = f; mark = mark f p; keeper = None } ∷ [] }

  -- the first that a run keeps is appended
  abbrev pub given_back : ℕ → Plain T A → Plain T A
  given_back r p = on (find (is_kept r) p.due) (λ d p. appended d.future (record p { due = without (is_kept r) p.due })) p

  -- the first that passes a test comes last, with this keeper
  abbrev pub moved : ℕ → (Due → Bool) → Plain T A → Plain T A
  moved r test p = on (find test p.due) (λ d p. record p { due = without test p.due ++ record d { keeper = Some r } ∷ [] }) p

  -- a run keeps it, and 512 at most
  abbrev pub keeps : ℕ → (Due → Bool) → Plain T A → Plain T A
  keeps r test p = if nat_lt (count_by (is_kept r) p.due) 512 then moved r test p else p

  module _ (wakes : A → Option ℕ) where
    -- a task becomes another: where that queues it, it is appended, and then `more` is done
    abbrev pub becomes : (Plain T A → Plain T A) → ℕ → AbstractTask T A → Plain T A → Plain T A
    becomes more f new p = if is_some (info_of (task f p) new) then more (appended f (put f new p)) else put f new p

    abbrev pub wake : (Plain T A → Plain T A) → ℕ → Plain T A → Plain T A
    wake more f p = becomes more f (abstract.wake (task f p)) p

    abbrev pub release : (Plain T A → Plain T A) → ℕ → Plain T A → Plain T A
    release more f p = becomes more f (abstract.release (task f p)) p

    -- a waker that goes: called, or not; and one more
    abbrev pub used : (Plain T A → Plain T A) → ℕ → Plain T A → Plain T A
    used more f p = becomes more f (abstract.release (abstract.wake (task f p))) p

    abbrev pub called : (Plain T A → Plain T A) → A → Plain T A → Plain T A
    called more w p = or (wakes w) (λ f. used more f p) (see (Calls w) p)

    abbrev pub let_go : (Plain T A → Plain T A) → A → Plain T A → Plain T A
    let_go more w p = on (wakes w) (release more) p

    abbrev pub copied : A → Plain T A → Plain T A
    copied w p = on (wakes w) (λ f p. put f (abstract.copy (task f p)) p) p

    -- to tell is to call one that lies, where some lie and none of them is called
    abbrev pub told_at : ℕ → Plain T A → Plain T A
    told_at at p =
        on (slice_get p.lying at)
        (λ l p. on l.waker (called (λ s. s)) (record p { lying = slice_set p.lying at (record l { waker = None }) }))
        p

    abbrev pub tell : Choice → Plain T A → Plain T A
    tell c p = if any is_called p.lying then p else told_at (min c.tells (length p.lying - 1)) p

    -- who lies gets up; its waker goes, unless it was called
    abbrev pub up : Choice → Who → Plain T A → Plain T A
    up c who p =
        on (find (lies who) p.lying)
        (λ l p. on l.waker (let_go (tell c)) (record p { lying = without (lies who) p.lying }))
        p

    -- one that lay called and goes tells
    abbrev pub leaves : Choice → Who → Plain T A → Plain T A
    leaves c who p =
        on (find (lies who) p.lying)
        (λ l p. if is_called l then tell c (up c who p) else up c who p)
        p
