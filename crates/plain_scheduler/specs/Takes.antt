-- How a future is taken, what becomes of it, and what then goes on.
use Rattle.std.specs.Prelude.{ℕ, ◌+◌, ◌==◌, nat_lt, true, if◌then◌else◌, [], ◌∷◌, ◌++◌, map, slice_get, find, Option, Some}
use Rattle.task_moves.specs.AbstractTask as abstract
use Rattle.task_moves.specs.AbstractTask.{AbstractTask, Left}
use Rattle.task_moves.specs.LocalTask.{finish}
use Rattle.plain_scheduler.specs.State.{Due, Who, ATick, ARun, Taker, Try, Tick, Run, End, Closed, Gave, Poll, Drop}
use Rattle.plain_scheduler.specs.State.{Lose}
use Rattle.plain_scheduler.specs.State.{Polls, Drops, Loses, Calls, Yes, No, Pending, Ready, NoMemory, Done, Refusal, Granted}
use Rattle.plain_scheduler.specs.State.{AtOnce, Later}
use Rattle.plain_scheduler.specs.State.{Choice, Plain}
use Rattle.plain_scheduler.specs.Lists.{without, repeat, each, on, or}
use Rattle.plain_scheduler.specs.Moves.{looks, chosen, is_common, is_kept, see, answers, enters, task, put, changed, runs}
use Rattle.plain_scheduler.specs.Moves.{moved, keeps, lies, is_called}
use Rattle.plain_scheduler.specs.Moves as moves

module _ {T A : Type 0} (wakes : A → Option ℕ) (c : Choice) where
  abbrev pub tell : Plain T A → Plain T A
  tell p = moves.tell wakes c p

  -- the task's run begins: the future of a closed task is dropped, another is polled
  abbrev pub dropping : ℕ → End T → Taker A → Plain T A → Plain T A
  dropping f end by p = enters (Drop f end by) (see (Drops f) p)

  abbrev pub run : ℕ → Taker A → Plain T A → Plain T A
  run f by p =
      if (task f p).closed
      then dropping f Closed by p
      else enters (Poll f by) (see (Polls f) (put f (abstract.begin_run (task f p)) p))

  -- a run that takes what another keeps moves more of those to itself; and it may keep the next ones without a keeper
  abbrev pub robbed : ℕ → Option ℕ → Plain T A → Plain T A
  robbed r keeper p = on keeper (λ k p. if r == k then p else repeat c.moves (keeps r (is_kept k)) p) p

  abbrev pub kept : ℕ → Plain T A → Plain T A
  kept r p = each c.keeps (λ mark. keeps r (is_common mark)) p

  abbrev pub counted : ℕ → Plain T A → Plain T A
  counted r p = runs (λ run. record run { taken = run.taken + 1 }) r p

  -- taking removes the future from the list and its taker from the lying; tell; then the task's run
  abbrev pub takes : Taker A → Due → Plain T A → Plain T A
  takes Try d p = run d.future Try (tell p)
  takes (Tick t w) d p = run d.future (Tick t w) (tell (moves.up wakes c (ATick t) p))
  takes (Run r w) d p = run d.future (Run r w) (counted r (kept r (tell (moves.up wakes c (ARun r) (robbed r d.keeper p)))))

  -- it lies uncalled, with a copy of its waker for the one before
  abbrev pub lain : Who → A → Plain T A → Plain T A
  lain who w p = record p { lying = without (lies who) p.lying ++ record { who = who; waker = Some w } ∷ [] }

  abbrev pub lain_again : Who → A → A → Plain T A → Plain T A
  lain_again who w old p =
      moves.let_go wakes tell old (record p { lying = map (λ l. if lies who l then record l { waker = Some w } else l) p.lying })

  abbrev pub lies_down : Who → A → Plain T A → Plain T A
  lies_down who w p =
      let q = moves.copied wakes w p in
      or (find (lies who) p.lying) (λ l. or l.waker (λ old. lain_again who w old q) (lain who w q)) (lain who w q)

  abbrev pub rests : Refusal → Who → A → Plain T A → Plain T A
  rests Granted who w p = answers Pending (lies_down who w p)
  rests AtOnce who w p = answers NoMemory p
  rests Later who w p = answers NoMemory (lies_down who w p)

  -- with nothing to take a try answers false, and a tick or run lies
  abbrev pub nothing : Taker A → Plain T A → Plain T A
  nothing Try p = answers No p
  nothing (Tick t w) p = rests c.refusal (ATick t) w p
  nothing (Run r w) p = rests c.refusal (ARun r) w p

  abbrev pub take : Taker A → Plain T A → Plain T A
  take by p =
      let test = chosen (looks c by) p.due in
      or (find test p.due) (λ d. takes by d (record p { due = without test p.due })) (nothing by p)

  -- after a future: a run goes on, but after 200 it calls its own waker and answers Pending, not lying
  abbrev pub gives_way : ℕ → A → Plain T A → Plain T A
  gives_way r w p =
      let q = runs (λ run. record run { taken = 0 }) r p in
      answers Pending (or (wakes w) (λ f. moves.wake wakes tell f q) (see (Calls w) q))

  abbrev pub next : Taker A → Plain T A → Plain T A
  next Try p = answers Yes p
  next (Tick t w) p = answers Ready p
  next (Run r w) p = if nat_lt (or (slice_get p.runs r) (λ run. run.taken) 0) 200 then take (Run r w) p else gives_way r w p

  -- what goes out of a task: an output is dropped, who awaits it is called
  abbrev pub lost : Option A → Option (Taker A) → Plain T A → Plain T A
  lost awaiter by p = let q = on awaiter (moves.called wakes tell) p in or by (λ taker. next taker q) (answers Done q)

  abbrev pub out : Left T A → Option (Taker A) → Plain T A → Plain T A
  out left by p =
      or left.dropped
      (λ v. enters (Lose left.called by) (see (Loses v) p))
      (lost left.called by (on left.let_go (moves.let_go wakes tell) p))

  abbrev pub ended : ℕ → Left T A → Option (Taker A) → Plain T A → Plain T A
  ended f left by p = out left by (put f left.task p)

  -- once a future is dropped the scheduler's waker goes, where it holds one
  abbrev pub given_up : ℕ → Plain T A → Plain T A
  given_up f p = if p.is_static then p else moves.release wakes tell f p

  -- who awaits a task is called, but one that nobody can reach is awaited by nobody
  abbrev pub left_by : End T → AbstractTask T A → Left T A
  left_by Closed t = finish t
  left_by (Gave v) t = abstract.end_ready v t

  abbrev pub dropped : ℕ → End T → Taker A → Plain T A → Plain T A
  dropped f end by p =
      let q = given_up f (changed (λ future. record future { is_dropped = true }) f p) in
      ended f (left_by end (task f q)) (Some by) q
