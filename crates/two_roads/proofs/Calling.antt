-- And so it is with each call, and with lists of them.
use Rattle.std.proofs.Common.{◌≡◌, ℕ, suc, ◌≤◌, ◌++◌, nat_lt, count_by, cond, filter, Bool, true, false, List, [], ◌∷◌}
use Rattle.std.proofs.Common.{length, map}
use Rattle.std.proofs.Common.{Option, Some, None, slice_get, refl, sym, ap, subst, ◌∙◌, arith}
use Rattle.std.specs.Option.{option_map}
use Rattle.executor_parts.specs.declared.mark.Mark.{Mark}
use Rattle.executor_parts.specs.declared.mark.Mark.TheVariants.{Plain as PlainMark, Urgent}
use Rattle.task_moves.specs.AbstractTask as abstract
use Rattle.task_moves.specs.AbstractTask.{AbstractTask}
use Rattle.plain_scheduler.specs.State.{Answer, ARun, ATick, Cancelled, Choice, Close as Closing, Closed, Code, Done, Drop, DropOwn}
use Rattle.plain_scheduler.specs.State.{Drops, Due}
use Rattle.plain_scheduler.specs.State.{Finished, Full, Future, Gave, Gives, Lose, Made, No, NoMemory, Pending, Plain, Poll, PollOwn}
use Rattle.plain_scheduler.specs.State.{Ready, Taker, Tick, Try, Yes}
use Rattle.plain_scheduler.specs.Lists.{each, on, or}
use Rattle.plain_scheduler.specs.Searches.{Search, searches, searches_inside}
use Rattle.plain_laws.specs.Searches.{looks_first, taking_as}
use Rattle.plain_laws.proofs.Searching.{not_searching, searching}
use Rattle.plain_scheduler.specs.Moves.{answers, appended, becomes, called, copied, enters, given_back, is_common, is_kept, leaves}
use Rattle.plain_scheduler.specs.Moves.{let_go, put, release, runs, see, task, used, wake}
use Rattle.plain_scheduler.specs.Takes as takes
use Rattle.plain_scheduler.specs.Calls as calls
use Rattle.plain_scheduler.specs.Calls.{Call, course, does, is_granted, is_none, living_from}
use Rattle.two_roads.specs.Renaming.{AreSame, ChooseAlike, SearchesAlike, TakesSo}
use Rattle.two_roads.specs.Renaming.{answer_as, call_as, code_as, future_as, renamed}
use Rattle.two_roads.specs.Renaming.{more, none}
use Rattle.two_roads.proofs.Words.{length_map, map_append}
use Rattle.two_roads.proofs.Tasks.{asks_so, cancels_so, detaches_so, pends_so, polled_as, polls_so}
use Rattle.two_roads.proofs.Moving.{Alike, Few, Goes, Setting, andthen, appended_alike, becomes_alike, called_alike, changed_alike}
use Rattle.two_roads.proofs.Moving.{copied_alike, each_alike, enters_alike, given_back_alike, goes_alike, its_task, leaves_alike}
use Rattle.two_roads.proofs.Moving.{now, on_alike, put_alike, put_so, release_alike, repeat_alike, runs_alike, see_alike, stays}
use Rattle.two_roads.proofs.Moving.{task_alike, tell_alike, used_alike, wake_alike}
use Rattle.two_roads.proofs.Taking.{Same, stays_same, answers_same, dropped_same, dropping_alike, ended_same}
use Rattle.two_roads.proofs.Taking.{if_same, into, left, lost_same, next_same}
use Rattle.two_roads.proofs.Taking.{RunsAlike, take_first, take_run, taker, tells, tells_as}
use Rattle.two_roads.proofs.Sought.{Sought, both_search, none_searches, search_as, sought_alike}

module _ {T U A B : Type 0} (k : Setting T U A B) (alike : RunsAlike k.choice k.other) where
  abbrev c : Choice
  c = k.choice

  abbrev d : Choice
  d = k.other

  takes_so : (r : ℕ) (due : List Due) → TakesSo c d r due
  takes_so r due =
      record { keeps = alike.keeps; first = λ mine both. alike.first; robs = λ mine none. alike.robs; moves = λ mine none. alike.moves }

  abbrev future : Future T A → Future U B
  future x = future_as k.output k.waker x

  abbrev code_so : Code T A → Code U B
  code_so code = code_as k.output k.waker code

  -- the same of an answer
  says : (a : Answer T) (x : Plain T A) (y : Plain U B) → Alike k x y → Same k (answers a x) (answers (answer_as k.output a) y)
  says a x y one = answers_same k a x y one.same

  living_so : (n : ℕ) (fs : List (Future T A)) → living_from n (map future fs) ≡ living_from n fs
  living_so n [] = refl
  living_so n (x ∷ xs) =
      ap (λ ns. cond x.is_dropped ns (n ∷ ns)) (living_so (suc n) xs)

  granted_same : (x : Plain T A) (y : Plain U B) (p : Plain T A) → Same k x y
      → Same k (cond (is_granted c.refusal) x (answers NoMemory p)) (cond (is_granted d.refusal) y (answers NoMemory (now k p)))
  granted_same x y p one =
      subst
      (λ r. Same k (cond (is_granted c.refusal) x (answers NoMemory p)) (cond (is_granted r) y (answers NoMemory (now k p)))) k.refusal
      (if_same k (is_granted c.refusal) x (answers NoMemory p) y (answers NoMemory (now k p)) one
      (answers_same k NoMemory p (now k p) (stays_same k p)))

  -- spawns
  entered_alike : (mark : Mark) → Goes k (calls.entered k.wakes c mark) (calls.entered k.wakes_as d mark)
  entered_alike mark p few = record {
    same =
        ap (λ fs. record (now k p) { futures = fs })
        (map_append future p.futures
        (record { task = abstract.spawned (cond p.is_static 0 1); mark = mark; is_dropped = false } ∷ []));
    few = few;
  }

  spawn_same : (mark : Mark) (p : Plain T A) → Few k p
      → Same k (calls.spawn k.wakes c mark p) (calls.spawn k.wakes_as d mark (now k p))
  spawn_same mark p few =
      subst
      (λ n. Same k (calls.spawn k.wakes c mark p)
      (cond (nat_lt (length n) p.limit)
      (cond (is_granted d.refusal) (answers Made (made_as (length (map future p.futures)) (now k p))) (answers NoMemory (now k p)))
      (answers Full (now k p))))
      (sym (living_so 0 p.futures))
      (subst
      (λ n. Same k (calls.spawn k.wakes c mark p)
      (cond (nat_lt (length (living_from 0 p.futures)) p.limit)
      (cond (is_granted d.refusal) (answers Made (made_as n (now k p))) (answers NoMemory (now k p)))
      (answers Full (now k p))))
      (sym (length_map future p.futures))
      (if_same k (nat_lt (length (living_from 0 p.futures)) p.limit)
      (cond (is_granted c.refusal) (answers Made (made (length p.futures) p)) (answers NoMemory p))
      (answers Full p)
      (cond (is_granted d.refusal) (answers Made (made_as (length p.futures) (now k p))) (answers NoMemory (now k p)))
      (answers Full (now k p))
      (granted_same (answers Made (made (length p.futures) p)) (answers Made (made_as (length p.futures) (now k p))) p
      (says Made (made (length p.futures) p) (made_as (length p.futures) (now k p))
      (andthen k (tells k) (tells_as k)
      (andthen k (appended (length p.futures)) (appended (length p.futures)) (entered_alike mark p few)
      (appended_alike k (length p.futures)))
      (tell_alike k))))
      (answers_same k Full p (now k p) (stays_same k p))))
    where
      made : ℕ → Plain T A → Plain T A
      made n p = tells k (appended n (calls.entered k.wakes c mark p))

      made_as : ℕ → Plain U B → Plain U B
      made_as n p = tells_as k (appended n (calls.entered k.wakes_as d mark p))

  -- polls of handles
  registered_same : (f : ℕ) (w : A) (p : Plain T A) → Few k p
      → Same k (calls.registered k.wakes c f w p) (calls.registered k.wakes_as d f (k.waker w) (now k p))
  registered_same f w p few =
      subst
      (λ (l : abstract.Left U B). Same k (calls.registered k.wakes c f w p) (answers Pending (by_as l (now k p))))
      (polls_so k.output k.waker w (task f p) ∙ ap (λ (t : AbstractTask U B). abstract.poll (k.waker w) t) (task_alike k f p))
      (says Pending (by (abstract.poll w (task f p)) p) (by_as (left k (abstract.poll w (task f p))) (now k p))
      (goes (abstract.poll w (task f p))))
    where
      by : abstract.Left T A → Plain T A → Plain T A
      by l p = on l.let_go (let_go k.wakes (tells k)) (put f l.task p)

      by_as : abstract.Left U B → Plain U B → Plain U B
      by_as l p = on l.let_go (let_go k.wakes_as (tells_as k)) (put f l.task p)

      goes : (l : abstract.Left T A) → Alike k (by l p) (by_as (left k l) (now k p))
      goes l =
          andthen k (λ q. on l.let_go (let_go k.wakes (tells k)) q)
          (λ q. on (option_map k.waker l.let_go) (let_go k.wakes_as (tells_as k)) q)
          (put_alike k f l.task p few)
          (λ q few. on_alike k k.waker l.let_go (option_map k.waker l.let_go) refl (let_go k.wakes (tells k))
          (let_go k.wakes_as (tells_as k)) q few (λ w. goes_alike k w q few))

  handle_same : (f : ℕ) (w : A) (p : Plain T A) → Few k p
      → Same k (does k.wakes c (calls.PollHandle f w) p) (does k.wakes_as d (calls.PollHandle f (k.waker w)) (now k p))
  handle_same f w p few =
      subst
      (λ e. Same k (does k.wakes c (calls.PollHandle f w) p) (calls.handle_by k.wakes_as d f (k.waker w) e (now k p)))
      (asks_so k.output k.waker (task f p) ∙ ap (λ (t : AbstractTask U B). abstract.polled t) (task_alike k f p))
      (by (abstract.polled (task f p)))
    where
      its : its_task k (abstract.poll w (task f p)).task ≡ (abstract.poll (k.waker w) (task f (now k p))).task
      its =
          ap (λ (l : abstract.Left U B). l.task)
          (polls_so k.output k.waker w (task f p) ∙ ap (λ (t : AbstractTask U B). abstract.poll (k.waker w) t) (task_alike k f p))

      by : (e : abstract.Polled T)
          → Same k (calls.handle_by k.wakes c f w e p)
          (calls.handle_by k.wakes_as d f (k.waker w) (polled_as k.output k.waker e) (now k p))
      by (abstract.Polled.Output v) =
          says (Gives v) (put f (abstract.poll w (task f p)).task p) (put f (abstract.poll (k.waker w) (task f (now k p))).task (now k p))
          (put_so k f (abstract.poll w (task f p)).task (abstract.poll (k.waker w) (task f (now k p))).task its p few)
      by abstract.Polled.Cancelled = answers_same k Cancelled p (now k p) (stays_same k p)
      by abstract.Polled.Waits =
          granted_same (calls.registered k.wakes c f w (copied k.wakes w p))
          (calls.registered k.wakes_as d f (k.waker w) (copied k.wakes_as (k.waker w) (now k p))) p
          (into k (calls.registered k.wakes c f w) (calls.registered k.wakes_as d f (k.waker w)) (copied_alike k w p few)
          (registered_same f w))

  -- a handle that cancels, and goes
  cancel_alike : (f : ℕ) → Goes k (calls.cancel k.wakes c f) (calls.cancel k.wakes_as d f)
  cancel_alike f p few =
      subst (λ (l : abstract.Left U B). Alike k (calls.cancel k.wakes c f p) (by_as l (now k p)))
      (cancels_so k.output k.waker (task f p) ∙ ap (λ (t : AbstractTask U B). abstract.cancel t) (task_alike k f p))
      (goes (abstract.cancel (task f p)))
    where
      by : abstract.Left T A → Plain T A → Plain T A
      by l p = on l.called (called k.wakes (tells k)) (becomes k.wakes (tells k) f l.task p)

      by_as : abstract.Left U B → Plain U B → Plain U B
      by_as l p = on l.called (called k.wakes_as (tells_as k)) (becomes k.wakes_as (tells_as k) f l.task p)

      goes : (l : abstract.Left T A) → Alike k (by l p) (by_as (left k l) (now k p))
      goes l =
          andthen k (λ q. on l.called (called k.wakes (tells k)) q)
          (λ q. on (option_map k.waker l.called) (called k.wakes_as (tells_as k)) q)
          (becomes_alike k (tells k) (tells_as k) (tell_alike k) f l.task (its_task k l.task) refl p few)
          (λ q few. on_alike k k.waker l.called (option_map k.waker l.called) refl (called k.wakes (tells k))
          (called k.wakes_as (tells_as k)) q few (λ w. called_alike k (tells k) (tells_as k) (tell_alike k) w q few))

  detach_same : (f : ℕ) (p : Plain T A) → Few k p
      → Same k (calls.detach k.wakes c f p) (calls.detach k.wakes_as d f (now k p))
  detach_same f p few =
      subst (λ (l : abstract.Left U B). Same k (calls.detach k.wakes c f p) (by_as l (now k p)))
      (detaches_so k.output k.waker (task f p) ∙ ap (λ (t : AbstractTask U B). abstract.detach t) (task_alike k f p))
      (goes (abstract.detach (task f p)))
    where
      ends : abstract.Left T A → Plain T A → Plain T A
      ends l q = takes.ended k.wakes c f (record l { task = task f q }) None q

      ends_as : abstract.Left U B → Plain U B → Plain U B
      ends_as l q = takes.ended k.wakes_as d f (record l { task = task f q }) None q

      by_as : abstract.Left U B → Plain U B → Plain U B
      by_as l p = ends_as l (becomes k.wakes_as (tells_as k) f l.task p)

      goes : (l : abstract.Left T A)
          → Same k (ends l (becomes k.wakes (tells k) f l.task p)) (by_as (left k l) (now k p))
      goes l =
          into k (ends l) (ends_as (left k l))
          (becomes_alike k (tells k) (tells_as k) (tell_alike k) f l.task (its_task k l.task) refl p few)
          (λ q few.
          ended_same k alike f (record l { task = task f q }) (record (left k l) { task = task f (now k q) })
          (ap (λ (t : AbstractTask U B). record (left k l) { task = t }) (task_alike k f q)) None q few)

  -- a run that goes
  gone_alike : (r : ℕ) → Goes k (calls.gone k.wakes c r) (calls.gone k.wakes_as d r)
  gone_alike r p few =
      andthen k (leaves k.wakes c (ARun r)) (leaves k.wakes_as d (ARun r))
      (repeat_alike k (count_by (is_kept r) p.due) (λ p. tells k (given_back r p)) (λ p. tells_as k (given_back r p))
      (λ q few. andthen k (tells k) (tells_as k) (given_back_alike k r q few) (tell_alike k))
      (runs (λ run. record run { is_over = true }) r p) (runs (λ run. record run { is_over = true }) r (now k p))
      (runs_alike k (λ run. record run { is_over = true }) r p few))
      (leaves_alike k (ARun r))

  -- leaks and drops of the executor
  freed_alike : (f : ℕ) → Goes k (calls.freed k.wakes c f) (calls.freed k.wakes_as d f)
  freed_alike f p few =
      andthen k (release k.wakes (tells k) f) (release k.wakes_as (tells_as k) f)
      (wake_alike k (tells k) (tells_as k) (tell_alike k) f p few) (release_alike k (tells k) (tells_as k) (tell_alike k) f)

  leak_alike : Goes k (calls.leak k.wakes c) (calls.leak k.wakes_as d)
  leak_alike p few =
      subst
      (λ ns. Alike k (calls.leak k.wakes c p) (each ns (calls.freed k.wakes_as d) (record (now k p) { is_static = true })))
      (sym (living_so 0 p.futures))
      (each_alike k (living_from 0 p.futures) (calls.freed k.wakes c) (calls.freed k.wakes_as d) freed_alike
      (record p { is_static = true }) (record (now k p) { is_static = true }) (stays k (record p { is_static = true }) few))

  closed_alike : (f : ℕ) → Goes k (calls.closed k.wakes c f) (calls.closed k.wakes_as d f)
  closed_alike f p few =
      subst (λ (t : AbstractTask U B). Alike k (calls.closed k.wakes c f p) (by_as (abstract.drop_runnable t) (now k p)))
      (task_alike k f p) (goes (abstract.drop_runnable (task f p)))
    where
      by : abstract.Left T A → Plain T A → Plain T A
      by l p = on l.called (called k.wakes (tells k)) (put f l.task p)

      by_as : abstract.Left U B → Plain U B → Plain U B
      by_as l p = on l.called (called k.wakes_as (tells_as k)) (put f l.task p)

      goes : (l : abstract.Left T A) → Alike k (by l p) (by_as (left k l) (now k p))
      goes l =
          andthen k (λ q. on l.called (called k.wakes (tells k)) q)
          (λ q. on (option_map k.waker l.called) (called k.wakes_as (tells_as k)) q) (put_alike k f l.task p few)
          (λ q few. on_alike k k.waker l.called (option_map k.waker l.called) refl (called k.wakes (tells k))
          (called k.wakes_as (tells_as k)) q few (λ w. called_alike k (tells k) (tells_as k) (tell_alike k) w q few))

  swept_alike : Goes k (calls.swept k.wakes c) (calls.swept k.wakes_as d)
  swept_alike p few =
      each_alike k (filter (is_common Urgent) p.due ++ filter (is_common PlainMark) p.due) (λ due. calls.closed k.wakes c due.future)
      (λ due. calls.closed k.wakes_as d due.future) (λ due. closed_alike due.future) (record p { due = [] })
      (record (now k p) { due = [] }) (stays k (record p { due = [] }) few)

  close_same : (fs all : List ℕ) (p : Plain T A) → Few k p
      → Same k (calls.close k.wakes c fs all p) (calls.close k.wakes_as d fs all (now k p))
  close_same [] all p few =
      says Done (calls.swept k.wakes c (each all (calls.freed k.wakes c) p))
      (calls.swept k.wakes_as d (each all (calls.freed k.wakes_as d) (now k p)))
      (andthen k (calls.swept k.wakes c) (calls.swept k.wakes_as d)
      (each_alike k all (calls.freed k.wakes c) (calls.freed k.wakes_as d) freed_alike p (now k p) (stays k p few)) swept_alike)
  close_same (f ∷ fs) all p few =
      (andthen k (enters (Closing fs all)) (enters (Closing fs all))
      (andthen k (see (Drops f)) (see (Drops f))
      (changed_alike k (λ future. record future { is_dropped = true }) (λ future. record future { is_dropped = true }) (λ x. refl) f p few)
      (see_alike k (Drops f)))
      (enters_alike k (Closing fs all))).same

  -- the ends of users' code
  goes_on_same : (f : ℕ) (by : Taker A) (p : Plain T A) → Few k p
      → Same k (takes.next k.wakes c by (becomes k.wakes (tells k) f (abstract.end_pending (task f p)).task p))
      (takes.next k.wakes_as d (taker k by) (becomes k.wakes_as (tells_as k) f (abstract.end_pending (task f (now k p))).task (now k p)))
  goes_on_same f by p few =
      into k (takes.next k.wakes c by) (takes.next k.wakes_as d (taker k by))
      (becomes_alike k (tells k) (tells_as k) (tell_alike k) f (abstract.end_pending (task f p)).task
      (abstract.end_pending (task f (now k p))).task
      (ap (λ (l : abstract.Left U B). l.task)
      (pends_so k.output k.waker (task f p) ∙ ap (λ (t : AbstractTask U B). abstract.end_pending t) (task_alike k f p)))
      p few)
      (next_same k alike by)

  pending_same : (e : abstract.PendingEnd) (f : ℕ) (by : Taker A) (p : Plain T A) → Few k p
      → Same k (calls.pending_by k.wakes c e f by p) (calls.pending_by k.wakes_as d e f (taker k by) (now k p))
  pending_same abstract.PendingEnd.Drops f by p few = (dropping_alike k f Closed by p few).same
  pending_same abstract.PendingEnd.Forgets f by p few =
      into k (takes.dropping k.wakes c f Closed by) (takes.dropping k.wakes_as d f Closed (taker k by))
      (put_so k f (record (task f p) { phase = abstract.Phase.Finished; closed = true })
      (record (task f (now k p)) { phase = abstract.Phase.Finished; closed = true })
      (ap (λ (t : AbstractTask U B). record t { phase = abstract.Phase.Finished; closed = true }) (task_alike k f p)) p few)
      (λ q few. (dropping_alike k f Closed by q few).same)
  pending_same abstract.PendingEnd.Queues f by p few = goes_on_same f by p few
  pending_same abstract.PendingEnd.Rests f by p few = goes_on_same f by p few

  pends_same : (code : Code T A) (p : Plain T A) → Few k p
      → Same k (calls.pends k.wakes c code p) (calls.pends k.wakes_as d (code_so code) (now k p))
  pends_same (Poll f by) p few =
      subst
      (λ (t : AbstractTask U B). Same k (calls.pends k.wakes c (Poll f by) p)
      (calls.pending_by k.wakes_as d (abstract.pending_end t) f (taker k by) (now k p)))
      (task_alike k f p) (pending_same (abstract.pending_end (task f p)) f by p few)
  pends_same (PollOwn r w) p few = take_run k r w p (λ some. takes_so r p.due) few
  pends_same (Drop f end by) p few = stays_same k p
  pends_same (Lose awaiter by) p few = stays_same k p
  pends_same (DropOwn r answer) p few = stays_same k p
  pends_same (Closing fs all) p few = stays_same k p

  gives_same : (v : T) (code : Code T A) (p : Plain T A) → Few k p
      → Same k (calls.gives k.wakes c v code p) (calls.gives k.wakes_as d (k.output v) (code_so code) (now k p))
  gives_same v (Poll f by) p few = (dropping_alike k f (Gave v) by p few).same
  gives_same v (PollOwn r w) p few = (enters_alike k (DropOwn r Ready) p few).same
  gives_same v (Drop f end by) p few = stays_same k p
  gives_same v (Lose awaiter by) p few = stays_same k p
  gives_same v (DropOwn r answer) p few = stays_same k p
  gives_same v (Closing fs all) p few = stays_same k p

  ends_same : (code : Code T A) (p : Plain T A) → Few k p
      → Same k (calls.ends k.wakes c code p) (calls.ends k.wakes_as d (code_so code) (now k p))
  ends_same (Drop f end by) p few = dropped_same k alike f end by p few
  ends_same (Lose awaiter by) p few = lost_same k alike awaiter by p few
  ends_same (DropOwn r answer) p few =
      says answer (calls.gone k.wakes c r p) (calls.gone k.wakes_as d r (now k p)) (gone_alike r p few)
  ends_same (Closing fs all) p few = close_same fs all p few
  ends_same (Poll f by) p few = stays_same k p
  ends_same (PollOwn r w) p few = stays_same k p

  innermost_same : (end : Code T A → Plain T A → Plain T A) (end_as : Code U B → Plain U B → Plain U B)
      → ((code : Code T A) (p : Plain T A) → Few k p → Same k (end code p) (end_as (code_so code) (now k p)))
      → (codes : List (Code T A)) (p : Plain T A) → Few k p
      → Same k (calls.innermost k.wakes c codes end p) (calls.innermost k.wakes_as d (map code_so codes) end_as (now k p))
  innermost_same end end_as both [] p few = stays_same k p
  innermost_same end end_as both (code ∷ rest) p few = both code (record p { inside = rest }) few

  gives_innermost : (v : T) (codes : List (Code T A)) (p : Plain T A) → Few k p
      → Same k (calls.innermost k.wakes c codes (calls.gives k.wakes c v) p)
      (calls.innermost k.wakes_as d (map code_so codes) (calls.gives k.wakes_as d (k.output v)) (now k p))
  gives_innermost v [] p few = stays_same k p
  gives_innermost v (code ∷ rest) p few = gives_same v code (record p { inside = rest }) few

  over_same : (r : ℕ) (a : Answer T) (code : Code T A) (p : Plain T A) → Few k p
      → Same k (cond (or (slice_get p.runs r) (λ run. run.is_over) true) (answers a p) (enters code p))
      (cond (or (slice_get p.runs r) (λ run. run.is_over) true) (answers (answer_as k.output a) (now k p))
      (enters (code_so code) (now k p)))
  over_same r a code p few =
      if_same k (or (slice_get p.runs r) (λ run. run.is_over) true) (answers a p) (enters code p)
      (answers (answer_as k.output a) (now k p)) (enters (code_so code) (now k p)) (answers_same k a p (now k p) (stays_same k p))
      refl

  -- each call
  call_same : (call : Call T A) (p : Plain T A) → Few k p
      → Same k (does k.wakes c call p) (does k.wakes_as d (call_as k.output k.waker call) (now k p))
  call_same (calls.Spawn mark) p few = spawn_same mark p few
  call_same calls.TryTick p few = take_first k Try refl p (λ both. alike.first) few
  call_same calls.IsEmpty p few =
      subst (λ a. Same k (answers (cond (is_none (living_from 0 p.futures)) Yes No) p) (answers a (now k p)))
      (by (is_none (living_from 0 p.futures)) ∙ ap (λ ns. cond (is_none ns) Yes No) (sym (living_so 0 p.futures)))
      (answers_same k (cond (is_none (living_from 0 p.futures)) Yes No) p (now k p) (stays_same k p))
    where
      by : (b : Bool) → answer_as k.output (cond b Yes No) ≡ cond b Yes No
      by true = refl
      by false = refl
  call_same (calls.Wake f) p few =
      says Done (wake k.wakes (tells k) f p) (wake k.wakes_as (tells_as k) f (now k p))
      (wake_alike k (tells k) (tells_as k) (tell_alike k) f p few)
  call_same (calls.Use f) p few =
      says Done (used k.wakes (tells k) f p) (used k.wakes_as (tells_as k) f (now k p))
      (used_alike k (tells k) (tells_as k) (tell_alike k) f p few)
  call_same (calls.Copy f) p few =
      granted_same (answers Made (put f (abstract.copy (task f p)) p)) (answers Made (put f (abstract.copy (task f (now k p))) (now k p))) p
      (says Made (put f (abstract.copy (task f p)) p) (put f (abstract.copy (task f (now k p))) (now k p))
      (put_so k f (abstract.copy (task f p)) (abstract.copy (task f (now k p)))
      (ap (λ (t : AbstractTask U B). abstract.copy t) (task_alike k f p)) p few))
  call_same (calls.Release f) p few =
      says Done (release k.wakes (tells k) f p) (release k.wakes_as (tells_as k) f (now k p))
      (release_alike k (tells k) (tells_as k) (tell_alike k) f p few)
  call_same (calls.PollHandle f w) p few = handle_same f w p few
  call_same (calls.Cancel f) p few =
      says Done (calls.cancel k.wakes c f p) (calls.cancel k.wakes_as d f (now k p)) (cancel_alike f p few)
  call_same (calls.Detach f) p few = detach_same f p few
  call_same (calls.DropHandle f) p few =
      into k (calls.detach k.wakes c f) (calls.detach k.wakes_as d f) (cancel_alike f p few) (detach_same f)
  call_same calls.NewTick p few =
      granted_same (answers Made p) (answers Made (now k p)) p (answers_same k Made p (now k p) (stays_same k p))
  call_same (calls.PollTick t w) p few = take_first k (Tick t w) refl p (λ both. alike.first) few
  call_same (calls.DropTick t) p few =
      says Done (leaves k.wakes c (ATick t) p) (leaves k.wakes_as d (ATick t) (now k p)) (leaves_alike k (ATick t) p few)
  call_same calls.NewRun p few =
      let more : Plain T A = record p { runs = p.runs ++ record { taken = 0; is_over = false } ∷ [] } in
      granted_same (answers Made more) (answers Made (now k more)) p (answers_same k Made more (now k more) (stays_same k more))
  call_same (calls.PollRun r w) p few = over_same r Finished (PollOwn r w) p few
  call_same (calls.DropRun r) p few = over_same r Done (DropOwn r Done) p few
  call_same calls.Leak p few = says Done (calls.leak k.wakes c p) (calls.leak k.wakes_as d (now k p)) (leak_alike p few)
  call_same calls.DropExecutor p few =
      subst (λ ns. Same k (does k.wakes c calls.DropExecutor p) (calls.close k.wakes_as d ns ns (now k p)))
      (sym (living_so 0 p.futures)) (close_same (living_from 0 p.futures) (living_from 0 p.futures) p few)
  call_same calls.Pends p few =
      innermost_same (calls.pends k.wakes c) (calls.pends k.wakes_as d) pends_same p.inside p few
  call_same (calls.EndsWith v) p few = gives_innermost v p.inside p few
  call_same calls.Ends p few =
      innermost_same (calls.ends k.wakes c) (calls.ends k.wakes_as d) ends_same p.inside p few

module _ {T U A B : Type 0} (output : T → U) (waker : A → B) (wakes : A → Option ℕ) (wakes_as : B → Option ℕ)
    (same : (a : A) → wakes_as (waker a) ≡ wakes a) where
  abbrev pub setting : (c d : Choice) (p : Plain T A) → length p.lying ≤ c.tells → length p.lying ≤ d.tells
      → c.refusal ≡ d.refusal → Setting T U A B
  setting c d p tells tells_so refusal = record {
    output = output;
    waker = waker;
    wakes = wakes;
    wakes_as = wakes_as;
    same = same;
    choice = c;
    other = d;
    many = length p.lying;
    low = tells;
    low_as = tells_so;
    refusal = refusal;
  }

  least : (n : ℕ) → n ≤ n
  least n = omega arith

  -- a call that looks for a future at once, or in which a run searches; and any other
  at_once : (call : Call T A) → looks_first call ≡ true → (c d : Choice) (p : Plain T A) → ChooseAlike wakes c d p call
      → renamed output waker (does wakes c call p) ≡ does wakes_as d (call_as output waker call) (renamed output waker p)
  at_once calls.TryTick is c d p alike =
      take_first (setting c d p alike.tells alike.tells_so alike.refusal) Try refl p alike.takes (least (length p.lying))
  at_once (calls.PollTick t w) is c d p alike =
      take_first (setting c d p alike.tells alike.tells_so alike.refusal) (Tick t w) refl p alike.takes (least (length p.lying))
  at_once call is c d p alike = absurd cc

  searches_so : (call : Call T A) (c d : Choice) (p : Plain T A) → ChooseAlike wakes c d p call → looks_first call ≡ false
      → SearchesAlike c d wakes p call
  searches_so calls.Pends c d p alike is = alike.takes
  searches_so calls.Ends c d p alike is = alike.takes
  searches_so call c d p alike is = λ x found. absurd (in_no_other p.inside x found)
    where
      in_no_other : (codes : List (Code T A)) (x : Search T A) → searches_inside wakes c call codes p ≡ Some x → ⊥
      in_no_other [] x found = cc
      in_no_other (code ∷ rest) x found = cc

  pub calls_same : (c d : Choice) (call : Call T A) (p : Plain T A) → ChooseAlike wakes c d p call
      → renamed output waker (does wakes c call p) ≡ does wakes_as d (call_as output waker call) (renamed output waker p)
  calls_same c d call p alike = whether (looks_first call) refl
    where
      k : Setting T U A B
      k = setting c d p alike.tells alike.tells_so alike.refusal

      whether : (b : Bool) → looks_first call ≡ b
          → renamed output waker (does wakes c call p) ≡ does wakes_as d (call_as output waker call) (renamed output waker p)
      whether true looks = at_once call looks c d p alike
      whether false looks =
          by (searches wakes c call p) refl (searches wakes_as d (call_as output waker call) (renamed output waker p)) refl
          (sought_alike k call p (least (length p.lying)))
        where
          by : (o : Option (Search T A)) → searches wakes c call p ≡ o → (o_as : Option (Search U B))
              → searches wakes_as d (call_as output waker call) (renamed output waker p) ≡ o_as → Sought k o o_as
              → renamed output waker (does wakes c call p) ≡ does wakes_as d (call_as output waker call) (renamed output waker p)
          by o is o_as is_as none_searches =
              ap (λ (z : Plain T A). renamed output waker z) (sym (not_searching wakes c d call p is looks))
              ∙ call_same (setting (taking_as d c) d p alike.tells alike.tells_so alike.refusal)
              (record { first = refl; keeps = refl; robs = refl; moves = refl }) call p (least (length p.lying))
          by o is o_as is_as (both_search x few) =
              ap (λ (z : Plain T A). renamed output waker z) (searching wakes c call p x is)
              ∙ (take_run k x.run x.waker x.at (searches_so call c d p alike looks x is) few
              ∙ sym (searching wakes_as d (call_as output waker call) (renamed output waker p) (search_as k x) is_as))

  pub courses_same : (cs : List (Choice × Call T A)) (p : Plain T A) (ds : List (Choice × Call U B)) → AreSame output waker wakes cs p ds
      → renamed output waker (course wakes cs p) ≡ course wakes_as ds (renamed output waker p)
  courses_same cs p ds (none q) = refl
  courses_same cs p ds (more c d call cs1 q ds1 alike rest) =
      courses_same cs1 (does wakes c call q) ds1 rest ∙ ap (course wakes_as ds1) (calls_same c d call q alike)
