-- And so it is with where a run searches: both search there, and the same is due.
use Rattle.std.proofs.Common.{nat_lt, cond, Bool, true, false, ℕ, List, [], ◌∷◌, Option, Some, None, map, slice_get, refl, ap, subst, ◌∙◌}
use Rattle.std.specs.Option.{option_map}
use Rattle.task_moves.specs.AbstractTask as abstract
use Rattle.task_moves.specs.AbstractTask.{AbstractTask, Left}
use Rattle.plain_scheduler.specs.State.{Close, Code, Drop, DropOwn, End, Lose, Plain, Poll, PollOwn, Run, Taker, Tick, Try}
use Rattle.plain_scheduler.specs.Lists.{on, or}
use Rattle.plain_scheduler.specs.Moves.{becomes, called, changed, let_go, put, task}
use Rattle.plain_scheduler.specs.Takes as takes
use Rattle.plain_scheduler.specs.Calls as calls
use Rattle.plain_scheduler.specs.Calls.{Call}
use Rattle.plain_scheduler.specs.Searches.{Search, behind_drop, behind_loss, behind_out, behind_pending, searches, searches_behind}
use Rattle.plain_scheduler.specs.Searches.{searches_inside, searches_of}
use Rattle.two_roads.specs.Renaming.{call_as, code_as, end_as, taker_as}
use Rattle.two_roads.proofs.Tasks.{pends_so}
use Rattle.two_roads.proofs.Moving.{Alike, Few, Setting, andthen, becomes_alike, called_alike, changed_alike, goes_alike, now, on_alike}
use Rattle.two_roads.proofs.Moving.{put_alike, stays, task_alike, tell_alike}
use Rattle.two_roads.proofs.Taking.{given_up_alike, left, left_so, tells, tells_as}

module _ {T U A B : Type 0} (k : Setting T U A B) where
  abbrev pub search_as : Search T A → Search U B
  search_as x = record { run = x.run; waker = k.waker x.waker; at = now k x.at }

  -- neither searches, or both do, where no more lie than both choices tell of
  pub data Sought : Option (Search T A) → Option (Search U B) → Type 0 where
    none_searches : Sought None None
    both_search : (x : Search T A) → Few k x.at → Sought (Some x) (Some (search_as x))

  of_taker : (by : Taker A) (p : Plain T A) → Few k p
      → Sought (searches_of k.wakes k.choice by p) (searches_of k.wakes_as k.other (taker_as k.waker by) (now k p))
  of_taker Try p few = none_searches
  of_taker (Tick t w) p few = none_searches
  of_taker (Run r w) p few = split (nat_lt (or (slice_get p.runs r) (λ run. run.taken) 0) 200)
    where
      here : Search T A
      here = record { run = r; waker = w; at = p }

      split : (b : Bool) → Sought (cond b (Some here) None) (cond b (Some (search_as here)) None)
      split true = both_search here few
      split false = none_searches

  of_taker_at : (by : Taker A) (p : Plain T A) (q : Plain U B) → Alike k p q
      → Sought (searches_of k.wakes k.choice by p) (searches_of k.wakes_as k.other (taker_as k.waker by) q)
  of_taker_at by p q one =
      subst (λ q. Sought (searches_of k.wakes k.choice by p) (searches_of k.wakes_as k.other (taker_as k.waker by) q)) one.same
      (of_taker by p one.few)

  -- behind a poll
  goes_on : (f : ℕ) (by : Taker A) (p : Plain T A) → Few k p
      → Sought (searches_of k.wakes k.choice by (becomes k.wakes (tells k) f (abstract.end_pending (task f p)).task p))
      (searches_of k.wakes_as k.other (taker_as k.waker by)
      (becomes k.wakes_as (tells_as k) f (abstract.end_pending (task f (now k p))).task (now k p)))
  goes_on f by p few =
      of_taker_at by (becomes k.wakes (tells k) f (abstract.end_pending (task f p)).task p)
      (becomes k.wakes_as (tells_as k) f (abstract.end_pending (task f (now k p))).task (now k p))
      (becomes_alike k (tells k) (tells_as k) (tell_alike k) f (abstract.end_pending (task f p)).task
      (abstract.end_pending (task f (now k p))).task
      (ap (λ (l : Left U B). l.task)
      (pends_so k.output k.waker (task f p) ∙ ap (λ (t : AbstractTask U B). abstract.end_pending t) (task_alike k f p)))
      p few)

  pended : (e : abstract.PendingEnd) (f : ℕ) (by : Taker A) (p : Plain T A) → Few k p
      → Sought (searches_behind k.wakes k.choice by (behind_pending k.wakes k.choice e f p))
      (searches_behind k.wakes_as k.other (taker_as k.waker by) (behind_pending k.wakes_as k.other e f (now k p)))
  pended abstract.PendingEnd.Drops f by p few = none_searches
  pended abstract.PendingEnd.Forgets f by p few = none_searches
  pended abstract.PendingEnd.Queues f by p few = goes_on f by p few
  pended abstract.PendingEnd.Rests f by p few = goes_on f by p few

  -- behind the drop of an output
  lost : (awaiter : Option A) (by : Taker A) (p : Plain T A) (q : Plain U B) → Alike k p q
      → Sought (searches_of k.wakes k.choice by (behind_loss k.wakes k.choice awaiter p))
      (searches_of k.wakes_as k.other (taker_as k.waker by) (behind_loss k.wakes_as k.other (option_map k.waker awaiter) q))
  lost awaiter by p q one =
      of_taker_at by (behind_loss k.wakes k.choice awaiter p) (behind_loss k.wakes_as k.other (option_map k.waker awaiter) q)
      (andthen k (λ p. on awaiter (called k.wakes (tells k)) p) (λ q. on (option_map k.waker awaiter) (called k.wakes_as (tells_as k)) q)
      one
      (λ p few. on_alike k k.waker awaiter (option_map k.waker awaiter) refl (called k.wakes (tells k)) (called k.wakes_as (tells_as k)) p
      few (λ w. called_alike k (tells k) (tells_as k) (tell_alike k) w p few)))

  -- behind the drop of a future
  out_of : (l : Left T A) (by : Taker A) (p : Plain T A) (q : Plain U B) → Alike k p q
      → Sought (searches_behind k.wakes k.choice by (behind_out k.wakes k.choice l p))
      (searches_behind k.wakes_as k.other (taker_as k.waker by) (behind_out k.wakes_as k.other (left k l) q))
  out_of l by p q one = split l.dropped
    where
      gone : Plain T A
      gone = on l.let_go (let_go k.wakes (tells k)) p

      gone_as : Plain U B
      gone_as = on (option_map k.waker l.let_go) (let_go k.wakes_as (tells_as k)) q

      one_gone : Alike k gone gone_as
      one_gone =
          andthen k (λ p. on l.let_go (let_go k.wakes (tells k)) p)
          (λ q. on (option_map k.waker l.let_go) (let_go k.wakes_as (tells_as k)) q) one
          (λ p few. on_alike k k.waker l.let_go (option_map k.waker l.let_go) refl (let_go k.wakes (tells k))
          (let_go k.wakes_as (tells_as k))
          p few (λ w. goes_alike k w p few))

      split : (o : Option T)
          → Sought (searches_behind k.wakes k.choice by (or o (λ v. None) (Some (behind_loss k.wakes k.choice l.called gone))))
          (searches_behind k.wakes_as k.other (taker_as k.waker by)
          (or (option_map k.output o) (λ v. None) (Some (behind_loss k.wakes_as k.other (option_map k.waker l.called) gone_as))))
      split (Some v) = none_searches
      split None = lost l.called by gone gone_as one_gone

  dropped : (f : ℕ) (end : End T) (by : Taker A) (p : Plain T A) → Few k p
      → Sought (searches_behind k.wakes k.choice by (behind_drop k.wakes k.choice f end p))
      (searches_behind k.wakes_as k.other (taker_as k.waker by) (behind_drop k.wakes_as k.other f (end_as k.output end) (now k p)))
  dropped f end by p few =
      subst
      (λ l. Sought (searches_behind k.wakes k.choice by (behind_drop k.wakes k.choice f end p))
      (searches_behind k.wakes_as k.other (taker_as k.waker by) (behind_out k.wakes_as k.other l (put f l.task q_as))))
      (left_so k end (task f q)
      ∙ ap (λ (t : AbstractTask U B). takes.left_by k.wakes_as k.other (end_as k.output end) t)
      (task_alike k f q ∙ ap (λ (z : Plain U B). task f z) both_gone.same))
      (out_of its by (put f its.task q) (put f (left k its).task q_as)
      (andthen k (put f its.task) (put f (left k its).task) both_gone (put_alike k f its.task)))
    where
      q : Plain T A
      q = takes.given_up k.wakes k.choice f (changed (λ future. record future { is_dropped = true }) f p)

      q_as : Plain U B
      q_as = takes.given_up k.wakes_as k.other f (changed (λ future. record future { is_dropped = true }) f (now k p))

      its : Left T A
      its = takes.left_by k.wakes k.choice end (task f q)

      both_gone : Alike k q q_as
      both_gone =
          andthen k (takes.given_up k.wakes k.choice f) (takes.given_up k.wakes_as k.other f)
          (changed_alike k (λ future. record future { is_dropped = true }) (λ future. record future { is_dropped = true }) (λ x. refl) f p
          few)
          (given_up_alike k f)

  pends_sought : (codes : List (Code T A)) (p : Plain T A) → Few k p
      → Sought (searches_inside k.wakes k.choice calls.Pends codes p)
      (searches_inside k.wakes_as k.other calls.Pends (map (code_as k.output k.waker) codes) (now k p))
  pends_sought [] p few = none_searches
  pends_sought (PollOwn r w ∷ rest) p few = both_search (record { run = r; waker = w; at = record p { inside = rest } }) few
  pends_sought (Poll f by ∷ rest) p few =
      let p0 : Plain T A = record p { inside = rest } in
      subst
      (λ (t : AbstractTask U B). Sought (searches_inside k.wakes k.choice calls.Pends (Poll f by ∷ rest) p)
      (searches_behind k.wakes_as k.other (taker_as k.waker by)
      (behind_pending k.wakes_as k.other (abstract.pending_end t) f (now k p0))))
      (task_alike k f p0) (pended (abstract.pending_end (task f p0)) f by p0 few)
  pends_sought (Drop f end by ∷ rest) p few = none_searches
  pends_sought (Lose awaiter by ∷ rest) p few = none_searches
  pends_sought (DropOwn r answer ∷ rest) p few = none_searches
  pends_sought (Close fs all ∷ rest) p few = none_searches

  ends_sought : (codes : List (Code T A)) (p : Plain T A) → Few k p
      → Sought (searches_inside k.wakes k.choice calls.Ends codes p)
      (searches_inside k.wakes_as k.other calls.Ends (map (code_as k.output k.waker) codes) (now k p))
  ends_sought [] p few = none_searches
  ends_sought (Drop f end by ∷ rest) p few = dropped f end by (record p { inside = rest }) few
  ends_sought (Lose awaiter (Some by) ∷ rest) p few =
      let p0 : Plain T A = record p { inside = rest } in lost awaiter by p0 (now k p0) (stays k p0 few)
  ends_sought (Lose awaiter None ∷ rest) p few = none_searches
  ends_sought (PollOwn r w ∷ rest) p few = none_searches
  ends_sought (Poll f by ∷ rest) p few = none_searches
  ends_sought (DropOwn r answer ∷ rest) p few = none_searches
  ends_sought (Close fs all ∷ rest) p few = none_searches

  pub sought_alike : (call : Call T A) (p : Plain T A) → Few k p
      → Sought (searches k.wakes k.choice call p) (searches k.wakes_as k.other (call_as k.output k.waker call) (now k p))
  sought_alike calls.Pends p few = pends_sought p.inside p few
  sought_alike calls.Ends p few = ends_sought p.inside p few
  sought_alike call p few = in_no_other p.inside
    where
      in_no_other : (codes : List (Code T A))
          → Sought (searches_inside k.wakes k.choice call codes p)
          (searches_inside k.wakes_as k.other (call_as k.output k.waker call) (map (code_as k.output k.waker) codes) (now k p))
      in_no_other [] = none_searches
      in_no_other (code ∷ rest) = none_searches
