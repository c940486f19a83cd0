-- What leaves runs as they are in the plain scheduler, what they have taken and what they keep, and lets nobody get up or lie down.
use Rattle.std.proofs.Common.{◌≡◌, ℕ, length, Bool, true, false, [], ◌∷◌, append-nil, Option, Some, None, slice_get}
use Rattle.std.proofs.Common.{if◌then◌else◌, is_some, refl, ap, ◌∙◌}
use Rattle.task_moves.specs.AbstractTask as abstract
use Rattle.task_moves.specs.AbstractTask.{AbstractTask}
use Rattle.task_moves.specs.LocalTask.{info_of}
use Rattle.executor_model.specs.declared.op.Waker.{Waker}
use Rattle.plain_scheduler.specs.State.{Calls, Choice, Future, Plain}
use Rattle.plain_scheduler.specs.Lists.{on, or}
use Rattle.plain_scheduler.specs.Moves.{appended, becomes, called, is_kept, let_go, mark, put, release, see, task, tell, used}
use Rattle.plain_scheduler.specs.Takes as plain_takes
use Rattle.machine_roads.specs.View.{Output, wakes}
use Rattle.machine_roads.specs.Road.{futures_in}
use Rattle.machine_roads.proofs.Aside.{IsAside, becomes_keeps, called_with, goes_keeps, tell_keeps}
use Rattle.machine_roads.proofs.Changing.{futures_append}
use Rattle.machine_roads.proofs.Dropped.{gone_at, marked}
use Rattle.machine_roads.proofs.Exchanging.{tell_long}
use Rattle.machine_roads.proofs.Puts.{put_by, put_lying}

pub record RunsStay (q r : Plain Output Waker) : Type 0 where
  pub runs : r.runs ≡ q.runs
  pub kept : (k : ℕ) → futures_in (is_kept k) r.due ≡ futures_in (is_kept k) q.due
  pub lying : length r.lying ≡ length q.lying

pub stay_on : (q r s : Plain Output Waker) → RunsStay q r → RunsStay r s → RunsStay q s
stay_on q r s one two =
    record { runs = two.runs ∙ one.runs; kept = λ k. two.kept k ∙ one.kept k; lying = two.lying ∙ one.lying }

-- as many lie
becomes_long : (c : Choice) (f : ℕ) (new : AbstractTask Output Waker) (q : Plain Output Waker)
    → length (becomes wakes (tell wakes c) f new q).lying ≡ length q.lying
becomes_long c f new q = by (is_some (info_of (task f q) new))
  where
    by : (b : Bool) → length (if b then tell wakes c (appended f (put f new q)) else put f new q).lying ≡ length q.lying
    by true = tell_long c (appended f (put f new q)) ∙ ap length (put_lying f new q)
    by false = ap length (put_lying f new q)

called_long : (c : Choice) (a : Waker) (q : Plain Output Waker) → length (called wakes (tell wakes c) a q).lying ≡ length q.lying
called_long c a q = by (wakes a)
  where
    by : (o : Option ℕ) → length (or o (λ g. used wakes (tell wakes c) g q) (see (Calls a) q)).lying ≡ length q.lying
    by None = refl
    by (Some g) = becomes_long c g (abstract.release (abstract.wake (task g q))) q

let_go_long : (c : Choice) (a : Waker) (q : Plain Output Waker) → length (let_go wakes (tell wakes c) a q).lying ≡ length q.lying
let_go_long c a q = by (wakes a)
  where
    by : (o : Option ℕ) → length (on o (release wakes (tell wakes c)) q).lying ≡ length q.lying
    by None = refl
    by (Some g) = becomes_long c g (abstract.release (task g q)) q

goes_long : (c : Choice) (o : Option Waker) (q : Plain Output Waker)
    → length (on o (let_go wakes (tell wakes c)) q).lying ≡ length q.lying
goes_long c None q = refl
goes_long c (Some a) q = let_go_long c a q

pub runs_aside : IsAside (λ (q : Plain Output Waker). q.runs)
runs_aside = record { futures = λ q fs. refl; due = λ q f. refl; lying = λ q ls. refl; seen = λ q e. refl }

-- what is due without a keeper no run keeps
pub kept_aside : (k : ℕ) → IsAside (λ (q : Plain Output Waker). futures_in (is_kept k) q.due)
kept_aside k = record {
  futures = λ q fs. refl;
  due = λ q f.
      futures_append (is_kept k) q.due (record { future = f; mark = mark f q; keeper = None } ∷ [])
      ∙ append-nil (futures_in (is_kept k) q.due);
  lying = λ q ls. refl;
  seen = λ q e. refl;
}

pub put_stays : (f : ℕ) (new : AbstractTask Output Waker) (q : Plain Output Waker) → RunsStay q (put f new q)
put_stays f new q = record {
  runs = put_by (λ p. p.runs) f new q (λ fs. refl);
  kept = λ k. put_by (λ p. futures_in (is_kept k) p.due) f new q (λ fs. refl);
  lying = ap length (put_lying f new q);
}

pub becomes_stays : (c : Choice) (f : ℕ) (new : AbstractTask Output Waker) (q : Plain Output Waker)
    → RunsStay q (becomes wakes (tell wakes c) f new q)
becomes_stays c f new q = record {
  runs = becomes_keeps (λ q. q.runs) runs_aside c f new q;
  kept = λ k. becomes_keeps (λ q. futures_in (is_kept k) q.due) (kept_aside k) c f new q;
  lying = becomes_long c f new q;
}

pub called_stays : (c : Choice) (o : Option Waker) (q : Plain Output Waker) → RunsStay q (on o (called wakes (tell wakes c)) q)
called_stays c None q = record { runs = refl; kept = λ k. refl; lying = refl }
called_stays c (Some a) q = record {
  runs = called_with (λ q. q.runs) runs_aside (tell wakes c) (tell_keeps (λ q. q.runs) runs_aside c) a q;
  kept = λ k.
      called_with (λ q. futures_in (is_kept k) q.due) (kept_aside k) (tell wakes c)
      (tell_keeps (λ q. futures_in (is_kept k) q.due) (kept_aside k) c) a q;
  lying = called_long c a q;
}

pub goes_stays : (c : Choice) (o : Option Waker) (q : Plain Output Waker) → RunsStay q (on o (let_go wakes (tell wakes c)) q)
goes_stays c o q = record {
  runs = goes_keeps (λ q. q.runs) runs_aside c o q;
  kept = λ k. goes_keeps (λ q. futures_in (is_kept k) q.due) (kept_aside k) c o q;
  lying = goes_long c o q;
}

-- a future is dropped, and the scheduler's waker goes
pub marked_stays : (f : ℕ) (q : Plain Output Waker) → RunsStay q (marked f q)
marked_stays f q = by (slice_get q.futures f)
  where
    by : (o : Option (Future Output Waker)) → RunsStay q (on o (λ x p. gone_at f x p) q)
    by None = record { runs = refl; kept = λ k. refl; lying = refl }
    by (Some x) = record { runs = refl; kept = λ k. refl; lying = refl }

pub given_up_stays : (c : Choice) (f : ℕ) (q : Plain Output Waker) → RunsStay q (plain_takes.given_up wakes c f (marked f q))
given_up_stays c f q = by (marked f q).is_static (marked f q) (marked_stays f q)
  where
    by : (b : Bool) (m : Plain Output Waker) → RunsStay q m
        → RunsStay q (if b then m else release wakes (tell wakes c) f m)
    by true m stay = stay
    by false m stay =
        let after = becomes wakes (tell wakes c) f (abstract.release (task f m)) m in
        stay_on q m after stay (becomes_stays c f (abstract.release (task f m)) m)
