-- No future is lost by a list of calls; so each entry has its future, where no user's code has one in hand.
use Rattle.std.proofs.Common.{◌≡◌, ℕ, Bool, false, true, List, ◌∷◌, Some, refl, sym, subst}
use Rattle.solo.specs.declared.names.SoloWaker.{SoloWaker}
use Rattle.solo.specs.declared.owed.Lent.{Lent}
use Rattle.solo.specs.declared.solo.Solo.{Solo}
use Rattle.plain_scheduler.specs.State.{Choice, Closed, Code, Drop, DropOwn, End, Event, Gave, Lose, Plain, Poll, PollOwn, Run, Taker}
use Rattle.plain_scheduler.specs.Calls.{Call, EndsWith, Ends, Pends, course, does, new}
use Rattle.plain_scheduler.specs.Calls as plain
use Rattle.solo_laws.specs.Courses.{Acts, Leads, Makes, cancels, copies, detaches, drops_handle, ends_closed, ends_given, gives, leads}
use Rattle.solo_laws.specs.Courses.{leaks, looks, loses, makes, makes_no_run, makes_no_tick, makes_run, makes_tick, over_dropped}
use Rattle.solo_laws.specs.Courses.{over_polled, own_ready, pends, polls, refuses, releases, run_dropped, run_drops, run_goes_on}
use Rattle.solo_laws.specs.Courses.{run_leaves, run_looks, run_loses, run_polled, spawns, stays, takes, tick_leaves, tick_lies_refused}
use Rattle.solo_laws.specs.Courses.{tick_refused, tick_rests, tick_takes, uses, wakes}
use Rattle.solo_laws.specs.NoneLost.{NoneIsLost}
use Rattle.solo_laws.specs.Owner.{Owner}
use Rattle.solo_laws.specs.Road.{wakes as wakes_of}
use Rattle.solo_laws.specs.RunGoing.{Dropping, IsEnding, Polling, Stage, code_at, drop_ends, loss_ends, poll_ends}
use Rattle.solo_laws.proofs.Following.Kept.{Kept, more_aside}
use Rattle.solo_laws.proofs.Following.BeginKept.{call_kept, is_begun}
use Rattle.solo_laws.proofs.Following.NoneLost.{closed_left, drop_kept, dropping_kept, given_left, goes_kept, lost_kept, none_left}
use Rattle.solo_laws.proofs.Following.NoneLost.{pending_kept, poll_left, take_kept}

abbrev nobody : ℕ → Bool
nobody f = false

module _ {T X : Type 0} where
  abbrev Calls : Choice → Call T (SoloWaker X) → Plain T (SoloWaker X) → Type 0
  Calls c call p = NoneIsLost p → NoneIsLost (does wakes_of c call p)

  any_call : (c : Choice) (call : Call T (SoloWaker X)) (p : Plain T (SoloWaker X)) → is_begun c call ≡ true → Calls c call p
  any_call c call p is has = call_kept c call is p nobody has

  module _ (c : Choice) (p : Plain T (SoloWaker X)) (code : Code T (SoloWaker X)) (rest : List (Code T (SoloWaker X)))
      (is : p.inside ≡ code ∷ rest) where
    abbrev out : Plain T (SoloWaker X)
    out = record p { inside = rest }

    pending : NoneIsLost (plain.pends wakes_of c code out) → NoneIsLost (does wakes_of c Pends p)
    pending has = subst (λ cs. NoneIsLost (plain.innermost wakes_of c cs (plain.pends wakes_of c) p)) (sym is) has

    giving : (v : T) → NoneIsLost (plain.gives wakes_of c v code out) → NoneIsLost (does wakes_of c (EndsWith v) p)
    giving v has = subst (λ cs. NoneIsLost (plain.innermost wakes_of c cs (plain.gives wakes_of c v) p)) (sym is) has

    ending : NoneIsLost (plain.ends wakes_of c code out) → NoneIsLost (does wakes_of c Ends p)
    ending has = subst (λ cs. NoneIsLost (plain.innermost wakes_of c cs (plain.ends wakes_of c) p)) (sym is) has

  -- the end of the poll or drop of one that was taken
  ends_kept : (c : Choice) (p : Plain T (SoloWaker X)) (stage : Stage T (SoloWaker X)) (by : Taker (SoloWaker X))
      (rest : List (Code T (SoloWaker X))) (call : Call T (SoloWaker X)) → p.inside ≡ code_at stage by ∷ rest → IsEnding stage call
      → Calls c call p
  ends_kept c p stage by rest call is (poll_ends f) has =
      pending c p (Poll f by) rest is
      (pending_kept c f by (record p { inside = rest }) nobody (poll_left c f p rest by is nobody has))
  ends_kept c p stage by rest call is (drop_ends f end) has =
      ending c p (Drop f end by) rest is (drop_kept c f end by (record p { inside = rest }) nobody (left end is))
    where
      left : (end : End T) → p.inside ≡ Drop f end by ∷ rest → Kept (more_aside f nobody) (record p { inside = rest })
      left Closed is = closed_left c f p rest by is nobody has
      left (Gave v) is = given_left c f p rest v by is nobody has
  ends_kept c p stage by rest call is (loss_ends awaiter) has =
      ending c p (Lose awaiter (Some by)) rest is
      (lost_kept c awaiter (Some by) (record p { inside = rest }) nobody
      (none_left c p (Lose awaiter (Some by)) rest (λ g. refl) is nobody has))

  -- its own future is pending, and it takes one
  run_kept : (c : Choice) (p : Plain T (SoloWaker X)) (r : ℕ) (w : SoloWaker X) (rest : List (Code T (SoloWaker X)))
      → p.inside ≡ PollOwn r w ∷ rest → Calls c Pends p
  run_kept c p r w rest is has =
      pending c p (PollOwn r w) rest is
      (take_kept c (Run r w) (record p { inside = rest }) nobody (none_left c p (PollOwn r w) rest (λ g. refl) is nobody has))

-- of a new one
new_kept : (T X : Type 0) (limit : ℕ) (is_static : Bool) → NoneIsLost {T = T} {A = SoloWaker X} (new limit is_static)
new_kept T X limit is_static f live = absurd cc

module _ {F T X : Type 0} (its : ℕ → Lent) where
  makes_kept : (c : Choice) (s z : Solo F T X) (p : Plain T (SoloWaker X)) (call : Call T (SoloWaker X))
      (shown : List (Event T (SoloWaker X))) → Makes its c s p call shown z → Calls c call p
  makes_kept c s z p call shown (spawns mark future spawned z' how is granted life few) = any_call c (plain.Call.Spawn mark) p refl
  makes_kept c s z p call shown (refuses mark future refused z' how fits) = any_call c (plain.Call.Spawn mark) p refl
  makes_kept c s z p call shown (takes first life) = any_call c plain.Call.TryTick p refl
  makes_kept c s z p call shown looks = any_call c plain.Call.IsEmpty p refl
  makes_kept c s z p call shown (wakes f at life) = any_call c (plain.Call.Wake f) p refl
  makes_kept c s z p call shown (uses f at life) = any_call c (plain.Call.Use f) p refl
  makes_kept c s z p call shown (releases f at life) = any_call c (plain.Call.Release f) p refl
  makes_kept c s z p call shown (copies f at says) = any_call c (plain.Call.Copy f) p refl
  makes_kept c s z p call shown (polls f w at handle named life) = any_call c (plain.Call.PollHandle f w) p refl
  makes_kept c s z p call shown (cancels f at life) = any_call c (plain.Call.Cancel f) p refl
  makes_kept c s z p call shown (detaches f at life) = any_call c (plain.Call.Detach f) p refl
  makes_kept c s z p call shown (drops_handle f at life) = any_call c (plain.Call.DropHandle f) p refl
  makes_kept c s z p call shown (leaks owned life) = any_call c plain.Call.Leak p refl
  makes_kept c s z p call shown (pends f by rest future one is life) = ends_kept c p (Polling f) by rest Pends is (poll_ends f)
  makes_kept c s z p call shown (gives f by rest v is) =
      λ has. giving c p (Poll f by) rest is v
      (dropping_kept c f (Gave v) by (record p { inside = rest }) nobody (poll_left c f p rest by is nobody has))
  makes_kept c s z p call shown (ends_given f v by rest one is life) =
      ends_kept c p (Dropping f (Gave v)) by rest Ends is (drop_ends f (Gave v))
  makes_kept c s z p call shown (ends_closed f by rest one is life) =
      ends_kept c p (Dropping f Closed) by rest Ends is (drop_ends f Closed)
  makes_kept c s z p call shown (loses awaiter by rest one is life) =
      λ has. ending c p (Lose awaiter by) rest is
      (lost_kept c awaiter by (record p { inside = rest }) nobody (none_left c p (Lose awaiter by) rest (λ g. refl) is nobody has))

  acts_kept : (owner : Owner) (c : Choice) (s : Solo F T X) (p : Plain T (SoloWaker X)) (now : Owner) (z : Solo F T X)
      (call : Call T (SoloWaker X)) (shown : List (Event T (SoloWaker X))) → Acts its owner c s p call shown now z → Calls c call p
  acts_kept owner c s p now z call shown (makes call' shown' z' how) = makes_kept c s z' p call' shown' how
  acts_kept owner c s p now z call shown (makes_tick t new granted) = any_call c plain.Call.NewTick p refl
  acts_kept owner c s p now z call shown (tick_takes t w task lives found first life) = any_call c (plain.Call.PollTick t w) p refl
  acts_kept owner c s p now z call shown (tick_rests t w lives none first granted names more life) =
      any_call c (plain.Call.PollTick t w) p refl
  acts_kept owner c s p now z call shown (makes_run granted few) = any_call c plain.Call.NewRun p refl
  acts_kept owner c s p now z call shown (makes_no_run refused) = any_call c plain.Call.NewRun p refl
  acts_kept owner c s p now z call shown (run_polled runner w going free) = any_call c (plain.Call.PollRun runner.number w) p refl
  acts_kept owner c s p now z call shown (over_polled r w over) = any_call c (plain.Call.PollRun r w) p refl
  acts_kept owner c s p now z call shown (own_ready r w v rest is) =
      λ has. giving c p (PollOwn r w) rest is v (none_left c p (PollOwn r w) rest (λ g. refl) is nobody has)
  acts_kept owner c s p now z call shown (run_looks runner w rest shown' now' z' its_runner is how) = run_kept c p runner.number w rest is
  acts_kept owner c s p now z call shown (run_goes_on stage runner w rest call' first others now' y z' its_runner is ends how on) =
      ends_kept c p stage (Run runner.number w) rest call' is ends
  acts_kept owner c s p now z call shown (run_drops stage r w rest call' first f z' is ends how) =
      ends_kept c p stage (Run r w) rest call' is ends
  acts_kept owner c s p now z call shown (run_loses stage r w rest call' first v z' is ends how) =
      ends_kept c p stage (Run r w) rest call' is ends
  acts_kept owner c s p now z call shown (run_dropped r going free) = any_call c (plain.Call.DropRun r) p refl
  acts_kept owner c s p now z call shown (over_dropped r over) = any_call c (plain.Call.DropRun r) p refl
  acts_kept owner c s p now z call shown (run_leaves runner answer rest is life) =
      λ has. ending c p (DropOwn runner.number answer) rest is
      (goes_kept c runner.number (record p { inside = rest }) nobody
      (none_left c p (DropOwn runner.number answer) rest (λ g. refl) is nobody has))
  acts_kept owner c s p now z call shown (makes_no_tick refused) = any_call c plain.Call.NewTick p refl
  acts_kept owner c s p now z call shown (tick_refused t w lives none first refused) = any_call c (plain.Call.PollTick t w) p refl
  acts_kept owner c s p now z call shown (tick_lies_refused t w lives none first refused names again more life) =
      any_call c (plain.Call.PollTick t w) p refl
  acts_kept owner c s p now z call shown (tick_leaves t lives life) = any_call c (plain.Call.DropTick t) p refl

  leads_kept : (list : List (Choice × Call T (SoloWaker X))) (owner last : Owner) (s z : Solo F T X) (p : Plain T (SoloWaker X))
      (shown : List (Event T (SoloWaker X))) → NoneIsLost p → Leads its list owner s p shown last z
      → NoneIsLost (course wakes_of list p)
  leads_kept list owner last s z p shown has (stays owner' s' p') = has
  leads_kept list owner last s z p shown has (leads c call rest before now later s' y z' p' first others many acts how) =
      leads_kept rest now later y z' (does wakes_of c call p') others (acts_kept before c s' p' now y call first acts has) how

  -- from a new one on
  pub none_lost : (limit : ℕ) (is_static : Bool) (list : List (Choice × Call T (SoloWaker X))) (owner last : Owner)
      (s z : Solo F T X) (shown : List (Event T (SoloWaker X))) → Leads its list owner s (new limit is_static) shown last z
      → NoneIsLost (course wakes_of list (new limit is_static))
  none_lost limit is_static list owner last s z shown how =
      leads_kept list owner last s z (new limit is_static) shown (new_kept T X limit is_static) how
