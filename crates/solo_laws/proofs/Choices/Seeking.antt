-- In which calls the plain scheduler comes to a search, by what its owner does: where a user's code ends as it would in a try, and the
-- try is over.
use Rattle.std.proofs.Common.{◌≡◌, ℕ, true, false, List, [], ◌∷◌, ◌++◌, Option, Some, None, refl, sym, ap, subst}
use Rattle.std.proofs.Common.{◌∙◌}
use Rattle.task_moves.specs.AbstractTask as abstract
use Rattle.task_moves.specs.AbstractTask.{Left}
use Rattle.task_moves.specs.AbstractTask.PendingEnd.{Drops as EndDrops, Queues as EndQueues, Forgets as EndForgets, Rests as EndRests}
use Rattle.solo.specs.declared.names.SoloWaker.{SoloWaker}
use Rattle.solo.specs.declared.owed.Lent.{Lent}
use Rattle.solo.specs.declared.solo.Solo.{Solo}
use Rattle.plain_scheduler.specs.State.{Choice, Code, Drop, Drops, End, Event, Lose, Loses, Plain, Poll, Run, Taker, Tick, Try, Yes}
use Rattle.plain_scheduler.specs.Lists.{on, or}
use Rattle.plain_scheduler.specs.Moves.{answers, becomes, called, changed, let_go, put, task, tell}
use Rattle.plain_scheduler.specs.Takes as takes
use Rattle.plain_scheduler.specs.Calls as calls
use Rattle.plain_scheduler.specs.Calls.{Call, Ends, EndsWith, Pends, does}
use Rattle.plain_scheduler.specs.Searches.{Search, searches, searches_behind, searches_in, searches_inside, searches_of, behind_drop}
use Rattle.plain_scheduler.specs.Searches.{behind_loss, behind_out, behind_pending}
use Rattle.solo_laws.specs.Alike.{takes_one}
use Rattle.solo_laws.specs.Courses as courses
use Rattle.solo_laws.specs.Courses.{Makes}
use Rattle.solo_laws.specs.Dropping.{ends_one}
use Rattle.solo_laws.specs.Road.{wakes}
use Rattle.solo_laws.specs.RunGoing.{IsEnding, Stage, code_at, drop_ends, in_try, loss_ends, poll_ends}
use Rattle.solo_laws.proofs.Following.RunEnding.{is_answer}

module _ {T X : Type 0} (c : Choice) where
  -- another call than the end of a user's code
  pub silent : (call : Call T (SoloWaker X)) → ((code : Code T (SoloWaker X)) (q : Plain T (SoloWaker X)) → searches_in wakes c call code
      q ≡ None)
      → (p : Plain T (SoloWaker X)) → searches wakes c call p ≡ None
  silent call none p = by p.inside
    where
      by : (cs : List (Code T (SoloWaker X))) → searches_inside wakes c call cs p ≡ None
      by [] = refl
      by (code ∷ rest) = none code (record p { inside = rest })

  -- nobody but a run searches
  not_of : (by : Taker (SoloWaker X)) → takes_one by ≡ true → (q : Plain T (SoloWaker X)) → searches_of wakes c by q ≡ None
  not_of Try one q = refl
  not_of (Tick t w) one q = refl
  not_of (Run r w) one q = absurd cc

  not_behind : (by : Taker (SoloWaker X)) → takes_one by ≡ true → (o : Option (Plain T (SoloWaker X)))
      → searches_behind wakes c by o ≡ None
  not_behind by one None = refl
  not_behind by one (Some q) = not_of by one q

  -- a user's code in a try or a tick ends
  inside : (call : Call T (SoloWaker X)) (code : Code T (SoloWaker X)) (rest : List (Code T (SoloWaker X))) (p : Plain T (SoloWaker X))
      → p.inside ≡ code ∷ rest → searches_in wakes c call code (record p { inside = rest }) ≡ None → searches wakes c call p ≡ None
  inside call code rest p is none = ap (λ cs. searches_inside wakes c call cs p) is ∙ none

  pub makes_none : {F : Type 0} (its : ℕ → Lent) (s z : Solo F T X) (p : Plain T (SoloWaker X)) (call : Call T (SoloWaker X))
      (shown : List (Event T (SoloWaker X))) → Makes its c s p call shown z → searches wakes c call p ≡ None
  makes_none its s z p call shown (courses.spawns mark future spawned y so name granted life few) = silent call (λ code q. refl) p
  makes_none its s z p call shown (courses.refuses mark future refused y so memory) = silent call (λ code q. refl) p
  makes_none its s z p call shown (courses.takes first life) = silent call (λ code q. refl) p
  makes_none its s z p call shown courses.looks = silent call (λ code q. refl) p
  makes_none its s z p call shown (courses.wakes f known life) = silent call (λ code q. refl) p
  makes_none its s z p call shown (courses.uses f known life) = silent call (λ code q. refl) p
  makes_none its s z p call shown (courses.releases f known life) = silent call (λ code q. refl) p
  makes_none its s z p call shown (courses.copies f known refusal) = silent call (λ code q. refl) p
  makes_none its s z p call shown (courses.polls f w known handle names life) = silent call (λ code q. refl) p
  makes_none its s z p call shown (courses.cancels f known life) = silent call (λ code q. refl) p
  makes_none its s z p call shown (courses.detaches f known life) = silent call (λ code q. refl) p
  makes_none its s z p call shown (courses.drops_handle f known life) = silent call (λ code q. refl) p
  makes_none its s z p call shown (courses.leaks owned life) = silent call (λ code q. refl) p
  makes_none its s z p call shown (courses.pends f by rest future one is life) =
      let q : Plain T (SoloWaker X) = record p { inside = rest } in
      inside Pends (Poll f by) rest p is (not_behind by one (behind_pending wakes c (abstract.pending_end (task f q)) f q))
  makes_none its s z p call shown (courses.gives f by rest v is) = silent call (λ code q. refl) p
  makes_none its s z p call shown (courses.ends_given f v by rest one is life) =
      let q : Plain T (SoloWaker X) = record p { inside = rest } in
      inside Ends (Drop f (End.Gave v) by) rest p is (not_behind by one (behind_drop wakes c f (End.Gave v) q))
  makes_none its s z p call shown (courses.ends_closed f by rest one is life) =
      let q : Plain T (SoloWaker X) = record p { inside = rest } in
      inside Ends (Drop f End.Closed by) rest p is (not_behind by one (behind_drop wakes c f End.Closed q))
  makes_none its s z p call shown (courses.loses awaiter by rest one is life) = lost by one is
    where
      q : Plain T (SoloWaker X)
      q = record p { inside = rest }

      lost : (by : Option (Taker (SoloWaker X))) → ends_one by ≡ true → p.inside ≡ Lose awaiter by ∷ rest → searches wakes c Ends p ≡ None
      lost None one is = inside Ends (Lose awaiter None) rest p is refl
      lost (Some by) one is = inside Ends (Lose awaiter (Some by)) rest p is (not_of by one (behind_loss wakes c awaiter q))

  module _ (r : ℕ) (w : SoloWaker X) where
    -- where the try is over the run searches, but one that has taken 200; else the last that is seen is no answer
    pub data SeeksAs (a : Plain T (SoloWaker X)) (sought : Option (Search T (SoloWaker X))) : Type 0 where
      is_over : (q : Plain T (SoloWaker X)) → a ≡ answers Yes q → sought ≡ searches_of wakes c (Run r w) q → SeeksAs a sought
      stays_in : (events : List (Event T (SoloWaker X))) (e : Event T (SoloWaker X)) → is_answer e ≡ false
          → a.events ≡ events ++ e ∷ [] → sought ≡ None → SeeksAs a sought

    out_as : (left : Left T (SoloWaker X)) (q : Plain T (SoloWaker X))
        → SeeksAs (takes.out wakes c left (Some Try) q) (searches_behind wakes c (Run r w) (behind_out wakes c left q))
    out_as left q = by left.dropped
      where
        z : Plain T (SoloWaker X)
        z = on left.called (called wakes (tell wakes c)) (on left.let_go (let_go wakes (tell wakes c)) q)

        by : (o : Option T)
            → SeeksAs
            (or o (λ v. record q { events = q.events ++ Loses v ∷ []; inside = Lose left.called (Some Try) ∷ q.inside })
            (takes.lost wakes c left.called (Some Try) (on left.let_go (let_go wakes (tell wakes c)) q)))
            (searches_behind wakes c (Run r w) (or o (λ v. None) (Some z)))
        by (Some v) = stays_in q.events (Loses v) refl refl refl
        by None = is_over z refl refl

    pending_as : (e : abstract.PendingEnd) (f : ℕ) (q : Plain T (SoloWaker X))
        → SeeksAs (calls.pending_by wakes c e f Try q) (searches_behind wakes c (Run r w) (behind_pending wakes c e f q))
    pending_as EndDrops f q = stays_in q.events (Drops f) refl refl refl
    pending_as EndForgets f q =
        let z = put f (record (task f q) { phase = abstract.Phase.Finished; closed = true }) q in
        stays_in z.events (Drops f) refl refl refl
    pending_as EndQueues f q = is_over (becomes wakes (tell wakes c) f (abstract.end_pending (task f q)).task q) refl refl
    pending_as EndRests f q = is_over (becomes wakes (tell wakes c) f (abstract.end_pending (task f q)).task q) refl refl

    module _ (p : Plain T (SoloWaker X)) (rest : List (Code T (SoloWaker X))) where
      abbrev out : Plain T (SoloWaker X)
      out = record p { inside = rest }

      pub seeks_as : (stage : Stage T (SoloWaker X)) (call : Call T (SoloWaker X)) → IsEnding stage call
          → p.inside ≡ code_at stage (Run r w) ∷ rest → SeeksAs (does wakes c call (in_try stage rest p)) (searches wakes c call p)
      seeks_as stage call (poll_ends f) is =
          subst (λ cs. SeeksAs (calls.pending_by wakes c (abstract.pending_end (task f out)) f Try out)
          (searches_inside wakes c Pends cs p))
          (sym is) (pending_as (abstract.pending_end (task f out)) f out)
      seeks_as stage call (drop_ends f end) is =
          let q = takes.given_up wakes c f (changed (λ future. record future { is_dropped = true }) f out) in
          let left = takes.left_by wakes c end (task f q) in
          subst (λ cs. SeeksAs (takes.out wakes c left (Some Try) (put f left.task q)) (searches_inside wakes c Ends cs p))
          (sym is) (out_as left (put f left.task q))
      seeks_as stage call (loss_ends awaiter) is =
          subst (λ cs. SeeksAs (takes.lost wakes c awaiter (Some Try) out) (searches_inside wakes c Ends cs p))
          (sym is) (is_over (on awaiter (called wakes (tell wakes c)) out) refl refl)
