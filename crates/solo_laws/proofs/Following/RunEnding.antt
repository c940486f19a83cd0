-- The poll or drop of a future that a run took ends as in a try, but that the run then goes on.
use Rattle.std.proofs.Common.{◌≡◌, ℕ, ◌≤◌, nat_lt, not, Bool, true, false, List, [], ◌∷◌, ◌++◌, length, Option, Some, None, append_assoc}
use Rattle.std.proofs.Common.{refl, sym}
use Rattle.std.proofs.Common.{ap, subst, ◌∙◌}
use Rattle.task_moves.specs.AbstractTask as abstract
use Rattle.task_moves.specs.AbstractTask.{Left}
use Rattle.task_moves.specs.AbstractTask.PendingEnd.{Drops as EndDrops, Queues as EndQueues, Forgets as EndForgets, Rests as EndRests}
use Rattle.solo.specs.declared.names.SoloWaker.{SoloWaker}
use Rattle.solo.specs.declared.owed.Lent.{Lent}
use Rattle.solo.specs.declared.runs.Runner.{Runner}
use Rattle.solo.specs.declared.solo.Solo.{Solo}
use Rattle.plain_scheduler.specs.State.{Answers, ARun, Choice, Closed, Code, Drops, Event, Gave, Loses, Plain, Run, Taker, Try, Yes}
use Rattle.plain_scheduler.specs.Lists.{on, or}
use Rattle.plain_scheduler.specs.Moves.{answers, becomes, called, changed, let_go, put, task, tell}
use Rattle.plain_scheduler.specs.Takes as takes
use Rattle.plain_scheduler.specs.Calls as calls
use Rattle.plain_scheduler.specs.Calls.{Call, Ends, Pends, does}
use Rattle.solo_laws.specs.Numbered.{IsNumbered}
use Rattle.solo_laws.specs.Owner.{HasRoom, Owner}
use Rattle.solo_laws.specs.Road.{awaiters, drops, lents, wakes}
use Rattle.solo_laws.specs.RunGoing.{Dropping, IsEnding, Losing, Polling, RunsOn, Stage, code_at, drop_ends, in_try, loss_ends, poll_ends}
use Rattle.solo_laws.specs.RunGoing.{taken_by}
use Rattle.solo_laws.specs.RunResting.{EachListed}
use Rattle.solo_laws.specs.Tabled.{Stands, goes_on}
use Rattle.solo_laws.proofs.Following.Counted.{other_events}
use Rattle.solo_laws.proofs.Following.Leaving.{heads, tails}
use Rattle.solo_laws.proofs.Following.RunGoing.{Reached, runs_on_alike}
use Rattle.solo_laws.proofs.Following.Listed.{has_own}
use Rattle.solo_laws.proofs.Following.RunPolling.{going_there, same_hands}

module _ {A : Type 0} where
  none_longer : (ys : List A) (y : A) → [] ≡ ys ++ y ∷ [] → ⊥
  none_longer [] y is = absurd cc
  none_longer (z ∷ ys) y is = absurd cc

  -- lists that end with one have the same before it
  pub same_last : (xs ys : List A) (x y : A) → xs ++ x ∷ [] ≡ ys ++ y ∷ [] → (xs ≡ ys) × (x ≡ y)
  same_last [] [] x y is = (refl, heads x y [] [] is)
  same_last [] (z ∷ ys) x y is = absurd (none_longer ys y (tails x z [] (ys ++ y ∷ []) is))
  same_last (z ∷ xs) [] x y is = absurd (none_longer xs x (sym (tails z y (xs ++ x ∷ []) [] is)))
  same_last (z ∷ xs) (v ∷ ys) x y is =
      let it = same_last xs ys x y (tails z v (xs ++ x ∷ []) (ys ++ y ∷ []) is) in
      (ap (λ u. u ∷ xs) (heads z v (xs ++ x ∷ []) (ys ++ y ∷ []) is) ∙ ap (λ us. v ∷ us) it.0, it.1)

module _ {T X : Type 0} where
  abbrev pub is_answer : Event T (SoloWaker X) → Bool
  is_answer (Answers answer) = true
  is_answer _ = false

  pub unlike : (e d : Event T (SoloWaker X)) → is_answer e ≡ true → is_answer d ≡ false → e ≡ d → ⊥
  unlike e d one two same = clash (sym one ∙ (ap is_answer same ∙ two))
    where
      clash : true ≡ false → ⊥
      clash is = absurd cc

  module _ (c : Choice) (r : ℕ) (w : SoloWaker X) where
    -- where the try is over the run goes on; else both are in this code, of which the last that is seen is no answer
    pub data EndsAs (a b : Plain T (SoloWaker X)) : Type 0 where
      is_over : (q : Plain T (SoloWaker X)) → a ≡ answers Yes q → b ≡ takes.next wakes c (Run r w) q → EndsAs a b
      stays_in : (stage : Stage T (SoloWaker X)) (q : Plain T (SoloWaker X)) (events : List (Event T (SoloWaker X)))
          (e : Event T (SoloWaker X)) → is_answer e ≡ false → q.events ≡ events ++ e ∷ []
          → a ≡ record q { inside = code_at stage Try ∷ q.inside } → b ≡ record q { inside = code_at stage (Run r w) ∷ q.inside }
          → EndsAs a b

    out_as : (left : Left T (SoloWaker X)) (q : Plain T (SoloWaker X))
        → EndsAs (takes.out wakes c left (Some Try) q) (takes.out wakes c left (Some (Run r w)) q)
    out_as left q = by left.dropped
      where
        by : (o : Option T)
            → EndsAs
            (or o (λ v. record q { events = q.events ++ Loses v ∷ []; inside = code_at (Losing left.called) Try ∷ q.inside })
            (takes.lost wakes c left.called (Some Try) (on left.let_go (let_go wakes (tell wakes c)) q)))
            (or o (λ v. record q { events = q.events ++ Loses v ∷ []; inside = code_at (Losing left.called) (Run r w) ∷ q.inside })
            (takes.lost wakes c left.called (Some (Run r w)) (on left.let_go (let_go wakes (tell wakes c)) q)))
        by (Some v) =
            stays_in (Losing left.called) (record q { events = q.events ++ Loses v ∷ [] }) q.events (Loses v) refl refl refl refl
        by None =
            is_over (on left.called (called wakes (tell wakes c)) (on left.let_go (let_go wakes (tell wakes c)) q)) refl refl

    pending_as : (e : abstract.PendingEnd) (f : ℕ) (q : Plain T (SoloWaker X))
        → EndsAs (calls.pending_by wakes c e f Try q) (calls.pending_by wakes c e f (Run r w) q)
    pending_as EndDrops f q =
        stays_in (Dropping f Closed) (record q { events = q.events ++ Drops f ∷ [] }) q.events (Drops f) refl refl refl refl
    pending_as EndForgets f q =
        let z = put f (record (task f q) { phase = abstract.Phase.Finished; closed = true }) q in
        stays_in (Dropping f Closed) (record z { events = z.events ++ Drops f ∷ [] }) z.events (Drops f) refl refl refl refl
    pending_as EndQueues f q = is_over (becomes wakes (tell wakes c) f (abstract.end_pending (task f q)).task q) refl refl
    pending_as EndRests f q = is_over (becomes wakes (tell wakes c) f (abstract.end_pending (task f q)).task q) refl refl

    module _ (p : Plain T (SoloWaker X)) (rest : List (Code T (SoloWaker X))) where
      abbrev out : Plain T (SoloWaker X)
      out = record p { inside = rest }

      pub ends_as : (stage : Stage T (SoloWaker X)) (call : Call T (SoloWaker X)) → IsEnding stage call
          → p.inside ≡ code_at stage (Run r w) ∷ rest → EndsAs (does wakes c call (in_try stage rest p)) (does wakes c call p)
      ends_as stage call (poll_ends f) is =
          subst (λ cs. EndsAs (does wakes c Pends (in_try (Polling f) rest p)) (calls.innermost wakes c cs (calls.pends wakes c) p))
          (sym is)
          (pending_as (abstract.pending_end (task f out)) f out)
      ends_as stage call (drop_ends f end) is =
          let q = takes.given_up wakes c f (changed (λ future. record future { is_dropped = true }) f out) in
          let left = takes.left_by wakes c end (task f q) in
          subst (λ cs. EndsAs (does wakes c Ends (in_try (Dropping f end) rest p)) (calls.innermost wakes c cs (calls.ends wakes c) p))
          (sym is) (out_as left (put f left.task q))
      ends_as stage call (loss_ends awaiter) is =
          subst (λ cs. EndsAs (does wakes c Ends (in_try (Losing awaiter) rest p)) (calls.innermost wakes c cs (calls.ends wakes c) p))
          (sym is) (is_over (on awaiter (called wakes (tell wakes c)) out) refl refl)

  -- whoever takes it, the same futures are in hand
  same_lents : (stage : Stage T (SoloWaker X)) (by other : Taker (SoloWaker X)) (rest : List (Code T (SoloWaker X)))
      → (lents (code_at stage by ∷ rest) ≡ lents (code_at stage other ∷ rest))
      × (drops (code_at stage by ∷ rest) ≡ drops (code_at stage other ∷ rest))
      × (awaiters (code_at stage by ∷ rest) ≡ awaiters (code_at stage other ∷ rest))
  same_lents (Polling f) by other rest = (refl, refl, refl)
  same_lents (Dropping f Closed) by other rest = (refl, refl, refl)
  same_lents (Dropping f (Gave v)) by other rest = (refl, refl, refl)
  same_lents (Losing awaiter) by other rest = (refl, refl, refl)

module _ {F T X : Type 0} (its : ℕ → Lent) (owner : Owner) (c : Choice) (s : Solo F T X) (p : Plain T (SoloWaker X))
    (both : Stands its s p) (n : IsNumbered owner.number s.sleepers p.lying) (many : length p.lying ≤ c.tells)
    (stage : Stage T (SoloWaker X))
    (r : ℕ) (w : SoloWaker X) (rest : List (Code T (SoloWaker X))) (call : Call T (SoloWaker X))
    (is : p.inside ≡ code_at stage (Run r w) ∷ rest) (ends : IsEnding stage call) where
  abbrev tried : Plain T (SoloWaker X)
  tried = in_try stage rest p

  pub tried_both : Stands its s tried
  tried_both =
      let same = same_lents stage Try (Run r w) rest in
      same_hands its s p both c (code_at stage Try ∷ rest) (same.0 ∙ sym (ap (λ cs. lents cs) is)) (same.1 ∙ sym (ap (λ cs. drops cs) is))
      (same.2 ∙ sym (ap (λ cs. awaiters cs) is))

  abbrev a : Plain T (SoloWaker X)
  a = does wakes c call tried

  abbrev b : Plain T (SoloWaker X)
  b = does wakes c call p

  how : EndsAs c r w a b
  how = ends_as c r w p rest stage call ends is

  -- where the last that is shown is no answer, both are in that code
  pub stays_alike : (shown : List (Event T (SoloWaker X))) (e : Event T (SoloWaker X)) (z : Solo F T X) → is_answer e ≡ false
      → Stands its z a → a.events ≡ p.events ++ (shown ++ e ∷ []) → IsNumbered owner.number z.sleepers a.lying
      → Reached its p (shown ++ e ∷ []) owner.number z b
  stays_alike shown e z unanswered stands seen numbered = by how
    where
      seen_so : a.events ≡ (p.events ++ shown) ++ e ∷ []
      seen_so = seen ∙ sym (append_assoc p.events shown (e ∷ []))

      by : EndsAs c r w a b → Reached its p (shown ++ e ∷ []) owner.number z b
      by (is_over q one two) =
          absurd (unlike (Answers Yes) e refl unanswered
          (same_last q.events (p.events ++ shown) (Answers Yes) e
          (sym (ap (λ (q : Plain T (SoloWaker X)). q.events) one) ∙ seen_so)).1)
      by (stays_in stage' q events e' not_so last one two) =
          let same = same_lents stage' (Run r w) Try q.inside in
          let there : Stands its z (record q { inside = code_at stage' Try ∷ q.inside }) = subst (Stands its z) one stands in
          subst (λ q. Reached its p (shown ++ e ∷ []) owner.number z q) (sym two) (
            (
              same_hands its z (record q { inside = code_at stage' Try ∷ q.inside }) there c (code_at stage' (Run r w) ∷ q.inside) same.0
                  same.1 same.2,
              sym (ap (λ (q : Plain T (SoloWaker X)). q.events) one) ∙ seen,
            ),
            subst (λ (q : Plain T (SoloWaker X)). IsNumbered owner.number z.sleepers q.lying) one numbered,
          )

  -- where it is an answer the run goes on
  pub goes_next : (shown : List (Event T (SoloWaker X))) → a.events ≡ p.events ++ (shown ++ Answers Yes ∷ [])
      → takes.next wakes c (Run r w) (record a { events = p.events ++ shown }) ≡ b
  goes_next shown seen = by how
    where
      seen_so : a.events ≡ (p.events ++ shown) ++ Answers Yes ∷ []
      seen_so = seen ∙ sym (append_assoc p.events shown (Answers Yes ∷ []))

      by : EndsAs c r w a b → takes.next wakes c (Run r w) (record a { events = p.events ++ shown }) ≡ b
      by (stays_in stage' q events e not_so last one two) =
          absurd (unlike (Answers Yes) e refl not_so
          (sym (same_last events (p.events ++ shown) e (Answers Yes)
          (sym last ∙ (sym (ap (λ (q : Plain T (SoloWaker X)). q.events) one) ∙ seen_so))).1))
      by (is_over q one two) =
          let before =
          (same_last q.events (p.events ++ shown) (Answers Yes) (Answers Yes)
          (sym (ap (λ (q : Plain T (SoloWaker X)). q.events) one) ∙ seen_so)).0 in
          let mid_is : record a { events = p.events ++ shown } ≡ q =
          ap (λ (q : Plain T (SoloWaker X)). record q { events = p.events ++ shown }) one
          ∙ ap (λ es. record q { events = es }) (sym before) in
          ap (takes.next wakes c (Run r w)) mid_is ∙ sym two

  pub goes_alike : (runner : Runner) → runner.number ≡ r → (shown others : List (Event T (SoloWaker X))) (now : Owner)
      (y z : Solo F T X) → Stands its y a → a.events ≡ p.events ++ (shown ++ Answers Yes ∷ []) → IsNumbered owner.number y.sleepers a.lying
      → EachListed y.runs → has_own r y.runs ≡ true → HasRoom (ARun runner.number) y a
      → nat_lt (taken_by runner.number a) 200 ≡ not (owner.gives_way runner.number) → length a.lying ≤ c.tells
      → RunsOn its owner c runner w y (record a { events = p.events ++ shown }) others now z
      → Reached its p (shown ++ others) now.number z b
  goes_alike runner same shown others now y z stands seen numbered listed has room way few on =
      let it =
      subst (λ q. Reached its mid others now.number z q) (ap (λ m. takes.next wakes c (Run m w) mid) same ∙ goes_next shown seen) next in
      ((it.0.0, it.0.1 ∙ append_assoc p.events shown others), it.1)
    where
      mid : Plain T (SoloWaker X)
      mid = record a { events = p.events ++ shown }

      mid_both : Stands its y mid
      mid_both = other_events its c y a (p.events ++ shown) stands

      goes : goes_on runner.number mid ≡ true
      goes = going_there its y mid mid_both runner.number (ap (λ n. has_own n y.runs) same ∙ has)

      next : Reached its mid others now.number z (takes.next wakes c (Run runner.number w) mid)
      next = runs_on_alike its owner c runner w y mid mid_both numbered listed few goes room way others now z on
