-- Where an owner's run searches, the plain scheduler comes to a search by it, and stands there alike; and nowhere else.
use Rattle.std.proofs.Common.{◌≡◌, ℕ, ◌≤◌, nat_lt, not, if◌then◌else◌, true, false, List, [], ◌∷◌, ◌++◌, length, slice_get, Option}
use Rattle.std.proofs.Common.{Some, None, append_assoc, refl, sym, ap, subst, ◌∙◌}
use Rattle.solo.specs.declared.names.SoloWaker.{SoloWaker}
use Rattle.solo.specs.declared.owed.Lent.{Lent}
use Rattle.solo.specs.declared.runs.Runner.{Runner}
use Rattle.solo.specs.declared.solo.Solo.{Solo}
use Rattle.plain_scheduler.specs.State.{Answers, Choice, Code, Drops, Event, Loses, Plain, PollOwn, Run, Running, Yes}
use Rattle.plain_scheduler.specs.Lists.{or}
use Rattle.plain_scheduler.specs.Calls.{Call, Ends, Pends, does}
use Rattle.plain_scheduler.specs.Searches.{Search, searches, searches_inside, searches_of}
use Rattle.solo_laws.specs.Busy.{busy_in}
use Rattle.solo_laws.specs.Choosing.{SearchesAt}
use Rattle.solo_laws.specs.Courses as courses
use Rattle.solo_laws.specs.Courses.{Acts, Makes}
use Rattle.solo_laws.specs.Making.{ActsFrom, RunsFrom, WalksFrom, behind}
use Rattle.solo_laws.specs.Owner.{HasRunner, Owner}
use Rattle.solo_laws.specs.Road.{awaiters, drops, lents, wakes}
use Rattle.solo_laws.specs.RunGoing.{IsEnding, RunsOn, Searches, Stage, code_at, gives_way, in_try, looks_on}
use Rattle.solo_laws.specs.RunGoing.{is_refused, lies_refused, rests, robs_another, taken_by, takes_common, takes_own}
use Rattle.solo_laws.specs.RunResting.{EachListed}
use Rattle.solo_laws.specs.Tabled.{Stands}
use Rattle.solo_laws.proofs.CallTurns.{ends_turn}
use Rattle.solo_laws.proofs.Choices.Finding.{counts_so}
use Rattle.solo_laws.proofs.Choices.Seeking.{SeeksAs, is_over, makes_none, seeks_as, silent, stays_in}
use Rattle.solo_laws.proofs.Following.Counted.{other_events}
use Rattle.solo_laws.proofs.Following.Crowding.{is_among}
use Rattle.solo_laws.proofs.Following.Housed.{still_housed}
use Rattle.solo_laws.proofs.Following.Keeping.{keeps, makes_numbered}
use Rattle.solo_laws.proofs.Following.Listed.{each_listed, has_own}
use Rattle.solo_laws.proofs.Following.Owns.{numbers}
use Rattle.solo_laws.proofs.Following.Polled.{busy, polled}
use Rattle.solo_laws.proofs.Following.RunEnding.{is_answer, same_last, tried_both, unlike}
use Rattle.solo_laws.proofs.Following.RunPolling.{going_there, same_hands}
use Rattle.solo_laws.proofs.Showing.Courses.{Known, makes_alike, run_room}
use Rattle.solo_laws.proofs.Showing.StillListed.{one_in, stage_codes}

module _ {F T X : Type 0} (its : ℕ → Lent) (owner : Owner) (c : Choice) (s : Solo F T X) (p : Plain T (SoloWaker X)) where
  -- no run searches, and none has counted any; or one does, and its walks begin at these words
  pub data SearchedFrom (one two : ℕ) (call : Call T (SoloWaker X)) (now : Owner) (z : Solo F T X) : Type 0 where
    none_from : searches wakes c call p ≡ None → ((r : ℕ) → now.runner r ≡ owner.runner r) → SearchedFrom one two call now z
    one_from : (x : Search T (SoloWaker X)) → searches wakes c call p ≡ Some x → (at : SearchesAt its owner c s x now z)
        → WalksFrom its owner c at.before x.at at.runner x.waker one two at.shown now z at.searches → SearchedFrom one two call now z

  pub data Searched (call : Call T (SoloWaker X)) (now : Owner) (z : Solo F T X) : Type 0 where
    no_search : searches wakes c call p ≡ None → ((r : ℕ) → now.runner r ≡ owner.runner r) → Searched call now z
    a_search : (x : Search T (SoloWaker X)) → searches wakes c call p ≡ Some x → SearchesAt its owner c s x now z → Searched call now z

  -- from some words on each walk goes
  walks_from : (runner : Runner) (w : SoloWaker X) (y : Solo F T X) (q : Plain T (SoloWaker X)) (shown : List (Event T (SoloWaker X)))
      (now : Owner) (z : Solo F T X) (how : Searches its owner c runner w y q shown now z)
      → (one : ℕ) × (two : ℕ) × WalksFrom its owner c y q runner w one two shown now z how
  walks_from runner w y q shown now z (takes_own start task first keeps life) = (start, 0, refl)
  walks_from runner w y q shown now z (takes_common start task first found turn keeps life) = (start, 0, refl)
  walks_from runner w y q shown now z (robs_another start task first found turn walks robs moves keeps life) = (start, 0, refl)
  walks_from runner w y q shown now z (rests first second missed turn granted names more life) = (first, second, (refl, refl))
  walks_from runner w y q shown now z (is_refused start missed turn refused) = (start, 0, refl)
  walks_from runner w y q shown now z (lies_refused first second missed turn refused names again more life) =
      (first, second, (refl, refl))

  runs_from : (runner : Runner) (w : SoloWaker X) (y : Solo F T X) (q : Plain T (SoloWaker X)) (shown : List (Event T (SoloWaker X)))
      (now : Owner) (z : Solo F T X) (on : RunsOn its owner c runner w y q shown now z)
      → (one : ℕ) × (two : ℕ) × RunsFrom its owner c y q runner w one two shown now z on
  runs_from runner w y q shown now z (looks_on shown' now' z' less how) = walks_from runner w y q shown' now' z' how
  runs_from runner w y q shown now z (gives_way enough names life) = (0, 0, tt)

  acts_from : (now : Owner) (z : Solo F T X) (call : Call T (SoloWaker X)) (shown : List (Event T (SoloWaker X)))
      (acts : Acts its owner c s p call shown now z)
      → (one : ℕ) × (two : ℕ) × ActsFrom its c s p one two owner call shown now z acts
  acts_from now z call shown (courses.run_looks runner w rest shown' now' z' mine is how) =
      walks_from runner w s (record p { inside = rest }) shown' now' z' how
  acts_from now z call shown (courses.run_goes_on stage runner w rest call' first more now' y z' mine is ends how on) =
      runs_from runner w y (behind its c s p stage rest call' first) more now' z' on
  acts_from now z call shown acts = (0, 0, tt)

  module _ (known : Known its owner s p) (many : length p.lying ≤ c.tells) where
    -- behind one that a run took, which ends as in a try
    module _ (stage : Stage T (SoloWaker X)) (r : ℕ) (w : SoloWaker X) (rest : List (Code T (SoloWaker X))) (call : Call T (SoloWaker X))
        (is : p.inside ≡ code_at stage (Run r w) ∷ rest) (ends : IsEnding stage call) where
      abbrev tried : Plain T (SoloWaker X)
      tried = in_try stage rest p

      abbrev a : Plain T (SoloWaker X)
      a = does wakes c call tried

      tried_so : Stands its s tried
      tried_so = tried_both its owner c s p known.stands known.numbered many stage r w rest call is ends

      seen_so : (shown : List (Event T (SoloWaker X))) (e : Event T (SoloWaker X)) (z : Solo F T X)
          → Makes its c s tried call (shown ++ e ∷ []) z → a.events ≡ (p.events ++ shown) ++ e ∷ []
      seen_so shown e z how =
          (makes_alike its c s z tried call (shown ++ e ∷ []) tried_so many how).1 ∙ sym (append_assoc p.events shown (e ∷ []))

      -- where the last that is shown is no answer no run searches
      stays_none : (shown : List (Event T (SoloWaker X))) (e : Event T (SoloWaker X)) (z : Solo F T X) → is_answer e ≡ false
          → Makes its c s tried call (shown ++ e ∷ []) z → searches wakes c call p ≡ None
      stays_none shown e z unanswered how = by (seeks_as c r w p rest stage call ends is)
        where
          by : SeeksAs c r w a (searches wakes c call p) → searches wakes c call p ≡ None
          by (stays_in events e' not_so last none) = none
          by (is_over q one sought) =
              absurd (unlike (Answers Yes) e refl unanswered
              (same_last q.events (p.events ++ shown) (Answers Yes) e
              (sym (ap (λ (q : Plain T (SoloWaker X)). q.events) one) ∙ seen_so shown e z how)).1)

      -- else it searches, but one that has taken 200
      pub goes_sought : (shown : List (Event T (SoloWaker X))) (z : Solo F T X) → Makes its c s tried call (shown ++ Answers Yes ∷ []) z
          → searches wakes c call p ≡ searches_of wakes c (Run r w) (record a { events = p.events ++ shown })
      goes_sought shown z how = by (seeks_as c r w p rest stage call ends is)
        where
          by : SeeksAs c r w a (searches wakes c call p)
              → searches wakes c call p ≡ searches_of wakes c (Run r w) (record a { events = p.events ++ shown })
          by (stays_in events e not_so last none) =
              absurd (unlike (Answers Yes) e refl not_so
              (sym (same_last events (p.events ++ shown) e (Answers Yes) (sym last ∙ seen_so shown (Answers Yes) z how)).1))
          by (is_over q one sought) =
              let before =
              (same_last q.events (p.events ++ shown) (Answers Yes) (Answers Yes)
              (sym (ap (λ (q : Plain T (SoloWaker X)). q.events) one) ∙ seen_so shown (Answers Yes) z how)).0 in
              let mid_is : record a { events = p.events ++ shown } ≡ q =
              ap (λ (q : Plain T (SoloWaker X)). record q { events = p.events ++ shown }) one
              ∙ ap (λ es. record q { events = es }) (sym before) in
              sought ∙ sym (ap (λ q. searches_of wakes c (Run r w) q) mid_is)

    module _ (one two : ℕ) where
      -- its own future is pending
      looks_so : (runner : Runner) (w : SoloWaker X) (rest : List (Code T (SoloWaker X))) (shown : List (Event T (SoloWaker X)))
          (now : Owner) (z : Solo F T X) → HasRunner runner owner → p.inside ≡ PollOwn runner.number w ∷ rest
          → (how : Searches its owner c runner w s (record p { inside = rest }) shown now z)
          → WalksFrom its owner c s (record p { inside = rest }) runner w one two shown now z how → SearchedFrom one two Pends now z
      looks_so runner w rest shown now z has is how from =
          let out : Plain T (SoloWaker X) = record p { inside = rest } in
          let stands =
          same_hands its s p known.stands c rest (sym (ap (λ cs. lents cs) is)) (sym (ap (λ cs. drops cs) is))
          (sym (ap (λ cs. awaiters cs) is)) in
          let listed = each_listed (polled p) (busy p) s.runs known.listed in
          let held = known.listed.held runner.number (one_in runner.number (busy_in rest) (busy_in p.inside) (ap (λ cs. busy_in cs) is)) in
          one_from (record { run = runner.number; waker = w; at = out }) (ap (λ cs. searches_inside wakes c Pends cs p) is)
          (record {
            runner = runner;
            number = refl;
            has = has;
            before = s;
            shown = shown;
            stands = stands;
            numbered = known.numbered;
            listed = listed;
            going = going_there its s p known.stands runner.number held;
            room = run_room its owner s p known.stands known.numbered known.housed runner.number held;
            few = many;
            turn = refl;
            runs = refl;
            counts =
                counts_so its owner c runner w s out stands known.numbered listed (going_there its s p known.stands runner.number held) many
                shown now z how;
            searches = how;
          }) from

      -- it goes on, or has taken 200
      goes_so : (stage : Stage T (SoloWaker X)) (runner : Runner) (w : SoloWaker X) (rest : List (Code T (SoloWaker X)))
          (call : Call T (SoloWaker X)) (shown others : List (Event T (SoloWaker X))) (now : Owner) (y z : Solo F T X)
          → HasRunner runner owner → p.inside ≡ code_at stage (Run runner.number w) ∷ rest → IsEnding stage call
          → Makes its c s (in_try stage rest p) call (shown ++ Answers Yes ∷ []) y
          → (on : RunsOn its owner c runner w y (behind its c s p stage rest call shown) others now z)
          → RunsFrom its owner c y (behind its c s p stage rest call shown) runner w one two others now z on
          → SearchedFrom one two call now z
      goes_so stage runner w rest call shown others now y z has is ends how on from =
          by others now z on from
        where
          r : ℕ
          r = runner.number

          u : Plain T (SoloWaker X)
          u = in_try stage rest p

          b : Plain T (SoloWaker X)
          b = does wakes c call (in_try stage rest p)

          mid : Plain T (SoloWaker X)
          mid = record (does wakes c call (in_try stage rest p)) { events = p.events ++ shown }

          sought : searches wakes c call p ≡ searches_of wakes c (Run runner.number w) mid
          sought = goes_sought stage runner.number w rest call is ends shown y how

          way : nat_lt (taken_by runner.number mid) 200 ≡ not (owner.gives_way runner.number)
          way =
              ap (λ rs. nat_lt (or (slice_get rs runner.number) (λ (run : Running). run.taken) 0) 200)
              (keeps its c s (in_try stage rest p) call (shown ++ Answers Yes ∷ []) y how).1.runs
              ∙ known.tallied.gives_way runner.number

          by : (others : List (Event T (SoloWaker X))) (now : Owner) (z : Solo F T X)
              → (on : RunsOn its owner c runner w y mid others now z) → RunsFrom its owner c y mid runner w one two others now z on
              → SearchedFrom one two call now z
          by others now z (gives_way enough names life) from =
              none_from
              (sought ∙ ap (λ b. if b then Some (record { run = runner.number; waker = w; at = mid }) else None) (way ∙ ap not enough))
              (λ k. refl)
          by others now z (looks_on others' now' z' less found) from =
              let t = tried_so stage runner.number w rest call is ends in
              let it = makes_alike its c s y (in_try stage rest p) call (shown ++ Answers Yes ∷ []) t many how in
              let kept = keeps its c s (in_try stage rest p) call (shown ++ Answers Yes ∷ []) y how in
              let held =
              known.listed.held runner.number
              (one_in runner.number (busy_in rest) (busy_in p.inside) (stage_codes (λ r. r ∷ []) runner.number w rest p.inside stage is)) in
              let stands = other_events its c y b (p.events ++ shown) it.0 in
              let numbered = makes_numbered its c s u owner.number call (shown ++ Answers Yes ∷ []) y how known.numbered many it.0 in
              let listed = subst EachListed (sym kept.0.1) (each_listed (polled p) (busy p) s.runs known.listed) in
              let has_own_y = subst (λ o. has_own runner.number o ≡ true) (sym kept.0.1) held in
              let going = going_there its y mid stands runner.number has_own_y in
              let housed =
              still_housed owner.ticks s y p mid (ap (λ o. numbers o.queues) kept.0.1) kept.0.0.2
              (λ v among. known.housed.living v (sym (ap (is_among v) kept.1.whos) ∙ among)) known.housed in
              let few = subst (λ k. k ≤ c.tells) (sym kept.1.long) many in
              one_from (record { run = runner.number; waker = w; at = mid })
              (sought ∙ ap (λ b. if b then Some (record { run = runner.number; waker = w; at = mid }) else None) (way ∙ ap not less))
              (record {
                runner = runner;
                number = refl;
                has = has;
                before = y;
                shown = others';
                stands = stands;
                numbered = numbered;
                listed = listed;
                going = going;
                room = run_room its owner y mid stands numbered housed runner.number has_own_y;
                few = few;
                turn = ends_turn its c s y u stage call (shown ++ Answers Yes ∷ []) ends how;
                runs = kept.0.1;
                counts = counts_so its owner c runner w y mid stands numbered listed going few others' now' z' found;
                searches = found;
              }) from

      pub acts_searched_from : (now : Owner) (z : Solo F T X) (call : Call T (SoloWaker X)) (shown : List (Event T (SoloWaker X)))
          → (acts : Acts its owner c s p call shown now z) → ActsFrom its c s p one two owner call shown now z acts
          → SearchedFrom one two call now z
      acts_searched_from now z call shown (courses.makes call' shown' z' how) from =
          none_from (makes_none c its s z' p call' shown' how) (λ r. refl)
      acts_searched_from now z call shown (courses.makes_tick t new may) from = none_from (silent c call (λ code q. refl) p) (λ r. refl)
      acts_searched_from now z call shown (courses.tick_takes t w task lives found first life) from =
          none_from (silent c call (λ code q. refl) p) (λ r. refl)
      acts_searched_from now z call shown (courses.tick_rests t w lives found first may names more life) from =
          none_from (silent c call (λ code q. refl) p) (λ r. refl)
      acts_searched_from now z call shown (courses.makes_run may few) from = none_from (silent c call (λ code q. refl) p) (λ r. refl)
      acts_searched_from now z call shown (courses.makes_no_run refused) from = none_from (silent c call (λ code q. refl) p) (λ r. refl)
      acts_searched_from now z call shown (courses.run_polled runner w going free) from = none_from (silent c call (λ code q. refl) p)
          (λ r. refl)
      acts_searched_from now z call shown (courses.over_polled r w over) from = none_from (silent c call (λ code q. refl) p) (λ r. refl)
      acts_searched_from now z call shown (courses.own_ready r w v rest is) from = none_from (silent c call (λ code q. refl) p) (λ r. refl)
      acts_searched_from now z call shown (courses.run_looks runner w rest shown' now' z' mine is how) from =
          looks_so runner w rest shown' now' z' mine is how from
      acts_searched_from now z call shown (courses.run_goes_on stage runner w rest call' first more now' y z' mine is ends how on) from =
          goes_so stage runner w rest call' first more now' y z' mine is ends how on from
      acts_searched_from now z call shown (courses.run_drops stage r w rest call' first f z' is ends how) from =
          none_from (stays_none stage r w rest call' is ends first (Drops f) z' refl how) (λ r. refl)
      acts_searched_from now z call shown (courses.run_loses stage r w rest call' first v z' is ends how) from =
          none_from (stays_none stage r w rest call' is ends first (Loses v) z' refl how) (λ r. refl)
      acts_searched_from now z call shown (courses.run_dropped r going free) from = none_from (silent c call (λ code q. refl) p) (λ r. refl)
      acts_searched_from now z call shown (courses.over_dropped r over) from = none_from (silent c call (λ code q. refl) p) (λ r. refl)
      acts_searched_from now z call shown (courses.run_leaves runner answer rest is life) from =
          none_from (ap (λ cs. searches_inside wakes c Ends cs p) is) (λ r. refl)
      acts_searched_from now z call shown (courses.makes_no_tick refused) from = none_from (silent c call (λ code q. refl) p) (λ r. refl)
      acts_searched_from now z call shown (courses.tick_refused t w lives found first refused) from =
          none_from (silent c call (λ code q. refl) p) (λ r. refl)
      acts_searched_from now z call shown (courses.tick_lies_refused t w lives found first refused names again more life) from =
          none_from (silent c call (λ code q. refl) p) (λ r. refl)
      acts_searched_from now z call shown (courses.tick_leaves t lives life) from = none_from (silent c call (λ code q. refl) p) (λ r. refl)

    pub acts_searched : (now : Owner) (z : Solo F T X) (call : Call T (SoloWaker X)) (shown : List (Event T (SoloWaker X)))
        → Acts its owner c s p call shown now z → Searched call now z
    acts_searched now z call shown acts =
        let words = acts_from now z call shown acts in
        forget words.0 words.1 (acts_searched_from words.0 words.1 now z call shown acts words.2)
      where
        forget : (one two : ℕ) → SearchedFrom one two call now z → Searched call now z
        forget one two (none_from none still) = no_search none still
        forget one two (one_from x is at from) = a_search x is at

    -- and the search is the one to which the plain scheduler comes
    pub searched_there : (now : Owner) (z : Solo F T X) (call : Call T (SoloWaker X)) (shown : List (Event T (SoloWaker X)))
        → Acts its owner c s p call shown now z → (x : Search T (SoloWaker X)) → searches wakes c call p ≡ Some x
        → SearchesAt its owner c s x now z
    searched_there now z call shown acts x is = by (acts_searched now z call shown acts)
      where
        by : Searched call now z → SearchesAt its owner c s x now z
        by (no_search none still) = absurd (none_some (sym none ∙ is))
          where
            none_some : ◌≡◌ {A = Option (Search T (SoloWaker X))} None (Some x) → ⊥
            none_some so = absurd cc
        by (a_search y so at) = subst (λ x. SearchesAt its owner c s x now z) (ap (λ o. or o (λ x. x) x) (sym so ∙ is)) at

    -- with the words at which its walks begin
    pub walked_there : (one two : ℕ) (now : Owner) (z : Solo F T X) (call : Call T (SoloWaker X)) (shown : List (Event T (SoloWaker X)))
        (acts : Acts its owner c s p call shown now z) → ActsFrom its c s p one two owner call shown now z acts
        → (x : Search T (SoloWaker X)) → searches wakes c call p ≡ Some x
        → (at : SearchesAt its owner c s x now z)
        × WalksFrom its owner c at.before x.at at.runner x.waker one two at.shown now z at.searches
    walked_there one two now z call shown acts from x is = by (acts_searched_from one two now z call shown acts from)
      where
        Walked : Search T (SoloWaker X) → Type 0
        Walked x =
            (at : SearchesAt its owner c s x now z)
            × WalksFrom its owner c at.before x.at at.runner x.waker one two at.shown now z at.searches

        by : SearchedFrom one two call now z → Walked x
        by (none_from none still) = absurd (none_some (sym none ∙ is))
          where
            none_some : ◌≡◌ {A = Option (Search T (SoloWaker X))} None (Some x) → ⊥
            none_some so = absurd cc
        by (one_from y so at from) = subst Walked (ap (λ o. or o (λ x. x) x) (sym so ∙ is)) (at, from)
