-- Both stand alike after each list of calls, and what is seen is what was shown.
use Rattle.std.proofs.Common.{◌≡◌, ℕ, ◌≤◌, not, Bool, true, false, List, [], ◌∷◌, ◌++◌, length, append-nil, refl, sym, ap, subst}
use Rattle.std.proofs.Common.{◌==◌, nat_lt, cond, slice_get, ◌∙◌, arith}
use Rattle.solo.specs.declared.names.SoloWaker.{SoloWaker}
use Rattle.solo.specs.declared.owed.Lent.{Lent}
use Rattle.solo.specs.declared.names.Kind.{Kind}
use Rattle.solo.specs.declared.solo.Solo.{Solo}
use Rattle.executor_parts.specs.Sleepers.{Sleepers}
use Rattle.solo.specs.OwnQueues as own
use Rattle.solo.specs.Solo.{IsNew, counts}
use Rattle.plain_scheduler.specs.State.{Answers, ARun, ATick, Drops, Event, Loses, Who, Choice, Plain, Running, Try, Yes}
use Rattle.plain_scheduler.specs.Lists.{or}
use Rattle.plain_scheduler.specs.Calls as plain
use Rattle.plain_scheduler.specs.Calls.{Call, does, course}
use Rattle.solo_laws.specs.Busy.{busy_in}
use Rattle.solo_laws.specs.Courses.{Makes, spawns, refuses, takes, looks, wakes, uses, releases, copies, polls, cancels, detaches}
use Rattle.solo_laws.specs.Courses.{drops_handle, leaks, pends, gives, ends_given, ends_closed, loses, Acts, makes, makes_tick, tick_takes}
use Rattle.solo_laws.specs.Courses.{makes_run, makes_no_run, tick_rests, makes_no_tick, tick_refused, tick_lies_refused, tick_leaves, Leads}
use Rattle.solo_laws.specs.Courses.{over_dropped, over_polled, own_ready, run_dropped, run_drops, run_goes_on, run_leaves}
use Rattle.solo_laws.specs.Courses.{run_looks, run_loses, run_polled}
use Rattle.solo_laws.specs.Courses.{stays, leads}
use Rattle.solo_laws.specs.Led.{IsLed}
use Rattle.solo_laws.specs.Numbered.{IsNumbered}
use Rattle.solo_laws.specs.Owner.{HasRoom, Owner, has_tick, new_owner}
use Rattle.solo_laws.specs.Road.{awaiters, drops, is_in, lents, wakes as wakes_of}
use Rattle.solo_laws.specs.RunGoing.{in_try}
use Rattle.solo_laws.specs.RunResting.{EachListed}
use Rattle.solo_laws.specs.Tabled.{Stands}
use Rattle.solo_laws.proofs.Following.Both as both
use Rattle.solo_laws.proofs.Following.Begun.{takes_alike, pends_both, gives_both}
use Rattle.solo_laws.proofs.Following.Crowding.{is_among}
use Rattle.solo_laws.proofs.Following.Counted.{other_events}
use Rattle.solo_laws.proofs.Following.Drops.{given_drops_alike, closed_drops_alike, given_drops_shown, closed_drops_shown}
use Rattle.solo_laws.proofs.Following.Leaking.{leaks_alike, leaks_shown}
use Rattle.solo_laws.proofs.Following.Beginning.{both_begin}
use Rattle.solo_laws.proofs.Following.Housed.{Housed, has_room, own_numbered, still_housed}
use Rattle.solo_laws.proofs.Following.Listed.{Listed, each_listed, has_own}
use Rattle.solo_laws.proofs.Following.Losing.{loses_alike}
use Rattle.solo_laws.proofs.Following.Owns.{numbers}
use Rattle.solo_laws.proofs.Following.Polled.{Apart, busy, polled}
use Rattle.solo_laws.proofs.Following.Refusing.{refuses_alike, empty_alike}
use Rattle.solo_laws.proofs.Following.Spawning.{spawns_alike}
use Rattle.solo_laws.proofs.Following.Keeping.{keeps, makes_numbered}
use Rattle.solo_laws.proofs.Following.Takings.{takings}
use Rattle.solo_laws.proofs.Following.Tallied.{Tallied}
use Rattle.solo_laws.proofs.Following.TickTaking.{ticks_take}
use Rattle.solo_laws.proofs.Following.TickResting.{ticks_rest}
use Rattle.solo_laws.proofs.Following.TickLeaving.{ticks_begin, ticks_leave}
use Rattle.solo_laws.proofs.Following.TickRefusing.{ticks_unmade, ticks_refused, ticks_lie_refused}
use Rattle.solo_laws.proofs.Following.Running.{runs_begin, runs_unmade}
use Rattle.solo_laws.proofs.Following.RunLeaving.{runs_leave}
use Rattle.solo_laws.proofs.Following.RunEnding.{goes_alike, goes_next, stays_alike, tried_both}
use Rattle.solo_laws.proofs.Following.RunGoing.{Reached, searches_alike}
use Rattle.solo_laws.proofs.Following.RunPolling.{going_there, overs_dropped, overs_polled, owns_ready, runs_dropped, runs_polled}
use Rattle.solo_laws.proofs.Following.RunPolling.{same_hands}
use Rattle.solo_laws.proofs.Showing.StillHoused.{acts_housed}
use Rattle.solo_laws.proofs.Showing.StillListed.{acts_apart, acts_listed, one_in, stage_codes}
use Rattle.solo_laws.proofs.Showing.StillTallied.{between, drop_so, empty_handed, goes_so, its_takings, leaves_so, new_run_so, new_tick_so}
use Rattle.solo_laws.proofs.Showing.StillTallied.{of_same, poll_so, ready_so, runs_on_tallied, searches_tallied, stage_takings, stays_so}
use Rattle.solo_laws.proofs.Showing.StillTallied.{tick_so}
use Rattle.solo_laws.proofs.Showing.Telling.{step}
use Rattle.solo_laws.proofs.Showing.Calling as calling
use Rattle.solo_laws.proofs.Showing.Polling.{handles_shown}
use Rattle.solo_laws.proofs.Showing.Spawning.{spawns_shown}
use Rattle.solo_laws.proofs.Showing.Taking.{takes_shown}
use Rattle.solo_laws.proofs.Showing.Ending.{pends_shown, gives_shown}
use Rattle.solo_laws.proofs.Showing.Losing.{loses_shown}

-- of a new one nobody sleeps
pub new_numbered : {F T X : Type 0} (number : Who → ℕ) (limit : ℕ) (kind : Kind) (s : Solo F T X) → IsNew limit kind s
    → IsNumbered number s.sleepers []
new_numbered number limit kind s is =
    subst (λ sleepers. IsNumbered number sleepers []) (sym is.sleepers)
    (record { wakers = refl; once = refl; few = λ n has. absurd cc })

module _ {F T X : Type 0} (its : ℕ → Lent) where
  -- where both stand alike, they do after a call, and what is seen is what was shown
  abbrev pub Alike : Choice → Call T (SoloWaker X) → Plain T (SoloWaker X) → List (Event T (SoloWaker X)) → Solo F T X → Type 0
  Alike c call p shown z = Stands its z (does wakes_of c call p) × ((does wakes_of c call p).events ≡ p.events ++ shown)

  pub makes_alike : (c : Choice) (s z : Solo F T X) (p : Plain T (SoloWaker X)) (call : Call T (SoloWaker X))
      (shown : List (Event T (SoloWaker X))) → Stands its s p → length p.lying ≤ c.tells → Makes its c s p call shown z
      → Alike c call p shown z
  makes_alike c s z p call shown so many (spawns mark future spawned z' how is granted life few) = (
    spawns_alike its s p so c mark future spawned z' how is granted many life few,
    spawns_shown its s p so c mark future spawned z' how is granted many life few,
  )
  makes_alike c s z p call shown so many (refuses mark future refused z' how fits) =
      let it = refuses_alike its s p so c mark future refused z' how fits in
      (it.1, ap (λ (q : Plain T (SoloWaker X)). q.events) it.0)
  makes_alike c s z p call shown so many (takes first life) =
      (takes_alike its c s p so first many life, (takes_shown its s p so c first many life).seen)
  makes_alike c s z p call shown so many looks =
      let it = empty_alike its s p so c in (it.1, ap (λ (q : Plain T (SoloWaker X)). q.events) it.0)
  makes_alike c s z p call shown so many (wakes f at life) =
      (both.wakes_alike its s p so c f at many life, calling.wakes_shown its s p so.0 c f at many life)
  makes_alike c s z p call shown so many (uses f at life) =
      (both.uses_alike its s p so c f at many life, calling.uses_shown its s p so.0 c f at many life)
  makes_alike c s z p call shown so many (releases f at life) =
      (both.releases_alike its s p so c f at many life, calling.releases_shown its s p so.0 c f at many life)
  makes_alike c s z p call shown so many (copies f at says) =
      (both.copies_alike its s p so c f at says, calling.copies_shown its s p so.0 c f says)
  makes_alike c s z p call shown so many (polls f w at handle named life) =
      (both.handles_alike its s p so c f w at handle named many life, handles_shown its s p so.0 c f w at handle named many life)
  makes_alike c s z p call shown so many (cancels f at life) =
      (both.cancels_alike its s p so c f at many life, calling.cancels_shown its s p so.0 c f at many life)
  makes_alike c s z p call shown so many (detaches f at life) =
      (both.detaches_alike its s p so c f at many life, calling.detaches_shown its s p so.0 c f at many life)
  makes_alike c s z p call shown so many (drops_handle f at life) =
      (both.handle_drops_alike its s p so c f at many life, calling.handle_drops_shown its s p so.0 c f at many life)
  makes_alike c s z p call shown so many (leaks owned life) =
      (leaks_alike its c s p so owned many life, leaks_shown its c s p so owned many life)
  makes_alike c s z p call shown so many (pends f by rest future one stands_in life) = (
    pends_both its c s p so f by rest stands_in future one many life,
    (pends_shown its s p so c f by one rest future stands_in many life).seen,
  )
  makes_alike c s z p call shown so many (gives f by rest v stands_in) =
      (gives_both its c s p so f by rest stands_in v, gives_shown its s p so c f by rest v stands_in)
  makes_alike c s z p call shown so many (ends_given f v by rest one stands_in life) = (
    given_drops_alike its s p so c f v by one rest stands_in many life,
    (given_drops_shown its s p so c f v by one rest stands_in many life).seen,
  )
  makes_alike c s z p call shown so many (ends_closed f by rest one stands_in life) = (
    closed_drops_alike its s p so c f by one rest stands_in many life,
    (closed_drops_shown its s p so c f by one rest stands_in many life).seen,
  )
  makes_alike c s z p call shown so many (loses awaiter by rest one stands_in life) = (
    loses_alike its s p so c awaiter by one rest stands_in many life,
    loses_shown its s p so.0 c awaiter by one rest stands_in many life,
  )

  -- so with ticks, and each that lies has its number
  abbrev pub Both : Choice → Call T (SoloWaker X) → Plain T (SoloWaker X) → List (Event T (SoloWaker X)) → Owner → Solo F T X → Type 0
  Both c call p shown now z = Alike c call p shown z × IsNumbered now.number z.sleepers (does wakes_of c call p).lying

  pub tick_room : (owner : Owner) (s : Solo F T X) (p : Plain T (SoloWaker X)) → Stands its s p → IsNumbered owner.number s.sleepers p.lying
      → Housed owner.ticks s p → (t : ℕ) → has_tick t owner ≡ true → HasRoom (ATick t) s p
  tick_room owner s p so n h t lives = has_room its owner.number owner.ticks s p so n h (ATick t) lives

  pub run_room : (owner : Owner) (s : Solo F T X) (p : Plain T (SoloWaker X)) → Stands its s p → IsNumbered owner.number s.sleepers p.lying
      → Housed owner.ticks s p → (r : ℕ) → has_own r s.runs ≡ true → HasRoom (ARun r) s p
  run_room owner s p so n h r has = has_room its owner.number owner.ticks s p so n h (ARun r) (own_numbered r s.runs ∙ has)

  pub acts_alike : (owner : Owner) (c : Choice) (s : Solo F T X) (p : Plain T (SoloWaker X)) (now : Owner) (z : Solo F T X)
      (call : Call T (SoloWaker X)) (shown : List (Event T (SoloWaker X))) → Stands its s p → IsNumbered owner.number s.sleepers p.lying
      → Listed (polled p) (busy p) s.runs → Housed owner.ticks s p → Tallied owner.runner owner.gives_way p → length p.lying ≤ c.tells
      → Acts its owner c s p call shown now z
      → Both c call p shown now z
  acts_alike owner c s p now z call shown so n l h k many (makes call' shown' z' how) =
      let it = makes_alike c s z' p call' shown' so many how in
      (it, makes_numbered its c s p owner.number call' shown' z' how n many it.0)
  acts_alike owner c s p now z call shown so n l h k many (makes_tick t new granted) =
      let it = ticks_begin its owner.number s p so n c granted in ((it.stands, it.seen), it.numbered)
  acts_alike owner c s p now z call shown so n l h k many (tick_takes t w task lives found first life) =
      let it = ticks_take its owner.number s p so n c t w task found first many life in ((it.stands, it.seen), it.numbered)
  acts_alike owner c s p now z call shown so n l h k many (tick_rests t w lives none first granted names more life) =
      let it = ticks_rest its owner.number s p so n c t w none first granted (tick_room owner s p so n h t lives) names more life in
      ((it.stands, it.seen), it.numbered)
  acts_alike owner c s p now z call shown so n l h k many (makes_run granted few) =
      let it = (runs_begin its owner.number s p so n c granted few).0 in ((it.stands, it.seen), it.numbered)
  acts_alike owner c s p now z call shown so n l h k many (makes_no_run refused) =
      let it = runs_unmade its owner.number s p so n c refused in ((it.stands, it.seen), it.numbered)
  acts_alike owner c s p now z call shown so n l h k many (run_polled runner w going free) =
      let it = runs_polled its owner.number s p so n c runner w going in ((it.stands, it.seen), it.numbered)
  acts_alike owner c s p now z call shown so n l h k many (over_polled r w over) =
      let it = overs_polled its owner.number s p so n c r w over in ((it.stands, it.seen), it.numbered)
  acts_alike owner c s p now z call shown so n l h k many (own_ready r w v rest stands_in) =
      let it = owns_ready its owner.number s p so n c r w v rest stands_in in ((it.stands, it.seen), it.numbered)
  acts_alike owner c s p now z call shown so n l h k many (run_looks runner w rest shown' now' z' its_runner is how) =
      let r = runner.number in
      let all = each_listed (polled p) (busy p) s.runs l in
      let held = l.held r (one_in r (busy_in rest) (busy_in p.inside) (ap (λ cs. busy_in cs) is)) in
      let going = going_there its s p so r held in
      let room = run_room owner s p so n h r held in
      let out = record p { inside = rest } in
      let left : Stands its s out =
      same_hands its s p so c rest (sym (ap (λ cs. lents cs) is)) (sym (ap (λ cs. drops cs) is)) (sym (ap (λ cs. awaiters cs) is)) in
      subst (λ cs. Reached its p shown' now'.number z' (plain.innermost wakes_of c cs (plain.pends wakes_of c) p)) (sym is)
      (searches_alike its owner c runner w s out left n all many going room shown' now' z' how)
  acts_alike owner c s p now z call shown so n l h k many (run_goes_on stage runner w rest call' first others now' y z' o is ends how on) =
      let tried = in_try stage rest p in
      let t = tried_both its owner c s p so n many stage runner.number w rest call' is ends in
      let it = makes_alike c s y tried call' (first ++ Answers Yes ∷ []) t many how in
      let numbered = makes_numbered its c s tried owner.number call' (first ++ Answers Yes ∷ []) y how n many it.0 in
      let kept = keeps its c s tried call' (first ++ Answers Yes ∷ []) y how in
      let few = subst (λ k. k ≤ c.tells) (sym kept.1.long) many in
      let listed = subst EachListed (sym kept.0.1) (each_listed (polled p) (busy p) s.runs l) in
      let r = runner.number in
      let held =
      l.held r (one_in r (busy_in rest) (busy_in p.inside) (stage_codes (λ r. r ∷ []) r w rest p.inside stage is)) in
      let has = subst (λ o. has_own r o ≡ true) (sym kept.0.1) held in
      let housed =
      still_housed owner.ticks s y p (does wakes_of c call' tried) (ap (λ o. numbers o.queues) kept.0.1) kept.0.0.2
      (λ v among. h.living v (sym (ap (is_among v) kept.1.whos) ∙ among)) h in
      let room = run_room owner y (does wakes_of c call' tried) it.0 numbered housed r has in
      let way =
      ap (λ rs. nat_lt (or (slice_get rs r) (λ (run : Running). run.taken) 0) 200) kept.1.runs ∙ k.gives_way r in
      goes_alike its owner c s p so n many stage runner.number w rest call' is ends runner refl first others now' y z' it.0 it.1
      numbered
      listed has room way few on
  acts_alike owner c s p now z call shown so n l h k many (run_drops stage r w rest call' first f z' is ends how) =
      let tried = in_try stage rest p in
      let t = tried_both its owner c s p so n many stage r w rest call' is ends in
      let it = makes_alike c s z' tried call' (first ++ Drops f ∷ []) t many how in
      let numbered = makes_numbered its c s tried owner.number call' (first ++ Drops f ∷ []) z' how n many it.0 in
      stays_alike its owner c s p so n many stage r w rest call' is ends first (Drops f) z' refl it.0 it.1 numbered
  acts_alike owner c s p now z call shown so n l h k many (run_loses stage r w rest call' first v z' is ends how) =
      let tried = in_try stage rest p in
      let t = tried_both its owner c s p so n many stage r w rest call' is ends in
      let it = makes_alike c s z' tried call' (first ++ Loses v ∷ []) t many how in
      let numbered = makes_numbered its c s tried owner.number call' (first ++ Loses v ∷ []) z' how n many it.0 in
      stays_alike its owner c s p so n many stage r w rest call' is ends first (Loses v) z' refl it.0 it.1 numbered
  acts_alike owner c s p now z call shown so n l h k many (run_dropped r going free) =
      let it = runs_dropped its owner.number s p so n c r going in ((it.stands, it.seen), it.numbered)
  acts_alike owner c s p now z call shown so n l h k many (over_dropped r over) =
      let it = overs_dropped its owner.number s p so n c r over in ((it.stands, it.seen), it.numbered)
  acts_alike owner c s p now z call shown so n l h k many (run_leaves runner answer rest stands_in life) =
      let r = runner.number in
      let going =
      going_there its s p so r (l.held r (one_in r (busy_in rest) (busy_in p.inside) (ap (λ cs. busy_in cs) stands_in))) in
      let it = runs_leave its owner.number s p so n c runner answer rest stands_in going many life in ((it.stands, it.seen), it.numbered)
  acts_alike owner c s p now z call shown so n l h k many (makes_no_tick refused) =
      let it = ticks_unmade its owner.number s p so n c refused in ((it.stands, it.seen), it.numbered)
  acts_alike owner c s p now z call shown so n l h k many (tick_refused t w lives none first refused) =
      let it = ticks_refused its owner.number s p so n c t w none first refused in ((it.stands, it.seen), it.numbered)
  acts_alike owner c s p now z call shown so n l h k many (tick_lies_refused t w lives none first refused names again more life) =
      let it = (ticks_lie_refused its owner.number s p so n c t w none first refused
      (tick_room owner s p so n h t lives) names again more life).refused in
      ((it.stands, it.seen), it.numbered)
  acts_alike owner c s p now z call shown so n l h k many (tick_leaves t lives life) =
      let it = ticks_leave its owner.number s p so n c t many life in ((it.stands, it.seen), it.numbered)

  -- and what its owner knows of each run's count is what that has taken
  acts_tally : (owner : Owner) (c : Choice) (s : Solo F T X) (p : Plain T (SoloWaker X)) (now : Owner) (z : Solo F T X)
      (call : Call T (SoloWaker X)) (shown : List (Event T (SoloWaker X))) → Stands its s p → IsNumbered owner.number s.sleepers p.lying
      → Listed (polled p) (busy p) s.runs → Housed owner.ticks s p → Tallied owner.runner owner.gives_way p → Apart (busy_in p.inside)
      → length p.lying ≤ c.tells → Acts its owner c s p call shown now z → Tallied now.runner now.gives_way (does wakes_of c call p)
  acts_tally owner c s p now z call shown so n l h k once many (makes call' shown' z' how) =
      let kept = keeps its c s p call' shown' z' how in
      of_same owner.runner owner.gives_way c p (does wakes_of c call' p) kept.1.runs kept.1.takings_are k
  acts_tally owner c s p now z call shown so n l h k once many (makes_tick t new granted) =
      new_tick_so owner.runner owner.gives_way c p k
  acts_tally owner c s p now z call shown so n l h k once many (tick_takes t w task lives found first life) =
      tick_so owner.runner owner.gives_way c t w p k
  acts_tally owner c s p now z call shown so n l h k once many (tick_rests t w lives none first granted names more life) =
      tick_so owner.runner owner.gives_way c t w p k
  acts_tally owner c s p now z call shown so n l h k once many (makes_run granted few) =
      new_run_so owner.runner owner.gives_way c p k
  acts_tally owner c s p now z call shown so n l h k once many (makes_no_run refused) =
      new_run_so owner.runner owner.gives_way c p k
  acts_tally owner c s p now z call shown so n l h k once many (run_polled runner w going free) =
      poll_so owner.runner owner.gives_way c runner.number w p k
  acts_tally owner c s p now z call shown so n l h k once many (over_polled r w over) =
      poll_so owner.runner owner.gives_way c r w p k
  acts_tally owner c s p now z call shown so n l h k once many (own_ready r w v rest stands_in) =
      ready_so owner.runner owner.gives_way c r w v rest p stands_in k
  acts_tally owner c s p now z call shown so n l h k once many (run_looks runner w rest shown' now' z' its_runner is how) =
      let r = runner.number in
      let held = l.held r (one_in r (busy_in rest) (busy_in p.inside) (ap (λ cs. busy_in cs) is)) in
      let out = record p { inside = rest } in
      let left : Stands its s out =
      same_hands its s p so c rest (sym (ap (λ cs. lents cs) is)) (sym (ap (λ cs. drops cs) is)) (sym (ap (λ cs. awaiters cs) is)) in
      let mid =
      between owner.runner owner.gives_way r p out refl (λ j away none. ap (λ cs. is_in j (takings cs)) is ∙ none) k in
      subst (λ cs. Tallied now'.runner now'.gives_way (plain.innermost wakes_of c cs (plain.pends wakes_of c) p)) (sym is)
      (searches_tallied its owner c runner its_runner w s out left n (each_listed (polled p) (busy p) s.runs l) many
      (going_there its s p so r held) (run_room owner s p so n h r held) mid
      (empty_handed owner.runner owner.gives_way r w rest p is once k) shown' now' z' how)
  acts_tally owner c s p now z call shown so n l h k _ many (run_goes_on stage runner w rest call' first more now' y z' o is ends how on) =
      let r = runner.number in
      let tried = in_try stage rest p in
      let a = does wakes_of c call' tried in
      let mid = record a { events = p.events ++ first } in
      let u = tried_both its owner c s p so n many stage r w rest call' is ends in
      let it = makes_alike c s y tried call' (first ++ Answers Yes ∷ []) u many how in
      let numbered = makes_numbered its c s tried owner.number call' (first ++ Answers Yes ∷ []) y how n many it.0 in
      let kept = keeps its c s tried call' (first ++ Answers Yes ∷ []) y how in
      let held = l.held r (one_in r (busy_in rest) (busy_in p.inside) (stage_codes (λ r. r ∷ []) r w rest p.inside stage is)) in
      let has = subst (λ o. has_own r o ≡ true) (sym kept.0.1) held in
      let housed =
      still_housed owner.ticks s y p a (ap (λ o. numbers o.queues) kept.0.1) kept.0.0.2
      (λ v among. h.living v (sym (ap (is_among v) kept.1.whos) ∙ among)) h in
      let mid_both = other_events its c y a (p.events ++ first) it.0 in
      let others_so =
      λ (j : ℕ) (away : (j == r) ≡ false) (none : is_in j (takings mid.inside) ≡ false).
      ap (is_in j) (its_takings c r w rest stage call' p is ends)
      ∙ (ap (λ b. cond b true (is_in j (takings rest))) away
      ∙ (sym (ap (is_in j) (kept.1.takings_are ∙ stage_takings Try stage rest)) ∙ none)) in
      subst (λ q. Tallied now'.runner now'.gives_way q) (goes_next its owner c s p so n many stage r w rest call' is ends first it.1)
      (runs_on_tallied its owner c runner o w y mid mid_both numbered
      (subst EachListed (sym kept.0.1) (each_listed (polled p) (busy p) s.runs l)) (subst (λ j. j ≤ c.tells) (sym kept.1.long) many)
      (going_there its y mid mid_both r has) (run_room owner y a it.0 numbered housed r has)
      (between owner.runner owner.gives_way r p mid kept.1.runs others_so k) more now' z' on)
  acts_tally owner c s p now z call shown so n l h k once many (run_drops stage r w rest call' first f z' is ends how) =
      let tried = in_try stage rest p in
      let u = tried_both its owner c s p so n many stage r w rest call' is ends in
      let it = makes_alike c s z' tried call' (first ++ Drops f ∷ []) u many how in
      let kept = keeps its c s tried call' (first ++ Drops f ∷ []) z' how in
      let stay = stays_so c r w rest stage call' p is ends first (Drops f) refl it.1 kept.1.runs kept.1.takings_are in
      of_same owner.runner owner.gives_way c p (does wakes_of c call' p) stay.0 stay.1 k
  acts_tally owner c s p now z call shown so n l h k once many (run_loses stage r w rest call' first v z' is ends how) =
      let tried = in_try stage rest p in
      let u = tried_both its owner c s p so n many stage r w rest call' is ends in
      let it = makes_alike c s z' tried call' (first ++ Loses v ∷ []) u many how in
      let kept = keeps its c s tried call' (first ++ Loses v ∷ []) z' how in
      let stay = stays_so c r w rest stage call' p is ends first (Loses v) refl it.1 kept.1.runs kept.1.takings_are in
      of_same owner.runner owner.gives_way c p (does wakes_of c call' p) stay.0 stay.1 k
  acts_tally owner c s p now z call shown so n l h k once many (run_dropped r going free) =
      drop_so owner.runner owner.gives_way c r p k
  acts_tally owner c s p now z call shown so n l h k once many (over_dropped r over) =
      drop_so owner.runner owner.gives_way c r p k
  acts_tally owner c s p now z call shown so n l h k once many (run_leaves runner answer rest stands_in life) =
      goes_so owner.runner owner.gives_way c runner.number answer rest p stands_in k
  acts_tally owner c s p now z call shown so n l h k once many (makes_no_tick refused) =
      new_tick_so owner.runner owner.gives_way c p k
  acts_tally owner c s p now z call shown so n l h k once many (tick_refused t w lives none first refused) =
      tick_so owner.runner owner.gives_way c t w p k
  acts_tally owner c s p now z call shown so n l h k once many (tick_lies_refused t w lives none first refused names again more life) =
      tick_so owner.runner owner.gives_way c t w p k
  acts_tally owner c s p now z call shown so n l h k once many (tick_leaves t lives life) =
      leaves_so owner.runner owner.gives_way c t p k

  -- what is known of both wherever a call has ended
  pub record Known (owner : Owner) (s : Solo F T X) (p : Plain T (SoloWaker X)) : Type 0 where
    pub stands : Stands its s p
    pub numbered : IsNumbered owner.number s.sleepers p.lying
    pub listed : Listed (polled p) (busy p) s.runs
    pub once : Apart (busy_in p.inside)
    pub housed : Housed owner.ticks s p
    pub tallied : Tallied owner.runner owner.gives_way p

  pub new_known : (number : Who → ℕ) (limit : ℕ) (kind : Kind) (is_static : Bool) (s : Solo F T X) → IsNew limit kind s
      → counts kind ≡ not is_static → Known (new_owner number) s (plain.new limit is_static)
  new_known number limit kind is_static s is counted = record {
    stands = both_begin its limit kind is_static s is counted;
    numbered = new_numbered number limit kind s is;
    listed =
        subst (Listed (λ r. false) (λ r. false)) (sym is.runs)
        (record { within = omega arith; late = λ at q here late. absurd cc; made = λ r is. absurd cc; held = λ r is. absurd cc });
    once = refl;
    housed =
        let rooms = ap (λ (sleepers : Sleepers (SoloWaker X)). sleepers.rooms) is.sleepers in
        let none = ap (λ (o : own.OwnQueuesValue). length o.queues) is.runs in
        record { rooms = omega (arith, rooms, none); living = λ v is. absurd cc };
    tallied = record { number = λ r. refl; taken = λ r. refl; gives_way = λ r. refl; calm = λ r none. refl };
  }

  pub leads_alike : (list : List (Choice × Call T (SoloWaker X))) (owner last : Owner) (s z : Solo F T X) (p : Plain T (SoloWaker X))
      (shown : List (Event T (SoloWaker X))) → Known owner s p → Leads its list owner s p shown last z
      → Known last z (course wakes_of list p) × ((course wakes_of list p).events ≡ p.events ++ shown)
  leads_alike list owner last s z p shown known (stays owner' s' p') = (known, sym (append-nil p.events))
  leads_alike list owner last s z p shown known (leads c call rest before now later s' y z' p' first others many acts how) =
      let one = acts_alike before c s' p' now y call first known.stands known.numbered known.listed known.housed known.tallied many acts in
      let listed = acts_listed its before c s' p' known.once now y call first known.stands known.numbered known.listed acts in
      let once = acts_apart its before c s' p' now y call first known.stands known.numbered known.once acts in
      let housed =
      acts_housed its before c s' p' known.stands known.numbered known.listed known.housed now y call first many one.0.0 one.1 acts in
      let tallied =
      acts_tally before c s' p' now y call first known.stands known.numbered known.listed known.housed known.tallied known.once many acts
      in
      let next : Known now y (does wakes_of c call p') =
      record { stands = one.0.0; numbered = one.1; listed = listed; once = once; housed = housed; tallied = tallied } in
      let all = leads_alike rest now later y z' (does wakes_of c call p') others next how in
      (all.0, step p'.events first others one.0.1 all.1)

  -- where a list of calls leads to both
  pub led_known : (owner : Owner) (s : Solo F T X) (p : Plain T (SoloWaker X)) → IsLed its owner s p → Known owner s p
  led_known owner s p led =
      subst (Known owner s) (sym led.course_is)
      (leads_alike led.calls (new_owner led.before) owner led.first s (plain.new led.limit led.is_static) led.shown
      (new_known led.before led.limit led.kind led.is_static led.first led.is_new led.counted) led.leads).0
