-- So each call is refused what memory refuses.
use Rattle.std.proofs.Common.{◌≡◌, ℕ, ◌≤◌, nat_lt, not, if◌then◌else◌, Bool, true, false, List, [], ◌∷◌, ◌++◌, length, slice_get}
use Rattle.std.proofs.Common.{find, Option, Some, None, refl, sym, ap, subst, ◌∙◌}
use Rattle.solo.specs.declared.names.SoloWaker.{SoloWaker}
use Rattle.solo.specs.declared.names.SoloWaker.TheVariants.{Task as OfTask, Outside}
use Rattle.solo.specs.declared.names.Task.{Task}
use Rattle.solo.specs.declared.owed.Lent.{Lent}
use Rattle.solo.specs.declared.runs.Runner.{Runner}
use Rattle.solo.specs.declared.solo.Solo.{Solo}
use Rattle.solo.specs.declared.ticks.Ticked.{Ticked}
use Rattle.solo.specs.Lines.{mark_of_turn}
use Rattle.solo.specs.Solo as solo
use Rattle.plain_scheduler.specs.State.{Answers, ARun, ATick, Choice, Code, Due, Event, Plain, Refusal, Run}
use Rattle.plain_scheduler.specs.State.{Running, Yes}
use Rattle.plain_scheduler.specs.Lists.{or}
use Rattle.plain_scheduler.specs.Calls.{Call, Pends, does}
use Rattle.plain_scheduler.specs.Searches.{searches_inside}
use Rattle.plain_scheduler.specs.Usual.{lies_uncalled}
use Rattle.solo_laws.specs.Busy.{busy_in}
use Rattle.solo_laws.specs.Courses.{Acts, Makes, cancels, copies, detaches, drops_handle, ends_closed, ends_given, gives, leaks, looks}
use Rattle.solo_laws.specs.Courses.{loses, makes, makes_no_run, makes_no_tick, makes_run, makes_tick, over_dropped, over_polled}
use Rattle.solo_laws.specs.Courses.{own_ready, pends, polls, refuses, releases, run_dropped, run_drops, run_goes_on, run_leaves}
use Rattle.solo_laws.specs.Courses.{run_looks, run_loses, run_polled, spawns, takes, tick_leaves, tick_lies_refused, tick_refused}
use Rattle.solo_laws.specs.Courses.{tick_rests, tick_takes, uses, wakes as wakes_it}
use Rattle.solo_laws.specs.Heeding.{Fits, FitsLying, FitsSearch}
use Rattle.solo_laws.specs.Making.{acted_as, behind, copy_refusal, made_as, may_copy, ran_as, searched_as}
use Rattle.solo_laws.specs.Numbered.{IsNumbered, ticker_of}
use Rattle.solo_laws.specs.Owner.{HasRoom, Owner, has_tick}
use Rattle.solo_laws.specs.Road.{HasLife, IsNamed, awaiters, drops, lents, wakes}
use Rattle.solo_laws.specs.RunGoing.{IsEnding, RunsOn, Searches, Stage, code_at, drop_ends, gives_way, in_try, is_refused, lies_refused}
use Rattle.solo_laws.specs.RunGoing.{looks_on, loss_ends, poll_ends, rests, robs_another, takes_common, takes_own}
use Rattle.solo_laws.specs.RunResting.{EachListed, sleep_answer, slept_from}
use Rattle.solo_laws.specs.Tabled.{Stands, goes_on, named}
use Rattle.solo_laws.specs.Ticking.{looks_again, slept_answer, slept_once}
use Rattle.solo_laws.proofs.Choices.Searched.{goes_sought}
use Rattle.solo_laws.proofs.Lines.{searched_empty}
use Rattle.solo_laws.proofs.Following.Bases as bases
use Rattle.solo_laws.proofs.Following.Counted.{other_events}
use Rattle.solo_laws.proofs.Following.Crowding.{is_among}
use Rattle.solo_laws.proofs.Following.Frames.{still}
use Rattle.solo_laws.proofs.Following.Housed.{still_housed}
use Rattle.solo_laws.proofs.Following.Keeping.{keeps, makes_numbered}
use Rattle.solo_laws.proofs.Following.Listed.{each_listed, has_own}
use Rattle.solo_laws.proofs.Following.Owns.{numbers}
use Rattle.solo_laws.proofs.Following.Polled.{busy, polled}
use Rattle.solo_laws.proofs.Following.Resting.{Standing}
use Rattle.solo_laws.proofs.Following.RunEnding.{tried_both}
use Rattle.solo_laws.proofs.Following.RunPolling.{going_there, same_hands}
use Rattle.solo_laws.proofs.Following.RunResting as resting
use Rattle.solo_laws.proofs.Following.Tabling.{tabled}
use Rattle.solo_laws.proofs.Following.Trying as trying
use Rattle.solo_laws.proofs.Following.VainTurns.{again}
use Rattle.solo_laws.proofs.Showing.Courses.{Known, makes_alike, run_room, tick_room}
use Rattle.solo_laws.proofs.Showing.StillListed.{one_in, stage_codes}
use Rattle.solo_laws.proofs.Happening.Heeding.{copy_once, copy_twice, granted_heeds, later_heeds, may_once, once_cells, refused_heeds}

-- where it isn't with a waker it looks again
unless : (looked lies : Bool) → looked ≡ not lies → lies ≡ false → looked ≡ true
unless looked lies so none = so ∙ ap not none

module _ {F T X : Type 0} (its : ℕ → Lent) (owner : Owner) (c : Choice) (runner : Runner) (w : SoloWaker X) (s : Solo F T X)
    (p : Plain T (SoloWaker X)) (both : Stands its s p) (n : IsNumbered owner.number s.sleepers p.lying) (all : EachListed s.runs)
    (many : length p.lying ≤ c.tells) (going : goes_on runner.number p ≡ true) (room : HasRoom (ARun runner.number) s p)
    (refusal : Refusal) (fits : FitsLying its p refusal (ARun runner.number) w) where
  one : may_copy w s ≡ true
  one = copy_once its s p both.0 w fits.copied

  -- a run that searches
  search_heeds : (shown : List (Event T (SoloWaker X))) (now : Owner) (z : Solo F T X)
      (how : Searches its owner c runner w s p shown now z)
      → c.refusal ≡ searched_as its owner c s p runner w shown now z refusal how → c.refusal ≡ refusal
  search_heeds shown now z (takes_own start task first keeps life) is = is
  search_heeds shown now z (takes_common start task first found turn keeps life) is = is
  search_heeds shown now z (robs_another start task first found turn walks robs moves keeps life) is = is
  search_heeds shown now z (is_refused start missed turn refused) is =
      refused ∙ sym (refused_heeds (may_copy w s) _ _ refusal one (sym is ∙ refused))
  search_heeds shown now z (rests first second missed turn granted names more life) is =
      let r = runner.number in
      let ticker = ticker_of owner.number (ARun r) p.lying in
      let so = resting.so its owner.number s p both n c r w first second going all missed turn in
      let looks_so =
      again its owner.number s p c (ARun r) w so (λ u same. ((names u same).0, (names u same).1)) many
      (trying.lives (named its) c s p turn both.0 2 life) room in
      let out_is = resting.out_is its owner.number s p both n c r w first second going all missed turn ticker in
      granted
      ∙ sym (granted_heeds (may_copy w s) (looks_again (sleep_answer r first ticker w s).look) _ refusal one
      (λ later. ap (λ (out : Ticked F X). looks_again out.look) out_is ∙ unless _ (lies_uncalled (ARun r) p.lying) looks_so
      (fits.anew later))
      (sym is ∙ granted))
  search_heeds shown now z (lies_refused first second missed turn refused names looked more life) is =
      let r = runner.number in
      let ticker = ticker_of owner.number (ARun r) p.lying in
      let out_is = resting.out_is its owner.number s p both n c r w first second going all missed turn ticker in
      let z_is = resting.z_is its owner.number s p both n c r w first second going all missed turn ticker in
      let cells_so = once_cells ticker w s (sym (ap (λ (out : Ticked F X). looks_again out.look) out_is) ∙ looked) in
      refused
      ∙ sym (later_heeds (may_copy w s) (looks_again (sleep_answer r first ticker w s).look) (may_copy w (slept_from r first ticker w s))
      refusal one looked
      (ap (λ (z : Solo F T X). may_copy w z) z_is ∙ copy_twice its s p both.0 w fits.copied (slept_once ticker w s) cells_so)
      (sym is ∙ refused))

module _ {F T X : Type 0} (its : ℕ → Lent) (owner : Owner) (c : Choice) (s : Solo F T X) (p : Plain T (SoloWaker X))
    (known : Known its owner s p) (many : length p.lying ≤ c.tells) (refusal : Refusal) where
  -- a call of a task
  made_heeds : (call : Call T (SoloWaker X)) (shown : List (Event T (SoloWaker X))) (z : Solo F T X)
      (how : Makes its c s p call shown z) → c.refusal ≡ made_as its owner c s p call shown z refusal how → Fits its c p refusal call
      → c.refusal ≡ refusal
  made_heeds call shown z (copies f at says) is fit =
      is ∙ (ap copy_refusal (may_once its s p known.stands.0 f fit.1) ∙ sym fit.0)
  made_heeds call shown z (polls f (OfTask t) at handle names life) is fit =
      is ∙ (ap copy_refusal (copy_once its s p known.stands.0 (OfTask t) fit.1) ∙ sym fit.0)
  made_heeds call shown z (polls f (Outside w) at handle names life) is fit = is
  made_heeds call shown z (spawns mark future spawned z' so granted_as granted life few) is fit = is
  made_heeds call shown z (refuses mark future refused z' so refused_as) is fit = is
  made_heeds call shown z (takes first life) is fit = is
  made_heeds call shown z looks is fit = is
  made_heeds call shown z (wakes_it f at life) is fit = is
  made_heeds call shown z (uses f at life) is fit = is
  made_heeds call shown z (releases f at life) is fit = is
  made_heeds call shown z (cancels f at life) is fit = is
  made_heeds call shown z (detaches f at life) is fit = is
  made_heeds call shown z (drops_handle f at life) is fit = is
  made_heeds call shown z (leaks owned life) is fit = is
  made_heeds call shown z (pends f by rest future one inside life) is fit = is
  made_heeds call shown z (gives f by rest v inside) is fit = is
  made_heeds call shown z (ends_given f v by rest one inside life) is fit = is
  made_heeds call shown z (ends_closed f by rest one inside life) is fit = is
  made_heeds call shown z (loses awaiter by rest one inside life) is fit = is

  -- a poll of a tick
  module _ (t : ℕ) (w : SoloWaker X) (lives : has_tick t owner ≡ true) (none : solo.sought s ≡ None)
      (turn : c.first ≡ mark_of_turn s.lines.turn) (fit : FitsLying its p refusal (ATick t) w) where
    tick_one : may_copy w s ≡ true
    tick_one = copy_once its s p known.stands.0 w fit.copied

    stands : Standing its c (ATick t) w owner.number (solo.popped s) p
    stands = record {
      follows = (trying.nothing (named its) c s p turn known.stands.0 (by (find test p.due) refl)).1;
      tabled = tabled its c s (solo.popped s) p p (bases.same s) (still c p) known.stands.1;
      numbered = known.numbered;
      none = searched_empty s.lines none;
    }
      where
        test : Due → Bool
        test = trying.test (named its) c s p turn known.stands.0

        by : (o : Option Due) → find (trying.test (named its) c s p turn known.stands.0) p.due ≡ o
            → find (trying.test (named its) c s p turn known.stands.0) p.due ≡ None
        by None is = is
        by (Some d) is =
            let some = trying.something (named its) c s p turn known.stands.0 d is in
            let no : ◌≡◌ {A = Option Task} None (Some (named its d.future)) = sym none ∙ some.0 in absurd cc

    looks_so : ((u : Task) → w ≡ OfTask u → IsNamed (named its) (length p.futures) u × (solo.may_hold u s ≡ true)) → HasLife 2 s.lines
        → looks_again (slept_answer (ticker_of owner.number (ATick t) p.lying) w s).look ≡ not (lies_uncalled (ATick t) p.lying)
    looks_so names life =
        again its owner.number s p c (ATick t) w stands names many (trying.lives (named its) c s p turn known.stands.0 2 life)
        (tick_room its owner s p known.stands known.numbered known.housed t lives)

  -- behind what a run took it searches on
  module _ (stage : Stage T (SoloWaker X)) (runner : Runner) (w : SoloWaker X) (rest : List (Code T (SoloWaker X)))
      (call : Call T (SoloWaker X)) (shown : List (Event T (SoloWaker X))) (y : Solo F T X)
      (is : p.inside ≡ code_at stage (Run runner.number w) ∷ rest) (ends : IsEnding stage call)
      (how : Makes its c s (in_try stage rest p) call (shown ++ Answers Yes ∷ []) y) (fit : FitsSearch its c p refusal call) where
    abbrev tried : Plain T (SoloWaker X)
    tried = in_try stage rest p

    abbrev mid : Plain T (SoloWaker X)
    mid = behind its c s p stage rest call shown

    on_heeds : (others : List (Event T (SoloWaker X))) (now : Owner) (z : Solo F T X) (on : RunsOn its owner c runner w y mid others now z)
        → c.refusal ≡ ran_as its owner c y mid runner w others now z refusal on → c.refusal ≡ refusal
    on_heeds others now z (gives_way enough names life) same = same
    on_heeds others now z (looks_on others' now' z' less found) same =
        let r = runner.number in
        let t = tried_both its owner c s p known.stands known.numbered many stage r w rest call is ends in
        let it = makes_alike its c s y tried call (shown ++ Answers Yes ∷ []) t many how in
        let kept = keeps its c s tried call (shown ++ Answers Yes ∷ []) y how in
        let held =
        known.listed.held r (one_in r (busy_in rest) (busy_in p.inside) (stage_codes (λ r. r ∷ []) r w rest p.inside stage is)) in
        let stands_so = other_events its c y (does wakes c call tried) (p.events ++ shown) it.0 in
        let numbered = makes_numbered its c s tried owner.number call (shown ++ Answers Yes ∷ []) y how known.numbered many it.0 in
        let listed = subst EachListed (sym kept.0.1) (each_listed (polled p) (busy p) s.runs known.listed) in
        let has_own_y = subst (λ o. has_own r o ≡ true) (sym kept.0.1) held in
        let going = going_there its y mid stands_so r has_own_y in
        let housed =
        still_housed owner.ticks s y p mid (ap (λ o. numbers o.queues) kept.0.1) kept.0.0.2
        (λ v among. known.housed.living v (sym (ap (is_among v) kept.1.whos) ∙ among)) known.housed in
        let few = subst (λ k. k ≤ c.tells) (sym kept.1.long) many in
        let way =
        ap (λ rs. nat_lt (or (slice_get rs r) (λ (run : Running). run.taken) 0) 200) kept.1.runs ∙ known.tallied.gives_way r in
        let sought =
        goes_sought its owner c s p known many stage r w rest call is ends shown y how
        ∙ ap (λ b. if b then Some (record { run = r; waker = w; at = mid }) else None) (way ∙ ap not less) in
        search_heeds its owner c runner w y mid stands_so numbered listed few going
        (run_room its owner y mid stands_so numbered housed r has_own_y) refusal
        (fit (record { run = r; waker = w; at = mid }) sought) others' now' z' found same

  ends_fit : (stage : Stage T (SoloWaker X)) (call : Call T (SoloWaker X)) → IsEnding stage call → Fits its c p refusal call
      → FitsSearch its c p refusal call
  ends_fit stage call (poll_ends f) fit = fit
  ends_fit stage call (drop_ends f end) fit = fit
  ends_fit stage call (loss_ends awaiter) fit = fit

  -- each call
  pub acts_heed : (call : Call T (SoloWaker X)) (shown : List (Event T (SoloWaker X))) (now : Owner) (z : Solo F T X)
      (acts : Acts its owner c s p call shown now z) → c.refusal ≡ acted_as its c s p owner call shown now z refusal acts
      → Fits its c p refusal call → c.refusal ≡ refusal
  acts_heed call shown now z (makes call' shown' z' how) is fit = made_heeds call' shown' z' how is fit
  acts_heed call shown now z (makes_tick t new granted) is fit = is
  acts_heed call shown now z (tick_takes t w task lives found first life) is fit = is
  acts_heed call shown now z (tick_rests t w lives none first granted names more life) is fit =
      let ticker = ticker_of owner.number (ATick t) p.lying in
      granted
      ∙ sym (granted_heeds (may_copy w s) (looks_again (slept_answer ticker w s).look) _ refusal (tick_one t w lives none first fit)
      (λ later. unless _ (lies_uncalled (ATick t) p.lying)
      (looks_so t w lives none first fit (λ u same. ((names u same).0, (names u same).1.0)) life) (fit.anew later))
      (sym is ∙ granted))
  acts_heed call shown now z (tick_refused t w lives none first refused) is fit =
      refused ∙ sym (refused_heeds (may_copy w s) _ _ refusal (tick_one t w lives none first fit) (sym is ∙ refused))
  acts_heed call shown now z (tick_lies_refused t w lives none first refused names looked more life) is fit =
      let ticker = ticker_of owner.number (ATick t) p.lying in
      refused
      ∙ sym (later_heeds (may_copy w s) (looks_again (slept_answer ticker w s).look) (may_copy w (slept_once ticker w s)) refusal
      (tick_one t w lives none first fit) looked
      (copy_twice its s p known.stands.0 w fit.copied (slept_once ticker w s) (once_cells ticker w s looked)) (sym is ∙ refused))
  acts_heed call shown now z (tick_leaves t lives life) is fit = is
  acts_heed call shown now z (makes_no_tick refused) is fit = is
  acts_heed call shown now z (makes_run granted few) is fit = is
  acts_heed call shown now z (makes_no_run refused) is fit = is
  acts_heed call shown now z (run_polled runner w going free) is fit = is
  acts_heed call shown now z (over_polled r w over) is fit = is
  acts_heed call shown now z (own_ready r w v rest inside) is fit = is
  acts_heed call shown now z (run_looks runner w rest shown' now' z' mine inside how) is fit =
      let r = runner.number in
      let out : Plain T (SoloWaker X) = record p { inside = rest } in
      let stands_so =
      same_hands its s p known.stands c rest (sym (ap (λ cs. lents cs) inside)) (sym (ap (λ cs. drops cs) inside))
      (sym (ap (λ cs. awaiters cs) inside)) in
      let held = known.listed.held r (one_in r (busy_in rest) (busy_in p.inside) (ap (λ cs. busy_in cs) inside)) in
      search_heeds its owner c runner w s out stands_so known.numbered (each_listed (polled p) (busy p) s.runs known.listed) many
      (going_there its s p known.stands r held) (run_room its owner s p known.stands known.numbered known.housed r held) refusal
      (fit (record { run = r; waker = w; at = out }) (ap (λ cs. searches_inside wakes c Pends cs p) inside)) shown' now' z' how is
  acts_heed call shown now z (run_goes_on stage runner w rest call' before others now' y z' mine inside ends made on) is fit =
      on_heeds stage runner w rest call' before y inside ends made (ends_fit stage call' ends fit) others now' z' on is
  acts_heed call shown now z (run_drops stage r w rest call' before f z' inside ends made) is fit = is
  acts_heed call shown now z (run_loses stage r w rest call' before v z' inside ends made) is fit = is
  acts_heed call shown now z (run_dropped r going free) is fit = is
  acts_heed call shown now z (over_dropped r over) is fit = is
  acts_heed call shown now z (run_leaves runner answer rest inside life) is fit = is
