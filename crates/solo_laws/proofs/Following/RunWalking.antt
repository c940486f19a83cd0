-- A run that finds nothing of its own, nor in the executor's queues, takes what another keeps, as its walk finds it.
use Rattle.std.proofs.Common.{◌≡◌, ℕ, ◌-◌, ◌%◌, ◌≤◌, if◌then◌else◌, Bool, true, false, List, [], ◌∷◌, length, find, Option}
use Rattle.std.proofs.Common.{Some, None}
use Rattle.std.proofs.Common.{is_some, refl, sym, ap, subst, ◌∙◌}
use Rattle.executor_parts.specs.Marks.{other}
use Rattle.executor_parts.specs.Sleepers.{Sleepers}
use Rattle.solo.specs.declared.names.Task.{Task}
use Rattle.solo.specs.declared.names.SoloWaker.{SoloWaker}
use Rattle.solo.specs.declared.owed.Lent.{Lent}
use Rattle.solo.specs.declared.runs.Runner.{Runner}
use Rattle.solo.specs.declared.steals.Source.TheVariants.{Own}
use Rattle.solo.specs.declared.solo.Solo.{Solo}
use Rattle.solo.specs.declared.ticks.Ticker.{Ticker}
use Rattle.solo.specs.Lines.{LinesValue, mark_of_turn, search_answer}
use Rattle.solo.specs.OwnQueues as own
use Rattle.solo.specs.Runs as runs
use Rattle.solo.specs.Solo as solo
use Rattle.solo.specs.Steals as steals
use Rattle.plain_scheduler.specs.State.{ARun, Choice, Due, Plain, Run, Who}
use Rattle.plain_scheduler.specs.Lists.{any, or, repeat, without}
use Rattle.plain_scheduler.specs.Calls as calls
use Rattle.plain_scheduler.specs.Moves.{chosen, is_common, is_due, is_kept, is_run, keeps, tell, up}
use Rattle.plain_scheduler.specs.Takes as takes
use Rattle.solo_laws.specs.Numbered.{IsNumbered, ticker_of}
use Rattle.solo_laws.specs.Road.{FollowsBut, HasLife, awaiters, drops, lents, tests, wakes}
use Rattle.solo_laws.specs.Stealing.{share_of, stolen_marks}
use Rattle.solo_laws.specs.Tabled.{IsTable, Stands, goes_on, is_dropped, named}
use Rattle.solo_laws.specs.Ticking.{IsTaken}
use Rattle.solo_laws.specs.Walking.{RunsTakeKept, robbed}
use Rattle.solo_laws.proofs.Following.Appending.{with_due}
use Rattle.solo_laws.proofs.Following.Bases as bases
use Rattle.solo_laws.proofs.Following.Cells.{same_number}
use Rattle.solo_laws.proofs.Following.Due.{clash, found_stands}
use Rattle.solo_laws.proofs.Following.Frames.{seen_still}
use Rattle.solo_laws.proofs.Following.OwnEmpty.{none_kept, popped_both}
use Rattle.solo_laws.proofs.Following.RunPolling.{same_hands}
use Rattle.solo_laws.proofs.Following.RunTaking.{found_alike, passes}
use Rattle.solo_laws.proofs.Following.Tabling.{due_lives, tabled}
use Rattle.solo_laws.proofs.Following.Taking.{found_any}
use Rattle.solo_laws.proofs.Following.Trying as trying
use Rattle.solo_laws.proofs.Following.Walking as walking

-- who keeps one
pub its_keeper : (k : ℕ) (d : Due) → is_kept k d ≡ true → d.keeper ≡ Some k
its_keeper k d is = by d.keeper is
  where
    by : (o : Option ℕ) → is_run k o ≡ true → o ≡ Some k
    by None is = absurd cc
    by (Some n) is = ap (λ n. Some n) (sym (same_number k n is))

pub none_by : (test : Due → Bool) (ds : List Due) → find test ds ≡ None → any test ds ≡ false
none_by test ds is = found_any test ds ∙ ap (λ o. is_some o) is

pub some_by : (test : Due → Bool) (ds : List Due) (d : Due) → find test ds ≡ Some d → any test ds ≡ true
some_by test ds d is = found_any test ds ∙ ap (λ o. is_some o) is

module _ {F T X : Type 0} (its : ℕ → Lent) (number : Who → ℕ) (s : Solo F T X) (p : Plain T (SoloWaker X)) (both : Stands its s p)
    (n : IsNumbered number s.sleepers p.lying) (c : Choice) (runner : Runner) (w : SoloWaker X) (start : ℕ) (task : Task)
    (going : goes_on runner.number p ≡ true) (first : own.first_of runner.number s.runs ≡ None) (has : solo.sought s ≡ None)
    (turn : c.first ≡ mark_of_turn s.lines.turn) (many : length p.lying ≤ c.tells) (life : HasLife 5 s.lines) where
  abbrev pub r : ℕ
  r = runner.number

  abbrev pub ticker : Ticker
  ticker = ticker_of number (ARun r) p.lying

  abbrev pub empty : Solo F T X
  empty = steals.own_popped r s

  abbrev pub searched : Solo F T X
  searched = solo.popped empty

  abbrev pub end : Solo F T X
  end = steals.walked r start searched

  abbrev Taken : Plain T (SoloWaker X) → Type 0
  Taken q =
      IsTaken its number s p (ARun r) (Run r w) (runs.found_answer runner ticker None task false end).ticked
      (runs.searched runner ticker start s) q

  pub none_own : any (is_kept r) p.due ≡ false
  none_own = none_kept its s p both r going first

  both_empty : Stands its empty p
  both_empty = popped_both its s p both r none_own

  -- a search finds none
  none_common : find (chosen (tests c.first) p.due) p.due ≡ None
  none_common = by (find (chosen (tests c.first) p.due) p.due) refl
    where
      by : (o : Option Due) → find (chosen (tests c.first) p.due) p.due ≡ o → o ≡ None
      by None is = refl
      by (Some d) is =
          let some = trying.something (named its) c empty p turn both_empty.0 d is in
          let it : ◌≡◌ {A = Option Task} None (Some (named its d.future)) = sym has ∙ some.0 in
          absurd cc

  pub both_searched : Stands its searched p
  both_searched = (
    (trying.nothing (named its) c empty p turn both_empty.0 none_common).1,
    tabled its c empty searched p p (bases.same empty) (seen_still c p p.events) both_empty.1,
  )

  pub lives : HasLife 5 searched.lines
  lives = trying.lives (named its) c empty p turn both_empty.0 5 life

  abbrev pub from : ℕ × Solo F T X
  from = robbed r start searched

  abbrev pub share : ℕ
  share = share_of (Own from.0) r from.1 - 1

  module _ (finds : (steals.whole_round r start searched).0 ≡ Some task) (robs : c.robs ≡ from.0) (moves : c.moves ≡ share)
      (keeps_are : c.keeps ≡ stolen_marks (runs.is_steal_due runner) r (runs.told ticker end)) where
    abbrev pub Found : Type 0
    Found = walking.Found its number p r going none_own searched.lines s.sleepers n task end from.0 share

    pub found : Found
    found =
        walking.walks its number p r going none_own searched.lines s.sleepers n task searched.runs.listed searched.runs.listed
        (start % searched.runs.listed) searched (record { stands = both_searched; lines_are = refl; sleepers_are = refl }) finds

    abbrev pub d : Due
    d = found.d

    abbrev pub k : ℕ
    k = from.0

    abbrev pub left : Plain T (SoloWaker X)
    left = with_due (without (is_kept k) p.due) p

    abbrev pub moved : Plain T (SoloWaker X)
    moved = repeat share (keeps r (is_kept k)) left

    abbrev pub StandsAt : Plain T (SoloWaker X) → Type 0
    StandsAt q = FollowsBut (Some d) (named its) end q × IsTable its end q

    pub stands_so : StandsAt (with_due moved.due left)
    stands_so = subst StandsAt (walking.only_due r share (is_kept k) left) (found.follows, found.table)

    pub live : is_dropped d.future p ≡ false
    live = due_lives its c s p both.0 both.1 d.future (found_stands (is_kept k) p.due d found.is)

    abbrev ended : Plain T (SoloWaker X) → Plain T (SoloWaker X)
    ended q = takes.run wakes c d.future (Run r w) (takes.counted wakes c r (takes.kept wakes c r (tell wakes c (up wakes c (ARun r) q))))

    taken : Taken (ended (with_due moved.due left))
    taken =
        let it =
        found_alike its number c runner w d end (with_due moved.due left) stands_so.0 stands_so.1
        (subst (λ (sl : Sleepers (SoloWaker X)). IsNumbered number sl p.lying) (sym found.sleepers_are) n) live many
        (subst (λ (l : LinesValue). HasLife 5 l) (sym found.lines_are) lives) going keeps_are p refl refl in
        subst
        (λ o. IsTaken its number s p (ARun r) (Run r w) (runs.found_answer runner ticker None task false end).ticked
        (runs.searched_by (steals.seek_answer_by o r start empty).task runner ticker (steals.sought_by o r start empty))
        (ended (with_due moved.due left))) (sym first)
        (subst
        (λ o. IsTaken its number s p (ARun r) (Run r w) (runs.found_answer runner ticker None task false end).ticked
        (runs.searched_by (steals.further_answer_by o r start searched).task runner ticker
        (steals.further_by o (search_answer s.lines).mark r start searched))
        (ended (with_due moved.due left))) (sym has)
        (subst
        (λ o. IsTaken its number s p (ARun r) (Run r w) (runs.found_answer runner ticker None task false end).ticked
        (runs.searched_by o runner ticker end) (ended (with_due moved.due left))) (sym finds)
        (subst
        (λ task. IsTaken its number s p (ARun r) (Run r w) (runs.found_answer runner ticker None task false end).ticked
        (runs.found runner ticker task end) (ended (with_due moved.due left))) found.task_is
        (record {
          stands = it.stands;
          numbered = it.numbered;
          awake = it.awake;
          seen = it.seen;
          inside = it.inside;
          handed = it.handed;
          lent = it.lent;
        }))))

    pub robbed_is : takes.robbed wakes c r d.keeper left ≡ with_due moved.due left
    robbed_is =
        ap (λ o. takes.robbed wakes c r o left) (its_keeper k d (passes (is_kept k) p.due d found.is))
        ∙ (ap (λ b. if b then left else repeat c.moves (keeps r (is_kept k)) left) found.away
        ∙ (ap (λ m. repeat m (keeps r (is_kept k)) left) moves ∙ walking.only_due r share (is_kept k) left))

    abbrev by_test : (Due → Bool) → Type 0
    by_test test =
        Taken (or (find test p.due) (λ d. takes.takes wakes c (Run r w) d (record p { due = without test p.due }))
        (takes.nothing wakes c (Run r w) p))

    abbrev after_them : List (Due → Bool)
    after_them = is_kept c.robs ∷ is_due ∷ []

    robbed_first : by_test (is_kept c.robs)
    robbed_first =
        subst (λ k. by_test (is_kept k)) (sym robs)
        (subst (λ o. Taken (or o (λ d. takes.takes wakes c (Run r w) d left) (takes.nothing wakes c (Run r w) p))) (sym found.is)
        (subst (λ q. Taken (ended q)) (sym robbed_is) taken))

    -- no queue of the executor has any
    pub commons_none : (any (is_common c.first) p.due ≡ false) × (any (is_common (other c.first)) p.due ≡ false)
    commons_none = by (any (is_common c.first) p.due) (any (is_common (other c.first)) p.due) refl refl
      where
        test : Bool → Bool → Due → Bool
        test a b d = if a then is_common c.first d else (if b then is_common (other c.first) d else false)

        by : (a b : Bool) → any (is_common c.first) p.due ≡ a → any (is_common (other c.first)) p.due ≡ b
            → (any (is_common c.first) p.due ≡ false) × (any (is_common (other c.first)) p.due ≡ false)
        by false false one two = (one, two)
        by true b one two =
            absurd (clash (none_by (is_common c.first) p.due
            (ap (λ a. find (test a (any (is_common (other c.first)) p.due)) p.due) (sym one) ∙ none_common)) one)
        by false true one two =
            absurd (clash (none_by (is_common (other c.first)) p.due
            (ap (λ b. find (test false b) p.due) (sym two)
            ∙ (ap (λ a. find (test a (any (is_common (other c.first)) p.due)) p.due) (sym one) ∙ none_common))) two)

    takes_kept : Taken (takes.take wakes c (Run r w) p)
    takes_kept =
        subst
        (λ b. by_test (λ d. if b then is_kept r d
        else chosen (is_common c.first ∷ is_common (other c.first) ∷ after_them) p.due d)) (sym none_own)
        (subst
        (λ b. by_test (λ d. if b then is_common c.first d else chosen (is_common (other c.first) ∷ after_them) p.due d))
        (sym commons_none.0)
        (subst
        (λ b. by_test (λ d. if b then is_common (other c.first) d else chosen after_them p.due d)) (sym commons_none.1)
        (subst
        (λ b. by_test (λ d. if b then is_kept c.robs d else chosen (is_due ∷ []) p.due d))
        (sym (ap (λ k. any (is_kept k) p.due) robs ∙ some_by (is_kept k) p.due d found.is)) robbed_first)))

module _ {F T X : Type 0} (its : ℕ → Lent) (number : Who → ℕ) (s : Solo F T X) (p : Plain T (SoloWaker X)) (both : Stands its s p)
    (n : IsNumbered number s.sleepers p.lying) where
  pub runs_take_kept : RunsTakeKept its number s p
  runs_take_kept c runner w rest start task stands_in going first has turn finds robs moves keeps_are many life =
      let q : Plain T (SoloWaker X) = record p { inside = rest } in
      let both' : Stands its s q =
      same_hands its s p both c rest (sym (ap (λ cs. lents cs) stands_in)) (sym (ap (λ cs. drops cs) stands_in))
      (sym (ap (λ cs. awaiters cs) stands_in)) in
      let ticker = ticker_of number (ARun runner.number) p.lying in
      let z = steals.walked runner.number start (solo.popped (steals.own_popped runner.number s)) in
      subst
      (λ cs. IsTaken its number s q (ARun runner.number) (Run runner.number w)
      (runs.found_answer runner ticker None task false z).ticked (runs.searched runner ticker start s)
      (calls.innermost wakes c cs (calls.pends wakes c) p)) (sym stands_in)
      (takes_kept its number s q both' n c runner w start task going first has turn many life finds robs moves keeps_are)
