-- A run takes a future that nobody keeps, as a search finds it: it steals from that queue before it gets up and tells; the plain
-- scheduler's run keeps as many after, and what is appended in between comes behind them.
use Rattle.std.proofs.Common.{◌≡◌, ℕ, zero, suc, ◌+◌, ◌≤◌, ◌==◌, if◌then◌else◌, not, Bool, true, false, List, [], ◌∷◌, ◌++◌, length, map}
use Rattle.std.proofs.Common.{find, Option, Some, None, slice_get, slice_set, refl, sym, ap, subst, ◌∙◌, arith}
use Rattle.queue_steps.specs.ClosableQueue.{most_accepted}
use Rattle.executor_parts.specs.declared.mark.Mark.{Mark}
use Rattle.executor_parts.specs.Marks.{other}
use Rattle.executor_parts.specs.Sleepers.{Sleepers}
use Rattle.task_moves.specs.AbstractTask as abstract
use Rattle.solo.specs.declared.names.Task.{Task}
use Rattle.solo.specs.declared.names.SoloWaker.{SoloWaker}
use Rattle.solo.specs.declared.owed.Lent.{Lent}
use Rattle.solo.specs.declared.runs.Runner.{Runner}
use Rattle.solo.specs.declared.steals.Source.TheVariants.{Common}
use Rattle.solo.specs.declared.solo.Solo.{Solo}
use Rattle.solo.specs.declared.ticks.Ticker.{Ticker}
use Rattle.solo.specs.Lines.{mark_of_turn, popped_from, search_answer}
use Rattle.solo.specs.OwnQueues as own
use Rattle.solo.specs.Runs as runs
use Rattle.solo.specs.Solo as solo
use Rattle.solo.specs.Steals as steals
use Rattle.solo.specs.Ticks as ticks
use Rattle.plain_scheduler.specs.State.{ARun, Choice, Due, Plain, Run, Running, Taker, Who}
use Rattle.plain_scheduler.specs.Lists.{any, each, on, or, repeat, without}
use Rattle.plain_scheduler.specs.Calls as calls
use Rattle.plain_scheduler.specs.Moves.{chosen, commons, enters, is_common, is_due, is_kept, is_run, keeps, see, task as task_of, tell, up}
use Rattle.plain_scheduler.specs.State.{Closed, Poll, Polls, Future}
use Rattle.plain_scheduler.specs.Takes as takes
use Rattle.task_moves.specs.LocalTask.{told as told_of}
use Rattle.solo_laws.specs.Numbered.{IsNumbered, ticker_of}
use Rattle.solo_laws.specs.Road.{FollowsBut, HasLife, awaiters, count_of, drops, lents, once, tests, wakes}
use Rattle.solo_laws.specs.RunTaking.{RunsTakeCommon}
use Rattle.solo_laws.specs.Stealing.{share_of, so_many, stolen_marks}
use Rattle.solo_laws.specs.Tabled.{IsTable, Stands, goes_on, is_dropped, named}
use Rattle.solo_laws.specs.Ticking.{IsTaken}
use Rattle.solo_laws.proofs.Following.Appending.{Appends, both_append, with_due}
use Rattle.solo_laws.proofs.Following.Bases as bases
use Rattle.solo_laws.proofs.Following.Begun.{chosen_free}
use Rattle.solo_laws.proofs.Following.Due.{both_true, clash, equal, found_stands}
use Rattle.solo_laws.proofs.Following.Frames.{due_still}
use Rattle.solo_laws.proofs.Following.Lines.{popped_same}
use Rattle.solo_laws.proofs.Following.NextOnes.{each_mark}
use Rattle.solo_laws.proofs.Following.Rising.{risen}
use Rattle.solo_laws.proofs.Following.OwnEmpty.{none_kept, popped_both}
use Rattle.solo_laws.proofs.Following.RunPolling.{same_hands}
use Rattle.solo_laws.proofs.Following.RunTaking.{found_alike, moved_left, passes}
use Rattle.solo_laws.proofs.Following.SameDue.{Same, each_once, each_same, keeps_due, many_behind, next_due}
use Rattle.solo_laws.proofs.Following.Shares.{share_most}
use Rattle.solo_laws.proofs.Following.Stealing.{length_there, steals_all}
use Rattle.solo_laws.proofs.Following.Tabling.{due_lives, tabled, taken_still}
use Rattle.solo_laws.proofs.Following.TickTaking.{tells}
use Rattle.solo_laws.proofs.Following.Trying as trying

module _ {T X : Type 0} where
  -- what a run keeps, by what is due
  keeps_many : (r : ℕ) (mark : Mark) (n : ℕ) (p : Plain T (SoloWaker X))
      → repeat n (keeps r (is_common mark)) p ≡ with_due (repeat n (next_due r mark) p.due) p
  keeps_many r mark zero p = refl
  keeps_many r mark (suc n) p =
      keeps_many r mark n (keeps r (is_common mark) p)
      ∙ ap (λ (q : Plain T (SoloWaker X)). with_due (repeat n (next_due r mark) q.due) q) (keeps_due r mark p)

  pub keeps_each : (r : ℕ) (marks : List Mark) (p : Plain T (SoloWaker X))
      → each marks (λ mark. keeps r (is_common mark)) p ≡ with_due (each marks (next_due r) p.due) p
  keeps_each r [] p = refl
  keeps_each r (mark ∷ marks) p =
      keeps_each r marks (keeps r (is_common mark) p)
      ∙ ap (λ (q : Plain T (SoloWaker X)). with_due (each marks (next_due r) q.due) q) (keeps_due r mark p)

  -- the run of a future that begins leaves what is due
  run_due : (c : Choice) (f : ℕ) (by : Taker (SoloWaker X)) (ds : List Due) (p : Plain T (SoloWaker X))
      → takes.run wakes c f by (with_due ds p) ≡ with_due ds (takes.run wakes c f by p)
  run_due c f by ds p = closed_by (task_of f p).closed (slice_get p.futures f)
    where
      new : abstract.AbstractTask T (SoloWaker X)
      new = abstract.begin_run (task_of f p)

      put_by : Option (Future T (SoloWaker X)) → Plain T (SoloWaker X) → Plain T (SoloWaker X)
      put_by o p = on o (λ x p. record p { futures = slice_set p.futures f (record x { task = told_of new }) }) p

      one : Bool → Option (Future T (SoloWaker X)) → Plain T (SoloWaker X) → Plain T (SoloWaker X)
      one b o p = if b then takes.dropping wakes c f Closed by p else enters (Poll f by) (see (Polls f) (put_by o p))

      closed_by : (b : Bool) (o : Option (Future T (SoloWaker X))) → one b o (with_due ds p) ≡ with_due ds (one b o p)
      closed_by true o = refl
      closed_by false None = refl
      closed_by false (Some x) = refl

  counted_due : (c : Choice) (r : ℕ) (ds : List Due) (p : Plain T (SoloWaker X))
      → takes.counted wakes c r (with_due ds p) ≡ with_due ds (takes.counted wakes c r p)
  counted_due c r ds p = by (slice_get p.runs r)
    where
      one : Option Running → Plain T (SoloWaker X) → Plain T (SoloWaker X)
      one o p = on o (λ run p. record p { runs = slice_set p.runs r (record run { taken = run.taken + 1 }) }) p

      by : (o : Option Running) → one o (with_due ds p) ≡ with_due ds (one o p)
      by None = refl
      by (Some run) = refl

-- both stand so with the same futures due in another order
same_stands : {F T X : Type 0} (its : ℕ → Lent) (c : Choice) (s : Solo F T X) (p : Plain T (SoloWaker X)) (ds es : List Due)
    → Same ds es → once ds ≡ true → Stands its s (with_due es p) → Stands its s (with_due ds p)
same_stands its c s p ds es so all both =
    let f = both.0 in (
      record {
        numbered = f.numbered;
        tasks = f.tasks;
        within = f.within;
        queued = record {
          lines = λ m. f.queued.lines m ∙ ap (map (λ d. named its d.future)) (sym (so.commons m));
          unclosed = f.queued.unclosed;
          limit = f.queued.limit;
        };
        once = all;
        ready = λ j due. f.ready j (so.stood_so j due);
        asleep = f.asleep;
        awaiters = f.awaiters;
        inside = f.inside;
      },
      tabled its c s s (with_due es p) (with_due ds p) (bases.same s) (due_still c (with_due es p) ds so.kept) both.1,
    )

module _ {F T X : Type 0} where
  -- a steal leaves how many tasks a queue has accepted
  pub moved_lives : (k n : ℕ) (mark : Mark) (r : ℕ) (s : Solo F T X) → HasLife k s.lines → HasLife k
      (steals.moved n (Common mark) r s).lines
  moved_lives k zero mark r s life = life
  moved_lives k (suc n) mark r s life =
      by (steals.first_of (Common mark) s) first
      (λ task. moved_lives k n mark r (steals.kept r task (steals.without_first (Common mark) s)) first)
    where
      first : HasLife k (popped_from mark s.lines)
      first m =
          subst (λ a. a + k ≤ most_accepted) (sym (popped_same (λ q. count_of q.accepted) (λ q. refl) mark m s.lines)) (life m)

      by : (o : Option Task) → HasLife k (popped_from mark s.lines)
          → ((task : Task) → HasLife k (steals.moved n (Common mark) r (steals.kept r task (steals.without_first (Common mark) s))).lines)
          → HasLife k (steals.moved_on o (steals.without_first (Common mark) s)
          (λ task. steals.moved n (Common mark) r (steals.kept r task (steals.without_first (Common mark) s)))).lines
      by None left more = left
      by (Some task) left more = more task

module _ {F T X : Type 0} (its : ℕ → Lent) (number : Who → ℕ) (s : Solo F T X) (p : Plain T (SoloWaker X)) (both : Stands its s p)
    (n : IsNumbered number s.sleepers p.lying) (c : Choice) (runner : Runner) (w : SoloWaker X) (going : goes_on runner.number p ≡ true)
    (turn : c.first ≡ mark_of_turn s.lines.turn) (many : length p.lying ≤ c.tells) (life : HasLife 5 s.lines) (mark : Mark) (d : Due)
    (found : find (chosen (tests c.first) p.due) p.due ≡ Some d) where
  abbrev r : ℕ
  r = runner.number

  abbrev who : Who
  who = ARun r

  abbrev ticker : Ticker
  ticker = ticker_of number who p.lying

  abbrev pub left : Plain T (SoloWaker X)
  left = with_due (without (chosen (tests c.first) p.due) p.due) p

  abbrev pub share : ℕ
  share = share_of (Common mark) r (solo.popped s)

  abbrev pub stolen : Solo F T X
  stolen = steals.stolen (Common mark) r (solo.popped s)

  abbrev marks : List Mark
  marks = stolen_marks (runs.is_steal_due runner) r (runs.told ticker stolen)

  -- with the marks that are kept after the tell
  abbrev later : Choice
  later = record c { keeps = marks }

  abbrev pub more : List Due
  more = repeat share (next_due r mark) left.due

  pub out : FollowsBut (Some d) (named its) (solo.popped s) left
  out = (trying.something (named its) c s p turn both.0 d found).1

  pub out_table : IsTable its (solo.popped s) left
  out_table =
      tabled its c s (solo.popped s) p left (bases.same s)
      (taken_still its c s p both.0 both.1 (chosen (tests c.first) p.due) (λ r d is. chosen_free c.first p.due r d is)) both.1

  pub lives : HasLife 5 (solo.popped s).lines
  lives = trying.lives (named its) c s p turn both.0 5 life

  -- it steals first
  abbrev pub StolenAt : Plain T (SoloWaker X) → Type 0
  StolenAt q = FollowsBut (Some d) (named its) stolen q × IsTable its stolen q

  pub stolen_so : StolenAt (with_due more left)
  stolen_so =
      subst StolenAt (keeps_many r mark share left)
      (steals_all (Some d) its r (solo.popped s) left (out, out_table) going (Common mark) refl)

  pub numbered_so : IsNumbered number stolen.sleepers p.lying
  numbered_so =
      subst (λ (sl : Sleepers (SoloWaker X)). IsNumbered number sl p.lying)
      (sym (moved_left share (Common mark) r (solo.popped s)).1) n

  pub live : is_dropped d.future p ≡ false
  live = due_lives its c s p both.0 both.1 d.future (found_stands (chosen (tests c.first) p.due) p.due d found)

  abbrev Taken : Plain T (SoloWaker X) → Type 0
  Taken q =
      IsTaken its number s p who (Run r w) (runs.found_answer runner ticker None (named its d.future) false stolen).ticked
      (runs.found runner ticker (named its d.future) stolen) q

  abbrev pub told : Plain T (SoloWaker X)
  told = tell wakes c (up wakes c who left)

  pub appends : Appends (λ p. tell wakes c (up wakes c who p)) left
  appends = both_append c who left

  -- with these due
  abbrev ended : List Due → Plain T (SoloWaker X)
  ended ds = takes.run wakes c d.future (Run r w) (takes.counted wakes c r (with_due ds told))

  ended_is : (ds : List Due) → ended ds ≡ with_due ds (takes.run wakes c d.future (Run r w) (takes.counted wakes c r told))
  ended_is ds =
      ap (takes.run wakes c d.future (Run r w)) (counted_due c r ds told)
      ∙ run_due c d.future (Run r w) ds (takes.counted wakes c r told)

  abbrev before : List Due
  before = each marks (next_due r) (more ++ appends.tail)

  abbrev after : List Due
  after = each marks (next_due r) (repeat share (next_due r mark) (left.due ++ appends.tail))

  taken_before : Taken (ended before)
  taken_before =
      let it =
      found_alike its number later runner w d stolen (with_due more left) stolen_so.0 stolen_so.1 numbered_so live many
      (moved_lives 5 share mark r (solo.popped s) lives) going refl p refl refl in
      let kept_is : takes.kept wakes later r (tell wakes c (up wakes c who (with_due more left))) ≡ with_due before told =
      ap (takes.kept wakes later r) (appends.is more) ∙ keeps_each r marks (with_due (more ++ appends.tail) told) in
      subst (λ q. Taken (takes.run wakes c d.future (Run r w) (takes.counted wakes c r q))) kept_is
      (record {
        stands = it.stands;
        numbered = it.numbered;
        awake = it.awake;
        seen = it.seen;
        inside = it.inside;
        handed = it.handed;
        lent = it.lent;
      })

  pub told_due : told.due ≡ left.due ++ appends.tail
  told_due = ap (λ (q : Plain T (SoloWaker X)). q.due) (appends.is left.due)

  pub same_first : Same (repeat share (next_due r mark) (left.due ++ appends.tail)) (more ++ appends.tail)
  same_first =
      many_behind r mark appends.tail appends.free share left.due
      (let most = (share_most (steals.length_of (Common mark) (solo.popped s)) (own.free_of r (solo.popped s).runs)).0 in
      let there = length_there (Some d) its r (Common mark) (solo.popped s) left (out, out_table) in
      omega (arith, most, there))

  same : Same after before
  same = each_same r marks (repeat share (next_due r mark) (left.due ++ appends.tail)) (more ++ appends.tail) same_first

  once_told : once told.due ≡ true
  once_told =
      let u = risen its number c (Some d) (solo.popped s) left out n many lives who in
      let so = tells (named its) c (Some d) (ticks.woke_up ticker (solo.popped s)) (up wakes c who left) u.follows u.few u.life
      (ticks.wake_up_answer ticker (solo.popped s)).told.sleeper u.told in
      (both_true (not (stands_of told.due)) (once told.due) so.so.once).1
    where
      stands_of : List Due → Bool
      stands_of ds = any (λ e. d.future == e.future) ds

  once_after : once after ≡ true
  once_after =
      subst (λ ds. once ds ≡ true) (each_mark (next_due r) share mark marks (left.due ++ appends.tail))
      (each_once r (so_many share mark ++ marks) (left.due ++ appends.tail) (ap once (sym told_due) ∙ once_told))

  taken_after : Taken (ended after)
  taken_after =
      let rest = takes.run wakes c d.future (Run r w) (takes.counted wakes c r told) in
      let it : Taken (with_due before rest) = subst Taken (ended_is before) taken_before in
      subst Taken (sym (ended_is after))
      (record {
        stands = same_stands its c (runs.found runner ticker (named its d.future) stolen) rest after before same once_after it.stands;
        numbered = it.numbered;
        awake = it.awake;
        seen = it.seen;
        inside = it.inside;
        handed = it.handed;
        lent = it.lent;
      })

  pub takes_common : c.keeps ≡ so_many share mark ++ marks
      → Taken (takes.run wakes c d.future (Run r w) (takes.counted wakes c r (takes.kept wakes c r told)))
  takes_common all =
      let kept_is : takes.kept wakes c r told ≡ with_due after told =
      keeps_each r c.keeps told
      ∙ ap (λ ds. with_due ds told)
      (ap (λ ms. each ms (next_due r) told.due) all
      ∙ (each_mark (next_due r) share mark marks told.due
      ∙ ap (λ ds. each marks (next_due r) (repeat share (next_due r mark) ds)) told_due)) in
      subst (λ q. Taken (takes.run wakes c d.future (Run r w) (takes.counted wakes c r q))) (sym kept_is) taken_after

-- one without a keeper
pub free : (d : Due) → ((k : ℕ) → is_kept k d ≡ false) → d.keeper ≡ None
free d none = by d.keeper none
  where
    by : (o : Option ℕ) → ((k : ℕ) → is_run k o ≡ false) → o ≡ None
    by None none = refl
    by (Some k) none = absurd (clash (none k) (equal k k refl))

module _ {F T X : Type 0} (its : ℕ → Lent) (number : Who → ℕ) (s : Solo F T X) (p : Plain T (SoloWaker X)) (both : Stands its s p)
    (n : IsNumbered number s.sleepers p.lying) (c : Choice) (runner : Runner) (w : SoloWaker X) (start : ℕ) (task : Task)
    (going : goes_on runner.number p ≡ true) (first : own.first_of runner.number s.runs ≡ None) (has : solo.sought s ≡ Some task)
    (turn : c.first ≡ mark_of_turn s.lines.turn) (many : length p.lying ≤ c.tells) (life : HasLife 5 s.lines) where
  abbrev its_run : ℕ
  its_run = runner.number

  abbrev its_ticker : Ticker
  its_ticker = ticker_of number (ARun its_run) p.lying

  abbrev its_mark : Mark
  its_mark = (search_answer s.lines).mark

  abbrev empty : Solo F T X
  empty = steals.own_popped its_run s

  abbrev robbed_first : Solo F T X
  robbed_first = steals.stolen (Common its_mark) its_run (solo.popped empty)

  abbrev TakenBy : Plain T (SoloWaker X) → Type 0
  TakenBy q =
      IsTaken its number s p (ARun its_run) (Run its_run w) (runs.found_answer runner its_ticker None task false robbed_first).ticked
      (runs.searched runner its_ticker start s) q

  abbrev by_test : (Due → Bool) → Type 0
  by_test test =
      TakenBy (or (find test p.due) (λ d. takes.takes wakes c (Run its_run w) d (record p { due = without test p.due }))
      (takes.nothing wakes c (Run its_run w) p))

  abbrev after_them : List (Due → Bool)
  after_them = is_kept c.robs ∷ is_due ∷ []

  both' : Stands its empty p
  both' = popped_both its s p both its_run (none_kept its s p both its_run going first)

  -- where it finds one of these
  found_first : c.keeps
      ≡ so_many (share_of (Common its_mark) its_run (solo.popped empty)) its_mark
      ++ stolen_marks (runs.is_steal_due runner) its_run (runs.told its_ticker robbed_first)
      → (o : Option Due) → find (chosen (tests c.first) p.due) p.due ≡ o
      → TakenBy (or o (λ d. takes.takes wakes c (Run its_run w) d (record p { due = without (chosen (tests c.first) p.due) p.due }))
      (takes.nothing wakes c (Run its_run w) p))
  found_first all None is =
      let none = trying.nothing (named its) c empty p turn both'.0 is in
      let both_are : ◌≡◌ {A = Option Task} None (Some task) = sym none.0 ∙ has in
      absurd cc
  found_first all (Some d) is =
      let some = trying.something (named its) c empty p turn both'.0 d is in
      let same_task : named its d.future ≡ task = ap (λ o. or o (λ t. t) (named its d.future)) (sym some.0 ∙ has) in
      let it = takes_common its number empty p both' n c runner w going turn many life its_mark d is all in
      let left : Plain T (SoloWaker X) = record p { due = without (chosen (tests c.first) p.due) p.due } in
      let keeper : d.keeper ≡ None =
      free d (λ k. chosen_free c.first p.due k d (passes (chosen (tests c.first) p.due) p.due d is)) in
      let end : Plain T (SoloWaker X) =
      takes.run wakes c d.future (Run its_run w)
      (takes.counted wakes c its_run (takes.kept wakes c its_run (tell wakes c (up wakes c (ARun its_run)
      (takes.robbed wakes c its_run d.keeper left))))) in
      subst
      (λ o. IsTaken its number s p (ARun its_run) (Run its_run w)
      (runs.found_answer runner its_ticker None task false robbed_first).ticked
      (runs.searched_by (steals.seek_answer_by o its_run start empty).task runner its_ticker (steals.sought_by o its_run start empty))
      end) (sym first)
      (subst
      (λ o. IsTaken its number s p (ARun its_run) (Run its_run w)
      (runs.found_answer runner its_ticker None task false robbed_first).ticked
      (runs.searched_by (steals.further_answer_by o its_run start (solo.popped empty)).task runner its_ticker
      (steals.further_by o its_mark its_run start (solo.popped empty)))
      end) (sym has)
      (subst
      (λ task. IsTaken its number s p (ARun its_run) (Run its_run w)
      (runs.found_answer runner its_ticker None task false robbed_first).ticked (runs.found runner its_ticker task robbed_first) end)
      same_task
      (subst
      (λ k. IsTaken its number s p (ARun its_run) (Run its_run w)
      (runs.found_answer runner its_ticker None (named its d.future) false robbed_first).ticked
      (runs.found runner its_ticker (named its d.future) robbed_first)
      (takes.run wakes c d.future (Run its_run w)
      (takes.counted wakes c its_run (takes.kept wakes c its_run (tell wakes c (up wakes c (ARun its_run)
      (takes.robbed wakes c its_run k left))))))) (sym keeper)
      (record {
        stands = it.stands;
        numbered = it.numbered;
        awake = it.awake;
        seen = it.seen;
        inside = it.inside;
        handed = it.handed;
        lent = it.lent;
      }))))

  -- a run looks at what it keeps, then where a search does, and then further
  looks_on : (a b : Bool) → any (is_common c.first) p.due ≡ a → any (is_common (other c.first)) p.due ≡ b
      → by_test (λ d. if a then is_common c.first d else (if b then is_common (other c.first) d else false))
      → by_test (λ d. if a then is_common c.first d
      else (if b then is_common (other c.first) d else chosen after_them p.due d))
  looks_on true b one two it = it
  looks_on false true one two it = it
  looks_on false false one two it = absurd (none_there (solo_none))
    where
      nobody : (ds : List Due) → find (λ (d : Due). false) ds ≡ None
      nobody [] = refl
      nobody (d ∷ ds) = nobody ds

      no_test : chosen (tests c.first) p.due ≡ (λ d. false)
      no_test =
          ap (λ a. λ (d : Due). if a then is_common c.first d
          else (if any (is_common (other c.first)) p.due then is_common (other c.first) d else false)) one
          ∙ ap (λ b. λ (d : Due). if b then is_common (other c.first) d else false) two

      solo_none : find (chosen (tests c.first) p.due) p.due ≡ None
      solo_none = ap (λ test. find test p.due) no_test ∙ nobody p.due

      none_there : find (chosen (tests c.first) p.due) p.due ≡ None → ⊥
      none_there is =
          let none = trying.nothing (named its) c empty p turn both'.0 is in
          let both_are : ◌≡◌ {A = Option Task} None (Some task) = sym none.0 ∙ has in
          absurd cc

  takes_so : c.keeps
      ≡ so_many (share_of (Common its_mark) its_run (solo.popped empty)) its_mark
      ++ stolen_marks (runs.is_steal_due runner) its_run (runs.told its_ticker robbed_first)
      → TakenBy (takes.take wakes c (Run its_run w) p)
  takes_so all =
      subst
      (λ b. by_test (λ d. if b then is_kept its_run d else chosen (commons c ++ after_them) p.due d))
      (sym (none_kept its s p both its_run going first))
      (looks_on (any (is_common c.first) p.due) (any (is_common (other c.first)) p.due) refl refl
      (found_first all (find (chosen (tests c.first) p.due) p.due) refl))

module _ {F T X : Type 0} (its : ℕ → Lent) (number : Who → ℕ) (s : Solo F T X) (p : Plain T (SoloWaker X)) (both : Stands its s p)
    (n : IsNumbered number s.sleepers p.lying) where
  pub runs_take_common : RunsTakeCommon its number s p
  runs_take_common c runner w rest start task stands_in going first has turn all many life =
      let q : Plain T (SoloWaker X) = record p { inside = rest } in
      let both' : Stands its s q =
      same_hands its s p both c rest (sym (ap (λ cs. lents cs) stands_in)) (sym (ap (λ cs. drops cs) stands_in))
      (sym (ap (λ cs. awaiters cs) stands_in)) in
      let ticker = ticker_of number (ARun runner.number) p.lying in
      let z = steals.stolen (Common (search_answer s.lines).mark) runner.number (solo.popped (steals.own_popped runner.number s)) in
      subst
      (λ cs. IsTaken its number s q (ARun runner.number) (Run runner.number w)
      (runs.found_answer runner ticker None task false z).ticked (runs.searched runner ticker start s)
      (calls.innermost wakes c cs (calls.pends wakes c) p)) (sym stands_in)
      (takes_so its number s q both' n c runner w start task going first has turn many life all)
