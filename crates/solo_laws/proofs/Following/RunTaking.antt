-- A run takes what it has found: it gets up, one is told, at every 64th it steals, and the task's run begins.
use Rattle.std.proofs.Common.{◌≡◌, ℕ, zero, suc, ◌<◌, ◌≤◌, ◌==◌, cond, nat_lt, not, if◌then◌else◌, Bool, true, false, List, []}
use Rattle.std.proofs.Common.{◌∷◌, ◌++◌, length, map, filter, find, drop, Option, Some, None, is_some, slice_get, count_by, refl, sym, ap}
use Rattle.std.proofs.Common.{subst}
use Rattle.std.proofs.Common.{◌∙◌}
use Rattle.executor_parts.specs.declared.mark.Mark.{Mark}
use Rattle.executor_parts.specs.declared.mark.Mark.TheVariants.{Plain as PlainMark, Urgent}
use Rattle.solo.specs.declared.names.Task.{Task}
use Rattle.solo.specs.declared.names.SoloWaker.{SoloWaker}
use Rattle.solo.specs.declared.owed.Lent.{Lent}
use Rattle.solo.specs.declared.runs.Runner.{Runner}
use Rattle.solo.specs.declared.cells.Cells.{Cells}
use Rattle.solo.specs.declared.steals.Source.{Source}
use Rattle.solo.specs.declared.steals.Source.TheVariants.{Common, Own}
use Rattle.solo.specs.declared.solo.Solo.{Solo}
use Rattle.solo.specs.declared.ticks.Ticker.{Ticker}
use Rattle.solo.specs.declared.ticks.Ticker.TheVariants.{Awake, Asleep}
use Rattle.solo.specs.Cells.{asked}
use Rattle.solo.specs.Cells as cells
use Rattle.solo.specs.OwnQueues as own
use Rattle.solo.specs.Runs as runs
use Rattle.solo.specs.Steals as steals
use Rattle.solo.specs.Ticks as ticks
use Rattle.solo.specs.Turns as turns
use Rattle.plain_scheduler.specs.State.{ARun, Choice, Due, Lying, Plain, Run, Running, Who}
use Rattle.plain_scheduler.specs.Lists.{any, each, on, or, repeat, without}
use Rattle.plain_scheduler.specs.Calls as calls
use Rattle.plain_scheduler.specs.Moves.{chosen, commons, is_common, is_due, is_kept, is_run, is_who, keeps, tell, up}
use Rattle.plain_scheduler.specs.Takes as takes
use Rattle.solo_laws.specs.Numbered.{IsNumbered, ticker_of}
use Rattle.solo_laws.specs.Road.{FollowsBut, HasLife, apart, awaiters, drops, due_task, lents, once, stands, wakes}
use Rattle.solo_laws.specs.RunTaking.{RunsTakeOwn}
use Rattle.solo_laws.specs.Shown.{code_of, found_as, rings}
use Rattle.solo_laws.specs.Stealing.{stolen_marks}
use Rattle.solo_laws.specs.Tabled.{IsTable, Stands, goes_on, is_dropped, named, own_of as own_of_run}
use Rattle.solo_laws.specs.Ticking.{IsTaken}
use Rattle.solo_laws.proofs.Following.Begun.{begun_both}
use Rattle.solo_laws.proofs.Following.Cells.{same_number}
use Rattle.solo_laws.proofs.Following.Counted.{runs_both, runs_is, taken_more}
use Rattle.solo_laws.proofs.Following.Due.{and_true, found_gone, found_stands, not_false, once_without, stands_last, stood}
use Rattle.solo_laws.proofs.Following.Frames.{tell_still}
use Rattle.solo_laws.proofs.Following.GettingUp.{numbered_still}
use Rattle.solo_laws.proofs.Following.Lines.{find_first, without_other}
use Rattle.solo_laws.proofs.Following.NextOnes.{keeps_of_both}
use Rattle.solo_laws.proofs.Following.Numbers.{not_found}
use Rattle.solo_laws.proofs.Following.Owns.{changed_made, changed_numbers}
use Rattle.solo_laws.proofs.Following.Rising.{risen}
use Rattle.solo_laws.proofs.Following.RunPolling.{same_hands}
use Rattle.solo_laws.proofs.Following.Stealing.{by_run, kept_uncommon, none_without, own_left}
use Rattle.solo_laws.proofs.Following.Tabling.{due_lives, tabled}
use Rattle.solo_laws.proofs.Following.Taking.{found_any}
use Rattle.solo_laws.proofs.Following.TickTaking.{begun_sleepers, run_lying, tells}
use Rattle.solo_laws.proofs.Following.Trying as trying
use Rattle.solo_laws.proofs.Showing.Taking.{begun_shows}
use Rattle.solo_laws.proofs.Showing.Telling.{step}

-- what a run keeps changes what is due alone, and none is due that wasn't
module _ {T X : Type 0} where
  pub record Moved (p q : Plain T (SoloWaker X)) : Type 0 where
    pub is : q ≡ record p { due = q.due }
    pub was : (f : ℕ) → stands f q.due ≡ true → stands f p.due ≡ true

  pub moved_one : (r : ℕ) (test : Due → Bool) (p : Plain T (SoloWaker X)) → Moved p (keeps r test p)
  moved_one r test p = by (nat_lt (count_by (is_kept r) p.due) 512) (find test p.due) refl
    where
      ours : (d : Due) → find test p.due ≡ Some d → (b : Bool) (f : ℕ) → stands f (without test p.due ++ by_run r d ∷ []) ≡ true
          → (f == d.future) ≡ b → stands f p.due ≡ true
      ours d is true f has same =
          subst (λ n. stands n p.due ≡ true) (sym (same_number f d.future same)) (found_stands test p.due d is)
      ours d is false f has other = stood test f p.due (stands_last f (without test p.due) (by_run r d) has other)

      by : (b : Bool) (o : Option Due) → find test p.due ≡ o
          → Moved p (if b then on o (λ d p. record p { due = without test p.due ++ by_run r d ∷ [] }) p else p)
      by true (Some d) is = record { is = refl; was = λ f has. ours d is (f == d.future) f has refl }
      by true None is = record { is = refl; was = λ f has. has }
      by false o is = record { is = refl; was = λ f has. has }

  moved_on : (p q z : Plain T (SoloWaker X)) → Moved p q → Moved q z → Moved p z
  moved_on p q z one two = record {
    is = two.is ∙ ap (λ (q : Plain T (SoloWaker X)). record q { due = z.due }) one.is;
    was = λ f has. one.was f (two.was f has);
  }

  moved_each : (r : ℕ) (marks : List Mark) (p : Plain T (SoloWaker X)) → Moved p (each marks (λ mark. keeps r (is_common mark)) p)
  moved_each r [] p = record { is = refl; was = λ f has. has }
  moved_each r (mark ∷ marks) p =
      moved_on p (keeps r (is_common mark) p) (each marks (λ mark. keeps r (is_common mark)) (keeps r (is_common mark) p))
      (moved_one r (is_common mark) p) (moved_each r marks (keeps r (is_common mark) p))

module _ {F T X : Type 0} where
  -- a steal leaves tasks and sleepers
  abbrev pub Left : Solo F T X → Solo F T X → Type 0
  Left s z = (z.cells ≡ s.cells) × (z.sleepers ≡ s.sleepers)

  first_left : (source : Source) (s : Solo F T X) → Left s (steals.without_first source s)
  first_left (Common mark) s = (refl, refl)
  first_left (Own k) s = (refl, refl)

  pub moved_left : (n : ℕ) (source : Source) (r : ℕ) (s : Solo F T X) → Left s (steals.moved n source r s)
  moved_left zero source r s = (refl, refl)
  moved_left (suc n) source r s =
      by (steals.first_of source s) (first_left source s)
      (λ task. moved_left n source r (steals.kept r task (steals.without_first source s)))
    where
      by : (o : Option Task) → Left s (steals.without_first source s)
          → ((task : Task) → Left (steals.kept r task (steals.without_first source s))
          (steals.moved n source r (steals.kept r task (steals.without_first source s))))
          → Left s (steals.moved_on o (steals.without_first source s)
          (λ task. steals.moved n source r (steals.kept r task (steals.without_first source s))))
      by None left more = left
      by (Some task) left more = ((more task).0 ∙ left.0, (more task).1 ∙ left.1)

  stolen_left : (due : Bool) (r : ℕ) (s : Solo F T X) → Left s (steals.stolen_if due r s)
  stolen_left false r s = (refl, refl)
  stolen_left true r s =
      let z = steals.stolen (Common Urgent) r s in
      let one = moved_left (steals.share (steals.length_of (Common Urgent) s) (own.free_of r s.runs)) (Common Urgent) r s in
      let two = moved_left (steals.share (steals.length_of (Common PlainMark) z) (own.free_of r z.runs)) (Common PlainMark) r z in
      (two.0 ∙ one.0, two.1 ∙ one.1)

-- one that was found, with which both stand so
module _ {F T X : Type 0} (its : ℕ → Lent) (number : Who → ℕ) (c : Choice) (runner : Runner) (w : SoloWaker X) (d : Due)
    (s : Solo F T X) (p : Plain T (SoloWaker X)) (follows : FollowsBut (Some d) (named its) s p) (table : IsTable its s p)
    (n : IsNumbered number s.sleepers p.lying) (live : is_dropped d.future p ≡ false) (many : length p.lying ≤ c.tells)
    (life : HasLife 5 s.lines) (going : goes_on runner.number p ≡ true)
    (keeps_are : c.keeps
    ≡ stolen_marks (runs.is_steal_due runner) runner.number (runs.told (ticker_of number (ARun runner.number) p.lying) s)) where
  abbrev r : ℕ
  r = runner.number

  abbrev who : Who
  who = ARun r

  abbrev ticker : Ticker
  ticker = ticker_of number who p.lying

  abbrev ready_then : Solo F T X → Plain T (SoloWaker X) → Type 0
  ready_then z q = (d.future < length q.futures) × (asked cells.may_start false (named its d.future) z.cells ≡ true)
      × (stands d.future q.due ≡ false)

  pub found_alike : (first : Plain T (SoloWaker X)) → p.events ≡ first.events → p.inside ≡ first.inside
      → IsTaken its number s first who (Run r w) (runs.found_answer runner ticker None (named its d.future) false s).ticked
      (runs.found runner ticker (named its d.future) s)
      (takes.run wakes c d.future (Run r w) (takes.counted wakes c r (takes.kept wakes c r (tell wakes c (up wakes c who p)))))
  found_alike first events inside =
      let u = risen its number c (Some d) s p follows n many life who in
      let dropped = ticks.wake_up_answer ticker s in
      let y = ticks.woke_up ticker s in
      let a = up wakes c who p in
      let told_so = tells (named its) c (Some d) y a u.follows u.few u.life dropped.told.sleeper u.told in
      let z = ticks.told_unless dropped.told.sleeper y in
      let q = tell wakes c a in
      let still = tell_still c a in
      let can = trying.aside_ready (named its) d z q told_so.so in
      let stand : Stands its z q =
      (trying.forget (named its) d z q told_so.so, tabled its c y z a q told_so.base still (u.tabled table)) in
      let on_still : goes_on r q ≡ true =
      ap (λ rs. or (slice_get rs r) (λ (run : Running). not run.is_over) false) (still.runs ∙ u.still.runs) ∙ going in
      let due = runs.is_steal_due runner in
      let z' = steals.stolen_if due r z in
      let q' = takes.kept wakes c r q in
      let left = stolen_left due r z in
      let kept_so = moved_each r c.keeps q in
      let stand' : Stands its z' q' = keeps_of_both its z q stand c r due on_still keeps_are in
      let q'' = takes.counted wakes c r q' in
      let stand'' : Stands its z' q'' = runs_both its taken_more (λ run. refl) r z' q' stand' in
      let is : q'' ≡ record q { due = q'.due; runs = q''.runs } =
      runs_is taken_more r q' ∙ ap (λ (q : Plain T (SoloWaker X)). record q { runs = q''.runs }) kept_so.is in
      let can' : ready_then z' q'' = (
        subst (λ (q : Plain T (SoloWaker X)). d.future < length q.futures) (sym is) can.0,
        ap (λ (all : Cells T X). asked cells.may_start false (named its d.future) all) left.0 ∙ can.1,
        ap (λ (q : Plain T (SoloWaker X)). stands d.future q.due) is ∙ gone q' kept_so can.2 (stands d.future q'.due) refl,
      ) in
      let live' : is_dropped d.future q'' ≡ false =
      ap (λ (q : Plain T (SoloWaker X)). is_dropped d.future q) is
      ∙ (still.dropped d.future ∙ (u.still.dropped d.future ∙ live)) in
      let begun = begun_shows its c z' q'' stand'' d.future live' can'.0 can'.1 (Run r w) in
      let found = turns.begin_answer (named its d.future) z' in
      let new = takes.run wakes c d.future (Run r w) q'' in
      let lying : new.lying ≡ q.lying =
      run_lying c d.future (Run r w) q'' ∙ ap (λ (q : Plain T (SoloWaker X)). q.lying) is in
      let sleepers = begun_sleepers (named its d.future) z' ∙ left.1 in
      let numbered : IsNumbered number z.sleepers q.lying =
      numbered_still c (named its) number y z a q (Some d) u.numbered told_so.base.5 still u.few told_so.so in
      record {
        stands = begun_both its c d.future (Run r w) z' q'' stand'' can'.0 can'.2 can'.1 live';
        numbered =
            subst (λ sl. IsNumbered number sl new.lying) (sym sleepers)
            (subst (λ ls. IsNumbered number z.sleepers ls) (sym lying) numbered);
        awake =
            sym (ap (λ o. or o (λ l. Asleep (record { number = number who })) (Awake ticks.its_room))
            (not_found who new.lying
            (ap (λ ls. any (is_who who) (map (λ (l : Lying (SoloWaker X)). l.who) ls)) lying
            ∙ (ap (any (is_who who)) still.whos ∙ u.gone))));
        seen =
            step first.events (rings (ticks.tell_unless_answer dropped.told.sleeper y)) (found_as found)
            (ap (λ (q : Plain T (SoloWaker X)). q.events) is
            ∙ (told_so.seen p.events u.seen ∙ ap (λ es. es ++ rings (ticks.tell_unless_answer dropped.told.sleeper y)) events)) begun.0;
        inside =
            begun.1
            ∙ ap (λ cs. code_of (Run r w) found ++ cs)
            (ap (λ (q : Plain T (SoloWaker X)). q.inside) is ∙ (still.inside ∙ (u.still.inside ∙ inside)));
        handed = begun.2;
        lent = begun.3;
      }
    where
      gone : (q' : Plain T (SoloWaker X)) → Moved (tell wakes c (up wakes c who p)) q'
          → stands d.future (tell wakes c (up wakes c who p)).due ≡ false → (b : Bool) → stands d.future q'.due ≡ b
          → stands d.future q'.due ≡ false
      gone q' moved none false is = is
      gone q' moved none true is = absurd (clash none (moved.was d.future is))
        where
          clash : {b : Bool} → b ≡ false → b ≡ true → ⊥
          clash off so = absurd cc

module _ {F T X : Type 0} (its : ℕ → Lent) (number : Who → ℕ) (s : Solo F T X) (p : Plain T (SoloWaker X)) (both : Stands its s p)
    (n : IsNumbered number s.sleepers p.lying) where
  -- the first that a run keeps is out
  module _ (r : ℕ) (d : Due) (found : find (is_kept r) p.due ≡ Some d) where
    abbrev left : List Due
    left = without (is_kept r) p.due

    was : (b : Bool) (j : ℕ) → cond (j == d.future) true (stands j left) ≡ true → (j == d.future) ≡ b → stands j p.due ≡ true
    was true j due same =
        subst (λ n. stands n p.due ≡ true) (sym (same_number j d.future same)) (found_stands (is_kept r) p.due d found)
    was false j due other =
        stood (is_kept r) j p.due (sym (ap (λ b. cond b true (stands j left)) other) ∙ due)

    pub out_follows : FollowsBut (Some d) (named its) (steals.own_popped r s) (record p { due = left })
    out_follows =
        let f = both.0 in
        record {
          numbered = f.numbered;
          tasks = f.tasks;
          within = f.within;
          queued = record {
            lines = λ m.
                f.queued.lines m
                ∙ ap (map (due_task (named its)))
                (sym (without_other (is_kept r) (is_common m) (λ d is. kept_uncommon r m d is) p.due));
            unclosed = f.queued.unclosed;
            limit = f.queued.limit;
          };
          once =
              and_true (not (stands d.future left)) (once left)
              (not_false (stands d.future left) (found_gone (is_kept r) p.due d found f.once)) (once_without (is_kept r) p.due f.once);
          ready = λ j due. f.ready j (was (j == d.future) j due refl);
          asleep = f.asleep;
          awaiters = f.awaiters;
          inside = f.inside;
        }

    pub out_table : IsTable its (steals.own_popped r s) (record p { due = left })
    out_table =
        let t = both.1 in
        record {
          rows = t.rows;
          homes = t.homes;
          keys_apart = t.keys_apart;
          limit = t.limit;
          accepted = t.accepted;
          kind = t.kind;
          lent = t.lent;
          dropping = t.dropping;
          made = changed_made (drop 1) r s.runs ∙ t.made;
          queues = λ j. own_left its s p both.1 r j;
          kept = λ j over. none_without (is_kept r) (is_kept j) p.due (t.kept j over);
          numbers_apart = ap apart (changed_numbers (drop 1) r s.runs) ∙ t.numbers_apart;
          going = t.going;
          leaving = t.leaving;
          leaving_open = t.leaving_open;
          leaving_limit = t.leaving_limit;
          few = t.few;
          unleaked = t.unleaked;
        }

  -- what is found of a run's own queue
  pub first_kept : (r : ℕ) (task : Task) → goes_on r p ≡ true → own.first_of r s.runs ≡ Some task
      → (d : Due) × (find (is_kept r) p.due ≡ Some d) × (named its d.future ≡ task)
  first_kept r task going first =
      by (filter (is_kept r) p.due) refl
      (sym (ap own.first_in (both.1.queues r ∙ ap (λ b. own_of_run its b (filter (is_kept r) p.due)) going)) ∙ first)
    where
      by : (ds : List Due) → filter (is_kept r) p.due ≡ ds → own.first_in (own_of_run its true ds) ≡ Some task
          → (d : Due) × (find (is_kept r) p.due ≡ Some d) × (named its d.future ≡ task)
      by [] is none = absurd cc
      by (d ∷ ds) is here =
          (d, find_first (is_kept r) p.due ∙ ap (λ ds. slice_get ds 0) is, ap (λ o. or o (λ t. t) (named its d.future)) here)

pub passes : (test : Due → Bool) (ds : List Due) (d : Due) → find test ds ≡ Some d → test d ≡ true
passes test [] d is = absurd cc
passes test (e ∷ ds) d is = by (test e) refl is (passes test ds d)
  where
    by : (b : Bool) → test e ≡ b → cond b (Some e) (find test ds) ≡ Some d → (find test ds ≡ Some d → test d ≡ true) → test d ≡ true
    by true it is rest = sym (ap (λ o. or o test true) is) ∙ it
    by false it is rest = rest is

-- where a run looks then
abbrev others_of : Choice → List (Due → Bool)
others_of c = commons c ++ is_kept c.robs ∷ is_due ∷ []

-- whoever keeps it robs nobody
pub own_robs : {T X : Type 0} (c : Choice) (r : ℕ) (o : Option ℕ) (q : Plain T (SoloWaker X)) → is_run r o ≡ true
    → takes.robbed wakes c r o q ≡ q
own_robs c r None q is = refl
own_robs c r (Some k) q is = ap (λ b. if b then q else repeat c.moves (keeps r (is_kept k)) q) is

module _ {F T X : Type 0} (its : ℕ → Lent) (number : Who → ℕ) (s : Solo F T X) (p : Plain T (SoloWaker X)) (both : Stands its s p)
    (n : IsNumbered number s.sleepers p.lying) (c : Choice) (runner : Runner) (w : SoloWaker X) (start : ℕ) (task : Task)
    (going : goes_on runner.number p ≡ true) (first : own.first_of runner.number s.runs ≡ Some task)
    (keeps_are : c.keeps
    ≡ stolen_marks (runs.is_steal_due runner) runner.number
    (runs.told (ticker_of number (ARun runner.number) p.lying) (steals.own_popped runner.number s)))
    (many : length p.lying ≤ c.tells) (life : HasLife 5 s.lines) where
  abbrev its_run : ℕ
  its_run = runner.number

  abbrev its_ticker : Ticker
  its_ticker = ticker_of number (ARun its_run) p.lying

  abbrev popped : Solo F T X
  popped = steals.own_popped its_run s

  abbrev Taken : Plain T (SoloWaker X) → Type 0
  Taken q =
      IsTaken its number s p (ARun its_run) (Run its_run w) (runs.found_answer runner its_ticker None task false popped).ticked
      (runs.searched runner its_ticker start s) q

  -- by the first test
  abbrev by_test : (Due → Bool) → Plain T (SoloWaker X)
  by_test test =
      or (find test p.due) (λ d. takes.takes wakes c (Run its_run w) d (record p { due = without test p.due }))
      (takes.nothing wakes c (Run its_run w) p)

  pub takes_own : Taken (takes.take wakes c (Run its_run w) p)
  takes_own =
      let kept_first = first_kept its number s p both n its_run task going first in
      let d = kept_first.0 in
      let q : Plain T (SoloWaker X) = record p { due = without (is_kept its_run) p.due } in
      let live = due_lives its c s p both.0 both.1 d.future (found_stands (is_kept its_run) p.due d kept_first.1) in
      let out = found_alike its number c runner w d popped q (out_follows its number s p both n its_run d kept_first.1)
      (out_table its number s p both n its_run d kept_first.1) n live many life going keeps_are p refl refl in
      let robs = own_robs c its_run d.keeper q (passes (is_kept its_run) p.due d kept_first.1) in
      let end = takes.run wakes c d.future (Run its_run w)
      (takes.counted wakes c its_run (takes.kept wakes c its_run (tell wakes c (up wakes c (ARun its_run) q)))) in
      let taken : Taken end =
      subst
      (λ o. IsTaken its number s p (ARun its_run) (Run its_run w) (runs.found_answer runner its_ticker None task false popped).ticked
      (runs.searched_by (steals.seek_answer_by o its_run start popped).task runner its_ticker
      (steals.sought_by o its_run start popped)) end) (sym first)
      (subst
      (λ task. IsTaken its number s p (ARun its_run) (Run its_run w) (runs.found_answer runner its_ticker None task false popped).ticked
      (runs.found runner its_ticker task popped) end) kept_first.2
      (record {
        stands = out.stands;
        numbered = out.numbered;
        awake = out.awake;
        seen = out.seen;
        inside = out.inside;
        handed = out.handed;
        lent = out.lent;
      })) in
      subst
      (λ b. Taken (by_test (λ d. if b then is_kept its_run d else chosen (others_of c) p.due d)))
      (sym (found_any (is_kept its_run) p.due ∙ ap (λ o. is_some o) kept_first.1))
      (subst
      (λ o. Taken (or o (λ d. takes.takes wakes c (Run its_run w) d q) (takes.nothing wakes c (Run its_run w) p)))
      (sym kept_first.1)
      (subst
      (λ q. Taken (takes.run wakes c d.future (Run its_run w)
      (takes.counted wakes c its_run (takes.kept wakes c its_run (tell wakes c (up wakes c (ARun its_run) q)))))) (sym robs) taken))

module _ {F T X : Type 0} (its : ℕ → Lent) (number : Who → ℕ) (s : Solo F T X) (p : Plain T (SoloWaker X)) (both : Stands its s p)
    (n : IsNumbered number s.sleepers p.lying) where
  pub runs_take_own : RunsTakeOwn its number s p
  runs_take_own c runner w rest start task stands_in going first keeps_are many life =
      let q : Plain T (SoloWaker X) = record p { inside = rest } in
      let both' : Stands its s q =
      same_hands its s p both c rest (sym (ap (λ cs. lents cs) stands_in)) (sym (ap (λ cs. drops cs) stands_in))
      (sym (ap (λ cs. awaiters cs) stands_in)) in
      subst
      (λ cs. IsTaken its number s q (ARun runner.number) (Run runner.number w)
      (runs.found_answer runner (ticker_of number (ARun runner.number) p.lying) None task false
      (steals.own_popped runner.number s)).ticked
      (runs.searched runner (ticker_of number (ARun runner.number) p.lying) start s)
      (calls.innermost wakes c cs (calls.pends wakes c) p)) (sym stands_in)
      (takes_own its number s q both' n c runner w start task going first keeps_are many life)
