-- A run that goes has each task of its own queue scheduled, in order, and leaves the sleepers; the plain scheduler's has each future
-- that it keeps appended, and tells.
use Rattle.std.proofs.Common.{◌≡◌, ℕ, suc, ◌+◌, ◌*◌, ◌<◌, ◌≤◌, ◌==◌, cond, not, Bool, true, false, List, [], ◌∷◌}
use Rattle.std.proofs.Common.{◌++◌, length, map, filter, find, drop, Option, Some, None, slice_get, slice_set, count_by, append-nil}
use Rattle.std.proofs.Common.{append_assoc, refl, sym, ap, subst, ◌∙◌, arith}
use Rattle.std.proofs.lemmas.List.Sums.{length-filter}
use Rattle.solo.specs.declared.names.Task.{Task}
use Rattle.solo.specs.declared.names.SoloWaker.{SoloWaker}
use Rattle.solo.specs.declared.owed.Lent.{Lent}
use Rattle.solo.specs.declared.owed.Told.{Told}
use Rattle.solo.specs.declared.runs.Leaving.{Leaving}
use Rattle.solo.specs.declared.runs.Runner.{Runner}
use Rattle.solo.specs.declared.ticks.Ticker.{Ticker}
use Rattle.solo.specs.declared.ticks.Ticker.TheVariants.{Awake, Asleep}
use Rattle.solo.specs.declared.solo.Solo.{Solo}
use Rattle.solo.specs.Cells.{asked, choose}
use Rattle.solo.specs.Cells as cells
use Rattle.solo.specs.OwnQueues as own
use Rattle.solo.specs.Runs as runs
use Rattle.solo.specs.Ticks as ticks
use Rattle.solo.specs.Turns as turns
use Rattle.plain_scheduler.specs.State.{Answer, Answers, ARun, Choice, Code, DropOwn, Due, Lying, Plain, Running, Who}
use Rattle.plain_scheduler.specs.Lists.{any, on, or, repeat, without}
use Rattle.plain_scheduler.specs.Moves.{answers, appended, given_back, is_common, is_kept, is_who, leaves, lies, mark, tell}
use Rattle.plain_scheduler.specs.Moves as moves
use Rattle.plain_scheduler.specs.Calls as calls
use Rattle.solo_laws.specs.Numbered.{IsNumbered, ticker_of}
use Rattle.solo_laws.specs.Road.{Follows, FollowsBut, HasLife, IsInside, drops, due_task, is_in, lents, once, stands, wakes}
use Rattle.solo_laws.specs.Running.{IsGone, RunsLeave, drain_shows, drains}
use Rattle.solo_laws.specs.Shown.{rings}
use Rattle.solo_laws.specs.Tabled.{IsTable, Stands, goes_on, named, own_of}
use Rattle.solo_laws.proofs.Following.Bases as bases
use Rattle.solo_laws.proofs.Following.Cells.{same_number}
use Rattle.solo_laws.proofs.Following.Changing.{kept, lined}
use Rattle.solo_laws.proofs.Following.Due.{and_true, clash, found_gone, found_stands, not_false, once_without, stood}
use Rattle.solo_laws.proofs.Following.Frames.{Still, appended_still, chain, due_still, tell_still}
use Rattle.solo_laws.proofs.Following.GettingUp.{numbered_still}
use Rattle.solo_laws.proofs.Following.Lines.{find_first, life_pushed, without_first, without_other}
use Rattle.solo_laws.proofs.Following.Lists.{length_map, length_set, set_other, set_same}
use Rattle.solo_laws.proofs.Following.Lives.{scheduled_lives}
use Rattle.solo_laws.proofs.Following.Numbers.{found_lies, found_none, turn}
use Rattle.solo_laws.proofs.Following.Owns.{closed_apart, closed_made, closed_none, closed_other}
use Rattle.solo_laws.proofs.Following.Placing.{places}
use Rattle.solo_laws.proofs.Following.Stealing.{kept_once, kept_uncommon}
use Rattle.solo_laws.proofs.Following.Tabling.{tabled}
use Rattle.solo_laws.proofs.Following.Telling.{told}
use Rattle.solo_laws.proofs.Following.TickLeaving.{leaves_so}
use Rattle.solo_laws.proofs.Following.Trying as trying
use Rattle.solo_laws.proofs.Following.Using.{marks}
use Rattle.solo_laws.proofs.Showing.Telling.{step, told_shows}

-- who lies lies on, also one that is called
same_ticker : {A : Type 0} (number : Who → ℕ) (who : Who) (ls ms : List (Lying A))
    → map (λ (l : Lying A). l.who) ls ≡ map (λ (l : Lying A). l.who) ms → ticker_of number who ls ≡ ticker_of number who ms
same_ticker {A} number who ls ms same = by (find (lies who) ls) (find (lies who) ms) refl refl
  where
    ticker : Option (Lying A) → Ticker
    ticker o = or o (λ l. Asleep (record { number = number who })) (Awake ticks.its_room)

    whos : List (Lying A) → List Who
    whos ls = map (λ (l : Lying A). l.who) ls

    by : (o u : Option (Lying A)) → find (lies who) ls ≡ o → find (lies who) ms ≡ u → ticker o ≡ ticker u
    by None None is one = refl
    by (Some l) (Some m) is one = refl
    by None (Some m) is one =
        absurd (clash (sym (ap (λ ws. any (is_who who) ws) same) ∙ found_none who ls is) (found_lies who ms m one))
    by (Some l) None is one =
        absurd (clash (ap (λ ws. any (is_who who) ws) same ∙ found_none who ms one) (found_lies who ls l is))

-- what others keep
abbrev spared : ℕ → List Due → List Due
spared r ds = filter (λ d. not (is_kept r d)) ds

spared_others : (r j : ℕ) → (j == r) ≡ false → (ds : List Due) → filter (is_kept j) (spared r ds) ≡ filter (is_kept j) ds
spared_others r j away [] = refl
spared_others r j away (d ∷ ds) = by (is_kept r d) refl (spared_others r j away ds)
  where
    by : (b : Bool) → is_kept r d ≡ b → filter (is_kept j) (spared r ds) ≡ filter (is_kept j) ds
        → filter (is_kept j) (cond (not b) (d ∷ spared r ds) (spared r ds))
        ≡ cond (is_kept j d) (d ∷ filter (is_kept j) ds) (filter (is_kept j) ds)
    by true is rest =
        rest ∙ sym (ap (λ b. cond b (d ∷ filter (is_kept j) ds) (filter (is_kept j) ds)) (kept_once j r away d is))
    by false is rest = ap (λ es. cond (is_kept j d) (d ∷ es) es) rest

spared_none : (r : ℕ) (ds : List Due) → filter (is_kept r) (spared r ds) ≡ []
spared_none r [] = refl
spared_none r (d ∷ ds) = by (is_kept r d) refl (spared_none r ds)
  where
    by : (b : Bool) → is_kept r d ≡ b → filter (is_kept r) (spared r ds) ≡ []
        → filter (is_kept r) (cond (not b) (d ∷ spared r ds) (spared r ds)) ≡ []
    by true is rest = rest
    by false is rest =
        ap (λ b. cond b (d ∷ filter (is_kept r) (spared r ds)) (filter (is_kept r) (spared r ds))) is ∙ rest

abbrev leaves_with : (ℕ → Lent) → List Due → Ticker → Leaving
leaves_with its ks ticker = record { own = Some (map (due_task (named its)) ks); ticker = ticker }

module _ {T X : Type 0} where
  -- one that the run keeps is appended, and one is told
  abbrev back_of : Choice → ℕ → Plain T (SoloWaker X) → Plain T (SoloWaker X)
  back_of c r p = tell wakes c (given_back r p)

module _ {F T X : Type 0} (its : ℕ → Lent) (number : Who → ℕ) (c : Choice) (r : ℕ) where
  -- these are left in its own queue, and others keep these
  record Between (ks ds : List Due) (s : Solo F T X) (p : Plain T (SoloWaker X)) : Type 0 where
    pub follows : Follows (named its) s p
    pub table : IsTable its s (record p { due = ds })
    pub mine : filter (is_kept r) p.due ≡ ks
    pub others : (j : ℕ) → (j == r) ≡ false → filter (is_kept j) p.due ≡ filter (is_kept j) ds
    pub none : filter (is_kept r) ds ≡ []
    pub numbered : IsNumbered number s.sleepers p.lying
    pub few : length p.lying ≤ c.tells

  module _ (d : Due) (ks ds : List Due) (s : Solo F T X) (p : Plain T (SoloWaker X)) (b : Between (d ∷ ks) ds s p) (n : ℕ)
      (life : HasLife (suc (suc (suc n))) s.lines) where
    abbrev its_task : Task
    its_task = named its d.future

    abbrev left : Plain T (SoloWaker X)
    left = record p { due = without (is_kept r) p.due }

    found : find (is_kept r) p.due ≡ Some d
    found = find_first (is_kept r) p.due ∙ ap (λ ds. slice_get ds 0) b.mine

    was : (b : Bool) (j : ℕ) → cond (j == d.future) true (stands j (without (is_kept r) p.due)) ≡ true → (j == d.future) ≡ b
        → stands j p.due ≡ true
    was true j due same =
        subst (λ n. stands n p.due ≡ true) (sym (same_number j d.future same)) (found_stands (is_kept r) p.due d found)
    was false j due same =
        stood (is_kept r) j p.due (sym (ap (λ b. cond b true (stands j (without (is_kept r) p.due))) same) ∙ due)

    aside : FollowsBut (Some d) (named its) s left
    aside =
        let f = b.follows in
        record {
          numbered = f.numbered;
          tasks = f.tasks;
          within = f.within;
          queued = record {
            lines = λ m.
                f.queued.lines m
                ∙ ap (map (due_task (named its)))
                (sym (without_other (is_kept r) (is_common m) (λ d is. kept_uncommon r m d is) p.due));
            unclosed = f.queued.unclosed;
            limit = f.queued.limit;
          };
          once =
              and_true (not (stands d.future (without (is_kept r) p.due))) (once (without (is_kept r) p.due))
              (not_false (stands d.future (without (is_kept r) p.due)) (found_gone (is_kept r) p.due d found f.once))
              (once_without (is_kept r) p.due f.once);
          ready = λ j due. f.ready j (was (j == d.future) j due refl);
          asleep = f.asleep;
          awaiters = f.awaiters;
          inside = f.inside;
        }

    taken : Follows (named its) s left
    taken = trying.forget (named its) d s left aside

    can : (d.future < length left.futures) × (asked cells.may_start false its_task s.cells ≡ true) × (stands d.future left.due ≡ false)
    can = trying.aside_ready (named its) d s left aside

    place : turns.takes its_task s ≡ true
    place =
        places None (named its) s left taken d.future can.0 can.2 can.1 (λ mark. let it = life mark in omega (arith, it))
        (turns.mark_of its_task s)

    abbrev come : Solo F T X
    come = turns.lined its_task s

    abbrev came : Plain T (SoloWaker X)
    came = appended d.future left

    comes : Follows (named its) come came
    comes =
        let k = kept None (named its) cells.may_start d.future s left taken can.0 can.1 in
        lined None (named its) d.future s left place (marks None (named its) d.future s left k.0 can.0 taken k.2) can.0 can.2 can.1 taken

    abbrev all : Plain T (SoloWaker X)
    all = tell wakes c came

    back_is : back_of c r p ≡ all
    back_is =
        ap (λ o. tell wakes c (on o (λ d p. appended d.future (record p { due = without (is_kept r) p.due })) p)) found

    scheduled_is : turns.scheduled its_task s ≡ turns.told come
    scheduled_is = ap (λ b. choose b (turns.told come) come) place

    still : Still c left all
    still = chain c (appended_still c d.future left) (tell_still c came)

    still_spared : Still c (record p { due = ds }) (record all { due = ds })
    still_spared = record {
      futures = still.futures;
      living = still.living;
      lying = still.lying;
      limit = still.limit;
      static = still.static;
      inside = still.inside;
      dropped = still.dropped;
      runs = still.runs;
      kept = λ j. refl;
      whos = still.whos;
      waits = still.waits;
    }

    follows_on : Follows (named its) (turns.scheduled its_task s) all
    follows_on =
        subst (λ z. Follows (named its) z all) (sym scheduled_is)
        (told None (named its) c come came b.few comes
        (life_pushed its_task 1 (turns.mark_of its_task s) s.lines (λ mark. let it = life mark in omega (arith, it))))

    goes_back : Between ks ds (turns.scheduled its_task s) all
    goes_back =
        let z = turns.scheduled its_task s in
        let base = bases.scheduled_base s its_task s (bases.same s) in
        record {
          follows = follows_on;
          table = tabled its c s z (record p { due = ds }) (record all { due = ds }) base still_spared b.table;
          mine = still.kept r ∙ (without_first (is_kept r) p.due ∙ ap (drop 1) b.mine);
          others = λ j away.
              still.kept j ∙ (without_other (is_kept r) (is_kept j) (λ d is. kept_once j r away d is) p.due ∙ b.others j away);
          none = b.none;
          numbered = numbered_still c (named its) number s z left all None b.numbered base.5 still b.few follows_on;
          few = subst (λ n. n ≤ c.tells) (sym still.lying) b.few;
        }

    goes_on_back : Between ks ds (turns.scheduled its_task s) (back_of c r p)
    goes_on_back = subst (Between ks ds (turns.scheduled its_task s)) (sym back_is) goes_back

    lives_on : HasLife n (turns.scheduled its_task s).lines
    lives_on = scheduled_lives n its_task s life

    abbrev told_if : Bool → Told X
    told_if b = choose b (record { sleeper = turns.told_waker come; returned = None }) (record { sleeper = None; returned = Some its_task })

    shows : (back_of c r p).events ≡ p.events ++ rings (turns.schedule_answer its_task s).sleeper
    shows =
        ap (λ (q : Plain T (SoloWaker X)). q.events) back_is
        ∙ (told_shows None (named its) c come came b.few comes
        ∙ ap (λ b. p.events ++ rings (told_if b).sleeper) (sym place))

    whos_stay : map (λ (l : Lying (SoloWaker X)). l.who) (back_of c r p).lying ≡ map (λ (l : Lying (SoloWaker X)). l.who) p.lying
    whos_stay = ap (λ (q : Plain T (SoloWaker X)). map (λ (l : Lying (SoloWaker X)). l.who) q.lying) back_is ∙ still.whos

  -- nothing is left, and both stand alike
  at_end : (ds : List Due) (s : Solo F T X) (p : Plain T (SoloWaker X)) → Between [] ds s p → Stands its s p
  at_end ds s p b = (
    b.follows,
    tabled its c s s (record p { due = ds }) p (bases.same s)
        (due_still c (record p { due = ds }) p.due (λ j. by (j == r) j refl)) b.table,
  )
    where
      by : (e : Bool) (j : ℕ) → (j == r) ≡ e → filter (is_kept j) p.due ≡ filter (is_kept j) ds
      by false j away = b.others j away
      by true j same =
          ap (λ k. filter (is_kept k) p.due) (same_number j r same)
          ∙ (b.mine ∙ (sym b.none ∙ ap (λ k. filter (is_kept k) ds) (sym (same_number j r same))))

  module _ (answer : Answer T) where
    abbrev Goes : List Due → Ticker → Solo F T X → Plain T (SoloWaker X) → Type 0
    Goes ks ticker s p =
        IsGone its number s p (ARun r) (drain_shows (suc (length ks)) (leaves_with its ks ticker) s ++ Answers answer ∷ [])
        (drains (suc (length ks)) (leaves_with its ks ticker) s)
        (answers answer (leaves wakes c (ARun r) (repeat (length ks) (back_of c r) p)))

    goes_all : (ks ds : List Due) (s : Solo F T X) (p : Plain T (SoloWaker X)) → Between ks ds s p → HasLife (3 * length ks + 5) s.lines
        → Goes ks (ticker_of number (ARun r) p.lying) s p
    goes_all [] ds s p b life =
        let left = leaves_so its number s p (at_end ds s p b) b.numbered c (ARun r) answer b.few life in
        let rung = rings (ticks.leave_answer (ticker_of number (ARun r) p.lying) s).told.sleeper in
        record {
          stands = left.stands;
          numbered = left.numbered;
          gone = left.gone;
          seen = left.seen ∙ ap (λ es. p.events ++ (es ++ Answers answer ∷ [])) (sym (append-nil rung));
        }
    goes_all (d ∷ ks) ds s p b life =
        let alive : HasLife (suc (suc (suc (3 * length ks + 5)))) s.lines = λ mark. let it = life mark in omega (arith, it) in
        let n = 3 * length ks + 5 in
        let z = turns.scheduled (named its d.future) s in
        let ticker = ticker_of number (ARun r) p.lying in
        let rest =
        subst (λ t. Goes ks t z (back_of c r p))
        (same_ticker number (ARun r) (back_of c r p).lying p.lying (whos_stay d ks ds s p b n alive))
        (goes_all ks ds z (back_of c r p) (goes_on_back d ks ds s p b n alive) (lives_on d ks ds s p b n alive)) in
        let rung = rings (turns.schedule_answer (named its d.future) s).sleeper in
        let others = drain_shows (suc (length ks)) (leaves_with its ks ticker) z in
        record {
          stands = rest.stands;
          numbered = rest.numbered;
          gone = rest.gone;
          seen =
              step p.events rung (others ++ Answers answer ∷ []) (shows d ks ds s p b n alive) rest.seen
              ∙ ap (λ es. p.events ++ es) (sym (append_assoc rung others (Answers answer ∷ [])));
        }

-- one whose own future isn't over is there
its_run : (o : Option Running) → or o (λ run. not run.is_over) false ≡ true → (run : Running) × (o ≡ Some run)
its_run None is = absurd cc
its_run (Some run) is = (run, refl)

module _ {F T X : Type 0} (its : ℕ → Lent) (number : Who → ℕ) (s : Solo F T X) (p : Plain T (SoloWaker X)) (both : Stands its s p)
    (n : IsNumbered number s.sleepers p.lying) where
  module _ (c : Choice) (runner : Runner) (answer : Answer T) (rest : List (Code T (SoloWaker X)))
      (stands_in : p.inside ≡ DropOwn runner.number answer ∷ rest) (going : goes_on runner.number p ≡ true)
      (many : length p.lying ≤ c.tells) (life : HasLife (3 * own.count_of runner.number s.runs + 5) s.lines) where
    abbrev r : ℕ
    r = runner.number

    abbrev ks : List Due
    ks = filter (is_kept r) p.due

    abbrev ds : List Due
    ds = spared r p.due

    run : (run : Running) × (slice_get p.runs r ≡ Some run)
    run = its_run (slice_get p.runs r) going

    abbrev ended : Running
    ended = record run.0 { is_over = true }

    abbrev over : Plain T (SoloWaker X)
    over = record p { inside = rest; runs = slice_set p.runs r ended }

    over_is : moves.runs (λ run. record run { is_over = true }) r (record p { inside = rest }) ≡ over
    over_is =
        ap (λ o. on o
        (λ (run : Running) (p : Plain T (SoloWaker X)). record p { runs = slice_set p.runs r (record run { is_over = true }) })
        (record p { inside = rest })) run.1

    going_now : (j : ℕ) → (j == r) ≡ false → goes_on j over ≡ goes_on j p
    going_now j away =
        ap (λ (o : Option Running). or o (λ run. not run.is_over) false) (set_other p.runs r j ended (turn j r away))

    over_now : goes_on r over ≡ false
    over_now = ap (λ (o : Option Running). or o (λ run. not run.is_over) false) (set_same p.runs r ended run.0 run.1)

    abbrev after : Solo F T X
    after = runs.left runner s

    follows : Follows (named its) after over
    follows =
        let f = both.0 in
        let hands : IsInside (named its) (length p.futures) s.cells (DropOwn r answer ∷ rest) =
        subst (IsInside (named its) (length p.futures) s.cells) stands_in f.inside in
        record {
          numbered = f.numbered;
          tasks = f.tasks;
          within = f.within;
          queued = f.queued;
          once = f.once;
          ready = f.ready;
          asleep = f.asleep;
          awaiters = f.awaiters;
          inside = record {
            lent = hands.lent;
            dropping = hands.dropping;
            lent_once = hands.lent_once;
            dropping_once = hands.dropping_once;
            callers = hands.callers;
          };
        }

    table : IsTable its after (record over { due = ds })
    table =
        let t = both.1 in
        record {
          rows = t.rows;
          homes = t.homes;
          keys_apart = t.keys_apart;
          limit = t.limit;
          accepted = t.accepted;
          kind = t.kind;
          lent = λ f has. t.lent f (ap (λ cs. is_in f (lents cs)) stands_in ∙ has);
          dropping = λ f has. t.dropping f (ap (λ cs. is_in f (drops cs)) stands_in ∙ has);
          made = closed_made r s.runs ∙ (t.made ∙ sym (length_set p.runs r ended));
          queues = λ j. queue (j == r) j refl;
          kept = λ j none. no_more (j == r) j refl none;
          numbers_apart = closed_apart r s.runs t.numbers_apart;
          going = t.going;
          leaving = t.leaving;
          leaving_open = t.leaving_open;
          leaving_limit = t.leaving_limit;
          few = t.few;
          unleaked = t.unleaked;
        }
      where
        queue : (b : Bool) (j : ℕ) → (j == r) ≡ b
            → own.queue_of j (own.closed r s.runs).queues ≡ own_of its (goes_on j over) (filter (is_kept j) ds)
        queue false j away =
            closed_other r j s.runs away
            ∙ (both.1.queues j
            ∙ (ap (own_of its (goes_on j p)) (sym (spared_others r j away p.due))
            ∙ ap (λ b. own_of its b (filter (is_kept j) ds)) (sym (going_now j away))))
        queue true j same =
            ap (λ k. own.queue_of k (own.closed r s.runs).queues) (same_number j r same)
            ∙ (closed_none r s.runs both.1.numbers_apart
            ∙ sym (ap (λ k. own_of its (goes_on k over) (filter (is_kept k) ds)) (same_number j r same)
            ∙ ap (λ b. own_of its b (filter (is_kept r) ds)) over_now))

        no_more : (b : Bool) (j : ℕ) → (j == r) ≡ b → goes_on j over ≡ false → filter (is_kept j) ds ≡ []
        no_more false j away none = spared_others r j away p.due ∙ both.1.kept j (sym (going_now j away) ∙ none)
        no_more true j same none = ap (λ k. filter (is_kept k) ds) (same_number j r same) ∙ spared_none r p.due

    begins : Between its number c r ks ds after over
    begins = record {
      follows = follows;
      table = table;
      mine = refl;
      others = λ j away. sym (spared_others r j away p.due);
      none = spared_none r p.due;
      numbered = n;
      few = many;
    }

    own_is : own.queue_of r s.runs.queues ≡ Some (map (due_task (named its)) ks)
    own_is = both.1.queues r ∙ ap (λ b. own_of its b ks) going

    count_is : own.count_of r s.runs ≡ length ks
    count_is = ap own.count_in own_is ∙ length_map (due_task (named its)) ks

    abbrev ticker : Ticker
    ticker = ticker_of number (ARun r) p.lying

    abbrev Ends : ℕ → Option (List Task) → Plain T (SoloWaker X) → Type 0
    Ends many queue q =
        IsGone its number s p (ARun r) (drain_shows (suc many) (record { own = queue; ticker = ticker }) after ++ Answers answer ∷ [])
        (drains (suc many) (record { own = queue; ticker = ticker }) after) q

    ends : Ends (own.count_of r s.runs) (own.queue_of r s.runs.queues) (calls.does wakes c calls.Call.Ends p)
    ends =
        let all = goes_all its number c r answer ks ds after over begins
        (subst (λ k. HasLife (3 * k + 5) s.lines) count_is life) in
        let it : Ends (length ks) (Some (map (due_task (named its)) ks)) (answers answer (leaves wakes c (ARun r)
        (repeat (length ks) (back_of c r) over))) =
        record { stands = all.stands; numbered = all.numbered; gone = all.gone; seen = all.seen } in
        subst (λ cs. Ends (own.count_of r s.runs) (own.queue_of r s.runs.queues) (calls.innermost wakes c cs (calls.ends wakes c) p))
        (sym stands_in)
        (subst (λ q. Ends (own.count_of r s.runs) (own.queue_of r s.runs.queues) (answers answer (leaves wakes c (ARun r)
        (repeat (count_by (is_kept r) p.due) (back_of c r) q)))) (sym over_is)
        (subst (λ k. Ends (own.count_of r s.runs) (own.queue_of r s.runs.queues) (answers answer (leaves wakes c (ARun r)
        (repeat k (back_of c r) over)))) (length-filter (is_kept r) p.due)
        (subst (λ o. Ends (own.count_of r s.runs) o (answers answer (leaves wakes c (ARun r)
        (repeat (length ks) (back_of c r) over)))) (sym own_is)
        (subst (λ k. Ends k (Some (map (due_task (named its)) ks)) (answers answer (leaves wakes c (ARun r)
        (repeat (length ks) (back_of c r) over)))) (sym count_is) it))))

  pub runs_leave : RunsLeave its number s p
  runs_leave c runner answer rest stands_in going many life = ends c runner answer rest stands_in going many life
