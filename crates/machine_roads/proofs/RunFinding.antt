-- A run has found one that is due: of its own, one that nobody keeps, or one that another run keeps; and it takes it as usual.
use Rattle.std.proofs.Common.{◌≡◌, ℕ, suc, ◌+◌, ◌-◌, ◌≤◌, ◌<◌, ◌==◌, ◌++◌, ◌&&◌, not, Bool, true, false, List, []}
use Rattle.std.proofs.Common.{◌∷◌, length, Option, Some, None, is_some, take, if◌then◌else◌, refl, sym, ap, subst}
use Rattle.std.proofs.Common.{◌∙◌, arith}
use Rattle.std.specs.Prelude.{count_by, find, slice_index_or}
use Rattle.executor_parts.specs.declared.mark.Mark.{Mark}
use Rattle.executor_parts.specs.declared.mark.Mark.TheVariants.{Plain as PlainMark, Urgent}
use Rattle.executor_parts.specs.Marks.{other, same_mark}
use Rattle.queue_steps.specs.ClosableQueue.{taken}
use Rattle.executor_model.specs.declared.op.ListOp.TheVariants as list_op
use Rattle.executor_model.specs.declared.op.Op.{Op}
use Rattle.executor_model.specs.declared.op.Op.TheVariants as op
use Rattle.executor_model.specs.declared.op.RunPoll.{RunPoll}
use Rattle.executor_model.specs.declared.op.Source.TheVariants.{Common}
use Rattle.executor_model.specs.declared.op.SleeperOp.TheVariants as sleeper_op
use Rattle.executor_model.specs.declared.op.StealOp.TheVariants as steal_op
use Rattle.executor_model.specs.declared.op.Then.TheVariants as then
use Rattle.executor_model.specs.declared.op.TickOrRun.TheVariants as tick_or_run
use Rattle.executor_model.specs.declared.op.Waker.{Waker}
use Rattle.executor_model.specs.ActsOfSleepers.{found_by}
use Rattle.executor_model.specs.ActsOfRuns.{behind, counted_by, counted_to, found, run_by}
use Rattle.executor_model.specs.World.{Done, Lock, Run, World, done, no_run, own_of, put_own, put_queue, queue_of, run_of}
use Rattle.plain_scheduler.specs.State.{ARun, Choice, Due, Plain, Granted, Run as ByRun, Running, Taker}
use Rattle.plain_scheduler.specs.Lists.{any, each, on, or, repeat, without}
use Rattle.plain_scheduler.specs.Moves.{is_common, is_due, is_kept, is_run, keeps, looks, tell, up}
use Rattle.plain_scheduler.specs.Moves as plain
use Rattle.plain_scheduler.specs.Takes as plain_takes
use Rattle.plain_scheduler.specs.Searches.{Search}
use Rattle.plain_scheduler.specs.Usual.{IsKeptByOthers, RobsAsUsual, TakesAsUsual, first_keeper, from_start, is_64th, one_counted, share}
use Rattle.plain_scheduler.specs.Usual.{so_many}
use Rattle.plain_scheduler.specs.Usual as usual
use Rattle.machine_roads.specs.View.{Output, wakes}
use Rattle.machine_roads.specs.Road.{Follows, futures_in}
use Rattle.machine_roads.specs.Alone.{is_resting}
use Rattle.machine_roads.specs.Searching.{CountsOne, CanTake, IsLast, goes_on_by}
use Rattle.machine_roads.proofs.Adding.{with_due}
use Rattle.machine_roads.proofs.Due.{First, find_same, first, others, without_same}
use Rattle.machine_roads.proofs.Keeping.{HasPlaces, common_away, kept_due, lined_so}
use Rattle.machine_roads.proofs.Keeping.{repeat_is}
use Rattle.machine_roads.proofs.Lists.{clash, cons_is, same_of, turned as turned_apart}
use Rattle.machine_roads.proofs.Robbing.{come_is, robbed_lined}
use Rattle.machine_roads.proofs.RunTaking.{Begun, finds, takes_so}
use Rattle.machine_roads.proofs.Runs.{changed, one_more}
use Rattle.machine_roads.proofs.RunsGone.{takes_own}
use Rattle.machine_roads.proofs.Standing.{Stands, StandsSo}
use Rattle.machine_roads.proofs.Stealing.{steals}
use Rattle.machine_roads.proofs.Stepping.{Way, next}
use Rattle.machine_roads.proofs.Trying.{takes_first}
use Rattle.machine_roads.proofs.Unseen.{locked, turns}

module _ (p : ℕ) (below : List Op) (under : is_resting below ≡ true) (end : Done) (rests : is_resting end.next ≡ true) (c : Choice)
    (x : RunPoll) where
  abbrev r : ℕ
  r = x.run

  abbrev taker : Taker Waker
  taker = ByRun x.run x.waker

  abbrev fits : Plain Output Waker → Type 0
  fits q = length q.lying ≤ c.tells

  -- what it keeps, whom it robs and how many more it moves
  abbrev pub pick : List Mark → ℕ → ℕ → Choice
  pick ms k n = record c { keeps = ms; robs = k; moves = n; refusal = Granted }

  abbrev pub search_of : Plain Output Waker → Search Output Waker
  search_of q = record { run = r; waker = x.waker; at = q }

  -- from a search in this world: it takes as usual
  pub record Took (start turns : ℕ) (w : World) (ms : List Mark) (k n : ℕ) (last : Bool) (q : Plain Output Waker) : Type 0 where
    pub stood : StandsSo taker (goes_on_by x last) below q end (plain_takes.take wakes (pick ms k n) taker q)
    pub early : IsLast r last (plain_takes.take wakes (pick ms k n) taker q)
    pub runs : (plain_takes.take wakes (pick ms k n) taker q).runs ≡ changed one_more r q.runs
    pub usual : TakesAsUsual wakes (pick ms k n) c.first (run_of w r).counted (search_of q)
    pub robs : RobsAsUsual wakes (pick ms k n) w.listed start (search_of q)
    pub keeper : IsKeptByOthers r q.due → any (is_kept k) q.due ≡ true
    pub behind : CountsOne r turns w end.world

  abbrev pub Found : ℕ → ℕ → World → Plain Output Waker → Type 0
  Found start turns w q = (ms : List Mark) × (k : ℕ) × (n : ℕ) × (last : Bool) × Took start turns w ms k n last q

  -- the list and what runs have counted are as they were
  pub found_from : (start t u : ℕ) (v w : World) (q : Plain Output Waker) → t ≡ u
      → ((k : ℕ) → (run_of v k).counted ≡ (run_of w k).counted) → v.listed ≡ w.listed → Found start t v q → Found start u w q
  found_from start t u v w q turn counted listed g =
      let d = pick g.0 g.1 g.2 in (
        g.0,
        g.1,
        g.2,
        g.3,
        record {
          stood = g.4.stood;
          early = g.4.early;
          runs = g.4.runs;
          usual = subst (λ n. TakesAsUsual wakes d c.first n (search_of q)) (counted r) g.4.usual;
          robs = subst (λ order. RobsAsUsual wakes d order start (search_of q)) listed g.4.robs;
          keeper = g.4.keeper;
          behind = record {
            counted = λ k. g.4.behind.counted k ∙ ap (λ n. if k == r then one_counted n else n) (counted k);
            listed = g.4.behind.listed ∙ listed;
            turn = g.4.behind.turn ∙ turn;
          };
        },
      )

  -- at which due futures it looks, one class after the other
  abbrev pub fourth : ℕ → List Due → Due → Bool
  fourth k due e = if any (is_kept k) due then is_kept k e else (if any is_due due then is_due e else false)

  abbrev pub third : ℕ → List Due → Due → Bool
  third k due e = if any (is_common (other c.first)) due then is_common (other c.first) e else fourth k due e

  abbrev pub second : ℕ → List Due → Due → Bool
  second k due e = if any (is_common c.first) due then is_common c.first e else third k due e

  abbrev pub its_test : ℕ → List Due → Due → Bool
  its_test k due e = if any (is_kept r) due then is_kept r e else second k due e

  -- which it keeps beside so many, with every 64th once it stands there
  abbrev keeps_with : Bool → List Mark → Plain Output Waker → List Mark
  keeps_with last marks y = marks ++ (if last then usual.of_both wakes c r (usual.keeping wakes c r marks y) else [])

  abbrev up_and_told : Plain Output Waker → Plain Output Waker
  up_and_told q = tell wakes c (up wakes c (ARun x.run) q)

  -- one is found, and so many of its mark are kept beside
  record FindsOne (start : ℕ) (w : World) (k n many f : ℕ) (rest : List ℕ) (m : Mark) (test : Due → Bool)
      (q qr : Plain Output Waker) : Type 0 where
    fit : fits qr
    one : First test q.due f rest
    same : (e : Due) → its_test k q.due e ≡ test e
    robbed_is : (ms : List Mark)
        → plain_takes.robbed wakes (pick ms k n) r one.due_one.keeper (with_due (without test q.due) q) ≡ qr
    beside_is : usual.beside wakes c r one.due_one (with_due (without test q.due) q) ≡ so_many many m
    moves : IsKeptByOthers r q.due → n ≡ share (count_by (is_kept k) q.due) (512 - count_by (is_kept r) q.due) - 1
    whom : IsKeptByOthers r q.due → k ≡ first_keeper (from_start start w.listed) q.due
    keeper : IsKeptByOthers r q.due → any (is_kept k) q.due ≡ true
    inside : qr.inside ≡ q.inside
    still : qr.runs ≡ q.runs

  -- what is taken so is what the plain scheduler takes
  ends_in : (start : ℕ) (w : World) (k n many f : ℕ) (rest : List ℕ) (m : Mark) (test : Due → Bool) (q qr : Plain Output Waker)
      (it : FindsOne start w k n many f rest m test q qr) (ms : List Mark) (last : Bool)
      → Begun p below under end rests c x qr it.fit f last (takes_so p below under end rests c x qr it.fit ms)
      → ms ≡ keeps_with (is_64th (run_of w r).counted) (so_many many m) (up_and_told qr)
      → CountsOne r w.urgent_turns w end.world
      → Found start w.urgent_turns w q
  ends_in start w k n many f rest m test q qr it ms last so kept counts =
      let d = pick ms k n in
      let take : Option Due → List Due → Plain Output Waker = λ o ds.
      or o (λ e. plain_takes.takes wakes d taker e (with_due ds q)) (plain_takes.nothing wakes d taker q) in
      let after : Plain Output Waker → Plain Output Waker = λ y.
      plain.runs one_more r (each ms (λ mark. keeps r (is_common mark)) (up_and_told y)) in
      let found_one : find (its_test k q.due) q.due ≡ Some it.one.due_one =
      find_same (its_test k q.due) test q.due it.same ∙ it.one.found in
      let gone : without (its_test k q.due) q.due ≡ without test q.due = without_same (its_test k q.due) test q.due it.same in
      let is : plain_takes.take wakes d taker q ≡ plain_takes.run wakes c f taker (takes_so p below under end rests c x qr it.fit ms) =
      ap (λ o. take o (without (its_test k q.due) q.due)) found_one
      ∙ (ap (take (Some it.one.due_one)) gone
      ∙ (ap (λ y. plain_takes.run wakes c it.one.due_one.future taker (after y)) (it.robbed_is ms)
      ∙ ap (λ f. plain_takes.run wakes c f taker (after qr)) it.one.is)) in
      let new : Plain Output Waker = plain_takes.run wakes c f taker (takes_so p below under end rests c x qr it.fit ms) in
      let b = is_64th (run_of w r).counted in
      let kept_so : ms ≡ usual.usual_keeps wakes d r b it.one.due_one (with_due (without test q.due) q) =
      kept
      ∙ (ap (λ marks. keeps_with b marks (up_and_told qr)) (sym it.beside_is)
      ∙ ap (λ y. keeps_with b (usual.beside wakes c r it.one.due_one (with_due (without test q.due) q)) (up_and_told y))
      (sym (it.robbed_is ms))) in (
        ms,
        k,
        n,
        last,
        record {
          stood =
              subst (StandsSo taker (goes_on_by x last) below q end) (sym is)
              (record {
                stands =
                    subst (λ codes. Stands taker (goes_on_by x last) below codes end.world end.next new.inside) it.inside
                    so.stood.stands;
                follows = so.stood.follows;
              });
          early = subst (IsLast r last) (sym is) so.early;
          runs = ap (λ (q : Plain Output Waker). q.runs) is ∙ (so.runs ∙ ap (λ (rs : List Running). changed one_more r rs) it.still);
          usual = record {
            first_so = λ none. refl;
            keeps_so = λ e here.
                let same : it.one.due_one ≡ e = ap (λ (o : Option Due). or o (λ e. e) it.one.due_one) (sym found_one ∙ here) in
                kept_so
                ∙ (ap (λ ds. usual.usual_keeps wakes d r b it.one.due_one (with_due ds q)) (sym gone)
                ∙ ap (λ e. usual.usual_keeps wakes d r b e (with_due (without (its_test k q.due) q.due) q)) same);
            moves_so = it.moves;
          };
          robs = it.whom;
          keeper = it.keeper;
          behind = counts;
        },
      )

  -- one of its own
  pub takes_its : (start f : ℕ) (rest : List ℕ) (w : World) (q : Plain Output Waker) → r < length w.runs → Follows w q → fits q
      → CanTake q r → own_of w r ≡ f ∷ rest → Way p end (found (put_own w r rest) x f).world ((found (put_own w r rest) x f).next ++ below)
      → Found start w.urgent_turns w q
  takes_its start f rest w q at follows fit can is way =
      let t = takes_own r w q f rest follows is in
      let q0 : Plain Output Waker = with_due (without (is_kept r) q.due) q in
      let g =
      finds p below under end rests c x q0 fit f 0 c.first (omega arith) (λ some. absurd (omega (arith, some))) can.going
      (put_own w r rest) at t.1 way in
      ends_in start w 0 0 0 f rest c.first (is_kept r) q q0
      (record {
        fit = fit;
        one = t.0;
        same = λ e. ap (λ b. if b then is_kept r e else second 0 q.due e) t.0.some;
        robbed_is = λ ms. robs_nobody t.0.due_one.keeper t.0.passes;
        beside_is = keeps_none t.0.due_one.keeper t.0.due_one.mark t.0.passes;
        moves = λ others. absurd (clash others.mine t.0.some);
        whom = λ others. absurd (clash others.mine t.0.some);
        keeper = λ others. absurd (clash others.mine t.0.some);
        inside = refl;
        still = refl;
      })
      g.marks g.last g.begun g.kept
      (record { counted = g.behind.counted; listed = g.behind.listed; turn = g.behind.turn })
    where
      robs_nobody : (o : Option ℕ) → is_run r o ≡ true
          → on o (λ k p. if r == k then p else repeat 0 (keeps r (is_kept k)) p) (with_due (without (is_kept r) q.due) q)
          ≡ with_due (without (is_kept r) q.due) q
      robs_nobody None is = refl
      robs_nobody (Some k) is =
          let q0 : Plain Output Waker = with_due (without (is_kept r) q.due) q in
          ap (λ b. if b then q0 else q0) is

      keeps_none : (o : Option ℕ) (m : Mark) → is_run r o ≡ true
          → or o (λ k. []) (usual.next_ones wakes c r m (with_due (without (is_kept r) q.due) q)) ≡ []
      keeps_none None m is = absurd cc
      keeps_none (Some k) m is = refl

  -- one without a keeper
  pub takes_common : (start : ℕ) (m : Mark) (f : ℕ) (rest : List ℕ) (w : World) (q : Plain Output Waker) → r < length w.runs
      → Follows w q → fits q → CanTake q r → (queue_of w m).items ≡ f ∷ rest
      → ((e : Due) → any (is_common m) q.due ≡ true → its_test 0 q.due e ≡ is_common m e)
      → Way p end (put_queue w m (taken (queue_of w m)))
      (op.Steal (steal_op.Length (record { poll = x; from = Common m; then = then.Found f })) ∷ below)
      → Found start w.urgent_turns w q
  takes_common start m f rest w q at follows fit can is tests way =
      let t = takes_first m w q f rest follows is in
      let q0 : Plain Output Waker = with_due (without (is_common m) q.due) q in
      let many = share (count_by (is_common m) q0.due) (512 - count_by (is_kept r) q0.due) in
      let s =
      steals p end rests x below (Common m) (common_away r m) (then.Found f) (put_queue w m (taken (queue_of w m))) q0 t.1 way in
      let g = finds p below under end rests c x q0 fit f many m s.most s.few can.going s.world
      (subst (λ (rs : List Run). r < length rs) (sym s.runs) at) s.follows s.way in
      ends_in start w 0 0 many f rest m (is_common m) q q0
      (record {
        fit = fit;
        one = t.0;
        same = λ e. tests e t.0.some;
        robbed_is = λ ms. robs_nobody t.0.due_one.keeper t.0.due_one.mark t.0.passes;
        beside_is = keeps_next t.0.due_one.keeper t.0.due_one.mark t.0.passes;
        moves = λ others. none_common m others t.0.some;
        whom = λ others. none_common m others t.0.some;
        keeper = λ others. none_common m others t.0.some;
        inside = refl;
        still = refl;
      })
      g.marks g.last g.begun
      (g.kept
      ∙ ap (λ (rs : List Run). keeps_with (is_64th (slice_index_or rs r no_run).counted) (so_many many m) (up_and_told q0)) s.runs)
      (record {
        counted = λ k.
            g.behind.counted k
            ∙ ap
            (λ (rs : List Run). if k == r then one_counted (slice_index_or rs k no_run).counted else (slice_index_or rs k no_run).counted)
            s.runs;
        listed = g.behind.listed ∙ s.listed;
        turn = g.behind.turn ∙ s.turn;
      })
    where
      robs_nobody : (o : Option ℕ) (n : Mark) → (not (is_some o) && same_mark m n) ≡ true
          → on o (λ k p. if r == k then p else repeat 0 (keeps r (is_kept k)) p) (with_due (without (is_common m) q.due) q)
          ≡ with_due (without (is_common m) q.due) q
      robs_nobody None n is = refl
      robs_nobody (Some k) n is = absurd cc

      same_marks : (m n : Mark) → same_mark m n ≡ true → n ≡ m
      same_marks PlainMark PlainMark is = refl
      same_marks Urgent Urgent is = refl
      same_marks PlainMark Urgent is = absurd cc
      same_marks Urgent PlainMark is = absurd cc

      keeps_next : (o : Option ℕ) (n : Mark) → (not (is_some o) && same_mark m n) ≡ true
          → or o (λ k. []) (usual.next_ones wakes c r n (with_due (without (is_common m) q.due) q))
          ≡ usual.next_ones wakes c r m (with_due (without (is_common m) q.due) q)
      keeps_next None n is =
          ap (λ n. usual.next_ones wakes c r n (with_due (without (is_common m) q.due) q)) (same_marks m n is)
      keeps_next (Some k) n is = absurd cc

      none_common : {A : Type 0} (m : Mark) → IsKeptByOthers r q.due → any (is_common m) q.due ≡ true → A
      none_common PlainMark others some = absurd (clash others.plain some)
      none_common Urgent others some = absurd (clash others.urgent some)

  -- the lock is given back before it goes on with what it found
  unlocked : (l : Lock) (v : World) (f : ℕ)
      → found (record v { lock = l }) x f ≡ done (record (found v x f).world { lock = l }) (found v x f).next
  unlocked l v f = by ((run_of v r).counted + 1 == 64)
    where
      ran_by : (b : Bool) (v : World)
          → run_by b (record v { lock = l }) x f ≡ done (record (run_by b v x f).world { lock = l }) (run_by b v x f).next
      ran_by true v = refl
      ran_by false v = refl

      counted : (b : Bool)
          → counted_by b (record v { lock = l }) x f ≡ done (record (counted_by b v x f).world { lock = l }) (counted_by b v x f).next
      counted true = refl
      counted false =
          ran_by ((run_of (counted_to v r ((run_of v r).counted + 1)) r).taken + 1 == 200) (counted_to v r ((run_of v r).counted + 1))

      by : (b : Bool)
          → behind (found_by (run_of v r).place (tick_or_run.Run x.run) (op.Sleeper sleeper_op.ExchangeFlag ∷ []))
          (counted_by b (record v { lock = l }) x f)
          ≡ done (record (counted_by b v x f).world { lock = l })
          (found_by (run_of v r).place (tick_or_run.Run x.run) (op.Sleeper sleeper_op.ExchangeFlag ∷ []) ++ (counted_by b v x f).next)
      by b = ap (behind (found_by (run_of v r).place (tick_or_run.Run x.run) (op.Sleeper sleeper_op.ExchangeFlag ∷ []))) (counted b)

  -- one that another run keeps
  pub takes_robbed : (start k f : ℕ) (rest : List ℕ) (n : ℕ) (g : ℕ) (more : List ℕ) (w : World) (q : Plain Output Waker)
      → r < length w.runs → (k == r) ≡ false → fits q → CanTake q r → futures_in (is_kept r) q.due ≡ []
      → ((e : Due) → any (is_kept k) q.due ≡ true → its_test k q.due e ≡ is_kept k e) → futures_in (is_kept k) q.due ≡ f ∷ rest
      → k ≡ first_keeper (from_start start w.listed) q.due
      → suc n ≡ share (count_by (is_kept k) q.due) (512 - count_by (is_kept r) q.due)
      → suc n ≤ length (futures_in (is_kept k) q.due) → HasPlaces r (suc n) q.due
      → Follows w (with_due (repeat (suc n) (kept_due r (is_kept k)) q.due) q) → own_of w r ≡ g ∷ more
      → Way p end (found (put_own w r more) x g).world (op.List list_op.UnlockRead ∷ ((found (put_own w r more) x g).next ++ below))
      → Found start w.urgent_turns w q
  takes_robbed start k f rest n g more w q at apart fit can mine tests its whom shares most few follows is way =
      let there : n ≤ length rest = omega (arith, most, ap length its) in
      let ds : List Due = repeat (suc n) (kept_due r (is_kept k)) q.due in
      let t = takes_own r w (with_due ds q) g more follows is in
      let same : g ≡ f =
      (cons_is g f more (take n rest) (sym is ∙ (follows.kept r ∙ come_is r k apart q.due f rest n its mine there few))).0 in
      let v = put_own w r more in
      let u = (found v x g).world in
      let one = first (is_kept k) q.due f rest its in
      let q0 : Plain Output Waker = with_due (without (is_kept k) q.due) q in
      let es : List Due = repeat n (kept_due r (is_kept k)) (without (is_kept k) q.due) in
      let qr : Plain Output Waker = with_due es q in
      let l : Lock = record u.lock { readers = u.lock.readers - 1 } in
      let free = next p end rests (op.List list_op.UnlockRead) u ((found v x g).next ++ below) refl way in
      let now : Way p end (found (record v { lock = l }) x g).world ((found (record v { lock = l }) x g).next ++ below) =
      subst (λ (d : Done). Way p end d.world (d.next ++ below)) (sym (unlocked l v g)) free.way in
      let follows1 : Follows (record v { lock = l }) qr =
      lined_so (record v { lock = l }) (with_due (without (is_kept r) ds) q) es
      (locked l v (with_due (without (is_kept r) ds) q) t.1) (robbed_lined r k apart q.due f rest n its mine there few) in
      let h =
      finds p below under end rests c x qr fit g 0 c.first (omega arith) (λ some. absurd (omega (arith, some))) can.going
      (record v { lock = l }) at follows1 now in
      ends_in start w k n 0 f rest c.first (is_kept k) q qr
      (record {
        fit = fit;
        one = one;
        same = λ e. tests e one.some;
        robbed_is = λ ms. robs one.due_one.keeper one.passes;
        beside_is = keeps_none one.due_one.keeper one.due_one.mark one.passes;
        whom = λ others. whom;
        keeper = λ others. one.some;
        moves = λ others. fewer n (share (count_by (is_kept k) q.due) (512 - count_by (is_kept r) q.due)) shares;
        inside = refl;
        still = refl;
      })
      h.marks h.last
      (subst (λ f. Begun p below under end rests c x qr fit f h.last (takes_so p below under end rests c x qr fit h.marks)) same h.begun)
      h.kept (record { counted = h.behind.counted; listed = h.behind.listed; turn = h.behind.turn })
    where
      fewer : (n m : ℕ) → suc n ≡ m → n ≡ m - 1
      fewer n m is = omega (arith, is)

      keeps_none : (o : Option ℕ) (m : Mark) → is_run k o ≡ true
          → or o (λ j. []) (usual.next_ones wakes c r m (with_due (without (is_kept k) q.due) q)) ≡ []
      keeps_none None m is = absurd cc
      keeps_none (Some j) m is = refl

      robs : (o : Option ℕ) → is_run k o ≡ true
          → on o (λ j p. if r == j then p else repeat n (keeps r (is_kept j)) p) (with_due (without (is_kept k) q.due) q)
          ≡ with_due (repeat n (kept_due r (is_kept k)) (without (is_kept k) q.due)) q
      robs None is = absurd cc
      robs (Some j) is =
          let q0 : Plain Output Waker = with_due (without (is_kept k) q.due) q in
          ap (λ j. if r == j then q0 else repeat n (keeps r (is_kept j)) q0) (sym (same_of k j is))
          ∙ (ap (λ b. if b then q0 else repeat n (keeps r (is_kept k)) q0) (turned_apart k r apart) ∙ repeat_is n r (is_kept k) q0)
