-- What a run does with a future that it has found: it gets up, tells, steals more at every 64th, counts, and the future's run begins.
use Rattle.std.proofs.Common.{◌≡◌, ℕ, ◌+◌, ◌≤◌, ◌<◌, ◌==◌, ◌++◌, nat_lt, not, Bool, true, false, List, [], ◌∷◌, length}
use Rattle.std.proofs.Common.{slice_get, slice_set, if◌then◌else◌, refl, sym}
use Rattle.std.proofs.Common.{ap, subst, ◌∙◌}
use Rattle.executor_parts.specs.declared.mark.Mark.{Mark}
use Rattle.executor_parts.specs.declared.mark.Mark.TheVariants.{Plain as PlainMark, Urgent}
use Rattle.task_moves.specs.declared.moves.owed.Move.TheVariants as move
use Rattle.task_moves.specs.AbstractTask as abstract
use Rattle.executor_model.specs.declared.op.Op.{Op}
use Rattle.executor_model.specs.declared.op.Op.TheVariants as op
use Rattle.executor_model.specs.declared.op.RunOp.TheVariants as run_op
use Rattle.executor_model.specs.declared.op.RunPoll.{RunPoll}
use Rattle.executor_model.specs.declared.op.SleeperOp.TheVariants as sleeper_op
use Rattle.executor_model.specs.declared.op.Source.TheVariants.{Common}
use Rattle.executor_model.specs.declared.op.Then.TheVariants as then
use Rattle.executor_model.specs.declared.op.TickOp.TheVariants as tick_op
use Rattle.executor_model.specs.declared.op.TickOrRun.{TickOrRun}
use Rattle.executor_model.specs.declared.op.TickOrRun.TheVariants as tick_or_run
use Rattle.executor_model.specs.declared.op.Waker.{Waker}
use Rattle.executor_model.specs.ActsOfRuns.{asleep, counted_by, counted_to, found, run_by, run_found}
use Rattle.executor_model.specs.ActsOfSleepers.{found_by}
use Rattle.executor_model.specs.SleepersAgree.{sleeps}
use Rattle.executor_model.specs.World.{Asleep, Awake, Done, Left, Run, Ticker, World, place_of, put_run, run_of}
use Rattle.plain_scheduler.specs.State.{ARun, Choice, Closed, Due, Plain, Poll, Polls, Running, Run as ByRun, Taker}
use Rattle.plain_scheduler.specs.Lists.{each, or, repeat}
use Rattle.plain_scheduler.specs.Moves.{enters, is_common, is_kept, keeps, put, see, task, tell, up}
use Rattle.plain_scheduler.specs.Moves as plain
use Rattle.plain_scheduler.specs.Takes as plain_takes
use Rattle.plain_scheduler.specs.Usual.{is_64th, one_counted, share, so_many}
use Rattle.plain_scheduler.specs.Usual as usual
use Rattle.machine_roads.specs.View.{Output, wakes}
use Rattle.machine_roads.specs.Road.{Follows, futures_in}
use Rattle.machine_roads.specs.Alone.{is_resting}
use Rattle.machine_roads.specs.Searching.{CountsOne, IsLast}
use Rattle.machine_roads.proofs.Adding.{Adds, risen_adds, with_both, with_due}
use Rattle.machine_roads.proofs.Aside.{tell_inside, up_inside}
use Rattle.machine_roads.proofs.BehindTake.{counted_due, found_due, taken_still, taking_resting}
use Rattle.machine_roads.proofs.Exchanging.{loudly}
use Rattle.machine_roads.proofs.Keeping.{HasPlaces, Lined}
use Rattle.machine_roads.proofs.Keeping.{common_away, lined_so}
use Rattle.machine_roads.proofs.KeepingMarks.{both_is, both_of, each_many, each_marks, keeping, lined_added, lined_more, share_of}
use Rattle.machine_roads.proofs.KeepingMarks.{share_same}
use Rattle.machine_roads.proofs.Leaving.{gets_up}
use Rattle.machine_roads.proofs.Moved.{Then}
use Rattle.machine_roads.proofs.Numbers.{put_view}
use Rattle.machine_roads.proofs.Puts.{put_by}
use Rattle.machine_roads.proofs.RunCounting.{counts_so}
use Rattle.machine_roads.proofs.Runs.{changed, counted_alike, counted_last, one_more, runs_is, same_place}
use Rattle.machine_roads.proofs.Standing.{Stands, StandsSo}
use Rattle.machine_roads.proofs.Stealing.{steals}
use Rattle.machine_roads.proofs.Stepping.{Way}
use Rattle.machine_roads.proofs.Trying.{runs}
use Rattle.machine_roads.proofs.Unseen.{ran}

-- the begin of a future's run is nothing to the runs
run_runs : (c : Choice) (f : ℕ) (by : Taker Waker) (q : Plain Output Waker) → (plain_takes.run wakes c f by q).runs ≡ q.runs
run_runs c f by q = cases (task f q).closed
  where
    cases : (b : Bool)
        → (if b then plain_takes.dropping wakes c f Closed by q
        else enters (Poll f by) (see (Polls f) (put f (abstract.begin_run (task f q)) q))).runs ≡ q.runs
    cases true = refl
    cases false = put_by (λ p. p.runs) f (abstract.begin_run (task f q)) q (λ fs. refl)

module _ (p : ℕ) (below : List Op) (under : is_resting below ≡ true) (end : Done) (rests : is_resting end.next ≡ true) (c : Choice)
    (x : RunPoll) where
  abbrev r : ℕ
  r = x.run

  abbrev it : TickOrRun
  it = tick_or_run.Run x.run

  abbrev pub taker : Taker Waker
  taker = ByRun x.run x.waker

  abbrev fits : Plain Output Waker → Type 0
  fits q = length q.lying ≤ c.tells

  -- what it goes on with: after 200 it calls its own waker
  abbrev pub final : Bool → Op
  final last = if last then op.Run (run_op.WakeOwn x) else op.Tick (tick_op.Search (asleep x))

  -- how many it has taken, before the plain scheduler's 200
  abbrev pub IsGoing : Plain Output Waker → Type 0
  IsGoing q = or (slice_get q.runs r) (λ run. nat_lt run.taken 200) true ≡ true

  abbrev counted : List Running → List Running
  counted rs = changed one_more r rs

  -- it counts what it has taken
  record Counts (f : ℕ) (w : World) (q : Plain Output Waker) : Type 0 where
    last : Bool
    world : World
    follows : Follows world (record q { runs = counted q.runs })
    place : (y : TickOrRun) → place_of world y ≡ place_of w y
    is : (run_found w x f).world ≡ world
    leads : (run_found w x f).next ≡ op.Move move.TakeUp f ∷ final last ∷ []
    early : IsLast r last (record q { runs = counted q.runs })

  counts : (f : ℕ) (w : World) (q : Plain Output Waker) → Follows w q → IsGoing q → Counts f w q
  counts f w q follows going = by ((run_of w r).taken + 1 == 200) refl
    where
      of : Bool → Run
      of b = record (run_of w r) { taken = if b then 0 else (run_of w r).taken + 1 }

      placed : (b : Bool) (y : TickOrRun) → place_of (put_run w r (of b)) y ≡ place_of w y
      placed b (tick_or_run.Tick t) = refl
      placed b (tick_or_run.Run k) = same_place w.ticks w.runs r (of b) refl (tick_or_run.Run k)

      after : (b : Bool) → ((run_of w r).taken + 1 == 200) ≡ b
          → Follows (put_run w r (of b)) (record q { runs = counted q.runs })
      after b is =
          ran w.ticks (slice_set w.runs r (of b)) w.listed (counted q.runs) w q follows
          (λ y. ap sleeps (same_place w.ticks w.runs r (of b) refl y)) (λ y n at. same_place w.ticks w.runs r (of b) refl y ∙ at)
          (counted_alike w.runs q.runs follows.runs r going b is)

      by : (b : Bool) → ((run_of w r).taken + 1 == 200) ≡ b → Counts f w q
      by true is = record {
        last = true;
        world = put_run w r (of true);
        follows = after true is;
        place = placed true;
        is = ap (λ (b : Bool). (run_by b w x f).world) is;
        leads = ap (λ (b : Bool). (run_by b w x f).next) is;
        early = counted_last w.runs q.runs follows.runs r going ∙ ap not is;
      }
      by false is = record {
        last = false;
        world = put_run w r (of false);
        follows = after false is;
        place = placed false;
        is = ap (λ (b : Bool). (run_by b w x f).world) is;
        leads = ap (λ (b : Bool). (run_by b w x f).next) is;
        early = counted_last w.runs q.runs follows.runs r going ∙ ap not is;
      }

  -- it gets up and tells
  module _ (q0 : Plain Output Waker) (fit : fits q0) where
    abbrev z : Plain Output Waker
    z = tell wakes c (up wakes c (ARun x.run) q0)

    adds : Adds (λ q. tell wakes c (up wakes c (ARun x.run) q)) q0
    adds = risen_adds c (ARun x.run) q0

    z_is : z ≡ with_both (q0.due ++ adds.more) q0.runs z
    z_is = adds.is q0.due q0.runs

    z_inside : z.inside ≡ q0.inside
    z_inside = tell_inside c (up wakes c (ARun x.run) q0) ∙ up_inside c (ARun x.run) q0

    risen : (D : List Due) (rs : List Running) (w : World) (os : List Op) → Follows w (with_both D rs q0)
        → Way p end w (found_by (place_of w it) it (op.Sleeper sleeper_op.ExchangeFlag ∷ os))
        → Then p end os (with_both (D ++ adds.more) rs z)
    risen D rs w os follows way =
        let got = gets_up p end rests c it w (op.Sleeper sleeper_op.ExchangeFlag ∷ os) (with_both D rs q0) follows fit way in
        subst (Then p end os) (adds.is D rs)
        ((loudly p end rests c).tells got.so_up.world os (up wakes c (ARun x.run) (with_both D rs q0)) got.fit_up got.so_up.follows
        got.so_up.way)

    -- what it keeps beside, once it took so many of one mark and tells
    abbrev keeps_all : List Mark → Plain Output Waker
    keeps_all ms = each ms (λ mark. keeps r (is_common mark)) z

    abbrev pub takes_so : List Mark → Plain Output Waker
    takes_so ms = plain.runs one_more r (keeps_all ms)

    -- the run of the future begins
    pub record Begun (f : ℕ) (last : Bool) (y : Plain Output Waker) : Type 0 where
      pub stood : StandsSo taker (final last) below q0 end (plain_takes.run wakes c f taker y)
      pub early : IsLast r last (plain_takes.run wakes c f taker y)
      pub runs : (plain_takes.run wakes c f taker y).runs ≡ changed one_more r q0.runs

    begins : (f : ℕ) (last : Bool) (w : World) (es : List Due) (ms : List Mark) → Follows w (with_both es (counted q0.runs) z)
        → takes_so ms ≡ with_both es (counted q0.runs) z → IsLast r last (with_both es (counted q0.runs) z)
        → Way p end w (op.Move move.TakeUp f ∷ final last ∷ below) → Begun f last (takes_so ms)
    begins f last w es ms follows same early way =
        let q1 : Plain Output Waker = with_both es (counted q0.runs) z in
        let new : Plain Output Waker = plain_takes.run wakes c f taker q1 in
        let so = runs p below under end rests taker (final last) c f w q1 follows way in
        subst (Begun f last) (sym same)
        (record {
          stood = record {
            stands = subst (λ codes. Stands taker (final last) below codes end.world end.next new.inside) z_inside so.stands;
            follows = so.follows;
          };
          early = ap (λ (rs : List Running). nat_lt (or (slice_get rs r) (λ run. run.taken) 0) 200) (run_runs c f taker q1) ∙ early;
          runs = run_runs c f taker q1;
        })

    module _ (f k : ℕ) (m : Mark) (there : k ≤ length (futures_in (is_common m) q0.due)) (few : HasPlaces r k q0.due)
        (going : IsGoing q0) where
      abbrev D : List Due
      D = repeat k (keeping r m) q0.due

      abbrev E : List Due
      E = repeat k (keeping r m) (q0.due ++ adds.more)

      first_lined : Lined (D ++ adds.more) E
      first_lined = lined_added r m k q0.due adds.more adds.bare there few

      -- which it keeps by then of this mark, and with every 64th of both
      abbrev kept_beside : Plain Output Waker
      kept_beside = usual.keeping wakes c r (so_many k m) z

      abbrev kept_so : Bool → List Mark
      kept_so last = so_many k m ++ (if last then usual.of_both wakes c r kept_beside else [])

      kept_due_is : kept_beside.due ≡ E
      kept_due_is =
          ap (λ (y : Plain Output Waker). y.due) (each_many r k m z)
          ∙ ap (λ (y : Plain Output Waker). repeat k (keeping r m) y.due) z_is

      pub record Runs (w : World) : Type 0 where
        pub marks : List Mark
        pub last : Bool
        pub begun : Begun f last (takes_so marks)
        pub kept : marks ≡ kept_so (is_64th (run_of w r).counted)
        pub behind : CountsOne r w.urgent_turns w end.world

      -- behind that nothing counts or takes a turn until the future's run has begun
      counts_one : (b : Bool) (w : World) → is_64th (run_of w r).counted ≡ b → r < length w.runs
          → Way p end (counted_by b w x f).world
          ((found_by (run_of w r).place it (op.Sleeper sleeper_op.ExchangeFlag ∷ []) ++ (counted_by b w x f).next) ++ below)
          → CountsOne r w.urgent_turns w end.world
      counts_one b w is at way =
          let it = counts_so w x f b is at in
          let resting = taking_resting below under in
          let still =
          taken_still p end (counted_by b w x f).world
          ((found_by (run_of w r).place (tick_or_run.Run x.run) (op.Sleeper sleeper_op.ExchangeFlag ∷ [])
          ++ (counted_by b w x f).next) ++ below)
          (found_due below resting (run_of w r).place (tick_or_run.Run x.run) (counted_by b w x f).next (counted_due below resting b w x f))
          way in
          record {
            counted = λ k. still.counted k ∙ it.counted k;
            listed = still.listed ∙ it.listed;
            turn = still.turn ∙ it.turn;
          }

      counted_follows : (n : ℕ) (w : World) → Follows w (with_due D q0) → Follows (counted_to w r n) (with_due D q0)
      counted_follows n w follows =
          let y : Run = record (run_of w r) { counted = n } in
          ran w.ticks (slice_set w.runs r y) w.listed q0.runs w (with_due D q0) follows
          (λ y. ap sleeps (same_place w.ticks w.runs r (record (run_of w r) { counted = n }) refl y))
          (λ y k at. same_place w.ticks w.runs r (record (run_of w r) { counted = n }) refl y ∙ at)
          (put_view w.runs r y refl ∙ follows.runs)

      counted_place : (n : ℕ) (w : World) → place_of (counted_to w r n) it ≡ place_of w it
      counted_place n w = same_place w.ticks w.runs r (record (run_of w r) { counted = n }) refl it

      regroup : (t : Ticker) (w : World) (os : List Op)
          → Way p end w ((found_by t it (op.Sleeper sleeper_op.ExchangeFlag ∷ []) ++ os) ++ below)
          → Way p end w (found_by t it (op.Sleeper sleeper_op.ExchangeFlag ∷ (os ++ below)))
      regroup Awake w os way = way
      regroup Left w os way = way
      regroup (Asleep n) w os way = way

      -- one of those that come between
      at_once : (w : World) → is_64th (run_of w r).counted ≡ false → r < length w.runs → Follows w (with_due D q0)
          → Way p end (counted_by false w x f).world
          ((found_by (run_of w r).place it (op.Sleeper sleeper_op.ExchangeFlag ∷ []) ++ (counted_by false w x f).next) ++ below)
          → Runs w
      at_once w early at follows way =
          let n = (run_of w r).counted + 1 in
          let w1 = counted_to w r n in
          let k1 = counts f w1 (with_due D q0) (counted_follows n w follows) going in
          let os = op.Move move.TakeUp f ∷ final k1.last ∷ [] in
          let now : Way p end k1.world
          ((found_by (run_of w r).place it (op.Sleeper sleeper_op.ExchangeFlag ∷ []) ++ os) ++ below) =
          subst
          (λ ops. Way p end k1.world ((found_by (run_of w r).place it (op.Sleeper sleeper_op.ExchangeFlag ∷ []) ++ ops) ++ below)) k1.leads
          (subst
          (λ v. Way p end v
          ((found_by (run_of w r).place it (op.Sleeper sleeper_op.ExchangeFlag ∷ []) ++ (run_found w1 x f).next) ++ below)) k1.is way) in
          let place : (run_of w r).place ≡ place_of k1.world it = sym (k1.place it ∙ counted_place n w) in
          let up_now : Way p end k1.world (found_by (place_of k1.world it) it (op.Sleeper sleeper_op.ExchangeFlag ∷ (os ++ below))) =
          subst (λ t. Way p end k1.world (found_by t it (op.Sleeper sleeper_op.ExchangeFlag ∷ (os ++ below)))) place
          (regroup (run_of w r).place k1.world os now) in
          let g = risen D (counted q0.runs) k1.world (os ++ below) k1.follows up_now in
          let follows3 : Follows g.world (with_both E (counted q0.runs) z) =
          lined_so g.world (with_both (D ++ adds.more) (counted q0.runs) z) E g.follows first_lined in
          let same : takes_so (so_many k m ++ []) ≡ with_both E (counted q0.runs) z =
          ap (plain.runs one_more r) (each_marks r k m [] z)
          ∙ (runs_is one_more r (with_due (repeat k (keeping r m) z.due) z)
          ∙ ap (λ (y : Plain Output Waker). with_both (repeat k (keeping r m) y.due) (counted y.runs) z) z_is) in
          record {
            marks = so_many k m ++ [];
            last = k1.last;
            begun = begins f k1.last g.world E (so_many k m ++ []) follows3 same k1.early g.way;
            kept = ap kept_so (sym early);
            behind = counts_one false w early at way;
          }

      -- every 64th: it steals more
      steals_first : (w : World) → is_64th (run_of w r).counted ≡ true → r < length w.runs → Follows w (with_due D q0)
          → Way p end (counted_by true w x f).world
          ((found_by (run_of w r).place it (op.Sleeper sleeper_op.ExchangeFlag ∷ []) ++ (counted_by true w x f).next) ++ below)
          → Runs w
      steals_first w each_64th at follows way =
          let w1 = counted_to w r 0 in
          let os = (counted_by true w x f).next in
          let place : (run_of w r).place ≡ place_of w1 it = sym (counted_place 0 w) in
          let up_now : Way p end w1 (found_by (place_of w1 it) it (op.Sleeper sleeper_op.ExchangeFlag ∷ (os ++ below))) =
          subst (λ t. Way p end w1 (found_by t it (op.Sleeper sleeper_op.ExchangeFlag ∷ (os ++ below)))) place
          (regroup (run_of w r).place w1 os way) in
          let g = risen D q0.runs w1 (os ++ below) (counted_follows 0 w follows) up_now in
          let q2 : Plain Output Waker = with_both (D ++ adds.more) q0.runs z in
          let one =
          steals p end rests x below (Common Urgent) (common_away r Urgent) (then.StealPlain f) g.world q2 g.follows g.way in
          let urgent = share_of r Urgent (D ++ adds.more) in
          let ds : List Due = repeat urgent (keeping r Urgent) (D ++ adds.more) in
          let q3 : Plain Output Waker = with_both ds q0.runs z in
          let two =
          steals p end rests x below (Common PlainMark) (common_away r PlainMark) (then.Run f) one.world q3 one.follows one.way in
          let plain_ones = share_of r PlainMark ds in
          let es : List Due = repeat plain_ones (keeping r PlainMark) ds in
          let q4 : Plain Output Waker = with_both es q0.runs z in
          let k1 = counts f two.world q4 two.follows going in
          let now : Way p end k1.world (op.Move move.TakeUp f ∷ final k1.last ∷ below) =
          subst (λ ops. Way p end k1.world (ops ++ below)) k1.leads
          (subst (λ v. Way p end v ((run_found two.world x f).next ++ below)) k1.is two.way) in
          let urgent_kept : List Due = repeat urgent (keeping r Urgent) E in
          let both_kept : List Due = repeat plain_ones (keeping r PlainMark) urgent_kept in
          let lined1 : Lined ds urgent_kept = lined_more r Urgent urgent (D ++ adds.more) E first_lined one.most one.few in
          let lined2 : Lined es both_kept = lined_more r PlainMark plain_ones ds urgent_kept lined1 two.most two.few in
          let follows3 : Follows k1.world (with_both both_kept (counted q0.runs) z) =
          lined_so k1.world (with_both es (counted q0.runs) z) both_kept k1.follows lined2 in
          let later = so_many plain_ones PlainMark in
          let more = so_many urgent Urgent ++ later in
          let zk : Plain Output Waker = with_due (repeat k (keeping r m) z.due) z in
          let zu : Plain Output Waker = with_due (repeat urgent (keeping r Urgent) zk.due) z in
          let same : takes_so (so_many k m ++ more) ≡ with_both both_kept (counted q0.runs) z =
          ap (plain.runs one_more r)
          (each_marks r k m more z ∙ (each_marks r urgent Urgent later zk ∙ each_many r plain_ones PlainMark zu))
          ∙ (runs_is one_more r (with_due (repeat plain_ones (keeping r PlainMark) zu.due) z)
          ∙ ap
          (λ (y : Plain Output Waker). with_both
          (repeat plain_ones (keeping r PlainMark) (repeat urgent (keeping r Urgent) (repeat k (keeping r m) y.due))) (counted y.runs) z)
          z_is) in
          let both : more ≡ usual.of_both wakes c r kept_beside =
          ap (λ n. so_many urgent Urgent ++ so_many n PlainMark) (share_same r PlainMark ds urgent_kept lined1)
          ∙ (ap (λ n. so_many n Urgent ++ so_many (share_of r PlainMark (repeat n (keeping r Urgent) E)) PlainMark)
          (share_same r Urgent (D ++ adds.more) E first_lined)
          ∙ (ap (both_of r) (sym kept_due_is) ∙ sym (both_is c r kept_beside))) in
          record {
            marks = so_many k m ++ more;
            last = k1.last;
            begun = begins f k1.last k1.world both_kept (so_many k m ++ more) follows3 same k1.early now;
            kept = ap (λ ms. so_many k m ++ ms) both ∙ ap kept_so (sym each_64th);
            behind = counts_one true w each_64th at way;
          }

      -- it has found one, and so many more of this mark came to its own queue
      pub finds : (w : World) → r < length w.runs → Follows w (with_due D q0)
          → Way p end (found w x f).world ((found w x f).next ++ below) → Runs w
      finds w at follows way = by (is_64th (run_of w r).counted) refl way
        where
          by : (b : Bool) → is_64th (run_of w r).counted ≡ b
              → Way p end (counted_by b w x f).world
              ((found_by (run_of w r).place it (op.Sleeper sleeper_op.ExchangeFlag ∷ []) ++ (counted_by b w x f).next) ++ below)
              → Runs w
          by true is way = steals_first w is at follows way
          by false is way = at_once w is at follows way
