-- A poll of a tick: it takes the first that is due without a keeper, where one is, once it has got up.
use Rattle.std.proofs.Common.{◌≡◌, ℕ, ◌≤◌, ◌++◌, Bool, true, false, List, [], ◌∷◌, length, Option, Some}
use Rattle.std.proofs.Common.{cond, map, if◌then◌else◌, refl, sym, ap, subst, ◌∙◌}
use Rattle.std.specs.Prelude.{filter}
use Rattle.executor_parts.specs.declared.mark.Mark.{Mark}
use Rattle.executor_parts.specs.declared.mark.Mark.TheVariants.{Plain as PlainMark, Urgent}
use Rattle.executor_parts.specs.Marks.{first_of, other}
use Rattle.queue_steps.specs.ClosableQueue.{taken}
use Rattle.task_moves.specs.declared.moves.owed.Move.TheVariants as move
use Rattle.executor_model.specs.declared.call.Reply.TheVariants as reply
use Rattle.executor_model.specs.declared.op.Hold.TheVariants as hold
use Rattle.executor_model.specs.declared.op.Look.TheVariants as look
use Rattle.executor_model.specs.declared.op.Op.{Op}
use Rattle.executor_model.specs.declared.op.Op.TheVariants as op
use Rattle.executor_model.specs.declared.op.SleeperOp.TheVariants as sleeper_op
use Rattle.executor_model.specs.declared.op.Sleeping.{Sleeping}
use Rattle.executor_model.specs.declared.op.TickOp.TheVariants as tick_op
use Rattle.executor_model.specs.declared.op.TickOrRun.TheVariants as tick_or_run
use Rattle.executor_model.specs.declared.op.Waker.{Waker}
use Rattle.executor_model.specs.Acts.{turned}
use Rattle.executor_model.specs.ActsOfSleepers.{found_by, look_tick_by}
use Rattle.executor_model.specs.Weights.{weigh}
use Rattle.executor_model.specs.World.{Asleep, Awake, Done, Left, Ticker, World, put_queue, queue_of, tick_of}
use Rattle.plain_scheduler.specs.State.{ATick, Choice, Due, Later, Plain, Refusal, Granted, Tick, Who}
use Rattle.plain_scheduler.specs.Lists.{any, or, without}
use Rattle.plain_scheduler.specs.Moves.{chosen, commons, is_common, tell, up}
use Rattle.plain_scheduler.specs.Takes as plain_takes
use Rattle.plain_scheduler.specs.Turns.{tick_turns}
use Rattle.plain_scheduler.specs.Usual.{vain_turns}
use Rattle.plain_scheduler.specs.Calls.{does, PollTick}
use Rattle.machine_roads.specs.View.{Output, wakes}
use Rattle.machine_roads.specs.Road.{Follows, futures_in}
use Rattle.machine_roads.specs.Alone.{is_resting}
use Rattle.machine_roads.specs.Refused.{OneMoreLies}
use Rattle.machine_roads.specs.Turning.{TakesTurns}
use Rattle.machine_roads.proofs.Aside.{tell_inside}
use Rattle.machine_roads.proofs.Due.{First, find_never, find_same, nothing, without_same}
use Rattle.machine_roads.proofs.Exchanging.{loudly}
use Rattle.machine_roads.proofs.Lain.{neither}
use Rattle.machine_roads.proofs.Leaving.{gets_up}
use Rattle.machine_roads.proofs.Stepping.{Way, next}
use Rattle.machine_roads.proofs.Standing.{Stands, StandsSo}
use Rattle.machine_roads.proofs.Still.{Still, still_on, stirs}
use Rattle.machine_roads.proofs.Turning.{light, took_still}
use Rattle.machine_roads.proofs.Trying.{runs, takes_first}

-- of each mark, where of one and of the other
pub both_marks : (m n : Mark) (due : List Due) → any (is_common m) due ≡ false → any (is_common (other m)) due ≡ false
    → any (is_common n) due ≡ false
both_marks PlainMark PlainMark due none nor = none
both_marks PlainMark Urgent due none nor = nor
both_marks Urgent PlainMark due none nor = nor
both_marks Urgent Urgent due none nor = none

pub none_in : (test : Due → Bool) (due : List Due) → any test due ≡ false → futures_in test due ≡ []
none_in test [] none = refl
none_in test (d ∷ ds) none =
    let both = neither (test d) (any test ds) none in
    ap (λ b. map (λ (d : Due). d.future) (cond b (d ∷ filter test ds) (filter test ds))) both.0 ∙ none_in test ds both.1

-- nothing was found
finds_nothing : (c : Choice) (t : ℕ) (a : Waker) (r : Refusal) (q : Plain Output Waker) → any (is_common c.first) q.due ≡ false
    → any (is_common (other c.first)) q.due ≡ false
    → does wakes (record c { refusal = r }) (PollTick t a) q ≡ plain_takes.rests wakes c r (ATick t) a q
finds_nothing c t a r q none nor =
    let never : (d : Due) → chosen (commons c) q.due d ≡ false = λ d.
    ap (λ b. if b then is_common c.first d else (if any (is_common (other c.first)) q.due then is_common (other c.first) d
    else false)) none
    ∙ ap (λ b. if b then is_common (other c.first) d else false) nor in
    ap
    (λ o. or o
    (λ d. plain_takes.takes wakes c (Tick t a) d (record q { due = without (λ d. chosen (commons c) q.due d) q.due }))
    (plain_takes.rests wakes c r (ATick t) a q))
    (find_same (λ d. chosen (commons c) q.due d) (λ d. false) q.due never ∙ find_never q.due)

pub nothing_is : (c : Choice) (t : ℕ) (a : Waker) (r : Refusal) (q : Plain Output Waker) → ((m : Mark) → any (is_common m) q.due ≡ false)
    → does wakes (record c { refusal = r }) (PollTick t a) q ≡ plain_takes.rests wakes c r (ATick t) a q
nothing_is c t a r q none = finds_nothing c t a r q (none c.first) (none (other c.first))

module _ (p : ℕ) (below : List Op) (under : is_resting below ≡ true) (end : Done) (rests : is_resting end.next ≡ true) (c : Choice)
    (t : ℕ) (a : Waker) where
  abbrev who : Who
  who = ATick t

  abbrev final : Op
  final = op.End reply.Ready (hold.Tick t)

  abbrev more : Plain Output Waker → Plain Output Waker
  more = tell wakes c

  abbrev pub fits : Plain Output Waker → Type 0
  fits q = length q.lying ≤ c.tells

  abbrev pub refusing : Refusal → Choice
  refusing r = record c { refusal = r }

  abbrev pub Comes : Plain Output Waker → Plain Output Waker → Type 0
  Comes q new = StandsSo (Tick t a) final below q end new

  -- what lies below comes behind all that
  found_more : (x : Ticker) (os : List Op) {w : World} → Way p end w (found_by x (tick_or_run.Tick t) os ++ below)
      → Way p end w (found_by x (tick_or_run.Tick t) (os ++ below))
  found_more Awake os way = way
  found_more Left os way = way
  found_more (Asleep n) os way = way

  -- one that was found is taken
  pub finds : (r : Refusal) (m : Mark) (f : ℕ) (rest : List ℕ) (w : World) (q : Plain Output Waker) → fits q → Follows w q
      → (queue_of w m).items ≡ f ∷ rest
      → ((d : Due) → any (is_common m) q.due ≡ true → chosen (commons c) q.due d ≡ is_common m d)
      → Way p end (put_queue w m (taken (queue_of w m)))
      (found_by (tick_of w t) (tick_or_run.Tick t) (op.Sleeper sleeper_op.ExchangeFlag ∷ op.Move move.TakeUp f ∷ final ∷ []) ++ below)
      → Comes q (does wakes (refusing r) (PollTick t a) q)
  finds r m f rest w q fit follows is tests way =
      let both = takes_first m w q f rest follows is in
      let one : First (is_common m) q.due f rest = both.0 in
      let q1 : Plain Output Waker = record q { due = without (is_common m) q.due } in
      let w1 = put_queue w m (taken (queue_of w m)) in
      let got =
      gets_up p end rests c (tick_or_run.Tick t) w1 (op.Sleeper sleeper_op.ExchangeFlag ∷ op.Move move.TakeUp f ∷ final ∷ below) q1
      both.1 fit (found_more (tick_of w t) (op.Sleeper sleeper_op.ExchangeFlag ∷ op.Move move.TakeUp f ∷ final ∷ []) way) in
      let q2 = up wakes c who q1 in
      let told = (loudly p end rests c).tells got.so_up.world (op.Move move.TakeUp f ∷ final ∷ below) q2 got.fit_up got.so_up.follows
      got.so_up.way in
      let new : Plain Output Waker = plain_takes.run wakes c f (Tick t a) (tell wakes c q2) in
      let run = runs p below under end rests (Tick t a) final c f told.world (tell wakes c q2) told.follows told.way in
      let same : (d : Due) → chosen (commons c) q.due d ≡ is_common m d = λ d. tests d one.some in
      let take : Option Due → List Due → Plain Output Waker = λ o ds.
      or o (λ d. plain_takes.takes wakes c (Tick t a) d (record q { due = ds })) (plain_takes.nothing wakes (refusing r) (Tick t a) q) in
      subst (Comes q)
      (sym (ap (λ o. take o (without (λ d. chosen (commons c) q.due d) q.due))
      (find_same (λ d. chosen (commons c) q.due d) (is_common m) q.due same ∙ one.found)
      ∙ (ap (take (Some one.due_one)) (without_same (λ d. chosen (commons c) q.due d) (is_common m) q.due same)
      ∙ ap (λ f. plain_takes.run wakes c f (Tick t a) (tell wakes c q2)) one.is)))
      (record {
        stands =
            subst (λ codes. Stands (Tick t a) final below codes end.world end.next new.inside) (tell_inside c q2 ∙ got.inside_up)
            run.stands;
        follows = run.follows;
      })

  abbrev pub sleepy : ℕ → Sleeping
  sleepy k = record { waker = a; who = tick_or_run.Tick t; poll = k }

  -- it comes to that, and is refused memory once it lies only where it lies anew; and it takes so many turns
  abbrev pub ComesTo : World → Plain Output Waker → (Refusal → Plain Output Waker) → Type 0
  ComesTo early q to =
      (r : Refusal) × Comes q (to r) × (r ≡ Later → OneMoreLies q (to r)) × TakesTurns (tick_turns r t q) early end.world

  not_granted : Granted ≡ Later → ⊥
  not_granted is = cc

  -- what it finds takes none but the turn in which it was found
  finds_took : (early w : World) (q : Plain Output Waker) (m : Mark) (f : ℕ) (rest : List ℕ) (r : Refusal) → TakesTurns 1 early w →
      Follows w q
      → (queue_of w m).items ≡ f ∷ rest
      → Way p end (put_queue w m (taken (queue_of w m)))
      (found_by (tick_of w t) (tick_or_run.Tick t) (op.Sleeper sleeper_op.ExchangeFlag ∷ op.Move move.TakeUp f ∷ final ∷ []) ++ below)
      → TakesTurns (tick_turns r t q) early end.world
  finds_took early w q m f rest r took follows is way =
      subst (λ n. TakesTurns n early end.world) (sym (one_turn m (takes_first m w q f rest follows is).0.some))
      (took_still 1 early w end.world took
      (still_by (record { turn = refl; counted = λ k. refl; listed = refl })
      (light p below under end (found_by (tick_of w t) (tick_or_run.Tick t) os) (none (tick_of w t)) w1 way)))
    where
      os : List Op
      os = op.Sleeper sleeper_op.ExchangeFlag ∷ op.Move move.TakeUp f ∷ final ∷ []

      w1 : World
      w1 = put_queue w m (taken (queue_of w m))

      still_by : Still w w1 → Still w1 end.world → Still w end.world
      still_by one two = still_on w w1 end.world one two

      none : (x : Ticker) → weigh stirs (found_by x (tick_or_run.Tick t) os) ≡ 0
      none Awake = refl
      none Left = refl
      none (Asleep n) = refl

      one_turn : (m : Mark) → any (is_common m) q.due ≡ true → tick_turns r t q ≡ 1
      one_turn PlainMark some =
          ap (λ b. if b then 1 else (if any (is_common Urgent) q.due then 1 else vain_turns r (ATick t) q.lying)) some
      one_turn Urgent some =
          ap (λ b. if any (is_common PlainMark) q.due then 1 else (if b then 1 else vain_turns r (ATick t) q.lying)) some
          ∙ one_or_one (any (is_common PlainMark) q.due)
        where
          one_or_one : (b : Bool) → ◌≡◌ {A = ℕ} (if b then 1 else 1) 1
          one_or_one true = refl
          one_or_one false = refl

  -- a search: it finds one, or nothing without a keeper is due
  pub searches : (k : ℕ) (early w : World) (q : Plain Output Waker) → TakesTurns 1 early w → fits q → Follows w q
      → (((m : Mark) → any (is_common m) q.due ≡ false) → Way p end w (op.Tick (tick_op.CopyWaker (sleepy k)) ∷ below)
      → ComesTo early q (λ r. plain_takes.rests wakes c r who a q))
      → Way p end w (op.Tick (tick_op.Look (sleepy k) (look.First c.first)) ∷ below)
      → ComesTo early q (λ r. does wakes (refusing r) (PollTick t a) q)
  searches k early w q took fit follows rests_so way =
      by (queue_of w c.first).items refl
      (next p end rests (op.Tick (tick_op.Look (sleepy k) (look.First c.first))) w below refl way).way
    where
      second : any (is_common c.first) q.due ≡ false → (xs : List ℕ) → (queue_of w (other c.first)).items ≡ xs
          → Way p end (look_tick_by (tick_of w t) w (look.Second (other c.first)) xs (sleepy k)).world
          ((look_tick_by (tick_of w t) w (look.Second (other c.first)) xs (sleepy k)).next ++ below)
          → ComesTo early q (λ r. does wakes (refusing r) (PollTick t a) q)
      second none [] is way =
          let nor = (nothing (is_common (other c.first)) q.due (sym (follows.common (other c.first)) ∙ is)).none in
          let so = rests_so (λ m. both_marks c.first m q.due none nor) way in
          let same = sym (finds_nothing c t a so.0 q none nor) in
          (so.0, subst (Comes q) same so.1, λ is. subst (OneMoreLies q) same (so.2 is), so.3)
      second none (f ∷ rest) is way = (
        Granted,
        finds Granted (other c.first) f rest w q fit follows is
            (λ d some.
            ap (λ b. if b then is_common c.first d else (if any (is_common (other c.first)) q.due then is_common (other c.first) d
            else false)) none
            ∙ ap (λ b. if b then is_common (other c.first) d else false) some) way,
        λ is. absurd (not_granted is),
        finds_took early w q (other c.first) f rest Granted took follows is way,
      )

      by : (xs : List ℕ) → (queue_of w c.first).items ≡ xs
          → Way p end (look_tick_by (tick_of w t) w (look.First c.first) xs (sleepy k)).world
          ((look_tick_by (tick_of w t) w (look.First c.first) xs (sleepy k)).next ++ below)
          → ComesTo early q (λ r. does wakes (refusing r) (PollTick t a) q)
      by [] is way =
          let none = (nothing (is_common c.first) q.due (sym (follows.common c.first) ∙ is)).none in
          let s = next p end rests (op.Tick (tick_op.Look (sleepy k) (look.Second (other c.first)))) w below refl way in
          second none (queue_of w (other c.first)).items refl s.way
      by (f ∷ rest) is way = (
        Granted,
        finds Granted c.first f rest w q fit follows is
            (λ d some. ap
            (λ b. if b then is_common c.first d else (if any (is_common (other c.first)) q.due then is_common (other c.first) d
            else false)) some) way,
        λ is. absurd (not_granted is),
        finds_took early w q c.first f rest Granted took follows is way,
      )

  -- and a search where nothing is due
  pub searches_none : (k : ℕ) (w : World) (q : Plain Output Waker) → Follows w q
      → ((m : Mark) → any (is_common m) q.due ≡ false) → Way p end w (op.Tick (tick_op.Search (sleepy k)) ∷ below)
      → Way p end (turned p w) (op.Tick (tick_op.CopyWaker (sleepy k)) ∷ below)
  searches_none k w q follows quiet way =
      let m = first_of w.urgent_turns in
      let w1 = turned p w in
      let one = next p end rests (op.Tick (tick_op.Search (sleepy k))) w below refl way in
      let two = next p end rests (op.Tick (tick_op.Look (sleepy k) (look.First m))) w1 below refl one.way in
      let three =
      next p end rests (op.Tick (tick_op.Look (sleepy k) (look.Second (other m)))) w1 below refl
      (subst
      (λ xs. Way p end (look_tick_by (tick_of w t) w1 (look.First m) xs (sleepy k)).world
      ((look_tick_by (tick_of w t) w1 (look.First m) xs (sleepy k)).next ++ below))
      (follows.common m ∙ none_in (is_common m) q.due (quiet m)) two.way) in
      subst
      (λ xs. Way p end (look_tick_by (tick_of w t) w1 (look.Second (other m)) xs (sleepy k)).world
      ((look_tick_by (tick_of w t) w1 (look.Second (other m)) xs (sleepy k)).next ++ below))
      (follows.common (other m) ∙ none_in (is_common (other m)) q.due (quiet (other m))) three.way
