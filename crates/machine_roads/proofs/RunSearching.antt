-- A run's search: its own queue, the executor's as the turn names them, and then round the queues of the other runs.
use Rattle.std.proofs.Common.{◌≡◌, ℕ, zero, suc, ◌+◌, ◌-◌, ◌%◌, ◌≤◌, ◌<◌, ◌==◌, ◌++◌, Bool, true, false, List, []}
use Rattle.std.proofs.Common.{◌∷◌, length, Option, if◌then◌else◌, ⊎_elim, refl, sym, ap, subst}
use Rattle.std.proofs.Common.{◌∙◌, arith}
use Rattle.std.specs.Prelude.{count_by, slice_index_or}
use Rattle.std.proofs.Math.Nat.{mod-lt}
use Rattle.executor_parts.specs.declared.mark.Mark.{Mark}
use Rattle.executor_parts.specs.Marks.{first_of, other, turn_after}
use Rattle.executor_model.specs.declared.event.Event.TheVariants as event
use Rattle.executor_model.specs.declared.op.ListOp.TheVariants as list_op
use Rattle.executor_model.specs.declared.op.Look.TheVariants as look
use Rattle.executor_model.specs.declared.op.Op.{Op}
use Rattle.executor_model.specs.declared.op.Op.TheVariants as op
use Rattle.executor_model.specs.declared.op.RunOp.TheVariants as run_op
use Rattle.executor_model.specs.declared.op.RunPoll.{RunPoll}
use Rattle.executor_model.specs.declared.op.Source.TheVariants.{Own}
use Rattle.executor_model.specs.declared.op.StealOp.TheVariants as steal_op
use Rattle.executor_model.specs.declared.op.Then.TheVariants as then
use Rattle.executor_model.specs.declared.op.TickOp.TheVariants as tick_op
use Rattle.executor_model.specs.declared.op.Waker.{Waker}
use Rattle.executor_model.specs.Acts.{turned}
use Rattle.executor_model.specs.ActsOfRuns.{asleep, look_own_by, next_place, queue_at}
use Rattle.executor_model.specs.ActsOfRuns.{search_common_by, search_own_by, walk}
use Rattle.executor_model.specs.Sound.{times}
use Rattle.executor_model.specs.World.{Done, Lock, Run, World, no_run, own_of, queue_of, run_of}
use Rattle.executor_model.proofs.WalksRound.Ahead.{Ahead, all-ahead, in-list}
use Rattle.plain_scheduler.specs.State.{Choice, Due, Plain, Granted, Run as ByRun}
use Rattle.plain_scheduler.specs.Lists.{any, repeat}
use Rattle.plain_scheduler.specs.Moves.{is_common, is_due, is_kept}
use Rattle.plain_scheduler.specs.Takes as plain_takes
use Rattle.plain_scheduler.specs.Usual.{first_keeper, from_start, share}
use Rattle.machine_roads.specs.View.{Output, wakes}
use Rattle.machine_roads.specs.Road.{Follows, futures_in, run_view}
use Rattle.machine_roads.specs.Alone.{alone, is_resting}
use Rattle.machine_roads.specs.Searching.{CanTake, RunTakesAlike, goes_on_by, start_of, turn_behind, unready}
use Rattle.machine_roads.proofs.Adding.{with_due}
use Rattle.machine_roads.proofs.Changing.{logs}
use Rattle.machine_roads.proofs.Due.{first, nothing}
use Rattle.machine_roads.proofs.Keeping.{count_is, HasPlaces, kept_away, kept_due}
use Rattle.machine_roads.proofs.Lists.{same_of}
use Rattle.machine_roads.proofs.Robbing.{come_is, some_kept}
use Rattle.machine_roads.proofs.RunFinding.{Found, found_from, fourth, its_test, pick, second, takes_common, takes_its, takes_robbed, third}
use Rattle.machine_roads.proofs.Runs.{over_is}
use Rattle.machine_roads.proofs.RunsGone.{takes_own}
use Rattle.machine_roads.proofs.Standing.{stops_so}
use Rattle.machine_roads.proofs.Starting.{From, next_from, reads_from}
use Rattle.machine_roads.proofs.Stealing.{share_some, steals}
use Rattle.machine_roads.proofs.Stepping.{Way, next}
use Rattle.machine_roads.proofs.TickPolls.{both_marks, none_in}
use Rattle.machine_roads.proofs.Unseen.{locked, turns}
use Rattle.machine_roads.proofs.WalkOrder.{all_round, keeps_first, keeps_later, round}

module _ (p : ℕ) (below : List Op) (under : is_resting below ≡ true) (end : Done) (rests : is_resting end.next ≡ true) (c : Choice)
    (x : RunPoll) where
  abbrev r : ℕ
  r = x.run

  abbrev fits : Plain Output Waker → Type 0
  fits q = length q.lying ≤ c.tells

  abbrev Finds : ℕ → World → Plain Output Waker → Type 0
  Finds start w q = Found p below under end rests c x start w.urgent_turns w q

  abbrev tests_of : ℕ → List Due → Due → Bool
  tests_of k due e = its_test p below under end rests c x k due e

  from_there : (start : ℕ) (v w : World) (q : Plain Output Waker) → v.urgent_turns ≡ w.urgent_turns → v.runs ≡ w.runs
      → v.listed ≡ w.listed → Finds start v q → Finds start w q
  from_there start v w q turn runs listed g =
      found_from p below under end rests c x start v.urgent_turns w.urgent_turns v w q turn
      (λ k. ap (λ (rs : List Run). (slice_index_or rs k no_run).counted) runs) listed g

  module _ (start : ℕ) (qs : List ℕ) (q : Plain Output Waker) (fit : fits q) (can : CanTake q r) (mine : futures_in (is_kept r) q.due ≡ [])
      (none : (m : Mark) → any (is_common m) q.due ≡ false) where
    -- another run keeps something
    abbrev Full : ℕ → Type 0
    Full k = 1 ≤ length (futures_in (is_kept k) q.due)

    tests : (k : ℕ) (e : Due) → any (is_kept k) q.due ≡ true → tests_of k q.due e ≡ is_kept k e
    tests k e some =
        ap (λ b. if b then is_kept r e else second p below under end rests c x k q.due e) (nothing (is_kept r) q.due mine).none
        ∙ (ap (λ b. if b then is_common c.first e else third p below under end rests c x k q.due e) (none c.first)
        ∙ (ap (λ b. if b then is_common (other c.first) e else fourth p below under end rests c x k q.due e) (none (other c.first))
        ∙ ap (λ b. if b then is_kept k e else (if any is_due q.due then is_due e else false)) some))

    first_of_them : (fs : List ℕ) → 1 ≤ length fs → (f : ℕ) × (rest : List ℕ) × (fs ≡ f ∷ rest)
    first_of_them [] some = absurd (omega (arith, some))
    first_of_them (f ∷ rest) some = (f, rest, refl)

    -- the first to which it comes of those that keep any
    abbrev IsFirst : ℕ → ℕ → Type 0
    IsFirst at left = first_keeper (round qs at left) q.due ≡ first_keeper (from_start start qs) q.due

    none_kept : (k : ℕ) → futures_in (is_kept k) q.due ≡ [] → any (is_kept k) q.due ≡ false
    none_kept k none = (nothing (is_kept k) q.due none).none

    walks : (left at : ℕ) (w : World) → r < length w.runs → Follows w q → w.listed ≡ qs → Ahead Full qs at left → IsFirst at left
        → Way p end w (walk x qs at left ++ below) → Finds start w q
    walks zero at w known follows listed ahead whom way = absurd ahead
    walks (suc left) at w known follows listed ahead whom way =
        by (λ v known follows same more whom way. walks left (next_place qs at) v known follows same more whom way) (queue_at qs at == r)
        refl way
      where
        passed : futures_in (is_kept (queue_at qs at)) q.due ≡ [] → IsFirst (next_place qs at) left
        passed none = sym (keeps_later (queue_at qs at) (round qs (next_place qs at) left) q.due (none_kept (queue_at qs at) none)) ∙ whom

        by : ((v : World) → r < length v.runs → Follows v q → v.listed ≡ qs → Ahead Full qs (next_place qs at) left
            → IsFirst (next_place qs at) left → Way p end v (walk x qs (next_place qs at) left ++ below) → Finds start v q)
            → (b : Bool) → (queue_at qs at == r) ≡ b
            → Way p end w (elim b [
              | true ↦ walk x qs (next_place qs at) left
              | false ↦ op.Steal (steal_op.Length (record {
                poll = x;
                from = Own (queue_at qs at);
                then = then.Walk (next_place qs at) left;
              })) ∷ []
            ] ++ below)
            → Finds start w q
        by again true here way =
            again w known follows listed
            (⊎_elim
            (λ (full : Full (queue_at qs at)). absurd (omega (arith, full, ap length mine_here)))
            (λ (more : Ahead Full qs (next_place qs at) left). more) ahead) (passed mine_here) way
          where
            mine_here : futures_in (is_kept (queue_at qs at)) q.due ≡ []
            mine_here = subst (λ k. futures_in (is_kept k) q.due ≡ []) (sym (same_of (queue_at qs at) r here)) mine
        by again false apart way =
            let away = kept_away r (queue_at qs at) apart in
            let s = steals p end rests x below (Own (queue_at qs at)) away (then.Walk (next_place qs at) left) w q follows way in
            let step = next p end rests (op.Run (run_op.LookOwn x (next_place qs at) left)) s.world below refl s.way in
            from_there start s.world w q s.turn s.runs s.listed
            (looks many refl s.world (subst (λ (rs : List Run). r < length rs) (sym s.runs) known) s.follows s.most s.few
            (s.listed ∙ listed) (own_of s.world r) refl step.way)
          where
            many : ℕ
            many = share (count_by (is_kept (queue_at qs at)) q.due) (512 - count_by (is_kept r) q.due)

            some_come : (n : ℕ) → n ≡ many → Full (queue_at qs at) → 1 ≤ n
            some_come n is full =
                let free : count_by (is_kept r) q.due ≡ 0 = count_is (is_kept r) q.due ∙ ap length mine in
                subst (λ n. 1 ≤ n) (sym is)
                (share_some (count_by (is_kept (queue_at qs at)) q.due) (512 - count_by (is_kept r) q.due)
                (omega (arith, full, count_is (is_kept (queue_at qs at)) q.due)) (omega (arith, free)))

            empty : (n : ℕ) → n ≡ many → n ≡ 0 → (fs : List ℕ) → futures_in (is_kept (queue_at qs at)) q.due ≡ fs → fs ≡ []
            empty n is none [] here = refl
            empty n is none (f ∷ fs) here =
                let full : Full (queue_at qs at) = omega (arith, ap length here) in
                absurd (omega (arith, none, some_come n is full))

            looks : (n : ℕ) → n ≡ many → (v : World) → r < length v.runs
                → Follows v (with_due (repeat n (kept_due r (is_kept (queue_at qs at))) q.due) q)
                → n ≤ length (futures_in (is_kept (queue_at qs at)) q.due) → HasPlaces r n q.due → v.listed ≡ qs
                → (fs : List ℕ) → own_of v r ≡ fs
                → Way p end (look_own_by fs v x (next_place qs at) left).world ((look_own_by fs v x (next_place qs at) left).next ++ below)
                → Finds start v q
            looks zero come v known follows most few same [] is way =
                again v known follows same
                (⊎_elim
                (λ (full : Full (queue_at qs at)). absurd (omega (arith, some_come 0 come full)))
                (λ (more : Ahead Full qs (next_place qs at) left). more) ahead)
                (passed (empty 0 come refl (futures_in (is_kept (queue_at qs at)) q.due) refl))
                (subst (λ ks. Way p end v (walk x ks (next_place qs at) left ++ below)) same way)
            looks zero come v known follows most few same (f ∷ rest) is way =
                absurd (omega (arith, ap length (sym is ∙ (follows.kept r ∙ mine))))
            looks (suc n) come v known follows most few same [] is way =
                let its = first_of_them (futures_in (is_kept (queue_at qs at)) q.due) (omega (arith, most)) in
                let came =
                come_is r (queue_at qs at) apart q.due its.0 its.1 n its.2 mine (omega (arith, most, ap length its.2)) few in
                absurd (omega (arith, ap length (sym is ∙ (follows.kept r ∙ came))))
            looks (suc n) come v known follows most few same (g ∷ more) is way =
                let k = queue_at qs at in
                let its = first_of_them (futures_in (is_kept k) q.due) (omega (arith, most)) in
                let whom_so : k ≡ first_keeper (from_start start qs) q.due =
                sym (keeps_first k (round qs (next_place qs at) left) q.due (first (is_kept k) q.due its.0 its.1 its.2).some) ∙ whom in
                takes_robbed p below under end rests c x start k its.0 its.1 n g more v q known apart fit can mine (tests k) its.2
                (whom_so ∙ ap (λ order. first_keeper (from_start start order) q.due) (sym same)) come most few follows is way

  -- where neither its own queue nor the executor's have one
  robs : (start : ℕ) (w : World) (q : Plain Output Waker) → r < length w.runs → Follows w q → fits q → CanTake q r → any is_due q.due ≡ true
      → futures_in (is_kept r) q.due ≡ [] → ((m : Mark) → any (is_common m) q.due ≡ false)
      → From start p end w (op.List (list_op.LockRead x) ∷ below) → Finds start w q
  robs start w q known follows fit can some mine none way =
      let step = reads_from start p end rests x w below way in
      let k = some_kept q.due some (λ m. none_in (is_common m) q.due (none m)) in
      let its = in-list k.0 w.listed (in_list k.0 k.1 step.has.1) in
      let l : Lock = record w.lock { readers = w.lock.readers + 1 } in
      let at = step.hint.start % length w.listed in
      let full : (j : ℕ) → Type 0 = λ j. 1 ≤ length (futures_in (is_kept j) q.due) in
      let inside = mod-lt step.hint.start (omega (arith, its.within)) in
      let locked_world : World = record w { lock = l } in
      from_there start locked_world w q refl refl refl
      (walks start w.listed q fit can mine none (length w.listed) at locked_world known (locked l w q follows) refl
      (all-ahead full w.listed its.place (subst full (sym its.is) k.1) its.within at inside)
      (ap (λ order. first_keeper order q.due) (all_round w.listed at inside)
      ∙ ap (λ start. first_keeper (from_start start w.listed) q.due) step.is)
      step.way)
    where
      in_list : (k : ℕ) → 1 ≤ length (futures_in (is_kept k) q.due)
          → ((k : ℕ) → 1 ≤ length (own_of w k) → (run_view (run_of w k)).is_over ≡ false → 1 ≤ times k w.listed)
          → 1 ≤ times k w.listed
      in_list k some all = by (run_view (run_of w k)).is_over refl
        where
          by : (b : Bool) → (run_view (run_of w k)).is_over ≡ b → 1 ≤ times k w.listed
          by false going = all k (subst (λ fs. 1 ≤ length fs) (sym (follows.kept k)) some) going
          by true over =
              absurd (omega (arith, some, ap length (can.left k (over_is w.runs q.runs follows.runs k ∙ over))))

  -- a whole search, where some future is due
  pub searches : (start : ℕ) (w : World) (q : Plain Output Waker) → Follows w q → fits q → CanTake q r → any is_due q.due ≡ true
      → c.first ≡ first_of w.urgent_turns → From start p end w (op.Tick (tick_op.Search (asleep x)) ∷ below)
      → Found p below under end rests c x start (turn_behind r q.due w) w q
  searches start w q follows fit can some first_is way =
      let step = next_from start p end rests (op.Tick (tick_op.Search (asleep x))) w below refl refl way in
      by step.has (own_of w r) refl step.from
    where
      follows1 : Follows (turned p w) q
      follows1 =
          logs (record w { urgent_turns = (turned p w).urgent_turns }) q (turns (turned p w).urgent_turns w q follows)
          (event.Looked p (first_of w.urgent_turns)) refl

      second_look : r < length w.runs → futures_in (is_kept r) q.due ≡ [] → any (is_common c.first) q.due ≡ false → (fs : List ℕ)
          → (queue_of w (other c.first)).items ≡ fs
          → From start p end (search_common_by fs (turned p w) x (look.Second (other c.first))).world
          ((search_common_by fs (turned p w) x (look.Second (other c.first))).next ++ below)
          → Finds start (turned p w) q
      second_look known mine none [] is way =
          let nor = (nothing (is_common (other c.first)) q.due (sym (follows.common (other c.first)) ∙ is)).none in
          robs start (turned p w) q known follows1 fit can some mine (λ m. both_marks c.first m q.due none nor) way
      second_look known mine none (f ∷ rest) is way =
          takes_common p below under end rests c x start (other c.first) f rest (turned p w) q known follows1 fit can is
          (λ e some. ap (λ b. if b then is_kept r e else second p below under end rests c x 0 q.due e) (nothing (is_kept r) q.due mine).none
          ∙ (ap (λ b. if b then is_common c.first e else third p below under end rests c x 0 q.due e) none
          ∙ ap (λ b. if b then is_common (other c.first) e else fourth p below under end rests c x 0 q.due e) some)) way.way

      first_look : r < length w.runs → futures_in (is_kept r) q.due ≡ [] → (fs : List ℕ) → (queue_of w c.first).items ≡ fs
          → From start p end (search_common_by fs (turned p w) x (look.First c.first)).world
          ((search_common_by fs (turned p w) x (look.First c.first)).next ++ below)
          → Finds start (turned p w) q
      first_look known mine [] is way =
          let none = (nothing (is_common c.first) q.due (sym (follows.common c.first) ∙ is)).none in
          second_look known mine none (queue_of w (other c.first)).items refl
          (next_from start p end rests (op.Run (run_op.SearchCommon x (look.Second (other c.first)))) (turned p w) below refl refl
          way).from
      first_look known mine (f ∷ rest) is way =
          takes_common p below under end rests c x start c.first f rest (turned p w) q known follows1 fit can is
          (λ e some. ap (λ b. if b then is_kept r e else second p below under end rests c x 0 q.due e) (nothing (is_kept r) q.due mine).none
          ∙ ap (λ b. if b then is_common c.first e else third p below under end rests c x 0 q.due e) some) way.way

      by : r < length w.runs → (fs : List ℕ) → own_of w r ≡ fs
          → From start p end (search_own_by fs w x).world ((search_own_by fs w x).next ++ below)
          → Found p below under end rests c x start (turn_behind r q.due w) w q
      by known [] is way =
          let turn = next_from start p end rests (op.Run (run_op.TakeTurn x)) w below refl refl way in
          let look_now : From start p end (turned p w) (op.Run (run_op.SearchCommon x (look.First c.first)) ∷ below) =
          subst (λ m. From start p end (turned p w) (op.Run (run_op.SearchCommon x (look.First m)) ∷ below)) (sym first_is) turn.from in
          let mine : futures_in (is_kept r) q.due ≡ [] = sym (follows.kept r) ∙ is in
          found_from p below under end rests c x start (turned p w).urgent_turns (turn_behind r q.due w) (turned p w) w q
          (sym (ap (λ b. if b then w.urgent_turns else turn_after w.urgent_turns) (nothing (is_kept r) q.due mine).none))
          (λ k. refl) refl
          (first_look known mine (queue_of w c.first).items refl
          (next_from start p end rests (op.Run (run_op.SearchCommon x (look.First c.first))) (turned p w) below refl refl look_now).from)
      by known (f ∷ rest) is way =
          let own = takes_own r w q f rest follows is in
          found_from p below under end rests c x start w.urgent_turns (turn_behind r q.due w) w w q
          (sym (ap (λ b. if b then w.urgent_turns else turn_after w.urgent_turns) own.0.some)) (λ k. refl) refl
          (takes_its p below under end rests c x start f rest w q known follows fit can is way.way)

pub run_takes : (p : ℕ) (here : Option Waker) (below : List Op) (w : World) (q : Plain Output Waker) → is_resting below ≡ true
    → Follows w q → RunTakesAlike p here below w q
run_takes p here below w q under follows x n some can many hints has rests =
    let c : Choice =
    record { first = first_of w.urgent_turns; keeps = []; robs = 0; moves = 0; tells = n; refusal = Granted } in
    let end = alone p hints (unready p x below w) in
    let start = start_of p hints (unready p x below w) in
    let g =
    searches p below under end rests c x start w q follows many can some refl
    (record { way = record { hints = hints; has = has; is = refl }; starts = refl }) in
    let d = pick p below under end rests c x g.0 g.1 g.2 in (
      d,
      g.3,
      refl,
      refl,
      record { usual = g.4.usual; robs = g.4.robs; behind = g.4.behind },
      stops_so (ByRun x.run x.waker) (goes_on_by x g.3) below q end (plain_takes.take wakes d (ByRun x.run x.waker) q) g.4.stood,
      g.4.early,
    )
