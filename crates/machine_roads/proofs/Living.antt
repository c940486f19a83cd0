-- In each machine to which steps lead a run that was made, wasn't dropped and hasn't ended is awake or asleep: who leaves the sleepers is
-- over.
use Rattle.std.proofs.Common.{◌≡◌, ◌≢◌, ◌⊎◌, ◌∙◌, ℕ, zero, suc, ◌+◌, ◌%◌, ◌<◌, ◌≤◌, List, [], ◌∷◌, ◌++◌, length, get_or, set}
use Rattle.std.proofs.Common.{Bool, true, false, ◌||◌, eqb, refl, sym, ap, subst, ⊎_elim, inl, inr, arith}
use Rattle.std.proofs.Common.{get_or-set_same, get_or-set_other}
use Rattle.std.proofs.lemmas.List.{get_or_past, length-append}
use Rattle.std.specs.Prelude.{Option, Some, None, reverse}
use Rattle.executor_laws.proofs.Types.{Call, Event, Hint, Hold, Kind, ListOp, Look, Mark, Op, Outside, QueueOp, Reply, RunOp}
use Rattle.executor_laws.proofs.Types.{RunPoll, Section, Sleeping, SleeperOp, Step, Task, TickOp, TickOrRun, UserEnd, UserOp, Waker}
use Rattle.executor_model.specs.declared.event.Answer.{Answer}
use Rattle.executor_model.specs.{Acts.append_by, Acts.copied, Acts.is_copy_refused}
use Rattle.executor_model.specs.{Doing.act, Doing.search_by_who, Doing.tick_act}
use Rattle.executor_model.specs.{Good.Good, Rows.running_of, Weights.same, Weights.weigh, Weights.weigh_all}
use Rattle.executor_model.specs.ActsOfSleepers.{copy_sleeper_by, exchange_by, fall_asleep_by, hand_out_by, leave_sleepers_by, look_tick_by}
use Rattle.executor_model.specs.ActsOfSleepers.{make_tick_by, polled_as, sleep_again_by, sleep_anew_by, sleep_listed_by}
use Rattle.executor_model.specs.ActsOfSleepers.{wake_up_by}
use Rattle.executor_model.specs.ActsOfRuns as runs
use Rattle.executor_model.specs.Steps.{Machine, accepts, begun, drop_run, future_of, has_all, is_there, kept, lives, mine, poll_run, react}
use Rattle.executor_model.specs.Steps.{run, stack, start, top, with_future}
use Rattle.executor_model.specs.World.{Asleep, Awake, Done, Ended, Left, Listed, New, Run, Stage, Ticker, World, done, log, new_run, no_run}
use Rattle.executor_model.specs.World.{own_of, place_of, put_own, put_run, run_of, runs_with}
use Rattle.executor_model.proofs.OwnQueues.RunsAside.{coat, is_run}
use Rattle.executor_model.proofs.OwnQueues.RunsDone.{Deed, deed-act, grows, keeps, lacks, lists, shares, takes, wakes}
use Rattle.executor_model.proofs.OwnQueues.UsingSteps.{AllUsed, used-ends, used-moves, used-start}
use Rattle.executor_model.proofs.OwnQueues.UsingWorlds.{count-set, idle-coat, is_over_stage, is_past, past-set}
use Rattle.executor_model.proofs.Sleepers.SleepersAway.{SleepersSeen, away-act, away-call, away-own, is_seen_asleep, sleepers_seen}
use Rattle.executor_model.proofs.Sleepers.SleepersAway.{sleepers_seen-run}
use Rattle.executor_model.proofs.Sleepers.TickLists.{places-at}
use Rattle.executor_model.proofs.Steps.Lift.{first-true, good-start, none_refused, split, unsettled, weigh_all-idle}
use Rattle.executor_model.proofs.Steps.Lists.{same_cases, same_is, weigh_all-push}
use Rattle.executor_model.proofs.Steps.Reached.{Reached}
use Rattle.executor_model.proofs.Steps.RunsNext.{walk-unseen}
use Rattle.executor_model.proofs.Steps.Ways.{Way, along}
use Rattle.executor_model.proofs.Steps.Ways.Way.{acted, called, reacted}
use Rattle.machine_roads.proofs.Lists.{clash}
use Rattle.machine_roads.proofs.WhoLeaves.{blind, few_by, is_list, leaving_of, none_leave, none_tick}

-- it was made, and is over
abbrev IsOver : World → ℕ → Type 0
IsOver w r = (r < length w.runs) × (is_past (run_of w r) ≡ true)

-- who isn't over is awake or asleep
abbrev pub LivesOn : Run → Type 0
LivesOn x = is_past x ≡ false → lives x.place ≡ true

-- what is done keeps it, beside others who leave so often
abbrev Keeps : World → List Op → Done → Type 0
Keeps w old d =
    (r m : ℕ) → (1 ≤ weigh (leaving_of r) old + m → IsOver w r) → LivesOn (run_of w r)
    → (1 ≤ weigh (leaving_of r) d.next + m → IsOver d.world r) × LivesOn (run_of d.world r)

-- and what is done with a run is done with one that was made
record KeepsLiving (w : World) (old : List Op) (d : Done) : Type 0 where
  on : ((r : ℕ) → length w.runs ≤ r → weigh (running_of r) old ≡ 0) → Keeps w old d

-- no run comes or is over anew
record Pasts (w v : World) : Type 0 where
  past : (r : ℕ) → is_past (run_of v r) ≡ is_past (run_of w r)
  count : length v.runs ≡ length w.runs

-- who lives goes on to
abbrev Alive : World → World → Type 0
Alive w v = (r : ℕ) → lives (run_of w r).place ≡ true → lives (run_of v r).place ≡ true

calm : (w : World) (old : List Op) (d : Done) → Pasts w d.world → Alive w d.world
    → ((r : ℕ) → weigh (leaving_of r) d.next ≤ weigh (leaving_of r) old) → KeepsLiving w old d
calm w old d same_past alive few = record {
  on = λ unborn r m over living. (
    λ z.
        let it = over (omega (arith, z, few r)) in
        (omega (arith, it.0, same_past.count), same_past.past r ∙ it.1),
    λ z. alive r (living (sym (same_past.past r) ∙ z)),
  );
}

same_runs : (w v : World) → v.runs ≡ w.runs → Pasts w v
same_runs w v e = record {
  past = λ r. ap (λ (rs : List Run). is_past (get_or rs r no_run)) e;
  count = ap (λ (rs : List Run). length rs) e;
}

alive_same : (rs qs : List Run) → qs ≡ rs → (r : ℕ) → lives (get_or rs r no_run).place ≡ true → lives (get_or qs r no_run).place ≡ true
alive_same rs qs e r living = ap (λ (rs : List Run). lives (get_or rs r no_run).place) e ∙ living

-- nothing of the runs changes, and nobody leaves
still : (w : World) (old : List Op) (d : Done) → d.world.runs ≡ w.runs
    → ((r : ℕ) → weigh (leaving_of r) d.next ≤ weigh (leaving_of r) old) → KeepsLiving w old d
still w old d e few = calm w old d (same_runs w d.world e) (alive_same w.runs d.world.runs e) few

-- where all sleep and are awake as before
alive_seen : (w v : World) → sleepers_seen w ≡ sleepers_seen v → Alive w v
alive_seen w v e r living =
    ap lives
    (sym (places-at v.runs r) ∙ (ap (λ (b : SleepersSeen). get_or b.places r Left) (sym e) ∙ places-at w.runs r)) ∙ living

-- what is over

of_coat : (w v : World) → coat w ≡ coat v → Pasts w v
of_coat w v e = let i = idle-coat w v e in record { past = i.past; count = i.count }

of_deed : (w : World) (o : Op) (d : Done) → is_list o ≡ false → Deed w o d → Pasts w d.world
of_deed w o d n (keeps e l) = of_coat w d.world e
of_deed w o d n (takes q f rest i e l) = let k = of_coat (put_own w q rest) d.world e in record { past = k.past; count = k.count }
of_deed w o d n (lacks q i e l) = of_coat w d.world e
of_deed w o d n (shares s i k z e m) = of_coat w d.world e
of_deed w o d n (grows s k f e m) =
    let x = of_coat (put_own w s.poll.run (own_of w s.poll.run ++ f ∷ [])) d.world e in record { past = x.past; count = x.count }
of_deed w o d n (wakes p x e z) = of_coat w d.world e
of_deed w o d n (lists h l) = absurd cc

-- who is awake or asleep

put_lives : (rs : List Run) (q r : ℕ) (y : Run) → lives y.place ≡ true → lives (get_or rs r no_run).place ≡ true
    → lives (get_or (set rs q y) r no_run).place ≡ true
put_lives [] q r y now living = living
put_lives (x ∷ rs) zero zero y now living = now
put_lives (x ∷ rs) zero (suc r) y now living = living
put_lives (x ∷ rs) (suc q) zero y now living = living
put_lives (x ∷ rs) (suc q) (suc r) y now living = put_lives rs q r y now living

placed : (rs : List Run) (who : TickOrRun) (x : Ticker) → lives x ≡ true → (r : ℕ) → lives (get_or rs r no_run).place ≡ true
    → lives (get_or (runs_with rs who x) r no_run).place ≡ true
placed rs (TickOrRun.Tick t) x now r living = living
placed rs (TickOrRun.Run q) x now r living = put_lives rs q r _ now living

alive_sleep : (x : Ticker) (w : World) (s : Sleeping) → Alive w (fall_asleep_by x w s).world
alive_sleep Awake w s = by _
  where
    by : (b : Bool) → Alive w (sleep_anew_by b w s).world
    by true = placed w.runs s.who _ refl
    by false = alive_same w.runs w.runs refl
alive_sleep (Asleep n) w s = by _
  where
    listed-by : (b : Bool) → Alive w (sleep_listed_by b w n s).world
    listed-by true = alive_same w.runs w.runs refl
    listed-by false = alive_same w.runs w.runs refl

    by : (o : Option ℕ) → Alive w (sleep_again_by o w n s).world
    by None = listed-by _
    by (Some at) = alive_same w.runs w.runs refl
alive_sleep Left w s = alive_same w.runs w.runs refl

alive_up : (x : Ticker) (w : World) (t : TickOrRun) → Alive w (wake_up_by x w t).world
alive_up Awake w t = alive_same w.runs w.runs refl
alive_up (Asleep n) w t = placed w.runs t Awake refl
alive_up Left w t = alive_same w.runs w.runs refl

alive_look : (look : Look) (x : Ticker) (q : List ℕ) (w : World) (s : Sleeping) → Alive w (look_tick_by x w look q s).world
alive_look look x [] w s = alive_same w.runs w.runs refl
alive_look look x (f ∷ rest) w s = alive_same w.runs w.runs refl

alive_search : (who : TickOrRun) (p : ℕ) (w : World) (s : Sleeping) → Alive w (search_by_who who p w s).world
alive_search (TickOrRun.Tick t) p w s = alive_same w.runs w.runs refl
alive_search (TickOrRun.Run q) p w s =
    let x : RunPoll = record { run = q; waker = s.waker; poll = s.poll } in
    alive_seen w (runs.search_own w x).world (away-own (own_of w q) w x).sleepers_seen

alive_make : (b : Bool) (w : World) → Alive w (make_tick_by b w).world
alive_make true w = alive_same w.runs w.runs refl
alive_make false w = alive_same w.runs w.runs refl

alive_copied : (a : Waker) (w : World) → Alive w (copied w a)
alive_copied (Task g) w = alive_same w.runs w.runs refl
alive_copied (Outside x) w = alive_same w.runs w.runs refl

alive_copy : (b : Bool) (w : World) (s : Sleeping) → Alive w (copy_sleeper_by b w s).world
alive_copy true w s = alive_same w.runs w.runs refl
alive_copy false w s = alive_copied s.waker w

-- it leaves, and is over
leaves : (w : World) (who : TickOrRun) (d : Done) → d.world.runs ≡ runs_with w.runs who Left → Pasts w d.world
    → ((r : ℕ) → weigh (leaving_of r) d.next ≡ 0) → KeepsLiving w (Op.Tick (TickOp.Leave who) ∷ []) d
leaves w (TickOrRun.Tick t) d e pasts none = still w _ d e (λ r. omega (arith, none r))
leaves w (TickOrRun.Run q) d e pasts none = record {
  on = λ unborn r m over living. (
    λ z. let it = over (omega (arith, z, none r)) in (omega (arith, it.0, pasts.count), pasts.past r ∙ it.1),
    λ z. ⊎_elim
        (λ (y : (same r q ≡ 1) × (eqb r q ≡ true) × (r ≡ q)).
        absurd (clash (sym (pasts.past r) ∙ z) (over (omega (arith, y.0))).1))
        (λ (y : (same r q ≡ 0) × (eqb r q ≡ false) × (r ≢ q)).
        ap (λ (rs : List Run). lives (get_or rs r no_run).place) e
        ∙ (ap (λ (x : Run). lives x.place) (get_or-set_other w.runs q r _ no_run y.2)
        ∙ living (sym (pasts.past r) ∙ z)))
        (same_cases r q),
  );
}

module _ (p : ℕ) (h : Hint) (w : World) where
  pasts_tick : (o : TickOp) → Pasts w (tick_act p h o w).world
  pasts_tick o = of_deed w (Op.Tick o) (tick_act p h o w) refl (deed-act p h (Op.Tick o) w)

  calm_tick : (o : TickOp) → Alive w (tick_act p h o w).world → KeepsLiving w (Op.Tick o ∷ []) (tick_act p h o w)
  calm_tick o alive = calm w _ _ (pasts_tick o) alive (λ r. omega (arith, none_tick r p h o w))

  keeps_tick : (o : TickOp) → KeepsLiving w (Op.Tick o ∷ []) (tick_act p h o w)
  keeps_tick TickOp.MakeTick = calm_tick TickOp.MakeTick (alive_make h.refused w)
  keeps_tick (TickOp.Search s) = calm_tick (TickOp.Search s) (alive_search s.who p w s)
  keeps_tick (TickOp.Look s look) = calm_tick (TickOp.Look s look) (alive_look look _ _ w s)
  keeps_tick (TickOp.CopyWaker s) = calm_tick (TickOp.CopyWaker s) (alive_copy (is_copy_refused h w s.waker) w s)
  keeps_tick (TickOp.FallAsleep s) = calm_tick (TickOp.FallAsleep s) (alive_sleep _ w s)
  keeps_tick (TickOp.WakeUp t) = calm_tick (TickOp.WakeUp t) (alive_up _ w t)
  keeps_tick (TickOp.Leave t) = by (place_of w t) refl
    where
      by : (x : Ticker) → place_of w t ≡ x → KeepsLiving w (Op.Tick (TickOp.Leave t) ∷ []) (leave_sleepers_by x w t)
      by x is = off x (subst (λ x. Pasts w (leave_sleepers_by x w t).world) is (pasts_tick (TickOp.Leave t)))
        where
          off : (x : Ticker) → Pasts w (leave_sleepers_by x w t).world
              → KeepsLiving w (Op.Tick (TickOp.Leave t) ∷ []) (leave_sleepers_by x w t)
          off Awake pasts = leaves w t _ refl pasts (λ r. none_leave r Awake w t)
          off (Asleep n) pasts = leaves w t _ refl pasts (λ r. none_leave r (Asleep n) w t)
          off Left pasts = still w _ _ refl (λ r. omega (arith, none_leave r Left w t))

-- the list of queues

push_same : (rs : List Run) (r : ℕ) → r < length rs → get_or (rs ++ new_run ∷ []) r no_run ≡ get_or rs r no_run
push_same [] r l = absurd (omega (arith, l))
push_same (x ∷ rs) zero l = refl
push_same (x ∷ rs) (suc r) l = push_same rs r (omega (arith, l))

push_lives : (rs : List Run) (r : ℕ) → LivesOn (get_or rs r no_run) → LivesOn (get_or (rs ++ new_run ∷ []) r no_run)
push_lives [] zero living = λ z. refl
push_lives [] (suc r) living = λ z. absurd cc
push_lives (x ∷ rs) zero living = living
push_lives (x ∷ rs) (suc r) living = push_lives rs r living

makes : (b : Bool) (w : World) → KeepsLiving w (Op.List (ListOp.Write Section.MakeRun) ∷ []) (runs.make_run_by b w)
makes true w = still w _ _ refl (λ r. omega arith)
makes false w = record {
  on = λ unborn r m over living. (
    λ z.
        let it = over z in (
          omega (arith, it.0, length-append w.runs (new_run ∷ [])),
          ap is_past (push_same w.runs r it.0) ∙ it.1,
        ),
    push_lives w.runs r living,
  );
}

registers : (t : Stage) (w : World) (x : RunPoll) → (run_of w x.run).stage ≡ t
    → KeepsLiving w (Op.List (ListOp.Write (Section.Register x)) ∷ [])
    (done (runs.registered t w x.run) (Op.List ListOp.UnlockWrite ∷ Op.User (UserOp.PollOwn x) ∷ []))
registers New w x is =
    let y : Run = record (run_of w x.run) { stage = Listed } in
    calm w _ _
    (record {
      past = past-set w.runs x.run y (ap (λ t. (run_of w x.run).dropped || is_over_stage t) (sym is));
      count = count-set w.runs x.run y;
    })
    (alive_seen w (put_run w x.run y) (sleepers_seen-run w x.run y refl)) (λ r. omega arith)
registers Listed w x is = still w _ _ refl (λ r. omega arith)
registers Ended w x is = still w _ _ refl (λ r. omega arith)

same_self : (g : ℕ) → same g g ≡ 1
same_self g = grind (arith, same_is)

below_of : (n m : ℕ) → (m ≤ n → ⊥) → n < m
below_of n m never = by (or_past n m)
  where
    or_past : (x y : ℕ) → (x < y) ⊎ (y ≤ x)
    or_past x y = grind arith

    by : (n < m) ⊎ (m ≤ n) → n < m
    by (inl is) = is
    by (inr is) = absurd (never is)

over_past : (b : Bool) → (b || true) ≡ true
over_past true = refl
over_past false = refl

-- it was made, and comes to be over; the others stay
comes_over : (w v : World) (old next : List Op) (q : ℕ) (y : Run) → v.runs ≡ set w.runs q y → is_past y ≡ true → q < length w.runs
    → ((r : ℕ) → weigh (leaving_of r) next ≤ same r q) → Keeps w old (done v next)
comes_over w v old next q y e past made few r m over living =
    ⊎_elim
    (λ (k : (same r q ≡ 1) × (eqb r q ≡ true) × (r ≡ q)).
    let now : is_past (run_of v r) ≡ true =
    ap (λ (rs : List Run). is_past (get_or rs r no_run)) e
    ∙ (ap (λ n. is_past (get_or (set w.runs q y) n no_run)) k.2
    ∙ (ap is_past (get_or-set_same w.runs q y no_run made) ∙ past)) in (
      λ z. (omega (arith, made, k.2, ap (λ (rs : List Run). length rs) e, count-set w.runs q y), now),
      λ z. absurd (clash z now),
    ))
    (λ (k : (same r q ≡ 0) × (eqb r q ≡ false) × (r ≢ q)).
    let stays : run_of v r ≡ run_of w r =
    ap (λ (rs : List Run). get_or rs r no_run) e ∙ get_or-set_other w.runs q r y no_run k.2 in (
      λ z.
          let it = over (omega (arith, z, few r, k.0)) in (
            omega (arith, it.0, ap (λ (rs : List Run). length rs) e, count-set w.runs q y),
            ap is_past stays ∙ it.1,
          ),
      subst LivesOn (sym stays) living,
    ))
    (same_cases r q)

ends_run : (w : World) (q : ℕ) (a : Reply) → KeepsLiving w (Op.List (ListOp.Write (Section.Unregister q a)) ∷ [])
    (done (runs.unregistered w q) (Op.List ListOp.UnlockWrite ∷ Op.Run (RunOp.Reschedule q a) ∷ []))
ends_run w q a = record {
  on = λ unborn.
      comes_over w (runs.unregistered w q) (Op.List (ListOp.Write (Section.Unregister q a)) ∷ [])
      (Op.List ListOp.UnlockWrite ∷ Op.Run (RunOp.Reschedule q a) ∷ []) q (record (run_of w q) { stage = Ended }) refl
      (over_past (run_of w q).dropped)
      (below_of q (length w.runs) (λ past. omega (arith, unborn q past, same_self q)))
      (λ r. omega arith);
}

keeps_list : (p : ℕ) (h : Hint) (o : ListOp) (w : World) → KeepsLiving w (Op.List o ∷ []) (act p h (Op.List o) w)
keeps_list p h (ListOp.LockWrite s) w = still w _ _ refl (λ r. omega arith)
keeps_list p h (ListOp.Write Section.MakeRun) w = makes h.refused w
keeps_list p h (ListOp.Write (Section.Register x)) w = registers (run_of w x.run).stage w x refl
keeps_list p h (ListOp.Write (Section.Unregister q a)) w = ends_run w q a
keeps_list p h ListOp.UnlockWrite w = still w _ _ refl (λ r. omega arith)
keeps_list p h ListOp.UnlockRead w = still w _ _ refl (λ r. omega arith)
keeps_list p h (ListOp.LockRead x) w =
    still w _ _ refl (λ r. omega (arith, walk-unseen (leaving_of r) (blind r) x w.listed (h.start % length w.listed) (length w.listed)))

-- one thing that is done

keeps_by : (b : Bool) (p : ℕ) (h : Hint) (o : Op) (w : World) → is_seen_asleep o ≡ b → is_list o ≡ false
    → KeepsLiving w (o ∷ []) (act p h o w)
keeps_by false p h o w e n =
    calm w (o ∷ []) (act p h o w) (of_deed w o (act p h o w) n (deed-act p h o w))
    (alive_seen w (act p h o w).world (away-act p h o w e).sleepers_seen) (λ r. few_by r (is_run o) p h o w refl n)
keeps_by true p h (Op.Queue (QueueOp.Append f)) w e n = by _ _
  where
    by : (b : Bool) (m : Mark) → KeepsLiving w (Op.Queue (QueueOp.Append f) ∷ []) (append_by b w m f)
    by true m = still w _ _ refl (λ r. omega arith)
    by false m = still w _ _ refl (λ r. omega arith)
keeps_by true p h (Op.Sleeper SleeperOp.ExchangeFlag) w e n = by _
  where
    by : (b : Bool) → KeepsLiving w (Op.Sleeper SleeperOp.ExchangeFlag ∷ []) (exchange_by b w)
    by true = still w _ _ refl (λ r. omega arith)
    by false = still w _ _ refl (λ r. omega arith)
keeps_by true p h (Op.Sleeper SleeperOp.HandOut) w e n = by _ _
  where
    by : (b : Bool) (o : Option Sleeping) → KeepsLiving w (Op.Sleeper SleeperOp.HandOut ∷ []) (hand_out_by b o w)
    by true None = still w _ _ refl (λ r. omega arith)
    by true (Some s) = still w _ _ refl (λ r. omega arith)
    by false o = still w _ _ refl (λ r. omega arith)
keeps_by true p h (Op.Sleeper (SleeperOp.CallSleeper s)) w e n =
    let o = Op.Sleeper (SleeperOp.CallSleeper s) in
    calm w (o ∷ []) (act p h o w) (of_deed w o (act p h o w) refl (deed-act p h o w))
    (alive_seen w (act p h o w).world (away-call p w (polled_as s.who) s.waker s.poll).sleepers_seen)
    (λ r. few_by r false p h o w refl refl)
keeps_by true p h (Op.Tick o) w e n = keeps_tick p h w o
keeps_by true p h (Op.List o) w e n = absurd cc
keeps_by true p h (Op.Run RunOp.MakeRoom) w e n = by h.refused
  where
    by : (b : Bool) → KeepsLiving w (Op.Run RunOp.MakeRoom ∷ []) (runs.make_room_by b w)
    by true = still w _ _ refl (λ r. omega arith)
    by false = still w _ _ refl (λ r. omega arith)
keeps_by true p h (Op.Run RunOp.ReturnRoom) w e n = still w _ _ refl (λ r. omega arith)
keeps_by true p h _ w e n = absurd cc

keeps_act : (p : ℕ) (h : Hint) (o : Op) (w : World) → KeepsLiving w (o ∷ []) (act p h o w)
keeps_act p h o w = by (is_list o) refl
  where
    listed : (x : Op) → is_list x ≡ true → KeepsLiving w (x ∷ []) (act p h x w)
    listed (Op.List x) e = keeps_list p h x w
    listed _ e = absurd cc

    by : (b : Bool) → is_list o ≡ b → KeepsLiving w (o ∷ []) (act p h o w)
    by true e = listed o e
    by false e = keeps_by (is_seen_asleep o) p h o w refl e

-- user code ends
keeps_react : (p : ℕ) (o : Op) (u : UserEnd) (w : World) → accepts o u ≡ true → KeepsLiving w (o ∷ []) (react p o u w)
keeps_react p (Op.User (UserOp.Poll f)) (UserEnd.Polled Answer.Pending) w a = still w _ _ refl (λ r. omega arith)
keeps_react p (Op.User (UserOp.Poll f)) (UserEnd.Polled Answer.Ready) w a = still w _ _ refl (λ r. omega arith)
keeps_react p (Op.User (UserOp.Drop f)) UserEnd.Done w a = still w _ _ refl (λ r. omega arith)
keeps_react p (Op.User (UserOp.DropOutput f)) UserEnd.Done w a = still w _ _ refl (λ r. omega arith)
keeps_react p (Op.User (UserOp.CallOutside x)) UserEnd.Done w a = still w _ _ refl (λ r. omega arith)
keeps_react p (Op.User (UserOp.PollOwn x)) (UserEnd.Polled Answer.Pending) w a = still w _ _ refl (λ r. omega arith)
keeps_react p (Op.User (UserOp.PollOwn x)) (UserEnd.Polled Answer.Ready) w a = still w _ _ refl (λ r. omega arith)
keeps_react p (Op.User (UserOp.DropOwn q)) UserEnd.Done w a = still w _ _ refl (λ r. omega arith)
keeps_react p _ _ w a = absurd cc

-- a call begins

keeps_with : (w v : World) (x : Option ℕ) (d : ℕ → Done) → v.runs ≡ w.runs → ((f : ℕ) → KeepsLiving w [] (d f))
    → KeepsLiving w [] (with_future v x d)
keeps_with w v None d e each = still w [] (done v []) e (λ r. omega arith)
keeps_with w v (Some f) d e each = each f

keeps_poll : (w v : World) (t : Stage) (x : RunPoll) → v.runs ≡ w.runs → KeepsLiving w [] (done v (poll_run t x))
keeps_poll w v New x e = still w _ _ e (λ r. omega arith)
keeps_poll w v Listed x e = still w _ _ e (λ r. omega arith)
keeps_poll w v Ended x e = still w _ _ e (λ r. omega arith)

few_drop : (t : Stage) (q r : ℕ) → weigh (leaving_of r) (drop_run t q) ≤ same r q
few_drop New q r = omega arith
few_drop Listed q r = omega arith
few_drop Ended q r = omega arith

there_made : (w : World) (q : ℕ) → is_there (run_of w q) ≡ true → q < length w.runs
there_made w q is =
    below_of q (length w.runs) (λ past. clash (ap is_there (get_or_past w.runs q no_run past)) is)

keeps_begun : (p : ℕ) (w : World) (ss : List (List Op)) (o : Option Op) (here : Option Waker) (c : Call) → has_all w ss o c ≡ true
    → KeepsLiving w [] (begun p (log w (Event.CallBegun p c)) here c)
keeps_begun p w ss o here (Call.Wake k) has = keeps_with w _ (kept w k) _ refl (λ f. still w _ _ refl (λ r. omega arith))
keeps_begun p w ss o here (Call.WakeByRef k) has = keeps_with w _ (kept w k) _ refl (λ f. still w _ _ refl (λ r. omega arith))
keeps_begun p w ss o here (Call.Copy k) has = keeps_with w _ (kept w k) _ refl (λ f. still w _ _ refl (λ r. omega arith))
keeps_begun p w ss o here (Call.DropWaker k) has = keeps_with w _ (kept w k) _ refl (λ f. still w _ _ refl (λ r. omega arith))
keeps_begun p w ss o here Call.Keep has = keeps_with w _ (future_of here) _ refl (λ f. still w _ _ refl (λ r. omega arith))
keeps_begun p w ss o here Call.WakeSelf has = keeps_with w _ (future_of here) _ refl (λ f. still w _ _ refl (λ r. omega arith))
keeps_begun p w ss o here (Call.PollRun q b) has = keeps_poll w _ _ _ refl
keeps_begun p w ss o here (Call.DropRun q) has = record {
  on = λ unborn.
      comes_over w (begun p (log w (Event.CallBegun p (Call.DropRun q))) here (Call.DropRun q)).world []
      (drop_run (run_of w q).stage q) q (record (run_of w q) { dropped = true }) refl refl
      (there_made w q (first-true _ _ has)) (few_drop (run_of w q).stage q);
}
keeps_begun p w ss o here _ has = still w _ _ refl (λ r. omega arith)

-- every step

pub record Living (s : Machine) : Type 0 where
  used : AllUsed s
  over : (r : ℕ) → 1 ≤ weigh_all (leaving_of r) s.parties → IsOver s.world r
  pub lives : (r : ℕ) → LivesOn (run_of s.world r)

keeps_way : (s : Machine) (p : ℕ) (old rest : List Op) (d : Done) → Way s p old rest d → KeepsLiving s.world old d
keeps_way s p old rest d (acted h o q z) = rw (z, q) (keeps_act p h o s.world)
keeps_way s p old rest d (reacted o u a q z) = rw (z, q) (keeps_react p o u s.world a)
keeps_way s p old rest d (called c q r n z) =
    rw (z, q)
    (keeps_begun p s.world s.parties (top (stack s p)) (mine (top (stack s p))) c (none_refused s.world s.parties (top (stack s p)) c n).1)

living_on : (s : Machine) (p : ℕ) (old rest : List Op) (d : Done) → p < length s.parties → stack s p ≡ rest ++ reverse old
    → AllUsed (unsettled s p rest d) → KeepsLiving s.world old d → Living s → Living (unsettled s p rest d)
living_on s p old rest d l e u k h = record {
  used = u;
  over = λ r z. (on r).0 (omega (arith, z, weigh_all-push (leaving_of r) s.parties p rest d.next l));
  lives = λ r. (on r).1;
}
  where
    on : (r : ℕ) → (1 ≤ weigh (leaving_of r) d.next + weigh_all (leaving_of r) (set s.parties p rest) → IsOver d.world r)
        × LivesOn (run_of d.world r)
    on r =
        k.on (λ q past. omega (arith, (h.used q).unborn past, split (running_of q) s.parties p old rest l e)) r
        (weigh_all (leaving_of r) (set s.parties p rest))
        (λ z. h.over r (omega (arith, z, split (leaving_of r) s.parties p old rest l e))) (h.lives r)

moves : (s : Machine) (p : ℕ) (old rest : List Op) (d : Done) → Good s → p < length s.parties → stack s p ≡ rest ++ reverse old
    → Way s p old rest d → Living s → Living (unsettled s p rest d)
moves s p old rest d good l e way k =
    living_on s p old rest d l e (used-moves s p old rest d good l e way k.used) (keeps_way s p old rest d way) k

ends : (s : Machine) (p : ℕ) (a : Reply) (held : Hold) (below : List Op) → p < length s.parties
    → stack s p ≡ below ++ reverse (Op.End a held ∷ []) → Living s
    → Living (unsettled s p below (done (log s.world (Event.CallEnded p a)) []))
ends s p a held below l e k =
    living_on s p (Op.End a held ∷ []) below (done (log s.world (Event.CallEnded p a)) []) l e (used-ends s p a held below l e k.used)
    (still s.world (Op.End a held ∷ []) (done (log s.world (Event.CallEnded p a)) []) refl (λ r. omega arith)) k

living_start : (limit : ℕ) (kind : Kind) (n : ℕ) → Living (start limit kind n)
living_start limit kind n = record {
  used = used-start limit kind n;
  over = λ r z. absurd (omega (arith, z, weigh_all-idle (leaving_of r) n));
  lives = λ r z. absurd cc;
}

living : (limit : ℕ) (kind : Kind) (n : ℕ) (ts : List Step) → Living (run ts (start limit kind n))
living limit kind n ts = along Living moves ends ts (start limit kind n) (good-start limit kind n) (living_start limit kind n)

pub living_here : (s : Machine) → Reached s → Living s
living_here s reached = subst Living (sym reached.is) (living reached.limit reached.kind reached.parties reached.steps)
