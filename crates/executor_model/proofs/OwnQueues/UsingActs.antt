-- For own_queues_agree and awaiters_are_kept.
-- Each thing that is done keeps it that a run is in one call at most, and that its own queue is emptied.
use Rattle.std.proofs.Common.{◌≡◌, ◌≢◌, ℕ, zero, suc, eqb, ◌+◌, ◌≤◌, List, [], ◌∷◌, ◌++◌, length, set, get_or, Bool, true}
use Rattle.std.proofs.Common.{false, ◌||◌, ltb, refl, sym, ap, ◌∙◌, subst, inl, inr, ⊎_elim, arith, get_or-set_other}
use Rattle.std.{proofs.lemmas.List.length-append, specs.Prelude.Option, specs.Prelude.Some, specs.Prelude.None}
use Rattle.executor_parts.{specs.Marks.first_of, specs.Sleepers.waker_at}
use Rattle.executor_model.proofs.Types.{Look, First, Second, Reply, Event, Hold, ListOp, Op, Polled, RunOp, RunPoll, Section}
use Rattle.executor_model.proofs.Types.{TickOrRun, SleeperOp, Sleeping, Steal, StealOp, TickOp, UserOp, Waker, Task, Outside}
use Rattle.executor_model.specs.ActsOfSleepers.{copy_sleeper_by, held_as, sleep_again_by, sleep_anew_by, fall_asleep_by}
use Rattle.executor_model.specs.ActsOfRuns.{call_by_reference, free_places, kept_by, make_room_by, make_run_by, registered}
use Rattle.executor_model.specs.World.{World, Ticker, Awake, Asleep, Left, Run, Stage, New, Listed, Ended, done, no_run}
use Rattle.executor_model.specs.ActsOfSleepers.{sleep_listed_by, pend_as, look_tick_by, sleeper_goes}
use Rattle.executor_model.specs.ActsOfRuns.{reschedule_by, search_own, steal_by, steal_put_by, unregistered, wake_own}
use Rattle.executor_model.specs.{Acts.copy_by, Doing.act, Doing.list_act, Doing.run_act, Doing.search_by_who, Doing.steal_act}
use Rattle.executor_model.specs.{Rows.borrowing_of, Rows.running_of, Weights.same, Weights.weigh, Weights.holds_run}
use Rattle.executor_model.specs.{Weights.is_run, World.new_run, World.log, World.own_of, World.run_of, World.task}
use Rattle.executor_model.proofs.OwnQueues.UsingRuns.{part-common, part-look, part-own, part-steal, part-walk, Lessens}
use Rattle.executor_model.proofs.OwnQueues.Using.{Mild, emptying_of, is_for_runs, lending_of, mild-aside, mild-lending}
use Rattle.executor_model.proofs.OwnQueues.UsingWorlds.{Idle, count-set, idle, idle-act, idle-copy, idle-copy_sleeper}
use Rattle.executor_model.proofs.OwnQueues.UsingKeeps.{KeepsUsed, Within, used-here, used-idle, used-stays, within-act}
use Rattle.executor_model.proofs.OwnQueues.UsingRuns.{lessens-act, first-taken, idle-more, idle-refused}
use Rattle.executor_model.proofs.OwnQueues.Using.{mild-none, mild-polling, mild-running, polling_of}
use Rattle.executor_model.proofs.OwnQueues.UsingWorlds.{idle-search, idle-sleep, is_over_stage, is_past, past-set}
use Rattle.executor_model.proofs.{Types.WakerOp, Types.Hint, Types.Move, Steps.Asides.aside-owed, Steps.Lists.same_cases}
use Rattle.executor_model.proofs.{Steps.Lists.weigh-append, Steps.SleepersNext.goes-unseen, OwnQueues.RunsDone.poll_in}
use Rattle.executor_model.proofs.{Steps.Lift.no_hint, OwnQueues.UsingKeeps.within-part}
use Rattle.task_moves.specs.Moves as moves

-- stealing

running-steal : (r : ℕ) (o : StealOp) → running_of r (Op.Steal o) ≡ same r (poll_in o).run
running-steal r (StealOp.Length s) = refl
running-steal r _ = refl

polling-steal : (r : ℕ) (o : StealOp) → polling_of r (Op.Steal o) ≡ same r (poll_in o).run
polling-steal r (StealOp.Length s) = refl
polling-steal r _ = refl

within-steal : (r p : ℕ) (o : StealOp) (w : World) → Within r (Op.Steal o ∷ []) (steal_act p o w).next
within-steal r p o w = within-part r (poll_in o) (Op.Steal o) (steal_act p o w).next (running-steal r o)
    (polling-steal r o) refl (λ v n m c. part-steal v m n p o w c)

-- what comes into the own queue of a run comes there in its poll
used-put : (b : Bool) (p : ℕ) (w : World) (s : Steal) (more f : ℕ) → ltb 0 (free_places w s.poll.run) ≡ b →
    KeepsUsed w (Op.Steal (StealOp.Put s more f) ∷ []) (steal_put_by b p w s more f)
used-put true p w s more f e = λ r x a b h.
    (let q : ℕ = s.poll.run in
    let v : World = kept_by p w q f in
    let i : Idle v (steal_by more v s).world = idle-more more v s in
    let k : Within r (Op.Steal (StealOp.Put s more f) ∷ []) (steal_by more v s).next =
    subst (λ (c : Bool). Within r (Op.Steal (StealOp.Put s more f) ∷ []) (steal_put_by c p w s more f).next) e
    (within-steal r p (StealOp.Put s more f) w) in
    used-here w (Op.Steal (StealOp.Put s more f) ∷ []) (steal_by more v s) r x (i.past r)
    (omega (arith, i.count)) i.gone
    (⊎_elim
    (λ (y : (same r q ≡ 1) × (eqb r q ≡ true) × (r ≡ q)). inr (omega (arith, y.0)))
    (λ (y : (same r q ≡ 0) × (eqb r q ≡ false) × (r ≢ q)).
    inl (λ z. ap (λ (qs : List (List ℕ)). get_or qs r []) i.own
    ∙ (get_or-set_other w.own q r (own_of w q ++ f ∷ []) [] y.2 ∙ z)))
    (same_cases r q)) k h)
used-put false p w s more f e =
    used-idle w (Op.Steal (StealOp.Put s more f) ∷ []) (steal_put_by false p w s more f) (idle-refused s.then w s.poll f)
    (λ r. subst (λ (c : Bool). Within r (Op.Steal (StealOp.Put s more f) ∷ []) (steal_put_by c p w s more f).next) e
    (within-steal r p (StealOp.Put s more f) w))

used-steal : (p : ℕ) (o : StealOp) (w : World) → KeepsUsed w (Op.Steal o ∷ []) (steal_act p o w)
used-steal p (StealOp.Put s more f) w = used-put _ p w s more f refl
used-steal p o w =
    used-stays w (Op.Steal o ∷ []) (steal_act p o w) (lessens-act p no_hint (Op.Steal o) w refl)
    (λ r. within-steal r p o w)

-- searching

held-uses : (r : ℕ) (who : TickOrRun) → holds_run r (held_as who) ≡ is_run r who
held-uses r (TickOrRun.Tick t) = refl
held-uses r (TickOrRun.Run q) = refl

within-found : (look : Look) (r : ℕ) (x : Ticker) (w : World) (q : List ℕ) (s : Sleeping) →
    Within r (Op.Tick (TickOp.Look s look) ∷ []) (look_tick_by x w look q s).next
within-found (First mark) r x w [] s = record { uses = omega arith; polls = omega arith; empties = omega arith; lends = refl }
within-found (Second mark) r x w [] s = record { uses = omega arith; polls = omega arith; empties = omega arith; lends = refl }
within-found look r Awake w (f ∷ rest) s = let z = held-uses r s.who in
    record { uses = omega (arith, z); polls = omega arith; empties = omega arith; lends = refl }
within-found look r (Asleep n) w (f ∷ rest) s = let z = held-uses r s.who in
    record { uses = omega (arith, z); polls = omega arith; empties = omega arith; lends = refl }
within-found look r Left w (f ∷ rest) s = let z = held-uses r s.who in
    record { uses = omega (arith, z); polls = omega arith; empties = omega arith; lends = refl }

used-search : (who : TickOrRun) (p : ℕ) (w : World) (s : Sleeping) → s.who ≡ who →
    Lessens w (search_by_who who p w s).world →
    KeepsUsed w (Op.Tick (TickOp.Search s) ∷ []) (search_by_who who p w s)
used-search (TickOrRun.Tick t) p w s e k =
    used-stays w (Op.Tick (TickOp.Search s) ∷ []) (search_by_who (TickOrRun.Tick t) p w s) k
    (λ r. record { uses = omega arith; polls = omega arith; empties = omega arith; lends = refl })
used-search (TickOrRun.Run q) p w s e k =
    let x : RunPoll = record { run = q; waker = s.waker; poll = s.poll } in
    used-stays w (Op.Tick (TickOp.Search s) ∷ []) (search_own w x) k
    (λ r. within-part r x (Op.Tick (TickOp.Search s)) (search_own w x).next (ap (is_run r) e) (ap (is_run r) e) refl
    (λ v n m c. part-own v m x n c _ w))

-- falling asleep

within-copy : (r : ℕ) (b : Bool) (w : World) (s : Sleeping) →
    Within r (Op.Tick (TickOp.CopyWaker s) ∷ []) (copy_sleeper_by b w s).next
within-copy r true w s = let z = held-uses r s.who in
    record { uses = omega (arith, z); polls = omega arith; empties = omega arith; lends = refl }
within-copy r false w s = record { uses = omega arith; polls = omega arith; empties = omega arith; lends = refl }

-- by a count of at most n for a search and for the poll's end
module _ (v : Op → ℕ) (m : Mild v) (n : ℕ) (s : Sleeping) (search : v (Op.Tick (TickOp.Search s)) ≤ n)
    (end : v (Op.End Reply.Pending (held_as s.who)) ≤ n) where
  sleep-nowhere : weigh v (Op.Sleeper (SleeperOp.CallSleeper s) ∷ pend_as s.who) ≤ n
  sleep-nowhere = omega (arith, mild-none v m (Op.Sleeper (SleeperOp.CallSleeper s)) refl, end)

  sleep-anew : (b : Bool) (w : World) → weigh v (sleep_anew_by b w s).next ≤ n
  sleep-anew true w = omega (arith, search)
  sleep-anew false w = sleep-nowhere

  sleep-listed : (b : Bool) (w : World) (k : ℕ) → weigh v (sleep_listed_by b w k s).next ≤ n
  sleep-listed true w k = omega (arith, search)
  sleep-listed false w k = sleep-nowhere

  sleep-again : (o : Option ℕ) (w : World) (k : ℕ) → weigh v (sleep_again_by o w k s).next ≤ n
  sleep-again None w k = sleep-listed _ w k
  sleep-again (Some at) w k = let old = waker_at (Some at) w.sleepers.wakers in
      omega (
        arith,
        weigh-append v (sleeper_goes old) (pend_as s.who),
        goes-unseen v (λ f. mild-none v m (Op.Move Move.Release f) refl) old,
        end,
      )

  sleep-few : (x : Ticker) (w : World) → weigh v (fall_asleep_by x w s).next ≤ n
  sleep-few Awake w = sleep-anew _ w
  sleep-few (Asleep k) w = sleep-again _ w k
  sleep-few Left w = sleep-nowhere

within-sleep : (r : ℕ) (x : Ticker) (w : World) (s : Sleeping) →
    Within r (Op.Tick (TickOp.FallAsleep s) ∷ []) (fall_asleep_by x w s).next
within-sleep r x w s = record {
  uses =
      omega (
        arith,
        sleep-few (running_of r) (mild-running r) (is_run r s.who) s (omega arith) (omega (arith, held-uses r s.who)) x w,
      );
  polls = omega (arith, sleep-few (polling_of r) (mild-polling r) (is_run r s.who) s (omega arith) (omega arith) x w);
  empties = omega arith;
  lends = omega (arith, sleep-few (lending_of r) (mild-lending r) 0 s (omega arith) (omega arith) x w);
}

-- a waker is copied for a call that uses no run

used-copy : (b : Bool) (w : World) (f : ℕ) (held : Hold) →
    KeepsUsed w (Op.Waker (WakerOp.CopyWaker f held) ∷ []) (copy_by b w f held)
used-copy b w f held r x c d h =
    let i : Idle w (copy_by b w f held).world = idle-copy b w f held in
    let z : holds_run r held ≡ 0 = omega (arith, h.unlent) in
    used-here w (Op.Waker (WakerOp.CopyWaker f held) ∷ []) (copy_by b w f held) r x (i.past r) (omega (arith, i.count))
    i.gone (inl (λ e. ap (λ (qs : List (List ℕ)). get_or qs r []) i.own ∙ e)) (within b z) h
  where
    within : (b : Bool) → holds_run r held ≡ 0 →
        Within r (Op.Waker (WakerOp.CopyWaker f held) ∷ []) (copy_by b w f held).next
    within true z = record { uses = omega (arith, z); polls = omega arith; empties = omega arith; lends = refl }
    within false z = record { uses = omega (arith, z); polls = omega arith; empties = omega arith; lends = refl }

-- the list of queues

-- a run is made
used-make : (b : Bool) (w : World) → w.gone ≡ false →
    KeepsUsed w (Op.List (ListOp.Write Section.MakeRun) ∷ []) (make_run_by b w)
used-make true w g = used-idle w (Op.List (ListOp.Write Section.MakeRun) ∷ []) (make_run_by true w)
    (idle w _ refl refl refl)
    (λ r. record { uses = omega arith; polls = omega arith; empties = omega arith; lends = refl })
used-make false w g = λ r x a b h. ⊎_elim
    (λ (y : (same r (length w.runs) ≡ 1) × (eqb r (length w.runs) ≡ true) × (r ≡ length w.runs)).
    let none : x.uses ≡ 0 = omega (arith, h.unborn (omega (arith, y.2))) in
    let new : run_of (make_run_by false w).world r ≡ new_run =
    ap (λ (n : ℕ). get_or (w.runs ++ new_run ∷ []) n no_run) y.2 ∙ last-new w.runs in
    record {
      once = omega (arith, none, y.0);
      unborn = λ e. absurd (omega (arith, e, y.2, length-append w.runs (new_run ∷ [])));
      unlent = omega (arith, h.unlent);
      polled = λ e. absurd (omega (arith, e, a, none));
      emptied = λ e. let no : false ≡ true = sym (ap is_past new) ∙ e in absurd (cc);
      gone = λ e. let no : false ≡ true = sym g ∙ e in absurd (cc);
    })
    (λ (y : (same r (length w.runs) ≡ 0) × (eqb r (length w.runs) ≡ false) × (r ≢ length w.runs)).
    let run : run_of (make_run_by false w).world r ≡ run_of w r = other-run w.runs r y.2 in
    let own : own_of w r ≡ [] → own_of (make_run_by false w).world r ≡ [] = other-own w.own r in
    record {
      once = omega (arith, h.once, y.0);
      unborn = λ e. omega (arith, h.unborn (omega (arith, e, length-append w.runs (new_run ∷ []))), y.0);
      unlent = omega (arith, h.unlent);
      polled = λ e. ap is_past run ∙ h.polled (omega (arith, e));
      emptied = λ e. ⊎_elim (λ (z : own_of w r ≡ []). inl (own z))
          (λ (z : 1 ≤ weigh (emptying_of r) (Op.List (ListOp.Write Section.MakeRun) ∷ []) + x.empties).
          inr (omega (arith, z))) (h.emptied (sym (ap is_past run) ∙ e));
      gone = λ e. let no : false ≡ true = sym g ∙ e in absurd (cc);
    })
    (same_cases r (length w.runs))
  where
    last-new : (rs : List Run) → get_or (rs ++ new_run ∷ []) (length rs) no_run ≡ new_run
    last-new [] = refl
    last-new (y ∷ rs) = last-new rs

    other-run : (rs : List Run) (n : ℕ) → n ≢ length rs → get_or (rs ++ new_run ∷ []) n no_run ≡ get_or rs n no_run
    other-run [] zero k = absurd (k refl)
    other-run [] (suc n) k = refl
    other-run (y ∷ rs) zero k = refl
    other-run (y ∷ rs) (suc n) k = other-run rs n (λ e. k (ap (λ (m : ℕ). suc m) e))

    other-own : (qs : List (List ℕ)) (n : ℕ) → get_or qs n [] ≡ [] → get_or (qs ++ [] ∷ []) n [] ≡ []
    other-own [] zero k = refl
    other-own [] (suc n) k = refl
    other-own (q ∷ qs) zero k = k
    other-own (q ∷ qs) (suc n) k = other-own qs n k

idle-registered : (t : Stage) (w : World) (q : ℕ) → (run_of w q).stage ≡ t → Idle w (registered t w q)
idle-registered New w q e = record {
  own = refl;
  past = past-set w.runs q _ (ap (λ (t : Stage). (run_of w q).dropped || is_over_stage t) (sym e));
  count = count-set w.runs q _;
  gone = refl;
}
idle-registered Listed w q e = idle w _ refl refl refl
idle-registered Ended w q e = idle w _ refl refl refl

used-unregister : (w : World) (q : ℕ) (a : Reply) →
    KeepsUsed w (Op.List (ListOp.Write (Section.Unregister q a)) ∷ [])
    (done (unregistered w q) (Op.List ListOp.UnlockWrite ∷ Op.Run (RunOp.Reschedule q a) ∷ []))
used-unregister w q a r x b c h = ⊎_elim
    (λ (y : (same r q ≡ 1) × (eqb r q ≡ true) × (r ≡ q)).
    record {
      once = omega (arith, h.once);
      unborn = λ e. omega (
        arith,
        h.unborn (omega (arith, e, count-set w.runs q (record (run_of w q) { stage = Ended }))),
      );
      unlent = omega (arith, h.unlent);
      polled = λ e. absurd (omega (arith, e, b, h.once, y.0));
      emptied = λ e. inr (omega (arith, y.0));
      gone = λ e. ended w.runs (run_of w q) q r (h.gone e) y.2;
    })
    (λ (y : (same r q ≡ 0) × (eqb r q ≡ false) × (r ≢ q)).
    let run : run_of (unregistered w q) r ≡ run_of w r =
    get_or-set_other w.runs q r (record (run_of w q) { stage = Ended }) no_run y.2 in
    record {
      once = omega (arith, h.once);
      unborn = λ e. omega (
        arith,
        h.unborn (omega (arith, e, count-set w.runs q (record (run_of w q) { stage = Ended }))),
      );
      unlent = omega (arith, h.unlent);
      polled = λ e. ap is_past run ∙ h.polled (omega (arith, e));
      emptied = λ e. ⊎_elim (λ (z : own_of w r ≡ []). inl z)
          (λ (z : 1 ≤ weigh (emptying_of r) (Op.List (ListOp.Write (Section.Unregister q a)) ∷ []) + x.empties).
          inr (omega (arith, z))) (h.emptied (sym (ap is_past run) ∙ e));
      gone = λ e. ap is_past run ∙ h.gone e;
    })
    (same_cases r q)
  where
    or-true : (d : Bool) → (d || true) ≡ true
    or-true true = refl
    or-true false = refl

    ended : (rs : List Run) (y : Run) (n m : ℕ) → is_past (get_or rs m no_run) ≡ true → m ≡ n →
        is_past (get_or (set rs n (record y { stage = Ended })) m no_run) ≡ true
    ended [] y n m e k = refl
    ended (z ∷ rs) y zero zero e k = or-true y.dropped
    ended (z ∷ rs) y (suc n) (suc m) e k = ended rs y n m e (omega (arith, k))
    ended (z ∷ rs) y zero (suc m) e k = e
    ended (z ∷ rs) y (suc n) zero e k = e

-- what passes on a section of the lock
within-lock : (r : ℕ) (s : Section) → Within r (Op.List (ListOp.LockWrite s) ∷ []) (Op.List (ListOp.Write s) ∷ [])
within-lock r s = record { uses = omega arith; polls = omega arith; empties = omega arith; lends = refl }

used-list : (h : Hint) (o : ListOp) (w : World) → (w.gone ≡ true → borrowing_of (Op.List o) ≡ 0) →
    KeepsUsed w (Op.List o ∷ []) (list_act h o w)
used-list h (ListOp.LockWrite s) w g =
    used-idle w (Op.List (ListOp.LockWrite s) ∷ []) (list_act h (ListOp.LockWrite s) w) (idle w _ refl refl refl)
    (λ r. within-lock r s)
used-list h (ListOp.Write Section.MakeRun) w g = used-make h.refused w (here w.gone refl g)
  where
    here : (b : Bool) → w.gone ≡ b → (w.gone ≡ true → borrowing_of (Op.List (ListOp.Write Section.MakeRun)) ≡ 0) →
        b ≡ false
    here false e k = refl
    here true e k = absurd (omega (arith, k e))
used-list h (ListOp.Write (Section.Register x)) w g =
    used-idle w (Op.List (ListOp.Write (Section.Register x)) ∷ []) (list_act h (ListOp.Write (Section.Register x)) w)
    (idle-registered _ w x.run refl)
    (λ r. record { uses = omega arith; polls = omega arith; empties = omega arith; lends = refl })
used-list h (ListOp.Write (Section.Unregister q a)) w g = used-unregister w q a
used-list h ListOp.UnlockWrite w g =
    used-idle w (Op.List ListOp.UnlockWrite ∷ []) (list_act h ListOp.UnlockWrite w) (idle w _ refl refl refl)
    (λ r. record { uses = omega arith; polls = omega arith; empties = omega arith; lends = refl })
used-list h (ListOp.LockRead x) w g =
    used-idle w (Op.List (ListOp.LockRead x) ∷ []) (list_act h (ListOp.LockRead x) w) (idle w _ refl refl refl)
    (λ r. within-part r x (Op.List (ListOp.LockRead x)) (list_act h (ListOp.LockRead x) w).next refl refl refl
    (λ v n m c. part-walk v m x n c w.listed _ _))
used-list h ListOp.UnlockRead w g =
    used-idle w (Op.List ListOp.UnlockRead ∷ []) (list_act h ListOp.UnlockRead w) (idle w _ refl refl refl)
    (λ r. record { uses = omega arith; polls = omega arith; empties = omega arith; lends = refl })

-- the other parts of a run's calls

within-room : (r : ℕ) (b : Bool) (w : World) → Within r (Op.Run RunOp.MakeRoom ∷ []) (make_room_by b w).next
within-room r true w = record { uses = omega arith; polls = omega arith; empties = omega arith; lends = refl }
within-room r false w = record { uses = omega arith; polls = omega arith; empties = omega arith; lends = refl }

mild-by_reference : (v : Op → ℕ) → Mild v → (p : ℕ) (w : World) (a : Waker) → weigh v (call_by_reference p w a).next ≡ 0
mild-by_reference v m p w (Task f) = aside-owed v (mild-aside v m) f _ (moves.wake_by_reference (task w f)).owed
mild-by_reference v m p w (Outside y) = omega (arith, mild-none v m (Op.User (UserOp.CallOutside y)) refl)

abbrev called : ℕ → World → RunPoll → World
called p w x = log w (Event.WakerCalled p (Polled.Run x.run) x.poll x.waker)

mild-own : (v : Op → ℕ) → Mild v → (p : ℕ) (w : World) (x : RunPoll) →
    weigh v (wake_own p w x).next ≡ v (Op.End Reply.Pending (Hold.Run x.run))
mild-own v m p w x = omega (
  arith,
  weigh-append v (call_by_reference p (called p w x) x.waker).next (Op.End Reply.Pending (Hold.Run x.run) ∷ []),
  mild-by_reference v m p (called p w x) x.waker,
)

used-reschedule : (own : List ℕ) (w : World) (q : ℕ) (a : Reply) → own_of w q ≡ own →
    KeepsUsed w (Op.Run (RunOp.Reschedule q a) ∷ []) (reschedule_by own w q a)
used-reschedule [] w q a o = λ r x b c h. record {
  once = omega (arith, h.once);
  unborn = λ e. omega (arith, h.unborn e);
  unlent = omega (arith, h.unlent);
  polled = λ e. h.polled (omega (arith, e));
  emptied = λ e. ⊎_elim
      (λ (y : (same r q ≡ 1) × (eqb r q ≡ true) × (r ≡ q)). inl (ap (own_of w) y.2 ∙ o))
      (λ (y : (same r q ≡ 0) × (eqb r q ≡ false) × (r ≢ q)). ⊎_elim (λ (z : own_of w r ≡ []). inl z)
      (λ (z : 1 ≤ weigh (emptying_of r) (Op.Run (RunOp.Reschedule q a) ∷ []) + x.empties). inr (omega (arith, z, y.0)))
      (h.emptied e))
      (same_cases r q);
  gone = h.gone;
}
used-reschedule (f ∷ rest) w q a o =
    used-stays w (Op.Run (RunOp.Reschedule q a) ∷ []) (reschedule_by (f ∷ rest) w q a) (first-taken w q f rest o)
    (λ r. record { uses = omega arith; polls = omega arith; empties = omega arith; lends = refl })

-- the end of a run's drop
abbrev is_last : RunOp → Bool
is_last (RunOp.Reschedule q a) = true
is_last _ = false

within-run : (r p : ℕ) (h : Hint) (o : RunOp) (w : World) → is_last o ≡ false →
    Within r (Op.Run o ∷ []) (run_act p h o w).next
within-run r p h RunOp.MakeRoom w n = within-room r h.refused w
within-run r p h RunOp.ReturnRoom w n =
    record { uses = omega arith; polls = omega arith; empties = omega arith; lends = refl }
within-run r p h (RunOp.TakeTurn x) w n =
    within-part r x (Op.Run (RunOp.TakeTurn x)) (run_act p h (RunOp.TakeTurn x) w).next refl refl refl
    (λ v i m c. omega (arith, c.common (First (first_of w.urgent_turns))))
within-run r p h (RunOp.SearchCommon x look) w n =
    within-part r x (Op.Run (RunOp.SearchCommon x look)) (run_act p h (RunOp.SearchCommon x look) w).next refl refl refl
    (λ v i m c. part-common v m x i c look _ w)
within-run r p h (RunOp.LookOwn x at left) w n =
    within-part r x (Op.Run (RunOp.LookOwn x at left)) (run_act p h (RunOp.LookOwn x at left) w).next refl refl refl
    (λ v i m c. part-look v m x i c _ w at left)
within-run r p h (RunOp.WakeOwn x) w n = record {
  uses = omega (arith, mild-own (running_of r) (mild-running r) p w x);
  polls = omega (arith, mild-own (polling_of r) (mild-polling r) p w x);
  empties = omega arith;
  lends = mild-own (lending_of r) (mild-lending r) p w x;
}
within-run r p h (RunOp.Reschedule q a) w n = absurd (cc)

used-run : (p : ℕ) (h : Hint) (o : RunOp) (w : World) → KeepsUsed w (Op.Run o ∷ []) (run_act p h o w)
used-run p h (RunOp.Reschedule q a) w = used-reschedule _ w q a refl
used-run p h o w =
    used-stays w (Op.Run o ∷ []) (run_act p h o w) (lessens-act p h (Op.Run o) w refl)
    (λ r. within-run r p h o w refl)

-- each thing that is done

used-act-by : (b : Bool) (p : ℕ) (h : Hint) (o : Op) (w : World) → is_for_runs o ≡ b →
    (w.gone ≡ true → borrowing_of o ≡ 0) → KeepsUsed w (o ∷ []) (act p h o w)
used-act-by false p h o w n g =
    used-idle w (o ∷ []) (act p h o w) (idle-act p h o w n) (λ r. within-act r p h o w n)
used-act-by true p h (Op.Tick (TickOp.Search s)) w n g =
    used-search s.who p w s refl (lessens-act p h (Op.Tick (TickOp.Search s)) w refl)
used-act-by true p h (Op.Tick (TickOp.Look s look)) w n g =
    used-idle w (Op.Tick (TickOp.Look s look) ∷ []) (act p h (Op.Tick (TickOp.Look s look)) w)
    (idle-search look _ w _ s) (λ r. within-found look r _ w _ s)
used-act-by true p h (Op.Tick (TickOp.CopyWaker s)) w n g =
    used-idle w (Op.Tick (TickOp.CopyWaker s) ∷ []) (act p h (Op.Tick (TickOp.CopyWaker s)) w)
    (idle-copy_sleeper _ w s)
    (λ r. within-copy r _ w s)
used-act-by true p h (Op.Tick (TickOp.FallAsleep s)) w n g =
    used-idle w (Op.Tick (TickOp.FallAsleep s) ∷ []) (act p h (Op.Tick (TickOp.FallAsleep s)) w) (idle-sleep _ w s)
    (λ r. within-sleep r _ w s)
used-act-by true p h (Op.User (UserOp.PollOwn x)) w n g =
    used-idle w (Op.User (UserOp.PollOwn x) ∷ []) (act p h (Op.User (UserOp.PollOwn x)) w) (idle w _ refl refl refl)
    (λ r. record { uses = omega arith; polls = omega arith; empties = omega arith; lends = refl })
used-act-by true p h (Op.Waker (WakerOp.CopyWaker f held)) w n g = used-copy _ w f held
used-act-by true p h (Op.List o) w n g = used-list h o w g
used-act-by true p h (Op.Steal o) w n g = used-steal p o w
used-act-by true p h (Op.Run o) w n g = used-run p h o w
used-act-by true p h (Op.End a held) w n g =
    used-idle w (Op.End a held ∷ []) (act p h (Op.End a held) w) (idle w _ refl refl refl)
    (λ r. record { uses = omega arith; polls = omega arith; empties = omega arith; lends = refl })
used-act-by true p h _ w n g = absurd (cc)

pub used-end : (w : World) (p : ℕ) (a : Reply) (held : Hold) →
    KeepsUsed w (Op.End a held ∷ []) (done (log w (Event.CallEnded p a)) [])
used-end w p a held =
    used-idle w (Op.End a held ∷ []) (done (log w (Event.CallEnded p a)) []) (idle w _ refl refl refl)
    (λ r. record { uses = omega arith; polls = omega arith; empties = omega arith; lends = refl })

pub used-act : (p : ℕ) (h : Hint) (o : Op) (w : World) → (w.gone ≡ true → borrowing_of o ≡ 0) →
    KeepsUsed w (o ∷ []) (act p h o w)
used-act p h o w g = used-act-by _ p h o w refl g
