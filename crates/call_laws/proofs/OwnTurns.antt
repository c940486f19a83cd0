-- For own_futures_are_dropped_once.
-- Each thing that is done, each end of user code and each beginning of a call keeps it so.
use Rattle.std.proofs.Common.{◌≡◌, ◌≢◌, ◌∙◌, inl, inr, ⊎_elim, ℕ, zero, suc, ◌+◌, ◌<◌, ◌≤◌, List, [], ◌∷◌, ◌++◌, length, set, get_or}
use Rattle.std.proofs.Common.{Bool, true, false, ◌||◌, cond, eqb, not, refl, sym, ap, subst, arith}
use Rattle.std.proofs.lemmas.List.{get_or_past}
use Rattle.std.specs.Prelude.{Option, Some, reverse}
use Rattle.executor_model.specs.ActsOfRuns as runs
use Rattle.executor_model.specs.Doing.{act}
use Rattle.executor_model.specs.Rows.{running_of}
use Rattle.executor_model.specs.Steps.{Machine, accepts, begun, drop_run}
use Rattle.executor_model.specs.Steps.{has_all, has_run, is_there, is_unused, mine, react}
use Rattle.executor_model.specs.Steps.{stack, top}
use Rattle.executor_model.specs.Weights.{same, weigh, weigh_all}
use Rattle.executor_model.specs.ActsOfSleepers.{look_tick_by}
use Rattle.executor_model.specs.declared.event.Answer.TheVariants as answer
use Rattle.executor_model.specs.World.{Asleep, Awake, Done, Ended, Left, Listed, New, Run, Stage, Ticker, World, log, no_run}
use Rattle.executor_model.specs.World.{put_run, run_of}
use Rattle.executor_model.proofs.OwnQueues.Using.{polling_of}
use Rattle.executor_model.proofs.OwnQueues.UsingRuns.{idle-more, idle-refused}
use Rattle.executor_model.proofs.OwnQueues.UsingSteps.{AllUsed}
use Rattle.executor_model.proofs.OwnQueues.UsingWorlds.{count-set, is_over_stage, is_past, past-set}
use Rattle.executor_model.proofs.Steps.Lift.{split}
use Rattle.executor_model.proofs.Steps.Lists.{same_cases, weigh-below}
use Rattle.executor_laws.proofs.Placement.Evens.{even-act}
use Rattle.executor_laws.proofs.Placement.Leavings.{drops_run, leaves, leaving_of, none-begun, none-by}
use Rattle.executor_laws.proofs.Placement.RunningSteps.{runs-begun}
use Rattle.call_laws.proofs.Owning.{owning-act, owning-begun}
use Rattle.call_laws.proofs.There.{first, second, unused-is}
use Rattle.call_laws.proofs.Types.{Call, Event, Hint, ListOp, Look, First, Second, Op, Reply, RunOp, RunPoll}
use Rattle.call_laws.proofs.Types.{Section, Sleeping, Steal, StealOp, TickOp, UserEnd, UserOp}
use Rattle.call_laws.specs.OwnDrops.{dropping_own, is_own_drop}
use Rattle.call_laws.proofs.OwnBalance.{Turn, le-or, not-both, unlisting, unlisting-leaves, unlisting-uses, unlisting_of}
use Rattle.call_laws.proofs.OwnBalance.Turn.{begins, even, leaves-list, makes}

-- what is done

unlists : (r p : ℕ) (h : Hint) (o : Op) (w : World) → leaves o ≡ false → weigh (unlisting_of r) (act p h o w).next ≡ 0
unlists r p h o w e = omega (
  arith,
  weigh-below (unlisting_of r) (leaving_of r) (unlisting-leaves r) (act p h o w).next,
  none-by _ r p h o w refl e,
)

looks-un : (look : Look) (r : ℕ) (x : Ticker) (w : World) (q : List ℕ) (s : Sleeping) →
    weigh (unlisting_of r) (look_tick_by x w look q s).next ≡ 0
looks-un (First mark) r x w [] s = refl
looks-un (Second mark) r x w [] s = refl
looks-un look r Awake w (f ∷ rest) s = refl
looks-un look r (Asleep n) w (f ∷ rest) s = refl
looks-un look r Left w (f ∷ rest) s = refl

reschedules-un : (r : ℕ) (q : List ℕ) (w : World) (n : ℕ) (a : Reply) → weigh (unlisting_of r) (runs.reschedule_by q w n a).next ≡ 0
reschedules-un r [] w n a = refl
reschedules-un r (f ∷ rest) w n a = refl

abbrev is_write : Op → Bool
is_write (Op.List (ListOp.Write y)) = true
is_write _ = false

unlisting-act : (r p : ℕ) (h : Hint) (o : Op) (w : World) → is_write o ≡ false →
    weigh (unlisting_of r) (act p h o w).next ≡ unlisting_of r o
unlisting-act r p h o w n = by (leaves o) refl
  where
    away : (o : Op) → leaves o ≡ false → unlisting_of r o ≡ 0
    away (Op.List (ListOp.LockWrite (Section.Unregister q a))) e = absurd (cc)
    away (Op.List (ListOp.Write (Section.Unregister q a))) e = absurd (cc)
    away _ e = refl

    at : (o : Op) → leaves o ≡ true → is_write o ≡ false → weigh (unlisting_of r) (act p h o w).next ≡ unlisting_of r o
    at (Op.List (ListOp.LockWrite (Section.Unregister q a))) e m = omega arith
    at (Op.List (ListOp.Write (Section.Unregister q a))) e m = absurd (cc)
    at (Op.Run (RunOp.Reschedule q a)) e m = reschedules-un r _ w q a
    at (Op.End a held) e m = refl
    at (Op.Tick (TickOp.Look s look)) e m = looks-un look r _ w _ s
    at _ e m = absurd (cc)

    by : (b : Bool) → leaves o ≡ b → weigh (unlisting_of r) (act p h o w).next ≡ unlisting_of r o
    by true e = at o e n
    by false e = unlists r p h o w e ∙ sym (away o e)

-- one thing is done, and no own drop ends by it

registers-past : (t : Stage) (w : World) (q r : ℕ) → (run_of w q).stage ≡ t →
    (is_past (run_of (runs.registered t w q) r) ≡ is_past (run_of w r)) × (length (runs.registered t w q).runs ≡ length w.runs)
registers-past New w q r e = (
  past-set w.runs q (record (run_of w q) { stage = Listed })
      (ap (λ (x : Stage). (run_of w q).dropped || is_over_stage x) (sym e)) r,
  count-set w.runs q (record (run_of w q) { stage = Listed }),
)
registers-past Listed w q r e = (refl, refl)
registers-past Ended w q r e = (refl, refl)

ended-past : (rs : List Run) (q : ℕ) (x : Run) → x.stage ≡ Ended → is_past (get_or (set rs q x) q no_run) ≡ true
ended-past [] q x e = refl
ended-past (y ∷ rs) zero x e = by x.dropped
  where
    by : (b : Bool) → (b || is_over_stage x.stage) ≡ true
    by true = refl
    by false = ap is_over_stage e
ended-past (y ∷ rs) (suc q) x e = ended-past rs q x e

other-run : (rs : List Run) (q r : ℕ) (x : Run) → r ≢ q → get_or (set rs q x) r no_run ≡ get_or rs r no_run
other-run [] q r x n = refl
other-run (y ∷ rs) zero zero x n = absurd (n refl)
other-run (y ∷ rs) zero (suc r) x n = refl
other-run (y ∷ rs) (suc q) zero x n = refl
other-run (y ∷ rs) (suc q) (suc r) x n = other-run rs q r x (λ i. n (ap suc i))

module _ (r : ℕ) (s : Machine) (p : ℕ) where
  same-own : (h : Hint) (o : Op) → weigh (dropping_own r) (act p h o s.world).next + 0 ≡ weigh (dropping_own r) (o ∷ [])
  same-own h o = omega (arith, owning-act r p h o s.world)

  same-un : (h : Hint) (o : Op) → is_write o ≡ false →
      weigh (unlisting_of r) (act p h o s.world).next ≡ weigh (unlisting_of r) (o ∷ [])
  same-un h o n = omega (arith, unlisting-act r p h o s.world n)

  write-turn : (h : Hint) (y : Section) → Turn r 0 s (act p h (Op.List (ListOp.Write y)) s.world).world (Op.List (ListOp.Write y) ∷ [])
      (act p h (Op.List (ListOp.Write y)) s.world).next
  write-turn h Section.MakeRun = by h.refused
    where
      by : (b : Bool) → Turn r 0 s (runs.make_run_by b s.world).world (Op.List (ListOp.Write Section.MakeRun) ∷ [])
          (runs.make_run_by b s.world).next
      by true = even refl refl refl refl
      by false = makes refl refl refl refl
  write-turn h (Section.Register x) =
      let k = registers-past (run_of s.world x.run).stage s.world x.run r refl in even (omega arith) (omega arith) k.0 k.1
  write-turn h (Section.Unregister q a) = ⊎_elim
      (λ (y : (same r q ≡ 1) × (eqb r q ≡ true) × (r ≡ q)). leaves-list (omega arith) (omega (arith, y.0))
      (subst (λ (n : ℕ). is_past (get_or (set s.world.runs q (record (run_of s.world q) { stage = Ended })) n no_run) ≡ true) (sym y.2)
      (ended-past s.world.runs q (record (run_of s.world q) { stage = Ended }) refl))
      (count-set s.world.runs q (record (run_of s.world q) { stage = Ended })))
      (λ (y : (same r q ≡ 0) × (eqb r q ≡ false) × (r ≢ q)). even (omega arith) (omega (arith, y.0))
      (ap is_past (other-run s.world.runs q r (record (run_of s.world q) { stage = Ended }) y.2))
      (count-set s.world.runs q (record (run_of s.world q) { stage = Ended })))
      (same_cases r q)

  put-idle : (b : Bool) (x : Steal) (more f : ℕ) →
      (is_past (run_of (runs.steal_put_by b p s.world x more f).world r) ≡ is_past (run_of s.world r))
      × (length (runs.steal_put_by b p s.world x more f).world.runs ≡ length s.world.runs)
  put-idle true x more f = let i = idle-more more (runs.kept_by p s.world x.poll.run f) x in (i.past r, i.count)
  put-idle false x more f = let i = idle-refused x.then s.world x.poll f in (i.past r, i.count)

  pub act-turn : (h : Hint) (o : Op) → Turn r 0 s (act p h o s.world).world (o ∷ []) (act p h o s.world).next
  act-turn h (Op.List (ListOp.Write y)) = write-turn h y
  act-turn h (Op.Steal (StealOp.Put x more f)) =
      let k = put-idle _ x more f in
      even (same-own h (Op.Steal (StealOp.Put x more f))) (same-un h (Op.Steal (StealOp.Put x more f)) refl) k.0 k.1
  act-turn h o = let k = even-act p h o s.world refl in even (same-own h o) (same-un h o refl) (k.past r) k.count

  -- user code ends

  abbrev pub ending : UserEnd → Option Op → Bool
  ending UserEnd.Done o = is_own_drop r o
  ending (UserEnd.Polled a) o = false

  abbrev pub ends_now : UserEnd → Option Op → ℕ
  ends_now u o = cond (ending u o) 1 0

  same-if : (q : ℕ) → cond {A = ℕ} (eqb r q) 1 0 ≡ same r q
  same-if q = ⊎_elim
      (λ (y : (same r q ≡ 1) × (eqb r q ≡ true) × (r ≡ q)). ap (λ (b : Bool). cond {A = ℕ} b 1 0) y.1 ∙ sym y.0)
      (λ (y : (same r q ≡ 0) × (eqb r q ≡ false) × (r ≢ q)). ap (λ (b : Bool). cond {A = ℕ} b 1 0) y.1 ∙ sym y.0)
      (same_cases r q)

  ready-turn : (x : RunPoll) → AllUsed s → (rest : List Op) → p < length s.parties →
      stack s p ≡ rest ++ reverse (Op.User (UserOp.PollOwn x) ∷ []) →
      Turn r 0 s s.world (Op.User (UserOp.PollOwn x) ∷ [])
      (Op.User (UserOp.DropOwn x.run) ∷ Op.List (ListOp.LockWrite (Section.Unregister x.run Reply.Ready)) ∷ [])
  ready-turn x used rest l e = ⊎_elim
      (λ (y : (same r x.run ≡ 1) × (eqb r x.run ≡ true) × (r ≡ x.run)). begins (omega (arith, y.0))
      ((used r).polled (omega (arith, y.0, split (polling_of r) s.parties p (Op.User (UserOp.PollOwn x) ∷ []) rest l e)))
      (omega (
        arith,
        y.0,
        (used r).once,
        split (running_of r) s.parties p (Op.User (UserOp.PollOwn x) ∷ []) rest l e,
        split (unlisting_of r) s.parties p (Op.User (UserOp.PollOwn x) ∷ []) rest l e,
        unlisting-uses r (set s.parties p rest),
      ))
      (⊎_elim (λ (i : r < length s.world.runs). i) (λ (i : length s.world.runs ≤ r). absurd (omega (
        arith,
        y.0,
        (used r).unborn i,
        split (running_of r) s.parties p (Op.User (UserOp.PollOwn x) ∷ []) rest l e,
      ))) (le-or r (length s.world.runs)))
      (inr (omega (arith, y.0))) refl)
      (λ (y : (same r x.run ≡ 0) × (eqb r x.run ≡ false) × (r ≢ x.run)). even (omega (arith, y.0)) (omega (arith, y.0)) refl refl)
      (same_cases r x.run)

  pub react-turn : (o : Op) (u : UserEnd) → accepts o u ≡ true → AllUsed s → (rest : List Op) → p < length s.parties →
      stack s p ≡ rest ++ reverse (o ∷ []) →
      Turn r (ends_now u (Some o)) s (react p o u s.world).world (o ∷ []) (react p o u s.world).next
  react-turn (Op.User (UserOp.Poll f)) (UserEnd.Polled answer.Pending) a used rest l e = even refl refl refl refl
  react-turn (Op.User (UserOp.Poll f)) (UserEnd.Polled answer.Ready) a used rest l e = even refl refl refl refl
  react-turn (Op.User (UserOp.Drop f)) UserEnd.Done a used rest l e = even refl refl refl refl
  react-turn (Op.User (UserOp.DropOutput f)) UserEnd.Done a used rest l e = even refl refl refl refl
  react-turn (Op.User (UserOp.CallOutside x)) UserEnd.Done a used rest l e = even refl refl refl refl
  react-turn (Op.User (UserOp.PollOwn x)) (UserEnd.Polled answer.Pending) a used rest l e = even refl refl refl refl
  react-turn (Op.User (UserOp.PollOwn x)) (UserEnd.Polled answer.Ready) a used rest l e = ready-turn x used rest l e
  react-turn (Op.User (UserOp.DropOwn q)) UserEnd.Done a used rest l e = even (omega (arith, same-if q)) refl refl refl
  react-turn _ _ a used rest l e = absurd (cc)

  -- a call begins

  dropped-past : (rs : List Run) (q : ℕ) (x : Run) → x.dropped ≡ true → is_past (get_or (set rs q x) q no_run) ≡ true
  dropped-past [] q x e = refl
  dropped-past (y ∷ rs) zero x e = λ i. e i || is_over_stage x.stage
  dropped-past (y ∷ rs) (suc q) x e = dropped-past rs q x e

  there-dropped : (x : Run) → is_there x ≡ true → x.dropped ≡ false
  there-dropped x e = by x.dropped e
    where
      by : (b : Bool) → not b ≡ true → b ≡ false
      by true z = absurd (cc)
      by false z = refl

  there-born : (q : ℕ) → is_there (run_of s.world q) ≡ true → q < length s.world.runs
  there-born q e = ⊎_elim (λ (i : q < length s.world.runs). i)
      (λ (i : length s.world.runs ≤ q). absurd (not-both (run_of s.world q).dropped
      (ap (λ (x : Run). x.dropped) (get_or_past s.world.runs q no_run i)) (there-dropped (run_of s.world q) e)))
      (le-or q (length s.world.runs))

  abbrev gone_run : ℕ → World
  gone_run q = put_run s.world q (record (run_of s.world q) { dropped = true })

  other-drop : (q : ℕ) (t : Stage) → r ≢ q → same r q ≡ 0 → Turn r 0 s (gone_run q) [] (drop_run t q)
  other-drop q t n z = even (by t) (un t) (ap is_past (other-run s.world.runs q r (record (run_of s.world q) { dropped = true }) n))
      (count-set s.world.runs q (record (run_of s.world q) { dropped = true }))
    where
      by : (t : Stage) → weigh (dropping_own r) (drop_run t q) + 0 ≡ 0
      by New = omega (arith, z)
      by Listed = omega (arith, z)
      by Ended = refl

      un : (t : Stage) → weigh (unlisting_of r) (drop_run t q) ≡ 0
      un New = refl
      un Listed = omega (arith, z)
      un Ended = refl

  own-drop : (t : Stage) → (run_of s.world r).stage ≡ t → same r r ≡ 1 → has_run s.world s.parties r ≡ true →
      Turn r 0 s (gone_run r) [] (drop_run t r)
  own-drop t e z u = by t e
    where
      dropped : (run_of s.world r).dropped ≡ false
      dropped = there-dropped (run_of s.world r) (first (is_there (run_of s.world r)) (is_unused (running_of r) s.parties) u)

      idle : unlisting r s ≡ 0
      idle = omega (
        arith,
        unused-is (weigh_all (running_of r) s.parties) (second (is_there (run_of s.world r)) (is_unused (running_of r) s.parties) u),
        unlisting-uses r s.parties,
      )

      past : is_past (run_of (gone_run r) r) ≡ true
      past = dropped-past s.world.runs r (record (run_of s.world r) { dropped = true }) refl

      count : length (gone_run r).runs ≡ length s.world.runs
      count = count-set s.world.runs r (record (run_of s.world r) { dropped = true })

      was : (t : Stage) → (run_of s.world r).stage ≡ t → is_past (run_of s.world r) ≡ is_over_stage t
      was t i = λ j. dropped j || is_over_stage (i j)

      born : r < length s.world.runs
      born = there-born r (first (is_there (run_of s.world r)) (is_unused (running_of r) s.parties) u)

      by : (t : Stage) → (run_of s.world r).stage ≡ t → Turn r 0 s (gone_run r) [] (drop_run t r)
      by New i = begins (omega (arith, z)) (was New i) idle born (inl past) count
      by Listed i = begins (omega (arith, z)) (was Listed i) idle born (inl past) count
      by Ended i = even refl refl (past ∙ sym (was Ended i)) count

  drop-turn : (q : ℕ) → has_run s.world s.parties q ≡ true → Turn r 0 s (gone_run q) [] (drop_run (run_of s.world q).stage q)
  drop-turn q u = ⊎_elim
      (λ (y : (same r q ≡ 1) × (eqb r q ≡ true) × (r ≡ q)).
      subst (λ (n : ℕ). Turn r 0 s (gone_run n) [] (drop_run (run_of s.world n).stage n)) y.2
      (own-drop (run_of s.world r).stage refl (subst (λ (n : ℕ). same r n ≡ 1) (sym y.2) y.0)
      (subst (λ (n : ℕ). has_run s.world s.parties n ≡ true) (sym y.2) u)))
      (λ (y : (same r q ≡ 0) × (eqb r q ≡ false) × (r ≢ q)). other-drop q (run_of s.world q).stage y.2 y.0)
      (same_cases r q)

  abbrev pub begun_here : Call → Done
  begun_here c = begun p (log s.world (Event.CallBegun p c)) (mine (top (stack s p))) c

  -- the trace isn't seen
  logged-turn : (v u : World) (next : List Op) → u.runs ≡ v.runs → Turn r 0 s v [] next → Turn r 0 s u [] next
  logged-turn v u next e (even a b c i) = even a b
      (ap (λ (rs : List Run). is_past (get_or rs r no_run)) e ∙ c) (ap (λ (rs : List Run). length rs) e ∙ i)
  logged-turn v u next e (makes a b c i) = makes a b c (e ∙ i)
  logged-turn v u next e (leaves-list a b c i) = leaves-list a b
      (ap (λ (rs : List Run). is_past (get_or rs r no_run)) e ∙ c) (ap (λ (rs : List Run). length rs) e ∙ i)
  logged-turn v u next e (begins a b c i x j) = begins a b c i
      (⊎_elim (λ (y : is_past (run_of v r) ≡ true). inl (ap (λ (rs : List Run). is_past (get_or rs r no_run)) e ∙ y))
      (λ (y : 1 ≤ weigh (unlisting_of r) next). inr y) x) (ap (λ (rs : List Run). length rs) e ∙ j)

  pub begun-turn : (c : Call) → has_all s.world s.parties (top (stack s p)) c ≡ true →
      Turn r 0 s (begun_here c).world [] (begun_here c).next
  begun-turn c k = by (drops_run c) refl
    where
      of-drop : (c : Call) → drops_run c ≡ true → has_all s.world s.parties (top (stack s p)) c ≡ true →
          Turn r 0 s (begun_here c).world [] (begun_here c).next
      of-drop (Call.DropRun q) z u = logged-turn (gone_run q) _ _ refl (drop-turn q u)
      of-drop _ z u = absurd (cc)

      by : (b : Bool) → drops_run c ≡ b → Turn r 0 s (begun_here c).world [] (begun_here c).next
      by true z = of-drop c z k
      by false z =
          let w : World = log s.world (Event.CallBegun p c) in
          let e = runs-begun p w (mine (top (stack s p))) c z in
          even (omega (arith, owning-begun r p w (mine (top (stack s p))) c z)) (omega (
            arith,
            weigh-below (unlisting_of r) (leaving_of r) (unlisting-leaves r) (begun_here c).next,
            none-begun r p w (mine (top (stack s p))) c z,
          )) (ap (λ (rs : List Run). is_past (get_or rs r no_run)) e) (ap (λ (rs : List Run). length rs) e)
