-- For runs_take_futures_in_order.
-- Each thing that a run does in its poll leaves the line of a mark as it is.
use Rattle.std.proofs.Common.{◌≡◌, ◌≢◌, ◌∙◌, ℕ, zero, suc, List, [], ◌∷◌, length}
use Rattle.std.proofs.Common.{Bool, true, false, eqb, refl, sym, ap, subst, get_or-set_same}
use Rattle.std.specs.Prelude.{Option, Some, None}
use Rattle.executor_parts.specs.Marks.{first_of, other}
use Rattle.executor_parts.specs.Sleepers.{waker_at}
use Rattle.queue_steps.specs.ClosableQueue.{taken}
use Rattle.executor_parts.specs.Marks.{same_mark}
use Rattle.executor_laws.proofs.Types.{Look, First, Second, Move, Reply, Event, Hold, ListOp, Op, Polled, RunOp, RunPoll, Sleeping}
use Rattle.executor_laws.proofs.Types.{SleeperOp, Common, Own, StealOp, Then, TickOp, TickOrRun, UserOp, Waker, Task, Outside, Hint, Mark}
use Rattle.executor_model.specs.Acts.{turned, mark_in, copied, followed}
use Rattle.executor_model.specs.World.{queue_of, Asleep, Awake, Done, Left, Ticker, World, done, log, own_of, place_of, put_own, put_queue}
use Rattle.executor_model.specs.ActsOfRuns.{asleep, call_by_reference, found, look_own_by, next_place, queue_at, search_common_by}
use Rattle.executor_model.specs.ActsOfRuns.{search_own_by, wake_own, walk}
use Rattle.executor_model.specs.ActsOfSleepers.{copy_sleeper_by, fall_asleep_by, sleep_again_by, sleep_anew_by, sleep_listed_by}
use Rattle.executor_model.specs.ActsOfSleepers.{sleeper_goes}
use Rattle.executor_model.specs.Doing.{act, search_by_who}
use Rattle.executor_model.proofs.{Steps.SleepersNext.goes-unseen, Awaiters.RunsQueue.queue-by_reference}
use Rattle.executor_laws.proofs.Fewness.FewSides.{ups, ups-act}
use Rattle.executor_laws.proofs.RunReach.RunLeaves.{within}
use Rattle.executor_laws.proofs.RunReach.RunSteps.{Aside, Control, NotOwn, aside-act, side_of, steal_of}
use Rattle.executor_laws.proofs.RunReach.KeptLines.{another-queue}
use Rattle.executor_laws.proofs.RunOrder.Spans.{Facts, Lines, ahead, ahead-same, behind-ops, lines-as, lines-found, lines-steal, moved, one}
use Rattle.executor_laws.proofs.RunOrder.Spans.{span}

-- the run goes on so, or it has ended
pub data Goes (b : ℕ → Bool) (m : Mark) (q : ℕ) (line : List ℕ) (d : Done) : Type 0 where
  on : Lines b m q line d → Goes b m q line d
  over : d.next ≡ [] → ahead b m (own_of d.world q) d.world ≡ line → Goes b m q line d

module _ (b : ℕ → Bool) (m : Mark) where
  abbrev Line : ℕ → List ℕ → Done → Type 0
  Line q line d = Lines b m q line d

  abbrev waits : ℕ → World → List ℕ
  waits q w = ahead b m (own_of w q) w

  -- searches

  lines-first : (w : World) (x : RunPoll) (f : ℕ) (rest : List ℕ) → own_of w x.run ≡ f ∷ rest →
      Line x.run (waits x.run w) (found (put_own w x.run rest) x f)
  lines-first w x f rest e =
      let v : World = put_own w x.run rest in
      lines-as b m x.run (ahead b m (f ∷ own_of v x.run) v) (waits x.run w) (found v x f)
      (ap (λ (ns : List ℕ). ahead b m ns w)
      (ap (λ (ns : List ℕ). f ∷ ns) (get_or-set_same w.own x.run rest [] (within w.own x.run f rest e)) ∙ sym e))
      (lines-found b m v x f)

  lines-own : (xs : List ℕ) (w : World) (x : RunPoll) → own_of w x.run ≡ xs → Line x.run (waits x.run w) (search_own_by xs w x)
  lines-own [] w x e = one b m x.run w (Op.Run (RunOp.TakeTurn x)) refl
  lines-own (f ∷ rest) w x e = lines-first w x f rest e

  -- its own queue is empty then
  lines-common : (look : Look) (xs : List ℕ) (w : World) (x : RunPoll) → own_of w x.run ≡ [] →
      (queue_of w (mark_in look)).items ≡ xs →
      ((k : Mark) (f : ℕ) (rest : List ℕ) → (queue_of w k).items ≡ f ∷ rest → b f ≡ same_mark m k) →
      Line x.run (waits x.run w) (search_common_by xs w x look)
  lines-common (First mark) [] w x e i marked = one b m x.run w (Op.Run (RunOp.SearchCommon x (Second (other mark)))) refl
  lines-common (Second mark) [] w x e i marked = one b m x.run w (Op.List (ListOp.LockRead x)) refl
  lines-common look (f ∷ rest) w x e i marked =
      let k : Mark = mark_in look in
      let v : World = put_queue w k (taken (queue_of w k)) in
      lines-as b m x.run (ahead b m (f ∷ own_of w x.run) v) (waits x.run w) (search_common_by (f ∷ rest) w x look)
      (ap (λ (ns : List ℕ). ahead b m (f ∷ ns) v) e
      ∙ (moved b m k w f rest [] i (marked k f rest i) ∙ ap (λ (ns : List ℕ). ahead b m ns w) (sym e)))
      (one b m x.run v (Op.Steal (StealOp.Length (record { poll = x; from = Common k; then = Then.Found f }))) (refl, refl))

  lines-walk : (v : World) (x : RunPoll) (qs : List ℕ) (at left : ℕ) → Line x.run (waits x.run v) (done v (walk x qs at left))
  lines-walk v x qs at zero =
      behind-ops b m x.run (waits x.run v) (Op.List ListOp.UnlockRead ∷ [])
      (done v (Op.Tick (TickOp.CopyWaker (asleep x)) ∷ [])) refl refl
      (one b m x.run v (Op.Tick (TickOp.CopyWaker (asleep x))) refl)
  lines-walk v x qs at (suc left) =
      by (eqb (queue_at qs at) x.run) (another-queue (queue_at qs at) x.run) (lines-walk v x qs (next_place qs at) left)
    where
      by : (c : Bool) → (c ≡ false → queue_at qs at ≢ x.run) →
          Line x.run (waits x.run v) (done v (walk x qs (next_place qs at) left)) →
          Line x.run (waits x.run v) (done v (let os : List Op = elim c [
            | true ↦ walk x qs (next_place qs at) left
            | false ↦ Op.Steal (StealOp.Length (record {
              poll = x;
              from = Own (queue_at qs at);
              then = Then.Walk (next_place qs at) left;
            })) ∷ []
          ] in os))
      by true k a = a
      by false k a = one b m x.run v (Op.Steal (StealOp.Length (record {
        poll = x;
        from = Own (queue_at qs at);
        then = Then.Walk (next_place qs at) left;
      }))) (refl, k refl)

  lines-look : (xs : List ℕ) (w : World) (x : RunPoll) (at left : ℕ) → own_of w x.run ≡ xs →
      Line x.run (waits x.run w) (look_own_by xs w x at left)
  lines-look [] w x at left e = lines-walk w x w.listed at left
  lines-look (f ∷ rest) w x at left e =
      behind-ops b m x.run (waits x.run w) (Op.List ListOp.UnlockRead ∷ []) (found (put_own w x.run rest) x f) refl refl
      (lines-first w x f rest e)

  -- falling asleep

  copied-waits : (q : ℕ) (w : World) (a : Waker) → waits q (copied w a) ≡ waits q w
  copied-waits q w (Task g) = refl
  copied-waits q w (Outside x) = refl

  lines-copy : (q : ℕ) (c : Bool) (w : World) (s : Sleeping) → s.who ≡ TickOrRun.Run q →
      Line q (waits q w) (copy_sleeper_by c w s)
  lines-copy q true w s e = one b m q w _ refl
  lines-copy q false w s e =
      lines-as b m q (waits q (copied w s.waker)) (waits q w) (copy_sleeper_by false w s) (copied-waits q w s.waker)
      (one b m q (copied w s.waker) (Op.Tick (TickOp.FallAsleep s)) e)

  lines-nowhere : (q : ℕ) (w : World) (s : Sleeping) (c : Op) → Control q c → span q c w ≡ own_of w q →
      Line q (waits q w) (done w (Op.Sleeper (SleeperOp.CallSleeper s) ∷ c ∷ []))
  lines-nowhere q w s c k h =
      behind-ops b m q (waits q w) (Op.Sleeper (SleeperOp.CallSleeper s) ∷ []) (done w (c ∷ [])) refl refl
      (lines-as b m q (ahead b m (span q c w) w) (waits q w) (done w (c ∷ [])) (ap (λ (ns : List ℕ). ahead b m ns w) h)
      (one b m q w c k))

  lines-anew : (q : ℕ) (c : Bool) (w : World) (s : Sleeping) → s.who ≡ TickOrRun.Run q →
      Line q (waits q w) (sleep_anew_by c w s)
  lines-anew q true w s e = one b m q (sleep_anew_by true w s).world (Op.Tick (TickOp.Search s)) e
  lines-anew q false w s e = lines-nowhere q w s _ refl refl

  lines-listed : (q : ℕ) (c : Bool) (w : World) (n : ℕ) (s : Sleeping) → s.who ≡ TickOrRun.Run q →
      Line q (waits q w) (sleep_listed_by c w n s)
  lines-listed q true w n s e = one b m q (sleep_listed_by true w n s).world (Op.Tick (TickOp.Search s)) e
  lines-listed q false w n s e = lines-nowhere q w s _ refl refl

  lines-again : (q : ℕ) (o : Option ℕ) (w : World) (n : ℕ) (s : Sleeping) → s.who ≡ TickOrRun.Run q →
      Line q (waits q w) (sleep_again_by o w n s)
  lines-again q (Some at) w n s e =
      behind-ops b m q (waits q w) (sleeper_goes (waker_at (Some at) w.sleepers.wakers))
      (done (sleep_again_by (Some at) w n s).world _)
      (goes-unseen side_of (λ g. refl) (waker_at (Some at) w.sleepers.wakers))
      (goes-unseen ups (λ g. refl) (waker_at (Some at) w.sleepers.wakers))
      (one b m q (sleep_again_by (Some at) w n s).world _ refl)
  lines-again q None w n s e = lines-listed q _ w n s e

  lines-sleep : (q : ℕ) (x : Ticker) (w : World) (s : Sleeping) → s.who ≡ TickOrRun.Run q →
      Line q (waits q w) (fall_asleep_by x w s)
  lines-sleep q Awake w s e = lines-anew q _ w s e
  lines-sleep q (Asleep n) w s e = lines-again q _ w n s e
  lines-sleep q Left w s e = lines-nowhere q w s _ refl refl

  -- it calls its own waker
  lines-wake : (p : ℕ) (h : Hint) (w : World) (x : RunPoll) (q : ℕ) → Line q (waits q w) (wake_own p w x)
  lines-wake p h w x q = by x.waker
    where
      by : (a : Waker) → Line q (waits q w)
          (followed (call_by_reference p (log w (Event.WakerCalled p (Polled.Run x.run) x.poll x.waker)) a)
          (Op.End Reply.Pending (Hold.Run x.run) ∷ []))
      by (Task g) =
          let u : World = log w (Event.WakerCalled p (Polled.Run x.run) x.poll x.waker) in
          let d : Done = act p h (Op.Move Move.WakeByReference g) u in
          let a : Aside u d = aside-act p h (Op.Move Move.WakeByReference g) u refl refl in
          behind-ops b m q (waits q w) d.next (done d.world (Op.End Reply.Pending (Hold.Run x.run) ∷ []))
          a.light (ups-act p h (Op.Move Move.WakeByReference g) u refl refl)
          (lines-as b m q (waits q d.world) (waits q w) (done d.world (Op.End Reply.Pending (Hold.Run x.run) ∷ []))
          (ahead-same b m q w d.world a.own (queue-by_reference p u (Task g)))
          (one b m q d.world (Op.End Reply.Pending (Hold.Run x.run)) refl))
      by (Outside y) = behind-ops b m q (waits q w) (Op.User (UserOp.CallOutside y) ∷ [])
          (done (log w (Event.WakerCalled p (Polled.Run x.run) x.poll x.waker)) (Op.End Reply.Pending (Hold.Run x.run) ∷ []))
          refl refl
          (one b m q (log w (Event.WakerCalled p (Polled.Run x.run) x.poll x.waker)) (Op.End Reply.Pending (Hold.Run x.run)) refl)

  pub lines-act : (q p : ℕ) (h : Hint) (c : Op) (w : World) → Control q c → Facts b m q c w →
      Goes b m q (ahead b m (span q c w) w) (act p h c w)
  lines-act q p h (Op.Tick (TickOp.Search s)) w e k =
      subst (λ (who : TickOrRun). Goes b m q (waits q w) (search_by_who who p w s)) (sym e)
      (on (lines-own (own_of w q) w (record { run = q; waker = s.waker; poll = s.poll }) refl))
  lines-act q p h (Op.Tick (TickOp.CopyWaker s)) w e k = on (lines-copy q _ w s e)
  lines-act q p h (Op.Tick (TickOp.FallAsleep s)) w e k = on (lines-sleep q (place_of w s.who) w s e)
  lines-act q p h (Op.Run (RunOp.TakeTurn x)) w e k =
      subst (λ (n : ℕ). Goes b m n (waits n w) (act p h (Op.Run (RunOp.TakeTurn x)) w)) e
      (on (one b m x.run (turned p w) (Op.Run (RunOp.SearchCommon x (First (first_of w.urgent_turns)))) refl))
  lines-act q p h (Op.Run (RunOp.SearchCommon x look)) w e k =
      subst (λ (n : ℕ). Goes b m n (waits n w) (act p h (Op.Run (RunOp.SearchCommon x look)) w)) e
      (on (lines-common look (queue_of w (mark_in look)).items w x (k.empty x look refl) refl k.marked))
  lines-act q p h (Op.Run (RunOp.LookOwn x at left)) w e k =
      subst (λ (n : ℕ). Goes b m n (waits n w) (act p h (Op.Run (RunOp.LookOwn x at left)) w)) e
      (on (lines-look (own_of w x.run) w x at left refl))
  lines-act q p h (Op.Run (RunOp.WakeOwn x)) w e k = on (lines-wake p h w x q)
  lines-act q p h (Op.List (ListOp.LockRead x)) w e k =
      subst (λ (n : ℕ). Goes b m n (waits n w) (act p h (Op.List (ListOp.LockRead x)) w)) e
      (on (lines-walk (act p h (Op.List (ListOp.LockRead x)) w).world x w.listed _ (length w.listed)))
  lines-act q p h (Op.Steal o) w e k =
      subst (λ (n : ℕ). Goes b m n (ahead b m (span n (Op.Steal o) w) w) (act p h (Op.Steal o) w)) e.0
      (on (lines-steal b m p o w (subst (λ (n : ℕ). NotOwn n (steal_of o).from) (sym e.0) e.1)
      (subst (λ (n : ℕ). Facts b m n (Op.Steal o) w) (sym e.0) k)))
  lines-act q p h (Op.End a held) w e k = over refl refl
  lines-act q p h _ w e k = absurd e
