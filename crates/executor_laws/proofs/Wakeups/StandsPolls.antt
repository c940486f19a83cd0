-- For some_standing_is_called.
-- The beginning of a poll of a tick or run, and of its drop, keeps what holds of each.
use Rattle.std.proofs.Common.{◌≡◌, ◌≢◌, ◌⊎◌, ◌∙◌, ℕ, zero, suc, ◌+◌, List, [], ◌∷◌, length, get_or, set, get_or-set_other, inl}
use Rattle.std.proofs.Common.{inr, Bool, true, false, cond, refl, sym, ap, subst, arith}
use Rattle.std.specs.Prelude.{Option, Some, None, not, nat_lt}
use Rattle.executor_laws.proofs.Types.{Call, Reply, Event, Hold, TickOp, ListOp, Op, RunOp, Section, TickOrRun, UserOp}
use Rattle.executor_model.specs.World.{World, Stage, New, Listed, Ended, Run, Done, done, log, no_run, put_run, run_of}
use Rattle.executor_model.specs.{SleepersAgree.sleeps, Weights.same, Weights.weigh, Steps.drop_run, Steps.with_future}
use Rattle.executor_model.proofs.Sleepers.TickLists.{same_self}
use Rattle.executor_model.proofs.OwnQueues.UsingWorlds.{count-set, is_over_stage}
use Rattle.executor_laws.proofs.Wakeups.Sitting.{eq-other, eq-self, eq_who, lives_in, made_in, other, over_in, owned_in}
use Rattle.executor_laws.proofs.Wakeups.Stands.{View, view, Doing, with_doing, Footing, Stands, Nothing, Mark, KeepsBy}
use Rattle.executor_laws.proofs.Wakeups.StandsNothing.{nothing-both, nothing-end, nothing-leave, nothing-locked, nothing-of}
use Rattle.executor_laws.proofs.Wakeups.Stands.{with-nothing, drops_of, ends_of, waking_up_of}
use Rattle.executor_laws.proofs.Wakeups.Beside.{Beside, besides}
use Rattle.executor_laws.proofs.Wakeups.Listed.{sum, entry_of, kept_of, misplaced_of}
use Rattle.executor_laws.proofs.Wakeups.StandsOwn.{Parts, own-dropped, own-run_dropped}
use Rattle.executor_laws.proofs.Wakeups.Watched.{Watched, parted, poll_begun, watched, watched-push, watches}
use Rattle.executor_laws.proofs.{Wakeups.Sitting.place_in, Wakeups.StandsNothing.nothing-left, Wakeups.StandsSeats.field-set}

-- the beginning of a call

-- one more call of party p is inside of the poll that is open
abbrev pub begun_in : ℕ → Mark → Mark
begun_in p m = record m { inner = m.inner + cond m.asking (same m.party p) 0 }

abbrev pub inside : ℕ → Watched → Watched
inside p s = record s { inner = s.inner + cond s.asking (same s.party p) 0 }

-- a poll of it begins, or another call
abbrev pub polls_at : TickOrRun → TickOrRun → ℕ → Mark → Mark
polls_at t u p m = cond (eq_who t u) (record { asking = true; party = p; inner = 0; asks = suc m.asks }) (begun_in p m)

abbrev pub asked : ℕ → Call → TickOrRun → Mark → Mark
asked p (Call.PollTick u b) t m = polls_at t (TickOrRun.Tick u) p m
asked p (Call.PollRun q b) t m = polls_at t (TickOrRun.Run q) p m
asked p _ t m = begun_in p m

view-begun : (t : TickOrRun) (p : ℕ) (w : World) (c : Call) →
    view t (log w (Event.CallBegun p c)) ≡ record (view t w) { seen = inside p (watched t w.trace) }
view-begun t p w c = ap (λ (s : Watched). let v : View = record (view t w) { seen = s } in v)
    (watched-push t w.trace (Event.CallBegun p c))

pub stands-inside : (p : ℕ) (v : View) (x : Doing) (m : Mark) → Stands v x m →
    Stands (record v { seen = inside p v.seen }) x (begun_in p m)
stands-inside p v x m h = grind arith

-- it has nothing to do with any
pub begins-beside : (t : TickOrRun) (p : ℕ) (w : World) (c : Call) (d : Done) → Beside (log w (Event.CallBegun p c)) d →
    KeepsBy t w [] d (begun_in p)
begins-beside t p w c d b r m f h =
    subst (λ (y : View × Doing). Stands y.0 y.1 (begun_in p m))
    (λ i. (
      sym (b.view t ∙ view-begun t p w c) i,
      (with-nothing t [] r (nothing-of t [] refl)
          ∙ sym (with-nothing t d.next r (nothing-of t d.next b.none))) i,
    )) (stands-inside p (view t w) (with_doing t [] r) m h)

pub begins-with : (t : TickOrRun) (p : ℕ) (w : World) (c : Call) (x : Option ℕ) (d : ℕ → Done) →
    ((f : ℕ) → Beside (log w (Event.CallBegun p c)) (d f)) →
    KeepsBy t w [] (with_future (log w (Event.CallBegun p c)) x d) (begun_in p)
begins-with t p w c None d k =
    begins-beside t p w c (done (log w (Event.CallBegun p c)) []) (besides _ _ (λ n. refl) refl)
begins-with t p w c (Some f) d k = begins-beside t p w c (d f) (k f)

-- a poll of u

module _ (t u : TickOrRun) (p : ℕ) (w : World) (c : Call) (e : Event)
    (polls : (n : ℕ) (s : Watched) → watches t n e s ≡ cond (eq_who t u) (poll_begun n p s) s) where
  abbrev pub begin : World
  begin = log w (Event.CallBegun p c)

  abbrev pub place : ℕ
  place = length begin.trace

  -- what is seen of t
  seen-polled : (b : Bool) → eq_who t u ≡ b → view t (log begin e) ≡ record (view t w) {
    seen = cond b (poll_begun place p (watched t w.trace)) (inside p (watched t w.trace));
  }
  seen-polled b q = ap (λ (s : Watched). let v : View = record (view t w) { seen = s } in v)
      (watched-push t begin.trace e
      ∙ (polls place (watched t begin.trace)
      ∙ (ap (λ (d : Bool). cond d (poll_begun place p (watched t begin.trace)) (watched t begin.trace)) q
      ∙ (ap (λ (s : Watched). cond b (poll_begun place p s) s) (watched-push t w.trace (Event.CallBegun p c))
      ∙ same b))))
    where
      same : (b : Bool) → cond b (poll_begun place p (inside p (watched t w.trace))) (inside p (watched t w.trace))
          ≡ cond b (poll_begun place p (watched t w.trace)) (inside p (watched t w.trace))
      same true = refl
      same false = refl

  pub other-polled : (next : List Op) → t ≢ u → Nothing t next →
      KeepsBy t w [] (done (log begin e) next) (polls_at t u p)
  other-polled next x n r m f h =
      subst (λ (y : View × Doing × Mark). Stands y.0 y.1 y.2)
      (λ i. (
        sym (seen-polled false (eq-other t u x)) i,
        (with-nothing t [] r (nothing-of t [] refl) ∙ sym (with-nothing t next r n)) i,
        sym (ap (λ (b : Bool). cond b (record { asking = true; party = p; inner = 0; asks = suc m.asks })
            (begun_in p m))
            (eq-other t u x)) i,
      )) (stands-inside p (view t w) (with_doing t [] r) m h)

  pub own-poll : (next : List Op) (r : Doing) (m : Mark) → t ≡ u →
      Stands (record (view t w) { seen = poll_begun place p (watched t w.trace) }) (with_doing t next r)
      (record { asking = true; party = p; inner = 0; asks = suc m.asks }) →
      Stands (view t (log begin e)) (with_doing t next r) (polls_at t u p m)
  own-poll next r m i h =
      let q : eq_who t u ≡ true = ap (eq_who t) (sym i) ∙ eq-self t in
      subst (λ (y : View × Mark). Stands y.0 (with_doing t next r) y.1)
      (λ i. (
        sym (seen-polled true q) i,
        sym (ap (λ (b : Bool). cond b (record { asking = true; party = p; inner = 0; asks = suc m.asks })
            (begun_in p m)) q) i,
      ))
      h

-- its drop

module _ (t u : TickOrRun) (p : ℕ) (w v : World) (c : Call) (e : Event)
    (parts : (n : ℕ) (s : Watched) → watches t n e s ≡ cond (eq_who t u) (parted s) s)
    (trace : v.trace ≡ (log (log w (Event.CallBegun p c)) e).trace) where
  seen-parted : (b : Bool) → eq_who t u ≡ b →
      watched t v.trace ≡ cond b (parted (inside p (watched t w.trace))) (inside p (watched t w.trace))
  seen-parted b q =
      ap (watched t) trace ∙ (watched-push t (log w (Event.CallBegun p c)).trace e
      ∙ (parts (length (log w (Event.CallBegun p c)).trace) (watched t (log w (Event.CallBegun p c)).trace)
      ∙ (ap (λ (d : Bool). cond d (parted (watched t (log w (Event.CallBegun p c)).trace))
      (watched t (log w (Event.CallBegun p c)).trace)) q
      ∙ ap (λ (s : Watched). cond b (parted s) s) (watched-push t w.trace (Event.CallBegun p c)))))

module _ (t : TickOrRun) (p : ℕ) (w : World) (u : ℕ) where
  abbrev pub dropped : Done
  dropped = done (log (log w (Event.CallBegun p (Call.DropTick u))) (Event.TickDropped p u))
      (Op.Tick (TickOp.Leave (TickOrRun.Tick u)) ∷ Op.End Reply.Done (Hold.Tick u) ∷ [])

  view-dropped : (b : Bool) → eq_who t (TickOrRun.Tick u) ≡ b → view t dropped.world ≡ record (view t w) {
    seen = cond b (parted (inside p (watched t w.trace))) (inside p (watched t w.trace));
  }
  view-dropped b q = ap (λ (s : Watched). let v : View = record (view t w) { seen = s } in v)
      (seen-parted t (TickOrRun.Tick u) p w dropped.world (Call.DropTick u) (Event.TickDropped p u)
      (λ n s. refl) refl b q)

  pub other-dropped : t ≢ TickOrRun.Tick u → KeepsBy t w [] dropped (begun_in p)
  other-dropped x r m f h =
      subst (λ (y : View × Doing). Stands y.0 y.1 (begun_in p m))
      (λ i. (
        sym (view-dropped false (eq-other t (TickOrRun.Tick u) x)) i,
        (with-nothing t [] r (nothing-of t [] refl) ∙ sym (with-nothing t dropped.next r
            (nothing-both t (Op.Tick (TickOp.Leave (TickOrRun.Tick u)) ∷ []) (Op.End Reply.Done (Hold.Tick u) ∷ [])
            (nothing-leave t (TickOrRun.Tick u) x)
            (nothing-end t Reply.Done (Hold.Tick u) (other t (TickOrRun.Tick u) x))))) i,
      )) (stands-inside p (view t w) (with_doing t [] r) m h)

pub own-drop : (p : ℕ) (w : World) (u : ℕ) (r : Doing) (m : Mark) → (view (TickOrRun.Tick u) w).living ≡ true →
    (view (TickOrRun.Tick u) w).made ≡ true → r.used ≡ 0 → Footing (with_doing (TickOrRun.Tick u) [] r) r →
    Stands (view (TickOrRun.Tick u) w) (with_doing (TickOrRun.Tick u) [] r) m →
    Stands (view (TickOrRun.Tick u) (dropped (TickOrRun.Tick u) p w u).world)
    (with_doing (TickOrRun.Tick u) (dropped (TickOrRun.Tick u) p w u).next r) (begun_in p m)
own-drop p w u r m l d z f h =
    let t : TickOrRun = TickOrRun.Tick u in
    let one : same u u ≡ 1 = same_self u in
    subst (λ (y : View). Stands y (with_doing t (dropped t p w u).next r) (begun_in p m))
    (sym (view-dropped t p w u true (eq-self t)))
    (own-dropped t (record (view t w) { seen = inside p (watched t w.trace) }) (dropped t p w u).next r (begun_in p m) l
    d refl z (record {
      used = omega (arith, one);
      early = refl;
      pends = refl;
      refused = refl;
      found = refl;
      odd = refl;
      strays = λ k. refl;
      calls = λ k. refl;
    }) (omega (arith, one)) (omega (arith, one)) f
    (stands-inside p (view t w) (with_doing t [] r) m h))

-- the drop of a run

module _ (t : TickOrRun) (p : ℕ) (w : World) (q : ℕ) where
  abbrev base : World
  base = log w (Event.CallBegun p (Call.DropRun q))

  abbrev off : Run
  off = record (run_of w q) { dropped = true }

  abbrev pub parting : World
  parting = log (put_run base q off) (Event.RunDropped p q)

  seen-off : (b : Bool) → eq_who t (TickOrRun.Run q) ≡ b →
      watched t parting.trace ≡ cond b (parted (inside p (watched t w.trace))) (inside p (watched t w.trace))
  seen-off b k =
      seen-parted t (TickOrRun.Run q) p w parting (Call.DropRun q) (Event.RunDropped p q) (λ n s. refl) refl b k

  placed-off : (u : TickOrRun) → place_in u w.ticks parting.runs ≡ place_in u w.ticks w.runs
  placed-off (TickOrRun.Tick n) = refl
  placed-off (TickOrRun.Run r) = field-set (λ (x : Run). x.place) w.runs q off refl r

  made-off : (u : TickOrRun) → made_in u w.ticks parting.runs ≡ made_in u w.ticks w.runs
  made-off (TickOrRun.Tick n) = refl
  made-off (TickOrRun.Run r) = ap (nat_lt r) (count-set w.runs q off)

  over-off : (u : TickOrRun) → over_in u parting.runs ≡ over_in u w.runs
  over-off (TickOrRun.Tick n) = refl
  over-off (TickOrRun.Run r) = field-set (λ (x : Run). is_over_stage x.stage) w.runs q off refl r

  view-off : (b : Bool) → eq_who t (TickOrRun.Run q) ≡ b → view t parting ≡ record (view t w) {
    living = lives_in t w.ticks parting.runs;
    seen = cond b (parted (inside p (watched t w.trace))) (inside p (watched t w.trace));
  }
  view-off b k = λ i. record {
    slumbering = sleeps (placed-off t i);
    living = lives_in t w.ticks parting.runs;
    made = made-off t i;
    over = over-off t i;
    entries = sum (entry_of t) w.sleepers.wakers;
    misplaced = sum (misplaced_of t (placed-off t i)) w.sleepers.wakers;
    kept = λ j. sum (kept_of t j) w.sleepers.wakers;
    owned = owned_in t w.own;
    gone = w.gone;
    seen = seen-off b k i;
  }

lives-off : (t : TickOrRun) (p : ℕ) (w : World) (q : ℕ) → t ≢ TickOrRun.Run q →
    lives_in t w.ticks (parting t p w q).runs ≡ lives_in t w.ticks w.runs
lives-off (TickOrRun.Tick n) p w q x = refl
lives-off (TickOrRun.Run r) p w q x = ap (λ (y : Run). not y.dropped)
    (get_or-set_other w.runs q r (record (run_of w q) { dropped = true }) no_run
    (λ e. x (ap (λ (n : ℕ). TickOrRun.Run n) e)))

dropped-off : (p : ℕ) (w : World) (q : ℕ) →
    lives_in (TickOrRun.Run q) w.ticks (parting (TickOrRun.Run q) p w q).runs ≡ false
dropped-off p w q = by w.runs q
  where
    by : (rs : List Run) (q : ℕ) →
        not (get_or (set rs q (record (get_or rs q no_run) { dropped = true })) q no_run).dropped ≡ false
    by [] q = refl
    by (x ∷ rs) zero = refl
    by (x ∷ rs) (suc q) = by rs q

nothing-drop : (s : Stage) (t : TickOrRun) (q : ℕ) → t ≢ TickOrRun.Run q → Nothing t (drop_run s q)
nothing-drop New t q x = nothing-both t (Op.User (UserOp.DropOwn q) ∷ [])
    (Op.Run (RunOp.Reschedule q Reply.Done) ∷ []) (nothing-of t _ refl) (nothing-left t q Reply.Done x)
nothing-drop Listed t q x = nothing-both t (Op.User (UserOp.DropOwn q) ∷ [])
    (Op.List (ListOp.LockWrite (Section.Unregister q Reply.Done)) ∷ []) (nothing-of t _ refl)
    (nothing-locked t q Reply.Done x)
nothing-drop Ended t q x = nothing-both t (Op.Tick (TickOp.Leave (TickOrRun.Run q)) ∷ [])
    (Op.End Reply.Done (Hold.Run q) ∷ [])
    (nothing-leave t (TickOrRun.Run q) x) (nothing-end t Reply.Done (Hold.Run q) (other t (TickOrRun.Run q) x))

pub other-drop : (s : Stage) (t : TickOrRun) (p : ℕ) (w : World) (q : ℕ) → t ≢ TickOrRun.Run q →
    KeepsBy t w [] (done (parting t p w q) (drop_run s q)) (begun_in p)
other-drop s t p w q x r m f h =
    subst (λ (y : View × Doing). Stands y.0 y.1 (begun_in p m))
    (λ i. (
      sym (view-off t p w q false (eq-other t (TickOrRun.Run q) x)
          ∙ ap (λ (l : Bool). let v : View = record (view t w) { living = l; seen = inside p (watched t w.trace) } in v)
          (lives-off t p w q x)) i,
      (with-nothing t [] r (nothing-of t [] refl)
          ∙ sym (with-nothing t (drop_run s q) r (nothing-drop s t q x))) i,
    )) (stands-inside p (view t w) (with_doing t [] r) m h)

parts-run : (s : Stage) (q : ℕ) → Parts (TickOrRun.Run q) (drop_run s q)
parts-run New q = let one : same q q ≡ 1 = same_self q in record {
  used = omega (arith, one);
  early = refl;
  pends = refl;
  refused = refl;
  found = refl;
  odd = refl;
  strays = λ k. refl;
  calls = λ k. refl;
}
parts-run Listed q = let one : same q q ≡ 1 = same_self q in record {
  used = omega (arith, one);
  early = refl;
  pends = refl;
  refused = refl;
  found = refl;
  odd = refl;
  strays = λ k. refl;
  calls = λ k. refl;
}
parts-run Ended q = let one : same q q ≡ 1 = same_self q in record {
  used = omega (arith, one);
  early = refl;
  pends = refl;
  refused = refl;
  found = refl;
  odd = refl;
  strays = λ k. refl;
  calls = λ k. refl;
}

pub own-off : (s : Stage) (p : ℕ) (w : World) (q : ℕ) (r : Doing) (m : Mark) → (run_of w q).stage ≡ s →
    (view (TickOrRun.Run q) w).living ≡ true →
    (view (TickOrRun.Run q) w).made ≡ true → r.used ≡ 0 → Footing (with_doing (TickOrRun.Run q) [] r) r →
    Stands (view (TickOrRun.Run q) w) (with_doing (TickOrRun.Run q) [] r) m →
    Stands (view (TickOrRun.Run q) (parting (TickOrRun.Run q) p w q)) (with_doing (TickOrRun.Run q) (drop_run s q) r)
    (begun_in p m)
own-off s p w q r m e l d z f h =
    let t : TickOrRun = TickOrRun.Run q in
    subst (λ (y : View). Stands y (with_doing t (drop_run s q) r) (begun_in p m))
    (sym (view-off t p w q true (eq-self t)
    ∙ ap (λ (b : Bool). let v : View = record (view t w) {
      living = b;
      seen = parted (inside p
          (watched t w.trace));
    } in v)
    (dropped-off p w q)))
    (own-run_dropped t (record (view t w) { seen = inside p (watched t w.trace) }) (drop_run s q) r (begun_in p m) l d z
    (parts-run s q) (none s) (leaves s e) f (stands-inside p (view t w) (with_doing t [] r) m h))
  where
    none : (s : Stage) → weigh (drops_of (TickOrRun.Run q)) (drop_run s q) ≡ 0
    none New = refl
    none Listed = refl
    none Ended = refl

    leaves : (s : Stage) → (run_of w q).stage ≡ s →
        ((weigh (waking_up_of (TickOrRun.Run q)) (drop_run s q) ≡ 0) × (weigh (ends_of (TickOrRun.Run q)) (drop_run s q) ≡ 0))
        ⊎ ((weigh (waking_up_of (TickOrRun.Run q)) (drop_run s q) ≡ 1) × (over_in (TickOrRun.Run q) w.runs ≡ true))
    leaves New k = inl (refl, refl)
    leaves Listed k = inl (refl, refl)
    leaves Ended k = inr (let one : same q q ≡ 1 = same_self q in omega (arith, one), ap is_over_stage k)
