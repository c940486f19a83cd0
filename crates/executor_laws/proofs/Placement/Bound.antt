-- For due_futures_stand_with_their_keepers.
-- At every moment a future that stands in a run's own queue came there last, since its last poll began; and one that came
-- to a run that is neither dropped nor ready isn't in the executor's queue.
use Rattle.std.proofs.Common.{◌≡◌, ◌⊎◌, ◌∙◌, inl, inr, ⊎_elim, ℕ, ◌<◌, ◌≤◌, [], ◌∷◌, ◌++◌, length, Bool, true, false, eqb, cond}
use Rattle.std.proofs.Common.{refl, sym, ap, subst, arith}
use Rattle.std.proofs.lemmas.Bool.Decides.{nat_tests}
use Rattle.executor_model.specs.World.{World, Ended, own_of, run_of}
use Rattle.executor_model.specs.{Keeper.is_run_drop, Sound.Pend, Sound.times, Trace.Trace, Trace.has}
use Rattle.executor_model.proofs.Steps.TraceGrows.{Grows, is_ordinary}
use Rattle.executor_model.proofs.{OwnQueues.UsingWorlds.is_past, Steps.TraceMore.over-more}
use Rattle.executor_laws.proofs.Placement.Bonds.{Bond, binds, bond, bond-push}
use Rattle.executor_laws.proofs.{Types.Event, Placement.Ran.has-same, Placement.Safe.Safe}

abbrev pub kept : ℕ → World → Type 0
kept f w = (bond f w.trace).kept ≡ true

abbrev pub keeper : ℕ → World → ℕ
keeper f w = (bond f w.trace).run

pub record Bound (w : World) (f : ℕ) (p : Pend) (appends : ℕ) : Type 0 where
  pub own : (r : ℕ) → 1 ≤ times f (own_of w r) → kept f w → keeper f w ≡ r
  pub lost : (r : ℕ) → 1 ≤ times f (own_of w r) → (bond f w.trace).kept ≡ false → is_past (run_of w r) ≡ true
  pub known : kept f w → keeper f w < length w.runs
  pub undropped : kept f w → has (is_run_drop (keeper f w)) w.trace ≡ false
  pub away : kept f w → Safe w f p appends ⊎ ((run_of w (keeper f w)).stage ≡ Ended)

-- what tells of a future's coming into an own queue, of its poll or of a run's drop
abbrev pub is_bond : Event → Bool
is_bond (Event.Kept p f r) = true
is_bond (Event.PollBegun p f) = true
is_bond (Event.RunDropped p r) = true
is_bond _ = false

pub ordinary-bond : (e : Event) → is_ordinary e ≡ true → is_bond e ≡ false
ordinary-bond (Event.PollBegun p f) z = absurd (cc)
ordinary-bond (Event.RunDropped p r) z = absurd (cc)
ordinary-bond (Event.Kept p f r) z = absurd (cc)
ordinary-bond _ z = refl

binds-none : (f n : ℕ) (e : Event) (s : Bond) → is_bond e ≡ false → binds f n e s ≡ s
binds-none f n (Event.PollBegun p g) s z = absurd (cc)
binds-none f n (Event.RunDropped p r) s z = absurd (cc)
binds-none f n (Event.Kept p g r) s z = absurd (cc)
binds-none f n _ s z = refl

drops-none : (r : ℕ) (e : Event) → is_bond e ≡ false → is_run_drop r e ≡ false
drops-none r (Event.RunDropped p q) z = absurd (cc)
drops-none r _ z = refl

-- such a trace tells the same
pub record Tied (f : ℕ) (es now : Trace) : Type 0 where
  pub bond : bond f now ≡ bond f es
  pub drops : (r : ℕ) → has (is_run_drop r) now ≡ has (is_run_drop r) es

pub tied-same : (f : ℕ) (es now : Trace) → now ≡ es → Tied f es now
tied-same f es now e =
    record { bond = ap (bond f) e; drops = λ r. ap (has (is_run_drop r)) e }

pub tied-one : (f : ℕ) (es now : Trace) (e : Event) → is_bond e ≡ false → Tied f es now → Tied f es (now ++ e ∷ [])
tied-one f es now e z h = record {
  bond = bond-push f now e ∙ (binds-none f (length now) e (bond f now) z ∙ h.bond);
  drops = λ r. has-same (is_run_drop r) now e (drops-none r e z) ∙ h.drops r;
}

pub tied-grows : (f : ℕ) (w v : World) → Grows is_bond ordinary-bond w v → Tied f w.trace v.trace
tied-grows f w v g =
    subst (Tied f w.trace) (sym g.is) (over-more (Tied f w.trace) is_bond (λ now e k h. tied-one f w.trace now e k h)
    w.trace g.more g.none (tied-same f w.trace w.trace refl))

-- a poll of another future begins
pub tied-other : (f p g : ℕ) (es : Trace) → eqb f g ≡ false → Tied f es (es ++ Event.PollBegun p g ∷ [])
tied-other f p g es z = record {
  bond = bond-push f es (Event.PollBegun p g) ∙ by (eqb f g) z;
  drops = λ r. has-same (is_run_drop r) es (Event.PollBegun p g) refl;
}
  where
    by : (b : Bool) → b ≡ false → cond b (record (bond f es) { kept = false }) (bond f es) ≡ bond f es
    by true q = absurd (cc)
    by false q = refl

-- another future comes into an own queue
pub tied-kept : (f p g r : ℕ) (es : Trace) → eqb f g ≡ false → Tied f es (es ++ Event.Kept p g r ∷ [])
tied-kept f p g r es z = record {
  bond = bond-push f es (Event.Kept p g r) ∙ by (eqb f g) z;
  drops = λ n. has-same (is_run_drop n) es (Event.Kept p g r) refl;
}
  where
    by : (b : Bool) → b ≡ false →
        cond b (record { kept = true; run = r; party = p; place = length es }) (bond f es) ≡ bond f es
    by true q = absurd (cc)
    by false q = refl

-- what is done tells nothing of f, brings it into no own queue and leaves what is past so
pub bound-same : (w v : World) (f : ℕ) (p x : Pend) (n m : ℕ) → Tied f w.trace v.trace →
    ((r : ℕ) → times f (own_of v r) ≤ times f (own_of w r)) →
    ((r : ℕ) → 1 ≤ times f (own_of w r) → is_past (run_of w r) ≡ true → is_past (run_of v r) ≡ true) →
    length w.runs ≤ length v.runs →
    ((r : ℕ) → r < length w.runs → (run_of w r).stage ≡ Ended → (run_of v r).stage ≡ Ended) →
    (kept f w → Safe w f p n → Safe v f x m ⊎ ((run_of v (keeper f w)).stage ≡ Ended)) → Bound w f p n → Bound v f x m
bound-same w v f p x n m t own past count stage safe h =
    let same_bond : bond f v.trace ≡ bond f w.trace = t.bond in
    let was : kept f v → kept f w = λ k. ap (λ (b : Bond). b.kept) (sym same_bond) ∙ k in
    let run : keeper f v ≡ keeper f w = ap (λ (b : Bond). b.run) same_bond in record {
      own = λ r z k. run ∙ h.own r (omega (arith, z, own r)) (was k);
      lost = λ r z k. past r (omega (arith, z, own r))
          (h.lost r (omega (arith, z, own r)) (ap (λ (b : Bond). b.kept) (sym same_bond) ∙ k));
      known = λ k. omega (arith, run, h.known (was k), count);
      undropped = λ k. ap (λ (r : ℕ). has (is_run_drop r) v.trace) run
          ∙ (t.drops (keeper f w) ∙ h.undropped (was k));
      away = λ k. subst (λ (r : ℕ). Safe v f x m ⊎ ((run_of v r).stage ≡ Ended)) (sym run) (⊎_elim
          (λ (y : Safe w f p n). safe (was k) y)
          (λ (y : (run_of w (keeper f w)).stage ≡ Ended). inr (stage (keeper f w) (h.known (was k)) y))
          (h.away (was k)));
    }

-- its poll begins
pub bound-polled : (w v : World) (f : ℕ) (p x : Pend) (n m q : ℕ) → v.trace ≡ w.trace ++ Event.PollBegun q f ∷ [] →
    ((r : ℕ) → times f (own_of v r) ≡ 0) → Bound v f x m
bound-polled w v f p x n m q e none =
    let loose : (bond f v.trace).kept ≡ false =
    ap (λ (t : Trace). (bond f t).kept) e ∙ (ap (λ (b : Bond). b.kept) (bond-push f w.trace (Event.PollBegun q f))
    ∙ by (eqb f f) (grind (arith, nat_tests))) in
    let no : kept f v → ⊥ = λ k. (let z : true ≡ false = sym k ∙ loose in cc) in record {
      own = λ r z k. absurd (no k);
      lost = λ r z k. absurd (omega (arith, z, none r));
      known = λ k. absurd (no k);
      undropped = λ k. absurd (no k);
      away = λ k. absurd (no k);
    }
  where
    by : (b : Bool) → b ≡ true → (cond b (record (bond f w.trace) { kept = false }) (bond f w.trace)).kept ≡ false
    by true z = refl
    by false z = absurd (cc)

-- it comes into the own queue of run r
pub bound-kept : (w v : World) (f : ℕ) (x : Pend) (m q r : ℕ) → v.trace ≡ w.trace ++ Event.Kept q f r ∷ [] →
    ((n : ℕ) → 1 ≤ times f (own_of v n) → n ≡ r) → r < length v.runs → has (is_run_drop r) w.trace ≡ false → Safe v f x m →
    Bound v f x m
bound-kept w v f x m q r e only known undropped safe =
    let now : bond f v.trace ≡ record { kept = true; run = r; party = q; place = length w.trace } =
    ap (bond f) e ∙ (bond-push f w.trace (Event.Kept q f r) ∙ by (eqb f f) (grind (arith, nat_tests))) in
    let run : keeper f v ≡ r = ap (λ (b : Bond). b.run) now in record {
      own = λ n z k. run ∙ sym (only n z);
      lost = λ n z k. absurd (let no : true ≡ false = sym (ap (λ (b : Bond). b.kept) now) ∙ k in cc);
      known = λ k. omega (arith, run, known);
      undropped = λ k. ap (λ (n : ℕ). has (is_run_drop n) v.trace) run
          ∙ (ap (has (is_run_drop r)) e ∙ (has-same (is_run_drop r) w.trace (Event.Kept q f r) refl ∙ undropped));
      away = λ k. inl safe;
    }
  where
    by : (b : Bool) → b ≡ true →
        cond b (record { kept = true; run = r; party = q; place = length w.trace }) (bond f w.trace)
        ≡ record { kept = true; run = r; party = q; place = length w.trace }
    by true z = refl
    by false z = absurd (cc)

-- a run is dropped
pub bound-drop : (w v : World) (f : ℕ) (p x : Pend) (n m q d : ℕ) (es : Trace) → Tied f w.trace es →
    v.trace ≡ es ++ Event.RunDropped q d ∷ [] → ((r : ℕ) → own_of v r ≡ own_of w r) →
    ((r : ℕ) → is_past (run_of w r) ≡ true → is_past (run_of v r) ≡ true) → is_past (run_of v d) ≡ true →
    length v.runs ≡ length w.runs → ((r : ℕ) → (run_of v r).stage ≡ (run_of w r).stage) →
    (Safe w f p n → Safe v f x m) → Bound w f p n → Bound v f x m
bound-drop w v f p x n m q d es t e own past now count stage safe h = by (eqb (keeper f w) d) refl
  where
    e2 : Event
    e2 = Event.RunDropped q d

    told : bond f v.trace ≡ binds f (length es) (Event.RunDropped q d) (bond f w.trace)
    told = ap (bond f) e ∙ (bond-push f es (Event.RunDropped q d)
        ∙ ap (binds f (length es) (Event.RunDropped q d)) t.bond)

    times-same : (r : ℕ) → times f (own_of v r) ≡ times f (own_of w r)
    times-same r = ap (times f) (own r)

    by : (b : Bool) → eqb (keeper f w) d ≡ b → Bound v f x m
    by true z =
        let here : keeper f w ≡ d = grind (arith, nat_tests) in
        let loose : (bond f v.trace).kept ≡ false = ap (λ (y : Bond). y.kept) told ∙ pick (eqb (keeper f w) d) z in
        let no : kept f v → ⊥ = λ k. (let y : true ≡ false = sym k ∙ loose in cc) in record {
          own = λ r y k. absurd (no k);
          lost = λ r y k. was (bond f w.trace).kept refl r (omega (arith, y, times-same r)) here;
          known = λ k. absurd (no k);
          undropped = λ k. absurd (no k);
          away = λ k. absurd (no k);
        }
      where
        pick : (b : Bool) → b ≡ true →
            (cond b (record (bond f w.trace) { kept = false }) (bond f w.trace)).kept ≡ false
        pick true y = refl
        pick false y = absurd (cc)

        was : (k : Bool) → (bond f w.trace).kept ≡ k → (r : ℕ) → 1 ≤ times f (own_of w r) → keeper f w ≡ d →
            is_past (run_of v r) ≡ true
        was true k r y i = ap (λ (j : ℕ). is_past (run_of v j)) (sym (h.own r y k) ∙ i) ∙ now
        was false k r y i = past r (h.lost r y k)
    by false z =
        let stays : bond f v.trace ≡ bond f w.trace = told ∙ pass (eqb (keeper f w) d) z in
        let was : kept f v → kept f w = λ k. ap (λ (y : Bond). y.kept) (sym stays) ∙ k in
        let run : keeper f v ≡ keeper f w = ap (λ (y : Bond). y.run) stays in record {
          own = λ r y k. run ∙ h.own r (omega (arith, y, times-same r)) (was k);
          lost = λ r y k. past r
              (h.lost r (omega (arith, y, times-same r)) (ap (λ (u : Bond). u.kept) (sym stays) ∙ k));
          known = λ k. omega (arith, run, h.known (was k), count);
          undropped = λ k. ap (λ (r : ℕ). has (is_run_drop r) v.trace) run
              ∙ (ap (has (is_run_drop (keeper f w))) e
              ∙ (has-same (is_run_drop (keeper f w)) es (Event.RunDropped q d) z
              ∙ (t.drops (keeper f w) ∙ h.undropped (was k))));
          away = λ k. subst (λ (r : ℕ). Safe v f x m ⊎ ((run_of v r).stage ≡ Ended)) (sym run) (⊎_elim
              (λ (y : Safe w f p n). inl (safe y))
              (λ (y : (run_of w (keeper f w)).stage ≡ Ended). inr (stage (keeper f w) ∙ y))
              (h.away (was k)));
        }
      where
        pass : (b : Bool) → b ≡ false →
            cond b (record (bond f w.trace) { kept = false }) (bond f w.trace) ≡ bond f w.trace
        pass true y = absurd (cc)
        pass false y = refl
