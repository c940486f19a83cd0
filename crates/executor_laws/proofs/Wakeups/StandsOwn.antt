-- For some_standing_is_called.
-- What the own steps of a tick or run keep, by what they change of it.
use Rattle.std.proofs.Common.{◌≡◌, ◌⊎◌, ◌∙◌, ℕ, suc, ◌+◌, ◌==◌, ◌≤◌, List, [], ◌∷◌, ◌++◌, Bool, true, false, cond, refl, sym}
use Rattle.std.proofs.Common.{subst, arith}
use Rattle.executor_laws.proofs.Types.{Reply, Hold, Look, Op, RunOp, TickOrRun, SleeperOp, TickOp, Waker}
use Rattle.executor_model.specs.{ActsOfSleepers.held_as, ActsOfSleepers.pend_as, Weights.same, Weights.weigh}
use Rattle.executor_model.proofs.{Steps.Lists.same_is, Steps.SleepersCounting.asleep}
use Rattle.executor_laws.proofs.Wakeups.Stands.{asks_of, calls_of, drops_of, drops_who, early_of, ends_of, found_of, odd_of}
use Rattle.executor_laws.proofs.Wakeups.Stands.{pends_of, refused_of, waking_up_of, strays_of, used_of, View, Doing, with_doing}
use Rattle.executor_laws.proofs.Wakeups.Stands.{with-nothing, Footing, Stands, Mark, Nothing}
use Rattle.executor_laws.proofs.Wakeups.Sitting.{eq_who, eq-self, holds_it, is_it, self}
use Rattle.executor_laws.proofs.Wakeups.Watched.{Watched, is_pending, is_refusal, parted, poll_begun}
use Rattle.executor_laws.proofs.Wakeups.StandsNothing.{end-parts, nothing-of, with-front, with-middle}

abbrev pub Own : TickOrRun → View → View → List Op → List Op → Type 0
Own t v v2 old next = (r : Doing) (m : Mark) → Footing (with_doing t old r) r → Stands v (with_doing t old r) m →
    Stands v2 (with_doing t next r) m

pub held-self : (t : TickOrRun) → holds_it t (held_as t) ≡ 1
held-self (TickOrRun.Tick t) = self (TickOrRun.Tick t)
held-self (TickOrRun.Run r) = self (TickOrRun.Run r)

pub held-other : (t u : TickOrRun) → holds_it t (held_as u) ≡ is_it t u
held-other t (TickOrRun.Tick u) = refl
held-other t (TickOrRun.Run q) = refl

-- what goes on with a poll as before, or wakes up for it first
pub record Goes (t : TickOrRun) (old next : List Op) : Type 0 where
  pub used : weigh (used_of t) next ≡ weigh (used_of t) old
  pub early : weigh (early_of t) next ≡ weigh (early_of t) old
  pub pends : weigh (pends_of t) next ≡ weigh (pends_of t) old
  pub refused : weigh (refused_of t) next ≡ weigh (refused_of t) old
  pub found : weigh (found_of t) next ≡ weigh (found_of t) old
  pub ends : weigh (ends_of t) next ≡ weigh (ends_of t) old
  pub drops : weigh (drops_of t) next ≡ weigh (drops_of t) old
  pub odd : weigh (odd_of t) next ≡ weigh (odd_of t) old
  pub strays : (k : ℕ) → weigh (strays_of t k) next ≤ weigh (strays_of t k) old
  pub calls : (k : ℕ) → weigh (calls_of t k) next ≡ weigh (calls_of t k) old
  pub waking_up : weigh (waking_up_of t) old ≤ weigh (waking_up_of t) next
  pub wakes_up : 1 ≤ weigh (waking_up_of t) next → 1 ≤ weigh (early_of t) next

-- no more of the own queue is there, or something uses it
pub own-goes : (t : TickOrRun) (n : ℕ) (v : View) (old next : List Op) → Goes t old next →
    (1 ≤ n → (1 ≤ v.owned) ⊎ (1 ≤ weigh (early_of t) next)) → Own t v (record v { owned = n }) old next
own-goes t n v old next g o r m b h =
    let s = g.strays v.seen.poll in let c = g.calls v.seen.poll in grind arith

-- a tick that finds a future, and is awake
pub own-found : (look : Look) (t : TickOrRun) (k f : ℕ) (a : Waker) (v : View) (next : List Op) → v.slumbering ≡ 0 → v.owned ≡ 0 →
    Nothing t next →
    Own t v v (Op.Tick (TickOp.Look (asleep a t k) look) ∷ []) (next ++ Op.End Reply.Ready (held_as t) ∷ [])
own-found look t k f a v next e o n r m b h =
    let y : holds_it t (held_as t) ≡ 1 = held-self t in
    let z : is_it t t ≡ 1 = self t in
    subst (λ (x : Doing). Stands v x m) (sym (with-front t next (Op.End Reply.Ready (held_as t) ∷ []) r n))
    (let g : Stands v (with_doing t (Op.End Reply.Ready (held_as t) ∷ []) r) m = grind arith in g)

-- a tick that sleeps, and wakes up first
pub own-waking_up : (look : Look) (t : TickOrRun) (k f : ℕ) (a : Waker) (v : View) (next : List Op) → v.owned ≡ 0 → Nothing t next →
    Own t v v (Op.Tick (TickOp.Look (asleep a t k) look) ∷ [])
    (Op.Tick (TickOp.WakeUp t) ∷ next ++ Op.End Reply.Ready (held_as t) ∷ [])
own-waking_up look t k f a v next o n r m b h =
    let y : holds_it t (held_as t) ≡ 1 = held-self t in
    let z : is_it t t ≡ 1 = self t in
    subst (λ (x : Doing). Stands v x m)
    (sym (with-middle t (Op.Tick (TickOp.WakeUp t)) next (Op.End Reply.Ready (held_as t) ∷ []) r n))
    (let g : Stands v (with_doing t (Op.Tick (TickOp.WakeUp t) ∷ Op.End Reply.Ready (held_as t) ∷ []) r) m = grind arith
    in g)

-- the copy of its waker is refused
pub own-refused : (t : TickOrRun) (k : ℕ) (a : Waker) (v : View) → v.over ≡ false →
    Own t v v (Op.Tick (TickOp.CopyWaker (asleep a t k)) ∷ []) (Op.End Reply.NoMemory (held_as t) ∷ [])
own-refused t k a v e r m b h =
    let y : holds_it t (held_as t) ≡ 1 = held-self t in
    let z : is_it t t ≡ 1 = self t in grind arith

-- it falls asleep, where it was awake
pub own-anew : (t : TickOrRun) (k : ℕ) (a : Waker) (v v2 : View) → v2.seen ≡ v.seen → v2.gone ≡ v.gone →
    v2.made ≡ v.made → v2.over ≡ v.over → v2.owned ≡ v.owned → v2.living ≡ v.living →
    v2.entries ≤ 1 → v2.misplaced ≡ 0 → v2.kept v.seen.poll ≡ v.kept v.seen.poll + same v.seen.poll k →
    Own t v v2 (Op.Tick (TickOp.FallAsleep (asleep a t k)) ∷ []) (Op.Tick (TickOp.Search (asleep a t k)) ∷ [])
own-anew t k a v v2 s g d o w l e p q r m b h =
    let z : is_it t t ≡ 1 = self t in
    let y : eq_who t t ≡ true = eq-self t in grind arith

-- its waker is there instead of the old one
pub own-again : (t : TickOrRun) (k : ℕ) (a : Waker) (v v2 : View) → v.over ≡ false → v2.seen ≡ v.seen →
    v2.gone ≡ v.gone → v2.made ≡ v.made → v2.over ≡ v.over → v2.owned ≡ v.owned →
    v2.living ≡ v.living → v2.slumbering ≡ v.slumbering → v2.entries ≤ 1 → v2.misplaced ≡ 0 →
    same v.seen.poll k ≤ v2.kept v.seen.poll →
    Own t v v2 (Op.Tick (TickOp.FallAsleep (asleep a t k)) ∷ []) (pend_as t)
own-again t k a v v2 n s g d o w l l0 e p q r m b h =
    let x : holds_it t (held_as t) ≡ 1 = held-self t in
    let z : is_it t t ≡ 1 = self t in
    let y : eq_who t t ≡ true = eq-self t in
    grind (arith, same_is)

pub own-nowhere : (t : TickOrRun) (k : ℕ) (a : Waker) (v : View) → v.over ≡ false →
    Own t v v (Op.Tick (TickOp.FallAsleep (asleep a t k)) ∷ [])
    (Op.Sleeper (SleeperOp.CallSleeper (asleep a t k)) ∷ pend_as t)
own-nowhere t k a v n r m b h =
    let x : holds_it t (held_as t) ≡ 1 = held-self t in
    let z : is_it t t ≡ 1 = self t in
    let y : eq_who t t ≡ true = eq-self t in
    grind (arith, same_is)

-- it wakes up
pub own-up : (t : TickOrRun) (v v2 : View) → v2.seen ≡ v.seen → v2.gone ≡ v.gone → v2.made ≡ v.made →
    v2.over ≡ v.over → v2.owned ≡ v.owned → v2.living ≡ v.living → v2.slumbering ≡ 0 → v2.entries ≤ 1 →
    v2.misplaced ≡ 0 → Own t v v2 (Op.Tick (TickOp.WakeUp t) ∷ []) []
own-up t v v2 s g d o w l l0 e p r m b h = let z : is_it t t ≡ 1 = self t in grind arith

-- it leaves; a tick lives no more
pub own-leave : (t : TickOrRun) (v v2 : View) → v2.seen ≡ v.seen → v2.gone ≡ v.gone → v2.made ≡ v.made →
    v2.over ≡ v.over → v2.owned ≡ v.owned →
    ((v2.living ≡ false) × (drops_who t t ≡ 1)) ⊎ ((v2.living ≡ v.living) × (drops_who t t ≡ 0)) → v2.slumbering ≡ 0 →
    v2.entries ≤ 1 → v2.misplaced ≡ 0 → Own t v v2 (Op.Tick (TickOp.Leave t) ∷ []) []
own-leave t v v2 s g d o w l l0 e p r m b h = let z : is_it t t ≡ 1 = self t in grind arith

-- its waker leaves the list, and is called
pub own-hand_out : (t : TickOrRun) (k : ℕ) (a : Waker) (v v2 : View) → v2.seen ≡ v.seen → v2.gone ≡ v.gone →
    v2.made ≡ v.made → v2.over ≡ v.over → v2.owned ≡ v.owned → v2.living ≡ v.living → v2.slumbering ≡ v.slumbering →
    v2.entries ≤ v.entries → v2.misplaced ≤ v.misplaced →
    v2.kept v.seen.poll + same v.seen.poll k ≡ v.kept v.seen.poll →
    Own t v v2 (Op.Sleeper SleeperOp.HandOut ∷ []) (Op.Sleeper (SleeperOp.CallSleeper (asleep a t k)) ∷ [])
own-hand_out t k a v v2 s g d o w l l0 e p q r m b h = let y : eq_who t t ≡ true = eq-self t in grind arith

pub own-call : (t : TickOrRun) (k : ℕ) (a : Waker) (v v2 : View) →
    v2.seen ≡ record v.seen { called = cond (v.seen.poll == k) true v.seen.called } →
    v2.gone ≡ v.gone → v2.made ≡ v.made → v2.over ≡ v.over → v2.owned ≡ v.owned → v2.living ≡ v.living →
    v2.slumbering ≡ v.slumbering → v2.entries ≡ v.entries → v2.misplaced ≡ v.misplaced → v2.kept ≡ v.kept →
    Own t v v2 (Op.Sleeper (SleeperOp.CallSleeper (asleep a t k)) ∷ []) []
own-call t k a v v2 s g d o w l l0 e p q r m b h = let y : eq_who t t ≡ true = eq-self t in grind (arith, same_is)

pub own-front : (t : TickOrRun) (v v2 : View) (old xs next : List Op) → Nothing t xs → Own t v v2 old next →
    Own t v v2 old (xs ++ next)
own-front t v v2 old xs next n k r m b h = subst (λ (x : Doing). Stands v2 x m) (sym (with-front t xs next r n))
    (k r m b h)

-- what follows has nothing to do with it
pub own-then : (t : TickOrRun) (v v2 : View) (old xs : List Op) → Nothing t xs → Own t v v2 old [] → Own t v v2 old xs
own-then t v v2 old xs n k r m b h =
    subst (λ (x : Doing). Stands v2 x m) (with-nothing t [] r (nothing-of t [] refl) ∙ sym (with-nothing t xs r n))
    (k r m b h)

-- it is made
made-so : (t : TickOrRun) (v v2 : View) (next : List Op) (r : Doing) (m : Mark) → v2.seen ≡ v.seen → v2.gone ≡ false →
    v.made ≡ false → v.living ≡ false → v2.made ≡ true → v2.over ≡ false → v2.owned ≡ 0 → v2.living ≡ true →
    v2.slumbering ≡ 0 → v2.entries ≤ 1 → v2.misplaced ≡ 0 → weigh (used_of t) next ≤ 1 →
    weigh (ends_of t) next ≡ weigh (used_of t) next → weigh (early_of t) next ≡ 0 → weigh (pends_of t) next ≡ 0 →
    weigh (refused_of t) next ≡ 0 → weigh (found_of t) next ≡ 0 → weigh (waking_up_of t) next ≡ 0 →
    weigh (drops_of t) next ≡ 0 → weigh (odd_of t) next ≡ 0 → weigh (strays_of t v.seen.poll) next ≡ 0 →
    r.early + (r.pends + (r.refused + (r.found + r.ends))) ≤ r.used → (1 ≤ r.waking_up → 1 ≤ r.used) → Stands v r m →
    Stands v2 (with_doing t next r) m
made-so t v v2 next r m s g2 d d1 d2 o w l ly e p u en z1 z2 z3 z4 z5 z6 z7 z8 b1 b2 h = grind arith

pub own-made : (t : TickOrRun) (v v2 : View) (old next : List Op) → v2.seen ≡ v.seen → v.gone ≡ false →
    v2.gone ≡ false → v.made ≡ false → v.living ≡ false → v2.made ≡ true → v2.over ≡ false → v2.owned ≡ 0 →
    v2.living ≡ true → v2.slumbering ≡ 0 → v2.entries ≤ 1 → v2.misplaced ≡ 0 → v2.kept ≡ v.kept → Nothing t old →
    weigh (used_of t) next ≤ 1 →
    weigh (ends_of t) next ≡ weigh (used_of t) next →
    weigh (early_of t) next ≡ 0 → weigh (pends_of t) next ≡ 0 → weigh (refused_of t) next ≡ 0 →
    weigh (found_of t) next ≡ 0 → weigh (waking_up_of t) next ≡ 0 → weigh (drops_of t) next ≡ 0 →
    weigh (odd_of t) next ≡ 0 → ((k : ℕ) → weigh (strays_of t k) next ≡ 0) →
    ((k : ℕ) → weigh (calls_of t k) next ≡ 0) → Own t v v2 old next
own-made t v v2 old next s g g2 d d1 d2 o w l ly e p q n u en z1 z2 z3 z4 z5 z6 z7 z8 z9 r m b h =
    made-so t v v2 next r m s g2 d d1 d2 o w l ly e p u en z1 z2 z3 z4 z5 z6 z7 (z8 v.seen.poll) b.base b.bound
    (subst (λ (x : Doing). Stands v x m) (with-nothing t old r n) h)

-- a call of it begins

-- a poll, which is poll n
pub record Opens (t : TickOrRun) (n : ℕ) (next : List Op) : Type 0 where
  pub used : weigh (used_of t) next ≡ 1
  pub early : weigh (early_of t) next ≡ 1
  pub pends : weigh (pends_of t) next ≡ 0
  pub refused : weigh (refused_of t) next ≡ 0
  pub found : weigh (found_of t) next ≡ 0
  pub ends : weigh (ends_of t) next ≡ 0
  pub waking_up : weigh (waking_up_of t) next ≡ 0
  pub drops : weigh (drops_of t) next ≡ 0
  pub odd : weigh (odd_of t) next ≡ 0
  pub strays : weigh (strays_of t n) next ≡ 0
  pub calls : (k : ℕ) → weigh (calls_of t k) next ≡ 0

pub own-polled : (t : TickOrRun) (n p : ℕ) (v : View) (next : List Op) (r : Doing) (m : Mark) → v.living ≡ true →
    v.made ≡ true → r.used ≡ 0 → Opens t n next → Footing (with_doing t [] r) r → Stands v (with_doing t [] r) m →
    Stands (record v { seen = poll_begun n p v.seen }) (with_doing t next r)
    (record { asking = true; party = p; inner = 0; asks = suc m.asks })
own-polled t n p v next r m l d z o b h = let k : r.strays n ≡ 0 = omega (arith, b.few n, b.stages, z) in grind arith

-- a poll of a run that was ready before
pub own-finished : (t : TickOrRun) (n p : ℕ) (v : View) (next : List Op) (r : Doing) (m : Mark) → v.living ≡ true →
    v.made ≡ true → v.over ≡ true → r.used ≡ 0 → weigh (used_of t) next ≡ 1 → weigh (found_of t) next ≡ 1 →
    weigh (early_of t) next ≡ 0 → weigh (pends_of t) next ≡ 0 → weigh (refused_of t) next ≡ 0 →
    weigh (ends_of t) next ≡ 0 → weigh (waking_up_of t) next ≡ 0 → weigh (drops_of t) next ≡ 0 →
    weigh (odd_of t) next ≡ 0 → weigh (strays_of t n) next ≡ 0 → ((k : ℕ) → weigh (calls_of t k) next ≡ 0) →
    Footing (with_doing t [] r) r → Stands v (with_doing t [] r) m →
    Stands (record v { seen = poll_begun n p v.seen }) (with_doing t next r)
    (record { asking = true; party = p; inner = 0; asks = suc m.asks })
own-finished t n p v next r m l d o z a f c1 c2 c3 c4 c5 c6 c7 c8 c9 b h =
    let k : r.strays n ≡ 0 = omega (arith, b.few n, b.stages, z) in grind arith

-- its drop
pub record Parts (t : TickOrRun) (next : List Op) : Type 0 where
  pub used : weigh (used_of t) next ≡ 1
  pub early : weigh (early_of t) next ≡ 0
  pub pends : weigh (pends_of t) next ≡ 0
  pub refused : weigh (refused_of t) next ≡ 0
  pub found : weigh (found_of t) next ≡ 0
  pub odd : weigh (odd_of t) next ≡ 0
  pub strays : (k : ℕ) → weigh (strays_of t k) next ≡ 0
  pub calls : (k : ℕ) → weigh (calls_of t k) next ≡ 0

-- of a tick
pub own-dropped : (t : TickOrRun) (v : View) (next : List Op) (r : Doing) (m : Mark) → v.living ≡ true → v.made ≡ true →
    v.owned ≡ 0 → r.used ≡ 0 → Parts t next → weigh (waking_up_of t) next ≡ 1 → weigh (drops_of t) next ≡ 1 →
    Footing (with_doing t [] r) r → Stands v (with_doing t [] r) m →
    Stands (record v { seen = parted v.seen }) (with_doing t next r) m
own-dropped t v next r m l d w z o y x b h =
    let s = o.strays v.seen.poll in let c = o.calls v.seen.poll in grind arith

-- of a run, which leaves at once where it is over
pub own-run_dropped : (t : TickOrRun) (v : View) (next : List Op) (r : Doing) (m : Mark) → v.living ≡ true →
    v.made ≡ true → r.used ≡ 0 → Parts t next → weigh (drops_of t) next ≡ 0 →
    ((weigh (waking_up_of t) next ≡ 0) × (weigh (ends_of t) next ≡ 0)) ⊎
    ((weigh (waking_up_of t) next ≡ 1) × (v.over ≡ true)) → Footing (with_doing t [] r) r →
    Stands v (with_doing t [] r) m →
    Stands (record v { living = false; seen = parted v.seen }) (with_doing t next r) m
own-run_dropped t v next r m l d z o y x b h =
    let s = o.strays v.seen.poll in let c = o.calls v.seen.poll in grind arith

-- a run leaves the list, and is over
pub own-over : (t : TickOrRun) (v : View) (c : Bool) (old next : List Op) → Goes t old next →
    1 ≤ weigh (used_of t) old → weigh (pends_of t) old ≡ 0 → weigh (refused_of t) old ≡ 0 →
    Own t v (record v { over = c }) old next
own-over t v c old next g u y z r m b h =
    let s = g.strays v.seen.poll in let e = g.calls v.seen.poll in grind arith

-- it calls its own waker
pub own-woken : (t : TickOrRun) (k : ℕ) (v : View) (old next : List Op) → v.over ≡ false →
    weigh (used_of t) old ≡ 1 → weigh (early_of t) old ≡ 1 →
    weigh (strays_of t v.seen.poll) old ≡ cond (v.seen.poll == k) 0 1 →
    weigh (used_of t) next ≡ 1 → weigh (pends_of t) next ≡ 1 → weigh (early_of t) next ≡ 0 →
    weigh (refused_of t) next ≡ 0 → weigh (found_of t) next ≡ 0 → weigh (ends_of t) next ≡ 0 →
    weigh (waking_up_of t) next ≡ 0 → weigh (drops_of t) next ≡ 0 → weigh (odd_of t) next ≡ 0 →
    ((j : ℕ) → weigh (strays_of t j) next ≡ 0) → ((j : ℕ) → weigh (calls_of t j) next ≡ 0) →
    ((j : ℕ) → weigh (calls_of t j) old ≡ 0) →
    Own t v (record v { seen = record v.seen { called = cond (v.seen.poll == k) true v.seen.called } }) old next
own-woken t k v old next o a c d e f g1 g2 g3 g4 g5 g6 g7 g8 g9 g10 r m b h =
    let x = g8 v.seen.poll in let y = g9 v.seen.poll in let z = g10 v.seen.poll in grind arith

-- the end of a call

module _ (t : TickOrRun) (a : Reply) (held : Hold) (v : View) (r : Doing) (m : Mark)
    (b : Footing (with_doing t (Op.End a held ∷ []) r) r)
    (h : Stands v (with_doing t (Op.End a held ∷ []) r) m) where
  abbrev pub Ended : Watched → Type 0
  Ended s = Stands (record v { seen = s }) (with_doing t [] r)
      (record {
        asking = s.asking;
        party = s.party;
        inner = s.inner;
        asks = r.early + (r.pends + (r.refused + r.found));
      })

  -- it ends no poll of it
  pub own-within : (n : ℕ) → asks_of t (Op.End a held) ≡ 0 → Ended (record v.seen { inner = n })
  own-within n z = let p : _ = end-parts a (holds_it t held) in grind arith

  pub own-apart : asks_of t (Op.End a held) ≡ 0 → Ended v.seen
  own-apart z = let p : _ = end-parts a (holds_it t held) in grind arith

-- it ends one
pub own-ended : (a : Reply) (t : TickOrRun) (held : Hold) (v : View) (r : Doing) (m : Mark) →
    1 ≤ asks_of t (Op.End a held) →
    Footing (with_doing t (Op.End a held ∷ []) r) r → Stands v (with_doing t (Op.End a held ∷ []) r) m →
    Stands (record v { seen = record v.seen { asking = false; pending = is_pending a; refused = is_refusal a } })
    (with_doing t [] r)
    (record {
      asking = false;
      party = v.seen.party;
      inner = v.seen.inner;
      asks = r.early + (r.pends + (r.refused + r.found));
    })
own-ended Reply.Pending t held v r m k b h = grind arith
own-ended Reply.NoMemory t held v r m k b h = grind arith
own-ended Reply.Ready t held v r m k b h = grind arith
own-ended Reply.Finished t held v r m k b h = grind arith
own-ended _ t held v r m k b h = absurd (omega (arith, k))

-- a run has scheduled what was left in its queue
pub own-scheduled : (a : Reply) (q : ℕ) (v : View) (r : Doing) (m : Mark) → v.owned ≡ 0 →
    Footing (with_doing (TickOrRun.Run q) (Op.Run (RunOp.Reschedule q a) ∷ []) r) r →
    Stands v (with_doing (TickOrRun.Run q) (Op.Run (RunOp.Reschedule q a) ∷ []) r) m →
    Stands v (with_doing (TickOrRun.Run q)
    (Op.Tick (TickOp.Leave (TickOrRun.Run q)) ∷ Op.End a (Hold.Run q) ∷ []) r) m
own-scheduled Reply.Pending q v r m o b h = let z : same q q ≡ 1 = self (TickOrRun.Run q) in
    absurd (omega (arith, h.even, z))
own-scheduled Reply.NoMemory q v r m o b h = let z : same q q ≡ 1 = self (TickOrRun.Run q) in
    absurd (omega (arith, h.even, z))
own-scheduled _ q v r m o b h = let z : same q q ≡ 1 = self (TickOrRun.Run q) in grind arith
