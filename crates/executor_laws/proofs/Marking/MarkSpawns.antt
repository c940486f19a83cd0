-- For futures_are_marked_as_spawned.
-- What asks for a place has the mark of the spawn that it is done for, and so has the future that is taken in.
use Rattle.std.proofs.Common.{◌≡◌, ⊎_elim, ◌∙◌, ℕ, zero, suc, ◌+◌, ◌<◌, ◌≤◌, List, [], ◌∷◌, ◌++◌, length, take, Bool, true}
use Rattle.std.proofs.Common.{false, cond, refl, sym, ap, subst, arith, append-nil, length-append}
use Rattle.std.proofs.lemmas.List.{append_cancel_left, reverse-append, take_at}
use Rattle.std.specs.Prelude.{Option, Some, reverse, slice_get, slice_index_or}
use Rattle.executor_parts.specs.Marks.{same_mark}
use Rattle.executor_laws.proofs.Types.{Mark, Plain, Urgent, Call, Reply, Event, Kind, Hold, Op, TableOp, Waker, Step}
use Rattle.executor_model.specs.Calls.{Begun, Ended, calls}
use Rattle.executor_model.specs.Steps.{Machine, accepts, begun, below_top, mine, react, run, stack, start, step, stepped, top}
use Rattle.executor_model.specs.World.{Done, World, done, log, mark_of}
use Rattle.executor_model.specs.{Acts.enter_by, ClosingOrder.accepted_in, Doing.act, Good.Good, Trace.Trace, Weights.weigh}
use Rattle.executor_laws.specs.Looks.{IsMarkedAsSpawned}
use Rattle.executor_model.proofs.Promises.CallFrames.{Frames, Tied, passes-react}
use Rattle.executor_model.proofs.Promises.FrameWays.{frames-end, frames-start, frames-way}
use Rattle.executor_model.proofs.SpawnWants.WantFrames.{Enters, asks-place, unended}
use Rattle.executor_model.proofs.{Promises.CallFits.fit-act, Promises.CallFits.fit-react, Promises.CallServes.misfit}
use Rattle.executor_model.proofs.{Promises.CallServes.spawns, Quiet.Calls.Passes, Quiet.Calls.calling_of, Quiet.Calls.is_end}
use Rattle.executor_model.proofs.{Quiet.CallsDone.fit-begun, Quiet.CallsGroups.calls-act, Quiet.Resting.calling-is}
use Rattle.executor_model.proofs.{Steps.Lift.good-start, Steps.Lift.topped, Steps.Lift.unsettled, Steps.Lists.weigh-append}
use Rattle.executor_model.proofs.{Steps.Lists.weigh-below, Steps.Reached.Reached, Steps.TraceSteps.continues, Steps.Ways.Way}
use Rattle.executor_model.proofs.{Steps.Ways.along, Steps.Ways.Way.acted, Steps.Ways.Way.called, Steps.Ways.Way.reacted}
use Rattle.executor_laws.proofs.Marking.MarkActs.Steps.{stays, counts, enters}
use Rattle.executor_laws.proofs.Reach.Marked.{Grown, grown-step, mark-stays, marked}
use Rattle.executor_laws.proofs.{Marking.MarkActs.Steps, Marking.MarkActs.changes-step, Marking.MarkSteps.accepted-append}
use Rattle.executor_laws.proofs.{Placement.OwnReady.reached-on, Reach.Marked.Grown.kept, Reach.Marked.Grown.one}

-- it asks for a place by another mark than this
abbrev strange : Mark → Op → ℕ
strange m (Op.Table (TableOp.Enter n)) = cond (same_mark m n) 0 1
strange m _ = 0

few-strange : (m : Mark) (o : Op) → strange m o ≤ calling_of o
few-strange m (Op.Table (TableOp.Enter n)) = by (same_mark m n)
  where
    by : (b : Bool) → cond b 0 1 ≤ 1
    by true = omega arith
    by false = omega arith
few-strange m _ = omega arith

-- the frame of a call
record Fit (c : Call) (os : List Op) : Type 0 where
  pub fits : weigh (misfit c) os ≡ 0
  pub marked : (m : Mark) → c ≡ Call.Spawn m → weigh (strange m) os ≡ 0

abbrev Fits : Trace → Begun → List Op → Type 0
Fits es b os = Fit b.call os

fits-later : (es more : Trace) (b : Begun) (os : List Op) → Fits es b os → Fits (es ++ more) b os
fits-later es more b os h = h

abbrev Any : Ended → Type 0
Any e = Unit {0}

any-right : (es : Trace) (b : Begun) (a : Reply) (held : Hold) → Fits es b (Op.End a held ∷ []) →
    Any (record { call = b.call; own = b.own; reply = a; past = es })
any-right es b a held h = tt

enter-none : (m : Mark) (b r : Bool) (n : Mark) (p : ℕ) (w : World) → weigh (strange m) (enter_by b r n p w).next ≡ 0
enter-none m true r n p w = refl
enter-none m false true n p w = refl
enter-none m false false n p w = refl

-- what is done leads to no entry
next-none : (m : Mark) (c : Call) (o : Op) (next : List Op) → c ≡ Call.Spawn m → Passes o next → is_end o ≡ false →
    misfit c o ≡ 0 → ((n : Mark) → o ≡ Op.Table (TableOp.Enter n) → weigh (strange m) next ≡ 0) →
    weigh (strange m) next ≡ 0
next-none m c o next i k n f e = ⊎_elim
    (λ (z : calling_of o ≡ 0). omega (arith, weigh-below (strange m) calling_of (few-strange m) next, k.none z))
    (λ (z : calling_of o ≡ 1). let x : Enters o = asks-place c o (ap spawns i) z n f in e x.0 x.1)
    (calling-is o)

fit-on : (c : Call) (o : Op) (rest next : List Op) → (misfit c o ≡ 0 → weigh (misfit c) next ≡ 0) →
    ((m : Mark) → c ≡ Call.Spawn m → misfit c o ≡ 0 → weigh (strange m) next ≡ 0) → Fit c (o ∷ rest) → Fit c (next ++ rest)
fit-on c o rest next f g h = let z : misfit c o ≡ 0 = omega (arith, h.fits) in record {
  fits = omega (arith, weigh-append (misfit c) next rest, f z, h.fits);
  marked = λ m i. omega (arith, weigh-append (strange m) next rest, g m i z, h.marked m i);
}

way-on : (s : Machine) (p : ℕ) (old rest : List Op) (d : Done) → Way s p old rest d → (o : Op) → old ≡ o ∷ [] →
    is_end o ≡ false → (c : Call) (below : List Op) → Fit c (o ∷ below) → Fit c (d.next ++ below)
way-on s p old rest d (acted h x q z) o e n c below k =
    let i : x ≡ o = (let y : x ∷ [] ≡ o ∷ [] = sym q ∙ e in cc) in
    let m : is_end x ≡ false = ap is_end i ∙ n in
    subst (λ (y : Done). Fit c (y.next ++ below)) (sym z)
    (fit-on c x below (act p h x s.world).next (fit-act c p h x s.world m)
    (λ a j f. next-none a c x (act p h x s.world).next j (calls-act p h x s.world m).passes m f
    (λ b r. subst (λ (y : Op). weigh (strange a) (act p h y s.world).next ≡ 0) (sym r)
    (enter-none a _ h.refused b p s.world)))
    (subst (λ (y : Op). Fit c (y ∷ below)) (sym i) k))
way-on s p old rest d (reacted x u a q z) o e n c below k =
    let i : x ≡ o = (let y : x ∷ [] ≡ o ∷ [] = sym q ∙ e in cc) in
    let m : is_end x ≡ false = unended x u a in
    subst (λ (y : Done). Fit c (y.next ++ below)) (sym z)
    (fit-on c x below (react p x u s.world).next (fit-react c p x u s.world a)
    (λ b j f. next-none b c x (react p x u s.world).next j (passes-react p x u s.world a) m f
    (λ b r. let no : accepts (Op.Table (TableOp.Enter b)) u ≡ true = ap (λ (y : Op). accepts y u) (sym r) ∙ a in
    absurd (cc)))
    (subst (λ (y : Op). Fit c (y ∷ below)) (sym i) k))
way-on s p old rest d (called c q r n z) o e m b below k =
    let no : [] ≡ o ∷ [] = sym q ∙ e in absurd (cc)

own-mark : (m : Mark) → weigh (strange m) (Op.Table (TableOp.Enter m) ∷ []) ≡ 0
own-mark Plain = refl
own-mark Urgent = refl

fit-first : (p : ℕ) (w : World) (here : Option Waker) (c : Call) → Fit c (begun p w here c).next
fit-first p w here c = record {
  fits = fit-begun p w here c;
  marked = λ m i. subst (λ (x : Call). weigh (strange m) (begun p w here x).next ≡ 0) (sym i) (own-mark m);
}

-- at every moment

abbrev AllFit : Machine → Type 0
AllFit s = Frames Fits fits-later Any s

moves : (s : Machine) (p : ℕ) (old rest : List Op) (d : Done) → Good s → p < length s.parties →
    stack s p ≡ rest ++ reverse old → Way s p old rest d → AllFit s → AllFit (unsettled s p rest d)
moves s p old rest d good l e way f =
    frames-way Fits fits-later Any any-right s p old rest d l e f
    (λ o q n more t b below h. way-on s p old rest d way o q n b.call below h)
    (λ c q a more z t. subst (λ (x : Done). Fit c x.next) (sym z)
    (fit-first p (log s.world (Event.CallBegun p c)) (mine (top (stack s p))) c)) way

over : (s : Machine) (p : ℕ) (a : Reply) (held : Hold) (below : List Op) → p < length s.parties →
    stack s p ≡ below ++ reverse (Op.End a held ∷ []) → AllFit s →
    AllFit (unsettled s p below (done (log s.world (Event.CallEnded p a)) []))
over s p a held below l e f = frames-end Fits fits-later Any any-right s p a held below l e f

all-fit : (limit : ℕ) (kind : Kind) (n : ℕ) (ts : List Step) → AllFit (run ts (start limit kind n))
all-fit limit kind n ts = along AllFit moves over ts (start limit kind n) (good-start limit kind n)
    (frames-start Fits fits-later Any any-right limit kind n)

-- whoever asks for a place asks by the mark of the spawn that is its innermost call

same-marks : (m n : Mark) → weigh (strange m) (Op.Table (TableOp.Enter n) ∷ []) ≡ 0 → n ≡ m
same-marks Plain Plain e = refl
same-marks Urgent Urgent e = refl
same-marks Plain Urgent e = absurd (omega (arith, e))
same-marks Urgent Plain e = absurd (omega (arith, e))

entry-mark : (s : Machine) (p : ℕ) (n m : Mark) (b : Begun) (outer : List Begun) → AllFit s →
    top (stack s p) ≡ Some (Op.Table (TableOp.Enter n)) → (calls p s.world.trace).begun ≡ b ∷ outer →
    b.call ≡ Call.Spawn m → n ≡ m
entry-mark s p n m b outer f e i c =
    let t : Tied Fits fits-later Any s.world.trace (b ∷ outer) (reverse (stack s p)) =
    subst (λ (l : List Begun). Tied Fits fits-later Any s.world.trace l (reverse (stack s p))) i (f.tied p) in
    let o : Op = Op.Table (TableOp.Enter n) in
    let q : reverse (stack s p) ≡ o ∷ reverse (below_top (stack s p)) =
    ap (λ (xs : List Op). reverse xs) (topped (stack s p) o e) ∙ reverse-append (below_top (stack s p)) (o ∷ []) in
    by t.0 t.1 t.2 (sym q ∙ t.3.is) t.3.none t.3.owes
  where
    by : (front : List Op) (last : Op) (below : List Op) →
        Op.Table (TableOp.Enter n) ∷ reverse (below_top (stack s p)) ≡ front ++ last ∷ below →
        weigh calling_of front ≡ 0 → Fit b.call (front ++ last ∷ []) → n ≡ m
    by [] last below j z h =
        let k : last ≡ Op.Table (TableOp.Enter n) = cc in
        same-marks m n (subst (λ (x : Op). weigh (strange m) (x ∷ []) ≡ 0) k (h.marked m c))
    by (y ∷ fs) last below j z h =
        let k : y ≡ Op.Table (TableOp.Enter n) = cc in absurd (omega (arith, z, ap calling_of k))

-- what is told of one

rest-none : (x : Event) (es : Trace) → accepted_in (x ∷ es) ≡ [] → accepted_in es ≡ []
rest-none (Event.Accepted p f) es z = absurd (cc)
rest-none _ es z = z

none-in : (es : Trace) (k p f : ℕ) → accepted_in es ≡ [] → slice_get es k ≡ Some (Event.Accepted p f) → ⊥
none-in [] k p f z e = absurd (cc)
none-in (x ∷ es) zero p f z e =
    let i : x ≡ Event.Accepted p f = cc in
    let no : f ∷ accepted_in es ≡ [] = ap (λ (y : Event). accepted_in (y ∷ es)) (sym i) ∙ z in cc
none-in (x ∷ es) (suc k) p f z e = none-in es k p f (rest-none x es z) e

none-more : (es more all : Trace) → all ≡ es ++ more → accepted_in all ≡ accepted_in es → accepted_in more ≡ []
none-more es more all q a = append_cancel_left (accepted_in es) (accepted_in more) []
    (sym (accepted-append es more) ∙ (sym (ap accepted_in q) ∙ (a ∙ sym (append-nil (accepted_in es)))))

-- an event of a trace and more stands in it, or behind
data Spot (xs ys : Trace) (k : ℕ) (e : Event) : Type 0 where
  before : slice_get xs k ≡ Some e → take k (xs ++ ys) ≡ take k xs → Spot xs ys k e
  behind : (n : ℕ) → k ≡ length xs + n → slice_get ys n ≡ Some e → Spot xs ys k e

spot : (xs ys : Trace) (k : ℕ) (e : Event) → slice_get (xs ++ ys) k ≡ Some e → Spot xs ys k e
spot [] ys k e h = behind k (omega arith) h
spot (x ∷ xs) ys zero e h = before h refl
spot (x ∷ xs) ys (suc k) e h = by (spot xs ys k e h)
  where
    by : Spot xs ys k e → Spot (x ∷ xs) ys (suc k) e
    by (before g t) = before g (ap (λ (es : Trace). x ∷ es) t)
    by (behind n q g) = behind n (omega (arith, q)) g

-- each that is told of is known, and has the mark of its spawn
abbrev IsSpawnedSo : World → ℕ → ℕ → ℕ → Type 0
IsSpawnedSo w p f place = (f < length w.marks) × ((m : Mark) (b : Begun) (outer : List Begun) →
    (calls p (take place w.trace)).begun ≡ b ∷ outer → b.call ≡ Call.Spawn m → mark_of w f ≡ m)

record Spawned (w : World) : Type 0 where
  pub each : (p f place : ℕ) → slice_get w.trace place ≡ Some (Event.Accepted p f) → IsSpawnedSo w p f place

grown-known : (w v : World) (f : ℕ) → Grown w v → f < length w.marks → f < length v.marks
grown-known w v f (kept e) l = subst (λ (ms : List Mark). f < length ms) (ap (λ x. x.marks) e) l
grown-known w v f (one m e k) l =
    omega (arith, l, ap (λ (ms : List Mark). length ms) e, length-append w.marks (m ∷ []))

spawned-before : (w v : World) (more : Trace) → Grown w v → v.trace ≡ w.trace ++ more → Spawned w → (p f place : ℕ) →
    slice_get w.trace place ≡ Some (Event.Accepted p f) → take place (w.trace ++ more) ≡ take place w.trace →
    IsSpawnedSo v p f place
spawned-before w v more g e h p f place i t =
    let old : IsSpawnedSo w p f place = h.each p f place i in (
      grown-known w v f g old.0,
      λ m b outer q c. mark-stays w v f g old.0 ∙ old.1 m b outer
          (ap (λ (es : Trace). (calls p es).begun) (sym (ap (λ (es : Trace). take place es) e ∙ t)) ∙ q) c,
    )

-- nothing more was accepted
spawned-none : (w v : World) (more : Trace) → Grown w v → v.trace ≡ w.trace ++ more → accepted_in more ≡ [] → Spawned w →
    Spawned v
spawned-none w v more g e z h = record {
  each = λ p f place i. by p f place
      (spot w.trace more place (Event.Accepted p f)
      (subst (λ (es : Trace). slice_get es place ≡ Some (Event.Accepted p f)) e i));
}
  where
    by : (p f place : ℕ) → Spot w.trace more place (Event.Accepted p f) → IsSpawnedSo v p f place
    by p f place (before i t) = spawned-before w v more g e h p f place i t
    by p f place (behind n q i) = absurd (none-in more n p f z i)

last-mark : (ms : List Mark) (m : Mark) → slice_index_or (ms ++ m ∷ []) (length ms) Plain ≡ m
last-mark [] m = refl
last-mark (x ∷ ms) m = last-mark ms m

module _ (s : Machine) (v : World) (fit : AllFit s) (known : length s.world.marks ≡ length s.world.tasks)
    (h : Spawned s.world) (g : Grown s.world v) where
  spawned-entry : (p : ℕ) (m : Mark) (more : Trace) → top (stack s p) ≡ Some (Op.Table (TableOp.Enter m)) →
      v.marks ≡ s.world.marks ++ m ∷ [] →
      v.trace ≡ s.world.trace ++ Event.Accepted p (length s.world.tasks) ∷ more → accepted_in more ≡ [] → Spawned v
  spawned-entry p m more i a e z = record {
    each = λ q f place k. by q f place (spot s.world.trace (Event.Accepted p (length s.world.tasks) ∷ more) place
        (Event.Accepted q f) (subst (λ (es : Trace). slice_get es place ≡ Some (Event.Accepted q f)) e k));
  }
    where
      now : (q f place : ℕ) → q ≡ p → f ≡ length s.world.marks → place ≡ length s.world.trace → IsSpawnedSo v q f place
      now q f place j l r = (
        omega (arith, l, ap (λ (ms : List Mark). length ms) a, length-append s.world.marks (m ∷ [])),
        λ n b outer y c.
            ap (λ (ms : List Mark). slice_index_or ms f Plain) a
            ∙ (ap (λ (x : ℕ). slice_index_or (s.world.marks ++ m ∷ []) x Plain) l
            ∙ (last-mark s.world.marks m
            ∙ entry-mark s p m n b outer fit i
            (ap (λ (x : ℕ). (calls x s.world.trace).begun) (sym j)
            ∙ (ap (λ (es : Trace). (calls q es).begun)
            (sym (ap (λ (es : Trace). take place es) e ∙ take_at s.world.trace _ place (sym r))) ∙ y)) c)),
      )

      by : (q f place : ℕ) → Spot s.world.trace (Event.Accepted p (length s.world.tasks) ∷ more) place (Event.Accepted q f) →
          IsSpawnedSo v q f place
      by q f place (before k t) = spawned-before s.world v _ g e h q f place k t
      by q f place (behind zero r k) =
          let j : q ≡ p = cc in
          let l : f ≡ length s.world.tasks = cc in
          now q f place j (l ∙ sym known) (let y : place ≡ length s.world.trace = omega (arith, r) in y)
      by q f place (behind (suc n) r k) = absurd (none-in more n q f z k)

  spawned-by : (more : Trace) → v.trace ≡ s.world.trace ++ more → Steps s v → Spawned v
  spawned-by more e (stays k) =
      spawned-none s.world v more g e (none-more s.world.trace more v.trace e k.accepted) h
  spawned-by more e (counts a b c) = spawned-none s.world v more g e (none-more s.world.trace more v.trace e c) h
  spawned-by more e (enters p m told i a b c z d) = spawned-entry p m told i b c z

fit-here : (s : Machine) → Reached s → AllFit s
fit-here s r = subst AllFit (sym r.is) (all-fit r.limit r.kind r.parties r.steps)

known-here : (s : Machine) → Reached s → length s.world.marks ≡ length s.world.tasks
known-here s r = subst (λ (m : Machine). length m.world.marks ≡ length m.world.tasks) (sym r.is)
    (marked r.limit r.kind r.parties r.steps).known

spawned-run : (ts : List Step) (s : Machine) → Reached s → Spawned s.world → Spawned (run ts s).world
spawned-run [] s r h = h
spawned-run (t ∷ ts) s r h =
    let c : _ = continues s t in
    spawned-run ts (stepped s (step s t)) (reached-on s (t ∷ []) r)
    (spawned-by s (stepped s (step s t)).world (fit-here s r) (known-here s r) h (grown-step s t) c.0 c.1 (changes-step s t))

none-told : (place p f : ℕ) → slice_get (let es : Trace = [] in es) place ≡ Some (Event.Accepted p f) → ⊥
none-told place p f e = cc

pub marked-as-spawned : (limit : ℕ) (kind : Kind) (parties : ℕ) (steps : List Step) →
    IsMarkedAsSpawned (run steps (start limit kind parties))
marked-as-spawned limit kind parties steps p f place i = ((spawned-run steps (start limit kind parties)
    (record { limit = limit; kind = kind; parties = parties; steps = []; is = refl })
    (record { each = λ q g at e. absurd (none-told at q g e) })).each p f place i).1
