-- For spawns_are_limited.
-- Who has still to take an entry out of the table is a call in progress that itself began that future's drop.
use Rattle.std.proofs.Common.{◌≡◌, ◌≢◌, ◌⊎◌, ℕ, zero, suc, ◌<◌, ◌≤◌, List, [], ◌∷◌, ◌++◌, length, get_or, true, ◌||◌, false}
use Rattle.std.proofs.Common.{eqb, inl, inr, ⊎_elim, refl, subst, ap, ◌∙◌, arith, Bool, sym}
use Rattle.std.proofs.lemmas.List.{append_assoc, append_cancel_left}
use Rattle.std.{specs.List.list_any, specs.Prelude.reverse}
use Rattle.executor_model.proofs.Types.{Kind, Reply, Event, ClosingOp, Hold, Op, TableOp, UserOp, Move}
use Rattle.executor_model.specs.World.{World, Done, done, log, task}
use Rattle.executor_model.specs.{Acts.leave_by, Acts.move_by, Acts.begin_drop, Calls.Begun, Calls.Ended, Calls.calls, Good.Good}
use Rattle.executor_model.specs.{Rows.leaves_of, SpawnsMean.IsBeingDropped, Steps.Machine, Steps.stack, Steps.start}
use Rattle.executor_model.specs.{Trace.Trace, Trace.has, Trace.is_dropped, Weights.same, Weights.weigh, Weights.weigh_all}
use Rattle.executor_model.proofs.OneFuture.Effects.Effect.{passes, turns, refuses, enters, unlists, drops, takes_out}
use Rattle.executor_model.proofs.OneFuture.Effects.Effect.{drops_next, leaks, leaks_out}
use Rattle.executor_model.proofs.OneFuture.EffectsWays.Effects.{does, pends, readies, closes}
use Rattle.executor_model.proofs.Promises.FrameWays.{frames-end, frames-start, frames-way}
use Rattle.executor_model.proofs.Steps.Asides.{Aside, aside-closing, aside-entry, aside-owed, aside-leak_out}
use Rattle.executor_model.proofs.Steps.Lists.{same_cases, weigh-append, weigh-reverse}
use Rattle.executor_model.proofs.{OneFuture.Effects.Effect, OneFuture.EffectsWays.Effects, OneFuture.EffectsWays.effects-way}
use Rattle.executor_model.proofs.{OneFuture.Extras.no_extra, OneFuture.Views.none, Promises.CallFrames.Frames}
use Rattle.executor_model.proofs.{Promises.CallFrames.Tied, Promises.CallPromises.has-left, Promises.CallPromises.has-right}
use Rattle.executor_model.proofs.{Steps.Lift.unsettled, Steps.Tests.or-left, Steps.Tests.or-right, Steps.Ways.Way}
use Rattle.task_moves.specs.Moves as moves

-- an entry that is to be taken out was so before, or its future's drop began
abbrev pub Takes : ℕ → List Op → List Op → Trace → Type 0
Takes g old next more = (weigh (leaves_of g) next ≤ weigh (leaves_of g) old) ⊎ (has (is_dropped g) more ≡ true)

leaves-aside : (g : ℕ) → Aside (leaves_of g)
leaves-aside g = record {
  move = λ m f. no-leave m f;
  append = λ f. refl;
  poll = λ f. refl;
  drop = λ f. refl;
  output = λ f. refl;
  notify = λ f mine. refl;
  call = λ f a k. refl;
  goes = λ f. refl;
}
  where
    no-leave : (m : Move) (f : ℕ) → leaves_of g (Op.Move m f) ≡ 0
    no-leave Move.Wake f = refl
    no-leave _ f = refl

begins-drop : (g f p : ℕ) (w : World) (more : Trace) → w.trace ++ Event.Dropped p f ∷ [] ≡ w.trace ++ more →
    Takes g (Op.User (UserOp.BeginDrop f) ∷ []) (Op.User (UserOp.Drop f) ∷ Op.Table (TableOp.LeaveTable f) ∷ []) more
begins-drop g f p w more t = ⊎_elim
    (λ (x : (same g f ≡ 1) × (eqb g f ≡ true) × (g ≡ f)).
    let q : Event.Dropped p f ∷ [] ≡ more = append_cancel_left w.trace (Event.Dropped p f ∷ []) more t in
    inr (subst (λ (xs : Trace). has (is_dropped g) xs ≡ true) q (or-left (eqb g f) false x.1)))
    (λ (x : (same g f ≡ 0) × (eqb g f ≡ false) × (g ≢ f)). inl (omega (arith, x.0)))
    (same_cases g f)

closing-none : (g : ℕ) (o : ClosingOp) → leaves_of g (Op.Closing o) ≡ 0
closing-none g ClosingOp.TakeOut = refl
closing-none g _ = refl

abbrev is_leak : List Op → Bool
is_leak (Op.Closing o ∷ os) = true
is_leak _ = false

-- no thing more is to be left, or a drop begins and is told of
abbrev Begins : World → List Op → Done → Type 0
Begins w old d = (p : ℕ) × ((f : ℕ) × ((old ≡ Op.User (UserOp.BeginDrop f) ∷ []) × (d ≡ begin_drop p w f)))

leaves-effect : (w : World) (old : List Op) (d : Done) (g : ℕ) → Effect w old d →
    (weigh (leaves_of g) d.next ≤ weigh (leaves_of g) old) ⊎ Begins w old d
leaves-effect w old d g (passes s c) =
    inl (⊎_elim (λ x. omega (arith, x)) (λ x. omega (arith, x.1)) (s g none no_extra).stays.leaves)
leaves-effect w old _ g (turns d m p f v rest i j k s a e) =
    let own : weigh (leaves_of g) (move_by true m p v f).next ≡ 0 =
    aside-owed (leaves_of g) (leaves-aside g) f _ (moves.after m (task v f)).owed in
    inl (omega (
      arith,
      own,
      ⊎_elim (λ x. let z : weigh (leaves_of g) (Op.Move m f ∷ rest) ≤ weigh (leaves_of g) old = omega (arith, x) in z)
          (λ x. let z : weigh (leaves_of g) (Op.Move m f ∷ rest) ≤ weigh (leaves_of g) old = omega (arith, x.1) in z)
          (s g none no_extra).stays.leaves,
      ap (weigh (leaves_of g)) e,
      weigh-append (leaves_of g) (move_by true m p v f).next rest,
    ))
leaves-effect w old d g (refuses f e) = inl (omega arith)
leaves-effect w old d g (enters mark p e) = inl (omega arith)
leaves-effect w old _ g (unlists f e) =
    let own : weigh (leaves_of g) (leave_by true w f).next ≡ 0 = aside-entry (leaves_of g) (leaves-aside g) w.is_static f in
    inl (omega (arith, own))
leaves-effect w old d g (drops p f) = inr (p, (f, (refl, refl)))
leaves-effect w old d g takes_out =
    inl (omega (arith, aside-closing (leaves_of g) (closing-none g) w.table w.waking))
leaves-effect w old d g (drops_next p f rest e) =
    inl (omega (arith, aside-closing (leaves_of g) (closing-none g) rest (w.waking ++ f ∷ [])))
leaves-effect w old d g (leaks_out s n) = inl (omega (arith, aside-leak_out (leaves_of g) refl false w))
leaves-effect w old _ g (leaks d p f e a) = ⊎_elim
    (λ (x : weigh (leaves_of g) d.next ≤ weigh (leaves_of g) (Op.Closing ClosingOp.LeakNext ∷ [])). inl x)
    (λ (x : Begins w (Op.Closing ClosingOp.LeakNext ∷ []) d). absurd (no x.1.0 x.1.1.0))
    (leaves-effect w (Op.Closing ClosingOp.LeakNext ∷ []) d g e)
  where
    no : (f : ℕ) → Op.Closing ClosingOp.LeakNext ∷ [] ≡ Op.User (UserOp.BeginDrop f) ∷ [] → ⊥
    no f q = let z : true ≡ false = ap (λ (os : List Op). is_leak os) q in cc

takes-effect : (w : World) (old : List Op) (d : Done) (g : ℕ) (more : Trace) → Effect w old d →
    d.world.trace ≡ w.trace ++ more → Takes g old d.next more
takes-effect w old d g more e t = ⊎_elim
    (λ (x : weigh (leaves_of g) d.next ≤ weigh (leaves_of g) old). inl x)
    (λ (x : Begins w old d).
    subst (λ (os : List Op). Takes g os d.next more) (sym x.1.1.0)
    (subst (λ (c : Done). Takes g (Op.User (UserOp.BeginDrop x.1.0) ∷ []) c.next more) (sym x.1.1.1)
    (begins-drop g x.1.0 x.0 w more (ap (λ (c : Done). c.world.trace) (sym x.1.1.1) ∙ t)))) (leaves-effect w old d g e)

pub takes-effects : (w : World) (ss : List (List Op)) (old : List Op) (d : Done) (g : ℕ) (more : Trace) →
    Effects w ss old d → d.world.trace ≡ w.trace ++ more → Takes g old d.next more
takes-effects w ss old d g more (does x) t = takes-effect w old d g more x t
takes-effects w ss old d g more (pends p f) t = inl (omega arith)
takes-effects w ss old d g more (readies p f) t = inl (omega arith)
takes-effects w ss old d g more (closes p n u) t = inl (omega arith)

-- of each call

abbrev pub Dropping : Trace → Begun → List Op → Type 0
Dropping es b os = (f : ℕ) → 1 ≤ weigh (leaves_of f) os → has (is_dropped f) b.own ≡ true

pub dropping-later : (es more : Trace) (b : Begun) (os : List Op) → Dropping es b os → Dropping (es ++ more) b os
dropping-later es more b os h = h

abbrev pub Anyhow : Ended → Type 0
Anyhow e = Unit {0}

abbrev pub Droppings : Machine → Type 0
Droppings s = Frames Dropping dropping-later Anyhow s

anyhow : (es : Trace) (b : Begun) (a : Reply) (held : Hold) → Dropping es b (Op.End a held ∷ []) →
    Anyhow (record { call = b.call; own = b.own; reply = a; past = es })
anyhow es b a held h = tt

pub droppings-start : (limit : ℕ) (kind : Kind) (n : ℕ) → Droppings (start limit kind n)
droppings-start limit kind n = frames-start Dropping dropping-later Anyhow anyhow limit kind n

pub droppings-end : (s : Machine) (p : ℕ) (a : Reply) (held : Hold) (below : List Op) → p < length s.parties →
    stack s p ≡ below ++ reverse (Op.End a held ∷ []) → Droppings s →
    Droppings (unsettled s p below (done (log s.world (Event.CallEnded p a)) []))
droppings-end s p a held below l e f = frames-end Dropping dropping-later Anyhow anyhow s p a held below l e f

pub droppings-moves : (s : Machine) (p : ℕ) (old rest : List Op) (d : Done) → Good s → p < length s.parties →
    stack s p ≡ rest ++ reverse old → Way s p old rest d → Droppings s → Droppings (unsettled s p rest d)
droppings-moves s p old rest d good l e way k =
    let x : Effects s.world s.parties old d = effects-way s p old rest d good l e way in
    frames-way Dropping dropping-later Anyhow anyhow s p old rest d l e k
    (λ o q n more t b below h f u. ⊎_elim
    (λ (z : weigh (leaves_of f) d.next ≤ weigh (leaves_of f) old).
    has-left (is_dropped f) b.own more (h f (omega (
      arith,
      z,
      u,
      ap (weigh (leaves_of f)) q,
      weigh-append (leaves_of f) d.next below,
    ))))
    (λ (z : has (is_dropped f) more ≡ true). has-right (is_dropped f) b.own more z)
    (takes-effects s.world s.parties old d f more x t))
    (λ c q a more y t f u. ⊎_elim
    (λ (z : weigh (leaves_of f) d.next ≤ weigh (leaves_of f) old).
    absurd (omega (arith, z, u, ap (weigh (leaves_of f)) q)))
    (λ (z : has (is_dropped f) (Event.CallBegun p c ∷ more) ≡ true). z)
    (takes-effects s.world s.parties old d f (Event.CallBegun p c ∷ more) x
    (t ∙ append_assoc s.world.trace (Event.CallBegun p c ∷ []) more))) way

-- who has this to do

first-or : (v : Op → ℕ) (s : List Op) (ss : List (List Op)) (n : ℕ) → weigh v s ≡ n →
    (weigh v s ≡ 0 → (q : ℕ) × (1 ≤ weigh v (get_or ss q []))) → (q : ℕ) × (1 ≤ weigh v (get_or (s ∷ ss) q []))
first-or v s ss (suc n) e k = (0, omega (arith, e))
first-or v s ss zero e k = let x = k e in (suc x.0, x.1)

some-party : (v : Op → ℕ) (ss : List (List Op)) → 1 ≤ weigh_all v ss → (q : ℕ) × (1 ≤ weigh v (get_or ss q []))
some-party v [] h = absurd (omega (arith, h))
some-party v (s ∷ ss) h = first-or v s ss (weigh v s) refl (λ e. some-party v ss (omega (arith, h, e)))

some-frame : (es : Trace) (f : ℕ) (bs : List Begun) (os : List Op) → Tied Dropping dropping-later Anyhow es bs os →
    1 ≤ weigh (leaves_of f) os → list_any (λ (b : Begun). has (is_dropped f) b.own) bs ≡ true
some-frame es f [] os h n = absurd (omega (arith, n, ap (weigh (leaves_of f)) h))
some-frame es f (b ∷ bs) os h n = by (weigh (leaves_of f) (h.0 ++ h.1 ∷ [])) refl
    (λ e. some-frame es f bs h.2 h.4 (omega (
      arith,
      e,
      n,
      ap (weigh (leaves_of f)) h.3.is,
      weigh-append (leaves_of f) h.0 (h.1 ∷ h.2),
      weigh-append (leaves_of f) h.0 (h.1 ∷ []),
    )))
  where
    by : (m : ℕ) → weigh (leaves_of f) (h.0 ++ h.1 ∷ []) ≡ m →
        (weigh (leaves_of f) (h.0 ++ h.1 ∷ []) ≡ 0 →
        list_any (λ (x : Begun). has (is_dropped f) x.own) bs ≡ true) →
        (has (is_dropped f) b.own || list_any (λ (x : Begun). has (is_dropped f) x.own) bs) ≡ true
    by (suc m) e k = or-left _ _ (h.3.owes f (omega (arith, e)))
    by zero e k = or-right (has (is_dropped f) b.own) _ (k e)

pub is-being-dropped : (s : Machine) (f : ℕ) → Droppings s → 1 ≤ weigh_all (leaves_of f) s.parties →
    IsBeingDropped s.world.trace f
is-being-dropped s f k n =
    let x = some-party (leaves_of f) s.parties n in (
      x.0,
      some-frame s.world.trace f (calls x.0 s.world.trace).begun (reverse (stack s x.0)) (k.tied x.0)
          (omega (arith, x.1, weigh-reverse (leaves_of f) (stack s x.0))),
    )
