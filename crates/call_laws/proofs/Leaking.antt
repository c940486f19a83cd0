-- For leaked_executors_are_static.
-- A leak that has begun is about to take the table's wakers out of an executor that is owned, or that is static by now.
use Rattle.std.proofs.Common.{◌≡◌, ◌∙◌, ◌⊎◌, inl, inr, ⊎_elim, ℕ, zero, suc, ◌+◌, ◌<◌, ◌≤◌, List, [], ◌∷◌, ◌++◌, length, set}
use Rattle.std.proofs.Common.{Bool, true, false}
use Rattle.std.proofs.Common.{◌&&◌, ◌||◌, not, refl, sym, ap, subst, arith}
use Rattle.std.specs.Prelude.{None, Option, Some, reverse}
use Rattle.executor_model.specs.Acts.{is_last_waker, is_told, leak_out_by, move_by, told_of}
use Rattle.executor_model.specs.Doing.{act}
use Rattle.executor_model.specs.Good.{Good}
use Rattle.executor_model.specs.Rows.{leaking_of}
use Rattle.executor_model.specs.Steps.{Machine, accepts, begin_refusal, begun, future_of, is_drop, is_on_executor, is_unused, kept}
use Rattle.executor_model.specs.Steps.{mine, react, run, stack, start, top, with_future}
use Rattle.executor_model.specs.Trace.{has, is_leak_begun}
use Rattle.executor_model.specs.Weights.{weigh, weigh_all}
use Rattle.executor_model.specs.World.{Done, World, done, log, task}
use Rattle.executor_model.proofs.OneFuture.Effects.{Effect}
use Rattle.executor_model.proofs.OneFuture.Effects.Effect.{drops, drops_next, enters, leaks, leaks_out, passes, refuses}
use Rattle.executor_model.proofs.OneFuture.Effects.Effect.{takes_out, turns, unlists}
use Rattle.executor_model.proofs.OneFuture.EffectsWays.{Effects, effects-way}
use Rattle.executor_model.proofs.OneFuture.EffectsWays.Effects.{closes, does, pends, readies}
use Rattle.executor_model.proofs.OneFuture.Extras.{no_extra}
use Rattle.executor_model.proofs.OneFuture.Views.{none}
use Rattle.executor_model.proofs.Quiet.Calls.{is_end}
use Rattle.executor_model.proofs.Steps.Begins.{calm_owned}
use Rattle.executor_model.proofs.Steps.Deeds.{grows-act, grows-begun, grows-react}
use Rattle.executor_model.proofs.Steps.Lift.{good-start, none_refused, split, unsettled, weigh_all-idle}
use Rattle.executor_model.proofs.Steps.Lists.{weigh_all-below, weigh_all-push}
use Rattle.executor_model.proofs.Steps.Ways.{Way, along}
use Rattle.executor_model.proofs.Steps.Ways.Way.{acted, called, reacted}
use Rattle.executor_model.proofs.Table.LeakCounts.{leak-act, leak-begun, leak-react, leaks_of}
use Rattle.executor_model.proofs.Table.LeakStays.{before-told}
use Rattle.executor_model.proofs.Table.LeakWithin.{Withins, going-less, going_of, withins-end, withins-moves, withins-start}
use Rattle.executor_model.proofs.Table.Leaking.{none-leaks, static-effects}
use Rattle.call_laws.proofs.Counting.{sees-leak}
use Rattle.call_laws.proofs.Holding.{AllHeld, all-held}
use Rattle.call_laws.proofs.There.{unused-is, unused-of}
use Rattle.call_laws.proofs.Types.{Call, ClosingOp, Event, Hint, Hold, Kind, Move, Op, Reply, Step, TableOp, UserEnd, UserOp, Waker}
use Rattle.call_laws.specs.InProgress.{is_leak}
use Rattle.call_laws.specs.Leaked.{LeakedIsStatic}

-- nothing but its beginning begins the drop of the executor

gone-moved : (m : Move) (p : ℕ) (w : World) (f : ℕ) → (move_by true m p w f).world.gone ≡ w.gone
gone-moved m p w f = by (is_last_waker m (task w f)) (is_told m (task w f))
  where
    by : (l b : Bool) → (told_of l b m p w f).gone ≡ w.gone
    by true true = refl
    by true false = refl
    by false true = refl
    by false false = refl

gone-effect : (w : World) (old : List Op) (d : Done) → Effect w old d → d.world.gone ≡ w.gone
gone-effect w old d (passes s c) = (s 0 none no_extra).passes.gone
gone-effect w old d (turns e m p f v more i j k s a b) =
    ap (λ (u : World). u.gone) a ∙ (gone-moved m p v f ∙ (s 0 none no_extra).passes.gone)
gone-effect w old d (refuses f e) = refl
gone-effect w old d (enters mark p e) = refl
gone-effect w old d (unlists f e) = refl
gone-effect w old d (drops p f) = refl
gone-effect w old d takes_out = refl
gone-effect w old d (drops_next p f rest e) = refl
gone-effect w old d (leaks_out s n) = refl
gone-effect w old _ (leaks d p f e a) = gone-effect w old d e

gone-effects : (w : World) (ss : List (List Op)) (old : List Op) (d : Done) → Effects w ss old d → (old ≡ [] → ⊥) → d.world.gone ≡ w.gone
gone-effects w ss old d (does x) n = gone-effect w old d x
gone-effects w ss old d (pends p f) n = refl
gone-effects w ss old d (readies p f) n = refl
gone-effects w ss old d (closes p u z) n = absurd (n refl)

gone-with : (w : World) (x : Option ℕ) (d : ℕ → Done) → ((f : ℕ) → (d f).world.gone ≡ w.gone) → (with_future w x d).world.gone ≡ w.gone
gone-with w None d k = refl
gone-with w (Some f) d k = k f

gone-begun : (p : ℕ) (w : World) (here : Option Waker) (c : Call) → is_drop c ≡ false → (begun p w here c).world.gone ≡ w.gone
gone-begun p w here (Call.Wake k) e = gone-with w (kept w k) _ (λ f. refl)
gone-begun p w here (Call.WakeByRef k) e = gone-with w (kept w k) _ (λ f. refl)
gone-begun p w here (Call.Copy k) e = gone-with w (kept w k) _ (λ f. refl)
gone-begun p w here (Call.DropWaker k) e = gone-with w (kept w k) _ (λ f. refl)
gone-begun p w here Call.Keep e = gone-with w (future_of here) _ (λ f. refl)
gone-begun p w here Call.WakeSelf e = gone-with w (future_of here) _ (λ f. refl)
gone-begun p w here Call.DropExecutor e = absurd (cc)
gone-begun p w here _ e = refl

leaks-least : (o : Op) → leaks_of o ≤ going_of o
leaks-least (Op.Closing ClosingOp.LeakOut) = omega arith
leaks-least (Op.Table (TableOp.PutBack f)) = omega arith
leaks-least (Op.User (UserOp.Poll f)) = omega arith
leaks-least _ = omega arith

is-out : (o : Op) (n : ℕ) → leaks_of o ≡ suc n → o ≡ Op.Closing ClosingOp.LeakOut
is-out (Op.Closing ClosingOp.LeakOut) n e = refl
is-out (Op.Closing ClosingOp.LeakNext) n e = absurd (omega (arith, e))
is-out (Op.Table (TableOp.PutBack f)) n e = absurd (omega (arith, e))
is-out (Op.User (UserOp.Poll f)) n e = absurd (omega (arith, e))
is-out _ n e = absurd (omega (arith, e))

-- at every moment

abbrev out : Machine → ℕ
out s = weigh_all leaks_of s.parties

record Leaky (s : Machine) : Type 0 where
  pub within : Withins s
  pub single : out s ≤ 1
  pub opened : 1 ≤ out s → (s.world.is_static ≡ false) × (s.world.gone ≡ false)
  pub begun : has is_leak_begun s.world.trace ≡ true → (1 ≤ out s) ⊎ (s.world.is_static ≡ true)

none-out : (s : Machine) → Leaky s → weigh_all leaking_of s.parties ≡ 0 → out s ≡ 0
none-out s k z = omega (arith, z, going-less s k.within, weigh_all-below leaks_of going_of leaks-least s.parties)

module _ (s : Machine) (p : ℕ) (old rest : List Op) (d : Done) (good : Good s) (l : p < length s.parties)
    (e : stack s p ≡ rest ++ reverse old) (way : Way s p old rest d) (k : Leaky s) where
  abbrev now : Machine
  now = unsettled s p rest d

  within-now : Withins now
  within-now = withins-moves s p old rest d l e way k.within

  was : out s ≡ weigh leaks_of old + weigh_all leaks_of (set s.parties p rest)
  was = split leaks_of s.parties p old rest l e

  is : out now ≡ weigh leaks_of d.next + weigh_all leaks_of (set s.parties p rest)
  is = weigh_all-push leaks_of s.parties p rest d.next l

  effects : Effects s.world s.parties old d
  effects = effects-way s p old rest d good l e way

  static-same : (old ≡ Op.Closing ClosingOp.LeakOut ∷ [] → ⊥) → d.world.is_static ≡ s.world.is_static
  static-same n = ⊎_elim (λ (x : d.world.is_static ≡ s.world.is_static). x)
      (λ (x : (s.world.is_static ≡ false) × (old ≡ Op.Closing ClosingOp.LeakOut ∷ [])). absurd (n x.1))
      (static-effects s.world s.parties old d effects)

  -- none of it has to do with the taking out
  calm : weigh leaks_of d.next ≡ 0 → weigh leaks_of old ≡ 0 → d.world.is_static ≡ s.world.is_static →
      (1 ≤ out s → d.world.gone ≡ s.world.gone) →
      (has is_leak_begun d.world.trace ≡ true → has is_leak_begun s.world.trace ≡ true) → Leaky now
  calm a b st gone told = record {
    within = within-now;
    single = omega (arith, a, b, was, is, k.single);
    opened = λ x. let y : 1 ≤ out s = omega (arith, a, b, was, is, x) in (st ∙ (k.opened y).0, gone y ∙ (k.opened y).1);
    begun = λ h. ⊎_elim
        (λ (x : 1 ≤ out s). inl (omega (arith, a, b, was, is, x)))
        (λ (x : s.world.is_static ≡ true). inr (st ∙ x)) (k.begun (told h));
  }

  told-act : (h : Hint) (o : Op) → d ≡ act p h o s.world → has is_leak_begun d.world.trace ≡ true → has is_leak_begun s.world.trace ≡ true
  told-act h o z u = by (is_end o) refl
    where
      here : has is_leak_begun (act p h o s.world).world.trace ≡ true
      here = subst (λ (x : Done). has is_leak_begun x.world.trace ≡ true) z u

      ends : (o : Op) → is_end o ≡ true → has is_leak_begun (act p h o s.world).world.trace ≡ true → has is_leak_begun s.world.trace ≡ true
      ends (Op.End a held) n v = before-told is_leak_begun s.world.trace (Event.CallEnded p a ∷ []) refl v
      ends _ n v = absurd (cc)

      by : (b : Bool) → is_end o ≡ b → has is_leak_begun s.world.trace ≡ true
      by true n = ends o n here
      by false n = let g = grows-act p h o s.world n in
          before-told is_leak_begun s.world.trace g.more (none-leaks g.more g.none_begins) (ap (has is_leak_begun) (sym g.is) ∙ here)

  leaves-out : (h : Hint) → old ≡ Op.Closing ClosingOp.LeakOut ∷ [] → d ≡ act p h (Op.Closing ClosingOp.LeakOut) s.world → Leaky now
  leaves-out h q z =
      let a : weigh leaks_of old ≡ 1 = ap (weigh leaks_of) q in
      let b : weigh leaks_of d.next ≡ 0 =
      ap (λ (x : Done). weigh leaks_of x.next) z ∙ leak-act p h (Op.Closing ClosingOp.LeakOut) s.world in
      let o = k.opened (omega (arith, a, was)) in
      record {
        within = within-now;
        single = omega (arith, a, b, was, is, k.single);
        opened = λ x. absurd (omega (arith, a, b, was, is, k.single, x));
        begun = λ h. inr (ap (λ (x : Done). x.world.is_static) z ∙ by s.world.is_static s.world.gone o.0 o.1);
      }
    where
      by : (x y : Bool) → x ≡ false → y ≡ false → (leak_out_by (x || y) s.world).world.is_static ≡ true
      by false false i j = refl
      by true y i j = absurd (cc)
      by false true i j = absurd (cc)

  leaky-acted : (h : Hint) (o : Op) → old ≡ o ∷ [] → d ≡ act p h o s.world → Leaky now
  leaky-acted h o q z = by (leaks_of o) refl
    where
      by : (n : ℕ) → leaks_of o ≡ n → Leaky now
      by (suc n) i =
          let j : o ≡ Op.Closing ClosingOp.LeakOut = is-out o n i in
          leaves-out h (q ∙ ap (λ (x : Op). x ∷ []) j) (z ∙ ap (λ (x : Op). act p h x s.world) j)
      by zero i = calm (ap (λ (x : Done). weigh leaks_of x.next) z ∙ leak-act p h o s.world)
          (omega (arith, ap (weigh leaks_of) q, i))
          (static-same (λ m. absurd (omega (arith, ap (weigh leaks_of) (sym q ∙ m), i))))
          (λ x. gone-effects s.world s.parties old d effects (λ m. let no : o ∷ [] ≡ [] = sym q ∙ m in cc)) (told-act h o z)

  leaky-reacted : (o : Op) (u : UserEnd) → accepts o u ≡ true → old ≡ o ∷ [] → d ≡ react p o u s.world → Leaky now
  leaky-reacted o u a q z =
      let i : leaks_of o ≡ 0 = user o u a in
      let g = grows-react p o u s.world in
      calm (ap (λ (x : Done). weigh leaks_of x.next) z ∙ leak-react p o u s.world) (omega (arith, ap (weigh leaks_of) q, i))
      (static-same (λ m. absurd (omega (arith, ap (weigh leaks_of) (sym q ∙ m), i))))
      (λ x. gone-effects s.world s.parties old d effects (λ m. let no : o ∷ [] ≡ [] = sym q ∙ m in cc))
      (λ t. before-told is_leak_begun s.world.trace g.more (none-leaks g.more g.none_begins)
      (ap (has is_leak_begun) (sym g.is) ∙ subst (λ (x : Done). has is_leak_begun x.world.trace ≡ true) z t))
    where
      user : (o : Op) (u : UserEnd) → accepts o u ≡ true → leaks_of o ≡ 0
      user (Op.User (UserOp.Poll f)) u a = refl
      user (Op.User _) u a = refl
      user _ u a = absurd (cc)

  module _ (c : Call) (q : old ≡ []) (n : begin_refusal s.world s.parties (top (stack s p)) c ≡ None)
      (z : d ≡ begun p (log s.world (Event.CallBegun p c)) (mine (top (stack s p))) c) where
    calm-now : is_on_executor c ≡ true → out s ≡ 0
    calm-now i =
        let x : (not (is_on_executor c) || is_unused leaking_of s.parties) ≡ true =
        (calm_owned s.world s.parties (top (stack s p)) c n).0 in
        none-out s k (unused-is (weigh_all leaking_of s.parties)
        (ap (λ (b : Bool). not b || is_unused leaking_of s.parties) (sym i) ∙ x))

    no-old : weigh leaks_of old ≡ 0
    no-old = ap (weigh leaks_of) q

    other-call : weigh leaks_of (begun p (log s.world (Event.CallBegun p c)) (mine (top (stack s p))) c).next ≡ 0 → Leaky now
    other-call a = calm (ap (λ (x : Done). weigh leaks_of x.next) z ∙ a) no-old
        (static-same (λ m. let no : [] ≡ Op.Closing ClosingOp.LeakOut ∷ [] = sym q ∙ m in cc)) (gone (is_drop c) refl) told
      where
        no-leak : (c : Call) → weigh leaks_of (begun p (log s.world (Event.CallBegun p c)) (mine (top (stack s p))) c).next ≡ 0 →
            is_leak_begun (Event.CallBegun p c) ≡ false
        no-leak Call.Leak b = absurd (omega (arith, b))
        no-leak _ b = refl

        drop-on : (c : Call) → is_drop c ≡ true → is_on_executor c ≡ true
        drop-on Call.DropExecutor b = refl
        drop-on _ b = absurd (cc)

        gone : (b : Bool) → is_drop c ≡ b → 1 ≤ out s → d.world.gone ≡ s.world.gone
        gone true i x = absurd (omega (arith, x, calm-now (drop-on c i)))
        gone false i x = ap (λ (y : Done). y.world.gone) z ∙ gone-begun p (log s.world (Event.CallBegun p c)) (mine (top (stack s p))) c i

        told : has is_leak_begun d.world.trace ≡ true → has is_leak_begun s.world.trace ≡ true
        told t =
            let w : World = log s.world (Event.CallBegun p c) in
            let g = grows-begun p w (mine (top (stack s p))) c in
            let x : has is_leak_begun w.trace ≡ true = before-told is_leak_begun w.trace g.more (none-leaks g.more g.none_begins)
            (ap (has is_leak_begun) (sym g.is) ∙ subst (λ (y : Done). has is_leak_begun y.world.trace ≡ true) z t) in
            before-told is_leak_begun s.world.trace (Event.CallBegun p c ∷ []) (λ i. no-leak c a i || false) x

  leak-call : old ≡ [] → begin_refusal s.world s.parties (top (stack s p)) Call.Leak ≡ None →
      d ≡ begun p (log s.world (Event.CallBegun p Call.Leak)) (mine (top (stack s p))) Call.Leak → Leaky now
  leak-call q n z =
      let a : out s ≡ 0 = calm-now Call.Leak q n z refl in
      let b : weigh leaks_of d.next ≡ 1 = ap (λ (x : Done). weigh leaks_of x.next) z in
      let c : weigh leaks_of old ≡ 0 = ap (weigh leaks_of) q in
      record {
        within = within-now;
        single = omega (arith, a, b, c, was, is);
        opened = λ x. (
          ap (λ (y : Done). y.world.is_static) z ∙ owned s.world.is_static
              (calm_owned s.world s.parties (top (stack s p)) Call.Leak n).1,
          ap (λ (y : Done). y.world.gone) z ∙ open-now s.world.gone
              (none_refused s.world s.parties (top (stack s p)) Call.Leak n).2,
        );
        begun = λ h. inl (omega (arith, a, b, c, was, is));
      }
    where
      owned : (b : Bool) → not (true && b) ≡ true → b ≡ false
      owned false i = refl
      owned true i = absurd (cc)

      open-now : (b : Bool) → not (b && true) ≡ true → b ≡ false
      open-now false i = refl
      open-now true i = absurd (cc)

leaky-moves : (s : Machine) (p : ℕ) (old rest : List Op) (d : Done) → Good s → p < length s.parties →
    stack s p ≡ rest ++ reverse old → Way s p old rest d → Leaky s → Leaky (unsettled s p rest d)
leaky-moves s p old rest d good l e (acted h o q z) k = leaky-acted s p old rest d good l e (acted h o q z) k h o q z
leaky-moves s p old rest d good l e (reacted o u a q z) k = leaky-reacted s p old rest d good l e (reacted o u a q z) k o u a q z
leaky-moves s p old rest d good l e (called c q r n z) k = ⊎_elim
    (λ (x : weigh leaks_of (begun p (log s.world (Event.CallBegun p c)) (mine (top (stack s p))) c).next ≡ 0).
    other-call s p old rest d good l e (called c q r n z) k c q n z x)
    (λ (x : c ≡ Call.Leak). leak-call s p old rest d good l e (called c q r n z) k q
    (subst (λ (y : Call). begin_refusal s.world s.parties (top (stack s p)) y ≡ None) x n)
    (subst (λ (y : Call). d ≡ begun p (log s.world (Event.CallBegun p y)) (mine (top (stack s p))) y) x z))
    (leak-begun p (log s.world (Event.CallBegun p c)) (mine (top (stack s p))) c)

leaky-ends : (s : Machine) (p : ℕ) (a : Reply) (held : Hold) (below : List Op) → p < length s.parties →
    stack s p ≡ below ++ reverse (Op.End a held ∷ []) → Leaky s →
    Leaky (unsettled s p below (done (log s.world (Event.CallEnded p a)) []))
leaky-ends s p a held below l e k =
    let was : out s ≡ weigh_all leaks_of (set s.parties p below) =
    omega (arith, split leaks_of s.parties p (Op.End a held ∷ []) below l e) in
    let is : out (unsettled s p below (done (log s.world (Event.CallEnded p a)) [])) ≡ weigh_all leaks_of (set s.parties p below) =
    omega (arith, weigh_all-push leaks_of s.parties p below [] l) in
    record {
      within = withins-end s p a held below l e k.within;
      single = omega (arith, was, is, k.single);
      opened = λ x. k.opened (omega (arith, was, is, x));
      begun = λ h. ⊎_elim
          (λ (x : 1 ≤ out s). inl (omega (arith, was, is, x)))
          (λ (x : s.world.is_static ≡ true). inr x)
          (k.begun (before-told is_leak_begun s.world.trace (Event.CallEnded p a ∷ []) refl h));
    }

leaky : (limit : ℕ) (kind : Kind) (n : ℕ) (ts : List Step) → Leaky (run ts (start limit kind n))
leaky limit kind n ts = along Leaky leaky-moves leaky-ends ts (start limit kind n) (good-start limit kind n) (record {
  within = withins-start limit kind n;
  single = omega (arith, weigh_all-idle leaks_of n);
  opened = λ x. absurd (omega (arith, x, weigh_all-idle leaks_of n));
  begun = λ h. absurd (cc);
})

pub leaked-static : (limit : ℕ) (kind : Kind) (n : ℕ) (ts : List Step) → LeakedIsStatic (run ts (start limit kind n))
leaked-static limit kind n ts e m =
    let s : Machine = run ts (start limit kind n) in
    let k : Leaky s = leaky limit kind n ts in
    let a : AllHeld s = all-held limit kind n ts in
    let z : out s ≡ 0 = none-out s k (unused-is (weigh_all leaking_of s.parties)
    (unused-of s a leaking_of (λ b. is_leak b.call) sees-leak m)) in
    ⊎_elim (λ (x : 1 ≤ out s). absurd (omega (arith, x, z))) (λ (x : s.world.is_static ≡ true). x) (k.begun e)
