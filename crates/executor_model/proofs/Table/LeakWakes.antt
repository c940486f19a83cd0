-- For leaks_wake_each_future.
-- A leak goes through all wakers that it took out of the table, and tells of each.
use Rattle.std.proofs.Common.{◌≡◌, ◌⊎◌, ⊎_elim, ℕ, ◌<◌, ◌≤◌, List, [], ◌∷◌, ◌++◌, length, Bool, true, false, ◌&&◌, ◌||◌, not}
use Rattle.std.proofs.Common.{eqb, inl, inr, refl, sym, ap, ◌∙◌, subst, arith}
use Rattle.std.specs.Prelude.{None, Option, reverse}
use Rattle.std.{proofs.lemmas.Bool.Decides.nat_tests, proofs.lemmas.List.append_assoc}
use Rattle.executor_model.proofs.Types.{TableOp, UserOp, Call, Reply, Event, Kind, ClosingOp, Hold, Op, Waker, Hint, Step}
use Rattle.executor_model.specs.Steps.{Machine, accepts, begin_refusal, begun, is_on_executor, is_owners, is_unused, mine, run}
use Rattle.executor_model.specs.Trace.{Trace, has, is_drop_begun, is_leak_begun, is_leaked}
use Rattle.executor_model.specs.{Steps.stack, Steps.start, Steps.top, World.World, World.Done, World.done, World.log, Doing.act}
use Rattle.executor_model.specs.{Good.Good, LeakWakes.LeakWakes, Rows.leaking_of, Sound.times, Weights.weigh, Weights.weigh_all}
use Rattle.executor_model.proofs.Table.LeakStays.{Leaks, before-told, calm, drops-none, gone-same, hushed-drop, leaks-next}
use Rattle.executor_model.proofs.Table.LeakStays.{leaks-out, nexts_of, now, waking-act}
use Rattle.executor_model.proofs.Steps.Hushed.{Hushed, hushed-act, hushed-called, hushed-react}
use Rattle.executor_model.proofs.Steps.Lift.{good-start, none_refused, unsettled, weigh_all-idle}
use Rattle.executor_model.proofs.Steps.Listing.{Entries, same-begun, same-react}
use Rattle.executor_model.proofs.Table.Closing.{Ordered, ordered-ends, ordered-moves, ordered-start}
use Rattle.executor_model.proofs.Table.LeakCounts.{goes-act, goes-begun, goes-react, is_leaking, leaks_of}
use Rattle.executor_model.proofs.Table.LeakWithin.{Withins, going-less, going_of, withins-end, withins-moves, withins-start}
use Rattle.executor_model.proofs.{Types.UserEnd, Steps.Deeds.grows-act, Steps.Deeds.grows-begun, Steps.Deeds.grows-react}
use Rattle.executor_model.proofs.{Steps.Ways.Way.acted, Steps.Ways.Way.called, Steps.Ways.Way.reacted, Table.Leaking.none-leaks}
use Rattle.executor_model.proofs.{Table.Leaking.static-effects, OneFuture.EffectsWays.effects-way, Steps.Begins.calm_owned}
use Rattle.executor_model.proofs.{Quiet.Calls.is_end, Steps.Lists.weigh_all-below, Steps.Ways.Way, Steps.Ways.along}

none-going : (o : Op) → is_leaking o ≡ false → going_of o ≡ 0
none-going (Op.Closing ClosingOp.LeakOut) n = absurd (cc)
none-going (Op.Closing ClosingOp.LeakNext) n = absurd (cc)
none-going (Op.Table (TableOp.PutBack f)) n = refl
none-going (Op.User (UserOp.Poll f)) n = refl
none-going _ n = refl

user-going : (o : Op) (u : UserEnd) → accepts o u ≡ true → is_leaking o ≡ false
user-going (Op.User x) u a = refl
user-going _ u a = absurd (cc)

-- what is done begins no leak
act-more : (s : Machine) (p : ℕ) (h : Hint) (o : Op) (b : Bool) → is_end o ≡ b → (more : Trace)
    × ((act p h o s.world).world.trace ≡ s.world.trace ++ more) × (has is_leak_begun more ≡ false)
act-more s p h o false n = let g = grows-act p h o s.world n in (g.more, g.is, none-leaks g.more g.none_begins)
act-more s p h (Op.End a held) true n = (Event.CallEnded p a ∷ [], refl, refl)
act-more s p h _ true n = absurd (cc)

none-used : (n : ℕ) → eqb n 0 ≡ true → n ≡ 0
none-used n e = grind (arith, nat_tests)

-- each way in which a party goes on

module _ (s : Machine) (p : ℕ) (old rest : List Op) (d : Done) (l : p < length s.parties)
    (e : stack s p ≡ rest ++ reverse old) (k : Leaks s) (fine : Good s) (way : Way s p old rest d) where
  after : Ordered (unsettled s p rest d)
  after = ordered-moves s p old rest d fine l e way k.ordered

  within : Withins (unsettled s p rest d)
  within = withins-moves s p old rest d l e way k.within

  static-same : (old ≡ Op.Closing ClosingOp.LeakOut ∷ [] → ⊥) → d.world.is_static ≡ s.world.is_static
  static-same m = ⊎_elim (λ (x : d.world.is_static ≡ s.world.is_static). x)
      (λ (x : (s.world.is_static ≡ false) × (old ≡ Op.Closing ClosingOp.LeakOut ∷ [])). absurd (m x.1))
      (static-effects s.world s.parties old d (effects-way s p old rest d fine l e way))

  not-out : (o : Op) → old ≡ o ∷ [] → is_leaking o ≡ false → old ≡ Op.Closing ClosingOp.LeakOut ∷ [] → ⊥
  not-out o q n i =
      let j : o ≡ Op.Closing ClosingOp.LeakOut =
      (let y : o ∷ [] ≡ Op.Closing ClosingOp.LeakOut ∷ [] = sym q ∙ i in cc) in
      let no : true ≡ false = sym (ap is_leaking j) ∙ n in cc

  by-act : (h : Hint) (o : Op) (b : Bool) → is_leaking o ≡ b → old ≡ o ∷ [] → d ≡ act p h o s.world →
      Leaks (unsettled s p rest d)
  by-act h (Op.Closing ClosingOp.LeakOut) true n q z =
      leaks-out s p old rest d l e k after within s.world.is_static s.world.gone refl refl q z
  by-act h (Op.Closing ClosingOp.LeakNext) true n q z =
      let m = act-more s p h (Op.Closing ClosingOp.LeakNext) false refl in
      leaks-next s p old rest d l e k after within s.world.gone s.world.waking refl refl q z m.0
      (ap (λ (c : Done). c.world.trace) z ∙ m.1) m.2
      (static-same (λ i. let no : Op.Closing ClosingOp.LeakNext ∷ [] ≡ Op.Closing ClosingOp.LeakOut ∷ [] = sym q ∙ i in cc))
      (gone-same s p old rest d l e k after within
      (subst (λ (c : Done). Hushed is_drop_begun hushed-drop s.world c.world) (sym z)
      (hushed-act is_drop_begun hushed-drop p h (Op.Closing ClosingOp.LeakNext) s.world tt)))
  by-act h _ true n q z = absurd (cc)
  by-act h o false n q z =
      let m = act-more s p h o (is_end o) refl in
      calm s p old rest d l e k after within m.0 (ap (λ (c : Done). c.world.trace) z ∙ m.1) m.2
      (static-same (not-out o q n))
      (gone-same s p old rest d l e k after within
      (subst (λ (c : Done). Hushed is_drop_begun hushed-drop s.world c.world) (sym z)
      (hushed-act is_drop_begun hushed-drop p h o s.world (drops-none p o))))
      (⊎_elim (λ (x : (act p h o s.world).world.waking ≡ s.world.waking).
      let y : (d.world.waking ≡ s.world.waking) ⊎ (s.world.gone ≡ true) = inl (ap (λ (c : Done). c.world.waking) z ∙ x) in y)
      (λ (x : s.world.gone ≡ true). let y : (d.world.waking ≡ s.world.waking) ⊎ (s.world.gone ≡ true) = inr x in y)
      (waking-act s p old rest d l e k after within fine h o n q))
      (omega (arith, ap (weigh going_of) q, none-going o n))
      (ap (λ (c : Done). weigh going_of c.next) z ∙ goes-act 1 1 p h o s.world n)

  -- a leak may begin, and so may the drop of the executor, only where no leak is in progress
  module _ (c : Call) (r : begin_refusal s.world s.parties (top (stack s p)) c ≡ None) where
    calm-now : is_on_executor c ≡ true → weigh_all going_of s.parties ≡ 0
    calm-now i =
        let x : (not (is_on_executor c) || is_unused leaking_of s.parties) ≡ true =
        (calm_owned s.world s.parties (top (stack s p)) c r).0 in
        omega (
          arith,
          none-used (weigh_all leaking_of s.parties)
              (ap (λ (b : Bool). not b || is_unused leaking_of s.parties) (sym i) ∙ x),
          going-less s k.within,
        )

    owned-now : is_owners c ≡ true → s.world.is_static ≡ false
    owned-now i =
        let x : not (is_owners c && s.world.is_static) ≡ true = (calm_owned s.world s.parties (top (stack s p)) c r).1 in
        by s.world.is_static (ap (λ (b : Bool). not (b && s.world.is_static)) (sym i) ∙ x)
      where
        by : (b : Bool) → not b ≡ true → b ≡ false
        by false z = refl
        by true z = absurd (cc)

  leaks-least : (o : Op) → leaks_of o ≤ going_of o
  leaks-least (Op.Closing ClosingOp.LeakOut) = omega arith
  leaks-least _ = omega arith

  leak-begins : old ≡ [] → begin_refusal s.world s.parties (top (stack s p)) Call.Leak ≡ None →
      d ≡ begun p (log s.world (Event.CallBegun p Call.Leak)) (mine (top (stack s p))) Call.Leak →
      Leaks (unsettled s p rest d)
  leak-begins q r z =
      let none : weigh_all leaks_of s.parties ≡ 0 =
      omega (arith, calm-now Call.Leak r refl, weigh_all-below leaks_of going_of leaks-least s.parties) in
      let before : weigh leaks_of old ≡ 0 = ap (weigh leaks_of) q in
      let next : weigh leaks_of d.next ≡ 1 = ap (λ (c : Done). weigh leaks_of c.next) z in
      let here : 1 ≤ weigh_all leaks_of (unsettled s p rest d).parties =
      omega (arith, now s p old rest d l e k after within leaks_of, none, before, next) in
      record {
        ordered = after;
        within = within;
        single = omega (arith, now s p old rest d l e k after within leaks_of, none, before, next);
        opened = λ x. (
          ap (λ (c : Done). c.world.is_static) z ∙ owned-now Call.Leak r refl,
          ap (λ (c : Done). c.world.gone) z
              ∙ open-now s.world.gone (none_refused s.world s.parties (top (stack s p)) Call.Leak r).2,
        );
        begun = λ h. inl here;
        goes_on = λ m. ⊎_elim
            (λ (x : s.world.waking ≡ []). inl (ap (λ (c : Done). c.world.waking) z ∙ x))
            (λ (x : 1 ≤ weigh_all nexts_of s.parties). inr (omega (
              arith,
              x,
              now s p old rest d l e k after within nexts_of,
              ap (weigh nexts_of) q,
            ))) (k.goes_on (sym (ap (λ (c : Done). c.world.gone) z) ∙ m));
        woken = λ f h c u. inl here;
      }
    where
      open-now : (b : Bool) → not (b && true) ≡ true → b ≡ false
      open-now false j = refl
      open-now true j = absurd (cc)

  drop-begins : old ≡ [] → begin_refusal s.world s.parties (top (stack s p)) Call.DropExecutor ≡ None →
      d ≡ begun p (log s.world (Event.CallBegun p Call.DropExecutor)) (mine (top (stack s p))) Call.DropExecutor →
      Leaks (unsettled s p rest d)
  drop-begins q r z =
      let none : weigh_all leaks_of s.parties ≡ 0 =
      omega (arith, calm-now Call.DropExecutor r refl, weigh_all-below leaks_of going_of leaks-least s.parties) in
      let before : weigh leaks_of old ≡ 0 = ap (weigh leaks_of) q in
      let next : weigh leaks_of d.next ≡ 0 = ap (λ (c : Done). weigh leaks_of c.next) z in
      record {
        ordered = after;
        within = within;
        single = omega (arith, now s p old rest d l e k after within leaks_of, none, before, next);
        opened = λ x. absurd (omega (arith, x, now s p old rest d l e k after within leaks_of, none, before, next));
        begun = λ h. absurd (unleaked none h);
        goes_on = λ m. absurd (let no : true ≡ false = sym (ap (λ (c : Done). c.world.gone) z) ∙ m in cc);
        woken = λ f h c u. absurd (unleaked none h);
      }
    where
      more : Trace
      more = Event.CallBegun p Call.DropExecutor ∷ Event.DropBegun p ∷ []

      trace : d.world.trace ≡ s.world.trace ++ more
      trace = ap (λ (c : Done). c.world.trace) z
          ∙ append_assoc s.world.trace (Event.CallBegun p Call.DropExecutor ∷ []) (Event.DropBegun p ∷ [])

      unleaked : weigh_all leaks_of s.parties ≡ 0 → has is_leak_begun d.world.trace ≡ true → ⊥
      unleaked none h = ⊎_elim
          (λ (x : 1 ≤ weigh_all leaks_of s.parties). let no : ⊥ = absurd (omega (arith, x, none)) in no)
          (λ (x : (s.world.is_static ≡ true) × (s.world.gone ≡ false)).
          let no : true ≡ false = sym x.0 ∙ owned-now Call.DropExecutor r refl in cc)
          (k.begun (before-told is_leak_begun s.world.trace more refl
          (subst (λ (es : Trace). has is_leak_begun es ≡ true) trace h)))

  by-call : (c : Call) → old ≡ [] → begin_refusal s.world s.parties (top (stack s p)) c ≡ None →
      d ≡ begun p (log s.world (Event.CallBegun p c)) (mine (top (stack s p))) c → Leaks (unsettled s p rest d)
  by-call Call.Leak q r z = leak-begins q r z
  by-call Call.DropExecutor q r z = drop-begins q r z
  by-call c q r z =
      let w : World = log s.world (Event.CallBegun p c) in
      let here : Option Waker = mine (top (stack s p)) in
      let g = grows-begun p w here c in
      calm s p old rest d l e k after within (Event.CallBegun p c ∷ g.more)
      (ap (λ (x : Done). x.world.trace) z ∙ (g.is ∙ append_assoc s.world.trace (Event.CallBegun p c ∷ []) g.more))
      (none-leaks g.more g.none_begins)
      (static-same (λ i. let no : [] ≡ Op.Closing ClosingOp.LeakOut ∷ [] = sym q ∙ i in cc))
      (gone-same s p old rest d l e k after within
      (subst (λ (x : Done). Hushed is_drop_begun hushed-drop s.world x.world) (sym z)
      (hushed-called is_drop_begun hushed-drop p s.world here c tt)))
      (inl (ap (λ (x : Done). x.world.waking) z ∙ sym (ap (λ (x : Entries). x.waking) (same-begun p w here c))))
      (ap (weigh going_of) q)
      (ap (λ (x : Done). weigh going_of x.next) z ∙ ⊎_elim
      (λ (x : weigh going_of (begun p w here c).next ≡ 0). x)
      (λ (x : c ≡ Call.Leak). absurd (cc)) (goes-begun 1 1 p w here c))

leaks-moves : (s : Machine) (p : ℕ) (old rest : List Op) (d : Done) → Good s → p < length s.parties →
    stack s p ≡ rest ++ reverse old → Way s p old rest d → Leaks s → Leaks (unsettled s p rest d)
leaks-moves s p old rest d fine l e (acted h o q z) k =
    by-act s p old rest d l e k fine (acted h o q z) h o (is_leaking o) refl q z
leaks-moves s p old rest d fine l e (called c q r n z) k =
    by-call s p old rest d l e k fine (called c q r n z) c q n z
leaks-moves s p old rest d fine l e (reacted o u a q z) k =
    let way : Way s p old rest d = reacted o u a q z in
    let g = grows-react p o u s.world in
    let i : is_leaking o ≡ false = user-going o u a in
    let a1 : Ordered (unsettled s p rest d) = after s p old rest d l e k fine way in
    let w1 : Withins (unsettled s p rest d) = within s p old rest d l e k fine way in
    calm s p old rest d l e k a1 w1 g.more (ap (λ (c : Done). c.world.trace) z ∙ g.is)
    (none-leaks g.more g.none_begins)
    (static-same s p old rest d l e k fine way (not-out s p old rest d l e k fine way o q i))
    (gone-same s p old rest d l e k a1 w1
    (subst (λ (c : Done). Hushed is_drop_begun hushed-drop s.world c.world) (sym z)
    (hushed-react is_drop_begun hushed-drop p o u s.world)))
    (inl (ap (λ (c : Done). c.world.waking) z ∙ sym (ap (λ (x : Entries). x.waking) (same-react p o u s.world a))))
    (omega (arith, ap (weigh going_of) q, none-going o i))
    (ap (λ (c : Done). weigh going_of c.next) z ∙ goes-react 1 1 p o u s.world)

leaks-ends : (s : Machine) (p : ℕ) (a : Reply) (held : Hold) (below : List Op) → p < length s.parties →
    stack s p ≡ below ++ reverse (Op.End a held ∷ []) → Leaks s →
    Leaks (unsettled s p below (done (log s.world (Event.CallEnded p a)) []))
leaks-ends s p a held below l e k =
    let d : Done = done (log s.world (Event.CallEnded p a)) [] in
    calm s p (Op.End a held ∷ []) below d l e k (ordered-ends s p a held below l e k.ordered)
    (withins-end s p a held below l e k.within) (Event.CallEnded p a ∷ []) refl refl refl refl (inl refl) refl refl

leaks-start : (limit : ℕ) (kind : Kind) (n : ℕ) → Leaks (start limit kind n)
leaks-start limit kind n = record {
  ordered = ordered-start limit kind n;
  within = withins-start limit kind n;
  single = omega (arith, weigh_all-idle leaks_of n);
  opened = λ x. absurd (omega (arith, x, weigh_all-idle leaks_of n));
  begun = λ h. absurd (cc);
  goes_on = λ m. inl refl;
  woken = λ f h c u. absurd (cc);
}

leaks : (limit : ℕ) (kind : Kind) (parties : ℕ) (steps : List Step) → Leaks (run steps (start limit kind parties))
leaks limit kind parties steps = along Leaks leaks-moves leaks-ends steps (start limit kind parties)
    (good-start limit kind parties) (leaks-start limit kind parties)

ended : (s : Machine) (f : ℕ) → Leaks s → LeakWakes s f
ended s f k x c u =
    let none : weigh_all going_of s.parties ≡ 0 = omega (arith, x.ended, going-less s k.within) in
    let none_first : weigh_all leaks_of s.parties ≡ 0 = omega (arith, none, weigh_all-below leaks_of going_of leaks-few s.parties) in
    let none_next : weigh_all nexts_of s.parties ≡ 0 = omega (arith, none, weigh_all-below nexts_of going_of nexts-few s.parties) in
    ⊎_elim
    (λ (y : 1 ≤ weigh_all leaks_of s.parties). absurd (omega (arith, y, none_first)))
    (λ (y : (1 ≤ times f s.world.waking) ⊎ (has (is_leaked f) s.world.trace ≡ true)). ⊎_elim
    (λ (z : 1 ≤ times f s.world.waking). absurd (omega (arith, z, ap (times f) (awake none_first none_next))))
    (λ (z : has (is_leaked f) s.world.trace ≡ true). z) y) (k.woken f x.begun c u)
  where
    leaks-few : (o : Op) → leaks_of o ≤ going_of o
    leaks-few (Op.Closing ClosingOp.LeakOut) = omega arith
    leaks-few _ = omega arith

    nexts-few : (o : Op) → nexts_of o ≤ going_of o
    nexts-few (Op.Closing ClosingOp.LeakNext) = omega arith
    nexts-few _ = omega arith

    awake : weigh_all leaks_of s.parties ≡ 0 → weigh_all nexts_of s.parties ≡ 0 → s.world.waking ≡ []
    awake a b = ⊎_elim
        (λ (y : 1 ≤ weigh_all leaks_of s.parties). absurd (omega (arith, y, a)))
        (λ (y : (s.world.is_static ≡ true) × (s.world.gone ≡ false)). ⊎_elim (λ (z : s.world.waking ≡ []). z)
        (λ (z : 1 ≤ weigh_all nexts_of s.parties). absurd (omega (arith, z, b))) (k.goes_on y.1)) (k.begun x.begun)

pub leaks-wake : (limit : ℕ) (kind : Kind) (parties : ℕ) (steps : List Step) (f : ℕ) →
    LeakWakes (run steps (start limit kind parties)) f
leaks-wake limit kind parties steps f = ended (run steps (start limit kind parties)) f (leaks limit kind parties steps)
