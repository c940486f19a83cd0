-- For early_drops_have_causes and last_wakers_are_of_detached_futures.
-- A machine is static where it was made so, or a leak of its executor has begun.
use Rattle.std.proofs.Common.{◌≡◌, ◌⊎◌, ℕ, ◌<◌, ◌≤◌, List, [], ◌∷◌, ◌++◌, length, take, Bool, true, false, ◌||◌, inl, inr}
use Rattle.std.proofs.Common.{⊎_elim, refl, sym, subst, ap, ◌∙◌, arith}
use Rattle.std.specs.Prelude.{Option, reverse}
use Rattle.executor_model.proofs.Types.{Move, Kind, Call, Reply, Event, ClosingOp, Hold, Op, Step, Waker}
use Rattle.executor_model.specs.declared.kind.Kind.TheVariants.{Owned, Static}
use Rattle.executor_model.specs.Steps.{Machine, begun, mine, run, stack, start, top}
use Rattle.executor_model.specs.Trace.{Trace, has, is_drop_begun, is_leak_begun}
use Rattle.executor_model.specs.{Acts.is_last_waker, Acts.is_told, Acts.move_by, Doing.act, Good.Good, Weights.weigh}
use Rattle.executor_model.specs.{Weights.weigh_all, World.World, World.Done, World.done, World.log, World.task}
use Rattle.executor_model.proofs.OneFuture.Effects.Effect.{passes, turns, refuses, enters, unlists, drops, takes_out}
use Rattle.executor_model.proofs.Table.LastWakers.{Reading, bare-told, begun-by, leaked-is, newly, reads-append, reads_from}
use Rattle.executor_model.proofs.OneFuture.Effects.Effect.{drops_next, leaks, leaks_out}
use Rattle.executor_model.proofs.OneFuture.EffectsWays.Effects.{does, pends, readies, closes}
use Rattle.executor_model.proofs.Steps.Deeds.{Grows, begins_one, grows-act, grows-begun, grows-react}
use Rattle.executor_model.proofs.Steps.Lift.{good, good-start, split, unsettled, weigh_all-idle}
use Rattle.executor_model.proofs.Table.LeakCounts.{leak-act, leak-begun, leak-react, leaks_of}
use Rattle.executor_model.proofs.Steps.Ways.Way.{acted, called, reacted}
use Rattle.executor_model.proofs.Table.LeavingExecutions.{Placed, placed-ends, placed-moves, placed-start}
use Rattle.executor_model.proofs.{OneFuture.Effects.Effect, OneFuture.EffectsWays.Effects, OneFuture.EffectsWays.effects-way}
use Rattle.executor_model.proofs.{OneFuture.Extras.no_extra, OneFuture.MoveViews.told-world, OneFuture.Views.none}
use Rattle.executor_model.proofs.{Promises.CallPromises.has-left, Promises.CallPromises.has-right, Quiet.Calls.is_end}
use Rattle.executor_model.proofs.{Steps.Lists.weigh_all-push, Steps.Ways.Way, Steps.Ways.along, OneFuture.Stories.story}
use Rattle.executor_model.proofs.{Steps.Tests.left-false, Steps.Tests.right-false, Steps.TraceMore.has-append}
use Rattle.executor_model.proofs.{Table.Entering.IsOfKind, Table.Entering.LastIsTold, Table.LastWakers.unread}

-- nothing but a leak makes a machine static

abbrev pub Becomes : World → List Op → Done → Type 0
Becomes w old d = (d.world.is_static ≡ w.is_static)
    ⊎ ((w.is_static ≡ false) × (old ≡ Op.Closing ClosingOp.LeakOut ∷ []))

static-moved : (m : Move) (p : ℕ) (w : World) (f : ℕ) → (move_by true m p w f).world.is_static ≡ w.is_static
static-moved m p w f =
    ap (λ (v : World). v.is_static) (told-world (is_last_waker m (task w f)) (is_told m (task w f)) m p w f)

static-effect : (w : World) (old : List Op) (d : Done) → Effect w old d → Becomes w old d
static-effect w old d (passes s c) = inl (s 0 none no_extra).passes.is_static
static-effect w old d (turns e m p f v more i j k s a b) =
    inl (ap (λ (u : World). u.is_static) a ∙ (static-moved m p v f ∙ (s 0 none no_extra).passes.is_static))
static-effect w old d (refuses f e) = inl refl
static-effect w old d (enters mark p e) = inl refl
static-effect w old d (unlists f e) = inl refl
static-effect w old d (drops p f) = inl refl
static-effect w old d takes_out = inl refl
static-effect w old d (drops_next p f rest e) = inl refl
static-effect w old d (leaks_out s n) = inr (s, refl)
static-effect w old _ (leaks d p f e a) = static-effect w (Op.Closing ClosingOp.LeakNext ∷ []) d e

pub static-effects : (w : World) (ss : List (List Op)) (old : List Op) (d : Done) → Effects w ss old d → Becomes w old d
static-effects w ss old d (does e) = static-effect w old d e
static-effects w ss old d (pends p f) = inl refl
static-effects w ss old d (readies p f) = inl refl
static-effects w ss old d (closes p n u) = inl refl

-- what is told stays told

leak-stays : (s : Machine) (p : ℕ) (old rest : List Op) (d : Done) → Way s p old rest d →
    has is_leak_begun s.world.trace ≡ true → has is_leak_begun d.world.trace ≡ true
leak-stays s p old rest d (acted t o q z) k =
    subst (λ (x : Done). has is_leak_begun x.world.trace ≡ true) (sym z) (by o (is_end o) refl)
  where
    by : (o : Op) (b : Bool) → is_end o ≡ b → has is_leak_begun (act p t o s.world).world.trace ≡ true
    by o false n =
        let g = grows-act p t o s.world n in
        subst (λ (es : Trace). has is_leak_begun es ≡ true) (sym g.is) (has-left is_leak_begun s.world.trace g.more k)
    by (Op.End a held) true n = has-left is_leak_begun s.world.trace (Event.CallEnded p a ∷ []) k
    by _ true n = absurd (cc)
leak-stays s p old rest d (reacted o u a q z) k =
    let g = grows-react p o u s.world in
    subst (λ (x : Done). has is_leak_begun x.world.trace ≡ true) (sym z)
    (subst (λ (es : Trace). has is_leak_begun es ≡ true) (sym g.is) (has-left is_leak_begun s.world.trace g.more k))
leak-stays s p old rest d (called c q r n z) k =
    let w : World = log s.world (Event.CallBegun p c) in
    let g = grows-begun p w (mine (top (stack s p))) c in
    subst (λ (x : Done). has is_leak_begun x.world.trace ≡ true) (sym z)
    (subst (λ (es : Trace). has is_leak_begun es ≡ true) (sym g.is)
    (has-left is_leak_begun w.trace g.more (has-left is_leak_begun s.world.trace (Event.CallBegun p c ∷ []) k)))

-- who is about to take the wakers out of the table has begun a leak

abbrev Begun : Machine → Type 0
Begun s = 1 ≤ weigh_all leaks_of s.parties → has is_leak_begun s.world.trace ≡ true

leads : (s : Machine) (p : ℕ) (old rest : List Op) (d : Done) → Way s p old rest d →
    (weigh leaks_of d.next ≡ 0) ⊎ (has is_leak_begun d.world.trace ≡ true)
leads s p old rest d (acted t o q z) = inl (ap (λ (x : Done). weigh leaks_of x.next) z ∙ leak-act p t o s.world)
leads s p old rest d (reacted o u a q z) = inl (ap (λ (x : Done). weigh leaks_of x.next) z ∙ leak-react p o u s.world)
leads s p old rest d (called c q r n z) = ⊎_elim
    (λ (x : weigh leaks_of (begun p w here c).next ≡ 0). inl (ap (λ (x : Done). weigh leaks_of x.next) z ∙ x))
    (λ (x : c ≡ Call.Leak). inr (subst (λ (y : Done). has is_leak_begun y.world.trace ≡ true) (sym z)
    (subst (λ (es : Trace). has is_leak_begun es ≡ true) (sym g.is)
    (has-left is_leak_begun w.trace g.more (has-right is_leak_begun s.world.trace (Event.CallBegun p c ∷ [])
    (subst (λ (k : Call). has is_leak_begun (Event.CallBegun p k ∷ []) ≡ true) (sym x) refl))))))
    (leak-begun p w here c)
  where
    here : Option Waker
    here = mine (top (stack s p))

    w : World
    w = log s.world (Event.CallBegun p c)

    g : Grows p w (begun p w here c).world
    g = grows-begun p w here c

begun-moves : (s : Machine) (p : ℕ) (old rest : List Op) (d : Done) → p < length s.parties →
    stack s p ≡ rest ++ reverse old → Way s p old rest d → Begun s → Begun (unsettled s p rest d)
begun-moves s p old rest d l e way k = λ m. ⊎_elim
    (λ (x : weigh leaks_of d.next ≡ 0). leak-stays s p old rest d way (k (omega (
      arith,
      m,
      x,
      weigh_all-push leaks_of s.parties p rest d.next l,
      split leaks_of s.parties p old rest l e,
    ))))
    (λ (x : has is_leak_begun d.world.trace ≡ true). x) (leads s p old rest d way)

-- the wakers of the table go to be woken only behind that
leak-told : (s : Machine) (p : ℕ) (old rest : List Op) → p < length s.parties → stack s p ≡ rest ++ reverse old →
    old ≡ Op.Closing ClosingOp.LeakOut ∷ [] → Begun s → has is_leak_begun s.world.trace ≡ true
leak-told s p old rest l e x k = k (omega (arith, ap (weigh leaks_of) x, split leaks_of s.parties p old rest l e))

begun-ends : (s : Machine) (p : ℕ) (a : Reply) (held : Hold) (below : List Op) → p < length s.parties →
    stack s p ≡ below ++ reverse (Op.End a held ∷ []) → Begun s →
    Begun (unsettled s p below (done (log s.world (Event.CallEnded p a)) []))
begun-ends s p a held below l e k = λ m. has-left is_leak_begun s.world.trace (Event.CallEnded p a ∷ []) (k (omega (
  arith,
  m,
  weigh_all-push leaks_of s.parties p below [] l,
  split leaks_of s.parties p (Op.End a held ∷ []) below l e,
)))

begun-start : (limit : ℕ) (kind : Kind) (n : ℕ) → Begun (start limit kind n)
begun-start limit kind n = λ m. absurd (omega (arith, m, weigh_all-idle leaks_of n))

-- where nobody is left who could wake a future of an owned executor, a leak had begun, or the drop

pub none-leaks : (more : Trace) → has begins_one more ≡ false → has is_leak_begun more ≡ false
none-leaks [] z = refl
none-leaks (e ∷ more) z = ap (λ (b : Bool). b || has is_leak_begun more)
    (not-leak e (left-false (begins_one e) (has begins_one more) z))
    ∙ none-leaks more (right-false (begins_one e) (has begins_one more) z)
  where
    not-leak : (e : Event) → begins_one e ≡ false → is_leak_begun e ≡ false
    not-leak (Event.CallBegun p c) z = absurd (cc)
    not-leak _ z = refl

-- what a step adds, behind the beginning of a call, begins no leak
pub record Parts (es now : Trace) : Type 0 where
  pub first : Trace
  pub more : Trace
  pub is : now ≡ first ++ more
  pub none : has is_leak_begun more ≡ false
  pub same : (f : ℕ) → (reads_from f unread es).bare ≡ false → (reads_from f unread first).bare ≡ false

parts-of : (s : Machine) (p : ℕ) (old rest : List Op) (d : Done) → Way s p old rest d →
    Parts s.world.trace d.world.trace
parts-of s p old rest d (acted t o q z) = subst (λ (x : Done). Parts s.world.trace x.world.trace) (sym z) (by o (is_end o) refl)
  where
    by : (o : Op) (b : Bool) → is_end o ≡ b → Parts s.world.trace (act p t o s.world).world.trace
    by o false n = let g = grows-act p t o s.world n in record {
      first = s.world.trace;
      more = g.more;
      is = g.is;
      none = none-leaks g.more g.none_begins;
      same = λ f k. k;
    }
    by (Op.End a held) true n = record {
      first = s.world.trace;
      more = Event.CallEnded p a ∷ [];
      is = refl;
      none = refl;
      same = λ f k. k;
    }
    by _ true n = absurd (cc)
parts-of s p old rest d (reacted o u a q z) = let g = grows-react p o u s.world in
    subst (λ (x : Done). Parts s.world.trace x.world.trace) (sym z) record {
      first = s.world.trace;
      more = g.more;
      is = g.is;
      none = none-leaks g.more g.none_begins;
      same = λ f k. k;
    }
parts-of s p old rest d (called c q r n z) =
    let w : World = log s.world (Event.CallBegun p c) in
    let g = grows-begun p w (mine (top (stack s p))) c in
    subst (λ (x : Done). Parts s.world.trace x.world.trace) (sym z) record {
      first = w.trace;
      more = g.more;
      is = g.is;
      none = none-leaks g.more g.none_begins;
      same = λ f k. ap (λ (x : Reading). x.bare) (reads-append f unread s.world.trace (Event.CallBegun p c ∷ []))
          ∙ ap (λ (b : Bool). b || false) k;
    }

told-more : (f : ℕ) (es more : Trace) → has is_leak_begun more ≡ false → (reads_from f unread es).bare ≡ false →
    ((story f (es ++ more)).last ≡ true → has is_leak_begun (es ++ more) ≡ true) →
    (reads_from f unread (es ++ more)).bare ≡ false
told-more f es more n z k = by (reads_from f unread (es ++ more)).bare refl
  where
    by : (b : Bool) → (reads_from f unread (es ++ more)).bare ≡ b → (reads_from f unread (es ++ more)).bare ≡ false
    by false e = e
    by true e =
        let h : (reads_from f (reads_from f unread es) more).bare ≡ true =
        sym (ap (λ (x : Reading). x.bare) (reads-append f unread es more)) ∙ e in
        let l : has is_leak_begun es ≡ false =
        sym (leaked-is f unread es) ∙ newly f (reads_from f unread es) more z h in
        let no : true ≡ false = sym (k (bare-told f (es ++ more) e)) ∙ has-append is_leak_begun es more l n in absurd (cc)

abbrev Told : Kind → Trace → Type 0
Told Static es = Unit {0}
Told Owned es = (f : ℕ) → (reads_from f unread es).bare ≡ false

told-moves : (kind : Kind) (es now : Trace) → Parts es now →
    ((f : ℕ) → (story f now).last ≡ true → (kind ≡ Static) ⊎ (has is_leak_begun now ≡ true)) → Told kind es → Told kind now
told-moves Static es now x k h = tt
told-moves Owned es now x k h = λ f.
    subst (λ (t : Trace). (reads_from f unread t).bare ≡ false) (sym x.is)
    (told-more f x.first x.more x.none (x.same f (h f)) (λ l. owned (x.first ++ x.more) (subst (λ (t : Trace). (Owned ≡ Static)
    ⊎ (has is_leak_begun t ≡ true)) x.is (k f (subst (λ (t : Trace). (story f t).last ≡ true) (sym x.is) l)))))
  where
    owned : (t : Trace) → (Owned ≡ Static) ⊎ (has is_leak_begun t ≡ true) → has is_leak_begun t ≡ true
    owned t (inl e) = absurd (cc)
    owned t (inr e) = e

told-start : (kind : Kind) → Told kind []
told-start Static = tt
told-start Owned = λ f. refl

told-last : (kind : Kind) (es : Trace) → Told kind es → (f : ℕ) → LastIsTold kind f es
told-last Static es h f n l = inr (inl refl)
told-last Owned es h f n l = ⊎_elim
    (λ (x : has is_drop_begun (take n es) ≡ true). inl x)
    (λ (x : has is_leak_begun (take n es) ≡ true). inr (inr x)) (begun-by f n unread es (h f) l)

module _ (kind : Kind) where
  later : (s : Machine) (v : World) → (has is_leak_begun s.world.trace ≡ true → has is_leak_begun v.trace ≡ true) →
      (kind ≡ Static) ⊎ (has is_leak_begun s.world.trace ≡ true) → (kind ≡ Static) ⊎ (has is_leak_begun v.trace ≡ true)
  later s v k (inl x) = inl x
  later s v k (inr x) = inr (k x)

  abbrev Known : Machine → Type 0
  Known s = Placed s × Begun s × IsOfKind kind s × Told kind s.world.trace

  kind-moves : (s : Machine) (p : ℕ) (old rest : List Op) (d : Done) → Good s → p < length s.parties →
      stack s p ≡ rest ++ reverse old → Way s p old rest d → Known s → IsOfKind kind (unsettled s p rest d)
  kind-moves s p old rest d fine l e way k = λ t. ⊎_elim
      (λ (x : d.world.is_static ≡ s.world.is_static). later s d.world (leak-stays s p old rest d way) (k.2 (sym x ∙ t)))
      (λ (x : (s.world.is_static ≡ false) × (old ≡ Op.Closing ClosingOp.LeakOut ∷ [])).
      inr (leak-stays s p old rest d way (leak-told s p old rest l e x.1 k.1)))
      (static-effects s.world s.parties old d (effects-way s p old rest d fine l e way))

  kind-ends : (s : Machine) (p : ℕ) (a : Reply) (held : Hold) (below : List Op) → IsOfKind kind s →
      IsOfKind kind (unsettled s p below (done (log s.world (Event.CallEnded p a)) []))
  kind-ends s p a held below k = λ t. later s (log s.world (Event.CallEnded p a))
      (has-left is_leak_begun s.world.trace (Event.CallEnded p a ∷ [])) (k t)

  kind-start : (limit n : ℕ) → IsOfKind kind (start limit kind n)
  kind-start limit n = by kind
    where
      by : (c : Kind) → IsOfKind c (start limit c n)
      by Owned = λ t. absurd (cc)
      by Static = λ t. inl refl

  moves : (s : Machine) (p : ℕ) (old rest : List Op) (d : Done) → Good s → p < length s.parties →
      stack s p ≡ rest ++ reverse old → Way s p old rest d → Known s → Known (unsettled s p rest d)
  moves s p old rest d fine l e way k =
      let placed : Placed (unsettled s p rest d) = placed-moves s p old rest d fine l e way k.0 in
      let now : IsOfKind kind (unsettled s p rest d) = kind-moves s p old rest d fine l e way k in (
        placed,
        begun-moves s p old rest d l e way k.1,
        now,
        told-moves kind s.world.trace d.world.trace (parts-of s p old rest d way)
            (λ f x. now ((placed.leaves f).forgotten x).0) k.3,
      )

  ends : (s : Machine) (p : ℕ) (a : Reply) (held : Hold) (below : List Op) → p < length s.parties →
      stack s p ≡ below ++ reverse (Op.End a held ∷ []) → Known s →
      Known (unsettled s p below (done (log s.world (Event.CallEnded p a)) []))
  ends s p a held below l e k =
      let placed : Placed (unsettled s p below (done (log s.world (Event.CallEnded p a)) [])) =
      placed-ends s p a held below l e k.0 in
      let now : IsOfKind kind (unsettled s p below (done (log s.world (Event.CallEnded p a)) [])) =
      kind-ends s p a held below k.2 in (
        placed,
        begun-ends s p a held below l e k.1,
        now,
        told-moves kind s.world.trace (s.world.trace ++ Event.CallEnded p a ∷ []) (record {
          first = s.world.trace;
          more = Event.CallEnded p a ∷ [];
          is = refl;
          none = refl;
          same = λ f k. k;
        }) (λ f x. now ((placed.leaves f).forgotten x).0) k.3,
      )

  known : (limit n : ℕ) (ts : List Step) → Known (run ts (start limit kind n))
  known limit n ts = along Known moves ends ts (start limit kind n) (good-start limit kind n)
      (placed-start limit kind n, begun-start limit kind n, kind-start limit n, told-start kind)

-- what holds of a machine of such a kind
pub places-of : (P : Kind → Machine → ℕ → Type 0) → ((kind : Kind) (s : Machine) (f : ℕ) → Good s → Placed s →
    LastIsTold kind f s.world.trace → P kind s f) → (limit : ℕ) (kind : Kind) (parties : ℕ) (steps : List Step)
    (f : ℕ) → P kind (run steps (start limit kind parties)) f
places-of P k limit kind parties steps f =
    let x : _ = known kind limit parties steps in
    k kind (run steps (start limit kind parties)) f (good limit kind parties steps) x.0
    (told-last kind (run steps (start limit kind parties)).world.trace x.3 f)
