-- For used_up_wakers_are_gone.
-- A waker that is used up goes as its call begins, and no other comes in its place.
use Rattle.std.proofs.Common.{◌≡◌, ◌≢◌, ◌∙◌, ◌⊎◌, inl, inr, ⊎_elim, ℕ, zero, suc, ◌<◌, List, [], ◌∷◌, ◌++◌, length, set, get_or}
use Rattle.std.proofs.Common.{Bool, true, false, ◌||◌, eqb, refl, sym, ap, subst, arith, get_or-set_same, get_or-set_other}
use Rattle.std.proofs.lemmas.Bool.Decides.{nat_tests}
use Rattle.std.specs.Prelude.{Option, Some, None, reverse}
use Rattle.executor_model.specs.Acts.{copy_by, drop_next_by, enter_by}
use Rattle.executor_model.specs.Doing.{act}
use Rattle.executor_model.specs.Good.{Good}
use Rattle.executor_model.specs.Rows.{lending_of}
use Rattle.executor_model.specs.Steps.{Machine, begun, future_of, has_all, is_some, is_unused, kept, mine, react, run, stack}
use Rattle.executor_model.specs.Steps.{start, top, with_future}
use Rattle.executor_model.specs.Trace.{Trace, has}
use Rattle.executor_model.specs.World.{Done, World, done, log}
use Rattle.executor_model.proofs.Promises.OwnWakers.{Turned}
use Rattle.executor_model.proofs.Promises.OwnWakers.Turned.{made, still, used}
use Rattle.executor_model.proofs.Steps.Deeds.{begins_one, grows-act, grows-begun, grows-react, is_end}
use Rattle.executor_model.proofs.Steps.Lift.{good-start, none_refused, unsettled}
use Rattle.executor_model.proofs.Steps.Parts.{places}
use Rattle.executor_model.proofs.Steps.Placing.{Spots, same-react, same-spots}
use Rattle.executor_model.proofs.Steps.Ways.{Way, along}
use Rattle.executor_model.proofs.Steps.Ways.Way.{acted, called, reacted}
use Rattle.executor_model.proofs.Table.LeakStays.{before-told}
use Rattle.call_laws.proofs.There.{first}
use Rattle.call_laws.proofs.Types.{Call, ClosingOp, Event, Hint, Hold, Kind, Mark, Op, Reply, Step, TableOp, Waker, WakerOp}
use Rattle.call_laws.specs.UsedUp.{UsedUpIsGone, uses_up}

-- how the kept wakers change

turned-enter : (b c : Bool) (mark : Mark) (p : ℕ) (w : World) → Turned w (enter_by b c mark p w).world
turned-enter true c mark p w = still refl
turned-enter false true mark p w = still refl
turned-enter false false mark p w = still refl

turned-copy : (b : Bool) (w : World) (f : ℕ) (held : Hold) → Turned w (copy_by b w f held).world
turned-copy true w f held = still refl
turned-copy false w f held = made f refl

turned-drop_next : (q : List ℕ) (p : ℕ) (w : World) → Turned w (drop_next_by p w q).world
turned-drop_next [] p w = still refl
turned-drop_next (f ∷ rest) p w = still refl

turned-act : (b : Bool) (p : ℕ) (h : Hint) (o : Op) (w : World) → places o ≡ b → Turned w (act p h o w).world
turned-act false p h o w e = still (sym (ap (λ (x : Spots). x.wakers) (same-spots p h o w e)))
turned-act true p h (Op.Table (TableOp.Enter mark)) w e = turned-enter _ _ _ p w
turned-act true p h (Op.Table (TableOp.TakeToPoll f)) w e = still refl
turned-act true p h (Op.Table (TableOp.PutBack f)) w e = still refl
turned-act true p h (Op.Table (TableOp.TakeToDrop f)) w e = still refl
turned-act true p h (Op.Waker (WakerOp.CopyWaker f held)) w e = turned-copy _ w f held
turned-act true p h (Op.Closing ClosingOp.DropNext) w e = turned-drop_next _ p w
turned-act true p h _ w e = absurd (cc)

turned-with : (w v : World) (o : Option ℕ) (d : ℕ → Done) → v.wakers ≡ w.wakers → ((f : ℕ) → Turned w (d f).world) →
    Turned w (with_future v o d).world
turned-with w v None d e k = still e
turned-with w v (Some f) d e k = k f

turned-begun : (p : ℕ) (w : World) (here : Option Waker) (c : Call) → Turned w (begun p (log w (Event.CallBegun p c)) here c).world
turned-begun p w here (Call.Wake j) = turned-with w _ (kept w j) _ refl (λ f. used j refl)
turned-begun p w here (Call.WakeByRef j) = turned-with w _ (kept w j) _ refl (λ f. still refl)
turned-begun p w here (Call.Copy j) = turned-with w _ (kept w j) _ refl (λ f. still refl)
turned-begun p w here (Call.DropWaker j) = turned-with w _ (kept w j) _ refl (λ f. used j refl)
turned-begun p w here Call.Keep = turned-with w _ (future_of here) _ refl (λ f. still refl)
turned-begun p w here Call.WakeSelf = turned-with w _ (future_of here) _ refl (λ f. still refl)
turned-begun p w here _ = still refl

-- a waker that has gone

Gone : World → ℕ → Type 0
Gone w k = (k < length w.wakers) × (kept w k ≡ None)

pushed : (ws : List (Option ℕ)) (k : ℕ) (x : Option ℕ) → k < length ws →
    (k < length (ws ++ x ∷ [])) × (get_or (ws ++ x ∷ []) k None ≡ get_or ws k None)
pushed [] k x l = absurd (omega (arith, l))
pushed (w ∷ ws) zero x l = (omega arith, refl)
pushed (w ∷ ws) (suc k) x l = let n = pushed ws k x (omega (arith, l)) in (omega (arith, n.0), n.1)

set-length : (ws : List (Option ℕ)) (j : ℕ) (x : Option ℕ) → length (set ws j x) ≡ length ws
set-length [] j x = refl
set-length (w ∷ ws) zero x = refl
set-length (w ∷ ws) (suc j) x = omega (arith, set-length ws j x)

stays-gone : (w v : World) (k : ℕ) → Turned w v → Gone w k → Gone v k
unfolding Gone
stays-gone w v k (still e) g = (
  omega (arith, g.0, ap (λ (ws : List (Option ℕ)). length ws) e),
  ap (λ (ws : List (Option ℕ)). get_or ws k None) e ∙ g.1,
)
stays-gone w v k (made f e) g = let n = pushed w.wakers k (Some f) g.0 in (
  omega (arith, n.0, ap (λ (ws : List (Option ℕ)). length ws) e),
  ap (λ (ws : List (Option ℕ)). get_or ws k None) e ∙ (n.1 ∙ g.1),
)
stays-gone w v k (used j e) g = (
  omega (arith, g.0, set-length w.wakers j None, ap (λ (ws : List (Option ℕ)). length ws) e),
  ap (λ (ws : List (Option ℕ)). get_or ws k None) e ∙ by (eqb k j) refl,
)
  where
    by : (b : Bool) → eqb k j ≡ b → get_or (set w.wakers j None) k None ≡ None
    by true z =
        let i : j ≡ k = grind (arith, nat_tests) in
        ap (λ (n : ℕ). get_or (set w.wakers n None) k None) i ∙ get_or-set_same w.wakers k None None g.0
    by false z = let n : k ≢ j = grind (arith, nat_tests) in get_or-set_other w.wakers j k None None n ∙ g.1

-- as a call uses it up

there : (ws : List (Option ℕ)) (k : ℕ) → is_some (get_or ws k None) ≡ true → k < length ws
there [] k e = absurd (cc)
there (w ∷ ws) zero e = omega arith
there (w ∷ ws) (suc k) e = omega (arith, there ws k e)

goes-so : (w v : World) (k : ℕ) (o : Option ℕ) (d : ℕ → Done) → kept w k ≡ o → is_some o ≡ true →
    ((f : ℕ) → (d f).world.wakers ≡ set w.wakers k None) → Gone (with_future v o d).world k
unfolding Gone
goes-so w v k (Some f) d e n i =
    let l : k < length w.wakers = there w.wakers k (ap is_some e) in (
      omega (arith, l, set-length w.wakers k None, ap (λ (ws : List (Option ℕ)). length ws) (i f)),
      ap (λ (ws : List (Option ℕ)). get_or ws k None) (i f) ∙ get_or-set_same w.wakers k None None l,
    )
goes-so w v k None d e n i = absurd (cc)

uses-begun : (s : Machine) (p k : ℕ) (c : Call) → uses_up k (Event.CallBegun p c) ≡ true →
    has_all s.world s.parties (top (stack s p)) c ≡ true →
    Gone (begun p (log s.world (Event.CallBegun p c)) (mine (top (stack s p))) c).world k
uses-begun s p k (Call.Wake j) e n =
    let i : j ≡ k = grind (arith, nat_tests) in
    subst (λ (m : ℕ). Gone (begun p (log s.world (Event.CallBegun p (Call.Wake j))) (mine (top (stack s p))) (Call.Wake j)).world m) i
    (goes-so s.world _ j (kept s.world j) _ refl (first (is_some (kept s.world j)) (is_unused (lending_of j) s.parties) n) (λ f. refl))
uses-begun s p k (Call.DropWaker j) e n =
    let i : j ≡ k = grind (arith, nat_tests) in
    let c : Call = Call.DropWaker j in
    subst (λ (m : ℕ). Gone (begun p (log s.world (Event.CallBegun p c)) (mine (top (stack s p))) c).world m) i
    (goes-so s.world _ j (kept s.world j) _ refl (first (is_some (kept s.world j)) (is_unused (lending_of j) s.parties) n) (λ f. refl))
uses-begun s p k _ e n = absurd (cc)

-- no other event tells of such a call
none-used : (k : ℕ) (es : Trace) → has begins_one es ≡ false → has (uses_up k) es ≡ false
none-used k [] e = refl
none-used k (x ∷ es) e = by x e (none-used k es)
  where
    by : (x : Event) → (begins_one x || has begins_one es) ≡ false → (has begins_one es ≡ false → has (uses_up k) es ≡ false) →
        (uses_up k x || has (uses_up k) es) ≡ false
    by (Event.CallBegun p c) z f = absurd (cc)
    by _ z f = f z

AllGone : Machine → Type 0
AllGone s = (k : ℕ) → has (uses_up k) s.world.trace ≡ true → Gone s.world k

-- where no call begins
quiet : (w v : World) (k : ℕ) (more : Trace) → Turned w v → v.trace ≡ w.trace ++ more → has begins_one more ≡ false →
    (has (uses_up k) w.trace ≡ true → Gone w k) → has (uses_up k) v.trace ≡ true → Gone v k
quiet w v k more t e n h u = stays-gone w v k t
    (h (before-told (uses_up k) w.trace more (none-used k more n) (ap (has (uses_up k)) (sym e) ∙ u)))

last-or : (k : ℕ) (es : Trace) (x : Event) → has (uses_up k) (es ++ x ∷ []) ≡ true →
    (has (uses_up k) es ≡ true) ⊎ (uses_up k x ≡ true)
last-or k [] x e = inr (by (uses_up k x) e)
  where
    by : (b : Bool) → (b || false) ≡ true → b ≡ true
    by true z = refl
    by false z = absurd (cc)
last-or k (y ∷ es) x e = by (uses_up k y) e (last-or k es x)
  where
    by : (b : Bool) → (b || has (uses_up k) (es ++ x ∷ [])) ≡ true →
        (has (uses_up k) (es ++ x ∷ []) ≡ true → (has (uses_up k) es ≡ true) ⊎ (uses_up k x ≡ true)) →
        ((b || has (uses_up k) es) ≡ true) ⊎ (uses_up k x ≡ true)
    by true z f = inl refl
    by false z f = f z

gone-acted : (s : Machine) (p : ℕ) (h : Hint) (o : Op) (k : ℕ) → AllGone s → has (uses_up k) (act p h o s.world).world.trace ≡ true →
    Gone (act p h o s.world).world k
unfolding AllGone
gone-acted s p h o k g u = by (is_end o) refl
  where
    ends : (o : Op) → is_end o ≡ true → has (uses_up k) (act p h o s.world).world.trace ≡ true → Gone (act p h o s.world).world k
    ends (Op.End a held) e u = quiet s.world _ k (Event.CallEnded p a ∷ []) (still refl) refl refl (g k) u
    ends _ e u = absurd (cc)

    by : (b : Bool) → is_end o ≡ b → Gone (act p h o s.world).world k
    by true e = ends o e u
    by false e =
        let x = grows-act p h o s.world e in quiet s.world _ k x.more (turned-act (places o) p h o s.world refl) x.is x.none_begins (g k) u

gone-called : (s : Machine) (p : ℕ) (c : Call) (k : ℕ) → AllGone s →
    has_all s.world s.parties (top (stack s p)) c ≡ true →
    has (uses_up k) (begun p (log s.world (Event.CallBegun p c)) (mine (top (stack s p))) c).world.trace ≡ true →
    Gone (begun p (log s.world (Event.CallBegun p c)) (mine (top (stack s p))) c).world k
unfolding AllGone
gone-called s p c k g a u =
    let w : World = log s.world (Event.CallBegun p c) in
    let x = grows-begun p w (mine (top (stack s p))) c in
    ⊎_elim
    (λ (y : has (uses_up k) s.world.trace ≡ true). stays-gone s.world _ k (turned-begun p s.world (mine (top (stack s p))) c) (g k y))
    (λ (y : uses_up k (Event.CallBegun p c) ≡ true). uses-begun s p k c y a)
    (last-or k s.world.trace (Event.CallBegun p c)
    (before-told (uses_up k) w.trace x.more (none-used k x.more x.none_begins) (ap (has (uses_up k)) (sym x.is) ∙ u)))

moves : (s : Machine) (p : ℕ) (old rest : List Op) (d : Done) → Good s → p < length s.parties →
    stack s p ≡ rest ++ reverse old → Way s p old rest d → AllGone s → AllGone (unsettled s p rest d)
unfolding AllGone
moves s p old rest d good l e (acted h o q z) g k =
    subst (λ (x : Done). has (uses_up k) x.world.trace ≡ true → Gone x.world k) (sym z) (gone-acted s p h o k g)
moves s p old rest d good l e (reacted o u a q z) g k =
    subst (λ (x : Done). has (uses_up k) x.world.trace ≡ true → Gone x.world k) (sym z)
    (let x = grows-react p o u s.world in quiet s.world (react p o u s.world).world k x.more
    (still (sym (ap (λ (y : Spots). y.wakers) (same-react p o u s.world a)))) x.is x.none_begins (g k))
moves s p old rest d good l e (called c q r n z) g k =
    subst (λ (x : Done). has (uses_up k) x.world.trace ≡ true → Gone x.world k) (sym z)
    (gone-called s p c k g (none_refused s.world s.parties (top (stack s p)) c n).1)

over : (s : Machine) (p : ℕ) (a : Reply) (held : Hold) (below : List Op) → p < length s.parties →
    stack s p ≡ below ++ reverse (Op.End a held ∷ []) → AllGone s →
    AllGone (unsettled s p below (done (log s.world (Event.CallEnded p a)) []))
unfolding AllGone
over s p a held below l e g k u =
    quiet s.world (log s.world (Event.CallEnded p a)) k (Event.CallEnded p a ∷ []) (still refl) refl refl (g k) u

all-gone : (limit : ℕ) (kind : Kind) (n : ℕ) (ts : List Step) → AllGone (run ts (start limit kind n))
unfolding AllGone
all-gone limit kind n ts = along AllGone moves over ts (start limit kind n) (good-start limit kind n) (λ k e. absurd (cc))

pub used-up-gone : (limit : ℕ) (kind : Kind) (n : ℕ) (ts : List Step) → UsedUpIsGone (run ts (start limit kind n))
unfolding AllGone Gone
used-up-gone limit kind n ts k e = (all-gone limit kind n ts k e).1
