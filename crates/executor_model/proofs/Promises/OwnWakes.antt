-- For wakers_wake_their_own.
-- What holds of waker k and its future (proofs/Promises/OwnWakers), each step keeps.
use Rattle.std.proofs.Common.{◌≡◌, ◌≢◌, ◌⊎◌, ℕ, ◌+◌, ◌<◌, ◌≤◌, List, [], ◌∷◌, ◌++◌, length, get_or, set, Bool, true, false}
use Rattle.std.proofs.Common.{◌&&◌, eqb, inl, inr, ⊎_elim, refl, subst, sym, ap, ◌∙◌, get_or-set_same, get_or-set_other, arith}
use Rattle.std.proofs.lemmas.Bool.Decides.{nat_tests}
use Rattle.std.proofs.lemmas.List.{get_or-append-add, get_or_append_left, get_or_past, length-append, length-set}
use Rattle.std.specs.Prelude.{Option, Some, None, reverse}
use Rattle.executor_model.proofs.Types.{Mark, Kind, Call, Reply, Event, ClosingOp, Hold, Op, TableOp, Waker, WakerOp, Hint}
use Rattle.executor_model.specs.Steps.{Machine, accepts, begun, future_of, has_all, is_some, kept, mine, run, stack, start, top}
use Rattle.executor_model.specs.WakersMean.{HasWokenIts, WakersWakeTheirOwn, WakesIts, is_wake}
use Rattle.executor_model.specs.World.{World, Done, done, log}
use Rattle.executor_model.specs.{Acts.copy_by, Acts.drop_next_by, Acts.enter_by, Calls.Each, Calls.Ended, Calls.calls}
use Rattle.executor_model.specs.{Doing.act, Good.Good, Steps.with_future, Trace.Trace, Weights.same, Weights.weigh}
use Rattle.executor_model.proofs.Promises.OwnWakers.{Follows, Knows, Next, Promises, Turned, Waking, Woke, promises-on}
use Rattle.executor_model.proofs.Promises.FrameWays.{frames-end, frames-map, frames-start, frames-way}
use Rattle.executor_model.proofs.Promises.OwnWakers.{waking-later, waking-right, wakes-now, wakes_at}
use Rattle.executor_model.proofs.Promises.OwnWakers.Turned.{made, still, used}
use Rattle.executor_model.proofs.Steps.Lift.{good, good-start, unsettled}
use Rattle.executor_model.proofs.Steps.Placing.{Spots, places, same-react, same-spots}
use Rattle.executor_model.proofs.Steps.Ways.Way.{acted, called, reacted}
use Rattle.executor_model.proofs.Table.LeavingExecutions.{Placed, placed-ends, placed-moves, placed-start}
use Rattle.executor_model.proofs.{Types.Step, Types.UserEnd, Promises.CallFrames.Frames, Promises.CallTold.over-told}
use Rattle.executor_model.proofs.{Steps.Lists.same_cases, Steps.Ways.Way, Steps.Ways.along}

-- how the kept wakers change

turned-enter : (b c : Bool) (mark : Mark) (p : ℕ) (w : World) → Turned w (enter_by b c mark p w).world
turned-enter true c mark p w = still refl
turned-enter false true mark p w = still refl
turned-enter false false mark p w = still refl

turned-copy : (b : Bool) (w : World) (f : ℕ) (held : Hold) → Turned w (copy_by b w f held).world
turned-copy true w f held = still refl
turned-copy false w f held = made f refl

turned-drop_next : (q : List ℕ) (p : ℕ) (w : World) → Turned w (drop_next_by p w q).world
turned-drop_next [] p w = still refl
turned-drop_next (f ∷ rest) p w = still refl

turned-act : (b : Bool) (p : ℕ) (h : Hint) (o : Op) (w : World) → places o ≡ b → Turned w (act p h o w).world
turned-act false p h o w e = still (sym (ap (λ (x : Spots). x.wakers) (same-spots p h o w e)))
turned-act true p h (Op.Table (TableOp.Enter mark)) w e = turned-enter _ _ _ p w
turned-act true p h (Op.Table (TableOp.TakeToPoll f)) w e = still refl
turned-act true p h (Op.Table (TableOp.PutBack f)) w e = still refl
turned-act true p h (Op.Table (TableOp.TakeToDrop f)) w e = still refl
turned-act true p h (Op.Waker (WakerOp.CopyWaker f held)) w e = turned-copy _ w f held
turned-act true p h (Op.Closing ClosingOp.DropNext) w e = turned-drop_next _ p w
turned-act true p h _ w e = absurd (cc)

turned-with : (w v : World) (o : Option ℕ) (d : ℕ → Done) → v.wakers ≡ w.wakers → ((f : ℕ) → Turned w (d f).world) →
    Turned w (with_future v o d).world
turned-with w v None d e k = still e
turned-with w v (Some f) d e k = k f

turned-begun : (p : ℕ) (w : World) (here : Option Waker) (c : Call) →
    Turned w (begun p (log w (Event.CallBegun p c)) here c).world
turned-begun p w here (Call.Wake j) = turned-with w _ (kept w j) _ refl (λ f. used j refl)
turned-begun p w here (Call.WakeByRef j) = turned-with w _ (kept w j) _ refl (λ f. still refl)
turned-begun p w here (Call.Copy j) = turned-with w _ (kept w j) _ refl (λ f. still refl)
turned-begun p w here (Call.DropWaker j) = turned-with w _ (kept w j) _ refl (λ f. used j refl)
turned-begun p w here Call.Keep = turned-with w _ (future_of here) _ refl (λ f. still refl)
turned-begun p w here Call.WakeSelf = turned-with w _ (future_of here) _ refl (λ f. still refl)
turned-begun p w here _ = still refl

turned-way : (s : Machine) (p : ℕ) (old rest : List Op) (d : Done) → Way s p old rest d → Turned s.world d.world
turned-way s p old rest d (acted h o q z) =
    subst (λ (x : Done). Turned s.world x.world) (sym z) (turned-act (places o) p h o s.world refl)
turned-way s p old rest d (reacted o u a q z) =
    subst (λ (x : Done). Turned s.world x.world) (sym z)
    (still (sym (ap (λ (x : Spots). x.wakers) (same-react p o u s.world a))))
turned-way s p old rest d (called c q r n z) =
    subst (λ (x : Done). Turned s.world x.world) (sym z) (turned-begun p s.world (mine (top (stack s p))) c)

-- what is known of waker k then

at-end : (ws : List (Option ℕ)) (k g : ℕ) → length ws ≡ k → get_or (ws ++ Some g ∷ []) k None ≡ Some g
at-end ws k g e = subst (λ (n : ℕ). get_or (ws ++ Some g ∷ []) n None ≡ Some g)
    (let z : length ws + 0 ≡ k = omega (arith, e) in z) (get_or-append-add ws (Some g ∷ []) 0 None)

next-made : (b : Bool) (w v : World) (k g : ℕ) → eqb (length w.wakers) k ≡ b → v.wakers ≡ w.wakers ++ Some g ∷ [] →
    Knows w k None → Next w v k None
next-made true w v k g z e h =
    let i : length w.wakers ≡ k = grind (arith, nat_tests) in
    record {
      now = Some g;
      follows = tt;
      knows = (
        omega (arith, i, ap length e, length-append w.wakers (Some g ∷ [])),
        inl (ap (λ (ws : List (Option ℕ)). get_or ws k None) e ∙ at-end w.wakers k g i),
      );
    }
next-made false w v k g z e h =
    let i : length w.wakers ≢ k = grind (arith, nat_tests) in
    let l : length w.wakers < k = grind (arith, i, h) in
    record {
      now = None;
      follows = tt;
      knows = omega (arith, l, ap length e, length-append w.wakers (Some g ∷ []));
    }

keeps-known : (w v : World) (k f : ℕ) → kept v k ≡ kept w k → (kept w k ≡ Some f) ⊎ (kept w k ≡ None) →
    (kept v k ≡ Some f) ⊎ (kept v k ≡ None)
keeps-known w v k f e h = ⊎_elim (λ (a : kept w k ≡ Some f). inl (e ∙ a)) (λ (a : kept w k ≡ None). inr (e ∙ a)) h

after-used : (b : Bool) (w v : World) (k j f : ℕ) → eqb k j ≡ b → v.wakers ≡ set w.wakers j None → k < length w.wakers →
    (kept w k ≡ Some f) ⊎ (kept w k ≡ None) → (kept v k ≡ Some f) ⊎ (kept v k ≡ None)
after-used true w v k j f z e l h =
    let i : k ≡ j = grind (arith, nat_tests) in
    let m : j < length w.wakers = omega (arith, l, i) in
    inr (ap (λ (ws : List (Option ℕ)). get_or ws k None) e
    ∙ (ap (λ (n : ℕ). get_or (set w.wakers j None) n None) i ∙ get_or-set_same w.wakers j None None m))
after-used false w v k j f z e l h =
    let i : k ≢ j = grind (arith, nat_tests) in
    keeps-known w v k f (ap (λ (ws : List (Option ℕ)). get_or ws k None) e
    ∙ get_or-set_other w.wakers j k None None i) h

next-of : (w v : World) (k : ℕ) (x : Option ℕ) → Turned w v → Knows w k x → Next w v k x
next-of w v k None (still e) h =
    record { now = None; follows = tt; knows = omega (arith, h, ap length e) }
next-of w v k None (made g e) h = next-made (eqb (length w.wakers) k) w v k g refl e h
next-of w v k None (used j e) h =
    record { now = None; follows = tt; knows = omega (arith, h, ap length e, length-set w.wakers j None) }
next-of w v k (Some f) (still e) h = record {
  now = Some f;
  follows = refl;
  knows = (omega (arith, h.0, ap length e), keeps-known w v k f (ap (λ (ws : List (Option ℕ)). get_or ws k None) e) h.1);
}
next-of w v k (Some f) (made g e) h = record {
  now = Some f;
  follows = refl;
  knows = (
    omega (arith, h.0, ap length e, length-append w.wakers (Some g ∷ [])),
    keeps-known w v k f (ap (λ (ws : List (Option ℕ)). get_or ws k None) e
        ∙ get_or_append_left w.wakers (Some g ∷ []) None k h.0) h.1,
  );
}
next-of w v k (Some f) (used j e) h = record {
  now = Some f;
  follows = refl;
  knows = (omega (arith, h.0, ap length e, length-set w.wakers j None), after-used (eqb k j) w v k j f refl e h.0 h.1);
}

-- a wake by it begins

same-self : (f : ℕ) → same f f ≡ 1
same-self f = grind (arith, same_cases)

known-is : (w : World) (k g : ℕ) (x : Option ℕ) → Knows w k x → kept w k ≡ Some g → x ≡ Some g
known-is w k g None h e =
    let no : None ≡ Some g = sym (get_or_past w.wakers k None h) ∙ e in absurd (cc)
known-is w k g (Some f) h e = ⊎_elim
    (λ (a : kept w k ≡ Some f). sym a ∙ e)
    (λ (a : kept w k ≡ None). let no : None ≡ Some g = sym a ∙ e in absurd (cc)) h.1

promised-one : (x : Option ℕ) (past own : Trace) (w v : World) (k j : ℕ) (d : ℕ → Done) (o : Option ℕ) → kept w j ≡ o →
    is_some o ≡ true → eqb k j ≡ true → Knows w k x → ((f : ℕ) → 1 ≤ weigh (wakes_at f) (d f).next) →
    Promises x past own (with_future v o d).next
promised-one x past own w v k j d None q t n h a = absurd (cc)
promised-one x past own w v k j d (Some g) q t n h a =
    let i : k ≡ j = grind (arith, nat_tests) in
    let z : x ≡ Some g = known-is w k g x h (ap (kept w) i ∙ q) in
    subst (λ (y : Option ℕ). Promises y past own (d g).next) (sym z) (inl (a g))

left-true : (a b : Bool) → (a && b) ≡ true → a ≡ true
left-true true b e = refl
left-true false b e = absurd (cc)

begins-wake : (k : ℕ) (x : Option ℕ) (p : ℕ) (w : World) (ss : List (List Op)) (o : Option Op) (c : Call)
    (past own : Trace) → has_all w ss o c ≡ true → is_wake k c ≡ true → Knows w k x →
    Promises x past own (begun p (log w (Event.CallBegun p c)) (mine o) c).next
begins-wake k x p w ss o (Call.Wake j) past own e n h =
    promised-one x past own w _ k j _ (kept w j) refl (left-true _ _ e) n h (λ f. omega (arith, same-self f))
begins-wake k x p w ss o (Call.WakeByRef j) past own e n h =
    promised-one x past own w _ k j _ (kept w j) refl e n h (λ f. omega (arith, same-self f))
begins-wake k x p w ss o _ past own e n h = absurd (cc)

-- what a thing that is done wakes

user-wakes : (o : Op) (u : UserEnd) (f : ℕ) → accepts o u ≡ true → wakes_at f o ≡ 0
user-wakes (Op.User x) u f a = refl
user-wakes _ u f a = absurd (cc)

way-wakes : (s : Machine) (p : ℕ) (old rest : List Op) (d : Done) → Way s p old rest d → (o : Op) → old ≡ o ∷ [] →
    Placed s → (more : Trace) → d.world.trace ≡ s.world.trace ++ more → (f : ℕ) →
    (wakes_at f o ≡ 0) ⊎ HasWokenIts f more s.world.trace
way-wakes s p old rest d (acted h x q z) o e k more t f =
    let i : x ≡ o = (let y : x ∷ [] ≡ o ∷ [] = sym q ∙ e in cc) in
    subst (λ (y : Op). (wakes_at f y ≡ 0) ⊎ HasWokenIts f more s.world.trace) i
    (wakes-now p h x s.world f more (over-told s f k) (ap (λ (y : Done). y.world.trace) (sym z) ∙ t))
way-wakes s p old rest d (reacted x u a q z) o e k more t f =
    let i : x ≡ o = (let y : x ∷ [] ≡ o ∷ [] = sym q ∙ e in cc) in
    inl (subst (λ (y : Op). wakes_at f y ≡ 0) i (user-wakes x u f a))
way-wakes s p old rest d (called c q r n z) o e k more t f =
    let no : [] ≡ o ∷ [] = sym q ∙ e in absurd (cc)

-- each step

-- what is known of it, at least this
record Own (least : Option ℕ) (k : ℕ) (s : Machine) : Type 0 where
  pub placed : Placed s
  pub who : Option ℕ
  pub follows : Follows least who
  pub knows : Knows s.world k who
  pub frames : Frames (Waking k who) (waking-later k who) (Woke k who) s

woke-any : (k : ℕ) (y : Option ℕ) (e : Ended) → Woke k None e → Woke k y e
woke-any k None e h = h
woke-any k (Some f) e h = λ n. absurd (h n)

converted : (k : ℕ) (x y : Option ℕ) → Follows x y → (s : Machine) →
    Frames (Waking k x) (waking-later k x) (Woke k x) s → Frames (Waking k y) (waking-later k y) (Woke k y) s
converted k None y t s f = frames-map (Waking k None) (Waking k y) (waking-later k None) (waking-later k y)
    (Woke k None) (Woke k y) (λ es b os h n. absurd (h n)) (woke-any k y) s f
converted k (Some g) y t s f =
    subst (λ (z : Option ℕ). Frames (Waking k z) (waking-later k z) (Woke k z) s) (sym t) f

follows-on : (x y z : Option ℕ) → Follows x y → Follows y z → Follows x z
follows-on None y z a b = tt
follows-on (Some f) y z a b = subst (λ (o : Option ℕ). Follows o z) a b

own-moves : (least : Option ℕ) (k : ℕ) (s : Machine) (p : ℕ) (old rest : List Op) (d : Done) → Good s →
    p < length s.parties → stack s p ≡ rest ++ reverse old → Way s p old rest d → Own least k s →
    Own least k (unsettled s p rest d)
own-moves least k s p old rest d fine l e way h =
    let n : Next s.world d.world k h.who = next-of s.world d.world k h.who (turned-way s p old rest d way) h.knows in
    record {
      placed = placed-moves s p old rest d fine l e way h.placed;
      who = n.now;
      follows = follows-on least h.who n.now h.follows n.follows;
      knows = n.knows;
      frames = converted k h.who n.now n.follows (unsettled s p rest d)
          (frames-way (Waking k h.who) (waking-later k h.who) (Woke k h.who) (waking-right k h.who) s p old rest d l e
          h.frames
          (λ o q i more t b below a y. promises-on h.who s.world.trace b.own more o below d.next
          (way-wakes s p old rest d way o q h.placed more t) (a y))
          (λ c q a more z t y. subst (λ (x : Done).
          Promises h.who ((s.world.trace ++ Event.CallBegun p c ∷ []) ++ more) more x.next) (sym z)
          (begins-wake k h.who p s.world s.parties (top (stack s p)) c _ more a y h.knows)) way);
    }

own-ends : (least : Option ℕ) (k : ℕ) (s : Machine) (p : ℕ) (a : Reply) (held : Hold) (below : List Op) →
    p < length s.parties → stack s p ≡ below ++ reverse (Op.End a held ∷ []) → Own least k s →
    Own least k (unsettled s p below (done (log s.world (Event.CallEnded p a)) []))
own-ends least k s p a held below l e h = record {
  placed = placed-ends s p a held below l e h.placed;
  who = h.who;
  follows = h.follows;
  knows = h.knows;
  frames = frames-end (Waking k h.who) (waking-later k h.who) (Woke k h.who) (waking-right k h.who) s p a held below l e
      h.frames;
}

own-start : (k limit : ℕ) (kind : Kind) (n : ℕ) → Own None k (start limit kind n)
own-start k limit kind n = record {
  placed = placed-start limit kind n;
  who = None;
  follows = tt;
  knows = omega arith;
  frames = frames-start (Waking k None) (waking-later k None) (Woke k None) (waking-right k None) limit kind n;
}

module _ (limit : ℕ) (kind : Kind) (n : ℕ) (ts : List Step) (k f : ℕ) (e : kept (run ts (start limit kind n)).world k ≡ Some f) where
  first : Own None k (run ts (start limit kind n))
  first = along (Own None k) (own-moves None k) (own-ends None k) ts (start limit kind n) (good-start limit kind n)
      (own-start k limit kind n)

  -- it is known to be f's, and stays so
  later-on : (steps : List Step) → Own (Some f) k (run steps (run ts (start limit kind n)))
  later-on steps = along (Own (Some f) k) (own-moves (Some f) k) (own-ends (Some f) k) steps (run ts (start limit kind n))
      (good limit kind n ts) (record {
        placed = first.placed;
        who = first.who;
        follows = known-is (run ts (start limit kind n)).world k f first.who first.knows e;
        knows = first.knows;
        frames = first.frames;
      })

  stays-own : (steps : List Step) → (kept (run steps (run ts (start limit kind n))).world k ≡ Some f)
      ⊎ (kept (run steps (run ts (start limit kind n))).world k ≡ None)
  stays-own steps =
      let h : Own (Some f) k (run steps (run ts (start limit kind n))) = later-on steps in
      let x : Knows (run steps (run ts (start limit kind n))).world k (Some f) =
      subst (Knows (run steps (run ts (start limit kind n))).world k) h.follows h.knows in x.1

  wakes-own : (steps : List Step) (p : ℕ) →
      Each (WakesIts k f) (calls p (run steps (run ts (start limit kind n))).world.trace).ended
  wakes-own steps p =
      let h : Own (Some f) k (run steps (run ts (start limit kind n))) = later-on steps in
      subst (λ (x : Option ℕ). Each (Woke k x) (calls p (run steps (run ts (start limit kind n))).world.trace).ended)
      h.follows (h.frames.right p)

pub wakers-own : (limit : ℕ) (kind : Kind) (parties : ℕ) (steps : List Step) → WakersWakeTheirOwn (run steps (start limit kind parties))
wakers-own limit kind parties steps = record {
  stays = λ k f e ts. stays-own limit kind parties steps k f e ts;
  wakes = λ k f e ts p. wakes-own limit kind parties steps k f e ts p;
}
