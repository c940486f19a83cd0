-- For futures_are_in_their_places.
-- A future is in its place but while it is polled and once its drop is on its way: kept by each thing that is done.
use Rattle.std.proofs.Common.{◌≡◌, ◌≢◌, ◌⊎◌, ℕ, ◌+◌, ◌<◌, ◌≤◌, List, [], ◌∷◌, ◌++◌, length, get_or, set, Bool, true, false, eqb}
use Rattle.std.proofs.Common.{inl, inr, ⊎_elim, refl, subst, sym, ap, ◌∙◌, get_or-set_same, get_or-set_other, arith}
use Rattle.std.proofs.lemmas.List.{get_or-append-add, get_or_append_left, get_or_past, length-append, length-set}
use Rattle.executor_model.proofs.Types.{Mark, Move, Answer, Event, ClosingOp, Hold, Op, TableOp, WakerOp, Hint, UserEnd, UserOp}
use Rattle.executor_model.specs.Acts.{closing_ops, copy_by, drop_next_by, enter_by, is_last_waker, is_told, told_as}
use Rattle.executor_model.specs.{Doing.act, Doing.user_act, Trace.Trace, InPlace.away_of, Steps.accepts, Steps.react}
use Rattle.executor_model.specs.{Weights.same, Weights.weigh, World.World, World.Done, World.log, World.log_if, World.task}
use Rattle.executor_model.proofs.OneFuture.Effects.Effect.{passes, turns, refuses, enters, unlists, drops, takes_out}
use Rattle.executor_model.proofs.OneFuture.Effects.Effect.{drops_next, leaks, leaks_out}
use Rattle.executor_model.proofs.OneFuture.Stories.{Story, hears, story, story-push}
use Rattle.executor_model.proofs.Steps.Nears.{leads_near, near-act, near_of}
use Rattle.executor_model.proofs.Steps.Placing.{Spots, places, same-spots}
use Rattle.executor_model.proofs.{OneFuture.Effects.Effect, OneFuture.Extras.no_extra, OneFuture.Views.none}
use Rattle.executor_model.proofs.{Steps.Asides.aside-closing, Steps.Lists.same_cases, Steps.Lists.weigh-below}

abbrev pub is_inside : World → ℕ → Bool
is_inside w g = get_or w.inside g false

abbrev pub fallen : World → ℕ → ℕ
fallen w g = (story g w.trace).fallen

-- where so much of it is on its way
pub record Spot (w : World) (g n : ℕ) : Type 0 where
  pub there : g < length w.inside → (1 ≤ n) ⊎ ((1 ≤ fallen w g) ⊎ (is_inside w g ≡ true))
  pub out : (1 ≤ n) ⊎ (1 ≤ fallen w g) → is_inside w g ≡ false

pub few-away : (g : ℕ) (o : Op) → away_of g o ≤ near_of o
few-away g (Op.User (UserOp.Poll f)) = let z : same g f ≤ 1 = grind (arith, same_cases) in omega (arith, z)
few-away g (Op.User (UserOp.BeginDrop f)) = let z : same g f ≤ 1 = grind (arith, same_cases) in omega (arith, z)
few-away g (Op.Table (TableOp.PutBack f)) = let z : same g f ≤ 1 = grind (arith, same_cases) in omega (arith, z)
few-away g _ = omega arith

-- what is the same to it
pub spot-same : (w v : World) (g n m : ℕ) → length v.inside ≡ length w.inside → is_inside v g ≡ is_inside w g →
    fallen v g ≡ fallen w g → m ≡ n → Spot w g n → Spot v g m
spot-same w v g n m l a b c h = record {
  there = λ k. ⊎_elim
      (λ (x : 1 ≤ n). inl (omega (arith, x, c)))
      (λ (x : (1 ≤ fallen w g) ⊎ (is_inside w g ≡ true)). inr (⊎_elim
      (λ (y : 1 ≤ fallen w g). inl (omega (arith, y, b)))
      (λ (y : is_inside w g ≡ true). inr (a ∙ y)) x))
      (h.there (omega (arith, k, l)));
  out = λ x. a ∙ h.out (⊎_elim
      (λ (y : 1 ≤ m). inl (omega (arith, y, c)))
      (λ (y : 1 ≤ fallen v g). inr (omega (arith, y, b))) x);
}

-- what is told of a move is no drop
told-falls : (m : Move) (p f g : ℕ) (s : Story) → (hears g (told_as m p f) s).fallen ≡ s.fallen
told-falls Move.TakeUp p f g s = refl
told-falls Move.Cancel p f g s = refl
told-falls Move.Detach p f g s = refl
told-falls _ p f g s = refl

logged-falls : (b : Bool) (w : World) (m : Move) (p f g : ℕ) → fallen (log_if b w (told_as m p f)) g ≡ fallen w g
logged-falls true w m p f g =
    ap (λ (s : Story). s.fallen) (story-push g w.trace (told_as m p f)) ∙ told-falls m p f g (story g w.trace)
logged-falls false w m p f g = refl

last-falls : (l : Bool) (w : World) (p f g : ℕ) → fallen (log_if l w (Event.LastWaker p f)) g ≡ fallen w g
last-falls true w p f g = ap (λ (s : Story). s.fallen) (story-push g w.trace (Event.LastWaker p f))
last-falls false w p f g = refl

abbrev pub LeadsNear : List Op → Type 0
LeadsNear old = (o : Op) × ((old ≡ o ∷ []) × (leads_near o ≡ true))

pub falls-effect : (w : World) (old : List Op) (d : Done) (g : ℕ) → Effect w old d → (fallen d.world g ≡ fallen w g) ⊎ LeadsNear old
falls-effect w old d g (passes s c) = inl (⊎_elim
    (λ x. ap (λ (s : Story). s.fallen) x) (λ x. ap (λ (s : Story). s.fallen) x.1) (s g none no_extra).stays.story)
falls-effect w old _ g (turns d m p f v more i j k s a e) = inl (
    ap (λ (u : World). fallen u g) a ∙ (last-falls (is_last_waker m (task v f)) (log_if (is_told m (task v f)) v (told_as m p f)) p f g
    ∙ (logged-falls (is_told m (task v f)) v m p f g ∙ ⊎_elim (λ x. ap (λ (s : Story). s.fallen) x) (λ x. ap (λ (s : Story). s.fallen) x.1)
    (s g none no_extra).stays.story)))
falls-effect w old d g (refuses f e) = inl refl
falls-effect w old d g (enters mark p e) =
    inl (ap (λ (s : Story). s.fallen) (story-push g w.trace (Event.Accepted p (length w.tasks))))
falls-effect w old d g (unlists f e) = inl refl
falls-effect w old d g (drops p f) = inr (Op.User (UserOp.BeginDrop f), (refl, refl))
falls-effect w old d g takes_out = inl refl
falls-effect w old d g (drops_next p f rest e) = inr (Op.Closing ClosingOp.DropNext, (refl, refl))
falls-effect w old d g (leaks_out s n) = inl refl
falls-effect w old _ g (leaks d p f e a) = ⊎_elim
    (λ (x : fallen d.world g ≡ fallen w g).
    inl (ap (λ (s : Story). s.fallen) (story-push g d.world.trace (Event.Leaked p f)) ∙ x))
    (λ (x : LeadsNear (Op.Closing ClosingOp.LeakNext ∷ [])). inr x) (falls-effect w (Op.Closing ClosingOp.LeakNext ∷ []) d g e)

-- each thing that is done

not-away : (g : ℕ) (o : Op) → leads_near o ≡ false → places o ≡ false → away_of g o ≡ 0
not-away g (Op.User o) a b = absurd (cc)
not-away g (Op.Table (TableOp.PutBack f)) a b = absurd (cc)
not-away g (Op.Table (TableOp.Enter mark)) a b = refl
not-away g _ a b = refl

unset : (xs : List Bool) (f : ℕ) → get_or (set xs f false) f false ≡ false
unset xs f = ⊎_elim
    (λ (l : f < length xs). get_or-set_same xs f false false l)
    (λ (l : length xs ≤ f). get_or_past (set xs f false) f false (omega (arith, l, length-set xs f false)))
    (or-past f (length xs))
  where
    or-past : (a b : ℕ) → (a < b) ⊎ (b ≤ a)
    or-past a b = grind arith

-- it is taken out, and is on its way or was dropped then
spot-taken : (w v : World) (g f n m : ℕ) → v.inside ≡ set w.inside f false →
    ((g ≡ f) × ((1 ≤ m) ⊎ (1 ≤ fallen v g))) ⊎ ((g ≢ f) × ((m ≡ n) × (fallen v g ≡ fallen w g))) → Spot w g n → Spot v g m
spot-taken w v g f n m e (inl x) h = record {
  there = λ l. ⊎_elim (λ (y : 1 ≤ m). inl y) (λ (y : 1 ≤ fallen v g). inr (inl y)) x.1;
  out = λ y. ap (λ (xs : List Bool). get_or xs g false) e
      ∙ (ap (λ (k : ℕ). get_or (set w.inside f false) k false) x.0 ∙ unset w.inside f);
}
spot-taken w v g f n m e (inr x) h =
    spot-same w v g n m (ap length e ∙ length-set w.inside f false)
    (ap (λ (xs : List Bool). get_or xs g false) e ∙ get_or-set_other w.inside f g false false x.0) x.1.1 x.1.0 h

-- it is put back
spot-back : (w v : World) (g f r : ℕ) → v.inside ≡ set w.inside f true → fallen v g ≡ fallen w g →
    (g ≡ f → (r ≡ 0) × (fallen w g ≡ 0)) → Spot w g (same g f + r) → Spot v g r
spot-back w v g f r e b k h = ⊎_elim
    (λ (x : (same g f ≡ 1) × (eqb g f ≡ true) × (g ≡ f)). record {
      there = λ l. inr (inr (
          let i : f < length w.inside = omega (arith, l, x.2, ap length e, length-set w.inside f true) in
          ap (λ (xs : List Bool). get_or xs g false) e
          ∙ (ap (λ (n : ℕ). get_or (set w.inside f true) n false) x.2 ∙ get_or-set_same w.inside f true false i)));
      out = λ y. ⊎_elim
          (λ (z : 1 ≤ r). absurd (omega (arith, z, (k x.2).0)))
          (λ (z : 1 ≤ fallen v g). absurd (omega (arith, z, b, (k x.2).1))) y;
    })
    (λ (x : (same g f ≡ 0) × (eqb g f ≡ false) × (g ≢ f)).
    spot-same w v g (same g f + r) r (ap length e ∙ length-set w.inside f true)
    (ap (λ (xs : List Bool). get_or xs g false) e ∙ get_or-set_other w.inside f g true false x.2) b
    (omega (arith, x.0)) h)
    (same_cases g f)

-- a new one is in its place
spot-new : (w v : World) (g n : ℕ) → v.inside ≡ w.inside ++ true ∷ [] → fallen v g ≡ fallen w g →
    (length w.inside ≤ g → (n ≡ 0) × (fallen w g ≡ 0)) → Spot w g n → Spot v g n
spot-new w v g n e b k h = ⊎_elim
    (λ (l : g < length w.inside).
    let a : is_inside v g ≡ is_inside w g = ap (λ (xs : List Bool). get_or xs g false) e
    ∙ get_or_append_left w.inside (true ∷ []) false g l in record {
      there = λ i. ⊎_elim (λ (x : 1 ≤ n). inl x)
          (λ (x : (1 ≤ fallen w g) ⊎ (is_inside w g ≡ true)). inr (⊎_elim
          (λ (y : 1 ≤ fallen w g). inl (omega (arith, y, b)))
          (λ (y : is_inside w g ≡ true). inr (a ∙ y)) x)) (h.there l);
      out = λ x. a ∙ h.out (⊎_elim (λ (y : 1 ≤ n). inl y) (λ (y : 1 ≤ fallen v g). inr (omega (arith, y, b))) x);
    })
    (λ (l : length w.inside ≤ g). record {
      there = λ i.
          let q : length w.inside + 0 ≡ g = omega (arith, l, i, ap length e, length-append w.inside (true ∷ [])) in
          inr (inr (ap (λ (xs : List Bool). get_or xs g false) e
          ∙ subst (λ (j : ℕ). get_or (w.inside ++ true ∷ []) j false ≡ true) q
          (get_or-append-add w.inside (true ∷ []) 0 false)));
      out = λ x. ⊎_elim
          (λ (y : 1 ≤ n). absurd (omega (arith, y, (k l).0)))
          (λ (y : 1 ≤ fallen v g). absurd (omega (arith, y, b, (k l).1))) x;
    }) (or-past g (length w.inside))
  where
    or-past : (a b : ℕ) → (a < b) ⊎ (b ≤ a)
    or-past a b = grind arith

pub fallen-push : (w v : World) (e : Event) (g : ℕ) → v.trace ≡ w.trace ++ e ∷ [] →
    fallen v g ≡ (hears g e (story g w.trace)).fallen
fallen-push w v e g t = ap (λ (es : Trace). (story g es).fallen) t
    ∙ ap (λ (s : Story). s.fallen) (story-push g w.trace e)

-- what it needs: nothing of a future that isn't there, and a future that is put back is not on its way elsewhere
pub record Alone (w : World) (g : ℕ) (o : Op) (r : ℕ) : Type 0 where
  pub fresh : length w.inside ≤ g → (away_of g o + r ≡ 0) × (fallen w g ≡ 0)
  pub back : (f : ℕ) → o ≡ Op.Table (TableOp.PutBack f) → g ≡ f → (r ≡ 0) × (fallen w g ≡ 0)

abbrev pub KeepsSpot : World → ℕ → Op → Done → ℕ → Type 0
KeepsSpot w g o d r = Spot w g (away_of g o + r) → Spot d.world g (weigh (away_of g) d.next + r)

spot-enter : (b c : Bool) (mark : Mark) (p : ℕ) (w : World) (g r : ℕ) → Alone w g (Op.Table (TableOp.Enter mark)) r →
    KeepsSpot w g (Op.Table (TableOp.Enter mark)) (enter_by b c mark p w) r
spot-enter true c mark p w g r k h = spot-same w w g _ _ refl refl refl (omega arith) h
spot-enter false true mark p w g r k h = spot-same w w g _ _ refl refl refl (omega arith) h
spot-enter false false mark p w g r k h =
    let v : World = (enter_by false false mark p w).world in
    let b : fallen v g ≡ fallen w g = fallen-push w v (Event.Accepted p (length w.tasks)) g refl in
    spot-new w v g (0 + r) refl b k.fresh h

spot-copy : (b : Bool) (w : World) (f : ℕ) (held : Hold) (g r : ℕ) →
    KeepsSpot w g (Op.Waker (WakerOp.CopyWaker f held)) (copy_by b w f held) r
spot-copy true w f held g r h = spot-same w w g _ _ refl refl refl (omega arith) h
spot-copy false w f held g r h =
    spot-same w (copy_by false w f held).world g _ _ refl refl refl (omega arith) h

away-closing : (g : ℕ) (ls ws : List ℕ) → weigh (away_of g) (closing_ops ls ws) ≡ 0
away-closing g ls ws = aside-closing (away_of g) (λ o. refl) ls ws

falls : (w v : World) (p f g : ℕ) → v.trace ≡ w.trace ++ Event.Dropped p f ∷ [] → fallen v g ≡ fallen w g + same g f
falls w v p f g t = fallen-push w v (Event.Dropped p f) g t

spot-drop_next : (q : List ℕ) (p : ℕ) (w : World) (g r : ℕ) →
    KeepsSpot w g (Op.Closing ClosingOp.DropNext) (drop_next_by p w q) r
spot-drop_next [] p w g r h = spot-same w w g _ _ refl refl refl (omega arith) h
spot-drop_next (f ∷ rest) p w g r h =
    let d : Done = drop_next_by p w (f ∷ rest) in
    let b : fallen d.world g ≡ fallen w g + same g f = falls (record w { leaving = rest }) d.world p f g refl in
    let z : weigh (away_of g) d.next ≡ 0 = omega (arith, away-closing g rest (w.waking ++ f ∷ [])) in
    spot-taken w d.world g f (0 + r) (weigh (away_of g) d.next + r) refl (⊎_elim
    (λ (x : (same g f ≡ 1) × (eqb g f ≡ true) × (g ≡ f)). inl (x.2, inr (omega (arith, b, x.0))))
    (λ (x : (same g f ≡ 0) × (eqb g f ≡ false) × (g ≢ f)). inr (x.2, (omega (arith, z), omega (arith, b, x.0))))
    (same_cases g f)) h

spot-drop : (p : ℕ) (w : World) (f g r : ℕ) → Spot w g (same g f + r) → Spot (log w (Event.Dropped p f)) g r
spot-drop p w f g r h =
    let v : World = log w (Event.Dropped p f) in
    let b : fallen v g ≡ fallen w g + same g f = falls w v p f g refl in
    ⊎_elim
    (λ (x : (same g f ≡ 1) × (eqb g f ≡ true) × (g ≡ f)). record {
      there = λ l. inr (inl (omega (arith, b, x.0)));
      out = λ y. h.out (inl (omega (arith, x.0)));
    })
    (λ (x : (same g f ≡ 0) × (eqb g f ≡ false) × (g ≢ f)).
    spot-same w v g (same g f + r) r refl refl (omega (arith, b, x.0)) (omega (arith, x.0)) h) (same_cases g f)

spot-out : (w v : World) (f g r : ℕ) → v.inside ≡ set w.inside f false → fallen v g ≡ fallen w g → Spot w g (0 + r) →
    Spot v g (same g f + 0 + r)
spot-out w v f g r e b h = spot-taken w v g f (0 + r) (same g f + 0 + r) e (⊎_elim
    (λ (x : (same g f ≡ 1) × (eqb g f ≡ true) × (g ≡ f)). inl (x.2, inl (omega (arith, x.0))))
    (λ (x : (same g f ≡ 0) × (eqb g f ≡ false) × (g ≢ f)). inr (x.2, (omega (arith, x.0), b)))
    (same_cases g f)) h

spot-user : (p : ℕ) (o : UserOp) (w : World) (g r : ℕ) → KeepsSpot w g (Op.User o) (user_act p o w) r
spot-user p (UserOp.BeginDrop f) w g r h =
    spot-same (log w (Event.Dropped p f)) (log w (Event.Dropped p f)) g r _ refl refl refl (omega arith)
    (spot-drop p w f g r h)
spot-user p (UserOp.BeginDropOutput f) w g r h =
    let v : World = log w (Event.OutputDropped p f) in
    spot-same w v g _ _ refl refl (fallen-push w v (Event.OutputDropped p f) g refl) (omega arith) h
spot-user p (UserOp.Poll f) w g r h = spot-same w w g _ _ refl refl refl (omega arith) h
spot-user p _ w g r h = spot-same w w g _ _ refl refl refl (omega arith) h

pub spot-act : (b c : Bool) (p : ℕ) (t : Hint) (o : Op) (w : World) (g r : ℕ) → leads_near o ≡ b → places o ≡ c →
    (fallen (act p t o w).world g ≡ fallen w g) ⊎ LeadsNear (o ∷ []) → Alone w g o r → KeepsSpot w g o (act p t o w) r
spot-act false false p t o w g r a c f k h =
    let e : (act p t o w).world.inside ≡ w.inside = sym (ap (λ (x : Spots). x.inside) (same-spots p t o w c)) in
    let z : weigh (away_of g) (act p t o w).next ≡ 0 =
    omega (arith, weigh-below (away_of g) near_of (few-away g) (act p t o w).next, near-act p t o w a) in
    spot-same w (act p t o w).world g (away_of g o + r) _ (ap length e)
    (ap (λ (xs : List Bool). get_or xs g false) e)
    (⊎_elim (λ (x : fallen (act p t o w).world g ≡ fallen w g). x)
    (λ (x : LeadsNear (o ∷ [])).
    let i : o ≡ x.0 = (let y : o ∷ [] ≡ x.0 ∷ [] = x.1.0 in cc) in
    let no : true ≡ false = sym x.1.1 ∙ (ap leads_near (sym i) ∙ a) in absurd (cc)) f)
    (omega (arith, z, not-away g o a c)) h
spot-act false true p t (Op.Table (TableOp.Enter mark)) w g r a c f k h = spot-enter _ _ _ p w g r k h
spot-act false true p t (Op.Table (TableOp.PutBack j)) w g r a c f k h =
    let v : World = record w { inside = set w.inside j true } in
    spot-same v v g r _ refl refl refl (omega arith) (spot-back w v g j r refl refl (k.back j refl) h)
spot-act false true p t (Op.Waker (WakerOp.CopyWaker j held)) w g r a c f k h = spot-copy _ w j held g r h
spot-act true c p t (Op.Table (TableOp.TakeToPoll j)) w g r a q f k h =
    spot-out w (record w { inside = set w.inside j false }) j g r refl refl h
spot-act true c p t (Op.Table (TableOp.TakeToDrop j)) w g r a q f k h =
    spot-out w (record w { inside = set w.inside j false }) j g r refl refl h
spot-act true c p t (Op.User o) w g r a q f k h = spot-user p o w g r h
spot-act true c p t (Op.Closing ClosingOp.DropNext) w g r a q f k h = spot-drop_next _ p w g r h
spot-act true c p t _ w g r a q f k h = absurd (cc)
spot-act false true p t _ w g r a q f k h = absurd (cc)

pub spot-react : (p : ℕ) (o : Op) (u : UserEnd) (w : World) (g r : ℕ) → accepts o u ≡ true →
    KeepsSpot w g o (react p o u w) r
spot-react p (Op.User (UserOp.Poll f)) (UserEnd.Polled Answer.Pending) w g r a h =
    let v : World = log w (Event.Answered p f Answer.Pending) in
    spot-same w v g _ _ refl refl (fallen-push w v (Event.Answered p f Answer.Pending) g refl) (omega arith) h
spot-react p (Op.User (UserOp.Poll f)) (UserEnd.Polled Answer.Ready) w g r a h =
    let v : World = log w (Event.Answered p f Answer.Ready) in
    spot-same w v g _ _ refl refl (fallen-push w v (Event.Answered p f Answer.Ready) g refl) (omega arith) h
spot-react p (Op.User (UserOp.Drop f)) UserEnd.Done w g r a h = spot-same w w g _ _ refl refl refl (omega arith) h
spot-react p (Op.User (UserOp.DropOutput f)) UserEnd.Done w g r a h = spot-same w w g _ _ refl refl refl (omega arith) h
spot-react p (Op.User (UserOp.CallOutside x)) UserEnd.Done w g r a h = spot-same w w g _ _ refl refl refl (omega arith) h
spot-react p (Op.User (UserOp.PollOwn x)) (UserEnd.Polled Answer.Pending) w g r a h =
    spot-same w w g _ _ refl refl refl (omega arith) h
spot-react p (Op.User (UserOp.PollOwn x)) (UserEnd.Polled Answer.Ready) w g r a h =
    spot-same w w g _ _ refl refl refl (omega arith) h
spot-react p (Op.User (UserOp.DropOwn q)) UserEnd.Done w g r a h = spot-same w w g _ _ refl refl refl (omega arith) h
spot-react p _ _ w g r a h = absurd (cc)
