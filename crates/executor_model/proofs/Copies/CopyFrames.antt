-- For copies_are_counted.
-- A copy of a waker has one thing to do, and then to end.
use Rattle.std.proofs.Common.{◌≡◌, ◌∙◌, ℕ, ◌<◌, List, [], ◌∷◌, ◌++◌, length, Bool, true, false, refl, sym, ap, subst, arith}
use Rattle.std.specs.Prelude.{Option, Some, None, reverse}
use Rattle.executor_model.proofs.Types.{Kind, Call, Reply, Event, Hold, Op, WakerOp, Hint, Step, UserEnd}
use Rattle.executor_model.specs.Steps.{Machine, accepts, begun, future_of, has_all, is_some, kept, mine, react, run, stack}
use Rattle.executor_model.specs.World.{Done, World, done, log, task}
use Rattle.executor_model.specs.{Acts.copy_by, Acts.is_refused, Calls.Begun, Calls.Ended, CopiesMean.is_copy, Doing.act}
use Rattle.executor_model.specs.{Good.Good, Steps.start, Steps.top, Steps.with_future, Trace.Trace, Weights.weigh}
use Rattle.executor_model.proofs.Promises.FrameWays.{frames-end, frames-start, frames-way}
use Rattle.executor_model.proofs.{Promises.CallFits.fit-act, Promises.CallFits.fit-react, Promises.CallFrames.Frames}
use Rattle.executor_model.proofs.{Promises.CallServes.misfit, Quiet.Calls.is_end, Quiet.CallsDone.fit-begun}
use Rattle.executor_model.proofs.{Steps.Lift.good-start, Steps.Lift.unsettled, Steps.Lists.weigh-append, Steps.Ways.Way}
use Rattle.executor_model.proofs.{Steps.Ways.along, Steps.Ways.Way.acted, Steps.Ways.Way.called, Steps.Ways.Way.reacted}

-- it asks for a copy, or it ends
pub data Copying (os : List Op) : Type 0 where
  asks : (f : ℕ) (held : Hold) → os ≡ Op.Waker (WakerOp.CopyWaker f held) ∷ [] → Copying os
  ends : (a : Reply) (held : Hold) → os ≡ Op.End a held ∷ [] → Copying os

-- the frame of a call
pub record Copies (c : Call) (os : List Op) : Type 0 where
  pub fits : weigh (misfit c) os ≡ 0
  pub one : is_copy c ≡ true → Copying os

abbrev pub Counting : Trace → Begun → List Op → Type 0
Counting es b os = Copies b.call os

pub counting-later : (es more : Trace) (b : Begun) (os : List Op) → Counting es b os → Counting (es ++ more) b os
counting-later es more b os h = h

abbrev pub Any : Ended → Type 0
Any e = Unit {0}

any-right : (es : Trace) (b : Begun) (a : Reply) (held : Hold) → Counting es b (Op.End a held ∷ []) →
    Any (record { call = b.call; own = b.own; reply = a; past = es })
any-right es b a held h = tt

copied : (b : Bool) (w : World) (f : ℕ) (held : Hold) → Copying ((copy_by b w f held).next ++ [])
copied true w f held = ends Reply.NoMemory held refl
copied false w f held = ends Reply.Made held refl

copying-act : (p : ℕ) (h : Hint) (o : Op) (w : World) (rest : List Op) → is_end o ≡ false → Copying (o ∷ rest) →
    Copying ((act p h o w).next ++ rest)
copying-act p h o w rest n (asks f held e) =
    let i : o ≡ Op.Waker (WakerOp.CopyWaker f held) = cc in
    let j : rest ≡ [] = cc in
    subst (λ (x : Op). Copying ((act p h x w).next ++ rest)) (sym i)
    (subst (λ (os : List Op). Copying ((act p h (Op.Waker (WakerOp.CopyWaker f held)) w).next ++ os)) (sym j)
    (copied (is_refused h (task w f)) w f held))
copying-act p h o w rest n (ends a held e) =
    let i : o ≡ Op.End a held = cc in
    let no : true ≡ false = sym (ap is_end i) ∙ n in absurd (cc)

copying-user : (o : Op) (u : UserEnd) (rest next : List Op) → accepts o u ≡ true → Copying (o ∷ rest) →
    Copying (next ++ rest)
copying-user o u rest next a (asks f held e) =
    let i : o ≡ Op.Waker (WakerOp.CopyWaker f held) = cc in
    let no : accepts (Op.Waker (WakerOp.CopyWaker f held)) u ≡ true = ap (λ (x : Op). accepts x u) (sym i) ∙ a in
    absurd (cc)
copying-user o u rest next a (ends b held e) =
    let i : o ≡ Op.End b held = cc in
    let no : accepts (Op.End b held) u ≡ true = ap (λ (x : Op). accepts x u) (sym i) ∙ a in absurd (cc)

fits-on : (c : Call) (o : Op) (rest next : List Op) → (misfit c o ≡ 0 → weigh (misfit c) next ≡ 0) →
    weigh (misfit c) (o ∷ rest) ≡ 0 → weigh (misfit c) (next ++ rest) ≡ 0
fits-on c o rest next k h = omega (arith, weigh-append (misfit c) next rest, k (omega (arith, h)), h)

way-on : (s : Machine) (p : ℕ) (old rest : List Op) (d : Done) → Way s p old rest d → (o : Op) → old ≡ o ∷ [] →
    is_end o ≡ false → (c : Call) (below : List Op) → Copies c (o ∷ below) → Copies c (d.next ++ below)
way-on s p old rest d (acted h x q z) o e n c below k =
    let i : o ≡ x = (let y : x ∷ [] ≡ o ∷ [] = sym q ∙ e in cc) in
    let m : is_end x ≡ false = ap is_end (sym i) ∙ n in
    let j : Copies c (x ∷ below) = subst (λ (y : Op). Copies c (y ∷ below)) i k in
    subst (λ (y : Done). Copies c (y.next ++ below)) (sym z) (record {
      fits = fits-on c x below (act p h x s.world).next (fit-act c p h x s.world m) j.fits;
      one = λ y. copying-act p h x s.world below m (j.one y);
    })
way-on s p old rest d (reacted x u a q z) o e n c below k =
    let i : o ≡ x = (let y : x ∷ [] ≡ o ∷ [] = sym q ∙ e in cc) in
    let j : Copies c (x ∷ below) = subst (λ (y : Op). Copies c (y ∷ below)) i k in
    subst (λ (y : Done). Copies c (y.next ++ below)) (sym z) (record {
      fits = fits-on c x below (react p x u s.world).next (fit-react c p x u s.world a) j.fits;
      one = λ y. copying-user x u below (react p x u s.world).next a (j.one y);
    })
way-on s p old rest d (called c q r n z) o e m b below k =
    let no : [] ≡ o ∷ [] = sym q ∙ e in absurd (cc)

-- as a call begins

with-copy : (w : World) (x : Option ℕ) (d : ℕ → Done) → is_some x ≡ true →
    ((f : ℕ) → Copying (d f).next) → Copying (with_future w x d).next
with-copy w None d e k = absurd (cc)
with-copy w (Some f) d e k = k f

copying-begun : (p : ℕ) (w : World) (ss : List (List Op)) (o : Option Op) (c : Call) → has_all w ss o c ≡ true →
    is_copy c ≡ true → Copying (begun p (log w (Event.CallBegun p c)) (mine o) c).next
copying-begun p w ss o (Call.Copy k) e i = with-copy _ (kept w k) _ e (λ f. asks f (Hold.Waker k) refl)
copying-begun p w ss o Call.Keep e i = with-copy _ (future_of (mine o)) _ e (λ f. asks f Hold.Nothing refl)
copying-begun p w ss o _ e i = absurd (cc)

-- at every moment

abbrev pub AllCounting : Machine → Type 0
AllCounting s = Frames Counting counting-later Any s

moves : (s : Machine) (p : ℕ) (old rest : List Op) (d : Done) → Good s → p < length s.parties →
    stack s p ≡ rest ++ reverse old → Way s p old rest d → AllCounting s → AllCounting (unsettled s p rest d)
moves s p old rest d good l e way f =
    frames-way Counting counting-later Any any-right s p old rest d l e f
    (λ o q n more t b below h. way-on s p old rest d way o q n b.call below h)
    (λ c q a more z t. subst (λ (x : Done). Copies c x.next) (sym z) (record {
      fits = fit-begun p (log s.world (Event.CallBegun p c)) (mine (top (stack s p))) c;
      one = copying-begun p s.world s.parties (top (stack s p)) c a;
    })) way

over : (s : Machine) (p : ℕ) (a : Reply) (held : Hold) (below : List Op) → p < length s.parties →
    stack s p ≡ below ++ reverse (Op.End a held ∷ []) → AllCounting s →
    AllCounting (unsettled s p below (done (log s.world (Event.CallEnded p a)) []))
over s p a held below l e f = frames-end Counting counting-later Any any-right s p a held below l e f

pub all-counting : (limit : ℕ) (kind : Kind) (n : ℕ) (ts : List Step) → AllCounting (run ts (start limit kind n))
all-counting limit kind n ts = along AllCounting moves over ts (start limit kind n) (good-start limit kind n)
    (frames-start Counting counting-later Any any-right limit kind n)
