-- For spawns_want_memory_as_told.
-- What a spawn has still to do answers no want of memory, unless the end of a call is what comes first.
use Rattle.std.proofs.Common.{◌≡◌, ◌⊎◌, ◌∙◌, ℕ, ◌<◌, ◌≤◌, List, [], ◌∷◌, ◌++◌, length, Bool, true, false, inl, inr, ⊎_elim}
use Rattle.std.proofs.Common.{refl, sym, ap, subst, arith}
use Rattle.std.specs.Prelude.{Option, reverse}
use Rattle.executor_model.proofs.Types.{Mark, Kind, Call, Reply, Event, Hold, Op, TableOp, Waker, Hint, Step, UserEnd}
use Rattle.executor_model.specs.Steps.{Machine, accepts, begun, mine, react, run, stack, start, top}
use Rattle.executor_model.specs.World.{Done, World, done, log}
use Rattle.executor_model.specs.{Acts.enter_by, Calls.Begun, Calls.Ended, Doing.act, Good.Good, Trace.Trace, Weights.weigh}
use Rattle.executor_model.proofs.Promises.CallServes.{misfit, serves, spawns}
use Rattle.executor_model.proofs.Promises.FrameWays.{frames-end, frames-start, frames-way}
use Rattle.executor_model.proofs.Quiet.Calls.{Answering, Passes, calling_of, is_end}
use Rattle.executor_model.proofs.Steps.Ways.Way.{acted, called, reacted}
use Rattle.executor_model.proofs.{Promises.CallAnswers.served, Promises.CallFits.fit-act, Promises.CallFits.fit-react}
use Rattle.executor_model.proofs.{Promises.CallFrames.Frames, Promises.CallFrames.passes-react, Promises.SpawnAnswers.is_enter}
use Rattle.executor_model.proofs.{Promises.SpawnAnswers.only-enter, Quiet.CallsDone.fit-begun, Quiet.CallsGroups.calls-act}
use Rattle.executor_model.proofs.{Quiet.Resting.calling-is, Quiet.Resting.opens, Steps.Lift.good-start, Steps.Lift.unsettled}
use Rattle.executor_model.proofs.{Steps.Lists.weigh-append, Steps.Lists.weigh-below, Steps.Ways.Way, Steps.Ways.along}

-- a call ends for want of memory
abbrev pub want_of : Op → ℕ
want_of (Op.End Reply.NoMemory held) = 1
want_of _ = 0

pub few-want : (o : Op) → want_of o ≤ calling_of o
few-want (Op.End Reply.NoMemory held) = omega arith
few-want _ = omega arith

abbrev pub is_end_first : List Op → Bool
is_end_first [] = false
is_end_first (o ∷ os) = is_end o

-- the frame of a call, the next thing first
pub record Spawning (c : Call) (os : List Op) : Type 0 where
  pub fits : weigh (misfit c) os ≡ 0
  pub one : weigh calling_of os ≡ 1
  pub wants : spawns c ≡ true → (weigh want_of os ≡ 0) ⊎ (is_end_first os ≡ true)

abbrev pub Asking : Trace → Begun → List Op → Type 0
Asking es b os = Spawning b.call os

pub asking-later : (es more : Trace) (b : Begun) (os : List Op) → Asking es b os → Asking (es ++ more) b os
asking-later es more b os h = h

abbrev pub Any : Ended → Type 0
Any e = Unit {0}

first-more : (next rest : List Op) → is_end_first next ≡ true → is_end_first (next ++ rest) ≡ true
first-more [] rest e = absurd (cc)
first-more (n ∷ next) rest e = e

counts : (next : List Op) → Answering next → weigh calling_of next ≡ 1
counts next a = omega (arith, ap (weigh calling_of) a.is, weigh-append calling_of a.front (a.last ∷ []), a.none, a.call)

abbrev Wants : List Op → Type 0
Wants os = (weigh want_of os ≡ 0) ⊎ (is_end_first os ≡ true)

module _ (c : Call) (o : Op) (rest next : List Op) (k : Passes o next) (n : is_end o ≡ false)
    (f : misfit c o ≡ 0 → weigh (misfit c) next ≡ 0)
    (w : spawns c ≡ true → calling_of o ≡ 1 → misfit c o ≡ 0 → Wants next) (h : Spawning c (o ∷ rest)) where
  none-rest : Wants (o ∷ rest) → weigh want_of rest ≡ 0
  none-rest x = ⊎_elim
      (λ (z : weigh want_of (o ∷ rest) ≡ 0). omega (arith, z))
      (λ (z : is_end_first (o ∷ rest) ≡ true). let no : true ≡ false = sym z ∙ n in absurd (cc)) x

  now : spawns c ≡ true → Wants (next ++ rest)
  now s = ⊎_elim
      (λ (z : calling_of o ≡ 0). inl (omega (
        arith,
        weigh-append want_of next rest,
        weigh-below want_of calling_of few-want next,
        k.none z,
        none-rest (h.wants s),
      )))
      (λ (z : calling_of o ≡ 1). ⊎_elim
      (λ (x : weigh want_of next ≡ 0). inl (omega (
        arith,
        x,
        weigh-append want_of next rest,
        weigh-below want_of calling_of few-want rest,
        z,
        h.one,
      )))
      (λ (x : is_end_first next ≡ true). inr (first-more next rest x))
      (w s z (omega (arith, h.fits)))) (calling-is o)

  spawning-on : Spawning c (next ++ rest)
  spawning-on = record {
    fits = omega (arith, weigh-append (misfit c) next rest, f (omega (arith, h.fits)), h.fits);
    one = ⊎_elim
        (λ (z : calling_of o ≡ 0). omega (arith, z, h.one, k.none z, weigh-append calling_of next rest))
        (λ (z : calling_of o ≡ 1).
        omega (arith, z, h.one, counts next (k.one z), weigh-append calling_of next rest)) (calling-is o);
    wants = now;
  }

-- what a spawn asks

enter-wants : (b r : Bool) (mark : Mark) (p : ℕ) (w : World) → Wants (enter_by b r mark p w).next
enter-wants true r mark p w = inl refl
enter-wants false true mark p w = inr refl
enter-wants false false mark p w = inl refl

-- it asks for a place
abbrev pub Enters : Op → Type 0
Enters o = (mark : Mark) × (o ≡ Op.Table (TableOp.Enter mark))

pub enter-is : (o : Op) → is_enter o ≡ true → Enters o
enter-is (Op.Table (TableOp.Enter mark)) e = (mark, refl)
enter-is _ e = absurd (cc)

pub asks-place : (c : Call) (o : Op) → spawns c ≡ true → calling_of o ≡ 1 → is_end o ≡ false → misfit c o ≡ 0 → Enters o
asks-place (Call.Spawn mark) o s z n e = enter-is o (only-enter mark o z (served (serves o (Call.Spawn mark)) e) n)
asks-place _ o s z n e = absurd (cc)

act-wants : (c : Call) (p : ℕ) (h : Hint) (o : Op) (w : World) → is_end o ≡ false → spawns c ≡ true →
    calling_of o ≡ 1 → misfit c o ≡ 0 → Wants (act p h o w).next
act-wants c p h o w n s z e =
    let i : Enters o = asks-place c o s z n e in
    subst (λ (x : Op). Wants (act p h x w).next) (sym i.1) (enter-wants _ h.refused i.0 p w)

user-wants : (c : Call) (o : Op) (u : UserEnd) (next : List Op) → accepts o u ≡ true → is_end o ≡ false →
    spawns c ≡ true → calling_of o ≡ 1 → misfit c o ≡ 0 → Wants next
user-wants c o u next a n s z e =
    let i : Enters o = asks-place c o s z n e in
    let no : accepts (Op.Table (TableOp.Enter i.0)) u ≡ true = ap (λ (x : Op). accepts x u) (sym i.1) ∙ a in absurd (cc)

pub unended : (o : Op) (u : UserEnd) → accepts o u ≡ true → is_end o ≡ false
unended (Op.User x) u a = refl
unended _ u a = absurd (cc)

way-on : (s : Machine) (p : ℕ) (old rest : List Op) (d : Done) → Way s p old rest d → (o : Op) → old ≡ o ∷ [] →
    is_end o ≡ false → (c : Call) (below : List Op) → Spawning c (o ∷ below) → Spawning c (d.next ++ below)
way-on s p old rest d (acted h x q z) o e n c below k =
    let i : x ≡ o = (let y : x ∷ [] ≡ o ∷ [] = sym q ∙ e in cc) in
    let m : is_end x ≡ false = ap is_end i ∙ n in
    subst (λ (y : Done). Spawning c (y.next ++ below)) (sym z)
    (spawning-on c x below (act p h x s.world).next (calls-act p h x s.world m).passes m (fit-act c p h x s.world m)
    (act-wants c p h x s.world m) (subst (λ (y : Op). Spawning c (y ∷ below)) (sym i) k))
way-on s p old rest d (reacted x u a q z) o e n c below k =
    let i : x ≡ o = (let y : x ∷ [] ≡ o ∷ [] = sym q ∙ e in cc) in
    let m : is_end x ≡ false = unended x u a in
    subst (λ (y : Done). Spawning c (y.next ++ below)) (sym z)
    (spawning-on c x below (react p x u s.world).next (passes-react p x u s.world a) m (fit-react c p x u s.world a)
    (user-wants c x u (react p x u s.world).next a m) (subst (λ (y : Op). Spawning c (y ∷ below)) (sym i) k))
way-on s p old rest d (called c q r n z) o e m b below k =
    let no : [] ≡ o ∷ [] = sym q ∙ e in absurd (cc)

begun-wants : (p : ℕ) (w : World) (here : Option Waker) (c : Call) → spawns c ≡ true → Wants (begun p w here c).next
begun-wants p w here (Call.Spawn mark) s = inl refl
begun-wants p w here _ s = absurd (cc)

-- at every moment

any-right : (es : Trace) (b : Begun) (a : Reply) (held : Hold) → Asking es b (Op.End a held ∷ []) →
    Any (record { call = b.call; own = b.own; reply = a; past = es })
any-right es b a held h = tt

abbrev pub Askings : Machine → Type 0
Askings s = Frames Asking asking-later Any s

moves : (s : Machine) (p : ℕ) (old rest : List Op) (d : Done) → Good s → p < length s.parties →
    stack s p ≡ rest ++ reverse old → Way s p old rest d → Askings s → Askings (unsettled s p rest d)
moves s p old rest d good l e way f =
    frames-way Asking asking-later Any any-right s p old rest d l e f
    (λ o q n more t b below h. way-on s p old rest d way o q n b.call below h)
    (λ c q a more z t. subst (λ (x : Done). Spawning c x.next) (sym z) (record {
      fits = fit-begun p (log s.world (Event.CallBegun p c)) (mine (top (stack s p))) c;
      one = counts _ (opens p s.world s.parties (top (stack s p)) c a).1;
      wants = begun-wants p (log s.world (Event.CallBegun p c)) (mine (top (stack s p))) c;
    })) way

ends : (s : Machine) (p : ℕ) (a : Reply) (held : Hold) (below : List Op) → p < length s.parties →
    stack s p ≡ below ++ reverse (Op.End a held ∷ []) → Askings s →
    Askings (unsettled s p below (done (log s.world (Event.CallEnded p a)) []))
ends s p a held below l e f = frames-end Asking asking-later Any any-right s p a held below l e f

pub askings : (limit : ℕ) (kind : Kind) (n : ℕ) (ts : List Step) → Askings (run ts (start limit kind n))
askings limit kind n ts = along Askings moves ends ts (start limit kind n) (good-start limit kind n)
    (frames-start Asking asking-later Any any-right limit kind n)
