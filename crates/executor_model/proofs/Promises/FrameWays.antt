-- For spawns_are_limited and wakers_wake_their_own.
-- What is kept of each call and its frame (proofs/Promises/CallFrames) in each way in which a party goes on.
use Rattle.std.proofs.Common.{◌≡◌, ℕ, ◌<◌, List, [], ◌∷◌, ◌++◌, length, Bool, true, false, refl, ap, subst, sym}
use Rattle.std.specs.Prelude.{Option, reverse}
use Rattle.executor_model.proofs.Types.{Kind, Call, Reply, Event, Hold, Op, Waker, Hint, UserEnd}
use Rattle.executor_model.specs.Calls.{Begun, Each, Ended, calls}
use Rattle.executor_model.specs.Steps.{Machine, accepts, begun, has_all, mine, react, stack, start, top}
use Rattle.executor_model.specs.{Doing.act, Trace.Trace, World.World, World.Done, World.done, World.log}
use Rattle.executor_model.proofs.Promises.CallFrames.{Frames, Keeps, Tied, frames-begun, frames-done, frames-ends, passes-react}
use Rattle.executor_model.proofs.Steps.Deeds.{grows-act, grows-begun, grows-react}
use Rattle.executor_model.proofs.{Promises.CallFrames.tied-none, Quiet.Calls.is_end, Quiet.CallsGroups.calls-act}
use Rattle.executor_model.proofs.{Quiet.Resting.idle-stack, Quiet.Resting.opens, Steps.Lift.none_refused, Steps.Lift.unsettled}
use Rattle.executor_model.proofs.{Steps.Ways.Way, Steps.Ways.Way.acted, Steps.Ways.Way.called, Steps.Ways.Way.reacted}

none-begun : (q : ℕ) → (calls q []).begun ≡ []
unfolding calls
none-begun q = refl

-- user code isn't the end of a call
unended : (o : Op) (u : UserEnd) → accepts o u ≡ true → is_end o ≡ false
unended (Op.User x) u a = refl
unended _ u a = absurd (cc)

none-ended : (R : Ended → Type 0) (q : ℕ) → Each R (calls q []).ended
unfolding calls
none-ended R q = tt

module _
    (O : Trace → Begun → List Op → Type 0)
    (later : (es more : Trace) (b : Begun) (os : List Op) → O es b os → O (es ++ more) b os)
    (R : Ended → Type 0)
    (right : (es : Trace) (b : Begun) (a : Reply) (held : Hold) → O es b (Op.End a held ∷ []) →
    R (record { call = b.call; own = b.own; reply = a; past = es }))
  where
    pub frames-start : (limit : ℕ) (kind : Kind) (n : ℕ) → Frames O later R (start limit kind n)
    frames-start limit kind n = record {
      tied = λ q. tied-none O later R [] (calls q []).begun (reverse (stack (start limit kind n) q)) (none-begun q)
          (ap (λ (xs : List Op). reverse xs) (idle-stack n q));
      right = none-ended R;
    }

    pub frames-end : (s : Machine) (p : ℕ) (a : Reply) (held : Hold) (below : List Op) → p < length s.parties →
        stack s p ≡ below ++ reverse (Op.End a held ∷ []) → Frames O later R s →
        Frames O later R (unsettled s p below (done (log s.world (Event.CallEnded p a)) []))
    frames-end s p a held below l e f = frames-ends O later R right s p a held below l e f

    module _ (s : Machine) (p : ℕ) (old rest : List Op) (d : Done) (l : p < length s.parties)
        (e : stack s p ≡ rest ++ reverse old) (f : Frames O later R s)
        (keeps : (o : Op) → old ≡ o ∷ [] → is_end o ≡ false → (more : Trace) → d.world.trace ≡ s.world.trace ++ more →
        Keeps O later R s.world.trace more o d.next)
        (begins : (c : Call) → old ≡ [] → has_all s.world s.parties (top (stack s p)) c ≡ true → (more : Trace) →
        d ≡ begun p (log s.world (Event.CallBegun p c)) (mine (top (stack s p))) c →
        d.world.trace ≡ (s.world.trace ++ Event.CallBegun p c ∷ []) ++ more →
        O ((s.world.trace ++ Event.CallBegun p c ∷ []) ++ more) (record { call = c; own = more }) d.next) where
      acts : (h : Hint) (o : Op) (b : Bool) → is_end o ≡ b → old ≡ o ∷ [] → d ≡ act p h o s.world →
          Frames O later R (unsettled s p rest d)
      acts h o false n q z =
          let here : stack s p ≡ rest ++ reverse (o ∷ []) = subst (λ (os : List Op). stack s p ≡ rest ++ reverse os) q e in
          let g = grows-act p h o s.world n in
          let k = keeps o q n g.more (subst (λ (x : Done). x.world.trace ≡ s.world.trace ++ g.more) (sym z) g.is) in
          subst (λ (x : Done). Frames O later R (unsettled s p rest x)) (sym z)
          (frames-done O later R s p o rest (act p h o s.world) l here (calls-act p h o s.world n).passes g
          (subst (λ (x : Done). Keeps O later R s.world.trace g.more o x.next) z k) f)
      acts h (Op.End a held) true n q z =
          let here : stack s p ≡ rest ++ reverse (Op.End a held ∷ []) =
          subst (λ (os : List Op). stack s p ≡ rest ++ reverse os) q e in
          subst (λ (x : Done). Frames O later R (unsettled s p rest x)) (sym z)
          (frames-ends O later R right s p a held rest l here f)
      acts h _ true n q z = absurd (cc)

      pub frames-way : Way s p old rest d → Frames O later R (unsettled s p rest d)
      frames-way (acted h o q z) = acts h o (is_end o) refl q z
      frames-way (reacted o u a q z) =
          let here : stack s p ≡ rest ++ reverse (o ∷ []) = subst (λ (os : List Op). stack s p ≡ rest ++ reverse os) q e in
          let g = grows-react p o u s.world in
          let k = keeps o q (unended o u a) g.more
          (subst (λ (x : Done). x.world.trace ≡ s.world.trace ++ g.more) (sym z) g.is) in
          subst (λ (x : Done). Frames O later R (unsettled s p rest x)) (sym z)
          (frames-done O later R s p o rest (react p o u s.world) l here (passes-react p o u s.world a) g
          (subst (λ (x : Done). Keeps O later R s.world.trace g.more o x.next) z k) f)
      frames-way (called c q r n z) =
          let x : _ = none_refused s.world s.parties (top (stack s p)) c n in
          let w : World = log s.world (Event.CallBegun p c) in
          let here : Option Waker = mine (top (stack s p)) in
          let g = grows-begun p w here c in
          let k = begins c q x.1 g.more z
          (subst (λ (y : Done). y.world.trace ≡ (s.world.trace ++ Event.CallBegun p c ∷ []) ++ g.more) (sym z)
          g.is) in
          subst (λ (y : Done). Frames O later R (unsettled s p rest y)) (sym z)
          (frames-begun O later R s p rest c (begun p w here c) l
          (subst (λ (os : List Op). stack s p ≡ rest ++ reverse os) q e)
          (opens p s.world s.parties (top (stack s p)) c x.1).1 g
          (subst (λ (y : Done). O ((s.world.trace ++ Event.CallBegun p c ∷ []) ++ g.more) (record { call = c; own = g.more })
          y.next) z k) f)

-- what is kept of each call implies something else

each-map : (R S : Ended → Type 0) → ((e : Ended) → R e → S e) → (es : List Ended) → Each R es → Each S es
each-map R S k [] h = tt
each-map R S k (e ∷ es) h = (k e h.0, each-map R S k es h.1)

module _
    (O N : Trace → Begun → List Op → Type 0)
    (later : (es more : Trace) (b : Begun) (os : List Op) → O es b os → O (es ++ more) b os)
    (later_too : (es more : Trace) (b : Begun) (os : List Op) → N es b os → N (es ++ more) b os)
    (R S : Ended → Type 0)
    (k : (es : Trace) (b : Begun) (os : List Op) → O es b os → N es b os)
  where
    tied-map : (es : Trace) (bs : List Begun) (os : List Op) → Tied O later R es bs os → Tied N later_too S es bs os
    tied-map es [] os h = h
    tied-map es (b ∷ bs) os h = (
      h.0,
      h.1,
      h.2,
      record { is = h.3.is; none = h.3.none; call = h.3.call; owes = k es b (h.0 ++ h.1 ∷ []) h.3.owes },
      tied-map es bs h.2 h.4,
    )

    pub frames-map : ((e : Ended) → R e → S e) → (s : Machine) → Frames O later R s → Frames N later_too S s
    frames-map j s f = record {
      tied = λ q. tied-map s.world.trace (calls q s.world.trace).begun (reverse (stack s q)) (f.tied q);
      right = λ q. each-map R S j (calls q s.world.trace).ended (f.right q);
    }
