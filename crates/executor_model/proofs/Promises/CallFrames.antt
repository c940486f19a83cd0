-- For calls_do_what_they_say.
-- Calls do what they say: what a party has still to do stands in frames, one for each of its calls in progress, the
-- innermost on top. What is kept of each call and its frame by all that is done holds of each call as it ends.
use Rattle.std.proofs.Common.{◌≡◌, ◌≢◌, ◌∙◌, ℕ, ◌<◌, List, [], ◌∷◌, ◌++◌, length, get_or, set, Bool, true, false, ◌||◌, eqb}
use Rattle.std.proofs.Common.{refl, sym, ap, subst, arith, append-nil, get_or-set_same, get_or-set_other}
use Rattle.std.proofs.lemmas.List.{append_assoc, reverse-append, reverse-reverse}
use Rattle.std.{proofs.lemmas.Bool.Decides.nat_tests, specs.Prelude.reverse}
use Rattle.executor_model.proofs.Types.{Call, Reply, Answer, Event, Hold, Op, UserOp, UserEnd}
use Rattle.executor_model.specs.Calls.{Begun, Calls, Each, Ended, calls, ends}
use Rattle.executor_model.specs.{Deeds.is_by, Steps.Machine, Steps.accepts, Steps.react, Steps.stack, Trace.Trace, Trace.has}
use Rattle.executor_model.specs.{Weights.weigh, World.World, World.Done, World.done, World.log}
use Rattle.executor_model.proofs.Promises.CallFolds.{does_all, heard, hears-it, past-is, unheard, Heard, Unheard}
use Rattle.executor_model.proofs.Quiet.Calls.{Answering, Passes, calling_of, none-both, single, then}
use Rattle.executor_model.proofs.{Steps.Deeds.Grows, Steps.Deeds.not-by, Steps.Lift.unsettled, Steps.Tests.or-false}

nothing : (o : Op) (next : List Op) → calling_of o ≡ 0 → weigh calling_of next ≡ 0 → Passes o next
nothing o next z n = record { none = λ e. n; one = λ e. absurd (omega (arith, z, e)) }

one : (o : Op) (next : List Op) → calling_of o ≡ 1 → Answering next → Passes o next
one o next z a = record { none = λ e. absurd (omega (arith, z, e)); one = λ e. a }

pub passes-react : (p : ℕ) (o : Op) (u : UserEnd) (w : World) → accepts o u ≡ true → Passes o (react p o u w).next
passes-react p (Op.User (UserOp.Poll f)) (UserEnd.Polled Answer.Pending) w a = nothing _ _ refl refl
passes-react p (Op.User (UserOp.Poll f)) (UserEnd.Polled Answer.Ready) w a = nothing _ _ refl refl
passes-react p (Op.User (UserOp.Drop f)) UserEnd.Done w a = nothing _ _ refl refl
passes-react p (Op.User (UserOp.DropOutput f)) UserEnd.Done w a = nothing _ _ refl refl
passes-react p (Op.User (UserOp.CallOutside x)) UserEnd.Done w a = nothing _ _ refl refl
passes-react p (Op.User (UserOp.PollOwn x)) (UserEnd.Polled Answer.Pending) w a = one _ _ refl (single _ refl)
passes-react p (Op.User (UserOp.PollOwn x)) (UserEnd.Polled Answer.Ready) w a =
    one _ _ refl (then (Op.User (UserOp.DropOwn x.run) ∷ []) _ refl refl)
passes-react p (Op.User (UserOp.DropOwn r)) UserEnd.Done w a = nothing _ _ refl refl
passes-react p _ _ w a = absurd (cc)

each-push : (R : Ended → Type 0) (es : List Ended) (e : Ended) → Each R es → R e → Each R (es ++ e ∷ [])
each-push R [] e h k = (k, tt)
each-push R (x ∷ es) e h k = (h.0, each-push R es e h.1 k)

by-itself : (p : ℕ) → eqb p p ≡ true
by-itself p = grind (arith, nat_tests)

-- what is kept of a call and its frame, the next thing first, behind such a trace; and what holds of each as it ends
module _
    (O : Trace → Begun → List Op → Type 0)
    (later : (es more : Trace) (b : Begun) (os : List Op) → O es b os → O (es ++ more) b os)
    (R : Ended → Type 0)
  where
    -- a frame has at its bottom what answers its call
    pub record Frame (es : Trace) (b : Begun) (front : List Op) (last : Op) (below os : List Op) : Type 0 where
      pub is : os ≡ front ++ last ∷ below
      pub none : weigh calling_of front ≡ 0
      pub call : calling_of last ≡ 1
      pub owes : O es b (front ++ last ∷ [])

    abbrev pub Tied : Trace → List Begun → List Op → Type 0
    Tied es [] os = os ≡ []
    Tied es (b ∷ bs) os = (front : List Op) × (last : Op) × (below : List Op) × Frame es b front last below os
        × Tied es bs below

    pub tied-none : (es : Trace) (bs : List Begun) (os : List Op) → bs ≡ [] → os ≡ [] → Tied es bs os
    tied-none es bs os a b = subst (λ (l : List Begun). Tied es l os) (sym a) b

    later-frame : (es more : Trace) (b : Begun) (front : List Op) (last : Op) (below os : List Op) →
        Frame es b front last below os → Frame (es ++ more) b front last below os
    later-frame es more b front last below os f =
        record { is = f.is; none = f.none; call = f.call; owes = later es more b (front ++ last ∷ []) f.owes }

    later-tied : (es more : Trace) (bs : List Begun) (os : List Op) → Tied es bs os → Tied (es ++ more) bs os
    later-tied es more [] os h = h
    later-tied es more (b ∷ bs) os h =
        (h.0, h.1, h.2, later-frame es more b h.0 h.1 h.2 os h.3, later-tied es more bs h.2 h.4)

    tied-is : (es now : Trace) (bs cs : List Begun) (os ps : List Op) → es ≡ now → bs ≡ cs → os ≡ ps → Tied es bs os →
        Tied now cs ps
    tied-is es now bs cs os ps a b c h =
        subst (λ (t : Trace). Tied t cs ps) a
        (subst (λ (l : List Begun). Tied es l ps) b (subst (λ (l : List Op). Tied es bs l) c h))

    abbrev pub Keeps : Trace → Trace → Op → List Op → Type 0
    Keeps es more o next = (b : Begun) (rest : List Op) → O es b (o ∷ rest) →
        O (es ++ more) (record b { own = b.own ++ more }) (next ++ rest)

    module _ (es more : Trace) (b : Begun) (bs : List Begun) (o : Op) (rest next : List Op) (c : Passes o next)
        (k : Keeps es more o next) where
      on-top : (front : List Op) (last : Op) (below : List Op) → Frame es b front last below (o ∷ rest) →
          Tied es bs below → Tied (es ++ more) (record b { own = b.own ++ more } ∷ bs) (next ++ rest)
      on-top [] last below f t =
          let i : o ≡ last = (let q : o ∷ rest ≡ last ∷ below = f.is in cc) in
          let j : rest ≡ below = (let q : o ∷ rest ≡ last ∷ below = f.is in cc) in
          let a : Answering next = c.one (ap calling_of i ∙ f.call) in (
            a.front,
            a.last,
            below,
            record {
              is = ap (λ (xs : List Op). next ++ xs) j
                  ∙ (ap (λ (xs : List Op). xs ++ below) a.is ∙ append_assoc a.front (a.last ∷ []) below);
              none = a.none;
              call = a.call;
              owes = subst (λ (xs : List Op). O (es ++ more) (record b { own = b.own ++ more }) xs)
                  (append-nil next ∙ a.is)
                  (k b [] (subst (λ (x : Op). O es b (x ∷ [])) (sym i) f.owes));
            },
            later-tied es more bs below t,
          )
      on-top (x ∷ fs) last below f t =
          let i : o ≡ x = (let q : o ∷ rest ≡ x ∷ (fs ++ last ∷ below) = f.is in cc) in
          let j : rest ≡ fs ++ last ∷ below = (let q : o ∷ rest ≡ x ∷ (fs ++ last ∷ below) = f.is in cc) in
          let z : calling_of o ≡ 0 = omega (arith, ap calling_of i, f.none) in (
            next ++ fs,
            last,
            below,
            record {
              is = ap (λ (xs : List Op). next ++ xs) j ∙ sym (append_assoc next fs (last ∷ below));
              none = none-both next fs (c.none z) (omega (arith, f.none));
              call = f.call;
              owes = subst (λ (xs : List Op). O (es ++ more) (record b { own = b.own ++ more }) xs)
                  (sym (append_assoc next fs (last ∷ [])))
                  (k b (fs ++ last ∷ []) (subst (λ (y : Op). O es b (y ∷ (fs ++ last ∷ []))) (sym i) f.owes));
            },
            later-tied es more bs below t,
          )

    -- the thing on top is done
    tied-done : (es more : Trace) (bs : List Begun) (o : Op) (rest next : List Op) → Passes o next →
        Keeps es more o next → Tied es bs (o ∷ rest) → Tied (es ++ more) (does_all more bs) (next ++ rest)
    tied-done es more [] o rest next c k h = absurd (cc)
    tied-done es more (b ∷ bs) o rest next c k h = on-top es more b bs o rest next c k h.0 h.1 h.2 h.3 h.4

    -- a call has begun
    tied-begun : (es : Trace) (b : Begun) (bs : List Begun) (rest next : List Op) → Answering next → O es b next →
        Tied es bs rest → Tied es (b ∷ bs) (next ++ rest)
    tied-begun es b bs rest next a k t = (
      a.front,
      a.last,
      rest,
      record {
        is = ap (λ (xs : List Op). xs ++ rest) a.is ∙ append_assoc a.front (a.last ∷ []) rest;
        none = a.none;
        call = a.call;
        owes = subst (O es b) a.is k;
      },
      t,
    )

    -- the innermost call ends
    record Ends (es : Trace) (bs : List Begun) (a : Reply) (held : Hold) (rest : List Op) : Type 0 where
      pub first : Begun
      pub others : List Begun
      pub is : bs ≡ first ∷ others
      pub owes : O es first (Op.End a held ∷ [])
      pub tied : Tied es others rest

    on-end : (es : Trace) (b : Begun) (bs : List Begun) (a : Reply) (held : Hold) (rest front : List Op) (last : Op)
        (below : List Op) → Frame es b front last below (Op.End a held ∷ rest) → Tied es bs below →
        Ends es (b ∷ bs) a held rest
    on-end es b bs a held rest [] last below f t =
        let i : last ≡ Op.End a held = (let q : Op.End a held ∷ rest ≡ last ∷ below = f.is in cc) in
        let j : below ≡ rest = (let q : Op.End a held ∷ rest ≡ last ∷ below = f.is in cc) in
        record {
          first = b;
          others = bs;
          is = refl;
          owes = subst (λ (x : Op). O es b (x ∷ [])) i f.owes;
          tied = subst (Tied es bs) j t;
        }
    on-end es b bs a held rest (x ∷ fs) last below f t =
        let i : Op.End a held ≡ x =
        (let q : Op.End a held ∷ rest ≡ x ∷ (fs ++ last ∷ below) = f.is in cc) in
        absurd (omega (arith, ap calling_of i, f.none))

    tied-ends : (es : Trace) (bs : List Begun) (a : Reply) (held : Hold) (rest : List Op) →
        Tied es bs (Op.End a held ∷ rest) → Ends es bs a held rest
    tied-ends es [] a held rest h = absurd (cc)
    tied-ends es (b ∷ bs) a held rest h = on-end es b bs a held rest h.0 h.1 h.2 h.3 h.4

    -- of a machine

    pub record Frames (s : Machine) : Type 0 where
      pub tied : (q : ℕ) → Tied s.world.trace (calls q s.world.trace).begun (reverse (stack s q))
      pub right : (q : ℕ) → Each R (calls q s.world.trace).ended

    flipped : (rest old : List Op) → reverse (rest ++ reverse old) ≡ old ++ reverse rest
    flipped rest old = reverse-append rest (reverse old)
        ∙ ap (λ (xs : List Op). xs ++ reverse rest) (reverse-reverse old)

    module _ (s : Machine) (p : ℕ) (old rest : List Op) (d : Done) (l : p < length s.parties)
        (e : stack s p ≡ rest ++ reverse old) (f : Frames s) where
      was : Tied s.world.trace (calls p s.world.trace).begun (old ++ reverse rest)
      was = subst (Tied s.world.trace (calls p s.world.trace).begun) (ap (λ (xs : List Op). reverse xs) e ∙ flipped rest old)
          (f.tied p)

      -- what holds of p and of each other holds of all
      all : (tied : Tied d.world.trace (calls p d.world.trace).begun (d.next ++ reverse rest)) →
          (right : Each R (calls p d.world.trace).ended) →
          (more : Trace) → d.world.trace ≡ s.world.trace ++ more →
          ((q : ℕ) → q ≢ p → has (is_by q) more ≡ false) → Frames (unsettled s p rest d)
      all tied right more g own = record { tied = λ q. tie q (eqb q p) refl; right = λ q. good q (eqb q p) refl }
        where
          other : (q : ℕ) → q ≢ p → Unheard q s.world.trace d.world.trace
          other q n = subst (λ (t : Trace). Unheard q s.world.trace t) (sym g) (unheard q s.world.trace more (own q n))

          tie : (q : ℕ) (b : Bool) → eqb q p ≡ b → Tied d.world.trace (calls q d.world.trace).begun
              (reverse (get_or (set s.parties p (rest ++ reverse d.next)) q []))
          tie q true z =
              let i : p ≡ q = grind (arith, nat_tests) in
              tied-is d.world.trace d.world.trace (calls p d.world.trace).begun (calls q d.world.trace).begun
              (d.next ++ reverse rest) _ refl (ap (λ (k : ℕ). (calls k d.world.trace).begun) i)
              (sym (flipped rest d.next)
              ∙ ap (λ (xs : List Op). reverse xs)
              (sym (ap (λ (k : ℕ). get_or (set s.parties p (rest ++ reverse d.next)) k []) (sym i)
              ∙ get_or-set_same s.parties p (rest ++ reverse d.next) [] l))) tied
          tie q false z =
              let n : q ≢ p = grind (arith, nat_tests) in
              tied-is (s.world.trace ++ more) d.world.trace (calls q s.world.trace).begun (calls q d.world.trace).begun
              (reverse (stack s q)) _ (sym g) (sym (other q n).begun)
              (ap (λ (xs : List Op). reverse xs)
              (sym (get_or-set_other s.parties p q (rest ++ reverse d.next) [] n)))
              (later-tied s.world.trace more _ _ (f.tied q))

          good : (q : ℕ) (b : Bool) → eqb q p ≡ b → Each R (calls q d.world.trace).ended
          good q true z =
              let i : p ≡ q = grind (arith, nat_tests) in
              subst (λ (k : ℕ). Each R (calls k d.world.trace).ended) i right
          good q false z =
              let n : q ≢ p = grind (arith, nat_tests) in subst (Each R) (sym (other q n).ended) (f.right q)

    -- something is done that ends no call
    pub frames-done : (s : Machine) (p : ℕ) (o : Op) (rest : List Op) (d : Done) → p < length s.parties →
        stack s p ≡ rest ++ reverse (o ∷ []) → Passes o d.next → (g : Grows p s.world d.world) →
        Keeps s.world.trace g.more o d.next → Frames s → Frames (unsettled s p rest d)
    frames-done s p o rest d l e c g k f =
        let h : Heard p s.world.trace g.more (s.world.trace ++ g.more) =
        heard p s.world.trace g.more g.none_begins g.none_ends g.own in
        all s p (o ∷ []) rest d l e f
        (tied-is (s.world.trace ++ g.more) d.world.trace _ _ _ _ (sym g.is)
        (sym (ap (λ (t : Trace). (calls p t).begun) g.is ∙ h.begun)) refl
        (tied-done s.world.trace g.more (calls p s.world.trace).begun o (reverse rest) d.next c k
        (was s p (o ∷ []) rest d l e f)))
        (subst (Each R) (sym (ap (λ (t : Trace). (calls p t).ended) g.is ∙ h.ended)) (f.right p)) g.more g.is g.own

    -- a call begins
    pub frames-begun : (s : Machine) (p : ℕ) (rest : List Op) (c : Call) (d : Done) → p < length s.parties →
        stack s p ≡ rest ++ reverse [] → Answering d.next →
        (g : Grows p (log s.world (Event.CallBegun p c)) d.world) →
        O ((s.world.trace ++ Event.CallBegun p c ∷ []) ++ g.more) (record { call = c; own = g.more }) d.next →
        Frames s → Frames (unsettled s p rest d)
    frames-begun s p rest c d l e a g k f =
        let es : Trace = s.world.trace in
        let begin : Event = Event.CallBegun p c in
        let h : Heard p (es ++ begin ∷ []) g.more ((es ++ begin ∷ []) ++ g.more) =
        heard p (es ++ begin ∷ []) g.more g.none_begins g.none_ends g.own in
        let first : calls p (es ++ begin ∷ []) ≡ record {
          past = (calls p es).past ++ begin ∷ [];
          begun = record { call = c; own = [] } ∷ (calls p es).begun;
          ended = (calls p es).ended;
        } = hears-it p es begin (by-itself p) in
        all s p [] rest d l e f
        (tied-is ((es ++ begin ∷ []) ++ g.more) d.world.trace
        (record { call = c; own = g.more } ∷ (calls p es).begun) _ (d.next ++ reverse rest) _ (sym g.is)
        (sym (ap (λ (t : Trace). (calls p t).begun) g.is
        ∙ (h.begun ∙ ap (λ (x : Calls). does_all g.more x.begun) first))) refl
        (tied-begun ((es ++ begin ∷ []) ++ g.more) (record { call = c; own = g.more }) (calls p es).begun (reverse rest)
        d.next a k
        (later-tied (es ++ begin ∷ []) g.more _ _ (later-tied es (begin ∷ []) _ _ (was s p [] rest d l e f)))))
        (subst (Each R)
        (sym (ap (λ (t : Trace). (calls p t).ended) g.is ∙ (h.ended ∙ ap (λ (x : Calls). x.ended) first))) (f.right p))
        (begin ∷ g.more) (g.is ∙ append_assoc es (begin ∷ []) g.more)
        (λ q n. step q n g.own)
      where
        step : (q : ℕ) → q ≢ p → ((q : ℕ) → q ≢ p → has (is_by q) g.more ≡ false) →
            (is_by q (Event.CallBegun p c) || has (is_by q) g.more) ≡ false
        step q n own = ap (λ (b : Bool). b || has (is_by q) g.more) (not-by p q (Event.CallBegun p c) refl n) ∙ own q n

    -- a call ends
    module _ (right : (es : Trace) (b : Begun) (a : Reply) (held : Hold) → O es b (Op.End a held ∷ []) →
        R (record { call = b.call; own = b.own; reply = a; past = es })) where
      pub frames-ends : (s : Machine) (p : ℕ) (a : Reply) (held : Hold) (below : List Op) → p < length s.parties →
          stack s p ≡ below ++ reverse (Op.End a held ∷ []) → Frames s →
          Frames (unsettled s p below (done (log s.world (Event.CallEnded p a)) []))
      frames-ends s p a held below l e f =
          let es : Trace = s.world.trace in
          let last : Event = Event.CallEnded p a in
          let d : Done = done (log s.world last) [] in
          let x : Ends es (calls p es).begun a held (reverse below) =
          tied-ends es (calls p es).begun a held (reverse below) (was s p (Op.End a held ∷ []) below d l e f) in
          let now : calls p (es ++ last ∷ []) ≡ record {
            past = (calls p es).past ++ last ∷ [];
            begun = x.others;
            ended = (calls p es).ended
                ++ record { call = x.first.call; own = x.first.own; reply = a; past = (calls p es).past } ∷ [];
          } = hears-it p es last (by-itself p)
          ∙ ap (λ (bs : List Begun). let c : Calls =
          record (ends a (calls p es) bs) { past = (calls p es).past ++ last ∷ [] } in c) x.is in
          all s p (Op.End a held ∷ []) below d l e f
          (tied-is (es ++ last ∷ []) (es ++ last ∷ []) x.others _ (reverse below) _ refl
          (sym (ap (λ (c : Calls). c.begun) now)) refl
          (later-tied es (last ∷ []) x.others (reverse below) x.tied))
          (subst (Each R) (sym (ap (λ (c : Calls). c.ended) now))
          (each-push R (calls p es).ended _ (f.right p)
          (subst (λ (t : Trace). R
          (record { call = x.first.call; own = x.first.own; reply = a; past = t })) (sym (past-here p es))
          (right es x.first a held x.owes)))) (last ∷ []) refl
          (λ q n. or-false (is_by q last) (not-by p q last refl n))
        where
          past-here : (p : ℕ) (es : Trace) → (calls p es).past ≡ es
          past-here p es = past-is p es
