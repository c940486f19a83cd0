-- For due_futures_stand_with_their_keepers.
-- Each call of a party that is in progress has one thing on the party's stack that answers it, and that of a run's poll
-- answers that.
use Rattle.std.proofs.Common.{◌≡◌, ◌≢◌, ◌⊎◌, ◌∙◌, inl, inr, ℕ, ◌+◌, ◌<◌, ◌≤◌, List, [], ◌∷◌, ◌++◌, length, drop, set, get_or}
use Rattle.std.proofs.Common.{Bool, true, false, eqb, cond, refl, sym, ap, subst, arith, append-nil}
use Rattle.std.proofs.lemmas.Bool.Decides.{nat_tests}
use Rattle.std.proofs.lemmas.List.{append_assoc, reverse-append, reverse-reverse}
use Rattle.std.specs.Prelude.{Option, Some, None, reverse}
use Rattle.executor_laws.proofs.Types.{Hint, Step, UserEnd, Move, By, Call, Reply, Answer, Event, Kind, Hold, Op, RunPoll}
use Rattle.executor_laws.proofs.Types.{StealOp, UserOp, Waker}
use Rattle.executor_model.specs.Steps.{Machine, accepts, begun, drop_run, future_of, kept, mine, poll_run, react, run, stack}
use Rattle.executor_model.specs.Steps.{start, top, waker_of, with_future}
use Rattle.executor_model.specs.World.{World, Stage, New, Listed, Ended, Done, done, log, run_of}
use Rattle.executor_model.specs.{Doing.act, Good.Good, Trace.Trace, Trace.has, Weights.same, Weights.weigh}
use Rattle.executor_model.proofs.Quiet.Calls.{calling_of, Answering, single, then}
use Rattle.executor_model.proofs.Steps.Lists.{same_is, weigh-append, weigh-below}
use Rattle.executor_model.proofs.Quiet.Resting.{Opens, idle-stack, opens as begins-answering}
use Rattle.executor_model.proofs.Steps.TraceGrows.{Grows, Allows, is_ordinary, grows-act, grows-begun, grows-react}
use Rattle.executor_model.proofs.Steps.Lift.{none_refused, unsettled, good-start}
use Rattle.executor_model.proofs.Steps.Ways.Way.{acted, reacted, called}
use Rattle.executor_model.proofs.{Quiet.CallsGroups.calls-act, Awaiters.AwaitedTies.stack-then, Steps.Ways.Way}
use Rattle.executor_model.proofs.{Steps.Ways.along, Steps.Tests.left-false, Steps.Tests.right-false}
use Rattle.executor_laws.proofs.Placement.Answering.{answers_of, other_of, few, Hands, hands-act, hands-react, is_end}
use Rattle.executor_laws.proofs.Placement.Opens.{Open, opens, opens_one, opens-push, opens-none}
use Rattle.executor_laws.proofs.Placement.Opened.{Tells, at, tells-none, tells-push, tells-poll, polls_no_run}

-- this answers the call
abbrev pub Fits : Op → Open → Type 0
Fits o None = (r : ℕ) → answers_of r o ≡ 0
Fits o (Some x) = 1 ≤ answers_of x.0 o + other_of o

-- the things to do, the first first, and the calls that are in progress, the innermost first
abbrev pub Framed : List Op → List Open → Type 0
Framed [] [] = Unit {0}
Framed [] (c ∷ cs) = ⊥
Framed (o ∷ os) cs =
    ((calling_of o ≡ 0) × Framed os cs)
    ⊎ ((c : Open) × (rest : List Open) × (cs ≡ c ∷ rest) × (calling_of o ≡ 1) × Fits o c × Framed os rest)

abbrev light-on : (xs os : List Op) (cs : List Open) → Type 0
light-on xs os cs = weigh calling_of xs ≡ 0 → Framed os cs → Framed (xs ++ os) cs

framed-light : (xs os : List Op) (cs : List Open) → light-on xs os cs
framed-light [] os cs z h = h
framed-light (x ∷ xs) os cs z h = inl (omega (arith, z), framed-light xs os cs (omega (arith, z)) h)

-- what answers a call goes on to
passes : (o last : Op) (front : List Op) (c : Open) → is_end o ≡ false → weigh calling_of front ≡ 0 →
    ((r : ℕ) → Hands r o (front ++ last ∷ [])) → calling_of last ≡ 1 → Fits o c → Fits last c
passes o last front None e z h k f = λ r.
    omega (arith, f r, (h r).most, weigh-append (answers_of r) front (last ∷ []))
passes o last front (Some x) e z h k f =
    let none : weigh other_of front ≡ 0 = omega (arith, z, weigh-below other_of calling_of others front) in
    let below : weigh (answers_of x.0) front ≡ 0 =
    omega (arith, z, weigh-below (answers_of x.0) calling_of (few x.0) front) in
    omega (
      arith,
      f,
      no-other o e,
      (h x.0).least,
      weigh-append (answers_of x.0) front (last ∷ []),
      weigh-append other_of front (last ∷ []),
      none,
      below,
    )
  where
    no-other : (o : Op) → is_end o ≡ false → other_of o ≡ 0
    no-other (Op.End a held) q = absurd (cc)
    no-other _ q = refl

    others : (o : Op) → other_of o ≤ calling_of o
    others (Op.End Reply.Ready held) = omega arith
    others (Op.End a held) = by a
      where
        by : (a : Reply) → other_of (Op.End a held) ≤ 1
        by Reply.Ready = omega arith
        by _ = omega arith
    others _ = omega arith

-- one thing is done that is no end of a call
framed-next : (o : Op) (next os : List Op) (cs : List Open) → is_end o ≡ false → ((r : ℕ) → Hands r o next) →
    (calling_of o ≡ 0 → weigh calling_of next ≡ 0) → (calling_of o ≡ 1 → Answering next) → Framed (o ∷ os) cs →
    Framed (next ++ os) cs
framed-next o next os cs e h none one (inl x) = framed-light next os cs (none x.0) x.1
framed-next o next os cs e h none one (inr x) =
    let a : Answering next = one x.3 in
    let fits : Fits a.last x.0 =
    passes o a.last a.front x.0 e a.none (λ r. subst (Hands r o) a.is (h r)) a.call x.4 in
    subst (λ (xs : List Op). Framed (xs ++ os) cs) (sym a.is)
    (subst (λ (xs : List Op). Framed xs cs) (sym (append_assoc a.front (a.last ∷ []) os))
    (framed-light a.front (a.last ∷ os) cs a.none (inr (x.0, x.1, x.2, a.call, fits, x.5))))

-- the end of a call
pub framed-end : (a : Reply) (held : Hold) (os : List Op) (cs : List Open) → Framed (Op.End a held ∷ os) cs →
    (c : Open) × (cs ≡ c ∷ drop 1 cs) × Fits (Op.End a held) c × Framed os (drop 1 cs)
framed-end a held os cs (inl x) = absurd (omega (arith, x.0))
framed-end a held os cs (inr x) = (
  x.0,
  x.2 ∙ ap (λ (ys : List Open). x.0 ∷ drop 1 ys) (sym x.2),
  x.4,
  subst (λ (ys : List Open). Framed os (drop 1 ys)) (sym x.2) x.5,
)

-- a call begins
framed-begin : (next os : List Op) (c : Open) (cs : List Open) → Answering next →
    ((last : Op) (front : List Op) → next ≡ front ++ last ∷ [] → weigh calling_of front ≡ 0 → Fits last c) →
    Framed os cs → Framed (next ++ os) (c ∷ cs)
framed-begin next os c cs a f h =
    subst (λ (xs : List Op). Framed (xs ++ os) (c ∷ cs)) (sym a.is)
    (subst (λ (xs : List Op). Framed xs (c ∷ cs)) (sym (append_assoc a.front (a.last ∷ []) os))
    (framed-light a.front (a.last ∷ os) (c ∷ cs) a.none
    (inr (c, cs, refl, a.call, f a.last a.front a.is a.none, h))))

-- the machine

-- events by which calls begin and end, and polls of runs
abbrev pub is_call : Event → Bool
is_call (Event.CallBegun p c) = true
is_call (Event.CallEnded p a) = true
is_call (Event.RunPolled p r) = true
is_call _ = false

ordinary-none : (e : Event) → is_ordinary e ≡ true → is_call e ≡ false
ordinary-none (Event.CallBegun p c) z = absurd (cc)
ordinary-none (Event.CallEnded p a) z = absurd (cc)
ordinary-none (Event.RunPolled p r) z = absurd (cc)
ordinary-none _ z = refl

opens-one : (p n : ℕ) (s : List Open) (e : Event) → is_call e ≡ false → opens_one p n e s ≡ s
opens-one p n s (Event.CallBegun q c) z = absurd (cc)
opens-one p n s (Event.CallEnded q a) z = absurd (cc)
opens-one p n s (Event.RunPolled q r) z = absurd (cc)
opens-one p n s _ z = refl

polls-none : (e : Event) → is_call e ≡ false → polls_no_run e ≡ true
polls-none (Event.RunPolled q r) z = absurd (cc)
polls-none _ z = refl

-- what isn't told of in the trace of calls leaves these
opens-more : (p : ℕ) (es more : Trace) → has is_call more ≡ false → opens p (es ++ more) ≡ opens p es
opens-more p es [] z = ap (opens p) (append-nil es)
opens-more p es (e ∷ more) z =
    ap (opens p) (sym (append_assoc es (e ∷ []) more))
    ∙ (opens-more p (es ++ e ∷ []) more (right-false (is_call e) _ z)
    ∙ (opens-push p es e ∙ opens-one p (length es) (opens p es) e (left-false (is_call e) _ z)))

tells-more : (p : ℕ) (es more : Trace) → has is_call more ≡ false → Tells p es → Tells p (es ++ more)
tells-more p es [] z t = subst (Tells p) (sym (append-nil es)) t
tells-more p es (e ∷ more) z t =
    subst (Tells p) (append_assoc es (e ∷ []) more)
    (tells-more p (es ++ e ∷ []) more (right-false (is_call e) _ z)
    (tells-push p es e (polls-none e (left-false (is_call e) _ z)) t))

pub record Frames (s : Machine) : Type 0 where
  pub framed : (p : ℕ) → Framed (reverse (stack s p)) (opens p s.world.trace)
  pub tells : (p : ℕ) → Tells p s.world.trace

turned : (rest old : List Op) → reverse (rest ++ reverse old) ≡ old ++ reverse rest
turned rest old = reverse-append rest (reverse old) ∙ ap (λ (xs : List Op). xs ++ reverse rest) (reverse-reverse old)

-- party p does something by which no call begins or ends
module _ (s : Machine) (p : ℕ) (old rest : List Op) (l : p < length s.parties) (e : stack s p ≡ rest ++ reverse old)
    (h : Frames s) where
  pub here : Framed (old ++ reverse rest) (opens p s.world.trace)
  here = subst (λ (os : List Op). Framed os (opens p s.world.trace)) (ap reverse e ∙ turned rest old) (h.framed p)

  frames-at : (d : Done) → Framed (d.next ++ reverse rest) (opens p d.world.trace) →
      ((q : ℕ) → q ≢ p → opens q d.world.trace ≡ opens q s.world.trace) → ((q : ℕ) → Tells q d.world.trace) →
      Frames (unsettled s p rest d)
  frames-at d f o t = record { framed = λ q. by q (stack-then s.parties p q (rest ++ reverse d.next) l); tells = t }
    where
      by : (q : ℕ) → ((same q p ≡ 1) × (q ≡ p)
          × (get_or (set s.parties p (rest ++ reverse d.next)) q [] ≡ rest ++ reverse d.next))
          ⊎ ((same q p ≡ 0) × (q ≢ p) × (get_or (set s.parties p (rest ++ reverse d.next)) q [] ≡ get_or s.parties q []))
          → Framed (reverse (get_or (set s.parties p (rest ++ reverse d.next)) q [])) (opens q d.world.trace)
      by q (inl x) =
          subst (λ (os : List Op). Framed os (opens q d.world.trace)) (sym (ap reverse x.2 ∙ turned rest d.next))
          (subst (λ (n : ℕ). Framed (d.next ++ reverse rest) (opens n d.world.trace)) (sym x.1) f)
      by q (inr x) =
          subst (λ (os : List Op). Framed (reverse os) (opens q d.world.trace)) (sym x.2)
          (subst (Framed (reverse (stack s q))) (sym (o q x.1)) (h.framed q))

  -- of one thing that answers its call no more than before
  frames-within : (d : Done) → Grows is_call ordinary-none s.world d.world →
      Framed (d.next ++ reverse rest) (opens p s.world.trace) → Frames (unsettled s p rest d)
  frames-within d g f =
      let stays : (q : ℕ) → opens q d.world.trace ≡ opens q s.world.trace =
      λ q. ap (opens q) g.is ∙ opens-more q s.world.trace g.more g.none in
      frames-at d (subst (Framed (d.next ++ reverse rest)) (sym (stays p)) f) (λ q n. stays q)
      (λ q. subst (Tells q) (sym g.is) (tells-more q s.world.trace g.more g.none (h.tells q)))

-- an event of party p is nothing to others
other-call : (p q n : ℕ) (s : List Open) (e : Event) (x : List Open) → eqb q p ≡ false →
    opens_one q n e s ≡ cond (eqb q p) x s → opens_one q n e s ≡ s
other-call p q n s e x z k = k ∙ by (eqb q p) z
  where
    by : (b : Bool) → b ≡ false → cond b x s ≡ s
    by true q = absurd (cc)
    by false q = refl

own-call : (p : ℕ) (x s : List Open) → cond (eqb p p) x s ≡ x
own-call p x s = by (eqb p p) (grind (arith, nat_tests))
  where
    by : (b : Bool) → b ≡ true → cond b x s ≡ x
    by true q = refl
    by false q = absurd (cc)

differs : (p q : ℕ) → q ≢ p → eqb q p ≡ false
differs p q n = grind (arith, nat_tests)

pub frames-ends : (s : Machine) (p : ℕ) (a : Reply) (held : Hold) (below : List Op) → p < length s.parties →
    stack s p ≡ below ++ reverse (Op.End a held ∷ []) → Frames s →
    Frames (unsettled s p below (done (log s.world (Event.CallEnded p a)) []))
frames-ends s p a held below l e h =
    let es = s.world.trace in
    let x = Event.CallEnded p a in
    let f : _ = framed-end a held (reverse below) (opens p es) (here s p (Op.End a held ∷ []) below l e h) in
    frames-at s p (Op.End a held ∷ []) below l e h (done (log s.world x) [])
    (subst (Framed (reverse below)) (sym (opens-push p es x ∙ own-call p (drop 1 (opens p es)) (opens p es))) f.3)
    (λ q n. opens-push q es x ∙ other-call p q (length es) (opens q es) x (drop 1 (opens q es)) (differs p q n) refl)
    (λ q. tells-push q es x refl (h.tells q))

-- a call begins

abbrev polls_run : Call → Bool
polls_run (Call.PollRun r b) = true
polls_run _ = false

record NoAnswer (next : List Op) : Type 0 where
  pub answers : (r : ℕ) → weigh (answers_of r) next ≡ 0

none-with : (w : World) (x : Option ℕ) (d : ℕ → Done) → ((f : ℕ) → NoAnswer (d f).next) → NoAnswer (with_future w x d).next
none-with w None d k = record { answers = λ r. refl }
none-with w (Some f) d k = k f

none-drop : (t : Stage) (q : ℕ) → NoAnswer (drop_run t q)
none-drop New q = record { answers = λ r. refl }
none-drop Listed q = record { answers = λ r. refl }
none-drop Ended q = record { answers = λ r. refl }

none-begun : (p : ℕ) (w : World) (o : Option Waker) (c : Call) → polls_run c ≡ false → NoAnswer (begun p w o c).next
none-begun p w o (Call.Wake k) z = none-with w (kept w k) _ (λ f. record { answers = λ r. refl })
none-begun p w o (Call.WakeByRef k) z = none-with w (kept w k) _ (λ f. record { answers = λ r. refl })
none-begun p w o (Call.Copy k) z = none-with w (kept w k) _ (λ f. record { answers = λ r. refl })
none-begun p w o (Call.DropWaker k) z = none-with w (kept w k) _ (λ f. record { answers = λ r. refl })
none-begun p w o Call.Keep z = none-with w (future_of o) _ (λ f. record { answers = λ r. refl })
none-begun p w o Call.WakeSelf z = none-with w (future_of o) _ (λ f. record { answers = λ r. refl })
none-begun p w o (Call.PollRun q b) z = absurd (cc)
none-begun p w o (Call.DropRun q) z = none-drop _ q
none-begun p w o _ z = record { answers = λ r. refl }

self-same : (r : ℕ) → same r r ≡ 1
self-same r = grind (arith, same_is)

poll-answers : (t : Stage) (x : RunPoll) → 1 ≤ weigh (answers_of x.run) (poll_run t x) + weigh other_of (poll_run t x)
poll-answers New x = omega (arith, self-same x.run)
poll-answers Listed x = omega (arith, self-same x.run)
poll-answers Ended x = omega arith

poll-light : (t : Stage) (x : RunPoll) (front : List Op) (last : Op) → poll_run t x ≡ front ++ last ∷ [] → front ≡ []
poll-light New x [] last e = refl
poll-light New x (y ∷ []) last e = absurd (cc)
poll-light New x (y ∷ z ∷ front) last e = absurd (cc)
poll-light Listed x [] last e = refl
poll-light Listed x (y ∷ []) last e = absurd (cc)
poll-light Listed x (y ∷ z ∷ front) last e = absurd (cc)
poll-light Ended x [] last e = refl
poll-light Ended x (y ∷ []) last e = absurd (cc)
poll-light Ended x (y ∷ z ∷ front) last e = absurd (cc)

module _ (s : Machine) (p : ℕ) (rest : List Op) (l : p < length s.parties) (e : stack s p ≡ rest ++ reverse [])
    (h : Frames s) where
  abbrev es : Trace
  es = s.world.trace

  there : Framed (reverse rest) (opens p es)
  there = here s p [] rest l e h

  abbrev begun_trace : Call → Trace
  begun_trace c = es ++ Event.CallBegun p c ∷ []

  opens-begun : (c : Call) → opens p (begun_trace c) ≡ None ∷ opens p es
  opens-begun c = opens-push p es (Event.CallBegun p c) ∙ own-call p (None ∷ opens p es) (opens p es)

  opens-others : (c : Call) (q : ℕ) → q ≢ p → opens q (begun_trace c) ≡ opens q es
  opens-others c q n = opens-push q es (Event.CallBegun p c)
      ∙ other-call p q (length es) (opens q es) (Event.CallBegun p c) (None ∷ opens q es) (differs p q n) refl

  tells-begun : (c : Call) (q : ℕ) → Tells q (begun_trace c)
  tells-begun c q = tells-push q es (Event.CallBegun p c) refl (h.tells q)

  frames-call : (c : Call) (o : Option Waker) → polls_run c ≡ false → Opens s.world p c (begun p (log s.world (Event.CallBegun p c)) o c) →
      Grows is_call ordinary-none (log s.world (Event.CallBegun p c)) (begun p (log s.world (Event.CallBegun p c)) o c).world →
      Frames (unsettled s p rest (begun p (log s.world (Event.CallBegun p c)) o c))
  frames-call c o z a g =
      let d = begun p (log s.world (Event.CallBegun p c)) o c in
      let none : NoAnswer d.next = none-begun p (log s.world (Event.CallBegun p c)) o c z in
      let now : (q : ℕ) → opens q d.world.trace ≡ opens q (begun_trace c) =
      λ q. ap (opens q) g.is ∙ opens-more q (begun_trace c) g.more g.none in
      frames-at s p [] rest l e h d
      (subst (Framed (d.next ++ reverse rest)) (sym (now p ∙ opens-begun c))
      (framed-begin d.next (reverse rest) None (opens p es) a.1
      (λ last front q y r. omega (
        arith,
        none.answers r,
        ap (weigh (answers_of r)) q,
        weigh-append (answers_of r) front (last ∷ []),
      )) there))
      (λ q n. now q ∙ opens-others c q n)
      (λ q. subst (Tells q) (sym g.is) (tells-more q (begun_trace c) g.more g.none (tells-begun c q)))

  frames-poll : (r : ℕ) (b : By) (o : Option Waker) →
      Answering (begun p (log s.world (Event.CallBegun p (Call.PollRun r b))) o (Call.PollRun r b)).next →
      Frames (unsettled s p rest (begun p (log s.world (Event.CallBegun p (Call.PollRun r b))) o (Call.PollRun r b)))
  frames-poll r b o a =
      let c = Call.PollRun r b in
      let v = log s.world (Event.CallBegun p c) in
      let d = begun p v o c in
      let x : RunPoll = record { run = r; waker = waker_of o b; poll = length v.trace } in
      let t = (run_of v r).stage in
      let e2 = Event.RunPolled p r in
      frames-at s p [] rest l e h d
      (subst (Framed (d.next ++ reverse rest))
      (sym (opens-push p v.trace e2 ∙ (own-call p (Some (r, length v.trace) ∷ drop 1 (opens p v.trace)) (opens p v.trace)
      ∙ ap (λ (ys : List Open). Some (r, length v.trace) ∷ drop 1 ys) (opens-begun c))))
      (framed-begin d.next (reverse rest) (Some (r, length v.trace)) (opens p es) a
      (λ last front q y. let none : front ≡ [] = poll-light t x front last q in omega (
        arith,
        poll-answers t x,
        ap (weigh (answers_of r)) (q ∙ ap (λ (zs : List Op). zs ++ last ∷ []) none),
        ap (weigh other_of) (q ∙ ap (λ (zs : List Op). zs ++ last ∷ []) none),
      )) there))
      (λ q n. opens-push q v.trace e2
      ∙ (other-call p q (length v.trace) (opens q v.trace) e2
      (Some (r, length v.trace) ∷ drop 1 (opens q v.trace)) (differs p q n) refl ∙ opens-others c q n))
      (λ q. tells-poll q p r v.trace (ap (λ (ys : List Open). at ys 0) (opens-begun c)) (tells-begun c q))

-- every step

frames-one : (s : Machine) (p : ℕ) (rest : List Op) (t : Hint) (o : Op) (b : Bool) → is_end o ≡ b → p < length s.parties →
    stack s p ≡ rest ++ reverse (o ∷ []) → Frames s → Frames (unsettled s p rest (act p t o s.world))
frames-one s p rest t (Op.End a held) true n l e h = frames-ends s p a held rest l e h
frames-one s p rest t _ true n l e h = absurd (cc)
frames-one s p rest t o false n l e h =
    frames-within s p (o ∷ []) rest l e h (act p t o s.world)
    (grows-act is_call ordinary-none p t o s.world (allows o n))
    (framed-next o (act p t o s.world).next (reverse rest) (opens p s.world.trace) n (λ r. hands-act r p t o s.world n)
    (calls-act p t o s.world n).passes.none (calls-act p t o s.world n).passes.one (here s p (o ∷ []) rest l e h))
  where
    allows : (x : Op) → is_end x ≡ false → Allows is_call ordinary-none p x
    allows (Op.Move Move.TakeUp f) k = refl
    allows (Op.Steal (StealOp.Put y more f)) k = refl
    allows (Op.End a held) k = absurd (cc)
    allows _ k = tt

one-react : (p : ℕ) (o : Op) (u : UserEnd) (w : World) → accepts o u ≡ true → calling_of o ≡ 1 →
    Answering (react p o u w).next
one-react p (Op.User (UserOp.PollOwn x)) (UserEnd.Polled Answer.Pending) w a z = single _ refl
one-react p (Op.User (UserOp.PollOwn x)) (UserEnd.Polled Answer.Ready) w a z =
    then (Op.User (UserOp.DropOwn x.run) ∷ []) _ refl refl
one-react p _ u w a z = absurd (cc)

none-react : (p : ℕ) (o : Op) (u : UserEnd) (w : World) → accepts o u ≡ true → calling_of o ≡ 0 →
    weigh calling_of (react p o u w).next ≡ 0
none-react p (Op.User (UserOp.Poll f)) (UserEnd.Polled Answer.Pending) w a z = refl
none-react p (Op.User (UserOp.Poll f)) (UserEnd.Polled Answer.Ready) w a z = refl
none-react p (Op.User (UserOp.Drop f)) UserEnd.Done w a z = refl
none-react p (Op.User (UserOp.DropOutput f)) UserEnd.Done w a z = refl
none-react p (Op.User (UserOp.CallOutside x)) UserEnd.Done w a z = refl
none-react p (Op.User (UserOp.DropOwn q)) UserEnd.Done w a z = refl
none-react p _ _ w a z = absurd (cc)

pub frames-moves : (s : Machine) (p : ℕ) (old rest : List Op) (d : Done) → Good s → p < length s.parties →
    stack s p ≡ rest ++ reverse old → Way s p old rest d → Frames s → Frames (unsettled s p rest d)
frames-moves s p old rest d good l e (acted t o q z) h =
    rw z (frames-one s p rest t o (is_end o) refl l (subst (λ (os : List Op). stack s p ≡ rest ++ reverse os) q e) h)
frames-moves s p old rest d good l e (reacted o u a q z) h =
    let e2 : stack s p ≡ rest ++ reverse (o ∷ []) = subst (λ (os : List Op). stack s p ≡ rest ++ reverse os) q e in
    let n : is_end o ≡ false = user o u a in
    rw z (frames-within s p (o ∷ []) rest l e2 h (react p o u s.world)
    (grows-react is_call ordinary-none p o u s.world a)
    (framed-next o (react p o u s.world).next (reverse rest) (opens p s.world.trace) n
    (λ r. hands-react r p o u s.world a)
    (none-react p o u s.world a) (one-react p o u s.world a)
    (here s p (o ∷ []) rest l e2 h)))
  where
    user : (x : Op) (y : UserEnd) → accepts x y ≡ true → is_end x ≡ false
    user (Op.User x) y k = refl
    user _ y k = absurd (cc)
frames-moves s p old rest d good l e (called c q r n z) h =
    let e2 : stack s p ≡ rest ++ reverse [] = subst (λ (os : List Op). stack s p ≡ rest ++ reverse os) q e in
    let f : _ = none_refused s.world s.parties (top (stack s p)) c n in
    rw z (by c (begins-answering p s.world s.parties (top (stack s p)) c f.1) e2)
  where
    o : Option Waker
    o = mine (top (stack s p))

    by : (x : Call) → Opens s.world p x (begun p (log s.world (Event.CallBegun p x)) o x) →
        stack s p ≡ rest ++ reverse [] → Frames (unsettled s p rest (begun p (log s.world (Event.CallBegun p x)) o x))
    by (Call.PollRun m b) a e2 = frames-poll s p rest l e2 h m b o a.1
    by (Call.DropRun m) a e2 = frames-call s p rest l e2 h (Call.DropRun m) o refl a
        (grows-begun is_call ordinary-none p (log s.world (Event.CallBegun p (Call.DropRun m))) o (Call.DropRun m) refl)
    by x a e2 = frames-call s p rest l e2 h x o refl a
        (grows-begun is_call ordinary-none p (log s.world (Event.CallBegun p x)) o x tt)

pub frames-start : (limit : ℕ) (kind : Kind) (n : ℕ) → Frames (start limit kind n)
frames-start limit kind n = record {
  framed = λ p. subst (λ (os : List Op). Framed (reverse os) (opens p [])) (sym (idle-stack n p))
      (subst (Framed []) (sym (opens-none p)) tt);
  tells = tells-none;
}

pub frames : (limit : ℕ) (kind : Kind) (n : ℕ) (ts : List Step) → Frames (run ts (start limit kind n))
frames limit kind n ts = along Frames frames-moves frames-ends ts (start limit kind n) (good-start limit kind n) (frames-start limit kind n)
