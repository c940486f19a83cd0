-- For nothing_is_ready_where_none_was_found.
-- The poll of a tick: where it finds a future it is answered that it is ready.
use Rattle.std.proofs.Common.{◌≡◌, ◌≢◌, ◌∙◌, inl, inr, ℕ, List, [], ◌∷◌, true, false, refl, sym, ap, subst}
use Rattle.std.specs.Prelude.{Some, None}
use Rattle.executor_parts.specs.Marks.{other}
use Rattle.executor_laws.proofs.Types.{Mark, Call, Reply, Kind, Hold, Look, First, Second, Op, Sleeping, TickOp, TickOrRun}
use Rattle.executor_laws.proofs.Types.{Waker, Hint, Step, Begin, Go, UserEnd}
use Rattle.executor_model.specs.declared.step.Step.TheVariants.{Answer}
use Rattle.executor_model.specs.Steps.{Machine, accepts, react, refusal, run, stack, start, step, stepped, top, waits}
use Rattle.executor_model.specs.World.{Asleep, Awake, Done, Left, Ticker, World, place_of, queue_of}
use Rattle.executor_model.specs.{ActsOfSleepers.look_tick_by, Doing.act}
use Rattle.executor_laws.specs.PendingPolls.{IsAnswered, TickFoundNone, TickSecondNone, TicksLookFirst, tick_poll}
use Rattle.executor_model.proofs.{Quiet.Calls.is_end, Steps.Reached.Reached}
use Rattle.executor_laws.proofs.Seeking.SeekStacks.{Comes, Follows, Lands, Next, begins-so, own_part, seek}
use Rattle.executor_laws.proofs.Seeking.SeekStacks.Next.{goes_on, had}
use Rattle.executor_laws.proofs.{Placement.OwnReady.reached-on, Seeking.SeekStacks.Lands.on, Seeking.SeekStacks.Lands.over}

-- it looks; its first look has found none, and it looks at the queue of this mark; or it has found a future
data Far : Type 0 where
  looks : Far
  second : Mark → Far
  found : Far

module _ (p t : ℕ) (waker : Waker) (poll : ℕ) (old : List Op) where
  abbrev x : Sleeping
  x = record { waker = waker; who = TickOrRun.Tick t; poll = poll }

  abbrev Control : Far → Op → Type 0
  Control looks (Op.Tick (TickOp.Search y)) = y ≡ x
  Control looks (Op.Tick (TickOp.Look y (First m))) = y ≡ x
  Control (second m) (Op.Tick (TickOp.Look y look)) = (y ≡ x) × (look ≡ Second m)
  Control found (Op.End a held) = a ≡ Reply.Ready
  Control _ _ = ⊥

  abbrev Has : Far → List Step → Machine → Type 0
  Has looks ts s = TickFoundNone x p ts s
  Has (second m) ts s = TickSecondNone m x p ts s
  Has found ts s = ⊥

  abbrev Goes : Far → Machine → Step → Done → Type 0
  Goes i s u d = Next p old Far Control Has i s u d

  finds : (look : Look) (place : Ticker) (w : World) (f : ℕ) (rest : List ℕ) →
      Comes p old Far Control found (look_tick_by place w look (f ∷ rest) x)
  finds look Awake w f rest = record { control = _; side = _; is = refl; kind = refl; light = refl }
  finds look (Asleep n) w f rest = record { control = _; side = _; is = refl; kind = refl; light = refl }
  finds look Left w f rest = record { control = _; side = _; is = refl; kind = refl; light = refl }

  looks-first : (m : Mark) (s : Machine) (h : Hint) → refusal s (Go p h) ≡ None →
      top (stack s p) ≡ Some (Op.Tick (TickOp.Look x (First m))) → (place : Ticker) (q : List ℕ) →
      (queue_of s.world m).items ≡ q → Goes looks s (Go p h) (look_tick_by place s.world (First m) q x)
  looks-first m s h e o place [] i = goes_on (second (other m))
      (record { control = _; side = _; is = refl; kind = (refl, refl); light = refl })
      (λ ts z. inl (m, record { looks = record { hint = h; is = refl; possible = e; next = o }; none = i }, z))
  looks-first m s h e o place (f ∷ rest) i = goes_on found (finds (First m) place s.world f rest) (λ ts z. absurd z)

  looks-second : (m : Mark) (s : Machine) (h : Hint) → refusal s (Go p h) ≡ None →
      top (stack s p) ≡ Some (Op.Tick (TickOp.Look x (Second m))) → (place : Ticker) (q : List ℕ) →
      (queue_of s.world m).items ≡ q → Goes (second m) s (Go p h) (look_tick_by place s.world (Second m) q x)
  looks-second m s h e o place [] i = had (λ ts. inl (record {
    looks = record { hint = h; is = refl; possible = e; next = o };
    none = i;
  }))
  looks-second m s h e o place (f ∷ rest) i = goes_on found (finds (Second m) place s.world f rest) (λ ts z. absurd z)

  acts : (i : Far) (s : Machine) (h : Hint) (c : Op) → refusal s (Go p h) ≡ None → top (stack s p) ≡ Some c →
      waits c ≡ false → is_end c ≡ false → Control i c → Goes i s (Go p h) (act p h c s.world)
  acts looks s h (Op.Tick (TickOp.Search y)) e o w n k =
      subst (λ (v : Sleeping). Goes looks s (Go p h) (act p h (Op.Tick (TickOp.Search v)) s.world)) (sym k)
      (goes_on looks (record { control = _; side = _; is = refl; kind = refl; light = refl }) (λ ts z. inr z))
  acts looks s h (Op.Tick (TickOp.Look y (First m))) e o w n k =
      subst (λ (v : Sleeping). Goes looks s (Go p h) (act p h (Op.Tick (TickOp.Look v (First m))) s.world)) (sym k)
      (looks-first m s h e (o ∙ ap (λ (v : Sleeping). Some (Op.Tick (TickOp.Look v (First m)))) k)
      (place_of s.world (TickOrRun.Tick t)) (queue_of s.world m).items refl)
  acts looks s h _ e o w n k = absurd k
  acts (second m) s h (Op.Tick (TickOp.Look y look)) e o w n k =
      subst (λ (v : Sleeping × Look). Goes (second m) s (Go p h) (act p h (Op.Tick (TickOp.Look v.0 v.1)) s.world))
      (λ i. (sym k.0 i, sym k.1 i))
      (looks-second m s h e (o ∙ (λ i. Some (Op.Tick (TickOp.Look (k.0 i) (k.1 i)))))
      (place_of s.world (TickOrRun.Tick t)) (queue_of s.world m).items refl)
  acts (second m) s h _ e o w n k = absurd k
  acts found s h (Op.End a held) e o w n k = absurd (cc)
  acts found s h _ e o w n k = absurd k

  reacts : (i : Far) (s : Machine) (u : UserEnd) (c : Op) → accepts c u ≡ true → Control i c →
      Goes i s (Answer p u) (react p c u s.world)
  reacts looks s u (Op.Tick o) v k = absurd (cc)
  reacts looks s u _ v k = absurd k
  reacts (second m) s u (Op.Tick o) v k = absurd (cc)
  reacts (second m) s u _ v k = absurd k
  reacts found s u (Op.End a held) v k = absurd (cc)
  reacts found s u _ v k = absurd k

  later : (i : Far) (s : Machine) (u : Step) (ts : List Step) → Has i ts (stepped s (step s u)) → Has i (u ∷ ts) s
  later looks s u ts z = inr z
  later (second m) s u ts z = inr z
  later found s u ts z = z

  ends : (i : Far) (a : Reply) (held : Hold) → Control i (Op.End a held) → a ≢ Reply.Pending
  ends looks a held k = absurd k
  ends (second m) a held k = absurd k
  ends found a held k = λ e. let no : Reply.Ready ≡ Reply.Pending = sym k ∙ e in cc

  follows : Follows p old Far Control Has
  follows = record { later = later; acts = acts; reacts = reacts; ends = ends }

  tick-sought : (ts : List Step) (s : Machine) → Reached s → Lands p old Far Control looks (own_part p s) →
      IsAnswered Reply.Pending p old ts s → TickFoundNone x p ts s
  tick-sought ts s y (on h) a = seek p old Far Control Has follows ts s y looks h a
  tick-sought ts s y (over r held v k w l) a = absurd k

sought : (s : Machine) → Reached s → TicksLookFirst s
sought s y p t b e ts a =
    let x : Sleeping = tick_poll p t b s in
    tick-sought p t x.waker x.poll (stack s p) ts (stepped s (step s (Begin p (Call.PollTick t b))))
    (reached-on s (Begin p (Call.PollTick t b) ∷ []) y)
    (begins-so p Far (Control p t x.waker x.poll (stack s p)) looks s (Call.PollTick t b) e
    (record { control = _; side = []; is = refl; kind = refl; light = refl })) a

pub ticks-look-first : (limit : ℕ) (kind : Kind) (parties : ℕ) (steps : List Step) →
    TicksLookFirst (run steps (start limit kind parties))
ticks-look-first limit kind parties steps = sought (run steps (start limit kind parties))
    (record { limit = limit; kind = kind; parties = parties; steps = steps; is = refl })
