-- For ticks_are_exact, calls_at_rest_are_exact and lone_calls_are_exact.
-- How a call is answered that begins at rest.
use Rattle.std.proofs.Common.{◌≡◌, ◌≢◌, ◌⊎◌, ℕ, ◌<◌, List, [], ◌∷◌, ◌++◌, length, set, get_or, Bool, true, false, ◌&&◌, not}
use Rattle.std.proofs.Common.{ltb, refl, sym, ap, ◌∙◌, subst, inl, inr, ⊎_elim, arith, get_or-set_same, get_or-set_other, ◌==◌}
use Rattle.std.specs.Prelude.{Option, Some, None}
use Rattle.std.{proofs.Math.ListN.length-set, proofs.lemmas.Bool.Decides.nat_tests, proofs.lemmas.List.append_assoc}
use Rattle.executor_parts.specs.Marks.{other}
use Rattle.executor_laws.proofs.Types.{Mark, Call, Reply, Event, Kind, Hold, First, Second, Op, Move, QueueOp, SleeperOp}
use Rattle.executor_laws.proofs.Types.{TableOp, Hint, Step, Begin, Go, StepError, NoSuch, Gone}
use Rattle.executor_model.specs.Steps.{Machine, stack, top, unless, begin_refusal, part_refusal, refusal, onto, part}
use Rattle.executor_model.specs.Steps.{part_after, with_part, step_by, step, stepped, run, start}
use Rattle.executor_model.specs.Emptiness.{IsAtRest, IsQuietEmptinessExact, AnswersAlone, AllDropped, asks_alone}
use Rattle.executor_model.specs.{Trace.Trace, Trace.has, Trace.is_drop_begun, Keeper.IsCommon, Quiet.IsQuiet, Good.Good}
use Rattle.executor_model.specs.{Acts.take_by, World.World, World.queue_of, Rows.leaking_of, Weights.weigh_all}
use Rattle.executor_laws.specs.AtRest.{BeginsAtRest, TicksAreExact, EmptinessIsExact}
use Rattle.executor_model.proofs.{Emptiness.Quieting.asking, Emptiness.Quieting.quiet-empties, Polls.AskingExecutions.Heard}
use Rattle.executor_model.proofs.{Polls.AskingExecutions.heard, Steps.TraceSteps.IsContinued, Steps.TraceSteps.run-continues}
use Rattle.executor_model.proofs.{Steps.Lift.good, Steps.Stepping.step-refused, Quiet.Resting.Deep, Quiet.Resting.deep}
use Rattle.executor_laws.proofs.Exactness.Ticking.{begun-alone, first-queued, in-seconding, in-ticking, in-turning}
use Rattle.executor_laws.proofs.Exactness.Ticking.{looked-first, looked-second, none-queued, seconding, ticking, turn_of}
use Rattle.executor_laws.proofs.Exactness.Finding.{Found, found, no-more}
use Rattle.executor_laws.proofs.Exactness.Following.{IsAlone, first-of, follow}
use Rattle.executor_laws.proofs.Placement.Placing.{unleaked, common-queue, here, idle, queue-common}
use Rattle.executor_laws.proofs.{Exactness.Ticking.turned-alone, Exactness.Ticking.turning, Exactness.Inside.Inside}
use Rattle.executor_laws.proofs.{Exactness.Inside.not-no, Placement.BoundWays.Bonded, Placement.BoundWays.bonded}

-- a call that was shown to begin is one of a party that is there
known : (s : Machine) (p : ℕ) (c : Call) (more : Trace) →
    (stepped s (step s (Begin p c))).world.trace ≡ s.world.trace ++ Event.CallBegun p c ∷ more → p < length s.parties
known s p c more e = by-place (ltb p (length s.parties)) refl
  where
    by-place : (b : Bool) → ltb p (length s.parties) ≡ b → p < length s.parties
    by-place true q = grind (arith, nat_tests)
    by-place false q =
        let r : refusal s (Begin p c) ≡ Some NoSuch =
        ap (λ (x : Bool). unless x NoSuch (part_refusal s.world s.parties (stack s p) (Begin p c))) q in
        absurd (no-more s.world.trace more (Event.CallBegun p c)
        (sym (ap (λ (x : Machine). x.world.trace) (ap (stepped s) (step-refused s (Begin p c) NoSuch r))) ∙ e))

asks : (s : Machine) (p : ℕ) → p < length s.parties → s.world.gone ≡ false → stack s p ≡ [] →
    weigh_all leaking_of s.parties ≡ 0 →
    stepped s (step s (Begin p Call.IsEmpty)) ≡ asking s p
unfolding step
asks s p l n e k =
    let there : ltb p (length s.parties) ≡ true = grind (arith, nat_tests) in
    let r : refusal s (Begin p Call.IsEmpty) ≡ None =
    ap (λ (b : Bool). unless b NoSuch (begin_refusal s.world s.parties (top (stack s p)) Call.IsEmpty)) there
    ∙ (ap (λ (os : List Op). begin_refusal s.world s.parties (top os) Call.IsEmpty) e
    ∙ (ap (λ (b : Bool). unless (not (b && true)) Gone (unless (weigh_all leaking_of s.parties == 0) Gone None)) n
    ∙ ap (λ (m : ℕ). unless (m == 0) Gone None) k)) in
    ap (λ (x : Option StepError). stepped s (step_by x s (Begin p Call.IsEmpty))) r
    ∙ ap (λ (os : List Op). with_part s p (part_after s.world os (Begin p Call.IsEmpty))) e

-- a tick: nothing was common, and it is answered so; or a future is, and it isn't

abbrev TickAnswered : ℕ → Trace → Event → Type 0
TickAnswered p before e =
    ((e ≡ Event.CallEnded p Reply.No) × ((f : ℕ) → ¬ IsCommon f before))
    ⊎ ((e ≢ Event.CallEnded p Reply.No) × ((f : ℕ) × IsCommon f before))

abbrev EmptyAnswered : ℕ → Trace → Event → Type 0
EmptyAnswered p before e =
    ((e ≡ Event.CallEnded p Reply.Yes) × AllDropped before) ⊎ ((e ≡ Event.CallEnded p Reply.No) × ¬ AllDropped before)

not-both : {p : ℕ} {e : Event} → e ≡ Event.CallEnded p Reply.Yes → e ≡ Event.CallEnded p Reply.No → ⊥
not-both {p} a b = let z : Event.CallEnded p Reply.Yes ≡ Event.CallEnded p Reply.No = sym a ∙ b in absurd (cc)

module _ (s : Machine) (fine : Good s) (h : Heard s) (d : Deep s) (b : Bonded s) (rest : IsAtRest s) (p : ℕ) (l : p < length s.parties)
    (e : Event)
    (later : Trace) (alone : IsAlone e) where
  gone : s.world.gone ≡ false
  gone = here s fine h d b rest

  none : (q : ℕ) → stack s q ≡ []
  none q = idle s fine h d b rest q

  leakless : weigh_all leaking_of s.parties ≡ 0
  leakless = unleaked s fine h d b rest

  others : (os : List Op) (q : ℕ) → q ≢ p → get_or (set s.parties p os) q [] ≡ []
  others os q n = get_or-set_other s.parties p q os [] n ∙ none q

  abbrev look-first : List Op
  look-first = Op.Queue (QueueOp.Take (First (turn_of s))) ∷ []

  abbrev look-second : List Op
  look-second = Op.Queue (QueueOp.Take (Second (other (turn_of s)))) ∷ []

  others-turning : (q : ℕ) → q ≢ p → stack (turning s p) q ≡ []
  others-turning q n = get_or-set_other (ticking s p).parties p q look-first [] n
      ∙ others (Op.Queue QueueOp.TakeTurn ∷ []) q n

  others-seconding : (q : ℕ) → q ≢ p → stack (seconding s p) q ≡ []
  others-seconding q n = get_or-set_other (turning s p).parties p q look-second [] n ∙ others-turning q n

  abbrev taking-up : ℕ → List Op
  taking-up f = Op.End Reply.Yes Hold.Executor ∷ Op.Move Move.TakeUp f ∷ Op.Sleeper SleeperOp.ExchangeFlag ∷ []

  -- it has found a future
  found-inside : (m : Machine) (v : World) (f : ℕ) → p < length m.parties → ((q : ℕ) → q ≢ p → stack m q ≡ []) →
      Inside p Hold.Executor (with_part m p (part v (taking-up f)))
  found-inside m v f i o = record {
    within = omega (arith, i, length-set m.parties p (taking-up f));
    rest = Op.Move Move.TakeUp f ∷ Op.Sleeper SleeperOp.ExchangeFlag ∷ [];
    here = get_or-set_same m.parties p (taking-up f) [] i;
    light = refl;
    others = λ q n. get_or-set_other m.parties p q (taking-up f) [] n ∙ o q n;
  }

  -- it looks at the second queue
  second-next : (queue_of s.world (turn_of s)).items ≡ [] → (ts : List Step) →
      (run ts (seconding s p)).world.trace ≡ (seconding s p).world.trace ++ e ∷ later → TickAnswered p s.world.trace e
  second-next a ts k = follow (seconding s p) p (Op.Queue (QueueOp.Take (Second (other (turn_of s)))))
      (get_or-set_same (turning s p).parties p look-second []
      (in-turning s p l gone (none p) leakless))
      others-seconding (λ u. refl) e later alone (TickAnswered p s.world.trace e)
      (λ t us q. goes t us _ refl q) ts k
    where
      goes : (t : Hint) (us : List Step) (items : List ℕ) → (queue_of s.world (other (turn_of s))).items ≡ items →
          (run us (stepped (seconding s p) (step (seconding s p) (Go p t)))).world.trace
          ≡ (seconding s p).world.trace ++ e ∷ later → TickAnswered p s.world.trace e
      goes t us [] z q =
          let m : Machine = with_part (seconding s p) p
          (onto p (take_by (seconding s p).world (Second (other (turn_of s))) []) []) in
          let ran : (run us m).world.trace ≡ (seconding s p).world.trace ++ e ∷ later =
          sym (ap (λ (x : Machine). (run us x).world.trace) (looked-second s p l gone (none p) leakless t [] z)) ∙ q in
          inl (
            first-of (seconding s p).world.trace [] (run us m).world.trace later e (Event.CallEnded p Reply.No)
                (run-continues us m) ran,
            λ f common. absurd (omega (arith, common-queue s fine h d b rest f common, none-queued s.world (turn_of s) f a z)),
          )
      goes t us (f ∷ xs) z q =
          let m : Machine = with_part (seconding s p) p
          (onto p (take_by (seconding s p).world (Second (other (turn_of s))) (f ∷ xs)) []) in
          let ran : (run us m).world.trace ≡ m.world.trace ++ e ∷ later =
          sym (ap (λ (x : Machine). (run us x).world.trace) (looked-second s p l gone (none p) leakless t (f ∷ xs) z))
          ∙ q in
          inr (
            not-no p Hold.Executor e later alone us m
                (found-inside (seconding s p) m.world f (in-seconding s p l gone (none p) leakless) others-seconding) ran,
            (f, queue-common s fine h d b rest f (first-queued s.world (other (turn_of s)) f xs z)),
          )

  -- it looks at the first
  first-next : (ts : List Step) → (run ts (turning s p)).world.trace ≡ (turning s p).world.trace ++ e ∷ later →
      TickAnswered p s.world.trace e
  first-next ts k = follow (turning s p) p (Op.Queue (QueueOp.Take (First (turn_of s))))
      (get_or-set_same (ticking s p).parties p look-first [] (in-ticking s p l gone (none p) leakless))
      others-turning (λ u. refl) e later alone (TickAnswered p s.world.trace e)
      (λ t us q. goes t us _ refl q) ts k
    where
      goes : (t : Hint) (us : List Step) (items : List ℕ) → (queue_of s.world (turn_of s)).items ≡ items →
          (run us (stepped (turning s p) (step (turning s p) (Go p t)))).world.trace
          ≡ (turning s p).world.trace ++ e ∷ later → TickAnswered p s.world.trace e
      goes t us [] z q = second-next z us
          (sym (ap (λ (x : Machine). (run us x).world.trace) (looked-first s p l gone (none p) leakless t [] z)) ∙ q)
      goes t us (f ∷ xs) z q =
          let m : Machine = with_part (turning s p) p
          (onto p (take_by (turning s p).world (First (turn_of s)) (f ∷ xs)) []) in
          let ran : (run us m).world.trace ≡ m.world.trace ++ e ∷ later =
          sym (ap (λ (x : Machine). (run us x).world.trace) (looked-first s p l gone (none p) leakless t (f ∷ xs) z))
          ∙ q in
          inr (
            not-no p Hold.Executor e later alone us m
                (found-inside (turning s p) m.world f (in-turning s p l gone (none p) leakless) others-turning) ran,
            (f, queue-common s fine h d b rest f (first-queued s.world (turn_of s) f xs z)),
          )

  asks-two : (t : Hint) → run (asks_alone p t) s ≡ stepped (asking s p) (step (asking s p) (Go p t))
  asks-two t = ap (λ (m : Machine). stepped m (step m (Go p t))) (asks s p l gone (none p) (unleaked s fine h d b rest))

  answered-so : (a : Reply) (t : Hint) (ts : List Step) → AnswersAlone s p t a →
      (run ts (run (asks_alone p t) s)).world.trace ≡ (asking s p).world.trace ++ e ∷ later → e ≡ Event.CallEnded p a
  answered-so a t ts z k =
      let ended : (run (asks_alone p t) s).world.trace ≡ (asking s p).world.trace ++ Event.CallEnded p a ∷ [] = z
      ∙ sym (append_assoc s.world.trace (Event.CallBegun p Call.IsEmpty ∷ []) (Event.CallEnded p a ∷ [])) in
      let on : IsContinued ((asking s p).world.trace ++ Event.CallEnded p a ∷ [])
      (run ts (run (asks_alone p t) s)).world.trace =
      subst (λ (xs : Trace). IsContinued xs (run ts (run (asks_alone p t) s)).world.trace) ended
      (run-continues ts (run (asks_alone p t) s)) in
      first-of (asking s p).world.trace [] (run ts (run (asks_alone p t) s)).world.trace later e (Event.CallEnded p a)
      on k

  -- whether the executor is empty: yes where all are dropped, and no where they aren't

  asked-next : IsQuietEmptinessExact s → (ts : List Step) →
      (run ts (asking s p)).world.trace ≡ (asking s p).world.trace ++ e ∷ later →
      EmptyAnswered p s.world.trace e
  asked-next exact ts k =
      follow (asking s p) p (Op.Table TableOp.LookAtTable)
      (get_or-set_same s.parties p (Op.Table TableOp.LookAtTable ∷ []) [] l)
      (others (Op.Table TableOp.LookAtTable ∷ [])) (λ u. refl) e later alone (EmptyAnswered p s.world.trace e)
      (λ t us q. let r : (run us (run (asks_alone p t) s)).world.trace ≡ (asking s p).world.trace ++ e ∷ later = ap
      (λ (m : Machine). (run us m).world.trace) (asks-two t) ∙ q in ⊎_elim
      (λ (y : AnswersAlone s p t Reply.Yes). inl (answered-so Reply.Yes t us y r, exact.only rest p t l y))
      (λ (n : AnswersAlone s p t Reply.No). inr (
        answered-so Reply.No t us n r,
        λ all. not-both (answered-so Reply.Yes t us (exact.always rest p t l all) r) (answered-so Reply.No t us n r),
      ))
      (exact.answered rest p t l)) ts k

-- first it takes a turn

module _ (s : Machine) (fine : Good s) (h : Heard s) (d : Deep s) (b : Bonded s) (rest : IsAtRest s) (p : ℕ) (l : p < length s.parties)
    (e : Event) (later : Trace) (alone : IsAlone e) where
  -- then what comes next is that turn, and this is left to run
  record Turned (ts : List Step) : Type 0 where
    is : e ≡ Event.Looked p (turn_of s)
    steps : List Step
    left : (run steps (turning s p)).world.trace ≡ (turning s p).world.trace ++ later

  turn-next : (ts : List Step) → (run ts (ticking s p)).world.trace ≡ (ticking s p).world.trace ++ e ∷ later → Turned ts
  turn-next ts k = follow (ticking s p) p (Op.Queue QueueOp.TakeTurn)
      (get_or-set_same s.parties p (Op.Queue QueueOp.TakeTurn ∷ []) [] l)
      (λ q n. get_or-set_other s.parties p q (Op.Queue QueueOp.TakeTurn ∷ []) [] n ∙ idle s fine h d b rest q)
      (λ u. refl) e later alone (Turned ts) goes ts k
    where
      goes : (t : Hint) (us : List Step) →
          (run us (stepped (ticking s p) (step (ticking s p) (Go p t)))).world.trace
          ≡ (ticking s p).world.trace ++ e ∷ later → Turned ts
      goes t us q =
          let ran : (run us (turning s p)).world.trace ≡ (ticking s p).world.trace ++ e ∷ later =
          sym (ap (λ (x : Machine). (run us x).world.trace)
          (turned-alone s p l (here s fine h d b rest) (idle s fine h d b rest p) (unleaked s fine h d b rest) t)) ∙ q in
          let is : e ≡ Event.Looked p (turn_of s) =
          first-of (ticking s p).world.trace [] (run us (turning s p)).world.trace later e
          (Event.Looked p (turn_of s)) (run-continues us (turning s p)) ran in
          record {
            is = is;
            steps = us;
            left = ran
                ∙ (ap (λ (x : Event). (ticking s p).world.trace ++ x ∷ later) is
                ∙ sym (append_assoc (ticking s p).world.trace (Event.Looked p (turn_of s) ∷ []) later));
          }

-- a run whose trace has the beginning of the call

module _ (limit : ℕ) (kind : Kind) (parties : ℕ) (steps : List Step) (p : ℕ) (c : Call) (turns before : Trace) (next : Event)
    (b : BeginsAtRest p c turns before next (run steps (start limit kind parties)).world.trace)
    (f : Found p c before steps (start limit kind parties)) where
  abbrev moment : Machine
  moment = run f.steps (start limit kind parties)

  at-rest : IsAtRest moment
  at-rest = record { quiet = subst IsQuiet (sym f.here) b.quiet; there = ap (has is_drop_begun) f.here ∙ b.there }

  party-there : p < length moment.parties
  party-there = known moment p c f.more (f.shown ∙ ap (λ (xs : Trace). xs ++ Event.CallBegun p c ∷ f.more) (sym f.here))

  -- what is left to run, from the machine in which the call has begun
  runs-on : (m : Machine) → stepped moment (step moment (Begin p c)) ≡ m →
      m.world.trace ≡ moment.world.trace ++ Event.CallBegun p c ∷ [] →
      (run f.behind m).world.trace ≡ m.world.trace ++ (turns ++ next ∷ b.later)
  runs-on m e t =
      ap (λ (x : Machine). (run f.behind x).world.trace) (sym e)
      ∙ (ap (λ (x : Machine). x.world.trace) f.goes
      ∙ (b.parts
      ∙ (ap (λ (xs : Trace). xs ++ Event.CallBegun p c ∷ (turns ++ next ∷ b.later)) (sym f.here)
      ∙ (sym (append_assoc moment.world.trace (Event.CallBegun p c ∷ []) (turns ++ next ∷ b.later))
      ∙ ap (λ (xs : Trace). xs ++ (turns ++ next ∷ b.later)) (sym t)))))

looked-alone : (p : ℕ) (m : Mark) → IsAlone (Event.Looked p m)
looked-alone p m q c z = absurd (cc)

-- a run whose trace has the beginning of a tick

module _ (limit : ℕ) (kind : Kind) (parties : ℕ) (steps : List Step) (p : ℕ) (turns before : Trace) (next : Event)
    (b : BeginsAtRest p Call.TryTick turns before next (run steps (start limit kind parties)).world.trace) where
  begun-there : Found p Call.TryTick before steps (start limit kind parties)
  begun-there = found p Call.TryTick before (turns ++ next ∷ b.later) steps (start limit kind parties) before refl b.parts

  abbrev there : Machine
  there = run begun-there.steps (start limit kind parties)

  fine-there : Good there
  fine-there = good limit kind parties begun-there.steps

  heard-there : Heard there
  heard-there = heard limit kind parties begun-there.steps

  deep-there : Deep there
  deep-there = deep limit kind parties begun-there.steps

  bonded-there : Bonded there
  bonded-there = bonded limit kind parties begun-there.steps

  rest-there : IsAtRest there
  rest-there = at-rest limit kind parties steps p Call.TryTick turns before next b begun-there

  in-there : p < length there.parties
  in-there = party-there limit kind parties steps p Call.TryTick turns before next b begun-there

  ticks-there : (run begun-there.behind (ticking there p)).world.trace
      ≡ (ticking there p).world.trace ++ (turns ++ next ∷ b.later)
  ticks-there = runs-on limit kind parties steps p Call.TryTick turns before next b begun-there (ticking there p)
      (begun-alone there p in-there (here there fine-there heard-there deep-there bonded-there rest-there)
      (idle there fine-there heard-there deep-there bonded-there rest-there p)
      (unleaked there fine-there heard-there deep-there bonded-there rest-there)) refl

tick-turns : (limit : ℕ) (kind : Kind) (parties : ℕ) (steps : List Step) (p : ℕ) (before : Trace) (next : Event) →
    BeginsAtRest p Call.TryTick [] before next (run steps (start limit kind parties)).world.trace →
    (m : Mark) × (next ≡ Event.Looked p m)
tick-turns limit kind parties steps p before next b =
    let s : Machine = there limit kind parties steps p [] before next b in
    let fine : Good s = fine-there limit kind parties steps p [] before next b in
    let h : Heard s = heard-there limit kind parties steps p [] before next b in
    let d : Deep s = deep-there limit kind parties steps p [] before next b in
    let e : Bonded s = bonded-there limit kind parties steps p [] before next b in
    let r : IsAtRest s = rest-there limit kind parties steps p [] before next b in
    let l : p < length s.parties = in-there limit kind parties steps p [] before next b in (
      turn_of s,
      (turn-next s fine h d e r p l next b.later b.alone
          (begun-there limit kind parties steps p [] before next b).behind
          (ticks-there limit kind parties steps p [] before next b)).is,
    )

tick-told : (limit : ℕ) (kind : Kind) (parties : ℕ) (steps : List Step) (p : ℕ) (before : Trace) (next : Event) (m : Mark) →
    BeginsAtRest p Call.TryTick (Event.Looked p m ∷ []) before next (run steps (start limit kind parties)).world.trace →
    TickAnswered p before next
tick-told limit kind parties steps p before next m b =
    let turns : Trace = Event.Looked p m ∷ [] in
    let f : Found p Call.TryTick before steps (start limit kind parties) =
    begun-there limit kind parties steps p turns before next b in
    let s : Machine = there limit kind parties steps p turns before next b in
    let fine : Good s = fine-there limit kind parties steps p turns before next b in
    let h : Heard s = heard-there limit kind parties steps p turns before next b in
    let d : Deep s = deep-there limit kind parties steps p turns before next b in
    let e : Bonded s = bonded-there limit kind parties steps p turns before next b in
    let r : IsAtRest s = rest-there limit kind parties steps p turns before next b in
    let l : p < length s.parties = in-there limit kind parties steps p turns before next b in
    let x : Turned s fine h d e r p l (Event.Looked p m) (next ∷ b.later) (looked-alone p m) f.behind =
    turn-next s fine h d e r p l (Event.Looked p m) (next ∷ b.later) (looked-alone p m) f.behind
    (ticks-there limit kind parties steps p turns before next b) in
    subst (λ (es : Trace). TickAnswered p es next) f.here
    (first-next s fine h d e r p l next b.later b.alone x.steps x.left)

pub ticks-are-exact : (limit : ℕ) (kind : Kind) (parties : ℕ) (steps : List Step) (p : ℕ) →
    TicksAreExact p (run steps (start limit kind parties)).world.trace
ticks-are-exact limit kind parties steps p = record {
  turns = λ before next b. tick-turns limit kind parties steps p before next b;
  no = λ before next m b. ⊎_elim
      (λ (x : (next ≡ Event.CallEnded p Reply.No) × ((f : ℕ) → ¬ IsCommon f before)). (λ e. x.1, λ n. x.0))
      (λ (x : (next ≢ Event.CallEnded p Reply.No) × ((f : ℕ) × IsCommon f before)). let due : (f : ℕ) × IsCommon f before =
      x.1 in
      (λ e. absurd (x.0 e), λ n. absurd (n due.0 due.1)))
      (tick-told limit kind parties steps p before next m b);
}

empty-told : (limit : ℕ) (kind : Kind) (parties : ℕ) (steps : List Step) (p : ℕ) (before : Trace) (next : Event) →
    BeginsAtRest p Call.IsEmpty [] before next (run steps (start limit kind parties)).world.trace → EmptyAnswered p before next
empty-told limit kind parties steps p before next b =
    let f : Found p Call.IsEmpty before steps (start limit kind parties) =
    found p Call.IsEmpty before (next ∷ b.later) steps (start limit kind parties) before refl b.parts in
    let s : Machine = run f.steps (start limit kind parties) in
    let fine : Good s = good limit kind parties f.steps in
    let h : Heard s = heard limit kind parties f.steps in
    let d : Deep s = deep limit kind parties f.steps in
    let e : Bonded s = bonded limit kind parties f.steps in
    let r : IsAtRest s = at-rest limit kind parties steps p Call.IsEmpty [] before next b f in
    let l : p < length s.parties = party-there limit kind parties steps p Call.IsEmpty [] before next b f in
    subst (λ (es : Trace). EmptyAnswered p es next) f.here
    (asked-next s fine h d e r p l next b.later b.alone (quiet-empties limit kind parties f.steps) f.behind
    (runs-on limit kind parties steps p Call.IsEmpty [] before next b f (asking s p)
    (asks s p l (here s fine h d e r) (idle s fine h d e r p) (unleaked s fine h d e r)) refl))

pub emptiness-is-exact : (limit : ℕ) (kind : Kind) (parties : ℕ) (steps : List Step) (p : ℕ) →
    EmptinessIsExact p (run steps (start limit kind parties)).world.trace
emptiness-is-exact limit kind parties steps p before next b = ⊎_elim
    (λ (x : (next ≡ Event.CallEnded p Reply.Yes) × AllDropped before). (inl x.0, (λ e. x.1, λ all. x.0)))
    (λ (x : (next ≡ Event.CallEnded p Reply.No) × ¬ AllDropped before).
    (inr x.0, (λ e. absurd (not-both e x.0), λ all. absurd (x.1 all))))
    (empty-told limit kind parties steps p before next b)
