-- For ticks_are_exact, calls_at_rest_are_exact and lone_calls_are_exact.
-- Where no call is in progress, a tick finds a future exactly where one is common.
use Rattle.std.proofs.Common.{◌≡◌, ◌⊎◌, ℕ, ◌<◌, ◌≤◌, List, [], ◌∷◌, ◌++◌, length, set, Bool, true, false, ◌&&◌, not, refl, sym}
use Rattle.std.proofs.Common.{ap, ◌∙◌, inl, inr, arith, get_or-set_same, length-append, ◌==◌}
use Rattle.std.specs.Prelude.{Option, None, nat_lt}
use Rattle.std.{proofs.Math.ListN.length-set, proofs.lemmas.Bool.Decides.nat_tests, proofs.lemmas.List.append_assoc}
use Rattle.executor_parts.specs.Marks.{first_of, other}
use Rattle.executor_laws.proofs.Types.{Mark, Plain, Urgent, Call, Reply, Event, Kind, Hold, First, Second, Op, Move, QueueOp}
use Rattle.executor_laws.proofs.Types.{SleeperOp, Hint, Step, Begin, Go, StepError, NoSuch, Gone}
use Rattle.executor_model.specs.Steps.{Machine, stack, top, step, step_by, stepped, refusal, unless, begin_refusal, go_refusal}
use Rattle.executor_model.specs.Steps.{onto, part, part_after, with_part, run, start}
use Rattle.executor_model.specs.World.{World, log, queue_of, queued_in}
use Rattle.executor_model.specs.{Keeper.IsCommon, Emptiness.IsAtRest, Trace.Trace, Acts.take_by, Acts.turned}
use Rattle.executor_model.specs.{ActsOfSleepers.exchange_by, Sound.times, Good.Good, Rows.leaking_of, Weights.weigh_all}
use Rattle.executor_laws.specs.Ticks.{ticks, FindsNothing, FindsCommon, IsTickExact}
use Rattle.executor_model.proofs.Steps.QueuesByMark.{times-all, times-one}
use Rattle.executor_model.proofs.Polls.AskingExecutions.{Heard, heard}
use Rattle.executor_model.proofs.{Steps.Lists.same_is, Steps.Lift.good, Quiet.Resting.Deep, Quiet.Resting.deep}
use Rattle.executor_laws.proofs.Placement.BoundWays.{Bonded, bonded}
use Rattle.executor_laws.proofs.Placement.Placing.{unleaked, common-queue, here, idle, queue-common}

-- the machine in which p has called a tick, and has still to take its turn
abbrev pub ticking : Machine → ℕ → Machine
ticking s p =
    record {
      world = log s.world (Event.CallBegun p Call.TryTick);
      parties = set s.parties p (Op.Queue QueueOp.TakeTurn ∷ []);
    }

-- which queue the turn names
abbrev pub turn_of : Machine → Mark
turn_of s = first_of s.world.urgent_turns

-- it has taken its turn, and looks at that queue first
abbrev pub turning : Machine → ℕ → Machine
turning s p = with_part (ticking s p) p
    (part (turned p (ticking s p).world) (Op.Queue (QueueOp.Take (First (turn_of s))) ∷ []))

-- it looks at the other queue
abbrev pub seconding : Machine → ℕ → Machine
seconding s p = with_part (turning s p) p
    (part (turning s p).world (Op.Queue (QueueOp.Take (Second (other (turn_of s)))) ∷ []))

-- a step by which a party goes on
pub goes-alone : (m : Machine) (p : ℕ) (t : Hint) (os : List Op) → p < length m.parties → stack m p ≡ os →
    go_refusal m.world (top os) ≡ None → stepped m (step m (Go p t)) ≡ with_part m p (part_after m.world os (Go p t))
unfolding step
goes-alone m p t os l e g =
    let there : nat_lt p (length m.parties) ≡ true = grind (arith, nat_tests) in
    let r : refusal m (Go p t) ≡ None =
    ap (λ (b : Bool). unless b NoSuch (go_refusal m.world (top (stack m p)))) there
    ∙ (ap (λ (xs : List Op). go_refusal m.world (top xs)) e ∙ g) in
    ap (λ (x : Option StepError). stepped m (step_by x m (Go p t))) r
    ∙ ap (λ (xs : List Op). with_part m p (part_after m.world xs (Go p t))) e

-- a tick alone

module _ (s : Machine) (p : ℕ) (l : p < length s.parties) (n : s.world.gone ≡ false) (e : stack s p ≡ [])
    (k : weigh_all leaking_of s.parties ≡ 0) where
  pub none-refused : refusal s (Begin p Call.TryTick) ≡ None
  none-refused =
      ap (λ (b : Bool). unless b NoSuch (begin_refusal s.world s.parties (top (stack s p)) Call.TryTick))
      (let z : nat_lt p (length s.parties) ≡ true = grind (arith, nat_tests) in z)
      ∙ (ap (λ (os : List Op). begin_refusal s.world s.parties (top os) Call.TryTick) e
      ∙ (ap (λ (b : Bool). unless (not (b && true)) Gone (unless (weigh_all leaking_of s.parties == 0) Gone None)) n
      ∙ ap (λ (m : ℕ). unless (m == 0) Gone None) k))

  pub begun-alone : stepped s (step s (Begin p Call.TryTick)) ≡ ticking s p
  unfolding step
  begun-alone = ap (λ (x : Option StepError). stepped s (step_by x s (Begin p Call.TryTick))) none-refused
      ∙ ap (λ (os : List Op). with_part s p (part_after s.world os (Begin p Call.TryTick))) e

  within : (x : List Op) (ss : List (List Op)) → p < length ss → p < length (set ss p x)
  within x ss m = omega (arith, m, length-set ss p x)

  pub in-ticking : p < length (ticking s p).parties
  in-ticking = within (Op.Queue QueueOp.TakeTurn ∷ []) s.parties l

  pub in-turning : p < length (turning s p).parties
  in-turning = within (Op.Queue (QueueOp.Take (First (turn_of s))) ∷ []) (ticking s p).parties in-ticking

  pub in-seconding : p < length (seconding s p).parties
  in-seconding = within (Op.Queue (QueueOp.Take (Second (other (turn_of s)))) ∷ []) (turning s p).parties in-turning

  pub turned-alone : (t : Hint) → stepped (ticking s p) (step (ticking s p) (Go p t)) ≡ turning s p
  turned-alone t = goes-alone (ticking s p) p t (Op.Queue QueueOp.TakeTurn ∷ []) in-ticking
      (get_or-set_same s.parties p (Op.Queue QueueOp.TakeTurn ∷ []) [] l) refl

  pub looked-first : (t : Hint) (items : List ℕ) → (queue_of s.world (turn_of s)).items ≡ items →
      stepped (turning s p) (step (turning s p) (Go p t))
      ≡ with_part (turning s p) p (onto p (take_by (turning s p).world (First (turn_of s)) items) [])
  looked-first t items q = goes-alone (turning s p) p t (Op.Queue (QueueOp.Take (First (turn_of s))) ∷ []) in-turning
      (get_or-set_same (ticking s p).parties p (Op.Queue (QueueOp.Take (First (turn_of s))) ∷ []) [] in-ticking) refl
      ∙ ap (λ (xs : List ℕ). with_part (turning s p) p (onto p (take_by (turning s p).world (First (turn_of s)) xs) [])) q

  pub looked-second : (t : Hint) (items : List ℕ) → (queue_of s.world (other (turn_of s))).items ≡ items →
      stepped (seconding s p) (step (seconding s p) (Go p t))
      ≡ with_part (seconding s p) p (onto p (take_by (seconding s p).world (Second (other (turn_of s))) items) [])
  looked-second t items q =
      goes-alone (seconding s p) p t (Op.Queue (QueueOp.Take (Second (other (turn_of s)))) ∷ []) in-seconding
      (get_or-set_same (turning s p).parties p (Op.Queue (QueueOp.Take (Second (other (turn_of s)))) ∷ []) [] in-turning)
      refl
      ∙ ap (λ (xs : List ℕ). with_part (seconding s p) p
      (onto p (take_by (seconding s p).world (Second (other (turn_of s))) xs) [])) q

  pub first-on : (t : Hint) (items : List ℕ) → (queue_of s.world (turn_of s)).items ≡ items →
      run (ticks false p t) s
      ≡ with_part (turning s p) p (onto p (take_by (turning s p).world (First (turn_of s)) items) [])
  first-on t items q = ap (λ (m : Machine). run (Go p t ∷ Go p t ∷ []) m) begun-alone
      ∙ (ap (λ (m : Machine). run (Go p t ∷ []) m) (turned-alone t) ∙ looked-first t items q)

  pub second-on : (t : Hint) (items : List ℕ) → (queue_of s.world (turn_of s)).items ≡ [] →
      (queue_of s.world (other (turn_of s))).items ≡ items →
      run (ticks true p t) s
      ≡ with_part (seconding s p) p (onto p (take_by (seconding s p).world (Second (other (turn_of s))) items) [])
  second-on t items none q = ap (λ (m : Machine). run (Go p t ∷ Go p t ∷ Go p t ∷ []) m) begun-alone
      ∙ (ap (λ (m : Machine). run (Go p t ∷ Go p t ∷ []) m) (turned-alone t)
      ∙ (ap (λ (m : Machine). run (Go p t ∷ []) m) (looked-first t [] none)
      ∙ looked-second t items q))

  pub finds-nothing : (t : Hint) → (queue_of s.world (turn_of s)).items ≡ [] →
      (queue_of s.world (other (turn_of s))).items ≡ [] → FindsNothing s p t
  finds-nothing t a b = ap (λ (m : Machine). m.world.trace) (second-on t [] a b)
      ∙ (append_assoc (s.world.trace ++ Event.CallBegun p Call.TryTick ∷ []) (Event.Looked p (turn_of s) ∷ [])
      (Event.CallEnded p Reply.No ∷ [])
      ∙ append_assoc s.world.trace (Event.CallBegun p Call.TryTick ∷ [])
      (Event.Looked p (turn_of s) ∷ Event.CallEnded p Reply.No ∷ []))

  abbrev pub taking_up : ℕ → List Op
  taking_up f = Op.End Reply.Yes Hold.Executor ∷ Op.Move Move.TakeUp f ∷ Op.Sleeper SleeperOp.ExchangeFlag ∷ []

  finds-first : (t : Hint) (f : ℕ) (xs : List ℕ) → (queue_of s.world (turn_of s)).items ≡ f ∷ xs →
      stack (run (ticks false p t) s) p ≡ taking_up f
  finds-first t f xs q = ap (λ (m : Machine). stack m p) (first-on t (f ∷ xs) q)
      ∙ get_or-set_same (turning s p).parties p (taking_up f) [] in-turning

  finds-second : (t : Hint) (f : ℕ) (xs : List ℕ) → (queue_of s.world (turn_of s)).items ≡ [] →
      (queue_of s.world (other (turn_of s))).items ≡ f ∷ xs → stack (run (ticks true p t) s) p ≡ taking_up f
  finds-second t f xs none q = ap (λ (m : Machine). stack m p) (second-on t (f ∷ xs) none q)
      ∙ get_or-set_same (seconding s p).parties p (taking_up f) [] in-seconding

  -- a sleeper is told, of which the trace doesn't tell
  tells : (b : Bool) (w : World) (f : ℕ) →
      (onto p (exchange_by b w) (Op.End Reply.Yes Hold.Executor ∷ Op.Move Move.TakeUp f ∷ [])).world.trace ≡ w.trace
  tells true w f = refl
  tells false w f = refl

  abbrev turn-told : Trace
  turn-told = (s.world.trace ++ Event.CallBegun p Call.TryTick ∷ []) ++ Event.Looked p (turn_of s) ∷ []

  told-first : (t : Hint) (f : ℕ) (xs : List ℕ) → (queue_of s.world (turn_of s)).items ≡ f ∷ xs →
      (run (ticks true p t) s).world.trace ≡ turn-told
  told-first t f xs q =
      let m : Machine =
      with_part (turning s p) p (onto p (take_by (turning s p).world (First (turn_of s)) (f ∷ xs)) []) in
      ap (λ (x : Machine). (run (Go p t ∷ Go p t ∷ Go p t ∷ []) x).world.trace) begun-alone
      ∙ (ap (λ (x : Machine). (run (Go p t ∷ Go p t ∷ []) x).world.trace) (turned-alone t)
      ∙ (ap (λ (x : Machine). (run (Go p t ∷ []) x).world.trace) (looked-first t (f ∷ xs) q)
      ∙ (ap (λ (x : Machine). x.world.trace)
      (goes-alone m p t (taking_up f) (within (taking_up f) (turning s p).parties in-turning)
      (get_or-set_same (turning s p).parties p (taking_up f) [] in-turning) refl)
      ∙ tells _ m.world f)))

  told-second : (t : Hint) (f : ℕ) (xs : List ℕ) → (queue_of s.world (turn_of s)).items ≡ [] →
      (queue_of s.world (other (turn_of s))).items ≡ f ∷ xs → (run (ticks true p t) s).world.trace ≡ turn-told
  told-second t f xs none q = ap (λ (m : Machine). m.world.trace) (second-on t (f ∷ xs) none q)

  not-nothing : (t : Hint) → (run (ticks true p t) s).world.trace ≡ turn-told → ¬ FindsNothing s p t
  not-nothing t short z = absurd (omega (
    arith,
    ap length (sym short ∙ z),
    length-append (s.world.trace ++ Event.CallBegun p Call.TryTick ∷ []) (Event.Looked p (turn_of s) ∷ []),
    length-append s.world.trace (Event.CallBegun p Call.TryTick ∷ []),
    length-append s.world.trace
        (Event.CallBegun p Call.TryTick ∷ Event.Looked p (turn_of s) ∷ Event.CallEnded p Reply.No ∷ []),
  ))

pub first-times : (f : ℕ) (xs : List ℕ) → 1 ≤ times f (f ∷ xs)
first-times f xs = grind (arith, same_is)

-- what is first in a queue is queued
pub first-queued : (w : World) (m : Mark) (f : ℕ) (xs : List ℕ) → (queue_of w m).items ≡ f ∷ xs → 1 ≤ times f (queued_in w)
first-queued w m f xs q = omega (arith, times-one f m w.queues, ap (times f) q, first-times f xs)

-- what is queued isn't in queues that are empty
pub none-queued : (w : World) (m : Mark) (f : ℕ) → (queue_of w m).items ≡ [] → (queue_of w (other m)).items ≡ [] →
    times f (queued_in w) ≡ 0
none-queued w Urgent f a b = omega (arith, times-all f w.queues, ap (times f) a, ap (times f) b)
none-queued w Plain f a b = omega (arith, times-all f w.queues, ap (times f) a, ap (times f) b)

module _ (s : Machine) (fine : Good s) (h : Heard s) (d : Deep s) (b : Bonded s) (r : IsAtRest s) where
  first-common : (m : Mark) (f : ℕ) (xs : List ℕ) → (queue_of s.world m).items ≡ f ∷ xs → IsCommon f s.world.trace
  first-common m f xs q = queue-common s fine h d b r f (first-queued s.world m f xs q)

  module _ (p : ℕ) (t : Hint) (l : p < length s.parties) where
    gone : s.world.gone ≡ false
    gone = here s fine h d b r

    idles : stack s p ≡ []
    idles = idle s fine h d b r p

    leakless : weigh_all leaking_of s.parties ≡ 0
    leakless = unleaked s fine h d b r

    tick-answered : (xs ys : List ℕ) → (queue_of s.world (turn_of s)).items ≡ xs →
        (queue_of s.world (other (turn_of s))).items ≡ ys → FindsNothing s p t ⊎ FindsCommon s p t
    tick-answered [] [] q u = inl (finds-nothing s p l gone idles leakless t q u)
    tick-answered [] (f ∷ ys) q u = inr record {
      future = f;
      common = first-common (other (turn_of s)) f ys u;
      second = true;
      found = finds-second s p l gone idles leakless t f ys q u;
    }
    tick-answered (f ∷ xs) ys q u = inr record {
      future = f;
      common = first-common (turn_of s) f xs q;
      second = false;
      found = finds-first s p l gone idles leakless t f xs q;
    }

    tick-always : ((f : ℕ) → ¬ IsCommon f s.world.trace) → (xs ys : List ℕ) →
        (queue_of s.world (turn_of s)).items ≡ xs → (queue_of s.world (other (turn_of s))).items ≡ ys →
        FindsNothing s p t
    tick-always k [] [] q u = finds-nothing s p l gone idles leakless t q u
    tick-always k [] (f ∷ ys) q u = absurd (k f (first-common (other (turn_of s)) f ys u))
    tick-always k (f ∷ xs) ys q u = absurd (k f (first-common (turn_of s) f xs q))

    tick-only : FindsNothing s p t → (f : ℕ) → IsCommon f s.world.trace → (xs ys : List ℕ) →
        (queue_of s.world (turn_of s)).items ≡ xs → (queue_of s.world (other (turn_of s))).items ≡ ys → ⊥
    tick-only z f common [] [] q u = absurd (omega (
      arith,
      common-queue s fine h d b r f common,
      none-queued s.world (turn_of s) f q u,
    ))
    tick-only z f common [] (g ∷ ys) q u =
        not-nothing s p l gone idles leakless t (told-second s p l gone idles leakless t g ys q u) z
    tick-only z f common (g ∷ xs) ys q u =
        not-nothing s p l gone idles leakless t (told-first s p l gone idles leakless t g xs q) z

tick-exact : (s : Machine) → Good s → Heard s → Deep s → Bonded s → IsTickExact s
tick-exact s fine h d b = record {
  answered = λ r p t l. tick-answered s fine h d b r p t l _ _ refl refl;
  always = λ r p t l k. tick-always s fine h d b r p t l k _ _ refl refl;
  only = λ r p t l z f common. tick-only s fine h d b r p t l z f common _ _ refl refl;
}

pub ticks-exact : (limit : ℕ) (kind : Kind) (parties : ℕ) (steps : List Step) → IsTickExact (run steps (start limit kind parties))
ticks-exact limit kind parties steps =
    tick-exact (run steps (start limit kind parties)) (good limit kind parties steps) (heard limit kind parties steps)
    (deep limit kind parties steps) (bonded limit kind parties steps)
