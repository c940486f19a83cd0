-- For no_poll_begins_after_a_cancel.
-- Each answer of a future is one of a poll that began, and where none begins behind its cancel, of one that began before.
use Rattle.std.proofs.Common.{◌≡◌, ◌≢◌, ℕ, ◌+◌, ◌≤◌, List, [], ◌∷◌, Bool, true, false, cond, eqb, refl, arith}
use Rattle.std.specs.Prelude.{count_by}
use Rattle.executor_model.specs.declared.event.Answer.{Answer}
use Rattle.executor_model.specs.declared.event.Answer.TheVariants.{Pending, Ready}
use Rattle.executor_model.specs.Sound.{Phase, after_answered, after_begun, after_dropped, phase_from}
use Rattle.executor_model.specs.Sound.Phase.{Broken, Fresh, Over, Polling}
use Rattle.executor_model.specs.Steps.{run, start}
use Rattle.executor_model.specs.Trace.{Trace, is_answer, is_poll}
use Rattle.executor_model.proofs.Steps.Lift.{good}
use Rattle.call_laws.proofs.Behind.{all-before, count-cons}
use Rattle.call_laws.proofs.LeavingAlone.{none-polled}
use Rattle.call_laws.proofs.Types.{Event, Kind, Step}
use Rattle.call_laws.specs.LeftAlone.{IsLeftAlone, is_given_up}

-- an open poll may still be answered
abbrev left : Phase → ℕ
left Polling = 1
left _ = 0

broken-by : (f : ℕ) (es : Trace) (b : Bool) → phase_from f Broken es ≡ Broken → phase_from f (cond b Broken Broken) es ≡ Broken
broken-by f es true e = e
broken-by f es false e = e

broken : (f : ℕ) (es : Trace) → phase_from f Broken es ≡ Broken
broken f [] = refl
broken f (Event.PollBegun p g ∷ es) = broken-by f es (eqb f g) (broken f es)
broken f (Event.Answered p g Ready ∷ es) = broken-by f es (eqb f g) (broken f es)
broken f (Event.Answered p g Pending ∷ es) = broken-by f es (eqb f g) (broken f es)
broken f (Event.Dropped p g ∷ es) = broken-by f es (eqb f g) (broken f es)
broken f (_ ∷ es) = broken f es

abbrev Few : ℕ → Phase → Trace → Type 0
Few f s es = phase_from f s es ≢ Broken → count_by (is_answer f) es ≤ count_by (is_poll f) es + left s

few-begun : (f : ℕ) (b : Bool) (s : Phase) (es : Trace) → ((z : Phase) → Few f z es) →
    phase_from f (cond b (after_begun s) s) es ≢ Broken →
    count_by (is_answer f) es ≤ cond b 1 0 + count_by (is_poll f) es + left s
few-begun f false s es ih h = omega (arith, ih s h)
few-begun f true Fresh es ih h = omega (arith, ih Polling h)
few-begun f true Polling es ih h = absurd (h (broken f es))
few-begun f true Over es ih h = absurd (h (broken f es))
few-begun f true Broken es ih h = absurd (h (broken f es))

few-answered : (f : ℕ) (a : Answer) (b : Bool) (s : Phase) (es : Trace) → ((z : Phase) → Few f z es) →
    phase_from f (cond b (after_answered a s) s) es ≢ Broken →
    cond b 1 0 + count_by (is_answer f) es ≤ count_by (is_poll f) es + left s
few-answered f a false s es ih h = omega (arith, ih s h)
few-answered f Pending true Polling es ih h = omega (arith, ih Fresh h)
few-answered f Ready true Polling es ih h = omega (arith, ih Over h)
few-answered f Pending true Fresh es ih h = absurd (h (broken f es))
few-answered f Ready true Fresh es ih h = absurd (h (broken f es))
few-answered f Pending true Over es ih h = absurd (h (broken f es))
few-answered f Ready true Over es ih h = absurd (h (broken f es))
few-answered f Pending true Broken es ih h = absurd (h (broken f es))
few-answered f Ready true Broken es ih h = absurd (h (broken f es))

few-dropped : (f : ℕ) (b : Bool) (s : Phase) (es : Trace) → ((z : Phase) → Few f z es) →
    phase_from f (cond b (after_dropped s) s) es ≢ Broken → count_by (is_answer f) es ≤ count_by (is_poll f) es + left s
few-dropped f false s es ih h = ih s h
few-dropped f true Fresh es ih h = omega (arith, ih Over h)
few-dropped f true Over es ih h = ih Over h
few-dropped f true Polling es ih h = absurd (h (broken f es))
few-dropped f true Broken es ih h = absurd (h (broken f es))

few-other : (f : ℕ) (e : Event) (s : Phase) (es : Trace) → is_poll f e ≡ false → is_answer f e ≡ false →
    count_by (is_answer f) es ≤ count_by (is_poll f) es + left s →
    count_by (is_answer f) (e ∷ es) ≤ count_by (is_poll f) (e ∷ es) + left s
few-other f e s es a b h = omega (
  arith,
  h,
  count-cons (is_answer f) e es,
  count-cons (is_poll f) e es,
  none (is_poll f e) a,
  none (is_answer f e) b,
)
  where
    none : (b : Bool) → b ≡ false → cond {A = ℕ} b 1 0 ≡ 0
    none false z = refl
    none true z = absurd (cc)

few : (f : ℕ) (es : Trace) (s : Phase) → Few f s es
few f [] s h = omega arith
few f (Event.PollBegun p g ∷ es) s h = omega (
  arith,
  few-begun f (eqb f g) s es (few f es) h,
  count-cons (is_answer f) (Event.PollBegun p g) es,
  count-cons (is_poll f) (Event.PollBegun p g) es,
)
few f (Event.Answered p g a ∷ es) s h = omega (
  arith,
  few-answered f a (eqb f g) s es (few f es) h,
  count-cons (is_answer f) (Event.Answered p g a) es,
  count-cons (is_poll f) (Event.Answered p g a) es,
)
few f (Event.Dropped p g ∷ es) s h =
    few-other f (Event.Dropped p g) s es refl refl (few-dropped f (eqb f g) s es (few f es) h)
few f (e ∷ es) s h = few-other f e s es refl refl (few f es s h)

unpolled : (f : ℕ) (e : Event) → is_given_up f e ≡ true → is_poll f e ≡ false
unpolled f (Event.PollBegun p g) z = absurd (cc)
unpolled f _ z = refl

pub left-alone : (limit : ℕ) (kind : Kind) (n : ℕ) (ts : List Step) (f : ℕ) →
    IsLeftAlone f (run ts (start limit kind n)).world.trace
left-alone limit kind n ts f =
    let es : Trace = (run ts (start limit kind n)).world.trace in
    let k = none-polled limit kind n ts f in
    record {
      unpolled = k;
      answered = omega (
        arith,
        few f es Fresh ((good limit kind n ts).sound f).lawful,
        all-before (is_given_up f) (is_poll f) (unpolled f) es k,
      );
    }
