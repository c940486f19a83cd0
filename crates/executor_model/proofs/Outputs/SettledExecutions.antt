-- For outputs_are_settled.
-- Where no call is in progress, the output of a future that was ready has gone, once, or the next poll of the handle is
-- given it.
use Rattle.std.proofs.Common.{◌≡◌, ◌⊎◌, ℕ, ◌+◌, ◌≤◌, List, [], ◌∷◌, true, false, inl, inr, ⊎_elim, arith}
use Rattle.executor_model.proofs.Types.{Kind, Reply, Event, Hold, Op, Step}
use Rattle.executor_model.specs.OutputSettled.{CanTake, HasGone, OutputIsSettled}
use Rattle.executor_model.specs.{OutputOnce.OutputGoesOnce, Rows.handling_of, Rows.ready_of, Sound.Pend, Sound.pend}
use Rattle.executor_model.specs.{Sound.with_ops, Steps.Machine, Steps.run, Steps.stack, Steps.start, Trace.Trace, Trace.has}
use Rattle.executor_model.specs.{Trace.is_ready, Weights.weigh_all, World.World, World.log, World.task}
use Rattle.executor_model.proofs.OneFuture.Extras.{Extra, extra, no_extra, outs_of, storing_of, taking_of, telling_of}
use Rattle.executor_model.proofs.OneFuture.EffectsWays.{each-run, view}
use Rattle.executor_model.proofs.OneFuture.Tallies.{outputs, outputs-none, outputs-push, readies, readies-none, readies-push}
use Rattle.executor_model.proofs.Outputs.KeepingExecutions.{Stores, stores}
use Rattle.executor_model.proofs.Outputs.OutputKept.{Waits, gives-output, no-true}
use Rattle.executor_model.proofs.Outputs.Settled.{Settled, settle-act}
use Rattle.executor_model.proofs.Quiet.Resting.{Deep, all-rest, deep, rests}
use Rattle.executor_model.proofs.{OneFuture.Extras.with_extra, OneFuture.Telling.counted-there, OneFuture.Views.none}
use Rattle.executor_model.proofs.{OneFuture.Views.seen, Outputs.OutputExecutions.output-goes-once}

settled-end : (w : World) (p : ℕ) (a : Reply) (held : Hold) (g : ℕ) (r : Pend) (y : Extra) →
    Settled (seen w g (with_ops g (Op.End a held ∷ []) r) (with_extra g (Op.End a held ∷ []) y)) →
    Settled (seen (log w (Event.CallEnded p a)) g (with_ops g [] r) (with_extra g [] y))
settled-end w p a held g r y h = grind (arith, outputs-push, readies-push)

none-settled : (limit : ℕ) (kind : Kind) (g : ℕ) → Settled (seen (start limit kind 0).world g none no_extra)
none-settled limit kind g = grind (arith, outputs-none, readies-none)

settles : (limit : ℕ) (kind : Kind) (n : ℕ) (ts : List Step) (g : ℕ) → Settled (view (run ts (start limit kind n)) g)
settles limit kind n ts = each-run Settled settle-act settled-end none-settled limit kind n ts

was-ready : (f : ℕ) (es : Trace) → has (is_ready f) es ≡ true → 1 ≤ readies f es
unfolding readies
was-ready f es h = counted-there (is_ready f) es h

has-gone : (f : ℕ) (es : Trace) → 1 ≤ outputs f es → OutputGoesOnce f es → HasGone f es
unfolding outputs
has-gone f es n h = omega (arith, n, h)

module _ (s : Machine) (f : ℕ) (idle : (q : ℕ) → stack s q ≡ []) (h : Stores s) (k : Settled (view s f))
    (once : OutputGoesOnce f s.world.trace) (quiet : has (is_ready f) s.world.trace ≡ true) where
  nothing : weigh_all (outs_of f) s.parties ≡ 0
  nothing = all-rest (outs_of f) s.parties idle

  waits : (task s.world f).completed ≡ true → (task s.world f).closed ≡ false →
      (task s.world f).handle ≡ true → Waits s.world f
  waits a b c = record {
    completed = a;
    unclosed = b;
    handle = c;
    unawaited = no-true (task s.world f).awaiter
        (λ x. absurd (omega (
          arith,
          (h f).watched.told a x,
          all-rest (telling_of f) s.parties idle,
          all-rest (taking_of f) s.parties idle,
          all-rest (storing_of f) s.parties idle,
        )));
  }

  settled : HasGone f s.world.trace ⊎ CanTake s f
  settled = ⊎_elim
      (λ (x : 1 ≤ outputs f s.world.trace + (extra f s.parties).outs).
      inl (has-gone f s.world.trace (omega (arith, x, nothing)) once))
      (λ (x : (1 ≤ (pend f s.parties).ready)
      ⊎ (((task s.world f).completed ≡ true)
      × (((task s.world f).closed ≡ false) × ((task s.world f).handle ≡ true)))). ⊎_elim
      (λ (y : 1 ≤ (pend f s.parties).ready). absurd (omega (arith, y, all-rest (ready_of f) s.parties idle)))
      (λ (y : ((task s.world f).completed ≡ true)
      × (((task s.world f).closed ≡ false) × ((task s.world f).handle ≡ true))).
      inr (λ p o t l. gives-output s p f o l (idle p) (waits y.0 y.1.0 y.1.1)
      (all-rest (handling_of f) s.parties idle) t)) x)
      (k.somewhere (was-ready f s.world.trace quiet))

pub output-settled : (limit : ℕ) (kind : Kind) (n : ℕ) (ts : List Step) (f : ℕ) → OutputIsSettled (run ts (start limit kind n)) f
output-settled limit kind n ts f quiet e =
    let s : Machine = run ts (start limit kind n) in
    let d : Deep s = deep limit kind n ts in
    settled s f (λ q. rests s d quiet q) (stores limit kind n ts) (settles limit kind n ts f) (output-goes-once limit kind n ts f) e
