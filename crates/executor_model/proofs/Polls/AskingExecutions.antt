-- For polls_are_asked_for.
-- In each execution a future is woken between two polls, and who is asked for is scheduled.
use Rattle.std.proofs.Common.{◌≡◌, ◌≢◌, ◌⊎◌, ℕ, ◌<◌, ◌≤◌, List, [], ◌∷◌, ◌++◌, length, subst, inl, inr, arith}
use Rattle.std.specs.Prelude.{reverse}
use Rattle.executor_model.proofs.Types.{Kind, Reply, Event, Hold, Op, Move, Step}
use Rattle.executor_model.specs.{Trace.Trace, World.World, World.Done, World.done, World.log, Weights.past, Sound.Pend}
use Rattle.executor_model.specs.{Sound.pend, Sound.with_ops, Sound.phase, Sound.Phase.Over, Sound.Phase.Broken, Good.Good}
use Rattle.executor_model.specs.{Rows.past_of, Steps.Machine, Steps.stack, Steps.run, Steps.start}
use Rattle.executor_model.proofs.Steps.Lift.{split, unsettled, good-start}
use Rattle.executor_model.proofs.OneFuture.Extras.{Extra, extra, no_extra, waking_of, with_extra}
use Rattle.executor_model.proofs.Table.LeavingExecutions.{Placed, placed-moves, placed-ends, placed-start}
use Rattle.executor_model.proofs.Polls.Asking.{Grounds, grounded, Asked}
use Rattle.executor_model.proofs.OneFuture.EffectsWays.{effects-way, ended, lifted, view, view-start}
use Rattle.executor_model.proofs.{Steps.Lists.past_is, Steps.Ways.Way, Steps.Ways.along, Polls.Lawful.dropped-over}
use Rattle.executor_model.proofs.{OneFuture.Stories.story, OneFuture.Telling.counted-drop, OneFuture.Requests.request-none}
use Rattle.executor_model.proofs.{OneFuture.Views.none, OneFuture.Views.seen, Counts.SoundAll.sure-of}
use Rattle.executor_model.proofs.{OneFuture.Passing.goes-end, Polls.AskingViews.asked-passes, Polls.AskingAll.asked-act}

pub record Heard (s : Machine) : Type 0 where
  pub placed : Placed s
  pub asked : (g : ℕ) → Asked (view s g)

-- the future of a Runnable that is dropped was dropped

below : (n f : ℕ) → past n f ≡ 0 → f < n
below n f e = grind (arith, past_is)

over-or-broken : (f : ℕ) (es : Trace) → phase f es ≢ Broken → (phase f es ≡ Over) ⊎ (phase f es ≡ Broken) →
    phase f es ≡ Over
over-or-broken f es n (inl e) = e
over-or-broken f es n (inr e) = absurd (n e)

was-dropped : (s : Machine) (p f : ℕ) (rest : List Op) → p < length s.parties →
    stack s p ≡ rest ++ reverse (Op.Move Move.DropRunnable f ∷ []) → Good s → Placed s → phase f s.world.trace ≡ Over
was-dropped s p f rest l e good h =
    let k : _ = (h.leaves f).left
    (omega (arith, split waking_of s.parties p (Op.Move Move.DropRunnable f ∷ []) rest l e)) in
    let i : f < length s.world.tasks =
    below _ f
    (omega (arith, good.ops, split (past_of (length s.world.tasks)) s.parties p (Op.Move Move.DropRunnable f ∷ []) rest l e)) in
    let n : 1 ≤ (story f s.world.trace).fallen =
    omega (arith, ((h.leaves f).swept k.0 k.1.0).1, k.1.1, (h.leaves f).known i) in
    over-or-broken f s.world.trace (good.sound f).lawful (dropped-over f s.world.trace (counted-drop f s.world.trace n))

-- every step

pub heard-moves : (s : Machine) (p : ℕ) (old rest : List Op) (d : Done) → Good s → p < length s.parties →
    stack s p ≡ rest ++ reverse old → Way s p old rest d → Heard s → Heard (unsettled s p rest d)
heard-moves s p old rest d good l e way h = record {
  placed = placed-moves s p old rest d good l e way h.placed;
  asked = lifted Grounds Asked s p old rest l e d
      (λ g b k. asked-act s.world s.parties old d
      (λ f q. was-dropped s p f rest l (subst (λ (os : List Op). stack s p ≡ rest ++ reverse os) q e) good h.placed)
      (effects-way s p old rest d good l e way) g _ _ b k)
      (λ g. grounded (view s g) (sure-of s.world g (pend g s.parties) (extra g s.parties) (good.sound g))
      (h.placed.leaves g)) h.asked;
}

asked-end : (w : World) (p : ℕ) (a : Reply) (held : Hold) (g : ℕ) (r : Pend) (y : Extra) →
    Asked (seen w g (with_ops g (Op.End a held ∷ []) r) (with_extra g (Op.End a held ∷ []) y)) →
    Asked (seen (log w (Event.CallEnded p a)) g (with_ops g [] r) (with_extra g [] y))
asked-end w p a held g r y h = asked-passes _ _ (goes-end p w a held g r y).passes h

pub heard-ends : (s : Machine) (p : ℕ) (a : Reply) (held : Hold) (below : List Op) → p < length s.parties →
    stack s p ≡ below ++ reverse (Op.End a held ∷ []) → Heard s →
    Heard (unsettled s p below (done (log s.world (Event.CallEnded p a)) []))
heard-ends s p a held below l e h = record {
  placed = placed-ends s p a held below l e h.placed;
  asked = ended Asked s p a held below l e (asked-end s.world p a held) h.asked;
}

pub heard-start : (limit : ℕ) (kind : Kind) (n : ℕ) → Heard (start limit kind n)
heard-start limit kind n =
    record { placed = placed-start limit kind n; asked = λ g. view-start Asked limit kind n g (none-asked limit kind g) }
  where
    none-asked : (limit : ℕ) (kind : Kind) (g : ℕ) → Asked (seen (start limit kind 0).world g none no_extra)
    none-asked limit kind g = grind (arith, request-none)

pub heard : (limit : ℕ) (kind : Kind) (n : ℕ) (ts : List Step) → Heard (run ts (start limit kind n))
heard limit kind n ts = along Heard heard-moves heard-ends ts (start limit kind n) (good-start limit kind n) (heard-start limit kind n)
