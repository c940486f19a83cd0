-- For cancelled_means_over.
-- What the frame of a poll of a handle still has to say is so, at every moment.
use Rattle.std.proofs.Common.{◌≡◌, ◌⊎◌, inl, ◌∙◌, ⊎_elim, ℕ, ◌<◌, ◌≤◌, List, [], ◌∷◌, ◌++◌, length, true, false, sym, ap, subst}
use Rattle.std.{proofs.Common.arith, specs.Prelude.Option, specs.Prelude.reverse}
use Rattle.executor_laws.proofs.Types.{By, Call, Reply, Event, Kind, Hold, Op, Waker, Step}
use Rattle.executor_model.specs.Steps.{Machine, begun, mine, react, run, stack, start, top}
use Rattle.executor_model.specs.{Calls.Begun, Doing.act, Good.Good, Sound.Pend, Sound.pend, Sound.with_ops, Trace.Trace}
use Rattle.executor_model.specs.{Weights.weigh, World.Done, World.World, World.done, World.log, World.task}
use Rattle.executor_laws.specs.HandleAnswers.{CancelledMeansOver, GivesNoMore, IsCancelledRight}
use Rattle.executor_model.proofs.OneFuture.EffectsWays.{effects-way, ended, lifted}
use Rattle.executor_model.proofs.OneFuture.Extras.{Extra, extra, with_extra}
use Rattle.executor_model.proofs.OneFuture.Tallies.{readies-push, spent-push}
use Rattle.executor_model.proofs.Outputs.KeepingExecutions.{Stores, stores}
use Rattle.executor_model.proofs.Promises.CallFits.{fit-act, fit-react}
use Rattle.executor_model.proofs.Promises.FrameWays.{frames-end, frames-start, frames-way}
use Rattle.executor_model.proofs.Steps.Ways.Way.{acted, called, reacted}
use Rattle.executor_model.proofs.Table.LeavingExecutions.{Placed, placed-ends, placed-moves, placed-start}
use Rattle.executor_model.proofs.{Counts.SoundAll.sure-of, Counts.SoundViews.Sure, OneFuture.Views.seen, Outputs.Keeping.Stored}
use Rattle.executor_model.proofs.{Outputs.KeepingViews.stored-act, Promises.CallFrames.Frames, Promises.CallServes.misfit}
use Rattle.executor_model.proofs.{Quiet.Calls.is_end, Quiet.CallsDone.fit-begun, Steps.Lift.good-start, Steps.Lift.unsettled}
use Rattle.executor_model.proofs.{Steps.Lists.weigh-append, Steps.Ways.Way, Steps.Ways.along}
use Rattle.executor_laws.proofs.Cancels.NoMore.{cancelled_of, closed-why, more-later, none-react, says-act}

record Owing (es : Trace) (c : Call) (os : List Op) : Type 0 where
  pub fits : weigh (misfit c) os ≡ 0
  pub why : (f : ℕ) (b : By) → c ≡ Call.PollHandle f b → 1 ≤ weigh cancelled_of os → GivesNoMore f es

abbrev Owes : Trace → Begun → List Op → Type 0
Owes es b os = Owing es b.call os

owes-later : (es more : Trace) (b : Begun) (os : List Op) → Owes es b os → Owes (es ++ more) b os
owes-later es more b os h =
    record { fits = h.fits; why = λ f x e n. more-later f es more (h.why f x e n) }

owes-right : (es : Trace) (b : Begun) (a : Reply) (held : Hold) → Owes es b (Op.End a held ∷ []) →
    IsCancelledRight (record { call = b.call; own = b.own; reply = a; past = es })
owes-right es b a held h f x e i = h.why f x e
    (let z : cancelled_of (Op.End a held) ≡ 1 = ap (λ (r : Reply). cancelled_of (Op.End r held)) i in omega (arith, z))

-- by one thing that is done, where a task that is closed tells why
module _ (s : Machine) (placed : Placed s) (here : Stores s) where
  owing-on : (c : Call) (o : Op) (below next : List Op) (more : Trace) → (misfit c o ≡ 0 → weigh (misfit c) next ≡ 0) →
      ((f : ℕ) (b : By) → c ≡ Call.PollHandle f b → misfit c o ≡ 0 →
      (weigh cancelled_of next ≡ 0) ⊎ ((task s.world f).closed ≡ true)) →
      Owing s.world.trace c (o ∷ below) → Owing (s.world.trace ++ more) c (next ++ below)
  owing-on c o below next more k j h = record {
    fits = omega (arith, weigh-append (misfit c) next below, k (omega (arith, h.fits)), h.fits);
    why = λ f b e n. more-later f s.world.trace more (⊎_elim
        (λ (z : weigh cancelled_of next ≡ 0).
        h.why f b e (omega (arith, z, n, weigh-append cancelled_of next below)))
        (λ (z : (task s.world f).closed ≡ true). closed-why s f placed (here f) z)
        (j f b e (omega (arith, h.fits))));
  }

  owing-way : (p : ℕ) (old rest : List Op) (d : Done) → Way s p old rest d → (o : Op) → old ≡ o ∷ [] → is_end o ≡ false →
      (more : Trace) (c : Call) (below : List Op) → Owing s.world.trace c (o ∷ below) →
      Owing (s.world.trace ++ more) c (d.next ++ below)
  owing-way p old rest d (acted h x q z) o e n more c below k =
      let i : x ≡ o = (let y : x ∷ [] ≡ o ∷ [] = sym q ∙ e in cc) in
      let m : is_end x ≡ false = ap is_end i ∙ n in
      subst (λ (y : Done). Owing (s.world.trace ++ more) c (y.next ++ below)) (sym z)
      (owing-on c x below (act p h x s.world).next more (fit-act c p h x s.world m)
      (λ f b j y. says-act p h x s.world f b m (ap (λ (v : Call). misfit v x) (sym j) ∙ y))
      (subst (λ (y : Op). Owing s.world.trace c (y ∷ below)) (sym i) k))
  owing-way p old rest d (reacted x u a q z) o e n more c below k =
      let i : x ≡ o = (let y : x ∷ [] ≡ o ∷ [] = sym q ∙ e in cc) in
      subst (λ (y : Done). Owing (s.world.trace ++ more) c (y.next ++ below)) (sym z)
      (owing-on c x below (react p x u s.world).next more (fit-react c p x u s.world a)
      (λ f b j y. inl (none-react p x u s.world a))
      (subst (λ (y : Op). Owing s.world.trace c (y ∷ below)) (sym i) k))
  owing-way p old rest d (called c q r n z) o e m more x below k =
      let no : [] ≡ o ∷ [] = sym q ∙ e in absurd (cc)

none-begun : (p : ℕ) (w : World) (here : Option Waker) (c : Call) (f : ℕ) (b : By) → c ≡ Call.PollHandle f b →
    weigh cancelled_of (begun p w here c).next ≡ 0
none-begun p w here c f b e = ap (λ (x : Call). weigh cancelled_of (begun p w here x).next) e

-- at every moment

record Held (s : Machine) : Type 0 where
  pub placed : Placed s
  pub stored : Stores s
  pub frames : Frames Owes owes-later IsCancelledRight s

held-moves : (s : Machine) (p : ℕ) (old rest : List Op) (d : Done) → Good s → p < length s.parties →
    stack s p ≡ rest ++ reverse old → Way s p old rest d → Held s → Held (unsettled s p rest d)
held-moves s p old rest d good l e way h = record {
  placed = placed-moves s p old rest d good l e way h.placed;
  stored = lifted Sure Stored s p old rest l e d
      (λ g b k. stored-act s.world s.parties old d (effects-way s p old rest d good l e way) g _ _ b k)
      (λ g. sure-of s.world g (pend g s.parties) (extra g s.parties) (good.sound g)) h.stored;
  frames = frames-way Owes owes-later IsCancelledRight owes-right s p old rest d l e h.frames
      (λ o q n more t b below x. owing-way s h.placed h.stored p old rest d way o q n more b.call below x)
      (λ c q a more z t.
      let w : World = log s.world (Event.CallBegun p c) in
      subst (λ (x : Done). Owing ((s.world.trace ++ Event.CallBegun p c ∷ []) ++ more) c x.next) (sym z) (record {
        fits = fit-begun p w (mine (top (stack s p))) c;
        why = λ f b i n. absurd (omega (arith, n, none-begun p w (mine (top (stack s p))) c f b i));
      })) way;
}

stored-end : (w : World) (p : ℕ) (a : Reply) (held : Hold) (g : ℕ) (r : Pend) (y : Extra) →
    Stored (seen w g (with_ops g (Op.End a held ∷ []) r) (with_extra g (Op.End a held ∷ []) y)) →
    Stored (seen (log w (Event.CallEnded p a)) g (with_ops g [] r) (with_extra g [] y))
stored-end w p a held g r y h = grind (arith, readies-push, spent-push)

held-ends : (s : Machine) (p : ℕ) (a : Reply) (held : Hold) (below : List Op) → p < length s.parties →
    stack s p ≡ below ++ reverse (Op.End a held ∷ []) → Held s →
    Held (unsettled s p below (done (log s.world (Event.CallEnded p a)) []))
held-ends s p a held below l e h = record {
  placed = placed-ends s p a held below l e h.placed;
  stored = ended Stored s p a held below l e (stored-end s.world p a held) h.stored;
  frames = frames-end Owes owes-later IsCancelledRight owes-right s p a held below l e h.frames;
}

held-start : (limit : ℕ) (kind : Kind) (n : ℕ) → Held (start limit kind n)
held-start limit kind n = record {
  placed = placed-start limit kind n;
  stored = stores limit kind n [];
  frames = frames-start Owes owes-later IsCancelledRight owes-right limit kind n;
}

pub cancelled-over : (limit : ℕ) (kind : Kind) (n : ℕ) (ts : List Step) (q : ℕ) →
    CancelledMeansOver q (run ts (start limit kind n)).world.trace
cancelled-over limit kind n ts q =
    (along Held held-moves held-ends ts (start limit kind n) (good-start limit kind n) (held-start limit kind n)).frames.right q
