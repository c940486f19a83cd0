-- For all laws of one future.
-- Each way in which a party goes on has one effect on each future; and what such an effect keeps of the view of each future
-- (proofs/OneFuture/Views), each step of the machine keeps.
use Rattle.std.proofs.Common.{◌≡◌, ℕ, ◌<◌, List, [], ◌∷◌, ◌++◌, length, set, false, true, ◌&&◌, ◌||◌, not, refl, sym, subst}
use Rattle.std.{proofs.Common.arith, specs.Prelude.Option, specs.Prelude.reverse}
use Rattle.executor_model.proofs.Types.{Move, Kind, Call, Reply, Answer, Event, ClosingOp, Hold, Op, TableOp, UserOp, Waker}
use Rattle.executor_model.specs.Steps.{Machine, run, stack, mine, top, accepts, begun, react, is_drop, idle, is_on_executor}
use Rattle.executor_model.specs.World.{World, Done, done, log}
use Rattle.executor_model.specs.{Sound.Pend, Sound.pend, Sound.with_ops, Good.Good, Rows.past_of, Rows.borrowing_of}
use Rattle.executor_model.specs.{Steps.is_unused, Steps.start, Weights.weigh, Weights.weigh_all}
use Rattle.executor_model.proofs.Steps.Lift.{split, split-pend, push-pend, unsettled, none_refused, open_executor, unborrowed}
use Rattle.executor_model.proofs.Steps.Lift.{unused, weigh_all-idle, good-start}
use Rattle.executor_model.proofs.Steps.Ways.Way.{acted, reacted, called}
use Rattle.executor_model.proofs.OneFuture.Extras.{Extra, extra, extra-by, extra-none, no_extra, with_extra}
use Rattle.executor_model.proofs.OneFuture.Views.{Seen, seen, none}
use Rattle.executor_model.proofs.OneFuture.EffectsCalls.{by_call, goes-begun}
use Rattle.executor_model.proofs.{Types.Step, Types.UserEnd, Steps.Lists.weigh_all-push, Steps.Growing.pend-none}
use Rattle.executor_model.proofs.{Steps.Ways.Way, Steps.Ways.along, Counts.SoundAll.sure-of, Counts.SoundViews.Sure}
use Rattle.executor_model.proofs.{OneFuture.Effects.Effect, OneFuture.Effects.effect-act, OneFuture.Effects.passed}

-- in a machine of this world and these parties
pub data Effects (w : World) (ss : List (List Op)) : List Op → Done → Type 0 where
  does : {old : List Op} {d : Done} → Effect w old d → Effects w ss old d
  -- the future that is polled answers that it is pending, or ready
  pends : (p f : ℕ) → Effects w ss (Op.User (UserOp.Poll f) ∷ [])
      (done (log w (Event.Answered p f Answer.Pending)) (Op.Table (TableOp.PutBack f) ∷ []))
  readies : (p f : ℕ) → Effects w ss (Op.User (UserOp.Poll f) ∷ [])
      (done (log w (Event.Answered p f Answer.Ready)) (Op.User (UserOp.BeginDrop f) ∷ Op.Move Move.EndReady f ∷ []))
  -- the drop of the executor begins, where no call uses it
  closes : (p : ℕ) → w.gone ≡ false → weigh_all borrowing_of ss ≡ 0 → Effects w ss []
      (done (log (record (log w (Event.CallBegun p Call.DropExecutor)) { gone = true }) (Event.DropBegun p))
      (Op.Closing ClosingOp.TakeOut ∷ Op.End Reply.Done Hold.Nothing ∷ []))

effect-react : (p : ℕ) (o : Op) (u : UserEnd) (w : World) (ss : List (List Op)) → accepts o u ≡ true →
    Effects w ss (o ∷ []) (react p o u w)
effect-react p (Op.User (UserOp.Poll f)) (UserEnd.Polled Answer.Pending) w ss a = pends p f
effect-react p (Op.User (UserOp.Poll f)) (UserEnd.Polled Answer.Ready) w ss a = readies p f
effect-react p (Op.User (UserOp.Drop f)) UserEnd.Done w ss a = does (passed (λ g r y. grind arith))
effect-react p (Op.User (UserOp.DropOutput f)) UserEnd.Done w ss a = does (passed (λ g r y. grind arith))
effect-react p (Op.User (UserOp.CallOutside x)) UserEnd.Done w ss a = does (passed (λ g r y. grind arith))
effect-react p (Op.User (UserOp.PollOwn x)) (UserEnd.Polled Answer.Pending) w ss a = does (passed (λ g r y. grind arith))
effect-react p (Op.User (UserOp.PollOwn x)) (UserEnd.Polled Answer.Ready) w ss a = does (passed (λ g r y. grind arith))
effect-react p (Op.User (UserOp.DropOwn r)) UserEnd.Done w ss a = does (passed (λ g r y. grind arith))
effect-react p _ _ w ss a = absurd (cc)

effect-begun : (p : ℕ) (w : World) (ss : List (List Op)) (here : Option Waker) (c : Call) →
    not (w.gone && is_on_executor c) ≡ true → (not (is_drop c) || is_unused borrowing_of ss) ≡ true →
    Effects w ss [] (begun p (log w (Event.CallBegun p c)) here c)
effect-begun p w ss here = by_call _
    (λ on un. closes p (open_executor w Call.DropExecutor refl on) (unborrowed (weigh_all borrowing_of ss) un))
    (λ c d on un. does (passed (goes-begun p w here c d (λ e. open_executor w c e on))))

-- the futures that it speaks of are there
op-known : (s : Machine) (p : ℕ) (o : Op) (rest : List Op) → p < length s.parties →
    stack s p ≡ rest ++ reverse (o ∷ []) → Good s → weigh (past_of (length s.world.tasks)) (o ∷ []) ≡ 0
op-known s p o rest l e good =
    omega (arith, good.ops, split (past_of (length s.world.tasks)) s.parties p (o ∷ []) rest l e)

pub effects-way : (s : Machine) (p : ℕ) (old rest : List Op) (d : Done) → Good s → p < length s.parties →
    stack s p ≡ rest ++ reverse old → Way s p old rest d → Effects s.world s.parties old d
effects-way s p old rest d good l e (acted h o q z) =
    rw z (rw q (does (effect-act p h o s.world good.fits.awaiting good.fits.waking
    (op-known s p o rest l (subst (λ (os : List Op). stack s p ≡ rest ++ reverse os) q e) good))))
effects-way s p old rest d good l e (reacted o u a q z) = rw z (rw q (effect-react p o u s.world s.parties a))
effects-way s p old rest d good l e (called c q r n z) =
    let f : _ = none_refused s.world s.parties (top (stack s p)) c n in
    rw z (rw q (effect-begun p s.world s.parties (mine (top (stack s p))) c f.2 (unused c s.world s.parties f.3)))

-- what is seen of a future in the machine, and where p has these to do beside what all others have

abbrev pub view : Machine → ℕ → Seen
view s g = seen s.world g (pend g s.parties) (extra g s.parties)

abbrev pub view_with : List (List Op) → World → List Op → ℕ → Seen
view_with others w os g = seen w g (with_ops g os (pend g others)) (with_extra g os (extra g others))

module _ (F P : Seen → Type 0) (s : Machine) (p : ℕ) (old rest : List Op) (l : p < length s.parties)
    (e : stack s p ≡ rest ++ reverse old) where
  view-split : (g : ℕ) → view s g ≡ view_with (set s.parties p rest) s.world old g
  view-split g = λ t. seen s.world g (split-pend g s.parties p old rest l e t)
      (extra-by g s.parties (set s.parties p rest) old (λ v. split v s.parties p old rest l e) t)

  view-push : (d : Done) (g : ℕ) →
      view (unsettled s p rest d) g ≡ view_with (set s.parties p rest) d.world d.next g
  view-push d g = λ t. seen d.world g (push-pend g s.parties p rest d.next l t)
      (extra-by g (set s.parties p (rest ++ reverse d.next)) (set s.parties p rest) d.next
      (λ v. weigh_all-push v s.parties p rest d.next l) t)

  pub lifted : (d : Done) →
      ((g : ℕ) → F (view_with (set s.parties p rest) s.world old g) →
      P (view_with (set s.parties p rest) s.world old g) → P (view_with (set s.parties p rest) d.world d.next g)) →
      ((g : ℕ) → F (view s g)) → ((g : ℕ) → P (view s g)) → (g : ℕ) → P (view (unsettled s p rest d) g)
  lifted d k f h g = subst P (sym (view-push d g)) (k g (subst F (view-split g) (f g)) (subst P (view-split g) (h g)))

-- and where a call ends, and none has begun

pub ended : (P : Seen → Type 0) (s : Machine) (p : ℕ) (a : Reply) (held : Hold) (below : List Op) → p < length s.parties →
    stack s p ≡ below ++ reverse (Op.End a held ∷ []) →
    ((g : ℕ) (r : Pend) (y : Extra) →
    P (seen s.world g (with_ops g (Op.End a held ∷ []) r) (with_extra g (Op.End a held ∷ []) y)) →
    P (seen (log s.world (Event.CallEnded p a)) g (with_ops g [] r) (with_extra g [] y))) →
    ((g : ℕ) → P (view s g)) → (g : ℕ) →
    P (view (unsettled s p below (done (log s.world (Event.CallEnded p a)) [])) g)
ended P s p a held below l e k h =
    lifted (λ x. Unit {0}) P s p (Op.End a held ∷ []) below l e (done (log s.world (Event.CallEnded p a)) [])
    (λ g b q. k g _ _ q) (λ g. tt) h

pub view-start : (P : Seen → Type 0) (limit : ℕ) (kind : Kind) (n g : ℕ) → P (seen (start limit kind 0).world g none no_extra) →
    P (view (start limit kind n) g)
view-start P limit kind n g h = subst P
    (sym (λ t. seen (start limit kind n).world g (pend-none g (idle n) (λ v. weigh_all-idle v n) t)
    (extra-none g (idle n) (λ v. weigh_all-idle v n) t))) h

-- What holds of each future at the start, and what each of these effects and the end of a call keep, holds in each run.
module _ (P : Seen → Type 0)
    (act : (w : World) (ss : List (List Op)) (old : List Op) (d : Done) → Effects w ss old d →
    (g : ℕ) (r : Pend) (y : Extra) →
    Sure (seen w g (with_ops g old r) (with_extra g old y)) → P (seen w g (with_ops g old r) (with_extra g old y)) →
    P (seen d.world g (with_ops g d.next r) (with_extra g d.next y)))
    (end_kept : (w : World) (p : ℕ) (a : Reply) (held : Hold) (g : ℕ) (r : Pend) (y : Extra) →
    P (seen w g (with_ops g (Op.End a held ∷ []) r) (with_extra g (Op.End a held ∷ []) y)) →
    P (seen (log w (Event.CallEnded p a)) g (with_ops g [] r) (with_extra g [] y)))
    (first : (limit : ℕ) (kind : Kind) (g : ℕ) → P (seen (start limit kind 0).world g none no_extra)) where
  moves-kept : (s : Machine) (p : ℕ) (old rest : List Op) (d : Done) → Good s → p < length s.parties →
      stack s p ≡ rest ++ reverse old → Way s p old rest d → ((g : ℕ) → P (view s g)) → (g : ℕ) →
      P (view (unsettled s p rest d) g)
  moves-kept s p old rest d good l e way h =
      lifted Sure P s p old rest l e d
      (λ g b k. act s.world s.parties old d (effects-way s p old rest d good l e way) g _ _ b k)
      (λ g. sure-of s.world g (pend g s.parties) (extra g s.parties) (good.sound g)) h

  pub each-run : (limit : ℕ) (kind : Kind) (n : ℕ) (ts : List Step) (g : ℕ) → P (view (run ts (start limit kind n)) g)
  each-run limit kind n ts = along (λ (s : Machine). (g : ℕ) → P (view s g)) moves-kept
      (λ s p a held below l e h. ended P s p a held below l e (end_kept s.world p a held) h) ts (start limit kind n)
      (good-start limit kind n) (λ g. view-start P limit kind n g (first limit kind g))
