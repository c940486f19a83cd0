-- For sleepers_are_told.
-- After every list of steps, where a Runnable stands in one of the executor's queues and a tick or run sleeps,
-- a sleeper is notified or will be told.
use Rattle.std.proofs.Common.{◌≡◌, ℕ, zero, suc, ◌<◌, ◌≤◌, List, [], ◌∷◌, ◌++◌, length, set, refl, subst, arith}
use Rattle.std.specs.Prelude.{reverse}
use Rattle.executor_model.proofs.Types.{Plain, Urgent, Mark, Kind, Reply, Event, Hold, Op, QueueOp, SleeperOp, Step}
use Rattle.executor_model.specs.Steps.{Machine, stack, run, start, mine, top}
use Rattle.executor_model.specs.SleepersAgree.{SleepersAgree, hands_of}
use Rattle.executor_model.specs.SleepersTold.{SleepersAreTold, tells_of}
use Rattle.executor_model.specs.{Good.Good, Weights.weigh, Weights.weigh_all, World.Done, World.done, World.log}
use Rattle.executor_model.proofs.Sleepers.SleepersFollowingExecutions.{Followed, followed-moves, followed-ends, followed-start}
use Rattle.executor_model.proofs.Steps.Ways.{Way, acted, reacted, called, along}
use Rattle.executor_model.proofs.Sleepers.SleepersWakingUp.{WakesUpWell, wakes_up-old, wakes_up_of}
use Rattle.executor_model.proofs.Sleepers.SleepersTelling.{Told, Ground, Tells, tells-act, tells-react, tells-begun, quiet}
use Rattle.executor_model.proofs.{Steps.Lift.split, Steps.Lift.unsettled, Steps.Lift.good-start, Steps.Lists.weigh_all-below}
use Rattle.executor_model.proofs.{Steps.Lists.weigh_all-push, Sleepers.SleepersFollowingExecutions.agrees}

-- who hands out tells
hands-tell : (m : Mark) (o : Op) → hands_of o ≤ tells_of m o
hands-tell m (Op.Sleeper SleeperOp.ExchangeFlag) = omega arith
hands-tell m (Op.Queue QueueOp.TakeTurn) = omega arith
hands-tell m (Op.Queue (QueueOp.Take look)) = omega arith
hands-tell m _ = omega arith

hands-all : (m : Mark) (ss : List (List Op)) → weigh_all hands_of ss ≤ weigh_all (tells_of m) ss
hands-all m = weigh_all-below hands_of (tells_of m) (hands-tell m)

pub record Tell (s : Machine) : Type 0 where
  pub followed : Followed s
  pub told : (m : Mark) → Told m s.world (weigh_all (tells_of m) s.parties)

ground : (s : Machine) → Followed s → Ground s.world (weigh_all hands_of s.parties)
ground s f = let a : SleepersAgree s = agrees s f in record { flag = a.flag; listed = a.listed }

tell-way : (m : Mark) (s : Machine) (p : ℕ) (old rest : List Op) (d : Done) → Way s p old rest d →
    Tells m s.world old d
tell-way m s p old rest d (acted h o q z) = rw (z, q) (tells-act m _ p h o s.world refl)
tell-way m s p old rest d (reacted o u a q z) = rw (z, q) (tells-react m p o u s.world a)
tell-way m s p old rest d (called c q r n z) = rw (z, q) (tells-begun m p s.world (mine (top (stack s p))) c)

-- below who wakes up the same party tells
way-wakes_up : (m : Mark) (s : Machine) (p : ℕ) (old rest : List Op) (d : Done) → Way s p old rest d →
    WakesUpWell (rest ++ reverse old) →
    weigh wakes_up_of old ≤ weigh (tells_of m) rest
way-wakes_up m s p old rest d (acted h o q z) = rw q (λ e. omega (arith, wakes_up-old m rest o e))
way-wakes_up m s p old rest d (reacted o u a q z) = rw q (λ e. omega (arith, wakes_up-old m rest o e))
way-wakes_up m s p old rest d (called c q r n z) = rw q (λ e. omega arith)

-- one stack's part of the sum over all
here : (v : Op → ℕ) (ss : List (List Op)) (p : ℕ) (os : List Op) → p < length ss →
    weigh v os ≤ weigh_all v (set ss p os)
here v [] p os l = absurd (omega (arith, l))
here v (s ∷ ss) zero os l = omega arith
here v (s ∷ ss) (suc p) os l = omega (arith, here v ss p os (omega (arith, l)))

tell-moves : (s : Machine) (p : ℕ) (old rest : List Op) (d : Done) → Good s → p < length s.parties →
    stack s p ≡ rest ++ reverse old → Way s p old rest d → Tell s → Tell (unsettled s p rest d)
tell-moves s p old rest d good l e w h = record {
  followed = followed-moves s p old rest d good l e w h.followed;
  told = λ m. (tell-way m s p old rest d w).on _ _ (weigh_all (tells_of m) (set s.parties p rest)) _
      (weigh_all hands_of (set s.parties p rest)) (split (tells_of m) s.parties p old rest l e)
      (weigh_all-push (tells_of m) s.parties p rest d.next l) (split hands_of s.parties p old rest l e)
      (hands-all m (set s.parties p rest))
      (omega (
        arith,
        way-wakes_up m s p old rest d w (subst WakesUpWell e (h.followed.wakes_up p)),
        here (tells_of m) s.parties p rest l,
      ))
      (ground s h.followed) (h.told m);
}

tell-ends : (s : Machine) (p : ℕ) (a : Reply) (held : Hold) (below : List Op) → p < length s.parties →
    stack s p ≡ below ++ reverse (Op.End a held ∷ []) → Tell s →
    Tell (unsettled s p below (done (log s.world (Event.CallEnded p a)) []))
tell-ends s p a held below l e h = record {
  followed = followed-ends s p a held below l e h.followed;
  told = λ m. (quiet m s.world (log s.world (Event.CallEnded p a)) (Op.End a held ∷ []) [] refl (omega arith) refl).on _ _
      (weigh_all (tells_of m) (set s.parties p below)) _ (weigh_all hands_of (set s.parties p below))
      (split (tells_of m) s.parties p (Op.End a held ∷ []) below l e)
      (weigh_all-push (tells_of m) s.parties p below [] l)
      (split hands_of s.parties p (Op.End a held ∷ []) below l e) (hands-all m (set s.parties p below)) (omega arith)
      (ground s h.followed) (h.told m);
}

told-start : (limit : ℕ) (kind : Kind) (n : ℕ) (m : Mark) →
    Told m (start limit kind n).world (weigh_all (tells_of m) (start limit kind n).parties)
told-start limit kind n Urgent = record { told = λ p q. absurd (omega (arith, p)) }
told-start limit kind n Plain = record { told = λ p q. absurd (omega (arith, p)) }

pub tell : (limit : ℕ) (kind : Kind) (n : ℕ) (ts : List Step) → Tell (run ts (start limit kind n))
tell limit kind n ts = along Tell tell-moves tell-ends ts (start limit kind n) (good-start limit kind n)
    (record { followed = followed-start limit kind n; told = told-start limit kind n })

pub are_told : (limit : ℕ) (kind : Kind) (n : ℕ) (ts : List Step) → SleepersAreTold (run ts (start limit kind n))
are_told limit kind n ts m = ((tell limit kind n ts).told m).told
