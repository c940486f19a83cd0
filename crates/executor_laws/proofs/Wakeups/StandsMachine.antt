-- For some_standing_is_called.
-- After each list of steps what holds of each tick and run holds still.
use Rattle.std.proofs.Common.{◌≡◌, ◌∙◌, ℕ, zero, suc, ◌<◌, List, [], ◌∷◌, ◌++◌, length, get_or, Bool, true, false, refl, sym}
use Rattle.std.{proofs.Common.ap, proofs.Common.subst, proofs.Common.arith, specs.Prelude.reverse}
use Rattle.executor_model.specs.Steps.{Machine, stack, run, start, top, idle}
use Rattle.executor_model.specs.{World.Done, Doing.act, Good.Good}
use Rattle.executor_model.proofs.Sleepers.SleepersFollowingExecutions.{Followed, followed-moves, followed-start}
use Rattle.executor_model.proofs.OwnQueues.UsingSteps.{AllUsed, used-moves, used-start}
use Rattle.executor_model.proofs.Steps.Lift.{unsettled, good-start, none_refused}
use Rattle.executor_model.proofs.Steps.Ways.Way.{acted, reacted, called}
use Rattle.executor_model.proofs.{Quiet.Calls.is_end, Steps.Ways.Way, Steps.Ways.along}
use Rattle.executor_laws.proofs.Wakeups.StandsWeights.{nothing_done, idle-doing}
use Rattle.executor_laws.proofs.Wakeups.StandsMoves.{standing-acted, standing-begun, standing-reacted}
use Rattle.executor_laws.proofs.Wakeups.Stands.{view, Doing, Stands}
use Rattle.executor_laws.proofs.{Types.Kind, Types.Op, Types.Hint, Types.Step, Types.TickOrRun, Wakeups.StandsEnds.marked}
use Rattle.executor_laws.proofs.{Wakeups.StandsTied.IsTied, Wakeups.StandsTied.tied-nil, Wakeups.Watched.Watched}
use Rattle.executor_laws.proofs.{Wakeups.Watched.watched-none, Wakeups.StandsSteps.Standing, Wakeups.StandsLast.standing-ends}

-- every step

acted-by : (s : Machine) (p : ℕ) (rest : List Op) (h : Hint) (o : Op) (b : Bool) → is_end o ≡ b → p < length s.parties →
    stack s p ≡ rest ++ reverse (o ∷ []) → Good s → Followed (unsettled s p rest (act p h o s.world)) →
    AllUsed (unsettled s p rest (act p h o s.world)) → Standing s →
    Standing (unsettled s p rest (act p h o s.world))
acted-by s p rest h o false n l e good follows uses k = standing-acted s p rest h o n l e good follows uses k
acted-by s p rest h (Op.End a held) true n l e good follows uses k = standing-ends s p a held rest l e k
acted-by s p rest h _ true n l e good follows uses k = absurd (cc)

standing-way : (s : Machine) (p : ℕ) (old rest : List Op) (d : Done) → Good s → p < length s.parties →
    stack s p ≡ rest ++ reverse old →
    Way s p old rest d → Followed (unsettled s p rest d) → AllUsed (unsettled s p rest d) → Standing s →
    Standing (unsettled s p rest d)
standing-way s p old rest d good l e (acted h o q z) follows uses k =
    rw z (acted-by s p rest h o (is_end o) refl l (subst (λ (os : List Op). stack s p ≡ rest ++ reverse os) q e) good
    (subst (λ (x : Done). Followed (unsettled s p rest x)) z follows)
    (subst (λ (x : Done). AllUsed (unsettled s p rest x)) z uses) k)
standing-way s p old rest d good l e (reacted o u a q z) follows uses k =
    rw z (standing-reacted s p rest o u a l (subst (λ (os : List Op). stack s p ≡ rest ++ reverse os) q e)
    (subst (λ (x : Done). Followed (unsettled s p rest x)) z follows)
    (subst (λ (x : Done). AllUsed (unsettled s p rest x)) z uses) k)
standing-way s p old rest d good l e (called c q r n z) follows uses k =
    let f : _ = none_refused s.world s.parties (top (stack s p)) c n in
    rw z (standing-begun s p rest c f.1 f.3 l r (subst (λ (os : List Op). stack s p ≡ rest ++ reverse os) q e)
    (subst (λ (x : Done). Followed (unsettled s p rest x)) z follows)
    (subst (λ (x : Done). AllUsed (unsettled s p rest x)) z uses) k)

pub standing-moves : (s : Machine) (p : ℕ) (old rest : List Op) (d : Done) → Good s → p < length s.parties →
    stack s p ≡ rest ++ reverse old → Way s p old rest d → Standing s → Standing (unsettled s p rest d)
standing-moves s p old rest d good l e w k =
    standing-way s p old rest d good l e w (followed-moves s p old rest d good l e w k.followed)
    (used-moves s p old rest d good l e w k.used) k

idle-stack : (n q : ℕ) → get_or (idle n) q [] ≡ []
idle-stack zero q = refl
idle-stack (suc n) zero = refl
idle-stack (suc n) (suc q) = idle-stack n q

none-stands : (kind : Kind) (t : TickOrRun) →
    Stands (view t (start 0 kind 0).world) nothing_done (marked (view t (start 0 kind 0).world) nothing_done)
none-stands kind (TickOrRun.Tick t) = grind (arith, watched-none)
none-stands kind (TickOrRun.Run r) = grind (arith, watched-none)

pub standing-start : (limit : ℕ) (kind : Kind) (n : ℕ) → Standing (start limit kind n)
standing-start limit kind n = record {
  followed = followed-start limit kind n;
  used = used-start limit kind n;
  tied = λ t q. subst (IsTied t) (sym (idle-stack n q)) (tied-nil t);
  stands = λ t. subst
      (λ (x : Doing). Stands (view t (start limit kind n).world) x (marked (view t (start limit kind n).world) x))
      (sym (idle-doing t n)) (none-stands kind t);
  held = λ t b. let no : false ≡ true = sym (ap (λ (w : Watched). w.asking) (watched-none t)) ∙ b in absurd (cc);
}

pub standing : (limit : ℕ) (kind : Kind) (n : ℕ) (ts : List Step) → Standing (run ts (start limit kind n))
standing limit kind n ts = along Standing standing-moves standing-ends ts (start limit kind n) (good-start limit kind n)
    (standing-start limit kind n)
