-- For keepers_are_called.
-- After each list of steps a future that a run kept last stands in that run's own queue, or somebody has it in hand, or
-- it was ready or dropped, or the run is over.
use Rattle.std.proofs.Common.{◌≡◌, ◌⊎◌, ℕ, zero, suc, ◌<◌, ◌≤◌, List, [], ◌∷◌, ◌++◌, length, Bool, true, false, not, refl}
use Rattle.std.proofs.Common.{subst, inl, inr, ⊎_elim, arith}
use Rattle.std.specs.Prelude.{Option, Some, None, reverse}
use Rattle.executor_laws.proofs.Types.{Move, Call, Reply, Event, Kind, Hold, Op, StealOp, Hint, Step}
use Rattle.executor_model.specs.Steps.{Machine, stack, run, start, begun, has_all, mine, react, top}
use Rattle.executor_model.specs.{Doing.act, Good.Good, OwnQueues.filling_of, Rows.running_of, World.Done, World.done, World.log}
use Rattle.executor_model.proofs.Polls.AskingExecutions.{Heard, heard-ends, heard-moves, heard-start}
use Rattle.executor_model.proofs.Steps.Lift.{first-true, good-start, none_refused, split, unsettled, weigh_all-idle}
use Rattle.executor_model.proofs.OwnQueues.OwnRooms.{Roomy, roomy-ends, roomy-moves}
use Rattle.executor_model.proofs.Steps.Ways.{Way, along}
use Rattle.executor_model.proofs.Steps.Ways.Way.{acted, reacted, called}
use Rattle.executor_laws.proofs.Keepers.KeptActs.{is_apart, keeps-act, keeps-react}
use Rattle.executor_laws.proofs.Keepers.KeptGrown.{grown-act, grown-begun, grown-react, stirs_op}
use Rattle.executor_laws.proofs.Keepers.KeptPut.{has-free, keeping-put, put-free}
use Rattle.executor_laws.proofs.{Keepers.KeptCalls.Drops, Keepers.KeptCalls.keeps-begun, Wakeups.StandsMachine.standing-moves}
use Rattle.executor_laws.proofs.{Wakeups.StandsMachine.standing-start, Keepers.KeptHere.Keeping, Keepers.KeptHere.keeping-on}
use Rattle.executor_laws.proofs.{Keepers.KeptWeights.quits_of, Wakeups.StandsLast.standing-ends, Wakeups.StandsSteps.Standing}
use Rattle.executor_laws.proofs.{Wakeups.StandsUses.run-there, Keepers.KeptTaken.keeping-taken, Keepers.KeptEnds.keeping-end}

-- who leaves was made

pub below-made : (s : Machine) (p : ℕ) (o : Op) (rest : List Op) → p < length s.parties →
    stack s p ≡ rest ++ reverse (o ∷ []) → Keeping s → (r : ℕ) → 1 ≤ running_of r o → r < length s.world.runs
below-made s p o rest l e k r z = by (decide r (length s.world.runs))
  where
    decide : (n m : ℕ) → (n < m) ⊎ (m ≤ n)
    decide n zero = inr (omega arith)
    decide zero (suc m) = inl (omega arith)
    decide (suc n) (suc m) = ⊎_elim (λ (x : n < m). inl (omega (arith, x))) (λ (x : m ≤ n). inr (omega (arith, x)))
        (decide n m)

    by : (r < length s.world.runs) ⊎ (length s.world.runs ≤ r) → r < length s.world.runs
    by (inl x) = x
    by (inr x) = absurd (omega (arith, z, (k.standing.used r).unborn x, split (running_of r) s.parties p (o ∷ []) rest l e))

-- every step

pub keeping-ends : (s : Machine) (p : ℕ) (a : Reply) (held : Hold) (below : List Op) → p < length s.parties →
    stack s p ≡ below ++ reverse (Op.End a held ∷ []) → Keeping s →
    Keeping (unsettled s p below (done (log s.world (Event.CallEnded p a)) []))
keeping-ends s p a held below l e k = keeping-end s p a held below l e k
    (standing-ends s p a held below l e k.standing) (heard-ends s p a held below l e k.heard)
    (roomy-ends s p a held below l e k.roomy)

keeping-acted : (s : Machine) (p : ℕ) (rest : List Op) (h : Hint) (o : Op) (b : Bool) → is_apart o ≡ b →
    p < length s.parties → stack s p ≡ rest ++ reverse (o ∷ []) → Keeping s →
    Standing (unsettled s p rest (act p h o s.world)) → Heard (unsettled s p rest (act p h o s.world)) →
    Roomy (unsettled s p rest (act p h o s.world)) → Keeping (unsettled s p rest (act p h o s.world))
keeping-acted s p rest h o true n l e k a b c =
    keeping-on s p (o ∷ []) rest (act p h o s.world) l e k
    (keeps-act p h o s.world n (below-made s p o rest l e k)
    (λ r z. k.leaves r (omega (arith, z, split (quits_of r) s.parties p (o ∷ []) rest l e))))
    (grown-act p h o s.world (mild o n)) a b c
  where
    not-false : (x : Bool) → not x ≡ true → x ≡ false
    not-false false q = refl
    not-false true q = absurd (cc)

    mild : (o : Op) → is_apart o ≡ true → stirs_op o ≡ false
    mild (Op.End x held) q = absurd (cc)
    mild (Op.Move m f) q = not-false (stirs_op (Op.Move m f)) q
    mild (Op.Steal x) q = not-false (stirs_op (Op.Steal x)) q
    mild _ q = refl
keeping-acted s p rest h (Op.Move Move.TakeUp g) false n l e k a b c = keeping-taken s p g rest h l e k a b c
keeping-acted s p rest h (Op.Steal (StealOp.Put x more g)) false n l e k a b c =
    subst (λ (d : Done). Standing (unsettled s p rest d) → Heard (unsettled s p rest d) →
    Roomy (unsettled s p rest d) → Keeping (unsettled s p rest d))
    (put-free s p x more g h (has-free s p rest x more g l e k.roomy))
    (keeping-put s p x more g rest h l e k) a b c
keeping-acted s p rest h (Op.End r held) false n l e k a b c = keeping-end s p r held rest l e k a b c
keeping-acted s p rest h _ false n l e k a b c = absurd (cc)

drops-there : (s : Machine) (p : ℕ) (c : Call) → has_all s.world s.parties (top (stack s p)) c ≡ true → Drops c s.world
drops-there s p (Call.DropRun q) z = run-there s.world.runs q (first-true _ _ z)
drops-there s p _ z = tt

keeping-way : (s : Machine) (p : ℕ) (old rest : List Op) (d : Done) → Good s → p < length s.parties →
    stack s p ≡ rest ++ reverse old → Way s p old rest d → Standing (unsettled s p rest d) →
    Heard (unsettled s p rest d) → Roomy (unsettled s p rest d) → Keeping s → Keeping (unsettled s p rest d)
keeping-way s p old rest d good l e (acted h o q z) a b c k =
    rw z (keeping-acted s p rest h o (is_apart o) refl l
    (subst (λ (os : List Op). stack s p ≡ rest ++ reverse os) q e) k
    (subst (λ (x : Done). Standing (unsettled s p rest x)) z a)
    (subst (λ (x : Done). Heard (unsettled s p rest x)) z b)
    (subst (λ (x : Done). Roomy (unsettled s p rest x)) z c))
keeping-way s p old rest d good l e (reacted o u n q z) a b c k =
    rw z (keeping-on s p (o ∷ []) rest (react p o u s.world) l
    (subst (λ (os : List Op). stack s p ≡ rest ++ reverse os) q e) k (keeps-react p o u s.world n)
    (grown-react p o u s.world n)
    (subst (λ (x : Done). Standing (unsettled s p rest x)) z a)
    (subst (λ (x : Done). Heard (unsettled s p rest x)) z b)
    (subst (λ (x : Done). Roomy (unsettled s p rest x)) z c))
keeping-way s p old rest d good l e (called m q t n z) a b c k =
    let f : _ = none_refused s.world s.parties (top (stack s p)) m n in
    rw z (keeping-on s p [] rest (begun p (log s.world (Event.CallBegun p m)) (mine (top (stack s p))) m) l
    (subst (λ (os : List Op). stack s p ≡ rest ++ reverse os) q e) k
    (keeps-begun p s.world (mine (top (stack s p))) m (drops-there s p m f.1))
    (grown-begun p s.world (mine (top (stack s p))) m)
    (subst (λ (x : Done). Standing (unsettled s p rest x)) z a)
    (subst (λ (x : Done). Heard (unsettled s p rest x)) z b)
    (subst (λ (x : Done). Roomy (unsettled s p rest x)) z c))

keeping-moves : (s : Machine) (p : ℕ) (old rest : List Op) (d : Done) → Good s → p < length s.parties →
    stack s p ≡ rest ++ reverse old → Way s p old rest d → Keeping s → Keeping (unsettled s p rest d)
keeping-moves s p old rest d good l e w k =
    keeping-way s p old rest d good l e w (standing-moves s p old rest d good l e w k.standing)
    (heard-moves s p old rest d good l e w k.heard)
    (roomy-moves s p old rest d l e w (λ r. (k.standing.used r).once) k.roomy) k

keeping-start : (limit : ℕ) (kind : Kind) (n : ℕ) → Keeping (start limit kind n)
keeping-start limit kind n = record {
  standing = standing-start limit kind n;
  heard = heard-start limit kind n;
  roomy = λ r. omega (arith, weigh_all-idle (filling_of r) n);
  leaves = λ r z. absurd (omega (arith, z, weigh_all-idle (quits_of r) n));
  parted = λ r z. absurd (omega (arith, z.0));
  keeps = λ f r place z. absurd
      (let no : (let o : Option Event = None in o) ≡ Some (Event.Kept z.party f r) = z.kept in cc);
}

pub keeping : (limit : ℕ) (kind : Kind) (n : ℕ) (ts : List Step) → Keeping (run ts (start limit kind n))
keeping limit kind n ts = along Keeping keeping-moves keeping-ends ts (start limit kind n) (good-start limit kind n)
    (keeping-start limit kind n)
