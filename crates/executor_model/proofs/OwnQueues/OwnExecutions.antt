-- For own_queues_agree.
-- In each execution of the machine: the own queues of its runs have room for what comes, and are empty where they were
-- found so.
use Rattle.std.proofs.Common.{◌≡◌, ℕ, ◌<◌, List, [], ◌∷◌, ◌++◌, length, arith}
use Rattle.std.specs.Prelude.{reverse}
use Rattle.executor_model.specs.OwnQueues.{HasOwnRoom, IsEmptyMeanwhile, empty_of, filling_of}
use Rattle.executor_model.specs.Steps.{Machine, run, stack, start}
use Rattle.executor_model.specs.{Good.Good, World.Done, World.done, World.log}
use Rattle.executor_model.proofs.OwnQueues.OwnEmpty.{EmptyMeanwhile, empty-ends, empty-moves}
use Rattle.executor_model.proofs.OwnQueues.OwnRooms.{Roomy, roomy-ends, roomy-moves}
use Rattle.executor_model.proofs.OwnQueues.UsingSteps.{AllUsed, used-ends, used-moves, used-start}
use Rattle.executor_model.proofs.{Types.Kind, Types.Reply, Types.Event, Types.Hold, Types.Op, Types.Step, Steps.Lift.good-start}
use Rattle.executor_model.proofs.{Steps.Lift.unsettled, Steps.Lift.weigh_all-idle, Steps.Ways.Way, Steps.Ways.along}

pub record Owning (s : Machine) : Type 0 where
  pub used : AllUsed s
  pub roomy : Roomy s
  pub empty : EmptyMeanwhile s

pub owning-moves : (s : Machine) (p : ℕ) (old rest : List Op) (d : Done) → Good s → p < length s.parties →
    stack s p ≡ rest ++ reverse old → Way s p old rest d → Owning s → Owning (unsettled s p rest d)
owning-moves s p old rest d good l e way k = record {
  used = used-moves s p old rest d good l e way k.used;
  roomy = roomy-moves s p old rest d l e way (λ r. (k.used r).once) k.roomy;
  empty = empty-moves s p old rest d l e way (λ r. (k.used r).once) k.empty;
}

pub owning-ends : (s : Machine) (p : ℕ) (a : Reply) (held : Hold) (below : List Op) → p < length s.parties →
    stack s p ≡ below ++ reverse (Op.End a held ∷ []) → Owning s →
    Owning (unsettled s p below (done (log s.world (Event.CallEnded p a)) []))
owning-ends s p a held below l e k = record {
  used = used-ends s p a held below l e k.used;
  roomy = roomy-ends s p a held below l e k.roomy;
  empty = empty-ends s p a held below l e k.empty;
}

pub owning-start : (limit : ℕ) (kind : Kind) (n : ℕ) → Owning (start limit kind n)
owning-start limit kind n = record {
  used = used-start limit kind n;
  roomy = λ r. omega (arith, weigh_all-idle (filling_of r) n);
  empty = λ r z. absurd (omega (arith, z, weigh_all-idle (empty_of r) n));
}

owning : (limit : ℕ) (kind : Kind) (n : ℕ) (ts : List Step) → Owning (run ts (start limit kind n))
owning limit kind n ts =
    along Owning owning-moves owning-ends ts (start limit kind n) (good-start limit kind n) (owning-start limit kind n)

pub has-own-room : (limit : ℕ) (kind : Kind) (n : ℕ) (ts : List Step) (r : ℕ) → HasOwnRoom (run ts (start limit kind n)) r
has-own-room limit kind n ts r = (owning limit kind n ts).roomy r

pub is-empty-meanwhile : (limit : ℕ) (kind : Kind) (n : ℕ) (ts : List Step) (r : ℕ) → IsEmptyMeanwhile (run ts (start limit kind n)) r
is-empty-meanwhile limit kind n ts r = (owning limit kind n ts).empty r
