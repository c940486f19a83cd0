-- For calls_end and lone_calls_end.
-- What holds of the runs of each machine to which steps lead.
use Rattle.std.proofs.Common.{◌≡◌, ℕ, ◌+◌, ◌<◌, ◌≤◌, [], ◌∷◌, length, Bool, true, false, ltb, cond, refl, sym, ap}
use Rattle.std.{proofs.Common.subst, proofs.Common.arith, proofs.lemmas.Bool.Decides.nat_tests, specs.Prelude.Some}
use Rattle.executor_model.specs.OwnQueues.{HasOwnRoom, IsUsedOnce, filling_of}
use Rattle.executor_model.specs.{ActsOfRuns.free_places, ActsOfRuns.own_places, Rows.running_of, Steps.Machine, Steps.stack}
use Rattle.executor_model.specs.{Steps.top, Weights.weigh_all, World.World, World.own_of}
use Rattle.executor_model.proofs.{OwnQueues.UsingSteps.AllUsed, OwnQueues.UsingSteps.all-used, Steps.Lift.split}
use Rattle.executor_model.proofs.{Steps.Lift.topped, OwnQueues.OwnExecutions.has-own-room, OwnQueues.OwnRooms.has-free}
use Rattle.executor_model.proofs.Steps.Reached.{Reached}
use Rattle.executor_laws.proofs.Termination.SpendingRuns.{CanPay, TakesFew}
use Rattle.executor_laws.proofs.{Types.Op, Types.Steal, Types.StealOp, Termination.TakingFew.takes-few}

used-all : (s : Machine) → Reached s → AllUsed s
used-all s r = subst AllUsed (sym r.is) (all-used r.limit r.kind r.parties r.steps)

pub used-here : (s : Machine) → Reached s → (q : ℕ) → IsUsedOnce s q
used-here s r q = (used-all s r q).once

pub room-here : (s : Machine) → Reached s → (q : ℕ) → HasOwnRoom s q
room-here s r q = subst (λ (m : Machine). HasOwnRoom m q) (sym r.is) (has-own-room r.limit r.kind r.parties r.steps q)

few-here : (s : Machine) → Reached s → TakesFew s.world
few-here s r = subst (λ (m : Machine). TakesFew m.world) (sym r.is) (takes-few r.limit r.kind r.parties r.steps)

places-few : (w : World) (q : ℕ) → own_places w q ≤ 512
places-few w q = by (ltb q (length w.own))
  where
    by : (b : Bool) → cond b 512 0 ≤ 512
    by true = omega arith
    by false = omega arith

-- what stands on top has what it needs, to be paid for
module _ (s : Machine) (p : ℕ) (o : Op) (l : p < length s.parties) (e : top (stack s p) ≡ Some o) (r : Reached s) where
  on-top : (v : Op → ℕ) → v o ≤ weigh_all v s.parties
  on-top v = omega (arith, split v s.parties p (o ∷ []) _ l (topped _ o e))

  born : (q : ℕ) → 1 ≤ running_of q o → q < length s.world.runs
  born q n = by (ltb q (length s.world.runs)) refl
    where
      by : (b : Bool) → ltb q (length s.world.runs) ≡ b → q < length s.world.runs
      by true k = grind (arith, nat_tests)
      by false k = let m : length s.world.runs ≤ q = grind (arith, nat_tests) in
          absurd (omega (arith, n, on-top (running_of q), (used-all s r q).unborn m))

  room : (x : Steal) (more f : ℕ) → o ≡ Op.Steal (StealOp.Put x more f) →
      ltb 0 (free_places s.world x.poll.run) ≡ true
  room x more f i =
      has-free s x more f (room-here s r x.poll.run)
      (omega (arith, ap (filling_of x.poll.run) i, on-top (filling_of x.poll.run)))

  pub can-pay : CanPay s.world o
  can-pay = record {
    few = few-here s r;
    born = born;
    short = λ q. (let h : length (own_of s.world q) + weigh_all (filling_of q) s.parties ≤ own_places s.world q =
        room-here s r q in omega (arith, h, places-few s.world q));
    room = room;
  }
