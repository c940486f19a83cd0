-- For awaiters_are_kept.
-- What has to end a poll of a handle, and the poll that a trace has open.
use Rattle.std.proofs.Common.{◌≡◌, ℕ, ◌+◌, ◌≤◌, List, [], ◌∷◌, refl, arith}
use Rattle.executor_model.proofs.Types.{Reply, Hold, Op, HandleOp}
use Rattle.executor_model.specs.Weights.{weigh}
use Rattle.executor_model.proofs.Awaiters.Awaited.{Heard, fresh_of, storing_of, again_of, waits_of, over_of}
use Rattle.executor_model.proofs.{Steps.Lists.same_is, Quiet.Calls.calling_of, Awaiters.Holding.Open}

-- it has to end a poll of g's handle that wasn't refused
abbrev pub asks_of : ℕ → Op → ℕ
asks_of g o = fresh_of g o + (storing_of g o + (again_of g o + (waits_of g o + over_of g o)))

pub asks-weighs : (g : ℕ) (os : List Op) →
    weigh (asks_of g) os ≡ weigh (fresh_of g) os
    + (weigh (storing_of g) os + (weigh (again_of g) os + (weigh (waits_of g) os + weigh (over_of g) os)))
asks-weighs g [] = refl
asks-weighs g (o ∷ os) = omega (arith, asks-weighs g os)

pub asks-calling : (g : ℕ) (o : Op) → asks_of g o ≤ calling_of o
asks-calling g (Op.Handle (HandleOp.Register f a k)) = grind (arith, same_is)
asks-calling g (Op.Handle (HandleOp.EndRegister f a k)) = grind (arith, same_is)
asks-calling g (Op.Handle (HandleOp.LookAgain f)) = grind (arith, same_is)
asks-calling g (Op.End Reply.Pending (Hold.Handle f)) = grind (arith, same_is)
asks-calling g (Op.End Reply.Ready (Hold.Handle f)) = grind (arith, same_is)
asks-calling g (Op.End Reply.Cancelled (Hold.Handle f)) = grind (arith, same_is)
asks-calling g _ = omega arith

-- the poll that is open, if there is one
abbrev pub open_of : Heard → Open
open_of h = record { asking = h.asking; party = h.party; inner = h.inner }
