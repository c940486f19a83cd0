use Rattle.std.proofs.Common.{◌≡◌, ℕ, ◌≤◌, vec_len}
use Rattle.std.specs.Vec.{vec_capacity}
use Rattle.executor_parts.specs.Order.{next_of, previous_of}
use Rattle.executor_parts.proofs.order.pad.Given as goal

abbrev pub invariant-loop-place : goal.invariant-loop-place
invariant-loop-place l = record {
  place : vec_len l.links ≡ l._place;
  longer : vec_len l.fn.links ≤ vec_len l.links;
  nexts : (at : ℕ) → next_of l.links.items at ≡ next_of l.fn.links.items at;
  previouses : (at : ℕ) → previous_of l.links.items at ≡ previous_of l.fn.links.items at;
  capacity : vec_capacity l.links ≡ vec_capacity l.fn.links;
}
