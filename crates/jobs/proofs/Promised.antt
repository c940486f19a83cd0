-- What threads came back with, by the promises of their handles.
use Rattle.std.proofs.Common.{◌≡◌, ◌∙◌, ℕ, ◌<◌, List, Vec, Result, Ok, Some, length, map, slice_get, sym, ap, subst, arith}
use Rattle.std.specs.Prelude.{option_map, slice_index_or}
use Rattle.std.specs.Global.{Global}
use Rattle.std.proofs.lemmas.List.{length-map}
use Rattle.std.proofs.lemmas.Option.{get_or_from_slice_get, slice_get-map, slice_get_within}
use Rattle.async_task.specs.declared.errors.NoMemory.{NoMemory}
use Rattle.jobs.specs.declared.job.Solved.{Solved}
use Rattle.jobs.specs.Coming.{AreBrought}

-- what a thread ends with
abbrev pub Ended : Type 0
Ended = Result (Vec Solved Global) NoMemory

-- where each thread came to its end with a list, and each that did keeps its promise
pub are_brought :
    (brings : Vec Solved Global → Type 0) (workers : ℕ) (ended : List Ended) (returned : List (Vec Solved Global))
    → length ended ≡ workers
    → ((seed : ℕ) (solved : Vec Solved Global) → seed < workers → slice_index_or ended seed (Ok solved) ≡ Ok solved → brings solved)
    → map Ok returned ≡ ended
    → AreBrought brings workers returned
are_brought brings workers ended returned long keeps same = record {
  all = sym (length-map {B = Ended} returned Ok) ∙ ap length same ∙ long;
  each = λ seed solved at.
      let mapped = length-map {B = Ended} returned Ok in
      let within : seed < workers = omega (arith, long, ap length same, mapped, slice_get_within returned seed solved at) in
      let there : slice_get ended seed ≡ Some (Ok solved) =
      subst (λ all. slice_get all seed ≡ Some (Ok solved)) same (slice_get-map {B = Ended} Ok returned seed ∙ ap (option_map Ok) at) in
      keeps seed solved within (get_or_from_slice_get ended seed (Ok solved) (Ok solved) there);
}
