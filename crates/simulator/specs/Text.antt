-- What is printed of the moments of a run. The names are those of the futures, in the order of acceptance,
-- and those of the ticks and of the runs, in the order in which these were made.
use Rattle.std.specs.Prelude.{ℕ, List, codes}
use Rattle.std.specs.List.{flat_map}
use Rattle.simulator.specs.declared.moment.Moment.{Moment}
use Rattle.simulator.specs.declared.moment.Moment.TheVariants.{Happened, Ended, Stopped}
use Rattle.simulator.specs.EventText.{event_text}
use Rattle.simulator.specs.EndText.{end_text}

abbrev pub moment_text : List (List ℕ) → List (List ℕ) → List (List ℕ) → Moment → List ℕ
moment_text names ticks runs (Happened event) = event_text names ticks runs event
moment_text names ticks runs (Ended word outcome) = end_text word outcome
moment_text names ticks runs Stopped = codes "waits\n"

abbrev pub moments_text : List (List ℕ) → List (List ℕ) → List (List ℕ) → List Moment → List ℕ
moments_text names ticks runs moments = flat_map (moment_text names ticks runs) moments
