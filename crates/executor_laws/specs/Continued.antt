-- What has happened stays: a later trace has the earlier one at its beginning.
use Rattle.std.specs.Prelude.{◌≡◌, ◌++◌}
use Rattle.executor_model.specs.Trace.{Trace}

abbrev pub IsContinued : Trace → Trace → Type 0
IsContinued earlier later = (more : Trace) × (later ≡ earlier ++ more)
