-- For what_these_laws_speak_of_happens.
use Rattle.std.proofs.Common.{refl}
use Rattle.executor_model.specs.Steps.{step}
use Rattle.executor_model.specs.Weights.{same}
use Rattle.call_laws.specs.Happens.{CausesAreMet, LawsAreMet}

pub laws-met : LawsAreMet
unfolding step same
laws-met = record {
  cancelled = refl;
  forgotten = refl;
  unread = refl;
  ran = refl;
  ran_once = refl;
  unpolled_once = refl;
  ticked = refl;
  tick_gone = refl;
  kept = refl;
  used_up = refl;
  leaked = refl;
  static = refl;
}

pub causes-met : CausesAreMet
unfolding step same
causes-met = record {
  busy = refl;
  missing = refl;
  gone = refl;
  borrowed = refl;
  idle = refl;
  in_code = refl;
  unfit = refl;
  waits = refl;
}
