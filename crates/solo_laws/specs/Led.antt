-- Where a list of calls leads both from new ones on.
use Rattle.std.specs.Prelude.{◌≡◌, ℕ, Bool, not, List}
use Rattle.solo.specs.declared.names.Kind.{Kind}
use Rattle.solo.specs.declared.names.SoloWaker.{SoloWaker}
use Rattle.solo.specs.declared.owed.Lent.{Lent}
use Rattle.solo.specs.declared.solo.Solo.{Solo}
use Rattle.solo.specs.Solo.{IsNew, counts}
use Rattle.plain_scheduler.specs.State.{Choice, Event, Plain, Who}
use Rattle.plain_scheduler.specs.Calls.{Call, course, new}
use Rattle.solo_laws.specs.Courses.{Leads}
use Rattle.solo_laws.specs.Owner.{Owner, new_owner}
use Rattle.solo_laws.specs.Road.{wakes}

pub record IsLed {F T X : Type 0} (its : ℕ → Lent) (owner : Owner) (s : Solo F T X) (p : Plain T (SoloWaker X)) : Type 0 where
  pub limit : ℕ
  pub kind : Kind
  pub is_static : Bool
  pub calls : List (Choice × Call T (SoloWaker X))
  pub before : Who → ℕ
  pub first : Solo F T X
  pub shown : List (Event T (SoloWaker X))
  pub is_new : IsNew limit kind first
  pub counted : counts kind ≡ not is_static
  pub leads : Leads its calls (new_owner before) first (new limit is_static) shown owner s
  pub course_is : p ≡ course wakes calls (new limit is_static)
