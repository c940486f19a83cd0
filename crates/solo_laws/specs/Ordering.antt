-- In which order runs were first polled, of those that haven't gone: it is that in which others look at their own queues.
use Rattle.std.specs.Prelude.{◌≡◌, ℕ, ◌≤◌, List, length, map, take}
use Rattle.solo.specs.declared.names.SoloWaker.{SoloWaker}
use Rattle.solo.specs.declared.owed.Lent.{Lent}
use Rattle.solo.specs.declared.own_queues.Own.{Own}
use Rattle.solo.specs.declared.solo.Solo.{Solo}
use Rattle.plain_scheduler.specs.State.{Choice, Event, Plain}
use Rattle.plain_scheduler.specs.Calls.{Call}
use Rattle.plain_scheduler.specs.Usual.{order_by}
use Rattle.solo_laws.specs.Courses.{Acts}
use Rattle.solo_laws.specs.Led.{IsLed}
use Rattle.solo_laws.specs.Owner.{Owner}

-- the numbers of the runs at whose own queues others look
abbrev pub order_of : {F T X : Type 0} → Solo F T X → List ℕ
order_of s = take s.runs.listed (map (λ (q : Own). q.number) s.runs.queues)

module _ (F T X : Type 0) where
  abbrev pub CallsOrder : Type 0
  CallsOrder =
      (its : ℕ → Lent) (owner : Owner) (c : Choice) (s : Solo F T X) (p : Plain T (SoloWaker X)) (now : Owner) (z : Solo F T X)
      (call : Call T (SoloWaker X)) (shown : List (Event T (SoloWaker X))) → IsLed its owner s p → length p.lying ≤ c.tells
      → Acts its owner c s p call shown now z → order_of z ≡ order_by call p (order_of s)
