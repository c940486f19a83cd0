-- The end of a drop is one of the plain scheduler, of a future and of an output, with what the executor's owner then owes.
use Rattle.std.specs.Prelude.{◌≡◌, ℕ, ◌≤◌, Bool, true, List, ◌∷◌, length, Option, Some, None, is_some}
use Rattle.solo.specs.declared.names.SoloWaker.{SoloWaker}
use Rattle.solo.specs.declared.owed.Lent.{Lent}
use Rattle.solo.specs.declared.owed.Owed.{Owed}
use Rattle.solo.specs.declared.solo.Solo.{Solo}
use Rattle.solo.specs.Cells.{choose}
use Rattle.solo.specs.Solo as solo
use Rattle.plain_scheduler.specs.State.{Choice, Code, Drop, Lose, Closed, Gave, Taker, Plain}
use Rattle.plain_scheduler.specs.Calls.{Ends, does}
use Rattle.solo_laws.specs.Road.{HasLife, wakes}
use Rattle.solo_laws.specs.Tabled.{Stands}
use Rattle.solo_laws.specs.Alike.{calls, lets_go, takes_one}

-- an output that is to be dropped is dropped first; else who awaits the task is called, or let go
abbrev pub after_drop : {F T X : Type 0} → Owed F T X → Solo F T X → Solo F T X
after_drop owed s = choose (is_some owed.output) s (calls owed.awaiter (lets_go owed.old s))

-- in a try or a tick, or in a call that takes no future
abbrev pub ends_one : {A : Type 0} → Option (Taker A) → Bool
ends_one None = true
ends_one (Some by) = takes_one by

module _ {F T X : Type 0} (its : ℕ → Lent) (s : Solo F T X) (p : Plain T (SoloWaker X)) where
  -- of a future that gave its output
  abbrev pub GivenDropsAlike : Type 0
  GivenDropsAlike =
      (c : Choice) (f : ℕ) (v : T) (by : Taker (SoloWaker X)) → takes_one by ≡ true → (rest : List (Code T (SoloWaker X)))
      → p.inside ≡ Drop f (Gave v) by ∷ rest
      → length p.lying ≤ c.tells → HasLife 8 s.lines
      → Stands its (after_drop (solo.settle_ready_answer (its f) v s) (solo.settled_ready (its f) v s)) (does wakes c Ends p)

  -- of one whose task is closed
  abbrev pub ClosedDropsAlike : Type 0
  ClosedDropsAlike =
      (c : Choice) (f : ℕ) (by : Taker (SoloWaker X)) → takes_one by ≡ true → (rest : List (Code T (SoloWaker X)))
      → p.inside ≡ Drop f Closed by ∷ rest
      → length p.lying ≤ c.tells → HasLife 8 s.lines
      → Stands its (after_drop (solo.finish_answer (its f) s) (solo.finished (its f) s)) (does wakes c Ends p)

  -- of an output
  abbrev pub LosesAlike : Type 0
  LosesAlike =
      (c : Choice) (awaiter : Option (SoloWaker X)) (by : Option (Taker (SoloWaker X))) → ends_one by ≡ true
      → (rest : List (Code T (SoloWaker X))) → p.inside ≡ Lose awaiter by ∷ rest → length p.lying ≤ c.tells → HasLife 2 s.lines
      → Stands its (calls awaiter s) (does wakes c Ends p)
