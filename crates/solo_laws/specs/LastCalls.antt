-- The last calls of an executor: its drop, what is called while each of its futures is dropped, and what is called once all is done.
use Rattle.std.specs.Prelude.{◌≡◌, ℕ, ◌+◌, ◌*◌, ◌≤◌, Bool, true, false, List, [], ◌∷◌, ◌++◌, length, Option}
use Rattle.solo.specs.declared.names.SoloWaker.{SoloWaker}
use Rattle.solo.specs.declared.owed.Lent.{Lent}
use Rattle.solo.specs.declared.solo.Solo.{Solo}
use Rattle.solo.specs.Closing as closing
use Rattle.plain_scheduler.specs.State.{Event, Drops, Answers, Done, Choice, Code, Close, Lose, Taker, Plain}
use Rattle.plain_scheduler.specs.Calls.{Call, Wake, Use, Copy, Release, PollHandle, Cancel, Detach, DropHandle, DropExecutor, Ends}
use Rattle.plain_scheduler.specs.Calls.{living_from, does}
use Rattle.solo_laws.specs.Alike.{calls}
use Rattle.solo_laws.specs.Closing.{Drains}
use Rattle.solo_laws.specs.Courses.{Makes}
use Rattle.solo_laws.specs.Dropping.{ends_one}
use Rattle.solo_laws.specs.Road.{HasLife, drops, lents, wakes as wakes_of}
use Rattle.solo_laws.specs.Shown.{call_shows}

-- by its waker or its handle
abbrev pub is_on_task : {T A : Type 0} → Call T A → Bool
is_on_task (Wake f) = true
is_on_task (Use f) = true
is_on_task (Copy f) = true
is_on_task (Release f) = true
is_on_task (PollHandle f w) = true
is_on_task (Cancel f) = true
is_on_task (Detach f) = true
is_on_task (DropHandle f) = true
is_on_task _ = false

-- while a future is dropped tasks are called on, and outputs dropped
pub data Meanwhile {F T X : Type 0} (its : ℕ → Lent) (c : Choice) (s : Solo F T X) (p : Plain T (SoloWaker X))
    : Call T (SoloWaker X) → List (Event T (SoloWaker X)) → Solo F T X → Type 0 where
  on_task : (call : Call T (SoloWaker X)) (shown : List (Event T (SoloWaker X))) (z : Solo F T X) → is_on_task call ≡ true
      → Makes its c s p call shown z → Meanwhile its c s p call shown z
  drops_output : (awaiter : Option (SoloWaker X)) (by : Option (Taker (SoloWaker X))) (rest : List (Code T (SoloWaker X)))
      → ends_one by ≡ true → p.inside ≡ Lose awaiter by ∷ rest → HasLife 2 s.lines
      → Meanwhile its c s p Ends (call_shows awaiter by s) (calls awaiter s)

-- once the drop has come to its end
pub data After {F T X : Type 0} (its : ℕ → Lent)
    : List (Choice × Call T (SoloWaker X)) → Solo F T X → Plain T (SoloWaker X) → List (Event T (SoloWaker X)) → Solo F T X
    → Type 0 where
  over : (s : Solo F T X) (p : Plain T (SoloWaker X)) → After its [] s p [] s
  and_then : (c : Choice) (call : Call T (SoloWaker X)) (rest : List (Choice × Call T (SoloWaker X))) (s y z : Solo F T X)
      (p : Plain T (SoloWaker X)) (shown others : List (Event T (SoloWaker X))) → length p.lying ≤ c.tells
      → Meanwhile its c s p call shown y → After its rest y (does wakes_of c call p) others z
      → After its ((c, call) ∷ rest) s p (shown ++ others) z

-- the rest of a close of all these futures, of which those of `gone` were handed out to be dropped: at last it is drained
pub data Closes {F T X : Type 0} (its : ℕ → Lent) (all : List ℕ)
    : List ℕ → List ℕ → List (Choice × Call T (SoloWaker X)) → Solo F T X → Plain T (SoloWaker X) → List (Event T (SoloWaker X))
    → Solo F T X → Type 0 where
  meanwhile : (gone left : List ℕ) (c : Choice) (call : Call T (SoloWaker X)) (rest : List (Choice × Call T (SoloWaker X)))
      (s y z : Solo F T X) (p : Plain T (SoloWaker X)) (shown others : List (Event T (SoloWaker X))) → length p.lying ≤ c.tells
      → Meanwhile its c s p call shown y → Closes its all gone left rest y (does wakes_of c call p) others z
      → Closes its all gone left ((c, call) ∷ rest) s p (shown ++ others) z
  next_drop : (gone : List ℕ) (f : ℕ) (left : List ℕ) (c : Choice) (rest : List (Choice × Call T (SoloWaker X)))
      (inside : List (Code T (SoloWaker X))) (s z : Solo F T X) (p : Plain T (SoloWaker X)) (others : List (Event T (SoloWaker X)))
      → p.inside ≡ Close (f ∷ left) all ∷ inside → length p.lying ≤ c.tells → HasLife (6 * length all + 2) s.lines
      → Closes its all (gone ++ f ∷ []) left rest (closing.drained s) (does wakes_of c Ends p) others z
      → Closes its all gone (f ∷ left) ((c, Ends) ∷ rest) s p (Drops f ∷ others) z
  last_drop : (gone : List ℕ) (c : Choice) (rest : List (Choice × Call T (SoloWaker X))) (inside : List (Code T (SoloWaker X)))
      (s y z : Solo F T X) (p : Plain T (SoloWaker X)) (shown others : List (Event T (SoloWaker X)))
      → p.inside ≡ Close [] all ∷ inside → length p.lying ≤ c.tells → HasLife (6 * length all + 2) s.lines → Drains s shown y
      → After its rest y (does wakes_of c Ends p) others z
      → Closes its all gone [] ((c, Ends) ∷ rest) s p ((shown ++ Answers Done ∷ []) ++ others) z

module _ {F T X : Type 0} (its : ℕ → Lent) (s : Solo F T X) (p : Plain T (SoloWaker X)) where
  -- an executor that isn't static is dropped, and no user's code polls or drops one of its futures
  pub record IsDropped (c : Choice) : Type 0 where
    pub owned : p.is_static ≡ false
    pub unpolled : lents p.inside ≡ []
    pub undropped : drops p.inside ≡ []
    pub few : length p.lying ≤ c.tells
    pub life : HasLife (6 * length s.table.entries + 2) s.lines

  -- its first future is handed out, to be dropped, if there is one
  pub data LastCalls : List (Choice × Call T (SoloWaker X)) → List (Event T (SoloWaker X)) → Solo F T X → Type 0 where
    first_drop : (c : Choice) (f : ℕ) (left : List ℕ) (rest : List (Choice × Call T (SoloWaker X))) (z : Solo F T X)
        (others : List (Event T (SoloWaker X))) → living_from 0 p.futures ≡ f ∷ left → IsDropped c
        → Closes its (f ∷ left) (f ∷ []) left rest (closing.drained (closing.closed s)) (does wakes_of c DropExecutor p) others z
        → LastCalls ((c, DropExecutor) ∷ rest) (Drops f ∷ others) z
    no_drop : (c : Choice) (rest : List (Choice × Call T (SoloWaker X))) (y z : Solo F T X)
        (shown others : List (Event T (SoloWaker X))) → living_from 0 p.futures ≡ [] → IsDropped c
        → Drains (closing.closed s) shown y → After its rest y (does wakes_of c DropExecutor p) others z
        → LastCalls ((c, DropExecutor) ∷ rest) ((shown ++ Answers Done ∷ []) ++ others) z
