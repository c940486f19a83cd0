-- Which calls may be made from the drop of an executor on, and that these happen too.
use Rattle.std.specs.Prelude.{◌≡◌, ℕ, ◌+◌, ◌*◌, ◌<◌, true, false, List, [], ◌∷◌, length}
use Rattle.solo.specs.declared.names.SoloWaker.{SoloWaker}
use Rattle.solo.specs.declared.names.SoloWaker.TheVariants.{Task as OfTask}
use Rattle.solo.specs.declared.owed.Lent.{Lent}
use Rattle.solo.specs.declared.solo.Solo.{Solo}
use Rattle.solo.specs.Closing as closing
use Rattle.solo.specs.Solo as solo
use Rattle.plain_scheduler.specs.State.{Choice, Close, Code, Event, Lose, Plain, Refusal}
use Rattle.plain_scheduler.specs.Moves.{task}
use Rattle.plain_scheduler.specs.Calls.{Call, Cancel, Copy, Detach, DropExecutor, DropHandle, Ends, PollHandle, Release, Use, Wake}
use Rattle.plain_scheduler.specs.Calls.{does, living_from}
use Rattle.solo_laws.specs.Closing.{Drains}
use Rattle.solo_laws.specs.Dropping.{ends_one}
use Rattle.solo_laws.specs.LastCalls.{LastCalls, Meanwhile}
use Rattle.solo_laws.specs.Making.{AreWished, Wish, copy_refusal}
use Rattle.solo_laws.specs.Road.{HasLife, IsNamed, drops, lents, wakes}
use Rattle.solo_laws.specs.Tabled.{named}

module _ {F T X : Type 0} (its : ℕ → Lent) (s : Solo F T X) (p : Plain T (SoloWaker X)) where
  -- a call is on the task of a future that came, or the drop of an output ends
  abbrev pub IsLosing : List (Code T (SoloWaker X)) → Type 0
  IsLosing (Lose awaiter by ∷ rest) = ends_one by ≡ true
  IsLosing codes = ⊥

  abbrev pub AllowsMeanwhile : Call T (SoloWaker X) → Type 0
  AllowsMeanwhile (Wake f) = f < length p.futures
  AllowsMeanwhile (Use f) = f < length p.futures
  AllowsMeanwhile (Copy f) = f < length p.futures
  AllowsMeanwhile (Release f) = f < length p.futures
  AllowsMeanwhile (PollHandle f (OfTask t)) =
      (f < length p.futures) × ((task f p).handle ≡ true) × IsNamed (named its) (length p.futures) t
  AllowsMeanwhile (PollHandle f w) = (f < length p.futures) × ((task f p).handle ≡ true)
  AllowsMeanwhile (Cancel f) = f < length p.futures
  AllowsMeanwhile (Detach f) = f < length p.futures
  AllowsMeanwhile (DropHandle f) = f < length p.futures
  AllowsMeanwhile Ends = IsLosing p.inside
  AllowsMeanwhile call = ⊥

  -- a copy of a task's waker is refused just where the task has as many references as it may
  abbrev pub fits : Refusal → Call T (SoloWaker X) → Refusal
  fits refusal (Copy f) = copy_refusal (solo.may_hold (named its f) s)
  fits refusal (PollHandle f (OfTask t)) = copy_refusal (solo.may_hold t s)
  fits refusal call = refusal

  pub record MayMeanwhile (x : Wish T (SoloWaker X)) : Type 0 where
    pub allowed : AllowsMeanwhile x.call
    pub refusal : x.refusal ≡ fits x.refusal x.call
    pub life : HasLife 14 s.lines

  pub record HappensMeanwhile (x : Wish T (SoloWaker X)) : Type 0 where
    pub choice : Choice
    pub shown : List (Event T (SoloWaker X))
    pub after : Solo F T X
    pub how : Meanwhile its choice s p x.call shown after
    pub tells : length p.lying < choice.tells
    pub refused : choice.refusal ≡ x.refusal

module _ {F T X : Type 0} (its : ℕ → Lent) where
  -- once the drop has come to its end
  abbrev pub MayGoAfter : List (Wish T (SoloWaker X)) → Solo F T X → Plain T (SoloWaker X) → Type 0
  MayGoAfter [] s p = Unit {0}
  MayGoAfter (x ∷ xs) s p =
      MayMeanwhile its s p x
      × ((it : HappensMeanwhile its s p x) → MayGoAfter xs it.after (does wakes it.choice x.call p))

  -- of all these futures those that are left are still to be dropped
  pub data MayClose (all : List ℕ) : List (Wish T (SoloWaker X)) → List ℕ → Solo F T X → Plain T (SoloWaker X) → Type 0 where
    calls_meanwhile : (x : Wish T (SoloWaker X)) (xs : List (Wish T (SoloWaker X))) (left : List ℕ) (s : Solo F T X)
        (p : Plain T (SoloWaker X)) → MayMeanwhile its s p x
        → ((it : HappensMeanwhile its s p x) → MayClose all xs left it.after (does wakes it.choice x.call p))
        → MayClose all (x ∷ xs) left s p
    drops_next : (x : Wish T (SoloWaker X)) (xs : List (Wish T (SoloWaker X))) (f : ℕ) (left : List ℕ)
        (inside : List (Code T (SoloWaker X))) (s : Solo F T X) (p : Plain T (SoloWaker X)) → x.call ≡ Ends
        → p.inside ≡ Close (f ∷ left) all ∷ inside → HasLife (6 * length all + 2) s.lines
        → ((c : Choice) → length p.lying < c.tells → MayClose all xs left (closing.drained s) (does wakes c Ends p))
        → MayClose all (x ∷ xs) (f ∷ left) s p
    drops_last : (x : Wish T (SoloWaker X)) (xs : List (Wish T (SoloWaker X))) (inside : List (Code T (SoloWaker X)))
        (s : Solo F T X) (p : Plain T (SoloWaker X)) → x.call ≡ Ends → p.inside ≡ Close [] all ∷ inside
        → HasLife (6 * length all + 2) s.lines
        → ((c : Choice) (y : Solo F T X) (shown : List (Event T (SoloWaker X))) → length p.lying < c.tells → Drains s shown y
        → MayGoAfter xs y (does wakes c Ends p))
        → MayClose all (x ∷ xs) [] s p

module _ {F T X : Type 0} (its : ℕ → Lent) (s : Solo F T X) (p : Plain T (SoloWaker X)) where
  -- behind the drop's begin: its first future is handed out, or there is none
  abbrev pub MayGoOn : List ℕ → List (Wish T (SoloWaker X)) → Type 0
  MayGoOn [] xs =
      (c : Choice) (y : Solo F T X) (shown : List (Event T (SoloWaker X))) → length p.lying < c.tells
      → Drains (closing.closed s) shown y → MayGoAfter its xs y (does wakes c DropExecutor p)
  MayGoOn (f ∷ left) xs =
      (c : Choice) → length p.lying < c.tells
      → MayClose its (f ∷ left) xs left (closing.drained (closing.closed s)) (does wakes c DropExecutor p)

  -- an executor that isn't static may be dropped while no user's code polls or drops one of its futures
  pub record MayDrop (x : Wish T (SoloWaker X)) (xs : List (Wish T (SoloWaker X))) : Type 0 where
    pub call : x.call ≡ DropExecutor
    pub owned : p.is_static ≡ false
    pub unpolled : lents p.inside ≡ []
    pub undropped : drops p.inside ≡ []
    pub life : HasLife (6 * length s.table.entries + 2) s.lines
    pub goes : MayGoOn (living_from 0 p.futures) xs

  -- they are made so, from the drop on
  pub record HappenLast (xs : List (Wish T (SoloWaker X))) : Type 0 where
    pub calls : List (Choice × Call T (SoloWaker X))
    pub shown : List (Event T (SoloWaker X))
    pub after : Solo F T X
    pub last : LastCalls its s p calls shown after
    pub wished : AreWished xs calls
