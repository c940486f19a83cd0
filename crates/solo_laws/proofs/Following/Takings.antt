-- Which runs have a future in hand that they took.
use Rattle.std.proofs.Common.{◌≡◌, ℕ, ◌==◌, cond, Bool, true, false, List, [], ◌∷◌, ◌++◌, Option, Some, None, refl}
use Rattle.plain_scheduler.specs.State.{Close, Code, Drop, DropOwn, Lose, Poll, PollOwn, Run, Taker, Tick, Try}
use Rattle.solo_laws.specs.Alike.{takes_one}
use Rattle.solo_laws.specs.Busy.{busy_in, run_if, run_of}
use Rattle.solo_laws.specs.Dropping.{ends_one}
use Rattle.solo_laws.specs.Road.{is_in}
use Rattle.solo_laws.proofs.Following.Due.{neither}

module _ {T A : Type 0} where
  abbrev pub taking : Code T A → List ℕ
  taking (Poll f by) = run_of by
  taking (Drop f end by) = run_of by
  taking (Lose awaiter by) = run_if by
  taking (PollOwn r w) = []
  taking (DropOwn r answer) = []
  taking (Close fs all) = []

  abbrev pub takings : List (Code T A) → List ℕ
  takings [] = []
  takings (code ∷ codes) = taking code ++ takings codes

module _ {A : Type 0} where
  -- those that take one only are no runs
  pub none_of : (by : Taker A) → takes_one by ≡ true → run_of by ≡ []
  none_of Try one = refl
  none_of (Tick t w) one = refl
  none_of (Run r w) one = absurd cc

  pub none_if : (by : Option (Taker A)) → ends_one by ≡ true → run_if by ≡ []
  none_if None one = refl
  none_if (Some by) one = none_of by one

module _ {A : Type 0} where
  none_more : (by : Taker A) (k : ℕ) (ns ms : List ℕ) → (is_in k ns ≡ false → is_in k ms ≡ false) → is_in k (run_of by ++ ns) ≡ false
      → is_in k (run_of by ++ ms) ≡ false
  none_more Try k ns ms rest none = rest none
  none_more (Tick t w) k ns ms rest none = rest none
  none_more (Run r w) k ns ms rest none = each (k == r) (neither (k == r) (is_in k ns) none).0 (rest (neither (k == r) (is_in k ns) none).1)
    where
      each : (b : Bool) → b ≡ false → is_in k ms ≡ false → cond b true (is_in k ms) ≡ false
      each true is out = absurd cc
      each false is out = out

module _ {T A : Type 0} where
  -- each of them is in its poll
  pub not_taking : (k : ℕ) (codes : List (Code T A)) → is_in k (busy_in codes) ≡ false → is_in k (takings codes) ≡ false
  not_taking k [] none = refl
  not_taking k (Poll f by ∷ codes) none = none_more by k (busy_in codes) (takings codes) (not_taking k codes) none
  not_taking k (Drop f end by ∷ codes) none = none_more by k (busy_in codes) (takings codes) (not_taking k codes) none
  not_taking k (Lose awaiter None ∷ codes) none = not_taking k codes none
  not_taking k (Lose awaiter (Some by) ∷ codes) none = none_more by k (busy_in codes) (takings codes) (not_taking k codes) none
  not_taking k (PollOwn r w ∷ codes) none = not_taking k codes (neither (k == r) (is_in k (busy_in codes)) none).1
  not_taking k (DropOwn r answer ∷ codes) none = not_taking k codes (neither (k == r) (is_in k (busy_in codes)) none).1
  not_taking k (Close fs all ∷ codes) none = not_taking k codes none
