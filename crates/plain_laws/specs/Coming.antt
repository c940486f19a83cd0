-- In which order futures stand that come with one call.
use Rattle.std.specs.Prelude.{◌≡◌, ℕ, Bool, true, false, ◌&&◌, not, is_some, None, List, [], ◌∷◌, ◌++◌, map, filter}
use Rattle.task_moves.specs.AbstractTask.{is_idle}
use Rattle.plain_scheduler.specs.State.{Code, Drop, Due, Lose, Plain, Poll, Run, Taker}
use Rattle.plain_scheduler.specs.Lists.{any, or}
use Rattle.plain_scheduler.specs.Moves.{is_kept, mark, task}
use Rattle.plain_scheduler.specs.Calls.{Call, DropExecutor, Ends, EndsWith, Pends, PollTick, TryTick}

-- some of another list, in its order
pub data IsPart {A : Type 0} : List A → List A → Type 0 where
  no_more : IsPart [] []
  has : (x : A) (xs ys : List A) → IsPart xs ys → IsPart (x ∷ xs) (x ∷ ys)
  lacks : (y : A) (xs ys : List A) → IsPart xs ys → IsPart xs (y ∷ ys)

abbrev pub future_in : Due → ℕ
future_in d = d.future

abbrev pub has_keeper : Due → Bool
has_keeper d = is_some d.keeper

-- a run gives back what it keeps: all else stands as it stood, and behind it what came, which nobody keeps; among that what the run kept,
-- in order
pub record GivesBack (r : ℕ) (before behind : List Due) : Type 0 where
  pub came : List Due
  pub stands : behind ≡ filter (λ d. not (is_kept r d)) before ++ came
  pub unkept : any has_keeper came ≡ false
  pub in_order : IsPart (map future_in (filter (is_kept r) before)) (map future_in came)

module _ {T A : Type 0} where
  -- a wake queues it
  abbrev pub waits_idle : Plain T A → ℕ → Bool
  waits_idle p f = is_idle (task f p).phase && not (task f p).closed

  -- so it comes
  abbrev pub unkept : Plain T A → ℕ → Due
  unkept p f = record { future = f; mark = mark f p; keeper = None }

-- what was due stands as it stood, and behind it what came, which no run keeps
pub record ComesBehind (before behind : List Due) : Type 0 where
  pub came : List Due
  pub stands : behind ≡ before ++ came
  pub unkept : any has_keeper came ≡ false

abbrev pub is_no_run : {A : Type 0} → Taker A → Bool
is_no_run (Run r w) = false
is_no_run by = true

module _ {T A : Type 0} where
  -- where this code ends no run searches, nor goes
  abbrev pub ends_no_search : Code T A → Bool
  ends_no_search (Poll f by) = is_no_run by
  ends_no_search (Drop f end by) = is_no_run by
  ends_no_search (Lose awaiter by) = or by is_no_run true
  ends_no_search code = false

  abbrev pub innermost_searches_none : List (Code T A) → Bool
  innermost_searches_none [] = true
  innermost_searches_none (code ∷ rest) = ends_no_search code

  -- in this call nothing is taken, and no run goes
  abbrev pub takes_none : Call T A → List (Code T A) → Bool
  takes_none TryTick inside = false
  takes_none (PollTick t w) inside = false
  takes_none DropExecutor inside = false
  takes_none Pends inside = innermost_searches_none inside
  takes_none (EndsWith v) inside = innermost_searches_none inside
  takes_none Ends inside = innermost_searches_none inside
  takes_none call inside = true
