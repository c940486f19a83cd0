-- In which order a run takes the futures of each mark that alone takes futures: as they came into the list.
use Rattle.std.specs.Prelude.{◌≡◌, ℕ, ◌==◌, nat_lt, Bool, true, false, ◌&&◌, not, if◌then◌else◌, Option, is_some, List, [], ◌∷◌, ◌++◌}
use Rattle.std.specs.Prelude.{length, map, filter, drop, slice_get}
use Rattle.executor_parts.specs.declared.mark.Mark.{Mark}
use Rattle.executor_parts.specs.declared.mark.Mark.TheVariants.{Urgent}
use Rattle.executor_parts.specs.Marks.{same_mark}
use Rattle.plain_scheduler.specs.State.{Due, Future, Taker, Try, Tick, Run, Code, Poll, Drop, Lose, PollOwn, DropOwn, Close, Event, Polls}
use Rattle.plain_scheduler.specs.State.{Drops, Choice, Plain}
use Rattle.plain_scheduler.specs.Lists.{any, or}
use Rattle.plain_scheduler.specs.Moves.{is_common, is_kept, mark}
use Rattle.plain_scheduler.specs.Calls.{Call, TryTick, PollTick, PollRun, DropExecutor, Pends, EndsWith, Ends, course, does}

-- the futures of a mark that wait for run r, in order: those that it keeps, and behind them those without a keeper
abbrev pub is_kept_of : Mark → ℕ → Due → Bool
is_kept_of m r d = is_kept r d && same_mark m d.mark

abbrev pub line : Mark → ℕ → List Due → List ℕ
line m r due = map (λ (d : Due). d.future) (filter (is_kept_of m r) due ++ filter (is_common m) due)

-- the futures of both marks that wait for it
abbrev pub is_unkept : Due → Bool
is_unkept d = not (is_some d.keeper)

abbrev pub whole_line : ℕ → List Due → List ℕ
whole_line r due = map (λ (d : Due). d.future) (filter (is_kept r) due ++ filter is_unkept due)

-- whether another run keeps it
abbrev pub is_others : ℕ → Due → Bool
is_others r d = or d.keeper (λ k. not (r == k)) false

-- a tick or try takes one as it begins, and none behind that
abbrev pub is_try_or : ℕ → {A : Type 0} → Taker A → Bool
is_try_or r Try = true
is_try_or r (Tick t w) = true
is_try_or r (Run k w) = r == k

abbrev pub is_taker : ℕ → {A : Type 0} → Taker A → Bool
is_taker k Try = false
is_taker k (Tick t w) = false
is_taker k (Run j w) = k == j

module _ {T A : Type 0} where
  -- where this code ends, none takes a future but run r; nor does run r go
  abbrev pub leads_to : ℕ → Code T A → Bool
  leads_to r (Poll f by) = is_try_or r by
  leads_to r (Drop f end by) = is_try_or r by
  leads_to r (Lose awaiter by) = or by (is_try_or r) true
  leads_to r (PollOwn k w) = r == k
  leads_to r (DropOwn k answer) = not (r == k)
  leads_to r (Close fs all) = false

  abbrev pub innermost_leads_to : ℕ → List (Code T A) → Bool
  innermost_leads_to r [] = true
  innermost_leads_to r (code ∷ rest) = leads_to r code

  -- in this call none takes a future but run r; nor does run r go. A poll of a run takes none before its own future's poll ends
  abbrev pub leaves_to : ℕ → Call T A → List (Code T A) → Bool
  leaves_to r TryTick inside = false
  leaves_to r (PollTick t w) inside = false
  leaves_to r DropExecutor inside = false
  leaves_to r Pends inside = innermost_leads_to r inside
  leaves_to r (EndsWith v) inside = innermost_leads_to r inside
  leaves_to r Ends inside = innermost_leads_to r inside
  leaves_to r call inside = true

  -- a poll of run k
  abbrev pub polls : ℕ → Call T A → Bool
  polls k (PollRun j w) = k == j
  polls k call = false

  abbrev pub was_polled : ℕ → List (Choice × Call T A) → Bool
  was_polled k cs = any (λ (c : Choice × Call T A). polls k c.1) cs

  -- user code in a poll of run k
  abbrev pub is_of_run : ℕ → Code T A → Bool
  is_of_run k (Poll f by) = is_taker k by
  is_of_run k (Drop f end by) = is_taker k by
  is_of_run k (Lose awaiter by) = or by (is_taker k) false
  is_of_run k (PollOwn j w) = k == j
  is_of_run k code = false

  -- the call doesn't end the drop of a run that is polled
  abbrev pub goes_idle : Call T A → List (Code T A) → Bool
  goes_idle Ends (DropOwn k answer ∷ rest) = not (any (is_of_run k) rest)
  goes_idle call inside = true

  abbrev pub is_over : ℕ → Plain T A → Bool
  is_over k p = or (slice_get p.runs k) (λ run. run.is_over) true

  -- how many futures run r has taken since it last let others go first
  abbrev pub count : ℕ → Plain T A → ℕ
  count r p = or (slice_get p.runs r) (λ run. run.taken) 0

  -- the future whose poll or drop was the last thing seen
  abbrev pub begun_by : Event T A → List ℕ
  begun_by (Polls f) = f ∷ []
  begun_by (Drops f) = f ∷ []
  begun_by _ = []

  abbrev pub last_begun : List (Event T A) → List ℕ
  last_begun [] = []
  last_begun (e ∷ []) = begun_by e
  last_begun (e ∷ f ∷ es) = last_begun (f ∷ es)

  -- the future that run r took with a call, from p to q, if it took one: then it counts one more, and the future's poll, or its drop
  -- as that of a closed task, is what is seen last
  abbrev pub took : ℕ → Plain T A → Plain T A → List ℕ
  took r p q = if nat_lt (count r p) (count r q) then last_begun q.events else []

  abbrev pub of_mark : Mark → Plain T A → List ℕ → List ℕ
  of_mark m p fs = filter (λ f. same_mark m (mark f p)) fs

  abbrev pub took_of : Mark → ℕ → Plain T A → Plain T A → List ℕ
  took_of m r p q = of_mark m q (took r p q)

  -- those that came with a call: they stand behind as many as waited before it
  abbrev pub came_with : Mark → ℕ → Plain T A → Plain T A → List ℕ
  came_with m r p q = drop (length (line m r p.due)) (took_of m r p q ++ line m r q.due)

  abbrev pub all_came_with : ℕ → Plain T A → Plain T A → List ℕ
  all_came_with r p q = drop (length (whole_line r p.due)) (took r p q ++ whole_line r q.due)

  abbrev pub is_urgent : Future T A → Bool
  is_urgent x = same_mark Urgent x.mark

  module _ (wakes : A → Option ℕ) where
    -- in these calls none takes a future but run r, which goes in none of them
    abbrev pub takes_alone : ℕ → List (Choice × Call T A) → Plain T A → Bool
    takes_alone r [] p = true
    takes_alone r (c ∷ cs) p = leaves_to r c.1 p.inside && takes_alone r cs (does wakes c.0 c.1 p)

    -- the futures of a mark that run r takes in these calls, in order, and those that come in them
    abbrev pub taken : Mark → ℕ → List (Choice × Call T A) → Plain T A → List ℕ
    taken m r [] p = []
    taken m r (c ∷ cs) p = took_of m r p (does wakes c.0 c.1 p) ++ taken m r cs (does wakes c.0 c.1 p)

    abbrev pub came : Mark → ℕ → List (Choice × Call T A) → Plain T A → List ℕ
    came m r [] p = []
    came m r (c ∷ cs) p = came_with m r p (does wakes c.0 c.1 p) ++ came m r cs (does wakes c.0 c.1 p)

    -- those of both marks
    abbrev pub all_taken : ℕ → List (Choice × Call T A) → Plain T A → List ℕ
    all_taken r [] p = []
    all_taken r (c ∷ cs) p = took r p (does wakes c.0 c.1 p) ++ all_taken r cs (does wakes c.0 c.1 p)

    abbrev pub all_came : ℕ → List (Choice × Call T A) → Plain T A → List ℕ
    all_came r [] p = []
    all_came r (c ∷ cs) p = all_came_with r p (does wakes c.0 c.1 p) ++ all_came r cs (does wakes c.0 c.1 p)

    -- run r is there, and no other keeps a future; in these calls none takes a future but run r, which goes in none of them
    pub record IsAlone (r : ℕ) (cs : List (Choice × Call T A)) (p : Plain T A) : Type 0 where
      pub is_there : is_some (slice_get p.runs r) ≡ true
      pub keeps_alone : any (is_others r) p.due ≡ false
      pub takes_alone : takes_alone r cs p ≡ true

    -- what the run took of a mark, and behind it what waits, is what waited before, and behind it what came since
    abbrev pub InOrder : ℕ → List (Choice × Call T A) → Plain T A → Type 0
    InOrder r cs p =
        (m : Mark) → taken m r cs p ++ line m r (course wakes cs p).due ≡ line m r p.due ++ came m r cs p

    -- and so it is of all futures, where none is urgent
    abbrev pub InWholeOrder : ℕ → List (Choice × Call T A) → Plain T A → Type 0
    InWholeOrder r cs p =
        any is_urgent (course wakes cs p).futures ≡ false
        → all_taken r cs p ++ whole_line r (course wakes cs p).due ≡ whole_line r p.due ++ all_came r cs p

    -- as the poll of run r's own future ends with Pending, the run takes a future that is due
    abbrev pub TakesDue : Choice → ℕ → Plain T A → Type 0
    TakesDue c r p =
        (f : ℕ) × ((took r p (does wakes c Pends p) ≡ f ∷ []) × (any (λ (d : Due). f == d.future) p.due ≡ true))

    -- in these calls no run goes while it is polled
    abbrev pub all_go_idle : List (Choice × Call T A) → Plain T A → Bool
    all_go_idle [] p = true
    all_go_idle (c ∷ cs) p = goes_idle c.1 p.inside && all_go_idle cs (does wakes c.0 c.1 p)

    -- of the runs that were polled in these calls, from p on, only r isn't over
    abbrev pub IsOnlyBegun : ℕ → List (Choice × Call T A) → Plain T A → Type 0
    IsOnlyBegun r cs p = (k : ℕ) → was_polled k cs ≡ true → is_over k (course wakes cs p) ≡ false → k ≡ r
