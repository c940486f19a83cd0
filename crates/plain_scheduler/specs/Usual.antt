-- How both executors choose what the plain scheduler leaves free as a run takes a future: no part of the plain scheduler.
use Rattle.std.specs.Prelude.{◌≡◌, ℕ, zero, suc, ◌+◌, ◌-◌, ◌/◌, ◌%◌, ◌==◌, ◌&&◌, nat_lt, Bool, true, false, if◌then◌else◌}
use Rattle.std.specs.Prelude.{List, [], ◌∷◌, ◌++◌, length, find, take, drop, count_by, slice_get, is_some, Option, Some}
use Rattle.executor_parts.specs.declared.mark.Mark.{Mark}
use Rattle.executor_parts.specs.declared.mark.Mark.TheVariants.{Plain as PlainMark, Urgent}
use Rattle.executor_parts.specs.Marks.{turn_after}
use Rattle.plain_scheduler.specs.State.{ARun, AtOnce, Choice, Code, DropOwn, Due, Lying, Plain, Refusal, Run, Who}
use Rattle.plain_scheduler.specs.Lists.{any, each, or, without}
use Rattle.plain_scheduler.specs.Moves.{chosen, is_common, is_kept, lies, looks}
use Rattle.plain_scheduler.specs.Moves as moves
use Rattle.plain_scheduler.specs.Takes as takes
use Rattle.plain_scheduler.specs.Calls.{Call, Ends, PollRun}
use Rattle.plain_scheduler.specs.Searches.{Search, finds, searches}

-- of so many it takes half, rounded up, and at most as many as it has places for
abbrev pub share : ℕ → ℕ → ℕ
share n free = if nat_lt ((n + 1) / 2) free then (n + 1) / 2 else free

abbrev pub so_many : ℕ → Mark → List Mark
so_many zero mark = []
so_many (suc n) mark = mark ∷ so_many n mark

-- which futures are counted: each run counts those that it takes, and with every 64th it begins anew
abbrev pub is_64th : ℕ → Bool
is_64th n = n + 1 == 64

abbrev pub one_counted : ℕ → ℕ
one_counted n = if is_64th n then 0 else n + 1

-- none is due that it keeps, and none that nobody keeps
pub record IsKeptByOthers (r : ℕ) (due : List Due) : Type 0 where
  pub mine : any (is_kept r) due ≡ false
  pub plain : any (is_common PlainMark) due ≡ false
  pub urgent : any (is_common Urgent) due ≡ false

-- the list from the place on that a starting word names, and round it
abbrev pub from_start : ℕ → List ℕ → List ℕ
from_start start order = let at = start % length order in drop at order ++ take at order

-- the first of these runs that keeps any
abbrev pub first_keeper : List ℕ → List Due → ℕ
first_keeper order due = or (find (λ k. any (is_kept k) due) order) (λ k. k) 0

module _ {T A : Type 0} (wakes : A → Option ℕ) (c : Choice) where
  module _ (r : ℕ) where
    -- it has 512 places
    abbrev pub places : Plain T A → ℕ
    places p = 512 - count_by (is_kept r) p.due

    -- which it then keeps of one mark, and of both, the urgent ones first
    abbrev pub next_ones : Mark → Plain T A → List Mark
    next_ones mark p = so_many (share (count_by (is_common mark) p.due) (places p)) mark

    abbrev pub keeping : List Mark → Plain T A → Plain T A
    keeping marks p = each marks (λ mark. moves.keeps r (is_common mark)) p

    abbrev pub of_both : Plain T A → List Mark
    of_both p = let urgent = next_ones Urgent p in urgent ++ next_ones PlainMark (keeping urgent p)

    -- it has taken d, which nobody kept, or whom it robbed of it
    abbrev pub beside : Due → Plain T A → List Mark
    beside d p = or d.keeper (λ k. []) (next_ones d.mark p)

    -- once it is up and has told, it keeps of both with every 64th
    abbrev pub up_and_told : Due → Plain T A → Plain T A
    up_and_told d p = moves.tell wakes c (moves.up wakes c (ARun r) (takes.robbed wakes c r d.keeper p))

    abbrev pub usual_keeps : Bool → Due → Plain T A → List Mark
    usual_keeps last d p =
        let marks = beside d p in marks ++ (if last then of_both (keeping marks (up_and_told d p)) else [])

  -- a run that takes a future looks first at this mark, and has counted so many
  pub record TakesAsUsual (first : Mark) (counted : ℕ) (x : Search T A) : Type 0 where
    pub first_so : any (is_kept x.run) x.at.due ≡ false → c.first ≡ first
    pub keeps_so : (d : Due) → let test = chosen (looks c (Run x.run x.waker)) x.at.due in
        find test x.at.due ≡ Some d
        → c.keeps ≡ usual_keeps x.run (is_64th counted) d (record x.at { due = without test x.at.due })
    pub moves_so : IsKeptByOthers x.run x.at.due
        → c.moves ≡ share (count_by (is_kept c.robs) x.at.due) (places x.run x.at) - 1

  -- it robs the first, from its starting word on, of the runs in the order in which they were first polled
  abbrev pub RobsAsUsual : List ℕ → ℕ → Search T A → Type 0
  RobsAsUsual order start x = IsKeptByOthers x.run x.at.due → c.robs ≡ first_keeper (from_start start order) x.at.due

  -- and so it is in a call in which it searches
  abbrev pub IsUsual : Mark → (ℕ → ℕ) → Call T A → Plain T A → Type 0
  IsUsual first counted call p =
      (x : Search T A) → searches wakes c call p ≡ Some x → finds x ≡ true → TakesAsUsual first (counted x.run) x

  -- so many each run has counted behind the call
  abbrev pub counted_by : Call T A → Plain T A → (ℕ → ℕ) → ℕ → ℕ
  counted_by call p counted k =
      or (searches wakes c call p) (λ x. if (k == x.run) && finds x then one_counted (counted k) else counted k) (counted k)

-- it lies, and wasn't called
abbrev pub lies_uncalled : {A : Type 0} → Who → List (Lying A) → Bool
lies_uncalled who ls = or (find (lies who) ls) (λ l. is_some l.waker) false

-- who lies down searches again; one to whom memory is refused at once doesn't lie down
abbrev pub searches_by : Refusal → ℕ
searches_by AtOnce = 1
searches_by _ = 2

-- how many turns of the executor's two queues who finds nothing takes, and a run that searches: none where it keeps one itself
abbrev pub vain_turns : {A : Type 0} → Refusal → Who → List (Lying A) → ℕ
vain_turns refusal who ls = if lies_uncalled who ls then 1 else searches_by refusal

abbrev pub run_turns : {T A : Type 0} → Refusal → Search T A → ℕ
run_turns refusal x =
    if any (is_kept x.run) x.at.due then 0 else (if finds x then 1 else vain_turns refusal (ARun x.run) x.at.lying)

-- what the machine's turn is so many later
abbrev pub turned : ℕ → ℕ → ℕ
turned zero n = n
turned (suc k) n = turned k (turn_after n)

-- in which order runs were first polled, of those that haven't gone
abbrev pub with_run : ℕ → List ℕ → List ℕ
with_run r order = if any (λ k. r == k) order then order else order ++ r ∷ []

abbrev pub order_in : {T A : Type 0} → List (Code T A) → List ℕ → List ℕ
order_in (DropOwn r answer ∷ codes) order = without (λ k. r == k) order
order_in codes order = order

abbrev pub order_by : {T A : Type 0} → Call T A → Plain T A → List ℕ → List ℕ
order_by (PollRun r w) p order = if or (slice_get p.runs r) (λ run. run.is_over) true then order else with_run r order
order_by Ends p order = order_in p.inside order
order_by call p order = order
