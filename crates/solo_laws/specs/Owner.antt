-- What the owner of an executor knows of its ticks and runs.
use Rattle.std.specs.Prelude.{◌≡◌, ℕ, ◌==◌, nat_lt, if◌then◌else◌, Bool, true, false, List, [], ◌∷◌, find, None}
use Rattle.solo.specs.declared.names.SoloWaker.{SoloWaker}
use Rattle.solo.specs.declared.runs.Runner.{Runner}
use Rattle.solo.specs.declared.solo.Solo.{Solo}
use Rattle.solo.specs.Runs as runs
use Rattle.plain_scheduler.specs.State.{Plain, Who}
use Rattle.plain_scheduler.specs.Lists.{without}
use Rattle.plain_scheduler.specs.Moves.{lies}
use Rattle.solo_laws.specs.Road.{is_in}

pub record Owner : Type 0 where
  -- under which number each sleeps
  pub number : Who → ℕ
  -- the ticks that were made and haven't gone
  pub ticks : List ℕ
  -- what each run has counted, and whether the last it took was to let others go first
  pub runner : ℕ → Runner
  pub gives_way : ℕ → Bool

-- of a new executor
abbrev pub new_owner : (Who → ℕ) → Owner
new_owner number = record { number = number; ticks = []; runner = runs.new_runner; gives_way = λ r. false }

abbrev pub has_tick : ℕ → Owner → Bool
has_tick t owner = is_in t owner.ticks

abbrev pub with_tick : ℕ → Owner → Owner
with_tick t owner = record owner { ticks = t ∷ owner.ticks }

abbrev pub without_tick : ℕ → Owner → Owner
without_tick t owner = record owner { ticks = without (λ u. t == u) owner.ticks }

abbrev pub renumbered : (Who → ℕ) → Owner → Owner
renumbered number owner = record owner { number = number }

-- a run is as its owner has it; it has taken one more; it has let others go first
abbrev pub HasRunner : Runner → Owner → Type 0
HasRunner runner owner = owner.runner runner.number ≡ runner

abbrev pub set : {A : Type 0} → ℕ → A → (ℕ → A) → ℕ → A
set r new of k = if k == r then new else of k

abbrev pub taken_by_run : Runner → Owner → Owner
taken_by_run runner owner =
    record owner {
      runner = set runner.number (runs.taken (runs.counted runner)) owner.runner;
      gives_way = set runner.number (runs.gives_way runner) owner.gives_way;
    }

abbrev pub given_way : ℕ → Owner → Owner
given_way r owner = record owner { gives_way = set r false owner.gives_way }

-- where it doesn't lie fewer sleep than may
abbrev pub HasRoom : {F T X : Type 0} → Who → Solo F T X → Plain T (SoloWaker X) → Type 0
HasRoom who s p = find (lies who) p.lying ≡ None → nat_lt s.sleepers.count s.sleepers.rooms ≡ true
