-- One list on two roads: acts of a new machine, and calls on a new executor of one owner, of the same limit and kind. What is said of
-- both roads is said of such lists.
use Rattle.std.specs.Prelude.{◌≡◌, ◌≤◌, ℕ, List, ◌++◌, not}
use Rattle.queue_steps.specs.ClosableQueue.{most_accepted}
use Rattle.executor_model.specs.declared.kind.Kind.{Kind as MachineKind}
use Rattle.executor_model.specs.declared.op.Waker.{Waker}
use Rattle.executor_model.specs.Steps.{is_static_kind, start}
use Rattle.machine_roads.specs.View.{Output}
use Rattle.machine_roads.specs.Within.{Act}
use Rattle.plain_scheduler.specs.Calls.{Call, course, new}
use Rattle.plain_scheduler.specs.State.{Choice, Event, Plain, Who}
use Rattle.solo.specs.Solo.{IsNew, counts}
use Rattle.solo.specs.declared.names.Kind.{Kind}
use Rattle.solo.specs.declared.names.SoloWaker.{SoloWaker}
use Rattle.solo.specs.declared.owed.Lent.{Lent}
use Rattle.solo.specs.declared.solo.Solo.{Solo}
use Rattle.solo_laws.specs.Courses.{Leads}
use Rattle.solo_laws.specs.LastCalls.{LastCalls}
use Rattle.solo_laws.specs.Making.{MayGo, Wish, by_number, queued_by}
use Rattle.solo_laws.specs.Owner.{Owner, new_owner}
use Rattle.solo_laws.specs.Road.{wakes}
use Rattle.two_roads.specs.Acting.{AreOfSteps, EndOfSteps}
use Rattle.two_roads.specs.Renaming.{AreSame}
use Rattle.two_roads.specs.Together.{nothing, numbered}
use Rattle.two_roads.specs.Wishing.{AreWishesOfSteps}

-- the executor is new, and of the machine's limit and kind
pub record AreNew {F T X : Type 0} (limit : ℕ) (kind : MachineKind) (first : Solo F T X) : Type 0 where
  pub solo_kind : Kind
  pub is_new : IsNew limit solo_kind first
  pub counted : counts solo_kind ≡ not (is_static_kind kind)

-- its owner makes calls that are what the machine's steps begin or end in these acts: memory is refused to each as in its act, and a run
-- that robs another looks for whom from the same word on
pub record SameList {F T X : Type 0} (its : ℕ → Lent) (number : X → ℕ) (limit : ℕ) (kind : MachineKind) (parties : ℕ) (acts : List Act)
    (first : Solo F T X) (before : Who → ℕ) : Type 0 where
  pub both_new : AreNew limit kind first
  pub calls : List (Choice × Call T (SoloWaker X))
  pub last : Solo F T X
  pub shown : List (Event T (SoloWaker X))
  pub after : Owner
  pub led : Leads its calls (new_owner before) first (new limit (is_static_kind kind)) shown after last
  pub same : AreOfSteps number (start limit kind parties) acts led

-- the plain scheduler behind these calls
abbrev pub plain_of : {F T X : Type 0} {its : ℕ → Lent} {number : X → ℕ} {limit : ℕ} {kind : MachineKind} {parties : ℕ} {acts : List Act}
    {first : Solo F T X} {before : Who → ℕ} → SameList its number limit kind parties acts first before → Plain T (SoloWaker X)
plain_of {limit = limit} {kind = kind} l = course wakes l.calls (new limit (is_static_kind kind))

-- and behind them the executor is dropped on both roads, by this act: so are the calls made in the drops of its futures and behind that
pub record SameEnd {F T X : Type 0} {its : ℕ → Lent} {number : X → ℕ} {limit : ℕ} {kind : MachineKind} {parties : ℕ} {acts : List Act}
    {first : Solo F T X} {before : Who → ℕ} (l : SameList its number limit kind parties acts first before) (a : Act) (later : List Act)
    : Type 0 where
  pub ends : List (Choice × Call T (SoloWaker X))
  pub last : Solo F T X
  pub others : List (Event T (SoloWaker X))
  pub then_so : LastCalls its l.last (plain_of l) ends others last
  pub same : EndOfSteps number a later (plain_of l) ends

abbrev pub plain_behind_end : {F T X : Type 0} {its : ℕ → Lent} {number : X → ℕ} {limit : ℕ} {kind : MachineKind} {parties : ℕ}
    {acts : List Act} {first : Solo F T X} {before : Who → ℕ} {l : SameList its number limit kind parties acts first before} {a : Act}
    {later : List Act} → SameEnd l a later → Plain T (SoloWaker X)
plain_behind_end {limit = limit} {kind = kind} {l = l} e = course wakes (l.calls ++ e.ends) (new limit (is_static_kind kind))

-- the calls are these of a plain scheduler, by the same choices, but for the names of outputs and wakers
pub record SameChoices {F T X : Type 0} (its : ℕ → Lent) (number : X → ℕ) (limit : ℕ) (kind : MachineKind)
    (made : List (Choice × Call Output Waker)) (first : Solo F T X) (before : Who → ℕ) : Type 0 where
  pub both_new : AreNew limit kind first
  pub calls : List (Choice × Call T (SoloWaker X))
  pub last : Solo F T X
  pub shown : List (Event T (SoloWaker X))
  pub after : Owner
  pub led : Leads its calls (new_owner before) first (new limit (is_static_kind kind)) shown after last
  pub same : AreSame nothing (numbered number) wakes calls (new limit (is_static_kind kind)) made

-- and so they are to the end, from the executor's drop on
pub record SameChoicesToEnd {F T X : Type 0} (its : ℕ → Lent) (number : X → ℕ) (limit : ℕ) (kind : MachineKind)
    (made : List (Choice × Call Output Waker)) (first : Solo F T X) (before : Who → ℕ) : Type 0 where
  pub both_new : AreNew limit kind first
  pub calls : List (Choice × Call T (SoloWaker X))
  pub ends : List (Choice × Call T (SoloWaker X))
  pub middle : Solo F T X
  pub last : Solo F T X
  pub shown : List (Event T (SoloWaker X))
  pub others : List (Event T (SoloWaker X))
  pub after : Owner
  pub led : Leads its calls (new_owner before) first (new limit (is_static_kind kind)) shown after middle
  pub then_so : LastCalls its middle (course wakes calls (new limit (is_static_kind kind))) ends others last
  pub same : AreSame nothing (numbered number) wakes (calls ++ ends) (new limit (is_static_kind kind)) made

-- the owner wishes to make calls that are these acts, and may make each where those before it have led. They queue no more than a queue
-- accepts in its life
pub record SameWishes {F T X : Type 0} (number : X → ℕ) (limit : ℕ) (kind : MachineKind) (parties : ℕ) (acts : List Act)
    (first : Solo F T X) (before : Who → ℕ) : Type 0 where
  pub both_new : AreNew limit kind first
  pub wishes : List (Wish T (SoloWaker X))
  pub same : AreWishesOfSteps number (start limit kind parties) acts wishes
  pub enough : queued_by 0 wishes ≤ most_accepted
  pub may : MayGo by_number wishes (new_owner before) first (new limit (is_static_kind kind))
