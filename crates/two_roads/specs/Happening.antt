-- Acts of the machine, as calls that the owner of an executor makes.
use Rattle.std.specs.Prelude.{◌≡◌, ℕ, ◌+◌, ◌*◌, ◌^◌, ◌<◌, ◌≤◌, true, false, List, [], ◌∷◌, length, Some, None}
use Rattle.executor_model.specs.declared.call.Call.TheVariants as call
use Rattle.executor_model.specs.declared.step.Step.{Step}
use Rattle.executor_model.specs.declared.step.Step.TheVariants.{Begin}
use Rattle.executor_model.specs.declared.op.Waker.{Waker}
use Rattle.executor_model.specs.declared.op.Waker.TheVariants.{Task as TaskWaker, Outside as OutsideWaker}
use Rattle.executor_model.specs.declared.kind.Kind.{Kind as MachineKind}
use Rattle.executor_model.specs.Steps.{Machine, lives, start}
use Rattle.executor_model.specs.World.{tick_of}
use Rattle.solo.specs.declared.names.SoloWaker.{SoloWaker}
use Rattle.solo.specs.declared.names.SoloWaker.TheVariants.{Task as OfTask, Outside}
use Rattle.solo.specs.declared.solo.Solo.{Solo}
use Rattle.solo.specs.Solo.{sought}
use Rattle.task_moves.specs.AbstractTask as abstract
use Rattle.task_moves.specs.LocalTask.{references_of}
use Rattle.plain_scheduler.specs.Moves.{task}
use Rattle.plain_scheduler.specs.State.{Choice, Event, Plain, Refusal, Who}
use Rattle.plain_scheduler.specs.Calls.{Call, Copy, Ends, Pends, PollHandle, PollTick, Spawn, does, is_granted}
use Rattle.plain_scheduler.specs.Searches.{Search, finds, searches}
use Rattle.machine_roads.specs.Seeing.{heard_in}
use Rattle.machine_roads.specs.View.{Output}
use Rattle.machine_roads.specs.Within.{Act, IsMade}
use Rattle.solo_laws.specs.Courses.{Acts}
use Rattle.solo_laws.specs.Making.{HasNoRoom, HasNumber, WakersAreKnown, by_number, left_in, queues_at_most}
use Rattle.solo_laws.specs.Owner.{Owner, has_tick}
use Rattle.solo_laws.specs.Road.{HasLife, apart, wakes}
use Rattle.solo_laws.specs.Tabled.{named}
use Rattle.two_roads.specs.Acting.{IsOfStep, WalksAlike, left_of}
use Rattle.two_roads.specs.Refusing.{has_to_wait, refused_in}
use Rattle.two_roads.specs.Renaming.{call_as}
use Rattle.two_roads.specs.SameList.{SameList}
use Rattle.two_roads.specs.Together.{as_heard}

-- a call of the machine's as one of the executor's: an output is this one, and of each waker from outside there is one by its number
module _ {T X : Type 0} (value : T) (outside : ℕ → X) where
  abbrev pub waker_by : Waker → SoloWaker X
  waker_by (TaskWaker f) = OfTask (named by_number f)
  waker_by (OutsideWaker x) = Outside (outside x)

  abbrev pub call_by : Call Output Waker → Call T (SoloWaker X)
  call_by call = call_as (λ v. value) waker_by call

-- both name alike: runs are polled by wakers of futures that came, and the owner's ticks, each there once, are the machine's that live
pub record NamesAlike {F T X : Type 0} (s : Machine) (owner : Owner) (y : Solo F T X) (p : Plain T (SoloWaker X)) : Type 0 where
  pub wakers : WakersAreKnown by_number owner y p
  pub ticks : (t : ℕ) → has_tick t owner ≡ lives (tick_of s.world t)
  pub once : apart owner.ticks ≡ true

module _ {T X : Type 0} where
  -- somebody has a waker of a task, or it is queued or polled; and it has two references fewer than it may
  abbrev pub MayBeCopied : SoloWaker X → Plain T (SoloWaker X) → Type 0
  MayBeCopied (OfTask t) q = (0 < references_of (task t.number q)) × (references_of (task t.number q) + 1 < 2 ^ 40)
  MayBeCopied (Outside x) q = Unit {0}

  -- somebody has a waker of a task, or it is queued or polled; and a copy of that is refused only where it has as many references as it may
  abbrev pub IsRefusedIfMany : Refusal → SoloWaker X → Plain T (SoloWaker X) → Type 0
  IsRefusedIfMany refusal (OfTask t) q =
      (0 < references_of (task t.number q)) × (is_granted refusal ≡ false → 2 ^ 40 ≤ references_of (task t.number q))
  IsRefusedIfMany refusal (Outside x) q = Unit {0}

module _ {F T X : Type 0} (number : X → ℕ) (s : Machine) (a : Act) (owner : Owner) (y : Solo F T X) (p : Plain T (SoloWaker X)) where
  -- of the waker of a run that searches in vain copies may be had
  abbrev pub VainCanCopy : Call T (SoloWaker X) → Type 0
  VainCanCopy call =
      (c : Choice) (x : Search T (SoloWaker X)) → searches wakes c call p ≡ Some x → finds x ≡ false → MayBeCopied x.waker x.at

  -- memory for a future is refused in it only if the executor has no room
  abbrev pub FitsMemory : Call T (SoloWaker X) → Type 0
  FitsMemory (Spawn mark) = is_granted (refused_in s a) ≡ false → HasNoRoom by_number owner y p
  FitsMemory (Copy f) = IsRefusedIfMany (refused_in s a) (OfTask (named by_number f)) p
  FitsMemory (PollHandle f w) = has_to_wait (abstract.polled (task f p)) ≡ true → IsRefusedIfMany (refused_in s a) w p
  FitsMemory (PollTick t w) = sought y ≡ None → MayBeCopied w p
  FitsMemory Pends = VainCanCopy Pends
  FitsMemory Ends = VainCanCopy Ends
  FitsMemory call = Unit {0}

  -- its queues may accept as many tasks as the call may queue, and a future that comes, or a run, has a number
  pub record HasMeans (call : Call T (SoloWaker X)) : Type 0 where
    pub life : HasLife (queues_at_most (length y.table.entries) (left_in by_number owner y p p.inside) call) y.lines
    pub has_number : HasNumber by_number owner y p call
    pub memory : FitsMemory call

  -- the owner makes the call that the act is, and both name alike behind it
  pub record IsActed : Type 0 where
    pub call : Call T (SoloWaker X)
    pub choice : Choice
    pub shown : List (Event T (SoloWaker X))
    pub now : Owner
    pub after : Solo F T X
    pub acts : Acts by_number owner choice y p call shown now after
    pub tells : length p.lying < choice.tells
    pub of : IsOfStep number s a p choice call
    pub walks : WalksAlike number s a acts
    pub names : NamesAlike a.left now after (does wakes choice call p)

  -- that call
  abbrev pub MayAct : T → (ℕ → X) → Type 0
  MayAct value outside = (made : Call Output Waker) → IsMade s a.party a.first made → HasMeans (call_by value outside made)

-- how many tasks an act queues at most, where there are so many futures: a leak, a new run as it goes, and any other
abbrev pub act_queues : ℕ → Step → ℕ
act_queues futures (Begin p call.IsEmpty) = 0
act_queues futures (Begin p (call.Copy k)) = 0
act_queues futures (Begin p call.Keep) = 0
act_queues futures (Begin p call.NewTick) = 0
act_queues futures (Begin p (call.PollRun r by)) = 0
act_queues futures (Begin p (call.DropRun r)) = 0
act_queues futures (Begin p call.Leak) = 6 * futures
act_queues futures (Begin p call.NewRun) = 3 * 512
act_queues futures step = 15

abbrev pub comes_in : Step → ℕ
comes_in (Begin p (call.Spawn mark)) = 1
comes_in step = 0

-- how many tasks a list of acts queues at most, where so many futures came before it
abbrev pub queued_in : ℕ → List Act → ℕ
queued_in came [] = 0
queued_in came (a ∷ acts) = act_queues came a.first + queued_in (came + comes_in a.first) acts

module _ {F T X : Type 0} (number : X → ℕ) (value : T) (outside : ℕ → X) where
  -- memory is as each of these acts has it, wherever those before it have led
  abbrev pub MemoryFits : List Act → Machine → Owner → Solo F T X → Plain T (SoloWaker X) → Type 0
  MemoryFits [] s owner y p = Unit {0}
  MemoryFits (a ∷ acts) s owner y p =
      ((made : Call Output Waker) → IsMade s a.party a.first made → FitsMemory number s a owner y p (call_by value outside made))
      × ((it : IsActed number s a owner y p) → MemoryFits acts a.left it.now it.after (does wakes it.choice it.call p))

-- a new executor's owner makes the calls that a new machine's acts are, and what is shown is what the machine's trace tells of
pub record AreActed {F T X : Type 0} (number : X → ℕ) (limit : ℕ) (kind : MachineKind) (parties : ℕ) (acts : List Act)
    (first : Solo F T X) (before : Who → ℕ) : Type 0 where
  pub same : SameList by_number number limit kind parties acts first before
  pub told : heard_in (left_of (start limit kind parties) acts).world.trace ≡ as_heard number same.shown
