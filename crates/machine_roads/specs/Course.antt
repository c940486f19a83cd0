-- Lists of lone calls of a machine are lists of calls of the plain scheduler, with one definition of what is chosen.
use Rattle.std.specs.Prelude.{◌≡◌, ℕ, ◌<◌, List, [], ◌∷◌, length, Some, None}
use Rattle.executor_parts.specs.declared.mark.Mark.{Mark}
use Rattle.executor_parts.specs.Marks.{first_of}
use Rattle.executor_model.specs.declared.call.By.{By}
use Rattle.executor_model.specs.declared.call.Call.{Call}
use Rattle.executor_model.specs.declared.call.Call.TheVariants as call
use Rattle.executor_model.specs.declared.kind.Kind.{Kind}
use Rattle.executor_model.specs.declared.op.Waker.{Waker}
use Rattle.executor_model.specs.declared.step.Step.{Step}
use Rattle.executor_model.specs.Steps.{Machine, is_static_kind, kept, start, waker_of}
use Rattle.executor_model.specs.World.{World}
use Rattle.executor_laws.specs.LoneEnds.{IsLoneCall}
use Rattle.plain_scheduler.specs.State.{Choice, Plain}
use Rattle.plain_scheduler.specs.Calls as plain
use Rattle.plain_scheduler.specs.Calls.{does, new}
use Rattle.machine_roads.specs.View.{Output, wakes}
use Rattle.machine_roads.specs.Road.{Follows}
use Rattle.machine_roads.specs.Lone.{Ended}

-- the machine looks first at the mark that the turn names, and tells who lay down last
pub record IsChosen (w : World) (q : Plain Output Waker) (c : Choice) : Type 0 where
  pub first : c.first ≡ first_of w.urgent_turns
  pub tells : length q.lying < c.tells

-- which call of the plain scheduler it is: a kept waker is that of its future
pub data IsCall (w : World) : Call → plain.Call Output Waker → Type 0 where
  spawn : (m : Mark) → IsCall w (call.Spawn m) (plain.Spawn m)
  try_tick : IsCall w call.TryTick plain.TryTick
  is_empty : IsCall w call.IsEmpty plain.IsEmpty
  use_waker : (k f : ℕ) → kept w k ≡ Some f → IsCall w (call.Wake k) (plain.Use f)
  wake : (k f : ℕ) → kept w k ≡ Some f → IsCall w (call.WakeByRef k) (plain.Wake f)
  copy : (k f : ℕ) → kept w k ≡ Some f → IsCall w (call.Copy k) (plain.Copy f)
  release : (k f : ℕ) → kept w k ≡ Some f → IsCall w (call.DropWaker k) (plain.Release f)
  poll_handle : (f : ℕ) (b : By) → IsCall w (call.PollHandle f b) (plain.PollHandle f (waker_of None b))
  cancel : (f : ℕ) → IsCall w (call.Cancel f) (plain.Cancel f)
  detach : (f : ℕ) → IsCall w (call.Detach f) (plain.Detach f)
  drop_handle : (f : ℕ) → IsCall w (call.DropHandle f) (plain.DropHandle f)
  new_tick : IsCall w call.NewTick plain.NewTick
  poll_tick : (t : ℕ) (b : By) → IsCall w (call.PollTick t b) (plain.PollTick t (waker_of None b))
  drop_tick : (t : ℕ) → IsCall w (call.DropTick t) (plain.DropTick t)
  new_run : IsCall w call.NewRun plain.NewRun
  poll_run : (r : ℕ) (b : By) → IsCall w (call.PollRun r b) (plain.PollRun r (waker_of None b))
  drop_run : (r : ℕ) → IsCall w (call.DropRun r) (plain.DropRun r)
  leak : IsCall w call.Leak plain.Leak
  drop_executor : IsCall w call.DropExecutor plain.DropExecutor

-- the plain scheduler makes that call, with what is chosen so, and the code that it comes to ends
pub record GoesBy (w : World) (c : Call) (q r : Plain Output Waker) : Type 0 where
  pub choice : Choice
  pub made : plain.Call Output Waker
  pub chosen : IsChosen w q choice
  pub is : IsCall w c made
  pub ended : Ended (does wakes choice made q) r
  pub inside : r.inside ≡ q.inside

-- a lone call by these steps, and the machine that it leaves
pub record Lone : Type 0 where
  pub party : ℕ
  pub call : Call
  pub steps : List Step
  pub left : Machine

-- one after the other
abbrev pub AreLone : Machine → List Lone → Type 0
AreLone s [] = Unit {0}
AreLone s (l ∷ ls) = IsLoneCall l.party l.call l.steps s l.left × AreLone l.left ls

-- both stand alike at each moment at which a call has ended
abbrev pub GoAlike : Machine → Plain Output Waker → List Lone → Type 0
GoAlike s q [] = Follows s.world q
GoAlike s q (l ∷ ls) = Follows s.world q × ((r : Plain Output Waker) × GoesBy s.world l.call q r × GoAlike l.left r ls)

-- so it is from the beginning
abbrev pub ListsGoAlike : Type 0
ListsGoAlike =
    (limit : ℕ) (kind : Kind) (parties : ℕ) (ls : List Lone) → AreLone (start limit kind parties) ls
    → GoAlike (start limit kind parties) (new limit (is_static_kind kind)) ls
