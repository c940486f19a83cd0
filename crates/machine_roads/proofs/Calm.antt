-- Changes of a task by which nobody comes to await one whose future is dropped.
use Rattle.std.proofs.Common.{◌≡◌, ◌-◌, ◌==◌, ◌&&◌, ◌||◌, not, Bool, true, false, None, is_some, if◌then◌else◌, refl}
use Rattle.task_moves.specs.AbstractTask as abstract
use Rattle.task_moves.specs.AbstractTask.{AbstractTask, Phase, Idle, Queued, Polling, PollingWoken, Finished}
use Rattle.executor_model.specs.declared.op.Waker.{Waker}
use Rattle.machine_roads.specs.View.{Output}
use Rattle.machine_roads.specs.Moving.{cancelled}

abbrev pub IsCalm : AbstractTask Output Waker → Type 0
IsCalm t = abstract.is_over t.phase ≡ true → t.awaiter ≡ None

pub wake_calm : (t : AbstractTask Output Waker) → IsCalm t → IsCalm (abstract.wake t)
wake_calm t calm = by t.closed t.phase refl
  where
    by : (closed : Bool) (phase : Phase) → t.phase ≡ phase → IsCalm (if closed then t else abstract.wake_open phase t)
    by true phase is = calm
    by false Idle is = λ over. absurd cc
    by false Queued is = calm
    by false Polling is = λ over. absurd cc
    by false PollingWoken is = calm
    by false Finished is = calm

closing_calm : (u : AbstractTask Output Waker) → IsCalm u → IsCalm (abstract.close_forgotten u)
closing_calm u calm =
    by (abstract.is_idle u.phase && (not u.closed && (not u.handle && (u.wakers == 0)))) (abstract.is_idle u.phase)
  where
    by : (b c : Bool) → IsCalm (if b then record (if c then abstract.queue false u else u) { closed = true } else u)
    by true true = λ over. absurd cc
    by true false = calm
    by false c = calm

pub release_calm : (t : AbstractTask Output Waker) → IsCalm t → IsCalm (abstract.release t)
release_calm t calm = closing_calm (record t { wakers = t.wakers - 1 }) calm

pub detach_calm : (t : AbstractTask Output Waker) → IsCalm t → IsCalm (abstract.detach t).task
detach_calm t calm = closing_calm (record t { handle = false; closed = t.closed || is_some t.output; output = None }) calm

pub cancelled_calm : (t : AbstractTask Output Waker) → IsCalm t → IsCalm (cancelled t)
cancelled_calm t calm = by (t.closed || abstract.is_over t.phase) (abstract.is_idle t.phase)
  where
    by : (b c : Bool)
        → IsCalm (record (if b then abstract.left t else record {
          task = record (record (if c then abstract.queue false t else t) { closed = true }) { awaiter = None };
          called = t.awaiter;
          dropped = None;
          let_go = None;
        }).task { awaiter = t.awaiter })
    by true c = calm
    by false true = λ over. absurd cc
    by false false = calm
