-- For all laws.
-- The types of the machine under one roof: its calls, events, operations and steps, with marks and the moves of a task.
pub use Rattle.executor_model.specs.declared.{call.By.By, call.Call.Call, call.Reply.Reply, kind.Kind.Kind}
pub use Rattle.executor_model.specs.declared.{event.Answer.Answer, event.Event.Event, op.Awaiter.Awaiter, op.Hold.Hold, op.Op.Op}
pub use Rattle.executor_model.specs.declared.{op.ClosingOp.ClosingOp, op.HandleOp.HandleOp, op.ListOp.ListOp, op.Look.Look}
pub use Rattle.executor_model.specs.declared.{op.Polled.Polled, op.QueueOp.QueueOp, op.RunOp.RunOp, op.RunPoll.RunPoll}
pub use Rattle.executor_model.specs.declared.{op.Section.Section, op.SleeperOp.SleeperOp, op.Sleeping.Sleeping, op.Source.Source}
pub use Rattle.executor_model.specs.declared.{op.Steal.Steal, op.StealOp.StealOp, op.TableOp.TableOp, op.Then.Then}
pub use Rattle.executor_model.specs.declared.{op.TickOp.TickOp, op.TickOrRun.TickOrRun, op.UserOp.UserOp, op.Waker.Waker}
pub use Rattle.executor_model.specs.declared.{op.WakerOp.WakerOp, step.Hint.Hint, step.Step.Step, step.StepError.StepError}
pub use Rattle.executor_model.specs.declared.{step.UserEnd.UserEnd}
pub use Rattle.executor_model.specs.declared.op.Look.TheVariants.{First, Second}
pub use Rattle.executor_model.specs.declared.op.Source.TheVariants.{Common, Own}
pub use Rattle.executor_model.specs.declared.op.Waker.TheVariants.{Task, Outside}
pub use Rattle.executor_model.specs.declared.step.Step.TheVariants.{Begin, Go}
pub use Rattle.executor_model.specs.declared.step.StepError.TheVariants.{Busy, Gone, NoSuch, WrongAnswer}
pub use Rattle.executor_parts.specs.declared.mark.Mark.{Mark}
pub use Rattle.executor_parts.specs.declared.mark.Mark.TheVariants.{Plain, Urgent}
pub use Rattle.task_moves.specs.declared.moves.owed.{Move.Move, Moved.Moved, Owed.Owed}
pub use Rattle.task_moves.specs.declared.moves.state.State.{State}
