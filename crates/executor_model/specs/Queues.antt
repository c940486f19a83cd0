-- The executor's two queues, by the marks of the futures in them.
use Rattle.std.specs.Prelude.{ℕ, Option, None, List, ◌++◌}
use Rattle.queue_steps.specs.ClosableQueue.{ClosableQueue, new_queue}
use Rattle.executor_parts.specs.declared.mark.Mark.{Mark}
use Rattle.executor_parts.specs.declared.mark.Mark.TheVariants.{Plain, Urgent}

-- the Runnables, by their futures
pub record Queues : Type 0 where
  pub urgent : ClosableQueue ℕ
  pub plain : ClosableQueue ℕ

abbrev pub queue_in : Mark → Queues → ClosableQueue ℕ
queue_in Urgent qs = qs.urgent
queue_in Plain qs = qs.plain

abbrev pub with_queue : Mark → ClosableQueue ℕ → Queues → Queues
with_queue Urgent q qs = record qs { urgent = q }
with_queue Plain q qs = record qs { plain = q }

-- what stands in both
abbrev pub all_in : Queues → List ℕ
all_in qs = qs.urgent.items ++ qs.plain.items

abbrev pub new_queues : Option ℕ → Queues
new_queues places = record { urgent = new_queue places None; plain = new_queue places None }
