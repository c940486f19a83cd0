-- How many turns of the executor's two queues a call takes: so many the machine, and so many the executor of one owner.
use Rattle.std.specs.Prelude.{ℕ, zero, suc, ◌+◌, ◌^◌, ◌%◌, if◌then◌else◌, Option}
use Rattle.executor_parts.specs.declared.mark.Mark.TheVariants.{Plain as PlainMark, Urgent}
use Rattle.plain_scheduler.specs.State.{ATick, Choice, Plain, Refusal}
use Rattle.plain_scheduler.specs.Lists.{any, or}
use Rattle.plain_scheduler.specs.Moves.{is_common}
use Rattle.plain_scheduler.specs.Calls.{Call, PollTick, TryTick}
use Rattle.plain_scheduler.specs.Searches.{searches}
use Rattle.plain_scheduler.specs.Usual.{run_turns, vain_turns}

-- a tick's poll takes one where a future without a keeper is due, and else those of a search in vain
abbrev pub tick_turns : {T A : Type 0} → Refusal → ℕ → Plain T A → ℕ
tick_turns refusal t p =
    if any (is_common PlainMark) p.due then 1
    else (if any (is_common Urgent) p.due then 1 else vain_turns refusal (ATick t) p.lying)

-- a try takes one; a call in which a run searches takes those of that search; and any other none
abbrev pub turns_of : {T A : Type 0} → (A → Option ℕ) → Choice → Call T A → Plain T A → ℕ
turns_of wakes c TryTick p = 1
turns_of wakes c (PollTick t w) p = tick_turns c.refusal t p
turns_of wakes c call p = or (searches wakes c call p) (run_turns c.refusal) 0

-- what the turn of the executor of one owner is so many later
abbrev pub turned_in : ℕ → ℕ → ℕ
turned_in zero n = n
turned_in (suc k) n = turned_in k ((n + 1) % 2 ^ 64)
