-- The text of the first word of a command.
use Rattle.std.specs.Prelude.{ℕ, List, codes}
use Rattle.executor_parts.specs.declared.mark.Mark.{Mark}
use Rattle.executor_parts.specs.declared.mark.Mark.TheVariants as mark
use Rattle.script.specs.declared.word.Word.{Word}
use Rattle.script.specs.declared.word.Word.TheVariants.{Spawn, Urgent, Try, Empty, Wake, Unkeep, Poll, Cancel, Detach, Drop}
use Rattle.script.specs.declared.word.Word.TheVariants.{Tick, PollTick, DropTick, Run, PollRun, DropRun, Leak, End, Begin, Go, Finish}

-- that of a spawn with this mark
abbrev pub word_of_spawn : Mark → Word
word_of_spawn mark.Plain = Spawn
word_of_spawn mark.Urgent = Urgent

abbrev pub word_text : Word → List ℕ
word_text Spawn = codes "spawn"
word_text Urgent = codes "urgent"
word_text Try = codes "try"
word_text Empty = codes "empty"
word_text Wake = codes "wake"
word_text Unkeep = codes "unkeep"
word_text Poll = codes "poll"
word_text Cancel = codes "cancel"
word_text Detach = codes "detach"
word_text Drop = codes "drop"
word_text Tick = codes "tick"
word_text PollTick = codes "polltick"
word_text DropTick = codes "droptick"
word_text Run = codes "run"
word_text PollRun = codes "pollrun"
word_text DropRun = codes "droprun"
word_text Leak = codes "leak"
word_text End = codes "end"
word_text Begin = codes "begin"
word_text Go = codes "go"
word_text Finish = codes "finish"
