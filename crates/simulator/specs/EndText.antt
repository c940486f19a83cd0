-- What is printed at the end of a command: its first word, and how it ended.
use Rattle.std.specs.Prelude.{ℕ, List, ◌++◌, codes}
use Rattle.std.specs.Fmt.{decimal}
use Rattle.executor_model.specs.declared.call.Reply.TheVariants.{Made, Full, Yes, No, Done, NoMemory}
use Rattle.executor_model.specs.declared.call.Reply.TheVariants.{Pending, Ready, Cancelled, Finished}
use Rattle.simulator.specs.declared.moment.Outcome.{Outcome}
use Rattle.executor_model.specs.declared.call.Reply.{Reply}
use Rattle.simulator.specs.declared.moment.Outcome.TheVariants.{Answered, Output, NotPossible, Waits}
use Rattle.script.specs.declared.ending.Ending.{Ending}
use Rattle.script.specs.declared.ending.Ending.TheVariants as ending
use Rattle.script.specs.declared.word.Word.{Word}
use Rattle.script.specs.EndingText.{ending_text}
use Rattle.script.specs.WordText.{word_text}

abbrev pub ending_of : Reply → Ending
ending_of Made = ending.Made
ending_of Full = ending.Full
ending_of Yes = ending.Yes
ending_of No = ending.No
ending_of Done = ending.Done
ending_of NoMemory = ending.NoMemory
ending_of Pending = ending.Pending
ending_of Ready = ending.Ready
ending_of Cancelled = ending.Cancelled
ending_of Finished = ending.Finished

abbrev pub outcome_text : Outcome → List ℕ
outcome_text (Answered reply) = ending_text (ending_of reply)
outcome_text (Output value) = ending_text ending.Ready ++ codes " " ++ decimal value
outcome_text NotPossible = ending_text ending.NotPossible
outcome_text Waits = ending_text ending.Waits

abbrev pub end_text : Word → Outcome → List ℕ
end_text word outcome = word_text word ++ codes ": " ++ outcome_text outcome ++ codes "\n"
