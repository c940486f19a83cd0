-- What a line says at the end of a command, behind its word.
use Rattle.std.specs.Prelude.{ℕ, List, codes}
use Rattle.script.specs.declared.ending.Ending.{Ending}
use Rattle.script.specs.declared.ending.Ending.TheVariants.{Made, Full, NoMemory, Yes, No, Done, Pending, Ready}
use Rattle.script.specs.declared.ending.Ending.TheVariants.{Cancelled, Finished, NotPossible, Waits}

abbrev pub ending_text : Ending → List ℕ
ending_text Made = codes "ok"
ending_text Full = codes "full"
ending_text NoMemory = codes "no memory"
ending_text Yes = codes "true"
ending_text No = codes "false"
ending_text Done = codes "done"
ending_text Pending = codes "pending"
ending_text Ready = codes "ready"
ending_text Cancelled = codes "cancelled"
ending_text Finished = codes "finished"
ending_text NotPossible = codes "not possible"
ending_text Waits = codes "waits"
