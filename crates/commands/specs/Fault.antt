-- What a fault is to whoever started the program: a status, and a text on standard error.
use Rattle.std.specs.Prelude.{ℕ, List, ◌++◌, codes}
use Rattle.std.specs.Fmt.{decimal}
use Rattle.commands.specs.declared.fault.Fault.{Fault}
use Rattle.commands.specs.declared.fault.Fault.TheVariants.{Missing, BadLine, Usage, NoMemory, NoThread, NoRandom, ReadFailed, WriteFailed}
use Rattle.text_lines.specs.declared.error.ParseError.{ParseError}
use Rattle.text_lines.specs.declared.error.ParseError.TheVariants as parse
use Rattle.async_task.specs.declared.errors.RealmError.{RealmError}
use Rattle.async_task.specs.declared.errors.RealmError.TheVariants as realm
use Rattle.jobs.specs.declared.errors.JobsError.{JobsError}
use Rattle.jobs.specs.declared.errors.JobsError.TheVariants as jobs

abbrev pub status_of : Fault → ℕ
status_of (Missing n) = 1
status_of (BadLine n) = 2
status_of Usage = 2
status_of NoMemory = 3
status_of NoThread = 3
status_of NoRandom = 3
status_of ReadFailed = 4
status_of WriteFailed = 4

abbrev pub text_of : Fault → List ℕ
text_of (Missing n) = codes "job " ++ decimal n ++ codes ": missing"
text_of (BadLine n) = codes "line " ++ decimal n ++ codes ": bad line"
text_of Usage = codes "usage: taskrun jobs <workers> or taskrun sim"
text_of NoMemory = codes "out of memory"
text_of NoThread = codes "no thread"
text_of NoRandom = codes "no random number"
text_of ReadFailed = codes "read failed"
text_of WriteFailed = codes "write failed"

-- what an input that can't be parsed ends on
abbrev pub fault_of : ParseError → Fault
fault_of (parse.BadLine n) = BadLine n
fault_of parse.NoMemory = NoMemory

-- what a program without a realm ends on
abbrev pub fault_of_realm : RealmError → Fault
fault_of_realm realm.NoMemory = NoMemory
fault_of_realm realm.NoRandom = NoRandom

-- what jobs without answers end on
abbrev pub fault_of_jobs : JobsError → Fault
fault_of_jobs jobs.NoThread = NoThread
fault_of_jobs jobs.NoMemory = NoMemory
fault_of_jobs (jobs.Missing n) = Missing n
