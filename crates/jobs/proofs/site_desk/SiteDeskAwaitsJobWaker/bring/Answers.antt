-- What came back came by the handle that was awaited.
use Rattle.std.proofs.lemmas.List.Elements.{All-append}
use Rattle.jobs.specs.Bringing.{CameByHandle, given_by}
use Rattle.jobs.proofs.ByHandle.{given_came}
use Rattle.jobs.proofs.site_desk.SiteDeskAwaitsJobWaker.bring.Goals as goal

pub returns-clause-came : goal.returns-clause-came
returns-clause-came g c = λ before came.
    All-append CameByHandle before (given_by c.await_job.result) came
    (given_came c.args.self.now.awaited c.await_job.new.awaited c.await_job.result c.await_job.ensures)
