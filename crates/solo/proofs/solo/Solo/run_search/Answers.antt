use Rattle.solo.proofs.Searching.{searched-found}
use Rattle.solo.proofs.solo.Solo.run_search.Goals as goal

pub returns-in-Some-clause-solo : goal.returns-in-Some-clause-solo
returns-in-Some-clause-solo g c =
    searched-found c.args.runner.now c.args.ticker c.args.start _ c.seek-task.result c.args.self.now c.seek-task.new.self
    c.run_found.new.self c.seek-task.ensures.sought c.seek-task.ensures.solo c.in-Some.is c.run_found.ensures.solo
