use Rattle.commands.proofs.Ranges.{says_in_range, says_few}
use Rattle.commands.proofs.job_list.answers.Goals as goal

pub run_jobs-requires-clause-ranges : goal.run_jobs-requires-clause-ranges
run_jobs-requires-clause-ranges g c κs within =
    rw c.deref.ensures.value (says_in_range c.args.input.now c.in_ok-list.list.items c.in_ok-list.ensures.jobs)

pub run_jobs-requires-clause-few : goal.run_jobs-requires-clause-few
run_jobs-requires-clause-few g c κs within =
    rw c.deref.ensures.value (says_few c.args.input.now c.in_ok-list.list.items c.in_ok-list.ensures.jobs)
