use Rattle.executor_model.specs.Steps.{Machine, run, start}
use Rattle.executor_core.proofs.Restated.Ending.{calls-end, caused, output-kept}
use Rattle.executor_core.proofs.Restated.Reach.{in-reach, kept-in-reach}
use Rattle.executor_core.proofs.Restated.Turns.{lawful}
use Rattle.executor_core.proofs.Restated.Words.{awaiter-kept, keeper-called, some-called}
use Rattle.executor_core.proofs.headline.headline_holds.Goals as goal

pub returns : goal.returns
returns c limit kind parties steps =
    let s : Machine = run steps (start limit kind parties) in
    record {
      polls = λ f. lawful f _ (c.polls_are_lawful.ensures limit kind parties steps f);
      causes = λ k r. caused c.early_drops_have_causes.ensures k s r;
      drops = c.drops_come_once.ensures limit kind parties steps;
      dropped = c.dropped_executors_drop_each_future_once.ensures limit kind parties steps;
      called = λ f. some-called f _ (c.some_standing_is_called.ensures limit kind parties steps f);
      keepers = λ f. keeper-called f _ (c.keepers_are_called.ensures limit kind parties steps f);
      in_reach = in-reach s (c.common_futures_are_in_reach.ensures limit kind parties steps);
      kept_in_reach = λ q r. kept-in-reach r s (record {
        by_runs = c.runs_reach_futures.ensures limit kind parties steps;
        reached = c.kept_futures_are_in_reach.ensures limit kind parties steps;
        first = c.kept_futures_come_first.ensures limit kind parties steps;
        can = c.keepers_can_be_polled.ensures limit kind parties steps;
        left = c.dropped_runs_leave_common_futures.ensures limit kind parties steps;
      }) q;
      outputs = c.outputs_go_once.ensures limit kind parties steps;
      outputs_kept = λ f. output-kept s f (c.outputs_are_kept.ensures limit kind parties steps f);
      awaiters = λ f. awaiter-kept f _ (c.awaiters_are_kept.ensures limit kind parties steps f);
      ends = calls-end c.calls_end.ensures.lowered;
    }
