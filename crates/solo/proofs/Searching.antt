-- What a look of a run leads to that has found a task.
use Rattle.std.proofs.Common.{◌≡◌, ℕ, Option, Some, sym, ap, subst, ◌∙◌}
use Rattle.solo.specs.declared.names.Task.{Task}
use Rattle.solo.specs.declared.runs.Runner.{Runner}
use Rattle.solo.specs.declared.runs.Sought.{Sought}
use Rattle.solo.specs.declared.ticks.Ticker.{Ticker}
use Rattle.solo.specs.declared.solo.Solo.{Solo}
use Rattle.solo.specs.Steals.{sought, seek_answer}
use Rattle.solo.specs.Runs.{found, searched_by, searched}

module _ {F T X : Type 0} where
  searched_some : (first : Option Task) (runner : Runner) (ticker : Ticker) (task : Task) (s new : Solo F T X)
      → first ≡ Some task → new ≡ found runner ticker task s → new ≡ searched_by first runner ticker s
  searched_some first runner ticker task s new is does =
      subst (λ (o : Option Task). new ≡ searched_by o runner ticker s) (sym is) does

  pub searched-found : (runner : Runner) (ticker : Ticker) (start : ℕ) (task : Task) (gives : Sought) (old s new : Solo F T X)
      → gives ≡ seek_answer runner.number start old → s ≡ sought runner.number start old → gives.task ≡ Some task
      → new ≡ found runner ticker task s → new ≡ searched runner ticker start old
  searched-found runner ticker start task gives old s new answer same is does =
      searched_some (seek_answer runner.number start old).task runner ticker task (sought runner.number start old) new
      (sym (ap (λ (g : Sought). g.task) answer) ∙ is)
      (does ∙ ap (λ (t : Solo F T X). found runner ticker task t) same)
