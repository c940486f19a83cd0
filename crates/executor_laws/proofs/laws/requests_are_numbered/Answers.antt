use Rattle.std.proofs.Common.{refl}
use Rattle.executor_model.specs.Steps.{Machine, run, start}
use Rattle.executor_model.proofs.Memory.UnaskingGroups.{needs-no-memory}
use Rattle.executor_laws.proofs.Wants.Numbering.{behind-it, same-up}
use Rattle.executor_laws.proofs.Wants.Wanting.{ends-so, wanted-by}
use Rattle.executor_laws.proofs.laws.requests_are_numbered.Goals as goal

pub returns : goal.returns
returns c limit kind parties steps =
    let s : Machine = run steps (start limit kind parties) in
    record {
      wanted = wanted-by s (record { limit = limit; kind = kind; parties = parties; steps = steps; is = refl });
      same = λ p k ts l. same-up p k s ts l;
      behind = λ p k ts us l. behind-it p k s ts us l;
      refused = λ p h o a e. ends-so s.world p h o a e;
      unasked = λ p h b o a. (needs-no-memory s.world p).same h b o a;
    }
