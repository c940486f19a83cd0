use Rattle.std.specs.Prelude.{◌≡◌}
use Rattle.solo.specs.declared.names.Kind.TheVariants.{Static}
use Rattle.solo.proofs.Leaking.{Turned}
use Rattle.solo.proofs.solo.Solo.leak.Given as goal

-- so many wakers were taken out, and nothing else
abbrev pub invariant-loop-step : goal.invariant-loop-step
invariant-loop-step g l =
    Turned l.fn.self.table.entries l.self.table.entries l.fn.self.leaving l.self.leaving l._step
    × (l.self ≡ record l.fn.self {
      kind = Static;
      table = record l.fn.self.table { entries = l.self.table.entries };
      leaving = l.self.leaving;
    })
