use Rattle.std.specs.Prelude.{◌≡◌, count_by, length}
use Rattle.orders.specs.Paths.{is_open}
use Rattle.orders.proofs.path.Path.advance.Given as goal

abbrev pub decreases-loop-choice : goal.decreases-loop-choice
decreases-loop-choice l = length l.self.choices.items

-- Those that went weren't open.
abbrev pub invariant-loop-choice : goal.invariant-loop-choice
invariant-loop-choice l =
    count_by is_open l.self.choices.items ≡ count_by is_open l.fn.self.choices.items
