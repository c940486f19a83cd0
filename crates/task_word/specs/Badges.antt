-- What a badge has.
use Rattle.std.specs.Prelude.{List, [], ◌∷◌}
use Rattle.task_word.specs.declared.rule.View.{View}
use Rattle.task_word.specs.declared.rule.Hold.{Hold}

abbrev pub holds : List View → List Hold
holds [] = []
holds (v ∷ vs) = v.hold ∷ holds vs
