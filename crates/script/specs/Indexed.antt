-- How the table of names lies in memory.
use Rattle.std.specs.Prelude.{◌≡◌, ℕ, List}
use Rattle.std.specs.List.{IsDistinct}
use Rattle.std.specs.Str.{bytes_eq}
use Rattle.std.specs.Ordering.{nat_cmp}
use Rattle.std.specs.Cmp.Lexicographic.{slice_cmp}
use Rattle.std.specs.BTreeMap.{get}
use Rattle.script.specs.Names.{number_of}
use Rattle.script.specs.declared.names.Names.TheInside.{Inside}

-- no name stands twice, and the map has the number of each
pub record IsIndexed (inside : Inside) : Type 0 where
  pub distinct : IsDistinct bytes_eq inside.order.items
  pub numbered : (name : List ℕ) →
      get (slice_cmp nat_cmp) inside.numbers name ≡ number_of inside.order.items name
