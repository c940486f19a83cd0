-- The items that are left of a queue that was taken apart.
use Rattle.std.specs.Prelude.{List}
use Rattle.concurrent_queue.specs.declared.remains.Left.{Left}
use Rattle.concurrent_queue.specs.declared.remains.Left.TheVariants.{Places, Chain}

abbrev pub left_items : {T : Type 0} → Left T → List T
left_items (Places places) = places
left_items (Chain chain) = chain.items
