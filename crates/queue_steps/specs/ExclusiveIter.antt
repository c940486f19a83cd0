-- What a contract sees of an iterator over an `Exclusive` queue.
use Rattle.std.specs.Prelude.{◌≡◌, List, ◌++◌, Option, option_to_list}
use Rattle.std.specs.Borrow.{GName}
use Rattle.std.specs.Iterator.{YieldsFirst, Yields}
use Rattle.queue_steps.specs.declared.exclusive_iter.ExclusiveIter.{ExclusiveIter}
use Rattle.queue_steps.specs.ClosableQueue.{ClosableQueue}

module _ {T : Type 0} where
  -- the queue as it is now
  abbrev pub iter_queue : ExclusiveIter T → ClosableQueue T
  iter_queue it = it.queue.now

  -- the items that are left in it
  abbrev pub iter_rest : ExclusiveIter T → List T
  iter_rest it = it.queue.now.items

  -- the ghost name of the reference to the queue
  abbrev pub iter_lender : ExclusiveIter T → GName
  iter_lender it = it.queue.ghost_name

  -- they borrow one queue, which has had these items in front
  abbrev pub IterGave : ExclusiveIter T → List T → ExclusiveIter T → Type 0
  IterGave old items new =
      (iter_lender new ≡ iter_lender old) × (iter_queue old ≡ record (iter_queue new) { items = items ++ iter_rest new })

  -- a call of `next` gives the first item, and takes nothing else
  abbrev pub IterSteps : ExclusiveIter T → Option T → ExclusiveIter T → Type 0
  IterSteps old item new = YieldsFirst iter_rest old item new × IterGave old (option_to_list item) new

  -- whatever calls of `next` have given was in front, in that order, and the rest stays
  abbrev pub IterWalks : ExclusiveIter T → Type 0
  IterWalks first = (items : List T) (later : ExclusiveIter T) → Yields IterSteps first items later → IterGave first items later
