-- How a call ends. The items that it takes in or hands out are not part of it.
use Rattle.std.specs.Prelude.{ℕ}

pub data Reply : Type 0 where
  -- the item was appended, or the first item was taken
  Done : Reply
  -- the item was appended in the place of the first one, which was taken
  Displaced : Reply
  Full : Reply
  Empty : Reply
  Closed : Reply
  Yes : Reply
  No : Reply
  Length : ℕ → Reply
