-- What a call on a ring does next, by the word that it found. n is the number of places, m the mark, and a lap is 2 * m.
use Rattle.std.specs.Prelude.{ℕ, ◌+◌, ◌-◌, ◌*◌, ◌%◌, Bool, not, nat_lt, ◌==◌, ◌||◌, if◌then◌else◌}
use Rattle.queue_steps.specs.Reply.{Reply, Done, Displaced, Full, Empty, Closed, Yes, No, Length}
use Rattle.queue_steps.specs.ClosableQueue.{most_accepted}
use Rattle.queue_steps.specs.Bounded.{count_at, is_marked}

-- what a call of any kind does next
pub data Turn : Type 0 where
  -- load the tail, or the head
  Tail : Turn
  Head : Turn
  -- load the stamp of the place at this tail or head
  Stamp : ℕ → Turn
  -- load the head, since the place at this tail still has the item of a lap before
  HeadFor : ℕ → Turn
  -- load the tail, since nothing is in the place at this head
  TailFor : ℕ → Turn
  -- load the tail again, which was the first word while the head was the second
  TailAgain : ℕ → ℕ → Turn
  -- exchange this tail for the next one: the append
  Append : ℕ → Turn
  -- exchange this head for the next one: the take
  Take : ℕ → Turn
  -- exchange the head of a lap before this tail for the next one: the displacement, a take that owes an append
  Displace : ℕ → Turn
  -- move the tail on from this one, and keep its mark: the append that a displacement owes
  Advance : ℕ → Turn
  -- exchange this tail for itself with the mark: the push of one item too many closes the ring
  Spend : ℕ → Turn
  -- set the mark, whatever the tail is: the close
  Close : Turn
  -- the place at this tail is the call's own: write or swap there, and set its stamp to one more than this tail
  Fill : ℕ → Reply → Turn
  -- the place at this head is the call's own: read there, and set its stamp to a lap more than this head
  Drain : ℕ → Turn
  -- the call has ended
  End : Reply → Turn

abbrev pub answered : Bool → Turn
answered told = End (if told then Yes else No)

module _ (n m : ℕ) where
  -- a tail: closed, `Closed`; else its place is looked at
  abbrev pub pushes_from : ℕ → Turn
  pushes_from tail = if is_marked m tail then End Closed else (if nat_lt (tail % m) n then Stamp tail else Tail)

  -- the place at a tail is free: the append, but that one item too many closes the ring
  abbrev pub appends_at : ℕ → Turn
  appends_at tail = if nat_lt (count_at n m tail) most_accepted then Append tail else Spend tail

  -- the stamp of the place at a tail: free, or it still has the item of a lap before, or look again
  abbrev pub stamped_for_push : ℕ → ℕ → Turn
  stamped_for_push tail found =
      if found == tail then appends_at tail else (if found + 2 * m == tail + 1 then HeadFor tail else Tail)

  abbrev pub push_turn : Turn → ℕ → Turn
  push_turn Tail found = pushes_from found
  push_turn (Stamp tail) found = stamped_for_push tail found
  push_turn (HeadFor tail) found = if found + 2 * m == tail then End Full else Tail
  push_turn (Append tail) found = if found == tail then Fill tail Done else pushes_from found
  push_turn (Spend tail) found = if found == tail then End Closed else pushes_from found
  push_turn (Fill tail reply) found = End reply
  push_turn turn found = turn

  -- the ring is full: the displacement, but that one item too many closes the ring and displaces nothing
  abbrev pub displaces_at : ℕ → Turn
  displaces_at tail = if nat_lt (count_at n m tail) most_accepted then Displace tail else Spend tail

  abbrev pub force_push_turn : Turn → ℕ → Turn
  force_push_turn Tail found = pushes_from found
  force_push_turn (Stamp tail) found = stamped_for_push tail found
  force_push_turn (HeadFor tail) found = if found + 2 * m == tail then displaces_at tail else Tail
  force_push_turn (Append tail) found = if found == tail then Fill tail Done else pushes_from found
  force_push_turn (Spend tail) found = if found == tail then End Closed else pushes_from found
  force_push_turn (Displace tail) found = if found + 2 * m == tail then Advance tail else Tail
  force_push_turn (Advance tail) found = Fill tail Displaced
  force_push_turn (Fill tail reply) found = End reply
  force_push_turn turn found = turn

  abbrev pub pops_from : ℕ → Turn
  pops_from head = if nat_lt (head % m) n then Stamp head else Head

  -- the stamp of the place at a head: filled, or free, or look again
  abbrev pub stamped_for_pop : ℕ → ℕ → Turn
  stamped_for_pop head found =
      if found == head + 1
      then (if nat_lt (count_at n m head) most_accepted then Take head else Head)
      else (if found == head then TailFor head else Head)

  abbrev pub pop_turn : Turn → ℕ → Turn
  pop_turn Head found = pops_from found
  pop_turn (Stamp head) found = stamped_for_pop head found
  pop_turn (TailFor head) found =
      if found == head then End Empty else (if found == head + m then End Closed else Head)
  pop_turn (Take head) found = if found == head then Drain head else pops_from found
  pop_turn (Drain head) found = End Done
  pop_turn turn found = turn

  abbrev pub close_turn : Turn → ℕ → Turn
  close_turn Close found = answered (not (is_marked m found))
  close_turn turn found = turn

  -- the tail, the head, and the tail again until both are the same
  abbrev pub len_turn : Turn → ℕ → Turn
  len_turn Tail found = HeadFor found
  len_turn (HeadFor tail) found = TailAgain tail found
  len_turn (TailAgain tail head) found =
      if found == tail then End (Length (count_at n m tail - count_at n m head)) else HeadFor found
  len_turn turn found = turn

  -- the head, and then the tail
  abbrev pub looks_empty : ℕ → ℕ → Bool
  looks_empty head tail = (tail == head) || (tail == head + m)

  abbrev pub is_empty_turn : Turn → ℕ → Turn
  is_empty_turn Head found = TailFor found
  is_empty_turn (TailFor head) found = answered (looks_empty head found)
  is_empty_turn turn found = turn

  -- the tail, and then the head
  abbrev pub looks_full : ℕ → ℕ → Bool
  looks_full tail head = (head + 2 * m == tail) || (head + 3 * m == tail)

  abbrev pub is_full_turn : Turn → ℕ → Turn
  is_full_turn Tail found = HeadFor found
  is_full_turn (HeadFor tail) found = answered (looks_full tail found)
  is_full_turn turn found = turn

  abbrev pub is_closed_turn : Turn → ℕ → Turn
  is_closed_turn Tail found = answered (is_marked m found)
  is_closed_turn turn found = turn
