-- What a call on a single slot does next, by the word that it found. The word is a sum: locked 1, pushed 2, closed 4.
use Rattle.std.specs.Prelude.{ℕ, ◌+◌, ◌-◌, ◌%◌, Bool, true, false, nat_lt, ◌==◌, if◌then◌else◌}
use Rattle.queue_steps.specs.Reply.{Reply, Done, Displaced, Full, Empty, Closed, Yes, No, Length}

-- what a call of any kind does next
pub data Turn : Type 0 where
  -- load the word
  Look : Turn
  -- exchange the first word for the second, which locks the slot: the append, the take or the displacement
  Exchange : ℕ → ℕ → Turn
  -- the slot is the call's own: write, read or swap there, and then take the lock off the word
  Unlock : Reply → Turn
  -- set the closed mark, whatever else the word has
  Close : Turn
  -- the call has ended
  End : Reply → Turn

abbrev pub answered : Bool → Turn
answered told = End (if told then Yes else No)

-- closed, `Closed`; pushed, `Full`; locked alone, wait; else lock it with an item on its way in
abbrev pub looked_to_push : ℕ → Turn
looked_to_push word =
    if nat_lt word 4
    then (if nat_lt word 2 then (if word == 1 then Look else Exchange word (word + 3)) else End Full)
    else End Closed

abbrev pub push_turn : Turn → ℕ → Turn
push_turn Look found = looked_to_push found
push_turn (Exchange old new) found = if found == old then Unlock Done else looked_to_push found
push_turn (Unlock reply) found = End reply
push_turn turn found = turn

-- closed, `Closed`; locked, wait; else lock it, to swap where it was pushed and to write where not
abbrev pub looked_to_force : ℕ → Turn
looked_to_force word =
    if nat_lt word 4
    then (if word % 2 == 1 then Look else (if nat_lt word 2 then Exchange word (word + 3) else Exchange word (word + 1)))
    else End Closed

abbrev pub force_push_turn : Turn → ℕ → Turn
force_push_turn Look found = looked_to_force found
force_push_turn (Exchange old new) found =
    if found == old then Unlock (if nat_lt old 2 then Done else Displaced) else looked_to_force found
force_push_turn (Unlock reply) found = End reply
force_push_turn turn found = turn

-- pushed and not locked, lock it to read; pushed and locked, wait; else `Closed` or `Empty` by the mark
abbrev pub looked_to_pop : ℕ → Turn
looked_to_pop word =
    if word % 4 == 2
    then Exchange word (word - 1)
    else (if word % 4 == 3 then Look else (if nat_lt word 4 then End Empty else End Closed))

abbrev pub pop_turn : Turn → ℕ → Turn
pop_turn Look found = looked_to_pop found
pop_turn (Exchange old new) found = if found == old then Unlock Done else looked_to_pop found
pop_turn (Unlock reply) found = End reply
pop_turn turn found = turn

abbrev pub close_turn : Turn → ℕ → Turn
close_turn Close found = answered (nat_lt found 4)
close_turn turn found = turn

-- a call that answers by the first word that it loads
abbrev pub look_turn : (ℕ → Turn) → Turn → ℕ → Turn
look_turn answer Look found = answer found
look_turn answer turn found = turn

abbrev pub len_turn : Turn → ℕ → Turn
len_turn = look_turn (λ word. End (Length (if nat_lt (word % 4) 2 then 0 else 1)))

abbrev pub is_empty_turn : Turn → ℕ → Turn
is_empty_turn = look_turn (λ word. answered (nat_lt (word % 4) 2))

abbrev pub is_full_turn : Turn → ℕ → Turn
is_full_turn = look_turn (λ word. answered (if nat_lt (word % 4) 2 then false else true))

abbrev pub is_closed_turn : Turn → ℕ → Turn
is_closed_turn = look_turn (λ word. answered (if nat_lt word 4 then false else true))
