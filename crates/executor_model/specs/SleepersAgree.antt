-- Ticks, runs and sleepers agree, and the flag is true only for a reason.
use Rattle.std.specs.Prelude.{◌≡◌, ◌⊎◌, ℕ, ◌+◌, ◌<◌, ◌≤◌, true, None, List, [], ◌∷◌, length}
use Rattle.executor_parts.specs.Sleepers.{position_of}
use Rattle.executor_model.specs.declared.op.Op.{Op}
use Rattle.executor_model.specs.declared.op.Op.TheVariants as op
use Rattle.executor_model.specs.declared.op.TickOrRun.{TickOrRun}
use Rattle.executor_model.specs.declared.op.ListOp.TheVariants as list_op
use Rattle.executor_model.specs.declared.op.RunOp.TheVariants as run_op
use Rattle.executor_model.specs.declared.op.Section.TheVariants as section
use Rattle.executor_model.specs.declared.op.SleeperOp.TheVariants as sleeper_op
use Rattle.executor_model.specs.Steps.{Machine}
use Rattle.executor_model.specs.Weights.{weigh_all}
use Rattle.executor_model.specs.World.{Ticker, Awake, Asleep, Left, Run, place_of}

-- a party has won the exchange of the flag, and has still to hand out
abbrev pub hands_of : Op → ℕ
hands_of (op.Sleeper sleeper_op.HandOut) = 1
hands_of _ = 0

abbrev pub sleeps : Ticker → ℕ
sleeps (Asleep n) = 1
sleeps Awake = 0
sleeps Left = 0

-- how many of these ticks are among the sleepers
abbrev pub slumbering : List Ticker → ℕ
slumbering [] = 0
slumbering (x ∷ xs) = sleeps x + slumbering xs

-- and how many of these runs
abbrev pub runs_asleep : List Run → ℕ
runs_asleep [] = 0
runs_asleep (x ∷ xs) = sleeps x.place + runs_asleep xs

-- who lives has room to sleep in
abbrev pub room : Ticker → ℕ
room Awake = 1
room (Asleep n) = 1
room Left = 0

-- how many of these have
abbrev pub rooms_of : List Ticker → ℕ
rooms_of [] = 0
rooms_of (x ∷ xs) = room x + rooms_of xs

-- and how many of these runs
abbrev pub rooms_of_runs : List Run → ℕ
rooms_of_runs [] = 0
rooms_of_runs (x ∷ xs) = room x.place + rooms_of_runs xs

-- room that was made for a run which isn't there yet, or has still to be given back
abbrev pub room_of : Op → ℕ
room_of (op.List (list_op.LockWrite section.MakeRun)) = 1
room_of (op.List (list_op.Write section.MakeRun)) = 1
room_of (op.Run run_op.ReturnRoom) = 1
room_of _ = 0

-- a sleeper is notified where its waker is missing from the list
abbrev pub SomeoneNotified : Machine → Type 0
SomeoneNotified s = length s.world.sleepers.wakers < s.world.sleepers.count

pub record SleepersAgree (s : Machine) : Type 0 where
  -- numbers in use are distinct
  pub apart : (t u : TickOrRun) (n : ℕ) → place_of s.world t ≡ Asleep n → place_of s.world u ≡ Asleep n → t ≡ u
  pub counted : s.world.sleepers.count ≡ slumbering s.world.ticks + runs_asleep s.world.runs
  pub listed : length s.world.sleepers.wakers ≤ s.world.sleepers.count
  pub roomed : s.world.sleepers.rooms ≡
      rooms_of s.world.ticks + rooms_of_runs s.world.runs + weigh_all room_of s.parties
  -- so who lives finds a place: one that is awake finds room, and one that was notified may be listed again
  pub finds_room : (t : TickOrRun) → place_of s.world t ≡ Awake → s.world.sleepers.count < s.world.sleepers.rooms
  pub finds_place : (t : TickOrRun) (n : ℕ) → place_of s.world t ≡ Asleep n → position_of n s.world.sleepers.wakers ≡ None →
      SomeoneNotified s
  pub flag : s.world.notified ≡ true →
      (s.world.sleepers.count ≡ 0) ⊎ (SomeoneNotified s ⊎ (1 ≤ weigh_all hands_of s.parties))
