-- A spawn is one of the plain scheduler, also one that is refused, and both say alike whether they are empty.
use Rattle.std.specs.Prelude.{◌≡◌, ℕ, ◌<◌, ◌≤◌, Bool, true, false, if◌then◌else◌, length, Ok, Err}
use Rattle.queue_steps.specs.ClosableQueue.{most_accepted}
use Rattle.executor_parts.specs.declared.mark.Mark.{Mark}
use Rattle.solo.specs.declared.names.SoloWaker.{SoloWaker}
use Rattle.solo.specs.declared.owed.Lent.{Lent}
use Rattle.solo.specs.declared.owed.Spawned.{Spawned}
use Rattle.solo.specs.declared.owed.SpawnError.{SpawnError}
use Rattle.solo.specs.declared.owed.SpawnError.TheVariants.{Full, NoMemory}
use Rattle.solo.specs.declared.solo.Solo.{Solo}
use Rattle.solo.specs.Solo as solo
use Rattle.plain_scheduler.specs.State.{Answer, Full as AnswerFull, NoMemory as AnswerNoMemory, Choice, Granted, Plain, Yes, No}
use Rattle.plain_scheduler.specs.Moves.{answers}
use Rattle.plain_scheduler.specs.Calls.{Spawn, IsEmpty, is_granted, does}
use Rattle.solo_laws.specs.Road.{HasLife, wakes}
use Rattle.solo_laws.specs.Tabled.{Stands}

-- what is answered
abbrev pub said : {F T : Type 0} → SpawnError F → Answer T
said (Full future) = AnswerFull
said (NoMemory future) = AnswerNoMemory

abbrev pub is_memory : {F : Type 0} → SpawnError F → Bool
is_memory (Full future) = false
is_memory (NoMemory future) = true

module _ {F T X : Type 0} (its : ℕ → Lent) (s : Solo F T X) (p : Plain T (SoloWaker X)) where
  -- the future that comes has the next number
  abbrev pub SpawnsAlike : Type 0
  SpawnsAlike =
      (c : Choice) (mark : Mark) (future : F) (spawned : Spawned X) (z : Solo F T X)
      (spawns : solo.Spawns mark future s (Ok spawned) z)
      → its (length p.futures) ≡ record { task = spawned.task; place = spawns.1.0.place } → c.refusal ≡ Granted
      → length p.lying ≤ c.tells → HasLife 3 s.lines → length p.futures < most_accepted
      → Stands its z (does wakes c (Spawn mark) p)

  abbrev pub RefusesAlike : Type 0
  RefusesAlike =
      (c : Choice) (mark : Mark) (future : F) (refused : SpawnError F) (z : Solo F T X)
      → solo.Spawns mark future s (Err refused) z → (is_memory refused ≡ true → is_granted c.refusal ≡ false)
      → (does wakes c (Spawn mark) p ≡ answers (said refused) p) × Stands its z (does wakes c (Spawn mark) p)

  abbrev pub EmptyAlike : Type 0
  EmptyAlike =
      (c : Choice) → (does wakes c IsEmpty p ≡ answers (if solo.is_empty s then Yes else No) p) × Stands its s (does wakes c IsEmpty p)
