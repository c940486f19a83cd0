-- The rule of the single slot that threads share, and what each of its steps shows. A word is a sum: locked 1, pushed 2, closed 4.
use Rattle.std.specs.Prelude.{◌≡◌, ◌≢◌, ℕ, ◌+◌, ◌*◌, ◌≤◌, nat_lt, Bool, true, false, if◌then◌else◌, List, [], ◌∷◌, ◌++◌, Option, Some, None}
use mathlib.Core.Option.{some, none}
use mathlib.Core.Option as maybe
use lib.ListN.{get_elem?}
use Rattle.atomic_table.specs.Table.{State, Me, rest}
use Rattle.queue_steps.specs.Single.{marks_of}
use Rattle.concurrent_queue.specs.declared.single.rule.Doing.{Doing}
use Rattle.concurrent_queue.specs.declared.single.rule.Stage.{Stage}
use Rattle.concurrent_queue.specs.declared.single.rule.Stage.TheVariants.{Idle, Writing, Reading}

-- a seat that writes or reads has the slot, and is named
pub data Phase (T : Type 0) : Type 0 where
  empty : Phase T
  full : T → Phase T
  writing : ℕ → Phase T
  reading : ℕ → Phase T

module _ {T : Type 0} where
  abbrev pub marks : Phase T → ℕ
  marks empty = 0
  marks (full x) = 2
  marks (writing j) = 3
  marks (reading j) = 1

  -- the slot at home, or none while a seat has it
  abbrev pub home : Phase T → maybe.Option (Option T)
  home empty = some None
  home (full x) = some (Some x)
  home (writing j) = none
  home (reading j) = none

  abbrev pub Knows : Phase T → ℕ → Stage → Type 0
  Knows phase j Idle = Unit {0}
  Knows phase j Writing = phase ≡ writing j
  Knows phase j Reading = phase ≡ reading j

  pub record SingleRule (s : State (Option T) Doing) : Type 0 where
    pub phase : Phase T
    pub shut : ℕ
    pub shut_once : shut ≤ 1
    pub word : s.words ≡ (marks phase + 4 * shut) ∷ []
    pub place : s.homes ≡ (home phase) ∷ []
    pub each_seat : (j : ℕ) (d : Doing) → get_elem? s.views j ≡ some d → Knows phase j d.stage
    -- what a seat knows to be closed stays closed
    pub stays_closed : (j : ℕ) (d : Doing) → get_elem? s.views j ≡ some d → d.closed ≡ true → shut ≡ 1

abbrev pub doing : Stage → Bool → List ℕ → Doing
doing stage closed found = record { stage = stage; closed = closed; found = found }

-- whether a word has the mark of a close
abbrev pub is_shut : ℕ → Bool
is_shut word = if nat_lt word 4 then false else true

abbrev pub Known : Type 0 → Type 0
Known T = Me (Option T) Doing

module _ {T : Type 0} where
  -- what a seat knows to be closed is found closed; and each step below keeps in its view whether it found so
  abbrev pub IsStillShut : Known T → ℕ → Type 0
  IsStillShut m n = m.0.closed ≡ true → is_shut n ≡ true

  -- the first word that a call finds
  abbrev pub began : Known T → ℕ → Known T → Type 0
  began m n m' = (m' ≡ (doing Idle (is_shut n) (n ∷ []), m.1)) × IsStillShut m n

  -- the close, which is the only step of its call
  abbrev pub closed : Known T → ℕ → Known T → Type 0
  closed m n m' = (m' ≡ (doing Idle true (n ∷ []), m.1)) × IsStillShut m n

  abbrev pub looked : Known T → ℕ → Known T → Type 0
  looked m n m' = (m' ≡ (doing Idle (is_shut n) (m.0.found ++ n ∷ []), m.1)) × IsStillShut m n

  -- an append, or a displacement where an item was there: it has the slot, with what the word said of it
  abbrev pub claimed : ℕ → Known T → ℕ → Known T → Type 0
  claimed old m n m' =
      (n ≡ old → (held : Option T) × (marks_of held ≡ old) × (m' ≡ (doing Writing (is_shut n) (m.0.found ++ n ∷ []), (0, held) ∷ m.1)))
      × (n ≢ old → looked m n m') × IsStillShut m n

  -- a take: it has the slot, with its item
  abbrev pub fetched : ℕ → Known T → ℕ → Known T → Type 0
  fetched old m n m' =
      (n ≡ old → (x : T) × (m' ≡ (doing Reading (is_shut n) (m.0.found ++ n ∷ []), (0, Some x) ∷ m.1)))
      × (n ≢ old → looked m n m') × IsStillShut m n

  -- the slot goes home
  abbrev pub returned : Known T → ℕ → Known T → Type 0
  returned m n m' = (m' ≡ (doing Idle (is_shut n) (m.0.found ++ n ∷ []), rest m.1)) × IsStillShut m n
