-- The rule of the ring that threads share, and what each of its steps shows. n is the number of places, m the mark. Word 0 is the
-- tail, word 16 the head, and word i + 32 the stamp of the place i. Each place is in some round p with p % n = i, and its stamp is
-- what `shows` says.
use Rattle.std.specs.Prelude.{◌≡◌, ◌≢◌, ℕ, ◌+◌, ◌-◌, ◌*◌, ◌%◌, ◌<◌, ◌≤◌, Bool, true, List, [], ◌∷◌, ◌++◌, length, Option, Some, None}
use Rattle.std.specs.Prelude.{slice_index_or}
use mathlib.Core.Option.{some}
use mathlib.Core.Option as maybe
use lib.ListN.{get_elem?}
use Rattle.atomic_table.specs.Table.{State, Me, rest}
use Rattle.queue_steps.specs.Bounded.{IsShape, word_at, count_at, is_marked}
use Rattle.concurrent_queue.specs.declared.bounded.rule.Doing.{Doing}
use Rattle.concurrent_queue.specs.declared.bounded.rule.Stage.{Stage}
use Rattle.concurrent_queue.specs.declared.bounded.rule.Stage.TheVariants.{Idle, SawTail, SawHead, SawStamp, Writing, Reading, Forcing}
use Rattle.concurrent_queue.specs.declared.bounded.rule.Stage.TheVariants.{Swapping}

-- a place that a seat has names the seat: to write, to read, to displace before its append, and after it
pub data Phase : Type 0 where
  free : Phase
  writing : ℕ → Phase
  full : Phase
  reading : ℕ → Phase
  forcing : ℕ → Phase
  swapping : ℕ → Phase

-- whether its item was written in this round
abbrev pub up : Phase → ℕ
up free = 0
up (writing j) = 0
up full = 1
up (reading j) = 1
up (forcing j) = 1
up (swapping j) = 0

-- what its stamp has above the word of its round, where a displacement leaves the stamp of the round before
abbrev pub above : Phase → ℕ
above free = 0
above (writing j) = 0
above full = 1
above (reading j) = 1
above (forcing j) = 1
above (swapping j) = 1

abbrev pub back : ℕ → Phase → ℕ
back m free = 0
back m (writing j) = 0
back m full = 0
back m (reading j) = 0
back m (forcing j) = 0
back m (swapping j) = 2 * m

-- the round of a place, and its phase
abbrev pub Cell : Type 0
Cell = ℕ × Phase

module _ {T : Type 0} (n pushed popped : ℕ) (homes : List (maybe.Option (Option T))) (i p : ℕ) where
  abbrev pub InPhase : Phase → Type 0
  InPhase free = (pushed ≤ p) × (get_elem? homes i ≡ some (some None))
  InPhase (writing j) = (popped ≤ p) × (p < pushed)
  InPhase full = (popped ≤ p) × (p < pushed) × ((x : T) × (get_elem? homes i ≡ some (some (Some x))))
  InPhase (reading j) = p < popped
  InPhase (forcing j) = (p < popped) × (p + n ≤ pushed)
  InPhase (swapping j) = (popped ≤ p) × (p < pushed)

pub record CellOk {T : Type 0} (n m pushed popped : ℕ) (words : List ℕ) (homes : List (maybe.Option (Option T))) (i : ℕ) (c : Cell) : Type
    0 where
  pub shows : slice_index_or words (i + 32) 0 + back m c.1 ≡ word_at n m c.0 + above c.1
  pub lies : c.0 % n ≡ i
  pub freed : c.0 < popped + n
  pub waits : pushed ≤ c.0 + n
  pub phase : InPhase n pushed popped homes i c.0 c.1

-- what a seat j at the count p, which has seen the word w, and the stamp x of the place i, knows of that place
module _ (n m pushed popped : ℕ) (j p i w x : ℕ) (c : Cell) where
  abbrev pub Knows : Stage → Type 0
  Knows Idle = Unit {0}
  Knows SawTail = (p ≤ pushed) × ((shut : ℕ) × (shut ≤ 1) × (w ≡ word_at n m p + shut * m))
  Knows SawHead = (p ≤ popped) × (w ≡ word_at n m p)
  Knows SawStamp =
      (w ≡ word_at n m p) × (i ≡ p % n) × (p ≤ pushed)
      × (x ≡ w → p ≤ c.0) × (x ≡ w + 1 → 2 * p + 1 ≤ 2 * c.0 + up c.1) × (x + 2 * m ≡ w + 1 → 2 * p + 1 ≤ 2 * (c.0 + n) + up c.1)
  Knows Writing = (w ≡ word_at n m p) × (i ≡ p % n) × (c ≡ (p, writing j))
  Knows Reading = (w ≡ word_at n m p) × (i ≡ p % n) × (c ≡ (p, reading j))
  Knows Forcing = (w ≡ word_at n m p) × (i ≡ p % n) × ((q : ℕ) × (q + n ≡ p) × (c ≡ (q, forcing j)))
  Knows Swapping = (w ≡ word_at n m p) × (i ≡ p % n) × (c ≡ (p, swapping j))

-- every view has the mark, and what it knows to be closed stays closed
abbrev pub Keeps : ℕ → ℕ → Doing → Type 0
Keeps m shut d = (d.mark ≡ m) × (d.closed ≡ true → shut ≡ 1)

pub record BoundedRule {T : Type 0} (n m : ℕ) (s : State (Option T) Doing) : Type 0 where
  pub shape : IsShape n m
  pub pushed : ℕ
  pub popped : ℕ
  pub shut : ℕ
  pub cells : ℕ → Cell
  pub shut_once : shut ≤ 1
  pub places : length s.homes ≡ n
  pub wide : length s.words ≡ n + 32
  pub tail_is : slice_index_or s.words 0 0 ≡ word_at n m pushed + shut * m
  pub head_is : slice_index_or s.words 16 0 ≡ word_at n m popped
  pub behind : popped ≤ pushed
  pub within : pushed ≤ popped + n
  pub each_cell : (i : ℕ) → i < n → CellOk n m pushed popped s.words s.homes i (cells i)
  pub each_seat : (j : ℕ) (d : Doing) → get_elem? s.views j ≡ some d
      → Knows n m pushed popped j d.at d.place d.word d.stamp (cells d.place) d.stage
  pub each_view : (j : ℕ) (d : Doing) → get_elem? s.views j ≡ some d → Keeps m shut d

-- the words of a new ring
pub record AreNewWords (n : ℕ) (words : List ℕ) : Type 0 where
  pub wide : length words ≡ n + 32
  pub tail : slice_index_or words 0 0 ≡ 0
  pub head : slice_index_or words 16 0 ≡ 0
  pub stamps : (i : ℕ) → i < n → slice_index_or words (i + 32) 0 ≡ i

abbrev pub doing : Stage → ℕ → ℕ → ℕ → ℕ → ℕ → Bool → List ℕ → Doing
doing stage at place word stamp mark closed found =
    record { stage = stage; at = at; place = place; word = word; stamp = stamp; mark = mark; closed = closed; found = found }

abbrev pub Known : Type 0 → Type 0
Known T = Me (Option T) Doing

module _ {T : Type 0} where
  -- what a seat knows to be closed is found closed; and each step on the tail keeps in its view whether it found so
  abbrev pub IsStillShut : Known T → ℕ → Type 0
  IsStillShut me r = me.0.closed ≡ true → is_marked me.0.mark r ≡ true

  -- the tail, as it stands
  abbrev pub saw_tail : List ℕ → Known T → ℕ → Known T → Type 0
  saw_tail prior me r me' =
      ((p : ℕ) × (me' ≡ (doing SawTail p 0 r 0 me.0.mark (is_marked me.0.mark r) (prior ++ r ∷ []), me.1))) × IsStillShut me r

  -- the head, as it stands
  abbrev pub saw_head : List ℕ → Known T → ℕ → Known T → Type 0
  saw_head prior me r me' = (p : ℕ) × (me' ≡ (doing SawHead p 0 r 0 me.0.mark me.0.closed (prior ++ r ∷ []), me.1))

  -- a word of which nothing is kept but the number
  abbrev pub looked : Known T → ℕ → Known T → Type 0
  looked me r me' = me' ≡ (record me.0 { found = me.0.found ++ r ∷ [] }, me.1)

  -- the head, which is at most n places behind the tail that was seen
  abbrev pub looked_behind : ℕ → Known T → ℕ → Known T → Type 0
  looked_behind n me r me' =
      looked me r me' × (me.0.stage ≡ SawTail → count_at n me.0.mark me.0.word ≤ count_at n me.0.mark r + n)

  abbrev pub looked_at_tail : Known T → ℕ → Known T → Type 0
  looked_at_tail me r me' =
      (me' ≡ (record me.0 { closed = is_marked me.0.mark r; found = me.0.found ++ r ∷ [] }, me.1)) × IsStillShut me r

  -- the stamp in the word k
  abbrev pub stamped : ℕ → Known T → ℕ → Known T → Type 0
  stamped k me r me' = me' ≡ (doing SawStamp me.0.at (k - 32) me.0.word r me.0.mark me.0.closed (me.0.found ++ r ∷ []), me.1)

  -- it has the place now, where the exchange was won
  abbrev pub entered : Stage → Known T → ℕ → Doing
  entered stage me r = record me.0 { stage = stage; found = me.0.found ++ r ∷ [] }

  abbrev pub appended : ℕ → Known T → ℕ → Known T → Type 0
  appended old me r me' =
      (r ≡ old → me' ≡ (entered Writing me r, (me.0.place, None) ∷ me.1)) × (r ≢ old → saw_tail me.0.found me r me')

  abbrev pub took : ℕ → Known T → ℕ → Known T → Type 0
  took old me r me' =
      (r ≡ old → (x : T) × (me' ≡ (entered Reading me r, (me.0.place, Some x) ∷ me.1))) × (r ≢ old → saw_head me.0.found me r me')

  abbrev pub displaced : ℕ → Known T → ℕ → Known T → Type 0
  displaced old me r me' =
      (r ≡ old → (x : T) × (me' ≡ (entered Forcing me r, (me.0.place, Some x) ∷ me.1))) × (r ≢ old → looked me r me')

  -- the append that has to follow a displacement
  abbrev pub advanced : Known T → ℕ → Known T → Type 0
  advanced me r me' = (me' ≡ (record (entered Swapping me r) { closed = is_marked me.0.mark r }, me.1)) × IsStillShut me r

  -- the close by a push of one item too many, where the exchange was won
  abbrev pub spent : ℕ → Known T → ℕ → Known T → Type 0
  spent old me r me' =
      (p : ℕ) × (closed : Bool) × (me' ≡ (doing SawTail p 0 r 0 me.0.mark closed (me.0.found ++ r ∷ []), me.1))
      × (me.0.closed ≡ true → closed ≡ true) × (r ≡ old → closed ≡ true) × (r ≢ old → closed ≡ is_marked me.0.mark r)

  -- the close, which is the only step of its call
  abbrev pub closed : Known T → ℕ → Known T → Type 0
  closed me r me' = ((p : ℕ) × (me' ≡ (doing SawTail p 0 r 0 me.0.mark true (r ∷ []), me.1))) × IsStillShut me r

  -- the place goes home with its new stamp
  abbrev pub gave : Known T → ℕ → Known T → Type 0
  gave me r me' = me' ≡ (doing Idle 0 0 0 0 me.0.mark me.0.closed (me.0.found ++ r ∷ []), rest me.1)
