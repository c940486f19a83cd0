-- What a ring is at a moment of a run on which several parties call. n is the number of places, m the mark.
use Rattle.std.proofs.Common.{◌≡◌, ◌≢◌, ◌⊎◌, ℕ, ◌+◌, ◌*◌, ◌%◌, ◌<◌, ◌≤◌, List, [], ◌∷◌, length, drop, Bool, true, false, Option, Some, None}
use Rattle.std.proofs.Common.{if◌then◌else◌}
use Rattle.queue_steps.specs.declared.bounded.Slot.{Slot}
use Rattle.queue_steps.specs.BoundedTurns.{Turn, Tail, Head, Stamp, HeadFor, TailFor, TailAgain, Append, Take, Displace, Advance, Spend}
use Rattle.queue_steps.specs.BoundedTurns.{Fill, Drain, End, Close as CloseTurn}
use Rattle.queue_steps.specs.Reply.{Reply, Done, Displaced}
use Rattle.queue_steps.specs.ClosableQueue.{ClosableQueue, most_accepted}
use Rattle.queue_steps.specs.Calls.{Call, Push, ForcePush, Pop, Close, Len, IsEmptyCall, IsFullCall, IsClosedCall}
use Rattle.queue_laws.specs.Moments.{Sight, Progress, Scene, AtSome, MayEnd, WasOpenAndFull}
use Rattle.queue_steps.specs.Bounded.{word_at}
use Rattle.queue_laws.specs.SingleSteps.{answer_of, stored}
use Rattle.queue_laws.specs.BoundedSteps.{Place, Away, Stands, Leaving, BoundedWorld, reply_of}
use Rattle.queue_laws.proofs.BoundedStamps.{bit}

-- what a party has a place for: to write into a free one, to swap in one whose item it displaced, to read an item that it
-- took, or to move the tail on before it swaps
pub data Grip : Type 0 where
  writing : Grip
  swapping : Grip
  reading : Grip
  displacing : Grip

-- a place that is free for the count of its round, one that has the item of that count, or one that is a party's own:
-- its call, what was in it when the party got it, and whether the party was there by now
pub data Phase (T : Type 0) : Type 0 where
  free : Phase T
  full : T → Phase T
  held : ℕ → Call T → Grip → Option T → Bool → Phase T

pub record Cell (T : Type 0) : Type 0 where
  pub round : ℕ
  pub phase : Phase T

-- how many items were appended and taken, whether the ring is closed, all items that were appended, oldest first, the
-- one that is on its way in, and the places
pub record Ghost (T : Type 0) : Type 0 where
  pub pushed : ℕ
  pub popped : ℕ
  pub shut : Bool
  pub all : List T
  pub coming : Option (ℕ × T)
  pub cells : ℕ → Cell T

pub data Kind : Type 0 where
  looking : Kind
  holding : Kind
  ending : Reply → Kind

abbrev pub kind_of : Turn → Kind
kind_of (Advance t) = holding
kind_of (Fill t r) = holding
kind_of (Drain h) = holding
kind_of (End r) = ending r
kind_of _ = looking

-- what a call remembers of what it looked at
pub data Fact : Type 0 where
  Sure : Fact
  Both : Fact → Fact → Fact
  -- so many were appended, or taken, by then
  Past : ℕ → Fact
  Gone : ℕ → Fact
  -- a place had come so far
  Aged : ℕ → ℕ → Fact
  -- it was open at this count of appended items, or open and full
  OpenAt : ℕ → Fact
  OpenFull : Fact
  -- between these counts the length was right at some moment
  LenAt : ℕ → ℕ → Fact
  -- since this count of taken items it is empty, or it was not empty at some moment; and the same of a full one
  EmptyAt : ℕ → Fact
  FullAt : ℕ → Fact

abbrev pub up_of : Grip → ℕ
up_of writing = 0
up_of swapping = 1
up_of reading = 1
up_of displacing = 1

module _ {T : Type 0} where
  abbrev pub up : Phase T → ℕ
  up free = 0
  up (full x) = 1
  up (held j call g o d) = up_of g

  abbrev pub content : Phase T → Option T
  content free = None
  content (full x) = Some x
  content (held j call g o d) = if d then stored call o else o

  abbrev pub cell : ℕ → Phase T → Cell T
  cell p ph = record { round = p; phase = ph }

  abbrev pub age : Cell T → ℕ
  age c = 2 * c.round + up c.phase

  -- the item of the count p
  abbrev pub IsAt : List T → ℕ → T → Type 0
  IsAt all p x = drop p all ≡ x ∷ drop (p + 1) all

  abbrev pub Stores : List T → ℕ → Call T → Option T → Type 0
  Stores all p call o = (x : T) × (stored call o ≡ Some x) × IsAt all p x

  abbrev pub WasLong : ℕ → ℕ → ℕ → Sight T → Type 0
  WasLong pushed c q s = (p : ℕ) × (c ≤ p) × (p ≤ pushed) × (length s.queue.items + q ≡ p)

  abbrev pub WasSome : Sight T → Type 0
  WasSome s = s.queue.items ≢ []

module _ (n m : ℕ) where
  -- where a party stands that has a place of this round
  abbrev pub grip_turn : ℕ → Grip → Turn
  grip_turn p writing = Fill (word_at n m p) Done
  grip_turn p swapping = Fill (word_at n m (p + n)) Displaced
  grip_turn p reading = Drain (word_at n m p)
  grip_turn p displacing = Advance (word_at n m (p + n))

  -- what a push remembers at each of its turns
  abbrev pub PushFits : Turn → Fact → Type 0
  PushFits Tail f = f ≡ Sure
  PushFits (Stamp t) f = (c : ℕ) × (t ≡ word_at n m c) × (f ≡ Both (Past c) (OpenAt c))
  PushFits (HeadFor t) f =
      (q : ℕ) × (t ≡ word_at n m (q + n)) × (f ≡ Both (Both (Past (q + n)) (OpenAt (q + n))) (Aged (q % n) (2 * q + 1)))
  PushFits (Append t) f = (c : ℕ) × (t ≡ word_at n m c) × (c < most_accepted) × (f ≡ Both (Past c) (Aged (c % n) (2 * c)))
  PushFits (Spend t) f = (c : ℕ) × (t ≡ word_at n m c) × (most_accepted ≤ c) × (f ≡ Both (Past c) (Aged (c % n) (2 * c)))
  PushFits _ f = ⊥

  abbrev pub ForcePushFits : Turn → Fact → Type 0
  ForcePushFits (Spend t) f = (c : ℕ) × (t ≡ word_at n m c) × (most_accepted ≤ c) × (f ≡ Past c)
  ForcePushFits (Displace t) f =
      (q : ℕ) × (t ≡ word_at n m (q + n)) × (q + n < most_accepted) × (f ≡ Both (Both (Past (q + n)) OpenFull) (Aged (q % n) (2 * q + 1)))
  ForcePushFits turn f = PushFits turn f

  abbrev pub PopFits : Turn → Fact → Type 0
  PopFits Head f = f ≡ Sure
  PopFits (Stamp h) f = (q : ℕ) × (h ≡ word_at n m q) × (f ≡ Gone q)
  PopFits (Take h) f = (q : ℕ) × (h ≡ word_at n m q) × (f ≡ Both (Gone q) (Aged (q % n) (2 * q + 1)))
  PopFits (TailFor h) f = (q : ℕ) × (h ≡ word_at n m q) × (f ≡ Both (Gone q) (Aged (q % n) (2 * q)))
  PopFits _ f = ⊥

  abbrev pub CloseFits : Turn → Fact → Type 0
  CloseFits CloseTurn f = f ≡ Sure
  CloseFits _ f = ⊥

  abbrev pub LenFits : Turn → Fact → Type 0
  LenFits Tail f = f ≡ Sure
  LenFits (HeadFor t) f = (c : ℕ) × (b : Bool) × (t ≡ word_at n m c + bit b * m) × (f ≡ Past c)
  LenFits (TailAgain t h) f = (c q : ℕ) × (b : Bool) × (t ≡ word_at n m c + bit b * m) × (h ≡ word_at n m q) × (f ≡ LenAt c q)
  LenFits _ f = ⊥

  abbrev pub EmptyFits : Turn → Fact → Type 0
  EmptyFits Head f = f ≡ Sure
  EmptyFits (TailFor h) f = (q : ℕ) × (h ≡ word_at n m q) × (f ≡ EmptyAt q)
  EmptyFits _ f = ⊥

  abbrev pub FullFits : Turn → Fact → Type 0
  FullFits Tail f = f ≡ Sure
  FullFits (HeadFor t) f = (c : ℕ) × (b : Bool) × (t ≡ word_at n m c + bit b * m) × (f ≡ FullAt c)
  FullFits _ f = ⊥

  abbrev pub ClosedFits : Turn → Fact → Type 0
  ClosedFits Tail f = f ≡ Sure
  ClosedFits _ f = ⊥

module _ {T : Type 0} (n m : ℕ) where
  abbrev pub slot_of : Cell T → Slot T
  slot_of c = record { stamp = word_at n m c.round + up c.phase; value = content c.phase }

  abbrev pub queue_of : Ghost T → ClosableQueue T
  queue_of g = record { items = drop g.popped g.all; capacity = Some n; closed = g.shut; accepted = Some g.pushed }

  abbrev pub sight_of : Ghost T → Sight T
  sight_of g = record { queue = queue_of g; incoming = g.coming }

  abbrev pub scene_of : Ghost T → (ℕ → Option (Progress T)) → Scene T
  scene_of g calls = record { sight = sight_of g; calls = calls }

  pub record Base (g : Ghost T) : Type 0 where
    pub behind : g.popped ≤ g.pushed
    pub within : g.pushed ≤ g.popped + n
    pub few : g.pushed ≤ most_accepted
    pub counted : length g.all ≡ g.pushed

  -- what the counts say of a place of the round p
  abbrev pub Owned : (pushed popped : ℕ) → List T → Option (ℕ × T) → ℕ → ℕ → Call T → Option T → Bool → Grip → Type 0
  Owned pushed popped all coming p j call o d writing = (popped ≤ p) × (p < pushed) × Stores all p call o
  Owned pushed popped all coming p j call o d swapping = (popped ≤ p + n) × (p + n < pushed) × Stores all (p + n) call o
  Owned pushed popped all coming p j call o d reading = (p < popped) × (pushed ≤ p + n) × (call ≡ Pop) × ((y : T) × (o ≡ Some y))
  Owned pushed popped all coming p j call o d displacing =
      (p < popped) × (pushed ≡ p + n) × (p + n < most_accepted) × ((x : T) × (call ≡ ForcePush x) × (coming ≡ Some (j, x)) × (d ≡ false))

  abbrev pub Lies : (pushed popped : ℕ) → List T → Option (ℕ × T) → ℕ → Phase T → Type 0
  Lies pushed popped all coming p free = (pushed ≤ p) × (p < popped + n)
  Lies pushed popped all coming p (full x) = (popped ≤ p) × (p < pushed) × IsAt all p x
  Lies pushed popped all coming p (held j call g o d) = Owned pushed popped all coming p j call o d g

  abbrev pub CellLies : Ghost T → Cell T → Type 0
  CellLies g c = Lies g.pushed g.popped g.all g.coming c.round c.phase

  abbrev pub place_of : ℕ → Call T → Grip → Option T → Bool → Place T
  place_of p call g o false = Stands call (grip_turn n m p g)
  place_of p call g o true = Leaving call (grip_turn n m p g) o

  -- a place that is a party's own says where the party stands
  abbrev pub HeldBy : (ℕ → Place T) → ℕ → Phase T → Type 0
  HeldBy places p free = Unit {0}
  HeldBy places p (full x) = Unit {0}
  HeldBy places p (held j call g o d) = places j ≡ place_of p call g o d

  abbrev pub ComesTo : (ℕ → Cell T) → ℕ → Option (ℕ × T) → Type 0
  ComesTo cells pushed None = Unit {0}
  ComesTo cells pushed (Some i) =
      (p : ℕ) × (o : Option T) × (p + n ≡ pushed)
      × (cells (pushed % n) ≡ record { round = p; phase = held i.0 (ForcePush i.1) displacing o false })

  abbrev pub WasOpen : ℕ → ℕ → Sight T → Type 0
  WasOpen popped c s = (q : ℕ) × (q ≤ popped) × (length s.queue.items + q ≡ c) × (s.queue.capacity ≡ Some n) × (s.queue.closed ≡ false)
      × (length s.queue.items ≤ n)

  abbrev pub WasNotFull : Sight T → Type 0
  WasNotFull s = (s.queue.capacity ≡ Some n) × (length s.queue.items ≢ n)

  abbrev pub Knows : Ghost T → List (Sight T) → Fact → Type 0
  Knows g seen Sure = Unit {0}
  Knows g seen (Both a b) = Knows g seen a × Knows g seen b
  Knows g seen (Past c) = c ≤ g.pushed
  Knows g seen (Gone q) = q ≤ g.popped
  Knows g seen (Aged i a) = a ≤ age (g.cells i)
  Knows g seen (OpenAt c) = AtSome (WasOpen g.popped c) seen
  Knows g seen OpenFull = AtSome WasOpenAndFull seen
  Knows g seen (LenAt c q) = AtSome (WasLong g.pushed c q) seen
  Knows g seen (EmptyAt q) = (q ≤ g.popped) × ((g.pushed ≡ q) ⊎ AtSome WasSome seen)
  Knows g seen (FullAt c) = (c ≤ g.pushed) × ((g.popped + n ≡ c) ⊎ AtSome WasNotFull seen)

  abbrev pub Fits : Call T → Turn → Fact → Type 0
  Fits (Push x) = PushFits n m
  Fits (ForcePush x) = ForcePushFits n m
  Fits Pop = PopFits n m
  Fits Close = CloseFits n m
  Fits Len = LenFits n m
  Fits IsEmptyCall = EmptyFits n m
  Fits IsFullCall = FullFits n m
  Fits IsClosedCall = ClosedFits n m

  abbrev pub Looks : Ghost T → Call T → Turn → List (Sight T) → Type 0
  Looks g call t seen = (f : Fact) × Fits call t f × Knows g seen f

  -- the place that a party has
  abbrev pub Grips : Ghost T → ℕ → Call T → Turn → Option T → Bool → Progress T → Type 0
  Grips g p call t o d k =
      (i c : ℕ) × (grip : Grip) × (i < n) × (g.cells i ≡ record { round = c; phase = held p call grip o d }) × (t ≡ grip_turn n m c grip)
      × (k.answer ≡ Some (answer_of call (reply_of t) o))

  abbrev pub StandsAs : Kind → Ghost T → ℕ → Call T → Turn → Progress T → Type 0
  StandsAs looking g p call t k = ((older : List (Sight T)) × (k.seen ≡ sight_of g ∷ older)) × (k.answer ≡ None) × Looks g call t k.seen
  StandsAs holding g p call t k = (o : Option T) × Grips g p call t o false k
  StandsAs (ending r) g p call t k = MayEnd k k.answer (answer_of call r None)

  -- what ties a party's place to its call
  abbrev pub TiedPlace : Ghost T → ℕ → Place T → Option (Progress T) → Type 0
  TiedPlace g p Away c = c ≡ None
  TiedPlace g p (Stands call t) c = (k : Progress T) × (c ≡ Some k) × (k.call ≡ call) × StandsAs (kind_of t) g p call t k
  TiedPlace g p (Leaving call t o) c = (k : Progress T) × (c ≡ Some k) × Grips g p call t o true k

  pub record Tied (w : BoundedWorld T) (g : Ghost T) (calls : ℕ → Option (Progress T)) : Type 0 where
    pub base : Base g
    pub tail : w.tail ≡ word_at n m g.pushed + bit g.shut * m
    pub head : w.head ≡ word_at n m g.popped
    pub slots : (i : ℕ) → i < n → w.slots i ≡ slot_of (g.cells i)
    pub rounds : (i : ℕ) → i < n → (g.cells i).round % n ≡ i
    pub lies : (i : ℕ) → i < n → CellLies g (g.cells i)
    pub held_by : (i : ℕ) → i < n → HeldBy w.places (g.cells i).round (g.cells i).phase
    pub comes : ComesTo g.cells g.pushed g.coming
    pub each : (p : ℕ) → TiedPlace g p (w.places p) (calls p)
