-- Runs of a closable queue on which several parties call: lists of moments. A call is answered as it would be at some
-- moment of its own. An item may be on its way in, and beside it nothing else is appended.
use Rattle.std.specs.Prelude.{◌≡◌, ◌≢◌, ◌⊎◌, ℕ, List, [], ◌∷◌, drop, false, Option, Some, None, Ok, Err, ◌==◌, if◌then◌else◌}
use Rattle.queue_steps.specs.ClosableQueue.{ClosableQueue, IsFull, IsUnspent, appended, taken}
use Rattle.queue_steps.specs.Calls.{Call, ForcePush, Answer, Pushed, ForcePushed, Popped, WasClosed, LenIs, EmptyIs, FullIs, ClosedIs, Acts}

-- the queue, and the party whose item is on its way in, with the item
pub record Sight (T : Type 0) : Type 0 where
  pub queue : ClosableQueue T
  pub incoming : Option (ℕ × T)

-- a call in progress: what the queue was at each moment of it, newest first, and its answer once it has acted
pub record Progress (T : Type 0) : Type 0 where
  pub call : Call T
  pub seen : List (Sight T)
  pub answer : Option (Answer T)

pub record Scene (T : Type 0) : Type 0 where
  pub sight : Sight T
  pub calls : ℕ → Option (Progress T)

pub data Moment (T : Type 0) : Type 0 where
  Begins : ℕ → Call T → Moment T
  -- the party's call acts, and will answer so
  Does : ℕ → Answer T → Moment T
  -- the first item leaves for that of a forced push, which is then on its way in
  Displaces : ℕ → T → Moment T
  -- the item on its way in is appended
  Arrives : ℕ → Moment T
  Ends : ℕ → Answer T → Moment T

module _ {T : Type 0} where
  -- beside an item on its way in nothing is appended, and no pop finds the queue empty
  abbrev pub MayBeside : Option (ℕ × T) → Answer T → Type 0
  MayBeside None a = Unit {0}
  MayBeside (Some i) (Pushed (Ok u)) = ⊥
  MayBeside (Some i) (Pushed (Err e)) = Unit {0}
  MayBeside (Some i) (ForcePushed (Ok o)) = ⊥
  MayBeside (Some i) (ForcePushed (Err e)) = Unit {0}
  MayBeside (Some i) (Popped (Ok x)) = Unit {0}
  MayBeside (Some i) (Popped (Err e)) = ⊥
  MayBeside (Some i) (WasClosed b) = Unit {0}
  MayBeside (Some i) (LenIs n) = Unit {0}
  MayBeside (Some i) (EmptyIs b) = Unit {0}
  MayBeside (Some i) (FullIs b) = Unit {0}
  MayBeside (Some i) (ClosedIs b) = Unit {0}

  -- at this moment the call may answer so and change nothing
  abbrev pub MayAnswer : Call T → Answer T → Sight T → Type 0
  MayAnswer call a s = Acts s.queue call a s.queue × MayBeside s.incoming a

  abbrev pub WasOpenAndFull : Sight T → Type 0
  WasOpenAndFull s = (s.queue.closed ≡ false) × IsFull s.queue

  -- at some moment of a call
  abbrev pub AtSome : (Sight T → Type 0) → List (Sight T) → Type 0
  AtSome P [] = ⊥
  AtSome P (s ∷ ss) = P s ⊎ AtSome P ss

  abbrev pub with_call : (ℕ → Option (Progress T)) → ℕ → Option (Progress T) → ℕ → Option (Progress T)
  with_call calls p c q = if q == p then c else calls q

  -- each call in progress sees what the queue has become
  abbrev pub sees : Sight T → Option (Progress T) → Option (Progress T)
  sees s None = None
  sees s (Some c) = Some (record c { seen = s ∷ c.seen })

  abbrev pub becomes : Scene T → Sight T → Scene T
  becomes scene s = record { sight = s; calls = λ q. sees s (scene.calls q) }

  abbrev pub answers : Scene T → ℕ → Progress T → Answer T → Scene T
  answers scene p c a = record scene { calls = with_call scene.calls p (Some (record c { answer = Some a })) }

  abbrev pub IsFromOther : Option (ℕ × T) → ℕ → Type 0
  IsFromOther None p = Unit {0}
  IsFromOther (Some i) p = i.0 ≢ p

  -- the call's answer is its own, or that of some moment of it
  abbrev pub MayEnd : Progress T → Option (Answer T) → Answer T → Type 0
  MayEnd c (Some told) a = told ≡ a
  MayEnd c None a = AtSome (MayAnswer c.call a) c.seen

  abbrev pub Happens : Scene T → Moment T → Scene T → Type 0
  Happens s (Begins p call) s' =
      (s.calls p ≡ None)
      × (s' ≡ record s { calls = with_call s.calls p (Some (record { call = call; seen = s.sight ∷ []; answer = None })) })
  Happens s (Does p a) s' =
      (c : Progress T) × (s.calls p ≡ Some c) × (c.answer ≡ None)
      × ((q : ClosableQueue T) × Acts s.sight.queue c.call a q × MayBeside s.sight.incoming a
      × (s' ≡ becomes (answers s p c a) (record s.sight { queue = q })))
  Happens s (Displaces p y) s' =
      (c : Progress T) × (x : T) × (s.calls p ≡ Some c) × (c.answer ≡ None) × (c.call ≡ ForcePush x)
      × (s.sight.incoming ≡ None) × IsFull s.sight.queue × IsUnspent s.sight.queue × AtSome WasOpenAndFull c.seen
      × (s.sight.queue.items ≡ y ∷ drop 1 s.sight.queue.items)
      × (s' ≡ becomes (answers s p c (ForcePushed (Ok (Some y)))) (record { queue = taken s.sight.queue; incoming = Some (p, x) }))
  Happens s (Arrives p) s' =
      (x : T) × (s.sight.incoming ≡ Some (p, x))
      × (s' ≡ becomes s (record { queue = appended s.sight.queue x; incoming = None }))
  Happens s (Ends p a) s' =
      (c : Progress T) × (s.calls p ≡ Some c) × MayEnd c c.answer a × IsFromOther s.sight.incoming p
      × (s' ≡ record s { calls = with_call s.calls p None })

  -- a whole run
  abbrev pub Run : Scene T → List (Moment T) → Scene T → Type 0
  Run s [] s' = s' ≡ s
  Run s (moment ∷ more) s' = (mid : Scene T) × Happens s moment mid × Run mid more s'
