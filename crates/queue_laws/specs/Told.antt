-- A call acts at one moment at most between its beginning and its end, and answers what it did then.
use Rattle.std.specs.Prelude.{◌≡◌, ℕ, List, [], ◌∷◌, true, Some, Ok}
use Rattle.queue_steps.specs.Calls.{Answer, Pushed, ForcePushed, Popped, WasClosed}
use Rattle.queue_laws.specs.Moments.{Moment, Begins, Does, Displaces, Arrives, Ends}
use Rattle.queue_laws.specs.BoundedSteps.{with_at}

-- a party is in no call, or in one that has not acted, or in one that has acted and is to answer so
pub data Stage (T : Type 0) : Type 0 where
  Away : Stage T
  Begun : Stage T
  Acted : Answer T → Stage T

module _ {T : Type 0} where
  abbrev pub stages_after : (ℕ → Stage T) → Moment T → ℕ → Stage T
  stages_after at (Begins p call) = with_at at p Begun
  stages_after at (Does p a) = with_at at p (Acted a)
  stages_after at (Displaces p y) = with_at at p (Acted (ForcePushed (Ok (Some y))))
  stages_after at (Arrives p) = at
  stages_after at (Ends p a) = with_at at p Away

  -- an answer of a call that took no item in, gave none, and did not close the queue
  abbrev pub IsIdle : Answer T → Type 0
  IsIdle (Pushed (Ok u)) = ⊥
  IsIdle (ForcePushed (Ok o)) = ⊥
  IsIdle (Popped (Ok x)) = ⊥
  IsIdle (WasClosed true) = ⊥
  IsIdle a = Unit {0}

  -- how a call may end: with what it did, or idle if it did nothing
  abbrev pub AnswersFor : Stage T → Answer T → Type 0
  AnswersFor Away a = ⊥
  AnswersFor Begun a = IsIdle a
  AnswersFor (Acted did) a = did ≡ a

  -- an item that is on its way in is that of a forced push that has displaced one
  abbrev pub HasDisplaced : Stage T → Type 0
  HasDisplaced (Acted (ForcePushed (Ok (Some y)))) = Unit {0}
  HasDisplaced s = ⊥

  abbrev pub Fits : (ℕ → Stage T) → Moment T → Type 0
  Fits at (Begins p call) = at p ≡ Away
  Fits at (Does p a) = at p ≡ Begun
  Fits at (Displaces p y) = at p ≡ Begun
  Fits at (Arrives p) = HasDisplaced (at p)
  Fits at (Ends p a) = AnswersFor (at p) a

  abbrev pub FitsFrom : (ℕ → Stage T) → List (Moment T) → Type 0
  FitsFrom at [] = Unit {0}
  FitsFrom at (m ∷ ms) = Fits at m × FitsFrom (stages_after at m) ms

  -- Each call acts at most once, between its beginning and its end, and answers what it did.
  abbrev pub AnswerWhatTheyDid : List (Moment T) → Type 0
  AnswerWhatTheyDid = FitsFrom (λ p. Away)
