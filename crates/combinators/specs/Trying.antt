-- What a poll of futures that may fail leaves and answers.
use Rattle.std.specs.Prelude.{◌≡◌, ◌⊎◌, ◌&&◌, false, Result, Ok, Err}
use Rattle.async_task.specs.declared.poll.Poll.{Poll}
use Rattle.async_task.specs.declared.poll.Poll.TheVariants.{Ready, Pending}
use Rattle.waiting.specs.Both.{MayGive}
use Rattle.waiting.specs.declared.both.Awaited.TheVariants.{Given}
use Rattle.combinators.specs.Parts.{GoesOn, IsWaiting, is_done}
use Rattle.combinators.specs.declared.tried_two.TryJoin.{TryJoin}
use Rattle.combinators.specs.declared.tried_three.TryJoin3.{TryJoin3}

module _ {A X B Y E : Type 0} where
  -- ready with both outputs, which are given then; or with the error of one that waited, and nothing is kept; or pending while one has
  -- no output, and one that came is kept
  abbrev pub HasTriedBoth : TryJoin A X B Y → TryJoin A X B Y → Poll (Result (X × Y) E) → Type 0
  HasTriedBoth old new (Ready (Ok both)) = MayGive old.first both.0 × MayGive old.second both.1
      × (new.first ≡ Given) × (new.second ≡ Given)
  HasTriedBoth old new (Ready (Err _)) = (IsWaiting old.first ⊎ IsWaiting old.second) × (new.first ≡ Given) × (new.second ≡ Given)
  HasTriedBoth old new Pending = GoesOn old.first new.first × GoesOn old.second new.second
      × ((is_done new.first && is_done new.second) ≡ false)

module _ {A X B Y C Z E : Type 0} where
  -- the same of three
  abbrev pub HasTried3 : TryJoin3 A X B Y C Z → TryJoin3 A X B Y C Z → Poll (Result (X × Y × Z) E) → Type 0
  HasTried3 old new (Ready (Ok all)) = MayGive old.first all.0 × MayGive old.second all.1 × MayGive old.third all.2
      × (new.first ≡ Given) × (new.second ≡ Given) × (new.third ≡ Given)
  HasTried3 old new (Ready (Err _)) = (IsWaiting old.first ⊎ (IsWaiting old.second ⊎ IsWaiting old.third))
      × (new.first ≡ Given) × (new.second ≡ Given) × (new.third ≡ Given)
  HasTried3 old new Pending = GoesOn old.first new.first × GoesOn old.second new.second × GoesOn old.third new.third
      × ((is_done new.first && is_done new.second && is_done new.third) ≡ false)
