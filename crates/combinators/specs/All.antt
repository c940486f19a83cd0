-- What a poll of all of three or four futures leaves and answers.
use Rattle.std.specs.Prelude.{◌≡◌, ◌&&◌, false}
use Rattle.async_task.specs.declared.poll.Poll.{Poll}
use Rattle.async_task.specs.declared.poll.Poll.TheVariants.{Ready, Pending}
use Rattle.waiting.specs.Both.{MayGive}
use Rattle.waiting.specs.declared.both.Awaited.TheVariants.{Given}
use Rattle.combinators.specs.Parts.{GoesOn, is_done}
use Rattle.combinators.specs.declared.all_of_four.Join4.{Join4}
use Rattle.combinators.specs.declared.all_of_three.Join3.{Join3}

module _ {A X B Y C Z : Type 0} where
  -- ready with each one's output, which is given then; or pending while one has none, and outputs that came are kept
  abbrev pub HasJoined3 : Join3 A X B Y C Z → Join3 A X B Y C Z → Poll (X × Y × Z) → Type 0
  HasJoined3 old new (Ready all) = MayGive old.first all.0 × MayGive old.second all.1 × MayGive old.third all.2
      × (new.first ≡ Given) × (new.second ≡ Given) × (new.third ≡ Given)
  HasJoined3 old new Pending = GoesOn old.first new.first × GoesOn old.second new.second × GoesOn old.third new.third
      × ((is_done new.first && is_done new.second && is_done new.third) ≡ false)

module _ {A X B Y C Z D V : Type 0} where
  -- the same of four
  abbrev pub HasJoined4 : Join4 A X B Y C Z D V → Join4 A X B Y C Z D V → Poll (X × Y × Z × V) → Type 0
  HasJoined4 old new (Ready all) = MayGive old.first all.0 × MayGive old.second all.1 × MayGive old.third all.2 × MayGive old.fourth all.3
      × (new.first ≡ Given) × (new.second ≡ Given) × (new.third ≡ Given) × (new.fourth ≡ Given)
  HasJoined4 old new Pending = GoesOn old.first new.first × GoesOn old.second new.second × GoesOn old.third new.third
      × GoesOn old.fourth new.fourth
      × ((is_done new.first && is_done new.second && is_done new.third && is_done new.fourth) ≡ false)
