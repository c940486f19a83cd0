-- How a call on a ring stands between two steps: what a seat's view has while the call is at a turn.
use Rattle.std.specs.Prelude.{◌≡◌, ℕ, ◌+◌, ◌*◌, ◌%◌, ◌<◌, ◌≤◌, false, [], ◌∷◌, ◌++◌}
use Rattle.queue_steps.specs.Bounded.{IsPlaceWord, is_marked}
use Rattle.queue_steps.specs.BoundedTurns.{Turn, HeadFor, push_turn, force_push_turn, pop_turn}
use Rattle.queue_steps.specs.BoundedCallTurns.{of_push, of_pop}
use Rattle.queue_steps.specs.declared.steps.bounded.Shape.{Shape}
use Rattle.queue_steps.specs.declared.steps.bounded.PushTurn.{PushTurn}
use Rattle.queue_steps.specs.declared.steps.bounded.PushTurn.TheVariants as push
use Rattle.queue_steps.specs.declared.steps.bounded.PopTurn.{PopTurn}
use Rattle.queue_steps.specs.declared.steps.bounded.PopTurn.TheVariants as pop
use Rattle.concurrent_queue.specs.BoundedSeat.{len_at}
use Rattle.concurrent_queue.specs.declared.bounded.rule.Doing.{Doing}
use Rattle.concurrent_queue.specs.declared.bounded.rule.Stage.TheVariants.{SawTail, SawHead, SawStamp}

module _ (shape : Shape) where
  -- the place at this tail was seen, open
  abbrev pub SawPlace : ℕ → Doing → Type 0
  SawPlace t d = (d.stage ≡ SawStamp) × (d.word ≡ t) × (d.place ≡ t % shape.mark) × (d.closed ≡ false)

  abbrev pub PushStands : PushTurn → Doing → Type 0
  PushStands push.Tail d = Unit {0}
  PushStands (push.Stamp t) d =
      (d.stage ≡ SawTail) × (d.word ≡ t) × (is_marked shape.mark t ≡ false) × (t % shape.mark < shape.capacity)
      × (d.closed ≡ false)
  PushStands (push.HeadFor t) d =
      SawPlace t d × (is_marked shape.mark t ≡ false) × (t % shape.mark < shape.capacity) × (d.stamp + 2 * shape.mark ≡ t + 1)
  PushStands (push.Append t) d = SawPlace t d × (d.stamp ≡ t) × IsPlaceWord shape.capacity shape.mark t
  PushStands (push.Spend t) d = is_marked shape.mark t ≡ false
  PushStands push.Closed d = Unit {0}

  abbrev pub DisplaceStands : ℕ → Doing → Type 0
  DisplaceStands t d =
      SawPlace t d × (d.stamp + 2 * shape.mark ≡ t + 1) × (2 * shape.mark ≤ t) × IsPlaceWord shape.capacity shape.mark t

  -- one more word, and where a push and a forced push stand then
  abbrev pub PushesOn : Turn → Doing → PushTurn → Doing → Type 0
  PushesOn t d t' d' =
      (w : ℕ) × (d'.found ≡ d.found ++ w ∷ []) × (of_push t' ≡ push_turn shape.capacity shape.mark t w)
      × (of_push t' ≡ force_push_turn shape.capacity shape.mark t w) × PushStands t' d'

  abbrev pub PopStands : PopTurn → Doing → Type 0
  PopStands pop.Head d = Unit {0}
  PopStands (pop.Stamp h) d = (d.stage ≡ SawHead) × (d.word ≡ h) × (h % shape.mark < shape.capacity)
  PopStands (pop.TailFor h) d = Unit {0}
  PopStands (pop.Take h) d =
      (d.stage ≡ SawStamp) × (d.word ≡ h) × (d.place ≡ h % shape.mark) × (d.stamp ≡ h + 1)
      × IsPlaceWord shape.capacity shape.mark h
  PopStands pop.Empty d = Unit {0}
  PopStands pop.Closed d = Unit {0}

  abbrev pub PopsOn : Turn → Doing → PopTurn → Doing → Type 0
  PopsOn t d t' d' =
      (w : ℕ) × (d'.found ≡ d.found ++ w ∷ []) × (of_pop t' ≡ pop_turn shape.capacity shape.mark t w) × PopStands t' d'

  -- a look for the length stands at the head, behind the tail that it saw last
  abbrev pub LenStands : ℕ → Doing → Type 0
  LenStands tail d = (len_at shape d.found ≡ HeadFor tail) × (d.stage ≡ SawTail) × (d.word ≡ tail)
