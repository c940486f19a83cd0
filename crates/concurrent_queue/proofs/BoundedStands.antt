-- Where a push on a ring stands after the exchange that was to close it.
use Rattle.std.proofs.Common.{◌≡◌, ◌≢◌, ℕ, ◌%◌, ◌<◌, ◌==◌, nat_lt, Bool, true, false, if◌then◌else◌, refl, sym, subst, arith}
use Rattle.std.proofs.lemmas.Bool.Decides.{nat_tests}
use Rattle.queue_steps.specs.Reply.{Closed}
use Rattle.queue_steps.specs.Bounded.{is_marked}
use Rattle.queue_steps.specs.BoundedTurns.{Tail, Stamp, Spend, End, pushes_from, push_turn}
use Rattle.queue_steps.specs.BoundedCallTurns.{of_push}
use Rattle.queue_steps.specs.declared.steps.bounded.Shape.{Shape}
use Rattle.queue_steps.specs.declared.steps.bounded.PushTurn.{PushTurn}
use Rattle.queue_steps.proofs.BoundedCallTurns.{closed_is, stamp_is, tail_is}
use Rattle.concurrent_queue.specs.declared.bounded.rule.Doing.{Doing}
use Rattle.concurrent_queue.specs.declared.bounded.rule.Stage.TheVariants.{SawTail}
use Rattle.concurrent_queue.specs.BoundedStands.{PushStands}

differ : (a b : ℕ) → (a == b) ≡ false → a ≢ b
differ a b e = grind (arith, nat_tests)

below : (a b : ℕ) → nat_lt a b ≡ true → a < b
below a b e = grind (arith, nat_tests)

module _ (shape : Shape) (tail found : ℕ) (d : Doing) (stage : d.stage ≡ SawTail) (word : d.word ≡ found) (t : PushTurn) where
  on_tail : (d.closed ≡ is_marked shape.mark found) → of_push t ≡ pushes_from shape.capacity shape.mark found → PushStands shape t d
  on_tail = by (is_marked shape.mark found) refl
    where
      near : (b : Bool) → nat_lt (found % shape.mark) shape.capacity ≡ b → is_marked shape.mark found ≡ false → d.closed ≡ false
          → of_push t ≡ (if b then Stamp found else Tail) → PushStands shape t d
      near true e bare shut at =
          subst (λ (t : PushTurn). PushStands shape t d) (sym (stamp_is t found at))
          (stage, word, bare, below (found % shape.mark) shape.capacity e, shut)
      near false e bare shut at = subst (λ (t : PushTurn). PushStands shape t d) (sym (tail_is t at)) tt

      by : (b : Bool) → is_marked shape.mark found ≡ b → d.closed ≡ b
          → of_push t ≡ (if b then End Closed else (if nat_lt (found % shape.mark) shape.capacity then Stamp found else Tail))
          → PushStands shape t d
      by true e shut at = subst (λ (t : PushTurn). PushStands shape t d) (sym (closed_is t at)) tt
      by false e shut at = near (nat_lt (found % shape.mark) shape.capacity) refl e shut at

  pub spends_on : (found ≢ tail → d.closed ≡ is_marked shape.mark found)
      → of_push t ≡ push_turn shape.capacity shape.mark (Spend tail) found → PushStands shape t d
  spends_on = by (found == tail) refl
    where
      by : (b : Bool) → (found == tail) ≡ b → (found ≢ tail → d.closed ≡ is_marked shape.mark found)
          → of_push t ≡ (if b then End Closed else pushes_from shape.capacity shape.mark found) → PushStands shape t d
      by true e closed at = subst (λ (t : PushTurn). PushStands shape t d) (sym (closed_is t at)) tt
      by false e closed at = on_tail (closed (differ found tail e)) at
