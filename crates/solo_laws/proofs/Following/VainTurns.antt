-- How many turns who finds nothing takes in the executor of one owner: one where it lies with a waker or is refused memory at once, else
-- two.
use Rattle.std.proofs.Common.{◌≡◌, ◌≤◌, ◌+◌, ◌^◌, ◌%◌, ℕ, List, Bool, true, false, not, Option, Some, None, length, find, is_some}
use Rattle.std.proofs.Common.{refl, sym, ap, ◌∙◌, if◌then◌else◌}
use Rattle.solo.specs.declared.names.Task.{Task}
use Rattle.solo.specs.declared.names.SoloWaker.{SoloWaker}
use Rattle.solo.specs.declared.names.SoloWaker.TheVariants.{Task as OfTask, Outside}
use Rattle.solo.specs.declared.owed.Lent.{Lent}
use Rattle.solo.specs.declared.solo.Solo.{Solo}
use Rattle.solo.specs.declared.ticks.Ticked.{Ticked}
use Rattle.solo.specs.declared.ticks.Ticker.{Ticker}
use Rattle.solo.specs.declared.ticks.Ticker.TheVariants.{Awake}
use Rattle.solo.specs.Cells.{choose}
use Rattle.solo.specs.Lines as lines
use Rattle.solo.specs.Solo as solo
use Rattle.solo.specs.Ticks as ticks
use Rattle.plain_scheduler.specs.State.{AtOnce, Choice, Granted, Later, Lying, Plain, Who}
use Rattle.plain_scheduler.specs.Lists.{or}
use Rattle.plain_scheduler.specs.Moves.{lies}
use Rattle.plain_scheduler.specs.Turns.{turned_in}
use Rattle.plain_scheduler.specs.Usual.{lies_uncalled, vain_turns}
use Rattle.solo_laws.specs.Alike.{copies}
use Rattle.solo_laws.specs.Numbered.{ticker_of}
use Rattle.solo_laws.specs.Owner.{HasRoom}
use Rattle.solo_laws.specs.Road.{HasLife, IsNamed}
use Rattle.solo_laws.specs.Tabled.{named}
use Rattle.solo_laws.specs.Ticking.{looks_again, rested, slept_answer, slept_once}
use Rattle.solo_laws.proofs.Prompt.{chosen}
use Rattle.solo_laws.proofs.Turning.{At, asleep_at, searched_turn}
use Rattle.solo_laws.proofs.Following.Due.{clash}
use Rattle.solo_laws.proofs.Following.Resting as resting
use Rattle.solo_laws.proofs.Following.Resting.{Standing, copied_lying, slept_under}

module _ {F T X : Type 0} where
  copied_at : (n : ℕ) (w : SoloWaker X) (s : Solo F T X) → At n s → At n (copies w s)
  copied_at n (OfTask task) s at = at
  copied_at n (Outside x) s at = at

  slept_at : (n : ℕ) (ticker : Ticker) (w : SoloWaker X) (s : Solo F T X) → At n (solo.popped s) → At n (slept_once ticker w s)
  slept_at n ticker w s at =
      let y = copies w (solo.popped s) in
      chosen (At n) (lines.is_empty y.lines) (ticks.fallen_asleep ticker w y) y (asleep_at n ticker w y (copied_at n w (solo.popped s) at))
      (copied_at n w (solo.popped s) at)

  -- it is refused memory at once
  pub refused_vain : (who : Who) (ls : List (Lying (SoloWaker X))) (s : Solo F T X)
      → (solo.popped s).lines.turn ≡ turned_in (vain_turns AtOnce who ls) s.lines.turn
  refused_vain who ls s = searched_turn s.lines ∙ ap (λ k. turned_in k s.lines.turn) (sym (same (lies_uncalled who ls)))
    where
      same : (b : Bool) → ◌≡◌ {A = ℕ} (if b then 1 else 1) 1
      same true = refl
      same false = refl

module _ {F T X : Type 0} (its : ℕ → Lent) (number : Who → ℕ) (s : Solo F T X) (p : Plain T (SoloWaker X)) (c : Choice) (who : Who)
    (w : SoloWaker X) (so : Standing its c who w number (solo.popped s) p)
    (names : (u : Task) → w ≡ OfTask u → IsNamed (named its) (length p.futures) u × (solo.may_hold u s ≡ true))
    (few : length p.lying ≤ c.tells) (lives : HasLife 2 (solo.popped s).lines) (room : HasRoom who s p) where
  abbrev ticker : Ticker
  ticker = ticker_of number who p.lying

  -- it searches again where it isn't with a waker
  pub again : looks_again (slept_answer ticker w s).look ≡ not (lies_uncalled who p.lying)
  again = by (find (lies who) p.lying) refl
    where
      by : (o : Option (Lying (SoloWaker X))) → find (lies who) p.lying ≡ o
          → looks_again (slept_answer (or o (λ l. slept_under (number who)) (Awake ticks.its_room)) w s).look
          ≡ not (or o (λ l. is_some l.waker) false)
      by None lain =
          ap (λ (out : Ticked F X). looks_again out.look)
          (resting.anew_answer its c who w number (solo.popped s) p so names few lives
          (ap (find (lies who)) (copied_lying w p) ∙ lain) (room lain))
      by (Some l) lain = waker l.waker refl
        where
          waker : (a : Option (SoloWaker X)) → l.waker ≡ a
              → looks_again (slept_answer (slept_under (number who)) w s).look ≡ not (is_some l.waker)
          waker None has =
              ap (λ (out : Ticked F X). looks_again out.look)
              (resting.later_answer its c who w number (solo.popped s) p so names few lives l
              (ap (find (lies who)) (copied_lying w p) ∙ lain) has)
              ∙ ap (λ (a : Option (SoloWaker X)). not (is_some a)) (sym has)
          waker (Some old) has =
              ap (λ (out : Ticked F X). looks_again out.look)
              (resting.answer_is its c who w number (solo.popped s) p so names few lives l
              (ap (find (lies who)) (copied_lying w p) ∙ lain) old has)
              ∙ ap (λ (a : Option (SoloWaker X)). not (is_some a)) (sym has)

  once : (slept_once ticker w s).lines.turn ≡ (s.lines.turn + 1) % 2 ^ 64
  once = slept_at ((s.lines.turn + 1) % 2 ^ 64) ticker w s (searched_turn s.lines)

  -- it lies, or lies down and searches again
  pub rested_vain : (rested ticker w s).lines.turn ≡ turned_in (vain_turns Granted who p.lying) s.lines.turn
  rested_vain = let out = slept_answer ticker w s in counted (looks_again out.look) (lies_uncalled who p.lying) again out.ticker
    where
      counted : (b u : Bool) → b ≡ not u → (ticker' : Ticker)
          → (choose b (slept_once ticker' w (slept_once ticker w s)) (slept_once ticker w s)).lines.turn
          ≡ turned_in (if u then 1 else 2) s.lines.turn
      counted false true so ticker' = once
      counted true false so ticker' =
          let z = slept_once ticker w s in
          slept_at ((z.lines.turn + 1) % 2 ^ 64) ticker' w z (searched_turn z.lines) ∙ ap (λ n. (n + 1) % 2 ^ 64) once
      counted true true so ticker' = absurd cc
      counted false false so ticker' = absurd cc

  -- it lies down, searches again, and is refused memory
  pub later_vain : looks_again (slept_answer ticker w s).look ≡ true
      → (solo.popped (slept_once ticker w s)).lines.turn ≡ turned_in (vain_turns Later who p.lying) s.lines.turn
  later_vain looks = by (lies_uncalled who p.lying) refl
    where
      by : (u : Bool) → lies_uncalled who p.lying ≡ u
          → (solo.popped (slept_once ticker w s)).lines.turn ≡ turned_in (if u then 1 else 2) s.lines.turn
      by true lain = absurd (clash (sym looks ∙ (again ∙ ap (λ b. not b) lain)) refl)
      by false lain = let z = slept_once ticker w s in searched_turn z.lines ∙ ap (λ n. (n + 1) % 2 ^ 64) once
