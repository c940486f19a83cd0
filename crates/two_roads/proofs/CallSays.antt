-- What a call of the executor of one owner says of what it chooses, counts and turns.
use Rattle.std.proofs.Common.{◌≡◌, ℕ, ◌≤◌, ◌<◌, true, false, List, length, refl, arith}
use Rattle.solo.specs.declared.names.SoloWaker.{SoloWaker}
use Rattle.solo.specs.declared.owed.Lent.{Lent}
use Rattle.solo.specs.declared.solo.Solo.{Solo}
use Rattle.solo.specs.Lines.{mark_of_turn}
use Rattle.plain_scheduler.specs.State.{Choice, Event, Plain}
use Rattle.plain_scheduler.specs.Calls.{Call}
use Rattle.plain_laws.specs.Searches.{looks_first}
use Rattle.machine_roads.proofs.Lists.{clash}
use Rattle.solo_laws.proofs.Choices.AsUsual.{chooses_there}
use Rattle.solo_laws.proofs.Choices.Counts.{call_counts}
use Rattle.solo_laws.proofs.Choices.Searched.{searched_there}
use Rattle.solo_laws.proofs.Choices.Turns.{call_turns}
use Rattle.solo_laws.proofs.Showing.Counts.{Below}
use Rattle.solo_laws.proofs.Showing.Courses.{Known}
use Rattle.solo_laws.specs.Courses as courses
use Rattle.solo_laws.specs.Courses.{Acts, Makes}
use Rattle.solo_laws.specs.Owner.{Owner}
use Rattle.solo_laws.specs.RunGoing.{IsEnding, Stage, drop_ends, loss_ends, poll_ends}
use Rattle.two_roads.proofs.Says.{CallSays}

no_look : {T A : Type 0} (stage : Stage T A) (call : Call T A) → IsEnding stage call → looks_first call ≡ false
no_look stage call (poll_ends f) = refl
no_look stage call (drop_ends f end) = refl
no_look stage call (loss_ends awaiter) = refl

at_most_63 : (n : ℕ) → n < 64 → n ≤ 63
at_most_63 n below = omega (arith, below)

-- where a try and a tick's poll look first
module _ {F T X : Type 0} (its : ℕ → Lent) where
  abbrev LooksBy : Choice → Solo F T X → Type 0
  LooksBy c s = c.first ≡ mark_of_turn s.lines.turn

  makes_first : (c : Choice) (s z : Solo F T X) (p : Plain T (SoloWaker X)) (call : Call T (SoloWaker X))
      (shown : List (Event T (SoloWaker X))) → Makes its c s p call shown z → looks_first call ≡ true → LooksBy c s
  makes_first c s z p call shown (courses.takes first life) looks = first
  makes_first c s z p call shown _ looks = absurd cc

  first_by : (owner : Owner) (c : Choice) (s : Solo F T X) (p : Plain T (SoloWaker X)) (now : Owner) (z : Solo F T X)
      (call : Call T (SoloWaker X)) (shown : List (Event T (SoloWaker X))) → Acts its owner c s p call shown now z
      → looks_first call ≡ true → LooksBy c s
  first_by owner c s p now z call shown (courses.makes call' shown' z' how) looks = makes_first c s z' p call' shown' how looks
  first_by owner c s p now z call shown (courses.tick_takes t w task lives found first life) looks = first
  first_by owner c s p now z call shown (courses.tick_rests t w lives found first granted names more life) looks = first
  first_by owner c s p now z call shown (courses.tick_refused t w lives found first refused) looks = first
  first_by owner c s p now z call shown (courses.tick_lies_refused t w lives found first refused names again more life) looks = first
  first_by owner c s p now z call shown (courses.run_goes_on stage runner w rest call' one more now' y z' o is ends how goes) looks =
      absurd (clash (no_look stage call' ends) looks)
  first_by owner c s p now z call shown (courses.run_drops stage r w rest call' one f z' is ends how) looks =
      absurd (clash (no_look stage call' ends) looks)
  first_by owner c s p now z call shown (courses.run_loses stage r w rest call' one v z' is ends how) looks =
      absurd (clash (no_look stage call' ends) looks)
  first_by owner c s p now z call shown _ looks = absurd cc

  pub call_says : (before : Owner) (c : Choice) (s : Solo F T X) (p : Plain T (SoloWaker X)) (behind : Owner) (z : Solo F T X)
      (call : Call T (SoloWaker X)) (shown : List (Event T (SoloWaker X))) → Known its before s p → Below before
      → length p.lying ≤ c.tells → Acts its before c s p call shown behind z → CallSays c before behind s z call p
  call_says before c s p behind z call shown known below tells acts = record {
    first = first_by before c s p behind z call shown acts;
    usual =
        λ x is found.
        chooses_there its before c s x behind z (λ r. at_most_63 (before.runner r).counted (below r))
        (searched_there its before c s p known tells behind z call shown acts x is) found;
    counted = call_counts its before c s p known below tells behind z call shown acts;
    turned = call_turns its before c s p known tells behind z call shown acts;
  }
