-- Two runs that take as both executors do, from the same plain state but for names, take alike.
use Rattle.std.proofs.Common.{◌≡◌, ℕ, ◌-◌, ◌==◌, ◌++◌, Bool, true, false, List, [], find, count_by, is_some, cond, Option, Some, None}
use Rattle.std.proofs.Common.{refl, sym, ap}
use Rattle.std.proofs.Common.{subst, ◌∙◌}
use Rattle.executor_parts.specs.declared.mark.Mark.{Mark}
use Rattle.executor_parts.specs.declared.mark.Mark.TheVariants.{Plain as PlainMark, Urgent}
use Rattle.plain_scheduler.specs.State.{ARun, Choice, Due, Plain, Run}
use Rattle.plain_scheduler.specs.Lists.{any, without}
use Rattle.plain_scheduler.specs.Moves.{chosen, is_common, is_kept, keeps, looks, up}
use Rattle.plain_scheduler.specs.Searches.{Search, finds}
use Rattle.plain_scheduler.specs.Usual.{IsKeptByOthers, TakesAsUsual, beside, is_64th, keeping, next_ones, of_both, places, share}
use Rattle.plain_scheduler.specs.Usual.{up_and_told}
use Rattle.plain_scheduler.specs.Usual.{usual_keeps}
use Rattle.plain_laws.proofs.TakesDue.{chosen_found}
use Rattle.two_roads.specs.Renaming.{AreBothDue, IsNoneCommon, TakesSo}
use Rattle.two_roads.proofs.Looking.{looked}
use Rattle.two_roads.proofs.Moving.{Alike, Few, Setting, andthen, each_alike, keeps_alike, now, stays, tell_alike, up_alike}
use Rattle.two_roads.proofs.Sought.{search_as}
use Rattle.two_roads.proofs.Taking.{MovesAlike, robbed_alike, tells, tells_as}

module _ {T U A B : Type 0} (k : Setting T U A B) where
  abbrev c : Choice
  c = k.choice

  abbrev d : Choice
  d = k.other

  keeping_alike : (r : ℕ) (ms : List Mark) (p : Plain T A) (q : Plain U B) → Alike k p q
      → Alike k (keeping k.wakes c r ms p) (keeping k.wakes_as d r ms q)
  keeping_alike r ms p q one =
      each_alike k ms (λ mark. keeps r (is_common mark)) (λ mark. keeps r (is_common mark)) (λ mark. keeps_alike k r (is_common mark)) p q
      one

  both_so : (r : ℕ) (p : Plain T A) (q : Plain U B) → Alike k p q → of_both k.wakes c r p ≡ of_both k.wakes_as d r q
  both_so r p q one = subst (λ q. of_both k.wakes c r p ≡ of_both k.wakes_as d r q) one.same here
    where
      urgent : List Mark
      urgent = next_ones k.wakes c r Urgent p

      here : of_both k.wakes c r p ≡ of_both k.wakes_as d r (now k p)
      here =
          ap (λ (z : Plain U B). urgent ++ next_ones k.wakes_as d r PlainMark z)
          (keeping_alike r urgent p (now k p) (stays k p one.few)).same

  keeps_so : (r : ℕ) (last : Bool) (one : Due) (p : Plain T A) → Few k p → MovesAlike k r one.keeper
      → usual_keeps k.wakes c r last one p ≡ usual_keeps k.wakes_as d r last one (now k p)
  keeps_so r last one p few moves = ap (λ ms. marks ++ ms) (by last)
    where
      marks : List Mark
      marks = beside k.wakes c r one p

      up_alike_too : Alike k (up_and_told k.wakes c r one p) (up_and_told k.wakes_as d r one (now k p))
      up_alike_too =
          andthen k (tells k) (tells_as k)
          (andthen k (up k.wakes c (ARun r)) (up k.wakes_as d (ARun r)) (robbed_alike k r one.keeper moves p few) (up_alike k (ARun r)))
          (tell_alike k)

      by : (b : Bool)
          → cond b (of_both k.wakes c r (keeping k.wakes c r marks (up_and_told k.wakes c r one p))) []
          ≡ cond b (of_both k.wakes_as d r (keeping k.wakes_as d r marks (up_and_told k.wakes_as d r one (now k p)))) []
      by true =
          both_so r (keeping k.wakes c r marks (up_and_told k.wakes c r one p))
          (keeping k.wakes_as d r marks (up_and_told k.wakes_as d r one (now k p)))
          (keeping_alike r marks (up_and_told k.wakes c r one p) (up_and_told k.wakes_as d r one (now k p)) up_alike_too)
      by false = refl

  pub take_alike : (m : Mark) (n : ℕ) (x : Search T A) → Few k x.at → finds x ≡ true → TakesAsUsual k.wakes c m n x
      → TakesAsUsual k.wakes_as d m n (search_as k x) → (IsKeptByOthers x.run x.at.due → c.robs ≡ d.robs)
      → TakesSo c d x.run x.at.due
  take_alike m n x few some one two robs_so =
      record { keeps = found (find test x.at.due) refl; first = first; robs = robs; moves = moves }
    where
      r : ℕ
      r = x.run

      due : List Due
      due = x.at.due

      test : Due → Bool
      test = chosen (looks c (Run x.run x.waker)) x.at.due

      first : any (is_kept r) due ≡ false → AreBothDue due → c.first ≡ d.first
      first mine both = one.first_so mine ∙ sym (two.first_so mine)

      robs : any (is_kept r) due ≡ false → IsNoneCommon due → c.robs ≡ d.robs
      robs mine none = robs_so (record { mine = mine; plain = none.plain; urgent = none.urgent })

      moves : any (is_kept r) due ≡ false → IsNoneCommon due → c.moves ≡ d.moves
      moves mine none =
          let kept : IsKeptByOthers r due = record { mine = mine; plain = none.plain; urgent = none.urgent } in
          one.moves_so kept
          ∙ (ap (λ j. share (count_by (is_kept j) due) (places k.wakes c r x.at) - 1) (robs_so kept) ∙ sym (two.moves_so kept))

      both : (test ≡ chosen (looks d (Run x.run (k.waker x.waker))) x.at.due)
          × ((one : Due) → find test due ≡ Some one → (j : ℕ) → one.keeper ≡ Some j → (r == j) ≡ false
          → (any (is_kept r) due ≡ false) × IsNoneCommon due)
      both = looked c d r due first robs

      none_found : is_some (find test due) ≡ true → find test due ≡ None → ⊥
      none_found is none = absurd cc

      found : (o : Option Due) → find test x.at.due ≡ o → c.keeps ≡ d.keeps
      found None is = absurd (none_found (chosen_found r c due some) is)
      found (Some dd) is =
          one.keeps_so dd is
          ∙ (keeps_so r (is_64th n) dd (record x.at { due = without test x.at.due }) few
          (λ j keeper apart. let last = both.1 dd is j keeper apart in moves last.0 last.1)
          ∙ sym (subst
          (λ (t : Due → Bool). find t x.at.due ≡ Some dd
          → d.keeps ≡ usual_keeps k.wakes_as d r (is_64th n) dd (record (now k x.at) { due = without t x.at.due }))
          (sym both.0) (two.keeps_so dd) is))
