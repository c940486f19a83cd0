-- How many turns a run's search takes in the executor of one owner: none where it takes what it keeps, one where it takes another, and else
-- those of a search in vain.
use Rattle.std.proofs.Common.{◌≡◌, ℕ, ◌+◌, ◌^◌, ◌%◌, ◌≤◌, if◌then◌else◌, Bool, true, false, List, [], filter, length, Option, Some, None}
use Rattle.std.proofs.Common.{refl, sym, ap, ◌∙◌}
use Rattle.solo.specs.declared.names.Task.{Task}
use Rattle.solo.specs.declared.names.SoloWaker.{SoloWaker}
use Rattle.solo.specs.declared.owed.Lent.{Lent}
use Rattle.solo.specs.declared.runs.Runner.{Runner}
use Rattle.solo.specs.declared.solo.Solo.{Solo}
use Rattle.solo.specs.declared.ticks.Ticked.{Ticked}
use Rattle.solo.specs.declared.ticks.Ticker.{Ticker}
use Rattle.solo.specs.Lines.{search_answer}
use Rattle.solo.specs.OwnQueues as own
use Rattle.solo.specs.Runs as runs
use Rattle.solo.specs.Solo as solo
use Rattle.solo.specs.Steals as steals
use Rattle.plain_scheduler.specs.State.{ARun, AtOnce, Choice, Event, Granted, Later, Plain, Refusal}
use Rattle.plain_scheduler.specs.Lists.{any}
use Rattle.plain_scheduler.specs.Moves.{is_due, is_kept}
use Rattle.plain_scheduler.specs.Searches.{Search, finds}
use Rattle.plain_scheduler.specs.Turns.{turned_in}
use Rattle.plain_scheduler.specs.Usual.{run_turns, vain_turns}
use Rattle.solo_laws.specs.Numbered.{IsNumbered, ticker_of}
use Rattle.solo_laws.specs.Owner.{HasRoom, Owner}
use Rattle.solo_laws.specs.RunGoing.{Searches, is_refused, lies_refused, rests, robs_another, takes_common, takes_own}
use Rattle.solo_laws.specs.RunResting.{EachListed, run_rested, slept_from}
use Rattle.solo_laws.specs.Tabled.{Stands, goes_on, named, own_of}
use Rattle.solo_laws.specs.Ticking.{looks_again, slept_once}
use Rattle.solo_laws.proofs.Turning.{At, further_at, run_found_at, searched_turn}
use Rattle.solo_laws.proofs.Choices.Finding.{common_found, found_due}
use Rattle.solo_laws.proofs.Following.Lines.{any_none}
use Rattle.solo_laws.proofs.Following.OwnEmpty.{none_kept, popped_both}
use Rattle.solo_laws.proofs.Following.RunResting as resting
use Rattle.solo_laws.proofs.Following.RunWalking as walking
use Rattle.solo_laws.proofs.Following.Trying as trying
use Rattle.solo_laws.proofs.Following.VainTurns.{later_vain, refused_vain, rested_vain}

module _ {F T X : Type 0} (r start : ℕ) (s : Solo F T X) where
  abbrev y : Solo F T X
  y = steals.own_popped r s

  -- it takes the first that it keeps, and no turn
  own_turn : (runner : Runner) (ticker : Ticker) (o : Option Task) (task : Task) → o ≡ Some task
      → At s.lines.turn
      (runs.searched_by (steals.seek_answer_by o r start y).task runner ticker (steals.sought_by o r start y))
  own_turn runner ticker None task is = absurd cc
  own_turn runner ticker (Some t) task is = run_found_at s.lines.turn runner ticker t y refl

  -- or searches the executor's two queues, and takes one
  further_turn : (runner : Runner) (ticker : Ticker) (o : Option Task) → o ≡ None
      → At ((s.lines.turn + 1) % 2 ^ 64)
      (runs.searched_by (steals.seek_answer_by o r start y).task runner ticker (steals.sought_by o r start y))
  further_turn runner ticker (Some t) is = absurd cc
  further_turn runner ticker None is = by (steals.seek_further_answer r start y).task
    where
      n : ℕ
      n = (s.lines.turn + 1) % 2 ^ 64

      z : Solo F T X
      z = steals.sought_further r start y

      there : At n z
      there = further_at n (search_answer s.lines).task (search_answer s.lines).mark r start (solo.popped y) (searched_turn s.lines)

      by : (o : Option Task) → At n (runs.searched_by o runner ticker z)
      by (Some t) = run_found_at n runner ticker t z there
      by None = there

module _ {F T X : Type 0} (its : ℕ → Lent) (owner : Owner) (c : Choice) (runner : Runner) (w : SoloWaker X) (s : Solo F T X)
    (p : Plain T (SoloWaker X)) (both : Stands its s p) (n : IsNumbered owner.number s.sleepers p.lying) (all : EachListed s.runs)
    (many : length p.lying ≤ c.tells) (going : goes_on runner.number p ≡ true) (room : HasRoom (ARun runner.number) s p) where
  abbrev r : ℕ
  r = runner.number

  abbrev ticker : Ticker
  ticker = ticker_of owner.number (ARun r) p.lying

  abbrev pub searching : Search T (SoloWaker X)
  searching = record { run = r; waker = w; at = p }

  abbrev turns_by : Refusal → Bool → Bool → ℕ
  turns_by refusal mine some = if mine then 0 else (if some then 1 else vain_turns refusal (ARun r) p.lying)

  -- its own queue has what it keeps
  some_kept : (task : Task) → own.first_of r s.runs ≡ Some task → any (is_kept r) p.due ≡ true
  some_kept task first = by (any (is_kept r) p.due) refl
    where
      by : (b : Bool) → any (is_kept r) p.due ≡ b → b ≡ true
      by true is = refl
      by false is =
          let none : own.first_of r s.runs ≡ None =
          ap own.first_in
          (both.1.queues r
          ∙ (ap (λ b. own_of its b (filter (is_kept r) p.due)) going
          ∙ ap (λ ds. own_of its true ds) (any_none (is_kept r) p.due is))) in
          let no : ◌≡◌ {A = Option Task} (Some task) None = sym first ∙ none in
          absurd cc

  abbrev TurnsSo : Solo F T X → Type 0
  TurnsSo z = z.lines.turn ≡ turned_in (run_turns c.refusal searching) s.lines.turn

  -- it takes one of others, or of the executor's
  further_so : (start : ℕ) → own.first_of r s.runs ≡ None → finds searching ≡ true → TurnsSo (runs.searched runner ticker start s)
  further_so start first some =
      further_turn r start s runner ticker (own.first_of r s.runs) first
      ∙ ap (λ k. turned_in k s.lines.turn)
      (sym (ap (λ b. turns_by c.refusal b (any is_due p.due)) (none_kept its s p both r going first) ∙ ap (turns_by c.refusal false) some))

  -- or there is none
  vain_so : (refusal : Refusal) (z : Solo F T X) → c.refusal ≡ refusal → p.due ≡ []
      → z.lines.turn ≡ turned_in (vain_turns refusal (ARun r) p.lying) s.lines.turn → TurnsSo z
  vain_so refusal z refused none is =
      is
      ∙ ap (λ k. turned_in k s.lines.turn)
      (sym (ap (λ ds. turns_by c.refusal (any (is_kept r) ds) (any is_due ds)) none
      ∙ ap (λ refusal. vain_turns refusal (ARun r) p.lying) refused))

  pub searches_turn : (shown : List (Event T (SoloWaker X))) (now : Owner) (z : Solo F T X)
      → Searches its owner c runner w s p shown now z → TurnsSo z
  searches_turn shown now z (takes_own start task first keeps life) =
      own_turn r start s runner ticker (own.first_of r s.runs) task first
      ∙ ap (λ k. turned_in k s.lines.turn) (sym (ap (λ b. turns_by c.refusal b (any is_due p.due)) (some_kept task first)))
  searches_turn shown now z (takes_common start task first found turn keeps life) =
      let empty = popped_both its s p both r (none_kept its s p both r going first) in
      let it = common_found its c (steals.own_popped r s) p empty turn task found in
      further_so start first (found_due _ p.due it.0 it.1)
  searches_turn shown now z (robs_another start task first found turn finds_it robs moves keeps life) =
      let it = walking.found its owner.number s p both n c runner w start task going first found turn many life finds_it robs moves keeps in
      further_so start first (found_due _ p.due _ it.is)
  searches_turn shown now z (rests first second missed turn granted names more life) =
      let so = resting.so its owner.number s p both n c r w first second going all missed turn in
      vain_so Granted (run_rested r first second ticker w s) granted
      (resting.none_due its owner.number s p both n c r w first second going all missed turn)
      (ap (λ (z : Solo F T X). z.lines.turn)
      (resting.rested_is its owner.number s p both n c r w first second going all missed turn ticker)
      ∙ rested_vain its owner.number s p c (ARun r) w so (λ u same. ((names u same).0, (names u same).1)) many
      (trying.lives (named its) c s p turn both.0 2 life) room)
  searches_turn shown now z (is_refused start missed turn refused) =
      vain_so AtOnce (steals.sought r start s) refused
      (resting.none_due its owner.number s p both n c r w start start going all missed turn)
      (ap (λ (z : Solo F T X). z.lines.turn)
      (resting.first_same its owner.number s p both n c r w start start going all missed turn) ∙ refused_vain (ARun r) p.lying s)
  searches_turn shown now z (lies_refused first second missed turn refused names again more life) =
      let so = resting.so its owner.number s p both n c r w first second going all missed turn in
      let out = resting.out_is its owner.number s p both n c r w first second going all missed turn ticker in
      let looks_so = sym (ap (λ (out : Ticked F X). looks_again out.look) out) ∙ again in
      let second_is : steals.sought r second (slept_from r first ticker w s) ≡ solo.popped (slept_once ticker w s) =
      ap (λ z. steals.sought r second z) (resting.z_is its owner.number s p both n c r w first second going all missed turn ticker)
      ∙ resting.again_same its owner.number s p both n c r w first second going all missed turn ticker looks_so in
      vain_so Later (steals.sought r second (slept_from r first ticker w s)) refused
      (resting.none_due its owner.number s p both n c r w first second going all missed turn)
      (ap (λ (z : Solo F T X). z.lines.turn) second_is
      ∙ later_vain its owner.number s p c (ARun r) w so names many (trying.lives (named its) c s p turn both.0 2 life) room looks_so)
