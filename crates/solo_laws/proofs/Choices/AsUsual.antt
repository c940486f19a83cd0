-- A run that takes a future chooses as usual.
use Rattle.std.proofs.Common.{◌≡◌, ℕ, ◌-◌, ◌%◌, ◌≤◌, if◌then◌else◌, Bool, true, false, List, length, find, count_by}
use Rattle.std.proofs.Common.{Some, None, map, take, sym, ap, subst, ◌∙◌}
use Rattle.executor_parts.specs.declared.mark.Mark.{Mark}
use Rattle.executor_parts.specs.declared.mark.Mark.TheVariants.{Plain as PlainMark, Urgent}
use Rattle.executor_parts.specs.Marks.{other}
use Rattle.solo.specs.declared.names.SoloWaker.{SoloWaker}
use Rattle.solo.specs.declared.owed.Lent.{Lent}
use Rattle.solo.specs.declared.runs.Runner.{Runner}
use Rattle.solo.specs.declared.steals.Source.TheVariants.{Own}
use Rattle.solo.specs.declared.solo.Solo.{Solo}
use Rattle.solo.specs.Lines.{mark_of_turn}
use Rattle.solo.specs.declared.own_queues.Own.{Own as AnOwn}
use Rattle.solo.specs.OwnQueues as own
use Rattle.solo.specs.Runs as runs
use Rattle.solo.specs.Steals as steals
use Rattle.plain_scheduler.specs.State.{Choice, Due, Event, Plain, Run}
use Rattle.plain_scheduler.specs.Lists.{any, without}
use Rattle.plain_scheduler.specs.Moves.{chosen, is_common, is_due, is_kept, looks}
use Rattle.plain_scheduler.specs.Searches.{Search, finds}
use Rattle.plain_scheduler.specs.Usual.{RobsAsUsual, first_keeper, from_start, IsKeptByOthers, TakesAsUsual, is_64th, share, usual_keeps}
use Rattle.solo_laws.specs.Choosing.{SearchesAt}
use Rattle.solo_laws.specs.Making.{WalksFrom}
use Rattle.solo_laws.specs.Numbered.{IsNumbered}
use Rattle.solo_laws.specs.Ordering.{order_of}
use Rattle.solo_laws.specs.Owner.{Owner}
use Rattle.solo_laws.specs.Road.{tests, wakes}
use Rattle.solo_laws.specs.RunGoing.{Searches, is_refused, lies_refused, rests, robs_another, takes_common, takes_own}
use Rattle.solo_laws.specs.RunResting.{EachListed}
use Rattle.solo_laws.specs.Stealing.{share_of}
use Rattle.solo_laws.specs.Tabled.{Stands, goes_on}
use Rattle.solo_laws.specs.Walking.{robbed, searched_none}
use Rattle.solo_laws.proofs.Choices.Finding.{common_found}
use Rattle.solo_laws.proofs.Choices.Ordered.{visits_in_order}
use Rattle.solo_laws.proofs.Choices.Robbing.{visited, any_own, kept_share, none_own, robs_first}
use Rattle.solo_laws.proofs.Choices.Usually as usually
use Rattle.solo_laws.proofs.Following.Due.{clash}
use Rattle.solo_laws.proofs.Following.InVain.{popped_same}
use Rattle.solo_laws.proofs.Following.ListedWithin.{Within}
use Rattle.solo_laws.proofs.Following.OwnEmpty.{none_kept, popped_both}
use Rattle.solo_laws.proofs.Following.RunResting.{none_due}
use Rattle.solo_laws.proofs.Following.RunTaking.{first_kept, passes}
use Rattle.solo_laws.proofs.Following.RunWalking as walking
use Rattle.solo_laws.proofs.Following.RunWalking.{some_by}

module _ {F T X : Type 0} (its : ℕ → Lent) (owner : Owner) (c : Choice) (runner : Runner) (w : SoloWaker X) (s : Solo F T X)
    (p : Plain T (SoloWaker X)) (both : Stands its s p) (n : IsNumbered owner.number s.sleepers p.lying) (all : EachListed s.runs)
    (going : goes_on runner.number p ≡ true) (many : length p.lying ≤ c.tells) where
  abbrev r : ℕ
  r = runner.number

  abbrev x : Search T (SoloWaker X)
  x = record { run = r; waker = w; at = p }

  abbrev AsUsual : Type 0
  AsUsual = TakesAsUsual wakes c (mark_of_turn s.lines.turn) runner.counted x

  -- whether it is a 64th both say alike
  abbrev KeepsBy : Bool → Type 0
  KeepsBy last =
      (d : Due) → find (chosen (looks c (Run r w)) p.due) p.due ≡ Some d
      → c.keeps ≡ usual_keeps wakes c r last d (record p { due = without (chosen (looks c (Run r w)) p.due) p.due })

  keeps_as : runner.counted ≤ 63 → KeepsBy (runs.is_steal_due runner) → KeepsBy (is_64th runner.counted)
  keeps_as few so = subst KeepsBy (usually.steals_at runner few) so

  -- a search finds none that nobody keeps where none is due
  no_common : IsKeptByOthers r p.due → (d : Due) → find (chosen (tests c.first) p.due) p.due ≡ Some d → ⊥
  no_common none d is = clash (no_test c.first) (passes (chosen (tests c.first) p.due) p.due d is)
    where
      by_mark : (m : Mark) → any (is_common m) p.due ≡ false
      by_mark PlainMark = none.plain
      by_mark Urgent = none.urgent

      no_test : (m : Mark) → chosen (tests m) p.due d ≡ false
      no_test m =
          ap (λ a. if a then is_common m d else (if any (is_common (other m)) p.due then is_common (other m) d else false)) (by_mark m)
          ∙ ap (λ b. if b then is_common (other m) d else false) (by_mark (other m))

  none_found : (start : ℕ) (missed : (steals.seek_answer r start s).task ≡ None) (turn : c.first ≡ mark_of_turn s.lines.turn)
      → finds x ≡ false
  none_found start missed turn = ap (any is_due) (none_due its owner.number s p both n c r w start start going all missed turn)

  vain : (start : ℕ) (missed : (steals.seek_answer r start s).task ≡ None) (turn : c.first ≡ mark_of_turn s.lines.turn)
      → finds x ≡ true → AsUsual
  vain start missed turn has = absurd (clash (none_found start missed turn) has)

  pub chooses : runner.counted ≤ 63 → (shown : List (Event T (SoloWaker X))) (now : Owner) (z : Solo F T X) → Searches its owner c runner
      w s p shown now z
      → finds x ≡ true → AsUsual
  chooses few shown now z (takes_own start task first keeps life) has =
      let it = first_kept its owner.number s p both n r task going first in
      let some = some_by (is_kept r) p.due it.0 it.1 in
      record {
        first_so = λ none. absurd (clash none some);
        keeps_so = keeps_as few (usually.keeps_own its owner.number s p both n c runner w going many life task first keeps);
        moves_so = λ others. absurd (clash others.mine some);
      }
  chooses few shown now z (takes_common start task first found turn keeps life) has =
      let empty = popped_both its s p both r (none_kept its s p both r going first) in
      let it = common_found its c (steals.own_popped r s) p empty turn task found in
      record {
        first_so = λ none. turn;
        keeps_so = keeps_as few (usually.keeps_common its owner.number s p both n c runner w going many life task first found turn keeps);
        moves_so = λ others. absurd (no_common others it.0 it.1);
      }
  chooses few shown now z (robs_another start task first found turn walks robs moves keeps life) has =
      let y = searched_none r s in
      let k = (robbed r start y).0 in
      let none = none_kept its s p both r going first in
      let stands = walking.both_searched its owner.number s p both n c runner w start task going first found turn many life in
      let same : (robbed r start y).1 ≡ y =
      ap (λ (it : ℕ × Solo F T X). it.1)
      (robs_first r y (none_own its y p stands r going none) (λ k. any (is_kept k) p.due) none (any_own its y p stands) y.runs.listed
      y.runs.listed (start % y.runs.listed)) in
      record {
        first_so = λ none. turn;
        keeps_so =
            keeps_as few
            (usually.keeps_robbed its owner.number s p both n c runner w going many life start task first found turn walks robs moves
            keeps);
        moves_so = λ others.
            moves
            ∙ (ap (λ (z : Solo F T X). share_of (Own k) r z - 1) same
            ∙ (ap (λ n. n - 1) (kept_share its y p stands r k going)
            ∙ ap (λ k. share (count_by (is_kept k) p.due) (512 - count_by (is_kept r) p.due) - 1) (sym robs)));
      }
  chooses few shown now z (rests first second missed turn granted names more life) has = vain first missed turn has
  chooses few shown now z (is_refused start missed turn refused) has = vain start missed turn has
  chooses few shown now z (lies_refused first second missed turn refused names again more life) has = vain first missed turn has

  -- and whom it robs, as others look at own queues, and its walk begins at this word
  pub robs_so : Within s.runs → (one two : ℕ) (shown : List (Event T (SoloWaker X))) (now : Owner) (z : Solo F T X)
      → (how : Searches its owner c runner w s p shown now z) → WalksFrom its owner c s p runner w one two shown now z how
      → finds x ≡ true → RobsAsUsual wakes c (order_of s) one x
  robs_so within one two shown now z (takes_own start task first keeps life) from has others =
      let it = first_kept its owner.number s p both n r task going first in
      absurd (clash others.mine (some_by (is_kept r) p.due it.0 it.1))
  robs_so within one two shown now z (takes_common start task first found turn keeps life) from has others =
      let empty = popped_both its s p both r (none_kept its s p both r going first) in
      let it = common_found its c (steals.own_popped r s) p empty turn task found in
      absurd (no_common others it.0 it.1)
  robs_so within one two shown now z (robs_another start task first found turn walks robs moves keeps life) from has others =
      let y = searched_none r s in
      let stands = walking.both_searched its owner.number s p both n c runner w start task going first found turn many life in
      let first_is =
      robs_first r y (none_own its y p stands r going others.mine) (λ k. any (is_kept k) p.due) others.mine (any_own its y p stands)
      y.runs.listed y.runs.listed (start % y.runs.listed) in
      let same : y.runs ≡ s.runs = ap (λ (z : Solo F T X). z.runs) (popped_same r s first) in
      robs
      ∙ (ap (λ (it : ℕ × Solo F T X). it.0) first_is
      ∙ (ap (λ (o : own.OwnQueuesValue). first_keeper (visited o.queues o.listed o.listed (start % o.listed)) p.due) same
      ∙ (ap (λ ks. first_keeper ks p.due) (visits_in_order s.runs within start)
      ∙ ap (λ start. first_keeper (from_start start (order_of s)) p.due) from)))
  robs_so within one two shown now z (rests first second missed turn granted names more life) from has others =
      absurd (clash (none_found first missed turn) has)
  robs_so within one two shown now z (is_refused start missed turn refused) from has others =
      absurd (clash (none_found start missed turn) has)
  robs_so within one two shown now z (lies_refused first second missed turn refused names again more life) from has others =
      absurd (clash (none_found first missed turn) has)

-- so in the search of each act
pub chooses_there : {F T X : Type 0} (its : ℕ → Lent) (owner : Owner) (c : Choice) (s : Solo F T X) (x : Search T (SoloWaker X))
    (now : Owner) (z : Solo F T X) → ((r : ℕ) → (owner.runner r).counted ≤ 63) → SearchesAt its owner c s x now z → finds x ≡ true
    → TakesAsUsual wakes c (mark_of_turn s.lines.turn) (owner.runner x.run).counted x
chooses_there its owner c s x now z few at has =
    let counted : at.runner.counted ≡ (owner.runner x.run).counted =
    sym (ap (λ (o : Runner). o.counted) at.has) ∙ ap (λ k. (owner.runner k).counted) at.number in
    let enough = subst (λ m. m ≤ 63) (sym counted) (few x.run) in
    subst (λ m. TakesAsUsual wakes c (mark_of_turn s.lines.turn) m x) counted
    (subst (λ t. TakesAsUsual wakes c (mark_of_turn t) at.runner.counted x) at.turn
    (subst (λ k. TakesAsUsual wakes c (mark_of_turn at.before.lines.turn) at.runner.counted
    (record { run = k; waker = x.waker; at = x.at }))
    at.number
    (chooses its owner c at.runner x.waker at.before x.at at.stands at.numbered at.listed at.going at.few enough at.shown now z at.searches
    has)))

pub robs_there : {F T X : Type 0} (its : ℕ → Lent) (owner : Owner) (c : Choice) (s : Solo F T X) (x : Search T (SoloWaker X))
    (now : Owner) (z : Solo F T X) → Within s.runs → (one two : ℕ) (at : SearchesAt its owner c s x now z)
    → WalksFrom its owner c at.before x.at at.runner x.waker one two at.shown now z at.searches → finds x ≡ true
    → RobsAsUsual wakes c (order_of s) one x
robs_there its owner c s x now z within one two at from has =
    subst (λ (o : own.OwnQueuesValue). RobsAsUsual wakes c (take o.listed (map (λ (q : AnOwn). q.number) o.queues)) one x) at.runs
    (subst (λ k. RobsAsUsual wakes c (order_of at.before) one (record { run = k; waker = x.waker; at = x.at })) at.number
    (robs_so its owner c at.runner x.waker at.before x.at at.stands at.numbered at.listed at.going at.few
    (subst Within (sym at.runs) within) one two at.shown now z at.searches from has))
