-- Each run counts to 64, and begins anew: so wherever a list of calls leads it has counted fewer.
use Rattle.std.proofs.Common.{◌≡◌, ℕ, ◌+◌, ◌<◌, ◌==◌, nat_lt, if◌then◌else◌, Bool, true, false, List, refl, arith}
use Rattle.std.proofs.lemmas.Bool.Decides.{nat_tests}
use Rattle.solo.specs.declared.names.SoloWaker.{SoloWaker}
use Rattle.solo.specs.declared.owed.Lent.{Lent}
use Rattle.solo.specs.declared.runs.Runner.{Runner}
use Rattle.solo.specs.declared.solo.Solo.{Solo}
use Rattle.solo.specs.Cells.{choose}
use Rattle.solo.specs.Runs as runs
use Rattle.plain_scheduler.specs.State.{Choice, Event, Plain, Who}
use Rattle.plain_scheduler.specs.Calls.{Call, does}
use Rattle.plain_scheduler.specs.Usual.{one_counted}
use Rattle.solo_laws.specs.Counting.{AllCountTo64, counts_of}
use Rattle.solo_laws.specs.Courses as courses
use Rattle.solo_laws.specs.Courses.{Acts, Leads, leads, stays}
use Rattle.solo_laws.specs.Owner.{Owner, new_owner, taken_by_run}
use Rattle.solo_laws.specs.RunGoing as going
use Rattle.solo_laws.specs.RunGoing.{RunsOn, Searches}

-- both count to 64
pub counted_alike : (n : ℕ) → n < 64 → choose (nat_lt n 63) (n + 1) 0 ≡ one_counted n
counted_alike n below = by (nat_lt n 63) refl (n + 1 == 64) refl
  where
    apart : nat_lt n 63 ≡ true → (n + 1 == 64) ≡ true → ⊥
    apart less last = grind (arith, nat_tests)

    past : nat_lt n 63 ≡ false → (n + 1 == 64) ≡ false → n < 64 → ⊥
    past more other below = grind (arith, nat_tests)

    by : (b : Bool) → nat_lt n 63 ≡ b → (e : Bool) → (n + 1 == 64) ≡ e → choose b (n + 1) 0 ≡ (if e then 0 else n + 1)
    by true less false other = refl
    by false more true last = refl
    by true less true last = absurd (apart less last)
    by false more false other = absurd (past more other below)

-- one that begins anew at 64 never has counted as many
pub counted_below : (n : ℕ) → choose (nat_lt n 63) (n + 1) 0 < 64
counted_below n = by (nat_lt n 63) refl
  where
    less : nat_lt n 63 ≡ true → n + 1 < 64
    less is = grind (arith, nat_tests)

    by : (b : Bool) → nat_lt n 63 ≡ b → choose b (n + 1) 0 < 64
    by true is = less is
    by false is = omega arith

abbrev pub Below : Owner → Type 0
Below owner = (k : ℕ) → counts_of owner k < 64

-- a run takes one
took_below : (runner : Runner) (owner : Owner) → Below owner → Below (taken_by_run runner owner)
took_below runner owner all k = by (k == runner.number)
  where
    by : (b : Bool) → (if b then runs.taken (runs.counted runner) else owner.runner k).counted < 64
    by true = counted_below runner.counted
    by false = all k

module _ {F T X : Type 0} (its : ℕ → Lent) (owner : Owner) (c : Choice) (all : Below owner) where
  searches_below : (runner : Runner) (w : SoloWaker X) (s : Solo F T X) (p : Plain T (SoloWaker X)) (shown : List (Event T (SoloWaker X)))
      (now : Owner) (z : Solo F T X) → Searches its owner c runner w s p shown now z → Below now
  searches_below runner w s p shown now z (going.takes_own start task first keeps life) = took_below runner owner all
  searches_below runner w s p shown now z (going.takes_common start task first found turn keeps life) = took_below runner owner all
  searches_below runner w s p shown now z (going.robs_another start task first found turn finds robs moves keeps life) =
      took_below runner owner all
  searches_below runner w s p shown now z (going.rests first second missed turn granted names more life) = all
  searches_below runner w s p shown now z (going.is_refused start missed turn refused) = all
  searches_below runner w s p shown now z (going.lies_refused first second missed turn refused names again more life) = all

  runs_on_below : (runner : Runner) (w : SoloWaker X) (s : Solo F T X) (p : Plain T (SoloWaker X)) (shown : List (Event T (SoloWaker X)))
      (now : Owner) (z : Solo F T X) → RunsOn its owner c runner w s p shown now z → Below now
  runs_on_below runner w s p shown now z (going.looks_on shown' now' z' less how) = searches_below runner w s p shown' now' z' how
  runs_on_below runner w s p shown now z (going.gives_way enough names life) = all

  pub acts_below : (s : Solo F T X) (p : Plain T (SoloWaker X)) (now : Owner) (z : Solo F T X) (call : Call T (SoloWaker X))
      (shown : List (Event T (SoloWaker X))) → Acts its owner c s p call shown now z → Below now
  acts_below s p now z call shown (courses.run_looks runner w rest shown' now' z' mine is how) =
      searches_below runner w s (record p { inside = rest }) shown' now' z' how
  acts_below s p now z call shown (courses.run_goes_on stage runner w rest call' first more now' y z' mine is ends how goes) =
      runs_on_below runner w y _ more now' z' goes
  acts_below s p now z call shown (courses.makes call' shown' z' how) = all
  acts_below s p now z call shown (courses.makes_tick t new may) = all
  acts_below s p now z call shown (courses.tick_takes t w task lives found first life) = all
  acts_below s p now z call shown (courses.tick_rests t w lives found first may names more life) = all
  acts_below s p now z call shown (courses.makes_run may few) = all
  acts_below s p now z call shown (courses.makes_no_run refused) = all
  acts_below s p now z call shown (courses.run_polled runner w goes free) = all
  acts_below s p now z call shown (courses.over_polled r w over) = all
  acts_below s p now z call shown (courses.own_ready r w v rest is) = all
  acts_below s p now z call shown (courses.run_drops stage r w rest call' first f z' is ends how) = all
  acts_below s p now z call shown (courses.run_loses stage r w rest call' first v z' is ends how) = all
  acts_below s p now z call shown (courses.run_dropped r goes free) = all
  acts_below s p now z call shown (courses.over_dropped r over) = all
  acts_below s p now z call shown (courses.run_leaves runner answer rest is life) = all
  acts_below s p now z call shown (courses.makes_no_tick refused) = all
  acts_below s p now z call shown (courses.tick_refused t w lives found first refused) = all
  acts_below s p now z call shown (courses.tick_lies_refused t w lives found first refused names again more life) = all
  acts_below s p now z call shown (courses.tick_leaves t lives life) = all

pub leads_below : {F T X : Type 0} (its : ℕ → Lent) (list : List (Choice × Call T (SoloWaker X))) (owner last : Owner) (s z : Solo F T X)
    (p : Plain T (SoloWaker X)) (shown : List (Event T (SoloWaker X))) → Below owner → Leads its list owner s p shown last z → Below last
leads_below its list owner last s z p shown all (stays owner' s' p') = all
leads_below its list owner last s z p shown all (leads c call rest before now later s' y z' p' first others many acts how) =
    leads_below its rest now later y z' (does _ c call p') others (acts_below its before c all s' p' now y call first acts) how

pub new_below : (number : Who → ℕ) → Below (new_owner number)
new_below number k = omega arith

pub all_count_to_64 : {F T X : Type 0} → AllCountTo64 F T X
all_count_to_64 its owner s p led =
    leads_below its led.calls (new_owner led.before) owner led.first s _ led.shown (new_below led.before) led.leads
