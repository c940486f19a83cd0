-- A run counts what it has taken, up to the 64th.
use Rattle.std.proofs.Common.{◌≡◌, ℕ, ◌+◌, ◌<◌, ◌==◌, Bool, true, false, List, length}
use Rattle.std.proofs.Common.{slice_set, if◌then◌else◌, refl, sym}
use Rattle.std.proofs.Common.{ap, subst, ◌∙◌}
use Rattle.std.proofs.lemmas.List.{get_or-set_other, get_or-set_same}
use Rattle.std.specs.Prelude.{slice_index_or}
use Rattle.executor_model.specs.declared.op.RunPoll.{RunPoll}
use Rattle.executor_model.specs.ActsOfRuns.{counted_by, run_by}
use Rattle.executor_model.specs.World.{Run, World, no_run, put_run, run_of}
use Rattle.plain_scheduler.specs.Usual.{is_64th, one_counted}
use Rattle.machine_roads.specs.Searching.{CountsOne}
use Rattle.machine_roads.proofs.Lists.{apart_of, length_set, same_of}

-- where one run is written, it has counted one more, or what it had
abbrev counted_at : List Run → ℕ → ℕ
counted_at rs k = (slice_index_or rs k no_run).counted

counts_by : (rs : List Run) (r : ℕ) (y : Run) → r < length rs → y.counted ≡ one_counted (counted_at rs r) → (k : ℕ)
    → counted_at (slice_set rs r y) k ≡ (if k == r then one_counted (counted_at rs k) else counted_at rs k)
counts_by rs r y at is k = by (k == r) refl
  where
    by : (b : Bool) → (k == r) ≡ b
        → counted_at (slice_set rs r y) k ≡ (if b then one_counted (counted_at rs k) else counted_at rs k)
    by true here =
        subst (λ k. counted_at (slice_set rs r y) k ≡ one_counted (counted_at rs k)) (sym (same_of k r here))
        (ap (λ (y : Run). y.counted) (get_or-set_same rs r y no_run at) ∙ is)
    by false apart = ap (λ (y : Run). y.counted) (get_or-set_other rs r k y no_run (apart_of k r apart))

counts_still : (rs : List Run) (r : ℕ) (y : Run) → r < length rs → y.counted ≡ counted_at rs r → (k : ℕ)
    → counted_at (slice_set rs r y) k ≡ counted_at rs k
counts_still rs r y at is k = by (k == r) refl
  where
    by : (b : Bool) → (k == r) ≡ b → counted_at (slice_set rs r y) k ≡ counted_at rs k
    by true here =
        subst (λ k. counted_at (slice_set rs r y) k ≡ counted_at rs k) (sym (same_of k r here))
        (ap (λ (y : Run). y.counted) (get_or-set_same rs r y no_run at) ∙ is)
    by false apart = ap (λ (y : Run). y.counted) (get_or-set_other rs r k y no_run (apart_of k r apart))

-- a run counts what it has found
pub counts_so : (w : World) (x : RunPoll) (f : ℕ) (b : Bool) → is_64th (run_of w x.run).counted ≡ b → x.run < length w.runs
    → CountsOne x.run w.urgent_turns w (counted_by b w x f).world
counts_so w x f true is at = record {
  counted = counts_by w.runs x.run (record (run_of w x.run) { counted = 0 }) at
      (sym (ap (λ b. if b then 0 else (run_of w x.run).counted + 1) is));
  listed = refl;
  turn = refl;
}
counts_so w x f false is at = by ((run_of w1 x.run).taken + 1 == 200)
  where
    more : Run
    more = record (run_of w x.run) { counted = (run_of w x.run).counted + 1 }

    w1 : World
    w1 = put_run w x.run more

    one : (k : ℕ) → counted_at w1.runs k ≡ (if k == x.run then one_counted (run_of w k).counted else (run_of w k).counted)
    one = counts_by w.runs x.run more at (sym (ap (λ b. if b then 0 else (run_of w x.run).counted + 1) is))

    there : x.run < length w1.runs
    there = subst (λ n. x.run < n) (sym (length_set w.runs x.run more)) at

    by : (b : Bool) → CountsOne x.run w.urgent_turns w (run_by b w1 x f).world
    by true = record {
      counted = λ k. counts_still w1.runs x.run (record (run_of w1 x.run) { taken = 0 }) there refl k ∙ one k;
      listed = refl;
      turn = refl;
    }
    by false = record {
      counted = λ k.
          counts_still w1.runs x.run (record (run_of w1 x.run) { taken = (run_of w1 x.run).taken + 1 }) there refl k ∙ one k;
      listed = refl;
      turn = refl;
    }
