-- Lists of sleepers and of who lies, in which one is put in the place of another.
use Rattle.std.proofs.Common.{◌≡◌, ℕ, suc, ◌+◌, ◌==◌, ◌++◌, ◌||◌, cond, nat_lt, Bool, true, false}
use Rattle.std.proofs.Common.{List, [], ◌∷◌, length, map, Some, slice_set, if◌then◌else◌}
use Rattle.std.proofs.Common.{refl, sym, ap, ◌∙◌, arith}
use Rattle.executor_parts.specs.Sleepers.{later, position_of}
use Rattle.executor_model.specs.declared.op.Sleeping.{Sleeping}
use Rattle.executor_model.specs.declared.op.Waker.{Waker}
use Rattle.executor_model.specs.World.{World}
use Rattle.plain_scheduler.specs.State.{Lying, Plain, Who}
use Rattle.plain_scheduler.specs.Lists.{any, without}
use Rattle.machine_roads.specs.View.{Output}
use Rattle.machine_roads.specs.Road.{AreNumbered, Follows, sleeper, uncalled, who_of}
use Rattle.machine_roads.proofs.Lain.{here_if}
use Rattle.machine_roads.proofs.Lain.{neither}
use Rattle.machine_roads.proofs.Lain.{told_test}
use Rattle.machine_roads.proofs.Lists.{equal}
use Rattle.machine_roads.proofs.Numbers.{count}

-- one that comes last is put again, and is where it is looked for
module _ {B : Type 0} where
  pub last_again : (xs : List B) (x : B) → slice_set (xs ++ x ∷ []) (length xs) x ≡ xs ++ x ∷ []
  last_again [] x = refl
  last_again (y ∷ ys) x = ap (λ zs. y ∷ zs) (last_again ys x)

  pub set_at : (xs ys : List B) (x y : B) → slice_set (xs ++ x ∷ ys) (length xs) y ≡ xs ++ y ∷ ys
  set_at [] ys x y = refl
  set_at (z ∷ zs) ys x y = ap (λ us. z ∷ us) (set_at zs ys x y)

  pub lengths : (xs ys : List B) (x y : B) → length (xs ++ x ∷ ys) ≡ length (xs ++ y ∷ ys)
  lengths [] ys x y = refl
  lengths (z ∷ zs) ys x y = ap suc (lengths zs ys x y)

  pub none_without : (test : B → Bool) (xs : List B) → any test xs ≡ false → without test xs ≡ xs
  none_without test [] none = refl
  none_without test (x ∷ xs) none =
      let both = neither (test x) (any test xs) none in
      ap (λ b. cond b xs (x ∷ without test xs)) both.0 ∙ ap (λ ys. x ∷ ys) (none_without test xs both.1)

  none_changed : (test : B → Bool) (h : B → B) (xs : List B) → any test xs ≡ false → map (λ x. if test x then h x else x) xs ≡ xs
  none_changed test h [] none = refl
  none_changed test h (x ∷ xs) none =
      let both = neither (test x) (any test xs) none in
      ap (λ b. (if b then h x else x) ∷ map (λ x. if test x then h x else x) xs) both.0
      ∙ ap (λ ys. x ∷ ys) (none_changed test h xs both.1)

  pub one_changed : (test : B → Bool) (h : B → B) (xs ys : List B) (y : B) → any test xs ≡ false → test y ≡ true → any test ys ≡ false
      → map (λ x. if test x then h x else x) (xs ++ y ∷ ys) ≡ xs ++ h y ∷ ys
  one_changed test h [] ys y none it nor =
      ap (λ b. (if b then h y else y) ∷ map (λ x. if test x then h x else x) ys) it
      ∙ ap (λ zs. h y ∷ zs) (none_changed test h ys nor)
  one_changed test h (x ∷ xs) ys y none it nor =
      let both = neither (test x) (any test xs) none in
      ap (λ b. (if b then h x else x) ∷ map (λ x. if test x then h x else x) (xs ++ y ∷ ys)) both.0
      ∙ ap (λ zs. x ∷ zs) (one_changed test h xs ys y both.1 it nor)

pub position_last : (n : ℕ) (s : Sleeping) (ws : List (ℕ × Sleeping)) → position_of n (ws ++ (n, s) ∷ []) ≡ Some (length ws)
position_last n s [] = ap here_if (equal n n refl)
position_last n s (e ∷ es) =
    ap (λ o. later o (here_if (n == e.0))) (position_last n s es) ∙ ap (λ k. Some k) (one_more (length es))
  where
    one_more : (n : ℕ) → n + 1 ≡ suc n
    one_more n = omega arith

-- other sleepers, as many of them called
pub replaced : (w : World) (q : Plain Output Waker) (ws : List (ℕ × Sleeping)) (ls : List (Lying Waker)) → Follows w q
    → map sleeper ws ≡ uncalled ls → length ls ≡ length q.lying → length (uncalled ls) ≡ length (uncalled q.lying)
    → ((who : Who) → count who ls ≡ count who q.lying) → AreNumbered w.ticks w.runs ws
    → Follows (record w { sleepers = record w.sleepers { wakers = ws } }) (record q { lying = ls })
replaced w q ws ls r same many few counted numbered = record {
  limit = r.limit;
  kind = r.kind;
  many = r.many;
  places = r.places;
  marked = r.marked;
  tasks = r.tasks;
  stored = r.stored;
  marks = r.marks;
  calm = r.calm;
  table = r.table;
  common = r.common;
  kept = r.kept;
  wakers = same;
  count = r.count ∙ sym many;
  flag =
      r.flag
      ∙ (told_test q.lying
      ∙ (ap (λ n. (n == 0) || nat_lt (length (uncalled q.lying)) n) (sym many)
      ∙ (ap (λ n. (length ls == 0) || nat_lt n (length ls)) (sym few) ∙ sym (told_test ls))));
  asleep = λ x. counted (who_of x) ∙ r.asleep x;
  numbered = numbered;
  runs = r.runs;
  waking = r.waking;
  seen = r.seen;
}
