-- What the outputs of tasks weigh, as tasks are changed and go: a sum over all slots.
use Rattle.std.proofs.Common.{◌≡◌, ◌≢◌, ℕ, zero, suc, ◌+◌, ◌≤◌, ◌<◌, ◌==◌, ◌&&◌, ◌||◌, not, Bool, true, false}
use Rattle.std.proofs.Common.{List, [], ◌∷◌, length, Option, Some, None, IsSome, is_some, slice_set, slice_index_or, refl, sym, ap, ◌∙◌}
use Rattle.std.proofs.Common.{arith}
use Rattle.std.specs.List.{sum_by}
use Rattle.std.proofs.lemmas.List.Sums.{sum_by-cons, sum_by-set}
use Rattle.std.proofs.lemmas.Bool.Decides.{nat_tests}
use Rattle.slab.specs.Slab.{Slab, get}
use Rattle.slab.proofs.SlabLemmas.{ContainsKey-within}
use Rattle.task_moves.specs.LocalTask as local
use Rattle.task_moves.specs.LocalTask.{is_home, is_lent}
use Rattle.solo.specs.declared.names.Task.{Task}
use Rattle.solo.specs.declared.cells.Cell.{Cell}
use Rattle.solo.specs.declared.cells.Cells.{Cells}
use Rattle.solo.specs.Cells.{Kept, choose, changed_by, changed, asked_by, asked, tidied}
use Rattle.solo.specs.Cells as cells
use Rattle.solo_laws.specs.Outputs.{weight_out, weight_kept}
use Rattle.solo_laws.specs.Queueing.{one_if}

not_early : (b : Bool) → one_if b ≤ 0 → b ≡ false
not_early true none = absurd (omega (arith, none))
not_early false none = refl

spent_none : {T : Type 0} (weigh : T → ℕ) (gone rest : Bool) (o : Option T) (waits : Bool) →
    (gone && (rest && (not (is_some o) && waits))) ≡ true
    → weight_out weigh o ≡ 0
spent_none weigh true true None waits is = refl
spent_none weigh true true (Some output) waits is = absurd cc
spent_none weigh true false o waits is = absurd cc
spent_none weigh false rest o waits is = absurd cc

nothing_by : (b : Bool) → choose {B = ℕ} b 0 0 ≡ 0
nothing_by true = refl
nothing_by false = refl

module _ {T X : Type 0} where
  -- it has an output while its future isn't dropped: no task has
  abbrev pub early : Kept T X → Bool
  early v = (is_home v.future || is_lent v.future) && is_some v.task.output

  abbrev pub early_in : Option (Cell T X) → ℕ
  early_in None = 0
  early_in (Some c) = one_if (early c.task)

  module _ (f : Option (Cell T X) → ℕ) where
    there : (found : Option (Cell T X)) (c : Cell T X) → found ≡ Some c → IsSome found
    there (Some d) c is = refl
    there None c is = absurd cc

    -- the slot of a task becomes another
    pub set_total : (s : Slab (Cell T X)) (key : ℕ) (c : Cell T X) (slot : Option (Cell T X)) → get s key ≡ Some c
        → sum_by f (slice_set s.slots key slot) + f (Some c) ≡ sum_by f s.slots + f slot
    set_total s key c slot is =
        let inside : key < length s.slots = ContainsKey-within s key (there (get s key) c is) in
        let set = sum_by-set f s.slots key slot None inside in
        let was = ap f is in
        omega (arith, set, was)

    module _ (none : f None ≡ 0) where
      -- each weighs at most what all do
      pub within_total : (s : Slab (Cell T X)) (key : ℕ) (c : Cell T X) → get s key ≡ Some c → f (Some c) ≤ sum_by f s.slots
      within_total s key c is = let set = set_total s key c None is in omega (arith, set, none)

      all_same : (new : List (Option (Cell T X))) → ((key : ℕ) → slice_index_or new key None ≡ None) → sum_by f new ≡ 0
      all_same [] same = refl
      all_same (slot ∷ new) same =
          let first = ap f (same 0) in
          let rest = all_same new (λ key. same (suc key)) in
          let sum = sum_by-cons f slot new in
          omega (arith, first, rest, sum, none)

      same_total : (old new : List (Option (Cell T X))) → ((key : ℕ) → slice_index_or new key None ≡ slice_index_or old key None)
          → sum_by f new ≡ sum_by f old
      same_total [] new same = all_same new same
      same_total (slot ∷ old) [] same =
          let first = ap f (same 0) in
          let rest = all_same old (λ key. sym (same (suc key))) in
          let sum = sum_by-cons f slot old in
          omega (arith, first, rest, sum, none)
      same_total (slot ∷ old) (now ∷ new) same =
          let first = ap f (same 0) in
          let rest = same_total old new (λ key. same (suc key)) in
          let one = sum_by-cons f slot old in
          let two = sum_by-cons f now new in
          omega (arith, first, rest, one, two)

      none_there : (key : ℕ) (old : List (Option (Cell T X))) → slice_index_or old key None ≡ None
          → ((other : ℕ) → other ≢ key → None ≡ slice_index_or old other None) → (k : ℕ) → slice_index_or old k None ≡ None
      none_there key old free others k = at (k == key) refl
        where
          at : (b : Bool) → (k == key) ≡ b → slice_index_or old k None ≡ None
          at true is =
              let one : k ≡ key = grind (arith, nat_tests) in
              ap (λ n. slice_index_or old n None) one ∙ free
          at false is = sym (others k (λ one. absurd (grind (arith, nat_tests))))

      -- a task comes to a free key
      pub entered_total : (key : ℕ) (old new : List (Option (Cell T X))) → slice_index_or old key None ≡ None
          → ((other : ℕ) → other ≢ key → slice_index_or new other None ≡ slice_index_or old other None)
          → sum_by f new ≡ sum_by f old + f (slice_index_or new key None)
      entered_total key old [] free others =
          let all = all_same old (none_there key old free others) in
          omega (arith, all, none)
      entered_total zero [] (now ∷ new) free others =
          let rest = all_same new (λ k. others (suc k) (λ e. absurd (omega (arith, e)))) in
          let sum = sum_by-cons f now new in
          omega (arith, rest, sum)
      entered_total zero (slot ∷ old) (now ∷ new) free others =
          let rest = same_total old new (λ k. others (suc k) (λ e. absurd (omega (arith, e)))) in
          let first = ap f free in
          let one = sum_by-cons f slot old in
          let two = sum_by-cons f now new in
          omega (arith, rest, first, one, two, none)
      entered_total (suc key) [] (now ∷ new) free others =
          let first = ap f (others 0 (λ e. absurd (omega (arith, e)))) in
          let rest = entered_total key [] new refl (λ k differs. others (suc k) (λ e. differs (omega (arith, e)))) in
          let sum = sum_by-cons f now new in
          omega (arith, first, rest, sum, none)
      entered_total (suc key) (slot ∷ old) (now ∷ new) free others =
          let first = ap f (others 0 (λ e. absurd (omega (arith, e)))) in
          let rest = entered_total key old new free (λ k differs. others (suc k) (λ e. differs (omega (arith, e)))) in
          let one = sum_by-cons f slot old in
          let two = sum_by-cons f now new in
          omega (arith, first, rest, one, two)

  nothing_asked : (u : Task) (found : Option (Cell T X)) → asked_by {B = ℕ} (λ v. 0) 0 u found ≡ 0
  nothing_asked u None = refl
  nothing_asked u (Some c) = nothing_by (c.number == u.number)

  module _ (weigh : T → ℕ) where
    -- no output is early, and all of them weigh so much
    abbrev pub Holds : ℕ → Cells T X → Type 0
    Holds n s = (sum_by early_in s.slab.slots ≡ 0) × (sum_by (weight_kept weigh) s.slab.slots ≡ n)

    -- a change that takes so much into a task that is like this, and hands so much out of it
    abbrev pub Gives : (Kept T X → Kept T X) → (Kept T X → ℕ) → ℕ → Type 0
    Gives g out more =
        (v : Kept T X) → early v ≡ false
        → (early (g v) ≡ false) × (weight_out weigh (g v).task.output + out v ≡ weight_out weigh v.task.output + more)

    module _ (g : Kept T X → Kept T X) (out : Kept T X → ℕ) (more : ℕ) (does : Gives g out more) where
      gives_by : (his : Bool) (v : Kept T X) → early v ≡ false
          → (one_if (early (choose his (g v) v)) ≡ 0)
          × (weight_out weigh (choose his (g v) v).task.output + choose his (out v) more ≡ weight_out weigh v.task.output + more)
      gives_by true v is = let by = does v is in (ap one_if by.0, by.1)
      gives_by false v is = (ap one_if is, refl)

      gives_in : (n : ℕ) (u : Task) (found : Option (Cell T X)) (s : Slab (Cell T X)) → get s u.key ≡ found
          → sum_by early_in s.slots ≡ 0 → sum_by (weight_kept weigh) s.slots ≡ n
          → (sum_by early_in (changed_by g u found s).slots ≡ 0)
          × (sum_by (weight_kept weigh) (changed_by g u found s).slots + asked_by out more u found ≡ n + more)
      gives_in n u None s is early_none weighs = (early_none, omega (arith, weighs))
      gives_in n u (Some c) s is early_none weighs =
          let d : Cell T X = record c { task = choose (c.number == u.number) (g c.task) c.task } in
          let less = within_total early_in refl s u.key c is in
          let by = gives_by (c.number == u.number) c.task (not_early (early c.task) (omega (arith, less, early_none))) in
          let one = set_total early_in s u.key c (Some d) is in
          let two = set_total (weight_kept weigh) s u.key c (Some d) is in
          ((let now = by.0 in omega (arith, one, now, less, early_none)), (let now = by.1 in omega (arith, two, now, weighs)))

      -- whichever task is changed so
      pub gives_so : (n : ℕ) (u : Task) (s : Cells T X) → Holds n s
          → (sum_by early_in (changed g u s).slab.slots ≡ 0)
          × (sum_by (weight_kept weigh) (changed g u s).slab.slots + asked out more u s ≡ n + more)
      gives_so n u s holds = gives_in n u (get s.slab u.key) s.slab refl holds.0 holds.1

    -- a change that hands nothing out
    pub keeps_so : (g : Kept T X → Kept T X) → Gives g (λ v. 0) 0 → (n : ℕ) (u : Task) (s : Cells T X) → Holds n s
        → Holds n (changed g u s)
    keeps_so g does n u s holds =
        let by = gives_so g (λ v. 0) 0 does n u s holds in
        let none = nothing_asked u (get s.slab u.key) in
        (by.0, (let weighs = by.1 in omega (arith, weighs, none)))

    goes_by : (his : Bool) (v : Kept T X) → choose his (cells.is_spent v) false ≡ true → weight_out weigh v.task.output ≡ 0
    goes_by true v is = spent_none weigh (local.is_gone v.future) (local.is_unreachable v.task) v.task.output _ is
    goes_by false v is = absurd cc

    goes_in : (n : ℕ) (u : Task) (found : Option (Cell T X)) (s : Slab (Cell T X)) → get s u.key ≡ found
        → asked_by cells.is_spent false u found ≡ true → sum_by early_in s.slots ≡ 0 → sum_by (weight_kept weigh) s.slots ≡ n
        → (sum_by early_in (slice_set s.slots u.key None) ≡ 0) × (sum_by (weight_kept weigh) (slice_set s.slots u.key None) ≡ n)
    goes_in n u None s is spent early_none weighs = absurd cc
    goes_in n u (Some c) s is spent early_none weighs =
        let one = set_total early_in s u.key c None is in
        let two = set_total (weight_kept weigh) s u.key c None is in
        let empty = goes_by (c.number == u.number) c.task spent in
        (omega (arith, one, early_none), omega (arith, two, empty, weighs))

    tidied_by : (spent : Bool) (n : ℕ) (u : Task) (s : Cells T X) → asked cells.is_spent false u s ≡ spent → Holds n s
        → Holds n (choose spent (record { slab = record s.slab { slots = slice_set s.slab.slots u.key None; vacant_key = u.key } }) s)
    tidied_by true n u s is holds = goes_in n u (get s.slab u.key) s.slab refl is holds.0 holds.1
    tidied_by false n u s is holds = holds

    -- a task that goes has no output
    pub tidied_holds : (n : ℕ) (u : Task) (s : Cells T X) → Holds n s → Holds n (tidied u s)
    tidied_holds n u s holds = tidied_by (asked cells.is_spent false u s) n u s refl holds
