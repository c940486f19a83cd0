-- Where no future is lost, and no user's code has one in hand, each entry of the table has its future.
use Rattle.std.proofs.Common.{◌≡◌, ℕ, suc, ◌+◌, ◌<◌, ◌==◌, ◌||◌, cond, not, Bool, true, false, List, [], ◌∷◌, length, map, Option, Some}
use Rattle.std.proofs.Common.{None, is_some, slice_get, refl, sym, ap, subst, ◌∙◌, arith}
use Rattle.executor_parts.specs.declared.places.EntryPlace.{EntryPlace}
use Rattle.task_moves.specs.AbstractTask as abstract
use Rattle.task_moves.specs.AbstractTask.{is_idle}
use Rattle.task_moves.specs.LocalTask.{is_home, is_queued}
use Rattle.task_moves.specs.declared.local_task.answers.FuturePlace.{FuturePlace}
use Rattle.task_moves.specs.declared.local_task.answers.FuturePlace.TheVariants.{Home, Lent as IsLent, Dropping, Gone}
use Rattle.solo.specs.declared.names.SoloWaker.{SoloWaker}
use Rattle.solo.specs.declared.owed.Lent.{Lent}
use Rattle.solo.specs.declared.solo.Solo.{Solo}
use Rattle.solo.specs.Cells as cells
use Rattle.plain_scheduler.specs.State.{Future, Plain}
use Rattle.plain_scheduler.specs.Lists.{or}
use Rattle.plain_scheduler.specs.Moves.{task}
use Rattle.plain_scheduler.specs.Calls.{living_from}
use Rattle.solo_laws.specs.Closing.{AllThere}
use Rattle.solo_laws.specs.NoneLost.{NoneIsLost, is_in_hand}
use Rattle.solo_laws.specs.Road.{IsOver, TaskIs, drops, is_in, lents, stands}
use Rattle.solo_laws.specs.Tabled.{Row, Stands, at_home, home_by, is_dropped, named, row, row_of}
use Rattle.solo_laws.proofs.Following.Adding.{map_twice}
use Rattle.solo_laws.proofs.Following.Cells.{asks_found, found, of_found, same_number}
use Rattle.solo_laws.proofs.Following.Changing.{kept, task_is}
use Rattle.solo_laws.proofs.Following.Due.{both_true, clash}
use Rattle.solo_laws.proofs.Following.Homes.{home_in}
use Rattle.solo_laws.proofs.Following.Lists.{get_below}
use Rattle.solo_laws.proofs.Following.Rows.{living_below, map_same_in}

home_is : (place : FuturePlace EntryPlace) → is_home place ≡ true → is_some (home_by place) ≡ true
home_is (Home a) is = refl
home_is IsLent is = absurd cc
home_is Dropping is = absurd cc
home_is Gone is = absurd cc

module _ {T A : Type 0} where
  -- who is listed isn't dropped
  living_lives : (fs : List (Future T A)) (n j : ℕ) → is_in j (living_from n fs) ≡ true
      → (i : ℕ) × (j ≡ n + i) × (or (slice_get fs i) (λ future. future.is_dropped) true ≡ false)
  living_lives [] n j has = absurd cc
  living_lives (y ∷ ys) n j has = by y.is_dropped refl has (living_lives ys (suc n) j)
    where
      Lives : Type 0
      Lives = (i : ℕ) × (j ≡ n + i) × (or (slice_get (y ∷ ys) i) (λ future. future.is_dropped) true ≡ false)

      Later : Type 0
      Later =
          is_in j (living_from (suc n) ys) ≡ true
          → (i : ℕ) × (j ≡ suc n + i) × (or (slice_get ys i) (λ future. future.is_dropped) true ≡ false)

      next : Later → is_in j (living_from (suc n) ys) ≡ true → Lives
      next later has = let it = later has in (suc it.0, (let at = it.1 in omega (arith, at)), it.2)

      one : (b : Bool) → (j == n) ≡ b → y.is_dropped ≡ false → cond b true (is_in j (living_from (suc n) ys)) ≡ true → Later → Lives
      one true same live has later = (0, (let at = same_number j n same in omega (arith, at)), live)
      one false same live has later = next later has

      by : (b : Bool) → y.is_dropped ≡ b → is_in j (cond b (living_from (suc n) ys) (n ∷ living_from (suc n) ys)) ≡ true → Later → Lives
      by true is has later = next later has
      by false is has later = one (j == n) refl is has later

module _ {F T X : Type 0} (its : ℕ → Lent) (s : Solo F T X) (p : Plain T (SoloWaker X)) (both : Stands its s p) where
  -- one that is due, or whose task waits for a wake, is at home
  due_home : (f : ℕ) → stands f p.due ≡ true → at_home its s.cells f ≡ true
  due_home f due =
      let can = both.0.ready f due in
      let k = kept None (named its) cells.may_start f s p both.0 can.0 can.1 in
      ap (λ (o : Option EntryPlace). is_some o)
      (asks_found home_in None (named its f) s.cells ∙ ap (of_found home_in None) k.2)
      ∙ home_is k.0.future (both_true (is_home k.0.future) (is_queued k.0.task.phase) k.4).0

  idle_home : (f : ℕ) → f < length p.futures → is_idle (task f p).phase ≡ true → at_home its s.cells f ≡ true
  idle_home f below idle =
      let x = get_below p.futures f below in
      let its_idle : is_idle x.0.task.phase ≡ true =
      ap (λ (t : abstract.AbstractTask T (SoloWaker X)). is_idle t.phase) (sym (task_is f p x.0 x.1)) ∙ idle in
      by x.0 its_idle (found (named its f) s.cells) refl
      (subst (TaskIs (found (named its f) s.cells)) x.1 (both.0.tasks f below))
    where
      over : (t : abstract.AbstractTask T (SoloWaker X)) → IsOver t → is_idle t.phase ≡ false
      over t is = ap is_idle is.phase

      by : (x : Future T (SoloWaker X)) → is_idle x.task.phase ≡ true → (o : Option (cells.Kept T X)) → found (named its f) s.cells ≡ o
          → TaskIs o (Some x) → at_home its s.cells f ≡ true
      by x idle None is of = absurd (clash (over x.task of) idle)
      by x idle (Some v) is of =
          ap (λ (o : Option EntryPlace). is_some o)
          (asks_found home_in None (named its f) s.cells ∙ ap (of_found home_in None) is)
          ∙ home_is v.future (of.idle idle)

  module _ (all : NoneIsLost p) (no_poll : lents p.inside ≡ []) (no_drop : drops p.inside ≡ []) where
    at_home_all : (f : ℕ) → is_in f (living_from 0 p.futures) ≡ true → at_home its s.cells f ≡ true
    at_home_all f has = by (stands f p.due) refl (is_idle (task f p).phase) refl is
      where
        below : f < length p.futures
        below = let it = living_below p.futures 0 f has in omega (arith, it)

        live : is_dropped f p ≡ false
        live =
            let it = living_lives p.futures 0 f has in
            let same : it.0 ≡ f = (let at = it.1 in omega (arith, at)) in
            subst (λ n. or (slice_get p.futures n) (λ future. future.is_dropped) true ≡ false) same it.2

        none : is_in_hand f p.inside ≡ false
        none =
            ap (λ ns. is_in f ns || is_in f (drops p.inside)) no_poll ∙ ap (λ ns. is_in f [] || is_in f ns) no_drop

        is : (stands f p.due || (is_idle (task f p).phase || false)) ≡ true
        is = sym (ap (λ b. stands f p.due || (is_idle (task f p).phase || b)) none) ∙ all f live

        by : (a : Bool) → stands f p.due ≡ a → (b : Bool) → is_idle (task f p).phase ≡ b → (a || (b || false)) ≡ true
            → at_home its s.cells f ≡ true
        by true due b idle is = due_home f due
        by false due true idle is = idle_home f below idle
        by false due false idle is = absurd cc

    pub all_there : AllThere s.table.entries
    all_there =
        sym (map_twice (row {F = F}) (λ (r : Row). r.2) s.table.entries)
        ∙ (ap (map (λ (r : Row). r.2)) both.1.rows
        ∙ (map_twice (row_of its (not p.is_static) (at_home its s.cells)) (λ (r : Row). r.2) (living_from 0 p.futures)
        ∙ (map_same_in (at_home its s.cells) (λ f. true) (living_from 0 p.futures) at_home_all
        ∙ (sym (map_twice (row_of its (not p.is_static) (at_home its s.cells)) (λ (r : Row). true) (living_from 0 p.futures))
        ∙ (ap (map (λ (r : Row). true)) (sym both.1.rows)
        ∙ map_twice (row {F = F}) (λ (r : Row). true) s.table.entries)))))
