-- A spawn that is refused is refused by the plain scheduler, and both say alike whether they are empty.
use Rattle.std.proofs.Common.{◌≡◌, ℕ, suc, ◌<◌, ◌≤◌, ◌==◌, nat_lt, not, if◌then◌else◌, true, false, List, [], ◌∷◌, ◌++◌, length, map}
use Rattle.std.proofs.Common.{slice_get, slice_index_or, Some, None, refl, sym, ap, subst, ◌∙◌, arith}
use Rattle.std.proofs.lemmas.Bool.Decides.{nat_tests}
use Rattle.executor_parts.specs.declared.mark.Mark.{Mark}
use Rattle.solo.specs.declared.names.Task.{Task}
use Rattle.solo.specs.declared.names.SoloWaker.{SoloWaker}
use Rattle.solo.specs.declared.owed.Lent.{Lent}
use Rattle.solo.specs.declared.owed.SpawnError.TheVariants.{Full as FullOf, NoMemory as NoMemoryOf}
use Rattle.solo.specs.declared.cells.Cells.{Cells}
use Rattle.solo.specs.declared.solo.Solo.{Solo}
use Rattle.solo.specs.Cells.{Kept, asked, asked_by}
use Rattle.solo.specs.Cells as cells
use Rattle.solo.specs.Table.{TableValue}
use Rattle.solo.specs.Table as table
use Rattle.solo.specs.Solo as solo
use Rattle.plain_scheduler.specs.State.{Choice, Plain, Answer, Answers, Made, Full, NoMemory, Yes, No}
use Rattle.plain_scheduler.specs.Moves.{answers, tell, appended}
use Rattle.plain_scheduler.specs.Calls.{living_from, is_granted, is_none}
use Rattle.plain_scheduler.specs.Calls as calls
use Rattle.solo_laws.specs.Road.{TaskIs, Follows, wakes}
use Rattle.solo_laws.specs.Tabled.{Stands, named, row, row_of, at_home, home_by}
use Rattle.solo_laws.specs.Spawning.{RefusesAlike, EmptyAlike}
use Rattle.solo_laws.proofs.Following.Lists.{length_map}
use Rattle.solo_laws.proofs.Following.Seeing.{seen}
use Rattle.solo_laws.proofs.Following.Bases as bases
use Rattle.solo_laws.proofs.Following.Frames.{seen_still}
use Rattle.solo_laws.proofs.Following.Tabling.{tabled}

is_below : (n m : ℕ) → n < m → nat_lt n m ≡ true
is_below n m below = grind (arith, nat_tests)

not_below : (n m : ℕ) → m ≤ n → nat_lt n m ≡ false
not_below n m above = grind (arith, nat_tests)

none_long : (ns : List ℕ) → (length ns == 0) ≡ is_none ns
none_long [] = refl
none_long (n ∷ ns) = more (length ns)
  where
    more : (n : ℕ) → (suc n == 0) ≡ false
    more n = grind (arith, nat_tests)

module _ {T X : Type 0} (old new : Cells T X) (slots : new.slab.slots ≡ old.slab.slots) where
  asks_same : {B : Type 0} (f : Kept T X → B) (b : B) (t : Task) → asked f b t new ≡ asked f b t old
  asks_same f b t = ap (λ slots. asked_by f b t (slice_index_or slots t.key None)) slots

module _ {F T X : Type 0} (name : ℕ → Task) (s : Solo F T X) (p : Plain T (SoloWaker X)) (r : Follows name s p) where
  -- where the cells have the same tasks nothing has changed
  followed : (table : TableValue F) (after : Cells T X) → after.slab.slots ≡ s.cells.slab.slots
      → Follows name (record s { table = table; cells = after }) p
  followed table after slots = record {
    numbered = r.numbered;
    tasks = λ f below. subst (λ o. TaskIs o (slice_get p.futures f)) (sym (asks_same s.cells after slots Some None (name f)))
        (r.tasks f below);
    within = r.within;
    queued = r.queued;
    once = r.once;
    ready = λ f due. let can = r.ready f due in (can.0, asks_same s.cells after slots cells.may_start false (name f) ∙ can.1);
    asleep = r.asleep;
    awaiters = r.awaiters;
    inside = record {
      lent = λ f has.
          let can = r.inside.lent f has in (can.0, asks_same s.cells after slots cells.is_lent false (name f) ∙ can.1);
      dropping = λ f has.
          let can = r.inside.dropping f has in (can.0, asks_same s.cells after slots cells.is_dropping false (name f) ∙ can.1);
      lent_once = r.inside.lent_once;
      dropping_once = r.inside.dropping_once;
      callers = r.inside.callers;
    };
  }

module _ {F T X : Type 0} (its : ℕ → Lent) (s : Solo F T X) (p : Plain T (SoloWaker X)) (both : Stands its s p) where
  entries_long : length s.table.entries ≡ length (living_from 0 p.futures)
  entries_long =
      sym (length_map row s.table.entries)
      ∙ (ap length both.1.rows ∙ length_map (row_of its (not p.is_static) (at_home its s.cells)) (living_from 0 p.futures))

  same : (c : Choice) (z : Solo F T X) → z ≡ record s { table = z.table; cells = z.cells }
      → table.Same s.table s.cells z.table z.cells → Stands its z p
  same c z is so =
      let it : Solo F T X = record s { table = z.table; cells = z.cells } in
      subst (λ z. Stands its z p) (sym is) (
        followed (named its) s p both.0 z.table z.cells so.slots,
        tabled its c s it p p (
          ap (λ (t : TableValue F). map row t.entries) so.table,
          ap (λ (t : TableValue F). t.limit) so.table,
          refl,
          refl,
          λ u. asks_same s.cells z.cells so.slots (λ v. home_by v.future) None u,
          (bases.same s).5,
          refl,
          refl,
          refl,
        )
            (seen_still c p p.events) both.1,
      )

  -- and then the answer is seen
  sees : (c : Choice) (z : Solo F T X) (answer : Answer T) → Stands its z p → Stands its z (answers answer p)
  sees c z answer so = (
    seen (named its) z p (p.events ++ Answers answer ∷ []) p.inside so.0.inside so.0,
    tabled its c z z p (answers answer p) (bases.same z) (seen_still c p (p.events ++ Answers answer ∷ [])) so.1,
  )

  abbrev made : Choice → Mark → Plain T (SoloWaker X)
  made c mark = answers Made (tell wakes c (appended (length p.futures) (calls.entered wakes c mark p)))

  pub refuses_alike : RefusesAlike its s p
  refuses_alike c mark future (FullOf back) z spawns fits =
      let full : nat_lt (length (living_from 0 p.futures)) p.limit ≡ false =
      not_below (length (living_from 0 p.futures)) p.limit
      (subst (λ m. p.limit ≤ m) entries_long (subst (λ m. m ≤ length s.table.entries) both.1.limit spawns.0.1)) in
      let e : calls.does wakes c (calls.Call.Spawn mark) p ≡ answers Full p =
      ap (λ b. if b then (if is_granted c.refusal then made c mark else answers NoMemory p) else answers Full p) full in
      (e, subst (Stands its z) (sym e) (sees c z Full (same c z spawns.1 spawns.0.2)))
  refuses_alike c mark future (NoMemoryOf back) z spawns fits =
      let there : nat_lt (length (living_from 0 p.futures)) p.limit ≡ true =
      is_below (length (living_from 0 p.futures)) p.limit
      (subst (λ m. m < p.limit) entries_long (subst (λ m. length s.table.entries < m) both.1.limit spawns.0.1)) in
      let e : calls.does wakes c (calls.Call.Spawn mark) p ≡ answers NoMemory p =
      ap (λ b. if b then (if is_granted c.refusal then made c mark else answers NoMemory p) else answers Full p) there
      ∙ ap (λ b. if b then made c mark else answers NoMemory p) (fits refl) in
      (e, subst (Stands its z) (sym e) (sees c z NoMemory (same c z spawns.1 spawns.0.3)))

  pub empty_alike : EmptyAlike its s p
  empty_alike c =
      let is : is_none (living_from 0 p.futures) ≡ solo.is_empty s =
      sym (none_long (living_from 0 p.futures)) ∙ ap (λ n. n == 0) (sym entries_long) in
      let e : calls.does wakes c calls.Call.IsEmpty p ≡ answers (if solo.is_empty s then Yes else No) p =
      ap (λ b. answers (if b then Yes else No) p) is in
      (e, subst (Stands its s) (sym e) (sees c s (if solo.is_empty s then Yes else No) both))
