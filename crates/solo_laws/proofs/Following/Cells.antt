-- The tasks of names are those of futures, as one of them is changed.
use Rattle.std.proofs.Common.{◌≡◌, ◌≢◌, ℕ, ◌==◌, Bool, true, false, Option, Some, None, IsSome, refl, sym, ap, subst, ◌∙◌, arith}
use Rattle.std.proofs.lemmas.Bool.Decides.{nat_tests}
use Rattle.slab.specs.Slab.{Slab, get, with_value, Updates}
use Rattle.slab.proofs.SlabLemmas.{Updates-with_value}
use Rattle.solo.specs.declared.names.Task.{Task}
use Rattle.solo.specs.declared.cells.Cell.{Cell}
use Rattle.solo.specs.declared.cells.Cells.{Cells}
use Rattle.solo.specs.Cells.{Kept, choose, changed_by, changed, asked_by, asked}

pub same_number : (a b : ℕ) → (a == b) ≡ true → a ≡ b
same_number a b is = grind (arith, nat_tests)

module _ {T X : Type 0} where
  -- of what is found, or not
  abbrev pub of_found : {B : Type 0} → (Kept T X → B) → B → Option (Kept T X) → B
  of_found h b None = b
  of_found h b (Some v) = h v

  -- the task of a name, if it is there
  abbrev pub found : Task → Cells T X → Option (Kept T X)
  found t s = asked Some None t s

  found_by : {B : Type 0} (h : Kept T X → B) (b : B) (t : Task) (cell : Option (Cell T X))
      → asked_by h b t cell ≡ of_found h b (asked_by Some None t cell)
  found_by h b t None = refl
  found_by h b t (Some c) = here (c.number == t.number)
    where
      here : (is : Bool) → choose is (h c.task) b ≡ of_found h b (choose is (Some c.task) None)
      here true = refl
      here false = refl

  -- whatever is asked of the task of a name is asked of what is found
  pub asks_found : {B : Type 0} (h : Kept T X → B) (b : B) (t : Task) (s : Cells T X) → asked h b t s ≡ of_found h b (found t s)
  asks_found h b t s = found_by h b t (get s.slab t.key)

  -- a task of which something is so is there
  pub there : (q : Kept T X → Bool) (o : Option (Kept T X)) → of_found q false o ≡ true
      → (v : Kept T X) × (o ≡ Some v) × (q v ≡ true)
  there q None is = absurd cc
  there q (Some v) is = (v, refl, is)

  some_there : (cell : Option (Cell T X)) (c : Cell T X) → cell ≡ Some c → IsSome cell
  some_there (Some d) c is = refl
  some_there None c is = absurd cc

  pub with_cell : (s : Slab (Cell T X)) (key : ℕ) (c d : Cell T X) → get s key ≡ Some c
      → Updates s (with_value s key d) key (Some d)
  with_cell s key c d is = Updates-with_value s key d (some_there (get s key) c is)

  abbrev pub changed_found : (Kept T X → Kept T X) → Option (Kept T X) → Option (Kept T X)
  changed_found g None = None
  changed_found g (Some v) = Some (g v)

  module _ (g : Kept T X → Kept T X) (t : Task) where
    here_by : (s : Slab (Cell T X)) (cell : Option (Cell T X)) → get s t.key ≡ cell
        → asked_by Some None t (get (changed_by g t cell s) t.key) ≡ changed_found g (asked_by Some None t cell)
    here_by s None is = ap (asked_by Some None t) is
    here_by s (Some c) is =
        let d : Cell T X = record c { task = choose (c.number == t.number) (g c.task) c.task } in
        ap (asked_by Some None t) ((with_cell s t.key c d is).changed) ∙ by (c.number == t.number)
      where
        by : (is : Bool) → choose is (Some (choose is (g c.task) c.task)) None ≡ changed_found g (choose is (Some c.task) None)
        by true = refl
        by false = refl

    -- the task of a name is changed
    pub found_here : (s : Cells T X) → found t (changed g t s) ≡ changed_found g (found t s)
    found_here s = here_by s.slab (get s.slab t.key) refl

    module _ (u : Task) (apart : (t.number == u.number) ≡ false) where
      numbers : (c : ℕ) → (c == u.number) ≡ true → (c == t.number) ≡ false
      numbers c is = let same : c ≡ u.number = same_number c u.number is in subst (λ n. (n == t.number) ≡ false) (sym same)
          (turn apart)
        where
          turn : (t.number == u.number) ≡ false → (u.number == t.number) ≡ false
          turn is = grind (arith, nat_tests)

      other_cell : (mine his : Bool) (v : Kept T X) → (mine ≡ true → his ≡ false)
          → choose mine (Some (choose his (g v) v)) None ≡ choose mine (Some v) None
      other_cell true true v not = let no : true ≡ false = not refl in absurd cc
      other_cell true false v not = refl
      other_cell false his v not = refl

      other_by : (s : Slab (Cell T X)) (cell : Option (Cell T X)) (key : Bool) → get s t.key ≡ cell → (t.key == u.key) ≡ key
          → asked_by Some None u (get (changed_by g t cell s) u.key) ≡ asked_by Some None u (get s u.key)
      other_by s None key is same = refl
      other_by s (Some c) true is same =
          let one : t.key ≡ u.key = same_number t.key u.key same in
          let d : Cell T X = record c { task = choose (c.number == t.number) (g c.task) c.task } in
          let now : get (with_value s t.key d) u.key ≡ Some d =
          sym (ap (get (with_value s t.key d)) one) ∙ (with_cell s t.key c d is).changed in
          let was : get s u.key ≡ Some c = sym (ap (get s) one) ∙ is in
          ap (asked_by Some None u) now
          ∙ (other_cell (c.number == u.number) (c.number == t.number) c.task (numbers c.number)
          ∙ sym (ap (asked_by Some None u) was))
      other_by s (Some c) false is same =
          let two : u.key ≢ t.key = λ one. absurd (grind (arith, nat_tests)) in
          let d : Cell T X = record c { task = choose (c.number == t.number) (g c.task) c.task } in
          ap (asked_by Some None u) ((with_cell s t.key c d is).others u.key two)

      -- and that of another number stays
      pub found_there : (s : Cells T X) → found u (changed g t s) ≡ found u s
      found_there s = other_by s.slab (get s.slab t.key) (t.key == u.key) refl refl
