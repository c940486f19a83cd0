-- Where each thing to do that fits does the same in a changed world, all that is done from such things to a rest is the same there.
use Rattle.std.proofs.Common.{◌≡◌, ℕ, ◌++◌, ◌&&◌, ◌||◌, not, Bool, true, false, List, [], ◌∷◌, refl, sym, ap, subst, ◌∙◌}
use Rattle.executor_model.specs.declared.op.Op.{Op}
use Rattle.executor_model.specs.declared.op.Op.TheVariants as op
use Rattle.executor_model.specs.declared.step.Hint.{Hint}
use Rattle.executor_model.specs.Doing.{act}
use Rattle.executor_model.specs.Steps.{waits}
use Rattle.executor_model.specs.World.{World, Done, done}
use Rattle.machine_roads.specs.Alone.{alone, answered_by, is_outside, is_resting, one_by, Has, HasAllOf}
use Rattle.machine_roads.proofs.Beside.{of_two, second}
use Rattle.machine_roads.proofs.LoneRuns.{both_true}

user_has : (o : Op) (w : World) → waits o ≡ true → Has w o
user_has (op.User o) w is = tt
user_has o w is = absurd cc

-- the changed world, what may be done there, and what stays so
module _ (T : World → World) (fits : Op → Bool) (Kept : World → Type 0) where
  abbrev pub all_fit : List Op → Bool
  all_fit [] = true
  all_fit (o ∷ os) = fits o && all_fit os

  -- user code has to answer, or one that fits is to be done and then so on
  abbrev pub goes_by : List Op → Bool
  goes_by [] = true
  goes_by (o ∷ os) = is_resting (o ∷ os) || (fits o && goes_by os)

  abbrev pub changed : Done → Done
  changed d = done (T d.world) d.next

  pub record DoesSo (there here : Done) : Type 0 where
    pub same : there ≡ changed here
    pub kept : Kept here.world
    pub fit : all_fit here.next ≡ true

  pub record AlongSo (p : ℕ) (hints : List Hint) (there here : Done) : Type 0 where
    pub has : HasAllOf Has p hints there
    pub same : alone p hints there ≡ changed (alone p hints here)
    pub kept : Kept (alone p hints here).world

  pub resting_goes : (os : List Op) → is_resting os ≡ true → goes_by os ≡ true
  resting_goes [] is = refl
  resting_goes (o ∷ os) is = ap (λ b. b || (fits o && goes_by os)) is

  pub goes_append : (xs os : List Op) → all_fit xs ≡ true → goes_by os ≡ true → goes_by (xs ++ os) ≡ true
  goes_append [] os fit goes = goes
  goes_append (x ∷ xs) os fit goes =
      let both = both_true (fits x) (all_fit xs) fit in
      second (is_resting (x ∷ (xs ++ os))) (fits x && goes_by (xs ++ os))
      (ap (λ b. b && goes_by (xs ++ os)) both.0 ∙ goes_append xs os both.1 goes)

  module _ (acts_so : (p : ℕ) (h : Hint) (o : Op) (w : World) → fits o ≡ true → waits o ≡ false → Kept w → Has w o
      → DoesSo (act p h o (T w)) (act p h o w)) (has_so : (o : Op) (w : World) → fits o ≡ true → Kept w → Has w o → Has (T w) o) where
    module _ (p : ℕ) (hs : List Hint) (rest : (w : World) (os : List Op) → Kept w → goes_by os ≡ true → HasAllOf Has p hs (done w os)
        → AlongSo p hs (done (T w) os) (done w os)) where
      one_so : (b c : Bool) (h : Hint) (w : World) (o : Op) (os : List Op) → waits o ≡ b → is_outside o ≡ c → Kept w
          → goes_by (o ∷ os) ≡ true → Has w o → HasAllOf Has p hs (one_by b p h o w os)
          → AlongSo p hs (one_by b p h o (T w) os) (one_by b p h o w os)
      one_so false c h w o os free out all goes here has =
          let both = both_true (fits o) (goes_by os)
          (of_two (is_resting (o ∷ os)) (fits o && goes_by os) (ap (λ b. b && not (is_outside o)) free) goes) in
          let d = act p h o w in
          let e = acts_so p h o w both.0 free all here in
          let r = rest d.world (d.next ++ os) e.kept (goes_append d.next os e.fit both.1) has in
          subst (λ (x : Done). AlongSo p hs (done x.world (x.next ++ os)) (done d.world (d.next ++ os))) (sym e.same) r
      one_so true true h w o os held out all goes here has =
          let both = both_true (fits o) (goes_by os)
          (of_two (is_resting (o ∷ os)) (fits o && goes_by os) (ap (λ b. b && not (is_outside o)) held ∙ ap not out) goes) in
          subst (λ b. AlongSo p hs (done (T w) (answered_by b o os)) (done w (answered_by b o os))) (sym out)
          (rest w os all both.1 (subst (λ b. HasAllOf Has p hs (done w (answered_by b o os))) out has))
      one_so true false h w o os held out all goes here has =
          subst (λ b. AlongSo p hs (done (T w) (answered_by b o os)) (done w (answered_by b o os))) (sym out)
          (rest w (o ∷ os) all goes (subst (λ b. HasAllOf Has p hs (done w (answered_by b o os))) out has))

    first_so : (o : Op) (os : List Op) (w : World) → Kept w → goes_by (o ∷ os) ≡ true → Has w o → Has (T w) o
    first_so o os w all goes has = by (waits o) refl
      where
        by : (b : Bool) → waits o ≡ b → Has (T w) o
        by true held = user_has o (T w) held
        by false free =
            has_so o w
            (both_true (fits o) (goes_by os)
            (of_two (is_resting (o ∷ os)) (fits o && goes_by os) (ap (λ b. b && not (is_outside o)) free) goes)).0 all has

    pub along_so : (p : ℕ) (hints : List Hint) (w : World) (os : List Op) → Kept w → goes_by os ≡ true
        → HasAllOf Has p hints (done w os) → AlongSo p hints (done (T w) os) (done w os)
    along_so p [] w os all goes has = record { has = tt; same = refl; kept = all }
    along_so p (h ∷ hs) w [] all goes has =
        let r = along_so p hs w [] all refl has.1 in record { has = (tt, r.has); same = r.same; kept = r.kept }
    along_so p (h ∷ hs) w (o ∷ os) all goes has =
        let r =
        one_so p hs (λ w os all goes has. along_so p hs w os all goes has) (waits o) (is_outside o) h w o os refl refl all goes has.0
        has.1 in
        record { has = (first_so o os w all goes has.0, r.has); same = r.same; kept = r.kept }
