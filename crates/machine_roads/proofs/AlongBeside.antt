-- Where each thing to do that fits does the same in a changed world, with what is asked for there, all that is done from such things to a
-- rest is the same there. The hints are others there.
use Rattle.std.proofs.Common.{◌≡◌, ℕ, ◌++◌, ◌&&◌, not, Bool, true, false, List, [], ◌∷◌, refl, sym, ap, subst, ◌∙◌}
use Rattle.executor_model.specs.declared.op.Op.{Op}
use Rattle.executor_model.specs.declared.step.Hint.{Hint}
use Rattle.executor_model.specs.Doing.{act}
use Rattle.executor_model.specs.Steps.{waits}
use Rattle.executor_model.specs.World.{World, Done, done}
use Rattle.machine_roads.specs.Alone.{alone, answered_by, is_outside, is_resting, one_by, Has, HasAllOf}
use Rattle.machine_roads.proofs.Along.{DoesSo, changed, goes_append, goes_by}
use Rattle.machine_roads.proofs.Beside.{of_two}
use Rattle.machine_roads.proofs.LoneRuns.{both_true}

module _ (T : World → World) (fits : Op → Bool) (Kept : World → Type 0) where
  abbrev pub HasThere : World → Op → Type 0
  HasThere w o = Has (T w) o

  pub record AlongBeside (p : ℕ) (hints : List Hint) (there here : Done) : Type 0 where
    pub hinted : List Hint
    pub has : HasAllOf Has p hinted there
    pub same : alone p hinted there ≡ changed T fits Kept (alone p hints here)
    pub kept : Kept (alone p hints here).world

  abbrev pub goes : List Op → Bool
  goes os = goes_by T fits Kept os

  module _ (acts_so : (p : ℕ) (h : Hint) (o : Op) (w : World) → fits o ≡ true → waits o ≡ false → Kept w → Has (T w) o
      → (i : Hint) × DoesSo T fits Kept (act p i o (T w)) (act p h o w)) where
    module _ (p : ℕ) (hs : List Hint) (rest : (w : World) (os : List Op) → Kept w → goes os ≡ true
        → HasAllOf HasThere p hs (done w os) → AlongBeside p hs (done (T w) os) (done w os)) where
      one_so : (b c : Bool) (h : Hint) (w : World) (o : Op) (os : List Op) → waits o ≡ b → is_outside o ≡ c → Kept w
          → goes (o ∷ os) ≡ true → Has (T w) o → HasAllOf HasThere p hs (one_by b p h o w os)
          → (i : Hint) × AlongBeside p hs (one_by b p i o (T w) os) (one_by b p h o w os)
      one_so false c h w o os free out all go here has =
          let both = both_true (fits o) (goes os)
          (of_two (is_resting (o ∷ os)) (fits o && goes os) (ap (λ b. b && not (is_outside o)) free) go) in
          let d = act p h o w in
          let e = acts_so p h o w both.0 free all here in
          let r = rest d.world (d.next ++ os) e.1.kept (goes_append T fits Kept d.next os e.1.fit both.1) has in (
            e.0,
            subst (λ (x : Done). AlongBeside p hs (done x.world (x.next ++ os)) (done d.world (d.next ++ os))) (sym e.1.same) r,
          )
      one_so true true h w o os held out all go here has =
          let both = both_true (fits o) (goes os)
          (of_two (is_resting (o ∷ os)) (fits o && goes os) (ap (λ b. b && not (is_outside o)) held ∙ ap not out) go) in (
            h,
            subst (λ b. AlongBeside p hs (done (T w) (answered_by b o os)) (done w (answered_by b o os))) (sym out)
                (rest w os all both.1 (subst (λ b. HasAllOf HasThere p hs (done w (answered_by b o os))) out has)),
          )
      one_so true false h w o os held out all go here has = (
        h,
        subst (λ b. AlongBeside p hs (done (T w) (answered_by b o os)) (done w (answered_by b o os))) (sym out)
            (rest w (o ∷ os) all go (subst (λ b. HasAllOf HasThere p hs (done w (answered_by b o os))) out has)),
      )

    pub along_beside : (p : ℕ) (hints : List Hint) (w : World) (os : List Op) → Kept w → goes os ≡ true
        → HasAllOf HasThere p hints (done w os) → AlongBeside p hints (done (T w) os) (done w os)
    along_beside p [] w os all go has = record { hinted = []; has = tt; same = refl; kept = all }
    along_beside p (h ∷ hs) w [] all go has =
        let r = along_beside p hs w [] all refl has.1 in
        record { hinted = h ∷ r.hinted; has = (tt, r.has); same = r.same; kept = r.kept }
    along_beside p (h ∷ hs) w (o ∷ os) all go has =
        let r =
        one_so p hs (λ w os all go has. along_beside p hs w os all go has) (waits o) (is_outside o) h w o os refl refl all go has.0
        has.1 in
        record { hinted = r.0 ∷ r.1.hinted; has = (has.0, r.1.has); same = r.1.same; kept = r.1.kept }
