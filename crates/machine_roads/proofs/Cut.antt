-- What a party does first alone is the same whatever it has to do behind that: it comes to where only that is left, or it rests in
-- user code above it.
use Rattle.std.proofs.Common.{◌≡◌, ◌++◌, ℕ, List, [], ◌∷◌, Bool, true, false, append_assoc, refl, sym, ap, subst, ◌∙◌}
use Rattle.executor_model.specs.declared.op.Op.{Op}
use Rattle.executor_model.specs.declared.step.Hint.{Hint}
use Rattle.executor_model.specs.Doing.{act}
use Rattle.executor_model.specs.Steps.{waits}
use Rattle.executor_model.specs.World.{Done, World, done}
use Rattle.machine_roads.specs.Alone.{Has, HasAll, HasAllOf, alone, answered_by, is_outside, is_resting, one_by}

-- from these things to do on it comes so far, whatever comes behind them
pub record Comes (Asked : World → Op → Type 0) (p : ℕ) (hints : List Hint) (w : World) (os : List Op) (v : World) (left : List Op)
    : Type 0 where
  pub to : (xs : List Op) → alone p hints (done w (os ++ xs)) ≡ done v (left ++ xs)
  pub has : (xs : List Op) → HasAllOf Asked p hints (done w (os ++ xs))

-- through all of them, with the hints that are left for what comes behind; or it rests above that
pub data Cut (Asked : World → Op → Type 0) (p : ℕ) (hints : List Hint) (w : World) (os rest : List Op) : Type 0 where
  through : (first later : List Hint) (v : World) → Comes Asked p first w os v [] → HasAllOf Asked p later (done v rest)
      → alone p hints (done w (os ++ rest)) ≡ alone p later (done v rest) → hints ≡ first ++ later → Cut Asked p hints w os rest
  inside : (v : World) (o : Op) (above : List Op) → is_resting (o ∷ []) ≡ true → Comes Asked p hints w os v (o ∷ above)
      → Cut Asked p hints w os rest

module _ (Asked : World → Op → Type 0) (p : ℕ) where
  -- a step more at the beginning
  comes_on : (h : Hint) (hs : List Hint) (w : World) (o : Op) (os : List Op) (v : World) (left : List Op) → waits o ≡ false → Asked w o
      → Comes Asked p hs (act p h o w).world ((act p h o w).next ++ os) v left → Comes Asked p (h ∷ hs) w (o ∷ os) v left
  comes_on h hs w o os v left goes has more = record {
    to = λ xs.
        subst (λ b. alone p hs (one_by b p h o w (os ++ xs)) ≡ done v (left ++ xs)) (sym goes)
        (ap (λ ys. alone p hs (done (act p h o w).world ys)) (sym (append_assoc (act p h o w).next os xs)) ∙ more.to xs);
    has = λ xs. (
      has,
      subst (λ b. HasAllOf Asked p hs (one_by b p h o w (os ++ xs))) (sym goes)
          (subst (λ ys. HasAllOf Asked p hs (done (act p h o w).world ys)) (append_assoc (act p h o w).next os xs) (more.has xs)),
    );
  }

  -- where it waits, or the call of an outside waker ends
  comes_waiting : (b : Bool) (h : Hint) (hs : List Hint) (w : World) (o : Op) (os : List Op) (v : World) (left : List Op)
      → waits o ≡ true → is_outside o ≡ b → Asked w o → Comes Asked p hs w (answered_by b o os) v left
      → Comes Asked p (h ∷ hs) w (o ∷ os) v left
  comes_waiting true h hs w o os v left held out has more = record {
    to = λ xs.
        subst (λ b. alone p hs (one_by b p h o w (os ++ xs)) ≡ done v (left ++ xs)) (sym held)
        (subst (λ b. alone p hs (done w (answered_by b o (os ++ xs))) ≡ done v (left ++ xs)) (sym out) (more.to xs));
    has = λ xs. (
      has,
      subst (λ b. HasAllOf Asked p hs (one_by b p h o w (os ++ xs))) (sym held)
          (subst (λ b. HasAllOf Asked p hs (done w (answered_by b o (os ++ xs)))) (sym out) (more.has xs)),
    );
  }
  comes_waiting false h hs w o os v left held out has more = record {
    to = λ xs.
        subst (λ b. alone p hs (one_by b p h o w (os ++ xs)) ≡ done v (left ++ xs)) (sym held)
        (subst (λ b. alone p hs (done w (answered_by b o (os ++ xs))) ≡ done v (left ++ xs)) (sym out) (more.to xs));
    has = λ xs. (
      has,
      subst (λ b. HasAllOf Asked p hs (one_by b p h o w (os ++ xs))) (sym held)
          (subst (λ b. HasAllOf Asked p hs (done w (answered_by b o (os ++ xs)))) (sym out) (more.has xs)),
    );
  }

  comes_here : (w : World) (os : List Op) → Comes Asked p [] w os w os
  comes_here w os = record { to = λ xs. refl; has = λ xs. tt }

  abbrev Onwards : List Hint → List Op → Type 0
  Onwards hs rest =
      (w : World) (os : List Op) → HasAllOf Asked p hs (done w (os ++ rest))
      → is_resting (alone p hs (done w (os ++ rest))).next ≡ true → Cut Asked p hs w os rest

  pub cut_of : (hints : List Hint) (w : World) (os rest : List Op) → HasAllOf Asked p hints (done w (os ++ rest))
      → is_resting (alone p hints (done w (os ++ rest))).next ≡ true → Cut Asked p hints w os rest
  cut_of [] w [] rest has rests = through [] [] w (comes_here w []) has refl refl
  cut_of [] w (o ∷ os) rest has rests = inside w o os rests (comes_here w (o ∷ os))
  cut_of (h ∷ hs) w [] rest has rests = through [] (h ∷ hs) w (comes_here w []) has refl refl
  cut_of (h ∷ hs) w (o ∷ os) rest all rests =
      by (λ w os has rests. cut_of hs w os rest has rests) (waits o) (is_outside o) refl refl all.1 rests
    where
      more : (w2 : World) (os2 : List Op)
          → ((v : World) (left : List Op) (first : List Hint) → Comes Asked p first w2 os2 v left
          → Comes Asked p (h ∷ first) w (o ∷ os) v left)
          → alone p (h ∷ hs) (done w (o ∷ (os ++ rest))) ≡ alone p hs (done w2 (os2 ++ rest)) → Cut Asked p hs w2 os2 rest
          → Cut Asked p (h ∷ hs) w (o ∷ os) rest
      more w2 os2 on is (through first later v comes later_has so parts) =
          through (h ∷ first) later v (on v [] first comes) later_has (is ∙ so) (ap (λ hs. h ∷ hs) parts)
      more w2 os2 on is (inside v x above user comes) = inside v x above user (on v (x ∷ above) hs comes)

      held_by : Onwards hs rest → (c : Bool) → waits o ≡ true → is_outside o ≡ c
          → HasAllOf Asked p hs (done w (answered_by c o os ++ rest))
          → is_resting (alone p hs (done w (answered_by c o os ++ rest))).next ≡ true
          → alone p (h ∷ hs) (done w (o ∷ (os ++ rest))) ≡ alone p hs (done w (answered_by c o os ++ rest))
          → Cut Asked p (h ∷ hs) w (o ∷ os) rest
      held_by on c held out has rests same =
          more w (answered_by c o os) (λ v left first comes. comes_waiting c h first w o os v left held out all.0 comes) same
          (on w (answered_by c o os) has rests)

      by : Onwards hs rest → (b c : Bool) → waits o ≡ b → is_outside o ≡ c → HasAllOf Asked p hs (one_by (waits o) p h o w (os ++ rest))
          → is_resting (alone p hs (one_by (waits o) p h o w (os ++ rest))).next ≡ true → Cut Asked p (h ∷ hs) w (o ∷ os) rest
      by on false c goes out has rests =
          let d = act p h o w in
          let same : one_by (waits o) p h o w (os ++ rest) ≡ done d.world ((d.next ++ os) ++ rest) =
          ap (λ b. one_by b p h o w (os ++ rest)) goes ∙ ap (λ ys. done d.world ys) (sym (append_assoc d.next os rest)) in
          more d.world (d.next ++ os) (λ v left first comes. comes_on h first w o os v left goes all.0 comes) (ap (alone p hs) same)
          (on d.world (d.next ++ os) (subst (HasAllOf Asked p hs) same has)
          (subst (λ (d : Done). is_resting (alone p hs d).next ≡ true) same rests))
      by on true true held out has rests =
          let same : one_by (waits o) p h o w (os ++ rest) ≡ done w (os ++ rest) =
          ap (λ b. one_by b p h o w (os ++ rest)) held ∙ ap (λ b. done w (answered_by b o (os ++ rest))) out in
          held_by on true held out (subst (HasAllOf Asked p hs) same has)
          (subst (λ (d : Done). is_resting (alone p hs d).next ≡ true) same rests) (ap (alone p hs) same)
      by on true false held out has rests =
          let same : one_by (waits o) p h o w (os ++ rest) ≡ done w (o ∷ (os ++ rest)) =
          ap (λ b. one_by b p h o w (os ++ rest)) held ∙ ap (λ b. done w (answered_by b o (os ++ rest))) out in
          held_by on false held out (subst (HasAllOf Asked p hs) same has)
          (subst (λ (d : Done). is_resting (alone p hs d).next ≡ true) same rests) (ap (alone p hs) same)

-- what each thing to do speaks of is there
abbrev pub CutHas : ℕ → List Hint → World → List Op → List Op → Type 0
CutHas p hints w os rest = Cut Has p hints w os rest

pub cut : (p : ℕ) (hints : List Hint) (w : World) (os rest : List Op) → HasAll p hints (done w (os ++ rest))
    → is_resting (alone p hints (done w (os ++ rest))).next ≡ true → CutHas p hints w os rest
cut p hints w os rest has rests = cut_of Has p hints w os rest has rests
