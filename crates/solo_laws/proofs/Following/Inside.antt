-- What users' codes have in hand is out of the executor.
use Rattle.std.proofs.Common.{◌≡◌, ℕ, ◌<◌, ◌==◌, cond, not, Bool, true, false, List, ◌∷◌, refl, sym, ap, subst, ◌∙◌, slice_get}
use Rattle.task_moves.specs.LocalTask.{is_home, is_gone, is_lent, is_dropping}
use Rattle.task_moves.specs.declared.local_task.answers.FuturePlace.{FuturePlace}
use Rattle.task_moves.specs.declared.local_task.answers.FuturePlace.TheVariants.{Home, Lent, Dropping, Gone}
use Rattle.solo.specs.declared.names.Task.{Task}
use Rattle.solo.specs.declared.names.SoloWaker.{SoloWaker}
use Rattle.solo.specs.declared.cells.Cells.{Cells}
use Rattle.solo.specs.Cells.{asked}
use Rattle.solo.specs.Cells as cells
use Rattle.plain_scheduler.specs.State.{Code}
use Rattle.solo_laws.specs.Road.{IsInside, is_in, apart, lents, drops, awaiters}
use Rattle.solo_laws.proofs.Following.Due.{both_true, and_true, not_false, later}
use Rattle.solo_laws.proofs.Following.Cells.{same_number}

-- a future is in one place
module _ {P : Type 0} where
  pub home_stays : (place : FuturePlace P) → is_home place ≡ true → is_gone place ≡ false
  home_stays (Home a) is = refl
  home_stays Lent is = refl
  home_stays Dropping is = refl
  home_stays Gone is = absurd cc

  pub home_lent : (place : FuturePlace P) → is_home place ≡ true → is_lent place ≡ false
  home_lent (Home a) is = refl
  home_lent Lent is = absurd cc
  home_lent Dropping is = refl
  home_lent Gone is = refl

  pub home_dropping : (place : FuturePlace P) → is_home place ≡ true → is_dropping place ≡ false
  home_dropping (Home a) is = refl
  home_dropping Lent is = refl
  home_dropping Dropping is = absurd cc
  home_dropping Gone is = refl

  pub lent_dropping : (place : FuturePlace P) → is_lent place ≡ true → is_dropping place ≡ false
  lent_dropping (Home a) is = refl
  lent_dropping Lent is = refl
  lent_dropping Dropping is = absurd cc
  lent_dropping Gone is = refl

  pub lent_stays : (place : FuturePlace P) → is_lent place ≡ true → is_gone place ≡ false
  lent_stays (Home a) is = refl
  lent_stays Lent is = refl
  lent_stays Dropping is = refl
  lent_stays Gone is = absurd cc

  pub dropping_stays : (place : FuturePlace P) → is_dropping place ≡ true → is_gone place ≡ false
  dropping_stays (Home a) is = refl
  dropping_stays Lent is = refl
  dropping_stays Dropping is = refl
  dropping_stays Gone is = absurd cc

module _ {T X : Type 0} (name : ℕ → Task) (many : ℕ) (s : Cells T X) (inside now : List (Code T (SoloWaker X)))
    (r : IsInside name many s inside) where
  -- the same are in hand
  pub same_inside : lents now ≡ lents inside → drops now ≡ drops inside → awaiters now ≡ awaiters inside → IsInside name many s now
  same_inside lent dropped waits = record {
    lent = λ f is. r.lent f (sym (ap (is_in f) lent) ∙ is);
    dropping = λ f is. r.dropping f (sym (ap (is_in f) dropped) ∙ is);
    lent_once = ap apart lent ∙ r.lent_once;
    dropping_once = ap apart dropped ∙ r.dropping_once;
    callers = λ at t is. r.callers at t (sym (ap (λ ws. slice_get ws at) waits) ∙ is);
  }

  module _ (f : ℕ) (at : f < many) where
    -- one more
    pub one_lent : lents now ≡ f ∷ lents inside → drops now ≡ drops inside → awaiters now ≡ awaiters inside
        → asked cells.is_lent false (name f) s ≡ true → is_in f (lents inside) ≡ false → IsInside name many s now
    one_lent lent dropped waits is none = record {
      lent = λ j has. by (j == f) j refl (sym (ap (is_in j) lent) ∙ has);
      dropping = λ j has. r.dropping j (sym (ap (is_in j) dropped) ∙ has);
      lent_once =
          ap apart lent ∙ and_true (not (is_in f (lents inside))) (apart (lents inside))
          (not_false (is_in f (lents inside)) none) r.lent_once;
      dropping_once = ap apart dropped ∙ r.dropping_once;
      callers = λ at t is. r.callers at t (sym (ap (λ ws. slice_get ws at) waits) ∙ is);
    }
      where
        by : (b : Bool) (j : ℕ) → (j == f) ≡ b → cond (j == f) true (is_in j (lents inside)) ≡ true
            → (j < many) × (asked cells.is_lent false (name j) s ≡ true)
        by true j same has =
            let one : j ≡ f = same_number j f same in
            (subst (λ n. n < many) (sym one) at, subst (λ n. asked cells.is_lent false (name n) s ≡ true) (sym one) is)
        by false j same has = r.lent j (sym (ap (λ b. cond b true (is_in j (lents inside))) same) ∙ has)

    pub one_dropped : lents now ≡ lents inside → drops now ≡ f ∷ drops inside → awaiters now ≡ awaiters inside
        → asked cells.is_dropping false (name f) s ≡ true → is_in f (drops inside) ≡ false → IsInside name many s now
    one_dropped lent dropped waits is none = record {
      lent = λ j has. r.lent j (sym (ap (is_in j) lent) ∙ has);
      dropping = λ j has. by (j == f) j refl (sym (ap (is_in j) dropped) ∙ has);
      lent_once = ap apart lent ∙ r.lent_once;
      dropping_once =
          ap apart dropped ∙ and_true (not (is_in f (drops inside))) (apart (drops inside))
          (not_false (is_in f (drops inside)) none) r.dropping_once;
      callers = λ at t is. r.callers at t (sym (ap (λ ws. slice_get ws at) waits) ∙ is);
    }
      where
        by : (b : Bool) (j : ℕ) → (j == f) ≡ b → cond (j == f) true (is_in j (drops inside)) ≡ true
            → (j < many) × (asked cells.is_dropping false (name j) s ≡ true)
        by true j same has =
            let one : j ≡ f = same_number j f same in
            (subst (λ n. n < many) (sym one) at, subst (λ n. asked cells.is_dropping false (name n) s ≡ true) (sym one) is)
        by false j same has = r.dropping j (sym (ap (λ b. cond b true (is_in j (drops inside))) same) ∙ has)

  -- one less
  pub less_lent : (f : ℕ) → lents inside ≡ f ∷ lents now → drops inside ≡ drops now → awaiters inside ≡ awaiters now
      → IsInside name many s now
  less_lent f lent dropped waits = record {
    lent = λ j has. r.lent j (ap (is_in j) lent ∙ later (j == f) (is_in j (lents now)) has);
    dropping = λ j has. r.dropping j (ap (is_in j) dropped ∙ has);
    lent_once = (both_true (not (is_in f (lents now))) (apart (lents now)) (sym (ap apart lent) ∙ r.lent_once)).1;
    dropping_once = sym (ap apart dropped) ∙ r.dropping_once;
    callers = λ at t is. r.callers at t (ap (λ ws. slice_get ws at) waits ∙ is);
  }
