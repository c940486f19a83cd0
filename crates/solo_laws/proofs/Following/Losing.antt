-- What an executor's owner owes once a drop has ended: a waker goes or is called, or an output is dropped first.
use Rattle.std.proofs.Common.{◌≡◌, ℕ, zero, suc, ◌≤◌, true, List, [], ◌∷◌, ◌++◌, length, Option, Some, None, slice_get, refl, sym, ap}
use Rattle.std.proofs.Common.{subst, ◌∙◌}
use Rattle.solo.specs.declared.names.Task.{Task}
use Rattle.solo.specs.declared.names.SoloWaker.{SoloWaker}
use Rattle.solo.specs.declared.names.SoloWaker.TheVariants.{Task as OfTask}
use Rattle.solo.specs.declared.owed.Lent.{Lent}
use Rattle.solo.specs.declared.cells.Cells.{Cells}
use Rattle.solo.specs.declared.solo.Solo.{Solo}
use Rattle.plain_scheduler.specs.State.{Choice, Plain, Code, Lose, Taker, Try, Tick, Run, Answers, Yes, Ready, Done, Answer}
use Rattle.plain_scheduler.specs.Lists.{on, or}
use Rattle.plain_scheduler.specs.Moves.{tell, called, let_go, answers}
use Rattle.plain_scheduler.specs.Takes as takes
use Rattle.plain_scheduler.specs.Calls as calls
use Rattle.solo_laws.specs.Alike.{calls as calls_it, lets_go}
use Rattle.solo_laws.specs.Dropping.{LosesAlike, ends_one}
use Rattle.solo_laws.specs.Road.{IsNamed, IsInside, HasLife, is_in, apart, lents, drops, awaiters, wakes, first_if}
use Rattle.solo_laws.specs.Tabled.{Stands, named}
use Rattle.solo_laws.proofs.Following.Seeing.{seen}
use Rattle.solo_laws.proofs.Following.Calling.{Named, calls_alike, lets_go_alike}
use Rattle.solo_laws.proofs.Following.Frames.{Still, still, tell_still, called_still, let_go_still, seen_still}
use Rattle.solo_laws.proofs.Following.Bases as bases
use Rattle.solo_laws.proofs.Following.Tabling.{tabled, handed}

-- once a future's drop has ended, both are here
module _ {F T X : Type 0} (its : ℕ → Lent) (c : Choice) where
  -- a waker of the task's goes, or is called, and the answer is seen
  module _ (s : Solo F T X) (p : Plain T (SoloWaker X)) (both : Stands its s p) (many : length p.lying ≤ c.tells) where
    pub lets_go_both : (o : Option (SoloWaker X)) → Named (named its) (length p.futures) o → HasLife 2 s.lines
        → Stands its (lets_go o s) (on o (let_go wakes (tell wakes c)) p)
    lets_go_both o names life = (
      lets_go_alike (named its) c s p both.0 many life o names,
      tabled its c s (lets_go o s) p (on o (let_go wakes (tell wakes c)) p) (bases.lets_go_base s o s (bases.same s)) (by o) both.1,
    )
      where
        by : (o : Option (SoloWaker X)) → Still c p (on o (let_go wakes (tell wakes c)) p)
        by None = still c p
        by (Some w) = let_go_still c (tell wakes c) (tell_still c) w p

    pub calls_both : (o : Option (SoloWaker X)) → Named (named its) (length p.futures) o → HasLife 2 s.lines
        → Stands its (calls_it o s) (on o (called wakes (tell wakes c)) p)
    calls_both o names life = (
      calls_alike (named its) c s p both.0 many life o names,
      tabled its c s (calls_it o s) p (on o (called wakes (tell wakes c)) p) (bases.calls_base s o s (bases.same s)) (by o) both.1,
    )
      where
        by : (o : Option (SoloWaker X)) → Still c p (on o (called wakes (tell wakes c)) p)
        by None = still c p
        by (Some w) = called_still c (tell wakes c) (tell_still c) w p

  pub sees : (s : Solo F T X) (p : Plain T (SoloWaker X)) (answer : Answer T) → Stands its s p → Stands its s (answers answer p)
  sees s p answer both = (
    seen (named its) s p (p.events ++ Answers answer ∷ []) p.inside both.0.inside both.0,
    tabled its c s s p (answers answer p) (bases.same s) (seen_still c p (p.events ++ Answers answer ∷ [])) both.1,
  )

  -- and the call goes on, or is done
  pub goes_on : (s : Solo F T X) (p : Plain T (SoloWaker X)) (by : Option (Taker (SoloWaker X))) → ends_one by ≡ true → Stands its s p
      → Stands its s (or by (λ taker. takes.next wakes c taker p) (answers Done p))
  goes_on s p None one both = sees s p Done both
  goes_on s p (Some Try) one both = sees s p Yes both
  goes_on s p (Some (Tick t w)) one both = sees s p Ready both
  goes_on s p (Some (Run r w)) one both = absurd cc

-- who is called once an output is dropped
module _ {T X : Type 0} (name : ℕ → Task) (many : ℕ) (s : Cells T X) where
  pub now_losing : (inside : List (Code T (SoloWaker X))) → IsInside name many s inside → (awaiter : Option (SoloWaker X))
      (by : Option (Taker (SoloWaker X))) → Named name many awaiter → IsInside name many s (Lose awaiter by ∷ inside)
  now_losing inside r awaiter by names = record {
    lent = r.lent;
    dropping = r.dropping;
    lent_once = r.lent_once;
    dropping_once = r.dropping_once;
    callers = λ at t is. called_by awaiter names at t is;
  }
    where
      called_by : (o : Option (SoloWaker X)) → Named name many o → (at : ℕ) (t : Task)
          → slice_get (first_if o (awaiters inside)) at ≡ Some (OfTask t) → IsNamed name many t
      called_by None names at t is = r.callers at t is
      called_by (Some w) names zero t is = names t is
      called_by (Some w) names (suc at) t is = r.callers at t is

  pub lost : (inside rest : List (Code T (SoloWaker X))) → IsInside name many s inside → (awaiter : Option (SoloWaker X))
      (by : Option (Taker (SoloWaker X))) → inside ≡ Lose awaiter by ∷ rest
      → IsInside name many s rest × Named name many awaiter
  lost inside rest r awaiter by is = (
    record {
      lent = λ f has. r.lent f (ap (λ cs. is_in f (lents cs)) is ∙ has);
      dropping = λ f has. r.dropping f (ap (λ cs. is_in f (drops cs)) is ∙ has);
      lent_once = sym (ap (λ cs. apart (lents cs)) is) ∙ r.lent_once;
      dropping_once = sym (ap (λ cs. apart (drops cs)) is) ∙ r.dropping_once;
      callers = λ at t has. later awaiter at t (callers at t) has;
    },
    names awaiter refl,
  )
    where
      after : Option (SoloWaker X) → ℕ → ℕ
      after None at = at
      after (Some w) at = suc at

      callers_at : (o : Option (SoloWaker X)) (at : ℕ)
          → slice_get (first_if o (awaiters rest)) (after o at) ≡ slice_get (awaiters rest) at
      callers_at None at = refl
      callers_at (Some w) at = refl

      callers : (at : ℕ) (t : Task) → slice_get (first_if awaiter (awaiters rest)) (after awaiter at) ≡ Some (OfTask t)
          → IsNamed name many t
      callers at t has = r.callers (after awaiter at) t (ap (λ cs. slice_get (awaiters cs) (after awaiter at)) is ∙ has)

      later : (o : Option (SoloWaker X)) (at : ℕ) (t : Task)
          → (slice_get (first_if awaiter (awaiters rest)) (after awaiter at) ≡ Some (OfTask t) → IsNamed name many t)
          → slice_get (awaiters rest) at ≡ Some (OfTask t) → IsNamed name many t
      later o at t so has = so (callers_at awaiter at ∙ has)

      names : (o : Option (SoloWaker X)) → awaiter ≡ o → Named name many o
      names None same t has = absurd cc
      names (Some w) same t has =
          r.callers 0 t (ap (λ cs. slice_get (awaiters cs) 0) is ∙ (ap (λ o. slice_get (first_if o (awaiters rest)) 0) same ∙ has))

module _ {F T X : Type 0} (its : ℕ → Lent) (s : Solo F T X) (p : Plain T (SoloWaker X)) (both : Stands its s p) where
  pub loses_alike : LosesAlike its s p
  loses_alike c awaiter by one rest stands_in many life =
      let two = lost (named its) (length p.futures) s.cells p.inside rest both.0.inside awaiter by stands_in in
      let q : Plain T (SoloWaker X) = record p { inside = rest } in
      let left : Stands its s q = (
        seen (named its) s p p.events rest two.0 both.0,
        handed its c s p p.events rest
            (λ j has. both.1.lent j (ap (λ cs. is_in j (lents cs)) stands_in ∙ has))
            (λ j has. both.1.dropping j (ap (λ cs. is_in j (drops cs)) stands_in ∙ has)) both.1,
      ) in
      subst (λ cs. Stands its (calls_it awaiter s) (calls.innermost wakes c cs (calls.ends wakes c) p)) (sym stands_in)
      (goes_on its c (calls_it awaiter s) (on awaiter (called wakes (tell wakes c)) q) by one
      (calls_both its c s q left many awaiter two.1 life))
