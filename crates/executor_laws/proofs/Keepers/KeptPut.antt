-- For keepers_are_called.
-- Where a steal puts a future into an own queue, the run that steals keeps it.
use Rattle.std.proofs.Common.{◌≡◌, ◌≢◌, ◌∙◌, ℕ, zero, suc, ◌+◌, ◌<◌, ◌≤◌, List, [], ◌∷◌, ◌++◌, length, get_or, set, Bool, true}
use Rattle.std.proofs.Common.{false, ◌||◌, not, cond, eqb, refl, sym, ap, subst, inl, inr, ⊎_elim, arith}
use Rattle.std.{proofs.lemmas.Bool.Decides.nat_tests, specs.Prelude.nat_lt, specs.Prelude.reverse}
use Rattle.executor_model.specs.{Doing.act, OwnQueues.filling_of, Rows.then_waiting, Sound.times, Steps.Machine, Steps.stack}
use Rattle.executor_model.proofs.{Polls.AskingExecutions.Heard, Steps.Lift.split, Steps.Lift.unsettled}
use Rattle.executor_model.proofs.{OwnQueues.OwnRooms.Roomy, OwnQueues.Using.polling_of, Steps.RunsMoves.same-stolen}
use Rattle.executor_laws.proofs.{Keepers.KeptTrace.Kept.now, Keepers.KeptTrace.Kept.before, Wakeups.StandsSteps.Standing}
use Rattle.executor_laws.proofs.{Wakeups.StandsRuns.Calm, Wakeups.StandsRuns.walks-more, Wakeups.StandsUses.run-there}
use Rattle.executor_laws.proofs.Types.{Event, Op, Steal, StealOp, Hint}
use Rattle.executor_model.specs.{Weights.same, Weights.weigh, Weights.weigh_all, World.World, World.Done, World.own_of, World.run_of}
use Rattle.executor_model.proofs.Steps.Lists.{same_cases, same_is, weigh_all-push, times-append}
use Rattle.executor_model.proofs.OwnQueues.UsingWorlds.{is_over_stage, is_past}
use Rattle.executor_laws.proofs.Keepers.KeptLeads.{IsPast, count-seated, past-seated}
use Rattle.executor_laws.proofs.Keepers.KeptSearch.{load-more, quits-more}
use Rattle.executor_laws.proofs.Keepers.KeptTrace.{Keeps, Kept, Parted, keeps-one, one-other, parted-more}
use Rattle.executor_laws.proofs.Keepers.KeptWeights.{load_of, quits_of, readies_of}
use Rattle.executor_laws.proofs.Keepers.KeptHere.{Here, Keeping, gone-more}
use Rattle.executor_model.specs.ActsOfRuns as runs

-- one comes into the own queue of the run that steals

is-there : (w : World) (r : ℕ) → is_past (run_of w r) ≡ false → r < length w.runs
is-there w r e = run-there w.runs r (by (run_of w r).dropped e)
  where
    by : (d : Bool) → (d || is_over_stage (run_of w r).stage) ≡ false → not d ≡ true
    by false q = refl
    by true q = absurd (cc)

times-grown : (f r q g : ℕ) (qs : List (List ℕ)) →
    times f (get_or qs r []) ≤ times f (get_or (set qs q (get_or qs q [] ++ g ∷ [])) r [])
times-grown f r q g [] = omega arith
times-grown f zero zero g (x ∷ qs) = omega (arith, times-append f x (g ∷ []))
times-grown f (suc r) zero g (x ∷ qs) = omega arith
times-grown f zero (suc q) g (x ∷ qs) = omega arith
times-grown f (suc r) (suc q) g (x ∷ qs) = times-grown f r q g qs

times-put : (q g : ℕ) (qs : List (List ℕ)) → q < length qs →
    1 ≤ times g (get_or (set qs q (get_or qs q [] ++ g ∷ [])) q [])
times-put q g [] l = absurd (omega (arith, l))
times-put zero g (x ∷ qs) l = let one : same g g ≡ 1 = grind (arith, same_is) in
    omega (arith, times-append g x (g ∷ []), one)
times-put (suc q) g (x ∷ qs) l = times-put q g qs (omega (arith, l))

free-there : (w : World) (r : ℕ) → 1 ≤ runs.free_places w r → r < length w.own
free-there w r z = by (nat_lt r (length w.own)) refl
  where
    by : (b : Bool) → nat_lt r (length w.own) ≡ b → r < length w.own
    by true e = grind (arith, nat_tests)
    by false e = absurd (omega (arith, z, ap (λ (c : Bool). let n : ℕ = cond c 512 0 in n) e))

pub has-free : (s : Machine) (p : ℕ) (rest : List Op) (x : Steal) (more g : ℕ) → p < length s.parties →
    stack s p ≡ rest ++ reverse (Op.Steal (StealOp.Put x more g) ∷ []) → Roomy s →
    1 ≤ runs.free_places s.world x.poll.run
has-free s p rest x more g l e k =
    let self : eqb x.poll.run x.poll.run ≡ true = grind (arith, nat_tests) in
    omega (
      arith,
      k x.poll.run,
      split (filling_of x.poll.run) s.parties p (Op.Steal (StealOp.Put x more g) ∷ []) rest l e,
      ap (λ (b : Bool). cond b (more + 1) 0) self,
    )

module _ (s : Machine) (p : ℕ) (x : Steal) (more g : ℕ) (rest : List Op) (h : Hint) (l : p < length s.parties)
    (e : stack s p ≡ rest ++ reverse (Op.Steal (StealOp.Put x more g) ∷ [])) (k : Keeping s) where
  abbrev kept : World
  kept = runs.kept_by p s.world x.poll.run g

  abbrev put : Done
  put = runs.steal_by more kept x

  abbrev then_so : Machine
  then_so = unsettled s p rest put

  calm : Calm kept put.world
  calm = (walks-more more kept x).calm

  trace : put.world.trace ≡ s.world.trace ++ Event.Kept p g x.poll.run ∷ []
  trace = by-trace more kept x
    where
      by-trace : (n : ℕ) (w : World) (y : Steal) → (runs.steal_by n w y).world.trace ≡ w.trace
      by-trace zero w y = (same-stolen y.then w y.poll).trace
      by-trace (suc n) w y = refl

  own : (f r : ℕ) → times f (own_of kept r) + then_waiting f x.then
      ≤ times f (own_of put.world r) + weigh (load_of f) put.next
  own f r = load-more more kept x f r

  past-put : (r : ℕ) → is_past (run_of put.world r) ≡ is_past (run_of s.world r)
  past-put r = past-seated kept put.world calm.seated r

  count-put : length put.world.runs ≡ length s.world.runs
  count-put = count-seated kept put.world calm.seated

  free : 1 ≤ runs.free_places s.world x.poll.run
  free = has-free s p rest x more g l e k.roomy

  alive : is_past (run_of s.world x.poll.run) ≡ false
  alive = (k.standing.used x.poll.run).polled (omega (
    arith,
    split (polling_of x.poll.run) s.parties p (Op.Steal (StealOp.Put x more g) ∷ []) rest l e,
    (let one : same x.poll.run x.poll.run ≡ 1 = grind (arith, same_is) in one),
  ))

  keeps-put : (f r place : ℕ) → Keeps f r place put.world.trace →
      (r < length put.world.runs) × Here f r put.world (weigh_all (load_of f) then_so.parties)
  keeps-put f r place y = on (keeps-one f r place s.world.trace (Event.Kept p g x.poll.run)
      (subst (Keeps f r place) trace y))
    where
      on : Kept f r place s.world.trace (Event.Kept p g x.poll.run) →
          (r < length put.world.runs) × Here f r put.world (weigh_all (load_of f) then_so.parties)
      on (now n i) =
          let a : g ≡ f = cc in
          let b : x.poll.run ≡ r = cc in (
            omega (arith, count-put, b, is-there s.world x.poll.run alive),
            inl (omega (
              arith,
              own f r,
              ap (λ (m : ℕ). times f (own_of kept m)) b,
              ap (λ (m : ℕ). times m (own_of kept x.poll.run)) a,
              times-put x.poll.run g s.world.own (free-there s.world x.poll.run free),
              weigh_all-push (load_of f) s.parties p rest put.next l,
            )),
          )
      on (before z i j) = let w : _ = k.keeps f r place z in (omega (arith, w.0, count-put), by w.1)
        where
          apart : same f g ≡ 0
          apart = ⊎_elim
              (λ (q : (same f g ≡ 1) × (eqb f g ≡ true) × (f ≡ g)). absurd
              (let no : true ≡ false = sym q.1 ∙ i in cc))
              (λ (q : (same f g ≡ 0) × (eqb f g ≡ false) × (f ≢ g)). q.0)
              (same_cases f g)

          by : Here f r s.world (weigh_all (load_of f) s.parties) →
              Here f r put.world (weigh_all (load_of f) then_so.parties)
          by (inl q) = inl (omega (
            arith,
            q,
            apart,
            own f r,
            times-grown f r x.poll.run g s.world.own,
            split (load_of f) s.parties p (Op.Steal (StealOp.Put x more g) ∷ []) rest l e,
            weigh_all-push (load_of f) s.parties p rest put.next l,
          ))
          by (inr (inl q)) = inr (inl (gone-more f s.world put.world (Event.Kept p g x.poll.run ∷ []) trace q))
          by (inr (inr q)) = inr (inr (omega (arith, q.0, count-put), past-put r ∙ q.1))

  pub keeping-put : Standing then_so → Heard then_so → Roomy then_so → Keeping then_so
  keeping-put a b c = record {
    standing = a;
    heard = b;
    roomy = c;
    leaves = λ r z. (let w : IsPast s.world r = k.leaves r (omega (
      arith,
      z,
      quits-more more kept x r,
      split (quits_of r) s.parties p (Op.Steal (StealOp.Put x more g) ∷ []) rest l e,
      weigh_all-push (quits_of r) s.parties p rest put.next l,
    )) in (omega (arith, w.0, count-put), past-put r ∙ w.1));
    parted = λ r z. (let w : is_past (run_of s.world r) ≡ true = sym (past-put r) ∙ z.1 in
        ⊎_elim
        (λ (y : Parted r s.world.trace). inl (subst (Parted r) (sym trace)
        (parted-more r s.world.trace (Event.Kept p g x.poll.run ∷ [])
        (one-other r (Event.Kept p g x.poll.run) (λ m f q. (let i : x.poll.run ≡ r = cc in
        let no : true ≡ false = sym w ∙ (ap (λ (n : ℕ). is_past (run_of s.world n)) (sym i) ∙ alive) in cc))) y)))
        (λ (y : 1 ≤ weigh_all (readies_of r) s.parties). inr (omega (
          arith,
          y,
          split (readies_of r) s.parties p (Op.Steal (StealOp.Put x more g) ∷ []) rest l e,
          weigh_all-push (readies_of r) s.parties p rest put.next l,
        )))
        (k.parted r (omega (arith, z.0, count-put), w)));
    keeps = keeps-put;
  }

-- where a place is free
pub put-free : (s : Machine) (p : ℕ) (x : Steal) (more g : ℕ) (h : Hint) → 1 ≤ runs.free_places s.world x.poll.run →
    runs.steal_by more (runs.kept_by p s.world x.poll.run g) x ≡ act p h (Op.Steal (StealOp.Put x more g)) s.world
put-free s p x more g h z = ap (λ (b : Bool). runs.steal_put_by b p s.world x more g)
    (let q : true ≡ nat_lt 0 (runs.free_places s.world x.poll.run) = grind (arith, nat_tests) in q)
