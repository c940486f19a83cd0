-- For due_futures_stand_with_their_keepers.
-- Where no call is in progress a due future stands with its keeper, and in the executor's queue where it has none.
use Rattle.std.proofs.Common.{◌≡◌, ◌⊎◌, ◌∙◌, inl, inr, ⊎_elim, ℕ, zero, suc, ◌+◌, ◌<◌, ◌≤◌, List, [], ◌∷◌, get_or, Bool, true}
use Rattle.std.proofs.Common.{false, ◌||◌, refl, sym, ap, subst, arith}
use Rattle.std.specs.Prelude.{Some, count_by}
use Rattle.executor_laws.proofs.Types.{Event, Kind, Op, Step}
use Rattle.executor_model.specs.Rows.{appends_of, closing_of, drops_of, ending_of, giving_of, leaking_of, polls_of, ready_of}
use Rattle.executor_model.specs.Trace.{Trace, has, is_accepted, is_dropped, is_ready}
use Rattle.executor_model.specs.World.{Ended, own_of, queued_in, run_of, task}
use Rattle.executor_model.specs.{Rows.settling_of, Rows.waiting_of, AwaiterKept.since, Due.IsDue, Emptiness.IsAtRest, Good.Good}
use Rattle.executor_model.specs.{Keeper.IsCommon, Keeper.IsKeeper, Keeper.is_run_drop, Sound.pend, Sound.queued, Sound.times}
use Rattle.executor_model.specs.{Sound.times_in, Steps.Machine, Steps.run, Steps.stack, Steps.start, Weights.weigh_all}
use Rattle.executor_laws.specs.Places.{StandsWithKeeper}
use Rattle.executor_model.proofs.OneFuture.Telling.{accepted-counts, begun-has, counted-there, fallen-counts, there-or-none}
use Rattle.executor_model.proofs.Polls.Dueness.{asked-is, not-over, ready-is, unopened}
use Rattle.executor_model.proofs.Polls.AskingExecutions.{Heard, heard}
use Rattle.executor_model.proofs.Quiet.Resting.{Deep, all-rest, deep, rests}
use Rattle.executor_model.proofs.OwnQueues.UsingWorlds.{is_over_stage, is_past}
use Rattle.executor_model.proofs.{Steps.Lift.good, OneFuture.Stories.story, OwnQueues.Using.emptying_of}
use Rattle.executor_laws.proofs.Placement.Bonds.{Bond, bond, bond-is, reads}
use Rattle.executor_laws.proofs.Placement.BoundWays.{Bonded, bonded}
use Rattle.executor_laws.proofs.{Placement.Answering.readying_of, Placement.Ran.AllReady, Placement.Safe.Safe}

no-true : (a : Bool) → (a ≡ true → ⊥) → a ≡ false
no-true true k = absurd (k refl)
no-true false k = refl

-- an event is there where it is counted
found-there : (test : Event → Bool) (es : Trace) → 1 ≤ count_by test es → has test es ≡ true
found-there test es k = ⊎_elim (λ (x : (has test es ≡ true) × (1 ≤ count_by test es)). x.0)
    (λ (x : (has test es ≡ false) × (count_by test es ≡ 0)). absurd (omega (arith, x.1, k))) (there-or-none test es)

-- one of the lists has what stands in them
record Found (f : ℕ) (qs : List (List ℕ)) : Type 0 where
  pub run : ℕ
  pub there : 1 ≤ times f (get_or qs run [])

find : (f : ℕ) (qs : List (List ℕ)) → 1 ≤ times_in f qs → Found f qs
find f [] k = absurd (omega (arith, k))
find f (q ∷ qs) k = ⊎_elim
    (λ (z : times f q ≡ 0). let r = find f qs (omega (arith, k, z)) in record { run = suc r.run; there = r.there })
    (λ (z : 1 ≤ times f q). record { run = zero; there = z })
    (zero-or (times f q))
  where
    zero-or : (n : ℕ) → (n ≡ 0) ⊎ (1 ≤ n)
    zero-or zero = inl refl
    zero-or (suc n) = inr (omega arith)

module _ (s : Machine) (fine : Good s) (h : Heard s) (d : Deep s) (b : Bonded s) (rest : IsAtRest s) where
  pub here : s.world.gone ≡ false
  here = sym (h.placed.leaves 0).begun ∙ (begun-has 0 s.world.trace ∙ rest.there)

  pub idle : (q : ℕ) → stack s q ≡ []
  idle q = rests s d rest.quiet q

  none : (v : Op → ℕ) → weigh_all v s.parties ≡ 0
  none v = all-rest v s.parties idle

  -- nobody leaks the executor
  pub unleaked : weigh_all leaking_of s.parties ≡ 0
  unleaked = none leaking_of

  -- a future that is due has a Runnable in some queue
  pub due-queued : (f : ℕ) → IsDue f s.world.trace → 1 ≤ queued s.world f
  due-queued f due = ⊎_elim
      (λ (x : (task s.world f).scheduled ≡ true). let t = (fine.sound f).owed x in omega (
        arith,
        t,
        none (waiting_of f),
        none (polls_of f),
        none (ending_of f),
        none (ready_of f),
        none (closing_of f),
        none (settling_of f),
        none (giving_of f),
      ))
      (λ (x : ((task s.world f).closed ≡ true) × (1 ≤ weigh_all (polls_of f) s.parties +
      (weigh_all (ending_of f) s.parties + weigh_all (drops_of f) s.parties))). absurd (omega (
        arith,
        x.1,
        none (polls_of f),
        none (ending_of f),
        none (drops_of f),
      )))
      ((h.asked f).due (sym (asked-is f s.world.trace) ∙ due.asked_for)
      (not-over f s.world.trace due.unready due.undropped))

  -- and none else
  stands : (f : ℕ) → 1 ≤ queued s.world f → 1 ≤ times f (story f s.world.trace).standing
  stands f k = (h.placed.leaves f).runs (omega (arith, k))

  was-accepted : (f : ℕ) → 1 ≤ queued s.world f → has (is_accepted f) s.world.trace ≡ true
  was-accepted f k = found-there (is_accepted f) s.world.trace
      (omega (arith, accepted-counts f s.world.trace, stands f k, (h.placed.leaves f).bound))

  once-accepted : (f : ℕ) → (story f s.world.trace).accepted ≤ 1
  once-accepted f = known-or-fresh _ _ (h.placed.leaves f).known (h.placed.leaves f).fresh
    where
      known-or-fresh : (n a : ℕ) → (f < n → a ≡ 1) → (n ≤ f → a ≡ 0) → a ≤ 1
      known-or-fresh n a k e = grind arith

  not-dropped : (f : ℕ) → 1 ≤ queued s.world f → has (is_dropped f) s.world.trace ≡ true → ⊥
  not-dropped f k x = omega (
    arith,
    (h.placed.leaves f).stay here,
    stands f k,
    once-accepted f,
    fallen-counts f s.world.trace,
    counted-there (is_dropped f) s.world.trace x,
  )

  pub queued-due : (f : ℕ) → 1 ≤ queued s.world f → IsDue f s.world.trace
  queued-due f k =
      let live : (task s.world f).completed ≡ false = (fine.sound f).live (omega (arith, k)) in
      let scheduled : (task s.world f).scheduled ≡ true = (fine.sound f).carries (omega (arith, k)) in
      record {
        accepted = was-accepted f k;
        undropped = no-true (has (is_dropped f) s.world.trace) (not-dropped f k);
        unready = no-true (has (is_ready f) s.world.trace) (λ x. ⊎_elim
            (λ (c : (task s.world f).completed ≡ true). let no : true ≡ false = sym c ∙ live in absurd (cc))
            (λ (c : 1 ≤ weigh_all (ready_of f) s.parties). absurd (omega (arith, c, none (ready_of f))))
            ((h.asked f).readied (sym (ready-is f s.world.trace) ∙ x)));
        resting = unopened f s.world.trace ((fine.sound f).resting (none (polls_of f))) (fine.sound f).lawful;
        asked_for = asked-is f s.world.trace ∙ (h.asked f).requested scheduled here;
      }

  -- what stands in an own queue is one of those in all
  pub in-own : (f r : ℕ) → times f (own_of s.world r) ≤ times_in f s.world.own
  in-own f r = go r s.world.own
    where
      go : (n : ℕ) (qs : List (List ℕ)) → times f (get_or qs n []) ≤ times_in f qs
      go n [] = omega arith
      go zero (q ∷ qs) = omega arith
      go (suc n) (q ∷ qs) = omega (arith, go n qs)

  -- a run whose queue isn't empty is neither dropped nor ready
  alive : (f r : ℕ) → 1 ≤ times f (own_of s.world r) → is_past (run_of s.world r) ≡ false
  alive f r k = no-true (is_past (run_of s.world r)) (λ z. ⊎_elim
      (λ (y : own_of s.world r ≡ []). omega (arith, k, ap (times f) y))
      (λ (y : 1 ≤ weigh_all (emptying_of r) s.parties). omega (arith, y, none (emptying_of r)))
      ((b.used r).emptied z))

  or-false : (x y : Bool) → (x || y) ≡ false → y ≡ false
  or-false true y z = absurd (cc)
  or-false false y z = z

  -- who has it in its queue is its keeper
  pub own-keeper : (f r : ℕ) → 1 ≤ times f (own_of s.world r) → IsKeeper r f s.world.trace
  own-keeper f r k =
      let open_run : is_past (run_of s.world r) ≡ false = alive f r k in
      let kept : (bond f s.world.trace).kept ≡ true = is-true (bond f s.world.trace).kept
      (λ z. (let no : true ≡ false = sym ((b.bound f).lost r k z) ∙ open_run in cc)) in
      let run : (bond f s.world.trace).run ≡ r = (b.bound f).own r k kept in
      let t = reads f s.world.trace in record {
        party = (bond f s.world.trace).party;
        place = (bond f s.world.trace).place;
        kept = t.kept kept ∙ ap (λ (n : ℕ). Some (Event.Kept (bond f s.world.trace).party f n)) run;
        last = t.last kept;
        unpolled = t.unpolled kept;
        undropped = ap (λ (n : ℕ). has (is_run_drop n) (since (bond f s.world.trace).place s.world.trace)) (sym run)
            ∙ t.undropped kept;
        unready = λ a. (let over : is_over_stage (run_of s.world r).stage ≡ true =
            (b.ran r).answered a.party a.poll a.polled a.ready in
            let no : true ≡ false = sym over
            ∙ or-false (run_of s.world r).dropped (is_over_stage (run_of s.world r).stage) open_run in cc);
      }
    where
      is-true : (x : Bool) → (x ≡ false → ⊥) → x ≡ true
      is-true true z = refl
      is-true false z = absurd (z refl)

  -- a keeper has it in its queue
  pub keeper-own : (f r : ℕ) → IsDue f s.world.trace → IsKeeper r f s.world.trace → 1 ≤ times f (own_of s.world r)
  keeper-own f r due k =
      let is : bond f s.world.trace ≡ record { kept = true; run = r; party = k.party; place = k.place } =
      bond-is f r k.party k.place s.world.trace k.kept k.last k.unpolled k.undropped in
      let kept : (bond f s.world.trace).kept ≡ true = ap (λ (x : Bond). x.kept) is in
      let run : (bond f s.world.trace).run ≡ r = ap (λ (x : Bond). x.run) is in
      let away : times f (queued_in s.world) ≡ 0 = ⊎_elim
      (λ (y : Safe s.world f (pend f s.parties) (weigh_all (appends_of f) s.parties)). y.queued)
      (λ (y : (run_of s.world (bond f s.world.trace).run).stage ≡ Ended). absurd (not-ready k
      (sym (ap (λ (n : ℕ). (run_of s.world n).stage) run) ∙ y) (sym (ap (λ (n : ℕ). has (is_run_drop n) s.world.trace)
      run) ∙ (b.bound f).undropped kept)))
      ((b.bound f).away kept) in
      let spot : Found f s.world.own = find f s.world.own (omega (arith, due-queued f due, away)) in
      subst (λ (n : ℕ). 1 ≤ times f (own_of s.world n)) (sym ((b.bound f).own spot.run spot.there kept) ∙ run) spot.there
    where
      not-ready : IsKeeper r f s.world.trace → (run_of s.world r).stage ≡ Ended →
          has (is_run_drop r) s.world.trace ≡ false → ⊥
      not-ready k z y = ⊎_elim
          (λ (x : has (is_run_drop r) s.world.trace ≡ true). let no : true ≡ false = sym x ∙ y in absurd (cc))
          (λ (x : (1 ≤ weigh_all (readying_of r) s.parties) ⊎ AllReady r s.world.trace). ⊎_elim
          (λ (u : 1 ≤ weigh_all (readying_of r) s.parties). omega (arith, u, none (readying_of r)))
          (λ (u : AllReady r s.world.trace). k.unready (u k.place k.party f k.kept))
          x)
          ((b.ran r).ended z)

  -- what stands in the executor's queues has no keeper
  pub queue-common : (f : ℕ) → 1 ≤ times f (queued_in s.world) → IsCommon f s.world.trace
  queue-common f k =
      let due : IsDue f s.world.trace = queued-due f (omega (arith, k)) in record {
        due = due;
        unkept = λ r z. omega (arith, k, keeper-own f r due z, in-own f r, (fine.sound f).one);
      }

  pub common-queue : (f : ℕ) → IsCommon f s.world.trace → 1 ≤ times f (queued_in s.world)
  common-queue f c = ⊎_elim
      (λ (z : times_in f s.world.own ≡ 0). omega (arith, z, due-queued f c.due))
      (λ (z : 1 ≤ times_in f s.world.own).
      let spot : Found f s.world.own = find f s.world.own z in
      absurd (c.unkept spot.run (own-keeper f spot.run spot.there)))
      (zero-or (times_in f s.world.own))
    where
      zero-or : (n : ℕ) → (n ≡ 0) ⊎ (1 ≤ n)
      zero-or zero = inl refl
      zero-or (suc n) = inr (omega arith)

pub stands-with-keeper : (limit : ℕ) (kind : Kind) (parties : ℕ) (steps : List Step) →
    StandsWithKeeper (run steps (start limit kind parties))
stands-with-keeper limit kind parties steps =
    let s = run steps (start limit kind parties) in
    let fine = good limit kind parties steps in
    let h = heard limit kind parties steps in
    let d = deep limit kind parties steps in
    let b = bonded limit kind parties steps in record {
      common = λ r f due. (λ k. queue-common s fine h d b r f k, λ c. common-queue s fine h d b r f c);
      kept = λ r f n due. (λ k. own-keeper s fine h d b r f n k, λ k. keeper-own s fine h d b r f n due k);
    }
