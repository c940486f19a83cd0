-- Where a call that takes comes to behind what it took, with what runs have taken: it is answered, stands in more code, or, of a run, takes
-- the next one.
use Rattle.std.proofs.Common.{◌≡◌, ℕ, suc, ◌<◌, ◌≤◌, ◌==◌, ◌||◌, nat_lt, not, Bool, true, false, List, [], ◌∷◌, ◌++◌, length, Option}
use Rattle.std.proofs.Common.{None}
use Rattle.std.proofs.Common.{⊎_elim, refl, sym, ap, subst, ◌∙◌, arith}
use Rattle.std.proofs.lemmas.Bool.Decides.{nat_tests}
use Rattle.executor_model.specs.declared.op.HandleOp.TheVariants as handle_op
use Rattle.executor_model.specs.declared.op.Op.{Op}
use Rattle.executor_model.specs.declared.op.Op.TheVariants as op
use Rattle.executor_model.specs.declared.op.RunPoll.{RunPoll}
use Rattle.executor_model.specs.declared.op.TableOp.TheVariants as table_op
use Rattle.executor_model.specs.declared.op.UserOp.TheVariants as user_op
use Rattle.executor_model.specs.declared.op.Waker.{Waker}
use Rattle.executor_model.specs.Rows.{running_of}
use Rattle.executor_model.specs.Weights.{weigh}
use Rattle.executor_model.specs.World.{Done, World, task}
use Rattle.plain_scheduler.specs.State.{Choice, Plain, Run, Running, Taker}
use Rattle.plain_scheduler.specs.Lists.{or}
use Rattle.plain_scheduler.specs.Moves.{is_kept}
use Rattle.plain_scheduler.specs.Searches.{searches_of}
use Rattle.machine_roads.specs.View.{Output, wakes}
use Rattle.machine_roads.specs.Road.{Follows, futures_in}
use Rattle.machine_roads.specs.Alone.{is_resting}
use Rattle.machine_roads.specs.Dropped.{Drops, answered, loses, rest_of}
use Rattle.machine_roads.specs.Forgotten.{StopsForgetting}
use Rattle.machine_roads.specs.Searching.{goes_on_by}
use Rattle.machine_roads.specs.Stopped.{Finally, of_tick, of_try}
use Rattle.machine_roads.specs.Within.{GoesOnBy, Nested, alike, by_run, by_tick, by_try, dropping, forgetting, takes}
use Rattle.machine_roads.proofs.Counting.{Alike, Comes, Counted, StandsSo, Taken, at_end, comes, in_code, lasts, leaves, like, none_last}
use Rattle.machine_roads.proofs.Counting.{none_left, over_in, some_op, taken_in, unchanged}
use Rattle.machine_roads.proofs.Lists.{clash, equal, same_of}
use Rattle.machine_roads.proofs.Passing.{Passes, passes_end, telling}
use Rattle.machine_roads.proofs.PassingStill.{GoesStill, passes_still, stands_still}
use Rattle.machine_roads.proofs.RunApart.{Ends, its_run}
use Rattle.machine_roads.proofs.RunsOn.{After, Between, Searched, ends, goes_on as runs_on, takes as takes_next}
use Rattle.machine_roads.proofs.RunsStay.{RunsStay}
use Rattle.machine_roads.proofs.Standing.{StaysSo, stopped_so, stops_so}
use Rattle.machine_roads.proofs.Starting.{start_in}

-- the run of this poll isn't used elsewhere, and isn't over, and no run that is keeps anything
pub record Facts (below : List Op) (q : Plain Output Waker) (x : RunPoll) : Type 0 where
  pub unused : weigh (running_of x.run) below ≡ 0
  pub going : over_in x.run q.runs ≡ false
  pub left : (k : ℕ) → over_in k q.runs ≡ true → futures_in (is_kept k) q.due ≡ []

abbrev pub FactsOf : List Op → Plain Output Waker → (taker : Taker Waker) (final : Op) → GoesOnBy taker final → Type 0
FactsOf below q taker final by_try = Unit {0}
FactsOf below q taker final (by_tick t a) = Unit {0}
FactsOf below q taker final (by_run x last) = Facts below q x

no_longer : (n m : ℕ) → n ≡ suc m → n ≡ m → ⊥
no_longer n m longer same = omega (arith, longer, same)

all_of : (t : ℕ) → t ≤ 200 → nat_lt t 200 ≡ false → t ≡ 200
all_of t most last = grind (arith, nat_tests)

most_of : (t : ℕ) → nat_lt t 200 ≡ true → t ≤ 200
most_of t few = grind (arith, nat_tests)

least : (n : ℕ) → n ≤ n
least n = omega arith

-- so much a run that takes has taken, if it is the last or not
module _ (x : RunPoll) (below : List Op) (unused : weigh (running_of x.run) below ≡ 0) where
  own_last : (last : Bool) (t : ℕ) → t ≤ 200 → nat_lt t 200 ≡ not last → Taken (some_op (lasts x.run) (goes_on_by x last ∷ below)) t
  own_last true t most early =
      subst (λ b. Taken (b || some_op (lasts x.run) below) t) (sym (equal x.run x.run refl)) (all_of t most early)
  own_last false t most early = subst (λ b. Taken b t) (sym (none_last x.run below unused)) early

  last_own : (last : Bool) (t : ℕ) → Taken (some_op (lasts x.run) (goes_on_by x last ∷ below)) t → (t ≤ 200) × (nat_lt t 200 ≡ not last)
  last_own true t taken =
      let all : t ≡ 200 = subst (λ b. Taken (b || some_op (lasts x.run) below) t) (equal x.run x.run refl) taken in
      (subst (λ n. n ≤ 200) (sym all) (least 200), ap (λ n. nat_lt n 200) all)
  last_own false t taken =
      let few : nat_lt t 200 ≡ true = subst (λ b. Taken b t) (none_last x.run below unused) taken in (most_of t few, few)

  -- of another run it tells nothing
  other_last : (last : Bool) (r : ℕ) → (r == x.run) ≡ false
      → some_op (lasts r) (goes_on_by x last ∷ below) ≡ some_op (lasts r) below
  other_last true r apart = ap (λ b. b || some_op (lasts r) below) apart
  other_last false r apart = refl

final_left : (x : RunPoll) (last : Bool) (r : ℕ) (below : List Op)
    → some_op (leaves r) (goes_on_by x last ∷ below) ≡ some_op (leaves r) below
final_left x true r below = refl
final_left x false r below = refl

module _ (below : List Op) (q : Plain Output Waker) (x : RunPoll) (last : Bool) (count : Counted (goes_on_by x last ∷ below) q.runs)
    (facts : Facts below q x) (rs : List Running) (spares : (r : ℕ) → (r == x.run) ≡ false → its_run r rs ≡ its_run r q.runs) where
  -- of others it tells the same
  taken_other : (r : ℕ) → (r == x.run) ≡ false → Taken (some_op (lasts r) below) (taken_in r rs)
  taken_other r apart =
      subst (λ o. Taken (some_op (lasts r) below) (or o (λ run. run.taken) 0)) (sym (spares r apart))
      (subst (λ b. Taken b (taken_in r q.runs)) (other_last x below facts.unused last r apart) (count.taken r))

  going_other : (r : ℕ) → some_op (leaves r) below ≡ true → over_in r rs ≡ false
  going_other r is = by (r == x.run) refl
    where
      by : (b : Bool) → (r == x.run) ≡ b → over_in r rs ≡ false
      by true here =
          absurd
          (clash (ap (λ r. some_op (leaves r) below) (same_of r x.run here) ∙ none_left x.run below facts.unused) is)
      by false apart =
          ap (λ o. or o (λ run. run.is_over) true) (spares r apart) ∙ count.going r (final_left x last r below ∙ is)

  -- its poll has ended
  has_ended : nat_lt (taken_in x.run rs) 200 ≡ true → Counted below rs
  has_ended few = record { taken = λ r. by r (r == x.run) refl; going = going_other }
    where
      by : (r : ℕ) (b : Bool) → (r == x.run) ≡ b → Taken (some_op (lasts r) below) (taken_in r rs)
      by r true here =
          subst (λ r. Taken (some_op (lasts r) below) (taken_in r rs)) (sym (same_of r x.run here))
          (subst (λ b. Taken b (taken_in x.run rs)) (sym (none_last x.run below facts.unused)) few)
      by r false apart = taken_other r apart

  -- it has taken so many
  has_taken : (l : Bool) → taken_in x.run rs ≤ 200 → nat_lt (taken_in x.run rs) 200 ≡ not l → Counted (goes_on_by x l ∷ below) rs
  has_taken l most early = record {
    taken = λ r. by r (r == x.run) refl;
    going = λ r is. going_other r (sym (final_left x l r below) ∙ is);
  }
    where
      by : (r : ℕ) (b : Bool) → (r == x.run) ≡ b → Taken (some_op (lasts r) (goes_on_by x l ∷ below)) (taken_in r rs)
      by r true here =
          subst (λ r. Taken (some_op (lasts r) (goes_on_by x l ∷ below)) (taken_in r rs)) (sym (same_of r x.run here))
          (own_last x below facts.unused l (taken_in x.run rs) most early)
      by r false apart =
          subst (λ b. Taken b (taken_in r rs)) (sym (other_last x below facts.unused l r apart)) (taken_other r apart)

module _ (p : ℕ) (below : List Op) (q : Plain Output Waker) (nested : Nested below q.inside) (under : is_resting below ≡ true) (c1 : Choice)
    (room : length q.lying < c1.tells) (e : Done) (rests : is_resting e.next ≡ true) (will : Choice → Plain Output Waker)
    (Says : Choice → Type 0) where
  -- by some choice that tells alike
  pub record Lands : Type 0 where
    pub choice : Choice
    pub tells : choice.tells ≡ c1.tells
    pub stands : StandsSo e (will choice)
    pub says : Says choice

  -- what is said of the choice where a run goes on there, and where none does
  pub record Tells (start : ℕ) (taker : Taker Waker) (final : Op) (w : World) (b : Plain Output Waker) : Type 0 where
    pub searched : (r : ℕ) (a : Waker) → taker ≡ Run r a → (d : Choice)
        → Searched start r a w b (telling c1.tells d) e.world (will (telling c1.tells d)) → Says (telling c1.tells d)
    pub unsearched : Finally q taker final → searches_of wakes c1 taker b ≡ None → Says c1

  abbrev AllEnd : Taker Waker → Type 0
  AllEnd taker = (d : Choice) → Ends d taker q (will d)

  -- its poll has ended: what it took counts no more
  back : (taker : Taker Waker) (final : Op) (it : GoesOnBy taker final) → Counted (final ∷ below) q.runs
      → FactsOf below q taker final it → AllEnd taker → (d : Choice) → (will d).inside ≡ q.inside → Counted below (will d).runs
  back taker final by_try count facts so d inside =
      unchanged below q.runs (will d).runs (λ k. (so d).spares k tt)
      (like (final ∷ below) below q.runs (record { last = λ r. refl; left = λ r. refl }) count)
  back taker final (by_tick t a) count facts so d inside =
      unchanged below q.runs (will d).runs (λ k. (so d).spares k tt)
      (like (final ∷ below) below q.runs (record { last = λ r. refl; left = λ r. refl }) count)
  back taker final (by_run x last) count facts so d inside =
      has_ended below q x last count facts (will d).runs (λ r apart. (so d).spares r apart)
      (⊎_elim
      (λ (longer : length (will d).inside ≡ suc (length q.inside)).
      absurd (no_longer (length (will d).inside) (length q.inside) longer (ap length inside)))
      (λ (is : nat_lt (taken_in x.run (will d).runs) 200 ≡ true). is) ((so d).own x.run x.waker refl))

  -- the call is answered
  back_so : (d : Choice) → Counted below (will d).runs → e.next ≡ below → (will d).inside ≡ q.inside → Follows e.world (will d)
      → StandsSo e (will d)
  back_so d count next inside follows = record {
    alike = alike (subst (λ os. Nested os (will d).inside) (sym next) (subst (λ codes. Nested below codes) (sym inside) nested)) follows;
    counted = subst (λ os. Counted os (will d).runs) (sym next) count;
  }

  lands_back : (d : Choice) → d.tells ≡ c1.tells → Counted below (will d).runs → e.next ≡ below → (will d).inside ≡ q.inside
      → Follows e.world (will d) → Says d → Lands
  lands_back d tells count next inside follows says =
      record { choice = d; tells = tells; stands = back_so d count next inside follows; says = says }

  -- it has taken the next one, or its poll has ended
  pub after_lands : (x : RunPoll) (last : Bool) → Counted (goes_on_by x last ∷ below) q.runs → Facts below q x
      → AllEnd (Run x.run x.waker) → (t : ℕ) → After p x below q c1.tells t e will Says → Lands
  after_lands x last count facts so t (ends d next follows inside says) =
      let d1 = telling c1.tells d in
      lands_back d1 refl (back (Run x.run x.waker) (goes_on_by x last) (by_run x last) count facts so d1 inside) next inside follows
      says
  after_lands x last count facts so t (takes_next d l stands between says) =
      let d1 = telling c1.tells d in
      let z = will d1 in
      let st = stops_so (Run x.run x.waker) (goes_on_by x l) below q e z stands in
      record {
        choice = d1;
        tells = refl;
        stands = record {
          alike = alike (takes (Run x.run x.waker) (goes_on_by x l) below e.next q.inside z.inside (by_run x l) nested st.stopped)
              st.follows;
          counted = by d1 (comes (Run x.run x.waker) (goes_on_by x l) below q.inside e.next z.inside st.stopped)
              (has_taken below q x last count facts z.runs (λ r apart. (so d1).spares r apart) l
              (subst (λ n. n ≤ 200) (sym between.taken) between.most) (ap (λ n. nat_lt n 200) between.taken ∙ between.early));
        };
        says = says;
      }
    where
      by : (d : Choice) → Comes (goes_on_by x l) below q.inside e.next (will d).inside → Counted (goes_on_by x l ∷ below) (will d).runs
          → Counted e.next (will d).runs
      by d (at_end at codes) one =
          subst (λ os. Counted os (will d).runs) (sym at)
          (back (Run x.run x.waker) (goes_on_by x last) (by_run x last) count facts so d codes)
      by d (in_code same) one = like (goes_on_by x l ∷ below) e.next (will d).runs same one

  -- a run that takes none has lain down
  pub rests_so : (x : RunPoll) (last : Bool) → Counted (goes_on_by x last ∷ below) q.runs → Facts below q x
      → AllEnd (Run x.run x.waker) → (d : Choice) → e.next ≡ below → Follows e.world (will d) → (will d).inside ≡ q.inside
      → StandsSo e (will d)
  rests_so x last count facts so d next follows inside =
      back_so d (back (Run x.run x.waker) (goes_on_by x last) (by_run x last) count facts so d inside) next inside follows

  -- what a run that takes has taken, where it goes on
  pub between : (x : RunPoll) (last : Bool) → Counted (goes_on_by x last ∷ below) q.runs → Facts below q x
      → Between x.run last (taken_in x.run q.runs) q
  between x last count facts =
      let two = last_own x below facts.unused last (taken_in x.run q.runs) (count.taken x.run) in
      record { taken = refl; most = two.0; early = two.1; going = facts.going; left = facts.left }

  -- only what takes is left to do
  pub passes_lands : (taker : Taker Waker) (final : Op) (it : GoesOnBy taker final) → Counted (final ∷ below) q.runs
      → FactsOf below q taker final it → AllEnd taker → (behind : Choice → Option (Plain Output Waker))
      → (pass : Passes p taker final below q c1.tells e will behind)
      → Tells (start_in p e pass.so.world (final ∷ below) pass.so.way) taker final pass.so.world pass.before → Lands
  passes_lands taker final by_try count facts so behind pass tells =
      let g = passes_end p below under e rests taker final q of_try c1 will behind pass in
      lands_back c1 refl (back taker final by_try count facts so c1 g.2) g.0 g.2 g.1 (tells.unsearched of_try refl)
  passes_lands taker final (by_tick t a) count facts so behind pass tells =
      let g = passes_end p below under e rests taker final q (of_tick t a) c1 will behind pass in
      lands_back c1 refl (back taker final (by_tick t a) count facts so c1 g.2) g.0 g.2 g.1
      (tells.unsearched (of_tick t a) refl)
  passes_lands taker final (by_run x last) count facts so behind pass tells =
      after_lands x last count facts so (taken_in x.run q.runs)
      (runs_on p x below q c1.tells (taken_in x.run q.runs) e will Says under rests c1 behind last room (between x last count facts) pass
      (tells.searched x.run x.waker refl) tells.unsearched)

  module _ (taker : Taker Waker) (final : Op) (it : GoesOnBy taker final) (count : Counted (final ∷ below) q.runs)
      (facts : FactsOf below q taker final it) (so : AllEnd taker) where
    -- or more code has come before that
    pub goes_lands : (start : ℕ) (P : World → Type 0) (behind : Choice → Option (Plain Output Waker)) (So : Plain Output Waker → Type 0)
        → ((pass : Passes p taker final below q c1.tells e will behind) → P pass.so.world
        → Tells start taker final pass.so.world pass.before)
        → (So (will (telling c1.tells c1)) → RunsStay q (will (telling c1.tells c1)) → behind c1 ≡ None → P e.world → Lands)
        → GoesStill start P p taker final below q c1.tells e will behind So → Lands
    goes_lands start P behind So tells lands (passes_still pass still starts) =
        passes_lands taker final it count facts so behind pass
        (subst (λ n. Tells n taker final pass.so.world pass.before) (sym starts) (tells pass still))
    goes_lands start P behind So tells lands (stands_still stops stays none still) = lands (stops c1) (stays c1) (none c1) still

    -- a future's drop, or none
    pub stays_lands : (d : Choice) → d.tells ≡ c1.tells → StaysSo taker final below q e (will d) → (will d).runs ≡ q.runs → Says d → Lands
    stays_lands d tells stays runs says =
        let st = stopped_so taker final below q e (will d) stays in
        record {
          choice = d;
          tells = tells;
          stands = record {
            alike = alike (takes taker final below e.next q.inside (will d).inside it nested st.stopped) st.follows;
            counted = by (comes taker final below q.inside e.next (will d).inside st.stopped);
          };
          says = says;
        }
      where
        by : Comes final below q.inside e.next (will d).inside → Counted e.next (will d).runs
        by (at_end at codes) = subst (λ os. Counted os (will d).runs) (sym at) (back taker final it count facts so d codes)
        by (in_code same) = like (final ∷ below) e.next (will d).runs same (subst (Counted (final ∷ below)) (sym runs) count)

    -- an output's drop, or none
    pub drops_lands : (f : ℕ) (d : Choice) → d.tells ≡ c1.tells → Drops taker final below f q e (will d) → (will d).runs ≡ q.runs
        → Says d → Lands
    drops_lands f d tells (answered next inside follows) runs says =
        lands_back d tells (back taker final it count facts so d inside) next inside follows says
    drops_lands f d tells (loses awaiter next inside ending) runs says = record {
      choice = d;
      tells = tells;
      stands = record {
        alike = dropping taker final below f q it nested (loses awaiter next inside ending);
        counted =
            subst (λ os. Counted os (will d).runs) (sym next)
            (like (final ∷ below) (op.User (user_op.DropOutput f) ∷ (rest_of (task e.world f).awaiter f final ++ below)) (will d).runs
            (owed (task e.world f).awaiter) (subst (Counted (final ∷ below)) (sym runs) count));
      };
      says = says;
    }
      where
        owed : (b : Bool) → Alike (final ∷ below) (op.User (user_op.DropOutput f) ∷ (rest_of b f final ++ below))
        owed true = record { last = λ r. refl; left = λ r. refl }
        owed false = record { last = λ r. refl; left = λ r. refl }

    -- the drop of a future that nobody could wake
    pub forgets_lands : (f : ℕ) (d : Choice) → d.tells ≡ c1.tells → StopsForgetting taker final below f q e (will d)
        → (will d).runs ≡ q.runs → Says d → Lands
    forgets_lands f d tells stops runs says = record {
      choice = d;
      tells = tells;
      stands = record {
        alike = forgetting taker final below f q it nested stops;
        counted =
            subst (λ os. Counted os (will d).runs) (sym stops.left)
            (like (final ∷ below)
            (op.User (user_op.Drop f) ∷ op.Table (table_op.LeaveTable f) ∷ op.Handle (handle_op.LetGo f) ∷ final ∷ below) (will d).runs
            (record { last = λ r. refl; left = λ r. refl }) (subst (Counted (final ∷ below)) (sym runs) count));
      };
      says = says;
    }
