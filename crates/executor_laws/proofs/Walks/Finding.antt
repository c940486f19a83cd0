-- For runs_find_due_futures.
-- A run that looks for a future in the other runs' queues takes one, where one of them isn't empty.
use Rattle.std.proofs.Common.{◌≡◌, ◌≢◌, ◌⊎◌, ◌∙◌, ⊎_elim, ℕ, suc, ◌+◌, ◌<◌, ◌≤◌, List, [], ◌∷◌, ◌++◌, length}
use Rattle.std.proofs.Common.{Bool, true, false, cond, eqb, refl, sym, ap, subst, arith, append-nil, append_assoc, Ok}
use Rattle.std.proofs.lemmas.Bool.Decides.{nat_tests}
use Rattle.std.proofs.lemmas.List.{get_or_past}
use Rattle.std.specs.Prelude.{nat_lt, reverse}
use Rattle.executor_laws.proofs.Types.{ListOp, Op, RunOp, RunPoll, StealOp, Hint, Step, UserEnd}
use Rattle.executor_model.specs.{ActsOfRuns.free_places, Doing.act, Due.IsDue, Executions.run_all, OwnQueues.HasOwnRoom}
use Rattle.executor_model.specs.{OwnQueues.ListAgrees, OwnQueues.filling_of, Rows.running_of, Steps.Machine, Steps.Part, Steps.accepts}
use Rattle.executor_model.specs.{Steps.onto, Steps.stack, Steps.with_part, Trace.Trace, Weights.same, World.World}
use Rattle.executor_model.proofs.{OwnQueues.OwnExecutions.has-own-room, OwnQueues.OwnListed.lists-agree, Steps.Lift.split}
use Rattle.executor_model.proofs.{Steps.Lists.same_cases, Steps.Reached.Reached}
use Rattle.executor_laws.specs.LoneEnds.{are_onward_of}
use Rattle.executor_laws.proofs.Reach.LoneTicks.{stack-set}
use Rattle.executor_laws.proofs.RunReach.RunFinds.{Heading}
use Rattle.executor_laws.proofs.RunReach.RunKeeps.{So}
use Rattle.executor_laws.proofs.RunReach.RunArrives.{entry}
use Rattle.executor_laws.proofs.RunReach.RunWalks.{Onward, Taken, from-heading, not-nil, onward, with-heading}
use Rattle.executor_laws.proofs.RunReach.RunWalks.Onward.{acted, answered}
use Rattle.executor_laws.proofs.Walks.Enrolled.{Enrolled, enrolled}
use Rattle.executor_laws.proofs.Walks.Searches.{Next, Seeking, next-counts, next-finds, next-lengths, next-locks, next-looks}
use Rattle.executor_laws.proofs.Walks.Searches.{next-more_puts, next-more_takes, next-puts, next-takes}
use Rattle.executor_laws.proofs.Walks.Searches.Seeking.{counts, finds, lengths, locks, looks, more_puts, more_takes, puts, takes, unlocks}

pub enrolled-here : (s : Machine) → Reached s → Enrolled s
enrolled-here s y = subst Enrolled (sym y.is) (enrolled y.limit y.kind y.parties y.steps)

pub listed-here : (s : Machine) (r : ℕ) → Reached s → ListAgrees s r
listed-here s r y = subst (λ (m : Machine). ListAgrees m r) (sym y.is) (lists-agree y.limit y.kind y.parties y.steps r)

pub room-here : (s : Machine) (r : ℕ) → Reached s → HasOwnRoom s r
room-here s r y = subst (λ (m : Machine). HasOwnRoom m r) (sym y.is) (has-own-room y.limit y.kind y.parties y.steps r)

pub itself : (r : ℕ) → (same r r ≡ 1) × (eqb r r ≡ true)
itself r = ⊎_elim
    (λ (x : (same r r ≡ 1) × (eqb r r ≡ true) × (r ≡ r)). (x.0, x.1))
    (λ (x : (same r r ≡ 0) × (eqb r r ≡ false) × (r ≢ r)). absurd (x.2 refl)) (same_cases r r)

-- who has something to do is one of the parties
known-party : (s : Machine) (p : ℕ) → (stack s p ≡ [] → ⊥) → p < length s.parties
known-party s p none = ⊎_elim (λ (l : p < length s.parties). l)
    (λ (l : length s.parties ≤ p). absurd (none (get_or_past s.parties p [] l))) (or-past p (length s.parties))
  where
    or-past : (i j : ℕ) → (i < j) ⊎ (j ≤ i)
    or-past i j = grind arith

-- the poll or the drop of a future that was due has begun since
pub record TakesOne (before : Trace) (new : Machine) : Type 0 where
  pub future : ℕ
  pub due : IsDue future before
  pub taken : Taken future before new.world.trace

module _ (p : ℕ) (before : Trace) (x : RunPoll) (new : Machine) (idles : stack new p ≡ []) where
  module _ (t : Step) (ts : List Step) (s : Machine) (y : Reached s) (k : So before s.world) (l : p < length s.parties)
      (on : are_onward_of p (t ∷ ts) ≡ true) (m : run_all (t ∷ ts) s ≡ Ok new)
      (further : (v : Machine) → Reached v → So before v.world → Seeking before x v.world (stack v p) →
      are_onward_of p ts ≡ true → run_all ts v ≡ Ok new → TakesOne before new) where
    again : (others : List Step) (z : Step) (v : Part) → t ∷ ts ≡ z ∷ others → Next before x s.world v →
        Reached (with_part s p v) → run_all others (with_part s p v) ≡ Ok new → are_onward_of p others ≡ true →
        TakesOne before new
    again others z v te h y2 n2 on2 =
        let e : ts ≡ others = cc in
        let so : So before v.world = record {
          meanwhile = k.meanwhile ++ h.events;
          trace = h.trace ∙ (ap (λ (es : Trace). es ++ h.events) k.trace ∙ append_assoc before k.meanwhile h.events);
          there = h.there ∙ k.there;
        } in
        further (with_part s p v) y2 so (subst (Seeking before x v.world) (sym (stack-set p s v l)) h.seeks)
        (ap (are_onward_of p) e ∙ on2) (ap (λ (xs : List Step). run_all xs (with_part s p v)) e ∙ n2)

    step-on : (o : Op) → stack s p ≡ [] ++ o ∷ [] → ((u : UserEnd) → accepts o u ≡ true → ⊥) →
        ((h : Hint) → Next before x s.world (onto p (act p h o s.world) [])) → TakesOne before new
    step-on o e none next = go (onward p s new [] o (t ∷ ts) e y idles on m)
      where
        go : Onward p s new [] o (t ∷ ts) → TakesOne before new
        go (answered u others te a y2 n2 on2 z) = absurd (none u a)
        go (acted h others te w y2 n2 on2 z) = again others _ (onto p (act p h o s.world) []) te (next h) y2 n2 on2

    step-steal : (o : StealOp) → stack s p ≡ [] ++ Op.Steal o ∷ [] →
        ((h : Hint) → Next before x s.world (onto p (act p h (Op.Steal o) s.world) [])) → TakesOne before new
    step-steal o e next = step-on (Op.Steal o) e (λ v a. absurd (cc)) next

    -- the run has a queue, with a free place for what it is about to put there
    has-queue : (o : StealOp) → stack s p ≡ [] ++ Op.Steal o ∷ [] → running_of x.run (Op.Steal o) ≡ 1 →
        x.run < length s.world.own
    has-queue o e u =
        let h : Enrolled s = enrolled-here s y in
        omega (
          arith,
          h.even,
          inside x.run (length s.world.runs) (λ z. omega (
            arith,
            u,
            (h.used x.run).unborn z,
            split (running_of x.run) s.parties p (Op.Steal o ∷ []) [] l e,
          )),
        )
      where
        inside : (a b : ℕ) → (b ≤ a → ⊥) → a < b
        inside a b none = ⊎_elim (λ (z : a < b). z) (λ (z : b ≤ a). absurd (none z)) (or-past a b)
          where
            or-past : (i j : ℕ) → (i < j) ⊎ (j ≤ i)
            or-past i j = grind arith

    has-place : (o : StealOp) (n : ℕ) → stack s p ≡ [] ++ Op.Steal o ∷ [] → filling_of x.run (Op.Steal o) ≡ suc n →
        nat_lt 0 (free_places s.world x.run) ≡ true
    has-place o n e u =
        let some : 1 ≤ free_places s.world x.run = omega (
          arith,
          u,
          room-here s x.run y,
          split (filling_of x.run) s.parties p (Op.Steal o ∷ []) [] l e,
        ) in grind (arith, nat_tests)

    fills : (more : ℕ) → (let n : ℕ = cond (eqb x.run x.run) (more + 1) 0 in n) ≡ suc more
    fills more = ap (λ (b : Bool). let n : ℕ = cond b (more + 1) 0 in n) (itself x.run).1
        ∙ (let z : more + 1 ≡ suc more = omega arith in z)

    by-unlock : (g : ℕ) (hs : List Op) → stack s p ≡ hs ++ Op.List ListOp.UnlockRead ∷ [] → Heading g hs →
        IsDue g before → TakesOne before new
    by-unlock g hs e z due = go (onward p s new hs (Op.List ListOp.UnlockRead) (t ∷ ts) e y idles on m)
      where
        go : Onward p s new hs (Op.List ListOp.UnlockRead) (t ∷ ts) → TakesOne before new
        go (answered u others te a y2 n2 on2 w) = absurd (cc)
        go (acted h others te w y2 n2 on2 v) =
            let d = act p h (Op.List ListOp.UnlockRead) s.world in
            let turned : Heading g (hs ++ reverse d.next) = subst (Heading g) (sym (append-nil hs)) z in
            let q : onto p d hs ≡ record { world = d.world; todo = hs ++ reverse d.next } = with-heading p g d hs turned in
            let at : Machine = with_part s p (record { world = d.world; todo = hs ++ reverse d.next }) in
            record {
              future = g;
              due = due;
              taken = from-heading p g before new idles (entry before g due) others at
                  (subst (λ (a : Part). Reached (with_part s p a)) q y2) k.meanwhile k.trace k.there
                  (subst (Heading g) (sym (stack-set p s (record { world = d.world; todo = hs ++ reverse d.next }) l)) turned)
                  on2 (sym (ap (λ (a : Part). run_all others (with_part s p a)) q) ∙ n2);
            }

    by-kind : Seeking before x s.world (stack s p) → TakesOne before new
    by-kind (locks q e o u z f) =
        step-on (Op.List (ListOp.LockRead x)) e (λ v a. absurd (cc)) (λ h. next-locks before x p q h s.world o u z f)
    by-kind (looks at left e o u z) =
        step-on (Op.Run (RunOp.LookOwn x at left)) e (λ v a. absurd (cc))
        (λ h. next-looks before x p at left s.world o u z)
    by-kind (lengths q at left e o u n z) =
        step-steal _ e (λ h. next-lengths before x p q at left s.world o u n z)
    by-kind (counts q at left n g rest e o z i due) =
        step-steal _ e
        (λ h. next-counts before x p q at left n g rest s.world (has-queue _ e (itself x.run).0) o z i due)
    by-kind (takes q at left more g rest e o z i due) =
        step-steal _ e (λ h. next-takes before x p q at left more g rest s.world o z i due)
    by-kind (puts q at left more g e o i due) =
        step-steal _ e (λ h. next-puts before x p q at left more g _ s.world
        (has-place _ more e (fills more)) (has-queue _ e (itself x.run).0) o i due)
    by-kind (more_takes q at left more g xs e o i due) =
        step-steal _ e (λ h. next-more_takes before x p q at left more g xs s.world o i due)
    by-kind (more_puts q at left more f g xs e o i due) =
        step-steal _ e (λ h. next-more_puts before x p q at left more f g xs _ s.world
        (has-place _ more e (fills more)) (has-queue _ e (itself x.run).0) o i due)
    by-kind (finds at left g xs e o due) =
        step-on (Op.Run (RunOp.LookOwn x at left)) e (λ v a. absurd (cc))
        (λ h. next-finds before x p at left g xs s.world o due)
    by-kind (unlocks g hs e z due) = by-unlock g hs e z due

  -- it has something to do
  has-todo : (w : World) (os : List Op) → Seeking before x w os → os ≡ [] → ⊥
  has-todo w os (locks q e o u z f) n = let no : _ ∷ [] ≡ [] = sym e ∙ n in absurd (cc)
  has-todo w os (looks at left e o u z) n = let no : _ ∷ [] ≡ [] = sym e ∙ n in absurd (cc)
  has-todo w os (lengths q at left e o u i z) n = let no : _ ∷ [] ≡ [] = sym e ∙ n in absurd (cc)
  has-todo w os (counts q at left j g rest e o z i due) n = let no : _ ∷ [] ≡ [] = sym e ∙ n in absurd (cc)
  has-todo w os (takes q at left more g rest e o z i due) n = let no : _ ∷ [] ≡ [] = sym e ∙ n in absurd (cc)
  has-todo w os (puts q at left more g e o i due) n = let no : _ ∷ [] ≡ [] = sym e ∙ n in absurd (cc)
  has-todo w os (more_takes q at left more g xs e o i due) n = let no : _ ∷ [] ≡ [] = sym e ∙ n in absurd (cc)
  has-todo w os (more_puts q at left more f g xs e o i due) n = let no : _ ∷ [] ≡ [] = sym e ∙ n in absurd (cc)
  has-todo w os (finds at left g xs e o due) n = let no : _ ∷ [] ≡ [] = sym e ∙ n in absurd (cc)
  has-todo w os (unlocks g hs e z due) n = not-nil hs (Op.List ListOp.UnlockRead) (sym e ∙ n)

  pub walks : (ts : List Step) (s : Machine) → Reached s → So before s.world → p < length s.parties →
      Seeking before x s.world (stack s p) → are_onward_of p ts ≡ true → run_all ts s ≡ Ok new → TakesOne before new
  walks [] s y k l h on m =
      let e : s ≡ new = cc in
      absurd (has-todo s.world (stack s p) h (ap (λ (v : Machine). stack v p) e ∙ idles))
  walks (t ∷ ts) s y k l h on m =
      by-kind t ts s y k l on m (λ v y2 k2 h2 on2 m2. walks ts v y2 k2 (party-there v h2) h2 on2 m2) h
    where
      party-there : (v : Machine) → Seeking before x v.world (stack v p) → p < length v.parties
      party-there v z = known-party v p (has-todo v.world (stack v p) z)
