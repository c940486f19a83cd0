-- For runs_reach_futures, kept_futures_are_in_reach and dropped_runs_leave_common_futures.
-- A poll of a run that is made alone takes a future that the run keeps, or else one that is common.
use Rattle.std.proofs.Common.{◌≡◌, ◌∙◌, inl, inr, ⊎_elim, ℕ, ◌<◌, ◌≤◌, List, [], ◌∷◌, ◌++◌, length, drop}
use Rattle.std.proofs.Common.{true, false, ltb, refl, sym, ap, subst, arith, append-nil, append_assoc, Ok}
use Rattle.std.proofs.lemmas.Bool.Decides.{nat_tests}
use Rattle.std.proofs.Math.Seq.{drop-append_seam}
use Rattle.std.specs.Prelude.{Some, None, reverse}
use Rattle.executor_parts.specs.Marks.{first_of, other}
use Rattle.executor_laws.proofs.Types.{Mark, By, Call, Answer, Event, Kind, Look, Op, RunOp, RunPoll, Common, StealOp, Then, TickOp, Step}
use Rattle.executor_laws.proofs.Types.{Begin, UserEnd}
use Rattle.executor_model.specs.{Acts.mark_in, Acts.turned, ActsOfRuns.asleep, ActsOfRuns.search_common_by, ActsOfRuns.search_own_by}
use Rattle.executor_model.specs.{Due.IsDue, Emptiness.IsAtRest, Keeper.IsCommon, Executions.run_all, Queues.Queues, Queues.queue_in}
use Rattle.executor_model.specs.{Sound.queued, Sound.times, Steps.Machine, Steps.Part, Steps.after, Steps.onto, Steps.part}
use Rattle.executor_model.specs.{Steps.part_after, Steps.poll_run, Steps.run, Steps.stack, Steps.start, Steps.waker_of, Steps.with_part}
use Rattle.executor_model.specs.{Trace.Trace, Trace.has, World.Done, World.Ended, World.Listed, World.New, World.Stage, World.World}
use Rattle.executor_model.specs.{World.done, World.log, World.own_of, World.put_own, World.queue_of, World.run_of}
use Rattle.executor_model.proofs.Quiet.Resting.{rests}
use Rattle.executor_model.proofs.Steps.Reached.{Reached, deep-here, good-here, reached-more, reached-step, run-first}
use Rattle.executor_laws.specs.LoneEnds.{are_onward_of, is_onward_of}
use Rattle.executor_laws.specs.Reach.{since, takes}
use Rattle.executor_laws.specs.RunReach.{IsLonePoll, IsReachedByRuns, Keeps, TakesKept, TakesOneCommon, first_answer}
use Rattle.executor_laws.proofs.Reach.LoneTicks.{idle-none, in-range, left-true, of-party, stack-set}
use Rattle.executor_laws.proofs.Reach.Reached.{bonded-here, heard-here}
use Rattle.executor_laws.proofs.Placement.Placing.{here, idle, in-own, keeper-own, own-keeper, queued-due}
use Rattle.executor_laws.proofs.RunReach.RunFinds.{Heading, Heads, heads-found}
use Rattle.executor_laws.proofs.RunReach.RunFinds.Heading.{stealing}
use Rattle.executor_laws.proofs.RunReach.RunWalks.{Onward, Taken, from-heading, onward, with-heading}
use Rattle.executor_laws.proofs.RunReach.RunWalks.Onward.{acted, answered}
use Rattle.executor_laws.proofs.Reach.Spots.{Spot}
use Rattle.executor_laws.proofs.Exactness.Ticking.{first-times}
use Rattle.executor_laws.proofs.Reach.Reaching.{common-spot, spot-common}
use Rattle.executor_laws.proofs.RunReach.RunArrives.{Arrived, At, Before, at-lock, at-own, entry}

-- what the run finds first
pub data First (f : ℕ) (own : List ℕ) (base : World) : Type 0 where
  in_own : (rest : List ℕ) → own ≡ f ∷ rest → First f own base
  in_common : own ≡ [] → (x : Spot base) → x.future ≡ f → First f own base

-- what stays of the queues and the turns
same-spot : (w v : World) → v.queues ≡ w.queues → v.urgent_turns ≡ w.urgent_turns → (x : Spot w) →
    (y : Spot v) × (y.future ≡ x.future)
same-spot w v q t x = (
  record {
    mark = x.mark;
    future = x.future;
    rest = x.rest;
    is = ap (λ (qs : Queues). (queue_in x.mark qs).items) q ∙ x.is;
    turn = ⊎_elim
        (λ (e : x.mark ≡ first_of w.urgent_turns). inl (e ∙ ap first_of (sym t)))
        (λ (e : (x.mark ≡ other (first_of w.urgent_turns)) × ((queue_of w (first_of w.urgent_turns)).items ≡ [])). inr (
          e.0 ∙ ap (λ (n : ℕ). other (first_of n)) (sym t),
          ap (λ (n : ℕ). (queue_of v (first_of n)).items) t
              ∙ (ap (λ (qs : Queues). (queue_in (first_of w.urgent_turns) qs).items) q ∙ e.1),
        ))
        x.turn;
  },
  refl,
)

module _ (p f : ℕ) (before : Trace) (due : IsDue f before) (x : RunPoll) (new : Machine) (idles : stack new p ≡ []) where
  -- the run has it in hand
  from-found : (s : Machine) (d : Done) (others : List Step) (meanwhile : Trace) → s.world.trace ≡ before ++ meanwhile →
      s.world.gone ≡ false → Heads f s.world.trace s.world.gone d →
      Reached (with_part s p (onto p d [])) → run_all others (with_part s p (onto p d [])) ≡ Ok new →
      are_onward_of p others ≡ true → p < length s.parties → Taken f before new.world.trace
  from-found s d others meanwhile t there h y n on l =
      let q : onto p d [] ≡ part d.world (reverse d.next) = with-heading p f d [] h.heading in
      from-heading p f before new idles (entry before f due) others (with_part s p (part d.world (reverse d.next)))
      (subst (λ (z : Part). Reached (with_part s p z)) q y) (meanwhile ++ h.events)
      (h.trace ∙ (ap (λ (es : Trace). es ++ h.events) t ∙ append_assoc before meanwhile h.events))
      (h.there ∙ there)
      (subst (Heading f) (sym (stack-set p s (part d.world (reverse d.next)) l)) h.heading) on
      (sym (ap (λ (z : Part). run_all others (with_part s p z)) q) ∙ n)

  -- it has this to do, after it searched in its own queue
  record On (o : Op) (ts : List Step) (s : Machine) : Type 0 where
    reached : Reached s
    meanwhile : Trace
    trace : s.world.trace ≡ before ++ meanwhile
    there : s.world.gone ≡ false
    todo : stack s p ≡ o ∷ []
    onward : are_onward_of p ts ≡ true
    made : run_all ts s ≡ Ok new

  -- it looks at a queue in which f is first
  at-look : (s : Machine) (look : Look) (rest : List ℕ) → (queue_of s.world (mark_in look)).items ≡ f ∷ rest →
      (ts : List Step) → On (Op.Run (RunOp.SearchCommon x look)) ts s → Taken f before new.world.trace
  at-look s look rest e ts a =
      go (onward p s new [] (Op.Run (RunOp.SearchCommon x look)) ts a.todo a.reached idles a.onward a.made)
    where
      by : (items : List ℕ) → items ≡ f ∷ rest → Heads f s.world.trace s.world.gone (search_common_by items s.world x look)
      by items z = subst (λ (ys : List ℕ). Heads f s.world.trace s.world.gone (search_common_by ys s.world x look)) (sym z)
          (record {
            heading = stealing (StealOp.Length (record { poll = x; from = Common (mark_in look); then = Then.Found f })) []
                refl refl refl;
            events = [];
            trace = sym (append-nil s.world.trace);
            there = refl;
          })

      go : Onward p s new [] (Op.Run (RunOp.SearchCommon x look)) ts → Taken f before new.world.trace
      go (answered u others te z y n2 on2 l) = absurd (cc)
      go (acted h others te z y n2 on2 l) =
          from-found s (search_common_by (queue_of s.world (mark_in look)).items s.world x look) others a.meanwhile a.trace
          a.there (by (queue_of s.world (mark_in look)).items e) y n2 on2 l

  -- it looks at one that is empty, and then at the other one, in which f is first
  at-both : (s : Machine) (m : Mark) (rest : List ℕ) → (queue_of s.world m).items ≡ [] →
      (queue_of s.world (other m)).items ≡ f ∷ rest → (ts : List Step) →
      On (Op.Run (RunOp.SearchCommon x (Look.First m))) ts s → Taken f before new.world.trace
  at-both s m rest none e ts a =
      go (onward p s new [] (Op.Run (RunOp.SearchCommon x (Look.First m))) ts a.todo a.reached idles a.onward a.made)
    where
      next : Part
      next = part s.world (Op.Run (RunOp.SearchCommon x (Look.Second (other m))) ∷ [])

      go : Onward p s new [] (Op.Run (RunOp.SearchCommon x (Look.First m))) ts → Taken f before new.world.trace
      go (answered u others te z y n2 on2 l) = absurd (cc)
      go (acted h others te z y n2 on2 l) =
          let q : search_common_by (queue_of s.world m).items s.world x (Look.First m)
          ≡ done s.world (Op.Run (RunOp.SearchCommon x (Look.Second (other m))) ∷ []) =
          ap (λ (ys : List ℕ). search_common_by ys s.world x (Look.First m)) none in
          at-look (with_part s p next) (Look.Second (other m)) rest e others (record {
            reached = subst (λ (d : Done). Reached (with_part s p (onto p d []))) q y;
            meanwhile = a.meanwhile;
            trace = a.trace;
            there = a.there;
            todo = stack-set p s next l;
            onward = on2;
            made = sym (ap (λ (d : Done). run_all others (with_part s p (onto p d []))) q) ∙ n2;
          })

  -- it takes its turn
  at-turn : (s : Machine) (y : Spot s.world) → y.future ≡ f → (ts : List Step) → On (Op.Run (RunOp.TakeTurn x)) ts s →
      Taken f before new.world.trace
  at-turn s y e ts a =
      go (onward p s new [] (Op.Run (RunOp.TakeTurn x)) ts a.todo a.reached idles a.onward a.made)
    where
      go : Onward p s new [] (Op.Run (RunOp.TakeTurn x)) ts → Taken f before new.world.trace
      go (answered u others te z y2 n2 on2 l) = absurd (cc)
      go (acted h others te z y2 n2 on2 l) =
          let next : Part =
          part (turned p s.world) (Op.Run (RunOp.SearchCommon x (Look.First (first_of s.world.urgent_turns))) ∷ []) in
          let o : On (Op.Run (RunOp.SearchCommon x (Look.First (first_of s.world.urgent_turns)))) others
          (with_part s p next) = record {
            reached = y2;
            meanwhile = a.meanwhile ++ Event.Looked p (first_of s.world.urgent_turns) ∷ [];
            trace = ap (λ (es : Trace). es ++ Event.Looked p (first_of s.world.urgent_turns) ∷ []) a.trace
                ∙ append_assoc before a.meanwhile (Event.Looked p (first_of s.world.urgent_turns) ∷ []);
            there = a.there;
            todo = stack-set p s next l;
            onward = on2;
            made = n2;
          } in
          let here : (queue_of s.world y.mark).items ≡ f ∷ y.rest = y.is ∙ ap (λ (g : ℕ). g ∷ y.rest) e in
          ⊎_elim
          (λ (i : y.mark ≡ first_of s.world.urgent_turns).
          at-look (with_part s p next) (Look.First (first_of s.world.urgent_turns)) y.rest
          (subst (λ (m : Mark). (queue_of s.world m).items ≡ f ∷ y.rest) i here) others o)
          (λ (i : (y.mark ≡ other (first_of s.world.urgent_turns))
          × ((queue_of s.world (first_of s.world.urgent_turns)).items ≡ [])).
          at-both (with_part s p next) (first_of s.world.urgent_turns) y.rest i.1
          (subst (λ (m : Mark). (queue_of s.world m).items ≡ f ∷ y.rest) i.0 here) others o)
          y.turn

  module _ (own : List ℕ) (base : World) (first : First f own base) where
    pub at-search : (s : Machine) → At p before x own base new idles (Op.Tick (TickOp.Search (asleep x)) ∷ []) s →
        (ts : List Step) → are_onward_of p ts ≡ true → run_all ts s ≡ Ok new → Taken f before new.world.trace
    at-search s a ts on n =
        go (onward p s new [] (Op.Tick (TickOp.Search (asleep x))) ts a.todo a.reached idles on n)
      where
        by-first : (others : List Step) → Reached (with_part s p (onto p (search_own_by own s.world x) [])) →
            run_all others (with_part s p (onto p (search_own_by own s.world x) [])) ≡ Ok new →
            are_onward_of p others ≡ true → p < length s.parties → First f own base → Taken f before new.world.trace
        by-first others y n2 on2 l (in_own rest e) =
            from-found s (search_own_by own s.world x) others a.so_far.meanwhile a.so_far.trace a.so_far.there
            (subst (λ (ys : List ℕ). Heads f s.world.trace s.world.gone (search_own_by ys s.world x)) (sym e)
            (heads-found f (put_own s.world x.run rest) x)) y n2 on2 l
        by-first others y n2 on2 l (in_common e spot i) =
            let q : search_own_by own s.world x ≡ done s.world (Op.Run (RunOp.TakeTurn x) ∷ []) =
            ap (λ (ys : List ℕ). search_own_by ys s.world x) e in
            let found-there : (v : Spot s.world) × (v.future ≡ spot.future) =
            same-spot base s.world a.so_far.common_is a.so_far.turn_is spot in
            at-turn (with_part s p (part s.world (Op.Run (RunOp.TakeTurn x) ∷ []))) found-there.0 (found-there.1 ∙ i) others
            (record {
              reached = subst (λ (d : Done). Reached (with_part s p (onto p d []))) q y;
              meanwhile = a.so_far.meanwhile;
              trace = a.so_far.trace;
              there = a.so_far.there;
              todo = stack-set p s (part s.world (Op.Run (RunOp.TakeTurn x) ∷ [])) l;
              onward = on2;
              made = sym (ap (λ (d : Done). run_all others (with_part s p (onto p d []))) q) ∙ n2;
            })

        go : Onward p s new [] (Op.Tick (TickOp.Search (asleep x))) ts → Taken f before new.world.trace
        go (answered u others te z y n2 on2 l) = absurd (cc)
        go (acted h others te z y n2 on2 l) =
            by-first others
            (subst (λ (ys : List ℕ). Reached (with_part s p (onto p (search_own_by ys s.world x) []))) a.so_far.own_is y)
            (sym (ap (λ (ys : List ℕ). run_all others (with_part s p (onto p (search_own_by ys s.world x) [])))
            a.so_far.own_is) ∙ n2) on2 l first

module _ (s : Machine) (r : Reached s) (rest : IsAtRest s) (n p : ℕ) (b : By) (steps : List Step) (new : Machine)
    (k : IsLonePoll p n b steps s new) where
  idles : (q : ℕ) → stack s q ≡ []
  idles q = idle s (good-here s r) (heard-here s r) (deep-here s r) (bonded-here s r) rest q

  pub reached-new : Reached new
  reached-new = reached-more (Begin p (Call.PollRun n b) ∷ steps) s new r k.call.made

  pub new-idle : stack new p ≡ []
  new-idle = rests new (deep-here new reached-new) k.call.ended p

  in-parties : p < length s.parties
  in-parties = let z : ltb p (length s.parties) ≡ true =
      (in-range _ _ (run-first (Begin p (Call.PollRun n b)) steps s new k.call.made).0).0 in
      grind (arith, nat_tests)

  abbrev told : Trace
  told = Event.CallBegun p (Call.PollRun n b) ∷ Event.RunPolled p n ∷ []

  abbrev beginning : World
  beginning = log (log s.world (Event.CallBegun p (Call.PollRun n b))) (Event.RunPolled p n)

  abbrev pub poll : RunPoll
  poll = record {
    run = n;
    waker = waker_of None b;
    poll = length (s.world.trace ++ Event.CallBegun p (Call.PollRun n b) ∷ []);
  }

  abbrev begun-as : Stage → Part
  begun-as st = onto p (done beginning (poll_run st poll)) []

  abbrev from-stage : Stage → Machine
  from-stage st = with_part s p (begun-as st)

  pub first-is : after s (Begin p (Call.PollRun n b)) ≡ from-stage (run_of s.world n).stage
  first-is = ap (λ (os : List Op). with_part s p (part_after s.world os (Begin p (Call.PollRun n b)))) (idles p)

  on-begun : run_all steps (from-stage (run_of s.world n).stage) ≡ Ok new
  on-begun = sym (ap (λ (os : List Op). run_all steps
      (with_part s p (part_after s.world os (Begin p (Call.PollRun n b))))) (idles p))
      ∙ (run-first (Begin p (Call.PollRun n b)) steps s new k.call.made).1

  reached-begun : Reached (from-stage (run_of s.world n).stage)
  reached-begun = subst (λ (os : List Op). Reached (with_part s p (part_after s.world os (Begin p (Call.PollRun n b)))))
      (idles p)
      (reached-step s (Begin p (Call.PollRun n b))
      (run-first (Begin p (Call.PollRun n b)) steps s new k.call.made).0 r)

  trace-is : beginning.trace ≡ s.world.trace ++ told
  trace-is = append_assoc s.world.trace (Event.CallBegun p (Call.PollRun n b) ∷ []) (Event.RunPolled p n ∷ [])

  abbrev pub first-machine : Machine
  first-machine = from-stage (run_of s.world n).stage

  pub arrived : Arrived p s.world.trace poll (own_of s.world n) s.world new new-idle steps first-machine
  arrived = by (run_of s.world n).stage refl
    where
      still : Before p s.world.trace poll (own_of s.world n) s.world new new-idle beginning
      still = record {
        own_is = refl;
        common_is = refl;
        turn_is = refl;
        meanwhile = told;
        trace = trace-is;
        calm = refl;
        unturned = refl;
        there = here s (good-here s r) (heard-here s r) (deep-here s r) (bonded-here s r) rest;
      }

      by : (st : Stage) → (run_of s.world n).stage ≡ st →
          Arrived p s.world.trace poll (own_of s.world n) s.world new new-idle steps (from-stage st)
      by New e = at-lock p s.world.trace poll (own_of s.world n) s.world new new-idle
          (from-stage New) (record {
            reached = subst (λ (z : Stage). Reached (from-stage z)) e reached-begun;
            so_far = still;
            todo = stack-set p s (begun-as New) in-parties;
          }) steps k.pending k.call.alone
          (sym (ap (λ (z : Stage). run_all steps (from-stage z)) e) ∙ on-begun)
      by Listed e = at-own p s.world.trace poll (own_of s.world n) s.world new new-idle
          (from-stage Listed) (record {
            reached = subst (λ (z : Stage). Reached (from-stage z)) e reached-begun;
            so_far = still;
            todo = stack-set p s (begun-as Listed) in-parties;
          }) steps k.pending k.call.alone
          (sym (ap (λ (z : Stage). run_all steps (from-stage z)) e) ∙ on-begun)
      by Ended e = absurd (over p steps (from-stage Ended) new (stack-set p s (begun-as Ended) in-parties) k.call.alone
          (sym (ap (λ (z : Stage). run_all steps (from-stage z)) e) ∙ on-begun) k.pending)
        where
          over : (q : ℕ) (ts : List Step) (m last : Machine) → stack m q ≡ [] → are_onward_of q ts ≡ true →
              run_all ts m ≡ Ok last → first_answer ts ≡ Some (UserEnd.Polled Answer.Pending) → ⊥
          over q [] m last z on e2 c = absurd (cc)
          over q (t ∷ ts) m last z on e2 c =
              let first : is_onward_of q t ≡ true = (left-true (is_onward_of q t) (are_onward_of q ts) on).0 in
              idle-none q t m.world m.parties (stack m q) z first
              (of-party q m t first (run-first t ts m last e2).0).2

  pub takes-first : (f : ℕ) → IsDue f s.world.trace → First f (own_of s.world n) s.world →
      Taken f s.world.trace new.world.trace
  takes-first f due first =
      at-search p f s.world.trace due poll new new-idle (own_of s.world n) s.world first arrived.machine
      arrived.here arrived.others arrived.onward arrived.made

  -- in the words of what happened between
  pub taken-since : (f : ℕ) → Taken f s.world.trace new.world.trace → has (takes f) (since s new) ≡ true
  taken-since f t = ap (λ (es : Trace). has (takes f) (drop (length s.world.trace) es)) t.is
      ∙ (ap (has (takes f)) (drop-append_seam s.world.trace t.events) ∙ t.taken)

  pub is-due : (f : ℕ) → 1 ≤ queued s.world f → IsDue f s.world.trace
  is-due f z = queued-due s (good-here s r) (heard-here s r) (deep-here s r) (bonded-here s r) rest f z

  takes-kept : (f : ℕ) → Keeps n f s.world.trace → TakesKept n s new
  takes-kept f y = by (own_of s.world n) refl
    where
      by : (own : List ℕ) → own_of s.world n ≡ own → TakesKept n s new
      by [] e = absurd (omega (
        arith,
        keeper-own s (good-here s r) (heard-here s r) (deep-here s r) (bonded-here s r) rest f n y.due y.keeper,
        ap (times f) e,
      ))
      by (g ∷ xs) e =
          let one : 1 ≤ times g (own_of s.world n) =
          subst (λ (ys : List ℕ). 1 ≤ times g ys) (sym e) (first-times g xs) in
          let due : IsDue g s.world.trace = is-due g (omega (
            arith,
            one,
            in-own s (good-here s r) (heard-here s r) (deep-here s r) (bonded-here s r) rest g n,
          )) in
          record {
            future = g;
            kept = record {
              due = due;
              keeper = own-keeper s (good-here s r) (heard-here s r) (deep-here s r) (bonded-here s r) rest g n one;
            };
            taken = taken-since g (takes-first g due (in_own xs e));
          }

  takes-common : (f : ℕ) → IsCommon f s.world.trace → ((g : ℕ) → ¬ Keeps n g s.world.trace) → TakesOneCommon s new
  takes-common f c none = by (own_of s.world n) refl
    where
      by : (own : List ℕ) → own_of s.world n ≡ own → TakesOneCommon s new
      by (g ∷ xs) e =
          let one : 1 ≤ times g (own_of s.world n) =
          subst (λ (ys : List ℕ). 1 ≤ times g ys) (sym e) (first-times g xs) in
          let due : IsDue g s.world.trace = is-due g (omega (
            arith,
            one,
            in-own s (good-here s r) (heard-here s r) (deep-here s r) (bonded-here s r) rest g n,
          )) in
          absurd (none g (record {
            due = due;
            keeper = own-keeper s (good-here s r) (heard-here s r) (deep-here s r) (bonded-here s r) rest g n one;
          }))
      by [] e =
          let x : Spot s.world = common-spot s r rest f c in
          let there : IsCommon x.future s.world.trace = spot-common s r rest x in
          record {
            future = x.future;
            common = there;
            taken = taken-since x.future (takes-first x.future there.due (in_common e x refl));
          }

by-runs : (s : Machine) → Reached s → IsReachedByRuns s
by-runs s y = record {
  kept = λ rest r f z p b steps new k. takes-kept s y rest r p b steps new k f z;
  common = λ rest r f c none p b steps new k. takes-common s y rest r p b steps new k f c none;
}

pub reached-by-runs : (limit : ℕ) (kind : Kind) (parties : ℕ) (steps : List Step) → IsReachedByRuns (run steps (start limit kind parties))
reached-by-runs limit kind parties steps =
    by-runs (run steps (start limit kind parties)) (record { limit = limit; kind = kind; parties = parties; steps = steps; is = refl })
