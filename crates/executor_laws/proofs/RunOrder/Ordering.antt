-- For runs_take_futures_in_order.
-- So it is of what such polls take up with steps between that take nothing, of each mark; and of all where all are plain.
use Rattle.std.proofs.Common.{◌≡◌, ◌∙◌, ℕ, ◌<◌, ◌≤◌, Bool, true, false, List, [], ◌∷◌, ◌++◌, length, drop}
use Rattle.std.proofs.Common.{refl, sym, ap, subst, arith, append-nil, append_assoc, length-append}
use Rattle.std.proofs.Math.Seq.{drop-append_seam}
use Rattle.std.proofs.lemmas.List.Elements.{filter-append}
use Rattle.std.specs.Prelude.{All, Some, cond, filter, slice_get}
use Rattle.executor_parts.specs.Marks.{same_mark}
use Rattle.executor_laws.proofs.Types.{Mark, Plain, Call, Kind, Step, Begin, Event, TickOrRun}
use Rattle.executor_model.specs.{Emptiness.IsAtRest, Sound.times, Steps.Machine, Steps.run, Steps.start, Steps.step, Steps.stepped}
use Rattle.executor_model.specs.{Standing.WasCalled, Standing.polls_sleeper, Trace.has, World.World, World.mark_of, World.own_of}
use Rattle.executor_model.specs.{World.queue_of}
use Rattle.executor_model.proofs.{Steps.Marking.Entries, Steps.Reached.Reached, Steps.Reached.deep-here, Steps.Reached.good-here}
use Rattle.executor_model.proofs.{OwnQueues.OwnRunners.own-queue-has-runner, Polls.AskingExecutions.heard, Quiet.Resting.deep}
use Rattle.executor_model.proofs.{Sleepers.SleepersTellingExecutions.are_told, Steps.Lift.good}
use Rattle.executor_laws.specs.{RunOrder.GoesOnSo, RunOrder.IsBegun, RunOrder.IsPolledSo, RunOrder.KeepsAlone, RunOrder.Piece}
use Rattle.executor_laws.specs.{RunOrder.Polling, RunOrder.TakesAlone, RunOrder.TakesInOrder, RunOrder.TakesNothing, RunOrder.Within}
use Rattle.executor_laws.specs.{RunOrder.begun_by, RunOrder.behind_all, RunOrder.joined_in_all, RunOrder.joined_within, RunOrder.joins}
use Rattle.executor_laws.specs.{RunOrder.line, RunOrder.of_mark, RunOrder.taken_in_all, RunOrder.taken_within, RunOrder.Piece.between}
use Rattle.executor_laws.specs.{RunOrder.Piece.polled, RunOrder.Within.by_itself, RunOrder.Within.meanwhile, RunReach.Keeps}
use Rattle.executor_laws.proofs.{Exactness.Ticking.first-times, Keepers.KeptTrace.none-at, Placement.Placing.keeper-own}
use Rattle.executor_laws.proofs.{Reach.Reached.bonded-here, Reach.Reached.heard-here, Walks.Finding.itself, Wakeups.Queued.times-length}
use Rattle.executor_laws.proofs.{Wakeups.StandsMachine.standing, Wakeups.StandsRest.keeper-called, Wakeups.StandsRest.keeper-lives}
use Rattle.executor_laws.proofs.{Placement.OwnReady.reached-on, Reach.Marked.Grown, Reach.Marked.grown-step, Reach.Marked.mark-stays}
use Rattle.executor_laws.proofs.{Reach.Marked.there-marked, Reach.Marked.Grown.kept, Reach.Marked.Grown.one, RunOrder.SpanBeside.NoneBeside}
use Rattle.executor_laws.proofs.{RunOrder.SpanWalks.Result, RunOrder.SpanWalks.from-beginning, RunOrder.Spans.ahead}
use Rattle.executor_laws.proofs.{RunReach.KeptWalks.kept-there}
use Rattle.executor_laws.proofs.Reach.Reaching as reaching

-- a future that is there keeps its mark

abbrev Stays : World → World → Type 0
Stays w v = (f : ℕ) → f < length w.marks → (mark_of v f ≡ mark_of w f) × (f < length v.marks)

grown-stays : (w v : World) → Grown w v → Stays w v
grown-stays w v g = λ f l. (mark-stays w v f g l, longer g f l)
  where
    longer : Grown w v → (f : ℕ) → f < length w.marks → f < length v.marks
    longer (kept e) f l = omega (arith, l, ap (λ (x : Entries). length x.marks) e)
    longer (one m e k) f l = omega (arith, l, ap (λ (ms : List Mark). length ms) e, length-append w.marks (m ∷ []))

stays-and : (w v u : World) → Stays w v → Stays v u → Stays w u
stays-and w v u a b = λ f l. let x : _ = a f l in let y : _ = b f x.1 in (y.0 ∙ x.0, y.1)

stays-step : (t : Step) (s : Machine) → Stays s.world (stepped s (step s t)).world
stays-step t s = grown-stays s.world (stepped s (step s t)).world (grown-step s t)

stays-run : (ts : List Step) (s : Machine) → Stays s.world (run ts s).world
stays-run [] s = λ f l. (refl, l)
stays-run (t ∷ ts) s =
    let next : Machine = stepped s (step s t) in
    stays-and s.world next.world (run ts next).world (stays-step t s) (stays-run ts next)

stays-within : (p : ℕ) (ws : List Within) (s new : Machine) → GoesOnSo p ws s new → Stays s.world new.world
stays-within p [] s new e = subst (λ (x : Machine). Stays s.world x.world) e (λ f l. (refl, l))
stays-within p (by_itself t ∷ ws) s new k =
    let next : Machine = stepped s (step s t) in
    stays-and s.world next.world new.world (stays-step t s) (stays-within p ws next new k.2)
stays-within p (meanwhile ts ∷ ws) s new k =
    stays-and s.world (run ts s).world new.world (stays-run ts s) (stays-within p ws (run ts s) new k.2)

stays-poll : (r : ℕ) (t : Polling) (s new : Machine) → IsPolledSo r t s new → Stays s.world new.world
stays-poll r t s new k =
    stays-and s.world (begun_by r t s).world new.world (stays-step (Begin t.party (Call.PollRun r t.by)) s)
    (stays-within t.party t.within (begun_by r t s) new k.goes_on)

stays-pieces : (r : ℕ) (pieces : List Piece) (s new : Machine) → TakesAlone r pieces s new → Stays s.world new.world
stays-pieces r [] s new e = subst (λ (x : Machine). Stays s.world x.world) e (λ f l. (refl, l))
stays-pieces r (polled t ∷ ps) s new k =
    stays-and s.world k.0.world new.world (stays-poll r t s k.0 k.1) (stays-pieces r ps k.0 new k.2)
stays-pieces r (between t ∷ ps) s new k =
    let next : Machine = stepped s (step s t) in
    stays-and s.world next.world new.world (stays-step t s) (stays-pieces r ps next new k.1)

-- where a poll leads

reached-within : (p : ℕ) (ws : List Within) (s new : Machine) → Reached s → GoesOnSo p ws s new → Reached new
reached-within p [] s new y e = subst Reached e y
reached-within p (by_itself t ∷ ws) s new y k =
    reached-within p ws (stepped s (step s t)) new (reached-on s (t ∷ []) y) k.2
reached-within p (meanwhile ts ∷ ws) s new y k = reached-within p ws (run ts s) new (reached-on s ts y) k.2

behind-is : (p : ℕ) (ws : List Within) (s new : Machine) → GoesOnSo p ws s new → behind_all ws s ≡ new
behind-is p [] s new e = e
behind-is p (by_itself t ∷ ws) s new k = behind-is p ws (stepped s (step s t)) new k.2
behind-is p (meanwhile ts ∷ ws) s new k = behind-is p ws (run ts s) new k.2

-- so what stands in the executor's queues has its mark at the end
first-marked : (m : Mark) (v new : Machine) → Reached v → Stays v.world new.world → (k : Mark) (f : ℕ) (rest : List ℕ) →
    (queue_of v.world k).items ≡ f ∷ rest → same_mark m (mark_of new.world f) ≡ same_mark m k
first-marked m v new y z k f rest e =
    let x : (mark_of v.world f ≡ k) × (f < length v.world.marks) =
    there-marked v y k f (omega (arith, ap (times f) e, first-times f rest)) in
    ap (same_mark m) ((z f x.1).0 ∙ x.0)

-- one poll

module _ (m : Mark) (last : Machine) (s : Machine) (y : Reached s) (r : ℕ) (t : Polling) (new : Machine)
    (k : IsPolledSo r t s new) (later : Stays new.world last.world) (none : NoneBeside r s.world) where
  abbrev test : ℕ → Bool
  test f = same_mark m (mark_of last.world f)

  abbrev waits-in : Machine → List ℕ
  waits-in v = ahead test m (own_of v.world r) v.world

  one-poll : Result test m t.party r new (waits-in s) t.within (begun_by r t s)
  one-poll = from-beginning test m t.party r new k.ended
      (λ v y2 ws made i f xs e.
      first-marked m v last y2 (stays-and v.world new.world last.world (stays-within t.party ws v new made) later) i f xs e)
      t.by s t.within y none k.idle k.possible k.pending k.goes_on

-- lists of such polls, and what is done between

both-lines : (b : ℕ → Bool) (xs ys old next ends more later : List ℕ) → filter b xs ++ next ≡ old ++ more →
    filter b ys ++ ends ≡ next ++ later → filter b (xs ++ ys) ++ ends ≡ old ++ (more ++ later)
both-lines b xs ys old next ends more later e i =
    ap (λ (ns : List ℕ). ns ++ ends) (filter-append b xs ys)
    ∙ (append_assoc (filter b xs) (filter b ys) ends
    ∙ (ap (λ (ns : List ℕ). filter b xs ++ ns) i
    ∙ (sym (append_assoc (filter b xs) next later)
    ∙ (ap (λ (ns : List ℕ). ns ++ later) e ∙ append_assoc old more later))))

-- the line gets longer by what joins it
longer-line : (m : Mark) (r : ℕ) (last s : Machine) (t : Step) → TakesNothing t s →
    line m r last.world (stepped s (step s t)) ≡ line m r last.world s ++ joins m t s
longer-line m r last s t k =
    let xs : List ℕ = (queue_of s.world m).items in
    let next : World = (stepped s (step s t)).world in
    let more : List ℕ = (k.queues m).0 in
    let is : (queue_of next m).items ≡ xs ++ more = (k.queues m).1 in
    let joins-are : joins m t s ≡ more = ap (drop (length xs)) is ∙ drop-append_seam xs more in
    ap (λ (ns : List ℕ). of_mark m last.world ns ++ (queue_of next m).items) (k.own r)
    ∙ (ap (λ (ns : List ℕ). of_mark m last.world (own_of s.world r) ++ ns) (is ∙ ap (λ (ns : List ℕ). xs ++ ns) (sym joins-are))
    ∙ sym (append_assoc (of_mark m last.world (own_of s.world r)) xs (joins m t s)))

in-order : (m : Mark) (last : Machine) (pieces : List Piece) (s new : Machine) → Reached s → (r : ℕ) →
    NoneBeside r s.world → TakesAlone r pieces s new → Stays new.world last.world →
    of_mark m last.world (taken_in_all r pieces s) ++ line m r last.world new ≡
    line m r last.world s ++ joined_in_all m r pieces s
in-order m last [] s new y r none e z =
    ap (λ (v : Machine). line m r last.world v) (sym e) ∙ sym (append-nil (line m r last.world s))
in-order m last (polled t ∷ ps) s new y r none k z =
    let next : Machine = k.0 in
    let first : Machine = begun_by r t s in
    let is : behind_all t.within first ≡ next = behind-is t.party t.within first next k.1.goes_on in
    let later : Stays next.world last.world =
    stays-and next.world new.world last.world (stays-pieces r ps next new k.2) z in
    let now = one-poll m last s y r t next k.1 later none in
    let others = in-order m last ps next new
    (reached-within t.party t.within first next (reached-on s (Begin t.party (Call.PollRun r t.by) ∷ []) y) k.1.goes_on) r
    now.none k.2 z in
    ap (λ (v : Machine).
    of_mark m last.world (taken_within t.party t.within first ++ taken_in_all r ps v) ++ line m r last.world new) is
    ∙ (both-lines (λ f. same_mark m (mark_of last.world f)) (taken_within t.party t.within first) (taken_in_all r ps next)
    (line m r last.world s) (line m r last.world next) (line m r last.world new) (joined_within m t.within first)
    (joined_in_all m r ps next) now.is others
    ∙ ap (λ (v : Machine). line m r last.world s ++ (joined_within m t.within first ++ joined_in_all m r ps v)) (sym is))
in-order m last (between t ∷ ps) s new y r none k z =
    let next : Machine = stepped s (step s t) in
    in-order m last ps next new (reached-on s (t ∷ []) y) r (λ n i. k.0.own n ∙ none n i) k.1 z
    ∙ (ap (λ (ns : List ℕ). ns ++ joined_in_all m r ps next) (longer-line m r last s t k.0)
    ∙ append_assoc (line m r last.world s) (joins m t s) (joined_in_all m r ps next))

-- where all are plain, all have the mark

keeps-all : (b : ℕ → Bool) → ((f : ℕ) → b f ≡ true) → (xs : List ℕ) → filter b xs ≡ xs
keeps-all b k [] = refl
keeps-all b k (x ∷ xs) =
    ap (λ (c : Bool). cond c (x ∷ filter b xs) (filter b xs)) (k x) ∙ ap (λ (ns : List ℕ). x ∷ ns) (keeps-all b k xs)

module _ (s : Machine) (y : Reached s) (rest : IsAtRest s) (r : ℕ) (alone : KeepsAlone r s.world.trace) where
  none-beside : NoneBeside r s.world
  none-beside n i = by (own_of s.world n) refl
    where
      by : (xs : List ℕ) → own_of s.world n ≡ xs → own_of s.world n ≡ []
      by [] e = e
      by (g ∷ xs) e = absurd (i (alone n g (kept-there s y rest n g (omega (arith, ap (times g) e, first-times g xs)))))

  by-mark : (m : Mark) (pieces : List Piece) (new : Machine) → TakesAlone r pieces s new →
      of_mark m new.world (taken_in_all r pieces s) ++ line m r new.world new ≡ line m r new.world s ++ joined_in_all m r pieces s
  by-mark m pieces new k = in-order m new pieces s new y r none-beside k (λ f l. (refl, l))

  all-plain : (pieces : List Piece) (new : Machine) → TakesAlone r pieces s new →
      All (λ m. m ≡ Plain) new.world.marks →
      taken_in_all r pieces s ++ (own_of new.world r ++ (queue_of new.world Plain).items) ≡
      (own_of s.world r ++ (queue_of s.world Plain).items) ++ joined_in_all Plain r pieces s
  all-plain pieces new k plain =
      let all : (xs : List ℕ) → of_mark Plain new.world xs ≡ xs =
      keeps-all (λ f. same_mark Plain (mark_of new.world f))
      (λ f. ap (same_mark Plain) (reaching.mark-plain new.world.marks plain f)) in
      ap (λ (xs : List ℕ). xs ++ (own_of new.world r ++ (queue_of new.world Plain).items)) (sym (all (taken_in_all r pieces s)))
      ∙ (ap (λ (xs : List ℕ). of_mark Plain new.world (taken_in_all r pieces s) ++ (xs ++ (queue_of new.world Plain).items))
      (sym (all (own_of new.world r)))
      ∙ (by-mark Plain pieces new k
      ∙ ap (λ (xs : List ℕ). (xs ++ (queue_of s.world Plain).items) ++ joined_in_all Plain r pieces s) (all (own_of s.world r))))

-- what a run keeps it keeps since it was polled, and until it is dropped

module _ (limit : ℕ) (kind : Kind) (parties : ℕ) (steps : List Step) where
  abbrev now : Machine
  now = run steps (start limit kind parties)

  reached : Reached now
  reached = record { limit = limit; kind = kind; parties = parties; steps = steps; is = refl }

  begun : IsAtRest now → (q f : ℕ) → Keeps q f now.world.trace → IsBegun q now.world.trace
  begun rest q f k =
      let stands : 1 ≤ times f (own_of now.world q) =
      keeper-own now (good-here now reached) (heard-here now reached) (deep-here now reached) (bonded-here now reached) rest f q
      k.due k.keeper in
      let some : 1 ≤ length (own_of now.world q) = omega (arith, stands, times-length f (own_of now.world q)) in
      let called : WasCalled (TickOrRun.Run q) now.world.trace =
      keeper-called now (good limit kind parties steps) (heard limit kind parties steps) (deep limit kind parties steps)
      (are_told limit kind parties steps) (own-queue-has-runner limit kind parties steps) (standing limit kind parties steps)
      rest.quiet q some in
      record {
        polled = by called.party called.poll called.polled.polled (has (polls_sleeper (TickOrRun.Run q)) now.world.trace) refl;
        there = keeper-lives now (good limit kind parties steps) (heard limit kind parties steps)
            (deep limit kind parties steps) (are_told limit kind parties steps)
            (own-queue-has-runner limit kind parties steps) (standing limit kind parties steps) rest.quiet q some;
      }
    where
      by : (party place : ℕ) → slice_get now.world.trace place ≡ Some (Event.RunPolled party q) → (b : Bool) →
          has (polls_sleeper (TickOrRun.Run q)) now.world.trace ≡ b →
          has (polls_sleeper (TickOrRun.Run q)) now.world.trace ≡ true
      by party place e true h = h
      by party place e false h =
          let no : true ≡ false = sym (itself q).1
          ∙ none-at (polls_sleeper (TickOrRun.Run q)) now.world.trace place (Event.RunPolled party q) h e in absurd (cc)

pub takes-in-order : (limit : ℕ) (kind : Kind) (parties : ℕ) (steps : List Step) →
    TakesInOrder (run steps (start limit kind parties))
takes-in-order limit kind parties steps =
    let s : Machine = run steps (start limit kind parties) in
    let y : Reached s = reached limit kind parties steps in record {
      only = λ rest r only q f k. only q (begun limit kind parties steps rest q f k);
      by_mark = λ rest r alone m pieces new k. by-mark s y rest r alone m pieces new k;
      plain = λ rest r alone pieces new k plain. all-plain s y rest r alone pieces new k plain;
    }
