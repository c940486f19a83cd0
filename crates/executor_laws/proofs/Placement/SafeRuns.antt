-- For due_futures_stand_with_their_keepers.
-- What a run does keeps a future away from the executor's queue, but for what it schedules.
use Rattle.std.proofs.Common.{◌≡◌, ℕ, zero, suc, List, [], ◌∷◌, length, Bool, true, false, refl, sym, ap, subst, get_or, arith}
use Rattle.executor_parts.specs.Marks.{first_of}
use Rattle.executor_laws.proofs.Types.{TickOp, Hint, First, State, ListOp, Op, RunOp, RunPoll, Section, TickOrRun, Sleeping}
use Rattle.executor_model.specs.World.{queue_of, World, Done, blank, own_of}
use Rattle.executor_model.specs.Doing.{list_act, run_act, steal_act}
use Rattle.executor_model.specs.{Acts.mark_in, ActsOfRuns.wake_own, Rows.appends_of, Weights.weigh}
use Rattle.executor_model.proofs.Steps.RunsNext.{BlindToRuns, common-blind, list-blind, look-blind, more-blind, room-blind}
use Rattle.executor_model.proofs.Steps.RunsPlain.{AllPlain, plain-after-common, plain-after-list, plain-after-look}
use Rattle.executor_model.proofs.Steps.RunsMoves.{moves-common, moves-length, moves-list, moves-look, moves-make_room}
use Rattle.executor_model.proofs.Awaiters.RunsQueue.{queue-list, queue-look, queue-put, queue-room, takes-common, takes-search}
use Rattle.executor_model.proofs.Steps.RunsNext.{search_run-blind, stolen-blind}
use Rattle.executor_model.proofs.Steps.RunsPlain.{plain-after-call, plain-after-room, plain-after-search, plain-after-steal}
use Rattle.executor_model.proofs.Steps.RunsMoves.{moves-own, moves-own_length, moves-take}
use Rattle.executor_model.proofs.{Awaiters.RunsQueue.takes-steal, Steps.RunsCounting.Bare, Steps.RunsCounting.bare}
use Rattle.executor_laws.proofs.Placement.RunsFewer.{Fewer, fewer, untouched}
use Rattle.executor_laws.proofs.{Types.Steal, Types.StealOp, Placement.Safe.KeepsSafe}
use Rattle.executor_model.specs.ActsOfRuns as runs

abbrev pub is_put : StealOp → Bool
is_put (StealOp.Put s more f) = true
is_put _ = false

abbrev pub is_reschedule : RunOp → Bool
is_reschedule (RunOp.Reschedule r a) = true
is_reschedule _ = false

blind-appends : (g : ℕ) → BlindToRuns (appends_of g)
blind-appends g = record {
  exchange = refl;
  search = λ s. refl;
  copy = λ s. refl;
  up = λ who. refl;
  made = λ r. refl;
  take_up = λ f. refl;
  steal = by_steal;
  list = by_list;
  run = by_run;
  poll = λ x. refl;
  end = λ a r. refl;
}
  where
    by_steal : (o : StealOp) → appends_of g (Op.Steal o) ≡ 0
    by_steal (StealOp.Length s) = refl
    by_steal _ = refl

    by_section : (s : Section) → appends_of g (Op.List (ListOp.Write s)) ≡ 0
    by_section Section.MakeRun = refl
    by_section (Section.Register x) = refl
    by_section (Section.Unregister r a) = refl

    by_list : (o : ListOp) → appends_of g (Op.List o) ≡ 0
    by_list (ListOp.LockWrite s) = by_section s
    by_list (ListOp.Write s) = by_section s
    by_list _ = refl

    by_run : (o : RunOp) → appends_of g (Op.Run o) ≡ 0
    by_run RunOp.MakeRoom = refl
    by_run _ = refl

-- where the tasks stay and nothing comes into the queue
safe-fewer : (w : World) (old : List Op) (d : Done) → Fewer w d.world → d.world.tasks ≡ w.tasks →
    ((g : ℕ) → weigh (appends_of g) d.next ≡ 0) → AllPlain d.next → KeepsSafe w old d
safe-fewer w old d k e z y g r n bb h = let b : Bare g d.next = bare g d.next y in record {
  none = omega (arith, z g, h.none);
  queued = omega (arith, k.items g, h.queued);
  resting = omega (arith, h.resting, b.polls, b.ending);
  marked = subst
      (λ (x : State). x.closed ≡ false → x.completed ≡ false → (x.scheduled ≡ true) × (x.running ≡ false))
      (ap (λ (ts : List State). get_or ts g blank) (sym e)) h.marked;
}

appends-length : (g n : ℕ) (w : World) (s : Steal) → weigh (appends_of g) (runs.steal_length_by n w s).next ≡ 0
appends-length g zero w s = stolen-blind (appends_of g) (blind-appends g) s.then w s.poll
appends-length g (suc n) w s = refl

appends-take : (g : ℕ) (q : List ℕ) (w : World) (s : Steal) (more : ℕ) →
    weigh (appends_of g) (runs.steal_take_by q w s more).next ≡ 0
appends-take g [] w s more = stolen-blind (appends_of g) (blind-appends g) s.then w s.poll
appends-take g (f ∷ rest) w s more = refl

pub safe-steal : (p : ℕ) (o : StealOp) (w : World) → is_put o ≡ false → KeepsSafe w (Op.Steal o ∷ []) (steal_act p o w)
safe-steal p (StealOp.Length s) w e =
    let o = StealOp.Length s in
    safe-fewer w (Op.Steal o ∷ []) (steal_act p o w) (fewer w _ (takes-steal p o w))
    (moves-length (length (runs.source_of w s.from)) w s).same.tasks (λ g. appends-length g _ w s)
    (plain-after-steal p o w)
safe-steal p (StealOp.OwnLength s n) w e =
    let o = StealOp.OwnLength s n in
    safe-fewer w (Op.Steal o ∷ []) (steal_act p o w) (fewer w _ (takes-steal p o w))
    (moves-own_length (runs.share n (runs.free_places w s.poll.run)) n w s).same.tasks
    (λ g. more-blind (appends_of g) (blind-appends g) (runs.share n (runs.free_places w s.poll.run)) w s)
    (plain-after-steal p o w)
safe-steal p (StealOp.Take s more) w e =
    let o = StealOp.Take s more in
    safe-fewer w (Op.Steal o ∷ []) (steal_act p o w) (fewer w _ (takes-steal p o w))
    (moves-take s.from (runs.source_of w s.from) w s.poll s.then more refl).same.tasks
    (λ g. appends-take g (runs.source_of w s.from) w s more) (plain-after-steal p o w)
safe-steal p (StealOp.Put s more f) w e = absurd (cc)

-- what comes into a run's own queue was in hand
pub safe-put : (p : ℕ) (s : Steal) (more f : ℕ) (w : World) →
    KeepsSafe w (Op.Steal (StealOp.Put s more f) ∷ []) (runs.steal_by more (runs.kept_by p w s.poll.run f) s)
safe-put p s more f w =
    let v = runs.kept_by p w s.poll.run f in
    let d = runs.steal_by more v s in
    safe-fewer w (Op.Steal (StealOp.Put s more f) ∷ []) d (untouched w d.world (queue-put true p w s more f))
    (moves-own_length more 0 v s).same.tasks (λ g. more-blind (appends_of g) (blind-appends g) more v s)
    (plain-after-call p w s more f)

pub safe-list : (h : Hint) (o : ListOp) (w : World) → KeepsSafe w (Op.List o ∷ []) (list_act h o w)
safe-list h o w =
    safe-fewer w (Op.List o ∷ []) (list_act h o w) (untouched w (list_act h o w).world (queue-list h o w))
    (moves-list h o w).same.tasks (λ g. list-blind (appends_of g) (blind-appends g) h o w) (plain-after-list h o w)

-- a run looks at its own queue
pub safe-search_own : (w : World) (s : Sleeping) (r : ℕ) → s.who ≡ TickOrRun.Run r →
    KeepsSafe w (Op.Tick (TickOp.Search s) ∷ [])
    (runs.search_own w (record { run = r; waker = s.waker; poll = s.poll }))
safe-search_own w s r e =
    let x : RunPoll = record { run = r; waker = s.waker; poll = s.poll } in
    safe-fewer w (Op.Tick (TickOp.Search s) ∷ []) (runs.search_own w x) (fewer w _ (takes-search w x))
    (moves-own (own_of w r) w s r e refl).same.tasks (λ g. search_run-blind (appends_of g) (blind-appends g) w x)
    (plain-after-search w x)

-- what calls no waker, and hands nothing on
abbrev pub Stays : RunOp → Type 0
Stays (RunOp.WakeOwn x) = ⊥
Stays (RunOp.Reschedule t a) = ⊥
Stays _ = Unit {0}

pub safe-run : (p : ℕ) (h : Hint) (o : RunOp) (w : World) → Stays o → KeepsSafe w (Op.Run o ∷ []) (run_act p h o w)
safe-run p h RunOp.MakeRoom w e =
    let d = run_act p h RunOp.MakeRoom w in
    safe-fewer w (Op.Run RunOp.MakeRoom ∷ []) d (untouched w d.world (queue-room h.refused w))
    (moves-make_room h.refused w).same.tasks (λ g. room-blind (appends_of g) (blind-appends g) h.refused w)
    (plain-after-room h.refused w)
safe-run p h RunOp.ReturnRoom w e =
    let d = run_act p h RunOp.ReturnRoom w in
    safe-fewer w (Op.Run RunOp.ReturnRoom ∷ []) d (untouched w d.world refl) refl (λ g. refl) (λ v z. refl)
safe-run p h (RunOp.TakeTurn x) w e =
    let d = run_act p h (RunOp.TakeTurn x) w in
    safe-fewer w (Op.Run (RunOp.TakeTurn x) ∷ []) d (untouched w d.world refl) refl (λ g. refl)
    (λ v z. omega (arith, z (Op.Run (RunOp.SearchCommon x (First (first_of w.urgent_turns)))) refl))
safe-run p h (RunOp.SearchCommon x look) w e =
    let d = run_act p h (RunOp.SearchCommon x look) w in
    safe-fewer w (Op.Run (RunOp.SearchCommon x look) ∷ []) d (fewer w _ (takes-common look (queue_of w (mark_in look)).items w x))
    (moves-common look (queue_of w (mark_in look)).items w x refl).same.tasks
    (λ g. common-blind (appends_of g) (blind-appends g) look (queue_of w (mark_in look)).items w x)
    (plain-after-common w x look)
safe-run p h (RunOp.LookOwn x at left) w e =
    let d = run_act p h (RunOp.LookOwn x at left) w in
    safe-fewer w (Op.Run (RunOp.LookOwn x at left) ∷ []) d (untouched w d.world (queue-look (own_of w x.run) w x at left))
    (moves-look (own_of w x.run) w x at left refl).same.tasks
    (λ g. look-blind (appends_of g) (blind-appends g) (own_of w x.run) w x at left) (plain-after-look w x at left)
safe-run p h (RunOp.WakeOwn x) w e = absurd e
safe-run p h (RunOp.Reschedule t a) w e = absurd e
