-- Which ticks live behind an act: one more where one was made, one less where one was dropped, and else the same.
use Rattle.std.proofs.Common.{◌≡◌, ◌<◌, ◌++◌, ◌==◌, ℕ, zero, suc, List, [], ◌∷◌, Bool, true, false, nat_lt, length, get_or, set}
use Rattle.std.proofs.Common.{Option, Some, None, Ok, is_some, if◌then◌else◌, refl, sym, ap, ◌∙◌, subst, arith, append_assoc, append-nil}
use Rattle.std.specs.Prelude.{reverse}
use Rattle.std.proofs.lemmas.Bool.Decides.{nat_tests}
use Rattle.executor_model.specs.declared.call.Call.{Call}
use Rattle.executor_model.specs.declared.call.Call.TheVariants as call
use Rattle.executor_model.specs.declared.call.Reply.TheVariants as reply
use Rattle.executor_model.specs.declared.event.Event.{Event}
use Rattle.executor_model.specs.declared.event.Event.TheVariants as event
use Rattle.executor_model.specs.declared.event.Answer.TheVariants.{Pending, Ready}
use Rattle.executor_model.specs.declared.op.HandleOp.TheVariants as handle_op
use Rattle.executor_model.specs.declared.op.Hold.TheVariants as hold
use Rattle.executor_model.specs.declared.op.Op.{Op}
use Rattle.executor_model.specs.declared.op.Op.TheVariants as op
use Rattle.executor_model.specs.declared.op.RunPoll.{RunPoll}
use Rattle.executor_model.specs.declared.op.TableOp.TheVariants as table_op
use Rattle.executor_model.specs.declared.op.TickOrRun.TheVariants as tick_or_run
use Rattle.executor_model.specs.declared.op.UserOp.TheVariants as user_op
use Rattle.executor_model.specs.declared.op.Waker.{Waker}
use Rattle.executor_model.specs.declared.step.Hint.{Hint}
use Rattle.executor_model.specs.declared.step.Step.{Step}
use Rattle.executor_model.specs.declared.step.Step.TheVariants.{Answer, Begin}
use Rattle.executor_model.specs.declared.step.StepError.TheVariants.{NoSuch}
use Rattle.executor_model.specs.declared.step.UserEnd.{UserEnd}
use Rattle.executor_model.specs.declared.step.UserEnd.TheVariants.{Done as Over, Polled}
use Rattle.executor_model.specs.ActsOfSleepers.{leave_sleepers_by, make_tick_by}
use Rattle.executor_model.specs.Executions.{run_all}
use Rattle.executor_model.specs.Steps.{Machine, after, begun, drop_run, future_of, kept, lives, mine, part_refusal, party_of, poll_run}
use Rattle.executor_model.specs.Steps.{react}
use Rattle.executor_model.specs.Steps.{refusal, stack, top, with_future}
use Rattle.executor_model.specs.Trace.{Trace}
use Rattle.executor_model.specs.Weights.{weigh}
use Rattle.executor_model.specs.World.{Asleep, Awake, Done, Ended, Left, Listed, New, Stage, Ticker, World, done, log, place_of}
use Rattle.executor_model.specs.World.{run_of, task, tick_of}
use Rattle.executor_model.proofs.Steps.Reached.{Reached, run-first}
use Rattle.plain_scheduler.specs.State as state
use Rattle.plain_scheduler.specs.State.{Code, Plain, Taker}
use Rattle.plain_scheduler.specs.Calls as plain
use Rattle.machine_roads.specs.Alike.{begins as begins_alike, upon}
use Rattle.machine_roads.specs.Alone.{alone, is_resting}
use Rattle.machine_roads.specs.Dropped.{answered as is_answered, loses, rest_of}
use Rattle.machine_roads.specs.InLoss.{loss_ops}
use Rattle.machine_roads.specs.Seeing.{heard, heard_in}
use Rattle.machine_roads.specs.Stopped.{Stopped, answered, drops, drops_given, drops_polled, polls}
use Rattle.machine_roads.specs.View.{Output}
use Rattle.machine_roads.specs.Within as within
use Rattle.machine_roads.specs.Within.{Act, GoesOnBy, IsAct, IsCallIn, IsLeaving, IsMade, Nested, StandsAlike, alike, by_run, by_tick}
use Rattle.machine_roads.specs.Within.{by_try, dropping, drops_own, forgetting, forgotten, going, listed, losing, nowhere, polls_own}
use Rattle.machine_roads.specs.Within.{rests_after, standing, takes, unlisted, untaken}
use Rattle.machine_roads.proofs.AloneKeeps.{calls_user, due, due_push, due_resting, due_to_append}
use Rattle.machine_roads.proofs.Calling.{idles}
use Rattle.machine_roads.proofs.Lists.{clash, same_of}
use Rattle.machine_roads.proofs.LoneRuns.{passed, within as is_within}
use Rattle.machine_roads.proofs.StandsHere.{rests_alike, walks}
use Rattle.machine_roads.proofs.TicksLiving.{LivesSo, alone_lives, alters, begins_lives, leave_none, reacts_lives}
use Rattle.machine_roads.proofs.Walked.{answer_leads_of, begun_leads_of, no_answer}

-- a tick was made, and the answer says so, or that there was no memory
pub record MadeTick (w v : World) : Type 0 where
  pub refused : Bool
  pub live : (t : ℕ) → lives (tick_of v t) ≡ lives (get_or (if refused then w.ticks else w.ticks ++ Awake ∷ []) t Left)
  pub answered : heard_in v.trace ≡ heard_in w.trace ++ state.Answers (if refused then state.NoMemory else state.Made) ∷ []

-- which ticks live behind a call
abbrev pub TicksBy : plain.Call Output Waker → World → World → Type 0
TicksBy plain.NewTick w v = MadeTick w v
TicksBy (plain.DropTick t) w v = (u : ℕ) → lives (tick_of v u) ≡ (if u == t then false else lives (tick_of w u))
TicksBy x w v = LivesSo w v

heard_both : (es fs : Trace) → heard_in (es ++ fs) ≡ heard_in es ++ heard_in fs
heard_both [] fs = refl
heard_both (e ∷ es) fs =
    ap (λ xs. heard e ++ xs) (heard_both es fs) ∙ sym (append_assoc (heard e) (heard_in es) (heard_in fs))

pub heard_more : (es : Trace) (e : Event) → heard_in (es ++ e ∷ []) ≡ heard_in es ++ heard e
heard_more es e = heard_both es (e ∷ []) ∙ ap (λ xs. heard_in es ++ xs) (append-nil (heard e))

-- one of them leaves
zero_suc : (n : ℕ) → (zero == suc n) ≡ false
zero_suc n = grind (arith, nat_tests)

suc_zero : (n : ℕ) → (suc n == zero) ≡ false
suc_zero n = grind (arith, nat_tests)

suc_suc : (n m : ℕ) → (suc n == suc m) ≡ (n == m)
suc_suc n m = grind (arith, nat_tests)

set_left : (xs : List Ticker) (t u : ℕ) → lives (get_or (set xs t Left) u Left) ≡ (if u == t then false else lives (get_or xs u Left))
set_left [] t u = by (u == t)
  where
    by : (b : Bool) → false ≡ (if b then false else false)
    by true = refl
    by false = refl
set_left (x ∷ xs) zero zero = refl
set_left (x ∷ xs) zero (suc u) = ap (λ b. if b then false else lives (get_or xs u Left)) (sym (suc_zero u))
set_left (x ∷ xs) (suc t) zero = ap (λ b. if b then false else lives x) (sym (zero_suc t))
set_left (x ∷ xs) (suc t) (suc u) = set_left xs t u ∙ ap (λ b. if b then false else lives (get_or xs u Left)) (sym (suc_suc u t))

-- as a call begins, but one of these

abbrev alters_ticks : Call → Bool
alters_ticks call.NewTick = true
alters_ticks (call.DropTick t) = true
alters_ticks c = false

quiet_with : (w : World) (x : Option ℕ) (d : ℕ → Done) → ((f : ℕ) → due alters (d f).next ≡ 0) → due alters (with_future w x d).next ≡ 0
quiet_with w (Some f) d none = none f
quiet_with w None d none = refl

quiet_polled : (stage : Stage) (x : RunPoll) → due alters (poll_run stage x) ≡ 0
quiet_polled New x = refl
quiet_polled Listed x = refl
quiet_polled Ended x = refl

quiet_dropped : (stage : Stage) (r : ℕ) → due alters (drop_run stage r) ≡ 0
quiet_dropped New r = refl
quiet_dropped Listed r = refl
quiet_dropped Ended r = refl

quiet_begun : (p : ℕ) (w : World) (here : Option Waker) (c : Call) → alters_ticks c ≡ false → due alters (begun p w here c).next ≡ 0
quiet_begun p w here (call.Wake k) none = quiet_with w (kept w k) _ (λ f. refl)
quiet_begun p w here (call.WakeByRef k) none = quiet_with w (kept w k) _ (λ f. refl)
quiet_begun p w here (call.Copy k) none = quiet_with w (kept w k) _ (λ f. refl)
quiet_begun p w here (call.DropWaker k) none = quiet_with w (kept w k) _ (λ f. refl)
quiet_begun p w here call.Keep none = quiet_with w (future_of here) _ (λ f. refl)
quiet_begun p w here call.WakeSelf none = quiet_with w (future_of here) _ (λ f. refl)
quiet_begun p w here (call.PollRun r b) none = quiet_polled (run_of w r).stage _
quiet_begun p w here (call.DropRun r) none = quiet_dropped (run_of w r).stage r
quiet_begun p w here call.NewTick none = absurd cc
quiet_begun p w here (call.DropTick t) none = absurd cc
quiet_begun p w here c none = refl

quiet_react : (p : ℕ) (o : Op) (u : UserEnd) (w : World) → weigh alters (react p o u w).next ≡ 0
quiet_react p (op.User (user_op.Poll f)) (Polled Pending) w = refl
quiet_react p (op.User (user_op.Poll f)) (Polled Ready) w = refl
quiet_react p (op.User (user_op.PollOwn x)) (Polled Pending) w = refl
quiet_react p (op.User (user_op.PollOwn x)) (Polled Ready) w = refl
quiet_react p o u w = refl

-- wherever a party rests it is to make no tick, nor does one leave

final_none : (taker : Taker Waker) (final : Op) → GoesOnBy taker final → alters final ≡ 0
final_none taker final by_try = refl
final_none taker final (by_tick t a) = refl
final_none taker final (by_run x true) = refl
final_none taker final (by_run x false) = refl

leaving_none : (r : ℕ) (o : Op) → IsLeaving r o → alters o ≡ 0
leaving_none r o unlisted = refl
leaving_none r o listed = refl

nested_none : (os : List Op) (codes : List (Code Output Waker)) → Nested os codes → weigh alters os ≡ 0
nested_none os codes nowhere = refl
nested_none os codes (polls_own x below inside nested) = omega (arith, nested_none below inside nested)
nested_none os codes (drops_own r below inside nested) = omega (arith, nested_none below inside nested)
nested_none os codes (takes taker final below xs inside more it nested stopped) =
    by (nested_none below inside nested) os codes stopped
  where
    by : weigh alters below ≡ 0 → (os : List Op) (codes : List (Code Output Waker)) → Stopped taker final below inside os codes
        → weigh alters os ≡ 0
    by so os codes answered = so
    by so os codes (polls f) = omega (arith, so, final_none taker final it)
    by so os codes (drops f) = omega (arith, so, final_none taker final it)
    by so os codes (drops_polled f) = omega (arith, so, final_none taker final it)
    by so os codes (drops_given f) = omega (arith, so, final_none taker final it)

losses_none : (fs : List ℕ) (os : List Op) → weigh alters os ≡ 0 → weigh alters (loss_ops fs os) ≡ 0
losses_none [] os none = none
losses_none (f ∷ fs) os none = omega (arith, losses_none fs os none)

rest_none : (b : Bool) (f : ℕ) (final : Op) (below : List Op) → alters final ≡ 0 → weigh alters below ≡ 0
    → weigh alters (op.User (user_op.DropOutput f) ∷ (rest_of b f final ++ below)) ≡ 0
rest_none true f final below one two = omega (arith, one, two)
rest_none false f final below one two = omega (arith, one, two)

none_at : (os xs : List Op) → os ≡ xs → weigh alters xs ≡ 0 → weigh alters os ≡ 0
none_at os xs is none = ap (weigh alters) is ∙ none

none_in : (e : Done) (q : Plain Output Waker) → StandsAlike e q → weigh alters e.next ≡ 0
none_in e q (alike nested follows) = nested_none e.next q.inside nested
none_in e q (losing f fs below codes nested stops) =
    none_at e.next (loss_ops (f ∷ fs) below) stops.left (losses_none (f ∷ fs) below (nested_none below codes nested))
none_in e q (going r fs below codes nested stops) =
    let os = op.User (user_op.DropOwn r) ∷ stops.rest ∷ below in
    none_at e.next (loss_ops fs os) stops.left
    (losses_none fs os (omega (arith, leaving_none r stops.rest stops.leaving, nested_none below codes nested)))
none_in e q (dropping taker final below f b it nested (is_answered next inside follows)) =
    none_at e.next below next (nested_none below b.inside nested)
none_in e q (dropping taker final below f b it nested (loses awaiter next inside ending)) =
    none_at e.next (op.User (user_op.DropOutput f) ∷ (rest_of (task e.world f).awaiter f final ++ below)) next
    (rest_none (task e.world f).awaiter f final below (final_none taker final it) (nested_none below b.inside nested))
none_in e q (untaken taker final below f awaiter g gs codes it nested stops) =
    let os = op.User (user_op.DropOutput f) ∷ (rest_of (is_some awaiter) f final ++ below) in
    none_at e.next (loss_ops (g ∷ gs) os) stops.left
    (losses_none (g ∷ gs) os
    (rest_none (is_some awaiter) f final below (final_none taker final it) (nested_none below codes nested)))
none_in e q (forgetting taker final below f b it nested stops) =
    let os = op.User (user_op.Drop f) ∷ op.Table (table_op.LeaveTable f) ∷ op.Handle (handle_op.LetGo f) ∷ final ∷ below in
    none_at e.next os stops.left (omega (arith, final_none taker final it, nested_none below b.inside nested))
none_in e q (forgotten taker final below f g gs codes it nested stops) =
    let os = op.User (user_op.Drop f) ∷ op.Table (table_op.LeaveTable f) ∷ op.Handle (handle_op.LetGo f) ∷ final ∷ below in
    none_at e.next (loss_ops (g ∷ gs) os) stops.left
    (losses_none (g ∷ gs) os (omega (arith, final_none taker final it, nested_none below codes nested)))

due_none : (os : List Op) → weigh alters os ≡ 0 → due alters os ≡ 0
due_none os none = ap (due alters) (sym (append-nil os)) ∙ due_push alters os [] none refl

module _ (s : Machine) (reached : Reached s) (p : ℕ) (q : Plain Output Waker) (stands : StandsAlike (standing s p) q) (new : Machine) where
  abbrev below : List Op
  below = reverse (stack s p)

  under : is_resting below ≡ true
  under = rests_alike (standing s p) q stands

  pub began : (R : World → Type 0) (c : Call) (ts : List Step) → p < length s.parties → rests_after p ts (after s (Begin p c)) ≡ true
      → run_all (Begin p c ∷ ts) s ≡ Ok new
      → ((hints : List Hint) → let d = upon below (begins_alike p (mine (top (stack s p))) c s.world) in
      is_resting (alone p hints d).next ≡ true → R (alone p hints d).world)
      → R new.world
  began R c ts there rests made leads =
      begun_leads_of (λ w o. Unit {0}) (λ s. Unit {0}) walks p (λ e. R e.world) new tt c ts s
      reached there (λ hints all over. leads hints over) rests made

  still : (c : Call) (ts : List Step) → p < length s.parties → rests_after p ts (after s (Begin p c)) ≡ true
      → run_all (Begin p c ∷ ts) s ≡ Ok new → alters_ticks c ≡ false → LivesSo s.world new.world
  still c ts there rests made none =
      let w = log s.world (event.CallBegun p c) in
      let here = mine (top (stack s p)) in
      began (LivesSo s.world) c ts there rests made
      (λ hints over t.
      alone_lives p hints (begun p w here c).world ((begun p w here c).next ++ below)
      (due_to_append calls_user alters (begun p w here c).next below (quiet_begun p w here c none) (due_resting alters below under)) t
      ∙ begins_lives p w here c t)

  -- a tick is made
  makes : (ts : List Step) → p < length s.parties → rests_after p ts (after s (Begin p call.NewTick)) ≡ true
      → run_all (Begin p call.NewTick ∷ ts) s ≡ Ok new → MadeTick s.world new.world
  makes ts there rests made = began (MadeTick s.world) call.NewTick ts there rests made leads
    where
      w : World
      w = log s.world (event.CallBegun p call.NewTick)

      behind : (b : Bool) → World
      behind b = log (make_tick_by b w).world (event.CallEnded p (if b then reply.NoMemory else reply.Made))

      made_so : (b : Bool) → MadeTick s.world (behind b)
      made_so true = record {
        refused = true;
        live = λ t. refl;
        answered =
            heard_more w.trace (event.CallEnded p reply.NoMemory)
            ∙ ap (λ xs. xs ++ state.Answers state.NoMemory ∷ [])
            (heard_more s.world.trace (event.CallBegun p call.NewTick) ∙ append-nil (heard_in s.world.trace));
      }
      made_so false = record {
        refused = false;
        live = λ t. refl;
        answered =
            heard_more w.trace (event.CallEnded p reply.Made)
            ∙ ap (λ xs. xs ++ state.Answers state.Made ∷ [])
            (heard_more s.world.trace (event.CallBegun p call.NewTick) ∙ append-nil (heard_in s.world.trace));
      }

      ended : (b : Bool) (hints : List Hint)
          → is_resting (alone p hints (done (make_tick_by b w).world ((make_tick_by b w).next ++ below))).next ≡ true
          → (alone p hints (done (make_tick_by b w).world ((make_tick_by b w).next ++ below))).world ≡ behind b
      ended true [] over = absurd (clash refl over)
      ended false [] over = absurd (clash refl over)
      ended true (h ∷ hs) over = ap (λ (d : Done). d.world) (idles p hs below (behind true) under)
      ended false (h ∷ hs) over = ap (λ (d : Done). d.world) (idles p hs below (behind false) under)

      leads : (hints : List Hint) → let d = upon below (begins_alike p (mine (top (stack s p))) call.NewTick s.world) in
          is_resting (alone p hints d).next ≡ true → MadeTick s.world (alone p hints d).world
      leads [] over = absurd (clash refl over)
      leads (h ∷ hs) over = subst (MadeTick s.world) (sym (ended h.refused hs over)) (made_so h.refused)

  -- or it leaves
  goes : (t : ℕ) (ts : List Step) → p < length s.parties → rests_after p ts (after s (Begin p (call.DropTick t))) ≡ true
      → run_all (Begin p (call.DropTick t) ∷ ts) s ≡ Ok new → TicksBy (plain.DropTick t) s.world new.world
  goes t ts there rests made = began (TicksBy (plain.DropTick t) s.world) (call.DropTick t) ts there rests made leads
    where
      w : World
      w = log (log s.world (event.CallBegun p (call.DropTick t))) (event.TickDropped p t)

      os : List Op
      os = op.End reply.Done (hold.Tick t) ∷ below

      unset : (xs : List Ticker) (t u : ℕ) → get_or xs t Left ≡ Left
          → lives (get_or xs u Left) ≡ (if u == t then false else lives (get_or xs u Left))
      unset xs t u is = by (u == t) refl
        where
          by : (b : Bool) → (u == t) ≡ b → lives (get_or xs u Left) ≡ (if b then false else lives (get_or xs u Left))
          by true here = ap (λ n. lives (get_or xs n Left)) (same_of u t here) ∙ ap lives is
          by false apart = refl

      left_so : (x : Ticker) → place_of w (tick_or_run.Tick t) ≡ x → (u : ℕ)
          → lives (tick_of (leave_sleepers_by x w (tick_or_run.Tick t)).world u) ≡ (if u == t then false else lives (tick_of w u))
      left_so (Asleep n) is u = set_left w.ticks t u
      left_so Awake is u = set_left w.ticks t u
      left_so Left is u = unset w.ticks t u is

      leads : (hints : List Hint) → let d = upon below (begins_alike p (mine (top (stack s p))) (call.DropTick t) s.world) in
          is_resting (alone p hints d).next ≡ true → TicksBy (plain.DropTick t) s.world (alone p hints d).world
      leads [] over = absurd (clash refl over)
      leads (h ∷ hs) over = λ u.
          let x = place_of w (tick_or_run.Tick t) in
          let d = leave_sleepers_by x w (tick_or_run.Tick t) in
          alone_lives p hs d.world (d.next ++ os)
          (due_push alters d.next os (leave_none x w (tick_or_run.Tick t)) (omega (arith, due_resting alters below under))) u
          ∙ left_so x refl u

  by_call : (c : Call) (ts : List Step) (x : plain.Call Output Waker) → IsCallIn (mine (top (stack s p))) s.world c x
      → p < length s.parties → rests_after p ts (after s (Begin p c)) ≡ true → run_all (Begin p c ∷ ts) s ≡ Ok new
      → TicksBy x s.world new.world
  by_call c ts x within.new_tick there rests made = makes ts there rests made
  by_call c ts x (within.drop_tick t) there rests made = goes t ts there rests made
  by_call c ts x within.try_tick there rests made = still c ts there rests made refl
  by_call c ts x (within.poll_tick t b) there rests made = still c ts there rests made refl
  by_call c ts x (within.spawn m) there rests made = still c ts there rests made refl
  by_call c ts x within.is_empty there rests made = still c ts there rests made refl
  by_call c ts x (within.use_waker k f is) there rests made = still c ts there rests made refl
  by_call c ts x (within.wake k f is) there rests made = still c ts there rests made refl
  by_call c ts x (within.copy k f is) there rests made = still c ts there rests made refl
  by_call c ts x (within.release k f is) there rests made = still c ts there rests made refl
  by_call c ts x (within.keep f is) there rests made = still c ts there rests made refl
  by_call c ts x (within.wake_self f is) there rests made = still c ts there rests made refl
  by_call c ts x (within.poll_handle f b) there rests made = still c ts there rests made refl
  by_call c ts x (within.cancel f) there rests made = still c ts there rests made refl
  by_call c ts x (within.detach f) there rests made = still c ts there rests made refl
  by_call c ts x (within.drop_handle f) there rests made = still c ts there rests made refl
  by_call c ts x within.new_run there rests made = still c ts there rests made refl
  by_call c ts x (within.poll_run r b) there rests made = still c ts there rests made refl
  by_call c ts x (within.drop_run r) there rests made = still c ts there rests made refl
  by_call c ts x within.leak there rests made = still c ts there rests made refl

  -- user code ends
  ends_so : (u : UserEnd) (ts : List Step) → p < length s.parties → rests_after p ts (after s (Answer p u)) ≡ true
      → run_all (Answer p u ∷ ts) s ≡ Ok new → LivesSo s.world new.world
  ends_so u ts there rests made = by below refl
    where
      may : refusal s (Answer p u) ≡ None
      may = (run-first (Answer p u) ts s new made).0

      by : (os : List Op) → below ≡ os → LivesSo s.world new.world
      by [] is = absurd (no_answer s p there u is may)
      by (o ∷ os) is =
          answer_leads_of (λ w o. Unit {0}) (λ s. Unit {0}) walks p (λ e. LivesSo s.world e.world) new tt u o os ts s reached there is
          (λ hints all over t.
          alone_lives p hints (react p o u s.world).world ((react p o u s.world).next ++ os)
          (due_push alters (react p o u s.world).next os (quiet_react p o u s.world)
          (due_none os (let all_none = ap (weigh alters) (sym is) ∙ none_in (standing s p) q stands in omega (arith, all_none)))) t
          ∙ reacts_lives p o u s.world t) rests made

  pub there_of : (t : Step) (ts : List Step) → party_of t ≡ p → run_all (t ∷ ts) s ≡ Ok new → p < length s.parties
  there_of t ts its made =
      subst (λ n. n < length s.parties) its
      (is_within (party_of t) (length s.parties)
      (passed (nat_lt (party_of t) (length s.parties)) NoSuch (part_refusal s.world s.parties (stack s (party_of t)) t)
      (run-first t ts s new made).0))

  one : (t : Step) (ts : List Step) (x : plain.Call Output Waker) → IsMade s p t x → rests_after p ts (after s t) ≡ true
      → run_all (t ∷ ts) s ≡ Ok new → TicksBy x s.world new.world
  one t ts x (within.begins c y is) rests made = by_call c ts y is (there_of t ts refl made) rests made
  one t ts x within.pends rests made = ends_so (Polled Pending) ts (there_of t ts refl made) rests made
  one t ts x within.gives rests made = ends_so (Polled Ready) ts (there_of t ts refl made) rests made
  one t ts x within.ends rests made = ends_so Over ts (there_of t ts refl made) rests made

pub act_ticks : (s : Machine) → Reached s → (q : Plain Output Waker) (a : Act) (x : plain.Call Output Waker)
    → StandsAlike (standing s a.party) q → IsAct s a → IsMade s a.party a.first x → TicksBy x s.world a.left.world
act_ticks s reached q a x stands is made = one s reached a.party q stands a.left a.first a.steps x made is.rests is.made
