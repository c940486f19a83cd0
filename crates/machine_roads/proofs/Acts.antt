-- From a new machine on, calls that are made one inside another are calls of the plain scheduler.
use Rattle.std.proofs.Common.{◌≡◌, ℕ, ◌<◌, ◌==◌, ◌++◌, ◌||◌, not, nat_lt, Bool, true, false, List, [], ◌∷◌, length}
use Rattle.std.proofs.Common.{Option, None, Ok, is_some, refl, sym, ap, subst, ◌∙◌}
use Rattle.std.specs.Prelude.{reverse}
use Rattle.executor_model.specs.declared.call.Call.{Call}
use Rattle.executor_model.specs.declared.call.Call.TheVariants as call
use Rattle.executor_model.specs.declared.event.Event.TheVariants as event
use Rattle.executor_model.specs.declared.op.Op.{Op}
use Rattle.executor_model.specs.declared.op.Op.TheVariants as op
use Rattle.executor_model.specs.declared.op.HandleOp.TheVariants as handle_op
use Rattle.executor_model.specs.declared.op.TableOp.TheVariants as table_op
use Rattle.executor_model.specs.declared.op.UserOp.TheVariants as user_op
use Rattle.executor_model.specs.declared.op.Waker.{Waker}
use Rattle.executor_model.specs.declared.step.Hint.{Hint}
use Rattle.executor_model.specs.declared.step.Step.{Step}
use Rattle.executor_model.specs.declared.step.Step.TheVariants.{Answer, Begin, Go}
use Rattle.executor_model.specs.declared.step.UserEnd.{UserEnd}
use Rattle.executor_model.specs.declared.step.StepError.TheVariants.{NoSuch, Waits, WrongAnswer}
use Rattle.executor_model.specs.Executions.{run_all}
use Rattle.executor_model.specs.Steps.{Machine, after, begun, end_of, go_refusal, is_locked_out, is_on_executor, is_static_kind, mine}
use Rattle.executor_model.specs.Steps.{part_refusal}
use Rattle.executor_model.specs.Steps.{party_of, react, refusal, stack, start, top, unless, waits}
use Rattle.executor_model.specs.Trace.{is_drop_begun}
use Rattle.executor_model.specs.World.{Done, done, log}
use Rattle.executor_model.proofs.Quiet.Resting.{rests}
use Rattle.executor_model.proofs.Steps.Hushed.{HushesCall, hushed-called}
use Rattle.executor_model.proofs.Steps.Reached.{Reached, deep-here, reached-more, run-first}
use Rattle.executor_model.proofs.Steps.Stepping.{refusal-there}
use Rattle.executor_model.proofs.Table.LeakStays.{hushed-drop}
use Rattle.executor_laws.proofs.Termination.LoneEnds.{OthersRest, still-rest}
use Rattle.plain_scheduler.specs.State.{Code, Plain, Taker}
use Rattle.plain_scheduler.specs.Calls.{new as new_plain}
use Rattle.machine_roads.specs.View.{Output}
use Rattle.machine_roads.specs.Road.{Follows}
use Rattle.machine_roads.specs.Alone.{alone, is_outside, is_resting}
use Rattle.machine_roads.specs.Searching.{start_at}
use Rattle.machine_roads.specs.Dropped.{answered, loses, rest_of}
use Rattle.machine_roads.specs.InLoss.{loss_ops}
use Rattle.machine_roads.specs.Losing.{left_of}
use Rattle.machine_roads.specs.Untaken.{StandsUntaken, polls}
use Rattle.machine_roads.specs.Within.{GoesOnBy, IsLeaving, StopsForgotten, StopsUntaken, forgotten, going, listed, polls_untaken, unlisted}
use Rattle.machine_roads.specs.Within.{untaken}
use Rattle.machine_roads.specs.Within.{Act, ActAlike, ActsBy, AreActs, ListsActAlike, Nested, StandsAlike, alike, calls_outside}
use Rattle.machine_roads.specs.Within.{dropping, forgetting, goes_on, is_on_way, losing, may_begin_in, may_stand_in, nowhere, rests_after}
use Rattle.machine_roads.specs.Within.{standing}
use Rattle.machine_roads.proofs.Endings.{ending_as, forgotten_as}
use Rattle.machine_roads.proofs.ActBegins.{one_begins}
use Rattle.machine_roads.proofs.ActCodes.{accepted}
use Rattle.machine_roads.proofs.ActEnds.{code_ends, is_inner}
use Rattle.machine_roads.proofs.ActLosses.{begins_in_going, begins_in_loss}
use Rattle.machine_roads.proofs.ActsBeside.{awaited_so, begins_untaken, ends_untaken}
use Rattle.machine_roads.proofs.ActsForgotten.{begins_forgotten}
use Rattle.machine_roads.proofs.BesideHere.{Asked, walks as asked_walks}
use Rattle.machine_roads.proofs.Calling.{begin_alike}
use Rattle.machine_roads.proofs.Counting.{StandsSo}
use Rattle.machine_roads.proofs.Inmost.{rests_in}
use Rattle.machine_roads.proofs.Lists.{apart_of, clash, equal, same_of}
use Rattle.machine_roads.proofs.LoneRuns.{IsBefore, both_true, made_is, not_true, passed, tells, within}
use Rattle.machine_roads.proofs.LoneTicks.{may_begin}
use Rattle.machine_roads.proofs.Open.{IsOpen, settled_open, step_open, still}
use Rattle.machine_roads.proofs.Tying.{top_of}
use Rattle.machine_roads.proofs.Unsearched.{ActsAnyhow}
use Rattle.machine_roads.proofs.Walked.{answer_leads_of, begun_leads, begun_leads_of, no_go}
use Rattle.machine_roads.proofs.WalkedFrom.{answer_leads_from}

-- the executor's drop hasn't begun, and it doesn't in an act

no_drop : (p : ℕ) (c : Call) → may_stand_in c ≡ true → HushesCall is_drop_begun hushed-drop p c
no_drop p call.DropExecutor on = absurd cc
no_drop p c on = tt

begins_open : (s : Machine) (p : ℕ) (c : Call) → may_stand_in c ≡ true → IsOpen s.world → IsOpen (after s (Begin p c)).world
begins_open s p c on open_now =
    let d : Done = begun p (log s.world (event.CallBegun p c)) (mine (top (stack s p))) c in
    let todo = stack s p ++ reverse d.next in
    settled_open (end_of (top todo)) p d.world todo
    (still s.world d.world (hushed-called is_drop_begun hushed-drop p s.world (mine (top (stack s p))) c (no_drop p c on)) open_now)

own_test : (p : ℕ) → (p == p) ≡ true
own_test p = equal p p refl

goes_open : (ts : List Step) (s new : Machine) (p : ℕ) → rests_after p ts s ≡ true → run_all ts s ≡ Ok new → IsOpen s.world
    → IsOpen new.world
goes_open [] s new p rests made open_now = subst (λ (m : Machine). IsOpen m.world) (made_is s new made) open_now
goes_open (t ∷ ts) s new p rests made open_now =
    let two = both_true (goes_on p s t) (rests_after p ts (after s t)) rests in
    goes_open ts (after s t) new p two.1 (run-first t ts s new made).1 (by t two.0)
  where
    by : (t : Step) → goes_on p s t ≡ true → IsOpen (after s t).world
    by (Begin q c) on = absurd cc
    by (Go q h) on = step_open s p (Go q h) on open_now
    by (Answer q e) on = step_open s p (Answer q e) (both_true (p == q) (calls_outside (top (stack s p))) on).0 open_now

act_open : (s new : Machine) (p : ℕ) (t : Step) (ts : List Step) → is_on_way (reverse (stack s p)) t ≡ true → party_of t ≡ p
    → rests_after p ts (after s t) ≡ true → run_all ts (after s t) ≡ Ok new → IsOpen s.world → IsOpen new.world
act_open s new p (Begin q c) ts on its rests made open_now =
    goes_open ts (after s (Begin q c)) new p rests made
    (begins_open s q c (both_true (may_stand_in c) (may_begin_in (reverse (stack s p)) c) on).0 open_now)
act_open s new p (Go q h) ts on its rests made open_now =
    goes_open ts (after s (Go q h)) new p rests made (step_open s q (Go q h) (own_test q) open_now)
act_open s new p (Answer q e) ts on its rests made open_now =
    goes_open ts (after s (Answer q e)) new p rests made (step_open s q (Answer q e) (own_test q) open_now)

-- and the other parties do nothing

pub goes_rest : (ts : List Step) (s new : Machine) (p : ℕ) → rests_after p ts s ≡ true → run_all ts s ≡ Ok new → OthersRest p s
    → OthersRest p new
goes_rest [] s new p rests made others = subst (λ (m : Machine). OthersRest p m) (made_is s new made) others
goes_rest (t ∷ ts) s new p rests made others =
    let two = both_true (goes_on p s t) (rests_after p ts (after s t)) rests in
    goes_rest ts (after s t) new p two.1 (run-first t ts s new made).1 (still-rest p s t (by t two.0) others)
  where
    by : (t : Step) → goes_on p s t ≡ true → party_of t ≡ p
    by (Begin q c) on = absurd cc
    by (Go q h) on = sym (same_of p q on)
    by (Answer q e) on = sym (same_of p q (both_true (p == q) (calls_outside (top (stack s p))) on).0)

-- where both stand alike the party rests
rests_alike : (e : Done) (q : Plain Output Waker) → StandsAlike e q → is_resting e.next ≡ true
rests_alike e q (alike nested follows) = rests_in e.next q.inside nested
rests_alike e q (losing f fs below codes nested stops) = ap (λ os. is_resting os) stops.left
rests_alike e q (going r [] below codes nested stops) = ap (λ os. is_resting os) stops.left
rests_alike e q (going r (f ∷ fs) below codes nested stops) = ap (λ os. is_resting os) stops.left
rests_alike e q (dropping taker final below f b it nested (answered next inside follows)) =
    ap (λ os. is_resting os) next ∙ rests_in below b.inside nested
rests_alike e q (dropping taker final below f b it nested (loses awaiter next inside ending)) = ap (λ os. is_resting os) next
rests_alike e q (untaken taker final below f awaiter g gs codes it nested stops) = ap (λ os. is_resting os) stops.left
rests_alike e q (forgetting taker final below f b it nested stops) = ap (λ os. is_resting os) stops.left
rests_alike e q (forgotten taker final below f g gs codes it nested stops) = ap (λ os. is_resting os) stops.left

-- who rests does nothing of its own
pub no_go_resting : (s : Machine) (p : ℕ) → p < length s.parties → (h : Hint) (os : List Op) → reverse (stack s p) ≡ os
    → is_resting os ≡ true → refusal s (Go p h) ≡ None → ⊥
no_go_resting s p there h [] is resting may = no_go s p there h is may
no_go_resting s p there h (o ∷ os) is resting may =
    let its_top = (top_of (stack s p) o os is).0 in
    let goes : unless (not (waits o)) WrongAnswer (unless (not (is_locked_out s.world.lock o)) Waits None) ≡ None =
    sym (ap (go_refusal s.world) its_top) ∙ (sym (refusal-there s (Go p h) there) ∙ may) in
    clash
    (not_true (waits o) (passed (not (waits o)) WrongAnswer (unless (not (is_locked_out s.world.lock o)) Waits None) goes))
    (both_true (waits o) (not (is_outside o)) resting).0

neither : (a b : Bool) → not (a || b) ≡ true → (a ≡ false) × (b ≡ false)
neither false false is = (refl, refl)
neither false true is = absurd cc
neither true b is = absurd cc

going_off : (fs : List ℕ) (r : ℕ) (rest : Op) → IsLeaving r rest → (below : List Op) (c : Call)
    → may_begin_in (loss_ops fs (op.User (user_op.DropOwn r) ∷ rest ∷ below)) c ≡ true → is_on_executor c ≡ false
going_off [] r rest unlisted below c on = (neither (is_on_executor c) (polls_untaken below c) on).0
going_off [] r rest listed below c on = (neither (is_on_executor c) (polls_untaken below c) on).0
going_off (f ∷ fs) r rest leaving below c on =
    (neither (is_on_executor c) (polls_untaken (loss_ops fs (op.User (user_op.DropOwn r) ∷ rest ∷ below)) c) on).0

-- in the drop of an output that nobody can take no call polls its task
first_of : (a b : Bool) → (a || b) ≡ false → a ≡ false
first_of false b is = refl
first_of true b is = absurd cc

under_losses : (gs : List ℕ) (base : List Op) (c : Call) → polls_untaken (loss_ops gs base) c ≡ polls_untaken base c
under_losses [] base c = refl
under_losses (g ∷ gs) base c = under_losses gs base c

polls_base : (b : Bool) (f : ℕ) (final : Op) (below : List Op) (c : Call)
    → polls_untaken (op.User (user_op.DropOutput f) ∷ (rest_of b f final ++ below)) c ≡ false → polls f c ≡ false
polls_base true f final below c is = first_of (polls f c) (polls_untaken (final ∷ below) c) is
polls_base false f final below c is = first_of (polls f c) (polls_untaken (final ∷ below) c) is

untaken_off : (gs : List ℕ) (b : Bool) (f : ℕ) (final : Op) (below : List Op) (c : Call)
    → may_begin_in (loss_ops gs (op.User (user_op.DropOutput f) ∷ (rest_of b f final ++ below))) c ≡ true
    → (is_on_executor c ≡ false) × (polls f c ≡ false)
untaken_off [] true f final below c on =
    let os = op.User (user_op.DropOutput f) ∷ (rest_of true f final ++ below) in
    let both = neither (is_on_executor c) (polls_untaken os c) on in (both.0, polls_base true f final below c both.1)
untaken_off [] false f final below c on =
    let os = op.User (user_op.DropOutput f) ∷ (rest_of false f final ++ below) in
    let both = neither (is_on_executor c) (polls_untaken os c) on in (both.0, polls_base false f final below c both.1)
untaken_off (g ∷ gs) b f final below c on =
    let os = op.User (user_op.DropOutput f) ∷ (rest_of b f final ++ below) in
    let both = neither (is_on_executor c) (polls_untaken (loss_ops gs os) c) on in
    (both.0, polls_base b f final below c (sym (under_losses gs os c) ∙ both.1))

-- nor is one in the drop of a future that nobody could wake on the executor
forgotten_off : (gs : List ℕ) (f : ℕ) (os : List Op) (c : Call)
    → may_begin_in (loss_ops gs (op.User (user_op.Drop f) ∷ op.Table (table_op.LeaveTable f) ∷ op.Handle (handle_op.LetGo f) ∷ os)) c ≡ true
    → is_on_executor c ≡ false
forgotten_off [] f os c on = (neither (is_on_executor c) (polls_untaken os c) on).0
forgotten_off (g ∷ gs) f os c on =
    let base = op.User (user_op.Drop f) ∷ op.Table (table_op.LeaveTable f) ∷ op.Handle (handle_op.LetGo f) ∷ os in
    (neither (is_on_executor c) (polls_untaken (loss_ops gs base) c) on).0

module _ (s : Machine) (reached : Reached s) (p : ℕ) (q : Plain Output Waker) (stands : StandsSo (standing s p) q) (new : Machine)
    (later : new.world.gone ≡ false) (open_still : s.world.gone ≡ false) (others : OthersRest p s) (there : p < length s.parties) where
  abbrev Comes : Step → List Step → Type 0
  Comes t ts = (r : Plain Output Waker) × ActsBy s p t q r new.world (start_at p (after s t) ts) × StandsSo (standing new p) r

  -- from wherever
  abbrev Anyhow : Step → Type 0
  Anyhow t = (r : Plain Output Waker) × ActsAnyhow s p t q r new.world × StandsSo (standing new p) r

  from_there : (t : Step) (ts : List Step) → Anyhow t → Comes t ts
  from_there t ts g = (g.0, g.1 (start_at p (after s t) ts), g.2)

  call_begins : (c : Call) (ts : List Step) → may_stand_in c ≡ true → may_begin_in (reverse (stack s p)) c ≡ true
      → rests_after p ts (after s (Begin p c)) ≡ true → run_all (Begin p c ∷ ts) s ≡ Ok new → Anyhow (Begin p c)
  call_begins c ts on even rests made = by stands.alike
    where
      begins : Nested (reverse (stack s p)) q.inside → Follows s.world q → Anyhow (Begin p c)
      begins nested follows =
          begun_leads p (λ e. (r : Plain Output Waker) × ActsAnyhow s p (Begin p c) q r e.world × StandsSo e r) new later c ts s reached
          there (one_begins s reached p q follows nested stands.counted c on (may_begin s p c (run-first (Begin p c) ts s new made).0))
          rests made

      inside_of : (taker : Taker Waker) (final : Op) (below : List Op) (f : ℕ) (awaiter : Option Waker)
          (codes : List (Code Output Waker)) → GoesOnBy taker final → Nested below codes → (gs : List ℕ)
          → StopsUntaken taker final below f awaiter gs codes (standing s p) q → Anyhow (Begin p c)
      inside_of taker final below f awaiter codes it nested gs stops =
          let off =
          untaken_off gs (is_some awaiter) f final below c (sym (ap (λ os. may_begin_in os c) stops.left) ∙ even) in
          begun_leads_of (Asked f awaiter) IsBefore (asked_walks f awaiter) p
          (λ e. (r : Plain Output Waker) × ActsAnyhow s p (Begin p c) q r e.world × StandsSo e r) new later c ts s reached there
          (begins_untaken taker final below f awaiter codes it nested s p q stands.counted gs stops reached there c off.0 off.1
          (may_begin s p c (run-first (Begin p c) ts s new made).0))
          rests made

      within_drop : (taker : Taker Waker) (final : Op) (below : List Op) (f : ℕ) (codes : List (Code Output Waker)) → GoesOnBy taker final
          → Nested below codes → (gs : List ℕ) → StopsForgotten taker final below f gs codes (standing s p) q → Anyhow (Begin p c)
      within_drop taker final below f codes it nested gs stops =
          let off = forgotten_off gs f (final ∷ below) c (sym (ap (λ os. may_begin_in os c) stops.left) ∙ even) in
          begun_leads p (λ e. (r : Plain Output Waker) × ActsAnyhow s p (Begin p c) q r e.world × StandsSo e r) new later c ts s reached
          there (begins_forgotten taker final below f codes it nested s p q stands.counted gs stops reached there c off
          (may_begin s p c (run-first (Begin p c) ts s new made).0))
          rests made

      by : StandsAlike (standing s p) q → Anyhow (Begin p c)
      by (alike nested follows) = begins nested follows
      by (losing f fs below codes nested stops) =
          let off : is_on_executor c ≡ false =
          (neither (is_on_executor c) (polls_untaken (loss_ops fs below) c) (sym (ap (λ os. may_begin_in os c) stops.left) ∙ even)).0 in
          begun_leads p (λ e. (r : Plain Output Waker) × ActsAnyhow s p (Begin p c) q r e.world × StandsSo e r) new later c ts s reached
          there (begins_in_loss s reached p there q f fs below codes nested stops stands.counted c off
          (may_begin s p c (run-first (Begin p c) ts s new made).0))
          rests made
      by (going r fs below codes nested stops) =
          let off =
          going_off fs r stops.rest stops.leaving below c (sym (ap (λ os. may_begin_in os c) stops.left) ∙ even) in
          begun_leads p (λ e. (r : Plain Output Waker) × ActsAnyhow s p (Begin p c) q r e.world × StandsSo e r) new later c ts s reached
          there (begins_in_going s reached p there q r fs below codes nested stops stands.counted c off
          (may_begin s p c (run-first (Begin p c) ts s new made).0))
          rests made
      by (dropping taker final below f b it nested (answered next inside follows)) =
          begins (subst (λ os. Nested os q.inside) (sym next) (subst (λ codes. Nested below codes) (sym inside) nested)) follows
      by (dropping taker final below f b it nested (loses awaiter next inside ending)) =
          let stands : StandsUntaken s.world f awaiter [] q =
          ending_as ending (record { shut = tt; follows = ending.follows }) in
          inside_of taker final below f awaiter b.inside it nested []
          (record {
            left =
                next
                ∙ ap (λ b. op.User (user_op.DropOutput f) ∷ (rest_of b f final ++ below)) (awaited_so s.world f awaiter [] q stands);
            inside = inside;
            stands = stands;
          })
      by (untaken taker final below f awaiter g gs codes it nested stops) =
          inside_of taker final below f awaiter codes it nested (g ∷ gs) stops
      by (forgetting taker final below f b it nested stops) =
          let it_is = stops.forgotten in
          within_drop taker final below f b.inside it nested []
          (record {
            left = stops.left;
            inside = stops.inside;
            stands =
                forgotten_as q.inside it_is (record { shut = tt; follows = it_is.follows });
          })
      by (forgotten taker final below f g gs codes it nested stops) = within_drop taker final below f codes it nested (g ∷ gs) stops

  -- user code ends
  module _ (u : UserEnd) (ts : List Step) (rests : rests_after p ts (after s (Answer p u)) ≡ true)
      (whole : run_all (Answer p u ∷ ts) s ≡ Ok new) where
    plainly : (a : StandsAlike (standing s p) q) → is_inner a ≡ false → Comes (Answer p u) ts
    plainly a plain =
        let e = code_ends s reached p there open_still others q stands.counted a plain u (run-first (Answer p u) ts s new whole).0 in
        let start = start_at p (after s (Answer p u)) ts in
        answer_leads_from start p (λ e. (r : Plain Output Waker) × ActsBy s p (Answer p u) q r e.world start × StandsSo e r) new later u
        e.first e.rest ts s reached there e.is
        (λ hints all starts resting.
        let first = done (react p e.first u s.world).world ((react p e.first u s.world).next ++ e.rest) in
        let end = alone p hints first in
        subst (λ n. (r : Plain Output Waker) × ActsBy s p (Answer p u) q r end.world n × StandsSo end r) starts (e.leads hints all resting))
        refl rests whole

    answers : StandsAlike (standing s p) q → Comes (Answer p u) ts
    answers (untaken taker final below f awaiter g gs codes it nested stops) =
        let o = op.User (user_op.DropOutput g) in
        let xs = left_of g ++ loss_ops gs (op.User (user_op.DropOutput f) ∷ (rest_of (is_some awaiter) f final ++ below)) in
        from_there (Answer p u) ts
        (answer_leads_of (Asked f awaiter) IsBefore (asked_walks f awaiter) p
        (λ e. (r : Plain Output Waker) × ActsAnyhow s p (Answer p u) q r e.world × StandsSo e r) new later u o xs ts s reached there
        stops.left
        (ends_untaken taker final below f awaiter codes it nested s p q stands.counted g gs stops u
        (accepted s reached p there open_still others q stands.counted u o xs (run-first (Answer p u) ts s new whole).0 stops.left))
        rests whole)
    answers (alike nested follows) = plainly (alike nested follows) refl
    answers (losing f fs below codes nested stops) = plainly (losing f fs below codes nested stops) refl
    answers (going r fs below codes nested stops) = plainly (going r fs below codes nested stops) refl
    answers (dropping taker final below f b it nested drops) = plainly (dropping taker final below f b it nested drops) refl
    answers (forgetting taker final below f b it nested stops) = plainly (forgetting taker final below f b it nested stops) refl
    answers (forgotten taker final below f g gs codes it nested stops) =
        plainly (forgotten taker final below f g gs codes it nested stops) refl

  one_act : (t : Step) (ts : List Step) → party_of t ≡ p → is_on_way (reverse (stack s p)) t ≡ true
      → rests_after p ts (after s t) ≡ true → run_all (t ∷ ts) s ≡ Ok new → Comes t ts
  one_act (Begin r c) ts its on rests made =
      let two = both_true (may_stand_in c) (may_begin_in (reverse (stack s p)) c) on in
      subst (λ n. Comes (Begin n c) ts) (sym its)
      (from_there (Begin p c) ts
      (call_begins c ts two.0 two.1
      (subst (λ n. rests_after p ts (after s (Begin n c)) ≡ true) its rests)
      (subst (λ n. run_all (Begin n c ∷ ts) s ≡ Ok new) its made)))
  one_act (Go r h) ts its on rests made =
      let may = subst (λ n. refusal s (Go n h) ≡ None) its (run-first (Go r h) ts s new made).0 in
      absurd (no_go_resting s p there h (reverse (stack s p)) refl (rests_alike (standing s p) q stands.alike) may)
  one_act (Answer r u) ts its on rests made =
      let whole = subst (λ n. run_all (Answer n u ∷ ts) s ≡ Ok new) its made in
      subst (λ n. Comes (Answer n u) ts) (sym its)
      (answers u ts (subst (λ n. rests_after p ts (after s (Answer n u)) ≡ true) its rests) whole stands.alike)

-- a party that takes over stands where the one before did, which does nothing
pub taken_over : (s : Machine) (p r : ℕ) → OthersRest p s → OthersRest r s → (b : Bool) → (p == r) ≡ b → standing s p ≡ standing s r
taken_over s p r ps rs true same = ap (λ n. standing s n) (same_of p r same)
taken_over s p r ps rs false other =
    let apart = apart_of p r other in
    ap (λ xs. done s.world (reverse xs)) (rs p apart ∙ sym (ps r (λ is. apart (sym is))))

lists : (acts : List Act) (s : Machine) → Reached s → (p : ℕ) → OthersRest p s → IsOpen s.world → (q : Plain Output Waker)
    → StandsSo (standing s p) q → AreActs s acts → ActAlike s q acts
lists [] s reached p others open_now q so are = tt
lists (a ∷ acts) s reached p others open_now q so are =
    let it = are.0 in
    let k = run-first a.first a.steps s a.left it.made in
    let next = reached-more (a.first ∷ a.steps) s a.left reached it.made in
    let later = act_open s a.left a.party a.first a.steps are.1 it.its it.rests k.1 open_now in
    let there : a.party < length s.parties =
    subst (λ n. n < length s.parties) it.its
    (within (party_of a.first) (length s.parties)
    (passed (nat_lt (party_of a.first) (length s.parties)) NoSuch
    (part_refusal s.world s.parties (stack s (party_of a.first)) a.first) k.0)) in
    let now = subst (λ e. StandsSo e q) (taken_over s p a.party others it.others (p == a.party) refl) so in
    let one =
    one_act s reached a.party q now a.left (sym (tells a.left next) ∙ later) (sym (tells s reached) ∙ open_now) it.others there a.first
    a.steps
    it.its are.1 it.rests it.made in (
      one.0,
      one.1,
      one.2.alike,
      lists acts a.left next a.party (goes_rest a.steps (after s a.first) a.left a.party it.rests k.1
          (still-rest a.party s a.first it.its it.others)) later one.0 one.2 are.2,
    )

pub acts_alike : ListsActAlike
acts_alike limit kind parties acts are =
    let s = start limit kind parties in
    let reached : Reached s = record { limit = limit; kind = kind; parties = parties; steps = []; is = refl } in
    let none : (n : ℕ) → stack s n ≡ [] = rests s (deep-here s reached) (λ party. refl) in
    let q : Plain Output Waker = new_plain limit (is_static_kind kind) in
    lists acts s reached 0 (λ n apart. none n) refl q
    (subst (λ xs. StandsSo (done s.world (reverse xs)) q) (sym (none 0))
    (record {
      alike = alike nowhere (begin_alike limit kind parties);
      counted = record { taken = λ r. refl; going = λ r is. absurd cc };
    })) are
