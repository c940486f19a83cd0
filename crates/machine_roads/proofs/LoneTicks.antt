-- A lone poll of a tick, where nothing is due: it lies down, or that is refused.
use Rattle.std.proofs.Common.{◌≡◌, ◌⊎◌, ℕ, suc, ◌&&◌, ◌||◌, not, Bool, true, false, List, [], ◌∷◌, length, Option, None}
use Rattle.std.proofs.Common.{inl, inr, ⊎_elim, nat_lt, refl, sym, ap, subst, ◌∙◌, arith}
use Rattle.executor_parts.specs.declared.mark.Mark.{Mark}
use Rattle.executor_model.specs.declared.call.By.{By}
use Rattle.executor_model.specs.declared.call.Call.{Call}
use Rattle.executor_model.specs.declared.call.Call.TheVariants as call
use Rattle.executor_model.specs.declared.call.Reply.TheVariants as reply
use Rattle.executor_model.specs.declared.op.Hold.TheVariants as hold
use Rattle.executor_model.specs.declared.op.Op.{Op}
use Rattle.executor_model.specs.declared.op.Op.TheVariants as op
use Rattle.executor_model.specs.declared.op.TickOrRun.TheVariants as tick_or_run
use Rattle.executor_model.specs.declared.op.Waker.{Waker}
use Rattle.executor_model.specs.declared.step.Step.TheVariants.{Begin}
use Rattle.executor_model.specs.declared.step.StepError.{StepError}
use Rattle.executor_model.specs.declared.step.StepError.TheVariants.{Borrowed, Busy, Gone, NoSuch}
use Rattle.executor_model.specs.SleepersAgree.{SleepersAgree}
use Rattle.executor_model.specs.Steps.{Machine, begin_refusal, has_all, is_free, is_known, is_on_executor, is_owners}
use Rattle.executor_model.specs.Steps.{is_unborrowed, is_unused, lives}
use Rattle.executor_model.specs.Steps.{part_refusal, refusal, stack, top, unless, waker_of}
use Rattle.executor_model.specs.Rows.{leaking_of, ticking_of}
use Rattle.executor_model.specs.World.{World, tick_of}
use Rattle.executor_model.proofs.Sleepers.SleepersFollowingExecutions.{agree}
use Rattle.executor_model.proofs.Steps.Reached.{Reached, run-first}
use Rattle.plain_scheduler.specs.State.{ATick, Choice, Code, Plain, Refusal, Taker, Tick}
use Rattle.plain_scheduler.specs.Lists.{any}
use Rattle.plain_scheduler.specs.Moves.{is_common}
use Rattle.plain_scheduler.specs.Calls.{does, PollTick}
use Rattle.machine_roads.specs.View.{Output, wakes}
use Rattle.machine_roads.specs.Road.{Follows}
use Rattle.machine_roads.specs.Stopped.{Stopped, Stops, answered, drops, drops_given, drops_polled, polls}
use Rattle.machine_roads.specs.Ticking.{CanPoll}
use Rattle.machine_roads.specs.Lone.{EachLoneAlike, LoneTickLies}
use Rattle.machine_roads.proofs.Aside.{rests_inside}
use Rattle.machine_roads.proofs.LoneCalls.{each}
use Rattle.machine_roads.proofs.LoneRuns.{Inside, Rests as RestsSo, Whole, both_true, lone_calls_rest, passed}
use Rattle.machine_roads.proofs.LyingDown.{polls_tick}
use Rattle.machine_roads.proofs.TickPolls.{nothing_is}

-- it is answered, or stands in one code more
one_more : (taker : Taker Waker) (final : Op) (below : List Op) (inside : List (Code Output Waker)) (os : List Op)
    (codes : List (Code Output Waker)) → Stopped taker final below inside os codes
    → (os ≡ below) ⊎ (length codes ≡ suc (length inside))
one_more taker final below inside os codes answered = inl refl
one_more taker final below inside os codes (polls f) = inr refl
one_more taker final below inside os codes (drops f) = inr refl
one_more taker final below inside os codes (drops_polled f) = inr refl
one_more taker final below inside os codes (drops_given f) = inr refl

no_longer : (n m : ℕ) → n ≡ suc m → n ≡ m → ⊥
no_longer n m longer same = omega (arith, longer, same)

pub unrefused : (x : Bool) (e : StepError) (more : Option StepError) → unless x e more ≡ None → more ≡ None
unrefused true e more is = is
unrefused false e more is = absurd cc

pub may_begin : (s : Machine) (p : ℕ) (c : Call) → refusal s (Begin p c) ≡ None
    → begin_refusal s.world s.parties (top (stack s p)) c ≡ None
may_begin s p c may =
    unrefused (nat_lt p (length s.parties)) NoSuch (part_refusal s.world s.parties (stack s p) (Begin p c)) may

abbrev others : World → List (List Op) → Call → Option StepError
others w ss c =
    unless (not (w.gone && is_on_executor c)) Gone
    (unless (not (is_on_executor c) || is_unused leaking_of ss) Gone
    (unless (not (is_owners c && w.is_static)) Gone (unless (not (is_owners c) || is_unborrowed w ss) Borrowed None)))

-- what a call speaks of that may begin is there
pub there_all : (w : World) (ss : List (List Op)) (o : Option Op) (c : Call) → begin_refusal w ss o c ≡ None → has_all w ss o c ≡ true
there_all w ss o c may =
    passed (has_all w ss o c) NoSuch (others w ss c)
    (unrefused (is_free o) Busy (unless (has_all w ss o c) NoSuch (others w ss c)) may)

-- what its owner alone calls that may begin is of an executor that isn't static
pub owned_by : (w : World) (ss : List (List Op)) (o : Option Op) (c : Call) → is_on_executor c ≡ true → is_owners c ≡ true
    → begin_refusal w ss o c ≡ None → w.is_static ≡ false
owned_by w ss o c on_it owners may =
    let last = unless (not (is_owners c) || is_unborrowed w ss) Borrowed None in
    let fourth = unless (not (is_owners c && w.is_static)) Gone last in
    let third = unless (not (is_on_executor c) || is_unused leaking_of ss) Gone fourth in
    let second =
    unrefused (has_all w ss o c) NoSuch (others w ss c)
    (unrefused (is_free o) Busy (unless (has_all w ss o c) NoSuch (others w ss c)) may) in
    let owned =
    passed (not (is_owners c && w.is_static)) Gone last
    (unrefused (not (is_on_executor c) || is_unused leaking_of ss) Gone fourth
    (unrefused (not (w.gone && is_on_executor c)) Gone third second)) in
    not_so w.is_static (sym (ap (λ b. not (b && w.is_static)) owners) ∙ owned)
  where
    not_so : (b : Bool) → not (true && b) ≡ true → b ≡ false
    not_so false is = refl
    not_so true is = absurd cc

-- a tick that is polled lives, and finds room
pub can_poll : (s : Machine) → Reached s → (p t : ℕ) (b : By) → begin_refusal s.world s.parties (top (stack s p)) (call.PollTick t b) ≡ None
    → CanPoll s.world t
can_poll s reached p t b may =
    let o = top (stack s p) in
    let agrees : SleepersAgree s =
    subst SleepersAgree (sym reached.is) (agree reached.limit reached.kind reached.parties reached.steps) in
    let there = there_all s.world s.parties o (call.PollTick t b) may in
    let known = both_true (lives (tick_of s.world t) && is_unused (ticking_of t) s.parties) (is_known o b) there in
    let alive = both_true (lives (tick_of s.world t)) (is_unused (ticking_of t) s.parties) known.0 in
    record { living = alive.0; roomed = λ awake. agrees.finds_room (tick_or_run.Tick t) awake }

pub lone_tick_lies : EachLoneAlike LoneTickLies
lone_tick_lies = each LoneTickLies (λ s reached q quiet follows p t c b steps first room none new later lone.
    let k = run-first (Begin p (call.PollTick t b)) steps s new lone.made in
    let may = may_begin s p (call.PollTick t b) k.0 in
    let a = waker_of None b in
    by s q p c t a none new
    (lone_calls_rest s reached p (call.PollTick t b) steps new
    (λ e. (r : Refusal) × Stops (Tick t a) (op.End reply.Ready (hold.Tick t)) [] q e
    (does wakes (record c { refusal = r }) (PollTick t a) q))
    quiet later
    (λ hints all rests.
    let so = polls_tick p None [] s.world q refl follows c t b first room (can_poll s reached p t b may) hints all rests in
    (so.0, so.2))
    lone))
  where
    impossible : (o : Op) (os : List Op) → o ∷ os ≡ [] → ⊥
    impossible o os is = cc

    by : (s : Machine) (q : Plain Output Waker) (p : ℕ) (c : Choice) (t : ℕ) (a : Waker) → ((m : Mark) → any (is_common m) q.due ≡ false)
        → (new : Machine)
        → RestsSo p (λ e. (r : Refusal) × Stops (Tick t a) (op.End reply.Ready (hold.Tick t)) [] q e
        (does wakes (record c { refusal = r }) (PollTick t a) q)) new
        → (r : Refusal) × Follows new.world (does wakes (record c { refusal = r }) (PollTick t a) q)
    by s q p c t a none new (Whole so) = (so.0, so.1.follows)
    by s q p c t a none new (Inside x) =
        let r = x.so.0 in
        let same : (does wakes (record c { refusal = r }) (PollTick t a) q).inside ≡ q.inside =
        ap (λ (z : Plain Output Waker). z.inside) (nothing_is c t a r q none) ∙ rests_inside c r (ATick t) a q in
        absurd
        (⊎_elim
        (λ (is : x.first ∷ x.rest ≡ []). impossible x.first x.rest is)
        (λ (longer : length (does wakes (record c { refusal = r }) (PollTick t a) q).inside ≡ suc (length q.inside)).
        no_longer (length (does wakes (record c { refusal = r }) (PollTick t a) q).inside) (length q.inside) longer (ap length same))
        (one_more (Tick t a) (op.End reply.Ready (hold.Tick t)) [] q.inside (x.first ∷ x.rest)
        (does wakes (record c { refusal = r }) (PollTick t a) q).inside x.so.1.stopped))
