-- For calls_can_be_begun.
-- What a call names is there, by the test of the machine, exactly where it is, and no call in progress uses it.
use Rattle.std.proofs.Common.{◌≡◌, ◌≢◌, ◌∙◌, ⊎_elim, ℕ, zero, suc, ◌+◌, ◌≤◌, List, [], ◌∷◌}
use Rattle.std.proofs.Common.{Bool, true, false}
use Rattle.std.proofs.Common.{◌&&◌, ◌||◌, cond, not, eqb, refl, sym, ap, subst, arith}
use Rattle.std.proofs.lemmas.Bool.Decides.{nat_tests}
use Rattle.std.specs.List.{list_any}
use Rattle.std.specs.Prelude.{Option, Some, None, slice_get, slice_index_or}
use Rattle.call_laws.proofs.Types.{By, Call, Hold, Op, Task, Outside, UserOp, Waker}
use Rattle.executor_model.specs.Calls.{Begun}
use Rattle.executor_model.specs.Rows.{handling_of, lending_of, running_of, ticking_of}
use Rattle.executor_model.specs.Steps.{Machine, future_of, has_all, has_handle, has_mine, has_run}
use Rattle.executor_model.specs.Steps.{has_tick, is_known}
use Rattle.executor_model.specs.Steps.{is_some, is_there, is_unused, kept, lives}
use Rattle.executor_model.specs.Steps.{mine, stack}
use Rattle.executor_model.specs.Steps.{top}
use Rattle.executor_model.specs.Weights.{weigh, weigh_all}
use Rattle.executor_model.specs.World.{Ticker, Awake, Asleep, Left, run_of, task, tick_of}
use Rattle.executor_model.proofs.OneFuture.Telling.{same-cond}
use Rattle.executor_model.proofs.Steps.Begins.{kept-used}
use Rattle.executor_model.proofs.Steps.Lists.{weigh-below}
use Rattle.call_laws.proofs.Counting.{Sees, in-progress, sees-handle, sees-run}
use Rattle.call_laws.proofs.Counting.{sees-tick, sees-waker, some-use, zero_of}
use Rattle.call_laws.proofs.Rows.{letting_of}
use Rattle.call_laws.proofs.Holding.{AllHeld}
use Rattle.call_laws.proofs.Taking.{one-of}
use Rattle.call_laws.specs.Begins.{CanGive, CanUseUp, HasAll, HasHandle, HasRun, HasTick}
use Rattle.call_laws.specs.Begins.{HasWaker}
use Rattle.call_laws.specs.InProgress.{InProgress, IsInMaking, lets_go, names_run, names_tick}
use Rattle.call_laws.specs.InProgress.{reads_waker, uses_handle}
use Rattle.call_laws.specs.UserCode.{IsInPoll, IsInPollBy}
use Rattle.call_laws.specs.UserCode.IsInPollBy.{of_future, of_own}

-- tests of two

pub both : (a b : Bool) → a ≡ true → b ≡ true → (a && b) ≡ true
both true b x y = y
both false b x y = absurd (cc)

pub first : (a b : Bool) → (a && b) ≡ true → a ≡ true
first true b e = refl
first false b e = absurd (cc)

pub second : (a b : Bool) → (a && b) ≡ true → b ≡ true
second true b e = e
second false b e = absurd (cc)

-- uses

pub zeros : (os : List Op) → weigh zero_of os ≡ 0
zeros [] = refl
zeros (o ∷ os) = omega (arith, zeros os)

pub unused-is : (n : ℕ) → eqb n 0 ≡ true → n ≡ 0
unused-is n e = grind (arith, nat_tests)

pub is-zero : (n : ℕ) → (1 ≤ n → ⊥) → eqb n 0 ≡ true
is-zero zero k = refl
is-zero (suc n) k = absurd (k (omega arith))

module _ (s : Machine) (a : AllHeld s) where
  pub free-of : (v : Op → ℕ) (t : Begun → Bool) (m : Op → ℕ) → Sees v t m → is_unused v s.parties ≡ true → ¬ InProgress t s.world.trace
  free-of v t m x e k = absurd (omega (arith, in-progress v t m x s a k, unused-is (weigh_all v s.parties) e))

  pub unused-of : (v : Op → ℕ) (t : Begun → Bool) → Sees v t zero_of → ¬ InProgress t s.world.trace → is_unused v s.parties ≡ true
  unused-of v t x k = is-zero (weigh_all v s.parties) (λ l. ⊎_elim
      (λ (y : InProgress t s.world.trace). k y)
      (λ (y : (q : ℕ) × (1 ≤ weigh zero_of (stack s q))). (let r : ⊥ = absurd (omega (arith, y.1, zeros (stack s y.0))) in r))
      (some-use v t zero_of x s a l))

-- a run that is made is let go by the end of a call, and by nothing else

letting-one : (r : ℕ) (o : Op) → letting_of r o ≡ cond (lets_go r o) 1 0
letting-one r (Op.End a (Hold.Run q)) = same-cond r q
letting-one r (Op.End a Hold.Nothing) = refl
letting-one r _ = refl

letting : (r : ℕ) (os : List Op) → 1 ≤ weigh (letting_of r) os → list_any (lets_go r) os ≡ true
letting r [] l = absurd (omega (arith, l))
letting r (o ∷ os) l = by (lets_go r o) (letting_of r o) (letting-one r o) l (λ k. letting r os k)
  where
    by : (b : Bool) (n : ℕ) → n ≡ cond b 1 0 → 1 ≤ n + weigh (letting_of r) os →
        (1 ≤ weigh (letting_of r) os → list_any (lets_go r) os ≡ true) → (b || list_any (lets_go r) os) ≡ true
    by true n e k f = refl
    by false n e k f = f (omega (arith, e, k))

let-go : (r : ℕ) (os : List Op) → list_any (lets_go r) os ≡ true → 1 ≤ weigh (letting_of r) os
let-go r [] e = absurd (cc)
let-go r (o ∷ os) e = by (lets_go r o) (letting_of r o) (letting-one r o) e (λ k. let-go r os k)
  where
    by : (b : Bool) (n : ℕ) → n ≡ cond b 1 0 → (b || list_any (lets_go r) os) ≡ true →
        (list_any (lets_go r) os ≡ true → 1 ≤ weigh (letting_of r) os) → 1 ≤ n + weigh (letting_of r) os
    by true n e k f = omega (arith, e)
    by false n e k f = omega (arith, f k)

letting-runs : (r : ℕ) (o : Op) → letting_of r o ≤ running_of r o
letting-runs r (Op.End a held) = omega arith
letting-runs r _ = omega arith

-- what the call names is there

run-free : (s : Machine) → AllHeld s → (r : ℕ) → is_unused (running_of r) s.parties ≡ true →
    (¬ IsInMaking r s) × ¬ InProgress (λ b. names_run r b.call) s.world.trace
run-free s a r e = (
  λ k. absurd (omega (
    arith,
    let-go r (stack s k.0) k.1,
    weigh-below (letting_of r) (running_of r) (letting-runs r) (stack s k.0),
    one-of (running_of r) s.parties k.0,
    unused-is (weigh_all (running_of r) s.parties) e,
  )),
  free-of s a (running_of r) (λ b. names_run r b.call) (letting_of r) (sees-run r) e,
)

pub free-run : (s : Machine) → AllHeld s → (r : ℕ) → ¬ IsInMaking r s → ¬ InProgress (λ b. names_run r b.call) s.world.trace →
    is_unused (running_of r) s.parties ≡ true
free-run s a r m k = is-zero (weigh_all (running_of r) s.parties) (λ l. ⊎_elim
    (λ (y : InProgress (λ b. names_run r b.call) s.world.trace). k y)
    (λ (y : (q : ℕ) × (1 ≤ weigh (letting_of r) (stack s q))). m (y.0, letting r (stack s y.0) y.1))
    (some-use (running_of r) (λ b. names_run r b.call) (letting_of r) (sees-run r) s a l))

some-is : (o : Option ℕ) → is_some o ≡ true → (f : ℕ) × (o ≡ Some f)
some-is (Some f) e = (f, refl)
some-is None e = absurd (cc)

is-some : (o : Option ℕ) (f : ℕ) → o ≡ Some f → is_some o ≡ true
is-some (Some g) f e = refl
is-some None f e = absurd (cc)

waker-there : (s : Machine) (k : ℕ) → is_some (kept s.world k) ≡ true → HasWaker k s
waker-there s k e = let x = some-is (kept s.world k) e in (x.0, kept-used s.world k x.0 x.1)

there-waker : (s : Machine) (k : ℕ) → HasWaker k s → is_some (kept s.world k) ≡ true
there-waker s k x = is-some (kept s.world k) x.0 (go s.world.wakers k x.1)
  where
    go : (ws : List (Option ℕ)) (k : ℕ) → slice_get ws k ≡ Some (Some x.0) → slice_index_or ws k None ≡ Some x.0
    go [] k e = absurd (cc)
    go (w ∷ ws) zero e = let i : w ≡ Some x.0 = cc in i
    go (w ∷ ws) (suc k) e = go ws k e

poll-is : (o : Op) (a : Waker) → mine (Some o) ≡ Some a → IsInPollBy o a
poll-is (Op.User (UserOp.Poll f)) a e = let i : Task f ≡ a = cc in subst (IsInPollBy (Op.User (UserOp.Poll f))) i (of_future f)
poll-is (Op.User (UserOp.PollOwn x)) a e = let i : x.waker ≡ a = cc in subst (IsInPollBy (Op.User (UserOp.PollOwn x))) i (of_own x)
poll-is _ a e = absurd (cc)

is-poll : {o : Op} {a : Waker} → IsInPollBy o a → mine (Some o) ≡ Some a
is-poll (of_future f) = refl
is-poll (of_own x) = refl

in-poll : (s : Machine) (p : ℕ) (o : Option Op) (a : Waker) → top (stack s p) ≡ o → mine o ≡ Some a → IsInPoll a p s
in-poll s p None a t e = absurd (cc)
in-poll s p (Some o) a t e = (o, t, poll-is o a e)

poll-in : (s : Machine) (p : ℕ) (o : Option Op) (a : Waker) → top (stack s p) ≡ o → IsInPoll a p s → mine o ≡ Some a
poll-in s p o a t k = ap mine (sym t ∙ k.1) ∙ is-poll k.2

task-is : (o : Option Waker) → is_some (future_of o) ≡ true → (f : ℕ) × (o ≡ Some (Task f))
task-is (Some (Task f)) e = (f, refl)
task-is (Some (Outside x)) e = absurd (cc)
task-is None e = absurd (cc)

is-task : (o : Option Waker) (f : ℕ) → o ≡ Some (Task f) → is_some (future_of o) ≡ true
is-task o f e = ap (λ (x : Option Waker). is_some (future_of x)) e

mine-there : (s : Machine) (p : ℕ) → is_some (future_of (mine (top (stack s p)))) ≡ true → (f : ℕ) × IsInPoll (Task f) p s
mine-there s p e = let x = task-is (mine (top (stack s p))) e in (x.0, in-poll s p (top (stack s p)) (Task x.0) refl x.1)

there-mine : (s : Machine) (p : ℕ) → (f : ℕ) × IsInPoll (Task f) p s → is_some (future_of (mine (top (stack s p)))) ≡ true
there-mine s p k = is-task (mine (top (stack s p))) k.0 (poll-in s p (top (stack s p)) (Task k.0) refl k.1)

any-is : (o : Option Waker) → has_mine o ≡ true → (a : Waker) × (o ≡ Some a)
any-is (Some a) e = (a, refl)
any-is None e = absurd (cc)

given : (s : Machine) (p : ℕ) (b : By) → is_known (top (stack s p)) b ≡ true → CanGive b p s
given s p By.Mine e = let x = any-is (mine (top (stack s p))) e in (x.0, in-poll s p (top (stack s p)) x.0 refl x.1)
given s p (By.Outside x) e = tt

gives : (s : Machine) (p : ℕ) (b : By) → CanGive b p s → is_known (top (stack s p)) b ≡ true
gives s p By.Mine k = ap has_mine (poll-in s p (top (stack s p)) k.0 refl k.1)
gives s p (By.Outside x) k = refl

pub tick-lives : (x : Ticker) → lives x ≡ true → x ≢ Left
tick-lives Awake e n = absurd (cc)
tick-lives (Asleep m) e n = absurd (cc)
tick-lives Left e n = absurd (cc)

pub lives-tick : (x : Ticker) → x ≢ Left → lives x ≡ true
lives-tick Awake n = refl
lives-tick (Asleep m) n = refl
lives-tick Left n = absurd (n refl)

pub run-lives : (b : Bool) → not b ≡ true → b ≡ false
run-lives true e = absurd (cc)
run-lives false e = refl

module _ (s : Machine) (a : AllHeld s) (p : ℕ) where
  handle-there : (f : ℕ) → has_handle s.world s.parties f ≡ true → HasHandle f s
  handle-there f e = (
    first (task s.world f).handle (is_unused (handling_of f) s.parties) e,
    free-of s a (handling_of f) (uses_handle f) zero_of (sees-handle f) (second (task s.world f).handle _ e),
  )

  there-handle : (f : ℕ) → HasHandle f s → has_handle s.world s.parties f ≡ true
  there-handle f k = both (task s.world f).handle (is_unused (handling_of f) s.parties) k.0
      (unused-of s a (handling_of f) (uses_handle f) (sees-handle f) k.1)

  tick-there : (t : ℕ) → has_tick s.world s.parties t ≡ true → HasTick t s
  tick-there t e = (
    tick-lives (tick_of s.world t) (first (lives (tick_of s.world t)) (is_unused (ticking_of t) s.parties) e),
    free-of s a (ticking_of t) (λ b. names_tick t b.call) zero_of (sees-tick t) (second (lives (tick_of s.world t)) _ e),
  )

  there-tick : (t : ℕ) → HasTick t s → has_tick s.world s.parties t ≡ true
  there-tick t k = both (lives (tick_of s.world t)) (is_unused (ticking_of t) s.parties) (lives-tick (tick_of s.world t) k.0)
      (unused-of s a (ticking_of t) (λ b. names_tick t b.call) (sees-tick t) k.1)

  run-there : (r : ℕ) → has_run s.world s.parties r ≡ true → HasRun r s
  run-there r e =
      let k = run-free s a r (second (is_there (run_of s.world r)) _ e) in
      (run-lives (run_of s.world r).dropped (first (is_there (run_of s.world r)) (is_unused (running_of r) s.parties) e), k.0, k.1)

  there-run : (r : ℕ) → HasRun r s → has_run s.world s.parties r ≡ true
  there-run r k = both (is_there (run_of s.world r)) (is_unused (running_of r) s.parties) (ap not k.0) (free-run s a r k.1 k.2)

  used-up : (k : ℕ) → (is_some (kept s.world k) && is_unused (lending_of k) s.parties) ≡ true → CanUseUp k s
  used-up k e = (
    waker-there s k (first (is_some (kept s.world k)) (is_unused (lending_of k) s.parties) e),
    free-of s a (lending_of k) (λ b. reads_waker k b.call) zero_of (sees-waker k) (second (is_some (kept s.world k)) _ e),
  )

  up-used : (k : ℕ) → CanUseUp k s → (is_some (kept s.world k) && is_unused (lending_of k) s.parties) ≡ true
  up-used k x = both (is_some (kept s.world k)) (is_unused (lending_of k) s.parties) (there-waker s k x.0)
      (unused-of s a (lending_of k) (λ b. reads_waker k b.call) (sees-waker k) x.1)

  pub all-there : (c : Call) → has_all s.world s.parties (top (stack s p)) c ≡ true → HasAll c p s
  all-there (Call.Wake k) e = used-up k e
  all-there (Call.DropWaker k) e = used-up k e
  all-there (Call.WakeByRef k) e = waker-there s k e
  all-there (Call.Copy k) e = waker-there s k e
  all-there Call.Keep e = mine-there s p e
  all-there Call.WakeSelf e = mine-there s p e
  all-there (Call.PollHandle f b) e = (handle-there f (first (has_handle s.world s.parties f) _ e), given s p b (second _ _ e))
  all-there (Call.Cancel f) e = handle-there f e
  all-there (Call.Detach f) e = handle-there f e
  all-there (Call.DropHandle f) e = handle-there f e
  all-there (Call.PollTick t b) e = (tick-there t (first (has_tick s.world s.parties t) _ e), given s p b (second _ _ e))
  all-there (Call.DropTick t) e = tick-there t e
  all-there (Call.PollRun r b) e = (run-there r (first (has_run s.world s.parties r) _ e), given s p b (second _ _ e))
  all-there (Call.DropRun r) e = run-there r e
  all-there _ e = tt

  pub there-all : (c : Call) → HasAll c p s → has_all s.world s.parties (top (stack s p)) c ≡ true
  there-all (Call.Wake k) x = up-used k x
  there-all (Call.DropWaker k) x = up-used k x
  there-all (Call.WakeByRef k) x = there-waker s k x
  there-all (Call.Copy k) x = there-waker s k x
  there-all Call.Keep x = there-mine s p x
  there-all Call.WakeSelf x = there-mine s p x
  there-all (Call.PollHandle f b) x = both _ _ (there-handle f x.0) (gives s p b x.1)
  there-all (Call.Cancel f) x = there-handle f x
  there-all (Call.Detach f) x = there-handle f x
  there-all (Call.DropHandle f) x = there-handle f x
  there-all (Call.PollTick t b) x = both _ _ (there-tick t x.0) (gives s p b x.1)
  there-all (Call.DropTick t) x = there-tick t x
  there-all (Call.PollRun r b) x = both _ _ (there-run r x.0) (gives s p b x.1)
  there-all (Call.DropRun r) x = there-run r x
  there-all _ x = refl
