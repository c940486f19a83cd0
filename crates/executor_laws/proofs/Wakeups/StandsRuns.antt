-- For some_standing_is_called.
-- Where a run searches, steals and walks, its poll goes on.
use Rattle.std.proofs.Common.{◌≡◌, ◌⊎◌, ◌∙◌, ℕ, zero, suc, ◌+◌, ◌%◌, ◌≤◌, List, [], ◌∷◌, ◌++◌, length, Bool, true, false, eqb}
use Rattle.std.proofs.Common.{refl, sym, ap, subst, inl, inr, ⊎_elim, arith}
use Rattle.executor_parts.specs.Marks.{first_of, other}
use Rattle.executor_laws.proofs.Types.{Plain, Urgent, Look, First, Second, Move, Reply, Event, ListOp, Op, RunOp}
use Rattle.executor_laws.proofs.Types.{RunPoll, Section, TickOrRun, SleeperOp, Source, Common, Own, Steal, StealOp, Then}
use Rattle.executor_model.specs.Acts.{mark_in, turned}
use Rattle.executor_model.specs.World.{World, Ticker, Awake, Asleep, Left, Run, Done, own_of, put_own, put_run, run_of}
use Rattle.executor_model.specs.{ActsOfSleepers.found_by, Doing.steal_act, Weights.weigh, SleepersAgree.sleeps}
use Rattle.executor_model.proofs.OwnQueues.OwnRooms.{Shorter, grown, of_hull, same-own, shorter-and, shorter-first}
use Rattle.executor_model.proofs.OwnQueues.RunsMoving.{hull-found, hull-stolen, walk-by}
use Rattle.executor_model.proofs.{Steps.Lists.weigh-append, OwnQueues.RunsDone.poll_in, OwnQueues.UsingWorlds.is_over_stage}
use Rattle.executor_laws.proofs.Wakeups.Stands.{KeepsStands, Nothing, Stands, View, calls_of, drops_of, early_of, ends_of}
use Rattle.executor_laws.proofs.Wakeups.Stands.{found_of, odd_of, pends_of, refused_of, waking_up_of, strays, strays_of}
use Rattle.executor_laws.proofs.Wakeups.Stands.{used_of, view, with_doing}
use Rattle.executor_laws.proofs.Wakeups.Listed.{sum, entry_of, kept_of, misplaced_of}
use Rattle.executor_laws.proofs.Wakeups.Sitting.{IsOther, IsSame, is_it, owned_in, who_cases}
use Rattle.executor_laws.proofs.Wakeups.StandsSeats.{Seated, seated-and, seated-run, seated-same}
use Rattle.executor_laws.proofs.Wakeups.StandsTied.{Tied, tied-append, tied-cons, tied-none}
use Rattle.executor_laws.proofs.Wakeups.Beside.{view-log, view-turned}
use Rattle.executor_laws.proofs.{Types.TickOp, Types.UserOp, Types.Hint, Wakeups.StandsNothing.nothing-of}
use Rattle.executor_laws.proofs.{Wakeups.StandsOwn.Goes, Wakeups.StandsOwn.own-goes, Wakeups.Watched.watched}
use Rattle.executor_model.specs.ActsOfRuns as runs

-- this is what a poll x of a run has still to do
pub record Stage (t : TickOrRun) (x : RunPoll) (os : List Op) : Type 0 where
  pub used : weigh (used_of t) os ≡ is_it t (TickOrRun.Run x.run)
  pub early : weigh (early_of t) os ≡ is_it t (TickOrRun.Run x.run)
  pub pends : weigh (pends_of t) os ≡ 0
  pub refused : weigh (refused_of t) os ≡ 0
  pub found : weigh (found_of t) os ≡ 0
  pub ends : weigh (ends_of t) os ≡ 0
  pub drops : weigh (drops_of t) os ≡ 0
  pub odd : weigh (odd_of t) os ≡ 0
  pub strays : (k : ℕ) → weigh (strays_of t k) os ≤ strays t k x
  pub calls : (k : ℕ) → weigh (calls_of t k) os ≡ 0
  pub waking_up : weigh (waking_up_of t) os ≤ is_it t (TickOrRun.Run x.run)
  pub tied : Tied t os

module _ (t : TickOrRun) (x : RunPoll) where
  -- of one thing to do
  stage-of : (o : Op) → used_of t o ≡ is_it t (TickOrRun.Run x.run) → early_of t o ≡ is_it t (TickOrRun.Run x.run) →
      pends_of t o ≡ 0 → refused_of t o ≡ 0 → found_of t o ≡ 0 → ends_of t o ≡ 0 → drops_of t o ≡ 0 → odd_of t o ≡ 0 →
      ((k : ℕ) → strays_of t k o ≡ strays t k x) → ((k : ℕ) → calls_of t k o ≡ 0) → waking_up_of t o ≡ 0 →
      Stage t x (o ∷ [])
  stage-of o a b c d e f g h i j l = record {
    used = omega (arith, a);
    early = omega (arith, b);
    pends = omega (arith, c);
    refused = omega (arith, d);
    found = omega (arith, e);
    ends = omega (arith, f);
    drops = omega (arith, g);
    odd = omega (arith, h);
    strays = λ k. omega (arith, i k);
    calls = λ k. omega (arith, j k);
    waking_up = omega (arith, l);
    tied = tied-none t (o ∷ []) (omega (arith, l));
  }

  -- its own future is ready
  pub stage-ready : Stage t x
      (Op.User (UserOp.DropOwn x.run) ∷ Op.List (ListOp.LockWrite (Section.Unregister x.run Reply.Ready)) ∷ [])
  stage-ready = record {
    used = omega arith;
    early = omega arith;
    pends = refl;
    refused = refl;
    found = refl;
    ends = refl;
    drops = refl;
    odd = refl;
    strays = λ k. omega arith;
    calls = λ k. refl;
    waking_up = omega arith;
    tied = tied-none t _ refl;
  }

  pub stage-own : Stage t x (Op.User (UserOp.PollOwn x) ∷ [])
  stage-own =
      stage-of (Op.User (UserOp.PollOwn x)) refl refl refl refl refl refl refl refl (λ k. refl) (λ k. refl) refl

  pub stage-search : Stage t x (Op.Tick (TickOp.Search (runs.asleep x)) ∷ [])
  stage-search = stage-of (Op.Tick (TickOp.Search (runs.asleep x))) refl refl refl refl refl refl refl refl
      (λ k. refl) (λ k. refl) refl

  pub stage-copy : Stage t x (Op.Tick (TickOp.CopyWaker (runs.asleep x)) ∷ [])
  stage-copy = stage-of (Op.Tick (TickOp.CopyWaker (runs.asleep x))) refl refl refl refl refl refl refl refl
      (λ k. refl) (λ k. refl) refl

  pub stage-register : Stage t x (Op.List (ListOp.Write (Section.Register x)) ∷ [])
  stage-register = stage-of (Op.List (ListOp.Write (Section.Register x))) refl refl refl refl refl refl refl refl
      (λ k. refl) (λ k. refl) refl

  pub stage-read : Stage t x (Op.List (ListOp.LockRead x) ∷ [])
  stage-read = stage-of (Op.List (ListOp.LockRead x)) refl refl refl refl refl refl refl refl (λ k. refl) (λ k. refl)
      refl

  pub stage-turn : Stage t x (Op.Run (RunOp.TakeTurn x) ∷ [])
  stage-turn = stage-of (Op.Run (RunOp.TakeTurn x)) refl refl refl refl refl refl refl refl (λ k. refl) (λ k. refl) refl

  pub stage-common : (look : Look) → Stage t x (Op.Run (RunOp.SearchCommon x look) ∷ [])
  stage-common look = stage-of (Op.Run (RunOp.SearchCommon x look)) refl refl refl refl refl refl refl refl (λ k. refl)
      (λ k. refl) refl

  pub stage-look : (at left : ℕ) → Stage t x (Op.Run (RunOp.LookOwn x at left) ∷ [])
  stage-look at left = stage-of (Op.Run (RunOp.LookOwn x at left)) refl refl refl refl refl refl refl refl (λ k. refl)
      (λ k. refl) refl

  pub stage-wake : Stage t x (Op.Run (RunOp.WakeOwn x) ∷ [])
  stage-wake = stage-of (Op.Run (RunOp.WakeOwn x)) refl refl refl refl refl refl refl refl (λ k. refl) (λ k. refl) refl

  -- what is nothing to it stands before
  pub stage-front : (xs os : List Op) → Nothing t xs → Stage t x os → Stage t x (xs ++ os)
  stage-front xs os n s = record {
    used = omega (arith, weigh-append (used_of t) xs os, n.used, s.used);
    early = omega (arith, weigh-append (early_of t) xs os, n.early, s.early);
    pends = omega (arith, weigh-append (pends_of t) xs os, n.pends, s.pends);
    refused = omega (arith, weigh-append (refused_of t) xs os, n.refused, s.refused);
    found = omega (arith, weigh-append (found_of t) xs os, n.found, s.found);
    ends = omega (arith, weigh-append (ends_of t) xs os, n.ends, s.ends);
    drops = omega (arith, weigh-append (drops_of t) xs os, n.drops, s.drops);
    odd = omega (arith, weigh-append (odd_of t) xs os, n.odd, s.odd);
    strays = λ k. omega (arith, weigh-append (strays_of t k) xs os, n.strays k, s.strays k);
    calls = λ k. omega (arith, weigh-append (calls_of t k) xs os, n.calls k, s.calls k);
    waking_up = omega (arith, weigh-append (waking_up_of t) xs os, n.waking_up, s.waking_up);
    tied = tied-append t xs os (tied-none t xs n.waking_up) s.tied;
  }

  -- it wakes up first
  stage-wake_it_up : (os : List Op) → Stage t x os → weigh (waking_up_of t) os ≡ 0 →
      Stage t x (Op.Tick (TickOp.WakeUp (TickOrRun.Run x.run)) ∷ os)
  stage-wake_it_up os s z = record {
    used = omega (arith, s.used);
    early = omega (arith, s.early);
    pends = omega (arith, s.pends);
    refused = omega (arith, s.refused);
    found = omega (arith, s.found);
    ends = omega (arith, s.ends);
    drops = omega (arith, s.drops);
    odd = omega (arith, s.odd);
    strays = λ k. omega (arith, s.strays k);
    calls = λ k. omega (arith, s.calls k);
    waking_up = omega (arith, z);
    tied = tied-cons t (Op.Tick (TickOp.WakeUp (TickOrRun.Run x.run))) os (λ k. omega (arith, k, s.used)) s.tied;
  }

-- what it does next in a steal
pub stage-steal : (t : TickOrRun) (o : StealOp) → Stage t (poll_in o) (Op.Steal o ∷ [])
stage-steal t o =
    stage-of t (poll_in o) (Op.Steal o) refl refl refl refl refl refl refl refl (λ k. refl) (λ k. refl) refl

module _ (t : TickOrRun) (x : RunPoll) where
  -- what is found is run

  stage-run_by : (b : Bool) (w : World) (f : ℕ) → Stage t x (runs.run_by b w x f).next
  stage-run_by true w f = stage-front t x (Op.Move Move.TakeUp f ∷ []) (Op.Run (RunOp.WakeOwn x) ∷ [])
      (nothing-of t _ refl) (stage-wake t x)
  stage-run_by false w f = stage-front t x (Op.Move Move.TakeUp f ∷ []) (Op.Tick (TickOp.Search (runs.asleep x)) ∷ [])
      (nothing-of t _ refl) (stage-search t x)

  not_woken_up-run_by : (b : Bool) (w : World) (f : ℕ) → weigh (waking_up_of t) (runs.run_by b w x f).next ≡ 0
  not_woken_up-run_by true w f = refl
  not_woken_up-run_by false w f = refl

  stage-counted : (b : Bool) (w : World) (f : ℕ) → Stage t x (runs.counted_by b w x f).next
  stage-counted true w f =
      stage-steal t (StealOp.Length (record { poll = x; from = Common Urgent; then = Then.StealPlain f }))
  stage-counted false w f = stage-run_by _ _ f

  not_woken_up-counted : (b : Bool) (w : World) (f : ℕ) → weigh (waking_up_of t) (runs.counted_by b w x f).next ≡ 0
  not_woken_up-counted true w f = refl
  not_woken_up-counted false w f = not_woken_up-run_by _ _ f

  stage-wakes_up : (p : Ticker) (os : List Op) → Stage t x os → weigh (waking_up_of t) os ≡ 0 →
      Stage t x (found_by p (TickOrRun.Run x.run) (Op.Sleeper SleeperOp.ExchangeFlag ∷ []) ++ os)
  stage-wakes_up Awake os s z = stage-front t x (Op.Sleeper SleeperOp.ExchangeFlag ∷ []) os (nothing-of t _ refl) s
  stage-wakes_up (Asleep n) os s z =
      stage-wake_it_up t x (Op.Sleeper SleeperOp.ExchangeFlag ∷ os)
      (stage-front t x (Op.Sleeper SleeperOp.ExchangeFlag ∷ []) os (nothing-of t _ refl) s) (omega (arith, z))
  stage-wakes_up Left os s z = stage-front t x (Op.Sleeper SleeperOp.ExchangeFlag ∷ []) os (nothing-of t _ refl) s

  pub stage-found : (w : World) (f : ℕ) → Stage t x (runs.found w x f).next
  stage-found w f = let b = eqb ((run_of w x.run).counted + 1) 64 in
      stage-wakes_up (run_of w x.run).place (runs.counted_by b w x f).next (stage-counted b w f) (not_woken_up-counted b w f)

  pub stage-stolen : (n : Then) (w : World) → Stage t x (runs.stolen n w x).next
  stage-stolen (Then.Found f) w = stage-found w f
  stage-stolen (Then.StealPlain f) w =
      stage-steal t (StealOp.Length (record { poll = x; from = Common Plain; then = Then.Run f }))
  stage-stolen (Then.Run f) w = stage-run_by _ w f
  stage-stolen (Then.Walk at left) w = stage-look t x at left

  pub stage-walk : (qs : List ℕ) (at left : ℕ) → Stage t x (runs.walk x qs at left)
  stage-walk qs at left = walk-by (Stage t x) x
      (stage-front t x (Op.List ListOp.UnlockRead ∷ []) (Op.Tick (TickOp.CopyWaker (runs.asleep x)) ∷ [])
      (nothing-of t _ refl) (stage-copy t x))
      (λ r m n. stage-steal t (StealOp.Length (record { poll = x; from = Own r; then = Then.Walk m n })))
      qs at left

-- the world in which it does so

pub record Calm (w v : World) : Type 0 where
  pub seated : (t : TickOrRun) → Seated t w v
  pub wakers : v.sleepers.wakers ≡ w.sleepers.wakers
  pub gone : v.gone ≡ w.gone
  pub seen : (t : TickOrRun) → watched t v.trace ≡ watched t w.trace

pub calm-same : (w v : World) → v.ticks ≡ w.ticks → v.runs ≡ w.runs → v.sleepers.wakers ≡ w.sleepers.wakers →
    v.gone ≡ w.gone → v.trace ≡ w.trace → Calm w v
calm-same w v a b c d e = record {
  seated = λ t. seated-same t w v a b;
  wakers = c;
  gone = d;
  seen = λ t. ap (watched t) e;
}

pub calm-and : (w v u : World) → Calm w v → Calm v u → Calm w u
calm-and w v u a b = record {
  seated = λ t. seated-and t w v u (a.seated t) (b.seated t);
  wakers = b.wakers ∙ a.wakers;
  gone = b.gone ∙ a.gone;
  seen = λ t. b.seen t ∙ a.seen t;
}

pub calm-run : (w : World) (q : ℕ) (y : Run) → y.place ≡ (run_of w q).place → y.dropped ≡ (run_of w q).dropped →
    y.stage ≡ (run_of w q).stage → Calm w (put_run w q y)
calm-run w q y a b c = record {
  seated = λ t. seated-run t w q y a b (ap is_over_stage c);
  wakers = refl;
  gone = refl;
  seen = λ t. refl;
}

calm-run_by : (b : Bool) (w : World) (x : RunPoll) (f : ℕ) → Calm w (runs.run_by b w x f).world
calm-run_by true w x f = calm-run w x.run _ refl refl refl
calm-run_by false w x f = calm-run w x.run _ refl refl refl

calm-counted : (b : Bool) (w : World) (x : RunPoll) (f : ℕ) → Calm w (runs.counted_by b w x f).world
calm-counted true w x f = calm-run w x.run _ refl refl refl
calm-counted false w x f = let v = runs.counted_to w x.run ((run_of w x.run).counted + 1) in
    calm-and w v (runs.run_found v x f).world (calm-run w x.run _ refl refl refl) (calm-run_by _ v x f)

calm-found : (w : World) (x : RunPoll) (f : ℕ) → Calm w (runs.found w x f).world
calm-found w x f = calm-counted _ w x f

calm-stolen : (n : Then) (w : World) (x : RunPoll) → Calm w (runs.stolen n w x).world
calm-stolen (Then.Found f) w x = calm-found w x f
calm-stolen (Then.StealPlain f) w x = calm-same w w refl refl refl refl refl
calm-stolen (Then.Run f) w x = calm-run_by _ w x f
calm-stolen (Then.Walk at left) w x = calm-same w w refl refl refl refl refl

-- a poll goes on: what the world has of each stays, but that less may stand in own queues, and more in that of the run
pub record Walks (w : World) (x : RunPoll) (d : Done) : Type 0 where
  pub stage : (t : TickOrRun) → Stage t x d.next
  pub calm : Calm w d.world
  pub own : (t : TickOrRun) → 1 ≤ owned_in t d.world.own → (1 ≤ owned_in t w.own) ⊎ (1 ≤ is_it t (TickOrRun.Run x.run))

pub owned-less : (w v : World) → Shorter w v → (t : TickOrRun) (n : ℕ) → 1 ≤ owned_in t v.own →
    (1 ≤ owned_in t w.own) ⊎ (1 ≤ n)
owned-less w v s (TickOrRun.Tick u) n k = absurd (omega (arith, k))
owned-less w v s (TickOrRun.Run r) n k = inl (omega (arith, k, s.own r))

pub walks : (w : World) (x : RunPoll) (d : Done) → ((t : TickOrRun) → Stage t x d.next) → Calm w d.world →
    Shorter w d.world → Walks w x d
walks w x d s c o = record { stage = s; calm = c; own = λ t. owned-less w d.world o t (is_it t (TickOrRun.Run x.run)) }

goes-on : (t : TickOrRun) (x : RunPoll) (old next : List Op) → Stage t x old → weigh (waking_up_of t) old ≡ 0 →
    ((k : ℕ) → strays t k x ≤ weigh (strays_of t k) old) → Stage t x next → Goes t old next
goes-on t x old next a z y b = record {
  used = b.used ∙ sym a.used;
  early = b.early ∙ sym a.early;
  pends = b.pends ∙ sym a.pends;
  refused = b.refused ∙ sym a.refused;
  found = b.found ∙ sym a.found;
  ends = b.ends ∙ sym a.ends;
  drops = b.drops ∙ sym a.drops;
  odd = b.odd ∙ sym a.odd;
  strays = λ k. omega (arith, y k, b.strays k);
  calls = λ k. b.calls k ∙ sym (a.calls k);
  waking_up = omega (arith, z);
  wakes_up = λ k. omega (arith, k, b.waking_up, b.early);
}

pub view-calm : (t : TickOrRun) (w v : World) → Calm w v →
    view t v ≡ record (view t w) { owned = owned_in t v.own }
view-calm t w v c = λ i. record {
  slumbering = sleeps ((c.seated t).place i);
  living = (c.seated t).lives i;
  made = (c.seated t).made i;
  over = (c.seated t).over i;
  entries = sum (entry_of t) (c.wakers i);
  misplaced = sum (misplaced_of t ((c.seated t).place i)) (c.wakers i);
  kept = λ k. sum (kept_of t k) (c.wakers i);
  owned = owned_in t v.own;
  gone = c.gone i;
  seen = c.seen t i;
}

pub stands-walks : (t : TickOrRun) (w : World) (x : RunPoll) (old : List Op) (d : Done) → Stage t x old →
    weigh (waking_up_of t) old ≡ 0 → ((k : ℕ) → strays t k x ≤ weigh (strays_of t k) old) → Walks w x d →
    KeepsStands t w old d
stands-walks t w x old d a z y k r m b h =
    subst (λ (v : View). Stands v (with_doing t d.next r) m) (sym (view-calm t w d.world k.calm))
    (own-goes t (owned_in t d.world.own) (view t w) old d.next (goes-on t x old d.next a z y (k.stage t))
    (λ o. ⊎_elim (λ (j : 1 ≤ owned_in t w.own). inl j)
    (λ (j : 1 ≤ is_it t (TickOrRun.Run x.run)). inr (omega (arith, j, (k.stage t).early))) (k.own t o)) r m b h)

-- each step of a search

walks-own : (q : List ℕ) (w : World) (x : RunPoll) → own_of w x.run ≡ q → Walks w x (runs.search_own_by q w x)
walks-own [] w x e = walks w x (runs.search_own_by [] w x) (λ t. stage-turn t x)
    (calm-same w w refl refl refl refl refl) (same-own w w refl)
walks-own (f ∷ rest) w x e = let v = put_own w x.run rest in
    walks w x (runs.found v x f) (λ t. stage-found t x v f)
    (calm-and w v (runs.found v x f).world (calm-same w v refl refl refl refl refl) (calm-found v x f))
    (shorter-and w v (runs.found v x f).world (shorter-first w x.run f rest e)
    (of_hull v (runs.found v x f).world (hull-found v x f)))

pub walks-search : (w : World) (x : RunPoll) → Walks w x (runs.search_own w x)
walks-search w x = walks-own _ w x refl

calm-turned : (p : ℕ) (w : World) → Calm w (turned p w)
calm-turned p w = record {
  seated = λ t. seated-same t w (turned p w) refl refl;
  wakers = refl;
  gone = refl;
  seen = λ t. ap (λ (y : View). y.seen) (view-turned t p w);
}

pub walks-turn : (p : ℕ) (w : World) (x : RunPoll) → Walks w x (runs.take_turn_of_run p w x)
walks-turn p w x = walks w x (runs.take_turn_of_run p w x) (λ t. stage-common t x (First (first_of w.urgent_turns)))
    (calm-turned p w) (same-own w (turned p w) refl)

walks-common : (look : Look) (q : List ℕ) (w : World) (x : RunPoll) → Walks w x (runs.search_common_by q w x look)
walks-common (First mark) [] w x = walks w x (runs.search_common_by [] w x (First mark))
    (λ t. stage-common t x (Second (other mark)))
    (calm-same w w refl refl refl refl refl) (same-own w w refl)
walks-common (Second mark) [] w x = walks w x (runs.search_common_by [] w x (Second mark)) (λ t. stage-read t x)
    (calm-same w w refl refl refl refl refl) (same-own w w refl)
walks-common look (f ∷ rest) w x = walks w x (runs.search_common_by (f ∷ rest) w x look)
    (λ t. stage-steal t (StealOp.Length (record { poll = x; from = Common (mark_in look); then = Then.Found f })))
    (calm-same w (runs.search_common_by (f ∷ rest) w x look).world refl refl refl refl refl)
    (same-own w (runs.search_common_by (f ∷ rest) w x look).world refl)

pub walks-search_common : (w : World) (x : RunPoll) (look : Look) → Walks w x (runs.search_common w x look)
walks-search_common w x look = walks-common look _ w x

walks-look : (q : List ℕ) (w : World) (x : RunPoll) (at left : ℕ) → own_of w x.run ≡ q →
    Walks w x (runs.look_own_by q w x at left)
walks-look [] w x at left e = walks w x (runs.look_own_by [] w x at left) (λ t. stage-walk t x w.listed at left)
    (calm-same w w refl refl refl refl refl) (same-own w w refl)
walks-look (f ∷ rest) w x at left e = let v = put_own w x.run rest in
    walks w x (runs.look_own_by (f ∷ rest) w x at left)
    (λ t. stage-front t x (Op.List ListOp.UnlockRead ∷ []) (runs.found v x f).next (nothing-of t _ refl)
    (stage-found t x v f))
    (calm-and w v (runs.found v x f).world (calm-same w v refl refl refl refl refl) (calm-found v x f))
    (shorter-and w v (runs.found v x f).world (shorter-first w x.run f rest e)
    (of_hull v (runs.found v x f).world (hull-found v x f)))

pub walks-look_own : (w : World) (x : RunPoll) (at left : ℕ) → Walks w x (runs.look_own w x at left)
walks-look_own w x at left = walks-look _ w x at left refl

pub walks-lock : (h : Hint) (w : World) (x : RunPoll) → Walks w x (runs.lock_read h w x)
walks-lock h w x = walks w x (runs.lock_read h w x)
    (λ t. stage-walk t x w.listed (h.start % length w.listed) (length w.listed))
    (calm-same w (runs.lock_read h w x).world refl refl refl refl refl) (same-own w (runs.lock_read h w x).world refl)

-- and of a steal

walks-stolen : (n : Then) (w : World) (x : RunPoll) → Walks w x (runs.stolen n w x)
walks-stolen n w x = walks w x (runs.stolen n w x) (λ t. stage-stolen t x n w) (calm-stolen n w x)
    (of_hull w (runs.stolen n w x).world (hull-stolen n w x))

walks-length : (n : ℕ) (w : World) (s : Steal) → Walks w s.poll (runs.steal_length_by n w s)
walks-length zero w s = walks-stolen s.then w s.poll
walks-length (suc n) w s = walks w s.poll (runs.steal_length_by (suc n) w s)
    (λ t. stage-steal t (StealOp.OwnLength s (suc n))) (calm-same w w refl refl refl refl refl) (same-own w w refl)

pub walks-more : (n : ℕ) (w : World) (s : Steal) → Walks w s.poll (runs.steal_by n w s)
walks-more zero w s = walks-stolen s.then w s.poll
walks-more (suc n) w s = walks w s.poll (runs.steal_by (suc n) w s)
    (λ t. stage-steal t (StealOp.Take s n)) (calm-same w w refl refl refl refl refl) (same-own w w refl)

calm-first : (from : Source) (w : World) (rest : List ℕ) → Calm w (runs.without_first w from rest)
calm-first (Common mark) w rest = calm-same w (runs.without_first w (Common mark) rest) refl refl refl refl refl
calm-first (Own q) w rest = calm-same w (runs.without_first w (Own q) rest) refl refl refl refl refl

shorter-source : (from : Source) (f : ℕ) (rest : List ℕ) (w : World) → runs.source_of w from ≡ f ∷ rest →
    Shorter w (runs.without_first w from rest)
shorter-source (Common mark) f rest w e = same-own w (runs.without_first w (Common mark) rest) refl
shorter-source (Own q) f rest w e = shorter-first w q f rest e

walks-take : (q : List ℕ) (w : World) (s : Steal) (more : ℕ) → runs.source_of w s.from ≡ q →
    Walks w s.poll (runs.steal_take_by q w s more)
walks-take [] w s more e = walks-stolen s.then w s.poll
walks-take (f ∷ rest) w s more e = walks w s.poll (runs.steal_take_by (f ∷ rest) w s more)
    (λ t. stage-steal t (StealOp.Put s more f)) (calm-first s.from w rest) (shorter-source s.from f rest w e)

-- one comes into the own queue

calm-kept : (p : ℕ) (w : World) (r f : ℕ) → Calm w (runs.kept_by p w r f)
calm-kept p w r f = let v = put_own w r (own_of w r ++ f ∷ []) in record {
  seated = λ t. seated-same t w (runs.kept_by p w r f) refl refl;
  wakers = refl;
  gone = refl;
  seen = λ t. ap (λ (y : View). y.seen) (view-log t v (Event.Kept p f r) (λ u n s. refl));
}

owned-kept : (p : ℕ) (w : World) (r f : ℕ) (t : TickOrRun) → 1 ≤ owned_in t (runs.kept_by p w r f).own →
    (1 ≤ owned_in t w.own) ⊎ (1 ≤ is_it t (TickOrRun.Run r))
owned-kept p w r f (TickOrRun.Tick u) k = absurd (omega (arith, k))
owned-kept p w r f (TickOrRun.Run q) k = ⊎_elim
    (λ (x : IsSame (TickOrRun.Run q) (TickOrRun.Run r)). inr (omega (arith, x.0)))
    (λ (x : IsOther (TickOrRun.Run q) (TickOrRun.Run r)).
    inl (omega (arith, k, grown w.own r f q (λ e. x.2 (ap (λ (n : ℕ). TickOrRun.Run n) e)))))
    (who_cases (TickOrRun.Run q) (TickOrRun.Run r))

walks-refused : (n : Then) (w : World) (x : RunPoll) (f : ℕ) → Walks w x (runs.put_refused n w x f)
walks-refused (Then.Walk at left) w x f = walks w x (runs.put_refused (Then.Walk at left) w x f)
    (λ t. stage-front t x (Op.List ListOp.UnlockRead ∷ Op.Move Move.DropRunnable f ∷ [])
    (Op.Tick (TickOp.Search (runs.asleep x)) ∷ []) (nothing-of t _ refl) (stage-search t x))
    (calm-same w w refl refl refl refl refl) (same-own w w refl)
walks-refused n w x f =
    let k : Walks w x (runs.stolen n w x) = walks-stolen n w x in record {
      stage = λ t. stage-front t x (Op.Move Move.DropRunnable f ∷ []) (runs.stolen n w x).next (nothing-of t _ refl) (k.stage t);
      calm = k.calm;
      own = k.own;
    }

walks-put : (b : Bool) (p : ℕ) (w : World) (s : Steal) (more f : ℕ) →
    Walks w s.poll (runs.steal_put_by b p w s more f)
walks-put true p w s more f =
    let v = runs.kept_by p w s.poll.run f in
    let k : Walks v s.poll (runs.steal_by more v s) = walks-more more v s in record {
      stage = k.stage;
      calm = calm-and w v (runs.steal_by more v s).world (calm-kept p w s.poll.run f) k.calm;
      own = λ t o. ⊎_elim (λ (y : 1 ≤ owned_in t v.own). owned-kept p w s.poll.run f t y)
          (λ (y : 1 ≤ is_it t (TickOrRun.Run s.poll.run)). inr y) (k.own t o);
    }
walks-put false p w s more f = walks-refused s.then w s.poll f

pub walks-steal : (p : ℕ) (o : StealOp) (w : World) → Walks w (poll_in o) (steal_act p o w)
walks-steal p (StealOp.Length s) w = walks-length _ w s
walks-steal p (StealOp.OwnLength s n) w = walks-more _ w s
walks-steal p (StealOp.Take s more) w = walks-take _ w s more refl
walks-steal p (StealOp.Put s more f) w = walks-put _ p w s more f
