-- What one of both doesn't know of the other changes, and they stand alike.
use Rattle.std.proofs.Common.{◌≡◌, ℕ, ◌-◌, nat_lt, Bool, true, false, List, length, map, Option, refl, sym, subst, ◌∙◌}
use Rattle.std.specs.Prelude.{filter}
use Rattle.executor_parts.specs.Sleepers.{Sleepers}
use Rattle.executor_model.specs.declared.op.Sleeping.{Sleeping}
use Rattle.executor_model.specs.declared.op.TickOrRun.{TickOrRun}
use Rattle.executor_model.specs.declared.op.Waker.{Waker}
use Rattle.executor_model.specs.ActsOfSleepers.{given_back}
use Rattle.executor_model.specs.SleepersAgree.{sleeps}
use Rattle.executor_model.specs.World.{Asleep, Lock, Run, Ticker, World}
use Rattle.plain_scheduler.specs.State.{Code, Plain, Running}
use Rattle.plain_scheduler.specs.Moves.{lies}
use Rattle.machine_roads.specs.View.{Output}
use Rattle.machine_roads.specs.Road.{AreNumbered, Follows, counted_anew, place_in, run_view, waking_in, who_of}
use Rattle.machine_roads.proofs.Numbers.{numbered_still}

-- whether the executor's drop has begun and which futures that has still to drop, the machine's lock and turns, which futures are out
-- to be polled, which wakers are kept, which ticks there are and how many may sleep; and in which code the plain scheduler's calls stand
unseen : (gone : Bool) (leaving : List ℕ) (lock : Lock) (kind : Bool) (waking : List ℕ) (turn : ℕ) (out : List Bool)
    (kept : List (Option ℕ)) (ticks : List Ticker) (rooms : ℕ) (codes : List (Code Output Waker)) (w : World)
    (q : Plain Output Waker) → Follows w q
    → ((x : TickOrRun) → length (filter (lies (who_of x)) q.lying) ≡ sleeps (place_in ticks w.runs x))
    → AreNumbered ticks w.runs w.sleepers.wakers → waking ≡ waking_in codes
    → Follows
    (record w {
      gone = gone;
      leaving = leaving;
      lock = lock;
      is_static = kind;
      waking = waking;
      urgent_turns = turn;
      inside = out;
      wakers = kept;
      ticks = ticks;
      sleepers = record w.sleepers { rooms = rooms };
    })
    (record q { is_static = kind; inside = codes })
unseen gone leaving lock kind waking turn out kept ticks rooms codes w q r asleep numbered woken = record {
  limit = r.limit;
  kind = refl;
  many = r.many;
  places = r.places;
  marked = r.marked;
  tasks = r.tasks;
  stored = r.stored;
  marks = r.marks;
  calm = r.calm;
  table = r.table;
  common = r.common;
  kept = r.kept;
  wakers = r.wakers;
  count = r.count;
  flag = r.flag;
  asleep = asleep;
  numbered = numbered;
  runs = r.runs;
  waking = woken;
  seen = r.seen;
}

-- of a machine and a plain scheduler of one kind
alike : (waking : List ℕ) (turn : ℕ) (out : List Bool) (kept : List (Option ℕ)) (codes : List (Code Output Waker)) (w : World)
    (q : Plain Output Waker) → Follows w q → waking ≡ waking_in codes
    → Follows (record w { waking = waking; urgent_turns = turn; inside = out; wakers = kept }) (record q { inside = codes })
alike waking turn out kept codes w q r woken =
    subst
    (λ b. Follows (record w { waking = waking; urgent_turns = turn; inside = out; wakers = kept })
    (record q { is_static = b; inside = codes }))
    r.kind
    (unseen w.gone w.leaving w.lock w.is_static waking turn out kept w.ticks w.sleepers.rooms codes w q r r.asleep r.numbered woken)

pub stands_in : (codes : List (Code Output Waker)) (w : World) (q : Plain Output Waker) → Follows w q
    → waking_in codes ≡ waking_in q.inside → Follows w (record q { inside = codes })
stands_in codes w q r same = alike w.waking w.urgent_turns w.inside w.wakers codes w q r (r.waking ∙ sym same)

-- these are still to be woken
pub woken_so : (waking : List ℕ) (codes : List (Code Output Waker)) (w : World) (q : Plain Output Waker) → Follows w q
    → waking ≡ waking_in codes → Follows (record w { waking = waking }) (record q { inside = codes })
woken_so waking codes w q r woken = alike waking w.urgent_turns w.inside w.wakers codes w q r woken

pub turns : (n : ℕ) (w : World) (q : Plain Output Waker) → Follows w q → Follows (record w { urgent_turns = n }) q
turns n w q r = alike w.waking n w.inside w.wakers q.inside w q r r.waking

pub places_so : (inside : List Bool) (w : World) (q : Plain Output Waker) → Follows w q → Follows (record w { inside = inside }) q
places_so inside w q r = alike w.waking w.urgent_turns inside w.wakers q.inside w q r r.waking

pub kept_so : (ks : List (Option ℕ)) (w : World) (q : Plain Output Waker) → Follows w q → Follows (record w { wakers = ks }) q
kept_so ks w q r = alike w.waking w.urgent_turns w.inside ks q.inside w q r r.waking

-- where as many sleep as did, and who slept sleeps on
pub roomed : (ticks : List Ticker) (rooms : ℕ) (w : World) (q : Plain Output Waker) → Follows w q
    → ((x : TickOrRun) → sleeps (place_in ticks w.runs x) ≡ sleeps (place_in w.ticks w.runs x))
    → ((x : TickOrRun) (n : ℕ) → place_in w.ticks w.runs x ≡ Asleep n → place_in ticks w.runs x ≡ Asleep n)
    → Follows (record w { ticks = ticks; sleepers = record w.sleepers { rooms = rooms } }) q
roomed ticks rooms w q r same still =
    subst (λ b. Follows (record w { ticks = ticks; sleepers = record w.sleepers { rooms = rooms } }) (record q { is_static = b }))
    r.kind
    (unseen w.gone w.leaving w.lock w.is_static w.waking w.urgent_turns w.inside w.wakers ticks rooms q.inside w q r
    (λ x. r.asleep x ∙ sym (same x))
    (numbered_still w.ticks w.runs ticks w.runs still w.sleepers.wakers r.numbered) r.waking)

abbrev given_if : Bool → Sleepers Sleeping → Sleepers Sleeping
given_if b s = elim b [ true ↦ record s { rooms = s.rooms - 1 } | false ↦ s ]

-- and room is given back
pub returned : (ticks : List Ticker) (w : World) (q : Plain Output Waker) → Follows w q
    → ((x : TickOrRun) → sleeps (place_in ticks w.runs x) ≡ sleeps (place_in w.ticks w.runs x))
    → ((x : TickOrRun) (n : ℕ) → place_in w.ticks w.runs x ≡ Asleep n → place_in ticks w.runs x ≡ Asleep n)
    → Follows (record w { ticks = ticks; sleepers = given_back w.sleepers }) q
returned ticks w q r same still = by (nat_lt w.sleepers.count w.sleepers.rooms)
  where
    by : (b : Bool) → Follows (record w { ticks = ticks; sleepers = given_if b w.sleepers }) q
    by true = roomed ticks (w.sleepers.rooms - 1) w q r same still
    by false = roomed ticks w.sleepers.rooms w q r same still

-- runs change, of which as many sleep as did, and the list of their queues
pub ran : (ticks : List Ticker) (runs : List Run) (listed : List ℕ) (more : List Running) (w : World) (q : Plain Output Waker)
    → Follows w q → ((x : TickOrRun) → sleeps (place_in ticks runs x) ≡ sleeps (place_in w.ticks w.runs x))
    → ((x : TickOrRun) (n : ℕ) → place_in w.ticks w.runs x ≡ Asleep n → place_in ticks runs x ≡ Asleep n)
    → map run_view runs ≡ map counted_anew more
    → Follows (record w { ticks = ticks; runs = runs; listed = listed }) (record q { runs = more })
ran ticks runs listed more w q r same still viewed = record {
  limit = r.limit;
  kind = r.kind;
  many = r.many;
  places = r.places;
  marked = r.marked;
  tasks = r.tasks;
  stored = r.stored;
  marks = r.marks;
  calm = r.calm;
  table = r.table;
  common = r.common;
  kept = r.kept;
  wakers = r.wakers;
  count = r.count;
  flag = r.flag;
  asleep = λ x. r.asleep x ∙ sym (same x);
  numbered = numbered_still w.ticks w.runs ticks runs still w.sleepers.wakers r.numbered;
  runs = viewed;
  waking = r.waking;
  seen = r.seen;
}

-- the table has no wakers any more, and these are still to be woken
pub leaked_so : (waking : List ℕ) (codes : List (Code Output Waker)) (w : World) (q : Plain Output Waker) → Follows w q
    → waking ≡ waking_in codes → Follows (record w { is_static = true; waking = waking }) (record q { is_static = true; inside = codes })
leaked_so waking codes w q r woken =
    unseen w.gone w.leaving w.lock true waking w.urgent_turns w.inside w.wakers w.ticks w.sleepers.rooms codes w q r r.asleep
    r.numbered woken

-- the lock of the list of queues is taken or given back
pub locked : (lock : Lock) (w : World) (q : Plain Output Waker) → Follows w q → Follows (record w { lock = lock }) q
locked lock w q r =
    subst (λ b. Follows (record w { lock = lock }) (record q { is_static = b })) r.kind
    (unseen w.gone w.leaving lock w.is_static w.waking w.urgent_turns w.inside w.wakers w.ticks w.sleepers.rooms q.inside w q r
    r.asleep r.numbered
    r.waking)

-- the executor's drop begins, or has come so far
pub closing_so : (gone : Bool) (leaving waking : List ℕ) (out : List Bool) (codes : List (Code Output Waker)) (w : World)
    (q : Plain Output Waker) → Follows w q → waking ≡ waking_in codes
    → Follows (record w { gone = gone; leaving = leaving; waking = waking; inside = out }) (record q { inside = codes })
closing_so gone leaving waking out codes w q r woken =
    subst
    (λ b. Follows (record w { gone = gone; leaving = leaving; waking = waking; inside = out })
    (record q { is_static = b; inside = codes }))
    r.kind
    (unseen gone leaving w.lock w.is_static waking w.urgent_turns out w.wakers w.ticks w.sleepers.rooms codes w q r r.asleep
    r.numbered woken)
