-- For some_standing_is_called.
-- What holds at every moment of each tick and run, and of its last poll.
use Rattle.std.proofs.Common.{◌≡◌, ◌⊎◌, ℕ, ◌+◌, ◌==◌, ◌≤◌, List, Bool, true, false, ◌||◌, cond, sym, ◌∙◌, subst, arith}
use Rattle.executor_laws.proofs.Types.{WakerOp, Reply, ListOp, Op, RunOp, RunPoll, Section, TickOrRun, SleeperOp, TickOp}
use Rattle.executor_laws.proofs.Types.{UserOp}
use Rattle.executor_model.specs.{World.World, World.Done, Weights.same, Weights.weigh, Weights.weigh_all, SleepersAgree.sleeps}
use Rattle.executor_model.proofs.OwnQueues.RunsDone.{poll_in}
use Rattle.executor_laws.proofs.Wakeups.Listed.{sum, entry_of, kept_of, misplaced_of}
use Rattle.executor_laws.proofs.Wakeups.Sitting.{eq_who, holds_it, is_it, lives_in, made_in, over_in, owned_in, place_in}
use Rattle.executor_laws.proofs.Wakeups.Watched.{Watched, watched, is_pending, is_refusal}

abbrev pub is_ready : Reply → Bool
is_ready Reply.Ready = true
is_ready Reply.Finished = true
is_ready _ = false

abbrev pub is_answer : Reply → Bool
is_answer r = is_pending r || is_refusal r || is_ready r

-- a call uses it
abbrev pub used_section : TickOrRun → Section → ℕ
used_section who Section.MakeRun = 0
used_section who (Section.Register x) = is_it who (TickOrRun.Run x.run)
used_section who (Section.Unregister q a) = is_it who (TickOrRun.Run q)

abbrev pub used_list : TickOrRun → ListOp → ℕ
used_list who (ListOp.LockWrite s) = used_section who s
used_list who (ListOp.Write s) = used_section who s
used_list who ListOp.UnlockWrite = 0
used_list who (ListOp.LockRead x) = is_it who (TickOrRun.Run x.run)
used_list who ListOp.UnlockRead = 0

abbrev pub used_run : TickOrRun → RunOp → ℕ
used_run who RunOp.MakeRoom = 0
used_run who RunOp.ReturnRoom = 0
used_run who (RunOp.TakeTurn x) = is_it who (TickOrRun.Run x.run)
used_run who (RunOp.SearchCommon x look) = is_it who (TickOrRun.Run x.run)
used_run who (RunOp.LookOwn x at left) = is_it who (TickOrRun.Run x.run)
used_run who (RunOp.WakeOwn x) = is_it who (TickOrRun.Run x.run)
used_run who (RunOp.Reschedule q a) = is_it who (TickOrRun.Run q)

abbrev pub used_of : TickOrRun → Op → ℕ
used_of who (Op.User (UserOp.PollOwn x)) = is_it who (TickOrRun.Run x.run)
used_of who (Op.Tick (TickOp.Search s)) = is_it who s.who
used_of who (Op.Tick (TickOp.Look s look)) = is_it who s.who
used_of who (Op.Tick (TickOp.CopyWaker s)) = is_it who s.who
used_of who (Op.Tick (TickOp.FallAsleep s)) = is_it who s.who
used_of who (Op.List o) = used_list who o
used_of who (Op.Steal o) = is_it who (TickOrRun.Run (poll_in o).run)
used_of who (Op.Run o) = used_run who o
used_of who (Op.End r held) = holds_it who held
used_of who _ = 0

-- stages of a poll of it: before its answer is known, or where it leaves as its own future was ready
abbrev pub early_section : TickOrRun → Section → ℕ
early_section who Section.MakeRun = 0
early_section who (Section.Register x) = is_it who (TickOrRun.Run x.run)
early_section who (Section.Unregister q a) = cond (is_ready a) (is_it who (TickOrRun.Run q)) 0

abbrev pub early_list : TickOrRun → ListOp → ℕ
early_list who (ListOp.LockWrite s) = early_section who s
early_list who (ListOp.Write s) = early_section who s
early_list who ListOp.UnlockWrite = 0
early_list who (ListOp.LockRead x) = is_it who (TickOrRun.Run x.run)
early_list who ListOp.UnlockRead = 0

abbrev pub early_run : TickOrRun → RunOp → ℕ
early_run who RunOp.MakeRoom = 0
early_run who RunOp.ReturnRoom = 0
early_run who (RunOp.TakeTurn x) = is_it who (TickOrRun.Run x.run)
early_run who (RunOp.SearchCommon x look) = is_it who (TickOrRun.Run x.run)
early_run who (RunOp.LookOwn x at left) = is_it who (TickOrRun.Run x.run)
early_run who (RunOp.WakeOwn x) = is_it who (TickOrRun.Run x.run)
early_run who (RunOp.Reschedule q a) = cond (is_ready a) (is_it who (TickOrRun.Run q)) 0

abbrev pub early_of : TickOrRun → Op → ℕ
early_of who (Op.User (UserOp.PollOwn x)) = is_it who (TickOrRun.Run x.run)
early_of who (Op.Tick (TickOp.Search s)) = is_it who s.who
early_of who (Op.Tick (TickOp.Look s look)) = is_it who s.who
early_of who (Op.Tick (TickOp.CopyWaker s)) = is_it who s.who
early_of who (Op.Tick (TickOp.FallAsleep s)) = is_it who s.who
early_of who (Op.List o) = early_list who o
early_of who (Op.Steal o) = is_it who (TickOrRun.Run (poll_in o).run)
early_of who (Op.Run o) = early_run who o
early_of who _ = 0

-- its end, by the answer
abbrev pub pends_of : TickOrRun → Op → ℕ
pends_of who (Op.End r held) = cond (is_pending r) (holds_it who held) 0
pends_of who _ = 0

abbrev pub refused_of : TickOrRun → Op → ℕ
refused_of who (Op.End r held) = cond (is_refusal r) (holds_it who held) 0
refused_of who _ = 0

abbrev pub found_of : TickOrRun → Op → ℕ
found_of who (Op.End r held) = cond (is_ready r) (holds_it who held) 0
found_of who _ = 0

-- the end of another call that uses it
abbrev pub ends_of : TickOrRun → Op → ℕ
ends_of who (Op.End r held) = cond (is_answer r) 0 (holds_it who held)
ends_of who _ = 0

-- it wakes up, or leaves
abbrev pub waking_up_of : TickOrRun → Op → ℕ
waking_up_of who (Op.Tick (TickOp.WakeUp u)) = is_it who u
waking_up_of who (Op.Tick (TickOp.Leave u)) = is_it who u
waking_up_of who _ = 0

-- it is a tick that leaves
abbrev pub drops_who : TickOrRun → TickOrRun → ℕ
drops_who who (TickOrRun.Tick u) = is_it who (TickOrRun.Tick u)
drops_who who (TickOrRun.Run q) = 0

abbrev pub drops_of : TickOrRun → Op → ℕ
drops_of who (Op.Tick (TickOp.Leave u)) = drops_who who u
drops_of who _ = 0

-- what there never is: a copy of a task's waker that would hold it, a leaving that answers a poll which found nothing, or a
-- run's look at the executor's queues as a tick looks
abbrev pub odd_section : TickOrRun → Section → ℕ
odd_section who Section.MakeRun = 0
odd_section who (Section.Register x) = 0
odd_section who (Section.Unregister q a) = cond (is_pending a || is_refusal a) (is_it who (TickOrRun.Run q)) 0

abbrev pub odd_list : TickOrRun → ListOp → ℕ
odd_list who (ListOp.LockWrite s) = odd_section who s
odd_list who (ListOp.Write s) = odd_section who s
odd_list who _ = 0

abbrev pub odd_run : TickOrRun → RunOp → ℕ
odd_run who (RunOp.Reschedule q a) = cond (is_pending a || is_refusal a) (is_it who (TickOrRun.Run q)) 0
odd_run who _ = 0

abbrev pub odd_look : TickOrRun → TickOrRun → ℕ
odd_look who (TickOrRun.Tick u) = 0
odd_look who (TickOrRun.Run q) = is_it who (TickOrRun.Run q)

abbrev pub odd_of : TickOrRun → Op → ℕ
odd_of who (Op.Tick (TickOp.Look s look)) = odd_look who s.who
odd_of who (Op.Waker (WakerOp.CopyWaker f held)) = holds_it who held
odd_of who (Op.List o) = odd_list who o
odd_of who (Op.Run o) = odd_run who o
odd_of who _ = 0

-- a stage of another poll than k
abbrev pub stray : TickOrRun → ℕ → TickOrRun → ℕ → ℕ
stray who k u n = cond (eq_who who u) (cond (k == n) 0 1) 0

abbrev pub strays : TickOrRun → ℕ → RunPoll → ℕ
strays who k x = stray who k (TickOrRun.Run x.run) x.poll

abbrev pub strays_section : TickOrRun → ℕ → Section → ℕ
strays_section who k Section.MakeRun = 0
strays_section who k (Section.Register x) = strays who k x
strays_section who k (Section.Unregister q a) = 0

abbrev pub strays_list : TickOrRun → ℕ → ListOp → ℕ
strays_list who k (ListOp.LockWrite s) = strays_section who k s
strays_list who k (ListOp.Write s) = strays_section who k s
strays_list who k ListOp.UnlockWrite = 0
strays_list who k (ListOp.LockRead x) = strays who k x
strays_list who k ListOp.UnlockRead = 0

abbrev pub strays_run : TickOrRun → ℕ → RunOp → ℕ
strays_run who k RunOp.MakeRoom = 0
strays_run who k RunOp.ReturnRoom = 0
strays_run who k (RunOp.TakeTurn x) = strays who k x
strays_run who k (RunOp.SearchCommon x look) = strays who k x
strays_run who k (RunOp.LookOwn x at left) = strays who k x
strays_run who k (RunOp.WakeOwn x) = strays who k x
strays_run who k (RunOp.Reschedule q a) = 0

abbrev pub strays_of : TickOrRun → ℕ → Op → ℕ
strays_of who k (Op.User (UserOp.PollOwn x)) = strays who k x
strays_of who k (Op.Tick (TickOp.Search s)) = stray who k s.who s.poll
strays_of who k (Op.Tick (TickOp.Look s look)) = stray who k s.who s.poll
strays_of who k (Op.Tick (TickOp.CopyWaker s)) = stray who k s.who s.poll
strays_of who k (Op.Tick (TickOp.FallAsleep s)) = stray who k s.who s.poll
strays_of who k (Op.List o) = strays_list who k o
strays_of who k (Op.Steal o) = strays who k (poll_in o)
strays_of who k (Op.Run o) = strays_run who k o
strays_of who k _ = 0

-- the waker of poll k is about to be called
abbrev pub calls_of : TickOrRun → ℕ → Op → ℕ
calls_of who k (Op.Sleeper (SleeperOp.CallSleeper s)) = cond (eq_who who s.who) (same k s.poll) 0
calls_of who k _ = 0

-- it has to end a poll of it
abbrev pub asks_of : TickOrRun → Op → ℕ
asks_of who o = early_of who o + (pends_of who o + (refused_of who o + found_of who o))

-- what the parties have still to do with it
pub record Doing : Type 0 where
  pub used : ℕ
  pub early : ℕ
  pub pends : ℕ
  pub refused : ℕ
  pub found : ℕ
  pub ends : ℕ
  pub waking_up : ℕ
  pub drops : ℕ
  pub odd : ℕ
  pub strays : ℕ → ℕ
  pub calls : ℕ → ℕ

abbrev pub with_doing : TickOrRun → List Op → Doing → Doing
with_doing who os r = record {
  used = weigh (used_of who) os + r.used;
  early = weigh (early_of who) os + r.early;
  pends = weigh (pends_of who) os + r.pends;
  refused = weigh (refused_of who) os + r.refused;
  found = weigh (found_of who) os + r.found;
  ends = weigh (ends_of who) os + r.ends;
  waking_up = weigh (waking_up_of who) os + r.waking_up;
  drops = weigh (drops_of who) os + r.drops;
  odd = weigh (odd_of who) os + r.odd;
  strays = λ k. weigh (strays_of who k) os + r.strays k;
  calls = λ k. weigh (calls_of who k) os + r.calls k;
}

abbrev pub doing : TickOrRun → List (List Op) → Doing
doing who ss = record {
  used = weigh_all (used_of who) ss;
  early = weigh_all (early_of who) ss;
  pends = weigh_all (pends_of who) ss;
  refused = weigh_all (refused_of who) ss;
  found = weigh_all (found_of who) ss;
  ends = weigh_all (ends_of who) ss;
  waking_up = weigh_all (waking_up_of who) ss;
  drops = weigh_all (drops_of who) ss;
  odd = weigh_all (odd_of who) ss;
  strays = λ k. weigh_all (strays_of who k) ss;
  calls = λ k. weigh_all (calls_of who k) ss;
}

-- what the world has of a tick or run
pub record View : Type 0 where
  pub slumbering : ℕ
  pub living : Bool
  -- whether it was made, and whether it is a run that is over
  pub made : Bool
  pub over : Bool
  -- its entries in the list of sleepers, those under another number than its own, and those of its poll k
  pub entries : ℕ
  pub misplaced : ℕ
  pub kept : ℕ → ℕ
  -- how much stands in its own queue
  pub owned : ℕ
  -- the executor's drop has begun
  pub gone : Bool
  pub seen : Watched

abbrev pub view : TickOrRun → World → View
view who w = record {
  slumbering = sleeps (place_in who w.ticks w.runs);
  living = lives_in who w.ticks w.runs;
  made = made_in who w.ticks w.runs;
  over = over_in who w.runs;
  entries = sum (entry_of who) w.sleepers.wakers;
  misplaced = sum (misplaced_of who (place_in who w.ticks w.runs)) w.sleepers.wakers;
  kept = λ k. sum (kept_of who k) w.sleepers.wakers;
  owned = owned_in who w.own;
  gone = w.gone;
  seen = watched who w.trace;
}

-- the poll that is open in the trace, and how many the parties have to end
pub record Mark : Type 0 where
  pub asking : Bool
  pub party : ℕ
  pub inner : ℕ
  pub asks : ℕ

-- what is used beside: of all x, of which r is what remains where the next thing to do is taken away
pub record Footing (x r : Doing) : Type 0 where
  pub stages : x.early + (x.pends + (x.refused + (x.found + x.ends))) ≤ x.used
  pub few : (k : ℕ) → x.strays k ≤ x.early
  pub leaves : x.drops ≤ x.waking_up
  -- who wakes up or leaves is in use
  pub tied : 1 ≤ x.waking_up → 1 ≤ x.used
  pub bound : 1 ≤ r.waking_up → 1 ≤ r.used
  pub base : r.early + (r.pends + (r.refused + (r.found + r.ends))) ≤ r.used

pub record Stands (v : View) (x : Doing) (m : Mark) : Type 0 where
  pub asking : v.seen.asking ≡ m.asking
  pub party : v.seen.party ≡ m.party
  pub inner : v.seen.inner ≡ m.inner
  pub asks : x.early + (x.pends + (x.refused + x.found)) ≡ m.asks
  -- one call uses it at a time, and none before it is made
  pub single : x.used ≤ 1
  pub unborn : v.made ≡ false → x.used ≡ 0
  pub even : x.odd ≡ 0
  pub begun : 1 ≤ x.early + (x.pends + (x.refused + x.found)) → v.seen.asking ≡ true
  pub idle : v.seen.pending ≡ true → x.used ≡ 0
  pub comes : x.strays v.seen.poll ≡ 0
  -- it has one entry at most, under its own number
  pub one : v.entries ≤ 1
  pub placed : v.misplaced ≡ 0
  -- who sleeps, or keeps something, was answered so, or is in use
  pub asleep : 1 ≤ v.slumbering → (v.seen.pending ≡ true) ⊎ ((v.seen.refused ≡ true) ⊎ (1 ≤ x.used))
  pub keeps : 1 ≤ v.owned → (v.seen.pending ≡ true) ⊎ ((v.seen.refused ≡ true) ⊎ (1 ≤ x.used))
  pub up : 1 ≤ x.found + x.ends → (v.slumbering ≡ 0) ⊎ (1 ≤ x.waking_up)
  pub empty : 1 ≤ x.found + x.ends → v.owned ≡ 0
  pub wakes_up : 1 ≤ x.waking_up → x.pends ≡ 0
  -- who is over neither sleeps nor keeps anything, but while it leaves
  pub ready : v.over ≡ true → x.pends + x.refused ≡ 0
  pub rests : v.over ≡ true → ((v.slumbering ≡ 0) × (v.owned ≡ 0)) ⊎ (1 ≤ x.used)
  -- it lives until it is dropped
  pub alive : (v.seen.pending ≡ true) ⊎ ((v.seen.refused ≡ true) ⊎
      (1 ≤ x.early + (x.pends + (x.refused + x.found)))) → v.living ≡ true
  pub dropping : 1 ≤ x.drops → v.seen.left ≡ true
  pub dropped : v.seen.left ≡ true → (1 ≤ x.drops) ⊎ (v.living ≡ false)
  pub parted : v.seen.left ≡ true → (v.seen.pending ≡ false) × (v.seen.refused ≡ false) ×
      (x.early + (x.pends + (x.refused + x.found)) ≡ 0)
  pub known : v.seen.left ≡ true → v.made ≡ true
  pub borrowed : v.gone ≡ true → v.living ≡ false
  -- who stands has its waker in the list, or it was called, or is about to be
  pub covered : (v.seen.pending ≡ true) ⊎ (1 ≤ x.pends) →
      (1 ≤ v.kept v.seen.poll) ⊎ ((v.seen.called ≡ true) ⊎ (1 ≤ x.calls v.seen.poll))

-- it keeps what holds of who it is, but for the mark
abbrev pub KeepsBy : TickOrRun → World → List Op → Done → (Mark → Mark) → Type 0
KeepsBy who w old d mark = (r : Doing) (m : Mark) → Footing (with_doing who old r) r →
    Stands (view who w) (with_doing who old r) m →
    Stands (view who d.world) (with_doing who d.next r) (mark m)

abbrev pub KeepsStands : TickOrRun → World → List Op → Done → Type 0
KeepsStands who w old d = KeepsBy who w old d (λ m. m)

-- nothing of it is to do with who it is
pub record Nothing (who : TickOrRun) (os : List Op) : Type 0 where
  pub used : weigh (used_of who) os ≡ 0
  pub early : weigh (early_of who) os ≡ 0
  pub pends : weigh (pends_of who) os ≡ 0
  pub refused : weigh (refused_of who) os ≡ 0
  pub found : weigh (found_of who) os ≡ 0
  pub ends : weigh (ends_of who) os ≡ 0
  pub waking_up : weigh (waking_up_of who) os ≡ 0
  pub drops : weigh (drops_of who) os ≡ 0
  pub odd : weigh (odd_of who) os ≡ 0
  pub strays : (k : ℕ) → weigh (strays_of who k) os ≡ 0
  pub calls : (k : ℕ) → weigh (calls_of who k) os ≡ 0

none-more : (n m : ℕ) → n ≡ 0 → n + m ≡ m
none-more n m z = omega (arith, z)

pub with-nothing : (who : TickOrRun) (os : List Op) (r : Doing) → Nothing who os → with_doing who os r ≡ r
with-nothing who os r n = λ i. record {
  used = none-more (weigh (used_of who) os) r.used n.used i;
  early = none-more (weigh (early_of who) os) r.early n.early i;
  pends = none-more (weigh (pends_of who) os) r.pends n.pends i;
  refused = none-more (weigh (refused_of who) os) r.refused n.refused i;
  found = none-more (weigh (found_of who) os) r.found n.found i;
  ends = none-more (weigh (ends_of who) os) r.ends n.ends i;
  waking_up = none-more (weigh (waking_up_of who) os) r.waking_up n.waking_up i;
  drops = none-more (weigh (drops_of who) os) r.drops n.drops i;
  odd = none-more (weigh (odd_of who) os) r.odd n.odd i;
  strays = λ k. none-more (weigh (strays_of who k) os) (r.strays k) (n.strays k) i;
  calls = λ k. none-more (weigh (calls_of who k) os) (r.calls k) (n.calls k) i;
}

-- what has nothing to do with it keeps all of it
pub keeps-same : (who : TickOrRun) (w : World) (old : List Op) (d : Done) → view who d.world ≡ view who w →
    Nothing who old → Nothing who d.next → KeepsStands who w old d
keeps-same who w old d v a b r m f h =
    subst (λ (x : View × Doing). Stands x.0 x.1 m)
    (λ i. (sym v i, (with-nothing who old r a ∙ sym (with-nothing who d.next r b)) i)) h
