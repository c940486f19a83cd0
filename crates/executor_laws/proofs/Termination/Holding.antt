-- For calls_end and lone_calls_end.
-- Whoever has the lock of the list of queues has what it does under it, or its giving back, next to do.
use Rattle.std.proofs.Common.{◌≡◌, ◌∙◌, ℕ, zero, suc, ◌+◌, ◌-◌, ◌<◌, ◌≤◌, ◌%◌, List, [], ◌∷◌, ◌++◌, length, set, drop, get_or}
use Rattle.std.proofs.Common.{take, Bool, true, false, ltb, refl, sym, ap, subst, arith}
use Rattle.std.proofs.lemmas.List.{append_assoc, reverse-append}
use Rattle.std.specs.Prelude.{Option, Some, None, reverse, slice_get}
use Rattle.executor_laws.proofs.Types.{StepError, Busy, UserEnd, Look, First, Second, Call, Reply, Event, Kind, Hold, ListOp}
use Rattle.executor_laws.proofs.Types.{Op, Polled, RunOp, RunPoll, Section, TickOrRun, Sleeping, Steal, StealOp, Then, TickOp}
use Rattle.executor_laws.proofs.Types.{UserOp, Waker, Hint, Step}
use Rattle.executor_model.specs.Steps.{Machine, accepts, begun, below_top, is_free, mine, react, run, stack, start, top, unless}
use Rattle.executor_model.specs.Doing.{act, list_act, run_act, search_by_who, steal_act, tick_act}
use Rattle.executor_model.specs.World.{World, Done, done, log, place_of, put_own, queue_of}
use Rattle.executor_model.specs.{Steps.waits, ActsOfSleepers.look_tick, Acts.mark_in, Good.Good, OwnQueues.filling_of}
use Rattle.executor_model.specs.{OwnQueues.reads_of, OwnQueues.writes_of, Weights.weigh, Weights.weigh_all}
use Rattle.executor_laws.specs.GoingOn.{held_of}
use Rattle.executor_model.proofs.OwnQueues.RunsMoving.{Weighs, is_search, slumbering-blind, walk-by, weighs-found}
use Rattle.executor_model.proofs.Steps.Lift.{good-start, split, topped, unsettled, weigh_all-idle}
use Rattle.executor_model.proofs.OwnQueues.OwnCounts.{counts-begun, counts-react, counts-reads, counts-writes}
use Rattle.executor_model.proofs.OwnQueues.OwnRooms.{Roomy, roomy-ends, roomy-moves}
use Rattle.executor_model.proofs.OwnQueues.RunsAside.{apart-act, is_run, runs_of, unseen}
use Rattle.executor_model.proofs.OwnQueues.UsingSteps.{AllUsed, used-ends, used-moves, used-start}
use Rattle.executor_model.proofs.Steps.Ways.{Way, acted, reacted, called, along}
use Rattle.executor_model.proofs.Steps.Lists.{weigh-append, weigh-reverse}
use Rattle.executor_model.proofs.Steps.SleepersNext.{Blind, search-blind}
use Rattle.executor_model.proofs.{OwnQueues.RunsMoving.weighs-stolen, Table.Spawning.top-last, Steps.Reached.Reached}
use Rattle.executor_model.proofs.OwnQueues.OwnRooms.{has-free}
use Rattle.executor_laws.proofs.Termination.Beside.{by_reference}
use Rattle.executor_model.specs.ActsOfRuns as runs

-- nothing that is done under the lock, or gives it back, follows later than next
abbrev FirstHolds : List Op → Type 0
FirstHolds next = weigh held_of (drop 1 next) ≡ 0

none-held : (next : List Op) → weigh held_of next ≡ 0 → FirstHolds next
none-held [] z = refl
none-held (o ∷ os) z = omega (arith, z)

unheld : (o : Op) → runs_of o ≡ 0 → held_of o ≡ 0
unheld (Op.List o) z = absurd (omega (arith, z))
unheld (Op.Steal o) z = absurd (omega (arith, z))
unheld (Op.Run o) z = absurd (omega (arith, z))
unheld _ z = refl

blind-held : Blind held_of
blind-held = record {
  tick = λ o. refl;
  exchange = refl;
  returns = refl;
  call = λ s. refl;
  release = λ f. refl;
  end = λ a who. refl;
  made = λ a. refl;
}

found-held : (x : RunPoll) → Weighs held_of x 0 1
found-held x = record {
  exchange = refl;
  up = λ who. refl;
  take_up = λ f. refl;
  search = refl;
  wake = refl;
  steal = λ f. refl;
  steal_plain = λ f. refl;
  look = λ at left. refl;
}

found-none : (w : World) (x : RunPoll) (f : ℕ) → weigh held_of (runs.found w x f).next ≡ 0
found-none w x f = weighs-found held_of x 0 1 (found-held x) w f

first-stolen : (t : Then) (w : World) (x : RunPoll) → FirstHolds (runs.stolen t w x).next
first-stolen (Then.Found f) w x = none-held (runs.found w x f).next (found-none w x f)
first-stolen (Then.StealPlain f) w x = refl
first-stolen (Then.Run f) w x =
    none-held (runs.stolen (Then.Run f) w x).next (weighs-stolen held_of x 0 1 (found-held x) (Then.Run f) w)
first-stolen (Then.Walk at left) w x = refl

first-length : (n : ℕ) (w : World) (s : Steal) → FirstHolds (runs.steal_length_by n w s).next
first-length zero w s = first-stolen s.then w s.poll
first-length (suc n) w s = refl

first-more : (n : ℕ) (w : World) (s : Steal) → FirstHolds (runs.steal_by n w s).next
first-more zero w s = first-stolen s.then w s.poll
first-more (suc n) w s = refl

first-take : (q : List ℕ) (w : World) (s : Steal) (more : ℕ) → FirstHolds (runs.steal_take_by q w s more).next
first-take [] w s more = first-stolen s.then w s.poll
first-take (f ∷ rest) w s more = refl

first-put : (b : Bool) (p : ℕ) (w : World) (s : Steal) (more f : ℕ) → b ≡ true →
    FirstHolds (runs.steal_put_by b p w s more f).next
first-put true p w s more f e = first-more more (runs.kept_by p w s.poll.run f) s
first-put false p w s more f e = absurd (cc)

-- a steal that is on its way finds a place
abbrev HasFree : World → Op → Type 0
HasFree w o = (x : Steal) (more f : ℕ) → o ≡ Op.Steal (StealOp.Put x more f) →
    ltb 0 (runs.free_places w x.poll.run) ≡ true

first-steal : (p : ℕ) (o : StealOp) (w : World) → HasFree w (Op.Steal o) → FirstHolds (steal_act p o w).next
first-steal p (StealOp.Length s) w k = first-length _ w s
first-steal p (StealOp.OwnLength s n) w k = first-more _ w s
first-steal p (StealOp.Take s more) w k = first-take _ w s more
first-steal p (StealOp.Put s more f) w k = first-put _ p w s more f (k s more f refl)

first-own : (q : List ℕ) (w : World) (x : RunPoll) → FirstHolds (runs.search_own_by q w x).next
first-own [] w x = refl
first-own (f ∷ rest) w x = let v : World = put_own w x.run rest in
    none-held (runs.found v x f).next (found-none v x f)

first-search : (who : TickOrRun) (p : ℕ) (w : World) (s : Sleeping) → FirstHolds (search_by_who who p w s).next
first-search (TickOrRun.Tick t) p w s =
    refl
first-search (TickOrRun.Run r) p w s = first-own _ w _

first-tick : (p : ℕ) (h : Hint) (o : TickOp) (w : World) (b : Bool) → is_search o ≡ b → FirstHolds (tick_act p h o w).next
first-tick p h o w false e = none-held (tick_act p h o w).next (slumbering-blind held_of blind-held p h o w e)
first-tick p h (TickOp.Search s) w true e = first-search s.who p w s
first-tick p h (TickOp.Look s look) w true e = none-held (look_tick w s look).next
    (search-blind held_of blind-held look (λ f. refl) (place_of w s.who) w (queue_of w (mark_in look)).items s)
first-tick p h _ w true e = absurd (cc)

first-walk : (x : RunPoll) (qs : List ℕ) (at left : ℕ) → FirstHolds (runs.walk x qs at left)
first-walk x = walk-by FirstHolds x refl (λ r at left. refl)

first-look : (q : List ℕ) (w : World) (x : RunPoll) (at left : ℕ) → FirstHolds (runs.look_own_by q w x at left).next
first-look [] w x at left = first-walk x w.listed at left
first-look (f ∷ rest) w x at left = found-none (put_own w x.run rest) x f

first-common : (look : Look) (q : List ℕ) (w : World) (x : RunPoll) → FirstHolds (runs.search_common_by q w x look).next
first-common (First mark) [] w x = refl
first-common (Second mark) [] w x = refl
first-common look (f ∷ rest) w x = refl

first-made : (b : Bool) (w : World) → FirstHolds (runs.make_run_by b w).next
first-made true w = refl
first-made false w = refl

first-list : (h : Hint) (o : ListOp) (w : World) → FirstHolds (list_act h o w).next
first-list h (ListOp.Write Section.MakeRun) w = first-made _ w
first-list h (ListOp.LockRead x) w = first-walk x w.listed (h.start % length w.listed) (length w.listed)
first-list h _ w = refl

first-wake : (p : ℕ) (w : World) (x : RunPoll) → FirstHolds (runs.wake_own p w x).next
first-wake p w x =
    let v : World = log w (Event.WakerCalled p (Polled.Run x.run) x.poll x.waker) in
    let next : List Op = (runs.call_by_reference p v x.waker).next in
    none-held (runs.wake_own p w x).next (omega (
      arith,
      weigh-append held_of next (Op.End Reply.Pending (Hold.Run x.run) ∷ []),
      unseen held_of unheld next (by_reference p v x.waker).1,
    ))

first-reschedule : (q : List ℕ) (w : World) (r : ℕ) (a : Reply) → FirstHolds (runs.reschedule_by q w r a).next
first-reschedule [] w r a = refl
first-reschedule (f ∷ rest) w r a = refl

first-room : (b : Bool) (w : World) → FirstHolds (runs.make_room_by b w).next
first-room true w = refl
first-room false w = refl

first-run : (p : ℕ) (h : Hint) (o : RunOp) (w : World) → FirstHolds (run_act p h o w).next
first-run p h RunOp.MakeRoom w = first-room _ w
first-run p h RunOp.ReturnRoom w = refl
first-run p h (RunOp.TakeTurn x) w = refl
first-run p h (RunOp.SearchCommon x look) w = first-common look _ w x
first-run p h (RunOp.LookOwn x at left) w = first-look _ w x at left
first-run p h (RunOp.WakeOwn x) w = first-wake p w x
first-run p h (RunOp.Reschedule r a) w = first-reschedule _ w r a

first-act : (p : ℕ) (h : Hint) (o : Op) (w : World) (b : Bool) → is_run o ≡ b → HasFree w o →
    FirstHolds (act p h o w).next
first-act p h o w false e k =
    none-held (act p h o w).next (unseen held_of unheld (act p h o w).next (apart-act p h o w e).runs)
first-act p h (Op.Tick o) w true e k = first-tick p h o w _ refl
first-act p h (Op.List o) w true e k = first-list h o w
first-act p h (Op.Steal o) w true e k = first-steal p o w k
first-act p h (Op.Run o) w true e k = first-run p h o w
first-act p h (Op.User (UserOp.PollOwn x)) w true e k = refl
first-act p h _ w true e k = absurd (cc)

counted-none : (os : List Op) → weigh writes_of os ≡ 0 → weigh reads_of os ≡ 0 → weigh held_of os ≡ 0
counted-none [] a b = refl
counted-none (o ∷ os) a b = omega (arith, a, b, counted-none os (omega (arith, a)) (omega (arith, b)))

first-react : (p : ℕ) (o : Op) (u : UserEnd) (w : World) → accepts o u ≡ true → FirstHolds (react p o u w).next
first-react p o u w a =
    let z = (counts-react 0 p o u w a).counts in
    let next : List Op = (react p o u w).next in
    none-held next (counted-none next (counts-writes 0 next z) (counts-reads 0 next z))

first-begun : (p : ℕ) (w : World) (here : Option Waker) (c : Call) →
    FirstHolds (begun p (log w (Event.CallBegun p c)) here c).next
first-begun p w here c =
    let z = (counts-begun 0 p w here c).counts in
    let next : List Op = (begun p (log w (Event.CallBegun p c)) here c).next in
    none-held next (counted-none next (counts-writes 0 next z) (counts-reads 0 next z))

-- what stands below the tops of all stacks

abbrev pub weigh_below : (Op → ℕ) → List (List Op) → ℕ
weigh_below v [] = 0
weigh_below v (s ∷ ss) = weigh v (below_top s) + weigh_below v ss

below-set : (v : Op → ℕ) (ss : List (List Op)) (p : ℕ) (y : List Op) → p < length ss →
    weigh_below v (set ss p y) + weigh v (below_top (get_or ss p [])) ≡ weigh_below v ss + weigh v (below_top y)
below-set v [] p y h = absurd (omega (arith, h))
below-set v (s ∷ ss) zero y h = omega arith
below-set v (s ∷ ss) (suc p) y h = omega (arith, below-set v ss p y (omega (arith, h)))

take-less : (v : Op → ℕ) (n : ℕ) (os : List Op) → weigh v (take n os) ≤ weigh v os
take-less v zero os = omega arith
take-less v (suc n) [] = omega arith
take-less v (suc n) (o ∷ os) = omega (arith, take-less v n os)

below-last : (v : Op → ℕ) (os : List Op) (o : Op) → weigh v (below_top (os ++ o ∷ [])) ≡ weigh v os
below-last v os o = omega (
  arith,
  ap (weigh v) (topped (os ++ o ∷ []) o (top-last os o)),
  weigh-append v (below_top (os ++ o ∷ [])) (o ∷ []),
  weigh-append v os (o ∷ []),
)

below-push : (rest next : List Op) → weigh held_of rest ≡ 0 → FirstHolds next →
    weigh held_of (below_top (rest ++ reverse next)) ≡ 0
below-push rest [] z k = omega (
  arith,
  z,
  take-less held_of (length (rest ++ []) - 1) (rest ++ []),
  weigh-append held_of rest [],
)
below-push rest (o ∷ os) z k =
    let parts : rest ++ reverse (o ∷ os) ≡ (rest ++ reverse os) ++ o ∷ [] =
    ap (λ (xs : List Op). rest ++ xs) (reverse-append (o ∷ []) os) ∙ sym (append_assoc rest (reverse os) (o ∷ [])) in
    omega (
      arith,
      z,
      k,
      ap (λ (xs : List Op). weigh held_of (below_top xs)) parts,
      below-last held_of (rest ++ reverse os) o,
      weigh-append held_of rest (reverse os),
      weigh-reverse held_of os,
    )

-- in each run

record OnTop (s : Machine) : Type 0 where
  used : AllUsed s
  roomy : Roomy s
  below : weigh_below held_of s.parties ≡ 0

-- where a party goes on
on-moved : (s : Machine) (p : ℕ) (rest : List Op) (d : Done) → p < length s.parties →
    weigh held_of rest ≡ 0 → FirstHolds d.next → weigh_below held_of s.parties ≡ 0 →
    weigh_below held_of (unsettled s p rest d).parties ≡ 0
on-moved s p rest d l z k b = omega (
  arith,
  b,
  below-set held_of s.parties p (rest ++ reverse d.next) l,
  below-push rest d.next z k,
)

below-here : (s : Machine) (p : ℕ) → p < length s.parties → weigh_below held_of s.parties ≡ 0 →
    weigh held_of (below_top (stack s p)) ≡ 0
below-here s p l b = omega (arith, b, below-set held_of s.parties p [] l)

-- one thing is done on top of the rest, which has none
rest-none : (s : Machine) (p : ℕ) (o : Op) (rest : List Op) → p < length s.parties →
    stack s p ≡ rest ++ reverse (o ∷ []) → weigh_below held_of s.parties ≡ 0 → weigh held_of rest ≡ 0
rest-none s p o rest l e b = omega (
  arith,
  below-here s p l b,
  ap (λ (xs : List Op). weigh held_of (below_top xs)) e,
  below-last held_of rest o,
)

first-true : (a : Bool) (r : Option StepError) → unless a Busy r ≡ None → a ≡ true
first-true true r k = refl
first-true false r k = absurd (cc)

waiting-none : (o : Op) → waits o ≡ true → held_of o ≡ 0
waiting-none (Op.User o) e = refl
waiting-none _ e = absurd (cc)

within : (os : List Op) (n : ℕ) → n < length os → slice_get os n ≡ None → ⊥
within [] n l e = absurd (omega (arith, l))
within (x ∷ xs) zero l e = absurd (cc)
within (x ∷ xs) (suc n) l e = within xs n (omega (arith, l)) e

pub has-top : (x : Op) (xs : List Op) → top (x ∷ xs) ≡ None → ⊥
has-top x xs e = within (x ∷ xs) (length (x ∷ xs) - 1) (omega arith) e

-- whoever may begin a call has not the lock
free-none : (os : List Op) (o : Option Op) → top os ≡ o → is_free o ≡ true → weigh held_of (below_top os) ≡ 0 →
    weigh held_of os ≡ 0
free-none [] o e f z = refl
free-none (x ∷ xs) None e f z = absurd (has-top x xs e)
free-none (x ∷ xs) (Some o) e f z = omega (
  arith,
  z,
  ap (weigh held_of) (topped (x ∷ xs) o e),
  weigh-append held_of (below_top (x ∷ xs)) (o ∷ []),
  waiting-none o f,
)

free-here : (s : Machine) (o : Op) → ((r : ℕ) → filling_of r o ≤ weigh_all (filling_of r) s.parties) → Roomy s →
    HasFree s.world o
free-here s o k h x more f i =
    has-free s x more f (h x.poll.run) (omega (arith, k x.poll.run, ap (filling_of x.poll.run) i))

top-moves : (s : Machine) (p : ℕ) (old rest : List Op) (d : Done) → p < length s.parties →
    stack s p ≡ rest ++ reverse old → Way s p old rest d → OnTop s →
    weigh_below held_of (unsettled s p rest d).parties ≡ 0
top-moves s p old rest d l e (acted h o q z) k =
    let e2 : stack s p ≡ rest ++ reverse (o ∷ []) = subst (λ (os : List Op). stack s p ≡ rest ++ reverse os) q e in
    let free : HasFree s.world o =
    free-here s o (λ r. omega (arith, split (filling_of r) s.parties p (o ∷ []) rest l e2)) k.roomy in
    rw z (on-moved s p rest (act p h o s.world) l (rest-none s p o rest l e2 k.below)
    (first-act p h o s.world (is_run o) refl free) k.below)
top-moves s p old rest d l e (reacted o u a q z) k =
    let e2 : stack s p ≡ rest ++ reverse (o ∷ []) = subst (λ (os : List Op). stack s p ≡ rest ++ reverse os) q e in
    rw z (on-moved s p rest (react p o u s.world) l (rest-none s p o rest l e2 k.below)
    (first-react p o u s.world a) k.below)
top-moves s p old rest d l e (called c q t n z) k =
    let here = mine (top (stack s p)) in
    let free : is_free (top (stack s p)) ≡ true = first-true (is_free (top (stack s p))) _ n in
    rw z (on-moved s p rest (begun p (log s.world (Event.CallBegun p c)) here c) l
    (ap (weigh held_of) t ∙ free-none (stack s p) _ refl free (below-here s p l k.below))
    (first-begun p s.world here c) k.below)

on-moves : (s : Machine) (p : ℕ) (old rest : List Op) (d : Done) → Good s → p < length s.parties →
    stack s p ≡ rest ++ reverse old → Way s p old rest d → OnTop s → OnTop (unsettled s p rest d)
on-moves s p old rest d good l e way k = record {
  used = used-moves s p old rest d good l e way k.used;
  roomy = roomy-moves s p old rest d l e way (λ r. (k.used r).once) k.roomy;
  below = top-moves s p old rest d l e way k;
}

on-ends : (s : Machine) (p : ℕ) (a : Reply) (held : Hold) (below : List Op) → p < length s.parties →
    stack s p ≡ below ++ reverse (Op.End a held ∷ []) → OnTop s →
    OnTop (unsettled s p below (done (log s.world (Event.CallEnded p a)) []))
on-ends s p a held below l e k = record {
  used = used-ends s p a held below l e k.used;
  roomy = roomy-ends s p a held below l e k.roomy;
  below = on-moved s p below (done (log s.world (Event.CallEnded p a)) []) l
      (rest-none s p (Op.End a held) below l e k.below) refl k.below;
}

below-idle : (kind : Kind) (v : Op → ℕ) (n : ℕ) → weigh_below v (start 0 kind n).parties ≡ 0
below-idle kind v zero = refl
below-idle kind v (suc n) = omega (arith, below-idle kind v n)

on-top : (limit : ℕ) (kind : Kind) (n : ℕ) (ts : List Step) → OnTop (run ts (start limit kind n))
on-top limit kind n ts = along OnTop on-moves on-ends ts (start limit kind n) (good-start limit kind n) (record {
  used = used-start limit kind n;
  roomy = λ r. omega (arith, weigh_all-idle (filling_of r) n);
  below = below-idle kind held_of n;
})

-- nothing of it stands below a top
pub held-on-top : (s : Machine) → Reached s → weigh_below held_of s.parties ≡ 0
held-on-top s r = subst (λ (m : Machine). weigh_below held_of m.parties ≡ 0) (sym r.is)
    (on-top r.limit r.kind r.parties r.steps).below
