-- For own_queues_agree and awaiters_are_kept.
-- In each execution of the machine a run is in one call at most, and where the executor's drop has begun its own queue is
-- empty.
use Rattle.std.proofs.Common.{◌≡◌, ℕ, zero, suc, ◌<◌, ◌≤◌, List, [], ◌∷◌, ◌++◌, length, set, get_or, Bool, true, false, ◌&&◌}
use Rattle.std.proofs.Common.{◌||◌, not, refl, sym, ap, ◌∙◌, subst, inl, ⊎_elim, arith}
use Rattle.std.{specs.Prelude.Option, specs.Prelude.reverse, specs.List.list_any}
use Rattle.executor_model.proofs.Types.{Kind, Call, Reply, Event, Hold, ListOp, Op, RunOp, Section, Step}
use Rattle.executor_model.specs.Steps.{Machine, begun, has_all, has_run, is_drop, is_there, is_unborrowed, is_unused, lives}
use Rattle.executor_model.specs.Rows.{borrowing_of, running_of}
use Rattle.executor_model.specs.Steps.{mine, react, run, stack, start, top}
use Rattle.executor_model.specs.World.{World, Run, Done, done, log, no_run, own_of, run_of}
use Rattle.executor_model.specs.{Doing.act, Good.Good, OwnQueues.IsUsedOnce, Sound.times, Sound.times_in, Weights.weigh_all}
use Rattle.executor_model.proofs.Steps.Lift.{first-true, good, good-start, none_refused, set-own, split, unborrowed, unsettled}
use Rattle.executor_model.proofs.Steps.Lists.{same_is, weigh_all-below, weigh_all-push}
use Rattle.executor_model.proofs.OwnQueues.Using.{emptying-uses, emptying_of, lending_of, polling-uses, polling_of}
use Rattle.executor_model.proofs.OwnQueues.UsingCalls.{FreeRun, used-begun, used-react}
use Rattle.executor_model.proofs.OwnQueues.UsingKeeps.{Used, counts, with_counts}
use Rattle.executor_model.proofs.{Steps.Lift.weigh_all-idle, Steps.Ways.Way, Steps.Ways.along, Steps.Ways.Way.acted}
use Rattle.executor_model.proofs.{Steps.Ways.Way.reacted, Steps.Ways.Way.called, OwnQueues.UsingWorlds.is_over_stage}
use Rattle.executor_model.proofs.{OwnQueues.UsingWorlds.is_past, OwnQueues.UsingActs.used-act, OwnQueues.UsingActs.used-end}

-- the machine

abbrev pub AllUsed : Machine → Type 0
AllUsed s = (r : ℕ) → Used s.world r (counts r s.parties)

split-counts : (r : ℕ) (ss : List (List Op)) (p : ℕ) (old rest : List Op) → p < length ss →
    get_or ss p [] ≡ rest ++ reverse old → counts r ss ≡ with_counts r old (counts r (set ss p rest))
split-counts r ss p old rest l e = λ i. record {
  uses = split (running_of r) ss p old rest l e i;
  polls = split (polling_of r) ss p old rest l e i;
  empties = split (emptying_of r) ss p old rest l e i;
  lends = split (lending_of r) ss p old rest l e i;
}

push-counts : (r : ℕ) (ss : List (List Op)) (p : ℕ) (rest next : List Op) → p < length ss →
    counts r (set ss p (rest ++ reverse next)) ≡ with_counts r next (counts r (set ss p rest))
push-counts r ss p rest next l = λ i. record {
  uses = weigh_all-push (running_of r) ss p rest next l i;
  polls = weigh_all-push (polling_of r) ss p rest next l i;
  empties = weigh_all-push (emptying_of r) ss p rest next l i;
  lends = weigh_all-push (lending_of r) ss p rest next l i;
}

-- what is kept beside what the others have to do here
abbrev KeepsHere : World → List Op → Done → List (List Op) → Type 0
KeepsHere w old d others =
    (r : ℕ) → (counts r others).polls ≤ (counts r others).uses → (counts r others).empties ≤ (counts r others).uses →
    Used w r (with_counts r old (counts r others)) → Used d.world r (with_counts r d.next (counts r others))

used-unsettled : (s : Machine) (p : ℕ) (old rest : List Op) (d : Done) → p < length s.parties →
    stack s p ≡ rest ++ reverse old → KeepsHere s.world old d (set s.parties p rest) → AllUsed s →
    AllUsed (unsettled s p rest d)
used-unsettled s p old rest d l e k h r =
    subst (Used d.world r) (sym (push-counts r s.parties p rest d.next l))
    (k r (weigh_all-below (polling_of r) (running_of r) (polling-uses r) (set s.parties p rest))
    (weigh_all-below (emptying_of r) (running_of r) (emptying-uses r) (set s.parties p rest))
    (subst (Used s.world r) (split-counts r s.parties p old rest l e) (h r)))

unlent-here : (s : Machine) (p : ℕ) (o : Op) (rest : List Op) → p < length s.parties →
    stack s p ≡ rest ++ reverse (o ∷ []) → Good s → s.world.gone ≡ true → borrowing_of o ≡ 0
unlent-here s p o rest l e good g =
    omega (arith, (good.sound 0).lent g, split borrowing_of s.parties p (o ∷ []) rest l e)

and-right : (a b : Bool) → (a && b) ≡ true → b ≡ true
and-right true b e = e
and-right false b e = absurd (cc)

free-run : (w : World) (ss others : List (List Op)) (q r : ℕ) → others ≡ ss → has_run w ss q ≡ true →
    (is_there (run_of w q) ≡ true) × (r ≡ q → weigh_all (running_of r) others ≡ 0)
free-run w ss others q r e k = (
  first-true _ _ k,
  λ z. ap (λ (n : ℕ). weigh_all (running_of n) others) z
      ∙ (ap (weigh_all (running_of q)) e ∙ unborrowed (weigh_all (running_of q) ss) (and-right _ _ k)),
)

all-past : (rs : List Run) (r : ℕ) → list_any is_there rs ≡ false → is_past (get_or rs r no_run) ≡ true
all-past [] r e = refl
all-past (x ∷ rs) zero e = by x.dropped (list_any is_there rs) e
  where
    by : (d c : Bool) → (not d || c) ≡ false → (d || is_over_stage x.stage) ≡ true
    by true c k = refl
    by false c k = absurd (cc)
all-past (x ∷ rs) (suc r) e = all-past rs r (by (is_there x) (list_any is_there rs) e)
  where
    by : (d c : Bool) → (d || c) ≡ false → c ≡ false
    by false c k = k
    by true c k = absurd (cc)

none-there : (a l t : Bool) → (a && not (l || t)) ≡ true → t ≡ false
none-there a l false e = refl
none-there true true true e = absurd (cc)
none-there true false true e = absurd (cc)
none-there false l true e = absurd (cc)

free : (s : Machine) (p : ℕ) (rest : List Op) (o : Option Op) (c : Call) (r : ℕ) → set s.parties p rest ≡ s.parties →
    has_all s.world s.parties o c ≡ true → (not (is_drop c) || is_unborrowed s.world s.parties) ≡ true →
    FreeRun s.world c r (counts r (set s.parties p rest))
free s p rest o (Call.PollRun q b) r e k n = free-run s.world s.parties (set s.parties p rest) q r e (first-true _ _ k)
free s p rest o (Call.DropRun q) r e k n = free-run s.world s.parties (set s.parties p rest) q r e k
free s p rest o Call.DropExecutor r e k n =
    all-past s.world.runs r (none-there (is_unused borrowing_of s.parties) (list_any lives s.world.ticks) _ n)
free s p rest o _ r e k n = tt

pub used-moves : (s : Machine) (p : ℕ) (old rest : List Op) (d : Done) → Good s → p < length s.parties →
    stack s p ≡ rest ++ reverse old → Way s p old rest d → AllUsed s → AllUsed (unsettled s p rest d)
used-moves s p old rest d good l e (acted h o q z) u =
    let e2 : stack s p ≡ rest ++ reverse (o ∷ []) = subst (λ (os : List Op). stack s p ≡ rest ++ reverse os) q e in
    rw z (used-unsettled s p (o ∷ []) rest (act p h o s.world) l e2
    (λ r. used-act p h o s.world (unlent-here s p o rest l e2 good) r _) u)
used-moves s p old rest d good l e (reacted o a k q z) u =
    let e2 : stack s p ≡ rest ++ reverse (o ∷ []) = subst (λ (os : List Op). stack s p ≡ rest ++ reverse os) q e in
    rw z (used-unsettled s p (o ∷ []) rest (react p o a s.world) l e2 (λ r. used-react p o a s.world k r _) u)
used-moves s p old rest d good l e (called c q t n z) u =
    let e2 : stack s p ≡ rest ++ reverse [] = subst (λ (os : List Op). stack s p ≡ rest ++ reverse os) q e in
    let f : _ = none_refused s.world s.parties (top (stack s p)) c n in
    let own : set s.parties p rest ≡ s.parties = ap (set s.parties p) t ∙ set-own s.parties p l in
    rw z (used-unsettled s p [] rest (begun p (log s.world (Event.CallBegun p c)) (mine (top (stack s p))) c) l e2
    (λ r a b. used-begun p s.world (mine (top (stack s p))) c r (counts r (set s.parties p rest)) a b
    (free s p rest (top (stack s p)) c r own f.1 f.3)) u)

pub used-ends : (s : Machine) (p : ℕ) (a : Reply) (held : Hold) (below : List Op) → p < length s.parties →
    stack s p ≡ below ++ reverse (Op.End a held ∷ []) → AllUsed s →
    AllUsed (unsettled s p below (done (log s.world (Event.CallEnded p a)) []))
used-ends s p a held below l e u =
    used-unsettled s p (Op.End a held ∷ []) below (done (log s.world (Event.CallEnded p a)) []) l e
    (λ r. used-end s.world p a held r _) u

pub used-start : (limit : ℕ) (kind : Kind) (n : ℕ) → AllUsed (start limit kind n)
used-start limit kind n r = record {
  once = omega (arith, weigh_all-idle (running_of r) n);
  unborn = λ e. weigh_all-idle (running_of r) n;
  unlent = weigh_all-idle (lending_of r) n;
  polled = λ e. absurd (omega (arith, e, weigh_all-idle (polling_of r) n));
  emptied = λ e. inl refl;
  gone = λ e. let no : false ≡ true = e in absurd (cc);
}

pub all-used : (limit : ℕ) (kind : Kind) (n : ℕ) (ts : List Step) → AllUsed (run ts (start limit kind n))
all-used limit kind n ts = along AllUsed used-moves used-ends ts (start limit kind n) (good-start limit kind n) (used-start limit kind n)

-- so a run is in one call at most
pub is-used-once : (limit : ℕ) (kind : Kind) (n : ℕ) (ts : List Step) (r : ℕ) → IsUsedOnce (run ts (start limit kind n)) r
is-used-once limit kind n ts r = (all-used limit kind n ts r).once

-- and nothing stands in an own queue where the executor's drop has begun

abbrev pub OwnEmptied : Machine → Type 0
OwnEmptied s = s.world.gone ≡ true → (g : ℕ) → times_in g s.world.own ≡ 0

emptying-borrows : (r : ℕ) (o : Op) → emptying_of r o ≤ borrowing_of o
emptying-borrows r (Op.List (ListOp.LockWrite (Section.Unregister q a))) = grind (arith, same_is)
emptying-borrows r (Op.List (ListOp.Write (Section.Unregister q a))) = grind (arith, same_is)
emptying-borrows r (Op.Run (RunOp.Reschedule q a)) = grind (arith, same_is)
emptying-borrows r _ = omega arith

none-in : (g : ℕ) (qs : List (List ℕ)) → ((r : ℕ) → get_or qs r [] ≡ []) → times_in g qs ≡ 0
none-in g [] k = refl
none-in g (q ∷ qs) k = omega (arith, ap (times g) (k 0), none-in g qs (λ r. k (suc r)))

emptied-here : (s : Machine) → Good s → AllUsed s → OwnEmptied s
emptied-here s good u e g = none-in g s.world.own (λ r. ⊎_elim (λ (z : own_of s.world r ≡ []). z)
    (λ (z : 1 ≤ weigh_all (emptying_of r) s.parties). absurd (omega (
      arith,
      z,
      weigh_all-below (emptying_of r) borrowing_of (emptying-borrows r) s.parties,
      (good.sound 0).lent e,
    )))
    ((u r).emptied ((u r).gone e)))

pub own-emptied : (limit : ℕ) (kind : Kind) (n : ℕ) (ts : List Step) → OwnEmptied (run ts (start limit kind n))
own-emptied limit kind n ts = emptied-here (run ts (start limit kind n)) (good limit kind n ts) (all-used limit kind n ts)
