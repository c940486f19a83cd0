-- User code ends in which the poll of a run stands that took a future, and not its 200th: the run goes on, to the next or to its answer.
use Rattle.std.proofs.Common.{◌≡◌, ◌⊎◌, ℕ, ◌≤◌, ◌<◌, nat_lt, Bool, true, false, List, [], ◌∷◌, length, Option, Some, None, slice_get}
use Rattle.std.proofs.Common.{inl, inr, if◌then◌else◌, refl, sym, ap, subst, ◌∙◌, arith}
use Rattle.executor_parts.specs.Marks.{first_of}
use Rattle.task_moves.specs.AbstractTask as abstract
use Rattle.executor_model.specs.declared.op.Op.{Op}
use Rattle.executor_model.specs.declared.op.RunPoll.{RunPoll}
use Rattle.executor_model.specs.declared.op.Waker.{Waker}
use Rattle.executor_model.specs.World.{Done, World, done}
use Rattle.plain_scheduler.specs.State.{Choice, Closed, Drop, Granted, Lose, Plain, Poll, Run, Running, Taker}
use Rattle.plain_scheduler.specs.Lists.{any, or}
use Rattle.plain_scheduler.specs.Moves.{is_due, task}
use Rattle.plain_scheduler.specs.Searches.{behind_drop, behind_loss, behind_pending}
use Rattle.plain_scheduler.specs.Takes as plain_takes
use Rattle.plain_scheduler.specs.Calls.{Call, does, Ends, Pends}
use Rattle.machine_roads.specs.View.{Output, wakes}
use Rattle.machine_roads.specs.Road.{Follows}
use Rattle.machine_roads.specs.Alone.{alone, is_resting}
use Rattle.machine_roads.specs.Alike.{upon}
use Rattle.machine_roads.specs.Dropped.{Drops, dropped, lost}
use Rattle.machine_roads.specs.Forgotten.{forgotten}
use Rattle.machine_roads.specs.GoingOn.{GoesOnSo, RunDropsAlike, RunForgetsAlike, RunLosesAlike, RunPendsAlike, on}
use Rattle.machine_roads.specs.Searching.{CanTake, IsLast, goes_on_by, start_of}
use Rattle.machine_roads.specs.Stopped.{Stopped, Stops, answered, pended, taken_by}
use Rattle.machine_roads.proofs.Forgetting.{forgotten_by}
use Rattle.machine_roads.proofs.Passing.{GoesBy, Passes, passed, stood, telling}
use Rattle.machine_roads.proofs.Pending.{pends_by}
use Rattle.machine_roads.proofs.RunEnding.{dropped_by, lost_by}
use Rattle.machine_roads.proofs.RunLies.{lies_so}
use Rattle.machine_roads.proofs.RunFinding.{pick}
use Rattle.machine_roads.proofs.RunSearching.{searches}
use Rattle.machine_roads.proofs.RunsStay.{RunsStay}
use Rattle.machine_roads.proofs.Standing.{Stands, StandsSo, StaysSo, stopped_so, stops_so}

-- it has taken fewer than 200
few_taken : (q : Plain Output Waker) (r : ℕ) → CanTake q r → nat_lt (taken_by r q) 200 ≡ true
few_taken q r can = by (slice_get q.runs r) can.going
  where
    by : (o : Option Running) → or o (λ run. nat_lt run.taken 200) true ≡ true → nat_lt (or o (λ run. run.taken) 0) 200 ≡ true
    by None going = refl
    by (Some run) going = going

still_takes : (q b : Plain Output Waker) (r : ℕ) → RunsStay q b → CanTake q r → CanTake b r
still_takes q b r stay can = record {
  going = ap (λ (rs : List Running). or (slice_get rs r) (λ run. nat_lt run.taken 200) true) stay.runs ∙ can.going;
  left = λ k over.
      stay.kept k ∙ can.left k (ap (λ (rs : List Running). or (slice_get rs k) (λ run. run.is_over) true) (sym stay.runs) ∙ over);
}

-- a choice that tells so many
abbrev telling_all : ℕ → Choice
telling_all n = record { first = first_of 0; keeps = []; robs = 0; moves = 0; tells = n; refusal = Granted }

least : (k n : ℕ) → k < n → k ≤ n
least k n is = omega (arith, is)

module _ (p : ℕ) (x : RunPoll) (n : ℕ) (below : List Op) (under : is_resting below ≡ true) (q : Plain Output Waker)
    (can : CanTake q x.run) (room : length q.lying < n) (end : Done) (rests : is_resting end.next ≡ true) (e : Call Output Waker)
    (z : Plain Output Waker) where
  abbrev taker : Taker Waker
  taker = Run x.run x.waker

  abbrev new : Choice → Plain Output Waker
  new d = does wakes d e z

  -- it tells who lay down last
  abbrev its : World → Choice
  its w = record { first = first_of w.urgent_turns; keeps = []; robs = 0; moves = 0; tells = n; refusal = Granted }

  goes_on : (behind : Choice → Option (Plain Output Waker)) → Passes p taker (on x) below q n end new behind → GoesOnSo x n below q end e z
  goes_on behind pass = by (any is_due b.due) refl
    where
      b : Plain Output Waker
      b = pass.before

      can_b : CanTake b x.run
      can_b = still_takes q b x.run pass.stay can

      few : nat_lt (taken_by x.run b) 200 ≡ true
      few = few_taken b x.run can_b

      fit : length b.lying < n
      fit = omega (arith, room, pass.stay.lying)

      takes : (d : Choice) → new (telling n d) ≡ plain_takes.take wakes (telling n d) taker b
      takes d =
          pass.is d
          ∙ ap
          (λ k. if k then plain_takes.take wakes (telling n d) taker b else plain_takes.gives_way wakes (telling n d) x.run x.waker b) few

      by : (some : Bool) → any is_due b.due ≡ some → GoesOnSo x n below q end e z
      by true some =
          let c = its pass.so.world in
          let g =
          searches p below under end rests c x (start_of p pass.so.way.hints (done pass.so.world (goes_on_by x false ∷ below)))
          pass.so.world b pass.so.follows (least (length b.lying) n fit) can_b some refl (record { way = pass.so.way; starts = refl }) in
          let d = pick p below under end rests c x g.0 g.1 g.2 in
          let last = g.3 in
          let new_is = takes d in (
            d,
            last,
            refl,
            stops_so taker (goes_on_by x last) below q end (new d)
                (subst (StandsSo taker (goes_on_by x last) below q end) (sym new_is)
                (record {
                  stands =
                      subst
                      (λ codes. Stands taker (goes_on_by x last) below codes end.world end.next (plain_takes.take wakes d taker b).inside)
                      pass.inside g.4.stood.stands;
                  follows = g.4.stood.follows;
                })),
            subst (IsLast x.run last) (sym new_is) g.4.early,
          )
      by false none =
          let c = its pass.so.world in
          let g = lies_so p x below end under rests c pass.so.world b pass.so.follows fit none pass.so.way in
          let d : Choice = record c { refusal = g.0 } in
          let y = plain_takes.take wakes d taker b in
          let new_is = takes d in (
            d,
            false,
            refl,
            subst (Stops taker (on x) below q end) (sym new_is)
                (record {
                  stopped =
                      subst (λ codes. Stopped taker (on x) below q.inside end.next codes) (sym (g.3 ∙ pass.inside))
                      (subst (λ os. Stopped taker (on x) below q.inside os q.inside) (sym g.1) answered);
                  follows = g.2;
                }),
            subst (IsLast x.run false) (sym new_is)
                (ap (λ (rs : List Running). nat_lt (or (slice_get rs x.run) (λ run. run.taken) 0) 200) g.4 ∙ few),
          )

  -- or more user code has come before that
  goes_by : (behind : Choice → Option (Plain Output Waker))
      → GoesBy p taker (on x) below q n end new behind (StaysSo taker (on x) below q end) → GoesOnSo x n below q end e z
  goes_by behind (passed so) = goes_on behind so
  goes_by behind (stood so stays none) =
      let d = telling_all n in (
        d,
        false,
        refl,
        stopped_so taker (on x) below q end (new d) (so d),
        few_taken (new d) x.run (still_takes q (new d) x.run (stays d) can),
      )

  drops_by : (behind : Choice → Option (Plain Output Waker)) (f : ℕ)
      → GoesBy p taker (on x) below q n end new behind (Drops taker (on x) below f q end)
      → GoesOnSo x n below q end e z ⊎ ((d : Choice) × (d.tells ≡ n) × Drops taker (on x) below f q end (new d))
  drops_by behind f (passed so) = inl (goes_on behind so)
  drops_by behind f (stood so stays none) =
      let d = telling_all n in inr (d, refl, so d)

pub run_pends : (p : ℕ) (here : Option Waker) (below : List Op) (w : World) (q : Plain Output Waker) → is_resting below ≡ true
    → Follows w q → RunPendsAlike p here below w q
run_pends p here below w q under follows x n f is can room hints has rests =
    goes_by p x n below under q can room (alone p hints (pended p f (on x) below w)) rests Pends
    (record q { inside = Poll f (Run x.run x.waker) ∷ q.inside }) (λ d. behind_pending wakes d (abstract.pending_end (task f q)) f q)
    (pends_by p below w q under follows (Run x.run x.waker) (on x) f is (telling_all n) (least (length q.lying) n room) hints has rests)

pub run_drops : (p : ℕ) (here : Option Waker) (below : List Op) (w : World) (q : Plain Output Waker) → is_resting below ≡ true
    → Follows w q → RunDropsAlike p here below w q
run_drops p here below w q under follows x n f m why known entered ends can room hints has rests =
    drops_by p x n below under q can room (alone p hints (upon below (dropped m (on x) p f w))) rests Ends
    (record q { inside = Drop f why (Run x.run x.waker) ∷ q.inside }) (λ d. behind_drop wakes d f why q) f
    (dropped_by p below w q under follows (Run x.run x.waker) (on x) f m why known entered ends (telling_all n)
    (least (length q.lying) n room) hints has rests)

pub run_loses : RunLosesAlike
run_loses x n p f below w q awaiter under ending can room hints has rests =
    goes_on p x n below under q can room (alone p hints (upon below (lost (on x) p f w))) rests Ends
    (record q { inside = Lose awaiter (Some (Run x.run x.waker)) ∷ q.inside }) (λ d. Some (behind_loss wakes d awaiter q))
    (lost_by (Run x.run x.waker) (on x) p f below w q awaiter (telling_all n) ending (least (length q.lying) n room) hints has rests)

pub run_forgets : RunForgetsAlike
run_forgets x n p f below w q under is can room hints has rests =
    goes_on p x n below under q can room (alone p hints (upon below (forgotten (on x) p f w))) rests Ends
    (record q { inside = Drop f Closed (Run x.run x.waker) ∷ q.inside }) (λ d. behind_drop wakes d f Closed q)
    (forgotten_by (Run x.run x.waker) (on x) p f below w q (telling_all n) is (least (length q.lying) n room) hints has rests)
