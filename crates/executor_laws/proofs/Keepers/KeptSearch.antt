-- For keepers_are_called.
-- What a run's search and its steals leave of the own queues and of who has a kept future in hand.
use Rattle.std.proofs.Common.{◌≡◌, ℕ, zero, suc, ◌+◌, ◌≤◌, List, [], ◌∷◌, length, get_or, set, false, refl, ap, arith}
use Rattle.executor_laws.proofs.Types.{Look, First, Second, Op, RunOp, RunPoll, Source, Common, Own, Steal, StealOp}
use Rattle.executor_model.specs.World.{World, Done, own_of, put_own}
use Rattle.executor_model.specs.{Doing.steal_act, Rows.then_waiting, Sound.times, Weights.same, Weights.weigh}
use Rattle.executor_model.proofs.OwnQueues.RunsAside.{Hull, hull}
use Rattle.executor_model.proofs.OwnQueues.RunsMoving.{hull-found, hull-stolen}
use Rattle.executor_laws.proofs.Keepers.KeptWeights.{load-found, load-stolen, load_of, quits-found, quits-stolen, quits-walk}
use Rattle.executor_laws.proofs.Keepers.KeptWeights.{quits_of, readies_of}
use Rattle.executor_laws.proofs.Keepers.KeptLeads.{Leads, count-seated, past-seated, steady}
use Rattle.executor_laws.proofs.{Keepers.KeptGrown.stirs_op, Wakeups.StandsRuns.Walks, Wakeups.StandsRuns.walks-steal}
use Rattle.executor_model.specs.ActsOfRuns as runs

-- searches and steals

times-first : (f r q g : ℕ) (rest : List ℕ) (qs : List (List ℕ)) → get_or qs q [] ≡ g ∷ rest →
    times f (get_or qs r []) ≤ times f (get_or (set qs q rest) r []) + same f g
times-first f r q g rest [] e = omega arith
times-first f zero zero g rest (x ∷ qs) e = omega (arith, ap (times f) e)
times-first f (suc r) zero g rest (x ∷ qs) e = omega arith
times-first f zero (suc q) g rest (x ∷ qs) e = omega arith
times-first f (suc r) (suc q) g rest (x ∷ qs) e = times-first f r q g rest qs e

own-same : (w v : World) → hull w ≡ hull v → (f r : ℕ) → times f (own_of w r) ≡ times f (own_of v r)
own-same w v e f r = ap (λ (h : Hull). times f (get_or h.own r [])) e

pub of-walks : (w : World) (x : RunPoll) (old : List Op) (d : Done) → Walks w x d →
    ((r : ℕ) → weigh (readies_of r) old ≡ 0) → ((r : ℕ) → weigh (quits_of r) d.next ≡ 0) →
    ((f r : ℕ) → times f (own_of w r) + weigh (load_of f) old ≤ times f (own_of d.world r) + weigh (load_of f) d.next) →
    Leads w old d
of-walks w x old d k z q l =
    steady w old d (past-seated w d.world k.calm.seated) (count-seated w d.world k.calm.seated) z q l

pub load-own : (q : List ℕ) (w : World) (x : RunPoll) (f r : ℕ) → own_of w x.run ≡ q →
    times f (own_of w r) ≤ times f (own_of (runs.search_own_by q w x).world r)
    + weigh (load_of f) (runs.search_own_by q w x).next
load-own [] w x f r e = omega arith
load-own (g ∷ rest) w x f r e = let v = put_own w x.run rest in omega (
  arith,
  times-first f r x.run g rest w.own e,
  own-same v (runs.found v x g).world (hull-found v x g) f r,
  load-found f v x g,
)

pub quits-own : (q : List ℕ) (w : World) (x : RunPoll) (r : ℕ) → weigh (quits_of r) (runs.search_own_by q w x).next ≡ 0
quits-own [] w x r = refl
quits-own (g ∷ rest) w x r = quits-found r (put_own w x.run rest) x g

pub keeps-common : (look : Look) (q : List ℕ) (w : World) (x : RunPoll) → Walks w x (runs.search_common_by q w x look) →
    Leads w (Op.Run (RunOp.SearchCommon x look) ∷ []) (runs.search_common_by q w x look)
keeps-common (First mark) [] w x k = of-walks w x _ _ k (λ r. refl) (λ r. refl) (λ f r. omega arith)
keeps-common (Second mark) [] w x k = of-walks w x _ _ k (λ r. refl) (λ r. refl) (λ f r. omega arith)
keeps-common look (g ∷ rest) w x k = of-walks w x _ _ k (λ r. refl) (λ r. refl) (λ f r. omega arith)

pub load-look : (q : List ℕ) (w : World) (x : RunPoll) (at left f r : ℕ) → own_of w x.run ≡ q →
    times f (own_of w r) ≤ times f (own_of (runs.look_own_by q w x at left).world r)
    + weigh (load_of f) (runs.look_own_by q w x at left).next
load-look [] w x at left f r e = omega arith
load-look (g ∷ rest) w x at left f r e = let v = put_own w x.run rest in omega (
  arith,
  times-first f r x.run g rest w.own e,
  own-same v (runs.found v x g).world (hull-found v x g) f r,
  load-found f v x g,
)

pub quits-look : (q : List ℕ) (w : World) (x : RunPoll) (at left r : ℕ) →
    weigh (quits_of r) (runs.look_own_by q w x at left).next ≡ 0
quits-look [] w x at left r = quits-walk r x w.listed at left
quits-look (g ∷ rest) w x at left r = omega (arith, quits-found r (put_own w x.run rest) x g)

-- a steal

load-length : (n : ℕ) (w : World) (s : Steal) (f r : ℕ) →
    times f (own_of w r) + then_waiting f s.then ≤ times f (own_of (runs.steal_length_by n w s).world r)
    + weigh (load_of f) (runs.steal_length_by n w s).next
load-length zero w s f r = omega (
  arith,
  own-same w (runs.stolen s.then w s.poll).world (hull-stolen s.then w s.poll) f r,
  load-stolen f s.then w s.poll,
)
load-length (suc n) w s f r = omega arith

pub load-more : (n : ℕ) (w : World) (s : Steal) (f r : ℕ) →
    times f (own_of w r) + then_waiting f s.then ≤ times f (own_of (runs.steal_by n w s).world r)
    + weigh (load_of f) (runs.steal_by n w s).next
load-more zero w s f r = omega (
  arith,
  own-same w (runs.stolen s.then w s.poll).world (hull-stolen s.then w s.poll) f r,
  load-stolen f s.then w s.poll,
)
load-more (suc n) w s f r = omega arith

load-source : (from : Source) (q : List ℕ) (w : World) (s : Steal) (more f r : ℕ) → s.from ≡ from →
    runs.source_of w from ≡ q →
    times f (own_of w r) + then_waiting f s.then ≤ times f (own_of (runs.steal_take_by q w s more).world r)
    + weigh (load_of f) (runs.steal_take_by q w s more).next
load-source from [] w s more f r i e = omega (
  arith,
  own-same w (runs.stolen s.then w s.poll).world (hull-stolen s.then w s.poll) f r,
  load-stolen f s.then w s.poll,
)
load-source (Common mark) (g ∷ rest) w s more f r i e =
    omega (arith, ap (λ (a : Source). times f (own_of (runs.without_first w a rest) r)) i)
load-source (Own q) (g ∷ rest) w s more f r i e = omega (
  arith,
  ap (λ (a : Source). times f (own_of (runs.without_first w a rest) r)) i,
  times-first f r q g rest w.own e,
)

quits-length : (n : ℕ) (w : World) (s : Steal) (r : ℕ) → weigh (quits_of r) (runs.steal_length_by n w s).next ≡ 0
quits-length zero w s r = quits-stolen r s.then w s.poll
quits-length (suc n) w s r = refl

pub quits-more : (n : ℕ) (w : World) (s : Steal) (r : ℕ) → weigh (quits_of r) (runs.steal_by n w s).next ≡ 0
quits-more zero w s r = quits-stolen r s.then w s.poll
quits-more (suc n) w s r = refl

quits-take : (q : List ℕ) (w : World) (s : Steal) (more r : ℕ) →
    weigh (quits_of r) (runs.steal_take_by q w s more).next ≡ 0
quits-take [] w s more r = quits-stolen r s.then w s.poll
quits-take (g ∷ rest) w s more r = refl

pub keeps-steal : (p : ℕ) (o : StealOp) (w : World) → stirs_op (Op.Steal o) ≡ false →
    Leads w (Op.Steal o ∷ []) (steal_act p o w)
keeps-steal p (StealOp.Length s) w z = of-walks w s.poll _ (steal_act p (StealOp.Length s) w)
    (walks-steal p (StealOp.Length s) w) (λ r. refl) (λ r. quits-length _ w s r)
    (λ f r. omega (arith, load-length (length (runs.source_of w s.from)) w s f r))
keeps-steal p (StealOp.OwnLength s n) w z = of-walks w s.poll _ (steal_act p (StealOp.OwnLength s n) w)
    (walks-steal p (StealOp.OwnLength s n) w) (λ r. refl) (λ r. quits-more _ w s r)
    (λ f r. omega (arith, load-more (runs.share n (runs.free_places w s.poll.run)) w s f r))
keeps-steal p (StealOp.Take s more) w z = of-walks w s.poll _ (steal_act p (StealOp.Take s more) w)
    (walks-steal p (StealOp.Take s more) w) (λ r. refl) (λ r. quits-take _ w s more r)
    (λ f r. omega (arith, load-source s.from (runs.source_of w s.from) w s more f r refl refl))
keeps-steal p (StealOp.Put s more g) w z = absurd (cc)
