-- For runs_end_by_their_own_futures.
-- No run looks at the executor's queues as ticks do.
use Rattle.std.proofs.Common.{◌≡◌, ℕ, ◌<◌, ◌≤◌, ◌%◌, List, [], ◌∷◌, ◌++◌, length, Bool, true, false, refl, ap, arith}
use Rattle.std.specs.Prelude.{reverse}
use Rattle.executor_laws.proofs.Types.{Reply, Event, Kind, Hold, ListOp, Op, RunPoll, Section, Steal, TickOp, Hint, Step}
use Rattle.executor_model.specs.Steps.{Machine, begun, mine, react, run, stack, start, top}
use Rattle.executor_model.specs.Weights.{is_run, weigh, weigh_all}
use Rattle.executor_model.specs.{Doing.list_act, Good.Good, OwnQueues.empty_of, World.World, World.Done, World.done, World.log}
use Rattle.executor_model.proofs.OwnQueues.RunsDone.{to_leave, to_walk, walk_ends, walk_on, Deed, keeps, takes, lacks, shares, grows}
use Rattle.executor_model.proofs.OwnQueues.RunsDone.{wakes, lists, deed-act, is_loud, loud, loud-weigh, walks-by, Stole, More}
use Rattle.executor_model.proofs.OwnQueues.RunsDone.{no_more, one_more, Walks, Missing, misses_there, Leads, turns, finds}
use Rattle.executor_model.proofs.Steps.Lift.{good-start, split, unsettled, weigh_all-idle}
use Rattle.executor_model.proofs.Steps.Lists.{weigh-below, weigh_all-push}
use Rattle.executor_model.proofs.Steps.Ways.Way.{acted, called, reacted}
use Rattle.executor_model.proofs.OwnQueues.OwnCounts.{counts-begun, counts-empty, counts-react}
use Rattle.executor_model.proofs.{OwnQueues.RunsDone.stole, OwnQueues.RunsDone.looks, Steps.Ways.Way, Steps.Ways.along}
use Rattle.executor_model.specs.ActsOfRuns as runs

abbrev pub astray : ℕ → Op → ℕ
astray r (Op.Tick (TickOp.Look s look)) = is_run r s.who
astray r _ = 0

abbrev pub NoneAstray : Machine → Type 0
NoneAstray s = (r : ℕ) → weigh_all (astray r) s.parties ≡ 0

quiet-astray : (r : ℕ) (o : Op) → is_loud o ≡ false → astray r o ≡ 0
quiet-astray r (Op.Tick (TickOp.Look s look)) e = absurd (cc)
quiet-astray r _ e = refl

stole-astray : (r : ℕ) (x : RunPoll) (n : ℕ) (os : List Op) → Stole x n os → weigh (astray r) os ≡ 0
stole-astray r x n os (to_walk at left) = refl
stole-astray r x n os to_leave = refl
stole-astray r x n os _ = refl

more-astray : (r : ℕ) (s : Steal) (k : ℕ) (os : List Op) → More s k os → weigh (astray r) os ≡ 0
more-astray r s k os (no_more z) = stole-astray r _ _ os z
more-astray r s k os (one_more j) = refl

walks-astray : (r : ℕ) (x : RunPoll) (os : List Op) → Walks x os → weigh (astray r) os ≡ 0
walks-astray r x os walk_ends = refl
walks-astray r x os (walk_on q at left) = refl

missing-astray : (r q : ℕ) (o : Op) (os : List Op) → Missing q o os → weigh (astray r) os ≡ 0
missing-astray r q o os (misses_there x at left z) = walks-astray r x os z
missing-astray r q o os _ = refl

leads-astray : (r : ℕ) (o : Op) (os : List Op) → Leads o os → weigh (astray r) os ≤ astray r o
leads-astray r o os (turns s t look e) = omega (arith, ap (is_run r) e)
leads-astray r o os (finds x z) = omega (arith, stole-astray r x 0 os z)
leads-astray r o os (stole a z) = omega (arith, stole-astray r _ _ os z)
leads-astray r o _ (looks x at left {os = os} z) = omega (arith, stole-astray r x 0 os z)
leads-astray r o os _ = omega arith

list-astray : (r : ℕ) (h : Hint) (o : ListOp) (w : World) → weigh (astray r) (list_act h o w).next ≡ 0
list-astray r h (ListOp.Write Section.MakeRun) w = by h.refused
  where
    by : (b : Bool) → weigh (astray r) (runs.make_run_by b w).next ≡ 0
    by true = refl
    by false = refl
list-astray r h (ListOp.LockRead x) w =
    let os = runs.walk x w.listed (h.start % length w.listed) (length w.listed) in omega (
      arith,
      loud-weigh (astray r) (quiet-astray r) os,
      walks-astray r x (loud os) (walks-by x w.listed (h.start % length w.listed) (length w.listed)),
    )
list-astray r h (ListOp.Write (Section.Register x)) w = refl
list-astray r h _ w = refl

as-loud : (r : ℕ) (o : Op) (d : Done) → weigh (astray r) (loud d.next) ≤ astray r o → weigh (astray r) d.next ≤ astray r o
as-loud r o d l = omega (arith, l, loud-weigh (astray r) (quiet-astray r) d.next)

deed-astray : (r : ℕ) (w : World) (o : Op) (d : Done) → Deed w o d → weigh (astray r) d.next ≤ astray r o
deed-astray r w o d (keeps e l) = as-loud r o d (leads-astray r o _ l)
deed-astray r w o d (takes q f rest i e l) = as-loud r o d (leads-astray r o _ l)
deed-astray r w o d (lacks q i e l) = as-loud r o d (omega (arith, missing-astray r q o _ l))
deed-astray r w o d (shares s i k b e m) = as-loud r o d (omega (arith, more-astray r s k _ m))
deed-astray r w o d (grows s k f e m) = as-loud r o d (omega (arith, more-astray r s k _ m))
deed-astray r w o d (wakes p x e z) = as-loud r o d (omega (arith, ap (weigh (astray r)) z))
deed-astray r w o d (lists h l) = omega (arith, list-astray r h l w)

-- the other counts of what a run has found empty see these
below : (r : ℕ) (o : Op) → astray r o ≤ empty_of r o
below r (Op.Tick (TickOp.Look s look)) = omega arith
below r _ = omega arith

way-astray : (s : Machine) (p : ℕ) (old rest : List Op) (d : Done) → Way s p old rest d → (r : ℕ) →
    weigh (astray r) d.next ≤ weigh (astray r) old
way-astray s p old rest d (acted h o q z) r = rw (z, q) (let k : weigh (astray r) _ ≤ astray r o =
    deed-astray r s.world o _ (deed-act p h o s.world) in omega (arith, k))
way-astray s p old rest d (reacted o u a q z) r = rw (z, q) (omega (
  arith,
  counts-empty r _ (counts-react r p o u s.world a).counts,
  weigh-below (astray r) (empty_of r) (below r) (react p o u s.world).next,
))
way-astray s p old rest d (called c q i n z) r =
    let here = mine (top (stack s p)) in
    rw (z, q) (omega (
      arith,
      counts-empty r _ (counts-begun r p s.world here c).counts,
      weigh-below (astray r) (empty_of r) (below r) (begun p (log s.world (Event.CallBegun p c)) here c).next,
    ))

moves : (s : Machine) (p : ℕ) (old rest : List Op) (d : Done) → Good s → p < length s.parties →
    stack s p ≡ rest ++ reverse old → Way s p old rest d → NoneAstray s → NoneAstray (unsettled s p rest d)
moves s p old rest d good l e way h r = omega (
  arith,
  h r,
  split (astray r) s.parties p old rest l e,
  weigh_all-push (astray r) s.parties p rest d.next l,
  way-astray s p old rest d way r,
)

ends : (s : Machine) (p : ℕ) (a : Reply) (held : Hold) (below : List Op) → p < length s.parties →
    stack s p ≡ below ++ reverse (Op.End a held ∷ []) → NoneAstray s →
    NoneAstray (unsettled s p below (done (log s.world (Event.CallEnded p a)) []))
ends s p a held below l e h r = omega (
  arith,
  h r,
  split (astray r) s.parties p (Op.End a held ∷ []) below l e,
  weigh_all-push (astray r) s.parties p below [] l,
)

pub none-astray : (limit : ℕ) (kind : Kind) (parties : ℕ) (steps : List Step) →
    NoneAstray (run steps (start limit kind parties))
none-astray limit kind parties steps = along NoneAstray moves ends steps (start limit kind parties)
    (good-start limit kind parties) (λ r. weigh_all-idle (astray r) parties)
