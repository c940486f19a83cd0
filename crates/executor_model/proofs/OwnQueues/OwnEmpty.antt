-- For own_queues_agree.
-- A run that has found its own queue empty, and searches on or falls asleep, has it empty still, as it alone appends
-- there.
use Rattle.std.proofs.Common.{◌≡◌, ◌≢◌, ◌∙◌, ℕ, ◌+◌, ◌<◌, ◌≤◌, ◌%◌, List, [], ◌∷◌, ◌++◌, length, get_or, set, Bool, true, false}
use Rattle.std.proofs.Common.{eqb, refl, ap, ⊎_elim, arith}
use Rattle.std.specs.Prelude.{reverse}
use Rattle.executor_model.proofs.Types.{Reply, Event, Hold, ListOp, Op, RunOp, RunPoll, Section, Steal, StealOp, TickOp, Hint}
use Rattle.executor_model.specs.World.{World, Done, done, log, own_of, put_own}
use Rattle.executor_model.specs.{Doing.list_act, OwnQueues.empty_of, Rows.running_of, Steps.Machine, Steps.begun, Steps.mine}
use Rattle.executor_model.specs.{Steps.react, Steps.stack, Steps.top, Weights.same, Weights.weigh, Weights.weigh_all}
use Rattle.executor_model.proofs.OwnQueues.RunsDone.{to_leave, to_walk, walk_ends, walk_on, Deed, keeps, takes, lacks, shares, grows}
use Rattle.executor_model.proofs.OwnQueues.RunsDone.{wakes, lists, deed-act, is_loud, loud, loud-weigh, walks-by, Stole, More}
use Rattle.executor_model.proofs.OwnQueues.RunsDone.{no_more, one_more, Walks, Missing, misses_there, Leads, turns, finds}
use Rattle.executor_model.proofs.OwnQueues.OwnRooms.{of_coat, Shorter, grown, made-length, needed, of_hull, same-own}
use Rattle.executor_model.proofs.OwnQueues.OwnCounts.{counts-begun, counts-empty, counts-react}
use Rattle.executor_model.proofs.OwnQueues.RunsDone.{stole, looks}
use Rattle.executor_model.proofs.OwnQueues.OwnRooms.{shorter-taken, registered-own}
use Rattle.executor_model.proofs.Steps.Ways.{Way, acted, reacted, called}
use Rattle.executor_model.proofs.{Steps.Lift.split, Steps.Lift.unsettled, Steps.Lists.same_cases, Steps.Lists.weigh_all-push}
use Rattle.executor_model.specs.ActsOfRuns as runs
use Rattle.executor_model.specs.Weights as weights

-- it is so still where old is done, beside others who use the run m times, and have found it empty k times, never
-- where they
-- don't use it
pub record KeepsEmpty (w : World) (old : List Op) (d : Done) : Type 0 where
  pub on : (r m k n : ℕ) → weigh (running_of r) old + m ≤ 1 → (m ≡ 0 → k ≡ 0) → n ≡ weigh (empty_of r) d.next + k →
      (1 ≤ weigh (empty_of r) old + k → own_of w r ≡ []) → 1 ≤ n → own_of d.world r ≡ []

no-length : (xs : List ℕ) → length xs ≤ 0 → xs ≡ []
no-length [] l = refl
no-length (x ∷ xs) l = absurd (omega (arith, l))

still-empty : (w v : World) (r : ℕ) → Shorter w v → own_of w r ≡ [] → own_of v r ≡ []
still-empty w v r s e = no-length (own_of v r) (omega (arith, s.own r, ap (λ (xs : List ℕ). length xs) e))

-- the queues get no longer, and no more have found theirs empty
stays : (w : World) (old : List Op) (d : Done) → Shorter w d.world →
    ((r : ℕ) → weigh (empty_of r) d.next ≤ weigh (empty_of r) old) → KeepsEmpty w old d
stays w old d s f = record {
  on = λ r m k n u z e h l. still-empty w d.world r s (h (omega (arith, l, e, f r)));
}

-- a run has found its own queue empty
empty-there : (w : World) (old : List Op) (d : Done) (q : ℕ) → own_of w q ≡ [] → Shorter w d.world →
    ((r : ℕ) → weigh (empty_of r) d.next ≤ same r q) → KeepsEmpty w old d
empty-there w old d q o s f = record {
  on = λ r m k n u z e h l. still-empty w d.world r s (⊎_elim
      (λ (x : (same r q ≡ 1) × (eqb r q ≡ true) × (r ≡ q)). ap (own_of w) x.2 ∙ o)
      (λ (x : (same r q ≡ 0) × (eqb r q ≡ false) × (r ≢ q)). h (omega (arith, l, e, f r, x.0)))
      (same_cases r q));
}

quiet-empty : (r : ℕ) (o : Op) → is_loud o ≡ false → empty_of r o ≡ 0
quiet-empty r (Op.Tick (TickOp.Look s look)) e = absurd (cc)
quiet-empty r (Op.Tick (TickOp.CopyWaker s)) e = absurd (cc)
quiet-empty r (Op.Tick (TickOp.FallAsleep s)) e = absurd (cc)
quiet-empty r (Op.List o) e = absurd (cc)
quiet-empty r (Op.Run (RunOp.TakeTurn x)) e = absurd (cc)
quiet-empty r (Op.Run (RunOp.SearchCommon x look)) e = absurd (cc)
quiet-empty r _ e = refl

stays-of : (w : World) (o : Op) (d : Done) → Shorter w d.world →
    ((r : ℕ) → weigh (empty_of r) (loud d.next) ≤ empty_of r o) → KeepsEmpty w (o ∷ []) d
stays-of w o d s f = stays w (o ∷ []) d s
    (λ r. omega (arith, f r, loud-weigh (empty_of r) (quiet-empty r) d.next))

-- what a run finds is not that its queue is empty

stole-empty : (r : ℕ) (x : RunPoll) (n : ℕ) (os : List Op) → Stole x n os → weigh (empty_of r) os ≡ 0
stole-empty r x n os (to_walk at left) = refl
stole-empty r x n os to_leave = refl
stole-empty r x n os _ = refl

more-empty : (r : ℕ) (s : Steal) (k : ℕ) (os : List Op) → More s k os → weigh (empty_of r) os ≡ 0
more-empty r s k os (no_more z) = stole-empty r _ _ os z
more-empty r s k os (one_more j) = refl

walks-empty : (r : ℕ) (x : RunPoll) (os : List Op) → Walks x os → weigh (empty_of r) os ≤ same r x.run
walks-empty r x os walk_ends = omega arith
walks-empty r x os (walk_on q at left) = omega arith

missing-empty : (r q : ℕ) (o : Op) (os : List Op) → Missing q o os → weigh (empty_of r) os ≤ same r q
missing-empty r q o os (misses_there x at left z) = walks-empty r x os z
missing-empty r q o os _ = omega arith

leads-empty : (r : ℕ) (o : Op) (os : List Op) → Leads o os → weigh (empty_of r) os ≤ empty_of r o
leads-empty r o os (turns s t look e) = omega (arith, ap (weights.is_run r) e)
leads-empty r o os (finds x z) = omega (arith, stole-empty r x 0 os z)
leads-empty r o os (stole a z) = omega (arith, stole-empty r _ _ os z)
leads-empty r o _ (looks x at left {os = os} z) = omega (arith, stole-empty r x 0 os z)
leads-empty r o os _ = omega arith

empty-grows : (w : World) (s : Steal) (i f : ℕ) (d : Done) →
    Shorter (put_own w s.poll.run (own_of w s.poll.run ++ f ∷ [])) d.world → More s i (loud d.next) →
    KeepsEmpty w (Op.Steal (StealOp.Put s i f) ∷ []) d
empty-grows w s i f d y g = record {
  on = λ r m k n u z e h l.
      let v = put_own w s.poll.run (own_of w s.poll.run ++ f ∷ []) in
      let none = loud-weigh (empty_of r) (quiet-empty r) d.next ∙ more-empty r s i (loud d.next) g in
      ⊎_elim
      (λ (x : (same r s.poll.run ≡ 1) × (eqb r s.poll.run ≡ true) × (r ≡ s.poll.run)).
      absurd (omega (arith, l, e, none, z (omega (arith, u, x.0)))))
      (λ (x : (same r s.poll.run ≡ 0) × (eqb r s.poll.run ≡ false) × (r ≢ s.poll.run)).
      let was : own_of w r ≡ [] = h (omega (arith, l, e, none)) in
      still-empty v d.world r y
      (no-length (own_of v r) (omega (arith, grown w.own s.poll.run f r x.2, ap (λ (xs : List ℕ). length xs) was))))
      (same_cases r s.poll.run);
}

-- the list

empty-make : (b : Bool) (w : World) → KeepsEmpty w (Op.List (ListOp.Write Section.MakeRun) ∷ []) (runs.make_run_by b w)
empty-make true w = stays w _ _ (same-own w w refl) (λ r. omega arith)
empty-make false w = record {
  on = λ r m k n u z e h l. no-length (get_or (w.own ++ [] ∷ []) r [])
      (omega (arith, made-length w.own r, ap (λ (xs : List ℕ). length xs) (h (omega (arith, l, e)))));
}

empty-list : (h : Hint) (o : ListOp) (w : World) → KeepsEmpty w (Op.List o ∷ []) (list_act h o w)
empty-list h (ListOp.Write Section.MakeRun) w = empty-make h.refused w
empty-list h (ListOp.Write (Section.Register x)) w =
    stays w _ _ (same-own w _ (registered-own _ w x.run)) (λ r. omega arith)
empty-list h (ListOp.LockRead x) w = stays-of w _ (runs.lock_read h w x) (same-own w _ refl)
    (λ r. walks-empty r x _ (walks-by x w.listed (h.start % length w.listed) (length w.listed)))
empty-list h _ w = stays w _ _ (same-own w _ refl) (λ r. omega arith)

-- each thing that is done
empty-deed : (w : World) (o : Op) (d : Done) → Deed w o d → KeepsEmpty w (o ∷ []) d
empty-deed w o d (keeps e l) = stays-of w o d (of_coat w d.world e) (λ r. leads-empty r o _ l)
empty-deed w o d (takes q f rest i e l) = stays-of w o d (shorter-taken w d.world q f rest i e)
    (λ r. leads-empty r o _ l)
empty-deed w o d (lacks q i e l) = empty-there w (o ∷ []) d q i (of_coat w d.world e)
    (λ r. omega (arith, loud-weigh (empty_of r) (quiet-empty r) d.next, missing-empty r q o _ l))
empty-deed w o d (shares s i k b e m) = stays-of w o d (of_coat w d.world e)
    (λ r. omega (arith, more-empty r s k _ m))
empty-deed w o d (grows s k f e m) = empty-grows w s k f d (of_coat _ d.world e) m
empty-deed w o d (wakes p x e z) = stays-of w o d (of_coat w d.world e)
    (λ r. omega (arith, ap (weigh (empty_of r)) z))
empty-deed w o d (lists h l) = empty-list h l w

empty-way : (s : Machine) (p : ℕ) (old rest : List Op) (d : Done) → Way s p old rest d → KeepsEmpty s.world old d
empty-way s p old rest d (acted h o q z) = rw (z, q) (empty-deed s.world o _ (deed-act p h o s.world))
empty-way s p old rest d (reacted o u a q z) =
    rw (z, q) (stays s.world (o ∷ []) (react p o u s.world) (of_hull s.world _ (counts-react 0 p o u s.world a).hull)
    (λ r. omega (arith, counts-empty r _ (counts-react r p o u s.world a).counts)))
empty-way s p old rest d (called c q r n z) =
    let here = mine (top (stack s p)) in
    rw (z, q) (stays s.world [] (begun p (log s.world (Event.CallBegun p c)) here c)
    (of_hull s.world _ (counts-begun 0 p s.world here c).hull)
    (λ k. omega (arith, counts-empty k _ (counts-begun k p s.world here c).counts)))

-- every step

-- who has found the own queue empty uses the run
empty-uses : (r : ℕ) (o : Op) → running_of r o ≡ 0 → empty_of r o ≡ 0
empty-uses r (Op.Run (RunOp.TakeTurn x)) z = z
empty-uses r (Op.Run (RunOp.SearchCommon x look)) z = z
empty-uses r (Op.List (ListOp.LockRead x)) z = z
empty-uses r (Op.Tick (TickOp.Look s look)) z = z
empty-uses r (Op.Tick (TickOp.CopyWaker s)) z = z
empty-uses r (Op.Tick (TickOp.FallAsleep s)) z = z
empty-uses r _ z = refl

abbrev pub EmptyMeanwhile : Machine → Type 0
EmptyMeanwhile s = (r : ℕ) → 1 ≤ weigh_all (empty_of r) s.parties → own_of s.world r ≡ []

-- where each run is in one call at most
pub empty-moves : (s : Machine) (p : ℕ) (old rest : List Op) (d : Done) → p < length s.parties →
    stack s p ≡ rest ++ reverse old → Way s p old rest d → ((r : ℕ) → weigh_all (running_of r) s.parties ≤ 1) →
    EmptyMeanwhile s → EmptyMeanwhile (unsettled s p rest d)
empty-moves s p old rest d l e way once h r =
    let others = set s.parties p rest in
    (empty-way s p old rest d way).on r (weigh_all (running_of r) others) (weigh_all (empty_of r) others) _
    (omega (arith, once r, split (running_of r) s.parties p old rest l e))
    (needed (running_of r) (empty_of r) (empty-uses r) others) (weigh_all-push (empty_of r) s.parties p rest d.next l)
    (λ z. h r (omega (arith, z, split (empty_of r) s.parties p old rest l e)))

pub empty-ends : (s : Machine) (p : ℕ) (a : Reply) (held : Hold) (below : List Op) → p < length s.parties →
    stack s p ≡ below ++ reverse (Op.End a held ∷ []) → EmptyMeanwhile s →
    EmptyMeanwhile (unsettled s p below (done (log s.world (Event.CallEnded p a)) []))
empty-ends s p a held below l e h r z = h r (omega (
  arith,
  z,
  split (empty_of r) s.parties p (Op.End a held ∷ []) below l e,
  weigh_all-push (empty_of r) s.parties p below [] l,
))
