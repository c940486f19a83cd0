-- For table_and_queue_agree, no_append_is_refused_full, the_limit_is_exact, drops_come_once, early_drops_have_causes
-- and closing_drops_each_future_once.
-- In each execution every future leaves the table as it should, and no append finds its queue full.
use Rattle.std.proofs.Common.{◌≡◌, ℕ, zero, suc, ◌+◌, ◌<◌, ◌≤◌, List, [], ◌∷◌, ◌++◌, length, set, Bool, true, false, ◌&&◌, not}
use Rattle.std.proofs.Common.{refl, subst, inl, ⊎_elim, arith}
use Rattle.std.{proofs.lemmas.Bool.Decides.nat_tests, specs.Prelude.reverse, specs.Prelude.nat_lt}
use Rattle.executor_model.proofs.Types.{Mark, Kind, Reply, Event, Hold, Op, Move, QueueOp, StealOp, TableOp, Step}
use Rattle.executor_model.specs.World.{World, Done, done, log, among, queue_of, mark_of}
use Rattle.executor_model.specs.Sound.{Pend, pend, queued, times}
use Rattle.executor_model.specs.Steps.{Machine, stack, idle, run, start, mine, top}
use Rattle.executor_model.specs.{Weights.same, Good.Good, OwnQueues.filling_of, Rows.waiting_of, Rows.drops_of}
use Rattle.executor_model.specs.Rows.{leaves_of}
use Rattle.executor_model.proofs.Table.LeavingAll.{NeedsPlaces, leaves-effect, leaves-pends, leaves-readies, leaves-closes}
use Rattle.executor_model.proofs.Steps.QueuesByMark.{any-shut, times-one}
use Rattle.executor_model.proofs.Steps.Lift.{split, unsettled, good-start}
use Rattle.executor_model.proofs.Steps.Ways.Way.{acted, reacted, called}
use Rattle.executor_model.proofs.OneFuture.Stories.{story, story-none, among_is, no-longer}
use Rattle.executor_model.proofs.OneFuture.Extras.{closing_of, no_extra, extra}
use Rattle.executor_model.proofs.Table.Leaving.{Base, based, Entered, Leaves}
use Rattle.executor_model.proofs.OneFuture.EffectsWays.{Effects, effects-way, ended, lifted, view_with, view-start}
use Rattle.executor_model.proofs.OneFuture.EffectsWays.Effects.{does, pends, readies, closes}
use Rattle.executor_model.proofs.OwnQueues.OwnExecutions.{Owning, owning-ends, owning-moves, owning-start}
use Rattle.executor_model.proofs.OwnQueues.OwnRooms.{has-free}
use Rattle.executor_model.proofs.Table.Borrowing.{bare_all, Tidy, bare-moved, none-uses, drop-uses-all}
use Rattle.executor_model.proofs.Table.TidyingGroups.{NeedsNoEntry, tidy-act, tidy-react, tidy-begun}
use Rattle.executor_model.proofs.{Steps.Cases.by_bool, OneFuture.Views.none, OneFuture.Views.seen, Steps.Ways.Way}
use Rattle.executor_model.proofs.{Steps.Ways.along, OneFuture.Telling.same-standing, Table.LeavingAll.leaves-end}

pub record Placed (s : Machine) : Type 0 where
  pub leaves : (g : ℕ) → Leaves s.world g (pend g s.parties) (extra g s.parties)
  pub bare : bare_all s.parties ≡ 0
  pub owning : Owning s

-- a Runnable on its way finds a place in either queue

waits-here : (s : Machine) (p f : ℕ) (rest : List Op) (g : ℕ) → p < length s.parties →
    stack s p ≡ rest ++ reverse (Op.Queue (QueueOp.Append f) ∷ []) → same g f ≤ (pend g s.parties).waiting
waits-here s p f rest g l e =
    omega (arith, split (waiting_of g) s.parties p (Op.Queue (QueueOp.Append f) ∷ []) rest l e)

stands-once : (w : World) (g f : ℕ) (p : Pend) (st : ℕ) (m : Mark) → same g f ≤ p.waiting →
    queued w g + (p.waiting + (p.polls + (p.ending + (p.ready + (p.closing + (p.settling + p.giving))))))
    ≤ 1 → (1 ≤ queued w g + (p.waiting + (p.polls + p.ending)) → 1 ≤ st) →
    same g f + times g (queue_of w m).items ≤ st
stands-once w g f p st m a o r = let z = times-one g m w.queues in grind arith

pub has-place : (s : Machine) (p f : ℕ) (rest : List Op) → p < length s.parties →
    stack s p ≡ rest ++ reverse (Op.Queue (QueueOp.Append f) ∷ []) → Good s → Placed s → (m : Mark) →
    length (queue_of s.world m).items < s.world.limit
has-place s p f rest l e good h m =
    let xs : List ℕ = (queue_of s.world m).items in
    let n : length (f ∷ xs) ≤ length (story 0 s.world.trace).standing =
    no-longer (f ∷ xs) (story 0 s.world.trace).standing
    (λ g. subst (λ (ys : List ℕ). times g (f ∷ xs) ≤ times g ys) (same-standing g 0 s.world.trace)
    (stands-once s.world g f (pend g s.parties) _ m (waits-here s p f rest g l e) (good.sound g).one
    (h.leaves g).runs)) in
    omega (arith, n, (h.leaves 0).few)

-- before the drop of the executor begins, no more futures stand than have an entry
pub has-entries : (s : Machine) → s.world.gone ≡ false → Placed s → (g : ℕ) →
    length (story g s.world.trace).standing ≤ length s.world.table
has-entries s n h k = no-longer (story k s.world.trace).standing s.world.table
    (λ g. subst (λ (xs : List ℕ). times g xs ≤ times g s.world.table) (same-standing g k s.world.trace)
    (omega (arith, (h.leaves g).table (inl n), (h.leaves g).stay n)))

no-room : (c : Bool) (n m : ℕ) → n < m → (not c && nat_lt n m) ≡ false → c ≡ true
no-room = by_bool _
    (λ n m l e. refl)
    (λ n m l e. absurd (grind (arith, nat_tests)))

needs-places : (s : Machine) (p : ℕ) (o : Op) (rest : List Op) → p < length s.parties →
    stack s p ≡ rest ++ reverse (o ∷ []) → Good s → Placed s → NeedsPlaces s.world o
needs-places s p (Op.Queue (QueueOp.Append f)) rest l e good h =
    λ n. let m : Mark = mark_of s.world f in
    any-shut m s.world.queues (no-room (queue_of s.world m).closed _ _ (has-place s p f rest l e good h m) n)
needs-places s p (Op.Table (TableOp.Enter mark)) rest l e good h =
    λ b n g. let x : length s.world.table < s.world.limit = grind (arith, nat_tests) in
    omega (arith, x, has-entries s n h g)
needs-places s p (Op.Steal (StealOp.Put x more f)) rest l e good h = has-free s x more f (h.owning.roomy x.poll.run)
    (omega (arith, split (filling_of x.poll.run) s.parties p (Op.Steal (StealOp.Put x more f) ∷ []) rest l e))
needs-places s p _ rest l e good h = tt

-- a Runnable that is dropped is one of a future that has no entry any more

closing-here : (s : Machine) (p f : ℕ) (rest : List Op) → p < length s.parties →
    stack s p ≡ rest ++ reverse (Op.Move Move.DropRunnable f ∷ []) → 1 ≤ (extra f s.parties).closing
closing-here s p f rest l e = omega (arith, split closing_of s.parties p (Op.Move Move.DropRunnable f ∷ []) rest l e)

no-entry : (f : ℕ) (xs : List ℕ) → times f xs ≡ 0 → among f xs ≡ false
no-entry f xs z = ⊎_elim (λ (x : (among f xs ≡ true) × (1 ≤ times f xs)). absurd (omega (arith, x.1, z)))
    (λ (x : (among f xs ≡ false) × (times f xs ≡ 0)). x.0) (among_is f xs)

needs-no-entry : (s : Machine) (p : ℕ) (o : Op) (rest : List Op) → p < length s.parties →
    stack s p ≡ rest ++ reverse (o ∷ []) → Placed s → NeedsNoEntry s.world o
needs-no-entry s p (Op.Move Move.DropRunnable f) rest l e h =
    let x : _ = (h.leaves f).late (closing-here s p f rest l e) in
    no-entry f s.world.table ((h.leaves f).swept x.0 x.1).0
needs-no-entry s p _ rest l e h = tt

-- every step

leaves-way : (s : Machine) (p : ℕ) (old rest : List Op) (d : Done) → Good s → p < length s.parties →
    stack s p ≡ rest ++ reverse old → Placed s → Effects s.world s.parties old d → (g : ℕ) →
    Base (view_with (set s.parties p rest) s.world old g) → Entered (view_with (set s.parties p rest) s.world old g) →
    Entered (view_with (set s.parties p rest) d.world d.next g)
leaves-way s p old rest d good l e h (does x) g b k =
    leaves-effect s.world old d (λ o q. needs-places s p o rest l
    (subst (λ (os : List Op). stack s p ≡ rest ++ reverse os) q e) good h) x g _ _ b k
leaves-way s p old rest d good l e h (pends q f) g b k = leaves-pends q f s.world g _ _ b k
leaves-way s p old rest d good l e h (readies q f) g b k = leaves-readies q f s.world g _ _ b k
leaves-way s p old rest d good l e h (closes q n u) g b k =
    leaves-closes q s.world g _ _ n
    (omega (
      arith,
      none-uses s.parties u h.bare,
      drop-uses-all g s.parties,
      split (drops_of g) s.parties p [] rest l e,
      split (leaves_of g) s.parties p [] rest l e,
    )) b k

tidy-way : (s : Machine) (p : ℕ) (old rest : List Op) (d : Done) → p < length s.parties →
    stack s p ≡ rest ++ reverse old → Placed s → Way s p old rest d → Tidy old d.next
tidy-way s p old rest d l e h (acted t o q z) =
    rw z (rw q (tidy-act p t o s.world
    (needs-no-entry s p o rest l (subst (λ (os : List Op). stack s p ≡ rest ++ reverse os) q e) h)))
tidy-way s p old rest d l e h (reacted o u a q z) = rw z (rw q (tidy-react p o u s.world a))
tidy-way s p old rest d l e h (called c q r n z) =
    rw z (rw q (tidy-begun p (log s.world (Event.CallBegun p c)) (mine (top (stack s p))) c))

pub placed-moves : (s : Machine) (p : ℕ) (old rest : List Op) (d : Done) → Good s → p < length s.parties →
    stack s p ≡ rest ++ reverse old → Way s p old rest d → Placed s → Placed (unsettled s p rest d)
placed-moves s p old rest d good l e way h = record {
  leaves = lifted Base Entered s p old rest l e d
      (leaves-way s p old rest d good l e h (effects-way s p old rest d good l e way))
      (λ g. based s.world g (pend g s.parties) (extra g s.parties) (good.sound g)) h.leaves;
  bare = bare-moved s.parties p old rest d.next l e (tidy-way s p old rest d l e h way) h.bare;
  owning = owning-moves s p old rest d good l e way h.owning;
}

pub placed-ends : (s : Machine) (p : ℕ) (a : Reply) (held : Hold) (below : List Op) → p < length s.parties →
    stack s p ≡ below ++ reverse (Op.End a held ∷ []) → Placed s →
    Placed (unsettled s p below (done (log s.world (Event.CallEnded p a)) []))
placed-ends s p a held below l e h = record {
  leaves = ended Entered s p a held below l e (leaves-end s.world p a held) h.leaves;
  bare = bare-moved s.parties p (Op.End a held ∷ []) below [] l e (record { keeps = λ x. refl }) h.bare;
  owning = owning-ends s p a held below l e h.owning;
}

bare-idle : (n : ℕ) → bare_all (idle n) ≡ 0
bare-idle zero = refl
bare-idle (suc n) = omega (arith, bare-idle n)

pub placed-start : (limit : ℕ) (kind : Kind) (n : ℕ) → Placed (start limit kind n)
placed-start limit kind n = record {
  leaves = λ g. view-start Entered limit kind n g (none_placed limit kind g);
  bare = bare-idle n;
  owning = owning-start limit kind n;
}
  where
    none_placed : (limit : ℕ) (kind : Kind) (g : ℕ) → Entered (seen (start limit kind 0).world g none no_extra)
    none_placed limit kind g = grind (arith, story-none)

pub placed : (limit : ℕ) (kind : Kind) (n : ℕ) (ts : List Step) → Placed (run ts (start limit kind n))
placed limit kind n ts = along Placed placed-moves placed-ends ts (start limit kind n) (good-start limit kind n) (placed-start limit kind n)
