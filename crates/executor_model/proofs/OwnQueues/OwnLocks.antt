-- For own_queues_agree.
-- Who has the lock of the list of queues has one thing still to do under it, or to give it back.
use Rattle.std.proofs.Common.{◌≡◌, ◌∙◌, ℕ, ◌+◌, ◌<◌, ◌%◌, List, [], ◌∷◌, ◌++◌, length, set, Bool, true, false, ◌||◌, not, eqb}
use Rattle.std.proofs.Common.{cond, refl, sym, ap, subst, arith}
use Rattle.std.{proofs.lemmas.Bool.Decides.nat_tests, specs.Prelude.reverse}
use Rattle.executor_model.proofs.Types.{Kind, Reply, Event, Hold, ListOp, Op, RunOp, RunPoll, Section, Steal, Hint, Step}
use Rattle.executor_model.specs.OwnQueues.{LockAgrees, reads_of, walks_then, writes_of}
use Rattle.executor_model.specs.Steps.{Machine, accepts, begun, is_locked_out, mine, react, run, stack, start, top}
use Rattle.executor_model.specs.World.{World, Stage, New, Listed, Ended, Lock, Done, done, log, own_of, put_own}
use Rattle.executor_model.specs.{Doing.list_act, Good.Good, Weights.weigh, Weights.weigh_all}
use Rattle.executor_model.proofs.OwnQueues.RunsDone.{to_leave, to_walk, walk_ends, walk_on, Deed, keeps, takes, lacks, shares, grows}
use Rattle.executor_model.proofs.OwnQueues.RunsDone.{wakes, lists, deed-act, is_loud, loud, loud-weigh, walks-by, Stole, More}
use Rattle.executor_model.proofs.OwnQueues.RunsDone.{no_more, one_more, Walks, Missing, misses_there, Leads, quiet, finds}
use Rattle.executor_model.proofs.Steps.Lift.{good-start, split, unsettled, weigh_all-idle}
use Rattle.executor_model.proofs.OwnQueues.OwnCounts.{counts-begun, counts-react, counts-reads, counts-writes}
use Rattle.executor_model.proofs.OwnQueues.RunsAside.{Hull, hull, hull_of}
use Rattle.executor_model.proofs.Steps.Ways.{HasWay, Way, acted, reacted, called, along-free}
use Rattle.executor_model.proofs.{Types.UserEnd, Steps.Lists.weigh_all-push, OwnQueues.RunsDone.stole, OwnQueues.RunsDone.looks}
use Rattle.executor_model.specs.ActsOfRuns as runs

abbrev ones : Bool → ℕ
ones b = cond b 1 0

-- the lock has a writer and readers as they are counted
pub record IsLocked (l : Lock) (writes reads : ℕ) : Type 0 where
  pub writing : writes ≡ cond l.writing 1 0
  pub reading : reads ≡ l.readers
  pub apart : l.writing ≡ true → l.readers ≡ 0

-- it stays so where old is done, beside others who have still to write i times and to read k times
pub record KeepsLock (w : World) (old : List Op) (d : Done) : Type 0 where
  pub on : (i k m n : ℕ) → m ≡ weigh writes_of d.next + i → n ≡ weigh reads_of d.next + k →
      IsLocked w.lock (weigh writes_of old + i) (weigh reads_of old + k) → IsLocked d.world.lock m n

-- the lock stays, and as much is done under it as before
stays-lock : (w : World) (old : List Op) (d : Done) → w.lock ≡ d.world.lock →
    weigh writes_of d.next ≡ weigh writes_of old → weigh reads_of d.next ≡ weigh reads_of old → KeepsLock w old d
stays-lock w old d e a b = record {
  on = λ i k m n x y l. record {
    writing = omega (arith, x, a, l.writing, ap (λ (z : Lock). ones z.writing) e);
    reading = omega (arith, y, b, l.reading, ap (λ (z : Lock). z.readers) e);
    apart = λ q. ap (λ (z : Lock). z.readers) (sym e) ∙ l.apart (ap (λ (z : Lock). z.writing) e ∙ q);
  };
}

of_hull : (w v : World) → hull w ≡ hull v → w.lock ≡ v.lock
of_hull w v e = ap (λ (h : Hull). h.lock) e

quiet-writes : (o : Op) → is_loud o ≡ false → writes_of o ≡ 0
quiet-writes (Op.List o) e = absurd (cc)
quiet-writes _ e = refl

quiet-reads : (o : Op) → is_loud o ≡ false → reads_of o ≡ 0
quiet-reads (Op.List o) e = absurd (cc)
quiet-reads (Op.Steal o) e = absurd (cc)
quiet-reads (Op.Run (RunOp.LookOwn x at left)) e = absurd (cc)
quiet-reads _ e = refl

-- so much is to be written, and so much to be read
abbrev Under : List Op → ℕ → ℕ → Type 0
Under os i k = (weigh writes_of os ≡ i) × (weigh reads_of os ≡ k)

stays : (w : World) (o : Op) (d : Done) → w.lock ≡ d.world.lock → Under (loud d.next) (writes_of o) (reads_of o) →
    KeepsLock w (o ∷ []) d
stays w o d e u = stays-lock w (o ∷ []) d e (omega (arith, u.0, loud-weigh writes_of quiet-writes d.next))
    (omega (arith, u.1, loud-weigh reads_of quiet-reads d.next))

under-stole : (x : RunPoll) (n : ℕ) (os : List Op) → Stole x n os → Under os 0 n
under-stole x n os (to_walk at left) = (refl, refl)
under-stole x n os to_leave = (refl, refl)
under-stole x n os _ = (refl, refl)

under-more : (s : Steal) (k : ℕ) (os : List Op) → More s k os → Under os 0 (walks_then s.then)
under-more s k os (no_more z) = under-stole _ _ os z
under-more s k os (one_more j) = (refl, omega arith)

under-walks : (x : RunPoll) (os : List Op) → Walks x os → Under os 0 1
under-walks x os walk_ends = (refl, refl)
under-walks x os (walk_on r at left) = (refl, refl)

under-missing : (q : ℕ) (o : Op) (os : List Op) → Missing q o os → Under os (writes_of o) (reads_of o)
under-missing q o os (misses_there x at left z) = under-walks x os z
under-missing q o os _ = (refl, refl)

under-leads : (o : Op) (os : List Op) → Leads o os → Under os (writes_of o) (reads_of o)
under-leads o os (quiet _ e) = (sym (quiet-writes o e), sym (quiet-reads o e))
under-leads o os (finds x z) = under-stole x 0 os z
under-leads o os (stole a z) = under-stole _ _ os z
under-leads o _ (looks x at left {os = os} z) =
    let u = under-stole x 0 os z in (omega (arith, u.0), omega (arith, u.1))
under-leads o os _ = (omega arith, omega arith)

-- the lock

-- nobody has it
free-both : (a : Bool) (n : ℕ) → (a || not (eqb n 0)) ≡ false → (a ≡ false) × (n ≡ 0)
free-both true n e = absurd (cc)
free-both false n e = (refl, by (eqb n 0) refl e)
  where
    by : (b : Bool) → eqb n 0 ≡ b → not b ≡ false → n ≡ 0
    by true q z = grind (arith, nat_tests)
    by false q z = absurd (cc)

locked-writes : (s : Section) (w : World) → is_locked_out w.lock (Op.List (ListOp.LockWrite s)) ≡ false →
    KeepsLock w (Op.List (ListOp.LockWrite s) ∷ []) (runs.lock_write w s)
locked-writes s w e = record {
  on = λ i k m n x y l. let f = free-both w.lock.writing w.lock.readers e in record {
    writing = omega (arith, x, l.writing, ap ones f.0);
    reading = omega (arith, y, l.reading);
    apart = λ q. f.1;
  };
}

locked-reader : (h : Hint) (w : World) (x : RunPoll) → is_locked_out w.lock (Op.List (ListOp.LockRead x)) ≡ false →
    KeepsLock w (Op.List (ListOp.LockRead x) ∷ []) (runs.lock_read h w x)
locked-reader h w x e = record {
  on = λ i k m n a b l.
      let os = runs.walk x w.listed (h.start % length w.listed) (length w.listed) in
      let u = under-walks x (loud os) (walks-by x w.listed (h.start % length w.listed) (length w.listed)) in record {
        writing = omega (arith, a, l.writing, u.0, loud-weigh writes_of quiet-writes os);
        reading = omega (arith, b, l.reading, u.1, loud-weigh reads_of quiet-reads os);
        apart = λ q. absurd (let no : false ≡ true = sym e ∙ q in cc);
      };
}

taken-once : (b : Bool) (i : ℕ) → 1 + i ≡ cond b 1 0 → i ≡ 0
taken-once true i e = omega (arith, e)
taken-once false i e = absurd (omega (arith, e))

locked-writer : (w : World) → KeepsLock w (Op.List ListOp.UnlockWrite ∷ []) (runs.unlock_write w)
locked-writer w = record {
  on = λ i k m n x y l. record {
    writing = let z : i ≡ 0 = taken-once w.lock.writing i (omega (arith, l.writing)) in omega (arith, x, z);
    reading = omega (arith, y, l.reading);
    apart = λ q. absurd (cc);
  };
}

locked-unread : (w : World) → KeepsLock w (Op.List ListOp.UnlockRead ∷ []) (runs.unlock_read w)
locked-unread w = record {
  on = λ i k m n x y l. record {
    writing = omega (arith, x, l.writing);
    reading = omega (arith, y, l.reading);
    apart = λ q. omega (arith, l.apart q);
  };
}

locked-make : (b : Bool) (w : World) → KeepsLock w (Op.List (ListOp.Write Section.MakeRun) ∷ []) (runs.make_run_by b w)
locked-make true w = stays-lock w _ _ refl refl refl
locked-make false w = stays-lock w _ _ refl refl refl

registered-lock : (t : Stage) (w : World) (q : ℕ) → w.lock ≡ (runs.registered t w q).lock
registered-lock New w q = refl
registered-lock Listed w q = refl
registered-lock Ended w q = refl

locked-list : (h : Hint) (o : ListOp) (w : World) → is_locked_out w.lock (Op.List o) ≡ false →
    KeepsLock w (Op.List o ∷ []) (list_act h o w)
locked-list h (ListOp.LockWrite s) w e = locked-writes s w e
locked-list h (ListOp.Write Section.MakeRun) w e = locked-make h.refused w
locked-list h (ListOp.Write (Section.Register x)) w e = stays-lock w _ _ (registered-lock _ w x.run) refl refl
locked-list h (ListOp.Write (Section.Unregister q a)) w e = stays-lock w _ _ refl refl refl
locked-list h ListOp.UnlockWrite w e = locked-writer w
locked-list h (ListOp.LockRead x) w e = locked-reader h w x e
locked-list h ListOp.UnlockRead w e = locked-unread w

-- each thing that is done
locked-deed : (w : World) (o : Op) (d : Done) → is_locked_out w.lock o ≡ false → Deed w o d → KeepsLock w (o ∷ []) d
locked-deed w o d n (keeps e l) = stays w o d (of_hull w d.world (ap hull_of e)) (under-leads o _ l)
locked-deed w o d n (takes q f rest r e l) = stays w o d (of_hull (put_own w q rest) d.world (ap hull_of e)) (under-leads o _ l)
locked-deed w o d n (lacks q r e l) = stays w o d (of_hull w d.world (ap hull_of e)) (under-missing q o _ l)
locked-deed w o d n (shares s j k b e m) = stays w o d (of_hull w d.world (ap hull_of e)) (under-more s k _ m)
locked-deed w o d n (grows s k f e m) =
    stays w o d (of_hull (put_own w s.poll.run (own_of w s.poll.run ++ f ∷ [])) d.world (ap hull_of e)) (under-more s k _ m)
locked-deed w o d n (wakes p x e z) =
    stays w o d (of_hull w d.world (ap hull_of e)) (ap (weigh writes_of) z, ap (weigh reads_of) z)
locked-deed w o d n (lists h l) = locked-list h l w n

-- every step

answers-writes : (o : Op) (u : UserEnd) → accepts o u ≡ true → writes_of o ≡ 0
answers-writes (Op.User o) u e = refl
answers-writes _ u e = absurd (cc)

answers-reads : (o : Op) (u : UserEnd) → accepts o u ≡ true → reads_of o ≡ 0
answers-reads (Op.User o) u e = refl
answers-reads _ u e = absurd (cc)

locked-way : (s : Machine) (p : ℕ) (old rest : List Op) (d : Done) → HasWay s.world.lock old → Way s p old rest d →
    KeepsLock s.world old d
locked-way s p old rest d free (acted h o q z) = rw (z, q) (locked-deed s.world o _ (free o q) (deed-act p h o s.world))
locked-way s p old rest d free (reacted o u a q z) =
    let c = counts-react 0 p o u s.world a in
    rw (z, q) (stays-lock s.world (o ∷ []) (react p o u s.world) (of_hull s.world (react p o u s.world).world c.hull)
    (omega (arith, counts-writes 0 (react p o u s.world).next c.counts, answers-writes o u a))
    (omega (arith, counts-reads 0 (react p o u s.world).next c.counts, answers-reads o u a)))
locked-way s p old rest d free (called c q r n z) =
    let b = counts-begun 0 p s.world (mine (top (stack s p))) c in
    rw (z, q) (stays-lock s.world [] (begun p (log s.world (Event.CallBegun p c)) (mine (top (stack s p))) c)
    (of_hull s.world (begun p (log s.world (Event.CallBegun p c)) (mine (top (stack s p))) c).world b.hull)
    (counts-writes 0 _ b.counts) (counts-reads 0 _ b.counts))

abbrev Locked : Machine → Type 0
Locked s = IsLocked s.world.lock (weigh_all writes_of s.parties) (weigh_all reads_of s.parties)

moved : (s : Machine) (p : ℕ) (old rest : List Op) (d : Done) → p < length s.parties → stack s p ≡ rest ++ reverse old →
    KeepsLock s.world old d → Locked s → Locked (unsettled s p rest d)
moved s p old rest d l e k h =
    let others = set s.parties p rest in
    k.on (weigh_all writes_of others) (weigh_all reads_of others) _ _
    (weigh_all-push writes_of s.parties p rest d.next l)
    (weigh_all-push reads_of s.parties p rest d.next l)
    (subst (λ (x : ℕ × ℕ). IsLocked s.world.lock x.0 x.1)
    (λ i. (split writes_of s.parties p old rest l e i, split reads_of s.parties p old rest l e i)) h)

locked-moves : (s : Machine) (p : ℕ) (old rest : List Op) (d : Done) → Good s → p < length s.parties →
    stack s p ≡ rest ++ reverse old → HasWay s.world.lock old → Way s p old rest d → Locked s →
    Locked (unsettled s p rest d)
locked-moves s p old rest d good l e free way h = moved s p old rest d l e (locked-way s p old rest d free way) h

locked-ends : (s : Machine) (p : ℕ) (a : Reply) (held : Hold) (below : List Op) → p < length s.parties →
    stack s p ≡ below ++ reverse (Op.End a held ∷ []) → Locked s →
    Locked (unsettled s p below (done (log s.world (Event.CallEnded p a)) []))
locked-ends s p a held below l e h =
    moved s p (Op.End a held ∷ []) below _ l e
    (stays-lock s.world _ (done (log s.world (Event.CallEnded p a)) []) refl refl refl) h

locked : (limit : ℕ) (kind : Kind) (n : ℕ) (ts : List Step) → Locked (run ts (start limit kind n))
locked limit kind n ts = along-free Locked locked-moves locked-ends ts (start limit kind n) (good-start limit kind n) (record {
  writing = weigh_all-idle writes_of n;
  reading = weigh_all-idle reads_of n;
  apart = λ e. refl;
})

pub lock-agrees : (limit : ℕ) (kind : Kind) (n : ℕ) (ts : List Step) → LockAgrees (run ts (start limit kind n))
lock-agrees limit kind n ts = let k = locked limit kind n ts in
    record { writing = k.writing; reading = k.reading; apart = k.apart }
