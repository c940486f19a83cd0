-- For the_limit_is_exact, emptiness_is_exact and quiet_emptiness_is_exact.
-- A spawn is answered that the executor is full exactly where it is.
use Rattle.std.proofs.Common.{◌≡◌, ◌⊎◌, ℕ, zero, suc, ◌-◌, ◌<◌, ◌≤◌, List, [], ◌∷◌, ◌++◌, length, Bool, true, false, not, refl}
use Rattle.std.proofs.Common.{sym, ap, ◌∙◌, subst, inl, ⊎_elim, arith}
use Rattle.std.proofs.lemmas.Bool.Decides.{nat_tests}
use Rattle.std.proofs.lemmas.List.{get_or_past, append_cancel_left, append_assoc, length-append}
use Rattle.std.specs.Prelude.{Option, Some, None, slice_get, nat_lt}
use Rattle.executor_model.proofs.Types.{Mark, Kind, Reply, Event, Hold, Op, QueueOp, TableOp, Hint, Step, Go, StepError, NoSuch}
use Rattle.executor_model.specs.Steps.{Machine, stack, top, below_top, step, step_by, stepped, refusal, go_refusal, unless}
use Rattle.executor_model.specs.Steps.{settled, settled_by, end_of, onto, gone_on, run, start}
use Rattle.executor_model.specs.Limit.{Asks, ReachLimit, IsUndropped, IsLimitExact}
use Rattle.executor_model.specs.{Trace.Trace, World.World, Acts.enter_by, Doing.act, Weights.weigh_all, Rows.borrowing_of}
use Rattle.executor_model.specs.{Sound.times, Good.Good, Entries.HasTable}
use Rattle.executor_model.proofs.Steps.Lift.{split, topped, good}
use Rattle.executor_model.proofs.Table.LeavingExecutions.{Placed, placed}
use Rattle.executor_model.proofs.{OneFuture.Stories.no-longer, OneFuture.Telling.begun-has, Table.Entering.table-agrees}

-- the last thing of a list
pub last-get : (os : List Op) (x : Op) → slice_get (os ++ x ∷ []) (length os) ≡ Some x
last-get [] x = refl
last-get (o ∷ os) x = last-get os x

pub top-last : (os : List Op) (x : Op) → top (os ++ x ∷ []) ≡ Some x
top-last os x = ap (slice_get (os ++ x ∷ []))
    (let z : length (os ++ x ∷ []) - 1 ≡ length os = omega (arith, length-append os (x ∷ [])) in z) ∙ last-get os x

-- the trace after the table was asked for a place
abbrev pub asked : Bool → Bool → ℕ → World → Event
asked true c p w = Event.CallEnded p Reply.Full
asked false true p w = Event.CallEnded p Reply.NoMemory
asked false false p w = Event.Accepted p (length w.tasks)

pub ended-trace : (p : ℕ) (w : World) (os : List Op) (a : Reply) (held : Hold) → top os ≡ Some (Op.End a held) →
    (settled p w os).world.trace ≡ w.trace ++ Event.CallEnded p a ∷ []
ended-trace p w os a held e = ap (λ (x : Option Op). (settled_by (end_of x) p w os).world.trace) e

asked-trace : (b c : Bool) (mark : Mark) (p : ℕ) (w : World) (rest : List Op) →
    (onto p (enter_by b c mark p w) rest).world.trace ≡ w.trace ++ asked b c p w ∷ []
asked-trace true c mark p w rest = ended-trace p w (rest ++ Op.End Reply.Full Hold.Executor ∷ []) Reply.Full Hold.Executor
    (top-last rest (Op.End Reply.Full Hold.Executor))
asked-trace false true mark p w rest = ended-trace p w (rest ++ Op.End Reply.NoMemory Hold.Executor ∷ []) Reply.NoMemory
    Hold.Executor (top-last rest (Op.End Reply.NoMemory Hold.Executor))
asked-trace false false mark p w rest =
    let os : List Op = rest ++ Op.End Reply.Made (Hold.Spawned (length w.tasks))
    ∷ Op.Queue (QueueOp.Append (length w.tasks)) ∷ [] in
    let e : top os ≡ Some (Op.Queue (QueueOp.Append (length w.tasks))) =
    subst (λ (xs : List Op). top xs ≡ Some (Op.Queue (QueueOp.Append (length w.tasks))))
    (append_assoc rest (Op.End Reply.Made (Hold.Spawned (length w.tasks)) ∷ [])
    (Op.Queue (QueueOp.Append (length w.tasks)) ∷ []))
    (top-last (rest ++ Op.End Reply.Made (Hold.Spawned (length w.tasks)) ∷ [])
    (Op.Queue (QueueOp.Append (length w.tasks)))) in
    ap (λ (x : Option Op). (settled_by (end_of x) p (enter_by false false mark p w).world os).world.trace) e

pub step-trace : (s : Machine) (p : ℕ) (h : Hint) → p < length s.parties → Asks s p →
    (stepped s (step s (Go p h))).world.trace ≡ s.world.trace
    ++ asked (not (nat_lt (length s.world.table) s.world.limit)) h.refused p s.world ∷ []
unfolding step
step-trace s p h l e =
    let r : refusal s (Go p h) ≡ None =
    ap (λ (b : Bool). unless b NoSuch (go_refusal s.world (top (stack s p))))
    (let z : nat_lt p (length s.parties) ≡ true = grind (arith, nat_tests) in z) ∙ ap (go_refusal s.world) e.1 in
    ap (λ (x : Option StepError). (stepped s (step_by x s (Go p h))).world.trace) r
    ∙ (ap (λ (o : Option Op). (gone_on p s.world (stack s p) o (λ x. act p h x s.world)).world.trace) e.1
    ∙ asked-trace (not (nat_lt (length s.world.table) s.world.limit)) h.refused e.0 p s.world (below_top (stack s p)))

-- which is full exactly where the table is
pub says-full : (b c : Bool) (p : ℕ) (w : World) (es : Trace) →
    es ++ asked b c p w ∷ [] ≡ es ++ Event.CallEnded p Reply.Full ∷ [] → b ≡ true
says-full true c p w es e = refl
says-full false true p w es e =
    let z : asked false true p w ∷ [] ≡ Event.CallEnded p Reply.Full ∷ [] = append_cancel_left es _ _ e in absurd (cc)
says-full false false p w es e =
    let z : asked false false p w ∷ [] ≡ Event.CallEnded p Reply.Full ∷ [] = append_cancel_left es _ _ e in absurd (cc)

or-past : (a b : ℕ) → (a < b) ⊎ (b ≤ a)
or-past a b = grind arith

pub in-range : (s : Machine) (p : ℕ) (o : Op) → top (stack s p) ≡ Some o → p < length s.parties
in-range s p o e = ⊎_elim
    (λ (l : p < length s.parties). l)
    (λ (l : length s.parties ≤ p). let z : stack s p ≡ [] = get_or_past s.parties p [] l in
    let no : slice_get (let os : List Op = [] in os) 0 ≡ Some o = sym (ap top z) ∙ e in absurd (cc))
    (or-past p (length s.parties))

-- the drop of the executor hasn't begun where a call uses the executor
pub has-table-by : (s : Machine) → Good s → Placed s → 1 ≤ weigh_all borrowing_of s.parties → HasTable s
has-table-by s fine h u = inl (sym (begun-has 0 s.world.trace) ∙ ((h.leaves 0).begun ∙ go s.world.gone refl))
  where
    go : (b : Bool) → s.world.gone ≡ b → s.world.gone ≡ false
    go true e = absurd (omega (arith, (fine.sound 0).lent e, u))
    go false e = e

module _ (s : Machine) (fine : Good s) (h : Placed s) where
  uses-executor : (p : ℕ) → Asks s p → 1 ≤ weigh_all borrowing_of s.parties
  uses-executor p e = omega (
    arith,
    split borrowing_of s.parties p (Op.Table (TableOp.Enter e.0) ∷ []) (below_top (stack s p))
        (in-range s p (Op.Table (TableOp.Enter e.0)) e.1) (topped (stack s p) (Op.Table (TableOp.Enter e.0)) e.1),
  )

  has-table : (p : ℕ) → Asks s p → HasTable s
  has-table p e = has-table-by s fine h (uses-executor p e)

  at-most : (p : ℕ) → Asks s p → (r : ReachLimit s (λ f. IsUndropped f s)) → (g : ℕ) →
      times g r.futures ≤ times g s.world.table
  at-most p e r g = by (times g r.futures) refl
    where
      by : (n : ℕ) → times g r.futures ≡ n → times g r.futures ≤ times g s.world.table
      by zero q = omega (arith, q)
      by (suc n) q =
          let k : IsUndropped g s = r.kind g (omega (arith, q)) in
          omega (
            arith,
            r.different g,
            (table-agrees s g fine h).entered (has-table p e)
                (record { accepted = k.accepted; remains = inl k.undropped }),
          )

  pub limit-exact : IsLimitExact s
  limit-exact = record {
    always = λ p t e r.
        let n : length r.futures ≤ length s.world.table = no-longer r.futures s.world.table (at-most p e r) in
        let b : not (nat_lt (length s.world.table) s.world.limit) ≡ true = grind (arith, nat_tests, n, r.many) in
        step-trace s p t (in-range s p (Op.Table (TableOp.Enter e.0)) e.1) e
        ∙ ap (λ (x : Bool). s.world.trace ++ asked x t.refused p s.world ∷ []) b;
    only = λ p t e q.
        let b : not (nat_lt (length s.world.table) s.world.limit) ≡ true =
        says-full _ t.refused p s.world s.world.trace
        (sym (step-trace s p t (in-range s p (Op.Table (TableOp.Enter e.0)) e.1) e) ∙ q) in
        record {
          futures = s.world.table;
          different = λ f. (table-agrees s f fine h).once;
          kind = λ f n. (table-agrees s f fine h).only (has-table p e) n;
          many = grind (arith, nat_tests, b);
        };
  }

pub limits : (limit : ℕ) (kind : Kind) (parties : ℕ) (steps : List Step) → IsLimitExact (run steps (start limit kind parties))
limits limit kind parties steps = limit-exact (run steps (start limit kind parties)) (good limit kind parties steps)
    (placed limit kind parties steps)
