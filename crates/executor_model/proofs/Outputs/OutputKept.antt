-- For outputs_are_kept.
-- Where no call is in progress, the next poll of the handle is given the output that is there.
use Rattle.std.proofs.Common.{◌≡◌, ℕ, zero, suc, ◌<◌, ◌≤◌, List, [], ◌∷◌, ◌++◌, length, set, get_or, Bool, true, false, ◌&&◌}
use Rattle.std.proofs.Common.{not, refl, sym, ap, ◌∙◌, ⊎_elim, arith, get_or-set_same}
use Rattle.std.specs.Prelude.{Option, Some, None, nat_lt, count_by, ◌==◌}
use Rattle.std.{proofs.Math.ListN.length-set, proofs.lemmas.Bool.Decides.nat_tests, proofs.lemmas.List.append_assoc}
use Rattle.task_moves.specs.declared.moves.owed.Answer.{Answer}
use Rattle.executor_model.proofs.Types.{State, Moved, Kind, By, Call, Reply, Event, Op, HandleOp, Outside, Hint, Step, Begin}
use Rattle.executor_model.specs.Steps.{Machine, stack, top, step, step_by, stepped, refusal, unless, begin_refusal, go_refusal}
use Rattle.executor_model.specs.Trace.{Trace, takes_handle, has, is_ready, is_cancelled}
use Rattle.executor_model.specs.OutputKept.{polls_alone, OutputIsThere, GivesOutput, OutputIsKept}
use Rattle.executor_model.specs.Steps.{onto, part_after, with_part, run, start}
use Rattle.executor_model.specs.{OutputOnce.is_output_given, World.World, World.log, World.task, World.blank, Acts.look_by}
use Rattle.executor_model.specs.{Sound.pend, Weights.weigh_all, Rows.handling_of, Rows.ready_of}
use Rattle.executor_model.proofs.Quiet.Resting.{Deep, deep, rests, all-rest}
use Rattle.executor_model.proofs.OneFuture.Extras.{telling_of, taking_of, storing_of}
use Rattle.executor_model.proofs.Outputs.KeepingExecutions.{Stores, stores}
use Rattle.executor_model.proofs.{Types.Go, Types.StepError, Types.NoSuch, Types.Gone, OneFuture.Telling.counted-there}
use Rattle.executor_model.proofs.{OneFuture.Telling.there-or-none, OneFuture.Tallies.readies, OneFuture.Tallies.spent}
use Rattle.task_moves.specs.Moves as moves

-- what the trace says, counted

none-counted : (test : Event → Bool) (es : Trace) → has test es ≡ false → count_by test es ≡ 0
none-counted test es e = ⊎_elim
    (λ (x : (has test es ≡ true) × (1 ≤ count_by test es)). let no : true ≡ false = sym x.0 ∙ e in absurd (cc))
    (λ (x : (has test es ≡ false) × (count_by test es ≡ 0)). x.1)
    (there-or-none test es)

was-ready : (f : ℕ) (es : Trace) → OutputIsThere f es → 1 ≤ readies f es
unfolding readies
was-ready f es k = counted-there (is_ready f) es k.ready

unspent : (f : ℕ) (es : Trace) → OutputIsThere f es → spent f es ≡ 0
unfolding spent
unspent f es k =
    omega (
      arith,
      none-counted (is_cancelled f) es k.uncancelled,
      none-counted (is_output_given f) es k.ungiven,
      none-counted (takes_handle f) es k.held,
    )

pub known : (ts : List State) (f : ℕ) → (get_or ts f blank).completed ≡ true → f < length ts
known [] f e = absurd (cc)
known (t ∷ ts) zero e = omega arith
known (t ∷ ts) (suc f) e = omega (arith, known ts f e)

pub no-true : (a : Bool) → (a ≡ true → ⊥) → a ≡ false
no-true true k = absurd (k refl)
no-true false k = refl

-- a task whose output the handle may take, and that no awaiter waits for
pub record Waits (w : World) (f : ℕ) : Type 0 where
  pub completed : (task w f).completed ≡ true
  pub unclosed : (task w f).closed ≡ false
  pub handle : (task w f).handle ≡ true
  pub unawaited : (task w f).awaiter ≡ false

module _ (s : Machine) (f : ℕ) (h : Stores s) (idle : (q : ℕ) → stack s q ≡ [])
    (k : OutputIsThere f s.world.trace) where
  none : (v : Op → ℕ) → weigh_all v s.parties ≡ 0
  none v = all-rest v s.parties idle

  output-waits : Waits s.world f
  output-waits =
      let r : 1 ≤ readies f s.world.trace = was-ready f s.world.trace k in
      let n : spent f s.world.trace ≡ 0 = unspent f s.world.trace k in
      let c : (task s.world f).completed ≡ true =
      ⊎_elim (λ x. x) (λ (x : 1 ≤ (pend f s.parties).ready). absurd (omega (arith, x, none (ready_of f))))
      ((h f).there r) in
      record {
        completed = c;
        unclosed = (h f).unclosed (omega (arith, r)) n;
        handle = (h f).held (known s.world.tasks f c) n;
        unawaited = no-true (task s.world f).awaiter
            (λ x. absurd (omega (arith, (h f).watched.told c x, none (telling_of f), none (taking_of f), none (storing_of f))));
      }

-- a poll alone

-- the machine in which p has begun to poll the handle, and has still to look
abbrev polling : Machine → ℕ → ℕ → ℕ → Machine
polling s p f x =
    record {
      world = log s.world (Event.CallBegun p (Call.PollHandle f (By.Outside x)));
      parties = set s.parties p (Op.Handle (HandleOp.Look f (Outside x)) ∷ []);
    }

and-false : (b : Bool) → (b && false) ≡ false
and-false true = refl
and-false false = refl

module _ (s : Machine) (p f x : ℕ) (l : p < length s.parties) (e : stack s p ≡ []) (m : Waits s.world f)
    (unused : weigh_all (handling_of f) s.parties ≡ 0) where
  held : ((task s.world f).handle && (weigh_all (handling_of f) s.parties == 0)) ≡ true
  held = ap (λ (b : Bool). b && (weigh_all (handling_of f) s.parties == 0)) m.handle ∙ ap (λ (n : ℕ). n == 0) unused

  none-refused : refusal s (Begin p (Call.PollHandle f (By.Outside x))) ≡ None
  none-refused =
      ap (λ (b : Bool). unless b NoSuch
      (begin_refusal s.world s.parties (top (stack s p)) (Call.PollHandle f (By.Outside x))))
      (let z : nat_lt p (length s.parties) ≡ true = grind (arith, nat_tests) in z)
      ∙ (ap (λ (os : List Op). begin_refusal s.world s.parties (top os) (Call.PollHandle f (By.Outside x))) e
      ∙ (ap (λ (b : Bool). unless (b && true) NoSuch (unless (not (s.world.gone && false)) Gone None)) held
      ∙ ap (λ (b : Bool). unless (not b) Gone None) (and-false s.world.gone)))

  begun-alone : stepped s (step s (Begin p (Call.PollHandle f (By.Outside x)))) ≡ polling s p f x
  unfolding step
  begun-alone = ap (λ (r : Option StepError). stepped s (step_by r s (Begin p (Call.PollHandle f (By.Outside x)))))
      none-refused ∙ ap (λ (os : List Op). with_part s p
      (part_after s.world os (Begin p (Call.PollHandle f (By.Outside x))))) e

  looking : stack (polling s p f x) p ≡ Op.Handle (HandleOp.Look f (Outside x)) ∷ []
  looking = get_or-set_same s.parties p (Op.Handle (HandleOp.Look f (Outside x)) ∷ []) [] l

  there : nat_lt p (length (polling s p f x).parties) ≡ true
  there = let n : p < length (set s.parties p (Op.Handle (HandleOp.Look f (Outside x)) ∷ [])) =
      omega (arith, l, length-set s.parties p (Op.Handle (HandleOp.Look f (Outside x)) ∷ [])) in
      grind (arith, nat_tests)

  goes-on : (t : Hint) → refusal (polling s p f x) (Go p t) ≡ None
  goes-on t = ap (λ (b : Bool). unless b NoSuch (go_refusal s.world (top (stack (polling s p f x) p)))) there
      ∙ ap (λ (os : List Op). go_refusal s.world (top os)) looking

  -- what the look finds
  finds : moves.poll (task s.world f) ≡ moves.moved (record (task s.world f) { closed = true })
      (record moves.nothing { answer = Some Answer.Output })
  finds =
      ap (λ (b : Bool). moves.poll_by b (moves.is_going (task s.world f)) (task s.world f).completed (task s.world f))
      m.unclosed
      ∙ (ap (λ (b : Bool). moves.poll_by false (moves.is_going (task s.world f)) b (task s.world f)) m.completed
      ∙ ap (λ (b : Bool). moves.moved (record (task s.world f) { closed = true })
      (record moves.nothing { awaiter = moves.notify_other_if b; answer = Some Answer.Output })) m.unawaited)

  gone-on-alone : (t : Hint) →
      (run (polls_alone p f x t) s).world.trace
      ≡ (((s.world.trace ++ Event.CallBegun p (Call.PollHandle f (By.Outside x)) ∷ []) ++ Event.HandlePolled p f ∷ [])
      ++ Event.OutputGiven p f ∷ []) ++ Event.CallEnded p Reply.Ready ∷ []
  unfolding step
  gone-on-alone t =
      ap (λ (y : Machine). (stepped y (step y (Go p t))).world.trace) begun-alone
      ∙ (ap (λ (r : Option StepError). (stepped (polling s p f x) (step_by r (polling s p f x) (Go p t))).world.trace)
      (goes-on t)
      ∙ (ap (λ (os : List Op). (part_after (polling s p f x).world os (Go p t)).world.trace) looking
      ∙ ap (λ (y : Moved). (onto p (look_by y.owed.answer p (polling s p f x).world f (Outside x) y) []).world.trace)
      finds))

  pub gives-output : (t : Hint) → GivesOutput s p f x t
  gives-output t =
      gone-on-alone t
      ∙ (append_assoc ((s.world.trace ++ Event.CallBegun p (Call.PollHandle f (By.Outside x)) ∷ [])
      ++ Event.HandlePolled p f ∷ []) (Event.OutputGiven p f ∷ []) (Event.CallEnded p Reply.Ready ∷ [])
      ∙ (append_assoc (s.world.trace ++ Event.CallBegun p (Call.PollHandle f (By.Outside x)) ∷ [])
      (Event.HandlePolled p f ∷ []) (Event.OutputGiven p f ∷ Event.CallEnded p Reply.Ready ∷ [])
      ∙ append_assoc s.world.trace (Event.CallBegun p (Call.PollHandle f (By.Outside x)) ∷ [])
      (Event.HandlePolled p f ∷ Event.OutputGiven p f ∷ Event.CallEnded p Reply.Ready ∷ [])))

output-kept : (s : Machine) (f : ℕ) → Deep s → Stores s → OutputIsKept s f
output-kept s f d h quiet k p x t l =
    gives-output s p f x l (rests s d quiet p) (output-waits s f h (λ q. rests s d quiet q) k)
    (all-rest (handling_of f) s.parties (λ q. rests s d quiet q)) t

pub outputs-kept : (limit : ℕ) (kind : Kind) (parties : ℕ) (steps : List Step) (f : ℕ) →
    OutputIsKept (run steps (start limit kind parties)) f
outputs-kept limit kind parties steps f = output-kept (run steps (start limit kind parties)) f (deep limit kind parties steps)
    (stores limit kind parties steps)
