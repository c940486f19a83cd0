-- For drops_of_futures_are_entered and drops_of_outputs_are_entered.
-- What tells of something leads to one thing to do, which comes first: so its party stands before that behind the step.
use Rattle.std.proofs.Common.{◌≡◌, ◌∙◌, ℕ, ◌<◌, List, [], ◌∷◌, ◌++◌, length, Bool, true, false, append-nil, ltb, refl, sym, ap}
use Rattle.std.proofs.Common.{subst, arith, get_or-set_same}
use Rattle.std.proofs.lemmas.Bool.Decides.{nat_tests}
use Rattle.std.proofs.lemmas.List.{append_assoc, append_cancel_left, reverse-append}
use Rattle.std.specs.Prelude.{Option, Some, None, reverse}
use Rattle.call_laws.proofs.Types.{Event, NoSuch, Op, Reply, Step, StepError}
use Rattle.executor_model.specs.Steps.{Machine, Part, end_of, onto, part_after, part_refusal, party_of, refusal, settled_by}
use Rattle.executor_model.specs.Steps.{stack, step, step_by, stepped, top, unless}
use Rattle.executor_model.specs.Trace.{Trace, has}
use Rattle.executor_model.specs.World.{Done, World}
use Rattle.executor_model.proofs.Promises.OutsideCalls.{way-more}
use Rattle.executor_model.proofs.Steps.Tests.{or-false}
use Rattle.executor_model.proofs.Steps.TraceMore.{has-append}
use Rattle.executor_model.proofs.Steps.Ways.{Made, Way, made}
use Rattle.executor_model.proofs.Table.Spawning.{top-last}
use Rattle.call_laws.proofs.Taking.{not-both}

-- none that passes the test is told of, or x comes first
pub data Comes (t : Event → Bool) (x : Op) (next : List Op) (more : Trace) : Type 0 where
  untold : has t more ≡ false → Comes t x next more
  first : (rest : List Op) → next ≡ x ∷ rest → Comes t x next more

abbrev pub Leads : (Event → Bool) → Op → World → Done → Type 0
Leads t x w d = (more : Trace) → d.world.trace ≡ w.trace ++ more → Comes t x d.next more

pub top-first : (rest : List Op) (o : Op) (os : List Op) → top (rest ++ reverse (o ∷ os)) ≡ Some o
top-first rest o os = ap (λ (ns : List Op). top (rest ++ ns)) (reverse-append (o ∷ []) os)
    ∙ ap top (sym (append_assoc rest (reverse os) (o ∷ []))) ∙ top-last (rest ++ reverse os) o

there : (b : Bool) (r : Option StepError) → unless b NoSuch r ≡ None → (b ≡ true) × (r ≡ None)
there true r e = (refl, e)
there false r e = absurd (cc)

-- where no end of a call passes the test, and x is none
module _ (t : Event → Bool) (x : Op) (unended : (p : ℕ) (a : Reply) → t (Event.CallEnded p a) ≡ false) (stays : end_of (Some x) ≡ None)
    (leads : (s : Machine) (p : ℕ) (old rest : List Op) (d : Done) → Way s p old rest d → Leads t x s.world d) where
  abbrev Stands : Trace → Part → Type 0
  Stands es l = (more : Trace) → l.world.trace ≡ es ++ more → has t more ≡ true → top l.todo ≡ Some x

  stands-untold : (p : ℕ) (es before : Trace) (w : World) (os : List Op) (o : Option Op) → w.trace ≡ es ++ before →
      has t before ≡ false → Stands es (settled_by (end_of o) p w os)
  stands-untold p es before w os (Some (Op.End r held)) e n more q k =
      let i : before ++ Event.CallEnded p r ∷ [] ≡ more = append_cancel_left es (before ++ Event.CallEnded p r ∷ []) more
      (sym (append_assoc es before (Event.CallEnded p r ∷ [])) ∙ (ap (λ (xs : Trace). xs ++ Event.CallEnded p r ∷ []) (sym e) ∙ q)) in
      absurd (not-both (has t more) k (ap (has t) (sym i)
      ∙ has-append t before (Event.CallEnded p r ∷ []) n (or-false (t (Event.CallEnded p r)) (unended p r))))
  stands-untold p es before w os None e n more q k =
      absurd (not-both (has t more) k (ap (has t) (append_cancel_left es more before (sym q ∙ e)) ∙ n))
  stands-untold p es before w os (Some _) e n more q k =
      absurd (not-both (has t more) k (ap (has t) (append_cancel_left es more before (sym q ∙ e)) ∙ n))

  stands-first : (p : ℕ) (es : Trace) (w : World) (os : List Op) (o : Option Op) → top os ≡ o → o ≡ Some x →
      Stands es (settled_by (end_of o) p w os)
  stands-first p es w os o e i =
      subst (λ (y : Option Op). Stands es (settled_by (end_of y) p w os)) (sym i)
      (subst (λ (r : Option Reply). Stands es (settled_by r p w os)) (sym stays) (λ more q k. e ∙ i))

  stands-onto : (s : Machine) (p : ℕ) (rest : List Op) (d : Done) (before : Trace) →
      d.world.trace ≡ s.world.trace ++ before → Comes t x d.next before → Stands s.world.trace (onto p d rest)
  stands-onto s p rest d before e (untold n) =
      stands-untold p s.world.trace before d.world (rest ++ reverse d.next) (top (rest ++ reverse d.next)) e n
  stands-onto s p rest d before e (first os i) =
      stands-first p s.world.trace d.world (rest ++ reverse d.next) (top (rest ++ reverse d.next)) refl
      (ap (λ (ns : List Op). top (rest ++ reverse ns)) i ∙ top-first rest x os)

  stands-made : (s : Machine) (p : ℕ) (l : Part) → Made s p l → Stands s.world.trace l
  stands-made s p l m =
      let g = way-more s p m.old m.rest m.d m.way in
      subst (λ (y : Part). Stands s.world.trace y) m.now
      (stands-onto s p m.rest m.d g.more g.is (leads s p m.old m.rest m.d m.way g.more g.is))

  led-by : (s : Machine) (u : Step) (r : Option StepError) → refusal s u ≡ r → (more : Trace) →
      (stepped s (step_by r s u)).world.trace ≡ s.world.trace ++ more → has t more ≡ true →
      top (stack (stepped s (step_by r s u)) (party_of u)) ≡ Some x
  led-by s u (Some error) q more e h =
      absurd (not-both (has t more) h (ap (has t)
      (append_cancel_left s.world.trace more [] (sym e ∙ sym (append-nil s.world.trace)))))
  led-by s u None q more e h =
      let p : ℕ = party_of u in
      let k : _ = there (ltb p (length s.parties)) (part_refusal s.world s.parties (stack s p) u) q in
      let l : p < length s.parties = grind (arith, nat_tests) in
      let a : Part = part_after s.world (stack s p) u in
      ap top (get_or-set_same s.parties p a.todo [] l) ∙ stands-made s p a (made s u k.1) more e h

  pub led : (s : Machine) (u : Step) (more : Trace) → (stepped s (step s u)).world.trace ≡ s.world.trace ++ more →
      has t more ≡ true → top (stack (stepped s (step s u)) (party_of u)) ≡ Some x
  unfolding step
  led s u more e h = led-by s u (refusal s u) refl more e h
