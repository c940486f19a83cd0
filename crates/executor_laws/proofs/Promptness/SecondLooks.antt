-- For no_means_that_nothing_was_queued.
-- The step that leads to the second look of a try of a tick finds the other queue empty.
use Rattle.std.proofs.Common.{◌≡◌, ◌∙◌, ⊎_elim, ℕ, ◌<◌, List, [], ◌∷◌, ◌++◌, length, Bool, true, false, refl, sym, ap, arith}
use Rattle.std.specs.Prelude.{Option, Some, None, Ok, Err}
use Rattle.std.{proofs.Common.ltb, proofs.Common.get_or-set_same, proofs.lemmas.Bool.Decides.nat_tests}
use Rattle.executor_parts.specs.Marks.{first_of, other}
use Rattle.executor_laws.proofs.Types.{Mark, Plain, Urgent, Reply, Hold, Look, First, Second, Op, QueueOp, SleeperOp, TableOp}
use Rattle.executor_laws.proofs.Types.{Hint, Go, StepError, NoSuch, Move}
use Rattle.executor_model.specs.Steps.{Machine, Part, after, below_top, end_of, go_refusal, gone_on, onto, refusal, settled}
use Rattle.executor_model.specs.Steps.{settled_by, stack, step, top, unless}
use Rattle.executor_model.specs.Acts.{emptiness, mark_in, take_by}
use Rattle.executor_model.specs.{Deeds.deeds, Doing.act, Weights.weigh, World.World, World.Done, World.queue_of}
use Rattle.executor_laws.specs.NoAnswers.{LooksSecond}
use Rattle.executor_model.proofs.Steps.Stepping.{step-made, step-refused}
use Rattle.executor_model.proofs.{Steps.Deeds.is_end, Steps.Lift.topped, Steps.Lists.weigh-append, Table.Spawning.top-last}
use Rattle.executor_laws.proofs.Promptness.PromptExecutions.{Parted, Prompts, parted, slow-onto}
use Rattle.executor_laws.proofs.Promptness.Prompting.{hasty, quick_of, slow-act}
use Rattle.executor_laws.proofs.Promptness.Turns.{below-is, goes-on}

abbrev second : Mark → Op
second m = Op.Queue (QueueOp.Take (Second m))

-- it isn't on top where nothing is answered no next
no-second : (m : Mark) (os : List Op) → weigh hasty os ≡ 0 → top os ≡ Some (second m) → ⊥
no-second m os z e = absurd (omega (
  arith,
  z,
  ap (weigh hasty) (topped os (second m) e),
  weigh-append hasty (below_top os) (second m ∷ []),
))

below-slow : (os : List Op) (o : Op) → top os ≡ Some o → weigh hasty os ≡ 0 → weigh hasty (below_top os) ≡ 0
below-slow os o e z =
    omega (arith, z, ap (weigh hasty) (topped os o e), weigh-append hasty (below_top os) (o ∷ []))

no-settled : (m : Mark) (p : ℕ) (w : World) (os : List Op) (o : Option Op) → top os ≡ o → weigh hasty os ≡ 0 →
    top (settled_by (end_of o) p w os).todo ≡ Some (second m) → ⊥
no-settled m p w os None e z k = no-second m os z k
no-settled m p w os (Some (Op.End a held)) e z k = no-second m (below_top os) (below-slow os (Op.End a held) e z) k
no-settled m p w os (Some _) e z k = no-second m os z k

-- nor behind the end of a call
no-ended : (m : Mark) (p : ℕ) (w : World) (rest : List Op) (a : Reply) (held : Hold) → weigh hasty rest ≡ 0 →
    top (settled p w (rest ++ Op.End a held ∷ [])).todo ≡ Some (second m) → ⊥
no-ended m p w rest a held z k =
    let os : List Op = rest ++ Op.End a held ∷ [] in
    no-second m rest z
    (sym (ap top (below-is os rest (Op.End a held) refl))
    ∙ (sym (ap (λ (x : Option Op). top (settled_by (end_of x) p w os).todo) (top-last rest (Op.End a held))) ∙ k))

-- what comes on top instead
on-top : (m : Mark) (p : ℕ) (w : World) (rest : List Op) (o : Op) → is_end o ≡ false →
    top (settled p w (rest ++ o ∷ [])).todo ≡ Some (second m) → o ≡ second m
on-top m p w rest o n k =
    let q : Some o ≡ Some (second m) =
    sym (top-last rest o) ∙ (sym (ap (λ (x : Part). top x.todo) (goes-on p w rest o n)) ∙ k) in cc

other-other : (m n : Mark) → other n ≡ m → n ≡ other m
other-other Plain Plain e = absurd (cc)
other-other Plain Urgent e = refl
other-other Urgent Plain e = refl
other-other Urgent Urgent e = absurd (cc)

module _ (w : World) (p : ℕ) (m : Mark) (rest : List Op) (z : weigh hasty rest ≡ 0) where
  -- the other queue was found empty
  abbrev pub Emptied : Type 0
  Emptied = (queue_of w (other m)).items ≡ []

  abbrev pub LeadsThere : Done → Type 0
  LeadsThere d = top (onto p d rest).todo ≡ Some (second m) → Emptied

  by-take : (look : Look) (q : List ℕ) → (queue_of w (mark_in look)).items ≡ q → LeadsThere (take_by w look q)
  by-take (First n) [] i k =
      let e : second (other n) ≡ second m = on-top m p w rest (second (other n)) refl k in
      let f : n ≡ other m = other-other m n (cc) in ap (λ (x : Mark). (queue_of w x).items) (sym f) ∙ i
  by-take (Second n) [] i k = absurd (no-ended m p w rest Reply.No Hold.Executor z k)
  by-take look (f ∷ fs) i k = absurd (no-settled m p _ _ _ refl (slow-onto rest
      (Op.Sleeper SleeperOp.ExchangeFlag ∷ Op.Move Move.TakeUp f ∷ Op.End Reply.Yes Hold.Executor ∷ []) z refl) k)

  by-quick : (h : Hint) (o : Op) → quick_of o ≡ 1 → LeadsThere (act p h o w)
  by-quick h (Op.Queue QueueOp.TakeTurn) c k =
      let e : Op.Queue (QueueOp.Take (First (first_of w.urgent_turns))) ≡ second m = on-top m p _ rest _ refl k in
      absurd (cc)
  by-quick h (Op.Queue (QueueOp.Take look)) c k = by-take look _ refl k
  by-quick h (Op.Table TableOp.LookAtTable) c k = absurd (no-ended m p w rest (emptiness w.table) Hold.Executor z k)
  by-quick h (Op.End a held) c k = absurd (no-settled m p _ _ _ refl (slow-onto rest [] z refl) k)
  by-quick h _ c k = absurd (cc)

  by-slow : (h : Hint) (o : Op) (b : Bool) → is_end o ≡ b → hasty o ≡ 0 → LeadsThere (act p h o w)
  by-slow h o false n c k =
      absurd (no-settled m p _ _ _ refl (slow-onto rest (act p h o w).next z (slow-act p h o w c n)) k)
  by-slow h (Op.End a held) true n c k = absurd (no-settled m p _ _ _ refl (slow-onto rest [] z refl) k)
  by-slow h _ true n c k = absurd (cc)

there : (b : Bool) (k : Option StepError) → unless b NoSuch k ≡ None → (b ≡ true) × (k ≡ None)
there true k e = (refl, e)
there false k e = absurd (cc)

module _ (s : Machine) (prompts : Prompts s) (p : ℕ) (h : Hint) (m : Mark) where
  led : (o : Option Op) → top (stack s p) ≡ o → ltb p (length s.parties) ≡ true → go_refusal s.world o ≡ None →
      LooksSecond m p (after s (Go p h)) → (queue_of s.world (other m)).items ≡ []
  led None e l r k = absurd (cc)
  led (Some o) e l r k =
      let rest : List Op = below_top (stack s p) in
      let x : Parted p rest o (deeds p s.world.trace) =
      parted p (stack s p) rest o (deeds p s.world.trace) (topped (stack s p) o e) (prompts p).stands in
      let i : p < length s.parties = grind (arith, nat_tests) in
      let now : stack (after s (Go p h)) p ≡ (onto p (act p h o s.world) rest).todo =
      get_or-set_same s.parties p _ [] i
      ∙ ap (λ (y : Option Op). (gone_on p s.world (stack s p) y (λ z. act p h z s.world)).todo) e in
      let t : top (onto p (act p h o s.world) rest).todo ≡ Some (second m) = sym (ap top now) ∙ k in
      ⊎_elim
      (λ (c : hasty o ≡ 0). by-slow s.world p m rest x.0 h o (is_end o) refl c t)
      (λ (c : (quick_of o ≡ 1) × (_ ≡ true)). by-quick s.world p m rest x.0 h o c.0 t)
      x.1

  by-refusal : (r : Option StepError) → refusal s (Go p h) ≡ r → (new : Machine) → step s (Go p h) ≡ Ok new →
      LooksSecond m p new → (queue_of s.world (other m)).items ≡ []
  by-refusal (Some error) q new e k =
      let no : Err error ≡ Ok new = sym (step-refused s (Go p h) error q) ∙ e in absurd (cc)
  by-refusal None q new e k =
      let i : Ok (after s (Go p h)) ≡ Ok new = sym (step-made s (Go p h) q) ∙ e in
      let j : after s (Go p h) ≡ new = cc in
      let x = there (ltb p (length s.parties)) (go_refusal s.world (top (stack s p))) q in
      led (top (stack s p)) refl x.0 x.1 (ap (λ (y : Machine). top (stack y p)) j ∙ k)

  pub emptied-before : (new : Machine) → step s (Go p h) ≡ Ok new → LooksSecond m p new →
      (queue_of s.world (other m)).items ≡ []
  emptied-before new e k = by-refusal (refusal s (Go p h)) refl new e k
