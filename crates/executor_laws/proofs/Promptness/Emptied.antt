-- For no_means_that_nothing_was_queued.
-- The step by which a try of a tick is answered no is its second look, and finds none there.
use Rattle.std.proofs.Common.{◌≡◌, ◌∙◌, ⊎_elim, ℕ, List, [], ◌∷◌, ◌++◌, Bool, true, false, refl, sym, ap, subst, arith}
use Rattle.std.proofs.lemmas.List.{append_assoc, append_cancel_left}
use Rattle.std.specs.Prelude.{Option, Some, None, reverse}
use Rattle.std.{proofs.Common.append-nil, proofs.Common.Result, proofs.lemmas.Bool.Decides.nat_tests}
use Rattle.executor_parts.specs.Marks.{first_of, other}
use Rattle.executor_laws.proofs.Types.{Call, Reply, Event, Kind, Op, Hold, QueueOp, SleeperOp, TableOp, Hint, Step, Begin, Go}
use Rattle.executor_laws.proofs.Types.{StepError, NoSuch, UserEnd, Move, Mark, Look, First, Second}
use Rattle.executor_model.specs.declared.step.Step.TheVariants.{Answer}
use Rattle.executor_model.specs.Steps.{Machine, after, below_top, end_of, gone_on, part_after, party_of, react, refusal, run}
use Rattle.executor_model.specs.Steps.{settled_by, stack, start, step, stepped, top, unless}
use Rattle.executor_model.specs.{Acts.mark_in, Acts.take_by, Calls.Begun, Deeds.deeds, Doing.act, Trace.Trace, Trace.has}
use Rattle.executor_model.specs.{Weights.weigh, World.World, World.queue_of}
use Rattle.executor_laws.specs.{LoneEnds.is_onward_of, NoAnswers.IsIn, NoAnswers.LooksSecond, NoAnswers.NoMeansEmpty}
use Rattle.executor_model.proofs.Copies.CopyFrames.{AllCounting, Any, Counting, all-counting, counting-later}
use Rattle.executor_model.proofs.Steps.Deeds.{ends_one, grows-act, grows-react, is_end}
use Rattle.executor_model.proofs.{Copies.Endings.Own, Copies.Endings.last-event, Copies.Endings.whose, Promises.CallFrames.Tied}
use Rattle.executor_model.proofs.{Promises.CallPromises.has-right, Promises.CallServes.misfit, Quiet.Calls.calling_of}
use Rattle.executor_model.proofs.{SpawnWants.Tops.Tops, SpawnWants.Tops.flipped, SpawnWants.Tops.tops, Steps.Lift.topped}
use Rattle.executor_model.proofs.{Steps.Lists.weigh-append, Steps.Stepping.step-made, Table.Spawning.top-last}
use Rattle.executor_laws.proofs.Promptness.PromptExecutions.{Parted, Prompts, parted, prompt, slow-onto, slow-react}
use Rattle.executor_laws.proofs.Promptness.Prompting.{hasty, quick_of, slow-act}
use Rattle.executor_laws.proofs.Promptness.SecondLooks.{emptied-before}

not-both : (b : Bool) → b ≡ true → b ≡ false → ⊥
not-both true e f = absurd (cc)
not-both false e f = absurd (cc)

-- a call that ends so has its end on top
pub said : (o : Option Reply) (p : ℕ) (a : Reply) (w : World) (os : List Op) (es more told : Trace) → w.trace ≡ es ++ more →
    has ends_one more ≡ false → (settled_by o p w os).world.trace ≡ es ++ (told ++ Event.CallEnded p a ∷ []) → o ≡ Some a
said None p a w os es more told t n e =
    let i : more ≡ told ++ Event.CallEnded p a ∷ [] = append_cancel_left es _ _ (sym t ∙ e) in
    absurd (not-both (has ends_one more)
    (ap (has ends_one) i ∙ has-right ends_one told (Event.CallEnded p a ∷ []) refl) n)
said (Some b) p a w os es more told t n e =
    let i : more ++ Event.CallEnded p b ∷ [] ≡ told ++ Event.CallEnded p a ∷ [] =
    append_cancel_left es _ _ (sym (append_assoc es more (Event.CallEnded p b ∷ []))
    ∙ (ap (λ (xs : Trace). xs ++ Event.CallEnded p b ∷ []) (sym t) ∙ e)) in
    let j : Event.CallEnded p b ≡ Event.CallEnded p a = last-event more told _ _ i in
    let k : b ≡ a = cc in ap (λ (x : Reply). Some x) k

-- which isn't there where nothing is answered no next
none-on-top : (os : List Op) (o : Option Op) → top os ≡ o → weigh hasty os ≡ 0 → end_of o ≡ Some Reply.No → ⊥
none-on-top os None e z k = absurd (cc)
none-on-top os (Some (Op.End a held)) e z k =
    let i : a ≡ Reply.No = cc in
    absurd (omega (
      arith,
      z,
      ap (weigh hasty) (topped os (Op.End a held) e),
      weigh-append hasty (below_top os) (Op.End a held ∷ []),
      ap (λ (b : Reply). hasty (Op.End b held)) i,
    ))
none-on-top os (Some _) e z k = absurd (cc)

taken-top : (below : List Op) (x y z : Op) → top (below ++ x ∷ y ∷ z ∷ []) ≡ Some z
taken-top below x y z = ap top (sym (append_assoc below (x ∷ y ∷ []) (z ∷ []))) ∙ top-last (below ++ x ∷ y ∷ []) z

module _ (s : Machine) (p : ℕ) (prompts : Prompts s) (here : Tops s) (f : AllCounting s)
    (k : IsIn Call.TryTick p s.world.trace) (told : Trace) where
  unended : (o : Op) → top (stack s p) ≡ Some o → is_end o ≡ false
  unended o e = by o (ap end_of (sym e) ∙ here.none p)
    where
      by : (x : Op) → end_of (Some x) ≡ None → is_end x ≡ false
      by (Op.End a held) z = absurd (cc)
      by _ z = refl

  -- no such call looks at the table
  no-look : (rest : List Op) → stack s p ≡ rest ++ Op.Table TableOp.LookAtTable ∷ [] → ⊥
  no-look rest e = by t.0 t.1 t.2 t.3.is t.3.none t.3.owes.fits
    where
      b : Begun
      b = record { call = Call.TryTick; own = k.own }

      o : Op
      o = Op.Table TableOp.LookAtTable

      t : Tied Counting counting-later Any s.world.trace (b ∷ k.outer) (o ∷ reverse rest)
      t = subst (λ (os : List Op). Tied Counting counting-later Any s.world.trace (b ∷ k.outer) os)
          (ap (λ (os : List Op). reverse os) e ∙ flipped rest (o ∷ []))
          (subst (λ (l : List Begun). Tied Counting counting-later Any s.world.trace l (reverse (stack s p))) k.is (f.tied p))

      by : (front : List Op) (last : Op) (below : List Op) →
          Op.Table TableOp.LookAtTable ∷ reverse rest ≡ front ++ last ∷ below →
          weigh calling_of front ≡ 0 → weigh (misfit Call.TryTick) (front ++ last ∷ []) ≡ 0 → ⊥
      by [] last below i n z =
          let j : Op.Table TableOp.LookAtTable ≡ last =
          (let y : Op.Table TableOp.LookAtTable ∷ reverse rest ≡ last ∷ below = i in cc) in
          absurd (omega (arith, z, ap (misfit Call.TryTick) j))
      by (x ∷ front) last below i n z =
          let j : Op.Table TableOp.LookAtTable ≡ x =
          (let y : Op.Table TableOp.LookAtTable ∷ reverse rest ≡ x ∷ (front ++ last ∷ below) = i in cc) in
          absurd (omega (arith, n, ap calling_of j))

  parts : (rest : List Op) (o : Op) → stack s p ≡ rest ++ o ∷ [] → Parted p rest o (deeds p s.world.trace)
  parts rest o e = parted p (stack s p) rest o (deeds p s.world.trace) e (prompts p).stands

  -- it is its second look, and finds the queue empty
  abbrev Found : Type 0
  Found = (m : Mark) × LooksSecond m p s × ((queue_of s.world m).items ≡ [])

  -- what comes on top, and is no end
  goes-on : (rest : List Op) (o : Op) → is_end o ≡ false → end_of (top (rest ++ o ∷ [])) ≡ Some Reply.No → ⊥
  goes-on rest o n e = by o n (sym (ap end_of (top-last rest o)) ∙ e)
    where
      by : (x : Op) → is_end x ≡ false → end_of (Some x) ≡ Some Reply.No → ⊥
      by (Op.End a held) n e = absurd (cc)
      by _ n e = absurd (cc)

  by-take : (look : Look) (q : List ℕ) (rest : List Op) → stack s p ≡ rest ++ Op.Queue (QueueOp.Take look) ∷ [] →
      (queue_of s.world (mark_in look)).items ≡ q →
      end_of (top (rest ++ reverse (take_by s.world look q).next)) ≡ Some Reply.No → Found
  by-take (First m) [] rest e i z = absurd (goes-on rest (Op.Queue (QueueOp.Take (Second (other m)))) refl z)
  by-take (Second m) [] rest e i z = (m, ap top e ∙ top-last rest (Op.Queue (QueueOp.Take (Second m))), i)
  by-take look (g ∷ gs) rest e i z =
      let no : None ≡ Some Reply.No = sym (ap end_of (taken-top rest (Op.End Reply.Yes Hold.Executor)
      (Op.Move Move.TakeUp g) (Op.Sleeper SleeperOp.ExchangeFlag))) ∙ z in absurd (cc)

  quick-act : (h : Hint) (o : Op) (rest : List Op) → stack s p ≡ rest ++ o ∷ [] → quick_of o ≡ 1 → is_end o ≡ false →
      end_of (top (rest ++ reverse (act p h o s.world).next)) ≡ Some Reply.No → Found
  quick-act h (Op.Queue QueueOp.TakeTurn) rest e c n z =
      absurd (goes-on rest (Op.Queue (QueueOp.Take (First (first_of s.world.urgent_turns)))) refl z)
  quick-act h (Op.Queue (QueueOp.Take look)) rest e c n z = by-take look _ rest e refl z
  quick-act h (Op.Table TableOp.LookAtTable) rest e c n z = absurd (no-look rest e)
  quick-act h (Op.End a held) rest e c n z = absurd (cc)
  quick-act h _ rest e c n z = absurd (cc)

  on-act : (h : Hint) (o : Op) → top (stack s p) ≡ Some o →
      end_of (top (below_top (stack s p) ++ reverse (act p h o s.world).next)) ≡ Some Reply.No → Found
  on-act h o e z =
      let i : stack s p ≡ below_top (stack s p) ++ o ∷ [] = topped (stack s p) o e in
      let x = parts (below_top (stack s p)) o i in ⊎_elim
      (λ (c : hasty o ≡ 0). absurd (none-on-top _ _ refl
      (slow-onto (below_top (stack s p)) (act p h o s.world).next x.0 (slow-act p h o s.world c (unended o e))) z))
      (λ (c : (quick_of o ≡ 1) × (_ ≡ true)). quick-act h o (below_top (stack s p)) i c.0 (unended o e) z)
      x.1

  on-react : (o : Op) (u : UserEnd) → top (stack s p) ≡ Some o →
      end_of (top (below_top (stack s p) ++ reverse (react p o u s.world).next)) ≡ Some Reply.No → ⊥
  on-react o u e z =
      let x = parts (below_top (stack s p)) o (topped (stack s p) o e) in
      none-on-top _ _ refl (slow-onto (below_top (stack s p)) (react p o u s.world).next x.0 (slow-react p o u s.world)) z

  abbrev Told : World → Type 0
  Told w = w.trace ≡ s.world.trace ++ (told ++ Event.CallEnded p Reply.No ∷ [])

  nothing : Told s.world → ⊥
  nothing e = by told (append_cancel_left s.world.trace _ _ (sym e ∙ sym (append-nil s.world.trace)))
    where
      by : (xs : Trace) → xs ++ Event.CallEnded p Reply.No ∷ [] ≡ [] → ⊥
      by [] q = absurd (cc)
      by (x ∷ xs) q = absurd (cc)

  on-go : (h : Hint) (o : Option Op) → top (stack s p) ≡ o →
      Told (gone_on p s.world (stack s p) o (λ x. act p h x s.world)).world → Found
  on-go h None e t = absurd (nothing t)
  on-go h (Some o) e t =
      let g = grows-act p h o s.world (unended o e) in
      on-act h o e (said (end_of (top (below_top (stack s p) ++ reverse (act p h o s.world).next))) p Reply.No
      (act p h o s.world).world _ s.world.trace g.more told g.is g.none_ends t)

  on-answer : (u : UserEnd) (o : Option Op) → top (stack s p) ≡ o →
      Told (gone_on p s.world (stack s p) o (λ x. react p x u s.world)).world → ⊥
  on-answer u None e t = nothing t
  on-answer u (Some o) e t =
      let g = grows-react p o u s.world in
      on-react o u e (said (end_of (top (below_top (stack s p) ++ reverse (react p o u s.world).next))) p Reply.No
      (react p o u s.world).world _ s.world.trace g.more told g.is g.none_ends t)

past : (b : Bool) (r : Option StepError) → unless b NoSuch r ≡ None → r ≡ None
past true r e = e
past false r e = absurd (cc)

stepped-is : (s : Machine) (t : Step) → refusal s t ≡ None → (stepped s (step s t)).world ≡ (after s t).world
stepped-is s t e = ap (λ (r : Result Machine StepError). (stepped s r).world) (step-made s t e)

emptied-by : (s : Machine) (p : ℕ) → Prompts s → Tops s → AllCounting s → IsIn Call.TryTick p s.world.trace → (t : Step) →
    is_onward_of p t ≡ true → (told : Trace) →
    (part_after s.world (stack s (party_of t)) t).world.trace ≡ s.world.trace ++ (told ++ Event.CallEnded p Reply.No ∷ []) →
    (m : Mark) × LooksSecond m p s × ((queue_of s.world m).items ≡ [])
emptied-by s p prompts here f k (Begin q c) n told e = absurd (cc)
emptied-by s p prompts here f k (Go q h) n told e =
    let i : q ≡ p = grind (arith, nat_tests) in
    on-go s p prompts here f k told h (top (stack s p)) refl
    (subst (λ (m : ℕ). (gone_on m s.world (stack s m) (top (stack s m)) (λ x. act m h x s.world)).world.trace
    ≡ s.world.trace ++ (told ++ Event.CallEnded p Reply.No ∷ [])) i e)
emptied-by s p prompts here f k (Answer q u) n told e =
    let i : q ≡ p = grind (arith, nat_tests) in
    absurd (on-answer s p prompts here f k told u (top (stack s p)) refl
    (subst (λ (m : ℕ). (gone_on m s.world (stack s m) (top (stack s m)) (λ x. react m x u s.world)).world.trace
    ≡ s.world.trace ++ (told ++ Event.CallEnded p Reply.No ∷ [])) i e))

emptied : (s : Machine) → Prompts s → Tops s → AllCounting s → NoMeansEmpty s
emptied s prompts here f = record {
  second = λ p t n k a.
      let o : Own s p t = whose s p t Reply.No here a in
      emptied-by s p prompts here f k t n a.0
      (sym (ap (λ (w : World). w.trace) (stepped-is s t o.possible)) ∙ a.1);
  first = emptied-before s prompts;
}

pub no-means-empty : (limit : ℕ) (kind : Kind) (parties : ℕ) (steps : List Step) →
    NoMeansEmpty (run steps (start limit kind parties))
no-means-empty limit kind parties steps = emptied (run steps (start limit kind parties))
    (prompt limit kind parties steps) (tops limit kind parties steps) (all-counting limit kind parties steps)
