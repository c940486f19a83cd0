-- For nothing_is_ready_where_none_was_found.
-- How a call that its party began above other things goes on, one thing of its own after the other, with what it does beside and
-- what calls inside of it do above, to the step that answers it.
use Rattle.std.proofs.Common.{◌≡◌, ◌≢◌, ◌⊎◌, ◌∙◌, inl, inr, ⊎_elim, ℕ, ◌<◌, ◌≤◌, List, [], ◌∷◌, ◌++◌, length, Result, Bool}
use Rattle.std.proofs.Common.{true, false, eqb, ltb, refl, sym, ap, subst, arith, append-nil, append_assoc, length-append}
use Rattle.std.proofs.lemmas.Bool.Decides.{nat_tests}
use Rattle.std.specs.Prelude.{Option, Some, None, reverse}
use Rattle.executor_laws.proofs.Types.{Call, Reply, Event, Hold, Op, Hint, Step, Begin, Go, StepError, UserEnd}
use Rattle.executor_model.specs.declared.step.Step.TheVariants.{Answer}
use Rattle.executor_model.specs.Steps.{Machine, Part, accepts, answer_refusal, begin_refusal, begun, end_of, go_refusal}
use Rattle.executor_model.specs.Steps.{gone_on, mine, onto, part, part_after, part_refusal, party_of, react, refusal, settled}
use Rattle.executor_model.specs.Steps.{stack, step, stepped, top, waits, with_part}
use Rattle.executor_model.specs.{Doing.act, SpawnWants.Answers, Trace.Trace, Weights.weigh, World.Done, World.World, World.log}
use Rattle.executor_laws.specs.PendingPolls.{IsAnswered}
use Rattle.executor_model.proofs.Steps.Lists.{weigh-append, weigh-reverse}
use Rattle.executor_model.proofs.{Copies.Endings.last-event, Quiet.Calls.is_end, SpawnWants.Tops.Tops, SpawnWants.Tops.tops}
use Rattle.executor_model.proofs.{Steps.Reached.Reached, Steps.Stepping.step-refused}
use Rattle.executor_laws.proofs.Fewness.AnyStacks.{Settles, Stands, below-is, free-waits, settles, unsnoc}
use Rattle.executor_laws.proofs.Fewness.AnyStacks.Settles.{ends as settles_ends, same as settles_same}
use Rattle.executor_laws.proofs.Fewness.AnySteps.{beside-act, beside-no-end, beside-react, beside_of}
use Rattle.executor_laws.proofs.Reach.LoneSteps.{Last, answers, from-end, goes}
use Rattle.executor_laws.proofs.{Fewness.AnyPoll.set-other, Fewness.AnyPoll.set-same, Placement.OwnReady.reached-on}
use Rattle.executor_laws.proofs.{Promptness.Turns.next-is, Reach.LoneTicks.in-range, RunReach.RunWalks.not-nil}

-- the party's part of the machine
abbrev pub own_part : ℕ → Machine → Part
own_part p m = part m.world (stack m p)

pub answered-long : (a : Reply) (p : ℕ) (old : List Op) (ts : List Step) (s : Machine) → IsAnswered a p old ts s →
    length old < length (stack s p)
answered-long a p old [] s k = absurd k
answered-long a p old (t ∷ ts) s k = k.0

-- I: how far the call has come; C: what it may do next by itself
module _ (p : ℕ) (old : List Op) (I : Type 0) (C : I → Op → Type 0) where
  -- behind one thing it goes on with another of its own, below what is to be done beside
  pub record Comes (i : I) (d : Done) : Type 0 where
    pub control : Op
    pub side : List Op
    pub is : reverse d.next ≡ control ∷ side
    pub kind : C i control
    pub light : weigh beside_of side ≡ 0

  pub record Stays (i : I) (os : List Op) : Type 0 where
    pub control : Op
    pub side : List Op
    pub above : List Op
    pub is : os ≡ (old ++ control ∷ side) ++ above
    pub kind : C i control
    pub light : weigh beside_of side ≡ 0
    pub stands : (above ≡ []) ⊎ Stands (control ∷ side)

  -- it goes on, or has ended by its own end
  pub data Lands (i : I) (x : Part) : Type 0 where
    on : Stays i x.todo → Lands i x
    over : (a : Reply) (held : Hold) (v : World) → C i (Op.End a held) → x.world ≡ log v (Event.CallEnded p a) →
        length x.todo ≤ length old → Lands i x

  stays-long : (i : I) (os : List Op) → Stays i os → length old < length os
  stays-long i os h = omega (
    arith,
    ap (λ (xs : List Op). length xs) h.is,
    length-append (old ++ h.control ∷ h.side) h.above,
    length-append old (h.control ∷ h.side),
  )

  settled-lands : (i : I) (w : World) (c : Op) (side above : List Op) → C i c → weigh beside_of side ≡ 0 →
      (above ≡ []) ⊎ Stands (c ∷ side) → Lands i (settled p w ((old ++ c ∷ side) ++ above))
  settled-lands i w c side above k z st = by (settles p w ((old ++ c ∷ side) ++ above))
    where
      by : Settles p w ((old ++ c ∷ side) ++ above) → Lands i (settled p w ((old ++ c ∷ side) ++ above))
      by (settles_same e) = subst (Lands i) (sym e)
          (on (record { control = c; side = side; above = above; is = refl; kind = k; light = z; stands = st }))
      by (settles_ends a held below j e) = subst (Lands i) (sym e) (go (from-end above))
        where
          own-end : old ++ c ∷ side ≡ below ++ Op.End a held ∷ [] → Lands i (part (log w (Event.CallEnded p a)) below)
          own-end q = end_by (from-end side)
            where
              end_by : (side ≡ []) ⊎ Last side → Lands i (part (log w (Event.CallEnded p a)) below)
              end_by (inl y) =
                  let u : _ = unsnoc old below c (Op.End a held)
                  (sym (ap (λ (os : List Op). old ++ c ∷ os) y) ∙ q) in
                  over a held w (subst (C i) u.1 k) refl (omega (arith, ap (λ (os : List Op). length os) u.0))
              end_by (inr v) =
                  let u : v.last ≡ Op.End a held = (unsnoc (old ++ c ∷ v.below) below v.last (Op.End a held)
                  (append_assoc old (c ∷ v.below) (v.last ∷ [])
                  ∙ (sym (ap (λ (os : List Op). old ++ c ∷ os) v.is) ∙ q))).1 in
                  let y : beside_of v.last ≡ 0 =
                  omega (arith, z, ap (weigh beside_of) v.is, weigh-append beside_of v.below (v.last ∷ [])) in
                  let no : true ≡ false = sym (ap is_end u) ∙ beside-no-end v.last y in absurd (cc)

          go : (above ≡ []) ⊎ Last above → Lands i (part (log w (Event.CallEnded p a)) below)
          go (inl x) = own-end (sym (ap (λ (os : List Op). (old ++ c ∷ side) ++ os) x ∙ append-nil (old ++ c ∷ side)) ∙ j)
          go (inr x) = on (record {
            control = c;
            side = side;
            above = x.below;
            is = sym (unsnoc ((old ++ c ∷ side) ++ x.below) below x.last (Op.End a held)
                (append_assoc (old ++ c ∷ side) x.below (x.last ∷ [])
                ∙ (sym (ap (λ (os : List Op). (old ++ c ∷ side) ++ os) x.is) ∙ j))).0;
            kind = k;
            light = z;
            stands = ⊎_elim (λ (y : above ≡ []). absurd (not-nil x.below x.last (sym x.is ∙ y)))
                (λ (y : Stands (c ∷ side)). inr y) st;
          })

  lands : (i : I) (v : World) (xs : List Op) (c : Op) (side above : List Op) → xs ≡ (old ++ c ∷ side) ++ above → C i c →
      weigh beside_of side ≡ 0 → (above ≡ []) ⊎ Stands (c ∷ side) → Lands i (settled p v xs)
  lands i v xs c side above e k z st =
      subst (λ (ys : List Op). Lands i (settled p v ys)) (sym e) (settled-lands i v c side above k z st)

  -- what it will have to do behind one thing of its own
  pub comes-lands : (i : I) (d : Done) → Comes i d → Lands i (onto p d old)
  comes-lands i d x = lands i d.world (old ++ reverse d.next) x.control x.side []
      (ap (λ (ys : List Op). old ++ ys) x.is ∙ sym (append-nil (old ++ x.control ∷ x.side))) x.kind x.light (inl refl)

  -- a step of its party, by which the call itself goes on, or another thing is done
  data Moves (i : I) (w : World) (os : List Op) (t : Step) : Type 0 where
    apart : Lands i (part_after w os t) → Moves i w os t
    acts : (h : Hint) (c : Op) → t ≡ Go p h → top os ≡ Some c → waits c ≡ false → C i c →
        part_after w os t ≡ onto p (act p h c w) old → Moves i w os t
    reacts : (u : UserEnd) (c : Op) → t ≡ Answer p u → top os ≡ Some c → accepts c u ≡ true → C i c →
        part_after w os t ≡ onto p (react p c u w) old → Moves i w os t

  module _ (i : I) (w : World) (ss : List (List Op)) (os : List Op) (h : Stays i os) where
    abbrev below_side : List Op
    below_side = old ++ h.control ∷ h.side

    inner : (d : Done) (xs : List Op) → Stands (h.control ∷ h.side) → Lands i (onto p d (below_side ++ xs))
    inner d xs s = lands i d.world ((below_side ++ xs) ++ reverse d.next) h.control h.side (xs ++ reverse d.next)
        (append_assoc below_side xs (reverse d.next)) h.kind h.light (inr s)

    aside : (d : Done) (v : Last h.side) → weigh beside_of d.next ≡ 0 → Lands i (onto p d (old ++ h.control ∷ v.below))
    aside d v z = lands i d.world ((old ++ h.control ∷ v.below) ++ reverse d.next) h.control (v.below ++ reverse d.next) []
        (append_assoc old (h.control ∷ v.below) (reverse d.next)
        ∙ sym (append-nil (old ++ h.control ∷ (v.below ++ reverse d.next)))) h.kind
        (omega (
          arith,
          h.light,
          z,
          ap (weigh beside_of) v.is,
          weigh-append beside_of v.below (v.last ∷ []),
          weigh-append beside_of v.below (reverse d.next),
          weigh-reverse beside_of d.next,
        ))
        (inl refl)

    must-stand : (x : Last h.above) → Stands (h.control ∷ h.side)
    must-stand x = ⊎_elim (λ (y : h.above ≡ []). absurd (not-nil x.below x.last (sym x.is ∙ y)))
        (λ (y : Stands (h.control ∷ h.side)). y) h.stands

    on-above : (x : Last h.above) → os ≡ (below_side ++ x.below) ++ x.last ∷ []
    on-above x = h.is ∙ (ap (λ (xs : List Op). below_side ++ xs) x.is ∙ sym (append_assoc below_side x.below (x.last ∷ [])))

    alone : h.above ≡ [] → os ≡ below_side
    alone e = h.is ∙ (ap (λ (xs : List Op). below_side ++ xs) e ∙ append-nil below_side)

    on-side : h.above ≡ [] → (v : Last h.side) → os ≡ (old ++ h.control ∷ v.below) ++ v.last ∷ []
    on-side e v = alone e
        ∙ (ap (λ (xs : List Op). old ++ h.control ∷ xs) v.is ∙ sym (append_assoc old (h.control ∷ v.below) (v.last ∷ [])))

    on-control : h.above ≡ [] → h.side ≡ [] → os ≡ old ++ h.control ∷ []
    on-control e v = alone e ∙ ap (λ (xs : List Op). old ++ h.control ∷ xs) v

    last-light : (v : Last h.side) → beside_of v.last ≡ 0
    last-light v = omega (arith, h.light, ap (weigh beside_of) v.is, weigh-append beside_of v.below (v.last ∷ []))

    -- what its last thing does
    gone-is : (d : Op → Done) (o : Op) (below : List Op) → os ≡ below ++ o ∷ [] →
        gone_on p w os (top os) d ≡ onto p (d o) below
    gone-is d o below e =
        let b : _ = below-is os below o e in
        ap (λ (x : Option Op). gone_on p w os x d) b.0 ∙ ap (λ (xs : List Op). onto p (d o) xs) b.1

    moves-begin : (c : Call) → begin_refusal w ss (top os) c ≡ None → Moves i w os (Begin p c)
    moves-begin c e = apart (subst (λ (xs : List Op). Lands i (onto p begins xs)) (sym h.is) (inner begins h.above stands_in))
      where
        begins : Done
        begins = begun p (log w (Event.CallBegun p c)) (mine (top os)) c

        in-user : (o : Op) → top os ≡ Some o → waits o ≡ true
        in-user o t = free-waits (waits o) _ (sym (ap (λ (x : Option Op). begin_refusal w ss x c) t) ∙ e)

        by-own : h.above ≡ [] → (h.side ≡ []) ⊎ Last h.side → Stands (h.control ∷ h.side)
        by-own a (inl v) = record {
          below = [];
          last = h.control;
          is = ap (λ (xs : List Op). h.control ∷ xs) v;
          waiting = in-user h.control (below-is os old h.control (on-control a v)).0;
        }
        by-own a (inr v) = record {
          below = h.control ∷ v.below;
          last = v.last;
          is = ap (λ (xs : List Op). h.control ∷ xs) v.is;
          waiting = in-user v.last (below-is os _ v.last (on-side a v)).0;
        }

        stands_in : Stands (h.control ∷ h.side)
        stands_in = ⊎_elim (λ (a : h.above ≡ []). by-own a (from-end h.side)) (λ (y : Stands (h.control ∷ h.side)). y) h.stands

    moves-go : (g : Hint) → go_refusal w (top os) ≡ None → Moves i w os (Go p g)
    moves-go g e = ⊎_elim by-own by-inner (from-end h.above)
      where
        does : Op → Done
        does x = act p g x w

        ready : (o : Op) → top os ≡ Some o → waits o ≡ false
        ready o t = goes w o (sym (ap (λ (x : Option Op). go_refusal w x) t) ∙ e)

        by-inner : Last h.above → Moves i w os (Go p g)
        by-inner x = apart (subst (Lands i) (sym (gone-is does x.last _ (on-above x)))
            (inner (does x.last) x.below (must-stand x)))

        by-own : h.above ≡ [] → Moves i w os (Go p g)
        by-own a = ⊎_elim by-control by-beside (from-end h.side)
          where
            by-beside : Last h.side → Moves i w os (Go p g)
            by-beside v = apart (subst (Lands i) (sym (gone-is does v.last _ (on-side a v)))
                (aside (does v.last) v
                (beside-act p g v.last w (ready v.last (below-is os _ v.last (on-side a v)).0) (last-light v)).light))

            by-control : h.side ≡ [] → Moves i w os (Go p g)
            by-control v =
                let t : top os ≡ Some h.control = (below-is os old h.control (on-control a v)).0 in
                acts g h.control refl t (ready h.control t) h.kind (gone-is does h.control old (on-control a v))

    moves-answer : (u : UserEnd) → answer_refusal (top os) u ≡ None → Moves i w os (Answer p u)
    moves-answer u e = ⊎_elim by-own by-inner (from-end h.above)
      where
        does : Op → Done
        does x = react p x u w

        accepted : (o : Op) → top os ≡ Some o → accepts o u ≡ true
        accepted o t = answers o u (sym (ap (λ (x : Option Op). answer_refusal x u) t) ∙ e)

        by-inner : Last h.above → Moves i w os (Answer p u)
        by-inner x = apart (subst (Lands i) (sym (gone-is does x.last _ (on-above x)))
            (inner (does x.last) x.below (must-stand x)))

        by-own : h.above ≡ [] → Moves i w os (Answer p u)
        by-own a = ⊎_elim by-control by-beside (from-end h.side)
          where
            by-beside : Last h.side → Moves i w os (Answer p u)
            by-beside v = apart (subst (Lands i) (sym (gone-is does v.last _ (on-side a v)))
                (aside (does v.last) v
                (beside-react p v.last u w (accepted v.last (below-is os _ v.last (on-side a v)).0) (last-light v)).light))

            by-control : h.side ≡ [] → Moves i w os (Answer p u)
            by-control v =
                let t : top os ≡ Some h.control = (below-is os old h.control (on-control a v)).0 in
                reacts u h.control refl t (accepted h.control t) h.kind (gone-is does h.control old (on-control a v))

    moves : (t : Step) → party_of t ≡ p → part_refusal w ss os t ≡ None → Moves i w os t
    moves (Begin q c) j e = subst (λ (a : ℕ). Moves i w os (Begin a c)) (sym j) (moves-begin c e)
    moves (Go q g) j e = subst (λ (a : ℕ). Moves i w os (Go a g)) (sym j) (moves-go g e)
    moves (Answer q u) j e = subst (λ (a : ℕ). Moves i w os (Answer a u)) (sym j) (moves-answer u e)

  -- Q: what the steps from there on have done

  module _ (Q : I → List Step → Machine → Type 0) where
    pub data Next (i : I) (s : Machine) (t : Step) (d : Done) : Type 0 where
      had : ((ts : List Step) → Q i (t ∷ ts) s) → Next i s t d
      goes_on : (j : I) → Comes j d → ((ts : List Step) → Q j ts (stepped s (step s t)) → Q i (t ∷ ts) s) → Next i s t d

    pub record Follows : Type 0 where
      pub later : (i : I) (s : Machine) (t : Step) (ts : List Step) → Q i ts (stepped s (step s t)) → Q i (t ∷ ts) s
      pub acts : (i : I) (s : Machine) (h : Hint) (c : Op) → refusal s (Go p h) ≡ None → top (stack s p) ≡ Some c →
          waits c ≡ false → is_end c ≡ false → C i c → Next i s (Go p h) (act p h c s.world)
      pub reacts : (i : I) (s : Machine) (u : UserEnd) (c : Op) → accepts c u ≡ true → C i c →
          Next i s (Answer p u) (react p c u s.world)
      pub ends : (i : I) (a : Reply) (held : Hold) → C i (Op.End a held) → a ≢ Reply.Pending

    data Went (i : I) (s : Machine) (t : Step) : Type 0 where
      had_so : ((ts : List Step) → Q i (t ∷ ts) s) → Went i s t
      went : (j : I) → Lands j (own_part p (stepped s (step s t))) →
          ((ts : List Step) → Q j ts (stepped s (step s t)) → Q i (t ∷ ts) s) → Went i s t

    module _ (f : Follows) (s : Machine) (here : Tops s) (i : I) (h : Stays i (stack s p)) (t : Step) where
      abbrev same_stack : stack (stepped s (step s t)) p ≡ stack s p → Went i s t
      same_stack e = went i (on (subst (Stays i) (sym e) h)) (f.later i s t)

      own-is : refusal s t ≡ None → party_of t ≡ p → p < length s.parties →
          own_part p (stepped s (step s t)) ≡ part_after s.world (stack s p) t
      own-is e j l = ap (own_part p) (next-is s t e)
          ∙ (ap (λ (a : ℕ). own_part p (with_part s a (part_after s.world (stack s a) t))) j
          ∙ ap (part (part_after s.world (stack s p) t).world) (set-same p s (part_after s.world (stack s p) t) l))

      unended : (c : Op) → top (stack s p) ≡ Some c → is_end c ≡ false
      unended c e = by c (ap end_of (sym e) ∙ here.none p)
        where
          by : (x : Op) → end_of (Some x) ≡ None → is_end x ≡ false
          by (Op.End a held) z = absurd (cc)
          by _ z = refl

      by-next : (d : Done) → own_part p (stepped s (step s t)) ≡ onto p d old → Next i s t d → Went i s t
      by-next d e (had k) = had_so k
      by-next d e (goes_on j x k) = went j (subst (Lands j) (sym e) (comes-lands j d x)) k

      by-moves : refusal s t ≡ None → own_part p (stepped s (step s t)) ≡ part_after s.world (stack s p) t →
          Moves i s.world (stack s p) t → Went i s t
      by-moves e q (apart l) = went i (subst (Lands i) (sym q) l) (f.later i s t)
      by-moves e q (acts g c a o w k x) = by-next (act p g c s.world) (q ∙ x)
          (subst (λ (b : Step). Next i s b (act p g c s.world)) (sym a)
          (f.acts i s g c (sym (ap (refusal s) a) ∙ e) o w (unended c o) k))
      by-moves e q (reacts u c a o v k x) = by-next (react p c u s.world) (q ∙ x)
          (subst (λ (b : Step). Next i s b (react p c u s.world)) (sym a) (f.reacts i s u c v k))

      by-own : refusal s t ≡ None → party_of t ≡ p → Went i s t
      by-own e j =
          let r : _ = in-range (ltb (party_of t) (length s.parties)) (part_refusal s.world s.parties (stack s (party_of t)) t) e in
          let l : party_of t < length s.parties =
          (let b : ltb (party_of t) (length s.parties) ≡ true = r.0 in grind (arith, nat_tests)) in
          by-moves e (own-is e j (omega (arith, l, j)))
          (moves i s.world s.parties (stack s p) h t j
          (sym (ap (λ (a : ℕ). part_refusal s.world s.parties (stack s a) t) j) ∙ r.1))

      by-other : refusal s t ≡ None → p ≢ party_of t → Went i s t
      by-other e n = same_stack (ap (λ (m : Machine). stack m p) (next-is s t e)
          ∙ set-other p (party_of t) s (part_after s.world (stack s (party_of t)) t) n)

      by-refusal : (r : Option StepError) → refusal s t ≡ r → Went i s t
      by-refusal (Some error) e = same_stack (ap (λ (r : Result Machine StepError). stack (stepped s r) p) (step-refused s t error e))
      by-refusal None e = by (eqb p (party_of t)) refl
        where
          by : (b : Bool) → eqb p (party_of t) ≡ b → Went i s t
          by true z = by-own e (let j : party_of t ≡ p = grind (arith, nat_tests) in j)
          by false z = by-other e (let j : p ≢ party_of t = grind (arith, nat_tests) in j)

      one : Went i s t
      one = by-refusal (refusal s t) refl

    tops-here : (s : Machine) → Reached s → Tops s
    tops-here s y = subst Tops (sym y.is) (tops y.limit y.kind y.parties y.steps)

    -- the answer is its own
    said-so : (es told : Trace) (m : Machine) (v : World) (a b : Reply) → m.world ≡ log v (Event.CallEnded p a) →
        m.world.trace ≡ es ++ (told ++ Event.CallEnded p b ∷ []) → a ≡ b
    said-so es told m v a b i j =
        let k : Event.CallEnded p a ≡ Event.CallEnded p b = last-event v.trace (es ++ told) _ _
        (sym (ap (λ (w : World). w.trace) i) ∙ (j ∙ sym (append_assoc es told (Event.CallEnded p b ∷ [])))) in cc

    pub seek : Follows → (ts : List Step) (s : Machine) → Reached s → (i : I) → Stays i (stack s p) →
        IsAnswered Reply.Pending p old ts s → Q i ts s
    seek f [] s y i h a = absurd a
    seek f (t ∷ ts) s y i h a = by (λ j x z. seek f ts (stepped s (step s t)) (reached-on s (t ∷ []) y) j x z)
        (one f s (tops-here s y) i h t) a
      where
        by : ((j : I) → Stays j (stack (stepped s (step s t)) p) → IsAnswered Reply.Pending p old ts (stepped s (step s t)) →
            Q j ts (stepped s (step s t))) → Went i s t → IsAnswered Reply.Pending p old (t ∷ ts) s → Q i (t ∷ ts) s
        by again (had_so k) z = k ts
        by again (went j (on x) k) z = ⊎_elim
            (λ (b : Answers s t p Reply.Pending × (stack (stepped s (step s t)) p ≡ old)).
            absurd (omega (arith, stays-long j (stack (stepped s (step s t)) p) x, ap (λ (xs : List Op). length xs) b.1)))
            (λ (b : IsAnswered Reply.Pending p old ts (stepped s (step s t))). k ts (again j x b)) z.1
        by again (went j (over r held v c w l) k) z = ⊎_elim
            (λ (b : Answers s t p Reply.Pending × (stack (stepped s (step s t)) p ≡ old)).
            absurd (f.ends j r held c (said-so s.world.trace b.0.0 (stepped s (step s t)) v r Reply.Pending w b.0.1)))
            (λ (b : IsAnswered Reply.Pending p old ts (stepped s (step s t))).
            absurd (omega (arith, answered-long Reply.Pending p old ts (stepped s (step s t)) b, l))) z.1

-- the call begins
pub begins-so : (p : ℕ) (I : Type 0) (C : I → Op → Type 0) (i : I) (s : Machine) (c : Call) → refusal s (Begin p c) ≡ None →
    Comes p (stack s p) I C i (begun p (log s.world (Event.CallBegun p c)) (mine (top (stack s p))) c) →
    Lands p (stack s p) I C i (own_part p (stepped s (step s (Begin p c))))
begins-so p I C i s c e x =
    let b : ltb p (length s.parties) ≡ true =
    (in-range (ltb p (length s.parties)) (part_refusal s.world s.parties (stack s p) (Begin p c)) e).0 in
    let l : p < length s.parties = grind (arith, nat_tests) in
    let y : Part = part_after s.world (stack s p) (Begin p c) in
    subst (Lands p (stack s p) I C i)
    (sym (ap (own_part p) (next-is s (Begin p c) e) ∙ ap (part y.world) (set-same p s y l)))
    (comes-lands p (stack s p) I C i _ x)
