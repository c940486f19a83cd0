-- For spawns_want_memory_as_told.
-- A spawn is answered that memory is wanted where its step is told so and the executor isn't full, and nowhere else.
use Rattle.std.proofs.Common.{◌≡◌, ◌∙◌, ℕ, List, [], ◌∷◌, ◌++◌, length, Bool, true, false, not, ltb, refl, sym, ap, subst}
use Rattle.std.proofs.lemmas.List.{append_assoc, append_cancel_left, reverse-append}
use Rattle.std.specs.Prelude.{Option, Some, None, nat_lt, reverse}
use Rattle.std.{proofs.Common.arith, proofs.Common.append-nil, specs.List.list_any}
use Rattle.executor_model.proofs.Types.{Kind, Call, Reply, Event, Op, Hold, QueueOp, TableOp, Waker, Hint, Step, Begin, Go}
use Rattle.executor_model.proofs.Types.{StepError, NoSuch, WrongAnswer, UserEnd, Mark}
use Rattle.executor_model.specs.declared.step.Step.TheVariants.{Answer}
use Rattle.executor_model.specs.Steps.{Machine, accepts, begun, end_of, go_refusal, answer_refusal, gone_on, mine, onto}
use Rattle.executor_model.specs.Steps.{below_top, part_after, part_refusal, party_of, react, refusal, run, settled_by, stack}
use Rattle.executor_model.specs.SpawnWants.{Answers, IsSpawning, SpawnsWantAsTold, is_refused}
use Rattle.executor_model.specs.{Acts.enter_by, Doing.act, Limit.Asks, Limit.IsLimitExact, Limit.IsUndropped, Limit.ReachLimit}
use Rattle.executor_model.specs.{Entries.Remains, Refusals.ends_for_want, Steps.start, Steps.step, Steps.step_by, Steps.stepped}
use Rattle.executor_model.specs.{Steps.top, Steps.unless, Trace.Trace, Trace.has, World.Done, World.World, World.log}
use Rattle.executor_model.proofs.Steps.Deeds.{ends_one, grows-act, grows-begun, grows-react}
use Rattle.executor_model.proofs.Table.Spawning.{asked, in-range, limits, says-full, step-trace}
use Rattle.executor_model.proofs.SpawnWants.Tops.{Tops, first, flipped, top-first, tops}
use Rattle.executor_model.proofs.SpawnWants.WantFrames.{Askings, askings, Enters, unended, want_of}
use Rattle.executor_model.proofs.SpawnWants.WantSteps.{InSpawn, asked as asked-place, in-spawn}
use Rattle.executor_model.proofs.{Memory.Refusing.want-is-told-of, Promises.CallFrames.passes-react}
use Rattle.executor_model.proofs.{Promises.CallPromises.has-right, Quiet.Calls.Answering, Quiet.Calls.is_end}
use Rattle.executor_model.proofs.{Quiet.CallsGroups.calls-act, Quiet.Resting.opens, Steps.Lift.none_refused, Steps.Lift.topped}

-- lists with the same last

last-event : (xs ys : Trace) (a b : Event) → xs ++ a ∷ [] ≡ ys ++ b ∷ [] → a ≡ b
last-event xs ys a b e =
    let q : a ∷ reverse xs ≡ b ∷ reverse ys = sym (reverse-append xs (a ∷ []))
    ∙ (ap (λ (es : Trace). reverse es) e ∙ reverse-append ys (b ∷ [])) in cc

not-both : (b : Bool) → b ≡ true → b ≡ false → ⊥
not-both true e f = absurd (cc)
not-both false e f = absurd (cc)

not-nothing : (xs : Trace) (a : Event) → xs ++ a ∷ [] ≡ [] → ⊥
not-nothing [] a e = absurd (cc)
not-nothing (x ∷ xs) a e = absurd (cc)

-- which call has ended

abbrev Ends : ℕ → ℕ → Option Reply → Type 0
Ends p q o = (p ≡ q) × (o ≡ Some Reply.NoMemory)

ended-by : (p q : ℕ) (w : World) (os : List Op) (o : Option Reply) (es more told : Trace) → w.trace ≡ es ++ more →
    has ends_one more ≡ false →
    (settled_by o q w os).world.trace ≡ es ++ (told ++ Event.CallEnded p Reply.NoMemory ∷ []) → Ends p q o
ended-by p q w os None es more told t n e =
    let i : more ≡ told ++ Event.CallEnded p Reply.NoMemory ∷ [] = append_cancel_left es _ _ (sym t ∙ e) in
    absurd (not-both (has ends_one more)
    (ap (has ends_one) i ∙ has-right ends_one told (Event.CallEnded p Reply.NoMemory ∷ []) refl) n)
ended-by p q w os (Some a) es more told t n e =
    let i : more ++ Event.CallEnded q a ∷ [] ≡ told ++ Event.CallEnded p Reply.NoMemory ∷ [] =
    append_cancel_left es _ _ (sym (append_assoc es more (Event.CallEnded q a ∷ []))
    ∙ (ap (λ (xs : Trace). xs ++ Event.CallEnded q a ∷ []) (sym t) ∙ e)) in
    let j : Event.CallEnded q a ≡ Event.CallEnded p Reply.NoMemory = last-event more told _ _ i in
    let k : p ≡ q = cc in
    let m : a ≡ Reply.NoMemory = cc in (k, ap (λ (x : Reply). Some x) m)

wants-first : (o : Option Op) → end_of o ≡ Some Reply.NoMemory → (x : Op) × (o ≡ Some x) × (want_of x ≡ 1)
wants-first None e = absurd (cc)
wants-first (Some (Op.End a held)) e =
    let i : a ≡ Reply.NoMemory = cc in
    (Op.End a held, refl, ap (λ (b : Reply). want_of (Op.End b held)) i)
wants-first (Some _) e = absurd (cc)

-- there is no place for one more
abbrev is_full : World → Bool
is_full w = not (nat_lt (length w.table) w.limit)

-- in each way

-- what the party does tells of no end of a call
record Tells (w : World) (d : Done) : Type 0 where
  pub more : Trace
  pub is : d.world.trace ≡ w.trace ++ more
  pub none : has ends_one more ≡ false

module _ (s : Machine) (p q : ℕ) (here : Tops s) (f : Askings s) (k : IsSpawning p s.world.trace) (told : Trace) where
  -- the end of a call comes first
  comes-first : (rest : List Op) (d : Done) → end_of (top (rest ++ reverse d.next)) ≡ Some Reply.NoMemory →
      (x : Op) × (first (d.next ++ reverse rest) ≡ Some x) × (want_of x ≡ 1)
  comes-first rest d e =
      let i : top (rest ++ reverse d.next) ≡ first (d.next ++ reverse rest) =
      top-first (rest ++ reverse d.next) ∙ ap first (flipped rest d.next) in
      wants-first (first (d.next ++ reverse rest)) (ap end_of (sym i) ∙ e)

  was-end : (rest : List Op) (d : Done) → Tells s.world d →
      (onto q d rest).world.trace ≡ s.world.trace ++ (told ++ Event.CallEnded p Reply.NoMemory ∷ []) →
      Ends p q (end_of (top (rest ++ reverse d.next)))
  was-end rest d t e = ended-by p q d.world (rest ++ reverse d.next) (end_of (top (rest ++ reverse d.next)))
      s.world.trace t.more told t.is t.none e

  unended-top : (o : Op) (rest : List Op) → stack s q ≡ rest ++ reverse (o ∷ []) → is_end o ≡ false
  unended-top o rest e =
      let z : end_of (first (o ∷ reverse rest)) ≡ None =
      ap (λ (os : List Op). end_of (first os)) (sym (flipped rest (o ∷ [])))
      ∙ (ap (λ (os : List Op). end_of (first (reverse os))) (sym e)
      ∙ (ap end_of (sym (top-first (stack s q))) ∙ here.none q)) in by o z
    where
      by : (x : Op) → end_of (Some x) ≡ None → is_end x ≡ false
      by (Op.End a held) z = absurd (cc)
      by _ z = refl

  frame : (o : Op) (rest : List Op) → stack s q ≡ rest ++ reverse (o ∷ []) → p ≡ q → InSpawn (o ∷ reverse rest)
  frame o rest e i = subst InSpawn (ap (λ (os : List Op). reverse os) e ∙ flipped rest (o ∷ []))
      (in-spawn s q f (subst (λ (n : ℕ). IsSpawning n s.world.trace) i k))

  by-act : (h : Hint) (o : Op) (rest : List Op) → stack s q ≡ rest ++ reverse (o ∷ []) →
      (onto q (act q h o s.world) rest).world.trace ≡ s.world.trace ++ (told ++ Event.CallEnded p Reply.NoMemory ∷ []) →
      (p ≡ q) × Enters o × (h.refused ≡ true) × (is_full s.world ≡ false)
  by-act h o rest e t =
      let n : is_end o ≡ false = unended-top o rest e in
      let g = grows-act q h o s.world n in
      let z : Ends p q (end_of (top (rest ++ reverse (act q h o s.world).next))) =
      was-end rest (act q h o s.world) (record { more = g.more; is = g.is; none = g.none_ends }) t in
      let x = comes-first rest (act q h o s.world) z.1 in
      let i : Enters o = asked-place o x.0 (reverse rest) (act q h o s.world).next
      (calls-act q h o s.world n).passes n x.2 x.1 (frame o rest e z.0) in
      let r = refuses i.0 (is_full s.world) h.refused x.0 (reverse rest)
      (ap (λ (y : Op). first ((act q h y s.world).next ++ reverse rest)) (sym i.1) ∙ x.1) x.2 in (z.0, i, r.0, r.1)
    where
      refuses : (mark : Mark) (b c : Bool) (y : Op) (below : List Op) →
          first ((enter_by b c mark q s.world).next ++ below) ≡ Some y → want_of y ≡ 1 → (c ≡ true) × (b ≡ false)
      refuses mark false true y below v u = (refl, refl)
      refuses mark true c y below v u =
          let j : Op.End Reply.Full Hold.Executor ≡ y = cc in absurd (omega (arith, u, ap want_of j))
      refuses mark false false y below v u =
          let j : Op.Queue (QueueOp.Append (length s.world.tasks)) ≡ y = cc in absurd (omega (arith, u, ap want_of j))

  by-react : (o : Op) (u : UserEnd) (rest : List Op) → stack s q ≡ rest ++ reverse (o ∷ []) → accepts o u ≡ true →
      (onto q (react q o u s.world) rest).world.trace ≡ s.world.trace ++ (told ++ Event.CallEnded p Reply.NoMemory ∷ []) →
      ⊥
  by-react o u rest e a t =
      let n : is_end o ≡ false = unended o u a in
      let g = grows-react q o u s.world in
      let z : Ends p q (end_of (top (rest ++ reverse (react q o u s.world).next))) =
      was-end rest (react q o u s.world) (record { more = g.more; is = g.is; none = g.none_ends }) t in
      let x = comes-first rest (react q o u s.world) z.1 in
      let i : Enters o = asked-place o x.0 (reverse rest) (react q o u s.world).next
      (passes-react q o u s.world a) n x.2 x.1 (frame o rest e z.0) in
      let no : accepts (Op.Table (TableOp.Enter i.0)) u ≡ true = ap (λ (y : Op). accepts y u) (sym i.1) ∙ a in absurd (cc)

  by-begin : (c : Call) (rest : List Op) (d : Done) → Answering d.next → list_any ends_for_want d.next ≡ false →
      Tells s.world d →
      (onto q d rest).world.trace ≡ s.world.trace ++ (told ++ Event.CallEnded p Reply.NoMemory ∷ []) → ⊥
  by-begin c rest d a n g t =
      let z : Ends p q (end_of (top (rest ++ reverse d.next))) = was-end rest d g t in
      let x = comes-first rest d z.1 in
      by d.next a n x.0 x.1 x.2
    where
      asks-none : (o : Op) (os : List Op) → list_any ends_for_want (o ∷ os) ≡ false → want_of o ≡ 1 → ⊥
      asks-none (Op.End Reply.NoMemory held) os e w = absurd (cc)
      asks-none _ os e w = absurd (omega (arith, w))

      by : (next : List Op) → Answering next → list_any ends_for_want next ≡ false → (y : Op) →
          first (next ++ reverse rest) ≡ Some y → want_of y ≡ 1 → ⊥
      by [] b m y e w = absurd (none b.front b.last b.is)
        where
          none : (xs : List Op) (l : Op) → [] ≡ xs ++ l ∷ [] → ⊥
          none [] l z = absurd (cc)
          none (v ∷ xs) l z = absurd (cc)
      by (o ∷ os) b m y e w = let i : o ≡ y = cc in asks-none o os m (ap want_of i ∙ w)

-- each step

record Found (s : Machine) (t : Step) (p : ℕ) : Type 0 where
  pub told_so : is_refused t ≡ true
  pub asks : Asks s p
  pub free : is_full s.world ≡ false

there : (b : Bool) (r : Option StepError) → unless b NoSuch r ≡ None → r ≡ None
there true r e = e
there false r e = absurd (cc)

module _ (s : Machine) (p : ℕ) (here : Tops s) (f : Askings s) (k : IsSpawning p s.world.trace) (told : Trace) where
  go-found : (q : ℕ) (h : Hint) (o : Option Op) → top (stack s q) ≡ o → go_refusal s.world o ≡ None →
      (gone_on q s.world (stack s q) o (λ x. act q h x s.world)).world.trace
      ≡ s.world.trace ++ (told ++ Event.CallEnded p Reply.NoMemory ∷ []) → Found s (Go q h) p
  go-found q h None e r t = absurd (cc)
  go-found q h (Some o) e r t =
      let x = by-act s p q here f k told h o (below_top (stack s q)) (topped (stack s q) o e) t in
      record {
        told_so = x.2;
        asks = (x.1.0, ap (λ (n : ℕ). top (stack s n)) x.0 ∙ (e ∙ ap (λ (y : Op). Some y) x.1.1));
        free = x.3;
      }

  accepted : (o : Op) (u : UserEnd) → answer_refusal (Some o) u ≡ None → accepts o u ≡ true
  accepted o u e = by (accepts o u) e
    where
      by : (b : Bool) → unless b WrongAnswer None ≡ None → b ≡ true
      by true q = refl
      by false q = absurd (cc)

  answer-found : (q : ℕ) (u : UserEnd) (o : Option Op) → top (stack s q) ≡ o → answer_refusal o u ≡ None →
      (gone_on q s.world (stack s q) o (λ x. react q x u s.world)).world.trace
      ≡ s.world.trace ++ (told ++ Event.CallEnded p Reply.NoMemory ∷ []) → ⊥
  answer-found q u None e r t = absurd (cc)
  answer-found q u (Some o) e r t =
      by-react s p q here f k told o u (below_top (stack s q)) (topped (stack s q) o e) (accepted o u r) t

  found-by : (t : Step) → part_refusal s.world s.parties (stack s (party_of t)) t ≡ None →
      (part_after s.world (stack s (party_of t)) t).world.trace
      ≡ s.world.trace ++ (told ++ Event.CallEnded p Reply.NoMemory ∷ []) → Found s t p
  found-by (Begin q c) r t =
      let w : World = log s.world (Event.CallBegun q c) in
      let o : Option Waker = mine (top (stack s q)) in
      let x : _ = none_refused s.world s.parties (top (stack s q)) c r in
      let g = grows-begun q w o c in
      absurd (by-begin s p q here f k told c (stack s q) (begun q w o c)
      (opens q s.world s.parties (top (stack s q)) c x.1).1 ((want-is-told-of w q).begins o c)
      (record {
        more = Event.CallBegun q c ∷ g.more;
        is = g.is ∙ append_assoc s.world.trace (Event.CallBegun q c ∷ []) g.more;
        none = g.none_ends;
      }) t)
  found-by (Go q h) r t = go-found q h _ refl r t
  found-by (Answer q u) r t = absurd (answer-found q u _ refl r t)

  found-step : (t : Step) (r : Option StepError) → refusal s t ≡ r →
      (stepped s (step_by r s t)).world.trace ≡ s.world.trace ++ (told ++ Event.CallEnded p Reply.NoMemory ∷ []) →
      Found s t p
  found-step t (Some error) q e =
      absurd (not-nothing told (Event.CallEnded p Reply.NoMemory)
      (append_cancel_left s.world.trace _ [] (sym e ∙ sym (append-nil s.world.trace))))
  found-step t None q e = found-by t (there (ltb (party_of t) (length s.parties)) _ q) e

found : (s : Machine) (p : ℕ) → Tops s → Askings s → IsSpawning p s.world.trace → (t : Step) →
    Answers s t p Reply.NoMemory → Found s t p
unfolding step
found s p here f k t a = found-step s p here f k a.0 t (refusal s t) refl a.1

-- the law

module _ (s : Machine) (here : Tops s) (f : Askings s) (exact : IsLimitExact s) where
  abbrev any_hint : Hint
  any_hint = record { refused = false; same = false; start = 0 }

  few : (p : ℕ) (t : Step) → IsSpawning p s.world.trace → Answers s t p Reply.NoMemory →
      ¬ ReachLimit s (λ g. IsUndropped g s)
  few p t k a r =
      let x : Found s t p = found s p here f k t a in
      let full : is_full s.world ≡ true = says-full (is_full s.world) false p s.world s.world.trace
      (sym (step-trace s p any_hint (in-range s p (Op.Table (TableOp.Enter x.asks.0)) x.asks.1) x.asks)
      ∙ exact.always p any_hint x.asks r) in
      not-both (is_full s.world) full x.free

  module _ (p : ℕ) (h : Hint) (asks : Asks s p) (none : ¬ ReachLimit s (λ g. Remains g s)) where
    told-trace : (stepped s (step s (Go p h))).world.trace ≡ s.world.trace ++ asked (is_full s.world) h.refused p s.world ∷ []
    told-trace = step-trace s p h (in-range s p (Op.Table (TableOp.Enter asks.0)) asks.1) asks

    free : is_full s.world ≡ false
    free = by (is_full s.world) refl
      where
        by : (b : Bool) → is_full s.world ≡ b → b ≡ false
        by false e = refl
        by true e = absurd (none (exact.only p h asks
            (told-trace ∙ ap (λ (b : Bool). s.world.trace ++ asked b h.refused p s.world ∷ []) e)))

    answered : (b : Bool) → h.refused ≡ b →
        (stepped s (step s (Go p h))).world.trace ≡ s.world.trace ++ asked false b p s.world ∷ []
    answered b e = told-trace ∙ (ap (λ (c : Bool). s.world.trace ++ asked c h.refused p s.world ∷ []) free
        ∙ ap (λ (c : Bool). s.world.trace ++ asked false c p s.world ∷ []) e)

  as-told : SpawnsWantAsTold s
  as-told = record {
    only = λ p t k a. (found s p here f k t a).told_so;
    few = few;
    refused = λ p h asks none e. answered p h asks none true e;
    made = λ p h asks none e. answered p h asks none false e;
  }

pub spawns-want : (limit : ℕ) (kind : Kind) (parties : ℕ) (steps : List Step) → SpawnsWantAsTold (run steps (start limit kind parties))
spawns-want limit kind parties steps = as-told (run steps (start limit kind parties)) (tops limit kind parties steps)
    (askings limit kind parties steps) (limits limit kind parties steps)
