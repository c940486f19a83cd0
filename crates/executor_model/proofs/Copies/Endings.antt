-- For copies_are_counted.
-- Who takes a step by which a call ends: the call's own party.
use Rattle.std.proofs.Common.{◌≡◌, ◌∙◌, ℕ, List, [], ◌∷◌, ◌++◌, Bool, true, false, refl, sym, ap, append-nil}
use Rattle.std.proofs.lemmas.List.{append_assoc, append_cancel_left, reverse-append}
use Rattle.std.specs.Prelude.{Option, Some, None, reverse}
use Rattle.executor_model.proofs.Types.{Reply, Event, Op, Waker, Step, StepError, NoSuch}
use Rattle.executor_model.specs.Steps.{Machine, Part, end_of, mine, part_after, party_of, refusal, settled_by, stack, step}
use Rattle.executor_model.specs.Steps.{step_by, stepped, top, unless}
use Rattle.executor_model.specs.{SpawnWants.Answers, Trace.Trace, Trace.has, World.Done, World.World, World.log}
use Rattle.executor_model.proofs.SpawnWants.Tops.{Tops, first, flipped, top-first}
use Rattle.executor_model.proofs.Steps.Deeds.{ends_one, grows-act, grows-begun, grows-react}
use Rattle.executor_model.proofs.{Promises.CallPromises.has-right, Quiet.Calls.is_end, Steps.Ways.Made, Steps.Ways.Way}
use Rattle.executor_model.proofs.{Steps.Ways.made, Steps.Ways.Way.acted, Steps.Ways.Way.called, Steps.Ways.Way.reacted}

pub last-event : (xs ys : Trace) (a b : Event) → xs ++ a ∷ [] ≡ ys ++ b ∷ [] → a ≡ b
last-event xs ys a b e =
    let q : a ∷ reverse xs ≡ b ∷ reverse ys = sym (reverse-append xs (a ∷ []))
    ∙ (ap (λ (es : Trace). reverse es) e ∙ reverse-append ys (b ∷ [])) in cc

not-both : (b : Bool) → b ≡ true → b ≡ false → ⊥
not-both true e f = absurd (cc)
not-both false e f = absurd (cc)

not-nothing : (xs : Trace) (a : Event) → xs ++ a ∷ [] ≡ [] → ⊥
not-nothing [] a e = absurd (cc)
not-nothing (x ∷ xs) a e = absurd (cc)

ended-by : (p q : ℕ) (a : Reply) (w : World) (os : List Op) (o : Option Reply) (es more told : Trace) →
    w.trace ≡ es ++ more → has ends_one more ≡ false →
    (settled_by o q w os).world.trace ≡ es ++ (told ++ Event.CallEnded p a ∷ []) → p ≡ q
ended-by p q a w os None es more told t n e =
    let i : more ≡ told ++ Event.CallEnded p a ∷ [] = append_cancel_left es _ _ (sym t ∙ e) in
    absurd (not-both (has ends_one more)
    (ap (has ends_one) i ∙ has-right ends_one told (Event.CallEnded p a ∷ []) refl) n)
ended-by p q a w os (Some b) es more told t n e =
    let i : more ++ Event.CallEnded q b ∷ [] ≡ told ++ Event.CallEnded p a ∷ [] =
    append_cancel_left es _ _ (sym (append_assoc es more (Event.CallEnded q b ∷ []))
    ∙ (ap (λ (xs : Trace). xs ++ Event.CallEnded q b ∷ []) (sym t) ∙ e)) in
    let j : Event.CallEnded q b ≡ Event.CallEnded p a = last-event more told _ _ i in cc

-- what the party does tells of no end of a call
record Tells (w : World) (d : Done) : Type 0 where
  pub more : Trace
  pub is : d.world.trace ≡ w.trace ++ more
  pub none : has ends_one more ≡ false

pub no-end-top : (s : Machine) (q : ℕ) → Tops s → (o : Op) (rest : List Op) → stack s q ≡ rest ++ reverse (o ∷ []) →
    is_end o ≡ false
no-end-top s q here o rest e =
    let z : end_of (first (o ∷ reverse rest)) ≡ None =
    ap (λ (os : List Op). end_of (first os)) (sym (flipped rest (o ∷ [])))
    ∙ (ap (λ (os : List Op). end_of (first (reverse os))) (sym e)
    ∙ (ap end_of (sym (top-first (stack s q))) ∙ here.none q)) in by o z
  where
    by : (x : Op) → end_of (Some x) ≡ None → is_end x ≡ false
    by (Op.End a held) z = absurd (cc)
    by _ z = refl

tells-way : (s : Machine) (q : ℕ) (old rest : List Op) (d : Done) → Tops s → stack s q ≡ rest ++ reverse old →
    Way s q old rest d → Tells s.world d
tells-way s q old rest d here e (acted h o i z) =
    let n : is_end o ≡ false = no-end-top s q here o rest (e ∙ ap (λ (os : List Op). rest ++ reverse os) i) in
    let g = grows-act q h o s.world n in
    record { more = g.more; is = ap (λ (y : Done). y.world.trace) z ∙ g.is; none = g.none_ends }
tells-way s q old rest d here e (reacted o u a i z) =
    let g = grows-react q o u s.world in
    record { more = g.more; is = ap (λ (y : Done). y.world.trace) z ∙ g.is; none = g.none_ends }
tells-way s q old rest d here e (called c i r n z) =
    let w : World = log s.world (Event.CallBegun q c) in
    let o : Option Waker = mine (top (stack s q)) in
    let g = grows-begun q w o c in
    record {
      more = Event.CallBegun q c ∷ g.more;
      is = ap (λ (y : Done). y.world.trace) z
          ∙ (g.is ∙ append_assoc s.world.trace (Event.CallBegun q c ∷ []) g.more);
      none = g.none_ends;
    }

there : (b : Bool) (r : Option StepError) → unless b NoSuch r ≡ None → r ≡ None
there true r e = e
there false r e = absurd (cc)

-- the step is possible, and the party's own
pub record Own (s : Machine) (p : ℕ) (t : Step) : Type 0 where
  pub possible : refusal s t ≡ None
  pub own : p ≡ party_of t

own-by : (s : Machine) (p : ℕ) (a : Reply) (told : Trace) → Tops s → (t : Step) (r : Option StepError) → refusal s t ≡ r →
    (stepped s (step_by r s t)).world.trace ≡ s.world.trace ++ (told ++ Event.CallEnded p a ∷ []) → Own s p t
own-by s p a told here t (Some error) q e =
    absurd (not-nothing told (Event.CallEnded p a)
    (append_cancel_left s.world.trace _ [] (sym e ∙ sym (append-nil s.world.trace))))
own-by s p a told here t None q e =
    let m : Made s (party_of t) (part_after s.world (stack s (party_of t)) t) = made s t (there _ _ q) in
    let g : Tells s.world m.d = tells-way s (party_of t) m.old m.rest m.d here m.was m.way in
    record {
      possible = q;
      own = ended-by p (party_of t) a m.d.world (m.rest ++ reverse m.d.next)
          (end_of (top (m.rest ++ reverse m.d.next))) s.world.trace g.more told g.is g.none
          (ap (λ (x : Part). x.world.trace) m.now ∙ e);
    }

pub whose : (s : Machine) (p : ℕ) (t : Step) (a : Reply) → Tops s → Answers s t p a → Own s p t
unfolding step
whose s p t a here k = own-by s p a k.0 here t (refusal s t) refl k.1
