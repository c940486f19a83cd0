-- For spawns_want_memory_as_told.
-- Between two steps nobody has the end of a call on top: what answers a call stands on user code, or on nothing.
use Rattle.std.proofs.Common.{◌≡◌, ◌≢◌, ◌∙◌, ℕ, ◌<◌, List, [], ◌∷◌, ◌++◌, length, get_or, set, Bool, true, false, eqb, ⊎_elim}
use Rattle.std.proofs.Common.{refl, sym, ap, subst, arith, append-nil, get_or-set_same, get_or-set_other}
use Rattle.std.proofs.lemmas.Bool.Decides.{nat_tests}
use Rattle.std.proofs.lemmas.List.{append_assoc, reverse-append, reverse-reverse}
use Rattle.std.specs.Prelude.{Option, Some, None, reverse}
use Rattle.executor_model.proofs.Types.{Kind, Reply, Event, Hold, Op, Hint, Step}
use Rattle.executor_model.specs.Steps.{Machine, end_of, is_free, react, run, stack, start, top, waits}
use Rattle.executor_model.specs.{Doing.act, Good.Good, Weights.weigh, World.Done, World.done, World.log}
use Rattle.executor_model.proofs.Quiet.Calls.{Answering, Passes, calling_of, is_end}
use Rattle.executor_model.proofs.Quiet.Resting.{calling-is, idle-stack, opens}
use Rattle.executor_model.proofs.{Promises.CallFrames.passes-react, Quiet.CallsGroups.calls-act, Steps.Lift.good-start}
use Rattle.executor_model.proofs.{Steps.Lift.none_refused, Steps.Lift.unsettled, Steps.Settled.along-settled, Steps.Ways.Way}
use Rattle.executor_model.proofs.{Steps.Ways.Way.acted, Steps.Ways.Way.called, Steps.Ways.Way.reacted, Table.Spawning.top-last}

-- the first of a list whose first thing is done next
abbrev pub first : List Op → Option Op
first [] = None
first (o ∷ os) = Some o

pub top-first : (os : List Op) → top os ≡ first (reverse os)
top-first os = by (reverse os) refl
  where
    by : (rs : List Op) → reverse os ≡ rs → top os ≡ first rs
    by [] e =
        let z : os ≡ [] = sym (reverse-reverse os) ∙ ap (λ (xs : List Op). reverse xs) e in
        ap top z
    by (o ∷ rs) e =
        let z : os ≡ reverse rs ++ o ∷ [] = sym (reverse-reverse os)
        ∙ (ap (λ (xs : List Op). reverse xs) e ∙ reverse-append (o ∷ []) rs) in
        ap top z ∙ top-last (reverse rs) o

pub flipped : (rest old : List Op) → reverse (rest ++ reverse old) ≡ old ++ reverse rest
flipped rest old = reverse-append rest (reverse old)
    ∙ ap (λ (xs : List Op). xs ++ reverse rest) (reverse-reverse old)

-- what answers a call stands on user code
abbrev pub Sits : Op → List Op → Type 0
Sits o [] = Unit {0}
Sits o (x ∷ os) = calling_of o ≡ 1 → waits x ≡ true

abbrev pub Over : List Op → Type 0
Over [] = Unit {0}
Over (o ∷ os) = Sits o os × Over os

sits-none : (o : Op) (os : List Op) → calling_of o ≡ 0 → Sits o os
sits-none o [] z = tt
sits-none o (x ∷ os) z = λ k. absurd (omega (arith, z, k))

sits-as : (o l : Op) (os : List Op) → calling_of o ≡ 1 → Sits o os → Sits l os
sits-as o l [] z h = tt
sits-as o l (x ∷ os) z h = λ k. h z

sits-free : (l : Op) (os : List Op) → is_free (first os) ≡ true → Sits l os
sits-free l [] e = tt
sits-free l (x ∷ os) e = λ k. e

over-quiet : (next os : List Op) → weigh calling_of next ≡ 0 → Over os → Over (next ++ os)
over-quiet [] os z h = h
over-quiet (n ∷ next) os z h =
    (sits-none n (next ++ os) (omega (arith, z)), over-quiet next os (omega (arith, z)) h)

over-answering : (next os : List Op) → Answering next → ((l : Op) → Sits l os) → Over os → Over (next ++ os)
over-answering next os a s h =
    subst (λ (xs : List Op). Over (xs ++ os)) (sym a.is)
    (subst Over (sym (append_assoc a.front (a.last ∷ []) os)) (over-quiet a.front (a.last ∷ os) a.none (s a.last, h)))

over-on : (o : Op) (next os : List Op) → Passes o next → Over (o ∷ os) → Over (next ++ os)
over-on o next os k h = ⊎_elim
    (λ (z : calling_of o ≡ 0). over-quiet next os (k.none z) h.1)
    (λ (z : calling_of o ≡ 1). over-answering next os (k.one z) (λ l. sits-as o l os z h.0) h.1)
    (calling-is o)

-- each way in which a party goes on
over-way : (s : Machine) (p : ℕ) (old rest : List Op) (d : Done) → stack s p ≡ rest ++ reverse old →
    Way s p old rest d → Over (reverse (stack s p)) → Over (reverse (rest ++ reverse d.next))
over-way s p old rest d e way h = subst Over (sym (flipped rest d.next)) (by way)
  where
    was : Over (old ++ reverse rest)
    was = subst Over (ap (λ (xs : List Op). reverse xs) e ∙ flipped rest old) h

    acts : (x : Hint) (o : Op) (b : Bool) → is_end o ≡ b → old ≡ o ∷ [] → Over ((act p x o s.world).next ++ reverse rest)
    acts x o false n q = over-on o (act p x o s.world).next (reverse rest) (calls-act p x o s.world n).passes
        (subst (λ (os : List Op). Over (os ++ reverse rest)) q was)
    acts x (Op.End a held) true n q =
        let k : Over (Op.End a held ∷ reverse rest) = subst (λ (os : List Op). Over (os ++ reverse rest)) q was in k.1
    acts x _ true n q = absurd (cc)

    by : Way s p old rest d → Over (d.next ++ reverse rest)
    by (acted x o q z) =
        subst (λ (y : Done). Over (y.next ++ reverse rest)) (sym z) (acts x o (is_end o) refl q)
    by (reacted o u a q z) =
        subst (λ (y : Done). Over (y.next ++ reverse rest)) (sym z)
        (over-on o (react p o u s.world).next (reverse rest) (passes-react p o u s.world a)
        (subst (λ (os : List Op). Over (os ++ reverse rest)) q was))
    by (called c q r n z) =
        let f : _ = none_refused s.world s.parties (top (stack s p)) c n in
        let free : is_free (first (reverse rest)) ≡ true =
        ap is_free (sym (top-first rest)) ∙ (ap (λ (os : List Op). is_free (top os)) r ∙ f.0) in
        subst (λ (y : Done). Over (y.next ++ reverse rest)) (sym z)
        (over-answering _ (reverse rest) (opens p s.world s.parties (top (stack s p)) c f.1).1
        (λ l. sits-free l (reverse rest) free) (subst (λ (os : List Op). Over (os ++ reverse rest)) q was))

-- of a machine

pub record Tops (s : Machine) : Type 0 where
  pub over : (q : ℕ) → Over (reverse (stack s q))
  pub none : (q : ℕ) → end_of (top (stack s q)) ≡ None

record Within (s : Machine) (p : ℕ) : Type 0 where
  pub over : (q : ℕ) → Over (reverse (stack s q))
  pub none : (q : ℕ) → q ≢ p → end_of (top (stack s q)) ≡ None

each : (P : List Op → Type 0) (s : Machine) (p : ℕ) (rest : List Op) (d : Done) → p < length s.parties →
    P (rest ++ reverse d.next) → ((q : ℕ) → q ≢ p → P (stack s q)) → (q : ℕ) → P (stack (unsettled s p rest d) q)
each P s p rest d l h k q = by (eqb q p) refl
  where
    by : (b : Bool) → eqb q p ≡ b → P (get_or (set s.parties p (rest ++ reverse d.next)) q [])
    by true z =
        let i : p ≡ q = grind (arith, nat_tests) in
        subst (λ (n : ℕ). P (get_or (set s.parties p (rest ++ reverse d.next)) n [])) i
        (subst P (sym (get_or-set_same s.parties p (rest ++ reverse d.next) [] l)) h)
    by false z =
        let n : q ≢ p = grind (arith, nat_tests) in
        subst P (sym (get_or-set_other s.parties p q (rest ++ reverse d.next) [] n)) (k q n)

moves : (s : Machine) (p : ℕ) (old rest : List Op) (d : Done) → Good s → p < length s.parties →
    stack s p ≡ rest ++ reverse old → Way s p old rest d → Tops s → Within (unsettled s p rest d) p
moves s p old rest d good l e way k = record {
  over = each (λ (os : List Op). Over (reverse os)) s p rest d l (over-way s p old rest d e way (k.over p))
      (λ q n. k.over q);
  none = λ q n. subst (λ (os : List Op). end_of (top os) ≡ None)
      (sym (get_or-set_other s.parties p q (rest ++ reverse d.next) [] n)) (k.none q);
}

user-no-end : (x : Op) → waits x ≡ true → end_of (Some x) ≡ None
user-no-end (Op.End a held) e = absurd (cc)
user-no-end _ e = refl

below-no-end : (a : Reply) (held : Hold) (os : List Op) → Sits (Op.End a held) os → end_of (first os) ≡ None
below-no-end a held [] h = refl
below-no-end a held (x ∷ os) h = user-no-end x (h refl)

ends : (s : Machine) (p : ℕ) (a : Reply) (held : Hold) (below : List Op) → p < length s.parties →
    stack s p ≡ below ++ reverse (Op.End a held ∷ []) → Within s p →
    Tops (unsettled s p below (done (log s.world (Event.CallEnded p a)) []))
ends s p a held below l e k =
    let h : Over (Op.End a held ∷ reverse below) =
    subst Over (ap (λ (xs : List Op). reverse xs) e ∙ flipped below (Op.End a held ∷ [])) (k.over p) in
    record {
      over = each (λ (os : List Op). Over (reverse os)) s p below (done (log s.world (Event.CallEnded p a)) []) l
          (subst Over (sym (flipped below [])) h.1) (λ q n. k.over q);
      none = each (λ (os : List Op). end_of (top os) ≡ None) s p below (done (log s.world (Event.CallEnded p a)) []) l
          (ap (λ (os : List Op). end_of (top os)) (append-nil below)
          ∙ (ap end_of (top-first below) ∙ below-no-end a held (reverse below) h.0)) k.none;
    }

stays : (s : Machine) (p : ℕ) → p < length s.parties → end_of (top (stack s p)) ≡ None → Within s p → Tops s
stays s p l e k = record { over = k.over; none = λ q. by q (eqb q p) refl }
  where
    by : (q : ℕ) (b : Bool) → eqb q p ≡ b → end_of (top (stack s q)) ≡ None
    by q true z =
        let i : q ≡ p = grind (arith, nat_tests) in ap (λ (n : ℕ). end_of (top (stack s n))) i ∙ e
    by q false z = let n : q ≢ p = grind (arith, nat_tests) in k.none q n

tops-start : (limit : ℕ) (kind : Kind) (n : ℕ) → Tops (start limit kind n)
tops-start limit kind n = record {
  over = λ q. subst (λ (os : List Op). Over (reverse os)) (sym (idle-stack n q)) tt;
  none = λ q. ap (λ (os : List Op). end_of (top os)) (idle-stack n q);
}

pub tops : (limit : ℕ) (kind : Kind) (n : ℕ) (ts : List Step) → Tops (run ts (start limit kind n))
tops limit kind n ts = along-settled Tops Within moves ends stays ts (start limit kind n) (good-start limit kind n)
    (tops-start limit kind n)
