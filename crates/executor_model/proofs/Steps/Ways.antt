-- For all laws.
-- How a step changes the machine: one move of one party, and the end of a call where that is all that is left of it.
use Rattle.std.proofs.Common.{◌≡◌, ℕ, ◌<◌, List, [], ◌∷◌, ◌++◌, length, set, Bool, true, false, not, ltb, refl, sym, ap, arith}
use Rattle.std.proofs.Common.{append-nil, ◌∙◌, subst, get_or-set_same}
use Rattle.std.specs.Prelude.{Option, Some, None, reverse}
use Rattle.std.{proofs.lemmas.Bool.Decides.nat_tests, proofs.lemmas.List.set-set, proofs.Math.ListN.length-set}
use Rattle.executor_model.proofs.Types.{Call, Reply, Event, Hold, Op, Hint, Step, Begin, Go, StepError, NoSuch, WrongAnswer}
use Rattle.executor_model.specs.declared.{step.Step.TheVariants.Answer, step.StepError.TheVariants.Waits}
use Rattle.executor_model.specs.Steps.{Machine, stack, top, below_top, mine, begin_refusal, waits, go_refusal, answer_refusal}
use Rattle.executor_model.specs.Steps.{accepts, is_locked_out, unless, party_of, part_refusal, refusal, begun, react, Part}
use Rattle.executor_model.specs.Steps.{end_of, settled_by, onto, gone_on, part_after, with_part, step_by, step, stepped, run}
use Rattle.executor_model.specs.{World.World, World.Lock, World.Done, World.done, World.log, Doing.act, Good.Good}
use Rattle.executor_model.proofs.{Types.UserEnd, Steps.Lift.topped, Steps.Lift.unsettled, Steps.Lift.good-stepped}

-- how party p came from having old on top of rest to d
pub data Way (s : Machine) (p : ℕ) (old rest : List Op) (d : Done) : Type 0 where
  acted : (h : Hint) (o : Op) → old ≡ o ∷ [] → d ≡ act p h o s.world → Way s p old rest d
  reacted : (o : Op) (e : UserEnd) → accepts o e ≡ true → old ≡ o ∷ [] → d ≡ react p o e s.world → Way s p old rest d
  called : (c : Call) → old ≡ [] → rest ≡ stack s p → begin_refusal s.world s.parties (top (stack s p)) c ≡ None →
      d ≡ begun p (log s.world (Event.CallBegun p c)) (mine (top (stack s p))) c → Way s p old rest d

-- no other party has the lock that it waits for
abbrev pub HasWay : Lock → List Op → Type 0
HasWay l old = (o : Op) → old ≡ o ∷ [] → is_locked_out l o ≡ false

first-is : (l : Lock) (x : Op) → is_locked_out l x ≡ false → HasWay l (x ∷ [])
first-is l x e o q = let same_one : x ≡ o = cc in rw (sym same_one) e

goes-way : (a b : Bool) → unless (not a) WrongAnswer (unless (not b) Waits None) ≡ None → b ≡ false
goes-way false false e = refl
goes-way false true e = absurd (cc)
goes-way true b e = absurd (cc)

-- user code waits for no lock
answers-way : (l : Lock) (o : Op) (u : UserEnd) → accepts o u ≡ true → is_locked_out l o ≡ false
answers-way l (Op.User o) u e = refl
answers-way l _ u e = absurd (cc)

pub record Made (s : Machine) (p : ℕ) (os : Part) : Type 0 where
  pub old : List Op
  pub rest : List Op
  pub d : Done
  pub was : stack s p ≡ rest ++ reverse old
  pub now : onto p d rest ≡ os
  pub way : Way s p old rest d
  pub free : HasWay s.world.lock old

made-go : (s : Machine) (p : ℕ) (h : Hint) (o : Option Op) → top (stack s p) ≡ o → go_refusal s.world o ≡ None →
    Made s p (gone_on p s.world (stack s p) o (λ x. act p h x s.world))
made-go s p h None e k = absurd (cc)
made-go s p h (Some o) e k =
    record {
      old = o ∷ [];
      rest = below_top (stack s p);
      d = act p h o s.world;
      was = topped _ o e;
      now = refl;
      way = acted h o refl refl;
      free = first-is s.world.lock o (goes-way (waits o) (is_locked_out s.world.lock o) k);
    }

made-answer : (s : Machine) (p : ℕ) (u : UserEnd) (o : Option Op) → top (stack s p) ≡ o → answer_refusal o u ≡ None →
    Made s p (gone_on p s.world (stack s p) o (λ x. react p x u s.world))
made-answer s p u None e k = absurd (cc)
made-answer s p u (Some o) e k =
    record {
      old = o ∷ [];
      rest = below_top (stack s p);
      d = react p o u s.world;
      was = topped _ o e;
      now = refl;
      way = reacted o u (go (accepts o u) k) refl refl;
      free = first-is s.world.lock o (answers-way s.world.lock o u (go (accepts o u) k));
    }
  where
    go : (b : Bool) → unless b WrongAnswer None ≡ None → b ≡ true
    go true q = refl
    go false q = absurd (cc)

-- each step that isn't refused is made in one of these ways
pub made : (s : Machine) (t : Step) → part_refusal s.world s.parties (stack s (party_of t)) t ≡ None →
    Made s (party_of t) (part_after s.world (stack s (party_of t)) t)
made s (Begin p c) k =
    record {
      old = [];
      rest = stack s p;
      d = begun p (log s.world (Event.CallBegun p c)) (mine (top (stack s p))) c;
      was = sym (append-nil (stack s p));
      now = refl;
      way = called c refl refl k refl;
      free = λ o q. absurd (cc);
    }
made s (Go p h) k = made-go s p h _ refl k
made s (Answer p u) k = made-answer s p u _ refl k

-- what each move of a party that waits for no lock keeps, and each end of a call, each execution keeps
module _
    (P : Machine → Type 0)
    (moves : (s : Machine) (p : ℕ) (old rest : List Op) (d : Done) → Good s → p < length s.parties →
    stack s p ≡ rest ++ reverse old → HasWay s.world.lock old → Way s p old rest d → P s → P (unsettled s p rest d))
    (ends : (s : Machine) (p : ℕ) (a : Reply) (held : Hold) (below : List Op) → p < length s.parties →
    stack s p ≡ below ++ reverse (Op.End a held ∷ []) → P s →
    P (unsettled s p below (done (log s.world (Event.CallEnded p a)) [])))
  where
    ended : (s : Machine) (p : ℕ) (os : List Op) (w : World) (o : Option Op) → p < length s.parties → top os ≡ o →
        P (record { world = w; parties = set s.parties p os }) → P (with_part s p (settled_by (end_of o) p w os))
    ended s p os w None h e k = k
    ended s p os w (Some (Op.End a held)) h e k =
        let t : Machine = record { world = w; parties = set s.parties p os } in
        let l : p < length t.parties = omega (arith, h, length-set s.parties p os) in
        let q : stack t p ≡ below_top os ++ reverse (Op.End a held ∷ []) = get_or-set_same s.parties p os [] h
        ∙ topped os (Op.End a held) e in
        let n : P (unsettled t p (below_top os) (done (log w (Event.CallEnded p a)) [])) =
        ends t p a held (below_top os) l q k in
        subst (λ (ss : List (List Op)). P (record { world = log w (Event.CallEnded p a); parties = ss }))
        (ap (set (set s.parties p os) p) (append-nil (below_top os)) ∙ set-set s.parties p os (below_top os)) n
    ended s p os w (Some _) h e k = k

    made-kept : (s : Machine) (p : ℕ) (x : Part) → p < length s.parties → Good s → Made s p x → P s →
        P (with_part s p x)
    made-kept s p x l good m k =
        subst (λ (y : Part). P (with_part s p y)) m.now
        (ended s p (m.rest ++ reverse m.d.next) m.d.world _ l refl
        (moves s p m.old m.rest m.d good l m.was m.free m.way k))

    there : (b : Bool) (r : Option StepError) → unless b NoSuch r ≡ None → (b ≡ true) × (r ≡ None)
    there true r e = (refl, e)
    there false r e = absurd (cc)

    kept-by : (s : Machine) (t : Step) (r : Option StepError) → refusal s t ≡ r → Good s → P s →
        P (stepped s (step_by r s t))
    kept-by s t (Some e) q good k = k
    kept-by s t None q good k =
        let x : _ = there (ltb (party_of t) (length s.parties))
        (part_refusal s.world s.parties (stack s (party_of t)) t) q in
        made-kept s (party_of t) (part_after s.world (stack s (party_of t)) t) (grind (arith, nat_tests)) good
        (made s t x.1) k

    kept-stepped : (s : Machine) (t : Step) → Good s → P s → P (stepped s (step s t))
    unfolding step
    kept-stepped s t good k = kept-by s t (refusal s t) refl good k

    pub along-free : (ts : List Step) (s : Machine) → Good s → P s → P (run ts s)
    along-free [] s good k = k
    along-free (t ∷ ts) s good k = along-free ts (stepped s (step s t)) (good-stepped s t good)
        (kept-stepped s t good k)

-- what each move and each end of a call keep, each execution keeps
module _
    (P : Machine → Type 0)
    (moves : (s : Machine) (p : ℕ) (old rest : List Op) (d : Done) → Good s → p < length s.parties →
    stack s p ≡ rest ++ reverse old → Way s p old rest d → P s → P (unsettled s p rest d))
    (ends : (s : Machine) (p : ℕ) (a : Reply) (held : Hold) (below : List Op) → p < length s.parties →
    stack s p ≡ below ++ reverse (Op.End a held ∷ []) → P s →
    P (unsettled s p below (done (log s.world (Event.CallEnded p a)) [])))
  where
    pub along : (ts : List Step) (s : Machine) → Good s → P s → P (run ts s)
    along = along-free P (λ s p old rest d good l e free way k. moves s p old rest d good l e way k) ends
