-- The steps of a lone call of the machine are what its party does alone.
use Rattle.std.proofs.Common.{◌≡◌, ℕ, ◌<◌, ◌++◌, true, false, List, [], ◌∷◌}
use Rattle.std.proofs.Common.{length, Option, Some, refl, sym, ap, subst, ◌∙◌, get_or-set_same}
use Rattle.std.specs.Prelude.{reverse}
use Rattle.std.proofs.lemmas.List.{reverse-append, reverse-reverse}
use Rattle.executor_model.specs.declared.event.Event.TheVariants as event
use Rattle.executor_model.specs.declared.call.Reply.{Reply}
use Rattle.executor_model.specs.declared.op.Hold.{Hold}
use Rattle.executor_model.specs.declared.op.Op.{Op}
use Rattle.executor_model.specs.declared.op.Op.TheVariants as op
use Rattle.executor_model.specs.declared.op.UserOp.TheVariants as user_op
use Rattle.executor_model.specs.declared.step.Hint.{Hint}
use Rattle.executor_model.specs.declared.step.Step.TheVariants.{Go, Answer}
use Rattle.executor_model.specs.declared.step.UserEnd.{UserEnd}
use Rattle.executor_model.specs.Doing.{act}
use Rattle.executor_model.specs.Steps.{Machine, Part, after, below_top, end_of, gone_on, onto, react}
use Rattle.executor_model.specs.Steps.{settled, settled_by, stack, top, waits}
use Rattle.executor_model.specs.World.{World, Done, done, log}
use Rattle.executor_model.proofs.Steps.Lift.{topped}
use Rattle.executor_model.proofs.SpawnWants.Tops.{flipped}
use Rattle.executor_model.proofs.Table.Spawning.{top-last}
use Rattle.machine_roads.specs.Alone.{alone, is_resting, one_by, Has, HasAllBy, HasFirst}

abbrev later_of : List Op → List Op
later_of [] = []
later_of (o ∷ os) = os

-- the top of a stack, and what lies below it
pub top_of : (xs : List Op) (o : Op) (os : List Op) → reverse xs ≡ o ∷ os → (top xs ≡ Some o) × (reverse (below_top xs) ≡ os)
top_of xs o os is =
    let z : xs ≡ reverse os ++ o ∷ [] = sym (reverse-reverse xs) ∙ (ap (λ (ys : List Op). reverse ys) is ∙ reverse-append (o ∷ []) os) in
    let t : top xs ≡ Some o = ap top z ∙ top-last (reverse os) o in
    let e : o ∷ reverse (below_top xs) ≡ o ∷ os =
    sym (reverse-append (below_top xs) (o ∷ [])) ∙ (ap (λ (ys : List Op). reverse ys) (sym (topped xs o t)) ∙ is) in
    (t, ap (λ (ys : List Op). later_of ys) e)

pub none_of : (xs : List Op) → reverse xs ≡ [] → xs ≡ []
none_of xs is = sym (reverse-reverse xs) ∙ ap (λ (ys : List Op). reverse ys) is

-- a call ends where its end is all that is left
abbrev pub ended : ℕ → World → List Op → Done
ended p w [] = done w []
ended p w (op.End r held ∷ os) = done (log w (event.CallEnded p r)) os
ended p w (o ∷ os) = done w (o ∷ os)

pub record Settles (p : ℕ) (w : World) (xs ns : List Op) : Type 0 where
  pub world : (settled p w xs).world ≡ (ended p w ns).world
  pub todo : reverse (settled p w xs).todo ≡ (ended p w ns).next

pub settles : (p : ℕ) (w : World) (xs ns : List Op) → reverse xs ≡ ns → Settles p w xs ns
settles p w xs [] is =
    subst (λ (ys : List Op). Settles p w ys []) (sym (none_of xs is)) (record { world = refl; todo = refl })
settles p w xs (op.End r held ∷ os) is =
    let t = top_of xs (op.End r held) os is in
    record {
      world = ap (λ (o : Option Op). (settled_by (end_of o) p w xs).world) t.0;
      todo = ap (λ (o : Option Op). reverse (settled_by (end_of o) p w xs).todo) t.0 ∙ t.1;
    }
settles p w xs (o ∷ os) is =
    let t = top_of xs o os is in
    record {
      world = ap (λ (o : Option Op). (settled_by (end_of o) p w xs).world) t.0;
      todo = ap (λ (o : Option Op). reverse (settled_by (end_of o) p w xs).todo) t.0 ∙ is;
    }

-- whatever it is told from here on, where it rests it is so
abbrev pub LeadsBy : (World → List Op → Type 0) → ℕ → Done → (Done → Type 0) → Type 0
LeadsBy P p d R = (hints : List Hint) → HasAllBy P p hints d → is_resting (alone p hints d).next ≡ true → R (alone p hints d)

abbrev pub LeadsSoOf : (World → Op → Type 0) → ℕ → Done → (Done → Type 0) → Type 0
LeadsSoOf Asked p d R = LeadsBy (HasFirst Asked) p d R

abbrev pub LeadsSo : ℕ → Done → (Done → Type 0) → Type 0
LeadsSo p d R = LeadsSoOf Has p d R

-- it has come to its end, and left the world so
abbrev pub AtEnd : (World → Type 0) → Done → Type 0
AtEnd P d = (d.next ≡ []) × P d.world

abbrev pub Leads : ℕ → Done → (World → Type 0) → Type 0
Leads p d P = LeadsSo p d (AtEnd P)

abbrev pub no_hint : Hint
no_hint = record { refused = false; same = false; start = 0 }

-- of a call's end, and of the call of an outside waker, nothing is asked
pub record IsEasy (P : World → List Op → Type 0) : Type 0 where
  pub ends : (w : World) (r : Reply) (held : Hold) (os : List Op) → P w (op.End r held ∷ os)
  pub outside : (w : World) (x : ℕ) (os : List Op) → P w (op.User (user_op.CallOutside x) ∷ os)

module _ (P : World → List Op → Type 0) (easy : IsEasy P) (p : ℕ) (R : Done → Type 0) where
  -- a thing is done
  pub leads_on : (h : Hint) (o : Op) (w : World) (os : List Op) → waits o ≡ false → P w (o ∷ os) → LeadsBy P p (done w (o ∷ os)) R
      → LeadsBy P p (done (act p h o w).world ((act p h o w).next ++ os)) R
  leads_on h o w os goes has leads hints all rests =
      subst
      (λ b. HasAllBy P p hints (one_by b p h o w os) → is_resting (alone p hints (one_by b p h o w os)).next ≡ true
      → R (alone p hints (one_by b p h o w os)))
      goes
      (λ all rests. leads (h ∷ hints) (has, all) rests)
      all rests

  -- the call of an outside waker ends
  pub leads_outside : (x : ℕ) (w : World) (os : List Op) → LeadsBy P p (done w (op.User (user_op.CallOutside x) ∷ os)) R
      → LeadsBy P p (done w os) R
  leads_outside x w os leads hints all rests = leads (no_hint ∷ hints) (easy.outside w x os, all) rests

  -- and a call, where its end is all that is left of it
  pub leads_ended : (w : World) (os : List Op) → LeadsBy P p (done w os) R → LeadsBy P p (ended p w os) R
  leads_ended w [] leads = leads
  leads_ended w (op.End r held ∷ os) leads = λ hints all rests. leads (no_hint ∷ hints) (easy.ends w r held os, all) rests
  leads_ended w (o ∷ os) leads = leads

  -- where user code has to answer, it rests
  pub leads_rest : (w : World) (os : List Op) → is_resting os ≡ true → LeadsBy P p (done w os) R → R (done w os)
  leads_rest w os rests leads = leads [] tt rests

-- by a step to this part of the machine
pub record Goes (p : ℕ) (s new : Machine) (d : Done) : Type 0 where
  pub world : new.world ≡ (ended p d.world d.next).world
  pub todo : reverse (stack new p) ≡ (ended p d.world d.next).next

module _ (p : ℕ) (s : Machine) (there : p < length s.parties) (o : Op) (os : List Op) (is : reverse (stack s p) ≡ o ∷ os) where
  abbrev below : List Op
  below = below_top (stack s p)

  -- a part that is put for it
  put_on : (d : Done) (new : Machine) → new.world ≡ (onto p d below).world → stack new p ≡ (onto p d below).todo
      → Goes p s new (done d.world (d.next ++ os))
  put_on d new world todo =
      let turned : reverse (below ++ reverse d.next) ≡ d.next ++ os =
      flipped below d.next ∙ ap (λ (ys : List Op). d.next ++ ys) (top_of (stack s p) o os is).1 in
      let e = settles p d.world (below ++ reverse d.next) (d.next ++ os) turned in
      record { world = world ∙ e.world; todo = ap (λ (ys : List Op). reverse ys) todo ∙ e.todo }

  its_top : top (stack s p) ≡ Some o
  its_top = (top_of (stack s p) o os is).0

  pub goes : (h : Hint) → Goes p s (after s (Go p h)) (done (act p h o s.world).world ((act p h o s.world).next ++ os))
  goes h =
      let part : gone_on p s.world (stack s p) (top (stack s p)) (λ o. act p h o s.world) ≡ onto p (act p h o s.world) below =
      ap (λ t. gone_on p s.world (stack s p) t (λ o. act p h o s.world)) its_top in
      put_on (act p h o s.world) (after s (Go p h)) (ap (λ (l : Part). l.world) part)
      (get_or-set_same s.parties p (gone_on p s.world (stack s p) (top (stack s p)) (λ o. act p h o s.world)).todo [] there
      ∙ ap (λ (l : Part). l.todo) part)

  pub answers : (e : UserEnd) → Goes p s (after s (Answer p e)) (done (react p o e s.world).world ((react p o e s.world).next ++ os))
  answers e =
      let part : gone_on p s.world (stack s p) (top (stack s p)) (λ o. react p o e s.world) ≡ onto p (react p o e s.world) below =
      ap (λ t. gone_on p s.world (stack s p) t (λ o. react p o e s.world)) its_top in
      put_on (react p o e s.world) (after s (Answer p e)) (ap (λ (l : Part). l.world) part)
      (get_or-set_same s.parties p (gone_on p s.world (stack s p) (top (stack s p)) (λ o. react p o e s.world)).todo [] there
      ∙ ap (λ (l : Part). l.todo) part)
