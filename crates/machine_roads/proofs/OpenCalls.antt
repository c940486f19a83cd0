-- Where the queues are open, what calls of wakers and handles speak of is there at each step, also once the executor's drop has begun.
use Rattle.std.proofs.Common.{◌≡◌, ℕ, ◌<◌, ◌++◌, ◌&&◌, not, Bool, true, false, List, [], ◌∷◌, length, Some, refl, sym, ap, subst, ◌∙◌}
use Rattle.executor_parts.specs.declared.mark.Mark.{Mark}
use Rattle.task_moves.specs.declared.moves.owed.Move.TheVariants as move
use Rattle.executor_model.specs.declared.op.Op.{Op}
use Rattle.executor_model.specs.declared.op.Op.TheVariants as op
use Rattle.executor_model.specs.declared.op.QueueOp.TheVariants as queue_op
use Rattle.executor_model.specs.declared.step.Hint.{Hint}
use Rattle.executor_model.specs.Doing.{act}
use Rattle.executor_model.specs.Steps.{Machine, stack, top, waits}
use Rattle.executor_model.specs.World.{World, done, mark_of, queue_of}
use Rattle.executor_model.proofs.Steps.Reached.{Reached}
use Rattle.machine_roads.specs.Alone.{answered_by, is_outside, is_resting, one_by, Has, HasAllOf}
use Rattle.machine_roads.proofs.Beside.{go_append, has_user, may_go, of_two}
use Rattle.machine_roads.proofs.Having.{appends_open, asks_open, has_unless}
use Rattle.machine_roads.proofs.Lists.{clash}
use Rattle.machine_roads.proofs.LoneCloses.{IsAny}
use Rattle.machine_roads.proofs.LoneRuns.{Walks, both_true, of_top}
use Rattle.machine_roads.proofs.Loose.{is_of_call}
use Rattle.machine_roads.proofs.Tableless.{act_does}

abbrev pub AreOpen : World → Type 0
AreOpen w = (m : Mark) → (queue_of w m).closed ≡ false

abbrev pub HasOpen : World → Op → Type 0
HasOpen w o = is_of_call o ≡ true → AreOpen w → Has w o

module _ (s : Machine) (p : ℕ) (reached : Reached s) (there : p < length s.parties) (opened : AreOpen s.world) where
  asked : (o : Op) → is_of_call o ≡ true → asks_open o ≡ true → top (stack s p) ≡ Some o → Has s.world o
  asked (op.Queue (queue_op.Append f)) fit asks is = appends_open s p reached there f (opened (mark_of s.world f)) is
  asked (op.Move move.TakeUp f) fit asks is = absurd cc
  asked (op.Closing o) fit asks is = absurd cc
  asked o fit asks is = absurd cc

  has_in_open : (o : Op) → is_of_call o ≡ true → top (stack s p) ≡ Some o → Has s.world o
  has_in_open o fit is = by (asks_open o) refl
    where
      by : (b : Bool) → asks_open o ≡ b → Has s.world o
      by true asks = asked o fit asks is
      by false off = has_unless s p reached there o (λ asks. absurd (clash off asks)) is

pub of_calls : Walks HasOpen IsAny
of_calls = record {
  easy = record { ends = λ w r held os fit opened. tt; outside = λ w x os fit opened. tt };
  gives = of_top HasOpen IsAny (λ s p reached there any o is fit opened. has_in_open s p reached there opened o fit is);
  back = λ ts s new reached made any. tt;
}

abbrev anyone : ℕ → Bool
anyone f = true

of_call : (o : Op) (os : List Op) → may_go (o ∷ os) ≡ true → waits o ≡ false → (is_of_call o ≡ true) × (may_go os ≡ true)
of_call o os goes free =
    both_true (is_of_call o) (may_go os)
    (of_two (is_resting (o ∷ os)) (is_of_call o && may_go os) (ap (λ b. b && not (is_outside o)) free) goes)

first_open : (o : Op) (os : List Op) (w : World) → AreOpen w → may_go (o ∷ os) ≡ true → HasOpen w o → Has w o
first_open o os w opened goes has = by (waits o) refl
  where
    by : (b : Bool) → waits o ≡ b → Has w o
    by true held = has_user anyone [] [] [] o w held
    by false free = has (of_call o os goes free).0 opened

module _ (p : ℕ) (hs : List Hint)
    (rest : (w : World) (os : List Op) → AreOpen w → may_go os ≡ true → HasAllOf HasOpen p hs (done w os)
    → HasAllOf Has p hs (done w os)) where
  one_open : (b c : Bool) (h : Hint) (w : World) (o : Op) (os : List Op) → waits o ≡ b → is_outside o ≡ c → AreOpen w
      → may_go (o ∷ os) ≡ true → Has w o → HasAllOf HasOpen p hs (one_by b p h o w os) → HasAllOf Has p hs (one_by b p h o w os)
  one_open false c h w o os free out opened goes here has =
      let both = of_call o os goes free in
      let e = act_does anyone [] [] [] p w (λ f at waits. refl) h o both.0 free here in
      rest (act p h o w).world ((act p h o w).next ++ os) (λ m. e.shut m ∙ opened m)
      (go_append (act p h o w).next os e.fits both.1) has
  one_open true true h w o os held out opened goes here has =
      let both =
      both_true (is_of_call o) (may_go os)
      (of_two (is_resting (o ∷ os)) (is_of_call o && may_go os)
      (ap (λ b. b && not (is_outside o)) held ∙ ap not out) goes) in
      subst (λ b. HasAllOf Has p hs (done w (answered_by b o os))) (sym out)
      (rest w os opened both.1 (subst (λ b. HasAllOf HasOpen p hs (done w (answered_by b o os))) out has))
  one_open true false h w o os held out opened goes here has =
      subst (λ b. HasAllOf Has p hs (done w (answered_by b o os))) (sym out)
      (rest w (o ∷ os) opened goes (subst (λ b. HasAllOf HasOpen p hs (done w (answered_by b o os))) out has))

pub open_all : (p : ℕ) (hints : List Hint) (w : World) (os : List Op) → AreOpen w → may_go os ≡ true
    → HasAllOf HasOpen p hints (done w os) → HasAllOf Has p hints (done w os)
open_all p [] w os opened goes has = tt
open_all p (h ∷ hs) w [] opened goes has = (tt, open_all p hs w [] opened refl has.1)
open_all p (h ∷ hs) w (o ∷ os) opened goes has =
    let here = first_open o os w opened goes has.0 in (
      here,
      one_open p hs (λ w os opened goes has. open_all p hs w os opened goes has) (waits o) (is_outside o) h w o os refl refl opened
          goes here has.1,
    )
