-- What leads to no search reads no list of queues: the place from which that is read is named behind it.
use Rattle.std.proofs.Common.{◌≡◌, ◌++◌, ℕ, List, [], ◌∷◌, Bool, true, false, if◌then◌else◌, append_assoc, refl, sym, ap}
use Rattle.std.proofs.Common.{◌∙◌, arith}
use Rattle.executor_model.specs.declared.op.ListOp.TheVariants as list_op
use Rattle.executor_model.specs.declared.op.Op.{Op}
use Rattle.executor_model.specs.declared.op.Op.TheVariants as op
use Rattle.executor_model.specs.declared.op.UserOp.TheVariants as user_op
use Rattle.executor_model.specs.declared.step.Hint.{Hint}
use Rattle.executor_model.specs.Doing.{act}
use Rattle.executor_model.specs.Steps.{waits}
use Rattle.executor_model.specs.World.{Done, World, done}
use Rattle.machine_roads.specs.Alone.{alone, answered_by, is_outside, one_by}
use Rattle.machine_roads.specs.Searching.{reads_list, start_of}
use Rattle.machine_roads.proofs.AloneKeeps.{calls_user, due, due_to_push}
use Rattle.machine_roads.proofs.Calling.{idles}
use Rattle.machine_roads.proofs.Seeking.{seeks, seeks_next}

reads_none : (o : Op) (os xs : List Op) → due seeks (o ∷ os) ≡ 0 → reads_list (o ∷ xs) ≡ false
reads_none (op.List (list_op.LockRead x)) os xs none = absurd (omega (arith, none))
reads_none _ os xs none = refl

-- a step on
due_on : (p : ℕ) (h : Hint) (o : Op) (os : List Op) (w : World) → waits o ≡ false → due seeks (o ∷ os) ≡ 0
    → due seeks ((act p h o w).next ++ os) ≡ 0
due_on p h (op.User (user_op.CallOutside x)) os w goes none = absurd cc
due_on p h (op.User o) os w goes none = refl
due_on p h o os w goes none =
    due_to_push calls_user seeks (act p h o w).next os (seeks_next p h o w goes (omega (arith, none))) (omega (arith, none))

due_held : (o : Op) (os : List Op) → is_outside o ≡ true → due seeks (o ∷ os) ≡ 0 → due seeks os ≡ 0
due_held (op.User (user_op.CallOutside x)) os out none = omega (arith, none)
due_held o os out none = absurd cc

-- it comes through, whatever comes behind
abbrev Comes : ℕ → List Hint → World → List Op → World → Type 0
Comes p first w os v = (xs : List Op) → alone p first (done w (os ++ xs)) ≡ done v xs

pub starts_on : (p : ℕ) (first later : List Hint) (w : World) (os rest : List Op) (v : World) → due seeks os ≡ 0
    → ((xs : List Op) → alone p first (done w (os ++ xs)) ≡ done v xs)
    → start_of p (first ++ later) (done w (os ++ rest)) ≡ start_of p later (done v rest)
starts_on p [] later w os rest v none comes = ap (start_of p later) (comes rest)
starts_on p (h ∷ hs) later w [] rest v none comes =
    let outside = op.User (user_op.CallOutside 0) ∷ [] in
    let no : [] ≡ outside = ap (λ (d : Done). d.next) (sym (idles p hs [] w refl) ∙ comes outside) in
    absurd cc
starts_on p (h ∷ hs) later w (o ∷ os) rest v none comes =
    ap (λ b. if b then h.start else start_of p (hs ++ later) (one_by (waits o) p h o w (os ++ rest)))
    (reads_none o os (os ++ rest) none)
    ∙ by (λ w os none comes. starts_on p hs later w os rest v none comes) (waits o) (is_outside o) refl refl
  where
    by : ((w : World) (os : List Op) → due seeks os ≡ 0 → Comes p hs w os v
        → start_of p (hs ++ later) (done w (os ++ rest)) ≡ start_of p later (done v rest))
        → (b c : Bool) → waits o ≡ b → is_outside o ≡ c
        → start_of p (hs ++ later) (one_by (waits o) p h o w (os ++ rest)) ≡ start_of p later (done v rest)
    by on false c goes out =
        let d = act p h o w in
        ap (λ b. start_of p (hs ++ later) (one_by b p h o w (os ++ rest))) goes
        ∙ (ap (λ ys. start_of p (hs ++ later) (done d.world ys)) (sym (append_assoc d.next os rest))
        ∙ on d.world (d.next ++ os) (due_on p h o os w goes none)
        (λ xs.
        ap (λ ys. alone p hs (done d.world ys)) (append_assoc d.next os xs)
        ∙ (ap (λ b. alone p hs (one_by b p h o w (os ++ xs))) (sym goes) ∙ comes xs)))
    by on true true held out =
        ap (λ b. start_of p (hs ++ later) (one_by b p h o w (os ++ rest))) held
        ∙ (ap (λ b. start_of p (hs ++ later) (done w (answered_by b o (os ++ rest)))) out
        ∙ on w os (due_held o os out none)
        (λ xs.
        ap (λ b. alone p hs (done w (answered_by b o (os ++ xs)))) (sym out)
        ∙ (ap (λ b. alone p hs (one_by b p h o w (os ++ xs))) (sym held) ∙ comes xs)))
    by on true false held out =
        ap (λ b. start_of p (hs ++ later) (one_by b p h o w (os ++ rest))) held
        ∙ (ap (λ b. start_of p (hs ++ later) (done w (answered_by b o (os ++ rest)))) out
        ∙ on w (o ∷ os) none
        (λ xs.
        ap (λ b. alone p hs (done w (answered_by b o (os ++ xs)))) (sym out)
        ∙ (ap (λ b. alone p hs (one_by b p h o w (os ++ xs))) (sym held) ∙ comes xs)))
