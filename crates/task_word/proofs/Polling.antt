-- The steps by which a poll of the handle looks at the task keep the rule.
use Rattle.std.proofs.Common.{◌≡◌, ◌⊎◌, inl, inr, ⊎_elim, ℕ, ◌+◌, ◌^◌, ◌<◌, ◌≤◌, Bool, true, false, eqb, List, [], ◌∷◌}
use Rattle.std.proofs.Common.{sym, refl, ap, ◌∙◌, subst, arith}
use prog.Atomic.{either}
use Rattle.std.specs.Prelude.{Some}
use Rattle.atomic_table.specs.Table.{Allows}
use Rattle.atomic_table.specs.declared.shared.Seat.{Seat}
use Rattle.task_moves.specs.declared.moves.state.State.{State}
use Rattle.task_moves.specs.declared.moves.owed.Moved.{Moved}
use Rattle.task_moves.specs.Moves as moves
use Rattle.task_moves.specs.Moves.{poll_by, look_again_by, is_going}
use Rattle.task_word.specs.declared.rule.View.{View}
use Rattle.task_word.specs.declared.rule.Hold.TheVariants.{Handle, Spending}
use Rattle.task_word.specs.declared.rule.Content.TheVariants.{Output}
use Rattle.task_word.specs.Word.{pack}
use Rattle.task_word.specs.Given.{is_given}
use Rattle.task_word.specs.Cell.{Slot, most, Cell}
use Rattle.task_word.specs.Steps.{view, Known, Has, HasOutput, polled, gives_out, tries}
use Rattle.task_word.proofs.Packs.{one_state}
use Rattle.task_word.proofs.Views.{true_not}
use Rattle.task_word.proofs.Bodies.{closed_on}
use Rattle.task_word.proofs.Keeps.{stays, swaps}
use Rattle.task_word.proofs.Stepping.{Told}
use Rattle.task_word.proofs.Moving.{few_of}
use Rattle.task_word.proofs.Letting.{takes_output}

-- a move that leaves the state and gives nothing; or closes a task whose output is there, and gives that
abbrev pub LooksAt : Moved → State → Type 0
LooksAt mv s = ((mv.state ≡ s) × (is_given mv.owed.answer ≡ false))
    ⊎ ((s.completed ≡ true) × (s.closed ≡ false) × (mv.state ≡ closed_on s) × (is_given mv.owed.answer ≡ true))

polls_at : (x g c : Bool) (s : State) → s.closed ≡ x → s.completed ≡ c → LooksAt (poll_by x g c s) s
polls_at true true c s ex ec = inl (refl, refl)
polls_at true false c s ex ec = inl (refl, refl)
polls_at false g false s ex ec = inl (refl, refl)
polls_at false g true s ex ec = inr (ec, ex, refl, refl)

pub poll_looks : (s : State) → LooksAt (moves.poll s) s
poll_looks s = polls_at s.closed (is_going s) s.completed s refl refl

looks_again_at : (x g c : Bool) (s : State) → s.closed ≡ x → s.completed ≡ c → LooksAt (look_again_by x g c s) s
looks_again_at true true c s ex ec = inl (refl, refl)
looks_again_at true false c s ex ec = inl (refl, refl)
looks_again_at false g false s ex ec = inl (refl, refl)
looks_again_at false g true s ex ec = inr (ec, ex, refl, refl)

pub look_again_looks : (s : State) → LooksAt (moves.look_again s) s
look_again_looks s = looks_again_at s.closed (is_going s) s.completed s refl refl

module _ {F T W : Type 0} (n id : ℕ) (me : Known F T W) (old new : ℕ) (st : State) (rests : Bool) (is : pack st rests ≡ old) where
  pub polls : (move : State → Moved) → LooksAt (move st) st → me.0.hold ≡ Handle → new ≡ pack (move st).state rests
      → Allows (Cell {F = F} {T = T} {W = W}) n id me 0 (λ y. either (eqb y old) new y) (tries move polled old new me)
  polls move looks mine next = swaps n id me old new move polled st rests is next (λ s r at. ⊎_elim
      (λ e. stays r id me old new new (next ∙ ap (λ (z : State). pack z rests) e.0) (Told polled (move st) me old new) at
      (subst (λ (b : Bool). gives_out {F = F} {T = T} {W = W} b me.1 (view me.0.hold old new, me.1)) (sym e.1) (mine, refl), refl, refl))
      (λ e. takes_output r id me at mine old new e.0 e.1 (next ∙ ap (λ (z : State). pack z rests) e.2) (Told polled (move st) me old new)
      (λ t. (
        subst (λ (b : Bool). gives_out {F = F} {T = T} {W = W} b me.1 (view Spending old new, (0, Some (Output t)) ∷ me.1)) (sym e.3)
            (t, (refl, refl)),
        refl,
        refl,
      )))
      looks)

-- ---- what a call answers
pub polled_now : {F T W : Type 0} (mv : Moved) (m : Known F T W) (seat : Seat (Slot F T W) View) → m.1 ≡ [] → polled mv m seat.me
    → HasOutput mv.owed.answer seat
polled_now {F} {T} {W} mv m seat e h = subst (λ (z : List (ℕ × Slot F T W)). gives_out (is_given mv.owed.answer) z seat.me) e h

-- a look that leaves the state gives nothing
pub still_polled : {F T W : Type 0} (move : State → Moved) (st : State) (rests : Bool) (mv : Moved) (old new : ℕ)
    (seat : Seat (Slot F T W) View)
    → LooksAt (move st) st → pack st rests ≡ old → new ≡ pack mv.state rests → new ≡ old → mv ≡ move st → Has Handle seat
    → HasOutput mv.owed.answer seat
still_polled {F} {T} {W} move st rests mv old new seat looks is next same its h =
    let e : mv.state ≡ st = (one_state mv.state st rests rests (sym next ∙ same ∙ sym is)).0 in
    subst (λ (z : Moved). HasOutput {F = F} {T = T} {W = W} z.owed.answer seat) (sym its) (⊎_elim
    (λ k. subst (λ (b : Bool). gives_out {F = F} {T = T} {W = W} b [] seat.me) (sym k.1) h)
    (λ k. true_not (sym (ap (λ (z : State). z.closed) (sym k.2 ∙ sym (ap (λ (z : Moved). z.state) its) ∙ e))) k.1)
    looks)

pub few_polled : (move : State → Moved) (st : State) (mv : Moved) → LooksAt (move st) st → mv ≡ move st → st.references ≤ most + 1
    → mv.state.references < 2 ^ 54
few_polled move st mv looks its h = few_of st mv move its (⊎_elim
    (λ e. let k : (move st).state.references ≡ st.references = ap (λ (z : State). z.references) e.0 in omega (arith, k, h))
    (λ e. let k : (move st).state.references ≡ st.references = ap (λ (z : State). z.references) e.2 in omega (arith, k, h))
    looks)
