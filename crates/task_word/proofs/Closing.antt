-- The steps that close a task keep the rule.
use Rattle.std.proofs.Common.{◌≡◌, ℕ, ◌+◌, ◌^◌, ◌<◌, ◌≤◌, Bool, true, false, ◌||◌, not, eqb, sym, refl, ap, ◌∙◌, subst, arith}
use mathlib.Core.Option.{some}
use lib.ListN.{get_elem?}
use prog.Atomic.{either}
use Rattle.atomic_table.specs.Table.{Allows, keeps}
use Rattle.atomic_table.specs.declared.shared.Seat.{Seat}
use Rattle.task_moves.specs.declared.moves.state.State.{State}
use Rattle.task_moves.specs.declared.moves.owed.Moved.{Moved}
use Rattle.task_moves.specs.Moves as moves
use Rattle.task_moves.specs.Moves.{cancel_by, is_over, is_going}
use Rattle.task_word.specs.declared.rule.View.{View}
use Rattle.task_word.specs.declared.rule.Hold.{Hold}
use Rattle.task_word.specs.declared.rule.Hold.TheVariants.{Nothing, Queued, Closing}
use Rattle.task_word.specs.Word.{pack}
use Rattle.task_word.specs.Cell.{Slot, Body, queued, room, most, reference_of, handle_of, Fits, Knows, Holds, Cell}
use Rattle.task_word.specs.Steps.{Known, Has, HasQueued, tries, woken, dropped}
use Rattle.task_word.proofs.Packs.{one_state}
use Rattle.task_word.proofs.Views.{true_not, either_false, or_true}
use Rattle.task_word.proofs.Bodies.{closed_on, shut, when_idle}
use Rattle.task_word.proofs.Keeps.{St, Goes, goes, stays, swaps}
use Rattle.task_word.proofs.Stepping.{Told, full_open, gets_runnable}
use Rattle.task_word.proofs.Moving.{few_of}
use Rattle.task_word.proofs.Running.{takes_future}

module _ {F T W : Type 0} (n id : ℕ) (me : Known F T W) (old new : ℕ) (st : State) (rests : Bool) (is : pack st rests ≡ old) where
  cancels_by : (o run : Bool) → is_over st ≡ o → is_going st ≡ run → me.0.hold ≡ Nothing → new ≡ pack (cancel_by o run st).state rests
      → (s : St F T W) (r : Holds st rests s) → get_elem? s.views id ≡ some me.0
      → Goes s id me (Told woken (cancel_by o run st) me old new) new
  cancels_by true run eo er mine next s r at = stays r id me old new new next (Told woken (cancel_by true run st) me old new) at
      ((refl, refl), refl, refl)
  cancels_by false true eo er mine next s r at = let q = either_false st.completed st.closed eo in
      let m : reference_of me.0.hold ≡ 0 = ap reference_of mine in let h : handle_of me.0.hold ≡ 0 = ap handle_of mine in
      goes r id me at Nothing old new new keeps tt (closed_on st) rests next r.body r.post
      (record {
        fits = shut r.body st rests er r.fits;
        bounded = r.bounded;
        fits_post = r.fits_post;
        emptied = full_open r id me at (closed_on st) q.1;
        references = omega (arith, m);
        handle = omega (arith, h);
        place = r.place;
        mine = (tt, tt, tt);
        others = λ j ne hold k. k;
        others_post = λ j ne hold k. k;
        over = λ l e. or_true _ _ refl;
      }) (Told woken (cancel_by false true st) me old new) ((sym mine, refl), refl, refl)
  cancels_by false false eo er mine next s r at = let o = either_false st.scheduled st.running er in
      let q = either_false st.completed st.closed eo in
      let m : reference_of me.0.hold ≡ 0 = ap reference_of mine in let h : handle_of me.0.hold ≡ 0 = ap handle_of mine in
      let i = when_idle r.body st rests o.0 o.1 q.0 q.1 r.fits in
      let b : st.references ≤ most + room r.body = r.bounded in let e : room r.body ≡ 0 = ap room i.1 in
      gets_runnable r id me at i.0 i.1 old new (record st { scheduled = true; closed = true; references = st.references + 1 }) next
      (refl, o.1, q.0) (omega (arith, b, e)) r.fits_post (full_open r id me at _ q.1) (omega (arith, m)) (omega (arith, h))
      (λ l z. or_true _ _ refl)
      (Told woken (cancel_by false false st) me old new) ((refl, refl), refl, refl)

  pub cancels : me.0.hold ≡ Nothing → new ≡ pack (moves.cancel st).state rests
      → Allows (Cell {F = F} {T = T} {W = W}) n id me 0 (λ y. either (eqb y old) new y) (tries moves.cancel woken old new me)
  cancels mine next = swaps n id me old new moves.cancel woken st rests is next
      (cancels_by (is_over st) (is_going st) refl refl mine next)

  pub drops : me.0.hold ≡ Queued → new ≡ pack (moves.drop_runnable st).state rests
      → Allows (Cell {F = F} {T = T} {W = W}) n id me 0 (λ y. either (eqb y old) new y) (tries moves.drop_runnable dropped old new me)
  drops mine next = swaps n id me old new moves.drop_runnable dropped st rests is next
      (λ s r at. let i = subst (λ (z : Hold). Knows r.body id z) mine (r.each_seat id me.0 at).0 in
      let f : Fits {T = T} (queued i.0 id) st rests = subst (λ (z : Body F T). Fits z st rests) i.1 r.fits in
      let shut_now : st.closed || not st.completed ≡ true = or_true _ _ (ap not f.2) in
      takes_future r id me at i.0 i.1 mine Closing refl refl refl refl old new new (moves.drop_runnable st).state next
      (f.0, f.1, f.2, shut_now) f.3 refl refl r.fits_post (refl, tt, tt) (λ l e. or_true _ _ shut_now)
      (Told dropped (moves.drop_runnable st) me old new) ((i.0, (refl, refl)), refl, refl))

-- a cancel that leaves the state leaves nothing to be done
still_by : {F T W : Type 0} (o run : Bool) (st : State) (seat : Seat (Slot F T W) View) → is_going st ≡ run
    → (cancel_by o run st).state ≡ st → Has Nothing seat → HasQueued (cancel_by o run st).owed.schedule seat
still_by true run st seat er e h = h
still_by false true st seat er e h = h
still_by false false st seat er e h = true_not (sym (ap (λ (z : State). z.scheduled) e)) (either_false st.scheduled st.running er).0

pub still_cancelled : {F T W : Type 0} (st : State) (rests : Bool) (mv : Moved) (old new : ℕ) (seat : Seat (Slot F T W) View)
    → pack st rests ≡ old → new ≡ pack mv.state rests → new ≡ old → mv ≡ moves.cancel st → Has Nothing seat
    → HasQueued mv.owed.schedule seat
still_cancelled st rests mv old new seat is next same its h = let e = (one_state mv.state st rests rests (sym next ∙ same ∙ sym is)).0 in
    subst (λ (z : Moved). HasQueued z.owed.schedule seat) (sym its)
    (still_by (is_over st) (is_going st) st seat refl (sym (ap (λ (z : Moved). z.state) its) ∙ e) h)

cancelled_by : (o run : Bool) (st : State) → st.references ≤ most + 1 → (cancel_by o run st).state.references ≤ most + 2
cancelled_by true run st h = omega (arith, h)
cancelled_by false true st h = omega (arith, h)
cancelled_by false false st h = omega (arith, h)

pub few_cancelled : (st : State) (mv : Moved) → mv ≡ moves.cancel st → st.references ≤ most + 1 → mv.state.references < 2 ^ 54
few_cancelled st mv its h = few_of st mv moves.cancel its (cancelled_by _ _ st h)
