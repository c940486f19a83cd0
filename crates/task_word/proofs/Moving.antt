-- The steps of wakers keep the rule, by what their move finds.
use Rattle.std.proofs.Common.{◌≡◌, ℕ, ◌+◌, ◌^◌, ◌<◌, ◌≤◌, Bool, true, false, ◌||◌, not, eqb, List, [], is_some, ltb-true, sym}
use Rattle.std.proofs.Common.{refl, ap, ◌∙◌, subst, arith}
use mathlib.Core.Option.{some}
use lib.ListN.{get_elem?}
use prog.Atomic.{either}
use Rattle.std.specs.Prelude.{Option, Some, None, nat_lt}
use Rattle.atomic_table.specs.Table.{Allows, keeps}
use Rattle.atomic_table.specs.declared.shared.Seat.{Seat}
use Rattle.task_moves.specs.declared.moves.state.State.{State}
use Rattle.task_moves.specs.declared.moves.owed.Moved.{Moved}
use Rattle.task_moves.specs.declared.moves.owed.Answer.{Answer}
use Rattle.task_moves.specs.declared.schedule_info.ScheduleInfo.{ScheduleInfo}
use Rattle.task_moves.specs.Moves as moves
use Rattle.task_moves.specs.Moves.{wake_by_reference_by, release_by, give_up_by, is_over, is_last}
use Rattle.task_word.specs.declared.rule.View.{View}
use Rattle.task_word.specs.declared.rule.Hold.{Hold}
use Rattle.task_word.specs.declared.rule.Hold.TheVariants.{Nothing, Reference, Leaving}
use Rattle.task_word.specs.Word.{pack}
use Rattle.task_word.specs.Cell.{Slot, Body, idle, room, most, reference_of, handle_of, Fits, KnowsState, Holds, Cell}
use Rattle.task_word.specs.Steps as steps
use Rattle.task_word.specs.Steps.{view, Known, Is, is_dead, leaves_awaiter, leaves, keeps_all, Makes, Won, tries, queues, woken, copied}
use Rattle.task_word.specs.Steps.{released, Has, HasQueued, HasCopy, HasLeft}
use Rattle.task_word.proofs.Packs.{one_state}
use Rattle.task_word.proofs.Views.{true_not, not_false, either_false, or_true, last_is}
use Rattle.task_word.proofs.Bodies.{scheduled_on, counting, marked, with_references, when_idle, when_still}
use Rattle.task_word.proofs.Keeps.{St, Goes, goes, stays, swaps, counted}
use Rattle.task_word.proofs.Stepping.{Told, alive, full_open, full, drops_one, gets_runnable, drops_last}

module _ {F T W : Type 0} (n id : ℕ) (me : Known F T W) (old new : ℕ) (st : State) (rests : Bool) (is : pack st rests ≡ old) where
  -- ---- wakes
  wakes_by : (o run : Bool) → is_over st || st.scheduled ≡ o → st.running ≡ run → me.0.hold ≡ Nothing
      → new ≡ pack (wake_by_reference_by o run st).state rests → (s : St F T W) (r : Holds st rests s) → get_elem? s.views id ≡ some me.0
      → Goes s id me (Told woken (wake_by_reference_by o run st) me old new) new
  wakes_by true run eo er mine next s r at = stays r id me old new new next (Told woken (wake_by_reference_by true run st) me old new) at
      ((refl, refl), refl, refl)
  wakes_by false true eo er mine next s r at = let o = either_false _ st.scheduled eo in
      let q = either_false st.completed st.closed o.0 in
      let m : reference_of me.0.hold ≡ 0 = ap reference_of mine in let h : handle_of me.0.hold ≡ 0 = ap handle_of mine in
      goes r id me at Nothing old new new keeps tt (scheduled_on st) rests next r.body r.post
      (record {
        fits = marked r.body st rests er r.fits;
        bounded = r.bounded;
        fits_post = r.fits_post;
        emptied = full_open r id me at (scheduled_on st) q.1;
        references = omega (arith, m);
        handle = omega (arith, h);
        place = r.place;
        mine = (tt, tt, tt);
        others = λ j ne hold k. k;
        others_post = λ j ne hold k. k;
        over = λ l e. e;
      }) (Told woken (wake_by_reference_by false true st) me old new) ((sym mine, refl), refl, refl)
  wakes_by false false eo er mine next s r at = let o = either_false _ st.scheduled eo in
      let q = either_false st.completed st.closed o.0 in
      let m : reference_of me.0.hold ≡ 0 = ap reference_of mine in let h : handle_of me.0.hold ≡ 0 = ap handle_of mine in
      let i = when_idle r.body st rests o.1 er q.0 q.1 r.fits in
      let b : st.references ≤ most + room r.body = r.bounded in let e : room r.body ≡ 0 = ap room i.1 in
      gets_runnable r id me at i.0 i.1 old new (record st { scheduled = true; references = st.references + 1 }) next (refl, er, q.0)
      (omega (arith, b, e)) r.fits_post (full_open r id me at _ q.1) (omega (arith, m)) (omega (arith, h)) (λ l z. z)
      (Told woken (wake_by_reference_by false false st) me old new) ((refl, refl), refl, refl)

  pub wakes : me.0.hold ≡ Nothing → new ≡ pack (moves.wake_by_reference st).state rests
      → Allows (Cell {F = F} {T = T} {W = W}) n id me 0 (λ y. either (eqb y old) new y) (tries moves.wake_by_reference woken old new me)
  wakes mine next = swaps n id me old new moves.wake_by_reference woken st rests is next
      (wakes_by (is_over st || st.scheduled) st.running refl refl mine next)

  -- ---- references
  copies_more : (b : Bool) → not (nat_lt st.references most) ≡ b → is_dead st ≡ false → is_some (moves.copy_by b st).owed.answer ≡ false
      → me.0.hold ≡ Nothing → new ≡ pack (moves.copy_by b st).state rests → (s : St F T W) (r : Holds st rests s)
      → get_elem? s.views id ≡ some me.0
      → Goes s id me (Told copied (moves.copy_by b st) me old new) new
  copies_more true eb ed un mine next s r at = true_not refl un
  copies_more false eb ed un mine next s r at = let m : reference_of me.0.hold ≡ 0 = ap reference_of mine in
      let h : handle_of me.0.hold ≡ 0 = ap handle_of mine in
      let k : st.references < most = ltb-true st.references most (not_false (nat_lt st.references most) eb) in
      let l : st.references + 1 ≤ most = omega (arith, k) in
      goes r id me at Reference old new new keeps tt (counting (st.references + 1) st) rests next r.body r.post
      (record {
        fits = with_references r.body st rests (st.references + 1) (alive st ed) r.fits;
        bounded = omega (arith, l);
        fits_post = r.fits_post;
        emptied = full r id me at (counting (st.references + 1) st) (alive st ed);
        references = omega (arith, m);
        handle = omega (arith, h);
        place = r.place;
        mine = (tt, tt, tt);
        others = λ j ne hold k. k;
        others_post = λ j ne hold k. k;
        over = λ l e. e;
      }) (Told copied (moves.copy_by false st) me old new) ((refl, refl), refl, refl)

  copies_by : (d : Bool) → is_dead st ≡ d → is_some (steps.copy_by d st).owed.answer ≡ false → me.0.hold ≡ Nothing
      → new ≡ pack (steps.copy_by d st).state rests → (s : St F T W) (r : Holds st rests s) → get_elem? s.views id ≡ some me.0
      → Goes s id me (Told copied (steps.copy_by d st) me old new) new
  copies_by true ed un mine next s r at = true_not refl un
  copies_by false ed un mine next s r at = copies_more _ refl ed un mine next s r at

  pub copies : me.0.hold ≡ Nothing → is_some (steps.copy st).owed.answer ≡ false → new ≡ pack (steps.copy st).state rests
      → Allows (Cell {F = F} {T = T} {W = W}) n id me 0 (λ y. either (eqb y old) new y) (tries steps.copy copied old new me)
  copies mine un next = swaps n id me old new steps.copy copied st rests is next (copies_by _ refl un mine next)

  releases_by : (l o : Bool) → is_last st ≡ l → is_over st ≡ o → me.0.hold ≡ Reference → new ≡ pack (release_by l o st).state rests
      → (s : St F T W) (r : Holds st rests s) → get_elem? s.views id ≡ some me.0
      → Goes s id me (Told released (release_by l o st) me old new) new
  releases_by false o el eo mine next s r at = drops_one r id me at (ap reference_of mine) (ap handle_of mine) old new next
      (Told released (release_by false o st) me old new) ((refl, refl), refl, refl)
  releases_by true true el eo mine next s r at = drops_last r id me at (ap reference_of mine) (ap handle_of mine) eo el old new next
  releases_by true false el eo mine next s r at = let l : st.references ≡ 1 = last_is st el in
      let q = either_false st.completed st.closed eo in
      let m : reference_of me.0.hold ≡ 1 = ap reference_of mine in let h : handle_of me.0.hold ≡ 0 = ap handle_of mine in
      let c = counted r id me at in
      let i = when_still r.body st rests (omega (arith, c, l, m)) q.0 q.1 r.fits in
      let f : Fits {T = T} (idle i.0) st rests = subst (λ (z : Body F T). Fits z st rests) i.1 r.fits in
      gets_runnable r id me at i.0 i.1 old new (record st { scheduled = true; closed = true; references = 1 }) next (refl, f.1, q.0)
      (omega arith) r.fits_post (full_open r id me at _ q.1) (omega (arith, m, l)) (omega (arith, h)) (λ k z. or_true _ _ refl)
      (Told released (release_by true false st) me old new) ((refl, refl), refl, refl)

  pub releases : me.0.hold ≡ Reference → new ≡ pack (moves.release st).state rests
      → Allows (Cell {F = F} {T = T} {W = W}) n id me 0 (λ y. either (eqb y old) new y) (tries moves.release released old new me)
  releases mine next = swaps n id me old new moves.release released st rests is next (releases_by _ _ refl refl mine next)

  -- who leaves found the task over
  gives_up_by : (l : Bool) → is_last st ≡ l → me.0.hold ≡ Leaving → new ≡ pack (give_up_by l st).state rests
      → (s : St F T W) (r : Holds st rests s) → get_elem? s.views id ≡ some me.0
      → Goes s id me (Told released (give_up_by l st) me old new) new
  gives_up_by false el mine next s r at = drops_one r id me at (ap reference_of mine) (ap handle_of mine) old new next
      (Told released (give_up_by false st) me old new) ((refl, refl), refl, refl)
  gives_up_by true el mine next s r at = drops_last r id me at (ap reference_of mine) (ap handle_of mine)
      (subst (KnowsState st) mine (r.each_seat id me.0 at).2) el old new next

  pub gives_up : me.0.hold ≡ Leaving → new ≡ pack (moves.give_up st).state rests
      → Allows (Cell {F = F} {T = T} {W = W}) n id me 0 (λ y. either (eqb y old) new y) (tries moves.give_up released old new me)
  gives_up mine next = swaps n id me old new moves.give_up released st rests is next (gives_up_by _ refl mine next)

-- ---- what a call answers, by the exchange that it made
pub done : {F T W : Type 0} (move : State → Moved) (effect : Moved → Known F T W → Known F T W → Type 0) (old new : ℕ)
    (m m' : Known F T W) (st : State) (rests : Bool) (mv : Moved) → pack st rests ≡ old → mv ≡ move st → Won move effect old new m m'
    → Makes move m'.0 mv.owed × effect mv m m'
done move effect old new m m' st rests mv is its w = let o = w.0 st rests (sym is) in
    ((st, rests, w.1.0 ∙ sym is, w.1.1 ∙ o.0, ap (λ (z : Moved). z.owed) its), subst (λ (z : Moved). effect z m m') (sym its) o.1)

-- what a seat has, by what it had
pub still : {F T W : Type 0} {hold : Hold} {c : List (ℕ × Slot F T W)} (m m' : Known F T W) → Is hold c m → keeps_all m m' → Is hold c m'
still m m' i e = (e.0 ∙ i.0, e.1 ∙ i.1)

pub queued_now : {F T W : Type 0} (o : Option ScheduleInfo) (m : Known F T W) (seat : Seat (Slot F T W) View) → Is Nothing [] m
    → queues o m seat.me → HasQueued o seat
queued_now (Some info) m seat i q = (q.0, q.1 ∙ i.1)
queued_now None m seat i q = (q.0 ∙ i.0, q.1 ∙ i.1)

-- the slots that are left are none
pub left_now : {F T W : Type 0} (o : Option ScheduleInfo) (b : Bool) (c : List (ℕ × Slot F T W)) (seat : Seat (Slot F T W) View) → c ≡ []
    → leaves o b c seat.me → HasLeft o b seat
left_now o b c seat e h = subst (λ (z : List (ℕ × Slot _ _ _)). leaves o b z seat.me) e h

-- a wake that leaves the state leaves nothing to be done
still_by : {F T W : Type 0} (o run : Bool) (st : State) (seat : Seat (Slot F T W) View) → is_over st || st.scheduled ≡ o
    → (wake_by_reference_by o run st).state ≡ st → Has Nothing seat → HasQueued (wake_by_reference_by o run st).owed.schedule seat
still_by true run st seat eo e h = h
still_by false true st seat eo e h = h
still_by false false st seat eo e h = true_not (sym (ap (λ (z : State). z.scheduled) e)) (either_false _ st.scheduled eo).1

pub still_woken : {F T W : Type 0} (st : State) (rests : Bool) (mv : Moved) (old new : ℕ) (seat : Seat (Slot F T W) View)
    → pack st rests ≡ old → new ≡ pack mv.state rests → new ≡ old → mv ≡ moves.wake_by_reference st → Has Nothing seat
    → HasQueued mv.owed.schedule seat
still_woken st rests mv old new seat is next same its h = let e = (one_state mv.state st rests rests (sym next ∙ same ∙ sym is)).0 in
    subst (λ (z : Moved). HasQueued z.owed.schedule seat) (sym its)
    (still_by _ st.running st seat refl (sym (ap (λ (z : Moved). z.state) its) ∙ e) h)

pub unrefused : {F T W : Type 0} (o : Option Answer) (found : Bool) (m : Known F T W) (seat : Seat (Slot F T W) View) → found ≡ is_some o
    → found ≡ false → Is Nothing [] m → Is Reference m.1 seat.me → HasCopy o seat
unrefused (Some a) found m seat e f i h = true_not e f
unrefused None found m seat e f i h = (h.0, h.1 ∙ i.1)

pub refused : {F T W : Type 0} (o : Option Answer) (found : Bool) (seat : Seat (Slot F T W) View) → found ≡ is_some o → found ≡ true
    → Has Nothing seat → HasCopy o seat
refused (Some a) found seat e f h = h
refused None found seat e f h = true_not f e

-- ---- the count stays small
pub few : (n : ℕ) → n ≤ most + 2 → n < 2 ^ 54
few n h = omega (arith, h)

pub few_of : (st : State) (mv : Moved) (move : State → Moved) → mv ≡ move st → (move st).state.references ≤ most + 2
    → mv.state.references < 2 ^ 54
few_of st mv move its h = few _ (subst (λ (z : Moved). z.state.references ≤ most + 2) (sym its) h)

woken_by : (o run : Bool) (st : State) → st.references ≤ most + 1 → (wake_by_reference_by o run st).state.references ≤ most + 2
woken_by true run st h = omega (arith, h)
woken_by false true st h = omega (arith, h)
woken_by false false st h = omega (arith, h)

pub few_woken : (st : State) (mv : Moved) → mv ≡ moves.wake_by_reference st → st.references ≤ most + 1 → mv.state.references < 2 ^ 54
few_woken st mv its h = few_of st mv moves.wake_by_reference its (woken_by _ st.running st h)

copied_by : (b : Bool) (st : State) → st.references ≤ most + 1 → (moves.copy_by b st).state.references ≤ most + 2
copied_by true st h = omega (arith, h)
copied_by false st h = omega (arith, h)

copied_or_not : (d : Bool) (st : State) → st.references ≤ most + 1 → (steps.copy_by d st).state.references ≤ most + 2
copied_or_not true st h = omega (arith, h)
copied_or_not false st h = copied_by _ st h

pub few_copied : (st : State) (mv : Moved) → mv ≡ steps.copy st → st.references ≤ most + 1 → mv.state.references < 2 ^ 54
few_copied st mv its h = few_of st mv steps.copy its (copied_or_not _ st h)

released_by : (l o : Bool) (st : State) → st.references ≤ most + 1 → (release_by l o st).state.references ≤ most + 2
released_by false o st h = omega (arith, h)
released_by true true st h = omega (arith, h)
released_by true false st h = omega (arith, h)

pub few_released : (st : State) (mv : Moved) → mv ≡ moves.release st → st.references ≤ most + 1 → mv.state.references < 2 ^ 54
few_released st mv its h = few_of st mv moves.release its (released_by _ _ st h)

given_up_by : (l : Bool) (st : State) → st.references ≤ most + 1 → (give_up_by l st).state.references ≤ most + 2
given_up_by false st h = omega (arith, h)
given_up_by true st h = omega (arith, h)

pub few_given_up : (st : State) (mv : Moved) → mv ≡ moves.give_up st → st.references ≤ most + 1 → mv.state.references < 2 ^ 54
few_given_up st mv its h = few_of st mv moves.give_up its (given_up_by _ st h)

-- of a move that leaves the count
pub few_same : (st : State) (mv : Moved) (move : State → Moved) → mv ≡ move st → (move st).state.references ≡ st.references
    → st.references ≤ most + 1 → mv.state.references < 2 ^ 54
few_same st mv move its same h = few_of st mv move its (omega (arith, same, h))
