-- The steps at the awaiter keep the rule.
use Rattle.std.proofs.Common.{◌≡◌, ◌⊎◌, ⊎_elim, inl, inr, ℕ, ◌+◌, ◌^◌, ◌<◌, ◌≤◌, Bool, true, false, ◌||◌, eqb, List, [], ◌∷◌}
use Rattle.std.proofs.Common.{get_or, sym, refl, ap, ◌∙◌, subst, arith}
use mathlib.Core.Option.{some}
use mathlib.Core.Option as maybe
use lib.ListN.{get_elem?}
use prog.Atomic.{either}
use Rattle.std.specs.Prelude.{Option, Some, None}
use Rattle.atomic_table.specs.Table.{Allows, keeps, takes, gives, rest}
use Rattle.atomic_table.specs.declared.shared.Seat.{Seat}
use Rattle.task_moves.specs.declared.moves.state.State.{State}
use Rattle.task_moves.specs.declared.moves.owed.Moved.{Moved}
use Rattle.task_moves.specs.declared.moves.owed.AwaiterDebt.{AwaiterDebt}
use Rattle.task_moves.specs.Moves as moves
use Rattle.task_moves.specs.Moves.{notify_by, register_by, end_register_by}
use Rattle.task_word.specs.declared.rule.View.{View}
use Rattle.task_word.specs.declared.rule.Hold.{Hold}
use Rattle.task_word.specs.declared.rule.Hold.TheVariants.{Nothing, Leaving, Handle, Registering, HandleNotifying, RunNotifying, Emptying}
use Rattle.task_word.specs.declared.rule.Content.TheVariants.{Future, Output, Awaiter}
use Rattle.task_word.specs.Word.{bit, pack}
use Rattle.task_word.specs.Cell.{Slot, gone, Post, lies, held, home, home_awaiter, going, spending, calling, handling, most, vacant}
use Rattle.task_word.specs.Cell.{weight, handle_weight, reference_of, handle_of, FitsPost, Emptied, Knows, KnowsPost, KnowsState, Holds}
use Rattle.task_word.specs.Cell.{Cell}
use Rattle.task_word.specs.Steps.{view, Known, Is, keeps_all, Has, tries, IsHandedBack}
use Rattle.task_word.specs.Awaiter.{needs_slot, comes_back, notifying, notified_by, awaiter_slot, at_slot, notified, end_notified}
use Rattle.task_word.specs.Awaiter.{registered}
use Rattle.task_word.specs.Awaiter.{end_registered, emptied, IsAtSlot}
use Rattle.task_word.proofs.Views.{true_not, either_false}
use Rattle.task_word.proofs.Bodies.{Reachable, marking, with_marks, when_left, unheld, noted}
use Rattle.task_word.proofs.Keeps.{St, Goes, goes, stays, swaps, state_kept, weight_counted, holder, holder_of}
use Rattle.task_word.proofs.Keeps.{from_free}
use Rattle.task_word.proofs.Keeps.{post_from_free, post_from_mine, there_post, taken_out_post, back_post, counted, handle_counted}
use Rattle.task_word.proofs.Stepping.{Told, referred, full}
use Rattle.task_word.proofs.Moving.{few_of}
use Rattle.task_word.proofs.Letting.{set_bit, reached, unspent}

module _ {F T W : Type 0} where
  home_lies : (a : Option W) → home_awaiter {F = F} {T = T} (lies a) ≡ some (awaiter_slot a)
  home_lies (Some w) = refl
  home_lies None = refl

  -- the awaiter's slot is empty where the waker comes back, and else has it
  abbrev pub WakerSlot : Bool → List (ℕ × Slot F T W) → Type 0
  WakerSlot true c = c ≡ (1, None) ∷ []
  WakerSlot false c = (w : W) × (c ≡ (1, Some (Awaiter w)) ∷ [])

-- the first of these has the slot as well, beside what the second has
abbrev Beside : Hold → Hold → Type 0
Beside hold without = (weight hold ≡ reference_of without) × (handle_weight hold ≡ handle_of without) × (reference_of hold ≡ 0)
    × (handle_of hold ≡ 0)

module _ {F T W : Type 0} {s : St F T W} {st : State} {rests : Bool} (r : Holds st rests s) (id : ℕ) (me : Known F T W)
    (at : get_elem? s.views id ≡ some me.0) (reach : Reachable st) where
  -- the seat takes the awaiter's slot
  takes_slot : (hold without : Hold) → Beside hold without → me.0.hold ≡ without → (o : Option W) → r.post ≡ lies o → (g n : Bool)
      → (found new : ℕ) → new ≡ pack (marking st.awaiter g n st) rests → FitsPost {W = W} (held hold id) st.awaiter g n
      → Emptied {W = W} (held hold id) (marking st.awaiter g n st)
      → Knows r.body id hold × KnowsPost {W = W} (held hold id) id hold × KnowsState (marking st.awaiter g n st) hold
      → (won : Known F T W → Type 0) → won (view hold found new, (1, awaiter_slot o) ∷ me.1) → Goes s id me won new
  takes_slot hold without (w, h, rh, hh) mine o lying g n found new is fits emptied knows won told =
      let a : reference_of me.0.hold ≡ reference_of without = ap reference_of mine in
      let b : handle_of me.0.hold ≡ handle_of without = ap handle_of mine in
      let c : calling r.post ≡ 0 = ap calling lying in let u : handling r.post ≡ 0 = ap handling lying in
      goes r id me at hold found new new (takes 1 (awaiter_slot o)) (there_post r (awaiter_slot o) (ap home_awaiter lying ∙ home_lies o))
      (marking st.awaiter g n st) rests is r.body (held hold id)
      (record {
        fits = with_marks r.body st rests st.awaiter g n reach r.fits;
        bounded = r.bounded;
        fits_post = fits;
        emptied = emptied;
        references = omega (arith, a, c, w, rh);
        handle = omega (arith, b, u, h, hh);
        place = taken_out_post r;
        mine = knows;
        others = λ j ne hold k. k;
        others_post = post_from_free id r.post (held hold id) (ap holder_of lying);
        over = λ l e. e;
      }) won told

  -- the seat brings it back
  returns_slot : (hold without : Hold) → Beside hold without → me.0.hold ≡ hold → r.post ≡ held hold id → (o : Option W)
      → me.1 ≡ (1, awaiter_slot o) ∷ [] → (a g n : Bool) → (found new : ℕ) → new ≡ pack (marking a g n st) rests
      → FitsPost (lies o) a g n → Knows r.body id without × KnowsPost (lies o) id without × KnowsState (marking a g n st) without
      → (won : Known F T W → Type 0) → won (view without found new, rest me.1) → Goes s id me won new
  returns_slot hold without (w, h, rh, hh) mine i o has a g n found new is fits knows won told =
      let x : reference_of me.0.hold ≡ reference_of hold = ap reference_of mine in
      let y : handle_of me.0.hold ≡ handle_of hold = ap handle_of mine in
      let c : calling r.post ≡ weight hold = ap calling i in let u : handling r.post ≡ handle_weight hold = ap handling i in
      goes r id me at without found new new gives tt (marking a g n st) rests is r.body (lies o)
      (record {
        fits = with_marks r.body st rests a g n reach r.fits;
        bounded = r.bounded;
        fits_post = fits;
        emptied = tt;
        references = omega (arith, x, c, w, rh);
        handle = omega (arith, y, u, h, hh);
        place = back_post r me.1 [] (awaiter_slot o) has
            ∙ ap (λ (z : maybe.Option (Slot F T W)). home r.body ∷ z ∷ []) (sym (home_lies o));
        mine = knows;
        others = λ j ne hold k. k;
        others_post = post_from_mine id r.post (lies o) (ap holder_of i);
        over = λ l e. e;
      }) won told

  -- somebody else is calling or registering the awaiter, and will call it
  marks : st.notifying || st.registering ≡ true → (found new : ℕ) → new ≡ pack (record st { notifying = true }) rests
      → (won : Known F T W → Type 0) → won (view me.0.hold found new, me.1) → Goes s id me won new
  marks e found new is won told = let k = r.each_seat id me.0 at in
      goes r id me at me.0.hold found new new keeps tt (record st { notifying = true }) rests is r.body r.post
      (record {
        fits = with_marks r.body st rests st.awaiter st.registering true reach r.fits;
        bounded = r.bounded;
        fits_post = noted r.post st e r.fits_post;
        emptied = full r id me at (record st { notifying = true }) reach;
        references = refl;
        handle = refl;
        place = r.place;
        mine = (k.0, k.1, state_kept me.0.hold st (record st { notifying = true }) (λ l e. e) (weight_counted r id me.0 at) k.2);
        others = λ j ne hold k. k;
        others_post = λ j ne hold k. k;
        over = λ l e. e;
      }) won told

module _ {F T W : Type 0} {s : St F T W} {st : State} {rests : Bool} (r : Holds st rests s) (id : ℕ) (me : Known F T W)
    (at : get_elem? s.views id ≡ some me.0) where
  -- what a seat that has the awaiter's slot knows of it
  held_by : (hold : Hold) → r.post ≡ held hold id → FitsPost {W = W} (held hold id) st.awaiter st.registering st.notifying
  held_by hold i = subst (λ (z : Post W). FitsPost z st.awaiter st.registering st.notifying) i r.fits_post

  -- it has a reference or the handle
  reached_handle : (hold : Hold) → handle_weight hold ≡ 1 → r.post ≡ held hold id → Reachable st
  reached_handle hold w i a b = let u : handling r.post ≡ handle_weight hold = ap handling i in
      let c : handle_of me.0.hold + spending r.body + handling r.post ≤ bit st.handle = handle_counted r id me at in
      true_not (set_bit st.handle (omega (arith, c, u, w))) b

  reached_call : (hold : Hold) → weight hold ≡ 1 → r.post ≡ held hold id → Reachable st
  reached_call hold w i = let u : calling r.post ≡ weight hold = ap calling i in
      let c : reference_of me.0.hold + going r.body + calling r.post ≤ st.references = counted r id me at in
      referred st (omega (arith, c, u, w))

  reached_leaving : me.0.hold ≡ Leaving → Reachable st
  reached_leaving mine = let c : reference_of me.0.hold + going r.body + calling r.post ≤ st.references = counted r id me at in
      let a : reference_of me.0.hold ≡ 1 = ap reference_of mine in referred st (omega (arith, c, a))

module _ {F T W : Type 0} (n id : ℕ) (me : Known F T W) where
  module _ (old new : ℕ) (st : State) (rests : Bool) (is : pack st rests ≡ old) where
    -- ---- who wants the awaiter called
    notifies_by : (b : Bool) → st.notifying || st.registering ≡ b → (me.0.hold ≡ Handle) ⊎ (me.0.hold ≡ Leaving)
        → new ≡ pack (notify_by b st).state rests → (s : St F T W) (r : Holds st rests s) → get_elem? s.views id ≡ some me.0
        → Goes s id me (Told notified (notify_by b st) me old new) new
    notifies_by true e mine next s r at = marks r id me at
        (⊎_elim (λ h. reached r id me at h) (λ l. reached_leaving r id me at l) mine) e old new next
        (Told notified (notify_by true st) me old new) ((refl, refl), refl, refl)
    notifies_by false e mine next s r at = ⊎_elim
        (λ h. let i = lying (reached r id me at h) in
        takes_slot r id me at (reached r id me at h) HandleNotifying Handle (refl, refl, refl, refl) h i.0 i.1 st.registering true
        old new next (q.1, refl) tt (tt, refl, tt) (Told notified (notify_by false st) me old new)
        ((i.0, (sym (ap notifying h), refl)), refl, refl))
        (λ l. let i = lying (reached_leaving r id me at l) in
        takes_slot r id me at (reached_leaving r id me at l) RunNotifying Leaving (refl, refl, refl, refl) l i.0 i.1 st.registering true
        old new next (q.1, refl) tt (tt, refl, subst (KnowsState st) l (r.each_seat id me.0 at).2)
        (Told notified (notify_by false st) me old new) ((i.0, (sym (ap notifying l), refl)), refl, refl))
        mine where
          q : (st.notifying ≡ false) × (st.registering ≡ false)
          q = either_false st.notifying st.registering e

          lying : Reachable st → (a : Option W) × (r.post ≡ lies a)
          lying t = unheld r.post st q.0 (λ g _. true_not g q.1) t r.fits_post r.emptied

    pub notifies : (me.0.hold ≡ Handle) ⊎ (me.0.hold ≡ Leaving) → new ≡ pack (moves.notify st).state rests
        → Allows (Cell {F = F} {T = T} {W = W}) n id me 0 (λ y. either (eqb y old) new y) (tries moves.notify notified old new me)
    notifies mine next = swaps n id me old new moves.notify notified st rests is next (notifies_by _ refl mine next)

    pub ends_notify : (me.0.hold ≡ HandleNotifying) ⊎ (me.0.hold ≡ RunNotifying) → me.1 ≡ (1, None) ∷ []
        → new ≡ pack (moves.end_notify st).state rests
        → Allows (Cell {F = F} {T = T} {W = W}) n id me 0 (λ y. either (eqb y old) new y) (tries moves.end_notify end_notified old new me)
    ends_notify mine out next = swaps n id me old new moves.end_notify end_notified st rests is next (λ s r at. ⊎_elim
        (λ h. let i = subst (λ (z : Hold). KnowsPost r.post id z) h (r.each_seat id me.0 at).1 in
        returns_slot r id me at (reached_handle r id me at HandleNotifying refl i) HandleNotifying Handle (refl, refl, refl, refl) h i
        None out false st.registering false old new next (refl, (held_by r id me at HandleNotifying i).0, refl) (tt, tt, tt)
        (Told end_notified (moves.end_notify st) me old new) ((sym (ap notified_by h), refl), refl, refl))
        (λ l. let i = subst (λ (z : Hold). KnowsPost r.post id z) l (r.each_seat id me.0 at).1 in
        returns_slot r id me at (reached_call r id me at RunNotifying refl i) RunNotifying Leaving (refl, refl, refl, refl) l i
        None out false st.registering false old new next (refl, (held_by r id me at RunNotifying i).0, refl)
        (tt, tt, subst (KnowsState st) l (r.each_seat id me.0 at).2)
        (Told end_notified (moves.end_notify st) me old new) ((sym (ap notified_by l), refl), refl, refl))
        mine)

    -- ---- who registers
    registers_by : (b : Bool) → st.notifying ≡ b → me.0.hold ≡ Handle → new ≡ pack (register_by b st).state rests
        → (s : St F T W) (r : Holds st rests s) → get_elem? s.views id ≡ some me.0
        → Goes s id me (Told registered (register_by b st) me old new) new
    registers_by true e mine next s r at = stays r id me old new new next (Told registered (register_by true st) me old new) at
        ((mine, refl), refl, refl)
    registers_by false e mine next s r at = let t = reached r id me at mine in let none_has = (unspent r id me at mine).1 in
        let i = unheld r.post st e (λ g h. absurd (omega (arith, h, none_has))) t r.fits_post r.emptied in
        takes_slot r id me at t Registering Handle (refl, refl, refl, refl) mine i.0 i.1 true st.notifying
        old new next refl tt (tt, refl, tt) (Told registered (register_by false st) me old new) ((i.0, (refl, refl)), refl, refl)

    pub registers : me.0.hold ≡ Handle → new ≡ pack (moves.register st).state rests
        → Allows (Cell {F = F} {T = T} {W = W}) n id me 0 (λ y. either (eqb y old) new y) (tries moves.register registered old new me)
    registers mine next = swaps n id me old new moves.register registered st rests is next (registers_by _ refl mine next)

    ends_by : (b : Bool) → st.notifying ≡ b → me.0.hold ≡ Registering → WakerSlot b me.1 → new ≡ pack (end_register_by b st).state rests
        → (s : St F T W) (r : Holds st rests s) → get_elem? s.views id ≡ some me.0
        → Goes s id me (Told end_registered (end_register_by b st) me old new) new
    ends_by true e mine slot next s r at = let i = subst (λ (z : Hold). KnowsPost r.post id z) mine (r.each_seat id me.0 at).1 in
        returns_slot r id me at (reached_handle r id me at Registering refl i) Registering Handle (refl, refl, refl, refl) mine i
        None slot false false false old new next (refl, refl, refl) (tt, tt, tt)
        (Told end_registered (end_register_by true st) me old new) ((refl, refl), refl, refl)
    ends_by false e mine slot next s r at = let i = subst (λ (z : Hold). KnowsPost r.post id z) mine (r.each_seat id me.0 at).1 in
        returns_slot r id me at (reached_handle r id me at Registering refl i) Registering Handle (refl, refl, refl, refl) mine i
        (Some slot.0) slot.1 true false st.notifying old new next (refl, refl, e) (tt, tt, tt)
        (Told end_registered (end_register_by false st) me old new) ((refl, refl), refl, refl)

    pub ends_register : me.0.hold ≡ Registering → WakerSlot st.notifying me.1 → new ≡ pack (moves.end_register st).state rests
        → Allows (Cell {F = F} {T = T} {W = W}) n id me 0 (λ y. either (eqb y old) new y)
        (tries moves.end_register end_registered old new me)
    ends_register mine slot next = swaps n id me old new moves.end_register end_registered st rests is next
        (ends_by _ refl mine slot next)

  -- ---- who finds an awaiter left
  pub empties : (new : ℕ) → me.0.hold ≡ Emptying → me.1 ≡ (1, None) ∷ [] → new ≡ pack vacant false
      → Allows (Cell {F = F} {T = T} {W = W}) n id me 0 (λ _. new) (emptied new me)
  empties new mine out next s c wide at small = let r = c.holds in let y : ℕ = get_or s.words 0 0 in
      let i = subst (λ (z : Hold). KnowsPost r.post id z) mine (r.each_seat id me.0 at).1 in
      let k : (c.state.references ≡ 0) × (c.state.handle ≡ false) × (c.state.closed ≡ true) =
      subst (λ (z : Post W). Emptied z c.state) i r.emptied in
      let f : FitsPost {W = W} (held Emptying id) c.state.awaiter c.state.registering c.state.notifying = held_by r id me at Emptying i in
      let zeros : c.state.references ≡ 0 = k.0 in let none_has : bit c.state.handle ≡ 0 = ap bit k.1 in
      let a : reference_of me.0.hold ≡ 0 = ap reference_of mine in let b : handle_of me.0.hold ≡ 0 = ap handle_of mine in
      let l : reference_of me.0.hold + going r.body + calling r.post ≤ c.state.references = counted r id me at in
      let h : handle_of me.0.hold + spending r.body + handling r.post ≤ bit c.state.handle = handle_counted r id me at in
      let g : going r.body ≡ 0 = omega (arith, l, zeros) in let u : spending r.body ≡ 0 = omega (arith, h, none_has) in
      let q : calling r.post ≡ 0 = ap calling i in let v : handling r.post ≡ 0 = ap handling i in
      let e = when_left r.body c.state c.rests g u k.2 f.0 r.fits in
      goes r id me at Nothing y new new gives tt vacant false next gone (lies None)
      (record {
        fits = (refl, refl, refl, refl);
        bounded = omega arith;
        fits_post = (refl, refl, refl);
        emptied = tt;
        references = omega (arith, a, g, q, zeros);
        handle = omega (arith, b, u, v, none_has);
        place = back_post r me.1 [] None out ∙ ap (λ (z : maybe.Option (Slot F T W)). z ∷ some None ∷ []) (ap home e);
        mine = (tt, tt, tt);
        others = from_free id r.body gone (ap holder e);
        others_post = post_from_mine id r.post (lies None) (ap holder_of i);
        over = λ m o. absurd (omega (arith, m, zeros));
      }) (emptied new me y) ((refl, refl), (refl, refl))

-- ---- what a call answers
pub kept : {F T W : Type 0} (m m' m'' : Known F T W) → keeps_all m m' → keeps_all m' m'' → keeps_all m m''
kept m m' m'' a b = (b.0 ∙ a.0, b.1 ∙ a.1)

-- what a seat had of one hold or the other, it has of it after steps that leave it
pub notifier : {F T W : Type 0} {one two : Hold} {c : List (ℕ × Slot F T W)} (m m' : Known F T W) → (Is one c m) ⊎ (Is two c m)
    → keeps_all m m' → ((m'.0.hold ≡ one) ⊎ (m'.0.hold ≡ two)) × (m'.1 ≡ c)
notifier m m' has k = (
  ⊎_elim (λ h. inl (k.0 ∙ h.0)) (λ h. inr (k.0 ∙ h.0)) has,
  k.1 ∙ ⊎_elim (λ h. h.1) (λ h. h.1) has,
)

pub notified_now : {F T W : Type 0} (hold : Hold) (debt : Option AwaiterDebt) (m : Known F T W) (seat : Seat (Slot F T W) View)
    → Is hold [] m
    → at_slot (needs_slot debt) (notifying m.0.hold) m.0.hold m.1 seat.me → IsAtSlot debt (notifying hold) hold seat
notified_now {F} {T} {W} hold debt m seat i h = subst (λ (z : List (ℕ × Slot F T W)). at_slot (needs_slot debt)
    (notifying hold) hold z seat.me) i.1
    (subst (λ (z : Hold). at_slot {F = F} {T = T} {W = W} (needs_slot debt) (notifying z) z m.1 seat.me) i.0 h)

pub registered_now : {F T W : Type 0} (debt : Option AwaiterDebt) (m : Known F T W) (seat : Seat (Slot F T W) View) → m.1 ≡ []
    → at_slot (needs_slot debt) Registering Handle m.1 seat.me → IsAtSlot debt Registering Handle seat
registered_now {F} {T} {W} debt m seat e h = subst (λ (z : List (ℕ × Slot F T W)). at_slot
    (needs_slot debt) Registering Handle z seat.me) e h

pub end_notified_now : {F T W : Type 0} (hold : Hold) (m : Known F T W) (seat : Seat (Slot F T W) View) → Is hold ((1, None) ∷ []) m
    → Is (notified_by m.0.hold) (rest m.1) seat.me → Has (notified_by hold) seat
end_notified_now hold m seat i h = (h.0 ∙ ap notified_by i.0, h.1 ∙ ap rest i.1)

pub end_registered_now : {F T W : Type 0} (m : Known F T W) (seat : Seat (Slot F T W) View) (y : Slot F T W) → m.1 ≡ (1, y) ∷ []
    → Is Handle (rest m.1) seat.me → Has Handle seat
end_registered_now m seat y e h = (h.0, h.1 ∙ ap rest e)

-- what was put into the slot comes out of it
pub back_of : {F T W : Type 0} (o : Option W) (w : W) (c : List (ℕ × Slot F T W)) → c ≡ (1, awaiter_slot o) ∷ []
    → c ≡ (1, Some (Awaiter w)) ∷ [] → o ≡ Some w
back_of {F} {T} {W} o w c a b = found o ∙ ap first (sym a ∙ b) where
  awaiter_of : Slot F T W → Option W
  awaiter_of (Some (Awaiter w)) = Some w
  awaiter_of (Some (Future f)) = None
  awaiter_of (Some (Output t)) = None
  awaiter_of None = None

  first : List (ℕ × Slot F T W) → Option W
  first [] = None
  first (x ∷ xs) = awaiter_of x.1

  found : (o : Option W) → o ≡ awaiter_of (awaiter_slot o)
  found (Some w) = refl
  found None = refl

comes_by : (b : Bool) (st : State) → comes_back (end_register_by b st).owed.awaiter ≡ b
comes_by true st = refl
comes_by false st = refl

pub handed_back : {W : Type 0} (b : Bool) (st : State) (mv : Moved) (w : W) (o : Option W) → mv ≡ moves.end_register st
    → st.notifying ≡ b → IsHandedBack b w o → IsHandedBack (comes_back mv.owed.awaiter) w o
handed_back b st mv w o its e h = subst (λ (z : Bool). IsHandedBack z w o)
    (sym e ∙ sym (comes_by st.notifying st) ∙ ap (λ (z : Moved). comes_back z.owed.awaiter) (sym its)) h

-- the count stays
few_notify_by : (b : Bool) (st : State) → st.references ≤ most + 1 → (notify_by b st).state.references ≤ most + 2
few_notify_by true st h = omega (arith, h)
few_notify_by false st h = omega (arith, h)

pub few_notify : (st : State) (mv : Moved) → mv ≡ moves.notify st → st.references ≤ most + 1 → mv.state.references < 2 ^ 54
few_notify st mv its h = few_of st mv moves.notify its (few_notify_by _ st h)

few_register_by : (b : Bool) (st : State) → st.references ≤ most + 1 → (register_by b st).state.references ≤ most + 2
few_register_by true st h = omega (arith, h)
few_register_by false st h = omega (arith, h)

pub few_register : (st : State) (mv : Moved) → mv ≡ moves.register st → st.references ≤ most + 1 → mv.state.references < 2 ^ 54
few_register st mv its h = few_of st mv moves.register its (few_register_by _ st h)

few_end_register_by : (b : Bool) (st : State) → st.references ≤ most + 1 → (end_register_by b st).state.references ≤ most + 2
few_end_register_by true st h = omega (arith, h)
few_end_register_by false st h = omega (arith, h)

pub few_end_register : (st : State) (mv : Moved) → mv ≡ moves.end_register st → st.references ≤ most + 1
    → mv.state.references < 2 ^ 54
few_end_register st mv its h = few_of st mv moves.end_register its (few_end_register_by _ st h)
