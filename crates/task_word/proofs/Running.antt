-- The steps of runs keep the rule, by what their move finds.
use Rattle.std.proofs.Common.{◌≡◌, ℕ, ◌+◌, ◌-◌, ◌^◌, ◌<◌, ◌≤◌, Bool, true, false, ◌||◌, not, eqb, List, [], ◌∷◌, set, sym, refl, ap, ◌∙◌}
use Rattle.std.proofs.Common.{subst, arith}
use mathlib.Core.Option.{some, none}
use lib.ListN.{get_elem?}
use prog.Atomic.{either}
use Rattle.std.specs.Prelude.{Option, Some, None}
use Rattle.atomic_table.specs.Table.{Allows, keeps, takes, gives, chain, rest, put_back}
use Rattle.atomic_table.specs.declared.shared.Seat.{Seat}
use Rattle.task_moves.specs.declared.moves.state.State.{State}
use Rattle.task_moves.specs.declared.moves.owed.Moved.{Moved}
use Rattle.task_moves.specs.declared.schedule_info.ScheduleInfo.{ScheduleInfo}
use Rattle.task_moves.specs.Moves as moves
use Rattle.task_moves.specs.Moves.{take_up_by, end_pending_by, is_over, is_last}
use Rattle.task_word.specs.declared.rule.View.{View}
use Rattle.task_word.specs.declared.rule.Hold.{Hold}
use Rattle.task_word.specs.declared.rule.Hold.TheVariants.{Nothing, Leaving, Queued, Running, Closing, Ending, Emptying}
use Rattle.task_word.specs.declared.rule.Content.TheVariants.{Future, Output, Awaiter}
use Rattle.task_word.specs.Word.{bit, pack}
use Rattle.task_word.specs.Cell.{Slot, Body, idle, queued, taken, kept, gone, Post, lies, held, home, home_awaiter, going, spending}
use Rattle.task_word.specs.Cell.{calling, handling, room, most, weight, reference_of, handle_of, handle_weight, Fits, FitsHold, FitsPost}
use Rattle.task_word.specs.Cell.{KnowsState, Knows, KnowsPost, Holds, Cell}
use Rattle.task_word.specs.Steps.{view, Known, Is, looked_by, turned_up, turned_back, tries, leaves}
use Rattle.task_word.specs.Steps.{leaves_awaiter, began, ended, paused, HasFuture, HasLeft, TakenUp, Paused}
use Rattle.task_word.proofs.Views.{true_not, not_false, or_true, last_is, last_has_no_handle}
use Rattle.task_word.proofs.Bodies.{alone}
use Rattle.task_word.proofs.Keeps.{St, Goes, StaysOver, goes, swaps, looks_by, holder, holder_of, from_mine, post_from_free, there}
use Rattle.task_word.proofs.Keeps.{back, taken_out, counted, handle_counted, weight_counted}
use Rattle.task_word.proofs.Stepping.{Told, referred, full}
use Rattle.task_word.proofs.Moving.{few_of, still, left_now}

module _ {F T W : Type 0} {s : St F T W} {st : State} {rests : Bool} (r : Holds st rests s) (id : ℕ) (me : Known F T W)
    (at : get_elem? s.views id ≡ some me.0) where
  -- a Runnable's seat takes the future's slot
  pub takes_future : (f : F) → r.body ≡ queued f id → me.0.hold ≡ Queued → (hold' : Hold) → weight hold' ≡ 1 → handle_weight hold' ≡ 0
      → reference_of hold' ≡ 0 → handle_of hold' ≡ 0
      → (found left new : ℕ) (st' : State) → new ≡ pack st' rests → FitsHold hold' st' → rests ≡ false → st'.references ≡ st.references
      → st'.handle ≡ st.handle → FitsPost r.post st'.awaiter st'.registering st'.notifying
      → Knows {F = F} {T = T} (taken hold' id) id hold' × KnowsPost r.post id hold' × KnowsState st' hold' → StaysOver st st'
      → (won : Known F T W → Type 0) → won (view hold' found left, (0, Some (Future f)) ∷ me.1) → Goes s id me won new
  takes_future f i mine hold' w hw ro ho found left new st' is marks nr many handle post knows over won told = let g : going r.body ≡ 1 =
      ap going i in let p : spending r.body ≡ 0 = ap spending i in
      let a : reference_of me.0.hold ≡ 0 = ap reference_of mine in let b : handle_of me.0.hold ≡ 0 = ap handle_of mine in
      let l = weight_counted r id me.0 at in let l2 : 1 ≤ st.references = subst (λ (z : Hold). weight z ≤ st.references) mine l in
      let h : bit st'.handle ≡ bit st.handle = ap bit handle in
      let d : st.references ≤ most + room r.body = r.bounded in let d2 : room r.body ≡ 1 = ap room i in
      goes r id me at hold' found left new (takes 0 (Some (Future f))) (there r (Some (Future f)) (ap home i)) st' rests is
      (taken hold' id) r.post
      (record {
        fits = (marks, nr);
        bounded = omega (arith, d, d2, many);
        fits_post = post;
        emptied = full r id me at st' (referred st l2);
        references = omega (arith, g, a, w, ro, many);
        handle = omega (arith, p, b, hw, ho, h);
        place = taken_out r;
        mine = knows;
        others = from_mine id r.body (taken hold' id) (ap holder i);
        others_post = λ j ne hold k. k;
        over = over;
      }) won told

  -- the seat that has the slot gives it back
  pub gives_back : (hold : Hold) → weight hold ≡ 1 → handle_weight hold ≡ 0 → reference_of hold ≡ 0 → handle_of hold ≡ 0
      → r.body ≡ taken hold id → me.0.hold ≡ hold → (hold' : Hold) → handle_of hold' ≡ 0 → (y : Slot F T W) (b' : Body F T)
      → home b' ≡ some y → spending b' ≡ 0 → me.1 ≡ (0, y) ∷ []
      → (found new : ℕ) (st' : State) → new ≡ pack st' rests → Fits b' st' rests → st'.references ≤ most + room b'
      → st'.handle ≡ st.handle → FitsPost r.post st'.awaiter st'.registering st'.notifying
      → st'.references + 1 ≡ st.references + going b' + reference_of hold'
      → Knows b' id hold' × KnowsPost r.post id hold' × KnowsState st' hold' → StaysOver st st'
      → (won : Known F T W → Type 0) → won (view hold' found new, rest me.1) → Goes s id me won new
  gives_back hold w hw ro ho i mine hold' ho' y b' lies_y sp has found new st' is fits bound handle post many knows over won told =
      let g : going r.body ≡ weight hold = ap going i in let p : spending r.body ≡ handle_weight hold = ap spending i in
      let a : reference_of me.0.hold ≡ reference_of hold = ap reference_of mine in
      let b : handle_of me.0.hold ≡ handle_of hold = ap handle_of mine in
      let l = weight_counted r id me.0 at in let l2 : weight hold ≤ st.references =
      subst (λ (z : Hold). weight z ≤ st.references) mine l in
      let h : bit st'.handle ≡ bit st.handle = ap bit handle in
      goes r id me at hold' found new new gives tt st' rests is b' r.post
      (record {
        fits = fits;
        bounded = bound;
        fits_post = post;
        emptied = full r id me at st' (referred st (omega (arith, l2, w)));
        references = omega (arith, g, a, w, ro, many);
        handle = omega (arith, p, b, hw, ho, ho', sp, h);
        place = back r me.1 [] y has ∙ ap (λ z. z ∷ home_awaiter r.post ∷ []) (sym lies_y);
        mine = knows;
        others = from_mine id r.body b' (ap holder i);
        others_post = λ j ne hold k. k;
        over = over;
      }) won told

  -- what the seat that has a slot knows of the state
  pub fits_taken : (hold : Hold) → r.body ≡ taken hold id → FitsHold hold st × (rests ≡ false)
  fits_taken hold i = subst (λ (z : Body F T). Fits z st rests) i r.fits

module _ {F T W : Type 0} where
  -- the output stays in the slot, or was taken out to be dropped
  abbrev pub OutputSlot : Bool → List (ℕ × Slot F T W) → Type 0
  OutputSlot true c = c ≡ (0, None) ∷ []
  OutputSlot false c = (t : T) × (c ≡ (0, Some (Output t)) ∷ [])

  -- the slot is empty where the task is forgotten, and else has the future
  abbrev pub FutureSlot : Bool → List (ℕ × Slot F T W) → Type 0
  FutureSlot true c = c ≡ (0, None) ∷ []
  FutureSlot false c = (f : F) × (c ≡ (0, Some (Future f)) ∷ [])

module _ {F T W : Type 0} (n id : ℕ) (me : Known F T W) (old new : ℕ) (st : State) (rests : Bool) (is : pack st rests ≡ old) where
  begins_by : (b : Bool) → b ≡ false → me.0.hold ≡ Queued → new ≡ pack (take_up_by b st).state rests
      → (s : St F T W) (r : Holds st rests s) → get_elem? s.views id ≡ some me.0
      → Goes s id me (Told began (take_up_by b st) me old new) new
  begins_by true unshut mine next s r at = true_not refl unshut
  begins_by false unshut mine next s r at = let i = subst (λ (z : Hold). Knows r.body id z) mine (r.each_seat id me.0 at).0 in
      let f : Fits {T = T} (queued i.0 id) st rests = subst (λ (z : Body F T). Fits z st rests) i.1 r.fits in
      takes_future r id me at i.0 i.1 mine Running refl refl refl refl old new new (record st { scheduled = false; running = true }) next
      (refl, f.2) f.3 refl refl r.fits_post (refl, tt, tt) (λ l e. e)
      (Told began (take_up_by false st) me old new) ((i.0, (refl, refl)), refl, refl)

  pub begins : st.closed ≡ false → me.0.hold ≡ Queued → new ≡ pack (moves.take_up st).state rests
      → Allows (Cell {F = F} {T = T} {W = W}) n id me 0 (λ y. either (eqb y old) new y) (tries moves.take_up began old new me)
  begins unshut mine next = swaps n id me old new moves.take_up began st rests is next (begins_by st.closed unshut mine next)

  pub settles : me.0.hold ≡ Closing → me.1 ≡ (0, None) ∷ [] → new ≡ pack (moves.settle_closed st).state rests
      → Allows (Cell {F = F} {T = T} {W = W}) n id me 0 (λ y. either (eqb y old) new y) (tries moves.settle_closed ended old new me)
  settles mine out next = swaps n id me old new moves.settle_closed ended st rests is next
      (λ s r at. let i = subst (λ (z : Hold). Knows r.body id z) mine (r.each_seat id me.0 at).0 in
      let k = fits_taken r id me at Closing i in let b : st.references ≤ most + room r.body = r.bounded in
      let d : room r.body ≡ 1 = ap room i in
      gives_back r id me at Closing refl refl refl refl i mine Leaving refl None gone refl refl out old new
      (record st { scheduled = false }) next (refl, k.0.1, k.0.3, k.1) (omega (arith, b, d)) refl r.fits_post (omega arith)
      (tt, tt, or_true _ _ k.0.3) (λ l e. e)
      (Told ended (moves.settle_closed st) me old new) ((refl, refl), refl, refl))

  pub ends_closed : me.0.hold ≡ Ending → me.1 ≡ (0, None) ∷ [] → new ≡ pack (moves.end_closed st).state rests
      → Allows (Cell {F = F} {T = T} {W = W}) n id me 0 (λ y. either (eqb y old) new y) (tries moves.end_closed ended old new me)
  ends_closed mine out next = swaps n id me old new moves.end_closed ended st rests is next
      (λ s r at. let i = subst (λ (z : Hold). Knows r.body id z) mine (r.each_seat id me.0 at).0 in
      let k = fits_taken r id me at Ending i in let b : st.references ≤ most + room r.body = r.bounded in
      let d : room r.body ≡ 1 = ap room i in
      gives_back r id me at Ending refl refl refl refl i mine Leaving refl None gone refl refl out old new
      (record st { scheduled = false; running = false }) next (refl, refl, k.0.2, k.1) (omega (arith, b, d)) refl r.fits_post
      (omega arith) (tt, tt, or_true _ _ k.0.2) (λ l e. e)
      (Told ended (moves.end_closed st) me old new) ((refl, refl), refl, refl))

  ends_by : (b : Bool) → st.closed || not st.handle ≡ b → me.0.hold ≡ Running → OutputSlot b me.1
      → new ≡ pack (moves.end_ready st).state rests → (s : St F T W) (r : Holds st rests s) → get_elem? s.views id ≡ some me.0
      → Goes s id me (Told ended (moves.end_ready st) me old new) new
  ends_by true eb mine slot next s r at = let i = subst (λ (z : Hold). Knows r.body id z) mine (r.each_seat id me.0 at).0 in
      let k = fits_taken r id me at Running i in let b : st.references ≤ most + room r.body = r.bounded in
      let d : room r.body ≡ 1 = ap room i in
      gives_back r id me at Running refl refl refl refl i mine Leaving refl None gone refl refl slot old new
      (moves.end_ready st).state next (refl, refl, eb, k.1) (omega (arith, b, d)) refl r.fits_post (omega arith) (tt, tt, refl)
      (λ l e. refl)
      (Told ended (moves.end_ready st) me old new) ((refl, refl), refl, refl)
  ends_by false eb mine slot next s r at = let i = subst (λ (z : Hold). Knows r.body id z) mine (r.each_seat id me.0 at).0 in
      let k = fits_taken r id me at Running i in let b : st.references ≤ most + room r.body = r.bounded in
      let d : room r.body ≡ 1 = ap room i in
      gives_back r id me at Running refl refl refl refl i mine Leaving refl (Some (Output slot.0)) (kept slot.0) refl refl slot.1 old new
      (moves.end_ready st).state next (refl, refl, refl, eb, has_handle st.closed st.handle eb, k.1)
      (omega (arith, b, d)) refl r.fits_post (omega arith) (tt, tt, refl) (λ l e. refl)
      (Told ended (moves.end_ready st) me old new) ((refl, refl), refl, refl) where
        has_handle : (c h : Bool) → c || not h ≡ false → h ≡ true
        has_handle true h e = true_not refl e
        has_handle false h e = not_false h e

  pub ends_ready : me.0.hold ≡ Running → OutputSlot (moves.end_ready st).owed.drop_output me.1
      → new ≡ pack (moves.end_ready st).state rests → Allows (Cell {F = F} {T = T} {W = W}) n id me 0 (λ y. either (eqb y old) new y)
      (tries moves.end_ready ended old new me)
  ends_ready mine slot next = swaps n id me old new moves.end_ready ended st rests is next (ends_by _ refl mine slot next)

  -- nobody can reach the task any more, and its awaiter may be left
  forgets : st.closed ≡ false → st.scheduled ≡ false → is_last st ≡ true → me.0.hold ≡ Running → me.1 ≡ (0, None) ∷ []
      → new ≡ pack (record st { running = false; closed = true; references = 0 }) rests → (s : St F T W) (r : Holds st rests s)
      → get_elem? s.views id ≡ some me.0
      → Goes s id me (Told paused (end_pending_by false false true st) me old new) new
  forgets unshut still last mine out next s r at = by there_is.0 there_is.1 where
    i : r.body ≡ taken Running id
    i = subst (λ (z : Hold). Knows r.body id z) mine (r.each_seat id me.0 at).0

    single : st.references ≡ 1
    single = last_is st last

    no_handle : st.handle ≡ false
    no_handle = last_has_no_handle st last

    quiet : calling r.post ≡ 0
    quiet = let c : reference_of me.0.hold + going r.body + calling r.post ≤ st.references = counted r id me at in
        let g : going r.body ≡ 1 = ap going i in let o : st.references ≡ 1 = single in omega (arith, c, g, o)

    unhandled : handling r.post ≡ 0
    unhandled = let c : handle_of me.0.hold + spending r.body + handling r.post ≤ bit st.handle = handle_counted r id me at in
        let b : bit st.handle ≡ 0 = ap bit no_handle in omega (arith, c, b)

    there_is : (a : Option W) × (r.post ≡ lies a)
    there_is = let o : st.references ≡ 1 = single in alone r.post st quiet unhandled
        (referred st (omega (arith, o))) r.fits_post r.emptied

    dead : State
    dead = record st { running = false; closed = true; references = 0 }

    by : (a : Option W) → r.post ≡ lies a → Goes s id me (Told paused (end_pending_by false false true st) me old new) new
    by (Some w) e = let k : FitsPost (lies (Some w)) st.awaiter st.registering st.notifying =
        subst (λ (z : Post W). FitsPost z st.awaiter st.registering st.notifying) e r.fits_post in
        let g : going r.body ≡ 1 = ap going i in let p : spending r.body ≡ 0 = ap spending i in
        let a : reference_of me.0.hold ≡ 0 = ap reference_of mine in let b : handle_of me.0.hold ≡ 0 = ap handle_of mine in
        let o : st.references ≡ 1 = single in let q : calling r.post ≡ 0 = quiet in let u : handling r.post ≡ 0 = unhandled in
        let home_now : put_back s.homes me.1 ≡ some None ∷ some (Some (Awaiter w)) ∷ [] = back r me.1 [] None out
        ∙ ap (λ z. some None ∷ z ∷ []) (ap home_awaiter e) in
        goes r id me at Emptying old new new (chain gives (takes 1 (Some (Awaiter w)))) (tt, ap (λ hs. get_elem? hs 1) home_now)
        (record st { running = false; closed = true; references = 0 }) rests next gone (held Emptying id)
        (record {
          fits = (still, refl, refl, (fits_taken r id me at Running i).1);
          bounded = omega arith;
          fits_post = k;
          emptied = (refl, no_handle, refl);
          references = omega (arith, g, a, o, q);
          handle = omega (arith, p, b, u);
          place = ap (λ hs. set hs 1 none) home_now;
          mine = (tt, refl, tt);
          others = from_mine id r.body gone (ap holder i);
          others_post = post_from_free id r.post (held Emptying id) (ap holder_of e);
          over = λ l z. or_true _ _ refl;
        }) (Told paused (end_pending_by false false true st) me old new) (
          subst (λ (z : Bool). leaves None z (rest me.1) (view Emptying old new, (1, Some (Awaiter w)) ∷ rest me.1)) (sym k.0)
              (w, (refl, refl)),
          refl,
          refl,
        )
    by None e = let k : FitsPost {W = W} (lies None) st.awaiter st.registering st.notifying =
        subst (λ (z : Post W). FitsPost z st.awaiter st.registering st.notifying) e r.fits_post in
        let o : st.references ≡ 1 = single in
        gives_back r id me at Running refl refl refl refl i mine Nothing refl None gone refl refl out old new
        (record st { running = false; closed = true; references = 0 }) next (still, refl, refl, (fits_taken r id me at Running i).1)
        (omega arith) refl r.fits_post (omega (arith, o)) (tt, tt, tt) (λ l z. or_true _ _ refl)
        (Told paused (end_pending_by false false true st) me old new)
        (subst (λ (z : Bool). leaves None z (rest me.1) (view Nothing old new, rest me.1)) (sym k.0) (refl, refl), refl, refl)

  pauses_by : (c t l : Bool) → st.closed ≡ c → st.scheduled ≡ t → is_last st ≡ l → c ≡ false → me.0.hold ≡ Running
      → FutureSlot (end_pending_by c t l st).owed.empty_cell me.1 → new ≡ pack (end_pending_by c t l st).state rests
      → (s : St F T W) (r : Holds st rests s) → get_elem? s.views id ≡ some me.0
      → Goes s id me (Told paused (end_pending_by c t l st) me old new) new
  pauses_by true t l ec et el unshut mine slot next s r at = true_not refl unshut
  pauses_by false true l ec et el unshut mine slot next s r at = let i =
      subst (λ (z : Hold). Knows r.body id z) mine (r.each_seat id me.0 at).0 in
      let k = fits_taken r id me at Running i in let b : st.references ≤ most + room r.body = r.bounded in
      let d : room r.body ≡ 1 = ap room i in
      gives_back r id me at Running refl refl refl refl i mine Queued refl (Some (Future slot.0))
      (queued slot.0 id) refl refl slot.1 old new (record st { running = false }) next (et, refl, k.0.1, k.1)
      (omega (arith, b, d)) refl r.fits_post (omega arith) ((slot.0, refl), tt, tt) (λ m e. e)
      (Told paused (end_pending_by false true l st) me old new) ((refl, refl), refl, refl)
  pauses_by false false true ec et el unshut mine slot next s r at = forgets ec et el mine slot next s r at
  pauses_by false false false ec et el unshut mine slot next s r at = let i =
      subst (λ (z : Hold). Knows r.body id z) mine (r.each_seat id me.0 at).0 in
      let k = fits_taken r id me at Running i in let b : st.references ≤ most + room r.body = r.bounded in
      let d : room r.body ≡ 1 = ap room i in
      let w = subst (λ (z : Hold). weight z ≤ st.references) mine (weight_counted r id me.0 at) in
      gives_back r id me at Running refl refl refl refl i mine Nothing refl (Some (Future slot.0)) (idle slot.0) refl refl slot.1 old new
      (record st { running = false; references = st.references - 1 }) next (et, refl, k.0.1, ec, k.1)
      (omega (arith, b, d)) refl r.fits_post (omega (arith, w)) (tt, tt, tt) (λ m e. e)
      (Told paused (end_pending_by false false false st) me old new) ((refl, refl), refl, refl)

  pub pauses : st.closed ≡ false → me.0.hold ≡ Running → FutureSlot (moves.end_pending st).owed.empty_cell me.1
      → new ≡ pack (moves.end_pending st).state rests → Allows (Cell {F = F} {T = T} {W = W}) n id me 0 (λ y. either (eqb y old) new y)
      (tries moves.end_pending paused old new me)
  pauses unshut mine slot next = swaps n id me old new moves.end_pending paused st rests is next
      (pauses_by _ _ _ refl refl refl unshut mine slot next)

module _ {F T W : Type 0} (n id : ℕ) (me : Known F T W) where
  -- ---- loads after which a closed task is closed for the seat
  pub looks_up : me.0.hold ≡ Queued → Allows (Cell {F = F} {T = T} {W = W}) n id me 0 (λ x. x) (looked_by turned_up me)
  looks_up mine = looks_by n id me turned_up (λ s st rests r new at shut is. let i =
      subst (λ (z : Hold). Knows r.body id z) mine (r.each_seat id me.0 at).0 in
      let f : Fits {T = T} (queued i.0 id) st rests = subst (λ (z : Body F T). Fits z st rests) i.1 r.fits in
      takes_future r id me at i.0 i.1 mine Closing refl refl refl refl new new new st is (f.0, f.1, f.2, shut) f.3 refl refl r.fits_post
      (refl, tt, tt) (λ l e. e)
      (λ m'. turned_up me m' × (m'.0.found ≡ new) × (m'.0.left ≡ new)) ((i.0, (refl, refl)), refl, refl))

  pub looks_back : me.0.hold ≡ Running → Allows (Cell {F = F} {T = T} {W = W}) n id me 0 (λ x. x) (looked_by turned_back me)
  looks_back mine = looks_by n id me turned_back (λ s st rests r new at shut is. let i =
      subst (λ (z : Hold). Knows r.body id z) mine (r.each_seat id me.0 at).0 in
      let k = fits_taken r id me at Running i in
      let g : going r.body ≡ 1 = ap going i in let p : spending r.body ≡ 0 = ap spending i in let d : room r.body ≡ 1 = ap room i in
      let a : reference_of me.0.hold ≡ 0 = ap reference_of mine in let b : handle_of me.0.hold ≡ 0 = ap handle_of mine in
      let w = subst (λ (z : Hold). weight z ≤ st.references) mine (weight_counted r id me.0 at) in
      let l : st.references ≤ most + room r.body = r.bounded in
      goes r id me at Ending new new new keeps tt st rests is (taken Ending id) r.post
      (record {
        fits = ((k.0.0, k.0.1, shut), k.1);
        bounded = omega (arith, l, d);
        fits_post = r.fits_post;
        emptied = full r id me at st (referred st w);
        references = omega (arith, g, a);
        handle = omega (arith, p, b);
        place = r.place ∙ ap (λ h. h ∷ home_awaiter r.post ∷ []) (ap home i);
        mine = (refl, tt, tt);
        others = from_mine id r.body (taken Ending id) (ap holder i);
        others_post = λ j ne hold q. q;
        over = λ m e. e;
      }) (λ m'. turned_back me m' × (m'.0.found ≡ new) × (m'.0.left ≡ new)) ((refl, refl), refl, refl))

-- ---- what a call answers
pub ended_now : {F T W : Type 0} {hold : Hold} {y : Slot F T W} (m m' : Known F T W) → Is hold ((0, y) ∷ []) m → Is Leaving (rest m.1) m'
    → Is Leaving [] m'
ended_now m m' i e = (e.0, e.1 ∙ ap rest i.1)

begun_by : (b : Bool) (st : State) → st.references ≤ most + 1 → (take_up_by b st).state.references ≤ most + 2
begun_by false st h = omega (arith, h)
begun_by true st h = omega (arith, h)

pub few_begun : (st : State) (mv : Moved) → mv ≡ moves.take_up st → st.references ≤ most + 1 → mv.state.references < 2 ^ 54
few_begun st mv its h = few_of st mv moves.take_up its (begun_by _ st h)

paused_few : (c t l : Bool) (st : State) → st.references ≤ most + 1 → (end_pending_by c t l st).state.references ≤ most + 2
paused_few true t l st h = omega (arith, h)
paused_few false true l st h = omega (arith, h)
paused_few false false true st h = omega (arith, h)
paused_few false false false st h = omega (arith, h)

pub few_paused : (st : State) (mv : Moved) → mv ≡ moves.end_pending st → st.references ≤ most + 1 → mv.state.references < 2 ^ 54
few_paused st mv its h = few_of st mv moves.end_pending its (paused_few _ _ _ st h)

closed_by : {F T W : Type 0} (b : Bool) (st : State) (seat : Seat (Slot F T W) View) → b ≡ true → HasFuture Closing seat
    → TakenUp (take_up_by b st).owed.next seat
closed_by true st seat e h = h
closed_by false st seat e h = true_not refl (sym e)

pub closed_up : {F T W : Type 0} (st : State) (mv : Moved) (seat : Seat (Slot F T W) View) → mv ≡ moves.take_up st → st.closed ≡ true
    → HasFuture Closing seat → TakenUp mv.owed.next seat
closed_up st mv seat its e h = subst (λ (z : Moved). TakenUp z.owed.next seat) (sym its) (closed_by st.closed st seat e h)

open_by : {F T W : Type 0} (b : Bool) (st : State) (seat : Seat (Slot F T W) View) → b ≡ false → HasFuture Running seat
    → TakenUp (take_up_by b st).owed.next seat
open_by true st seat e h = true_not refl e
open_by false st seat e h = h

pub open_up : {F T W : Type 0} (st : State) (mv : Moved) (seat : Seat (Slot F T W) View) → mv ≡ moves.take_up st → st.closed ≡ false
    → HasFuture Running seat → TakenUp mv.owed.next seat
open_up st mv seat its e h = subst (λ (z : Moved). TakenUp z.owed.next seat) (sym its) (open_by st.closed st seat e h)

back_by : {F T W : Type 0} (c t l : Bool) (st : State) (b : Bool) (seat : Seat (Slot F T W) View) → c ≡ true → HasFuture Ending seat
    → Paused (end_pending_by c t l st).owed.next (end_pending_by c t l st).owed.schedule b seat
back_by true t l st b seat e h = h
back_by false t l st b seat e h = true_not refl (sym e)

pub closed_back : {F T W : Type 0} (st : State) (mv : Moved) (b : Bool) (seat : Seat (Slot F T W) View) → mv ≡ moves.end_pending st
    → st.closed ≡ true → HasFuture Ending seat → Paused mv.owed.next mv.owed.schedule b seat
closed_back st mv b seat its e h = subst (λ (z : Moved). Paused z.owed.next z.owed.schedule b seat) (sym its)
    (back_by _ _ _ st b seat e h)

same_left : {F T W : Type 0} (o : Option ScheduleInfo) (a b : Bool) (c : List (ℕ × Slot F T W)) (seat : Seat (Slot F T W) View) → b ≡ a
    → c ≡ [] → leaves o a c seat.me → HasLeft o b seat
same_left o a b c seat e slots h = subst (λ (z : Bool). HasLeft o z seat) (sym e) (left_now o a c seat slots h)

open_back_by : {F T W : Type 0} (c t l : Bool) (st : State) (b : Bool) (m : Known F T W) (seat : Seat (Slot F T W) View) → c ≡ false
    → b ≡ leaves_awaiter (end_pending_by c t l st) → rest m.1 ≡ [] → paused (end_pending_by c t l st) m seat.me
    → Paused (end_pending_by c t l st).owed.next (end_pending_by c t l st).owed.schedule b seat
open_back_by true t l st b m seat e eb slots h = true_not refl e
open_back_by false true l st b m seat e eb slots h = same_left (end_pending_by false true l st).owed.schedule
    (leaves_awaiter (end_pending_by false true l st)) b (rest m.1) seat eb slots h
open_back_by false false true st b m seat e eb slots h = same_left (end_pending_by false false true st).owed.schedule
    (leaves_awaiter (end_pending_by false false true st)) b (rest m.1) seat eb slots h
open_back_by false false false st b m seat e eb slots h = same_left (end_pending_by false false false st).owed.schedule
    (leaves_awaiter (end_pending_by false false false st)) b (rest m.1) seat eb slots h

pub open_back : {F T W : Type 0} (st : State) (mv : Moved) (b : Bool) (m : Known F T W) (seat : Seat (Slot F T W) View)
    → mv ≡ moves.end_pending st → st.closed ≡ false → b ≡ leaves_awaiter mv → rest m.1 ≡ [] → paused mv m seat.me
    → Paused mv.owed.next mv.owed.schedule b seat
open_back st mv b m seat its e eb slots h = subst (λ (z : Moved). Paused z.owed.next z.owed.schedule b seat) (sym its)
    (open_back_by st.closed st.scheduled (is_last st) st b m seat e (eb ∙ ap leaves_awaiter its) slots
    (subst (λ (z : Moved). paused z m seat.me) its h))

unfinished_by : (c t l : Bool) (st : State) → c ≡ false → (end_pending_by c t l st).owed.next ≡ None
unfinished_by true t l st e = true_not refl e
unfinished_by false true l st e = refl
unfinished_by false false true st e = refl
unfinished_by false false false st e = refl

-- a run of an open task has no further move to make
pub unfinished : (st : State) (mv : Moved) → mv ≡ moves.end_pending st → st.closed ≡ false → mv.owed.next ≡ None
unfinished st mv its e = ap (λ (z : Moved). z.owed.next) its ∙ unfinished_by _ _ _ st e

shut_by : (c t l : Bool) (st : State) → c ≡ true → (end_pending_by c t l st).owed.empty_cell ≡ false
shut_by true t l st e = refl
shut_by false t l st e = true_not refl (sym e)

-- a closed task's cell isn't emptied by the end of its poll
pub unemptied : (st : State) (mv : Moved) → mv ≡ moves.end_pending st → st.closed ≡ true → mv.owed.empty_cell ≡ false
unemptied st mv its e = ap (λ (z : Moved). z.owed.empty_cell) its ∙ shut_by _ _ _ st e
