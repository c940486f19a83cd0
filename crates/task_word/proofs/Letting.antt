-- The steps by which the handle goes keep the rule.
use Rattle.std.proofs.Common.{◌≡◌, ℕ, zero, suc, ◌+◌, ◌^◌, ◌<◌, ◌≤◌, Bool, true, false, ◌&&◌, ◌==◌, not, eqb, ◌∷◌, List, [], get_or}
use Rattle.std.proofs.Common.{eqb-true, sym, refl, ap, ◌∙◌, subst, arith}
use mathlib.Core.Option.{some}
use lib.ListN.{get_elem?}
use prog.Atomic.{either}
use Rattle.std.specs.Prelude.{Option, Some, None}
use Rattle.atomic_table.specs.Table.{Allows, keeps, takes, gives}
use Rattle.atomic_table.specs.declared.shared.Seat.{Seat}
use Rattle.task_moves.specs.declared.moves.state.State.{State}
use Rattle.task_moves.specs.declared.moves.owed.Moved.{Moved}
use Rattle.task_moves.specs.Moves as moves
use Rattle.task_moves.specs.Moves.{detach_by}
use Rattle.task_word.specs.declared.rule.View.{View}
use Rattle.task_word.specs.declared.rule.Hold.{Hold}
use Rattle.task_word.specs.declared.rule.Hold.TheVariants.{Nothing, Handle}
use Rattle.task_word.specs.declared.rule.Hold.TheVariants.{Spending, Emptying}
use Rattle.task_word.specs.declared.rule.Content.TheVariants.{Output, Awaiter}
use Rattle.task_word.specs.Word.{bit, pack}
use Rattle.task_word.specs.Cell.{Slot, Body, idle, taken, kept, gone, Post, lies, held, home, home_awaiter, going}
use Rattle.task_word.specs.Cell.{spending, calling, handling, room, most, reference_of, handle_of, Fits, FitsHold, FitsPost, Knows, Holds}
use Rattle.task_word.specs.Cell.{Cell}
use Rattle.task_word.specs.Steps.{view, Known, leaves, leaves_awaiter, let_go, lets_go, spent, tries, LetGo}
use Rattle.task_word.proofs.Packs.{bit_small}
use Rattle.task_word.proofs.Views.{true_not, not_false, not_true, both_true, both_not, or_true}
use Rattle.task_word.proofs.Bodies.{Reachable, closed_on, unhandled, without_handle, when_kept, when_still, alone}
use Rattle.task_word.proofs.Keeps.{St, Goes, goes, swaps, shows, holder, holder_of, from_free, from_mine, post_from_free, there}
use Rattle.task_word.proofs.Keeps.{there_post, back, taken_out, taken_out_post, counted, handle_counted}
use Rattle.task_word.proofs.Stepping.{Told, full, full_open, gets_runnable}
use Rattle.task_word.proofs.Moving.{few_of}

pub set_bit : (b : Bool) → 1 ≤ bit b → b ≡ true
set_bit true l = refl
set_bit false l = absurd (omega (arith, l))

module _ {F T W : Type 0} {s : St F T W} {st : State} {rests : Bool} (r : Holds st rests s) (id : ℕ) (me : Known F T W)
    (at : get_elem? s.views id ≡ some me.0) (mine : me.0.hold ≡ Handle) where
  handled : st.handle ≡ true
  handled = let c : handle_of me.0.hold + spending r.body + handling r.post ≤ bit st.handle = handle_counted r id me at in
      let h : handle_of me.0.hold ≡ 1 = ap handle_of mine in set_bit st.handle (omega (arith, c, h))

  pub unspent : (spending r.body ≡ 0) × (handling r.post ≡ 0)
  unspent = let c : handle_of me.0.hold + spending r.body + handling r.post ≤ bit st.handle = handle_counted r id me at in
      let h : handle_of me.0.hold ≡ 1 = ap handle_of mine in
      let b : bit st.handle ≤ 1 = bit_small st.handle in (omega (arith, c, h, b), omega (arith, c, h, b))

  pub reached : Reachable st
  reached a b = true_not handled b

  -- the handle goes, and somebody has a reference
  goes_bare : (found new : ℕ) → st.completed && not st.closed ≡ false → new ≡ pack (unhandled st) rests → 1 ≤ st.references
      → (won : Known F T W → Type 0) → won (view Nothing found new, me.1) → Goes s id me won new
  goes_bare found new e is some_left won told = let a : reference_of me.0.hold ≡ 0 = ap reference_of mine in
      let b : handle_of me.0.hold ≡ 1 = ap handle_of mine in let h : bit st.handle ≡ 1 = ap bit handled in
      goes r id me at Nothing found new new keeps tt (unhandled st) rests is r.body r.post
      (record {
        fits = without_handle r.body st rests handled e r.fits;
        bounded = r.bounded;
        fits_post = r.fits_post;
        emptied = full r id me at (unhandled st) reached;
        references = omega (arith, a);
        handle = omega (arith, b, h);
        place = r.place;
        mine = (tt, tt, tt);
        others = λ j ne hold k. k;
        others_post = λ j ne hold k. k;
        over = λ l o. o;
      }) won told

  -- the output is taken out, and the task closed
  pub takes_output : (found new : ℕ) → st.completed ≡ true → st.closed ≡ false → new ≡ pack (closed_on st) rests
      → (won : Known F T W → Type 0) → ((t : T) → won (view Spending found new, (0, Some (Output t)) ∷ me.1)) → Goes s id me won new
  takes_output found new done unshut is won told = let i = when_kept r.body st rests done unshut r.fits in
      let k : Fits {F = F} (kept i.0) st rests = subst (λ (z : Body F T). Fits z st rests) i.1 r.fits in
      let g : going r.body ≡ 0 = ap going i.1 in let u : spending r.body ≡ 0 = ap spending i.1 in
      let x : reference_of me.0.hold ≡ 0 = ap reference_of mine in let y : handle_of me.0.hold ≡ 1 = ap handle_of mine in
      let l : st.references ≤ most + room r.body = r.bounded in let d : room r.body ≡ 1 = ap room i.1 in
      goes r id me at Spending found new new (takes 0 (Some (Output i.0))) (there r (Some (Output i.0)) (ap home i.1))
      (closed_on st) rests is (taken Spending id) r.post
      (record {
        fits = ((k.0, k.1, k.2, refl), k.5);
        bounded = omega (arith, l, d);
        fits_post = r.fits_post;
        emptied = full r id me at (closed_on st) reached;
        references = omega (arith, g, x);
        handle = omega (arith, u, y);
        place = taken_out r;
        mine = (refl, tt, tt);
        others = from_free id r.body (taken Spending id) (ap holder i.1);
        others_post = λ j ne hold z. z;
        over = λ m o. or_true _ _ refl;
      }) won (told i.0)

  -- it goes, and nobody can reach the task any more
  goes_last : (found new : ℕ) → st.completed && not st.closed ≡ false → st.closed ≡ true → st.references ≡ 0
      → new ≡ pack (unhandled st) rests → Goes s id me (λ m'. leaves None st.awaiter me.1 m' × (m'.0.found ≡ found)
      × (m'.0.left ≡ new)) new
  goes_last found new e shut zeros is = by there_is.0 there_is.1 where
    quiet : calling r.post ≡ 0
    quiet = let c : reference_of me.0.hold + going r.body + calling r.post ≤ st.references = counted r id me at in omega (arith, c, zeros)

    there_is : (a : Option W) × (r.post ≡ lies a)
    there_is = alone r.post st quiet unspent.1 reached r.fits_post r.emptied

    by : (a : Option W) → r.post ≡ lies a → Goes s id me (λ m'. leaves None st.awaiter me.1 m' × (m'.0.found ≡ found)
        × (m'.0.left ≡ new)) new
    by (Some w) p = let k : FitsPost (lies (Some w)) st.awaiter st.registering st.notifying =
        subst (λ (z : Post W). FitsPost z st.awaiter st.registering st.notifying) p r.fits_post in
        let a : reference_of me.0.hold ≡ 0 = ap reference_of mine in let b : handle_of me.0.hold ≡ 1 = ap handle_of mine in
        let h : bit st.handle ≡ 1 = ap bit handled in
        let q : calling r.post ≡ 0 = quiet in let u : handling r.post ≡ 0 = unspent.1 in
        goes r id me at Emptying found new new (takes 1 (Some (Awaiter w))) (there_post r (Some (Awaiter w)) (ap home_awaiter p))
        (unhandled st) rests is r.body (held Emptying id)
        (record {
          fits = without_handle r.body st rests handled e r.fits;
          bounded = r.bounded;
          fits_post = k;
          emptied = (zeros, refl, shut);
          references = omega (arith, a, q);
          handle = omega (arith, b, h, u);
          place = taken_out_post r;
          mine = (tt, refl, tt);
          others = λ j ne hold z. z;
          others_post = post_from_free id r.post (held Emptying id) (ap holder_of p);
          over = λ l o. o;
        }) (λ m'. leaves None st.awaiter me.1 m' × (m'.0.found ≡ found) × (m'.0.left ≡ new)) (
          subst (λ (z : Bool). leaves None z me.1 (view Emptying found new, (1, Some (Awaiter w)) ∷ me.1)) (sym k.0) (w, (refl, refl)),
          refl,
          refl,
        )
    by None p = let k : FitsPost {W = W} (lies None) st.awaiter st.registering st.notifying =
        subst (λ (z : Post W). FitsPost z st.awaiter st.registering st.notifying) p r.fits_post in
        let a : reference_of me.0.hold ≡ 0 = ap reference_of mine in let b : handle_of me.0.hold ≡ 1 = ap handle_of mine in
        let h : bit st.handle ≡ 1 = ap bit handled in
        goes r id me at Nothing found new new keeps tt (unhandled st) rests is r.body r.post
        (record {
          fits = without_handle r.body st rests handled e r.fits;
          bounded = r.bounded;
          fits_post = r.fits_post;
          emptied = full r id me at (unhandled st) reached;
          references = omega (arith, a);
          handle = omega (arith, b, h);
          place = r.place;
          mine = (tt, tt, tt);
          others = λ j ne hold z. z;
          others_post = λ j ne hold z. z;
          over = λ l o. o;
        }) (λ m'. leaves None st.awaiter me.1 m' × (m'.0.found ≡ found) × (m'.0.left ≡ new))
        (subst (λ (z : Bool). leaves None z me.1 (view Nothing found new, me.1)) (sym k.0) (refl, refl), refl, refl)

module _ {F T W : Type 0} (n id : ℕ) (me : Known F T W) where
  module _ (old new : ℕ) (st : State) (rests : Bool) (is : pack st rests ≡ old) where
    detaches_by : (a b : Bool) → st.completed && not st.closed ≡ a → (st.references == 0) && not st.closed ≡ b → me.0.hold ≡ Handle
        → new ≡ pack (detach_by a b st).state rests → (s : St F T W) (r : Holds st rests s) → get_elem? s.views id ≡ some me.0
        → Goes s id me (Told let_go (detach_by a b st) me old new) new
    detaches_by true b ea eb mine next s r at = let q = both_true _ _ ea in
        takes_output r id me at mine old new q.0 (not_true _ q.1) next (Told let_go (detach_by true b st) me old new)
        (λ t. ((t, (refl, refl)), refl, refl))
    detaches_by false true ea eb mine next s r at = let q = both_true _ _ eb in
        let zeros : st.references ≡ 0 = eqb-true st.references 0 q.0 in let unshut : st.closed ≡ false = not_true _ q.1 in
        let c : reference_of me.0.hold + going r.body + calling r.post ≤ st.references = counted r id me at in
        let x : reference_of me.0.hold ≡ 0 = ap reference_of mine in let y : handle_of me.0.hold ≡ 1 = ap handle_of mine in
        let h : bit st.handle ≡ 1 = ap bit (handled r id me at mine) in
        let i = when_still r.body st rests (omega (arith, c, zeros)) (incomplete st.completed ea unshut) unshut r.fits in
        let f : Fits {T = T} (idle i.0) st rests = subst (λ (z : Body F T). Fits z st rests) i.1 r.fits in
        gets_runnable r id me at i.0 i.1 old new (record st { handle = false; scheduled = true; closed = true; references = 1 }) next
        (refl, f.1, f.2) (omega arith) r.fits_post (full_open r id me at _ unshut) (omega (arith, x, zeros)) (omega (arith, y, h))
        (λ m o. or_true _ _ refl)
        (Told let_go (detach_by false true st) me old new) ((refl, refl), refl, refl) where
          incomplete : (a : Bool) → a && not st.closed ≡ false → st.closed ≡ false → a ≡ false
          incomplete true e u = true_not (not_false st.closed e) u
          incomplete false e u = refl
    detaches_by false false ea eb mine next s r at = counts (st.references == 0) refl where
      counts : (z : Bool) → (st.references == 0) ≡ z → Goes s id me (Told let_go (detach_by false false st) me old new) new
      counts true e = let q = both_not _ _ eb e in
          subst (λ (z : Bool). Goes s id me (λ m'. leaves None (z && st.awaiter) me.1 m' × (m'.0.found ≡ old) × (m'.0.left ≡ new)) new)
          (sym e) (goes_last r id me at mine old new ea q (eqb-true st.references 0 e) next)
      counts false e = goes_bare r id me at mine old new ea next (some_left st.references e)
          (Told let_go (detach_by false false st) me old new)
          (subst (λ (z : Bool). leaves None (z && st.awaiter) me.1 (view Nothing old new, me.1)) (sym e) (refl, refl), refl, refl) where
            some_left : (k : ℕ) → (k == 0) ≡ false → 1 ≤ k
            some_left zero e2 = true_not refl e2
            some_left (suc k) e2 = omega arith

    pub detaches : me.0.hold ≡ Handle → new ≡ pack (moves.detach st).state rests
        → Allows (Cell {F = F} {T = T} {W = W}) n id me 0 (λ y. either (eqb y old) new y) (tries moves.detach let_go old new me)
    detaches mine next = swaps n id me old new moves.detach let_go st rests is next (detaches_by _ _ refl refl mine next)

  -- the output's place goes home, once it is empty
  pub spends : me.0.hold ≡ Spending → me.1 ≡ (0, None) ∷ [] → Allows (Cell {F = F} {T = T} {W = W}) n id me 0 (λ x. x) (spent me)
  spends mine out s c wide at small = let r = c.holds in let y : ℕ = get_or s.words 0 0 in
      let i = subst (λ (z : Hold). Knows r.body id z) mine (r.each_seat id me.0 at).0 in
      let k : FitsHold Spending c.state × (c.rests ≡ false) = subst (λ (z : Body F T). Fits z c.state c.rests) i r.fits in
      let g : going r.body ≡ 0 = ap going i in let u : spending r.body ≡ 1 = ap spending i in
      let a : reference_of me.0.hold ≡ 0 = ap reference_of mine in let b : handle_of me.0.hold ≡ 0 = ap handle_of mine in
      let h : handle_of me.0.hold + spending r.body + handling r.post ≤ bit c.state.handle = handle_counted r id me at in
      let l : c.state.references ≤ most + room r.body = r.bounded in let d : room r.body ≡ 1 = ap room i in
      goes r id me at Handle y y y gives tt c.state c.rests (shows r) gone r.post
      (record {
        fits = (k.0.0, k.0.1, k.0.3, k.1);
        bounded = omega (arith, l, d);
        fits_post = r.fits_post;
        emptied = full r id me at c.state (λ p q. true_not (set_bit c.state.handle (omega (arith, h, u))) q);
        references = omega (arith, g, a);
        handle = omega (arith, u, b);
        place = back r me.1 [] None out ∙ refl;
        mine = (tt, tt, tt);
        others = from_mine id r.body gone (ap holder i);
        others_post = λ j ne hold z. z;
        over = λ m o. o;
      }) (spent me y) ((refl, refl), (refl, refl))

-- ---- what a call answers
detached_few : (a b : Bool) (st : State) → st.references ≤ most + 1 → (detach_by a b st).state.references ≤ most + 2
detached_few true b st h = omega (arith, h)
detached_few false true st h = omega (arith, h)
detached_few false false st h = omega (arith, h)

pub few_detached : (st : State) (mv : Moved) → mv ≡ moves.detach st → st.references ≤ most + 1 → mv.state.references < 2 ^ 54
few_detached st mv its h = few_of st mv moves.detach its (detached_few _ _ st h)

-- with no slots before
pub gone_now : {F T W : Type 0} (mv : Moved) (m : Known F T W) (seat : Seat (Slot F T W) View) → m.1 ≡ [] → let_go mv m seat.me
    → LetGo mv.owed.drop_output mv.owed.schedule (leaves_awaiter mv) seat
gone_now {F} {T} {W} mv m seat e h = by mv.owed.drop_output h where
  by : (d : Bool) → lets_go d mv m seat.me → LetGo {F = F} {T = T} {W = W} d mv.owed.schedule (leaves_awaiter mv) seat
  by true k = (k.0, (k.1.0, k.1.1 ∙ ap (λ (z : List (ℕ × Slot F T W)). (0, Some (Output k.0)) ∷ z) e))
  by false k = subst (λ (z : List (ℕ × Slot F T W)). leaves mv.owed.schedule (leaves_awaiter mv) z seat.me) e k
