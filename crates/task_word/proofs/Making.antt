-- The steps that make a task, and those by which its Runnable rests in the word, keep the rule.
use Rattle.std.proofs.Common.{◌≡◌, ℕ, ◌+◌, ◌%◌, ◌^◌, ◌<◌, ◌≤◌, Bool, true, false, eqb, [], ◌∷◌, ◌++◌, get_or, set, sym, refl}
use Rattle.std.proofs.Common.{ap, ◌∙◌, subst, ⊎_elim, arith}
use mathlib.Core.Option.{none, some}
use lib.ListN.{get_elem?}
use prog.Atomic.{either}
use Rattle.std.specs.Prelude.{Some, None}
use Rattle.atomic_table.specs.Table.{Allows, Splits, keeps, takes, gives}
use Rattle.atomic_table.proofs.Lists.{at_set, at_snoc}
use Rattle.task_moves.specs.declared.moves.state.State.{State}
use Rattle.task_moves.specs.Moves as moves
use Rattle.task_word.specs.declared.rule.View.{View}
use Rattle.task_word.specs.declared.rule.Hold.{Hold}
use Rattle.task_word.specs.declared.rule.Hold.TheVariants.{Nothing, Made, Queued, Filling}
use Rattle.task_word.specs.declared.rule.Content.TheVariants.{Future}
use Rattle.task_word.specs.Word.{bit, pack}
use Rattle.task_word.specs.Cell.{Body, resting, queued, taken, lies, home, home_awaiter, going, spending, calling}
use Rattle.task_word.specs.Cell.{handling, room, most, filling, reference_of, handle_of, Fits, Knows, KnowsPost, KnowsState}
use Rattle.task_word.specs.Cell.{Holds, Cell, total, handles}
use Rattle.task_word.specs.Steps.{Known, IsOver, swapped, reserved, filled, filled_detached, detached, rested, resumed}
use Rattle.task_word.specs.Steps.{runnable_of, handle_of_new}
use Rattle.task_word.proofs.Packs.{rests_at}
use Rattle.task_word.proofs.Views.{total_set, total_last, handles_set, handles_last}
use Rattle.task_word.proofs.Bodies.{when_gone, when_resting, unoccupied}
use Rattle.task_word.proofs.Keeps.{St, Goes, goes, exchanges, shows, holder, holder_of, from_free, from_mine, post_from_free, there}
use Rattle.task_word.proofs.Keeps.{back, taken_out, stays_there, counted, handle_counted}
use Rattle.task_word.proofs.Stepping.{referred, full}

module _ {F T W : Type 0} (n id : ℕ) (me : Known F T W) where
  pub reserves : (old new : ℕ) (st : State) (rests : Bool) → pack st rests ≡ old → me.0.hold ≡ Nothing → new ≡ pack filling false
      → IsOver st
      → Allows (Cell {F = F} {T = T} {W = W}) n id me 0 (λ y. either (eqb y old) new y) (swapped reserved old new me)
  reserves old new st rests is mine next over = exchanges n id me old new reserved st rests is (λ s r at.
      let zeros : st.references ≡ 0 = over.0.0 in let none_has : bit st.handle ≡ 0 = ap bit over.0.1 in
      let c : reference_of me.0.hold + going r.body + calling r.post ≤ st.references = counted r id me at in
      let hc : handle_of me.0.hold + spending r.body + handling r.post ≤ bit st.handle = handle_counted r id me at in
      let quiet : calling r.post ≡ 0 = omega (arith, c, zeros) in
      let unhandled : handling r.post ≡ 0 = omega (arith, hc, none_has) in
      let unspent : spending r.body ≡ 0 = omega (arith, hc, none_has) in
      let i = when_gone r.body st rests unspent over.1 over.2 over.3 r.fits in
      let p = unoccupied r.post st quiet unhandled over.4 r.fits_post in
      let g : going r.body ≡ 0 = ap going i in
      let a : reference_of me.0.hold ≡ 0 = ap reference_of mine in let b : handle_of me.0.hold ≡ 0 = ap handle_of mine in
      goes r id me at Filling old new new (takes 0 None) (there r None (ap home i)) filling false next (taken Filling id) (lies None)
      (record {
        fits = (refl, refl);
        bounded = omega arith;
        fits_post = (refl, refl, refl);
        emptied = tt;
        references = omega (arith, a, g, zeros, quiet);
        handle = omega (arith, b, unspent, none_has, unhandled);
        place = taken_out r ∙ ap (λ z. none ∷ z ∷ []) (ap home_awaiter p);
        mine = (refl, tt, tt);
        others = from_free id r.body (taken Filling id) (ap holder i);
        others_post = post_from_free id r.post (lies None) (ap holder_of p);
        over = λ l e. absurd (omega (arith, l, zeros));
      }) (λ m'. reserved me m' × (m'.0.found ≡ old) × (m'.0.left ≡ new)) ((refl, refl), refl, refl))

  pub fills : (f : F) (new : ℕ) → me.0.hold ≡ Filling → me.1 ≡ (0, Some (Future f)) ∷ [] → new ≡ pack moves.made false
      → Allows (Cell {F = F} {T = T} {W = W}) n id me 0 (λ _. new) (λ _. filled new me)
  fills f new mine has next s c wide at small = let q = subst (λ (z : Hold). Knows c.holds.body id z) mine
      (c.holds.each_seat id me.0 at).0 in
      let k = subst (λ (z : Body F T). Fits z c.state c.rests) q c.holds.fits in
      filled_of s (subst (λ (z : Bool). Holds filling z s) k.1 (subst (λ (z : State). Holds z c.rests s) k.0 c.holds)) at where
        filled_of : (s : St F T W) (r : Holds filling false s) → get_elem? s.views id ≡ some me.0 → Goes s id me (filled new me) new
        filled_of s r at = let i = subst (λ (z : Hold). Knows r.body id z) mine (r.each_seat id me.0 at).0 in
            let c : reference_of me.0.hold + going r.body + calling r.post ≤ 0 = counted r id me at in
            let hc : handle_of me.0.hold + spending r.body + handling r.post ≤ 0 = handle_counted r id me at in
            let quiet : calling r.post ≡ 0 = omega (arith, c) in
            let unhandled : handling r.post ≡ 0 = omega (arith, hc) in
            let p = unoccupied r.post filling quiet unhandled refl r.fits_post in
            let g : going r.body ≡ 0 = ap going i in let u : spending r.body ≡ 0 = ap spending i in
            let a : reference_of me.0.hold ≡ 0 = ap reference_of mine in let b : handle_of me.0.hold ≡ 0 = ap handle_of mine in
            goes r id me at Made (pack filling false) new new gives tt moves.made false next (queued f id) (lies None)
            (record {
              fits = (refl, refl, refl, refl);
              bounded = omega arith;
              fits_post = (refl, refl, refl);
              emptied = tt;
              references = omega (arith, a, g, quiet);
              handle = omega (arith, b, u, unhandled);
              place = back r me.1 [] (Some (Future f)) has ∙ ap (λ z. some (Some (Future f)) ∷ z ∷ []) (ap home_awaiter p);
              mine = ((f, refl), tt, tt);
              others = from_mine id r.body (queued f id) (ap holder i);
              others_post = post_from_free id r.post (lies None) (ap holder_of p);
              over = λ l e. absurd (omega (arith, l));
            }) (filled new me) ((refl, refl), (refl, refl))

  pub fills_detached : (f : F) (new : ℕ) → me.0.hold ≡ Filling → me.1 ≡ (0, Some (Future f)) ∷ [] → new ≡ pack detached false
      → Allows (Cell {F = F} {T = T} {W = W}) n id me 0 (λ _. new) (λ _. filled_detached new me)
  fills_detached f new mine has next s c wide at small = let q =
      subst (λ (z : Hold). Knows c.holds.body id z) mine (c.holds.each_seat id me.0 at).0 in
      let k = subst (λ (z : Body F T). Fits z c.state c.rests) q c.holds.fits in
      detached_of s (subst (λ (z : Bool). Holds filling z s) k.1 (subst (λ (z : State). Holds z c.rests s) k.0 c.holds)) at where
        detached_of : (s : St F T W) (r : Holds filling false s) → get_elem? s.views id ≡ some me.0
            → Goes s id me (filled_detached new me) new
        detached_of s r at = let i = subst (λ (z : Hold). Knows r.body id z) mine (r.each_seat id me.0 at).0 in
            let c : reference_of me.0.hold + going r.body + calling r.post ≤ 0 = counted r id me at in
            let hc : handle_of me.0.hold + spending r.body + handling r.post ≤ 0 = handle_counted r id me at in
            let quiet : calling r.post ≡ 0 = omega (arith, c) in
            let unhandled : handling r.post ≡ 0 = omega (arith, hc) in
            let p = unoccupied r.post filling quiet unhandled refl r.fits_post in
            let g : going r.body ≡ 0 = ap going i in let u : spending r.body ≡ 0 = ap spending i in
            let a : reference_of me.0.hold ≡ 0 = ap reference_of mine in let b : handle_of me.0.hold ≡ 0 = ap handle_of mine in
            goes r id me at Queued (pack filling false) new new gives tt detached false next (queued f id) (lies None)
            (record {
              fits = (refl, refl, refl, refl);
              bounded = omega arith;
              fits_post = (refl, refl, refl);
              emptied = tt;
              references = omega (arith, a, g, quiet);
              handle = omega (arith, b, u, unhandled);
              place = back r me.1 [] (Some (Future f)) has ∙ ap (λ z. some (Some (Future f)) ∷ z ∷ []) (ap home_awaiter p);
              mine = ((f, refl), tt, tt);
              others = from_mine id r.body (queued f id) (ap holder i);
              others_post = post_from_free id r.post (lies None) (ap holder_of p);
              over = λ l e. absurd (omega (arith, l));
            }) (filled_detached new me) ((refl, refl), (refl, refl))

  pub resumes : (old new : ℕ) (st : State) (rests : Bool) → pack st rests ≡ old → me.0.hold ≡ Nothing → new ≡ pack st false → rests ≡ true
      → Allows (Cell {F = F} {T = T} {W = W}) n id me 0 (λ y. either (eqb y old) new y) (swapped resumed old new me)
  resumes old new st rests is mine next lying = exchanges n id me old new resumed st rests is
      (λ s r at. let i = when_resting r.body st rests lying r.fits in
      let k : Fits {T = T} (resting i.0) st rests = subst (λ (z : Body F T). Fits z st rests) i.1 r.fits in
      let g : going r.body ≡ 1 = ap going i.1 in let u : spending r.body ≡ 0 = ap spending i.1 in
      let a : reference_of me.0.hold ≡ 0 = ap reference_of mine in let b : handle_of me.0.hold ≡ 0 = ap handle_of mine in
      let c : reference_of me.0.hold + going r.body + calling r.post ≤ st.references = counted r id me at in
      let l : st.references ≤ most + room r.body = r.bounded in let d : room r.body ≡ 1 = ap room i.1 in
      goes r id me at Queued old new new keeps tt st false next (queued i.0 id) r.post
      (record {
        fits = (k.0, k.1, k.2, refl);
        bounded = omega (arith, l, d);
        fits_post = r.fits_post;
        emptied = full r id me at st (referred st (omega (arith, c, g)));
        references = omega (arith, a, g);
        handle = omega (arith, b, u);
        place = stays_there r (queued i.0 id) (ap home i.1);
        mine = ((i.0, refl), tt, tt);
        others = from_free id r.body (queued i.0 id) (ap holder i.1);
        others_post = λ j ne hold z. z;
        over = λ m e. e;
      }) (λ m'. resumed me m' × (m'.0.found ≡ old) × (m'.0.left ≡ new)) ((refl, refl), refl, refl))

  pub rests_now : me.0.hold ≡ Queued → Allows (Cell {F = F} {T = T} {W = W}) n id me 0 (λ y. (y + 256) % 2 ^ 64) (λ _. rested me)
  rests_now mine s c wide at under = let r = c.holds in let y : ℕ = get_or s.words 0 0 in
      let i = subst (λ (z : Hold). Knows r.body id z) mine (r.each_seat id me.0 at).0 in
      let k : Fits {T = T} (queued i.0 id) c.state c.rests = subst (λ (z : Body F T). Fits z c.state c.rests) i.1 r.fits in
      let is : y ≡ pack c.state false = shows r ∙ ap (pack c.state) k.3 in
      let next : (y + 256) % 2 ^ 64 ≡ pack c.state true = ap (λ (z : ℕ). (z + 256) % 2 ^ 64) is
      ∙ rests_at c.state (subst (λ (z : ℕ). z < 18446744073709551616) is under) in
      let g : going r.body ≡ 1 = ap going i.1 in let u : spending r.body ≡ 0 = ap spending i.1 in
      let a : reference_of me.0.hold ≡ 0 = ap reference_of mine in let b : handle_of me.0.hold ≡ 0 = ap handle_of mine in
      let w : reference_of me.0.hold + going r.body + calling r.post ≤ c.state.references = counted r id me at in
      let l : c.state.references ≤ most + room r.body = r.bounded in let d : room r.body ≡ 1 = ap room i.1 in
      goes r id me at Nothing y ((y + 256) % 2 ^ 64) ((y + 256) % 2 ^ 64) keeps tt c.state true next (resting i.0) r.post
      (record {
        fits = (k.0, k.1, k.2, refl);
        bounded = omega (arith, l, d);
        fits_post = r.fits_post;
        emptied = full r id me at c.state (referred c.state (omega (arith, w, g)));
        references = omega (arith, a, g);
        handle = omega (arith, b, u);
        place = stays_there r (resting i.0) (ap home i.1);
        mine = (tt, tt, tt);
        others = from_mine id r.body (resting i.0) (ap holder i.1);
        others_post = λ j ne hold z. z;
        over = λ m e. e;
      }) (rested me) (refl, refl)

-- ---- a new task's handle goes to a seat of its own
module _ {F T W : Type 0} (id : ℕ) (v : View) where
  pub parts : v.hold ≡ Made → Splits (Cell {F = F} {T = T} {W = W}) id v (runnable_of v) (handle_of_new v)
  parts mine s c at = let r = c.holds in record {
    state = c.state;
    rests = c.rests;
    holds = record {
      stored = r.stored;
      parked = r.parked;
      body = r.body;
      post = r.post;
      fits = r.fits;
      bounded = r.bounded;
      fits_post = r.fits_post;
      emptied = r.emptied;
      word = r.word;
      references = let a : reference_of v.hold ≡ 0 = ap reference_of mine in
          let t : total (set s.views id (runnable_of v)) + reference_of v.hold ≡ total s.views + 0 =
          total_set s.views id v (runnable_of v) at in
          let l : total (set s.views id (runnable_of v) ++ handle_of_new v ∷ []) ≡ total (set s.views id (runnable_of v)) + 0 =
          total_last (set s.views id (runnable_of v)) (handle_of_new v) in
          let m : c.state.references ≡ total s.views + r.stored + going r.body + calling r.post = r.references in omega arith;
      handle = let a : handle_of v.hold ≡ 1 = ap handle_of mine in
          let t : handles (set s.views id (runnable_of v)) + handle_of v.hold ≡ handles s.views + 0 =
          handles_set s.views id v (runnable_of v) at in
          let l : handles (set s.views id (runnable_of v) ++ handle_of_new v ∷ []) ≡ handles (set s.views id (runnable_of v)) + 1 =
          handles_last (set s.views id (runnable_of v)) (handle_of_new v) in
          let m : bit c.state.handle ≡ handles s.views + r.parked + spending r.body + handling r.post = r.handle in omega arith;
      place = r.place;
      each_seat = λ j d e. ⊎_elim
          (λ t. ⊎_elim
          (λ u. subst (λ (z : View). Knows r.body j z.hold × KnowsPost r.post j z.hold × KnowsState c.state z.hold) u.1
          (subst (λ (i : ℕ). Knows r.body i Queued × KnowsPost r.post i Queued × KnowsState c.state Queued) (sym u.0)
          (subst (λ (z : Hold). Knows r.body id z) mine (r.each_seat id v at).0, tt, tt)))
          (λ u. r.each_seat j d u.1)
          (at_set s.views id j (runnable_of v) d t))
          (λ t. subst (λ (z : View). Knows r.body j z.hold × KnowsPost r.post j z.hold × KnowsState c.state z.hold) t (tt, tt, tt))
          (at_snoc (set s.views id (runnable_of v)) (handle_of_new v) d j e);
    };
  }
