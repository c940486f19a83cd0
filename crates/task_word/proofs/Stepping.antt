-- The patterns of a step: a reference goes, an idle task has a Runnable then, nobody can reach the task any more.
use Rattle.std.proofs.Common.{◌≡◌, ℕ, ◌+◌, ◌-◌, ◌≤◌, Bool, true, false, ◌∷◌, ◌||◌, ◌&&◌, ◌==◌, not, sym, refl, ap, ◌∙◌, subst, arith}
use mathlib.Core.Option.{some}
use lib.ListN.{get_elem?}
use Rattle.std.specs.Prelude.{Option, Some, None}
use Rattle.atomic_table.specs.Table.{keeps, takes}
use Rattle.task_moves.specs.declared.moves.state.State.{State}
use Rattle.task_moves.specs.declared.moves.owed.Moved.{Moved}
use Rattle.task_moves.specs.Moves.{is_over, is_last}
use Rattle.task_word.specs.declared.rule.Content.TheVariants.{Awaiter}
use Rattle.task_word.specs.declared.rule.Hold.TheVariants.{Nothing, Queued, Emptying}
use Rattle.task_word.specs.Word.{bit, pack}
use Rattle.task_word.specs.Cell.{Body, idle, queued, kept, Post, lies, held, home, home_awaiter, going, spending, calling, handling, room}
use Rattle.task_word.specs.Cell.{most, reference_of, handle_of, Fits, FitsPost, Emptied, Holds}
use Rattle.task_word.specs.Steps.{view, Known, is_dead, leaves}
use Rattle.task_word.proofs.Views.{true_not, last_is, last_has_no_handle}
use Rattle.task_word.proofs.Bodies.{Reachable, counting, with_references, when_kept, alone}
use Rattle.task_word.proofs.Keeps.{St, Goes, StaysOver, goes, holder, holder_of, from_free, post_from_free, still_full, stays_there}
use Rattle.task_word.proofs.Keeps.{there_post, taken_out_post, counted, handle_counted}

-- the effect of a move, and the words that the seat keeps of it
abbrev pub Told : {F T W : Type 0} → (Moved → Known F T W → Known F T W → Type 0) → Moved → Known F T W → ℕ → ℕ → Known F T W → Type 0
Told effect mv me old new m' = effect mv me m' × (m'.0.found ≡ old) × (m'.0.left ≡ new)

pub alive : (st : State) → is_dead st ≡ false → Reachable st
alive st e a b = true_not (ap (λ (z : ℕ). (z == 0) && not st.handle) a ∙ ap (λ (z : Bool). not z) b) e

pub referred : (st : State) → 1 ≤ st.references → Reachable st
referred st l a b = absurd (omega (arith, l, a))

-- a task that is over and has no handle is closed
pub closed_of : {F T : Type 0} (b : Body F T) (s : State) (rests : Bool) → is_over s ≡ true → s.handle ≡ false → Fits b s rests
    → s.closed ≡ true
closed_of {F} {T} b s rests o h k = by s.closed refl where
  completed_of : (a c : Bool) → a || c ≡ true → c ≡ false → a ≡ true
  completed_of true c e f = refl
  completed_of false c e f = true_not e f

  by : (c : Bool) → s.closed ≡ c → s.closed ≡ true
  by true e = e
  by false e = let i = when_kept b s rests (completed_of _ _ o e) e k in
      let f : Fits {F = F} (kept i.0) s rests = subst (λ (z : Body F T). Fits z s rests) i.1 k in true_not f.4 h

module _ {F T W : Type 0} {s : St F T W} {st : State} {rests : Bool} (r : Holds st rests s) (id : ℕ) (me : Known F T W)
    (at : get_elem? s.views id ≡ some me.0) where
  -- a cell that isn't closed, or that somebody can reach, isn't being emptied
  pub full_open : (st' : State) → st.closed ≡ false → Emptied r.post st'
  full_open st' c = still_full r.post st st' (λ a b d. true_not d c) r.emptied

  pub full : (st' : State) → Reachable st → Emptied r.post st'
  full st' t = still_full r.post st st' (λ a b d. t a b) r.emptied

  -- the seat's reference goes, and others are left
  pub drops_one : reference_of me.0.hold ≡ 1 → handle_of me.0.hold ≡ 0 → (found new : ℕ)
      → new ≡ pack (counting (st.references - 1) st) rests → (won : Known F T W → Type 0) → won (view Nothing found new, me.1)
      → Goes s id me won new
  drops_one one none found new is won told = let c : reference_of me.0.hold + going r.body + calling r.post ≤ st.references =
      counted r id me at in
      let l : 1 ≤ st.references = omega (arith, c, one) in
      let b : st.references ≤ most + room r.body = r.bounded in
      goes r id me at Nothing found new new keeps tt (counting (st.references - 1) st) rests is r.body r.post
      (record {
        fits = with_references r.body st rests (st.references - 1) (referred st l) r.fits;
        bounded = omega (arith, b);
        fits_post = r.fits_post;
        emptied = full (counting (st.references - 1) st) (referred st l);
        references = omega (arith, l, one);
        handle = omega (arith, none);
        place = r.place;
        mine = (tt, tt, tt);
        others = λ j ne hold k. k;
        others_post = λ j ne hold k. k;
        over = λ m o. o;
      }) won told

  -- an idle task has a Runnable then, which the seat has
  pub gets_runnable : (f : F) → r.body ≡ idle f → (found new : ℕ) (st' : State) → new ≡ pack st' rests
      → (st'.scheduled ≡ true) × (st'.running ≡ false) × (st'.completed ≡ false)
      → st'.references ≤ most + 1 → FitsPost r.post st'.awaiter st'.registering st'.notifying → Emptied r.post st'
      → st'.references + reference_of me.0.hold ≡ st.references + 1 → bit st'.handle + handle_of me.0.hold ≡ bit st.handle
      → StaysOver st st'
      → (won : Known F T W → Type 0) → won (view Queued found new, me.1) → Goes s id me won new
  gets_runnable f i found new st' is marks bound post emptied many one over won told = let g : going r.body ≡ 0 = ap going i in
      let p : spending r.body ≡ 0 = ap spending i in
      let k : Fits {T = T} (idle f) st rests = subst (λ (z : Body F T). Fits z st rests) i r.fits in
      goes r id me at Queued found new new keeps tt st' rests is (queued f id) r.post
      (record {
        fits = (marks.0, marks.1, marks.2, k.4);
        bounded = bound;
        fits_post = post;
        emptied = emptied;
        references = omega (arith, g, many);
        handle = omega (arith, p, one);
        place = stays_there r (queued f id) (ap home i);
        mine = ((f, refl), tt, tt);
        others = from_free id r.body (queued f id) (ap holder i);
        others_post = λ j ne hold k. k;
        over = over;
      }) won told

  -- the last reference of a task that is over goes, and its awaiter may be left
  pub drops_last : reference_of me.0.hold ≡ 1 → handle_of me.0.hold ≡ 0 → is_over st ≡ true → is_last st ≡ true → (found new : ℕ)
      → new ≡ pack (counting 0 st) rests
      → Goes s id me (λ m'. leaves None st.awaiter me.1 m' × (m'.0.found ≡ found) × (m'.0.left ≡ new)) new
  drops_last one none over last found new is = by there.0 there.1 where
    single : st.references ≡ 1
    single = last_is st last

    no_handle : st.handle ≡ false
    no_handle = last_has_no_handle st last

    quiet : calling r.post ≡ 0
    quiet = let c : reference_of me.0.hold + going r.body + calling r.post ≤ st.references = counted r id me at in
        omega (arith, c, one, single)

    unhandled : handling r.post ≡ 0
    unhandled = let c : handle_of me.0.hold + spending r.body + handling r.post ≤ bit st.handle = handle_counted r id me at in
        let b : bit st.handle ≡ 0 = ap bit no_handle in omega (arith, c, b)

    reach : Reachable st
    reach = referred st (omega (arith, single))

    there : (a : Option W) × (r.post ≡ lies a)
    there = alone r.post st quiet unhandled reach r.fits_post r.emptied

    by : (a : Option W) → r.post ≡ lies a → Goes s id me (λ m'. leaves None st.awaiter me.1 m' × (m'.0.found ≡ found)
        × (m'.0.left ≡ new)) new
    by (Some w) e = let k : FitsPost (lies (Some w)) st.awaiter st.registering st.notifying =
        subst (λ (z : Post W). FitsPost z st.awaiter st.registering st.notifying) e r.fits_post in
        goes r id me at Emptying found new new (takes 1 (Some (Awaiter w))) (there_post r (Some (Awaiter w)) (ap home_awaiter e))
        (counting 0 st) rests is r.body (held Emptying id)
        (record {
          fits = with_references r.body st rests 0 reach r.fits;
          bounded = omega arith;
          fits_post = k;
          emptied = (refl, no_handle, closed_of r.body st rests over no_handle r.fits);
          references = let q : calling r.post ≡ 0 = quiet in let t : st.references ≡ 1 = single in omega (arith, one, q, t);
          handle = let u : handling r.post ≡ 0 = unhandled in omega (arith, none, u);
          place = taken_out_post r;
          mine = (tt, refl, tt);
          others = λ j ne hold k. k;
          others_post = post_from_free id r.post (held Emptying id) (ap holder_of e);
          over = λ m o. o;
        }) (λ m'. leaves None st.awaiter me.1 m' × (m'.0.found ≡ found) × (m'.0.left ≡ new)) (
          subst (λ (z : Bool). leaves None z me.1 (view Emptying found new, (1, Some (Awaiter w)) ∷ me.1)) (sym k.0) (w, (refl, refl)),
          refl,
          refl,
        )
    by None e = let k : FitsPost {W = W} (lies None) st.awaiter st.registering st.notifying =
        subst (λ (z : Post W). FitsPost z st.awaiter st.registering st.notifying) e r.fits_post in
        goes r id me at Nothing found new new keeps tt (counting 0 st) rests is r.body r.post
        (record {
          fits = with_references r.body st rests 0 reach r.fits;
          bounded = omega arith;
          fits_post = r.fits_post;
          emptied = full (counting 0 st) reach;
          references = let t : st.references ≡ 1 = single in omega (arith, one, t);
          handle = omega (arith, none);
          place = r.place;
          mine = (tt, tt, tt);
          others = λ j ne hold k. k;
          others_post = λ j ne hold k. k;
          over = λ m o. o;
        }) (λ m'. leaves None st.awaiter me.1 m' × (m'.0.found ≡ found) × (m'.0.left ≡ new))
        (subst (λ (z : Bool). leaves None z me.1 (view Nothing found new, me.1)) (sym k.0) (refl, refl), refl, refl)
