-- How references and the handle rest in words of their own.
use Rattle.std.proofs.Common.{◌≡◌, ℕ, ◌+◌, ◌<◌, ◌≤◌, ◌^◌, ◌%◌, List, [], ◌∷◌, get_or, set, refl, sym, ap, subst, ⊎_elim, eqb, arith}
use mathlib.Core.Option.{some}
use lib.ListN.{get_elem?}
use prog.Atomic.{either}
use Rattle.atomic_table.specs.Table.{Act, keeps, Valid, carried_after, stepped, Allows}
use Rattle.atomic_table.proofs.Lists.{at_set, exchanged}
use Rattle.task_moves.specs.declared.moves.state.State.{State}
use Rattle.task_word.specs.declared.rule.View.{View}
use Rattle.task_word.specs.declared.rule.Hold.TheVariants.{Nothing, Reference, Handle}
use Rattle.task_word.specs.Word.{bit, pack}
use Rattle.task_word.specs.Cell.{Slot, going, spending, calling, handling, room, most, reference_of, handle_of}
use Rattle.task_word.specs.Cell.{Knows, KnowsPost, KnowsState, Cell, total, handles}
use Rattle.task_word.specs.Steps.{Known, stored_view, looked_stored, stored, redeemed, parked_view, looked_parked, parked, unparked}
use Rattle.task_word.proofs.Keeps.{St, little}
use Rattle.task_word.proofs.Packs.{bit_small}
use Rattle.task_word.proofs.Views.{total_set, handles_set}

plus_one : (y k : ℕ) → y ≡ k → k + 1 < 2 ^ 64 → (y + 1) % 2 ^ 64 ≡ k + 1
plus_one y k e small = omega arith

module _ {F T W : Type 0} where
  -- this many references and handles rest, where a seat has this view then, and knows of nothing else
  rests_of : {s : St F T W} (c : Cell s) (id : ℕ) (me : Known F T W) → get_elem? s.views id ≡ some me.0 → (w : View)
      → Knows c.holds.body id w.hold × KnowsPost c.holds.post id w.hold × KnowsState c.state w.hold → (k value many whole : ℕ)
      → set s.words k value ≡ pack c.state c.rests ∷ many ∷ whole ∷ []
      → many + reference_of w.hold ≡ c.holds.stored + reference_of me.0.hold
      → whole + handle_of w.hold ≡ c.holds.parked + handle_of me.0.hold → Cell (stepped s k value id me.1 w keeps)
  rests_of {s} c id me at w mine k value many whole words sum same = let r = c.holds in record {
    state = c.state;
    rests = c.rests;
    holds = record {
      stored = many;
      parked = whole;
      body = r.body;
      post = r.post;
      fits = r.fits;
      bounded = r.bounded;
      fits_post = r.fits_post;
      emptied = r.emptied;
      word = words;
      references = let t : total (set s.views id w) + reference_of me.0.hold ≡ total s.views + reference_of w.hold =
          total_set s.views id me.0 w at in
          let m : c.state.references ≡ total s.views + r.stored + going r.body + calling r.post = r.references in omega (arith, sum);
      handle = let t : handles (set s.views id w) + handle_of me.0.hold ≡ handles s.views + handle_of w.hold =
          handles_set s.views id me.0 w at in
          let m : bit c.state.handle ≡ handles s.views + r.parked + spending r.body + handling r.post = r.handle in omega (arith, same);
      place = r.place;
      each_seat = λ j d e. ⊎_elim
          (λ t. subst (λ (z : View). Knows r.body j z.hold × KnowsPost r.post j z.hold × KnowsState c.state z.hold) t.1
          (subst (λ (i : ℕ). Knows r.body i w.hold × KnowsPost r.post i w.hold × KnowsState c.state w.hold) (sym t.0) mine))
          (λ t. r.each_seat j d t.1)
          (at_set s.views id j w d e);
    };
  }

  -- the word of stored wakers changes
  stores_of : {s : St F T W} (c : Cell s) (id : ℕ) (me : Known F T W) → get_elem? s.views id ≡ some me.0 → (w : View)
      → Knows c.holds.body id w.hold × KnowsPost c.holds.post id w.hold × KnowsState c.state w.hold → (many : ℕ)
      → many + reference_of w.hold ≡ c.holds.stored + reference_of me.0.hold → handle_of w.hold ≡ handle_of me.0.hold
      → Cell (stepped s 1 many id me.1 w keeps)
  stores_of c id me at w mine many sum same = rests_of c id me at w mine 1 many many c.holds.parked
      (ap (λ (ws : List ℕ). set ws 1 many) c.holds.word) sum (ap (λ (z : ℕ). c.holds.parked + z) same)

  -- that of a stored handle
  parks_of : {s : St F T W} (c : Cell s) (id : ℕ) (me : Known F T W) → get_elem? s.views id ≡ some me.0 → (w : View)
      → Knows c.holds.body id w.hold × KnowsPost c.holds.post id w.hold × KnowsState c.state w.hold → (whole : ℕ)
      → reference_of w.hold ≡ reference_of me.0.hold → whole + handle_of w.hold ≡ c.holds.parked + handle_of me.0.hold
      → Cell (stepped s 2 whole id me.1 w keeps)
  parks_of c id me at w mine whole same sum = rests_of c id me at w mine 2 whole c.holds.stored whole
      (ap (λ (ws : List ℕ). set ws 2 whole) c.holds.word) (ap (λ (z : ℕ). c.holds.stored + z) same) sum

  counts : {s : St F T W} (c : Cell s) → get_or s.words 1 0 ≡ c.holds.stored
  counts c = ap (λ (ws : List ℕ). get_or ws 1 0) c.holds.word

  counts_parked : {s : St F T W} (c : Cell s) → get_or s.words 2 0 ≡ c.holds.parked
  counts_parked c = ap (λ (ws : List ℕ). get_or ws 2 0) c.holds.word

  few : {s : St F T W} (c : Cell s) → c.holds.stored + 1 < 2 ^ 64
  few {s} c = let r = c.holds in let l : room r.body ≤ 1 = little r.body in let b : c.state.references ≤ most + room r.body = r.bounded in
      let m : c.state.references ≡ total s.views + r.stored + going r.body + calling r.post = r.references in omega arith

  few_parked : {s : St F T W} (c : Cell s) → c.holds.parked + 1 < 2 ^ 64
  few_parked {s} c = let r = c.holds in let l : bit c.state.handle ≤ 1 = bit_small c.state.handle in
      let m : bit c.state.handle ≡ handles s.views + r.parked + spending r.body + handling r.post = r.handle in omega arith

  -- a step on a word, by which the seat has the view w
  abbrev pub Counts : St F T W → ℕ → Known F T W → (Known F T W → Type 0) → ℕ → ℕ → Type 0
  Counts s id me won k new = (w : View) × (a : Act (Slot F T W)) × Valid s.homes me.1 a × Cell (stepped s k new id me.1 w a)
      × won (w, carried_after me.1 a)

  module _ (n id : ℕ) (me : Known F T W) where
    pub looks_stored : Allows (Cell {F = F} {T = T} {W = W}) n id me 1 (λ x. x) (looked_stored me)
    looks_stored s c wide at small = let y : ℕ = get_or s.words 1 0 in let is : y ≡ c.holds.stored = counts c in (
      stored_view me.0.hold y me.0,
      keeps,
      tt,
      stores_of c id me at (stored_view me.0.hold y me.0) (c.holds.each_seat id me.0 at) y (omega (arith, is)) refl,
      ((refl, refl), refl),
    )

    pub stores : me.0.hold ≡ Reference → Allows (Cell {F = F} {T = T} {W = W}) n id me 1 (λ y. (y + 1) % 2 ^ 64) (λ _. stored me)
    stores mine s c wide at small = let y : ℕ = get_or s.words 1 0 in let is : y ≡ c.holds.stored = counts c in
        let a : reference_of me.0.hold ≡ 1 = ap reference_of mine in let b : handle_of me.0.hold ≡ 0 = ap handle_of mine in
        let more : (y + 1) % 2 ^ 64 ≡ c.holds.stored + 1 = plus_one y c.holds.stored is (few c) in (
          stored_view Nothing y me.0,
          keeps,
          tt,
          stores_of c id me at (stored_view Nothing y me.0) (tt, tt, tt) ((y + 1) % 2 ^ 64) (omega (arith, more, a)) (sym b),
          (refl, refl),
        )

    pub redeems : (old new : ℕ) → me.0.hold ≡ Nothing → new + 1 ≡ old
        → Allows (Cell {F = F} {T = T} {W = W}) n id me 1 (λ y. either (eqb y old) new y) (redeemed old me)
    redeems old new mine less s c wide at small = let y : ℕ = get_or s.words 1 0 in let is : y ≡ c.holds.stored = counts c in
        let a : reference_of me.0.hold ≡ 0 = ap reference_of mine in let b : handle_of me.0.hold ≡ 0 = ap handle_of mine in
        exchanged y old new (Counts s id me (redeemed old me y) 1)
        (λ e. (
          stored_view Reference y me.0,
          keeps,
          tt,
          stores_of c id me at (stored_view Reference y me.0) (tt, tt, tt) new (omega (arith, is, e, less, a)) (sym b),
          ((λ _. (refl, refl)), λ miss. absurd (miss e)),
        ))
        (λ ne. (
          stored_view me.0.hold y me.0,
          keeps,
          tt,
          stores_of c id me at (stored_view me.0.hold y me.0) (c.holds.each_seat id me.0 at) y (omega (arith, is)) refl,
          ((λ e. absurd (ne e)), λ _. (refl, refl)),
        ))

    pub looks_parked : Allows (Cell {F = F} {T = T} {W = W}) n id me 2 (λ x. x) (looked_parked me)
    looks_parked s c wide at small = let y : ℕ = get_or s.words 2 0 in let is : y ≡ c.holds.parked = counts_parked c in (
      parked_view me.0.hold y me.0,
      keeps,
      tt,
      parks_of c id me at (parked_view me.0.hold y me.0) (c.holds.each_seat id me.0 at) y refl (omega (arith, is)),
      ((refl, refl), refl),
    )

    pub parks : me.0.hold ≡ Handle → Allows (Cell {F = F} {T = T} {W = W}) n id me 2 (λ y. (y + 1) % 2 ^ 64) (λ _. parked me)
    parks mine s c wide at small = let y : ℕ = get_or s.words 2 0 in let is : y ≡ c.holds.parked = counts_parked c in
        let a : reference_of me.0.hold ≡ 0 = ap reference_of mine in let b : handle_of me.0.hold ≡ 1 = ap handle_of mine in
        let more : (y + 1) % 2 ^ 64 ≡ c.holds.parked + 1 = plus_one y c.holds.parked is (few_parked c) in (
          parked_view Nothing y me.0,
          keeps,
          tt,
          parks_of c id me at (parked_view Nothing y me.0) (tt, tt, tt) ((y + 1) % 2 ^ 64) (sym a) (omega (arith, more, b)),
          (refl, refl),
        )

    pub unparks : (old new : ℕ) → me.0.hold ≡ Nothing → new + 1 ≡ old
        → Allows (Cell {F = F} {T = T} {W = W}) n id me 2 (λ y. either (eqb y old) new y) (unparked old me)
    unparks old new mine less s c wide at small = let y : ℕ = get_or s.words 2 0 in let is : y ≡ c.holds.parked = counts_parked c in
        let a : reference_of me.0.hold ≡ 0 = ap reference_of mine in let b : handle_of me.0.hold ≡ 0 = ap handle_of mine in
        exchanged y old new (Counts s id me (unparked old me y) 2)
        (λ e. (
          parked_view Handle y me.0,
          keeps,
          tt,
          parks_of c id me at (parked_view Handle y me.0) (tt, tt, tt) new (sym a) (omega (arith, is, e, less, b)),
          ((λ _. (refl, refl)), λ miss. absurd (miss e)),
        ))
        (λ ne. (
          parked_view me.0.hold y me.0,
          keeps,
          tt,
          parks_of c id me at (parked_view me.0.hold y me.0) (c.holds.each_seat id me.0 at) y refl (omega (arith, is)),
          ((λ e. absurd (ne e)), λ _. (refl, refl)),
        ))
