-- What keeps the rule of a task's word, whichever move is made.
use Rattle.std.proofs.Common.{◌≡◌, ◌≢◌, ℕ, zero, suc, ◌+◌, ◌≤◌, Bool, true, false, eqb, List, [], ◌∷◌, ◌++◌, get_or}
use Rattle.std.proofs.Common.{set, sym, refl, ap, ◌∙◌, subst, ⊎_elim, arith}
use mathlib.Core.Option.{none, some, some-injective, some-ne-none}
use mathlib.Core.Option as maybe
use lib.ListN.{get_elem?}
use prog.Atomic.{either}
use Rattle.std.specs.Prelude.{None}
use Rattle.atomic_table.specs.Table as table
use Rattle.atomic_table.specs.Table.{Act, keeps, takes, gives, chain, Valid, homes_after, put_back, carried_after, stepped, Allows}
use Rattle.atomic_table.specs.Table.{Enters, Splits, rest, opening}
use Rattle.atomic_table.proofs.Lists.{at_set, at_snoc, exchanged}
use Rattle.task_moves.specs.declared.moves.state.State.{State}
use Rattle.task_moves.specs.declared.moves.owed.Moved.{Moved}
use Rattle.task_moves.specs.Moves.{is_over}
use Rattle.task_word.specs.declared.rule.View.{View}
use Rattle.task_word.specs.declared.rule.Hold.{Hold}
use Rattle.task_word.specs.declared.rule.Hold.TheVariants.{Nothing, Reference, Leaving, Handle, Made, Queued, Running, Closing, Ending}
use Rattle.task_word.specs.declared.rule.Hold.TheVariants.{Filling, Spending, Registering, HandleNotifying, RunNotifying, Emptying}
use Rattle.task_word.specs.Word.{bit, pack}
use Rattle.task_word.specs.Cell.{Slot, Body, idle, resting, queued, taken, kept, gone, Post, lies, held, home, home_awaiter, going}
use Rattle.task_word.specs.Cell.{spending, calling, handling, room, most, weight, reference_of, handle_of, Fits, FitsPost}
use Rattle.task_word.specs.Cell.{Emptied, Knows, KnowsPost, KnowsState, Holds, Cell, total, handles}
use Rattle.task_word.specs.Steps.{view, Known, Sees, looked, looked_by, turns, tries, arrived, swapped}
use Rattle.task_word.proofs.Packs.{one_state}
use Rattle.task_word.proofs.Views.{total_set, total_last, total_has, handles_set, handles_last, handles_has}

abbrev pub St : Type 0 → Type 0 → Type 0 → Type 0
St F T W = table.State (Slot F T W) View

module _ {F T : Type 0} where
  -- the seat that has a right to the body, and one more
  abbrev pub holder : Body F T → ℕ
  holder (idle f) = 0
  holder (resting f) = 0
  holder (queued f j) = suc j
  holder (taken hold j) = suc j
  holder (kept t) = 0
  holder gone = 0

  -- a seat that hasn't the right knows nothing of the body
  pub none_if : (b b' : Body F T) (j : ℕ) → holder b ≢ suc j → (hold : Hold) → Knows b j hold → Knows b' j hold
  none_if b b' j not Nothing k = tt
  none_if b b' j not Reference k = tt
  none_if b b' j not Leaving k = tt
  none_if b b' j not Handle k = tt
  none_if b b' j not Made k = absurd (not (ap holder k.1))
  none_if b b' j not Queued k = absurd (not (ap holder k.1))
  none_if b b' j not Running k = absurd (not (ap holder k))
  none_if b b' j not Closing k = absurd (not (ap holder k))
  none_if b b' j not Ending k = absurd (not (ap holder k))
  none_if b b' j not Filling k = absurd (not (ap holder k))
  none_if b b' j not Spending k = absurd (not (ap holder k))
  none_if b b' j not Registering k = tt
  none_if b b' j not HandleNotifying k = tt
  none_if b b' j not RunNotifying k = tt
  none_if b b' j not Emptying k = tt

  -- who else has a right to the body keeps it
  abbrev pub Others : ℕ → Body F T → Body F T → Type 0
  Others id b b' = (j : ℕ) → j ≢ id → (hold : Hold) → Knows b j hold → Knows b' j hold

  pub from_free : (id : ℕ) (b b' : Body F T) → holder b ≡ 0 → Others id b b'
  from_free id b b' e j ne = none_if b b' j (λ c. let z : suc j ≡ 0 = sym c ∙ e in absurd (omega (arith, z)))

  pub from_mine : (id : ℕ) (b b' : Body F T) → holder b ≡ suc id → Others id b b'
  from_mine id b b' e j ne = none_if b b' j (λ c. ne (let z : suc id ≡ suc j = sym e ∙ c in omega arith))

  pub little : (b : Body F T) → room b ≤ 1
  little (idle f) = omega arith
  little (resting f) = omega arith
  little (queued f j) = omega arith
  little (taken hold j) = omega arith
  little (kept t) = omega arith
  little gone = omega arith

module _ {W : Type 0} where
  abbrev pub holder_of : Post W → ℕ
  holder_of (lies a) = 0
  holder_of (held hold j) = suc j

  pub none_if_post : (p p' : Post W) (j : ℕ) → holder_of p ≢ suc j → (hold : Hold) → KnowsPost p j hold → KnowsPost p' j hold
  none_if_post p p' j not Nothing k = tt
  none_if_post p p' j not Reference k = tt
  none_if_post p p' j not Leaving k = tt
  none_if_post p p' j not Handle k = tt
  none_if_post p p' j not Made k = tt
  none_if_post p p' j not Queued k = tt
  none_if_post p p' j not Running k = tt
  none_if_post p p' j not Closing k = tt
  none_if_post p p' j not Ending k = tt
  none_if_post p p' j not Filling k = tt
  none_if_post p p' j not Spending k = tt
  none_if_post p p' j not Registering k = absurd (not (ap holder_of k))
  none_if_post p p' j not HandleNotifying k = absurd (not (ap holder_of k))
  none_if_post p p' j not RunNotifying k = absurd (not (ap holder_of k))
  none_if_post p p' j not Emptying k = absurd (not (ap holder_of k))

  abbrev pub OthersPost : ℕ → Post W → Post W → Type 0
  OthersPost id p p' = (j : ℕ) → j ≢ id → (hold : Hold) → KnowsPost p j hold → KnowsPost p' j hold

  pub post_from_free : (id : ℕ) (p p' : Post W) → holder_of p ≡ 0 → OthersPost id p p'
  post_from_free id p p' e j ne = none_if_post p p' j (λ c. let z : suc j ≡ 0 = sym c ∙ e in absurd (omega (arith, z)))

  pub post_from_mine : (id : ℕ) (p p' : Post W) → holder_of p ≡ suc id → OthersPost id p p'
  post_from_mine id p p' e j ne = none_if_post p p' j (λ c. ne (let z : suc id ≡ suc j = sym e ∙ c in omega arith))

  -- a cell that somebody can reach isn't being emptied
  pub still_full : (p : Post W) (st st' : State) → (st.references ≡ 0 → st.handle ≡ false → st.closed ≡ true → ⊥) → Emptied p st
      → Emptied p st'
  still_full (lies a) st st' not k = tt
  still_full (held Nothing j) st st' not k = tt
  still_full (held Reference j) st st' not k = tt
  still_full (held Leaving j) st st' not k = tt
  still_full (held Handle j) st st' not k = tt
  still_full (held Made j) st st' not k = tt
  still_full (held Queued j) st st' not k = tt
  still_full (held Running j) st st' not k = tt
  still_full (held Closing j) st st' not k = tt
  still_full (held Ending j) st st' not k = tt
  still_full (held Filling j) st st' not k = tt
  still_full (held Spending j) st st' not k = tt
  still_full (held Registering j) st st' not k = tt
  still_full (held HandleNotifying j) st st' not k = tt
  still_full (held RunNotifying j) st st' not k = tt
  still_full (held Emptying j) st st' not k = absurd (not k.0 k.1 k.2)

-- a task that is over stays so while somebody has a reference
abbrev pub StaysOver : State → State → Type 0
StaysOver st st' = 1 ≤ st.references → is_over st ≡ true → is_over st' ≡ true

pub state_kept : (hold : Hold) (st st' : State) → StaysOver st st' → weight hold ≤ st.references → KnowsState st hold
    → KnowsState st' hold
state_kept Leaving st st' over l k = over l k
state_kept RunNotifying st st' over l k = over l k
state_kept Nothing st st' over l k = tt
state_kept Reference st st' over l k = tt
state_kept Handle st st' over l k = tt
state_kept Made st st' over l k = tt
state_kept Queued st st' over l k = tt
state_kept Running st st' over l k = tt
state_kept Closing st st' over l k = tt
state_kept Ending st st' over l k = tt
state_kept Filling st st' over l k = tt
state_kept Spending st st' over l k = tt
state_kept Registering st st' over l k = tt
state_kept HandleNotifying st st' over l k = tt
state_kept Emptying st st' over l k = tt

module _ {F T W : Type 0} where
  -- a step on the state's word, by which the seat has the view w
  abbrev pub Goes : St F T W → ℕ → Known F T W → (Known F T W → Type 0) → ℕ → Type 0
  Goes s id me won new = (w : View) × (a : Act (Slot F T W)) × Valid s.homes me.1 a × Cell (stepped s 0 new id me.1 w a)
      × won (w, carried_after me.1 a)

  -- what a seat has is counted
  weighs : (b : Body F T) (p : Post W) (j : ℕ) (hold : Hold) → Knows b j hold → KnowsPost p j hold
      → weight hold ≤ reference_of hold + going b + calling p
  weighs b p j Nothing k q = omega arith
  weighs b p j Reference k q = omega arith
  weighs b p j Leaving k q = omega arith
  weighs b p j Handle k q = omega arith
  weighs b p j Made k q = let g : going b ≡ 1 = ap going k.1 in omega arith
  weighs b p j Queued k q = let g : going b ≡ 1 = ap going k.1 in omega arith
  weighs b p j Running k q = let g : going b ≡ 1 = ap going k in omega arith
  weighs b p j Closing k q = let g : going b ≡ 1 = ap going k in omega arith
  weighs b p j Ending k q = let g : going b ≡ 1 = ap going k in omega arith
  weighs b p j Filling k q = omega arith
  weighs b p j Spending k q = omega arith
  weighs b p j Registering k q = omega arith
  weighs b p j HandleNotifying k q = omega arith
  weighs b p j RunNotifying k q = let g : calling p ≡ 1 = ap calling q in omega arith
  weighs b p j Emptying k q = omega arith

  pub weight_counted : {s : St F T W} {st : State} {rests : Bool} (r : Holds st rests s) (id : ℕ) (v : View)
      → get_elem? s.views id ≡ some v → weight v.hold ≤ st.references
  weight_counted {s} {st} r id v at = let k = r.each_seat id v at in
      let w : weight v.hold ≤ reference_of v.hold + going r.body + calling r.post = weighs r.body r.post id v.hold k.0 k.1 in
      let c : st.references ≡ total s.views + r.stored + going r.body + calling r.post = r.references in
      let m : reference_of v.hold ≤ total s.views = total_has s.views id v at in omega arith

  -- what the new body and the new awaiter's place have to fit
  pub record Next (st st' : State) (rests' : Bool) (body body' : Body F T) (post post' : Post W) (hold hold' : Hold) (id : ℕ)
      (homes' : List (maybe.Option (Slot F T W))) : Type 0 where
    pub fits : Fits body' st' rests'
    pub bounded : st'.references ≤ most + room body'
    pub fits_post : FitsPost post' st'.awaiter st'.registering st'.notifying
    pub emptied : Emptied post' st'
    pub references : st'.references + going body + calling post + reference_of hold ≡ st.references + going body' + calling post' +
        reference_of hold'
    pub handle : bit st'.handle + spending body + handling post + handle_of hold ≡ bit st.handle + spending body' + handling post' +
        handle_of hold'
    pub place : homes' ≡ home body' ∷ home_awaiter post' ∷ []
    pub mine : Knows body' id hold' × KnowsPost post' id hold' × KnowsState st' hold'
    pub others : Others id body body'
    pub others_post : OthersPost id post post'
    pub over : StaysOver st st'

  pub goes : {s : St F T W} {st : State} {rests : Bool} (r : Holds st rests s) (id : ℕ) (me : Known F T W)
      → get_elem? s.views id ≡ some me.0 → (hold' : Hold) (found left new : ℕ) (a : Act (Slot F T W)) → Valid s.homes me.1 a
      → (st' : State) (rests' : Bool) → new ≡ pack st' rests' → (body' : Body F T) (post' : Post W)
      → Next st st' rests' r.body body' r.post post' me.0.hold hold' id (homes_after s.homes me.1 a)
      → (won : Known F T W → Type 0) → won (view hold' found left, carried_after me.1 a) → Goes s id me won new
  goes {s} {st} r id me at hold' found left new a valid st' rests' is body' post' next won told = let w = view hold' found left in (
    w,
    a,
    valid,
    record {
      state = st';
      rests = rests';
      holds = record {
        stored = r.stored;
        parked = r.parked;
        body = body';
        post = post';
        fits = next.fits;
        bounded = next.bounded;
        fits_post = next.fits_post;
        emptied = next.emptied;
        word = ap (λ (ws : List ℕ). set ws 0 new) r.word ∙ ap (λ (z : ℕ). z ∷ r.stored ∷ r.parked ∷ []) is;
        references = let t : total (set s.views id w) + reference_of me.0.hold ≡ total s.views + reference_of hold' =
            total_set s.views id me.0 w at in
            let c : st.references ≡ total s.views + r.stored + going r.body + calling r.post = r.references in
            let m : st'.references + going r.body + calling r.post + reference_of me.0.hold ≡ st.references + going body' + calling post'
            + reference_of hold' = next.references in omega arith;
        handle = let t : handles (set s.views id w) + handle_of me.0.hold ≡ handles s.views + handle_of hold' =
            handles_set s.views id me.0 w at in
            let c : bit st.handle ≡ handles s.views + r.parked + spending r.body + handling r.post = r.handle in
            let m : bit st'.handle + spending r.body + handling r.post + handle_of me.0.hold ≡ bit st.handle + spending body' + handling
            post' + handle_of hold' = next.handle in omega arith;
        place = next.place;
        each_seat = λ j d e. ⊎_elim
            (λ t. subst (λ (z : View). Knows body' j z.hold × KnowsPost post' j z.hold × KnowsState st' z.hold) t.1
            (subst (λ (i : ℕ). Knows body' i hold' × KnowsPost post' i hold' × KnowsState st' hold') (sym t.0) next.mine))
            (λ t. let k = r.each_seat j d t.1 in (
              next.others j t.0 d.hold k.0,
              next.others_post j t.0 d.hold k.1,
              state_kept d.hold st st' next.over (weight_counted r j d t.1) k.2,
            ))
            (at_set s.views id j w d e);
      };
    },
    told,
  )

  pub shows : {s : St F T W} {st : State} {rests : Bool} (r : Holds st rests s) → get_or s.words 0 0 ≡ pack st rests
  shows r = ap (λ (ws : List ℕ). get_or ws 0 0) r.word

  -- ---- where the slots are after an act
  pub stays_there : {s : St F T W} {st : State} {rests : Bool} (r : Holds st rests s) (b : Body F T) → home {W = W} r.body ≡ home b
      → s.homes ≡ home b ∷ home_awaiter r.post ∷ []
  stays_there r b e = r.place ∙ ap (λ h. h ∷ home_awaiter r.post ∷ []) e

  pub there : {s : St F T W} {st : State} {rests : Bool} (r : Holds st rests s) (y : Slot F T W) → home r.body ≡ some y
      → get_elem? s.homes 0 ≡ some (some y)
  there r y e = ap (λ hs. get_elem? hs 0) r.place ∙ ap (λ (z : maybe.Option (Slot F T W)). some z) e

  pub there_post : {s : St F T W} {st : State} {rests : Bool} (r : Holds st rests s) (y : Slot F T W) → home_awaiter r.post ≡ some y
      → get_elem? s.homes 1 ≡ some (some y)
  there_post r y e = ap (λ hs. get_elem? hs 1) r.place ∙ ap (λ (z : maybe.Option (Slot F T W)). some z) e

  pub taken_out : {s : St F T W} {st : State} {rests : Bool} (r : Holds st rests s) → set s.homes 0 none ≡ none ∷ home_awaiter r.post ∷ []
  taken_out r = ap (λ hs. set hs 0 none) r.place

  pub taken_out_post : {s : St F T W} {st : State} {rests : Bool} (r : Holds st rests s) → set s.homes 1 none ≡ home r.body ∷ none ∷ []
  taken_out_post r = ap (λ hs. set hs 1 none) r.place

  pub back : {s : St F T W} {st : State} {rests : Bool} (r : Holds st rests s) (c c' : List (ℕ × Slot F T W)) (y : Slot F T W)
      → c ≡ (0, y) ∷ c' → put_back s.homes c ≡ some y ∷ home_awaiter r.post ∷ []
  back {s} r c c' y e = ap (λ z. put_back s.homes z) e ∙ ap (λ hs. set hs 0 (some y)) r.place

  pub back_post : {s : St F T W} {st : State} {rests : Bool} (r : Holds st rests s) (c c' : List (ℕ × Slot F T W)) (y : Slot F T W)
      → c ≡ (1, y) ∷ c' → put_back s.homes c ≡ home r.body ∷ some y ∷ []
  back_post {s} r c c' y e = ap (λ z. put_back s.homes z) e ∙ ap (λ hs. set hs 1 (some y)) r.place

  -- ---- what a seat has is counted
  pub counted : {s : St F T W} {st : State} {rests : Bool} (r : Holds st rests s) (id : ℕ) (me : Known F T W)
      → get_elem? s.views id ≡ some me.0 → reference_of me.0.hold + going r.body + calling r.post ≤ st.references
  counted {s} {st} r id me at = let c : st.references ≡ total s.views + r.stored + going r.body + calling r.post = r.references in
      let m : reference_of me.0.hold ≤ total s.views = total_has s.views id me.0 at in omega arith

  pub handle_counted : {s : St F T W} {st : State} {rests : Bool} (r : Holds st rests s) (id : ℕ) (me : Known F T W)
      → get_elem? s.views id ≡ some me.0 → handle_of me.0.hold + spending r.body + handling r.post ≤ bit st.handle
  handle_counted {s} {st} r id me at = let c : bit st.handle ≡ handles s.views + r.parked + spending r.body + handling r.post = r.handle in
      let m : handle_of me.0.hold ≤ handles s.views = handles_has s.views id me.0 at in omega arith

  sees : {s : St F T W} {st : State} {rests : Bool} (r : Holds st rests s) (id : ℕ) (me : Known F T W) → get_elem? s.views id ≡ some me.0
      → Sees me.0 (get_or s.words 0 0)
  sees {s} {st} {rests} r id me at st2 rests2 e = let same = one_state st st2 rests rests2 (sym (shows r) ∙ e) in
      let a : st.references ≡ st2.references = ap (λ (z : State). z.references) same.0 in (
        (let w = weight_counted r id me.0 at in omega (arith, a, w)),
        (let l : room r.body ≤ 1 = little r.body in let b : st.references ≤ most + room r.body = r.bounded in omega (arith, a, l, b)),
      )

  -- a step that leaves the state, and the seat as it was except the words that it keeps
  pub stays : {s : St F T W} {st : State} {rests : Bool} (r : Holds st rests s) (id : ℕ) (me : Known F T W) (found left new : ℕ)
      → new ≡ pack st rests → (won : Known F T W → Type 0) → get_elem? s.views id ≡ some me.0
      → won (view me.0.hold found left, me.1) → Goes s id me won new
  stays {s} {st} {rests} r id me found left new is won at told =
      goes r id me at me.0.hold found left new keeps tt st rests is r.body r.post
      (record {
        fits = r.fits;
        bounded = r.bounded;
        fits_post = r.fits_post;
        emptied = r.emptied;
        references = refl;
        handle =
            refl;
        place = r.place;
        mine = r.each_seat id me.0 at;
        others = λ j ne hold k. k;
        others_post = λ j ne hold k. k;
        over =
            λ l e. e;
      }) won told

  -- an exchange that makes a move: what is left to show is the case in which it succeeds
  pub swaps : (n id : ℕ) (me : Known F T W) (old new : ℕ) (move : State → Moved) (effect : Moved → Known F T W → Known F T W → Type 0)
      (st : State) (rests : Bool) → pack st rests ≡ old → new ≡ pack (move st).state rests
      → ((s : St F T W) (r : Holds st rests s) → get_elem? s.views id ≡ some me.0
      → Goes s id me (λ m'. effect (move st) me m' × (m'.0.found ≡ old) × (m'.0.left ≡ new)) new)
      → Allows (Cell {F = F} {T = T} {W = W}) n id me 0 (λ y. either (eqb y old) new y) (tries move effect old new me)
  swaps n id me old new move effect st rests is next hit s c wide at small = let y : ℕ = get_or s.words 0 0 in
      exchanged y old new (Goes s id me (tries move effect old new me y))
      (λ e. let same = one_state c.state st c.rests rests (sym (shows c.holds) ∙ e ∙ sym is) in
      let g = hit s (subst (λ (z : Bool). Holds st z s) same.1 (subst (λ (z : State). Holds z c.rests s) same.0 c.holds)) at in (
        g.0,
        g.1,
        g.2,
        g.3,
        (
          (λ _. (
            (λ st2 rests2 e2. let one = one_state st st2 rests rests2 (is ∙ e2) in
                subst (λ (z : State). (new ≡ pack (move z).state rests2) × effect (move z) me (g.0, carried_after me.1 g.1)) one.0
                (next ∙ ap (pack (move st).state) one.1, g.4.0)),
            (g.4.1, g.4.2),
          )),
          λ miss. absurd (miss e),
        ),
      ))
      (λ ne. stays c.holds id me y y y (shows c.holds) (tries move effect old new me y) at
      ((λ e. absurd (ne e)), λ _. ((refl, refl), (refl, refl))))

  -- the same of one that makes none
  pub exchanges : (n id : ℕ) (me : Known F T W) (old new : ℕ) (effect : Known F T W → Known F T W → Type 0) (st : State) (rests : Bool)
      → pack st rests ≡ old
      → ((s : St F T W) (r : Holds st rests s) → get_elem? s.views id ≡ some me.0
      → Goes s id me (λ m'. effect me m' × (m'.0.found ≡ old) × (m'.0.left ≡ new)) new)
      → Allows (Cell {F = F} {T = T} {W = W}) n id me 0 (λ y. either (eqb y old) new y) (swapped effect old new me)
  exchanges n id me old new effect st rests is hit s c wide at small = let y : ℕ = get_or s.words 0 0 in
      exchanged y old new (Goes s id me (swapped effect old new me y))
      (λ e. let same = one_state c.state st c.rests rests (sym (shows c.holds) ∙ e ∙ sym is) in
      let g = hit s (subst (λ (z : Bool). Holds st z s) same.1 (subst (λ (z : State). Holds z c.rests s) same.0 c.holds)) at in
      (g.0, g.1, g.2, g.3, ((λ _. (g.4.0, (g.4.1, g.4.2))), λ miss. absurd (miss e))))
      (λ ne. stays c.holds id me y y y (shows c.holds) (swapped effect old new me y) at
      ((λ e. absurd (ne e)), λ _. ((refl, refl), (refl, refl))))

  -- ---- loads
  pub looks : (n id : ℕ) (me : Known F T W) → Allows (Cell {F = F} {T = T} {W = W}) n id me 0 (λ x. x) (looked me)
  looks n id me s c wide at small = let y : ℕ = get_or s.words 0 0 in
      stays c.holds id me y y y (shows c.holds) (looked me y) at ((refl, refl), (refl, refl), sees c.holds id me at)

  -- a load after which a closed task is closed for the seat
  pub looks_by : (n id : ℕ) (me : Known F T W) (turn : Known F T W → Known F T W → Type 0)
      → ((s : St F T W) (st : State) (rests : Bool) (r : Holds st rests s) (new : ℕ) → get_elem? s.views id ≡ some me.0 → st.closed ≡ true
      → new ≡ pack st rests
      → Goes s id me (λ m'. turn me m' × (m'.0.found ≡ new) × (m'.0.left ≡ new)) new)
      → Allows (Cell {F = F} {T = T} {W = W}) n id me 0 (λ x. x) (looked_by turn me)
  looks_by n id me turn hit s c wide at small = by c.state.closed refl where
    y : ℕ
    y = get_or s.words 0 0

    turned : (b : Bool) (m' : Known F T W) → c.state.closed ≡ b → turns b turn me m' → (st : State) (rests : Bool) → y ≡ pack st rests
        → turns st.closed turn me m'
    turned b m' e t st rests is = let same = one_state c.state st c.rests rests (sym (shows c.holds) ∙ is) in
        subst (λ (z : Bool). turns z turn me m') (sym e ∙ ap (λ (z : State). z.closed) same.0) t

    by : (b : Bool) → c.state.closed ≡ b → Goes s id me (looked_by turn me y) y
    by false e = stays c.holds id me y y y (shows c.holds) (looked_by turn me y) at
        (turned false _ e (refl, refl), (refl, refl), sees c.holds id me at)
    by true e = let g = hit s c.state c.rests c.holds y at e (shows c.holds) in
        (g.0, g.1, g.2, g.3, (turned true _ e g.4.0, (g.4.1, g.4.2), sees c.holds id me at))

  pub enters : (n : ℕ) → Enters (Cell {F = F} {T = T} {W = W}) n 0 (λ x w. arrived {F = F} {T = T} {W = W} (w, []))
  enters n s c wide small = let w = view Nothing 0 0 in let r = c.holds in (
    w,
    record {
      state = c.state;
      rests = c.rests;
      holds = record {
        stored = r.stored;
        parked = r.parked;
        body = r.body;
        post = r.post;
        fits = r.fits;
        bounded = r.bounded;
        fits_post = r.fits_post;
        emptied = r.emptied;
        word = r.word;
        references = let t : total (s.views ++ w ∷ []) ≡ total s.views + 0 = total_last s.views w in
            let m : c.state.references ≡ total s.views + r.stored + going r.body + calling r.post = r.references in omega arith;
        handle = let t : handles (s.views ++ w ∷ []) ≡ handles s.views + 0 = handles_last s.views w in
            let m : bit c.state.handle ≡ handles s.views + r.parked + spending r.body + handling r.post = r.handle in omega arith;
        place = r.place;
        each_seat = λ j d e. ⊎_elim (λ t. r.each_seat j d t)
            (λ t. subst (λ (z : View). Knows r.body j z.hold × KnowsPost r.post j z.hold × KnowsState c.state z.hold) t (tt, tt, tt))
            (at_snoc s.views w d j e);
      };
    },
    (refl, refl),
  )

  -- a cell with no task
  pub starts : Cell {F = F} {T = T} {W = W} (opening (8 ∷ 0 ∷ 0 ∷ []) (None ∷ None ∷ []) (view Nothing 0 0))
  starts = record {
    state = record {
      scheduled = false;
      running = false;
      completed = false;
      closed = true;
      handle = false;
      awaiter = false;
      registering =
          false;
      notifying = false;
      references = 0;
    };
    rests = false;
    holds = record {
      stored = 0;
      parked = 0;
      body = gone;
      post = lies None;
      fits = (refl, refl, refl, refl);
      bounded = omega arith;
      fits_post = (refl, refl, refl);
      emptied = tt;
      word = refl;
      references = refl;
      handle = refl;
      place = refl;
      each_seat = λ j d e. first_is j d e;
    };
  } where
    vacant : State
    vacant = record {
      scheduled = false;
      running = false;
      completed = false;
      closed = true;
      handle = false;
      awaiter = false;
      registering =
          false;
      notifying = false;
      references = 0;
    }

    first_is : (j : ℕ) (d : View) → get_elem? (view Nothing 0 0 ∷ []) j ≡ some d
        → Knows {F = F} {T = T} gone j d.hold × KnowsPost {W = W} (lies None) j d.hold × KnowsState vacant d.hold
    first_is zero d e = subst (λ (z : View). Knows {F = F} {T = T} gone zero z.hold × KnowsPost {W = W} (lies None) zero z.hold
        × KnowsState vacant z.hold) (some-injective _ _ e) (tt, tt, tt)
    first_is (suc j) d e = absurd (some-ne-none d (sym e))
