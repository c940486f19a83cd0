-- What stays of the ring's rule when one place and one seat move.
use Rattle.std.proofs.Common.{◌≡◌, ℕ, suc, ◌+◌, ◌*◌, ◌%◌, ◌<◌, ◌≤◌, ◌≢◌, List, length, get_or, set, sym, refl, ap, ◌∙◌, subst, ⊎_elim}
use Rattle.std.proofs.Common.{le_trans, arith, length-set, get_or-set_other}
use mathlib.Core.Path.{Path}
use mathlib.Core.Option.{some}
use mathlib.Core.Option as maybe
use native.Mathlib.Nat.{add-mod_right}
use native.Mathlib.Decide.{ℕ_discrete}
use lib.ListN.{get_elem?}
use lib.Seq.{set-get_or}
use Rattle.std.specs.Prelude.{Option, None}
use Rattle.atomic_table.specs.Table.{State, keeps, stepped}
use Rattle.atomic_table.proofs.Lists.{at_set}
use Rattle.queue_steps.specs.Bounded.{word_at}
use Rattle.concurrent_queue.specs.BoundedRule.{Phase, free, writing, full, reading, forcing, swapping, up, back, Cell, InPhase, CellOk}
use Rattle.concurrent_queue.specs.BoundedRule.{Knows, Keeps, BoundedRule}
use Rattle.concurrent_queue.specs.declared.bounded.rule.Doing.{Doing}
use Rattle.concurrent_queue.specs.declared.bounded.rule.Stage.{Stage}
use Rattle.concurrent_queue.specs.declared.bounded.rule.Stage.TheVariants.{Idle, SawTail, SawHead, SawStamp, Writing, Reading, Forcing}
use Rattle.concurrent_queue.specs.declared.bounded.rule.Stage.TheVariants.{Swapping}

abbrev pick : {P : Type 0} → Dec P → Cell → Cell → Cell
pick (yes _) a b = a
pick (no _) a b = b

pub put : (ℕ → Cell) → ℕ → Cell → ℕ → Cell
put cells i c j = pick (ℕ_discrete j i) c (cells j)

-- what holds of the new cell at i, and of each other cell, holds after
at_put : (cells : ℕ → Cell) (i : ℕ) (c : Cell) (F : ℕ → Cell → Type 0) (j : ℕ) → F i c → (j ≢ i → F j (cells j)) → F j (put cells i c j)
unfolding put
at_put cells i c F j here other = go (ℕ_discrete j i)
  where
    go : (d : Dec (j ≡ i)) → F j (pick d c (cells j))
    go (yes e) = subst (λ (k : ℕ). F k c) (sym e) here
    go (no n) = other n

pub put_here : (cells : ℕ → Cell) (i : ℕ) (c : Cell) → Path Cell (put cells i c i) c
put_here cells i c = at_put cells i c (λ q x. q ≡ i → Path Cell x c) i (λ _. refl) (λ n. absurd (n refl)) refl

-- who has a place, if anyone: 0, or the seat's number and 1
abbrev pub holder : Phase → ℕ
holder free = 0
holder (writing j) = suc j
holder full = 0
holder (reading j) = suc j
holder (forcing j) = suc j
holder (swapping j) = suc j

abbrev pub rank : Cell → ℕ
rank c = 2 * c.0 + up c.1

pub at_most_one : (ph : Phase) → up ph ≤ 1
at_most_one free = omega arith
at_most_one (writing j) = omega arith
at_most_one full = omega arith
at_most_one (reading j) = omega arith
at_most_one (forcing j) = omega arith
at_most_one (swapping j) = omega arith

abbrev pub Homes : Type 0 → Type 0
Homes T = List (maybe.Option (Option T))

module _ {T : Type 0} where
  -- a place whose round has not been appended to is free
  pub is_free : (n pushed popped : ℕ) (homes : Homes T) (i p : ℕ) → popped ≤ pushed → pushed ≤ p → (ph : Phase)
      → InPhase n pushed popped homes i p ph
      → (ph ≡ free) × (get_elem? homes i ≡ some (some None))
  is_free n pushed popped homes i p a b free k = (refl, k.1)
  is_free n pushed popped homes i p a b (writing j) k = let l = k.1 in absurd (omega arith)
  is_free n pushed popped homes i p a b full k = let l = k.1 in absurd (omega arith)
  is_free n pushed popped homes i p a b (reading j) k = absurd (omega arith)
  is_free n pushed popped homes i p a b (forcing j) k = let l = k.0 in absurd (omega arith)
  is_free n pushed popped homes i p a b (swapping j) k = let l = k.1 in absurd (omega arith)

  -- one whose item was written and not taken is full
  pub is_full : (n pushed popped : ℕ) (homes : Homes T) (i p : ℕ) → popped ≤ p → (ph : Phase) → 1 ≤ up ph
      → InPhase n pushed popped homes i p ph
      → (ph ≡ full) × InPhase n pushed popped homes i p full
  is_full n pushed popped homes i p a free u k = absurd (omega arith)
  is_full n pushed popped homes i p a (writing j) u k = absurd (omega arith)
  is_full n pushed popped homes i p a full u k = (refl, k)
  is_full n pushed popped homes i p a (reading j) u k = absurd (omega arith)
  is_full n pushed popped homes i p a (forcing j) u k = let l = k.0 in absurd (omega arith)
  is_full n pushed popped homes i p a (swapping j) u k = absurd (omega arith)

  phase_stays : (n pushed popped pushed' popped' : ℕ) (homes homes' : Homes T) (j p : ℕ) → pushed ≤ pushed' → popped ≤ popped'
      → (pushed ≤ p → pushed' ≤ p) → (popped ≤ p → popped' ≤ p)
      → get_elem? homes' j ≡ get_elem? homes j → (ph : Phase) → InPhase n pushed popped homes j p ph
      → InPhase n pushed' popped' homes' j p ph
  phase_stays n pushed popped pushed' popped' homes homes' j p a b c d same free k = (c k.0, same ∙ k.1)
  phase_stays n pushed popped pushed' popped' homes homes' j p a b c d same (writing o) k = let l = k.1 in (d k.0, omega arith)
  phase_stays n pushed popped pushed' popped' homes homes' j p a b c d same full k = let l = k.1 in
      (d k.0, omega arith, (k.2.0, same ∙ k.2.1))
  phase_stays n pushed popped pushed' popped' homes homes' j p a b c d same (reading o) k = omega arith
  phase_stays n pushed popped pushed' popped' homes homes' j p a b c d same (forcing o) k = let l = k.0 in let h = k.1 in
      (omega arith, omega arith)
  phase_stays n pushed popped pushed' popped' homes homes' j p a b c d same (swapping o) k = let l = k.1 in (d k.0, omega arith)

  -- a place that a step does not touch
  cell_stays : (n m pushed popped pushed' popped' : ℕ) (words words' : List ℕ) (homes homes' : Homes T) (j : ℕ) (c : Cell)
      → pushed ≤ pushed' → popped ≤ popped'
      → ((q : ℕ) → q % n ≡ j → pushed ≤ q → pushed' ≤ q) → ((q : ℕ) → q % n ≡ j → popped ≤ q → popped' ≤ q)
      → get_or words' (j + 32) 0 ≡ get_or words (j + 32) 0 → get_elem? homes' j ≡ get_elem? homes j
      → CellOk n m pushed popped words homes j c → CellOk n m pushed' popped' words' homes' j c
  cell_stays n m pushed popped pushed' popped' words words' homes homes' j c a b hq tq word home k =
      let p : ℕ = c.0 in let l : p < popped + n = k.freed in
      record {
        shows = ap (λ (z : ℕ). z + back m c.1) word ∙ k.shows;
        lies = k.lies;
        freed = omega arith;
        waits = hq (p + n) (add-mod_right p n ∙ k.lies) k.waits;
        phase = phase_stays n pushed popped pushed' popped' homes homes' j p a b (hq p k.lies) (tq p k.lies) home c.1 k.phase;
      }

module _ (n m : ℕ) where
  longer_knows : (pushed popped pushed' popped' : ℕ) (j p i w x : ℕ) (c : Cell) → pushed ≤ pushed' → popped ≤ popped' → (st : Stage)
      → Knows n m pushed popped j p i w x c st
      → Knows n m pushed' popped' j p i w x c st
  longer_knows pushed popped pushed' popped' j p i w x c a b Idle k = tt
  longer_knows pushed popped pushed' popped' j p i w x c a b SawTail k = (le_trans k.0 a, k.1)
  longer_knows pushed popped pushed' popped' j p i w x c a b SawHead k = (le_trans k.0 b, k.1)
  longer_knows pushed popped pushed' popped' j p i w x c a b SawStamp k = (k.0, k.1, le_trans k.2 a, k.3, k.4, k.5)
  longer_knows pushed popped pushed' popped' j p i w x c a b Writing k = k
  longer_knows pushed popped pushed' popped' j p i w x c a b Reading k = k
  longer_knows pushed popped pushed' popped' j p i w x c a b Forcing k = k
  longer_knows pushed popped pushed' popped' j p i w x c a b Swapping k = k

  -- what another seat knows of a place that it does not have stays so while the place goes on
  moved_knows : (pushed popped : ℕ) (j p i w x : ℕ) (c c' : Cell) → c.0 ≤ c'.0 → rank c ≤ rank c' → holder c.1 ≢ suc j → (st : Stage)
      → Knows n m pushed popped j p i w x c st
      → Knows n m pushed popped j p i w x c' st
  moved_knows pushed popped j p i w x c c' a b o Idle k = tt
  moved_knows pushed popped j p i w x c c' a b o SawTail k = k
  moved_knows pushed popped j p i w x c c' a b o SawHead k = k
  moved_knows pushed popped j p i w x c c' a b o SawStamp k =
      let q : ℕ = c.0 in let q' : ℕ = c'.0 in let u : ℕ = up c.1 in let u' : ℕ = up c'.1 in let more : 2 * q + u ≤ 2 * q' + u' = b in
      (k.0, k.1, k.2, (λ e. le_trans (k.3 e) a), (λ e. le_trans (k.4 e) b), λ e. let l : 2 * p + 1 ≤ 2 * (q + n) + u = k.5 e in omega arith)
  moved_knows pushed popped j p i w x c c' a b o Writing k = absurd (o (ap (λ (z : Cell). holder z.1) k.2))
  moved_knows pushed popped j p i w x c c' a b o Reading k = absurd (o (ap (λ (z : Cell). holder z.1) k.2))
  moved_knows pushed popped j p i w x c c' a b o Forcing k = absurd (o (ap (λ (z : Cell). holder z.1) k.2.2))
  moved_knows pushed popped j p i w x c c' a b o Swapping k = absurd (o (ap (λ (z : Cell). holder z.1) k.2))

  abbrev pub Seats : ℕ → ℕ → (ℕ → Cell) → List Doing → Type 0
  Seats pushed popped cells vs = (j : ℕ) (d : Doing) → get_elem? vs j ≡ some d
      → Knows n m pushed popped j d.at d.place d.word d.stamp (cells d.place) d.stage

  pub seats_stay : (pushed popped : ℕ) (cells : ℕ → Cell) (vs : List Doing) (me : ℕ) (w : Doing)
      → Knows n m pushed popped me w.at w.place w.word w.stamp (cells w.place) w.stage
      → ((j : ℕ) (d : Doing) → j ≢ me → get_elem? vs j ≡ some d
      → Knows n m pushed popped j d.at d.place d.word d.stamp (cells d.place) d.stage) → Seats pushed popped cells (set vs me w)
  seats_stay pushed popped cells vs me w mine others j d e =
      ⊎_elim (λ (x : (j ≡ me) × (w ≡ d)). subst
      (λ (y : ℕ × Doing). Knows n m pushed popped y.0 y.1.at y.1.place y.1.word y.1.stamp (cells y.1.place) y.1.stage)
      (λ i. (sym x.0 i, x.1 i)) mine)
      (λ (x : (j ≢ me) × (get_elem? vs j ≡ some d)). others j d x.0 x.1) (at_set vs me j w d e)

  -- the place i goes on to c', by the seat that has it or by one that takes it
  seats_move : (pushed popped pushed' popped' : ℕ) (cells : ℕ → Cell) (i : ℕ) (c' : Cell) (vs : List Doing) (me : ℕ) (w : Doing)
      → pushed ≤ pushed' → popped ≤ popped' → (cells i).0 ≤ c'.0 → rank (cells i) ≤ rank c'
      → ((j : ℕ) → j ≢ me → holder (cells i).1 ≢ suc j)
      → Knows n m pushed' popped' me w.at w.place w.word w.stamp (put cells i c' w.place) w.stage → Seats pushed popped cells vs
      → Seats pushed' popped' (put cells i c') (set vs me w)
  seats_move pushed popped pushed' popped' cells i c' vs me w hh tt' a b loose mine old =
      seats_stay pushed' popped' (put cells i c') vs me w mine (λ j d other e.
      let k = longer_knows pushed popped pushed' popped' j d.at d.place d.word d.stamp (cells d.place) hh tt' d.stage (old j d e) in
      at_put cells i c' (λ q c. q ≡ d.place → Knows n m pushed' popped' j d.at d.place d.word d.stamp c d.stage) d.place
      (λ is. moved_knows pushed' popped' j d.at d.place d.word d.stamp (cells i) c' a b (loose j other) d.stage
      (subst (λ (q : ℕ). Knows n m pushed' popped' j d.at d.place d.word d.stamp (cells q) d.stage) (sym is) k)) (λ _ _. k) refl)

-- what every view keeps, where one of them changes
pub views_keep : (m shut shut' : ℕ) (vs : List Doing) (me : ℕ) (w : Doing) → Keeps m shut' w → (shut ≡ 1 → shut' ≡ 1)
    → ((j : ℕ) (d : Doing) → get_elem? vs j ≡ some d → Keeps m shut d)
    → (j : ℕ) (d : Doing) → get_elem? (set vs me w) j ≡ some d → Keeps m shut' d
views_keep m shut shut' vs me w mine stays old j d e =
    ⊎_elim (λ (x : (j ≡ me) × (w ≡ d)). subst (Keeps m shut') x.1 mine) (λ (x : (j ≢ me) × (get_elem? vs j ≡ some d)). let k =
    old j d x.1 in (k.0, λ knew. stays (k.1 knew))) (at_set vs me j w d e)

abbrev pub St : Type 0 → Type 0
St T = State (Option T) Doing

module _ {T : Type 0} (n m : ℕ) where
  -- only the views change
  pub reviewed : (s : St T) (r : BoundedRule n m s) (vs : List Doing) → Seats n m r.pushed r.popped r.cells vs
      → ((j : ℕ) (d : Doing) → get_elem? vs j ≡ some d → Keeps m r.shut d)
      → BoundedRule n m record { words = s.words; homes = s.homes; views = vs }
  reviewed s r vs seats keep = record {
    shape = r.shape;
    pushed = r.pushed;
    popped = r.popped;
    shut = r.shut;
    cells = r.cells;
    shut_once = r.shut_once;
    places = r.places;
    wide = r.wide;
    tail_is = r.tail_is;
    head_is = r.head_is;
    behind = r.behind;
    within = r.within;
    each_cell = r.each_cell;
    each_seat = seats;
    each_view = keep;
  }

  -- a step that changes no word and no place
  pub unmoved : (s : St T) (r : BoundedRule n m s) (i me : ℕ) (cs : List (ℕ × Option T)) (w : Doing)
      → Knows n m r.pushed r.popped me w.at w.place w.word w.stamp (r.cells w.place) w.stage → Keeps m r.shut w
      → BoundedRule n m (stepped s i (get_or s.words i 0) me cs w keeps)
  unmoved s r i me cs w mine keep =
      subst (λ (ws : List ℕ). BoundedRule n m record { words = ws; homes = s.homes; views = set s.views me w })
      (sym (set-get_or s.words i 0))
      (reviewed s r (set s.views me w) (seats_stay n m r.pushed r.popped r.cells s.views me w mine (λ j d _. r.each_seat j d))
      (views_keep m r.shut r.shut s.views me w keep (λ e. e) r.each_view))

  -- a step on the place i: the counts may go up by one at that place's turn
  pub moved : (s : St T) (r : BoundedRule n m s) (k x i me pushed' popped' : ℕ) (c' : Cell) (homes' : Homes T) (w : Doing)
      → length homes' ≡ n
      → get_or (set s.words k x) 0 0 ≡ word_at n m pushed' + r.shut * m → get_or (set s.words k x) 16 0 ≡ word_at n m popped'
      → popped' ≤ pushed' → pushed' ≤ popped' + n → r.pushed ≤ pushed' → r.popped ≤ popped'
      → ((q : ℕ) → q % n ≢ i → r.pushed ≤ q → pushed' ≤ q) → ((q : ℕ) → q % n ≢ i → r.popped ≤ q → popped' ≤ q)
      → ((j : ℕ) → j ≢ i → j + 32 ≢ k) → ((j : ℕ) → j ≢ i → get_elem? homes' j ≡ get_elem? s.homes j)
      → CellOk n m pushed' popped' (set s.words k x) homes' i c'
      → (r.cells i).0 ≤ c'.0 → rank (r.cells i) ≤ rank c' → ((j : ℕ) → j ≢ me → holder (r.cells i).1 ≢ suc j)
      → Knows n m pushed' popped' me w.at w.place w.word w.stamp (put r.cells i c' w.place) w.stage → Keeps m r.shut w
      → BoundedRule n m record { words = set s.words k x; homes = homes'; views = set s.views me w }
  moved s r k x i me pushed' popped' c' homes' w places e₀ e₁ behind within a b hq tq apart home here c d loose mine keep =
      let words' : List ℕ = set s.words k x in let cells' : ℕ → Cell = put r.cells i c' in record {
        shape = r.shape;
        pushed = pushed';
        popped = popped';
        shut = r.shut;
        cells = cells';
        shut_once = r.shut_once;
        places = places;
        wide = length-set s.words k x ∙ r.wide;
        tail_is = e₀;
        head_is = e₁;
        behind = behind;
        within = within;
        each_cell = λ j l. at_put r.cells i c' (CellOk n m pushed' popped' words' homes') j here (λ other.
            cell_stays n m r.pushed r.popped pushed' popped' s.words words' s.homes homes' j (r.cells j) a b
            (λ q e. hq q (λ is. other (sym e ∙ is))) (λ q e. tq q (λ is. other (sym e ∙ is)))
            (get_or-set_other s.words k (j + 32) x 0 (apart j other)) (home j other) (r.each_cell j l));
        each_seat = seats_move n m r.pushed r.popped pushed' popped' r.cells i c' s.views me w a b c d loose mine r.each_seat;
        each_view = views_keep m r.shut r.shut s.views me w keep (λ e. e) r.each_view;
      }

  pub knows : (s : St T) (r : BoundedRule n m s) (id : ℕ) (v : Doing) (st : Stage) → get_elem? s.views id ≡ some v → v.stage ≡ st
      → Knows n m r.pushed r.popped id v.at v.place v.word v.stamp (r.cells v.place) st
  knows s r id v st at e = subst (Knows n m r.pushed r.popped id v.at v.place v.word v.stamp (r.cells v.place)) e (r.each_seat id v at)
