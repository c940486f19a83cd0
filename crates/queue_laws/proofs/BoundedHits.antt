-- The exchanges of a ring's words that hit, each a moment of the closable queue. n is the number of places, m the mark.
use Rattle.std.proofs.lemmas.Bool.Decides.{nat_tests}
use Rattle.std.proofs.Common.{◌≡◌, ◌≢◌, ℕ, ◌+◌, ◌*◌, ◌%◌, ◌<◌, ◌≤◌, List, [], ◌∷◌, ◌++◌, drop, Bool, true, false, Option, Some, None, Ok}
use Rattle.std.proofs.Common.{if◌then◌else◌, sym, refl, ap, ◌∙◌, subst, arith}
use Rattle.std.proofs.lemmas.List.{drop-append-le}
use Rattle.queue_steps.specs.declared.bounded.Slot.{Slot}
use Rattle.queue_steps.specs.BoundedTurns.{Turn, Advance, Fill, Drain}
use Rattle.queue_steps.specs.Reply.{Done, Displaced}
use Rattle.queue_steps.specs.ClosableQueue.{ClosableQueue, most_accepted, appended, taken, shut}
use Rattle.queue_steps.specs.Calls.{Call, ForcePush, Pop, Answer, ForcePushed, Popped, Acts}
use Rattle.queue_laws.specs.Moments.{Does, Arrives, Progress, sees, becomes, with_call, MayBeside, AtSome, WasOpenAndFull}
use Rattle.queue_steps.specs.Bounded.{IsShape, word_at, next_at, is_marked}
use Rattle.queue_laws.specs.SingleSteps.{answer_of, stored}
use Rattle.queue_laws.specs.BoundedSteps.{Stands, BoundedWorld, with_at, displaced, tail_after}
use Rattle.queue_steps.proofs.BoundedWords.{next_is}
use Rattle.queue_laws.proofs.BoundedStamps.{bit, bare, marked, marked_is, a_lap_on}
use Rattle.queue_laws.proofs.BoundedState.{free, full, held, Cell, cell, Ghost, kind_of, writing, swapping, reading, displacing, age}
use Rattle.queue_laws.proofs.BoundedState.{slot_of, queue_of, sight_of, scene_of, Base, CellLies, ComesTo, StandsAs, TiedPlace, Tied}
use Rattle.queue_laws.proofs.BoundedKnows.{length_is}
use Rattle.queue_laws.proofs.BoundedMoves.{at_here, NotBy, is_at_last, length_more, lies_pushed, lies_popped, free_at, full_at}
use Rattle.queue_laws.proofs.BoundedPuts.{Goes, near, keeps, lies, each_more}

module _ {T : Type 0} where
  beside_popped : (i : Option (ℕ × T)) (y : T) → MayBeside i (Popped (Ok y))
  beside_popped i y = grind (arith, nat_tests)

  beside_closed : (i : Option (ℕ × T)) (a : Answer T) → ((j : ℕ × T) → MayBeside (Some j) a) → MayBeside i a
  beside_closed None a may = tt
  beside_closed (Some i) a may = may i

module _ {T : Type 0} (n m : ℕ) (shape : IsShape n m) (w : BoundedWorld T) (g : Ghost T) (calls : ℕ → Option (Progress T))
    (tied : Tied n m w g calls) (p : ℕ) (k : Progress T) (at : calls p ≡ Some k) where
  word_after : (q : ℕ) → g.shut ≡ false → next_at n m (word_at n m q) ≡ word_at n m (q + 1) + bit g.shut * m
  word_after q open_is = grind (arith, nat_tests, next_is, bare, bit)

  head_after_is : next_at n m (word_at n m g.popped) ≡ word_at n m (g.popped + 1)
  head_after_is = next_is n m shape g.popped

  -- a place that is not on its way has no item on its way
  none_comes : (c : Cell T) → g.cells (g.pushed % n) ≡ c
      → ((v : ℕ × T) (r : ℕ) (o : Option T) → c ≡ cell r (held v.0 (ForcePush v.1) displacing o false) → ⊥)
      → (o : Option (ℕ × T)) → ComesTo n m g.cells g.pushed o → o ≡ None
  none_comes c is other None come = refl
  none_comes c is other (Some v) come = absurd (other v come.0 come.1 (sym is ∙ come.3))

  items_after : (x : T) → queue_of n m (record g { pushed = g.pushed + 1; all = g.all ++ x ∷ [] }) ≡ appended (queue_of n m g) x
  items_after x = grind (arith, nat_tests, drop-append-le)

  -- the append of a push
  pub append_hits : (call : Call T) (x : T) (turn : Turn) → turn ≡ Fill (word_at n m g.pushed) Done
      → ((j : ℕ) → j < n → NotBy p (g.cells j).phase) → k.call ≡ call → k.answer ≡ None → stored call None ≡ Some x
      → g.shut ≡ false → g.pushed < most_accepted → 2 * g.pushed ≤ age (g.cells (g.pushed % n))
      → (g.pushed < g.popped + n → Acts (queue_of n m g) call (answer_of call Done None) (appended (queue_of n m g) x))
      → Goes n m shape w g calls (Does p (answer_of call Done None) ∷ [])
      (record { tail = next_at n m (word_at n m g.pushed); head = w.head; slots = w.slots; places = with_at w.places p (Stands call turn) })
  append_hits call x turn turn_is alone of none stores open_is few aged acts =
      let i : ℕ = g.pushed % n in
      let below : i < n = near n m shape g.pushed in
      let found = free_at n m shape g tied.base (g.cells i).round (g.cells i).phase (tied.rounds i below) (tied.lies i below) aged in
      let was_free : g.cells i ≡ cell g.pushed free = found.0 in
      let c : Cell T = cell g.pushed (held p call writing None false) in
      let g' : Ghost T = record g { pushed = g.pushed + 1; all = g.all ++ x ∷ []; cells = with_at g.cells i c } in
      let a : Answer T = answer_of call Done None in
      let k' : Progress T = record k { answer = Some a } in
      let calls' : (ℕ → Option (Progress T)) = λ q. sees (sight_of n m g') (with_call calls p (Some k') q) in
      let nothing : g.coming ≡ None =
      none_comes (cell g.pushed free) was_free (λ v r o e. let z : free ≡ held v.0 (ForcePush v.1) displacing o false =
      ap (λ (c : Cell T). c.phase) e in cc) g.coming tied.comes in
      let base' : Base n m g' = record {
        behind = let z = tied.base.behind in omega arith;
        within = let z = found.1 in omega arith;
        few = let z = few in omega arith;
        counted = let z = length_more g.all x in let y = tied.base.counted in omega arith;
      } in
      let not_mine : (q : ℕ) → q ≢ p → NotBy q (g.cells i).phase = λ q other. subst (λ (c : Cell T). NotBy q c.phase) (sym was_free) tt in (
        g',
        calls',
        (
          scene_of n m g' calls',
          (
            k,
            at,
            none,
            (
              queue_of n m g',
              subst (λ (q : ClosableQueue T). Acts (queue_of n m g) k.call a q) (sym (items_after x))
                  (grind (arith, nat_tests)),
              grind (arith, nat_tests),
              refl,
            ),
          ),
          refl,
        ),
        record {
          base = base';
          tail = word_after g.pushed open_is;
          head = tied.head;
          slots = grind (arith, nat_tests);
          rounds = grind (arith, nat_tests);
          lies = lies n m shape w g calls tied p i c g' (
            tied.base.behind,
            (omega arith),
            (x, stores, is_at_last g.all g.pushed x tied.base.counted),
          )
              (λ j b other. lies_pushed n m shape g tied.base j (g.cells j).round (g.cells j).phase x g.coming (tied.rounds j b) other
              (tied.lies j b));
          held_by = grind (arith, nat_tests);
          comes = grind (arith, nat_tests);
          each = each_more n m shape w g calls tied p g' base'
              (grind (arith, nat_tests))
              (λ q other. keeps n m shape w g calls tied p i c g' refl q (not_mine q other))
              (Stands call turn) (with_call calls p (Some k')) (grind (arith, nat_tests))
              (subst (λ (o : Option (Progress T)). TiedPlace n m g' p (Stands call turn) (sees (sight_of n m g') o))
              (sym (at_here calls p (Some k')))
              (subst (λ (t : Turn). TiedPlace n m g' p (Stands call t) (sees (sight_of n m g') (Some k'))) (sym turn_is) (
                record k' { seen = sight_of n m g' ∷ k'.seen },
                refl,
                of,
                (None, (i, g.pushed, writing, below, at_here g.cells i c, refl, refl)),
              )));
        },
      )

  -- the take of a pop
  pub take_hits : (turn : Turn) → turn ≡ Drain (word_at n m g.popped) → ((j : ℕ) → j < n → NotBy p (g.cells j).phase) → k.call ≡ Pop
      → k.answer ≡ None
      → 2 * g.popped + 1 ≤ age (g.cells (g.popped % n))
      → Goes n m shape w g calls (Does p (answer_of {T = T} Pop Done (w.slots (g.popped % n)).value) ∷ [])
      (record { tail = w.tail; head = next_at n m (word_at n m g.popped); slots = w.slots; places = with_at w.places p (Stands Pop turn) })
  take_hits turn turn_is alone of none aged =
      let i : ℕ = g.popped % n in
      let below : i < n = near n m shape g.popped in
      let found = full_at n m shape g tied.base (g.cells i).round (g.cells i).phase (tied.rounds i below) (tied.lies i below) aged in
      let y : T = found.0 in
      let was_full : g.cells i ≡ cell g.popped (full y) = found.1 in
      let value_is : (w.slots i).value ≡ Some y = ap (λ (s : Slot T). s.value) (tied.slots i below ∙ ap (slot_of n m) was_full) in
      let c : Cell T = cell g.popped (held p Pop reading (Some y) false) in
      let g' : Ghost T = record g { popped = g.popped + 1; cells = with_at g.cells i c } in
      let a : Answer T = Popped (Ok y) in
      let k' : Progress T = record k { answer = Some a } in
      let calls' : (ℕ → Option (Progress T)) = λ q. sees (sight_of n m g') (with_call calls p (Some k') q) in
      let base' : Base n m g' = record {
        behind = let z = found.3 in omega arith;
        within = let z = tied.base.within in omega arith;
        few = tied.base.few;
        counted = tied.base.counted;
      } in
      let not_mine : (q : ℕ) → q ≢ p → NotBy q (g.cells i).phase = λ q other. subst (λ (c : Cell T). NotBy q c.phase) (sym was_full) tt in
      subst (λ (o : Option T). Goes n m shape w g calls (Does p (answer_of {T = T} Pop Done o) ∷ [])
      (record {
        tail = w.tail;
        head = next_at n m (word_at n m g.popped);
        slots = w.slots;
        places =
            with_at w.places p (Stands Pop turn);
      })) (sym value_is) (
        g',
        calls',
        (
          scene_of n m g' calls',
          (
            k,
            at,
            none,
            (
              queue_of n m g',
              grind (arith, nat_tests),
              beside_popped g.coming y,
              refl,
            ),
          ),
          refl,
        ),
        record {
          base = base';
          tail = tied.tail;
          head = head_after_is;
          slots = grind (arith, nat_tests);
          rounds = grind (arith, nat_tests);
          lies = lies n m shape w g calls tied p i c g' ((omega arith), tied.base.within, refl, (y, refl))
              (λ j b other. lies_popped n m shape g tied.base j (g.cells j).round (g.cells j).phase g.coming (λ v e. e) (tied.rounds j b)
              other (tied.lies j b));
          held_by = grind (arith, nat_tests);
          comes = grind (arith, nat_tests);
          each = each_more n m shape w g calls tied p g' base'
              (grind (arith, nat_tests))
              (λ q other. keeps n m shape w g calls tied p i c g' refl q (not_mine q other))
              (Stands Pop turn) (with_call calls p (Some k')) (grind (arith, nat_tests))
              (subst (λ (o : Option (Progress T)). TiedPlace n m g' p (Stands Pop turn) (sees (sight_of n m g') o))
              (sym (at_here calls p (Some k')))
              (subst (λ (t : Turn). TiedPlace n m g' p (Stands Pop t) (sees (sight_of n m g') (Some k'))) (sym turn_is) (
                record k' { seen = sight_of n m g' ∷ k'.seen },
                refl,
                of,
                (Some y, (i, g.popped, reading, below, at_here g.cells i c, refl, refl)),
              )));
        },
      )

  -- the displacement of a forced push
  pub displace_hits : (x : T) (turn : Turn) → turn ≡ Advance (word_at n m (g.popped + n)) → ((j : ℕ) → j < n → NotBy p (g.cells j).phase)
      → k.call ≡ ForcePush x → k.answer ≡ None
      → g.popped + n ≡ g.pushed → g.pushed < most_accepted → AtSome WasOpenAndFull k.seen → 2 * g.popped + 1 ≤ age (g.cells (g.popped % n))
      → Goes n m shape w g calls (displaced n m p (w.slots (g.popped % n)).value)
      (record {
        tail = w.tail;
        head = next_at n m (word_at n m g.popped);
        slots = w.slots;
        places =
            with_at w.places p (Stands (ForcePush x) turn);
      })
  displace_hits x turn turn_is alone of none whole few opened aged =
      let i : ℕ = g.popped % n in
      let below : i < n = near n m shape g.popped in
      let found = full_at n m shape g tied.base (g.cells i).round (g.cells i).phase (tied.rounds i below) (tied.lies i below) aged in
      let y : T = found.0 in
      let was_full : g.cells i ≡ cell g.popped (full y) = found.1 in
      let value_is : (w.slots i).value ≡ Some y = ap (λ (s : Slot T). s.value) (tied.slots i below ∙ ap (slot_of n m) was_full) in
      let c : Cell T = cell g.popped (held p (ForcePush x) displacing (Some y) false) in
      let g' : Ghost T = record g { popped = g.popped + 1; coming = Some (p, x); cells = with_at g.cells i c } in
      let a : Answer T = ForcePushed (Ok (Some y)) in
      let k' : Progress T = record k { answer = Some a } in
      let calls' : (ℕ → Option (Progress T)) = λ q. sees (sight_of n m g') (with_call calls p (Some k') q) in
      let there : g.pushed % n ≡ i = ap (λ (z : ℕ). z % n) (sym whole) ∙ a_lap_on n g.popped in
      let nothing : g.coming ≡ None =
      none_comes (cell g.popped (full y)) (ap g.cells there
      ∙ was_full) (λ v r o e. let z : full y ≡ held v.0 (ForcePush v.1) displacing o false = ap (λ (c : Cell T). c.phase) e in
      cc) g.coming tied.comes in
      let base' : Base n m g' = record {
        behind = let z = found.3 in omega arith;
        within = let z = tied.base.within in omega arith;
        few = tied.base.few;
        counted = tied.base.counted;
      } in
      let not_mine : (q : ℕ) → q ≢ p → NotBy q (g.cells i).phase = λ q other. subst (λ (c : Cell T). NotBy q c.phase) (sym was_full) tt in
      let queue_is : queue_of n m g' ≡ taken (queue_of n m g) =
      ap (λ (xs : List T). record { items = xs; capacity = Some n; closed = g.shut; accepted = Some g.pushed })
      (sym (ap (drop 1) found.2)) in
      subst (λ (o : Option T). Goes n m shape w g calls (displaced n m p o)
      (record {
        tail = w.tail;
        head = next_at n m (word_at n m g.popped);
        slots = w.slots;
        places =
            with_at w.places p (Stands (ForcePush x) turn);
      })) (sym value_is) (
        g',
        calls',
        (
          scene_of n m g' calls',
          (
            k,
            x,
            at,
            none,
            of,
            nothing,
            (let l = length_is n m g tied.base in omega arith),
            few,
            opened,
            grind (arith, nat_tests),
            grind (arith, nat_tests),
          ),
          refl,
        ),
        record {
          base = base';
          tail = tied.tail;
          head = head_after_is;
          slots = grind (arith, nat_tests);
          rounds = grind (arith, nat_tests);
          lies = lies n m shape w g calls tied p i c g' ((omega arith), sym whole, (let z = whole in omega arith), (x, refl, refl, refl))
              (λ j b other. lies_popped n m shape g tied.base j (g.cells j).round (g.cells j).phase (Some (p, x))
              (λ v e. absurd (grind (arith, nat_tests))) (tied.rounds j b) other (tied.lies j b));
          held_by = grind (arith, nat_tests);
          comes = (g.popped, Some y, whole, grind (arith, nat_tests));
          each = each_more n m shape w g calls tied p g' base'
              (grind (arith, nat_tests))
              (λ q other. keeps n m shape w g calls tied p i c g' refl q (not_mine q other))
              (Stands (ForcePush x) turn) (with_call calls p (Some k')) (grind (arith, nat_tests))
              (subst (λ (o : Option (Progress T)). TiedPlace n m g' p (Stands (ForcePush x) turn) (sees (sight_of n m g') o))
              (sym (at_here calls p (Some k')))
              (subst (λ (t : Turn). TiedPlace n m g' p (Stands (ForcePush x) t) (sees (sight_of n m g') (Some k'))) (sym turn_is) (
                record k' { seen = sight_of n m g' ∷ k'.seen },
                refl,
                of,
                (Some y, (i, g.popped, displacing, below, at_here g.cells i c, refl, refl)),
              )));
        },
      )

  tail_moves : (c : ℕ) → g.pushed ≡ c → (b : Bool) → g.shut ≡ b
      → (if b then next_at n m (word_at n m c) + m else next_at n m (word_at n m c)) ≡ word_at n m (g.pushed + 1) + bit g.shut * m
  tail_moves c is b e = grind (arith, nat_tests, next_is, marked, bit, bare)

  -- the append that a displacement owes
  pub advances : (x : T) (c i : ℕ) (o : Option T) → i < n → g.cells i ≡ cell c (held p (ForcePush x) displacing o false)
      → ((j : ℕ) → j < n → j ≢ i → NotBy p (g.cells j).phase) → k.call ≡ ForcePush x → k.answer ≡ Some (answer_of (ForcePush x) Displaced o)
      → Goes n m shape w g calls (Arrives p ∷ [])
      (record {
        tail = tail_after n m (Advance (word_at n m (c + n))) w.tail;
        head = w.head;
        slots = w.slots;
        places =
            with_at w.places p (Stands (ForcePush x) (Fill (word_at n m (c + n)) Displaced));
      })
  advances x c i o below is alone of told =
      let lying : CellLies n m g (cell c (held p (ForcePush x) displacing o false)) = subst (CellLies n m g) is (tied.lies i below) in
      let pushed_is : g.pushed ≡ c + n = lying.1 in
      let x_is : ForcePush x ≡ ForcePush lying.3.0 = lying.3.1 in
      let coming_is : g.coming ≡ Some (p, x) = lying.3.2 ∙ ap (λ (z : T). Some (p, z)) (let z : lying.3.0 ≡ x = cc in z) in
      let there : c % n ≡ i = subst (λ (d : Cell T). d.round % n ≡ i) is (tied.rounds i below) in
      let tail_there : i ≡ g.pushed % n = sym (grind (arith, nat_tests)) in
      let d : Cell T = cell c (held p (ForcePush x) swapping o false) in
      let turn : Turn = Fill (word_at n m (c + n)) Displaced in
      let g' : Ghost T = record g { pushed = g.pushed + 1; all = g.all ++ x ∷ []; coming = None; cells = with_at g.cells i d } in
      let calls' : (ℕ → Option (Progress T)) = λ q. sees (sight_of n m g') (calls q) in
      let base' : Base n m g' = record {
        behind = let z = tied.base.behind in omega arith;
        within = let z = lying.0 in omega arith;
        few = let z = lying.2 in omega arith;
        counted = let z = length_more g.all x in let y = tied.base.counted in omega arith;
      } in (
        g',
        calls',
        (
          scene_of n m g' calls',
          (
            x,
            coming_is,
            ap (λ (q : ClosableQueue T). becomes (scene_of n m g calls) (record { queue = q; incoming = None })) (items_after x),
          ),
          refl,
        ),
        record {
          base = base';
          tail = ap (λ (b : Bool). if b then next_at n m (word_at n m (c + n)) + m else next_at n m (word_at n m (c + n)))
              (ap (is_marked m) tied.tail ∙ marked_is n m shape g.pushed g.shut)
              ∙ tail_moves (c + n) pushed_is g.shut refl;
          head = tied.head;
          slots = grind (arith, nat_tests);
          rounds = grind (arith, nat_tests);
          lies = lies n m shape w g calls tied p i d g' (
            (let z = tied.base.behind in omega arith),
            (omega arith),
            (x, refl, is_at_last g.all (c + n) x (tied.base.counted ∙ pushed_is)),
          )
              (λ j b other. lies_pushed n m shape g tied.base j (g.cells j).round (g.cells j).phase x None (tied.rounds j b)
              (λ e. other (e ∙ sym tail_there)) (tied.lies j b));
          held_by = grind (arith, nat_tests);
          comes = tt;
          each = each_more n m shape w g calls tied p g' base'
              (grind (arith, nat_tests))
              (λ q other. keeps n m shape w g calls tied p i d g' refl q
              (grind (arith, nat_tests)))
              (Stands (ForcePush x) turn) calls (λ q other. refl)
              (subst (λ (z : Option (Progress T)). TiedPlace n m g' p (Stands (ForcePush x) turn) (sees (sight_of n m g') z)) (sym at)
              (record k { seen = sight_of n m g' ∷ k.seen }, refl, of, grind (arith, nat_tests)));
        },
      )

  -- a close, or the push of one item too many, which closes the ring
  pub shuts : (call : Call T) (turn : Turn) (a : Answer T) (tail : ℕ) → ((j : ℕ) → j < n → NotBy p (g.cells j).phase) → k.call ≡ call
      → k.answer ≡ None
      → Acts (queue_of n m g) call a (shut (queue_of n m g)) → ((j : ℕ × T) → MayBeside (Some j) a)
      → tail ≡ word_at n m g.pushed + bit true * m
      → ((k' : Progress T) → k'.answer ≡ Some a → StandsAs n m (kind_of turn) (record g { shut = true }) p call turn k')
      → Goes n m shape w g calls (Does p a ∷ [])
      (record { tail = tail; head = w.head; slots = w.slots; places = with_at w.places p (Stands call turn) })
  shuts call turn a tail alone of none acts beside tail_is stands =
      let g' : Ghost T = record g { shut = true } in
      let k' : Progress T = record k { answer = Some a } in
      let calls' : (ℕ → Option (Progress T)) = λ q. sees (sight_of n m g') (with_call calls p (Some k') q) in
      let base' : Base n m g' =
      record { behind = tied.base.behind; within = tied.base.within; few = tied.base.few; counted = tied.base.counted } in (
        g',
        calls',
        (
          scene_of n m g' calls',
          (
            k,
            at,
            none,
            (
              queue_of n m g',
              grind (arith, nat_tests),
              beside_closed g.coming a beside,
              refl,
            ),
          ),
          refl,
        ),
        record {
          base = base';
          tail = tail_is;
          head = tied.head;
          slots = tied.slots;
          rounds = tied.rounds;
          lies = tied.lies;
          held_by = λ j b. grind (arith, nat_tests);
          comes = tied.comes;
          each = each_more n m shape w g calls tied p g' base'
              (grind (arith, nat_tests))
              (λ q other j r c grip o d e. refl)
              (Stands call turn) (with_call calls p (Some k')) (grind (arith, nat_tests))
              (subst (λ (o : Option (Progress T)). TiedPlace n m g' p (Stands call turn) (sees (sight_of n m g') o))
              (sym (at_here calls p (Some k')))
              (record k' { seen = sight_of n m g' ∷ k'.seen }, refl, of, grind (arith, nat_tests)));
        },
      )
