-- How a ring, its parties and their calls stay tied while one party goes on. n is the number of places, m the mark.
use Rattle.std.proofs.lemmas.Bool.Decides.{nat_tests}
use Rattle.std.proofs.Common.{◌≡◌, ◌≢◌, ℕ, ◌%◌, ◌<◌, ◌≤◌, List, [], ◌∷◌, Bool, true, false, Option, Some, None}
use Rattle.std.proofs.Common.{sym, refl, ap, ◌∙◌, subst, mod-lt, arith}
use Rattle.queue_steps.specs.declared.bounded.Slot.{Slot}
use Rattle.queue_steps.specs.BoundedTurns.{Turn, Tail, Advance}
use Rattle.queue_steps.specs.Calls.{Call, Answer}
use Rattle.queue_laws.specs.Moments.{Moment, Ends, Begins, Sight, Progress, Run, sees, with_call, MayEnd, IsFromOther}
use Rattle.queue_steps.specs.Bounded.{IsShape}
use Rattle.queue_laws.specs.BoundedSteps.{Place, Away, Stands, Leaving, BoundedWorld, with_at}
use Rattle.queue_laws.proofs.BoundedState.{Phase, free, full, held, Cell, Ghost, Kind, looking, holding, ending, kind_of, Grip}
use Rattle.queue_laws.proofs.BoundedState.{writing, swapping, reading, displacing, age, slot_of, grip_turn, sight_of, scene_of, Base}
use Rattle.queue_laws.proofs.BoundedState.{CellLies, place_of, HeldBy, ComesTo, StandsAs, TiedPlace, Tied}
use Rattle.queue_laws.proofs.BoundedKnows.{Grows, Stays, Keeps, tied_more, tied_still}
use Rattle.queue_laws.proofs.BoundedLooks.{Finds}
use Rattle.queue_laws.proofs.BoundedMoves.{at_here, at_put, NotBy, held_moved, grip_once}

abbrev is_advance : Turn → Bool
is_advance (Advance t) = true
is_advance _ = false

abbrev is_holding : Kind → Bool
is_holding looking = false
is_holding holding = true
is_holding (ending r) = false

module _ {T : Type 0} where
  -- a party that has a place
  abbrev pub is_gripping : Place T → Bool
  is_gripping Away = false
  is_gripping (Stands call t) = is_holding (kind_of t)
  is_gripping (Leaving call t o) = true

  abbrev pub turn_at : Place T → Turn
  turn_at Away = Tail
  turn_at (Stands call t) = t
  turn_at (Leaving call t o) = t

  -- a party that owes an append
  abbrev pub is_moving : Place T → Bool
  is_moving Away = false
  is_moving (Stands call t) = is_advance t
  is_moving (Leaving call t o) = false

  -- a place that no item on its way in has
  abbrev pub IsSettled : Phase T → Type 0
  IsSettled free = Unit {0}
  IsSettled (full x) = Unit {0}
  IsSettled (held j call writing o d) = Unit {0}
  IsSettled (held j call swapping o d) = Unit {0}
  IsSettled (held j call reading o d) = Unit {0}
  IsSettled (held j call displacing o d) = ⊥

module _ (n m : ℕ) (shape : IsShape n m) where
  pub near : (p : ℕ) → p % n < n
  near p = mod-lt p shape.some

module _ {T : Type 0} (n m : ℕ) (shape : IsShape n m) where
  abbrev pub Goes : BoundedWorld T → Ghost T → (ℕ → Option (Progress T)) → List (Moment T) → BoundedWorld T → Type 0
  Goes w g calls ms w' = (g' : Ghost T) × (calls' : ℕ → Option (Progress T)) × Run (scene_of n m g calls) ms (scene_of n m g' calls')
      × Tied n m w' g' calls'

  turn_is : (c : ℕ) (call : Call T) (grip : Grip) (o : Option T) (d : Bool) → turn_at (place_of n m c call grip o d) ≡ grip_turn n m c grip
  turn_is c call grip o d = grind (arith, nat_tests)

  module _ (w : BoundedWorld T) (g : Ghost T) (calls : ℕ → Option (Progress T)) (tied : Tied n m w g calls) (p : ℕ) where
    -- a party that has no place has none
    pub alone_free : is_gripping (w.places p) ≡ false → (j : ℕ) → j < n → NotBy p (g.cells j).phase
    alone_free bare j below = grind (arith, nat_tests)

    -- a party that has a place has no other
    pub alone_grip : (c i : ℕ) (grip : Grip) → turn_at (w.places p) ≡ grip_turn n m c grip → c % n ≡ i → (j : ℕ) → j < n → j ≢ i
        → NotBy p (g.cells j).phase
    alone_grip c i grip turn at j below other = by (g.cells j).round (g.cells j).phase (tied.held_by j below) (tied.rounds j below)
      where
        by : (d : ℕ) (ph : Phase T) → HeldBy n m w.places d ph → d % n ≡ j → NotBy p ph
        by d ph k here = grind (arith, nat_tests, free, full, held, grip_turn, turn_is, grip_once)

    -- the item on its way in is not of a party that owes no append
    pub from_other : is_moving (w.places p) ≡ false → IsFromOther g.coming p
    from_other still = grind (arith, nat_tests)

    pub of_party : (place : Place T) → w.places p ≡ place → TiedPlace n m g p place (calls p)
    of_party place is = grind (arith, nat_tests)

    still : Stays n m g g
    still = grind (arith, nat_tests)

    -- a step that only looked, or began or ended a call
    pub settled : (place : Place T) (calls' : ℕ → Option (Progress T)) → is_gripping (w.places p) ≡ false
        → ((q : ℕ) → q ≢ p → calls' q ≡ calls q)
        → TiedPlace n m g p place (calls' p) → Tied n m (record w { places = with_at w.places p place }) g calls'
    settled place calls' bare same here = record {
      base = tied.base;
      tail = tied.tail;
      head = tied.head;
      slots = tied.slots;
      rounds = tied.rounds;
      lies = tied.lies;
      held_by = λ j below. held_moved n m w.places p place (g.cells j).round (g.cells j).phase (alone_free bare j below)
          (tied.held_by j below);
      comes = tied.comes;
      each = grind (arith, nat_tests);
    }

    pub looked : (call : Call T) (t next : Turn) → w.places p ≡ Stands call t → kind_of t ≡ looking → (k : Progress T) → calls p ≡ Some k
        → k.call ≡ call
        → ((older : List (Sight T)) × (k.seen ≡ sight_of n m g ∷ older)) → k.answer ≡ None → Finds n m shape g tied.base call next k.seen
        → Goes w g calls [] (record w { places = with_at w.places p (Stands call next) })
    looked call t next is kind k at of seen none finds = (
      g,
      calls,
      refl,
      settled (Stands call next) calls (ap is_gripping is
          ∙ ap is_holding kind) (λ q other. refl) (k, at, of, grind (arith, nat_tests)),
    )

    pub other_calls : (c : Option (Progress T)) (q : ℕ) → q ≢ p → with_call calls p c q ≡ calls q
    other_calls c q h2 = grind (arith, nat_tests)

    pub begins : (call : Call T) (t : Turn) → w.places p ≡ Away
        → ((k : Progress T) → k.call ≡ call → ((older : List (Sight T)) × (k.seen ≡ sight_of n m g ∷ older)) → k.answer ≡ None
        → StandsAs n m (kind_of t) g p call t k)
        → Goes w g calls (Begins p call ∷ []) (record w { places = with_at w.places p (Stands call t) })
    begins call t is stands =
        let c : Progress T = record { call = call; seen = sight_of n m g ∷ []; answer = None } in
        let calls' = with_call calls p (Some c) in (
          g,
          calls',
          grind (arith, nat_tests),
          grind (arith, nat_tests),
        )

    pub ends : (a : Answer T) → is_gripping (w.places p) ≡ false → is_moving (w.places p) ≡ false → (k : Progress T) → calls p ≡ Some k
        → MayEnd k k.answer a
        → Goes w g calls (Ends p a ∷ []) (record w { places = with_at w.places p Away })
    ends a bare moves k at may =
        let calls' = with_call calls p None in (
          g,
          calls',
          grind (arith, nat_tests),
          settled Away calls' bare (other_calls None) (at_here calls p None),
        )

    -- the cell at i becomes c
    module _ (i : ℕ) (c : Cell T) where
      abbrev pub cells_after : ℕ → Cell T
      cells_after = with_at g.cells i c

      pub keeps : (g' : Ghost T) → g'.cells ≡ cells_after → (q : ℕ) → NotBy q (g.cells i).phase → Keeps n m g g' q
      keeps g' is q not = grind (arith, nat_tests)

      pub ages : age (g.cells i) ≤ age c → (j : ℕ) → age (g.cells j) ≤ age (cells_after j)
      ages older j = grind (arith, nat_tests)

      pub slots_same : i < n → slot_of n m (g.cells i) ≡ slot_of n m c → (j : ℕ) → j < n → w.slots j ≡ slot_of n m (cells_after j)
      slots_same below same j h3 = grind (arith, nat_tests)

      pub slots_put : (s : Slot T) → s ≡ slot_of n m c → (j : ℕ) → j < n → with_at w.slots i s j ≡ slot_of n m (cells_after j)
      slots_put s is j below = grind (arith, nat_tests)

      pub rounds : c.round % n ≡ i → (j : ℕ) → j < n → (cells_after j).round % n ≡ j
      rounds here j h2 = grind (arith, nat_tests)

      pub lies : (g' : Ghost T) → CellLies n m g' c → ((j : ℕ) → j < n → j ≢ i → CellLies n m g' (g.cells j)) → (j : ℕ) → j < n
          → CellLies n m g' (cells_after j)
      lies g' here others j h4 = grind (arith, nat_tests)

      pub comes : (o : Option (ℕ × T)) → IsSettled (g.cells i).phase → ComesTo n m g.cells g.pushed o → ComesTo n m cells_after g.pushed o
      comes o set k = grind (arith, nat_tests)

    -- the other parties, when the queue has become something else
    pub each_more : (g' : Ghost T) → Base n m g' → Grows n m g g' → ((q : ℕ) → q ≢ p → Keeps n m g g' q)
        → (place : Place T) (calls' : ℕ → Option (Progress T))
        → ((q : ℕ) → q ≢ p → calls' q ≡ calls q) → TiedPlace n m g' p place (sees (sight_of n m g') (calls' p))
        → (q : ℕ) → TiedPlace n m g' q (with_at w.places p place q) (sees (sight_of n m g') (calls' q))
    each_more g' b' gr keep place calls' same here =
        at_put (λ (q : ℕ) (x : Place T). TiedPlace n m g' q x (sees (sight_of n m g') (calls' q))) w.places p place here
        (λ q other. subst (λ (c : Option (Progress T)). TiedPlace n m g' q (w.places q) (sees (sight_of n m g') c)) (sym (same q other))
        (tied_more n m g g' tied.base b' gr q (w.places q) (calls q) (keep q other) (tied.each q)))

    pub each_still : (g' : Ghost T) → Stays n m g g' → ((q : ℕ) → q ≢ p → Keeps n m g g' q)
        → (place : Place T) (calls' : ℕ → Option (Progress T))
        → ((q : ℕ) → q ≢ p → calls' q ≡ calls q) → TiedPlace n m g' p place (calls' p)
        → (q : ℕ) → TiedPlace n m g' q (with_at w.places p place q) (calls' q)
    each_still g' st keep place calls' same here =
        at_put (λ (q : ℕ) (x : Place T). TiedPlace n m g' q x (calls' q)) w.places p place here
        (λ q other. subst (TiedPlace n m g' q (w.places q)) (sym (same q other))
        (tied_still n m g g' st q (w.places q) (calls q) (keep q other) (tied.each q)))
