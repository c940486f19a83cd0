-- The steps in a place that is a party's own, and the end of its call. n is the number of places, m the mark.
use Rattle.std.proofs.lemmas.Bool.Decides.{nat_tests}
use Rattle.std.proofs.Common.{◌≡◌, ℕ, ◌+◌, ◌*◌, ◌%◌, ◌<◌, ◌≤◌, [], ◌∷◌, true, false, Option, Some, None, sym, refl, ap, ◌∙◌}
use Rattle.std.proofs.Common.{subst, arith}
use Rattle.queue_steps.specs.declared.bounded.Slot.{Slot}
use Rattle.queue_steps.specs.BoundedTurns.{Turn}
use Rattle.queue_steps.specs.Calls.{Call}
use Rattle.queue_laws.specs.Moments.{Ends, Progress, with_call}
use Rattle.queue_steps.specs.Bounded.{IsShape, word_at}
use Rattle.queue_laws.specs.SingleSteps.{answer_of, stored}
use Rattle.queue_laws.specs.BoundedSteps.{Place, Away, Stands, Leaving, BoundedWorld, with_at, reply_of, stamp_after}
use Rattle.queue_steps.proofs.BoundedWords.{word_a_lap_on}
use Rattle.queue_laws.proofs.BoundedStamps.{a_lap_on}
use Rattle.queue_laws.proofs.BoundedState.{Phase, free, full, held, Cell, cell, Ghost, Grip, writing, swapping, reading, displacing}
use Rattle.queue_laws.proofs.BoundedState.{age, slot_of, grip_turn, CellLies, HeldBy, Tied}
use Rattle.queue_laws.proofs.BoundedKnows.{Stays}
use Rattle.queue_laws.proofs.BoundedMoves.{at_here, held_put}
use Rattle.queue_laws.proofs.BoundedPuts.{Goes, IsSettled, is_moving, from_other, other_calls, keeps, ages, slots_put, rounds, lies, comes}
use Rattle.queue_laws.proofs.BoundedPuts.{each_still, alone_grip}

module _ {T : Type 0} (n m : ℕ) (shape : IsShape n m) (w : BoundedWorld T) (g : Ghost T) (calls : ℕ → Option (Progress T))
    (tied : Tied n m w g calls) (p : ℕ) (k : Progress T) (at : calls p ≡ Some k) where
  there : (i c : ℕ) (ph : Phase T) → i < n → g.cells i ≡ cell c ph → c % n ≡ i
  there i c ph below is = grind (arith, nat_tests)

  -- the place is written, swapped or read
  pub entered_by : (call : Call T) (turn : Turn) (grip : Grip) (o : Option T) (i c j : ℕ) → i < n → j ≡ i
      → g.cells i ≡ cell c (held p call grip o false) → turn ≡ grip_turn n m c grip
      → w.places p ≡ Stands call turn → IsSettled (held p call grip o false) → CellLies n m g (cell c (held p call grip o true))
      → k.answer ≡ Some (answer_of call (reply_of turn) o)
      → Goes n m shape w g calls [] (record w {
        slots = with_at w.slots j (record { stamp = (w.slots j).stamp; value = stored call (w.slots j).value });
        places = with_at w.places p (Leaving call turn (w.slots j).value);
      })
  entered_by call turn grip o i c j below same is turn_is stand set lying told =
      let d : Cell T = cell c (held p call grip o true) in
      let g' : Ghost T = record g { cells = with_at g.cells i d } in
      let slot_is : w.slots i ≡ slot_of n m (cell c (held p call grip o false)) = tied.slots i below ∙ ap (slot_of n m) is in
      let st : Stays n m g g' =
      record {
        pushed = refl;
        popped = refl;
        sight = refl;
        ages =
            grind (arith, nat_tests);
      } in
      subst (λ (x : ℕ). Goes n m shape w g calls [] (record w {
        slots = with_at w.slots x (record { stamp = (w.slots x).stamp; value = stored call (w.slots x).value });
        places = with_at w.places p (Leaving call turn (w.slots x).value);
      })) (sym same)
      (subst (λ (s : Slot T). Goes n m shape w g calls [] (record w {
        slots = with_at w.slots i (record { stamp = s.stamp; value = stored call s.value });
        places = with_at w.places p (Leaving call turn s.value);
      })) (sym slot_is) (
        g',
        calls,
        refl,
        record {
          base = grind (arith, nat_tests);
          tail = tied.tail;
          head = tied.head;
          slots = grind (arith, nat_tests);
          rounds = grind (arith, nat_tests);
          lies = grind (arith, nat_tests);
          held_by = held_put n m shape g tied.base w.places p (Leaving call turn o) i d
              (grind (arith, nat_tests))
              (alone_grip n m shape w g calls tied p c i grip (ap Rattle.queue_laws.proofs.BoundedPuts.turn_at stand
              ∙ turn_is) (grind (arith, nat_tests))) tied.held_by;
          comes = grind (arith, nat_tests);
          each = each_still n m shape w g calls tied p g' st
              (λ q other. keeps n m shape w g calls tied p i d g' refl q (grind (arith, nat_tests)))
              (Leaving call turn o) calls (λ q other. refl)
              (k, at, grind (arith, nat_tests));
        },
      ))

  -- the stamp is set, and the call ends
  left_by : (call : Call T) (turn : Turn) (grip : Grip) (o : Option T) (i c j : ℕ) (d : Cell T) → i < n → j ≡ i
      → g.cells i ≡ cell c (held p call grip o true) → turn ≡ grip_turn n m c grip
      → w.places p ≡ Leaving call turn o → IsSettled (held p call grip o true) → CellLies n m g d → d.round % n ≡ i
      → age (cell c (held p call grip o true)) ≤ age d
      → ((places : ℕ → Place T) → HeldBy n m places d.round d.phase)
      → record { stamp = stamp_after n m turn; value = stored call o } ≡ slot_of n m d
      → k.answer ≡ Some (answer_of call (reply_of turn) o)
      → Goes n m shape w g calls (Ends p (answer_of call (reply_of turn) o) ∷ []) (record w {
        slots = with_at w.slots j (record { stamp = stamp_after n m turn; value = (w.slots j).value });
        places = with_at w.places p Away;
      })
  left_by call turn grip o i c j d below same is turn_is stand set lying round older nobody slot told =
      let g' : Ghost T = record g { cells = with_at g.cells i d } in
      let slot_is : w.slots i ≡ slot_of n m (cell c (held p call grip o true)) = tied.slots i below ∙ ap (slot_of n m) is in
      let st : Stays n m g g' =
      record {
        pushed = refl;
        popped = refl;
        sight = refl;
        ages =
            grind (arith, nat_tests);
      } in
      let calls' = with_call calls p None in
      subst (λ (x : ℕ). Goes n m shape w g calls (Ends p (answer_of call (reply_of turn) o) ∷ []) (record w {
        slots = with_at w.slots x (record { stamp = stamp_after n m turn; value = (w.slots x).value });
        places = with_at w.places p Away;
      })) (sym same)
      (subst (λ (s : Slot T). Goes n m shape w g calls (Ends p (answer_of call (reply_of turn) o) ∷ []) (record w {
        slots = with_at w.slots i (record { stamp = stamp_after n m turn; value = s.value });
        places = with_at w.places p Away;
      })) (sym slot_is) (
        g',
        calls',
        grind (arith, nat_tests),
        record {
          base = grind (arith, nat_tests);
          tail = tied.tail;
          head = tied.head;
          slots = grind (arith, nat_tests);
          rounds = grind (arith, nat_tests);
          lies = grind (arith, nat_tests);
          held_by = held_put n m shape g tied.base w.places p Away i d (nobody (with_at w.places p Away))
              (alone_grip n m shape w g calls tied p c i grip (ap Rattle.queue_laws.proofs.BoundedPuts.turn_at stand
              ∙ turn_is) (grind (arith, nat_tests))) tied.held_by;
          comes = grind (arith, nat_tests);
          each = each_still n m shape w g calls tied p g' st
              (λ q other. keeps n m shape w g calls tied p i d g' refl q (grind (arith, nat_tests)))
              Away calls' (grind (arith, nat_tests)) (at_here calls p None);
        },
      ))

  pub leaves_by : (call : Call T) (turn : Turn) (grip : Grip) (o : Option T) (i c j : ℕ) → i < n → j ≡ i
      → g.cells i ≡ cell c (held p call grip o true) → turn ≡ grip_turn n m c grip
      → w.places p ≡ Leaving call turn o → CellLies n m g (cell c (held p call grip o true))
      → k.answer ≡ Some (answer_of call (reply_of turn) o)
      → Goes n m shape w g calls (Ends p (answer_of call (reply_of turn) o) ∷ []) (record w {
        slots = with_at w.slots j (record { stamp = stamp_after n m turn; value = (w.slots j).value });
        places = with_at w.places p Away;
      })
  leaves_by call turn writing o i c j below same is turn_is stand lying told =
      left_by call turn writing o i c j (cell c (full lying.2.0)) below same is turn_is stand tt (lying.0, lying.1, lying.2.2)
      (there i c _ below is) (omega arith) (λ places. tt)
      (grind (arith, nat_tests)) told
  leaves_by call turn swapping o i c j below same is turn_is stand lying told =
      left_by call turn swapping o i c j (cell (c + n) (full lying.2.0)) below same is turn_is stand tt (lying.0, lying.1, lying.2.2)
      (a_lap_on n c ∙ there i c _ below is) (omega arith) (λ places. tt)
      (grind (arith, nat_tests)) told
  leaves_by call turn reading o i c j below same is turn_is stand lying told =
      left_by call turn reading o i c j (cell (c + n) free) below same is turn_is stand tt (lying.1, (let z = lying.0 in omega arith))
      (a_lap_on n c ∙ there i c _ below is) (let z = shape.some in omega arith) (λ places. tt)
      (ap (λ (t : Turn). record { stamp = stamp_after n m t; value = stored call o }) turn_is
      ∙ ap (λ (q : Call T). record { stamp = word_at n m c + 2 * m; value = stored q o }) lying.2
      ∙ ap (λ (x : ℕ). record { stamp = x; value = None }) (let z = word_a_lap_on n m shape c in omega arith)) told
  leaves_by call turn displacing o i c j below same is turn_is stand lying told = grind (arith, nat_tests)
