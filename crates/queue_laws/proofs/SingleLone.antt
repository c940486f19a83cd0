-- A call on a single slot that begins while no other is in progress ends.
use Rattle.std.proofs.lemmas.Bool.Decides.{nat_tests}
use Rattle.std.proofs.Common.{◌≡◌, ◌⊎◌, inl, inr, ℕ, suc, ◌%◌, ◌≤◌, List, [], ◌∷◌, Bool, true, false, Option, Some}
use Rattle.std.proofs.Common.{None, ◌==◌, if◌then◌else◌, sym, refl, ◌∙◌, arith}
use Rattle.queue_steps.specs.SingleTurns.{Turn, Look, Exchange, Unlock, End, Close as CloseTurn}
use Rattle.queue_steps.specs.Reply.{Reply, Done, Displaced, Full, Empty, Closed, Yes, No, Length}
use Rattle.queue_steps.specs.Calls.{Call, Push, ForcePush, Pop, Close, Len, IsEmptyCall, IsFullCall, IsClosedCall}
use Rattle.queue_laws.specs.Moments.{Scene}
use Rattle.queue_laws.specs.SingleSteps.{Place, Away, Stands, Inside, Leaving, SingleWorld, Step, Begin, Go, turn_of, first_turn}
use Rattle.queue_laws.specs.SingleSteps.{placed, with_place, begun, moved, gone, stepped, run, new_slot, new_scene}
use Rattle.queue_laws.specs.LoneCalls.{goes, EndsOnSlot}
use Rattle.queue_laws.proofs.SingleLooks.{free, is_party, word_of, sight_of, hits}
use Rattle.queue_laws.proofs.SingleRuns.{TiedPlace, Tied, step_by, new_tied}

module _ {T : Type 0} where
  -- the party that has the slot is in it
  abbrev IsIn : Place T → Bool
  IsIn Away = false
  IsIn (Stands call t) = false
  IsIn (Inside call r) = true
  IsIn (Leaving call r o) = true

  -- a locked slot has a party in it
  abbrev LockedBy : SingleWorld T → Type 0
  LockedBy w = w.word % 2 ≡ 1 → (q : ℕ) × (IsIn (w.places q) ≡ true)

  -- who was in the slot still is, where another party goes on
  still_in : (places : ℕ → Place T) (p : ℕ) (place : Place T) → IsIn (places p) ≡ false → ((q : ℕ) × (IsIn (places q) ≡ true))
      → (q : ℕ) × (IsIn (with_place places p place q) ≡ true)
  still_in places p place out inside = grind (arith, nat_tests)

  is_in : (places : ℕ → Place T) (p : ℕ) (place : Place T) → IsIn place ≡ true → (q : ℕ) × (IsIn (with_place places p place q) ≡ true)
  is_in places p place in_it = (p, grind (arith, nat_tests))

  -- an exchange that hits is the one that locks
  exchange_locks : (w : SingleWorld T) (p : ℕ) (call : Call T) (old new : ℕ) → w.places p ≡ Stands call (Exchange old new) → LockedBy w
      → ((w.word == old) ≡ true → (r : Reply) × (turn_of call (Exchange old new) w.word ≡ Unlock r))
      → LockedBy (moved w p call (Exchange old new))
  exchange_locks w p call old new is locked hits = by (w.word == old) refl
    where
      next : Turn
      next = turn_of call (Exchange old new) w.word

      by : (b : Bool) → (w.word == old) ≡ b → (if b then new else w.word) % 2 ≡ 1
          → (q : ℕ) × (IsIn (with_place w.places p (placed call next) q) ≡ true)
      by b e odd = grind (arith, nat_tests, hits, is_in, next, still_in)

  begin_locked : (w : SingleWorld T) (p : ℕ) (call : Call T) (place : Place T) → w.places p ≡ place → LockedBy w
      → LockedBy (begun w p call place)
  begin_locked w p call place is locked = grind (arith, nat_tests)

  go_locked : (w : SingleWorld T) (s : Scene T) (p : ℕ) (place : Place T) → (tied : Tied w s) → w.places p ≡ place
      → TiedPlace tied.phase (sight_of tied.shut tied.phase) p place (s.calls p) → LockedBy w → LockedBy (gone w p place)
  go_locked w s p Away tied is k locked = locked
  go_locked w s p (Stands call Look) tied is k locked = grind (arith, nat_tests)
  go_locked w s p (Stands call (Exchange old new)) tied is k locked =
      exchange_locks w p call old new is locked (λ e.
      let h = hits call tied.shut tied.phase p old new k.4.1 (sym tied.word ∙ is_party w.word old e) in
      (h.reply, grind (arith, nat_tests)))
  go_locked w s p (Stands call (Unlock r)) tied is k locked = locked
  go_locked w s p (Stands call CloseTurn) tied is k locked = grind (arith, nat_tests)
  go_locked w s p (Stands call (End r)) tied is k locked = grind (arith, nat_tests)
  go_locked w s p (Inside call r) tied is k locked = grind (arith, nat_tests)
  go_locked w s p (Leaving call r o) tied is k locked = grind (arith, nat_tests)

  step_locked : (w : SingleWorld T) (s : Scene T) (step : Step T) → Tied w s → LockedBy w → LockedBy (stepped w step)
  step_locked w s (Begin p call) tied locked = begin_locked w p call (w.places p) refl locked
  step_locked w s (Go p) tied locked = go_locked w s p (w.places p) tied refl (tied.each p) locked

  runs_locked : (steps : List (Step T)) (w : SingleWorld T) (s : Scene T) → Tied w s → LockedBy w
      → ((s' : Scene T) × Tied (run steps w) s' × LockedBy (run steps w))
  runs_locked [] w s tied locked = (s, tied, locked)
  runs_locked (step ∷ steps) w s tied locked =
      let one = step_by w s step tied in runs_locked steps (stepped w step) one.0 one.2 (step_locked w s step tied locked)

  -- a slot on which no call is in progress is free
  free_is : (w : SingleWorld T) (s : Scene T) → (tied : Tied w s) → LockedBy w → ((q : ℕ) → w.places q ≡ Away)
      → (o : Option T) × (w.word ≡ word_of tied.shut (free o))
  free_is w s tied locked all_away = grind (arith, nat_tests)

  -- the party is in no call after so many steps of its own, at most
  abbrev Within : ℕ → SingleWorld T → ℕ → Type 0
  Within most w p = (k : ℕ) × (k ≤ most) × ((run (goes p k) w).places p ≡ Away)

  away : (w : SingleWorld T) (p : ℕ) → w.places p ≡ Away → Within 0 w p
  away w p is = (0, (omega arith), is)

  next : (most : ℕ) (w : SingleWorld T) (p : ℕ) (place : Place T) → w.places p ≡ place → Within most (gone w p place) p
      → Within (suc most) w p
  next most w p place is h =
      (suc h.0, (let z = h.1 in omega arith), grind (arith, nat_tests))

  more : (a b : ℕ) (w : SingleWorld T) (p : ℕ) → a ≤ b → Within a w p → Within b w p
  more a b w p le h = grind (arith, nat_tests)

  ended : (w : SingleWorld T) (p : ℕ) (call : Call T) (r : Reply) → w.places p ≡ Stands call (End r) → Within 1 w p
  ended w p call r is = grind (arith, nat_tests)

  entered : (w : SingleWorld T) (p : ℕ) (call : Call T) (r : Reply) → w.places p ≡ Inside call r → Within 2 w p
  entered w p call r is = grind (arith, nat_tests)

  -- a look at a free slot leads to the end, or to an exchange that hits
  abbrev Leads : Call T → ℕ → Turn → Type 0
  Leads call word t = ((r : Reply) × (t ≡ End r))
      ⊎ ((new : ℕ) × (r : Reply) × (t ≡ Exchange word new) × (turn_of call (Exchange word new) word ≡ Unlock r))

  leads : (call : Call T) (shut : Bool) (o : Option T) → first_turn call ≡ Look
      → Leads call (word_of shut (free o)) (turn_of call Look (word_of shut (free o)))
  leads (Push x) false None l = inr (3, Done, refl, refl)
  leads (Push x) false (Some y) l = inl (Full, refl)
  leads (Push x) true None l = inl (Closed, refl)
  leads (Push x) true (Some y) l = inl (Closed, refl)
  leads (ForcePush x) false None l = inr (3, Done, refl, refl)
  leads (ForcePush x) false (Some y) l = inr (3, Displaced, refl, refl)
  leads (ForcePush x) true None l = inl (Closed, refl)
  leads (ForcePush x) true (Some y) l = inl (Closed, refl)
  leads Pop false None l = inl (Empty, refl)
  leads Pop false (Some y) l = inr (1, Done, refl, refl)
  leads Pop true None l = inl (Closed, refl)
  leads Pop true (Some y) l = inr (5, Done, refl, refl)
  leads Close shut o l = absurd (cc)
  leads Len false None l = inl (Length 0, refl)
  leads Len false (Some y) l = inl (Length 1, refl)
  leads Len true None l = inl (Length 0, refl)
  leads Len true (Some y) l = inl (Length 1, refl)
  leads IsEmptyCall false None l = inl (Yes, refl)
  leads IsEmptyCall false (Some y) l = inl (No, refl)
  leads IsEmptyCall true None l = inl (Yes, refl)
  leads IsEmptyCall true (Some y) l = inl (No, refl)
  leads IsFullCall false None l = inl (No, refl)
  leads IsFullCall false (Some y) l = inl (Yes, refl)
  leads IsFullCall true None l = inl (No, refl)
  leads IsFullCall true (Some y) l = inl (Yes, refl)
  leads IsClosedCall false None l = inl (No, refl)
  leads IsClosedCall false (Some y) l = inl (No, refl)
  leads IsClosedCall true None l = inl (Yes, refl)
  leads IsClosedCall true (Some y) l = inl (Yes, refl)

  lone : (w : SingleWorld T) (p : ℕ) (call : Call T) (shut : Bool) (o : Option T) → w.word ≡ word_of shut (free o)
      → w.places p ≡ Stands call (first_turn call) → Within 4 w p
  lone w p call shut o word is = grind (arith, nat_tests)

  begins : (w : SingleWorld T) (p : ℕ) (call : Call T) (shut : Bool) (o : Option T) → w.word ≡ word_of shut (free o) → w.places p ≡ Away
      → Within 4 (stepped w (Begin p call)) p
  begins w p call shut o word is = grind (arith, nat_tests)

  pub a_lone_call_ends : (steps : List (Step T)) → EndsOnSlot steps
  a_lone_call_ends steps all_away p call =
      let r = runs_locked steps new_slot new_scene new_tied (λ odd. absurd (let z : 0 ≡ 1 = odd in omega arith)) in
      let w : SingleWorld T = run steps new_slot in
      let f = free_is w r.0 r.1 r.2 all_away in
      let h = begins w p call r.1.shut f.0 f.1 (all_away p) in
      (h.0, (let z = h.1 in omega arith), h.2)
