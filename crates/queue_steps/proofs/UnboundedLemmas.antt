-- How the blocks of a chain lie after an append and after a take.
use Rattle.std.proofs.Common.{◌≡◌, ℕ, zero, suc, ◌+◌, ◌-◌, ◌%◌, ◌<◌, ◌≤◌, List, [], ◌∷◌, ◌++◌, length, slice_index_or, slice_set, false}
use Rattle.std.proofs.Common.{Option, Some, None, sym, refl, ap, ◌∙◌, subst, append_assoc, length-append, arith}
use Rattle.std.proofs.lemmas.List.{append-nil, length_push}
use Rattle.std.proofs.lemmas.Bool.Decides.{nat_tests}
use Rattle.std.specs.Option.{ForSome}
use Rattle.queue_steps.specs.declared.steps.unbounded.Ends.{Ends}
use Rattle.queue_steps.specs.ClosableQueue.{most_accepted, appended}
use Rattle.queue_steps.specs.Unbounded.{joined, IsLaid, UnboundedAtRest, chain_queue, onto_last, LastHasRoom}
use Rattle.queue_steps.specs.UnboundedTurns.{Append, Link, push_turn, ends_after}

module _ {T : Type 0} where
  pub one_block_or_more : (bs : List (List T)) → LastHasRoom bs → suc (length bs - 1) ≡ length bs
  one_block_or_more [] room = absurd room
  one_block_or_more (b ∷ bs) room = omega arith

  pub last_has_room : (n : ℕ) (bs : List (List T)) (y : List T) → suc n ≡ length bs → LastHasRoom bs → y ≡ slice_index_or bs n y
      → length y < 31
  last_has_room n [] y e room is = absurd room
  last_has_room zero (b ∷ []) y e room is = subst (λ (z : List T). length z < 31) (sym is) room
  last_has_room (suc n) (b ∷ []) y e room is = absurd (omega arith)
  last_has_room zero (b ∷ c ∷ bs) y e room is = absurd (omega arith)
  last_has_room (suc n) (b ∷ c ∷ bs) y e room is = last_has_room n (c ∷ bs) y (omega arith) room is

  pub set_last : (n : ℕ) (bs : List (List T)) (y : List T) (x : T) → suc n ≡ length bs → y ≡ slice_index_or bs n y
      → slice_set bs n (y ++ x ∷ []) ≡ onto_last bs x
  set_last n [] y x e is = absurd (omega arith)
  set_last zero (b ∷ []) y x e is = ap (λ (z : List T). (z ++ x ∷ []) ∷ []) is
  set_last (suc n) (b ∷ []) y x e is = absurd (omega arith)
  set_last zero (b ∷ c ∷ bs) y x e is = absurd (omega arith)
  set_last (suc n) (b ∷ c ∷ bs) y x e is = ap (λ (z : List (List T)). b ∷ z) (set_last n (c ∷ bs) y x (omega arith) is)

  pub joined-onto_last : (b : List T) (bs : List (List T)) (x : T) → joined (onto_last (b ∷ bs) x) ≡ joined (b ∷ bs) ++ x ∷ []
  joined-onto_last b [] x = grind (arith, append_assoc {A = T})
  joined-onto_last b (c ∷ bs) x = ap (λ (z : List T). b ++ z) (joined-onto_last c bs x) ∙ sym (append_assoc b (joined (c ∷ bs)) (x ∷ []))

  pub laid-onto_last : (from : ℕ) (b : List T) (bs : List (List T)) (x : T) (to : ℕ) → IsLaid from (b ∷ bs) to
      → IsLaid from (onto_last (b ∷ bs) x) (to + 1)
  laid-onto_last from b [] x to laid = omega (arith, length-append b (x ∷ []))
  laid-onto_last from b (c ∷ []) x to laid = (laid.0, laid-onto_last 0 c [] x to laid.1)
  laid-onto_last from b (c ∷ d ∷ bs) x to laid = (laid.0, laid-onto_last 0 c (d ∷ bs) x to laid.1)

  pub laid_last_has_room : (from : ℕ) (b : List T) (bs : List (List T)) (to : ℕ) → IsLaid from (b ∷ bs) to → to < 31 → LastHasRoom (b ∷ bs)
  laid_last_has_room from b [] to laid near = omega arith
  laid_last_has_room from b (c ∷ bs) to laid near = laid_last_has_room 0 c bs to laid.1 near

  pub joined-snoc : (bs : List (List T)) (b : List T) → joined (bs ++ b ∷ []) ≡ joined bs ++ b
  joined-snoc [] b = append-nil b
  joined-snoc (c ∷ bs) b = ap (λ (z : List T). c ++ z) (joined-snoc bs b) ∙ sym (append_assoc c (joined bs) b)

  pub laid-snoc : (from : ℕ) (bs : List (List T)) (x : T) → IsLaid from bs 31 → IsLaid from (bs ++ (x ∷ []) ∷ []) 1
  laid-snoc from [] x laid = omega arith
  laid-snoc from (b ∷ []) x laid = (laid, refl)
  laid-snoc from (b ∷ c ∷ bs) x laid = (laid.0, laid-snoc 0 (c ∷ bs) x laid.1)

-- a push that appends to the last block, and one that links a new block
pub append_is : (e : Ends) → Append ≡ push_turn e → (e.closed ≡ false) × (e.tail < most_accepted) × (1 ≤ e.tail % 31)
append_is e turn = grind (arith, nat_tests)

pub link_is : (e : Ends) → Link ≡ push_turn e → (e.closed ≡ false) × (e.tail < most_accepted) × (e.tail % 31 ≡ 0)
link_is e turn = grind (arith, nat_tests)

module _ {T : Type 0} where
  pub blocks_there : (e : Ends) (bs : List (List T)) (spare : Option (List T)) → UnboundedAtRest e bs spare → 1 ≤ e.tail % 31
      → LastHasRoom bs
  blocks_there e [] spare s some = let held = s.held in let laid : e.head % 31 ≡ 0 = s.laid in absurd (omega arith)
  blocks_there e (b ∷ bs) spare s some = laid_last_has_room (e.head % 31) b bs ((e.tail + 30) % 31 + 1) s.laid (omega arith)

  pub rests_appended : (e : Ends) (bs : List (List T)) (spare : Option (List T)) (x : T) → UnboundedAtRest e bs spare
      → e.tail < most_accepted → 1 ≤ e.tail % 31
      → UnboundedAtRest (ends_after e Append) (onto_last bs x) spare
  rests_appended e [] spare x s few some = absurd (blocks_there e [] spare s some)
  rests_appended e (b ∷ bs) spare x s few some = record {
    few = omega arith;
    held = let longer = ap length (joined-onto_last b bs x) in let push = length_push (joined (b ∷ bs)) x in let held = s.held in
        omega arith;
    laid = subst (IsLaid (e.head % 31) (onto_last (b ∷ bs) x)) (omega arith)
        (laid-onto_last (e.head % 31) b bs x ((e.tail + 30) % 31 + 1) s.laid);
    spare_is_empty = s.spare_is_empty;
  }

  pub rests_linked : (e : Ends) (bs : List (List T)) (spare spare' : Option (List T)) (x : T) → UnboundedAtRest e bs spare
      → e.tail < most_accepted → e.tail % 31 ≡ 0
      → ForSome spare' (λ b. b ≡ []) → UnboundedAtRest (ends_after e Link) (bs ++ (x ∷ []) ∷ []) spare'
  rests_linked e bs spare spare' x s few first empty = record {
    few = omega arith;
    held = let longer = ap length (joined-snoc bs (x ∷ [])) in let push = length_push (joined bs) x in let held = s.held in omega arith;
    laid = subst (IsLaid (e.head % 31) (bs ++ (x ∷ []) ∷ [])) (omega arith)
        (laid-snoc (e.head % 31) bs x (subst (IsLaid (e.head % 31) bs) (omega arith) s.laid));
    spare_is_empty = empty;
  }

  pub queue_appended : (e : Ends) (bs : List (List T)) (x : T) → LastHasRoom bs
      → chain_queue (ends_after e Append) (onto_last bs x) ≡ appended (chain_queue e bs) x
  queue_appended e [] x some = absurd some
  queue_appended e (b ∷ bs) x some =
      ap (λ (items : List T). record { items = items; capacity = None; closed = e.closed; accepted = Some (e.tail + 1) })
      (joined-onto_last b bs x)

  pub queue_linked : (e : Ends) (bs : List (List T)) (x : T)
      → chain_queue (ends_after e Link) (bs ++ (x ∷ []) ∷ []) ≡ appended (chain_queue e bs) x
  queue_linked e bs x =
      ap (λ (items : List T). record { items = items; capacity = None; closed = e.closed; accepted = Some (e.tail + 1) })
      (joined-snoc bs (x ∷ []))
