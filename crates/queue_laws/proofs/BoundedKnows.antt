-- What a call remembers of a ring stays right while other parties go on. n is the number of places, m the mark.
use Rattle.std.proofs.lemmas.Bool.Decides.{nat_tests}
use Rattle.std.proofs.Common.{◌≡◌, ◌≢◌, ◌⊎◌, inl, inr, ℕ, ◌+◌, ◌<◌, ◌≤◌, List, [], ◌∷◌, length, drop, Bool, Option}
use Rattle.std.proofs.Common.{refl, ◌∙◌, lt_of_not-le, length-drop, arith}
use mathlib.Core.Logic.{dite}
use native.Mathlib.Decide.{dec_le}
use Rattle.queue_steps.specs.BoundedTurns.{Turn}
use Rattle.queue_steps.specs.Calls.{Call, Answer}
use Rattle.queue_laws.specs.Moments.{Sight, Progress, AtSome, MayEnd, sees}
use Rattle.queue_laws.specs.BoundedSteps.{Place}
use Rattle.queue_laws.proofs.BoundedState.{Grip, held, Ghost, Kind, looking, holding, ending, kind_of, Fact, Sure, Both, Past, Gone, Aged}
use Rattle.queue_laws.proofs.BoundedState.{OpenAt, OpenFull, LenAt, EmptyAt, FullAt, age, sight_of, Base, WasOpen, WasLong, WasSome}
use Rattle.queue_laws.proofs.BoundedState.{WasNotFull, Knows, Grips, StandsAs, TiedPlace}

module _ {T : Type 0} where
  pub at_some : (P Q : Sight T → Type 0) → ((s : Sight T) → P s → Q s) → (seen : List (Sight T)) → AtSome P seen → AtSome Q seen
  at_some P Q goes [] at = at
  at_some P Q goes (s ∷ seen) (inl here) = inl (goes s here)
  at_some P Q goes (s ∷ seen) (inr there) = inr (at_some P Q goes seen there)

  -- how many items there are
  pub length_is : (n m : ℕ) (g : Ghost T) → Base n m g → length (drop g.popped g.all) + g.popped ≡ g.pushed
  length_is n m g b = let l = length-drop g.popped g.all in let a = b.behind in let c = b.counted in omega arith

  -- what other parties' steps may do: the counts go on, by one at most, and each place goes on
  pub record Grows (n m : ℕ) (g g' : Ghost T) : Type 0 where
    pub pushed : g.pushed ≤ g'.pushed
    pub popped : g.popped ≤ g'.popped
    pub once : g'.pushed + g'.popped ≤ g.pushed + g.popped + 1
    pub ages : (i : ℕ) → age (g.cells i) ≤ age (g'.cells i)

  -- places go on, and nothing else changes
  pub record Stays (n m : ℕ) (g g' : Ghost T) : Type 0 where
    pub pushed : g'.pushed ≡ g.pushed
    pub popped : g'.popped ≡ g.popped
    pub sight : sight_of n m g' ≡ sight_of n m g
    pub ages : (i : ℕ) → age (g.cells i) ≤ age (g'.cells i)

  module _ (n m : ℕ) (g g' : Ghost T) where
    not_none : (xs : List T) → 0 < length xs → xs ≢ []
    not_none xs some = grind (arith, nat_tests)

    empty_grows : Base n m g → Base n m g' → Grows n m g g' → (q : ℕ) (seen : List (Sight T)) → q ≤ g.popped
        → (g.pushed ≡ q) ⊎ AtSome (WasSome) seen
        → (g'.pushed ≡ q) ⊎ AtSome (WasSome) (sight_of n m g' ∷ seen)
    empty_grows b b' gr q seen gone (inr at) = inr (inr at)
    empty_grows b b' gr q seen gone (inl is) = dite (dec_le g'.pushed g.pushed)
        (λ le. inl (let a = gr.pushed in omega arith))
        (λ not. let more : g.pushed < g'.pushed = lt_of_not-le not in
        inr (inl (not_none (drop g'.popped g'.all) (let l = length_is n m g' b' in let a = b.behind in let o = gr.once in
        let p = gr.popped in omega arith))))

    full_grows : Base n m g → Base n m g' → Grows n m g g' → (c : ℕ) (seen : List (Sight T)) → c ≤ g.pushed
        → (g.popped + n ≡ c) ⊎ AtSome (WasNotFull n m) seen
        → (g'.popped + n ≡ c) ⊎ AtSome (WasNotFull n m) (sight_of n m g' ∷ seen)
    full_grows b b' gr c seen past (inr at) = inr (inr at)
    full_grows b b' gr c seen past (inl is) = dite (dec_le g'.popped g.popped)
        (λ le. inl (let a = gr.popped in omega arith))
        (λ not. let more : g.popped < g'.popped = lt_of_not-le not in
        inr (inl (refl, λ full. let l = length_is n m g' b' in let a = b.within in let o = gr.once in let p = gr.pushed in omega arith)))

    pub knows_more : Base n m g → Base n m g' → Grows n m g g' → (seen : List (Sight T)) (f : Fact) → Knows n m g seen f
        → Knows n m g' (sight_of n m g' ∷ seen) f
    knows_more b b' gr seen Sure k = tt
    knows_more b b' gr seen (Both x y) k = (knows_more b b' gr seen x k.0, knows_more b b' gr seen y k.1)
    knows_more b b' gr seen (Past c) k = let a = gr.pushed in omega arith
    knows_more b b' gr seen (Gone q) k = let a = gr.popped in omega arith
    knows_more b b' gr seen (Aged i a) k = let z = gr.ages i in omega arith
    knows_more b b' gr seen (OpenAt c) k = grind (arith, nat_tests, at_some, WasOpen)
    knows_more b b' gr seen OpenFull k = inr k
    knows_more b b' gr seen (LenAt c q) k = grind (arith, nat_tests, at_some, WasLong)
    knows_more b b' gr seen (EmptyAt q) k = ((grind (arith, nat_tests)), empty_grows b b' gr q seen k.0 k.1)
    knows_more b b' gr seen (FullAt c) k = grind (arith, nat_tests, full_grows)

    pub knows_still : Stays n m g g' → (seen : List (Sight T)) (f : Fact) → Knows n m g seen f → Knows n m g' seen f
    knows_still st seen Sure k = tt
    knows_still st seen (Both x y) k = (knows_still st seen x k.0, knows_still st seen y k.1)
    knows_still st seen (Past c) k = let a = st.pushed in omega arith
    knows_still st seen (Gone q) k = let a = st.popped in omega arith
    knows_still st seen (Aged i a) k = let z = st.ages i in omega arith
    knows_still st seen (OpenAt c) k = grind (arith, nat_tests)
    knows_still st seen OpenFull k = k
    knows_still st seen (LenAt c q) k = grind (arith, nat_tests)
    knows_still st seen (EmptyAt q) k = grind (arith, nat_tests)
    knows_still st seen (FullAt c) k = grind (arith, nat_tests)

    -- a party that has a place still has it
    abbrev pub Keeps : ℕ → Type 0
    Keeps p = (i c : ℕ) (call : Call T) (grip : Grip) (o : Option T) (d : Bool)
        → g.cells i ≡ record { round = c; phase = held p call grip o d } → g'.cells i ≡ g.cells i

    more_seen : (look : Sight T) (k : Progress T) (o : Option (Answer T)) (a : Answer T) → MayEnd k o a
        → MayEnd (record k { seen = look ∷ k.seen }) o a
    more_seen look k o a may = grind (arith, nat_tests)

    grips_more : (p : ℕ) (call : Call T) (t : Turn) (o : Option T) (d : Bool) (k : Progress T) → Keeps p → Grips n m g p call t o d k
        → Grips n m g' p call t o d k
    grips_more p call t o d k keep h = (h.0, h.1, h.2, h.3, keep h.0 h.1 call h.2 o d h.4 ∙ h.4, h.5, h.6)

    stands_more : Base n m g → Base n m g' → Grows n m g g' → (kind : Kind) (p : ℕ) (call : Call T) (t : Turn) (k : Progress T) → Keeps p
        → StandsAs n m kind g p call t k → StandsAs n m kind g' p call t (record k { seen = sight_of n m g' ∷ k.seen })
    stands_more b h1 gr kind p call t k keep h = grind (arith, nat_tests, looking, knows_more, holding, grips_more, ending, more_seen, sight_of)

    -- another party's place, where the queue has become something else
    pub tied_more : Base n m g → Base n m g' → Grows n m g g' → (p : ℕ) (place : Place T) (c : Option (Progress T)) → Keeps p
        → TiedPlace n m g p place c → TiedPlace n m g' p place (sees (sight_of n m g') c)
    tied_more b h1 gr p place c keep tied = grind (arith, nat_tests, sight_of, stands_more, kind_of, grips_more)

    stands_still : Stays n m g g' → (kind : Kind) (p : ℕ) (call : Call T) (t : Turn) (k : Progress T) → Keeps p
        → StandsAs n m kind g p call t k → StandsAs n m kind g' p call t k
    stands_still st kind p call t k keep h = grind (arith, nat_tests, looking, knows_still, holding, grips_more, ending)

    -- another party's place, where the queue has not changed
    pub tied_still : Stays n m g g' → (p : ℕ) (place : Place T) (c : Option (Progress T)) → Keeps p → TiedPlace n m g p place c
        → TiedPlace n m g' p place c
    tied_still st p place c keep tied = grind (arith, nat_tests, stands_still, kind_of, grips_more)
