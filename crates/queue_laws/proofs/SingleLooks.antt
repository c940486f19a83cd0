-- What a step on the word of a single slot comes to, in each phase of the slot.
use Rattle.std.proofs.Common.{◌≡◌, ◌≢◌, ◌⊎◌, inl, inr, ℕ, ◌-◌, Bool, true, false, not, nat_lt, Option, Some, None, ◌==◌}
use Rattle.std.proofs.Common.{if◌then◌else◌, option_to_list, refl, arith}
use Rattle.queue_steps.specs.SingleTurns.{Turn, Look, Exchange, Unlock, End, Close as CloseTurn, looked_to_push}
use Rattle.queue_steps.specs.SingleTurns.{looked_to_pop}
use Rattle.queue_steps.specs.Reply.{Reply, Done, Displaced}
use Rattle.queue_steps.specs.Calls.{Call, Push, ForcePush, Pop, Close, Len, IsEmptyCall, IsFullCall, IsClosedCall, Acts}
use Rattle.queue_laws.specs.Moments.{Sight, MayAnswer}
use Rattle.std.proofs.lemmas.Bool.Decides.{nat_tests}
use Rattle.queue_laws.specs.SingleSteps.{turn_of, first_turn, answer_of, stored, word_after}

-- nobody has the slot, or the party p has it, which had one thing in it and is to have another, and has it by now or not
pub data Phase (T : Type 0) : Type 0 where
  free : Option T → Phase T
  held : ℕ → Option T → Option T → Bool → Phase T

pub same_word : {A : Type 0} (n : ℕ) (a b : A) → (if n == n then a else b) ≡ a
same_word {A} n a b = grind (arith, nat_tests)

pub is_party : (q p : ℕ) → (q == p) ≡ true → q ≡ p
is_party q p e = grind (arith, nat_tests)

pub is_other : (q p : ℕ) → (q == p) ≡ false → q ≢ p
is_other q p e same = grind (arith, nat_tests)

pub never : {A : Type 0} → false ≡ true → A
never e = cc

module _ {T : Type 0} where
  -- the word by the closed flag
  abbrev pub word_of : Bool → Phase T → ℕ
  word_of false (free None) = 0
  word_of false (free (Some x)) = 2
  word_of false (held p before None done) = 1
  word_of false (held p before (Some x) done) = 3
  word_of true (free None) = 4
  word_of true (free (Some x)) = 6
  word_of true (held p before None done) = 5
  word_of true (held p before (Some x) done) = 7

  abbrev pub content : Phase T → Option T
  content (free o) = o
  content (held p before after false) = before
  content (held p before after true) = after

  abbrev pub item : Phase T → Option T
  item (free o) = o
  item (held p before after done) = after

  abbrev pub sight_of : Bool → Phase T → Sight T
  sight_of shut ph =
      record { queue = record { items = option_to_list (item ph); capacity = Some 1; closed = shut; accepted = None }; incoming = None }

  -- what a call may be about to exchange
  abbrev pub Exchanges : Call T → ℕ → ℕ → Type 0
  Exchanges (Push x) old new = (old ≡ 0) × (new ≡ 3)
  Exchanges (ForcePush x) old new = ((old ≡ 0) × (new ≡ 3)) ⊎ ((old ≡ 2) × (new ≡ 3))
  Exchanges Pop old new = ((old ≡ 2) × (new ≡ 1)) ⊎ ((old ≡ 6) × (new ≡ 5))
  Exchanges Close old new = ⊥
  Exchanges Len old new = ⊥
  Exchanges IsEmptyCall old new = ⊥
  Exchanges IsFullCall old new = ⊥
  Exchanges IsClosedCall old new = ⊥

  abbrev pub LooksFirst : Call T → Type 0
  LooksFirst call = first_turn call ≡ Look

  -- what a look at the word comes to
  abbrev pub Finds : Call T → Turn → Sight T → Type 0
  Finds call Look s = Unit {0}
  Finds call (Exchange old new) s = Exchanges call old new
  Finds call (Unlock r) s = ⊥
  Finds call CloseTurn s = ⊥
  Finds call (End r) s = MayAnswer call (answer_of call r None) s

  pub looks : (call : Call T) (shut : Bool) (ph : Phase T) → LooksFirst call
      → Finds call (turn_of call Look (word_of shut ph)) (sight_of shut ph)
  looks call shut ph l = grind (arith, nat_tests)

  -- an exchange that hits: the party has the slot then, and its call acts
  pub record Hits (call : Call T) (shut : Bool) (ph : Phase T) (p old new : ℕ) : Type 0 where
    pub reply : Reply
    pub turn : turn_of call (Exchange old new) old ≡ Unlock reply
    pub word : new ≡ word_of shut (held p (content ph) (stored call (content ph)) false)
    pub was_free : ph ≡ free (content ph)
    pub acts : Acts (sight_of shut ph).queue call (answer_of call reply (content ph))
        (sight_of shut (held p (content ph) (stored call (content ph)) false)).queue

  pub hits : (call : Call T) (shut : Bool) (ph : Phase T) (p old new : ℕ) → Exchanges call old new → word_of shut ph ≡ old
      → Hits call shut ph p old new
  hits (Push x) false (free None) p old new e is =
      record {
        reply = Done;
        turn = same_word old (Unlock Done) (looked_to_push old);
        word = e.1;
        was_free = refl;
        acts =
            ((refl, omega arith, tt), refl);
      }
  hits (Push x) false (free (Some y)) p old new e is = absurd (let z = e.0 in omega arith)
  hits (Push x) false (held q b None d) p old new e is = absurd (let z = e.0 in omega arith)
  hits (Push x) false (held q b (Some y) d) p old new e is = absurd (let z = e.0 in omega arith)
  hits (Push x) true (free None) p old new e is = absurd (let z = e.0 in omega arith)
  hits (Push x) true (free (Some y)) p old new e is = absurd (let z = e.0 in omega arith)
  hits (Push x) true (held q b None d) p old new e is = absurd (let z = e.0 in omega arith)
  hits (Push x) true (held q b (Some y) d) p old new e is = absurd (let z = e.0 in omega arith)
  hits (ForcePush x) false (free None) p old new e is = record {
    reply = Done;
    turn = grind (arith, nat_tests);
    word = new_is e;
    was_free = refl;
    acts = ((refl, omega arith, tt), refl);
  }
    where
      new_is : ((old ≡ 0) × (new ≡ 3)) ⊎ ((old ≡ 2) × (new ≡ 3)) → new ≡ 3
      new_is h0 = grind (arith, nat_tests)
  hits (ForcePush x) false (free (Some y)) p old new e is = record {
    reply = Displaced;
    turn = grind (arith, nat_tests);
    word = new_is e;
    was_free = refl;
    acts = (refl, refl, tt, refl, refl);
  }
    where
      new_is : ((old ≡ 0) × (new ≡ 3)) ⊎ ((old ≡ 2) × (new ≡ 3)) → new ≡ 3
      new_is h0 = grind (arith, nat_tests)
  hits (ForcePush x) false (held q b None d) p old new (inl k) is = absurd (let z = k.0 in omega arith)
  hits (ForcePush x) false (held q b None d) p old new (inr k) is = absurd (let z = k.0 in omega arith)
  hits (ForcePush x) false (held q b (Some y) d) p old new (inl k) is = absurd (let z = k.0 in omega arith)
  hits (ForcePush x) false (held q b (Some y) d) p old new (inr k) is = absurd (let z = k.0 in omega arith)
  hits (ForcePush x) true (free None) p old new (inl k) is = absurd (let z = k.0 in omega arith)
  hits (ForcePush x) true (free None) p old new (inr k) is = absurd (let z = k.0 in omega arith)
  hits (ForcePush x) true (free (Some y)) p old new (inl k) is = absurd (let z = k.0 in omega arith)
  hits (ForcePush x) true (free (Some y)) p old new (inr k) is = absurd (let z = k.0 in omega arith)
  hits (ForcePush x) true (held q b None d) p old new (inl k) is = absurd (let z = k.0 in omega arith)
  hits (ForcePush x) true (held q b None d) p old new (inr k) is = absurd (let z = k.0 in omega arith)
  hits (ForcePush x) true (held q b (Some y) d) p old new (inl k) is = absurd (let z = k.0 in omega arith)
  hits (ForcePush x) true (held q b (Some y) d) p old new (inr k) is = absurd (let z = k.0 in omega arith)
  hits Pop false (free None) p old new (inl k) is = absurd (let z = k.0 in omega arith)
  hits Pop false (free None) p old new (inr k) is = absurd (let z = k.0 in omega arith)
  hits Pop false (free (Some y)) p old new (inl k) is =
      record { reply = Done; turn = same_word old (Unlock Done) (looked_to_pop old); word = k.1; was_free = refl; acts = (refl, refl) }
  hits Pop false (free (Some y)) p old new (inr k) is = absurd (let z = k.0 in omega arith)
  hits Pop false (held q b None d) p old new (inl k) is = absurd (let z = k.0 in omega arith)
  hits Pop false (held q b None d) p old new (inr k) is = absurd (let z = k.0 in omega arith)
  hits Pop false (held q b (Some y) d) p old new (inl k) is = absurd (let z = k.0 in omega arith)
  hits Pop false (held q b (Some y) d) p old new (inr k) is = absurd (let z = k.0 in omega arith)
  hits Pop true (free None) p old new (inl k) is = absurd (let z = k.0 in omega arith)
  hits Pop true (free None) p old new (inr k) is = absurd (let z = k.0 in omega arith)
  hits Pop true (free (Some y)) p old new (inl k) is = absurd (let z = k.0 in omega arith)
  hits Pop true (free (Some y)) p old new (inr k) is =
      record { reply = Done; turn = same_word old (Unlock Done) (looked_to_pop old); word = k.1; was_free = refl; acts = (refl, refl) }
  hits Pop true (held q b None d) p old new (inl k) is = absurd (let z = k.0 in omega arith)
  hits Pop true (held q b None d) p old new (inr k) is = absurd (let z = k.0 in omega arith)
  hits Pop true (held q b (Some y) d) p old new (inl k) is = absurd (let z = k.0 in omega arith)
  hits Pop true (held q b (Some y) d) p old new (inr k) is = absurd (let z = k.0 in omega arith)
  hits Close shut ph p old new e is = absurd e
  hits Len shut ph p old new e is = absurd e
  hits IsEmptyCall shut ph p old new e is = absurd e
  hits IsFullCall shut ph p old new e is = absurd e
  hits IsClosedCall shut ph p old new e is = absurd e

  -- an exchange that misses goes on from the word that it found
  pub misses : (call : Call T) (old new found : ℕ) → Exchanges call old new → (found == old) ≡ false
      → turn_of call (Exchange old new) found ≡ turn_of call Look found
  misses call old new found e miss = grind (arith, nat_tests)

  pub closed_word : (shut : Bool) (ph : Phase T) → word_after CloseTurn (word_of shut ph) ≡ word_of true ph
  closed_word shut ph = grind (arith, nat_tests)

  pub open_word : (shut : Bool) (ph : Phase T) → nat_lt (word_of shut ph) 4 ≡ not shut
  open_word shut ph = grind (arith, nat_tests)

  pub done_word : (shut : Bool) (p : ℕ) (b a : Option T) → word_of shut (held p b a false) ≡ word_of shut (held p b a true)
  done_word shut p b a = grind (arith, nat_tests)

  pub unlocked_word : (shut : Bool) (p : ℕ) (b a : Option T) → word_of shut (held p b a true) - 1 ≡ word_of shut (free a)
  unlocked_word shut p b a = grind (arith, nat_tests)
