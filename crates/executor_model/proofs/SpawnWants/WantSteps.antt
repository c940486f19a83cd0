-- For spawns_want_memory_as_told.
-- Where one thing is done for a spawn and the end of a call for want of memory comes first then, it asked for a place.
use Rattle.std.proofs.Common.{◌≡◌, ◌∙◌, ℕ, List, [], ◌∷◌, ◌++◌, true, false, ⊎_elim, refl, sym, ap, subst, arith}
use Rattle.std.{proofs.lemmas.List.append_assoc, specs.Prelude.Some, specs.Prelude.reverse}
use Rattle.executor_model.specs.{Calls.Begun, SpawnWants.IsSpawning, Steps.Machine, Steps.stack, Weights.weigh}
use Rattle.executor_model.proofs.SpawnWants.WantFrames.{Any, Asking, Askings, Spawning, asking-later, asks-place, few-want}
use Rattle.executor_model.proofs.Quiet.Calls.{Passes, calling_of, is_end}
use Rattle.executor_model.proofs.SpawnWants.WantFrames.{Enters, is_end_first, want_of}
use Rattle.executor_model.proofs.{Types.Mark, Types.Call, Types.Op, Promises.CallFrames.Tied, Promises.CallServes.misfit}
use Rattle.executor_model.proofs.{Steps.Lists.weigh-append, Steps.Lists.weigh-below, SpawnWants.Tops.first}

-- the frame of a spawn, with what is below it
pub record InSpawn (os : List Op) : Type 0 where
  pub mark : Mark
  pub front : List Op
  pub last : Op
  pub below : List Op
  pub is : os ≡ front ++ last ∷ below
  pub none : weigh calling_of front ≡ 0
  pub answers : calling_of last ≡ 1
  pub spawning : Spawning (Call.Spawn mark) (front ++ last ∷ [])

pub in-spawn : (s : Machine) (p : ℕ) → Askings s → IsSpawning p s.world.trace → InSpawn (reverse (stack s p))
in-spawn s p f k =
    let b : Begun = record { call = Call.Spawn k.mark; own = k.own } in
    let t : Tied Asking asking-later Any s.world.trace (b ∷ k.outer) (reverse (stack s p)) =
    subst (λ (l : List Begun). Tied Asking asking-later Any s.world.trace l (reverse (stack s p))) k.is (f.tied p) in
    record {
      mark = k.mark;
      front = t.0;
      last = t.1;
      below = t.2;
      is = t.3.is;
      none = t.3.none;
      answers = t.3.call;
      spawning = t.3.owes;
    }

-- what comes first weighs no more than all
first-of : (xs below : List Op) (last x : Op) → weigh want_of (xs ++ last ∷ []) ≡ 0 →
    first (xs ++ last ∷ below) ≡ Some x → want_of x ≡ 0
first-of [] below last x z e = let i : last ≡ x = cc in omega (arith, z, ap want_of i)
first-of (y ∷ xs) below last x z e = let i : y ≡ x = cc in omega (arith, z, ap want_of i)

module _ (o x : Op) (rest next : List Op) (k : Passes o next) (n : is_end o ≡ false) (w : want_of x ≡ 1)
    (e : first (next ++ rest) ≡ Some x) where
  in-front : (mark : Mark) (y : Op) (fs below : List Op) (last : Op) → o ∷ rest ≡ y ∷ (fs ++ last ∷ below) →
      weigh calling_of (y ∷ fs) ≡ 0 → Spawning (Call.Spawn mark) (y ∷ (fs ++ last ∷ [])) → Enters o
  in-front mark y fs below last is none h =
      let i : o ≡ y = cc in
      let j : rest ≡ fs ++ last ∷ below = cc in
      let quiet : weigh want_of next ≡ 0 =
      omega (arith, weigh-below want_of calling_of few-want next, k.none (omega (arith, none, ap calling_of i))) in
      let others : weigh want_of (fs ++ last ∷ []) ≡ 0 = ⊎_elim
      (λ (z : weigh want_of (y ∷ (fs ++ last ∷ [])) ≡ 0). omega (arith, z))
      (λ (z : is_end_first (y ∷ (fs ++ last ∷ [])) ≡ true).
      let no : true ≡ false = sym z ∙ (ap is_end (sym i) ∙ n) in absurd (cc)) (h.wants refl) in
      let all : weigh want_of ((next ++ fs) ++ last ∷ []) ≡ 0 =
      ap (weigh want_of) (append_assoc next fs (last ∷ []))
      ∙ (let z : weigh want_of (next ++ (fs ++ last ∷ [])) ≡ 0 =
      omega (arith, quiet, others, weigh-append want_of next (fs ++ last ∷ [])) in z) in
      let q : first ((next ++ fs) ++ last ∷ below) ≡ Some x =
      ap first (append_assoc next fs (last ∷ below)) ∙ (ap (λ (os : List Op). first (next ++ os)) (sym j) ∙ e) in
      absurd (omega (arith, w, first-of (next ++ fs) below last x all q))

  pub asked : InSpawn (o ∷ rest) → Enters o
  asked h = by h.front h.is h.none h.spawning
    where
      by : (front : List Op) → o ∷ rest ≡ front ++ h.last ∷ h.below → weigh calling_of front ≡ 0 →
          Spawning (Call.Spawn h.mark) (front ++ h.last ∷ []) → Enters o
      by [] is none y =
          let i : o ≡ h.last = (let q : o ∷ rest ≡ h.last ∷ h.below = is in cc) in
          asks-place (Call.Spawn h.mark) o refl (ap calling_of i ∙ h.answers) n
          (omega (arith, ap (misfit (Call.Spawn h.mark)) i, y.fits))
      by (z ∷ fs) is none y = in-front h.mark z fs h.below h.last is none y
