-- For all laws of one future.
-- What a trace tells of a future, read from left to right: how often it was accepted and dropped, whether there was a
-- cause for a drop, and which accepted futures were not dropped before the drop of the executor began.
use Rattle.std.proofs.Common.{◌≡◌, ◌≢◌, ◌⊎◌, ℕ, suc, ◌+◌, ◌==◌, ◌≤◌, List, [], ◌∷◌, ◌++◌, length, Bool, true, false, ◌||◌, not}
use Rattle.std.proofs.Common.{cond, eqb, refl, ap, inl, inr, ⊎_elim, arith}
use Rattle.std.proofs.lemmas.Bool.Decides.{nat_tests}
use Rattle.executor_model.specs.declared.event.Event.TheVariants.{Accepted, Answered, Cancelled, Detached, LastWaker, Dropped}
use Rattle.executor_model.specs.declared.event.Answer.TheVariants.{Ready}
use Rattle.executor_model.specs.declared.event.Event.TheVariants.{DropBegun, DropEnded}
use Rattle.executor_model.specs.{Trace.Trace, World.without, World.among, Weights.same, Sound.times}
use Rattle.executor_model.proofs.{Types.Event, Steps.Cases.by_bool, Steps.Lists.same_cases, Steps.Lists.without_one}

-- the list without any f
abbrev pub except : ℕ → List ℕ → List ℕ
except f [] = []
except f (g ∷ gs) = elim (f == g) [ true ↦ except f gs | false ↦ g ∷ except f gs ]

pub record Story : Type 0 where
  pub accepted : ℕ
  pub fallen : ℕ
  -- drops before that of the executor began
  pub early : ℕ
  -- drops before which there was no cause
  pub strays : ℕ
  pub caused : Bool
  -- it was detached, and nobody was left who could wake it before the drop of the executor began
  pub detached : Bool
  pub last : Bool
  -- the drop of the executor has begun, or ended
  pub begun : Bool
  pub ended : Bool
  -- of all futures: those that were accepted, and not dropped before the drop of the executor began
  pub standing : List ℕ

abbrev pub untold : Story
untold = record {
  accepted = 0;
  fallen = 0;
  early = 0;
  strays = 0;
  caused = false;
  detached = false;
  last = false;
  begun = false;
  ended = false;
  standing = [];
}

abbrev pub hears : ℕ → Event → Story → Story
hears g (Accepted p f) s = record s { accepted = s.accepted + same g f; standing = s.standing ++ f ∷ [] }
hears g (Dropped p f) s =
    record s {
      fallen = s.fallen + same g f;
      early = s.early + cond s.begun 0 (same g f);
      strays = s.strays + cond s.caused 0 (same g f);
      standing = cond s.begun s.standing (except f s.standing);
    }
hears g (Answered p f Ready) s = record s { caused = cond (g == f) true s.caused }
hears g (Cancelled p f) s = record s { caused = cond (g == f) true s.caused }
hears g (Detached p f) s = record s { detached = cond (g == f) true s.detached }
hears g (LastWaker p f) s =
    record s { caused = cond (g == f) (s.caused || s.detached) s.caused; last = cond (g == f) (s.last || not s.begun) s.last }
hears g (DropBegun p) s = record s { caused = true; begun = true }
hears g (DropEnded p) s = record s { ended = true }
hears g _ s = s

abbrev pub story_from : ℕ → Story → Trace → Story
story_from g s [] = s
story_from g s (e ∷ es) = story_from g (hears g e s) es

unfoldable pub story : ℕ → Trace → Story
story g es = story_from g untold es

story_from-push : (g : ℕ) (s : Story) (es : Trace) (e : Event) →
    story_from g s (es ++ e ∷ []) ≡ hears g e (story_from g s es)
story_from-push g s [] e = refl
story_from-push g s (x ∷ es) e = story_from-push g (hears g x s) es e

pub story-push : (g : ℕ) (es : Trace) (e : Event) → story g (es ++ e ∷ []) ≡ hears g e (story g es)
unfolding story
story-push g es e = story_from-push g untold es e

pub story-none : (g : ℕ) → story g [] ≡ untold
unfolding story
story-none g = refl

-- lists of numbers

except-go : (g f x : ℕ) (xs : List ℕ) (b : Bool) → eqb f x ≡ b →
    ((same g f ≡ 1) × (times g (except f xs) ≡ 0)) ⊎ ((same g f ≡ 0) × (times g (except f xs) ≡ times g xs)) →
    ((same g f ≡ 1) × (times g (elim b [ true ↦ except f xs | false ↦ x ∷ except f xs ]) ≡ 0))
    ⊎ ((same g f ≡ 0) × (times g (elim b [ true ↦ except f xs | false ↦ x ∷ except f xs ]) ≡ same g x + times g xs))
except-go = λ g f x xs. by_bool _
    (λ e ih. let q : f ≡ x = grind (arith, nat_tests) in grind (arith, same_cases))
    (λ e ih. let q : f ≢ x = grind (arith, nat_tests) in grind (arith, same_cases))

-- for grind, which picks it up at a list that is written so
pub times-except : (g f : ℕ) (xs : List ℕ) →
    (times g (except f xs) ≡ times g (except f xs))
    × (((same g f ≡ 1) × (times g (except f xs) ≡ 0)) ⊎ ((same g f ≡ 0) × (times g (except f xs) ≡ times g xs)))
times-except g f xs = (refl, go xs)
  where
    go : (xs : List ℕ) → ((same g f ≡ 1) × (times g (except f xs) ≡ 0))
        ⊎ ((same g f ≡ 0) × (times g (except f xs) ≡ times g xs))
    go [] = grind (arith, same_cases)
    go (x ∷ xs) = except-go g f x xs (eqb f x) refl (go xs)

length-go : (f x : ℕ) (xs : List ℕ) (b : Bool) → length (except f xs) ≤ length xs →
    length {A = ℕ} (elim b [ true ↦ except f xs | false ↦ x ∷ except f xs ]) ≤ suc (length xs)
length-go f x xs true ih = omega (arith, ih)
length-go f x xs false ih = omega (arith, ih)

pub length-except : (f : ℕ) (xs : List ℕ) → length (except f xs) ≤ length xs
length-except f [] = omega arith
length-except f (x ∷ xs) = length-go f x xs (eqb f x) (length-except f xs)

among-go : (f x : ℕ) (xs : List ℕ) (b : Bool) → eqb f x ≡ b →
    ((among f xs ≡ true) × (1 ≤ times f xs)) ⊎ ((among f xs ≡ false) × (times f xs ≡ 0)) →
    ((elim b [ true ↦ true | false ↦ among f xs ] ≡ true) × (1 ≤ same f x + times f xs))
    ⊎ ((elim b [ true ↦ true | false ↦ among f xs ] ≡ false) × (same f x + times f xs ≡ 0))
among-go = λ f x xs. by_bool _
    (λ e ih. inl (refl, grind (arith, nat_tests, same_cases)))
    (λ e ih. let q : f ≢ x = grind (arith, nat_tests) in grind (arith, same_cases))

pub among_is : (f : ℕ) (xs : List ℕ) →
    ((among f xs ≡ true) × (1 ≤ times f xs)) ⊎ ((among f xs ≡ false) × (times f xs ≡ 0))
among_is f [] = inr (refl, refl)
among_is f (x ∷ xs) = among-go f x xs (eqb f x) refl (among_is f xs)

without-go : (f x : ℕ) (xs : List ℕ) (b : Bool) → (among f xs ≡ true → suc (length (without f xs)) ≡ length xs) →
    elim b [ true ↦ true | false ↦ among f xs ] ≡ true →
    suc (length {A = ℕ} (elim b [ true ↦ xs | false ↦ x ∷ without f xs ])) ≡ suc (length xs)
without-go f x xs true ih e = refl
without-go f x xs false ih e = ap suc (ih e)

pub length-without : (f : ℕ) (xs : List ℕ) → among f xs ≡ true → suc (length (without f xs)) ≡ length xs
length-without f [] e = absurd (cc)
length-without f (x ∷ xs) e = without-go f x xs (eqb f x) (length-without f xs) e

is-there : (f : ℕ) (xs : List ℕ) → 1 ≤ times f xs → among f xs ≡ true
is-there f xs h = ⊎_elim (λ (x : (among f xs ≡ true) × (1 ≤ times f xs)). x.0)
    (λ (x : (among f xs ≡ false) × (times f xs ≡ 0)). absurd (omega (arith, h, x.1))) (among_is f xs)

same-self : (f : ℕ) → same f f ≡ 1
same-self f = grind (arith, same_cases)

-- a list in which no number stands more often than in another is no longer
pub no-longer : (xs ys : List ℕ) → ((g : ℕ) → times g xs ≤ times g ys) → length xs ≤ length ys
no-longer [] ys h = omega arith
no-longer (x ∷ xs) ys h =
    let a : among x ys ≡ true = is-there x ys (omega (arith, h x, same-self x)) in
    omega (arith, length-without x ys a, no-longer xs (without x ys) (λ g. omega (arith, h g, without_one g x ys a)))
