-- A list of calls behind another leads from where that has led; and each waker wakes the same by its number.
use Rattle.std.proofs.Common.{◌≡◌, ℕ, ◌++◌, List, [], ◌∷◌, map, Option, refl, ap}
use Rattle.solo.specs.declared.names.SoloWaker.{SoloWaker}
use Rattle.solo.specs.declared.names.SoloWaker.TheVariants.{Task as OfTask, Outside}
use Rattle.plain_scheduler.specs.State.{Choice, Plain}
use Rattle.plain_scheduler.specs.Calls.{Call, course, does}
use Rattle.machine_roads.specs.View.{wakes as wakes_in}
use Rattle.solo_laws.specs.Road.{wakes}
use Rattle.two_roads.specs.Together.{numbered}

module _ {T A : Type 0} (wakes_of : A → Option ℕ) where
  pub course_of_both : (xs ys : List (Choice × Call T A)) (q : Plain T A)
      → course wakes_of (xs ++ ys) q ≡ course wakes_of ys (course wakes_of xs q)
  course_of_both [] ys q = refl
  course_of_both (x ∷ xs) ys q = course_of_both xs ys (does wakes_of x.0 x.1 q)

module _ {X : Type 0} (number : X → ℕ) where
  pub wakes_so : (w : SoloWaker X) → wakes_in (numbered number w) ≡ wakes w
  wakes_so (OfTask task) = refl
  wakes_so (Outside waker) = refl

pub map_twice : {A B C : Type 0} (f : A → B) (g : B → C) (xs : List A) → map g (map f xs) ≡ map (λ x. g (f x)) xs
map_twice f g [] = refl
map_twice f g (x ∷ xs) = ap (λ ys. g (f x) ∷ ys) (map_twice f g xs)
