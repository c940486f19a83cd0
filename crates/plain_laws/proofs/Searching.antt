-- A call in which a run searches takes as that run; in another what is chosen of takes is nothing.
use Rattle.std.proofs.lemmas.Bool.Decides.{nat_tests}
use Rattle.std.proofs.Common.{arith}
use Rattle.std.proofs.Common.{◌≡◌, ℕ, false, List, Option, Some, None, ap}
use Rattle.plain_scheduler.specs.State.{Choice, Code, Plain, Run}
use Rattle.plain_scheduler.specs.Takes as takes
use Rattle.plain_scheduler.specs.Calls as calls
use Rattle.plain_scheduler.specs.Calls.{Call, does}
use Rattle.plain_scheduler.specs.Searches.{Search, searches}
use Rattle.plain_scheduler.specs.Searches.{searches_inside}
use Rattle.plain_laws.specs.Searches.{looks_first, taking_as}

pub tell_it : {T A : Type 0} (wakes : A → Option ℕ) (c d : Choice) (call : Call T A) (p : Plain T A) → c.tells ≡ d.tells
    → searches wakes c call p ≡ searches wakes d call p
tell_it wakes c d call p same = ap (λ n. searches wakes (record c { tells = n }) call p) same

module _ {T A : Type 0} (wakes : A → Option ℕ) (c : Choice) where
  abbrev Takes : Plain T A → Search T A → Type 0
  Takes q x = q ≡ takes.take wakes c (Run x.run x.waker) x.at

  pends_in : (codes : List (Code T A)) (p : Plain T A) (x : Search T A) → searches_inside wakes c calls.Pends codes p ≡ Some x
      → Takes (calls.innermost wakes c codes (calls.pends wakes c) p) x
  pends_in codes p x is = grind (arith, nat_tests)

  ends_in : (codes : List (Code T A)) (p : Plain T A) (x : Search T A) → searches_inside wakes c calls.Ends codes p ≡ Some x
      → Takes (calls.innermost wakes c codes (calls.ends wakes c) p) x
  ends_in codes p x is = grind (arith, nat_tests)

  pub searching : (call : Call T A) (p : Plain T A) (x : Search T A) → searches wakes c call p ≡ Some x → Takes (does wakes c call p) x
  searching calls.Pends p x is = pends_in p.inside p x is
  searching calls.Ends p x is = ends_in p.inside p x is
  searching call p x is = absurd (none p.inside is)
    where
      none : (codes : List (Code T A)) → searches_inside wakes c call codes p ≡ Some x → ⊥
      none codes is = grind (arith, nat_tests)

-- where none does, it is nothing what else is chosen as code ends: d, but who is told as in c
abbrev pub telling_as : Choice → Choice → Choice
telling_as c d = record d { tells = c.tells }

module _ {T A : Type 0} (wakes : A → Option ℕ) (c d : Choice) where
  pub pends_none : (codes : List (Code T A)) (p : Plain T A) → searches_inside wakes c calls.Pends codes p ≡ None
      → calls.innermost wakes (telling_as c d) codes (calls.pends wakes (telling_as c d)) p ≡ calls.innermost wakes c codes
      (calls.pends wakes c) p
  pends_none codes p is = grind (arith, nat_tests)

  pub closes_none : (fs all : List ℕ) (p : Plain T A) → calls.close wakes (telling_as c d) fs all p ≡ calls.close wakes c fs all p
  closes_none fs all p = grind (arith, nat_tests)

  pub ends_none : (codes : List (Code T A)) (p : Plain T A) → searches_inside wakes c calls.Ends codes p ≡ None
      → calls.innermost wakes (telling_as c d) codes (calls.ends wakes (telling_as c d)) p ≡ calls.innermost wakes c codes
      (calls.ends wakes c) p
  ends_none codes p is = grind (arith, nat_tests)

  pub gives_none : (v : T) (codes : List (Code T A)) (p : Plain T A)
      → calls.innermost wakes (telling_as c d) codes (calls.gives wakes (telling_as c d) v) p ≡ calls.innermost wakes c codes
      (calls.gives wakes c v) p
  gives_none v codes p = grind (arith, nat_tests)

module _ {T A : Type 0} (wakes : A → Option ℕ) (c d : Choice) where
  pub not_searching : (call : Call T A) (p : Plain T A) → searches wakes c call p ≡ None → looks_first call ≡ false
      → does wakes (taking_as d c) call p ≡ does wakes c call p
  not_searching call p is not = grind (arith, nat_tests)
