-- Where nothing is taken, what comes stands behind what was due.
use Rattle.std.proofs.lemmas.Bool.Decides.{nat_tests}
use Rattle.std.proofs.Common.{arith}
use Rattle.std.proofs.Common.{◌≡◌, ℕ, true, false, List, [], Option, refl, sym}
use Rattle.plain_scheduler.specs.State.{Choice, Code, Due, Future, Plain}
use Rattle.plain_scheduler.specs.Moves.{appended, changed}
use Rattle.plain_scheduler.specs.Calls.{Call, does}
use Rattle.plain_laws.specs.Coming.{ComesBehind, takes_none}
use Rattle.plain_laws.proofs.Calling.{MayCall, MayCode, Ways, call_so}
use Rattle.plain_laws.proofs.Walk.{Keeps, Lasts}
use Rattle.plain_laws.proofs.Words.{assoc, none_last, nothing_behind}

module _ {T A : Type 0} (before : List Due) where
  abbrev Behind : Plain T A → Type 0
  Behind p = ComesBehind before p.due

  behind_appended : (f : ℕ) → Keeps Behind (appended f)
  behind_appended f = grind (arith, nat_tests, assoc, none_last)

  behind_changed : (h : Future T A → Future T A) (f : ℕ) → Keeps Behind (changed h f)
  behind_changed h f = grind (arith, nat_tests)

  behind_lasts : Lasts Behind
  behind_lasts = grind (arith, nat_tests, behind_changed, behind_appended)

  module _ (wakes : A → Option ℕ) (c : Choice) where
    abbrev ways : Ways wakes c Behind Behind
    ways =
        record {
          lasts = behind_lasts;
          stops = λ p good. good;
          May = λ by. ⊥;
          take = λ by may p good. absurd may;
          gives_way = λ k w may p good. absurd may;
          MayEnter = λ code. Unit {0};
          enter = λ code may p good. good;
          drops = λ f end by may. tt;
          loses = λ awaiter by may. tt;
          drops_own = λ k answer. tt;
          pops = λ code rest p is good. good;
          MayGo = λ k. ⊥;
          gone = λ k may p good. absurd may;
          MayClose = ⊥;
          close = λ may fs all p good. absurd may;
        }

module _ (T A : Type 0) (before : List Due) (wakes : A → Option ℕ) (c : Choice) where
  abbrev IsBehind : Plain T A → Type 0
  IsBehind p = Behind before p

  abbrev all_ways : Ways wakes c IsBehind IsBehind
  all_ways = ways before wakes c

  never : (X : Type 0) → false ≡ true → X
  never X is = absurd cc

  abbrev EndsSo : Code T A → Type 0
  EndsSo code = MayCode wakes c IsBehind IsBehind all_ways code

  may_call : (call : Call T A) (p : Plain T A) → takes_none call p.inside ≡ true → MayCall wakes c IsBehind IsBehind all_ways call p
  may_call call p is = grind (arith, nat_tests)

module _ {T A : Type 0} (wakes : A → Option ℕ) (c : Choice) where
  pub comes_behind : (call : Call T A) (p : Plain T A) → takes_none call p.inside ≡ true → ComesBehind p.due (does wakes c call p).due
  comes_behind call p is =
      call_so wakes c (IsBehind T A p.due wakes c) (IsBehind T A p.due wakes c) (all_ways T A p.due wakes c) call p
      (may_call T A p.due wakes c call p is)
      (record { came = []; stands = sym (nothing_behind p.due); unkept = refl })
