-- No more own queues are looked at by others than there are, once one is changed, comes, goes or is looked at.
use Rattle.std.proofs.Common.{◌≡◌, ℕ, ◌+◌, ◌-◌, ◌<◌, ◌≤◌, ◌==◌, nat_lt, Bool, true, false, List, [], ◌∷◌, length, remove}
use Rattle.std.proofs.Common.{Option, Some, None, length-append, refl, sym, ap, subst, ◌∙◌, arith}
use Rattle.std.specs.List.{swap}
use Rattle.std.proofs.lemmas.Bool.Decides.{nat_tests}
use Rattle.std.proofs.lemmas.List.Edits.{length-remove, length-swap}
use Rattle.std.proofs.lemmas.List.Quantifiers.{position-Some}
use Rattle.solo.specs.declared.names.Task.{Task}
use Rattle.solo.specs.declared.own_queues.Own.{Own}
use Rattle.solo.specs.Cells.{choose}
use Rattle.solo.specs.OwnQueues as own
use Rattle.solo_laws.proofs.Following.Lists.{length_map}
use Rattle.solo_laws.proofs.Following.Owns.{changed_list, changed_now, list_numbers}

abbrev pub Within : own.OwnQueuesValue → Type 0
Within o = o.listed ≤ length o.queues

less : (a b : ℕ) → nat_lt a b ≡ true → a < b
less a b is = grind (arith, nat_tests)

past : (a b : ℕ) → nat_lt a b ≡ false → b ≤ a
past a b is = grind (arith, nat_tests)

placed : (r at : ℕ) (queues : List Own) → own.place_of r queues ≡ Some at → at < length queues
placed r at [] is = absurd cc
placed r at (d ∷ queues) is = (position-Some (λ q. q.number == r) (d ∷ queues) at d is).0

pub changed_within : (f : List Task → List Task) (r : ℕ) (o : own.OwnQueuesValue) → Within o → Within (own.changed f r o)
changed_within f r o few =
    subst Within (sym (changed_now f r o))
    (subst (λ n. o.listed ≤ n)
    (sym (length_map (λ (q : Own). q.number) o.queues) ∙ (ap (λ (ns : List ℕ). length ns) (sym (list_numbers f r o.queues))
    ∙ length_map (λ (q : Own). q.number) (changed_list f r o.queues))) few)

pub opened_within : (o : own.OwnQueuesValue) → Within o → Within (own.opened o)
opened_within o few = let long = length-append o.queues (record { number = o.made; queue = [] } ∷ []) in omega (arith, few, long)

pub closed_within : (r : ℕ) (o : own.OwnQueuesValue) → Within o → Within (own.closed r o)
closed_within r o few = by (own.place_of r o.queues) refl
  where
    by : (at : Option ℕ) → own.place_of r o.queues ≡ at → Within (own.closed_at at o)
    by None is = few
    by (Some at) is = one (nat_lt at o.listed) refl
      where
        one : (b : Bool) → nat_lt at o.listed ≡ b → choose b (o.listed - 1) o.listed ≤ length (remove o.queues at)
        one true early =
            let below = less at o.listed early in
            let long = length-remove o.queues at (placed r at o.queues is) in
            omega (arith, below, long, few)
        one false late =
            let behind = past at o.listed late in
            let there = placed r at o.queues is in
            let long = length-remove o.queues at there in
            omega (arith, behind, there, long)

pub listed_within : (r : ℕ) (o : own.OwnQueuesValue) → Within o → Within (own.listed r o)
listed_within r o few = by (own.place_of r o.queues) refl
  where
    by : (at : Option ℕ) → own.place_of r o.queues ≡ at → Within (own.listed_at at o)
    by None is = few
    by (Some at) is = one (nat_lt at o.listed) refl
      where
        one : (b : Bool) → nat_lt at o.listed ≡ b
            → Within (choose b o (record o { queues = swap o.queues o.listed at; listed = o.listed + 1 }))
        one true early = few
        one false late =
            let behind = past at o.listed late in
            let there = placed r at o.queues is in
            let long = length-swap o.queues o.listed at in
            omega (arith, behind, there, long)
