-- What entries weigh, as futures are taken out of them and put into them.
use Rattle.std.proofs.Common.{◌≡◌, ℕ, ◌+◌, ◌==◌, Bool, true, false, List, [], ◌∷◌, ◌++◌, map, Option, Some, None, refl, ap, arith}
use Rattle.executor_parts.specs.declared.places.EntryPlace.{EntryPlace}
use Rattle.executor_parts.specs.Places.{Entry, entry_at, entry_in, stamped, where_there, without_entry, with_future, left_by as entry_left}
use Rattle.executor_parts.specs.Places.{set_future, future_of, displaced, unwoken}
use Rattle.solo.specs.declared.names.Task.{Task}
use Rattle.solo.specs.Table.{rest_of, first_parts}
use Rattle.solo.specs.Turns as turns
use Rattle.solo_laws.specs.Weights.{weight_of, weight_in, weight_found}

module _ {F : Type 0} (weigh : F → ℕ) where
  module _ {W : Type 0} where
    abbrev weight : List (Entry F W) → ℕ
    weight es = weight_in weigh es

    -- of the future of an entry, if that is there
    abbrev pub held : Option (Entry F W) → ℕ
    held found = weight_of weigh (future_of found)

    -- of what is put into an entry, if that is there
    abbrev pub put : Option (Entry F W) → Option F → ℕ
    put None future = 0
    put (Some e) future = weight_of weigh future

    pub put_none : (found : Option (Entry F W)) → put found None ≡ 0
    put_none None = refl
    put_none (Some e) = refl

    with_weight : (key : ℕ) (future : Option F) (es : List (Entry F W))
        → weight (with_future key future es) + held (entry_at key es) ≡ weight es + put (entry_at key es) future
    with_weight key future [] = refl
    with_weight key future (e ∷ es) = by (key == e.key) (with_weight key future es)
      where
        by : (b : Bool)
            → weight (with_future key future es) + held (entry_at key es) ≡ weight es + put (entry_at key es) future
            → weight (elim b [ true ↦ record e { future = future } ∷ es | false ↦ e ∷ with_future key future es ])
            + held (elim b [ true ↦ Some e | false ↦ entry_at key es ])
            ≡ weight (e ∷ es) + put (elim b [ true ↦ Some e | false ↦ entry_at key es ]) future
        by true rest = omega arith
        by false rest = omega (arith, rest)

    stamped_weight : (stamp : ℕ) (found : Option (Entry F W)) (future : Option F) (changed es : List (Entry F W))
        → weight changed + held found ≡ weight es + put found future
        → weight (where_there (stamped stamp found) changed es) + held (stamped stamp found)
        ≡ weight es + put (stamped stamp found) future
    stamped_weight stamp None future changed es is = refl
    stamped_weight stamp (Some e) future changed es is = by (e.stamp == stamp)
      where
        by : (b : Bool)
            → weight (where_there (elim b [ true ↦ Some e | false ↦ None ]) changed es)
            + held (elim b [ true ↦ Some e | false ↦ None ])
            ≡ weight es + put (elim b [ true ↦ Some e | false ↦ None ]) future
        by true = is
        by false = refl

    -- a future is taken out of an entry or put into it
    pub set_weight : (place : EntryPlace) (future : Option F) (es : List (Entry F W))
        → weight (set_future place future es) + held (entry_in place es)
        ≡ weight es + put (entry_in place es) future
    set_weight place future es =
        stamped_weight place.stamp (entry_at place.key es) future (with_future place.key future es) es
        (with_weight place.key future es)

    without_weight : (key : ℕ) (es : List (Entry F W))
        → weight (without_entry key es) + held (entry_at key es) ≡ weight es
    without_weight key [] = refl
    without_weight key (e ∷ es) = by (key == e.key) (without_weight key es)
      where
        by : (b : Bool) → weight (without_entry key es) + held (entry_at key es) ≡ weight es
            → weight (elim b [ true ↦ es | false ↦ e ∷ without_entry key es ])
            + held (elim b [ true ↦ Some e | false ↦ entry_at key es ])
            ≡ weight (e ∷ es)
        by true rest = omega arith
        by false rest = omega (arith, rest)

    stamped_less : (stamp : ℕ) (found : Option (Entry F W)) (less es : List (Entry F W))
        → weight less + held found ≡ weight es
        → weight (where_there (stamped stamp found) less es) + held (stamped stamp found) ≡ weight es
    stamped_less stamp None less es is = omega arith
    stamped_less stamp (Some e) less es is = by (e.stamp == stamp)
      where
        by : (b : Bool)
            → weight (where_there (elim b [ true ↦ Some e | false ↦ None ]) less es)
            + held (elim b [ true ↦ Some e | false ↦ None ])
            ≡ weight es
        by true = is
        by false = omega arith

    pub left_weight : (place : EntryPlace) (es : List (Entry F W))
        → weight (entry_left place es) + held (entry_in place es) ≡ weight es
    left_weight place es =
        stamped_less place.stamp (entry_at place.key es) (without_entry place.key es) es (without_weight place.key es)

    pub append_weight : (es : List (Entry F W)) (e : Entry F W)
        → weight (es ++ e ∷ []) ≡ weight es + weight_of weigh e.future
    append_weight [] e = omega arith
    append_weight (d ∷ es) e = let rest = append_weight es e in omega (arith, rest)

    -- what an entry had no room for
    pub displaced_weight : (future : F) (found : Option (Entry F W))
        → weight_of weigh (displaced future found) + put found (Some future) ≡ held found + weigh future
    displaced_weight future None = omega arith
    displaced_weight future (Some e) = refl

  pub unwoken_weight : (es : List (Entry F (Option Task))) → weight_in weigh (map unwoken es) ≡ weight_in weigh es
  unwoken_weight [] = refl
  unwoken_weight (e ∷ es) = ap (λ n. weight_of weigh e.future + n) (unwoken_weight es)

  -- of the first entry's future
  abbrev pub parts_weight : Option (Option F × Option Task) → ℕ
  parts_weight None = 0
  parts_weight (Some parts) = weight_of weigh parts.0

  pub first_weight : (es : List (Entry F (Option Task))) → weight_in weigh (rest_of es) + parts_weight (first_parts es) ≡ weight_in weigh es
  first_weight [] = refl
  first_weight (e ∷ es) = omega arith

  pub poll_weight : (task : Task) (place : EntryPlace) (future : Option F)
      → weight_found weigh (turns.poll_found task place future) ≡ weight_of weigh future
  poll_weight task place None = refl
  poll_weight task place (Some future) = refl

  pub drop_weight : (task : Task) (place : EntryPlace) (future : Option F)
      → weight_found weigh (turns.drop_found task place future) ≡ weight_of weigh future
  drop_weight task place None = refl
  drop_weight task place (Some future) = refl
