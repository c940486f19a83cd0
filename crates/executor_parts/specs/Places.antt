-- What a contract sees of `Places`, and how they lie.
use Rattle.std.specs.Prelude.{◌≡◌, ℕ, ◌<◌, ◌≤◌, ◌==◌, ◌&&◌, nat_lt, nat_le, Bool, true, false, List, [], ◌∷◌, length, Option, Some, None}
use Rattle.std.specs.Prelude.{IsSome, refl, ◌++◌}
use Rattle.std.specs.Coded.{Coded, code_by, coded×, coded_ℕ, coded_bool, coded_list, coded_option}
use Rattle.slab.specs.Slab.{Slab, get, slab_len}
use Rattle.executor_parts.specs.Order.{Order, IsIn, IsApart}
use Rattle.executor_parts.specs.declared.places.Held.{Held}
use Rattle.executor_parts.specs.declared.places.EntryPlace.{EntryPlace}
use Rattle.executor_parts.specs.declared.places.Vacancy.{Vacancy}
use Rattle.executor_parts.specs.declared.places.SpawnRefused.{SpawnRefused}
use Rattle.executor_parts.specs.declared.places.SpawnRefused.TheVariants.{Full, NoMemory}

pub record Entry (F W : Type 0) : Type 0 where
  -- where it is: a key, and the stamp that tells it from earlier entries under the same key
  pub key : ℕ
  pub stamp : ℕ
  -- none while it is polled or dropped
  pub future : Option F
  pub waker : W

pub record Places (F W : Type 0) : Type 0 where
  -- in the order in which they entered
  pub entries : List (Entry F W)
  -- at most so many
  pub limit : ℕ
  -- where the next one enters
  pub next : EntryPlace
  -- one more may enter without memory
  pub has_room : Bool
  -- as many as the limit may be there without memory
  pub has_all_room : Bool

-- both are stored as the tuples of their fields
abbrev pub entry_code : {F W : Type 0} → Coded F → Coded W → Coded (Entry F W)
entry_code {F} {W} future waker =
    code_by
    (ℕ × (ℕ × (Option F × W)))
    (coded× coded_ℕ (coded× coded_ℕ (coded× (coded_option future) waker)))
    (λ e. (e.key, (e.stamp, (e.future, e.waker))))
    (λ p. record { key = p.0; stamp = p.1.0; future = p.1.1.0; waker = p.1.1.1 })
    (λ _. refl)

abbrev pub places_code : {F W : Type 0} → Coded F → Coded W → Coded (Places F W)
places_code {F} {W} future waker =
    code_by
    (List (Entry F W) × (ℕ × ((ℕ × ℕ) × (Bool × Bool))))
    (coded× (coded_list (entry_code future waker)) (coded× coded_ℕ (coded× (coded× coded_ℕ coded_ℕ) (coded× coded_bool coded_bool))))
    (λ s. (s.entries, (s.limit, ((s.next.key, s.next.stamp), (s.has_room, s.has_all_room)))))
    (λ p. record {
      entries = p.0;
      limit = p.1.0;
      next = record { key = p.1.1.0.0; stamp = p.1.1.0.1 };
      has_room = p.1.1.1.0;
      has_all_room = p.1.1.1.1;
    })
    (λ _. refl)

module _ {F W : Type 0} where
  -- where an entry is
  abbrev pub place_of : Entry F W → EntryPlace
  place_of e = record { key = e.key; stamp = e.stamp }

  -- the entry under a key
  abbrev pub entry_at : ℕ → List (Entry F W) → Option (Entry F W)
  entry_at key [] = None
  entry_at key (e ∷ es) = elim (key == e.key) [ true ↦ Some e | false ↦ entry_at key es ]

  -- without the entry under a key
  abbrev pub without_entry : ℕ → List (Entry F W) → List (Entry F W)
  without_entry key [] = []
  without_entry key (e ∷ es) = elim (key == e.key) [ true ↦ es | false ↦ e ∷ without_entry key es ]

  -- the entry under a key has this future, or none
  abbrev pub with_future : ℕ → Option F → List (Entry F W) → List (Entry F W)
  with_future key future [] = []
  with_future key future (e ∷ es) = elim (key == e.key) [ true ↦ record e { future = future } ∷ es | false ↦ e ∷ with_future key future es ]

  -- this entry, where it has this stamp
  abbrev pub stamped : ℕ → Option (Entry F W) → Option (Entry F W)
  stamped stamp None = None
  stamped stamp (Some e) = elim (e.stamp == stamp) [ true ↦ Some e | false ↦ None ]

  -- the entry at a place, if it is still there
  abbrev pub entry_in : EntryPlace → List (Entry F W) → Option (Entry F W)
  entry_in place es = stamped place.stamp (entry_at place.key es)

  -- the first where there is such an entry, else the second
  abbrev pub where_there : Option (Entry F W) → List (Entry F W) → List (Entry F W) → List (Entry F W)
  where_there None changed same = same
  where_there (Some e) changed same = changed

  -- without the entry at a place, if that is still there
  abbrev pub left_by : EntryPlace → List (Entry F W) → List (Entry F W)
  left_by place es = where_there (entry_in place es) (without_entry place.key es) es

  -- the entry at a place, if that is still there, has this future, or none
  abbrev pub set_future : EntryPlace → Option F → List (Entry F W) → List (Entry F W)
  set_future place future es = where_there (entry_in place es) (with_future place.key future es) es

  abbrev pub future_of : Option (Entry F W) → Option F
  future_of None = None
  future_of (Some e) = e.future

  abbrev pub waker_of : Option (Entry F W) → Option W
  waker_of None = None
  waker_of (Some e) = Some e.waker

  abbrev pub parts_of : Option (Entry F W) → Option (Option F × W)
  parts_of None = None
  parts_of (Some e) = Some (e.future, e.waker)

  -- what has no place once this future was put into an entry, if that is there
  abbrev pub displaced : F → Option (Entry F W) → Option F
  displaced future None = Some future
  displaced future (Some e) = e.future

  -- one more may enter here, below the limit and without memory
  pub record IsVacancy (v : Vacancy) (s : Places F W) : Type 0 where
    pub place : v.place ≡ s.next
    pub below : length s.entries < s.limit
    pub room : s.has_room ≡ true

  -- why no more may enter: the limit is tested first, and memory is refused only where there was no room
  abbrev pub IsRefusal : Places F W → SpawnRefused → Type 0
  IsRefusal s Full = s.limit ≤ length s.entries
  IsRefusal s NoMemory = (length s.entries < s.limit) × (s.has_room ≡ false)

  -- an entry for this key, if it has one, and then these
  abbrev pub shown : ℕ → Option (Held F W) → List (Entry F W) → List (Entry F W)
  shown key None rest = rest
  shown key (Some h) rest = record { key = key; stamp = h.stamp; future = h.future; waker = h.waker } ∷ rest

  -- the entries under these keys
  abbrev pub entries_of : Slab (Held F W) → List ℕ → List (Entry F W)
  entries_of slab [] = []
  entries_of slab (key ∷ keys) = shown key (get slab key) (entries_of slab keys)

  abbrev pub places_of : Slab (Held F W) → Order → ℕ → ℕ → Places F W
  places_of slab order limit next = record {
    entries = entries_of slab order.keys;
    limit = limit;
    next = record { key = slab.vacant_key; stamp = next };
    has_room = nat_lt (slab_len slab) slab.capacity && nat_lt slab.vacant_key order.room;
    has_all_room = nat_le limit slab.capacity && nat_le slab.capacity order.room;
  }

  -- the keys in order are those of the slab, each once
  pub record IsPlaced (slab : Slab (Held F W)) (keys : List ℕ) : Type 0 where
    pub counted : slab_len slab ≡ length keys
    pub apart : IsApart keys
    pub known : (key : ℕ) → IsSome (get slab key) → IsIn key keys
    pub there : (key : ℕ) → IsIn key keys → IsSome (get slab key)

module _ {F V : Type 0} where
  -- its waker was taken out
  abbrev pub unwoken : Entry F (Option V) → Entry F (Option V)
  unwoken e = record e { waker = None }

  -- the waker of the first entry, if both are there
  abbrev pub first_waker : List (Entry F (Option V)) → Option V
  first_waker [] = None
  first_waker (e ∷ es) = e.waker

  -- the first entry comes last, without a waker
  abbrev pub turned : List (Entry F (Option V)) → List (Entry F (Option V))
  turned [] = []
  turned (e ∷ es) = es ++ unwoken e ∷ []
