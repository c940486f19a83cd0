use Rattle.std.proofs.Common.{◌≡◌, ◌+◌, ◌++◌, ℕ, List, [], ◌∷◌, length, refl, sym, ap, ◌∙◌, subst, arith, append-nil}
use Rattle.std.proofs.Common.{deque_capacity, deque_len, length-append}
use Rattle.std.proofs.lemmas.List.{append_assoc}
use Rattle.executor_core.specs.Entered.{Entered, IsRising, futures_of}
use Rattle.executor_core.proofs.Rising.{low, low-all, low-found, low-none, low-passed, low-room}
use Rattle.executor_core.proofs.table.entries.Entries.list_to.Goals as goal
use Rattle.executor_core.proofs.table.entries.Entries.list_to.Goals.{then-contains, else-contains}

pub loop-f-init : goal.loop-f-init
loop-f-init c =
    let rising : IsRising 0 c.args.self.now.table =
    subst (IsRising 0) (ap (λ (e : Entered). e.table) c.self.view_is) c.self.invariant.3 in
    let none : low 0 c.args.self.now.table ≡ [] = low-none 0 0 c.args.self.now.table (omega arith) rising in
    record {
      listed = sym (ap (λ (xs : List ℕ). c.args.list.now.items ++ xs) none ∙ append-nil c.args.list.now.items);
      len = omega (arith, ap length none);
      capacity = refl;
    }

pub push_back_reserved-requires : goal.push_back_reserved-requires
push_back_reserved-requires c =
    let rising : IsRising 0 c.args.self.now.table =
    subst (IsRising 0) (ap (λ (e : Entered). e.table) c.self.view_is) c.self.invariant.3 in
    omega (
      arith,
      c.requires.room,
      c.loop-f.invariant.len,
      c.loop-f.invariant.capacity,
      low-room c.loop-f.f c.args.self.now.table rising (sym c.contains.ensures ∙ c.if-contains.true),
    )

pub loop-f-preserved : goal.loop-f-preserved
loop-f-preserved c =
    let rising : IsRising 0 c.args.self.now.table =
    subst (IsRising 0) (ap (λ (e : Entered). e.table) c.self.view_is) c.self.invariant.3 in
    elim c.if-contains.branch [
      | then-contains w ↦
          let next : low (c.loop-f.f + 1) c.args.self.now.table ≡ low c.loop-f.f c.args.self.now.table ++ c.loop-f.f ∷ [] =
          low-found c.loop-f.f c.args.self.now.table rising (sym c.contains.ensures ∙ w.if-contains.true) in
          record {
            listed = ap (λ d. d.items) w.list-is ∙ (w.push_back_reserved.ensures.items
                ∙ (ap (λ (xs : List ℕ). xs ++ c.loop-f.f ∷ []) c.loop-f.invariant.listed
                ∙ (append_assoc c.args.list.now.items (low c.loop-f.f c.args.self.now.table) (c.loop-f.f ∷ [])
                ∙ ap (λ (xs : List ℕ). c.args.list.now.items ++ xs) (sym next))));
            len = omega (
              arith,
              ap deque_len w.list-is,
              w.push_back_reserved.ensures.len,
              c.loop-f.invariant.len,
              ap length next,
              length-append (low c.loop-f.f c.args.self.now.table) (c.loop-f.f ∷ []),
            );
            capacity =
                ap deque_capacity w.list-is ∙ (w.push_back_reserved.ensures.capacity ∙ c.loop-f.invariant.capacity);
          }
      | else-contains w ↦
          let next : low (c.loop-f.f + 1) c.args.self.now.table ≡ low c.loop-f.f c.args.self.now.table =
          low-passed c.loop-f.f c.args.self.now.table rising (sym c.contains.ensures ∙ w.if-contains.false) in
          record {
            listed = ap (λ d. d.items) w.list-is ∙ (c.loop-f.invariant.listed
                ∙ ap (λ (xs : List ℕ). c.args.list.now.items ++ xs) (sym next));
            len = omega (arith, ap deque_len w.list-is, c.loop-f.invariant.len, ap length next);
            capacity = ap deque_capacity w.list-is ∙ c.loop-f.invariant.capacity;
          }
    ]

pub returns : goal.returns
returns c =
    let end : c.loop-f.f ≡ length c.self.inside.seats.items =
    omega (arith, c.loop-f-test.false, c.loop-f.auto.f-end, c.len-f-end.ensures) in
    let all : low c.loop-f.f c.args.self.now.table ≡ c.args.self.now.table =
    subst (λ (xs : List ℕ). low c.loop-f.f xs ≡ xs) (ap (λ (e : Entered). e.table) c.self.view_is)
    (ap (λ (k : ℕ). low k (futures_of c.self.inside.table.entries)) end
    ∙ low-all c.self.inside.seats.items c.self.inside.table.entries c.self.invariant.0) in
    c.loop-f.invariant.listed ∙ ap (λ (xs : List ℕ). c.args.list.now.items ++ xs) all
