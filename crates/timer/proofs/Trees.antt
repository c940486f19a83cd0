-- What a write leaves of a tree.
use Rattle.std.proofs.Common.{inl, inr, zero, suc, ◌≡◌, ◌≢◌, ◌+◌, ◌-◌, ◌/◌, ◌≤◌, ◌<◌, ℕ, List, arith, ap, sym, ◌∙◌, length, drop, min}
use Rattle.std.proofs.Common.{set, get_or, get_or-set_same, get_or-set_other, subst}
use Rattle.std.proofs.lemmas.Bool.{cases_eq, cases_order}
use Rattle.std.proofs.lemmas.Grind.{get_or_default_zero}
use Rattle.std.proofs.lemmas.List.{length-set, length-drop, get_or-drop}
use Rattle.timer.specs.Tree.{IsTree, HasLesser}

-- a tree, except one node that may have another time than the lesser of the two below it
pub record IsTreeBut (room hole : ℕ) (nodes : List ℕ) : Type 0 where
  pub size : length nodes ≡ room + room
  pub lesser : (i : ℕ) → 0 < i → i < room → i ≢ hole → HasLesser nodes i

-- a write of another place than the three changes nothing of them
unchanged : (nodes : List ℕ) (n v i : ℕ) → i ≢ n → i + i ≢ n → i + i + 1 ≢ n → HasLesser nodes i → HasLesser (set nodes n v) i
unchanged nodes n v i here left right h =
    let a = get_or-set_other nodes n i v 0 here in
    let b = get_or-set_other nodes n (i + i) v 0 left in
    let d = get_or-set_other nodes n (i + i + 1) v 0 right in
    rw (a, b, d) h

pub leaf_written : (room n time half : ℕ) (nodes : List ℕ) → IsTree room nodes → room ≤ n → half ≡ n / 2
    → IsTreeBut room half (set nodes n time)
leaf_written room n time half nodes tree low e = record {
  size = rw length-set tree.size;
  lesser = λ i pos in_room other. unchanged nodes n time i (omega arith) (omega arith) (omega arith) (tree.lesser i pos in_room);
}

pub whole : (room hole : ℕ) (nodes : List ℕ) → IsTreeBut room hole nodes → HasLesser nodes hole → IsTree room nodes
whole room hole nodes tree here = record {
  size = tree.size;
  lesser = λ i pos in_room. elim (cases_eq i hole) [
    | inl same ↦ subst (HasLesser nodes) (sym same) here
    | inr other ↦ tree.lesser i pos in_room other
  ];
}

pub whole_at_root : (room : ℕ) (nodes : List ℕ) → IsTreeBut room 0 nodes → IsTree room nodes
whole_at_root room nodes tree = record {
  size = tree.size;
  lesser = λ i pos in_room. tree.lesser i pos in_room (omega arith);
}

pub node_written : (room node v half : ℕ) (nodes : List ℕ) → IsTreeBut room node nodes → 0 < node → node < room → half ≡ node / 2 →
    v ≡ min (get_or nodes (node + node) 0) (get_or nodes (node + node + 1) 0) → IsTreeBut room half (set nodes node v)
node_written room node v half nodes tree pos in_room e is =
    let within : node < length nodes = omega (arith, tree.size) in
    let a = get_or-set_same nodes node v 0 within in
    let b = get_or-set_other nodes node (node + node) v 0 (omega arith) in
    let d = get_or-set_other nodes node (node + node + 1) v 0 (omega arith) in
    let here : HasLesser (set nodes node v) node = rw (a, b, d) is in
    record {
      size = rw length-set tree.size;
      lesser = λ i p r other. elim (cases_eq i node) [
        | inl same ↦ subst (HasLesser (set nodes node v)) (sym same) here
        | inr differs ↦ unchanged nodes node v i differs (omega arith) (omega arith) (tree.lesser i p r differs)
      ];
    }

-- the root has the least time, by this many steps up
least_within : (steps room i : ℕ) (nodes : List ℕ) → IsTree room nodes → 0 < i → i ≤ steps → i < room + room
    → get_or nodes 1 0 ≤ get_or nodes i 0
least_within zero room i nodes tree pos few within = absurd (omega arith)
least_within (suc steps) room i nodes tree pos few within = elim (cases_eq i 1) [
  | inl root ↦ subst (λ n. get_or nodes 1 0 ≤ get_or nodes n 0) (sym root) (omega arith)
  | inr other ↦
      let above = least_within steps room (i / 2) nodes tree (omega arith) (omega arith) (omega arith) in
      let lesser = tree.lesser (i / 2) (omega arith) (omega arith) in
      elim (cases_eq i (i / 2 + i / 2)) [
        | inl left ↦ subst (λ n. get_or nodes 1 0 ≤ get_or nodes n 0) (sym left) (omega arith)
        | inr differs ↦
            let right : i ≡ i / 2 + i / 2 + 1 = omega arith in
            subst (λ n. get_or nodes 1 0 ≤ get_or nodes n 0) (sym right) (omega arith)
      ]
]

pub least : (room i : ℕ) (nodes : List ℕ) → IsTree room nodes → 0 < i → i < room + room → get_or nodes 1 0 ≤ get_or nodes i 0
least room i nodes tree pos within = least_within i room i nodes tree pos (omega arith) within

-- no leaf has an earlier time than the root
pub least_leaf : (room due : ℕ) (nodes : List ℕ) → IsTree room nodes → 0 < room → due ≡ get_or nodes 1 due →
    (k : ℕ) → k < length (drop room nodes) → due ≤ get_or (drop room nodes) k 0
least_leaf room due nodes tree some is k within =
    let size = tree.size in
    let long = length-drop room nodes in
    let root = get_or_default_zero nodes 1 due (omega arith) in
    let leaf = get_or-drop room nodes k 0 in
    let h = least room (room + k) nodes tree (omega arith) (omega arith) in
    omega (arith, is, root, leaf, h)

-- the leaf of the root's time has that time
pub first_has : (room place due : ℕ) (nodes seen : List ℕ) → seen ≡ nodes → get_or (drop room seen) place 0 ≡ get_or seen 1 0 →
    1 < length nodes → due ≡ get_or nodes 1 due → get_or (drop room nodes) place 0 ≡ due
first_has room place due nodes seen same least long is =
    let root = get_or_default_zero nodes 1 due long in
    subst (λ l. get_or (drop room l) place 0 ≡ get_or l 1 0) same least ∙ sym root ∙ sym is

-- some leaf has the time of this node
leaf_below : (steps room i : ℕ) (nodes : List ℕ) → IsTree room nodes → 0 < i → i < room + room → room + room ≤ i + steps →
    (place : ℕ) × (place < room) × (get_or nodes (room + place) 0 ≡ get_or nodes i 0)
leaf_below zero room i nodes tree pos within far = absurd (omega arith)
leaf_below (suc steps) room i nodes tree pos within far = elim (cases_order i room) [
  | inl leaf ↦ (0, omega arith, ap (λ n. get_or nodes n 0) (omega arith))
  | inr order ↦ elim order [
    | inl inner ↦
        let lesser = tree.lesser i pos inner in
        elim (cases_eq (get_or nodes i 0) (get_or nodes (i + i) 0)) [
          | inl left ↦
              let found = leaf_below steps room (i + i) nodes tree (omega arith) (omega arith) (omega arith) in
              (found.0, found.1, found.2 ∙ sym left)
          | inr differs ↦
              let found = leaf_below steps room (i + i + 1) nodes tree (omega arith) (omega arith) (omega arith) in
              let right : get_or nodes (i + i + 1) 0 ≡ get_or nodes i 0 = omega arith in
              (found.0, found.1, found.2 ∙ right)
        ]
    | inr leaf ↦ (i - room, omega arith, ap (λ n. get_or nodes n 0) (omega arith))
  ]
]

-- some leaf has the time of the root
pub leaf_of_root : (room : ℕ) (nodes : List ℕ) → IsTree room nodes → 0 < room →
    (place : ℕ) × (place < length (drop room nodes)) × (get_or (drop room nodes) place 0 ≡ get_or nodes 1 0)
leaf_of_root room nodes tree some =
    let found = leaf_below (room + room) room 1 nodes tree (omega arith) (omega arith) (omega arith) in
    let size = tree.size in
    let long = length-drop room nodes in
    let inside = found.1 in
    (found.0, omega arith, get_or-drop room nodes found.0 0 ∙ found.2)
