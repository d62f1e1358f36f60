-- How many levels a tree of so many items may have.
use Rattle.std.proofs.Common.{◌≡◌, ℕ, zero, suc, ◌+◌, ◌-◌, ◌*◌, ◌^◌, ◌<◌, ◌≤◌, List, [], ◌∷◌, length, map, ap, arith}
use Rattle.std.specs.List.{All}
use Rattle.std.proofs.Math.Nat.{pow-suc, suc-mul, zero-mul, mul_comm, mul-le-mul_right}
use Rattle.std.proofs.lemmas.List.{nil_from_length}
use Rattle.std.proofs.lemmas.List.Sums.{sum_by-cons}
use Rattle.std.proofs.lemmas.List.Elements.{All-head, All-tail}
use Rattle.range_nodes.specs.Heap.{Heap, node_children}
use Rattle.range_nodes.specs.declared.nodes.TheConstants.{CAPACITY, MIN_LEN}
use Rattle.range_tree.specs.Depth.{HasLevels}
use Rattle.range_tree.specs.Nodes.{items_below, Shaped, ShapedBut, IsTree}
use Rattle.range_tree.proofs.Below.{Shaped-but}
use Rattle.range_tree.proofs.Room.{sizes, items_below_size}
use Rattle.range_tree.proofs.Rank.{items_below_none}

children_sizes : {T : Type 0} (s : Heap T) (d p q : ℕ)
    → ((n : ℕ) → Shaped s d n
    → (p ≤ length (items_below s d n) + 1) × (length (items_below s d n) + 1 ≤ q))
    → (ns : List ℕ) → All (Shaped s d) ns
    → (length ns * p ≤ sizes s d ns + length ns) × (sizes s d ns + length ns ≤ length ns * q)
children_sizes {T} s d p q below [] shaped =
    (omega (arith, zero-mul p), omega (arith, zero-mul q))
children_sizes {T} s d p q below (n ∷ ns) shaped =
    let first = below n (All-head (Shaped s d) n ns shaped) in
    let later = children_sizes s d p q below ns (All-tail (Shaped s d) n ns shaped) in
    let all = sum_by-cons (length {A = T}) (items_below s d n) (map (items_below s d) ns) in (
      omega (arith, suc-mul (length ns) p, first.0, later.0, all),
      omega (arith, suc-mul (length ns) q, first.1, later.1, all),
    )

but_sizes : {T : Type 0} {least most : ℕ} {s : Heap T} (d : ℕ) {n : ℕ}
    → ((k : ℕ) → Shaped s d k → ((MIN_LEN + 1) ^ d ≤ length (items_below s d k) + 1)
    × (length (items_below s d k) + 1 ≤ (CAPACITY + 1) ^ d))
    → ShapedBut least most s d n
    → ((least + 1) * (MIN_LEN + 1) ^ d ≤ length (items_below s (suc d) n) + 1)
    × (length (items_below s (suc d) n) + 1 ≤ (most + 1) * (CAPACITY + 1) ^ d)
but_sizes {T} {least} {most} {s} zero {n} below shaped = (
  omega (arith, items_below_size shaped),
  grind (arith, items_below_size shaped, nil_from_length (node_children s n) shaped.node.branches),
)
but_sizes {T} {least} {most} {s} (suc d) {n} below shaped =
    let ks = node_children s n in
    let p = (MIN_LEN + 1) ^ suc d in
    let q = (CAPACITY + 1) ^ suc d in
    let all = children_sizes s (suc d) p q below ks shaped.children in
    grind (arith, items_below_size shaped, mul-le-mul_right)

items_sizes : {T : Type 0} (s : Heap T) (d n : ℕ) → Shaped s d n
    → ((MIN_LEN + 1) ^ d ≤ length (items_below s d n) + 1)
    × (length (items_below s d n) + 1 ≤ (CAPACITY + 1) ^ d)
items_sizes s zero n shaped = (omega arith, omega (arith, ap length (items_below_none s n)))
items_sizes s (suc d) n shaped =
    grind (arith, but_sizes d (items_sizes s d) (Shaped-but s d n shaped))

-- a tree that is not empty
pub tree_lower : {T : Type 0} {s : Heap T} (d : ℕ) {root : ℕ} → IsTree s (suc d) root
    → 2 * (MIN_LEN + 1) ^ d ≤ length (items_below s (suc d) root) + 1
tree_lower {T} {s} d {root} tree = (but_sizes d (items_sizes s d) tree.shaped).0

pub tree_upper : {T : Type 0} {s : Heap T} (d : ℕ) {root : ℕ} → IsTree s (suc d) root
    → length (items_below s (suc d) root) + 1 ≤ (CAPACITY + 1) ^ suc d
tree_upper {T} {s} d {root} tree =
    let most = (but_sizes d (items_sizes s d) tree.shaped).1 in
    omega (arith, pow-suc (CAPACITY + 1) d, mul_comm (CAPACITY + 1) ((CAPACITY + 1) ^ d), most)

-- a power outgrows its exponent
pub pow_more : (d : ℕ) → d + 1 ≤ (MIN_LEN + 1) ^ d
pow_more zero = omega arith
pow_more (suc d) = omega (arith, pow-suc (MIN_LEN + 1) d, pow_more d)

pub levels_le : {T : Type 0} {s : Heap T} (levels : ℕ) {root : ℕ} → IsTree s levels root
    → levels ≤ length (items_below s levels root)
levels_le levels tree = grind (arith, tree_lower, pow_more)

pub empty_levels : {T : Type 0} {s : Heap T} {levels root : ℕ} → IsTree s levels root
    → length (items_below s levels root) ≡ 0 → levels ≡ 0
empty_levels {T} {s} {levels} {root} tree none = omega (arith, levels_le levels tree)

pub levels_least : {T : Type 0} {s : Heap T} (levels : ℕ) {root : ℕ} → IsTree s levels root
    → 0 < length (items_below s levels root)
    → 2 * (MIN_LEN + 1) ^ (levels - 1) ≤ length (items_below s levels root) + 1
levels_least {T} {s} zero {root} tree some = grind (arith, items_below_none)
levels_least (suc d) {root} tree some = grind (arith, tree_lower)

pub levels_most : {T : Type 0} {s : Heap T} (levels : ℕ) {root : ℕ} → IsTree s levels root
    → 0 < length (items_below s levels root)
    → length (items_below s levels root) + 1 ≤ (CAPACITY + 1) ^ levels
levels_most {T} {s} zero {root} tree some = grind (arith, items_below_none)
levels_most {T} {s} (suc d) {root} tree some = tree_upper d tree

pub has_levels : {T : Type 0} {s : Heap T} {levels root : ℕ} → IsTree s levels root
    → HasLevels (length (items_below s levels root)) levels
has_levels tree = grind (arith, empty_levels, levels_least, levels_most)
