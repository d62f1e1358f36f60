-- What stands at a rank, and what is known of a whole tree.
use Rattle.std.proofs.Common.{◌≡◌, ℕ, zero, suc, ◌+◌, ◌*◌, ◌≤◌, [], length, refl, arith}
use Rattle.range_nodes.specs.Heap.{Heap, node_count, node_items, node_child}
use Rattle.range_nodes.specs.declared.nodes.TheConstants.{CAPACITY, MIN_LEN}
use Rattle.range_tree.specs.Nodes.{items_below, used, ShapedBut, IsTree}
use Rattle.range_tree.proofs.Below.{Shaped-but}
use Rattle.range_nodes.proofs.Occurrences.{occurrences-nil}

pub items_below_none : {T : Type 0} (s : Heap T) (n : ℕ) → items_below s zero n ≡ []
unfolding items_below
items_below_none s n = refl

pub used_none : {T : Type 0} (s : Heap T) (n : ℕ) → used s zero n ≡ []
unfolding used
used_none s n = refl

pub IsTree-none : {T : Type 0} (s : Heap T) (root : ℕ) → s.slots ≡ [] → IsTree s zero root
IsTree-none s root empty = grind (arith, used_none, occurrences-nil)

-- an empty tree has no node
pub nothing_stored : {T : Type 0} {s : Heap T} (levels : ℕ) {root : ℕ} → levels ≡ 0
    → IsTree s levels root → node_count s ≡ 0
nothing_stored levels none tree = grind (arith, used_none)

-- an empty tree leaves all capacity free
pub first_room : {T : Type 0} {s : Heap T} (levels : ℕ) {root : ℕ} → levels ≡ 0
    → IsTree s levels root → length (items_below s levels root) + 1 ≤ MIN_LEN * s.capacity
    → node_count s + 1 ≤ s.capacity
first_room levels none tree room = grind (arith, used_none)

pub kid_shaped : {T : Type 0} {least most : ℕ} {s : Heap T} (d : ℕ) {n : ℕ} (i : ℕ)
    → ShapedBut least most s (suc d) n → i ≤ length (node_items s n)
    → ShapedBut MIN_LEN CAPACITY s d (node_child s n i)
kid_shaped {T} {least} {most} {s} d i shaped within = Shaped-but s d _
    (shaped.children i 0 (omega (arith, shaped.node.branches)))
