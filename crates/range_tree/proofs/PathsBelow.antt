-- The way down from a node: the edges below a node on it, as they are seen from where it began.
use Rattle.std.proofs.Common.{◌≡◌, ◌≢◌, ℕ, suc, ◌+◌, ◌-◌, ◌*◌, ◌/◌, ◌^◌, ◌<◌, ◌≤◌, length, ap, arith}
use Rattle.std.proofs.Math.Nat.{pow-suc, pow-le-pow_right}
use Rattle.range_nodes.specs.Heap.{Heap, node_items, node_child}
use Rattle.range_nodes.specs.declared.nodes.TheConstants.{CAPACITY}
use Rattle.range_tree.specs.declared.btree.path.Edge.{Edge}
use Rattle.range_tree.specs.declared.btree.path.TheConstants.{PATH_BASE, MAX_LEVELS}
use Rattle.range_tree.specs.Edges.{turn, inside, IsEdge, offset}
use Rattle.range_tree.specs.Nodes.{ShapedBut, before_child}
use Rattle.range_tree.specs.Written.{start_of_place}
use Rattle.range_tree.proofs.Paths.{below_kid, below_edge, below_place}

-- an edge by the path from further above
abbrev pub from_above : ℕ → ℕ → Edge → Edge
from_above path weight e = record e { path = path + weight * e.path }

-- above a leaf no weight is too great
pub weight_fits : (below left weight : ℕ) → below < MAX_LEVELS → 0 < left
    → weight ≡ PATH_BASE ^ (below - left) → weight ≤ 2 ^ 56
weight_fits below left weight deep some is =
    let few : below - left ≤ 14 = omega (arith, deep, some) in
    grind (arith, pow-le-pow_right)

module _ {T : Type 0} (s : Heap T) where
  -- how many items stand before the child at i
  abbrev pub ahead_of : ℕ → ℕ → ℕ → ℕ
  ahead_of b n i = length (before_child s b n i)

  -- the node `at`, over `left` levels, lies below another by this path, behind so many items
  pub record LiesBelow (below number left at path weight ahead : ℕ) : Type 0 where
    pub low : left ≤ below
    pub weight_is : weight ≡ PATH_BASE ^ (below - left)
    pub small : path < weight
    pub shaped : ShapedBut 1 CAPACITY s left at
    pub edge : (e : Edge) → IsEdge s left at e → IsEdge s below number (from_above path weight e)
    pub place_is : (e : Edge) → IsEdge s left at e
        → offset s below number (from_above path weight e) ≡ ahead + offset s left at e

  pub lies_in_child : {below number left : ℕ} (at path weight ahead : ℕ) → left ≢ 0
      → LiesBelow below number left at path weight ahead → (i : ℕ)
      → i ≤ length (node_items s at) → LiesBelow below number (left - 1) (node_child s at i)
      (path + weight * i) (weight * PATH_BASE) (ahead + ahead_of
      left at i)
  lies_in_child {below} {number} {left} at path weight ahead inner lies i low =
      let kid = node_child s at i in
      let few : i ≤ CAPACITY = omega (arith, low, lies.shaped.node.fits) in
      let deeper : below - (left - 1) ≡ suc (below - left) = omega (arith, inner, lies.low) in
      let above = λ (e : Edge). record e { path = e.path * PATH_BASE + i } in
      let turned : (e : Edge) → turn (above e) ≡ i = λ e. omega (arith, few) in
      let within : (e : Edge) → inside (above e) ≡ e = λ e.
      let quotient : (e.path * PATH_BASE + i) / PATH_BASE ≡ e.path = omega (arith, few) in
      ap (λ w. record e { path = w }) quotient in
      let path_is : (w : ℕ) → path + weight * i + weight * PATH_BASE * w
      ≡ path + weight * (w * PATH_BASE + i) = λ w.
      omega arith in
      let edge_above : (e : Edge) → IsEdge s (left - 1) kid e → IsEdge s left at (above e) = λ e is.
      below_edge inner lies.shaped i e (above e) (turned e) (within e) low is in
      grind (
        arith,
        pow-suc PATH_BASE (below - left),
        lies.small,
        below_kid inner lies.shaped i low,
        below_place,
      )

  -- its first edge as it is seen from above
  pub first_below : {below number left : ℕ} (at path weight ahead : ℕ)
      → LiesBelow below number left at path weight ahead → (e : Edge) → IsEdge s left at e
      → offset s left at e ≡ 0 → IsEdge s below number (record e { path = path }) ×
      (offset s below number (record e { path = path }) ≡ ahead)
  first_below {below} {number} {left} at path weight ahead lies e is first =
      grind (arith, start_of_place s 1 CAPACITY left)
