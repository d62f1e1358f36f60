-- How a search goes down: what it finds below a node is what it finds below the one where it began,
-- by the path between the two.
use Rattle.std.proofs.Common.{◌≡◌, ◌≢◌, ℕ, zero, suc, ◌+◌, ◌-◌, ◌*◌, ◌≤◌, Bool, length, refl, arith, count_by}
use Rattle.std.proofs.lemmas.List.Sums.{count_by-le-length}
use Rattle.range_nodes.specs.Heap.{Heap, node_items, node_child}
use Rattle.range_nodes.specs.declared.nodes.TheConstants.{CAPACITY}
use Rattle.range_tree.specs.declared.btree.path.Edge.{Edge}
use Rattle.range_tree.specs.declared.btree.path.TheConstants.{PATH_BASE}
use Rattle.range_tree.specs.declared.btree.searching.TheConstants.{MAX_ASKS}
use Rattle.range_store.specs.Counting.{AddsSteps}
use Rattle.range_tree.specs.Edges.{IsEdge, offset}
use Rattle.range_tree.specs.Falling.{Falls}
use Rattle.range_tree.specs.Nodes.{items_below, ShapedBut}
use Rattle.range_tree.proofs.Below.{items_below_leaf}
use Rattle.range_tree.proofs.Edges.{leaf_edge, leaf_place}
use Rattle.range_tree.proofs.Searching.{kid_falls, search_step}
use Rattle.range_tree.proofs.PathsBelow.{LiesBelow, lies_in_child}

module _ {T : Type 0} (p : T → Bool) (s : Heap T) where
  -- the edge after what passes below a node
  pub record Outcome (d n : ℕ) (e : Edge) : Type 0 where
    pub edge : IsEdge s d n e
    pub count : offset s d n e ≡ count_by p (items_below s (suc d) n)

  -- how far a search below a node has come: to the node `at`, over `left` levels, before which all
  -- items pass
  pub record Descent (below number left at path weight : ℕ) : Type 0 where
    pub ahead : ℕ
    pub lies : LiesBelow s below number left at path weight ahead
    pub falls : Falls p (items_below s (suc left) at)
    pub count : count_by p (items_below s (suc below) number)
        ≡ ahead + count_by p (items_below s (suc left) at)

  -- it begins at the node itself
  pub begins : (below number : ℕ) → ShapedBut 1 CAPACITY s below number
      → Falls p (items_below s (suc below) number) → Descent below number below number 0 1
  begins below number shaped falls = grind arith

  pub descends : {below number left : ℕ} (at path weight : ℕ) → left ≢ 0
      → Descent below number left at path weight → (i : ℕ)
      → i ≡ count_by p (node_items s at) → Descent below number (left - 1) (node_child s at i)
      (path + weight * i) (weight * PATH_BASE)
  descends {below} {number} {left} at path weight inner d i count =
      let low : i ≤ length (node_items s at) =
      omega (arith, count_by-le-length p (node_items s at)) in
      grind (
        arith,
        search_step p d.lies.shaped (omega arith) d.falls,
        lies_in_child s at path weight d.ahead inner d.lies i low,
        kid_falls p d.lies.shaped (omega arith) i low d.falls,
      )

  -- a leaf ends the path down
  pub descent_ends : {below number : ℕ} (left at path weight : ℕ) → left ≡ 0
      → Descent below number left at path weight → (i : ℕ) → i ≡ count_by p (node_items s at)
      → Outcome below number (record { path = path; leaf = at; index = i })
  descent_ends {below} {number} (suc left) at path weight bottom d i count = absurd (omega arith)
  descent_ends {below} {number} zero at path weight bottom d i count =
      let low : i ≤ length (node_items s at) =
      omega (arith, count_by-le-length p (node_items s at)) in
      let e : Edge = record { path = 0; leaf = at; index = i } in
      grind (arith, leaf_edge s at e refl refl low, leaf_place s at e, items_below_leaf)

-- the steps of a node come to those of the nodes above
pub adds_more : {first before after : ℕ} (below left : ℕ) → left ≢ 0 → left ≤ below
    → AddsSteps first before (below - left) (MAX_ASKS * (below - left))
    → AddsSteps before after 1 MAX_ASKS
    → AddsSteps first after (below - (left - 1)) (MAX_ASKS * (below - (left - 1)))
adds_more below left inner low above here = grind arith
