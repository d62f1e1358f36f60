-- What a subtree is that was built of new nodes.
use Rattle.std.specs.Prelude.{◌≡◌, ℕ, suc, ◌+◌, ◌*◌, ◌≤◌, [], length}
use Rattle.range_nodes.specs.Heap.{Heap, node_count, node_items}
use Rattle.range_tree.specs.Nodes.{used, ShapedBut, Moves}
use Rattle.range_nodes.specs.declared.nodes.TheConstants.{CAPACITY, MIN_LEN}

module _ {T : Type 0} where
  -- a node with so many items, over d levels, was built of new nodes; nothing else changed
  pub record IsBuilt (old new : Heap T) (d n many : ℕ) : Type 0 where
    pub shape : ShapedBut 0 CAPACITY new d n
    pub items : length (node_items new n) ≡ many
    pub moved : Moves old new [] (used new (suc d) n)

  -- there is capacity for the nodes that so many items need, of which so many stand in the top one
  abbrev pub HasRoomToBuild : Heap T → ℕ → ℕ → Type 0
  HasRoomToBuild s count many = MIN_LEN * node_count s + count + 1 ≤ MIN_LEN * s.capacity + many
