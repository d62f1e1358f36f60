-- What a node is to hold, before it is written, and what the heap is once it was.
use Rattle.std.specs.Prelude.{◌≡◌, ℕ, suc, ◌≤◌, List, ◌∷◌, length, map, Option, IsSome}
use Rattle.std.specs.List.{All, flat_map}
use Rattle.range_nodes.specs.Heap.{Heap, node_of, child_count}
use Rattle.range_nodes.specs.Occurrences.{occurrences}
use Rattle.range_nodes.specs.declared.nodes.Split.{Split}
use Rattle.range_nodes.specs.declared.nodes.TheConstants.{CAPACITY, MIN_LEN}
use Rattle.range_tree.specs.Nodes.{weave, items_below, used, Shaped, ShapedBut, here, Moves, tops, separators, EnoughFor}

module _ {T : Type 0} where
  -- the node n, over d levels, may be written with these items and children
  pub record IsContent (s : Heap T) (d n : ℕ) (xs : List T) (ks : List ℕ) : Type 0 where
    pub present : IsSome (node_of s n)
    pub shaped : All (Shaped s d) ks
    pub branches : length ks ≡ child_count d (length xs)
    pub owned : (k : ℕ) → occurrences k (n ∷ flat_map (used s d) ks) ≤ here s k

  -- the node n, and perhaps a new one after it, were written with these items and children
  pub record Settles (old new : Heap T) (d n : ℕ) (xs : List T) (ks : List ℕ)
      (split : Option (Split T)) : Type 0 where
    pub listed : weave (separators split) (map (items_below new (suc d)) (tops n split))
        ≡ weave xs (map (items_below old d) ks)
    pub moved : Moves old new (n ∷ flat_map (used old d) ks)
        (flat_map (used new (suc d)) (tops n split))
    pub shape : (least : ℕ) → least ≤ MIN_LEN → EnoughFor least split (length xs)
        → All (ShapedBut least CAPACITY new d) (tops n split)
