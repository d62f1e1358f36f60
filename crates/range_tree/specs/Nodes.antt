-- What a heap of nodes means: the items in order, the nodes in use, and the shape.
use Rattle.std.specs.Prelude.{◌≡◌, ◌⊎◌, ℕ, zero, suc, ◌+◌, ◌-◌, ◌*◌, ◌<◌, ◌≤◌, List, [], ◌∷◌, ◌++◌, length, map, take, drop, Option, Some, None, IsSome, is_some, cond}
use Rattle.std.specs.Coded.{×_prop, Unit-prop, le_prop}
use Rattle.std.proofs.Math.Nat.{ℕ_set}
use mathlib.Core.Bool.{Bool-set}
use Rattle.std.specs.List.{All, flat_map}
use Rattle.range_nodes.specs.Heap.{Heap, node_of, node_count, child_count, node_items, node_children, node_child}
use Rattle.range_nodes.specs.Occurrences.{occurrences}
use Rattle.range_nodes.specs.declared.nodes.Split.{Split}
use Rattle.range_nodes.specs.declared.nodes.TheConstants.{CAPACITY, MAX_LEN, MIN_LEN}

module _ {X : Type 0} where
  -- each item, followed by what stands to its right
  abbrev pub rest_of : List X → List (List X) → List X
  rest_of xs [] = xs
  rest_of [] (k ∷ ks) = []
  rest_of (x ∷ xs) (k ∷ ks) = x ∷ (k ++ rest_of xs ks)

  -- the lists, with an item between each and the next; with no list the items alone
  abbrev pub weave : List X → List (List X) → List X
  weave xs [] = xs
  weave xs (k ∷ ks) = k ++ rest_of xs ks

  -- each list, followed by the item to its right
  abbrev pub front_of : List X → List (List X) → List X
  front_of [] ks = []
  front_of (x ∷ xs) [] = []
  front_of (x ∷ xs) (k ∷ ks) = (k ++ x ∷ []) ++ front_of xs ks

module _ {X : Type 0} where
  -- what stands before the list at i, and what stands after it
  abbrev pub before : List X → List (List X) → ℕ → List X
  before xs ks i = front_of (take i xs) (take i ks)

  abbrev pub after : List X → List (List X) → ℕ → List X
  after xs ks i = rest_of (drop i xs) (drop (i + 1) ks)

All_of-prop : (P : ℕ → Type 0) → ((n : ℕ) → IsProp (P n)) → (ns : List ℕ) → IsProp (All P ns)
All_of-prop P each ns = hlevel each

module _ {T : Type 0} where
  -- the items below a node, in order, where so many levels are left
  unfoldable pub items_below : Heap T → ℕ → ℕ → List T
  items_below s zero n = []
  items_below s (suc d) n = weave (node_items s n) (map (items_below s d) (node_children s n))

  -- the lists below the children of a node, and what stands before the one at i, and after it
  abbrev pub child_lists : Heap T → ℕ → ℕ → List (List T)
  child_lists s d n = map (items_below s d) (node_children s n)

  abbrev pub before_child : Heap T → ℕ → ℕ → ℕ → List T
  before_child s d n i = before (node_items s n) (child_lists s d n) i

  abbrev pub after_child : Heap T → ℕ → ℕ → ℕ → List T
  after_child s d n i = after (node_items s n) (child_lists s d n) i

  -- the nodes of the tree below a node, and itself
  unfoldable pub used : Heap T → ℕ → ℕ → List ℕ
  used s zero n = []
  used s (suc d) n = n ∷ flat_map (used s d) (node_children s n)

  -- a node with at least so many items, where d levels are below it
  pub record IsNode (least most : ℕ) (s : Heap T) (d n : ℕ) : Type 0 where
    pub present : IsSome (node_of s n)
    pub enough : least ≤ length (node_items s n)
    pub fits : length (node_items s n) ≤ most
    pub branches : length (node_children s n) ≡ child_count d (length (node_items s n))

  -- each node has from MIN_LEN to CAPACITY items, and all leaves are at one depth
  unfoldable pub Shaped : Heap T → ℕ → ℕ → Type 0
  Shaped s zero n = Unit {0}
  Shaped s (suc d) n = IsNode MIN_LEN CAPACITY s d n × All (Shaped s d) (node_children s n)

  -- a node with from least to most items, over d levels of nodes that have from MIN_LEN to CAPACITY
  pub record ShapedBut (least most : ℕ) (s : Heap T) (d n : ℕ) : Type 0 where
    pub node : IsNode least most s d n
    pub children : All (Shaped s d) (node_children s n)

  -- 1 where the heap has a node under k
  abbrev pub here : Heap T → ℕ → ℕ
  here s k = cond (is_some (node_of s k)) 1 0

  -- the nodes below n are there, each once
  abbrev pub Owned : Heap T → ℕ → ℕ → Type 0
  Owned s d n = (k : ℕ) → occurrences k (used s d n) ≤ here s k

  -- the nodes us of the old heap became the nodes vs of the new one; nothing else changed
  pub record Moves (old new : Heap T) (us vs : List ℕ) : Type 0 where
    pub owned : (k : ℕ) → occurrences k vs + here old k ≡ occurrences k us + here new k
    pub outside : (k : ℕ) → occurrences k us ≡ 0 → IsSome (node_of old k)
        → node_of new k ≡ node_of old k
    pub len : node_count new + length us ≡ node_count old + length vs
    pub capacity : new.capacity ≡ old.capacity

  -- the nodes that stand in the place of n, and the items between them
  abbrev pub tops : ℕ → Option (Split T) → List ℕ
  tops n None = n ∷ []
  tops n (Some split) = n ∷ split.right ∷ []

  abbrev pub separators : Option (Split T) → List T
  separators None = []
  separators (Some split) = split.middle ∷ []

  -- a node that was not cut has so many items; halves always have enough
  abbrev pub EnoughFor : ℕ → Option (Split T) → ℕ → Type 0
  EnoughFor least None count = least ≤ count
  EnoughFor least (Some split) count = Unit {0}

  -- the subtree of n, over d levels, became one or two subtrees that together have this list
  pub record Replaces (old new : Heap T) (d n : ℕ) (split : Option (Split T))
      (list : List T) : Type 0 where
    pub listed : weave (separators split) (map (items_below new (suc d)) (tops n split)) ≡ list
    pub moved : Moves old new (used old (suc d) n) (flat_map (used new (suc d)) (tops n split))
    pub shape : (least : ℕ) → least ≤ MIN_LEN → EnoughFor least split (length (node_items old n))
        → All (ShapedBut least CAPACITY new d) (tops n split)

  -- the subtree of n, over d levels, has another list, and the same nodes
  pub record IsRewritten (old new : Heap T) (d n : ℕ) (list : List T) : Type 0 where
    pub listed : items_below new (suc d) n ≡ list
    pub moved : Moves old new (used old (suc d) n) (used new (suc d) n)
    pub shape : (least : ℕ) → least ≤ MIN_LEN → ShapedBut least CAPACITY old d n
        → ShapedBut least CAPACITY new d n

  -- items went from leaf to leaf there: the list is the same, and so are the children of each node
  pub record Refills (old new : Heap T) (d n : ℕ) : Type 0 where
    pub rewritten : IsRewritten old new d n (items_below old (suc d) n)
    pub children : (k : ℕ) → node_children new k ≡ node_children old k

  -- with the nodes outside the subtree there is capacity for the nodes that it needs for so many
  -- more items
  pub record HasTreeRoom (s : Heap T) (d n more : ℕ) : Type 0 where
    pub filled : MIN_LEN * node_count s + (length (items_below s d n) + more) + 1
        ≤ MIN_LEN * s.capacity + MIN_LEN * length (used s d n) + MIN_LEN
    pub few : MIN_LEN * node_count s + (length (items_below s d n) + more) + 1
        ≤ MIN_LEN * s.capacity + MIN_LEN * length (used s d n) + length (node_items s n)

  -- the subtree of n, over d levels, became one with this list, at most one item shorter
  pub record Shrinks (old new : Heap T) (d n : ℕ) (list : List T) : Type 0 where
    pub listed : items_below new (suc d) n ≡ list
    pub moved : Moves old new (used old (suc d) n) (used new (suc d) n)
    pub shape : (least : ℕ) → least + 1 ≤ length (node_items old n)
        → ShapedBut least CAPACITY new d n

  abbrev pub KeepsList : Heap T → Heap T → ℕ → ℕ → Type 0
  KeepsList old new d n = Shrinks old new d n (items_below old (suc d) n)

  -- a root, over the levels below it; the empty tree has none
  abbrev pub IsRoot : Heap T → ℕ → ℕ → Type 0
  IsRoot s zero n = Unit {0}
  IsRoot s (suc d) n = ShapedBut 1 CAPACITY s d n

  -- the nodes of the heap are those of the tree, each once
  pub record IsTree (s : Heap T) (levels root : ℕ) : Type 0 where
    pub shaped : IsRoot s levels root
    pub once : (k : ℕ) → occurrences k (used s levels root) ≡ here s k
    pub len : node_count s ≡ length (used s levels root)

  -- a tree that has a level, and whose root may be empty
  pub record IsLooseTree (s : Heap T) (levels root : ℕ) : Type 0 where
    pub some : 0 < levels
    pub shaped : ShapedBut 0 CAPACITY s (levels - 1) root
    pub once : (k : ℕ) → occurrences k (used s levels root) ≡ here s k
    pub len : node_count s ≡ length (used s levels root)

  -- a node over `suc low` levels, of whose children the one at i may lack an item
  pub record MayBeRebalanced (s : Heap T) (low n i : ℕ) : Type 0 where
    pub node : IsNode 1 CAPACITY s (suc low) n
    pub owned : Owned s (suc (suc low)) n
    pub within : i ≤ length (node_items s n)
    pub before : All (Shaped s (suc low)) (take i (node_children s n))
    pub child : ShapedBut (MIN_LEN - 1) CAPACITY s low (node_child s n i)
    pub behind : All (Shaped s (suc low)) (drop (i + 1) (node_children s n))

  -- a node over `suc low` levels, of whose children one of the two at j and after it may lack an
  -- item
  pub record IsLevelled (s : Heap T) (low n j : ℕ) : Type 0 where
    pub node : IsNode 1 CAPACITY s (suc low) n
    pub owned : Owned s (suc (suc low)) n
    pub within : j < length (node_items s n)
    pub before : All (Shaped s (suc low)) (take j (node_children s n))
    pub left : ShapedBut (MIN_LEN - 1) CAPACITY s low (node_child s n j)
    pub right : ShapedBut (MIN_LEN - 1) CAPACITY s low (node_child s n (j + 1))
    pub behind : All (Shaped s (suc low)) (drop (j + 2) (node_children s n))
    pub enough : MIN_LEN + MIN_LEN ≤ length (node_items s (node_child s n j)) + 1 + length
        (node_items s (node_child s n (j + 1)))

  -- how many items the child of n at k has
  abbrev pub child_size : Heap T → ℕ → ℕ → ℕ
  child_size s n k = length (node_items s (node_child s n k))

  -- the child at k stands beside the one at i, and has an item to spare
  pub record IsLender (s : Heap T) (n i k : ℕ) : Type 0 where
    pub beside : (k + 1 ≡ i) ⊎ (k ≡ i + 1)
    pub within : k ≤ length (node_items s n)
    pub spare : MIN_LEN < child_size s n k

  -- a tree with no more items than its capacity is counted for, and than a tree may have
  pub record IsRoomy (s : Heap T) (levels root : ℕ) : Type 0 where
    pub tree : IsTree s levels root
    pub fits : length (items_below s levels root) ≤ MIN_LEN * s.capacity
    pub counted : length (items_below s levels root) ≤ MAX_LEN

  -- these facts have one proof each
  IsNode-prop : (least most : ℕ) (s : Heap T) (d n : ℕ) → IsProp (IsNode least most s d n)
  IsNode-prop least most s d n = hlevel (le_prop, ℕ_set, Bool-set)

  pub Shaped-prop : (s : Heap T) (d n : ℕ) → IsProp (Shaped s d n)
  unfolding Shaped
  Shaped-prop s zero n = Unit-prop
  Shaped-prop s (suc d) n =
      ×_prop (IsNode-prop MIN_LEN CAPACITY s d n)
      (All_of-prop (Shaped s d) (Shaped-prop s d) (node_children s n))

  pub ShapedBut-prop : (least most : ℕ) (s : Heap T) (d n : ℕ) → IsProp (ShapedBut least most s d n)
  ShapedBut-prop least most s d n =
      hlevel (
        IsNode-prop least most s d n,
        All_of-prop (Shaped s d) (Shaped-prop s d) (node_children s n),
      )

  pub IsRoot-prop : (s : Heap T) (d n : ℕ) → IsProp (IsRoot s d n)
  IsRoot-prop s zero n = Unit-prop
  IsRoot-prop s (suc d) n = ShapedBut-prop 1 CAPACITY s d n

  pub IsRoomy-prop : (s : Heap T) (levels root : ℕ) → IsProp (IsRoomy s levels root)
  IsRoomy-prop s levels root = hlevel (IsRoot-prop s levels root, le_prop, ℕ_set)
