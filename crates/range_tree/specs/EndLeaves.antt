-- The first and the last leaf below a node, with the path to the last one.
use Rattle.std.specs.Prelude.{◌≡◌, ℕ, zero, suc, ◌+◌, ◌-◌, ◌/◌, ◌%◌, ◌<◌, length}
use Rattle.std.specs.Coded.{Unit-prop, le_prop}
use Rattle.std.proofs.Common.{arith, refl}
use Rattle.std.proofs.Math.Nat.{ℕ_set}
use Rattle.range_nodes.specs.Heap.{Heap, node_children, node_child}
use Rattle.range_tree.specs.declared.btree.path.Edge.{Edge}
use Rattle.range_tree.specs.declared.btree.path.EndLeaves.{EndLeaves}
use Rattle.range_tree.specs.declared.btree.path.TheConstants.{PATH_BASE}
use Rattle.range_tree.specs.Edges.{turn, inside, IsEdge}

-- the edge before the items of the first leaf
abbrev pub first_start : EndLeaves → Edge
first_start ends = record { path = 0; leaf = ends.first; index = 0 }

module _ {T : Type 0} where
  -- the path goes through the last child of each node
  unfoldable pub IsLastPath : Heap T → ℕ → ℕ → ℕ → Type 0
  IsLastPath s zero n path = Unit {0}
  IsLastPath s (suc d) n path =
      (path % PATH_BASE + 1 ≡ length (node_children s n))
      × IsLastPath s d (node_child s n (path % PATH_BASE)) (path / PATH_BASE)

  -- the leaves at both ends of what lies below the node n, over d levels
  pub record AreEndLeaves (s : Heap T) (d n : ℕ) (ends : EndLeaves) : Type 0 where
    pub first : IsEdge s d n (first_start ends)
    pub last : IsEdge s d n ends.last
    pub start : ends.last.index ≡ 0
    pub path : IsLastPath s d n ends.last.path

  -- the same of a whole tree; the empty one has no leaf
  abbrev pub HasEndLeaves : Heap T → ℕ → ℕ → EndLeaves → Type 0
  HasEndLeaves s levels root ends = 0 < levels → AreEndLeaves s (levels - 1) root ends

  -- these facts have one proof each
  IsEdge-prop : (s : Heap T) (d n : ℕ) (g : Edge) → IsProp (IsEdge s d n g)
  unfolding IsEdge
  IsEdge-prop s zero n g = hlevel (le_prop, ℕ_set)
  IsEdge-prop s (suc d) n g =
      hlevel (le_prop, IsEdge-prop s d (node_child s n (turn g)) (inside g))

  IsLastPath-prop : (s : Heap T) (d n path : ℕ) → IsProp (IsLastPath s d n path)
  unfolding IsLastPath
  IsLastPath-prop s zero n path = Unit-prop
  IsLastPath-prop s (suc d) n path =
      hlevel (
        ℕ_set,
        IsLastPath-prop s d (node_child s n (path % PATH_BASE)) (path / PATH_BASE),
      )

  AreEndLeaves-prop : (s : Heap T) (d n : ℕ) (ends : EndLeaves) → IsProp (AreEndLeaves s d n ends)
  AreEndLeaves-prop s d n ends =
      hlevel (
        IsEdge-prop s d n (first_start ends),
        IsEdge-prop s d n ends.last,
        ℕ_set,
        IsLastPath-prop s d n ends.last.path,
      )

  pub HasEndLeaves-prop : (s : Heap T) (levels root : ℕ) (ends : EndLeaves)
      → IsProp (HasEndLeaves s levels root ends)
  HasEndLeaves-prop s levels root ends = hlevel (AreEndLeaves-prop s (levels - 1) root ends)

-- what has the same children has the same leaves at its ends
module _ {T : Type 0} (s t : Heap T) (same : (k : ℕ) → node_children t k ≡ node_children s k) where
  start_kept : (d n : ℕ) (g : Edge) → g.index ≡ 0 → IsEdge s d n g → IsEdge t d n g
  unfolding IsEdge
  start_kept zero n g start is = (is.0, is.1, omega (arith, start))
  start_kept (suc d) n g start is =
      rw (same n) (is.0, start_kept d (node_child s n (turn g)) (inside g) start is.1)

  path_kept : (d n path : ℕ) → IsLastPath s d n path → IsLastPath t d n path
  unfolding IsLastPath
  path_kept zero n path is = tt
  path_kept (suc d) n path is =
      rw (same n) (
        is.0,
        path_kept d (node_child s n (path % PATH_BASE)) (path / PATH_BASE) is.1,
      )

  pub end_leaves_kept : {levels root : ℕ} {ends : EndLeaves} → HasEndLeaves s levels root ends
      → HasEndLeaves t levels root ends
  end_leaves_kept {levels} {root} {ends} has some =
      let are = has some in
      record {
        first = start_kept (levels - 1) root (first_start ends) refl are.first;
        last = start_kept (levels - 1) root ends.last are.start are.last;
        start = are.start;
        path = path_kept (levels - 1) root ends.last.path are.path;
      }
