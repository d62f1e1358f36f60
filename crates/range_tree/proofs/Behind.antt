-- The edge behind the leaf of another, and the home of the item before that, found on the way down
-- to the leaf.
use Rattle.std.proofs.Common.{◌≡◌, ◌≢◌, ℕ, zero, suc, ◌+◌, ◌-◌, ◌*◌, ◌<◌, ◌≤◌, Option, Some, None, length, arith}
use Rattle.std.specs.Prelude.{MatchOption}
use Rattle.std.proofs.Math.Nat.{mul-add}
use Rattle.range_nodes.specs.Heap.{Heap, node_items, node_child}
use Rattle.range_nodes.specs.declared.nodes.TheConstants.{CAPACITY}
use Rattle.range_tree.specs.declared.btree.path.Edge.{Edge}
use Rattle.range_tree.specs.declared.btree.path.Home.{Home}
use Rattle.range_tree.specs.declared.btree.path.Subtree.{Subtree}
use Rattle.range_tree.specs.declared.btree.path.TheConstants.{PATH_BASE}
use Rattle.range_tree.specs.Edges.{turn, inside, IsEdge, offset, home_of}
use Rattle.range_tree.specs.Nodes.{items_below, ShapedBut}
use Rattle.range_tree.proofs.Below.{items_below_leaf}
use Rattle.range_tree.proofs.Edges.{leaf_is, leaf_index, leaf_place}
use Rattle.range_tree.specs.Written.{place_of_start}
use Rattle.range_tree.proofs.Paths.{below_turn, below_inside, below_here, home_above, home_inside, home_leaf, past_last, before_next}
use Rattle.range_tree.proofs.PathsBelow.{ahead_of, LiesBelow, lies_in_child, first_below}

module _ {T : Type 0} (s : Heap T) where
  -- the edge at the end of a leaf
  abbrev pub leaf_end : Edge → Edge
  leaf_end edge = record edge { index = length (node_items s edge.leaf) }

  -- where the item before an edge stands, found so far: at `home`, if nothing stands before the
  -- edge as it is seen from the node `at`, else below that
  pub record HasHome (below number : ℕ) (edge : Edge) (left at : ℕ) (inner : Edge) (home : Home)
      : Type 0 where
    pub is : IsEdge s left at inner
    pub first : inner.path + inner.index ≡ 0 → home_of s below number edge ≡ home
    pub later : 0 < inner.path + inner.index
        → home_of s below number edge ≡ home_of s left at inner

  pub home_sets_out : {below number : ℕ} (edge : Edge) (home : Home) → IsEdge s below number edge
      → 0 < offset s below number edge → HasHome below number edge below number edge home
  home_sets_out edge home is some = grind (arith, place_of_start)

  pub home_goes_on : {below number : ℕ} {edge : Edge} {left at : ℕ} {inner : Edge} {home : Home}
      → left ≢ 0 → ShapedBut 1 CAPACITY s left at → HasHome below number edge left at inner home
      → (i : ℕ) → i ≡ turn inner → (next : Home) → (i ≡ 0 → next ≡ home)
      → (0 < i → next ≡ record { node = at; index = i - 1 })
      → HasHome below number edge (left - 1) (node_child s at i) (inside inner) next
  home_goes_on above shaped has i i_is next stays goes =
      grind (arith, below_inside, home_above, home_inside)

  pub home_is_found : {below number : ℕ} {edge : Edge} (left at : ℕ) (inner : Edge) {home : Home}
      → left ≡ 0 → HasHome below number edge left at inner home → (next : Home)
      → (inner.index ≡ 0 → next ≡ home)
      → (0 < inner.index → next ≡ record { node = at; index = inner.index - 1 })
      → next ≡ home_of s below number edge
  unfolding IsEdge
  home_is_found left at inner bottom has next stays goes = grind (arith, home_leaf)

  -- a subtree whose first edge stands behind so many items
  pub record BeginsBehind (below number : ℕ) (subtree : Subtree) (ahead : ℕ) : Type 0 where
    pub low : subtree.below ≤ below
    pub shaped : ShapedBut 1 CAPACITY s subtree.below subtree.node
    pub first : (e : Edge) → IsEdge s subtree.below subtree.node e
        → offset s subtree.below subtree.node e ≡ 0
        → IsEdge s below number (record e { path = subtree.path })
        × (offset s below number (record e { path = subtree.path }) ≡ ahead)

  -- the subtree that comes once so many items and the one after them are passed, if there is one
  abbrev pub ComesAfter : ℕ → ℕ → Option Subtree → ℕ → Type 0
  ComesAfter below number behind passed =
      MatchOption behind (passed ≡ length (items_below s (suc below) number))
      (λ subtree. BeginsBehind below number subtree (passed + 1))

  -- how far the way down to an edge has come: to the node `at`, from which it is seen as `inner`,
  -- with what comes behind that node's items
  pub record IsOnTheWay (below number : ℕ) (edge : Edge) (left at path weight : ℕ) (inner : Edge)
      (behind : Option Subtree) : Type 0 where
    pub ahead : ℕ
    pub lies : LiesBelow s below number left at path weight ahead
    pub is : IsEdge s left at inner
    pub leaf_is : inner.leaf ≡ edge.leaf
    pub index_is : inner.index ≡ edge.index
    pub place_is : offset s below number edge ≡ ahead + offset s left at inner
    pub after : ComesAfter below number behind (ahead + length (items_below s (suc left) at))

  pub sets_out : {below number : ℕ} (edge : Edge) → ShapedBut 1 CAPACITY s below number
      → IsEdge s below number edge → IsOnTheWay below number edge below number 0 1 edge None
  sets_out edge shaped is = grind arith

  module _ {below number : ℕ} {edge : Edge} {left at path weight : ℕ} {inner : Edge}
      {behind : Option Subtree} (above : left ≢ 0)
      (way : IsOnTheWay below number edge left at path weight inner behind) (i : ℕ)
      (i_is : i ≡ turn inner) where
    abbrev kid : ℕ → ℕ
    kid k = node_child s at k

    pub turn_low : i ≤ length (node_items s at)
    turn_low = rw i_is (below_turn above way.lies.shaped inner way.is)

    further : (later : Option Subtree)
        → ComesAfter below number later
        (way.ahead + ahead_of s left at i + length (items_below s left (kid i)))
        → IsOnTheWay below number edge (left - 1) (kid i) (path + weight * i) (weight * PATH_BASE)
        (inside inner) later
    further later after =
        grind (
          arith,
          below_here above way.lies.shaped inner,
          lies_in_child s at path weight way.ahead above way.lies i turn_low,
          below_inside above way.lies.shaped inner way.is,
        )

    -- below the last child nothing else comes behind
    pub goes_by_the_last : length (node_items s at) ≤ i
        → IsOnTheWay below number edge (left - 1) (kid i) (path + weight * i) (weight * PATH_BASE)
        (inside inner) behind
    goes_by_the_last last = grind (arith, past_last, turn_low, further)

    -- below another the next child does
    pub goes_by_another : i < length (node_items s at)
        → IsOnTheWay below number edge (left - 1) (kid i) (path + weight * i) (weight * PATH_BASE)
        (inside inner) (Some (record {
          node = kid (i + 1);
          below = left - 1;
          path = path + weight * i + weight;
        }))
    goes_by_another less =
        let next = lies_in_child s at path weight way.ahead above way.lies (i + 1) (omega arith) in
        let path_is : path + weight * (i + 1) ≡ path + weight * i + weight =
        omega (arith, mul-add weight i 1) in
        let count : way.ahead + ahead_of s left at (i + 1) ≡ way.ahead + ahead_of s left at i +
        length (items_below s left (kid i)) + 1 = omega
        (arith, before_next above way.lies.shaped i less) in
        further _ (record {
          low = next.low;
          shaped = next.shaped;
          first = λ e is none. rw (← path_is, ← count) (first_below s (kid (i + 1))
              (path + weight * (i + 1)) (weight * PATH_BASE)
              (way.ahead + ahead_of s left at (i + 1)) next e is none);
        })

  -- at the end of the leaf all items are passed that stand before the edge
  pub comes_to_the_end : {below number : ℕ} {edge : Edge} (left at path weight : ℕ) (inner : Edge)
      (behind : Option Subtree) → left ≡ 0
      → IsOnTheWay below number edge left at path weight inner behind
      → length (node_items s edge.leaf) ≤ edge.index
      → ComesAfter below number behind (offset s below number edge)
  comes_to_the_end {below} {number} {edge} (suc left) at path weight inner behind bottom way last =
      absurd (omega arith)
  comes_to_the_end zero at path weight inner behind bottom way last =
      grind (arith, leaf_is, items_below_leaf, leaf_place, leaf_index)
