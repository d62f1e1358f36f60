-- The node over a leaf, found on the way down to that.
use Rattle.std.proofs.Common.{◌≡◌, ◌≢◌, ℕ, ◌+◌, ◌-◌, ◌*◌, ◌^◌, ◌<◌, ◌≤◌, Option, None, length, ap, refl, sym, ◌∙◌, ◌/◌, true, arith, inl, inr}
use Rattle.std.proofs.lemmas.Bool.{cases_eq, cases_lt}
use Rattle.range_nodes.specs.Heap.{Heap, node_items, node_child}
use Rattle.range_nodes.specs.declared.nodes.TheConstants.{CAPACITY}
use Rattle.range_tree.specs.declared.btree.path.Edge.{Edge}
use Rattle.range_tree.specs.declared.btree.path.Home.{Home}
use Rattle.range_tree.specs.declared.btree.path.Subtree.{Subtree}
use Rattle.range_tree.specs.declared.btree.path.TheConstants.{PATH_BASE, MAX_LEVELS}
use Rattle.range_tree.specs.Behind.{IsParent}
use Rattle.range_tree.specs.Edges.{turn, inside, is_start, IsEdge, offset}
use Rattle.range_tree.specs.Nodes.{ShapedBut}
use Rattle.range_tree.proofs.Behind.{HasHome, IsOnTheWay, leaf_end, sets_out, turn_low, goes_by_another, goes_by_the_last, comes_to_the_end, home_sets_out, home_goes_on}
use Rattle.range_tree.proofs.Below.{children_length}
use Rattle.range_tree.proofs.Edges.{leaf_edge, leaf_path, leaf_place, path_small}
use Rattle.range_tree.proofs.InLeaf.{leaf_beside}
use Rattle.range_tree.proofs.Paths.{below_inside, home_above}
use Rattle.range_tree.proofs.PathsBelow.{weight_fits}

module _ {T : Type 0} (s : Heap T) where
  -- how far the way down to the parent of an edge's leaf has come: to a node over so many levels,
  -- from which the edge is seen as `inner`
  pub record IsOver (below number : ℕ) (edge : Edge) (left node weight : ℕ) (inner : Edge)
      : Type 0 where
    pub some : 0 < left
    pub path : ℕ
    pub behind : Option Subtree
    pub way : IsOnTheWay s below number (leaf_end s edge) left node path weight (leaf_end s inner) behind
    pub home : Home
    pub has_home : HasHome s below number edge left node inner home
    pub path_is : edge.path ≡ path + weight * inner.path
    pub index_is : inner.index ≡ edge.index

  pub starts_over : {below number : ℕ} (edge : Edge) → 0 < below → ShapedBut 1 CAPACITY s below number
      → IsEdge s below number edge → 0 < offset s below number edge
      → IsOver below number edge below number 1 edge
  starts_over {below} {number} edge above shaped is some =
      let end = leaf_beside s below number edge (leaf_end s edge) refl refl (omega arith) is in
      record {
        some = above;
        path = 0;
        behind = None;
        way = sets_out s (leaf_end s edge) shaped end.0;
        home = record { node = number; index = 0 };
        has_home = home_sets_out s edge _ is some;
        path_is = omega arith;
        index_is = refl;
      }

  module _ {below number : ℕ} {edge : Edge} {left node weight : ℕ} {inner : Edge}
      (over : IsOver below number edge left node weight inner) (i : ℕ) (i_is : i ≡ turn inner) where
    abbrev kid : ℕ → ℕ
    kid k = node_child s node k

    above : left ≢ 0
    above = omega (arith, over.some)

    pub seat_low : i ≤ length (node_items s node)
    seat_low = turn_low s above over.way i i_is

    further : (path : ℕ) → path ≡ over.path + weight * i → (behind : Option Subtree) → 1 < left
        → IsOnTheWay s below number (leaf_end s edge) (left - 1) (kid i) path (weight * PATH_BASE)
        (inside (leaf_end s inner)) behind
        → IsOver below number edge (left - 1) (kid i) (weight * PATH_BASE) (inside inner)
    further path path_is behind more way =
        let deeper = inner.path / PATH_BASE in
        let digits : inner.path ≡ deeper * PATH_BASE + i = omega (arith, i_is) in
        let home : Home = elim (cases_eq i 0) [
          | inl none ↦ over.home
          | inr some ↦ record { node = node; index = i - 1 }
        ] in
        record {
          some = omega (arith, more);
          path = path;
          behind = behind;
          way = way;
          home = home;
          has_home = home_goes_on s above over.way.lies.shaped over.has_home i i_is home
              (grind arith) (grind arith);
          path_is = rw path_is (over.path_is ∙ ap (λ w. over.path + weight * w) digits ∙ omega arith);
          index_is = over.index_is;
        }

    -- one step further down
    pub goes_over : 1 < left
        → IsOver below number edge (left - 1) (kid i) (weight * PATH_BASE) (inside inner)
    goes_over more =
        elim (cases_lt i (length (node_items s node))) [
          | inl less ↦ further _ refl _ more (goes_by_another s above over.way i i_is less)
          | inr last ↦ further _ refl _ more (goes_by_the_last s above over.way i i_is last)
        ]

    -- no further weight is too great
    pub weight_grows : below < MAX_LEVELS → weight * PATH_BASE < 2 ^ 64
    weight_grows deep = grind (arith, weight_fits, over.way.lies.weight_is, over.some)

    -- over the leaf itself, the node is its parent
    pub parent_found : below < MAX_LEVELS → IsEdge s below number edge → left ≡ 1
        → IsParent s below number edge (record { node = node; index = i; weight = weight })
    parent_found deep is one =
        let shaped = over.way.lies.shaped in
        let bottom : left - 1 ≡ 0 = omega (arith, one) in
        let leaf = rw (bottom, ← i_is) at (below_inside above shaped inner over.has_home.is) in
        let path_is : inner.path ≡ i = omega (arith, i_is, leaf_path s (kid i) (inside inner) leaf) in
        record {
          present = shaped.node.present;
          children = omega (arith, children_length (omega (arith, over.some)) shaped);
          small = omega (
            arith,
            path_small s below number edge deep is,
            weight_fits below left weight deep over.some over.way.lies.weight_is,
          );
          home = λ start some.
              let leads : is_start (inside inner) ≡ true =
              rw (leaf_path s (kid i) (inside inner) leaf, over.index_is, start) refl in
              over.has_home.later (omega (arith, path_is, some))
              ∙ home_above above shaped inner leads
              ∙ ap (λ k. record { node = node; index = k - 1 }) (sym i_is);
          behind = λ less.
              let next = goes_by_another s above over.way i i_is less in
              let comes = comes_to_the_end s (left - 1) (kid i) (over.path + weight * i)
              (weight * PATH_BASE) (leaf_end s (inside inner)) _ bottom next (omega arith) in
              let start : Edge = record { path = 0; leaf = kid (i + 1); index = 0 } in
              let begins = comes.first start
              (rw bottom (leaf_edge s (kid (i + 1)) start refl refl (omega arith)))
              (rw bottom (leaf_place s (kid (i + 1)) start)) in
              let same : edge.path + weight ≡ over.path + weight * i + weight =
              omega (arith, over.path_is, ap (λ w. weight * w) path_is) in
              rw same begins;
        }
