-- Numbered nodes as their callers see them, each with its items and the numbers of its children.
use Rattle.std.specs.Prelude.{◌≡◌, ◌≢◌, ℕ, zero, suc, ◌+◌, ◌-◌, ◌<◌, ◌≤◌, List, [], ◌∷◌, ◌++◌, length, take, drop, Option, Some, None, is_some, IsSome, count_by, slice_index, slice_index_or, slice_set, refl}
use Rattle.std.specs.List.{insert, remove}
use Rattle.std.specs.Coded.{Coded, code_by, coded×, coded_ℕ, coded_list, coded_option}

-- what a node has
pub record Content (T : Type 0) : Type 0 where
  pub items : List T
  pub children : List ℕ

-- the node or nothing under each number from 0 on, and how many nodes fit with no allocation
pub record Heap (T : Type 0) : Type 0 where
  pub slots : List (Option (Content T))
  pub capacity : ℕ

-- both are stored as the pair of their fields
abbrev pub content_code : {T : Type 0} → Coded T → Coded (Content T)
content_code {T} code =
    code_by
    (List T × List ℕ)
    (coded× (coded_list code) (coded_list coded_ℕ))
    (λ c. (c.items, c.children))
    (λ p. record { items = p.0; children = p.1 })
    (λ _. refl)

abbrev pub heap_code : {T : Type 0} → Coded T → Coded (Heap T)
heap_code {T} code =
    code_by
    (List (Option (Content T)) × ℕ)
    (coded× (coded_list (coded_option (content_code code))) coded_ℕ)
    (λ s. (s.slots, s.capacity))
    (λ p. record { slots = p.0; capacity = p.1 })
    (λ _. refl)

-- a leaf has no child, another node one more than items
abbrev pub child_count : ℕ → ℕ → ℕ
child_count zero k = 0
child_count (suc d) k = k + 1

-- the children with another one at a place, if there is another
abbrev pub with_child : List ℕ → ℕ → Option ℕ → List ℕ
with_child ks i None = ks
with_child ks i (Some k) = insert ks i k

module _ {T : Type 0} where
  -- the node under a number
  abbrev pub node_of : Heap T → ℕ → Option (Content T)
  node_of s n = slice_index_or s.slots n None

  abbrev pub HasNode : Heap T → ℕ → Type 0
  HasNode s n = IsSome (node_of s n)

  -- the fields of a node that may be absent
  abbrev pub items_of : Option (Content T) → List T
  items_of None = []
  items_of (Some node) = node.items

  abbrev pub children_of : Option (Content T) → List ℕ
  children_of None = []
  children_of (Some node) = node.children

  -- the items of the node under a number, and the numbers of its children
  abbrev pub node_items : Heap T → ℕ → List T
  node_items s n = items_of (node_of s n)

  abbrev pub node_children : Heap T → ℕ → List ℕ
  node_children s n = children_of (node_of s n)

  -- its child at an index
  abbrev pub node_child : Heap T → ℕ → ℕ → ℕ
  node_child s n i = slice_index (node_children s n) i

  abbrev pub node_count : Heap T → ℕ
  node_count s = count_by is_some s.slots

  -- so many more nodes fit with no allocation
  abbrev pub HasRoomFor : Heap T → ℕ → Type 0
  HasRoomFor s more = node_count s + more ≤ s.capacity

  -- each number has what it had
  pub record SameNodes (old new : Heap T) : Type 0 where
    pub nodes : (k : ℕ) → node_of new k ≡ node_of old k
    pub len : node_count new ≡ node_count old

  -- the nodes with another item at an index of one
  abbrev pub with_item : Heap T → ℕ → ℕ → T → Heap T
  with_item s n i x =
      record s {
        slots = slice_set s.slots n (Some
            (record {
              items = slice_set (node_items s n) i x;
              children = node_children s n;
            }));
      }

  -- an item with no child may come to a leaf, and one with a child to a node over others
  abbrev pub FitsChild : Option ℕ → List T → List ℕ → Type 0
  FitsChild None xs ks = length ks ≡ 0
  FitsChild (Some k) xs ks = length ks ≡ length xs + 1

  -- the node n was written with these items and children; nothing else changed
  pub record Writes (old new : Heap T) (n : ℕ) (items : List T) (children : List ℕ) : Type 0 where
    pub was : HasNode old n
    pub present : HasNode new n
    pub items_are : node_items new n ≡ items
    pub children_are : node_children new n ≡ children
    pub others : (k : ℕ) → k ≢ n → node_of new k ≡ node_of old k
    pub len : node_count new ≡ node_count old
    pub capacity : new.capacity ≡ old.capacity

  -- a new node was stored under n, with these items and children
  pub record Stores (old new : Heap T) (n : ℕ) (items : List T) (children : List ℕ) : Type 0 where
    pub fresh : node_of old n ≡ None
    pub present : HasNode new n
    pub items_are : node_items new n ≡ items
    pub children_are : node_children new n ≡ children
    pub others : (k : ℕ) → k ≢ n → node_of new k ≡ node_of old k
    pub len : node_count new ≡ node_count old + 1
    pub capacity : new.capacity ≡ old.capacity

  -- the node n went; nothing else changed
  pub record Removes (old new : Heap T) (n : ℕ) : Type 0 where
    pub was : HasNode old n
    pub gone : node_of new n ≡ None
    pub others : (k : ℕ) → k ≢ n → node_of new k ≡ node_of old k
    pub len : node_count new + 1 ≡ node_count old
    pub capacity : new.capacity ≡ old.capacity

  -- the first `half` items went to n, the next is `middle`, and those after it went to a new node
  pub record Divides (old new : Heap T) (n half : ℕ) (items : List T) (children : List ℕ)
      (middle : T) (right : ℕ) : Type 0 where
    pub middle_is : middle ≡ slice_index_or items half middle
    pub between : Heap T
    pub first : Writes old between n (take half items) (take (half + 1) children)
    pub second : Stores between new right (drop (half + 1) items) (drop (half + 1) children)

  -- the items and the children of the child before the item at i of n, and of the one after it
  abbrev pub left_items : Heap T → ℕ → ℕ → List T
  left_items s n i = node_items s (node_child s n i)

  abbrev pub right_items : Heap T → ℕ → ℕ → List T
  right_items s n i = node_items s (node_child s n (i + 1))

  abbrev pub left_children : Heap T → ℕ → ℕ → List ℕ
  left_children s n i = node_children s (node_child s n i)

  abbrev pub right_children : Heap T → ℕ → ℕ → List ℕ
  right_children s n i = node_children s (node_child s n (i + 1))

  -- n has an item at i, and a child on either side of it: three nodes, and the children over as
  -- many levels
  pub record HasPair (s : Heap T) (n i : ℕ) : Type 0 where
    pub parent : HasNode s n
    pub item : i < length (node_items s n)
    pub child : i + 1 < length (node_children s n)
    pub left : HasNode s (node_child s n i)
    pub right : HasNode s (node_child s n (i + 1))
    pub left_apart : node_child s n i ≢ n
    pub right_apart : node_child s n (i + 1) ≢ n
    pub apart : node_child s n i ≢ node_child s n (i + 1)
    pub below : ℕ
    pub left_branches : length (left_children s n i) ≡ child_count below (length (left_items s n i))
    pub right_branches : length (right_children s n i) ≡ child_count below
        (length (right_items s n i))

  -- the left child, the right one and n were written with these items and children, in turn
  pub record Rotates (old new : Heap T) (n i : ℕ) (lefts rights items : List T)
      (left_kids right_kids : List ℕ) : Type 0 where
    pub first : Heap T
    pub second : Heap T
    pub left : Writes old first (node_child old n i) lefts left_kids
    pub right : Writes first second (node_child old n (i + 1)) rights right_kids
    pub parent : Writes second new n items (node_children old n)

  -- the first item of the right child went up to n, and that of n at i to the end of the left
  -- child, with the right child's first child
  pub record RotatesLeft (old new : Heap T) (n i : ℕ) : Type 0 where
    pub down : T
    pub down_is : down ≡ slice_index_or (node_items old n) i down
    pub up : T
    pub up_is : right_items old n i ≡ up ∷ drop 1 (right_items old n i)
    pub rotates : Rotates old new n i (left_items old n i ++ down ∷ [])
        (drop 1 (right_items old n i)) (slice_set (node_items old n) i up)
        (left_children old n i ++ take 1 (right_children old n i)) (drop 1 (right_children old n i))

  -- the last item of the left child went up to n, and that of n at i to the front of the right
  -- child, with the left child's last child
  pub record RotatesRight (old new : Heap T) (n i : ℕ) : Type 0 where
    pub down : T
    pub down_is : down ≡ slice_index_or (node_items old n) i down
    pub up : T
    pub up_is : left_items old n i ≡ take (length (left_items old n i) - 1) (left_items old n i)
        ++ up ∷ []
    pub rotates : Rotates old new n i (take (length (left_items old n i) - 1) (left_items old n i))
        (down ∷ right_items old n i) (slice_set (node_items old n) i up)
        (take (length (left_items old n i)) (left_children old n i))
        (drop (length (left_items old n i)) (left_children old n i) ++ right_children old n i)

  -- the left child has all that both had, with the item of n at i between; the right child went,
  -- and n has that item and the right child no more
  pub record Merges (old new : Heap T) (n i : ℕ) : Type 0 where
    pub down : T
    pub down_is : down ≡ slice_index_or (node_items old n) i down
    pub first : Heap T
    pub second : Heap T
    pub left : Writes old first (node_child old n i)
        (left_items old n i ++ down ∷ right_items old n i)
        (left_children old n i ++ right_children old n i)
    pub right : Removes first second (node_child old n (i + 1))
    pub parent : Writes second new n (remove (node_items old n) i)
        (remove (node_children old n) (i + 1))

  -- the node r went, and l has what r had too, with an item between
  pub record Absorbs (old new : Heap T) (l : ℕ) (middle : T) (r : ℕ) : Type 0 where
    pub between : Heap T
    pub right : Removes old between r
    pub left : Writes between new l (node_items old l ++ middle ∷ node_items old r)
        (node_children old l ++ node_children old r)
