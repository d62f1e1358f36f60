-- The children under each number, and how `Children` keeps them: a list under a key of a slab for
-- each number that has some.
use Rattle.std.specs.Prelude.{◌≡◌, ℕ, ◌<◌, ◌≤◌, List, [], length, map, Option, Some, None, is_some, count_by, slice_index_or, slice_set, refl, ⊤}
use Rattle.std.specs.Coded.{Coded, code_by, coded×, coded_ℕ, coded_list}
use Rattle.arrayvec.specs.ArrayVec.{ArrayVec}
use Rattle.slab.specs.Slab.{Slab, get, slab_len}
use Rattle.range_nodes.specs.declared.nodes.TheConstants.{CHILD_PLACES}

-- the children under each number from 0 on, and how many numbers there can be with no allocation
pub record Children : Type 0 where
  pub lists : List (List ℕ)
  pub capacity : ℕ

-- they are stored as the pair of their fields
abbrev pub children_code : Coded Children
children_code =
    code_by
    (List (List ℕ) × ℕ)
    (coded× (coded_list (coded_list coded_ℕ)) coded_ℕ)
    (λ s. (s.lists, s.capacity))
    (λ p. record { lists = p.0; capacity = p.1 })
    (λ _. refl)

-- other children under a number
abbrev pub with_list : Children → ℕ → List ℕ → Children
with_list s n ks = record s { lists = slice_set s.lists n ks }

-- there is room among the children for another one at a place, if another comes
abbrev pub FitsPlace : Option ℕ → ℕ → List ℕ → Type 0
FitsPlace None place ks = ⊤
FitsPlace (Some k) place ks =
    (0 < length ks) × (place ≤ length ks) × (length ks < CHILD_PLACES)

-- a full node has no child, or all that it can have, if another comes
abbrev pub FitsFull : Option ℕ → List ℕ → Type 0
FitsFull None ks = length ks ≡ 0
FitsFull (Some k) ks = length ks ≡ CHILD_PLACES

-- what lies in a slot
abbrev pub items_at : Option (ArrayVec ℕ) → List ℕ
items_at None = []
items_at (Some list) = list.items

-- the list under a key, if there is one
abbrev pub list_under : Slab (ArrayVec ℕ) → Option ℕ → List ℕ
list_under lists None = []
list_under lists (Some k) = items_at (get lists k)

-- the lists under these keys
abbrev pub lists_under : Slab (ArrayVec ℕ) → List (Option ℕ) → List (List ℕ)
lists_under lists keys = map (list_under lists) keys

-- the key of a number
abbrev pub key_of : List (Option ℕ) → ℕ → Option ℕ
key_of keys n = slice_index_or keys n None

-- each key has a list that is not empty and no other number has; there are no other lists, and there
-- is room for one under each number
pub record AreKept (lists : Slab (ArrayVec ℕ)) (keys : List (Option ℕ)) : Type 0 where
  pub some : (n k : ℕ) → key_of keys n ≡ Some k → 0 < length (items_at (get lists k))
  pub once : (n m k : ℕ) → key_of keys n ≡ Some k → key_of keys m ≡ Some k → n ≡ m
  pub many : slab_len lists ≡ count_by is_some keys
  pub room : length keys ≤ lists.capacity
