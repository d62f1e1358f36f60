-- Sets of states that are found again.
use Rattle.std.specs.Prelude.{◌≡◌, ℕ, Some, slice_get}
use Rattle.std.specs.declared.cmp.Ordering.{Ordering}
use Rattle.std.specs.Ordering.{nat_cmp}
use Rattle.std.specs.Cmp.Lexicographic.{slice_cmp}
use Rattle.std.specs.BTreeMap as map
use Rattle.std.specs.BTreeSet.{BTreeSet, IsOrdered}
use Rattle.state_sets.specs.declared.sets.Sets.{Sets}
use Rattle.state_sets.specs.Listed.{IsIndexOf}

-- the order of sets, by their states
abbrev pub set_cmp : BTreeSet ℕ → BTreeSet ℕ → Ordering
set_cmp set other = slice_cmp nat_cmp set.keys other.keys

-- each set of the list is found at its index, and at an index that is found stands a set with the
-- same states
pub record AreFound (sets : Sets) : Type 0 where
  pub ordered : (i : ℕ) (set : BTreeSet ℕ) → slice_get sets.listed.items i ≡ Some set
      → IsOrdered nat_cmp set
  pub found : (i : ℕ) (set : BTreeSet ℕ) → slice_get sets.listed.items i ≡ Some set
      → map.get set_cmp sets.indices set ≡ Some i
  pub stands : (set : BTreeSet ℕ) (i : ℕ) → map.get set_cmp sets.indices set ≡ Some i
      → IsIndexOf sets.listed.items set i
