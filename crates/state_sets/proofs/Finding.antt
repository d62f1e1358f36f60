-- Sets of states that are found again, and one more behind the others.
use Rattle.std.proofs.Common.{◌≡◌, ◌↔◌, ℕ, true, cond, List, [], ◌∷◌, ◌++◌, length, Option, Some, None, BTreeSet, arith}
use Rattle.std.proofs.lemmas.Grind.{common_steps}
use Rattle.std.specs.Prelude.{IfNone}
use Rattle.std.specs.Ordering.{nat_cmp, is_eq}
use Rattle.std.specs.BTreeMap as map
use Rattle.std.specs.BTreeSet.{IsOrdered}
use Rattle.std.proofs.lemmas.Cmp.{nat_cmp_total, nat_list_cmp_total, tied_itself}
use Rattle.std.proofs.lemmas.Map.Lookups.{btree_set_from_contains, exact_bytes, exact_unsigned}
use Rattle.state_sets.specs.declared.sets.Sets.{Sets}
use Rattle.state_sets.specs.Listed.{IsIndexOf, IsNewTo}
use Rattle.state_sets.specs.Found.{set_cmp, AreFound}
use Rattle.state_sets.proofs.Lists.{slice_get-push, keeps_pushed}

equal_by_keys : (set other : BTreeSet ℕ)
    → (is_eq (set_cmp set other) ≡ true) ↔ (set.keys ≡ other.keys)
equal_by_keys set other =
    grind (arith, exact_bytes set.keys other.keys, tied_itself nat_list_cmp_total set.keys)

pub not_found_new : (sets : Sets) (set : BTreeSet ℕ) → AreFound sets → IsOrdered nat_cmp set
    → (found : Option ℕ) → found ≡ map.get set_cmp sets.indices set
    → IfNone found (IsNewTo sets.listed.items set)
not_found_new sets set are ordered (Some i) is = tt
not_found_new sets set are ordered None is = λ i other at alike.
    let other_ordered = are.ordered i other at in
    grind (arith, common_steps, btree_set_from_contains, nat_cmp_total, exact_unsigned, are.found)

pub added_index : (before after : List (BTreeSet ℕ)) (set copy : BTreeSet ℕ)
    → after ≡ before ++ copy ∷ [] → copy.keys ≡ set.keys → IsIndexOf after set (length before)
added_index before after set copy pushed same =
    (copy, grind (arith, slice_get-push before copy (length before) copy), grind arith)

-- a set more, whose states are new
module _ (before after : Sets) (set copy key : BTreeSet ℕ) (are : AreFound before)
    (ordered : IsOrdered nat_cmp set) (new : IsNewTo before.listed.items set)
    (same : copy.keys ≡ set.keys) (key_same : key.keys ≡ set.keys)
    (pushed : after.listed.items ≡ before.listed.items ++ copy ∷ [])
    (updates : (q : BTreeSet ℕ) → map.get set_cmp after.indices q
    ≡ cond (is_eq (set_cmp key q)) (Some (length before.listed.items))
    (map.get set_cmp before.indices q)) where
  pub found_all : AreFound after
  found_all = record {
    ordered = λ i other at.
        grind (arith, slice_get-push before.listed.items copy i other, are.ordered i other);
    found = λ i other at.
        let place = slice_get-push before.listed.items copy i other in
        grind (arith, are.found i other, updates other, equal_by_keys key other, new i other);
    stands = λ q i at.
        let index = added_index before.listed.items after.listed.items q copy pushed in
        let kept = keeps_pushed before.listed.items after.listed.items copy pushed in
        grind (arith, are.stands q i, updates q, equal_by_keys key q);
  }
