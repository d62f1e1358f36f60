-- What one answer of a probe says of the items on either side, and what clones of items are.
use Rattle.std.proofs.Common.{◌≡◌, ℕ, ◌+◌, ◌<◌, Bool, true, false, List, [], ◌∷◌, length, get_or, arith, ◌∙◌, sym, ap}
use Rattle.std.specs.List.{All, AllZip, AllWithin}
use Rattle.std.specs.List.Sorted.{IsPartitionedBy}
use Rattle.std.proofs.lemmas.List.{get_or_read}
use Rattle.std.proofs.lemmas.List.Elements.{All-head, All-tail}
use Rattle.std.proofs.lemmas.Bool.{false_from_ne_true, both_ways}

-- of a test that passes on a front of the list alone, and a probe that answers as the test does
module _ {T : Type 0} (test answer : T → Bool) (items : List T) (at : ℕ) (item : T)
    (parted : IsPartitionedBy test items) (same : (y : T) → answer y ≡ test y)
    (within : at < length items) (read : item ≡ get_or items at item) where
  pub passes_up_to : true ≡ answer item → AllWithin (λ y. test y ≡ true) items 0 (at + 1)
  passes_up_to passes k d _ below =
      parted k at d (omega arith) within
      (ap test (sym (get_or_read items at item within read d)) ∙ sym (same item) ∙ sym passes)

  pub fails_from : false ≡ answer item → AllWithin (λ y. test y ≡ false) items at (length items)
  fails_from fails k d from below =
      false_from_ne_true _ (λ passes.
      both_ways _
      (ap test (sym (get_or_read items at item within read d)) ∙ sym (same item) ∙ sym fails)
      (parted at k d from below passes))

pub equal_clones : {T : Type 0} (IsClone AreEqual : T → T → Type 0) (xs ys : List T)
    → All (λ x. (y : T) → IsClone x y → AreEqual x y) xs → AllZip IsClone xs ys
    → AllZip AreEqual xs ys
equal_clones IsClone AreEqual [] [] each clones = tt
equal_clones IsClone AreEqual [] (y ∷ ys) each clones = clones
equal_clones IsClone AreEqual (x ∷ xs) [] each clones = clones
equal_clones IsClone AreEqual (x ∷ xs) (y ∷ ys) each clones = (
  All-head (λ x. (y : _) → IsClone x y → AreEqual x y) x xs each y clones.0,
  equal_clones IsClone AreEqual xs ys (All-tail (λ x. (y : _) → IsClone x y → AreEqual x y) x xs each) clones.1,
)
