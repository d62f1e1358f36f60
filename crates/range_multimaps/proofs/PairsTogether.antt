-- Which pairs a multimap has while those of another are added to it, or taken from it.
use Rattle.std.proofs.Common.{◌≡◌, ◌↔◌, ◌⊎◌, Bool, IsTrue, List, [], ◌∷◌, ◌++◌, arith}
use Rattle.range_keys.specs.Order.{KeyOrder, IsLawful}
use Rattle.range_algebra.specs.Range.{Holds}
use Rattle.range_algebra.specs.declared.any.AnyRange.{AnyRange}
use Rattle.range_algebra.proofs.Canonical.{equal_is_same}
use Rattle.range_algebra.proofs.Lists.{every_right}
use Rattle.range_store.specs.declared.storage.Item.{Item}
use Rattle.range_reads.specs.ListOrder.{IsCopyOf}
use Rattle.range_multimaps.specs.Members.{HaveSame}
use Rattle.range_multimaps.specs.Pairs.{HasNoEmptySet, HasPair, HasAllPairsAlso, HasAllPairsWithout, HasPairsOfEither, HasPairsOfFirstAlone}
use Rattle.range_map.proofs.PartWay.{IsPartWay}

module _ {K : Type 0} (order : KeyOrder K) {S V : Type 0} (has : S → V → Bool) where
  abbrev Items : Type 0
  Items = List (Item (AnyRange K) S)

  pairs_of_more : (done : Items) (i : Item (AnyRange K) S) (k : K) (v : V)
      → HasPair order has (done ++ i ∷ []) k v
      ↔ (HasPair order has done k v ⊎ (Holds order i.key k × IsTrue (has i.value v)))
  pairs_of_more [] i k v = grind arith
  pairs_of_more (j ∷ done) i k v = grind (arith, pairs_of_more done i k v)

  -- the pairs of one range more were added
  pub one_united : (first before after done : Items) (i : Item (AnyRange K) S)
      → HasPairsOfEither order has first done before
      → HasAllPairsAlso order has before after i.key i.value
      → HasPairsOfEither order has first (done ++ i ∷ []) after
  one_united first before after done i h g k key v = grind (arith, pairs_of_more)

  -- the pairs of one range more were taken away
  pub one_parted : (first before after done : Items) (i : Item (AnyRange K) S)
      → HasPairsOfFirstAlone order has first done before
      → HasAllPairsWithout order has before after i.key i.value
      → HasPairsOfFirstAlone order has first (done ++ i ∷ []) after
  one_parted first before after done i h g k key v = grind (arith, pairs_of_more)

  module _ (lawful : IsLawful order) (same : S → S → Bool)
      (respects : (s t : S) → IsTrue (same s t) → HaveSame has s t) where
    pairs_of_copy : (copy items : Items) → IsCopyOf order same copy items → (k : K)
        → order.is_key k → (v : V) → HasPair order has copy k v ↔ HasPair order has items k v
    pairs_of_copy [] [] zip k key v = (λ h. h, λ h. h)
    pairs_of_copy (i ∷ copy) (j ∷ items) zip k key v =
        grind (arith, equal_is_same, pairs_of_copy copy items zip.1 k key v)
    pairs_of_copy copy items zip k key v = absurd zip

    -- a copy to which nothing was added yet, or from which nothing was taken
    pub none_united : (copy items : Items) → IsCopyOf order same copy items
        → HasPairsOfEither order has items [] copy
    none_united copy items zip k key v = grind (arith, pairs_of_copy)

    pub none_parted : (copy items : Items) → IsCopyOf order same copy items
        → HasPairsOfFirstAlone order has items [] copy
    none_parted copy items zip k key v = grind (arith, pairs_of_copy)

-- the set of the next range is not empty
pub next_is_full : {K S : Type 0} (is_void : S → Type 0)
    (P : List (Item (AnyRange K) S) → Type 0) (all rest others : List (Item (AnyRange K) S))
    (i : Item (AnyRange K) S) → HasNoEmptySet is_void all → rest ≡ i ∷ others
    → IsPartWay P all rest → ¬ is_void i.value
next_is_full is_void P all rest others i full came way =
    (every_right (λ j. ¬ is_void j.value) way.done (i ∷ others)
    (rw (← way.split, came) at full)).0
