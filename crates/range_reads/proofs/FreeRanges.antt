-- The free ones of a list of pieces.
use Rattle.range_reads.proofs.Common.{◌≡◌, List, [], ◌∷◌, ◌++◌, Option, refl, sym, ap, ◌∙◌, append_assoc, AnyRange, Item, free_ranges, range_if_free}

module _ {K V : Type 0} where
  pub free_append : (xs ys : List (Item (AnyRange K) (Option V)))
      → free_ranges (xs ++ ys) ≡ free_ranges xs ++ free_ranges ys
  free_append [] ys = refl
  free_append (x ∷ xs) ys =
      ap (λ rs. range_if_free x.key x.value ++ rs) (free_append xs ys)
      ∙ sym (append_assoc (range_if_free x.key x.value) (free_ranges xs) (free_ranges ys))
