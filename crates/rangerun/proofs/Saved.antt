-- A saved map has no float, so its text is known.
use Rattle.std.proofs.Common.{◌≡◌, arith, ℤ, List, [], ◌∷◌, refl}
use Rattle.std.specs.Prelude.{Bool, false, ◌||◌, map, Result, Ok, Err, IfOk}
use Rattle.std.specs.declared.ops.Bound.{Bound}
use Rattle.std.specs.declared.ops.Bound.TheVariants.{Included, Excluded, Unbounded}
use Rattle.serde_json.specs.Data.{Data}
use Rattle.serde_json.specs.View.{items_of}
use Rattle.serde_json.specs.Written.{has_float, items_have_float}
use Rattle.btree_range_map.specs.AnyRange.{AnyRange}
use Rattle.btree_range_map.specs.Item.{Item}
use Rattle.btree_range_map.specs.Keys.{signed_shape}
use Rattle.btree_range_map.specs.Shapes.{bound_shape, range_shape, pair_shape, map_shape}
use Rattle.rangerun.specs.Saving.{integer_has_no_float}

neither_true : (a b : Bool) → a ≡ false → b ≡ false → (a || b) ≡ false
neither_true a b p q = grind arith

module _ {K : Type 0} (shape : K → Data)
    (has_none : (key : K) → has_float (shape key) ≡ false) where
  bound_has_no_float : (b : Bound K) → has_float (bound_shape shape b) ≡ false
  bound_has_no_float b = grind (arith, neither_true, has_none)

  both_have_no_float : (d e : Data) → has_float d ≡ false → has_float e ≡ false
      → has_float (pair_shape d e) ≡ false
  both_have_no_float d e p q = grind (arith, neither_true)

  item_has_no_float : (i : Item (AnyRange K) ℤ)
      → has_float (pair_shape (range_shape shape i.key) (signed_shape i.value)) ≡ false
  item_has_no_float i = grind (arith, both_have_no_float, bound_has_no_float, integer_has_no_float)

  items_have_no_float : (items : List (Item (AnyRange K) ℤ))
      → items_have_float (items_of
      (map (λ i. pair_shape (range_shape shape i.key) (signed_shape i.value)) items)) ≡ false
  items_have_no_float [] = refl
  items_have_no_float (i ∷ items) =
      grind (arith, neither_true, item_has_no_float i, items_have_no_float items)

  pub map_has_no_float : (items : List (Item (AnyRange K) ℤ))
      → has_float (map_shape shape signed_shape items) ≡ false
  map_has_no_float items = neither_true _ false (items_have_no_float items) refl
