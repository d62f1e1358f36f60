-- What a collection is written as has no float, so its text is known.
use Rattle.std.proofs.Common.{◌≡◌, ℕ, List, [], ◌∷◌, refl}
use Rattle.std.specs.Prelude.{Bool, false, ◌||◌, map, Result, Ok, Err, IfOk}
use Rattle.std.specs.declared.ops.Bound.{Bound}
use Rattle.std.specs.declared.ops.Bound.TheVariants.{Included, Excluded, Unbounded}
use Rattle.serde_json.specs.Data.{Data}
use Rattle.serde_json.specs.View.{items_of}
use Rattle.serde_json.specs.Written.{has_float, items_have_float}
use Rattle.btree_range_map.specs.AnyRange.{AnyRange}
use Rattle.btree_range_map.specs.Item.{Item}
use Rattle.btree_range_map.specs.Keys.{unsigned_shape}
use Rattle.btree_range_map.specs.Shapes.{bound_shape, range_shape, pair_shape, map_shape, set_shape}

neither_true : (a b : Bool) → a ≡ false → b ≡ false → (a || b) ≡ false
neither_true a b p q = rw (p, q) refl

both_have_no_float : (d e : Data) → has_float d ≡ false → has_float e ≡ false
    → has_float (pair_shape d e) ≡ false
both_have_no_float d e p q =
    neither_true (has_float d) (has_float e || false) p (neither_true (has_float e) false q refl)

module _ {K : Type 0} (shape : K → Data)
    (has_none : (key : K) → has_float (shape key) ≡ false) where
  bound_has_no_float : (b : Bound K) → has_float (bound_shape shape b) ≡ false
  bound_has_no_float (Included k) = neither_true (has_float (shape k)) false (has_none k) refl
  bound_has_no_float (Excluded k) = neither_true (has_float (shape k)) false (has_none k) refl
  bound_has_no_float Unbounded = refl

  range_has_no_float : (r : AnyRange K) → has_float (range_shape shape r) ≡ false
  range_has_no_float r =
      both_have_no_float (bound_shape shape r.start) (bound_shape shape r.end)
      (bound_has_no_float r.start) (bound_has_no_float r.end)

  pairs_have_no_float : (items : List (Item (AnyRange K) ℕ))
      → items_have_float (items_of
      (map (λ i. pair_shape (range_shape shape i.key) (unsigned_shape i.value)) items)) ≡ false
  pairs_have_no_float [] = refl
  pairs_have_no_float (i ∷ items) =
      neither_true (has_float (pair_shape (range_shape shape i.key) (unsigned_shape i.value))) _
      (both_have_no_float (range_shape shape i.key) (unsigned_shape i.value)
      (range_has_no_float i.key) refl)
      (pairs_have_no_float items)

  pub map_has_no_float : (items : List (Item (AnyRange K) ℕ))
      → has_float (map_shape shape unsigned_shape items) ≡ false
  map_has_no_float items = neither_true _ false (pairs_have_no_float items) refl

  pub set_has_no_float : (items : List (Item (AnyRange K) (Unit {0})))
      → has_float (set_shape shape items) ≡ false
  set_has_no_float [] = refl
  set_has_no_float (i ∷ items) =
      neither_true (has_float (range_shape shape i.key)) _ (range_has_no_float i.key)
      (set_has_no_float items)

pub if_ok_as : {A E : Type 0} (r : Result A E) (P Q : A → Type 0) → ((x : A) → P x → Q x) → IfOk r P
    → IfOk r Q
if_ok_as (Ok x) P Q follows held = follows x held
if_ok_as (Err e) P Q follows held = tt
