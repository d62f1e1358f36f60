-- What a closure is shown of the stored items, and what is left where it answers which are kept.
use Rattle.std.specs.Prelude.{◌≡◌, ◌↔◌, Bool, List, Option}
use Rattle.range_map.specs.Common.{Mut, Called, Bor, KeyOrder, AnyRange, Item, Binds, IsBound}
use Rattle.range_reads.specs.Iteration.{shown_item}

-- a call of f at references to the range and the value of the item may answer b, and leave f'
pub record CalledAtItem {F K V : Type 0}
    (calls : Mut F (Bor (AnyRange K) × (Bor V × Unit {0})) Bool) (f : F)
    (item : Item (AnyRange K) V) (b : Bool) (f' : F) : Type 0 where
  pub range : Bor (AnyRange K)
  pub value : Bor V
  pub shows : shown_item (range, value) ≡ item
  pub called : Called calls f (range, (value, tt)) b f'

module _ {K : Type 0} (order : KeyOrder K) {V : Type 0} (same_value : V → V → Bool) where
  -- a key that is still bound is bound as before
  abbrev pub BindOnlyAsBefore : List (Item (AnyRange K) V) → List (Item (AnyRange K) V) → Type 0
  BindOnlyAsBefore before after = (k : K) → order.is_key k → IsBound order after k
      → (b : Option V) → Binds order same_value after k b ↔ Binds order same_value before k b
