-- The keys of a map, as a set.
use Rattle.std.proofs.Common.{Bool, List, Some, Result, IsTrue, inl, inr}
use Rattle.std.specs.Borrow.{Bor}
use Rattle.std.specs.Fn.{Shared}
use Rattle.range_keys.specs.Order.{KeyOrder, IsLawful}
use Rattle.range_algebra.specs.declared.any.AnyRange.{AnyRange}
use Rattle.range_store.specs.declared.storage.Item.{Item}
use Rattle.range_runs.proofs.Overlaps.{binds_bound}
use Rattle.range_map.specs.MappedValues.{AreMapped}
use Rattle.range_bulk.proofs.BoundKeys.{bound_or_not}
use Rattle.range_set_extend.specs.KeySets.{HoldsKeysOf}

-- a list whose values were answered anew holds the same keys
pub mapped_keys : {K F V W E : Type 0} (order : KeyOrder K) → IsLawful order
    → (calls : Shared F (Bor V × Unit {0}) (Result W E)) (f : F) (same : W → W → Bool)
    → ((w : W) → IsTrue (same w w)) → (items : List (Item (AnyRange K) V))
    (new : List (Item (AnyRange K) W)) → AreMapped order calls f same items new
    → HoldsKeysOf order items new
mapped_keys order lawful calls f same itself items new are k key = (
  λ held. elim (bound_or_not order lawful items k) [
    | inl was ↦ was
    | inr none ↦ absurd (are.free k key none held)
  ],
  λ was.
      let at = are.held k key was in
      binds_bound order same new k at.answer ((at.is (Some at.answer)).1 (itself at.answer)),
)
