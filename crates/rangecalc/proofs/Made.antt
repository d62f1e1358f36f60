-- What a closure makes of two maps, by a relation that its answers keep.
use Rattle.std.proofs.Common.{◌≡◌, inl, inr, List, [], ◌∷◌, ◌++◌, ap, subst, arith}
use Rattle.std.specs.Prelude.{Bool, Option, Result, Ok, Err, IfOk}
use Rattle.std.specs.Fn.{Mut, Called}
use Rattle.std.specs.List.{filter, AllByRecursion as Every}
use Rattle.std.specs.List.Retain.{IsFiltered}
use Rattle.std.proofs.lemmas.Fn.{filter_same}
use denote.Ref.{Bor}
use Rattle.btree_range_map.specs.AnyRange.{AnyRange}
use Rattle.btree_range_map.specs.Combining.{AreCombined, MayFailOnBoth}
use Rattle.btree_range_map.specs.Item.{Item}
use Rattle.btree_range_map.specs.Lookups.{MeetsSome}
use Rattle.btree_range_map.specs.Order.{KeyOrder}
use Rattle.btree_range_map.specs.Overlapping.{AreOverlapping}
use Rattle.btree_range_map.specs.Retaining.{CalledAtItem}
use Rattle.btree_range_map.specs.Relations.{LiesBefore}

module _ {K V W X E : Type 0} (order : KeyOrder K) (same_left : V → V → Bool)
    (same_right : W → W → Bool)
    (same : X → X → Bool)
    (may kept : Option V → Option W → Result (Option X) E → Type 0)
    (keeps : (left : Option V) (right : Option W) (made : Result (Option X) E)
    → may left right made → kept left right made)
    (items : List (Item (AnyRange K) V)) (others : List (Item (AnyRange K) W)) where
  pub combined_as : (new : List (Item (AnyRange K) X))
      → AreCombined order same_left same_right same may items others new
      → AreCombined order same_left same_right same kept items others new
  combined_as new combined = grind (arith, keeps)

  pub fails_as : (e : E) → MayFailOnBoth order may items others e
      → MayFailOnBoth order kept items others e
  fails_as e fails = grind (arith, keeps)

module _ {K V : Type 0} (order : KeyOrder K) (r : AnyRange K) where
  none_above : (items : List (Item (AnyRange K) V))
      → Every (λ i. LiesBefore order r i.key) items → ¬ MeetsSome order items r
  none_above [] above meets = meets
  none_above (i ∷ items) above meets = grind (arith, none_above items)

  none_beside : (before after : List (Item (AnyRange K) V))
      → Every (λ i. LiesBefore order i.key r) before
      → Every (λ i. LiesBefore order r i.key) after → ¬ MeetsSome order (before ++ after) r
  none_beside [] after below above meets = none_above after above meets
  none_beside (i ∷ before) after below above meets = grind (arith, none_beside before after)

  pub some_overlap : (items met : List (Item (AnyRange K) V)) → MeetsSome order items r
      → AreOverlapping order items r met → met ≡ [] → ⊥
  some_overlap items met meets overlap none = grind (arith, none_beside)

module _ {F K V : Type 0} (calls : Mut F (Bor (AnyRange K) × (Bor V × Unit {0})) Bool)
    (test : V → Bool) (f : F)
    (says : (range : Bor (AnyRange K)) (value : Bor V) (b : Bool) (f' : F)
    → Called calls f (range, (value, tt)) b f' → (b ≡ test value.now) × (f' ≡ f)) where
  -- where the closure asks for the value alone and stays as it is, those are kept whose value
  -- passes
  pub kept_by_value : (items new : List (Item (AnyRange K) V))
      → IsFiltered (CalledAtItem calls) f items new → new ≡ filter (λ i. test i.value) items
  kept_by_value =
      filter_same (CalledAtItem calls) (λ i. test i.value) f
      (λ item b f' shown. rw (← shown.shows) (says shown.range shown.value b f' shown.called))
