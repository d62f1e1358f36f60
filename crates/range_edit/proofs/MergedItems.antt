-- What a range that is changed meets or is merged with, and that all else stands.
use Rattle.range_edit.proofs.Common.{arith, common_steps, ◌≡◌, refl, Bool, List, [], ◌∷◌, ◌++◌, ◌⊎◌, inl, inr, Every, KeyOrder, any_left, any_right, every_weaker, every_append, Any, AnyRange, Item, IsMergedInto, IsUpdateFrame, IsSpliceFrame, Overlap}

-- each item is one of the list
each_is_one : {X : Type 0} (xs : List X) → Every (λ x. Any (λ y. y ≡ x) xs) xs
each_is_one [] = tt
each_is_one (x ∷ xs) = (inl refl, every_weaker _ _ xs (λ y h. inr h) (each_is_one xs))

-- what holds of a run that gave way may be said otherwise
pub way_follows : {T : Type 0} {items new : List T} {P Q : List T → List T → Type 0}
    → ((run others : List T) → P run others → Q run others) → IsSpliceFrame items new P
    → IsSpliceFrame items new Q
way_follows follows way = grind (arith, common_steps)

module _ {K : Type 0} (order : KeyOrder K) {V : Type 0} (same : V → V → Bool) (r : AnyRange K) where
  merged_within : (front list behind : List (Item (AnyRange K) V)) (i : Item (AnyRange K) V)
      → IsMergedInto order same list r i → IsMergedInto order same (front ++ list ++ behind) r i
  merged_within front list behind i either = grind (arith, common_steps, any_left, any_right)

  -- what is beside the run stands, and what is in it meets the range or is merged
  pub rest_stands : (front run others behind : List (Item (AnyRange K) V))
      → Every (λ i. Overlap order i.key r ⊎ IsMergedInto order same others r i) run
      → IsUpdateFrame order same (front ++ run ++ behind) (front ++ others ++ behind) r
  rest_stands front run others behind concerned =
      let Stays = λ (i : Item (AnyRange K) V). (Overlap order i.key r → ⊥)
      → Any (λ j. j ≡ i) (front ++ others ++ behind)
      ⊎ IsMergedInto order same (front ++ others ++ behind) r i in
      every_append Stays (front ++ run) behind (every_append Stays front run (every_weaker _ _ front
      (λ i h out. inl (any_left _ (front ++ others) behind (any_left _ front others h)))
      (each_is_one front)) (grind (arith, common_steps, every_weaker, merged_within))) (every_weaker _ _ behind
      (λ i h out. inl (any_right _ (front ++ others) behind h)) (each_is_one behind))

  -- so does a list that is not changed
  pub unchanged_stands : (items : List (Item (AnyRange K) V))
      → IsUpdateFrame order same items items r
  unchanged_stands items = every_weaker _ _ items (λ i h out. inl h) (each_is_one items)
