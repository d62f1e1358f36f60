-- One entry more is bound, and one range more added, after those before it.
use Rattle.std.proofs.Common.{◌≡◌, ◌∙◌, ap, sym, subst, ℕ, ◌+◌, ◌<◌, ◌++◌, List, [], ◌∷◌, map, nat_eq, take, length, get_or}
use Rattle.std.proofs.lemmas.List.{take_more, map_push}
use Rattle.btree_range_map.specs.AnyRange.{AnyRange}
use Rattle.btree_range_map.specs.Bindings.{IsBoundAfter}
use Rattle.btree_range_map.specs.Item.{Item}
use Rattle.btree_range_map.specs.KeySets.{HoldsAlso, HoldsAllAlso}
use Rattle.btree_range_map.specs.MapExtending.{AreBoundAfter}
use Rattle.btree_range_map.specs.Order.{KeyOrder}
use Rattle.range_map.proofs.ExtendedLists.{one_bound_after}
use Rattle.range_sets.proofs.Membership.{one_more}
use Rattle.range_ffi.specs.Flags.{said_range}

-- what is said of one more is said last
more : {X E : Type 0} (said : E → X) (all : List E) (n : ℕ) (d : E) (x : X) → n < length all
    → x ≡ said (get_or all n d)
    → map said (take n all) ++ x ∷ [] ≡ map said (take (n + 1) all)
more said all n d x within is =
    ap (λ y. map said (take n all) ++ y ∷ []) is
    ∙ (sym (map_push said (take n all) (get_or all n d))
    ∙ ap (λ l. map said l) (sym (take_more all n d within)))

module _ {K E : Type 0} (order : KeyOrder K) (entries : List E) (n : ℕ) (d : E)
    (within : n < length entries) where
  pub one_more_bound : (told : E → Item (AnyRange K) ℕ)
      (before now after : List (Item (AnyRange K) ℕ)) (item : Item (AnyRange K) ℕ)
      → item ≡ told (get_or entries n d)
      → AreBoundAfter order nat_eq before now (map told (take n entries))
      → IsBoundAfter order nat_eq now after item.key item.value
      → AreBoundAfter order nat_eq before after (map told (take (n + 1) entries))
  one_more_bound told before now after item is was one =
      subst (λ items. AreBoundAfter order nat_eq before after items)
      (more told entries n d item within is)
      (one_bound_after order nat_eq before now after (map told (take n entries)) item.key item.value
      was one)

  pub one_more_added : (told : E → Item (AnyRange K) (Unit {0}))
      (before now after : List (Item (AnyRange K) (Unit {0}))) (item : Item (AnyRange K) (Unit {0}))
      → item ≡ told (get_or entries n d)
      → HoldsAllAlso order before now (map (said_range told) (take n entries))
      → HoldsAlso order now after item.key
      → HoldsAllAlso order before after (map (said_range told) (take (n + 1) entries))
  one_more_added told before now after item is was one =
      subst (λ (ranges : List (AnyRange K)). HoldsAllAlso order before after ranges)
      (more (said_range told) entries n d item.key within (ap (λ i. i.key) is))
      (one_more order before now after (map (said_range told) (take n entries)) item.key was one)
