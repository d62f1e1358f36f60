-- What two lists have together, as the sets of both families have.
use Rattle.std.proofs.Common.{◌≡◌, ◌↔◌, Bool, true, false, sym, ◌∙◌}
use Rattle.std.specs.Prelude.{IsTrue}
use Rattle.std.proofs.lemmas.Bool.{false≢true}
use Rattle.btree_range_map.specs.Holding.{box_items}
use Rattle.btree_range_map.specs.KeySets.{HoldsTheOthers}
use Rattle.btree_range_map.specs.Together.{BindKeysOf, ShareNoKey}
use Rattle.address_keys.specs.Addresses.{ipv4_at, ipv4_number, ipv4_order, ipv6_at, ipv6_number, ipv6_order}
use Rattle.address_text.specs.declared.family.Family.TheVariants.{V4, V6}
use Rattle.address_lists.specs.Lists.{Has, HasAllOf, HasJust, ShareNone}
use Rattle.address_lists.specs.declared.addresses.Addresses.{Addresses}
use Rattle.std.proofs.Common.{arith}

module _ (list other : Addresses) where
  pub has_all : BindKeysOf ipv4_order (box_items other.v4) (box_items list.v4)
      → BindKeysOf ipv6_order (box_items other.v6) (box_items list.v6) → HasAllOf list other
  has_all v4 v6 V4 n small has = v4 (ipv4_at n) small has
  has_all v4 v6 V6 n small has = v6 (ipv6_at n) small has

  pub all_v4 : HasAllOf list other → BindKeysOf ipv4_order (box_items other.v4) (box_items list.v4)
  all_v4 all k small has = all V4 (ipv4_number k) small has

  pub all_v6 : HasAllOf list other → BindKeysOf ipv6_order (box_items other.v6) (box_items list.v6)
  all_v6 all k small has = all V6 (ipv6_number k) small has

  pub share_none : ShareNoKey ipv4_order (box_items list.v4) (box_items other.v4)
      → ShareNoKey ipv6_order (box_items list.v6) (box_items other.v6) → ShareNone list other
  share_none v4 v6 V4 n small has = v4 (ipv4_at n) small has
  share_none v4 v6 V6 n small has = v6 (ipv6_at n) small has

  pub none_v4 : ShareNone list other → ShareNoKey ipv4_order (box_items list.v4) (box_items other.v4)
  none_v4 none k small has = none V4 (ipv4_number k) small has

  pub none_v6 : ShareNone list other → ShareNoKey ipv6_order (box_items list.v6) (box_items other.v6)
  none_v6 none k small has = none V6 (ipv6_number k) small has

  -- after the sets of IPv4, those of IPv6 tell
  pub all_then : (one both : Bool) → one ≡ true
      → (IsTrue one → BindKeysOf ipv4_order (box_items other.v4) (box_items list.v4))
      → IsTrue both ↔ BindKeysOf ipv6_order (box_items other.v6) (box_items list.v6)
      → IsTrue both ↔ HasAllOf list other
  all_then one both is v4 v6 = grind (arith, has_all, all_v6)

  pub all_else : (one : Bool) → one ≡ false
      → (BindKeysOf ipv4_order (box_items other.v4) (box_items list.v4) → IsTrue one)
      → IsTrue one ↔ HasAllOf list other
  all_else one is told = (λ yes. absurd (false≢true (sym is ∙ yes)), λ all. told (all_v4 all))

  pub none_then : (one both : Bool) → one ≡ true
      → (IsTrue one → ShareNoKey ipv4_order (box_items list.v4) (box_items other.v4))
      → IsTrue both ↔ ShareNoKey ipv6_order (box_items list.v6) (box_items other.v6)
      → IsTrue both ↔ ShareNone list other
  none_then one both is v4 v6 = grind (arith, share_none, none_v6)

  pub none_else : (one : Bool) → one ≡ false
      → (ShareNoKey ipv4_order (box_items list.v4) (box_items other.v4) → IsTrue one)
      → IsTrue one ↔ ShareNone list other
  none_else one is told = (λ yes. absurd (false≢true (sym is ∙ yes)), λ none. told (none_v4 none))

  -- the other list has the others
  pub inverse_is : HoldsTheOthers ipv4_order (box_items list.v4) (box_items other.v4)
      → HoldsTheOthers ipv6_order (box_items list.v6) (box_items other.v6)
      → HasJust other (λ family n. ¬ Has list family n)
  inverse_is v4 v6 V4 n small = v4 (ipv4_at n) small
  inverse_is v4 v6 V6 n small = v6 (ipv6_at n) small
