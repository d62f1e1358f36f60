-- The keys up to one of them are no empty range.
use Rattle.btree_range_map.specs.Order.{KeyOrder, IsLawful}
use Rattle.btree_range_map.specs.Range.{IsEmptyRange}
use Rattle.range_algebra.proofs.Holding.{empty_is_keyless}
use Rattle.range_algebra.specs.Orders.{le_refl}
use Rattle.range_ffi.specs.Flags.{upto_key}

pub upto_is_full : {K : Type 0} (order : KeyOrder K) → IsLawful order → (key : K)
    → order.is_key key → ¬ IsEmptyRange order (upto_key key)
upto_is_full order lawful key known empty =
    empty_is_keyless order lawful (upto_key key) empty key known
    (tt, le_refl order.cmp lawful.total key)
