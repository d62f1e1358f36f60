-- Blocks of addresses: the addresses of ranges and of prefixes.
use Rattle.std.specs.Prelude.{ℕ}
use Rattle.btree_range_map.specs.AnyRange.{AnyRange}
use Rattle.address_prefixes.specs.Spans.{span}
use Rattle.address_prefixes.specs.declared.prefix.Prefix.{Prefix as AddressPrefix}
use Rattle.address_rows.specs.declared.write.Block.{Block}
use Rattle.address_rows.specs.declared.write.Block.TheVariants.{Prefix, Range}

module _ {A : Type 0} (number : A → ℕ) where
  -- the addresses of a range
  abbrev pub range_block : ℕ → AnyRange A → Block
  range_block width r = Range (span number width r).0 (span number width r).1

  -- those of a prefix
  abbrev pub prefix_block : AddressPrefix A → Block
  prefix_block p = Prefix (number p.network) (number p.last) p.length
