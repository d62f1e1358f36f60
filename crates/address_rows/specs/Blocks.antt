-- Blocks of addresses, by their bits.
use Rattle.std.specs.Prelude.{◌<◌, ◌^◌}
use Rattle.address_text.specs.Texts.{width}
use Rattle.address_text.specs.declared.family.Family.{Family}
use Rattle.address_rows.specs.declared.write.Block.{Block}
use Rattle.address_rows.specs.declared.write.Block.TheVariants.{Prefix, Range}

-- the ends are addresses
abbrev pub Fits : Family → Block → Type 0
Fits family (Prefix network last length) =
    (network < 2 ^ width family) × (last < 2 ^ width family)
Fits family (Range first last) = (first < 2 ^ width family) × (last < 2 ^ width family)
