use Rattle.std.proofs.Common.{arith}
use Rattle.address_prefixes.proofs.Steps.{no_tiles}
use Rattle.address_prefixes.proofs.divide.part_after.Goals as goal

pub returns-else-end-last-clause-tiles : goal.returns-else-end-last-clause-tiles
returns-else-end-last-clause-tiles g c = grind (arith, no_tiles)
