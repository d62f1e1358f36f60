use Rattle.std.proofs.Common.{take}
use Rattle.address_lists.specs.Split.{IsLeastServing}
use Rattle.address_lists.proofs.split.least_serving.Given as goal

abbrev pub invariant-loop-length : goal.invariant-loop-length
invariant-loop-length l =
    IsLeastServing (take l.length-index l.lengths) l.family l.prefix_length l.least
