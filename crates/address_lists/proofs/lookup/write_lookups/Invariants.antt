use Rattle.std.proofs.Common.{drop}
use Rattle.line_program.proofs.Listing.{HasShown}
use Rattle.address_lists.specs.Lookups.{HasIp, IsLookup}
use Rattle.line_program.proofs.Told.{AreTold}
use Rattle.address_lists.proofs.lookup.write_lookups.Given as goal

abbrev pub invariant-loop-address : goal.invariant-loop-address
invariant-loop-address g l =
    HasShown (IsLookup l.list) l.addresses (drop l.address-index l.addresses)
    (g.W.Write.contents l.fn.out) (g.W.Write.contents l.out)
    × AreTold (HasIp l.list) l.addresses l.has_all (drop l.address-index l.addresses)
