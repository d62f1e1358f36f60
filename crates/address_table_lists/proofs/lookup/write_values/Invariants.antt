use Rattle.std.proofs.Common.{drop, map}
use Rattle.line_program.proofs.Listing.{HasShown}
use Rattle.address_table_lists.specs.Lookups.{HasValue, IsValueLine}
use Rattle.line_program.proofs.Told.{AreTold}
use Rattle.address_table_lists.proofs.lookup.write_values.Given as goal

abbrev pub invariant-loop-address : goal.invariant-loop-address
invariant-loop-address g l =
    HasShown (IsValueLine (map (λ v. v.items) l.values) l.table) l.addresses
    (drop l.address-index l.addresses) (g.W.Write.contents l.fn.out) (g.W.Write.contents l.out)
    × AreTold (HasValue l.table) l.addresses l.has_all (drop l.address-index l.addresses)
