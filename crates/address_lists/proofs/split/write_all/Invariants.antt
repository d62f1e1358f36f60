use Rattle.std.proofs.Common.{length}
use Rattle.std.specs.List.{AllByRecursion}
use Rattle.line_program.proofs.Listing.{HasShown}
use Rattle.address_prefixes.specs.Prefixes.{IsPrefix}
use Rattle.address_lists.specs.Split.{IsSplit}
use Rattle.address_lists.proofs.split.write_all.Given as goal

abbrev pub invariant-loop-prefix : goal.invariant-loop-prefix
invariant-loop-prefix g l =
    HasShown (IsSplit l.around.before.now l.around.after.now g.A.FamilyAddress.its_family g.A.Address.number l.lengths)
    l.fn.prefixes l.prefixes (g.W.Write.contents l.fn.out) (g.W.Write.contents l.out)
    × AllByRecursion (IsPrefix g.A.Address.number g.A.Address.WIDTH) l.prefixes

abbrev pub decreases-loop-prefix : goal.decreases-loop-prefix
decreases-loop-prefix g l = length l.prefixes
