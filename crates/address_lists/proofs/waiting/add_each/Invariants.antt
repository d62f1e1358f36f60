use Rattle.std.proofs.Common.{map, take}
use Rattle.address_text.specs.Lines.{AreAddresses}
use Rattle.address_lists.specs.Waiting.{line_of}
use Rattle.address_lists.proofs.Lines.{AreFollowed}
use Rattle.address_lists.proofs.waiting.add_each.Given as goal

abbrev pub invariant-loop-span : goal.invariant-loop-span
invariant-loop-span g l = AreAddresses l.last
    × AreFollowed l.fn.list l.list l.last
    (map (line_of g.A.FamilyAddress.its_family g.A.Address.number) (take l.span-index l.spans))
