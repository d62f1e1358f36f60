use Rattle.std.proofs.Common.{rules, subst}
use Rattle.btree_range_map.specs.Holding.{box_items}
use Rattle.btree_range_map.specs.Names.{range_from_to, u64_order}
use Rattle.btree_range_map.specs.PieceLists.{AreGapsWithin}
use Rattle.btree_range_map.specs.References.{range_of}
use Rattle.tour.specs.Coverage.{Bytes, IsWhole}
use Rattle.tour.proofs.Bytes.{all_come, is_missing}
use Rattle.tour.proofs.downloads.Coverage.missing.Goals as goal

pub returns-in_err-gap : goal.returns-in_err-gap
returns-in_err-gap c =
    let bytes : Bytes = record { size = c.self.inside.size; come = box_items c.self.inside.come } in
    let whole : IsWhole c.args.self.now =
    rw (← c.self.view_is) (all_come bytes c.self.invariant.0 c.self.invariant.1
    (c.gaps_within.ensures.none c.in_err-gap.ensures.steps.0)) in
    search rules

pub returns : goal.returns
returns c =
    let bytes : Bytes = record { size = c.self.inside.size; come = box_items c.self.inside.come } in
    let gaps = subst (AreGapsWithin u64_order bytes.come (range_from_to 0 bytes.size))
    c.in_ok-gap.ensures.steps c.gaps_within.ensures.gaps in
    rw (← c.self.view_is) (rw c.first_byte.ensures (rw c.end_byte.ensures
    (is_missing bytes c.self.invariant.0 c.self.invariant.1 (range_of c.in_ok-gap.gap) _ gaps)))
