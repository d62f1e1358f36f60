use Rattle.line_program.proofs.Listing.{shown_all, shown_none}
use Rattle.address_text.specs.Texts.{width}
use Rattle.address_lists.specs.Ranges.{IsRangeText}
use Rattle.address_lists.proofs.Series.{one_range}
use Rattle.address_lists.proofs.ranges.write_all.Goals as goal
use Rattle.std.proofs.Common.{ℕ, ◌^◌, ◌≤◌, ◌<◌, arith}

pub loop-range-init : goal.loop-range-init
loop-range-init g c = grind (arith, shown_none)

pub write_range-requires : goal.write_range-requires
write_range-requires g c = grind arith

pub loop-range-preserved : goal.loop-range-preserved
loop-range-preserved g c =
    let before = c.args.around.before.now in
    let after = c.args.around.after.now in
    one_range (IsRangeText before after c.args.spelling c.args.family)
    (λ (range : ℕ × ℕ). (range.0 ≤ range.1) × (range.1 < 2 ^ width c.args.family)) _ _ _
    c.in-Some.range _ _ _ c.in-Some.ensures.steps c.loop-range.invariant
    c.in_ok-write_range.ensures

pub returns : goal.returns
returns g c = grind (arith, shown_all)
