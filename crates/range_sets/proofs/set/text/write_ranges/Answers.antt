use Rattle.std.proofs.Common.{subst, rules, ◌≡◌, ◌∷◌}
use Rattle.std.specs.Prelude.{IsOk}
use Rattle.range_reads.specs.FreeRanges.{item_ranges}
use Rattle.range_sets.proofs.Showing.{HasShown, shown_none, shown_more}
use Rattle.range_sets.proofs.set.text.write_ranges.Goals as goal

pub loop-range-init : goal.loop-range-init
loop-range-init g c =
    rw c.iter-ranges.ensures.ranges
    (shown_none g.T.Debug.debug_output g.W.Write.write_str_gives
    (item_ranges (g.C.Storage.items c.args.set.now)) c.args.f.now)

pub loop-range-preserved : goal.loop-range-preserved
loop-range-preserved g c =
    let all = item_ranges (g.C.Storage.items c.args.set.now) in
    let left = c.next.new.self in
    let range = c.in-Some.range.now in
    let step : c.loop-range.ranges ≡ range ∷ left = c.in-Some.ensures.steps in
    let ok : IsOk c.fmt.result = search rules in
    let shown =
    subst (λ ranges.
    HasShown g.T.Debug.debug_output g.W.Write.write_str_gives all ranges c.args.f.now
    c.loop-range.f) step c.loop-range.invariant in
    shown_more g.T.Debug.debug_output g.W.Write.write_str_gives all left range c.args.f.now
    c.loop-range.f c.fmt.new.f c.fmt.result shown c.fmt.ensures.writes ok

pub returns : goal.returns
returns g c = search rules

pub returns-in_err-fmt : goal.returns-in_err-fmt
returns-in_err-fmt g c = search rules

pub loop-range-smaller : goal.loop-range-smaller
loop-range-smaller g c = search rules
