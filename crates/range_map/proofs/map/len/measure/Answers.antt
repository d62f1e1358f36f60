use Rattle.range_map.proofs.Common.{◌≡◌, None, ap, arith, rules, sym, ◌∙◌, item_ranges}
use Rattle.range_map.proofs.MeasureTotals.{measured_fits, measured_more, measured_untold}
use Rattle.range_map.proofs.map.len.measure.Goals as goal

pub returns-in_err-total : goal.returns-in_err-total
returns-in_err-total g c =
    let unknown =
    measured_untold (ap item_ranges c.in-Some.ensures.steps) c.loop-range.invariant
    (sym c.bounded_len.ensures.measure ∙ c.in_err-total.was) in
    let result : c.from_residual.result ≡ None = search rules in
    result ∙ sym unknown

pub overflow_add-total : goal.overflow_add-total
overflow_add-total g c =
    let fits =
    measured_fits (ap item_ranges c.in-Some.ensures.steps) c.loop-range.invariant
    g.met.K.PartialEnum.lawful g.met.K.Measure.measured c.requires
    (sym c.bounded_len.ensures.measure ∙ c.in_ok-total.was) in
    omega (arith, fits)

pub loop-range-preserved : goal.loop-range-preserved
loop-range-preserved g c =
    measured_more (ap item_ranges c.in-Some.ensures.steps) c.loop-range.invariant
    (sym c.bounded_len.ensures.measure ∙ c.in_ok-total.was)
