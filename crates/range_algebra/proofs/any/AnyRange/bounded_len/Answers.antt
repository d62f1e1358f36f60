use Rattle.std.proofs.Common.{rules, ◌≡◌, subst, sym}
use Rattle.std.specs.Option.{IsSomeAnd}
use Rattle.std.specs.Range.Bound.{bound_map}
use Rattle.range_keys.specs.Position.{key_value}
use Rattle.range_algebra.specs.Measures.{closed_by}
use Rattle.range_algebra.specs.Numbers.{IsNumberOfKeys}
use Rattle.range_algebra.specs.Range.{Holds, IsEmptyRange}
use Rattle.range_algebra.proofs.Measuring.{told_reach, told_known, full_measure, measure_is_number}
use Rattle.range_algebra.proofs.any.AnyRange.bounded_len.Goals as goal

pub measured-requires-clause-known_start : goal.measured-requires-clause-known_start
measured-requires-clause-known_start g c =
    let order = g.T.MaybeBounded.order in
    let lawful = g.met.T.PartialEnum.lawful in
    let bound = c.args.self.now.start in
    let start : bound_map key_value c.with_told-start.result ≡ closed_by order.least bound =
    cc (c.start_bound.ensures tt) in
    rw start (told_known order lawful order.least bound lawful.least_key c.known.ensures.0)

pub measured-requires-clause-known_end : goal.measured-requires-clause-known_end
measured-requires-clause-known_end g c =
    let order = g.T.MaybeBounded.order in
    let lawful = g.met.T.PartialEnum.lawful in
    let bound = c.args.self.now.end in
    let end : bound_map key_value c.with_told-end.result ≡ closed_by order.greatest bound =
    cc (c.end_bound.ensures tt) in
    rw end (told_known order lawful order.greatest bound lawful.greatest_key c.known.ensures.1)

pub measured-requires-clause-nonempty : goal.measured-requires-clause-nonempty
measured-requires-clause-nonempty g c =
    let order = g.T.MaybeBounded.order in
    let r = c.args.self.now in
    let full : ¬ IsEmptyRange order r = search rules in
    let start : bound_map key_value c.with_told-start.result ≡ closed_by order.least r.start =
    cc (c.start_bound.ensures tt) in
    let end : bound_map key_value c.with_told-end.result ≡ closed_by order.greatest r.end =
    cc (c.end_bound.ensures tt) in
    rw (start, end) (told_reach order g.met.T.PartialEnum.lawful r full)

pub returns-clause-measure : goal.returns-clause-measure
returns-clause-measure g c =
    let order = g.T.MaybeBounded.order in
    let r = c.args.self.now in
    let full : ¬ IsEmptyRange order r = search rules in
    let start : bound_map key_value c.with_told-start.result ≡ closed_by order.least r.start =
    cc (c.start_bound.ensures tt) in
    let end : bound_map key_value c.with_told-end.result ≡ closed_by order.greatest r.end =
    cc (c.end_bound.ensures tt) in
    let whole =
    full_measure order g.met.T.PartialEnum.lawful g.T.Measure.len g.T.Measure.distance r
    full in
    cc

pub returns-clause-counted : goal.returns-clause-counted
returns-clause-counted g c = λ counts.
    let order = g.T.MaybeBounded.order in
    let r = c.args.self.now in
    subst (λ n. IsSomeAnd n (IsNumberOfKeys order (Holds order r)))
    (sym (returns-clause-measure g c))
    (measure_is_number order g.T.Measure.len g.T.Measure.distance counts r c.known.ensures)

pub returns-then-is_empty-clause-unknown : goal.returns-then-is_empty-clause-unknown
returns-then-is_empty-clause-unknown g c = search rules

pub returns-clause-unknown : goal.returns-clause-unknown
returns-clause-unknown g c = search rules
