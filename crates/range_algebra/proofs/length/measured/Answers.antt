use Rattle.std.proofs.Common.{◌≡◌, arith, ap, subst}
use Rattle.std.specs.declared.ops.Bound.TheVariants.{Included, Excluded}
use Rattle.std.specs.Range.Bound.{bound_map}
use Rattle.std.specs.Ordering.{is_gt}
use Rattle.range_keys.specs.Position.{key_value}
use Rattle.range_algebra.specs.Range.{IsBoundOfKey}
use Rattle.range_algebra.proofs.Measuring.{included_excluded, excluded_included, excluded_excluded}
use Rattle.range_algebra.proofs.length.measured.Goals as goal

pub distance-requires-in-Included-Excluded : goal.distance-requires-in-Included-Excluded
distance-requires-in-Included-Excluded g c =
    let a = c.get.result.now in
    let b = c.get-in-Included-Excluded.result.now in
    let start : bound_map key_value c.args.start.now ≡ Included a = cc in
    let end : bound_map key_value c.args.end.now ≡ Excluded b = cc in
    ap is_gt (included_excluded g.T.MaybeBounded.order g.met.T.PartialEnum.lawful _ _ a b start end
    c.requires.nonempty)

pub distance-requires-in-Excluded-Included : goal.distance-requires-in-Excluded-Included
distance-requires-in-Excluded-Included g c =
    let a = c.get-a-in-Excluded-Included.result.now in
    let b = c.get-b-in-Excluded-Included.result.now in
    let start : bound_map key_value c.args.start.now ≡ Excluded a = cc in
    let end : bound_map key_value c.args.end.now ≡ Included b = cc in
    ap is_gt (excluded_included g.T.MaybeBounded.order g.met.T.PartialEnum.lawful _ _ a b start end
    c.requires.nonempty)

pub overflow_sub-result : goal.overflow_sub-result
overflow_sub-result g c =
    let order = g.T.MaybeBounded.order in
    let a = c.get-a-in-Excluded-Included.result.now in
    let b = c.get-b-in-Excluded-Included.result.now in
    let start : bound_map key_value c.args.start.now ≡ Excluded a = cc in
    let end : bound_map key_value c.args.end.now ≡ Included b = cc in
    let low = subst (IsBoundOfKey order) start c.requires.known_start in
    let high = subst (IsBoundOfKey order) end c.requires.known_end in
    let below =
    excluded_included order g.met.T.PartialEnum.lawful _ _ a b start end c.requires.nonempty
    in
    omega (arith, g.met.T.Measure.measured.at_least a b low high below)

pub overflow_add-result-in-Excluded-Included : goal.overflow_add-result-in-Excluded-Included
overflow_add-result-in-Excluded-Included g c =
    let order = g.T.MaybeBounded.order in
    let a = c.get-a-in-Excluded-Included.result.now in
    let b = c.get-b-in-Excluded-Included.result.now in
    let start : bound_map key_value c.args.start.now ≡ Excluded a = cc in
    let end : bound_map key_value c.args.end.now ≡ Included b = cc in
    let low = subst (IsBoundOfKey order) start c.requires.known_start in
    let high = subst (IsBoundOfKey order) end c.requires.known_end in
    let below =
    excluded_included order g.met.T.PartialEnum.lawful _ _ a b start end c.requires.nonempty
    in
    omega (arith, g.met.T.Measure.measured.fits a b low high (ap is_gt below))

pub distance-requires-in-Excluded-Excluded : goal.distance-requires-in-Excluded-Excluded
distance-requires-in-Excluded-Excluded g c =
    let a = c.get-a-in-Excluded-Excluded.result.now in
    let b = c.get-b-in-Excluded-Excluded.result.now in
    let start : bound_map key_value c.args.start.now ≡ Excluded a = cc in
    let end : bound_map key_value c.args.end.now ≡ Excluded b = cc in
    ap is_gt (excluded_excluded g.T.MaybeBounded.order g.met.T.PartialEnum.lawful _ _ a b start end
    c.requires.nonempty)

pub overflow_sub-result-in-Excluded-Excluded : goal.overflow_sub-result-in-Excluded-Excluded
overflow_sub-result-in-Excluded-Excluded g c =
    let order = g.T.MaybeBounded.order in
    let a = c.get-a-in-Excluded-Excluded.result.now in
    let b = c.get-b-in-Excluded-Excluded.result.now in
    let start : bound_map key_value c.args.start.now ≡ Excluded a = cc in
    let end : bound_map key_value c.args.end.now ≡ Excluded b = cc in
    let low = subst (IsBoundOfKey order) start c.requires.known_start in
    let high = subst (IsBoundOfKey order) end c.requires.known_end in
    let below =
    excluded_excluded order g.met.T.PartialEnum.lawful _ _ a b start end c.requires.nonempty
    in
    omega (arith, g.met.T.Measure.measured.at_least a b low high below)
