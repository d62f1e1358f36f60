use Rattle.std.proofs.Common.{rules, ◌≡◌, true, false}
use Rattle.std.specs.Ordering.{is_gt}
use Rattle.std.specs.Range.Bound.{bound_map}
use Rattle.std.specs.declared.ops.Bound.{Bound}
use Rattle.range_keys.specs.Position.{end_position, position_cmp}
use Rattle.range_algebra.specs.Clones.{bound_clone}
use Rattle.range_algebra.proofs.Taking.{clones_tie, own_taken, other_taken}
use Rattle.range_algebra.proofs.any.combined.end_to_take.Goals as goal

pub returns-then-is_gt-clause-taken : goal.returns-then-is_gt-clause-taken
returns-then-is_gt-clause-taken g c =
    let order = g.T.MaybeBounded.order in
    let a : Bound g.row.T.Denot = bound_map (λ x. x.now) c.args.own in
    let b : Bound g.row.T.Denot = bound_map (λ x. x.now) c.args.other in
    let test : is_gt (position_cmp order.cmp (end_position order a) (end_position order b)) ≡ true =
    search rules in
    own_taken order g.met.T.PartialEnum.lawful
    (is_gt (position_cmp order.cmp (end_position order a) (end_position order b))) a b test

pub returns-in_ok-clone_of-clause-taken : goal.returns-in_ok-clone_of-clause-taken
returns-in_ok-clone_of-clause-taken g c =
    let order = g.T.MaybeBounded.order in
    let lawful = g.met.T.PartialEnum.lawful in
    let a : Bound g.row.T.Denot = bound_map (λ x. x.now) c.args.own in
    let b : Bound g.row.T.Denot = bound_map (λ x. x.now) c.args.other in
    let test : is_gt (position_cmp order.cmp (end_position order a) (end_position order b))
    ≡ false = search rules in
    let tie =
    clones_tie order g.T.Clone.is_clone g.T.PartialEq.eq g.T.Ord.cmp
    g.met.T.MaybeBounded.order_is_cmp g.met.T.Ord.matches_eq c.requires in
    other_taken order lawful
    (is_gt (position_cmp order.cmp (end_position order a) (end_position order b))) a b
    c.in_ok-clone_of.field-0 test
    (bound_clone order lawful g.T.Clone.is_clone tie b c.in_ok-clone_of.field-0
    c.in_ok-clone_of.ensures)
