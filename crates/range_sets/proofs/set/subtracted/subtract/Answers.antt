use Rattle.std.proofs.Common.{◌≡◌, ◌∙◌, ◌++◌, [], arith}
use Rattle.std.specs.Option.{option_map}
use Rattle.range_keys.specs.Position.{bound_of, end_position}
use Rattle.range_algebra.specs.Clones.{bound_clone}
use Rattle.range_algebra.specs.References.{range_of}
use Rattle.range_runs.specs.Window.{option_items}
use Rattle.range_runs.proofs.PlaceOrder.{not_lt}
use Rattle.range_map.proofs.CloneLists.{clones_tied}
use Rattle.range_sets.proofs.Sharing.{set_apart}
use Rattle.range_sets.proofs.Subtracting.{subtracted_none, subtracted_whole, subtracted_right, subtracted_left, subtracted_all}
use Rattle.range_sets.proofs.Uniting.{stepped, drained, nothing_ahead}
use Rattle.range_sets.proofs.set.subtracted.subtract.Goals as goal

pub loop-left-init : goal.loop-left-init
loop-left-init g c =
    let right = c.next-right in
    record {
      subtracted = λ lawful.
          rw (
            c.next_whole-left.ensures.ranges ∙ c.iter-items.ensures.ranges,
            stepped _ _ _ right.ensures.steps ∙ c.iter-others.ensures.ranges,
            c.requires.empty,
          )
          (subtracted_none lawful _ _ (set_apart lawful _ c.iter-items.ensures.canonical.stored)
          (set_apart lawful _ c.iter-others.ensures.canonical.stored));
      first = c.next_whole-left.ensures.last;
      second = drained _ _ _ right.ensures.steps;
    }

pub loop-left-preserved-in-None : goal.loop-left-preserved-in-None
loop-left-preserved-in-None g c =
    let inv = c.loop-left.invariant in
    let none = nothing_ahead _ _ c.in-None.is inv.second in
    let equal_keys =
    clones_tied g.met.T.MaybeBounded.order_is_cmp g.met.T.Ord.matches_eq c.requires.clones in
    record {
      subtracted = λ lawful.
          rw (c.next_whole-left-in-None.ensures.ranges, none)
          (subtracted_whole lawful _ _ (rw (c.in-Some.is, none) at (inv.subtracted lawful))
          g.T.Clone.is_clone
          (bound_clone g.T.MaybeBounded.order lawful g.T.Clone.is_clone equal_keys) _
          c.in_ok-push_clone-in-None.ensures);
      first = c.next_whole-left-in-None.ensures.last;
      second = inv.second;
    }

pub push_front-requires-clause-range : goal.push_front-requires-clause-range
push_front-requires-clause-range g c =
    (rw c.in-Some.is at (c.loop-left.invariant.subtracted g.met.T.PartialEnum.lawful)).left_apart.0

pub push_front-requires-clause-other : goal.push_front-requires-clause-other
push_front-requires-clause-other g c =
    (rw c.in-Some-right.is at
    (c.loop-left.invariant.subtracted g.met.T.PartialEnum.lawful)).right_apart.0

pub rest_past-requires-clause-range : goal.rest_past-requires-clause-range
rest_past-requires-clause-range g c =
    (rw c.in-Some.is at (c.loop-left.invariant.subtracted g.met.T.PartialEnum.lawful)).left_apart.0

pub rest_past-requires-clause-other : goal.rest_past-requires-clause-other
rest_past-requires-clause-other g c =
    (rw c.in-Some-right.is at
    (c.loop-left.invariant.subtracted g.met.T.PartialEnum.lawful)).right_apart.0

pub loop-left-smaller-then-ends_before : goal.loop-left-smaller-then-ends_before
loop-left-smaller-then-ends_before g c =
    rw (
      stepped _ _ _ c.next-right-then-ends_before.ensures.steps,
      c.in-Some.is,
      c.in-Some-right.is,
    )
    (omega arith)

pub loop-left-preserved-then-ends_before : goal.loop-left-preserved-then-ends_before
loop-left-preserved-then-ends_before g c =
    let inv = c.loop-left.invariant in
    let right = c.next-right-then-ends_before in
    let equal_keys =
    clones_tied g.met.T.MaybeBounded.order_is_cmp g.met.T.Ord.matches_eq c.requires.clones in
    record {
      subtracted = λ lawful.
          rw (stepped _ _ _ right.ensures.steps)
          (subtracted_right lawful _ _
          (rw (c.in-Some.is, c.in-Some-right.is) at (inv.subtracted lawful)) g.T.Clone.is_clone
          (bound_clone g.T.MaybeBounded.order lawful g.T.Clone.is_clone equal_keys) _ _
          c.in_ok-push_front-in-Some-right.ensures c.rest_past.ensures);
      first = λ e. absurd (cc);
      second = drained _ _ _ right.ensures.steps;
    }

pub loop-left-preserved : goal.loop-left-preserved
loop-left-preserved g c =
    let order = g.T.MaybeBounded.order in
    let inv = c.loop-left.invariant in
    let left = c.next_whole-left-else-ends_before in
    let before = rw (c.end_bound.ensures tt) at c.ends_before.ensures in
    let branch = c.if-ends_before.false in
    let equal_keys =
    clones_tied g.met.T.MaybeBounded.order_is_cmp g.met.T.Ord.matches_eq c.requires.clones in
    record {
      subtracted = λ lawful.
          rw (left.ensures.ranges, c.in-Some-right.is)
          (subtracted_left lawful _ _
          (rw (c.in-Some.is, c.in-Some-right.is) at (inv.subtracted lawful)) g.T.Clone.is_clone
          (bound_clone order lawful g.T.Clone.is_clone equal_keys) _
          c.in_ok-push_front-in-Some-right.ensures
          (not_lt lawful (end_position order (bound_of c.in-Some.range.end))
          (end_position order c.in-Some-right.other.now.end)
          (λ lt. grind (arith, before.1 lt))));
      first = left.ensures.last;
      second = inv.second;
    }

pub returns : goal.returns
returns g c =
    let lawful = g.met.T.PartialEnum.lawful in
    let inv = c.loop-left.invariant in
    let none : option_items (option_map range_of c.loop-left.left) ++ c.loop-left.items ≡ [] =
    rw c.in_default.is (inv.first c.in_default.is) in
    let all = subtracted_all lawful _ _ _ _ _ none (inv.subtracted lawful) in
    record {
      held = all.0;
      form = all.1;
    }
