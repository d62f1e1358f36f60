use Rattle.std.proofs.Common.{◌∙◌, sym}
use Rattle.std.specs.Option.{option_copied}
use Rattle.std.proofs.lemmas.Result.{on_ok_weaker}
use Rattle.range_algebra.specs.Clones.{bound_clone}
use Rattle.range_algebra.specs.References.{range_of}
use Rattle.range_map.proofs.CloneLists.{clones_tied}
use Rattle.range_sets.proofs.Uniting.{stepped, drained, nothing_ahead, first_placed, united_none, united_first, united_left, united_right, united_all}
use Rattle.range_sets.proofs.set.union.unite.Goals as goal

pub returns-in-None : goal.returns-in-None
returns-in-None g c =
    let left = c.next-left in
    let right = c.next-right in
    let none = united_none g.met.T.PartialEnum.lawful _ _
    (sym (nothing_ahead _ _ c.in-None.ensures.0 (drained _ _ _ left.ensures.steps))
    ∙ (stepped _ _ _ left.ensures.steps ∙ c.iter-items.ensures.ranges))
    (sym (nothing_ahead _ _ c.in-None.ensures.1 (drained _ _ _ right.ensures.steps))
    ∙ (stepped _ _ _ right.ensures.steps ∙ c.iter-others.ensures.ranges)) in
    record {
      held = rw c.requires.empty none.0;
      form = rw c.requires.empty none.1;
    }

pub loop-range-init : goal.loop-range-init
loop-range-init g c =
    let left = c.next-left in
    let right = c.next-right in
    let none = drained _ _ _ left.ensures.steps in
    let none_other = drained _ _ _ right.ensures.steps in
    record {
      united = λ lawful.
          rw (c.requires.empty, c.start_bound.ensures tt, c.end_bound.ensures tt)
          (united_first lawful _ _ (option_copied left.result) (option_copied right.result)
          left.new.self right.new.self c.in-Some.first.now c.in-Some.field-0-1 none none_other
          c.iter-items.ensures.canonical.stored c.iter-others.ensures.canonical.stored
          (stepped _ _ _ left.ensures.steps ∙ c.iter-items.ensures.ranges)
          (stepped _ _ _ right.ensures.steps ∙ c.iter-others.ensures.ranges) c.in-Some.ensures);
      first = none;
      second = none_other;
    }

pub add-requires : goal.add-requires
add-requires g c =
    let lawful = g.met.T.PartialEnum.lawful in
    let inv = c.loop-range.invariant in
    first_placed lawful _ _ (option_copied c.loop-range.left) (option_copied c.loop-range.right)
    c.loop-range.items c.loop-range.others c.in-Some-first_of.range.now c.in-Some-first_of.is_left
    c.loop-range.ranges.items (range_of c.loop-range.last) (inv.united lawful)
    c.in-Some-first_of.ensures

pub loop-range-preserved-then-is_left : goal.loop-range-preserved-then-is_left
loop-range-preserved-then-is_left g c =
    let inv = c.loop-range.invariant in
    let left = c.next-left-then-is_left in
    let equal_keys =
    clones_tied g.met.T.MaybeBounded.order_is_cmp g.met.T.Ord.matches_eq c.requires.clones in
    record {
      united = λ lawful.
          rw (stepped _ _ _ left.ensures.steps)
          (united_left lawful _ _ g.T.Clone.is_clone
          (bound_clone g.T.MaybeBounded.order lawful g.T.Clone.is_clone equal_keys)
          (option_copied c.loop-range.left) (option_copied c.loop-range.right) _ _ _ _ _ _ _
          inv.second (inv.united lawful)
          (rw c.if-is_left.true at c.in-Some-first_of.ensures) c.in_ok-last.ensures);
      first = drained _ _ _ left.ensures.steps;
      second = inv.second;
    }

pub loop-range-preserved : goal.loop-range-preserved
loop-range-preserved g c =
    let inv = c.loop-range.invariant in
    let right = c.next-right-else-is_left in
    let equal_keys =
    clones_tied g.met.T.MaybeBounded.order_is_cmp g.met.T.Ord.matches_eq c.requires.clones in
    record {
      united = λ lawful.
          rw (stepped _ _ _ right.ensures.steps)
          (united_right lawful _ _ g.T.Clone.is_clone
          (bound_clone g.T.MaybeBounded.order lawful g.T.Clone.is_clone equal_keys)
          (option_copied c.loop-range.left) (option_copied c.loop-range.right) _ _ _ _ _ _ _
          inv.first (inv.united lawful)
          (rw c.if-is_left.false at c.in-Some-first_of.ensures) c.in_ok-last.ensures);
      first = inv.first;
      second = drained _ _ _ right.ensures.steps;
    }

pub returns : goal.returns
returns g c =
    let lawful = g.met.T.PartialEnum.lawful in
    let inv = c.loop-range.invariant in
    let none = rw c.in_default.is at c.first_of-in-loop-range.ensures in
    let all =
    united_all lawful _ _ g.T.Clone.is_clone
    (bound_clone g.T.MaybeBounded.order lawful g.T.Clone.is_clone
    (clones_tied g.met.T.MaybeBounded.order_is_cmp g.met.T.Ord.matches_eq c.requires.clones)) _ _
    c.loop-range.ranges.items c.push_clone.new.ranges.items (range_of c.loop-range.last)
    (nothing_ahead c.loop-range.left c.loop-range.items none.0 inv.first)
    (nothing_ahead c.loop-range.right c.loop-range.others none.1 inv.second)
    (inv.united lawful) in
    record {
      held = on_ok_weaker c.push_clone.result (λ pushed. (all pushed).0) c.push_clone.ensures;
      form = on_ok_weaker c.push_clone.result (λ pushed. (all pushed).1) c.push_clone.ensures;
    }
