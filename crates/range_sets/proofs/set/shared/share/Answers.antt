use Rattle.std.proofs.Common.{◌∙◌, inl, inr, arith}
use Rattle.range_algebra.specs.Clones.{bound_clone}
use Rattle.range_map.proofs.CloneLists.{clones_tied}
use Rattle.range_sets.proofs.Sharing.{set_apart, shared_none, shared_left, shared_right, shared_both, zipped, one_is_missing}
use Rattle.range_sets.proofs.Uniting.{stepped, drained, nothing_ahead}
use Rattle.range_sets.proofs.set.shared.share.Goals as goal

pub loop-range-init : goal.loop-range-init
loop-range-init g c =
    let left = c.next-left in
    let right = c.next-right in
    record {
      shared = λ lawful.
          rw (
            stepped _ _ _ left.ensures.steps ∙ c.iter-items.ensures.ranges,
            stepped _ _ _ right.ensures.steps ∙ c.iter-others.ensures.ranges,
            c.requires.empty,
          )
          (shared_none lawful _ _ (set_apart lawful _ c.iter-items.ensures.canonical.stored)
          (set_apart lawful _ c.iter-others.ensures.canonical.stored));
      first = drained _ _ _ left.ensures.steps;
      second = drained _ _ _ right.ensures.steps;
    }

pub loop-range-preserved-then-is_first : goal.loop-range-preserved-then-is_first
loop-range-preserved-then-is_first g c =
    let inv = c.loop-range.invariant in
    let both = zipped _ _ _ _ c.in-Some.ensures in
    let left = c.next-left-then-is_first in
    let equal_keys =
    clones_tied g.met.T.MaybeBounded.order_is_cmp g.met.T.Ord.matches_eq c.requires.clones in
    record {
      shared = λ lawful.
          rw (stepped _ _ _ left.ensures.steps, both.1)
          (shared_left lawful _ _ g.T.Clone.is_clone
          (bound_clone g.T.MaybeBounded.order lawful g.T.Clone.is_clone equal_keys)
          (rw (both.0, both.1) at (inv.shared lawful)) _ _ c.in_ok-push_unless_empty.ensures
          (rw c.if-is_first.true at c.common-is_first.ensures));
      first = drained _ _ _ left.ensures.steps;
      second = inv.second;
    }

pub loop-range-smaller : goal.loop-range-smaller
loop-range-smaller g c =
    let both = zipped _ _ _ _ c.in-Some.ensures in
    let right = c.next-right-else-is_first in
    rw (stepped _ _ _ right.ensures.steps, both.1) (omega arith)

pub loop-range-preserved : goal.loop-range-preserved
loop-range-preserved g c =
    let inv = c.loop-range.invariant in
    let both = zipped _ _ _ _ c.in-Some.ensures in
    let right = c.next-right-else-is_first in
    let equal_keys =
    clones_tied g.met.T.MaybeBounded.order_is_cmp g.met.T.Ord.matches_eq c.requires.clones in
    record {
      shared = λ lawful.
          rw (stepped _ _ _ right.ensures.steps, both.0)
          (shared_right lawful _ _ g.T.Clone.is_clone
          (bound_clone g.T.MaybeBounded.order lawful g.T.Clone.is_clone equal_keys)
          (rw (both.0, both.1) at (inv.shared lawful)) _ _ c.in_ok-push_unless_empty.ensures
          (rw c.if-is_first.false at c.common-is_first.ensures));
      first = inv.first;
      second = drained _ _ _ right.ensures.steps;
    }

pub returns : goal.returns
returns g c =
    let lawful = g.met.T.PartialEnum.lawful in
    let inv = c.loop-range.invariant in
    let none = one_is_missing _ _ (rw c.in_default.is at c.zip.ensures) in
    let all =
    shared_both lawful _ _ _ _ _ (elim none [
      | inl e ↦ inl (nothing_ahead _ _ e inv.first)
      | inr e ↦ inr (nothing_ahead _ _ e inv.second)
    ]) (inv.shared lawful) in
    record {
      held = all.0;
      form = all.1;
    }
