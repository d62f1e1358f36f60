use Rattle.std.proofs.Common.{ℕ, ◌≤◌, length, arith, take_all}
use Rattle.std.proofs.lemmas.List.{take_more}
use Rattle.lexing_classes.specs.Leads.{HasPiece}
use Rattle.lexing_classes.proofs.Any.{any-push}
use Rattle.lexing_classes.proofs.Ranges.{in_ranges_any, lead_count-push}
use Rattle.lexing_classes.proofs.leads.leads_of.Goals as goal

pub loop-range-preserved : goal.loop-range-preserved
loop-range-preserved c =
    let was = c.loop-range.invariant in
    let new = c.in_ok-add_range.ensures in
    let more =
    take_more c.args.ranges.now c.loop-range.range-index (0, 0) c.loop-range-test.true in
    record {
      members = λ d q s.
          let with_it = any-push (λ (r : ℕ × ℕ). HasPiece r.0 r.1 c.args.to d q) _ _ _ more in
          grind (arith, was.members d q s, new.members d q s);
      one = λ d q h. grind (arith, was.one d q, new.one d q h);
      count = omega (
        arith,
        was.count,
        new.count,
        lead_count-push _ _ _ more,
      );
    }

pub returns-clause-members : goal.returns-clause-members
returns-clause-members c =
    λ d q s.
    let all : length c.args.ranges.now ≤ c.loop-range.range-index = omega arith in
    let held = rw take_all at (c.loop-range.invariant.members d q s) in
    grind (arith, in_ranges_any c.args.ranges.now d q c.args.to)

pub returns-clause-count : goal.returns-clause-count
returns-clause-count c =
    let all : length c.args.ranges.now ≤ c.loop-range.range-index = omega arith in
    rw take_all at c.loop-range.invariant.count
