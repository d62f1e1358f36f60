use Rattle.std.proofs.Common.{◌≡◌, ◌∙◌, take_all, arith}
use Rattle.lexing_mode_patterns.proofs.Changing.{set_more}
use Rattle.lexing_mode_patterns.proofs.build.set_changes_in.Goals as goal

pub returns-in_err-set_change-clause-scanners : goal.returns-in_err-set_change-clause-scanners
returns-in_err-set_change-clause-scanners c = λ mode scanner is.
    c.in_err-set_change.ensures.scanners mode scanner (c.loop-at.invariant.scanners mode scanner is)

pub loop-at-preserved : goal.loop-at-preserved
loop-at-preserved c =
    let was = c.loop-at.invariant in
    let set = c.in_ok-set_change.ensures in
    let same : c.in-Ok.number ≡ c.loop-at.at = omega (arith, c.in-Ok.ensures) in
    record {
      set = set_more c.args.held.now c.loop-at.at c.args.mode _ c.loop-at.modes c.set_change.new.self
          (omega arith) was.set (rw same at set.set);
      others = λ m r apart. set.set.others m r (λ both. apart both.0) ∙ was.others m r apart;
      count = set.count ∙ was.count;
      scanners = λ mode scanner is. set.scanners mode scanner (was.scanners mode scanner is);
    }

pub returns-clause-set : goal.returns-clause-set
returns-clause-set c = λ i rule at.
    c.loop-at.invariant.set i rule
    (rw (take_all c.loop-at.at c.args.held.now (omega arith)) at)
