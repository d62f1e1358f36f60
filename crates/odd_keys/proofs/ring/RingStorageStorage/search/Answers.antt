use Rattle.std.proofs.Common.{◌+◌, ◌-◌, ◌/◌, ◌<◌, ◌∙◌, length, arith}
use Rattle.odd_keys.proofs.Searched.{passes_up_to, fails_from}
use Rattle.odd_keys.proofs.ring.RingStorageStorage.search.Goals as goal

pub loop-low-preserved-then-ask : goal.loop-low-preserved-then-ask
loop-low-preserved-then-ask g c =
    let within : c.loop-low.low + (c.loop-low.high - c.loop-low.low) / 2
    < length c.args.self.now.stored.items = omega arith in
    record {
      in_order = omega arith;
      in_range = omega arith;
      kept = λ x. c.if-ask.ensures.test_kept x ∙ c.loop-low.invariant.kept x;
      passed =
          passes_up_to (g.P.Probe.test c.args.probe.now)
          (g.P.Probe.test c.loop-low.probe) _ _ _ c.requires c.loop-low.invariant.kept within
          c.index.ensures c.if-ask.ensures.answer;
      failed = c.loop-low.invariant.failed;
      at_most = omega arith;
      at_least = omega arith;
    }

pub loop-low-preserved : goal.loop-low-preserved
loop-low-preserved g c =
    let within : c.loop-low.low + (c.loop-low.high - c.loop-low.low) / 2
    < length c.args.self.now.stored.items = omega arith in
    record {
      in_order = omega arith;
      in_range = omega arith;
      kept = λ x. c.if-ask.ensures.test_kept x ∙ c.loop-low.invariant.kept x;
      passed = c.loop-low.invariant.passed;
      failed =
          fails_from (g.P.Probe.test c.args.probe.now)
          (g.P.Probe.test c.loop-low.probe) _ _ _ c.requires c.loop-low.invariant.kept within
          c.index.ensures c.if-ask.ensures.answer;
      at_most = omega arith;
      at_least = omega arith;
    }
