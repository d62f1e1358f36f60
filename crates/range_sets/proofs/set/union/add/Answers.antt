use Rattle.std.proofs.Common.{refl, inr}
use Rattle.range_algebra.specs.References.{range_of}
use Rattle.range_runs.proofs.Tests.{not_both}
use Rattle.range_sets.proofs.Uniting.{apart_from}
use Rattle.range_sets.proofs.set.union.add.Goals as goal

pub returns : goal.returns
returns g c =
    inr (
      apart_from g.met.T.PartialEnum.lawful (range_of c.args.last) c.args.range.now
          (λ is. not_both c.if-reaches.false (c.reaches.ensures.1 is)),
      rw (c.start_bound.ensures tt, c.end_bound-end.ensures tt) refl,
      c.in_ok-push_clone.ensures,
    )
