use Rattle.range_map.proofs.Common.{◌<◌, length}
use Rattle.range_map.specs.MappedValues.{AreFirstAnswered}
use Rattle.range_map.proofs.MappedValues.{IsMappedUpTo}
use Rattle.range_map.proofs.map.map_values.answers_to.Given as goal

abbrev pub invariant-loop-part : goal.invariant-loop-part
invariant-loop-part g l = record {
  mapped : IsMappedUpTo g.K.MaybeBounded.order g.F.Fn l.f g.W.PartialEq.eq
      (g.C.Storage.items l.map) l.items l.answers.items;
  some : 0 < length l.answers.items
      → AreFirstAnswered g.F.Fn l.f (g.C.Storage.items l.map);
}

abbrev pub decreases-loop-part : goal.decreases-loop-part
decreases-loop-part g l = length l.items
