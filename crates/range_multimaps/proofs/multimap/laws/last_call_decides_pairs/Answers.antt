use Rattle.range_multimaps.proofs.CallHistories.{from_any, from_empty}
use Rattle.range_multimaps.proofs.multimap.laws.last_call_decides_pairs.Goals as goal

pub returns : goal.returns
returns g c =
    record {
      from_empty =
          λ calls last chain k key v.
          from_empty g.K.MaybeBounded.order g.met.K.PartialEnum.lawful g.S.SetMut.has
          g.V.PartialEq.eq
          k key v last calls chain;
      from_any =
          λ items last calls chain k key v.
          from_any g.K.MaybeBounded.order g.met.K.PartialEnum.lawful g.S.SetMut.has
          g.V.PartialEq.eq k
          key v items last calls chain;
    }
