use Rattle.range_merge.specs.Merged.{part_item}
use Rattle.range_merge.proofs.FirstPieces.{left_alone}
use Rattle.range_merge.proofs.merged.whole_part.Goals as goal

pub returns : goal.returns
returns g c =
    rw c.keys_of.ensures
    (left_alone g.met.K.PartialEnum.lawful {W = g.row.W.Denot}
    (part_item c.args.part) c.requires)
