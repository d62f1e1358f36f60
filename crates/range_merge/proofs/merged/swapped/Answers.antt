use Rattle.range_merge.proofs.FirstPieces.{swapped}
use Rattle.range_merge.proofs.merged.swapped.Goals as goal

pub returns : goal.returns
returns g c left right first =
    swapped g.met.K.PartialEnum.lawful first
