use Rattle.range_merge.proofs.merged.whole_other.Goals as goal

pub returns : goal.returns
returns g c =
    c.swapped.ensures _ _ c.whole_part.ensures
