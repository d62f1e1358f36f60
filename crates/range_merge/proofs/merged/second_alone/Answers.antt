use Rattle.range_merge.proofs.merged.second_alone.Goals as goal

pub returns : goal.returns
returns g c =
    c.swapped.ensures _ _ c.first_alone.ensures
