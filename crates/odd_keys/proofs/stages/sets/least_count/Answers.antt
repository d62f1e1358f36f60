use Rattle.odd_keys.proofs.stages.sets.least_count.Goals as goal

pub returns : goal.returns
returns g c = c.range_count.ensures.least g.met.K.Complete.complete
