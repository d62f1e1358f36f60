use Rattle.range_sets.proofs.set.RangeSet.extend.Goals as goal

pub extend-requires : goal.extend-requires
extend-requires g c = record { clones = c.requires.clones; ends = c.requires.ends }

pub returns-clause-refused : goal.returns-clause-refused
returns-clause-refused g c = rw (← c.self.view_is) c.extend.ensures.refused
