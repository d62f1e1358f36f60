use Rattle.range_sets.proofs.set.RangeSet.is_superset.Goals as goal

pub returns-clause-inside : goal.returns-clause-inside
returns-clause-inside g c = c.is_subset.ensures.inside

pub returns-clause-held : goal.returns-clause-held
returns-clause-held g c = c.is_subset.ensures.held

pub returns-clause-complete : goal.returns-clause-complete
returns-clause-complete g c = c.is_subset.ensures.complete
