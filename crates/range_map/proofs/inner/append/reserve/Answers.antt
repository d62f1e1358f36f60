use Rattle.range_map.proofs.inner.append.reserve.Goals as goal

pub returns-clause-space : goal.returns-clause-space
returns-clause-space g c = c.reserve.ensures.ok
