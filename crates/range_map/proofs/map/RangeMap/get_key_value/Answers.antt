use Rattle.range_map.proofs.map.RangeMap.get_key_value.Goals as goal

pub returns-in-Some-clause-stored : goal.returns-in-Some-clause-stored
returns-in-Some-clause-stored g c =
    rw (← c.self.view_is, c.as_pair.ensures.key, c.as_pair.ensures.value)
    c.in-Some.ensures.stored
