use Rattle.std.proofs.Common.{rules}
use Rattle.range_map.proofs.map.RangeMap.range_count.Goals as goal

pub returns-clause-value : goal.returns-clause-value
returns-clause-value g c = search rules

pub returns-clause-least : goal.returns-clause-least
returns-clause-least g c = λ complete.
    rw (returns-clause-value g c) (c.in_form.ensures.canonical.least complete)
