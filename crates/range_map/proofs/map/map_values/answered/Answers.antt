use Rattle.std.proofs.Common.{◌∙◌}
use Rattle.std.proofs.lemmas.Fn.{says_at}
use Rattle.range_map.proofs.map.map_values.answered.Goals as goal

pub returns-in-Err-clause-closure : goal.returns-in-Err-clause-closure
returns-in-Err-clause-closure g c = λ e failed. says_at g.F.Fn c.f.ensures (c.in-Err.is ∙ cc)

pub returns-in_err-key-in-Ok-clause-memory : goal.returns-in_err-key-in-Ok-clause-memory
returns-in_err-key-in-Ok-clause-memory g c = λ failed.
    (c.in-Ok.value, says_at g.F.Fn c.f.ensures c.in-Ok.is)
