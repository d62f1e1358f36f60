use Rattle.std.proofs.Common.{refl}
use Rattle.lexing.proofs.tokens.token_at.Goals as goal

pub returns-in-Ok-None : goal.returns-in-Ok-None
returns-in-Ok-None g c =
    let none = rw c.in-Ok-None.field-0-is at c.in-Ok-None.ensures.longest in
    (refl, rw (← c.range_from.ensures.value) none)
