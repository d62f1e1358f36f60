use Rattle.std.proofs.Common.{inl, inr}
use Rattle.cidr.proofs.table.print_selected.Goals as goal

pub returns-in-Ok-clause-printed : goal.returns-in-Ok-clause-printed
returns-in-Ok-clause-printed g c = λ files known.
    let (said, are, counted, is) = c.in_ok-list.ensures.selected files known in
    (said, c.in_ok-list.list, are, counted, is, c.in-Ok.ensures.printed)

pub returns-in-Err-Memory-clause-silent : goal.returns-in-Err-Memory-clause-silent
returns-in-Err-Memory-clause-silent g c = λ unlike. c.in-Err-Memory.ensures.silent (λ e. cc)

pub returns-clause-silent : goal.returns-clause-silent
returns-clause-silent g c = λ unlike.
    elim c.in-Err-Bad.ensures.failed [ inl e ↦ cc | inr e ↦ cc ]
