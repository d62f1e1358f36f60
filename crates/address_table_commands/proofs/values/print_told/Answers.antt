use Rattle.address_table_commands.proofs.Printed.{unwritable_silent, unwritable_unprinted}
use Rattle.address_table_commands.proofs.values.print_told.Goals as goal

pub returns-clause-printed : goal.returns-clause-printed
returns-clause-printed g c =
    rw (c.as_slice.ensures.value, c.in-Ok.ensures) at c.tell.ensures.printed

pub returns-clause-silent : goal.returns-clause-silent
returns-clause-silent g c = unwritable_silent _ c.tell.result c.tell.ensures.failed

pub returns-clause-failed : goal.returns-clause-failed
returns-clause-failed g c = unwritable_unprinted c.tell.result c.tell.ensures.failed
