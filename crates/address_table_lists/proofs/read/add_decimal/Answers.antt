use Rattle.std.proofs.Common.{refl}
use Rattle.address_table_lists.proofs.read.add_decimal.Goals as goal

pub returns-in_ok-add-in-Some : goal.returns-in_ok-add-in-Some
returns-in_ok-add-in-Some c = (
  record { addresses = c.in-Some.line; value = c.in-Some.value.now },
  c.in-Some.ensures.cases,
  c.in_ok-add-in-Some.ensures,
)

pub returns-in-None : goal.returns-in-None
returns-in-None c = (c.in-None.ensures.cases, refl)
