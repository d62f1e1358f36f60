use Rattle.address_table_commands.proofs.values.print_counts.Goals as goal

pub returns-in-Ok-write_text-clause-printed : goal.returns-in-Ok-write_text-clause-printed
returns-in-Ok-write_text-clause-printed g c = (
  c.in-Ok.text.items,
  c.in-Ok.ensures,
  rw c.as_slice.ensures.value at c.in-Ok-write_text.ensures,
)
