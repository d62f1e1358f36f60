use Rattle.address_table_lists.proofs.table.table_of.Goals as goal

pub returns : goal.returns
returns c = record {
  v4 = rw c.as_slice.ensures.value at c.in_ok-v4.ensures;
  v6 = rw c.as_slice-2.ensures.value at c.in_ok-v6.ensures;
}
