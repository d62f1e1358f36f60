use Rattle.address_table_lists.proofs.print.print_table.Goals as goal

pub returns-in-Disjoint-clause-printed : goal.returns-in-Disjoint-clause-printed
returns-in-Disjoint-clause-printed g c =
    rw c.in-Disjoint.is
    (rw (c.as_slice-values.ensures.value, c.in-Ok.ensures) at c.write_disjoint.ensures.written)

pub returns-clause-printed : goal.returns-clause-printed
returns-clause-printed g c =
    rw c.in-Shortest.is
    (rw (c.as_slice-values.ensures.value, c.in-Ok.ensures) at c.write_shortest.ensures.written)
