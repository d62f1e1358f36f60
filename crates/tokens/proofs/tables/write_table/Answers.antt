use Rattle.std.proofs.Common.{refl}
use Rattle.line_program.proofs.Listing.{appends_then, on_ok_as}
use Rattle.tokens.proofs.tables.write_table.Goals as goal

pub returns : goal.returns
returns g c = λ rules is.
    let head = rw c.as_bytes.ensures.value at c.in_ok-write_all.ensures.bytes in
    let middle = rw c.as_bytes-2.ensures.value at c.in_ok-write_all-2.ensures.bytes in
    on_ok_as c.write_all-3.result _ _
    (λ last. (
      _,
      (c.in_ok-table.table.states.items, c.in_ok-table.ensures, refl),
      appends_then _ _ _ _ _
          (appends_then _ _ _ _ _
          (appends_then _ _ _ _ _
          (appends_then _ _ _ _ _ head (c.in_ok-write_rules.ensures rules (rw c.lexer.ensures is)))
          middle)
          c.in_ok-write_states.ensures)
          last,
    ))
    (rw c.as_bytes-3.ensures.value at c.write_all-3.ensures.bytes)
