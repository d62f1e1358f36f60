use Rattle.line_program.proofs.Listing.{appends_then, on_ok_as}
use Rattle.tokens.proofs.tables.write_state.Goals as goal

pub returns : goal.returns
returns g c =
    let front = rw c.as_bytes.ensures.value at c.in_ok-write_all.ensures.bytes in
    let close = rw c.as_bytes-2.ensures.value at c.in_ok-write_all-2.ensures.bytes in
    on_ok_as c.write_all-3.result _ _
    (λ last. appends_then _ _ _ _ _
    (appends_then _ _ _ _ _
    (appends_then _ _ _ _ _
    (appends_then _ _ _ _ _ front c.in_ok-write_leads.ensures)
    close)
    c.in_ok-write_number.ensures)
    last)
    (rw c.as_bytes-3.ensures.value at c.write_all-3.ensures.bytes)
