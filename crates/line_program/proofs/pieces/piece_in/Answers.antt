use Rattle.std.proofs.Common.{◌≡◌, sym, true, List, ℕ, [], take, drop, arith}
use Rattle.std.proofs.lemmas.List.{take-append-drop}
use Rattle.line_program.proofs.Faults.{fault_stays}
use Rattle.line_program.proofs.Listing.{append_nil}
use Rattle.line_program.proofs.pieces.piece_in.Goals as goal
use Rattle.line_program.proofs.pieces.piece_in.Goals.{then-is_last-via-then-is_last, then-is_last-via-else-is_last+then-bytes-valid-ge4}

pub returns-then-is_last : goal.returns-then-is_last
returns-then-is_last c more follows =
    let bytes = c.args.bytes.now in
    let fault = c.in-Err.ensures.cases.1 in
    elim c.then-is_last.branch [
      | then-is_last-via-then-is_last w ↦
          rw (follows w.if-is_last.true, append_nil bytes, c.valid_up_to-valid.ensures) fault
      | then-is_last-via-else-is_last+then-bytes-valid-ge4 w ↦
          rw c.valid_up_to-valid.ensures
          (fault_stays bytes more _ fault
          (omega (arith, c.valid_up_to-valid.ensures, w.if-bytes-valid-ge4.true, fault.short)))
    ]

pub returns-in-Ok-from_utf8 : goal.returns-in-Ok-from_utf8
returns-in-Ok-from_utf8 c =
    let bytes = c.args.bytes.now in
    let valid = c.valid_up_to-valid.result in (
      drop valid bytes,
      rw c.in-Ok-from_utf8.ensures.cases.0 (sym (take-append-drop valid bytes)),
      λ last. absurd cc,
    )
