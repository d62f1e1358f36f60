use Rattle.line_program.proofs.Listing.{append_nil, appends_then}
use Rattle.tokens.proofs.CountLines.{nothing_silent}
use Rattle.tokens.proofs.count.print_counts.Goals as goal

pub returns-then-is_whole-clause-counted : goal.returns-then-is_whole-clause-counted
returns-then-is_whole-clause-counted g c =
    let (counted, is, written) = c.in_ok-is_whole.ensures in
    (counted, rw c.if-is_whole.true at is, written)

pub returns-clause-counted : goal.returns-clause-counted
returns-clause-counted g c =
    let (counted, is, written) = c.in_ok-is_whole.ensures in
    let (line, (items, given, whole, spells), more) = c.in_ok-print_tokens.ensures.printed in
    let none = nothing_silent c.args.printer.now.modes.now c.args.text.now items line
    (rw c.requires.silent at spells) in
    (counted, rw c.if-is_whole.false at is, rw (none, append_nil) at (appends_then _ _ _ counted line written more))
