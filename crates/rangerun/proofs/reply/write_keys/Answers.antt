use Rattle.std.proofs.Common.{◌++◌, rules}
use Rattle.std.specs.Fmt.{signed_decimal}
use Rattle.std.specs.Io.KnownBytes.{Appends}
use Rattle.std.specs.Prelude.{codes}
use Rattle.line_program.proofs.Listing.{appends_then, on_ok_as}
use Rattle.rangerun.proofs.reply.write_keys.Goals as goal

pub returns : goal.returns
returns g c =
    let before = g.W.Write.contents c.args.out.now in
    let first = g.W.Write.contents c.write_number.new.out in
    let dots = g.W.Write.contents c.write_all.new.self in
    let next = g.W.Write.contents c.write_number-2.new.out in
    let ends = c.args.ends.now in
    let written : Appends before first (signed_decimal ends.0) = search rules in
    on_ok_as c.write_number-2.result _ _
    (λ appended.
    let last : Appends dots next (signed_decimal ends.1) = search rules in
    appends_then before dots next (signed_decimal ends.0 ++ codes "..=") (signed_decimal ends.1)
    (appends_then before first dots (signed_decimal ends.0) (codes "..=") written
    c.in_ok-write_all.ensures.bytes) last)
    c.write_number-2.ensures
