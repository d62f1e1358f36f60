use Rattle.std.proofs.Common.{◌≡◌, ◌≢◌, length, map, subst, arith}
use Rattle.std.specs.Io.KnownBytes.{Appends}
use Rattle.line_program.proofs.Listing.{on_ok_as}
use Rattle.address_rows.specs.Forms.{family_opening}
use Rattle.address_tables.specs.Tables.{shown}
use Rattle.address_table_lists.specs.Printed.{IsEntryLine}
use Rattle.address_table_lists.proofs.Framed.{framed_all, framed_none}
use Rattle.address_table_lists.proofs.Shown.{some_shown, none_shown}
use Rattle.address_table_lists.proofs.print.write_framed_entries.Goals as goal

pub returns-then-is_empty : goal.returns-then-is_empty
returns-then-is_empty g c =
    let empty : length c.args.entries.now ≡ 0 = grind arith in
    framed_none c.args.form g.A.FamilyAddress.its_family
    (IsEntryLine c.args.form g.A.FamilyAddress.its_family g.A.Address.number
    (map (λ v. v.items) c.args.values.now))
    (map shown c.args.entries.now) (g.W.Write.contents c.args.out.now)
    (none_shown c.args.entries.now empty)

pub returns : goal.returns
returns g c =
    let family = g.A.FamilyAddress.its_family in
    let form = c.args.form in
    let start = g.W.Write.contents c.args.out.now in
    let begun = g.W.Write.contents c.write_all.new.self in
    let full = g.W.Write.contents c.write_entries.new.out in
    let ended = g.W.Write.contents c.write_all-2.new.self in
    let some : length c.args.entries.now ≢ 0 = grind arith in
    let opening : c.family_opening.result.now ≡ family_opening c.args.form g.A.FamilyAddress.its_family =
    grind arith in
    let opened = subst (Appends start begun) opening c.in_ok-write_all.ensures.bytes in
    on_ok_as c.write_all-2.result _ _
    (λ closed. framed_all form family
    (IsEntryLine form family g.A.Address.number (map (λ v. v.items) c.args.values.now))
    (map shown c.args.entries.now) start begun full ended
    (some_shown c.args.entries.now some) opened c.in_ok-write_entries.ensures
    (subst (Appends full ended) c.family_closing.ensures closed))
    c.write_all-2.ensures.bytes
