use Rattle.std.proofs.Common.{◌≡◌, ◌++◌, OnOk, map, subst, sym, arith}
use Rattle.std.specs.Io.KnownBytes.{Appends}
use Rattle.std.specs.Net.Text.{ip_text}
use Rattle.std.specs.Prelude.{codes}
use Rattle.line_program.proofs.Listing.{appends_then, on_ok_as}
use Rattle.address_rows.specs.Forms.{block_line}
use Rattle.address_rows.specs.declared.forms.Form.TheVariants.{Lines}
use Rattle.address_rows.specs.declared.write.Block.TheVariants.{Range}
use Rattle.address_table_lists.specs.Lookups.{value_line}
use Rattle.address_table_lists.proofs.lookup.write_stored.Goals as goal

pub returns-in_ok-write-in-Some : goal.returns-in_ok-write-in-Some
returns-in_ok-write-in-Some g c =
    let start = g.W.Write.contents c.args.out.now in
    let now = g.W.Write.contents c.write.new.self in
    let next = g.W.Write.contents c.write_line.new.out in
    let is : value_line (map (λ v. v.items) c.args.values.now) c.args.address c.args.stored
    ≡ (ip_text c.args.address ++ codes " ") ++ block_line Lines c.family_of.result
    (Range c.in-Some.field-0.first c.in-Some.field-0.last) c.text_of-text.result.now = grind arith in
    let first : Appends start now (ip_text c.args.address ++ codes " ") =
    c.in_ok-write-in-Some.ensures.bytes in
    subst (λ text. OnOk c.write_line.result (Appends start next text)) (sym is)
    (on_ok_as c.write_line.result _ _
    (appends_then start now next (ip_text c.args.address ++ codes " ") _ first)
    c.write_line.ensures)
