use Rattle.std.proofs.Common.{◌≡◌, ◌++◌, OnOk, subst, sym, arith}
use Rattle.std.specs.Io.KnownBytes.{Appends}
use Rattle.line_program.proofs.Listing.{appends_then, on_ok_as}
use Rattle.address_rows.specs.Forms.{block_line}
use Rattle.address_rows.specs.declared.forms.Form.TheVariants.{Lines}
use Rattle.address_rows.specs.declared.write.Block.TheVariants.{Range}
use Rattle.address_table_commands.specs.Differences.{side_line}
use Rattle.address_table_commands.proofs.differences.write_side.Goals as goal

pub returns : goal.returns
returns g c =
    let start = g.W.Write.contents c.args.out.now in
    let now = g.W.Write.contents c.write_all.new.self in
    let next = g.W.Write.contents c.write_line.new.out in
    let is : side_line g.A.FamilyAddress.its_family c.args.sign.now c.args.texts.now c.args.ends
    c.args.value
    ≡ c.args.sign.now ++ block_line Lines c.family.result (Range c.args.ends.0 c.args.ends.1)
    c.as_bytes-2.result.now = grind arith in
    let opened : Appends start now c.args.sign.now = grind arith in
    subst (λ text. OnOk c.write_line.result (Appends start next text)) (sym is)
    (on_ok_as c.write_line.result _ _
    (appends_then start now next c.args.sign.now _ opened)
    c.write_line.ensures)
