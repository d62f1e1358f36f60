use Rattle.std.proofs.Common.{◌++◌, arith}
use Rattle.std.specs.Io.KnownBytes.{Appends}
use Rattle.address_rows.specs.Forms.{text_before, text_behind}
use Rattle.address_rows.proofs.Written.{appends_then, ok_then}
use Rattle.address_rows.proofs.write.write_line.Goals as goal

pub returns : goal.returns
returns g c =
    let a = g.W.Write.contents c.args.out.now in
    let b = g.W.Write.contents c.write_before.new.out in
    let d = g.W.Write.contents c.write_all.new.self in
    let before = text_before c.args.form c.args.family c.args.block in
    let both : Appends a d (before ++ c.args.value.now) =
    appends_then a b d before c.args.value.now c.in_ok-write_before.ensures c.in_ok-write_all.ensures.bytes in
    ok_then c.write_all-2.result a d (g.W.Write.contents c.write_all-2.new.self)
    (before ++ c.args.value.now) (text_behind c.args.form) both
    (rw c.behind.ensures at c.write_all-2.ensures.bytes)
