use Rattle.std.proofs.Common.{◌++◌, arith}
use Rattle.std.specs.Prelude.{codes}
use Rattle.std.specs.Io.KnownBytes.{Appends}
use Rattle.address_rows.specs.Forms.{block_text, opening}
use Rattle.address_rows.proofs.Written.{appends_then, ok_then}
use Rattle.address_rows.proofs.write.write_before.Goals as goal

pub returns-in_ok-write_block-in-Lines : goal.returns-in_ok-write_block-in-Lines
returns-in_ok-write_block-in-Lines g c = grind (arith, ok_then)

pub returns-in_ok-write_block-in-Csv : goal.returns-in_ok-write_block-in-Csv
returns-in_ok-write_block-in-Csv g c = grind (arith, ok_then)

pub returns-in_ok-write_block-in-Json : goal.returns-in_ok-write_block-in-Json
returns-in_ok-write_block-in-Json g c =
    let both : Appends (g.W.Write.contents c.args.out.now)
    (g.W.Write.contents c.write_block-in-Json.new.out)
    (opening c.args.block ++ block_text c.args.family c.args.block) =
    grind (arith, appends_then) in
    grind (arith, ok_then)

pub returns-in_ok-write_block-in-Nft : goal.returns-in_ok-write_block-in-Nft
returns-in_ok-write_block-in-Nft g c =
    let a = g.W.Write.contents c.args.out.now in
    let b = g.W.Write.contents c.write_all-in-Nft.new.self in
    let d = g.W.Write.contents c.write_block-in-Nft.new.out in
    let block = block_text c.args.family c.args.block in
    let both : Appends a d (codes "\t" ++ block) =
    appends_then a b d (codes "\t") block c.in_ok-write_all-in-Nft.ensures.bytes
    c.in_ok-write_block-in-Nft.ensures in
    grind (arith, ok_then)
