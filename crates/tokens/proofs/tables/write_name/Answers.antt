use Rattle.std.proofs.Common.{get_or, arith}
use Rattle.std.proofs.lemmas.Option.{slice_get-get_or}
use Rattle.tokens.specs.TableTexts.{quoted_byte}
use Rattle.tokens.proofs.TableLines.{flat_all, flat_more}
use Rattle.tokens.proofs.tables.write_name.Goals as goal

pub loop-at-preserved : goal.loop-at-preserved
loop-at-preserved g c =
    let name = c.args.name.now in
    let there = slice_get-get_or name c.loop-at.at 0 (omega arith) in
    flat_more (quoted_byte c.args.language.now) name c.loop-at.at (get_or name c.loop-at.at 0) _ _ _ there
    c.loop-at.invariant (rw c.as_bytes-bytes.ensures.value at c.in_ok-write_byte.ensures)

pub returns : goal.returns
returns g c =
    flat_all (quoted_byte c.args.language.now) c.args.name.now c.loop-at.at _ _ (omega arith)
    c.loop-at.invariant
