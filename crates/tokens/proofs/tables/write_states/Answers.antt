use Rattle.std.proofs.Common.{refl, length, arith}
use Rattle.std.proofs.lemmas.Option.{slice_get_read}
use Rattle.tokens.specs.TableTexts.{state_line}
use Rattle.tokens.proofs.TableLines.{flat_all, flat_more}
use Rattle.tokens.proofs.tables.write_states.Goals as goal

pub loop-at-preserved : goal.loop-at-preserved
loop-at-preserved g c =
    let xs = c.args.table.now.states.items in
    let x = c.index.result.now in
    let there = slice_get_read xs (length xs) c.loop-at.at x refl (omega arith) c.index.ensures in
    flat_more (state_line c.args.language.now) xs c.loop-at.at x _ _ _ there c.loop-at.invariant
    c.in_ok-write_state.ensures

pub returns : goal.returns
returns g c =
    flat_all (state_line c.args.language.now) c.args.table.now.states.items c.loop-at.at _ _ (omega arith)
    c.loop-at.invariant
