use Rattle.std.proofs.Common.{refl, lit<, arith}
use Rattle.address_text.specs.Texts.{address_line}
use Rattle.line_program.proofs.Listing.{on_ok_as}
use Rattle.address_lists.proofs.Series.{all_written, none_written, one_written, within}
use Rattle.address_lists.proofs.ranges.write_each.Goals as goal

pub loop-number-init : goal.loop-number-init
loop-number-init g c = grind (arith, none_written)

pub write_address_line-requires : goal.write_address_line-requires
write_address_line-requires g c = grind (arith, within)

pub loop-number-preserved : goal.loop-number-preserved
loop-number-preserved g c =
    let more = c.loop-number-test.true in
    one_written (address_line c.args.around.before.now c.args.around.after.now c.args.family) 1 (lit< tt) _ _ c.args.last c.loop-number.number 0
    (g.W.Write.contents c.args.out.now) (g.W.Write.contents c.loop-number.out)
    (g.W.Write.contents c.write_address_line.new.out) c.loop-number.invariant refl
    (omega (arith, more)) c.in_ok-write_address_line.ensures

pub write_address_line-requires-2 : goal.write_address_line-requires-2
write_address_line-requires-2 g c = grind (arith, within)

pub returns : goal.returns
returns g c =
    let last = c.loop-number-test.false in
    on_ok_as c.write_address_line-2.result _ _
    (all_written (address_line c.args.around.before.now c.args.around.after.now c.args.family) 1 _ _ c.args.last c.loop-number.number 0
    (g.W.Write.contents c.args.out.now) (g.W.Write.contents c.loop-number.out)
    (g.W.Write.contents c.write_address_line-2.new.out) c.loop-number.invariant refl
    (omega (arith, last))) c.write_address_line-2.ensures
