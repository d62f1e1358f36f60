use Rattle.std.proofs.Common.{◌<◌, ◌≤◌, length, arith}
use Rattle.address_table_lists.proofs.Counts.{counted_all, counted_more, counted_none}
use Rattle.address_table_lists.proofs.count.write_value_counts.Goals as goal

pub loop-number-init : goal.loop-number-init
loop-number-init g c = counted_none _ _ _

pub loop-number-preserved : goal.loop-number-preserved
loop-number-preserved g c =
    let within : c.loop-number.number < length c.args.texts.now = grind arith in
    counted_more c.args.table.now c.args.texts.now c.loop-number.number _ _ _ within
    c.loop-number.invariant (rw c.text.ensures at c.in_ok-write_value_count.ensures)

pub returns : goal.returns
returns g c =
    let past : length c.args.texts.now ≤ c.loop-number.number = grind arith in
    counted_all c.args.table.now c.args.texts.now c.loop-number.number _ _ past
    c.loop-number.invariant
