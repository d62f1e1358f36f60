use Rattle.std.proofs.Common.{arith}
use Rattle.address_rows.specs.Lines.{AreRecord}
use Rattle.address_table_lists.proofs.Added.{record_added}
use Rattle.address_table_lists.proofs.read.add_record.Goals as goal

pub returns-in-Some-pair_of : goal.returns-in-Some-pair_of
returns-in-Some-pair_of c =
    let is : AreRecord c.args.text.now c.in-Some-pair_of.addresses.now c.in-Some-pair_of.value.now =
    grind arith in
    record_added c.args.rows.now c.add_parts.new.rows c.add_parts.result c.args.strict
    c.args.text.now c.in-Some-pair_of.addresses.now c.in-Some-pair_of.value.now is
    c.add_parts.ensures
