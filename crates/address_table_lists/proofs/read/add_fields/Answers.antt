use Rattle.std.proofs.Common.{◌≡◌, arith}
use Rattle.std.specs.List.{after_first, before_first}
use Rattle.address_text.specs.Lines.{HasByte}
use Rattle.address_rows.specs.Lines.{is_comma, is_quote}
use Rattle.address_table_lists.proofs.Added.{plain_added, quoted_added}
use Rattle.address_table_lists.proofs.read.add_fields.Goals as goal

pub returns-then-is_some : goal.returns-then-is_some
returns-then-is_some c =
    let quote : HasByte is_quote c.args.text.now = grind arith in
    quoted_added c.args.rows.now c.add_record.new.rows c.add_record.result c.args.strict
    c.args.text.now quote (rw c.as_bytes.ensures.value at c.add_record.ensures)

pub returns-in-Some : goal.returns-in-Some
returns-in-Some c =
    let text = c.args.text.now in
    let value = c.in-Some.value.now in
    let none : ¬ HasByte is_quote text = grind arith in
    let comma : HasByte is_comma text = grind arith in
    let first : c.in-Some.addresses.now ≡ before_first is_comma text = grind arith in
    let second : value ≡ after_first is_comma text = grind arith in
    let alone : ¬ HasByte is_comma value = grind arith in
    plain_added c.args.rows.now c.add_parts.new.rows c.add_parts.result c.args.strict text
    c.in-Some.addresses.now value none comma first second alone
    (rw (c.as_bytes-in-Some.ensures.value, c.as_bytes-in-Some-2.ensures.value)
    at c.add_parts.ensures)
