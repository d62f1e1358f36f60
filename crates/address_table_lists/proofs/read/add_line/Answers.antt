use Rattle.std.proofs.Common.{◌∙◌}
use Rattle.address_table_lists.proofs.Added.{csv_added, decimal_added}
use Rattle.address_table_lists.proofs.read.add_line.Goals as goal

pub returns-in-Lines : goal.returns-in-Lines
returns-in-Lines c =
    rw c.in-Lines.is
    (rw (c.split_word.ensures.word, c.split_word.ensures.rest, c.content_of.ensures)
    at c.add_parts.ensures)

pub returns-in-Ok : goal.returns-in-Ok
returns-in-Ok c =
    rw c.in-Csv.is
    (csv_added c.args.rows.now c.add_fields.new.rows c.add_fields.result c.args.strict
    c.args.line.now c.in-Ok.text.now (rw c.trimmed_of.ensures at c.in-Ok.ensures.cases.1)
    (c.in-Ok.ensures.cases.0 ∙ c.trimmed_of.ensures) c.add_fields.ensures)

pub returns-in-Ok-from_utf8 : goal.returns-in-Ok-from_utf8
returns-in-Ok-from_utf8 c =
    rw c.in-Decimal.is
    (decimal_added c.args.rows.now c.add_decimal.new.rows c.add_decimal.result c.args.strict
    c.args.line.now c.in-Ok-from_utf8.text.now
    (rw c.trimmed_of-in-Decimal.ensures at c.in-Ok-from_utf8.ensures.cases.1)
    (c.in-Ok-from_utf8.ensures.cases.0 ∙ c.trimmed_of-in-Decimal.ensures)
    c.add_decimal.ensures)
