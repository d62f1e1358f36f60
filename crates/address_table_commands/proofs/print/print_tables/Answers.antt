use Rattle.std.specs.Prelude.{map}
use Rattle.address_table_commands.specs.declared.source.Source.{Source}
use Rattle.address_table_commands.proofs.Printed.{nothing_unread, tables_printed, unprinted}
use Rattle.address_table_commands.proofs.print.print_tables.Goals as goal

pub returns-clause-printed : goal.returns-clause-printed
returns-clause-printed g c =
    tables_printed c.args.asked c.args.output
    (map (λ (s : Source _). g.R.Read.remaining s.reader) c.args.tables.items)
    c.args.left_out.now.items c.read_named.new.left_out.items c.in_ok-named.named.texts
    c.in_ok-named.named.table (g.W.Write.contents c.args.out.now)
    (g.W.Write.contents c.print.new.out) c.print.result c.in_ok-named.ensures.read
    c.print.ensures.printed

pub returns-clause-silent : goal.returns-clause-silent
returns-clause-silent g c = c.print.ensures.silent

pub returns-clause-bad : goal.returns-clause-bad
returns-clause-bad g c =
    unprinted c.args.asked.reading c.args.asked.header.now
    (map (λ (s : Source _). s.name) c.args.tables.items)
    (map (λ (s : Source _). g.R.Read.remaining s.reader) c.args.tables.items) c.print.result
    c.print.ensures.failed

pub returns-clause-unread : goal.returns-clause-unread
returns-clause-unread g c =
    nothing_unread g.R.LineRead.fails c.print.result c.print.ensures.failed
