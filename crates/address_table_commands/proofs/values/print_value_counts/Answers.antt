use Rattle.std.specs.Prelude.{map}
use Rattle.address_table_commands.specs.declared.source.Source.{Source}
use Rattle.address_table_commands.proofs.Printed.{nothing_unread, unprinted, values_counted}
use Rattle.address_table_commands.proofs.values.print_value_counts.Goals as goal

pub returns-clause-printed : goal.returns-clause-printed
returns-clause-printed g c =
    values_counted c.args.asked
    (map (λ (s : Source _). g.R.Read.remaining s.reader) c.args.tables.items)
    c.args.left_out.now.items c.read_named.new.left_out.items c.in_ok-named.named.texts
    c.in_ok-named.named.table (g.W.Write.contents c.args.out.now)
    (g.W.Write.contents c.print_counts.new.out) c.print_counts.result
    c.in_ok-named.ensures.read c.print_counts.ensures.printed

pub returns-clause-silent : goal.returns-clause-silent
returns-clause-silent g c = c.print_counts.ensures.silent

pub returns-clause-bad : goal.returns-clause-bad
returns-clause-bad g c =
    unprinted c.args.asked.reading c.args.asked.header.now
    (map (λ (s : Source _). s.name) c.args.tables.items)
    (map (λ (s : Source _). g.R.Read.remaining s.reader) c.args.tables.items) c.print_counts.result
    c.print_counts.ensures.failed

pub returns-clause-unread : goal.returns-clause-unread
returns-clause-unread g c =
    nothing_unread g.R.LineRead.fails c.print_counts.result c.print_counts.ensures.failed
