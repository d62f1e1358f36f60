use Rattle.std.proofs.lemmas.Result.{err_from_is_err_and}
use Rattle.std.specs.Prelude.{map}
use Rattle.address_table_commands.specs.Results.{IsTableOf}
use Rattle.address_table_commands.specs.declared.source.Source.{Source}
use Rattle.address_table_commands.proofs.Printed.{list_unread, memory_unread, nothing_unread, part_printed, part_unprinted, tables_unread}
use Rattle.address_table_commands.proofs.print.print_part.Goals as goal

pub returns-clause-printed : goal.returns-clause-printed
returns-clause-printed g c =
    part_printed c.args.asked c.args.output c.args.keeping
    (map (λ (s : Source _). g.R.Read.remaining s.reader) c.args.tables.items)
    (g.R.Read.remaining c.args.list.reader) c.args.left_out.now.items
    c.read_named.new.left_out.items c.read_list.new.left_out.items c.in_ok-named.named.texts
    c.in_ok-named.named.table c.keep.new.table c.in_ok-kept.kept
    (g.W.Write.contents c.args.out.now) (g.W.Write.contents c.print.new.out) c.print.result
    c.in_ok-named.ensures.read c.in_ok-kept.ensures.read c.in_ok-keep.ensures.kept
    c.print.ensures.printed

pub returns-clause-silent : goal.returns-clause-silent
returns-clause-silent g c = c.print.ensures.silent

pub returns-clause-bad : goal.returns-clause-bad
returns-clause-bad g c =
    part_unprinted c.args.asked.reading c.args.asked.header.now
    (map (λ (s : Source _). s.name) c.args.tables.items) c.args.list.name
    (map (λ (s : Source _). g.R.Read.remaining s.reader) c.args.tables.items)
    (g.R.Read.remaining c.args.list.reader) c.print.result c.print.ensures.failed

pub returns-clause-unread : goal.returns-clause-unread
returns-clause-unread g c =
    nothing_unread g.R.LineRead.fails c.print.result c.print.ensures.failed

pub returns-in_err-named-clause-bad : goal.returns-in_err-named-clause-bad
returns-in_err-named-clause-bad g c =
    let error = err_from_is_err_and c.from_residual.result c.from_residual.ensures.1 in
    rw (error.1, error.2)
    (tables_unread c.args.asked.reading c.args.asked.header.now
    (map (λ (s : Source _). s.name) c.args.tables.items) c.args.list.name
    (map (λ (s : Source _). g.R.Read.remaining s.reader) c.args.tables.items)
    (g.R.Read.remaining c.args.list.reader) c.in_err-named.field-0.0 c.in_err-named.ensures.bad)

pub returns-in_err-kept-clause-bad : goal.returns-in_err-kept-clause-bad
returns-in_err-kept-clause-bad g c =
    let error = err_from_is_err_and c.from_residual-in_err-kept.result
    c.from_residual-in_err-kept.ensures.1 in
    rw (error.1, error.2)
    (list_unread c.args.asked.reading c.args.asked.header.now
    (map (λ (s : Source _). s.name) c.args.tables.items) c.args.list.name
    (map (λ (s : Source _). g.R.Read.remaining s.reader) c.args.tables.items)
    (g.R.Read.remaining c.args.list.reader) c.in_err-kept.field-0.0 c.args.left_out.now.items
    c.read_named.new.left_out.items
    (λ rows. IsTableOf c.args.asked rows c.in_ok-named.named.texts c.in_ok-named.named.table)
    c.in_ok-named.ensures.read c.in_err-kept.ensures.bad)

pub returns-in_err-keep-clause-bad : goal.returns-in_err-keep-clause-bad
returns-in_err-keep-clause-bad g c =
    let error = err_from_is_err_and c.from_residual-in_err-keep.result
    c.from_residual-in_err-keep.ensures.1 in
    rw (error.1, error.2)
    (memory_unread c.args.asked.reading c.args.asked.header.now
    (map (λ (s : Source _). s.name) c.args.tables.items) c.args.list.name
    (map (λ (s : Source _). g.R.Read.remaining s.reader) c.args.tables.items)
    (g.R.Read.remaining c.args.list.reader) c.in_err-keep.field-0.0 c.in_err-keep.ensures.memory)

pub returns-in_err-kept-clause-unread : goal.returns-in_err-kept-clause-unread
returns-in_err-kept-clause-unread g c =
    let error = err_from_is_err_and c.from_residual-in_err-kept.result
    c.from_residual-in_err-kept.ensures.1 in
    rw (error.1, error.2) c.in_err-kept.ensures.unread

pub returns-in_err-keep-clause-unread : goal.returns-in_err-keep-clause-unread
returns-in_err-keep-clause-unread g c =
    let error = err_from_is_err_and c.from_residual-in_err-keep.result
    c.from_residual-in_err-keep.ensures.1 in
    rw (error.1, error.2, c.in_err-keep.ensures.memory) (λ no. absurd no)
