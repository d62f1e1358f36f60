use Rattle.std.proofs.Common.{List, ap, subst}
use Rattle.std.proofs.lemmas.Result.{err_from_is_err_and}
use Rattle.std.specs.Prelude.{map}
use Rattle.address_table_commands.specs.declared.source.Source.{Source}
use Rattle.address_table_commands.proofs.Files.{AreUnread}
use Rattle.address_table_commands.proofs.Printed.{tables_made}
use Rattle.address_table_commands.proofs.table.read_named.Goals as goal

pub returns-in_err-rows-clause-bad : goal.returns-in_err-rows-clause-bad
returns-in_err-rows-clause-bad g c =
    let error = err_from_is_err_and c.from_residual.result c.from_residual.ensures.1 in
    rw (error.1, error.2)
    (subst (λ (all : List (Source _)). AreUnread c.args.asked.reading c.args.asked.header.now
    (map (λ (s : Source _). g.R.Read.remaining s.reader) all) (map (λ (s : Source _). s.name) all)
    c.in_err-rows.field-0.0)
    c.into_iter.ensures.rest c.in_err-rows.ensures.bad)

pub returns-clause-read : goal.returns-clause-read
returns-clause-read g c =
    tables_made c.args.asked _ _ c.args.left_out.now.items c.read_tables.new.left_out.items
    c.in_ok-rows.rows c.made.result
    (ap (map (λ (s : Source _). g.R.Read.remaining s.reader)) c.into_iter.ensures.rest)
    c.in_ok-rows.ensures.read c.made.ensures.made
