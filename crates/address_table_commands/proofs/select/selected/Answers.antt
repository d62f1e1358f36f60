use Rattle.std.specs.Prelude.{map}
use Rattle.address_table_commands.specs.declared.source.Source.{Source}
use Rattle.address_table_commands.proofs.Printed.{tables_selected}
use Rattle.address_table_commands.proofs.select.selected.Goals as goal

pub returns-clause-selected : goal.returns-clause-selected
returns-clause-selected g c =
    tables_selected c.args.asked
    (map (λ (s : Source _). g.R.Read.remaining s.reader) c.args.tables.items)
    c.args.left_out.now.items c.read_named.new.left_out.items c.in_ok-named.named.texts
    c.in_ok-named.named.table (map (λ v. v.now) c.args.values.now) c.select_values.result
    c.in_ok-named.ensures.read c.select_values.ensures.selected
