use Rattle.std.proofs.lemmas.Result.{err_from_is_err_and}
use Rattle.std.specs.Prelude.{map}
use Rattle.address_table_commands.specs.declared.source.Source.{Source}
use Rattle.address_table_commands.proofs.Compared.{first_unread, pair_compared, pair_unprinted, second_unread}
use Rattle.address_table_commands.proofs.Printed.{nothing_unread}
use Rattle.address_table_commands.specs.Results.{IsTableOf}
use Rattle.address_table_commands.proofs.compare.print_differences.Goals as goal

pub returns-clause-printed : goal.returns-clause-printed
returns-clause-printed g c =
    pair_compared c.args.asked c.args.extent
    (map (λ (s : Source _). g.R.Read.remaining s.reader) c.args.before.items)
    (map (λ (s : Source _). g.R.Read.remaining s.reader) c.args.after.items)
    c.args.left_out.now.items c.read_named.new.left_out.items
    c.read_named-2.new.left_out.items c.in_ok-first.first.texts c.in_ok-second.second.texts
    c.in_ok-first.first.table c.in_ok-second.second.table (g.W.Write.contents c.args.out.now)
    (g.W.Write.contents c.print_changes.new.out) c.print_changes.result
    c.in_ok-first.ensures.read c.in_ok-second.ensures.read c.print_changes.ensures.printed

pub returns-clause-silent : goal.returns-clause-silent
returns-clause-silent g c = c.print_changes.ensures.silent

pub returns-clause-bad : goal.returns-clause-bad
returns-clause-bad g c =
    pair_unprinted c.args.asked (map (λ (s : Source _). s.name) c.args.before.items)
    (map (λ (s : Source _). s.name) c.args.after.items)
    (map (λ (s : Source _). g.R.Read.remaining s.reader) c.args.before.items)
    (map (λ (s : Source _). g.R.Read.remaining s.reader) c.args.after.items)
    c.print_changes.result c.print_changes.ensures.failed

pub returns-clause-unread : goal.returns-clause-unread
returns-clause-unread g c =
    nothing_unread g.R.LineRead.fails c.print_changes.result c.print_changes.ensures.failed

pub returns-in_err-first-clause-bad : goal.returns-in_err-first-clause-bad
returns-in_err-first-clause-bad g c =
    let error = err_from_is_err_and c.from_residual.result c.from_residual.ensures.1 in
    rw (error.1, error.2)
    (first_unread c.args.asked (map (λ (s : Source _). s.name) c.args.before.items)
    (map (λ (s : Source _). s.name) c.args.after.items)
    (map (λ (s : Source _). g.R.Read.remaining s.reader) c.args.before.items)
    (map (λ (s : Source _). g.R.Read.remaining s.reader) c.args.after.items)
    c.in_err-first.field-0.0 c.in_err-first.ensures.bad)

pub returns-in_err-second-clause-bad : goal.returns-in_err-second-clause-bad
returns-in_err-second-clause-bad g c =
    let error = err_from_is_err_and c.from_residual-in_err-second.result
    c.from_residual-in_err-second.ensures.1 in
    rw (error.1, error.2)
    (second_unread c.args.asked (map (λ (s : Source _). s.name) c.args.before.items)
    (map (λ (s : Source _). s.name) c.args.after.items)
    (map (λ (s : Source _). g.R.Read.remaining s.reader) c.args.before.items)
    (map (λ (s : Source _). g.R.Read.remaining s.reader) c.args.after.items)
    c.in_err-second.field-0.0 c.args.left_out.now.items c.read_named.new.left_out.items
    (λ rows. IsTableOf c.args.asked rows c.in_ok-first.first.texts c.in_ok-first.first.table)
    c.in_ok-first.ensures.read c.in_err-second.ensures.bad)

pub returns-in_err-second-clause-unread : goal.returns-in_err-second-clause-unread
returns-in_err-second-clause-unread g c =
    let error = err_from_is_err_and c.from_residual-in_err-second.result
    c.from_residual-in_err-second.ensures.1 in
    rw (error.1, error.2) c.in_err-second.ensures.unread
