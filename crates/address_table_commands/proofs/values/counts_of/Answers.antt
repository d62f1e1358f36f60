use Rattle.std.proofs.Common.{◌++◌, ap, subst, sym, ◌∙◌}
use Rattle.address_table_lists.specs.Counts.{AreCounted}
use Rattle.address_table_commands.proofs.values.counts_of.Goals as goal

pub returns-in-Ok : goal.returns-in-Ok
returns-in-Ok c =
    let (lines, are, is) = c.in-Ok.ensures in
    subst (AreCounted c.args.named.now.table 0 c.args.named.now.texts)
    (sym (is ∙ ap (λ before. before ++ lines) c.new-text.ensures.items)) are
