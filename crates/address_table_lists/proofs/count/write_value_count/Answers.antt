use Rattle.std.proofs.Common.{◌≡◌, ◌∷◌, [], ◌++◌, subst, arith}
use Rattle.std.specs.Prelude.{codes}
use Rattle.address_lists.specs.Counted.{IsCounted}
use Rattle.address_table_lists.specs.Parts.{IsSelected}
use Rattle.address_table_lists.proofs.count.write_value_count.Goals as goal

pub returns-in-Ok-write_counts : goal.returns-in-Ok-write_counts
returns-in-Ok-write_counts g c =
    let told = c.in-Ok-write_counts.ensures in
    let before : c.as_str.result.now ≡ c.args.text.now ++ codes " " = grind arith in
    let number : c.in-Ok.value ≡ c.args.number = grind arith in (
      told.0,
      (
        c.in-Ok-select.list,
        subst (λ n. IsSelected c.args.table.now (n ∷ []) c.in-Ok-select.list) number
            c.in-Ok-select.ensures,
        subst (λ text. IsCounted text c.in-Ok-select.list told.0) before told.1,
      ),
      told.2,
    )
