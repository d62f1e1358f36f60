use Rattle.std.proofs.Common.{drop, map}
use Rattle.address_table_commands.proofs.Numbers.{AreNumberedTo}
use Rattle.address_table_commands.proofs.select.numbers_of.Given as goal

abbrev pub invariant-loop-value : goal.invariant-loop-value
invariant-loop-value l =
    AreNumberedTo (map (λ v. v.now) l.values) (map (λ v. v.now) (drop l.value-index l.values))
    l.fn.texts l.texts l.numbers.items
