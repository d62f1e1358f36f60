use Rattle.std.proofs.Common.{arith}
use Rattle.std.specs.Option.{option_copied}
use Rattle.range_multimaps.proofs.Altered.{added_to_copy, had_already, not_void, answered_by_copy, had_in_copy}
use Rattle.range_multimaps.proofs.multimap.change.with_value.Goals.{then-not-contains+in_ok-clone+in_ok-insert, else-not-contains}
use Rattle.range_multimaps.proofs.multimap.change.with_value.Goals as goal

pub returns-clause-added : goal.returns-clause-added
returns-clause-added g c = grind (arith, added_to_copy, had_already)

pub returns-clause-kept : goal.returns-clause-kept
returns-clause-kept g c = λ had. grind (arith, answered_by_copy, had_in_copy)

pub returns-clause-nonempty : goal.returns-clause-nonempty
returns-clause-nonempty g c = λ void.
    not_void g.S.SetMut.has g.V.PartialEq.eq g.met.V.Eq.laws
    (option_copied c.args.old) c.if-not-contains.set c.args.value.now (returns-clause-added g c)
    ((g.met.S.SetMut.void_is c.if-not-contains.set).0 void)
