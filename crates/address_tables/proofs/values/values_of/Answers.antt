use Rattle.std.proofs.Common.{map, subst}
use Rattle.std.specs.Option.{option_copied}
use Rattle.btree_range_map.specs.Holding.{box_items}
use Rattle.address_tables.proofs.Gathered.{AreGathered, gathered_all, gathered_first, gathered_next}
use Rattle.address_tables.proofs.values.values_of.Goals as goal

pub loop-value-init : goal.loop-value-init
loop-value-init g c =
    rw c.iter-items.ensures.items
    (gathered_first g.V.PartialEq.eq (map (λ v. v.now) c.in_ok-values.values.items)
    (option_copied c.args.otherwise) (box_items c.args.table.now) c.in_ok-values.ensures)

pub loop-value-preserved : goal.loop-value-preserved
loop-value-preserved g c =
    gathered_next g.V.PartialEq.eq (map (λ v. v.now) c.loop-value.values.items)
    (map (λ v. v.now) c.add.new.values.items) (option_copied c.args.otherwise) _ _
    (box_items c.args.table.now) c.in_ok-add.ensures.kept c.in_ok-add.ensures.here
    (subst (λ left. AreGathered g.V.PartialEq.eq (map (λ v. v.now) c.loop-value.values.items)
    (option_copied c.args.otherwise) left (box_items c.args.table.now)) c.in-Some.ensures.steps
    c.loop-value.invariant)

pub returns : goal.returns
returns g c =
    gathered_all g.V.PartialEq.eq (map (λ v. v.now) c.loop-value.values.items)
    (option_copied c.args.otherwise) (box_items c.args.table.now)
    (subst (λ left. AreGathered g.V.PartialEq.eq (map (λ v. v.now) c.loop-value.values.items)
    (option_copied c.args.otherwise) left (box_items c.args.table.now))
    c.in_default.ensures.steps.0 c.loop-value.invariant)
