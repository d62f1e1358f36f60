use Rattle.std.proofs.Common.{◌≡◌, ◌≤◌, [], get_or, length, sym, subst, take, arith}
use Rattle.std.proofs.lemmas.List.{take_all, take_more}
use Rattle.btree_range_map.specs.Holding.{box_items}
use Rattle.address_table_lists.specs.Tables.{IsMadeLast}
use Rattle.address_table_lists.proofs.Last.{next_last, none_last}
use Rattle.address_table_lists.proofs.table.by_last.Goals as goal

pub loop-binding-init : goal.loop-binding-init
loop-binding-init g c =
    subst (λ items. IsMadeLast g.A.MaybeBounded.order g.A.Address.number items [])
    (sym c.new-table.ensures) (none_last g.met.A.Address.family)

pub loop-binding-preserved : goal.loop-binding-preserved
loop-binding-preserved g c =
    let bindings = c.args.bindings.now in
    let binding = c.binding-item.result in
    let is : get_or c.args.bindings.now c.loop-binding.binding-index c.binding-item.result
    ≡ c.binding-item.result = cc in
    rw (take_more bindings c.loop-binding.binding-index binding c.loop-binding-test.true, is)
    (next_last g.met.A.Address.family (take c.loop-binding.binding-index bindings) binding
    (box_items c.loop-binding.table) (box_items c.bind.new.table)
    c.in_ok-bind.ensures c.loop-binding.invariant)

pub returns : goal.returns
returns g c =
    let past : length c.args.bindings.now ≤ c.loop-binding.binding-index = grind arith in
    subst (λ bs. IsMadeLast g.A.MaybeBounded.order g.A.Address.number
    (box_items c.loop-binding.table) bs)
    (take_all c.loop-binding.binding-index c.args.bindings.now past) c.loop-binding.invariant
