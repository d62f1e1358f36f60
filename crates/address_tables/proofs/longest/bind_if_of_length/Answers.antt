use Rattle.std.proofs.Common.{◌≡◌, [], true, ◌∙◌, arith}
use Rattle.btree_range_map.specs.Holding.{box_items}
use Rattle.address_tables.proofs.Bound.{next_over, none_over}
use Rattle.address_tables.proofs.longest.bind_if_of_length.Goals as goal

pub returns : goal.returns
returns g c =
    let family = g.met.A.Address.family in
    let same_value = g.V.PartialEq.eq in
    let entry = c.args.entry.now in
    let copy = c.in_ok-clone.field-0 in
    let before = box_items c.args.table.now in
    let equal : c.args.entry.now.prefix.length ≡ c.args.length = omega arith in
    next_over family same_value c.args.length [] entry copy before before
    (box_items c.insert.new.self) equal
    (g.met.V.Eq.laws.symm copy entry.value
    ∙ c.requires.values entry.value copy c.in_ok-clone.ensures.cases)
    c.in_ok-insert.ensures.bound
    (none_over family same_value c.args.length before)
