use Rattle.range_nodes.proofs.Spares.{items_seen, row_there}
use Rattle.range_nodes.proofs.nodes.Nodes.item_at.Goals as goal

pub item_at-requires : goal.item_at-requires
item_at-requires g c =
    let present = rw (← c.self.view_is) at c.requires.present in
    record {
      number = row_there c.self.invariant.0 c.args.number present;
      within = rw (← items_seen c.self.invariant.0 c.args.number present)
          (rw (← c.self.view_is) at c.requires.within);
    }

pub returns : goal.returns
returns g c =
    let present = rw (← c.self.view_is) at c.requires.present in
    rw (← c.self.view_is)
    (rw (items_seen c.self.invariant.0 c.args.number present) c.item_at.ensures)
