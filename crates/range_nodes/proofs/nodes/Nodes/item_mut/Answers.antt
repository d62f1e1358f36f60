use Rattle.std.proofs.Common.{refl}
use Rattle.range_nodes.proofs.Spares.{item_written, items_seen, row_there}
use Rattle.range_nodes.proofs.nodes.Nodes.item_mut.Goals as goal

pub item_mut-requires : goal.item_mut-requires
item_mut-requires g c =
    let present = rw (← c.self.view_is) at c.requires.present in
    record {
      number = row_there c.self.invariant.0 c.args.number present;
      within = rw (← items_seen c.self.invariant.0 c.args.number present)
          (rw (← c.self.view_is) at c.requires.within);
    }

pub returns : goal.returns
returns g c =
    let present = rw (← c.self.view_is) at c.requires.present in (
      (
        refl,
        λ w. rw (← c.self.view_is)
            (item_written c.self.invariant.0 c.args.number c.args.index w present),
      ),
      record {
        writes_back = tt;
        value = rw (← c.self.view_is)
            (rw (items_seen c.self.invariant.0 c.args.number present) c.item_mut.ensures.value);
      },
    )
