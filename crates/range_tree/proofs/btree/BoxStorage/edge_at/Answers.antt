use Rattle.range_tree.proofs.btree.BoxStorage.edge_at.Goals as goal

pub edge_before-requires : goal.edge_before-requires
edge_before-requires g c = (c.requires c.in-Some.edge c.in-Some.is).is
