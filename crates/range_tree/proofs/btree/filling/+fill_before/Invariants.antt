use Rattle.range_tree.proofs.btree.filling.+fill_before.Given as goal

abbrev pub decreases-fill_before : goal.decreases-fill_before
decreases-fill_before g l = l.edge.index
