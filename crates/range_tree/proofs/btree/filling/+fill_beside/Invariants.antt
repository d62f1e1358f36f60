use Rattle.range_tree.proofs.btree.filling.+fill_beside.Given as goal

abbrev pub decreases-fill_beside : goal.decreases-fill_beside
decreases-fill_beside g l = l.below
