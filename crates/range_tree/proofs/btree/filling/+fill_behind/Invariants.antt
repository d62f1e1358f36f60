use Rattle.range_tree.proofs.btree.filling.+fill_behind.Given as goal

abbrev pub decreases-fill_behind : goal.decreases-fill_behind
decreases-fill_behind g l = l.most
