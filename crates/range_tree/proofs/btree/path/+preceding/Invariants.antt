use Rattle.range_tree.proofs.btree.path.+preceding.Given as goal

abbrev pub decreases-preceding : goal.decreases-preceding
decreases-preceding g l = l.below
