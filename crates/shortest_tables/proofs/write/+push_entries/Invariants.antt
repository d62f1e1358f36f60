use Rattle.shortest_tables.proofs.write.+push_entries.Given as goal

abbrev pub decreases-push_entries : goal.decreases-push_entries
decreases-push_entries l = l.free
