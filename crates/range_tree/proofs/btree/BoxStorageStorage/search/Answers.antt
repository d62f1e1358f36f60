use Rattle.range_tree.specs.Holding.{box_items}
use Rattle.range_tree.proofs.Front.{falls_partitioned}
use Rattle.range_tree.proofs.Positions.{front_found}
use Rattle.range_tree.proofs.btree.BoxStorageStorage.search.Goals as goal

pub edge_after_passing-requires : goal.edge_after_passing-requires
edge_after_passing-requires g c =
    falls_partitioned (g.P.Probe.test c.args.probe.now) (box_items c.args.self.now) c.requires

pub returns-clause-found : goal.returns-clause-found
returns-clause-found g c =
    front_found c.args.self.now (g.P.Probe.test c.args.probe.now)
    (falls_partitioned (g.P.Probe.test c.args.probe.now) (box_items c.args.self.now) c.requires)
    c.edge_after_passing.result c.edge_after_passing.ensures.found
